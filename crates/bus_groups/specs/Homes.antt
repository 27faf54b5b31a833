-- Which roots and which callers belong together: each has a home, the least root of its group.
use Rattle.std.specs.Prelude.{◌≡◌, ℕ, ◌==◌, ◌<◌, ◌≤◌, nat_lt, Bool, true, ◌&&◌, List, length, map, get_or, fold, Some, slice_get, if◌then◌else◌}
use Rattle.std.specs.List.{range_with_len, list_any}
use Rattle.std.specs.Int.{bit_at}
use Rattle.i2c_base.specs.declared.entry.Entry.{Entry}
use Rattle.bus_spec.specs.Readings.{caller_of}

-- a caller whose roots are these bits names this root
abbrev pub names : ℕ → ℕ → Bool
names mask root = bit_at mask root == 1

-- it names a root of this home
abbrev pub names_home : List ℕ → ℕ → ℕ → Bool
names_home homes mask home = list_any (λ root. names mask root && (get_or homes root 0 == home)) (range_with_len 0 (length homes))

-- the least home of the roots that it names; the number of all roots where it names none
abbrev pub lower : List ℕ → ℕ → ℕ → ℕ → ℕ
lower homes mask low root = if names mask root && nat_lt (get_or homes root 0) low then get_or homes root 0 else low

abbrev pub least_home : List ℕ → ℕ → ℕ
least_home homes mask = fold (lower homes mask) (length homes) (range_with_len 0 (length homes))

-- all homes that it names come under the least of them
abbrev pub brought : List ℕ → ℕ → List ℕ
brought homes mask = map (λ home. if names_home homes mask home then least_home homes mask else home) homes

-- each root is its own home at first; then each caller brings its homes together
abbrev pub homes_of : ℕ → List ℕ → List ℕ
homes_of roots masks = fold brought (range_with_len 0 roots) masks

-- a caller is at the home of its roots; who names none is at root 0's, which is 0
abbrev pub caller_home : List ℕ → ℕ → ℕ
caller_home homes mask = if nat_lt (least_home homes mask) (length homes) then least_home homes mask else 0

-- the home of the caller with this number
abbrev pub caller_home_at : (homes masks : List ℕ) → ℕ → ℕ
caller_home_at homes masks n = caller_home homes (get_or masks n 0)

-- the groups come one after the other, each as a whole, by their homes: no entry stands behind one of a caller whose home is
-- greater
abbrev pub AreByHomes : (ℕ → ℕ) → List Entry → Type 0
AreByHomes home entries = (i j : ℕ) (e f : Entry) → i ≤ j → slice_get entries i ≡ Some e → slice_get entries j ≡ Some f
    → home (caller_of e) ≤ home (caller_of f)

-- the roots that a caller names have one mark
abbrev pub IsOneMark : (ℕ → ℕ) → ℕ → ℕ → Type 0
IsOneMark mark roots mask = (r s : ℕ) → r < roots → s < roots → names mask r ≡ true → names mask s ≡ true → mark r ≡ mark s

-- homes part the roots: each root's home is the least root of its group; roots that a caller names have one home, which is
-- the caller's; and whatever else joins each caller's roots joins all roots of one home, so that no parting is finer
pub record AreHomes (roots : ℕ) (masks homes : List ℕ) : Type 0 where
  pub count : length homes ≡ roots
  pub least : (r : ℕ) → r < roots → get_or homes r 0 ≤ r
  pub own : (r : ℕ) → r < roots → get_or homes (get_or homes r 0) 0 ≡ get_or homes r 0
  pub one : (i mask : ℕ) → slice_get masks i ≡ Some mask → IsOneMark (λ r. get_or homes r 0) roots mask
  pub finest : (mark : ℕ → ℕ) → ((i mask : ℕ) → slice_get masks i ≡ Some mask → IsOneMark mark roots mask) → (r : ℕ) → r < roots
      → mark (get_or homes r 0) ≡ mark r
  pub callers : (mask r : ℕ) → r < roots → names mask r ≡ true → IsOneMark (λ r. get_or homes r 0) roots mask
      → caller_home homes mask ≡ get_or homes r 0
