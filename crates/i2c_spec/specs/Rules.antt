-- Which boards are accepted: the five topology rules (after the warnings of Linux i2c-topology), each a sentence
-- over pairs of items or over single items. Items are the muxes in file order, then the devices.
use Rattle.std.specs.Prelude.{◌≡◌, ℕ, zero, suc, ◌+◌, ◌-◌, ◌<◌, ◌≤◌, ◌==◌, nat_lt, nat_le, Bool, true, false, not, ◌&&◌, ◌||◌, List, [], length, reverse, slice_get, Option, Some, None, if◌then◌else◌}
use Rattle.std.specs.List.{filter}
use Rattle.std.specs.Option.{option_map}
use Rattle.i2c_base.specs.declared.board.MuxKind.{MuxKind}
use Rattle.i2c_base.specs.declared.rules.Item.{Item}
use Rattle.i2c_base.specs.declared.rules.Item.TheVariants as item
use Rattle.i2c_base.specs.declared.rules.RuleBroken.{RuleBroken}
use Rattle.i2c_base.specs.Board.{BoardView}
use Rattle.i2c_base.specs.Limits.{MOST_DEPTH}
use Rattle.i2c_base.specs.Muxes.{facts_of}
use Rattle.i2c_spec.specs.Tree.{Hop, hops, root_of, crosses_mux, depth, is_parent, is_along, is_left_open, of_mux, of_device}

abbrev pub items : BoardView → ℕ
items b = length b.muxes + length b.devices

-- item k: its name, the bus that it stands on, its address
abbrev pub item_at : BoardView → ℕ → Item
item_at b k = if nat_lt k (length b.muxes) then item.Mux k else item.Device (k - length b.muxes)

abbrev pub home_at : BoardView → ℕ → ℕ
home_at b k = if nat_lt k (length b.muxes) then of_mux (λ m. m.bus) 0 b k else of_device (λ d. d.bus) 0 b (k - length b.muxes)

abbrev pub addr_at : BoardView → ℕ → Option ℕ
addr_at b k = if nat_lt k (length b.muxes) then of_mux (λ m. m.addr) None b k else of_device (λ d. Some d.addr) None b (k - length b.muxes)

abbrev pub is_same_address : Option ℕ → Option ℕ → Bool
is_same_address (Some x) (Some y) = x == y
is_same_address None y = false
is_same_address (Some x) None = false

-- Rule 1, no address stands twice on one bus, nor on a bus and on one above it: two items that would
abbrev pub clashes : BoardView → ℕ → ℕ → Bool
clashes b i j = is_same_address (addr_at b i) (addr_at b j) && is_along b (home_at b i) (home_at b j)

-- Rule 2, no bus has too many muxes over it: a mux whose channels have
abbrev pub is_too_deep : BoardView → ℕ → Bool
is_too_deep b m = nat_le MOST_DEPTH (depth b (of_mux (λ x. x.bus) 0 b m))

-- Rule 3, no parent-locked mux stands below a mux-locked one: the mux-locked ones over mux m, where it is parent-locked
abbrev pub locked_over : BoardView → ℕ → List Hop
locked_over b m = if of_mux (λ x. is_parent x.lock) false b m then filter (λ h. not h.parent) (hops b (of_mux (λ x. x.bus) 0 b m)) else []

abbrev pub is_locked_under : BoardView → ℕ → Bool
is_locked_under b m = nat_lt 0 (length (locked_over b m))

-- Rule 4, gpio muxes and arbitrators are parent-locked: a mux that isn't
abbrev pub wants_parent : MuxKind → Bool
wants_parent k = (facts_of k).wants_parent

abbrev pub is_wrongly_locked : BoardView → ℕ → Bool
is_wrongly_locked b m = of_mux (λ x. wants_parent x.kind && not (is_parent x.lock)) false b m

-- Rule 5, a mux that stays as it is is a switch, and no address below it stands outside it on the same root. One of the
-- first n passes
abbrev pub some_below : (ℕ → Bool) → ℕ → Bool
some_below test zero = false
some_below test (suc n) = some_below test n || test n

-- item i is below mux m; item j of the same root isn't, and has its address
abbrev pub is_shared : BoardView → ℕ → ℕ → ℕ → Bool
is_shared b m i j =
    is_same_address (addr_at b i) (addr_at b j)
    && ((root_of b (home_at b i) == root_of b (home_at b j)) &&
    (crosses_mux m (hops b (home_at b i)) && not (crosses_mux m (hops b (home_at b j)))))

abbrev pub stands_outside : BoardView → ℕ → ℕ → Bool
stands_outside b m i = some_below (is_shared b m i) (items b)

abbrev pub may_stay : BoardView → ℕ → Bool
may_stay b m = of_mux (λ x. (facts_of x.kind).may_stay) true b m

-- a mux that stays as it is, though its kind may not, or though an address below it stands outside
abbrev pub breaks_idle : BoardView → ℕ → Bool
breaks_idle b m = is_left_open b m && (not (may_stay b m) || some_below (stands_outside b m) (items b))

-- no two items, no mux
abbrev pub NoPair : (ℕ → ℕ → Bool) → ℕ → Type 0
NoPair test n = (i j : ℕ) → i < j → j < n → test i j ≡ false

abbrev pub NoneOf : (ℕ → Bool) → ℕ → Type 0
NoneOf test n = (i : ℕ) → i < n → test i ≡ false

-- the board is accepted
pub record MeetsRules (b : BoardView) : Type 0 where
  pub addresses : NoPair (clashes b) (items b)
  pub depths : NoneOf (is_too_deep b) (length b.muxes)
  pub locks : NoneOf (is_locked_under b) (length b.muxes)
  pub parents : NoneOf (is_wrongly_locked b) (length b.muxes)
  pub idles : NoneOf (breaks_idle b) (length b.muxes)

-- the first pair at fault has the least first item, then the least second; a single item is the least
pub record IsFirstPair (test : ℕ → ℕ → Bool) (n i j : ℕ) : Type 0 where
  pub order : i < j
  pub within : j < n
  pub broken : test i j ≡ true
  pub least : (k l : ℕ) → k < i → k < l → l < n → test k l ≡ false
  pub then_least : (l : ℕ) → i < l → l < j → test i l ≡ false

pub record IsFirstOne (test : ℕ → Bool) (n i : ℕ) : Type 0 where
  pub within : i < n
  pub broken : test i ≡ true
  pub least : (k : ℕ) → k < i → test k ≡ false

-- the mux that is nearest the root
abbrev pub last_mux : List Hop → Option ℕ
last_mux hs = option_map (λ h. h.mux) (slice_get (reverse hs) 0)

-- what rule 5 names beside mux i: the mux again where its kind may not stay, else the first item below it whose address
-- stands outside
pub record SecondOf (b : BoardView) (i j : ℕ) : Type 0 where
  pub again : may_stay b i ≡ false → j ≡ i
  pub shared : may_stay b i ≡ true → IsFirstOne (stands_outside b i) (items b) j

-- this rule is the first that the board breaks, and these are its items: of rule 1 the two that clash, of rule 3
-- the mux-locked mux nearest the root and the parent-locked one, of rule 5 the mux and what it names, of the others the
-- mux, twice
pub record IsFirstBroken (b : BoardView) (rule i j : ℕ) : Type 0 where
  pub known : (1 ≤ rule) × (rule ≤ 5)
  pub first : rule ≡ 1 → IsFirstPair (clashes b) (items b) i j
  pub second : rule ≡ 2 → IsFirstOne (is_too_deep b) (length b.muxes) j × (i ≡ j)
  pub third : rule ≡ 3 → IsFirstOne (is_locked_under b) (length b.muxes) j × (last_mux (locked_over b j) ≡ Some i)
  pub fourth : rule ≡ 4 → IsFirstOne (is_wrongly_locked b) (length b.muxes) j × (i ≡ j)
  pub fifth : rule ≡ 5 → IsFirstOne (breaks_idle b) (length b.muxes) i × SecondOf b i j
  -- the rules before it hold
  pub addresses_hold : 1 < rule → NoPair (clashes b) (items b)
  pub depths_hold : 2 < rule → NoneOf (is_too_deep b) (length b.muxes)
  pub locks_hold : 3 < rule → NoneOf (is_locked_under b) (length b.muxes)
  pub parents_hold : 4 < rule → NoneOf (is_wrongly_locked b) (length b.muxes)

-- the refusal tells it
abbrev pub TellsBroken : BoardView → RuleBroken → Type 0
TellsBroken b r = (i j : ℕ) × (r.first ≡ item_at b i) × (r.second ≡ item_at b j) × IsFirstBroken b r.rule i j
