-- The generated boards: their parts one by one, and what is computed of all eight of them.
use Rattle.std.proofs.Common.{◌≡◌, ℕ, suc, ◌+◌, ◌*◌, ◌-◌, ◌/◌, ◌%◌, ◌<◌, ◌≤◌, nat_lt, Bool, true, false, not, ◌||◌, List, [], ◌∷◌, ◌++◌}
use Rattle.std.proofs.Common.{length, map, reverse, refl, sym, ◌∙◌, ap, subst, arith, rules}
use Rattle.std.specs.List.{All, range_with_len, flat_map, list_any}
use Rattle.std.proofs.lemmas.Bool.{false≢true, or_parts}
use Rattle.std.proofs.lemmas.Bool.Decides.{nat_tests}
use Rattle.std.proofs.lemmas.Grind.{flat_map-append}
use Rattle.std.proofs.lemmas.List.Elements.{All-nil, All-cons, All-append, All-from_recursion, All-map}
use Rattle.std.proofs.lemmas.List.FromFn.{length-map-range_with_len, map-range_with_len_more}
use Rattle.i2c_base.specs.declared.board.MuxSpec.{MuxSpec}
use Rattle.i2c_base.specs.Board.{BoardView}
use Rattle.i2c_base.specs.Limits.{MOST_ROOTS, MOST_DEVICES}
use Rattle.i2c_spec.specs.Plain.{IsPlainMux, IsPlainDevice, IsPlanted, IsPlainBoard}
use Rattle.i2c_spec.specs.Rules.{some_below, NoPair, NoneOf, MeetsRules, items, clashes, is_too_deep, is_locked_under, is_wrongly_locked}
use Rattle.i2c_spec.specs.Rules.{breaks_idle}
use Rattle.i2c_spec.specs.Tree.{buses, buses_of}
use Rattle.i2c_spec.proofs.IdleLemmas.{one_below}
use Rattle.i2c_gen.specs.Boards.{bus_of, switch_of, devices_on, devices_of, made_board}
use Rattle.i2c_base.proofs.ListLemmas.{range_more}

-- ---- one part more

pub roots_more : (n : ℕ) → (made_board (n + 1)).roots ≡ (made_board n).roots ++ (record { smbus_only = false }) ∷ []
roots_more n = map-range_with_len_more (λ r. record { smbus_only = false }) 0 n n (omega arith)

pub switches_more : (n : ℕ) → map switch_of (range_with_len 0 (n + 1)) ≡ map switch_of (range_with_len 0 n) ++ switch_of n ∷ []
switches_more n = map-range_with_len_more switch_of 0 n n (omega arith)

pub devices_more : (roots n : ℕ) → flat_map (devices_of roots) (range_with_len 0 (n + 1))
    ≡ flat_map (devices_of roots) (range_with_len 0 n) ++ devices_on (roots + n) (n % 8)
devices_more roots n =
    let next : suc n ≡ n + 1 = omega arith in
    let zero_on : 0 + n ≡ n = omega arith in
    let bus : bus_of roots (n / 8) (n % 8) ≡ roots + n = omega arith in
    let range : range_with_len 0 (n + 1) ≡ range_with_len 0 n ++ n ∷ [] =
    ap (range_with_len 0) (sym next) ∙ range_more 0 n ∙ ap (λ (x : ℕ). range_with_len 0 n ++ x ∷ []) zero_on in
    ap (flat_map (devices_of roots)) range ∙ flat_map-append (devices_of roots) (range_with_len 0 n) (n ∷ [])
    ∙ ap (λ (b : ℕ). flat_map (devices_of roots) (range_with_len 0 n) ++ devices_on b (n % 8)) bus

-- ---- how many there are of each

roots_count : (n : ℕ) → length (made_board n).roots ≡ n
roots_count n = length-map-range_with_len (λ r. record { smbus_only = false }) 0 n

muxes_count : (n : ℕ) → length (made_board n).muxes ≡ n
muxes_count n = length-map-range_with_len switch_of 0 n

-- ---- all eight boards

-- where none of the first n passes, i doesn't
pub not_below : (test : ℕ → Bool) (n i : ℕ) → i < n → some_below test n ≡ false → test i ≡ false
not_below test n i low none = by_case (test i) (λ passes. one_below test n i low passes)
  where
    by_case : (b : Bool) → (b ≡ true → some_below test n ≡ true) → b ≡ false
    by_case false f = refl
    by_case true f = absurd (false≢true (sym none ∙ f refl))

-- what none of the eight boards is computed to pass
pub of_eight : (test : ℕ → Bool) → some_below (λ k. test (k + 1)) 8 ≡ false → (n : ℕ) → 1 ≤ n → n ≤ 8 → test n ≡ false
of_eight test none n some most =
    let e : n - 1 + 1 ≡ n = omega arith in
    subst (λ (k : ℕ). test k ≡ false) e (not_below (λ k. test (k + 1)) 8 (n - 1) (omega arith) none)

-- some pair passes
abbrev pub some_pair : (ℕ → ℕ → Bool) → ℕ → Bool
some_pair test n = some_below (λ j. some_below (λ i. test i j) j) n

no_pair : (test : ℕ → ℕ → Bool) (n : ℕ) → some_pair test n ≡ false → NoPair test n
no_pair test n none i j low within =
    not_below (λ i. test i j) j i low (not_below (λ j. some_below (λ i. test i j) j) n j within none)

none_of : (test : ℕ → Bool) (n : ℕ) → some_below test n ≡ false → NoneOf test n
none_of test n none i low = not_below test n i low none

-- none of the switches passes on any of the boards
no_switch : (test : BoardView → ℕ → Bool)
    → some_below (λ k. some_below (test (made_board (k + 1))) (length (made_board (k + 1)).muxes)) 8 ≡ false
    → (n : ℕ) → 1 ≤ n → n ≤ 8 → NoneOf (test (made_board n)) (length (made_board n).muxes)
no_switch test none n some most =
    none_of (test (made_board n)) (length (made_board n).muxes)
    (of_eight (λ k. some_below (test (made_board k)) (length (made_board k).muxes)) none n some most)

pub meets_rules : (n : ℕ) → 1 ≤ n → n ≤ MOST_ROOTS → MeetsRules (made_board n)
meets_rules n some most =
    let b = made_board n in
    record {
      addresses =
          no_pair (clashes b) (items b) (of_eight (λ k. some_pair (clashes (made_board k)) (items (made_board k))) refl n some most);
      depths = no_switch is_too_deep refl n some most;
      locks = no_switch is_locked_under refl n some most;
      parents = no_switch is_wrongly_locked refl n some most;
      idles = no_switch breaks_idle refl n some most;
    }

-- ---- its parts fit each other

plain_switch : (root : ℕ) → IsPlainMux (switch_of root)
plain_switch root = record {
  channels = refl;
  chip = search rules;
  address = (omega arith, omega arith);
  foreign = refl;
}

plain_on : (bus channel : ℕ) → channel < 8 → All IsPlainDevice (devices_on bus channel)
plain_on bus channel low =
    All-from_recursion IsPlainDevice (devices_on bus channel) (
      (record {
        address = (omega arith, omega arith);
        kind = ((omega arith, omega (arith, low)), ((omega arith, omega arith), tt));
        runs = All-nil _;
      }),
      (
        (record {
          address = (omega arith, omega arith);
          kind = ((omega arith, omega arith), tt);
          runs = All-nil _;
        }),
        tt,
      ),
    )

all_flat : {X : Type 0} (P : X → Type 0) (f : ℕ → List X) → ((k : ℕ) → All P (f k)) → (ks : List ℕ) → All P (flat_map f ks)
all_flat P f each [] = All-nil P
all_flat P f each (k ∷ ks) = All-append P (f k) (flat_map f ks) (each k) (all_flat P f each ks)

pub below_by : (a b : ℕ) → not (nat_lt a b) ≡ false → a < b
below_by a b h = grind (arith, nat_tests)

pub within_by : (a b : ℕ) → nat_lt a b ≡ false → b ≤ a
within_by a b h = grind (arith, nat_tests)

all_but : {X : Type 0} (test : X → Bool) (P : X → Type 0) → ((x : X) → test x ≡ false → P x)
    → (xs : List X) → list_any test xs ≡ false → All P xs
all_but test P each [] none = All-nil P
all_but test P each (x ∷ xs) none =
    let parts = or_parts (test x) (list_any test xs) none in
    All-cons P x xs (each x parts.0) (all_but test P each xs parts.1)

-- some mux stands on a bus that doesn't come before its own channels
abbrev pub is_unplanted : ℕ → List MuxSpec → Bool
is_unplanted roots [] = false
is_unplanted roots (m ∷ before) = not (nat_lt m.bus (buses_of roots before)) || is_unplanted roots before

planted : (roots : ℕ) (ms : List MuxSpec) → is_unplanted roots ms ≡ false → IsPlanted roots ms
planted roots [] none = tt
planted roots (m ∷ before) none =
    let parts = or_parts (not (nat_lt m.bus (buses_of roots before))) (is_unplanted roots before) none in
    (below_by m.bus (buses_of roots before) parts.0, planted roots before parts.1)

all_placed : (n : ℕ) → 1 ≤ n → n ≤ 8 → All (λ d. d.bus < buses (made_board n)) (made_board n).devices
all_placed n some most =
    let b = made_board n in
    all_but (λ d. not (nat_lt d.bus (buses b))) (λ d. d.bus < buses b) (λ d h. below_by d.bus (buses b) h) b.devices
    (of_eight (λ k. list_any (λ d. not (nat_lt d.bus (buses (made_board k)))) (made_board k).devices) refl n some most)

all_planted : (n : ℕ) → 1 ≤ n → n ≤ 8 → IsPlanted (length (made_board n).roots) (reverse (made_board n).muxes)
all_planted n some most =
    let b = made_board n in
    planted (length b.roots) (reverse b.muxes)
    (of_eight (λ k. is_unplanted (length (made_board k).roots) (reverse (made_board k).muxes)) refl n some most)

few_devices : (n : ℕ) → 1 ≤ n → n ≤ 8 → length (made_board n).devices ≤ MOST_DEVICES
few_devices n some most =
    within_by MOST_DEVICES (length (made_board n).devices)
    (of_eight (λ k. nat_lt MOST_DEVICES (length (made_board k).devices)) refl n some most)

plain_devices : (n : ℕ) → All IsPlainDevice (made_board n).devices
plain_devices n =
    all_flat IsPlainDevice (devices_of n) (λ k. plain_on (bus_of n (k / 8) (k % 8)) (k % 8) (omega arith)) (range_with_len 0 (8 * n))

pub plain_board : (n : ℕ) → 1 ≤ n → n ≤ MOST_ROOTS → IsPlainBoard (made_board n)
plain_board n some most = record {
  version = search rules;
  some_root = omega (arith, roots_count n);
  most_roots = omega (arith, roots_count n);
  most_muxes = omega (arith, muxes_count n);
  most_devices = few_devices n some most;
  muxes = All-map IsPlainMux switch_of (range_with_len 0 n) (λ k d low. plain_switch _);
  devices = plain_devices n;
  planted = all_planted n some most;
  placed = all_placed n some most;
}
