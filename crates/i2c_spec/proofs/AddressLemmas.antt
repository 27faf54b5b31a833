-- An address stands on no two targets of which one's bus lies on the other's path: the rule over pairs of items
-- says so of numbers, and each target is one of the items. The one induction goes over the hops of a bus.
use Rattle.std.proofs.Common.{◌≡◌, ℕ, zero, suc, ◌+◌, ◌-◌, ◌<◌, inl, inr, ◌==◌, nat_lt, Bool, true, false, not, ◌&&◌, ◌||◌, List, [], ◌∷◌}
use Rattle.std.proofs.Common.{length, Option, Some, None, option_map, slice_get, refl, sym, ap, ◌∙◌, arith, rules}
use Rattle.std.specs.List.{list_any}
use Rattle.std.specs.Option.{unwrap_or}
use Rattle.std.proofs.lemmas.Bool.{cases_order, eq-eqb, false≢true}
use Rattle.std.proofs.lemmas.Bool.Decides.{nat_tests}
use Rattle.i2c_base.specs.declared.ids.Node.{Node}
use Rattle.i2c_base.specs.declared.ids.Node.TheVariants.{Device, Chip}
use Rattle.i2c_base.specs.declared.board.MuxSpec.{MuxSpec}
use Rattle.i2c_base.specs.declared.board.MuxKind.TheVariants.{Pca9548}
use Rattle.i2c_base.specs.Muxes.{facts_of}
use Rattle.i2c_base.specs.Board.{BoardView}
use Rattle.i2c_spec.specs.Tree.{Hop, hops, root_of, crosses_mux, of_mux, is_below, is_on_path, is_along, is_left_open, is_staying, Crosses}
use Rattle.i2c_spec.specs.Tree.{IsOver, IsAlong}
use Rattle.i2c_spec.specs.Rules.{items, home_at, addr_at, clashes, some_below, is_shared, stands_outside, may_stay, breaks_idle, NoPair}
use Rattle.i2c_spec.specs.Rules.{NoneOf, MeetsRules}
use Rattle.i2c_spec.specs.TreeFacts.{home_of, addr_of, IsTree}
use Rattle.i2c_spec.specs.Plain.{IsPlainBoard}
use Rattle.i2c_spec.proofs.IdleLemmas.{one_below, asking_broken}
use Rattle.i2c_spec.proofs.TreeLemmas.{tree_leads, tree_tail, tree_apart, tree_hop, tree_within, tree_channel, tree_root_over, tree_root_is}
use Rattle.i2c_spec.proofs.TreeLemmas.{tree_root_same, tree_root_hops}
use Rattle.std.proofs.Math.Bool.{or-true}

-- what is said of buses, as the tests of the rules have it
is_crossed : (u : ℕ) (hs : List Hop) → Crosses u hs → list_any (λ h. h.on == u) hs ≡ true
is_crossed u [] c = absurd c
is_crossed u (h ∷ hs) c =
    elim c [
      | inl here ↦ ap (λ t. t || list_any (λ (g : Hop). g.on == u) hs) (eq-eqb h.on u here)
      | inr behind ↦ rw (is_crossed u hs behind) (or-true (h.on == u))
    ]

is_on_path_over : (b : BoardView) (u t : ℕ) → IsOver b u t → is_on_path b t u ≡ true
is_on_path_over b u t over =
    elim over [
      | inl here ↦ ap (λ x. x || is_below b t u) (eq-eqb u t here)
      | inr crossed ↦ rw (is_crossed u (hops b t) crossed) (or-true (u == t))
    ]

is_along_both : (b : BoardView) (s t : ℕ) → IsAlong b s t → (is_along b s t ≡ true) × (is_along b t s ≡ true)
is_along_both b s t along =
    elim along [
      | inl over ↦
          let e = is_on_path_over b s t over in
          (rw e (or-true (is_on_path b s t)), rw e refl)
      | inr over ↦
          let e = is_on_path_over b t s over in
          (rw e refl, rw e (or-true (is_on_path b t s)))
    ]

-- the place of a target among the items
place_of : BoardView → Node → ℕ
place_of b (Chip m) = m
place_of b (Device d) = length b.muxes + d

record IsItem (b : BoardView) (x : Node) (a : ℕ) : Type 0 where
  pub within : place_of b x < items b
  pub addr : addr_at b (place_of b x) ≡ Some a
  pub home : home_at b (place_of b x) ≡ home_of b x

some_within : {X : Type 0} (f : X → Option ℕ) (xs : List X) (k a : ℕ) → unwrap_or (option_map f (slice_get xs k)) None ≡ Some a
    → k < length xs
some_within f [] k a e = cc
some_within f (x ∷ xs) zero a e = omega arith
some_within f (x ∷ xs) (suc k) a e = omega (arith, some_within f xs k a e)

is_item : (b : BoardView) (x : Node) (a : ℕ) → addr_of b x ≡ Some a → IsItem b x a
unfolding place_of
is_item b (Chip m) a e =
    let within = some_within (λ x. x.addr) b.muxes m a e in
    let mux : nat_lt m (length b.muxes) ≡ true = search (rules, nat_tests) in
    record { within = omega arith; addr = rw mux e; home = rw mux refl }
is_item b (Device d) a e =
    let within = some_within (λ x. Some x.addr) b.devices d a e in
    let device : nat_lt (length b.muxes + d) (length b.muxes) ≡ false = search (rules, nat_tests) in
    let place : length b.muxes + d - length b.muxes ≡ d = omega arith in
    record { within = omega arith; addr = rw (device, place) e; home = rw (device, place) refl }

-- two items clash where they have one address and one lies along the other
clashes_from : (b : BoardView) (i j a s t : ℕ) → addr_at b i ≡ Some a → addr_at b j ≡ Some a → home_at b i ≡ s → home_at b j ≡ t
    → is_along b s t ≡ true → clashes b i j ≡ true
clashes_from b i j a s t one other here there along =
    rw (one, other, here, there, eq-eqb a a refl) along

-- targets at one place are the same
same_node : (b : BoardView) (x y : Node) (a : ℕ) → addr_of b x ≡ Some a → addr_of b y ≡ Some a → place_of b x ≡ place_of b y → x ≡ y
unfolding place_of
same_node b (Chip m) (Chip n) a of_x of_y e = ap Chip e
same_node b (Chip m) (Device d) a of_x of_y e = absurd (omega (arith, some_within (λ x. x.addr) b.muxes m a of_x))
same_node b (Device d) (Chip m) a of_x of_y e = absurd (omega (arith, some_within (λ x. x.addr) b.muxes m a of_y))
same_node b (Device c) (Device d) a of_x of_y e = ap Device (omega arith)

pub tree_addresses : (b : BoardView) → NoPair (clashes b) (items b) → (x y : Node) (a : ℕ) → addr_of b x ≡ Some a → addr_of b y ≡ Some a
    → IsAlong b (home_of b x) (home_of b y) → x ≡ y
tree_addresses b rule x y a of_x of_y along =
    let one = is_item b x a of_x in
    let other = is_item b y a of_y in
    let both = is_along_both b (home_of b x) (home_of b y) along in
    elim (cases_order (place_of b x) (place_of b y)) [
      | inl same ↦ same_node b x y a of_x of_y same
      | inr (inl before) ↦
          let clash = clashes_from b (place_of b x) (place_of b y) a (home_of b x)
          (home_of b y) one.addr other.addr one.home other.home both.0 in
          absurd (false≢true (sym (rule (place_of b x) (place_of b y) before other.within) ∙ clash))
      | inr (inr behind) ↦
          let clash = clashes_from b (place_of b y) (place_of b x) a (home_of b y)
          (home_of b x) other.addr one.addr other.home one.home both.1 in
          absurd (false≢true (sym (rule (place_of b y) (place_of b x) behind one.within) ∙ clash))
    ]

left_within : (test : MuxSpec → Bool) (xs : List MuxSpec) (k : ℕ) → unwrap_or (option_map test (slice_get xs k)) false ≡ true
    → k < length xs
left_within test [] k e = cc
left_within test (x ∷ xs) zero e = omega arith
left_within test (x ∷ xs) (suc k) e = omega (arith, left_within test xs k e)

-- an item below a mux that stays has its address outside: the rule says so of places
shared_from : (b : BoardView) (m i j a s t : ℕ) → addr_at b i ≡ Some a → addr_at b j ≡ Some a → home_at b i ≡ s → home_at b j ≡ t
    → root_of b s ≡ root_of b t → crosses_mux m (hops b s) ≡ true → crosses_mux m (hops b t) ≡ false → is_shared b m i j ≡ true
shared_from b m i j a s t one other here there root below beside =
    rw (one, other, here, there, below, beside, eq-eqb a a refl, eq-eqb (root_of b s) (root_of b t) root) refl

stays_apart : (b : BoardView) → NoneOf (breaks_idle b) (length b.muxes) → (k : ℕ) (x y : Node) (a : ℕ) → is_left_open b k ≡ true
    → addr_of b x ≡ Some a → addr_of b y ≡ Some a
    → root_of b (home_of b x) ≡ root_of b (home_of b y) → crosses_mux k (hops b (home_of b x)) ≡ true
    → crosses_mux k (hops b (home_of b y)) ≡ false → ⊥
stays_apart b rule k x y a stays of_x of_y root below beside =
    let one = is_item b x a of_x in
    let other = is_item b y a of_y in
    let shared : is_shared b k (place_of b x) (place_of b y) ≡ true =
    shared_from b k (place_of b x) (place_of b y) a (home_of b x) (home_of b y) one.addr other.addr one.home other.home root below beside in
    let outside : stands_outside b k (place_of b x) ≡ true = one_below (is_shared b k (place_of b x)) (items b)
    (place_of b y) other.within shared in
    let some : some_below (stands_outside b k) (items b) ≡ true = one_below (stands_outside b k) (items b)
    (place_of b x) one.within outside in
    let broken : breaks_idle b k ≡ true =
    ap (λ (t : Bool). t && (not (may_stay b k) || some_below (stands_outside b k) (items b))) stays
    ∙ ap (λ (t : Bool). not (may_stay b k) || t) some ∙ or-true (not (may_stay b k)) in
    false≢true (sym (rule k (left_within (λ x. is_staying x.idle) b.muxes k stays)) ∙ broken)

-- an arbitrator doesn't stay
asking_leaves : (b : BoardView) → NoneOf (breaks_idle b) (length b.muxes) → (m : ℕ)
    → (facts_of (of_mux (λ x. x.kind) Pca9548 b m)).asks ≡ true → is_left_open b m ≡ false
asking_leaves b rule m asks = by (is_left_open b m) refl
  where
    by : (t : Bool) → is_left_open b m ≡ t → t ≡ false
    by true stays = absurd (false≢true (sym (rule m (left_within (λ x. is_staying x.idle) b.muxes m stays)) ∙ asking_broken b m asks stays))
    by false stays = refl

-- an accepted board is a tree
pub tree_of : (b : BoardView) → IsPlainBoard b → MeetsRules b → IsTree b
tree_of b plain rules' = record {
  leads = tree_leads b plain.planted;
  tail = tree_tail b plain.planted;
  apart = tree_apart b plain.planted;
  hop = tree_hop b plain.planted;
  within = tree_within b plain.planted;
  channel = tree_channel b plain.planted;
  root_over = tree_root_over b plain.planted;
  root_is = tree_root_is b plain.planted;
  root_same = tree_root_same b plain.planted;
  root_hops = tree_root_hops b plain.planted;
  addresses = tree_addresses b rules'.addresses;
  aside = stays_apart b rules'.idles;
  asking = asking_leaves b rules'.idles;
}
