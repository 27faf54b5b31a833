-- The devices that were named, each once. The inductions go over the list.
use Rattle.flat_world.proofs.Cited.{◌≡◌, ℕ, zero, suc, ◌+◌, ◌<◌, ◌≤◌, Bool, true, false, cond, not, ◌||◌, List, [], ◌∷◌, ◌++◌, length, take}
use Rattle.flat_world.proofs.Cited.{get_or, eqb, Option, Some, None, refl, sym, ap, ◌∙◌, subst, inl, inr, arith, length-append, eqb_tells}
use Rattle.flat_world.proofs.Cited.{BoardView, IsPlainBoard, is_member, once}
use Rattle.std.proofs.Common.{◌&&◌}
use Rattle.std.specs.Prelude.{IfSome}
use Rattle.std.specs.List.{list_any, position_from, AllByRecursion, IsDistinct}
use Rattle.std.proofs.lemmas.List.Folds.{list_any-append}
use Rattle.std.proofs.lemmas.Map.Keys.{IsDistinct-head, IsDistinct-tail, IsDistinct-cons, IsDistinct-from_apart}
use Rattle.std.proofs.lemmas.Map.Steps.{length-le_from_distinct_below}
use Rattle.i2c_base.specs.Board.{DeviceView}
use Rattle.i2c_base.specs.Limits.{MOST_DEVICES}
use Rattle.i2c_base.specs.declared.tree.Grant.{Grant}
use Rattle.i2c_base.specs.declared.tree.Grant.TheVariants as grant
use Rattle.i2c_spec.specs.Tree.{is_on_path, is_below, is_aside}
use Rattle.i2c_spec.specs.Grant.{grant_of, named_by, some_chip, some_device, some_bound}
use Rattle.flat_world.specs.Devices.{AreNamed}
use Rattle.std.proofs.Math.Bool.{or-false}
use Rattle.std.proofs.lemmas.Bool.{or_parts}

pub is_member-push : (k n : ℕ) (ns : List ℕ) → is_member k (ns ++ n ∷ []) ≡ (is_member k ns || eqb n k)
is_member-push k n ns = list_any-append (λ m. eqb m k) ns (n ∷ []) ∙ ap (λ b. is_member k ns || b) (or-false (eqb n k))

-- a number isn't among those before it
all_at : (P : ℕ → Type 0) (ns : List ℕ) (i d : ℕ) → AllByRecursion P ns → i < length ns → P (get_or ns i d)
all_at P [] i d all within = absurd (omega arith)
all_at P (n ∷ ns) zero d all within = all.0
all_at P (n ∷ ns) (suc i) d all within = all_at P ns i d all.1 (omega arith)

pub unmet : (ns : List ℕ) (i d : ℕ) → IsDistinct eqb ns → i < length ns → is_member (get_or ns i d) (take i ns) ≡ false
unmet [] i d apart within = absurd (omega arith)
unmet (n ∷ ns) zero d apart within = refl
unmet (n ∷ ns) (suc i) d apart within =
    let first : eqb n (get_or ns i d) ≡ false = all_at (λ m. eqb n m ≡ false) ns i d (IsDistinct-head eqb n ns apart) (omega arith) in
    rw first (unmet ns i d (IsDistinct-tail eqb n ns apart) (omega arith))

-- one more that isn't among them
all_push : (P : ℕ → Type 0) (ns : List ℕ) (n : ℕ) → AllByRecursion P ns → P n → AllByRecursion P (ns ++ n ∷ [])
all_push P [] n all p = (p, tt)
all_push P (m ∷ ns) n all p = (all.0, all_push P ns n all.1 p)

none_distinct : IsDistinct eqb []
none_distinct = IsDistinct-from_apart eqb [] (λ i j d low high. absurd (omega arith))

distinct_push : (ns : List ℕ) (n : ℕ) → IsDistinct eqb ns → is_member n ns ≡ false → IsDistinct eqb (ns ++ n ∷ [])
distinct_push [] n apart new = IsDistinct-cons eqb n [] tt none_distinct
distinct_push (m ∷ ns) n apart new =
    let each = or_parts (eqb m n) (is_member n ns) new in
    IsDistinct-cons eqb m (ns ++ n ∷ []) (all_push (λ k. eqb m k ≡ false) ns n (IsDistinct-head eqb m ns apart) each.0)
    (distinct_push ns n (IsDistinct-tail eqb m ns apart) each.1)

pub named_push : (ns : List ℕ) (n : ℕ) → AreNamed ns → n < MOST_DEVICES → is_member n ns ≡ false → AreNamed (ns ++ n ∷ [])
named_push ns n are low new =
    record { once = distinct_push ns n are.once new; below = all_push (λ d. d < MOST_DEVICES) ns n are.below low }

met_first : (P : ℕ → Type 0) (n q : ℕ) (ns : List ℕ) (b : Bool) → eqb q n ≡ b → P n → (list_any (eqb q) ns ≡ true → P q)
    → (b || list_any (eqb q) ns) ≡ true → P q
met_first P n q ns true e here later met = elim
    (eqb_tells q n) [ inl x ↦ subst P (sym x.1) here | inr x ↦ absurd (let f : true ≡ false = sym e ∙ x.0 in cc) ]
met_first P n q ns false e here later met = later met

all_met : (P : ℕ → Type 0) (ns : List ℕ) (q : ℕ) → AllByRecursion P ns → list_any (eqb q) ns ≡ true → P q
all_met P [] q all met = absurd (let f : false ≡ true = met in cc)
all_met P (n ∷ ns) q all met = met_first P n q ns (eqb q n) refl all.0 (all_met P ns q all.1) met

pub length_named : (ns : List ℕ) → AreNamed ns → length ns ≤ MOST_DEVICES
length_named ns are = length-le_from_distinct_below ns MOST_DEVICES are.once (λ q met. all_met (λ d. d < MOST_DEVICES) ns q are.below met)

pub named_room : (ns : List ℕ) (n : ℕ) → AreNamed ns → n < MOST_DEVICES → is_member n ns ≡ false → length ns < MOST_DEVICES
named_room ns n are low new =
    omega (arith, length_named (ns ++ n ∷ []) (named_push ns n are low new), length-append ns (n ∷ []))

pub none_named : (ns : List ℕ) → ns ≡ [] → AreNamed ns
none_named ns e = rw e (record { once = none_distinct; below = tt })

-- the same are named, once each or not
once_met : (k d : ℕ) (ds : List ℕ) (b : Bool) → is_member d (once ds) ≡ b → is_member k (once ds) ≡ is_member k ds
    → is_member d (once ds) ≡ is_member d ds
    → is_member k (cond b (once ds) (once ds ++ d ∷ [])) ≡ (eqb d k || is_member k ds)
once_met k d ds true is same at =
    elim (eqb_tells d k) [
      | inl x ↦ same ∙ ap (λ m. is_member m ds) (sym x.1) ∙ sym at ∙ is ∙ sym (ap (λ b. b || is_member k ds) x.0)
      | inr x ↦ same ∙ sym (ap (λ b. b || is_member k ds) x.0)
    ]
once_met k d ds false is same at = is_member-push k d (once ds) ∙ ap (λ b. b || eqb d k) same ∙ or_swap (is_member k ds) (eqb d k)
  where
    or_swap : (b c : Bool) → (b || c) ≡ (c || b)
    or_swap true true = refl
    or_swap true false = refl
    or_swap false true = refl
    or_swap false false = refl

pub is_member-once : (k : ℕ) (ds : List ℕ) → is_member k (once ds) ≡ is_member k ds
is_member-once k [] = refl
is_member-once k (d ∷ ds) = once_met k d ds (is_member d (once ds)) refl (is_member-once k ds) (is_member-once d ds)

-- a device that is granted is one of the board
one_later : (k n : ℕ) (b : Bool) (o : Option ℕ) → IfSome o (λ d. d < k + 1 + n) → IfSome (cond b (Some k) o) (λ d. d < k + suc n)
one_later k n true o later = omega arith
one_later k n false None later = tt
one_later k n false (Some d) later = omega (arith, later)

position_below : {X : Type 0} (test : X → Bool) (k : ℕ) (xs : List X) → IfSome (position_from test k xs) (λ d. d < k + length xs)
position_below test k [] = tt
position_below test k (x ∷ xs) = one_later k (length xs) (test x) (position_from test (k + 1) xs) (position_below test (k + 1) xs)

abbrev IsBelow : ℕ → Grant → Type 0
IsBelow n (grant.Named d) = d < n
IsBelow n grant.Nobody = Unit {0}
IsBelow n grant.Busy = Unit {0}

by_place : (n : ℕ) (o : Option ℕ) → IfSome o (λ d. d < 0 + n) → IsBelow n (named_by o)
by_place n None p = tt
by_place n (Some d) p = omega (arith, p)

or_busy : (n : ℕ) (g : Grant) (test : Bool) → IsBelow n g → IsBelow n (cond test grant.Busy g)
or_busy n g true h = tt
or_busy n g false h = h

pub granted_small : (b : BoardView) (s a : ℕ) (force : Bool) (d : ℕ) → IsPlainBoard b → grant_of b s a force ≡ grant.Named d
    → d < MOST_DEVICES
granted_small b s a force d plain e =
    let n = length b.devices in
    let test : DeviceView → Bool = λ x. eqb x.addr a && is_on_path b s x.bus in
    let within : IsBelow n (grant_of b s a force) =
    or_busy n _ (some_chip b a (is_on_path b s))
    (or_busy n _ (some_chip b a (λ u. is_below b u s) || some_device b a (λ u. is_below b u s))
    (or_busy n _ (some_chip b a (is_aside b s) || some_device b a (is_aside b s))
    (or_busy n _ (not force && some_bound b a (is_on_path b s))
    (by_place n (position_from test 0 b.devices) (position_below test 0 b.devices))))) in
    let here : d < n = subst (IsBelow n) e within in
    omega (arith, here, plain.most_devices)
