-- The seat at a place of the list, and another one there.
use Rattle.bus_core.proofs.Cited.{◌≡◌, ◌<◌, ℕ, length, true, false, List, [], ◌∷◌, get_or, Option, Some, None, refl, sym, ◌∙◌, ap, subst}
use Rattle.bus_core.proofs.Cited.{inl, inr, slice_get, get_or_from_slice_get, slice_get-get_or, eqb_tells, Reply, Act, next_of, ComesAt}
use Rattle.bus_core.proofs.Cited.{owed_by, walk_left, CoreInside, Seat, RepliesView, reply_decided, Decided}
use Rattle.std.proofs.Common.{nat_eq}
use Rattle.std.specs.Prelude.{is_some}

-- what was read at a place is what the list has there
pub read_here : {X : Type 0} (xs : List X) (i : ℕ) (x y : X) → slice_get xs i ≡ Some x → y ≡ get_or xs i y → y ≡ x
read_here xs i x y here read = read ∙ get_or_from_slice_get xs i x y here

pub there_read : {X : Type 0} (xs : List X) (i : ℕ) (y : X) → i < length xs → y ≡ get_or xs i y → slice_get xs i ≡ Some y
there_read xs i y low read = slice_get-get_or xs i y low ∙ ap Some (sym read)

-- what comes next at a place comes next of the seat that was read there
pub read_comes : {P C : Type 0} (x : CoreInside P C) (place : ℕ) (act : Act) (need : ComesAt x place act) (s : Seat C)
    → s ≡ get_or x.seats.items place s
    → (slice_get x.seats.items place ≡ Some s) × (next_of x.locks (walk_left s) ≡ Some act)
read_comes x place act need s read =
    let is = read_here x.seats.items place need.seat s need.here read in (
      need.here ∙ ap Some (sym is),
      subst (λ (y : Seat _). next_of x.locks (walk_left y) ≡ Some act) (sym is) need.next,
    )

-- numbers that a test tells apart differ
pub told_apart : (a b : ℕ) → nat_eq a b ≡ false → a ≡ b → ⊥
told_apart a b test same = elim (eqb_tells a b) [
  | inl e ↦ absurd (let f : true ≡ false = sym e.0 ∙ test in cc)
  | inr e ↦ e.1 same
]

-- the one reply that is owed is the one that was decided
pub same_owed : (o : Option Decided) (v : RepliesView) (d : Decided) (r : Reply) → o ≡ Some d → owed_by o v ≡ r ∷ [] → reply_decided d v ≡ r
same_owed None v d r is owed = absurd (let f : None ≡ Some d = is in cc)
same_owed (Some x) v d r is owed =
    let same : x ≡ d = cc in
    let first : reply_decided x v ≡ r = cc in
    ap (λ (y : Decided). reply_decided y v) (sym same) ∙ first

-- something is asked for, or nothing is
pub asks_or_not : {X : Type 0} (o : Option X) (P : Type 0) → ((x : X) → o ≡ Some x → P) → (o ≡ None → P) → P
asks_or_not (Some x) P some none = some x refl
asks_or_not None P some none = none refl

-- a test of an option tells it
pub none-told : {X : Type 0} (o : Option X) → is_some o ≡ false → o ≡ None
none-told None e = refl
none-told (Some x) e = absurd (let f : true ≡ false = e in cc)

pub some-told : {X : Type 0} (o : Option X) → is_some o ≡ true → (x : X) × (o ≡ Some x)
some-told None e = absurd (let f : false ≡ true = e in cc)
some-told (Some x) e = (x, refl)

-- what was read at a place of the numbers, whose number was converted
pub number_read : (xs : List (Option ℕ)) {n m : ℕ} {r o : Option ℕ} → m ≡ n → n < length xs → r ≡ get_or xs m r → r ≡ o
    → slice_get xs n ≡ Some o
number_read xs {n} {m} {r} from low read is =
    slice_get-get_or xs n r low ∙ ap (λ (k : ℕ). Some (get_or xs k r)) (sym from) ∙ ap Some (sym read ∙ is)
