-- What a list of targets says where one of them alone has something to say. The inductions go over the list.
use Rattle.bus_laws.proofs.Cited.{◌≡◌, ℕ, suc, ◌+◌, Bool, true, false, cond, ◌||◌, List, [], ◌∷◌, Option, Some, None, refl, sym, ◌∙◌, ap}
use Rattle.bus_laws.proofs.Cited.{arith, add-zero, zero-add, slice_get, option_map, Event, Answer, Node, Table, given, feed, answers}
use Rattle.bus_laws.proofs.Cited.{answer_with, has_heard, heard_of, some_answer, TargetState, state_table}
use Rattle.bus_laws.proofs.world.Feed.{hears, feed-get, answers-one, heard-none, heard-one, some_answer-at, GivesOne}

-- a target of the list, after its event
pub fed-at : {X : Type 0} (t : Table X) (f : ℕ → Option Event) (xs : List X) (i : ℕ)
    → slice_get (feed t f 0 xs) i ≡ option_map (λ (x : X). given t (f i) x) (slice_get xs i)
fed-at {X} t f xs i = feed-get t f 0 xs i ∙ ap (λ (j : ℕ). option_map (λ (x : X). given t (f j) x) (slice_get xs i)) (zero-add i)

pub map-alike : {X : Type 0} (o : Option X) (g h : X → X) → ((x : X) → o ≡ Some x → g x ≡ h x) → option_map g o ≡ option_map h o
map-alike None g h same = refl
map-alike (Some x) g h same = ap Some (same x refl)

pub map-same : {X : Type 0} (o : Option X) (g : X → X) → ((x : X) → o ≡ Some x → g x ≡ x) → option_map g o ≡ o
map-same None g same = refl
map-same (Some x) g same = ap Some (same x refl)

-- where it came from
pub map-from : {X : Type 0} (o : Option X) (g : X → X) (y : X) → option_map g o ≡ Some y → (x : X) × (o ≡ Some x) × (g x ≡ y)
map-from None g y e = absurd (let f : None ≡ Some y = e in cc)
map-from (Some x) g y e = (x, refl, let f : Some (g x) ≡ Some y = e in let h : g x ≡ y = cc in h)

-- nobody of the list is given an event
pub answers-quiet : {X : Type 0} (t : Table X) (f : ℕ → Option Event) (k : ℕ) (xs : List X)
    → ((i : ℕ) (x : X) → slice_get xs i ≡ Some x → f (k + i) ≡ None) → answers t f k xs ≡ []
answers-quiet t f k [] none = refl
answers-quiet t f k (x ∷ xs) none =
    ap (λ (o : Option Event). answer_with t o k x (answers t f (k + 1) xs)) (ap f (sym (add-zero k)) ∙ none 0 x refl)
    ∙ answers-quiet t f (k + 1) xs (λ i y e. ap f (let e2 : k + 1 + i ≡ k + suc i = omega arith in e2) ∙ none (suc i) y e)

-- one target alone is given an event: it answers where it is there
abbrev pub one_answer : {X : Type 0} → Table X → ℕ → Event → Option X → List (ℕ × Answer)
one_answer t m e None = []
one_answer t m e (Some x) = (m, t.answer x e) ∷ []

pub answers-alone : {X : Type 0} (t : Table X) (f : ℕ → Option Event) (xs : List X) (m : ℕ) (e : Event) → GivesOne f m e
    → (o : Option X) → slice_get xs m ≡ o → answers t f 0 xs ≡ one_answer t m e o
answers-alone t f xs m e one (Some x) at = answers-one t f 0 xs m e one m x at (zero-add m)
answers-alone t f xs m e one None at =
    answers-quiet t f 0 xs (λ i x here. ap f (zero-add i)
    ∙ one.else i (λ same. absurd (let g : None ≡ Some x = sym at ∙ ap (λ (j : ℕ). slice_get xs j) (sym same) ∙ here in cc)))

-- whether what the target at a place answers passes a test
abbrev pub passes : {X : Type 0} → Table X → (Answer → Bool) → Option Event → X → Bool
passes t test None x = false
passes t test (Some e) x = test (t.answer x e)

pub some_answer-none : {X : Type 0} (t : Table X) (test : Answer → Bool) (f : ℕ → Option Event) (k : ℕ) (xs : List X)
    → ((i : ℕ) (x : X) → slice_get xs i ≡ Some x → passes t test (f (k + i)) x ≡ false) → some_answer test (answers t f k xs) ≡ false
some_answer-none t test f k [] none = refl
some_answer-none t test f k (x ∷ xs) none =
    step (f k) ∙ ap (λ (b : Bool). b || some_answer test (answers t f (k + 1) xs)) (ap (λ (j : ℕ). passes t test (f j) x) (sym (add-zero k))
    ∙ none 0 x refl)
    ∙ some_answer-none t test f (k + 1) xs
    (λ i y e. ap (λ (j : ℕ). passes t test (f j) y) (let e2 : k + 1 + i ≡ k + suc i = omega arith in e2) ∙ none (suc i) y e)
  where
    step : (o : Option Event) → some_answer test (answer_with t o k x (answers t f (k + 1) xs)) ≡
        (passes t test o x || some_answer test (answers t f (k + 1) xs))
    step None = refl
    step (Some e) = refl

-- who passes a test that only those who hear pass, hears
pub passes-heard : {X : Type 0} (t : Table X) (test : Answer → Bool) → ((a : Answer) → has_heard a ≡ false → test a ≡ false)
    → (o : Option Event) (x : X)
    → hears t o x ≡ false → passes t test o x ≡ false
passes-heard t test implies None x e = refl
passes-heard t test implies (Some g) x e = implies (t.answer x g) e

-- Where only the target of one number may hear, and it is given this event, it alone is asked.
module _ {X : Type 0} (t : Table X) (f : ℕ → Option Event) (xs : List X) (m : ℕ) (e : Event) (at : f m ≡ Some e)
    (only : (i : ℕ) (x : X) → slice_get xs i ≡ Some x → hears t (f i) x ≡ true → i ≡ m) where
  pub heard-alone : (name : ℕ → Node) (x : X) → slice_get xs m ≡ Some x
      → heard_of name (answers t f 0 xs) ≡ cond (has_heard (t.answer x e)) (name m ∷ []) []
  heard-alone name x here =
      heard-one t name f 0 xs m (λ i y ey h. zero-add i ∙ only i y ey (ap (λ (j : ℕ). hears t (f j) y) (sym (zero-add i)) ∙ h)) m x here
      (zero-add m)
      ∙ ap (λ (o : Option Event). cond (hears t o x) (name m ∷ []) []) at

  -- where it isn't there, nobody hears
  pub heard-missing : (name : ℕ → Node) → slice_get xs m ≡ None → heard_of name (answers t f 0 xs) ≡ []
  heard-missing name missing =
      heard-none t name f 0 xs (λ i y ey. ap (λ (j : ℕ). hears t (f j) y) (zero-add i) ∙ silent i y ey (hears t (f i) y) refl)
    where
      silent : (i : ℕ) (y : X) → slice_get xs i ≡ Some y → (b : Bool) → hears t (f i) y ≡ b → b ≡ false
      silent i y ey false h = refl
      silent i y ey true h = absurd (let g : None ≡ Some y = sym missing ∙ ap (λ (j : ℕ). slice_get xs j) (sym (only i y ey h)) ∙ ey in cc)

  pub answer-alone : (test : Answer → Bool) → ((a : Answer) → has_heard a ≡ false → test a ≡ false) → (x : X) → slice_get xs m ≡ Some x
      → some_answer test (answers t f 0 xs) ≡ test (t.answer x e)
  answer-alone test implies x here = by (test (t.answer x e)) refl
    where
      quiet : test (t.answer x e) ≡ false → (i : ℕ) (y : X) → slice_get xs i ≡ Some y → (h : Bool) → hears t (f i) y ≡ h
          → passes t test (f i) y ≡ false
      quiet v i y ey false h = passes-heard t test implies (f i) y h
      quiet v i y ey true h =
          let i_m : i ≡ m = only i y ey h in
          let same : x ≡ y = (let g : Some x ≡ Some y = sym here ∙ ap (λ (j : ℕ). slice_get xs j) (sym i_m) ∙ ey in cc) in
          ap (λ (o : Option Event). passes t test o y) (ap f i_m ∙ at) ∙ ap (λ (z : X). test (t.answer z e)) (sym same) ∙ v

      by : (v : Bool) → test (t.answer x e) ≡ v → some_answer test (answers t f 0 xs) ≡ v
      by true v = some_answer-at t f test 0 xs m e at m x here (zero-add m) v
      by false v =
          some_answer-none t test f 0 xs (λ i y ey. ap (λ (j : ℕ). passes t test (f j) y) (zero-add i)
          ∙ quiet v i y ey (hears t (f i) y) refl)

pub fed_alike : (x y : ℕ → Option Event) (xs ys : List TargetState) (d : ℕ) → slice_get xs d ≡ slice_get ys d → x d ≡ y d
    → slice_get (feed state_table x 0 xs) d ≡ slice_get (feed state_table y 0 ys) d
fed_alike x y xs ys d same events =
    fed-at state_table x xs d ∙ ap (λ (o : Option TargetState). option_map (λ (z : TargetState). given state_table (x d) z) o) same
    ∙ ap (λ (e : Option Event). option_map (λ (z : TargetState). given state_table e z) (slice_get ys d)) events
    ∙ sym (fed-at state_table y ys d)
