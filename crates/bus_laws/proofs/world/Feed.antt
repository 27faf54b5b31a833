-- Events given to a list of targets, place by place. The inductions go over the list.
use Rattle.bus_laws.proofs.Cited.{◌≡◌, ℕ, zero, suc, ◌+◌, ◌≤◌, Bool, true, false, cond, ◌||◌, List, [], ◌∷◌, ◌++◌, length, Option, Some}
use Rattle.bus_laws.proofs.Cited.{None, refl, sym, ◌∙◌, ap, subst, arith, add-zero, slice_get, list_any, option_map, Event, Answer, Node}
use Rattle.bus_laws.proofs.Cited.{Table, given, feed, answers, answer_with, has_heard, heard_of, some_answer, or-true}

pub length-feed : {X : Type 0} (t : Table X) (f : ℕ → Option Event) (k : ℕ) (xs : List X) → length (feed t f k xs) ≡ length xs
length-feed t f k [] = refl
length-feed t f k (x ∷ xs) = ap suc (length-feed t f (k + 1) xs)

pub feed-get : {X : Type 0} (t : Table X) (f : ℕ → Option Event) (k : ℕ) (xs : List X) (i : ℕ)
    → slice_get (feed t f k xs) i ≡ option_map (λ (x : X). given t (f (k + i)) x) (slice_get xs i)
feed-get t f k [] i = refl
feed-get t f k (x ∷ xs) zero = ap (λ (j : ℕ). Some (given t (f j) x)) (sym (add-zero k))
feed-get {X} t f k (x ∷ xs) (suc i) =
    feed-get t f (k + 1) xs i ∙ ap (λ (j : ℕ). option_map (λ (y : X). given t (f j) y) (slice_get xs i))
    (let e : k + 1 + i ≡ k + suc i = omega arith in e)

-- where each target is left as it is, so is the list
pub feed-same : {X : Type 0} (t : Table X) (f : ℕ → Option Event) (k : ℕ) (xs : List X)
    → ((i : ℕ) (x : X) → slice_get xs i ≡ Some x → given t (f (k + i)) x ≡ x) → feed t f k xs ≡ xs
feed-same t f k [] same = refl
feed-same t f k (x ∷ xs) same =
    let head : given t (f k) x ≡ x = ap (λ (j : ℕ). given t (f j) x) (sym (add-zero k)) ∙ same 0 x refl in
    let tail : feed t f (k + 1) xs ≡ xs =
    feed-same t f (k + 1) xs (λ i y e. ap (λ (j : ℕ). given t (f j) y) (let e2 : k + 1 + i ≡ k + suc i = omega arith in e2)
    ∙ same (suc i) y e) in
    cc

-- whether the target at a place hears its event
abbrev pub hears : {X : Type 0} → Table X → Option Event → X → Bool
hears t None x = false
hears t (Some e) x = has_heard (t.answer x e)

heard_step : {X : Type 0} (t : Table X) (name : ℕ → Node) (e : Option Event) (k : ℕ) (x : X) (rest : List (ℕ × Answer))
    → heard_of name (answer_with t e k x rest) ≡ cond (hears t e x) (name k ∷ heard_of name rest) (heard_of name rest)
heard_step t name None k x rest = refl
heard_step t name (Some e) k x rest = refl

-- where nobody hears, the list of those who do is empty
pub heard-none : {X : Type 0} (t : Table X) (name : ℕ → Node) (f : ℕ → Option Event) (k : ℕ) (xs : List X)
    → ((i : ℕ) (x : X) → slice_get xs i ≡ Some x → hears t (f (k + i)) x ≡ false) → heard_of name (answers t f k xs) ≡ []
heard-none t name f k [] none = refl
heard-none t name f k (x ∷ xs) none =
    let here : hears t (f k) x ≡ false = ap (λ (j : ℕ). hears t (f j) x) (sym (add-zero k)) ∙ none 0 x refl in
    heard_step t name (f k) k x (answers t f (k + 1) xs)
    ∙ ap (λ (b : Bool). cond b (name k ∷ heard_of name (answers t f (k + 1) xs)) (heard_of name (answers t f (k + 1) xs))) here
    ∙ heard-none t name f (k + 1) xs (λ i y e. ap (λ (j : ℕ). hears t (f j) y) (let e2 : k + 1 + i ≡ k + suc i = omega arith in e2)
    ∙ none (suc i) y e)

-- where no name passes a test, nobody of those who hear does
pub none-named : (test : Node → Bool) (name : ℕ → Node) → ((i : ℕ) → test (name i) ≡ false) → (xs : List (ℕ × Answer))
    → list_any test (heard_of name xs) ≡ false
none-named test name other [] = refl
none-named test name other (x ∷ xs) = by_heard (has_heard x.1) ∙ none-named test name other xs
  where
    by_heard : (t : Bool) → list_any test (cond t (name x.0 ∷ heard_of name xs) (heard_of name xs)) ≡ list_any test (heard_of name xs)
    by_heard true = ap (λ (u : Bool). u || list_any test (heard_of name xs)) (other x.0)
    by_heard false = refl

-- where only the target of one number may hear, the list has it or is empty
pub heard-one : {X : Type 0} (t : Table X) (name : ℕ → Node) (f : ℕ → Option Event) (k : ℕ) (xs : List X) (m : ℕ)
    → ((i : ℕ) (x : X) → slice_get xs i ≡ Some x → hears t (f (k + i)) x ≡ true → k + i ≡ m)
    → (i : ℕ) (x : X) → slice_get xs i ≡ Some x → k + i ≡ m
    → heard_of name (answers t f k xs) ≡ cond (hears t (f m) x) (name m ∷ []) []
heard-one t name f k [] m only i x e at = absurd (let h : None ≡ Some x = e in cc)
heard-one t name f k (y ∷ ys) m only zero x e at =
    let same : y ≡ x = (let h : Some y ≡ Some x = e in cc) in
    let here : k ≡ m = sym (add-zero k) ∙ at in
    heard_step t name (f k) k y (answers t f (k + 1) ys)
    ∙ ap (λ (rest : List Node). cond (hears t (f k) y) (name k ∷ rest) rest)
    (heard-none t name f (k + 1) ys (λ j z ez. not_later j z ez (hears t (f (k + 1 + j)) z) refl))
    ∙ ap (λ (j : ℕ). cond (hears t (f j) y) (name j ∷ []) []) here
    ∙ ap (λ z. cond (hears t (f m) z) (name m ∷ []) []) same
  where
    not_later : (j : ℕ) (z : _) → slice_get ys j ≡ Some z → (b : Bool) → hears t (f (k + 1 + j)) z ≡ b → b ≡ false
    not_later j z ez false h = refl
    not_later j z ez true h =
        absurd (let far : k + suc j ≡ m = only (suc j) z ez
        (ap (λ (i : ℕ). hears t (f i) z) (let e2 : k + suc j ≡ k + 1 + j = omega arith in e2) ∙ h) in
        let here : k ≡ m = sym (add-zero k) ∙ at in omega arith)
heard-one t name f k (y ∷ ys) m only (suc i) x e at =
    let early : hears t (f k) y ≡ false = not_here (hears t (f k) y) refl in
    heard_step t name (f k) k y (answers t f (k + 1) ys)
    ∙ ap (λ (b : Bool). cond b (name k ∷ heard_of name (answers t f (k + 1) ys)) (heard_of name (answers t f (k + 1) ys))) early
    ∙ heard-one t name f (k + 1) ys m
    (λ j z ez h. (let e2 : k + 1 + j ≡ k + suc j = omega arith in e2 ∙ only (suc j) z ez (ap (λ (n : ℕ). hears t (f n) z) (sym e2) ∙ h)))
    i x e (let e3 : k + 1 + i ≡ k + suc i = omega arith in e3 ∙ at)
  where
    not_here : (b : Bool) → hears t (f k) y ≡ b → b ≡ false
    not_here false h = refl
    not_here true h =
        absurd (let at0 : k + 0 ≡ m = only 0 y refl (ap (λ (j : ℕ). hears t (f j) y) (add-zero k) ∙ h) in omega arith)

-- only the target of number m is given an event, this one
pub record GivesOne (f : ℕ → Option Event) (m : ℕ) (e : Event) : Type 0 where
  pub at : f m ≡ Some e
  pub else : (j : ℕ) → (j ≡ m → ⊥) → f j ≡ None

pub answers-none : {X : Type 0} (t : Table X) (f : ℕ → Option Event) (k : ℕ) (xs : List X) → ((j : ℕ) → k ≤ j → f j ≡ None)
    → answers t f k xs ≡ []
answers-none t f k [] none = refl
answers-none t f k (x ∷ xs) none =
    ap (λ (o : Option Event). answer_with t o k x (answers t f (k + 1) xs)) (none k (omega arith))
    ∙ answers-none t f (k + 1) xs (λ j le. none j (omega arith))

pub answers-one : {X : Type 0} (t : Table X) (f : ℕ → Option Event) (k : ℕ) (xs : List X) (m : ℕ) (e : Event) → GivesOne f m e
    → (i : ℕ) (x : X) → slice_get xs i ≡ Some x → k + i ≡ m → answers t f k xs ≡ (m, t.answer x e) ∷ []
answers-one t f k [] m e one i x at place = absurd (let h : None ≡ Some x = at in cc)
answers-one t f k (y ∷ ys) m e one zero x at place =
    let here : k ≡ m = sym (add-zero k) ∙ place in
    let same : y ≡ x = (let h : Some y ≡ Some x = at in cc) in
    ap (λ (o : Option Event). answer_with t o k y (answers t f (k + 1) ys)) (ap f here ∙ one.at)
    ∙ ap (λ (rest : List (ℕ × Answer)). (k, t.answer y e) ∷ rest)
    (answers-none t f (k + 1) ys (λ j le. one.else j (λ q. absurd (omega arith))))
    ∙ ap (λ (j : ℕ). (j, t.answer y e) ∷ []) here ∙ ap (λ z. (m, t.answer z e) ∷ []) same
answers-one t f k (y ∷ ys) m e one (suc i) x at place =
    ap (λ (o : Option Event). answer_with t o k y (answers t f (k + 1) ys)) (one.else k (λ q. absurd (omega arith)))
    ∙ answers-one t f (k + 1) ys m e one i x at (let e3 : k + 1 + i ≡ k + suc i = omega arith in e3 ∙ place)

-- what an answer says where nobody has heard, or one has
pub unheard : (name : ℕ → Node) (test : Answer → Bool) → ((a : Answer) → has_heard a ≡ false → test a ≡ false) → (xs : List (ℕ × Answer))
    → heard_of name xs ≡ [] → some_answer test xs ≡ false
unheard name test implies [] e = refl
unheard name test implies (x ∷ xs) e = by_head (has_heard x.1) refl (unheard name test implies xs)
  where
    by_head : (b : Bool) → has_heard x.1 ≡ b → (heard_of name xs ≡ [] → some_answer test xs ≡ false) → some_answer test (x ∷ xs) ≡ false
    by_head true h rest =
        absurd (let f : cond true (name x.0 ∷ heard_of name xs) (heard_of name xs) ≡ [] = subst
        (λ (b : Bool). cond b (name x.0 ∷ heard_of name xs) (heard_of name xs) ≡ []) h e in cc)
    by_head false h rest =
        let f : heard_of name xs ≡ [] = subst (λ (b : Bool). cond b (name x.0 ∷ heard_of name xs) (heard_of name xs) ≡ []) h e in
        ap (λ (b : Bool). b || some_answer test xs) (implies x.1 h) ∙ rest f

pub some_answer-append : (test : Answer → Bool) (xs ys : List (ℕ × Answer))
    → some_answer test (xs ++ ys) ≡ (some_answer test xs || some_answer test ys)
some_answer-append test [] ys = refl
some_answer-append test (x ∷ xs) ys =
    ap (λ (b : Bool). test x.1 || b) (some_answer-append test xs ys) ∙ or_assoc (test x.1) (some_answer test xs) (some_answer test ys)
  where
    or_assoc : (p q r : Bool) → (p || (q || r)) ≡ ((p || q) || r)
    or_assoc true q r = refl
    or_assoc false q r = refl

-- one that passes is enough
pub some_answer-at : {X : Type 0} (t : Table X) (f : ℕ → Option Event) (test : Answer → Bool) (k : ℕ) (xs : List X) (m : ℕ) (e : Event)
    → f m ≡ Some e → (i : ℕ) (x : X) → slice_get xs i ≡ Some x → k + i ≡ m → test (t.answer x e) ≡ true
    → some_answer test (answers t f k xs) ≡ true
some_answer-at t f test k [] m e given_e i x at place passes = absurd (let h : None ≡ Some x = at in cc)
some_answer-at t f test k (y ∷ ys) m e given_e zero x at place passes =
    let here : k ≡ m = sym (add-zero k) ∙ place in
    let same : y ≡ x = (let h : Some y ≡ Some x = at in cc) in
    ap (λ (o : Option Event). some_answer test (answer_with t o k y (answers t f (k + 1) ys))) (ap f here ∙ given_e)
    ∙ ap (λ (b : Bool). b || some_answer test (answers t f (k + 1) ys)) (ap (λ z. test (t.answer z e)) same ∙ passes)
some_answer-at t f test k (y ∷ ys) m e given_e (suc i) x at place passes =
    more (f k) ∙ ap (λ (b : Bool). head (f k) || b)
    (some_answer-at t f test (k + 1) ys m e given_e i x at (let e3 : k + 1 + i ≡ k + suc i = omega arith in e3 ∙ place) passes)
    ∙ or-true (head (f k))
  where
    head : Option Event → Bool
    head None = false
    head (Some g) = test (t.answer y g)

    more : (o : Option Event) → some_answer test (answer_with t o k y (answers t f (k + 1) ys)) ≡
        (head o || some_answer test (answers t f (k + 1) ys))
    more None = refl
    more (Some g) = refl
