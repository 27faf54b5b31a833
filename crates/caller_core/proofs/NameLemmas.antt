-- A transfer that a script asks for is on a root that it names.
use Rattle.caller_core.proofs.Cited.{◌≡◌, ℕ, zero, suc, ◌+◌, ◌-◌, ◌<◌, Bool, true, cond, ◌&&◌, ◌||◌, List, [], ◌∷◌, map, Some, None, refl}
use Rattle.caller_core.proofs.Cited.{sym, ◌∙◌, ap, arith, inl, inr, All, bit_at, list_any, range_with_len, leb_tells, All-head, All-nil}
use Rattle.caller_core.proofs.Cited.{All-cons, Reply, BoardView, TransferView, buses, root_of, place_after, names_root, command_names}
use Rattle.caller_core.proofs.Cited.{HasRoots, command_talk, progress, next_of, asked_at, CommandView}
use Rattle.std.proofs.Common.{ap₂, eq-eqb, lt-ltb}
use Rattle.caller_core.proofs.FairLemmas.{left_all}
use Rattle.std.proofs.lemmas.Bool.{or_right}

-- what is made of a number of a range stands among what is made of all
any_made : {X : Type 0} (test : X → Bool) (make : ℕ → X) (from many k : ℕ) → k < many → test (make (from + k)) ≡ true
    → list_any test (map make (range_with_len from many)) ≡ true
any_made test make from zero k low is = absurd (omega (arith, low))
any_made test make from (suc many) zero low is =
    ap (λ b. b || list_any test (map make (range_with_len (from + 1) many)))
    (ap (λ n. test (make n)) (let e : from ≡ from + 0 = omega arith in e) ∙ is)
any_made test make from (suc many) (suc k) low is =
    or_right (test (make from)) (list_any test (map make (range_with_len (from + 1) many)))
    (any_made test make (from + 1) many k (omega (arith, low))
    (ap (λ n. test (make n)) (let e : from + 1 + k ≡ from + suc k = omega arith in e) ∙ is))

-- each that passes is told
all_told : {X : Type 0} (test : X → Bool) (xs ys : List X) → (list_any test xs ≡ true → list_any test ys ≡ true)
    → All (λ x. test x ≡ true → list_any test ys ≡ true) xs
all_told test [] ys more = All-nil (λ x. test x ≡ true → list_any test ys ≡ true)
all_told test (x ∷ xs) ys more =
    All-cons (λ x. test x ≡ true → list_any test ys ≡ true) x xs
    (λ is. more (ap (λ b. b || list_any test xs) is))
    (all_told test xs ys (λ any. more (or_right (test x) (list_any test xs) any)))

-- what the next command asks for
next_named : (b : BoardView) (r : ℕ) (left : List CommandView) (own : List Reply) (t : TransferView) (any : Bool)
    → All (λ c. command_names b r c ≡ true → any ≡ true) left → next_of left own ≡ Some t → names_root b r t ≡ true → any ≡ true
next_named b r [] own t any all e is = absurd (let f : None ≡ Some t = e in cc)
next_named b r (c ∷ cs) own t any all e is =
    let k : ℕ = place_after (command_talk c) own in
    elim (leb_tells (command_talk c).places k) [
      | inl x ↦ absurd (let f : None ≡ Some t = sym (ap (λ b. cond b None (Some ((command_talk c).at k))) x.0) ∙ e in cc)
      | inr x ↦ (
          let f : Some ((command_talk c).at k) ≡ Some t = sym (ap (λ b. cond b None (Some ((command_talk c).at k))) x.0) ∙ e in
          let same : (command_talk c).at k ≡ t = cc in
          let low : k < (command_talk c).places - 0 = omega (arith, x.1) in
          let here : names_root b r ((command_talk c).at (0 + k)) ≡ true =
          ap (λ n. names_root b r ((command_talk c).at n)) (let z : 0 + k ≡ k = omega arith in z) ∙ ap (names_root b r) same ∙ is in
          All-head (λ c. command_names b r c ≡ true → any ≡ true) c cs all
          (any_made (names_root b r) (command_talk c).at 0 ((command_talk c).places - 0) k low here))
    ]

pub asked_named : (b : BoardView) (cs : List CommandView) (bits : ℕ) (rs : List Reply) (t : TransferView) → HasRoots b cs bits
    → asked_at (progress cs rs) ≡ Some t → t.bus < buses b → bit_at bits (root_of b t.bus) ≡ 1
asked_named b cs bits rs t has asks bus =
    let r = root_of b t.bus in
    let any = list_any (command_names b r) cs in
    let told = left_all (λ c. command_names b r c ≡ true → any ≡ true) cs rs
    (all_told (command_names b r) cs cs (λ some. some)) in
    let does : names_root b r t ≡ true = ap₂ (λ (p q : Bool). p && q) (lt-ltb t.bus (buses b) bus) (eq-eqb r r refl) in
    let named : any ≡ true = next_named b r (progress cs rs).left (progress cs rs).own t any told asks does in
    has.exactly r ∙ ap (λ (p : Bool). cond p 1 0) named
