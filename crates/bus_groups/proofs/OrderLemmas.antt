-- Journals of groups one after the other: the inductions go over entries.
use Rattle.bus_groups.proofs.Cited.{◌≡◌, ℕ, zero, suc, ◌≤◌, Bool, true, List, [], ◌∷◌, ◌++◌, reverse, Some, None, subst, arith, slice_get}
use Rattle.bus_groups.proofs.Cited.{Entry, caller_of, AreByHomes}
use Rattle.std.proofs.lemmas.List.{reverse-append}
use Rattle.bus_spec.specs.Readings.{Everywhere}

-- each entry is of a caller of this home
abbrev pub AreOfHome : (ℕ → ℕ) → ℕ → List Entry → Type 0
AreOfHome home h entries = (i : ℕ) (e : Entry) → slice_get entries i ≡ Some e → home (caller_of e) ≡ h

-- none is of a caller of a lesser home
abbrev pub AreFrom : (ℕ → ℕ) → ℕ → List Entry → Type 0
AreFrom home h entries = (i : ℕ) (e : Entry) → slice_get entries i ≡ Some e → h ≤ home (caller_of e)

-- what holds of each entry of a past
last-own : (Q : Entry → Type 0) (xs : List Entry) (x : Entry) → Everywhere (λ e before. Q e) (xs ++ x ∷ [])
    → Everywhere (λ e before. Q e) xs × Q x
last-own Q [] x own = (tt, own.0)
last-own Q (y ∷ ys) x own = (let rest = last-own Q ys x own.1 in ((own.0, rest.0), rest.1))

pub each-own : (P : Entry → Type 0) (who : ℕ → Bool) (entries : List Entry) → ((e : Entry) → who (caller_of e) ≡ true → P e)
    → Everywhere (λ e before. who (caller_of e) ≡ true) (reverse entries) → (i : ℕ) (e : Entry) → slice_get entries i ≡ Some e → P e
each-own P who [] gives own i e at = absurd (let f : None ≡ Some e = at in cc)
each-own P who (x ∷ xs) gives own zero e at =
    let parts = last-own (λ e. who (caller_of e) ≡ true) (reverse xs) x
    (subst (Everywhere (λ e before. who (caller_of e) ≡ true)) (reverse-append (x ∷ []) xs) own) in
    let f : Some x ≡ Some e = at in
    let same : x ≡ e = cc in
    subst P same (gives x parts.1)
each-own P who (x ∷ xs) gives own (suc i) e at =
    let parts = last-own (λ e. who (caller_of e) ≡ true) (reverse xs) x
    (subst (Everywhere (λ e before. who (caller_of e) ≡ true)) (reverse-append (x ∷ []) xs) own) in
    each-own P who xs gives parts.0 i e at

-- entries after others, where all of them are from a home on
pub from-both : (home : ℕ → ℕ) (h : ℕ) (xs ys : List Entry) → AreFrom home h xs → AreFrom home h ys → AreFrom home h (xs ++ ys)
from-both home h [] ys first then i e at = then i e at
from-both home h (x ∷ xs) ys first then zero e at = first zero e at
from-both home h (x ∷ xs) ys first then (suc i) e at = from-both home h xs ys (λ k f to. first (suc k) f to) then i e at

-- entries of one home, and after them those of greater homes
pub by-both : (home : ℕ → ℕ) (h : ℕ) (xs ys : List Entry) → AreOfHome home h xs → AreFrom home h ys → AreByHomes home ys
    → AreByHomes home (xs ++ ys)
by-both home h [] ys own from sorted i j e f le at to = sorted i j e f le at to
by-both home h (x ∷ xs) ys own from sorted zero j e f le at to =
    let is = own zero e at in
    let more = from-both home h (x ∷ xs) ys (λ k g there. let same = own k g there in omega (arith, same)) from j f to in
    omega (arith, is, more)
by-both home h (x ∷ xs) ys own from sorted (suc i) zero e f le at to = absurd (omega (arith, le))
by-both home h (x ∷ xs) ys own from sorted (suc i) (suc j) e f le at to =
    by-both home h xs ys (λ k g there. own (suc k) g there) from sorted i j e f (omega (arith, le)) at to
