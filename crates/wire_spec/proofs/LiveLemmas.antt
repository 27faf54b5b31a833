-- An edge need touch only those that aren't out of the message, and, at the last bit of an address, those that have it or that
-- a message has reached since their last stop: all others stay as they are.
use Rattle.wire_spec.proofs.Cited.{◌≡◌, ℕ, ◌+◌, Bool, true, false, cond, List, [], ◌∷◌, map, refl, ap, sym, ◌∙◌, arith, Table, IsQuiet, Out}
use Rattle.wire_spec.proofs.Cited.{site_of, shifted, rise, fall, tick, finish, is_named, stands, where_joined, pulls_line, holds_line}
use Rattle.wire_spec.proofs.Cited.{calling, released}
use Rattle.wire_spec.specs.Laws.{only, RestStays}
use Rattle.wire_spec.proofs.Address.{call_last}
use Rattle.wire_spec.proofs.AckClock.{waiting_if}

only_one : {A : Type 0} (f : A → A) (x : A) (b : Bool) → (b ≡ false → f x ≡ x) → cond b (f x) x ≡ f x
only_one f x true same = refl
only_one f x false same = sym (same refl)

pub only_all : {A : Type 0} (p : ℕ → Bool) (f : A → A) (k : ℕ) (xs : List A) → RestStays p f k xs → only p f k xs ≡ map f xs
only_all p f k [] is = refl
only_all p f k (x ∷ xs) is = ap (λ y. y ∷ only p f (k + 1) xs) (only_one f x (p k) is.0) ∙ ap (λ ys. f x ∷ ys)
    (only_all p f (k + 1) xs is.1)

-- who is out sees no edge, and pulls nothing
pub out_rises : {X : Type 0} (t : Table X) (l : Bool) (a : ℕ) (j e : Bool) (x : X)
    → where_joined (λ b. rise t b l) (released (site_of a j e x)) ≡ released (site_of a j e x)
out_rises t l a true e x = refl
out_rises t l a false e x = refl

pub out_falls : {X : Type 0} (a : ℕ) (j e : Bool) (x : X) → where_joined fall (released (site_of a j e x)) ≡ released (site_of a j e x)
out_falls a true e x = refl
out_falls a false e x = refl

pub out_ticks : {X : Type 0} (a : ℕ) (j e : Bool) (x : X) → where_joined tick (released (site_of a j e x)) ≡ released (site_of a j e x)
out_ticks a true e x = ap (λ n. stands (site_of a true e x) Out n) (omega arith)
out_ticks a false e x = refl

pub out_pulls : {X : Type 0} (t : Table X) (a : ℕ) (j e : Bool) (x : X) → pulls_line t (released (site_of a j e x)) ≡ false
out_pulls t a true e x = refl
out_pulls t a false e x = refl

pub out_holds : {X : Type 0} (a : ℕ) (j e : Bool) (x : X) → holds_line (released (site_of a j e x)) ≡ false
out_holds a true e x = refl
out_holds a false e x = refl

-- a quiet target that isn't in the message: the last bit of another's address, and a stop, leave it as it is
other_waits : {X : Type 0} (t : Table X) (v a : ℕ) (j h : Bool) (x : X) → IsQuiet t x → h ≡ false
    → waiting_if t v 65 0 (site_of a j false x) j h ≡ released (site_of a j false x)
other_waits t v a true true x quiet is = cc
other_waits t v a true false x quiet is = ap (λ z. released (site_of a true false z)) quiet.other
other_waits t v a false h x quiet is = refl

pub quiet_last : {X : Type 0} (t : Table X) (v : ℕ) (l : Bool) (a : ℕ) (j : Bool) (x : X) → IsQuiet t x
    → is_named (shifted v l) (site_of a j false x) ≡ false
    → where_joined (λ b. fall (rise t b l)) (calling 1 v (site_of a j false x)) ≡ released (site_of a j false x)
quiet_last t v l a j x quiet other =
    call_last t v l a j false x ∙ other_waits t (shifted v l) a j (is_named (shifted v l) (site_of a j false x)) x quiet other

pub quiet_stop : {X : Type 0} (t : Table X) (a : ℕ) (j : Bool) (x : X) → IsQuiet t x
    → where_joined (finish t) (released (site_of a j false x)) ≡ released (site_of a j false x)
quiet_stop t a true x quiet = ap (λ z. released (site_of a true false z)) quiet.stop
quiet_stop t a false x quiet = refl
