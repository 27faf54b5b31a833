-- What a change at one bus leaves at the others. The inductions go over a list of marks.
use Rattle.bus_laws.proofs.Cited.{◌≡◌, ℕ, cond, List, [], ◌∷◌, Option, Some, None, refl, sym, ◌∙◌, ap, inl, inr, eq-eqb, ne_eqb, eqb_tells}
use Rattle.bus_laws.proofs.Cited.{changed_at, Mark, Slots, At, MuxSlot, Clean, Marked, Polled, Found, turned, turned_at, set_marks, mark_in}
use Rattle.bus_laws.proofs.Cited.{IsShut, IsUnmarked}

pub changed-same : (v : Slots) (p : ℕ) (x : At) → changed_at v p x p ≡ x
changed-same v p x = ap (λ t. cond t x (v p)) (eq-eqb p p refl)

pub changed-other : (v : Slots) (p q : ℕ) (x : At) → (q ≡ p → ⊥) → changed_at v p x q ≡ v q
changed-other v p q x ne = ap (λ t. cond t x (v q)) (ne_eqb q p ne)

pub turned-same : (v : Slots) (p m : ℕ) (s : MuxSlot) (c : Option ℕ) → turned v p m s c p ≡ turned_at (v p) m s c
turned-same v p m s c = ap (λ t. cond t (turned_at (v p) m s c) (v p)) (eq-eqb p p refl)

pub turned-other : (v : Slots) (p m q : ℕ) (s : MuxSlot) (c : Option ℕ) → (q ≡ p → ⊥) → turned v p m s c q ≡ v q
turned-other v p m q s c ne = ap (λ t. cond t (turned_at (v p) m s c) (v q)) (ne_eqb q p ne)

-- equal knowledge stays equal through a change
pub turned-along : (v w : Slots) (p m q : ℕ) (s : MuxSlot) (c : Option ℕ) → v q ≡ w q → turned v p m s c q ≡ turned w p m s c q
turned-along v w p m q s c e =
    elim (eqb_tells q p) [
      | inl h ↦ ap (λ t. cond t (turned_at (v p) m s c) (v q)) h.0
          ∙ ap (λ (x : At). turned_at x m s c) (ap v (sym h.1) ∙ e ∙ ap w h.1)
          ∙ sym (ap (λ t. cond t (turned_at (w p) m s c) (w q)) h.0)
      | inr h ↦ turned-other v p m q s c h.1 ∙ e ∙ sym (turned-other w p m q s c h.1)
    ]

pub set_marks-other : (ms : List Mark) (v : Slots) (p : ℕ) → IsUnmarked p ms → set_marks ms v p ≡ v p
set_marks-other [] v p off = refl
set_marks-other (m ∷ ms) v p off = changed-other (set_marks ms v) m.on p (turned_at (v m.on) m.mux (Marked m.mux) None) off.0
    ∙ set_marks-other ms v p off.1

pub set_marks-along : (ms : List Mark) (v w : Slots) (p : ℕ) → v p ≡ w p → set_marks ms v p ≡ set_marks ms w p
set_marks-along [] v w p e = e
set_marks-along (m ∷ ms) v w p e =
    elim (eqb_tells p m.on) [
      | inl h ↦ ap (λ t. cond t (turned_at (v m.on) m.mux (Marked m.mux) None) (set_marks ms v p)) h.0
          ∙ ap (λ (x : At). turned_at x m.mux (Marked m.mux) None) (ap v (sym h.1) ∙ e ∙ ap w h.1)
          ∙ sym (ap (λ t. cond t (turned_at (w m.on) m.mux (Marked m.mux) None) (set_marks ms w p)) h.0)
      | inr h ↦ changed-other (set_marks ms v) m.on p (turned_at (v m.on) m.mux (Marked m.mux) None) h.1 ∙ set_marks-along ms v w p e
          ∙ sym (changed-other (set_marks ms w) m.on p (turned_at (w m.on) m.mux (Marked m.mux) None) h.1)
    ]

pub set_marks-head : (m : Mark) (ms : List Mark) (v : Slots) → set_marks (m ∷ ms) v m.on ≡ turned_at (v m.on) m.mux (Marked m.mux) None
set_marks-head m ms v = changed-same (set_marks ms v) m.on (turned_at (v m.on) m.mux (Marked m.mux) None)

-- a shut bus without a mark is clean
pub shut_clean : (s : MuxSlot) → IsShut s → mark_in s ≡ None → s ≡ Clean
shut_clean Clean h e = refl
shut_clean (Marked m) h e = cc
shut_clean (Polled g more) h e = absurd h
shut_clean (Found g) h e = absurd h

pub marked_slot : (s : MuxSlot) (m : ℕ) → mark_in s ≡ Some m → s ≡ Marked m
marked_slot Clean m e = cc
marked_slot (Marked k) m e = ap Marked (let h : Some k ≡ Some m = e in cc)
marked_slot (Polled g more) m e = cc
marked_slot (Found g) m e = cc
