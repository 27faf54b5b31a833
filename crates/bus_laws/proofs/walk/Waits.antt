-- Not all can wait: where each walk has ended or waits, all have ended. The induction goes over the rank of what is waited for.
use Rattle.bus_laws.proofs.Cited.{◌≡◌, ℕ, zero, suc, ◌<◌, List, [], ◌∷◌, length, Option, Some, None, refl, subst, inl, inr, arith}
use Rattle.bus_laws.proofs.Cited.{slice_get, slice_get_within, LockId, BoardView, Act, Take, Ask, MarkOf, KeptOf, WalkTree, Ends, Look}
use Rattle.bus_laws.proofs.Cited.{Then, Slots, answer_to, mark_in, seen, first_act, rank, IsBelow, InLocks, IsMarkOn, HoldsLocks}
use Rattle.bus_laws.proofs.past.Laws.{below_each}
use Rattle.bus_laws.specs.Holds.{MayAnswer}
use Rattle.bus_laws.specs.Waiting.{LocksKept, IsHeldUp}

-- what is known may answer every question
answers : (b : BoardView) (v : Slots) → ((p : ℕ) → IsMarkOn b p (mark_in (v p).slot)) → (ask : Ask) → MayAnswer b ask (answer_to v ask)
answers b v marks (MarkOf p) = marks p
answers b v marks (KeptOf p m) = tt

-- the looks in front of a walk leave what it holds
pub holds_seen : (b : BoardView) (held : List LockId) (v : Slots) → ((p : ℕ) → IsMarkOn b p (mark_in (v p).slot)) → (w : WalkTree)
    → HoldsLocks b held w → HoldsLocks b held (seen v w)
holds_seen b held v marks Ends h = h
holds_seen b held v marks (Look ask next) h = holds_seen b held v marks (next (answer_to v ask))
    (h.2 (answer_to v ask) (answers b v marks ask))
holds_seen b held v marks (Then act note next) h = h

-- a walk that has ended holds nothing; one that takes a lock takes a lower one than it holds
ended : (b : BoardView) (held : List LockId) (w : WalkTree) → HoldsLocks b held (w) → first_act w ≡ None
    → ((m : _) (n : _) → w ≡ Look m n → ⊥) → held ≡ []
ended b held Ends h e never = h
ended b held (Look ask next) h e never = absurd (never ask next refl)
ended b held (Then act note next) h e never = absurd (let f : Some act ≡ None = e in cc)

below : (b : BoardView) (held : List LockId) (w : WalkTree) → HoldsLocks b held w → (l : LockId) → first_act w ≡ Some (Take l)
    → IsBelow b l held
below b held Ends h l e = absurd (let f : None ≡ Some (Take l) = e in cc)
below b held (Look ask next) h l e = absurd (let f : None ≡ Some (Take l) = e in cc)
below b held (Then act note next) h l e =
    (subst (λ (a : Act). HoldsLocks b held (Then a note next)) (let f : Some act ≡ Some (Take l) = e in let g : act ≡ Take l = cc in g) h).1

no_look : (v : Slots) (w : WalkTree) (m : _) (n : _) → seen v w ≡ Look m n → ⊥
no_look v Ends m n e = (let f : Ends ≡ Look m n = e in cc)
no_look v (Look ask next) m n e = no_look v (next (answer_to v ask)) m n e
no_look v (Then act note next) m n e = (let f : Then act note next ≡ Look m n = e in cc)

module _ (b : BoardView) (trees : List WalkTree) (held : List (List LockId)) (numbers : List ℕ) (holder : LockId → Option ℕ) (v : Slots)
    (kept : LocksKept b trees held numbers holder v)
    (all : (i : ℕ) (w : WalkTree) → slice_get trees i ≡ Some w → IsHeldUp holder v w) where
  tree_there : (i : ℕ) (ls : List LockId) → slice_get held i ≡ Some ls → (w : WalkTree) × (slice_get trees i ≡ Some w)
  tree_there i ls at = by (slice_get trees i) refl
    where
      by : (o : Option WalkTree) → slice_get trees i ≡ o → (w : WalkTree) × (slice_get trees i ≡ Some w)
      by (Some w) e = (w, e)
      by None e = absurd (none_there trees i e (let low : i < length held = slice_get_within held i ls at in
          omega (arith, low, kept.counted)))
        where
          none_there : (xs : List WalkTree) (k : ℕ) → slice_get xs k ≡ None → k < length xs → ⊥
          none_there [] k e low = omega (arith, low)
          none_there (x ∷ xs) zero e low = (let f : Some x ≡ None = e in cc)
          none_there (x ∷ xs) (suc k) e low = none_there xs k e (omega (arith, low))

  -- nobody waits for a lock
  nobody : (fuel : ℕ) (l : LockId) (c : ℕ) → holder l ≡ Some c → rank b l < fuel → ⊥
  nobody zero l c has low = omega (arith, low)
  nobody (suc fuel) l c has low =
      let h = kept.has l c has in
      let t = tree_there h.0 h.1 h.2 in
      let runs : HoldsLocks b h.1 (seen v t.0) = holds_seen b h.1 v kept.marks t.0 (kept.holds h.0 t.0 h.1 t.1 h.2) in
      elim (all h.0 t.0 t.1) [
        | inl over ↦ (let none : h.1 ≡ [] = ended b h.1 (seen v t.0) runs over (no_look v t.0) in
            subst (λ (ls : List LockId). InLocks l ls) none h.4)
        | inr waits ↦ (let lower : rank b waits.0 < rank b l = below_each b waits.0 h.1 l
            (below b h.1 (seen v t.0) runs waits.0 waits.2) h.4 in
            nobody fuel waits.0 waits.1 waits.3 (omega (arith, lower, low)))
      ]

  pub all-ended : (i : ℕ) (w : WalkTree) → slice_get trees i ≡ Some w → first_act (seen v w) ≡ None
  all-ended i w at = elim (all i w at)
      [ inl over ↦ over | inr waits ↦ absurd (nobody (suc (rank b waits.0)) waits.0 waits.1 waits.3 (omega arith)) ]
