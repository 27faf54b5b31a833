-- Who is held up in memory is stuck by the journal, and who isn't is not. No induction.
use Rattle.core_laws.proofs.Cited.{◌≡◌, ℕ, true, IsTrue, Some, None, sym, ◌∙◌, ap, inl, inr, slice_get, LockId, Act, Take, WalkTree, seen}
use Rattle.core_laws.proofs.Cited.{first_act, current, is_due, now, slots_of, ahead, IsHeldUp, holder_in, seen_of, SpotTold, IsTold, Place}
use Rattle.core_laws.proofs.Cited.{spot_of, spots_of, numbers_of, IsLone, CoreKept, Run, Whole, next_of, IsLockOf, map_at}
use Rattle.bus_spec.specs.Readings.{holder}
use Rattle.bus_laws.proofs.past.Laws.{holder-told}
use Rattle.bus_laws.specs.Ready.{IsStuck}
use Rattle.core_laws.proofs.Core.{stands-here}
use Rattle.core_laws.proofs.Looks.{looks-same}
use Rattle.core_laws.proofs.Table.{lock-there}
use Rattle.core_laws.proofs.Wants.{take-wants}

module _ (run : Run) (whole : Whole) (core : CoreKept run whole) (tell : IsTrue run.tells) (place : ℕ) (p : Place)
    (here : slice_get whole.places place ≡ Some p) where
  told : IsTold run.board run.callers run.asks whole.past (spots_of whole.places) whole.locks whole.sockets None
  told = core.told tell

  own : SpotTold run.board run.asks (now run.board run.asks whole.past) (spot_of p)
  own = told.spots_told place (spot_of p) (map_at spot_of whole.places place p here)

  -- the next step in memory is the one that the journal tells
  pub next-same : first_act (current run.board run.asks (now run.board run.asks whole.past) p.number) ≡ next_of whole.locks p.tree
  next-same = ap (λ (w : WalkTree). first_act (seen (now run.board run.asks whole.past).slot w)) own.walk
      ∙ ap (λ (w : WalkTree). first_act w) (looks-same run whole core tell place p _ _ (stands-here run whole core place p here))

  -- and so is who has a lock
  pub holder-same : (l : LockId) (c : ℕ) → holder_in whole.locks l ≡ Some c → holder whole.past l ≡ Some c
  holder-same l c h = sym (holder-told run.board run.asks whole.past l)
      ∙ sym (told.locks_told.holder l (lock-there run.board whole.locks (numbers_of whole.places) whole.held core.table l c h)) ∙ h

  pub held-up-stuck : IsHeldUp (holder_in whole.locks) (slots_of (seen_of whole.locks)) p.tree
      → IsStuck run.board run.asks whole.past p.number
  held-up-stuck (inl none) = inr (next-same ∙ none)
  held-up-stuck (inr w) = inl (w.0, w.1, next-same ∙ w.2, holder-same w.0 w.1 w.3)

  -- whose next step is no lock that somebody has isn't stuck
  pub free-ready : (act : Act) → next_of whole.locks p.tree ≡ Some act → ((l : LockId) → act ≡ Take l → holder_in whole.locks l ≡ None)
      → IsStuck run.board run.asks whole.past p.number → ⊥
  free-ready act first free (inr none) = (let f : Some act ≡ None = sym first ∙ sym next-same ∙ none in cc)
  free-ready act first free (inl w) =
      let same : Some act ≡ Some (Take w.0) = sym first ∙ sym next-same ∙ w.2 in
      let is : act ≡ Take w.0 = cc in
      let there : IsLockOf run.board w.0 = (take-wants run whole core place p here w.0 (first ∙ same)).1 in
      let nobody : holder whole.past w.0 ≡ None = sym (holder-told run.board run.asks whole.past w.0)
      ∙ sym (told.locks_told.holder w.0 there) ∙ free w.0 is in
      (let f : None ≡ Some w.1 = sym nobody ∙ w.3 in cc)

  -- a lone settle is all that is ahead, as a turn of one settle wants it
  pub lone-due : IsLone run.board p.tree → is_due (first_act (ahead run.board run.asks (now run.board run.asks whole.past) p.number)) ≡ true
  lone-due lone = ap (λ (w : WalkTree). is_due (first_act w)) (own.walk ∙ lone.is)
