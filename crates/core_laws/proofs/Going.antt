-- Of which transfer a walk under way is, and what is owed where it ends or is a lone settle. No induction.
use Rattle.core_laws.proofs.Cited.{◌≡◌, ℕ, true, [], ◌∷◌, Option, Some, sym, ◌∙◌, ap, subst, inl, inr, slice_get, LockId, Errno, Reply}
use Rattle.core_laws.proofs.Cited.{Fits, Act, Free, Settle, Passed, WalkTree, is_over, Settles, over_ends, quiet-next, slots_of, Place}
use Rattle.core_laws.proofs.Cited.{has_reply, IsLone, IsGoing, Run, Whole, CoreKept, IsLeft, next_of, behind_of, seen_of}
use Rattle.core_laws.proofs.Core.{owes-here, stands-here, going-on, left-on}
use Rattle.core_laws.proofs.WalkSteps.{left-freed}

module _ (run : Run) (whole : Whole) (core : CoreKept run whole) (place : ℕ) (p : Place)
    (here : slice_get whole.places place ≡ Some p) where
  module _ (act : Act) (first : next_of whole.locks p.tree ≡ Some act) where
    its : IsGoing run p (owes-here run whole core place p here).0
    its = going-on run whole core place p _ _ (stands-here run whole core place p here) act first

    -- WHO HAS A NEXT STEP asks for the transfer that its walk is of
    pub going-asks : run.asks p.number p.taken ≡ Some p.transfer
    going-asks = its.asked

    -- .. and a reply that it is owed fits that
    pub going-fits : (r : Reply) → p.owed ≡ r ∷ [] → Fits p.transfer r
    going-fits r owed = its.fits r owed

  -- A WALK THAT ENDS with the lock that is freed next has settled
  pub end-owes : (l : LockId) → next_of whole.locks p.tree ≡ Some (Free l) → is_over (behind_of whole.locks p.tree Passed) ≡ true
      → has_reply p.owed ≡ true
  end-owes l first ends =
      let left : IsLeft run.board p.transfer (has_reply p.owed) p.sent p.tree =
      left-on run whole core place p _ _ (stands-here run whole core place p here) (Free l) first
      (λ verdict is. let f : Free l ≡ Settle verdict = is in cc) in
      subst (λ (w : WalkTree). Settles (has_reply p.owed) w) (over_ends (behind_of whole.locks p.tree Passed) ends)
      (left-freed run.board p.transfer (slots_of (seen_of whole.locks)) p.tree (has_reply p.owed) p.sent left l first).settles

  -- A SETTLE THAT COMES NEXT is the lone one of a transfer that is refused
  pub settle-lone : (verdict : Option Errno) → next_of whole.locks p.tree ≡ Some (Settle verdict) → IsLone run.board p.tree × (p.owed ≡ [])
  settle-lone verdict first =
      elim (its (Settle verdict) first).is_left
      [ inl is ↦ absurd (quiet-next (slots_of (seen_of whole.locks)) p.tree is.quiet verdict first) | inr lone ↦ lone ]

  -- .. and has its errno
  pub settle-errs : (verdict : Option Errno) (first : next_of whole.locks p.tree ≡ Some (Settle verdict))
      → verdict ≡ Some (settle-lone verdict first).0.errno
  settle-errs verdict first =
      let lone = settle-lone verdict first in
      let same : Some (Settle verdict) ≡ Some (Settle (Some lone.0.errno)) = sym first
      ∙ ap (λ (w : WalkTree). next_of whole.locks w) lone.0.is in
      (let f : verdict ≡ Some lone.0.errno = cc in f)
