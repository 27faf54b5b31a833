-- Whose walk has no next step has ended, and its caller asks for nothing more. No induction.
use Rattle.core_laws.proofs.Cited.{◌≡◌, ℕ, Bool, true, false, List, [], Some, None, refl, sym, ◌∙◌, ap, subst, inl, inr, slice_get, LockId}
use Rattle.core_laws.proofs.Cited.{BoardView, WalkTree, Ends, Look, Then, Slots, mark_in, seen, is_over, first_act, IsMarkOn, HoldsLocks}
use Rattle.core_laws.proofs.Cited.{InLocks, IsHeldUp, over_ends, holds_seen, slots_of, holder_in, Place, trees_of, Run, Whole, SeatKept}
use Rattle.core_laws.proofs.Cited.{CoreKept, next_of, seen_of}
use Rattle.i2c_base.specs.declared.ids.LockId.TheVariants as lock
use Rattle.bus_spec.specs.Walk.{ask_bus}
use Rattle.bus_laws.proofs.past.Ready.{act_or_end}
use Rattle.core_laws.proofs.Core.{locks-here, owes-here, seat-here, tree-here}
use Rattle.core_laws.proofs.Holding.{home_seen}
use Rattle.core_laws.proofs.Opens.{none-ready}

-- a look holds a lock, so a step comes after it
none_over : (b : BoardView) (v : Slots) → ((p : ℕ) → IsMarkOn b p (mark_in (v p).slot)) → (ls : List LockId) (w : WalkTree)
    → HoldsLocks b ls w → first_act (seen v w) ≡ None → is_over w ≡ true
none_over b v home ls Ends holds none = refl
none_over b v home ls (Look ask next) holds none =
    elim (act_or_end v (Look ask next)) [
      | inl ends ↦ (let nothing : ls ≡ [] = subst (λ (w : WalkTree). HoldsLocks b ls w) ends
          (holds_seen b ls v home (Look ask next) holds) in
          absurd (subst (λ (ks : List LockId). InLocks (lock.Mux (ask_bus ask)) ks) nothing holds.0))
      | inr act ↦ absurd (let f : None ≡ Some act.0 = sym none ∙ act.1 in cc)
    ]
none_over b v home ls (Then act note next) holds none = absurd (let f : Some act ≡ None = none in cc)

module _ (run : Run) (whole : Whole) (core : CoreKept run whole) where
  module _ (place : ℕ) (p : Place) (here : slice_get whole.places place ≡ Some p) where
    seat : SeatKept run p (locks-here run whole core place p here).0 (owes-here run whole core place p here).0
    seat = seat-here run whole core place p here

    pub finished-over : next_of whole.locks p.tree ≡ None → is_over p.tree ≡ true
    finished-over none =
        none_over run.board (slots_of (seen_of whole.locks))
        (home_seen run.board (seen_of whole.locks) core.table.home (locks-here run whole core place p here).0 p.tree seat.holds)
        (locks-here run whole core place p here).0 p.tree seat.holds none

    -- WHO HAS NO NEXT STEP asks for nothing more, and was handed all its replies
    pub finished-asks : next_of whole.locks p.tree ≡ None → (run.asks p.number p.taken ≡ None) × (p.owed ≡ [])
    finished-asks none = seat.over (finished-over none)

    -- .. and who asks for nothing more has none
    pub asks-finished : run.asks p.number p.taken ≡ None → next_of whole.locks p.tree ≡ None
    asks-finished nothing = by (is_over p.tree) refl
      where
        by : (t : Bool) → is_over p.tree ≡ t → next_of whole.locks p.tree ≡ None
        by true over = ap (λ (w : WalkTree). next_of whole.locks w) (over_ends p.tree over)
        by false goes = absurd (let f : None ≡ Some p.transfer = sym nothing ∙ (seat.going goes).asked in cc)

  -- WHERE ALL ARE HELD UP all have finished
  pub all-finished : ((i : ℕ) (w : WalkTree) → slice_get (trees_of whole.places) i ≡ Some w
      → IsHeldUp (holder_in whole.locks) (slots_of (seen_of whole.locks)) w)
      → (place : ℕ) (p : Place) → slice_get whole.places place ≡ Some p → (run.asks p.number p.taken ≡ None) × (p.owed ≡ [])
  all-finished up place p here = finished-asks place p here
      (none-ready run whole core up place p.tree (tree-here run whole core place p here))
