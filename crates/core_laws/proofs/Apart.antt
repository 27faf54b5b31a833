-- What a step of one caller changes of the lock words answers no look of another: each is of a bus whose lock it has itself, and a
-- walk asks of those whose locks its own caller has. The inductions go over updates and over a walk.
use Rattle.core_laws.proofs.Cited.{◌≡◌, ℕ, List, [], ◌∷◌, ◌++◌, set, Option, Some, None, true, false, refl, sym, ◌∙◌, ap, subst, slice_get}
use Rattle.core_laws.proofs.Cited.{slice_index_or, get_or-set_other, LockId, BoardView, home_of_mux, Mark, Job, Call, Select, SwitchOff}
use Rattle.core_laws.proofs.Cited.{off_bus, off_mux, Act, ActOutcome, Passed, Sent, Lined, Note, MarkOf, KeptOf, WalkTree, Ends, Look, Then}
use Rattle.core_laws.proofs.Cited.{seen, first_note, IsMarkOn, OwnHeld, MarksHeld, HoldsLocks, InLocks, SeenView, mark_on, kept_of}
use Rattle.core_laws.proofs.Cited.{slots_of, marked, all_marked, updates_of_job, updates_after, applied_kept, MuxUpdate, mark_slot}
use Rattle.core_laws.proofs.Cited.{holder_in, Place, Run, Whole, numbers_of, CoreKept, seen_of, next_of, WantsIn}
use Rattle.std.specs.List.{AllByRecursion}
use Rattle.i2c_base.specs.declared.entry.End.TheVariants as end
use Rattle.i2c_base.specs.declared.ids.LockId.TheVariants as lock
use Rattle.bus_spec.specs.Walk as walk
use Rattle.mux_plan.specs.Marks.{left_open, updates_on, applied}
use Rattle.core_laws.proofs.Core.{locks-here, number-here, seat-here}
use Rattle.core_laws.proofs.Wants.{held-wants, send-wants, shift-wants}

-- an update is of a mux at home, whose bus has its lock among these
abbrev IsOwn : BoardView → List LockId → MuxUpdate → Type 0
IsOwn b held d = InLocks (lock.Mux d.on) held × (home_of_mux b d.mux ≡ d.on)

abbrev AreOwn : BoardView → List LockId → List MuxUpdate → Type 0
AreOwn b held ds = AllByRecursion (IsOwn b held) ds

module _ (b : BoardView) (held : List LockId) where
  own-push : (ds : List MuxUpdate) (d : MuxUpdate) → IsOwn b held d → AreOwn b held ds → AreOwn b held (ds ++ d ∷ [])
  own-push [] d own all = (own, all)
  own-push (x ∷ xs) d own all = (all.0, own-push xs d own all.1)

  own-all : (ms : List Mark) → MarksHeld b ms held → AreOwn b held (all_marked ms)
  own-all [] all = all
  own-all (m ∷ ms) all = own-push (all_marked ms) (marked m) all.0 (own-all ms all.1)

  own-turn : (on mux : ℕ) (c : Option ℕ) (ms : List Mark) (out : ActOutcome) → InLocks (lock.Mux on) held → home_of_mux b mux ≡ on
      → MarksHeld b ms held → AreOwn b held (updates_on on mux c ms out)
  own-turn on mux c ms Passed has home all = tt
  own-turn on mux c ms (Sent end.Ok bytes) has home all = ((has, home), tt)
  own-turn on mux c ms (Sent end.Nack bytes) has home all = ((has, home), tt)
  own-turn on mux c ms (Sent end.Slow bytes) has home all = ((has, home), tt)
  own-turn on mux c ms (Sent end.Refused bytes) has home all = ((has, home), tt)
  own-turn on mux c ms (Sent end.Proto bytes) has home all = ((has, home), tt)
  own-turn on mux c ms (Sent (end.Cut q) bytes) has home all = own-all ms all
  own-turn on mux c ms (Lined true) has home all = own-all ms all
  own-turn on mux c ms (Lined false) has home all = ((has, home), tt)

  own-job : (job : Job) (left : ℕ) (ms : List Mark) (out : ActOutcome) → OwnHeld b job held → MarksHeld b ms held
      → AreOwn b held (updates_of_job job left ms out)
  own-job (Call bus messages) left ms out own all = tt
  own-job (Select h) left ms out own all = own-turn h.on h.mux (left_open h left out) ms out own.0 own.1 all
  own-job (SwitchOff off) left ms out own all = own-turn (off_bus off) (off_mux off) None ms out own.0 own.1 all

  own-after : (act : Option Act) (note : Note) (out : ActOutcome) → WantsIn b held act note → AreOwn b held (updates_after act note out)
  own-after None note out wants = tt
  own-after (Some (walk.Take l)) note out wants = tt
  own-after (Some (walk.Free l)) note out wants = tt
  own-after (Some (walk.Send job left)) note out wants = own-job job left note.marks out wants.own wants.marked
  own-after (Some (walk.Shift job)) note out wants = own-job job 0 note.marks out wants.own wants.marked
  own-after (Some (walk.Settle verdict)) note out wants = tt

  -- the mark of another bus, and the channel of a mux at home there, stay
  module _ (p : ℕ) (other : InLocks (lock.Mux p) held → ⊥) where
    mark-stays : (ds : List MuxUpdate) (marks : List (Option ℕ)) → AreOwn b held ds
        → slice_index_or (applied ds marks) p None ≡ slice_index_or marks p None
    mark-stays [] marks all = refl
    mark-stays (d ∷ ds) marks all =
        mark-stays ds (set marks d.on d.mark) all.1
        ∙ get_or-set_other marks d.on p d.mark None (λ e. other (subst (λ (q : ℕ). InLocks (lock.Mux q) held) (sym e) all.0.0))

    kept-stays : (m : ℕ) → home_of_mux b m ≡ p → (ds : List MuxUpdate) (kept : List (Option ℕ)) → AreOwn b held ds
        → slice_index_or (applied_kept ds kept) m None ≡ slice_index_or kept m None
    kept-stays m home [] kept all = refl
    kept-stays m home (d ∷ ds) kept all =
        kept-stays m home ds (set kept d.mux d.channel) all.1
        ∙ get_or-set_other kept d.mux m d.channel None
        (λ e. other (subst (λ (q : ℕ). InLocks (lock.Mux q) held) (sym all.0.1 ∙ ap (home_of_mux b) (sym e) ∙ home) all.0.0))

-- THE LOOKS of a walk that has locks of its own
module _ (b : BoardView) (held own : List LockId) (apart : (l : LockId) → InLocks l own → InLocks l held → ⊥)
    (ds : List MuxUpdate) (all : AreOwn b held ds) (s : SeenView) (home : (p : ℕ) → IsMarkOn b p (mark_on s p)) where
  abbrev after : SeenView
  after = record { marks = applied ds s.marks; kept = applied_kept ds s.kept }

  pub seen-apart : (w : WalkTree) → HoldsLocks b own w → seen (slots_of after) w ≡ seen (slots_of s) w
  seen-apart Ends h = refl
  seen-apart (Look (MarkOf p) next) h =
      ap (λ (x : Option ℕ). seen (slots_of after) (next x))
      (mark_slot (mark_on after p) ∙ mark-stays b held p (apart (lock.Mux p) h.0) ds s.marks all)
      ∙ seen-apart (next (mark_on s p)) (h.2 (mark_on s p) (home p))
      ∙ ap (λ (x : Option ℕ). seen (slots_of s) (next x)) (sym (mark_slot (mark_on s p)))
  seen-apart (Look (KeptOf p m) next) h =
      ap (λ (x : Option ℕ). seen (slots_of after) (next x)) (kept-stays b held p (apart (lock.Mux p) h.0) m h.1 ds s.kept all)
      ∙ seen-apart (next (kept_of s m)) (h.2 (kept_of s m) tt)
  seen-apart (Then act note next) h = refl

module _ (run : Run) (whole : Whole) (core : CoreKept run whole)
    (place : ℕ) (p : Place) (here : slice_get whole.places place ≡ Some p)
    (act : Act) (first : next_of whole.locks p.tree ≡ Some act) (out : ActOutcome)
    (other : ℕ) (q : Place) (there : slice_get whole.places other ≡ Some q) (apart : other ≡ place → ⊥) where
  abbrev own : List LockId
  own = (locks-here run whole core place p here).0

  abbrev its : List LockId
  its = (locks-here run whole core other q there).0

  -- a step wants the locks of what it turns
  wants : (a : Act) → next_of whole.locks p.tree ≡ Some a → WantsIn run.board own (Some a)
      (first_note (seen (slots_of (seen_of whole.locks)) p.tree))
  wants (walk.Take l) e = tt
  wants (walk.Free l) e = tt
  wants (walk.Send job more) e = send-wants run whole core place p here job more e
  wants (walk.Shift job) e = shift-wants run whole core place p here job e
  wants (walk.Settle verdict) e = tt

  -- no lock is two callers'
  disjoint : (l : LockId) → InLocks l its → InLocks l own → ⊥
  disjoint l among among2 =
      let one = (held-wants run whole core other q there its (locks-here run whole core other q there).1 l among).1 in
      let two = (held-wants run whole core place p here own (locks-here run whole core place p here).1 l among2).1 in
      apart (same one two)
    where
      same : holder_in whole.locks l ≡ Some q.number → holder_in whole.locks l ≡ Some p.number → other ≡ place
      same one two =
          let numbers : q.number ≡ p.number = (let f : Some q.number ≡ Some p.number = sym one ∙ two in cc) in
          core.distinct other place q.number (number-here run whole core other q there)
          (subst (λ (n : ℕ). slice_get (numbers_of whole.places) place ≡ Some n) (sym numbers) (number-here run whole core place p here))

  pub looks-stay : seen (slots_of (record {
    marks = applied (updates_after (next_of whole.locks p.tree) (first_note (seen (slots_of (seen_of whole.locks)) p.tree)) out)
        whole.locks.marks;
    kept = applied_kept (updates_after (next_of whole.locks p.tree) (first_note (seen (slots_of (seen_of whole.locks)) p.tree)) out)
        whole.locks.kept;
  })) q.tree ≡ seen (slots_of (seen_of whole.locks)) q.tree
  looks-stay =
      seen-apart run.board own its disjoint
      (updates_after (next_of whole.locks p.tree) (first_note (seen (slots_of (seen_of whole.locks)) p.tree)) out)
      (subst (λ (o : Option Act). AreOwn run.board own (updates_after o (first_note (seen (slots_of (seen_of whole.locks)) p.tree)) out))
      (sym first)
      (own-after run.board own (Some act) (first_note (seen (slots_of (seen_of whole.locks)) p.tree)) out (wants act first)))
      (seen_of whole.locks) core.table.home q.tree
      (seat-here run whole core other q there).holds
