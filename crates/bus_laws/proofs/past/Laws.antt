-- What every stepwise past keeps. The induction goes over its entries.
use Rattle.std.proofs.Common.{◌≡◌, ℕ, zero, ◌<◌, Bool, true, false, cond, List, [], ◌∷◌, Option, Some, None, refl, sym, ◌∙◌, ap, subst, inl}
use Rattle.std.proofs.Common.{inr}
use Rattle.std.specs.List.{list_all}
use Rattle.i2c_base.specs.declared.ids.LockId.{LockId}
use Rattle.i2c_base.specs.declared.ids.LockId.TheVariants as lock
use Rattle.i2c_base.specs.declared.entry.End.{End}
use Rattle.i2c_base.specs.declared.transfer.TransferKind.TheVariants as transfer_kind
use Rattle.i2c_base.specs.declared.entry.Entry.{Entry}
use Rattle.i2c_base.specs.declared.entry.Entry.TheVariants as entry
use Rattle.i2c_base.specs.Board.{BoardView}
use Rattle.i2c_base.specs.Transfer.{TransferView}
use Rattle.i2c_spec.specs.Tree.{Hop, hops, root_of, IsAmongHops, IsOver}
use Rattle.i2c_spec.specs.TreeFacts.{IsTree}
use Rattle.i2c_spec.specs.Plain.{IsPlainBoard}
use Rattle.i2c_spec.specs.World.{opens_hop}
use Rattle.i2c_spec.specs.History.{Asks}
use Rattle.bus_spec.specs.Walk.{Job, Act, Take, Free, Send, Shift, Settle, ActOutcome, Passed, Note, WalkTree, job_bus}
use Rattle.bus_spec.specs.Slots.{after_job}
use Rattle.bus_spec.specs.Grammar.{first_act, first_note}
use Rattle.bus_spec.specs.Readings.{MessageEntry, OfMessage, rank, holder, is_lock}
use Rattle.bus_spec.specs.Past.{Now, current, now, world_at, sent, sent_by, lined, lined_by, talk_of}
use Rattle.bus_spec.specs.Stepwise.{IsBelow, IsNext, May, IsStepwise}
use Rattle.bus_spec.specs.Tells.{TellsMessage, HearsIn}
use Rattle.bus_spec.specs.Legal.{LocksAt, KeepsLocks}
use Rattle.bus_laws.specs.Runs.{InLocks, LeavesShut, CanSend, CanShift, MaySend, MayShift, Runs}
use Rattle.bus_laws.specs.Lines.{LinesAreLocked}
use Rattle.bus_laws.specs.Stands.{Stands, CallerStands}
use Rattle.bus_laws.specs.Reach.{AsksForMessages, HasItsPath, KeepsPathsOpen}
use Rattle.bus_laws.proofs.world.Law.{path_open}
use Rattle.bus_laws.proofs.past.StandsFacts.{current-stands}
use Rattle.bus_laws.proofs.past.StandsStep.{send_known, shift_known}
use Rattle.bus_laws.proofs.past.StandsEntries.{first_is, step-stands}
use Rattle.bus_laws.proofs.past.StandsOpening.{opening-stands}
use Rattle.bus_laws.proofs.world.Reach.{crossing_hop}

-- what no message changes, a sent step leaves as it is, and a lined step what no line step changes
pub sent-leaves : {X : Type 0} (f : Now → X) (b : BoardView) (n : Now) (c : ℕ) (o : Option Act) (note : Note) (reading : Bool)
    (bytes : List ℕ) (e : End) → ((job : Job) (left : ℕ) → f (sent b n c job left note reading bytes e (talk_of b n job left e)) ≡ f n)
    → f (sent_by b n c o note reading bytes e) ≡ f n
sent-leaves f b n c None note reading bytes e same = refl
sent-leaves f b n c (Some (Take k)) note reading bytes e same = refl
sent-leaves f b n c (Some (Free k)) note reading bytes e same = refl
sent-leaves f b n c (Some (Send job left)) note reading bytes e same = same job left
sent-leaves f b n c (Some (Shift job)) note reading bytes e same = refl
sent-leaves f b n c (Some (Settle verdict)) note reading bytes e same = refl

pub lined-leaves : {X : Type 0} (f : Now → X) (b : BoardView) (n : Now) (o : Option Act) (note : Note) (failed : Bool)
    → ((job : Job) → f (lined b n job note failed) ≡ f n) → f (lined_by b n o note failed) ≡ f n
lined-leaves f b n None note failed same = refl
lined-leaves f b n (Some (Take k)) note failed same = refl
lined-leaves f b n (Some (Free k)) note failed same = refl
lined-leaves f b n (Some (Send job left)) note failed same = refl
lined-leaves f b n (Some (Shift job)) note failed same = same job
lined-leaves f b n (Some (Settle verdict)) note failed same = refl

-- .. so the locks
pub sent_holder : (b : BoardView) (n : Now) (c : ℕ) (o : Option Act) (note : Note) (reading : Bool) (bytes : List ℕ) (e : End) (l : LockId)
    → (sent_by b n c o note reading bytes e).holder l ≡ n.holder l
sent_holder b n c o note reading bytes e l = sent-leaves (λ m. m.holder l) b n c o note reading bytes e (λ job left. refl)

pub lined_holder : (b : BoardView) (n : Now) (o : Option Act) (note : Note) (failed : Bool) (l : LockId)
    → (lined_by b n o note failed).holder l ≡ n.holder l
lined_holder b n o note failed l = lined-leaves (λ m. m.holder l) b n o note failed (λ job. refl)

-- who has a lock, as the takes and frees tell
pub holder-told : (b : BoardView) (asks : Asks) (past : List Entry) (l : LockId) → (now b asks past).holder l ≡ holder past l
holder-told b asks [] l = refl
holder-told b asks (entry.Take c k ∷ past) l = ap (λ (o : Option ℕ). cond (is_lock k l) (Some c) o) (holder-told b asks past l)
holder-told b asks (entry.Free c k ∷ past) l = ap (λ (o : Option ℕ). cond (is_lock k l) None o) (holder-told b asks past l)
holder-told b asks (entry.Message c bus purpose part parts addr reading bytes heard e ∷ past) l =
    sent_holder b (now b asks past) c (first_act (current b asks (now b asks past) c))
    (first_note (current b asks (now b asks past) c)) reading bytes e l
    ∙ holder-told b asks past l
holder-told b asks (entry.Line c mux level failed ∷ past) l =
    lined_holder b (now b asks past) (first_act (current b asks (now b asks past) c))
    (first_note (current b asks (now b asks past) c)) failed l
    ∙ holder-told b asks past l
holder-told b asks (entry.Settle c r cut ∷ past) l = holder-told b asks past l

pub below_each : (b : BoardView) (l : LockId) (held : List LockId) (k : LockId) → IsBelow b l held → InLocks k held → rank b l < rank b k
below_each b l [] k below i = absurd i
below_each b l (j ∷ js) k below i =
    elim i [ inl e ↦ subst (λ (x : LockId). rank b l < rank b x) (sym e) below.0 | inr more ↦ below_each b l js k below.1 more ]

-- a transfer that nobody asks for: nobody is under way at the opening
pub nobody : TransferView
nobody = record { bus = 0; kind = transfer_kind.Plain; force = false; msgs = []; out = [] }

module _ (b : BoardView) (tree : IsTree b) (plain : IsPlainBoard b) (lines : LinesAreLocked b) (asks : Asks) (some : AsksForMessages asks)
    (callers : ℕ) where
  -- THE INDUCTION over the entries
  pub past-stands : (past : List Entry) → IsStepwise b callers asks past → Stands b (now b asks past)
  past-stands [] steps = opening-stands b nobody
  past-stands (e ∷ past) steps =
      step-stands b tree plain lines asks some callers (now b asks past) (past-stands past steps.1) e steps.0

  -- THE NEXT STEP
  module _ (past : List Entry) (steps : IsStepwise b callers asks past) (c : ℕ) where
    abbrev n : Now
    n = now b asks past

    pub cur : CallerStands b (n.held c) (current b asks n c) n.slot
    cur = current-stands b tree lines asks some n c (past-stands past steps)

    -- what the next message, and the next line step, finds
    pub sends : (job : Job) (left : ℕ) → IsNext b asks n c (Send job left)
        → MaySend b cur.whose job left (first_note (current b asks n c)).marks (n.held c) n.slot
    sends job left next =
        let at = first_is (current b asks n c) (Send job left) next in
        let runs : MaySend b cur.whose job left at.0.marks (n.held c) cur.view
        × ((out : ActOutcome) → CanSend b job left out
        → Runs b cur.whose (n.held c) (after_job job left at.0.marks out cur.view) (at.1 out)) =
        subst (λ (w : WalkTree). Runs b cur.whose (n.held c) cur.view w) at.2 cur.runs in
        subst (λ (w : WalkTree). MaySend b cur.whose job left (first_note w).marks (n.held c) n.slot) (sym at.2)
        (send_known b (n.held c) cur.view n.slot cur.agree cur.whose job left at.0.marks runs.0)

    pub shifts : (job : Job) → IsNext b asks n c (Shift job) → MayShift b job (first_note (current b asks n c)).marks (n.held c) n.slot
    shifts job next =
        let at = first_is (current b asks n c) (Shift job) next in
        let runs : MayShift b job at.0.marks (n.held c) cur.view
        × ((out : ActOutcome) → CanShift b job out → Runs b cur.whose (n.held c) (after_job job zero at.0.marks out cur.view) (at.1 out)) =
        subst (λ (w : WalkTree). Runs b cur.whose (n.held c) cur.view w) at.2 cur.runs in
        subst (λ (w : WalkTree). MayShift b job (first_note w).marks (n.held c) n.slot) (sym at.2)
        (shift_known b (n.held c) cur.view n.slot cur.agree job at.0.marks runs.0)

  -- LOCKS
  locks_at : (e : Entry) (past : List Entry) → Stands b (now b asks past) → May b callers asks (now b asks past) e → LocksAt b e past
  locks_at (entry.Take c l) past stands may = (
    sym (holder-told b asks past l) ∙ may.3,
    λ k has. below_each b l ((now b asks past).held c) k may.4 (stands.has c k (holder-told b asks past k ∙ has)),
  )
  locks_at (entry.Free c l) past stands may =
      let cur = current-stands b tree lines asks some (now b asks past) c stands in
      let at = first_is (current b asks (now b asks past) c) (Free l) may.2 in
      let runs : (rest : List LockId) × ((now b asks past).held c ≡ l ∷ rest) × LeavesShut b l cur.view
      × Runs b cur.whose rest cur.view (at.1 Passed) =
      subst (λ (w : WalkTree). Runs b cur.whose ((now b asks past).held c) cur.view w) at.2 cur.runs in
      sym (holder-told b asks past l) ∙ stands.holds c l (subst (λ (ls : List LockId). InLocks l ls) (sym runs.1) (inl refl))
  locks_at (entry.Message c bus purpose part parts addr reading bytes heard e) past stands may = tt
  locks_at (entry.Line c mux level failed) past stands may = tt
  locks_at (entry.Settle c r cut) past stands may = tt

  pub locks-kept : (past : List Entry) → IsStepwise b callers asks past → KeepsLocks b past
  locks-kept [] steps = tt
  locks-kept (e ∷ past) steps = (locks_at e past (past-stands past steps.1) steps.0, locks-kept past steps.1)

  -- OPEN PATHS
  message_open : (past : List Entry) → IsStepwise b callers asks past → (job : Job) (left : ℕ) (m : MessageEntry)
      → TellsMessage b (now b asks past) job left m → IsNext b asks (now b asks past) m.caller (Send job left) → HasItsPath b asks past m
  message_open past steps job left m tells next =
      record {
        path_open = subst (λ (s : ℕ). list_all (opens_hop (world_at b asks past (root_of b s)).chips) (hops b s) ≡ true) (sym tells.on_bus)
            (path_open b tree plain (now b asks past).slot (now b asks past).worlds stands.told (job_bus job) (λ g a. (may.reached g a).0));
        heard_told = subst (λ (s : ℕ). HearsIn (world_at b asks past (root_of b s)) m.addr m.reading m.heard m.end)
            (sym tells.on_bus) tells.heard_told;
        rooted = subst (λ (s : ℕ). holder past (lock.Bus (root_of b s)) ≡ Some m.caller) (sym tells.on_bus)
            (has (lock.Bus (root_of b (job_bus job))) may.rooted);
        locked = subst (λ (s : ℕ). (q : ℕ) → IsOver b q s → (q ≡ s → ⊥) → holder past (lock.Mux q) ≡ Some m.caller) (sym tells.on_bus)
            (λ q on_path other. on_its_path q (job_bus job) on_path other (λ g a. has (lock.Mux g.on) (may.reached g a).1));
      }
    where
      stands : Stands b (now b asks past)
      stands = past-stands past steps

      may : MaySend b (cur past steps m.caller).whose job left (first_note (current b asks (now b asks past) m.caller)).marks
          ((now b asks past).held m.caller) (now b asks past).slot
      may = sends past steps m.caller job left next

      on_its_path : (q s : ℕ) → IsOver b q s → (q ≡ s → ⊥)
          → ((g : Hop) → IsAmongHops g (hops b s) → holder past (lock.Mux g.on) ≡ Some m.caller)
          → holder past (lock.Mux q) ≡ Some m.caller
      on_its_path q s on_path other locked =
          elim on_path [
            | inl same ↦ absurd (other same)
            | inr crossed ↦ (let g = crossing_hop q (hops b s) crossed in
                subst (λ (p : ℕ). holder past (lock.Mux p) ≡ Some m.caller) g.2 (locked g.0 g.1))
          ]

      -- what the caller counts among its locks it has
      has : (l : LockId) → InLocks l ((now b asks past).held m.caller) → holder past l ≡ Some m.caller
      has l counted = sym (holder-told b asks past l) ∙ stands.holds m.caller l counted

  open_at : (e : Entry) (past : List Entry) → IsStepwise b callers asks (e ∷ past) → OfMessage (HasItsPath b asks past) e
  open_at (entry.Take c l) past steps = tt
  open_at (entry.Free c l) past steps = tt
  open_at (entry.Line c mux level failed) past steps = tt
  open_at (entry.Settle c r cut) past steps = tt
  open_at (entry.Message c bus purpose part parts addr reading bytes heard e) past steps =
      message_open past steps.1 steps.0.2.0 steps.0.2.1 _ steps.0.2.3 steps.0.2.2

  pub open-kept : (past : List Entry) → IsStepwise b callers asks past → KeepsPathsOpen b asks past
  open-kept [] steps = tt
  open-kept (e ∷ past) steps = (open_at e past steps, open-kept past steps.1)
