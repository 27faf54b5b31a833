-- Two journals that follow one schedule, and in which the same calls of the ports failed, are the same. The inductions go
-- over the words of the schedule, and over the steps after the last word.
use Rattle.journal_laws.proofs.Cited.{◌≡◌, ℕ, ◌<◌, ◌≤◌, Bool, true, false, not, cond, List, [], ◌∷◌, ◌++◌, Option, Some, None, refl, sym}
use Rattle.journal_laws.proofs.Cited.{◌∙◌, ap, subst, inl, inr, append_assoc, arith, eqb_tells, leb_tells, LockId, Entry, PortCall}
use Rattle.journal_laws.proofs.Cited.{BoardView, TransferView, End, root_of, IsTree, IsPlainBoard, Asks, changed_at, Act, Take, Free, Send}
use Rattle.journal_laws.proofs.Cited.{Shift, Settle, Note, WalkTree, job_bus, seen, is_over, first_act, first_note, caller_of, holder, Now}
use Rattle.journal_laws.proofs.Cited.{begun, current, now, step, is_due, talk_of, line_call, sent_by, lined_by, May, IsNext, IsStepwise}
use Rattle.journal_laws.proofs.Cited.{Turn, turns, is_ready, is_settle, past_after, FollowsRest, FollowsWords, Follows, IsComplete}
use Rattle.journal_laws.proofs.Cited.{LinesAreLocked, AsksForMessages, CanGoOn, ahead, IsTurn, Comes, after_all, at_same, at_other}
use Rattle.journal_laws.proofs.Cited.{past-stands, holder-told, settled-told, IsDueBehind, due-made, Does, does-next, never, entry_known}
use Rattle.std.proofs.Common.{◌↔◌}
use Rattle.std.specs.Prelude.{reverse, MatchBool, ◌==◌}
use Rattle.std.specs.List.{find}
use Rattle.i2c_base.specs.declared.entry.Entry.TheVariants as entry
use Rattle.i2c_base.specs.declared.port.PortCall.TheVariants as call
use Rattle.journal_laws.proofs.Cited.{length, length-reverse}
use Rattle.std.proofs.lemmas.Option.{slice_get_within}
use Rattle.bus_spec.specs.Failures.{FailAlike, HasFailed, HasMade}
use Rattle.bus_spec.specs.Past.{calls_of}
use Rattle.bus_spec.specs.Schedule.{waits_for, is_taken}
use Rattle.bus_spec.specs.Legal.{is_stepping}
use Rattle.bus_laws.specs.Coming.{IsOne, IsTwo}
use Rattle.journal_laws.proofs.past.GoesOn.{goes-on-or-stuck}
use Rattle.journal_laws.proofs.past.OneEntry.{Logs, FailIn, GoOnFrom, one-entry}
use Rattle.bus_laws.proofs.schedule.Coming.{ready_by, turn-leaves, first_of, stuck-waits, turn-ready, word-made, word-passed}
use Rattle.bus_laws.proofs.schedule.Turns.{quiet-behind}
use Rattle.journal_laws.proofs.schedule.Whole.{ComeWhole, all-come, IsItsTurns, whole-comes, alone_due}

-- LOGS only grow
module _ (b : BoardView) (asks : Asks) where
  root_more : (calls : ℕ → List PortCall) (s r : ℕ) (new : List PortCall)
      → (more : List PortCall) × (changed_at calls s (new ++ calls s) r ≡ more ++ calls r)
  root_more calls s r new =
      elim (eqb_tells r s) [
        | inl h ↦ (
          new,
          subst (λ (i : ℕ). changed_at calls s (new ++ calls s) i ≡ new ++ calls i) (sym h.1)
              (at_same calls s (new ++ calls s)),
        )
        | inr h ↦ ([], at_other calls s (new ++ calls s) r h.1)
      ]

  sent_more : (n : Now) (c r : ℕ) (o : Option Act) (note : Note) (reading : Bool) (bytes : List ℕ) (e : End)
      → (more : List PortCall) × ((sent_by b n c o note reading bytes e).calls r ≡ more ++ n.calls r)
  sent_more n c r None note reading bytes e = ([], refl)
  sent_more n c r (Some (Take l)) note reading bytes e = ([], refl)
  sent_more n c r (Some (Free l)) note reading bytes e = ([], refl)
  sent_more n c r (Some (Shift job)) note reading bytes e = ([], refl)
  sent_more n c r (Some (Settle v)) note reading bytes e = ([], refl)
  sent_more n c r (Some (Send job left)) note reading bytes e = root_more n.calls (root_of b (job_bus job)) r (talk_of b n job left e).calls

  lined_more : (n : Now) (r : ℕ) (o : Option Act) (note : Note) (failed : Bool)
      → (more : List PortCall) × ((lined_by b n o note failed).calls r ≡ more ++ n.calls r)
  lined_more n r None note failed = ([], refl)
  lined_more n r (Some (Take l)) note failed = ([], refl)
  lined_more n r (Some (Free l)) note failed = ([], refl)
  lined_more n r (Some (Send job left)) note failed = ([], refl)
  lined_more n r (Some (Settle v)) note failed = ([], refl)
  lined_more n r (Some (Shift job)) note failed = root_more n.calls (root_of b (job_bus job)) r (line_call job failed ∷ [])

  entry_more : (n : Now) (e : Entry) → GoOnFrom n.calls (step b asks n e).calls
  entry_more n (entry.Take c l) = λ r. ([], refl)
  entry_more n (entry.Free c l) = λ r. ([], refl)
  entry_more n (entry.Settle c x cut) = λ r. ([], refl)
  entry_more n (entry.Message c bus why part parts addr reading bytes heard e) = λ r. sent_more n c r (first_act (current b asks n c))
      (first_note (current b asks n c)) reading bytes e
  entry_more n (entry.Line c mux level failed) = λ r. lined_more n r (first_act (current b asks n c))
      (first_note (current b asks n c)) failed

  more_both : (f g h : ℕ → List PortCall) → GoOnFrom f g → GoOnFrom g h → GoOnFrom f h
  more_both f g h fg gh = λ r.
      let one = fg r in
      let two = gh r in
      (two.0 ++ one.0, two.1 ∙ ap (λ (cs : List PortCall). two.0 ++ cs) one.1 ∙ sym (append_assoc two.0 one.0 (f r)))

  entries_more : (es past : List Entry) → GoOnFrom (now b asks past).calls (now b asks (es ++ past)).calls
  entries_more [] past = λ r. ([], refl)
  entries_more (e ∷ es) past =
      more_both (now b asks past).calls (now b asks (es ++ past)).calls (now b asks (e ∷ (es ++ past))).calls (entries_more es past)
      (entry_more (now b asks (es ++ past)) e)

  all_more : (past : List Entry) (ts : List Turn) → GoOnFrom (now b asks past).calls (now b asks (after_all past ts)).calls
  all_more past [] = λ r. ([], refl)
  all_more past (t ∷ ts) =
      more_both (now b asks past).calls (now b asks (past_after past t)).calls (now b asks (after_all (past_after past t) ts)).calls
      (entries_more (reverse t.entries) past) (all_more (past_after past t) ts)

turn_is : (t u : Turn) → t.caller ≡ u.caller → t.entries ≡ u.entries → t ≡ u
turn_is t u callers entries =
    ap (λ (c : ℕ). (let x : Turn = record { caller = c; entries = t.entries } in x)) callers
    ∙ ap (λ (es : List Entry). (let x : Turn = record { caller = u.caller; entries = es } in x)) entries

module _ (b : BoardView) (tree : IsTree b) (plain : IsPlainBoard b) (lines : LinesAreLocked b) (asks : Asks) (some : AsksForMessages asks)
    (callers : ℕ) where
  pub turn_steps : (past : List Entry) → IsStepwise b callers asks past → (t : Turn) → IsTurn b callers asks past t
      → IsStepwise b callers asks (past_after past t)
  turn_steps past steps t is =
      elim is [
        | inl one ↦ subst (λ (es : List Entry). IsStepwise b callers asks (reverse es ++ past)) (sym one.entries) (one.may, steps)
        | inr two ↦ subst (λ (es : List Entry). IsStepwise b callers asks (reverse es ++ past)) (sym two.entries)
            (two.may_settle, (two.may, steps))
      ]

  -- after a message whose settle isn't due comes none of its caller
  no_settle_behind : (past : List Entry) → IsStepwise b callers asks past → (e : Entry) → May b callers asks (now b asks past) e
      → is_stepping e ≡ true → (now b asks (e ∷ past)).due ≡ None
      → (s : Entry) → May b callers asks (now b asks (e ∷ past)) s → is_settle s ≡ true → caller_of s ≡ caller_of e → ⊥
  no_settle_behind past steps e may stepping none s may_settle settles own =
      let due : is_due_at (caller_of s) ≡ true = alone_due b tree plain lines asks some callers (e ∷ past)
      (may, steps) none s may_settle settles in
      let quiet : is_due_at (caller_of e) ≡ false =
      quiet-behind b tree plain lines asks some callers (now b asks past) e may
      (past-stands b tree plain lines asks some callers past steps)
      (past-stands b tree plain lines asks some callers (e ∷ past) (may, steps)) stepping none in
      let both : true ≡ false = sym due ∙ ap is_due_at own ∙ quiet in cc
    where
      is_due_at : ℕ → Bool
      is_due_at c = is_due (first_act (ahead b asks (now b asks (e ∷ past)) c))

  -- ONE STEP
  module _ (past : List Entry) (steps : IsStepwise b callers asks past) (t1 t2 : Turn) (is1 : IsTurn b callers asks past t1)
      (is2 : IsTurn b callers asks past t2) (own : t1.caller ≡ t2.caller)
      (none1 : (now b asks (past_after past t1)).due ≡ None) (none2 : (now b asks (past_after past t2)).due ≡ None) (logs1 logs2 : Logs)
      (from1 : GoOnFrom (now b asks (past_after past t1)).calls logs1) (from2 : GoOnFrom (now b asks (past_after past t2)).calls logs2)
      (there : FailIn logs1 logs2) (back : FailIn logs2 logs1) where
    abbrev n : Now
    n = now b asks past

    one_log : (t : Turn) (one : IsOne b callers asks past t) (logs : Logs) → GoOnFrom (now b asks (past_after past t)).calls logs
        → GoOnFrom (step b asks n one.entry).calls logs
    one_log t one logs from = subst (λ (es : List Entry). GoOnFrom (now b asks (reverse es ++ past)).calls logs) one.entries from

    two_log : (t : Turn) (two : IsTwo b callers asks past t) (logs : Logs) → GoOnFrom (now b asks (past_after past t)).calls logs
        → GoOnFrom (now b asks (two.settle ∷ two.entry ∷ past)).calls logs
    two_log t two logs from = subst (λ (es : List Entry). GoOnFrom (now b asks (reverse es ++ past)).calls logs) two.entries from

    first_log : (t : Turn) (two : IsTwo b callers asks past t) (logs : Logs) → GoOnFrom (now b asks (past_after past t)).calls logs
        → GoOnFrom (step b asks n two.entry).calls logs
    first_log t two logs from =
        more_both b asks (step b asks n two.entry).calls (now b asks (two.settle ∷ two.entry ∷ past)).calls logs
        (entry_more b asks (now b asks (two.entry ∷ past)) two.settle) (two_log t two logs from)

    single : IsOne b callers asks past t1 → IsOne b callers asks past t2 → t1 ≡ t2
    single o1 o2 =
        let same : o1.entry ≡ o2.entry =
        one-entry b asks n callers o1.entry o2.entry o1.may o2.may (o1.own ∙ own ∙ sym o2.own) logs1 logs2 (one_log t1 o1 logs1 from1)
        (one_log t2 o2 logs2 from2) there back in
        turn_is t1 t2 own (o1.entries ∙ ap (λ (e : Entry). e ∷ []) same ∙ sym o2.entries)

    double : IsTwo b callers asks past t1 → IsTwo b callers asks past t2 → t1 ≡ t2
    double w1 w2 =
        let same : w1.entry ≡ w2.entry =
        one-entry b asks n callers w1.entry w2.entry w1.may w2.may (w1.own ∙ own ∙ sym w2.own) logs1 logs2 (first_log t1 w1 logs1 from1)
        (first_log t2 w2 logs2 from2) there back in
        let settles : w1.settle ≡ w2.settle =
        one-entry b asks (now b asks (w2.entry ∷ past)) callers w1.settle w2.settle
        (subst (λ (e : Entry). May b callers asks (now b asks (e ∷ past)) w1.settle) same w1.may_settle) w2.may_settle
        (w1.own_settle ∙ own ∙ sym w2.own_settle) logs1 logs2
        (subst (λ (e : Entry). GoOnFrom (now b asks (w1.settle ∷ e ∷ past)).calls logs1) same (two_log t1 w1 logs1 from1))
        (two_log t2 w2 logs2 from2) there back in
        turn_is t1 t2 own (w1.entries ∙ ap (λ (e : Entry). e ∷ w1.settle ∷ []) same ∙ ap (λ (s : Entry). w2.entry ∷ s ∷ []) settles
        ∙ sym w2.entries)

    first_alone : IsOne b callers asks past t1 → IsTwo b callers asks past t2 → ⊥
    first_alone o w =
        let same : o.entry ≡ w.entry =
        one-entry b asks n callers o.entry w.entry o.may w.may (o.own ∙ own ∙ sym w.own) logs1 logs2 (one_log t1 o logs1 from1)
        (first_log t2 w logs2 from2) there back in
        let none : (now b asks (w.entry ∷ past)).due ≡ None =
        subst (λ (e : Entry). (now b asks (e ∷ past)).due ≡ None) same
        (subst (λ (es : List Entry). (now b asks (reverse es ++ past)).due ≡ None) o.entries none1) in
        no_settle_behind past steps w.entry w.may w.steps none w.settle w.may_settle w.settles (w.own_settle ∙ sym w.own)

    second_alone : IsTwo b callers asks past t1 → IsOne b callers asks past t2 → ⊥
    second_alone w o =
        let same : w.entry ≡ o.entry =
        one-entry b asks n callers w.entry o.entry w.may o.may (w.own ∙ own ∙ sym o.own) logs1 logs2 (first_log t1 w logs1 from1)
        (one_log t2 o logs2 from2) there back in
        let none : (now b asks (w.entry ∷ past)).due ≡ None =
        subst (λ (e : Entry). (now b asks (e ∷ past)).due ≡ None) (sym same)
        (subst (λ (es : List Entry). (now b asks (reverse es ++ past)).due ≡ None) o.entries none2) in
        no_settle_behind past steps w.entry w.may w.steps none w.settle w.may_settle w.settles (w.own_settle ∙ sym w.own)

    pub one_turn : t1 ≡ t2
    one_turn =
        elim is1 [
          | inl o1 ↦ elim is2 [ inl o2 ↦ single o1 o2 | inr w2 ↦ absurd (first_alone o1 w2) ]
          | inr w1 ↦ elim is2 [ inl o2 ↦ absurd (second_alone w1 o2) | inr w2 ↦ double w1 w2 ]
        ]

  -- WHO IS READY is told by the past, where all that comes leaves nobody with a step
  abbrev AllFinished : List Entry → Type 0
  AllFinished past = (c : ℕ) → c < callers → first_act (current b asks (now b asks past) c) ≡ None

  waits_not : (start : List Entry) (n : Now) (act : Act) (e : Entry) (es : List Entry) → Does b asks n act e
      → ((l : LockId) → act ≡ Take l → holder start l ≡ None) → waits_for start (e ∷ es) ≡ false
  waits_not start n (Take l) e es does free = ap (λ (x : Entry). waits_for start (x ∷ es)) does
      ∙ ap (λ (o : Option ℕ). is_taken o) (free l refl)
  waits_not start n (Free l) e es does free = ap (λ (x : Entry). waits_for start (x ∷ es)) does
  waits_not start n (Send job left) e es does free = ap (λ (x : Entry). waits_for start (x ∷ es)) does.1
  waits_not start n (Shift job) e es does free = ap (λ (x : Entry). waits_for start (x ∷ es)) does.1
  waits_not start n (Settle verdict) e es does free = ap (λ (x : Entry). waits_for start (x ∷ es)) does

  ready_comes : (start : List Entry) (c : ℕ) (act : Act) → ((l : LockId) → act ≡ Take l → holder start l ≡ None) → (past : List Entry)
      → IsStepwise b callers asks past → IsNext b asks (now b asks past) c act
      → (later : List Turn) → Comes b callers asks past later → first_act (current b asks (now b asks (after_all past later)) c) ≡ None
      → ready_by start (find (λ t. t.caller == c) later) ≡ true
  ready_comes start c act free past steps next [] comes finished = absurd (let f : Some act ≡ None = sym next ∙ finished in cc)
  ready_comes start c act free past steps next (t ∷ ts) comes finished =
      elim (eqb_tells t.caller c) [
        | inl h ↦ (let f = first_of b tree plain lines asks some callers c past t comes.0 in
            let does = does-next b callers asks (now b asks past) f.0 f.4 in
            let g : Some does.0 ≡ Some act = sym does.1 ∙ ap (λ (i : ℕ). first_act (current b asks (now b asks past) i)) (f.3 ∙ h.1)
            ∙ next in
            let acts : does.0 ≡ act = cc in
            ap (λ (x : Bool). ready_by start (cond x (Some t) (find (λ u. u.caller == c) ts))) h.0
            ∙ ap (λ (es : List Entry). not (waits_for start es)) f.2
            ∙ ap not (waits_not start (now b asks past) act f.0 f.1
            (subst (λ (a : Act). Does b asks (now b asks past) a f.0) acts does.2) free))
        | inr h ↦ (let k = turn-leaves b tree plain lines asks some callers c past steps t comes.0 (λ same. h.1 (sym same)) in
            ap (λ (x : Bool). ready_by start (cond x (Some t) (find (λ u. u.caller == c) ts))) h.0
            ∙ ready_comes start c act free (past_after past t) k.0 (ap (λ (w : WalkTree). first_act w) k.1 ∙ next) ts comes.1 finished)
      ]

  stranger_waits : (start past : List Entry) → IsStepwise b callers asks past → (c : ℕ) → callers ≤ c → (later : List Turn)
      → Comes b callers asks past later
      → ready_by start (find (λ t. t.caller == c) later) ≡ false
  stranger_waits start past steps c high [] comes = refl
  stranger_waits start past steps c high (t ∷ ts) comes =
      elim (eqb_tells t.caller c) [
        | inl h ↦ (let f = first_of b tree plain lines asks some callers c past t comes.0 in
            let low : caller_of f.0 < callers = entry_known b callers asks (now b asks past) f.0 f.4 in
            absurd (omega (arith, low, high, f.3, h.1)))
        | inr h ↦ ap (λ (x : Bool). ready_by start (cond x (Some t) (find (λ u. u.caller == c) ts))) h.0
            ∙ stranger_waits start (past_after past t) (turn_steps past steps t comes.0) c high ts comes.1
      ]

  -- what a caller that can go on does next
  goes_free : (past : List Entry) → IsStepwise b callers asks past → (c : ℕ) → CanGoOn b callers asks past c
      → (act : Act) × IsNext b asks (now b asks past) c act × ((l : LockId) → act ≡ Take l → holder past l ≡ None)
  goes_free past steps c goes =
      let does = does-next b callers asks (now b asks past) goes.entry goes.may in (
        does.0,
        subst (λ (i : ℕ). IsNext b asks (now b asks past) i does.0) goes.own does.1,
        λ l e. free l goes.entry goes.may
            (subst (λ (a : Act). Does b asks (now b asks past) a goes.entry) e does.2),
      )
    where
      taken : (l : LockId) (d : ℕ) → May b callers asks (now b asks past) (entry.Take d l) → holder past l ≡ None
      taken l d may = sym (holder-told b asks past l) ∙ may.3

      free : (l : LockId) (e : Entry) → May b callers asks (now b asks past) e → Does b asks (now b asks past) (Take l) e
          → holder past l ≡ None
      free l e may does = taken l (caller_of e) (subst (λ (x : Entry). May b callers asks (now b asks past) x) does may)

  ready_same : (past : List Entry) → IsStepwise b callers asks past → (now b asks past).due ≡ None → (later1 later2 : List Turn)
      → Comes b callers asks past later1 → Comes b callers asks past later2
      → AllFinished (after_all past later1) → AllFinished (after_all past later2) → (c : ℕ)
      → is_ready past later1 c ≡ is_ready past later2 c
  ready_same past steps none later1 later2 comes1 comes2 end1 end2 c =
      elim (leb_tells callers c) [
        | inl high ↦ stranger_waits past past steps c high.1 later1 comes1 ∙ sym (stranger_waits past past steps c high.1 later2 comes2)
        | inr low ↦ elim (goes-on-or-stuck b tree plain lines asks some callers past steps none c low.1) [
          | inl goes ↦ (let g = goes_free past steps c goes in
              ready_comes past c g.0 g.2 past steps g.1 later1 comes1 (end1 c low.1)
              ∙ sym (ready_comes past c g.0 g.2 past steps g.1 later2 comes2 (end2 c low.1)))
          | inr stuck ↦ stuck-waits b tree plain lines asks some callers c past steps stuck later1 comes1
              ∙ sym (stuck-waits b tree plain lines asks some callers c past steps stuck later2 comes2)
        ]
      ]

  -- so who can go on is ready, and nobody else
  pub ready-exact : (past : List Entry) → IsStepwise b callers asks past → (now b asks past).due ≡ None → (later : List Turn)
      → Comes b callers asks past later → AllFinished (after_all past later)
      → (c : ℕ) → c < callers → (is_ready past later c ≡ true) ↔ CanGoOn b callers asks past c
  ready-exact past steps none later comes end c low = (
    ready_goes,
    λ goes. let g = goes_free past steps c goes in
        ready_comes past c g.0 g.2 past steps g.1 later comes (end c low),
  )
    where
      ready_goes : is_ready past later c ≡ true → CanGoOn b callers asks past c
      ready_goes ready =
          elim (goes-on-or-stuck b tree plain lines asks some callers past steps none c low) [
            | inl goes ↦ goes
            | inr stuck ↦ absurd (let f : true ≡ false = sym ready
                ∙ stuck-waits b tree plain lines asks some callers c past steps stuck later comes in cc)
          ]

  -- where all have finished nothing comes
  nothing_comes : (past : List Entry) → AllFinished past → (t : Turn) → IsTurn b callers asks past t → ⊥
  nothing_comes past finished t is =
      let f = first_of b tree plain lines asks some callers 0 past t is in
      never b callers asks (now b asks past) f.0 f.4 (finished (caller_of f.0) (entry_known b callers asks (now b asks past) f.0 f.4))

  -- what two journals have in common from a place on
  record AreBoth (past : List Entry) (later1 later2 : List Turn) : Type 0 where
    steps : IsStepwise b callers asks past
    none : (now b asks past).due ≡ None
    come1 : ComeWhole b callers asks past later1
    come2 : ComeWhole b callers asks past later2
    end1 : AllFinished (after_all past later1)
    end2 : AllFinished (after_all past later2)
    there : FailIn (now b asks (after_all past later1)).calls (now b asks (after_all past later2)).calls
    back : FailIn (now b asks (after_all past later2)).calls (now b asks (after_all past later1)).calls

  same_ready : (past : List Entry) (later1 later2 : List Turn) → AreBoth past later1 later2 → (c : ℕ)
      → is_ready past later1 c ≡ is_ready past later2 c
  same_ready past later1 later2 both c =
      ready_same past both.steps both.none later1 later2 (all-come b callers asks past later1 both.come1)
      (all-come b callers asks past later2 both.come2) both.end1 both.end2 c

  same_turn : (past : List Entry) (t1 t2 : Turn) (ts1 ts2 : List Turn) → AreBoth past (t1 ∷ ts1) (t2 ∷ ts2) → t1.caller ≡ t2.caller
      → t1 ≡ t2
  same_turn past t1 t2 ts1 ts2 both own =
      one_turn past both.steps t1 t2 both.come1.0 both.come2.0 own both.come1.1 both.come2.1
      (now b asks (after_all (past_after past t1) ts1)).calls (now b asks (after_all (past_after past t2) ts2)).calls
      (all_more b asks (past_after past t1) ts1) (all_more b asks (past_after past t2) ts2) both.there both.back

  behind_turn : (past : List Entry) (t1 t2 : Turn) (ts1 ts2 : List Turn) → AreBoth past (t1 ∷ ts1) (t2 ∷ ts2) → t1 ≡ t2
      → AreBoth (past_after past t1) ts1 ts2
  behind_turn past t1 t2 ts1 ts2 both same =
      let here : AreBoth past (t1 ∷ ts1) (t1 ∷ ts2) = subst (λ (t : Turn). AreBoth past (t1 ∷ ts1) (t ∷ ts2)) (sym same) both in
      record {
        steps = turn_steps past both.steps t1 both.come1.0;
        none = both.come1.1;
        come1 = here.come1.2;
        come2 = here.come2.2;
        end1 = here.end1;
        end2 = here.end2;
        there = here.there;
        back = here.back;
      }

  -- BEHIND THE LAST WORD each step is of the least caller that is ready
  rest_same : (later1 later2 : List Turn) (past : List Entry) → AreBoth past later1 later2 → FollowsRest past later1
      → FollowsRest past later2 → later1 ≡ later2
  rest_same [] [] past both f1 f2 = refl
  rest_same [] (t ∷ ts) past both f1 f2 = absurd (nothing_comes past both.end1 t both.come2.0)
  rest_same (t ∷ ts) [] past both f1 f2 = absurd (nothing_comes past both.end2 t both.come1.0)
  rest_same (t1 ∷ ts1) (t2 ∷ ts2) past both f1 f2 =
      let own : t1.caller ≡ t2.caller = least (same_ready past (t1 ∷ ts1) (t2 ∷ ts2) both) in
      let same : t1 ≡ t2 = same_turn past t1 t2 ts1 ts2 both own in
      let f3 : FollowsRest (past_after past t1) ts2 = subst (λ (t : Turn). FollowsRest (past_after past t) ts2) (sym same) f2.2 in
      ap (λ (t : Turn). t ∷ ts1) same
      ∙ ap (λ (ts : List Turn). t2 ∷ ts) (rest_same ts1 ts2 (past_after past t1) (behind_turn past t1 t2 ts1 ts2 both same) f1.2 f3)
    where
      least : ((c : ℕ) → is_ready past (t1 ∷ ts1) c ≡ is_ready past (t2 ∷ ts2) c) → t1.caller ≡ t2.caller
      least ready =
          elim (eqb_tells t1.caller t2.caller) [
            | inl h ↦ h.1
            | inr h ↦ elim (leb_tells t1.caller t2.caller) [
              | inl low ↦ (let apart : t1.caller ≡ t2.caller → ⊥ = h.1 in
                  let not_ready : is_ready past (t2 ∷ ts2) t1.caller ≡ false = f2.1 t1.caller (omega (arith, low.1, apart)) in
                  let both_ways : true ≡ false = sym f1.0 ∙ ready t1.caller ∙ not_ready in absurd (let x : true ≡ false = both_ways in cc))
              | inr high ↦ (let not_ready : is_ready past (t1 ∷ ts1) t2.caller ≡ false = f1.1 t2.caller high.1 in
                  let both_ways : true ≡ false = sym f2.0 ∙ sym (ready t2.caller) ∙ not_ready in
                  absurd (let x : true ≡ false = both_ways in cc))
            ]
          ]

  -- THE WORDS
  words_same : (words : List ℕ) (later1 later2 : List Turn) (past : List Entry) → AreBoth past later1 later2
      → FollowsWords words past later1 → FollowsWords words past later2 → later1 ≡ later2
  words_same [] later1 later2 past both f1 f2 = rest_same later1 later2 past both f1 f2
  words_same (w ∷ ws) [] [] past both f1 f2 = refl
  words_same (w ∷ ws) [] (t ∷ ts) past both f1 f2 = absurd (nothing_comes past both.end1 t both.come2.0)
  words_same (w ∷ ws) (t ∷ ts) [] past both f1 f2 = absurd (nothing_comes past both.end2 t both.come1.0)
  words_same (w ∷ ws) (t1 ∷ ts1) (t2 ∷ ts2) past both f1 f2 =
      by (is_ready past (t1 ∷ ts1) w) refl (words_same ws (t1 ∷ ts1) (t2 ∷ ts2) past both)
      (λ both2 g1 g2. words_same ws ts1 ts2 (past_after past t1) both2 g1 g2)
    where
      follows_one : Bool → Type 0
      follows_one x = MatchBool x ((t1.caller ≡ w) × FollowsWords ws (past_after past t1) ts1) (FollowsWords ws past (t1 ∷ ts1))

      follows_two : Bool → Type 0
      follows_two x = MatchBool x ((t2.caller ≡ w) × FollowsWords ws (past_after past t2) ts2) (FollowsWords ws past (t2 ∷ ts2))

      by : (x : Bool) → is_ready past (t1 ∷ ts1) w ≡ x
          → (FollowsWords ws past (t1 ∷ ts1) → FollowsWords ws past (t2 ∷ ts2) → t1 ∷ ts1 ≡ t2 ∷ ts2)
          → (AreBoth (past_after past t1) ts1 ts2 → FollowsWords ws (past_after past t1) ts1 → FollowsWords ws (past_after past t1) ts2
          → ts1 ≡ ts2) → t1 ∷ ts1 ≡ t2 ∷ ts2
      by true ready passed_over made =
          let g1 : (t1.caller ≡ w) × FollowsWords ws (past_after past t1) ts1 = subst follows_one ready f1 in
          let g2 : (t2.caller ≡ w) × FollowsWords ws (past_after past t2) ts2 = subst follows_two
          (sym (same_ready past (t1 ∷ ts1) (t2 ∷ ts2) both w) ∙ ready) f2 in
          let same : t1 ≡ t2 = same_turn past t1 t2 ts1 ts2 both (g1.0 ∙ sym g2.0) in
          let g3 : FollowsWords ws (past_after past t1) ts2 = subst (λ (t : Turn). FollowsWords ws (past_after past t) ts2)
          (sym same) g2.1 in
          ap (λ (t : Turn). t ∷ ts1) same ∙ ap (λ (ts : List Turn). t2 ∷ ts) (made (behind_turn past t1 t2 ts1 ts2 both same) g1.1 g3)
      by false ready passed_over made =
          passed_over (subst follows_one ready f1) (subst follows_two (sym (same_ready past (t1 ∷ ts1) (t2 ∷ ts2) both w) ∙ ready) f2)

  -- WHOLE JOURNALS
  complete_finished : (past : List Entry) → IsComplete b callers asks past → AllFinished past
  complete_finished past complete = λ c low.
      ap (λ (w : WalkTree). first_act (seen (now b asks past).slot (cond (is_over w) (begun b (asks c ((now b asks past).settled c))) w)))
      (complete.walked c)
      ∙ ap (λ (o : Option TransferView). first_act (seen (now b asks past).slot (begun b o))) (ap (asks c) (settled-told b asks past c)
      ∙ complete.asked c low)

  complete_free : (past : List Entry) → IsStepwise b callers asks past → IsComplete b callers asks past → (now b asks past).due ≡ None
  complete_free past steps complete = by ((now b asks past).due) refl
    where
      by : (o : Option ℕ) → (now b asks past).due ≡ o → (now b asks past).due ≡ None
      by None e = e
      by (Some c) e =
          let made : IsDueBehind b callers asks past c = due-made b asks some callers past c steps e in
          absurd (let f : None ≡ Some (Settle made.verdict) = sym (ap (λ (w : WalkTree). first_act w) (complete.walked c)) ∙ made.settles in
          cc)

  -- a call that was made, by its log as it is told, and one that failed was made
  listed : (past : List Entry) (r n : ℕ) → n < length ((now b asks past).calls r) → HasMade b asks past r n
  listed past r n low = omega (arith, low, length-reverse ((now b asks past).calls r))

  made_there : (past : List Entry) (r n : ℕ) → HasFailed b asks past r n → HasMade b asks past r n
  made_there past r n failed = slice_get_within (calls_of b asks past r) n call.Fault failed

  pub sole-journal : (words : List ℕ) (past other : List Entry) → IsStepwise b callers asks past → IsStepwise b callers asks other
      → IsComplete b callers asks past → IsComplete b callers asks other
      → Follows words (reverse past) → Follows words (reverse other) → FailAlike b asks past other → past ≡ other
  sole-journal words past other steps1 steps2 complete1 complete2 follows1 follows2 alike =
      let w1 : IsItsTurns b tree plain lines asks some callers past = whole-comes b tree plain lines asks some callers past steps1
      (complete_free past steps1 complete1) in
      let w2 : IsItsTurns b tree plain lines asks some callers other = whole-comes b tree plain lines asks some callers other steps2
      (complete_free other steps2 complete2) in
      let there : FailIn (now b asks past).calls (now b asks other).calls =
      λ r n low failed. (alike r n (made_there past r n failed) (listed other r n low)).0 failed in
      let back : FailIn (now b asks other).calls (now b asks past).calls =
      λ r n low failed. (alike r n (listed past r n low) (made_there other r n failed)).1 failed in
      let same : turns (reverse past) ≡ turns (reverse other) =
      words_same words (turns (reverse past)) (turns (reverse other)) []
      (record {
        steps = tt;
        none = refl;
        come1 = w1.come;
        come2 = w2.come;
        end1 = subst (λ (p : List Entry). AllFinished p) (sym w1.all) (complete_finished past complete1);
        end2 = subst (λ (p : List Entry). AllFinished p) (sym w2.all) (complete_finished other complete2);
        there = subst (λ (p : List Entry). FailIn (now b asks p).calls (now b asks (after_all [] (turns (reverse other)))).calls)
            (sym w1.all)
            (subst (λ (q : List Entry). FailIn (now b asks past).calls (now b asks q).calls) (sym w2.all) there);
        back = subst (λ (p : List Entry). FailIn (now b asks (after_all [] (turns (reverse other)))).calls (now b asks p).calls)
            (sym w1.all)
            (subst (λ (q : List Entry). FailIn (now b asks q).calls (now b asks past).calls) (sym w2.all) back);
      })
      follows1 follows2 in
      sym w1.all ∙ ap (after_all []) same ∙ w2.all

  -- ONE CALLER alone follows every schedule
  module _ (sole : callers ≤ 1) where
    own_first : (past : List Entry) (t : Turn) → IsTurn b callers asks past t → t.caller ≡ 0
    own_first past t is =
        let f = first_of b tree plain lines asks some callers 0 past t is in
        let low : caller_of f.0 < callers = entry_known b callers asks (now b asks past) f.0 f.4 in
        omega (arith, low, sole, f.3)

    made_ready : (past : List Entry) (t : Turn) (ts : List Turn) → IsTurn b callers asks past t → (c : ℕ) → t.caller ≡ c
        → is_ready past (t ∷ ts) c ≡ true
    made_ready past t ts is c own = turn-ready b tree plain lines asks some callers c past t ts own is (λ l o e. holder-told b asks past l
        ∙ e)

    rest_follows : (later : List Turn) (past : List Entry) → ComeWhole b callers asks past later → FollowsRest past later
    rest_follows [] past come = tt
    rest_follows (t ∷ ts) past come = (
      made_ready past t ts come.0 t.caller refl,
      (λ c low. absurd (omega (arith, low, own_first past t come.0))),
      rest_follows ts
          (past_after past t) come.2,
    )

    words_follow : (words : List ℕ) (later : List Turn) (past : List Entry) → IsStepwise b callers asks past
        → ComeWhole b callers asks past later → FollowsWords words past later
    words_follow [] later past steps come = rest_follows later past come
    words_follow (w ∷ ws) [] past steps come = words_follow ws [] past steps come
    words_follow (w ∷ ws) (t ∷ ts) past steps come =
        elim (eqb_tells w 0) [
          | inl h ↦ word-made past w ws t ts (own_first past t come.0 ∙ sym h.1)
              (made_ready past t ts come.0 w (own_first past t come.0 ∙ sym h.1))
              (words_follow ws ts (past_after past t) (turn_steps past steps t come.0) come.2)
          | inr h ↦ word-passed past w ws (t ∷ ts)
              (stranger_waits past past steps w (let apart : w ≡ 0 → ⊥ = h.1 in omega (arith, sole, apart)) (t ∷ ts)
              (all-come b callers asks past (t ∷ ts) come))
              (words_follow ws (t ∷ ts) past steps come)
        ]

    pub alone-follows : (words : List ℕ) (past : List Entry) → IsStepwise b callers asks past → IsComplete b callers asks past
        → Follows words (reverse past)
    alone-follows words past steps complete =
        words_follow words (turns (reverse past)) [] tt
        (whole-comes b tree plain lines asks some callers past steps (complete_free past steps complete)).come
