-- The replies of a stepwise past are those of the flat world doing the transfers one at a time, in the order of the
-- settles, and so are the devices. The induction goes over the entries.
use Rattle.flat_laws.proofs.Cited.{◌≡◌, ℕ, Bool, true, false, cond, List, [], ◌∷◌, ◌++◌, Option, Some, None, refl, sym, ◌∙◌, ap, subst, ◌⊎◌}
use Rattle.flat_laws.proofs.Cited.{inl, inr, option_map, option_and_then, eqb_tells, Entry, Purpose, Errno, Reply, Cut, BoardView}
use Rattle.flat_laws.proofs.Cited.{TransferView, hops, root_of, IsTree, IsPlainBoard, TargetState, MessageView, messages_of, FlatTold}
use Rattle.flat_laws.proofs.Cited.{refusal, granted_on, flat, Asks, History, changed_at, with_told, one_more, opening_history, history, Job}
use Rattle.flat_laws.proofs.Cited.{Call, Select, SwitchOff, Act, Take, Free, Send, Settle, Passed, Sent, Lined, WalkTree, job_bus}
use Rattle.flat_laws.proofs.Cited.{message_of, walk_by, first_act, first_note, rest_of, seen, is_over, MessageEntry, order, message_cut}
use Rattle.flat_laws.proofs.Cited.{Now, begun, current, step, now, sent, sent_by, lined_by, with_due, moved, talk_of, IsNext, May}
use Rattle.flat_laws.proofs.Cited.{IsStepwise, reply_by, TellsMessage, KeepsReplies, LinesAreLocked, AsksForMessages, AsksWithinLimits}
use Rattle.flat_laws.proofs.Cited.{NoSettle, LeadsTo, at_same, at_other, settled-told, message_entry, goes_on_from, no_settle, past-due}
use Rattle.flat_laws.proofs.Cited.{LetThrough, bars-flat, DecidesNext, same_Some}
use Rattle.i2c_base.specs.declared.entry.Entry.TheVariants as entry
use Rattle.i2c_base.specs.declared.entry.Purpose.TheVariants as purpose
use Rattle.bus_spec.specs.Walk.{off_mux}
use Rattle.flat_laws.proofs.past.First.{not_inside}
use Rattle.bus_laws.proofs.past.Placed.{starts_seen}
use Rattle.bus_laws.proofs.walk.SettleLaw.{walk-starts}
use Rattle.bus_laws.proofs.walk.VerdictLaw.{refused-barred}
use Rattle.bus_laws.proofs.device.Past.{CallNext, call-next, select-next, off-next, select-decides, off-decides}
use Rattle.bus_laws.proofs.device.Stay.{opening-same}
use Rattle.flat_laws.proofs.device.Stand.{IsDueWith, DevicesStand, stands_still, lock_stands, line_stands, control_stands}
use Rattle.flat_laws.proofs.device.Calls.{call_stands}

module _ (b : BoardView) (tree : IsTree b) (plain : IsPlainBoard b) (lines : LinesAreLocked b) (asks : Asks) (some : AsksForMessages asks)
    (limits : AsksWithinLimits asks) (callers : ℕ)
    (past : List Entry) (steps : IsStepwise b callers asks past) (h : History) (s : DevicesStand b asks (now b asks past) h) where
  abbrev n : Now
  n = now b asks past

  -- A MESSAGE, whosever it is: where everything stands behind it, and so the devices
  abbrev behind : ℕ → Job → ℕ → MessageEntry → Now
  behind d job left m =
      with_due d (moved b asks n
      (sent b n d job left (first_note (current b asks n d)) m.reading m.bytes m.end (talk_of b n job left m.end))
      d (message_entry m) (Sent m.end m.bytes))

  message_stands : (d : ℕ) (job : Job) (left : ℕ) (m : MessageEntry) → n.due ≡ None → IsNext b asks n d (Send job left)
      → TellsMessage b n job left m → DevicesStand b asks (behind d job left m) h
  message_stands d (Select g) left m none next tells =
      control_stands b tree plain lines asks some callers past steps h s d (Select g) left m.reading m.bytes m.end
      (message_entry m) none next refl refl
      (select-next b tree plain lines asks some callers past steps d g left next) (λ o. refl) (λ o. refl)
      (λ v first. subst (λ (y : Cut). DecidesNext b asks n d y v)
      (sym (ap (λ (p : Purpose). message_cut p m.part m.end) tells.for_purpose
      ∙ ap (λ (k : ℕ). message_cut (purpose.Control g.mux) k m.end) tells.as_part))
      (select-decides b tree plain lines asks some callers past steps d g left next m.end m.bytes tells.end_told tells.bytes_told v first))
  message_stands d (SwitchOff off) left m none next tells =
      control_stands b tree plain lines asks some callers past steps h s d (SwitchOff off) left m.reading m.bytes m.end
      (message_entry m) none next refl refl
      (off-next b tree plain lines asks some callers past steps d off left next) (λ o. refl) (λ o. refl)
      (λ v first. subst (λ (y : Cut). DecidesNext b asks n d y v)
      (sym (ap (λ (p : Purpose). message_cut p m.part m.end) tells.for_purpose
      ∙ ap (λ (k : ℕ). message_cut (purpose.Control (off_mux off)) k m.end) tells.as_part))
      (off-decides b tree plain lines asks some callers past steps d off left next m.end m.bytes v first))
  message_stands d (Call on ms) left m none next tells =
      subst (λ (j : Job). IsNext b asks n d (Send j left) → Leads j → LetThrough b (hops b (job_bus j))
      → TellsMessage b n j left m → DevicesStand b asks (behind d j left m) h)
      (sym job_is)
      (λ next2 leads2 through2 tells2. call_stands b tree plain lines asks some limits callers past steps h s d c.whose c.asked
      c.call.not_refused left none next2 leads2 through2 m tells2)
      next c.leads c.through tells
    where
      c : CallNext b asks n d on ms left
      c = call-next b tree plain lines asks some callers past steps d on ms left next

      job_is : Call on ms ≡ Call c.whose.bus (messages_of c.whose)
      job_is = ap (λ (i : ℕ). Call i ms) c.call.same_bus ∙ ap (λ (xs : List MessageView). Call c.whose.bus xs) c.call.same_messages

      Leads : Job → Type 0
      Leads j = LeadsTo (n.worlds (root_of b (job_bus j))) (message_of b j left).addr
          (granted_on b (job_bus j) c.whose.force (message_of b j left).addr)

  -- A SETTLE
  -- the transfer that it is of, and what the flat world makes of it
  settle_told : (d : ℕ) (verdict : Option Errno) (r : Reply) (cut : Cut) → (n.due ≡ None) ⊎ (n.due ≡ Some d)
      → IsNext b asks n d (Settle verdict)
      → r ≡ reply_by verdict (asks d (n.settled d)) (n.got d) → cut ≡ n.cut d
      → (t : TransferView) × (asks d (n.settled d) ≡ Some t) × (flat b h.states t cut ≡ record { reply = r; states = s.ahead })
  settle_told d verdict r cut who next reply_is cut_is =
      elim who [
        | inl none ↦ by_over none (is_over (n.walk d)) refl (asks d (n.settled d)) refl
        | inr due ↦ by_due (s.due d due)
      ]
    where
      told_by : Reply → List TargetState → FlatTold
      told_by y xs = record { reply = y; states = xs }

      by_due : IsDueWith b asks n h s.ahead d
          → (t : TransferView) × (asks d (n.settled d) ≡ Some t) × (flat b h.states t cut ≡ record { reply = r; states = s.ahead })
      by_due i =
          let act : Settle verdict ≡ Settle i.verdict =
          same_Some (Settle verdict) (Settle i.verdict) (sym next
          ∙ goes_on_from n.slot (begun b (asks d (n.settled d))) (n.walk d) (Settle i.verdict) i.settles) in
          let same : verdict ≡ i.verdict = cc in (
            i.whose,
            i.asked,
            ap (λ (y : Cut). flat b h.states i.whose y) cut_is ∙ i.told
                ∙ ap (λ (y : Reply). told_by y s.ahead)
                (sym (reply_is ∙ ap (λ (o : Option TransferView). reply_by verdict o (n.got d)) i.asked
                ∙ ap (λ (v : Option Errno). reply_by v (Some i.whose) (n.got d)) same)),
          )

      never : (t : Bool) → is_over (n.walk d) ≡ t → NoSettle (cond t (begun b (asks d (n.settled d))) (n.walk d)) → ⊥
      never t over quiet =
          no_settle (current b asks n d) verdict
          (starts_seen n.slot (cond (is_over (n.walk d)) (begun b (asks d (n.settled d))) (n.walk d))
          (subst (λ (z : Bool). NoSettle (cond z (begun b (asks d (n.settled d))) (n.walk d))) (sym over) quiet)) next

      refused : n.due ≡ None → is_over (n.walk d) ≡ true → (t : TransferView) → asks d (n.settled d) ≡ Some t → (o : Option Errno)
          → refusal b t ≡ o
          → (t : TransferView) × (asks d (n.settled d) ≡ Some t) × (flat b h.states t cut ≡ record { reply = r; states = s.ahead })
      refused none over t asked None accepted = absurd
          (never true over (subst (λ (o : Option TransferView). NoSettle (begun b o)) (sym asked) (walk-starts b t accepted)))
      refused none over t asked (Some e) barred_is =
          let walk_is : current b asks n d ≡ seen n.slot (walk_by b t (Some e)) =
          ap (λ (z : Bool). seen n.slot (cond z (begun b (asks d (n.settled d))) (n.walk d))) over
          ∙ ap (λ (o : Option TransferView). seen n.slot (begun b o)) asked
          ∙ ap (λ (o : Option Errno). seen n.slot (walk_by b t o)) barred_is in
          let same : Settle verdict ≡ Settle (Some e) = same_Some (Settle verdict) (Settle (Some e)) (sym next
          ∙ ap (λ (w : WalkTree). first_act w) walk_is) in
          let verdict_is : verdict ≡ Some e = cc in (
            t,
            asked,
            bars-flat b h.states t cut e (refused-barred b t cut e barred_is)
                ∙ ap (λ (y : Reply). told_by y h.states)
                (sym (reply_is ∙ ap (λ (v : Option Errno). reply_by v (asks d (n.settled d)) (n.got d)) verdict_is))
                ∙ ap (λ (xs : List TargetState). told_by r xs) (sym (s.free none)),
          )

      by_over : n.due ≡ None → (z : Bool) → is_over (n.walk d) ≡ z → (o : Option TransferView) → asks d (n.settled d) ≡ o
          → (t : TransferView) × (asks d (n.settled d) ≡ Some t) × (flat b h.states t cut ≡ record { reply = r; states = s.ahead })
      by_over none false over o asked =
          absurd (elim (past-due b asks some callers past steps d) [
            | inl due ↦ (let f : None ≡ Some d = sym none ∙ due in cc)
            | inr quiet ↦ never false over quiet
          ])
      by_over none true over None asked = absurd
          (never true over (subst (λ (o : Option TransferView). NoSettle (begun b o)) (sym asked) tt))
      by_over none true over (Some t) asked = refused none over t asked (refusal b t) refl

  settle_stands : (d : ℕ) (verdict : Option Errno) (r : Reply) (cut : Cut) → (n.due ≡ None) ⊎ (n.due ≡ Some d)
      → IsNext b asks n d (Settle verdict)
      → DevicesStand b asks (step b asks n (entry.Settle d r cut)) (with_told h d (record { reply = r; states = s.ahead }))
  settle_stands d verdict r cut who next =
      stands_still b asks tree n h s (step b asks n (entry.Settle d r cut)) (with_told h d (record { reply = r; states = s.ahead })) d
      (record {
        walks = λ c ne. at_other n.walk d (rest_of (current b asks n d) Passed) c ne;
        settled = λ c ne. at_other n.settled d (n.settled d ++ r ∷ []) c ne;
        got = λ c ne. at_other n.got d [] c ne;
        inside = λ k. refl;
        outside = not_inside b tree plain lines asks some callers past steps d (Settle verdict) next
            (λ bus ms left f. let g : Settle verdict ≡ Send (Call bus ms) left = f in cc);
        worlds = λ k out same. same;
        busy = λ k c is. refl;
      })
      settled_same (λ z. refl) (λ c z. absurd (let f : None ≡ Some c = z in cc))
    where
      settled_same : (c : ℕ) → changed_at n.settled d (n.settled d ++ r ∷ []) c ≡ changed_at h.replies d (h.replies d ++ r ∷ []) c
      settled_same c =
          elim (eqb_tells c d) [
            | inl e ↦ ap (λ (i : ℕ). changed_at n.settled d (n.settled d ++ r ∷ []) i) e.1 ∙ at_same n.settled d (n.settled d ++ r ∷ [])
                ∙ ap (λ (rs : List Reply). rs ++ r ∷ []) (s.replies d)
                ∙ sym (ap (λ (i : ℕ). changed_at h.replies d (h.replies d ++ r ∷ []) i) e.1 ∙ at_same h.replies d (h.replies d ++ r ∷ []))
            | inr e ↦ at_other n.settled d (n.settled d ++ r ∷ []) c e.1 ∙ s.replies c
                ∙ sym (at_other h.replies d (h.replies d ++ r ∷ []) c e.1)
          ]

  -- and the history has one transfer more
  settle_history : (d : ℕ) (r : Reply) (cut : Cut) (t : TransferView) → asks d (n.settled d) ≡ Some t
      → flat b h.states t cut ≡ record { reply = r; states = s.ahead }
      → one_more b asks d cut h ≡ Some (with_told h d (record { reply = r; states = s.ahead }))
  settle_history d r cut t asked told =
      ap (λ (o : Option TransferView). option_map (λ (y : TransferView). with_told h d (flat b h.states y cut)) o)
      (ap (λ (rs : List Reply). asks d rs) (sym (s.replies d)) ∙ asked)
      ∙ ap (λ (y : FlatTold). Some (with_told h d y)) told

-- THE INDUCTION
-- the history of the settled transfers, and what stands of the devices
pub record StandsWith (b : BoardView) (asks : Asks) (past : List Entry) : Type 0 where
  pub history_is : History
  pub defined : history b asks (order past) ≡ Some history_is
  pub stand : DevicesStand b asks (now b asks past) history_is

module _ (b : BoardView) (tree : IsTree b) (plain : IsPlainBoard b) (lines : LinesAreLocked b) (asks : Asks) (some : AsksForMessages asks)
    (limits : AsksWithinLimits asks) (callers : ℕ) where
  opening_stands : StandsWith b asks []
  opening_stands =
      record {
        history_is = opening_history b;
        defined = refl;
        stand = record {
          ahead = (opening_history b).states;
          replies = λ c. refl;
          free = λ z. refl;
          due = λ c z. absurd (let f : None ≡ Some c = z in cc);
          rest = λ r z. opening-same b r plain;
          said = λ r c z. absurd (let f : None ≡ Some c = z in cc);
        };
      }

  step_stands : (e : Entry) (past : List Entry) → IsStepwise b callers asks past → May b callers asks (now b asks past) e
      → StandsWith b asks past → StandsWith b asks (e ∷ past)
  step_stands (entry.Take d l) past steps may w =
      record {
        history_is = w.history_is;
        defined = w.defined;
        stand = lock_stands b tree plain lines asks some callers past steps w.history_is w.stand d (Take l)
            (now b asks (entry.Take d l ∷ past)) may.1 may.2
            (λ bus ms left f. let g : Take l ≡ Send (Call bus ms) left = f in cc) refl refl refl refl refl refl;
      }
  step_stands (entry.Free d l) past steps may w =
      record {
        history_is = w.history_is;
        defined = w.defined;
        stand = lock_stands b tree plain lines asks some callers past steps w.history_is w.stand d (Free l)
            (now b asks (entry.Free d l ∷ past)) may.1 may.2
            (λ bus ms left f. let g : Free l ≡ Send (Call bus ms) left = f in cc) refl refl refl refl refl refl;
      }
  step_stands (entry.Line d mux level failed) past steps may w =
      record {
        history_is = w.history_is;
        defined = w.defined;
        stand = subst (λ (o : Option Act). DevicesStand b asks
            (with_due d (moved b asks (now b asks past)
            (lined_by b (now b asks past) o (first_note (current b asks (now b asks past) d)) failed) d (entry.Line d mux level failed)
            (Lined failed))) w.history_is) (sym may.2.1)
            (line_stands b tree plain lines asks some callers past steps w.history_is w.stand d may.2.0 failed
            (entry.Line d mux level failed) refl may.1 may.2.1);
      }
  step_stands (entry.Message d bus purpose_is part parts addr reading bytes heard e) past steps may w =
      record {
        history_is = w.history_is;
        defined = w.defined;
        stand = subst (λ (o : Option Act). DevicesStand b asks
            (with_due d (moved b asks (now b asks past)
            (sent_by b (now b asks past) d o (first_note (current b asks (now b asks past) d)) reading bytes e) d
            (entry.Message d bus purpose_is part parts addr reading bytes heard e) (Sent e bytes))) w.history_is) (sym may.2.2)
            (message_stands b tree plain lines asks some limits callers past steps w.history_is w.stand d may.2.0 may.2.1 _
            may.1 may.2.2 may.2.3);
      }
  step_stands (entry.Settle d r cut) past steps may w =
      let told = settle_told b tree plain lines asks some limits callers past steps w.history_is w.stand d may.2 r cut may.1 may.3 may.4
      may.5 in
      record {
        history_is = with_told w.history_is d (record { reply = r; states = w.stand.ahead });
        defined = ap (λ (o : Option History). option_and_then (one_more b asks d cut) o) w.defined
            ∙ settle_history b tree plain lines asks some limits callers past steps w.history_is w.stand d r cut told.0 told.1 told.2;
        stand = settle_stands b tree plain lines asks some limits callers past steps w.history_is w.stand d may.2 r cut may.1 may.3;
      }

  pub past-devices : (past : List Entry) → IsStepwise b callers asks past → StandsWith b asks past
  past-devices [] steps = opening_stands
  past-devices (e ∷ past) steps = step_stands e past steps.1 steps.0 (past-devices past steps.1)

  -- REPLIES
  pub replies-kept : (past : List Entry) → IsStepwise b callers asks past → KeepsReplies b asks past
  replies-kept past steps =
      let w : StandsWith b asks past = past-devices past steps in
      record { told = w.history_is; defined = w.defined; same = λ c. sym (settled-told b asks past c) ∙ w.stand.replies c }
