-- A settle tells a cut exactly where a step on the way of its transfer failed by the port, and says so in its reply. The
-- induction goes over the entries.
use Rattle.journal_laws.proofs.Cited.{◌≡◌, ℕ, zero, suc, nat_lt, Bool, true, false, not, ◌&&◌, ◌||◌, cond, eqb, List, [], ◌∷◌, Option, Some}
use Rattle.journal_laws.proofs.Cited.{None, refl, sym, ◌∙◌, ap, subst, ◌⊎◌, inl, inr, and_parts, eq-eqb, ne_eqb, eqb_tells, LockId, Errno}
use Rattle.journal_laws.proofs.Cited.{End, Purpose, Entry, Cut, BoardView, TransferView, is_read, buses, root_of, refusal, IsTree}
use Rattle.journal_laws.proofs.Cited.{IsPlainBoard, Asks, Job, Call, Select, SwitchOff, Act, Take, Free, Send, Shift, Settle, ActOutcome}
use Rattle.journal_laws.proofs.Cited.{Passed, Sent, Lined, Note, WalkTree, Ends, Look, Then, goes, verdict_of, job_bus, job_purpose}
use Rattle.journal_laws.proofs.Cited.{walk_by, seen, is_over, first_act, first_note, rest_of, caller_of, last_cut, cut_told, Now, begun}
use Rattle.journal_laws.proofs.Cited.{current, now, sent_by, lined_by, outcome_of, walk_left, is_cut, IsNext, IsStepwise, reply_by, InLocks}
use Rattle.journal_laws.proofs.Cited.{LinesAreLocked, AsksForMessages, NoSettle, IsDecided, GoesOn, Settles, IsAsked, first_is}
use Rattle.journal_laws.proofs.Cited.{settles_seen, current-asked, past-asked, starts_seen, no_settle, past-due, cut-told, walk-starts}
use Rattle.journal_laws.proofs.Cited.{is_failed, KeepsCuts, sends, shifts, over_ends, settles_next}
use Rattle.std.proofs.Math.Bool.{or-true}
use Rattle.std.proofs.lemmas.Bool.{or_cases}
use Rattle.std.specs.List.{list_any}
use Rattle.i2c_base.specs.declared.ids.LockId.TheVariants as lock
use Rattle.i2c_base.specs.declared.errno.Errno.TheVariants as errno
use Rattle.i2c_base.specs.declared.entry.End.TheVariants as end
use Rattle.i2c_base.specs.declared.entry.Purpose.TheVariants as purpose
use Rattle.i2c_base.specs.declared.entry.Entry.TheVariants as entry
use Rattle.i2c_base.specs.declared.reply.Reply.TheVariants as reply
use Rattle.i2c_base.specs.declared.reply.Cut.TheVariants as cut
use Rattle.i2c_spec.specs.Grant.{grant_of, is_busy}
use Rattle.i2c_spec.specs.Flat.{is_plain, is_smbus_only}
use Rattle.bus_spec.specs.Readings.{is_call, message_cut}
use Rattle.bus_spec.specs.Past.{is_on}
use Rattle.journal_laws.specs.Faulty.{is_on_way, failed_on_way, CutAt}
use Rattle.journal_laws.proofs.past.Places.{walk-left}
use Rattle.journal_laws.proofs.past.Due.{due-told}
use Rattle.flat_laws.proofs.past.Ends.{holds-nothing}
use Rattle.journal_laws.proofs.past.FailLaw.{FailsSettle, current-fails}

-- WHAT A STEP DECIDES
decided-verdict : (note : Note) (job : Job) (left : ℕ) (out : ActOutcome) (w : WalkTree) (v : Option Errno) → IsDecided note job left out w
    → first_act w ≡ Some (Settle v)
    → (v ≡ verdict_of job left out) × ((is_call (job_purpose job) || note.forward) ≡ true)
decided-verdict note job left out w v decided first =
    elim decided [
      | inl quiet ↦ absurd (no_settle w v quiet first)
      | inr h ↦ (
        let f : Some (Settle v) ≡ Some (Settle (verdict_of job left out)) = sym first ∙ h.2 in let g : v ≡ verdict_of job left out = cc in
            g,
        ap (λ (t : Bool). is_call (job_purpose job) || t) h.0 ∙ or-true (is_call (job_purpose job)),
      )
    ]

-- a settle after a message is what that message decides, and the message is on the way
settles-verdict : (note : Note) (job : Job) (left : ℕ) (out : ActOutcome) (w : WalkTree) (v : Option Errno) → GoesOn note job left out w
    → first_act w ≡ Some (Settle v)
    → (v ≡ verdict_of job left out) × ((is_call (job_purpose job) || note.forward) ≡ true)
settles-verdict note (Call bus ms) zero out w v goes first = (
  let f : Some (Settle v) ≡ Some (Settle (verdict_of (Call bus ms) zero out)) = sym first ∙ goes in
      let g : v ≡ verdict_of (Call bus ms) zero out = cc in g,
  refl,
)
settles-verdict note (Call bus ms) (suc left) out w v goes_on first = (by (is_on (goes (Call bus ms) left out)) (sym first ∙ goes_on), refl)
  where
    by : (t : Bool) → Some (Settle v) ≡ Some (cond t (Send (Call bus ms) left) (Settle (verdict_of (Call bus ms) (suc left) out)))
        → v ≡ verdict_of (Call bus ms) (suc left) out
    by true e = absurd (let f : Some (Settle v) ≡ Some (Send (Call bus ms) left) = e in cc)
    by false e = (let f : Some (Settle v) ≡ Some (Settle (verdict_of (Call bus ms) (suc left) out)) = e in cc)
settles-verdict note (Select h) left out w v goes first = decided-verdict note (Select h) left out w v goes first
settles-verdict note (SwitchOff off) left out w v goes first = decided-verdict note (SwitchOff off) left out w v goes first

-- only a failed call decides EREMOTEIO
verdict-cut : (job : Job) (left : ℕ) (e : End) (bytes : List ℕ) → verdict_of job left (Sent e bytes) ≡ Some errno.Eremoteio
    → (q : ℕ) × (e ≡ end.Cut q)
verdict-cut (Call bus ms) left end.Ok bytes v = absurd (let f : None ≡ Some errno.Eremoteio = v in cc)
verdict-cut (Select h) zero end.Ok bytes v = absurd (let f : None ≡ Some errno.Eremoteio = v in cc)
verdict-cut (Select h) (suc left) end.Ok bytes v = absurd (let f : Some errno.Etimedout ≡ Some errno.Eremoteio = v in cc)
verdict-cut (SwitchOff off) left end.Ok bytes v = absurd (let f : None ≡ Some errno.Eremoteio = v in cc)
verdict-cut job left end.Nack bytes v = absurd (let f : Some errno.Enxio ≡ Some errno.Eremoteio = v in cc)
verdict-cut job left end.Slow bytes v = absurd (let f : Some errno.Etimedout ≡ Some errno.Eremoteio = v in cc)
verdict-cut job left end.Refused bytes v = absurd (let f : Some errno.Eio ≡ Some errno.Eremoteio = v in cc)
verdict-cut job left end.Proto bytes v = absurd (let f : Some errno.Eproto ≡ Some errno.Eremoteio = v in cc)
verdict-cut job left (end.Cut q) bytes v = (q, refl)

cut_end : (e : End) → is_cut e ≡ true → (q : ℕ) × (e ≡ end.Cut q)
cut_end end.Ok h = absurd (let f : false ≡ true = h in cc)
cut_end end.Nack h = absurd (let f : false ≡ true = h in cc)
cut_end end.Slow h = absurd (let f : false ≡ true = h in cc)
cut_end end.Refused h = absurd (let f : false ≡ true = h in cc)
cut_end end.Proto h = absurd (let f : false ≡ true = h in cc)
cut_end (end.Cut q) h = (q, refl)

-- and a message that failed tells a cut
cut_some : (p : Purpose) (part q : ℕ) → message_cut p part (end.Cut q) ≡ cut.No → ⊥
cut_some purpose.Call part q e = (let f : cut.At _ q ≡ cut.No = e in cc)
cut_some (purpose.Control m) part q e = (let f : cut.Way ≡ cut.No = e in cc)

pub cut-is : (p : Purpose) (part : ℕ) (e : End) → (message_cut p part e ≡ cut.No → ⊥) → is_cut e ≡ true
cut-is purpose.Call part end.Ok h = absurd (h refl)
cut-is purpose.Call part end.Nack h = absurd (h refl)
cut-is purpose.Call part end.Slow h = absurd (h refl)
cut-is purpose.Call part end.Refused h = absurd (h refl)
cut-is purpose.Call part end.Proto h = absurd (h refl)
cut-is purpose.Call part (end.Cut q) h = refl
cut-is (purpose.Control m) part end.Ok h = absurd (h refl)
cut-is (purpose.Control m) part end.Nack h = absurd (h refl)
cut-is (purpose.Control m) part end.Slow h = absurd (h refl)
cut-is (purpose.Control m) part end.Refused h = absurd (h refl)
cut-is (purpose.Control m) part end.Proto h = absurd (h refl)
cut-is (purpose.Control m) part (end.Cut q) h = refl

-- a reply is EREMOTEIO only by the verdict, and no transfer is refused so
reply-remote : (v : Option Errno) (o : Option TransferView) (got : List ℕ) → reply_by v o got ≡ reply.Err errno.Eremoteio
    → v ≡ Some errno.Eremoteio
reply-remote (Some e) o got is = ap Some (let f : reply.Err e ≡ reply.Err errno.Eremoteio = is in let g : e ≡ errno.Eremoteio = cc in g)
reply-remote None None got is = absurd (let f : reply.Done ≡ reply.Err errno.Eremoteio = is in cc)
reply-remote None (Some t) got is = by (list_any is_read t.msgs) is
  where
    by : (z : Bool) → cond z (reply.Read got) reply.Done ≡ reply.Err errno.Eremoteio → None ≡ Some errno.Eremoteio
    by true e = absurd (let f : reply.Read got ≡ reply.Err errno.Eremoteio = e in cc)
    by false e = absurd (let f : reply.Done ≡ reply.Err errno.Eremoteio = e in cc)

of_three : (x y z : Bool) → cond x (Some errno.Enodev)
    (cond y (Some errno.Eopnotsupp) (cond z (Some errno.Ebusy) None)) ≡ Some errno.Eremoteio → ⊥
of_three true y z e = (let f : Some errno.Enodev ≡ Some errno.Eremoteio = e in cc)
of_three false true z e = (let f : Some errno.Eopnotsupp ≡ Some errno.Eremoteio = e in cc)
of_three false false true e = (let f : Some errno.Ebusy ≡ Some errno.Eremoteio = e in cc)
of_three false false false e = (let f : None ≡ Some errno.Eremoteio = e in cc)

not_remote : (b : BoardView) (t : TransferView) → refusal b t ≡ Some errno.Eremoteio → ⊥
not_remote b t e =
    of_three (not (nat_lt t.bus (buses b))) (is_plain t.kind && is_smbus_only b (root_of b t.bus))
    (list_any (λ m. is_busy (grant_of b t.bus m.addr t.force)) t.msgs) e

-- WHAT STANDS of a caller: where a step on the way failed, the settle that says so comes next, or came already
pub record CutStands (walk : WalkTree) (told : Cut) (failed : Bool) : Type 0 where
  pub after : failed ≡ true → ((first_act walk ≡ Some (Settle (Some errno.Eremoteio))) × (told ≡ cut.No → ⊥)) ⊎ Settles true walk
  pub before : (v : Option Errno) → first_act walk ≡ Some (Settle v) → (told ≡ cut.No → ⊥) → failed ≡ true
  pub ended : is_over walk ≡ true → told ≡ cut.No
  pub remote : first_act walk ≡ Some (Settle (Some errno.Eremoteio)) → told ≡ cut.No → ⊥

-- the tests
is_live : (w : WalkTree) (act : Act) → first_act w ≡ Some act → is_over w ≡ false
is_live Ends act e = absurd (let f : None ≡ Some act = e in cc)
is_live (Look ask next) act e = refl
is_live (Then a note next) act e = refl

all_true : (x y z : Bool) → x ≡ false → y ≡ true → (not x && (y || z)) ≡ true
all_true true y z p q = absurd (let f : true ≡ false = p in cc)
all_true false true z p q = refl
all_true false false z p q = absurd (let f : false ≡ true = q in cc)

module _ (b : BoardView) (asks : Asks) where
  over_none : (past : List Entry) (c : ℕ) → is_over ((now b asks past).walk c) ≡ true → failed_on_way b asks past c ≡ false
  over_none [] c over = refl
  over_none (e ∷ past) c over =
      ap (λ (t : Bool). not t && (((eqb (caller_of e) c) && (is_failed e && is_on_way (first_note (current b asks (now b asks past) c)) e))
      || failed_on_way b asks past c)) over

  -- another's entry
  other-failed : (e : Entry) (past : List Entry) (c : ℕ) → (caller_of e ≡ c → ⊥) → (now b asks (e ∷ past)).walk c ≡ (now b asks past).walk c
      → failed_on_way b asks (e ∷ past) c ≡ failed_on_way b asks past c
  other-failed e past c other walk =
      ap (λ (w : WalkTree). not (is_over w) &&
      (((eqb (caller_of e) c) && (is_failed e && is_on_way (first_note (current b asks (now b asks past) c)) e)) || failed_on_way b asks
      past c)) walk
      ∙ ap (λ (t : Bool). not (is_over ((now b asks past).walk c)) &&
      ((t && (is_failed e && is_on_way (first_note (current b asks (now b asks past) c)) e)) || failed_on_way b asks past c))
      (ne_eqb (caller_of e) c other)
      ∙ by (is_over ((now b asks past).walk c)) refl
    where
      by : (t : Bool) → is_over ((now b asks past).walk c) ≡ t → (not t && failed_on_way b asks past c) ≡ failed_on_way b asks past c
      by true over = sym (over_none past c over)
      by false live = refl

  -- one's own
  own-failed : (e : Entry) (past : List Entry) (w : WalkTree) → (now b asks (e ∷ past)).walk (caller_of e) ≡ w
      → failed_on_way b asks (e ∷ past) (caller_of e)
      ≡ (not (is_over w) && ((is_failed e && is_on_way (first_note (current b asks (now b asks past) (caller_of e))) e) || failed_on_way b
      asks past (caller_of e)))
  own-failed e past w walk =
      ap (λ (x : WalkTree). not (is_over x) &&
      (((eqb (caller_of e) (caller_of e)) && (is_failed e && is_on_way (first_note (current b asks (now b asks past) (caller_of e))) e))
      || failed_on_way b asks past (caller_of e))) walk
      ∙ ap (λ (t : Bool). not (is_over w) &&
      ((t && (is_failed e && is_on_way (first_note (current b asks (now b asks past) (caller_of e))) e)) || failed_on_way b asks past
      (caller_of e))) (eq-eqb (caller_of e) (caller_of e) refl)

module _ (b : BoardView) (tree : IsTree b) (plain : IsPlainBoard b) (lines : LinesAreLocked b) (asks : Asks) (some : AsksForMessages asks)
    (callers : ℕ) where
  module _ (past : List Entry) (steps : IsStepwise b callers asks past) (d : ℕ)
      (old : CutStands ((now b asks past).walk d) ((now b asks past).cut d) (failed_on_way b asks past d)) where
    abbrev n : Now
    n = now b asks past

    abbrev w : WalkTree
    w = current b asks n d

    own : IsAsked b asks d w (n.settled d)
    own = current-asked b asks some n (past-asked b asks some callers past steps) d

    -- a settle that comes next is the one of the walk under way
    settle_current : (v : Option Errno) → first_act (n.walk d) ≡ Some (Settle v) → first_act w ≡ Some (Settle v)
    settle_current v first =
        let at = first_is (n.walk d) (Settle v) first in
        ap (λ (x : WalkTree). first_act (seen n.slot (cond (is_over x) (begun b (asks d (n.settled d))) x))) at.2

    -- where a step on the way failed before, the walk has settled
    had_settled : (act : Act) → IsNext b asks n d act → ((v : Option Errno) → act ≡ Settle v → ⊥) → failed_on_way b asks past d ≡ true
        → Settles true w
    had_settled act next other failed =
        elim (old.after failed) [
          | inl h ↦ absurd (other (Some errno.Eremoteio) (let f : Some act ≡ Some (Settle (Some errno.Eremoteio)) = sym next
              ∙ settle_current (Some errno.Eremoteio) h.0 in let g : act ≡ Settle (Some errno.Eremoteio) = cc in g))
          | inr settles ↦ by (is_over (n.walk d)) refl settles
        ]
      where
        by : (t : Bool) → is_over (n.walk d) ≡ t → Settles true (n.walk d) → Settles true w
        by true over settles = absurd (let f : true ≡ false = sym failed ∙ over_none b asks past d over in cc)
        by false live settles =
            subst (λ (t : Bool). Settles true (seen n.slot (cond t (begun b (asks d (n.settled d))) (n.walk d)))) (sym live)
            (settles_seen n.slot true (n.walk d) settles)

    -- A STEP that neither fails nor settles: a lock's
    lock-stands : (act : Act) → IsNext b asks n d act → ((v : Option Errno) → act ≡ Settle v → ⊥)
        → ((done : Bool) (note : Note) (rest : ActOutcome → WalkTree) → Settles done (Then act note rest)
        → NoSettle (rest Passed) × Settles done (rest Passed))
        → CutStands (rest_of w Passed) cut.No (not (is_over (rest_of w Passed)) && failed_on_way b asks past d)
    lock-stands act next other behind =
        record {
          after = λ failed. inr (goes true (had_settled act next other
              (and_parts (not (is_over (rest_of w Passed))) (failed_on_way b asks past d) failed).1)).1;
          before = λ v first told. absurd (told refl);
          ended = λ over. refl;
          remote = λ first told. no_settle (rest_of w Passed) (Some errno.Eremoteio) (goes own.done own.settles).0 first;
        }
      where
        goes : (done : Bool) → Settles done w → NoSettle (rest_of w Passed) × Settles done (rest_of w Passed)
        goes done h =
            let at = first_is w act next in
            subst (λ (x : WalkTree). NoSettle (rest_of x Passed) × Settles done (rest_of x Passed)) (sym at.2)
            (behind done at.0 at.1 (subst (λ (x : WalkTree). Settles done x) at.2 h))

    -- a settle
    settle-stands : (v : Option Errno) → IsNext b asks n d (Settle v)
        → CutStands (rest_of w Passed) cut.No (not (is_over (rest_of w Passed)) && failed_on_way b asks past d)
    settle-stands v next =
        let at = first_is w (Settle v) next in
        let settles : Settles own.done (Then (Settle v) at.0 at.1) = subst (λ (x : WalkTree). Settles own.done x) at.2 own.settles in
        let rest : rest_of w Passed ≡ at.1 Passed = ap (λ (x : WalkTree). rest_of x Passed) at.2 in
        record {
          after = λ failed. inr (subst (λ (x : WalkTree). Settles true x) (sym rest) settles.2);
          before = λ v first told. absurd (told refl);
          ended = λ over. refl;
          remote = λ first told. no_settle (at.1 Passed) (Some errno.Eremoteio) settles.1 (ap first_act (sym rest) ∙ first);
        }

    -- a message
    module _ (job : Job) (left : ℕ) (next : IsNext b asks n d (Send job left)) where
      at_send : (note : Note) × (rest : ActOutcome → WalkTree) × (w ≡ Then (Send job left) note rest)
      at_send = first_is w (Send job left) next

      sent_goes : (e : End) (bytes : List ℕ)
          → GoesOn (first_note w) job left (Sent e bytes) (rest_of w (Sent e bytes)) × Settles own.done (rest_of w (Sent e bytes))
      sent_goes e bytes =
          subst (λ (x : WalkTree). GoesOn (first_note x) job left (Sent e bytes) (rest_of x (Sent e bytes))
          × Settles own.done (rest_of x (Sent e bytes))) (sym at_send.2)
          ((subst (λ (x : WalkTree). Settles own.done x) at_send.2 own.settles).1 e bytes)

      sent_settled : (e : End) (bytes : List ℕ) → Settles true w → Settles true (rest_of w (Sent e bytes))
      sent_settled e bytes h =
          subst (λ (x : WalkTree). Settles true (rest_of x (Sent e bytes))) (sym at_send.2)
          ((subst (λ (x : WalkTree). Settles true x) at_send.2 h).1 e bytes).1

      on_remote : (q : ℕ) (bytes : List ℕ) → (first_note w).forward ≡ true
          → first_act (rest_of w (Sent (end.Cut q) bytes)) ≡ Some (Settle (Some errno.Eremoteio))
      on_remote q bytes =
          subst (λ (x : WalkTree). (first_note x).forward ≡ true
          → first_act (rest_of x (Sent (end.Cut q) bytes)) ≡ Some (Settle (Some errno.Eremoteio))) (sym at_send.2)
          ((subst (λ (x : WalkTree). FailsSettle x) at_send.2 (current-fails b asks past d)).0 q bytes)

      remote_first : (q : ℕ) (bytes : List ℕ) → (is_call (job_purpose job) || (first_note w).forward) ≡ true
          → first_act (rest_of w (Sent (end.Cut q) bytes)) ≡ Some (Settle (Some errno.Eremoteio))
      remote_first q bytes way = by_job job left (sent_goes (end.Cut q) bytes).0 (on_remote q bytes) way
        where
          by_job : (j : Job) (k : ℕ) → GoesOn (first_note w) j k (Sent (end.Cut q) bytes) (rest_of w (Sent (end.Cut q) bytes))
              → ((first_note w).forward ≡ true → first_act (rest_of w (Sent (end.Cut q) bytes)) ≡ Some (Settle (Some errno.Eremoteio)))
              → (is_call (job_purpose j) || (first_note w).forward) ≡ true
              → first_act (rest_of w (Sent (end.Cut q) bytes)) ≡ Some (Settle (Some errno.Eremoteio))
          by_job (Call bus ms) zero goes forward way = goes
          by_job (Call bus ms) (suc k) goes forward way = goes
          by_job (Select h) k goes forward way = forward way
          by_job (SwitchOff off) k goes forward way = forward way

      sent-stands : (e : End) (bytes : List ℕ) (p : Purpose) (part : ℕ) → p ≡ job_purpose job
          → (is_over (rest_of w (Sent e bytes)) ≡ true → ⊥)
          → CutStands (rest_of w (Sent e bytes)) (message_cut p part e)
          (not (is_over (rest_of w (Sent e bytes))) && ((is_cut e && (is_call p || (first_note w).forward)) || failed_on_way b asks past d))
      sent-stands e bytes p part why live =
          record {
            after = λ failed. elim (or_cases (is_cut e && (is_call p || (first_note w).forward)) (failed_on_way b asks past d)
                (and_parts (not (is_over (rest_of w (Sent e bytes))))
                ((is_cut e && (is_call p || (first_note w).forward)) || failed_on_way b asks past d) failed).1) [
                  | inl now_failed ↦ (let h = and_parts (is_cut e) (is_call p || (first_note w).forward) now_failed in
                      let is = cut_end e h.0 in
                      let way : (is_call (job_purpose job) || (first_note w).forward) ≡ true = ap
                      (λ (x : Purpose). is_call x || (first_note w).forward) (sym why) ∙ h.1 in
                      inl (
                        ap (λ (x : End). first_act (rest_of w (Sent x bytes))) is.1 ∙ remote_first is.0 bytes way,
                        λ told. cut_some p part is.0 (ap (λ (x : End). message_cut p part x) (sym is.1) ∙ told),
                      ))
                  | inr before ↦ inr (sent_settled e bytes
                      (had_settled (Send job left) next (λ v f. let g : Send job left ≡ Settle v = f in cc) before))
                ];
            before = λ v first told.
                (let way = (settles-verdict (first_note w) job left (Sent e bytes) (rest_of w (Sent e bytes)) v
                (sent_goes e bytes).0 first).1 in
                all_true (is_over (rest_of w (Sent e bytes))) (is_cut e && (is_call p || (first_note w).forward))
                (failed_on_way b asks past d)
                (is_live (rest_of w (Sent e bytes)) (Settle v) first)
                (ap (λ (t : Bool). t && (is_call p || (first_note w).forward)) (cut-is p part e told)
                ∙ ap (λ (x : Purpose). is_call x || (first_note w).forward) why ∙ way));
            ended = λ over. absurd (live over);
            remote = λ first told.
                (let v = (settles-verdict (first_note w) job left (Sent e bytes) (rest_of w (Sent e bytes)) (Some errno.Eremoteio)
                (sent_goes e bytes).0 first).0 in
                let is = verdict-cut job left e bytes (sym v) in
                cut_some p part is.0 (ap (λ (x : End). message_cut p part x) (sym is.1) ∙ told));
          }

    -- a line step
    module _ (job : Job) (next : IsNext b asks n d (Shift job)) where
      at_shift : (note : Note) × (rest : ActOutcome → WalkTree) × (w ≡ Then (Shift job) note rest)
      at_shift = first_is w (Shift job) next

      lined_goes : (failed : Bool) → IsDecided (first_note w) job zero (Lined failed) (rest_of w (Lined failed))
          × Settles own.done (rest_of w (Lined failed))
      lined_goes failed =
          subst (λ (x : WalkTree). IsDecided (first_note x) job zero (Lined failed) (rest_of x (Lined failed))
          × Settles own.done (rest_of x (Lined failed))) (sym at_shift.2)
          ((subst (λ (x : WalkTree). Settles own.done x) at_shift.2 own.settles) failed)

      lined_settled : (failed : Bool) → Settles true w → Settles true (rest_of w (Lined failed))
      lined_settled failed h =
          subst (λ (x : WalkTree). Settles true (rest_of x (Lined failed))) (sym at_shift.2)
          ((subst (λ (x : WalkTree). Settles true x) at_shift.2 h) failed).1

      lined_remote : (first_note w).forward ≡ true → first_act (rest_of w (Lined true)) ≡ Some (Settle (Some errno.Eremoteio))
      lined_remote =
          subst (λ (x : WalkTree). (first_note x).forward ≡ true
          → first_act (rest_of x (Lined true)) ≡ Some (Settle (Some errno.Eremoteio))) (sym at_shift.2)
          (subst (λ (x : WalkTree). FailsSettle x) at_shift.2 (current-fails b asks past d)).0

      is_forward : (failed : Bool) (v : Option Errno) → first_act (rest_of w (Lined failed)) ≡ Some (Settle v)
          → (first_note w).forward ≡ true
      is_forward failed v first =
          elim (lined_goes failed).0 [ inl quiet ↦ absurd (no_settle (rest_of w (Lined failed)) v quiet first) | inr h ↦ h.0 ]

      lined-stands : (failed : Bool) → (is_over (rest_of w (Lined failed)) ≡ true → ⊥)
          → CutStands (rest_of w (Lined failed)) (cond failed cut.Way cut.No)
          (not (is_over (rest_of w (Lined failed))) && ((failed && (first_note w).forward) || failed_on_way b asks past d))
      lined-stands true live =
          record {
            after = λ failed. elim (or_cases (first_note w).forward (failed_on_way b asks past d)
                (and_parts (not (is_over (rest_of w (Lined true)))) ((first_note w).forward || failed_on_way b asks past d) failed).1) [
                  | inl forward ↦ inl (lined_remote forward, λ told. let f : cut.Way ≡ cut.No = told in cc)
                  | inr before ↦ inr (lined_settled true
                      (had_settled (Shift job) next (λ v f. let g : Shift job ≡ Settle v = f in cc) before))
                ];
            before = λ v first told.
                all_true (is_over (rest_of w (Lined true))) (first_note w).forward (failed_on_way b asks past d)
                (is_live (rest_of w (Lined true)) (Settle v) first) (is_forward true v first);
            ended = λ over. absurd (live over);
            remote = λ first told. (let f : cut.Way ≡ cut.No = told in cc);
          }
      lined-stands false live =
          record {
            after = λ failed.
                inr (lined_settled false (had_settled (Shift job) next (λ v f. let g : Shift job ≡ Settle v = f in cc)
                (and_parts (not (is_over (rest_of w (Lined false)))) (failed_on_way b asks past d) failed).1));
            before = λ v first told. absurd (told refl);
            ended = λ over. refl;
            remote = λ first told. elim (lined_goes false).0 [
              | inl quiet ↦ no_settle (rest_of w (Lined false)) (Some errno.Eremoteio) quiet first
              | inr h ↦ (let f : Some (Settle (Some errno.Eremoteio)) ≡ Some (Settle None) = sym first ∙ h.2 in cc)
            ];
          }

  -- THE INDUCTION
  module _ (e : Entry) (past : List Entry) where
    abbrev d : ℕ
    d = caller_of e

    abbrev left_walk : WalkTree
    left_walk = rest_of (current b asks (now b asks past) d) (outcome_of e)

    own_walk : (now b asks (e ∷ past)).walk d ≡ left_walk
    own_walk = walk-left b asks (e ∷ past) d ∙ ap (λ (t : Bool). cond t left_walk (walk_left b asks past d)) (eq-eqb d d refl)

    other_walk : (c : ℕ) → (d ≡ c → ⊥) → (now b asks (e ∷ past)).walk c ≡ (now b asks past).walk c
    other_walk c other =
        walk-left b asks (e ∷ past) c
        ∙ ap (λ (t : Bool). cond t (rest_of (current b asks (now b asks past) c) (outcome_of e)) (walk_left b asks past c))
        (ne_eqb c d (λ f. other (sym f)))
        ∙ sym (walk-left b asks past c)

    other_cut : (c : ℕ) → (d ≡ c → ⊥) → (now b asks (e ∷ past)).cut c ≡ (now b asks past).cut c
    other_cut c other =
        cut-told b asks (e ∷ past) c ∙ ap (λ (t : Bool). cond t (cut_told e) (last_cut past c)) (ne_eqb d c other)
        ∙ sym (cut-told b asks past c)

    own_cut : (now b asks (e ∷ past)).cut d ≡ cut_told e
    own_cut = cut-told b asks (e ∷ past) d ∙ ap (λ (t : Bool). cond t (cut_told e) (last_cut past d)) (eq-eqb d d refl)

    -- a caller that turned, and one that didn't
    turned : CutStands left_walk (cut_told e)
        (not (is_over left_walk) && ((is_failed e && is_on_way (first_note (current b asks (now b asks past) d)) e) || failed_on_way b asks
        past d))
        → ((c : ℕ) → CutStands ((now b asks past).walk c) ((now b asks past).cut c) (failed_on_way b asks past c))
        → (c : ℕ) → CutStands ((now b asks (e ∷ past)).walk c) ((now b asks (e ∷ past)).cut c) (failed_on_way b asks (e ∷ past) c)
    turned own before c =
        elim (eqb_tells d c) [
          | inl h ↦ subst (λ (i : ℕ). CutStands ((now b asks (e ∷ past)).walk i) ((now b asks (e ∷ past)).cut i)
              (failed_on_way b asks (e ∷ past) i)) h.1
              (subst (λ (w : WalkTree). CutStands w ((now b asks (e ∷ past)).cut d) (failed_on_way b asks (e ∷ past) d)) (sym own_walk)
              (subst (λ (x : Cut). CutStands left_walk x (failed_on_way b asks (e ∷ past) d)) (sym own_cut)
              (subst (λ (t : Bool). CutStands left_walk (cut_told e) t) (sym (own-failed b asks e past left_walk own_walk)) own)))
          | inr h ↦ subst (λ (w : WalkTree). CutStands w ((now b asks (e ∷ past)).cut c) (failed_on_way b asks (e ∷ past) c))
              (sym (other_walk c h.1))
              (subst (λ (x : Cut). CutStands ((now b asks past).walk c) x (failed_on_way b asks (e ∷ past) c)) (sym (other_cut c h.1))
              (subst (λ (t : Bool). CutStands ((now b asks past).walk c) ((now b asks past).cut c) t)
              (sym (other-failed b asks e past c h.1 (other_walk c h.1))) (before c)))
        ]

    -- after a message or a line step its caller has the root's lock, so its walk goes on
    goes_on : IsStepwise b callers asks (e ∷ past) → (l : LockId) → InLocks l ((now b asks (e ∷ past)).held d) → is_over left_walk ≡ true
        → ⊥
    goes_on steps l has over =
        subst (λ (ls : List LockId). InLocks l ls)
        (holds-nothing b tree plain lines asks some callers (e ∷ past) steps d (own_walk ∙ over_ends left_walk over)) has

  pub cuts-stand : (past : List Entry) → IsStepwise b callers asks past → (c : ℕ)
      → CutStands ((now b asks past).walk c) ((now b asks past).cut c) (failed_on_way b asks past c)
  cuts-stand [] steps c =
      record {
        after = λ failed. absurd (let f : false ≡ true = failed in cc);
        before = λ v first told. absurd (let f : None ≡ Some (Settle v) = first in cc);
        ended = λ over. refl;
        remote = λ first told. (let f : None ≡ Some (Settle (Some errno.Eremoteio)) = first in cc);
      }
  cuts-stand (entry.Take d l ∷ past) steps c =
      turned (entry.Take d l) past
      (lock-stands past steps.1 d (cuts-stand past steps.1 d) (Take l) steps.0.2 (λ v f. let g : Take l ≡ Settle v = f in cc)
      (λ done note rest h. h))
      (cuts-stand past steps.1) c
  cuts-stand (entry.Free d l ∷ past) steps c =
      turned (entry.Free d l) past
      (lock-stands past steps.1 d (cuts-stand past steps.1 d) (Free l) steps.0.2 (λ v f. let g : Free l ≡ Settle v = f in cc)
      (λ done note rest h. h))
      (cuts-stand past steps.1) c
  cuts-stand (entry.Settle d r told ∷ past) steps c =
      turned (entry.Settle d r told) past (settle-stands past steps.1 d (cuts-stand past steps.1 d) steps.0.2 steps.0.3)
      (cuts-stand past steps.1) c
  cuts-stand (entry.Line d mux level failed ∷ past) steps c =
      let job : Job = steps.0.2.0 in
      let next : IsNext b asks (now b asks past) d (Shift job) = steps.0.2.1 in
      turned (entry.Line d mux level failed) past
      (lined-stands past steps.1 d (cuts-stand past steps.1 d) job next failed
      (goes_on (entry.Line d mux level failed) past steps (lock.Bus (root_of b (job_bus job)))
      (subst (λ (o : Option Act). InLocks (lock.Bus (root_of b (job_bus job)))
      ((lined_by b (now b asks past) o (first_note (current b asks (now b asks past) d)) failed).held d)) (sym next)
      (shifts b tree plain lines asks some callers past steps.1 d job next).rooted)))
      (cuts-stand past steps.1) c
  cuts-stand (entry.Message d bus why part parts addr reading bytes heard e ∷ past) steps c =
      let job : Job = steps.0.2.0 in
      let left : ℕ = steps.0.2.1 in
      let next : IsNext b asks (now b asks past) d (Send job left) = steps.0.2.2 in
      turned (entry.Message d bus why part parts addr reading bytes heard e) past
      (sent-stands past steps.1 d (cuts-stand past steps.1 d) job left next e bytes why part steps.0.2.3.for_purpose
      (goes_on (entry.Message d bus why part parts addr reading bytes heard e) past steps (lock.Bus (root_of b (job_bus job)))
      (subst (λ (o : Option Act). InLocks (lock.Bus (root_of b (job_bus job)))
      ((sent_by b (now b asks past) d o (first_note (current b asks (now b asks past) d)) reading bytes e).held d)) (sym next)
      (sends b tree plain lines asks some callers past steps.1 d job left next).rooted)))
      (cuts-stand past steps.1) c

  -- WHAT A SETTLE TELLS
  module _ (past : List Entry) (steps : IsStepwise b callers asks past) (c : ℕ) (verdict : Option Errno)
      (next : IsNext b asks (now b asks past) c (Settle verdict)) where
    abbrev then_walk : WalkTree
    then_walk = (now b asks past).walk c

    -- of a transfer that steps on the bus it is the one that its walk has next
    next_first : is_over then_walk ≡ false → first_act then_walk ≡ Some (Settle verdict)
    next_first live =
        elim (past-due b asks some callers past steps c) [
          | inl due ↦ (let h = due-told b asks some callers past c steps due in
              let f : Some (Settle h.verdict) ≡ Some (Settle verdict) = sym
              (settle_current past steps c (cuts-stand past steps c) h.verdict h.next) ∙ next in
              h.next ∙ f)
          | inr quiet ↦ absurd (no_settle (current b asks (now b asks past) c) verdict
              (subst (λ (t : Bool). NoSettle
              (seen (now b asks past).slot (cond t (begun b (asks c ((now b asks past).settled c))) then_walk))) (sym live)
              (starts_seen (now b asks past).slot then_walk quiet)) next)
        ]

    -- a transfer that is refused is none that failed
    refused_not : is_over then_walk ≡ true → verdict ≡ Some errno.Eremoteio → ⊥
    refused_not over is = by (asks c ((now b asks past).settled c))
        (subst (λ (t : Bool). first_act
        (seen (now b asks past).slot (cond t (begun b (asks c ((now b asks past).settled c))) then_walk)) ≡ Some (Settle verdict)) over
        next)
      where
        by_refusal : (t : TransferView) (o : Option Errno) → refusal b t ≡ o
            → first_act (seen (now b asks past).slot (walk_by b t o)) ≡ Some (Settle verdict) → ⊥
        by_refusal t (Some e) refused first =
            not_remote b t (refused ∙ (let f : Some (Settle (Some e)) ≡ Some (Settle verdict) = first in let g : Some e ≡ verdict = cc in g)
            ∙ is)
        by_refusal t None accepted first =
            no_settle (seen (now b asks past).slot (walk_by b t None)) verdict
            (starts_seen (now b asks past).slot (walk_by b t None)
            (subst (λ (o : Option Errno). NoSettle (walk_by b t o)) accepted (walk-starts b t accepted))) first

        by : (o : Option TransferView) → first_act (seen (now b asks past).slot (begun b o)) ≡ Some (Settle verdict) → ⊥
        by None first = (let f : None ≡ Some (Settle verdict) = first in cc)
        by (Some t) first = by_refusal t (refusal b t) refl first

    abbrev pub has_failed : Bool
    has_failed = failed_on_way b asks past c

    told-failed : (told : Cut) → told ≡ (now b asks past).cut c → (told ≡ cut.No → ⊥) → has_failed ≡ true
    told-failed told is some_cut = by (is_over then_walk) refl
      where
        by : (t : Bool) → is_over then_walk ≡ t → has_failed ≡ true
        by true over = absurd (some_cut (is ∙ (cuts-stand past steps c).ended over))
        by false live = (cuts-stand past steps c).before verdict (next_first live) (λ no. some_cut (is ∙ no))

    -- where a step failed, the settle says so
    pub failed-says : has_failed ≡ true → (verdict ≡ Some errno.Eremoteio) × ((now b asks past).cut c ≡ cut.No → ⊥)
    failed-says is = by (is_over then_walk) refl
      where
        by : (t : Bool) → is_over then_walk ≡ t → (verdict ≡ Some errno.Eremoteio) × ((now b asks past).cut c ≡ cut.No → ⊥)
        by true over = absurd (let f : true ≡ false = sym is ∙ over_none b asks past c over in cc)
        by false live =
            elim ((cuts-stand past steps c).after is) [
              | inl h ↦ (
                (let f : Some (Settle verdict) ≡ Some (Settle (Some errno.Eremoteio)) = sym (next_first live) ∙ h.0 in
                    let g : verdict ≡ Some errno.Eremoteio = cc in g),
                h.1,
              )
              | inr settled ↦ absurd (let f : true ≡ false = settles_next then_walk true verdict settled (next_first live) in cc)
            ]

    -- which is due there
    pub failed-due : has_failed ≡ true → (now b asks past).due ≡ Some c
    failed-due is =
        elim (past-due b asks some callers past steps c) [
          | inl due ↦ due
          | inr quiet ↦ absurd (by (is_over then_walk) refl quiet)
        ]
      where
        by : (t : Bool) → is_over then_walk ≡ t → NoSettle then_walk → ⊥
        by true over quiet = (let f : true ≡ false = sym is ∙ over_none b asks past c over in cc)
        by false live quiet = no_settle then_walk verdict quiet (next_first live)

    says-failed : verdict ≡ Some errno.Eremoteio → has_failed ≡ true
    says-failed is = by (is_over then_walk) refl
      where
        by : (t : Bool) → is_over then_walk ≡ t → has_failed ≡ true
        by true over = absurd (refused_not over is)
        by false live =
            (cuts-stand past steps c).before verdict (next_first live)
            ((cuts-stand past steps c).remote (next_first live ∙ ap (λ (v : Option Errno). Some (Settle v)) is))

  pub cut-at : (e : Entry) (past : List Entry) → IsStepwise b callers asks (e ∷ past) → CutAt b asks e past
  cut-at (entry.Take c l) past steps = tt
  cut-at (entry.Free c l) past steps = tt
  cut-at (entry.Line c mux level failed) past steps = tt
  cut-at (entry.Message c bus why part parts addr reading bytes heard e) past steps = tt
  cut-at (entry.Settle c r told) past steps =
      let may = steps.0 in
      let verdict : Option Errno = may.2 in (
        (told-failed past steps.1 c verdict may.3 told may.5, λ is no. (failed-says past steps.1 c verdict may.3 is).1 (sym may.5 ∙ no)),
        (
          λ remote. says-failed past steps.1 c verdict may.3
              (reply-remote verdict (asks c ((now b asks past).settled c)) ((now b asks past).got c) (sym may.4 ∙ remote)),
          λ is. may.4 ∙ ap (λ (v : Option Errno). reply_by v (asks c ((now b asks past).settled c)) ((now b asks past).got c))
              (failed-says past steps.1 c verdict may.3 is).0,
        ),
      )

  pub cuts-kept : (past : List Entry) → IsStepwise b callers asks past → KeepsCuts b asks past
  cuts-kept [] steps = tt
  cuts-kept (e ∷ past) steps = (cut-at e past steps, cuts-kept past steps.1)
