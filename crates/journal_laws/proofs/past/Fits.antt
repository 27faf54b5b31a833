-- Each reply that is settled is one that its transfer may get. The induction goes over the entries.
use Rattle.journal_laws.proofs.Cited.{◌≡◌, ℕ, zero, suc, ◌+◌, ◌-◌, ◌<◌, Bool, true, false, cond, List, [], ◌∷◌, ◌++◌, length, Option, Some}
use Rattle.journal_laws.proofs.Cited.{None, refl, sym, ◌∙◌, ap, subst, ◌⊎◌, inl, inr, arith, take, eqb_tells, Msg, Errno, End, Entry, Reply}
use Rattle.journal_laws.proofs.Cited.{BoardView, Fits, TransferView, root_of, MessageView, messages_of, world_listener, refusal}
use Rattle.journal_laws.proofs.Cited.{block_limit, Asks, Job, Call, Select, SwitchOff, Act, Take, Free, Send, Shift, Settle, Passed, Sent}
use Rattle.journal_laws.proofs.Cited.{Lined, Note, WalkTree, job_outcome, decides, verdict_of, message_of, is_last, is_line, nth_message}
use Rattle.journal_laws.proofs.Cited.{Slots, walk_by, seen, is_over, first_act, first_note, rest_of, OfMessage, caller_of, Now, begun}
use Rattle.journal_laws.proofs.Cited.{current, now, step, cut_of, got_after, TellsMessage, May, IsNext, IsStepwise, reply_by}
use Rattle.journal_laws.proofs.Cited.{AsksForMessages, IsCall, NoSettle, IsDecided, Settles, CallsOf, ahead, KeepsFits, is_block_limit}
use Rattle.journal_laws.proofs.Cited.{walk-settles, walk-starts, settles-taken, settles-freed, settles-sent, settles-shifted}
use Rattle.journal_laws.proofs.Cited.{settles-settled, at_same, over_ends, settles_seen, settled-told, never, IsUntouched, entry-elsewhere}
use Rattle.std.proofs.Math.Seq.{take-length}
use Rattle.i2c_base.specs.declared.entry.End.TheVariants as end
use Rattle.i2c_base.specs.declared.entry.Entry.TheVariants as entry
use Rattle.i2c_base.specs.Fitting.{FitsReads}
use Rattle.bus_laws.specs.Settles.{FollowsSend}
use Rattle.bus_laws.specs.Jobs.{EachJob}
use Rattle.i2c_spec.specs.History.{changed_at}
use Rattle.bus_laws.specs.Calls.{FirstCalls}
use Rattle.journal_laws.specs.Spent.{FitsAt}
use Rattle.i2c_spec.proofs.MessageLemmas.{length-messages}
use Rattle.bus_laws.proofs.world.TalkThrough.{GaveRead, talk-reads}
use Rattle.bus_laws.proofs.walk.Calls.{walk-calls}
use Rattle.bus_laws.proofs.walk.Jobs.{walk-jobs}
use Rattle.bus_laws.proofs.walk.First.{walk-first}
use Rattle.bus_laws.proofs.walk.Reads.{message-reads}
use Rattle.bus_laws.proofs.walk.Next.{seen-first, jobs-next, job-shifted, calls-next, call-sent, quiet-next, what_follows, call-follows}
use Rattle.bus_laws.proofs.walk.Next.{first-taken, first-freed, first-selected, first-switched-off, first-shifted, first-sent}
use Rattle.bus_laws.proofs.past.Asked.{sent_settled, lined_settled}
use Rattle.journal_laws.proofs.past.Budgets.{message-got, line-got}
use Rattle.bus_laws.proofs.past.Laws.{nobody}
use Rattle.bus_laws.proofs.past.Bytes.{reply-fits}

-- HOW FAR a walk is with its caller's messages: none was sent
record SendsNone (w : WalkTree) (got : List ℕ) (done : Bool) : Type 0 where
  unsettled : done ≡ false
  firsts : FirstCalls w
  quiet : NoSettle w
  empty : got ≡ []

-- this one comes next, and those before it have read what fits
record SendsNext (t : TransferView) (w : WalkTree) (got : List ℕ) (done : Bool) : Type 0 where
  unsettled : done ≡ false
  bus : ℕ
  messages : List MessageView
  left : ℕ
  next : first_act w ≡ Some (Send (Call bus messages) left)
  low : left < length t.msgs
  fits : FitsReads (take (length t.msgs - 1 - left) t.msgs) got

-- the settle comes next: without an error all that was read fits
record SettlesNext (t : TransferView) (w : WalkTree) (got : List ℕ) (done : Bool) : Type 0 where
  unsettled : done ≡ false
  verdict : Option Errno
  next : first_act w ≡ Some (Settle verdict)
  fits : verdict ≡ None → FitsReads t.msgs got

-- it stands behind
record HasSettled (got : List ℕ) (done : Bool) : Type 0 where
  settled : done ≡ true
  empty : got ≡ []

abbrev Reading : TransferView → WalkTree → List ℕ → Bool → Type 0
Reading t w got done = SendsNone w got done ⊎ (SendsNext t w got done ⊎ (SettlesNext t w got done ⊎ HasSettled got done))

abbrev Any : Job → Type 0
Any job = Unit {0}

record IsReading (b : BoardView) (asks : List Reply → Option TransferView) (w : WalkTree) (settled : List Reply)
    (got : List ℕ) : Type 0 where
  whose : TransferView
  done : Bool
  calls : CallsOf b whose w
  settles : Settles done w
  -- only the line of a gpio mux is shifted
  jobs : EachJob Any w
  asked : done ≡ false → asks settled ≡ Some whose
  stage : Reading whose w got done

-- two next steps are one
same_act : (v : Slots) (w : WalkTree) (x y : Act) → first_act w ≡ Some x → first_act (seen v w) ≡ Some y → x ≡ y
same_act v w x y hx hy = (let f : Some x ≡ Some y = sym hx ∙ ap (λ (u : WalkTree). first_act u) (sym (seen-first v w x hx)) ∙ hy in cc)

-- a control message or a line step never decides without an error
line_errs : (job : Job) (failed : Bool) → is_line job ≡ true → decides job (job_outcome job zero (Lined failed)) ≡ true
    → verdict_of job zero (Lined failed) ≡ None → ⊥
line_errs (Call bus ms) failed line d none = (let f : false ≡ true = line in cc)
line_errs (Select h) true line d none = (let f : verdict_of (Select h) zero (Lined true) ≡ None = none in cc)
line_errs (Select h) false line d none = (let f : false ≡ true = d in cc)
line_errs (SwitchOff off) true line d none = (let f : verdict_of (SwitchOff off) zero (Lined true) ≡ None = none in cc)
line_errs (SwitchOff off) false line d none = (let f : false ≡ true = d in cc)

-- ONE STEP
module _ (b : BoardView) (asks : List Reply → Option TransferView) (v : Slots) (w : WalkTree) (settled : List Reply) (got : List ℕ)
    (is : IsReading b asks w settled got) where
  -- a lock
  passed : (act : Act) → first_act (seen v w) ≡ Some act → ((job : Job) (left : ℕ) → act ≡ Send job left → ⊥)
      → ((verdict : Option Errno) → act ≡ Settle verdict → ⊥)
      → NoSettle (rest_of (seen v w) Passed) → Settles is.done (rest_of (seen v w) Passed)
      → (FirstCalls w → FirstCalls (rest_of (seen v w) Passed))
      → IsReading b asks (rest_of (seen v w) Passed) settled got
  passed act first no_send no_settle quiet settles firsts =
      record {
        whose = is.whose;
        done = is.done;
        calls = calls-next b is.whose v w is.calls act first Passed;
        settles = settles;
        jobs = jobs-next Any v w is.jobs act first Passed;
        asked = is.asked;
        stage = by is.stage;
      }
    where
      by : Reading is.whose w got is.done → Reading is.whose (rest_of (seen v w) Passed) got is.done
      by (inl unsent) = inl (record { unsettled = unsent.unsettled; firsts = firsts unsent.firsts; quiet = quiet; empty = unsent.empty })
      by (inr (inl between)) = absurd
          (no_send (Call between.bus between.messages) between.left
          (sym (same_act v w (Send (Call between.bus between.messages) between.left) act between.next first)))
      by (inr (inr (inl ending))) = absurd (no_settle ending.verdict (sym (same_act v w (Settle ending.verdict) act ending.next first)))
      by (inr (inr (inr behind))) = inr (inr (inr behind))

  -- a line step
  shifted : (job : Job) → first_act (seen v w) ≡ Some (Shift job) → (failed : Bool)
      → IsReading b asks (rest_of (seen v w) (Lined failed)) settled got
  shifted job first failed =
      let s = settles-shifted is.done v w is.settles job first failed in
      record {
        whose = is.whose;
        done = is.done;
        calls = calls-next b is.whose v w is.calls (Shift job) first (Lined failed);
        settles = s.2;
        jobs = jobs-next Any v w is.jobs (Shift job) first (Lined failed);
        asked = is.asked;
        stage = by s.0 s.1 is.stage;
      }
    where
      by : (note : Note) → IsDecided note job zero (Lined failed) (rest_of (seen v w) (Lined failed)) → Reading is.whose w got is.done
          → Reading is.whose (rest_of (seen v w) (Lined failed)) got is.done
      by note (inl quiet) (inl unsent) =
          inl (record {
            unsettled = unsent.unsettled;
            firsts = first-shifted v w unsent.firsts job first failed;
            quiet = quiet;
            empty = unsent.empty;
          })
      by note (inr decided) (inl unsent) =
          inr (inr (inl (record {
            unsettled = unsent.unsettled;
            verdict = verdict_of job zero (Lined failed);
            next = decided.2;
            fits = λ none. absurd (line_errs job failed (job-shifted Any v w is.jobs job first).0 decided.1 none);
          })))
      by note decided (inr (inl between)) =
          absurd (let f : Send (Call between.bus between.messages) between.left ≡ Shift job = same_act v w
          (Send (Call between.bus between.messages) between.left) (Shift job) between.next first in cc)
      by note decided (inr (inr (inl ending))) = absurd
          (let f : Settle ending.verdict ≡ Shift job = same_act v w (Settle ending.verdict) (Shift job) ending.next first in cc)
      by note decided (inr (inr (inr behind))) = inr (inr (inr behind))

  -- a control message
  controlled : (job : Job) (left : ℕ) → first_act (seen v w) ≡ Some (Send job left)
      → ((bus : ℕ) (messages : List MessageView) → job ≡ Call bus messages → ⊥) → (e : End) (bytes : List ℕ)
      → (FirstCalls w → FirstCalls (rest_of (seen v w) (Sent e bytes))) → IsReading b asks (rest_of (seen v w) (Sent e bytes)) settled got
  controlled job left first control e bytes firsts =
      let s = settles-sent is.done v w is.settles job left first in
      let f = s.1 e bytes in
      record {
        whose = is.whose;
        done = is.done;
        calls = calls-next b is.whose v w is.calls (Send job left) first (Sent e bytes);
        settles = f.2;
        jobs = jobs-next Any v w is.jobs (Send job left) first (Sent e bytes);
        asked = is.asked;
        stage = by (what_follows f.0 job left e bytes (rest_of (seen v w) (Sent e bytes)) f.1) is.stage;
      }
    where
      by : NoSettle (rest_of (seen v w) (Sent e bytes)) ⊎ FollowsSend job left e bytes (rest_of (seen v w) (Sent e bytes))
          → Reading is.whose w got is.done → Reading is.whose (rest_of (seen v w) (Sent e bytes)) got is.done
      by (inl quiet) (inl unsent) = inl
          (record { unsettled = unsent.unsettled; firsts = firsts unsent.firsts; quiet = quiet; empty = unsent.empty })
      by (inr follows) (inl unsent) =
          inr (inr (inl (record {
            unsettled = unsent.unsettled;
            verdict = verdict_of job left (Sent e bytes);
            next = follows.settles;
            fits = λ none. (let whole = follows.whole none in absurd (control whole.0 whole.1 whole.2));
          })))
      by follows (inr (inl between)) =
          absurd (control between.bus between.messages
          (let f : Send (Call between.bus between.messages) between.left ≡ Send job left = same_act v w
          (Send (Call between.bus between.messages) between.left) (Send job left) between.next first in
          let g : Call between.bus between.messages ≡ job = cc in sym g))
      by follows (inr (inr (inl ending))) = absurd
          (let f : Settle ending.verdict ≡ Send job left = same_act v w (Settle ending.verdict) (Send job left) ending.next first in cc)
      by follows (inr (inr (inr behind))) = inr (inr (inr behind))

  -- a message of the caller's
  module _ (bus : ℕ) (ms : List MessageView) (left : ℕ) (first : first_act (seen v w) ≡ Some (Send (Call bus ms) left)) where
    call : IsCall b is.whose bus ms
    call = call-sent b is.whose v w is.calls bus ms left first

    unsettled : is.done ≡ false
    unsettled = (settles-sent is.done v w is.settles (Call bus ms) left first).0

    many : length ms ≡ length is.whose.msgs
    many = ap (λ (xs : List MessageView). length xs) call.same_messages ∙ length-messages is.whose.msgs is.whose.out

    -- what was read before it
    before : (left < length is.whose.msgs) × FitsReads (take (length is.whose.msgs - 1 - left) is.whose.msgs) got
    before = by is.stage
      where
        by : Reading is.whose w got is.done
            → (left < length is.whose.msgs) × FitsReads (take (length is.whose.msgs - 1 - left) is.whose.msgs) got
        by (inl unsent) =
            let most : left ≡ length ms - 1 = first-sent v w unsent.firsts bus ms left first in
            let none : length is.whose.msgs - 1 - left ≡ 0 = omega (arith, most, many) in
            (omega (arith, most, many, call.some_message), subst (λ (i : ℕ). FitsReads (take i is.whose.msgs) got) (sym none) unsent.empty)
        by (inr (inl between)) =
            let f : Send (Call between.bus between.messages) between.left ≡ Send (Call bus ms) left =
            same_act v w (Send (Call between.bus between.messages) between.left) (Send (Call bus ms) left) between.next first in
            let g : between.left ≡ left = cc in (
              subst (λ (i : ℕ). i < length is.whose.msgs) g between.low,
              subst
                  (λ (i : ℕ). FitsReads (take (length is.whose.msgs - 1 - i) is.whose.msgs) got) g between.fits,
            )
        by (inr (inr (inl ending))) = absurd
            (let f : Settle ending.verdict ≡ Send (Call bus ms) left = same_act v w (Settle ending.verdict)
            (Send (Call bus ms) left) ending.next first in cc)
        by (inr (inr (inr behind))) = absurd (let f : false ≡ true = sym unsettled ∙ behind.settled in cc)

    module _ (e : End) (bytes : List ℕ) (reading : Bool) (reads : reading ≡ (message_of b (Call bus ms) left).reading)
        (gave : reading ≡ true → e ≡ end.Ok
        → GaveRead (block_limit b) (message_of b (Call bus ms) left).counted (message_of b (Call bus ms) left).len bytes) where
      -- where it went through
      one_more_read : e ≡ end.Ok → FitsReads (take (length is.whose.msgs - 1 - left + 1) is.whose.msgs)
          (got_after (Call bus ms) reading bytes got)
      one_more_read fine =
          let i : ℕ = length is.whose.msgs - 1 - left in
          let place : length ms - 1 - left ≡ i = omega (arith, many) in
          let same : message_of b (Call bus ms) left ≡ nth_message (messages_of is.whose) i =
          ap (λ (k : ℕ). nth_message ms k) place ∙ ap (λ (xs : List MessageView). nth_message xs i) call.same_messages in
          let told : reading ≡ (nth_message (messages_of is.whose) i).reading = reads ∙ ap (λ (m : MessageView). m.reading) same in
          subst (λ (r : Bool). FitsReads (take (i + 1) is.whose.msgs) (cond r (got ++ bytes) got)) (sym told)
          (message-reads (block_limit b) (is_block_limit b).few is.whose i (omega (arith, before.0)) got bytes before.1
          (λ h. subst (λ (m : MessageView). GaveRead (block_limit b) m.counted m.len bytes) same (gave (told ∙ h) fine)))

      called : IsReading b asks (rest_of (seen v w) (Sent e bytes)) settled (got_after (Call bus ms) reading bytes got)
      called =
          let f = (settles-sent is.done v w is.settles (Call bus ms) left first).1 e bytes in
          record {
            whose = is.whose;
            done = is.done;
            calls = calls-next b is.whose v w is.calls (Send (Call bus ms) left) first (Sent e bytes);
            settles = f.2;
            jobs = jobs-next Any v w is.jobs (Send (Call bus ms) left) first (Sent e bytes);
            asked = is.asked;
            stage = inr (by (call-follows f.0 bus ms left e bytes (rest_of (seen v w) (Sent e bytes)) f.1));
          }
        where
          Rest : WalkTree
          Rest = rest_of (seen v w) (Sent e bytes)

          Got : List ℕ
          Got = got_after (Call bus ms) reading bytes got

          by : ((more : ℕ) × (left ≡ suc more) × (e ≡ end.Ok) × (first_act Rest ≡ Some (Send (Call bus ms) more)))
              ⊎ FollowsSend (Call bus ms) left e bytes Rest
              → SendsNext is.whose Rest Got is.done ⊎ (SettlesNext is.whose Rest Got is.done ⊎ HasSettled Got is.done)
          by (inl more) =
              inl (record {
                unsettled = unsettled;
                bus = bus;
                messages = ms;
                left = more.0;
                next = more.3;
                low = omega (arith, before.0, more.1);
                fits = subst (λ (i : ℕ). FitsReads (take i is.whose.msgs) Got)
                    (let up : length is.whose.msgs - 1 - left + 1 ≡ length is.whose.msgs - 1 - more.0 = omega (arith, before.0, more.1) in
                    up) (one_more_read more.2);
              })
          by (inr follows) =
              inr (inl (record {
                unsettled = unsettled;
                verdict = verdict_of (Call bus ms) left (Sent e bytes);
                next = follows.settles;
                fits = λ none.
                    (let whole = follows.whole none in
                    let all : length is.whose.msgs - 1 - left + 1 ≡ length is.whose.msgs = omega (arith, whole.3, before.0) in
                    subst (λ (xs : List Msg). FitsReads xs Got) (ap (λ (i : ℕ). take i is.whose.msgs) all ∙ take-length is.whose.msgs)
                    (one_more_read whole.4));
              }))

  -- the settle
  ended : (verdict : Option Errno) → first_act (seen v w) ≡ Some (Settle verdict) → (r : List Reply)
      → IsReading b asks (rest_of (seen v w) Passed) r []
  ended verdict first r =
      let s = settles-settled is.done (seen v w) (settles_seen v is.done w is.settles) verdict first in
      record {
        whose = is.whose;
        done = true;
        calls = calls-next b is.whose v w is.calls (Settle verdict) first Passed;
        settles = s.2;
        jobs = jobs-next Any v w is.jobs (Settle verdict) first Passed;
        asked = λ f. absurd (let g : true ≡ false = f in cc);
        stage = inr (inr (inr (record { settled = refl; empty = refl })));
      }

  -- what it decides fits
  decides_fit : (verdict : Option Errno) → first_act (seen v w) ≡ Some (Settle verdict)
      → (asks settled ≡ Some is.whose) × (verdict ≡ None → FitsReads is.whose.msgs got)
  decides_fit verdict first =
      let s = settles-settled is.done (seen v w) (settles_seen v is.done w is.settles) verdict first in
      (is.asked s.0, by s.0 is.stage)
    where
      by : is.done ≡ false → Reading is.whose w got is.done → verdict ≡ None → FitsReads is.whose.msgs got
      by not_done (inl unsent) none = absurd (quiet-next v w unsent.quiet verdict first)
      by not_done (inr (inl between)) none =
          absurd (let f : Send (Call between.bus between.messages) between.left ≡ Settle verdict = same_act v w
          (Send (Call between.bus between.messages) between.left) (Settle verdict) between.next first in cc)
      by not_done (inr (inr (inl ending))) none =
          let f : Settle ending.verdict ≡ Settle verdict = same_act v w (Settle ending.verdict) (Settle verdict) ending.next first in
          let g : ending.verdict ≡ verdict = cc in
          ending.fits (g ∙ none)
      by not_done (inr (inr (inr behind))) none = absurd (let f : false ≡ true = sym not_done ∙ behind.settled in cc)

-- the reply that a settle decides fits
module _ (b : BoardView) (asks : Asks) (some : AsksForMessages asks) (callers : ℕ) where
  abbrev ReadsAt : List Entry → ℕ → WalkTree → Type 0
  ReadsAt past c w = IsReading b (asks c) w ((now b asks past).settled c) ((now b asks past).got c)

  -- a walk begins with nothing sent
  begins : (past : List Entry) (e : Entry) → May b callers asks (now b asks past) e
      → ReadsAt past (caller_of e) ((now b asks past).walk (caller_of e))
      → ReadsAt past (caller_of e) (ahead b asks (now b asks past) (caller_of e))
  begins past e may was = by (is_over (n.walk c)) refl
    where
      c : ℕ
      c = caller_of e

      n : Now
      n = now b asks past

      empty : is_over (n.walk c) ≡ true → n.got c ≡ []
      empty over =
          let ended : was.done ≡ true = subst (λ (w : WalkTree). Settles was.done w) (over_ends (n.walk c) over) was.settles in
          at_end ended was.stage
        where
          at_end : was.done ≡ true → Reading was.whose (n.walk c) (n.got c) was.done → n.got c ≡ []
          at_end ended (inl unsent) = unsent.empty
          at_end ended (inr (inl between)) = absurd (let f : false ≡ true = sym between.unsettled ∙ ended in cc)
          at_end ended (inr (inr (inl ending))) = absurd (let f : false ≡ true = sym ending.unsettled ∙ ended in cc)
          at_end ended (inr (inr (inr behind))) = behind.empty

      stage_of : (t : TransferView) → n.got c ≡ [] → (r : Option Errno) → refusal b t ≡ r → Reading t (walk_by b t r) (n.got c) false
      stage_of t none (Some errno) refused = inr
          (inr (inl (record {
            unsettled = refl;
            verdict = Some errno;
            next = refl;
            fits = λ f. absurd (let g : Some errno ≡ None = f in cc);
          })))
      stage_of t none None accepted =
          inl (record {
            unsettled = refl;
            firsts = subst (λ (r : Option Errno). FirstCalls (walk_by b t r)) accepted (walk-first b t);
            quiet = subst (λ (r : Option Errno). NoSettle (walk_by b t r)) accepted (walk-starts b t accepted);
            empty = none;
          })

      begin : is_over (n.walk c) ≡ true → (o : Option TransferView) → asks c (n.settled c) ≡ o → ReadsAt past c (begun b o)
      begin over None asked =
          absurd (never b callers asks n e may
          (ap (λ (x : Bool). first_act (seen n.slot (cond x (begun b (asks c (n.settled c))) (n.walk c)))) over
          ∙ ap (λ (o : Option TransferView). first_act (seen n.slot (begun b o))) asked))
      begin over (Some t) asked =
          record {
            whose = t;
            done = false;
            calls = walk-calls b t (some c (n.settled c) t asked);
            settles = walk-settles b t;
            jobs = walk-jobs b Any t (λ accepted. tt) (λ accepted g among. record { select = tt; deselect = tt; close = λ m. tt });
            asked = λ f. asked;
            stage = stage_of t (empty over) (refusal b t) refl;
          }

      by : (x : Bool) → is_over (n.walk c) ≡ x → ReadsAt past c (cond x (begun b (asks c (n.settled c))) (n.walk c))
      by true over = subst (λ (o : Option TransferView). ReadsAt past c (begun b o)) refl (begin over (asks c (n.settled c)) refl)
      by false over = was

  -- a lock that is taken or freed
  lock_reads : (n : Now) (c : ℕ) (w : WalkTree) (is : IsReading b (asks c) w (n.settled c) (n.got c)) (act : Act)
      → first_act (seen n.slot w) ≡ Some act → ((job : Job) (left : ℕ) → act ≡ Send job left → ⊥)
      → ((verdict : Option Errno) → act ≡ Settle verdict → ⊥)
      → NoSettle (rest_of (seen n.slot w) Passed) × Settles is.done (rest_of (seen n.slot w) Passed)
      → (FirstCalls w → FirstCalls (rest_of (seen n.slot w) Passed))
      → IsReading b (asks c) (changed_at n.walk c (rest_of (seen n.slot w) Passed) c) (n.settled c) (n.got c)
  lock_reads n c w is act first no_send no_settle settles firsts =
      subst (λ (x : WalkTree). IsReading b (asks c) x (n.settled c) (n.got c)) (sym (at_same n.walk c (rest_of (seen n.slot w) Passed)))
      (passed b (asks c) n.slot w (n.settled c) (n.got c) is act first no_send no_settle settles.0 settles.1 firsts)

  -- the caller's own entry
  own_reads : (past : List Entry) → IsStepwise b callers asks past → (e : Entry) → May b callers asks (now b asks past) e
      → ReadsAt past (caller_of e) (ahead b asks (now b asks past) (caller_of e))
      → ReadsAt (e ∷ past) (caller_of e) ((now b asks (e ∷ past)).walk (caller_of e))
  own_reads past steps (entry.Take c l) may is =
      let n : Now = now b asks past in
      let w : WalkTree = ahead b asks n c in
      lock_reads n c w is (Take l) may.2 (λ job left f. let g : Take l ≡ Send job left = f in cc)
      (λ verdict f. let g : Take l ≡ Settle verdict = f in cc) (settles-taken is.done n.slot w is.settles l may.2)
      (λ firsts. first-taken n.slot w firsts l may.2)
  own_reads past steps (entry.Free c l) may is =
      let n : Now = now b asks past in
      let w : WalkTree = ahead b asks n c in
      lock_reads n c w is (Free l) may.2 (λ job left f. let g : Free l ≡ Send job left = f in cc)
      (λ verdict f. let g : Free l ≡ Settle verdict = f in cc) (settles-freed is.done n.slot w is.settles l may.2)
      (λ firsts. first-freed n.slot w firsts l may.2)
  own_reads past steps (entry.Settle c r cut) may is =
      let n : Now = now b asks past in
      let w : WalkTree = ahead b asks n c in
      subst (λ (x : WalkTree). IsReading b (asks c) x ((now b asks (entry.Settle c r cut ∷ past)).settled c)
      ((now b asks (entry.Settle c r cut ∷ past)).got c)) (sym (at_same n.walk c (rest_of (seen n.slot w) Passed)))
      (subst (λ (g : List ℕ). IsReading b (asks c) (rest_of (seen n.slot w) Passed)
      ((now b asks (entry.Settle c r cut ∷ past)).settled c) g) (sym (at_same n.got c []))
      (ended b (asks c) n.slot w (n.settled c) (n.got c) is may.2 may.3 ((now b asks (entry.Settle c r cut ∷ past)).settled c)))
  own_reads past steps (entry.Line c mux level failed) may is =
      let n : Now = now b asks past in
      let w : WalkTree = ahead b asks n c in
      let e : Entry = entry.Line c mux level failed in
      subst (λ (x : WalkTree). IsReading b (asks c) x ((step b asks n e).settled c) ((step b asks n e).got c))
      (sym (at_same n.walk c (rest_of (seen n.slot w) (Lined failed))))
      (subst (λ (rs : List Reply). IsReading b (asks c) (rest_of (seen n.slot w) (Lined failed)) rs ((step b asks n e).got c))
      (sym (lined_settled b n (first_act (current b asks n c)) (first_note (current b asks n c)) failed c))
      (subst (λ (g : List ℕ). IsReading b (asks c) (rest_of (seen n.slot w) (Lined failed)) (n.settled c) g)
      (sym (line-got b asks n c mux level failed may.2.0 may.2.1))
      (shifted b (asks c) n.slot w (n.settled c) (n.got c) is may.2.0 may.2.1 failed)))
  own_reads past steps (entry.Message c bus why part parts addr reading bytes heard en) may is =
      let n : Now = now b asks past in
      let w : WalkTree = ahead b asks n c in
      let e : Entry = entry.Message c bus why part parts addr reading bytes heard en in
      subst (λ (x : WalkTree). IsReading b (asks c) x ((step b asks n e).settled c) ((step b asks n e).got c))
      (sym (at_same n.walk c (rest_of (seen n.slot w) (Sent en bytes))))
      (subst (λ (rs : List Reply). IsReading b (asks c) (rest_of (seen n.slot w) (Sent en bytes)) rs ((step b asks n e).got c))
      (sym (sent_settled b n c (first_act (current b asks n c)) (first_note (current b asks n c)) reading bytes en c))
      (subst (λ (g : List ℕ). IsReading b (asks c) (rest_of (seen n.slot w) (Sent en bytes)) (n.settled c) g)
      (sym (message-got b asks n c bus why part parts addr reading bytes heard en may.2.0 may.2.1 may.2.2))
      (by may.2.0 may.2.1 may.2.2 may.2.3)))
    where
      n : Now
      n = now b asks past

      w : WalkTree
      w = ahead b asks n c

      by : (job : Job) (left : ℕ) → IsNext b asks n c (Send job left)
          → OfMessage (TellsMessage b n job left) (entry.Message c bus why part parts addr reading bytes heard en)
          → IsReading b (asks c) (rest_of (seen n.slot w) (Sent en bytes)) (n.settled c) (got_after job reading bytes (n.got c))
      by (Select h) left next tells =
          controlled b (asks c) n.slot w (n.settled c) (n.got c) is (Select h) left next (λ s ms f. let g : Select h ≡ Call s ms = f in
          cc) en bytes (λ firsts. first-selected n.slot w firsts h left next en bytes)
      by (SwitchOff off) left next tells =
          controlled b (asks c) n.slot w (n.settled c) (n.got c) is (SwitchOff off) left next
          (λ s ms f. let g : SwitchOff off ≡ Call s ms = f in cc) en bytes
          (λ firsts. first-switched-off n.slot w firsts off left next en bytes)
      by (Call s ms) left next tells =
          called b (asks c) n.slot w (n.settled c) (n.got c) is s ms left next en bytes reading tells.in_direction
          (λ reads fine. subst (λ (xs : List ℕ). GaveRead (block_limit b) (message_of b (Call s ms) left).counted
          (message_of b (Call s ms) left).len xs) (sym tells.bytes_told)
          (talk-reads world_listener (cut_of en) (block_limit b) (n.worlds (root_of b s)) (message_of b (Call s ms) left)
          (is_last (Call s ms) left) (sym tells.in_direction ∙ reads) (sym tells.end_told ∙ fine)))

  -- THE INDUCTION
  past-reads : (past : List Entry) → IsStepwise b callers asks past → (c : ℕ) → ReadsAt past c ((now b asks past).walk c)
  past-reads [] steps c =
      record {
        whose = nobody;
        done = true;
        calls = tt;
        settles = refl;
        jobs = tt;
        asked = λ f. absurd (let g : true ≡ false = f in cc);
        stage = inr (inr (inr (record { settled = refl; empty = refl })));
      }
  past-reads (e ∷ past) steps c =
      elim (eqb_tells (caller_of e) c) [
        | inl h ↦ subst (λ (i : ℕ). ReadsAt (e ∷ past) i ((now b asks (e ∷ past)).walk i)) h.1
            (own_reads past steps.1 e steps.0 (begins past e steps.0 (past-reads past steps.1 (caller_of e))))
        | inr h ↦ other (past-reads past steps.1 c) (entry-elsewhere b asks (now b asks past) e c (λ f. h.1 (sym f)))
      ]
    where
      other : ReadsAt past c ((now b asks past).walk c) → IsUntouched (now b asks past) (now b asks (e ∷ past)) c
          → ReadsAt (e ∷ past) c ((now b asks (e ∷ past)).walk c)
      other was same =
          subst (λ (w : WalkTree). IsReading b (asks c) w ((now b asks (e ∷ past)).settled c) ((now b asks (e ∷ past)).got c))
          (sym same.walks)
          (subst (λ (rs : List Reply). IsReading b (asks c) ((now b asks past).walk c) rs ((now b asks (e ∷ past)).got c))
          (sym same.settles)
          (subst (λ (g : List ℕ). IsReading b (asks c) ((now b asks past).walk c) ((now b asks past).settled c) g) (sym same.reads) was))

  fits_at : (e : Entry) (past : List Entry) → IsStepwise b callers asks past → May b callers asks (now b asks past) e → FitsAt asks e past
  fits_at (entry.Take c l) past steps may = tt
  fits_at (entry.Free c l) past steps may = tt
  fits_at (entry.Message c bus why part parts addr reading bytes heard e) past steps may = tt
  fits_at (entry.Line c mux level failed) past steps may = tt
  fits_at (entry.Settle c r cut) past steps may = λ t asked.
      let n : Now = now b asks past in
      let is = begins past (entry.Settle c r cut) may (past-reads past steps c) in
      let fit = decides_fit b (asks c) n.slot (ahead b asks n c) (n.settled c) (n.got c) is may.2 may.3 in
      let f : Some is.whose ≡ Some t = sym fit.0 ∙ ap (asks c) (settled-told b asks past c) ∙ asked in
      let same : is.whose ≡ t = cc in
      subst (λ (x : Reply). Fits t x) (sym (may.4 ∙ ap (λ (o : Option TransferView). reply_by may.2 o (n.got c)) (fit.0 ∙ ap Some same)))
      (reply-fits t (n.got c) may.2 (λ none. subst (λ (u : TransferView). FitsReads u.msgs (n.got c)) same (fit.1 none)))

  pub fits-kept : (past : List Entry) → IsStepwise b callers asks past → KeepsFits asks past
  fits-kept [] steps = tt
  fits-kept (e ∷ past) steps = (fits_at e past steps.1 steps.0, fits-kept past steps.1)
