-- One step of a walk pays for itself: its entry, the bytes of it and the calls that it makes. No induction but over the
-- messages of a transfer.
use Rattle.journal_laws.proofs.Cited.{◌≡◌, ℕ, zero, suc, ◌+◌, ◌*◌, ◌-◌, ◌<◌, ◌≤◌, Bool, true, false, cond, List, [], ◌∷◌, ◌++◌, length}
use Rattle.journal_laws.proofs.Cited.{Option, Some, refl, sym, ◌∙◌, ap, subst, ◌⊎◌, inl, inr, arith, take, Node, End, Purpose, Entry, Reply}
use Rattle.journal_laws.proofs.Cited.{Msg, BoardView, TransferView, is_read, root_of, IsTree, MeetsRules, MessageView, world_listener}
use Rattle.journal_laws.proofs.Cited.{block_limit, cost_of, Asks, Job, Call, Select, SwitchOff, Act, ActOutcome, Take, Free, Send, Shift}
use Rattle.journal_laws.proofs.Cited.{Settle, Passed, Sent, Lined, WalkTree, job_bus, message_of, is_last, nth_message, walk_for, seen}
use Rattle.journal_laws.proofs.Cited.{first_act, first_note, rest_of, caller_of, Now, current, now, step, talk_of, cut_of, got_after}
use Rattle.journal_laws.proofs.Cited.{sent_by, lined_by, May, IsNext, IsStepwise, AsksForMessages, IsCall, Settles, CallsOf, IsAsked, ahead}
use Rattle.journal_laws.proofs.Cited.{bytes_in, calls_for, walk-settles, settles-taken, settles-freed, settles-sent, settles-shifted}
use Rattle.journal_laws.proofs.Cited.{settles-settled, at_same, first_is, settles_seen, current-asked, past-asked, is_block_limit}
use Rattle.std.specs.Prelude.{drop}
use Rattle.std.proofs.lemmas.List.{length-take}
use Rattle.std.proofs.Math.Nat.{min-le_left}
use Rattle.i2c_base.specs.declared.entry.Entry.TheVariants as entry
use Rattle.i2c_base.specs.Transfer.{written_of}
use Rattle.i2c_spec.specs.Messages.{messages_from}
use Rattle.bus_laws.specs.Settles.{IsBefore}
use Rattle.bus_laws.specs.Costs.{weight_at, IsWithin}
use Rattle.bus_laws.proofs.world.TalkSizes.{talk-sized}
use Rattle.bus_laws.proofs.walk.CostLaw.{walk-within}
use Rattle.bus_laws.proofs.walk.Next.{within-next}
use Rattle.i2c_base.specs.Need.{bytes_given}
use Rattle.i2c_spec.proofs.CostLemmas.{cost_some}
use Rattle.bus_laws.proofs.past.Bytes.{got-grows, given-few}

-- the entry that settles is still to come
abbrev pub to_settle : Bool → ℕ
to_settle done = cond done 0 1

-- A WALK and what is left to spend on it, with one for its settle
pub record IsBudget (b : BoardView) (done : Bool) (w : WalkTree) (most : ℕ) : Type 0 where
  pub left : ℕ
  pub settles : Settles done w
  pub within : IsWithin b w left
  pub owes : left + to_settle done ≤ most

pub budget-begins : (b : BoardView) → IsTree b → MeetsRules b → (t : TransferView) → 0 < length t.msgs
    → IsBudget b false (walk_for b t) (cost_of b t)
budget-begins b tree rules t some =
    record {
      left = cost_of b t - 1;
      settles = walk-settles b t;
      within = walk-within b tree rules t some;
      owes = omega (arith, cost_some b t);
    }

-- a message has no more bytes than it says
short_from : (ms : List Msg) (out : List ℕ) (i : ℕ)
    → length (nth_message (messages_from ms out) i).bytes ≤ (nth_message (messages_from ms out) i).len
short_from [] out i = omega arith
short_from (m ∷ ms) out zero = by (is_read m)
    (subst (λ (k : ℕ). k ≤ written_of m) (sym (length-take (written_of m) out)) (min-le_left (written_of m) (length out)))
  where
    by : (reading : Bool) → length (take (written_of m) out) ≤ cond reading 0 m.len → length (take (written_of m) out) ≤ m.len
    by true h = omega (arith, h)
    by false h = h
short_from (m ∷ ms) out (suc i) = short_from ms (drop (written_of m) out) i

abbrev IsShort : MessageView → Type 0
IsShort m = length m.bytes ≤ m.len

-- a reply gives no more bytes than were read
-- after the settle come none of the caller's messages
got_stays : (job : Job) (reading : Bool) (bytes got : List ℕ) (done : Bool) → done ≡ true → IsBefore done job
    → got_after job reading bytes got ≡ got
got_stays (Call bus ms) reading bytes got done d before = absurd (let f : true ≡ false = sym d ∙ before in cc)
got_stays (Select h) reading bytes got done d before = refl
got_stays (SwitchOff off) reading bytes got done d before = refl

-- what a message and a line step leave of what their caller has read
pub message-got : (b : BoardView) (asks : Asks) (n : Now) (c bus : ℕ) (why : Purpose) (part parts addr : ℕ) (reading : Bool)
    (bytes : List ℕ) (heard : Option Node) (en : End) (job : Job) (left : ℕ)
    → IsNext b asks n c (Send job left)
    → (step b asks n (entry.Message c bus why part parts addr reading bytes heard en)).got c ≡ got_after job reading bytes (n.got c)
message-got b asks n c bus why part parts addr reading bytes heard en job left next =
    ap (λ (o : Option Act). (sent_by b n c o (first_note (current b asks n c)) reading bytes en).got c) next
    ∙ at_same n.got c (got_after job reading bytes (n.got c))

pub line-got : (b : BoardView) (asks : Asks) (n : Now) (c mux level : ℕ) (failed : Bool) (job : Job) → IsNext b asks n c (Shift job)
    → (step b asks n (entry.Line c mux level failed)).got c ≡ n.got c
line-got b asks n c mux level failed job next = ap
    (λ (o : Option Act). (lined_by b n o (first_note (current b asks n c)) failed).got c) next

-- what an entry of a caller leaves of its budget
pub record IsPaid (b : BoardView) (asks : Asks) (n : Now) (e : Entry) (done : Bool) (most : ℕ) : Type 0 where
  pub after : Bool
  pub rest : ℕ
  pub kept : IsBudget b after ((step b asks n e).walk (caller_of e)) rest
  pub entries : 1 + rest ≤ most
  pub bytes : length (bytes_in e) + length ((step b asks n e).got (caller_of e)) + 2 * rest ≤ length (n.got (caller_of e)) + 2 * most
  pub calls : calls_for b n (first_act (current b asks n (caller_of e))) e + 2 * rest ≤ 2 * most
  -- after the settle nothing is left of what was read
  pub emptied : after ≡ true → (done ≡ true → n.got (caller_of e) ≡ []) → (step b asks n e).got (caller_of e) ≡ []
  -- it settles a reply, or none
  pub replies : ((after ≡ done) × ((step b asks n e).settled (caller_of e) ≡ n.settled (caller_of e)))
      ⊎ ((done ≡ false) × (after ≡ true) × (r : Reply) × ((step b asks n e).settled (caller_of e) ≡ n.settled (caller_of e) ++ r ∷ []))

budget_of : (b : BoardView) (done : Bool) (w u : WalkTree) (m : ℕ) → u ≡ w → Settles done w → IsWithin b w m
    → IsBudget b done u (m + to_settle done)
budget_of b done w u m same settles within =
    record {
      left = m;
      settles = subst (λ (x : WalkTree). Settles done x) (sym same) settles;
      within = subst (λ (x : WalkTree). IsWithin b x m) (sym same) within;
      owes = omega arith;
    }

module _ (b : BoardView) (asks : Asks) (some : AsksForMessages asks) (callers : ℕ) (past : List Entry)
    (steps : IsStepwise b callers asks past) where
  abbrev n : Now
  n = now b asks past

  short_sent : (c : ℕ) (job : Job) (left : ℕ) → IsNext b asks n c (Send job left) → IsShort (message_of b job left)
  short_sent c (Call bus messages) left next =
      let asked : IsAsked b asks c (current b asks n c) (n.settled c) = current-asked b asks some n
      (past-asked b asks some callers past steps) c in
      let at = first_is (current b asks n c) (Send (Call bus messages) left) next in
      let call : IsCall b asked.whose bus messages = (subst (λ (w : WalkTree). CallsOf b asked.whose w) at.2 asked.calls).0 in
      subst (λ (ms : List MessageView). IsShort (nth_message ms (length messages - 1 - left))) (sym call.same_messages)
      (short_from asked.whose.msgs asked.whose.out (length messages - 1 - left))
  short_sent c (Select h) zero next = omega arith
  short_sent c (Select h) (suc left) next = omega arith
  short_sent c (SwitchOff off) left next = omega arith

  -- a step that reads nothing
  pays_unread : (e : Entry) (act : Act) (out : ActOutcome) → IsNext b asks n (caller_of e) act → (done : Bool) (most : ℕ)
      → (budget : IsBudget b done (ahead b asks n (caller_of e)) most)
      → Settles done (rest_of (current b asks n (caller_of e)) out)
      → (step b asks n e).walk (caller_of e) ≡ rest_of (current b asks n (caller_of e)) out
      → (step b asks n e).got (caller_of e) ≡ n.got (caller_of e) → (step b asks n e).settled (caller_of e) ≡ n.settled (caller_of e)
      → bytes_in e ≡ [] → calls_for b n (Some act) e ≤ 1 → 1 ≤ weight_at b act → IsPaid b asks n e done most
  pays_unread e act out next done most budget settles walk got settled none few weighs =
      let h = within-next b n.slot (ahead b asks n (caller_of e)) budget.left budget.within act next in
      let empty : length (bytes_in e) ≡ 0 = ap (λ (xs : List ℕ). length xs) none in
      let same : length ((step b asks n e).got (caller_of e)) ≡ length (n.got (caller_of e)) = ap (λ (xs : List ℕ). length xs) got in
      let made : calls_for b n (first_act (current b asks n (caller_of e))) e ≤ 1 =
      subst (λ (o : Option Act). calls_for b n o e ≤ 1) (sym next) few in
      record {
        after = done;
        rest = h.0 + to_settle done;
        kept = budget_of b done (rest_of (current b asks n (caller_of e)) out) ((step b asks n e).walk (caller_of e)) h.0
            walk settles (h.2 out);
        entries = omega (arith, weighs, h.1, budget.owes);
        bytes = omega (arith, weighs, h.1, budget.owes, empty, same);
        calls = omega (arith, weighs, made, h.1, budget.owes);
        emptied = λ d was. got ∙ was d;
        replies = inl (refl, settled);
      }

  pub budget-pays : (e : Entry) → May b callers asks n e → (done : Bool) (most : ℕ) → IsBudget b done (ahead b asks n (caller_of e)) most
      → IsPaid b asks n e done most
  budget-pays (entry.Take c l) may done most budget =
      pays_unread (entry.Take c l) (Take l) Passed may.2 done most budget
      (settles-taken done n.slot (ahead b asks n c) budget.settles l may.2).1
      (at_same n.walk c (rest_of (current b asks n c) Passed)) refl refl refl (omega arith) (omega arith)
  budget-pays (entry.Free c l) may done most budget =
      pays_unread (entry.Free c l) (Free l) Passed may.2 done most budget
      (settles-freed done n.slot (ahead b asks n c) budget.settles l may.2).1
      (at_same n.walk c (rest_of (current b asks n c) Passed)) refl refl refl (omega arith) (omega arith)
  budget-pays (entry.Settle c r cut) may done most budget =
      let w : WalkTree = ahead b asks n c in
      let h = within-next b n.slot w budget.left budget.within (Settle may.2) may.3 in
      let s = settles-settled done (seen n.slot w) (settles_seen n.slot done w budget.settles) may.2 may.3 in
      let unsettled : to_settle done ≡ 1 = ap to_settle s.0 in
      let few : length (bytes_given r) ≤ length (n.got c) = subst (λ (x : Reply). length (bytes_given x) ≤ length (n.got c)) (sym may.4)
      (given-few may.2 (asks c (n.settled c)) (n.got c)) in
      let empty : length ((step b asks n (entry.Settle c r cut)).got c) ≡ 0 = ap (λ (xs : List ℕ). length xs) (at_same n.got c []) in
      record {
        after = true;
        rest = h.0 + 0;
        kept = budget_of b true (rest_of (seen n.slot w) Passed) ((step b asks n (entry.Settle c r cut)).walk c) h.0
            (at_same n.walk c (rest_of (seen n.slot w) Passed)) s.2 (h.2 Passed);
        entries = omega (arith, h.1, budget.owes, unsettled);
        bytes = omega (arith, h.1, budget.owes, unsettled, few, empty);
        calls = (let none : calls_for b n (first_act (current b asks n c)) (entry.Settle c r cut) ≡ 0 = ap
            (λ (o : Option Act). calls_for b n o (entry.Settle c r cut)) may.3 in omega (arith, none, h.1, budget.owes, unsettled));
        emptied = λ d was. at_same n.got c [];
        replies = inr (s.0, refl, r, at_same n.settled c (n.settled c ++ r ∷ []));
      }
  budget-pays (entry.Line c mux level failed) may done most budget =
      pays_unread (entry.Line c mux level failed) (Shift may.2.0) (Lined failed) may.2.1 done most budget
      (settles-shifted done n.slot (ahead b asks n c) budget.settles may.2.0 may.2.1 failed).2
      (at_same n.walk c (rest_of (current b asks n c) (Lined failed))) (line-got b asks n c mux level failed may.2.0 may.2.1)
      (ap (λ (o : Option Act). (lined_by b n o (first_note (current b asks n c)) failed).settled c) may.2.1) refl
      (omega arith) (omega arith)
  budget-pays (entry.Message c bus why part parts addr reading bytes heard en) may done most budget =
      let w : WalkTree = ahead b asks n c in
      let e : Entry = entry.Message c bus why part parts addr reading bytes heard en in
      let job : Job = may.2.0 in
      let left : ℕ = may.2.1 in
      let m : MessageView = message_of b job left in
      let h = within-next b n.slot w budget.left budget.within (Send job left) may.2.2 in
      let size = talk-sized world_listener (cut_of en) (block_limit b) (omega (arith, (is_block_limit b).some))
      (n.worlds (root_of b (job_bus job))) m
      (short_sent c job left may.2.2) (is_last job left) in
      let made : calls_for b n (first_act (current b asks n c)) e ≡ length (talk_of b n job left en).calls = ap
      (λ (o : Option Act). calls_for b n o e) may.2.2 in
      let told : length bytes ≡ length (talk_of b n job left en).bytes = ap (λ (xs : List ℕ). length xs) may.2.3.bytes_told in
      let got : (step b asks n e).got c ≡ got_after job reading bytes (n.got c) =
      message-got b asks n c bus why part parts addr reading bytes heard en job left may.2.2 in
      let few : length ((step b asks n e).got c) ≤ length (n.got c) + length bytes =
      subst (λ (xs : List ℕ). length xs ≤ length (n.got c) + length bytes) (sym got) (got-grows job reading bytes (n.got c)) in
      record {
        after = done;
        rest = h.0 + to_settle done;
        kept = budget_of b done (rest_of (seen n.slot w) (Sent en bytes)) ((step b asks n e).walk c) h.0
            (at_same n.walk c (rest_of (seen n.slot w) (Sent en bytes)))
            ((settles-sent done n.slot w budget.settles job left may.2.2).1 en bytes).2 (h.2 (Sent en bytes));
        entries = omega (arith, h.1, budget.owes);
        bytes = omega (arith, h.1, budget.owes, few, told, size.0);
        calls = omega (arith, made, size.1, h.1, budget.owes);
        emptied = λ d was. got ∙ got_stays job reading bytes (n.got c) done d (settles-sent done n.slot w budget.settles job left may.2.2).0
            ∙ was d;
        replies = inl (
          refl,
          ap (λ (o : Option Act). (sent_by b n c o (first_note (current b asks n c)) reading bytes en).settled c)
              may.2.2,
        );
      }
