-- What a message leaves of its transfer, with what was read so far, or with the reply that its settle decides. No induction.
use Rattle.core_laws.proofs.Cited.{◌≡◌, ℕ, suc, ◌+◌, ◌<◌, Bool, false, List, [], length, Option, Some, refl, sym, ◌∙◌, ap, subst, ◌⊎◌, inl}
use Rattle.core_laws.proofs.Cited.{inr, arith, slice_get, take, Errno, Purpose, Reply, Fits, FitsReads, block_limit, MessageView, Job, Call}
use Rattle.core_laws.proofs.Cited.{Select, SwitchOff, Send, Settle, Sent, WalkTree, job_purpose, Shift, Lined, got_after, reply_by, IsCall}
use Rattle.core_laws.proofs.Cited.{length-messages, SeenView, slots_of, Place, has_reply, IsGoing, CoreKept, Run, Whole, IsSent, IsLeft}
use Rattle.core_laws.proofs.Cited.{IsDecided, NextMsg, message_for, gone_after, next_of, behind_of, seen_of, RootPort, MsgResult}
use Rattle.std.proofs.lemmas.List.{take_all}
use Rattle.i2c_base.specs.declared.entry.End.TheVariants as end
use Rattle.bus_laws.proofs.past.Placed.{no_settle}
use Rattle.bus_laws.proofs.walk.Reads.{message-reads}
use Rattle.i2c_spec.proofs.BlockLemmas.{is_block_limit}
use Rattle.bus_message.specs.Sends.{call_message}
use Rattle.bus_message.specs.Talks.{Gives}
use Rattle.core_laws.proofs.Core.{owes-here, stands-here, going-on, left-on}
use Rattle.core_laws.proofs.CoreSteps.{none_owed}
use Rattle.core_laws.proofs.Leaves.{is_ok, message-leaves}
use Rattle.core_laws.proofs.WalkSteps.{SettlesNext, call-is, ended-leaves, line-leaves}
use Rattle.bus_laws.proofs.past.Bytes.{reply-fits}

module _ (run : Run) (whole : Whole) (core : CoreKept run whole)
    (place : ℕ) (p : Place) (here : slice_get whole.places place ≡ Some p)
    (job : Job) (more : ℕ) (next : NextMsg) (at : ℕ) (old new : RootPort) (bytes : List ℕ) (msg : MsgResult)
    (words : SeenView) (is_sent : IsSent run whole p job more next at old new bytes msg words) where
  abbrev behind : WalkTree
  behind = behind_of whole.locks p.tree (Sent msg.end bytes)

  abbrev got : List ℕ
  got = got_after job msg.reading bytes p.got

  abbrev gone : ℕ
  gone = gone_after p.sent job msg.end

  its : IsGoing run p (owes-here run whole core place p here).0
  its = going-on run whole core place p _ _ (stands-here run whole core place p here) (Send job more) is_sent.first

  its_left : IsLeft run.board p.transfer (has_reply p.owed) p.sent p.tree
  its_left = left-on run whole core place p _ _ (stands-here run whole core place p here) (Send job more) is_sent.first
      (λ verdict is. let f : Send job more ≡ Settle verdict = is in cc)

  -- a message of the caller's that went through
  module _ (bus : ℕ) (ms : List MessageView) (is : job ≡ Call bus ms) where
    call : (has_reply p.owed ≡ false) × IsCall run.board p.transfer bus ms × (p.sent + suc more ≡ length ms)
    call = call-is run.board p.transfer (slots_of (seen_of whole.locks)) p.tree (has_reply p.owed) p.sent its_left bus ms more
        (subst (λ (j : Job). next_of whole.locks p.tree ≡ Some (Send j more)) is is_sent.first)

    many : length ms ≡ length p.transfer.msgs
    many = ap (λ (xs : List MessageView). length xs) call.1.same_messages ∙ length-messages p.transfer.msgs p.transfer.out

    its_message : message_for p.transfer p.sent next.purpose next.control msg.addr ≡ call_message p.transfer p.sent
    its_message = ap (λ (q : Purpose). message_for p.transfer p.sent q next.control msg.addr) (is_sent.of.for_purpose ∙ ap job_purpose is)

    direction : msg.reading ≡ (call_message p.transfer p.sent).reading
    direction = is_sent.gives.direction ∙ ap (λ (m : MessageView). m.reading) its_message

    went-fits : msg.end ≡ end.Ok → FitsReads (take (p.sent + 1) p.transfer.msgs) got
    went-fits fine =
        let before : FitsReads (take p.sent p.transfer.msgs) p.got = its.partway (none_owed p.owed call.0) in
        let low : p.sent < length p.transfer.msgs = omega (arith, call.2, many) in
        subst (λ (j : Job). FitsReads (take (p.sent + 1) p.transfer.msgs) (got_after j msg.reading bytes p.got)) (sym is)
        (subst (λ (r : Bool). FitsReads (take (p.sent + 1) p.transfer.msgs) (got_after (Call bus ms) r bytes p.got)) (sym direction)
        (message-reads (block_limit run.board) (is_block_limit run.board).few p.transfer p.sent low p.got bytes before
        (λ h. subst (λ (m : MessageView). Gives (block_limit run.board) m bytes) its_message (is_sent.gives.gives fine (direction ∙ h)))))

    -- .. is the last one
    all-fits : msg.end ≡ end.Ok → more ≡ 0 → FitsReads p.transfer.msgs got
    all-fits fine last =
        subst (λ (xs : List _). FitsReads xs got) (take_all (p.sent + 1) p.transfer.msgs (omega (arith, call.2, many, last)))
        (went-fits fine)

  abbrev Fit : Job → Type 0
  Fit j = FitsReads (take (gone_after p.sent j msg.end) p.transfer.msgs) (got_after j msg.reading bytes p.got)

  -- what was read so far fits, where the walk goes on
  partway-behind : IsLeft run.board p.transfer (has_reply p.owed) gone behind → p.owed ≡ [] → FitsReads (take gone p.transfer.msgs) got
  partway-behind leaves none = by job refl
    where
      through : (bus : ℕ) (ms : List MessageView) → job ≡ Call bus ms → msg.end ≡ end.Ok → Fit job
      through bus ms is fine =
          subst (λ (k : ℕ). FitsReads (take k p.transfer.msgs) got)
          (sym (ap (λ (j : Job). gone_after p.sent j msg.end) is ∙ ap (gone_after p.sent (Call bus ms)) fine)) (went-fits bus ms is fine)

      -- one that didn't go through decides
      ended : (bus : ℕ) (ms : List MessageView) → job ≡ Call bus ms → (msg.end ≡ end.Ok → ⊥) → ⊥
      ended bus ms is bad =
          let s : SettlesNext run.board p.transfer (has_reply p.owed) (Call bus ms) more msg.end behind =
          ended-leaves run.board p.transfer (slots_of (seen_of whole.locks)) p.tree (has_reply p.owed) p.sent its_left bus ms more
          (subst (λ (j : Job). next_of whole.locks p.tree ≡ Some (Send j more)) is is_sent.first) msg.end bytes bad in
          no_settle behind s.1 leaves.quiet s.2.first

      by : (j : Job) → job ≡ j → Fit job
      by (Call bus ms) is = elim (is_ok msg.end) [ inl fine ↦ through bus ms is fine | inr bad ↦ absurd (ended bus ms is bad) ]
      by (Select h) is = subst (λ (j : Job). Fit j) (sym is) (its.partway none)
      by (SwitchOff off) is = subst (λ (j : Job). Fit j) (sym is) (its.partway none)

  -- WHAT A MESSAGE LEAVES: the walk goes on, and what was read fits so far; or its settle comes next, with a reply that fits
  pub sent-leaves : (IsLeft run.board p.transfer (has_reply p.owed) gone behind × (p.owed ≡ [] → FitsReads (take gone p.transfer.msgs) got))
      ⊎ ((has_reply p.owed ≡ false) × (verdict : Option Errno) × IsDecided run.board p.transfer verdict behind
      × ((reply : Reply) → reply ≡ reply_by verdict (Some p.transfer) got → Fits p.transfer reply))
  sent-leaves =
      elim (message-leaves run.board p.transfer (slots_of (seen_of whole.locks)) p.tree
      (has_reply p.owed) p.sent its_left job more is_sent.first msg.end bytes) [
        | inl leaves ↦ inl (leaves, partway-behind leaves)
        | inr s ↦ inr (
          s.0,
          s.1,
          s.2,
          λ reply decided. subst (λ (x : Reply). Fits p.transfer x) (sym decided)
              (reply-fits p.transfer got s.1 (λ none. let last = s.3 none in all-fits last.0 last.1 last.2 last.4 last.3)),
        )
      ]

-- WHAT A LINE STEP LEAVES: the walk goes on, or its settle comes next, with an error
pub lined-leaves : (run : Run) (whole : Whole) → CoreKept run whole → (place : ℕ) (p : Place) → slice_get whole.places place ≡ Some p
    → (job : Job) → next_of whole.locks p.tree ≡ Some (Shift job) → (failed : Bool)
    → IsLeft run.board p.transfer (has_reply p.owed) p.sent (behind_of whole.locks p.tree (Lined failed))
    ⊎ ((has_reply p.owed ≡ false) × (err : Errno) × IsDecided run.board p.transfer (Some err) (behind_of whole.locks p.tree (Lined failed)))
lined-leaves run whole core place p here job first failed =
    let stands = stands-here run whole core place p here in
    line-leaves run.board p.transfer (slots_of (seen_of whole.locks)) p.tree (has_reply p.owed) p.sent
    (left-on run whole core place p _ _ stands (Shift job) first (λ verdict is. let f : Shift job ≡ Settle verdict = is in cc)) job first
    failed
