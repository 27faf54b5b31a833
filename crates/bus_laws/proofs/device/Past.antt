-- What is known where a message or a line step comes next in a stepwise past: of which transfer it is, where its address
-- leads, and what it decides.
use Rattle.bus_laws.proofs.Cited.{◌≡◌, ℕ, zero, suc, Bool, true, false, cond, not, List, [], ◌∷◌, Option, Some, sym, ◌∙◌, ap, subst, inl}
use Rattle.bus_laws.proofs.Cited.{inr, Entry, End, Errno, Cut, BoardView, TransferView, Hop, hops, root_of, addr_of_mux, is_absent, IsTree}
use Rattle.bus_laws.proofs.Cited.{IsHop, IsPlainBoard, MessageView, hearers, granted_on, block_limit, Asks, Job, Call, Select, SwitchOff}
use Rattle.bus_laws.proofs.Cited.{Off, off_bus, off_mux, off_kind, Act, Send, Shift, Settle, ActOutcome, Sent, Lined, Note, WalkTree, Then}
use Rattle.bus_laws.proofs.Cited.{job_bus, job_purpose, message_of, chip_address, job_outcome, verdict_of, decides, after_job, first_act}
use Rattle.bus_laws.proofs.Cited.{rest_of, message_cut, Now, current, now, talk_of, cut_of, IsNext, IsStepwise, InLocks, IsCall, CanSend}
use Rattle.bus_laws.proofs.Cited.{MaySend, Runs, LinesAreLocked, CallerStands, Stands, AsksForMessages, EndsJob, IsDecided, GoesOn, Settles}
use Rattle.bus_laws.proofs.Cited.{CallsOf, IsAsked, LeadsTo, IsControl}
use Rattle.i2c_base.specs.declared.ids.LockId.TheVariants as lock
use Rattle.i2c_base.specs.declared.ids.Node.TheVariants as node
use Rattle.i2c_base.specs.declared.entry.Purpose.TheVariants as purpose
use Rattle.i2c_base.specs.declared.reply.Cut.TheVariants as cut_at
use Rattle.bus_laws.proofs.past.StandsFacts.{current-stands}
use Rattle.bus_laws.proofs.past.StandsStep.{send_known}
use Rattle.bus_laws.proofs.past.StandsEntries.{first_is}
use Rattle.bus_laws.proofs.past.Laws.{past-stands}
use Rattle.bus_laws.proofs.past.Asked.{current-asked, past-asked}
use Rattle.bus_laws.proofs.device.Reach.{call-leads, control-leads, control-reaches}
use Rattle.bus_laws.proofs.world.Sends.{told-send}
use Rattle.bus_laws.proofs.past.Whole.{line_next}
use Rattle.bus_laws.proofs.past.Placed.{no_settle}
use Rattle.bus_laws.proofs.walk.VerdictLaw.{LetThrough, Bars, open-through, select-bars, off-bars, line-bars}

-- a caller's message comes next: it is of the transfer that the caller asks for, its root's lock is held, and its
-- address leads to what the bus grants
pub record CallNext (b : BoardView) (asks : Asks) (n : Now) (c bus : ℕ) (ms : List MessageView) (left : ℕ) : Type 0 where
  pub whose : TransferView
  pub asked : asks c (n.settled c) ≡ Some whose
  pub call : IsCall b whose bus ms
  pub rooted : InLocks (lock.Bus (root_of b bus)) (n.held c)
  pub leads : LeadsTo (n.worlds (root_of b bus)) (message_of b (Call bus ms) left).addr
      (granted_on b bus whose.force (message_of b (Call bus ms) left).addr)
  pub through : LetThrough b (hops b bus)

-- a step that settles next decides the reply of what its caller asks for: an error, as in the flat world
pub record DecidesNext (b : BoardView) (asks : Asks) (n : Now) (c : ℕ) (cut : Cut) (verdict : Option Errno) : Type 0 where
  pub whose : TransferView
  pub asked : asks c (n.settled c) ≡ Some whose
  pub bars : Bars b whose cut verdict

-- a walk that settles next has not settled
pub settles_next : (w : WalkTree) (done : Bool) (verdict : Option Errno) → Settles done w → first_act w ≡ Some (Settle verdict)
    → done ≡ false
settles_next w done verdict h first =
    let at = first_is w (Settle verdict) first in
    let s : Settles done (Then (Settle verdict) at.0 at.1) = subst (λ (x : WalkTree). Settles done x) at.2 h in
    s.0

module _ (b : BoardView) (tree : IsTree b) (plain : IsPlainBoard b) (lines : LinesAreLocked b) (asks : Asks) (some : AsksForMessages asks)
    (callers : ℕ)
    (past : List Entry) (steps : IsStepwise b callers asks past) (c : ℕ) where
  abbrev n : Now
  n = now b asks past

  stands : Stands b n
  stands = past-stands b tree plain lines asks some callers past steps

  cs : CallerStands b (n.held c) (current b asks n c) n.slot
  cs = current-stands b tree lines asks some n c stands

  asked : IsAsked b asks c (current b asks n c) (n.settled c)
  asked = current-asked b asks some n (past-asked b asks some callers past steps) c

  module _ (job : Job) (left : ℕ) (first : IsNext b asks n c (Send job left)) where
    at : (note : Note) × (next : ActOutcome → WalkTree) × (current b asks n c ≡ Then (Send job left) note next)
    at = first_is (current b asks n c) (Send job left) first

    may : MaySend b cs.whose job left at.0.marks (n.held c) n.slot
    may =
        let runs : MaySend b cs.whose job left at.0.marks (n.held c) cs.view
        × ((out : ActOutcome) → CanSend b job left out
        → Runs b cs.whose (n.held c) (after_job job left at.0.marks out cs.view) (at.1 out)) =
        subst (λ (w : WalkTree). Runs b cs.whose (n.held c) cs.view w) at.2 cs.runs in
        send_known b (n.held c) cs.view n.slot cs.agree cs.whose job left at.0.marks runs.0

    calls : CallsOf b asked.whose (Then (Send job left) at.0 at.1)
    calls = subst (λ (w : WalkTree). CallsOf b asked.whose w) at.2 asked.calls

    settles : Settles asked.done (Then (Send job left) at.0 at.1)
    settles = subst (λ (w : WalkTree). Settles asked.done w) at.2 asked.settles

  pub call-next : (bus : ℕ) (ms : List MessageView) (left : ℕ) → IsNext b asks n c (Send (Call bus ms) left)
      → CallNext b asks n c bus ms left
  call-next bus ms left first =
      let m : MaySend b cs.whose (Call bus ms) left (at (Call bus ms) left first).0.marks (n.held c) n.slot = may
      (Call bus ms) left first in
      record {
        whose = asked.whose;
        asked = asked.asked (settles (Call bus ms) left first).0;
        call = (calls (Call bus ms) left first).0;
        rooted = m.rooted;
        leads = call-leads b tree plain n.slot n.worlds stands.told asked.whose bus ms left (at (Call bus ms) left first).0.marks (n.held c)
            (record {
              reached = m.reached;
              rooted = m.rooted;
              finds = m.finds;
              owns = m.owns;
              may_fail = m.may_fail;
              granted = (calls (Call bus ms) left first).0;
              by_message = m.by_message;
            });
        through = open-through b tree n.slot n.worlds stands.told bus (λ g a. (m.reached g a).0);
      }

  -- a control message comes next: no device hears it
  select_leads : (h : _) (left : ℕ) → IsControl (n.worlds (root_of b (job_bus (Select h)))) (chip_address b h.mux)
      → IsControl (n.worlds (root_of b (job_bus (Select h)))) (message_of b (Select h) left).addr
  select_leads h zero control = control
  select_leads h (suc k) control = control

  pub select-next : (h : _) (left : ℕ) → IsNext b asks n c (Send (Select h) left)
      → IsControl (n.worlds (root_of b (job_bus (Select h)))) (message_of b (Select h) left).addr
  select-next h left first =
      let m : MaySend b cs.whose (Select h) left (at (Select h) left first).0.marks (n.held c) n.slot = may (Select h) left first in
      let hop : IsHop b h = tree.hop h.bus h m.finds.1 in
      select_leads h left
      (control-leads b tree plain n.slot n.worlds stands.told h.mux h.on h.kind hop.kind m.by_message hop.home (λ g a. (m.reached g a).0))

  pub off-next : (off : Off) (left : ℕ) → IsNext b asks n c (Send (SwitchOff off) left)
      → IsControl (n.worlds (root_of b (job_bus (SwitchOff off)))) (message_of b (SwitchOff off) left).addr
  off-next off left first =
      let m : MaySend b cs.whose (SwitchOff off) left (at (SwitchOff off) left first).0.marks (n.held c) n.slot = may
      (SwitchOff off) left first in
      control-leads b tree plain n.slot n.worlds stands.told (off_mux off) (off_bus off) (off_kind off) m.finds.2 m.by_message m.finds.1
      (λ g a. (m.reached g a).0)

  -- its mux's chip alone does, where it is there
  pub control-next : (job : Job) (left m : ℕ) → job_purpose job ≡ purpose.Control m → IsNext b asks n c (Send job left)
      → (addr_of_mux b m ≡ Some (message_of b job left).addr)
      × (hearers (n.worlds (root_of b (job_bus job))) (message_of b job left).addr (message_of b job left).reading ≡ cond
      (not (is_absent b m)) (node.Chip m ∷ []) [])
  control-next job left m is first =
      control-reaches b tree plain n.slot n.worlds stands.told cs.whose job left (at job left first).0.marks (n.held c)
      (may job left first) m is

  -- WHAT A STEP DECIDES
  rest_is : (act : Act) (note : Note) (next : ActOutcome → WalkTree) (out : ActOutcome) → current b asks n c ≡ Then act note next
      → rest_of (current b asks n c) out ≡ next out
  rest_is act note next out e = ap (λ (w : WalkTree). rest_of w out) e

  -- of a step after which the walk settles, or doesn't before its next step
  decided_next : (note : Note) (job : Job) (left : ℕ) (out : ActOutcome) (w : WalkTree) (cut : Cut) (verdict : Option Errno)
      → IsDecided note job left out w → Settles asked.done w → first_act w ≡ Some (Settle verdict)
      → (note.forward ≡ true → decides job (job_outcome job left out) ≡ true → EndsJob job left out
      → Bars b asked.whose cut (verdict_of job left out))
      → DecidesNext b asks n c cut verdict
  decided_next note job left out w cut verdict decided settles first bars =
      elim decided [
        | inl quiet ↦ absurd (no_settle w verdict quiet first)
        | inr d ↦ record {
          whose = asked.whose;
          asked = asked.asked (settles_next w asked.done verdict settles first);
          bars = subst (λ (o : Option Errno). Bars b asked.whose cut o)
              (let f : Some (Settle (verdict_of job left out)) ≡ Some (Settle verdict) = sym d.2 ∙ first in cc) (bars d.0 d.1 d.3);
        }
      ]

  can_give : (job : Job) (left : ℕ) (first : IsNext b asks n c (Send job left)) (e : End) (bytes : List ℕ)
      → e ≡ (talk_of b n job left e).end → bytes ≡ (talk_of b n job left e).bytes
      → CanSend b job left (Sent e bytes)
  can_give job left first e bytes end_told bytes_told =
      let both = told-send b tree plain n.slot n.worlds stands.told cs.whose (at job left first).0.marks (n.held c) (block_limit b)
      (cut_of e) job left (may job left first) in
      subst (λ (x : End). CanSend b job left (Sent x bytes)) (sym end_told)
      (subst (λ (xs : List ℕ). CanSend b job left (Sent (talk_of b n job left e).end xs)) (sym bytes_told) both.1)

  pub select-decides : (h : Hop) (left : ℕ) (first : IsNext b asks n c (Send (Select h) left)) (e : End) (bytes : List ℕ)
      → e ≡ (talk_of b n (Select h) left e).end
      → bytes ≡ (talk_of b n (Select h) left e).bytes → (verdict : Option Errno)
      → first_act (rest_of (current b asks n c) (Sent e bytes)) ≡ Some (Settle verdict)
      → DecidesNext b asks n c (message_cut (purpose.Control h.mux) 1 e) verdict
  select-decides h left first e bytes end_told bytes_told verdict settling =
      let a = at (Select h) left first in
      let s : GoesOn a.0 (Select h) left (Sent e bytes) (a.1 (Sent e bytes))
      × Settles asked.done (a.1 (Sent e bytes)) = (settles (Select h) left first).1 e bytes in
      let m : MaySend b cs.whose (Select h) left a.0.marks (n.held c) n.slot = may (Select h) left first in
      decided_next a.0 (Select h) left (Sent e bytes) (a.1 (Sent e bytes)) (message_cut (purpose.Control h.mux) 1 e) verdict s.0 s.1
      (ap (λ (w : WalkTree). first_act w) (sym (rest_is (Send (Select h) left) a.0 a.1 (Sent e bytes) a.2)) ∙ settling)
      (λ forward decided ends. (
      let way = (calls (Select h) left first).1 forward in
      select-bars b tree asked.whose way.0 h way.1
      (open-through b tree n.slot n.worlds stands.told h.on (λ g i. (m.reached g i).0)) left e bytes
      (can_give (Select h) left first e bytes end_told bytes_told) decided ends))

  pub off-decides : (off : Off) (left : ℕ) (first : IsNext b asks n c (Send (SwitchOff off) left)) (e : End) (bytes : List ℕ)
      (verdict : Option Errno)
      → first_act (rest_of (current b asks n c) (Sent e bytes)) ≡ Some (Settle verdict)
      → DecidesNext b asks n c (message_cut (purpose.Control (off_mux off)) 1 e) verdict
  off-decides off left first e bytes verdict settling =
      let a = at (SwitchOff off) left first in
      let s : GoesOn a.0 (SwitchOff off) left (Sent e bytes) (a.1 (Sent e bytes))
      × Settles asked.done (a.1 (Sent e bytes)) = (settles (SwitchOff off) left first).1 e bytes in
      decided_next a.0 (SwitchOff off) left (Sent e bytes) (a.1 (Sent e bytes))
      (message_cut (purpose.Control (off_mux off)) 1 e) verdict s.0 s.1
      (ap (λ (w : WalkTree). first_act w) (sym (rest_is (Send (SwitchOff off) left) a.0 a.1 (Sent e bytes) a.2)) ∙ settling)
      (λ forward decided ends. off-bars b asked.whose ((calls (SwitchOff off) left first).1 forward).0 off left e bytes decided)

  pub line-decides : (job : Job) (first : IsNext b asks n c (Shift job)) (failed : Bool) (verdict : Option Errno)
      → first_act (rest_of (current b asks n c) (Lined failed)) ≡ Some (Settle verdict)
      → DecidesNext b asks n c (cond failed cut_at.Way cut_at.No) verdict
  line-decides job first failed verdict settling =
      let a = first_is (current b asks n c) (Shift job) first in
      let all : Settles asked.done (Then (Shift job) a.0 a.1) = subst (λ (w : WalkTree). Settles asked.done w) a.2 asked.settles in
      let calls_here : CallsOf b asked.whose (Then (Shift job) a.0 a.1) = subst
      (λ (w : WalkTree). CallsOf b asked.whose w) a.2 asked.calls in
      let s : IsDecided a.0 job zero (Lined failed) (a.1 (Lined failed)) × Settles asked.done (a.1 (Lined failed)) = all failed in
      decided_next a.0 job zero (Lined failed) (a.1 (Lined failed)) (cond failed cut_at.Way cut_at.No) verdict s.0 s.1
      (ap (λ (w : WalkTree). first_act w) (sym (rest_is (Shift job) a.0 a.1 (Lined failed) a.2)) ∙ settling)
      (λ forward decided ends. line-bars b asked.whose (calls_here.0 forward).0 job failed
      (line_next b tree plain lines asks some callers past steps c job first) decided)
