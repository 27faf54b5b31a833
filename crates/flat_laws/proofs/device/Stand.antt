-- What stands of the devices after a past: those that the settled transfers left in the flat world, those of the transfer
-- whose settle is due, and what is said of each transfer under way. One step that is no message of a caller's keeps it.
use Rattle.flat_laws.proofs.Cited.{◌≡◌, ℕ, Bool, true, false, cond, List, Option, Some, None, refl, sym, ◌∙◌, ap, subst, inl, inr}
use Rattle.flat_laws.proofs.Cited.{slice_get, eqb_tells, End, Entry, Errno, Reply, Cut, BoardView, TransferView, root_of, IsTree}
use Rattle.flat_laws.proofs.Cited.{IsPlainBoard, TargetState, MessageView, messages_of, World, world_listener, talk, FlatTold, idle}
use Rattle.flat_laws.proofs.Cited.{block_limit, flat, Asks, History, changed_at, Job, Call, Act, Send, Shift, Settle, Passed, Sent, Lined}
use Rattle.flat_laws.proofs.Cited.{WalkTree, job_bus, job_purpose, message_of, first_act, first_note, rest_of, is_call, cut_told, Now}
use Rattle.flat_laws.proofs.Cited.{current, now, is_due, sent, with_due, moved, talk_of, cut_of, inside_after, got_after, IsNext}
use Rattle.flat_laws.proofs.Cited.{IsStepwise, reply_by, LinesAreLocked, AsksForMessages, IsOf, Same, at_same, at_other, own_call}
use Rattle.flat_laws.proofs.Cited.{bars-flat, DecidesNext, same_Some}
use Rattle.i2c_base.specs.declared.port.PortCall.TheVariants as call
use Rattle.i2c_base.specs.declared.reply.Cut.TheVariants as cut_at
use Rattle.i2c_spec.specs.World.{after}
use Rattle.bus_spec.specs.Walk.{is_last, line_mux, line_level}
use Rattle.bus_spec.specs.Past.{lined, line_call}
use Rattle.bus_laws.specs.Alike.{IsControl}
use Rattle.bus_laws.proofs.past.Whole.{no_line}
use Rattle.flat_laws.proofs.past.First.{due_settles, not_inside}
use Rattle.bus_laws.proofs.device.Past.{line-decides}
use Rattle.bus_laws.proofs.device.Stay.{control-same, line-same, fault-same}
use Rattle.flat_laws.proofs.device.Said.{IsSaid, said-elsewhere}

-- a caller's settle is due: the flat world has done its transfer, and left these devices
pub record IsDueWith (b : BoardView) (asks : Asks) (n : Now) (h : History) (ahead : List TargetState) (c : ℕ) : Type 0 where
  pub whose : TransferView
  pub asked : asks c (n.settled c) ≡ Some whose
  pub verdict : Option Errno
  pub settles : first_act (n.walk c) ≡ Some (Settle verdict)
  pub told : flat b h.states whose (n.cut c) ≡ record { reply = reply_by verdict (Some whose) (n.got c); states = ahead }

-- a caller's messages have begun on a root, and not ended
pub record IsInsideWith (b : BoardView) (asks : Asks) (n : Now) (ahead : List TargetState) (r c : ℕ) : Type 0 where
  pub whose : TransferView
  pub asked : asks c (n.settled c) ≡ Some whose
  pub root : root_of b whose.bus ≡ r
  pub left : ℕ
  pub sends : first_act (n.walk c) ≡ Some (Send (Call whose.bus (messages_of whose)) left)
  pub said : IsSaid b ahead whose (n.worlds r) (n.got c) left

pub record DevicesStand (b : BoardView) (asks : Asks) (n : Now) (h : History) : Type 0 where
  -- the devices that the transfers leave which are settled, or whose settle is due
  pub ahead : List TargetState
  pub replies : (c : ℕ) → n.settled c ≡ h.replies c
  pub free : n.due ≡ None → ahead ≡ h.states
  pub due : (c : ℕ) → n.due ≡ Some c → IsDueWith b asks n h ahead c
  pub rest : (r : ℕ) → n.inside r ≡ None → Same b r (n.worlds r) (idle ahead)
  pub said : (r c : ℕ) → n.inside r ≡ Some c → IsInsideWith b asks n ahead r c

-- a caller that stays where it is, on a root whose devices stay
pub inside_stays : (b : BoardView) (asks : Asks) → IsTree b → (n m : Now) (old new : List TargetState) (r c : ℕ)
    → IsInsideWith b asks n old r c
    → m.walk c ≡ n.walk c → m.settled c ≡ n.settled c → m.got c ≡ n.got c → m.worlds r ≡ n.worlds r
    → ((d : ℕ) → IsOf b r d → slice_get old d ≡ slice_get new d) → IsInsideWith b asks m new r c
inside_stays b asks tree n m old new r c s walk settled got world same =
    record {
      whose = s.whose;
      asked = ap (λ (rs : List Reply). asks c rs) settled ∙ s.asked;
      root = s.root;
      left = s.left;
      sends = ap (λ (w : WalkTree). first_act w) walk ∙ s.sends;
      said = subst (λ (w : World). IsSaid b new s.whose w (m.got c) s.left) (sym world)
          (subst (λ (xs : List ℕ). IsSaid b new s.whose (n.worlds r) xs s.left) (sym got)
          (said-elsewhere b tree old new s.whose (n.worlds r) (n.got c) s.left (λ d own. same d (own ∙ s.root)) s.said));
    }

-- a step of one caller after which all others are where they were, and each root's devices are the same
pub record Stays (b : BoardView) (n m : Now) (ahead : List TargetState) (d : ℕ) : Type 0 where
  pub walks : (c : ℕ) → (c ≡ d → ⊥) → m.walk c ≡ n.walk c
  pub settled : (c : ℕ) → (c ≡ d → ⊥) → m.settled c ≡ n.settled c
  pub got : (c : ℕ) → (c ≡ d → ⊥) → m.got c ≡ n.got c
  pub inside : (r : ℕ) → m.inside r ≡ n.inside r
  pub outside : (r : ℕ) → n.inside r ≡ Some d → ⊥
  pub worlds : (r : ℕ) → n.inside r ≡ None → Same b r (n.worlds r) (idle ahead) → Same b r (m.worlds r) (idle ahead)
  pub busy : (r c : ℕ) → n.inside r ≡ Some c → m.worlds r ≡ n.worlds r

pub stands_still : (b : BoardView) (asks : Asks) → IsTree b
    → (n : Now) (h : History) (s : DevicesStand b asks n h) (m : Now) (g : History) (d : ℕ) → Stays b n m s.ahead d
    → ((c : ℕ) → m.settled c ≡ g.replies c) → (m.due ≡ None → s.ahead ≡ g.states)
    → ((c : ℕ) → m.due ≡ Some c → IsDueWith b asks m g s.ahead c) → DevicesStand b asks m g
stands_still b asks tree n h s m g d stays replies free due =
    record {
      ahead = s.ahead;
      replies = replies;
      free = free;
      due = due;
      rest = λ r none. (let before : n.inside r ≡ None = sym (stays.inside r) ∙ none in stays.worlds r before (s.rest r before));
      said = λ r c is. (
          let before : n.inside r ≡ Some c = sym (stays.inside r) ∙ is in
          let other : c ≡ d → ⊥ = λ e. stays.outside r (before ∙ ap Some e) in
          inside_stays b asks tree n m s.ahead s.ahead r c (s.said r c before) (stays.walks c other) (stays.settled c other)
          (stays.got c other) (stays.busy r c before) (λ k own. refl));
    }

-- a step that decides an error leaves the flat world's devices
pub bars_due : (b : BoardView) (asks : Asks) (n m : Now) (h : History) (ahead : List TargetState) (d : ℕ) (cut : Cut)
    (verdict : Option Errno) → DecidesNext b asks n d cut verdict
    → m.settled d ≡ n.settled d → m.cut d ≡ cut → ahead ≡ h.states → first_act (m.walk d) ≡ Some (Settle verdict)
    → IsDueWith b asks m h ahead d
bars_due b asks n m h ahead d cut verdict next settled cut_is same first =
    record {
      whose = next.whose;
      asked = ap (λ (rs : List Reply). asks d rs) settled ∙ next.asked;
      verdict = verdict;
      settles = first;
      told = ap (λ (x : Cut). flat b h.states next.whose x) cut_is ∙ bars-flat b h.states next.whose cut next.bars.error next.bars.barred
          ∙ ap (λ (x : Reply). told_by x h.states)
          (ap (λ (o : Option Errno). reply_by o (Some next.whose) (m.got d)) (sym next.bars.verdict))
          ∙ ap (λ (xs : List TargetState). told_by (reply_by verdict (Some next.whose) (m.got d)) xs) (sym same);
    }
  where
    told_by : Reply → List TargetState → FlatTold
    told_by x xs = record { reply = x; states = xs }

-- whose settle is due after a step
due_of : (d c : ℕ) (t : Bool) → cond t (Some d) None ≡ Some c → (t ≡ true) × (c ≡ d)
due_of d c true e = (refl, sym (same_Some d c e))
due_of d c false e = absurd (let f : None ≡ Some c = e in cc)

-- a control message changes no root's messages
inside_same : (f : ℕ → Option ℕ) (k r : ℕ) (x : Option ℕ) → x ≡ f k → changed_at f k x r ≡ f r
inside_same f k r x e =
    elim (eqb_tells r k) [
      | inl h ↦ ap (λ (i : ℕ). changed_at f k x i) h.1 ∙ at_same f k x ∙ e ∙ ap f (sym h.1)
      | inr h ↦ at_other f k x r h.1
    ]

module _ (b : BoardView) (tree : IsTree b) (plain : IsPlainBoard b) (lines : LinesAreLocked b) (asks : Asks) (some : AsksForMessages asks)
    (callers : ℕ)
    (past : List Entry) (steps : IsStepwise b callers asks past) (h : History) (s : DevicesStand b asks (now b asks past) h) where
  abbrev n : Now
  n = now b asks past

  -- A LOCK
  pub lock_stands : (d : ℕ) (act : Act) (m : Now) → n.due ≡ None → IsNext b asks n d act
      → ((bus : ℕ) (ms : List MessageView) (left : ℕ) → act ≡ Send (Call bus ms) left → ⊥)
      → m.walk ≡ changed_at n.walk d (rest_of (current b asks n d) Passed) → m.settled ≡ n.settled → m.got ≡ n.got → m.inside ≡ n.inside
      → m.worlds ≡ n.worlds → m.due ≡ n.due
      → DevicesStand b asks m h
  lock_stands d act m none next no_call walk settled got inside worlds due =
      stands_still b asks tree n h s m h d
      (record {
        walks = λ c ne. ap (λ (f : ℕ → WalkTree). f c) walk ∙ at_other n.walk d (rest_of (current b asks n d) Passed) c ne;
        settled = λ c ne. ap (λ (f : ℕ → List Reply). f c) settled;
        got = λ c ne. ap (λ (f : ℕ → List ℕ). f c) got;
        inside = λ r. ap (λ (f : ℕ → Option ℕ). f r) inside;
        outside = not_inside b tree plain lines asks some callers past steps d act next no_call;
        worlds = λ r out same. subst (λ (f : ℕ → World). Same b r (f r) (idle s.ahead)) (sym worlds) same;
        busy = λ r c is. ap (λ (f : ℕ → World). f r) worlds;
      })
      (λ c. ap (λ (f : ℕ → List Reply). f c) settled ∙ s.replies c)
      (λ e. s.free none) (λ c e. absurd (let f : None ≡ Some c = sym none ∙ sym due ∙ e in cc))

  -- A LINE STEP
  pub line_stands : (d : ℕ) (job : Job) (failed : Bool) (x : Entry) → cut_told x ≡ cond failed cut_at.Way cut_at.No → n.due ≡ None
      → (next : IsNext b asks n d (Shift job))
      → DevicesStand b asks (with_due d (moved b asks n (lined b n job (first_note (current b asks n d)) failed) d x (Lined failed))) h
  line_stands d job failed x cut none next =
      stands_still b asks tree n h s m h d
      (record {
        walks = λ c ne. at_other n.walk d (rest_of (current b asks n d) (Lined failed)) c ne;
        settled = λ c ne. refl;
        got = λ c ne. refl;
        inside = λ r. refl;
        outside = not_inside b tree plain lines asks some callers past steps d (Shift job) next
            (λ bus ms left f. let g : Shift job ≡ Send (Call bus ms) left = f in cc);
        worlds = world_same;
        busy = λ r c is. at_other n.worlds root (after (n.worlds root) (line_call job failed)) r
            (λ e. no_line b tree plain lines asks some callers past steps c r d job is next (sym e));
      })
      s.replies (λ e. s.free none) decides_due
    where
      root : ℕ
      root = root_of b (job_bus job)

      m : Now
      m = with_due d (moved b asks n (lined b n job (first_note (current b asks n d)) failed) d x (Lined failed))

      called_same : (t : Bool) (w : World) → Same b root w (idle s.ahead)
          → Same b root (after w (cond t call.Fault (call.Line (line_mux job) (line_level job)))) (idle s.ahead)
      called_same true w same = fault-same b root w s.ahead same
      called_same false w same = line-same b root w s.ahead (line_mux job) (line_level job) same

      world_same : (r : ℕ) → n.inside r ≡ None → Same b r (n.worlds r) (idle s.ahead)
          → Same b r (changed_at n.worlds root (after (n.worlds root) (line_call job failed)) r) (idle s.ahead)
      world_same r out same =
          elim (eqb_tells r root) [
            | inl e ↦ subst (λ (i : ℕ). Same b i (changed_at n.worlds root (after (n.worlds root) (line_call job failed)) i) (idle s.ahead))
                (sym e.1)
                (subst (λ (w : World). Same b root w (idle s.ahead))
                (sym (at_same n.worlds root (after (n.worlds root) (line_call job failed))))
                (called_same failed (n.worlds root) (subst (λ (i : ℕ). Same b i (n.worlds i) (idle s.ahead)) e.1 same)))
            | inr e ↦ subst (λ (w : World). Same b r w (idle s.ahead))
                (sym (at_other n.worlds root (after (n.worlds root) (line_call job failed)) r e.1)) same
          ]

      decides_due : (c : ℕ) → m.due ≡ Some c → IsDueWith b asks m h s.ahead c
      decides_due c e =
          let o = due_of d c (is_due (first_act (m.walk d))) e in
          let v = due_settles (first_act (m.walk d)) o.0 in
          subst (λ (i : ℕ). IsDueWith b asks m h s.ahead i) (sym o.1)
          (bars_due b asks n m h s.ahead d (cond failed cut_at.Way cut_at.No) v.0
          (line-decides b tree plain lines asks some callers past steps d job next failed v.0
          (ap (λ (w : WalkTree). first_act w) (sym (at_same n.walk d (rest_of (current b asks n d) (Lined failed)))) ∙ v.1))
          refl (at_same n.cut d (cut_told x) ∙ cut) (s.free none) v.1)

  -- A CONTROL MESSAGE
  pub control_stands : (d : ℕ) (job : Job) (left : ℕ) (reading : Bool) (bytes : List ℕ) (e : End) (x : Entry) → n.due ≡ None
      → (next : IsNext b asks n d (Send job left))
      → is_call (job_purpose job) ≡ false → is_last job left ≡ true
      → IsControl (n.worlds (root_of b (job_bus job))) (message_of b job left).addr
      → ((old : Option ℕ) → inside_after job left (Sent e bytes) d old ≡ old) → ((old : List ℕ) → got_after job reading bytes old ≡ old)
      → ((verdict : Option Errno) → first_act (rest_of (current b asks n d) (Sent e bytes)) ≡ Some (Settle verdict)
      → DecidesNext b asks n d (cut_told x) verdict)
      → DevicesStand b asks (with_due d
      (moved b asks n (sent b n d job left (first_note (current b asks n d)) reading bytes e (talk_of b n job left e)) d x
      (Sent e bytes))) h
  control_stands d job left reading bytes e x none next no_call last control inside_is got_is decides =
      stands_still b asks tree n h s m h d
      (record {
        walks = λ c ne. at_other n.walk d (rest_of (current b asks n d) (Sent e bytes)) c ne;
        settled = λ c ne. refl;
        got = λ c ne. at_other n.got d (got_after job reading bytes (n.got d)) c ne;
        inside = λ r. inside_same n.inside root r (inside_after job left (Sent e bytes) d (n.inside root)) (inside_is (n.inside root));
        outside = not_inside b tree plain lines asks some callers past steps d (Send job left) next
            (λ bus ms k f. let g : job ≡ Call bus ms = (let f2 : Send job left ≡ Send (Call bus ms) k = f in cc) in
            let q : false ≡ true = sym no_call ∙ ap (λ (j : Job). is_call (job_purpose j)) g in cc);
        worlds = world_same;
        busy = λ r c is. at_other n.worlds root (talk_of b n job left e).now r
            (λ same. let own = own_call b tree plain lines asks some callers past steps c r d job left is next (sym same) in
            let q : false ≡ true = sym no_call ∙ own.1 in cc);
      })
      s.replies (λ z. s.free none) decides_due
    where
      root : ℕ
      root = root_of b (job_bus job)

      m : Now
      m = with_due d (moved b asks n (sent b n d job left (first_note (current b asks n d)) reading bytes e (talk_of b n job left e)) d x
          (Sent e bytes))

      talked_same : Same b root (n.worlds root) (idle s.ahead) → Same b root (talk_of b n job left e).now (idle s.ahead)
      talked_same same =
          subst (λ (t : Bool). Same b root (talk world_listener (block_limit b) (n.worlds root) (message_of b job left) t (cut_of e)).now
          (idle s.ahead)) (sym last)
          (control-same b root (block_limit b) (n.worlds root) s.ahead (message_of b job left) (cut_of e) same control)

      world_same : (r : ℕ) → n.inside r ≡ None → Same b r (n.worlds r) (idle s.ahead)
          → Same b r (changed_at n.worlds root (talk_of b n job left e).now r) (idle s.ahead)
      world_same r out same =
          elim (eqb_tells r root) [
            | inl at ↦ subst (λ (i : ℕ). Same b i (changed_at n.worlds root (talk_of b n job left e).now i) (idle s.ahead)) (sym at.1)
                (subst (λ (w : World). Same b root w (idle s.ahead)) (sym (at_same n.worlds root (talk_of b n job left e).now))
                (talked_same (subst (λ (i : ℕ). Same b i (n.worlds i) (idle s.ahead)) at.1 same)))
            | inr at ↦ subst (λ (w : World). Same b r w (idle s.ahead))
                (sym (at_other n.worlds root (talk_of b n job left e).now r at.1)) same
          ]

      decides_due : (c : ℕ) → m.due ≡ Some c → IsDueWith b asks m h s.ahead c
      decides_due c due =
          let o = due_of d c (is_due (first_act (m.walk d))) due in
          let v = due_settles (first_act (m.walk d)) o.0 in
          subst (λ (i : ℕ). IsDueWith b asks m h s.ahead i) (sym o.1)
          (bars_due b asks n m h s.ahead d (cut_told x) v.0
          (decides v.0 (ap (λ (w : WalkTree). first_act w) (sym (at_same n.walk d (rest_of (current b asks n d) (Sent e bytes)))) ∙ v.1))
          refl (at_same n.cut d (cut_told x)) (s.free none) v.1)
