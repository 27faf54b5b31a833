-- A seat after a message that it heard, and after its settle: what is told of its caller, and what it keeps by itself.
use Rattle.bus_core.proofs.Cited.{◌≡◌, ℕ, ◌+◌, ◌<◌, ◌≤◌, Bool, true, false, List, [], ◌∷◌, length, Option, Some, None, refl, sym, ◌∙◌, ap}
use Rattle.bus_core.proofs.Cited.{subst, arith, inl, slice_get, if◌then◌else◌, Purpose, Errno, Cut, Reply, BoardView, Covers, TransferView}
use Rattle.bus_core.proofs.Cited.{MessageView, buses, root_of, is_over, first_act, rest_of, got_after, message_cut, reply_by, Job, Call}
use Rattle.bus_core.proofs.Cited.{Select, SwitchOff, Settle, Passed, ActOutcome, WalkTree, Ends, Look, Then, job_purpose, call-through}
use Rattle.bus_core.proofs.Cited.{RouteView, is_call_through, LocksView, Place, has_reply, NextMsg, IsMessageOf, gone_after, next_of}
use Rattle.bus_core.proofs.Cited.{behind_of, MsgResult, IsSeated, walk_left, owed_by, got_by, place_of, RepliesView, HasHeard, HasSettled}
use Rattle.bus_core.proofs.Cited.{WentOn, got_heard, Decided, Seat}
use Rattle.i2c_base.specs.declared.caller.Caller.{Ghosts as CallerGhosts}
use Rattle.i2c_base.specs.declared.entry.Purpose.TheVariants as purpose
use Rattle.i2c_base.specs.declared.reply.Cut.TheVariants as cut_at
use Rattle.bus_spec.specs.Walk as walk

-- what is owed stays over a message, and what was read grows by it
owed_same : (o : Option Decided) (r : RepliesView) (job : Job) (reading : Bool) (bytes : List ℕ)
    → ((bus : ℕ) (ms : List MessageView) → job ≡ Call bus ms → has_reply (owed_by o r) ≡ false)
    → owed_by o (record r { got = got_heard (job_purpose job) reading bytes r.got }) ≡ owed_by o r
owed_same None r job reading bytes none = refl
owed_same (Some d) r (Call bus ms) reading bytes none = absurd (let f : true ≡ false = none bus ms refl in cc)
owed_same (Some d) r (Select h) reading bytes none = refl
owed_same (Some d) r (SwitchOff off) reading bytes none = refl

got_more : (o : Option Decided) (r : RepliesView) (job : Job) (reading : Bool) (bytes : List ℕ)
    → ((bus : ℕ) (ms : List MessageView) → job ≡ Call bus ms → has_reply (owed_by o r) ≡ false)
    → got_by o (record r { got = got_heard (job_purpose job) reading bytes r.got }) ≡ got_after job reading bytes (got_by o r)
got_more None r (Call bus ms) reading bytes none = refl
got_more None r (Select h) reading bytes none = refl
got_more None r (SwitchOff off) reading bytes none = refl
got_more (Some d) r (Call bus ms) reading bytes none = absurd (let f : true ≡ false = none bus ms refl in cc)
got_more (Some d) r (Select h) reading bytes none = refl
got_more (Some d) r (SwitchOff off) reading bytes none = refl

pub undecided : (o : Option Decided) (r : RepliesView) → has_reply (owed_by o r) ≡ false → o ≡ None
undecided None r e = refl
undecided (Some d) r e = absurd (let f : true ≡ false = e in cc)

-- where a settle comes first, no look is in front of it
pub settle-first : (v : LocksView) (w : WalkTree) (verdict : Option Errno) → first_act w ≡ Some (Settle verdict)
    → (next_of v w ≡ Some (Settle verdict)) × (behind_of v w Passed ≡ rest_of w Passed)
settle-first v Ends verdict e = absurd (let f : None ≡ Some (Settle verdict) = e in cc)
settle-first v (Look ask next) verdict e = absurd (let f : None ≡ Some (Settle verdict) = e in cc)
settle-first v (Then act note next) verdict e = (e, refl)

-- another walk, replies and counts
place_with : {C S : Type 0} (c : CallerGhosts C S) (s t : Seat C) (q : Place) → place_of c t ≡ q
    → (owed : List Reply) (w : WalkTree) (sent : ℕ) (got : List ℕ) → q.owed ≡ owed → q.tree ≡ w → q.sent ≡ sent → q.got ≡ got
    → place_of c t ≡ record q { owed = owed; tree = w; sent = sent; got = got }
place_with c s t q is owed w sent got o tr se go =
    is
    ∙ ap (λ (y : List Reply). record q { owed = y }) o
    ∙ ap (λ (y : WalkTree). record q { owed = owed; tree = y }) tr
    ∙ ap (λ (y : ℕ). record q { owed = owed; tree = w; sent = y }) se
    ∙ ap (λ (y : List ℕ). record q { owed = owed; tree = w; sent = sent; got = y }) go

module _ {C S : Type 0} (c : CallerGhosts C S) (b : BoardView) (v : LocksView) (roots : List ℕ) where
  -- A MESSAGE
  module _ (job : Job) (more : ℕ) (next : NextMsg) (of : IsMessageOf job more next) (bytes : List ℕ) (r : MsgResult)
      (s t : Seat C) (heard : HasHeard v next bytes r s t)
      (none : (bus : ℕ) (ms : List MessageView) → job ≡ Call bus ms → has_reply (owed_by s.decided s.replies) ≡ false) where
    replies : t.replies ≡ record s.replies { got = got_heard (job_purpose job) r.reading bytes s.replies.got }
    replies = heard.got ∙ ap (λ (y : Purpose). record s.replies { got = got_heard y r.reading bytes s.replies.got }) of.for_purpose

    pub heard-gone : t.sent ≡ gone_after s.sent job r.end
    heard-gone = heard.gone ∙ ap (λ (y : Purpose). if is_call_through y r.end then s.sent + 1 else s.sent) of.for_purpose

    pub heard-place : place_of c t ≡ record (place_of c s) {
      tree = behind_of v (walk_left s) (walk.Sent r.end bytes);
      sent = gone_after s.sent job r.end;
      got = got_after job r.reading bytes (got_by s.decided s.replies);
      cut = message_cut next.purpose next.part r.end;
    }
    heard-place =
        place_with c s t (place_of c
        (record s {
          walk = t.walk;
          sent = t.sent;
          written = t.written;
          replies = t.replies;
          cut = message_cut next.purpose next.part r.end;
        })) (ap (place_of c) heard.same)
        (owed_by s.decided s.replies) (behind_of v (walk_left s) (walk.Sent r.end bytes)) (gone_after s.sent job r.end)
        (got_after job r.reading bytes (got_by s.decided s.replies))
        (ap (owed_by s.decided) replies ∙ owed_same s.decided s.replies job r.reading bytes none)
        (sym (ap walk_left heard.same) ∙ heard.walk) heard-gone
        (ap (got_by s.decided) replies ∙ got_more s.decided s.replies job r.reading bytes none)

    -- what it has read
    pub heard-got : has_reply (owed_by s.decided s.replies) ≡ false
        → t.replies.got ≡ got_after job r.reading bytes (got_by s.decided s.replies)
    heard-got unsettled =
        let is : s.decided ≡ None = undecided s.decided s.replies unsettled in
        let to : t.decided ≡ None = ap (λ (y : Seat C). y.decided) heard.same ∙ is in
        sym (ap (λ (o : Option Decided). got_by o t.replies) to) ∙ ap (λ (y : Place). y.got) heard-place

    heard_within : IsSeated c b roots s → (next.purpose ≡ purpose.Call → s.sent < length s.transfer.msgs) → (through : Bool)
        → is_call_through next.purpose r.end ≡ through → t.sent ≡ (if through then s.sent + 1 else s.sent) → t.sent ≤ length s.transfer.msgs
    heard_within seated left true is gone = (let low : s.sent < length s.transfer.msgs = left (call-through next.purpose r.end is).0 in
        let g : t.sent ≡ s.sent + 1 = gone in omega (arith, low, g))
    heard_within seated left false is gone = (let g : t.sent ≡ s.sent = gone in omega (arith, g, seated.within))

    pub heard-seated : IsSeated c b roots s → is_over (walk_left s) ≡ false → s.transfer.bus < buses b
        → (next.purpose ≡ purpose.Call → s.sent < length s.transfer.msgs) → IsSeated c b roots t
    heard-seated seated going low left =
        let transfer : t.transfer ≡ s.transfer = ap (λ (y : Seat C). y.transfer) heard.same in
        record {
          on = ap (λ (y : RouteView). y.board) heard.route ∙ seated.on;
          wrote = heard.wrote;
          within = subst (λ (y : TransferView). t.sent ≤ length y.msgs) (sym transfer)
              (heard_within seated left (is_call_through next.purpose r.end) refl heard.gone);
          plugged = λ goes there. subst (λ (y : Seat C). slice_get roots y.port ≡ Some (root_of b y.transfer.bus)) (sym heard.same)
              (seated.plugged going low);
          there = λ goes. inl (subst (λ (y : TransferView). y.bus < buses b) (sym transfer) low);
          spare = subst (λ (y : Seat C). Covers (c.spare y.caller) (c.owed (c.script y.caller) (c.taken y.caller)))
              (sym heard.same) seated.spare;
        }

  -- A LINE STEP
  module _ (out : ActOutcome) (cut : Cut) (s t : Seat C) (went : WentOn v out cut s t) where
    pub went-on-place : place_of c t ≡ record (place_of c s) { tree = behind_of v (walk_left s) out; cut = cut }
    went-on-place =
        ap (place_of c) went.same ∙ ap (λ (y : WalkTree). record (place_of c s) { tree = y; cut = cut })
        (sym (ap walk_left went.same) ∙ went.walk)

  -- THE SETTLE after either
  module _ (verdict : Option Errno) (t u : Seat C) (settled : HasSettled v verdict t u) where
    pub settled-place : (reply : Reply) → reply_by verdict (Some t.transfer) t.replies.got ≡ reply
        → first_act (walk_left t) ≡ Some (Settle verdict)
        → place_of c u ≡ record (place_of c t) { tree = rest_of (walk_left t) Passed; owed = reply ∷ []; got = []; cut = cut_at.No }
    settled-place reply is first =
        place_with c t u (place_of c (record t { walk = u.walk; replies = u.replies; decided = u.decided; cut = cut_at.No }))
        (ap (place_of c) settled.same)
        (reply ∷ []) (rest_of (walk_left t) Passed) t.sent []
        (settled.owed ∙ ap (λ (r : Reply). r ∷ []) is)
        (sym (ap walk_left settled.same) ∙ settled.walk ∙ (settle-first v (walk_left t) verdict first).1) refl settled.emptied
