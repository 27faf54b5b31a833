-- A seat after two steps on it, by what each of them leaves.
use Rattle.bus_core.proofs.Cited.{◌≡◌, ◌⊎◌, ◌<◌, ℕ, ◌+◌, ◌≤◌, true, false, List, [], ◌∷◌, ◌++◌, length, Option, Some, refl, sym, ◌∙◌, ap}
use Rattle.bus_core.proofs.Cited.{subst, take, sum_by, if◌then◌else◌, Errno, Cut, Reply, BoardView, Fits, written_of, JournalView, is_over}
use Rattle.bus_core.proofs.Cited.{seen, rest_of, message_cut, reply_by, WalkTree, Look, ActOutcome, Passed, Sent, Then, Ends, buses, IsLone}
use Rattle.bus_core.proofs.Cited.{NextMsg, is_call_through, RouteView, slots_of, behind_of, LocksView, MsgResult, IsSeated, walk_left}
use Rattle.bus_core.proofs.Cited.{owed_by, reply_decided, WentOn, got_heard, HasHeard, HasSettled, HasEnded, HasFreed, MayEnd, MayRefuse}
use Rattle.bus_core.proofs.Cited.{Decided, Seat, seen_of}
use Rattle.i2c_base.specs.declared.caller.Caller.{Ghosts as CallerGhosts}
use Rattle.i2c_base.specs.declared.entry.Entry.TheVariants as entry
use Rattle.i2c_base.specs.declared.reply.Cut.TheVariants as cut_at
use Rattle.i2c_base.specs.declared.reply.Reply.TheVariants as reply
use Rattle.bus_spec.specs.Slots.{Slots}
use Rattle.bus_core.specs.Places.{HasCounted}
use Rattle.bus_core.proofs.There.{there-behind}

-- a walk that goes on after a step went on before it
pub still_going : (v : Slots) (w : WalkTree) (out : ActOutcome) → is_over (rest_of (seen v w) out) ≡ false → is_over w ≡ false
still_going v Ends out h = absurd (let f : true ≡ false = h in cc)
still_going v (Look ask next) out h = refl
still_going v (Then act note next) out h = refl

module _ {C : Type 0} (v : LocksView) (s m t : Seat C) where
  -- it counts a message, and goes on
  pub heard : (next : NextMsg) (bytes : List ℕ) (r : MsgResult)
      → m ≡ record s { sent = m.sent; written = m.written; replies = m.replies; cut = message_cut next.purpose next.part r.end }
      → t ≡ record m { walk = t.walk }
      → m.sent ≡ (if is_call_through next.purpose r.end then s.sent + 1 else s.sent)
      → m.replies ≡ record s.replies { got = got_heard next.purpose r.reading bytes s.replies.got }
      → HasCounted m
      → walk_left t ≡ behind_of v (walk_left m) (Sent r.end bytes) → t.walk.route ≡ m.walk.route → HasHeard v next bytes r s t
  heard next bytes r counted went gone got wrote walk route =
      subst (λ (x : Seat C). HasHeard v next bytes r s x) (sym went)
      (record {
        gone = gone;
        got = got;
        same = ap (λ (x : Seat C). record x { walk = t.walk }) counted;
        walk = ap walk_left (sym went) ∙ walk ∙ ap (λ (x : Seat C). behind_of v (walk_left x) (Sent r.end bytes)) counted;
        wrote = wrote;
        route = route ∙ ap (λ (x : Seat C). x.walk.route) counted;
      })

  -- it decides the reply, and goes on
  pub settled : (verdict : Option Errno) (d : Decided)
      → m ≡ record s { replies = m.replies; decided = Some d } → t ≡ record m { walk = t.walk; cut = cut_at.No }
      → reply_decided d m.replies ≡ reply_by verdict (Some s.transfer) s.replies.got
      → walk_left t ≡ behind_of v (walk_left m) Passed → t.walk.route ≡ m.walk.route → HasSettled v verdict s t
  settled verdict d decides went replied walk route =
      let all : t ≡ record s { walk = t.walk; replies = m.replies; decided = Some d; cut = cut_at.No } =
      went ∙ ap (λ (x : Seat C). record x { walk = t.walk; cut = cut_at.No }) decides in
      subst (λ (x : Seat C). HasSettled v verdict s x) (sym all)
      (record {
        same = refl;
        owed = ap (λ (r : Reply). r ∷ []) replied;
        emptied = refl;
        walk = ap walk_left (sym all) ∙ walk ∙ ap (λ (x : Seat C). behind_of v (walk_left x) Passed) decides;
        route = route ∙ ap (λ (x : Seat C). x.walk.route) decides;
      })

-- the entry of a settle, of a seat that has decided
pub settle_entry : {C : Type 0} (s m : Seat C) (d : Option Decided) (q r : Reply) → m ≡ record s { replies = m.replies; decided = d }
    → q ≡ r
    → entry.Settle m.number q m.cut ≡ entry.Settle s.number r s.cut
settle_entry {C} s m d q r decides same = ap (λ (x : Seat C). entry.Settle x.number q x.cut) decides
    ∙ ap (λ (x : Reply). entry.Settle s.number x s.cut) same

module _ {C S : Type 0} (c : CallerGhosts C S) (b : BoardView) (v : LocksView) (roots : List ℕ) (s t : Seat C)
    (seated : IsSeated c b roots s) where
  -- a seat stays seated behind any step whose counts are those of its transfer
  seated_behind : (out : ActOutcome)
      → t ≡ record s { walk = t.walk; sent = t.sent; written = t.written; replies = t.replies; decided = t.decided; cut = t.cut }
      → t.written ≡ sum_by written_of (take t.sent t.transfer.msgs) → t.sent ≤ length t.transfer.msgs
      → walk_left t ≡ behind_of v (walk_left s) out → t.walk.route ≡ s.walk.route → IsSeated c b roots t
  seated_behind out same wrote within walk route =
      subst (λ (x : Seat C). x.written ≡ sum_by written_of (take x.sent x.transfer.msgs) → x.sent ≤ length x.transfer.msgs
      → IsSeated c b roots x) (sym same)
      (λ wrote within. record {
        on = ap (λ (x : RouteView). x.board) route ∙ seated.on;
        wrote = wrote;
        within = within;
        plugged = λ on bus. seated.plugged
            (still_going (slots_of (seen_of v)) (walk_left s) out (ap is_over (sym walk ∙ ap walk_left same) ∙ on)) bus;
        there = λ on.
            let tree = sym walk ∙ ap walk_left same in
            subst (λ (w : WalkTree). (s.transfer.bus < buses b) ⊎ IsLone b w) tree
            (there-behind b v s.transfer.bus (walk_left s) out
            (seated.there (still_going (slots_of (seen_of v)) (walk_left s) out (ap is_over tree ∙ on))) (ap is_over tree ∙ on));
        spare = seated.spare;
      }) wrote within

  -- .. that counts none
  seated_same : (out : ActOutcome) → t ≡ record s { walk = t.walk; replies = t.replies; decided = t.decided; cut = t.cut }
      → walk_left t ≡ behind_of v (walk_left s) out → t.walk.route ≡ s.walk.route → IsSeated c b roots t
  seated_same out same walk route =
      seated_behind out
      (subst (λ (x : Seat C). x ≡ record s {
        walk = x.walk;
        sent = x.sent;
        written = x.written;
        replies = x.replies;
        decided = x.decided;
        cut = x.cut;
      }) (sym same) refl)
      (subst (λ (x : Seat C). x.written ≡ sum_by written_of (take x.sent x.transfer.msgs)) (sym same) seated.wrote)
      (subst (λ (x : Seat C). x.sent ≤ length x.transfer.msgs) (sym same) seated.within)
      walk route

  pub seated_on : (out : ActOutcome) (cut : Cut) → WentOn v out cut s t → IsSeated c b roots t
  seated_on out cut on =
      seated_same out
      (subst (λ (x : Seat C). x ≡ record s { walk = x.walk; replies = x.replies; decided = x.decided; cut = x.cut }) (sym on.same) refl)
      on.walk on.route

  pub seated_settled : (verdict : Option Errno) → HasSettled v verdict s t → IsSeated c b roots t
  seated_settled verdict on =
      seated_same Passed
      (subst (λ (x : Seat C). x ≡ record s { walk = x.walk; replies = x.replies; decided = x.decided; cut = x.cut }) (sym on.same) refl)
      on.walk on.route

module _ {C S : Type 0} (c : CallerGhosts C S) (b : BoardView) (v : LocksView) (roots : List ℕ) (s m t : Seat C) where
  -- what has ended the walk after a step has ended it for the caller
  ended_from : (r : Reply) (k : Cut) → HasEnded c b r m.cut m t → m.number ≡ s.number → m.caller ≡ s.caller → m.cut ≡ k
      → m.transfer ≡ s.transfer → HasEnded c b r k s t
  ended_from r k h number caller cut transfer =
      record {
        number = h.number ∙ number;
        cut_is = h.cut_is ∙ cut;
        handed = record {
          script = h.handed.script ∙ ap c.script caller;
          taken = h.handed.taken
              ∙ ap (λ (x : C). c.taken x ++ r ∷ []) caller;
        };
        loaded = h.loaded;
        stays = λ none. h.stays none ∙ transfer;
      }

  -- after a lock that is freed a walk goes on, or has ended
  module _ (may : MayEnd c b roots s) (passed : WentOn v Passed cut_at.No s m) where
    pub may_end : MayEnd c b roots m
    may_end =
        subst (λ (x : Seat C). IsSeated c b roots x → MayEnd c b roots x) (sym passed.same)
        (λ seated. record { seated = seated; fits = may.fits; wired = may.wired })
        (seated_on c b v roots s m may.seated Passed cut_at.No passed)

    pub freed : (is_over (walk_left m) ≡ false → t ≡ m)
        → (is_over (walk_left m) ≡ true → (r : Reply) → owed_by m.decided m.replies ≡ r ∷ [] → HasEnded c b r m.cut m t)
        → IsSeated c b roots t → HasFreed c b v roots s t
    freed on ended seated =
        record {
          on = λ going. subst (λ (x : Seat C). WentOn v Passed cut_at.No s x) (sym (on (ap is_over passed.walk ∙ going))) passed;
          ended = λ over r owed. ended_from r cut_at.No
              (ended (ap is_over passed.walk ∙ over) r (ap (λ (x : Seat C). owed_by x.decided x.replies) passed.same ∙ owed))
              (ap (λ (x : Seat C). x.number) passed.same) (ap (λ (x : Seat C). x.caller) passed.same)
              (ap (λ (x : Seat C). x.cut) passed.same) (ap (λ (x : Seat C). x.transfer) passed.same);
          seated = seated;
        }

  -- the settle of a refused transfer ends its walk
  module _ (errno : Errno) (journal : JournalView) (may : MayRefuse c b roots errno journal s) (on : HasSettled v (Some errno) s m) where
    fits : (r : Reply) → owed_by m.decided m.replies ≡ r ∷ [] → Fits s.transfer r
    fits r owed =
        let same : reply.Err errno ∷ [] ≡ r ∷ [] = sym on.owed ∙ owed in
        let first : reply.Err errno ≡ r = cc in
        subst (Fits s.transfer) first tt

    pub may_end_refused : MayEnd c b roots m
    may_end_refused =
        subst (λ (x : Seat C). ((r : Reply) → owed_by x.decided x.replies ≡ r ∷ [] → Fits s.transfer r) → IsSeated c b roots x
        → MayEnd c b roots x) (sym on.same)
        (λ fits seated. record { seated = seated; fits = λ r owed. (may.asked, fits r owed); wired = may.wired })
        fits (seated_settled c b v roots s m may.seated (Some errno) on)

    pub refused : (is_over (walk_left m) ≡ true → (r : Reply) → owed_by m.decided m.replies ≡ r ∷ [] → HasEnded c b r m.cut m t)
        → HasEnded c b (reply.Err errno) cut_at.No s t
    refused ended =
        ended_from (reply.Err errno) cut_at.No
        (ended (ap is_over (on.walk ∙ ap (λ (w : WalkTree). behind_of v w Passed) may.lone)) (reply.Err errno) on.owed)
        (ap (λ (x : Seat C). x.number) on.same) (ap (λ (x : Seat C). x.caller) on.same) (ap (λ (x : Seat C). x.cut) on.same)
        (ap (λ (x : Seat C). x.transfer) on.same)
