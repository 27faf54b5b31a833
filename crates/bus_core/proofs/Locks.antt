-- A lock that is taken, and one that is freed.
use Rattle.bus_core.proofs.Cited.{◌≡◌, ℕ, ◌+◌, ◌-◌, ◌≤◌, Bool, true, false, List, [], ◌∷◌, ◌++◌, set, Option, Some, None, refl}
use Rattle.bus_core.proofs.Cited.{sym, ◌∙◌, ap, subst, slice_get, LockId, Cut, BoardView, is_over, walk_for, Reply}
use Rattle.bus_core.proofs.Cited.{TransferView, Take, Free, Passed, WalkTree, Ends, root_ports, with_place, begun_with, Place}
use Rattle.bus_core.proofs.Cited.{CoreKept, has_reply, behind_of, going-asks, room-one, holder_in, with_holder, roots_of, IsSeated}
use Rattle.bus_core.proofs.Cited.{IsKept, ComesAt, HasStepped, walk_left, owed_by, got_by, place_of, RepliesView, reply_decided, Decided}
use Rattle.bus_core.proofs.Cited.{WentOn, MayEnd, HasFreed, HasEnded, CoreInside, Seat, over_ends}
use Rattle.bus_core.proofs.Cited.{◌<◌, arith, MOST_CALLERS, IsLockIn, take-wants, Act, run_of, whole_of}
use Rattle.std.specs.Prelude.{Result, Ok, Err, OnOk, IfErr}
use Rattle.i2c_base.specs.declared.caller.Caller.{Ghosts as CallerGhosts}
use Rattle.i2c_base.specs.declared.entry.Entry.TheVariants as entry
use Rattle.i2c_base.specs.declared.reply.Cut.TheVariants as cut_at
use Rattle.bus_core.specs.State.{setups_of}
use Rattle.ports.specs.declared.port.Port.{Ghosts as PortGhosts}
use Rattle.core_laws.specs.Behind.{passed}
use Rattle.seg_locks.specs.Locks.{IsBelowHeld}
use Rattle.core_laws.proofs.Laws.{core-taken, core-freed, core-ended, core-finished, end-owes, free-wants, going-fits}
use Rattle.bus_core.proofs.Reseating.{seated_on}
use Rattle.bus_core.proofs.Kept.{standing, fair, place-here, seated-here, number-small, asks-here, wired-here, one-kept}

-- who stands at a place is one
pub same_seat : {C : Type 0} (seats : List (Seat C)) (place : ℕ) (s t : Seat C) → slice_get seats place ≡ Some s
    → slice_get seats place ≡ Some t → s ≡ t
same_seat seats place s t at to = (let f : Some s ≡ Some t = sym at ∙ to in cc)

-- a lock that nobody has is given
pub is_given : {A B : Type 0} (Q : Type 0) (R : B → Type 0) (r : Result A B) → OnOk r Q → IfErr r R → ((h : B) → R h → ⊥) → Q
is_given Q R (Ok a) good bad none = good
is_given Q R (Err h) good bad none = absurd (none h bad)

-- where a seat went on, all that is told of its caller is as before but for its walk and its cut
pub went-place : {C S : Type 0} (c : CallerGhosts C S) (s t : Seat C) (w : WalkTree) (cut : Cut)
    → t ≡ record s { walk = t.walk; cut = cut } → walk_left t ≡ w
    → place_of c t ≡ record (place_of c s) { tree = w; cut = cut }
went-place c s t w cut same walk =
    ap (place_of c) same ∙ ap (λ (y : WalkTree). record (place_of c s) { tree = y; cut = cut }) (sym (ap walk_left same) ∙ walk)

-- two that tell the same are the same
pub same_place : (p q : Place) → p.number ≡ q.number → p.taken ≡ q.taken → p.owed ≡ q.owed → p.transfer ≡ q.transfer → p.tree ≡ q.tree
    → p.sent ≡ q.sent → p.got ≡ q.got → p.cut ≡ q.cut → p ≡ q
same_place p q number taken owed transfer tree sent got cut = λ i. record {
  number = number i;
  taken = taken i;
  owed = owed i;
  transfer = transfer i;
  tree = tree i;
  sent = sent i;
  got = got i;
  cut = cut i;
}

-- what is owed is one reply
pub one-owed : (o : Option Decided) (rs : RepliesView) → has_reply (owed_by o rs) ≡ true → (r : Reply) × (owed_by o rs ≡ r ∷ [])
one-owed None rs e = absurd (let f : false ≡ true = e in cc)
one-owed (Some d) rs e = (reply_decided d rs, refl)

-- after its end a seat shows its next transfer, or that there is none
module _ {C S : Type 0} (c : CallerGhosts C S) (b : BoardView) (r : Reply) (s t : Seat C) (ended : HasEnded c b r cut_at.No s t) where
  pub ended-place : (replies : List Reply) → replies ≡ c.taken s.caller ++ r ∷ [] → (x : TransferView) (w : WalkTree) → t.transfer ≡ x
      → walk_left t ≡ w
      → place_of c t ≡ begun_with (place_of c s) replies x w
  ended-place replies are x w transfer tree =
      same_place (place_of c t) (begun_with (place_of c s) replies x w) ended.number (ended.handed.taken ∙ sym are)
      (ap (λ (o : Option Decided). owed_by o t.replies) ended.loaded.undecided) transfer tree ended.loaded.sent
      (ap (λ (o : Option Decided). got_by o t.replies) ended.loaded.undecided ∙ ended.loaded.unread) ended.cut_is

-- there is room for the entry of the step that comes next
pub room-here : {P C S : Type 0} {g : PortGhosts P} {c : CallerGhosts C S} {x : CoreInside P C} {place : ℕ} {act : Act} → IsKept g c x
    → ComesAt x place act → 1 ≤ x.journal.room
room-here {g = g} {c = c} {x = x} {place = place} {act = act} kept comes =
    room-one (run_of g c x) (whole_of g c x kept.held kept.owes) kept.kept place (place_of c comes.seat)
    (place-here g c x kept place comes.seat comes.here) act comes.next

-- A LOCK IS TAKEN
module _ {P C S : Type 0} {g : PortGhosts P} {c : CallerGhosts C S} {x : CoreInside P C} {place : ℕ} {l : LockId}
    (kept : IsKept g c x) (comes : ComesAt x place (Take l)) where
  open comes use {seat as s, here, next as first}
  open standing g c x kept place s here use {run, whole, p, at, ls, n}

  -- what is asked of a caller that takes it
  pub take-asked : (number : ℕ) → number ≡ s.number → IsLockIn x.locks l × (number < MOST_CALLERS) × IsBelowHeld x.locks number l
  take-asked number is =
      let wants = take-wants run whole kept.kept place p at l first in (
        wants.0,
        subst (λ (k : ℕ). k < MOST_CALLERS) (sym is) (number-small g c x kept place s here),
        subst (λ (k : ℕ). IsBelowHeld x.locks k l) (sym is) wants.2,
      )

  module _ (free : holder_in x.locks l ≡ None) (new : CoreInside P C) (t : Seat C) (same_board : new.board ≡ x.board)
      (seats : new.seats.items ≡ set x.seats.items place t)
      (went : WentOn x.locks Passed cut_at.No s t) (locks : new.locks ≡ with_holder x.locks l (Some s.number))
      (ports : new.ports ≡ x.ports)
      (entries : new.journal.entries ≡ x.journal.entries ++ entry.Take s.number l ∷ []) (room : new.journal.room + 1 ≡ x.journal.room)
      (room_bytes : new.journal.room_bytes + 0 ≡ x.journal.room_bytes) (start : new.start ≡ x.start) (places : new.places ≡ x.places) where
    seated : IsSeated c x.board (roots_of x.ports.items) t
    seated = seated_on c x.board x.locks (roots_of x.ports.items) s t (seated-here g c x kept place s here) Passed cut_at.No went

    core : CoreKept run (record (with_place whole place (passed whole p) (l ∷ ls) (n - 1)) {
      past = entry.Take s.number l ∷ whole.past;
      locks = with_holder x.locks l (Some s.number);
      room = new.journal.room;
    })
    core = core-taken run (fair g c x kept) whole kept.kept place p ls n
        (standing g c x kept place s here).stands new.journal.room l first free (sym room)

    pub take-kept : IsKept g c new × HasStepped g c place x new
    take-kept =
        let bytes : new.journal.room_bytes ≡ x.journal.room_bytes = omega (arith, room_bytes) in
        one-kept g c x kept place s here new t same_board seats (ap (λ (y : Seat C). y.number) went.same)
        (ap (λ (y : Seat C). c.script y.caller) went.same) (ap (λ (y : _). setups_of g.setup y.items) ports) seated _ core
        (entry.Take s.number l) entries refl room refl bytes
        (ap (set whole.places place) (went-place c s t _ cut_at.No went.same went.walk)) locks
        (ap (λ (y : _). root_ports g y.items) ports) start places refl refl

-- A LOCK IS FREED
module _ {P C S : Type 0} {g : PortGhosts P} {c : CallerGhosts C S} {x : CoreInside P C} {place : ℕ} {l : LockId}
    (kept : IsKept g c x) (comes : ComesAt x place (Free l)) where
  open comes use {seat as s, here, next as first}
  open standing g c x kept place s here use {run, whole, p, at, ls, n}

  -- what is asked of a caller that frees it
  pub free-asked : (number : ℕ) → number ≡ s.number
      → IsLockIn x.locks l × (number < MOST_CALLERS) × (holder_in x.locks l ≡ Some number)
  free-asked number is =
      let wants = free-wants run whole kept.kept place p at l first in (
        wants.0,
        subst (λ (k : ℕ). k < MOST_CALLERS) (sym is) (number-small g c x kept place s here),
        wants.1 ∙ ap Some (sym is),
      )

  pub free-may : MayEnd c x.board (roots_of x.ports.items) s
  free-may = record {
    seated = seated-here g c x kept place s here;
    fits = λ r owed. (
      sym (asks-here g c x kept place s here (c.taken s.caller))
          ∙ going-asks run whole kept.kept place p at (Free l) first,
      going-fits run whole kept.kept place p at (Free l) first r owed,
    );
    wired = λ rs t. wired-here g c x kept place s here rs t;
  }

  -- its number stays, whether its walk goes on or has ended
  pub freed-number : (t : Seat C) → HasFreed c x.board x.locks (roots_of x.ports.items) s t → t.number ≡ s.number
  freed-number t freed = by (is_over (behind_of x.locks (walk_left s) Passed)) refl
    where
      by : (over : Bool) → is_over (behind_of x.locks (walk_left s) Passed) ≡ over → t.number ≡ s.number
      by true ends = (let owed = one-owed s.decided s.replies (end-owes run whole kept.kept place p at l first ends) in
          (freed.ended ends owed.0 owed.1).number)
      by false goes = ap (λ (y : Seat C). y.number) (freed.on goes).same

  module _ (new : CoreInside P C) (t : Seat C) (same_board : new.board ≡ x.board) (seats : new.seats.items ≡ set x.seats.items place t)
      (freed : HasFreed c x.board x.locks (roots_of x.ports.items) s t) (locks : new.locks ≡ with_holder x.locks l None)
      (ports : new.ports ≡ x.ports)
      (entries : new.journal.entries ≡ x.journal.entries ++ entry.Free s.number l ∷ []) (room : new.journal.room + 1 ≡ x.journal.room)
      (room_bytes : new.journal.room_bytes + 0 ≡ x.journal.room_bytes)
      (start : new.start ≡ x.start) (places : new.places ≡ x.places) where
    by-whole : t.number ≡ s.number → c.script t.caller ≡ c.script s.caller → (q : Place) → place_of c t ≡ q
        → (ks : List LockId) (m : ℕ)
        → CoreKept run (record (with_place whole place q ks m) {
          past = entry.Free s.number l ∷ whole.past;
          locks = with_holder x.locks l None;
          room = new.journal.room;
        })
        → IsKept g c new × HasStepped g c place x new
    by-whole number script q is ks m core =
        let bytes : new.journal.room_bytes ≡ x.journal.room_bytes = omega (arith, room_bytes) in
        one-kept g c x kept place s here new t same_board seats number script (ap (λ (y : _). setups_of g.setup y.items) ports) freed.seated _ core
        (entry.Free s.number l) entries refl room refl bytes (ap (set whole.places place) is) locks
        (ap (λ (y : _). root_ports g y.items) ports) start places refl refl

    freed-on : is_over (behind_of x.locks (walk_left s) Passed) ≡ false → IsKept g c new × HasStepped g c place x new
    freed-on goes =
        let went = freed.on goes in
        by-whole (ap (λ (y : Seat C). y.number) went.same) (ap (λ (y : Seat C). c.script y.caller) went.same) (passed whole p)
        (went-place c s t _ cut_at.No went.same went.walk) _ _
        (core-freed run (fair g c x kept) whole kept.kept place p ls n
        (standing g c x kept place s here).stands new.journal.room l first goes (sym room))

    freed-ended : is_over (behind_of x.locks (walk_left s) Passed) ≡ true → IsKept g c new × HasStepped g c place x new
    freed-ended ends =
        let owed = one-owed s.decided s.replies (end-owes run whole kept.kept place p at l first ends) in
        let its = freed.ended ends owed.0 owed.1 in
        let replies : c.taken t.caller ≡ c.taken s.caller ++ owed_by s.decided s.replies = its.handed.taken
        ∙ ap (λ (rs : List Reply). c.taken s.caller ++ rs) (sym owed.1) in
        let asks : c.asked (c.script t.caller) (c.taken t.caller) ≡ run.asks s.number (c.taken s.caller ++ owed_by s.decided s.replies) =
        ap (λ (z : S). c.asked z (c.taken t.caller)) its.handed.script ∙ ap (λ (rs : List Reply). c.asked (c.script s.caller) rs) replies
        ∙ sym (asks-here g c x kept place s here _) in
        by (c.asked (c.script t.caller) (c.taken t.caller)) refl asks owed its
      where
        by : (o : Option TransferView) → c.asked (c.script t.caller) (c.taken t.caller) ≡ o
            → c.asked (c.script t.caller) (c.taken t.caller) ≡ run.asks s.number (c.taken s.caller ++ owed_by s.decided s.replies)
            → (owed : (r : Reply) × (owed_by s.decided s.replies ≡ r ∷ [])) → HasEnded c x.board owed.0 cut_at.No s t
            → IsKept g c new × HasStepped g c place x new
        by (Some y) is asks owed its =
            by-whole its.number its.handed.script (begun_with p (p.taken ++ p.owed) y (walk_for x.board y))
            (ended-place c x.board owed.0 s t its (p.taken ++ p.owed) (ap (λ (rs : List Reply). c.taken s.caller ++ rs) owed.1) y
            (walk_for x.board y) (its.loaded.some y is).0 (its.loaded.some y is).1) _ _
            (core-ended run (fair g c x kept) whole kept.kept place p ls n
            (standing g c x kept place s here).stands new.journal.room l first ends owed.0 owed.1 (sym room) y (sym asks ∙ is))
        by None is asks owed its =
            by-whole its.number its.handed.script (begun_with p (p.taken ++ p.owed) p.transfer Ends)
            (ended-place c x.board owed.0 s t its (p.taken ++ p.owed)
            (ap (λ (rs : List Reply). c.taken s.caller ++ rs) owed.1) p.transfer Ends (its.stays is)
            (over_ends (walk_left t) (its.loaded.none is))) _ _
            (core-finished run (fair g c x kept) whole kept.kept place p ls n
            (standing g c x kept place s here).stands new.journal.room l first ends owed.0 owed.1 (sym room) (sym asks ∙ is))

    pub free-kept : IsKept g c new × HasStepped g c place x new
    free-kept = by (is_over (behind_of x.locks (walk_left s) Passed)) refl
      where
        by : (over : Bool) → is_over (behind_of x.locks (walk_left s) Passed) ≡ over
            → IsKept g c new × HasStepped g c place x new
        by true e = freed-ended e
        by false e = freed-on e
