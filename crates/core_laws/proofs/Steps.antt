-- One step of one caller keeps what is told of all. No induction.
use Rattle.core_laws.proofs.Cited.{◌≡◌, ℕ, zero, suc, ◌<◌, Bool, true, false, cond, List, [], ◌∷◌, ◌++◌, length, set, Option, Some, None}
use Rattle.core_laws.proofs.Cited.{eqb, refl, sym, ◌∙◌, ap, subst, inl, inr, arith, slice_get, slice_index_or, eqb_tells, get_or-set_other}
use Rattle.core_laws.proofs.Cited.{length-set, append-nil, LockId, Entry, Reply, BoardView, buses, home_of_mux, IsTree, IsPlainBoard, Asks}
use Rattle.core_laws.proofs.Cited.{Take, Free, Settle, Passed, WalkTree, Slots, mark_in, seen, is_over, first_act, rest_of, is_lock}
use Rattle.core_laws.proofs.Cited.{caller_of, cut_told, Now, begun, current, now, step, IsNext, reply_by, Errno, LinesAreLocked}
use Rattle.core_laws.proofs.Cited.{AsksForMessages, at_same, slots_of, ahead, IsLockOf, LocksView, holder_in, with_holder, seen_of, Spot}
use Rattle.core_laws.proofs.Cited.{SpotTold, IsTold, AreNumbered, RootPort, set_elsewhere}
use Rattle.std.proofs.lemmas.List.{get_or-set_same}
use Rattle.i2c_base.specs.declared.ids.LockId.TheVariants as lock
use Rattle.i2c_base.specs.declared.entry.Entry.TheVariants as entry
use Rattle.i2c_base.specs.declared.reply.Cut.TheVariants as cut_at
use Rattle.bus_spec.specs.Stepwise.{May}
use Rattle.bus_laws.proofs.past.Ready.{takes-below}
use Rattle.bus_laws.proofs.past.Others.{others-stay}
use Rattle.i2c_base.specs.declared.reply.Cut.{Cut}
use Rattle.core_laws.specs.Spots.{LocksTold, PortTold}

pub set_here : {X : Type 0} (xs : List X) (i : ℕ) (x y : X) → slice_get (set xs i x) i ≡ Some y → x ≡ y
set_here [] i x y h = absurd (let f : None ≡ Some y = h in cc)
set_here (z ∷ zs) zero x y h = (let f : Some x ≡ Some y = h in cc)
set_here (z ∷ zs) (suc i) x y h = set_here zs i x y h

-- ALL CALLERS where one of them has made an entry: its own spot is new, the others' are as they were
pub spots-kept : (b : BoardView) (callers : ℕ) (asks : Asks) (n : Now) (e : Entry) (spots : List Spot) → AreNumbered callers spots
    → ((i : ℕ) (x : Spot) → slice_get spots i ≡ Some x → SpotTold b asks n x)
    → (place : ℕ) (x new : Spot) → slice_get spots place ≡ Some x → caller_of e ≡ x.number → SpotTold b asks (step b asks n e) new
    → (i : ℕ) (y : Spot) → slice_get (set spots place new) i ≡ Some y → SpotTold b asks (step b asks n e) y
spots-kept b callers asks n e spots numbered told place x new here own told_new i y at =
    elim (eqb_tells i place) [
      | inl h ↦ subst (λ (z : Spot). SpotTold b asks (step b asks n e) z)
          (set_here spots place new y (subst (λ (k : ℕ). slice_get (set spots place new) k ≡ Some y) h.1 at)) told_new
      | inr h ↦ (let was : slice_get spots i ≡ Some y = sym (set_elsewhere spots place i new h.1) ∙ at in
          others-stay b asks n e y.number y.tree (y.taken ++ y.owed) y.got y.cut
          (λ same. h.1 (numbered.once i place y x was here (same ∙ own))) (told i y was))
    ]

-- what is left of a walk that goes on is ahead of its caller
pub own-ahead : (b : BoardView) (asks : Asks) (m : Now) (c : ℕ) (w : WalkTree) → m.walk c ≡ w → is_over w ≡ false → ahead b asks m c ≡ w
own-ahead b asks m c w here goes =
    ap (λ (x : WalkTree). cond (is_over x) (begun b (asks c (m.settled c))) x) here
    ∙ ap (λ (t : Bool). cond t (begun b (asks c (m.settled c))) w) goes

-- THE LOCK WORDS: one of them is set
pub word_set : (ws : List (Option ℕ)) (r s : ℕ) (who : Option ℕ) → r < length ws
    → slice_index_or (set ws r who) s None ≡ cond (eqb r s) who (slice_index_or ws s None)
word_set ws r s who low =
    elim (eqb_tells r s) [
      | inl h ↦ ap (λ (k : ℕ). slice_index_or (set ws r who) k None) (sym h.1) ∙ get_or-set_same ws r who None low
          ∙ ap (λ (t : Bool). cond t who (slice_index_or ws s None)) (sym h.0)
      | inr h ↦ get_or-set_other ws r s who None (λ e. h.1 (sym e)) ∙ ap (λ (t : Bool). cond t who (slice_index_or ws s None)) (sym h.0)
    ]

pub held-now : (b : BoardView) (n : Now) (v : LocksView) → LocksTold b n v → (l : LockId) → IsLockOf b l → (who : Option ℕ) (k : LockId)
    → IsLockOf b k
    → holder_in (with_holder v l who) k ≡ cond (is_lock l k) who (n.holder k)
held-now b n v told (lock.Bus r) is who (lock.Bus s) also =
    word_set v.roots r s who (let low : length v.roots ≡ length b.roots = told.roots in omega (arith, low, is))
    ∙ ap (λ (o : Option ℕ). cond (eqb r s) who o) (told.holder (lock.Bus s) also)
held-now b n v told (lock.Bus r) is who (lock.Mux q) also = told.holder (lock.Mux q) also
held-now b n v told (lock.Mux p) is who (lock.Bus s) also = told.holder (lock.Bus s) also
held-now b n v told (lock.Mux p) is who (lock.Mux q) also =
    word_set v.buses p q who (let low : length v.buses ≡ buses b = told.muxes in omega (arith, low, is))
    ∙ ap (λ (o : Option ℕ). cond (eqb p q) who o) (told.holder (lock.Mux q) also)

locks-set : (b : BoardView) (n m : Now) (v : LocksView) → LocksTold b n v → (l : LockId) → IsLockOf b l → (who : Option ℕ)
    → ((k : LockId) → m.holder k ≡ cond (is_lock l k) who (n.holder k)) → m.slot ≡ n.slot → LocksTold b m (with_holder v l who)
locks-set b n m v told (lock.Bus r) is who holders slots =
    record {
      roots = length-set v.roots r who ∙ told.roots;
      muxes = told.muxes;
      holder = λ k also. held-now b n v told (lock.Bus r) is who k also ∙ sym (holders k);
      mark = λ p. ap (λ (f : Slots). mark_in (f p).slot) slots ∙ told.mark p;
      kept = λ m. ap (λ (f : Slots). (f (home_of_mux b m)).kept m) slots ∙ told.kept m;
    }
locks-set b n m v told (lock.Mux p) is who holders slots =
    record {
      roots = told.roots;
      muxes = length-set v.buses p who ∙ told.muxes;
      holder = λ k also. held-now b n v told (lock.Mux p) is who k also ∙ sym (holders k);
      mark = λ q. ap (λ (f : Slots). mark_in (f q).slot) slots ∙ told.mark q;
      kept = λ m. ap (λ (f : Slots). (f (home_of_mux b m)).kept m) slots ∙ told.kept m;
    }

-- a settle leaves the locks and the ports as they were
pub locks-settled : (b : BoardView) (asks : Asks) (n : Now) (v : LocksView) (c : ℕ) (r : Reply) (cut : Cut) → LocksTold b n v
    → LocksTold b (step b asks n (entry.Settle c r cut)) v
locks-settled b asks n v c r cut told =
    record { roots = told.roots; muxes = told.muxes; holder = told.holder; mark = told.mark; kept = told.kept }

pub ports-settled : (b : BoardView) (asks : Asks) (n : Now) (c : ℕ) (r : Reply) (cut : Cut) (y : RootPort) → PortTold n y
    → PortTold (step b asks n (entry.Settle c r cut)) y
ports-settled b asks n c r cut y told = record { world = told.world; log = told.log }

-- the caller at a place, and what the journal tells of it
pub record SpotHere (b : BoardView) (asks : Asks) (callers : ℕ) (x : Spot) : Type 0 where
  pub n : Now
  pub c : ℕ
  pub own : SpotTold b asks n x
  pub known : c < callers

abbrev pub spot-told : (b : BoardView) (asks : Asks) (callers : ℕ) (past : List Entry) (spots : List Spot) (v : LocksView)
    (sockets : List RootPort) (due : Option ℕ) → IsTold b callers asks past spots v sockets due → AreNumbered callers spots
    → (place : ℕ) (x : Spot) → slice_get spots place ≡ Some x → SpotHere b asks callers x
spot-told b asks callers past spots v sockets due told numbered place x here =
    record { n = now b asks past; c = x.number; own = told.spots_told place x here; known = numbered.below place x here }

-- THE STEPS
module _ (b : BoardView) (tree : IsTree b) (plain : IsPlainBoard b) (lines : LinesAreLocked b) (asks : Asks) (some : AsksForMessages asks)
    (callers : ℕ) (past : List Entry) (spots : List Spot) (v : LocksView) (sockets : List RootPort)
    (told : IsTold b callers asks past spots v sockets None) (numbered : AreNumbered callers spots) (place : ℕ) (x : Spot)
    (here : slice_get spots place ≡ Some x)
    (sees : seen (now b asks past).slot x.tree ≡ seen (slots_of (seen_of v)) x.tree) where
  open spot-told b asks callers past spots v sockets None told numbered place x here use {n, c, own, known}

  -- the lock words answer its looks
  current-is : current b asks n c ≡ seen (slots_of (seen_of v)) x.tree
  current-is = ap (seen n.slot) own.walk ∙ sees

  module _ (w : WalkTree) (is : w ≡ rest_of (seen (slots_of (seen_of v)) x.tree) Passed) (goes : is_over w ≡ false) where
    abbrev behind : Spot
    behind = record x { tree = w; cut = cut_at.No }

    walk-is : (e : Entry) → (step b asks n e).walk c ≡ rest_of (current b asks n c) Passed → (step b asks n e).walk c ≡ w
    walk-is e f = f ∙ ap (λ (t : WalkTree). rest_of t Passed) current-is ∙ sym is

    -- A LOCK IS TAKEN that nobody has
    pub told-take : (l : LockId) → IsLockOf b l → first_act (seen (slots_of (seen_of v)) x.tree) ≡ Some (Take l) → holder_in v l ≡ None
        → IsTold b callers asks (entry.Take c l ∷ past) (set spots place behind) (with_holder v l (Some c)) sockets None
    told-take l there first free =
        let e : Entry = entry.Take c l in
        let next : IsNext b asks n c (Take l) = ap (λ (t : WalkTree). first_act t) current-is ∙ first in
        let may : May b callers asks n e = (
          known,
          told.rests,
          next,
          sym (told.locks_told.holder l there)
              ∙ free,
          takes-below b tree plain lines asks some callers past told.stepwise c l next,
        ) in
        record {
          stepwise = (may, told.stepwise);
          rests = told.rests;
          spots_told = spots-kept b callers asks n e spots numbered told.spots_told place x behind here refl
              (record {
                walk = own-ahead b asks (step b asks n e) c w (walk-is e (at_same n.walk c (rest_of (current b asks n c) Passed))) goes;
                settled = own.settled;
                got_is = own.got_is;
                cut_is = at_same n.cut c (cut_told e);
              });
          locks_told = locks-set b n (step b asks n e) v told.locks_told l there (Some c) (λ k. refl) refl;
          ports_told = λ k y at. record { world = (told.ports_told k y at).world; log = (told.ports_told k y at).log };
        }

    -- A LOCK IS FREED
    pub told-free : (l : LockId) → IsLockOf b l → first_act (seen (slots_of (seen_of v)) x.tree) ≡ Some (Free l)
        → IsTold b callers asks (entry.Free c l ∷ past) (set spots place behind) (with_holder v l None) sockets None
    told-free l there first =
        let e : Entry = entry.Free c l in
        let next : IsNext b asks n c (Free l) = ap (λ (t : WalkTree). first_act t) current-is ∙ first in
        record {
          stepwise = ((known, told.rests, next), told.stepwise);
          rests = told.rests;
          spots_told = spots-kept b callers asks n e spots numbered told.spots_told place x behind here refl
              (record {
                walk = own-ahead b asks (step b asks n e) c w (walk-is e (at_same n.walk c (rest_of (current b asks n c) Passed))) goes;
                settled = own.settled;
                got_is = own.got_is;
                cut_is = at_same n.cut c (cut_told e);
              });
          locks_told = locks-set b n (step b asks n e) v told.locks_told l there None (λ k. refl) refl;
          ports_told = λ k y at. record { world = (told.ports_told k y at).world; log = (told.ports_told k y at).log };
        }

  -- a walk that ends: the reply is handed over, and what is asked for next is ahead
  module _ (w : WalkTree) (is : w ≡ rest_of (seen (slots_of (seen_of v)) x.tree) Passed) (ends : is_over w ≡ true) (new : WalkTree) where
    begun-ahead : (m : Now) (replies : List Reply) → m.walk c ≡ w → m.settled c ≡ replies → new ≡ begun b (asks c replies)
        → ahead b asks m c ≡ new
    begun-ahead m replies here settled loads =
        ap (λ (y : WalkTree). cond (is_over y) (begun b (asks c (m.settled c))) y) here
        ∙ ap (λ (t : Bool). cond t (begun b (asks c (m.settled c))) w) ends
        ∙ ap (λ (rs : List Reply). begun b (asks c rs)) settled
        ∙ sym loads

    ended-is : (e : Entry) → (step b asks n e).walk c ≡ rest_of (current b asks n c) Passed → (step b asks n e).walk c ≡ w
    ended-is e f = f ∙ ap (λ (t : WalkTree). rest_of t Passed) current-is ∙ sym is

    -- THE LAST LOCK IS FREED
    pub told-end : (l : LockId) → IsLockOf b l → first_act (seen (slots_of (seen_of v)) x.tree) ≡ Some (Free l)
        → new ≡ begun b (asks c (x.taken ++ x.owed))
        → IsTold b callers asks (entry.Free c l ∷ past)
        (set spots place (record x { tree = new; taken = x.taken ++ x.owed; owed = []; cut = cut_at.No }))
        (with_holder v l None) sockets None
    told-end l there first loads =
        let e : Entry = entry.Free c l in
        let next : IsNext b asks n c (Free l) = ap (λ (t : WalkTree). first_act t) current-is ∙ first in
        record {
          stepwise = ((known, told.rests, next), told.stepwise);
          rests = told.rests;
          spots_told = spots-kept b callers asks n e spots numbered told.spots_told place x
              (record x { tree = new; taken = x.taken ++ x.owed; owed = []; cut = cut_at.No }) here refl
              (record {
                walk = begun-ahead (step b asks n e) (x.taken ++ x.owed)
                    (ended-is e (at_same n.walk c (rest_of (current b asks n c) Passed))) own.settled loads;
                settled = own.settled ∙ sym (append-nil (x.taken ++ x.owed));
                got_is = own.got_is;
                cut_is = at_same n.cut c (cut_told e);
              });
          locks_told = locks-set b n (step b asks n e) v told.locks_told l there None (λ k. refl) refl;
          ports_told = λ k y at. record { world = (told.ports_told k y at).world; log = (told.ports_told k y at).log };
        }

    -- A TRANSFER IS REFUSED: its lone settle is its walk
    pub told-lone : (verdict : Option Errno) → first_act (seen (slots_of (seen_of v)) x.tree) ≡ Some (Settle verdict) → x.owed ≡ []
        → (r : Reply) → r ≡ reply_by verdict (asks c x.taken) x.got
        → new ≡ begun b (asks c (x.taken ++ r ∷ []))
        → IsTold b callers asks (entry.Settle c r x.cut ∷ past)
        (set spots place (record x { tree = new; taken = x.taken ++ r ∷ []; owed = []; got = []; cut = cut_at.No })) v sockets None
    told-lone verdict first none r decided loads =
        let e : Entry = entry.Settle c r x.cut in
        let next : IsNext b asks n c (Settle verdict) = ap (λ (t : WalkTree). first_act t) current-is ∙ first in
        let settled : n.settled c ≡ x.taken = own.settled ∙ ap (λ (rs : List Reply). x.taken ++ rs) none ∙ append-nil x.taken in
        let more : (step b asks n e).settled c ≡ x.taken ++ r ∷ [] = at_same n.settled c (n.settled c ++ r ∷ [])
        ∙ ap (λ (rs : List Reply). rs ++ r ∷ []) settled in
        record {
          stepwise = (
            (
              known,
              inl told.rests,
              verdict,
              next,
              decided
                  ∙ ap (λ (rs : List Reply). reply_by verdict (asks c rs) x.got) (sym settled)
                  ∙ ap (reply_by verdict (asks c (n.settled c))) (sym own.got_is),
              sym own.cut_is,
            ),
            told.stepwise,
          );
          rests = refl;
          spots_told = spots-kept b callers asks n e spots numbered told.spots_told place x
              (record x { tree = new; taken = x.taken ++ r ∷ []; owed = []; got = []; cut = cut_at.No }) here refl
              (record {
                walk = begun-ahead (step b asks n e) (x.taken ++ r ∷ [])
                    (ended-is e (at_same n.walk c (rest_of (current b asks n c) Passed))) more loads;
                settled = more ∙ sym (append-nil (x.taken ++ r ∷ []));
                got_is = at_same n.got c [];
                cut_is = at_same n.cut c (cut_told e);
              });
          locks_told = locks-settled b asks n v c r x.cut told.locks_told;
          ports_told = λ k y at. ports-settled b asks n c r x.cut y (told.ports_told k y at);
        }
