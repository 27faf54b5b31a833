-- Callers that step one after the other: what comes of what, which schedule the journal keeps to, and that all are
-- through where all are held up.
use Rattle.bus_core.proofs.Cited.{◌≡◌, ℕ, zero, suc, ◌+◌, ◌<◌, Bool, true, false, IsTrue, List, [], ◌∷◌, ◌++◌, length, reverse, get_or}
use Rattle.bus_core.proofs.Cited.{Option, Some, None, refl, sym, ◌∙◌, ap, subst, arith, inl, inr, slice_get, drop, if◌then◌else◌}
use Rattle.bus_core.proofs.Cited.{option_map_or, eqb_tells, reverse-append, slice_get_within, Entry, Reply, BoardView, MOST_CALLERS}
use Rattle.bus_core.proofs.Cited.{IsPlainBoard, MeetsRules, is_over, first_act, seen, now, begun, current, caller_of, IsStepwise, WalkTree}
use Rattle.bus_core.proofs.Cited.{Ends, Look, Then, CallerTold, IsStuck, IsHeldUp, Place, Whole, IsFairRun, spot_of, slots_of, holder_in}
use Rattle.bus_core.proofs.Cited.{asks_in, run_of, whole_of, IsCore, HasCome, HasTurn, walk_left, place_of, script_of, scripts_of}
use Rattle.bus_core.proofs.Cited.{script_at, asks_of, AreHeldUpBelow, HasMade, HasWaited, KeepsSchedule, AllThrough, state_of, CoreInside}
use Rattle.bus_core.proofs.Cited.{Seat, over_ends, there, map_from, map_at, seen_of}
use Rattle.std.proofs.lemmas.List.{append-nil}
use Rattle.i2c_base.specs.declared.caller.Caller.{Ghosts as CallerGhosts}
use Rattle.ports.specs.declared.port.Port.{Ghosts as PortGhosts}
use Rattle.i2c_spec.specs.History.{Asks}
use Rattle.bus_spec.specs.Past.{Now, step}
use Rattle.bus_spec.specs.Schedule.{Turn, past_after}
use Rattle.bus_laws.specs.Coming.{IsTurn}
use Rattle.bus_laws.specs.Following.{KeepsTo}
use Rattle.bus_laws.specs.Others.{ahead}
use Rattle.bus_laws.specs.Reach.{AsksForMessages}
use Rattle.bus_laws.proofs.Laws.{does-next}
use Rattle.bus_laws.proofs.past.Others.{others-stay}
use Rattle.core_laws.proofs.Laws.{all-finished, asks-finished, finished-over}
use Rattle.core_laws.specs.Core.{trees_of}
use Rattle.bus_core.specs.Ready.{AllHeldUp}
use Rattle.bus_core.proofs.Advances.{stuck-by}
use Rattle.bus_core.proofs.Kept.{fair, place-here}
use Rattle.bus_core.proofs.Locks.{same_seat}

-- who asks for nothing has a walk that is over
pub silent-ends : (b : BoardView) (callers : ℕ) (asks : Asks) (c : ℕ) → ((rs : List Reply) → asks c rs ≡ None) → (past : List Entry)
    → IsStepwise b callers asks past
    → ahead b asks (now b asks past) c ≡ Ends
silent-ends b callers asks c silent [] steps = ap (begun b) (silent [])
silent-ends b callers asks c silent (e ∷ past) steps =
    let was = silent-ends b callers asks c silent past steps.1 in
    let n : Now = now b asks past in
    elim (eqb_tells c (caller_of e)) [
      | inl same ↦ (let act = does-next b callers asks n e steps.0 in
          let none : first_act (current b asks n (caller_of e)) ≡ None = ap (λ (d : ℕ). first_act (current b asks n d)) (sym same.1)
          ∙ ap (λ (w : WalkTree). first_act (seen n.slot w)) was in
          absurd (let f : None ≡ Some act.0 = sym none ∙ act.1 in cc))
      | inr other ↦ (let told : CallerTold b asks (step b asks n e) c (ahead b asks n c) (n.settled c) (n.got c) (n.cut c) =
          others-stay b asks n e c (ahead b asks n c) (n.settled c) (n.got c) (n.cut c) other.1
          (record { walk = refl; settled = refl; got_is = refl; cut_is = refl }) in
          told.walk ∙ was)
    ]

-- what is ahead is over only where the walk is
pub walk-ended : (b : BoardView) (asks : Asks) (n : Now) (c : ℕ) → ahead b asks n c ≡ Ends → n.walk c ≡ Ends
walk-ended b asks n c h = by (n.walk c) refl h
  where
    by : (w : WalkTree) → n.walk c ≡ w → (if is_over w then begun b (asks c (n.settled c)) else w) ≡ Ends → w ≡ Ends
    by Ends e is = refl
    by (Look ask next) e is = is
    by (Then act note next) e is = is

-- a place within a list has something
pub not-beyond : {X : Type 0} (xs : List X) (k : ℕ) → k < length xs → slice_get xs k ≡ None → ⊥
not-beyond xs k low at = (let t = there xs k low in let f : Some t.0 ≡ None = sym t.1 ∙ at in cc)

-- a number that no caller has
pub script-none : {S : Type 0} (scripts : List (ℕ × S)) (n : ℕ) → ((i : ℕ) (s : S) → slice_get scripts i ≡ Some (n, s) → ⊥)
    → script_at scripts n ≡ None
script-none [] n none = refl
script-none (x ∷ xs) n none =
    let rest = script-none xs n (λ i s at. none (suc i) s at) in
    elim (eqb_tells x.0 n) [
      | inl is ↦ absurd (none zero x.1 (ap (λ (k : ℕ). Some (k, x.1)) is.1))
      | inr other ↦ rw (other.0) rest
    ]

-- what comes of what comes
pub come-refl : {P C S : Type 0} (g : PortGhosts P) (c : CallerGhosts C S) (x : CoreInside P C) → HasCome g c x x
come-refl g c x = record { board = refl; start = refl; scripts = refl; setups = refl; places = refl; counted = refl }

pub come-then : {P C S : Type 0} (g : PortGhosts P) (c : CallerGhosts C S) (x y z : CoreInside P C) → HasCome g c x y → HasCome g c y z
    → HasCome g c x z
come-then g c x y z a b =
    record {
      board = b.board ∙ a.board;
      start = b.start ∙ a.start;
      scripts = b.scripts ∙ a.scripts;
      setups = b.setups ∙ a.setups;
      places = b.places ∙ a.places;
      counted = b.counted ∙ a.counted;
    }

module _ {P C S : Type 0} (g : PortGhosts P) (c : CallerGhosts C S) (x : CoreInside P C) (core : IsCore g c x) where
  abbrev b : BoardView
  b = x.board

  abbrev asks : Asks
  asks = asks_in c x

  abbrev past : List Entry
  past = reverse x.journal.entries

  run_fair : IsFairRun (run_of g c x)
  run_fair = fair g c x core.kept

  -- a number without a place is nobody's
  silent : (n : ℕ) → slice_get x.places.items n ≡ Some None → (rs : List Reply) → asks n rs ≡ None
  silent n none rs =
      ap (λ (o : Option S). option_map_or (λ s. c.asked s rs) o None)
      (script-none (scripts_of c x.seats.items) n (λ i s at. let f : Some None ≡ Some (Some i) = sym none ∙ core.placed.named i n s at in
      cc))

  pub stuck-below : (least place : ℕ) → slice_get x.places.items least ≡ Some (Some place) → AreHeldUpBelow x least → IsTrue g.tells
      → (m : ℕ) → m < least → IsStuck b asks past m
  stuck-below least place is before tell m low = by (slice_get x.places.items m) refl
    where
      by : (o : Option (Option ℕ)) → slice_get x.places.items m ≡ o → IsStuck b asks past m
      by (Some (Some q)) at = (let up = before m low q at in stuck-by g c x core.kept core.placed m q at up.seat up.here up.waits tell)
      by (Some None) at = inr (ap (λ (w : WalkTree). first_act (seen (now b asks past).slot w))
          (silent-ends b MOST_CALLERS asks m (silent m at) past (core.kept.kept.told tell).stepwise))
      by None at = absurd (let here = slice_get_within x.places.items least (Some place) is in
          not-beyond x.places.items m (omega (arith, low, here)) at)

  -- the journal keeps to a schedule over a step of the least caller, and over a word's
  module _ (caller : ℕ) (new : CoreInside P C) (made : HasMade g c caller x new) where
    past-is : (t : HasTurn b asks caller x.journal.entries new.journal.entries) → reverse new.journal.entries ≡ past_after past t.turn
    past-is t = ap reverse t.entries ∙ reverse-append x.journal.entries t.turn.entries

    moved : (words : List ℕ) (from : List Entry) (left : List ℕ) (t : HasTurn b asks caller x.journal.entries new.journal.entries)
        → KeepsTo b MOST_CALLERS asks words from left (past_after past t.turn)
        → KeepsTo new.board MOST_CALLERS (asks_in c new) words from left (reverse new.journal.entries)
    moved words from left t keeps =
        subst (λ (y : BoardView). KeepsTo y MOST_CALLERS (asks_in c new) words from left (reverse new.journal.entries))
        (sym made.come.board)
        (subst (λ (ss : List (ℕ × S)). KeepsTo b MOST_CALLERS (asks_of c.asked ss) words from left (reverse new.journal.entries))
        (sym made.come.scripts)
        (subst (λ (y : List Entry). KeepsTo b MOST_CALLERS asks words from left y) (sym (past-is t)) keeps))

    pub least-keeps : ((words : List ℕ) (from old : List Entry) → IsPlainBoard b → MeetsRules b → AsksForMessages asks
        → IsStepwise b MOST_CALLERS asks old → (now b asks old).due ≡ None
        → (t : Turn) → IsTurn b MOST_CALLERS asks old t → ((d : ℕ) → d < t.caller → IsStuck b asks old d)
        → KeepsTo b MOST_CALLERS asks words from [] old → KeepsTo b MOST_CALLERS asks words from [] (past_after old t))
        → (place : ℕ) → slice_get x.places.items caller ≡ Some (Some place) → AreHeldUpBelow x caller → (words : List ℕ) (from : List Entry)
        → KeepsSchedule g c words from [] x → KeepsSchedule g c words from [] new
    least-keeps law place is before words from keeps tell =
        let t = made.turn tell in
        let told = core.kept.kept.told tell in
        moved words from [] t (law words from past run_fair.plain run_fair.rules run_fair.sends told.stepwise told.rests t.turn t.comes
        (λ d low. stuck-below caller place is before tell d (subst (λ (k : ℕ). d < k) t.own low)) (keeps tell))

    pub word-keeps : ((words : List ℕ) (from old : List Entry) → IsPlainBoard b → MeetsRules b → AsksForMessages asks
        → IsStepwise b MOST_CALLERS asks old → (now b asks old).due ≡ None
        → (t : Turn) → IsTurn b MOST_CALLERS asks old t → (left : List ℕ) → KeepsTo b MOST_CALLERS asks words from (t.caller ∷ left) old
        → KeepsTo b MOST_CALLERS asks words from left (past_after old t))
        → (words : List ℕ) (from : List Entry) (left : List ℕ) → KeepsSchedule g c words from (caller ∷ left) x
        → KeepsSchedule g c words from left new
    word-keeps law words from left keeps tell =
        let t = made.turn tell in
        let told = core.kept.kept.told tell in
        moved words from left t
        (law words from past run_fair.plain run_fair.rules run_fair.sends told.stepwise told.rests t.turn t.comes left
        (subst (λ (k : ℕ). KeepsTo b MOST_CALLERS asks words from (k ∷ left) past) (sym t.own) (keeps tell)))

  -- ALL ARE THROUGH where all are held up
  module _ (up : AllHeldUp x) where
    abbrev whole : Whole
    whole = whole_of g c x core.kept.held core.kept.owes

    held-up : (i : ℕ) (w : WalkTree) → slice_get (trees_of whole.places) i ≡ Some w
        → IsHeldUp (holder_in x.locks) (slots_of (seen_of x.locks)) w
    held-up i w at =
        let p = map_from (λ (y : Place). y.tree) whole.places i w at in
        let s = map_from (place_of c) x.seats.items i p.0 p.1 in
        let its = up s.0.number i (core.placed.named i s.0.number (c.script s.0.caller) (map_at (script_of c) x.seats.items i s.0 s.1)) in
        let same : its.seat ≡ s.0 = same_seat x.seats.items i its.seat s.0 its.here s.1 in
        subst (IsHeldUp (holder_in x.locks) (slots_of (seen_of x.locks))) (ap walk_left same ∙ ap (λ (y : Place). y.tree) s.2
        ∙ p.2) its.waits

    pub all-through : AllThrough c.asked g.tells (state_of g c x)
    all-through i n taken at =
        let s = map_from (λ (y : Seat C). (y.number, c.taken y.caller)) x.seats.items i (n, taken) at in
        let here = place-here g c x core.kept i s.0 s.1 in
        let done = all-finished (run_of g c x) whole core.kept.kept held-up i (place_of c s.0) here in
        let number : s.0.number ≡ n = ap (λ (y : ℕ × List Reply). y.0) s.2 in
        let replies : c.taken s.0.caller ≡ taken = ap (λ (y : ℕ × List Reply). y.1) s.2 in
        let over : walk_left s.0 ≡ Ends = over_ends (walk_left s.0)
        (finished-over (run_of g c x) whole core.kept.kept i (place_of c s.0) here
        (asks-finished (run_of g c x) whole core.kept.kept i (place_of c s.0) here done.0)) in
        let told : (tell : IsTrue g.tells)
        → CallerTold b asks (now b asks past) s.0.number (walk_left s.0) (c.taken s.0.caller ++ (place_of c s.0).owed)
        (place_of c s.0).got s.0.cut =
        (λ tell. (core.kept.kept.told tell).spots_told i (spot_of (place_of c s.0))
        (map_at spot_of whole.places i (place_of c s.0) here)) in
        record {
          asks = subst (λ (k : ℕ). asks k taken ≡ None) number (subst (λ (rs : List Reply). asks s.0.number rs ≡ None) replies done.0);
          walk = λ tell. subst (λ (k : ℕ). (now b asks past).walk k ≡ Ends) number
              (walk-ended b asks (now b asks past) s.0.number ((told tell).walk ∙ over));
          settled = λ tell. ap (λ (k : ℕ). (now b asks past).settled k) (sym number) ∙ (told tell).settled
              ∙ ap (λ (rs : List Reply). c.taken s.0.caller ++ rs) done.1 ∙ append-nil (c.taken s.0.caller) ∙ replies;
        }

  -- a caller that waits is passed over
  pub waited-keeps : ((words : List ℕ) (from old : List Entry) → IsPlainBoard b → MeetsRules b → AsksForMessages asks
      → IsStepwise b MOST_CALLERS asks old
      → (w : ℕ) → IsStuck b asks old w → (left : List ℕ) → KeepsTo b MOST_CALLERS asks words from (w ∷ left) old
      → KeepsTo b MOST_CALLERS asks words from left old)
      → (caller : ℕ) (new : CoreInside P C) → HasWaited g c caller x new
      → (words : List ℕ) (from : List Entry) (left : List ℕ) → KeepsSchedule g c words from (caller ∷ left) x
      → KeepsSchedule g c words from left new
  waited-keeps law caller new waited words from left keeps =
      subst (λ (y : CoreInside P C). KeepsSchedule g c words from left y) (sym waited.same)
      (λ tell. law words from past run_fair.plain run_fair.rules run_fair.sends (core.kept.kept.told tell).stepwise caller
      (waited.stuck tell) left (keeps tell))

  -- a word of the schedule: its caller steps, or is passed over
  pub stepped-or-waited : ((words : List ℕ) (from old : List Entry) → IsPlainBoard b → MeetsRules b → AsksForMessages asks
      → IsStepwise b MOST_CALLERS asks old → (now b asks old).due ≡ None
      → (t : Turn) → IsTurn b MOST_CALLERS asks old t → (left : List ℕ) → KeepsTo b MOST_CALLERS asks words from (t.caller ∷ left) old
      → KeepsTo b MOST_CALLERS asks words from left (past_after old t))
      → ((words : List ℕ) (from old : List Entry) → IsPlainBoard b → MeetsRules b → AsksForMessages asks
      → IsStepwise b MOST_CALLERS asks old
      → (w : ℕ) → IsStuck b asks old w → (left : List ℕ) → KeepsTo b MOST_CALLERS asks words from (w ∷ left) old
      → KeepsTo b MOST_CALLERS asks words from left old)
      → (caller : ℕ) (new : CoreInside P C) (made : Bool) → (made ≡ true → HasMade g c caller x new)
      → (made ≡ false → HasWaited g c caller x new)
      → (words : List ℕ) (from : List Entry) (left : List ℕ) → KeepsSchedule g c words from (caller ∷ left) x
      → HasCome g c x new × KeepsSchedule g c words from left new
  stepped-or-waited steps passes caller new true made waited words from left keeps = (
    (made refl).come,
    word-keeps caller new (made refl) steps words from left keeps,
  )
  stepped-or-waited steps passes caller new false made waited words from left keeps = (
    subst (λ (y : CoreInside P C). HasCome g c x y) (sym (waited refl).same) (come-refl g c x),
    waited-keeps passes caller new (waited refl) words from left keeps,
  )

-- the words that are left
pub drop-next : (xs : List ℕ) (i : ℕ) → i < length xs → drop i xs ≡ get_or xs i 0 ∷ drop (i + 1) xs
drop-next xs i low = subst (λ (k : ℕ). drop i xs ≡ get_or xs i 0 ∷ drop k xs) (let e : suc i ≡ i + 1 = omega arith in e) (by xs i low)
  where
    by : (ys : List ℕ) (k : ℕ) → k < length ys → drop k ys ≡ get_or ys k 0 ∷ drop (suc k) ys
    by [] k low = absurd (omega (arith, low))
    by (y ∷ ys) zero low = refl
    by (y ∷ ys) (suc k) low = by ys k (omega (arith, low))
