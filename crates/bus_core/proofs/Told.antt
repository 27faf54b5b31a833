-- The state of a core, read off what it keeps.
use Rattle.bus_core.proofs.Cited.{◌≡◌, ℕ, zero, suc, Bool, true, false, IsTrue, List, [], ◌∷◌, ◌++◌, map, reverse, Option, Some, None, inl}
use Rattle.bus_core.proofs.Cited.{inr, refl, sym, ◌∙◌, ap, subst, arith, slice_get, if◌then◌else◌, eqb_tells, LockId, Reply, BoardView}
use Rattle.bus_core.proofs.Cited.{World, CallerTold, IsStuck, over_ends, first_act, current, root_port, next-same, take-wants, Place}
use Rattle.bus_core.proofs.Cited.{spot_of, next_of, holder_in, HasAdded, WaitsFor, HasUsedUp, IsLeast, IsOverIn, AreLooked, asks_in}
use Rattle.bus_core.proofs.Cited.{roots_of, run_of, whole_of, IsKept, IsCore, ArePlaced, HasStepped, HasCome, walk_left, owed_by, place_of}
use Rattle.bus_core.proofs.Cited.{places_of, script_of, scripts_of, HasPlace, HasMade, RepliesView, reply_decided, CoreState, CoreTold}
use Rattle.bus_core.proofs.Cited.{has_caller, logs_of, roots_in, state_of, IsBlockedAt, HasEndedAt, CoreInside, Decided, Seat, StepAnswer}
use Rattle.bus_core.proofs.Cited.{map_from, map_at, get_or, slice_get_within, GoesOnBy, AllThrough}
use Rattle.std.proofs.Common.{append-nil}
use Rattle.std.specs.Option.{is_some}
use Rattle.i2c_base.specs.declared.caller.Caller.{Ghosts as CallerGhosts}
use Rattle.i2c_base.specs.declared.port.PortCall.{PortCall}
use Rattle.bus_core.proofs.SetupsStay.{roots-stay}
use Rattle.ports.specs.declared.port.Port.{Ghosts as PortGhosts}
use Rattle.core_laws.proofs.Laws.{finished-asks, free-ready, holder-same}
use Rattle.bus_core.specs.Opens.{IsOpenedWith, opening_of, uncalled}
use Rattle.bus_core.specs.Ready.{IsLeastReady}
use Rattle.bus_core.specs.State.{AreHanded, now_in, worlds_of}
use Rattle.bus_core.specs.declared.steps.StepAnswer.TheVariants as answer
use Rattle.bus_core.proofs.Advances.{numbered, over-none, has-made}
use Rattle.bus_core.proofs.Kept.{place-here}
use Rattle.bus_core.proofs.Locks.{same_seat}
use Rattle.bus_core.proofs.Loops.{come-refl, stuck-below, walk-ended}
use Rattle.bus_core.proofs.SeatLemmas.{number_read}

-- a number that a caller has stands at a place
pub has-at : {S : Type 0} (scripts : List (ℕ × S)) (n : ℕ) → has_caller scripts n ≡ true
    → (i : ℕ) × (s : S) × (slice_get scripts i ≡ Some (n, s))
has-at [] n h = absurd (let f : false ≡ true = h in cc)
has-at (x ∷ xs) n h =
    elim (eqb_tells x.0 n) [
      | inl is ↦ (zero, x.1, ap (λ (k : ℕ). Some (k, x.1)) is.1)
      | inr other ↦ (let r = has-at xs n (sym (ap (λ (t : Bool). if t then true else has_caller xs n) other.0) ∙ h) in (suc r.0, r.1, r.2))
    ]

pub has-by : {S : Type 0} (scripts : List (ℕ × S)) (i n : ℕ) (s : S) → slice_get scripts i ≡ Some (n, s) → has_caller scripts n ≡ true
has-by [] i n s h = absurd (let f : None ≡ Some (n, s) = h in cc)
has-by (x ∷ xs) zero n s h =
    let f : Some x ≡ Some (n, s) = h in
    let is : x ≡ (n, s) = cc in
    elim (eqb_tells x.0 n) [
      | inl same ↦ ap (λ (t : Bool). if t then true else has_caller xs n) same.0
      | inr other ↦ absurd (other.1 (ap (λ (y : ℕ × _). y.0) is))
    ]
has-by (x ∷ xs) (suc i) n s h =
    elim (eqb_tells x.0 n) [
      | inl same ↦ ap (λ (t : Bool). if t then true else has_caller xs n) same.0
      | inr other ↦ ap (λ (t : Bool). if t then true else has_caller xs n) other.0 ∙ has-by xs i n s h
    ]

pub roots-told : {P : Type 0} (world : P → World) (ports : List (ℕ × P))
    → map (λ (w : ℕ × World). w.0) (worlds_of world ports) ≡ roots_of ports
roots-told world [] = refl
roots-told world (p ∷ ps) = ap (λ (rs : List ℕ). p.0 ∷ rs) (roots-told world ps)

-- ports with empty logs
pub uncalled-told : {P : Type 0} (log : P → List PortCall) (ports : List (ℕ × P))
    → ((k : ℕ) (x : ℕ × P) → slice_get ports k ≡ Some x → log x.1 ≡ []) → logs_of log ports ≡ uncalled ports
uncalled-told log [] none = refl
uncalled-told log (p ∷ ps) none =
    ap (λ (calls : List PortCall). (p.0, calls) ∷ logs_of log ps) (none zero p refl)
    ∙ ap (λ (ls : List (ℕ × List PortCall)). (p.0, []) ∷ ls) (uncalled-told log ps (λ k x at. none (suc k) x at))

-- what a core was opened with
pub opened-with : {P C S : Type 0} (g : PortGhosts P) (c : CallerGhosts C S) (b : BoardView) (ports : List (ℕ × P)) (callers : List (ℕ × C))
    (limit : ℕ) (x : CoreInside P C)
    → IsOpenedWith g c b ports callers limit x → (state_of g c x).opening ≡ opening_of g c b ports callers
opened-with g c b ports callers limit x is =
    ap (λ (k : BoardView). record (state_of g c x).opening { board = k }) is.board
    ∙ ap (λ (ss : List (ℕ × _)). record (state_of g c x).opening { board = b; scripts = ss }) is.scripts
    ∙ ap (λ (ps : List (ℕ × _)). record (opening_of g c b ports callers) { worlds = worlds_of g.world ps }) is.start

-- what came of a core was opened with the same, and its ports are set up the same, with the same roots
module _ {P C S : Type 0} (g : PortGhosts P) (c : CallerGhosts C S) (old new : CoreInside P C) (come : HasCome g c old new) where
  pub opening-same : (state_of g c new).opening ≡ (state_of g c old).opening
  opening-same =
      ap (λ (b : BoardView). record (state_of g c new).opening { board = b }) come.board
      ∙ ap (λ (ss : List (ℕ × S)). record (state_of g c new).opening { board = old.board; scripts = ss }) come.scripts
      ∙ ap (λ (y : _). record (state_of g c old).opening { worlds = worlds_of g.world y.value.items }) come.start

  pub roots-same : roots_in (state_of g c new) ≡ roots_in (state_of g c old)
  roots-same = roots-told g.world new.ports.items ∙ roots-stay g.setup old.ports.items new.ports.items come.setups ∙ sym (roots-told g.world old.ports.items)

-- a step that was made, or wasn't
pub came-by : {P C S : Type 0} (g : PortGhosts P) (c : CallerGhosts C S) (x new : CoreInside P C) (core : IsCore g c x) (caller place : ℕ)
    → slice_get x.places.items caller ≡ Some (Some place)
    → (r : StepAnswer) → (r ≡ answer.Stepped → HasStepped g c place x new) → ((l : LockId) (h : ℕ) → r ≡ answer.Blocked l h → new ≡ x)
    → (r ≡ answer.Finished → new ≡ x) → HasCome g c x new
came-by g c x new core caller place at answer.Stepped stepped blocked finished =
    (has-made g c x core.kept core.placed caller place at new (stepped refl)).come
came-by g c x new core caller place at (answer.Blocked l h) stepped blocked finished = subst (λ (y : CoreInside _ _). HasCome g c x y)
    (sym (blocked l h refl)) (come-refl g c x)
came-by g c x new core caller place at answer.Finished stepped blocked finished = subst (λ (y : CoreInside _ _). HasCome g c x y)
    (sym (finished refl)) (come-refl g c x)

pub core-after : {P C S : Type 0} (g : PortGhosts P) (c : CallerGhosts C S) (x new : CoreInside P C) → IsCore g c x → IsKept g c new
    → AreLooked new.locks new.seats.items → HasCome g c x new → IsCore g c new
core-after g c x new core kept looked come = record {
  kept = kept;
  looked = looked;
  placed = subst (λ (y : _). ArePlaced y.items (scripts_of c new.seats.items)) (sym come.places)
      (subst (ArePlaced x.places.items) (sym come.scripts) core.placed);
}

pub added : {P C S : Type 0} (g : PortGhosts P) (c : CallerGhosts C S) (x new : CoreInside P C) (caller : ℕ) → HasMade g c caller x new
    → HasAdded c.asked g.tells caller (state_of g c x) (state_of g c new)
added g c x new caller made = record { room = made.room; turn = made.turn }

-- what is owed is at most one reply
handed : (d : Option Decided) (r : RepliesView) (taken settled : List Reply) → settled ≡ taken ++ owed_by d r → AreHanded taken settled
handed None r taken settled is = inl (is ∙ append-nil taken)
handed (Some d) r taken settled is = inr (reply_decided d r, is)

module _ {P C S : Type 0} (g : PortGhosts P) (c : CallerGhosts C S) (x : CoreInside P C) (core : IsCore g c x) where
  abbrev state : CoreState S
  state = state_of g c x

  abbrev b : BoardView
  b = x.board

  -- THE PORTS AND THE JOURNAL are as it tells
  pub core-told : IsTrue g.tells → CoreTold c.asked state
  core-told tell =
      let told = core.kept.kept.told tell in
      record {
        stepwise = told.stepwise;
        rests = told.rests;
        taken = λ k n rs at.
            let s = map_from (λ (y : Seat C). (y.number, c.taken y.caller)) x.seats.items k (n, rs) at in
            let spot : CallerTold b (asks_in c x) (now_in c.asked state) s.0.number (walk_left s.0)
            (c.taken s.0.caller ++ (place_of c s.0).owed) (place_of c s.0).got s.0.cut =
            told.spots_told k (spot_of (place_of c s.0))
            (map_at spot_of (places_of c x.seats.items) k (place_of c s.0) (place-here g c x core.kept k s.0 s.1)) in
            subst (λ (m : ℕ). AreHanded rs ((now_in c.asked state).settled m)) (ap (λ (y : ℕ × List Reply). y.0) s.2)
            (subst (λ (ys : List Reply). AreHanded ys ((now_in c.asked state).settled s.0.number)) (ap (λ (y : ℕ × List Reply). y.1) s.2)
            (handed s.0.decided s.0.replies (c.taken s.0.caller) ((now_in c.asked state).settled s.0.number) spot.settled));
        locks = told.locks_told;
        worlds = λ k r w at.
            let q = map_from (λ (p : ℕ × P). (p.0, g.world p.1)) x.ports.items k (r, w) at in
            let its = told.ports_told k (root_port g q.0) (map_at (root_port g) x.ports.items k q.0 q.1) in
            sym (ap (λ (z : ℕ × World). z.1) q.2) ∙ its.world
            ∙ ap (λ (n : ℕ). (now_in c.asked state).worlds n) (ap (λ (z : ℕ × World). z.0) q.2);
        logs = λ k r log at.
            let q = map_from (λ (p : ℕ × P). (p.0, g.log p.1)) x.ports.items k (r, log) at in
            let its = told.ports_told k (root_port g q.0) (map_at (root_port g) x.ports.items k q.0 q.1) in
            sym (ap (λ (z : ℕ × List PortCall). z.1) q.2) ∙ its.log
            ∙ ap (λ (n : ℕ). reverse ((now_in c.asked state).calls n)) (ap (λ (z : ℕ × List PortCall). z.0) q.2);
      }

  pub placed-of : (n : ℕ) → has_caller (scripts_of c x.seats.items) n ≡ true → HasPlace x.places.items n
  placed-of n has = (let t = has-at (scripts_of c x.seats.items) n has in record { place = t.0; at = core.placed.named t.0 n t.1 t.2 })

  -- what was read at the place of the numbers that a caller has
  pub placed-read : {v : CoreState S} → state ≡ v → (n : ℕ) → has_caller v.opening.scripts n ≡ true → {m : ℕ} → m ≡ n
      → {r o : Option ℕ} → r ≡ get_or x.places.items m r → r ≡ o → slice_get x.places.items n ≡ Some o
  placed-read is n has from read told =
      let place = placed-of n (subst (λ (u : CoreState S). has_caller u.opening.scripts n ≡ true) (sym is) has) in
      number_read x.places.items from (slice_get_within x.places.items n (Some place.place) place.at) read told

  pub never-none : {v : CoreState S} → state ≡ v → (n : ℕ) → has_caller v.opening.scripts n ≡ true → {m : ℕ} → m ≡ n
      → {r : Option ℕ} → r ≡ get_or x.places.items m r → r ≡ None → ⊥
  never-none is n has from read told =
      let place = placed-of n (subst (λ (u : CoreState S). has_caller u.opening.scripts n ≡ true) (sym is) has) in
      let f : Some None ≡ Some (Some place.place) = sym (placed-read is n has from read told) ∙ place.at in
      cc

  pub of-placed : (n place : ℕ) → slice_get x.places.items n ≡ Some (Some place) → has_caller (scripts_of c x.seats.items) n ≡ true
  of-placed n place at = (let s = core.placed.there n place at in has-by (scripts_of c x.seats.items) place n s.0 s.1)

  none : (n : ℕ) → (has_caller (scripts_of c x.seats.items) n ≡ true → ⊥) → false ≡ has_caller (scripts_of c x.seats.items) n
  none n not = by (has_caller (scripts_of c x.seats.items) n) refl
    where
      by : (t : Bool) → has_caller (scripts_of c x.seats.items) n ≡ t → false ≡ has_caller (scripts_of c x.seats.items) n
      by true is = absurd (not is)
      by false is = sym is

  -- a number that has a place, or hasn't
  pub placed-is : (n : ℕ) (p : Option ℕ) → slice_get x.places.items n ≡ Some p → is_some p ≡ has_caller (scripts_of c x.seats.items) n
  placed-is n (Some q) at = sym (of-placed n q at)
  placed-is n None at = none n (λ has. let p = placed-of n has in let f : Some None ≡ Some (Some p.place) = sym at ∙ p.at in cc)

  pub unplaced : (n : ℕ) → slice_get x.places.items n ≡ None → false ≡ has_caller (scripts_of c x.seats.items) n
  unplaced n at = none n (λ has. let p = placed-of n has in let f : None ≡ Some (Some p.place) = sym at ∙ p.at in cc)

  module _ (caller place : ℕ) (at : slice_get x.places.items caller ≡ Some (Some place)) where
    -- a walk that is over: its caller asks for nothing more
    pub used-up : HasEndedAt x place → HasUsedUp c.asked state caller
    used-up e i taken told =
        let s = map_from (λ (y : Seat C). (y.number, c.taken y.caller)) x.seats.items i (caller, taken) told in
        let number : s.0.number ≡ caller = ap (λ (y : ℕ × List Reply). y.0) s.2 in
        let mine : slice_get x.places.items caller ≡ Some (Some i) =
        subst (λ (k : ℕ). slice_get x.places.items k ≡ Some (Some i)) number
        (core.placed.named i s.0.number (c.script s.0.caller) (map_at (script_of c) x.seats.items i s.0 s.1)) in
        let same : i ≡ place = (let f : Some (Some i) ≡ Some (Some place) = sym mine ∙ at in cc) in
        let here = subst (λ (k : ℕ). slice_get x.seats.items k ≡ Some s.0) same s.1 in
        let over = subst (λ (y : Seat C). next_of x.locks (walk_left y) ≡ None) (same_seat x.seats.items place e.seat s.0 e.here here)
        (over-none x.locks (walk_left e.seat) e.over) in
        let done = finished-asks (run_of g c x) (whole_of g c x core.kept.held core.kept.owes) core.kept.kept place (place_of c s.0)
        (place-here g c x core.kept place s.0 here) over in
        subst (λ (k : ℕ). asks_in c x k taken ≡ None) number
        (subst (λ (rs : List Reply). asks_in c x s.0.number rs ≡ None) (ap (λ (y : ℕ × List Reply). y.1) s.2) done.0)

    -- by the journal too it is over
    pub over-told : HasEndedAt x place → IsTrue g.tells → IsOverIn c.asked state caller
    over-told e tell =
        let p : Place = place_of c e.seat in
        let here = place-here g c x core.kept place e.seat e.here in
        let done = finished-asks (run_of g c x) (whole_of g c x core.kept.held core.kept.owes) core.kept.kept place (place_of c e.seat) here
        (over-none x.locks (walk_left e.seat) e.over) in
        let told : CallerTold b (asks_in c x) (now_in c.asked state) e.seat.number (walk_left e.seat)
        (c.taken e.seat.caller ++ (place_of c e.seat).owed) (place_of c e.seat).got e.seat.cut =
        (core.kept.kept.told tell).spots_told place (spot_of (place_of c e.seat))
        (map_at spot_of (places_of c x.seats.items) place (place_of c e.seat) here) in
        let settled : (now_in c.asked state).settled e.seat.number ≡ c.taken e.seat.caller = told.settled
        ∙ ap (λ (rs : List Reply). c.taken e.seat.caller ++ rs) done.1 ∙ append-nil (c.taken e.seat.caller) in
        subst (λ (n : ℕ). IsOverIn c.asked state n) (numbered g c x core.kept core.placed caller place at e.seat e.here)
        (record {
          walk = walk-ended b (asks_in c x) (now_in c.asked state) e.seat.number (told.walk ∙ over_ends (walk_left e.seat) e.over);
          asks = ap (asks_in c x e.seat.number) settled ∙ done.0;
        })

    -- a lock that another has
    pub waits-for : (l : LockId) (h : ℕ) → IsBlockedAt x place l h → WaitsFor c.asked g.tells state caller l h
    waits-for l h blocked =
        record {
          another = λ same.
              let wants = take-wants (run_of g c x) (whole_of g c x core.kept.held core.kept.owes) core.kept.kept place
              (place_of c blocked.comes.seat) (place-here g c x core.kept place blocked.comes.seat blocked.comes.here)
              l blocked.comes.next in
              let own : holder_in x.locks l ≡ Some blocked.comes.seat.number = blocked.held
              ∙ ap Some (same ∙ sym (numbered g c x core.kept core.placed caller place at blocked.comes.seat blocked.comes.here)) in
              let low = wants.2 l own in omega (arith, low);
          held = blocked.held;
          told = λ tell.
              holder-same (run_of g c x) (whole_of g c x core.kept.held core.kept.owes) core.kept.kept tell place
              (place_of c blocked.comes.seat) (place-here g c x core.kept place blocked.comes.seat blocked.comes.here) l h blocked.held;
          next = λ tell.
              ap (λ (n : ℕ). first_act (current b (asks_in c x) (now_in c.asked state) n))
              (sym (numbered g c x core.kept core.placed caller place at blocked.comes.seat blocked.comes.here))
              ∙ next-same (run_of g c x) (whole_of g c x core.kept.held core.kept.owes) core.kept.kept tell place
              (place_of c blocked.comes.seat) (place-here g c x core.kept place blocked.comes.seat blocked.comes.here)
              ∙ blocked.comes.next;
        }

  -- the least that can make a step
  pub is-least : (n : ℕ) → IsLeastReady x n → IsLeast c.asked g.tells state n
  is-least n ready =
      record {
        has = of-placed n ready.place ready.at;
        can = λ tell stuck.
            free-ready (run_of g c x) (whole_of g c x core.kept.held core.kept.owes) core.kept.kept tell ready.place
            (place_of c ready.can.seat) (place-here g c x core.kept ready.place ready.can.seat ready.can.here)
            ready.can.act ready.can.next ready.can.free
            (subst (λ (k : ℕ). IsStuck b (asks_in c x) (reverse x.journal.entries) k)
            (sym (numbered g c x core.kept core.placed n ready.place ready.at ready.can.seat ready.can.here)) stuck);
        before = λ tell d low. stuck-below g c x core n ready.place ready.at ready.before tell d low;
      }

-- what a core tells after it went on by these words
pub went-by : {P C S : Type 0} (g : PortGhosts P) (c : CallerGhosts C S) (x new : CoreInside P C) (v : CoreState S) (words : List ℕ)
    → state_of g c x ≡ v → IsCore g c new → HasCome g c x new → AllThrough c.asked g.tells (state_of g c new)
    → (IsTrue g.tells → GoesOnBy words x.journal.entries new.journal.entries)
    → record {
      opening : (state_of g c new).opening ≡ v.opening;
      roots : roots_in (state_of g c new) ≡ roots_in v;
      setups : (state_of g c new).setups ≡ v.setups;
      told : IsTrue g.tells → CoreTold c.asked (state_of g c new);
      through : AllThrough c.asked g.tells (state_of g c new);
      follows : IsTrue g.tells → GoesOnBy words v.journal.entries new.journal.entries;
    }
went-by g c x new v words is core come through follows = record {
  opening = opening-same g c x new come ∙ ap (λ (u : CoreState _). u.opening) is;
  roots = roots-same g c x new come ∙ ap roots_in is;
  setups = come.setups ∙ ap (λ (u : CoreState _). u.setups) is;
  told = core-told g c new core;
  through = through;
  follows = λ tell. subst (λ (u : CoreState _). GoesOnBy words u.journal.entries new.journal.entries) is (follows tell);
}
