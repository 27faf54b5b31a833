-- A step of the caller at a place: its seat is another, with the same number and script, and all else that is kept stays.
use Rattle.bus_core.proofs.Cited.{◌≡◌, ℕ, zero, suc, ◌+◌, ◌<◌, ◌≤◌, Bool, true, false, IsTrue, List, [], ◌∷◌, ◌++◌, length, reverse, set}
use Rattle.bus_core.proofs.Cited.{Option, Some, None, refl, sym, ◌∙◌, ap, subst, arith, inl, inr, slice_get, if◌then◌else◌, option_map_or}
use Rattle.bus_core.proofs.Cited.{eqb_tells, Entry, LockId, Reply, BoardView, MOST_CALLERS, TransferView, buses, root_of, is_settle}
use Rattle.bus_core.proofs.Cited.{caller_of, IsStepwise, root_ports, Place, Run, IsFairRun, Whole, CoreKept, map-set}
use Rattle.bus_core.proofs.Cited.{length-append, set_same, at_set, locks-here, owes-here, stands-here, roots_of, IsSeated}
use Rattle.bus_core.proofs.Cited.{reverse-append}
use Rattle.bus_core.proofs.Cited.{asks_in, run_of, whole_of, IsKept, HasStepped, IsSetUp, HasRoot, place_of, places_of, script_of}
use Rattle.bus_core.proofs.Cited.{scripts_of, script_at, asks_of, CoreInside, Seat, map_at}
use Rattle.std.proofs.Common.{◌==◌}
use Rattle.i2c_base.specs.declared.caller.Caller.{Ghosts as CallerGhosts}
use Rattle.bus_core.specs.State.{setups_of}
use Rattle.bus_core.proofs.SetupsStay.{roots-stay}
use Rattle.ports.specs.declared.port.Port.{Ghosts as PortGhosts}
use Rattle.i2c_spec.specs.Cost.{cost_of}
use Rattle.i2c_spec.proofs.AddressLemmas.{tree_of}
use Rattle.bus_laws.proofs.Laws.{lines-locked}
use Rattle.core_laws.specs.Core.{StandsAt, numbers_of}
use Rattle.core_laws.proofs.Laws.{turn-one, turn-two}
use Rattle.bus_spec.specs.Legal.{is_stepping}
use Rattle.bus_spec.specs.Schedule.{Turn}
use Rattle.bus_laws.specs.Coming.{IsTurn}
use Rattle.bus_core.specs.Places.{left_of}

-- of what a number names: it is one of the scripts
pub script-found : {S : Type 0} (scripts : List (ℕ × S)) (n : ℕ) (s : S) → script_at scripts n ≡ Some s
    → (i : ℕ) × (m : ℕ) × (slice_get scripts i ≡ Some (m, s))
script-found [] n s h = absurd (let f : None ≡ Some s = h in cc)
script-found (x ∷ xs) n s h = by (x.0 == n) h (script-found xs n s)
  where
    by : (same : Bool) → (if same then Some x.1 else script_at xs n) ≡ Some s
        → (script_at xs n ≡ Some s → (i : ℕ) × (m : ℕ) × (slice_get xs i ≡ Some (m, s)))
        → (i : ℕ) × (m : ℕ) × (slice_get (x ∷ xs) i ≡ Some (m, s))
    by true is more = (0, x.0, (let f : Some x.1 ≡ Some s = is in let g : x.1 ≡ s = cc in ap (λ (y : _). Some (x.0, y)) g))
    by false is more = (let m = more is in (suc m.0, m.1, m.2))

module _ {C S : Type 0} (c : CallerGhosts C S) where
  -- each number names its own caller
  pub script-own : (seats : List (Seat C))
      → ((i k : ℕ) (s t : Seat C) → slice_get seats i ≡ Some s → slice_get seats k ≡ Some t → s.number ≡ t.number → i ≡ k)
      → (i : ℕ) (s : Seat C) → slice_get seats i ≡ Some s → script_at (scripts_of c seats) s.number ≡ Some (c.script s.caller)
  script-own [] once i s h = absurd (let f : None ≡ Some s = h in cc)
  script-own (y ∷ ys) once zero s h = by (y.number == s.number) refl
    where
      same : y ≡ s
      same = (let f : Some y ≡ Some s = h in cc)

      by : (b : Bool) → (y.number == s.number) ≡ b
          → (if b then Some (c.script y.caller) else script_at (scripts_of c ys) s.number) ≡ Some (c.script s.caller)
      by true e = ap (λ (z : Seat C). Some (c.script z.caller)) same
      by false e = elim (eqb_tells y.number s.number) [
        | inl is ↦ absurd (let f : false ≡ true = sym e ∙ is.0 in cc)
        | inr other ↦ absurd (other.1 (ap (λ (z : Seat C). z.number) same))
      ]
  script-own (y ∷ ys) once (suc i) s h = by (y.number == s.number) refl
      (script-own ys (λ j k s2 t2 at to is. let f : suc j ≡ suc k = once (suc j) (suc k) s2 t2 at to is in omega (arith, f)) i s h)
    where
      by : (b : Bool) → (y.number == s.number) ≡ b → script_at (scripts_of c ys) s.number ≡ Some (c.script s.caller)
          → (if b then Some (c.script y.caller) else script_at (scripts_of c ys) s.number) ≡ Some (c.script s.caller)
      by true e more = elim (eqb_tells y.number s.number) [
        | inl is ↦ absurd (let f : zero ≡ suc i = once zero (suc i) y s refl h is.1 in omega (arith, f))
        | inr other ↦ absurd (let f : false ≡ true = sym other.0 ∙ e in cc)
      ]
      by false e more = more

  same_scripts : (seats : List (Seat C)) (i : ℕ) (s t : Seat C) → slice_get seats i ≡ Some s → t.number ≡ s.number
      → c.script t.caller ≡ c.script s.caller
      → scripts_of c (set seats i t) ≡ scripts_of c seats
  same_scripts seats i s t here number script =
      let both : script_of c t ≡ script_of c s = (let e = number in let f = script in cc) in
      map-set (script_of c) seats i t ∙ ap (set (scripts_of c seats) i) both
      ∙ set_same (scripts_of c seats) i (script_of c s) (map_at (script_of c) seats i s here)

  -- who asks is one of the callers
  asked-by : (o : Option S) (rs : List Reply) (t : TransferView) → option_map_or (λ s. c.asked s rs) o None ≡ Some t
      → (s : S) × (o ≡ Some s) × (c.asked s rs ≡ Some t)
  asked-by None rs t h = absurd (let f : None ≡ Some t = h in cc)
  asked-by (Some s) rs t h = (s, refl, h)

-- THE RUN of an accepted board and fair callers is fair
module _ {C S : Type 0} (c : CallerGhosts C S) (tells : Bool) (b : BoardView) (scripts : List (ℕ × S)) (roots : List ℕ)
    (up : IsSetUp c.asked c.left c.board b scripts roots) where
  abbrev the_run : Run
  the_run = record { board = b; tells = tells; asks = asks_of c.asked scripts; left = left_of c.left scripts; callers = MOST_CALLERS }

  at-home : (n : ℕ) (s : S) → script_at scripts n ≡ Some s → c.board s ≡ b
  at-home n s h = (let f = script-found scripts n s h in up.home f.0 (f.1, s) f.2)

  pub fair-run : IsFairRun the_run
  fair-run = record {
    tree = tree_of b up.plain up.rules;
    plain = up.plain;
    rules = up.rules;
    lines = lines-locked b up.rules;
    sends = λ n rs t asks. let a = asked-by c (script_at scripts n) rs t asks in up.fair.sends a.0 rs t a.2;
    costs = λ n rs t asks.
        let a = asked-by c (script_at scripts n) rs t asks in
        subst (λ (x : BoardView). 1 ≤ cost_of x t) (at-home n a.0 a.1) (up.fair.costs a.0 rs t a.2);
    falls = λ n rs t r asks fits.
        let a = asked-by c (script_at scripts n) rs t asks in
        subst (λ (o : Option S). option_map_or (λ s. c.left s (rs ++ r ∷ [])) o 0 + cost_of b t ≤ option_map_or (λ s. c.left s rs) o 0)
        (sym a.1)
        (subst (λ (x : BoardView). c.left a.0 (rs ++ r ∷ []) + cost_of x t ≤ c.left a.0 rs) (at-home n a.0 a.1)
        (up.fair.falls a.0 rs t r a.2 fits));
  }

module _ {P C S : Type 0} (g : PortGhosts P) (c : CallerGhosts C S) (x : CoreInside P C) (kept : IsKept g c x) where
  abbrev board : BoardView
  board = x.board

  abbrev whole : Whole
  whole = whole_of g c x kept.held kept.owes

  pub fair : IsFairRun (run_of g c x)
  fair = fair-run c g.tells board (scripts_of c x.seats.items) (roots_of x.ports.items) kept.set_up

  once : (i k : ℕ) (s t : Seat C) → slice_get x.seats.items i ≡ Some s → slice_get x.seats.items k ≡ Some t → s.number ≡ t.number → i ≡ k
  once i k s t at to same =
      kept.kept.distinct i k t.number
      (subst (λ (n : ℕ). slice_get (numbers_of whole.places) i ≡ Some n) same
      (map_at (λ (p : Place). p.number) whole.places i (place_of c s) (map_at (place_of c) x.seats.items i s at)))
      (map_at (λ (p : Place). p.number) whole.places k (place_of c t) (map_at (place_of c) x.seats.items k t to))

  module _ (place : ℕ) (s : Seat C) (here : slice_get x.seats.items place ≡ Some s) where
    pub place-here : slice_get whole.places place ≡ Some (place_of c s)
    place-here = map_at (place_of c) x.seats.items place s here

    pub number-small : s.number < MOST_CALLERS
    number-small = kept.kept.below place (place_of c s) place-here

    script-here : script_at (scripts_of c x.seats.items) s.number ≡ Some (c.script s.caller)
    script-here = script-own c x.seats.items once place s here

    -- what it asks for is what its own caller asks for
    pub asks-here : (rs : List Reply) → asks_in c x s.number rs ≡ c.asked (c.script s.caller) rs
    asks-here rs = ap (λ (o : Option S). option_map_or (λ z. c.asked z rs) o None) script-here

    pub seated-here : IsSeated c board (roots_of x.ports.items) s
    seated-here = kept.seated place s here

    -- each root that it asks for has a port
    pub wired-here : (rs : List Reply) (t : TransferView) → c.asked (c.script s.caller) rs ≡ Some t → t.bus < buses board
        → HasRoot (roots_of x.ports.items) (root_of board t.bus)
    wired-here rs t asks = kept.set_up.wired place (script_of c s) rs t (map_at (script_of c) x.seats.items place s here) asks

    -- THE WHOLE with another seat at the place
    module _ (new : CoreInside P C) (t : Seat C) (same_board : new.board ≡ x.board) (seats : new.seats.items ≡ set x.seats.items place t)
        (number : t.number ≡ s.number) (script : c.script t.caller ≡ c.script s.caller)
        (setups : setups_of g.setup new.ports.items ≡ setups_of g.setup x.ports.items) where
      roots : roots_of new.ports.items ≡ roots_of x.ports.items
      roots = roots-stay g.setup x.ports.items new.ports.items setups

      new-scripts : scripts_of c new.seats.items ≡ scripts_of c x.seats.items
      new-scripts = ap (scripts_of c) seats ∙ same_scripts c x.seats.items place s t here number script

      kept-by : IsSeated c board (roots_of x.ports.items) t → (held : List (List LockId)) (owes : List ℕ)
          → CoreKept (run_of g c x) (record {
            past = reverse new.journal.entries;
            room = new.journal.room;
            room_bytes = new.journal.room_bytes;
            places = set whole.places place (place_of c t);
            held = held;
            owes = owes;
            locks = new.locks;
            sockets = root_ports g new.ports.items;
          }) → IsKept g c new
      kept-by seated held owes core = record {
        owes = owes;
        held = held;
        set_up = by_board (λ (b : BoardView). IsSetUp c.asked c.left c.board b (scripts_of c new.seats.items) (roots_of new.ports.items))
            (subst (λ (xs : List (ℕ × S)). IsSetUp c.asked c.left c.board board xs (roots_of new.ports.items)) (sym new-scripts)
            (subst (λ (rs : List ℕ). IsSetUp c.asked c.left c.board board (scripts_of c x.seats.items) rs) (sym roots) kept.set_up));
        kept = by_board (λ (b : BoardView). CoreKept (run_of g c (record new { board = b })) (behind (places_of c new.seats.items)))
            (subst (λ (xs : List (ℕ × S)). CoreKept
            (record { board = board; tells = g.tells; asks = asks_of c.asked xs; left = left_of c.left xs; callers = MOST_CALLERS })
            (behind (places_of c new.seats.items))) (sym new-scripts)
            (subst (λ (ps : List Place). CoreKept (run_of g c x) (behind ps))
            (sym (ap (places_of c) seats ∙ map-set (place_of c) x.seats.items place t)) core));
        seated = λ i u at.
            by_board (λ (b : BoardView). IsSeated c b (roots_of new.ports.items) u)
            (subst (λ (rs : List ℕ). IsSeated c board rs u) (sym roots)
            (elim (at_set x.seats.items place i t u (subst (λ (xs : List (Seat C)). slice_get xs i ≡ Some u) seats at)) [
              | inl is ↦ subst (λ (y : Seat C). IsSeated c board (roots_of x.ports.items) y) is.1 seated
              | inr other ↦ kept.seated i u other.1
            ]));
      }
        where
          by_board : (Q : _ → Type 0) → Q x.board → Q new.board
          by_board Q = subst Q (sym same_board)

          -- where all stand behind it, with these places
          behind : List Place → Whole
          behind ps = record (whole_of g c new held owes) { places = ps }

      -- .. where the plain lists are these
      kept-whole : IsSeated c board (roots_of x.ports.items) t → (w : Whole) → CoreKept (run_of g c x) w
          → reverse new.journal.entries ≡ w.past → new.journal.room ≡ w.room → new.journal.room_bytes ≡ w.room_bytes
          → set whole.places place (place_of c t) ≡ w.places
          → new.locks ≡ w.locks → root_ports g new.ports.items ≡ w.sockets → IsKept g c new
      kept-whole seated w core past room room_bytes places locks sockets =
          kept-by seated w.held w.owes (subst (λ (y : Whole). CoreKept (run_of g c x) y) same core)
        where
          same : w ≡ record w {
            past = reverse new.journal.entries;
            room = new.journal.room;
            room_bytes = new.journal.room_bytes;
            places = set whole.places place (place_of c t);
            locks = new.locks;
            sockets = root_ports g new.ports.items;
          }
          same = λ i. record w {
            past = sym past i;
            room = sym room i;
            room_bytes = sym room_bytes i;
            places = sym places i;
            locks = sym locks i;
            sockets = sym sockets i;
          }

      -- A STEP of the schedule that its caller made, where the plain lists after it are these
      pub turn-kept : IsSeated c board (roots_of x.ports.items) t → (w : Whole) → CoreKept (run_of g c x) w → (made : Turn)
          → made.caller ≡ s.number → new.journal.entries ≡ x.journal.entries ++ made.entries
          → reverse (x.journal.entries ++ made.entries) ≡ w.past → 1 ≤ length made.entries
          → new.journal.room + length made.entries ≡ x.journal.room → new.journal.room ≡ w.room → new.journal.room_bytes ≡ w.room_bytes
          → set whole.places place (place_of c t) ≡ w.places → new.locks ≡ w.locks → root_ports g new.ports.items ≡ w.sockets
          → new.start ≡ x.start → new.places ≡ x.places → (IsTrue g.tells → IsTurn board MOST_CALLERS (asks_in c x) whole.past made)
          → IsKept g c new × HasStepped g c place x new
      turn-kept seated w core made own entries past some less room room_bytes at locks sockets start places comes =
          let count : length new.journal.entries ≡ length x.journal.entries + length made.entries = ap length entries
          ∙ length-append x.journal.entries made.entries in (
            kept-whole seated w core (ap reverse entries ∙ past) room room_bytes at locks sockets,
            record {
              board = same_board;
              start = start;
              scripts = new-scripts;
              setups = setups;
              places = places;
              room = omega (arith, less, some);
              counted = omega (arith, less, count);
              turn = λ tell s2 to.
                  let is : s ≡ s2 = (let f : Some s ≡ Some s2 = sym here ∙ to in cc) in
                  record { turn = made; own = own ∙ ap (λ (y : Seat C). y.number) is; comes = comes tell; entries = entries };
            },
          )

      -- .. of one entry, which isn't a settle
      pub one-kept : IsSeated c board (roots_of x.ports.items) t → (w : Whole) → CoreKept (run_of g c x) w
          → (e : Entry) → new.journal.entries ≡ x.journal.entries ++ e ∷ [] → e ∷ whole.past ≡ w.past
          → new.journal.room + 1 ≡ x.journal.room → new.journal.room ≡ w.room → new.journal.room_bytes ≡ w.room_bytes
          → set whole.places place (place_of c t) ≡ w.places → new.locks ≡ w.locks → root_ports g new.ports.items ≡ w.sockets
          → new.start ≡ x.start → new.places ≡ x.places → is_settle e ≡ false → caller_of e ≡ s.number
          → IsKept g c new × HasStepped g c place x new
      one-kept seated w core e entries past less room room_bytes at locks sockets start places none own =
          turn-kept seated w core (record { caller = caller_of e; entries = e ∷ [] }) own entries
          (reverse-append x.journal.entries (e ∷ []) ∙ past) (omega arith) less room room_bytes at locks sockets start places
          (λ tell. turn-one board MOST_CALLERS (asks_in c x) whole.past e
          (subst (λ (es : List Entry). IsStepwise board MOST_CALLERS (asks_in c x) es) (sym past) (core.told tell).stepwise) none)

      -- .. and of two, a message or a line step with its settle
      pub two-kept : IsSeated c board (roots_of x.ports.items) t → (w : Whole) → CoreKept (run_of g c x) w
          → (e f : Entry) → new.journal.entries ≡ x.journal.entries ++ e ∷ f ∷ [] → f ∷ e ∷ whole.past ≡ w.past
          → new.journal.room + 2 ≡ x.journal.room → new.journal.room ≡ w.room → new.journal.room_bytes ≡ w.room_bytes
          → set whole.places place (place_of c t) ≡ w.places → new.locks ≡ w.locks → root_ports g new.ports.items ≡ w.sockets
          → new.start ≡ x.start → new.places ≡ x.places → is_stepping e ≡ true → is_settle f ≡ true → caller_of e ≡ s.number
          → caller_of f ≡ s.number → IsKept g c new × HasStepped g c place x new
      two-kept seated w core e f entries past less room room_bytes at locks sockets start places steps settles own owns =
          turn-kept seated w core (record { caller = caller_of e; entries = e ∷ f ∷ [] }) own entries
          (reverse-append x.journal.entries (e ∷ f ∷ []) ∙ past) (omega arith) less room room_bytes at locks sockets start places
          (λ tell. turn-two board MOST_CALLERS (asks_in c x) whole.past e f
          (subst (λ (es : List Entry). IsStepwise board MOST_CALLERS (asks_in c x) es) (sym past) (core.told tell).stepwise)
          (owns ∙ sym own) steps settles)

-- THE CALLER AT A PLACE, as the laws of the core speak of it: the run, where all stand, its own place, the locks that it has, and
-- what it owes
pub record Standing (place : ℕ) : Type 0 where
  pub run : Run
  pub whole : Whole
  pub core : CoreKept run whole
  pub p : Place
  pub at : slice_get whole.places place ≡ Some p
  pub ls : List LockId
  pub n : ℕ
  pub stands : StandsAt whole place p ls n

abbrev pub standing : {P C S : Type 0} (g : PortGhosts P) (c : CallerGhosts C S) (x : CoreInside P C) (kept : IsKept g c x) (place : ℕ)
    (s : Seat C)
    → slice_get x.seats.items place ≡ Some s → Standing place
standing g c x kept place s here =
    let run = run_of g c x in
    let whole = whole_of g c x kept.held kept.owes in
    let p = place_of c s in
    let at = place-here g c x kept place s here in
    record {
      run = run;
      whole = whole;
      core = kept.kept;
      p = p;
      at = at;
      ls = (locks-here run whole kept.kept place p at).0;
      n = (owes-here run whole kept.kept place p at).0;
      stands = stands-here run whole kept.kept place p at;
    }
