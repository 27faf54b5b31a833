-- A core that was just opened is kept: each caller's first transfer is loaded, and nothing was done.
use Rattle.bus_core.proofs.Cited.{◌≡◌, ℕ, ◌+◌, ◌<◌, ◌≤◌, List, [], ◌∷◌, length, reverse, map, Option, Some, None, refl, sym, ◌∙◌, ap, subst}
use Rattle.bus_core.proofs.Cited.{arith, slice_get, option_map_or, length-map, LockId, Reply, BoardView, MOST_CALLERS, TransferView}
use Rattle.bus_core.proofs.Cited.{IsPlainBoard, MeetsRules, JournalView, root_port, RootPort, walk_for, begun, WalkTree, Ends, Place, Run}
use Rattle.bus_core.proofs.Cited.{IsFairRun, Whole, AreDepths, opened, roots_of, run_of, whole_of, IsCore, IsSetUp, callers_scripts}
use Rattle.bus_core.proofs.Cited.{MayOpen, IsSeatOf, AreSeated, place_of, places_of, script_of, scripts_of, script_at, walk_left, owed_by}
use Rattle.bus_core.proofs.Cited.{got_by, CoreInside, Decided, Seat, over_ends, map_from, map_at}
use Rattle.std.proofs.Common.{◌*◌}
use Rattle.std.specs.List.{sum_by}
use Rattle.std.proofs.lemmas.List.Sums.{sum_by-cons}
use Rattle.i2c_base.specs.declared.caller.Caller.{Ghosts as CallerGhosts}
use Rattle.i2c_base.specs.declared.reply.Cut.TheVariants as cut_at
use Rattle.ports.specs.declared.port.Port.{Ghosts as PortGhosts}
use Rattle.i2c_spec.specs.World.{opening_world}
use Rattle.core_laws.specs.Core.{SeatKept}
use Rattle.core_laws.specs.Opens.{IsOpened}
use Rattle.core_laws.specs.Owed.{total}
use Rattle.core_laws.proofs.Laws.{core-opened, seat-loaded, seat-over}
use Rattle.bus_core.proofs.Kept.{fair-run, script-own}
use Rattle.bus_core.proofs.SeatLemmas.{asks_or_not}
use Rattle.bus_core.proofs.Seating.{seated-all}

-- where a caller begins
abbrev starting : ℕ → TransferView → WalkTree → Place
starting n t w = record { number = n; taken = []; owed = []; transfer = t; tree = w; sent = 0; got = []; cut = cut_at.No }

-- what all have left, by their scripts
abbrev lefts : {C S : Type 0} → CallerGhosts C S → List (ℕ × S) → List ℕ
lefts c scripts = map (λ (z : ℕ × _). c.left z.1 []) scripts

total-lefts : {C S : Type 0} (c : CallerGhosts C S) (callers : List (ℕ × C))
    → total (lefts c (callers_scripts c callers)) ≡ sum_by (λ (x : ℕ × C). c.left (c.script x.1) []) callers
total-lefts c [] = refl
total-lefts c (x ∷ xs) =
    sum_by-cons (λ (n : ℕ). n) (c.left (c.script x.1) []) (lefts c (callers_scripts c xs))
    ∙ ap (λ (n : ℕ). c.left (c.script x.1) [] + n) (total-lefts c xs)
    ∙ sym (sum_by-cons (λ (y : ℕ × _). c.left (c.script y.1) []) x xs)

module _ {P C S : Type 0} (p : PortGhosts P) (c : CallerGhosts C S) (x : CoreInside P C) (callers : List (ℕ × C)) (limit : ℕ)
    (may : MayOpen p c x.board x.ports.items callers limit) (plain : IsPlainBoard x.board) (rules : MeetsRules x.board)
    (seated : AreSeated c x.board (roots_of x.ports.items) callers (length callers) x.seats.items x.places.items) where
  abbrev b : BoardView
  b = x.board

  abbrev roots : List ℕ
  roots = roots_of x.ports.items

  abbrev seats : List (Seat C)
  seats = x.seats.items

  abbrev scripts : List (ℕ × S)
  scripts = scripts_of c seats

  abbrev run : Run
  run = run_of p c x

  abbrev held : List (List LockId)
  held = map (λ (q : Place). []) (places_of c seats)

  abbrev owes : List ℕ
  owes = lefts c scripts

  abbrev whole : Whole
  whole = whole_of p c x held owes

  -- the caller of each seat
  of-seat : (i : ℕ) (s : Seat C) → slice_get seats i ≡ Some s → IsSeatOf c b roots callers i s
  of-seat = seated.fresh

  distinct-seats : (i k n : ℕ) (s t : Seat C) → slice_get seats i ≡ Some s → slice_get seats k ≡ Some t → s.number ≡ n → t.number ≡ n
      → i ≡ k
  distinct-seats i k n s t at to one other =
      let of = of-seat i s at in
      let and = of-seat k t to in
      let first : of.of.0 ≡ n = sym of.fresh.number_is ∙ one in
      let second : and.of.0 ≡ n = sym and.fresh.number_is ∙ other in
      may.distinct i k n
      (map_at (λ (y : ℕ × C). y.0) callers i of.of of.here ∙ ap (λ (j : ℕ). Some j) first)
      (map_at (λ (y : ℕ × C). y.0) callers k and.of and.here ∙ ap (λ (j : ℕ). Some j) second)

  set-up : IsSetUp c.asked c.left c.board b scripts roots
  set-up = record {
    plain = plain;
    rules = rules;
    fair = may.fair;
    home = λ i z at.
        let s = map_from (script_of c) seats i z at in
        let of = of-seat i s.0 s.1 in
        subst (λ (y : ℕ × S). c.board y.1 ≡ b) s.2 (ap c.board of.fresh.script ∙ may.home i of.of of.here);
    wired = λ i z rs t at asks.
        let s = map_from (script_of c) seats i z at in
        let of = of-seat i s.0 s.1 in
        may.wired i of.of rs t of.here (ap (λ (k : S). c.asked k rs) (sym of.fresh.script ∙ ap (λ (y : ℕ × S). y.1) s.2) ∙ asks);
  }

  fair : IsFairRun run
  fair = fair-run c p.tells b scripts roots set-up

  module _ (i : ℕ) (s : Seat C) (at : slice_get seats i ≡ Some s) where
    of : IsSeatOf c b roots callers i s
    of = of-seat i s at

    taken-none : c.taken s.caller ≡ []
    taken-none = of.fresh.taken ∙ may.untaken i of.of of.here

    own : script_at scripts s.number ≡ Some (c.script s.caller)
    own = script-own c seats (λ j k t u to and same. distinct-seats j k u.number t u to and same refl) i s at

    asks-own : run.asks s.number [] ≡ c.asked (c.script s.caller) []
    asks-own = ap (λ (o : Option S). option_map_or (λ z. c.asked z []) o None) own

    left-own : run.left s.number [] ≡ c.left (c.script s.caller) []
    left-own = ap (λ (o : Option S). option_map_or (λ z. c.left z []) o 0) own

    asked-now : c.asked (c.script s.caller) (c.taken s.caller) ≡ run.asks s.number []
    asked-now = ap (c.asked (c.script s.caller)) taken-none ∙ sym asks-own

    owed-none : owed_by s.decided s.replies ≡ []
    owed-none = ap (λ (d : Option Decided). owed_by d s.replies) of.fresh.loaded.undecided

    got-none : got_by s.decided s.replies ≡ []
    got-none = ap (λ (d : Option Decided). got_by d s.replies) of.fresh.loaded.undecided ∙ of.fresh.loaded.unread

    -- it stands where its caller begins
    place-fresh : (w : WalkTree) → walk_left s ≡ w → place_of c s ≡ starting s.number s.transfer w
    place-fresh w is =
        ap (λ (rs : List Reply). record (place_of c s) { taken = rs }) taken-none
        ∙ ap (λ (rs : List Reply). record (place_of c s) { taken = []; owed = rs }) owed-none
        ∙ ap (λ (v : WalkTree). record (place_of c s) { taken = []; owed = []; tree = v }) is
        ∙ ap (λ (n : ℕ). record (place_of c s) { taken = []; owed = []; tree = w; sent = n }) of.fresh.loaded.sent
        ∙ ap (λ (g : List ℕ). record (place_of c s) { taken = []; owed = []; tree = w; sent = 0; got = g }) got-none
        ∙ ap (λ (k : _). record (place_of c s) { taken = []; owed = []; tree = w; sent = 0; got = []; cut = k }) of.fresh.cut

    begins : walk_left s ≡ begun b (run.asks s.number [])
    begins =
        asks_or_not (run.asks s.number []) (walk_left s ≡ begun b (run.asks s.number []))
        (λ t is. (of.fresh.loaded.some t (asked-now ∙ is)).1 ∙ ap (begun b) (sym is))
        (λ none. over_ends (walk_left s) (of.fresh.loaded.none (asked-now ∙ none)) ∙ ap (begun b) (sym none))

    seat-fresh : (n : ℕ) → slice_get owes i ≡ Some n → SeatKept run (place_of c s) [] n
    seat-fresh n owing =
        asks_or_not (run.asks s.number []) (SeatKept run (place_of c s) [] n)
        (λ t is.
        let loaded = of.fresh.loaded.some t (asked-now ∙ is) in
        subst (λ (q : Place). SeatKept run q [] n)
        (sym (place-fresh (walk_for b t) loaded.1 ∙ ap (λ (u : TransferView). starting s.number u (walk_for b t)) loaded.0))
        (seat-loaded run fair s.number [] t is n enough))
        (λ none.
        subst (λ (q : Place). SeatKept run q [] n)
        (sym (place-fresh Ends (over_ends (walk_left s) (of.fresh.loaded.none (asked-now ∙ none)))))
        (seat-over run fair s.number [] s.transfer none n))
      where
        enough : run.left s.number [] ≤ n
        enough =
            let here : slice_get owes i ≡ Some (c.left (c.script s.caller) []) = map_at (λ (z : ℕ × S). c.left z.1 []) scripts i
            (script_of c s) (map_at (script_of c) seats i s at) in
            let f : Some (c.left (c.script s.caller) []) ≡ Some n = sym here ∙ owing in
            let same : c.left (c.script s.caller) [] ≡ n = cc in
            let is : run.left s.number [] ≡ n = left-own ∙ same in
            omega (arith, is)

  -- all that they have left is within the limit
  few : total owes ≤ limit
  few =
      let same : total owes ≡ sum_by (λ (z : ℕ × C). c.left (c.script z.1) []) callers = ap (λ (zs : List (ℕ × S)). total (lefts c zs))
      (seated-all c b roots callers seats x.places.items seated) ∙ total-lefts c callers in
      let covers = may.covers in
      omega (arith, same, covers)

  module _ (depths : List ℕ) (deep : AreDepths b depths) (locks : x.locks ≡ opened depths (length b.roots) (length b.muxes))
      (blank : x.journal ≡ record { entries = []; room = limit; room_bytes = 2 * limit }) where
    is-opened : IsOpened run whole
    is-opened = record {
      nothing = ap (λ (j : JournalView). reverse j.entries) blank;
      distinct = λ i k n at to.
          let q = map_from (λ (y : Place). y.number) (places_of c seats) i n at in
          let r = map_from (λ (y : Place). y.number) (places_of c seats) k n to in
          let s = map_from (place_of c) seats i q.0 q.1 in
          let t = map_from (place_of c) seats k r.0 r.1 in
          distinct-seats i k n s.0 t.0 s.1 t.1 (ap (λ (y : Place). y.number) s.2 ∙ q.2) (ap (λ (y : Place). y.number) t.2 ∙ r.2);
      below = λ i q at.
          let s = map_from (place_of c) seats i q at in
          let of = of-seat i s.0 s.1 in
          subst (λ (n : ℕ). n < MOST_CALLERS) (sym of.fresh.number_is ∙ ap (λ (y : Place). y.number) s.2) (may.below i of.of of.here);
      once = λ i k y z at to same.
          let q = map_from (root_port p) x.ports.items i y at in
          let r = map_from (root_port p) x.ports.items k z to in
          may.once i k z.root
          (map_at (λ (w : ℕ × P). w.0) x.ports.items i q.0 q.1 ∙ ap (λ (j : ℕ). Some j) (ap (λ (w : RootPort). w.root) q.2 ∙ same))
          (map_at (λ (w : ℕ × P). w.0) x.ports.items k r.0 r.1 ∙ ap (λ (j : ℕ). Some j) (ap (λ (w : RootPort). w.root) r.2));
      counted = length-map scripts (λ (z : ℕ × S). c.left z.1 []) ∙ length-map seats (script_of c) ∙ sym (length-map seats (place_of c));
      none_held = refl;
      depths = depths;
      deep = deep;
      locks_free = locks;
      fresh = λ i q at.
          let s = map_from (place_of c) seats i q at in
          subst (λ (y : Place). (y.taken ≡ []) × (y.owed ≡ []) × (y.got ≡ []) × (y.cut ≡ cut_at.No)) s.2
          (taken-none i s.0 s.1, owed-none i s.0 s.1, got-none i s.0 s.1, (of-seat i s.0 s.1).fresh.cut);
      loads = λ i q at.
          let s = map_from (place_of c) seats i q at in
          subst (λ (y : Place). y.tree ≡ begun b (run.asks y.number [])) s.2 (begins i s.0 s.1);
      seats = λ i q n at owing.
          let s = map_from (place_of c) seats i q at in
          subst (λ (y : Place). SeatKept run y [] n) s.2 (seat-fresh i s.0 s.1 n owing);
      idle = λ k y at.
          let q = map_from (root_port p) x.ports.items k y at in
          ap (λ (w : RootPort). w.phase) (sym q.2) ∙ may.idle k q.0 q.1;
      worlds = λ tell k y at.
          let q = map_from (root_port p) x.ports.items k y at in
          subst (λ (w : RootPort). (w.world ≡ opening_world b w.root) × (w.log ≡ [])) q.2 (may.worlds tell k q.0 q.1);
      room_left = (let room : x.journal.room ≡ limit = ap (λ (j : JournalView). j.room) blank in let low = few in omega (arith, room, low));
      bytes_left = (let room : x.journal.room_bytes ≡ 2 * limit = ap (λ (j : JournalView). j.room_bytes) blank in let low = few in
          omega (arith, room, low));
      most = (let most = may.most in let low = few in omega (arith, most, low));
    }

    -- THE CORE that was opened
    pub opened-core : IsCore p c x
    opened-core = record {
      kept = record {
        owes = owes;
        held = held;
        set_up = set-up;
        kept = core-opened run whole is-opened;
        seated = λ i s at.
            let of = of-seat i s at in
            of.fresh.seated (λ t asks. may.wired i of.of (c.taken of.of.1) t of.here asks);
      };
      looked = λ i s at. (of-seat i s at).fresh.looked x.locks;
      placed = record {
        all = seated.all;
        there = λ n place at.
            let has = seated.there n place at in (
              c.script has.seat.caller,
              map_at (script_of c) seats place has.seat has.here
                  ∙ ap (λ (k : ℕ). Some (k, c.script has.seat.caller)) has.number_is,
            );
        named = λ place n k at.
            let s = map_from (script_of c) seats place (n, k) at in
            subst (λ (j : ℕ). slice_get x.places.items j ≡ Some (Some place)) (ap (λ (y : ℕ × S). y.0) s.2) (seated.named place s.0 s.1);
      };
    }
