use Rattle.bus_core.proofs.Cited.{◌≡◌, ◌+◌, ◌<◌, ◌≤◌, ℕ, List, [], ◌∷◌, ◌++◌, length, set, Option, Some, refl, sym, ◌∙◌, ap, subst, arith}
use Rattle.bus_core.proofs.Cited.{rules, slice_get, vec_len, vec_capacity, into_iter_items, into_iter_len, length-append, append_assoc}
use Rattle.bus_core.proofs.Cited.{BoardView, MOST_CALLERS, roots_of, AreSeated, IsFreshSeat, Seat}
use Rattle.bus_core.proofs.Seating.{fresh_as, seated-none, seated-one, room-for-one, push_here}
use Rattle.bus_core.proofs.opening.seats_of.Goals as goal

pub loop-number-init : goal.loop-number-init
loop-number-init g c =
    let gives = c.into_iter-number-iterator.ensures.into_iter_gives in
    record {
      board = refl;
      seated = seated-none g.C.Caller c.args.board.now
          (roots_of c.args.ports.now) c.args.callers.items c.in_ok-seats.seats.items c.in_ok-places.places.items c.in_ok-seats.ensures.items
          c.in_ok-places.ensures;
      goes = gives.0;
      rest = gives.1 ∙ c.args.callers.ok.0 ∙ sym (ap length gives.0);
      room = search rules;
    }

-- the caller whose turn it is stands behind those that have their seats
turn : {C : Type 0} (before all rest : List (ℕ × C)) (x : ℕ × C) → before ++ (x ∷ rest) ≡ all → slice_get all (length before) ≡ Some x
turn before all rest x is = subst (λ (xs : List (ℕ × _)). slice_get xs (length before) ≡ Some x) is (push_here before rest x)

pub overflow_cast-len : goal.overflow_cast-len
overflow_cast-len g c =
    let at = c.loop-number.invariant in
    let x : ℕ × g.row.C.Denot = (c.in-Some.number, c.in-Some.caller) in
    let steps : into_iter_items c.loop-number.number-iterator ≡ x ∷ into_iter_items c.next.new.self = c.in-Some.ensures.steps.0 in
    let here = turn c.loop-number.yielded c.args.callers.items (into_iter_items c.next.new.self) x
    (ap (λ (xs : List (ℕ × g.row.C.Denot)). c.loop-number.yielded ++ xs) (sym steps) ∙ at.goes) in
    let low = room-for-one g.C.Caller c.args.board.now (roots_of c.args.ports.now) c.args.callers.items
    (length c.loop-number.yielded) c.loop-number.seats.items c.loop-number.places.items at.seated
    c.requires.distinct x here (c.requires.below (length c.loop-number.yielded) x here) in
    let len : vec_len c.loop-number.seats ≡ length c.loop-number.seats.items = c.loop-number.seats.ok.0 in
    let place : c.len-in-loop-number.result ≡ length c.loop-number.yielded = c.len-in-loop-number.ensures ∙ len ∙ at.seated.counted in
    omega (arith, low, place)

pub index_mut-requires : goal.index_mut-requires
index_mut-requires g c =
    let at = c.loop-number.invariant in
    let x : ℕ × g.row.C.Denot = (c.in-Some.number, c.in-Some.caller) in
    let steps : into_iter_items c.loop-number.number-iterator ≡ x ∷ into_iter_items c.next.new.self = c.in-Some.ensures.steps.0 in
    let here = turn c.loop-number.yielded c.args.callers.items (into_iter_items c.next.new.self) x
    (ap (λ (xs : List (ℕ × g.row.C.Denot)). c.loop-number.yielded ++ xs) (sym steps) ∙ at.goes) in
    let low : c.in-Some.number < MOST_CALLERS = c.requires.below (length c.loop-number.yielded) x here in
    let all : length c.loop-number.places.items ≡ MOST_CALLERS = at.seated.all in
    let len : vec_len c.loop-number.places ≡ length c.loop-number.places.items = c.loop-number.places.ok.0 in
    let is : c.from.result ≡ c.in-Some.number = c.from.ensures in
    omega (arith, low, all, len, is)

pub push_reserved-requires : goal.push_reserved-requires
push_reserved-requires g c =
    let at = c.loop-number.invariant in
    let x : ℕ × g.row.C.Denot = (c.in-Some.number, c.in-Some.caller) in
    let steps : into_iter_items c.loop-number.number-iterator ≡ x ∷ into_iter_items c.next.new.self = c.in-Some.ensures.steps.0 in
    let count : length c.loop-number.yielded + length (x ∷ into_iter_items c.next.new.self) ≡ length c.args.callers.items =
    sym (length-append c.loop-number.yielded (x ∷ into_iter_items c.next.new.self))
    ∙ ap length (ap (λ (xs : List (ℕ × g.row.C.Denot)). c.loop-number.yielded ++ xs) (sym steps) ∙ at.goes) in
    let seats : length c.loop-number.seats.items ≡ length c.loop-number.yielded = at.seated.counted in
    let len : vec_len c.loop-number.seats ≡ length c.loop-number.seats.items = c.loop-number.seats.ok.0 in
    let room : length c.args.callers.items ≤ vec_capacity c.loop-number.seats = at.room in
    omega (arith, count, seats, len, room)

pub loop-number-preserved : goal.loop-number-preserved
loop-number-preserved g c =
    let at = c.loop-number.invariant in
    let x : ℕ × g.row.C.Denot = (c.in-Some.number, c.in-Some.caller) in
    let rest = into_iter_items c.next.new.self in
    let yielded = c.loop-number.yielded in
    let steps : into_iter_items c.loop-number.number-iterator ≡ x ∷ rest = c.in-Some.ensures.steps.0 in
    let goes : yielded ++ (x ∷ rest) ≡ c.args.callers.items = ap (λ (xs : List (ℕ × g.row.C.Denot)). yielded ++ xs) (sym steps) ∙ at.goes in
    let here = turn yielded c.args.callers.items rest x goes in
    let len : vec_len c.loop-number.seats ≡ length c.loop-number.seats.items = c.loop-number.seats.ok.0 in
    let place : c.len-in-loop-number.result ≡ length yielded = c.len-in-loop-number.ensures ∙ len ∙ at.seated.counted in
    let is : c.from.result ≡ c.in-Some.number = c.from.ensures in
    let places = set c.loop-number.places.items c.in-Some.number (Some (length yielded)) in
    let fresh = fresh_as g.C.Caller c.loop-number.board (roots_of c.args.ports.now) c.in-Some.number c.in-Some.caller
    c.reserve.new.self c.seat_of.result c.reserve.ensures.script c.reserve.ensures.taken c.seat_of.ensures.seat in
    let more = seated-one g.C.Caller c.args.board.now (roots_of c.args.ports.now) c.args.callers.items
    (length yielded) c.loop-number.seats.items c.loop-number.places.items at.seated
    c.requires.distinct x here (c.requires.below (length yielded) x here) c.seat_of.result
    (subst (λ (b : BoardView). IsFreshSeat g.C.Caller b (roots_of c.args.ports.now) c.in-Some.number c.in-Some.caller c.seat_of.result)
    at.board fresh) in
    let noted : places ≡ set c.loop-number.places.items c.from.result (Some c.len-in-loop-number.result) =
    ap (λ (n : ℕ). set c.loop-number.places.items n (Some (length yielded))) (sym is)
    ∙ ap (λ (n : ℕ). set c.loop-number.places.items c.from.result (Some n)) (sym place) in
    let more_len : into_iter_len c.next.new.self + 1 ≡ into_iter_len c.loop-number.number-iterator = c.in-Some.ensures.steps.1 in
    let was_len : into_iter_len c.loop-number.number-iterator ≡ length (x ∷ rest) = at.rest ∙ ap length steps in
    record {
      board = c.seat_of.ensures.board ∙ at.board;
      seated = subst (λ (n : ℕ). AreSeated g.C.Caller c.args.board.now
          (roots_of c.args.ports.now) c.args.callers.items n c.push_reserved.new.self.items
          (set c.loop-number.places.items c.from.result (Some c.len-in-loop-number.result)))
          (sym (length-append yielded (x ∷ [])))
          (subst (λ (ps : List (Option ℕ)). AreSeated g.C.Caller c.args.board.now (roots_of c.args.ports.now) c.args.callers.items
          (length yielded + 1) c.push_reserved.new.self.items ps) noted
          (subst (λ (ss : List (Seat g.row.C.Denot)). AreSeated g.C.Caller c.args.board.now (roots_of c.args.ports.now) c.args.callers.items
          (length yielded + 1) ss places) (sym c.push_reserved.ensures.items) more));
      goes = append_assoc yielded (x ∷ []) rest ∙ goes;
      rest = omega (arith, more_len, was_len);
      room = subst (λ (n : ℕ). length c.args.callers.items ≤ n) (sym c.push_reserved.ensures.capacity) at.room;
    }

pub returns-clause-seated : goal.returns-clause-seated
returns-clause-seated g c =
    let at = c.loop-number.invariant in
    let none : into_iter_len c.loop-number.number-iterator ≡ 0 = c.in-None.ensures.steps.0 in
    let count : length c.loop-number.yielded + length (into_iter_items c.loop-number.number-iterator) ≡ length c.args.callers.items =
    sym (length-append c.loop-number.yielded (into_iter_items c.loop-number.number-iterator)) ∙ ap length at.goes in
    let rest = at.rest in
    let all : length c.loop-number.yielded ≡ length c.args.callers.items = omega (arith, none, count, rest) in
    subst (λ (n : ℕ). AreSeated g.C.Caller c.args.board.now
    (roots_of c.args.ports.now) c.args.callers.items n c.loop-number.seats.items c.loop-number.places.items) all at.seated
