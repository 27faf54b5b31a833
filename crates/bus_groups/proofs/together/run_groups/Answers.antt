use Rattle.bus_groups.proofs.Cited.{◌≡◌, ℕ, ◌<◌, length, map, List, All, refl, subst, sym, ◌∙◌, ap, arith, length-map}
use Rattle.bus_groups.proofs.Cited.{length-range_with_len, BoardView, IsPlainBoard, homes_of, caller_home, parts_by, joined_by, HasRun}
use Rattle.bus_groups.specs.Rounds.{no_core, one_of}
use Rattle.bus_groups.proofs.HomeLemmas.{are-homes, callers-below}
use Rattle.bus_groups.proofs.RoundLemmas.{homes-below, zip-map, zip-map-left}
use Rattle.bus_groups.proofs.Joining.{came-out, are-groups, all-ran, ran-count, all-full}
use Rattle.bus_groups.proofs.together.run_groups.Given.{Over}
use Rattle.bus_groups.proofs.together.run_groups.Goals.{After-run_in-slots}
use Rattle.bus_groups.proofs.together.run_groups.Goals as goal

-- the cores that ran are as many as the roots, of which there are some
module _ (g : Over) (c : After-run_in-slots g) where
  slots : length c.run_in-slots.result.items ≡ length c.args.board.now.roots
  slots =
      let homes = c.in_ok-begun.begun.homes in
      ran-count g.P.Port g.C.Caller c.args.board.now homes.roots.items homes.callers.items (length c.args.board.now.roots)
      c.args.ports.items c.args.callers.items (λ s. s.core) c.in_ok-begun.begun.slots.items c.run_in-slots.result.items
      c.in_ok-begun.ensures.begun c.run_in-slots.ensures

  many : length c.roots-many.result.now ≡ length c.args.board.now.roots
  many = ap length c.roots-many.ensures.value ∙ ap (λ (x : BoardView). length x.roots) c.board.ensures.value

  plain : IsPlainBoard c.args.board.now
  plain = subst IsPlainBoard c.board.ensures.value c.roots-many.ensures.plain

  some : 0 < length c.args.board.now.roots
  some = (let one = plain.some_root in omega (arith, one))

pub ended-requires-clause-full : goal.ended-requires-clause-full
ended-requires-clause-full g c κs within =
    let begun = c.in_ok-begun.ensures.begun in
    all-full g.P.Port g.C.Caller c.args.board.now (λ s. s.core) begun.shares c.in_ok-begun.begun.slots.items c.run_in-slots.result.items
    begun.opened c.run_in-slots.ensures

pub ended-requires-clause-roots : goal.ended-requires-clause-roots
ended-requires-clause-roots g c κs within =
    let a = (goal.at.ended-requires-clause-roots g c).After-run_in-slots in
    ap length c.in_ok-begun.ensures.roots ∙ (are-homes (length c.args.board.now.roots) c.args.masks.now).count ∙ sym (slots g a)

pub ended-requires-clause-below : goal.ended-requires-clause-below
ended-requires-clause-below g c κs within =
    let N = length c.args.board.now.roots in
    let a = (goal.at.ended-requires-clause-below g c).After-run_in-slots in
    subst (λ (hs : List ℕ). All (λ h. h < length c.run_in-slots.result.items) hs) (sym c.in_ok-begun.ensures.roots)
    (subst (λ n. All (λ h. h < n) (homes_of N c.args.masks.now)) (sym (slots g a)) (homes-below N c.args.masks.now))

pub ended-requires-clause-callers : goal.ended-requires-clause-callers
ended-requires-clause-callers g c κs within =
    let N = length c.args.board.now.roots in
    let masks = c.args.masks.now in
    let a = (goal.at.ended-requires-clause-callers g c).After-run_in-slots in
    subst (λ (hs : List ℕ). All (λ h. h < length c.run_in-slots.result.items) hs) (sym c.in_ok-begun.ensures.callers)
    (subst (λ n. All (λ h. h < n) (map (caller_home (homes_of N masks)) masks)) (sym (slots g a)) (callers-below N masks (some g a)))

pub ended-requires-clause-parts : goal.ended-requires-clause-parts
ended-requires-clause-parts g c κs within =
    let a = (goal.at.ended-requires-clause-parts g c).After-run_in-slots in
    let wide = c.in_ok-rooms.ensures.parts.1 in
    (c.in_ok-rooms.ensures.parts.0, omega (arith, wide, slots g a, many g a))

pub ended-requires-clause-wide : goal.ended-requires-clause-wide
ended-requires-clause-wide g c κs within =
    let a = (goal.at.ended-requires-clause-wide g c).After-run_in-slots in
    let len = slots g a in
    let all = many g a in
    let wide = c.in_ok-rooms.ensures.wide in
    let x = wide.0 in
    let y = wide.1 in
    let z = wide.2 in
    (omega (arith, x, len, all), omega (arith, y, len, all), omega (arith, z, len, all))

pub ended-requires-clause-ports : goal.ended-requires-clause-ports
ended-requires-clause-ports g c κs within =
    let a = (goal.at.ended-requires-clause-ports g c).After-run_in-slots in
    let wide = c.in_ok-rooms.ensures.ports.1 in
    (c.in_ok-rooms.ensures.ports.0, omega (arith, wide, slots g a, many g a))

pub returns : goal.returns
returns g c =
    let N = length c.args.board.now.roots in
    let masks = c.args.masks.now in
    let p = g.P.Port in
    let cg = g.C.Caller in
    let b = c.args.board.now in
    let begun = c.in_ok-begun.ensures.begun in
    let ended = c.ended.ensures in
    let old = c.in_ok-begun.begun.slots.items in
    let new = c.run_in-slots.result.items in
    let rs = c.in_ok-begun.ensures.roots in
    let cs = c.in_ok-begun.ensures.callers in
    let x = one_of c.ended.result in
    let a = (goal.at.returns g c).After-run_in-slots in
    let ran = all-ran p cg b begun.shares (map (λ s. s.core) old) (map (λ s. s.core) new) ended.parts begun.opened
    (zip-map-left (λ o n. HasRun cg.asked p.tells o n) (λ s. s.core) old (map (λ s. s.core) new)
    (zip-map (λ s n. HasRun cg.asked p.tells s.core n) (λ s. s.core) old new c.run_in-slots.ensures)) ended.left in
    let ps = begun.ports_of ∙ ap (λ (hs : List ℕ). parts_by hs N c.args.ports.items) rs in
    let qs = begun.callers_of ∙ ap (λ (hs : List ℕ). parts_by hs N c.args.callers.items) cs in
    let xp = ended.ports ∙ ap (λ (hs : List ℕ). joined_by hs (map (λ y. y.ports.items) ended.parts)) rs in
    let xs = ended.seats ∙ ap (λ (hs : List ℕ). joined_by hs (map (λ y. y.seats.items) ended.parts)) cs in
    let tree = c.an_accepted_board_is_a_tree.ensures b (plain g a) c.board.ensures.rules in
    let came = came-out p cg b masks c.args.costs.now c.args.ports.items c.args.callers.items N c.requires refl tree
    (sym (length-map c.args.ports.items (λ q. q.0)) ∙ ap length c.requires.roots ∙ length-range_with_len 0 N)
    (sym (length-map c.args.callers.items (λ q. q.0)) ∙ ap length c.requires.numbers ∙ length-range_with_len 0 (length masks))
    (callers-below N masks (some g a)) begun.shares ended.parts x ps qs ran xp xs ended.entries in
    record {
      came = came;
      groups = λ tell. are-groups p cg b masks c.args.costs.now c.args.ports.items c.args.callers.items N c.requires refl tree
          (no_core b) tell
          begun.shares ended.parts x ps qs ran xp xs ended.entries came.scripts;
    }
