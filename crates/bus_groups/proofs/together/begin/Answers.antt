use Rattle.bus_groups.proofs.Cited.{◌≡◌, ℕ, ◌<◌, length, map, List, All, subst, sym, ◌∙◌, ap, arith, range_with_len, length-map}
use Rattle.bus_groups.proofs.Cited.{length-range_with_len, length-map-range_with_len, BoardView, IsPlainBoard, homes_of, caller_home}
use Rattle.bus_groups.proofs.Cited.{of_home, cost_of_home, parts_by, IsOpenedWith, map_map}
use Rattle.bus_groups.proofs.HomeLemmas.{are-homes, callers-below}
use Rattle.bus_groups.proofs.RoundLemmas.{shares-may, homes-below, zip-map}
use Rattle.bus_groups.proofs.together.begin.Given.{Over}
use Rattle.bus_groups.proofs.together.begin.Goals.{After-as_slice, In_ok-ports, In_ok-shares}
use Rattle.bus_groups.proofs.together.begin.Goals as goal

-- the roots, and the home of each
module _ (g : Over) (c : After-as_slice g) where
  many : length c.roots-many.result.now ≡ length c.args.board.now.roots
  many = ap length c.roots-many.ensures.value ∙ ap (λ (x : BoardView). length x.roots) c.board.ensures.value

  plain : IsPlainBoard c.args.board.now
  plain = subst IsPlainBoard c.board.ensures.value c.roots-many.ensures.plain

  homes : c.as_slice.result.now ≡ homes_of (length c.roots-many.result.now) c.args.masks.now
  homes = c.as_slice.ensures.value ∙ c.groups-homes.ensures.roots

-- a part of the ports for each home
parts-count : (g : Over) (c : In_ok-ports g) → length c.in_ok-ports.ports.items ≡ length c.roots-many.result.now
parts-count g c =
    sym (length-map c.in_ok-ports.ports.items (λ part. part.items)) ∙ ap length c.in_ok-ports.ensures
    ∙ length-map-range_with_len (λ h. of_home c.as_slice.result.now h c.args.ports.items) 0 (length c.roots-many.result.now)

-- the ports and the callers of each share
module _ (g : Over) (c : In_ok-shares g) where
  ports_of : map (λ s. s.ports.items) c.in_ok-shares.shares.items
      ≡ parts_by c.as_slice.result.now (length c.roots-many.result.now) c.args.ports.items
  ports_of = sym (map_map (λ part. part.items) (λ s. s.ports) c.in_ok-shares.shares.items)
      ∙ ap (map (λ part. part.items)) c.in_ok-shares.ensures.ports ∙ c.in_ok-ports.ensures

  callers_of : map (λ s. s.callers.items) c.in_ok-shares.shares.items
      ≡ parts_by c.as_slice-2.result.now (length c.roots-many.result.now) c.args.callers.items
  callers_of = sym (map_map (λ part. part.items) (λ s. s.callers) c.in_ok-shares.shares.items)
      ∙ ap (map (λ part. part.items)) c.in_ok-shares.ensures.callers ∙ c.in_ok-callers.ensures

pub parted-requires-clause-count : goal.parted-requires-clause-count
parted-requires-clause-count g c =
    let a = (goal.at.parted-requires-clause-count g c).After-as_slice in
    sym (length-map c.args.ports.items (λ q. q.0)) ∙ ap length c.requires.roots ∙ length-range_with_len 0 (length c.args.board.now.roots)
    ∙ sym (many g a) ∙ sym (are-homes (length c.roots-many.result.now) c.args.masks.now).count ∙ sym (ap length (homes g a))

pub parted-requires-clause-below : goal.parted-requires-clause-below
parted-requires-clause-below g c =
    let N = length c.roots-many.result.now in
    let a = (goal.at.parted-requires-clause-below g c).After-as_slice in
    subst (λ (hs : List ℕ). All (λ h. h < N) hs) (sym (homes g a)) (homes-below N c.args.masks.now)

pub parted-requires-2-clause-count : goal.parted-requires-2-clause-count
parted-requires-2-clause-count g c =
    let masks = c.args.masks.now in
    sym (length-map c.args.callers.items (λ q. q.0)) ∙ ap length c.requires.numbers ∙ length-range_with_len 0 (length masks)
    ∙ sym (length-map masks (caller_home (homes_of (length c.roots-many.result.now) masks)))
    ∙ sym (ap length (c.as_slice-2.ensures.value ∙ c.groups-homes.ensures.callers))

pub parted-requires-2-clause-below : goal.parted-requires-2-clause-below
parted-requires-2-clause-below g c =
    let N = length c.roots-many.result.now in
    let a = (goal.at.parted-requires-2-clause-below g c).After-as_slice in
    let some : 0 < N = (let one = (plain g a).some_root in omega (arith, one, many g a)) in
    subst (λ (hs : List ℕ). All (λ h. h < N) hs) (sym (c.as_slice-2.ensures.value ∙ c.groups-homes.ensures.callers))
    (callers-below N c.args.masks.now some)

pub shares-requires-clause-few : goal.shares-requires-clause-few
shares-requires-clause-few g c =
    let a = (goal.at.shares-requires-clause-few g c).After-as_slice in
    let most = (plain g a).most_roots in
    omega (arith, most, many g a, parts-count g (goal.at.shares-requires-clause-few g c).In_ok-ports)

pub shares-requires-clause-same : goal.shares-requires-clause-same
shares-requires-clause-same g c =
    sym (length-map c.in_ok-ports.ports.items (λ part. part.items)) ∙ ap length c.in_ok-ports.ensures
    ∙ length-map-range_with_len (λ h. of_home c.as_slice.result.now h c.args.ports.items) 0 (length c.roots-many.result.now)
    ∙ sym (length-map-range_with_len (λ h. of_home c.as_slice-2.result.now h c.args.callers.items) 0 (length c.roots-many.result.now))
    ∙ sym (ap length c.in_ok-callers.ensures) ∙ length-map c.in_ok-callers.callers.items (λ part. part.items)

pub opened-requires-after_bounds : goal.opened-requires-after_bounds
opened-requires-after_bounds g c κs within =
    let N = length c.roots-many.result.now in
    let masks = c.args.masks.now in
    let a = (goal.at.opened-requires-after_bounds g c).After-as_slice in
    let o = (goal.at.opened-requires-after_bounds g c).In_ok-shares in
    shares-may g.P.Port g.C.Caller c.args.board.now masks c.args.costs.now c.args.ports.items c.args.callers.items N c.requires (many g a)
    c.in_ok-shares.shares.items (ports_of g o ∙ ap (λ (hs : List ℕ). parts_by hs N c.args.ports.items) (homes g a))
    (callers_of g o
    ∙ ap (λ (hs : List ℕ). parts_by hs N c.args.callers.items) (c.as_slice-2.ensures.value ∙ c.groups-homes.ensures.callers))
    (c.in_ok-shares.ensures.limits ∙ ap (map (λ h. cost_of_home c.as_slice-3.result.now h c.args.costs.now))
    (ap (range_with_len 0) (parts-count g (goal.at.opened-requires-after_bounds g c).In_ok-ports))
    ∙ ap (λ (hs : List ℕ). map (λ h. cost_of_home hs h c.args.costs.now) (range_with_len 0 N))
    (c.as_slice-3.ensures.value ∙ c.groups-homes.ensures.callers))

pub returns-clause-begun : goal.returns-clause-begun
returns-clause-begun g c =
    let N = length c.roots-many.result.now in
    let same = many g (goal.at.returns-clause-begun g c).After-as_slice in
    let o = (goal.at.returns-clause-begun g c).In_ok-shares in
    record {
      shares = c.in_ok-shares.shares.items;
      ports_of = ports_of g o ∙ ap (λ (hs : List ℕ). parts_by hs N c.args.ports.items) c.as_slice.ensures.value
          ∙ ap (λ n. parts_by c.groups-homes.result.roots.items n c.args.ports.items) same;
      callers_of = callers_of g o ∙ ap (λ (hs : List ℕ). parts_by hs N c.args.callers.items) c.as_slice-2.ensures.value
          ∙ ap (λ n. parts_by c.groups-homes.result.callers.items n c.args.callers.items) same;
      opened = zip-map (λ s o. IsOpenedWith g.P.Port g.C.Caller c.args.board.now s o)
          (λ slot. slot.core) c.in_ok-shares.shares.items c.in_ok-slots.slots.items c.in_ok-slots.ensures;
    }
