use Rattle.bus_groups.proofs.Cited.{rules, ◌≡◌, ◌<◌, ◌≤◌, [], ◌∷◌, ◌++◌, length, set, get_or, vec_len, vec_capacity, refl, sym, ◌∙◌, ap}
use Rattle.bus_groups.proofs.Cited.{subst, arith, length-append, append_assoc, length-set, All-get_or, parts_by}
use Rattle.std.proofs.lemmas.List.Elements.{All-set}
use Rattle.bus_groups.proofs.ShareLemmas.{all-empty, length-of, parts-more, map-set-at, come-room, at-part}
use Rattle.bus_groups.specs.Shares.{of_home}
use Rattle.bus_groups.proofs.shares.parted.Given.{Over}
use Rattle.bus_groups.proofs.shares.parted.Goals.{After-index_mut-part}
use Rattle.bus_groups.proofs.shares.parted.Goals as goal

pub loop-item-init : goal.loop-item-init
loop-item-init g c = record {
  parts = all-empty (λ part. part.items) c.args.homes.now c.args.many c.in_ok-parts.parts.items c.in_ok-parts.ensures.count
      c.in_ok-parts.ensures.empty;
  room = c.in_ok-parts.ensures.room;
  count = c.in_ok-parts.ensures.count;
  place = refl;
  goes = search rules;
}

-- the part of the home of the place, before the item is put there
module _ (g : Over) (c : After-index_mut-part g) where
  more : length c.loop-item.yielded < length c.args.homes.now
  more =
      let below = come-room c.loop-item.yielded _ _ _ _ c.loop-item.invariant.goes c.in-Some.ensures.steps.0 in
      let same = c.requires.count in
      omega (arith, below, same)

  there : c.from.result < c.args.many
  there =
      let place = c.loop-item.invariant.place in
      subst (λ k. k < c.args.many) (sym c.from.ensures)
      (All-get_or (λ h. h < c.args.many) c.args.homes.now c.loop-item.place 0 (omega (arith, more, place)) c.requires.below)

  items : c.index_mut-part.result.now.items ≡ of_home c.args.homes.now c.from.result c.loop-item.yielded
  items = at-part (λ part. part.items) c.args.homes.now c.args.many c.loop-item.yielded c.loop-item.parts.items c.from.result
      c.index_mut-part.result.now c.loop-item.invariant.parts c.loop-item.invariant.count there c.index_mut-part.ensures.value

  room : length c.args.homes.now ≤ vec_capacity c.index_mut-part.result.now
  room =
      let count = c.loop-item.invariant.count in
      subst (λ u. length c.args.homes.now ≤ vec_capacity u) (sym c.index_mut-part.ensures.value)
      (All-get_or (λ part. length c.args.homes.now ≤ vec_capacity part) c.loop-item.parts.items c.from.result c.index_mut-part.result.now
      (omega (arith, there, count)) c.loop-item.invariant.room)

pub push_reserved-requires : goal.push_reserved-requires
push_reserved-requires g c =
    let a = (goal.at.push_reserved-requires g c).After-index_mut-part in
    let v = c.index_mut-part.result.now in
    let few = length-of c.args.homes.now c.from.result c.loop-item.yielded in
    let len : vec_len v ≡ length v.items = v.ok.0 in
    omega (arith, len, ap length (items g a), few, more g a, room g a)

pub loop-item-preserved : goal.loop-item-preserved
loop-item-preserved g c =
    let a = (goal.at.loop-item-preserved g c).After-index_mut-part in
    let at = c.loop-item.invariant in
    let homes = c.args.homes.now in
    let came = c.loop-item.yielded in
    let x = c.in-Some.item in
    let place = at.place in
    let capacity = c.push_reserved.ensures.capacity in
    let long = length-append came (x ∷ []) in
    record {
      parts =
          map-set-at (λ part. part.items) c.loop-item.parts.items c.from.result c.push_reserved.new.self
          ∙ ap (λ zss. set zss c.from.result c.push_reserved.new.self.items) at.parts
          ∙ ap (set (parts_by homes c.args.many came) c.from.result) (c.push_reserved.ensures.items ∙ ap (λ zs. zs ++ x ∷ []) (items g a))
          ∙ parts-more homes c.args.many came x c.from.result (more g a) (there g a)
          (c.from.ensures ∙ ap (λ k. get_or homes k 0) place);
      room = All-set (λ part. length homes ≤ vec_capacity part) c.loop-item.parts.items c.from.result c.push_reserved.new.self
          (omega (arith, room g a, capacity)) at.room;
      count = length-set c.loop-item.parts.items c.from.result c.push_reserved.new.self ∙ at.count;
      place = omega (arith, place, long);
      goes = append_assoc came (x ∷ []) _ ∙ ap (λ zs. came ++ zs) (sym c.in-Some.ensures.steps.0) ∙ at.goes;
    }
