use Rattle.bus_groups.proofs.Cited.{◌≡◌, ◌++◌, length, subst, sym, ◌∙◌, ap, vec_len, [], ◌∷◌, arith, AllZip, MayOpen, IsOpenedWith}
use Rattle.std.proofs.Common.{append_assoc}
use Rattle.bus_groups.proofs.ShareLemmas.{all-next, zip-more, zip-length, come-room}
use Rattle.bus_groups.proofs.rounds.opened.Goals as goal

pub open-requires-after_bounds : goal.open-requires-after_bounds
open-requires-after_bounds g c κs within =
    all-next (λ share. MayOpen g.P.Port g.C.Caller c.args.board.now share.ports.items share.callers.items share.limit) c.loop-share.yielded
    _ _ _ c.in-Some.share c.loop-share.invariant.goes c.in-Some.ensures.steps.0 c.requires

pub push_reserved-requires : goal.push_reserved-requires
push_reserved-requires g c =
    let at = c.loop-share.invariant in
    let same = zip-length
    (λ share slot. IsOpenedWith g.P.Port g.C.Caller c.args.board.now share slot.core) c.loop-share.yielded c.loop-share.slots.items
    at.slots in
    let below = come-room c.loop-share.yielded _ _ _ _ at.goes c.in-Some.ensures.steps.0 in
    let room = at.room in
    let len : vec_len c.loop-share.slots ≡ length c.loop-share.slots.items = c.loop-share.slots.ok.0 in
    omega (arith, same, below, room, len)

pub loop-share-preserved : goal.loop-share-preserved
loop-share-preserved g c =
    let at = c.loop-share.invariant in
    let room = at.room in
    let wide = c.push_reserved.ensures.capacity in
    record {
      slots = subst (λ ss. AllZip (λ share slot. IsOpenedWith g.P.Port g.C.Caller c.args.board.now share slot.core)
          (c.loop-share.yielded ++ c.in-Some.share ∷ []) ss) (sym c.push_reserved.ensures.items)
          (zip-more (λ share slot. IsOpenedWith g.P.Port g.C.Caller c.args.board.now share slot.core) c.loop-share.yielded
          c.loop-share.slots.items c.in-Some.share _ at.slots (c.in_ok-core.ensures.opening, c.in_ok-core.ensures.worlds));
      goes = append_assoc c.loop-share.yielded (c.in-Some.share ∷ []) _ ∙ ap (λ zs. c.loop-share.yielded ++ zs)
          (sym c.in-Some.ensures.steps.0)
          ∙ at.goes;
      room = omega (arith, room, wide);
    }
