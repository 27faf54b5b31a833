use Rattle.bus_groups.proofs.Cited.{◌≡◌, ◌++◌, length, subst, sym, ◌∙◌, ap, vec_len, [], ◌∷◌, arith, AllZip, CoreState, AreLeftOf}
use Rattle.std.proofs.Common.{append_assoc}
use Rattle.bus_groups.proofs.ShareLemmas.{zip-more, zip-length, come-room}
use Rattle.bus_groups.proofs.rounds.left.Goals as goal

pub push_reserved-requires : goal.push_reserved-requires
push_reserved-requires g c =
    let at = c.loop-slot.invariant in
    let same = zip-length (λ slot parts. AreLeftOf g.P.Port g.C.Caller slot.core parts) c.loop-slot.yielded c.loop-slot.left.items
    at.left in
    let below = come-room c.loop-slot.yielded _ _ _ _ at.goes c.in-Some.ensures.steps.0 in
    let room = at.room in
    let len : vec_len c.loop-slot.left ≡ length c.loop-slot.left.items = c.loop-slot.left.ok.0 in
    omega (arith, same, below, room, len)

pub loop-slot-preserved-in-Some-core : goal.loop-slot-preserved-in-Some-core
loop-slot-preserved-in-Some-core g c =
    let at = c.loop-slot.invariant in
    let room = at.room in
    let wide = c.push_reserved.ensures.capacity in
    let apart = c.take_apart.ensures in
    let is = c.in-Some-core.core-is in
    record {
      left = subst (λ ss. AllZip (λ slot parts. AreLeftOf g.P.Port g.C.Caller slot.core parts)
          (c.loop-slot.yielded ++ c.in-Some.slot ∷ []) ss)
          (sym c.push_reserved.ensures.items)
          (zip-more (λ slot parts. AreLeftOf g.P.Port g.C.Caller slot.core parts) c.loop-slot.yielded c.loop-slot.left.items c.in-Some.slot
          _ at.left
          (subst (λ o. AreLeftOf g.P.Port g.C.Caller o c.take_apart.result) (sym c.in-Some-core.is)
          (record {
            scripts = apart.scripts ∙ ap (λ (v : CoreState _). v.opening.scripts) is;
            taken = apart.taken
                ∙ ap (λ (v : CoreState _). v.taken) is;
            worlds = apart.worlds ∙ ap (λ (v : CoreState _). v.worlds) is;
            logs = apart.logs
                ∙ ap (λ (v : CoreState _). v.logs) is;
            journal = apart.journal ∙ ap (λ (v : CoreState _). v.journal) is;
          })));
      goes = append_assoc c.loop-slot.yielded (c.in-Some.slot ∷ []) _ ∙ ap (λ zs. c.loop-slot.yielded ++ zs) (sym c.in-Some.ensures.steps.0)
          ∙ at.goes;
      room = omega (arith, room, wide);
    }
