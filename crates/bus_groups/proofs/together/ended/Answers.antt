use Rattle.bus_groups.proofs.Cited.{◌≡◌, ℕ, ◌<◌, length, map, List, All, flat_map, subst, sym, ◌∙◌, ap, arith, length-map, joined_by}
use Rattle.bus_groups.proofs.Cited.{AreLeftOf, map_map}
use Rattle.bus_groups.proofs.ShareLemmas.{zip-length}
use Rattle.bus_groups.proofs.RoundLemmas.{zip-map-left, flat-map-map}
use Rattle.bus_groups.proofs.together.ended.Goals as goal

pub apart-lists-requires-clause-room : goal.apart-lists-requires-clause-room
apart-lists-requires-clause-room g c =
    let same = zip-length (λ slot parts. AreLeftOf g.P.Port g.C.Caller slot.core parts) c.args.slots.items c.left.result.items
    c.left.ensures in
    let wide = c.requires.wide in
    let a = wide.0 in
    let b = wide.1 in
    let d = wide.2 in
    (omega (arith, same, a), omega (arith, same, b), omega (arith, same, d))

pub rejoined-requires-clause-below : goal.rejoined-requires-clause-below
rejoined-requires-clause-below g c =
    let same = zip-length (λ slot parts. AreLeftOf g.P.Port g.C.Caller slot.core parts) c.args.slots.items c.left.result.items
    c.left.ensures in
    let len : length c.apart-lists.result.ports.items ≡ length c.args.slots.items = ap length c.apart-lists.ensures.ports
    ∙ length-map c.left.result.items (λ x. x.ports) ∙ sym same in
    subst (λ n. All (λ h. h < n) c.as_slice.result.now) (sym len) (subst (λ (hs : List ℕ). All (λ h. h < length c.args.slots.items) hs)
    (sym c.as_slice.ensures.value) c.requires.below)

pub rejoined-requires-2-clause-below : goal.rejoined-requires-2-clause-below
rejoined-requires-2-clause-below g c =
    let same = zip-length (λ slot parts. AreLeftOf g.P.Port g.C.Caller slot.core parts) c.args.slots.items c.left.result.items
    c.left.ensures in
    let len : length c.apart-lists.result.seats.items ≡ length c.args.slots.items = ap length c.apart-lists.ensures.seats
    ∙ length-map c.left.result.items (λ x. x.seats) ∙ sym same in
    subst (λ n. All (λ h. h < n) c.as_slice-2.result.now) (sym len)
    (subst (λ (hs : List ℕ). All (λ h. h < length c.args.slots.items) hs) (sym c.as_slice-2.ensures.value) c.requires.callers)

pub returns : goal.returns
returns g c =
    let parts = c.left.result.items in
    record {
      parts = parts;
      left = zip-map-left (λ o y. AreLeftOf g.P.Port g.C.Caller o y) (λ slot. slot.core) c.args.slots.items parts c.left.ensures;
      ports = c.rejoined.ensures ∙ ap (λ (hs : List ℕ). joined_by hs
          (map (λ part. part.items) c.apart-lists.result.ports.items)) c.as_slice.ensures.value
          ∙ ap (λ zs. joined_by c.args.homes.now.roots.items (map (λ part. part.items) zs)) c.apart-lists.ensures.ports
          ∙ ap (joined_by c.args.homes.now.roots.items) (map_map (λ part. part.items) (λ x. x.ports) parts);
      seats = c.rejoined-2.ensures ∙ ap (λ (hs : List ℕ). joined_by hs
          (map (λ part. part.items) c.apart-lists.result.seats.items)) c.as_slice-2.ensures.value
          ∙ ap (λ zs. joined_by c.args.homes.now.callers.items (map (λ part. part.items) zs)) c.apart-lists.ensures.seats
          ∙ ap (joined_by c.args.homes.now.callers.items) (map_map (λ part. part.items) (λ x. x.seats) parts);
      entries = ap (flat_map (λ j. j.entries)) c.apart-lists.ensures.journals ∙ flat-map-map (λ j. j.entries) (λ x. x.journal) parts;
    }
