use Rattle.bus_groups.proofs.Cited.{◌+◌, ◌≡◌, ◌<◌, [], ◌∷◌, ◌++◌, List, length, map, set, get_or, take, drop, vec_len, vec_capacity, sym}
use Rattle.bus_groups.proofs.Cited.{◌∙◌, ap, subst, arith, eqb-true, length-append, append_assoc, length-set, get_or-map, joined_by}
use Rattle.bus_groups.proofs.Cited.{All-get_or}
use Rattle.bus_groups.proofs.ShareLemmas.{next-joined, first-of, map-set-at, some-left}
use Rattle.bus_groups.proofs.shares.rejoined.Goals as goal
use Rattle.bus_groups.proofs.shares.rejoined.Goals.{then-not-is_empty, else-not-is_empty}
use Rattle.i2c_base.proofs.ListLemmas.{nil_by_length}

pub loop-home-preserved : goal.loop-home-preserved
loop-home-preserved g c =
    let at = c.loop-home.invariant in
    let homes = c.args.homes.now in
    let i = c.loop-home.home-index in
    let lt : i < length homes = c.loop-home-test.true in
    let h = c.from.result in
    let is : h ≡ get_or homes i 0 = c.from.ensures in
    let parts = c.loop-home.parts.items in
    let count = at.count in
    let there : h < length parts = (let below = subst (λ k. k < length c.args.parts.items) (sym is)
    (All-get_or (λ k. k < length c.args.parts.items) homes i 0 lt c.requires.below) in omega (arith, below, count)) in
    let v = c.index_mut-part.result.now in
    let M : List (List g.row.X.Denot) = map (λ part. part.items) parts in
    let here : get_or M h [] ≡ v.items = get_or-map (λ part. part.items) parts h v [] there
    ∙ ap (λ part. part.items) (sym c.index_mut-part.ensures.value) in
    let next = next-joined homes i M h lt is ∙ ap (λ zs. take 1 zs ++ joined_by (drop (i + 1) homes) (set M h (drop 1 zs))) here in
    let few = at.few in
    let room = at.room in
    let len : vec_len v ≡ length v.items = v.ok.0 in
    elim c.if-not-is_empty.branch [
      | then-not-is_empty w ↦
          let r = w.remove.result in
          let some : 0 < length v.items = (let k = some-left (vec_len v) (sym c.is_empty.ensures ∙ w.if-not-is_empty.true) in omega
          (arith, k, len)) in
          let grown = ap (λ a. a.items) w.all-is ∙ w.push_reserved.ensures.items in
          let set_parts = ap (λ p. p.items) w.parts-is in
          let wide = ap vec_capacity w.all-is ∙ w.push_reserved.ensures.capacity in
          let long = ap length grown ∙ length-append c.loop-home.all.items (r ∷ []) in
          record {
            all =
                ap (λ zs. zs ++ joined_by (drop (i + 1) homes) (map (λ part. part.items) c.if-not-is_empty.parts.items)) grown
                ∙ ap (λ ps. (c.loop-home.all.items ++ r ∷ []) ++ joined_by (drop (i + 1) homes) (map (λ part. part.items) ps)) set_parts
                ∙ ap (λ zss. (c.loop-home.all.items ++ r ∷ []) ++ joined_by (drop (i + 1) homes) zss)
                (map-set-at (λ part. part.items) parts h w.remove.new.self ∙ ap (set M h) w.remove.ensures.items)
                ∙ append_assoc c.loop-home.all.items (r ∷ []) (joined_by (drop (i + 1) homes) (set M h (drop 1 v.items)))
                ∙ ap (λ zs. c.loop-home.all.items ++ zs) (sym (next
                ∙ ap (λ zs. zs ++ joined_by (drop (i + 1) homes) (set M h (drop 1 v.items)))
                (first-of v.items r some w.remove.ensures.value)))
                ∙ at.all;
            count = ap length set_parts ∙ length-set parts h w.remove.new.self ∙ count;
            few = omega (arith, long, few);
            room = omega (arith, wide, room);
          }
      | else-not-is_empty w ↦
          let none : v.items ≡ [] = nil_by_length v.items (let k =
          eqb-true (vec_len v) 0 (sym c.is_empty.ensures ∙ w.if-not-is_empty.false) in omega
          (arith, k, len)) in
          let set_parts = ap (λ p. p.items) w.parts-is in
          let same = ap (λ a. length a.items) w.all-is in
          let wide = ap vec_capacity w.all-is in
          record {
            all =
                ap (λ a. a.items ++ joined_by (drop (i + 1) homes) (map (λ part. part.items) c.if-not-is_empty.parts.items)) w.all-is
                ∙ ap (λ ps. c.loop-home.all.items ++ joined_by (drop (i + 1) homes) (map (λ part. part.items) ps)) set_parts
                ∙ ap (λ zss. c.loop-home.all.items ++ joined_by (drop (i + 1) homes) zss)
                (map-set-at (λ part. part.items) parts h v ∙ ap (set M h) none)
                ∙ ap (λ zs. c.loop-home.all.items ++ zs) (sym (next
                ∙ ap (λ zs. take 1 zs ++ joined_by (drop (i + 1) homes) (set M h (drop 1 zs))) none))
                ∙ at.all;
            count = ap length set_parts ∙ length-set parts h v ∙ count;
            few = omega (arith, same, few);
            room = omega (arith, wide, room);
          }
    ]
