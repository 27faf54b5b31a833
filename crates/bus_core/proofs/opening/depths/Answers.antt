use Rattle.bus_core.proofs.Cited.{◌≡◌, ◌+◌, ◌<◌, ◌≤◌, ℕ, [], ◌∷◌, length, get_or, sym, ◌∙◌, ap, subst, arith, inl, inr, All, eqb_tells}
use Rattle.bus_core.proofs.Cited.{length-append, BoardView, IsPlainBoard, buses, depth, IsDepth}
use Rattle.std.proofs.lemmas.List.{get_or_push, get_or_append_left}
use Rattle.std.proofs.lemmas.List.Elements.{All-push}
use Rattle.i2c_board.specs.Layouts.{board_of}
use Rattle.i2c_spec.specs.Tree.{hops}
use Rattle.i2c_spec.proofs.CostLemmas.{hops_few}
use Rattle.bus_core.proofs.opening.depths.Goals as goal

pub loop-bus-preserved : goal.loop-bus-preserved
loop-bus-preserved c =
    let b = c.args.board.now in
    let at = c.loop-bus.invariant in
    let xs = c.loop-bus.depths.items in
    let bus = c.loop-bus.bus in
    let same : board_of c.layout-layout.result ≡ b = c.layout-layout.ensures.value ∙ c.board.ensures.value in
    let plain : IsPlainBoard b = subst IsPlainBoard c.board.ensures.value c.layout-layout.ensures.plain in
    let deep : c.len.result ≡ depth b bus = c.len.ensures.value ∙ ap length c.hops.ensures
    ∙ ap (λ (x : BoardView). length (hops x bus)) same in
    let few : c.len.result ≤ 4 = subst (λ (n : ℕ). n ≤ 4) (sym deep) (hops_few b bus plain c.board.ensures.rules) in
    let items = c.push_reserved.ensures.items in
    let so_far : length xs ≡ bus = at.so_far in
    record {
      end_is = at.end_is;
      so_far = ap length items ∙ length-append xs (c.len.result ∷ []) ∙ ap (λ (n : ℕ). n + 1) so_far;
      each = λ p low.
          ap (λ ys. get_or ys p 0) items
          ∙ elim (eqb_tells p bus) [
            | inl is ↦ get_or_push xs c.len.result 0 p (so_far ∙ sym is.1) ∙ deep ∙ ap (depth b) (sym is.1)
            | inr other ↦ (let apart = other.1 in
                let below : p < bus = omega (arith, low, apart) in
                get_or_append_left xs (c.len.result ∷ []) 0 p (omega (arith, below, so_far)) ∙ at.each p below)
          ];
      few = subst (λ ys. All IsDepth ys) (sym items) (All-push IsDepth xs c.len.result at.few few);
      room = subst (λ (n : ℕ). buses b ≤ n) (sym c.push_reserved.ensures.capacity) at.room;
    }
