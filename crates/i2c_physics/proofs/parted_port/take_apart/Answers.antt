use Rattle.i2c_physics.proofs.Cited.{◌≡◌, ◌+◌, ◌<◌, ◌∷◌, [], length, map, vec_len, vec_capacity, append-nil, refl, sym, ap, ◌∙◌, arith}
use Rattle.i2c_physics.proofs.Cited.{rules, length-append, length-map, parted}
use Rattle.std.proofs.lemmas.List.Elements.{All-nil, All-push}
use Rattle.i2c_physics.proofs.WireLemmas.{one_more_edge, one_more_parted}
use Rattle.i2c_physics.proofs.parted_port.take_apart.Goals as goal

pub loop-port-preserved : goal.loop-port-preserved
loop-port-preserved g c = record {
  grown = omega (arith, c.take_one.ensures.room, c.loop-port.invariant.grown);
  whole = omega (arith, length-append c.loop-port.yielded (c.in-Some.port ∷ []), c.in-Some.ensures.steps.1, c.loop-port.invariant.whole);
  kept = λ h.
      let was = c.loop-port.invariant.kept h in
      let count = ap length was ∙ length-append c.args.done.now.items (map parted c.loop-port.yielded)
      ∙ ap (λ n. length c.args.done.now.items + n) (length-map c.loop-port.yielded parted) in
      let room : vec_len c.loop-port.done < vec_capacity c.loop-port.done =
      omega (arith, count, c.in-Some.ensures.steps.1, c.loop-port.invariant.whole, c.loop-port.invariant.grown, h) in
      one_more_parted c.args.done.now.items c.loop-port.done.items c.take_one.new.done.items c.loop-port.yielded c.in-Some.port was
      (c.take_one.ensures.port room);
  edges = one_more_edge c.loop-port.yielded c.in-Some.port c.loop-port.edges c.take_one.result c.saturating_add-edges.result
      c.loop-port.invariant.edges
      c.take_one.ensures.edges (search rules);
  faults = All-push (λ p. p.faults ≡ 0) c.loop-port.yielded c.in-Some.port c.loop-port.invariant.faults c.take_one.ensures.faults;
}

pub loop-port-init : goal.loop-port-init
loop-port-init g c = record {
  grown = omega arith;
  whole = omega (arith, c.into_iter-port-iterator.ensures.into_iter_gives.1);
  kept = λ room. sym (append-nil _);
  edges = refl;
  faults = All-nil (λ p. p.faults ≡ 0);
}
