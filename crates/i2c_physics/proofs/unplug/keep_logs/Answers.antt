use Rattle.i2c_physics.proofs.Cited.{◌≡◌, ◌<◌, ◌++◌, ◌∷◌, [], vec_len, vec_capacity, append-nil, sym, arith, rules, length-append}
use Rattle.i2c_physics.proofs.RigLemmas.{count-kept, one-more-kept}
use Rattle.i2c_physics.proofs.unplug.keep_logs.Goals as goal

pub loop-port-preserved-in-Some : goal.loop-port-preserved-in-Some
loop-port-preserved-in-Some g c = record {
  grown = omega arith;
  whole = omega (arith, length-append c.loop-port.yielded (c.in-Some.port ∷ []), c.in-Some.ensures.steps.1);
  kept = λ h.
      let was = c.loop-port.invariant.kept h in
      let count = count-kept _ _ _ _ _ was in
      let room : vec_len c.loop-port.logs < vec_capacity c.loop-port.logs =
      omega (arith, count, c.in-Some.ensures.steps.1, c.loop-port.invariant.whole) in
      let ok = c.push.ensures.succeeds room in
      let more : c.push.new.self.items ≡ c.loop-port.logs.items ++ c.into_log.result ∷ [] = search rules in
      one-more-kept _ _ _ _ _ _ _ _ was more c.into_log.ensures;
}

pub loop-port-init : goal.loop-port-init
loop-port-init g c = record {
  grown = omega arith;
  whole = omega (arith, c.into_iter-port-iterator.ensures.into_iter_gives.1);
  kept = λ room. sym (append-nil _);
}
