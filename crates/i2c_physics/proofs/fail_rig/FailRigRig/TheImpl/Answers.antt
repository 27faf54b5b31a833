use Rattle.i2c_physics.proofs.Cited.{◌≡◌, ℕ, [], length, map, vec_len, Vec, Result, refl, arith, rules, All, IfOk, range_with_len}
use Rattle.i2c_physics.proofs.Cited.{IfOk-weaker, ap, Phase, BoardView, openings, fails_on, opening_fails}
use Rattle.i2c_physics.specs.FailPorts.{FailView, failed_calls_in}
use Rattle.i2c_physics.proofs.PlugLemmas.{opened-count, opened-all, opened-seen, opened-worlds}
use Rattle.i2c_physics.proofs.fail_rig.FailRigRig.TheImpl.Goals as goal

-- what holds of the ports as they are opened
given : {Z E : Type 0} (opened : ℕ → FailView) (b : BoardView) (r : Result (Vec FailView Z) E) (Q : Vec FailView Z → Type 0)
    → IfOk r (λ ports. ports.items ≡ map opened (range_with_len 0 (length b.roots)))
    → ((ports : Vec FailView Z) → ports.items ≡ map opened (range_with_len 0 (length b.roots)) → Q ports) → IfOk r Q
given opened b r Q are each = IfOk-weaker r _ Q each are

pub plug-tells : goal.plug-tells
plug-tells x c =
    let b = c.args.board.now in
    let opened = opening_fails b c.args.self.now.calls.items in
    let are = c.ensures.ports in
    record {
      later = c.ensures.later;
      cause = search rules;
      plugs = c.ensures.plugs;
      unplugs = c.ensures.unplugs;
      plugged = search rules;
      unplugged = search rules;
      count = given opened b c.result (λ ports. vec_len ports ≡ length b.roots) are
          (λ ports is. omega (arith, opened-count opened b ports.items is));
      idle = given opened b c.result (λ ports. All (λ p. p.port.phase ≡ Phase.Idle) ports.items) are
          (λ ports is. opened-all opened b ports.items is (λ p. p.port.phase ≡ Phase.Idle) (λ r. refl));
      fresh = given opened b c.result (λ ports. All (λ p. failed_calls_in p.port.log ≡ 0) ports.items) are
          (λ ports is. opened-all opened b ports.items is (λ p. failed_calls_in p.port.log ≡ 0) (λ r. refl));
      empty = λ _. given opened b c.result (λ ports. All (λ p. p.port.log ≡ []) ports.items) are
          (λ ports is. opened-all opened b ports.items is (λ p. p.port.log ≡ []) (λ r. refl));
      worlds = λ _. given opened b c.result (λ ports. map (λ p. p.port.world) ports.items ≡ openings b) are
          (λ ports is. opened-worlds opened b ports.items is (λ p. p.port.world) (λ r. refl));
      board = search rules;
      setups = λ _. given opened b c.result (λ ports. map (λ p. p.fails) ports.items
          ≡ map (fails_on c.args.self.now.calls.items) (range_with_len 0 (length b.roots))) are
          (λ ports is. opened-seen opened b ports.items is (λ p. p.fails) (fails_on c.args.self.now.calls.items) (λ r. refl));
      settled = ap (λ (v : Vec (ℕ × ℕ) _). λ (y : BoardView). map (fails_on v.items) (range_with_len 0 (length y.roots))) c.ensures.calls;
    }
