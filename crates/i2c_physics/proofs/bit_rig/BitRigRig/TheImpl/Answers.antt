use Rattle.i2c_physics.proofs.Cited.{◌≡◌, [], length, map, vec_len, Vec, Result, refl, arith, rules, All, IfOk, range_with_len, IfOk-weaker}
use Rattle.i2c_physics.proofs.Cited.{Phase, BoardView, openings, BitPortView, opening_wired, wired, sym, splat_is_map, unset}
use Rattle.i2c_physics.proofs.WireLemmas.{wired_count, wired_all, wired_worlds}
use Rattle.i2c_physics.proofs.bit_rig.BitRigRig.TheImpl.Goals as goal

-- what holds of the ports as they are opened
given : {Z E : Type 0} (b : BoardView) (r : Result (Vec BitPortView Z) E) (Q : Vec BitPortView Z → Type 0)
    → IfOk r (λ ports. map wired ports.items ≡ map (opening_wired b) (range_with_len 0 (length b.roots)))
    → ((ports : Vec BitPortView Z) → map wired ports.items ≡ map (opening_wired b) (range_with_len 0 (length b.roots)) → Q ports) → IfOk r Q
given b r Q are each = IfOk-weaker r _ Q each are

pub plug-tells : goal.plug-tells
plug-tells g x c =
    let b = c.args.board.now in
    let are = c.ensures.ports in
    record {
      later = omega (arith, c.ensures.calm);
      cause = λ failed. absurd (c.ensures.never failed);
      plugs = c.ensures.plugs;
      unplugs = c.ensures.unplugs;
      plugged = search rules;
      unplugged = search rules;
      count = given b c.result (λ ports. vec_len ports ≡ length b.roots) are (λ ports is. omega (arith, wired_count b ports.items is));
      idle = given b c.result (λ ports. All (λ p. p.phase ≡ Phase.Idle) ports.items) are
          (λ ports is. wired_all b ports.items is (λ v. v.port.phase ≡ Phase.Idle) (λ r. refl));
      fresh = given b c.result (λ ports. All (λ p. p.faults ≡ 0) ports.items) are
          (λ ports is. wired_all b ports.items is (λ v. v.faults ≡ 0) (λ r. refl));
      empty = λ _. given b c.result (λ ports. All (λ p. p.log ≡ []) ports.items) are
          (λ ports is. wired_all b ports.items is (λ v. v.port.log ≡ []) (λ r. refl));
      worlds = λ _. given b c.result (λ ports. map (λ p. p.world) ports.items ≡ openings b) are
          (λ ports is. wired_worlds b ports.items is);
      board = search rules;
      setups = λ _. given b c.result (λ ports. map (λ p. []) ports.items ≡ unset (length b.roots)) are
          (λ ports is. sym (splat_is_map ports.items (length b.roots) [] (wired_count b ports.items is)));
      settled = refl;
    }
