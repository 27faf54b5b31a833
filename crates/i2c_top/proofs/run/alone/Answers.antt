use Rattle.i2c_top.proofs.Cited.{common_steps, ℕ, [], ◌∷◌, ◌++◌, All, sym, ◌∙◌, ap, subst, arith, length-map, All-push, AccountsForFaults}
use Rattle.i2c_top.proofs.Numbering.{map-push, over-next, room-next}
use Rattle.i2c_top.proofs.run.alone.Goals as goal

pub push_reserved-requires : goal.push_reserved-requires
push_reserved-requires g c =
    room-next c.loop-port.invariant.over c.in-Some.ensures.steps.0 (length-map c.loop-port.yielded (λ (p : ℕ × _). p.1))
    c.loop-port.alone.ok.0

pub loop-port-preserved : goal.loop-port-preserved
loop-port-preserved g c =
    record {
      over = over-next c.loop-port.invariant.over c.in-Some.ensures.steps.0 _ c.in-Some.ensures.steps.1 (c.push_reserved.ensures.items
          ∙ ap (λ (p : _). c.loop-port.alone.items ++ p ∷ []) c.into_port.ensures.port)
          c.push_reserved.ensures.capacity (map-push (λ (p : ℕ × _). p.1) c.loop-port.yielded _);
      accounts = subst (All (AccountsForFaults g.P.Port)) (sym c.push_reserved.ensures.items)
          (All-push (AccountsForFaults g.P.Port) c.loop-port.alone.items c.into_port.result c.loop-port.invariant.accounts
          c.into_port.ensures.accounts);
    }

pub returns : goal.returns
returns g c = record { ports = grind (arith, common_steps); accounts = c.loop-port.invariant.accounts }
