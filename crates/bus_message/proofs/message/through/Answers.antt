use Rattle.bus_message.proofs.Cited.{◌≡◌, true, false, ap, refl, arith, inr, common_steps, world_listener, ended, cut_of, ending}
use Rattle.i2c_base.specs.declared.entry.End.TheVariants as end
use Rattle.bus_message.proofs.EndLemmas.{rest-ends}
use Rattle.bus_message.proofs.TalkLemmas.{reaches_same}
use Rattle.bus_message.proofs.message.through.Goals as goal

pub returns-then-last : goal.returns-then-last
returns-then-last g c got =
    rest-ends g.P.Port c.args.last (ending c.args.last end.Ok) c.args.calls 0 got c.args.port.now c.args.port.now c.stopped.new.port got
    (λ tells. omega arith) (omega arith) refl true (ending true end.Ok) c.args.calls 0 got c.stopped.result (c.stopped.ensures.ended got)
    (λ no. absurd (let f : true ≡ false = no in cc)) (omega arith) (omega arith) (omega arith) (λ tells. omega arith)
    (λ tells whole before r. reaches_same whole _ _ before _ _ _ _
    (λ s. ap (λ b. ended world_listener (cut_of c.stopped.result) b s end.Ok) c.if-last.true) r)

pub returns-else-last : goal.returns-else-last
returns-else-last g c got =
    record {
      start = c.requires.start;
      idle = inr (c.if-last.false, refl);
      grows = λ tells. omega arith;
      later = omega arith;
      setup = refl;
      few = omega arith;
      fails = record { place = grind (arith, common_steps); cause = grind (arith, common_steps) };
      told = grind (arith, common_steps);
    }
