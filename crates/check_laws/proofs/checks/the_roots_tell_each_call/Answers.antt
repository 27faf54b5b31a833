use Rattle.bus_laws.proofs.world.LineFacts.{lines-locked}
use Rattle.check_laws.proofs.Rooted.{all-fail, root-told}
use Rattle.check_laws.proofs.checks.the_roots_tell_each_call.Goals as goal

pub returns : goal.returns
returns c =
    record {
      fails = λ b callers asks past gaps plain rules some steps.
          all-fail b (c.an_accepted_board_is_a_tree.ensures b plain rules) plain (lines-locked b rules) asks some callers past steps gaps;
      root = λ b callers asks past r plain rules some steps.
          root-told b (c.an_accepted_board_is_a_tree.ensures b plain rules) plain (lines-locked b rules) asks some callers past steps r;
    }
