use Rattle.bus_laws.proofs.world.LineFacts.{lines-locked}
use Rattle.bus_laws.proofs.schedule.Following.{begins, ends, made, passed, least-made}
use Rattle.bus_laws.proofs.following.a_loop_follows.Goals as goal

pub returns : goal.returns
returns c =
    record {
      made = λ b callers asks words from past plain rules some steps none t is left kept.
          made b (c.an_accepted_board_is_a_tree.ensures b plain rules) plain
          (lines-locked b rules) asks some callers words from past steps none t is left kept;
      passed = λ b callers asks words from past plain rules some steps w stuck left kept.
          passed b (c.an_accepted_board_is_a_tree.ensures b plain rules) plain
          (lines-locked b rules) asks some callers words from past steps w stuck left kept;
      least = λ b callers asks words from past plain rules some steps none t is stuck kept.
          least-made b (c.an_accepted_board_is_a_tree.ensures b plain rules) plain
          (lines-locked b rules) asks some callers words from past steps none t is stuck kept;
      whole = λ b callers asks words from. begins b callers asks words from;
      end = λ b callers asks words from past kept. ends b callers asks words from past kept;
    }
