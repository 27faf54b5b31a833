use Rattle.journal_laws.proofs.Cited.{lines-locked}
use Rattle.std.specs.Prelude.{◌∷◌, ◌++◌}
use Rattle.bus_laws.proofs.past.Marks.{mark-keeps-none}
use Rattle.journal_laws.proofs.past.Marked.{mark-stays, passes-until}
use Rattle.journal_laws.proofs.past.Kept.{shut-keeps-none}
use Rattle.journal_laws.proofs.past.LegalSteps.{steps-front, legal-steps}
use Rattle.journal_laws.proofs.faulty.a_mark_stays_until_its_mux_is_closed.Goals as goal

pub returns : goal.returns
returns c =
    record {
      stays = λ b callers asks e past plain rules some.
          mark-stays b (c.an_accepted_board_is_a_tree.ensures b plain rules) plain (lines-locked b rules) asks some callers e past;
      passed_by = λ b callers asks e later past plain rules some.
          passes-until b (c.an_accepted_board_is_a_tree.ensures b plain rules) plain (lines-locked b rules) asks some callers e later past;
      unkept = λ b callers asks past plain rules some.
          mark-keeps-none b (c.an_accepted_board_is_a_tree.ensures b plain rules) plain (lines-locked b rules) asks some callers past;
      switched_off = λ b callers asks e past plain rules some steps p m.
          shut-keeps-none b (c.an_accepted_board_is_a_tree.ensures b plain rules) plain
          (lines-locked b rules) asks some callers p m e past steps;
      legal = λ b callers asks more e later past plain rules some limits legal.
          (let tree = c.an_accepted_board_is_a_tree.ensures b plain rules in
          passes-until b tree plain (lines-locked b rules) asks some callers e later past
          (steps-front b tree plain (lines-locked b rules) asks some limits callers more (e ∷ (later ++ past))
          (legal-steps b tree plain (lines-locked b rules) asks some limits callers (more ++ e ∷ (later ++ past)) legal)));
    }
