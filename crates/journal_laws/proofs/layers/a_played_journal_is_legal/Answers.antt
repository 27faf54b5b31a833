use Rattle.journal_laws.proofs.Cited.{lines-locked, replies-kept, legal-with, played}
use Rattle.journal_laws.proofs.past.Play.{played-steps}
use Rattle.std.specs.Prelude.{reverse}
use Rattle.journal_laws.proofs.layers.a_played_journal_is_legal.Goals as goal

pub returns : goal.returns
returns c =
    record {
      stepwise = λ b callers asks fails words plain rules some known.
          (played-steps b (c.an_accepted_board_is_a_tree.ensures b plain rules) plain
          (lines-locked b rules) asks some callers fails words known).0;
      legal = λ b callers asks fails words plain rules some limits known.
          (let tree = c.an_accepted_board_is_a_tree.ensures b plain rules in
          let made = played-steps b tree plain (lines-locked b rules) asks some callers fails words known in
          legal-with b tree plain (lines-locked b rules) asks some callers (reverse (played b asks fails words)) made.0 made.1
          (replies-kept b tree plain (lines-locked b rules) asks some limits callers (reverse (played b asks fails words)) made.0));
    }
