use Rattle.journal_laws.proofs.Cited.{lines-locked}
use Rattle.journal_laws.proofs.past.Play.{play-may, play-fails, may-plays}
use Rattle.journal_laws.proofs.layers.a_caller_adds_what_may_come.Goals as goal

pub returns : goal.returns
returns c =
    record {
      may = λ b callers asks fails past d e plain rules some steps.
          play-may b (c.an_accepted_board_is_a_tree.ensures b plain rules) plain
          (lines-locked b rules) asks some callers past steps fails d e;
      fails = λ b asks fails n d e. play-fails b asks 0 n fails d e;
      adds = λ b callers asks fails n e. may-plays b asks callers n fails e;
    }
