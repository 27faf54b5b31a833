use Rattle.caller_core.proofs.Cited.{◌*◌, ◌^◌, MOST_BYTES, cost_of, IsBill, most_brought, sum_of, command_names}
use Rattle.tools.specs.Dialogues.{MOST_PLACES}
use Rattle.caller_core.proofs.RootLemmas.{AreSums}
use Rattle.caller_core.proofs.totals.totals_of.Given as goal

abbrev pub invariant-loop-place : goal.invariant-loop-place
invariant-loop-place l =
    record {
      sums : AreSums (sum_of (cost_of l.board)) (sum_of (λ t. 1)) (sum_of most_brought) (command_names l.board)
          (2 ^ 32 * MOST_PLACES) MOST_PLACES (MOST_BYTES * MOST_PLACES) l.commands l.place l.totals;
      bill : IsBill l.board l.bill;
    }
