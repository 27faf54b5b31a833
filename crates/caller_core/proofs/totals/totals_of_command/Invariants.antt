use Rattle.caller_core.proofs.Cited.{◌-◌, ◌^◌, ◌<◌, MOST_BYTES, cost_of, IsBill, transfers_of, most_brought, command_dialogue, names_root}
use Rattle.caller_core.proofs.RootLemmas.{AreSums, IsOneTransfer}
use Rattle.caller_core.proofs.totals.totals_of_command.Given as goal

abbrev pub invariant-loop-place : goal.invariant-loop-place
invariant-loop-place l =
    record {
      sums : AreSums (cost_of l.board) (λ t. 1) most_brought (names_root l.board) (2 ^ 32) 1 MOST_BYTES
          (transfers_of (command_dialogue l.run))
          l.place l.totals;
      bill : IsBill l.board l.bill;
      one : 0 < l.place → IsOneTransfer l.board ((command_dialogue l.run).at (l.place - 1)) l.one;
    }
