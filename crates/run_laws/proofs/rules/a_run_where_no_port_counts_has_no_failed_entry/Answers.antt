use Rattle.run_laws.proofs.Cited.{◌≡◌, ◌≤◌, ℕ, List, Option, length, reverse, sym, ◌∙◌, arith, All, Entry, PortCall, BoardView, TargetState}
use Rattle.run_laws.proofs.Cited.{calls_of, lines-locked, failures, remotes, asks_by, HasRunTold}
use Rattle.run_laws.proofs.Faultless.{no-faults, none-counted, none-failed}
use Rattle.run_laws.proofs.Rooted.{failed-fault}
use Rattle.run_laws.proofs.Ruled.{run-logs, run-steps}
use Rattle.run_laws.proofs.rules.a_run_where_no_port_counts_has_no_failed_entry.Goals as goal

pub returns : goal.returns
returns c =
    let messages = c.scripts_ask_for_messages.ensures.messages in
    let limits = c.scripts_ask_for_messages.ensures.limits in
    let entries = λ (told : List Entry → List ℕ) (b : BoardView) (texts : List (List ℕ)) (words : Option (List ℕ)) (x : List ℕ)
    (logs : List (List PortCall)) (states : List TargetState) (counts : List ℕ) (run : HasRunTold told b texts words x logs states counts)
    (none : All (λ n. n ≡ 0) counts).
    let plain = run.is_run.plain in
    let rules = run.is_run.rules in
    let steps = run-steps messages limits c.a_legal_journal_is_stepwise.ensures.stepwise told b texts words x logs states counts run in
    none-failed b (reverse run.journal)
    (λ r. sym (c.each_fault_is_a_failed_entry.ensures.stepwise b (length texts) (asks_by b texts) (reverse run.journal) plain rules
    (messages b texts) steps r)
    ∙ no-faults (calls_of b (asks_by b texts) (reverse run.journal) r)
    (λ n failed. none-counted b (calls_of b (asks_by b texts) (reverse run.journal)) logs counts
    (run-logs b (length texts) (asks_by b texts) logs states counts run.journal run.is_run) run.is_run.faults none r n
    (failed-fault b (c.an_accepted_board_is_a_tree.ensures b plain rules) plain (lines-locked b rules) (asks_by b texts)
    (messages b texts) (length texts) (reverse run.journal) steps logs
    (run-logs b (length texts) (asks_by b texts) logs states counts run.journal run.is_run) r n failed))) in
    record {
      entries = entries;
      remote = λ told b texts words x logs states counts run none.
          (let few : remotes (reverse run.journal) ≤ failures (reverse run.journal) =
          c.a_run_keeps_the_rules_of_the_bus.ensures.remote told b texts words x logs states counts run in
          let no : failures (reverse run.journal) ≡ 0 = entries told b texts words x logs states counts run none in
          omega (arith, few, no));
    }
