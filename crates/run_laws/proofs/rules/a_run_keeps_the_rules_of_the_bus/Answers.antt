use Rattle.run_laws.proofs.Cited.{◌≤◌, ℕ, [], length, reverse, ◌∙◌, ap, replies, faults_in, failures, remotes, asks_by}
use Rattle.bus_spec.specs.Legal.{KeepsWhole, Reaches}
use Rattle.bus_laws.specs.Reach.{KeepsPathsOpen}
use Rattle.journal_laws.specs.Faulty.{KeepsCuts}
use Rattle.journal_laws.specs.Selected.{GoesThroughSelected}
use Rattle.journal_laws.specs.Spent.{IsWithinCost, KeepsFits, cost_from, its_bytes, its_calls, of_caller, one_entry}
use Rattle.run_laws.proofs.Rooted.{log-told}
use Rattle.run_laws.proofs.Ruled.{run-keeps, run-legal, run-logs}
use Rattle.run_laws.proofs.rules.a_run_keeps_the_rules_of_the_bus.Goals as goal

pub returns : goal.returns
returns c =
    let messages = c.scripts_ask_for_messages.ensures.messages in
    let limits = c.scripts_ask_for_messages.ensures.limits in
    let stepwise = c.a_legal_journal_is_stepwise.ensures.stepwise in
    record {
      reached = run-keeps messages limits stepwise (λ b asks past. Reaches b asks past) c.each_message_reaches_its_target.ensures;
      path = run-keeps messages limits stepwise (λ b asks past. KeepsPathsOpen b asks past) c.each_message_finds_its_path_open.ensures;
      selected = run-keeps messages limits stepwise (λ b asks past. GoesThroughSelected b asks past)
          c.each_message_goes_through_selected_muxes.ensures;
      whole = run-keeps messages limits stepwise (λ b asks past. KeepsWhole b past) c.no_message_stands_inside_a_transfer.ensures;
      cuts = run-keeps messages limits stepwise (λ b asks past. KeepsCuts b asks past) c.a_cut_is_of_a_step_on_the_way.ensures.stepwise;
      remote = run-keeps messages limits stepwise (λ b asks past. remotes past ≤ failures past)
          c.one_failure_fails_one_reply_at_most.ensures.stepwise;
      faults = λ told b texts words x logs states counts run r log here.
          let asks = asks_by b texts in
          ap faults_in (log-told b asks (reverse run.journal) logs
          (run-logs b (length texts) asks logs states counts run.journal run.is_run) r log here)
          ∙ c.each_fault_is_a_failed_entry.ensures.legal b (length texts) (asks_by b texts) (reverse run.journal) run.is_run.plain
          run.is_run.rules (messages b texts) (limits b texts)
          (run-legal b (length texts) asks logs states counts run.journal run.is_run) r;
      fits = run-keeps messages limits stepwise (λ b asks past. KeepsFits asks past)
          (λ b callers asks past plain rules some steps. c.each_reply_fits_its_transfer.ensures b callers asks past some steps);
      costs = run-keeps messages limits stepwise
          (λ b asks past. (n : ℕ) → IsWithinCost (cost_from b (asks n) [] (replies past n)) (of_caller one_entry past n)
          (of_caller its_bytes past n) (of_caller (its_calls b asks) past n))
          c.no_caller_exceeds_its_cost.ensures;
    }
