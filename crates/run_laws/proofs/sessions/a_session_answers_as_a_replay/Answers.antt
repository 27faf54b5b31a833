use Rattle.run_laws.proofs.Cited.{[], ◌∷◌}
use Rattle.run_laws.proofs.SessionScripts.{is-its-report, is-its-script}
use Rattle.run_laws.proofs.sessions.a_session_answers_as_a_replay.Goals as goal

pub returns : goal.returns
returns c = record {
  scripts = is-its-script;
  reports = λ b xs end text is words bytes logs states counts run none.
      is-its-report b xs end text is words bytes logs states counts run
      (c.a_run_where_no_port_counts_has_no_failed_entry.ensures.entries _ b (text ∷ []) words bytes logs states counts run none);
}
