use Rattle.i2c_top.proofs.Cited.{IfOk, List, Result, map, ◌∙◌, subst, PortCall, MOST_CALLERS, World, ClosedCore, Follows, CallerView}
use Rattle.i2c_top.proofs.Cited.{scripts_fair, callers_in, scripts_in, IsLeftOf, script_row, texts_of}
use Rattle.i2c_top.proofs.RunLemmas.{run-over}
use Rattle.i2c_top.proofs.TextLemmas.{opened-scripts, run-of-texts}
use Rattle.i2c_top.proofs.run.summed.Goals as goal

pub returns-clause-run : goal.returns-clause-run
returns-clause-run g c =
    λ tells tell scripts ports words opened kept followed.
    let parts = c.in-Ok.parts in
    let b = g.R.Rig.board_of c.args.rig.now in
    let port = g.R.P.Port in
    let left : IsLeftOf port script_row b scripts ports parts =
    subst (λ (r : Result (ClosedCore _ CallerView) _). IfOk r (IsLeftOf port script_row b scripts ports)) c.in-Ok.is kept in
    let follows : Follows words parts.journal.entries =
    subst (λ (r : Result (ClosedCore _ CallerView) _). IfOk r (λ x. Follows words x.journal.entries)) c.in-Ok.is followed in
    let journal = parts.journal.entries in
    let worlds : List World = map (λ p. port.world p.1) parts.ports.items in
    let logs : List (List PortCall) = map (λ p. port.log p.1) parts.ports.items in
    let rig = c.given_back.new.rig in
    record {
      journal = journal;
      is_told = c.whole.ensures ∙ c.in_ok-summary_of.ensures;
      is_run = run-of-texts b (texts_of scripts) (scripts_in script_row (callers_in parts)) (left.scripts ∙ opened-scripts b scripts opened)
          (g.R.Rig.logs rig) (g.R.Rig.states rig) (g.R.Rig.port_faults rig) journal
          (run-over script_row b (callers_in parts) MOST_CALLERS journal worlds logs scripts_fair (left.over tell)
          (g.R.Rig.logs rig) (g.R.Rig.states rig) (g.R.Rig.port_faults rig) c.entries_are_in_range.ensures
          (c.given_back.ensures.given tells tell));
      ordered = follows;
    }
