use Rattle.run_laws.proofs.Cited.{refl}
use Rattle.i2c_gen.proofs.BoardLemmas.{meets_rules, plain_board}
use Rattle.i2c_gen.proofs.ScriptLemmas.{scripts_cost}
use Rattle.run_laws.proofs.Planned.{plan-named, schedule-named, scripts-lines, scripts-whole}
use Rattle.run_laws.proofs.generated.generated_scripts_are_read_whole.Goals as goal

pub returns : goal.returns
returns c = record {
  plan = plan-named;
  accepted = λ plan is. (plain_board plan.roots is.some_root is.most_roots, meets_rules plan.roots is.some_root is.most_roots);
  callers = λ plan. refl;
  grammar = scripts-whole;
  lines = scripts-lines;
  cheap = scripts_cost;
  named = schedule-named;
}
