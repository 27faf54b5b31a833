use Rattle.i2c_top.proofs.Cited.{rules}
use Rattle.i2c_top.proofs.extra.ExtraWords.of.Goals as goal

pub returns-clause-placed : goal.returns-clause-placed
returns-clause-placed c = record {
  board = search rules;
  extra = search rules;
  schedule = search rules;
  scripts = search rules;
  some = search rules;
  most = search rules;
}
