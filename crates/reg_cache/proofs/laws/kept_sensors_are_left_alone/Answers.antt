use Rattle.reg_cache.proofs.ScriptLemmas.{asks-touch}
use Rattle.reg_cache.proofs.TouchLemmas.{may-be-cached}
use Rattle.reg_cache.proofs.laws.kept_sensors_are_left_alone.Goals as goal

pub returns : goal.returns
returns c = λ b texts plain rules. may-be-cached b (c.an_accepted_board_is_a_tree.ensures b plain rules) texts (asks-touch b texts)
