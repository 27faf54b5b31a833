use Rattle.i2c_top.proofs.ScheduleLemmas.{words-are-numbers}
use Rattle.i2c_top.proofs.schedule.each_word_is_a_number.Goals as goal

pub returns : goal.returns
returns c = words-are-numbers
