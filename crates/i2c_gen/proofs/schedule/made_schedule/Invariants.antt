use Rattle.std.proofs.Common.{◌≡◌, ◌≤◌, ◌<◌, ◌+◌, ◌*◌, All, length, map, vec_capacity}
use Rattle.std.specs.List.{range_with_len}
use Rattle.i2c_base.specs.Limits.{MOST_CALLERS}
use Rattle.i2c_gen.specs.Draws.{draw, number_behind}
use Rattle.i2c_gen.specs.Scripts.{lines_in}
use Rattle.i2c_gen.proofs.schedule.made_schedule.Given as goal

abbrev pub invariant-loop : goal.invariant-loop
invariant-loop l = record {
  count : length l.words.items ≡ l.counter;
  room : l.many ≤ vec_capacity l.words;
  behind : l.draws.x ≡ number_behind l.plan.seed (5 * lines_in l.plan + l.counter);
  so_far : l.words.items ≡ map (λ k. draw l.plan.seed k MOST_CALLERS) (range_with_len (5 * lines_in l.plan) l.counter);
  named : All (λ c. c < MOST_CALLERS) l.words.items;
}
