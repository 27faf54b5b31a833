use Rattle.std.proofs.Common.{◌≡◌, ◌*◌, ◌≤◌, All, length, map}
use Rattle.std.specs.List.{range_with_len}
use Rattle.caller_core.specs.Callers.{IsOpened}
use Rattle.i2c_gen.specs.Draws.{number_behind}
use Rattle.i2c_gen.specs.Scripts.{script_of}
use Rattle.i2c_gen.proofs.script.made_scripts.Given as goal

-- the scripts so far are those of the first callers
abbrev pub invariant-loop : goal.invariant-loop
invariant-loop l =
    record {
      within : l.counter ≤ 8;
      count : length l.scripts.items ≡ l.counter;
      room : 8 ≤ l.scripts.cap;
      behind : l.draws.x ≡ number_behind l.plan.seed (5 * (l.counter * l.plan.lines));
      opened : All (λ s. IsOpened l.board s.script.text s) l.scripts.items;
      texts : map (λ s. s.script.text) l.scripts.items ≡ map (script_of l.plan) (range_with_len 0 l.counter);
    }
