use Rattle.std.proofs.Common.{◌≡◌, ◌+◌, ◌*◌, ◌≤◌, ℕ}
use Rattle.std.specs.List.{range_with_len, flat_map}
use Rattle.i2c_gen.specs.Draws.{number_behind}
use Rattle.i2c_gen.specs.Scripts.{line_of}
use Rattle.i2c_gen.proofs.script.made_text.Given as goal

-- the lines so far are those from the caller's first on
abbrev pub invariant-loop : goal.invariant-loop
invariant-loop l =
    record {
      end : l.end ≡ l.plan.lines;
      within : l.counter ≤ l.plan.lines;
      behind : (c : ℕ) → l.fn.draws.x ≡ number_behind l.plan.seed (5 * (c * l.plan.lines))
          → l.draws.x ≡ number_behind l.plan.seed (5 * (c * l.plan.lines + l.counter));
      text : (c : ℕ) → l.fn.draws.x ≡ number_behind l.plan.seed (5 * (c * l.plan.lines))
          → l.text.items ≡ flat_map (line_of l.plan) (range_with_len (c * l.plan.lines) l.counter);
    }
