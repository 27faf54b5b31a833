use Rattle.tools.proofs.Cited.{◌≡◌, ◌≤◌, ◌-◌, trimmed}
use Rattle.std.proofs.Common.{vec_len, vec_capacity}
use Rattle.tools.proofs.text.Text.trim.Given as goal

abbrev pub invariant-loop-self : goal.invariant-loop-self
invariant-loop-self l =
    record {
      same : trimmed l.self-inside.bytes.items ≡ trimmed l.fn.self.bytes;
      room : l.fn.self.room ≤ vec_capacity l.self-inside.bytes - vec_len l.self-inside.bytes;
    }

abbrev pub decreases-loop-self : goal.decreases-loop-self
decreases-loop-self l = vec_len l.self-inside.bytes
