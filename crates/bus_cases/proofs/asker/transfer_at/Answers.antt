use Rattle.std.proofs.Common.{ap, subst, ◌∙◌}
use Rattle.std.specs.Prelude.{Ok}
use Rattle.tools.specs.Commands.{IsInRange}
use Rattle.bus_cases.proofs.ReadLemmas.{read_in_range}
use Rattle.bus_cases.proofs.asker.transfer_at.Goals as goal

pub open-requires : goal.open-requires
open-requires c = (
  c.limit-limit.result,
  subst (IsInRange c.limit-limit.result) c.in-Tool.is
      (read_in_range c.each_line_is_read.ensures c.each_field_is_in_range.ensures c.limit-limit.result c.as_bytes.result.now
      c.in-Ok-Some.command (c.in-Ok-Some.ensures.read ∙ ap Ok c.in-Ok-Some.field-0-is)),
)
