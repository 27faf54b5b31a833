use Rattle.tools.proofs.Cited.{◌≡◌, drop, list_any, is_no_bus}
use Rattle.tools.proofs.run.scan.any_absent.Given as goal

abbrev pub invariant-loop-place : goal.invariant-loop-place
invariant-loop-place l = list_any is_no_bus (drop l.place l.replies) ≡ list_any is_no_bus l.replies
