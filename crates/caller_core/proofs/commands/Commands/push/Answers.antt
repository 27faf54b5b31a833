use Rattle.caller_core.proofs.Cited.{common_steps, arith}
use Rattle.caller_core.proofs.PlacedLemmas.{commands_push}
use Rattle.caller_core.proofs.commands.Commands.push.Goals as goal

pub invariant_of-self : goal.invariant_of-self
invariant_of-self c = grind (arith, common_steps)

pub returns-in_err-extend_from_slice : goal.returns-in_err-extend_from_slice
returns-in_err-extend_from_slice c = grind (arith, common_steps)

pub invariant_of-self-in_err-push : goal.invariant_of-self-in_err-push
invariant_of-self-in_err-push c = grind (arith, common_steps)

pub returns-in_err-push : goal.returns-in_err-push
returns-in_err-push c = grind (arith, common_steps)

pub invariant_of-self-2 : goal.invariant_of-self-2
invariant_of-self-2 c = grind (arith, common_steps)

pub returns : goal.returns
returns c = grind (arith, common_steps, commands_push)
