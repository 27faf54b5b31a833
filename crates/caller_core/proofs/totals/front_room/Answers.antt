use Rattle.caller_core.proofs.Cited.{◌≡◌, ℕ, ◌+◌, List, Some, arith, common_steps, slice_get, room_of, command_talk, CommandView}
use Rattle.caller_core.proofs.QuietLemmas.{room_quiet}
use Rattle.caller_core.proofs.TakeLemmas.{at_place}
use Rattle.caller_core.proofs.totals.front_room.Goals as goal

pub loop-at-preserved : goal.loop-at-preserved
loop-at-preserved c =
    let cs : List CommandView = c.args.commands.now in
    let k : ℕ = c.loop-at.at in
    let read : CommandView = record { echo = c.get.result.1.now; run = c.get.result.0.now } in
    let is : slice_get cs k ≡ Some read = at_place cs k read (omega (arith, c.loop-at-test.true, c.len-at-end.ensures)) c.get.ensures in
    let zero : (command_talk read).places ≡ 0 = omega (arith, c.places.ensures.value, c.if-places-gt0.false) in
    let own : c.in_ok-room_of.field-0 ≡ room_of read = c.in_ok-room_of.ensures in
    let sum : c.in_ok-room.room ≡ c.loop-at.room + c.in_ok-room_of.field-0 = grind (arith, common_steps) in
    omega (arith, c.loop-at.invariant, room_quiet cs k read is zero, own, sum)
