use Rattle.caller_core.proofs.Cited.{◌≡◌, ℕ, ◌+◌, List, ◌++◌, drop, Some, sym, ap, ◌∙◌, append_assoc, arith, slice_get, Reply, command_text}
use Rattle.caller_core.proofs.Cited.{quiet_text, command_talk, quiet, CommandView}
use Rattle.caller_core.proofs.QuietLemmas.{front_quiet, text_quiet, room_quiet}
use Rattle.caller_core.proofs.TakeLemmas.{at_place}
use Rattle.caller_core.proofs.caller.push_quiet.Goals as goal

pub loop-at-preserved : goal.loop-at-preserved
loop-at-preserved c =
    let cs : List CommandView = c.args.commands.now in
    let k : ℕ = c.loop-at.at in
    let read : CommandView = record { echo = c.get.result.1.now; run = c.get.result.0.now } in
    let is : slice_get cs k ≡ Some read = at_place cs k read (omega (arith, c.loop-at-test.true, c.len.ensures)) c.get.ensures in
    let zero : (command_talk read).places ≡ 0 = omega (arith, c.places.ensures.value, c.if-places-gt0.false) in
    let was : List ℕ = c.loop-at.out.bytes in
    let room = room_quiet cs k read is zero in
    record {
      within = omega (arith, c.loop-at-test.true, c.len.ensures);
      behind = omega (arith, c.loop-at.invariant.behind, front_quiet cs k read is zero);
      bytes =
          ap (λ (b : List ℕ). b ++ quiet_text (drop (k + 1) cs)) (c.push_command.ensures.bytes
          ∙ ap (λ (rs : List Reply). was ++ command_text (record { command = read; replies = rs })) c.no_replies.ensures)
          ∙ append_assoc was (command_text (quiet read)) (quiet_text (drop (k + 1) cs))
          ∙ ap (λ (x : List ℕ). was ++ x) (sym (text_quiet cs k read is zero)) ∙ c.loop-at.invariant.bytes;
      room = omega (arith, c.push_command.ensures.room, c.loop-at.invariant.room, room);
      left = omega (arith, c.push_command.ensures.room, c.loop-at.invariant.left, room);
    }

pub push_command-requires-clause-room : goal.push_command-requires-clause-room
push_command-requires-clause-room c =
    let cs : List CommandView = c.args.commands.now in
    let k : ℕ = c.loop-at.at in
    let read : CommandView = record { echo = c.get.result.1.now; run = c.get.result.0.now } in
    let is : slice_get cs k ≡ Some read = at_place cs k read (omega (arith, c.loop-at-test.true, c.len.ensures)) c.get.ensures in
    omega (
      arith,
      c.loop-at.invariant.left,
      room_quiet cs k read is (omega (arith, c.places.ensures.value, c.if-places-gt0.false)),
    )
