use Rattle.flat_world.proofs.Cited.{◌≡◌, ◌+◌, ◌≤◌, [], length, drop, size_of, written_of, block_limit, cut_in, granted_on, messages_from}
use Rattle.flat_world.proofs.Cited.{once_listener}
use Rattle.std.specs.Prelude.{sum_by}
use Rattle.i2c_base.specs.Limits.{MOST_BYTES}
use Rattle.i2c_spec.specs.Conversation as spec
use Rattle.flat_world.proofs.transfer.send_all.Given as goal

-- the messages that went through and those that are left are the whole
abbrev pub invariant-loop-i : goal.invariant-loop-i
invariant-loop-i l = record {
  written : length l.rest ≡ sum_by written_of (drop l.i l.msgs);
  room : length l.got + sum_by size_of (drop l.i l.msgs) ≤ MOST_BYTES;
  told : spec.talk_all (once_listener (granted_on l.site.board l.site.bus l.site.force)) (block_limit l.site.board) l.now
      (messages_from (drop l.i l.msgs) l.rest) l.i (cut_in l.cut) l.got
      ≡ spec.talk_all (once_listener (granted_on l.fn.site.board l.fn.site.bus l.fn.site.force)) (block_limit l.fn.site.board) l.fn.now
      (messages_from l.fn.transfer.msgs l.fn.transfer.out) 0 (cut_in l.fn.cut) [];
}
