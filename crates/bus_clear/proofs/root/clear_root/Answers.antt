use Rattle.bus_clear.proofs.Cited.{sym, ap, subst, refl, IsQuietWorld, pulses_of}
use denote.Param.Send.{sendable}
use Rattle.std.proofs.Crossing.{crosses}
use Rattle.bus_lines.proofs.SendLemmas.{lines-send}
use Rattle.i2c_spec.specs.Flat.{block_limit}
use Rattle.i2c_spec.specs.World.{opening_world}
use Rattle.bus_clear.proofs.LawLemmas.{root_level, root_pulses, root_reply}
use Rattle.bus_clear.proofs.root.clear_root.Goals as goal

pub clear_cut-high-requires-clause-quiet : goal.clear_cut-high-requires-clause-quiet
clear_cut-high-requires-clause-quiet c tells =
    subst IsQuietWorld (sym c.in_ok-lines.ensures.world) (c.an_opening_world_is_quiet.ensures c.args.board.now c.args.root)

-- the lines may go to another thread, as a lemma of theirs says
pub receive-requires-send-L : goal.receive-requires-send-L
receive-requires-send-L c κs = search (crosses, sendable, lines-send) depth 20

pub returns : goal.returns
returns c =
    let old = c.in_ok-lines.lines in
    let new = c.clear_cut-high.new.lines in
    let w = opening_world c.args.board.now c.args.root in
    let told = c.clear_cut-high.ensures.told refl in
    record {
      level =
          root_level old.rooted new.rooted c.clear_cut-high.ensures.board old.bus new.bus c.args.addr c.args.cut
          (block_limit c.args.board.now) w
          c.in_ok-lines.ensures.world c.clear_cut-high.result.high (c.clear_cut-high.ensures.level refl);
      pulses_are = c.pulses_made.ensures (pulses_of w c.args.addr c.args.cut)
          (root_pulses old.rooted new.rooted c.clear_cut-high.ensures.board old.bus new.bus c.args.addr c.args.cut
          (block_limit c.args.board.now) w
          c.in_ok-lines.ensures.world c.clear_cut-high.result.cleared told);
      reply =
          root_reply old.rooted new.rooted c.clear_cut-high.ensures.board old.bus new.bus c.args.addr c.args.cut
          (block_limit c.args.board.now) w
          c.in_ok-lines.ensures.world c.clear_cut-high.result.cleared c.receive.result c.open-port.result.world told
          (ap (λ p. p.world) c.open-port.ensures) (c.receive.ensures.reply refl (block_limit c.args.board.now));
    }
