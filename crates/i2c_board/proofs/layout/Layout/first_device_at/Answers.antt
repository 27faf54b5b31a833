use Rattle.i2c_board.proofs.Cited.{length, Some, sym, ◌+◌, ◌∙◌, arith, board_of, is_at}
use Rattle.i2c_board.proofs.RuleLemmas.{NoneAfter_more}
use Rattle.i2c_board.proofs.layout.Layout.first_device_at.Goals as goal

pub loop-device-init : goal.loop-device-init
loop-device-init c = record {
  behind = omega (arith, c.saturating_sub-device.ensures);
  none = λ k after below. c.requires.no_mux k after (omega (arith, after, below, c.saturating_sub-device.ensures));
}

pub loop-device-preserved : goal.loop-device-preserved
loop-device-preserved c =
    let so_far = c.loop-device.invariant in
    record {
      behind = omega (arith, so_far.behind);
      none = λ k after below. NoneAfter_more (is_at (board_of c.args.self.now) (Some c.args.addr) c.args.home) c.args.one
          (length c.args.self.now.muxes.now + c.loop-device.device) so_far.none
          (sym c.is_device_at.ensures ∙ c.if-is_device_at.false) k after
          (omega (arith, below));
    }
