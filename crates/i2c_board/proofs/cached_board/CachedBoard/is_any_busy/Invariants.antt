use Rattle.i2c_board.proofs.Cited.{◌≡◌, false, take, list_any, grant_of}
use Rattle.i2c_spec.specs.Grant.{is_busy}
use Rattle.i2c_board.proofs.cached_board.CachedBoard.is_any_busy.Given as goal

abbrev pub invariant-loop-msg : goal.invariant-loop-msg
invariant-loop-msg l =
    (l.self ≡ l.fn.self)
    × (list_any (λ m. is_busy (grant_of l.fn.self l.transfer.bus m.addr l.transfer.force)) (take l.msg-index l.msg-items) ≡ false)
