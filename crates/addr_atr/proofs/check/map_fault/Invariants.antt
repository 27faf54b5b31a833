use Rattle.addr_atr.proofs.Cited.{◌≡◌, [], take, drop, fault_after}
use Rattle.addr_atr.proofs.check.map_fault.Given as goal

abbrev pub invariant-loop-index : goal.invariant-loop-index
invariant-loop-index l =
    fault_after l.board (take l.index l.translators) (drop l.index l.translators) ≡ fault_after l.fn.board [] l.fn.translators
