use Rattle.std.specs.Vec.Iter.{into_iter_items, into_iter_len}
use Rattle.journal_check.proofs.PortLemmas.{AreOpened}
use Rattle.journal_check.proofs.told_port.told_ports.Given as goal

abbrev pub invariant-loop-root : goal.invariant-loop-root
invariant-loop-root g l =
    AreOpened l.board l.fn.gaps.items l.yielded (into_iter_items l.root-iterator) (into_iter_len l.root-iterator) l.ports.items
