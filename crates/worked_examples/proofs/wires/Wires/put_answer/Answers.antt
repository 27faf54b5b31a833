use denote.Param.Send.{sendable}
use Rattle.std.proofs.Crossing.{crosses}
use Rattle.bus_lines.proofs.SendLemmas.{lines-send}
use Rattle.worked_examples.proofs.SendLemmas.{watched-send}
use Rattle.worked_examples.proofs.wires.Wires.put_answer.Goals as goal

pub make-requires-send-L : goal.make-requires-send-L
make-requires-send-L c κs = search (crosses, sendable, lines-send) depth 20

pub make-requires-then-self-send-L : goal.make-requires-then-self-send-L
make-requires-then-self-send-L c κs = search (crosses, sendable, watched-send) depth 20
