use Rattle.bus_waves.specs.Dumps.{scope_text, wires_text}
use Rattle.bus_waves.proofs.Pushes.{then, three_pieces}
use Rattle.bus_waves.proofs.dump.push_head.Goals as goal

pub returns : goal.returns
returns c =
    then c.push_bytes-2.result _ _ c.push_bytes-2.ensures
    (three_pieces c.args.out.now.items _ (scope_text c.args.root) wires_text c.push_bytes.new.out.items c.push_scope.new.out.items
    c.push_bytes-2.new.out.items c.in_ok-push_bytes.ensures c.in_ok-push_scope.ensures)
