use Rattle.std.proofs.Common.{◌++◌, ap, ◌∙◌}
use Rattle.std.specs.Fmt.{decimal}
use Rattle.bus_waves.proofs.Pushes.{then, three_pieces}
use Rattle.bus_waves.proofs.dump.push_scope.Goals as goal

pub returns : goal.returns
returns c =
    then c.push_bytes-2.result _ _ c.push_bytes-2.ensures
    (three_pieces c.args.out.now.items _ (decimal c.args.root) _ c.push_bytes.new.out.items c.push_number.new.out.items
    c.push_bytes-2.new.out.items c.in_ok-push_bytes.ensures
    (c.in_ok-push_number.ensures ∙ ap (λ n. c.push_bytes.new.out.items ++ decimal n) (c.from.ensures ∙ c.root.view_is)))
