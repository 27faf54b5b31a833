use Rattle.i2c_board.proofs.Cited.{◌≡◌, ◌<◌, ◌+◌, true, cond, Some, None, ap, sym, ◌∙◌, arith, nat_lt, nat_tests, board_of, full_cost}
use Rattle.i2c_board.proofs.Cited.{buses, hops, root_of, buses_le}
use Rattle.i2c_spec.proofs.AddressLemmas.{tree_of}
use Rattle.i2c_spec.proofs.CostLemmas.{hops_few}
use Rattle.i2c_board.proofs.layout.Layout.bill.Goals as goal

pub buses-requires : goal.buses-requires
buses-requires c = omega (arith, buses_le (board_of c.args.self.now) c.requires.plain)

pub full_cost-requires-clause-few : goal.full_cost-requires-clause-few
full_cost-requires-clause-few c = hops_few (board_of c.args.self.now) c.args.bus c.requires.plain c.requires.rules

pub returns-clause-bill : goal.returns-clause-bill
returns-clause-bill c =
    let b = board_of c.args.self.now in
    let bus = c.args.bus in
    let within : bus < buses b = omega (arith, c.buses.ensures, c.if-bus-buses.false) in
    let there : nat_lt bus (buses b) ≡ true = grind (arith, nat_tests, within) in
    let root = (tree_of b c.requires.plain c.requires.rules).root_is bus within in
    record {
      beside = ap (λ n. 1 + n) c.full_cost.ensures.value ∙ ap (λ v. cond v (1 + full_cost (hops b bus) 0) 1) (sym there);
      few = omega (arith, c.full_cost.ensures.small);
      root = ap Some c.root.ensures ∙ ap (λ v. cond v (Some (root_of b bus)) None) (sym there);
      near = omega (arith, c.root.ensures, root, c.requires.plain.most_roots);
    }
