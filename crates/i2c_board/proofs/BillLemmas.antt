-- What a transfer costs by the bill of its bus: by cases, whether the board has the bus.
use Rattle.i2c_board.proofs.Cited.{◌≡◌, ℕ, ◌+◌, true, false, cond, Some, None, ap, sym, ◌∙◌, arith, nat_lt, BoardView, full_cost, buses}
use Rattle.i2c_board.proofs.Cited.{hops, root_of}
use Rattle.i2c_base.specs.Transfer.{TransferView}
use Rattle.i2c_spec.specs.Cost.{steps_of, cost_of}
use Rattle.i2c_spec.proofs.CostLemmas.{full_more}
use Rattle.i2c_board.specs.Bills.{IsBill}
use Rattle.i2c_board.specs.declared.cost.BusBill.{BusBill}

-- on a bus that the board has, its own steps count
pub cost_there : (b : BoardView) (bill : BusBill) (t : TransferView) (root : ℕ) → IsBill b bill → t.bus ≡ bill.bus → bill.root ≡ Some root
    → bill.beside + steps_of b t ≡ cost_of b t
cost_there b bill t root is bus there =
    let steps : ℕ = steps_of b t in
    (elim (nat_lt bill.bus (buses b)) as (λ v. bill.beside ≡ cond v (1 + full_cost (hops b bill.bus) 0) 1
    → bill.root ≡ cond v (Some (root_of b bill.bus)) None
    → bill.beside + steps ≡ cond v (1 + full_cost (hops b bill.bus) steps) 1) [
      | true ↦ λ beside named. omega (arith, beside, full_more (hops b bill.bus) steps)
      | false ↦ λ beside named. absurd (let none : Some root ≡ None = sym there ∙ named in cc)
    ]) is.beside is.root ∙ ap (λ s. cond (nat_lt s (buses b)) (1 + full_cost (hops b s) steps) 1) (sym bus)
