-- What each step takes off what is owed. No induction.
use Rattle.core_laws.proofs.Cited.{◌≡◌, ◌<◌, ◌≤◌, ◌+◌, ◌-◌, ℕ, Bool, true, false, List, length, set, get_or, Option, Some, sym, ◌∙◌, ap}
use Rattle.core_laws.proofs.Cited.{arith, slice_get, slice_get_within, slice_get-get_or, sum_by-set, Errno, BoardView, TransferView}
use Rattle.core_laws.proofs.Cited.{cost_of, IsTree, Act, Settle, ActOutcome, Passed, WalkTree, Slots, walk_for, seen, first_act, rest_of}
use Rattle.core_laws.proofs.Cited.{weight_at, within-next, OwesUpTo, total}
use Rattle.i2c_spec.specs.Rules.{MeetsRules}
use Rattle.bus_laws.specs.Costs.{IsWithin}
use Rattle.bus_laws.proofs.walk.CostLaw.{walk-within}

module _ (b : BoardView) (w : WalkTree) (unsettled : Bool) (behind n : ℕ) (owes : OwesUpTo b w unsettled behind n) (v : Slots) (act : Act)
    (first : first_act (seen v w) ≡ Some act) where
  rest : (m : ℕ) × (weight_at b act + m ≤ owes.ahead) × ((out : ActOutcome) → IsWithin b (rest_of (seen v w) out) m)
  rest = within-next b v w owes.ahead owes.within act first

  -- a step takes off its weight
  pub owes-step : (out : ActOutcome) → (weight_at b act ≤ n) × OwesUpTo b (rest_of (seen v w) out) unsettled behind (n - weight_at b act)
  owes-step out =
      let low : weight_at b act + rest.0 ≤ owes.ahead = rest.1 in
      let most = owes.most in (
        omega (arith, low, most),
        record { ahead = rest.0; within = rest.2 out; most = omega (arith, low, most) },
      )

  -- .. and the one that ends a walk what its transfer cost: all that is left is for the transfers after it
  pub owes-end : (weight_at b act ≤ n) × (behind ≤ n - weight_at b act)
  owes-end = (let low : weight_at b act + rest.0 ≤ owes.ahead = rest.1 in let most = owes.most in
      (omega (arith, low, most), omega (arith, low, most)))

-- a settle takes off one
pub owes-settle : (b : BoardView) (w : WalkTree) (behind n : ℕ) → OwesUpTo b w true behind n → (v : Slots) (verdict : Option Errno)
    → first_act (seen v w) ≡ Some (Settle verdict)
    → (1 ≤ n) × OwesUpTo b (rest_of (seen v w) Passed) false behind (n - 1)
owes-settle b w behind n owes v verdict first =
    let next = within-next b v w owes.ahead owes.within (Settle verdict) first in
    let low : 0 + next.0 ≤ owes.ahead = next.1 in
    let most : owes.ahead + 1 + behind ≤ n = owes.most in (
      omega (arith, most),
      record { ahead = next.0; within = next.2 Passed; most = (let h : next.0 + 0 + behind ≤ n - 1 = omega (arith, low, most) in h) },
    )

-- what is left covers the next transfer
pub owes-load : (b : BoardView) → IsTree b → MeetsRules b → (t : TransferView) → 0 < length t.msgs → 1 ≤ cost_of b t → (left n : ℕ)
    → cost_of b t ≤ left → left ≤ n
    → OwesUpTo b (walk_for b t) true (left - cost_of b t) n
owes-load b tree rules t some costs left n covered fits =
    record {
      ahead = cost_of b t - 1;
      within = walk-within b tree rules t some;
      most = (let h : cost_of b t - 1 + 1 + (left - cost_of b t) ≤ n = omega (arith, costs, covered, fits) in h);
    }

-- the sum falls as one part does
pub total-set : (owes : List ℕ) (place n less : ℕ) → slice_get owes place ≡ Some n → total (set owes place less) + n ≡ total owes + less
total-set owes place n less here =
    let low : place < length owes = slice_get_within owes place n here in
    let sums : total (set owes place less) + get_or owes place 0 ≡ total owes + less = sum_by-set (λ k. k) owes place less 0 low in
    let is : get_or owes place 0 ≡ n = (let f : Some (get_or owes place 0) ≡ Some n = sym (slice_get-get_or owes place 0 low) ∙ here in
    cc) in
    ap (λ (k : ℕ). total (set owes place less) + k) (sym is) ∙ sums
