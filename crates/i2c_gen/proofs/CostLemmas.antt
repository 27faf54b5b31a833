-- What the transfers on a generated board cost.
use Rattle.std.proofs.Common.{◌≡◌, ℕ, ◌+◌, ◌<◌, ◌≤◌, nat_lt, Bool, true, false, cond, refl, arith}
use Rattle.std.proofs.lemmas.Bool.Decides.{nat_tests}
use Rattle.i2c_base.specs.Transfer.{TransferView}
use Rattle.i2c_spec.specs.Cost.{full_cost, steps_of, cost_of}
use Rattle.i2c_spec.specs.Rules.{some_below}
use Rattle.i2c_spec.specs.Tree.{hops, buses}
use Rattle.i2c_gen.specs.Boards.{bus_of, made_board}
use Rattle.i2c_gen.proofs.BoardLemmas.{not_below, of_eight, within_by}
use Rattle.i2c_spec.proofs.CostLemmas.{inner_more}

below_from : (a b : ℕ) → nat_lt a b ≡ true → a < b
below_from a b h = grind (arith, nat_tests)

-- the way to some bus takes more steps than these
abbrev pub is_far : (roots bus : ℕ) → Bool
is_far roots bus = nat_lt 16 (full_cost (hops (made_board roots) bus) 0)

way_within : (roots bus : ℕ) → 1 ≤ roots → roots ≤ 8 → bus < buses (made_board roots) → full_cost (hops (made_board roots) bus) 0 ≤ 16
way_within roots bus some most there =
    within_by 16 (full_cost (hops (made_board roots) bus) 0) (not_below (is_far roots) (buses (made_board roots)) bus there
    (of_eight (λ k. some_below (is_far k) (buses (made_board k))) refl roots some most))

-- a transfer of few bytes, wherever it goes
pub few_cost : (roots : ℕ) → 1 ≤ roots → roots ≤ 8 → (t : TransferView)
    → steps_of (made_board roots) t ≤ 8 → cost_of (made_board roots) t ≤ 25
few_cost roots some most t few = by_bus (nat_lt t.bus (buses (made_board roots))) refl
  where
    by_bus : (there : Bool) → nat_lt t.bus (buses (made_board roots)) ≡ there
        → cond there (1 + full_cost (hops (made_board roots) t.bus) (steps_of (made_board roots) t)) 1 ≤ 25
    by_bus false h = omega arith
    by_bus true h =
        let hs = hops (made_board roots) t.bus in
        let way : full_cost hs 0 ≤ 16 = way_within roots t.bus some most (below_from t.bus (buses (made_board roots)) h) in
        omega (arith, way, few, inner_more hs (steps_of (made_board roots) t))

pub bus_cost : (roots root channel : ℕ) → 1 ≤ roots → roots ≤ 8 → root < roots → channel < 8
    → (t : TransferView) → t.bus ≡ bus_of roots root channel → steps_of (made_board roots) t ≤ 8 → cost_of (made_board roots) t ≤ 125
bus_cost roots root channel some most there within t bus few = omega (arith, few_cost roots some most t few)
