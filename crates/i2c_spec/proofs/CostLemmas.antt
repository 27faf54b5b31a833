-- What a job costs at the end of few hops fits in a number: an induction over the hops, each at most twelve times what is
-- below it. A job's own steps are added to that as they are. And an accepted board has few hops over a bus: the depth is
-- that of the bus that the nearest of them stands on, and one more.
use Rattle.std.proofs.Common.{◌≡◌, ℕ, zero, suc, ◌+◌, ◌*◌, ◌^◌, ◌<◌, ◌≤◌, nat_le, nat_lt, Bool, true, false, cond, List, [], ◌∷◌, length}
use Rattle.std.proofs.Common.{refl, sym, ◌∙◌, ap, subst, arith, rules, inl}
use Rattle.std.proofs.lemmas.Bool.Decides.{nat_tests}
use Rattle.std.specs.Prelude.{All, sum_by, get_or}
use Rattle.std.proofs.lemmas.List.Sums.{sum_by-le}
use Rattle.i2c_base.specs.declared.transfer.Msg.{Msg}
use Rattle.i2c_base.specs.Limits.{LARGEST_BLOCK, MOST_LENGTH, MOST_MESSAGES}
use Rattle.i2c_base.specs.Transfer.{TransferView, IsMessage, is_counted}
use Rattle.i2c_base.specs.Board.{BoardView}
use Rattle.i2c_base.specs.Muxes.{facts_of}
use Rattle.i2c_spec.specs.Tree.{Hop, hops, buses, depth, locks_of, home_of_mux, IsAmongHops}
use Rattle.i2c_spec.specs.Cost.{bytes_of, lock_steps, behind_by, behind_cost, inner_cost, full_cost, steps_of, cost_of}
use Rattle.i2c_spec.specs.Plain.{IsPlainBoard}
use Rattle.i2c_spec.specs.Rules.{MeetsRules}
use Rattle.i2c_spec.proofs.AddressLemmas.{tree_of}
use Rattle.i2c_base.specs.declared.board.MuxKind.{MuxKind}

bytes_by : (t : Bool) (limit len : ℕ) → limit ≤ LARGEST_BLOCK → len ≤ MOST_LENGTH → cond t (limit + len) len ≤ 767
bytes_by true limit len l h = omega (arith, l)
bytes_by false limit len l h = omega arith

pub bytes_few : (limit : ℕ) (ms : List Msg) → limit ≤ LARGEST_BLOCK → length ms ≤ MOST_MESSAGES → All IsMessage ms
    → sum_by (bytes_of limit) ms ≤ 32214
bytes_few limit ms l count each =
    omega (
      arith,
      sum_by-le (bytes_of limit) 767 ms
          (λ k d h. bytes_by (is_counted (get_or ms k d)) limit (get_or ms k d).len l (each k d h).0),
    )

-- a lock for each hop at most, and the root's
pub locks_few : (root : ℕ) (hs : List Hop) → length (locks_of root hs) ≤ length hs + 1
locks_few root [] = omega arith
locks_few root (h ∷ hs) =
    let more : length (cond h.parent (locks_of root hs) []) ≤ length hs + 1 =
    elim h.parent as (λ t. length (cond t (locks_of root hs) []) ≤ length hs + 1) [ true ↦ locks_few root hs | false ↦ omega arith ] in
    omega (arith, more)

-- at most so much at the end of so many hops
abbrev pub most_inner : ℕ → ℕ → ℕ
most_inner zero x = x
most_inner (suc n) x = 11 * most_inner n 2 + most_inner n x + 8 * (n + 1)

behind_le : (by_line asks : Bool) (control job : ℕ) → behind_by by_line asks control job ≤ 11 * control + job + 2
behind_le true asks control job = omega arith
behind_le false true control job = omega arith
behind_le false false control job = omega arith

inner_step : (parent by_line asks : Bool) (n locks control job : ℕ) → locks ≤ 2 * (n + 1)
    → cond parent (behind_by by_line asks control job) (3 * (locks + control) + (locks + job)) ≤ 11 * control + job + 8 * (n + 1)
inner_step true by_line asks n locks control job l = omega (arith, behind_le by_line asks control job)
inner_step false by_line asks n locks control job l = omega arith

inner_most : (hs : List Hop) (x : ℕ) → inner_cost hs x ≤ most_inner (length hs) x
inner_most [] x = omega arith
inner_most (h ∷ hs) x =
    let facts = facts_of h.kind in
    let step = inner_step h.parent facts.by_line facts.asks (length hs) (lock_steps hs) (inner_cost hs 2) (inner_cost hs x)
    (omega (arith, locks_few 0 hs)) in
    omega (arith, step, inner_most hs 2, inner_most hs x)

few_most : (n x : ℕ) → n ≤ 4 → x ≤ 2 → most_inner n x < 2 ^ 16
few_most zero x n small = omega arith
few_most (suc zero) x n small = omega arith
few_most (suc (suc zero)) x n small = omega arith
few_most (suc (suc (suc zero))) x n small = omega arith
few_most (suc (suc (suc (suc zero)))) x n small = omega arith
few_most (suc (suc (suc (suc (suc k))))) x n small = absurd (omega arith)

-- a control message of two steps, and a job of none
pub inner_small : (hs : List Hop) (x : ℕ) → length hs ≤ 4 → x ≤ 2 → inner_cost hs x < 2 ^ 16
inner_small hs x few small = omega (arith, inner_most hs x, few_most (length hs) x few small)

by_more : (by_line asks : Bool) (control job x : ℕ) → behind_by by_line asks control (job + x) ≡ behind_by by_line asks control job + x
by_more true asks control job x = omega arith
by_more false true control job x = omega arith
by_more false false control job x = omega arith

-- a job's own steps are counted beside what the way takes
pub behind_beside : (kind : MuxKind) (control job x : ℕ) → behind_cost kind control (job + x) ≡ behind_cost kind control job + x
behind_beside kind control job x = by_more (facts_of kind).by_line (facts_of kind).asks control job x

pub inner_more : (hs : List Hop) (x : ℕ) → inner_cost hs x ≡ inner_cost hs 0 + x
inner_more [] x = omega arith
inner_more (h ∷ hs) x =
    let more : inner_cost hs x ≡ inner_cost hs 0 + x = inner_more hs x in
    let control : ℕ = inner_cost hs 2 in
    let locks : ℕ = lock_steps hs in
    elim h.parent as (λ b. cond b (behind_cost h.kind control (inner_cost hs x)) (3 * (locks + control) + (locks + inner_cost hs x))
    ≡ cond b (behind_cost h.kind control (inner_cost hs 0)) (3 * (locks + control) + (locks + inner_cost hs 0)) + x) [
      | true ↦ rw more (behind_beside h.kind control (inner_cost hs 0) x)
      | false ↦ omega (arith, more)
    ]

-- a job costs its own steps beside what a job of none costs
pub full_more : (hs : List Hop) (x : ℕ) → full_cost hs x ≡ full_cost hs 0 + x
full_more hs x = omega (arith, inner_more hs x)

pub hops_few : (b : BoardView) (s : ℕ) → IsPlainBoard b → MeetsRules b → length (hops b s) ≤ 4
hops_few b s plain meets = by (hops b s) refl
  where
    by : (hs : List Hop) → hops b s ≡ hs → length hs ≤ 4
    by [] e = omega arith
    by (h ∷ hs) e =
        let tree = tree_of b plain meets in
        let is = tree.hop s h (subst (IsAmongHops h) (sym e) (inl refl)) in
        let below : nat_le 4 (depth b (home_of_mux b h.mux)) ≡ false = meets.depths h.mux is.mux in
        let rest : hops b (home_of_mux b h.mux) ≡ hs = ap (hops b) is.home ∙ tree.tail s h hs e in
        let test : nat_le 4 (length hs) ≡ false = ap (λ (xs : List Hop). nat_le 4 (length xs)) (sym rest) ∙ below in
        let short : length hs < 4 = search (rules, nat_tests) in
        omega (arith, short)

-- each transfer costs something
pub cost_some : (b : BoardView) (t : TransferView) → 1 ≤ cost_of b t
cost_some b t = elim (nat_lt t.bus (buses b)) as
    (λ v. 1 ≤ cond v (1 + full_cost (hops b t.bus) (steps_of b t)) 1) [ true ↦ omega arith | false ↦ omega arith ]
