-- What one command or one transfer more adds to the roots that are named, and to the other totals.
use Rattle.caller_core.proofs.Cited.{◌≡◌, ℕ, zero, suc, ◌+◌, ◌*◌, ◌^◌, ◌<◌, ◌≤◌, inl, inr, Bool, true, false, cond, List, [], ◌∷◌, ◌++◌}
use Rattle.caller_core.proofs.Cited.{length, take, get_or, Some, None, refl, sym, ap, subst, ◌∙◌, arith, ◌==◌, list_any, bit_at}
use Rattle.caller_core.proofs.Cited.{option_map_or, eqb_tells, take_more, list_any-append, BoardView, MOST_BYTES, TransferView, cost_of}
use Rattle.caller_core.proofs.Cited.{buses, root_of, root_named, transfers_of, most_brought, names_root, command_names, HasBits}
use Rattle.caller_core.proofs.Cited.{command_talk, CommandView, Totals}
use Rattle.std.proofs.Common.{◌%◌, max}
use Rattle.std.specs.Prelude.{nat_lt, bit_or, ◌||◌, ◌&&◌}
use Rattle.std.specs.List.{sum_by}
use Rattle.std.proofs.lemmas.List.Sums.{sum_by_push}
use Rattle.std.proofs.lemmas.Nat.Bits.{bit_at-zero, bit_at_or, bit_at-pow_same, bit_at-pow_other}
use Rattle.i2c_base.specs.declared.transfer.Msg.{Msg}
use Rattle.tools.specs.Dialogues.{AreAlike}

-- a byte with one bit
pub shifted : (k : ℕ) → k < 8 → 1 * 2 ^ k % 256 ≡ 2 ^ k
shifted zero h = refl
shifted (suc zero) h = refl
shifted (suc (suc zero)) h = refl
shifted (suc (suc (suc zero))) h = refl
shifted (suc (suc (suc (suc zero)))) h = refl
shifted (suc (suc (suc (suc (suc zero))))) h = refl
shifted (suc (suc (suc (suc (suc (suc zero)))))) h = refl
shifted (suc (suc (suc (suc (suc (suc (suc zero))))))) h = refl
shifted (suc (suc (suc (suc (suc (suc (suc (suc k)))))))) h = absurd (omega arith)

-- the number with the bit of a transfer's root alone
abbrev pub root_bits : BoardView → TransferView → ℕ
root_bits b t = cond (nat_lt t.bus (buses b)) (2 ^ root_of b t.bus) 0

-- .. by the root that its bus names
pub named_bit : (b : BoardView) (t : TransferView) → option_map_or (λ r. 2 ^ r) (root_named b t.bus) 0 ≡ root_bits b t
named_bit b t = elim (nat_lt t.bus (buses b)) as
    (λ v. option_map_or (λ r. 2 ^ r) (cond v (Some (root_of b t.bus)) None) 0 ≡ cond v (2 ^ root_of b t.bus) 0)
    [ true ↦ refl | false ↦ refl ]

one_bit : (k r : ℕ) → bit_at (2 ^ k) r ≡ cond (k == r) 1 0
one_bit k r =
    elim (eqb_tells k r) [
      | inl h ↦ subst (λ (j : ℕ). bit_at (2 ^ k) j ≡ 1) h.1 (bit_at-pow_same k) ∙ sym (ap (λ (v : Bool). cond v 1 0) h.0)
      | inr h ↦ bit_at-pow_other k r (λ e. h.1 (sym e)) ∙ sym (ap (λ (v : Bool). cond v 1 0) h.0)
    ]

root_bit_at : (b : BoardView) (t : TransferView) (r : ℕ) → bit_at (root_bits b t) r ≡ cond (names_root b r t) 1 0
root_bit_at b t r =
    elim (nat_lt t.bus (buses b)) as (λ v. bit_at (cond v (2 ^ root_of b t.bus) 0) r ≡ cond (v && (root_of b t.bus == r)) 1 0) [
      | true ↦ one_bit (root_of b t.bus) r
      | false ↦ bit_at-zero r
    ]

or_bits : (x y : Bool) → max (cond x 1 0) (cond y 1 0) ≡ cond (x || (y || false)) 1 0
or_bits true true = refl
or_bits true false = refl
or_bits false true = refl
or_bits false false = refl

no_bits : {X : Type 0} (test : ℕ → X → Bool) → HasBits test [] 0
no_bits test = record { exactly = bit_at-zero }

-- the bits of one more
pub record IsBit {X : Type 0} (test : ℕ → X → Bool) (x : X) (bit : ℕ) : Type 0 where
  pub exactly : (r : ℕ) → bit_at bit r ≡ cond (test r x) 1 0

module _ {X : Type 0} (test : ℕ → X → Bool) (xs : List X) where
  bits_push : (x : X) (bits bit : ℕ) → HasBits test xs bits → IsBit test x bit → HasBits test (xs ++ x ∷ []) (bit_or bits bit)
  bits_push x bits bit had one = record { exactly = at }
    where
      at : (r : ℕ) → bit_at (bit_or bits bit) r ≡ cond (list_any (test r) (xs ++ x ∷ [])) 1 0
      at r =
          bit_at_or bits bit r ∙ ap (λ (k : ℕ). max k (bit_at bit r)) (had.exactly r)
          ∙ ap (λ (k : ℕ). max (cond (list_any (test r) xs) 1 0) k) (one.exactly r)
          ∙ or_bits (list_any (test r) xs) (test r x)
          ∙ ap (λ (v : Bool). cond v 1 0) (sym (list_any-append (test r) xs (x ∷ [])))

bits_more : {X : Type 0} (test : ℕ → X → Bool) (xs : List X) (i : ℕ) (x : X) (bits bit : ℕ) → i < length xs → x ≡ get_or xs i x
    → HasBits test (take i xs) bits → IsBit test x bit → HasBits test (take (i + 1) xs) (bit_or bits bit)
bits_more test xs i x bits bit within at had one =
    let more : take (i + 1) xs ≡ take i xs ++ x ∷ [] = take_more xs i x within ∙ ap (λ y. take i xs ++ y ∷ []) (sym at) in
    rw more (bits_push test (take i xs) x bits bit had one)

-- a root's bit is that of the transfer which names it, and the bits of a command's transfers are those of the command
pub transfer_bit : (b : BoardView) (t : TransferView) (bit : ℕ) → bit ≡ root_bits b t → IsBit (names_root b) t bit
transfer_bit b t bit e = record { exactly = λ r. ap (λ (n : ℕ). bit_at n r) e ∙ root_bit_at b t r }

pub command_bits : (b : BoardView) (c : CommandView) (bits : ℕ) → HasBits (names_root b) (transfers_of (command_talk c)) bits
    → IsBit (command_names b) c bits
command_bits b c bits had = record { exactly = had.exactly }

sum_more : {X : Type 0} (f : X → ℕ) (xs : List X) (i : ℕ) (x : X) (sum : ℕ) → i < length xs → x ≡ get_or xs i x
    → sum ≡ sum_by f (take i xs) → sum + f x ≡ sum_by f (take (i + 1) xs)
sum_more f xs i x sum within at e =
    let more : take (i + 1) xs ≡ take i xs ++ x ∷ [] = take_more xs i x within ∙ ap (λ y. take i xs ++ y ∷ []) (sym at) in
    omega (arith, e, ap (sum_by f) more, sum_by_push f (take i xs) x)

-- sums over the first elements, with a bound for each element
module _ {X : Type 0} (costs counts brings : X → ℕ) (names : ℕ → X → Bool) (most_cost most_replies most_bytes : ℕ) where
  pub record AreSums (xs : List X) (i : ℕ) (t : Totals) : Type 0 where
    pub cost : t.cost ≡ sum_by costs (take i xs)
    pub small : t.cost ≤ most_cost * i
    pub replies : t.replies ≡ sum_by counts (take i xs)
    pub few : t.replies ≤ most_replies * i
    pub bytes : t.bytes ≡ sum_by brings (take i xs)
    pub few_bytes : t.bytes ≤ most_bytes * i
    pub roots : HasBits names (take i xs) t.roots

  pub record IsOne (x : X) (one : Totals) : Type 0 where
    pub cost : one.cost ≡ costs x
    pub small : one.cost ≤ most_cost
    pub replies : one.replies ≡ counts x
    pub few : one.replies ≤ most_replies
    pub bytes : one.bytes ≡ brings x
    pub few_bytes : one.bytes ≤ most_bytes
    pub roots : IsBit names x one.roots

  pub sums_none : (xs : List X) → AreSums xs 0 (record { cost = 0; replies = 0; bytes = 0; roots = 0 })
  sums_none xs = record {
    cost = refl;
    small = omega arith;
    replies = refl;
    few = omega arith;
    bytes = refl;
    few_bytes = omega arith;
    roots = no_bits names;
  }

  pub sums_more : (xs : List X) (i : ℕ) (x : X) (t one : Totals) → AreSums xs i t → i < length xs → x ≡ get_or xs i x → IsOne x one
      → AreSums xs (i + 1) (record {
        cost = t.cost + one.cost;
        replies = t.replies + one.replies;
        bytes = t.bytes + one.bytes;
        roots = bit_or t.roots one.roots;
      })
  sums_more xs i x t one was within at is = record {
    cost = ap (λ k. t.cost + k) is.cost ∙ sum_more costs xs i x t.cost within at was.cost;
    small = omega (arith, was.small, is.small);
    replies = ap (λ k. t.replies + k) is.replies ∙ sum_more counts xs i x t.replies within at was.replies;
    few = omega (arith, was.few, is.few);
    bytes = ap (λ k. t.bytes + k) is.bytes ∙ sum_more brings xs i x t.bytes within at was.bytes;
    few_bytes = omega (arith, was.few_bytes, is.few_bytes);
    roots = bits_more names xs i x t.roots one.roots within at was.roots is.roots;
  }

-- one transfer adds what another does that asks for the same
abbrev pub IsOneTransfer : BoardView → TransferView → Totals → Type 0
IsOneTransfer b t one = IsOne (cost_of b) (λ u. 1) most_brought (names_root b) (2 ^ 32) 1 MOST_BYTES t one

-- what is told by bus and messages alone
alike_by : {A : Type 0} (f : ℕ → List Msg → A) (t u : TransferView) → AreAlike t u → f t.bus t.msgs ≡ f u.bus u.msgs
alike_by f t u a = ap (λ (n : ℕ). f n t.msgs) a.bus ∙ ap (f u.bus) a.msgs

pub one_alike : (b : BoardView) (t u : TransferView) (one : Totals) → AreAlike t u → IsOneTransfer b t one → IsOneTransfer b u one
one_alike b t u one a is = record {
  cost = is.cost ∙ alike_by (λ n ms. cost_of b (record t { bus = n; msgs = ms })) t u a;
  small = is.small;
  replies = is.replies;
  few = is.few;
  bytes = is.bytes ∙ alike_by (λ n ms. most_brought (record t { bus = n; msgs = ms })) t u a;
  few_bytes = is.few_bytes;
  roots = record {
    exactly = λ r. is.roots.exactly r ∙ alike_by (λ n ms. cond (names_root b r (record t { bus = n; msgs = ms })) 1 0) t u
        a;
  };
}
