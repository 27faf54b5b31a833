-- A board breaks one rule first: two refusals that tell of it are the same, and it doesn't meet the rules. One case for
-- each rule. No induction.
use Rattle.i2c_board.proofs.Cited.{◌≡◌, ℕ, zero, suc, ◌<◌, Bool, true, false, refl, sym, ap, subst, ◌∙◌, arith, BoardView, TellsBroken}
use Rattle.i2c_board.proofs.Cited.{IsFirstOne, NoPair, NoneOf, clashes, items, item_at, is_too_deep, is_locked_under, may_stay}
use Rattle.i2c_board.proofs.Cited.{stands_outside, breaks_idle, last_mux, locked_over}
use Rattle.std.specs.Prelude.{length, Some, unwrap_or}
use Rattle.std.proofs.lemmas.Bool.{false≢true}
use Rattle.i2c_base.specs.declared.rules.Item.{Item}
use Rattle.i2c_base.specs.declared.rules.RuleBroken.{RuleBroken}
use Rattle.i2c_spec.specs.Rules.{MeetsRules, IsFirstBroken, IsFirstPair, SecondOf, is_wrongly_locked}

-- a rule by its number holds
record Holds (b : BoardView) (rule : ℕ) : Type 0 where
  first : rule ≡ 1 → NoPair (clashes b) (items b)
  second : rule ≡ 2 → NoneOf (is_too_deep b) (length b.muxes)
  third : rule ≡ 3 → NoneOf (is_locked_under b) (length b.muxes)
  fourth : rule ≡ 4 → NoneOf (is_wrongly_locked b) (length b.muxes)
  fifth : rule ≡ 5 → NoneOf (breaks_idle b) (length b.muxes)

no_pair : (test : ℕ → ℕ → Bool) (n i j : ℕ) → IsFirstPair test n i j → NoPair test n → ⊥
no_pair test n i j f none = false≢true (sym (none i j f.order f.within) ∙ f.broken)

no_one : (test : ℕ → Bool) (n i : ℕ) → IsFirstOne test n i → NoneOf test n → ⊥
no_one test n i f none = false≢true (sym (none i f.within) ∙ f.broken)

broken_holds : (b : BoardView) (rule i j : ℕ) → IsFirstBroken b rule i j → Holds b rule → ⊥
broken_holds b zero i j f h = omega (arith, f.known.0)
broken_holds b (suc zero) i j f h = no_pair (clashes b) (items b) i j (f.first refl) (h.first refl)
broken_holds b (suc (suc zero)) i j f h = no_one (is_too_deep b) (length b.muxes) j (f.second refl).0 (h.second refl)
broken_holds b (suc (suc (suc zero))) i j f h = no_one (is_locked_under b) (length b.muxes) j (f.third refl).0 (h.third refl)
broken_holds b (suc (suc (suc (suc zero)))) i j f h = no_one (is_wrongly_locked b) (length b.muxes) j (f.fourth refl).0 (h.fourth refl)
broken_holds b (suc (suc (suc (suc (suc zero))))) i j f h = no_one (breaks_idle b) (length b.muxes) i (f.fifth refl).0 (h.fifth refl)
broken_holds b (suc (suc (suc (suc (suc (suc n)))))) i j f h = omega (arith, f.known.1)

-- a board that is told broken doesn't meet the rules
pub broken_breaks : (b : BoardView) (r : RuleBroken) → TellsBroken b r → MeetsRules b → ⊥
broken_breaks b r (i, j, first, second, f) meets =
    broken_holds b r.rule i j f
    (record {
      first = λ e. meets.addresses;
      second = λ e. meets.depths;
      third = λ e. meets.locks;
      fourth = λ e. meets.parents;
      fifth = λ e. meets.idles;
    })

-- the rules before the first broken one hold
before_holds : (b : BoardView) (rule before i j : ℕ) → IsFirstBroken b rule i j → before < rule → Holds b before
before_holds b rule before i j f low =
    record {
      first = λ e. f.addresses_hold (omega (arith, e, low));
      second = λ e. f.depths_hold (omega (arith, e, low));
      third = λ e. f.locks_hold (omega (arith, e, low));
      fourth = λ e. f.parents_hold (omega (arith, e, low));
      fifth = λ e. absurd (omega (arith, e, low, f.known.1));
    }

-- neither is below the other
level : (m n : ℕ) → (m < n → ⊥) → (n < m → ⊥) → m ≡ n
level m n not_below not_above = omega (arith, not_below, not_above)

one_rule : (b : BoardView) (r s i j k l : ℕ) → IsFirstBroken b r i j → IsFirstBroken b s k l → r ≡ s
one_rule b r s i j k l f g =
    level r s
    (λ low. broken_holds b r i j f (before_holds b s r k l g low))
    (λ low. broken_holds b s k l g (before_holds b r s i j f low))

-- the first one, and the first pair, is one
one_first : (test : ℕ → Bool) (n i j : ℕ) → IsFirstOne test n i → IsFirstOne test n j → i ≡ j
one_first test n i j f g =
    level i j
    (λ low. false≢true (sym (g.least i low) ∙ f.broken))
    (λ low. false≢true (sym (f.least j low) ∙ g.broken))

record Same (i j k l : ℕ) : Type 0 where
  first : i ≡ k
  second : j ≡ l

same_second : (test : ℕ → ℕ → Bool) (n i j l : ℕ) → IsFirstPair test n i j → IsFirstPair test n i l → j ≡ l
same_second test n i j l f g =
    level j l
    (λ low. false≢true (sym (g.then_least j f.order low) ∙ f.broken))
    (λ low. false≢true (sym (f.then_least l g.order low) ∙ g.broken))

one_pair : (test : ℕ → ℕ → Bool) (n i j k l : ℕ) → IsFirstPair test n i j → IsFirstPair test n k l → Same i j k l
one_pair test n i j k l f g =
    let first : i ≡ k =
    level i k
    (λ low. false≢true (sym (g.least i j low f.order f.within) ∙ f.broken))
    (λ low. false≢true (sym (f.least k l low g.order g.within) ∙ g.broken)) in
    record { first = first; second = same_second test n i j l f (subst (λ x. IsFirstPair test n x l) (sym first) g) }

-- where both items are the mux
twice : (i j k l : ℕ) → j ≡ l → i ≡ j → k ≡ l → Same i j k l
twice i j k l same one other = record { first = one ∙ same ∙ sym other; second = same }

under : (b : BoardView) (i j k l : ℕ) → j ≡ l → last_mux (locked_over b j) ≡ Some i → last_mux (locked_over b l) ≡ Some k → Same i j k l
under b i j k l same one other =
    let over : Some i ≡ Some k = sym one ∙ ap (λ m. last_mux (locked_over b m)) same ∙ other in
    record { first = ap (λ o. unwrap_or o i) over; second = same }

-- what rule 5 names beside a mux is one
named : (b : BoardView) (i j k l : ℕ) → i ≡ k → SecondOf b i j → SecondOf b k l → Same i j k l
named b i j k l same one other = by (may_stay b i) refl
  where
    here : SecondOf b i l
    here = subst (λ m. SecondOf b m l) (sym same) other

    by : (t : Bool) → may_stay b i ≡ t → Same i j k l
    by true e = record { first = same; second = one_first (stands_outside b i) (items b) j l (one.shared e) (here.shared e) }
    by false e = record { first = same; second = one.again e ∙ sym (here.again e) }

same_items : (b : BoardView) (rule i j k l : ℕ) → IsFirstBroken b rule i j → IsFirstBroken b rule k l → Same i j k l
same_items b zero i j k l f g = absurd (omega (arith, f.known.0))
same_items b (suc zero) i j k l f g = one_pair (clashes b) (items b) i j k l (f.first refl) (g.first refl)
same_items b (suc (suc zero)) i j k l f g =
    twice i j k l (one_first (is_too_deep b) (length b.muxes) j l (f.second refl).0 (g.second refl).0) (f.second refl).1 (g.second refl).1
same_items b (suc (suc (suc zero))) i j k l f g =
    under b i j k l (one_first (is_locked_under b) (length b.muxes) j l (f.third refl).0 (g.third refl).0) (f.third refl).1 (g.third refl).1
same_items b (suc (suc (suc (suc zero)))) i j k l f g =
    twice i j k l (one_first (is_wrongly_locked b) (length b.muxes) j l (f.fourth refl).0 (g.fourth refl).0) (f.fourth refl).1
    (g.fourth refl).1
same_items b (suc (suc (suc (suc (suc zero))))) i j k l f g =
    named b i j k l (one_first (breaks_idle b) (length b.muxes) i k (f.fifth refl).0 (g.fifth refl).0) (f.fifth refl).1 (g.fifth refl).1
same_items b (suc (suc (suc (suc (suc (suc n)))))) i j k l f g = absurd (omega (arith, f.known.1))

broken_of : (rule rule_now : ℕ) (one one_now other other_now : Item) → rule ≡ rule_now → one ≡ one_now → other ≡ other_now
    → ◌≡◌ {A = RuleBroken} (record { rule = rule; first = one; second = other })
    (record { rule = rule_now; first = one_now; second = other_now })
broken_of rule rule_now one one_now other other_now e f g = cc

-- a board is told broken in one way
pub one_broken : (b : BoardView) (r s : RuleBroken) → TellsBroken b r → TellsBroken b s → r ≡ s
one_broken b r s (i, j, one, other, f) (k, l, one_now, other_now, g) =
    let rule : r.rule ≡ s.rule = one_rule b r.rule s.rule i j k l f g in
    let same = same_items b s.rule i j k l (subst (λ n. IsFirstBroken b n i j) rule f) g in
    broken_of r.rule s.rule r.first s.first r.second s.second rule
    (one ∙ ap (item_at b) same.first ∙ sym one_now)
    (other ∙ ap (item_at b) same.second ∙ sym other_now)
