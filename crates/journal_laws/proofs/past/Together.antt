-- All callers together spend no more than what they have left at the beginning. The inductions go over the entries, and
-- over the callers.
use Rattle.journal_laws.proofs.Cited.{◌≡◌, ℕ, zero, suc, ◌+◌, ◌*◌, ◌<◌, ◌≤◌, Bool, true, false, cond, List, [], ◌∷◌, ◌++◌, length}
use Rattle.journal_laws.proofs.Cited.{length-append, reverse, Option, Some, None, eqb, refl, sym, ap, subst, inl, inr, arith, option_map_or}
use Rattle.journal_laws.proofs.Cited.{eqb_tells, length-reverse, End, Entry, PortCall, Reply, BoardView, Fits, TransferView, root_of}
use Rattle.journal_laws.proofs.Cited.{IsTree, MeetsRules, cost_of, Asks, changed_at, Act, Take, Free, Send, Shift, Settle, Note, job_bus}
use Rattle.journal_laws.proofs.Cited.{first_act, first_note, caller_of, replies, Now, current, now, talk_of, line_call, sent_by, lined_by}
use Rattle.journal_laws.proofs.Cited.{IsStepwise, Turn, turns, turn_of, IsPlaced, KeepsSettles, AsksForMessages, Count, one_entry}
use Rattle.journal_laws.proofs.Cited.{its_bytes, its_calls, bytes_in, calls_for, of_caller, cost_at, cost_from, IsWithinCost, KeepsFits}
use Rattle.journal_laws.proofs.Cited.{settles-kept, entry_known}
use Rattle.i2c_base.specs.declared.entry.Entry.TheVariants as entry
use Rattle.i2c_base.specs.declared.errno.Errno.TheVariants as errno
use Rattle.i2c_base.specs.declared.reply.Reply.TheVariants as reply
use Rattle.bus_spec.specs.Schedule.{with_entry, joins}
use Rattle.journal_laws.specs.Spent.{CoversCosts, sum_below, all_bytes, AreWithin}
use Rattle.journal_laws.proofs.past.Fits.{fits-kept}
use Rattle.journal_laws.proofs.past.Spent.{cost_more, caller-spends}

-- WHAT IS LEFT of a caller's own bound covers what its transfers cost
module _ (b : BoardView) (asks : Asks) (c : ℕ) (left : List Reply → ℕ) (covers : CoversCosts b (asks c) left) where
  -- the one that is under way has its cost left
  covers_next : (rs : List Reply) (o : Option TransferView) → asks c rs ≡ o → option_map_or (cost_of b) o 0 ≤ left rs
  covers_next rs None e = omega arith
  covers_next rs (Some t) e = (let falls = covers rs t (reply.Err errno.Eio) e tt in omega (arith, falls))

  abbrev Covered : List Reply → Type 0
  Covered rs = cost_from b (asks c) [] rs + left rs ≤ left [] + cost_at b (asks c) rs

  one_settle : (rs : List Reply) (r : Reply) (t : TransferView) → asks c rs ≡ Some t → Fits t r → Covered rs → Covered (rs ++ r ∷ [])
  one_settle rs r t asked fits before =
      let falls : left (rs ++ r ∷ []) + cost_of b t ≤ left rs = covers rs t r asked fits in
      let cost : cost_at b (asks c) rs ≡ cost_of b t = ap (λ (o : Option TransferView). option_map_or (cost_of b) o 0) asked in
      let more : cost_from b (asks c) [] (rs ++ r ∷ []) ≡ cost_from b (asks c) [] rs + cost_at b (asks c) (rs ++ r ∷ []) = cost_more b
      (asks c) [] rs r in
      omega (arith, falls, cost, more, before)

  own_settle : (r : Reply) (past : List Entry) (o : Option TransferView) → asks c (replies past c) ≡ o → IsPlaced b o c past
      → ((t : TransferView) → asks c (replies past c) ≡ Some t → Fits t r)
      → Covered (replies past c) → Covered (replies past c ++ r ∷ [])
  own_settle r past None e placed fits before = absurd placed
  own_settle r past (Some t) e placed fits before = one_settle (replies past c) r t e (fits t e) before

  by_settle : (d : ℕ) (r : Reply) (past : List Entry) → IsPlaced b (asks d (replies past d)) d past
      → ((t : TransferView) → asks d (replies past d) ≡ Some t → Fits t r)
      → Covered (replies past c) → Covered (cond (eqb d c) (replies past c ++ r ∷ []) (replies past c))
  by_settle d r past placed fits before =
      elim (eqb_tells d c) [
        | inl h ↦ subst (λ (mine : Bool). Covered (cond mine (replies past c ++ r ∷ []) (replies past c))) (sym h.0)
            (own_settle r past (asks c (replies past c)) refl
            (subst (λ (i : ℕ). IsPlaced b (asks i (replies past i)) i past) h.1 placed)
            (subst (λ (i : ℕ). (t : TransferView) → asks i (replies past i) ≡ Some t → Fits t r) h.1 fits) before)
        | inr h ↦ subst (λ (mine : Bool). Covered (cond mine (replies past c ++ r ∷ []) (replies past c))) (sym h.0) before
      ]

  covered : (past : List Entry) → KeepsSettles b asks past → KeepsFits asks past → Covered (replies past c)
  covered [] settles fits = omega arith
  covered (entry.Take d l ∷ past) settles fits = covered past settles.1 fits.1
  covered (entry.Free d l ∷ past) settles fits = covered past settles.1 fits.1
  covered (entry.Message d bus purpose part parts addr reading bytes heard e ∷ past) settles fits = covered past settles.1 fits.1
  covered (entry.Line d mux level failed ∷ past) settles fits = covered past settles.1 fits.1
  covered (entry.Settle d r cut ∷ past) settles fits = by_settle d r past settles.0.1 fits.0 (covered past settles.1 fits.1)

-- ALL ENTRIES are those of the callers
abbrev in_all : Count → List Entry → ℕ
in_all f [] = 0
in_all f (e ∷ past) = f e past + in_all f past

none_of : (n d x : ℕ) → n ≤ d → sum_below n (λ c. cond (eqb d c) x 0) ≡ 0
none_of zero d x high = refl
none_of (suc n) d x high =
    elim (eqb_tells d n) [
      | inl h ↦ absurd (omega (arith, h.1, high))
      | inr h ↦ (let none : sum_below n (λ c. cond (eqb d c) x 0) ≡ 0 = none_of n d x (omega (arith, high)) in
          let here : cond (eqb d n) x 0 ≡ 0 = ap (λ (t : Bool). cond t x 0) h.0 in omega (arith, none, here))
    ]

-- one number alone adds something
only_one : (n d x : ℕ) → d < n → sum_below n (λ c. cond (eqb d c) x 0) ≡ x
only_one zero d x low = absurd (omega (arith, low))
only_one (suc n) d x low =
    elim (eqb_tells d n) [
      | inl h ↦ (let none : sum_below n (λ c. cond (eqb d c) x 0) ≡ 0 = none_of n d x (omega (arith, h.1)) in
          let here : cond (eqb d n) x 0 ≡ x = ap (λ (t : Bool). cond t x 0) h.0 in omega (arith, none, here))
      | inr h ↦ (let apart : d ≡ n → ⊥ = h.1 in
          let rest : sum_below n (λ c. cond (eqb d c) x 0) ≡ x = only_one n d x (omega (arith, low, apart)) in
          let here : cond (eqb d n) x 0 ≡ 0 = ap (λ (t : Bool). cond t x 0) h.0 in omega (arith, rest, here))
    ]

sum_both : (n : ℕ) (f g : ℕ → ℕ) → sum_below n (λ c. f c + g c) ≡ sum_below n f + sum_below n g
sum_both zero f g = omega arith
sum_both (suc n) f g = (let rest : sum_below n (λ c. f c + g c) ≡ sum_below n f + sum_below n g = sum_both n f g in omega (arith, rest))

sum_most : (n k : ℕ) (f g : ℕ → ℕ) → ((c : ℕ) → c < n → f c ≤ k * g c) → sum_below n f ≤ k * sum_below n g
sum_most zero k f g each = omega arith
sum_most (suc n) k f g each =
    let here : f n ≤ k * g n = each n (omega arith) in
    let rest : sum_below n f ≤ k * sum_below n g = sum_most n k f g (λ c low. each c (omega (arith, low))) in
    grind (arith, here, rest)

callers_all : (b : BoardView) (callers : ℕ) (asks : Asks) (f : Count) (past : List Entry) → IsStepwise b callers asks past
    → in_all f past ≡ sum_below callers (of_caller f past)
callers_all b callers asks f [] steps = sym (nothing callers)
  where
    nothing : (n : ℕ) → sum_below n (λ c. 0) ≡ 0
    nothing zero = refl
    nothing (suc n) = (let rest : sum_below n (λ c. 0) ≡ 0 = nothing n in omega (arith, rest))
callers_all b callers asks f (e ∷ past) steps =
    let rest : in_all f past ≡ sum_below callers (of_caller f past) = callers_all b callers asks f past steps.1 in
    let one : sum_below callers (λ c. cond (eqb (caller_of e) c) (f e past) 0) ≡ f e past = only_one callers (caller_of e) (f e past)
    (entry_known b callers asks (now b asks past) e steps.0) in
    let both : sum_below callers (of_caller f (e ∷ past)) ≡ sum_below callers
    (λ c. cond (eqb (caller_of e) c) (f e past) 0) + sum_below callers (of_caller f past) =
    sum_both callers (λ c. cond (eqb (caller_of e) c) (f e past) 0) (of_caller f past) in
    omega (arith, rest, one, both)

entries_all : (past : List Entry) → length past ≡ in_all one_entry past
entries_all [] = refl
entries_all (e ∷ past) = (let rest : length past ≡ in_all one_entry past = entries_all past in omega (arith, rest))

bytes_all : (past : List Entry) → all_bytes past ≡ in_all its_bytes past
bytes_all [] = refl
bytes_all (e ∷ past) = ap (λ (n : ℕ). length (bytes_in e) + n) (bytes_all past)

-- an entry makes its calls on one root
module _ (b : BoardView) where
  root_grows : (calls : ℕ → List PortCall) (s r : ℕ) (more : List PortCall)
      → length (changed_at calls s (more ++ calls s) r) ≤ length more + length (calls r)
  root_grows calls s r more =
      elim (eqb_tells r s) [
        | inl h ↦ (let at : length (changed_at calls s (more ++ calls s) r) ≡ length (more ++ calls s) = ap
            (λ (t : Bool). length (cond t (more ++ calls s) (calls r))) h.0 in
            let there : length (calls s) ≡ length (calls r) = ap (λ (i : ℕ). length (calls i)) (sym h.1) in
            omega (arith, at, length-append more (calls s), there))
        | inr h ↦ (let at : length (changed_at calls s (more ++ calls s) r) ≡ length (calls r) = ap
            (λ (t : Bool). length (cond t (more ++ calls s) (calls r))) h.0 in omega (arith, at))
      ]

  sent_grows : (n : Now) (c r : ℕ) (o : Option Act) (note : Note) (bus : ℕ) (why : _) (part parts addr : ℕ) (reading : Bool)
      (bytes : List ℕ) (heard : _) (en : End)
      → length ((sent_by b n c o note reading bytes en).calls r) ≤ calls_for b n o
      (entry.Message c bus why part parts addr reading bytes heard en) + length (n.calls r)
  sent_grows n c r None note bus why part parts addr reading bytes heard en = omega arith
  sent_grows n c r (Some (Take l)) note bus why part parts addr reading bytes heard en = omega arith
  sent_grows n c r (Some (Free l)) note bus why part parts addr reading bytes heard en = omega arith
  sent_grows n c r (Some (Shift job)) note bus why part parts addr reading bytes heard en = omega arith
  sent_grows n c r (Some (Settle v)) note bus why part parts addr reading bytes heard en = omega arith
  sent_grows n c r (Some (Send job left)) note bus why part parts addr reading bytes heard en = root_grows n.calls
      (root_of b (job_bus job)) r (talk_of b n job left en).calls

  lined_grows : (n : Now) (c r : ℕ) (o : Option Act) (note : Note) (mux level : ℕ) (failed : Bool)
      → length ((lined_by b n o note failed).calls r) ≤ calls_for b n o (entry.Line c mux level failed) + length (n.calls r)
  lined_grows n c r None note mux level failed = omega arith
  lined_grows n c r (Some (Take l)) note mux level failed = omega arith
  lined_grows n c r (Some (Free l)) note mux level failed = omega arith
  lined_grows n c r (Some (Send job left)) note mux level failed = omega arith
  lined_grows n c r (Some (Settle v)) note mux level failed = omega arith
  lined_grows n c r (Some (Shift job)) note mux level failed = root_grows n.calls (root_of b (job_bus job)) r (line_call job failed ∷ [])

  calls_all : (asks : Asks) (r : ℕ) (past : List Entry) → length ((now b asks past).calls r) ≤ in_all (its_calls b asks) past
  calls_all asks r [] = omega arith
  calls_all asks r (entry.Take c l ∷ past) =
      (let rest : length ((now b asks past).calls r) ≤ in_all (its_calls b asks) past = calls_all asks r past in omega (arith, rest))
  calls_all asks r (entry.Free c l ∷ past) =
      (let rest : length ((now b asks past).calls r) ≤ in_all (its_calls b asks) past = calls_all asks r past in omega (arith, rest))
  calls_all asks r (entry.Settle c x cut ∷ past) =
      (let rest : length ((now b asks past).calls r) ≤ in_all (its_calls b asks) past = calls_all asks r past in omega (arith, rest))
  calls_all asks r (entry.Line c mux level failed ∷ past) =
      let rest : length ((now b asks past).calls r) ≤ in_all (its_calls b asks) past = calls_all asks r past in
      omega (
        arith,
        rest,
        lined_grows (now b asks past) c r (first_act (current b asks (now b asks past) c))
            (first_note (current b asks (now b asks past) c)) mux level failed,
      )
  calls_all asks r (entry.Message c bus why part parts addr reading bytes heard en ∷ past) =
      let rest : length ((now b asks past).calls r) ≤ in_all (its_calls b asks) past = calls_all asks r past in
      omega (
        arith,
        rest,
        sent_grows (now b asks past) c r (first_act (current b asks (now b asks past) c))
            (first_note (current b asks (now b asks past) c)) bus why part parts addr reading bytes heard en,
      )

-- the steps are no more than the entries
turns_few : (es : List Entry) → length (turns es) ≤ length es
turns_few [] = omega arith
turns_few (e ∷ es) = (let rest : length (turns es) ≤ length es = turns_few es in
    let more : length (with_entry e (turns es)) ≤ suc (length (turns es)) = with_few (turns es) in omega (arith, rest, more))
  where
    with_few : (ts : List Turn) → length (with_entry e ts) ≤ suc (length ts)
    with_few [] = omega arith
    with_few (t ∷ ts) = by (joins e t.entries t.caller)
      where
        by : (x : Bool) → length (cond x ((record { caller = caller_of e; entries = e ∷ t.entries }) ∷ ts) (turn_of e ∷ t ∷ ts)) ≤ suc
            (length (t ∷ ts))
        by true = omega arith
        by false = omega arith

module _ (b : BoardView) (tree : IsTree b) (rules : MeetsRules b) (asks : Asks) (some : AsksForMessages asks) (callers : ℕ)
    (past : List Entry)
    (steps : IsStepwise b callers asks past) where
  -- a caller within its own bound
  pub bound-spends : (c : ℕ) (left : List Reply → ℕ) → CoversCosts b (asks c) left
      → IsWithinCost (left []) (of_caller one_entry past c) (of_caller its_bytes past c) (of_caller (its_calls b asks) past c)
  bound-spends c left covers =
      let spends = caller-spends b tree rules asks some callers past steps c in
      let all : cost_from b (asks c) [] (replies past c) + left (replies past c) ≤ left [] + cost_at b (asks c) (replies past c) =
      covered b asks c left covers past (settles-kept b asks some callers past steps) (fits-kept b asks some callers past steps) in
      let next : cost_at b (asks c) (replies past c) ≤ left (replies past c) = covers_next b asks c left covers (replies past c)
      (asks c (replies past c)) refl in
      record {
        entries_within = omega (arith, spends.entries_within, all, next);
        bytes_within = omega (arith, spends.bytes_within, all, next);
        calls_within = omega (arith, spends.calls_within, all, next);
      }

  -- ALL TOGETHER
  pub together-spend : (left : ℕ → List Reply → ℕ) → ((c : ℕ) → c < callers → CoversCosts b (asks c) (left c))
      → AreWithin b asks past (sum_below callers (λ c. left c []))
  together-spend left covers =
      let entries : length past ≡ in_all one_entry past = entries_all past in
      let entries_sum : in_all one_entry past ≡ sum_below callers (of_caller one_entry past) =
      callers_all b callers asks one_entry past steps in
      let bytes : all_bytes past ≡ in_all its_bytes past = bytes_all past in
      let bytes_sum : in_all its_bytes past ≡ sum_below callers (of_caller its_bytes past) =
      callers_all b callers asks its_bytes past steps in
      let calls_sum : in_all (its_calls b asks) past ≡ sum_below callers (of_caller (its_calls b asks) past) = callers_all b callers asks
      (its_calls b asks) past steps in
      let most : sum_below callers (of_caller one_entry past) ≤ 1 * sum_below callers (λ c. left c []) =
      sum_most callers 1 (of_caller one_entry past) (λ c. left c []) (λ c low. let s = bound-spends c (left c) (covers c low) in
      omega (arith, s.entries_within)) in
      let most_bytes : sum_below callers (of_caller its_bytes past) ≤ 2 * sum_below callers (λ c. left c []) =
      sum_most callers 2 (of_caller its_bytes past) (λ c. left c []) (λ c low. (bound-spends c (left c) (covers c low)).bytes_within) in
      let most_calls : sum_below callers (of_caller (its_calls b asks) past) ≤ 2 * sum_below callers (λ c. left c []) =
      sum_most callers 2 (of_caller (its_calls b asks) past) (λ c. left c [])
      (λ c low. (bound-spends c (left c) (covers c low)).calls_within) in
      record {
        steps_within = (let few = turns_few (reverse past) in omega (arith, few, length-reverse past, entries, entries_sum, most));
        entries_within = omega (arith, entries, entries_sum, most);
        bytes_within = omega (arith, bytes, bytes_sum, most_bytes);
        calls_within = λ r. (let all = calls_all b asks r past in
            omega (arith, all, length-reverse ((now b asks past).calls r), calls_sum, most_calls));
      }
