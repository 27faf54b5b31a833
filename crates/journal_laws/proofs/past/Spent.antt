-- No caller spends more than its transfers cost, and no walk more than its own. The induction goes over the entries.
use Rattle.journal_laws.proofs.Cited.{◌≡◌, ℕ, ◌+◌, ◌*◌, ◌≤◌, Bool, true, false, cond, List, [], ◌∷◌, ◌++◌, length, Option, Some, None, eqb}
use Rattle.journal_laws.proofs.Cited.{refl, sym, ◌∙◌, ap, subst, inl, inr, arith, append_assoc, option_map_or, eq-eqb, eqb_tells, Entry}
use Rattle.journal_laws.proofs.Cited.{Reply, BoardView, TransferView, IsTree, MeetsRules, cost_of, Asks, WalkTree, Ends, seen, is_over}
use Rattle.journal_laws.proofs.Cited.{first_act, caller_of, replies, Now, begun, now, step, transfer_at, May, IsStepwise, AsksForMessages}
use Rattle.journal_laws.proofs.Cited.{Settles, Count, one_entry, its_bytes, its_calls, of_caller, cost_at, cost_from, IsWithinCost}
use Rattle.journal_laws.proofs.Cited.{over_ends, settled-told, never, IsUntouched, entry-elsewhere}
use Rattle.journal_laws.specs.Spent.{of_walk, whose_walk}
use Rattle.journal_laws.proofs.past.Budgets.{IsBudget, IsPaid, budget-begins, budget-pays}

-- what the transfers cost that are settled, and the one behind
pub cost_more : (b : BoardView) (asks : List Reply → Option TransferView) (rs more : List Reply) (r : Reply)
    → cost_from b asks rs (more ++ r ∷ []) ≡ cost_from b asks rs more + cost_at b asks (rs ++ (more ++ r ∷ []))
cost_more b asks rs [] r = refl
cost_more b asks rs (x ∷ more) r =
    let later : cost_from b asks (rs ++ x ∷ []) (more ++ r ∷ []) ≡ cost_from b asks (rs ++ x ∷ []) more + cost_at b asks
    ((rs ++ x ∷ []) ++ (more ++ r ∷ [])) =
    cost_more b asks (rs ++ x ∷ []) more r in
    let same : cost_at b asks ((rs ++ x ∷ []) ++ (more ++ r ∷ [])) ≡ cost_at b asks (rs ++ (x ∷ more ++ r ∷ [])) =
    ap (cost_at b asks) (append_assoc rs (x ∷ []) (more ++ r ∷ [])) in
    omega (arith, later, same)

-- so much was spent, and is left
record Pays (spent_entries spent_bytes spent_calls got left most : ℕ) : Type 0 where
  entries : spent_entries + left ≤ most
  bytes : spent_bytes + got + 2 * left ≤ 2 * most
  calls : spent_calls + 2 * left ≤ 2 * most

-- what comes after the settle is paid for already
abbrev behind_settle : Bool → ℕ → ℕ
behind_settle done next = cond done next 0

-- what stands of a caller with this walk, these replies and these bytes read, which has spent so much, and on its last
-- walk, which is of this transfer
record Spends (b : BoardView) (asks : List Reply → Option TransferView) (w : WalkTree) (rs : List Reply) (got : List ℕ)
    (entries bytes calls : ℕ)
    (whose : Option TransferView) (walk_entries walk_bytes walk_calls : ℕ) : Type 0 where
  done : Bool
  most : ℕ
  budget : IsBudget b done w most
  empty : done ≡ true → got ≡ []
  all : Pays entries bytes calls (length got) (most + behind_settle done (cost_at b asks rs)) (cost_from b asks [] rs)
  own : (t : TransferView) → whose ≡ Some t → Pays walk_entries walk_bytes walk_calls (length got) most (cost_of b t)

abbrev SpendsAt : BoardView → Asks → List Entry → ℕ → WalkTree → Option TransferView → ℕ → ℕ → ℕ → Type 0
SpendsAt b asks past c w whose walk_entries walk_bytes walk_calls =
    Spends b (asks c) w ((now b asks past).settled c) ((now b asks past).got c)
    (of_caller one_entry past c) (of_caller its_bytes past c) (of_caller (its_calls b asks) past c) whose walk_entries walk_bytes walk_calls

-- at a place, and in front of the caller's next entry
abbrev SpendsSo : BoardView → Asks → List Entry → ℕ → Type 0
SpendsSo b asks past c =
    SpendsAt b asks past c ((now b asks past).walk c) (whose_walk b asks past c)
    (of_walk b asks one_entry past c) (of_walk b asks its_bytes past c) (of_walk b asks (its_calls b asks) past c)

-- .. where its walk is over, or isn't
abbrev NextIf : BoardView → Asks → List Entry → ℕ → Bool → Type 0
NextIf b asks past c x =
    SpendsAt b asks past c (cond x (begun b (asks c ((now b asks past).settled c))) ((now b asks past).walk c))
    (cond x (transfer_at asks past c) (whose_walk b asks past c))
    (cond x 0 (of_walk b asks one_entry past c)) (cond x 0 (of_walk b asks its_bytes past c))
    (cond x 0 (of_walk b asks (its_calls b asks) past c))

abbrev unless_over : BoardView → Asks → Count → List Entry → ℕ → ℕ
unless_over b asks f past c = cond (is_over ((now b asks past).walk c)) 0 (of_walk b asks f past c)

abbrev whose_next : BoardView → Asks → List Entry → ℕ → Option TransferView
whose_next b asks past c = cond (is_over ((now b asks past).walk c)) (transfer_at asks past c) (whose_walk b asks past c)

abbrev SpendsNext : BoardView → Asks → List Entry → ℕ → Type 0
SpendsNext b asks past c = NextIf b asks past c (is_over ((now b asks past).walk c))

caller_own : (f : Count) (e : Entry) (past : List Entry) → of_caller f (e ∷ past) (caller_of e) ≡ f e past + of_caller f past (caller_of e)
caller_own f e past = ap (λ (x : Bool). cond x (f e past) 0 + of_caller f past (caller_of e)) (eq-eqb (caller_of e) (caller_of e) refl)

caller_other : (f : Count) (e : Entry) (past : List Entry) (c : ℕ) → eqb (caller_of e) c ≡ false
    → of_caller f (e ∷ past) c ≡ of_caller f past c
caller_other f e past c other =
    (let none : of_caller f (e ∷ past) c ≡ 0 + of_caller f past c = ap (λ (x : Bool). cond x (f e past) 0 + of_caller f past c) other in
    omega (arith, none))

module _ (b : BoardView) (asks : Asks) where
  walk_own : (f : Count) (e : Entry) (past : List Entry)
      → of_walk b asks f (e ∷ past) (caller_of e) ≡ f e past + unless_over b asks f past (caller_of e)
  walk_own f e past =
      ap (λ (x : Bool). cond x (f e past + unless_over b asks f past (caller_of e)) (of_walk b asks f past (caller_of e)))
      (eq-eqb (caller_of e) (caller_of e) refl)

  walk_other : (f : Count) (e : Entry) (past : List Entry) (c : ℕ) → eqb (caller_of e) c ≡ false
      → of_walk b asks f (e ∷ past) c ≡ of_walk b asks f past c
  walk_other f e past c other = ap (λ (x : Bool). cond x (f e past + unless_over b asks f past c) (of_walk b asks f past c)) other

  whose_own : (e : Entry) (past : List Entry) → whose_walk b asks (e ∷ past) (caller_of e) ≡ whose_next b asks past (caller_of e)
  whose_own e past =
      ap (λ (x : Bool). cond x (whose_next b asks past (caller_of e)) (whose_walk b asks past (caller_of e)))
      (eq-eqb (caller_of e) (caller_of e) refl)

  whose_other : (e : Entry) (past : List Entry) (c : ℕ) → eqb (caller_of e) c ≡ false
      → whose_walk b asks (e ∷ past) c ≡ whose_walk b asks past c
  whose_other e past c other = ap (λ (x : Bool). cond x (whose_next b asks past c) (whose_walk b asks past c)) other

module _ (b : BoardView) (tree : IsTree b) (rules : MeetsRules b) (asks : Asks) (some : AsksForMessages asks) (callers : ℕ) where
  -- a walk begins with its transfer's cost
  begins_at : (past : List Entry) (e : Entry) → May b callers asks (now b asks past) e → SpendsSo b asks past (caller_of e)
      → SpendsNext b asks past (caller_of e)
  begins_at past e may so = by (is_over (n.walk c)) refl
    where
      c : ℕ
      c = caller_of e

      n : Now
      n = now b asks past

      settled_is : n.settled c ≡ replies past c
      settled_is = settled-told b asks past c

      begin : is_over (n.walk c) ≡ true → (o : Option TransferView) → asks c (n.settled c) ≡ o → NextIf b asks past (caller_of e) true
      begin over None e2 =
          absurd (never b callers asks n e may
          (ap (λ (x : Bool). first_act (seen n.slot (cond x (begun b (asks c (n.settled c))) (n.walk c)))) over
          ∙ ap (λ (o : Option TransferView). first_act (seen n.slot (begun b o))) e2))
      begin over (Some t) asked =
          let ended : Settles so.done Ends = subst (λ (w : WalkTree). Settles so.done w) (over_ends (n.walk c) over) so.budget.settles in
          let cost : cost_at b (asks c) (n.settled c) ≡ cost_of b t = ap
          (λ (o : Option TransferView). option_map_or (cost_of b) o 0) asked in
          let next : behind_settle so.done (cost_at b (asks c) (n.settled c)) ≡ cost_at b (asks c) (n.settled c) = ap
          (λ (x : Bool). behind_settle x (cost_at b (asks c) (n.settled c))) ended in
          let none : length (n.got c) ≡ 0 = ap (λ (xs : List ℕ). length xs) (so.empty ended) in
          record {
            done = false;
            most = cost_of b t;
            budget = subst (λ (o : Option TransferView). IsBudget b false (begun b o) (cost_of b t)) (sym asked)
                (budget-begins b tree rules t (some c (n.settled c) t asked));
            empty = λ d. absurd (let f : false ≡ true = d in cc);
            all = record {
              entries = omega (arith, so.all.entries, next, cost);
              bytes = omega (arith, so.all.bytes, next, cost);
              calls = omega (arith, so.all.calls, next, cost);
            };
            own = λ u is.
                (let same : cost_of b t ≡ cost_of b u = ap (λ (o : Option TransferView). option_map_or (cost_of b) o 0) (sym asked
                ∙ ap (asks c) settled_is ∙ is) in
                record { entries = omega (arith, same); bytes = omega (arith, same, none); calls = omega (arith, same) });
          }

      by : (x : Bool) → is_over (n.walk c) ≡ x → NextIf b asks past (caller_of e) x
      by true over = begin over (asks c (n.settled c)) refl
      by false over = record { done = so.done; most = so.most; budget = so.budget; empty = so.empty; all = so.all; own = so.own }

  -- the caller's own entry
  own_spends : (past : List Entry) → IsStepwise b callers asks past → (e : Entry) → May b callers asks (now b asks past) e
      → SpendsSo b asks past (caller_of e) → SpendsSo b asks (e ∷ past) (caller_of e)
  own_spends past steps e may so =
      let c : ℕ = caller_of e in
      let s : SpendsNext b asks past c = begins_at past e may so in
      let p : IsPaid b asks (now b asks past) e s.done s.most = budget-pays b asks some callers past steps e may s.done s.most s.budget in
      let entries : of_caller one_entry (e ∷ past) c ≡ 1 + of_caller one_entry past c = caller_own one_entry e past in
      let bytes : of_caller its_bytes (e ∷ past) c ≡ its_bytes e past + of_caller its_bytes past c = caller_own its_bytes e past in
      let calls : of_caller (its_calls b asks) (e ∷ past) c ≡ its_calls b asks e past + of_caller (its_calls b asks) past c = caller_own
      (its_calls b asks) e past in
      let entries2 : of_walk b asks one_entry (e ∷ past) c ≡ 1 + unless_over b asks one_entry past c = walk_own b asks one_entry e past in
      let bytes2 : of_walk b asks its_bytes (e ∷ past) c ≡ its_bytes e past + unless_over b asks its_bytes past c =
      walk_own b asks its_bytes e past in
      let calls2 : of_walk b asks (its_calls b asks) (e ∷ past) c ≡ its_calls b asks e past + unless_over b asks (its_calls b asks) past c =
      walk_own b asks (its_calls b asks) e past in
      let all = behind past e s p in
      record {
        done = p.after;
        most = p.rest;
        budget = p.kept;
        empty = λ d. p.emptied d s.empty;
        all = record {
          entries = omega (arith, entries, p.entries, s.all.entries, all);
          bytes = omega (arith, bytes, p.bytes, s.all.bytes, all);
          calls = omega (arith, calls, p.calls, s.all.calls, all);
        };
        own = λ t is.
            (let o = s.own t (sym (whose_own b asks e past) ∙ is) in
            record {
              entries = omega (arith, entries2, p.entries, o.entries);
              bytes = omega (arith, bytes2, p.bytes, o.bytes);
              calls = omega (arith, calls2, p.calls, o.calls);
            });
      }
    where
      -- what comes after grows by what the replies do
      behind : (past : List Entry) (e : Entry) (s : SpendsNext b asks past (caller_of e))
          (p : IsPaid b asks (now b asks past) e s.done s.most)
          → behind_settle p.after (cost_at b (asks (caller_of e)) ((now b asks (e ∷ past)).settled (caller_of e))) + cost_from b
          (asks (caller_of e)) [] ((now b asks past).settled (caller_of e))
          ≡ behind_settle s.done (cost_at b (asks (caller_of e)) ((now b asks past).settled (caller_of e))) + cost_from b
          (asks (caller_of e)) [] ((now b asks (e ∷ past)).settled (caller_of e))
      behind past e s p =
          elim p.replies [
            | inl same ↦ subst (λ (rs : List Reply). behind_settle p.after
                (cost_at b asked rs) + cost_from b asked [] old ≡ behind_settle s.done (cost_at b asked old) + cost_from b asked [] rs)
                (sym same.1)
                (ap (λ (x : Bool). behind_settle x (cost_at b asked old) + cost_from b asked [] old) same.0)
            | inr more ↦ subst (λ (rs : List Reply). behind_settle p.after
                (cost_at b asked rs) + cost_from b asked [] old ≡ behind_settle s.done (cost_at b asked old) + cost_from b asked [] rs)
                (sym more.3)
                (let after : behind_settle p.after (cost_at b asked (old ++ more.2 ∷ [])) ≡ cost_at b asked (old ++ more.2 ∷ []) = ap
                (λ (x : Bool). behind_settle x (cost_at b asked (old ++ more.2 ∷ []))) more.1 in
                let before : behind_settle s.done (cost_at b asked old) ≡ 0 = ap
                (λ (x : Bool). behind_settle x (cost_at b asked old)) more.0 in
                let grows : cost_from b asked [] (old ++ more.2 ∷ []) ≡ cost_from b asked [] old + cost_at b asked (old ++ more.2 ∷ []) =
                cost_more b asked [] old more.2 in
                omega (arith, after, before, grows))
          ]
        where
          asked : List Reply → Option TransferView
          asked = asks (caller_of e)

          old : List Reply
          old = (now b asks past).settled (caller_of e)

  -- THE INDUCTION
  past-spends : (past : List Entry) → IsStepwise b callers asks past → (c : ℕ) → SpendsSo b asks past c
  past-spends [] steps c =
      record {
        done = true;
        most = 0;
        budget = record { left = 0; settles = refl; within = tt; owes = omega arith };
        empty = λ d. refl;
        all = record { entries = omega arith; bytes = omega arith; calls = omega arith };
        own = λ t is. absurd (let f : None ≡ Some t = is in cc);
      }
  past-spends (e ∷ past) steps c =
      elim (eqb_tells (caller_of e) c) [
        | inl h ↦ subst (λ (i : ℕ). SpendsSo b asks (e ∷ past) i) h.1
            (own_spends past steps.1 e steps.0 (past-spends past steps.1 (caller_of e)))
        | inr h ↦ other (past-spends past steps.1 c) h.0 (entry-elsewhere b asks (now b asks past) e c (λ f. h.1 (sym f)))
      ]
    where
      other : SpendsSo b asks past c → eqb (caller_of e) c ≡ false → IsUntouched (now b asks past) (step b asks (now b asks past) e) c
          → SpendsSo b asks (e ∷ past) c
      other s apart same =
          let settled : (now b asks (e ∷ past)).settled c ≡ (now b asks past).settled c = same.settles in
          let few : length ((now b asks (e ∷ past)).got c) ≡ length ((now b asks past).got c) = ap
          (λ (xs : List ℕ). length xs) same.reads in
          let next : cost_at b (asks c) ((now b asks (e ∷ past)).settled c) ≡ cost_at b (asks c) ((now b asks past).settled c) = ap
          (cost_at b (asks c)) settled in
          let behind : behind_settle s.done (cost_at b (asks c) ((now b asks (e ∷ past)).settled c)) ≡ behind_settle s.done
          (cost_at b (asks c) ((now b asks past).settled c)) = ap (behind_settle s.done) next in
          let cost : cost_from b (asks c) [] ((now b asks (e ∷ past)).settled c) ≡ cost_from b (asks c) [] ((now b asks past).settled c) =
          ap (cost_from b (asks c) []) settled in
          record {
            done = s.done;
            most = s.most;
            budget = subst (λ (w : WalkTree). IsBudget b s.done w s.most) (sym same.walks) s.budget;
            empty = λ d. same.reads ∙ s.empty d;
            all = record {
              entries = omega (arith, caller_other one_entry e past c apart, s.all.entries, behind, cost);
              bytes = omega (arith, caller_other its_bytes e past c apart, s.all.bytes, few, behind, cost);
              calls = omega (arith, caller_other (its_calls b asks) e past c apart, s.all.calls, behind, cost);
            };
            own = λ t is.
                (let o = s.own t (sym (whose_other b asks e past c apart) ∙ is) in
                record {
                  entries = omega (arith, walk_other b asks one_entry e past c apart, o.entries);
                  bytes = omega (arith, walk_other b asks its_bytes e past c apart, o.bytes, few);
                  calls = omega (arith, walk_other b asks (its_calls b asks) e past c apart, o.calls);
                });
          }

  -- no walk spends more than its transfer's cost
  pub walk-spends : (past : List Entry) → IsStepwise b callers asks past → (c : ℕ) (t : TransferView) → whose_walk b asks past c ≡ Some t
      → IsWithinCost (cost_of b t) (of_walk b asks one_entry past c) (of_walk b asks its_bytes past c)
      (of_walk b asks (its_calls b asks) past c)
  walk-spends past steps c t is =
      let s = past-spends past steps c in
      let o = s.own t is in
      record { entries_within = omega (arith, o.entries); bytes_within = omega (arith, o.bytes); calls_within = omega (arith, o.calls) }

  -- and no caller more than its transfers cost together
  pub caller-spends : (past : List Entry) → IsStepwise b callers asks past → (c : ℕ)
      → IsWithinCost (cost_from b (asks c) [] (replies past c)) (of_caller one_entry past c) (of_caller its_bytes past c)
      (of_caller (its_calls b asks) past c)
  caller-spends past steps c =
      let s = past-spends past steps c in
      subst (λ (rs : List Reply). IsWithinCost (cost_from b (asks c) [] rs) (of_caller one_entry past c) (of_caller its_bytes past c)
      (of_caller (its_calls b asks) past c)) (settled-told b asks past c)
      (record {
        entries_within = omega (arith, s.all.entries);
        bytes_within = omega (arith, s.all.bytes);
        calls_within = omega (arith, s.all.calls);
      })
