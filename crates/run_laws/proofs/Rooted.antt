-- The calls of a journal are all on the roots of its board, so that the logs of these roots tell every call that failed. The
-- induction goes over the entries.
use Rattle.run_laws.proofs.Cited.{◌≡◌, ℕ, ◌<◌, ◌≤◌, List, [], ◌∷◌, length, map, reverse, Option, Some, None, refl, sym, ◌∙◌, ap, subst}
use Rattle.run_laws.proofs.Cited.{arith, slice_get, range_with_len, length-map-range_with_len, slice_get-get_or, Entry, PortCall, BoardView}
use Rattle.run_laws.proofs.Cited.{root_of, home_of_mux, IsTree, IsPlainBoard, Asks, now, calls_of, IsStepwise, LinesAreLocked}
use Rattle.run_laws.proofs.Cited.{AsksForMessages, FaultAt, FaultsAlike}
use Rattle.std.proofs.Common.{◌++◌, inl, inr, zero-add}
use Rattle.std.proofs.lemmas.Bool.{cases_lt}
use Rattle.std.proofs.lemmas.List.FromFn.{get_or-map-range_with_len}
use Rattle.std.proofs.lemmas.Option.{slice_get_past}
use Rattle.i2c_base.specs.declared.entry.Entry.TheVariants as entry
use Rattle.i2c_base.specs.declared.port.PortCall.TheVariants as call
use Rattle.i2c_spec.specs.History.{changed_at}
use Rattle.bus_spec.specs.Walk.{Act, Job, job_bus, line_mux}
use Rattle.bus_spec.specs.Grammar.{first_note}
use Rattle.bus_spec.specs.Past.{Now, current, talk_of, sent_by, lined_by, line_call}
use Rattle.bus_spec.specs.Failures.{HasFailed, HasMade, FailAlike}
use Rattle.bus_laws.proofs.past.Marks.{home_there}
use Rattle.bus_laws.proofs.past.StandsStep.{at_other}
use Rattle.bus_laws.proofs.past.Whole.{line_root}
use Rattle.journal_laws.proofs.past.Remotes.{job_there}
use Rattle.run_laws.specs.Alike.{IsMadeAt}

-- what a function gives at each number, listed from 0 on
pub listed_at : {X : Type 0} (f : ℕ → X) (n r : ℕ) → r < n → slice_get (map f (range_with_len 0 n)) r ≡ Some (f r)
listed_at f n r low =
    slice_get-get_or (map f (range_with_len 0 n)) r (f r) (subst (λ (k : ℕ). r < k) (sym (length-map-range_with_len f 0 n)) low)
    ∙ ap (λ x. Some x) (get_or-map-range_with_len f 0 n r r (f r) low (zero-add r))

listed_past : {X : Type 0} (f : ℕ → X) (n r : ℕ) → n ≤ r → slice_get (map f (range_with_len 0 n)) r ≡ None
listed_past f n r high =
    slice_get_past (map f (range_with_len 0 n)) r (subst (λ (k : ℕ). k ≤ r) (sym (length-map-range_with_len f 0 n)) high)

module _ (b : BoardView) (asks : Asks) where
  -- the calls of a past are those of the logs
  abbrev AreItsLogs : List Entry → List (List PortCall) → Type 0
  AreItsLogs past logs = logs ≡ map (calls_of b asks past) (range_with_len 0 (length b.roots))

  pub log-told : (past : List Entry) (logs : List (List PortCall)) → AreItsLogs past logs → (r : ℕ) (log : List PortCall)
      → slice_get logs r ≡ Some log → log ≡ calls_of b asks past r
  log-told past logs called r log here =
      elim (cases_lt r (length b.roots)) [
        | inl low ↦ (let same : Some log ≡ Some (calls_of b asks past r) = sym here
            ∙ ap (λ (xs : List (List PortCall)). slice_get xs r) called ∙ listed_at (calls_of b asks past) (length b.roots) r low in
            cc)
        | inr high ↦ absurd (let none : Some log ≡ None = sym here
            ∙ ap (λ (xs : List (List PortCall)). slice_get xs r) called ∙ listed_past (calls_of b asks past) (length b.roots) r high in
            cc)
      ]

module _ (b : BoardView) (tree : IsTree b) (plain : IsPlainBoard b) (lines : LinesAreLocked b) (asks : Asks) (some : AsksForMessages asks)
    (callers : ℕ) where
  -- a call of a root that is there is none of one that isn't
  elsewhere : (r : ℕ) → length b.roots ≤ r → (calls : ℕ → List PortCall) (s : ℕ) (new : List PortCall) → s < length b.roots
      → calls r ≡ [] → changed_at calls s new r ≡ []
  elsewhere r nowhere calls s new low none = at_other calls s new r (λ same. absurd (omega (arith, low, nowhere, same))) ∙ none

  -- a root that the board lacks has no calls
  calls_nowhere : (r : ℕ) → length b.roots ≤ r → (past : List Entry) → IsStepwise b callers asks past → (now b asks past).calls r ≡ []
  calls_nowhere r nowhere [] steps = refl
  calls_nowhere r nowhere (entry.Take c l ∷ past) steps = calls_nowhere r nowhere past steps.1
  calls_nowhere r nowhere (entry.Free c l ∷ past) steps = calls_nowhere r nowhere past steps.1
  calls_nowhere r nowhere (entry.Settle c x cut ∷ past) steps = calls_nowhere r nowhere past steps.1
  calls_nowhere r nowhere (entry.Message c bus why part parts addr reading bytes heard e ∷ past) steps =
      let n : Now = now b asks past in
      let may = steps.0.2 in
      let job : Job = may.0 in
      subst (λ (o : Option Act). (sent_by b n c o (first_note (current b asks n c)) reading bytes e).calls r ≡ []) (sym may.2)
      (elsewhere r nowhere n.calls (root_of b (job_bus job)) ((talk_of b n job may.1 e).calls ++ n.calls (root_of b (job_bus job)))
      (tree.root_is (job_bus job) (job_there b tree plain lines asks some callers past steps.1 c job may.1 may.2))
      (calls_nowhere r nowhere past steps.1))
  calls_nowhere r nowhere (entry.Line c mux level failed ∷ past) steps =
      let n : Now = now b asks past in
      let may = steps.0.2 in
      let job : Job = may.0 in
      subst (λ (o : Option Act). (lined_by b n o (first_note (current b asks n c)) failed).calls r ≡ []) (sym may.1)
      (elsewhere r nowhere n.calls (root_of b (job_bus job)) (line_call job failed ∷ n.calls (root_of b (job_bus job)))
      (subst (λ (s : ℕ). s < length b.roots) (line_root b tree plain lines asks some callers past steps.1 c r c job may.1)
      (tree.root_is (home_of_mux b (line_mux job)) (home_there b plain (line_mux job))))
      (calls_nowhere r nowhere past steps.1))

  fault_failed : (past : List Entry) (logs : List (List PortCall)) → AreItsLogs b asks past logs → (r n : ℕ) → FaultAt logs r n
      → HasFailed b asks past r n
  fault_failed past logs called r n at =
      ap (λ (cs : List PortCall). slice_get cs n) (sym (log-told b asks past logs called r at.log at.here)) ∙ at.fault

  pub failed-fault : (past : List Entry) → IsStepwise b callers asks past → (logs : List (List PortCall)) → AreItsLogs b asks past logs
      → (r n : ℕ)
      → HasFailed b asks past r n → FaultAt logs r n
  failed-fault past steps logs called r n failed =
      elim (cases_lt r (length b.roots)) [
        | inl low ↦ record {
          log = calls_of b asks past r;
          here = ap (λ (xs : List (List PortCall)). slice_get xs r) called ∙ listed_at (calls_of b asks past) (length b.roots) r low;
          fault = failed;
        }
        | inr high ↦ absurd (let none : None ≡ Some call.Fault =
            sym (ap (λ (cs : List PortCall). slice_get (reverse cs) n) (calls_nowhere r high past steps)) ∙ failed in cc)
      ]

  made-at : (past : List Entry) → IsStepwise b callers asks past → (logs : List (List PortCall)) → AreItsLogs b asks past logs → (r n : ℕ)
      → HasMade b asks past r n → IsMadeAt logs r n
  made-at past steps logs called r n made =
      elim (cases_lt r (length b.roots)) [
        | inl low ↦ record {
          log = calls_of b asks past r;
          here = ap (λ (xs : List (List PortCall)). slice_get xs r) called ∙ listed_at (calls_of b asks past) (length b.roots) r low;
          low = made;
        }
        | inr high ↦ absurd (let none : length (calls_of b asks past r) ≡ 0 =
            ap (λ (cs : List PortCall). length (reverse cs)) (calls_nowhere r high past steps) in omega (arith, made, none))
      ]

  -- so where the same calls of the logs are faults, of those that both have, the same calls failed
  pub fail-alike : (past other : List Entry) → IsStepwise b callers asks past → IsStepwise b callers asks other
      → (logs others : List (List PortCall)) → AreItsLogs b asks past logs → AreItsLogs b asks other others → FaultsAlike logs others
      → FailAlike b asks past other
  fail-alike past other steps steps_too logs others called called_too alike = λ r n made made_too.
      let same = alike r n (made-at past steps logs called r n made) (made-at other steps_too others called_too r n made_too) in (
        λ failed. fault_failed other others called_too r n (same.0 (failed-fault past steps logs called r n failed)),
        λ failed. fault_failed past logs called r n (same.1 (failed-fault other steps_too others called_too r n failed)),
      )
