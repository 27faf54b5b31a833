-- Each world of a past is that of its root, and the calls are all on roots of the board. The induction goes over the entries.
use Rattle.std.proofs.Common.{◌≡◌, ℕ, ◌<◌, ◌≤◌, List, [], ◌∷◌, ◌++◌, length, inl, inr, Option, refl, sym, ◌∙◌, ap, subst, arith}
use Rattle.std.proofs.lemmas.Bool.{cases_lt}
use Rattle.std.proofs.lemmas.List.{length-reverse}
use Rattle.i2c_base.specs.declared.entry.Entry.{Entry}
use Rattle.i2c_base.specs.declared.entry.Entry.TheVariants as entry
use Rattle.i2c_base.specs.declared.port.PortCall.{PortCall}
use Rattle.i2c_base.specs.Board.{BoardView}
use Rattle.i2c_spec.specs.Tree.{root_of, home_of_mux}
use Rattle.i2c_spec.specs.TreeFacts.{IsTree}
use Rattle.i2c_spec.specs.Plain.{IsPlainBoard}
use Rattle.i2c_spec.specs.History.{Asks, changed_at}
use Rattle.bus_spec.specs.Walk.{Act, Job, job_bus, line_mux}
use Rattle.bus_spec.specs.Grammar.{first_note}
use Rattle.bus_spec.specs.Past.{Now, now, calls_of, current, talk_of, sent_by, lined_by, line_call}
use Rattle.bus_spec.specs.Stepwise.{IsStepwise}
use Rattle.check_laws.specs.Failed.{FailedBy, FailBy}
use Rattle.bus_laws.specs.Lines.{LinesAreLocked}
use Rattle.bus_laws.specs.Reach.{AsksForMessages}
use Rattle.bus_laws.proofs.past.Laws.{past-stands}
use Rattle.bus_laws.proofs.past.Marks.{home_there}
use Rattle.bus_laws.proofs.past.StandsStep.{at_other}
use Rattle.bus_laws.proofs.past.Whole.{line_root}
use Rattle.journal_laws.proofs.past.Remotes.{job_there}

module _ (b : BoardView) (tree : IsTree b) (plain : IsPlainBoard b) (lines : LinesAreLocked b) (asks : Asks) (some : AsksForMessages asks)
    (callers : ℕ) where
  pub root-told : (past : List Entry) → IsStepwise b callers asks past → (r : ℕ) → ((now b asks past).worlds r).root ≡ r
  root-told past steps r = (past-stands b tree plain lines asks some callers past steps).told.root r

  -- a call of a root that is there is none of one that isn't
  elsewhere : (r : ℕ) → length b.roots ≤ r → (calls : ℕ → List PortCall) (s : ℕ) (new : List PortCall) → s < length b.roots
      → calls r ≡ [] → changed_at calls s new r ≡ []
  elsewhere r nowhere calls s new low none = at_other calls s new r (λ same. absurd (omega (arith, low, nowhere, same))) ∙ none

  pub calls-nowhere : (r : ℕ) → length b.roots ≤ r → (past : List Entry) → IsStepwise b callers asks past → (now b asks past).calls r ≡ []
  calls-nowhere r nowhere [] steps = refl
  calls-nowhere r nowhere (entry.Take c l ∷ past) steps = calls-nowhere r nowhere past steps.1
  calls-nowhere r nowhere (entry.Free c l ∷ past) steps = calls-nowhere r nowhere past steps.1
  calls-nowhere r nowhere (entry.Settle c x cut ∷ past) steps = calls-nowhere r nowhere past steps.1
  calls-nowhere r nowhere (entry.Message c bus why part parts addr reading bytes heard e ∷ past) steps =
      let n : Now = now b asks past in
      let may = steps.0.2 in
      let job : Job = may.0 in
      subst (λ (o : Option Act). (sent_by b n c o (first_note (current b asks n c)) reading bytes e).calls r ≡ []) (sym may.2)
      (elsewhere r nowhere n.calls (root_of b (job_bus job)) ((talk_of b n job may.1 e).calls ++ n.calls (root_of b (job_bus job)))
      (tree.root_is (job_bus job) (job_there b tree plain lines asks some callers past steps.1 c job may.1 may.2))
      (calls-nowhere r nowhere past steps.1))
  calls-nowhere r nowhere (entry.Line c mux level failed ∷ past) steps =
      let n : Now = now b asks past in
      let may = steps.0.2 in
      let job : Job = may.0 in
      subst (λ (o : Option Act). (lined_by b n o (first_note (current b asks n c)) failed).calls r ≡ []) (sym may.1)
      (elsewhere r nowhere n.calls (root_of b (job_bus job)) (line_call job failed ∷ n.calls (root_of b (job_bus job)))
      (subst (λ (s : ℕ). s < length b.roots) (line_root b tree plain lines asks some callers past steps.1 c r c job may.1)
      (tree.root_is (home_of_mux b (line_mux job)) (home_there b plain (line_mux job))))
      (calls-nowhere r nowhere past steps.1))

  -- so the logs of the roots that are there tell all
  pub all-fail : (past : List Entry) → IsStepwise b callers asks past → (gaps : ℕ → List ℕ)
      → ((r : ℕ) → r < length b.roots → FailedBy (calls_of b asks past r) (gaps r)) → FailBy b asks gaps past
  all-fail past steps gaps each = λ r. elim (cases_lt r (length b.roots)) [
    | inl low ↦ each r low
    | inr high ↦ (λ n low. let none : length ((now b asks past).calls r) ≡ 0 = ap (λ (cs : List PortCall). length cs)
        (calls-nowhere r high past steps) in
        absurd (omega (arith, low, none, length-reverse ((now b asks past).calls r))))
  ]
