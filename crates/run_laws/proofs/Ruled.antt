-- A run's journal keeps the rules, so it is legal, complete, and its ports' logs are its calls, also as the walk tree tells them; and its
-- scripts ask for messages within the limits, so each entry of it might come where it did: what is so of all such journals is so of it.
-- No induction.
use Rattle.run_laws.proofs.Cited.{◌≡◌, ℕ, List, Option, length, map, reverse, sym, ◌∙◌, ap, range_with_len, Entry, PortCall, BoardView}
use Rattle.run_laws.proofs.Cited.{IsPlainBoard, TargetState, Asks, IsLegal, calls_of, lines-locked, IsStepwise, AsksForMessages}
use Rattle.run_laws.proofs.Cited.{AsksWithinLimits, IsRunBy, asks_by, HasRunTold}
use Rattle.i2c_spec.specs.Rules.{MeetsRules}
use Rattle.bus_spec.specs.Legal.{IsComplete}
use Rattle.i2c_spec.proofs.AddressLemmas.{tree_of}
use Rattle.journal_laws.proofs.past.Complete.{complete-ruled}
use Rattle.journal_laws.proofs.past.RuledLegal.{calls-so, legal-of}

module _ (b : BoardView) (callers : ℕ) (asks : Asks) (logs : List (List PortCall)) (states : List TargetState) (counts : List ℕ)
    (journal : List Entry) (run : IsRunBy b callers asks logs states counts journal) where
  pub run-legal : IsLegal b callers asks (reverse journal)
  run-legal = legal-of b callers asks (reverse journal) run.legal

  pub run-complete : AsksForMessages asks → AsksWithinLimits asks → IsComplete b callers asks (reverse journal)
  run-complete some limits =
      complete-ruled b (tree_of b run.plain run.rules) run.plain (lines-locked b run.rules) asks some limits callers (reverse journal)
      run.legal run.complete

  pub run-logs : logs ≡ map (calls_of b asks (reverse journal)) (range_with_len 0 (length b.roots))
  run-logs =
      run.called
      ∙ ap (λ (calls : ℕ → List PortCall). map calls (range_with_len 0 (length b.roots)))
      (λ i. λ r. sym (calls-so b callers asks (reverse journal) run.legal r) i)

module _ (messages : (b : BoardView) (texts : List (List ℕ)) → AsksForMessages (asks_by b texts))
    (limits : (b : BoardView) (texts : List (List ℕ)) → AsksWithinLimits (asks_by b texts))
    (stepwise : (b : BoardView) (callers : ℕ) (asks : Asks) (past : List Entry) → IsPlainBoard b → MeetsRules b → AsksForMessages asks
    → AsksWithinLimits asks → IsLegal b callers asks past → IsStepwise b callers asks past) where
  pub run-steps : (told : List Entry → List ℕ) (b : BoardView) (texts : List (List ℕ)) (words : Option (List ℕ)) (x : List ℕ)
      (logs : List (List PortCall)) (states : List TargetState) (counts : List ℕ) (run : HasRunTold told b texts words x logs states counts)
      → IsStepwise b (length texts) (asks_by b texts) (reverse run.journal)
  run-steps told b texts words x logs states counts run =
      stepwise b (length texts) (asks_by b texts) (reverse run.journal) run.is_run.plain run.is_run.rules (messages b texts)
      (limits b texts) (run-legal b (length texts) (asks_by b texts) logs states counts run.journal run.is_run)

  pub run-keeps : (P : BoardView → Asks → List Entry → Type 0)
      → ((b : BoardView) (callers : ℕ) (asks : Asks) (past : List Entry) → IsPlainBoard b → MeetsRules b → AsksForMessages asks
      → IsStepwise b callers asks past → P b asks past)
      → (told : List Entry → List ℕ) (b : BoardView) (texts : List (List ℕ)) (words : Option (List ℕ)) (x : List ℕ)
      (logs : List (List PortCall)) (states : List TargetState) (counts : List ℕ) (run : HasRunTold told b texts words x logs states counts)
      → P b (asks_by b texts) (reverse run.journal)
  run-keeps P law told b texts words x logs states counts run =
      law b (length texts) (asks_by b texts) (reverse run.journal) run.is_run.plain run.is_run.rules (messages b texts)
      (run-steps told b texts words x logs states counts run)
