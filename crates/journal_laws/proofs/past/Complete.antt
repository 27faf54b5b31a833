-- A past that keeps the rules is stepwise, and complete where its callers are through. No induction.
use Rattle.journal_laws.proofs.Cited.{ℕ, List, Entry, BoardView, IsTree, IsPlainBoard, Asks, IsStepwise, IsLegal, IsComplete, IsRuled}
use Rattle.journal_laws.proofs.Cited.{LinesAreLocked, AsksForMessages, AsksWithinLimits, complete-through}
use Rattle.bus_spec.specs.Ruled.{IsThrough}
use Rattle.journal_laws.proofs.past.LegalSteps.{legal-steps}
use Rattle.journal_laws.proofs.past.RuledLegal.{legal-of}

module _ (b : BoardView) (tree : IsTree b) (plain : IsPlainBoard b) (lines : LinesAreLocked b) (asks : Asks) (some : AsksForMessages asks)
    (limits : AsksWithinLimits asks) (callers : ℕ) (past : List Entry) where
  pub ruled-steps : IsRuled b callers asks past → IsStepwise b callers asks past
  ruled-steps ruled = legal-steps b tree plain lines asks some limits callers past (legal-of b callers asks past ruled)

  pub complete-legal : IsLegal b callers asks past → IsThrough callers asks past → IsComplete b callers asks past
  complete-legal legal =
      complete-through b tree plain lines asks some callers past (legal-steps b tree plain lines asks some limits callers past legal)

  pub complete-ruled : IsRuled b callers asks past → IsThrough callers asks past → IsComplete b callers asks past
  complete-ruled ruled = complete-legal (legal-of b callers asks past ruled)
