-- What scripts ask for has messages, and is within the limits of a transfer. No induction.
use Rattle.run_laws.proofs.Cited.{ℕ, ◌<◌, List, length, BoardView, AsksForMessages, AsksWithinLimits, script_on, asks_by}
use Rattle.i2c_base.specs.Transfer.{IsTransfer}
use Rattle.caller_core.specs.Callers.{ScriptsAreFair}
use Rattle.i2c_top.proofs.RunLemmas.{of_asks}

module _ (fair : ScriptsAreFair) (b : BoardView) (texts : List (List ℕ)) where
  pub messages-asked : AsksForMessages (asks_by b texts)
  messages-asked = of_asks b texts (λ t. 0 < length t.msgs) (λ text. fair.sends (script_on b text))

  pub limits-kept : AsksWithinLimits (asks_by b texts)
  limits-kept = of_asks b texts (λ t. IsTransfer t.msgs t.out) (λ text. fair.limits (script_on b text))
