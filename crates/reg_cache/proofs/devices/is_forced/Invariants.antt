use Rattle.reg_cache.proofs.Cited.{◌≡◌, drop, list_any, BoardView, is_forced_in, Texts, AreReaches}
use Rattle.reg_cache.proofs.devices.is_forced.Given as goal

abbrev pub invariant-loop-reach : goal.invariant-loop-reach
invariant-loop-reach l =
    (b : BoardView) (texts : Texts) → AreReaches b texts l.reaches
    → list_any (is_forced_in b l.addr) (drop l.reach-index texts) ≡ list_any (is_forced_in b l.addr) texts
