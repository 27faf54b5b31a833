use Rattle.reg_cache.proofs.Cited.{◌≡◌, filter, range_with_len, Texts, AreReaches, is_cacheable}
use Rattle.reg_cache.proofs.devices.cacheable.Given as goal

abbrev pub invariant-loop-number : goal.invariant-loop-number
invariant-loop-number l =
    (texts : Texts) → AreReaches l.board texts l.reaches
    → l.devices.items ≡ filter (is_cacheable l.board texts l.caller) (range_with_len 0 l.number)
