use Rattle.addr_atr.proofs.Cited.{◌≡◌, drop, pairs_of}
use Rattle.addr_atr.proofs.lower.pairs_of.Given as goal

abbrev pub invariant-loop-translator : goal.invariant-loop-translator
invariant-loop-translator l = pairs_of (drop l.translator-index l.translators) l.mux ≡ pairs_of l.fn.translators l.fn.mux
