use Rattle.i2c_top.proofs.Cited.{ℕ, All, map, vec_capacity, into_iter_items, into_iter_len, AccountsForFaults}
use Rattle.i2c_top.proofs.Numbering.{GoesOver}
use Rattle.i2c_top.proofs.run.alone.Given as goal

abbrev pub invariant-loop-port : goal.invariant-loop-port
invariant-loop-port g l = record {
  over : GoesOver (map (λ (p : ℕ × _). p.1)) l.fn.ports.items l.yielded (into_iter_items l.port-iterator)
      (into_iter_len l.port-iterator) l.alone.items (vec_capacity l.alone);
  accounts : All (AccountsForFaults g.P.Port) l.alone.items;
}
