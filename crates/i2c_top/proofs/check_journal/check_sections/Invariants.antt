use Rattle.i2c_top.proofs.Cited.{map, section_of}
use Rattle.i2c_top.proofs.CheckedLemmas.{IsBesideCallers}
use Rattle.i2c_top.proofs.check_journal.check_sections.Given as goal

abbrev pub invariant-loop-place : goal.invariant-loop-place
invariant-loop-place l = IsBesideCallers l.text (map (λ s. section_of s.caller) l.callers) l.place l.left.rest.now l.left.number
