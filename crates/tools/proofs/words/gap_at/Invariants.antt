use Rattle.tools.proofs.Cited.{◌≡◌, ◌+◌, drop, gap_at}
use Rattle.tools.proofs.words.gap_at.Given as goal

abbrev pub invariant-loop-byte : goal.invariant-loop-byte
invariant-loop-byte g l = record {
  at : l.len ≡ l.byte-index;
  same : l.len + gap_at g.G.Gap.gaps (drop l.byte-index l.text) ≡ gap_at g.G.Gap.gaps l.text;
}
