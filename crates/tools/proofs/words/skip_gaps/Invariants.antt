use Rattle.tools.proofs.Cited.{◌≡◌, ◌≤◌, length, behind_gaps, words_between}
use Rattle.tools.proofs.words.skip_gaps.Given as goal

abbrev pub decreases-loop-first : goal.decreases-loop-first
decreases-loop-first g l = length l.rest

abbrev pub invariant-loop-first : goal.invariant-loop-first
invariant-loop-first g l = record {
  value : behind_gaps g.G.Gap.gaps l.rest ≡ behind_gaps g.G.Gap.gaps l.text;
  words : words_between g.G.Gap.gaps l.rest ≡ words_between g.G.Gap.gaps l.text;
  within : length l.rest ≤ length l.text;
}
