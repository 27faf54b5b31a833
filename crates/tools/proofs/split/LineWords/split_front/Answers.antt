use Rattle.tools.proofs.Cited.{common_steps, rules, ◌≡◌, ◌<◌, [], length, arith, sym, ap, ◌∙◌, nat_lt, and_parts, nat_tests}
use Rattle.std.proofs.Common.{◌==◌}
use Rattle.tools.proofs.JoinedLemmas.{is_joined_from, joined_same, whole_front, word_off}
use Rattle.tools.proofs.split.LineWords.split_front.Goals as goal

pub loop-rest-init : goal.loop-rest-init
loop-rest-init c = record {
  begins = c.skip_gaps-rest.ensures.begins;
  same = search rules;
  joined = λ h.
      let line = c.args.line.now in
      let rest = c.skip_gaps-rest.result.now in
      let p = and_parts (nat_lt 0 (length rest)) (length rest == length line) (sym c.is_whole-joined.ensures ∙ h) in
      let some : 0 < length rest = grind (arith, nat_tests) in
      let same : length rest ≡ length line = grind (arith, nat_tests) in
      whole_front line rest c.skip_gaps-rest.ensures.value same some;
  kept = search rules;
}

pub loop-rest-preserved : goal.loop-rest-preserved
loop-rest-preserved c = record {
  begins = c.skip_gaps-rest-in-loop-rest.ensures.begins;
  same = grind (arith, common_steps);
  joined = λ h.
      let rest = c.loop-rest.rest.now in
      let some : 0 < length rest = search rules in
      let p = and_parts c.loop-rest.joined c.is_spaced-joined.result h in
      word_off c.args.line.now rest c.first_word.result.1.now c.skip_gaps-rest-in-loop-rest.result.now (c.loop-rest.invariant.begins some)
      c.first_word.ensures.behind c.skip_gaps-rest-in-loop-rest.ensures.value (sym c.is_spaced-joined.ensures ∙ p.1)
      (c.loop-rest.invariant.joined p.0);
  kept = search rules;
}

pub returns-clause-joined : goal.returns-clause-joined
returns-clause-joined c = λ h.
    let p = and_parts c.loop-rest.joined c.is_empty-2.result h in
    let none : c.loop-rest.rest.now ≡ [] = search rules in
    joined_same c.args.line.now (c.loop-rest.invariant.joined p.0 ∙ ap is_joined_from none)
