use Rattle.std.proofs.Common.{◌++◌, ℕ, List, true, false, refl, sym, ◌∙◌, ap, subst, arith, inl, inr}
use Rattle.i2c_session.specs.Inputs.{lines_in}
use Rattle.i2c_session.specs.Sessions.{IsAnswered, SessionView, opening}
use Rattle.i2c_top.specs.Written.{HasFront}
use Rattle.i2c_top.specs.declared.status.Status.TheVariants as status
use Rattle.i2c_lab.proofs.SessionLemmas.{HasSaidSoFar, said-more, said-none, stopped-at, stopped-cut, stopped-on, stopped-over, taken}
use Rattle.i2c_lab.proofs.session.answer_lines.Goals as goal

pub returns-in_err-session-clause-said : goal.returns-in_err-session-clause-said
returns-in_err-session-clause-said g c =
    stopped-on _ c.args.board.now g.K.Sink.tells _ _ status.Memory c.from_residual.result c.from_residual.ensures.1
    (stopped-at c.args.board.now (opening c.args.board.now) _ _ g.K.Sink.tells _ _ (said-none c.args.board.now _ g.K.Sink.tells _) status.Memory
    (inr refl))

pub returns-in_err-say-clause-said : goal.returns-in_err-say-clause-said
returns-in_err-say-clause-said g c =
    let at = c.loop-line in
    stopped-on _ c.args.board.now g.K.Sink.tells _ _ c.in_err-say.field-0.0 c.from_residual-in_err-say.result c.from_residual-in_err-say.ensures.1
    (stopped-cut c.args.board.now at.session _ _ g.K.Sink.tells _ _ at.invariant.said _ c.take_line.new.line.items c.in_ok-answer.answer.bytes _
    c.answer.new.self c.in_err-say.field-0.0
    (taken c.in_ok-take_line.field-0 true _ _ _ c.if-branch.true c.in_ok-take_line.ensures.line)
    (subst (λ (xs : List ℕ). IsAnswered at.session xs c.in_ok-answer.answer.bytes c.answer.new.self) c.as_slice.ensures.value
    c.in_ok-answer.ensures)
    (λ t. subst (λ (xs : List ℕ). HasFront (g.K.Sink.bytes at.sink) xs (g.K.Sink.bytes c.say.new.sink)) c.as_slice-in-loop-line.ensures
    (c.in_err-say.ensures.front t))
    c.in_err-say.ensures.cut.0)

pub loop-line-preserved : goal.loop-line-preserved
loop-line-preserved g c =
    let at = c.loop-line in
    record {
      sink = omega (arith, at.invariant.sink, c.say.ensures.later);
      input = omega (arith, at.invariant.input, c.take_line.ensures.later);
      said = said-more c.args.board.now at.session _ _ g.K.Sink.tells _ _ at.invariant.said _ c.take_line.new.line.items
          c.in_ok-answer.answer.bytes c.answer.new.self _
          (taken c.in_ok-take_line.field-0 true _ _ _ c.if-branch.true c.in_ok-take_line.ensures.line)
          (subst (λ (xs : List ℕ). IsAnswered at.session xs c.in_ok-answer.answer.bytes c.answer.new.self) c.as_slice.ensures.value
          c.in_ok-answer.ensures)
          (λ t. c.in_ok-say.ensures.whole t ∙ ap (λ (xs : List ℕ). g.K.Sink.bytes at.sink ++ xs) c.as_slice-in-loop-line.ensures);
    }

pub loop-line-init : goal.loop-line-init
loop-line-init g c = record {
  sink = omega arith;
  input = omega arith;
  said = subst (λ (s : SessionView). HasSaidSoFar c.args.board.now (lines_in (g.R.Read.remaining c.args.input.now.reader))
      (lines_in (g.R.Read.remaining c.args.input.now.reader)) g.K.Sink.tells s (g.K.Sink.bytes c.args.sink.now) (g.K.Sink.bytes c.args.sink.now))
      (sym c.in_ok-session.ensures) (said-none c.args.board.now _ g.K.Sink.tells _);
}

pub returns-in_err-take_line-clause-said : goal.returns-in_err-take_line-clause-said
returns-in_err-take_line-clause-said g c =
    let at = c.loop-line in
    stopped-on _ c.args.board.now g.K.Sink.tells _ _ c.in_err-take_line.field-0.0 c.from_residual-in_err-take_line.result
    c.from_residual-in_err-take_line.ensures.1
    (stopped-at c.args.board.now at.session _ _ g.K.Sink.tells _ _ at.invariant.said c.in_err-take_line.field-0.0
    (elim c.in_err-take_line.ensures.failed [ inl failed ↦ inl failed.0 | inr starved ↦ inr starved ]))

pub returns-in_err-answer-clause-said : goal.returns-in_err-answer-clause-said
returns-in_err-answer-clause-said g c =
    let at = c.loop-line in
    stopped-on _ c.args.board.now g.K.Sink.tells _ _ status.Memory c.from_residual-in_err-answer.result c.from_residual-in_err-answer.ensures.1
    (stopped-at c.args.board.now at.session _ _ g.K.Sink.tells _ _ at.invariant.said status.Memory (inr refl))

pub returns-clause-said : goal.returns-clause-said
returns-clause-said g c =
    let at = c.loop-line in
    stopped-over c.args.board.now at.session _ _ g.K.Sink.tells _ _ at.invariant.said
    (lines_in (g.R.Read.remaining c.take_line.new.input.reader)) c.take_line.new.line.items
    (taken c.in_ok-take_line.field-0 false _ _ _ c.if-branch.false c.in_ok-take_line.ensures.line)
