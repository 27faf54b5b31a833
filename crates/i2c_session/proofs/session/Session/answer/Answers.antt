use Rattle.std.proofs.Common.{Ok, ◌∙◌, ap, subst}
use Rattle.i2c_spec.specs.Flat.{block_limit}
use Rattle.tools.specs.Readers.{FaultIs}
use Rattle.caller_core.proofs.CommandLemmas.{read_in_range}
use Rattle.i2c_session.specs.Sessions.{SessionView, read_of}
use Rattle.i2c_session.proofs.SessionLemmas.{answered-none, answered-word}
use Rattle.i2c_session.proofs.session.Session.answer.Goals as goal

pub run-requires-clause-range : goal.run-requires-clause-range
run-requires-clause-range c =
    let s = c.args.self.now in (
      block_limit s.board,
      read_in_range s.commands (block_limit s.board) c.args.line.now c.in-Ok-Some.cmd (c.in-Ok-Some.ensures ∙ ap Ok c.in-Ok-Some.field-0-is),
    )

pub returns-in-Ok-None : goal.returns-in-Ok-None
returns-in-Ok-None c =
    answered-none c.args.self.now c.args.line.now c.number_text.result c.self.inside.commands (c.in-Ok-None.ensures ∙ ap Ok c.in-Ok-None.field-0-is)
    (ap (λ (s : SessionView). s.commands) c.self.view_is) c.number_text.ensures

pub returns-in-Err-Word : goal.returns-in-Err-Word
returns-in-Err-Word c = answered-word c.args.self.now c.args.line.now c.word_text.result c.in-Err-Word.word
    (subst (FaultIs (read_of c.args.self.now c.args.line.now)) c.in-Err-Word.field-0-is c.in-Err-Word.ensures) c.word_text.ensures
