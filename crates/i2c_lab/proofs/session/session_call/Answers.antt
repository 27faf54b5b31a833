use Rattle.std.proofs.Common.{ℕ, List, [], Result, Err, inl, inr, refl, ◌∙◌, ap, subst, map}
use Rattle.std.specs.Prelude.{⊤, string_bytes}
use Rattle.i2c_session.specs.Inputs.{lines_in}
use Rattle.i2c_top.specs.Endings.{name_in}
use Rattle.i2c_top.specs.Readings.{IsAcceptedIn}
use Rattle.i2c_top.specs.Traces.{output_view}
use Rattle.i2c_top.specs.forms.Checks.{check_form}
use Rattle.i2c_top.specs.declared.status.Status.{Status}
use Rattle.i2c_top.proofs.CheckLemmas.{check_decides, check_refused}
use Rattle.i2c_top.proofs.EndingLemmas.{ended_as}
use Rattle.i2c_lab.specs.SessionForm.{HasStopped, InputView, IsStopCause}
use Rattle.i2c_lab.proofs.FaultLemmas.{of-success}
use Rattle.i2c_lab.proofs.SessionLemmas.{caused-failed, said-failed}
use Rattle.i2c_lab.proofs.session.session_call.Goals as goal

pub returns-in-Err : goal.returns-in-Err
returns-in-Err g c = record {
  ended = λ rig.
      let name = c.word_at.result.now in
      let came = check_refused name _ _ rig c.in-Err.ensures.kept c.in-Err.refusal c.in-Err.ensures.refused in
      inl (record {
        as_check = ended_as check_form (Err c.in-Err.refusal) c.word_at.ensures (check_decides name) c.requires.words tt came tt
            c.write_outcome.ensures.refused;
        refused = of-success {T = List ℕ} (Err c.in-Err.refusal) _ _ (name_in (map string_bytes c.args.words.now)) c.write_outcome.result ⊥ came.refusal
            c.write_outcome.ensures.refused tt;
        untaken = refl;
      });
}

pub returns-in-Err-Input : goal.returns-in-Err-Input
returns-in-Err-Input g c = record {
  ended = λ rig. inr (record {
    board = c.in-Ok.board;
    spelled = c.in-Ok.ensures.spelled;
    read = λ t. subst (λ (name : List ℕ). IsAcceptedIn (g.S.Shelf.file c.args.shelf.now) name c.in-Ok.board) c.word_at.ensures (c.in-Ok.ensures.board t);
    kept = c.in-Ok.ensures.kept;
    rig = refl;
    caused = caused-failed (output_view g.K.Sink c.args.sink.now) _ _
        (let v : InputView = record { lines = lines_in (g.R.Read.remaining c.args.input.now.reader); faults = c.args.input.now.faults } in v)
        (let v : InputView = record {
          lines = lines_in (g.R.Read.remaining c.answer_lines.new.input.reader);
          faults = c.answer_lines.new.input.faults;
        } in v) [] c.write_outcome-in-Err-Input.result c.answer_lines.ensures.later
        (subst (IsStopCause (g.K.Sink.faults c.args.sink.now) (g.K.Sink.faults c.answer_lines.new.sink) c.args.input.now.faults
        c.answer_lines.new.input.faults) c.in-Err-Input.field-0-is c.in-Err-Input.ensures.caused)
        c.write_outcome-in-Err-Input.ensures.refused;
    said = said-failed c.in-Ok.board (lines_in (g.R.Read.remaining c.args.input.now.reader)) (output_view g.K.Sink c.args.sink.now)
        (output_view g.K.Sink c.answer_lines.new.sink) (output_view g.K.Sink c.write_outcome-in-Err-Input.new.sink) []
        c.write_outcome-in-Err-Input.result refl
        (subst (λ (r : Result ⊤ Status). HasStopped c.in-Ok.board (lines_in (g.R.Read.remaining c.args.input.now.reader)) g.K.Sink.tells
        (g.K.Sink.bytes c.args.sink.now) (g.K.Sink.bytes c.answer_lines.new.sink) r)
        (c.in-Err-Input.is ∙ ap Err c.in-Err-Input.field-0-is) c.answer_lines.ensures.said)
        c.write_outcome-in-Err-Input.ensures.refused;
  });
}
