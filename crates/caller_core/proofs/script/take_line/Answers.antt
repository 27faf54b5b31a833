use Rattle.caller_core.proofs.Cited.{◌≡◌, Ok, Some, ap, sym, subst, ◌∙◌, arith, line_read, BoardView, block_limit, writes_device, AreMarked}
use Rattle.caller_core.proofs.Cited.{at_most}
use Rattle.std.proofs.lemmas.Result.{on_ok_weaker}
use Rattle.caller_core.proofs.CommandLemmas.{read_in_range, read_room}
use Rattle.caller_core.proofs.ReachLemmas.{reached_some}
use Rattle.caller_core.proofs.script.take_line.Goals as goal

pub open-requires : goal.open-requires
open-requires c =
    let read : at_most c.len.result (line_read c.limit-limit.result c.args.line.now) ≡ Ok (Some c.in-Ok-Some.cmd) =
    c.in-Ok-Some.ensures.read ∙ ap Ok c.in-Ok-Some.field-0-is in
    record {
      range = (c.limit-limit.result, read_in_range c.len.result c.limit-limit.result c.args.line.now c.in-Ok-Some.cmd read);
      few =
          omega (
            arith,
            c.requires.few,
            c.len.ensures,
            read_room c.len.result c.limit-limit.result c.args.line.now c.in-Ok-Some.cmd read,
          );
      on_board = c.requires.on_board;
    }

pub returns-in_ok-run-in-Ok-Some-clause-reach : goal.returns-in_ok-run-in-Ok-Some-clause-reach
returns-in_ok-run-in-Ok-Some-clause-reach c =
    let line = c.args.line.now in
    let limit : c.limit-limit.result ≡ block_limit c.args.board.now = c.limit-limit.ensures.value ∙ ap block_limit c.board.ensures.value in
    let read : at_most c.len.result (line_read (block_limit c.args.board.now) line) ≡ Ok (Some c.in-Ok-Some.cmd) =
    ap (λ n. at_most c.len.result (line_read n line)) (sym limit) ∙ c.in-Ok-Some.ensures.read ∙ ap Ok c.in-Ok-Some.field-0-is in
    let same : c.board-in-Ok-Some.result.now ≡ c.args.board.now = c.board-in-Ok-Some.ensures.value in
    let written = subst (λ (b : BoardView). AreMarked (writes_device b c.in-Ok-Some.cmd) c.args.read.now.reach.written
    c.mark.new.self.written)
    same c.mark.ensures.written in
    on_ok_weaker c.keep_command.result
    (λ kept. reached_some c.args.board.now c.len.result line c.in-Ok-Some.cmd _ _ read c.mark.ensures.forced written)
    c.keep_command.ensures.ok
