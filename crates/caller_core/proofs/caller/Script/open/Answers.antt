use Rattle.caller_core.proofs.Cited.{◌≡◌, ℕ, ◌+◌, List, [], ◌++◌, arith, ap, sym, subst, ◌∙◌, BoardView, cost_of, PackedView, ReplyHead}
use Rattle.caller_core.proofs.Cited.{IsCaller, KeptReply, Reach, sum_of, quiet_front, IsAt, HasRoots, commands_in, HasReach, commands_of}
use Rattle.caller_core.proofs.Cited.{commands_or_none, text_read, quiet_text, CommandView, ScriptView}
use Rattle.std.specs.List.{sum_by}
use Rattle.caller_core.proofs.ScriptLemmas.{few_commands}
use Rattle.caller_core.proofs.PlaceLemmas.{at_first}
use Rattle.caller_core.proofs.caller.Script.open.Goals as goal

pub totals_of-totals-requires : goal.totals_of-totals-requires
totals_of-totals-requires c = record {
  few = few_commands c.args.board.now c.as_slice.result.now c.in_ok-commands.field-0.commands c.in_ok-commands.ensures.commands;
}

pub invariant_of-result : goal.invariant_of-result
invariant_of-result c =
    let script : ScriptView = record { board = c.of.result.value; text = c.of-2.result.value.items } in
    let cs : List CommandView = c.in_ok-commands.field-0.commands in
    let reach : Reach = c.in_ok-commands.field-0.reach in
    let totals = c.totals_of-totals in
    let quiet = c.push_quiet-turn in
    let read : script.text ≡ c.as_slice.result.now = ap (λ t. t.items) c.of-2.ensures ∙ sym c.as_slice.ensures.value in
    let whole : commands_of script ≡ cs = ap (λ (b : BoardView). commands_or_none (text_read b script.text)) c.of.ensures
    ∙ ap (λ t. commands_or_none (text_read c.args.board.now t)) read ∙ ap commands_or_none c.in_ok-commands.ensures.commands in
    let zero : 0 + quiet_front cs ≡ quiet_front cs = omega arith in
    let to : quiet.result ≡ quiet_front cs = quiet.ensures.behind ∙ zero in
    let none : c.in_ok-taken.taken.items ≡ [] = ap (λ (p : PackedView ReplyHead). p.items) c.in_ok-taken.ensures in (
      subst (λ (xs : List KeptReply). IsCaller script cs xs quiet.new.out.bytes quiet.result 0 0 totals.result) (sym none)
          (record {
            whole = whole;
            at = subst (λ n. IsAt cs [] n 0 0) (sym to) (at_first cs);
            text =
                quiet.ensures.bytes
                ∙ ap (λ (x : List ℕ). x ++ quiet_text cs) (c.in_ok-make_room.ensures.stays ∙ c.new-printed.ensures);
            cost_is =
                totals.ensures.cost ∙ ap (λ xs. sum_by (sum_of (cost_of c.args.board.now)) xs) (sym whole)
                ∙ ap (λ (b : BoardView). sum_by (sum_of (cost_of b)) (commands_of script)) (sym c.of.ensures);
            cost_fits = totals.ensures.small;
            roots_are = subst (λ (b : BoardView). HasRoots b cs totals.result.roots) (sym c.of.ensures) totals.ensures.roots;
            replies_are = totals.ensures.replies;
            bytes_are = totals.ensures.bytes;
          }),
      record { room = λ yes. absurd cc; untaken = λ no. none },
      subst (λ (b : BoardView). HasReach b (commands_in b script.text) reach) (sym c.of.ensures)
          (subst (λ (t : List ℕ). HasReach c.args.board.now (commands_in c.args.board.now t) reach) (sym read)
          c.in_ok-commands.ensures.reach),
    )
