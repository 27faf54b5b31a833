use Rattle.std.proofs.Common.{◌+◌, ◌<◌, ◌≤◌, ℕ, ap, subst}
use Rattle.i2c_base.specs.Board.{BoardView}
use Rattle.tools.specs.Replies.{replies_of}
use Rattle.caller_core.specs.Runs.{command_dialogue}
use Rattle.caller_core.specs.Scripts.{MOST_COST}
use Rattle.i2c_session.specs.Sessions.{SessionView, Talks}
use Rattle.i2c_session.proofs.SessionLemmas.{of-command, ran-dear, ran-through, stays-as}
use Rattle.i2c_session.proofs.session.Session.run.Goals as goal

pub returns-then-self-cost-gt-MOST_COST : goal.returns-then-self-cost-gt-MOST_COST
returns-then-self-cost-gt-MOST_COST c =
    let i = c.self.inside in
    let dear = subst (λ (n : ℕ). MOST_COST < i.cost + n) c.cost_of_command-cost.ensures.cost c.if-self-cost-gt-MOST_COST.true in
    of-command _ c.args.self.now _ c.word_text.result _ _ c.args.cmd c.self.view_is c.in_ok-run.ensures.run c.in_ok-run.ensures.handles
    (ran-dear _ _ c.word_text.result _ _ dear
    (stays-as _ _ _ _ i.commands i.cost _ c.args.cmd c.in_ok-run.ensures.run c.in_ok-run.ensures.handles c.self.invariant.4 dear)
    c.word_text.ensures)

pub returns : goal.returns
returns c =
    let i = c.self.inside in
    let cheap = subst (λ (n : ℕ). i.cost + n ≤ MOST_COST) c.cost_of_command-cost.ensures.cost c.if-self-cost-gt-MOST_COST.false in
    of-command _ c.args.self.now _ c.command_text.result _ _ c.args.cmd c.self.view_is c.in_ok-run.ensures.run c.in_ok-run.ensures.handles
    (ran-through _ _ c.command_text.result _ _ (replies_of c.in_ok-replies.replies.items) c.replies_to.new.flat.states cheap
    (subst (λ (b : BoardView). Talks b (command_dialogue c.in_ok-run.run') 0 i.flat.states (replies_of c.in_ok-replies.replies.items)
    c.replies_to.new.flat.states) c.self.invariant.0 c.in_ok-replies.ensures.talked)
    (ap (λ (n : ℕ). (let s : SessionView = record {
      board = i.board.now;
      handles = c.open.new.handles;
      states = c.replies_to.new.flat.states;
      commands = i.commands + 1;
      cost = i.cost + n;
    } in s)) c.cost_of_command-cost.ensures.cost)
    c.command_text.ensures)
