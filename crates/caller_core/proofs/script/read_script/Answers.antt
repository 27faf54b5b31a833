use Rattle.caller_core.proofs.Cited.{◌≡◌, ◌+◌, ◌-◌, take, drop, subst, ℕ, arith, HasReachedOn, IsStep, IsRefused}
use Rattle.caller_core.proofs.ScriptLemmas.{script_steps, refused_script}
use Rattle.caller_core.proofs.ReachLemmas.{reach_steps}
use Rattle.caller_core.proofs.script.read_script.Goals as goal

pub returns-in-Err-clause-commands : goal.returns-in-Err-clause-commands
returns-in-Err-clause-commands c =
    let at = c.loop-at.at in
    let len = c.cut_at-len.result.0 in
    let same : at + len - at ≡ len = omega arith in
    let refused = subst (λ (k : ℕ). IsRefused c.args.board.now (c.loop-at.number + 1) c.loop-at.read.commands
    (take k (drop at c.args.text.now)) c.loop-at.handles c.in-Err.fault) same c.in-Err.ensures.err in
    refused_script c.args.board.now (c.loop-at.number + 1) at len c.cut_at-len.result.1 c.args.text.now c.loop-at.read.commands
    c.loop-at.handles
    c.in-Err.fault _
    refused c.cut_at-len.ensures.split c.loop-at.invariant.same

pub loop-at-preserved : goal.loop-at-preserved
loop-at-preserved c =
    let at = c.loop-at.at in
    let len = c.cut_at-len.result.0 in
    let same : at + len - at ≡ len = omega arith in
    let step = subst (λ (k : ℕ). IsStep c.args.board.now (c.loop-at.number + 1) c.loop-at.read.commands c.take_line-step.new.read.commands
    (take k (drop at c.args.text.now)) c.loop-at.handles c.take_line-step.new.handles) same c.in_default.ensures.ok in
    let reached = subst (λ (k : ℕ). HasReachedOn c.args.board.now (take k (drop at c.args.text.now)) c.loop-at.read.reach
    c.take_line-step.new.read.reach) same c.in_default.ensures.reach in
    record {
      within = omega (arith, c.cut_at-len.ensures.within);
      count = omega (arith, c.cut_at-len.ensures.some);
      same = script_steps c.args.board.now
          (c.loop-at.number + 1) at len c.cut_at-len.result.1 c.args.text.now c.loop-at.read.commands c.take_line-step.new.read.commands
          c.loop-at.handles
          c.take_line-step.new.handles _ step c.cut_at-len.ensures.split c.loop-at.invariant.same;
      few = c.in_default.ensures.few;
      reach = reach_steps c.args.board.now at len c.cut_at-len.result.1 c.args.text.now c.loop-at.read.reach c.take_line-step.new.read.reach
          reached c.cut_at-len.ensures.split c.loop-at.invariant.reach;
      on_board = c.take_line-step.ensures.on_board;
    }
