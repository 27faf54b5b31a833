use Rattle.std.proofs.Common.{◌+◌, ℕ, length, arith, ◌∙◌, ap}
use Rattle.std.proofs.lemmas.List.{length_push}
use Rattle.i2c_gen.proofs.ScriptLemmas.{script_ok, text_fits, opened_more, texts_more, all_made}
use Rattle.i2c_gen.proofs.script.made_scripts.Goals as goal

pub opened-requires-clause-short : goal.opened-requires-clause-short
opened-requires-clause-short c =
    let n : ℕ = c.loop.counter in
    let text_is = c.in_ok-text.ensures.text n c.loop.invariant.behind in
    text_fits c.args.plan.now c.requires.plan n c.in_ok-text.text.items text_is

pub opened-requires-clause-read : goal.opened-requires-clause-read
opened-requires-clause-read c =
    let n : ℕ = c.loop.counter in
    let text_is = c.in_ok-text.ensures.text n c.loop.invariant.behind in
    script_ok c.args.plan.now c.requires.plan n c.args.board.now c.in_ok-text.text.items c.requires.board text_is

pub loop-preserved : goal.loop-preserved
loop-preserved c =
    let n : ℕ = c.loop.counter in
    let so_far = c.loop.invariant in
    let text_is = c.in_ok-text.ensures.text n so_far.behind in
    let old = c.loop.scripts.items in
    let new = c.push_reserved.new.self.items in
    let script = c.in_ok-opened.field-0 in
    record {
      within = omega arith;
      count = ap length c.push_reserved.ensures.items ∙ length_push old script ∙ ap (λ k. k + 1) so_far.count;
      room = omega arith;
      behind = c.in_ok-text.ensures.behind n so_far.behind;
      opened = opened_more c.args.board.now old new script c.in_ok-text.text.items c.push_reserved.ensures.items c.in_ok-opened.ensures
          so_far.opened;
      texts = texts_more c.args.plan.now c.args.board.now old new script c.in_ok-text.text.items n c.push_reserved.ensures.items
          c.in_ok-opened.ensures text_is so_far.texts;
    }

pub returns-clause-made : goal.returns-clause-made
returns-clause-made c =
    all_made c.args.plan.now c.requires.plan c.args.board.now c.loop.scripts.items c.loop.counter c.requires.board (omega arith)
    c.loop.invariant.opened c.loop.invariant.texts
