use Rattle.std.proofs.Common.{◌++◌, ℕ, ap, ◌∙◌}
use Rattle.std.proofs.lemmas.Result.{on_ok_weaker}
use Rattle.i2c_gen.proofs.TextLemmas.{behind_line, line_drawn}
use Rattle.i2c_gen.proofs.script.push_line.Goals as goal

pub returns : goal.returns
returns c n h =
    let p = c.args.plan.now in
    let x0 : ℕ = c.args.draws.now.x in
    let x1 : ℕ = c.draw-root.new.self.x in
    let x2 : ℕ = c.draw-channel.new.self.x in
    let x3 : ℕ = c.draw-op.new.self.x in
    let x4 : ℕ = c.draw-reg.new.self.x in
    let x5 : ℕ = c.draw-val.new.self.x in
    let e1 = c.draw-root.ensures.behind in
    let e2 = c.draw-channel.ensures.behind in
    let e3 = c.draw-op.ensures.behind in
    let e4 = c.draw-reg.ensures.behind in
    let e5 = c.draw-val.ensures.behind in
    let line = line_drawn p n x0 x1 x2 x3 x4 x5 h e1 e2 e3 e4 e5 c.from-roots.result c.draw-root.result c.draw-channel.result
    c.draw-op.result
    c.draw-reg.result c.draw-val.result c.from-roots.ensures c.draw-root.ensures.value c.draw-channel.ensures.value c.draw-op.ensures.value
    c.draw-reg.ensures.value c.draw-val.ensures.value in
    on_ok_weaker c.push_by.result
    (λ out. (behind_line p n x0 x1 x2 x3 x4 x5 h e1 e2 e3 e4 e5, out ∙ ap (λ x. c.args.out.now.items ++ x) line)) c.push_by.ensures
