use Rattle.flat_world.proofs.Cited.{ap, ◌∙◌, barred, idle}
use Rattle.flat_world.specs.Worlds.{FlatView}
use Rattle.flat_world.proofs.FlatLemmas.{replied, same_site}
use Rattle.flat_world.proofs.flat.Flat.apply.Goals as goal

pub returns-clause-told : goal.returns-clause-told
returns-clause-told c =
    let now = c.args.self.now in
    let t = c.args.transfer.now in
    let board = c.board-board.ensures.value ∙ ap (λ (f : FlatView). f.board) c.self.view_is in
    let states = ap (λ (f : FlatView). f.states) c.self.view_is in
    let there = c.new-site.ensures ∙ same_site _ now.board _ t.bus _ t.force board c.bus.ensures c.force.ensures in
    replied now.board now.states t c.args.cut c.barred.result c.new-site.result c.begin.new.self c.send_all-end.new.got
    c.send_all-end.new.now c.send_all-end.result c.reply_of.result
    (c.barred.ensures ∙ ap (λ b. barred b t c.args.cut) (c.layout.ensures.value ∙ board)) c.in_default.is there (c.begin.ensures
    ∙ ap idle states) c.send_all-end.ensures c.reply_of.ensures
