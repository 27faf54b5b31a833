use Rattle.std.proofs.Common.{◌≡◌, false, List, sym, ◌∙◌, ap, subst}
use Rattle.i2c_base.specs.Board.{BoardView}
use Rattle.i2c_base.specs.Transfer.{TransferView}
use Rattle.i2c_base.specs.declared.reply.Reply.{Reply}
use Rattle.i2c_base.specs.declared.reply.Cut.TheVariants as cut
use Rattle.i2c_spec.specs.Flat.{flat}
use Rattle.tools.specs.Dialogues.{Dialogue, is_over, next_place}
use Rattle.tools.specs.Replies.{replies_of}
use Rattle.caller_core.specs.Runs.{command_dialogue}
use Rattle.i2c_session.proofs.TalkLemmas.{HasComeTo, come-more, come-over, over_at, past_all}
use Rattle.i2c_session.proofs.talk.replies_to.Goals as goal

pub loop-place-preserved : goal.loop-place-preserved
loop-place-preserved c =
    let at = c.loop-place in
    let b = c.args.flat.now.board in
    let d : Dialogue = command_dialogue c.args.run.now in
    let states = c.args.flat.now.states in
    let told = c.apply-reply.ensures.told
    ∙ ap (λ (t : TransferView). flat at.flat.board at.flat.states t cut.No) c.put.ensures
    ∙ ap (λ (k : BoardView). flat k at.flat.states (d.at at.place) cut.No) at.invariant.board in
    let head = c.in_ok-head.ensures.head in
    let more : is_over d at.place ≡ false = over_at d.places at.place c.places.result c.places.ensures.value c.loop-place-test.true in
    record {
      board = c.apply-reply.ensures.board ∙ at.invariant.board;
      come = subst (λ (rs : List Reply). HasComeTo b d states rs c.behind-place.result c.apply-reply.new.self.states)
          (sym c.in_ok-head.ensures.kept)
          (come-more b d states at.flat.states c.apply-reply.new.self.states (replies_of at.replies.items) at.place c.behind-place.result
          c.apply-reply.result at.invariant.come more told
          (c.behind-place.ensures head.bytes ∙ ap (λ (r : Reply). next_place d at.place r) (sym head.is)));
    }

pub returns-clause-talked : goal.returns-clause-talked
returns-clause-talked c =
    let at = c.loop-place in
    (come-over _ (command_dialogue c.args.run.now) _ at.flat.states (replies_of at.replies.items) at.place at.invariant.come
    (past_all (command_dialogue c.args.run.now).places at.place c.places.result c.places.ensures.value c.loop-place-test.false)).0

pub returns-clause-fit : goal.returns-clause-fit
returns-clause-fit c =
    let at = c.loop-place in
    (come-over _ (command_dialogue c.args.run.now) _ at.flat.states (replies_of at.replies.items) at.place at.invariant.come
    (past_all (command_dialogue c.args.run.now).places at.place c.places.result c.places.ensures.value c.loop-place-test.false)).1
