use Rattle.flat_world.proofs.Cited.{◌≡◌, ◌+◌, ◌<◌, eqb, length, take, drop, refl, sym, ap, ◌∙◌, arith, IsMessage, size_of, written_of}
use Rattle.flat_world.proofs.Cited.{block_limit, cut_in, granted_on, message_with, messages_from, once_listener, all_of, all_with}
use Rattle.std.proofs.lemmas.List.Elements.{All-get_or}
use Rattle.i2c_spec.specs.Conversation as spec
use Rattle.i2c_spec.proofs.BlockLemmas.{is_block_limit}
use Rattle.flat_world.proofs.FitLemmas.{read_fits_room}
use Rattle.flat_world.proofs.SendingLemmas.{as_sent}
use Rattle.flat_world.proofs.TransferLemmas.{went_through, ended_early, cut_out, left_over}
use Rattle.flat_world.proofs.transfer.send_all.Goals as goal
use Rattle.flat_world.proofs.transfer.send_all.Goals.{After-send-end}

-- message i as it was sent
sent : (c : After-send-end)
    → all_with c.send-end.new.got c.send-end.new.now c.send-end.result
    ≡ all_of c.loop-i.got (message_with c.index-msgs-i.result (take (written_of c.index-msgs-i.result) c.loop-i.rest.now))
    (spec.talk (once_listener (granted_on c.args.site.now.board c.args.site.now.bus c.args.site.now.force))
    (block_limit c.args.site.now.board) c.loop-i.now
    (message_with c.index-msgs-i.result (take (written_of c.index-msgs-i.result) c.loop-i.rest.now))
    (eqb (c.loop-i.i + 1) (length c.msgs-msgs.result.now)) (cut_in c.args.cut c.loop-i.i))
sent c =
    let m = c.index-msgs-i.result in
    let rest = c.loop-i.rest.now in
    let same = cut_out m c.from.result rest c.split_at.result.0.now _ (c.from.ensures ∙ c.written.ensures) c.split_at.ensures.front refl in
    let site = c.args.site.now in
    as_sent (granted_on site.board site.bus site.force) c.granted.result c.cut_in.result
    (cut_in c.args.cut c.loop-i.i) _ _ (block_limit site.board) _ (message_with m (take (written_of m) rest)) c.loop-i.got
    c.loop-i.now _ c.granted.ensures.value c.cut_in.ensures c.limit-limit.ensures same c.send-end.ensures

pub returns-then-not-is_good : goal.returns-then-not-is_good
returns-then-not-is_good c =
    let site = c.args.site.now in
    ended_early (once_listener (granted_on site.board site.bus site.force)) (block_limit site.board) c.loop-i.now c.msgs-msgs.result.now
    c.loop-i.rest.now c.loop-i.i (cut_in c.args.cut) c.loop-i.got c.index-msgs-i.result _ _ _ _ c.loop-i-test.true c.index-msgs-i.is refl
    (sent (goal.at.returns-then-not-is_good c).After-send-end) (sym c.is_good.ensures ∙ c.if-not-is_good.true)
    ∙ c.loop-i.invariant.told

pub loop-i-preserved : goal.loop-i-preserved
loop-i-preserved c =
    let site = c.args.site.now in
    let granted = granted_on site.board site.bus site.force in
    let limit = block_limit site.board in
    let msgs = c.msgs-msgs.result.now in
    let rest = c.loop-i.rest.now in
    let i = c.loop-i.i in
    let m = c.index-msgs-i.result in
    let within : i < length msgs = c.loop-i-test.true in
    let was = sent (goal.at.loop-i-preserved c).After-send-end in
    let back : c.split_at.result.1.now ≡ drop (written_of m) rest = c.split_at.ensures.back
    ∙ ap (λ n. drop n rest) (c.from.ensures ∙ c.written.ensures) in
    let is : IsMessage m = rw c.index-msgs-i.is
    (All-get_or IsMessage msgs i m within (rw c.msgs-msgs.ensures.value c.msgs-msgs.ensures.kept.each)) in
    record {
      written = omega (
        arith,
        left_over written_of msgs i m within c.index-msgs-i.is,
        c.loop-i.invariant.written,
        c.split_at.ensures.back_len,
        c.from.ensures,
        c.written.ensures,
      );
      room = omega (
        arith,
        left_over size_of msgs i m within c.index-msgs-i.is,
        c.loop-i.invariant.room,
        read_fits_room
            (once_listener granted) (cut_in c.args.cut i) (eqb (i + 1) (length msgs)) limit c.loop-i.now c.send-end.new.now m
            (take (written_of m) rest) c.loop-i.got c.send-end.new.got c.send-end.result (is_block_limit site.board).few is was,
      );
      told = ap (λ b. spec.talk_all (once_listener granted) limit c.send-end.new.now (messages_from (drop (i + 1) msgs) b) (i + 1)
          (cut_in c.args.cut) c.send-end.new.got) back
          ∙ went_through (once_listener granted) limit c.loop-i.now msgs rest i
          (cut_in c.args.cut) c.loop-i.got m _ _ _ _ within c.index-msgs-i.is refl was (sym c.is_good.ensures ∙ c.if-not-is_good.false)
          ∙ c.loop-i.invariant.told;
    }
