use Rattle.tools.proofs.Cited.{◌≡◌, ◌++◌, ◌∷◌, [], rules, arith, Ok, Err, texts, one_at, block_piece, block_mode, is_short}
use Rattle.tools.specs.declared.command.set.SetPiece.TheVariants as piece
use Rattle.tools.proofs.SetLemmas.{piece_refused, named_here, value_here, mode_refused, mode_here}
use Rattle.tools.proofs.command.set.read_block.Goals as goal

pub returns-in_err-mode : goal.returns-in_err-mode
returns-in_err-mode c =
    let l = c.loop in
    let is : one_at (block_piece (is_short l.values)).of (texts c.args.words.now) l.at ≡ Err c.in_err-mode.field-0.0 = cc
    (c.is_short.ensures, c.block_piece_at.ensures, c.in_err-mode.was) in
    rw (piece_refused c.args.head c.args.more l.counter l.values (texts c.args.words.now) l.at _ l.invariant.same _ c.loop-test.true is)
    (search rules)

pub returns-in-Named : goal.returns-in-Named
returns-in-Named c =
    let l = c.loop in
    let is : one_at (block_piece (is_short l.values)).of (texts c.args.words.now) l.at ≡ Ok (piece.Named c.in-Named.mode) = cc
    (c.is_short.ensures, c.block_piece_at.ensures, c.in_ok-mode.was, c.in-Named.is) in
    rw (named_here c.args.head c.args.more l.counter l.values (texts c.args.words.now) l.at _ l.invariant.same _ c.loop-test.true is)
    c.end.ensures

pub loop-preserved : goal.loop-preserved
loop-preserved c =
    let l = c.loop in
    let is : one_at (block_piece (is_short l.values)).of (texts c.args.words.now) l.at ≡ Ok (piece.Value c.in-Value.value) = cc
    (c.is_short.ensures, c.block_piece_at.ensures, c.in_ok-mode.was, c.in-Value.is) in
    let pushed : c.push.new.self ≡ l.values ++ c.in-Value.value ∷ [] = search rules in
    record {
      same = rw pushed (value_here c.args.head c.args.more l.counter l.values (texts c.args.words.now) l.at _ l.invariant.same _
          c.loop-test.true is);
      place = omega (arith, l.invariant.place);
    }

pub returns-in_err-mode-2 : goal.returns-in_err-mode-2
returns-in_err-mode-2 c =
    let l = c.loop in
    let is : one_at (block_mode (is_short l.values)) (texts c.args.words.now) l.at ≡ Err c.in_err-mode-2.field-0.0 = cc
    (c.is_short-2.ensures, c.block_mode_at.ensures, c.in_err-mode-2.was) in
    rw (mode_refused c.args.head c.args.more l.counter l.values (texts c.args.words.now) l.at _ l.invariant.same _ c.loop-test.false is)
    (search rules)

pub returns : goal.returns
returns c =
    let l = c.loop in
    let is : one_at (block_mode (is_short l.values)) (texts c.args.words.now) l.at ≡ Ok c.in_ok-mode-2.mode = cc
    (c.is_short-2.ensures, c.block_mode_at.ensures, c.in_ok-mode-2.was) in
    rw (mode_here c.args.head c.args.more l.counter l.values (texts c.args.words.now) l.at _ l.invariant.same _ c.loop-test.false is)
    c.end-2.ensures
