use Rattle.tools.proofs.Cited.{◌≡◌, ◌-◌, ◌++◌, ◌∷◌, [], rules, arith, Ok, Err, datum_word, counted, texts, one_at}
use Rattle.std.proofs.Common.{◌==◌}
use Rattle.tools.specs.declared.command.transfer.Datum.TheVariants as datum
use Rattle.tools.proofs.CombinedLemmas.{datum_refused, one_here, series_here, data_over}
use Rattle.tools.proofs.command.transfer.read_data.Goals as goal

pub returns-in_err-byte-clause-gives : goal.returns-in_err-byte-clause-gives
returns-in_err-byte-clause-gives c =
    let l = c.loop-more in
    let is : one_at (datum_word ((c.args.len - l.more - 1) == 0)).of (texts c.args.words.now) l.at ≡ Err c.in_err-byte.field-0.0 = cc
    (c.datum_at.ensures, c.in_err-byte.was) in
    rw (datum_refused c.args.len l.more (c.args.len - l.more - 1) l.bytes (texts c.args.words.now) l.at _ l.invariant.same
    (omega (arith, c.loop-more-test.true)) _ is) (search rules)

pub returns-in-Series-clause-gives : goal.returns-in-Series-clause-gives
returns-in-Series-clause-gives c =
    let l = c.loop-more in
    let is : one_at (datum_word ((c.args.len - l.more - 1) == 0)).of (texts c.args.words.now) l.at
    ≡ Ok (datum.Series (c.in-Series.byte, c.in-Series.step)) = cc (c.datum_at.ensures, c.in_ok-byte.was, c.in-Series.is) in
    let pushed : c.push_counted.new.bytes ≡ l.bytes ++ counted (c.args.len - l.more) c.in-Series.byte c.in-Series.step = search rules in
    rw pushed (series_here c.args.len l.more (c.args.len - l.more - 1) l.bytes (texts c.args.words.now) l.at _ l.invariant.same
    (omega (arith, c.loop-more-test.true)) _ is)

pub loop-more-preserved : goal.loop-more-preserved
loop-more-preserved c =
    let l = c.loop-more in
    let is : one_at (datum_word ((c.args.len - l.more - 1) == 0)).of (texts c.args.words.now) l.at ≡ Ok (datum.One c.in-One.byte) = cc
    (c.datum_at.ensures, c.in_ok-byte.was, c.in-One.is) in
    let pushed : c.push.new.self ≡ l.bytes ++ c.in-One.byte ∷ [] = search rules in
    record {
      same = rw pushed (one_here c.args.len l.more (c.args.len - l.more - 1) l.bytes (texts c.args.words.now) l.at _ l.invariant.same
          (omega (arith, c.loop-more-test.true)) _ is);
      place = omega (arith, l.invariant.place);
    }

pub returns-clause-gives : goal.returns-clause-gives
returns-clause-gives c =
    let l = c.loop-more in
    data_over c.args.len l.more l.bytes (texts c.args.words.now) l.at _ l.invariant.same c.loop-more-test.false
