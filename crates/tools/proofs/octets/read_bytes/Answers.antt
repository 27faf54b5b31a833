use Rattle.tools.proofs.Cited.{◌≡◌, ◌+◌, ◌++◌, ◌∷◌, [], true, false, rules, arith, sym, ◌∙◌, Ok, Err, byte, texts, one_at, is_past}
use Rattle.tools.proofs.ByteListLemmas.{byte_refused, byte_last, byte_on, bytes_over}
use Rattle.tools.proofs.octets.read_bytes.Goals as goal

pub returns-in_err-byte : goal.returns-in_err-byte
returns-in_err-byte c =
    let l = c.loop in
    let is : one_at byte.of (texts c.args.words.now) l.at ≡ Err c.in_err-byte.field-0.0 = cc (c.byte_at.ensures, c.in_err-byte.was) in
    rw (byte_refused c.args.most l.counter l.bytes (texts c.args.words.now) l.at _ l.invariant.same _ c.loop-test.true is) (search rules)

pub returns-then-is_past : goal.returns-then-is_past
returns-then-is_past c =
    let l = c.loop in
    let is : one_at byte.of (texts c.args.words.now) l.at ≡ Ok c.in_ok-byte.byte = cc (c.byte_at.ensures, c.in_ok-byte.was) in
    let pushed : c.push.new.self ≡ l.bytes ++ c.in_ok-byte.byte ∷ [] = search rules in
    let over : is_past (texts c.args.words.now) (l.at + 1) ≡ true = sym c.is_past.ensures ∙ c.if-is_past.true in
    rw pushed (byte_last c.args.most l.counter l.bytes (texts c.args.words.now) l.at _ l.invariant.same _ c.loop-test.true is over)

pub loop-preserved : goal.loop-preserved
loop-preserved c =
    let l = c.loop in
    let is : one_at byte.of (texts c.args.words.now) l.at ≡ Ok c.in_ok-byte.byte = cc (c.byte_at.ensures, c.in_ok-byte.was) in
    let pushed : c.push.new.self ≡ l.bytes ++ c.in_ok-byte.byte ∷ [] = search rules in
    let more : is_past (texts c.args.words.now) (l.at + 1) ≡ false = sym c.is_past.ensures ∙ c.if-is_past.false in
    record {
      same = rw pushed (byte_on c.args.most l.counter l.bytes (texts c.args.words.now) l.at _ l.invariant.same _ c.loop-test.true is more);
      place = omega (arith, l.invariant.place);
      more = λ h. more;
    }

pub returns : goal.returns
returns c =
    let l = c.loop in
    bytes_over c.args.most l.counter l.bytes (texts c.args.words.now) l.at _ l.invariant.same c.loop-test.false
    (l.invariant.more (omega (arith, c.loop-test.false, c.requires.some)))
