use Rattle.tools.proofs.Cited.{◌≡◌, false, sym, ◌∙◌, arith, Ok, message_at, texts, is_past}
use Rattle.tools.proofs.CombinedLemmas.{message_faulty, line_over, line_on, too_many}
use Rattle.tools.proofs.command.transfer.read_descs.Goals as goal

pub returns-in-Err : goal.returns-in-Err
returns-in-Err c =
    let l = c.loop in
    message_faulty 42 l.counter l.place l.messages (texts c.args.words.now) _ l.invariant.same _ c.loop-test.true
    (rw c.in-Err.is at c.read_message.ensures.gives)

pub returns-then-is_past : goal.returns-then-is_past
returns-then-is_past c =
    let l = c.loop in
    let read : message_at l.place l.messages (texts c.args.words.now) ≡ Ok (c.read_message.new.messages, c.in-Ok.next) =
    rw c.in-Ok.is at c.read_message.ensures.gives in
    line_over 42 l.counter l.place l.messages (texts c.args.words.now) _ l.invariant.same _ c.in-Ok.next c.loop-test.true read
    (sym c.is_past.ensures ∙ c.if-is_past.true)

pub loop-preserved : goal.loop-preserved
loop-preserved c =
    let l = c.loop in
    let read : message_at l.place l.messages (texts c.args.words.now) ≡ Ok (c.read_message.new.messages, c.in-Ok.next) =
    rw c.in-Ok.is at c.read_message.ensures.gives in
    let more : is_past (texts c.args.words.now) c.in-Ok.next.at ≡ false = sym c.is_past.ensures ∙ c.if-is_past.false in
    let near = rw c.in-Ok.is at c.read_message.ensures.near in
    record {
      same = line_on 42 l.counter l.place l.messages (texts c.args.words.now) _ l.invariant.same _ c.in-Ok.next c.loop-test.true read more;
      near = omega (arith, near.0, l.invariant.near);
      small = omega (arith, near.1, l.invariant.small);
      held = rw c.in-Ok.is at c.read_message.ensures.held;
      more = λ h. more;
    }

pub returns : goal.returns
returns c =
    let l = c.loop in
    too_many 42 l.counter l.place l.messages (texts c.args.words.now) _ l.invariant.same c.loop-test.false
    (l.invariant.more (omega (arith, c.loop-test.false)))
