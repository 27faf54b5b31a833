use Rattle.tools.proofs.Cited.{◌≡◌, Ok, page_written, texts, one_at}
use Rattle.tools.specs.At24Lines.{offset, written_span}
use Rattle.tools.proofs.ByteListLemmas.{line_read, line_refused}
use Rattle.tools.proofs.command.driver.at24.written_span_at.Goals as goal

pub returns-in-Ok : goal.returns-in-Ok
unfolding written_span
returns-in-Ok c =
    let is : one_at offset.of (texts c.args.words.now) c.args.at ≡ Ok c.in_ok-offset.offset =
    cc (c.number_at.ensures.gives, c.in_ok-offset.was) in
    line_read offset 64 (page_written c.args.bus c.args.addr) (texts c.args.words.now) c.args.at c.in_ok-offset.offset is _
    (rw c.in-Ok.is at c.read_bytes.ensures)

pub returns-in-Err : goal.returns-in-Err
unfolding written_span
returns-in-Err c =
    let is : one_at offset.of (texts c.args.words.now) c.args.at ≡ Ok c.in_ok-offset.offset =
    cc (c.number_at.ensures.gives, c.in_ok-offset.was) in
    line_refused offset 64 (page_written c.args.bus c.args.addr) (texts c.args.words.now) c.args.at c.in_ok-offset.offset is _
    (rw c.in-Err.is at c.read_bytes.ensures)
