use Rattle.tools.proofs.Cited.{◌≡◌, Ok, handle_number, texts, one_at, Handle}
use Rattle.tools.specs.HandleLines.{write_words}
use Rattle.tools.specs.declared.command.handle.HandleCmd.TheVariants.{Write}
use Rattle.tools.proofs.ByteListLemmas.{line_read, line_refused}
use Rattle.tools.proofs.command.handle.read_write.Goals as goal

pub returns-in-Ok : goal.returns-in-Ok
unfolding write_words
returns-in-Ok c =
    let is : one_at handle_number.of (texts c.args.words.now) 1 ≡ Ok c.in_ok-handle.handle = cc (c.handle_at.ensures, c.in_ok-handle.was) in
    line_read handle_number 512 (λ h bytes. Handle (Write h bytes)) (texts c.args.words.now) 1 c.in_ok-handle.handle is _
    (rw c.in-Ok.is at c.read_bytes.ensures)

pub returns-in-Err : goal.returns-in-Err
unfolding write_words
returns-in-Err c =
    let is : one_at handle_number.of (texts c.args.words.now) 1 ≡ Ok c.in_ok-handle.handle = cc (c.handle_at.ensures, c.in_ok-handle.was) in
    line_refused handle_number 512 (λ h bytes. Handle (Write h bytes)) (texts c.args.words.now) 1 c.in_ok-handle.handle is _
    (rw c.in-Err.is at c.read_bytes.ensures)
