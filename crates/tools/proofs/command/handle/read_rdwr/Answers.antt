use Rattle.tools.proofs.Cited.{◌≡◌, Ok, handle_number, texts, one_at, Handle}
use Rattle.tools.specs.HandleLines.{rdwr_words}
use Rattle.tools.specs.declared.command.handle.HandleCmd.TheVariants.{Rdwr}
use Rattle.tools.proofs.CombinedLemmas.{messages_read, messages_refused}
use Rattle.tools.proofs.command.handle.read_rdwr.Goals as goal

pub returns-in-Ok : goal.returns-in-Ok
unfolding rdwr_words
returns-in-Ok c =
    let is : one_at handle_number.of (texts c.args.words.now) 1 ≡ Ok c.in_ok-handle.handle = cc (c.handle_at.ensures, c.in_ok-handle.was) in
    messages_read handle_number (λ h ms. Handle (Rdwr h ms)) (texts c.args.words.now) 1 c.in_ok-handle.handle is _
    (rw c.in-Ok.is at c.read_descs.ensures)

pub returns-in-Err : goal.returns-in-Err
unfolding rdwr_words
returns-in-Err c =
    let is : one_at handle_number.of (texts c.args.words.now) 1 ≡ Ok c.in_ok-handle.handle = cc (c.handle_at.ensures, c.in_ok-handle.was) in
    messages_refused handle_number (λ h ms. Handle (Rdwr h ms)) (texts c.args.words.now) 1 c.in_ok-handle.handle is _
    (rw c.in-Err.is at c.read_descs.ensures)
