-- The reply of a transfer as it is kept in place.
use Rattle.std.specs.Prelude.{ℕ, List}
use Rattle.i2c_base.specs.declared.errno.Errno.{Errno}
use Rattle.i2c_base.specs.declared.reply.Reply.{Reply}
use Rattle.i2c_base.specs.declared.reply.Reply.TheVariants as reply
use Rattle.bus_core.specs.declared.replies.Decided.{Decided}
use Rattle.bus_core.specs.declared.replies.Decided.TheVariants as decided

-- what the reads of a transfer gave so far, and the error that it ended with, if it did
pub record RepliesView : Type 0 where
  pub got : List ℕ
  pub errno : Errno

abbrev pub reply_decided : Decided → RepliesView → Reply
reply_decided decided.Done r = reply.Done
reply_decided decided.Read r = reply.Read r.got
reply_decided decided.Failed r = reply.Err r.errno
