-- The reply that a head and its bytes stand for.
use Rattle.std.specs.Prelude.{ℕ, List}
use Rattle.i2c_base.specs.Limits.{MOST_BYTES}
use Rattle.i2c_base.specs.declared.reply.Reply.{Reply}
use Rattle.i2c_base.specs.declared.reply.Reply.TheVariants as reply
use Rattle.i2c_base.specs.declared.reply.ReplyHead.{ReplyHead}
use Rattle.i2c_base.specs.declared.reply.ReplyHead.TheVariants as head

abbrev pub reply_by : ReplyHead → List ℕ → Reply
reply_by head.Done bytes = reply.Done
reply_by head.Read bytes = reply.Read bytes
reply_by (head.Err errno) bytes = reply.Err errno

-- a transfer reads at most 4,096 bytes
abbrev pub most_read : ReplyHead → ℕ
most_read head.Done = 0
most_read head.Read = MOST_BYTES
most_read (head.Err errno) = 0
