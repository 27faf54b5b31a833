-- Replies: kept as heads with their bytes, which are errors, and how many bytes that of a transfer may have.
use Rattle.std.specs.Prelude.{ℕ, Bool, true, false, List, map}
use Rattle.std.specs.List.{sum_by}
use Rattle.i2c_base.specs.declared.reply.Reply.{Reply}
use Rattle.i2c_base.specs.declared.reply.Reply.TheVariants as reply
use Rattle.i2c_base.specs.Transfer.{TransferView, size_of}
use Rattle.i2c_base.specs.Replies.{reply_by}
use Rattle.i2c_base.specs.declared.reply.ReplyHead.{ReplyHead}

-- the reply that a head and its bytes stand for
abbrev pub reply_of : ReplyHead × List ℕ → Reply
reply_of kept = reply_by kept.0 kept.1

abbrev pub replies_of : List (ReplyHead × List ℕ) → List Reply
replies_of xs = map reply_of xs

-- a reply that is an error
abbrev pub is_error : Reply → Bool
is_error reply.Done = false
is_error (reply.Read bytes) = false
is_error (reply.Err errno) = true

-- a reply brings at most the bytes that the messages stand for
abbrev pub most_brought : TransferView → ℕ
most_brought t = sum_by size_of t.msgs
