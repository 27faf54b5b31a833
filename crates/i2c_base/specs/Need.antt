-- The room that a caller needs for its replies.
use Rattle.std.specs.Prelude.{ℕ, ◌≤◌, List, []}
use Rattle.i2c_base.specs.declared.reply.Reply.{Reply}
use Rattle.i2c_base.specs.declared.reply.Reply.TheVariants.{Done, Read, Err}

-- the bytes of a reply
abbrev pub bytes_given : Reply → List ℕ
bytes_given Done = []
bytes_given (Read bytes) = bytes
bytes_given (Err errno) = []

-- room for so many replies, and for so many bytes of all of them together
pub record Need : Type 0 where
  pub replies : ℕ
  pub bytes : ℕ

-- what is owed is within what is spare
pub record Covers (spare owed : Need) : Type 0 where
  pub replies : owed.replies ≤ spare.replies
  pub bytes : owed.bytes ≤ spare.bytes
