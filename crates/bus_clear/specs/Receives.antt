-- A ReceiveByte (SMBus 3.2 section 6.5.3), as a transfer of its own; and what a root comes to whose read was cut off.
use Rattle.std.specs.Prelude.{◌≡◌, ℕ, Bool, true, false, List, [], Option, Some, None, Result, Ok, Err, get_or}
use Rattle.i2c_base.specs.Board.{BoardView}
use Rattle.i2c_base.specs.declared.errno.Errno.{Errno}
use Rattle.i2c_spec.specs.Conversation.{TalkTold, talk, world_listener}
use Rattle.i2c_spec.specs.Flat.{block_limit, errno_of}
use Rattle.i2c_spec.specs.Messages.{MessageView}
use Rattle.i2c_spec.specs.World.{World, opening_world}
use Rattle.bus_clear.specs.Cuts.{level_at, pulses_of, cleared_world}

-- a read of one byte
abbrev pub receive_message : ℕ → MessageView
receive_message addr = record { addr = addr; reading = true; counted = false; len = 1; bytes = [] }

-- its conversation, none of whose calls fails, and the reply
abbrev pub received : ℕ → World → ℕ → TalkTold World
received limit w addr = talk world_listener limit w (receive_message addr) true None

abbrev pub reply_by : Option Errno → List ℕ → Result ℕ Errno
reply_by None bytes = Ok (get_or bytes 0 0)
reply_by (Some e) bytes = Err e

abbrev pub reply_of : TalkTold World → Result ℕ Errno
reply_of t = reply_by (errno_of t.end) t.bytes

-- a read of this address that is cut off at this rise, on a root as its board is opened: whether SDA is high after the cut, the
-- pulses of bus clear, and the reply to the next read
pub record RootClears (b : BoardView) (r addr cut : ℕ) (high : Bool) (pulses : ℕ) (read : Result ℕ Errno) : Type 0 where
  pub level : high ≡ level_at (opening_world b r) addr cut
  pub pulses_are : pulses ≡ pulses_of (opening_world b r) addr cut
  pub reply : read ≡ reply_of (received (block_limit b) (cleared_world (opening_world b r) addr cut) addr)
