-- What a caller of one read asks for, and what is left of it.
use Rattle.std.specs.Prelude.{ℕ, false, List, [], ◌∷◌, Option, Some, None}
use Rattle.i2c_base.specs.declared.reply.Reply.{Reply}
use Rattle.i2c_base.specs.declared.transfer.TransferKind.TheVariants.{Plain}
use Rattle.i2c_base.specs.Board.{BoardView}
use Rattle.i2c_base.specs.Need.{Need}
use Rattle.i2c_base.specs.Transfer.{TransferView, plain_read}
use Rattle.i2c_spec.specs.Cost.{cost_of}

-- the board that it was opened with, the bus, and the address on it
pub record ReadView : Type 0 where
  pub board : BoardView
  pub bus : ℕ
  pub addr : ℕ

abbrev pub board_of : ReadView → BoardView
board_of s = s.board

-- a read of one byte
abbrev pub transfer_to : ℕ → ℕ → TransferView
transfer_to bus addr = record { bus = bus; kind = Plain; force = false; msgs = plain_read addr 1 ∷ []; out = [] }

-- it is asked for until a reply came
abbrev pub asked_by : ReadView → List Reply → Option TransferView
asked_by s [] = Some (transfer_to s.bus s.addr)
asked_by s (r ∷ rs) = None

abbrev pub left_of : ReadView → List Reply → ℕ
left_of s [] = cost_of s.board (transfer_to s.bus s.addr)
left_of s (r ∷ rs) = 0

-- it needs no room, since it keeps its reply in place
abbrev pub room_of : Need
room_of = record { replies = 0; bytes = 0 }

abbrev pub owed_by : ReadView → List Reply → Need
owed_by s rs = room_of
