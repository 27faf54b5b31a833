-- What a message is beside the one that is in flight where it stands.
use Rattle.std.specs.Prelude.{◌≡◌, List, Some}
use Rattle.i2c_base.specs.declared.entry.Entry.{Entry}
use Rattle.i2c_base.specs.Board.{BoardView}
use Rattle.i2c_spec.specs.Messages.{MessageView}
use Rattle.i2c_spec.specs.History.{Asks}
use Rattle.bus_spec.specs.Readings.{MessageEntry, OfMessage, Everywhere}
use Rattle.bus_spec.specs.Places.{message_at}

-- it has the address and the direction of the message in flight
pub record IsInFlight (b : BoardView) (asks : Asks) (past : List Entry) (m : MessageEntry) : Type 0 where
  pub message : MessageView
  pub in_flight : message_at b asks past m.caller ≡ Some message
  pub to_addr : m.addr ≡ message.addr
  pub in_direction : m.reading ≡ message.reading

abbrev pub AreInFlight : BoardView → Asks → List Entry → Type 0
AreInFlight b asks past = Everywhere (λ e before. OfMessage (IsInFlight b asks before) e) past
