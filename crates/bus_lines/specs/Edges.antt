-- What an edge of the lines is to a target.
use Rattle.std.specs.Prelude.{ℕ, Bool, true, List, cond, slice_get, false, ◌&&◌}
use Rattle.std.specs.Option.{option_map_or}
use Rattle.i2c_base.specs.declared.event.Event.TheVariants as event
use Rattle.i2c_base.specs.declared.event.Answer.{Answer}
use Rattle.i2c_base.specs.declared.event.Answer.TheVariants as answer
use Rattle.i2c_spec.specs.World.{is_ack}
use Rattle.wire_spec.specs.declared.mode.Mode.{Mode}
use Rattle.wire_spec.specs.declared.mode.Mode.TheVariants as mode
use Rattle.wire_spec.specs.Wires.{Bit, rise, fall, tick, finish, is_named, named, puts, gets, stands, entered}
use Rattle.i2c_spec.specs.Targets.RegsDevice.{is_too_long}
use Rattle.wire_spec.specs.Roots.{at, pulls_line}
use Rattle.wire_spec.specs.Started.{started, entered_by}
use Rattle.wire_spec.specs.Calls.{released}
use Rattle.wire_spec.specs.Sites.{NodeState, node_table}
use Rattle.bus_lines.specs.declared.edges.Edge.{Edge}
use Rattle.bus_lines.specs.declared.edges.Edge.TheVariants.{Rise, Fall, Tick, Finish, Leave, Other, Address, Put, Get, Enter}

-- a byte with its acknowledge clock, all nine clocks at once: it is one put to a target that stands between two bytes of a write
abbrev pub put_in : ℕ → Bit NodeState → Mode → Bit NodeState
put_in byte b mode.Out = b
put_in byte b (mode.In true left v) = b
put_in byte b (mode.In false left v) = record b { site = puts node_table b.site byte }
put_in byte b (mode.Answered begun acked next looks) = b
put_in byte b (mode.Give left) = b
put_in byte b (mode.Gave more) = b

-- and such a target acknowledges it, or not
abbrev pub acks_in : ℕ → Bit NodeState → Mode → Bool
acks_in byte b mode.Out = false
acks_in byte b (mode.In true left v) = false
acks_in byte b (mode.In false left v) = is_ack (node_table.answer b.site.state (event.Put byte))
acks_in byte b (mode.Answered begun acked next looks) = false
acks_in byte b (mode.Give left) = false
acks_in byte b (mode.Gave more) = false

abbrev pub acks_put : ℕ → Bit NodeState → Bool
acks_put byte b = b.site.joined && acks_in byte b b.mode

-- a byte that is read with the controller's answer, all nine clocks at once: it is one event to a target that sends
abbrev pub get_in : Bool → Bit NodeState → Mode → Bit NodeState
get_in ack b mode.Out = b
get_in ack b (mode.In address left v) = b
get_in ack b (mode.Answered begun acked next looks) = b
get_in ack b (mode.Give left) = stands (gets node_table b.site ack) (cond ack (mode.Give 8) mode.Out) b.hold
get_in ack b (mode.Gave more) = b

-- the byte of an answer, and all ones where it has none
abbrev pub byte_or_ones : Answer → ℕ
byte_or_ones answer.Ack = 255
byte_or_ones answer.Nack = 255
byte_or_ones answer.Slow = 255
byte_or_ones (answer.Byte byte) = byte
byte_or_ones answer.Nothing = 255

-- and what such a target gives: all ones where it is none
abbrev pub gives_in : Bit NodeState → Mode → ℕ
gives_in b mode.Out = 255
gives_in b (mode.In address left v) = 255
gives_in b (mode.Answered begun acked next looks) = 255
gives_in b (mode.Give left) = node_table.sends b.site.state
gives_in b (mode.Gave more) = 255

abbrev pub gives_get : Bit NodeState → ℕ
gives_get b = cond b.site.joined (gives_in b b.mode) 255

-- the acknowledge clock of an address, as a whole: who has answered goes on as the address told
abbrev pub enter_in : Bit NodeState → Mode → Bit NodeState
enter_in b mode.Out = b
enter_in b (mode.In address left v) = b
enter_in b (mode.Answered begun acked next looks) = stands b.site (entered next) 0
enter_in b (mode.Give left) = b
enter_in b (mode.Gave more) = b

-- and pulls SDA in it, or not
abbrev pub acked_in : Mode → Bool
acked_in mode.Out = false
acked_in (mode.In address left v) = false
acked_in (mode.Answered begun acked next looks) = acked
acked_in (mode.Give left) = false
acked_in (mode.Gave more) = false

abbrev pub acks_enter : Bit NodeState → Bool
acks_enter b = b.site.joined && acked_in b.mode

-- an address byte with its acknowledge clock, all nine clocks at once: it is one start
abbrev pub address_in : ℕ → Bit NodeState → Bit NodeState
address_in byte b = at (entered_by byte) (started node_table byte b.site)

-- the target of this number is joined, and would hold the clock at its address for too long
abbrev pub slow_at : List (Bit NodeState) → ℕ → Bool
slow_at bs k =
    option_map_or (λ (b : Bit NodeState). b.site.joined && is_too_long (node_table.hold b.site.state)) (slice_get bs k) false

-- the target of this number pulls SDA
abbrev pub pulls_at : List (Bit NodeState) → ℕ → Bool
pulls_at bs k = option_map_or (pulls_line node_table) (slice_get bs k) false

abbrev pub seen : Edge → Bit NodeState → Bit NodeState
seen (Rise level) b = rise node_table b level
seen Fall b = fall b
seen Tick b = tick b
seen Finish b = finish node_table b
seen Leave b = released b.site
seen (Other byte) b = cond (is_named byte b.site) b (named node_table b.site byte)
seen (Address byte) b = named node_table b.site byte
seen (Put byte) b = put_in byte b b.mode
seen (Get ack) b = get_in ack b b.mode
seen Enter b = enter_in b b.mode

-- the target of this number is joined
abbrev pub joined_at : List (Bit NodeState) → ℕ → Bool
joined_at bs k = option_map_or (λ (b : Bit NodeState). b.site.joined) (slice_get bs k) false
