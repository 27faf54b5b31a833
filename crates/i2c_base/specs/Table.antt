use Rattle.std.specs.Prelude.{ℕ}
use Rattle.i2c_base.specs.declared.event.Event.{Event}
use Rattle.i2c_base.specs.declared.event.Answer.{Answer}
use Rattle.i2c_base.specs.declared.event.Answer.TheVariants.{Ack, Nack, Slow, Byte, Nothing}

-- the byte that an answer puts on the wires, which nobody pulls low where none is sent (UM10204 section 3.1.1)
abbrev pub byte_of : Answer → ℕ
byte_of (Byte byte) = byte
byte_of Ack = 255
byte_of Nack = 255
byte_of Slow = 255
byte_of Nothing = 255

-- the meaning of a target
pub record Table (X : Type 0) : Type 0 where
  -- the state that an event leaves, and what it is answered
  pub after : X → Event → X
  pub answer : X → Event → Answer
  -- the byte that the next Get would answer
  pub sends : X → ℕ
  -- for how many looks it holds the clock at its address; 0 where it doesn't (UM10204 section 3.1.9)
  pub hold : X → ℕ
