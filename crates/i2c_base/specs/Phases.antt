-- What may come next on a port, by what it has come to since its last stop. Each is by cases, so that a
-- caller's goal computes.
use Rattle.std.specs.Prelude.{⊤, Bool, true, false}
use Rattle.i2c_base.specs.declared.event.Answer.{Answer}
use Rattle.i2c_base.specs.declared.event.Answer.TheVariants as answer
use Rattle.i2c_base.specs.declared.port.Phase.{Phase}
use Rattle.i2c_base.specs.declared.port.Phase.TheVariants.{Idle, Writing, PutRefused, Reading, LastRead, Unanswered, Slow}

-- a start or a repeated start: not after a target held the clock, nor before the last byte of a read
abbrev pub MayStart : Phase → Type 0
MayStart Idle = ⊤
MayStart Writing = ⊤
MayStart PutRefused = ⊤
MayStart Reading = ⊥
MayStart LastRead = ⊤
MayStart Unanswered = ⊤
MayStart Slow = ⊥

abbrev pub MayPut : Phase → Type 0
MayPut Idle = ⊥
MayPut Writing = ⊤
MayPut PutRefused = ⊥
MayPut Reading = ⊥
MayPut LastRead = ⊥
MayPut Unanswered = ⊥
MayPut Slow = ⊥

abbrev pub MayGet : Phase → Type 0
MayGet Idle = ⊥
MayGet Writing = ⊥
MayGet PutRefused = ⊥
MayGet Reading = ⊤
MayGet LastRead = ⊥
MayGet Unanswered = ⊥
MayGet Slow = ⊥

-- a message is in progress, and no target waits for the controller's answer
abbrev pub MayStop : Phase → Type 0
MayStop Idle = ⊥
MayStop Writing = ⊤
MayStop PutRefused = ⊤
MayStop Reading = ⊥
MayStop LastRead = ⊤
MayStop Unanswered = ⊤
MayStop Slow = ⊤

abbrev pub MayLine : Phase → Type 0
MayLine Idle = ⊤
MayLine Writing = ⊥
MayLine PutRefused = ⊥
MayLine Reading = ⊥
MayLine LastRead = ⊥
MayLine Unanswered = ⊥
MayLine Slow = ⊥

-- what a start comes to by its answer, a byte that is put by whether it is acknowledged, and a byte that is read
abbrev pub begun : Bool → Phase
begun false = Writing
begun true = Reading

abbrev pub phase_started : Bool → Answer → Phase
phase_started reading answer.Ack = begun reading
phase_started reading answer.Nack = Unanswered
phase_started reading answer.Slow = Slow
phase_started reading (answer.Byte byte) = Unanswered
phase_started reading answer.Nothing = Unanswered

abbrev pub phase_put : Bool → Phase
phase_put true = Writing
phase_put false = PutRefused

abbrev pub phase_got : Bool → Phase
phase_got true = Reading
phase_got false = LastRead

-- a start is answered by Ack, Nack or Slow
abbrev pub AnswersStart : Answer → Type 0
AnswersStart answer.Ack = ⊤
AnswersStart answer.Nack = ⊤
AnswersStart answer.Slow = ⊤
AnswersStart (answer.Byte byte) = ⊥
AnswersStart answer.Nothing = ⊥
