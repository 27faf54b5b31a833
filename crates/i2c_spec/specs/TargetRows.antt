-- Worked examples of the targets' tables: what each of some events is answered.
use Rattle.std.specs.Prelude.{ℕ, true, false, List, [], ◌∷◌, ◌++◌, map, replicate}
use Rattle.i2c_base.specs.declared.event.Event.{Event}
use Rattle.i2c_base.specs.declared.event.Event.TheVariants as event
use Rattle.i2c_base.specs.declared.event.Answer.{Answer}
use Rattle.i2c_base.specs.declared.event.Answer.TheVariants as answer
use Rattle.i2c_base.specs.Table.{Table}

abbrev pub answered : {X : Type 0} → Table X → X → List Event → List Answer
answered t x [] = []
answered t x (e ∷ es) = t.answer x e ∷ answered t (t.after x e) es

-- a write of these bytes, and a read of so many, each from its start on
abbrev pub writes : List ℕ → List Event
writes bytes = event.Start false ∷ map (λ b. event.Put b) bytes

abbrev pub reads : ℕ → List Event
reads more = event.Start true ∷ replicate more (event.Get true) ++ event.Get false ∷ []

-- all acknowledged; and the bytes of a read
abbrev pub acks : ℕ → List Answer
acks n = replicate n answer.Ack

abbrev pub gives : List ℕ → List Answer
gives bytes = answer.Ack ∷ map (λ b. answer.Byte b) bytes
