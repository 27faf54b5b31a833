-- Whose messages a walk sends, and which one first.
use Rattle.std.specs.Prelude.{◌≡◌, ℕ, Bool, true, false, List, Option, Some, None}
use Rattle.i2c_base.specs.declared.entry.End.{End}
use Rattle.i2c_base.specs.declared.reply.Reply.{Reply}
use Rattle.i2c_base.specs.Board.{BoardView}
use Rattle.i2c_base.specs.Transfer.{TransferView}
use Rattle.i2c_spec.specs.Tree.{hops, IsAmongHops}
use Rattle.i2c_spec.specs.Flat.{refusal}
use Rattle.i2c_spec.specs.History.{Asks}
use Rattle.bus_spec.specs.Walk.{Job, Call, Select, SwitchOff, Take, Free, Send, Shift, Settle, ActOutcome, Passed, Sent, Lined, Note, WalkTree, Ends, Look, Then, more_of}
use Rattle.bus_laws.specs.Runs.{IsGranted}
use Rattle.bus_laws.specs.Settles.{Settles}

-- a mux that is selected lies over the transfer's bus
abbrev pub SelectsOver : BoardView → TransferView → Job → Type 0
SelectsOver b t (Call bus messages) = Unit {0}
SelectsOver b t (Select h) = IsAmongHops h (hops b t.bus)
SelectsOver b t (SwitchOff off) = Unit {0}

-- a step on the way to the caller's messages is one of their transfer, which isn't refused
abbrev pub IsOnWay : BoardView → TransferView → Note → Job → Type 0
IsOnWay b t note job = note.forward ≡ true → (refusal b t ≡ None) × SelectsOver b t job

-- the caller's messages in it are those of this transfer, which isn't refused, and so is the way to them, whatever the
-- steps give
abbrev pub CallsOf : BoardView → TransferView → WalkTree → Type 0
CallsOf b t Ends = Unit {0}
CallsOf b t (Look ask next) = (m : Option ℕ) → CallsOf b t (next m)
CallsOf b t (Then (Send job left) note next) = IsGranted b t job × IsOnWay b t note job × ((out : ActOutcome) → CallsOf b t (next out))
CallsOf b t (Then (Take l) note next) = (out : ActOutcome) → CallsOf b t (next out)
CallsOf b t (Then (Free l) note next) = (out : ActOutcome) → CallsOf b t (next out)
CallsOf b t (Then (Shift job) note next) = IsOnWay b t note job × ((out : ActOutcome) → CallsOf b t (next out))
CallsOf b t (Then (Settle verdict) note next) = (out : ActOutcome) → CallsOf b t (next out)

-- a walk that hasn't sent a message of its caller's sends the first one first
abbrev pub FirstCalls : WalkTree → Type 0
FirstCalls Ends = Unit {0}
FirstCalls (Look ask next) = (m : Option ℕ) → FirstCalls (next m)
FirstCalls (Then (Take l) note next) = FirstCalls (next Passed)
FirstCalls (Then (Free l) note next) = FirstCalls (next Passed)
FirstCalls (Then (Send (Call bus messages) left) note next) = left ≡ more_of (Call bus messages)
FirstCalls (Then (Send (Select h) left) note next) = (e : End) (bytes : List ℕ) → FirstCalls (next (Sent e bytes))
FirstCalls (Then (Send (SwitchOff off) left) note next) = (e : End) (bytes : List ℕ) → FirstCalls (next (Sent e bytes))
FirstCalls (Then (Shift job) note next) = (failed : Bool) → FirstCalls (next (Lined failed))
FirstCalls (Then (Settle verdict) note next) = FirstCalls (next Passed)

-- what is left of a caller's walk: until it has settled, it is of the transfer that its caller asks for
pub record IsAsked (b : BoardView) (asks : Asks) (c : ℕ) (walk : WalkTree) (settled : List Reply) : Type 0 where
  pub whose : TransferView
  pub done : Bool
  pub calls : CallsOf b whose walk
  pub settles : Settles done walk
  pub asked : done ≡ false → asks c settled ≡ Some whose
