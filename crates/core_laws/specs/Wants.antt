-- What a step wants of the locks that its caller holds.
use Rattle.std.specs.Prelude.{List, Option, Some, None}
use Rattle.i2c_base.specs.declared.ids.LockId.{LockId}
use Rattle.i2c_base.specs.Board.{BoardView}
use Rattle.bus_spec.specs.Walk.{Act, Note}
use Rattle.bus_spec.specs.Walk as walk
use Rattle.bus_laws.specs.Holds.{SendsIn}

-- a message or a line step wants those of its bus, and of the muxes that it turns or marks
abbrev pub WantsIn : BoardView → List LockId → Option Act → Note → Type 0
WantsIn b held None note = Unit {0}
WantsIn b held (Some (walk.Take l)) note = Unit {0}
WantsIn b held (Some (walk.Free l)) note = Unit {0}
WantsIn b held (Some (walk.Send job left)) note = SendsIn b job note.marks held
WantsIn b held (Some (walk.Shift job)) note = SendsIn b job note.marks held
WantsIn b held (Some (walk.Settle verdict)) note = Unit {0}
