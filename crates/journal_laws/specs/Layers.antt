-- Where a journal may be cut off, and what its ports give.
use Rattle.std.specs.Prelude.{◌≡◌, List, length, Option, Some}
use Rattle.i2c_base.specs.declared.entry.Entry.{Entry}
use Rattle.i2c_base.specs.declared.entry.Entry.TheVariants as entry
use Rattle.i2c_base.specs.Board.{BoardView}
use Rattle.i2c_spec.specs.Tree.{root_of}
use Rattle.bus_spec.specs.Walk.{Act, Send, Shift, job_bus}
use Rattle.bus_spec.specs.Readings.{OfMessage}
use Rattle.bus_spec.specs.Past.{Now, cut_of}
use Rattle.bus_spec.specs.Legal.{IsDirectlyBehind}
use Rattle.bus_spec.specs.Play.{Failing, next_failing}

-- an entry after a past is the settle of the message or line step directly before it
abbrev pub BelongsTo : Entry → List Entry → Type 0
BelongsTo (entry.Settle c r cut) past = IsDirectlyBehind c past
BelongsTo e past = ⊥

-- the calls of the ports fail as the entry tells that this step is: the message ends at the first of its calls that fails,
-- and the line step fails where its call does
abbrev pub FailsAs : BoardView → Failing → Now → Option Act → Entry → Type 0
FailsAs b fails n (Some (Send job left)) e = OfMessage (λ m. next_failing b fails n job left ≡ cut_of m.end) e
FailsAs b fails n (Some (Shift job)) (entry.Line c mux level failed) =
    fails (root_of b (job_bus job)) (length (n.calls (root_of b (job_bus job)))) ≡ failed
FailsAs b fails n act e = Unit {0}
