-- A message of a transfer as it is sent: its calls are counted, and not listed as by `talk`, and what it reads is put
-- after what the messages before it have read.
use Rattle.std.specs.Prelude.{ℕ, zero, suc, ◌+◌, ◌-◌, ◌==◌, nat_lt, Bool, true, false, ◌||◌, List, [], ◌∷◌, ◌++◌, Option, if◌then◌else◌}
use Rattle.i2c_base.specs.declared.event.Answer.{Answer}
use Rattle.i2c_base.specs.declared.event.Answer.TheVariants as answer
use Rattle.i2c_base.specs.declared.event.Event.TheVariants as event
use Rattle.i2c_base.specs.declared.port.PortCall.TheVariants as call
use Rattle.i2c_base.specs.declared.entry.End.{End}
use Rattle.i2c_base.specs.declared.entry.End.TheVariants as end
use Rattle.i2c_spec.specs.Messages.{MessageView}
use Rattle.i2c_spec.specs.Conversation.{Listener, TalkTold, AllTold, is_it, with_read}
use Rattle.i2c_spec.specs.Flat.{FlatListener, acknowledged, answer_of, flat_stopped}
use Rattle.flat_world.specs.Devices.{started, behind_start}

-- how a message ended, and the listener after it
pub record Ended (V : Type 0) : Type 0 where
  pub now : V
  pub end : End

-- with all that was read
abbrev pub with_got : {V : Type 0} → List ℕ → Ended V → AllTold V
with_got got e = record { bytes = got; now = e.now; end = e.end }

-- the call after so many fails
abbrev pub failed : {V : Type 0} → Listener V → ℕ → V → Ended V
failed l calls v = record { now = l.after v call.Fault; end = end.Cut calls }

-- the end: with a stop where the message is the last of its transfer, or ended early
abbrev pub ended : {V : Type 0} → Listener V → Option ℕ → ℕ → Bool → V → End → Ended V
ended l cut calls stops v e =
    if stops then (if is_it cut calls then failed l calls v else record { now = l.after v call.Stop; end = e })
    else record { now = v; end = e }

abbrev pub puts : {V : Type 0} → Listener V → Option ℕ → Bool → List ℕ → ℕ → V → Ended V
puts l cut last [] calls v = ended l cut calls last v end.Ok
puts l cut last (b ∷ bs) calls v =
    if is_it cut calls then failed l calls v
    else if l.takes v b then puts l cut last bs (calls + 1) (l.after v (call.Put b))
    else ended l cut (calls + 1) true (l.after v (call.Put b)) end.Refused

abbrev pub gets : {V : Type 0} → Listener V → Option ℕ → Bool → ℕ → ℕ → List ℕ → V → AllTold V
gets l cut last zero calls got v = with_got got (ended l cut calls last v end.Ok)
gets l cut last (suc n) calls got v =
    if is_it cut calls then with_got got (failed l calls v)
    else gets l cut last n (calls + 1) (got ++ l.gives v ∷ []) (l.after v (call.Get (nat_lt 0 n)))

-- after a count that no block has: it is the third call
abbrev pub gets_one_more : {V : Type 0} → Listener V → Option ℕ → List ℕ → V → AllTold V
gets_one_more l cut got v =
    if is_it cut 2 then with_got got (failed l 2 v)
    else with_got (got ++ l.gives v ∷ []) (ended l cut 3 true (l.after v (call.Get false)) end.Proto)

abbrev pub gets_by_count : {V : Type 0} → Listener V → Option ℕ → Bool → ℕ → ℕ → ℕ → List ℕ → V → AllTold V
gets_by_count l cut last limit len count got v =
    if (count == 0) || nat_lt limit count then gets_one_more l cut got v
    else gets l cut last (count + len - 1) 2 got v

abbrev pub gets_counted : {V : Type 0} → Listener V → Option ℕ → Bool → ℕ → ℕ → List ℕ → V → AllTold V
gets_counted l cut last limit len got v =
    if is_it cut 1 then with_got got (failed l 1 v)
    else gets_by_count l cut last limit len (l.gives v) (got ++ l.gives v ∷ []) (l.after v (call.Get true))

abbrev pub moved : {V : Type 0} → Listener V → Option ℕ → Bool → ℕ → MessageView → List ℕ → V → AllTold V
moved l cut last limit m got v =
    if m.reading then (if m.counted then gets_counted l cut last limit m.len got v else gets l cut last m.len 1 got v)
    else with_got got (puts l cut last m.bytes 1 v)

abbrev pub by_answer : {V : Type 0} → Listener V → Option ℕ → Bool → ℕ → MessageView → Answer → List ℕ → V → AllTold V
by_answer l cut last limit m answer.Ack got v = moved l cut last limit m got v
by_answer l cut last limit m answer.Slow got v = with_got got (ended l cut 1 true v end.Slow)
by_answer l cut last limit m answer.Nack got v = with_got got (ended l cut 1 true v end.Nack)
by_answer l cut last limit m (answer.Byte byte) got v = with_got got (ended l cut 1 true v end.Nack)
by_answer l cut last limit m answer.Nothing got v = with_got got (ended l cut 1 true v end.Nack)

-- one message, whose address leads to this device, or to nobody; `limit` is the board's block limit
abbrev pub sent : Option ℕ → Option ℕ → Bool → ℕ → MessageView → List ℕ → FlatListener → AllTold FlatListener
sent granted cut last limit m got f =
    if is_it cut 0 then record { bytes = got; now = flat_stopped f; end = end.Cut 0 }
    else by_answer behind_start cut last limit m (acknowledged (answer_of f.states granted (event.Start m.reading))) got
    (started granted m.reading f)

-- a transfer so far: what its reads gave, the listener, and how its last message ended
abbrev pub all_with : {V : Type 0} → List ℕ → V → End → AllTold V
all_with got v e = record { bytes = got; now = v; end = e }

abbrev pub all_of : {V : Type 0} → List ℕ → MessageView → TalkTold V → AllTold V
all_of got m t = all_with (with_read got m t) t.now t.end
