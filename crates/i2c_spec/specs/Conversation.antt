-- One message as the port calls that it makes, over anything that listens (UM10204 section 3.1.10, SMBus 3.2
-- section 6.5.7 for the counted read). A call that fails, at a place counted from the message's first call, ends
-- it, and acts on the listener as a stop.
use Rattle.std.specs.Prelude.{ℕ, zero, suc, ◌+◌, ◌-◌, ◌==◌, nat_lt, Bool, true, false, ◌||◌, List, [], ◌∷◌, ◌++◌, length, Option, Some, None, if◌then◌else◌}
use Rattle.i2c_base.specs.declared.event.Answer.{Answer}
use Rattle.i2c_base.specs.declared.event.Answer.TheVariants as answer
use Rattle.i2c_base.specs.declared.port.PortCall.{PortCall}
use Rattle.i2c_base.specs.declared.port.PortCall.TheVariants as call
use Rattle.i2c_base.specs.declared.entry.End.{End}
use Rattle.i2c_base.specs.declared.entry.End.TheVariants as end
use Rattle.i2c_spec.specs.Messages.{MessageView}
use Rattle.i2c_spec.specs.World.{World, after, answer as world_answer, takes, gives}

-- what answers the calls of a port
pub record Listener (W : Type 0) : Type 0 where
  pub after : W → PortCall → W
  -- to a start, to a byte that is put, and the byte that is read
  pub answer : W → ℕ → Bool → Answer
  pub takes : W → ℕ → Bool
  pub gives : W → ℕ

abbrev pub world_listener : Listener World
world_listener = record { after = after; answer = world_answer; takes = takes; gives = gives }

-- a message so far: its calls, newest first; of a write the bytes that were acknowledged, of a read those that came
pub record Said (W : Type 0) : Type 0 where
  pub calls : List PortCall
  pub bytes : List ℕ
  pub now : W

-- and in the end
pub record TalkTold (W : Type 0) : Type 0 where
  pub calls : List PortCall
  pub bytes : List ℕ
  pub now : W
  pub end : End

-- it is this number
abbrev pub is_it : Option ℕ → ℕ → Bool
is_it None n = false
is_it (Some k) n = k == n

-- a message before its first call, and with one call more
abbrev pub silence : {W : Type 0} → W → Said W
silence w = record { calls = []; bytes = []; now = w }

abbrev pub say : {W : Type 0} → Listener W → Said W → PortCall → Said W
say l t c = record { calls = c ∷ t.calls; bytes = t.bytes; now = l.after t.now c }

abbrev pub with_byte : {W : Type 0} → Said W → ℕ → Said W
with_byte t byte = record { calls = t.calls; bytes = t.bytes ++ byte ∷ []; now = t.now }

abbrev pub told : {W : Type 0} → Said W → End → TalkTold W
told t e = record { calls = t.calls; bytes = t.bytes; now = t.now; end = e }

-- a call and what follows it; at the place of the cut it fails, and nothing follows
abbrev pub call_then : {W : Type 0} → Listener W → Option ℕ → Said W → PortCall → (Said W → TalkTold W) → TalkTold W
call_then l cut t c next =
    if is_it cut (length t.calls) then told (say l t call.Fault) (end.Cut (length t.calls)) else next (say l t c)

-- the end: with a stop where the message is the last of its transfer, or ended early
abbrev pub ended : {W : Type 0} → Listener W → Option ℕ → Bool → Said W → End → TalkTold W
ended l cut stops t e = if stops then call_then l cut t call.Stop (λ s. told s e) else told t e

-- a write puts one byte after the other, until one isn't acknowledged
abbrev pub puts : {W : Type 0} → Listener W → Option ℕ → Bool → List ℕ → Said W → TalkTold W
puts l cut last [] t = ended l cut last t end.Ok
puts l cut last (b ∷ bs) t =
    call_then l cut t (call.Put b) (λ s.
    if l.takes t.now b then puts l cut last bs (with_byte s b) else ended l cut true s end.Refused)

-- a read gets one byte after the other, and acknowledges each but the last
abbrev pub gets : {W : Type 0} → Listener W → Option ℕ → Bool → ℕ → Said W → TalkTold W
gets l cut last zero t = ended l cut last t end.Ok
gets l cut last (suc n) t =
    call_then l cut t (call.Get (nat_lt 0 n)) (λ s. gets l cut last n (with_byte s (l.gives t.now)))

-- a counted read gets its count first: 0, or one above the limit, is followed by one byte more, and ends it early
abbrev pub gets_counted : {W : Type 0} → Listener W → Option ℕ → Bool → ℕ → ℕ → Said W → TalkTold W
gets_counted l cut last limit len t =
    call_then l cut t (call.Get true) (λ s.
    if (l.gives t.now == 0) || nat_lt limit (l.gives t.now)
    then call_then l cut (with_byte s (l.gives t.now)) (call.Get false)
    (λ u. ended l cut true (with_byte u (l.gives s.now)) end.Proto)
    else gets l cut last (l.gives t.now + len - 1) (with_byte s (l.gives t.now)))

abbrev pub data_of : {W : Type 0} → Listener W → Option ℕ → Bool → ℕ → MessageView → Said W → TalkTold W
data_of l cut last limit m t =
    if m.reading
    then (if m.counted then gets_counted l cut last limit m.len t else gets l cut last m.len t)
    else puts l cut last m.bytes t

abbrev pub by_answer : {W : Type 0} → Listener W → Option ℕ → Bool → ℕ → MessageView → Answer → Said W → TalkTold W
by_answer l cut last limit m answer.Ack t = data_of l cut last limit m t
by_answer l cut last limit m answer.Slow t = ended l cut true t end.Slow
by_answer l cut last limit m answer.Nack t = ended l cut true t end.Nack
by_answer l cut last limit m (answer.Byte byte) t = ended l cut true t end.Nack
by_answer l cut last limit m answer.Nothing t = ended l cut true t end.Nack

-- one message: `limit` is the board's block limit, `last` says that its transfer ends with it
abbrev pub talk : {W : Type 0} → Listener W → ℕ → W → MessageView → Bool → Option ℕ → TalkTold W
talk l limit w m last cut =
    call_then l cut (silence w) (call.Start m.addr m.reading)
    (λ t. by_answer l cut last limit m (l.answer w m.addr m.reading) t)

-- the messages of a transfer, one after the other, until one doesn't go through: what the reads gave, and how the
-- last one ended. `cuts` gives the place of failure in each message, by its number from i on
pub record AllTold (W : Type 0) : Type 0 where
  pub bytes : List ℕ
  pub now : W
  pub end : End

abbrev pub is_empty : {X : Type 0} → List X → Bool
is_empty [] = true
is_empty (x ∷ xs) = false

abbrev pub is_good : End → Bool
is_good end.Ok = true
is_good end.Nack = false
is_good end.Slow = false
is_good end.Refused = false
is_good end.Proto = false
is_good (end.Cut q) = false

-- the bytes of the reads grow by those of a message that reads
abbrev pub with_read : {W : Type 0} → List ℕ → MessageView → TalkTold W → List ℕ
with_read got m t = if m.reading then got ++ t.bytes else got

abbrev pub talk_all : {W : Type 0} → Listener W → ℕ → W → List MessageView → ℕ → (ℕ → Option ℕ) → List ℕ → AllTold W
talk_all l limit w [] i cuts got = record { bytes = got; now = w; end = end.Ok }
talk_all l limit w (m ∷ ms) i cuts got =
    let t : TalkTold _ = talk l limit w m (is_empty ms) (cuts i) in
    if is_good t.end then talk_all l limit t.now ms (i + 1) cuts (with_read got m t)
    else record { bytes = with_read got m t; now = t.now; end = t.end }
