-- One sensor that listens alone: the conversations of a driver with it, call by call. The cases are the places at which a call
-- fails; after the first byte that is put nothing depends on the pointer that was there before.
use Rattle.std.proofs.Common.{◌≡◌, ℕ, zero, suc, ◌+◌, Bool, true, false, cond, List, [], ◌∷◌, length, Option, eqb, ltb, refl, sym, ◌∙◌}
use Rattle.i2c_base.specs.declared.event.Event.{Event}
use Rattle.i2c_base.specs.declared.event.Event.TheVariants as event
use Rattle.i2c_base.specs.declared.event.Answer.{Answer}
use Rattle.i2c_base.specs.declared.event.Answer.TheVariants as answer
use Rattle.i2c_base.specs.declared.port.PortCall.{PortCall}
use Rattle.i2c_base.specs.declared.port.PortCall.TheVariants as call
use Rattle.i2c_base.specs.declared.entry.End.{End}
use Rattle.i2c_base.specs.declared.entry.End.TheVariants as end
use Rattle.i2c_base.specs.Table.{byte_of}
use Rattle.i2c_spec.specs.Targets.Lm75Device.{Lm75View, Idle, Data, lm75_after, lm75_answer, register_sends, with_high, with_low}
use Rattle.i2c_spec.specs.Targets.Lm75Device.{byte_of_word}
use Rattle.i2c_spec.specs.World.{is_ack}
use Rattle.i2c_spec.specs.Messages.{MessageView}
use Rattle.i2c_base.specs.declared.reply.Cut.TheVariants as cut_at
use Rattle.i2c_spec.specs.Flat.{cut_in}
use Rattle.cache_laws.specs.Cache.{is_kept}
use Rattle.cache_laws.specs.Order.{SensorRegister, Temperature, Hysteresis, Limit, number_of}
use Rattle.i2c_spec.specs.Conversation.{Listener, Said, TalkTold, AllTold, is_it, silence, say, with_byte, told, talk_all, is_empty}
use Rattle.i2c_spec.specs.Conversation.{is_good, with_read}

-- the sensor, whether the transfer has named it, and whether it listens
pub record One : Type 0 where
  pub x : Lm75View
  pub named : Bool
  pub heard : Bool

abbrev pub one_stopped : One → One
one_stopped w = record { x = cond w.named (lm75_after w.x event.Stop) w.x; named = false; heard = false }

abbrev pub one_sent : One → Event → One
one_sent w e = record w { x = cond w.heard (lm75_after w.x e) w.x }

abbrev pub one_after : One → PortCall → One
one_after w (call.Start a reading) = record { x = lm75_after w.x (event.Start reading); named = true; heard = true }
one_after w (call.Put byte) = one_sent w (event.Put byte)
one_after w (call.Get ack) = one_sent w (event.Get ack)
one_after w call.Stop = one_stopped w
one_after w call.Fault = one_stopped w
one_after w (call.Line m level) = w

abbrev pub one_answer : One → Event → Answer
one_answer w e = cond w.heard (lm75_answer w.x e) answer.Nothing

abbrev pub one_listener : Listener One
one_listener =
    record {
      after = one_after;
      answer = λ w a reading. answer.Ack;
      takes = λ w byte. is_ack (one_answer w (event.Put byte));
      gives = λ w. byte_of (one_answer w (event.Get true));
    }

abbrev pub alone : Lm75View → One
alone x = record { x = x; named = false; heard = false }

-- a conversation with it, by the places at which a call fails
abbrev then_by : (ℕ → Bool) → Said One → PortCall → (Said One → TalkTold One) → TalkTold One
then_by fails t c next =
    cond (fails (length t.calls)) (told (say one_listener t call.Fault) (end.Cut (length t.calls))) (next (say one_listener t c))

abbrev ended_by : (ℕ → Bool) → Bool → Said One → End → TalkTold One
ended_by fails stops t e = cond stops (then_by fails t call.Stop (λ s. told s e)) (told t e)

abbrev puts_by : (ℕ → Bool) → Bool → List ℕ → Said One → TalkTold One
puts_by fails last [] t = ended_by fails last t end.Ok
puts_by fails last (b ∷ bs) t =
    then_by fails t (call.Put b)
    (λ s. cond (one_listener.takes t.now b) (puts_by fails last bs (with_byte s b)) (ended_by fails true s end.Refused))

abbrev gets_by : (ℕ → Bool) → Bool → ℕ → Said One → TalkTold One
gets_by fails last zero t = ended_by fails last t end.Ok
gets_by fails last (suc n) t = then_by fails t (call.Get (ltb 0 n)) (λ s. gets_by fails last n (with_byte s (one_listener.gives t.now)))

abbrev talk_by : (ℕ → Bool) → One → MessageView → Bool → TalkTold One
talk_by fails w m last =
    then_by fails (silence w) (call.Start m.addr m.reading) (λ t. cond m.reading (gets_by fails last m.len t)
    (puts_by fails last m.bytes t))

abbrev all_by : (ℕ → ℕ → Bool) → One → List MessageView → ℕ → List ℕ → AllTold One
all_by fails w [] i got = record { bytes = got; now = w; end = end.Ok }
all_by fails w (m ∷ ms) i got =
    let t : TalkTold One = talk_by (fails i) w m (is_empty ms) in
    cond (is_good t.end) (all_by fails t.now ms (i + 1) (with_read got m t))
    (record { bytes = with_read got m t; now = t.now; end = t.end })

-- the messages of a driver: a write of the pointer and a read, and a write of a register
abbrev pub pointer_message : (addr r : ℕ) → MessageView
pointer_message addr r = record { addr = addr; reading = false; counted = false; len = 1; bytes = r ∷ [] }

abbrev pub word_message : (addr : ℕ) → MessageView
word_message addr = record { addr = addr; reading = true; counted = false; len = 2; bytes = [] }

abbrev pub write_message : (addr r high low : ℕ) → MessageView
write_message addr r high low = record { addr = addr; reading = false; counted = false; len = 3; bytes = r ∷ high ∷ low ∷ [] }

abbrev pub read_messages : (addr r : ℕ) → List MessageView
read_messages addr r = pointer_message addr r ∷ word_message addr ∷ []

abbrev pub write_messages : (addr r high low : ℕ) → List MessageView
write_messages addr r high low = write_message addr r high low ∷ []

abbrev pub word_of : Lm75View → SensorRegister → ℕ
word_of x Temperature = x.temperature
word_of x Hysteresis = x.hysteresis
word_of x Limit = x.limit

abbrev pub with_word : Lm75View → SensorRegister → ℕ → Lm75View
with_word x Temperature w = x
with_word x Hysteresis w = record x { hysteresis = w }
with_word x Limit w = record x { limit = w }

abbrev pub bytes_of : ℕ → List ℕ
bytes_of word = byte_of_word word 0 ∷ byte_of_word word 1 ∷ []

-- two sensors behind a read that differed in their pointers before it: nothing else does, and their registers are as before
pub record HasRead (x : Lm75View) (r : SensorRegister) (here there : AllTold One) : Type 0 where
  pub bytes : here.bytes ≡ there.bytes
  pub end : here.end ≡ there.end
  pub p : ℕ
  pub q : ℕ
  pub left : here.now.x ≡ record x { phase = Idle; pointer = p }
  pub other : there.now.x ≡ record x { phase = Idle; pointer = q }
  pub good : is_good here.end ≡ true → here.bytes ≡ bytes_of (word_of x r)

-- .. and after a write: this is in the register then, the bytes written where it went through
pub record HasWritten (x : Lm75View) (r : SensorRegister) (high low : ℕ) (here there : AllTold One) : Type 0 where
  pub bytes : here.bytes ≡ there.bytes
  pub end : here.end ≡ there.end
  pub p : ℕ
  pub q : ℕ
  pub word : ℕ
  pub left : here.now.x ≡ with_word (record x { phase = Idle; pointer = p }) r word
  pub other : there.now.x ≡ with_word (record x { phase = Idle; pointer = q }) r word
  pub good : is_good here.end ≡ true → word ≡ with_low (with_high (word_of x r) high) low

abbrev rested : Lm75View → One
rested x = alone (record x { phase = Idle })

abbrev rested_at : Lm75View → ℕ → One
rested_at x q = alone (record x { phase = Idle; pointer = q })

abbrev pick : (a0 a1 c0 c1 c2 c3 : Bool) → ℕ → ℕ → Bool
pick a0 a1 c0 c1 c2 c3 i n = cond (eqb i 0) (cond (eqb n 0) a0 a1) (cond (eqb n 0) c0 (cond (eqb n 1) c1 (cond (eqb n 2) c2 c3)))

abbrev read_by : (addr : ℕ) → SensorRegister → (a0 a1 c0 c1 c2 c3 : Bool) → One → AllTold One
read_by addr r a0 a1 c0 c1 c2 c3 w = all_by (pick a0 a1 c0 c1 c2 c3) w (read_messages addr (number_of r)) 0 []

-- a read that failed at its pointer
unread : {x : Lm75View} {r : SensorRegister} {here there : AllTold One} (p q : ℕ) → is_good here.end ≡ false → here.bytes ≡ there.bytes
    → here.end ≡ there.end → here.now.x ≡ record x { phase = Idle; pointer = p } → there.now.x ≡ record x { phase = Idle; pointer = q }
    → HasRead x r here there
unread p q bad bytes end left other =
    record {
      bytes = bytes;
      end = end;
      p = p;
      q = q;
      left = left;
      other = other;
      good = λ e. absurd (let f : false ≡ true = sym bad ∙ e in cc);
    }

-- behind the pointer both are one
abbrev word_by : (addr : ℕ) → (c0 c1 c2 c3 : Bool) → One → AllTold One
word_by addr c0 c1 c2 c3 w = all_by (pick false false c0 c1 c2 c3) w (word_message addr ∷ []) 1 []

abbrev pointed : Lm75View → ℕ → One
pointed x p = record { x = record x { phase = Data 0; pointer = p }; named = true; heard = true }

word_facts : (x : Lm75View) (addr p : ℕ) (c0 c1 c2 c3 : Bool)
    → ((word_by addr c0 c1 c2 c3 (pointed x p)).now.x ≡ record x { phase = Idle; pointer = p })
    × (is_good (word_by addr c0 c1 c2 c3 (pointed x p)).end ≡ true → (word_by addr c0 c1 c2 c3 (pointed x p)).bytes
    ≡ register_sends (record x { pointer = p }) 0 ∷ register_sends (record x { pointer = p }) 1 ∷ [])
word_facts x addr p true c1 c2 c3 = (refl, λ e. absurd (let f : false ≡ true = e in cc))
word_facts x addr p false true c2 c3 = (refl, λ e. absurd (let f : false ≡ true = e in cc))
word_facts x addr p false false true c3 = (refl, λ e. absurd (let f : false ≡ true = e in cc))
word_facts x addr p false false false true = (refl, λ e. absurd (let f : false ≡ true = e in cc))
word_facts x addr p false false false false = (refl, λ e. refl)

same_read : {x : Lm75View} {r : SensorRegister} {told : AllTold One} (p : ℕ)
    → (told.now.x ≡ record x { phase = Idle; pointer = p }) × (is_good told.end ≡ true → told.bytes ≡ bytes_of (word_of x r))
    → HasRead x r told told
same_read p w = record { bytes = refl; end = refl; p = p; q = p; left = w.0; other = w.0; good = w.1 }

read_facts : (x : Lm75View) (addr q : ℕ) (r : SensorRegister) (a0 a1 c0 c1 c2 c3 : Bool)
    → HasRead x r (read_by addr r a0 a1 c0 c1 c2 c3 (rested x)) (read_by addr r a0 a1 c0 c1 c2 c3 (rested_at x q))
read_facts x addr q r true a1 c0 c1 c2 c3 = unread x.pointer q refl refl refl refl refl
read_facts x addr q r false true c0 c1 c2 c3 = unread x.pointer q refl refl refl refl refl
read_facts x addr q Temperature false false c0 c1 c2 c3 = same_read 0 (word_facts x addr 0 c0 c1 c2 c3)
read_facts x addr q Hysteresis false false c0 c1 c2 c3 = same_read 2 (word_facts x addr 2 c0 c1 c2 c3)
read_facts x addr q Limit false false c0 c1 c2 c3 = same_read 3 (word_facts x addr 3 c0 c1 c2 c3)

-- wherever it is cut off
pub read-facts : (x : Lm75View) (addr q limit : ℕ) (r : SensorRegister) (cuts : ℕ → Option ℕ)
    → HasRead x r (talk_all one_listener limit (rested x) (read_messages addr (number_of r)) 0 cuts [])
    (talk_all one_listener limit (rested_at x q) (read_messages addr (number_of r)) 0 cuts [])
read-facts x addr q limit r cuts =
    read_facts x addr q r (is_it (cuts 0) 0) (is_it (cuts 0) 1) (is_it (cuts 1) 0) (is_it (cuts 1) 1) (is_it (cuts 1) 2)
    (is_it (cuts 1) 3)

-- a read that isn't cut goes through
pub read-whole : (x : Lm75View) (addr limit : ℕ) (r : SensorRegister)
    → (talk_all one_listener limit (rested x) (read_messages addr (number_of r)) 0 (cut_in cut_at.No) []).end ≡ end.Ok
read-whole x addr limit Temperature = refl
read-whole x addr limit Hysteresis = refl
read-whole x addr limit Limit = refl

abbrev pick_one : (c0 c1 c2 c3 c4 : Bool) → ℕ → ℕ → Bool
pick_one c0 c1 c2 c3 c4 i n = cond (eqb n 0) c0 (cond (eqb n 1) c1 (cond (eqb n 2) c2 (cond (eqb n 3) c3 c4)))

abbrev write_by : (addr : ℕ) → SensorRegister → (high low : ℕ) → (c0 c1 c2 c3 c4 : Bool) → One → AllTold One
write_by addr r high low c0 c1 c2 c3 c4 w = all_by (pick_one c0 c1 c2 c3 c4) w (write_messages addr (number_of r) high low) 0 []

-- a write that was cut off
unwritten : {x : Lm75View} {r : SensorRegister} {high low : ℕ} {here there : AllTold One} (p q word : ℕ) → is_good here.end ≡ false
    → here.bytes ≡ there.bytes → here.end ≡ there.end → here.now.x ≡ with_word (record x { phase = Idle; pointer = p }) r word
    → there.now.x ≡ with_word (record x { phase = Idle; pointer = q }) r word → HasWritten x r high low here there
unwritten p q word bad bytes end left other =
    record {
      bytes = bytes;
      end = end;
      p = p;
      q = q;
      word = word;
      left = left;
      other = other;
      good = λ e. absurd (let f : false ≡ true = sym bad ∙ e in cc);
    }

abbrev with_both : ℕ → ℕ → ℕ → ℕ
with_both word high low = with_low (with_high word high) low

module _ (x : Lm75View) (addr q high low : ℕ) where
  write_facts : (r : SensorRegister) → is_kept (number_of r) ≡ true → (c0 c1 c2 c3 c4 : Bool) → HasWritten x r high low
      (write_by addr r high low c0 c1 c2 c3 c4 (rested x)) (write_by addr r high low c0 c1 c2 c3 c4 (rested_at x q))
  write_facts Temperature kept c0 c1 c2 c3 c4 = absurd (let f : false ≡ true = kept in cc)
  write_facts Hysteresis kept true c1 c2 c3 c4 = unwritten x.pointer q x.hysteresis refl refl refl refl refl
  write_facts Hysteresis kept false true c2 c3 c4 = unwritten x.pointer q x.hysteresis refl refl refl refl refl
  write_facts Hysteresis kept false false true c3 c4 = unwritten 2 2 x.hysteresis refl refl refl refl refl
  write_facts Hysteresis kept false false false true c4 = unwritten 2 2 (with_high x.hysteresis high) refl refl refl refl refl
  write_facts Hysteresis kept false false false false true = unwritten 2 2 (with_both x.hysteresis high low) refl refl refl refl refl
  write_facts Hysteresis kept false false false false false =
      record { bytes = refl; end = refl; p = 2; q = 2; word = with_both x.hysteresis high low; left = refl; other = refl; good = λ e. refl }
  write_facts Limit kept true c1 c2 c3 c4 = unwritten x.pointer q x.limit refl refl refl refl refl
  write_facts Limit kept false true c2 c3 c4 = unwritten x.pointer q x.limit refl refl refl refl refl
  write_facts Limit kept false false true c3 c4 = unwritten 3 3 x.limit refl refl refl refl refl
  write_facts Limit kept false false false true c4 = unwritten 3 3 (with_high x.limit high) refl refl refl refl refl
  write_facts Limit kept false false false false true = unwritten 3 3 (with_both x.limit high low) refl refl refl refl refl
  write_facts Limit kept false false false false false =
      record { bytes = refl; end = refl; p = 3; q = 3; word = with_both x.limit high low; left = refl; other = refl; good = λ e. refl }

pub write-facts : (x : Lm75View) (addr q high low limit : ℕ) (r : SensorRegister) → is_kept (number_of r) ≡ true → (cuts : ℕ → Option ℕ)
    → HasWritten x r high low (talk_all one_listener limit (rested x) (write_messages addr (number_of r) high low) 0 cuts [])
    (talk_all one_listener limit (rested_at x q) (write_messages addr (number_of r) high low) 0 cuts [])
write-facts x addr q high low limit r kept cuts =
    write_facts x addr q high low r kept (is_it (cuts 0) 0) (is_it (cuts 0) 1) (is_it (cuts 0) 2) (is_it (cuts 0) 3) (is_it (cuts 0) 4)
