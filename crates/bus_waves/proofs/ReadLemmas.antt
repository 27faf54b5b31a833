-- What the calls on a port show is read as what they tell.
use Rattle.std.proofs.Common.{◌≡◌, ℕ, ◌%◌, Bool, true, false, List, [], ◌∷◌, refl, ap, sym, ◌∙◌, arith}
use Rattle.std.specs.Prelude.{not}
use Rattle.i2c_base.specs.declared.port.PortCall.{PortCall}
use Rattle.i2c_base.specs.declared.port.PortCall.TheVariants as call
use Rattle.i2c_spec.specs.World.{World, after, answer, takes, gives, is_ack}
use Rattle.wire_spec.specs.Wires.{bit, bits, value}
use Rattle.wire_spec.specs.Bus.{Seen, Level, Started, Stopped}
use Rattle.wire_spec.specs.Calls.{byte_seen}
use Rattle.wire_spec.proofs.ByteLemmas.{value_bits}
use Rattle.i2c_bits.specs.Showing.{address_byte, begun_seen}
use Rattle.i2c_physics.specs.Shows.{call_shows, shows, opened}
use Rattle.bus_waves.specs.Readings.{Read, Begun, Took, took, Reading, reading_of, read_sign, reading, call_tells, tells, LevelsTellTheCalls}

-- nothing is unfinished
abbrev Between : Seen → List Read → Type 0
Between c rs = reading c ≡ reading_of 0 0 rs

not_not : (b : Bool) → not (not b) ≡ b
not_not true = refl
not_not false = refl

low_bits : (byte : ℕ) → value 0 (bits 8 byte) ≡ byte % 256
low_bits byte = value_bits 8 byte 0 ∙ omega arith

-- nine levels more
abbrev eight : ℕ → Reading → Reading
eight byte r =
    read_sign (Level (bit byte 0)) (read_sign (Level (bit byte 1)) (read_sign (Level (bit byte 2)) (read_sign (Level (bit byte 3))
    (read_sign (Level (bit byte 4)) (read_sign (Level (bit byte 5)) (read_sign (Level (bit byte 6)) (read_sign (Level (bit byte 7)) r)))))))

byte_read : (byte : ℕ) (acked : Bool) (c : Seen) (rs : List Read) → Between c rs → Between (byte_seen byte acked c) (took byte acked ∷ rs)
byte_read byte acked c rs is =
    ap (λ r. read_sign (Level (not acked)) (eight byte r)) is
    ∙ ap (λ b. reading_of 0 0 (Took (value 0 (bits 8 byte)) b ∷ rs)) (not_not acked)
    ∙ ap (λ n. reading_of 0 0 (Took n acked ∷ rs)) (low_bits byte)

begun_read : (busy : Bool) (c : Seen) (rs : List Read) → Between c rs → Between (begun_seen busy c) (Begun ∷ rs)
begun_read false c rs is = ap (read_sign Started) is
begun_read true c rs is = ap (λ r. read_sign Started (read_sign (Level true) r)) is

call_read : (w : World) (x : PortCall) (c : Seen) (rs : List Read) → Between c rs → Between (call_shows w x c) (call_tells w x rs)
call_read w (call.Start addr reading) c rs is =
    byte_read (address_byte addr reading) (is_ack (answer w addr reading)) (begun_seen w.busy c) (Begun ∷ rs) (begun_read w.busy c rs is)
call_read w (call.Put byte) c rs is = byte_read byte (takes w byte) c rs is
call_read w (call.Get ack) c rs is = byte_read (gives w) ack c rs is
call_read w call.Stop c rs is = ap (λ r. read_sign Stopped (read_sign (Level false) r)) is
call_read w call.Fault c rs is = is
call_read w (call.Line m level) c rs is = is

calls_read : (w : World) (xs : List PortCall) (c : Seen) (rs : List Read) → Between c rs → Between (shows w xs c) (tells w xs rs)
calls_read w [] c rs is = is
calls_read w (x ∷ xs) c rs is = calls_read (after w x) xs (call_shows w x c) (call_tells w x rs) (call_read w x c rs is)

pub levels_tell : LevelsTellTheCalls
levels_tell k bus steps made p shown same quick =
    ap (λ c. (reading c).read) (sym made.seen ∙ same ∙ shown.seen quick)
    ∙ ap (λ (r : Reading). r.read) (calls_read (opened p) p.log [] [] refl)
