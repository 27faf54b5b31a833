-- Messages, the calls that they make, and whom a start is for: what the crates above share.
use Rattle.std.proofs.Common.{◌≡◌, ℕ, suc, true, false, List, [], ◌∷◌, length, drop, Option, Some, None, refl, ◌∙◌, ap}
use Rattle.std.proofs.lemmas.Bool.{eqb-true, eq-eqb}
use Rattle.i2c_base.specs.declared.port.PortCall.{PortCall}
use Rattle.i2c_base.specs.declared.port.PortCall.TheVariants as call
use Rattle.i2c_base.specs.declared.transfer.Msg.{Msg}
use Rattle.i2c_base.specs.Transfer.{written_of}
use Rattle.i2c_spec.specs.Messages.{messages_from}
use Rattle.i2c_spec.specs.Conversation.{is_it}

-- a transfer has a message with bytes for each of its messages
pub length-messages : (ms : List Msg) (out : List ℕ) → length (messages_from ms out) ≡ length ms
length-messages [] out = refl
length-messages (m ∷ ms) out = ap suc (length-messages ms (drop (written_of m) out))

-- a call after the start of a message, whose byte fits
abbrev pub IsFollowing : (ℕ → Type 0) → PortCall → Type 0
IsFollowing Fits (call.Start a reading) = ⊥
IsFollowing Fits (call.Line m level) = ⊥
IsFollowing Fits (call.Put byte) = Fits byte
IsFollowing Fits (call.Get ack) = Unit {0}
IsFollowing Fits call.Stop = Unit {0}
IsFollowing Fits call.Fault = Unit {0}

-- .. whatever its byte
abbrev pub IsLater : PortCall → Type 0
IsLater c = IsFollowing (λ byte. Unit {0}) c

-- what is asked for is there
pub is_it-some : (o : Option ℕ) (n : ℕ) → is_it o n ≡ true → o ≡ Some n
is_it-some None n e = absurd (let f : false ≡ true = e in cc)
is_it-some (Some k) n e = ap Some (eqb-true k n e)

pub is_it-at : (o : Option ℕ) (n : ℕ) → o ≡ Some n → is_it o n ≡ true
is_it-at o n e = ap (λ (x : Option ℕ). is_it x n) e ∙ eq-eqb n n refl
