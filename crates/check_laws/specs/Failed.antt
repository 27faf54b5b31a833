-- Which calls of the ports the entries of a journal tell to have failed. Of each root it is told by gaps: how many calls go through
-- before the first one that fails, and between each two.
use Rattle.std.specs.Prelude.{◌≡◌, ◌↔◌, ℕ, ◌+◌, ◌-◌, ◌<◌, ◌==◌, nat_lt, Bool, true, false, not, ◌||◌, if◌then◌else◌, List, [], ◌∷◌, ◌++◌, length, Option, Some, None, slice_get}
use Rattle.i2c_base.specs.declared.entry.End.{End}
use Rattle.i2c_base.specs.declared.entry.End.TheVariants as end
use Rattle.i2c_base.specs.declared.entry.Entry.{Entry}
use Rattle.i2c_base.specs.declared.entry.Entry.TheVariants as entry
use Rattle.i2c_base.specs.declared.port.PortCall.{PortCall}
use Rattle.i2c_base.specs.declared.port.PortCall.TheVariants as call
use Rattle.i2c_base.specs.Board.{BoardView}
use Rattle.i2c_spec.specs.History.{Asks}
use Rattle.bus_spec.specs.Past.{calls_of, cut_of}
use Rattle.bus_spec.specs.Readings.{MessageEntry, of_message, is_call, is_on_root}

-- HOW MANY CALLS a message made, by whether a stop is due, its end and how many bytes it moved: a start, a call for each byte, one
-- more for a byte that was refused, and the stop where it is due; of one that broke off those before the failed call, and that one
abbrev pub calls_told : Bool → End → ℕ → ℕ
calls_told last end.Ok n = 1 + n + (if last then 1 else 0)
calls_told last end.Nack n = n + 2
calls_told last end.Slow n = n + 2
calls_told last end.Refused n = n + 3
calls_told last end.Proto n = n + 2
calls_told last (end.Cut q) n = q + 1

-- a stop is due after a message: it is a control message, or the last of its transfer
abbrev pub is_last_told : MessageEntry → Bool
is_last_told m = not (is_call m.purpose) || (m.part == m.parts)

-- so many calls an entry made on the port of its root, and this one of them failed
abbrev pub calls_made : Entry → ℕ
calls_made (entry.Line c mux level failed) = 1
calls_made e = of_message 0 (λ m. calls_told (is_last_told m) m.end (length m.bytes)) e

abbrev pub call_failed : Entry → Option ℕ
call_failed (entry.Line c mux level failed) = if failed then Some 0 else None
call_failed e = of_message None (λ m. cut_of m.end) e

-- THE GAPS that entries tell of a root, after so many calls that went through: an entry whose call failed ends a gap
abbrev pub gap_told : ℕ → Option ℕ → List ℕ
gap_told since None = []
gap_told since (Some q) = (since + q) ∷ []

abbrev pub since_told : ℕ → ℕ → Option ℕ → ℕ
since_told since calls None = since + calls
since_told since calls (Some q) = 0

abbrev pub gaps_from : BoardView → ℕ → ℕ → List Entry → List ℕ
gaps_from b r since [] = []
gaps_from b r since (e ∷ es) =
    if is_on_root b r e
    then gap_told since (call_failed e) ++ gaps_from b r (since_told since (calls_made e) (call_failed e)) es
    else gaps_from b r since es

abbrev pub gaps_told : BoardView → List Entry → ℕ → List ℕ
gaps_told b es r = gaps_from b r 0 es

-- the call of this number fails by these gaps
abbrev pub fails_by : List ℕ → ℕ → Bool
fails_by [] n = false
fails_by (g ∷ gs) n = if nat_lt n g then false else if n == g then true else fails_by gs (n - g - 1)

-- the calls of a log failed exactly as these gaps say, and those of a past, root by root
abbrev pub FailedBy : List PortCall → List ℕ → Type 0
FailedBy log gaps = (n : ℕ) → n < length log → (slice_get log n ≡ Some call.Fault) ↔ (fails_by gaps n ≡ true)

abbrev pub FailBy : BoardView → Asks → (ℕ → List ℕ) → List Entry → Type 0
FailBy b asks gaps past = (r : ℕ) → FailedBy (calls_of b asks past r) (gaps r)
