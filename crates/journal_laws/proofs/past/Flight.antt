-- Each message is the one in flight where it stands. The induction goes over the entries.
use Rattle.journal_laws.proofs.Cited.{ℕ, List, [], ◌∷◌, Option, ap, Entry, BoardView, Asks, Act, message_of, OfMessage, now, May}
use Rattle.journal_laws.proofs.Cited.{IsStepwise}
use Rattle.i2c_base.specs.declared.entry.Entry.TheVariants as entry
use Rattle.bus_spec.specs.Places.{message_sent}
use Rattle.journal_laws.specs.Flight.{IsInFlight, AreInFlight}

flight_at : (b : BoardView) (callers : ℕ) (asks : Asks) (past : List Entry) (e : Entry) → May b callers asks (now b asks past) e
    → OfMessage (IsInFlight b asks past) e
flight_at b callers asks past (entry.Take c l) may = tt
flight_at b callers asks past (entry.Free c l) may = tt
flight_at b callers asks past (entry.Line c mux level failed) may = tt
flight_at b callers asks past (entry.Settle c r cut) may = tt
flight_at b callers asks past (entry.Message c bus why part parts addr reading bytes heard e) may =
    record {
      message = message_of b may.2.0 may.2.1;
      in_flight = ap (λ (o : Option Act). message_sent b o) may.2.2;
      to_addr = may.2.3.to_addr;
      in_direction = may.2.3.in_direction;
    }

pub in-flight : (b : BoardView) (callers : ℕ) (asks : Asks) (past : List Entry) → IsStepwise b callers asks past → AreInFlight b asks past
in-flight b callers asks [] steps = tt
in-flight b callers asks (e ∷ past) steps = (flight_at b callers asks past e steps.0, in-flight b callers asks past steps.1)
