-- The action that the seat read at a place tells, and what comes next there by it.
use Rattle.bus_core.proofs.Cited.{◌≡◌, ◌<◌, ℕ, length, get_or, Some, sym, ◌∙◌, ap, slice_get, LockId, Take, Free, Settle, action_of, Action}
use Rattle.bus_core.proofs.Cited.{NextMsg, IsLockIn, take-wants, next_of, run_of, whole_of, IsKept, ComesAt, HasMessage, AreLooked}
use Rattle.bus_core.proofs.Cited.{walk_left, place_of, CoreInside, Seat}
use Rattle.i2c_base.specs.declared.caller.Caller.{Ghosts as CallerGhosts}
use Rattle.ports.specs.declared.port.Port.{Ghosts as PortGhosts}
use Rattle.mux_plan.specs.declared.task.Action.TheVariants as action
use Rattle.bus_core.specs.Kept.{HasShift}
use Rattle.bus_core.specs.Seats.{TellsAction}
use Rattle.bus_core.proofs.ActionLemmas.{take-of, free-of, send-of, line-of, settle-of}
use Rattle.bus_core.proofs.Kept.{place-here}
use Rattle.bus_core.proofs.Looking.{next-looked}
use Rattle.bus_core.proofs.SeatLemmas.{there_read}

-- the caller at a place, and the action that its walk tells by the lock words
pub record TellsNext {P C : Type 0} (x : CoreInside P C) (place : ℕ) (a : Action) : Type 0 where
  pub seat : Seat C
  pub here : slice_get x.seats.items place ≡ Some seat
  pub tells : action_of (next_of x.locks (walk_left seat)) ≡ a

pub tells-next : {P C : Type 0} (x : CoreInside P C) (place : ℕ) {s : Seat C} {a : Action} → AreLooked x.locks x.seats.items
    → place < length x.seats.items → s ≡ get_or x.seats.items place s
    → TellsAction a s → TellsNext x place a
tells-next x place {s} looked low read told =
    let here = there_read x.seats.items place s low read in
    record { seat = s; here = here; tells = sym (told ∙ ap action_of (next-looked x.locks s (looked place s here))) }

module _ {P C : Type 0} {x : CoreInside P C} {place : ℕ} {a : Action} (t : TellsNext x place a) where
  pub comes-take : (l : LockId) → a ≡ action.Take l → ComesAt x place (Take l)
  comes-take l is = record { seat = t.seat; here = t.here; next = take-of (next_of x.locks (walk_left t.seat)) l (t.tells ∙ is) }

  pub comes-free : (l : LockId) → a ≡ action.Free l → ComesAt x place (Free l)
  comes-free l is = record { seat = t.seat; here = t.here; next = free-of (next_of x.locks (walk_left t.seat)) l (t.tells ∙ is) }

  pub comes-settle : (verdict : _) → a ≡ action.Settle verdict → ComesAt x place (Settle verdict)
  comes-settle verdict is = record {
    seat = t.seat;
    here = t.here;
    next = settle-of (next_of x.locks (walk_left t.seat)) verdict (t.tells ∙ is);
  }

  pub comes-message : (next : NextMsg) → a ≡ action.Send next → HasMessage x place next
  comes-message next is =
      let sends = send-of (next_of x.locks (walk_left t.seat)) next (t.tells ∙ is) in
      record { job = sends.0; left = sends.1; comes = record { seat = t.seat; here = t.here; next = sends.2 }; of = sends.3 }

  pub comes-shift : (mux level : ℕ) → a ≡ action.Line mux level → HasShift x place mux level
  comes-shift mux level is =
      let shifts = line-of (next_of x.locks (walk_left t.seat)) mux level (t.tells ∙ is) in
      record { job = shifts.0; comes = record { seat = t.seat; here = t.here; next = shifts.1 }; of_mux = shifts.2; to_level = shifts.3 }

-- the lock that comes next is one of the board's
pub take-there : {P C S : Type 0} {g : PortGhosts P} {c : CallerGhosts C S} {x : CoreInside P C} (kept : IsKept g c x) {place : ℕ}
    {l : LockId} → ComesAt x place (Take l) → IsLockIn x.locks l
take-there {g = g} {c = c} {x = x} kept {place} {l} comes =
    (take-wants (run_of g c x) (whole_of g c x kept.held kept.owes) kept.kept place (place_of c comes.seat)
    (place-here g c x kept place comes.seat comes.here) l comes.next).0
