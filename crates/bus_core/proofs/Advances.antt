-- A caller that makes a step, or waits: who stands at its place, and what keeps it there.
use Rattle.bus_core.proofs.Cited.{◌≡◌, ℕ, ◌<◌, true, IsTrue, length, reverse, Some, None, refl, sym, ◌∙◌, ap, subst, arith, inl, inr}
use Rattle.bus_core.proofs.Cited.{slice_get, length-map, slice_get_within, LockId, is_over, WalkTree, IsStuck, IsHeldUp, next_of, slots_of}
use Rattle.bus_core.proofs.Cited.{LocksView, holder_in, asks_in, run_of, whole_of, IsKept, ArePlaced, HasStepped, HasTurn, walk_left}
use Rattle.bus_core.proofs.Cited.{place_of, script_of, scripts_of, IsHeldUpAt, HasMade, IsBlockedAt, HasEndedAt, CoreInside, Seat}
use Rattle.bus_core.proofs.Cited.{StepAnswer, over_ends, there, map_from, seen_of}
use Rattle.i2c_base.specs.declared.caller.Caller.{Ghosts as CallerGhosts}
use Rattle.ports.specs.declared.port.Port.{Ghosts as PortGhosts}
use Rattle.core_laws.proofs.Laws.{held-up-stuck}
use Rattle.bus_core.specs.declared.steps.StepAnswer.TheVariants as answer
use Rattle.bus_core.proofs.Kept.{place-here}
use Rattle.bus_core.proofs.Locks.{same_seat}

-- an answer that isn't Stepped
pub waits-by : (P : Type 0) (r : StepAnswer) → (r ≡ answer.Stepped → ⊥) → ((l : LockId) (h : ℕ) → r ≡ answer.Blocked l h → P)
    → (r ≡ answer.Finished → P) → P
waits-by P answer.Stepped not blocked finished = absurd (not refl)
waits-by P (answer.Blocked l h) not blocked finished = blocked l h refl
waits-by P answer.Finished not blocked finished = finished refl

-- a walk that is over has no step
pub over-none : (v : LocksView) (w : WalkTree) → is_over w ≡ true → next_of v w ≡ None
over-none v w over = ap (next_of v) (over_ends w over)

module _ {P C S : Type 0} (g : PortGhosts P) (c : CallerGhosts C S) (x : CoreInside P C) (kept : IsKept g c x)
    (placed : ArePlaced x.places.items (scripts_of c x.seats.items))
    (caller place : ℕ) (at : slice_get x.places.items caller ≡ Some (Some place)) where
  script_here : (s : S) × (slice_get (scripts_of c x.seats.items) place ≡ Some (caller, s))
  script_here = placed.there caller place at

  pub within : place < length x.seats.items
  within =
      let low : place < length (scripts_of c x.seats.items) = slice_get_within (scripts_of c x.seats.items) place
      (caller, script_here.0) script_here.1 in
      let all : length (scripts_of c x.seats.items) ≡ length x.seats.items = length-map x.seats.items (script_of c) in
      omega (arith, low, all)

  pub numbered : (s : Seat C) → slice_get x.seats.items place ≡ Some s → s.number ≡ caller
  numbered s here =
      let from = map_from (script_of c) x.seats.items place (caller, script_here.0) script_here.1 in
      let same : from.0 ≡ s = same_seat x.seats.items place from.0 s from.1 here in
      ap (λ (y : Seat C). y.number) (sym same) ∙ ap (λ (y : ℕ × S). y.0) from.2

  pub stuck-by : (s : Seat C) → slice_get x.seats.items place ≡ Some s
      → IsHeldUp (holder_in x.locks) (slots_of (seen_of x.locks)) (walk_left s) → IsTrue g.tells
      → IsStuck x.board (asks_in c x) (reverse x.journal.entries) caller
  stuck-by s here up tell =
      subst (λ (n : ℕ). IsStuck x.board (asks_in c x) (reverse x.journal.entries) n) (numbered s here)
      (held-up-stuck (run_of g c x) (whole_of g c x kept.held kept.owes) kept.kept tell place (place_of c s)
      (place-here g c x kept place s here) up)

  -- WHO WAITS is held up
  pub blocked-held_up : (l : LockId) (h : ℕ) → IsBlockedAt x place l h → IsHeldUpAt x place
  blocked-held_up l h b = record { seat = b.comes.seat; here = b.comes.here; waits = inr (l, h, b.comes.next, b.held) }

  pub ended-held_up : HasEndedAt x place → IsHeldUpAt x place
  ended-held_up e = record { seat = e.seat; here = e.here; waits = inl (over-none x.locks (walk_left e.seat) e.over) }

  -- .. and stuck
  pub blocked-stuck : (l : LockId) (h : ℕ) → IsBlockedAt x place l h → IsTrue g.tells
      → IsStuck x.board (asks_in c x) (reverse x.journal.entries) caller
  blocked-stuck l h b tell = (let up = blocked-held_up l h b in stuck-by up.seat up.here up.waits tell)

  pub ended-stuck : HasEndedAt x place → IsTrue g.tells → IsStuck x.board (asks_in c x) (reverse x.journal.entries) caller
  ended-stuck e tell = (let up = ended-held_up e in stuck-by up.seat up.here up.waits tell)

  -- A STEP that was made
  pub has-made : (new : CoreInside P C) → HasStepped g c place x new → HasMade g c caller x new
  has-made new step =
      let s = there x.seats.items place within in
      record {
        come = record {
          board = step.board;
          start = step.start;
          scripts = step.scripts;
          setups = step.setups;
          places = step.places;
          counted = step.counted;
        };
        room = step.room;
        turn = λ tell. subst (λ (n : ℕ). HasTurn x.board (asks_in c x) n x.journal.entries new.journal.entries) (numbered s.0 s.1)
            (step.turn tell s.0 s.1);
      }
