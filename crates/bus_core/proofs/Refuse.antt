-- A refused transfer of the caller at a place: its lone settle, and the next one loaded.
use Rattle.bus_core.proofs.Cited.{◌≡◌, ℕ, ◌+◌, ◌-◌, List, [], ◌∷◌, ◌++◌, set, Option, Some, None, refl, sym, ◌∙◌}
use Rattle.bus_core.proofs.Cited.{ap, arith, slice_get, reverse-append, Entry, Errno, LockId, Reply, MOST_CALLERS}
use Rattle.bus_core.proofs.Cited.{TransferView, walk_for, Settle, Then, Ends, root_ports, with_place, begun_with, Place}
use Rattle.bus_core.proofs.Cited.{CoreKept, IsLone, next_of, settle-errs, going-asks, room-one, roots_of, IsKept, HasStepped, walk_left}
use Rattle.bus_core.proofs.Cited.{place_of, MayRefuse, IsRefusedIn, CoreInside, Seat, over_ends}
use Rattle.i2c_base.specs.declared.caller.Caller.{Ghosts as CallerGhosts}
use Rattle.i2c_base.specs.declared.entry.Entry.TheVariants as entry
use Rattle.i2c_base.specs.declared.reply.Reply.TheVariants as answer
use Rattle.bus_core.specs.State.{setups_of}
use Rattle.ports.specs.declared.port.Port.{Ghosts as PortGhosts}
use Rattle.bus_spec.specs.Grammar.{plain}
use Rattle.core_laws.proofs.Laws.{core-lone, core-lone-finished, settle-lone, lone-due, turn-lone}
use Rattle.bus_core.proofs.Kept.{standing, fair, seated-here, asks-here, wired-here, turn-kept}
use Rattle.bus_core.proofs.Locks.{ended-place}

module _ {P C S : Type 0} (g : PortGhosts P) (c : CallerGhosts C S) (x : CoreInside P C) (kept : IsKept g c x) (place : ℕ) (s : Seat C)
    (here : slice_get x.seats.items place ≡ Some s)
    (errno : Errno) (first : next_of x.locks (walk_left s) ≡ Some (Settle (Some errno))) where
  open standing g c x kept place s here use {run, whole, p, at, ls, n}

  lone : IsLone x.board (walk_left s) × (p.owed ≡ [])
  lone = settle-lone run whole kept.kept place p at (Some errno) first

  pub may-refuse : MayRefuse c x.board (roots_of x.ports.items) errno x.journal s
  may-refuse = record {
    seated = seated-here g c x kept place s here;
    lone = (settle-lone run whole kept.kept place p at (Some errno) first).0.is
        ∙ ap (λ (o : Option Errno). Then (Settle o) plain (λ y. Ends))
        (sym (settle-errs run whole kept.kept place p at (Some errno) first));
    asked = sym (asks-here g c x kept place s here (c.taken s.caller))
        ∙ going-asks run whole kept.kept place p at (Settle (Some errno)) first;
    wired = λ rs t. wired-here g c x kept place s here rs t;
    room = room-one run whole kept.kept place p at (Settle (Some errno)) first;
  }

  -- IT WAS REFUSED
  module _ (new : CoreInside P C) (t : Seat C) (same_board : new.board ≡ x.board) (seats : new.seats.items ≡ set x.seats.items place t)
      (refused : IsRefusedIn c x.board (roots_of x.ports.items) errno x.journal new.journal s t) (locks : new.locks ≡ x.locks)
      (ports : new.ports ≡ x.ports) (start : new.start ≡ x.start) (places : new.places ≡ x.places) where
    abbrev replies : List Reply
    replies = c.taken s.caller ++ answer.Err errno ∷ []

    abbrev settle : Entry
    settle = entry.Settle s.number (answer.Err errno) s.cut

    setups : setups_of g.setup new.ports.items ≡ setups_of g.setup x.ports.items
    setups = ap (λ (y : _). setups_of g.setup y.items) ports

    by-whole : (q : Place) → place_of c t ≡ q → (ks : List LockId) (m : ℕ)
        → CoreKept run (record (with_place whole place q ks m) { past = settle ∷ whole.past; room = new.journal.room })
        → IsKept g c new × HasStepped g c place x new
    by-whole q is ks m core =
        turn-kept g c x kept place s here new t same_board seats refused.ended.number refused.ended.handed.script setups refused.seated _
        core (record { caller = s.number; entries = settle ∷ [] }) refl refused.entries (reverse-append x.journal.entries (settle ∷ []))
        (omega arith) refused.room refl refused.room_bytes (ap (set whole.places place) is) locks
        (ap (λ (y : _). root_ports g y.items) ports) start places
        (λ tell. turn-lone x.board MOST_CALLERS run.asks whole.past settle (core.told tell).stepwise
        (lone-due run whole kept.kept tell place p at lone.0))

    pub refused-kept : IsKept g c new × HasStepped g c place x new
    refused-kept = by (c.asked (c.script t.caller) (c.taken t.caller)) refl
      where
        asks : c.asked (c.script t.caller) (c.taken t.caller) ≡ run.asks s.number replies
        asks = ap (λ (z : S). c.asked z (c.taken t.caller)) refused.ended.handed.script
            ∙ ap (λ (rs : List Reply). c.asked (c.script s.caller) rs) refused.ended.handed.taken
            ∙ sym (asks-here g c x kept place s here replies)

        by : (o : Option TransferView) → c.asked (c.script t.caller) (c.taken t.caller) ≡ o → IsKept g c new × HasStepped g c place x new
        by (Some y) is =
            by-whole (begun_with p replies y (walk_for x.board y))
            (ended-place c x.board (answer.Err errno) s t refused.ended replies refl y (walk_for x.board y)
            (refused.ended.loaded.some y is).0 (refused.ended.loaded.some y is).1) [] (n - 1)
            (core-lone run (fair g c x kept) whole kept.kept place p ls n (standing g c x kept place s here).stands new.journal.room
            (Some errno) first (sym refused.room) (answer.Err errno) refl y (sym asks ∙ is))
        by None is =
            by-whole (begun_with p replies p.transfer Ends)
            (ended-place c x.board (answer.Err errno) s t refused.ended replies refl p.transfer Ends (refused.ended.stays is)
            (over_ends (walk_left t) (refused.ended.loaded.none is))) [] (n - 1)
            (core-lone-finished run (fair g c x kept) whole kept.kept place p ls n
            (standing g c x kept place s here).stands new.journal.room (Some errno) first (sym refused.room) (answer.Err errno) refl
            (sym asks ∙ is))
