-- After a message of the caller at a place: the settle that it decides, and all that is kept.
use Rattle.bus_core.proofs.Cited.{◌≡◌, ◌⊎◌, ℕ, ◌+◌, ◌≤◌, Bool, true, false, List, [], ◌∷◌, ◌++◌, length, set, Option, Some, refl}
use Rattle.bus_core.proofs.Cited.{sym, ◌∙◌, ap, subst, arith, inl, inr, append_assoc, Entry, Errno, Reply, Fits}
use Rattle.bus_core.proofs.Cited.{FitsReads, TransferView, MessageView, JournalView, first_act, rest_of, got_after, message_cut, reply_by}
use Rattle.bus_core.proofs.Cited.{Call, Settle, Passed, WalkTree, root_ports, RootPort, MsgResult, SeenView, slots_of, LocksView}
use Rattle.bus_core.proofs.Cited.{Place, has_reply, IsLeft, IsDecided, NextMsg, gone_after, turned_to, next_of, behind_of}
use Rattle.bus_core.proofs.Cited.{roots_of, IsSeated, IsKept, HasStepped, walk_left, place_of, HasSpoken, HasHeard, MaySettle, IsSettledIn}
use Rattle.bus_core.proofs.Cited.{CoreInside, Seat, bytes_given}
use Rattle.std.proofs.Common.{take}
use Rattle.i2c_base.specs.declared.caller.Caller.{Ghosts as CallerGhosts}
use Rattle.i2c_base.specs.declared.entry.Entry.TheVariants as entry
use Rattle.i2c_base.specs.declared.reply.Cut.TheVariants as cut_at
use Rattle.ports.specs.declared.port.Port.{Ghosts as PortGhosts}
use Rattle.bus_spec.specs.Walk as walk
use Rattle.bus_laws.proofs.walk.Next.{quiet-next}
use Rattle.core_laws.specs.Behind.{message_entry, spoken}
use Rattle.core_laws.proofs.Laws.{sent-leaves, core-message, core-settled, room-message, bytes-settle}
use Rattle.bus_core.proofs.Kept.{standing, fair, seated-here, one-kept, two-kept}
use Rattle.bus_core.proofs.Converse.{ComesNext, goes, on-bus, calls, call-left, few, words2, is-sent}
use Rattle.bus_core.proofs.Heard.{heard-place, heard-got, heard-seated, settle-first, settled-place}
use Rattle.bus_core.proofs.Reseating.{seated_settled}
use Rattle.bus_core.proofs.SetupsStay.{setups-stay}
use Rattle.bus_core.specs.State.{setups_of}

module _ {P C S : Type 0} {g : PortGhosts P} {c : CallerGhosts C S} {x : CoreInside P C} {place : ℕ} {next : NextMsg} {s : Seat C}
    (kept : IsKept g c x) (m : ComesNext x place next s) {sockets2 : List RootPort} {bytes : List ℕ} {sent : MsgResult}
    (said : HasSpoken x.board g.tells next (root_ports g x.ports.items) sockets2 bytes sent s)
    {t : Seat C} (heard : HasHeard x.locks next bytes sent s t) where
  open m use {job, more, here, first, of}
  open standing g c x kept place s here use {run, whole, p, at, ls, n}

  abbrev words : SeenView
  words = words2 kept m said

  abbrev pub locks2 : LocksView
  locks2 = turned_to x.locks words

  abbrev behind : WalkTree
  behind = behind_of x.locks p.tree (walk.Sent sent.end bytes)

  abbrev got : List ℕ
  got = got_after job sent.reading bytes p.got

  abbrev gone : ℕ
  gone = gone_after s.sent job sent.end

  none : (bus : ℕ) (ms : List MessageView) → job ≡ Call bus ms → has_reply p.owed ≡ false
  none bus ms is = (calls kept m bus ms is).0

  leaves : (IsLeft run.board p.transfer (has_reply p.owed) gone behind × (p.owed ≡ [] → FitsReads (take gone p.transfer.msgs) got))
      ⊎ ((has_reply p.owed ≡ false) × (verdict : Option Errno) × IsDecided run.board p.transfer verdict behind
      × ((reply : Reply) → reply ≡ reply_by verdict (Some p.transfer) got → Fits p.transfer reply))
  leaves = sent-leaves run whole kept.kept place p at job more next s.port said.before said.after bytes sent words (is-sent kept m said)

  place-is : place_of c t ≡ spoken whole p job next bytes sent gone
  place-is = heard-place c x.board x.locks (roots_of x.ports.items) job more next of bytes sent s t heard none

  seated : IsSeated c x.board (roots_of x.ports.items) t
  seated = heard-seated c x.board x.locks (roots_of x.ports.items) job more next of bytes sent s t heard none
      (seated-here g c x kept place s here) (goes kept m) (on-bus kept m) (λ e. (call-left kept m e).1)

  reply-is : has_reply p.owed ≡ false → (verdict : Option Errno)
      → reply_by verdict (Some t.transfer) t.replies.got ≡ reply_by verdict (Some p.transfer) got
  reply-is unsettled verdict =
      ap (λ (y : TransferView). reply_by verdict (Some y) t.replies.got) (ap (λ (y : Seat C). y.transfer) heard.same)
      ∙ ap (reply_by verdict (Some s.transfer))
      (heard-got c x.board x.locks (roots_of x.ports.items) job more next of bytes sent s t heard none unsettled)

  -- the settle is none where the message decides nothing
  quiet : IsLeft run.board p.transfer (has_reply p.owed) gone behind → (verdict : Option Errno)
      → next_of locks2 (walk_left t) ≡ Some (Settle verdict) → ⊥
  quiet is verdict comes = quiet-next (slots_of words) behind is.quiet verdict
      (subst (λ (w : WalkTree). next_of locks2 w ≡ Some (Settle verdict)) heard.walk comes)

  module _ (j : JournalView) (entries : j.entries ≡ x.journal.entries ++ message_entry s.number next bytes sent ∷ [])
      (room : j.room + 1 ≡ x.journal.room)
      (room_bytes : j.room_bytes + length bytes ≡ x.journal.room_bytes) where
    -- THE SETTLE may be made
    pub may-settle : MaySettle locks2 j t
    may-settle = record {
      room = λ verdict comes. elim leaves [
        | inl is ↦ absurd (quiet is.0 verdict comes)
        | inr d ↦ (let two : 2 ≤ x.journal.room = room-message run whole kept.kept place p at job more first d.0 in
            let fit : length bytes + length (bytes_given (reply_by verdict (Some p.transfer) got)) ≤ x.journal.room_bytes =
            bytes-settle run whole kept.kept place p at job more first bytes (few kept m said) sent.reading verdict
            (reply_by verdict (Some p.transfer) got) refl in
            let same : length (bytes_given (reply_by verdict (Some t.transfer) t.replies.got)) ≡ length
            (bytes_given (reply_by verdict (Some p.transfer) got)) = ap (λ (r : Reply). length (bytes_given r))
            (reply-is d.0 verdict) in
            (omega (arith, two, room), omega (arith, fit, same, room_bytes)))
      ];
    }

    module _ (new : CoreInside P C) (same_board : new.board ≡ x.board) (locks : new.locks ≡ locks2)
        (ports : root_ports g new.ports.items ≡ sockets2) (start : new.start ≡ x.start) (places : new.places ≡ x.places) where
      sockets : root_ports g new.ports.items ≡ set (root_ports g x.ports.items) s.port said.after
      sockets = ports ∙ said.set_is

      setups : setups_of g.setup new.ports.items ≡ setups_of g.setup x.ports.items
      setups = setups-stay g x.ports.items new.ports.items s.port said.before said.after said.here sockets said.sent.spoke.root
          said.sent.spoke.setup

      -- NO SETTLE came
      pub conversed-quiet : new.seats.items ≡ set x.seats.items place t → new.journal ≡ j
          → ((verdict : Option Errno) → next_of locks2 (walk_left t) ≡ Some (Settle verdict) → ⊥)
          → IsKept g c new × HasStepped g c place x new
      conversed-quiet seats journal undue = elim leaves [
        | inl is ↦ by is.0 is.1
        | inr d ↦ absurd (undue d.1 (subst (λ (w : WalkTree). next_of locks2 w ≡ Some (Settle d.1)) (sym heard.walk)
            (settle-first locks2 behind d.1 d.2.first).0))
      ]
        where
          by : IsLeft run.board p.transfer (has_reply p.owed) gone behind → (p.owed ≡ [] → FitsReads (take gone p.transfer.msgs) got)
              → IsKept g c new × HasStepped g c place x new
          by left partway =
              let core = core-message run (fair g c x kept) whole kept.kept place p ls n
              (standing g c x kept place s here).stands j.room job more next s.port said.before said.after bytes sent words
              (is-sent kept m said) gone left partway (sym room) j.room_bytes (sym room_bytes) in
              let number : t.number ≡ s.number = ap (λ (y : Seat C). y.number) heard.same in
              let script : c.script t.caller ≡ c.script s.caller = ap (λ (y : Seat C). c.script y.caller) heard.same in
              one-kept g c x kept place s here new t same_board seats number script setups seated _ core
              (message_entry s.number next bytes sent) (ap (λ (y : JournalView). y.entries) journal ∙ entries) refl
              (ap (λ (y : JournalView). y.room + 1) journal ∙ room) (ap (λ (y : JournalView). y.room) journal)
              (ap (λ (y : JournalView). y.room_bytes) journal) (ap (set whole.places place) place-is) locks sockets start places refl refl

      -- THE SETTLE came
      pub conversed-settled : (verdict : Option Errno) (u : Seat C) → new.seats.items ≡ set x.seats.items place u
          → IsSettledIn locks2 verdict j new.journal t u → IsKept g c new × HasStepped g c place x new
      conversed-settled verdict u seats made = elim leaves [
        | inl is ↦ absurd (quiet is.0 verdict made.next)
        | inr d ↦ by d.0 d.1 d.2 d.3
      ]
        where
          by : has_reply p.owed ≡ false → (due : Option Errno) → IsDecided run.board p.transfer due behind
              → ((reply : Reply) → reply ≡ reply_by due (Some p.transfer) got → Fits p.transfer reply)
              → IsKept g c new × HasStepped g c place x new
          by unsettled due decides fits =
              let comes : next_of locks2 behind ≡ Some (Settle verdict) = subst
              (λ (w : WalkTree). next_of locks2 w ≡ Some (Settle verdict)) heard.walk made.next in
              let is : verdict ≡ due = (let f : Some (Settle verdict) ≡ Some (Settle due) = sym comes
              ∙ (settle-first locks2 behind due decides.first).0 in cc) in
              let reply = reply_by verdict (Some t.transfer) t.replies.got in
              let decided : reply ≡ reply_by due (Some p.transfer) got = reply-is unsettled verdict
              ∙ ap (λ (o : Option Errno). reply_by o (Some p.transfer) got) is in
              let first2 : first_act (walk_left t) ≡ Some (Settle verdict) = subst
              (λ (w : WalkTree). first_act w ≡ Some (Settle verdict)) (sym heard.walk) (decides.first
              ∙ ap (λ (o : Option Errno). Some (Settle o)) (sym is)) in
              let message = message_entry s.number next bytes sent in
              let settle = entry.Settle s.number reply (message_cut next.purpose next.part sent.end) in
              let rooms : x.journal.room ≡ new.journal.room + 2 = (let a = made.room in omega (arith, a, room)) in
              let core = core-settled run (fair g c x kept) whole kept.kept place p ls n
              (standing g c x kept place s here).stands new.journal.room job more next s.port said.before said.after bytes sent words
              (is-sent kept m said) gone due decides unsettled reply decided
              (fits reply decided) rooms new.journal.room_bytes
              (let a = made.room_bytes in omega (arith, a, room_bytes)) in
              let number : u.number ≡ s.number = ap (λ (y : Seat C). y.number) made.settled.same
              ∙ ap (λ (y : Seat C). y.number) heard.same in
              let script : c.script u.caller ≡ c.script s.caller = ap (λ (y : Seat C). c.script y.caller) made.settled.same
              ∙ ap (λ (y : Seat C). c.script y.caller) heard.same in
              let all : new.journal.entries ≡ x.journal.entries ++ message ∷ settle ∷ [] =
              made.entries ∙ ap (λ (ys : List Entry). ys ++ entry.Settle t.number reply t.cut ∷ []) entries
              ∙ append_assoc x.journal.entries (message ∷ []) (entry.Settle t.number reply t.cut ∷ [])
              ∙ ap (λ (y : Seat C). x.journal.entries ++ message ∷ entry.Settle y.number reply y.cut ∷ []) heard.same in
              let seated2 = seated_settled c x.board locks2 (roots_of x.ports.items) t u seated verdict made.settled in
              let place2 = settled-place c x.board locks2 (roots_of x.ports.items) verdict t u made.settled reply refl first2
              ∙ ap (λ (q : Place). record q { tree = rest_of q.tree Passed; owed = reply ∷ []; got = []; cut = cut_at.No }) place-is in
              two-kept g c x kept place s here new u same_board seats number script setups seated2 _ core message settle all refl (sym rooms)
              refl refl (ap (set whole.places place) place2) locks sockets start places refl refl refl refl

      -- EITHER, as it is told
      pub conversed : (u : Seat C) → new.seats.items ≡ set x.seats.items place u → (came : Bool)
          → (came ≡ true → (verdict : Option Errno) × IsSettledIn new.locks verdict j new.journal t u)
          → (came ≡ false → (verdict : Option Errno) → next_of new.locks (walk_left t) ≡ Some (Settle verdict) → ⊥)
          → (came ≡ false → (u ≡ t) × (new.journal ≡ j)) → IsKept g c new × HasStepped g c place x new
      conversed u seats true made none stays =
          let m = made refl in
          conversed-settled m.0 u seats (subst (λ (v : LocksView). IsSettledIn v m.0 j new.journal t u) locks m.1)
      conversed u seats false made none stays =
          let st = stays refl in
          conversed-quiet (seats ∙ ap (set x.seats.items place) st.0) st.1
          (λ verdict comes. none refl verdict
          (subst (λ (v : LocksView). next_of v (walk_left t) ≡ Some (Settle verdict)) (sym locks) comes))
