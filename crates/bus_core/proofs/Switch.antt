-- A line step of the caller at a place: it may be done, and after it all is kept, with the settle that it decides.
use Rattle.bus_core.proofs.Cited.{◌≡◌, ◌⊎◌, ℕ, ◌+◌, ◌<◌, ◌≤◌, Bool, true, false, IsTrue, List, [], ◌∷◌, ◌++◌, length, set, Option}
use Rattle.bus_core.proofs.Cited.{Some, None, refl, sym, ◌∙◌, ap, subst, arith, inl, inr, slice_get, append_assoc, Entry}
use Rattle.bus_core.proofs.Cited.{Errno, Reply, BoardView, MOST_CALLERS, TransferView, buses, root_of, World, JournalView, first_act}
use Rattle.bus_core.proofs.Cited.{first_note, is_over, rest_of, seen, now, reply_by, Act, Job, Shift, Settle, Lined, Passed, WalkTree}
use Rattle.bus_core.proofs.Cited.{line_mux, line_level, IsJobOf, root_ports, MayShift, Shifted, RootPort, tells-after, on-after, MayMark}
use Rattle.bus_core.proofs.Cited.{SeenView, slots_of, LocksView, Place, has_reply, IsLeft, IsDecided, seen_of, turned_to, WantsIn, next_of}
use Rattle.bus_core.proofs.Cited.{behind_of, AreMarked, lone_act, locks-here, not_over, kept-after, length-applied_kept}
use Rattle.bus_core.proofs.Cited.{held-wants, next-same, roots_of, IsSeated, IsKept, HasStepped, AreHeld, words_after, walk_left, place_of}
use Rattle.bus_core.proofs.Cited.{WentOn, MaySettle, IsSettledIn, updates_of, cut_of_line, CoreInside, Seat, bytes_given}
use Rattle.std.specs.Prelude.{unwrap_or, get_or}
use Rattle.std.specs.Option.{option_map}
use Rattle.i2c_base.specs.declared.board.MuxKind.{MuxKind}
use Rattle.i2c_base.specs.declared.board.MuxKind.TheVariants.{Gpio}
use Rattle.i2c_base.specs.declared.board.MuxSpec.{MuxSpec}
use Rattle.i2c_base.specs.declared.caller.Caller.{Ghosts as CallerGhosts}
use Rattle.i2c_base.specs.declared.entry.Entry.TheVariants as entry
use Rattle.i2c_base.specs.declared.reply.Cut.TheVariants as cut_at
use Rattle.i2c_base.specs.declared.reply.Reply.TheVariants as answer
use Rattle.i2c_base.specs.Muxes.{facts_of}
use Rattle.ports.specs.declared.port.Port.{Ghosts as PortGhosts}
use Rattle.ports.specs.LineCalls.{HasLine}
use Rattle.i2c_spec.specs.Tree.{home_of_mux, of_mux}
use Rattle.bus_spec.specs.Readings.{cut_told}
use Rattle.bus_spec.specs.Walk.{job_bus}
use Rattle.bus_laws.specs.Next.{HasLineIn}
use Rattle.bus_laws.proofs.Laws.{next-line, quiet-next}
use Rattle.bus_laws.proofs.past.Laws.{past-stands}
use Rattle.core_laws.specs.Behind.{line_entry, switched}
use Rattle.core_laws.specs.Core.{IsShifted}
use Rattle.core_laws.proofs.Laws.{lined-leaves, core-lined, core-line-settled, room-line, log-line, line-wants, shift-wants, shift-root}
use Rattle.bus_core.proofs.Kept.{standing, fair, seated-here, one-kept, two-kept}
use Rattle.bus_core.proofs.Converse.{port, length-applied, holds_mux, updates-held, switched-on, marks-on}
use Rattle.bus_core.proofs.Heard.{went-on-place, settle-first, settled-place}
use Rattle.bus_core.proofs.Reseating.{seated_on, seated_settled}
use Rattle.bus_core.proofs.SeatLemmas.{read_comes}
use Rattle.bus_core.proofs.SetupsStay.{setups-stay}
use Rattle.bus_core.specs.State.{setups_of}
use Rattle.bus_core.specs.Kept.{HasShift}

-- a gpio mux is switched by a line
by-line : (o : Option MuxSpec) → unwrap_or (option_map (λ (m : MuxSpec). Some m.kind) o) None ≡ Some Gpio
    → unwrap_or (option_map (λ (m : MuxSpec). (facts_of m.kind).by_line) o) false ≡ true
by-line None e = absurd (let f : None ≡ Some Gpio = e in cc)
by-line (Some m) e = (let f : Some m.kind ≡ Some Gpio = e in let is : m.kind ≡ Gpio = cc in ap (λ (k : MuxKind). (facts_of k).by_line) is)

-- a line of the board is one of the world of its root
line-in : (b : BoardView) (w : World) (m level : ℕ) → w.board ≡ b → HasLineIn b w.root m level → HasLine w m level
line-in b w m level is has = record {
  by_line = ap (λ (y : BoardView). of_mux (λ x. (facts_of x.kind).by_line) false y m) is ∙ by-line (slice_get b.muxes m) has.is_gpio;
  on_root = ap (λ (y : BoardView). root_of y (home_of_mux y m)) is ∙ has.on_root;
  within = subst (λ (y : BoardView). level ≤ of_mux (λ x. x.channels) 0 y m) (sym is) has.within;
}

-- an error has no bytes
no-bytes : (verdict : Option Errno) (err : Errno) (t : Option TransferView) (got : List ℕ) → verdict ≡ Some err
    → length (bytes_given (reply_by verdict t got)) ≡ 0
no-bytes verdict err t got is = ap (λ (o : Option Errno). length (bytes_given (reply_by o t got))) is

-- THE LINE STEP that comes next of the seat at a place
pub record ComesShift {P C : Type 0} (x : CoreInside P C) (place mux level : ℕ) (s : Seat C) : Type 0 where
  pub job : Job
  pub here : slice_get x.seats.items place ≡ Some s
  pub first : next_of x.locks (walk_left s) ≡ Some (Shift job)
  pub of_mux : line_mux job ≡ mux
  pub to_level : line_level job ≡ level

pub shift-next : {P C : Type 0} {x : CoreInside P C} {place mux level : ℕ} {s : Seat C} → HasShift x place mux level
    → s ≡ get_or x.seats.items place s → ComesShift x place mux level s
shift-next {x = x} {place = place} {s = s} need read =
    let comes = read_comes x place (Shift need.job) need.comes s read in
    record { job = need.job; here = comes.0; first = comes.1; of_mux = need.of_mux; to_level = need.to_level }

module _ {P C S : Type 0} {g : PortGhosts P} {c : CallerGhosts C S} {x : CoreInside P C} {place mux level : ℕ} {s : Seat C}
    (kept : IsKept g c x) (m : ComesShift x place mux level s) where
  open m use {job, here, first}
  open standing g c x kept place s here use {run, whole, p, at, ls, n}

  its : IsSeated c x.board (roots_of x.ports.items) s
  its = seated-here g c x kept place s here

  goes : is_over (walk_left s) ≡ false
  goes = not_over (slots_of (seen_of x.locks)) (walk_left s) (Shift job) first

  on-bus : s.transfer.bus < buses x.board
  on-bus = elim (its.there goes) [
    | inl low ↦ low
    | inr lone ↦ absurd (let l = lone_act x.board (slots_of (seen_of x.locks)) (walk_left s) lone (Shift job) first in
        let f : Shift job ≡ Settle l.0 = l.1 in cc)
  ]

  job-of : IsJobOf x.board s.transfer job
  job-of = shift-root run whole kept.kept place p at job first

  pub plug : (y : RootPort) × (slice_get whole.sockets s.port ≡ Some y) × (y.root ≡ root_of x.board s.transfer.bus)
  plug = port g c x kept place s here goes on-bus

  rooted : plug.0.root ≡ root_of x.board (job_bus job)
  rooted = plug.2 ∙ sym job-of.rooted

  -- where ports tell, the line is there
  line-there : IsTrue g.tells → HasLine plug.0.world (line_mux job) (line_level job)
  line-there tell =
      let f = fair g c x kept in
      let stands = past-stands x.board f.tree f.plain f.lines run.asks f.sends MOST_CALLERS whole.past (kept.kept.told tell).stepwise in
      let has = next-line x.board f.tree f.lines run.asks f.sends (now x.board run.asks whole.past) stands s.number job
      (next-same run whole kept.kept tell place p at ∙ first) in
      let world = ((kept.kept.told tell).ports_told s.port plug.0 plug.1).world in
      let board = ap (λ (w : World). w.board) world ∙ stands.told.board plug.0.root in
      let root = ap (λ (w : World). w.root) world ∙ stands.told.root plug.0.root in
      line-in x.board plug.0.world (line_mux job) (line_level job) board
      (subst (λ (r : ℕ). HasLineIn x.board r (line_mux job) (line_level job)) (sym (root ∙ rooted)) has)

  pub may-shift : MayShift g.tells mux level plug.0
  may-shift = record {
    idle = line-wants run whole kept.kept place p at job first s.port plug.0 plug.1 rooted;
    has = λ tell. subst (λ (l : ℕ). HasLine plug.0.world mux l) m.to_level
        (subst (λ (i : ℕ). HasLine plug.0.world i (line_level job)) m.of_mux (line-there tell));
    room = λ tell. (let room = log-line run whole kept.kept place p at job first tell s.port plug.0 plug.1 in omega (arith, room));
  }

  -- IT WAS DONE
  module _ (failed : Bool) where
    -- the marks that it changes may be written
    pub line-updates-own : AreHeld x.locks s.number (updates_of x.locks (Lined failed) s)
    line-updates-own =
        let own = locks-here run whole kept.kept place p at in
        let has = held-wants run whole kept.kept place p at own.0 own.1 in
        let sends = shift-wants run whole kept.kept place p at job first in
        updates-held x.locks s.number (updates_of x.locks (Lined failed) s)
        (on-after (holds_mux x.locks s.number) (next_of x.locks p.tree) (first_note (seen (slots_of (seen_of x.locks)) p.tree))
        (Lined failed)
        (subst (λ (o : Option Act). MayMark (holds_mux x.locks s.number) o (first_note (seen (slots_of (seen_of x.locks)) p.tree)))
        (sym first) (
          switched-on x.locks s.number own.0 has x.board job sends.own,
          marks-on x.locks s.number own.0 has x.board
              (first_note (seen (slots_of (seen_of x.locks)) p.tree)).marks sends.marked,
        )))

    abbrev words : SeenView
    words = words_after (updates_of x.locks (Lined failed) s) (seen_of x.locks)

    abbrev locks2 : LocksView
    locks2 = turned_to x.locks words

    abbrev behind : WalkTree
    behind = behind_of x.locks p.tree (Lined failed)

    leaves : IsLeft run.board p.transfer (has_reply p.owed) p.sent behind
        ⊎ ((has_reply p.owed ≡ false) × (err : Errno) × IsDecided run.board p.transfer (Some err) behind)
    leaves = lined-leaves run whole kept.kept place p at job first failed

    module _ {t : Seat C} (went : WentOn x.locks (Lined failed) (cut_of_line failed) s t) where
      place-is : place_of c t ≡ switched whole p job failed
      place-is = went-on-place c x.board x.locks (roots_of x.ports.items) (Lined failed) (cut_of_line failed) s t went

      seated : IsSeated c x.board (roots_of x.ports.items) t
      seated = seated_on c x.board x.locks (roots_of x.ports.items) s t its (Lined failed) (cut_of_line failed) went

      quiet : IsLeft run.board p.transfer (has_reply p.owed) p.sent behind → (verdict : Option Errno)
          → next_of locks2 (walk_left t) ≡ Some (Settle verdict) → ⊥
      quiet is verdict comes = quiet-next (slots_of words) behind is.quiet verdict
          (subst (λ (w : WalkTree). next_of locks2 w ≡ Some (Settle verdict)) went.walk comes)

      verdict-is : (err : Errno) → IsDecided run.board p.transfer (Some err) behind → (verdict : Option Errno)
          → next_of locks2 (walk_left t) ≡ Some (Settle verdict) → verdict ≡ Some err
      verdict-is err decides verdict comes =
          let comes2 : next_of locks2 behind ≡ Some (Settle verdict) = subst
          (λ (w : WalkTree). next_of locks2 w ≡ Some (Settle verdict)) went.walk comes in
          (let f : Some (Settle verdict) ≡ Some (Settle (Some err)) = sym comes2
          ∙ (settle-first locks2 behind (Some err) decides.first).0 in cc)

      module _ (j : JournalView) (pushed : j.entries ≡ x.journal.entries ++ entry.Line s.number mux level failed ∷ [])
          (room : j.room + 1 ≡ x.journal.room) (room_bytes : j.room_bytes + 0 ≡ x.journal.room_bytes) where
        entries : j.entries ≡ x.journal.entries ++ line_entry p job failed ∷ []
        entries = pushed
            ∙ ap (λ (i : ℕ). x.journal.entries ++ entry.Line s.number i level failed ∷ []) (sym m.of_mux)
            ∙ ap (λ (l : ℕ). x.journal.entries ++ entry.Line s.number (line_mux job) l failed ∷ []) (sym m.to_level)

        same_bytes : j.room_bytes ≡ x.journal.room_bytes
        same_bytes = omega (arith, room_bytes)

        -- THE SETTLE may be made
        pub line-may-settle : MaySettle locks2 j t
        line-may-settle = record {
          room = λ verdict comes. elim leaves [
            | inl is ↦ absurd (quiet is verdict comes)
            | inr d ↦ (let two : 2 ≤ x.journal.room = room-line run whole kept.kept place p at job first d.0 in
                let zeros : length (bytes_given (reply_by verdict (Some t.transfer) t.replies.got)) ≡ 0 = no-bytes verdict d.1
                (Some t.transfer) t.replies.got (verdict-is d.1 d.2 verdict comes) in
                (omega (arith, two, room), omega (arith, zeros)))
          ];
        }

        module _ (new : CoreInside P C) (same_board : new.board ≡ x.board) (locks : new.locks ≡ locks2) (old : RootPort) (now : RootPort)
            (port_here : slice_get (root_ports g x.ports.items) s.port ≡ Some old)
            (sockets : root_ports g new.ports.items ≡ set (root_ports g x.ports.items) s.port now)
            (was : Shifted g.tells mux level failed old now) (start : new.start ≡ x.start)
            (places : new.places ≡ x.places) where
          shifted : Shifted g.tells (line_mux job) (line_level job) failed old now
          shifted = subst (λ (l : ℕ). Shifted g.tells (line_mux job) l failed old now) (sym m.to_level)
              (subst (λ (i : ℕ). Shifted g.tells i level failed old now) (sym m.of_mux) was)

          setups : setups_of g.setup new.ports.items ≡ setups_of g.setup x.ports.items
          setups = setups-stay g x.ports.items new.ports.items s.port old now port_here sockets shifted.root shifted.setup

          marked : AreMarked x.board p.tree x.locks (Lined failed) words
          marked = record {
            all = length-applied (updates_of x.locks (Lined failed) s) x.locks.marks ∙ kept.kept.table.marked;
            counted = length-applied_kept (updates_of x.locks (Lined failed) s) x.locks.kept ∙ kept.kept.table.kept;
            marked = λ y told. tells-after (next_of x.locks p.tree) (first_note (seen (slots_of (seen_of x.locks)) p.tree))
                (Lined failed) y x.locks.marks told;
            kept = λ y told.
                kept-after x.board (locks-here run whole kept.kept place p at).0 (next_of x.locks p.tree)
                (first_note (seen (slots_of (seen_of x.locks)) p.tree)) (Lined failed)
                (subst (λ (o : Option Act). WantsIn x.board (locks-here run whole kept.kept place p at).0 o
                (first_note (seen (slots_of (seen_of x.locks)) p.tree))) (sym first)
                (shift-wants run whole kept.kept place p at job first))
                y x.locks.kept kept.kept.table.kept told;
          }

          is-shifted : IsShifted run whole p job s.port old now failed words
          is-shifted = record {
            first = first;
            port = port_here;
            rooted = (let same : old ≡ plug.0 = (let f : Some old ≡ Some plug.0 = sym port_here ∙ plug.1 in cc) in
                ap (λ (z : RootPort). z.root) same ∙ rooted);
            root = shifted.root;
            idle = shifted.idle;
            shows = λ tell. (shifted.world tell, shifted.log tell);
            marked = marked;
          }

          -- NO SETTLE came
          switched-quiet : new.seats.items ≡ set x.seats.items place t → new.journal ≡ j
              → ((verdict : Option Errno) → next_of locks2 (walk_left t) ≡ Some (Settle verdict) → ⊥)
              → IsKept g c new × HasStepped g c place x new
          switched-quiet seats journal undue = elim leaves [
            | inl is ↦ by is
            | inr d ↦ absurd (undue (Some d.1)
                (subst (λ (w : WalkTree). next_of locks2 w ≡ Some (Settle (Some d.1))) (sym went.walk)
                (settle-first locks2 behind (Some d.1) d.2.first).0))
          ]
            where
              by : IsLeft run.board p.transfer (has_reply p.owed) p.sent behind → IsKept g c new × HasStepped g c place x new
              by left =
                  let core = core-lined run (fair g c x kept) whole kept.kept place p ls n
                  (standing g c x kept place s here).stands j.room job s.port old now failed words is-shifted left (sym room) in
                  let number : t.number ≡ s.number = ap (λ (y : Seat C). y.number) went.same in
                  let script : c.script t.caller ≡ c.script s.caller = ap (λ (y : Seat C). c.script y.caller) went.same in
                  one-kept g c x kept place s here new t same_board seats number script setups seated _ core
                  (line_entry p job failed) (ap (λ (y : JournalView). y.entries) journal ∙ entries) refl
                  (ap (λ (y : JournalView). y.room + 1) journal ∙ room) (ap (λ (y : JournalView). y.room) journal)
                  (ap (λ (y : JournalView). y.room_bytes) journal ∙ same_bytes) (ap (set whole.places place) place-is)
                  locks sockets start places refl refl

          -- THE SETTLE came
          switched-settled : (verdict : Option Errno) (u : Seat C) → new.seats.items ≡ set x.seats.items place u
              → IsSettledIn locks2 verdict j new.journal t u → IsKept g c new × HasStepped g c place x new
          switched-settled verdict u seats made = elim leaves [
            | inl is ↦ absurd (quiet is verdict made.next)
            | inr d ↦ by d.0 d.1 d.2
          ]
            where
              by : has_reply p.owed ≡ false → (err : Errno) → IsDecided run.board p.transfer (Some err) behind
                  → IsKept g c new × HasStepped g c place x new
              by unsettled err decides =
                  let is : verdict ≡ Some err = verdict-is err decides verdict made.next in
                  let reply : reply_by verdict (Some t.transfer) t.replies.got ≡ answer.Err err = ap
                  (λ (o : Option Errno). reply_by o (Some t.transfer) t.replies.got) is in
                  let zeros = no-bytes verdict err (Some t.transfer) t.replies.got is in
                  let first2 : first_act (walk_left t) ≡ Some (Settle verdict) = subst
                  (λ (w : WalkTree). first_act w ≡ Some (Settle verdict)) (sym went.walk) (decides.first
                  ∙ ap (λ (o : Option Errno). Some (Settle o)) (sym is)) in
                  let line = line_entry p job failed in
                  let settle = entry.Settle s.number (answer.Err err) (cut_told (line_entry p job failed)) in
                  let rooms : x.journal.room ≡ new.journal.room + 2 = (let a = made.room in omega (arith, a, room)) in
                  let bytes : new.journal.room_bytes ≡ x.journal.room_bytes = (let a = made.room_bytes in
                  omega (arith, a, zeros, room_bytes)) in
                  let core = core-line-settled run (fair g c x kept) whole kept.kept place p ls n
                  (standing g c x kept place s here).stands new.journal.room job s.port old now failed words is-shifted err decides
                  unsettled rooms in
                  let number : u.number ≡ s.number = ap (λ (y : Seat C). y.number) made.settled.same
                  ∙ ap (λ (y : Seat C). y.number) went.same in
                  let script : c.script u.caller ≡ c.script s.caller = ap (λ (y : Seat C). c.script y.caller) made.settled.same
                  ∙ ap (λ (y : Seat C). c.script y.caller) went.same in
                  let all : new.journal.entries ≡ x.journal.entries ++ line ∷ settle ∷ [] =
                  made.entries ∙ ap (λ (r : Reply). j.entries ++ entry.Settle t.number r t.cut ∷ []) reply
                  ∙ ap (λ (ys : List Entry). ys ++ entry.Settle t.number (answer.Err err) t.cut ∷ []) entries
                  ∙ append_assoc x.journal.entries (line ∷ []) (entry.Settle t.number (answer.Err err) t.cut ∷ [])
                  ∙ ap (λ (y : Seat C). x.journal.entries ++ line ∷ entry.Settle y.number (answer.Err err) y.cut ∷ []) went.same in
                  let seated2 = seated_settled c x.board locks2 (roots_of x.ports.items) t u seated verdict made.settled in
                  let place2 = settled-place c x.board locks2 (roots_of x.ports.items) verdict t u made.settled
                  (answer.Err err) reply first2
                  ∙ ap (λ (q : Place). record q { tree = rest_of q.tree Passed; owed = answer.Err err ∷ []; got = []; cut = cut_at.No })
                  place-is in
                  two-kept g c x kept place s here new u same_board seats number script setups seated2 _ core line settle all refl
                  (sym rooms) refl bytes (ap (set whole.places place) place2) locks sockets start places refl refl refl refl

          -- EITHER, as it is told
          pub line-done : (u : Seat C) → new.seats.items ≡ set x.seats.items place u → (came : Bool)
              → (came ≡ true → (verdict : Option Errno) × IsSettledIn new.locks verdict j new.journal t u)
              → (came ≡ false → (verdict : Option Errno) → next_of new.locks (walk_left t) ≡ Some (Settle verdict) → ⊥)
              → (came ≡ false → (u ≡ t) × (new.journal ≡ j)) → IsKept g c new × HasStepped g c place x new
          line-done u seats true made none stays =
              let m = made refl in
              switched-settled m.0 u seats (subst (λ (v : LocksView). IsSettledIn v m.0 j new.journal t u) locks m.1)
          line-done u seats false made none stays =
              let st = stays refl in
              switched-quiet (seats ∙ ap (set x.seats.items place) st.0) st.1
              (λ verdict comes. none refl verdict
              (subst (λ (v : LocksView). next_of v (walk_left t) ≡ Some (Settle verdict)) (sym locks) comes))
