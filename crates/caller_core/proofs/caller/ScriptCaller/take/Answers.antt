use Rattle.caller_core.proofs.Cited.{◌≡◌, ℕ, ◌+◌, ◌<◌, ◌≤◌, true, false, sym, List, ◌++◌, length, drop, Some, arith, ap, refl, ◌∙◌}
use Rattle.caller_core.proofs.Cited.{slice_get, sum_by, Reply, reply_by, AreReplies, next_place, replies_of, TextView, IsCaller, HasRoom}
use Rattle.caller_core.proofs.Cited.{command_text, quiet_text, room_of, command_talk, quiet_front, CommandView, ScriptView}
use Rattle.std.proofs.Math.Seq.{drop-drop}
use Rattle.caller_core.proofs.QuietLemmas.{front_parts, sum_there}
use Rattle.caller_core.proofs.TakeLemmas.{IsTaking, given_by, at_place, taking, ready_to_take, place_and_room, replies_so, stays_so}
use Rattle.caller_core.proofs.TakeLemmas.{stays_room, goes_on, goes_room, covered}
use Rattle.caller_core.specs.Scripts.{front_room}
use Rattle.caller_core.proofs.caller.ScriptCaller.take.Goals as goal
use Rattle.caller_core.proofs.caller.ScriptCaller.take.Goals.{After-get}

module _ (c : After-get) where
  abbrev script : ScriptView
  script = record { board = c.self.inside.board.value; text = c.self.inside.text.value.items }

  abbrev reply : Reply
  reply = reply_by c.args.head c.args.bytes.now

  -- the command whose turn it is
  abbrev command : CommandView
  command = record { echo = c.get.result.1.now; run = c.get.result.0.now }

  -- the reply to what it asks for
  taken : IsTaking c.self.inside.commands (replies_of c.self.inside.taken.items) c.self.inside.turn reply
  taken =
      let s = c.self.inside in
      taking script s.commands s.taken s.printed s.turn s.from s.place s.totals reply c.self.invariant.0 s.is_ready
      c.args.self.now c.self.view_is c.requires.fits

  -- it is ready, and so it has room
  ready : c.self.inside.is_ready ≡ true
  ready =
      let s = c.self.inside in
      ready_to_take script s.commands s.taken s.printed s.turn s.from s.place s.totals reply c.self.invariant.0 s.is_ready
      c.args.self.now c.self.view_is taken c.requires.room

  room : HasRoom c.self.inside.commands c.self.inside.taken c.self.inside.printed c.self.inside.turn
  room = c.self.invariant.1.room ready

  there : slice_get c.self.inside.commands c.self.inside.turn ≡ Some command
  there = let s = c.self.inside in at_place s.commands s.turn command taken.within c.get.ensures

  -- the replies that it has
  told : AreReplies (command_talk command) 0 (drop c.self.inside.from (replies_of c.push.new.self.items))
  told =
      let s = c.self.inside in
      replies_so script s.commands s.taken s.printed s.turn s.from s.place s.totals reply c.self.invariant.0 room taken
      command there c.args.head c.args.bytes.now c.push.new.self refl (given_by c.args.head c.args.bytes.now c.requires.few)
      c.push.ensures.items c.push.ensures.room c.push.ensures.room_bytes

  -- where it stands with the reply: at a further place of the same command, or after that command
  further : (next : ℕ) → next ≡ next_place (command_talk command) c.self.inside.place reply → next < (command_talk command).places
      → IsCaller script c.self.inside.commands c.push.new.self.items c.self.inside.printed.bytes c.self.inside.turn c.self.inside.from next
      c.self.inside.totals
  further =
      let s = c.self.inside in
      stays_so script s.commands s.taken s.printed s.turn s.from s.place s.totals reply c.self.invariant.0 room taken
      command there c.args.head c.args.bytes.now c.push.new.self refl (given_by c.args.head c.args.bytes.now c.requires.few)
      c.push.ensures.items c.push.ensures.room c.push.ensures.room_bytes

  over : (text : TextView) (next end to : ℕ) → next ≡ next_place (command_talk command) c.self.inside.place reply
      → (command_talk command).places ≤ next
      → end ≡ length c.push.new.self.items
      → to ≡ c.self.inside.turn + 1 + quiet_front (drop (c.self.inside.turn + 1) c.self.inside.commands)
      → text.bytes ≡ (c.self.inside.printed.bytes
      ++ command_text (record { command = command; replies = drop c.self.inside.from (replies_of c.push.new.self.items) }))
      ++ quiet_text (drop (c.self.inside.turn + 1) c.self.inside.commands)
      → IsCaller script c.self.inside.commands c.push.new.self.items text.bytes to end 0 c.self.inside.totals
  over =
      let s = c.self.inside in
      goes_on script s.commands s.taken s.printed s.turn s.from s.place s.totals reply c.self.invariant.0 room taken
      command there c.args.head c.args.bytes.now c.push.new.self refl (given_by c.args.head c.args.bytes.now c.requires.few)
      c.push.ensures.items c.push.ensures.room c.push.ensures.room_bytes

  -- .. and it has the room that it needs
  further_room : HasRoom c.self.inside.commands c.push.new.self c.self.inside.printed c.self.inside.turn
  further_room =
      let s = c.self.inside in
      stays_room script s.commands s.taken s.printed s.turn s.from s.place s.totals reply c.self.invariant.0 room taken
      command there c.args.head c.args.bytes.now c.push.new.self refl (given_by c.args.head c.args.bytes.now c.requires.few)
      c.push.ensures.items c.push.ensures.room c.push.ensures.room_bytes

  over_room : (out text : TextView) (to : ℕ) → c.self.inside.printed.room ≤ out.room + room_of command
      → out.room ≤ text.room + front_room (drop (c.self.inside.turn + 1) c.self.inside.commands)
      → to ≡ c.self.inside.turn + 1 + quiet_front (drop (c.self.inside.turn + 1) c.self.inside.commands)
      → HasRoom c.self.inside.commands c.push.new.self text to
  over_room out text to told quiet is_to =
      let s = c.self.inside in
      let rest : List CommandView = drop (s.turn + 1) s.commands in
      let behind : drop (quiet_front rest) rest ≡ drop to s.commands =
      drop-drop (quiet_front rest) (s.turn + 1) s.commands ∙ ap (λ n. drop n s.commands) (sym is_to) in
      goes_room script s.commands s.taken s.printed s.turn s.from s.place s.totals reply c.self.invariant.0 room taken
      command there c.args.head c.args.bytes.now c.push.new.self refl (given_by c.args.head c.args.bytes.now c.requires.few)
      c.push.ensures.items c.push.ensures.room c.push.ensures.room_bytes text to
      (omega (
        arith,
        quiet,
        told,
        room.text,
        sum_there s.commands s.turn command there,
        front_parts rest,
        ap (λ xs. sum_by room_of xs) behind,
      ))

  -- a script that is ready stays so
  still : {X : Type 0} → c.self.inside.is_ready ≡ false → X
  still other = absurd (let both : true ≡ false = sym ready ∙ other in cc)

pub push-requires-clause-room : goal.push-requires-clause-room
push-requires-clause-room c =
    let s = c.self.inside in
    (place_and_room (record { board = s.board.value; text = s.text.value.items }) s.commands s.taken s.printed s.turn s.from s.place
    s.totals (reply_by c.args.head c.args.bytes.now) c.self.invariant.0 s.is_ready c.args.self.now c.self.view_is c.requires.fits
    c.requires.room c.self.invariant.1.room c.args.bytes.now (given_by c.args.head c.args.bytes.now c.requires.few)).0

pub push-requires-clause-room_bytes : goal.push-requires-clause-room_bytes
push-requires-clause-room_bytes c =
    let s = c.self.inside in
    (place_and_room (record { board = s.board.value; text = s.text.value.items }) s.commands s.taken s.printed s.turn s.from s.place
    s.totals (reply_by c.args.head c.args.bytes.now) c.self.invariant.0 s.is_ready c.args.self.now c.self.view_is c.requires.fits
    c.requires.room c.self.invariant.1.room c.args.bytes.now (given_by c.args.head c.args.bytes.now c.requires.few)).1

pub behind-place-requires : goal.behind-place-requires
behind-place-requires c =
    let g = (goal.at.behind-place-requires c).After-get in
    c.self.invariant.0.at.more (command g) (there g)

pub push_command-requires-clause-replies : goal.push_command-requires-clause-replies
push_command-requires-clause-replies c = told (goal.at.push_command-requires-clause-replies c).After-get

pub overflow_add-self-inside : goal.overflow_add-self-inside
overflow_add-self-inside c =
    let g = (goal.at.overflow_add-self-inside c).After-get in
    omega (arith, (taken g).count, (taken g).within)

pub push_quiet-self-inside-requires-clause-room : goal.push_quiet-self-inside-requires-clause-room
push_quiet-self-inside-requires-clause-room c =
    let s = c.self.inside in
    let g = (goal.at.push_quiet-self-inside-requires-clause-room c).After-get in
    omega (
      arith,
      c.push_command.ensures.room,
      (room g).text,
      sum_there s.commands s.turn (command g) (there g),
      front_parts (drop (s.turn + 1) s.commands),
    )

pub invariant_of-self : goal.invariant_of-self
invariant_of-self c =
    let g = (goal.at.invariant_of-self c).After-get in (
      further g c.behind-place.result (c.behind-place.ensures c.args.bytes.now)
          (omega (arith, c.if-place-places.true, c.places.ensures.value)),
      record { room = λ yes. further_room g; untaken = still g },
      c.self.invariant.2,
    )

pub invariant_of-self-else-place-places : goal.invariant_of-self-else-place-places
invariant_of-self-else-place-places c =
    let s = c.self.inside in
    let g = (goal.at.invariant_of-self-else-place-places c).After-get in
    let quiet = c.push_quiet-self-inside in (
      over g quiet.new.out c.behind-place.result c.len-self-inside.result quiet.result (c.behind-place.ensures c.args.bytes.now)
          (omega (arith, c.if-place-places.false, c.places.ensures.value)) c.len-self-inside.ensures quiet.ensures.behind
          (quiet.ensures.bytes ∙ ap (λ (x : List ℕ). x ++ quiet_text (drop (s.turn + 1) s.commands)) c.push_command.ensures.bytes),
      record {
        room = λ yes. over_room g c.push_command.new.out quiet.new.out quiet.result c.push_command.ensures.room quiet.ensures.room
            quiet.ensures.behind;
        untaken = still g;
      },
      c.self.invariant.2,
    )

pub returns-then-place-places-clause-room : goal.returns-then-place-places-clause-room
returns-then-place-places-clause-room c =
    let s = c.self.inside in
    let g = (goal.at.returns-then-place-places-clause-room c).After-get in
    covered (script g) s.commands c.push.new.self s.printed s.turn s.from c.behind-place.result s.totals s.is_ready
    (further g c.behind-place.result (c.behind-place.ensures c.args.bytes.now)
    (omega (arith, c.if-place-places.true, c.places.ensures.value))) (further_room g) (ready g)

pub returns-else-place-places-clause-room : goal.returns-else-place-places-clause-room
returns-else-place-places-clause-room c =
    let s = c.self.inside in
    let g = (goal.at.returns-else-place-places-clause-room c).After-get in
    let quiet = c.push_quiet-self-inside in
    covered (script g) s.commands c.push.new.self quiet.new.out quiet.result c.len-self-inside.result 0 s.totals s.is_ready
    (over g quiet.new.out c.behind-place.result c.len-self-inside.result quiet.result (c.behind-place.ensures c.args.bytes.now)
    (omega (arith, c.if-place-places.false, c.places.ensures.value)) c.len-self-inside.ensures quiet.ensures.behind
    (quiet.ensures.bytes ∙ ap (λ (x : List ℕ). x ++ quiet_text (drop (s.turn + 1) s.commands)) c.push_command.ensures.bytes))
    (over_room g c.push_command.new.out quiet.new.out quiet.result c.push_command.ensures.room quiet.ensures.room
    quiet.ensures.behind) (ready g)
