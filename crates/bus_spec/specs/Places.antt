-- What stands at a place of a journal, each by a reading of its own: one sentence that a reader can follow down the lines
-- without the others. `Past` folds them together, since they need each other; a law says that the fold has each of them.
use Rattle.std.specs.Prelude.{ℕ, ◌==◌, Bool, true, false, not, ◌&&◌, List, [], ◌∷◌, Option, Some, None, if◌then◌else◌}
use Rattle.std.specs.List.{position_from, range_with_len}
use Rattle.i2c_base.specs.declared.entry.Entry.{Entry}
use Rattle.i2c_base.specs.declared.entry.Entry.TheVariants as entry
use Rattle.i2c_base.specs.declared.entry.End.{End}
use Rattle.i2c_base.specs.declared.entry.End.TheVariants as end
use Rattle.i2c_base.specs.declared.entry.Purpose.{Purpose}
use Rattle.i2c_base.specs.declared.entry.Purpose.TheVariants as purpose
use Rattle.i2c_base.specs.Board.{BoardView}
use Rattle.i2c_base.specs.Transfer.{TransferView}
use Rattle.i2c_spec.specs.Tree.{of_mux}
use Rattle.i2c_spec.specs.Chips.{opens}
use Rattle.i2c_spec.specs.Messages.{MessageView}
use Rattle.i2c_spec.specs.Conversation.{is_good}
use Rattle.i2c_spec.specs.World.{World, after_all, opening_world}
use Rattle.i2c_spec.specs.History.{Asks}
use Rattle.bus_spec.specs.Walk.{Mark, Job, Call, Act, Send, Shift, ActOutcome, Passed, Sent, Lined, Note, WalkTree, Ends, job_bus, message_of}
use Rattle.bus_spec.specs.Grammar.{first_act, first_note, rest_of}
use Rattle.bus_spec.specs.Readings.{of_message, caller_of, replies}
use Rattle.bus_spec.specs.Past.{now, current, calls_of}

-- the transfer in flight: what a caller asks for after the replies that it has settled before
abbrev pub transfer_at : Asks → List Entry → ℕ → Option TransferView
transfer_at asks past c = asks c (replies past c)

-- what came of the step that an entry is
abbrev pub outcome_of : Entry → ActOutcome
outcome_of (entry.Line c mux level failed) = Lined failed
outcome_of e = of_message Passed (λ m. Sent m.end m.bytes) e

-- what a caller's walk has left: its last entry was the next step of what was left before, and leads one step on
abbrev pub walk_left : BoardView → Asks → List Entry → ℕ → WalkTree
walk_left b asks [] c = Ends
walk_left b asks (e ∷ past) c = if c == caller_of e then rest_of (current b asks (now b asks past) c)
    (outcome_of e) else walk_left b asks past c

-- the message in flight: the one that a caller's walk sends next
abbrev pub message_sent : BoardView → Option Act → Option MessageView
message_sent b (Some (Send job left)) = Some (message_of b job left)
message_sent b act = None

abbrev pub message_at : BoardView → Asks → List Entry → ℕ → Option MessageView
message_at b asks past c = message_sent b (first_act (current b asks (now b asks past) c))

-- the world of a root: its opening one after the port calls that the entries before tell
abbrev pub world_after : BoardView → Asks → List Entry → ℕ → World
world_after b asks past r = after_all (opening_world b r) (calls_of b asks past r)

-- the first of these marks on a bus
abbrev pub mark_among : List Mark → ℕ → Option ℕ → Option ℕ
mark_among [] p old = old
mark_among (m ∷ ms) p old = if p == m.on then Some m.mux else mark_among ms p old

-- a step that switches a mux, and fails by the port, makes its marks; one that doesn't fail leaves none on its mux's bus
abbrev pub mark_after : Job → List Mark → Bool → ℕ → Option ℕ → Option ℕ
mark_after (Call bus messages) marks failed p old = old
mark_after job marks failed p old = if failed then mark_among marks p old else if p == job_bus job then None else old

abbrev pub is_cut : End → Bool
is_cut (end.Cut q) = true
is_cut e = false

abbrev pub mark_sent : Option Act → Note → Bool → ℕ → Option ℕ → Option ℕ
mark_sent (Some (Send job left)) note failed p old = mark_after job note.marks failed p old
mark_sent act note failed p old = old

abbrev pub mark_lined : Option Act → Note → Bool → ℕ → Option ℕ → Option ℕ
mark_lined (Some (Shift job)) note failed p old = mark_after job note.marks failed p old
mark_lined act note failed p old = old

abbrev pub mark_by : Option Act → Note → Entry → ℕ → Option ℕ → Option ℕ
mark_by act note (entry.Line c mux level failed) p old = mark_lined act note failed p old
mark_by act note e p old = of_message old (λ m. mark_sent act note (is_cut m.end) p old) e

-- the mark of a bus: the mux that a failed step marked there last, if no mux on that bus was switched since without failing
abbrev pub mark_left : BoardView → Asks → List Entry → ℕ → Option ℕ
mark_left b asks [] p = None
mark_left b asks (e ∷ past) p =
    mark_by (first_act (current b asks (now b asks past) (caller_of e))) (first_note (current b asks (now b asks past) (caller_of e))) e p
    (mark_left b asks past p)

-- the channel of a mux that a byte, or a level, opens by the table of its kind: the first one that is open at it
abbrev pub channel_opened : BoardView → ℕ → ℕ → Option ℕ
channel_opened b m control = of_mux (λ x. position_from (opens x.kind control) 0 (range_with_len 0 x.channels)) None b m

abbrev pub channel_written : BoardView → ℕ → List ℕ → Option ℕ
channel_written b m [] = None
channel_written b m (byte ∷ bytes) = channel_opened b m byte

-- a message that selects, deselects or closes a mux, or a step of its line
abbrev pub switches : ℕ → Purpose → Bool
switches m purpose.Call = false
switches m (purpose.Control mux) = mux == m

abbrev pub is_switch_of : ℕ → Entry → Bool
is_switch_of m (entry.Line c mux level failed) = mux == m
is_switch_of m e = of_message false (λ x. switches m x.purpose) e

-- the caller that switched a mux last
abbrev pub switched_by : List Entry → ℕ → Option ℕ
switched_by [] m = None
switched_by (e ∷ past) m = if is_switch_of m e then Some (caller_of e) else switched_by past m

-- a message to a mux opens a channel where it went through, and was no poll; a line step where it didn't fail
abbrev pub kept_told : BoardView → ℕ → Entry → Option ℕ
kept_told b m (entry.Line c mux level failed) = if failed then None else channel_opened b m level
kept_told b m e = of_message None (λ x. if is_good x.end && not x.reading then channel_written b m x.bytes else None) e

-- the channel that a mux keeps: what the last message or line step that switches it tells, by its own byte or level alone
abbrev pub kept_left : BoardView → List Entry → ℕ → Option ℕ
kept_left b [] m = None
kept_left b (e ∷ past) m = if is_switch_of m e then kept_told b m e else kept_left b past m
