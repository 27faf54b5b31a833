-- The journal that callers make, step by step: the entry that a caller adds next is determined by where everything
-- stands and by which calls of the ports fail. Worked rows are computed by it.
use Rattle.std.specs.Prelude.{ℕ, zero, suc, ◌+◌, ◌==◌, Bool, false, List, [], ◌∷◌, length, Option, Some, None, if◌then◌else◌, slice_get, reverse}
use Rattle.std.specs.List.{range_with_len, find}
use Rattle.i2c_base.specs.declared.ids.Node.{Node}
use Rattle.i2c_base.specs.declared.entry.Entry.{Entry}
use Rattle.i2c_base.specs.declared.entry.Entry.TheVariants as entry
use Rattle.i2c_base.specs.declared.entry.End.{End}
use Rattle.i2c_base.specs.declared.entry.End.TheVariants as end
use Rattle.i2c_base.specs.Board.{BoardView}
use Rattle.i2c_base.specs.Transfer.{TransferView}
use Rattle.i2c_spec.specs.Tree.{root_of}
use Rattle.i2c_spec.specs.World.{World, hearers}
use Rattle.i2c_spec.specs.Conversation.{TalkTold, talk, world_listener}
use Rattle.i2c_spec.specs.Flat.{block_limit}
use Rattle.i2c_spec.specs.History.{Asks}
use Rattle.bus_spec.specs.Walk.{Job, Act, Take, Free, Send, Shift, Settle, job_bus, job_purpose, part_of, parts_of, message_of, is_last, line_mux, line_level}
use Rattle.bus_spec.specs.Grammar.{first_act}
use Rattle.bus_spec.specs.Past.{Now, opening, current, step}
use Rattle.bus_spec.specs.Stepwise.{reply_by}

-- which calls of which root's port fail, by their numbers from 0
abbrev pub Failing : Type 0
Failing = ℕ → ℕ → Bool

abbrev pub none_fails : Failing
none_fails r k = false

abbrev pub fails_at : ℕ → ℕ → Failing
fails_at root call r k = if r == root then k == call else false

-- the first failing call of so many that a message would make after those that were made before
abbrev pub first_failing : (ℕ → Bool) → ℕ → ℕ → Option ℕ
first_failing fails made calls = find (λ i. fails (made + i)) (range_with_len 0 calls)

abbrev pub talk_in : BoardView → World → Job → ℕ → Option ℕ → TalkTold World
talk_in b w job left cut = talk world_listener (block_limit b) w (message_of b job left) (is_last job left) cut

-- which of its calls that is, for the message of a job that comes next
abbrev pub next_failing : BoardView → Failing → Now → Job → ℕ → Option ℕ
next_failing b fails n job left =
    first_failing (fails (root_of b (job_bus job))) (length (n.calls (root_of b (job_bus job))))
    (length (talk_in b (n.worlds (root_of b (job_bus job))) job left None).calls)

abbrev pub played_talk : BoardView → Failing → Now → Job → ℕ → TalkTold World
played_talk b fails n job left = talk_in b (n.worlds (root_of b (job_bus job))) job left (next_failing b fails n job left)

abbrev pub heard_in : List Node → End → Option Node
heard_in xs (end.Cut zero) = None
heard_in xs (end.Cut (suc q)) = slice_get xs 0
heard_in xs end.Ok = slice_get xs 0
heard_in xs end.Nack = slice_get xs 0
heard_in xs end.Slow = slice_get xs 0
heard_in xs end.Refused = slice_get xs 0
heard_in xs end.Proto = slice_get xs 0

abbrev pub message_entry : BoardView → Now → ℕ → Job → ℕ → TalkTold World → Entry
message_entry b n c job left t =
    entry.Message c (job_bus job) (job_purpose job) (part_of job left) (parts_of job) (message_of b job left).addr
    (message_of b job left).reading
    t.bytes (heard_in (hearers (n.worlds (root_of b (job_bus job))) (message_of b job left).addr (message_of b job left).reading) t.end)
    t.end

-- a lock that someone has is waited for
abbrev pub take_if : Option ℕ → Entry → Option Entry
take_if None e = Some e
take_if (Some c) e = None

abbrev pub entry_by : BoardView → Asks → Failing → Now → ℕ → Option Act → Option Entry
entry_by b asks fails n c None = None
entry_by b asks fails n c (Some (Take l)) = take_if (n.holder l) (entry.Take c l)
entry_by b asks fails n c (Some (Free l)) = Some (entry.Free c l)
entry_by b asks fails n c (Some (Send job left)) = Some (message_entry b n c job left (played_talk b fails n job left))
entry_by b asks fails n c (Some (Shift job)) =
    Some (entry.Line c (line_mux job) (line_level job) (fails (root_of b (job_bus job)) (length (n.calls (root_of b (job_bus job))))))
entry_by b asks fails n c (Some (Settle verdict)) =
    Some (entry.Settle c (reply_by verdict (asks c (n.settled c)) (n.got c)) (n.cut c))

abbrev pub next_entry : BoardView → Asks → Failing → Now → ℕ → Option Entry
next_entry b asks fails n c = entry_by b asks fails n c (first_act (current b asks n c))

-- a journal so far, newest entry first, and where everything stands after it
pub record Played : Type 0 where
  pub past : List Entry
  pub now : Now

abbrev pub add : BoardView → Asks → Option Entry → Played → Played
add b asks None p = p
add b asks (Some e) p = record { past = e ∷ p.past; now = step b asks p.now e }

-- a settle that is due belongs to the step of the message or line before it
abbrev pub add_due : BoardView → Asks → Failing → Option ℕ → Played → Played
add_due b asks fails None p = p
add_due b asks fails (Some c) p = add b asks (next_entry b asks fails p.now c) p

abbrev pub settle_due : BoardView → Asks → Failing → Played → Played
settle_due b asks fails p = add_due b asks fails p.now.due p

abbrev pub play_one : BoardView → Asks → Failing → ℕ → Played → Played
play_one b asks fails c p = settle_due b asks fails (add b asks (next_entry b asks fails p.now c) p)

-- each of these callers in turn makes a step where it can
abbrev pub play : BoardView → Asks → Failing → List ℕ → Played → Played
play b asks fails [] p = p
play b asks fails (c ∷ cs) p = play b asks fails cs (play_one b asks fails c p)

-- the journal, in order
abbrev pub played : BoardView → Asks → Failing → List ℕ → List Entry
played b asks fails words = reverse (play b asks fails words (record { past = []; now = opening b })).past

-- callers that ask for the transfers of a list, whatever they are answered
abbrev pub transfers_of : List (List TransferView) → Asks
transfers_of scripts c rs = transfer_at (slice_get scripts c) (length rs)
  where
    transfer_at : Option (List TransferView) → ℕ → Option TransferView
    transfer_at None i = None
    transfer_at (Some ts) i = slice_get ts i
