-- What the callers have spent at a place of a journal, in its entries, in their bytes and in calls of the ports; and what
-- their transfers cost.
use Rattle.std.specs.Prelude.{◌≡◌, ℕ, zero, suc, ◌+◌, ◌*◌, ◌≤◌, ◌==◌, List, [], ◌∷◌, ◌++◌, length, reverse, Option, Some, None, if◌then◌else◌}
use Rattle.std.specs.Option.{option_map_or}
use Rattle.i2c_base.specs.declared.entry.Entry.{Entry}
use Rattle.i2c_base.specs.declared.entry.Entry.TheVariants as entry
use Rattle.i2c_base.specs.declared.reply.Reply.{Reply}
use Rattle.i2c_base.specs.Board.{BoardView}
use Rattle.i2c_base.specs.Fitting.{Fits}
use Rattle.i2c_base.specs.Transfer.{TransferView}
use Rattle.i2c_spec.specs.History.{Asks}
use Rattle.i2c_spec.specs.Cost.{cost_of}
use Rattle.bus_spec.specs.Walk.{Act, Take, Free, Send, Shift, Settle}
use Rattle.bus_spec.specs.Grammar.{is_over, first_act}
use Rattle.bus_spec.specs.Readings.{of_message, caller_of, Everywhere}
use Rattle.bus_spec.specs.Past.{Now, current, now, calls_of, talk_of}
use Rattle.bus_spec.specs.Places.{transfer_at}
use Rattle.bus_spec.specs.Schedule.{turns}
use Rattle.i2c_base.specs.Need.{bytes_given}

-- the bytes of an entry: of its message, or of the reply that it settles
abbrev pub bytes_in : Entry → List ℕ
bytes_in (entry.Settle c r cut) = bytes_given r
bytes_in e = of_message [] (λ m. m.bytes) e

-- the calls of a port that an entry tells: those of a message's conversation, one for a line step
abbrev pub calls_for : BoardView → Now → Option Act → Entry → ℕ
calls_for b n (Some (Send job left)) e = of_message 0 (λ m. length (talk_of b n job left m.end).calls) e
calls_for b n (Some (Shift job)) e = 1
calls_for b n None e = 0
calls_for b n (Some (Take l)) e = 0
calls_for b n (Some (Free l)) e = 0
calls_for b n (Some (Settle verdict)) e = 0

-- so much is counted of an entry after this past
abbrev pub Count : Type 0
Count = Entry → List Entry → ℕ

abbrev pub one_entry : Count
one_entry e before = 1

abbrev pub its_bytes : Count
its_bytes e before = length (bytes_in e)

abbrev pub its_calls : BoardView → Asks → Count
its_calls b asks e before = calls_for b (now b asks before) (first_act (current b asks (now b asks before) (caller_of e))) e

-- of all entries of a caller together
abbrev pub of_caller : Count → List Entry → ℕ → ℕ
of_caller f [] c = 0
of_caller f (e ∷ past) c = (if caller_of e == c then f e past else 0) + of_caller f past c

-- of those of its last walk alone: a walk begins with the entry before which none was under way
abbrev pub of_walk : BoardView → Asks → Count → List Entry → ℕ → ℕ
of_walk b asks f [] c = 0
of_walk b asks f (e ∷ past) c =
    if caller_of e == c then f e past +
    (if is_over ((now b asks past).walk c) then 0 else of_walk b asks f past c) else of_walk b asks f past c

-- and the transfer that this walk is of
abbrev pub whose_walk : BoardView → Asks → List Entry → ℕ → Option TransferView
whose_walk b asks [] c = None
whose_walk b asks (e ∷ past) c =
    if caller_of e == c then (if is_over ((now b asks past).walk c) then transfer_at asks past c else whose_walk b asks past c) else
    whose_walk b asks past c

-- so many entries are no more than a cost, and their bytes and calls no more than twice that
pub record IsWithinCost (cost entries bytes calls : ℕ) : Type 0 where
  pub entries_within : entries ≤ cost
  pub bytes_within : bytes ≤ 2 * cost
  pub calls_within : calls ≤ 2 * cost

-- what the transfers cost that a caller asks for, one after each of these replies and one behind the last
abbrev pub cost_at : BoardView → (List Reply → Option TransferView) → List Reply → ℕ
cost_at b asks rs = option_map_or (cost_of b) (asks rs) 0

abbrev pub cost_from : BoardView → (List Reply → Option TransferView) → List Reply → List Reply → ℕ
cost_from b asks rs [] = cost_at b asks rs
cost_from b asks rs (r ∷ more) = cost_at b asks rs + cost_from b asks (rs ++ r ∷ []) more

-- each reply is one that the transfer may get which its caller asked for
abbrev pub FitsAt : Asks → Entry → List Entry → Type 0
FitsAt asks (entry.Settle c r cut) past = (t : TransferView) → transfer_at asks past c ≡ Some t → Fits t r
FitsAt asks e past = Unit {0}

abbrev pub KeepsFits : Asks → List Entry → Type 0
KeepsFits asks past = Everywhere (FitsAt asks) past

-- a caller's own bound on what it has left covers each transfer's cost, and falls by it with the reply
abbrev pub CoversCosts : BoardView → (List Reply → Option TransferView) → (List Reply → ℕ) → Type 0
CoversCosts b asks left = (rs : List Reply) (t : TransferView) (r : Reply) → asks rs ≡ Some t → Fits t r
    → left (rs ++ r ∷ []) + cost_of b t ≤ left rs

-- the sum of what the callers below this number have
abbrev pub sum_below : ℕ → (ℕ → ℕ) → ℕ
sum_below zero f = 0
sum_below (suc n) f = f n + sum_below n f

-- the bytes of all entries together
abbrev pub all_bytes : List Entry → ℕ
all_bytes [] = 0
all_bytes (e ∷ past) = length (bytes_in e) + all_bytes past

-- the steps of the schedule are no more than this, among them the lone settle of a refused transfer; nor are the entries;
-- their bytes, and the calls of each port, are no more than twice as many
pub record AreWithin (b : BoardView) (asks : Asks) (past : List Entry) (most : ℕ) : Type 0 where
  pub steps_within : length (turns (reverse past)) ≤ most
  pub entries_within : length past ≤ most
  pub bytes_within : all_bytes past ≤ 2 * most
  pub calls_within : (r : ℕ) → length (calls_of b asks past r) ≤ 2 * most
