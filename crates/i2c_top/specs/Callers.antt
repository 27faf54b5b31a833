-- A run of callers of any type, by what each was opened with: what they ask for and print, when they may run, and what their run
-- comes to.
use Rattle.std.specs.Prelude.{◌≡◌, ℕ, ◌<◌, List, [], length, map, reverse, All, slice_get, Option, Some, None}
use Rattle.std.specs.List.{range_with_len, sum_by}
use Rattle.std.specs.Option.{option_map_or}
use Rattle.i2c_base.specs.declared.caller.Caller.{Ghosts as CallerGhosts}
use Rattle.i2c_base.specs.declared.entry.Entry.{Entry}
use Rattle.i2c_base.specs.declared.port.PortCall.{PortCall}
use Rattle.i2c_base.specs.declared.reply.Reply.{Reply}
use Rattle.i2c_base.specs.Board.{BoardView}
use Rattle.i2c_base.specs.Transfer.{TransferView}
use Rattle.i2c_spec.specs.Plain.{IsPlainBoard}
use Rattle.i2c_spec.specs.Rules.{MeetsRules}
use Rattle.i2c_spec.specs.Targets.{TargetState}
use Rattle.i2c_spec.specs.World.{World}
use Rattle.i2c_spec.specs.History.{Asks}
use Rattle.bus_spec.specs.Past.{now, world_at, calls_of}
use Rattle.bus_spec.specs.Walk.{Ends}
use Rattle.bus_spec.specs.Ruled.{IsRuled, IsThrough}
use Rattle.bus_spec.specs.Stand.{calls_by}
use Rattle.bus_spec.specs.Stepwise.{IsStepwise}
use Rattle.bus_spec.specs.Schedule.{Follows}
use Rattle.bus_spec.specs.Report.{report_of}
use Rattle.bus_journal.specs.Ranges.{IsEntry}
use Rattle.bus_core.specs.declared.bus.ClosedCore.{ClosedCore}
use Rattle.bus_core.specs.declared.seat.Seat.{Seat}
use Rattle.i2c_top.specs.Faults.{AreCounted}

-- what a caller asks for, by what each was opened with, which stands at its number; nobody has another number
abbrev pub asks_in : {S : Type 0} → (S → List Reply → Option TransferView) → List S → Asks
asks_in asked scripts c replies = option_map_or (λ s. asked s replies) (slice_get scripts c) None

-- what it prints after these replies
abbrev pub printed_in : {S : Type 0} → (S → List Reply → List ℕ) → List S → ℕ → List Reply → List ℕ
printed_in printed scripts c replies = option_map_or (λ s. printed s replies) (slice_get scripts c) []

-- what callers were opened with
abbrev pub scripts_in : {C S : Type 0} → CallerGhosts C S → List C → List S
scripts_in k callers = map k.script callers

-- callers that are opened over a board and have taken nothing
abbrev pub AreReady : {C S : Type 0} → CallerGhosts C S → BoardView → List C → Type 0
AreReady k b callers = All (λ s. (k.board (k.script s) ≡ b) × (k.taken s ≡ [])) callers

-- at most so many steps are left of all
abbrev pub left_in : {C S : Type 0} → CallerGhosts C S → List C → ℕ
left_in k callers = sum_by (λ s. k.left (k.script s) []) callers

-- the callers of a core that was taken apart, in the order of their seats
abbrev pub callers_in : {P C : Type 0} → ClosedCore P C → List C
callers_in parts = map (λ (s : Seat _). s.caller) parts.seats.items

-- the callers of a run that is over, on an accepted board, the worlds and the logs of its ports, and its journal, which was
-- stepwise for at least so many callers
pub record IsOver {C S : Type 0} (k : CallerGhosts C S) (b : BoardView) (callers : List C) (many : ℕ) (journal : List Entry)
    (worlds : List World) (logs : List (List PortCall)) : Type 0 where
  pub plain : IsPlainBoard b
  pub rules : MeetsRules b
  pub stepwise : IsStepwise b many (asks_in k.asked (scripts_in k callers)) (reverse journal)
  pub rests : (now b (asks_in k.asked (scripts_in k callers)) (reverse journal)).due ≡ None
  pub taken : (c : ℕ) (s : C) → slice_get callers c ≡ Some s
      → k.taken s ≡ (now b (asks_in k.asked (scripts_in k callers)) (reverse journal)).settled c
  pub ended : (c : ℕ) (s : C) → slice_get callers c ≡ Some s
      → (now b (asks_in k.asked (scripts_in k callers)) (reverse journal)).walk c ≡ Ends
  pub done : (c : ℕ) (s : C) → slice_get callers c ≡ Some s → k.asked (k.script s) (k.taken s) ≡ None
  pub worlds_count : length worlds ≡ length b.roots
  pub world : (r : ℕ) → r < length b.roots → slice_get worlds r ≡ Some (world_at b (asks_in k.asked (scripts_in k callers)) (reverse journal) r)
  pub logs_count : length logs ≡ length b.roots
  pub log : (r : ℕ) → r < length b.roots → slice_get logs r ≡ Some (calls_of b (asks_in k.asked (scripts_in k callers)) (reverse journal) r)

-- over an accepted board the fields of this journal of so many callers, the oldest entry first, are in range; it is legal and complete;
-- these are the calls of its ports, which counted those that failed, and the devices that the flat world is left with
pub record IsRunBy (b : BoardView) (callers : ℕ) (asks : Asks) (logs : List (List PortCall)) (states : List TargetState)
    (counts : List ℕ) (journal : List Entry) : Type 0 where
  pub plain : IsPlainBoard b
  pub rules : MeetsRules b
  pub in_range : All IsEntry journal
  pub legal : IsRuled b callers asks (reverse journal)
  pub complete : IsThrough callers asks (reverse journal)
  pub called : logs ≡ map (calls_by b legal.deeds (reverse journal)) (range_with_len 0 (length b.roots))
  pub faults : AreCounted b logs counts
  pub left : states ≡ legal.replies_kept.told.states

-- there is such a journal, which keeps an order, and these bytes are its report
pub record HasRunBy (b : BoardView) (callers : ℕ) (asks : Asks) (printed : ℕ → List Reply → List ℕ) (keeps : List Entry → Type 0)
    (bytes : List ℕ) (logs : List (List PortCall)) (states : List TargetState) (counts : List ℕ) : Type 0 where
  pub journal : List Entry
  pub is_told : bytes ≡ report_of printed callers journal
  pub is_run : IsRunBy b callers asks logs states counts journal
  pub ordered : keeps journal

-- .. of callers that were opened with these, and followed the schedule
abbrev pub HasRunOfAny : {S : Type 0} → (S → List Reply → Option TransferView) → (S → List Reply → List ℕ) → BoardView → List S
    → (words bytes : List ℕ) → List (List PortCall) → List TargetState → List ℕ → Type 0
HasRunOfAny asked printed b scripts words bytes logs states counts =
    HasRunBy b (length scripts) (asks_in asked scripts) (printed_in printed scripts) (Follows words) bytes logs states counts
