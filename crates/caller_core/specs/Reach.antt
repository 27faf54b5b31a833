-- What the lines of a text may reach by force, and which sensors they write, by the words of each line alone.
use Rattle.std.specs.Prelude.{◌≡◌, ℕ, ◌<◌, ◌==◌, Bool, true, false, ◌&&◌, ◌||◌, List, [], ◌∷◌, ◌++◌, map, filter_map, slice_get, Option, Some, None, Result, Ok, Err}
use Rattle.std.specs.List.{list_any}
use Rattle.std.specs.Option.{option_map_or}
use Rattle.i2c_base.specs.Board.{BoardView, DeviceView}
use Rattle.i2c_spec.specs.Flat.{block_limit}
use Rattle.tools.specs.Lines.{line_read}
use Rattle.tools.specs.Splits.{lines_of}
use Rattle.tools.specs.declared.lists.Desc.{Desc}
use Rattle.tools.specs.declared.command.Cmd.{Cmd}
use Rattle.tools.specs.declared.command.Cmd.TheVariants as cmd
use Rattle.tools.specs.declared.command.ToolCmd.{ToolCmd}
use Rattle.tools.specs.declared.command.ToolCmd.TheVariants as tool
use Rattle.tools.specs.declared.command.driver.DriverCmd.TheVariants as driver
use Rattle.tools.specs.declared.command.handle.HandleCmd.{HandleCmd}
use Rattle.tools.specs.declared.command.handle.HandleCmd.TheVariants as handle
use Rattle.caller_core.specs.View.{ScriptView}
use Rattle.caller_core.specs.declared.reach.Reach.{Reach}

-- ---- the commands of a text: of its lines, those that are in the grammar and aren't empty

abbrev pub command_in : Result (Option Cmd) ℕ → Option Cmd
command_in (Ok o) = o
command_in (Err word) = None

abbrev pub commands_of_lines : BoardView → List (List ℕ) → List Cmd
commands_of_lines b ls = filter_map (λ l. command_in (line_read (block_limit b) l)) ls

abbrev pub commands_in : BoardView → List ℕ → List Cmd
commands_in b text = commands_of_lines b (lines_of text)

-- ---- the addresses that a line may reach by force: those of a line with -f, of a `force` line, and of an `rdwr` line

abbrev pub addrs_of : List Desc → List ℕ
addrs_of ms = map (λ (m : Desc). m.addr) ms

abbrev pub forced_if : Bool → List ℕ → List ℕ
forced_if true addrs = addrs
forced_if false addrs = []

abbrev pub forced_by_tool : ToolCmd → List ℕ
forced_by_tool (tool.Get g) = forced_if g.force (g.addr ∷ [])
forced_by_tool (tool.Set s) = forced_if s.force (s.addr ∷ [])
forced_by_tool (tool.Combined c) = forced_if c.force (addrs_of c.messages)
forced_by_tool (tool.Dump d) = forced_if d.force (d.addr ∷ [])
forced_by_tool tool.List = []
forced_by_tool (tool.Detect d) = []

abbrev pub forced_by_handle : HandleCmd → List ℕ
forced_by_handle (handle.Open bus) = []
forced_by_handle (handle.Slave h addr force) = forced_if force (addr ∷ [])
forced_by_handle (handle.Pec h on) = []
forced_by_handle (handle.Read h n) = []
forced_by_handle (handle.Write h bytes) = []
forced_by_handle (handle.Rdwr h ms) = addrs_of ms
forced_by_handle (handle.Proc h reg word) = []
forced_by_handle (handle.Bproc h reg bytes) = []
forced_by_handle (handle.Close h) = []

-- the drivers' lines force their transfers, and name their device by its very bus
abbrev pub forced_by : Cmd → List ℕ
forced_by (cmd.Tool t) = forced_by_tool t
forced_by (cmd.Handle h) = forced_by_handle h
forced_by (cmd.Driver d) = []

abbrev pub is_forced_by : Cmd → ℕ → Bool
is_forced_by c addr = list_any (λ a. a == addr) (forced_by c)

abbrev pub is_forced_in : BoardView → ℕ → List ℕ → Bool
is_forced_in b addr text = list_any (λ c. is_forced_by c addr) (commands_in b text)

-- ---- `lm75 write` lines

abbrev pub is_write_to : (bus addr : ℕ) → Cmd → Bool
is_write_to bus addr (cmd.Driver (driver.Lm75Write w)) = (w.bus == bus) && (w.addr == addr)
is_write_to bus addr c = false

abbrev pub writes_in : BoardView → (bus addr : ℕ) → List ℕ → Bool
writes_in b bus addr text = list_any (is_write_to bus addr) (commands_in b text)

-- ---- what is kept of it

-- the commands reach by force just the addresses that are marked, and write just the devices of the board that are
pub record HasReach (b : BoardView) (cs : List Cmd) (reach : Reach) : Type 0 where
  pub forced : (addr : ℕ) → addr < 128 → slice_get reach.forced addr ≡ Some (list_any (λ c. is_forced_by c addr) cs)
  pub written : (d : ℕ) (v : DeviceView) → slice_get b.devices d ≡ Some v
      → slice_get reach.written d ≡ Some (list_any (is_write_to v.bus v.addr) cs)

-- .. those of a script's text
abbrev pub IsReachOf : ScriptView → Reach → Type 0
IsReachOf s reach = HasReach s.board (commands_in s.board s.text) reach

-- ---- how it is gathered

-- each mark is as it was, or set where it is told to be
abbrev pub AreMarked : (ℕ → Bool) → List Bool → List Bool → Type 0
AreMarked told old new = (i : ℕ) (x : Bool) → slice_get old i ≡ Some x → slice_get new i ≡ Some (x || told i)

-- the device of this number stands at an address of a bus
abbrev pub stands_at : BoardView → (bus addr : ℕ) → ℕ → Bool
stands_at b bus addr d = option_map_or (λ (v : DeviceView). (bus == v.bus) && (addr == v.addr)) (slice_get b.devices d) false

-- .. and is written by a command
abbrev pub writes_device : BoardView → Cmd → ℕ → Bool
writes_device b c d = option_map_or (λ (v : DeviceView). is_write_to v.bus v.addr c) (slice_get b.devices d) false

-- whatever commands came before it, a line adds its own, if it is one
pub record HasReachedOn (b : BoardView) (line : List ℕ) (old new : Reach) : Type 0 where
  pub goes_on : (cs : List Cmd) → HasReach b cs old → HasReach b (cs ++ commands_of_lines b (line ∷ [])) new
