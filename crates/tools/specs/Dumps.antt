-- i2cdump: its line (i2c-tools, i2cdump(8)).
use Rattle.std.specs.Prelude.{⊤, ◌≡◌, ℕ, zero, suc, ◌^◌, ◌<◌, ◌≤◌, ◌==◌, nat_le, Bool, true, false, not, ◌&&◌, unwrap_or, is_some, Option, Some, None, option_and_then, if◌then◌else◌, codes, refl}
use Rattle.std.specs.Str.{bytes_eq}
use Rattle.i2c_base.specs.Addr.{IsTargetAddress}
use Rattle.tools.specs.Grammars.{Class, Grammar, ends, word, word_or, class, maybe}
use Rattle.tools.specs.LineSets.{Word}
use Rattle.tools.specs.Numbers.{number_in}
use Rattle.tools.specs.Options.{bus_number, address}
use Rattle.tools.specs.Words.{before_gap, behind_gap}
use Rattle.tools.specs.declared.command.Cmd.{Cmd}
use Rattle.tools.specs.declared.command.Cmd.TheVariants.{Tool}
use Rattle.tools.specs.declared.command.ToolCmd.TheVariants as tool
use Rattle.tools.specs.declared.command.dump.Dump.{Dump}
use Rattle.tools.specs.declared.command.dump.DumpMode.{DumpMode}
use Rattle.tools.specs.declared.command.dump.DumpMode.TheVariants as mode
use Rattle.tools.specs.declared.command.dump.DumpOptions.{DumpOptions}

-- ---- i2cdump [-f] -y [-r FIRST-LAST] BUS ADDR [MODE]

-- `-`
abbrev pub is_dash : ℕ → Bool
is_dash b = b == 45

-- FIRST-LAST
abbrev pub range_with : Option ℕ → Option ℕ → Option (ℕ × ℕ)
range_with (Some first) (Some last) = if nat_le first last then Some (first, last) else None
range_with (Some first) None = None
range_with None last = None

abbrev pub range_of : Word → Option (ℕ × ℕ)
range_of w = range_with (number_in 0 255 (before_gap is_dash w)) (option_and_then (number_in 0 255) (behind_gap is_dash w))

abbrev pub range_word : Class (ℕ × ℕ)
range_word = record { of = range_of; sample = codes "0-0"; means = (0, 0); fits = refl }

-- MODE, and whether with an error code; blocks of `i` have none, and no range
abbrev pub dump_mode : (ranged : Bool) → Word → Option (DumpMode × Bool)
dump_mode ranged w =
    if bytes_eq w (codes "b") then Some (mode.Byte, false)
    else if bytes_eq w (codes "w") then Some (mode.Word, false)
    else if bytes_eq w (codes "c") then Some (mode.Receive, false)
    else if bytes_eq w (codes "bp") then Some (mode.Byte, true)
    else if bytes_eq w (codes "wp") then Some (mode.Word, true)
    else if bytes_eq w (codes "cp") then Some (mode.Receive, true)
    else if not ranged && bytes_eq w (codes "i") then Some (mode.I2cBlock, false)
    else None

abbrev pub dump_mode_word : (ranged : Bool) → Class (DumpMode × Bool)
dump_mode_word ranged = record { of = dump_mode ranged; sample = codes "b"; means = (mode.Byte, false); fits = refl }

-- without a range all registers are read
abbrev pub range_or_all : Option (ℕ × ℕ) → ℕ × ℕ
range_or_all r = unwrap_or r (0, 255)

module _ (o : DumpOptions) (bus addr : ℕ) where
  abbrev pub dumped : DumpMode × Bool → Cmd
  dumped m = Tool (tool.Dump (record {
    force = o.force;
    bus = bus;
    addr = addr;
    first = (range_or_all o.range).0;
    last = (range_or_all o.range).1;
    mode = m.0;
    pec = m.1;
  }))

  -- MODE, if any; without it each register is read as a byte
  unfoldable pub dump_tail : Grammar Cmd
  dump_tail = maybe (dumped (mode.Byte, false)) (class (dump_mode_word (is_some o.range)) (λ m. ends (dumped m)))

-- BUS ADDR, and what follows them
unfoldable pub dump_bus : DumpOptions → Grammar Cmd
dump_bus o = class bus_number (λ bus. class address (dump_tail o bus))

-- an option that has been given doesn't come again
abbrev pub unless : {A : Type 0} → Bool → Word → Grammar A → Grammar A → Grammar A
unless true text g h = h
unless false text g h = word_or text g h

-- where `-y` has come the one follows, and else the other
abbrev pub by_yes : {A : Type 0} → Bool → Grammar A → Grammar A → Grammar A
by_yes true g h = g
by_yes false g h = h

-- at most so many further options, in any order, of which `-y` must come, and what follows them
unfoldable pub dump_options : ℕ → DumpOptions → Grammar Cmd
dump_options zero o = dump_bus o
dump_options (suc n) o =
    unless o.force (codes "-f") (dump_options n (record o { force = true }))
    (unless (is_some o.range) (codes "-r") (class range_word (λ r. dump_options n (record o { range = Some r })))
    (by_yes o.yes (dump_bus o) (word (codes "-y") (dump_options n (record o { yes = true })))))

-- what follows the first word
unfoldable pub dump_words : Grammar Cmd
dump_words = dump_options 3 (record { force = false; yes = false; range = None })

-- ---- the range of what it means

-- blocks are of all registers
abbrev pub IsWhole : DumpMode → (first last : ℕ) → Type 0
IsWhole mode.Byte first last = ⊤
IsWhole mode.Word first last = ⊤
IsWhole mode.Receive first last = ⊤
IsWhole mode.I2cBlock first last = (first ≡ 0) × (last ≡ 255)

-- each field of the command is in its range
pub record IsDumpInRange (d : Dump) : Type 0 where
  pub bus : d.bus < 2 ^ 16
  pub addr : IsTargetAddress d.addr
  pub order : d.first ≤ d.last
  pub last : d.last ≤ 255
  pub whole : IsWhole d.mode d.first d.last
