-- i2cget: its line, and the SMBus calls of its mode (i2c-tools, i2cget(8); SMBus 3.2, section 6.5).
use Rattle.std.specs.Prelude.{ℕ, ◌^◌, ◌<◌, ◌≤◌, Bool, true, false, unwrap_or, Option, Some, None, IfSome, if◌then◌else◌, codes, refl}
use Rattle.std.specs.Str.{bytes_eq}
use Rattle.i2c_base.specs.Addr.{IsTargetAddress}
use Rattle.i2c_base.specs.Limits.{I2C_BLOCK_LIMIT}
use Rattle.tools.specs.Grammars.{Class, Grammar, ends, class, maybe}
use Rattle.tools.specs.LineSets.{Word}
use Rattle.tools.specs.Numbers.{number_in}
use Rattle.tools.specs.Options.{bus_number, address, byte, force_and_yes}
use Rattle.tools.specs.declared.command.Cmd.{Cmd}
use Rattle.tools.specs.declared.command.Cmd.TheVariants.{Tool}
use Rattle.tools.specs.declared.command.ToolCmd.TheVariants as tool
use Rattle.tools.specs.declared.command.get.Get.{Get}
use Rattle.tools.specs.declared.command.get.GetMode.{GetMode}
use Rattle.tools.specs.declared.command.get.GetMode.TheVariants as mode
use Rattle.tools.specs.declared.run.ToolRun.{ToolRun}
use Rattle.tools.specs.declared.run.ToolRun.TheVariants as run
use Rattle.tools.specs.declared.run.call.Callee.{Callee}
use Rattle.tools.specs.declared.run.call.HeldOp.{HeldOp}
use Rattle.tools.specs.declared.run.call.HeldOp.TheVariants as held

-- ---- its line: i2cget [-f] -y BUS ADDR [REG [MODE [LEN]]]

-- MODE, and whether with an error code; a block of `i` has none
abbrev pub mode_named : Word → Option (GetMode × Bool)
mode_named w =
    if bytes_eq w (codes "b") then Some (mode.Byte, false)
    else if bytes_eq w (codes "w") then Some (mode.Word, false)
    else if bytes_eq w (codes "c") then Some (mode.SendReceive, false)
    else if bytes_eq w (codes "s") then Some (mode.Block, false)
    else if bytes_eq w (codes "i") then Some (mode.I2cBlock, false)
    else if bytes_eq w (codes "bp") then Some (mode.Byte, true)
    else if bytes_eq w (codes "wp") then Some (mode.Word, true)
    else if bytes_eq w (codes "cp") then Some (mode.SendReceive, true)
    else if bytes_eq w (codes "sp") then Some (mode.Block, true)
    else None

abbrev pub get_mode : Class (GetMode × Bool)
get_mode = record { of = mode_named; sample = codes "b"; means = (mode.Byte, false); fits = refl }

-- LEN
abbrev pub block_len : Class ℕ
block_len = record { of = number_in 1 I2C_BLOCK_LIMIT; sample = codes "1"; means = 1; fits = refl }

module _ (force : Bool) (bus addr : ℕ) where
  abbrev pub got : Option ℕ → Option GetMode → Bool → Option ℕ → Cmd
  got reg m pec len = Tool (tool.Get (record { force = force; bus = bus; addr = addr; reg = reg; mode = m; pec = pec; len = len }))

  -- LEN stands behind `i` alone
  unfoldable pub get_len : ℕ → GetMode × Bool → Grammar Cmd
  get_len reg (mode.I2cBlock, false) =
      maybe (got (Some reg) (Some mode.I2cBlock) false None)
      (class block_len (λ len. ends (got (Some reg) (Some mode.I2cBlock) false (Some len))))
  get_len reg (m, pec) = ends (got (Some reg) (Some m) pec None)

  -- REG [MODE [LEN]], if any
  unfoldable pub get_reg : Grammar Cmd
  get_reg = maybe (got None None false None) (class byte (λ reg. maybe (got (Some reg) None false None) (class get_mode (get_len reg))))

-- BUS ADDR, and what follows them
unfoldable pub get_bus : Bool → Grammar Cmd
get_bus force = class bus_number (λ bus. class address (get_reg force bus))

-- what follows the first word
unfoldable pub get_words : Grammar Cmd
get_words = force_and_yes get_bus

-- each field of the command is in its range
pub record IsGetInRange (g : Get) : Type 0 where
  pub bus : g.bus < 2 ^ 16
  pub addr : IsTargetAddress g.addr
  pub reg : IfSome g.reg (λ r. r < 2 ^ 8)
  pub len : IfSome g.len (λ n. (1 ≤ n) × (n ≤ I2C_BLOCK_LIMIT))

-- ---- how it runs

-- no MODE is `b`, and no LEN is the most
abbrev pub mode_of_get : Get → GetMode
mode_of_get g = unwrap_or g.mode mode.Byte

abbrev pub len_of : Get → ℕ
len_of g = unwrap_or g.len I2C_BLOCK_LIMIT

-- to whom its calls go
abbrev pub get_callee : Get → Callee
get_callee g = record { bus = g.bus; addr = g.addr; force = g.force; pec = g.pec }

abbrev pub get_call : Get → HeldOp → ToolRun
get_call g o = run.Calls (record { to = get_callee g; op = o })

-- a register is read by the call of its mode; `c` sends its number, and then receives a byte
abbrev pub register_run : Get → ℕ → GetMode → ToolRun
register_run g reg mode.Byte = get_call g (held.ReadByte reg)
register_run g reg mode.Word = get_call g (held.ReadWord reg)
register_run g reg mode.SendReceive = run.Chains (record { to = get_callee g; sent = reg })
register_run g reg mode.Block = get_call g (held.BlockRead reg)
register_run g reg mode.I2cBlock = get_call g (held.I2cBlockRead reg (len_of g))

-- without a register the next byte is received
abbrev pub run_by : Get → Option ℕ → ToolRun
run_by g None = get_call g held.ReceiveByte
run_by g (Some reg) = register_run g reg (mode_of_get g)

abbrev pub get_run : Get → ToolRun
get_run g = run_by g g.reg
