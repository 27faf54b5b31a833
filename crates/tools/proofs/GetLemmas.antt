-- i2cget: what its line means is in range, and how long it is; its calls are within the limits, and what it prints is a line.
use Rattle.tools.proofs.Cited.{ℕ, ◌^◌, ◌<◌, ◌≤◌, Bool, false, Option, Some, None, arith, IfSome, IsTargetAddress, IsByte, IsBlockLength}
use Rattle.tools.proofs.Cited.{IsInRange}
use Rattle.std.specs.Prelude.{unwrap_or}
use Rattle.tools.specs.Gets.{got, get_len, get_reg, get_bus, get_words, IsGetInRange, mode_of_get, len_of, get_callee, register_run, run_by}
use Rattle.tools.specs.Gets.{get_run}
use Rattle.tools.specs.declared.command.get.Get.{Get}
use Rattle.tools.specs.declared.command.get.GetMode.{GetMode}
use Rattle.tools.specs.declared.command.get.GetMode.TheVariants as mode
use Rattle.tools.specs.declared.run.call.HeldOp.TheVariants as held
use Rattle.tools.proofs.FormLemmas.{AsksWithin, HasSectionLines, call_asks_within, chain_asks_within, call_lines, chain_lines}
use Rattle.tools.proofs.GrammarLemmas.{AllEnds, EndsWithin}
use Rattle.tools.proofs.OptionLemmas.{IsBetween, number_between, options_end, options_within}

-- ---- its line

module _ (limit : ℕ) (force : Bool) (bus addr : ℕ) (on : IsBetween 0 65535 bus) (to : IsBetween 8 119 addr) where
  got_fits : (reg : Option ℕ) (m : Option GetMode) (pec : Bool) (len : Option ℕ) → IfSome reg (λ r. r < 2 ^ 8)
      → IfSome len (λ n. (1 ≤ n) × (n ≤ 32)) → IsInRange limit (got force bus addr reg m pec len)
  got_fits reg m pec len r l = record { bus = omega (arith, on.to_high); addr = (to.from_low, to.to_high); reg = r; len = l }

  len_fits : (reg : ℕ) (m : GetMode × Bool) → reg < 2 ^ 8 → AllEnds (IsInRange limit) (get_len force bus addr reg m)
  unfolding get_len
  len_fits reg (mode.I2cBlock, false) r = (
    got_fits (Some reg) (Some mode.I2cBlock) false None r tt,
    λ w len is. let l = number_between 1 32 w len is in
        got_fits (Some reg) (Some mode.I2cBlock) false (Some len) r (l.from_low, l.to_high),
  )
  len_fits reg (m, pec) r = got_fits (Some reg) (Some m) pec None r tt

  reg_fits : AllEnds (IsInRange limit) (get_reg force bus addr)
  unfolding get_reg
  reg_fits = (
    got_fits None None false None tt tt,
    λ w reg is. let r : reg < 2 ^ 8 = omega (arith, (number_between 0 255 w reg is).to_high) in
        (got_fits (Some reg) None false None r tt, λ x m is_mode. len_fits reg m r),
  )

bus_fits : (limit : ℕ) (force : Bool) → AllEnds (IsInRange limit) (get_bus force)
unfolding get_bus
bus_fits limit force w bus is x addr is_addr = reg_fits limit force bus addr (number_between 0 65535 w bus is)
    (number_between 8 119 x addr is_addr)

pub get_fits : (limit : ℕ) → AllEnds (IsInRange limit) get_words
unfolding get_words
get_fits limit = options_end (IsInRange limit) get_bus (bus_fits limit)

-- after the first word it has at most seven
module _ (force : Bool) (bus addr : ℕ) where
  len_within : (reg : ℕ) (m : GetMode × Bool) → EndsWithin 1 (get_len force bus addr reg m)
  unfolding get_len
  len_within reg (mode.I2cBlock, false) = λ w len is. tt
  len_within reg (m, pec) = tt

  reg_within : EndsWithin 3 (get_reg force bus addr)
  unfolding get_reg
  reg_within = λ w reg is x m is_mode. len_within reg m

bus_within : (force : Bool) → EndsWithin 5 (get_bus force)
unfolding get_bus
bus_within force = λ w bus is x addr is_addr. reg_within force bus addr

pub get_within : EndsWithin 7 get_words
unfolding get_words
get_within = options_within 5 get_bus bus_within

-- ---- its calls

len_short : (len : Option ℕ) → IfSome len (λ n. (1 ≤ n) × (n ≤ 32)) → IsBlockLength 32 (unwrap_or len 32)
len_short None h = (omega arith, omega arith)
len_short (Some n) h = h

-- the block of `i` has a length that it may have
pub get_len_short : (g : Get) → IsGetInRange g → IsBlockLength 32 (len_of g)
get_len_short g range = len_short g.len range.len

module _ (g : Get) (near : IsTargetAddress g.addr) where
  register_asks : (reg : ℕ) (m : GetMode) → IsByte reg → IsBlockLength 32 (len_of g) → AsksWithin (register_run g reg m)
  register_asks reg mode.Byte byte short = call_asks_within (get_callee g) near (held.ReadByte reg) byte
  register_asks reg mode.Word byte short = call_asks_within (get_callee g) near (held.ReadWord reg) byte
  register_asks reg mode.SendReceive byte short = chain_asks_within (get_callee g) near reg byte
  register_asks reg mode.Block byte short = call_asks_within (get_callee g) near (held.BlockRead reg) byte
  register_asks reg mode.I2cBlock byte short = call_asks_within (get_callee g) near (held.I2cBlockRead reg (len_of g)) (byte, short)

  asks_by : (reg : Option ℕ) → IfSome reg (λ r. r < 2 ^ 8) → IsBlockLength 32 (len_of g) → AsksWithin (run_by g reg)
  asks_by None byte short = call_asks_within (get_callee g) near held.ReceiveByte tt
  asks_by (Some reg) byte short = register_asks reg (mode_of_get g) byte short

-- it asks for transfers within the limits
pub get_asks : (g : Get) → IsGetInRange g → AsksWithin (get_run g)
get_asks g range = asks_by g range.addr g.reg range.reg (get_len_short g range)

-- what it prints is a line of a section
register_lines : (g : Get) (reg : ℕ) (m : GetMode) → HasSectionLines (register_run g reg m)
register_lines g reg mode.Byte = call_lines (record { to = get_callee g; op = held.ReadByte reg })
register_lines g reg mode.Word = call_lines (record { to = get_callee g; op = held.ReadWord reg })
register_lines g reg mode.SendReceive = chain_lines (record { to = get_callee g; sent = reg })
register_lines g reg mode.Block = call_lines (record { to = get_callee g; op = held.BlockRead reg })
register_lines g reg mode.I2cBlock = call_lines (record { to = get_callee g; op = held.I2cBlockRead reg (len_of g) })

lines_by : (g : Get) (reg : Option ℕ) → HasSectionLines (run_by g reg)
lines_by g None = call_lines (record { to = get_callee g; op = held.ReceiveByte })
lines_by g (Some reg) = register_lines g reg (mode_of_get g)

pub get_lines : (g : Get) → HasSectionLines (get_run g)
get_lines g = lines_by g g.reg
