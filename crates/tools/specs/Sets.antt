-- i2cset: its line, and the SMBus call of its mode (i2c-tools, i2cset(8); SMBus 3.2, section 6.5).
use Rattle.std.specs.Prelude.{⊤, ℕ, zero, suc, ◌-◌, ◌^◌, ◌<◌, ◌≤◌, min, max, nat_le, Bool, true, false, ◌&&◌, List, [], ◌∷◌, ◌++◌, length, slice_index_or, unwrap_or, Option, Some, None, if◌then◌else◌, codes, refl}
use Rattle.std.specs.Option.{option_or}
use Rattle.std.specs.Str.{bytes_eq}
use Rattle.i2c_base.specs.Addr.{IsTargetAddress}
use Rattle.i2c_base.specs.Bytes.{AreBytes}
use Rattle.i2c_base.specs.Limits.{I2C_BLOCK_LIMIT, LARGEST_BLOCK}
use Rattle.tools.specs.Grammars.{Class, Grammar, ends, class, maybe}
use Rattle.tools.specs.LineSets.{Word}
use Rattle.tools.specs.Numbers.{number_in}
use Rattle.tools.specs.Options.{bus_number, address, byte, force_and_yes}
use Rattle.tools.specs.declared.command.Cmd.{Cmd}
use Rattle.tools.specs.declared.command.Cmd.TheVariants.{Tool}
use Rattle.tools.specs.declared.command.ToolCmd.TheVariants as tool
use Rattle.tools.specs.declared.command.set.Set.{Set}
use Rattle.tools.specs.declared.command.set.SetHead.{SetHead}
use Rattle.tools.specs.declared.command.set.SetMode.{SetMode}
use Rattle.tools.specs.declared.command.set.SetMode.TheVariants as mode
use Rattle.tools.specs.declared.command.set.SetPiece.{SetPiece}
use Rattle.tools.specs.declared.command.set.SetPiece.TheVariants as piece
use Rattle.tools.specs.declared.run.ToolRun.{ToolRun}
use Rattle.tools.specs.declared.run.ToolRun.TheVariants as run
use Rattle.tools.specs.declared.run.call.Callee.{Callee}
use Rattle.tools.specs.declared.run.call.HeldOp.{HeldOp}
use Rattle.tools.specs.declared.run.call.HeldOp.TheVariants as held

-- ---- i2cset [-f] -y BUS ADDR REG [VALUE...] [MODE]

-- MODE, and whether with an error code, where no value stands before it
abbrev pub send_mode : Word → Option (SetMode × Bool)
send_mode w =
    if bytes_eq w (codes "c") then Some (mode.Send, false)
    else if bytes_eq w (codes "cp") then Some (mode.Send, true)
    else None

-- where a number above 255 does
abbrev pub word_mode : Word → Option (SetMode × Bool)
word_mode w =
    if bytes_eq w (codes "w") then Some (mode.Word, false)
    else if bytes_eq w (codes "wp") then Some (mode.Word, true)
    else None

-- where several bytes do; a block of `i` is short, and has no error code
abbrev pub block_mode : (is_short : Bool) → Word → Option (SetMode × Bool)
block_mode is_short w =
    if bytes_eq w (codes "s") then Some (mode.Block, false)
    else if bytes_eq w (codes "sp") then Some (mode.Block, true)
    else if is_short && bytes_eq w (codes "i") then Some (mode.I2cBlock, false)
    else None

-- where one byte does
abbrev pub byte_mode : Word → Option (SetMode × Bool)
byte_mode w =
    if bytes_eq w (codes "b") then Some (mode.Byte, false)
    else if bytes_eq w (codes "bp") then Some (mode.Byte, true)
    else option_or (word_mode w) (block_mode true w)

-- a mode, or else a value
abbrev pub mode_or : Option (SetMode × Bool) → Option ℕ → Option SetPiece
mode_or (Some m) v = Some (piece.Named m)
mode_or None (Some v) = Some (piece.Value v)
mode_or None None = None

-- what follows a mode, and what follows a value
abbrev pub by_piece : {A : Type 1} → (SetMode × Bool → A) → (ℕ → A) → SetPiece → A
by_piece named value (piece.Named m) = named m
by_piece named value (piece.Value v) = value v

-- after REG, after one byte, and behind several
abbrev pub first_piece : Class SetPiece
first_piece = record {
  of = λ w. mode_or (send_mode w) (number_in 0 65535 w);
  sample = codes "c";
  means = piece.Named (mode.Send, false);
  fits = refl;
}

abbrev pub second_piece : Class SetPiece
second_piece = record {
  of = λ w. mode_or (byte_mode w) (number_in 0 255 w);
  sample = codes "b";
  means = piece.Named (mode.Byte, false);
  fits = refl;
}

abbrev pub block_piece : Bool → Class SetPiece
block_piece is_short = record {
  of = λ w. mode_or (block_mode is_short w) (number_in 0 255 w);
  sample = codes "s";
  means = piece.Named (mode.Block, false);
  fits = refl;
}

-- a mode alone, after a number above 255, and after the last byte that a block may have
abbrev pub only_word : Class (SetMode × Bool)
only_word = record { of = word_mode; sample = codes "w"; means = (mode.Word, false); fits = refl }

abbrev pub only_byte : Class (SetMode × Bool)
only_byte = record { of = byte_mode; sample = codes "b"; means = (mode.Byte, false); fits = refl }

abbrev pub only_block : Bool → Class (SetMode × Bool)
only_block is_short = record { of = block_mode is_short; sample = codes "s"; means = (mode.Block, false); fits = refl }

-- so few bytes are a block of `i`
abbrev pub is_short : List ℕ → Bool
is_short vs = nat_le (length vs) I2C_BLOCK_LIMIT

-- a block of a board with this limit has at most so many bytes: one at least, and no more than any block
abbrev pub block_room : (limit : ℕ) → ℕ
block_room limit = max 1 (min limit LARGEST_BLOCK)

module _ (h : SetHead) where
  -- the command
  abbrev pub set_to : List ℕ → Option SetMode → Bool → Cmd
  set_to vs m pec = Tool (tool.Set (record { force = h.force; bus = h.bus; addr = h.addr; reg = h.reg; values = vs; mode = m; pec = pec }))

  -- such a mode ends the line
  abbrev pub set_by : List ℕ → SetMode × Bool → Grammar Cmd
  set_by vs m = ends (set_to vs (Some m.0) m.1)

  -- several bytes are a block: at most so many more, and its mode
  unfoldable pub set_block : ℕ → List ℕ → Grammar Cmd
  set_block zero vs = class (only_block (is_short vs)) (set_by vs)
  set_block (suc more) vs = class (block_piece (is_short vs)) (by_piece (set_by vs) (λ v. set_block more (vs ++ v ∷ [])))

  -- one byte, and at most so many more
  unfoldable pub set_byte : ℕ → ℕ → Grammar Cmd
  set_byte zero v = maybe (set_to (v ∷ []) None false) (class only_byte (set_by (v ∷ [])))
  set_byte (suc more) v = maybe (set_to (v ∷ []) None false)
      (class second_piece (by_piece (set_by (v ∷ [])) (λ w. set_block more (v ∷ w ∷ []))))

  -- a number above 255 is a word
  unfoldable pub set_number : Bool → ℕ → ℕ → Grammar Cmd
  set_number true more v = set_byte more v
  set_number false more v = class only_word (set_by (v ∷ []))

  -- [VALUE...] [MODE], a block having at most `more` bytes after its first
  unfoldable pub set_values : ℕ → Grammar Cmd
  set_values more = maybe (set_to [] None false) (class first_piece (by_piece (set_by []) (λ v. set_number (nat_le v 255) more v)))

-- REG, and what follows it
unfoldable pub set_reg : (limit : ℕ) (force : Bool) (bus addr : ℕ) → Grammar Cmd
set_reg limit force bus addr = class byte (λ reg. set_values (record { force = force; bus = bus; addr = addr; reg = reg })
    (block_room limit - 1))

-- BUS ADDR, and what follows them
unfoldable pub set_bus : (limit : ℕ) → Bool → Grammar Cmd
set_bus limit force = class bus_number (λ bus. class address (set_reg limit force bus))

-- what follows the first word
unfoldable pub set_words : (limit : ℕ) → Grammar Cmd
set_words limit = force_and_yes (set_bus limit)

-- ---- the range of what it means

-- one value below a bound, at most one byte, none, and a block
abbrev pub IsOneBelow : ℕ → List ℕ → Type 0
IsOneBelow high [] = ⊥
IsOneBelow high (v ∷ []) = v < high
IsOneBelow high (v ∷ w ∷ vs) = ⊥

abbrev pub IsAtMostOneByte : List ℕ → Type 0
IsAtMostOneByte [] = ⊤
IsAtMostOneByte (v ∷ vs) = IsOneBelow 256 (v ∷ vs)

abbrev pub IsNone : List ℕ → Type 0
IsNone [] = ⊤
IsNone (v ∷ vs) = ⊥

abbrev pub IsBlock : (most : ℕ) → List ℕ → Type 0
IsBlock most vs = AreBytes vs × (1 ≤ length vs) × (length vs ≤ most)

-- the values are those of the mode, where a block after its count has at most so many
abbrev pub AreOfMode : (most : ℕ) → SetMode → List ℕ → Type 0
AreOfMode most mode.Send vs = IsNone vs
AreOfMode most mode.Byte vs = IsOneBelow 256 vs
AreOfMode most mode.Word vs = IsOneBelow 65536 vs
AreOfMode most mode.Block vs = IsBlock most vs
AreOfMode most mode.I2cBlock vs = IsBlock I2C_BLOCK_LIMIT vs

abbrev pub HasValues : (limit : ℕ) → Option SetMode → List ℕ → Type 0
HasValues limit None vs = IsAtMostOneByte vs
HasValues limit (Some m) vs = AreOfMode (block_room limit) m vs

-- each field of the command is in its range
pub record IsSetInRange (limit : ℕ) (s : Set) : Type 0 where
  pub bus : s.bus < 2 ^ 16
  pub addr : IsTargetAddress s.addr
  pub reg : s.reg < 2 ^ 8
  pub values : HasValues limit s.mode s.values

-- ---- how it runs

-- no MODE is `c` where no value stands, and `b` after one byte
abbrev pub mode_behind : List ℕ → SetMode
mode_behind [] = mode.Send
mode_behind (v ∷ vs) = mode.Byte

abbrev pub mode_of_set : Set → SetMode
mode_of_set s = unwrap_or s.mode (mode_behind s.values)

abbrev pub first_value : Set → ℕ
first_value s = slice_index_or s.values 0 0

-- to whom its call goes
abbrev pub set_callee : Set → Callee
set_callee s = record { bus = s.bus; addr = s.addr; force = s.force; pec = s.pec }

-- the call of its mode
abbrev pub set_op : Set → SetMode → HeldOp
set_op s mode.Send = held.SendByte s.reg
set_op s mode.Byte = held.WriteByte s.reg (first_value s)
set_op s mode.Word = held.WriteWord s.reg (first_value s)
set_op s mode.Block = held.BlockWrite s.reg s.values
set_op s mode.I2cBlock = held.I2cBlockWrite s.reg s.values

abbrev pub set_run : Set → ToolRun
set_run s = run.Calls (record { to = set_callee s; op = set_op s (mode_of_set s) })
