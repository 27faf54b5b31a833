-- i2ctransfer: its line (i2c-tools, i2ctransfer(8)).
use Rattle.std.specs.Prelude.{ℕ, zero, suc, ◌+◌, ◌-◌, ◌%◌, ◌^◌, ◌<◌, ◌≤◌, ◌==◌, nat_le, Bool, true, false, ◌||◌, List, [], ◌∷◌, ◌++◌, length, take, slice_index_or, All, Option, Some, None, Result, Ok, option_and_then, if◌then◌else◌, codes, refl}
use Rattle.std.specs.List.{sum_by}
use Rattle.i2c_base.specs.Addr.{IsTargetAddress}
use Rattle.i2c_base.specs.Bytes.{AreBytes}
use Rattle.i2c_base.specs.Limits.{FIRST_ADDRESS, LAST_ADDRESS, MOST_LENGTH, MOST_MESSAGES, MOST_BYTES}
use Rattle.tools.specs.Grammars.{Class, Grammar, ends, class, maybe}
use Rattle.tools.specs.LineSets.{Word}
use Rattle.tools.specs.Numbers.{number_in}
use Rattle.tools.specs.Options.{bus_number, force_and_yes}
use Rattle.tools.specs.Readers.{◌>>=◌, one_at, over_at, is_past}
use Rattle.tools.specs.Words.{before_gap, behind_gap}
use Rattle.tools.specs.declared.command.Cmd.{Cmd}
use Rattle.tools.specs.declared.command.Cmd.TheVariants.{Tool}
use Rattle.tools.specs.declared.command.ToolCmd.TheVariants as tool
use Rattle.tools.specs.declared.command.transfer.Combined.{Combined}
use Rattle.tools.specs.declared.command.transfer.DescHead.{DescHead}
use Rattle.tools.specs.declared.command.transfer.DescPlace.{DescPlace}
use Rattle.tools.specs.declared.command.transfer.Datum.{Datum}
use Rattle.tools.specs.declared.command.transfer.Datum.TheVariants as datum
use Rattle.tools.specs.declared.lists.Desc.{Desc}
use Rattle.tools.specs.declared.lists.DescOp.{DescOp}
use Rattle.tools.specs.declared.lists.DescOp.TheVariants as op

-- ---- i2ctransfer [-f] -y BUS (DESC DATA...)...

-- ---- DESC: `r` or `w`, a length within the room that is left, and an address, which may be that of the message before

-- `@`
abbrev pub is_at_sign : ℕ → Bool
is_at_sign b = b == 64

-- what stands before the first `@`, and after it, if there is one
abbrev pub before_at : Word → Word
before_at w = before_gap is_at_sign w

abbrev pub after_at : Word → Option Word
after_at w = behind_gap is_at_sign w

-- the address, or the one held from the message before
abbrev pub address_in : Option ℕ → Option Word → Option ℕ
address_in held None = held
address_in held (Some w) = number_in FIRST_ADDRESS LAST_ADDRESS w

-- a write of nothing always has room
abbrev pub within_room : ℕ → ℕ → Option ℕ
within_room room n = if (n == 0) || nat_le n room then Some n else None

-- a length, from `low` on
abbrev pub length_in : (low room : ℕ) → Word → Option ℕ
length_in low room w = option_and_then (within_room room) (number_in low MOST_LENGTH w)

-- a DESC that has both
abbrev pub head_with : Bool → Option ℕ → Option ℕ → Option DescHead
head_with reads (Some addr) (Some len) = Some (record { addr = addr; reads = reads; len = len })
head_with reads (Some addr) None = None
head_with reads None len = None

-- a DESC after a message to `held`, where there is room for so many bytes
abbrev pub head_of : Option ℕ → ℕ → Word → Option DescHead
head_of held room [] = None
head_of held room (c ∷ cs) =
    if c == 114 then head_with true (address_in held (after_at cs)) (length_in 1 room (before_at cs))
    else if c == 119 then head_with false (address_in held (after_at cs)) (length_in 0 room (before_at cs))
    else None

abbrev pub head_word : Option ℕ → ℕ → Class DescHead
head_word held room = record {
  of = head_of held room;
  sample = codes "w0@8";
  means = record { addr = 8; reads = false; len = 0 };
  fits = refl;
}

-- ---- DATA: bytes, of which one that isn't the last may have a suffix, which tells those behind it

-- `=`, `+` and `-` tell how far each byte is above the one before, modulo 256
abbrev pub step_of : ℕ → Option ℕ
step_of c = if c == 61 then Some 0 else if c == 43 then Some 1 else if c == 45 then Some 255 else None

-- a byte with a suffix
abbrev pub series_with : Option ℕ → Option ℕ → Option Datum
series_with (Some b) (Some s) = Some (datum.Series (b, s))
series_with (Some b) None = None
series_with None s = None

abbrev pub series_of : Word → Option Datum
series_of w = series_with (number_in 0 255 (take (length w - 1) w)) (step_of (slice_index_or w (length w - 1) 0))

-- a byte, or else one with a suffix
abbrev pub byte_or : Option ℕ → Option Datum → Option Datum
byte_or (Some b) s = Some (datum.One b)
byte_or None s = s

-- a word of DATA; the last byte has no suffix
abbrev pub datum_of : (is_last : Bool) → Word → Option Datum
datum_of is_last w = byte_or (number_in 0 255 w) (if is_last then None else series_of w)

abbrev pub datum_word : Bool → Class Datum
datum_word is_last = record { of = datum_of is_last; sample = codes "0"; means = datum.One 0; fits = refl }

-- what follows a byte, and what follows one with a suffix
abbrev pub by_datum : {A : Type 1} → (ℕ → A) → (ℕ → ℕ → A) → Datum → A
by_datum one series (datum.One b) = one b
by_datum one series (datum.Series p) = series p.0 p.1

-- so many bytes from b on, each by s above the one before
unfoldable pub counted : ℕ → ℕ → ℕ → List ℕ
counted zero b s = []
counted (suc n) b s = b ∷ counted n ((b + s) % 256) s

-- so many more bytes, or fewer of which the last has a suffix
unfoldable pub data_words : {A : Type 0} → ℕ → List ℕ → (List ℕ → Grammar A) → Grammar A
data_words zero got k = k got
data_words (suc n) got k = class (datum_word (n == 0))
    (by_datum (λ b. data_words n (got ++ b ∷ []) k) (λ b s. k (got ++ counted (n + 1) b s)))

-- ---- messages

-- so many bytes of DATA follow a DESC
abbrev pub bytes_asked : DescHead → ℕ
bytes_asked d = if d.reads then 0 else d.len

-- the message of a DESC and its bytes
abbrev pub desc_of : DescHead → List ℕ → Desc
desc_of d bytes = record { addr = d.addr; op = if d.reads then op.Read d.len else op.Write bytes }

module _ (made : List Desc → Cmd) where
  -- at most so many more messages, of so many bytes together, and the command that all of them make
  unfoldable pub descs : ℕ → ℕ → Option ℕ → List Desc → Grammar Cmd
  descs zero room held got = ends (made got)
  descs (suc n) room held got =
      class (head_word held room) (λ d.
      data_words (bytes_asked d) [] (λ bytes.
      maybe (made (got ++ desc_of d bytes ∷ [])) (descs n (room - d.len) (Some d.addr) (got ++ desc_of d bytes ∷ []))))

  -- the messages of a transfer
  abbrev pub some_descs : Grammar Cmd
  some_descs = descs MOST_MESSAGES MOST_BYTES None []

-- the command
abbrev pub combined : (force : Bool) (bus : ℕ) → List Desc → Cmd
combined force bus ms = Tool (tool.Combined (record { force = force; bus = bus; messages = ms }))

-- BUS, and what follows it
unfoldable pub combined_bus : Bool → Grammar Cmd
combined_bus force = class bus_number (λ bus. some_descs (combined force bus))

-- what follows the first word
unfoldable pub combined_words : Grammar Cmd
combined_words = force_and_yes combined_bus

-- ---- DATA and messages as they are read, with the place after them

-- what is read behind a byte, and after one with a suffix
abbrev pub read_datum : {R : Type 0} → (ℕ → R) → (ℕ → ℕ → R) → Datum → R
read_datum one series (datum.One b) = one b
read_datum one series (datum.Series p) = series p.0 p.1

-- so many more bytes after others, and the place after them
unfoldable pub data_at : ℕ → List ℕ → List Word → ℕ → Result (List ℕ × ℕ) ℕ
data_at zero got ws i = Ok (got, i)
data_at (suc n) got ws i =
    one_at (datum_word (n == 0)).of ws i >>= read_datum (λ b. data_at n (got ++ b ∷ []) ws (i + 1))
    (λ b s. Ok (got ++ counted (n + 1) b s, i + 1))

-- a message at a place, after others, and the place after it
abbrev pub message_at : DescPlace → List Desc → List Word → Result (List Desc × DescPlace) ℕ
message_at p got ws =
    one_at (head_of p.held p.room) ws p.at >>= λ d.
    data_at (bytes_asked d) [] ws (p.at + 1) >>= λ o.
    Ok (got ++ desc_of d o.0 ∷ [], record { at = o.1; room = p.room - d.len; held = Some d.addr })

-- where the first message is read
abbrev pub first_place : ℕ → DescPlace
first_place at = record { at = at; room = MOST_BYTES; held = None }

-- at most so many more messages after others
unfoldable pub descs_at : ℕ → DescPlace → List Desc → List Word → Result (List Desc) ℕ
descs_at zero p got ws = over_at got ws p.at
descs_at (suc n) p got ws = message_at p got ws >>= λ o. if is_past ws o.1.at then Ok o.0 else descs_at n o.1 o.0 ws

-- ---- the range of what it means

-- how many bytes a message reads or writes
abbrev pub length_of : DescOp → ℕ
length_of (op.Read n) = n
length_of (op.Write bytes) = length bytes

-- a read has 1 to 512 bytes, and a write at most as many
abbrev pub IsOpInRange : DescOp → Type 0
IsOpInRange (op.Read n) = (1 ≤ n) × (n ≤ MOST_LENGTH)
IsOpInRange (op.Write bytes) = AreBytes bytes × (length bytes ≤ MOST_LENGTH)

-- a message within the limits
abbrev pub IsDescInRange : Desc → Type 0
IsDescInRange d = IsTargetAddress d.addr × IsOpInRange d.op

-- the bytes of a message
abbrev pub bytes_of : Desc → ℕ
bytes_of d = length_of d.op

-- messages of a transfer, which is within the limits
pub record AreMessages (ms : List Desc) : Type 0 where
  pub some : 1 ≤ length ms
  pub few : length ms ≤ MOST_MESSAGES
  pub each : All IsDescInRange ms
  pub short : sum_by bytes_of ms ≤ MOST_BYTES

-- each field of the command is in its range
pub record IsCombinedInRange (c : Combined) : Type 0 where
  pub bus : c.bus < 2 ^ 16
  pub messages : AreMessages c.messages
