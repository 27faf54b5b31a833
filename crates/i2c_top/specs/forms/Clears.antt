-- `clear BOARD BUS ADDR CUT`: its words, what the board's file says where it ends with a status, and the three lines that it writes.
use Rattle.std.specs.Prelude.{◌≡◌, ℕ, ◌<◌, ◌≤◌, ◌⊎◌, ◌==◌, Bool, false, ◌&&◌, List, ◌++◌, length, codes, Option, Some, None, Result, Ok, Err, if◌then◌else◌}
use Rattle.std.specs.Fmt.{decimal}
use Rattle.std.specs.Str.{bytes_eq}
use Rattle.bus_clear.specs.Cuts.{level_at, pulses_of, cleared_world}
use Rattle.bus_clear.specs.Receives.{received, reply_of}
use Rattle.bus_spec.specs.Lines.{errno_text}
use Rattle.i2c_base.specs.Board.{BoardView}
use Rattle.i2c_base.specs.Limits.{FIRST_ADDRESS, LAST_ADDRESS}
use Rattle.i2c_base.specs.declared.errno.Errno.{Errno}
use Rattle.i2c_spec.specs.Flat.{block_limit}
use Rattle.i2c_spec.specs.World.{opening_world}
use Rattle.tools.specs.Numbers.{number_in}
use Rattle.tools.specs.Readers.{word_at}
use Rattle.tools.specs.Values.{byte_word}
use Rattle.i2c_top.specs.Boards.{HasAccepted, HasRejected}
use Rattle.i2c_top.specs.Files.{Files, OfSomeFiles, IsAnyName}
use Rattle.i2c_top.specs.Form.{Form}
use Rattle.i2c_top.specs.Names.{is_name}
use Rattle.i2c_top.specs.Numbers.{number_named}
use Rattle.i2c_top.specs.declared.forms.clear.ClearAt.{ClearAt}
use Rattle.i2c_top.specs.declared.status.BoardRefusal.{BoardRefusal}
use Rattle.i2c_top.specs.declared.status.Status.{Status}
use Rattle.i2c_top.specs.declared.status.Status.TheVariants as status

abbrev pub at_by : (bus addr cut : Option ℕ) → Option ClearAt
at_by (Some bus) (Some addr) (Some cut) = Some (record { bus = bus; addr = addr; cut = cut })
at_by _ _ _ = None

-- `clear`, the name of a board, the number of a bus, an address as scripts spell one, and the number of a rise
abbrev pub clear_in : List (List ℕ) → Option ClearAt
clear_in words =
    if (length words == 5) && (bytes_eq (word_at words 0) (codes "clear") && is_name (word_at words 1))
    then at_by (number_named 0 65535 (word_at words 2)) (number_in FIRST_ADDRESS LAST_ADDRESS (word_at words 3))
    (number_named 1 18 (word_at words 4))
    else None

-- the file spells an accepted board that has this root
pub record HasRoot (file : Files) (name : List ℕ) (bus : ℕ) : Type 0 where
  pub accepted : HasAccepted file name
  pub root : bus < length accepted.board.roots

-- or one that lacks it
pub record LacksRoot (file : Files) (name : List ℕ) (bus n : ℕ) : Type 0 where
  pub same : n ≡ bus
  pub accepted : HasAccepted file name
  pub no_root : length accepted.board.roots ≤ bus

-- what the file says where it ends with a status that it decides: a root of an accepted board, a number that is none, and each
-- refusal of its text
abbrev pub IsClearCause : Files → List ℕ → ℕ → Status → Type 0
IsClearCause file name bus status.Ok = HasRoot file name bus
IsClearCause file name bus (status.Board why) = HasRejected file name why
IsClearCause file name bus (status.NoRoot n) = LacksRoot file name bus n
IsClearCause file name bus _ = ⊥

-- the reply to the read
abbrev pub read_line : Result ℕ Errno → List ℕ
read_line (Ok byte) = codes "read " ++ (byte_word byte ++ codes "\n")
read_line (Err e) = errno_text e ++ codes "\n"

abbrev pub level_word : Bool → List ℕ
level_word high = if high then codes "high" else codes "low"

-- the lines: SDA after the cut, the pulses, and the read
abbrev pub cleared_lines : ℕ → Bool → ℕ → Result ℕ Errno → List ℕ
cleared_lines cut high pulses read =
    codes "cut " ++ (decimal cut ++ (codes " sda " ++ (level_word high ++ (codes "\npulses " ++ (decimal pulses ++ (codes "\n" ++ read_line read))))))

-- of a board: what its world says of them
abbrev pub cleared_text : BoardView → ClearAt → List ℕ
cleared_text b at =
    cleared_lines at.cut (level_at (opening_world b at.bus) at.addr at.cut) (pulses_of (opening_world b at.bus) at.addr at.cut)
    (reply_of (received (block_limit b) (cleared_world (opening_world b at.bus) at.addr at.cut) at.addr))

-- the file spells an accepted board with this root, and these are its lines
pub record HasClear (file : Files) (name : List ℕ) (at : ClearAt) (text : List ℕ) : Type 0 where
  pub has : HasRoot file name at.bus
  pub lines : text ≡ cleared_text has.accepted.board at

-- those were written after what stood there
pub record HasCleared (file : Files) (name : List ℕ) (at : ClearAt) (before now : List ℕ) : Type 0 where
  pub text : List ℕ
  pub clear : HasClear file name at text
  pub written : now ≡ before ++ text

-- THE ROW: it reads one file, at place 1, refuses its board or the bus, and plugs no rig
abbrev pub clear_form : List ℕ → ClearAt → Form
clear_form board at = record {
  reads = λ place. place ≡ 1;
  turn = λ file place. place ≡ 1;
  skips = λ s place. 1 < place;
  refuses = λ s. ((why : BoardRefusal) × (s ≡ status.Board why)) ⊎ (s ≡ status.NoRoot at.bus);
  cause = λ file s. IsClearCause file board at.bus s;
  plugs = false;
  answer = λ file rig text. HasClear file board at text;
  leaves = λ rig text. OfSomeFiles IsAnyName board (λ file called. HasClear file called at text);
}
