-- Each line that an operation makes is in the grammar, and means its command.
use Rattle.std.proofs.Common.{◌≡◌, ℕ, zero, suc, ◌+◌, ◌≤◌, Bool, true, false, cond, leb, List, [], ◌∷◌, ◌++◌, take, Option, Some, None, Ok}
use Rattle.std.proofs.Common.{refl, sym, ap, ◌∙◌, append_assoc, append-nil, arith, codes}
use Rattle.std.specs.Prelude.{slice_get, ◌&&◌}
use Rattle.std.specs.Fmt.{decimal}
use Rattle.std.specs.Str.{bytes_eq}
use Rattle.std.proofs.lemmas.Bool.{and_from}
use Rattle.std.proofs.lemmas.Bool.Decides.{nat_tests}
use Rattle.tools.specs.Commands.{grammar, MOST_WORDS}
use Rattle.tools.specs.Gets.{got, get_len, get_reg, get_bus, get_words, get_mode}
use Rattle.tools.specs.Grammars.{Class, Grammar, class, maybe, word_or, read_at}
use Rattle.tools.specs.LineSets.{Word, or_refused}
use Rattle.tools.specs.Lines.{line_read}
use Rattle.tools.specs.Numbers.{number_in}
use Rattle.tools.specs.Options.{bus_number, address, byte, force_and_yes}
use Rattle.tools.specs.Readers.{◌>>=◌, of_word, is_at}
use Rattle.tools.specs.Sets.{set_to, set_by, set_byte, set_number, set_values, set_reg, set_bus, set_words, send_mode, first_piece}
use Rattle.tools.specs.Sets.{by_piece, mode_or}
use Rattle.tools.specs.Splits.{words_of, joined_words}
use Rattle.tools.specs.declared.command.Cmd.{Cmd}
use Rattle.tools.specs.declared.command.get.GetMode.TheVariants as mode
use Rattle.tools.proofs.LineLemmas.{of_words}
use Rattle.i2c_gen.specs.Scripts.{line_by}
use Rattle.i2c_gen.proofs.NumberLemmas.{IsNumber, decimal_number, number_within, number_word, number_ne}
use Rattle.i2c_gen.proofs.WordLemmas.{is_word, are_words, is_one_line, ended_line, words_of-joined, joined_line}

-- the words of a line by its operation, with these numbers
abbrev pub words_with : (op : ℕ) (bus reg val : Word) → List Word
words_with zero bus reg val = codes "i2cget" ∷ codes "-y" ∷ bus ∷ codes "0x50" ∷ reg ∷ []
words_with (suc zero) bus reg val = codes "i2cset" ∷ codes "-y" ∷ bus ∷ codes "0x50" ∷ reg ∷ val ∷ []
words_with (suc (suc op)) bus reg val = codes "i2cget" ∷ codes "-y" ∷ bus ∷ codes "0x48" ∷ codes "0" ∷ codes "w" ∷ []

abbrev pub words_by : (op bus reg val : ℕ) → List Word
words_by op bus reg val = words_with op (decimal bus) (decimal reg) (decimal val)

-- the command that it is
abbrev pub cmd_by : (op bus reg val : ℕ) → Cmd
cmd_by zero bus reg val = got false bus 0x50 (Some reg) None false None
cmd_by (suc zero) bus reg val = set_to (record { force = false; bus = bus; addr = 0x50; reg = reg }) (val ∷ []) None false
cmd_by (suc (suc op)) bus reg val = got false bus 0x48 (Some 0) (Some mode.Word) false None

-- the numbers of a line are a bus and bytes
pub record AreInRange (bus reg val : ℕ) : Type 0 where
  pub bus_is : bus ≤ 65535
  pub reg_is : reg ≤ 255
  pub val_is : val ≤ 255

-- ---- the words are read

class_read : {A B : Type 0} (c : Class B) (k : B → Grammar A) (ws : List Word) (i : ℕ) (b : B) → of_word c.of (slice_get ws i) ≡ Some b
    → read_at (class c k) ws i ≡ read_at (k b) ws (i + 1)
class_read c k ws i b e = ap (λ o. or_refused o i >>= λ x. read_at (k x) ws (i + 1)) e

other_read : {A : Type 0} (text : Word) (g h : Grammar A) (ws : List Word) (i : ℕ) → is_at text ws i ≡ false
    → read_at (word_or text g h) ws i ≡ read_at h ws i
other_read text g h ws i e = ap (λ t. cond t (read_at g ws (i + 1)) (read_at h ws i)) e

-- a class whose word means this, if anything
piece_read : {A B : Type 0} (c : Class B) (k : B → Grammar A) (ws : List Word) (i : ℕ) (o : Option B) → of_word c.of (slice_get ws i) ≡ o
    → read_at (class c k) ws i ≡ (or_refused o i >>= λ x. read_at (k x) ws (i + 1))
piece_read c k ws i o e = ap (λ p. or_refused p i >>= λ x. read_at (k x) ws (i + 1)) e

value_piece : (n : ℕ) (w : Word) → n ≤ 255 → IsNumber n w → mode_or (send_mode w) (number_in 0 65535 w) ≡ mode_or None (Some n)
value_piece n w small h =
    let sent : send_mode w ≡ None = ap (λ t. cond t (send_mode (codes "c")) (cond (bytes_eq w (codes "cp")) (send_mode (codes "cp")) None))
    (number_ne n w (codes "c") h refl)
    ∙ ap (λ t. cond t (send_mode (codes "cp")) None) (number_ne n w (codes "cp") h refl) in
    ap (λ m. mode_or m (number_in 0 65535 w)) sent ∙ ap (mode_or None) (number_within 65535 n w (omega arith) h)

module _ (bus : ℕ) (b : Word) (is_bus : IsNumber bus b) (on : bus ≤ 65535) where
  byte_read : (reg : ℕ) (r v : Word) → IsNumber reg r → reg ≤ 255
      → read_at (grammar 32) (words_with zero b r v) 0 ≡ Ok (got false bus 0x50 (Some reg) None false None)
  unfolding grammar get_words force_and_yes get_bus get_reg
  byte_read reg r v is_reg small =
      let ws : List Word = words_with zero b r v in
      other_read (codes "-f") (get_bus true) (get_bus false) ws 2 (number_ne bus b (codes "-f") is_bus refl)
      ∙ class_read bus_number (λ n. class address (get_reg false n)) ws 2 bus (number_within 65535 bus b on is_bus)
      ∙ class_read byte (λ n. maybe (got false bus 0x50 (Some n) None false None) (class get_mode (get_len false bus 0x50 n))) ws 4 reg
      (number_within 255 reg r small is_reg)

  word_read : (op : ℕ) (r v : Word)
      → read_at (grammar 32) (words_with (suc (suc op)) b r v) 0 ≡ Ok (got false bus 0x48 (Some 0) (Some mode.Word) false None)
  unfolding grammar get_words force_and_yes get_bus get_reg get_len
  word_read op r v =
      let ws : List Word = words_with (suc (suc op)) b r v in
      other_read (codes "-f") (get_bus true) (get_bus false) ws 2 (number_ne bus b (codes "-f") is_bus refl)
      ∙ class_read bus_number (λ n. class address (get_reg false n)) ws 2 bus (number_within 65535 bus b on is_bus)

  -- a number behind a register
  abbrev numbers : (reg : ℕ) (is_byte : Bool) (n : ℕ) → Grammar Cmd
  numbers reg is_byte n = set_number (record { force = false; bus = bus; addr = 0x50; reg = reg }) is_byte 31 n

  abbrev number_behind : (reg n : ℕ) → Grammar Cmd
  number_behind reg n = numbers reg (leb n 255) n

  byte_written : (reg val : ℕ) (r v : Word) → IsNumber reg r → reg ≤ 255 → IsNumber val v → val ≤ 255
      → read_at (grammar 32) (words_with (suc zero) b r v) 0
      ≡ Ok (set_to (record { force = false; bus = bus; addr = 0x50; reg = reg }) (val ∷ []) None false)
  unfolding grammar set_words force_and_yes set_bus set_reg set_values set_number set_byte
  byte_written reg val r v is_reg small is_val low =
      let ws : List Word = words_with (suc zero) b r v in
      let is_byte : leb val 255 ≡ true = grind (arith, nat_tests) in
      other_read (codes "-f") (set_bus 32 true) (set_bus 32 false) ws 2 (number_ne bus b (codes "-f") is_bus refl)
      ∙ class_read bus_number (λ n. class address (set_reg 32 false n)) ws 2 bus (number_within 65535 bus b on is_bus)
      ∙ class_read byte (λ n. set_values (record { force = false; bus = bus; addr = 0x50; reg = n }) 31) ws 4 reg
      (number_within 255 reg r small is_reg)
      ∙ piece_read first_piece (by_piece (set_by (record { force = false; bus = bus; addr = 0x50; reg = reg }) []) (number_behind reg)) ws 5
      (mode_or None (Some val))
      (value_piece val v low is_val)
      ∙ ap (λ t. read_at (numbers reg t val) ws 6) is_byte

-- ---- the line is made of them

end_after_reg : (b m r e : List ℕ) → b ++ (m ++ (r ++ e)) ≡ (b ++ (m ++ (r ++ []))) ++ e
end_after_reg b m r e = simp (append_assoc, append-nil)

end_after_val : (b m r s v e : List ℕ) → b ++ (m ++ (r ++ (s ++ (v ++ e)))) ≡ (b ++ (m ++ (r ++ (s ++ (v ++ []))))) ++ e
end_after_val b m r s v e = simp (append_assoc, append-nil)

pub line_by-words : (op bus reg val : ℕ) → line_by op bus reg val ≡ ended_line (joined_words (words_by op bus reg val))
line_by-words zero bus reg val =
    ap (λ t. codes "i2cget -y " ++ t) (end_after_reg (decimal bus) (codes " 0x50 ") (decimal reg) (codes "\n"))
line_by-words (suc zero) bus reg val =
    ap (λ t. codes "i2cset -y " ++ t) (end_after_val (decimal bus) (codes " 0x50 ") (decimal reg) (codes " ") (decimal val) (codes "\n"))
line_by-words (suc (suc op)) bus reg val =
    ap (λ t. codes "i2cget -y " ++ t) (sym (append_assoc (decimal bus) (codes " 0x48 0 w") (codes "\n")))

are_words_with : (op : ℕ) (bus reg val : Word) → is_word bus ≡ true → is_word reg ≡ true → is_word val ≡ true
    → are_words (words_with op bus reg val) ≡ true
are_words_with zero bus reg val b r v = and_from (is_word bus) (is_word reg && true) b (and_from (is_word reg) true r refl)
are_words_with (suc zero) bus reg val b r v =
    and_from (is_word bus) (is_word reg && (is_word val && true)) b
    (and_from (is_word reg) (is_word val && true) r (and_from (is_word val) true v refl))
are_words_with (suc (suc op)) bus reg val b r v = and_from (is_word bus) true b refl

decimal_word : (n : ℕ) → n ≤ 65535 → is_word (decimal n) ≡ true
decimal_word n small = number_word n (decimal n) (decimal_number n (omega arith))

module _ (op bus reg val : ℕ) (h : AreInRange bus reg val) where
  fit : are_words (words_by op bus reg val) ≡ true
  fit =
      are_words_with op (decimal bus) (decimal reg) (decimal val) (decimal_word bus h.bus_is) (decimal_word reg (omega (arith, h.reg_is)))
      (decimal_word val (omega (arith, h.val_is)))

  pub words_line : is_one_line (joined_words (words_by op bus reg val)) ≡ true
  words_line = joined_line (words_by op bus reg val) fit

  front : words_by op bus reg val ≡ words_of (joined_words (words_by op bus reg val))
  front = sym (words_of-joined (words_by op bus reg val) fit)

pub command_line : (op bus reg val : ℕ) → AreInRange bus reg val
    → line_read 32 (joined_words (words_by op bus reg val)) ≡ Ok (Some (cmd_by op bus reg val))
command_line zero bus reg val h =
    let ws : List Word = words_by zero bus reg val in
    of_words 32 (joined_words ws) ws (Ok (cmd_by zero bus reg val)) (ap (take (MOST_WORDS + 1)) (front zero bus reg val h)) refl
    (byte_read bus (decimal bus) (decimal_number bus (omega (arith, h.bus_is))) h.bus_is reg (decimal reg) (decimal val)
    (decimal_number reg (omega (arith, h.reg_is))) h.reg_is)
command_line (suc zero) bus reg val h =
    let ws : List Word = words_by (suc zero) bus reg val in
    of_words 32 (joined_words ws) ws (Ok (cmd_by (suc zero) bus reg val)) (ap (take (MOST_WORDS + 1)) (front (suc zero) bus reg val h)) refl
    (byte_written bus (decimal bus) (decimal_number bus (omega (arith, h.bus_is))) h.bus_is reg val (decimal reg) (decimal val)
    (decimal_number reg (omega (arith, h.reg_is))) h.reg_is (decimal_number val (omega (arith, h.val_is))) h.val_is)
command_line (suc (suc op)) bus reg val h =
    let ws : List Word = words_by (suc (suc op)) bus reg val in
    of_words 32 (joined_words ws) ws (Ok (cmd_by (suc (suc op)) bus reg val)) (ap (take (MOST_WORDS + 1))
    (front (suc (suc op)) bus reg val h))
    refl
    (word_read bus (decimal bus) (decimal_number bus (omega (arith, h.bus_is))) h.bus_is op (decimal reg) (decimal val))
