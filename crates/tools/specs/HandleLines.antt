-- The lines of handles, after Linux i2c-dev, a row for each: their words, and the range of what they mean.
use Rattle.std.specs.Prelude.{ℕ, ◌^◌, ◌<◌, ◌≤◌, Bool, true, false, List, [], length, codes, refl}
use Rattle.i2c_base.specs.Addr.{IsTargetAddress}
use Rattle.i2c_base.specs.Bytes.{AreBytes}
use Rattle.i2c_base.specs.Limits.{MOST_LENGTH}
use Rattle.tools.specs.ByteLists.{some_bytes}
use Rattle.tools.specs.Combined.{AreMessages, some_descs}
use Rattle.tools.specs.Grammars.{Class, Grammar, ends, word, word_or, class}
use Rattle.tools.specs.Numbers.{number_in}
use Rattle.tools.specs.Options.{bus_number, address, byte}
use Rattle.tools.specs.Sets.{block_room}
use Rattle.tools.specs.declared.command.Cmd.{Cmd}
use Rattle.tools.specs.declared.command.Cmd.TheVariants.{Handle}
use Rattle.tools.specs.declared.command.handle.HandleCmd.{HandleCmd}
use Rattle.tools.specs.declared.command.handle.HandleCmd.TheVariants as handle

-- ---- words

-- H: the number that was printed where it was opened
abbrev pub LARGEST_HANDLE : ℕ
LARGEST_HANDLE = 999

abbrev pub handle_number : Class ℕ
handle_number = record { of = number_in 0 LARGEST_HANDLE; sample = codes "0"; means = 0; fits = refl }

-- N, and WORD
abbrev pub length_class : Class ℕ
length_class = record { of = number_in 1 MOST_LENGTH; sample = codes "1"; means = 1; fits = refl }

abbrev pub word_value : Class ℕ
word_value = record { of = number_in 0 65535; sample = codes "0"; means = 0; fits = refl }

-- ---- what follows the first word

-- open BUS
unfoldable pub open_words : Grammar Cmd
open_words = class bus_number (λ bus. ends (Handle (handle.Open bus)))

-- slave H ADDR, and force H ADDR
unfoldable pub slave_words : (force : Bool) → Grammar Cmd
slave_words force = class handle_number (λ h. class address (λ addr. ends (Handle (handle.Slave h addr force))))

-- pec H on, and pec H off
unfoldable pub pec_words : Grammar Cmd
pec_words = class handle_number (λ h.
    word_or (codes "on") (ends (Handle (handle.Pec h true))) (word (codes "off") (ends (Handle (handle.Pec h false)))))

-- read H N
unfoldable pub read_words : Grammar Cmd
read_words = class handle_number (λ h. class length_class (λ n. ends (Handle (handle.Read h n))))

-- write H BYTE...
unfoldable pub write_words : Grammar Cmd
write_words = class handle_number (λ h. some_bytes MOST_LENGTH [] (λ bytes. Handle (handle.Write h bytes)))

-- rdwr H (DESC DATA...)...
unfoldable pub rdwr_words : Grammar Cmd
rdwr_words = class handle_number (λ h. some_descs (λ ms. Handle (handle.Rdwr h ms)))

-- proc H REG WORD
unfoldable pub proc_word : (h reg : ℕ) → Grammar Cmd
proc_word h reg = class word_value (λ v. ends (Handle (handle.Proc h reg v)))

unfoldable pub proc_words : Grammar Cmd
proc_words = class handle_number (λ h. class byte (proc_word h))

-- bproc H REG BYTE..., of which a board with this limit has at most so many
unfoldable pub bproc_bytes : (limit h reg : ℕ) → Grammar Cmd
bproc_bytes limit h reg = some_bytes (block_room limit) [] (λ bytes. Handle (handle.Bproc h reg bytes))

unfoldable pub bproc_words : (limit : ℕ) → Grammar Cmd
bproc_words limit = class handle_number (λ h. class byte (bproc_bytes limit h))

-- close H
unfoldable pub close_words : Grammar Cmd
close_words = class handle_number (λ h. ends (Handle (handle.Close h)))

-- ---- the lines

unfoldable pub handle_lines : (limit : ℕ) → Grammar Cmd
handle_lines limit =
    word_or (codes "open") open_words
    (word_or (codes "slave") (slave_words false)
    (word_or (codes "force") (slave_words true)
    (word_or (codes "pec") pec_words
    (word_or (codes "read") read_words
    (word_or (codes "write") write_words
    (word_or (codes "rdwr") rdwr_words
    (word_or (codes "proc") proc_words
    (word_or (codes "bproc") (bproc_words limit)
    (word (codes "close") close_words)))))))))

-- ---- the range of what they mean

abbrev pub IsHandleNumber : ℕ → Type 0
IsHandleNumber h = h ≤ LARGEST_HANDLE

-- bytes, one at least, and no more than `most`
pub record AreFewBytes (most : ℕ) (bytes : List ℕ) : Type 0 where
  pub each : AreBytes bytes
  pub some : 1 ≤ length bytes
  pub few : length bytes ≤ most

-- each field of the command is in its range
abbrev pub IsHandleInRange : (limit : ℕ) → HandleCmd → Type 0
IsHandleInRange limit (handle.Open bus) = bus < 2 ^ 16
IsHandleInRange limit (handle.Slave h addr force) = IsHandleNumber h × IsTargetAddress addr
IsHandleInRange limit (handle.Pec h on) = IsHandleNumber h
IsHandleInRange limit (handle.Read h n) = IsHandleNumber h × (1 ≤ n) × (n ≤ MOST_LENGTH)
IsHandleInRange limit (handle.Write h bytes) = IsHandleNumber h × AreFewBytes MOST_LENGTH bytes
IsHandleInRange limit (handle.Rdwr h ms) = IsHandleNumber h × AreMessages ms
IsHandleInRange limit (handle.Proc h reg v) = IsHandleNumber h × (reg < 2 ^ 8) × (v < 2 ^ 16)
IsHandleInRange limit (handle.Bproc h reg bytes) = IsHandleNumber h × (reg < 2 ^ 8) × AreFewBytes (block_room limit) bytes
IsHandleInRange limit (handle.Close h) = IsHandleNumber h
