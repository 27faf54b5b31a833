-- How the values of SMBus calls are printed.
use Rattle.std.specs.Prelude.{ℕ, ◌/◌, ◌%◌, List, [], ◌∷◌, ◌++◌, Result, Ok, Err, codes}
use Rattle.std.specs.List.{flat_map}
use Rattle.bus_spec.specs.Lines.{errno_text, two_digits}
use Rattle.smb_emul.specs.declared.call.SmbFail.{SmbFail}
use Rattle.smb_emul.specs.declared.call.SmbFail.TheVariants as fail
use Rattle.smb_emul.specs.Value.{ValueView}
use Rattle.smb_emul.specs.Value as value

-- a byte, and a word of two bytes
abbrev pub byte_word : ℕ → List ℕ
byte_word byte = codes "0x" ++ two_digits byte

abbrev pub double_word : ℕ → List ℕ
double_word word = codes "0x" ++ (two_digits (word / 256) ++ two_digits (word % 256))

-- bytes with a space between each two
abbrev pub spaced_word : ℕ → List ℕ
spaced_word byte = codes " 0x" ++ two_digits byte

abbrev pub byte_words : List ℕ → List ℕ
byte_words [] = []
byte_words (b ∷ bs) = byte_word b ++ flat_map spaced_word bs

-- why there is no value: the name of the error, with both codes where an error code was wrong
abbrev pub fail_text : SmbFail → List ℕ
fail_text (fail.Errno errno) = errno_text errno
fail_text (fail.Pec got want) = codes "EBADMSG got " ++ (byte_word got ++ (codes " want " ++ byte_word want))

-- the value of a call, or why there is none
abbrev pub value_text : ValueView → List ℕ
value_text value.done = codes "ok"
value_text (value.byte b) = byte_word b
value_text (value.word w) = double_word w
value_text (value.block bytes) = byte_words bytes

abbrev pub call_result_text : Result ValueView SmbFail → List ℕ
call_result_text (Ok v) = value_text v
call_result_text (Err e) = fail_text e

-- the block that was read, if any
abbrev pub block_of_value : ValueView → List ℕ
block_of_value value.done = []
block_of_value (value.byte b) = []
block_of_value (value.word w) = []
block_of_value (value.block bytes) = bytes

abbrev pub block_in : Result ValueView SmbFail → List ℕ
block_in (Ok v) = block_of_value v
block_in (Err e) = []
