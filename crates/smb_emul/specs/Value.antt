-- What contracts see of the value of a call, wherever the bytes of its block lie.
use Rattle.std.specs.Prelude.{ℕ, List, Result, Ok, Err}
use Rattle.smb_emul.specs.declared.call.SmbFail.{SmbFail}
use Rattle.smb_emul.specs.declared.call.SmbValue.{SmbValue}
use Rattle.smb_emul.specs.declared.call.SmbValue.TheVariants as value

-- what a call brings: nothing more, a byte, a word, or the bytes of a block
pub data ValueView : Type 0 where
  done : ValueView
  byte : ℕ → ValueView
  word : ℕ → ValueView
  block : List ℕ → ValueView

abbrev pub value_seen : SmbValue → ValueView
value_seen value.Done = done
value_seen (value.Byte b) = byte b
value_seen (value.Word w) = word w
value_seen (value.Block bytes) = block bytes.now

-- a failure is seen as it is
abbrev pub outcome_seen : Result SmbValue SmbFail → Result ValueView SmbFail
outcome_seen (Ok v) = Ok (value_seen v)
outcome_seen (Err fail) = Err fail
