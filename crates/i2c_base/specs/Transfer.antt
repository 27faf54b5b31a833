-- What contracts see of a transfer, and what fits one.
use Rattle.std.specs.Prelude.{◌≡◌, ℕ, ◌+◌, ◌<◌, ◌≤◌, ◌==◌, Bool, true, List, [], ◌∷◌, ◌++◌, length, sum_by, All, if◌then◌else◌, bit_and}
use Rattle.i2c_base.specs.declared.transfer.TransferKind.{TransferKind}
use Rattle.i2c_base.specs.declared.transfer.Msg.{Msg}
use Rattle.i2c_base.specs.Bytes.{AreBytes}
use Rattle.i2c_base.specs.Limits.{MOST_MESSAGES, MOST_LENGTH, MOST_BYTES}

pub record TransferView : Type 0 where
  pub bus : ℕ
  pub kind : TransferKind
  pub force : Bool
  pub msgs : List Msg
  pub out : List ℕ

-- a message reads where the flag READ is set, and counts where RECV_LEN is (Linux i2c.h: I2C_M_RD, I2C_M_RECV_LEN)
abbrev pub is_read : Msg → Bool
is_read m = bit_and m.flags.0 0x0001 == 0x0001

abbrev pub is_counted : Msg → Bool
is_counted m = bit_and m.flags.0 0x0400 == 0x0400

-- the three sorts of message
abbrev pub written : ℕ → ℕ → Msg
written addr len = record { addr = addr; flags = record { 0 = 0 }; len = len }

abbrev pub plain_read : ℕ → ℕ → Msg
plain_read addr len = record { addr = addr; flags = record { 0 = 0x0001 }; len = len }

abbrev pub counted_read : ℕ → Bool → Msg
counted_read addr extra = record { addr = addr; flags = record { 0 = 0x0401 }; len = if extra then 2 else 1 }

-- a counted read stands for its count, at most 255 further bytes, and the two that it may ask for beside them
abbrev pub COUNTED_SIZE : ℕ
COUNTED_SIZE = 258

-- how many bytes a message stands for in the sum of its transfer, and how many it writes
abbrev pub size_of : Msg → ℕ
size_of m = if is_counted m then COUNTED_SIZE else m.len

abbrev pub written_of : Msg → ℕ
written_of m = if is_read m then 0 else m.len

-- one more message of this length and size is within the limits
pub record HasRoom (msgs : List Msg) (len size : ℕ) : Type 0 where
  pub count : length msgs < MOST_MESSAGES
  pub len_fits : len ≤ MOST_LENGTH
  pub sum_fits : sum_by size_of msgs + size ≤ MOST_BYTES

-- RECV_LEN stands only with READ and with a length of 1 or 2; a plain read asks for something
abbrev pub IsMessage : Msg → Type 0
IsMessage m = (m.len ≤ MOST_LENGTH) × (is_counted m ≡ true → (is_read m ≡ true) × (1 ≤ m.len) × (m.len ≤ 2))
    × (is_read m ≡ true → 0 < m.len)

-- what the type of a transfer keeps
pub record IsTransfer (msgs : List Msg) (out : List ℕ) : Type 0 where
  pub count : length msgs ≤ MOST_MESSAGES
  pub each : All IsMessage msgs
  pub size : sum_by size_of msgs ≤ MOST_BYTES
  pub written : length out ≡ sum_by written_of msgs
  pub bytes : AreBytes out

-- one more message at the end, with its bytes
abbrev pub with_message : TransferView → Msg → List ℕ → TransferView
with_message t m bytes = record t { msgs = t.msgs ++ m ∷ []; out = t.out ++ bytes }
