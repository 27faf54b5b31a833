-- Which reply a transfer may get.
use Rattle.std.specs.Prelude.{⊤, ◌≡◌, ℕ, ◌+◌, ◌≤◌, true, false, List, [], ◌∷◌, length, drop, MatchBool}
use Rattle.std.specs.List.{list_any}
use Rattle.i2c_base.specs.Limits.{LARGEST_BLOCK}
use Rattle.i2c_base.specs.declared.transfer.Msg.{Msg}
use Rattle.i2c_base.specs.declared.reply.Reply.{Reply}
use Rattle.i2c_base.specs.declared.reply.Reply.TheVariants.{Done, Read, Err}
use Rattle.i2c_base.specs.Transfer.{TransferView, is_read, is_counted}

-- a counted read gives its count, from 1 to 255, then so many bytes and those that it asks for beside them
abbrev pub count_of : List ℕ → ℕ
count_of [] = 0
count_of (c ∷ bytes) = c

abbrev pub FitsCounted : Msg → List ℕ → Type 0
FitsCounted m bytes = (1 ≤ count_of bytes) × (count_of bytes ≤ LARGEST_BLOCK) × (m.len + count_of bytes ≤ length bytes)

-- these bytes are what the reads of these messages give, one after the other
abbrev pub FitsReads : List Msg → List ℕ → Type 0
FitsReads [] bytes = bytes ≡ []
FitsReads (m ∷ ms) bytes =
    MatchBool (is_read m)
    (MatchBool (is_counted m)
    (FitsCounted m bytes × FitsReads ms (drop (m.len + count_of bytes) bytes))
    ((m.len ≤ length bytes) × FitsReads ms (drop m.len bytes)))
    (FitsReads ms bytes)

-- an error always fits; Done where no message reads; Read with what the reads ask for
abbrev pub Fits : TransferView → Reply → Type 0
Fits t Done = list_any is_read t.msgs ≡ false
Fits t (Read bytes) = (list_any is_read t.msgs ≡ true) × FitsReads t.msgs bytes
Fits t (Err e) = ⊤
