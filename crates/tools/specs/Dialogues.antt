-- What a command says to the bus, whatever its form: places with a transfer each, where it goes on after a reply, and the
-- lines that it prints.
use Rattle.std.specs.Prelude.{◌≡◌, ⊤, ℕ, ◌+◌, ◌-◌, nat_le, Bool, List, [], ◌∷◌, map}
use Rattle.std.specs.List.{fold, sum_by, range_with_len}
use Rattle.i2c_base.specs.Fitting.{Fits}
use Rattle.i2c_base.specs.Transfer.{TransferView}
use Rattle.i2c_base.specs.declared.reply.Reply.{Reply}

-- a command has at most so many places
abbrev pub MOST_PLACES : ℕ
MOST_PLACES = 2048

-- so many places, the transfer at each, how many places are passed over after the reply at each, what is printed of all
-- replies, and how many bytes that has at most
pub record Dialogue : Type 0 where
  pub places : ℕ
  pub at : ℕ → TransferView
  pub skips : ℕ → Reply → ℕ
  pub lines : List Reply → List (List ℕ)
  pub most : ℕ

-- the place after a reply, and after all of these; it is over where that is none of its places
abbrev pub next_place : Dialogue → ℕ → Reply → ℕ
next_place d k r = k + 1 + d.skips k r

abbrev pub place_after : Dialogue → List Reply → ℕ
place_after d rs = fold (next_place d) 0 rs

abbrev pub is_over : Dialogue → ℕ → Bool
is_over d k = nat_le d.places k

-- its transfers from a place on where none is passed over, and all of them
abbrev pub transfers_behind : Dialogue → ℕ → List TransferView
transfers_behind d k = map d.at (range_with_len k (d.places - k))

abbrev pub transfers_of : Dialogue → List TransferView
transfers_of d = transfers_behind d 0

-- a sum over the transfers from a place on
abbrev pub sum_behind : (TransferView → ℕ) → Dialogue → ℕ → ℕ
sum_behind f d k = sum_by f (transfers_behind d k)

-- two transfers ask for the same, but for the bytes that they write
pub record AreAlike (t u : TransferView) : Type 0 where
  pub bus : t.bus ≡ u.bus
  pub msgs : t.msgs ≡ u.msgs

-- each reply is one that the transfer at its place may get
abbrev pub AreReplies : Dialogue → ℕ → List Reply → Type 0
AreReplies d k [] = ⊤
AreReplies d k (r ∷ rs) = Fits (d.at k) r × AreReplies d (next_place d k r) rs
