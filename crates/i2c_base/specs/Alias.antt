-- Addresses that stand for others, and a transfer that goes elsewhere.
use Rattle.std.specs.Prelude.{ℕ, ◌==◌, List, map}
use Rattle.std.specs.List.{find}
use Rattle.std.specs.Option.{option_map_or}
use Rattle.i2c_base.specs.declared.alias.AliasPair.{AliasPair}
use Rattle.i2c_base.specs.declared.transfer.Msg.{Msg}
use Rattle.i2c_base.specs.Transfer.{TransferView}

-- the alias of an address, by the first pair that is of it; where none is, the address
abbrev pub alias_of : List AliasPair → ℕ → ℕ
alias_of ps a = option_map_or (λ p. p.alias) (find (λ p. p.addr == a) ps) a

-- a message to another address
abbrev pub readdressed : (ℕ → ℕ) → Msg → Msg
readdressed f m = record m { addr = f m.addr }

-- a transfer on another bus and to other addresses; all else stays
abbrev pub redirected : TransferView → ℕ → (ℕ → ℕ) → TransferView
redirected t bus f = record t { bus = bus; msgs = map (readdressed f) t.msgs }
