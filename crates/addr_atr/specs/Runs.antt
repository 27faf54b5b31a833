-- Callers behind translators, one transfer at a time.
use Rattle.std.specs.Prelude.{◌≡◌, ℕ, List, Some}
use Rattle.std.specs.Option.{option_map}
use Rattle.i2c_base.specs.declared.reply.Reply.{Reply}
use Rattle.i2c_base.specs.Board.{BoardView}
use Rattle.i2c_base.specs.Transfer.{TransferView}
use Rattle.i2c_spec.specs.History.{Asks}
use Rattle.addr_atr.specs.Lowering.{translated, IsPaired}
use Rattle.addr_atr.specs.Maps.{TranslatorView, Route, route_of}

-- what the callers ask for, translated
abbrev pub translated_asks : BoardView → List TranslatorView → Asks → Asks
translated_asks b ts asks = λ c rs. option_map (translated b ts) (asks c rs)

-- each transfer is on a translator's child bus, and its addresses are all paired
abbrev pub AsksBehind : BoardView → List TranslatorView → Asks → Type 0
AsksBehind b ts asks = (c : ℕ) (rs : List Reply) (t : TransferView) → asks c rs ≡ Some t
    → (r : Route) × (route_of b ts t.bus ≡ Some r) × IsPaired r t
