-- Worked examples: boards with translators, what is sent on them, and tables of a text.
use Rattle.std.specs.Prelude.{ℕ, false, List, [], ◌∷◌, None, Some, codes, pos}
use Rattle.toml.specs.Data.{Data, Items, Members, no_items, item, no_members, member}
use Rattle.toml.specs.Data.{array, integer, table}
use Rattle.i2c_base.specs.declared.alias.AliasPair.{AliasPair}
use Rattle.i2c_base.specs.declared.board.DeviceKind.{DeviceKind}
use Rattle.i2c_base.specs.declared.board.DeviceKind.TheVariants as kind
use Rattle.i2c_base.specs.declared.board.Idle.TheVariants.{Disconnect}
use Rattle.i2c_base.specs.declared.board.LockMode.TheVariants.{Parent}
use Rattle.i2c_base.specs.declared.board.MuxKind.TheVariants as mux_kind
use Rattle.i2c_base.specs.declared.board.MuxSpec.{MuxSpec}
use Rattle.i2c_base.specs.declared.transfer.TransferKind.TheVariants.{Plain}
use Rattle.i2c_base.specs.declared.transfer.Msg.{Msg}
use Rattle.i2c_base.specs.Board.{BoardView, DeviceView}
use Rattle.i2c_base.specs.Transfer.{TransferView}
use Rattle.addr_atr.specs.Maps.{TranslatorView}

-- DEVICES AND MUXES
abbrev pub device : (bus addr : ℕ) → DeviceKind → DeviceView
device bus addr what = record { bus = bus; addr = addr; bound = false; kind = what; set = [] }

abbrev pub regs : (bus addr : ℕ) → DeviceView
regs bus addr = device bus addr (kind.Regs 0)

abbrev pub gpio : (bus channels : ℕ) → MuxSpec
gpio bus channels =
    record { bus = bus; kind = mux_kind.Gpio; addr = None; channels = channels; lock = Parent; absent = false; foreign = 0; idle = Disconnect }

-- an arbitrator, which has one channel and a chip
abbrev pub arbitrator : MuxSpec
arbitrator = record (gpio 0 1) { kind = mux_kind.Pca9541; addr = Some 0x74 }

abbrev pub board : List MuxSpec → List DeviceView → BoardView
board muxes devices = record { version = 1; roots = (record { smbus_only = false }) ∷ []; muxes = muxes; devices = devices }

-- on the root, bus 0, two gpio muxes with one channel each, so buses 1 and 2, and a sensor; on each child bus a device at 0x20
abbrev pub two_muxes : BoardView
two_muxes = board (gpio 0 1 ∷ gpio 0 1 ∷ []) (regs 1 0x20 ∷ regs 2 0x20 ∷ device 0 0x48 (kind.Lm75 0) ∷ [])

-- one mux, and an smbus device behind it
abbrev pub smbus_behind : BoardView
smbus_behind = board (gpio 0 1 ∷ []) (device 1 0x20 (kind.Smbus 1 0) ∷ [])

-- .. and an smbus device on the root, beside the one behind it
abbrev pub smbus_beside : BoardView
smbus_beside = board (gpio 0 1 ∷ []) (device 0 0x21 (kind.Smbus 1 0) ∷ regs 1 0x20 ∷ [])

-- a mux on the child bus of mux 0, and a device behind it
abbrev pub mux_behind : BoardView
mux_behind = board (gpio 0 1 ∷ gpio 1 1 ∷ []) (regs 2 0x20 ∷ [])

-- PAIRS AND TRANSLATORS
abbrev pub to : (addr alias : ℕ) → AliasPair
to addr alias = record { addr = addr; alias = alias }

abbrev pub at : (mux : ℕ) → List AliasPair → TranslatorView
at mux pairs = record { mux = mux; pairs = pairs }

-- 0x20 behind mux 0 is reached at 0x40, and behind mux 1 at 0x41
abbrev pub first : TranslatorView
first = at 0 (to 0x20 0x40 ∷ [])

abbrev pub second : TranslatorView
second = at 1 (to 0x20 0x41 ∷ [])

abbrev pub both : List TranslatorView
both = first ∷ second ∷ []

-- TRANSFERS with these messages, which write 5
abbrev pub sent : (bus : ℕ) → List Msg → TransferView
sent bus msgs = record { bus = bus; kind = Plain; force = false; msgs = msgs; out = 5 ∷ [] }

-- TABLES of a text
abbrev pub two : Data → Data → Data
two x y = array (item x (item y no_items))

abbrev pub number : ℕ → Data
number n = integer (pos n)

-- the value of 'pairs' with one pair
abbrev pub one_pair : Data → Data
one_pair p = array (item p no_items)

abbrev pub entry : Data → Data → Members
entry mux pairs = member (codes "mux") mux (member (codes "pairs") pairs no_members)

-- mux 0, and the pair of 0x20 with 0x40
abbrev pub good : Members
good = entry (number 0) (one_pair (two (number 0x20) (number 0x40)))

abbrev pub items_of : List Members → Items
items_of [] = no_items
items_of (t ∷ ts) = item (table t) (items_of ts)

-- a document with these tables
abbrev pub document : List Members → Members
document ts = member (codes "atr") (array (items_of ts)) no_members
