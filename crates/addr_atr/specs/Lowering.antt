-- What a map of translators makes of a board and of a transfer.
use Rattle.std.specs.Prelude.{◌≡◌, ℕ, ◌==◌, Bool, true, false, ◌&&◌, ◌||◌, not, List, [], ◌∷◌, ◌++◌, map, length, slice_get, Option, Some, None, All, if◌then◌else◌}
use Rattle.std.specs.List.{list_any, list_all}
use Rattle.std.specs.Option.{option_map_or}
use Rattle.i2c_base.specs.declared.board.DeviceKind.{DeviceKind}
use Rattle.i2c_base.specs.declared.board.DeviceKind.TheVariants as kind
use Rattle.i2c_base.specs.declared.board.MuxKind.{MuxKind}
use Rattle.i2c_base.specs.declared.board.MuxKind.TheVariants as mux_kind
use Rattle.i2c_base.specs.Addr.{IsTargetAddress}
use Rattle.i2c_base.specs.Alias.{alias_of, redirected}
use Rattle.i2c_base.specs.Board.{BoardView, DeviceView}
use Rattle.i2c_base.specs.Transfer.{TransferView}
use Rattle.i2c_spec.specs.Tree.{Hop, over}
use Rattle.addr_atr.specs.declared.fault.MapFault.{MapFault}
use Rattle.addr_atr.specs.declared.fault.MapFault.TheVariants as map_fault
use Rattle.i2c_base.specs.declared.alias.AliasPair.{AliasPair}
use Rattle.addr_atr.specs.Maps.{TranslatorView, Route, route_of}

-- THE LOWERED BOARD: each device on a translator's child bus stands on the mux's bus at its alias; numbers, order and
-- muxes stay
abbrev pub moved : Option Route → DeviceView → DeviceView
moved None d = d
moved (Some r) d = record d { bus = r.bus; addr = alias_of r.pairs d.addr }

abbrev pub lowered_device : BoardView → List TranslatorView → DeviceView → DeviceView
lowered_device b ts d = moved (route_of b ts d.bus) d

abbrev pub lowered : BoardView → List TranslatorView → BoardView
lowered b ts = record b { devices = map (lowered_device b ts) b.devices }

-- THE TRANSLATED TRANSFER: one on a child bus goes to the mux's bus, each paired address as its alias; any other stays
abbrev pub sent_by : Option Route → TransferView → TransferView
sent_by None t = t
sent_by (Some r) t = redirected t r.bus (alias_of r.pairs)

abbrev pub translated : BoardView → List TranslatorView → TransferView → TransferView
translated b ts t = sent_by (route_of b ts t.bus) t

-- WHAT A MAP HAS TO BE
-- a bus is a child of mux m
abbrev pub is_over : ℕ → Option Hop → Bool
is_over m None = false
is_over m (Some h) = h.mux == m

abbrev pub is_child : BoardView → ℕ → ℕ → Bool
is_child b m s = is_over m (over b s)

-- a mux is a gpio with one channel
abbrev pub is_gpio : MuxKind → Bool
is_gpio mux_kind.Gpio = true
is_gpio mux_kind.Pca9548 = false
is_gpio mux_kind.Pca9546 = false
is_gpio mux_kind.Pca9544 = false
is_gpio mux_kind.Pca9541 = false

abbrev pub is_single : BoardView → ℕ → Bool
is_single b m = option_map_or (λ x. is_gpio x.kind && (x.channels == 1)) (slice_get b.muxes m) false

-- an earlier translator is of this mux
abbrev pub is_named : List TranslatorView → ℕ → Bool
is_named before m = list_any (λ t. t.mux == m) before

-- a mux stands on the child bus
abbrev pub is_parent_bus : BoardView → ℕ → Bool
is_parent_bus b m = list_any (λ x. is_child b m x.bus) b.muxes

abbrev pub may_translate : BoardView → List TranslatorView → ℕ → Bool
may_translate b before m = is_single b m && (not (is_named before m) && not (is_parent_bus b m))

abbrev pub is_smbus : DeviceKind → Bool
is_smbus (kind.Smbus width flip) = true
is_smbus _ = false

abbrev pub is_paired : List AliasPair → ℕ → Bool
is_paired ps a = list_any (λ p. p.addr == a) ps

-- no address stands in two pairs
abbrev pub are_distinct : List AliasPair → Bool
are_distinct [] = true
are_distinct (p ∷ ps) = not (is_paired ps p.addr) && are_distinct ps

-- a device on the child bus of mux m has this address
abbrev pub has_child : BoardView → ℕ → ℕ → Bool
has_child b m a = list_any (λ d. is_child b m d.bus && (d.addr == a)) b.devices

-- a device that isn't on the child bus, or one that has a pair and keeps no address of its own
abbrev pub is_served : BoardView → TranslatorView → DeviceView → Bool
is_served b t d = not (is_child b t.mux d.bus) || (is_paired t.pairs d.addr && not (is_smbus d.kind))

-- the addresses of the pairs are those of the devices on the child bus, each once, and none of these is an smbus device
abbrev pub are_pairs_of : BoardView → TranslatorView → Bool
are_pairs_of b t =
    list_all (λ p. has_child b t.mux p.addr) t.pairs && (list_all (is_served b t) b.devices && are_distinct t.pairs)

-- the first fault, translator by translator, each beside those before it
abbrev pub fault_after : BoardView → List TranslatorView → List TranslatorView → Option MapFault
fault_after b before [] = None
fault_after b before (t ∷ ts) =
    if not (may_translate b before t.mux) then Some (map_fault.Mux (length before))
    else if not (are_pairs_of b t) then Some (map_fault.Pairs (length before))
    else fault_after b (before ++ t ∷ []) ts

abbrev pub AreAddresses : List AliasPair → Type 0
AreAddresses ps = (All (λ p. IsTargetAddress p.addr) ps) × All (λ p. IsTargetAddress p.alias) ps

-- a map of this board: its translators are gpio muxes with one channel, each once, with no mux on the child bus; the addresses of the
-- pairs are those of the devices there, each once, and no smbus device is among these; the aliases are addresses of targets
pub record IsMap (b : BoardView) (ts : List TranslatorView) : Type 0 where
  pub fits : fault_after b [] ts ≡ None
  pub addresses : All (λ t. AreAddresses t.pairs) ts

-- the address of each message is paired
abbrev pub IsPaired : Route → TransferView → Type 0
IsPaired r t = All (λ m. is_paired r.pairs m.addr ≡ true) t.msgs
