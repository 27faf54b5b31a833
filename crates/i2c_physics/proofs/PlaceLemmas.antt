-- Where a target stands, by its place: the world says the same by its number.
use Rattle.i2c_physics.proofs.Cited.{◌≡◌, ℕ, ◌<◌, Bool, false, ◌&&◌, List, length, map, Some, refl, ◌∙◌, ap, not, slice_get, is_some}
use Rattle.i2c_physics.proofs.Cited.{list_all, option_map, option_map_or, slice_get-map, DeviceView, has_address, root_of, World}
use Rattle.i2c_physics.proofs.Cited.{joins_chip, joins_device, chip_start, device_start, start_event, stop_event, PlaceView, mux_place}
use Rattle.i2c_physics.proofs.Cited.{device_place, joins, joins_at, has_at}
use Rattle.std.proofs.Common.{◌==◌}
use Rattle.i2c_base.proofs.ListLemmas.{there}
use Rattle.i2c_base.specs.declared.board.MuxSpec.{MuxSpec}
use Rattle.i2c_spec.specs.Tree.{hops}
use Rattle.i2c_spec.specs.World.{opens_hop}
use mathlib.Core.Bool.{and_assoc}

joins_mux : (w : World) (m : ℕ) (x : MuxSpec) → slice_get w.board.muxes m ≡ Some x
    → joins w.chips (mux_place w.board w.root x) ≡ joins_chip w m
joins_mux w m x is =
    rw is (and_assoc (not x.absent && is_some x.addr) (root_of w.board x.bus == w.root) (list_all (opens_hop w.chips) (hops w.board x.bus)))

placed_mux : (w : World) (places : List PlaceView) (m : ℕ) (x : MuxSpec) → places ≡ map (mux_place w.board w.root) w.board.muxes
    → slice_get w.board.muxes m ≡ Some x → slice_get places m ≡ Some (mux_place w.board w.root x)
placed_mux w places m x are is =
    ap (λ ps. slice_get ps m) are ∙ slice_get-map (mux_place w.board w.root) w.board.muxes m ∙ ap (option_map (mux_place w.board w.root)) is

joins_at_mux : (w : World) (places : List PlaceView) (m : ℕ) (x : MuxSpec) → places ≡ map (mux_place w.board w.root) w.board.muxes
    → slice_get w.board.muxes m ≡ Some x → joins_at w.chips places m ≡ joins_chip w m
joins_at_mux w places m x are is = ap (λ o. option_map_or (joins w.chips) o false) (placed_mux w places m x are is) ∙ joins_mux w m x is

start_mux : (w : World) (places : List PlaceView) (a : ℕ) (reading : Bool) (m : ℕ) (x : MuxSpec)
    → places ≡ map (mux_place w.board w.root) w.board.muxes
    → slice_get w.board.muxes m ≡ Some x
    → start_event (joins_at w.chips places m) (has_at a places m) reading ≡ chip_start w a reading m
start_mux w places a reading m x are is =
    let has : has_at a places m ≡ has_address a x.addr = ap (λ o. option_map_or (λ p. has_address a p.addr) o false)
    (placed_mux w places m x are is) in
    rw (joins_at_mux w places m x are is, has, is) refl

joins_at_device : (w : World) (places : List PlaceView) (d : ℕ) (x : DeviceView)
    → places ≡ map (device_place w.board w.root) w.board.devices
    → slice_get w.board.devices d ≡ Some x → joins_at w.chips places d ≡ joins_device w d
joins_at_device w places d x are is = rw (are, slice_get-map, is) refl

start_device : (w : World) (places : List PlaceView) (a : ℕ) (reading : Bool) (d : ℕ) (x : DeviceView)
    → places ≡ map (device_place w.board w.root) w.board.devices
    → slice_get w.board.devices d ≡ Some x
    → start_event (joins_at w.chips places d) (has_at a places d) reading ≡ device_start w a reading d
start_device w places a reading d x are is = rw (joins_at_device w places d x are is, are, slice_get-map, is) refl

module _ (w : World) (places : List PlaceView) (k : ℕ) where
  module _ (are : places ≡ map (mux_place w.board w.root) w.board.muxes) (low : k < length w.board.muxes) where
    pub chip-started : (a : ℕ) (reading : Bool)
        → start_event (joins_at w.chips places k) (has_at a places k) reading ≡ chip_start w a reading k
    chip-started a reading = let x = there w.board.muxes k low in start_mux w places a reading k x.0 are x.1

    pub chip-stopped : stop_event (joins_at w.chips places k) ≡ stop_event (joins_chip w k)
    chip-stopped = let x = there w.board.muxes k low in ap stop_event (joins_at_mux w places k x.0 are x.1)

  module _ (are : places ≡ map (device_place w.board w.root) w.board.devices) (low : k < length w.board.devices) where
    pub device-started : (a : ℕ) (reading : Bool)
        → start_event (joins_at w.chips places k) (has_at a places k) reading ≡ device_start w a reading k
    device-started a reading = let x = there w.board.devices k low in start_device w places a reading k x.0 are x.1

    pub device-stopped : stop_event (joins_at w.chips places k) ≡ stop_event (joins_device w k)
    device-stopped = let x = there w.board.devices k low in ap stop_event (joins_at_device w places k x.0 are x.1)
