-- The targets of a root as its board is opened.
use Rattle.bus_lines.proofs.Cited.{◌≡◌, ℕ, suc, Bool, false, List, [], ◌∷◌, ◌++◌, map, refl, sym, ap, ◌∙◌, subst, arith, MuxSpec, BoardView}
use Rattle.bus_lines.proofs.Cited.{DeviceView, AllByRecursion, ChipView, IsPlainBoard, TargetState, Out, Site, Bit, at, Seen, Bus, bus_of}
use Rattle.bus_lines.proofs.Cited.{rejoined, free, NodeState, Device, site_with, both, mask_of, PartsOfBoth, Rooted, Wire, TargetsView}
use Rattle.bus_lines.proofs.Cited.{LinesView, lines_of, chips_on, world_at, chip_bit, device_bit, bits_of}
use Rattle.std.specs.List.{All}
use Rattle.i2c_spec.specs.Plain.{IsPlainDevice}
use Rattle.i2c_spec.specs.Targets.{HoldsBytes}
use Rattle.i2c_spec.specs.World.{opening_world}
use Rattle.i2c_spec.proofs.StateLemmas.{opening-bytes}
use Rattle.wire_spec.specs.Sites.{chip_site, device_site, opened_chips, opened_devices}
use Rattle.wire_spec.specs.WorldLaws.{OpenedSites}
use Rattle.wire_spec.proofs.SiteLemmas.{rejoin_both}
use Rattle.i2c_bits.specs.Stands.{IsFree}
use Rattle.i2c_bits.proofs.Stops.{all_joined, rejoined_out}
use Rattle.i2c_bits.proofs.Told.{On, on_lines, world_on, told_on}
use Rattle.bus_lines.specs.Opens.{opened_targets}

-- ---- the lines are free
device_bits : (ds : List DeviceView) → map device_bit ds ≡ map (at Out) (map (site_with Device) (map device_site ds))
device_bits [] = refl
device_bits (d ∷ ds) = ap (λ bs. device_bit d ∷ bs) (device_bits ds)

all_bits : (ms : List MuxSpec) (ds : List DeviceView)
    → (map chip_bit ms ++ map device_bit ds) ≡ map (at Out) (both (map chip_site ms) (map device_site ds))
all_bits [] ds = device_bits ds
all_bits (m ∷ ms) ds = ap (λ bs. chip_bit m ∷ bs) (all_bits ms ds)

all_opened : (ds : List DeviceView) → All IsPlainDevice ds → AllByRecursion (λ (s : Site TargetState). HoldsBytes s.state)
    (map device_site ds)
all_opened [] all = tt
all_opened (d ∷ ds) all = (opening-bytes d (all 0 d (omega arith)), all_opened ds (λ i x lt. all (suc i) x (omega (arith, lt))))

module _ (b : BoardView) (r : ℕ) (plain : IsPlainBoard b) (parts : (cs : List (Site ChipView)) (ds : List (Site TargetState))
    → PartsOfBoth cs ds)
    (opened : OpenedSites b r) where
  abbrev k : Rooted
  k = record { board = b; root = r }

  abbrev chips : List (Site ChipView)
  chips = opened_chips b r

  abbrev devices : List (Site TargetState)
  devices = opened_devices b r

  abbrev none : Seen
  none = []

  abbrev w : Bus NodeState
  w = bus_of false false (rejoined (mask_of b r) (bits_of b)) none

  on_wires : rejoined (mask_of b r) (bits_of b) ≡ map (at Out) (both chips devices)
  on_wires =
      ap (rejoined (mask_of b r)) (all_bits b.muxes b.devices)
      ∙ rejoined_out (mask_of b r) (both (map chip_site b.muxes) (map device_site b.devices))
      ∙ ap (map (at Out)) (rejoin_both b r (map chip_site b.muxes) (map device_site b.devices))

  on : On w chips devices
  on = on_lines parts w chips devices Out on_wires

  pub opened_world : world_at k false w ≡ opening_world b r
  opened_world = world_on k false w chips devices on ∙ opened.world

  pub opened_free : IsFree k w
  opened_free = record {
    lines =
        ap (λ (xs : List (Bit NodeState)). bus_of false false xs none) on_wires
        ∙ (ap (λ xs. free (both xs devices) none) (sym on.chips)
        ∙ ap (λ ys. free (both (chips_on w) ys) none) (sym on.devices));
    told = told_on k w chips devices on
        (record { sites = opened.are; bytes = all_joined _ 0 (map device_site b.devices) (all_opened b.devices plain.devices) });
    nobody = ap (λ v. v.hearing) opened_world;
  }

  module _ (t : TargetsView) (u v : Wire) (targets : t ≡ opened_targets b r) (wire : u ≡ v) (scl : v.scl ≡ false)
      (sda : v.sda ≡ false) where
    same : lines_of t u ≡ record { rooted = k; bus = w; wire = v }
    same =
        ap (λ (x : TargetsView). lines_of x u) targets
        ∙ ap (λ (x : Wire). lines_of (opened_targets b r) x) wire
        ∙ ap (λ (x : Bool). record { rooted = k; bus = bus_of x v.sda (opened_targets b r).bits none; wire = v }) scl
        ∙ ap (λ (x : Bool). record { rooted = k; bus = bus_of false x (opened_targets b r).bits none; wire = v }) sda

    pub free_lines : IsFree t.rooted (lines_of t u).bus
    free_lines = subst (λ (l : LinesView). IsFree l.rooted l.bus) (sym same) opened_free

    pub lines_world : world_at t.rooted false (lines_of t u).bus ≡ opening_world b r
    lines_world = ap (λ (l : LinesView). world_at l.rooted false l.bus) same ∙ opened_world
