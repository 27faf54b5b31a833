-- The targets of a root as its board is opened: no message has reached anyone.
use Rattle.bus_lines.proofs.Cited.{◌≡◌, ℕ, zero, suc, ◌==◌, ◌<◌, List, [], ◌∷◌, ◌++◌, map, get_or, Some, None, refl, sym, ap, ◌∙◌, subst}
use Rattle.bus_lines.proofs.Cited.{slice_get, MuxSpec, BoardView, DeviceView, Bit, NodeState, Device, NO_ADDRESS, is_among, chip_bit}
use Rattle.bus_lines.proofs.Cited.{device_at, kept_device, kept_bits, root_of, IsCalm}
use Rattle.std.specs.Prelude.{Bool, true, false}
use Rattle.i2c_spec.proofs.StateLemmas.{opening-quiet}
use Rattle.bus_lines.proofs.StopLemmas.{AreLoose}

abbrev AreCalm : List (Bit NodeState) → Type 0
AreCalm bs = (k : ℕ) (b : Bit NodeState) → slice_get bs k ≡ Some b → IsCalm b

chip_calm : (m : MuxSpec) → IsCalm (chip_bit m)
chip_calm m = record { out = refl; deaf = refl; quiet = record { other = refl; stop = refl } }

device_calm : (w : Bool) (d : DeviceView) → IsCalm (device_at w d)
device_calm false d = record { out = refl; deaf = refl; quiet = record { other = refl; stop = refl } }
device_calm true d =
    let quiet = opening-quiet d in
    record { out = refl; deaf = refl; quiet = record { other = ap Device quiet.other; stop = ap Device quiet.stop } }

calm_more : (b : Bit NodeState) (bs : List (Bit NodeState)) → IsCalm b → AreCalm bs → AreCalm (b ∷ bs)
calm_more b bs calm rest zero c is = subst IsCalm (let e : Some b ≡ Some c = is in let f : b ≡ c = cc in f) calm
calm_more b bs calm rest (suc k) c is = rest k c is

devices_calm : (x : BoardView) (r : ℕ) (ds : List DeviceView) → AreCalm (map (kept_device x r) ds)
devices_calm x r [] k b is = absurd (let e : None ≡ Some b = is in cc)
devices_calm x r (d ∷ ds) k b is =
    calm_more (kept_device x r d) (map (kept_device x r) ds) (device_calm (root_of x d.bus == r) d) (devices_calm x r ds) k b is

all_calm : (x : BoardView) (r : ℕ) (ms : List MuxSpec) (ds : List DeviceView) → AreCalm (map chip_bit ms ++ map (kept_device x r) ds)
all_calm x r [] ds k b is = devices_calm x r ds k b is
all_calm x r (m ∷ ms) ds k b is =
    calm_more (chip_bit m) (map chip_bit ms ++ map (kept_device x r) ds) (chip_calm m) (all_calm x r ms ds) k b is

pub opened_loose : (b : BoardView) (r : ℕ) (bs : List (Bit NodeState)) (at : List (List ℕ)) (live started : List ℕ) → bs ≡ kept_bits b r
    → ((k : ℕ) (c : Bit NodeState) → slice_get bs k ≡ Some c → (a : ℕ) → a < NO_ADDRESS → is_among (get_or at a []) k ≡ (a == c.site.addr))
    → AreLoose live started at bs
unfolding AreLoose
opened_loose b r bs at live started are listed k c is =
    let calm = all_calm b r b.muxes b.devices k c (ap (λ xs. slice_get xs k) (sym are) ∙ is) in
    record { out = λ out. calm.out; calm = λ out. calm; listed = listed k c is }
