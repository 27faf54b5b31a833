-- What a pass over muxes and devices has found so far: the hops over all buses, and to whom an address leads.
use Rattle.std.specs.Prelude.{ℕ, ◌+◌, ◌==◌, zero, suc, Bool, not, ◌&&◌, ◌||◌, List, [], ◌∷◌, ◌++◌, length, if◌then◌else◌}
use Rattle.std.specs.List.{list_any, position_from}
use Rattle.i2c_base.specs.declared.board.MuxSpec.{MuxSpec}
use Rattle.i2c_base.specs.declared.tree.Grant.{Grant}
use Rattle.i2c_base.specs.declared.tree.Grant.TheVariants as grant
use Rattle.i2c_base.specs.Board.{BoardView, DeviceView}
use Rattle.i2c_spec.specs.Grant.{named_by}
use Rattle.i2c_spec.specs.Tree.{Hop, buses_of, is_parent, is_staying, is_on_path, is_below, is_aside}

-- the hops over the first n channels of mux k, whose channels begin at a bus, by the numbers of their buses
abbrev pub channel_hop : (first k : ℕ) → MuxSpec → ℕ → Hop
channel_hop first k m n =
    record {
      bus = first + n;
      mux = k;
      channel = n;
      on = m.bus;
      parent = is_parent m.lock;
      kind = m.kind;
      stays = is_staying m.idle;
    }

abbrev pub channel_hops : (first k : ℕ) → MuxSpec → ℕ → List Hop
channel_hops first k m zero = []
channel_hops first k m (suc n) = channel_hops first k m n ++ channel_hop first k m n ∷ []

-- the hop over each bus behind the roots, by the numbers of the buses. The muxes are given from the last one back
abbrev pub hops_by_bus : ℕ → List MuxSpec → List Hop
hops_by_bus roots [] = []
hops_by_bus roots (m ∷ before) =
    hops_by_bus roots before ++ channel_hops (buses_of roots before) (length before) m m.channels

-- what is on bus u is heard on bus s, which isn't below it: it is below s, or aside of it
abbrev pub is_beside : BoardView → ℕ → ℕ → Bool
is_beside b s u = is_below b u s || is_aside b s u

-- what these devices alone say of an address
abbrev pub device_grant : BoardView → List DeviceView → ℕ → ℕ → Bool → Grant
device_grant b ds s a force =
    if list_any (λ d. (d.addr == a) && is_beside b s d.bus) ds then grant.Busy
    else if not force && list_any (λ d. d.bound && ((d.addr == a) && is_on_path b s d.bus)) ds then grant.Busy
    else named_by (position_from (λ d. (d.addr == a) && is_on_path b s d.bus) 0 ds)

-- device n alone
abbrev pub grant_by : BoardView → ℕ → DeviceView → ℕ → ℕ → Bool → Grant
grant_by b n d s a force =
    if not (d.addr == a) then grant.Nobody
    else if is_beside b s d.bus then grant.Busy
    else if not (is_on_path b s d.bus) then grant.Nobody
    else if d.bound && not force then grant.Busy
    else grant.Named n

-- what two searches say together: the first of two devices
abbrev pub joined : Grant → Grant → Grant
joined grant.Busy g = grant.Busy
joined grant.Nobody g = g
joined (grant.Named d) grant.Busy = grant.Busy
joined (grant.Named d) grant.Nobody = grant.Named d
joined (grant.Named d) (grant.Named e) = grant.Named d
