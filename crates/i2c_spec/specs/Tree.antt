-- The board as a tree of buses (Linux i2c-topology). Buses are numbered: the roots first, then each mux's
-- channels, in the order of the board file.
use Rattle.std.specs.Prelude.{◌≡◌, ℕ, ◌+◌, ◌-◌, ◌==◌, nat_le, nat_lt, Bool, true, false, not, ◌&&◌, ◌||◌, ◌⊎◌, List, [], ◌∷◌, length, map, reverse, Option, None, Some, unwrap_or, slice_get, if◌then◌else◌}
use Rattle.std.specs.Option.{option_map}
use Rattle.std.specs.List.{sum_by, list_any}
use Rattle.i2c_base.specs.declared.board.LockMode.{LockMode}
use Rattle.i2c_base.specs.declared.board.LockMode.TheVariants.{Parent, Mux}
use Rattle.i2c_base.specs.declared.board.MuxKind.{MuxKind}
use Rattle.i2c_base.specs.declared.board.Idle.{Idle}
use Rattle.i2c_base.specs.declared.board.Idle.TheVariants.{Disconnect, AsIs}
use Rattle.i2c_base.specs.declared.board.MuxSpec.{MuxSpec}
use Rattle.i2c_base.specs.declared.ids.LockId.{LockId}
use Rattle.i2c_base.specs.declared.ids.LockId.TheVariants as lock
use Rattle.i2c_base.specs.Board.{BoardView, DeviceView}
use Rattle.i2c_base.specs.Limits.{POLLS}

-- a mux crossed on the way from a bus to its root
pub record Hop : Type 0 where
  -- the bus behind it, and the channel that leads there
  pub bus : ℕ
  pub mux : ℕ
  pub channel : ℕ
  -- the bus that the mux stands on
  pub on : ℕ
  -- it is parent-locked
  pub parent : Bool
  pub kind : MuxKind
  -- it stays as it is when idle
  pub stays : Bool

-- how many buses there are with these muxes
abbrev pub buses_of : ℕ → List MuxSpec → ℕ
buses_of roots ms = roots + sum_by (λ m. m.channels) ms

abbrev pub buses : BoardView → ℕ
buses b = buses_of (length b.roots) b.muxes

abbrev pub is_parent : LockMode → Bool
is_parent Parent = true
is_parent Mux = false

-- the mux keeps its last channel when idle
abbrev pub is_staying : Idle → Bool
is_staying Disconnect = false
is_staying AsIs = true

-- the hop over bus s, which is a channel of the mux that comes behind these muxes
abbrev pub hop_at : ℕ → List MuxSpec → MuxSpec → ℕ → Hop
hop_at roots before m s =
    record {
      bus = s;
      mux = length before;
      channel = s - buses_of roots before;
      on = m.bus;
      parent = is_parent m.lock;
      kind = m.kind;
      stays = is_staying m.idle;
    }

-- one more in front, where the test says so
abbrev pub put_if : {X : Type 0} → Bool → X → List X → List X
put_if true x xs = x ∷ xs
put_if false x xs = xs

-- the muxes over a bus, nearest first: from the last mux of the board back, each that has the bus among its
-- channels is crossed to the bus that it stands on
abbrev pub hops_of : ℕ → List MuxSpec → ℕ → List Hop
hops_of roots [] s = []
hops_of roots (m ∷ before) s =
    put_if (nat_le (buses_of roots before) s) (hop_at roots before m s)
    (hops_of roots before (if nat_le (buses_of roots before) s then m.bus else s))

abbrev pub hops : BoardView → ℕ → List Hop
hops b s = hops_of (length b.roots) (reverse b.muxes) s

-- some mux stays as it is when idle
abbrev pub stays_in : List MuxSpec → Bool
stays_in ms = list_any (λ m. is_staying m.idle) ms

-- the mux over a bus, none for a root
abbrev pub over : BoardView → ℕ → Option Hop
over b s = slice_get (hops b s) 0

-- the buses from the root to s, s included
abbrev pub path : BoardView → ℕ → List ℕ
path b s = reverse (s ∷ map (λ h. h.on) (hops b s))

abbrev pub depth : BoardView → ℕ → ℕ
depth b s = length (hops b s)

-- the bus at the end of these hops
abbrev pub end_of : ℕ → List Hop → ℕ
end_of s [] = s
end_of s (h ∷ hs) = end_of h.on hs

abbrev pub root_of : BoardView → ℕ → ℕ
root_of b s = end_of s (hops b s)

-- the same of a number that may be no bus: none
abbrev pub root_named : BoardView → ℕ → Option ℕ
root_named b s = if nat_lt s (buses b) then Some (root_of b s) else None

-- u is strictly over s
abbrev pub is_below : BoardView → ℕ → ℕ → Bool
is_below b s u = list_any (λ h. h.on == u) (hops b s)

-- u is on the path of s
abbrev pub is_on_path : BoardView → ℕ → ℕ → Bool
is_on_path b s u = (u == s) || is_below b s u

-- one of the two lies on the path of the other
abbrev pub is_along : BoardView → ℕ → ℕ → Bool
is_along b s t = is_on_path b s t || is_on_path b t s

-- these hops cross mux m
abbrev pub crosses_mux : ℕ → List Hop → Bool
crosses_mux m hs = list_any (λ h. h.mux == m) hs

-- a hop through a mux that stays as it is, and isn't over the path of s
abbrev pub is_kept_hop : BoardView → ℕ → Hop → Bool
is_kept_hop b s h = h.stays && not (crosses_mux h.mux (hops b s))

-- bus u is aside of s: on the same root, below a mux that stays as it is and isn't over the path of s
abbrev pub is_aside : BoardView → ℕ → ℕ → Bool
is_aside b s u = (root_of b u == root_of b s) && list_any (is_kept_hop b s) (hops b u)

-- what the board says of mux m
abbrev pub of_mux : {X : Type 0} → (MuxSpec → X) → X → BoardView → ℕ → X
of_mux f missing b m = unwrap_or (option_map f (slice_get b.muxes m)) missing

-- its chip is absent; it is an arbitrator that stays with its other controller for good
abbrev pub is_absent : BoardView → ℕ → Bool
is_absent b m = of_mux (λ x. x.absent) true b m

abbrev pub is_held : BoardView → ℕ → Bool
is_held b m = of_mux (λ x. x.foreign == POLLS) false b m

-- it stays as it is when idle
abbrev pub is_left_open : BoardView → ℕ → Bool
is_left_open b m = of_mux (λ x. is_staying x.idle) false b m

-- the bus that it stands on, and its address
abbrev pub home_of_mux : BoardView → ℕ → ℕ
home_of_mux b m = of_mux (λ x. x.bus) 0 b m

abbrev pub addr_of_mux : BoardView → ℕ → Option ℕ
addr_of_mux b m = of_mux (λ x. x.addr) None b m

abbrev pub of_device : {X : Type 0} → (DeviceView → X) → X → BoardView → ℕ → X
of_device f missing b d = unwrap_or (option_map f (slice_get b.devices d)) missing

-- the locks of a transfer at the end of these hops, in the order in which they are taken (i2c-topology): the
-- lock of the muxes on each bus that is crossed, up to the first mux-locked one; the wires' lock of the root
-- where there is none
abbrev pub locks_of : ℕ → List Hop → List LockId
locks_of root [] = lock.Bus root ∷ []
locks_of root (h ∷ hs) = lock.Mux h.on ∷ (if h.parent then locks_of root hs else [])

-- some hop stands on bus u; some hop is h
abbrev pub Crosses : ℕ → List Hop → Type 0
Crosses u [] = ⊥
Crosses u (h ∷ hs) = (h.on ≡ u) ⊎ Crosses u hs

abbrev pub IsAmongHops : Hop → List Hop → Type 0
IsAmongHops g [] = ⊥
IsAmongHops g (h ∷ hs) = (g ≡ h) ⊎ IsAmongHops g hs

-- u is on the path of t, and: one of the two is on the path of the other
abbrev pub IsOver : BoardView → ℕ → ℕ → Type 0
IsOver b u t = (u ≡ t) ⊎ Crosses u (hops b t)

abbrev pub IsAlong : BoardView → ℕ → ℕ → Type 0
IsAlong b s t = IsOver b s t ⊎ IsOver b t s

-- what may be joined while a message is sent on bus s: what lies along it, and what is aside of it
abbrev pub MayJoin : BoardView → ℕ → ℕ → Type 0
MayJoin b s u = IsAlong b s u ⊎ (is_aside b s u ≡ true)

-- no two of these hops stand on one bus
abbrev pub IsApart : List Hop → Type 0
IsApart [] = Unit {0}
IsApart (h ∷ hs) = (Crosses h.on hs → ⊥) × IsApart hs
