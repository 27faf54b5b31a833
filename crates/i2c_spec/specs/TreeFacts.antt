-- What the laws of the bus take of a board's tree, and nothing else of the board.
use Rattle.std.specs.Prelude.{◌≡◌, ℕ, ◌<◌, true, false, List, [], ◌∷◌, Option, Some, None, length}
use Rattle.i2c_base.specs.declared.ids.Node.{Node}
use Rattle.i2c_base.specs.declared.ids.Node.TheVariants as node
use Rattle.i2c_base.specs.declared.board.MuxKind.TheVariants.{Pca9548}
use Rattle.i2c_base.specs.Muxes.{facts_of}
use Rattle.i2c_base.specs.Board.{BoardView}
use Rattle.i2c_spec.specs.Tree.{Hop, hops, buses, root_of, is_parent, is_left_open, crosses_mux, of_mux, of_device, home_of_mux, addr_of_mux, IsAmongHops, IsApart, IsOver, IsAlong}

-- the bus that a target stands on, and its address; none where the board has no such target, or it has none
abbrev pub home_of : BoardView → Node → ℕ
home_of b (node.Chip m) = home_of_mux b m
home_of b (node.Device d) = of_device (λ x. x.bus) 0 b d

abbrev pub addr_of : BoardView → Node → Option ℕ
addr_of b (node.Chip m) = addr_of_mux b m
addr_of b (node.Device d) = of_device (λ x. Some x.addr) None b d

-- a hop is what the board says of its mux
pub record IsHop (b : BoardView) (h : Hop) : Type 0 where
  pub mux : h.mux < length b.muxes
  pub home : home_of_mux b h.mux ≡ h.on
  pub parent : of_mux (λ m. Some (is_parent m.lock)) None b h.mux ≡ Some h.parent
  pub kind : of_mux (λ m. Some m.kind) None b h.mux ≡ Some h.kind
  pub stays : is_left_open b h.mux ≡ h.stays

pub record IsTree (b : BoardView) : Type 0 where
  -- the first hop over a bus leads to it, from a bus before it, and the hops behind are those over that bus
  pub leads : (s : ℕ) (h : Hop) (hs : List Hop) → hops b s ≡ h ∷ hs → (h.bus ≡ s) × (h.on < s)
  pub tail : (s : ℕ) (h : Hop) (hs : List Hop) → hops b s ≡ h ∷ hs → hops b h.on ≡ hs
  -- the hops over a bus stand on different buses, and each is what the board says of its mux; over a bus that is there
  -- each has a channel of its mux
  pub apart : (s : ℕ) → IsApart (hops b s)
  pub hop : (s : ℕ) (h : Hop) → IsAmongHops h (hops b s) → IsHop b h
  pub within : (s : ℕ) (h : Hop) → s < buses b → IsAmongHops h (hops b s) → h.channel < of_mux (λ m. m.channels) 0 b h.mux
  -- a mux and a channel lead to one bus
  pub channel : (s t : ℕ) (g h : Hop) → IsAmongHops g (hops b s) → IsAmongHops h (hops b t)
      → g.mux ≡ h.mux → g.channel ≡ h.channel → g ≡ h
  -- the root is over each bus, is a root, and is the same all along a path
  pub root_over : (s : ℕ) → IsOver b (root_of b s) s
  pub root_is : (s : ℕ) → s < buses b → root_of b s < length b.roots
  pub root_same : (s : ℕ) (h : Hop) → IsAmongHops h (hops b s) → root_of b h.on ≡ root_of b s
  -- a bus without a hop over it is a root
  pub root_hops : (s : ℕ) → s < length b.roots → hops b s ≡ []
  -- no address stands on two targets of which one's bus lies on the other's path
  pub addresses : (x y : Node) (a : ℕ) → addr_of b x ≡ Some a → addr_of b y ≡ Some a
      → IsAlong b (home_of b x) (home_of b y) → x ≡ y
  -- no target below a mux that stays as it is has the address of a target of the same root that isn't
  pub aside : (k : ℕ) (x y : Node) (a : ℕ) → is_left_open b k ≡ true → addr_of b x ≡ Some a → addr_of b y ≡ Some a
      → root_of b (home_of b x) ≡ root_of b (home_of b y)
      → crosses_mux k (hops b (home_of b x)) ≡ true → crosses_mux k (hops b (home_of b y)) ≡ false → ⊥
  -- an arbitrator doesn't stay as it is
  pub asking : (m : ℕ) → (facts_of (of_mux (λ x. x.kind) Pca9548 b m)).asks ≡ true → is_left_open b m ≡ false
