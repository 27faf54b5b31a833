-- What a pull, a look and a line come to, by the parts of the lines.
use Rattle.bus_lines.proofs.Cited.{◌≡◌, ℕ, Bool, true, false, cond, refl, sym, ap, ◌∙◌, tick, Bus, bus_of, rejoined, NodeState, node_table}
use Rattle.bus_lines.proofs.Cited.{mask_of, Wire, levelled_bits, world_at, ApartView, apart_of, world_apart, TargetsView, LinesView}
use Rattle.bus_lines.proofs.Cited.{lines_of}
use Rattle.wire_spec.specs.Bus.{edge, each, rises, scl_level, sda_level, pulled, looked}
use Rattle.i2c_bits.specs.Wiring.{wire_pulled, wire_looked, the_table, mask_at, lined}
use Rattle.i2c_bits.specs.Stands.{sites_of}

module _ (t : TargetsView) (w v : Wire) (now new : LinesView) (view : lines_of t w ≡ now) where
  pub pull_is : (scl low clock level : Bool) → clock ≡ scl_level now.bus → level ≡ sda_level node_table now.bus → v ≡ wire_pulled w scl low
      → new ≡ record (lines_of t v) { bus = edge node_table (mask_of t.rooted.board t.rooted.root) clock level (lines_of t v).bus }
      → new.bus ≡ pulled the_table (mask_at now.rooted) now.bus scl low
  unfolding pulled the_table mask_at
  pull_is scl low clock level is_clock is_data wire is =
      ap (λ (l : LinesView). l.bus) is
      ∙ ap (λ (u : Wire). edge node_table (mask_of t.rooted.board t.rooted.root) clock level (lines_of t u).bus) wire
      ∙ ap (λ (c : Bool). edge node_table (mask_of t.rooted.board t.rooted.root) c level (bus_of scl low t.bits t.shown)) is_clock
      ∙ ap (λ (d : Bool). edge node_table (mask_of t.rooted.board t.rooted.root) (scl_level now.bus) d
      (bus_of scl low t.bits t.shown)) is_data
      ∙ ap (λ (l : LinesView). edge node_table (mask_of l.rooted.board l.rooted.root) (scl_level now.bus) (sda_level node_table now.bus)
      (bus_of scl low l.bus.targets l.bus.seen)) view

  abbrev ticked : Bus NodeState → Bus NodeState
  ticked b = cond (scl_level (each tick b)) (rises node_table (each tick b)) (each tick b)

  pub look_low : (clock level : Bool) → clock ≡ scl_level now.bus → clock ≡ false → v ≡ wire_looked w clock level
      → new ≡ record (lines_of t v) { bus = ticked (lines_of t v).bus } → new.bus ≡ looked the_table now.bus
  unfolding looked the_table
  look_low clock level is_clock low wire is =
      ap (λ (l : LinesView). l.bus) is ∙ ap (λ (u : Wire). ticked (lines_of t u).bus) wire ∙ ap (λ (l : LinesView). ticked l.bus) view
      ∙ ap (λ (c : Bool). cond c now.bus (ticked now.bus)) (sym low ∙ is_clock)

  pub look_high : (clock level : Bool) → clock ≡ scl_level now.bus → clock ≡ true → v ≡ wire_looked w clock level
      → (lines_of t v).bus ≡ looked the_table now.bus
  unfolding looked the_table
  look_high clock level is_clock high wire =
      ap (λ (u : Wire). (lines_of t u).bus) wire ∙ ap (λ (l : LinesView). l.bus) view
      ∙ ap (λ (c : Bool). cond c now.bus (ticked now.bus)) (sym high ∙ is_clock)

pub level_is : (b : Bus NodeState) → sda_level node_table b ≡ sda_level the_table b
unfolding the_table
level_is b = refl

pub line_is : (t u : TargetsView) (w : Wire) (now : LinesView) → lines_of t w ≡ now → (m level : ℕ)
    → u ≡ record t { bits = rejoined (mask_of t.rooted.board t.rooted.root) (levelled_bits m level t.bits) }
    → (lines_of u w).bus ≡ lined (mask_at now.rooted) m level now.bus
unfolding lined mask_at
line_is t u w now view m level is =
    ap (λ (x : TargetsView). (lines_of x w).bus) is
    ∙ ap (λ (l : LinesView). bus_of l.bus.scl l.bus.sda (rejoined (mask_of l.rooted.board l.rooted.root)
    (levelled_bits m level l.bus.targets))
    l.bus.seen) view

-- the targets are the same world on the lines and off them
pub apart_is : (t : TargetsView) (w : Wire) (now : LinesView) → lines_of t w ≡ now → (a : ApartView) → a ≡ apart_of t.rooted t.bits
    → (busy : Bool) → world_apart busy a ≡ world_at now.rooted busy now.bus
unfolding sites_of
apart_is t w now view a is busy = ap (world_apart busy) is ∙ ap (λ (l : LinesView). world_at l.rooted busy l.bus) view
