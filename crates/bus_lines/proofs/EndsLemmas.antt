-- A start and a stop within a message, all pulls and looks at once: what they come to on the lines.
use Rattle.bus_lines.proofs.Cited.{◌≡◌, ℕ, ◌+◌, Bool, true, false, List, [], ◌∷◌, map, refl, sym, ap, ◌∙◌, inl, inr, Ok, Mode, Out, In}
use Rattle.bus_lines.proofs.Cited.{Site, Bit, site_of, begin, finish, where_joined, at, Seen, Level, Started, Stopped, Bus, bus_of}
use Rattle.bus_lines.proofs.Cited.{rejoin_from, rejoined, calling, released, free, NodeState, node_table, both, mask_of, Rooted, Wire}
use Rattle.bus_lines.proofs.Cited.{StandsIn, chips_on, devices_on, TargetsView, LinesView, lines_of}
use Rattle.wire_spec.specs.Roots.{stop_site}
use Rattle.wire_spec.specs.Calls.{within_address, joined_from, rejoin, start_pulls, repeated_start, stop_pulls}
use Rattle.wire_spec.specs.Laws.{StartCallsAll, RepeatedStartCallsAll, StopFreesTheLines}
use Rattle.i2c_bits.specs.Showing.{begun_seen}
use Rattle.i2c_bits.specs.Wiring.{CameBegin, the_table, mask_at}
use Rattle.i2c_bits.specs.Stands.{MayBegin, MayEnd}
use Rattle.bus_lines.specs.LinesViews.{wire_begun, wire_ended, rise_if}

-- ---- a start
begin_at : (m : Mode) (a : ℕ) (j h : Bool) (x : NodeState) → where_joined begin (at m (site_of a j h x)) ≡ calling 8 0 (site_of a j h x)
begin_at m a true h x = refl
begin_at m a false h x = refl

begins_at : (m : Mode) (ss : List (Site NodeState)) → map (where_joined begin) (map (at m) ss) ≡ map (calling 8 0) ss
begins_at m [] = refl
begins_at m (s ∷ ss) = rw (begin_at m s.addr s.joined s.heard s.state, begins_at m ss) refl

begins_by : (busy : Bool) (c : Seen) → Started ∷ rise_if busy true c ≡ begun_seen busy c
begins_by true c = refl
begins_by false c = refl

-- where it may be made all stand alike
stand_alike : (busy : Bool) (k : Rooted) (w : Bus NodeState) → MayBegin busy k w
    → (m : Mode) × (w.targets ≡ map (at m) (both (chips_on w) (devices_on w)))
stand_alike false k w may = (Out, ap (λ (b : Bus NodeState). b.targets) may.lines)
stand_alike true k w (inl may) = (In false 8 0, ap (λ (b : Bus NodeState). b.targets) may.lines)
stand_alike true k w (inr may) = (Out, ap (λ (b : Bus NodeState). b.targets) may.lines)

pub begin_is : (t u x : TargetsView) (w v : Wire) (now : LinesView) → lines_of t w ≡ now → (busy : Bool) → MayBegin busy now.rooted now.bus
    → u ≡ record t { shown = rise_if busy true t.shown }
    → x ≡ record u { bits = map (where_joined begin) u.bits; shown = Started ∷ u.shown } → v ≡ wire_begun w busy
    → bus_of v.scl v.sda x.bits x.shown ≡ within_address 8 0 true (both (chips_on now.bus) (devices_on now.bus))
    (begun_seen busy now.bus.seen)
begin_is t u x w v now view busy may counted is wire =
    let ss : List (Site NodeState) = both (chips_on now.bus) (devices_on now.bus) in
    let alike = stand_alike busy now.rooted now.bus may in
    let there : t.bits ≡ map (at alike.0) ss = ap (λ (l : LinesView). l.bus.targets) view ∙ alike.1 in
    let leaves : x.bits ≡ map (calling 8 0) ss =
    ap (λ (y : TargetsView). y.bits) is ∙ ap (λ (y : TargetsView). map (where_joined begin) y.bits) counted
    ∙ ap (map (where_joined begin)) there ∙ begins_at alike.0 ss in
    let shows : x.shown ≡ begun_seen busy now.bus.seen =
    ap (λ (y : TargetsView). y.shown) is ∙ ap (λ (y : TargetsView). Started ∷ y.shown) counted ∙ begins_by busy t.shown
    ∙ ap (λ (l : LinesView). begun_seen busy l.bus.seen) view in
    ap (λ (y : Wire). bus_of y.scl y.sda x.bits x.shown) wire ∙ ap (λ bs. bus_of true true bs x.shown) leaves
    ∙ ap (within_address 8 0 true ss) shows

-- so it is what the pulls and looks come to
pub came_begin : StartCallsAll node_table → RepeatedStartCallsAll node_table (In false 8 0) → RepeatedStartCallsAll node_table Out
    → (k : Rooted) (w w1 : Bus NodeState) (busy : Bool) → MayBegin busy k w
    → w1 ≡ within_address 8 0 true (both (chips_on w) (devices_on w)) (begun_seen busy w.seen) → CameBegin busy (Ok tt) k w w1
unfolding the_table
came_begin start written out k w w1 false may is =
    is ∙ sym (ap (start_pulls node_table (mask_at k)) may.lines ∙ start (mask_at k) (both (chips_on w) (devices_on w)) w.seen)
came_begin start written out k w w1 true (inl may) is =
    ap (λ (b : Bus NodeState). (true, b)) is
    ∙ sym (ap (repeated_start node_table (mask_at k)) may.lines ∙ written (mask_at k) w.sda (both (chips_on w) (devices_on w)) w.seen)
came_begin start written out k w w1 true (inr may) is =
    ap (λ (b : Bus NodeState). (true, b)) is
    ∙ sym (ap (repeated_start node_table (mask_at k)) may.lines ∙ out (mask_at k) w.sda (both (chips_on w) (devices_on w)) w.seen)

-- ---- a stop
finish_at : (m : Mode) (a : ℕ) (j h : Bool) (x : NodeState)
    → where_joined (finish node_table) (at m (site_of a j h x)) ≡ released (stop_site node_table (site_of a j h x))
finish_at m a true h x = refl
finish_at m a false h x = refl

finishes_at : (m : Mode) (ss : List (Site NodeState))
    → map (where_joined (finish node_table)) (map (at m) ss) ≡ map released (map (stop_site node_table) ss)
finishes_at m [] = refl
finishes_at m (s ∷ ss) = rw (finish_at m s.addr s.joined s.heard s.state, finishes_at m ss) refl

sites_released : (ss : List (Site NodeState)) → map {A = Bit NodeState} (λ (b : Bit NodeState). b.site) (map released ss) ≡ ss
sites_released [] = refl
sites_released (s ∷ ss) = ap (λ xs. s ∷ xs) (sites_released ss)

out_at : (a : ℕ) (j : Bool) (x : NodeState) → released (site_of a j false x) ≡ at Out (site_of a j false x)
out_at a true x = refl
out_at a false x = refl

rejoin_released : (f : ℕ → Bool) (k : ℕ) (ss : List (Site NodeState)) → rejoin_from f k (map released ss) ≡ map (at Out)
    (joined_from f k ss)
rejoin_released f k [] = refl
rejoin_released f k (s ∷ ss) =
    ap (λ (b : Bit NodeState). b ∷ rejoin_from f (k + 1) (map released ss)) (out_at s.addr (f k) s.state)
    ∙ ap (λ (bs : List (Bit NodeState)). at Out (site_of s.addr (f k) false s.state) ∷ bs) (rejoin_released f (k + 1) ss)

rejoined_at : (mask : List (Site NodeState) → ℕ → Bool) (ss : List (Site NodeState)) → rejoined mask (map released ss) ≡ map (at Out)
    (rejoin mask ss)
rejoined_at mask ss = ap (λ xs. rejoin_from (mask xs) 0 (map released ss)) (sites_released ss) ∙ rejoin_released (mask ss) 0 ss

module _ (t u x : TargetsView) (w v : Wire) (now : LinesView) (view : lines_of t w ≡ now)
    (counted : u ≡ record t { shown = rise_if true false t.shown })
    (is : x ≡ record u {
      bits = rejoined (mask_of u.rooted.board u.rooted.root) (map (where_joined (finish node_table)) u.bits);
      shown = Stopped ∷ u.shown;
    }) (wire : v ≡ wire_ended w) where
  end_by : (m : Mode) → StopFreesTheLines node_table m → StandsIn now.rooted m now.bus
      → ◌≡◌ {A = Bool × Bus NodeState} (true, bus_of v.scl v.sda x.bits x.shown) (stop_pulls the_table (mask_at now.rooted) now.bus)
  unfolding the_table mask_at
  end_by m law stands =
      let ss : List (Site NodeState) = both (chips_on now.bus) (devices_on now.bus) in
      let mask = mask_of now.rooted.board now.rooted.root in
      let there : t.bits ≡ map (at m) ss = ap (λ (l : LinesView). l.bus.targets) view
      ∙ ap (λ (b : Bus NodeState). b.targets) stands.lines in
      let leaves : x.bits ≡ map (at Out) (rejoin mask (map (stop_site node_table) ss)) =
      ap (λ (y : TargetsView). y.bits) is
      ∙ ap (λ (y : TargetsView). rejoined (mask_of y.rooted.board y.rooted.root) (map (where_joined (finish node_table)) y.bits)) counted
      ∙ ap (λ (l : LinesView). rejoined (mask_of l.rooted.board l.rooted.root) (map (where_joined (finish node_table)) t.bits)) view
      ∙ ap (λ bs. rejoined mask (map (where_joined (finish node_table)) bs)) there
      ∙ ap (rejoined mask) (finishes_at m ss) ∙ rejoined_at mask (map (stop_site node_table) ss) in
      let shows : x.shown ≡ Stopped ∷ Level false ∷ now.bus.seen =
      ap (λ (y : TargetsView). y.shown) is ∙ ap (λ (y : TargetsView). Stopped ∷ y.shown) counted
      ∙ ap (λ (l : LinesView). Stopped ∷ Level false ∷ l.bus.seen) view in
      ap (λ (b : Bus NodeState). (true, b))
      (ap (λ (y : Wire). bus_of y.scl y.sda x.bits x.shown) wire ∙ ap (λ bs. bus_of false false bs x.shown) leaves
      ∙ ap (free (rejoin mask (map (stop_site node_table) ss))) shows)
      ∙ sym (ap (stop_pulls node_table mask) stands.lines ∙ law mask now.bus.sda ss now.bus.seen)

  pub end_is : StopFreesTheLines node_table (In false 8 0) → StopFreesTheLines node_table Out → MayEnd false now.rooted now.bus
      → ◌≡◌ {A = Bool × Bus NodeState} (true, bus_of v.scl v.sda x.bits x.shown) (stop_pulls the_table (mask_at now.rooted) now.bus)
  end_is written out (inl stands) = end_by (In false 8 0) written stands
  end_is written out (inr stands) = end_by Out out stands
