-- A byte with its acknowledge clock, and what it comes to on told lines: a put, or a get, in the world.
use Rattle.std.proofs.Common.{◌≡◌, ℕ, ◌<◌, Bool, true, false, cond, List, [], ◌∷◌, map, refl, ap, sym, ◌∙◌, arith, subst}
use Rattle.std.specs.Prelude.{not, Result, Ok, Err}
use Rattle.std.specs.List.{AllByRecursion}
use Rattle.i2c_base.specs.declared.event.Event.TheVariants.{Put, Get}
use Rattle.i2c_spec.specs.Chips.{ChipView, chip_table}
use Rattle.i2c_spec.specs.Targets.{TargetState, state_table, HoldsBytes}
use Rattle.i2c_spec.specs.World.{takes, gives}
use Rattle.wire_spec.specs.declared.mode.Mode.{Mode}
use Rattle.wire_spec.specs.declared.mode.Mode.TheVariants.{Out, In, Give}
use Rattle.wire_spec.specs.Wires.{Site, Bit, bits, shifted, puts, gets}
use Rattle.wire_spec.specs.Roots.{at, hearing, put_site, get_site}
use Rattle.wire_spec.specs.Bus.{Seen, Bus, Came, came_up, gave_up, bit_step, bit_steps, then_bits}
use Rattle.wire_spec.specs.Calls.{byte_seen, within, sent_byte, read_byte, then_answer}
use Rattle.wire_spec.specs.Sites.{NodeState, node_table, both, chips_in, devices_in, world_by, mask_of}
use Rattle.wire_spec.specs.WorldLaws.{PartsOfBoth, PutOnSites, GetOnSites}
use Rattle.i2c_bits.specs.Wiring.{Rooted, the_table, mask_at, came_acked, CameRead}
use Rattle.i2c_bits.specs.Stands.{AreTold, BytesAreInWorld, StandsIn, PutTold, GetTold, sites_of, chips_on, devices_on, world_at}
use Rattle.i2c_bits.specs.declared.lines.Lines.{Ghosts as LinesGhosts}
use Rattle.i2c_bits.specs.declared.lines.SclTimeout.{SclTimeout}
use mathlib.Core.Bool.{not-not}

-- a byte of which the eight bits are made, and then the ninth clock; or of which SCL stays low in the eight
module _ {L : Type 0} (g : LinesGhosts L) (old eight : L) where
  pub sent_cut : (byte : ℕ) → gave_up (g.bus eight) ≡ bit_steps the_table (mask_at (g.board old)) 0 (bits 8 byte) (g.bus old)
      → gave_up (g.bus eight) ≡ sent_byte the_table (mask_at (g.board old)) byte (g.bus old)
  sent_cut byte e = ap (λ c. then_bits c (bit_step the_table (mask_at (g.board old)) 0 true c.bus)) e

  pub read_cut : (ack : Bool) (low : SclTimeout)
      → gave_up (g.bus eight) ≡ bit_steps the_table (mask_at (g.board old)) 0 (bits 8 255) (g.bus old)
      → CameRead (Err low) (g.bus eight) (read_byte the_table (mask_at (g.board old)) ack (g.bus old))
  read_cut ack low e =
      let is : gave_up (g.bus eight) ≡ read_byte the_table (mask_at (g.board old)) ack (g.bus old) =
      ap (λ c. then_answer c (bit_step the_table (mask_at (g.board old)) 0 (not ack) c.bus)) e in
      (sym (ap (λ c. c.up) is), ap (λ c. c.bus) is)

  module _ (nine : L) (same : g.board eight ≡ g.board old) where
    then_sent : (byte n : ℕ) → came_up n (g.bus eight) ≡ bit_steps the_table (mask_at (g.board old)) 0 (bits 8 byte) (g.bus old)
        → (ninth : Came NodeState) → ninth ≡ bit_step the_table (mask_at (g.board eight)) 0 true (g.bus eight)
        → ninth ≡ sent_byte the_table (mask_at (g.board old)) byte (g.bus old)
    then_sent byte n e ninth f =
        f
        ∙ (ap (λ m. bit_step the_table (mask_at m) 0 true (g.bus eight)) same
        ∙ ap (λ c. then_bits c (bit_step the_table (mask_at (g.board old)) 0 true c.bus)) e)

    pub sent_up : (byte n : ℕ) (level : Bool)
        → came_up n (g.bus eight) ≡ bit_steps the_table (mask_at (g.board old)) 0 (bits 8 byte) (g.bus old)
        → came_up (shifted 0 level) (g.bus nine) ≡ bit_step the_table (mask_at (g.board eight)) 0 true (g.bus eight)
        → came_acked (Ok (not level)) (g.bus nine) ≡ sent_byte the_table (mask_at (g.board old)) byte (g.bus old)
    sent_up byte n level e f =
        ap (λ b. came_up (shifted 0 b) (g.bus nine)) (not-not level) ∙ then_sent byte n e (came_up (shifted 0 level) (g.bus nine)) f

    pub sent_low : (byte n : ℕ) → came_up n (g.bus eight) ≡ bit_steps the_table (mask_at (g.board old)) 0 (bits 8 byte) (g.bus old)
        → gave_up (g.bus nine) ≡ bit_step the_table (mask_at (g.board eight)) 0 true (g.bus eight)
        → gave_up (g.bus nine) ≡ sent_byte the_table (mask_at (g.board old)) byte (g.bus old)
    sent_low byte n e f = then_sent byte n e (gave_up (g.bus nine)) f

    then_read : (byte : ℕ) (ack : Bool)
        → came_up byte (g.bus eight) ≡ bit_steps the_table (mask_at (g.board old)) 0 (bits 8 255) (g.bus old)
        → (ninth : Came NodeState) → ninth ≡ bit_step the_table (mask_at (g.board eight)) 0 (not ack) (g.bus eight)
        → then_answer (came_up byte (g.bus eight)) ninth ≡ read_byte the_table (mask_at (g.board old)) ack (g.bus old)
    then_read byte ack e ninth f =
        ap (λ c. then_answer (came_up byte (g.bus eight)) c)
        (f ∙ ap (λ m. bit_step the_table (mask_at m) 0 (not ack) (g.bus eight)) same)
        ∙ ap (λ c. then_answer c (bit_step the_table (mask_at (g.board old)) 0 (not ack) c.bus)) e

    pub read_up : (byte : ℕ) (ack level : Bool)
        → came_up byte (g.bus eight) ≡ bit_steps the_table (mask_at (g.board old)) 0 (bits 8 255) (g.bus old)
        → came_up (shifted 0 level) (g.bus nine) ≡ bit_step the_table (mask_at (g.board eight)) 0 (not ack) (g.bus eight)
        → came_up byte (g.bus nine) ≡ read_byte the_table (mask_at (g.board old)) ack (g.bus old)
    read_up byte ack level e f = then_read byte ack e (came_up (shifted 0 level) (g.bus nine)) f

    pub read_low : (low : SclTimeout) (byte : ℕ) (ack : Bool)
        → came_up byte (g.bus eight) ≡ bit_steps the_table (mask_at (g.board old)) 0 (bits 8 255) (g.bus old)
        → gave_up (g.bus nine) ≡ bit_step the_table (mask_at (g.board eight)) 0 (not ack) (g.bus eight)
        → CameRead (Err low) (g.bus nine) (read_byte the_table (mask_at (g.board old)) ack (g.bus old))
    read_low low byte ack e f =
        let is : record { up = false; read = byte; bus = g.bus nine } ≡ read_byte the_table (mask_at (g.board old)) ack (g.bus old) =
        then_read byte ack e (gave_up (g.bus nine)) f in
        (sym (ap (λ c. c.up) is), ap (λ c. c.bus) is)

-- ---- the sites on the lines
pub sites_map : (m : Mode) (ss : List (Site NodeState)) → map {A = Bit NodeState} (λ (b : Bit NodeState). b.site) (map (at m) ss) ≡ ss
sites_map m [] = refl
sites_map m (s ∷ ss) = ap (λ xs. s ∷ xs) (sites_map m ss)

sites_at : (w : Bus NodeState) (m : Mode) (ss : List (Site NodeState)) → w.targets ≡ map (at m) ss → sites_of w ≡ ss
unfolding sites_of
sites_at w m ss is = ap (map {A = Bit NodeState} (λ (b : Bit NodeState). b.site)) is ∙ sites_map m ss

-- these chips and devices stand there
pub record On (w : Bus NodeState) (cs : List (Site ChipView)) (ds : List (Site TargetState)) : Type 0 where
  pub chips : chips_on w ≡ cs
  pub devices : devices_on w ≡ ds

module _ (parts : (cs : List (Site ChipView)) (ds : List (Site TargetState)) → PartsOfBoth cs ds) (w : Bus NodeState)
    (cs : List (Site ChipView)) (ds : List (Site TargetState)) where
  pub on_lines : (m : Mode) → w.targets ≡ map (at m) (both cs ds) → On w cs ds
  on_lines m is = record {
    chips = ap chips_in (sites_at w m (both cs ds) is) ∙ (parts cs ds).chips;
    devices = ap devices_in (sites_at w m (both cs ds) is) ∙ (parts cs ds).devices;
  }

pub world_on : (k : Rooted) (busy : Bool) (w : Bus NodeState) (cs : List (Site ChipView)) (ds : List (Site TargetState)) → On w cs ds
    → world_at k busy w ≡ world_by k.board k.root busy cs ds
world_on k busy w cs ds on =
    ap (λ xs. world_by k.board k.root busy xs (devices_on w)) on.chips ∙ ap (world_by k.board k.root busy cs) on.devices

pub told_on : (k : Rooted) (w : Bus NodeState) (cs : List (Site ChipView)) (ds : List (Site TargetState)) → On w cs ds → AreTold k cs ds
    → AreTold k (chips_on w) (devices_on w)
told_on k w cs ds on told =
    subst (λ (xs : List (Site ChipView)). AreTold k xs (devices_on w)) (sym on.chips)
    (subst (λ (ys : List (Site TargetState)). AreTold k cs ys) (sym on.devices) told)

pub stands_on : (k : Rooted) (m : Mode) (w : Bus NodeState) (low : Bool) (c : Seen) (cs : List (Site ChipView))
    (ds : List (Site TargetState))
    → On w cs ds → w ≡ within m low (both cs ds) c → AreTold k cs ds → StandsIn k m w
stands_on k m w low c cs ds on is told = record {
  lines =
      is
      ∙ (ap (λ xs. within m low (both xs ds) c) (sym on.chips)
      ∙ (ap (λ ys. within m low (both (chips_on w) ys) c) (sym on.devices)
      ∙ (ap (λ b. within m b (both (chips_on w) (devices_on w)) c) (sym (ap (λ x. x.sda) is))
      ∙ ap (within m w.sda (both (chips_on w) (devices_on w))) (sym (ap (λ x. x.seen) is)))));
  told = told_on k w cs ds on told;
}

-- ---- what devices hold stays bytes
pub all_kept : (f : Site TargetState → Site TargetState) → ((s : Site TargetState) → HoldsBytes s.state → HoldsBytes (f s).state)
    → (ds : List (Site TargetState)) → AllByRecursion (λ (s : Site TargetState). HoldsBytes s.state) ds
    → AllByRecursion (λ (s : Site TargetState). HoldsBytes s.state) (map f ds)
all_kept f keeps [] all = tt
all_kept f keeps (d ∷ ds) all = (keeps d all.0, all_kept f keeps ds all.1)

pub kept_where : (b : Bool) (s s1 : Site TargetState) → HoldsBytes s.state → (HoldsBytes s.state → HoldsBytes s1.state)
    → HoldsBytes (cond b s1 s).state
kept_where true s s1 old new = new old
kept_where false s s1 old new = old

-- ---- a put, and a get
pub shifted_same : (a b : Bool) → shifted 0 (not a) ≡ shifted 0 (not b) → a ≡ b
shifted_same true true h = refl
shifted_same false false h = refl
shifted_same true false h = absurd (omega arith)
shifted_same false true h = absurd (omega arith)

module _ (law : BytesAreInWorld) (k : Rooted) (w w1 : Bus NodeState) where
  -- the sites after a put, and after a get
  abbrev chips_put : ℕ → List (Site ChipView)
  chips_put byte = map (put_site chip_table byte) (chips_on w)

  abbrev devices_put : ℕ → List (Site TargetState)
  devices_put byte = map (put_site state_table byte) (devices_on w)

  abbrev chips_got : Bool → List (Site ChipView)
  chips_got ack = map (get_site chip_table ack) (chips_on w)

  abbrev devices_got : Bool → List (Site TargetState)
  devices_got ack = map (get_site state_table ack) (devices_on w)

  put_comes : (byte : ℕ) → byte < 256 → StandsIn k (In false 8 0) w → (c : Came NodeState)
      → c ≡ sent_byte the_table (mask_at k) byte w
      → c ≡ came_up (shifted 0 (not (takes (world_at k true w) byte)))
      (within (In false 8 0) false (both (chips_put byte) (devices_put byte)) (byte_seen byte (takes (world_at k true w) byte) w.seen))
  unfolding the_table mask_at
  put_comes byte lt stands c is =
      is ∙ (ap (sent_byte node_table (mask_of k.board k.root) byte) stands.lines
      ∙ law.put_wires k.board k.root byte lt true w.sda (chips_on w) (devices_on w) w.seen)

  pub put_told : (byte : ℕ) → byte < 256 → StandsIn k (In false 8 0) w → (r : Result Bool SclTimeout)
      → came_acked r w1 ≡ sent_byte the_table (mask_at k) byte w → PutTold k r byte w w1
  put_told byte lt stands (Err e) is =
      let p : false ≡ true = ap (λ c. c.up) (put_comes byte lt stands (gave_up w1) is) in cc
  put_told byte lt stands (Ok acked) is =
      let comes = put_comes byte lt stands (came_up (shifted 0 (not acked)) w1) is in
      let site : PutOnSites k.board k.root true byte (chips_on w) (devices_on w) = law.put_sites k.board k.root true byte (chips_on w)
      (devices_on w) in
      let on : On w1 (chips_put byte) (devices_put byte) =
      on_lines law.parts w1 (chips_put byte) (devices_put byte) (In false 8 0) (ap (λ c. c.bus.targets) comes) in
      let took : acked ≡ takes (world_at k true w) byte = shifted_same acked (takes (world_at k true w) byte) (ap (λ c. c.read) comes) in
      record {
        answer = took;
        stands = stands_on k (In false 8 0) w1 false (byte_seen byte (takes (world_at k true w) byte) w.seen) (chips_put byte) (devices_put byte) on (ap (λ c. c.bus) comes)
            (record {
              sites = site.kept stands.told.sites;
              bytes = all_kept (put_site state_table byte)
                  (λ s old. kept_where (hearing s) s (puts state_table s byte) old (λ is. law.kept.after s.state (Put byte) lt is))
                  (devices_on w) stands.told.bytes;
            });
        world = world_on k true w1 (chips_put byte) (devices_put byte) on ∙ site.world;
        seen = ap (λ c. c.bus.seen) comes ∙ ap (λ a. byte_seen byte a w.seen) (sym took);
      }

  get_comes : (ack : Bool) → StandsIn k (Give 8) w
      → read_byte the_table (mask_at k) ack w
      ≡ came_up (gives (world_at k true w))
      (within (cond ack (Give 8) Out) ack (both (chips_got ack) (devices_got ack)) (byte_seen (gives (world_at k true w)) ack w.seen))
  unfolding the_table mask_at
  get_comes ack stands =
      ap (read_byte node_table (mask_of k.board k.root) ack) stands.lines
      ∙ law.get_wires k.board k.root true ack w.sda (chips_on w) (devices_on w) w.seen

  pub get_told : (ack : Bool) → StandsIn k (Give 8) w → (r : Result ℕ SclTimeout)
      → CameRead r w1 (read_byte the_table (mask_at k) ack w) → GetTold k r ack w w1
  get_told ack stands (Err e) is =
      let p : false ≡ true = sym is.0 ∙ ap (λ c. c.up) (get_comes ack stands) in cc
  get_told ack stands (Ok byte) is =
      let comes = is ∙ get_comes ack stands in
      let site : GetOnSites k.board k.root true ack (chips_on w) (devices_on w) = law.get_sites k.board k.root true ack (chips_on w)
      (devices_on w) in
      let m : Mode = cond ack (Give 8) Out in
      let on : On w1 (chips_got ack) (devices_got ack) =
      on_lines law.parts w1 (chips_got ack) (devices_got ack) m (ap (λ c. c.bus.targets) comes) in
      record {
        answer = ap (λ c. c.read) comes;
        stands = stands_on k m w1 ack (byte_seen (gives (world_at k true w)) ack w.seen) (chips_got ack) (devices_got ack) on (ap (λ c. c.bus) comes)
            (record {
              sites = site.kept stands.told.sites;
              bytes = all_kept (get_site state_table ack)
                  (λ s old. kept_where (hearing s) s (gets state_table s ack) old (λ is. law.kept.after s.state (Get ack) tt is))
                  (devices_on w) stands.told.bytes;
            });
        world = world_on k true w1 (chips_got ack) (devices_got ack) on ∙ site.world;
        seen = ap (λ c. c.bus.seen) comes ∙ ap (λ b. byte_seen b ack w.seen) (sym (ap (λ c. c.read) comes));
      }
