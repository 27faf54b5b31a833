-- A start with its address byte, and what it comes to on told lines.
use Rattle.std.proofs.Common.{◌≡◌, ℕ, ◌<◌, ◌/◌, Bool, true, false, cond, List, [], ◌∷◌, map, refl, ap, sym, ◌∙◌, arith, subst, inl}
use Rattle.std.proofs.Common.{inr}
use Rattle.std.specs.Prelude.{not, ◌&&◌, ◌||◌, ◌⊎◌, Result, Ok, Err}
use Rattle.std.specs.List.{AllByRecursion}
use Rattle.i2c_base.specs.Board.{BoardView}
use Rattle.i2c_base.specs.Table.{Table}
use Rattle.i2c_base.specs.declared.event.Event.TheVariants.{Start, Other}
use Rattle.i2c_base.specs.declared.event.Answer.{Answer}
use Rattle.i2c_base.specs.declared.event.Answer.TheVariants.{Ack, Nack, Slow, Byte, Nothing}
use Rattle.i2c_spec.specs.Chips.{ChipView, chip_table}
use Rattle.i2c_spec.specs.Targets.{TargetState, state_table, HoldsBytes, KeepsBytes}
use Rattle.i2c_spec.specs.World.{is_ack, is_slow}
use Rattle.wire_spec.specs.declared.mode.Mode.{Mode}
use Rattle.wire_spec.specs.declared.mode.Mode.TheVariants.{Out, In}
use Rattle.wire_spec.specs.Wires.{Site, Bit, LOOKS, bits, shifted, hears, other, is_named, is_reading}
use Rattle.wire_spec.specs.Roots.{some_one, hearing}
use Rattle.wire_spec.specs.Bus.{Seen, Level, Started, with_levels, Bus, Came, came_up, gave_up, bit_step, bit_steps}
use Rattle.wire_spec.specs.Started.{started, answers_so, answer_by, late, late_if, late_bus, rose, stays, entered_by}
use Rattle.wire_spec.specs.Calls.{byte_seen, within, within_address, start_pulls, let_both, repeated_start, sent_byte}
use Rattle.wire_spec.specs.Sites.{NodeState, node_table, both, chips_in, devices_in, mask_of, AreSites, NO_ADDRESS}
use Rattle.wire_spec.specs.Laws.{StartCallsAll, RepeatedStartCallsAll, UnheardIsOut}
use Rattle.wire_spec.specs.WorldLaws.{PartsOfBoth, StartOnSites}
use Rattle.wire_spec.specs.CallLaws.{StartOnWires, SlowOnWires, answer_to}
use Rattle.wire_spec.proofs.StartClocks.{address_bits}
use Rattle.i2c_bits.specs.Wiring.{Rooted, the_table, mask_at, CameAnswer, CameStart}
use Rattle.i2c_bits.specs.Showing.{begun_seen, called_seen}
use Rattle.i2c_bits.specs.Stands.{AreTold, StandsIn, MayBegin, CalledTold, StartIs, StartTold, sites_of, chips_on, devices_on}
use Rattle.i2c_bits.specs.declared.lines.Lines.{Ghosts as LinesGhosts}
use Rattle.i2c_bits.specs.declared.lines.SclTimeout.{SclTimeout}
use Rattle.i2c_bits.proofs.Told.{On, on_lines, world_on, stands_on, all_kept, kept_where, shifted_same, sent_up}
use Rattle.std.proofs.lemmas.Bool.{or_from, and_right}
use Rattle.wire_spec.proofs.AckClock.{or_left, or_right}

-- ---- a start, and a repeated one
pub again_up : (t : Table NodeState) (k k1 : Rooted) (w w1 w2 : Bus NodeState) (level : Bool) → k1 ≡ k
    → came_up (shifted 0 level) w1 ≡ let_both t (mask_at k) w → w2 ≡ start_pulls t (mask_at k1) w1
    → ◌≡◌ {A = Bool × Bus NodeState} (true, w2) (repeated_start t (mask_at k) w)
again_up t k k1 w w1 w2 level same e f =
    ap (λ (x : Bus NodeState). (true, x)) (f ∙ ap (λ m. start_pulls t (mask_at m) w1) same)
    ∙ ap (λ (c : Came NodeState). (c.up, start_pulls t (mask_at k) c.bus)) e

pub again_low : (t : Table NodeState) (k : Rooted) (w w1 : Bus NodeState) → gave_up w1 ≡ let_both t (mask_at k) w
    → (repeated_start t (mask_at k) w).0 ≡ false
again_low t k w w1 e = sym (ap (λ (c : Came NodeState). c.up) e)

pub called_free : StartCallsAll node_table → (k : Rooted) (w w1 : Bus NodeState) → MayBegin false k w
    → w1 ≡ start_pulls the_table (mask_at k) w
    → w1 ≡ within_address 8 0 true (both (chips_on w) (devices_on w)) (Started ∷ w.seen)
unfolding the_table
called_free law k w w1 free is =
    is ∙ (ap (start_pulls node_table (mask_at k)) free.lines ∙ law (mask_at k) (both (chips_on w) (devices_on w)) w.seen)

called_within : (m : Mode) → RepeatedStartCallsAll node_table m → (k : Rooted) (w w1 : Bus NodeState) → StandsIn k m w
    → (r : Result (Unit {0}) SclTimeout) → CameStart r w1 (repeated_start the_table (mask_at k) w) → CalledTold true r w w1
unfolding the_table
called_within m law k w w1 stands (Ok u) is =
    ap (λ (p : Bool × Bus NodeState). p.1)
    (is
    ∙ (ap (repeated_start node_table (mask_at k)) stands.lines
    ∙ law (mask_at k) w.sda (both (chips_on w) (devices_on w)) w.seen))
called_within m law k w w1 stands (Err e) is =
    let p : false ≡ true = sym is ∙ ap (λ (p : Bool × Bus NodeState). p.0)
    (ap (repeated_start node_table (mask_at k)) stands.lines ∙ law (mask_at k) w.sda (both (chips_on w) (devices_on w)) w.seen) in cc

pub called_again : RepeatedStartCallsAll node_table (In false 8 0) → RepeatedStartCallsAll node_table Out
    → (k : Rooted) (w w1 : Bus NodeState)
    → MayBegin true k w → (r : Result (Unit {0}) SclTimeout) → CameStart r w1 (repeated_start the_table (mask_at k) w)
    → CalledTold true r w w1
called_again written out k w w1 (inl stands) r is = called_within (In false 8 0) written k w w1 stands r is
called_again written out k w w1 (inr stands) r is = called_within Out out k w w1 stands r is

pub told_before : (busy : Bool) (k : Rooted) (w : Bus NodeState) → MayBegin busy k w → AreTold k (chips_on w) (devices_on w)
told_before false k w free = free.told
told_before true k w (inl stands) = stands.told
told_before true k w (inr stands) = stands.told

-- ---- an address byte
pub answered : {L : Type 0} (g : LinesGhosts L) (old eight nine : L) → g.board eight ≡ g.board old → (byte n : ℕ) (level is : Bool)
    → level ≡ is → came_up n (g.bus eight) ≡ bit_steps the_table (mask_at (g.board old)) 0 (bits 8 byte) (g.bus old)
    → came_up (shifted 0 level) (g.bus nine) ≡ bit_step the_table (mask_at (g.board eight)) 0 true (g.bus eight)
    → came_up (shifted 0 (not (not is))) (g.bus nine) ≡ sent_byte the_table (mask_at (g.board old)) byte (g.bus old)
answered g old eight nine same byte n level is e f h =
    ap (λ b. came_up (shifted 0 (not (not b))) (g.bus nine)) (sym e) ∙ sent_up g old eight nine same byte n level f h

pub cut_address : {L : Type 0} (g : LinesGhosts L) (old eight : L) (byte : ℕ)
    → gave_up (g.bus eight) ≡ bit_steps the_table (mask_at (g.board old)) 0 (bits 8 byte) (g.bus old)
    → (bit_steps the_table (mask_at (g.board old)) 0 (bits 8 byte) (g.bus old)).up ≡ false
cut_address g old eight byte e = sym (ap (λ (c : Came NodeState). c.up) e)

pub on_board : (r : Result Answer SclTimeout) (w w1 : Bus NodeState) (byte : ℕ) (k k1 : Rooted) → k1 ≡ k
    → CameAnswer r w1 (bit_steps the_table (mask_at k1) 0 (bits 8 byte) w) (sent_byte the_table (mask_at k1) byte w)
    → CameAnswer r w1 (bit_steps the_table (mask_at k) 0 (bits 8 byte) w) (sent_byte the_table (mask_at k) byte w)
on_board r w w1 byte k k1 same is =
    subst (λ (m : Rooted). CameAnswer r w1 (bit_steps the_table (mask_at m) 0 (bits 8 byte) w)
    (sent_byte the_table (mask_at m) byte w)) same is

-- ---- the sites where a start was too slow
late_site : {X : Type 0} (t : Table X) (byte : ℕ) (s : Site X) (joined named : Bool)
    → (late_if t byte s joined named).site ≡ cond joined (cond named (hears t s (is_reading byte)) (other t s)) s
late_site t byte s true true = refl
late_site t byte s true false = refl
late_site t byte s false named = refl

late_sites : (byte : ℕ) (ss : List (Site NodeState))
    → map {A = Bit NodeState} (λ (b : Bit NodeState). b.site) (map (late node_table byte) ss) ≡ map (started node_table byte) ss
late_sites byte [] = refl
late_sites byte (s ∷ ss) =
    ap (λ x. x ∷ map {A = Bit NodeState} (λ (b : Bit NodeState). b.site) (map (late node_table byte) ss))
    (late_site node_table byte s s.joined (is_named byte s))
    ∙ ap (λ xs. started node_table byte s ∷ xs) (late_sites byte ss)

module _ (parts : (cs : List (Site ChipView)) (ds : List (Site TargetState)) → PartsOfBoth cs ds) (k : Rooted) (busy : Bool) (byte : ℕ)
    (cs : List (Site ChipView)) (ds : List (Site TargetState)) (site : StartOnSites k.board k.root busy byte cs ds) where
  late_all : (w : Bus NodeState) (c : Seen) → w ≡ late_bus node_table byte (both cs ds) c
      → sites_of w ≡ both (map (started chip_table byte) cs) (map (started state_table byte) ds)
  unfolding sites_of
  late_all w c is =
      ap (λ (x : Bus NodeState). map {A = Bit NodeState} (λ (b : Bit NodeState). b.site) x.targets) is
      ∙ (late_sites byte (both cs ds) ∙ site.parts)

  pub on_late : (w : Bus NodeState) (c : Seen) → w ≡ late_bus node_table byte (both cs ds) c
      → On w (map (started chip_table byte) cs) (map (started state_table byte) ds)
  on_late w c is = record {
    chips = ap chips_in (late_all w c is) ∙ (parts (map (started chip_table byte) cs) (map (started state_table byte) ds)).chips;
    devices = ap devices_in (late_all w c is) ∙ (parts (map (started chip_table byte) cs) (map (started state_table byte) ds)).devices;
  }

pub started_bytes : KeepsBytes state_table HoldsBytes → (byte : ℕ) (ds : List (Site TargetState))
    → AllByRecursion (λ (s : Site TargetState). HoldsBytes s.state) ds
    → AllByRecursion (λ (s : Site TargetState). HoldsBytes s.state) (map (started state_table byte) ds)
started_bytes keeps byte ds all =
    all_kept (started state_table byte)
    (λ s old. kept_where s.joined s (cond (is_named byte s) (hears state_table s (is_reading byte)) (other state_table s)) old
    (λ is. kept_where (is_named byte s) (other state_table s) (hears state_table s (is_reading byte)) (keeps.after s.state Other tt is)
    (λ was. keeps.after s.state (Start (is_reading byte)) tt is))) ds all

unheard_one : {X : Type 0} (t : Table X) (reading : Bool) (s : Site X) (joined named : Bool) → s.joined ≡ joined
    → (joined && (named && is_slow (t.answer s.state (Start reading)))) ≡ false
    → (joined && (named && is_ack (t.answer s.state (Start reading)))) ≡ false
    → hearing (cond joined (cond named (hears t s reading) (other t s)) s) ≡ false
unheard_one t reading s true true is slow ack =
    and_right s.joined (is_ack (t.answer s.state (Start reading)) || is_slow (t.answer s.state (Start reading)))
    (or_from (is_ack (t.answer s.state (Start reading))) (is_slow (t.answer s.state (Start reading))) ack slow)
unheard_one t reading s true false is slow ack = and_right s.joined false refl
unheard_one t reading s false named is slow ack = ap (λ j. j && s.heard) is

pub unheard_all : {X : Type 0} (t : Table X) (byte : ℕ) (ss : List (Site X))
    → some_one (answers_so t is_slow (byte / 2) (is_reading byte)) ss ≡ false
    → some_one (answers_so t is_ack (byte / 2) (is_reading byte)) ss ≡ false
    → some_one hearing (map (started t byte) ss) ≡ false
unheard_all t byte [] slow ack = refl
unheard_all t byte (s ∷ ss) slow ack =
    or_from (hearing (started t byte s)) (some_one hearing (map (started t byte) ss))
    (unheard_one t (is_reading byte) s s.joined (is_named byte s) refl (or_left _ _ slow) (or_left _ _ ack))
    (unheard_all t byte ss (or_right _ _ slow) (or_right _ _ ack))

-- ---- which answer it is
slow_by : (slow acked : Bool) → is_slow (answer_by slow acked) ≡ false → slow ≡ false
slow_by true acked is = is
slow_by false acked is = refl

ack_by : (slow acked : Bool) → slow ≡ false → is_ack (answer_by slow acked) ≡ false → acked ≡ false
ack_by true acked none is = cc
ack_by false true none is = is
ack_by false false none is = refl

nack_by : (slow acked : Bool) → slow ≡ false → acked ≡ false → Nack ≡ answer_by slow acked
nack_by slow acked p q = ap (λ x. answer_by x false) (sym p) ∙ ap (answer_by slow) (sym q)

ack_is : (a : Answer) → true ≡ is_ack a → Ack ≡ a
ack_is Ack is = refl
ack_is Nack is = cc
ack_is Slow is = cc
ack_is (Byte byte) is = cc
ack_is Nothing is = cc

slow_is : (a : Answer) → is_slow a ≡ true → Slow ≡ a
slow_is Ack is = cc
slow_is Nack is = cc
slow_is Slow is = refl
slow_is (Byte byte) is = cc
slow_is Nothing is = cc

-- ---- the ninth rise of SCL
rose_or : (held : Bool) (new eight : Seen) → new ≡ rose held true eight → (new ≡ eight) ⊎ (new ≡ Level true ∷ eight)
rose_or true new eight is = inl is
rose_or false new eight is = inr is

-- ---- what a start is
module _ (parts : (cs : List (Site ChipView)) (ds : List (Site TargetState)) → PartsOfBoth cs ds)
    (keeps : KeepsBytes state_table HoldsBytes)
    (in_time : StartOnWires) (slow : SlowOnWires)
    (sites : (b : BoardView) (r : ℕ) (busy : Bool) (byte : ℕ) (cs : List (Site ChipView)) (ds : List (Site TargetState))
    → byte / 2 < NO_ADDRESS → AreSites b r cs ds → StartOnSites b r busy byte cs ds)
    (unheard : UnheardIsOut node_table) (k : Rooted) (busy : Bool) (byte : ℕ) (lt : byte < 256) (w w1 w2 : Bus NodeState)
    (told : AreTold k (chips_on w) (devices_on w))
    (called : w1 ≡ within_address 8 0 true (both (chips_on w) (devices_on w)) (begun_seen busy w.seen)) where
  abbrev begun : Seen
  begun = begun_seen busy w.seen

  abbrev chips : List (Site ChipView)
  chips = map (started chip_table byte) (chips_on w)

  abbrev devices : List (Site TargetState)
  devices = map (started state_table byte) (devices_on w)

  abbrev given : Answer
  given = answer_to k.board k.root busy byte (chips_on w) (devices_on w)

  abbrev sent : Came NodeState
  sent = sent_byte the_table (mask_at k) byte w1

  site : StartOnSites k.board k.root busy byte (chips_on w) (devices_on w)
  site = sites k.board k.root busy byte (chips_on w) (devices_on w) (omega (arith, lt)) told.sites

  told_after : AreTold k chips devices
  told_after = record { sites = site.kept; bytes = started_bytes keeps byte (devices_on w) told.bytes }

  comes : is_slow given ≡ false
      → sent
      ≡ came_up (shifted 0 (not (is_ack given))) (within (entered_by byte) false (both chips devices) (byte_seen byte (is_ack given) begun))
  unfolding the_table mask_at
  comes none =
      ap (sent_byte node_table (mask_of k.board k.root) byte) called
      ∙ in_time k.board k.root byte lt busy true (chips_on w) (devices_on w) begun told.sites none

  stays_low : is_slow given ≡ true
      → sent ≡ gave_up (late_bus node_table byte (both (chips_on w) (devices_on w))
      (rose (some_one (stays node_table byte LOOKS) (both (chips_on w) (devices_on w))) true (with_levels (bits 8 byte) begun)))
  unfolding the_table mask_at
  stays_low some =
      ap (sent_byte node_table (mask_of k.board k.root) byte) called
      ∙ slow k.board k.root byte lt busy true (chips_on w) (devices_on w) begun told.sites some

  eight_up : (bit_steps the_table (mask_at k) 0 (bits 8 byte) w1).up ≡ true
  unfolding the_table
  eight_up =
      ap (λ x. (bit_steps node_table (mask_at k) 0 (bits 8 byte) x).up) called
      ∙ ap (λ (c : Came NodeState). c.up)
      (address_bits node_table (mask_at k) byte lt true (both (chips_on w) (devices_on w)) begun)

  acked : (is : Bool) → is_slow given ≡ is → came_up (shifted 0 false) w2 ≡ sent → StartIs k busy Ack byte w w2
  acked true s e = let p : true ≡ false = ap (λ (c : Came NodeState). c.up) (e ∙ stays_low s) in cc
  acked false s e =
      let f = e ∙ comes s in
      let on : On w2 chips devices = on_lines parts w2 chips devices (entered_by byte) (ap (λ c. c.bus.targets) f) in
      let took : true ≡ is_ack given = shifted_same true (is_ack given) (ap (λ c. c.read) f) in
      record {
        answer = ack_is given took;
        stands = stands_on k (entered_by byte) w2 false (byte_seen byte (is_ack given) begun) chips devices on (ap (λ c. c.bus) f) told_after;
        world = world_on k true w2 chips devices on ∙ site.world;
        seen = ap (λ c. c.bus.seen) f ∙ ap (λ a. byte_seen byte a begun) (sym took);
      }

  refused : (is : Bool) → is_slow given ≡ is → came_up (shifted 0 true) w2 ≡ sent → StartIs k busy Nack byte w w2
  refused true s e = let p : true ≡ false = ap (λ (c : Came NodeState). c.up) (e ∙ stays_low s) in cc
  refused false s e =
      let f = e ∙ comes s in
      let held : Bool = some_one (answers_so node_table is_slow (byte / 2) (is_reading byte)) (both (chips_on w) (devices_on w)) in
      let took : Bool = some_one (answers_so node_table is_ack (byte / 2) (is_reading byte)) (both (chips_on w) (devices_on w)) in
      let none : is_ack given ≡ false = sym (shifted_same false (is_ack given) (ap (λ c. c.read) f)) in
      let no_hold : held ≡ false = slow_by held took (sym (ap is_slow site.answered) ∙ s) in
      let no_ack : took ≡ false = ack_by held took no_hold (sym (ap is_ack site.answered) ∙ none) in
      let nobody : some_one hearing (both chips devices) ≡ false =
      ap (some_one hearing) (sym site.parts) ∙ unheard_all node_table byte (both (chips_on w) (devices_on w)) no_hold no_ack in
      let bus : w2 ≡ within Out false (both chips devices) (byte_seen byte (is_ack given) begun) =
      ap (λ c. c.bus) f ∙ unheard (entered_by byte) false (both chips devices) (byte_seen byte (is_ack given) begun) nobody in
      let on : On w2 chips devices = on_lines parts w2 chips devices Out (ap (λ x. x.targets) bus) in
      record {
        answer = nack_by held took no_hold no_ack ∙ sym site.answered;
        stands = stands_on k Out w2 false (byte_seen byte (is_ack given) begun) chips devices on bus told_after;
        world = world_on k true w2 chips devices on ∙ site.world;
        seen = ap (λ x. x.seen) bus ∙ ap (λ a. byte_seen byte a begun) none;
      }

  held_long : (is : Bool) → is_slow given ≡ is → gave_up w2 ≡ sent → StartIs k busy Slow byte w w2
  held_long false s e = let p : false ≡ true = ap (λ (c : Came NodeState). c.up) (e ∙ comes s) in cc
  held_long true s e =
      let f = ap (λ (c : Came NodeState). c.bus) (e ∙ stays_low s) in
      record {
        answer = slow_is given s;
        stands = record {
          byte = byte;
          fits = lt;
          chips = chips_on w;
          devices = devices_on w;
          lines = f ∙ ap (late_bus node_table byte (both (chips_on w) (devices_on w))) (sym (ap (λ x. x.seen) f));
          told = told;
        };
        world = world_on k true w2 chips devices (on_late parts k busy byte (chips_on w) (devices_on w) site w2 _ f) ∙ site.world;
        seen =
            rose_or (some_one (stays node_table byte LOOKS) (both (chips_on w) (devices_on w))) w2.seen (called_seen busy byte w.seen)
            (ap (λ x. x.seen) f);
      }

  pub start_told : (r : Result Answer SclTimeout) → CameAnswer r w2 (bit_steps the_table (mask_at k) 0 (bits 8 byte) w1) sent
      → StartTold k busy r byte w w2
  start_told (Ok Ack) is = acked (is_slow given) refl is
  start_told (Ok Nack) is = refused (is_slow given) refl is
  start_told (Ok Slow) is = held_long (is_slow given) refl is
  start_told (Ok (Byte b)) is = absurd is
  start_told (Ok Nothing) is = absurd is
  start_told (Err e) is = let p : false ≡ true = sym is ∙ eight_up in cc
