-- What a call leaves of the program's lists, where only those are told that a message has reached, is what the world says.
use Rattle.i2c_physics.proofs.Cited.{◌≡◌, ℕ, ◌+◌, ◌<◌, Bool, true, false, ◌&&◌, ◌||◌, List, [], ◌∷◌, ◌++◌, length, None, refl, sym, ◌∙◌, ap}
use Rattle.i2c_physics.proofs.Cited.{subst, inl, inr, arith, not, if◌then◌else◌, filter, range_with_len, cases_Bool, and_parts, length-map}
use Rattle.i2c_physics.proofs.Cited.{Node, Event, Answer, Nothing, BoardView, Table, ChipView, chip_table, TargetState, IsQuiet}
use Rattle.i2c_physics.proofs.Cited.{state_table, World, after, answer, sent_on, answers, feed, to_chips, to_devices, chip_start}
use Rattle.i2c_physics.proofs.Cited.{device_start, start_chips, start_devices, start_event, stop_event, joins_chip, joins_device, hearers}
use Rattle.i2c_physics.proofs.Cited.{has_heard, numbers_of, nodes_of, PlaceView, mux_place, device_place, event_if, is_among, AreRising}
use Rattle.i2c_physics.proofs.Cited.{to_those, joins_at, has_at, addressed, others, union_of, is_own, seen_on, wired_and_of, WiredAnd}
use Rattle.i2c_physics.proofs.Cited.{feed-same}
use Rattle.std.proofs.lemmas.Bool.{or_cases}
use Rattle.std.proofs.lemmas.List.Folds.{list_any-append}
use Rattle.i2c_base.specs.declared.event.Event.TheVariants as event
use Rattle.i2c_base.specs.declared.event.Answer.TheVariants.{Ack, Nack, Slow}
use Rattle.i2c_base.specs.declared.port.PortCall.TheVariants as call
use Rattle.i2c_spec.specs.Chips.{chip_after}
use Rattle.i2c_spec.specs.World.{is_ack, is_slow, some_answer}
use Rattle.i2c_spec.proofs.StateLemmas.{states_fair}
use Rattle.i2c_physics.specs.SimWorlds.{IsSimWorld}
use Rattle.i2c_physics.specs.Answering.{start_answer}
use Rattle.i2c_physics.specs.declared.reach.Reach.{Reach}
use Rattle.i2c_physics.proofs.NumberLemmas.{filter-among, rising-filter, rising-of_range}
use Rattle.i2c_physics.proofs.OwnLemmas.{other-apart, joined-own, length-seen, feed-seen, answers-seen}
use Rattle.i2c_physics.proofs.PlaceLemmas.{chip-started, chip-stopped, device-started, device-stopped}
use Rattle.i2c_physics.proofs.ReachLemmas.{reached-sent, stopped-fed, reached-stopped, started-fed, started-heard, reached-started}
use Rattle.i2c_physics.proofs.WiredAndLemmas.{answers-same, length-feed}
use Rattle.i2c_physics.proofs.WorldLemmas.{chip-hears, device-hears, hearers_told}

-- what is told, as of the fields
module _ {X : Type 0} (t : Table X) (e : Event) (told numbers : List ℕ) (xs ys : List X) (same_numbers : told ≡ numbers)
    (same : ys ≡ xs) where
  pub fed-on : (new kept : List X) → kept ≡ new → new ≡ feed t (to_those told e) 0 ys → kept ≡ feed t (to_those numbers e) 0 xs
  fed-on new kept is fed = is ∙ fed ∙ ap (λ ns. feed t (to_those ns e) 0 ys) same_numbers ∙ ap (feed t (to_those numbers e) 0) same

  pub said-on : {A : Type 0} (R : List (ℕ × Answer) → A) (r : A) → r ≡ R (answers t (to_those told e) 0 ys)
      → r ≡ R (answers t (to_those numbers e) 0 xs)
  said-on R r said = said ∙ ap (λ ns. R (answers t (to_those ns e) 0 ys)) same_numbers
      ∙ ap (λ zs. R (answers t (to_those numbers e) 0 zs)) same

-- a start is told to two lists
module _ {X : Type 0} (t : Table X) (e : Event) {told calls : List ℕ} {ys xs : List X} (same_called : told ≡ calls) (same : ys ≡ xs) where
  pub begun-on : (others_told rest : List ℕ) → others_told ≡ rest → (new kept : List X) → kept ≡ new
      → new ≡ feed t (to_those others_told event.Other) 0 (feed t (to_those told e) 0 ys)
      → kept ≡ feed t (to_those rest event.Other) 0 (feed t (to_those calls e) 0 xs)
  begun-on others_told rest same_others new kept is fed =
      is ∙ fed ∙ ap (λ ns. feed t (to_those ns event.Other) 0 (feed t (to_those told e) 0 ys)) same_others
      ∙ ap (λ ns. feed t (to_those rest event.Other) 0 (feed t (to_those ns e) 0 ys)) same_called
      ∙ ap (λ zs. feed t (to_those rest event.Other) 0 (feed t (to_those calls e) 0 zs)) same

pub either-on : {count n : ℕ} {has had started begun : List ℕ} → count ≡ n → has ≡ had → begun ≡ started
    → union_of count has begun ≡ union_of n had started
either-on {count} {n} {has} {had} {started} {begun} e f g = ap (λ m. union_of m has begun) e ∙ ap (λ ns. union_of n ns begun) f
    ∙ ap (union_of n had) g

pub start-by : {j k chips devices : WiredAnd} → j ≡ chips → k ≡ devices → start_answer j k ≡ start_answer chips devices
start-by {j} {k} {chips} {devices} e f = ap (λ x. start_answer x k) e ∙ ap (start_answer chips) f

abbrev pub world_of : BoardView → ℕ → List ChipView → List TargetState → List ℕ → List ℕ → Bool → World
world_of b root chips states heard_chips heard_devices busy =
    record {
      board = b;
      root = root;
      chips = chips;
      devices = seen_on b root b.devices states;
      hearing = nodes_of heard_chips heard_devices;
      busy = busy;
    }

-- what a stop leaves of the two lists, and what a start does
module _ (muxes places : List PlaceView) (chips : List ChipView) (states : List TargetState) (cr dr : Reach)
    (new_chips : List ChipView) (new_states : List TargetState) where
  pub record AreParted : Type 0 where
    pub of_chips : new_chips ≡ feed chip_table (to_those (filter (joins_at chips muxes) cr.started) event.Stop) 0 chips
    pub of_devices : new_states ≡ feed state_table (to_those (filter (joins_at chips places) dr.started) event.Stop) 0 states

  pub record AreBegun (a : ℕ) (reading : Bool) (rc rd : Reach) : Type 0 where
    pub of_chips : new_chips ≡ feed chip_table (to_those (others chips muxes a cr.started) event.Other) 0
        (feed chip_table (to_those (addressed chips muxes a) (event.Start reading)) 0 chips)
    pub of_devices : new_states ≡ feed state_table (to_those (others chips places a dr.started) event.Other) 0
        (feed state_table (to_those (addressed chips places a) (event.Start reading)) 0 states)
    pub chips_heard : rc.hearing ≡ numbers_of (answers chip_table (to_those (addressed chips muxes a) (event.Start reading)) 0 chips)
    pub devices_heard : rd.hearing ≡ numbers_of (answers state_table (to_those (addressed chips places a) (event.Start reading)) 0 states)

module _ (b : BoardView) (root : ℕ) (muxes places : List PlaceView) (chips : List ChipView) (states : List TargetState) (cr dr : Reach)
    (busy : Bool)
    (inv : IsSimWorld b root muxes places chips states cr dr) where
  abbrev world : World
  world = world_of b root chips states cr.hearing dr.hearing busy

  low_chip : (k : ℕ) → k < 0 + length chips → k < length b.muxes
  low_chip k low = omega (arith, low, inv.chips_are)

  low_device : (k : ℕ) → k < 0 + length (seen_on b root b.devices states) → k < length b.devices
  low_device k low = omega (arith, low, length-seen b root b.devices states inv.devices_are)

  -- nothing goes to a device of another root
  not_joined : (k : ℕ) → is_own b root k ≡ false → joins_at chips places k ≡ false
  not_joined k other = other-apart b root places inv.device_places k chips other

  not_hearing : (e : Event) (k : ℕ) → is_own b root k ≡ false → to_those dr.hearing e k ≡ None
  not_hearing e k other =
      elim (cases_Bool (is_among dr.hearing k)) [
        | inl heard ↦ absurd (let both : true ≡ false = sym (inv.reached_own k (inv.devices_reached.hearing_started k heard)) ∙ other in cc)
        | inr deaf ↦ ap (λ heard. event_if heard e) deaf
      ]

  -- a byte
  module _ (e : Event) where
    pub chips-answer : answers chip_table (to_those cr.hearing e) 0 chips ≡ answers chip_table (to_chips world e) 0 chips
    chips-answer =
        answers-same chip_table (to_chips world e) (to_those cr.hearing e) 0 chips
        (λ k at low. chip-hears world cr.hearing dr.hearing refl e k)

    pub devices-answer : answers state_table (to_those dr.hearing e) 0 states ≡ answers state_table (to_devices world e) 0
        (seen_on b root b.devices states)
    devices-answer =
        sym (answers-seen b root (to_those dr.hearing e) (not_hearing e) states inv.devices_are)
        ∙ answers-same state_table (to_devices world e) (to_those dr.hearing e) 0 (seen_on b root b.devices states)
        (λ k at low. device-hears world cr.hearing dr.hearing refl e k)

    module _ (new_chips : List ChipView) (new_states : List TargetState)
        (chips_new : new_chips ≡ feed chip_table (to_those cr.hearing e) 0 chips)
        (states_new : new_states ≡ feed state_table (to_those dr.hearing e) 0 states) (rc rd : Reach)
        (rcs : rc.started ≡ cr.started) (rch : rc.hearing ≡ cr.hearing) (rds : rd.started ≡ dr.started)
        (rdh : rd.hearing ≡ dr.hearing) where
      pub sent-kept : IsSimWorld b root muxes places new_chips new_states rc rd
      sent-kept = record {
        plain = inv.plain;
        mux_places = inv.mux_places;
        device_places = inv.device_places;
        chips_are = ap length chips_new ∙ length-feed chip_table (to_those cr.hearing e) 0 chips ∙ inv.chips_are;
        devices_are = ap length states_new ∙ length-feed state_table (to_those dr.hearing e) 0 states ∙ inv.devices_are;
        chips_reached = rw (chips_new, rcs, rch) (reached-sent chip_table chips cr.started cr.hearing inv.chips_reached e);
        devices_reached = rw (states_new, rds, rdh)
            (reached-sent state_table states dr.started dr.hearing inv.devices_reached e);
        reached_own = rw rds inv.reached_own;
      }

      pub sent-is : world_of b root new_chips new_states rc.hearing rd.hearing busy ≡ sent_on world e
      sent-is =
          let to_all = feed-same chip_table (to_chips world e) (to_those cr.hearing e) 0 chips
          (λ k at low. chip-hears world cr.hearing dr.hearing refl e k) in
          let all_devices : seen_on b root b.devices new_states ≡ feed state_table (to_devices world e) 0
          (seen_on b root b.devices states) =
          ap (seen_on b root b.devices) states_new ∙ sym (feed-seen b root (to_those dr.hearing e) (not_hearing e) states)
          ∙ feed-same state_table (to_devices world e) (to_those dr.hearing e) 0 (seen_on b root b.devices states)
          (λ k at low. device-hears world cr.hearing dr.hearing refl e k) in
          let all_chips = chips_new ∙ to_all in
          rw (rch, rdh) (ap (λ (cs : List ChipView). record world { chips = cs; devices = seen_on b root b.devices new_states }) all_chips
          ∙ ap (λ (ds : List TargetState). record world { chips = feed chip_table (to_chips world e) 0 chips; devices = ds }) all_devices)

  -- a stop
  module _ (new_chips : List ChipView) (new_states : List TargetState)
      (parted : AreParted muxes places chips states cr dr new_chips new_states) where
    pub stopped-kept : ((y : ChipView) → IsQuiet chip_table (chip_after y event.Stop)) → (left_chips left_devices : Reach)
        → left_chips.started ≡ filter (λ k. not (joins_at chips muxes k)) cr.started → left_chips.hearing ≡ []
        → left_devices.started ≡ filter (λ k. not (joins_at chips places k)) dr.started → left_devices.hearing ≡ []
        → IsSimWorld b root muxes places new_chips new_states left_chips left_devices
    stopped-kept stops left_chips left_devices lc lch ld ldh =
        let kept_chips = reached-stopped chip_table chips cr.started cr.hearing inv.chips_reached
        (joins_at chips muxes) stops in
        let kept_states = reached-stopped state_table states dr.started dr.hearing inv.devices_reached
        (joins_at chips places) states_fair.stops in
        record {
          plain = inv.plain;
          mux_places = inv.mux_places;
          device_places = inv.device_places;
          chips_are = ap length parted.of_chips
              ∙ length-feed chip_table (to_those (filter (joins_at chips muxes) cr.started) event.Stop) 0 chips ∙ inv.chips_are;
          devices_are = ap length parted.of_devices
              ∙ length-feed state_table (to_those (filter (joins_at chips places) dr.started) event.Stop) 0 states ∙ inv.devices_are;
          chips_reached = rw (parted.of_chips, lc, lch) kept_chips;
          devices_reached = rw (parted.of_devices, ld, ldh) kept_states;
          reached_own = rw ld (λ k left. inv.reached_own k (filter-among (λ m. not (joins_at chips places m)) dr.started k left).0);
        }

    pub stopped-is : world_of b root new_chips new_states [] [] false ≡ after world call.Stop
    stopped-is =
        let all_chips = parted.of_chips ∙ stopped-fed chip_table chips cr.started cr.hearing inv.chips_reached (joins_at chips muxes)
        ∙ feed-same chip_table (λ m. stop_event (joins_chip world m)) (λ k. stop_event (joins_at chips muxes k)) 0 chips
        (λ k at low. chip-stopped world muxes k inv.mux_places (low_chip k low)) in
        let all_states = parted.of_devices ∙ stopped-fed state_table states dr.started dr.hearing inv.devices_reached
        (joins_at chips places) in
        let all_devices : seen_on b root b.devices new_states ≡ feed state_table (λ d. stop_event (joins_device world d)) 0
        (seen_on b root b.devices states) =
        ap (seen_on b root b.devices) all_states
        ∙ sym (feed-seen b root (λ k. stop_event (joins_at chips places k)) (λ k other. ap stop_event (not_joined k other)) states)
        ∙ feed-same state_table (λ d. stop_event (joins_device world d)) (λ k. stop_event (joins_at chips places k)) 0
        (seen_on b root b.devices states)
        (λ k at low. device-stopped world places k inv.device_places (low_device k low)) in
        ap (λ (cs : List ChipView). record world { chips = cs; devices = seen_on b root b.devices new_states; hearing = []; busy = false })
        all_chips
        ∙ ap (λ (ds : List TargetState). record world {
          chips = feed chip_table (λ m. stop_event (joins_chip world m)) 0 chips;
          devices = ds;
          hearing = [];
          busy = false;
        }) all_devices

  -- a start
  module _ (a : ℕ) (reading : Bool) where
    abbrev chips_said : List (ℕ × Answer)
    chips_said = answers chip_table (to_those (addressed chips muxes a) (event.Start reading)) 0 chips

    abbrev states_said : List (ℕ × Answer)
    states_said = answers state_table (to_those (addressed chips places a) (event.Start reading)) 0 states

    muxes_count : length muxes ≡ length chips
    muxes_count = ap length inv.mux_places ∙ length-map b.muxes (mux_place b root) ∙ sym inv.chips_are

    places_count : length places ≡ length states
    places_count = ap length inv.device_places ∙ length-map b.devices (device_place b root) ∙ sym inv.devices_are

    pub calls-chips : AreRising 0 (length chips) (addressed chips muxes a)
    calls-chips = subst (λ n. AreRising 0 n (addressed chips muxes a)) muxes_count
        (rising-of_range (λ k. has_at a muxes k && joins_at chips muxes k) (length muxes))

    pub calls-devices : AreRising 0 (length states) (addressed chips places a)
    calls-devices = subst (λ n. AreRising 0 n (addressed chips places a)) places_count
        (rising-of_range (λ k. has_at a places k && joins_at chips places k) (length places))

    pub other-chips : AreRising 0 (length chips) (others chips muxes a cr.started)
    other-chips = rising-filter (λ k. not (has_at a muxes k) && joins_at chips muxes k) 0
        (length chips) cr.started inv.chips_reached.started_rise

    pub other-devices : AreRising 0 (length states) (others chips places a dr.started)
    other-devices = rising-filter (λ k. not (has_at a places k) && joins_at chips places k) 0
        (length states) dr.started inv.devices_reached.started_rise

    not_started : (k : ℕ) → is_own b root k ≡ false → start_event (joins_at chips places k) (has_at a places k) reading ≡ None
    not_started k other = ap (λ j. start_event j (has_at a places k) reading) (not_joined k other)

    started_own : (k : ℕ) → is_among (union_of (length states) dr.started (addressed chips places a)) k ≡ true
        → is_own b root k ≡ true
    started_own k among =
        elim (or_cases (is_among dr.started k) (is_among (addressed chips places a) k)
        (filter-among (λ m. is_among dr.started m || is_among (addressed chips places a) m)
        (range_with_len 0 (length states)) k among).1) [
          | inl before ↦ inv.reached_own k before
          | inr called ↦ joined-own b root places inv.device_places k chips
              (and_parts (has_at a places k) (joins_at chips places k)
              (filter-among (λ m. has_at a places m && joins_at chips places m) (range_with_len 0 (length places)) k called).1).1
        ]

    module _ {A : Type 0} (R : List (ℕ × Answer) → A) (step : ℕ × Answer → A → A)
        (is : (x : ℕ × Answer) (ys : List (ℕ × Answer)) → R (x ∷ ys) ≡ step x (R ys))
        (silent : (k : ℕ) (ys : List (ℕ × Answer)) → R ((k, Nothing) ∷ ys) ≡ R ys) where
      chips_read : R chips_said ≡ R (start_chips world a reading)
      chips_read =
          started-heard chip_table chips cr.started cr.hearing inv.chips_reached chips muxes a reading muxes_count R step is
          silent (λ x. refl)
          ∙ ap R (answers-same chip_table (chip_start world a reading)
          (λ k. start_event (joins_at chips muxes k) (has_at a muxes k) reading) 0 chips
          (λ k at low. chip-started world muxes k inv.mux_places (low_chip k low) a reading))

      states_read : R states_said ≡ R (start_devices world a reading)
      states_read =
          started-heard state_table states dr.started dr.hearing inv.devices_reached chips places a reading places_count R step
          is silent states_fair.other
          ∙ ap R (sym (answers-seen b root
          (λ k. start_event (joins_at chips places k) (has_at a places k) reading) not_started states inv.devices_are)
          ∙ answers-same state_table (device_start world a reading)
          (λ k. start_event (joins_at chips places k) (has_at a places k) reading) 0 (seen_on b root b.devices states)
          (λ k at low. device-started world places k inv.device_places (low_device k low) a reading))

    some_chips : (test : Answer → Bool) → test Nothing ≡ false
        → some_answer test chips_said ≡ some_answer test (start_chips world a reading)
    some_chips test none = chips_read (some_answer test) (λ x r. test x.1 || r) (λ x ys. refl) (λ k ys. rw none refl)

    some_states : (test : Answer → Bool) → test Nothing ≡ false
        → some_answer test states_said ≡ some_answer test (start_devices world a reading)
    some_states test none = states_read (some_answer test) (λ x r. test x.1 || r) (λ x ys. refl) (λ k ys. rw none refl)

    some_said : (test : Answer → Bool) → test Nothing ≡ false
        → (some_answer test chips_said || some_answer test states_said) ≡ some_answer test
        (start_chips world a reading ++ start_devices world a reading)
    some_said test none =
        ap (λ c. c || some_answer test states_said) (some_chips test none)
        ∙ ap (λ c. some_answer test (start_chips world a reading) || c) (some_states test none)
        ∙ sym (list_any-append (λ (x : ℕ × Answer). test x.1) (start_chips world a reading) (start_devices world a reading))

    pub started-answer : start_answer (wired_and_of chips_said) (wired_and_of states_said) ≡ answer world a reading
    started-answer =
        ap (λ c. if c then Slow else if some_answer is_ack chips_said || some_answer is_ack states_said then Ack else Nack)
        (some_said is_slow refl)
        ∙ ap (λ c. if some_answer is_slow
        (start_chips world a reading ++ start_devices world a reading) then Slow else if c then Ack else Nack) (some_said is_ack refl)

    pub started-hearing : nodes_of (numbers_of chips_said) (numbers_of states_said) ≡ hearers world a reading
    started-hearing =
        ap (λ ns. nodes_of ns (numbers_of states_said))
        (chips_read numbers_of (λ x r. if has_heard x.1 then x.0 ∷ r else r) (λ x ys. refl) (λ k ys. refl))
        ∙ ap (nodes_of (numbers_of (start_chips world a reading)))
        (states_read numbers_of (λ x r. if has_heard x.1 then x.0 ∷ r else r) (λ x ys. refl) (λ k ys. refl))
        ∙ sym (hearers_told world a reading)

    module _ (new_chips : List ChipView) (new_states : List TargetState) (rc rd : Reach)
        (begun : AreBegun muxes places chips states cr dr new_chips new_states a reading rc rd) where
      pub started-kept : rc.started ≡ union_of (length chips) cr.started (addressed chips muxes a)
          → rd.started ≡ union_of (length states) dr.started (addressed chips places a)
          → IsSimWorld b root muxes places new_chips new_states rc rd
      started-kept rc_started rd_started =
          let kept_chips = reached-started chip_table chips cr.started cr.hearing inv.chips_reached chips muxes a reading
          muxes_count in
          let kept_states = reached-started state_table states dr.started dr.hearing inv.devices_reached chips places a reading
          places_count in
          record {
            plain = inv.plain;
            mux_places = inv.mux_places;
            device_places = inv.device_places;
            chips_are = ap length (begun.of_chips
                ∙ started-fed chip_table chips cr.started cr.hearing inv.chips_reached chips muxes a reading muxes_count)
                ∙ length-feed chip_table (λ k. start_event (joins_at chips muxes k) (has_at a muxes k) reading) 0 chips ∙ inv.chips_are;
            devices_are = ap length (begun.of_devices
                ∙ started-fed state_table states dr.started dr.hearing inv.devices_reached chips places a reading places_count)
                ∙ length-feed state_table (λ k. start_event (joins_at chips places k) (has_at a places k) reading) 0 states
                ∙ inv.devices_are;
            chips_reached = rw (begun.of_chips, rc_started, begun.chips_heard) kept_chips;
            devices_reached = rw (begun.of_devices, rd_started, begun.devices_heard) kept_states;
            reached_own = rw rd_started started_own;
          }

      pub started-is : world_of b root new_chips new_states rc.hearing rd.hearing true ≡ after world (call.Start a reading)
      started-is =
          let all_chips = begun.of_chips ∙ started-fed chip_table chips cr.started cr.hearing inv.chips_reached chips muxes a reading
          muxes_count
          ∙ feed-same chip_table (chip_start world a reading) (λ k. start_event (joins_at chips muxes k) (has_at a muxes k) reading) 0 chips
          (λ k at low. chip-started world muxes k inv.mux_places (low_chip k low) a reading) in
          let all_states = begun.of_devices ∙ started-fed state_table states dr.started dr.hearing inv.devices_reached chips places a
          reading places_count in
          let all_devices : seen_on b root b.devices new_states ≡ feed state_table (device_start world a reading) 0
          (seen_on b root b.devices states) =
          ap (seen_on b root b.devices) all_states
          ∙ sym (feed-seen b root (λ k. start_event (joins_at chips places k) (has_at a places k) reading) not_started states)
          ∙ feed-same state_table (device_start world a reading) (λ k. start_event (joins_at chips places k) (has_at a places k) reading) 0
          (seen_on b root b.devices states)
          (λ k at low. device-started world places k inv.device_places (low_device k low) a reading) in
          let heard : nodes_of rc.hearing rd.hearing ≡ hearers world a reading =
          rw (begun.chips_heard, begun.devices_heard) started-hearing in
          ap (λ (cs : List ChipView). record world {
            chips = cs;
            devices = seen_on b root b.devices new_states;
            hearing = nodes_of rc.hearing rd.hearing;
            busy = true;
          }) all_chips
          ∙ ap (λ (ds : List TargetState). record world {
            chips = feed chip_table (chip_start world a reading) 0 chips;
            devices = ds;
            hearing = nodes_of rc.hearing rd.hearing;
            busy = true;
          }) all_devices
          ∙ ap (λ (hs : List Node). record world {
            chips = feed chip_table (chip_start world a reading) 0 chips;
            devices = feed state_table (device_start world a reading) 0 (seen_on b root b.devices states);
            hearing = hs;
            busy = true;
          })
          heard
