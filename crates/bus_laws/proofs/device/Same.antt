-- A root's world and the flat world stay the same at the devices of the root: through a start, a byte, and a stop.
use Rattle.bus_laws.proofs.Cited.{◌≡◌, ℕ, ◌+◌, Bool, true, false, cond, ◌||◌, List, [], ◌++◌, Option, Some, None, eqb, refl, sym, ◌∙◌, ap}
use Rattle.bus_laws.proofs.Cited.{subst, bit_and, slice_get, list_any, list_all, option_map, eqb-true, ne_eqb, Event, Answer, PortCall}
use Rattle.bus_laws.proofs.Cited.{Node, BoardView, DeviceView, IsByte, AreBytes, root_of, hops, of_device, ChipView, chip_table}
use Rattle.bus_laws.proofs.Cited.{TargetState, HoldsBytes, IsQuiet, state_table, state_answer, MessageView, World, opens_hop, joins_device}
use Rattle.bus_laws.proofs.Cited.{given, feed, answers, is_ack, is_slow, has_heard, start_event, device_start, start_chips, start_devices}
use Rattle.bus_laws.proofs.Cited.{heard_of, hearers, some_answer, is_chip, is_device, to_chips, to_devices, takes, and_of, gives}
use Rattle.bus_laws.proofs.Cited.{stop_event, after, FlatListener, is_member, put_named, flat_start, to_current, to_named, answer_of}
use Rattle.bus_laws.proofs.Cited.{flat_after, flat_listener, world_listener, talk, is_it, IsOf, listening, Same, LeadsTo, ToldAlike}
use Rattle.bus_laws.proofs.Cited.{IsFollowing, or-false, and_first}
use Rattle.std.proofs.Common.{mod-eq_of_lt}
use Rattle.std.proofs.lemmas.Grind.{and_numeral}
use Rattle.std.proofs.lemmas.List.Elements.{recursion_from_All}
use Rattle.i2c_base.specs.declared.event.Event.TheVariants as event
use Rattle.i2c_base.specs.declared.event.Answer.TheVariants as answer
use Rattle.i2c_base.specs.declared.port.PortCall.TheVariants as call
use Rattle.i2c_base.specs.declared.ids.Node.TheVariants as node
use Rattle.i2c_spec.specs.Targets.{IsByteEvent}
use Rattle.i2c_base.specs.Table.{byte_of}
use Rattle.i2c_spec.specs.World.{answer as world_answer, hearing_answers}
use Rattle.i2c_spec.specs.Flat.{acknowledged}
use Rattle.bus_laws.proofs.world.Feed.{feed-same, unheard, some_answer-append}
use Rattle.bus_laws.proofs.world.Control.{started-chips}
use Rattle.bus_laws.proofs.device.Talk.{talk-alike}
use Rattle.i2c_spec.proofs.StateLemmas.{stopped-quiet, after-bytes, sends-byte}
use Rattle.bus_laws.proofs.device.Hears.{fed-at, map-alike, map-from, answers-quiet, answers-alone, one_answer, heard-missing, answer-alone}
use Rattle.i2c_spec.proofs.MessageLemmas.{is_it-some, is_it-at}
use Rattle.bus_laws.proofs.world.Hears.{slow_is_heard, ack_is_heard}
use Rattle.bus_laws.proofs.device.Leads.{answer_at, starts_at, only_hears, devices_heard}

-- ANSWERS
-- the AND of a byte and the idle wires
byte_and : (n : ℕ) → IsByte n → bit_and n 255 ≡ n
byte_and n small = and_numeral n 254 refl ∙ mod-eq_of_lt small

-- EVENTS

-- the device that is named last is a member, and whoever was
member_put : (o : Option ℕ) (ds : List ℕ) (d : ℕ) → is_member d (put_named o ds) ≡ (is_it o d || is_member d ds)
member_put None ds d = refl
member_put (Some k) ds d = refl

-- a device that is joined is one of the root's
pub joined_of : (b : BoardView) (r : ℕ) (w : World) → w.board ≡ b → w.root ≡ r → (d : ℕ) → joins_device w d ≡ true → IsOf b r d
joined_of b r w board root d e =
    let u : ℕ = of_device (λ (x : DeviceView). x.bus) 0 w.board d in
    ap (λ (x : BoardView). root_of x (of_device (λ (y : DeviceView). y.bus) 0 x d)) (sym board)
    ∙ eqb-true (root_of w.board u) w.root (and_first (eqb (root_of w.board u) w.root) (list_all (opens_hop w.chips) (hops w.board u)) e)
    ∙ root

-- what is joined depends on the chips alone
joined_still : (w : World) (cs : List ChipView) (d : ℕ) → cs ≡ w.chips → joins_device w d ≡ true
    → joins_device (record w { chips = cs }) d ≡ true
joined_still w cs d e j = subst (λ (x : List ChipView). joins_device (record w { chips = x }) d ≡ true) (sym e) j

states_fed : (f g : ℕ → Option Event) (xs ys : List TargetState) (d : ℕ) → slice_get xs d ≡ slice_get ys d
    → ((x : TargetState) → slice_get ys d ≡ Some x → given state_table (f d) x ≡ given state_table (g d) x)
    → slice_get (feed state_table f 0 xs) d ≡ slice_get (feed state_table g 0 ys) d
states_fed f g xs ys d same alike =
    fed-at state_table f xs d ∙ ap (λ (o : Option TargetState). option_map (λ (x : TargetState). given state_table (f d) x) o) same
    ∙ map-alike (slice_get ys d) (λ (x : TargetState). given state_table (f d) x) (λ (x : TargetState). given state_table (g d) x) alike
    ∙ sym (fed-at state_table g ys d)

abbrev IsFitting : Option Event → Type 0
IsFitting None = Unit {0}
IsFitting (Some e) = IsByteEvent e

given_bytes : (o : Option Event) (x : TargetState) → IsFitting o → HoldsBytes x → HoldsBytes (given state_table o x)
given_bytes None x fit all = all
given_bytes (Some e) x fit all = after-bytes x e fit all

bytes_fed : (f : ℕ → Option Event) (xs : List TargetState) (d : ℕ) (x : TargetState) → IsFitting (f d)
    → ((y : TargetState) → slice_get xs d ≡ Some y → HoldsBytes y) → slice_get (feed state_table f 0 xs) d ≡ Some x → HoldsBytes x
bytes_fed f xs d x fit all e =
    let from = map-from (slice_get xs d) (λ (y : TargetState). given state_table (f d) y) x (sym (fed-at state_table f xs d) ∙ e) in
    subst (λ (z : TargetState). HoldsBytes z) from.2 (given_bytes (f d) from.0 fit (all from.0 from.1))

-- a device that gets no event is as it was
same_fed : (f : ℕ → Option Event) (xs : List TargetState) (d : ℕ) (x : TargetState) → f d ≡ None
    → slice_get (feed state_table f 0 xs) d ≡ Some x → slice_get xs d ≡ Some x
same_fed f xs d x none e =
    let from = map-from (slice_get xs d) (λ (y : TargetState). given state_table (f d) y) x (sym (fed-at state_table f xs d) ∙ e) in
    from.1 ∙ ap Some (ap (λ (o : Option Event). given state_table o from.0) (sym none) ∙ from.2)

start_fits : (i n reading : Bool) → IsFitting (cond i (Some (event.Start reading)) (cond n (Some event.Other) None))
start_fits true n reading = tt
start_fits false true reading = tt
start_fits false false reading = tt

sent_fits : (i : Bool) (e : Event) → IsByteEvent e → IsFitting (cond i (Some e) None)
sent_fits true e fit = fit
sent_fits false e fit = tt

-- LISTENERS
no_chip_listens : (o : Option ℕ) (m : ℕ) → list_any (is_chip m) (listening o) ≡ false
no_chip_listens None m = refl
no_chip_listens (Some k) m = refl

device_listens : (o : Option ℕ) (d : ℕ) → list_any (is_device d) (listening o) ≡ is_it o d
device_listens None d = refl
device_listens (Some k) d = or-false (eqb k d)

pick : (a : Answer) → cond (is_slow a) answer.Slow (cond (is_ack a) answer.Ack answer.Nack) ≡ acknowledged a
pick answer.Ack = refl
pick answer.Nack = refl
pick answer.Slow = refl
pick (answer.Byte byte) = refl
pick answer.Nothing = refl

module _ (b : BoardView) (r : ℕ) (w : World) (f : FlatListener) (s : Same b r w f) where
  -- THE START
  module _ (a : ℕ) (granted : Option ℕ) (leads : LeadsTo w a granted) (reading : Bool) where
    start_given : (d : ℕ) (x : TargetState) → IsOf b r d → slice_get f.states d ≡ Some x
        → given state_table (device_start w a reading d) x ≡ given state_table (flat_start granted f.named reading d) x
    start_given d x own at =
        by (joins_device w d) (of_device (λ (y : DeviceView). eqb y.addr a) false w.board d) (is_it granted d)
        (is_member d f.named) refl refl refl refl
      where
        by : (j t i n : Bool) → joins_device w d ≡ j → of_device (λ (y : DeviceView). eqb y.addr a) false w.board d ≡ t
            → is_it granted d ≡ i → is_member d f.named ≡ n
            → given state_table (start_event j t reading) x ≡ given state_table
            (cond i (Some (event.Start reading)) (cond n (Some event.Other) None)) x
        by true true true n ej et ei en = refl
        by true true false n ej et ei en = absurd (let g : false ≡ true = sym ei ∙ is_it-at granted d (leads.found d ej et) in cc)
        by true false true n ej et ei en = absurd (let g : false ≡ true = sym et ∙ leads.addressed d (is_it-some granted d ei) in cc)
        by true false false true ej et ei en = refl
        by true false false false ej et ei en = (s.quiet d x own en at).other
        by false t true n ej et ei en = absurd (let g : false ≡ true = sym ej ∙ leads.joined d (is_it-some granted d ei) in cc)
        by false t false true ej et ei en = absurd (let g : false ≡ true = sym ej ∙ s.joined d en in cc)
        by false t false false ej et ei en = refl

    -- the world's device k is the flat world's
    device_same : (k : ℕ) → granted ≡ Some k → slice_get w.devices k ≡ slice_get f.states k
    device_same k e = s.states k (joined_of b r w s.board s.root k (leads.joined k e))

    start_devices-heard : (o : Option ℕ) → granted ≡ o
        → heard_of node.Device (start_devices w a reading) ≡ listening
        (cond (has_heard (answer_of f.states o (event.Start reading))) o None)
    start_devices-heard None e = devices_heard w a granted leads reading None e
    start_devices-heard (Some k) e =
        devices_heard w a granted leads reading (Some k) e
        ∙ ap (λ (o : Option TargetState). listening (cond (has_heard (answer_at o (event.Start reading))) (Some k) None)) (device_same k e)

    start_devices-said : (test : Answer → Bool) → ((x : Answer) → has_heard x ≡ false → test x ≡ false) → (o : Option ℕ) → granted ≡ o
        → some_answer test (start_devices w a reading) ≡ test (answer_of f.states o (event.Start reading))
    start_devices-said test implies None e =
        unheard node.Device test implies (start_devices w a reading) (start_devices-heard None e) ∙ sym (implies answer.Nothing refl)
    start_devices-said test implies (Some k) e = by (slice_get f.states k) refl
      where
        by : (o : Option TargetState) → slice_get f.states k ≡ o
            → some_answer test (start_devices w a reading) ≡ test (answer_at (slice_get f.states k) (event.Start reading))
        by None at =
            unheard node.Device test implies (start_devices w a reading)
            (heard-missing state_table (device_start w a reading) w.devices k (event.Start reading)
            (starts_at w a granted leads reading k e) (only_hears w a granted leads reading k e) node.Device (device_same k e ∙ at))
            ∙ sym (implies answer.Nothing refl) ∙ ap (λ (o : Option TargetState). test (answer_at o (event.Start reading))) (sym at)
        by (Some x) at =
            answer-alone state_table (device_start w a reading) w.devices k (event.Start reading) (starts_at w a granted leads reading k e)
            (only_hears w a granted leads reading k e) test implies x (device_same k e ∙ at)
            ∙ ap (λ (o : Option TargetState). test (answer_at o (event.Start reading))) (sym at)

    start_said : (test : Answer → Bool) → ((x : Answer) → has_heard x ≡ false → test x ≡ false)
        → some_answer test (start_chips w a reading ++ start_devices w a reading) ≡ test (answer_of f.states granted (event.Start reading))
    start_said test implies =
        some_answer-append test (start_chips w a reading) (start_devices w a reading)
        ∙ ap (λ (t : Bool). t || some_answer test (start_devices w a reading))
        (unheard node.Chip test implies (start_chips w a reading) (leads.chips reading))
        ∙ start_devices-said test implies granted refl

    pub start-answer : world_answer w a reading ≡ acknowledged (answer_of f.states granted (event.Start reading))
    start-answer =
        ap (λ (t : Bool). cond t answer.Slow
        (cond (some_answer is_ack (start_chips w a reading ++ start_devices w a reading)) answer.Ack answer.Nack))
        (start_said is_slow slow_is_heard)
        ∙ ap (λ (t : Bool). cond (is_slow (answer_of f.states granted (event.Start reading))) answer.Slow (cond t answer.Ack answer.Nack))
        (start_said is_ack ack_is_heard)
        ∙ pick (answer_of f.states granted (event.Start reading))

    start_hearing : hearers w a reading ≡ listening (cond (has_heard (answer_of f.states granted (event.Start reading))) granted None)
    start_hearing =
        ap (λ (xs : List Node). xs ++ heard_of node.Device (start_devices w a reading)) (leads.chips reading)
        ∙ start_devices-heard granted refl

    not_named : (d : ℕ) → is_member d (put_named granted f.named) ≡ false → (is_it granted d ≡ false) × (is_member d f.named ≡ false)
    not_named d e = by (is_it granted d) (is_member d f.named) refl refl
      where
        by : (i n : Bool) → is_it granted d ≡ i → is_member d f.named ≡ n → (i ≡ false) × (n ≡ false)
        by false false ei en = (refl, refl)
        by true n ei en = absurd (let g : true ≡ false = sym (ap (λ (t : Bool). t || is_member d f.named) ei)
            ∙ sym (member_put granted f.named d) ∙ e in cc)
        by false true ei en =
            absurd (let g : true ≡ false = sym (ap (λ (t : Bool). t || is_member d f.named) ei ∙ en) ∙ sym (member_put granted f.named d)
            ∙ e in cc)

    named_joined : (d : ℕ) → is_member d (put_named granted f.named) ≡ true → joins_device w d ≡ true
    named_joined d e = by (is_it granted d) refl
      where
        by : (i : Bool) → is_it granted d ≡ i → joins_device w d ≡ true
        by true ei = leads.joined d (is_it-some granted d ei)
        by false ei = s.joined d (sym (ap (λ (t : Bool). t || is_member d f.named) ei) ∙ sym (member_put granted f.named d) ∙ e)

    current_granted : (h : Bool) (d : ℕ) → cond h granted None ≡ Some d → is_member d (put_named granted f.named) ≡ true
    current_granted true d e = member_put granted f.named d ∙ ap (λ (t : Bool). t || is_member d f.named) (is_it-at granted d e)
    current_granted false d e = absurd (let g : None ≡ Some d = e in cc)

  pub start-same : (granted : ℕ → Option ℕ) (a : ℕ) (reading : Bool) → LeadsTo w a (granted a)
      → Same b r (after w (call.Start a reading)) (flat_after granted f (call.Start a reading))
  start-same granted a reading leads =
      record {
        board = s.board;
        root = s.root;
        states = λ d own. states_fed (device_start w a reading) (flat_start (granted a) f.named reading) w.devices f.states d
            (s.states d own)
            (λ x at. start_given a (granted a) leads reading d x own at);
        bytes = λ d x own at. bytes_fed (flat_start (granted a) f.named reading) f.states d x
            (start_fits (is_it (granted a) d) (is_member d f.named) reading)
            (λ y ey. s.bytes d y own ey) at;
        quiet = λ d x own e at. (
            let none = not_named a (granted a) leads reading d e in
            s.quiet d x own none.1 (same_fed (flat_start (granted a) f.named reading) f.states d x
            (ap (λ (i : Bool). cond i (Some (event.Start reading)) (cond (is_member d f.named) (Some event.Other) None)) none.0
            ∙ ap (λ (n : Bool). cond n (Some event.Other) None) none.1) at));
        hearing = start_hearing a (granted a) leads reading;
        joined = λ d e. joined_still w (feed chip_table (λ m. _) 0 w.chips) d
            (started-chips w.board w.root w.chips w.devices w.hearing w.busy a reading)
            (named_joined a (granted a) leads reading d e);
        current = λ d e. current_granted a (granted a) leads reading (has_heard (answer_of f.states (granted a) (event.Start reading))) d e;
      }

  -- A BYTE
  no_chip_hearing : (m : ℕ) → list_any (is_chip m) w.hearing ≡ false
  no_chip_hearing m = ap (λ (xs : List Node). list_any (is_chip m) xs) s.hearing ∙ no_chip_listens f.current m

  to_devices-is : (e : Event) (d : ℕ) → to_devices w e d ≡ to_current f.current e d
  to_devices-is e d =
      ap (λ (t : Bool). cond t (Some e) None) (ap (λ (xs : List Node). list_any (is_device d) xs) s.hearing ∙ device_listens f.current d)

  sent_chips : (e : Event) → feed chip_table (to_chips w e) 0 w.chips ≡ w.chips
  sent_chips e =
      feed-same chip_table (to_chips w e) 0 w.chips
      (λ i x at. ap (λ (t : Bool). given chip_table (cond t (Some e) None) x) (no_chip_hearing (0 + i)))

  current_own : (k : ℕ) → f.current ≡ Some k → IsOf b r k
  current_own k e = joined_of b r w s.board s.root k (s.joined k (s.current k e))

  -- the answers are those of the device that listens
  abbrev said_of : Option ℕ → Event → List (ℕ × Answer)
  said_of None e = []
  said_of (Some k) e = one_answer state_table k e (slice_get f.states k)

  hearing-said : (e : Event) (o : Option ℕ) → f.current ≡ o → hearing_answers w e ≡ said_of o e
  hearing-said e o at =
      ap (λ (xs : List (ℕ × Answer)). xs ++ answers state_table (to_devices w e) 0 w.devices)
      (answers-quiet chip_table (to_chips w e) 0 w.chips (λ i x here. ap (λ (t : Bool). cond t (Some e) None) (no_chip_hearing (0 + i))))
      ∙ devices_said o at
    where
      devices_said : (o2 : Option ℕ) → f.current ≡ o2 → answers state_table (to_devices w e) 0 w.devices ≡ said_of o2 e
      devices_said None none =
          answers-quiet state_table (to_devices w e) 0 w.devices (λ i x here. to_devices-is e (0 + i)
          ∙ ap (λ (c : Option ℕ). to_current c e (0 + i)) none)
      devices_said (Some k) here =
          answers-alone state_table (to_devices w e) w.devices k e
          (record {
            at = to_devices-is e k ∙ ap (λ (t : Bool). cond t (Some e) None) (is_it-at f.current k here);
            else = λ j apart. to_devices-is e j ∙ ap (λ (c : Option ℕ). to_current c e j) here
                ∙ ap (λ (t : Bool). cond t (Some e) None) (ne_eqb k j (λ same. apart (sym same)));
          })
          (slice_get w.devices k) refl
          ∙ ap (λ (y : Option TargetState). one_answer state_table k e y) (s.states k (current_own k here))

  pub takes-same : (byte : ℕ) → takes w byte ≡ is_ack (answer_of f.states f.current (event.Put byte))
  takes-same byte = ap (λ (xs : List (ℕ × Answer)). some_answer is_ack xs) (hearing-said (event.Put byte) f.current refl) ∙ by f.current
    where
      one : (k : ℕ) (y : Option TargetState)
          → some_answer is_ack (one_answer state_table k (event.Put byte) y) ≡ is_ack (answer_at y (event.Put byte))
      one k None = refl
      one k (Some x) = or-false (is_ack (state_answer x (event.Put byte)))

      by : (o : Option ℕ) → some_answer is_ack (said_of o (event.Put byte)) ≡ is_ack (answer_of f.states o (event.Put byte))
      by None = refl
      by (Some k) = one k (slice_get f.states k)

  pub gives-same : gives w ≡ byte_of (answer_of f.states f.current (event.Get true))
  gives-same = ap (λ (xs : List (ℕ × Answer)). and_of xs) (hearing-said (event.Get true) f.current refl) ∙ by f.current refl
    where
      one : (k : ℕ) (y : Option TargetState) → ((x : TargetState) → y ≡ Some x → HoldsBytes x)
          → and_of (one_answer state_table k (event.Get true) y) ≡ byte_of (answer_at y (event.Get true))
      one k None all = refl
      one k (Some x) all = byte_and (byte_of (state_answer x (event.Get true))) (sends-byte x true (all x refl))

      by : (o : Option ℕ) → f.current ≡ o → and_of (said_of o (event.Get true)) ≡ byte_of (answer_of f.states o (event.Get true))
      by None e = refl
      by (Some k) e = one k (slice_get f.states k) (λ x at. s.bytes k x (current_own k e) at)

  not_current : (d : ℕ) → is_member d f.named ≡ false → is_it f.current d ≡ false
  not_current d none = by (is_it f.current d) refl
    where
      by : (i : Bool) → is_it f.current d ≡ i → i ≡ false
      by false e = refl
      by true e = absurd (let g : false ≡ true = sym none ∙ s.current d (is_it-some f.current d e) in cc)

  sent-same : (e : Event) → IsByteEvent e
      → Same b r (record w { chips = feed chip_table (to_chips w e) 0 w.chips; devices = feed state_table (to_devices w e) 0 w.devices })
      (record f { states = feed state_table (to_current f.current e) 0 f.states })
  sent-same e fit =
      record {
        board = s.board;
        root = s.root;
        states = λ d own. states_fed (to_devices w e) (to_current f.current e) w.devices f.states d (s.states d own)
            (λ x at. ap (λ (o : Option Event). given state_table o x) (to_devices-is e d));
        bytes = λ d x own at. bytes_fed (to_current f.current e) f.states d x (sent_fits (is_it f.current d) e fit)
            (λ y ey. s.bytes d y own ey) at;
        quiet = λ d x own none at. s.quiet d x own none (same_fed (to_current f.current e) f.states d x
            (ap (λ (t : Bool). cond t (Some e) None) (not_current d none)) at);
        hearing = s.hearing;
        joined = λ d n. joined_still w (feed chip_table (to_chips w e) 0 w.chips) d (sent_chips e) (s.joined d n);
        current = s.current;
      }

  -- A STOP
  stop_given : (d : ℕ) (x : TargetState) → IsOf b r d → slice_get f.states d ≡ Some x
      → given state_table (stop_event (joins_device w d)) x ≡ given state_table (to_named f.named event.Stop d) x
  stop_given d x own at = by (joins_device w d) (is_member d f.named) refl refl
    where
      by : (j n : Bool) → joins_device w d ≡ j → is_member d f.named ≡ n
          → given state_table (stop_event j) x ≡ given state_table (cond n (Some event.Stop) None) x
      by true true ej en = refl
      by true false ej en = (s.quiet d x own en at).stop
      by false true ej en = absurd (let g : false ≡ true = sym ej ∙ s.joined d en in cc)
      by false false ej en = refl

  stop_quiet : (d : ℕ) (x : TargetState) → IsOf b r d → slice_get (feed state_table (to_named f.named event.Stop) 0 f.states) d ≡ Some x
      → IsQuiet state_table x
  stop_quiet d x own e =
      let from = map-from (slice_get f.states d) (λ (y : TargetState). given state_table (to_named f.named event.Stop d) y) x
      (sym (fed-at state_table (to_named f.named event.Stop) f.states d) ∙ e) in
      subst (λ (z : TargetState). IsQuiet state_table z) from.2 (by from.0 from.1 (is_member d f.named) refl)
    where
      by : (y : TargetState) → slice_get f.states d ≡ Some y → (n : Bool) → is_member d f.named ≡ n
          → IsQuiet state_table (given state_table (cond n (Some event.Stop) None) y)
      by y at true en = stopped-quiet y
      by y at false en = s.quiet d y own en at

  pub stop-same : (granted : ℕ → Option ℕ) → Same b r (after w call.Stop) (flat_after granted f call.Stop)
  stop-same granted =
      record {
        board = s.board;
        root = s.root;
        states = λ d own. states_fed (λ n. stop_event (joins_device w n)) (to_named f.named event.Stop) w.devices f.states d
            (s.states d own)
            (λ x at. stop_given d x own at);
        bytes = λ d x own at. bytes_fed (to_named f.named event.Stop) f.states d x (sent_fits (is_member d f.named) event.Stop tt)
            (λ y ey. s.bytes d y own ey) at;
        quiet = λ d x own e at. stop_quiet d x own at;
        hearing = refl;
        joined = λ d e. absurd (let g : false ≡ true = e in cc);
        current = λ d e. absurd (let g : None ≡ Some d = e in cc);
      }

pub following-same : (b : BoardView) (r : ℕ) (granted : ℕ → Option ℕ) (w : World) (f : FlatListener) (c : PortCall) → IsFollowing IsByte c
    → Same b r w f
    → Same b r (after w c) (flat_after granted f c)
following-same b r granted w f (call.Start a reading) fit s = absurd fit
following-same b r granted w f (call.Line m level) fit s = absurd fit
following-same b r granted w f (call.Put byte) fit s = sent-same b r w f s (event.Put byte) fit
following-same b r granted w f (call.Get ack) fit s = sent-same b r w f s (event.Get ack) tt
following-same b r granted w f call.Stop fit s = stop-same b r w f s granted
following-same b r granted w f call.Fault fit s = stop-same b r w f s granted

-- one message says the same in the world of its root as in the flat world, and they stay the same
pub message-alike : (b : BoardView) (r : ℕ) (granted : ℕ → Option ℕ) (limit : ℕ) (w : World) (f : FlatListener) (m : MessageView)
    (last : Bool) (cut : Option ℕ)
    → Same b r w f → LeadsTo w m.addr (granted m.addr) → AreBytes m.bytes
    → ToldAlike (Same b r) (talk world_listener limit w m last cut) (talk (flat_listener granted) limit f m last cut)
message-alike b r granted limit w f m last cut s leads bytes =
    talk-alike world_listener (flat_listener granted) (Same b r) IsByte (following-same b r granted)
    (λ u g byte same. takes-same b r u g same byte) (λ u g same. gives-same b r u g same) limit w f m last cut
    (recursion_from_All IsByte m.bytes bytes)
    (stop-same b r w f s granted) (start-same b r w f s granted m.addr m.reading leads)
    (start-answer b r w f s m.addr (granted m.addr) leads m.reading)
