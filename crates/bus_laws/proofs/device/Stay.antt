-- Which devices a message leaves alone: all of them, where it is a control message that finds the root's devices quiet;
-- and those of other roots. The inductions go over the list of those who hear.
use Rattle.bus_laws.proofs.Cited.{◌≡◌, ℕ, zero, suc, ◌+◌, Bool, true, false, cond, ◌||◌, List, [], ◌∷◌, ◌++◌, map, Option, Some, None, eqb}
use Rattle.bus_laws.proofs.Cited.{refl, sym, ◌∙◌, ap, subst, zero-add, inl, eqb-true, slice_get, list_any, option_map, Event, Answer}
use Rattle.bus_laws.proofs.Cited.{PortCall, Node, BoardView, DeviceView, Table, of_device, home_of_mux, addr_of_mux, MayJoin, IsTree}
use Rattle.bus_laws.proofs.Cited.{IsPlainBoard, TargetState, HoldsBytes, IsQuiet, state_table, MessageView, World, is_joined, joins_device}
use Rattle.bus_laws.proofs.Cited.{given, feed, answers, answer_with, has_heard, start_event, device_start, start_chips, start_devices}
use Rattle.bus_laws.proofs.Cited.{heard_of, hearers, is_device, to_devices, stop_event, after, opening_world, FlatListener, idle, is_member}
use Rattle.bus_laws.proofs.Cited.{put_named, answer_of, flat_start, to_current, to_named, flat_after, flat_listener, world_listener, talk}
use Rattle.bus_laws.proofs.Cited.{is_it, IsOf, Same, IsControl, IsLater}
use Rattle.i2c_base.specs.declared.event.Event.TheVariants as event
use Rattle.i2c_base.specs.declared.port.PortCall.TheVariants as call
use Rattle.i2c_base.specs.declared.ids.Node.TheVariants as node
use Rattle.i2c_spec.specs.Plain.{IsPlainDevice}
use Rattle.i2c_spec.specs.Targets.{opening_state}
use Rattle.bus_laws.specs.Alike.{IsUnnamed}
use Rattle.bus_laws.proofs.world.TalkLaws.{talk-keeps}
use Rattle.bus_laws.proofs.world.Feed.{hears, feed-same, heard-none, none-named}
use Rattle.bus_laws.proofs.world.Reach.{control_alone, start_heard, other_state}
use Rattle.bus_laws.proofs.world.Hears.{device_address}
use Rattle.bus_laws.proofs.world.BoardFacts.{get_within}
use Rattle.i2c_spec.proofs.StateLemmas.{opening-quiet, opening-bytes}
use Rattle.bus_laws.proofs.device.Hears.{fed-at, map-same}
use Rattle.bus_laws.proofs.device.Same.{joined_of, stop-same}
use Rattle.bus_laws.proofs.device.Stops.{world-settled}

any_append : (test : Node → Bool) (xs ys : List Node) → list_any test xs ≡ false → list_any test ys ≡ false
    → list_any test (xs ++ ys) ≡ false
any_append test [] ys hx hy = hy
any_append test (x ∷ xs) ys hx hy = by (test x) hx (λ rest. any_append test xs ys rest hy)
  where
    by : (t : Bool) → (t || list_any test xs) ≡ false → (list_any test xs ≡ false → list_any test (xs ++ ys) ≡ false)
        → (t || list_any test (xs ++ ys)) ≡ false
    by true h rest = h
    by false h rest = rest h

-- a device that gets no event isn't among those who hear
absent_unheard : {X : Type 0} (t : Table X) (f : ℕ → Option Event) (d k : ℕ) (xs : List X) → f d ≡ None
    → list_any (is_device d) (heard_of node.Device (answers t f k xs)) ≡ false
absent_unheard t f d k [] none = refl
absent_unheard t f d k (x ∷ xs) none = by (f k) refl (absent_unheard t f d (k + 1) xs none)
  where
    rest : List (ℕ × Answer)
    rest = answers t f (k + 1) xs

    named : (h : Bool) → eqb k d ≡ false → list_any (is_device d) (heard_of node.Device rest) ≡ false
        → list_any (is_device d) (cond h (node.Device k ∷ heard_of node.Device rest) (heard_of node.Device rest)) ≡ false
    named true other none_else = ap (λ (b : Bool). b || list_any (is_device d) (heard_of node.Device rest)) other ∙ none_else
    named false other none_else = none_else

    other_number : (e : Event) → f k ≡ Some e → (b : Bool) → eqb k d ≡ b → b ≡ false
    other_number e at false h = refl
    other_number e at true h =
        absurd (let same : k ≡ d = eqb-true k d h in
        let g : None ≡ Some e = sym none ∙ ap f (sym same) ∙ at in cc)

    by : (o : Option Event) → f k ≡ o → list_any (is_device d) (heard_of node.Device rest) ≡ false
        → list_any (is_device d) (heard_of node.Device (answer_with t o k x rest)) ≡ false
    by None at none_else = none_else
    by (Some e) at none_else = named (has_heard (t.answer x e)) (other_number e at (eqb k d) refl) none_else

-- CONTROL MESSAGES
-- the devices stay, and none listens
abbrev pub IsDeviceless : BoardView → ℕ → List TargetState → World → Type 0
IsDeviceless b r xs u = (u.board ≡ b) × (u.root ≡ r) × (u.devices ≡ xs) × ((d : ℕ) → list_any (is_device d) u.hearing ≡ false)

module _ (b : BoardView) (r : ℕ) (xs : List TargetState) (quiet : (d : ℕ) (x : TargetState) → IsOf b r d → slice_get xs d ≡ Some x
    → IsQuiet state_table x) where
  quiet_at : (u : World) → u.board ≡ b → u.root ≡ r → u.devices ≡ xs → (d : ℕ) (x : TargetState) → joins_device u d ≡ true
      → slice_get u.devices d ≡ Some x → IsQuiet state_table x
  quiet_at u board root same d x joined at =
      quiet d x (joined_of b r u board root d joined) (ap (λ (ys : List TargetState). slice_get ys d) (sym same) ∙ at)

  stopped_devices : (u : World) → u.board ≡ b → u.root ≡ r → u.devices ≡ xs
      → feed state_table (λ d. stop_event (joins_device u d)) 0 u.devices ≡ u.devices
  stopped_devices u board root same =
      feed-same state_table (λ d. stop_event (joins_device u d)) 0 u.devices
      (λ i x at. by (0 + i) x (joins_device u (0 + i)) refl (ap (λ (n : ℕ). slice_get u.devices n) (zero-add i) ∙ at))
    where
      by : (d : ℕ) (x : TargetState) (j : Bool) → joins_device u d ≡ j → slice_get u.devices d ≡ Some x
          → given state_table (stop_event j) x ≡ x
      by d x true e at = (quiet_at u board root same d x e at).stop
      by d x false e at = refl

  sent_devices : (u : World) (e : Event) → ((d : ℕ) → list_any (is_device d) u.hearing ≡ false)
      → feed state_table (to_devices u e) 0 u.devices ≡ u.devices
  sent_devices u e none =
      feed-same state_table (to_devices u e) 0 u.devices
      (λ i x at. ap (λ (t : Bool). given state_table (cond t (Some e) None) x) (none (0 + i)))

  later_deviceless : (u : World) (c : PortCall) → IsLater c → IsDeviceless b r xs u → IsDeviceless b r xs (after u c)
  later_deviceless u (call.Start a reading) l f = absurd l
  later_deviceless u (call.Line m level) l f = absurd l
  later_deviceless u (call.Put byte) l f = (f.0, f.1, sent_devices u (event.Put byte) f.3 ∙ f.2, f.3)
  later_deviceless u (call.Get ack) l f = (f.0, f.1, sent_devices u (event.Get ack) f.3 ∙ f.2, f.3)
  later_deviceless u call.Stop l f = (f.0, f.1, stopped_devices u f.0 f.1 f.2 ∙ f.2, λ d. refl)
  later_deviceless u call.Fault l f = (f.0, f.1, stopped_devices u f.0 f.1 f.2 ∙ f.2, λ d. refl)

  module _ (w : World) (board : w.board ≡ b) (root : w.root ≡ r) (same : w.devices ≡ xs) (a : ℕ) (control : IsControl w a)
      (reading : Bool) where
    started_devices : feed state_table (device_start w a reading) 0 w.devices ≡ w.devices
    started_devices =
        feed-same state_table (device_start w a reading) 0 w.devices
        (λ i x at. by (0 + i) x (joins_device w (0 + i)) (of_device (λ (y : DeviceView). eqb y.addr a) false w.board (0 + i)) refl refl
        (ap (λ (n : ℕ). slice_get w.devices n) (zero-add i) ∙ at))
      where
        by : (d : ℕ) (x : TargetState) (j t : Bool) → joins_device w d ≡ j
            → of_device (λ (y : DeviceView). eqb y.addr a) false w.board d ≡ t → slice_get w.devices d ≡ Some x
            → given state_table (start_event j t reading) x ≡ x
        by d x true true ej et at = absurd (control d ej et)
        by d x true false ej et at = (quiet_at w board root same d x ej at).other
        by d x false t ej et at = refl

    none_hear : (d : ℕ) → list_any (is_device d) (hearers w a reading) ≡ false
    none_hear d =
        any_append (is_device d) (heard_of node.Chip (start_chips w a reading)) (heard_of node.Device (start_devices w a reading))
        (none-named (is_device d) node.Chip (λ n. refl) (start_chips w a reading))
        (ap (λ (ns : List Node). list_any (is_device d) ns)
        (heard-none state_table node.Device (device_start w a reading) 0 w.devices
        (λ i x at. silent (0 + i) x (hears state_table (device_start w a reading (0 + i)) x) refl)))
      where
        silent : (n : ℕ) (x : TargetState) (t : Bool) → hears state_table (device_start w a reading n) x ≡ t → t ≡ false
        silent n x false h = refl
        silent n x true h =
            absurd (let g = start_heard state_table x (joins_device w n)
            (of_device (λ (y : DeviceView). eqb y.addr a) false w.board n) reading (other_state x) h in control n g.0 g.1)

  -- a message that no device hears leaves them as they are, where those of its root are quiet
  pub control-deviceless : (limit : ℕ) (w : World) (m : MessageView) (last : Bool) (cut : Option ℕ) → w.board ≡ b → w.root ≡ r
      → w.devices ≡ xs → IsControl w m.addr
      → IsDeviceless b r xs (talk world_listener limit w m last cut).now
  control-deviceless limit w m last cut board root same control =
      talk-keeps world_listener (IsDeviceless b r xs) later_deviceless limit w m last cut
      (board, root, stopped_devices w board root same ∙ same, λ d. refl)
      (board, root, started_devices w board root same m.addr control m.reading ∙ same, none_hear w board root same m.addr control m.reading)

-- between transfers a control message leaves the world and the flat world the same
pub control-same : (b : BoardView) (r limit : ℕ) (w : World) (xs : List TargetState) (m : MessageView) (cut : Option ℕ)
    → Same b r w (idle xs) → IsControl w m.addr
    → Same b r (talk world_listener limit w m true cut).now (idle xs)
control-same b r limit w xs m cut s control =
    let left = control-deviceless b r w.devices
    (λ d x own at. s.quiet d x own refl (sym (s.states d own) ∙ at)) limit w m true cut s.board s.root refl control in
    record {
      board = left.0;
      root = left.1;
      states = λ d own. ap (λ (ys : List TargetState). slice_get ys d) left.2 ∙ s.states d own;
      bytes = s.bytes;
      quiet = s.quiet;
      hearing = (world-settled limit w m true cut (inl refl)).0;
      joined = λ d e. absurd (let g : false ≡ true = e in cc);
      current = λ d e. absurd (let g : None ≡ Some d = e in cc);
    }

-- so does a line step, also one that failed
pub line-same : (b : BoardView) (r : ℕ) (w : World) (xs : List TargetState) (m level : ℕ) → Same b r w (idle xs)
    → Same b r (after w (call.Line m level)) (idle xs)
line-same b r w xs m level s =
    record {
      board = s.board;
      root = s.root;
      states = s.states;
      bytes = s.bytes;
      quiet = s.quiet;
      hearing = s.hearing;
      joined = λ d e. absurd (let g : false ≡ true = e in cc);
      current = s.current;
    }

pub fault-same : (b : BoardView) (r : ℕ) (w : World) (xs : List TargetState) → Same b r w (idle xs)
    → Same b r (after w call.Fault) (idle xs)
fault-same b r w xs s =
    subst (λ (ys : List TargetState). Same b r (after w call.Fault) (idle ys))
    (feed-same state_table (to_named [] event.Stop) 0 xs (λ i x at. refl))
    (stop-same b r w (idle xs) s (λ a. None))

-- no device along its bus has the address of a mux chip there
pub chip-control : (b : BoardView) (w : World) (s m a : ℕ) → w.board ≡ b → IsTree b → ((u : ℕ) → is_joined w u ≡ true → MayJoin b s u)
    → addr_of_mux b m ≡ Some a → home_of_mux b m ≡ s → IsControl w a
chip-control b w s m a board =
    subst (λ (x : BoardView). IsTree x → ((u : ℕ) → is_joined w u ≡ true → MayJoin x s u) → addr_of_mux x m ≡ Some a → home_of_mux x m ≡ s
    → IsControl w a) board
    (λ tree along addr home d j t.
    (let same : node.Device d ≡ node.Chip m =
    control_alone w.board tree m a addr (node.Device d) (device_address a (slice_get w.board.devices d) t)
    (subst (λ (i : ℕ). MayJoin w.board i (of_device (λ (y : DeviceView). y.bus) 0 w.board d)) (sym home)
    (along (of_device (λ (y : DeviceView). y.bus) 0 w.board d) j)) in
    absurd (cc)))

-- OTHER ROOTS
-- a device of another root is no part of the world
abbrev pub IsElsewhere : BoardView → ℕ → ℕ → Option TargetState → World → Type 0
IsElsewhere b r d o u = (u.board ≡ b) × (u.root ≡ r) × (slice_get u.devices d ≡ o) × (list_any (is_device d) u.hearing ≡ false)

module _ (b : BoardView) (r d : ℕ) (other : IsOf b r d → ⊥) (o : Option TargetState) where
  not_joined : (u : World) → u.board ≡ b → u.root ≡ r → joins_device u d ≡ false
  not_joined u board root = by (joins_device u d) refl
    where
      by : (j : Bool) → joins_device u d ≡ j → j ≡ false
      by false e = refl
      by true e = absurd (other (joined_of b r u board root d e))

  fed_nothing : (f : ℕ → Option Event) (xs : List TargetState) → f d ≡ None → slice_get (feed state_table f 0 xs) d ≡ slice_get xs d
  fed_nothing f xs none =
      fed-at state_table f xs d ∙ map-same (slice_get xs d) (λ (x : TargetState). given state_table (f d) x)
      (λ x at. ap (λ (e : Option Event). given state_table e x) none)

  later_elsewhere : (u : World) (c : PortCall) → IsLater c → IsElsewhere b r d o u → IsElsewhere b r d o (after u c)
  later_elsewhere u (call.Start a reading) l f = absurd l
  later_elsewhere u (call.Line m level) l f = absurd l
  later_elsewhere u (call.Put byte) l f = (
    f.0,
    f.1,
    fed_nothing (to_devices u (event.Put byte)) u.devices (ap (λ (t : Bool). cond t (Some (event.Put byte)) None) f.3)
        ∙ f.2,
    f.3,
  )
  later_elsewhere u (call.Get ack) l f = (
    f.0,
    f.1,
    fed_nothing (to_devices u (event.Get ack)) u.devices (ap (λ (t : Bool). cond t (Some (event.Get ack)) None) f.3)
        ∙ f.2,
    f.3,
  )
  later_elsewhere u call.Stop l f = (
    f.0,
    f.1,
    fed_nothing (λ n. stop_event (joins_device u n)) u.devices (ap (λ (j : Bool). stop_event j) (not_joined u f.0 f.1))
        ∙ f.2,
    refl,
  )
  later_elsewhere u call.Fault l f = (
    f.0,
    f.1,
    fed_nothing (λ n. stop_event (joins_device u n)) u.devices (ap (λ (j : Bool). stop_event j) (not_joined u f.0 f.1))
        ∙ f.2,
    refl,
  )

  pub talk-elsewhere : (limit : ℕ) (w : World) (m : MessageView) (last : Bool) (cut : Option ℕ) → w.board ≡ b → w.root ≡ r
      → slice_get w.devices d ≡ o
      → slice_get (talk world_listener limit w m last cut).now.devices d ≡ o
  talk-elsewhere limit w m last cut board root at =
      let none : device_start w m.addr m.reading d ≡ None =
      ap (λ (j : Bool). start_event j (of_device (λ (y : DeviceView). eqb y.addr m.addr) false w.board d) m.reading)
      (not_joined w board root) in
      (talk-keeps world_listener (IsElsewhere b r d o) later_elsewhere limit w m last cut (
        board,
        root,
        fed_nothing (λ n. stop_event (joins_device w n)) w.devices (ap (λ (j : Bool). stop_event j) (not_joined w board root))
            ∙ at,
        refl,
      ) (
        board,
        root,
        fed_nothing (device_start w m.addr m.reading) w.devices none ∙ at,
        any_append (is_device d) (heard_of node.Chip (start_chips w m.addr m.reading))
            (heard_of node.Device (start_devices w m.addr m.reading))
            (none-named (is_device d) node.Chip (λ n. refl) (start_chips w m.addr m.reading))
            (absent_unheard state_table (device_start w m.addr m.reading) d 0 w.devices none),
      )).2

-- a device that isn't granted, and wasn't before, is no part of the message in the flat world
module _ (d : ℕ) (o : Option TargetState) (granted : ℕ → Option ℕ) where
  flat_nothing : (f : ℕ → Option Event) (xs : List TargetState) → f d ≡ None → slice_get (feed state_table f 0 xs) d ≡ slice_get xs d
  flat_nothing f xs none =
      fed-at state_table f xs d ∙ map-same (slice_get xs d) (λ (x : TargetState). given state_table (f d) x)
      (λ x at. ap (λ (e : Option Event). given state_table e x) none)

  later_unnamed : (f : FlatListener) (c : PortCall) → IsLater c → IsUnnamed d o f → IsUnnamed d o (flat_after granted f c)
  later_unnamed f (call.Start a reading) l u = absurd l
  later_unnamed f (call.Line m level) l u = absurd l
  later_unnamed f (call.Put byte) l u = (
    u.0,
    u.1,
    flat_nothing (to_current f.current (event.Put byte)) f.states (ap (λ (t : Bool). cond t (Some (event.Put byte)) None) u.1)
        ∙ u.2,
  )
  later_unnamed f (call.Get ack) l u = (
    u.0,
    u.1,
    flat_nothing (to_current f.current (event.Get ack)) f.states (ap (λ (t : Bool). cond t (Some (event.Get ack)) None) u.1)
        ∙ u.2,
  )
  later_unnamed f call.Stop l u =
      (refl, refl, flat_nothing (to_named f.named event.Stop) f.states (ap (λ (t : Bool). cond t (Some event.Stop) None) u.0) ∙ u.2)
  later_unnamed f call.Fault l u =
      (refl, refl, flat_nothing (to_named f.named event.Stop) f.states (ap (λ (t : Bool). cond t (Some event.Stop) None) u.0) ∙ u.2)

  still_unnamed : (g : Option ℕ) (ds : List ℕ) → is_it g d ≡ false → is_member d ds ≡ false → is_member d (put_named g ds) ≡ false
  still_unnamed None ds e n = n
  still_unnamed (Some k) ds e n = ap (λ (t : Bool). t || is_member d ds) e ∙ n

  not_current : (h : Bool) (g : Option ℕ) → is_it g d ≡ false → is_it (cond h g None) d ≡ false
  not_current true g e = e
  not_current false g e = refl

  pub talk-unnamed : (limit : ℕ) (f : FlatListener) (m : MessageView) (last : Bool) (cut : Option ℕ) → is_it (granted m.addr) d ≡ false
      → IsUnnamed d o f
      → IsUnnamed d o (talk (flat_listener granted) limit f m last cut).now
  talk-unnamed limit f m last cut e u =
      talk-keeps (flat_listener granted) (IsUnnamed d o) later_unnamed limit f m last cut
      (refl, refl, flat_nothing (to_named f.named event.Stop) f.states (ap (λ (t : Bool). cond t (Some event.Stop) None) u.0) ∙ u.2) (
        still_unnamed (granted m.addr) f.named e u.0,
        not_current (has_heard (answer_of f.states (granted m.addr) (event.Start m.reading))) (granted m.addr) e,
        flat_nothing (flat_start (granted m.addr) f.named m.reading) f.states
            (ap (λ (i : Bool). cond i (Some (event.Start m.reading)) (cond (is_member d f.named) (Some event.Other) None)) e
            ∙ ap (λ (n : Bool). cond n (Some event.Other) None) u.0) ∙ u.2,
      )

-- what other roots do leaves the two the same
pub same-elsewhere : (b : BoardView) (r : ℕ) (w : World) (xs ys : List TargetState) → Same b r w (idle xs)
    → ((d : ℕ) → IsOf b r d → slice_get ys d ≡ slice_get xs d) → Same b r w (idle ys)
same-elsewhere b r w xs ys s same =
    record {
      board = s.board;
      root = s.root;
      states = λ d own. s.states d own ∙ sym (same d own);
      bytes = λ d x own at. s.bytes d x own (sym (same d own) ∙ at);
      quiet = λ d x own e at. s.quiet d x own e (sym (same d own) ∙ at);
      hearing = s.hearing;
      joined = s.joined;
      current = s.current;
    }

-- THE OPENING
opened_at : (ds : List DeviceView) (i : ℕ) → slice_get (map opening_state ds) i ≡ option_map opening_state (slice_get ds i)
opened_at [] i = refl
opened_at (d ∷ ds) zero = refl
opened_at (d ∷ ds) (suc i) = opened_at ds i

opened_from : (o : Option DeviceView) (x : TargetState) → option_map opening_state o ≡ Some x
    → (d : DeviceView) × (o ≡ Some d) × (opening_state d ≡ x)
opened_from None x e = absurd (let f : None ≡ Some x = e in cc)
opened_from (Some d) x e = (d, refl, let f : Some (opening_state d) ≡ Some x = e in let h : opening_state d ≡ x = cc in h)

plain_at : (b : BoardView) → IsPlainBoard b → (i : ℕ) (d : DeviceView) → slice_get b.devices i ≡ Some d → IsPlainDevice d
plain_at b plain i d e =
    let r = get_within b.devices i d d e in
    subst (λ (x : DeviceView). IsPlainDevice x) r.1 (plain.devices i d r.0)

pub opening-same : (b : BoardView) (r : ℕ) → IsPlainBoard b → Same b r (opening_world b r) (idle (map opening_state b.devices))
opening-same b r plain =
    record {
      board = refl;
      root = refl;
      states = λ d own. refl;
      bytes = λ d x own at. (
          let from = opened_from (slice_get b.devices d) x (sym (opened_at b.devices d) ∙ at) in
          subst (λ (y : TargetState). HoldsBytes y) from.2 (opening-bytes from.0 (plain_at b plain d from.0 from.1)));
      quiet = λ d x own e at. (
          let from = opened_from (slice_get b.devices d) x (sym (opened_at b.devices d) ∙ at) in
          subst (λ (y : TargetState). IsQuiet state_table y) from.2 (opening-quiet from.0));
      hearing = refl;
      joined = λ d e. absurd (let g : false ≡ true = e in cc);
      current = λ d e. absurd (let g : None ≡ Some d = e in cc);
    }
