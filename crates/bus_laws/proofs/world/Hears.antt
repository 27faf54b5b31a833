-- Who hears a start: a control message its own chip alone, and a caller's message no chip. No induction; the lists are
-- those of `WorldFeed`.
use Rattle.bus_laws.proofs.Cited.{◌≡◌, ℕ, ◌+◌, Bool, true, false, cond, ◌&&◌, ◌||◌, List, [], ◌∷◌, ◌++◌, Option, Some, None, eqb, refl, sym}
use Rattle.bus_laws.proofs.Cited.{◌∙◌, ap, subst, zero-add, slice_get, unwrap_or, option_map, eqb-true, eq-eqb, Event, Answer, Node}
use Rattle.bus_laws.proofs.Cited.{BoardView, DeviceView, home_of_mux, addr_of_mux, of_device, MayJoin, IsTree, home_of, addr_of}
use Rattle.bus_laws.proofs.Cited.{has_address, ChipView, chip_table, TargetState, state_table, World, is_joined, has_chip, joins_chip}
use Rattle.bus_laws.proofs.Cited.{joins_device, start_event, chip_start, device_start, start_chips, start_devices, answers, answer_with}
use Rattle.bus_laws.proofs.Cited.{is_ack, is_slow, has_heard, heard_of, hearers, some_answer, or-false, and_last}
use Rattle.i2c_base.specs.declared.event.Event.TheVariants as event
use Rattle.i2c_base.specs.declared.event.Answer.TheVariants as answer
use Rattle.i2c_base.specs.declared.ids.Node.TheVariants as node
use Rattle.i2c_spec.specs.Chips.{chip_answer}
use Rattle.i2c_spec.specs.World.{answer as world_answer}
use Rattle.bus_laws.proofs.world.Feed.{hears, heard-none, heard-one, unheard, some_answer-append, some_answer-at}
use Rattle.bus_laws.proofs.world.Reach.{world_of, control_alone, start_heard, other_state, address_is}

pub device_address : (a : ℕ) (o : Option DeviceView) → unwrap_or (option_map (λ (d : DeviceView). eqb d.addr a) o) false ≡ true
    → unwrap_or (option_map (λ (d : DeviceView). Some d.addr) o) None ≡ Some a
device_address a None e = absurd (let f : false ≡ true = e in cc)
device_address a (Some d) e = ap Some (eqb-true d.addr a e)

pub slow_is_heard : (a : Answer) → has_heard a ≡ false → is_slow a ≡ false
slow_is_heard answer.Ack e = refl
slow_is_heard answer.Nack e = refl
slow_is_heard answer.Slow e = absurd (let f : true ≡ false = e in cc)
slow_is_heard (answer.Byte byte) e = refl
slow_is_heard answer.Nothing e = refl

pub ack_is_heard : (a : Answer) → has_heard a ≡ false → is_ack a ≡ false
ack_is_heard answer.Ack e = absurd (let f : true ≡ false = e in cc)
ack_is_heard answer.Nack e = refl
ack_is_heard answer.Slow e = refl
ack_is_heard (answer.Byte byte) e = refl
ack_is_heard answer.Nothing e = refl

chip_not_slow : (x : ChipView) (e : Event) → is_slow (chip_answer x e) ≡ false
chip_not_slow x (event.Start reading) = refl
chip_not_slow x event.Other = refl
chip_not_slow x (event.Put byte) = refl
chip_not_slow x (event.Get ack) = refl
chip_not_slow x event.Stop = refl

chips_not_slow : (f : ℕ → Option Event) (k : ℕ) (xs : List ChipView) → some_answer is_slow (answers chip_table f k xs) ≡ false
chips_not_slow f k [] = refl
chips_not_slow f k (x ∷ xs) = by_event (f k) ∙ chips_not_slow f (k + 1) xs
  where
    by_event : (o : Option Event) → some_answer is_slow
        (answer_with chip_table o k x (answers chip_table f (k + 1) xs)) ≡ some_answer is_slow (answers chip_table f (k + 1) xs)
    by_event None = refl
    by_event (Some e) = ap (λ (t : Bool). t || some_answer is_slow (answers chip_table f (k + 1) xs)) (chip_not_slow x e)

module _ (b : BoardView) (tree : IsTree b) (r s : ℕ) (cs : List ChipView) (ds : List TargetState) (hs : List Node) (busy : Bool)
    (along : (u : ℕ) → is_joined (world_of b r cs ds hs busy) u ≡ true → MayJoin b s u) where
  -- a chip that hears is joined, has the address, and stands along the message's bus
  pub chip_along : (a n : ℕ) (reading : Bool) (x : ChipView)
      → hears chip_table (chip_start (world_of b r cs ds hs busy) a reading n) x ≡ true
      → (addr_of b (node.Chip n) ≡ Some a) × MayJoin b s (home_of b (node.Chip n))
  chip_along a n reading x h =
      let w : World = world_of b r cs ds hs busy in
      let f = start_heard chip_table x (joins_chip w n) (has_address a (addr_of_mux b n)) reading refl h in
      (address_is a (addr_of_mux b n) f.1, along (home_of_mux b n) (and_last (has_chip b n) (is_joined w (home_of_mux b n)) f.0))

  pub device_along : (a n : ℕ) (reading : Bool) (x : TargetState)
      → hears state_table (device_start (world_of b r cs ds hs busy) a reading n) x ≡ true
      → (addr_of b (node.Device n) ≡ Some a) × MayJoin b s (home_of b (node.Device n))
  device_along a n reading x h =
      let w : World = world_of b r cs ds hs busy in
      let f = start_heard state_table x (joins_device w n) (of_device (λ (d : DeviceView). eqb d.addr a) false b n) reading
      (other_state x) h in
      (device_address a (slice_get b.devices n) f.1, along (of_device (λ (d : DeviceView). d.bus) 0 b n) f.0)

  module _ (m a : ℕ) (reading : Bool) (x : ChipView) (addr : addr_of_mux b m ≡ Some a) (home : home_of_mux b m ≡ s)
      (joined : is_joined (world_of b r cs ds hs busy) s ≡ true) (at : slice_get cs m ≡ Some x) where
    only_own : (n : ℕ) (name : Node) → addr_of b name ≡ Some a → MayJoin b s (home_of b name) → name ≡ node.Chip m
    only_own n name named on_path =
        control_alone b tree m a addr name named (subst (λ (i : ℕ). MayJoin b i (home_of b name)) (sym home) on_path)

    chip_hears : (c : Bool) → hears chip_table (start_event (c && true) true reading) x ≡ c
    chip_hears true = refl
    chip_hears false = refl

    own_hears : hears chip_table (chip_start (world_of b r cs ds hs busy) a reading m) x ≡ has_chip b m
    own_hears =
        ap (λ (j : Bool). hears chip_table (start_event (has_chip b m && j) (has_address a (addr_of_mux b m)) reading) x)
        (ap (λ (i : ℕ). is_joined (world_of b r cs ds hs busy) i) home ∙ joined)
        ∙ ap (λ (o : Option ℕ). hears chip_table (start_event (has_chip b m && true) (has_address a o) reading) x) addr
        ∙ ap (λ (t : Bool). hears chip_table (start_event (has_chip b m && true) t reading) x) (eq-eqb a a refl)
        ∙ chip_hears (has_chip b m)

    pub control_chips : heard_of node.Chip (start_chips (world_of b r cs ds hs busy) a reading) ≡ cond (has_chip b m) (node.Chip m ∷ []) []
    control_chips =
        heard-one chip_table node.Chip (chip_start (world_of b r cs ds hs busy) a reading) 0 cs m
        (λ i y e h. (let f = chip_along a (0 + i) reading y h in
        let same : node.Chip (0 + i) ≡ node.Chip m = only_own (0 + i) (node.Chip (0 + i)) f.0 f.1 in cc))
        m x at (zero-add m)
        ∙ ap (λ (t : Bool). cond t (node.Chip m ∷ []) []) own_hears

    pub control_devices : heard_of node.Device (start_devices (world_of b r cs ds hs busy) a reading) ≡ []
    control_devices =
        heard-none state_table node.Device (device_start (world_of b r cs ds hs busy) a reading) 0 ds
        (λ i y e. silent (0 + i) y (hears state_table (device_start (world_of b r cs ds hs busy) a reading (0 + i)) y) refl)
      where
        silent : (n : ℕ) (y : TargetState) (t : Bool) → hears state_table (device_start (world_of b r cs ds hs busy) a reading n) y ≡ t
            → t ≡ false
        silent n y false h = refl
        silent n y true h =
            absurd (let f = device_along a n reading y h in
            let same : node.Device n ≡ node.Chip m = only_own n (node.Device n) f.0 f.1 in cc)

    -- the chip hears where it is there, and nobody else does
    pub control_hearers : hearers (world_of b r cs ds hs busy) a reading ≡ cond (has_chip b m) (node.Chip m ∷ []) []
    control_hearers =
        ap (λ (xs : List Node). xs ++ heard_of node.Device (start_devices (world_of b r cs ds hs busy) a reading)) control_chips
        ∙ ap (λ (ys : List Node). cond (has_chip b m) (node.Chip m ∷ []) [] ++ ys) control_devices
        ∙ nothing_more (has_chip b m)
      where
        nothing_more : (t : Bool) → cond t (node.Chip m ∷ []) [] ++ [] ≡ cond t (node.Chip m ∷ []) []
        nothing_more true = refl
        nothing_more false = refl

    no_slow : some_answer is_slow (start_chips (world_of b r cs ds hs busy) a reading ++ start_devices
        (world_of b r cs ds hs busy) a reading) ≡ false
    no_slow =
        some_answer-append is_slow (start_chips (world_of b r cs ds hs busy) a reading)
        (start_devices (world_of b r cs ds hs busy) a reading)
        ∙ ap (λ (t : Bool). t || some_answer is_slow (start_devices (world_of b r cs ds hs busy) a reading))
        (chips_not_slow (chip_start (world_of b r cs ds hs busy) a reading) 0 cs)
        ∙ unheard node.Device is_slow slow_is_heard (start_devices (world_of b r cs ds hs busy) a reading) control_devices

    some_ack : (c : Bool) → has_chip b m ≡ c → some_answer is_ack (start_chips (world_of b r cs ds hs busy) a reading) ≡ c
    some_ack true e =
        some_answer-at chip_table (chip_start (world_of b r cs ds hs busy) a reading) is_ack 0 cs m (event.Start reading) given_start m x at
        (zero-add m) refl
      where
        given_start : chip_start (world_of b r cs ds hs busy) a reading m ≡ Some (event.Start reading)
        given_start =
            ap (λ (c : Bool). start_event (c && is_joined (world_of b r cs ds hs busy) (home_of_mux b m))
            (has_address a (addr_of_mux b m)) reading) e
            ∙ ap (λ (j : Bool). start_event j (has_address a (addr_of_mux b m)) reading)
            (ap (λ (i : ℕ). is_joined (world_of b r cs ds hs busy) i) home ∙ joined)
            ∙ ap (λ (o : Option ℕ). start_event true (has_address a o) reading) addr
            ∙ ap (λ (t : Bool). start_event true t reading) (eq-eqb a a refl)
    some_ack false e =
        unheard node.Chip is_ack ack_is_heard (start_chips (world_of b r cs ds hs busy) a reading)
        (control_chips ∙ ap (λ (t : Bool). cond t (node.Chip m ∷ []) []) e)

    -- and the start is acknowledged where it is there
    pub control_answer : world_answer (world_of b r cs ds hs busy) a reading ≡ cond (has_chip b m) answer.Ack answer.Nack
    control_answer =
        ap (λ (t : Bool). cond t answer.Slow
        (cond (some_answer is_ack (start_chips (world_of b r cs ds hs busy) a reading ++ start_devices
        (world_of b r cs ds hs busy) a reading)) answer.Ack answer.Nack)) no_slow
        ∙ ap (λ (t : Bool). cond t answer.Ack answer.Nack) acked
      where
        acked : some_answer is_ack (start_chips (world_of b r cs ds hs busy) a reading ++ start_devices
            (world_of b r cs ds hs busy) a reading) ≡ has_chip b m
        acked =
            some_answer-append is_ack (start_chips (world_of b r cs ds hs busy) a reading)
            (start_devices (world_of b r cs ds hs busy) a reading)
            ∙ ap (λ (t : Bool). some_answer is_ack (start_chips (world_of b r cs ds hs busy) a reading) || t)
            (unheard node.Device is_ack ack_is_heard (start_devices (world_of b r cs ds hs busy) a reading) control_devices)
            ∙ or-false (some_answer is_ack (start_chips (world_of b r cs ds hs busy) a reading))
            ∙ some_ack (has_chip b m) refl
