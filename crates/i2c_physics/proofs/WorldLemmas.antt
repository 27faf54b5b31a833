-- What chips and devices answer together is what the world answers. The inductions go over the answers.
use Rattle.i2c_physics.proofs.Cited.{◌≡◌, ℕ, ◌+◌, ◌<◌, Bool, true, false, cond, ◌||◌, List, [], ◌∷◌, ◌++◌, Some, None, bit_and, refl, sym}
use Rattle.i2c_physics.proofs.Cited.{ap, ◌∙◌, Node, Event, Answer, Table, ChipView, chip_table, TargetState, state_table, World, answers}
use Rattle.i2c_physics.proofs.Cited.{answer_with, has_heard, hearers, start_chips, start_devices, to_chips, to_devices, numbers_of}
use Rattle.i2c_physics.proofs.Cited.{nodes_of, event_if, is_among, to_those, chips_say, devices_say}
use Rattle.std.proofs.Common.{◌==◌}
use Rattle.std.specs.Prelude.{map}
use Rattle.std.specs.List.{list_any}
use Rattle.std.proofs.lemmas.Nat.{and_assoc}
use Rattle.i2c_base.specs.declared.ids.Node.TheVariants as node
use Rattle.i2c_base.specs.declared.event.Event.TheVariants as event
use Rattle.i2c_base.specs.Table.{byte_of}
use Rattle.i2c_spec.specs.World.{heard_of, and_of, gives, is_chip, is_device}
use Rattle.i2c_spec.proofs.StateLemmas.{gives-same}
use Rattle.wire_spec.proofs.WorldLemmas.{all_ones}

-- those who have heard, by name and by number
named_if : (name : ℕ → Node) (b : Bool) (n : ℕ) (xs : List Node) (ns : List ℕ) → xs ≡ map name ns
    → cond b (name n ∷ xs) xs ≡ map name (cond b (n ∷ ns) ns)
named_if name true n xs ns e = ap (λ l. name n ∷ l) e
named_if name false n xs ns e = e

heard_named : (name : ℕ → Node) (xs : List (ℕ × Answer)) → heard_of name xs ≡ map name (numbers_of xs)
heard_named name [] = refl
heard_named name (x ∷ xs) = named_if name (has_heard x.1) x.0 (heard_of name xs) (numbers_of xs) (heard_named name xs)

pub hearers_told : (w : World) (a : ℕ) (reading : Bool)
    → hearers w a reading ≡ nodes_of (numbers_of (start_chips w a reading)) (numbers_of (start_devices w a reading))
hearers_told w a reading =
    ap (λ l. l ++ heard_of node.Device (start_devices w a reading)) (heard_named node.Chip (start_chips w a reading))
    ∙ ap (λ l. map node.Chip (numbers_of (start_chips w a reading)) ++ l) (heard_named node.Device (start_devices w a reading))

and_of-append : (xs ys : List (ℕ × Answer)) → and_of ys < 256 → and_of (xs ++ ys) ≡ bit_and (and_of xs) (and_of ys)
and_of-append [] ys small = all_ones (and_of ys) small
and_of-append (x ∷ xs) ys small =
    ap (bit_and (byte_of x.1)) (and_of-append xs ys small) ∙ sym (and_assoc (and_of ys) (byte_of x.1) (and_of xs))

-- a byte that is read is the same whether it is acknowledged or not
same_byte : {X : Type 0} (t : Table X) (ack hears : Bool) (k : ℕ) (x : X) (rest : List (ℕ × Answer))
    → t.answer x (event.Get ack) ≡ t.answer x (event.Get true)
    → answer_with t (cond hears (Some (event.Get ack)) None) k x rest ≡ answer_with t (cond hears (Some (event.Get true)) None) k x rest
same_byte t ack true k x rest e = ap (λ a. (k, a) ∷ rest) e
same_byte t ack false k x rest e = refl

chips_give : (w : World) (ack : Bool) (k : ℕ) (xs : List ChipView)
    → answers chip_table (to_chips w (event.Get ack)) k xs ≡ answers chip_table (to_chips w (event.Get true)) k xs
chips_give w ack k [] = refl
chips_give w ack k (x ∷ xs) =
    ap (answer_with chip_table (to_chips w (event.Get ack) k) k x) (chips_give w ack (k + 1) xs)
    ∙ same_byte chip_table ack (list_any (is_chip k) w.hearing) k x (answers chip_table (to_chips w (event.Get true)) (k + 1) xs) refl

devices_give : (w : World) (ack : Bool) (k : ℕ) (xs : List TargetState)
    → answers state_table (to_devices w (event.Get ack)) k xs ≡ answers state_table (to_devices w (event.Get true)) k xs
devices_give w ack k [] = refl
devices_give w ack k (x ∷ xs) =
    ap (answer_with state_table (to_devices w (event.Get ack) k) k x) (devices_give w ack (k + 1) xs)
    ∙ same_byte state_table ack (list_any (is_device k) w.hearing) k x (answers state_table (to_devices w (event.Get true)) (k + 1) xs)
    (gives-same x ack)

pub gives_told : (w : World) (ack : Bool) → (devices_say w (event.Get ack)).byte < 256
    → bit_and (chips_say w (event.Get ack)).byte (devices_say w (event.Get ack)).byte ≡ gives w
gives_told w ack small =
    let chips = answers chip_table (to_chips w (event.Get ack)) 0 w.chips in
    let devices = answers state_table (to_devices w (event.Get ack)) 0 w.devices in
    sym (and_of-append chips devices small)
    ∙ ap (λ l. and_of (l ++ devices)) (chips_give w ack 0 w.chips)
    ∙ ap (λ l. and_of (answers chip_table (to_chips w (event.Get true)) 0 w.chips ++ l)) (devices_give w ack 0 w.devices)

-- who has heard, by name and by number
among_chips : (m : ℕ) (chips devices : List ℕ) → list_any (is_chip m) (nodes_of chips devices) ≡ is_among chips m
among_chips m [] [] = refl
among_chips m [] (d ∷ ds) = among_chips m [] ds
among_chips m (k ∷ chips) devices = ap (λ b. (k == m) || b) (among_chips m chips devices)

among_devices : (d : ℕ) (chips devices : List ℕ) → list_any (is_device d) (nodes_of chips devices) ≡ is_among devices d
among_devices d [] [] = refl
among_devices d [] (k ∷ devices) = ap (λ b. (k == d) || b) (among_devices d [] devices)
among_devices d (k ∷ chips) devices = among_devices d chips devices

module _ (w : World) (chips devices : List ℕ) (hear : w.hearing ≡ nodes_of chips devices) (e : Event) (k : ℕ) where
  pub chip-hears : to_those chips e k ≡ to_chips w e k
  chip-hears = ap (λ b. event_if b e) (sym (ap (list_any (is_chip k)) hear ∙ among_chips k chips devices))

  pub device-hears : to_those devices e k ≡ to_devices w e k
  device-hears = ap (λ b. event_if b e) (sym (ap (list_any (is_device k)) hear ∙ among_devices k chips devices))
