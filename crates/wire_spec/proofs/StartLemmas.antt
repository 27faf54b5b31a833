-- What a start comes to on the wires is what it comes to in the world of bytes: who is Slow, who acknowledges, who is in the message.
use Rattle.wire_spec.proofs.Cited.{◌≡◌, ◌<◌, ℕ, ◌-◌, ◌/◌, Bool, true, false, cond, List, [], ◌∷◌, ◌++◌, map, refl, ap, sym, ◌∙◌, arith, inl}
use Rattle.wire_spec.proofs.Cited.{inr, ◌==◌, ◌&&◌, ◌||◌, not, nat_lt, nat_tests, Answer, Nothing, Table, BoardView, ChipView, chip_table}
use Rattle.wire_spec.proofs.Cited.{TargetState, state_table, IsFairTable, IsQuiet, World, is_ack, is_slow, has_heard, some_answer}
use Rattle.wire_spec.proofs.Cited.{start_chips, start_devices, Mode, Out, site_of, Site, is_named, is_reading, stands, some_one, hearing}
use Rattle.wire_spec.proofs.Cited.{at, answers_so, answer_by, stays_if, stays, NodeState, Chip, Device, node_table, both, world_by}
use Rattle.wire_spec.proofs.Cited.{AreSites}
use Rattle.i2c_base.specs.declared.event.Event.TheVariants as event
use Rattle.i2c_base.specs.declared.event.Answer.TheVariants.{Byte}
use Rattle.i2c_spec.specs.Targets.{IsStartAnswer, IsAckOrNack}
use Rattle.i2c_spec.specs.Targets.RegsDevice.{is_too_long}
use Rattle.i2c_spec.specs.World.{answer}
use Rattle.wire_spec.proofs.AckClock.{slows, slows_if, acknowledges_if, acknowledges, or_left, or_right}
use Rattle.wire_spec.proofs.WorldLemmas.{world_answers}

-- ---- it holds the clock for more than 64 looks exactly where it answers Slow
long_hold : (h : ℕ) → nat_lt 64 h ≡ true → not ((h - 64) == 0) ≡ true
long_hold h lt = grind (arith, nat_tests)

short_hold : (h : ℕ) → nat_lt 64 h ≡ false → not ((h - 64) == 0) ≡ false
short_hold h lt = grind (arith, nat_tests)

slow_by : (h : ℕ) (ans : Answer) (long : Bool) → is_too_long h ≡ long → IsStartAnswer long ans
    → not ((cond (has_heard ans) h 0 - 64) == 0) ≡ is_slow ans
slow_by h ans true is a = ap (λ z. not ((cond (has_heard z) h 0 - 64) == 0)) a ∙ (long_hold h is ∙ sym (ap is_slow a))
slow_by h ans false is (inl a) = ap (λ z. not ((cond (has_heard z) h 0 - 64) == 0)) a ∙ (short_hold h is ∙ sym (ap is_slow a))
slow_by h ans false is (inr a) = ap (λ z. not ((cond (has_heard z) h 0 - 64) == 0)) a ∙ sym (ap is_slow a)

slow_one : {X : Type 0} (t : Table X) → IsFairTable t → (byte a : ℕ) (j e h : Bool) (x : X)
    → stays_if t byte 64 (site_of a j e x) j h ≡ (j && (h && is_slow (t.answer x (event.Start (is_reading byte)))))
slow_one t fair byte a true e true x =
    slow_by (t.hold x) (t.answer x (event.Start (is_reading byte))) (is_too_long (t.hold x)) refl (fair.starts x (is_reading byte))
slow_one t fair byte a true e false x = refl
slow_one t fair byte a false e h x = refl

some_same : {A : Type 0} (p q : A → Bool) → ((a : A) → p a ≡ q a) → (xs : List A) → some_one p xs ≡ some_one q xs
some_same p q is [] = refl
some_same p q is (x ∷ xs) = ap (λ z. z || some_one p xs) (is x) ∙ ap (λ z. q x || z) (some_same p q is xs)

pub slow_all : {X : Type 0} (t : Table X) → IsFairTable t → (byte : ℕ) (ss : List (Site X))
    → some_one (stays t byte 64) ss ≡ some_one (answers_so t is_slow (byte / 2) (is_reading byte)) ss
slow_all t fair byte ss =
    some_same (stays t byte 64) (answers_so t is_slow (byte / 2) (is_reading byte))
    (λ s. slow_one t fair byte s.addr s.joined s.heard (is_named byte s) s.state) ss

-- ---- who acknowledges pulls SDA
ack_one : {X : Type 0} (t : Table X) (byte a : ℕ) (j e h : Bool) (x : X)
    → acknowledges_if t byte (site_of a j e x) j h ≡ (j && (h && is_ack (t.answer x (event.Start (is_reading byte)))))
ack_one t byte a true e true x = refl
ack_one t byte a true e false x = refl
ack_one t byte a false e h x = refl

pub ack_all : {X : Type 0} (t : Table X) (byte : ℕ) (ss : List (Site X))
    → some_one (acknowledges t byte) ss ≡ some_one (answers_so t is_ack (byte / 2) (is_reading byte)) ss
ack_all t byte ss =
    some_same (acknowledges t byte) (answers_so t is_ack (byte / 2) (is_reading byte))
    (λ s. ack_one t byte s.addr s.joined s.heard (is_named byte s) s.state) ss

slows_one : {X : Type 0} (t : Table X) (byte a : ℕ) (j e h : Bool) (x : X)
    → slows_if t byte (site_of a j e x) j h ≡ (j && (h && is_slow (t.answer x (event.Start (is_reading byte)))))
slows_one t byte a true e true x = refl
slows_one t byte a true e false x = refl
slows_one t byte a false e h x = refl

-- nobody is Slow where nobody holds the clock for too long
pub not_slow : {X : Type 0} (t : Table X) → IsFairTable t → (byte : ℕ) (ss : List (Site X)) → some_one (stays t byte 64) ss ≡ false
    → some_one (slows t byte) ss ≡ false
not_slow t fair byte ss quick =
    some_same (slows t byte) (answers_so t is_slow (byte / 2) (is_reading byte))
    (λ s. slows_one t byte s.addr s.joined s.heard (is_named byte s) s.state) ss
    ∙ (sym (slow_all t fair byte ss) ∙ quick)

-- ---- one table for both kinds keeps what each promises
module _ (c : IsFairTable chip_table) (d : IsFairTable state_table) where
  node_stops : (x : NodeState) → IsQuiet node_table (node_table.after x event.Stop)
  node_stops (Chip y) = let q = c.stops y in record { other = ap Chip q.other; stop = ap Chip q.stop }
  node_stops (Device y) = let q = d.stops y in record { other = ap Device q.other; stop = ap Device q.stop }

  node_sends : (x : NodeState) → node_table.answer x (event.Get true) ≡ Byte (node_table.sends x)
  node_sends (Chip y) = c.sends y
  node_sends (Device y) = d.sends y

  node_sends_last : (x : NodeState) → node_table.answer x (event.Get false) ≡ Byte (node_table.sends x)
  node_sends_last (Chip y) = c.sends_last y
  node_sends_last (Device y) = d.sends_last y

  node_starts : (x : NodeState) (reading : Bool) → IsStartAnswer (is_too_long (node_table.hold x))
      (node_table.answer x (event.Start reading))
  node_starts (Chip y) reading = c.starts y reading
  node_starts (Device y) reading = d.starts y reading

  node_puts : (x : NodeState) (byte : ℕ) → IsAckOrNack (node_table.answer x (event.Put byte))
  node_puts (Chip y) byte = c.puts y byte
  node_puts (Device y) byte = d.puts y byte

  node_other : (x : NodeState) → node_table.answer x event.Other ≡ Nothing
  node_other (Chip y) = c.other y
  node_other (Device y) = d.other y

  node_stop : (x : NodeState) → node_table.answer x event.Stop ≡ Nothing
  node_stop (Chip y) = c.stop y
  node_stop (Device y) = d.stop y

  pub node_fair : IsFairTable node_table
  node_fair = record {
    stops = node_stops;
    sends = node_sends;
    sends_last = node_sends_last;
    starts = node_starts;
    puts = node_puts;
    other = node_other;
    stop = node_stop;
  }

-- ---- the answer of the start
pub start_answer : (b : BoardView) (r : ℕ) (busy : Bool) (cs : List (Site ChipView)) (ds : List (Site TargetState)) → AreSites b r cs ds
    → IsFairTable chip_table → IsFairTable state_table → (byte : ℕ) → byte / 2 < 128
    → answer (world_by b r busy cs ds) (byte / 2) (is_reading byte)
    ≡ answer_by (some_one (answers_so node_table is_slow (byte / 2) (is_reading byte)) (both cs ds))
    (some_one (answers_so node_table is_ack (byte / 2) (is_reading byte)) (both cs ds))
start_answer b r busy cs ds is c d byte lt =
    let w : World = world_by b r busy cs ds in
    sym (ap (λ z. answer_by z (some_one (answers_so node_table is_ack (byte / 2) (is_reading byte)) (both cs ds)))
    (world_answers b r busy cs ds is c d is_slow refl (byte / 2) (is_reading byte) lt)
    ∙ ap (answer_by (some_answer is_slow (start_chips w (byte / 2) (is_reading byte) ++ start_devices w (byte / 2) (is_reading byte))))
    (world_answers b r busy cs ds is c d is_ack refl (byte / 2) (is_reading byte) lt))

-- ---- where nobody is in the message, all are out of it
out_if : {X : Type 0} (m : Mode) (s : Site X) (h : Bool) → hearing s ≡ h → h ≡ false → at m s ≡ at Out s
out_if m s h is no_one =
    ap (λ z. stands s (cond z m Out) 0) (is ∙ no_one)
    ∙ sym (ap (λ z. stands s (cond z Out Out) 0) (is ∙ no_one))

pub all_out : {X : Type 0} (m : Mode) (ss : List (Site X)) → some_one hearing ss ≡ false → map (at m) ss ≡ map (at Out) ss
all_out m [] none = refl
all_out m (s ∷ ss) none =
    ap (λ b. b ∷ map (at m) ss) (out_if m s (hearing s) refl (or_left _ _ none)) ∙ ap (λ bs. at Out s ∷ bs)
    (all_out m ss (or_right _ _ none))
