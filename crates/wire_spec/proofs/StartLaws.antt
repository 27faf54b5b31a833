-- A start with its address, and a stop, on the wires: what a controller's pulls and looks come to, for any fair table.
use Rattle.wire_spec.proofs.Cited.{◌≡◌, ℕ, ◌-◌, ◌/◌, ◌<◌, ◌≤◌, Bool, true, false, cond, List, [], ◌∷◌, map, refl, ap, ◌∙◌, arith, sym, ◌==◌}
use Rattle.wire_spec.proofs.Cited.{not, ◌&&◌, ◌++◌, AllByRecursion, nat_tests, IsByte, Table, Start, IsFairTable, IsQuiet, has_heard, is_ack}
use Rattle.wire_spec.proofs.Cited.{is_slow, Mode, Out, In, Site, Bit, LOOKS, bits, shifted, is_named, is_reading, stands, some_one}
use Rattle.wire_spec.proofs.Cited.{stop_site, at, Seen, Level, Started, Stopped, with_levels, Mask, Came, Bus, bit_step, then_bits, bus_of, came_up}
use Rattle.wire_spec.proofs.Cited.{gave_up, stays, stays_if, late_bus, rose, started, answers_so, entered_by, byte_seen, last_low}
use Rattle.wire_spec.proofs.Cited.{released, within, within_address, free, rejoin, slow_stop, sent_byte, StopFreesTheLines}
use Rattle.wire_spec.specs.Laws.{SomeAreAll, UnheardIsOut, OutSeesNothing, QuietStays, RepeatedStartCallsAll, AddressComesUp}
use Rattle.wire_spec.proofs.AckClock.{settled_all, settled}
use Rattle.wire_spec.proofs.StartClocks.{address_bits, address_ack, address_slow}
use Rattle.wire_spec.proofs.StartLemmas.{all_out, slow_all, ack_all, not_slow}
use Rattle.wire_spec.proofs.LateStops.{held, held_if, left_hold, stop_after_slow}
use Rattle.wire_spec.proofs.Repeats.{start_after_write, start_after_out, stop_after_write, stop_after_out}
use Rattle.wire_spec.proofs.LiveLemmas.{only_all, out_rises, out_falls, out_ticks, out_pulls, out_holds, quiet_last, quiet_stop}
use Rattle.std.proofs.lemmas.Bool.{or_from}

-- ---- an address byte
pub address_is_event : {X : Type 0} (t : Table X) → IsFairTable t → (mask : Mask X) (byte : ℕ) → byte < 256
    → (low : Bool) (ss : List (Site X)) (c : Seen)
    → some_one (answers_so t is_slow (byte / 2) (is_reading byte)) ss ≡ false
    → sent_byte t mask byte (within_address 8 0 low ss c)
    ≡ came_up (shifted 0 (not (some_one (answers_so t is_ack (byte / 2) (is_reading byte)) ss)))
    (within (entered_by byte) false (map (started t byte) ss)
    (byte_seen byte (some_one (answers_so t is_ack (byte / 2) (is_reading byte)) ss) c))
address_is_event {X} t fair mask byte lt low ss c none =
    let quick : some_one (stays t byte 64) ss ≡ false = slow_all t fair byte ss ∙ none in
    let l : Bool = not (some_one (answers_so t is_ack (byte / 2) (is_reading byte)) ss) in
    let before : Seen = with_levels (bits 8 byte) c in
    ap (λ (d : Came X). then_bits d (bit_step t mask 0 true d.bus)) (address_bits t mask byte lt low ss c)
    ∙ (address_ack t mask byte 0 (last_low low (bits 8 byte)) ss before quick
    ∙ (ap (λ a. came_up (shifted 0 (not a)) (bus_of true false (map (settled t byte) ss) (Level (not a) ∷ before))) (ack_all t byte ss)
    ∙ ap (λ bs. came_up (shifted 0 l) (bus_of true false bs (Level l ∷ before))) (settled_all t byte ss (not_slow t fair byte ss quick))))

pub slow_stays_low : {X : Type 0} (t : Table X) → IsFairTable t → (mask : Mask X) (byte : ℕ) → byte < 256
    → (low : Bool) (ss : List (Site X)) (c : Seen)
    → some_one (answers_so t is_slow (byte / 2) (is_reading byte)) ss ≡ true
    → sent_byte t mask byte (within_address 8 0 low ss c)
    ≡ gave_up (late_bus t byte ss (rose (some_one (stays t byte LOOKS) ss) true (with_levels (bits 8 byte) c)))
slow_stays_low {X} t fair mask byte lt low ss c some =
    let slow : some_one (stays t byte 64) ss ≡ true = slow_all t fair byte ss ∙ some in
    ap (λ (d : Came X). then_bits d (bit_step t mask 0 true d.bus)) (address_bits t mask byte lt low ss c)
    ∙ address_slow t mask byte 0 (last_low low (bits 8 byte)) ss (with_levels (bits 8 byte) c) slow

-- ---- for how many looks a clock is held
short_hold : (heard : Bool) (h : ℕ) → h ≤ 64 → not ((cond heard h 0 - 64) == 0) ≡ false
short_hold true h le = grind (arith, nat_tests)
short_hold false h le = refl

short_one : {X : Type 0} (t : Table X) (byte : ℕ) (s : Site X) (joined named : Bool) → t.hold s.state ≤ 64
    → stays_if t byte 64 s joined named ≡ false
short_one t byte s true true le = short_hold (has_heard (t.answer s.state (Start (is_reading byte)))) (t.hold s.state) le
short_one t byte s true false le = refl
short_one t byte s false named le = refl

short_all : {X : Type 0} (t : Table X) (byte : ℕ) (ss : List (Site X)) → AllByRecursion (λ (s : Site X). t.hold s.state ≤ 64) ss
    → some_one (stays t byte 64) ss ≡ false
short_all t byte [] all = refl
short_all t byte (s ∷ ss) all = or_from (stays t byte 64 s) _ (short_one t byte s s.joined (is_named byte s) all.0)
    (short_all t byte ss all.1)

pub held_comes_up : {X : Type 0} (t : Table X) → IsFairTable t → (mask : Mask X) (byte : ℕ) → byte < 256
    → (low : Bool) (ss : List (Site X)) (c : Seen)
    → AllByRecursion (λ (s : Site X). t.hold s.state ≤ 64) ss → AddressComesUp t mask byte low ss c
held_comes_up t fair mask byte lt low ss c all =
    address_is_event t fair mask byte lt low ss c (sym (slow_all t fair byte ss) ∙ short_all t byte ss all)

-- ---- a start within a message, and a stop
pub repeated_written : {X : Type 0} (t : Table X) → RepeatedStartCallsAll t (In false 8 0)
repeated_written t mask low ss c = start_after_write t mask low ss c

pub repeated_out : {X : Type 0} (t : Table X) → RepeatedStartCallsAll t Out
repeated_out t mask low ss c = start_after_out t mask low ss c

out_one : {X : Type 0} (s : Site X) (joined heard : Bool)
    → released s ≡ stands s (cond {A = Mode} (joined && heard) Out Out) 0
out_one s true true = refl
out_one s true false = refl
out_one s false heard = refl

pub released_out : {X : Type 0} (ss : List (Site X)) → map released ss ≡ map (at Out) ss
released_out [] = refl
released_out (s ∷ ss) = ap (λ b. b ∷ map released ss) (out_one s s.joined s.heard) ∙ ap (λ bs. at Out s ∷ bs) (released_out ss)

free_again : {X : Type 0} (ss : List (Site X)) (c : Seen)
    → ◌≡◌ {A = Bool × Bus X} (true, bus_of false false (map released ss) c) (true, free ss c)
free_again {X} ss c = ap (λ (bs : List (Bit X)). (true, bus_of false false bs c)) (released_out ss)

pub stop_written : {X : Type 0} (t : Table X) → StopFreesTheLines t (In false 8 0)
stop_written t mask low ss c = stop_after_write t mask low ss c ∙ free_again (rejoin mask (map (stop_site t) ss)) (Stopped ∷ Level false ∷ c)

pub stop_out : {X : Type 0} (t : Table X) → StopFreesTheLines t Out
stop_out t mask low ss c = stop_after_out t mask low ss c ∙ free_again (rejoin mask (map (stop_site t) ss)) (Stopped ∷ Level false ∷ c)

-- ---- a stop after a start that was too slow
-- nobody holds SCL any more at so late a look
module _ (looks : ℕ) (late : 190 ≤ looks) where
  late_short : (named heard : Bool) (h : ℕ) → h < 256 → not ((cond named (cond heard h 0 - 65) 0 - looks) == 0) ≡ false
  late_short named heard h lt = grind (arith, nat_tests)

  late_one : {X : Type 0} (t : Table X) (byte : ℕ) (s : Site X) (joined : Bool) → t.hold s.state < 256
      → held_if (left_hold t byte s) looks joined ≡ false
  late_one t byte s true lt = late_short (is_named byte s) (has_heard (t.answer s.state (Start (is_reading byte)))) (t.hold s.state) lt
  late_one t byte s false lt = refl

  pub late_all : {X : Type 0} (t : Table X) (byte : ℕ) (ss : List (Site X)) → AllByRecursion (λ (s : Site X). IsByte (t.hold s.state)) ss
      → some_one (held (started t byte) (left_hold t byte) looks) ss ≡ false
  late_all t byte [] all = refl
  late_all t byte (s ∷ ss) all =
      or_from (held (started t byte) (left_hold t byte) looks s) _ (late_one t byte s (started t byte s).joined all.0)
      (late_all t byte ss all.1)

pub slow_frees : {X : Type 0} (t : Table X) (mask : Mask X) (byte : ℕ) (ss : List (Site X)) (c : Seen)
    → AllByRecursion (λ (s : Site X). IsByte (t.hold s.state)) ss
    → slow_stop t mask (late_bus t byte ss c)
    ≡ (
      true,
      free (rejoin mask (map (stop_site t) (map (started t byte) ss)))
          (Stopped ∷ cond (some_one (stays t byte LOOKS) ss) (Level false ∷ c) (Started ∷ c)),
    )
slow_frees t mask byte ss c all =
    stop_after_slow t mask byte ss c (late_all 254 (omega arith) t byte ss all) (some_one (stays t byte LOOKS) ss) refl
    ∙ free_again (rejoin mask (map (stop_site t) (map (started t byte) ss)))
    (Stopped ∷ cond (some_one (stays t byte LOOKS) ss) (Level false ∷ c) (Started ∷ c))

-- ---- who is out of the message
pub out_sees : {X : Type 0} (t : Table X) (s : Site X) → OutSeesNothing t s
out_sees t s = record {
  rises = λ level. out_rises t level s.addr s.joined s.heard s.state;
  falls = out_falls s.addr s.joined s.heard s.state;
  looks = out_ticks s.addr s.joined s.heard s.state;
  pulls = out_pulls t s.addr s.joined s.heard s.state;
  holds = out_holds s.addr s.joined s.heard s.state;
}

quiet_by : {X : Type 0} (t : Table X) (s : Site X) (heard : Bool) → heard ≡ false → IsQuiet t s.state
    → QuietStays t (record s { heard = heard })
quiet_by t s true is quiet = cc
quiet_by t s false is quiet = record {
  other = λ v level apart. quiet_last t v level s.addr s.joined s.state quiet apart;
  stop = quiet_stop t s.addr s.joined s.state quiet;
}

pub quiet_stays : {X : Type 0} (t : Table X) (s : Site X) → s.heard ≡ false → IsQuiet t s.state → QuietStays t s
quiet_stays t s is quiet = quiet_by t s s.heard is quiet

pub some_are_all : {X : Type 0} → SomeAreAll X
some_are_all p f k bs rest = only_all p f k bs rest

-- ---- a message that nobody hears
pub unheard_out : {X : Type 0} (t : Table X) → UnheardIsOut t
unheard_out {X} t m low ss c none = ap (λ (bs : List (Bit X)). bus_of true low bs c) (all_out m ss none)
