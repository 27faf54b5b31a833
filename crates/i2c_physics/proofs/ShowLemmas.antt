-- Each call on a port on two wires shows what it says.
use Rattle.i2c_physics.proofs.Cited.{◌≡◌, ℕ, List, [], ◌∷◌, ◌++◌, Bool, true, false, refl, ap, sym, ◌∙◌, ◌&&◌, not, Phase, World}
use Rattle.i2c_physics.proofs.Cited.{after, answer, BitPortView}
use Rattle.std.specs.Prelude.{Result, Ok, Err, IfOk, OnOk, IsTrue}
use Rattle.i2c_base.specs.Phases.{phase_started, phase_put, phase_got, MayPut, MayGet, MayLine}
use Rattle.i2c_base.specs.declared.event.Answer.{Answer}
use Rattle.i2c_base.specs.declared.event.Answer.TheVariants.{Ack, Nack, Slow, Byte, Nothing}
use Rattle.i2c_base.specs.declared.port.Phase.TheVariants as phase
use Rattle.i2c_base.specs.declared.port.PortCall.{PortCall}
use Rattle.i2c_base.specs.declared.port.PortCall.TheVariants as call
use Rattle.i2c_spec.specs.World.{opening_world, after_all, takes, gives, is_ack, is_slow}
use Rattle.wire_spec.specs.Bus.{Seen, Level, Stopped}
use Rattle.wire_spec.specs.Calls.{byte_seen}
use Rattle.i2c_bits.specs.PortViews.{is_busy, is_late, FaultsTell}
use Rattle.i2c_bits.specs.Showing.{StartShows, StopShows, address_byte, begun_seen}
use Rattle.i2c_physics.specs.BitRigs.{IsWirePort}
use Rattle.i2c_physics.specs.Shows.{call_shows, shows, is_too_slow, are_quick, opened, ShowsCalls}

after_more : (w : World) (xs : List PortCall) (x : PortCall) → after_all w (xs ++ x ∷ []) ≡ after (after_all w xs) x
after_more w [] x = refl
after_more w (y ∷ xs) x = after_more (after w y) xs x

shows_more : (w : World) (xs : List PortCall) (x : PortCall) (c : Seen)
    → shows w (xs ++ x ∷ []) c ≡ call_shows (after_all w xs) x (shows w xs c)
shows_more w [] x c = refl
shows_more w (y ∷ xs) x c = shows_more (after w y) xs x (call_shows w y c)

last_alone : (b : Bool) → not b && true ≡ not b
last_alone true = refl
last_alone false = refl

and_more : (a b c d : Bool) → b ≡ c && d → a && b ≡ (a && c) && d
and_more true b c d is = is
and_more false b c d is = refl

quick_more : (w : World) (xs : List PortCall) (x : PortCall)
    → are_quick w (xs ++ x ∷ []) ≡ (are_quick w xs && not (is_too_slow (after_all w xs) x))
quick_more w [] x = last_alone (is_too_slow w x)
quick_more w (y ∷ xs) x =
    and_more (not (is_too_slow w y)) (are_quick (after w y) (xs ++ x ∷ [])) (are_quick (after w y) xs) _ (quick_more (after w y) xs x)

left_of_and : (a b : Bool) → a && b ≡ true → a ≡ true
left_of_and true b is = refl
left_of_and false b is = is

right_of_and : (a b : Bool) → a && b ≡ true → b ≡ true
right_of_and true b is = is
right_of_and false b is = cc

not_true : (b : Bool) → not b ≡ true → b ≡ false
not_true true is = sym is
not_true false is = refl

none_of_both : (a b : Bool) → b ≡ false → a && b ≡ false
none_of_both true b is = is
none_of_both false b is = refl

-- no call changes the board and the root
same_opening : (w : World) (x : PortCall) → opening_world (after w x).board (after w x).root ≡ opening_world w.board w.root
same_opening w (call.Start addr reading) = refl
same_opening w (call.Put byte) = refl
same_opening w (call.Get ack) = refl
same_opening w call.Stop = refl
same_opening w call.Fault = refl
same_opening w (call.Line m level) = refl

-- a call is made on a port, and leaves it so
module _ (p q : BitPortView) (x : PortCall) (was : ShowsCalls p) (world : q.world ≡ after p.world x) (log : q.log ≡ p.log ++ x ∷ []) where
  same : opened q ≡ opened p
  same = ap (λ (w : World). opening_world w.board w.root) world ∙ same_opening p.world x

  from_there : q.world ≡ after_all (opened q) q.log
  from_there =
      world ∙ ap (λ w. after w x) was.world ∙ sym (after_more (opened p) p.log x) ∙ ap (after_all (opened p)) (sym log)
      ∙ ap (λ w. after_all w q.log) (sym same)

  -- whether one of them was too slow
  quick_is : are_quick (opened q) q.log ≡ (are_quick (opened p) p.log && not (is_too_slow p.world x))
  quick_is =
      ap (λ w. are_quick w q.log) same ∙ ap (are_quick (opened p)) log ∙ quick_more (opened p) p.log x
      ∙ ap (λ w. are_quick (opened p) p.log && not (is_too_slow w x)) (sym was.world)

  shows_is : shows (opened q) q.log [] ≡ call_shows p.world x (shows (opened p) p.log [])
  shows_is =
      ap (λ w. shows w q.log []) same ∙ ap (λ l. shows (opened p) l []) log ∙ shows_more (opened p) p.log x []
      ∙ ap (λ w. call_shows w x (shows (opened p) p.log [])) (sym was.world)

  -- it is no start that was too slow
  pub quick_call : (phase : Phase) → q.phase ≡ phase → is_late phase ≡ false → q.world.busy ≡ is_busy phase
      → (are_quick (opened p) p.log ≡ true → is_too_slow p.world x ≡ false → q.seen ≡ call_shows p.world x p.seen) → ShowsCalls q
  quick_call phase is early busy more = record {
    world = from_there;
    busy = busy ∙ ap is_busy (sym is);
    late = λ late. let e : true ≡ false = sym late ∙ ap is_late is ∙ early in cc;
    seen = λ quick.
        let both = sym quick_is ∙ quick in
        let before = left_of_and _ _ both in
        more before (not_true _ (right_of_and _ _ both)) ∙ ap (call_shows p.world x) (was.seen before) ∙ sym shows_is;
  }

  pub slow_call : q.phase ≡ phase.Slow → q.world.busy ≡ true → is_too_slow p.world x ≡ true → ShowsCalls q
  slow_call is busy slow =
      let not_quick : are_quick (opened q) q.log ≡ false = quick_is ∙ none_of_both _ _ (ap not slow) in
      record {
        world = from_there;
        busy = busy ∙ ap is_busy (sym is);
        late = λ late. not_quick;
        seen = λ quick. let e : true ≡ false = sym quick ∙ not_quick in cc;
      }

begun_early : (reading : Bool) → is_late (phase_started reading Ack) ≡ false
begun_early true = refl
begun_early false = refl

begun_busy : (reading : Bool) → true ≡ is_busy (phase_started reading Ack)
begun_busy true = refl
begun_busy false = refl

-- a start
module _ (p q : BitPortView) (addr : ℕ) (reading : Bool) (was : ShowsCalls p) (world : q.world ≡ after p.world (call.Start addr reading))
    (log : q.log ≡ p.log ++ call.Start addr reading ∷ []) where
  busy_then : q.world.busy ≡ true
  busy_then = ap (λ (w : World). w.busy) world

  as_told : (a : Answer) (acked : Bool) → a ≡ answer p.world addr reading → is_ack a ≡ acked
      → q.seen ≡ byte_seen (address_byte addr reading) acked (begun_seen (is_busy p.phase) p.seen)
      → q.seen ≡ call_shows p.world (call.Start addr reading) p.seen
  as_told a acked is answer_is told =
      told ∙ ap (λ b. byte_seen (address_byte addr reading) b (begun_seen (is_busy p.phase) p.seen)) (sym answer_is ∙ ap is_ack is)
      ∙ ap (λ b. byte_seen (address_byte addr reading) (is_ack (answer p.world addr reading)) (begun_seen b p.seen)) (sym was.busy)

  pub start_shown : (a : Answer) → a ≡ answer p.world addr reading → q.phase ≡ phase_started reading a
      → StartShows (is_busy p.phase) (address_byte addr reading) a p.seen q.seen → ShowsCalls q
  start_shown Ack is now told =
      quick_call p q (call.Start addr reading) was world log (phase_started reading Ack) now (begun_early reading)
      (busy_then ∙ begun_busy reading) (λ quick slow. as_told Ack true is refl told)
  start_shown Nack is now told =
      quick_call p q (call.Start addr reading) was world log phase.Unanswered now refl busy_then
      (λ quick slow. as_told Nack false is refl told)
  start_shown Slow is now told =
      slow_call p q (call.Start addr reading) was world log now busy_then (sym (ap is_slow is))
  start_shown (Byte byte) is now told = absurd told
  start_shown Nothing is now told = absurd told

-- a byte that is put, and one that is read
in_write : (p : Phase) → MayPut p → is_busy p ≡ true
in_write phase.Idle may = absurd may
in_write phase.Writing may = refl
in_write phase.PutRefused may = refl
in_write phase.Reading may = refl
in_write phase.LastRead may = refl
in_write phase.Unanswered may = refl
in_write phase.Slow may = refl

in_read : (p : Phase) → MayGet p → is_busy p ≡ true
in_read phase.Idle may = absurd may
in_read phase.Writing may = refl
in_read phase.PutRefused may = refl
in_read phase.Reading may = refl
in_read phase.LastRead may = refl
in_read phase.Unanswered may = refl
in_read phase.Slow may = refl

put_early : (acked : Bool) → is_late (phase_put acked) ≡ false
put_early true = refl
put_early false = refl

put_busy : (acked : Bool) → true ≡ is_busy (phase_put acked)
put_busy true = refl
put_busy false = refl

got_early : (ack : Bool) → is_late (phase_got ack) ≡ false
got_early true = refl
got_early false = refl

got_busy : (ack : Bool) → true ≡ is_busy (phase_got ack)
got_busy true = refl
got_busy false = refl

pub put_shown : (p q : BitPortView) (byte : ℕ) → ShowsCalls p → MayPut p.phase → q.world ≡ after p.world (call.Put byte)
    → q.log ≡ p.log ++ call.Put byte ∷ [] → (acked : Bool) → acked ≡ takes p.world byte → q.phase ≡ phase_put acked
    → q.seen ≡ byte_seen byte acked p.seen → ShowsCalls q
put_shown p q byte was may world log acked is now told =
    quick_call p q (call.Put byte) was world log (phase_put acked) now (put_early acked)
    (ap (λ (w : World). w.busy) world ∙ was.busy ∙ in_write p.phase may ∙ put_busy acked)
    (λ quick slow. told ∙ ap (λ b. byte_seen byte b p.seen) is)

pub get_shown : (p q : BitPortView) (ack : Bool) → ShowsCalls p → MayGet p.phase → q.world ≡ after p.world (call.Get ack)
    → q.log ≡ p.log ++ call.Get ack ∷ [] → (byte : ℕ) → byte ≡ gives p.world → q.phase ≡ phase_got ack
    → q.seen ≡ byte_seen byte ack p.seen → ShowsCalls q
get_shown p q ack was may world log byte is now told =
    quick_call p q (call.Get ack) was world log (phase_got ack) now (got_early ack)
    (ap (λ (w : World). w.busy) world ∙ was.busy ∙ in_read p.phase may ∙ got_busy ack)
    (λ quick slow. told ∙ ap (λ b. byte_seen b ack p.seen) is)

-- a stop
stop_by : (late : Bool) (p q : BitPortView) → is_late p.phase ≡ late → ShowsCalls p → StopShows late p.seen q.seen
    → are_quick (opened p) p.log ≡ true → q.seen ≡ Stopped ∷ Level false ∷ p.seen
stop_by false p q is was told quick = told
stop_by true p q is was told quick = let e : true ≡ false = sym quick ∙ was.late is in cc

pub stop_shown : (p q : BitPortView) → ShowsCalls p → q.world ≡ after p.world call.Stop → q.log ≡ p.log ++ call.Stop ∷ []
    → q.phase ≡ phase.Idle → StopShows (is_late p.phase) p.seen q.seen → ShowsCalls q
stop_shown p q was world log now told =
    quick_call p q call.Stop was world log phase.Idle now refl (ap (λ (w : World). w.busy) world)
    (λ quick slow. stop_by (is_late p.phase) p q refl was told quick)

-- the line of a mux
still : (p : Phase) → MayLine p → is_busy p ≡ false
still phase.Idle may = refl
still phase.Writing may = absurd may
still phase.PutRefused may = absurd may
still phase.Reading may = absurd may
still phase.LastRead may = absurd may
still phase.Unanswered may = absurd may
still phase.Slow may = absurd may

pub line_shown : (p q : BitPortView) (m level : ℕ) → ShowsCalls p → MayLine p.phase → q.world ≡ after p.world (call.Line m level)
    → q.log ≡ p.log ++ call.Line m level ∷ [] → q.phase ≡ phase.Idle → q.seen ≡ p.seen → ShowsCalls q
line_shown p q m level was may world log now told =
    quick_call p q (call.Line m level) was world log phase.Idle now refl
    (ap (λ (w : World). w.busy) world ∙ was.busy ∙ still p.phase may) (λ quick slow. told)

-- ---- and so a port on two wires stays one, which never fails where they tell
module _ {E : Type 0} (tells : Bool) (told : IsTrue tells) (p q : BitPortView) (was : IsWirePort p) where
  pub started_kept : (addr : ℕ) (reading : Bool) (r : Result Answer E) → FaultsTell tells r p.faults q.faults
      → (IsTrue tells → IfOk r (λ a. a ≡ answer p.world addr reading))
      → (IsTrue tells → OnOk r (q.world ≡ after p.world (call.Start addr reading)))
      → (IsTrue tells → OnOk r (q.log ≡ p.log ++ call.Start addr reading ∷ []))
      → IfOk r (λ a. q.phase ≡ phase_started reading a)
      → (IsTrue tells → IfOk r (λ a. StartShows (is_busy p.phase) (address_byte addr reading) a p.seen q.seen)) → IsWirePort q
  started_kept addr reading (Err e) faults given world log now shown = absurd (faults.untold told)
  started_kept addr reading (Ok a) faults given world log now shown = record {
    faults = faults ∙ was.faults;
    shows = start_shown p q addr reading was.shows (world told) (log told) a (given told) now (shown told);
  }

  pub put_kept : (byte : ℕ) → MayPut p.phase → (r : Result Bool E) → FaultsTell tells r p.faults q.faults
      → (IsTrue tells → IfOk r (λ acked. acked ≡ takes p.world byte))
      → (IsTrue tells → OnOk r (q.world ≡ after p.world (call.Put byte)))
      → (IsTrue tells → OnOk r (q.log ≡ p.log ++ call.Put byte ∷ [])) → IfOk r (λ acked. q.phase ≡ phase_put acked)
      → (IsTrue tells → IfOk r (λ acked. q.seen ≡ byte_seen byte acked p.seen)) → IsWirePort q
  put_kept byte may (Err e) faults given world log now shown = absurd (faults.untold told)
  put_kept byte may (Ok acked) faults given world log now shown = record {
    faults = faults ∙ was.faults;
    shows = put_shown p q byte was.shows may (world told) (log told) acked (given told) now (shown told);
  }

  pub get_kept : (ack : Bool) → MayGet p.phase → (r : Result ℕ E) → FaultsTell tells r p.faults q.faults
      → (IsTrue tells → IfOk r (λ byte. byte ≡ gives p.world)) → (IsTrue tells → OnOk r (q.world ≡ after p.world (call.Get ack)))
      → (IsTrue tells → OnOk r (q.log ≡ p.log ++ call.Get ack ∷ [])) → OnOk r (q.phase ≡ phase_got ack)
      → (IsTrue tells → IfOk r (λ byte. q.seen ≡ byte_seen byte ack p.seen)) → IsWirePort q
  get_kept ack may (Err e) faults given world log now shown = absurd (faults.untold told)
  get_kept ack may (Ok byte) faults given world log now shown = record {
    faults = faults ∙ was.faults;
    shows = get_shown p q ack was.shows may (world told) (log told) byte (given told) now (shown told);
  }

  pub stop_kept : (r : Result (Unit {0}) E) → FaultsTell tells r p.faults q.faults
      → (IsTrue tells → OnOk r (q.world ≡ after p.world call.Stop)) → (IsTrue tells → OnOk r (q.log ≡ p.log ++ call.Stop ∷ []))
      → q.phase ≡ phase.Idle → (IsTrue tells → OnOk r (StopShows (is_late p.phase) p.seen q.seen)) → IsWirePort q
  stop_kept (Err e) faults world log now shown = absurd (faults.untold told)
  stop_kept (Ok u) faults world log now shown = record {
    faults = faults ∙ was.faults;
    shows = stop_shown p q was.shows (world told) (log told) now (shown told);
  }

  pub line_kept : (m level : ℕ) → MayLine p.phase → (r : Result (Unit {0}) E) → FaultsTell tells r p.faults q.faults
      → (IsTrue tells → OnOk r (q.world ≡ after p.world (call.Line m level)))
      → (IsTrue tells → OnOk r (q.log ≡ p.log ++ call.Line m level ∷ []))
      → q.phase ≡ phase.Idle → (IsTrue tells → q.seen ≡ p.seen) → IsWirePort q
  line_kept m level may (Err e) faults world log now shown = absurd (faults.untold told)
  line_kept m level may (Ok u) faults world log now shown = record {
    faults = faults ∙ was.faults;
    shows = line_shown p q m level was.shows may (world told) (log told) now (shown told);
  }
