-- All transfers of a script are ones that its text may ask for. The inductions go over lines and replies.
use Rattle.reg_cache.proofs.Cited.{◌≡◌, ℕ, zero, suc, ◌+◌, ◌/◌, ◌%◌, Bool, true, false, cond, ◌&&◌, ◌||◌, List, [], ◌∷◌, ◌++◌, length, drop}
use Rattle.reg_cache.proofs.Cited.{Option, Some, None, eqb, refl, sym, ◌∙◌, ap, subst, eq-eqb, or-true, filter_map, list_any}
use Rattle.reg_cache.proofs.Cited.{AllByRecursion, cons_option, BoardView, TransferView, Size, Reply, HandlesView, messages_of_call, Cmd}
use Rattle.reg_cache.proofs.Cited.{RegName, Temp, Hyst, Max, eeprom_at, is_sensor, sensor_at, write_call, raw_of, swapped, asked_by}
use Rattle.reg_cache.proofs.Cited.{script_on, IsLowByte, is_forced_in, is_write_to, writes_in, Touches, Unforced, SensorWrite, AsksTouch}
use Rattle.std.proofs.Common.{Result, Ok, Err}
use Rattle.std.specs.Prelude.{nat_le}
use Rattle.std.specs.List.{fold}
use Rattle.i2c_spec.specs.Flat.{block_limit}
use Rattle.tools.specs.Dialogues.{place_after, is_over}
use Rattle.tools.specs.Lines.{line_read}
use Rattle.tools.specs.Splits.{lines_of}
use Rattle.tools.specs.Lm75Lines.{IsWritten, IsRegWriteInRange}
use Rattle.tools.specs.declared.command.Cmd.TheVariants as cmd
use Rattle.tools.specs.declared.command.driver.DriverCmd.{DriverCmd}
use Rattle.tools.specs.declared.command.driver.DriverCmd.TheVariants as driver
use Rattle.tools.specs.declared.command.driver.lm75.Lm75Write.{Lm75Write}
use Rattle.i2c_drivers.specs.At24.{at24_dialogue, eeprom_read_by, write_by, read_piece, write_piece}
use Rattle.i2c_drivers.specs.Lm75.{lm75_dialogue, pointer_of}
use Rattle.i2c_drivers.specs.Pages.{fits_in}
use Rattle.i2c_drivers.specs.Runs as drivers
use Rattle.i2c_drivers.specs.Runs.{driver_run}
use Rattle.i2c_drivers.specs.declared.lm75.Lm75Run.TheVariants as lm75
use Rattle.i2c_drivers.specs.declared.at24.At24Run.TheVariants as at24
use Rattle.i2c_base.specs.declared.errno.Errno.TheVariants as errno
use Rattle.caller_core.specs.Runs.{command_dialogue, command_run, handles_behind}
use Rattle.caller_core.specs.Scripts.{Place, command_of, at_most, behind_commands, lines_read, behind_line_read, text_read}
use Rattle.caller_core.specs.Scripts.{commands_or_none, commands_of}
use Rattle.caller_core.specs.Turns.{Progress, command_talk, quiet_front, turn_to, over_with, replied_to, replied, progress, next_of}
use Rattle.caller_core.specs.View.{CommandView}
use Rattle.caller_core.proofs.CommandLemmas.{read_in_range}
use Rattle.i2c_drivers.proofs.DriverLemmas.{raw_small}
use Rattle.cache_laws.specs.Cache.{is_kept}
use Rattle.cache_laws.specs.Order.{number_of}
use Rattle.caller_core.specs.Reach.{commands_in, command_in, forced_by}
use Rattle.reg_cache.proofs.DriverLemmas.{register_named, writes-are, raw-whole, low-byte}
use Rattle.reg_cache.proofs.TextLemmas.{IsBound, sensor_there, touch-eeprom, touch-sensor-read, touch-sensors}
use Rattle.reg_cache.proofs.LineLemmas.{SaysTouch, HandlesOk, after-ok, tool-touch, handle-touch}

all_map : {X : Type 0} (P Q : X → Type 0) → ((x : X) → P x → Q x) → (xs : List X) → AllByRecursion P xs → AllByRecursion Q xs
all_map P Q each [] all = tt
all_map P Q each (x ∷ xs) all = (each x all.0, all_map P Q each xs all.1)

all_drop : {X : Type 0} (P : X → Type 0) (n : ℕ) (xs : List X) → AllByRecursion P xs → AllByRecursion P (drop n xs)
all_drop P zero xs all = all
all_drop P (suc n) [] all = tt
all_drop P (suc n) (x ∷ xs) all = all_drop P n xs all.1

-- a line `lm75 write` names a register that is written, and its word has the low seven bits 0, which stand in the byte that the call
-- sends last
pub record WritesWhole (w : Lm75Write) : Type 0 where
  pub kept : is_kept (pointer_of w.which) ≡ true
  pub low : IsLowByte (swapped (raw_of w.milli) / 256)

written_kept : (r : RegName) → IsWritten r → is_kept (pointer_of r) ≡ true
written_kept Temp is = absurd is
written_kept Hyst is = refl
written_kept Max is = refl

pub writes-whole : (b : BoardView) (line : List ℕ) (w : Lm75Write) → line_read (block_limit b) line ≡ Ok
    (Some (cmd.Driver (driver.Lm75Write w)))
    → WritesWhole w
writes-whole b line w e =
    let range : IsRegWriteInRange w =
    read_in_range 0 (block_limit b) line (cmd.Driver (driver.Lm75Write w)) (ap (λ (r : Result (Option Cmd) ℕ). at_most 0 r) e) in
    record { kept = written_kept w.which range.which; low = low-byte (raw_of w.milli) (raw_small w.milli range.milli) (raw-whole w.milli) }

module _ (b : BoardView) (text : List ℕ) where
  -- ---- what the rule reads off a line that is a command
  pub record CommandOk (c : Cmd) : Type 0 where
    pub forced : AllByRecursion (λ (a : ℕ). is_forced_in b a text ≡ true) (forced_by c)
    pub writes : (bus addr : ℕ) → is_write_to bus addr c ≡ true → writes_in b bus addr text ≡ true
    pub lines : (w : Lm75Write) → c ≡ cmd.Driver (driver.Lm75Write w) → WritesWhole w

  -- ---- drivers
  at24_read : (bus addr offset count : ℕ) (o : Option Size) → eeprom_at b bus addr ≡ o → SaysTouch b text
      (at24_dialogue (eeprom_read_by o bus addr offset count))
  at24_read bus addr offset count None e k = Unforced refl
  at24_read bus addr offset count (Some size) e k = by (fits_in size offset count)
    where
      by : (z : Bool) → Touches b text ((at24_dialogue (cond z (at24.Reads
          (record { of = record { bus = bus; addr = addr; size = size }; offset = offset; count = count })) (at24.Refused errno.Einval))).at
          k)
      by true = touch-eeprom b text bus addr size e
          (read_piece (record { of = record { bus = bus; addr = addr; size = size }; offset = offset; count = count }) (k / 8)) refl refl
          (refl, (refl, tt))
      by false = Unforced refl

  at24_write : (bus addr offset : ℕ) (bytes : List ℕ) (o : Option Size) → eeprom_at b bus addr ≡ o
      → SaysTouch b text (at24_dialogue (write_by o bus addr offset bytes))
  at24_write bus addr offset bytes None e k = Unforced refl
  at24_write bus addr offset bytes (Some size) e k = by (fits_in size offset (length bytes))
    where
      by : (z : Bool) → Touches b text ((at24_dialogue (cond z (at24.Writes
          (record { of = record { bus = bus; addr = addr; size = size }; offset = offset; bytes = bytes })) (at24.Refused errno.Einval))).at
          k)
      by true = touch-eeprom b text bus addr size e
          (write_piece (record { of = record { bus = bus; addr = addr; size = size }; offset = offset; bytes = bytes }) (k / 8)) refl refl
          (refl, tt)
      by false = Unforced refl

  driver_touch : (d : DriverCmd) → CommandOk (cmd.Driver d) → SaysTouch b text (drivers.driver_dialogue (driver_run b d))
  driver_touch (driver.At24Read r) ok k = at24_read r.bus r.addr r.offset r.count (eeprom_at b r.bus r.addr) refl k
  driver_touch (driver.At24Write w) ok k = at24_write w.bus w.addr w.offset w.bytes (eeprom_at b w.bus w.addr) refl k
  driver_touch (driver.Lm75Read r) ok k = by (sensor_at b r.bus r.addr) refl
    where
      by : (z : Bool) → sensor_at b r.bus r.addr ≡ z
          → Touches b text ((lm75_dialogue (cond z (lm75.Reads (record { bus = r.bus; addr = r.addr }) r.which)
          (lm75.Refused errno.Enodev))).at k)
      by true e = touch-sensor-read b text r.bus r.addr r.which e
      by false e = Unforced refl
  driver_touch (driver.Lm75Write w) ok k = by (sensor_at b w.bus w.addr) refl
    where
      told : WritesWhole w
      told = ok.lines w refl

      write : IsBound b text is_sensor w.bus w.addr
          → Touches b text (messages_of_call (write_call (record { bus = w.bus; addr = w.addr }) w.which (swapped (raw_of w.milli))))
      write d =
          SensorWrite d.e d.v (register_named w.which) (swapped (raw_of w.milli) % 256) (swapped (raw_of w.milli) / 256) d.at
          (ap (λ (i : ℕ). messages_of_call (write_call (record { bus = i; addr = w.addr }) w.which (swapped (raw_of w.milli))))
          (sym d.bus_is)
          ∙ ap (λ (a : ℕ). messages_of_call (write_call (record { bus = d.v.bus; addr = a }) w.which (swapped (raw_of w.milli))))
          (sym d.addr_is)
          ∙ writes-are d.v w.which (swapped (raw_of w.milli)))
          (kept_number w.which told.kept) told.low
          (ap (λ (i : ℕ). writes_in b i d.v.addr text) d.bus_is ∙ ap (λ (a : ℕ). writes_in b w.bus a text) d.addr_is
          ∙ ok.writes w.bus w.addr (ap (λ (z : Bool). z && eqb w.addr w.addr) (eq-eqb w.bus w.bus refl) ∙ eq-eqb w.addr w.addr refl))
        where
          kept_number : (r : RegName) → is_kept (pointer_of r) ≡ true → is_kept (number_of (register_named r)) ≡ true
          kept_number Temp is = is
          kept_number Hyst is = is
          kept_number Max is = is

      by : (z : Bool) → sensor_at b w.bus w.addr ≡ z
          → Touches b text ((lm75_dialogue (cond z (lm75.Writes (record { bus = w.bus; addr = w.addr }) w.which (swapped (raw_of w.milli)))
          (lm75.Refused errno.Enodev))).at k)
      by true e = write (sensor_there b text w.bus w.addr e)
      by false e = Unforced refl
  driver_touch driver.Sensors ok k = touch-sensors b text k

  -- ---- a command, with the handles before it
  command_touch : (v : HandlesView) → HandlesOk b text v → (c : Cmd) → CommandOk c → SaysTouch b text (command_dialogue (command_run b v c))
  command_touch v handles (cmd.Tool t) ok k = tool-touch b text t ok.forced k
  command_touch v handles (cmd.Driver d) ok k = driver_touch d ok k
  command_touch v handles (cmd.Handle h) ok k = handle-touch b text v h handles ok.forced k

  behind_ok : (v : HandlesView) → HandlesOk b text v → (c : Cmd) → CommandOk c → HandlesOk b text (handles_behind b v c)
  behind_ok v handles (cmd.Tool t) ok = handles
  behind_ok v handles (cmd.Driver d) ok = handles
  behind_ok v handles (cmd.Handle h) ok = after-ok b text v h handles ok.forced

  -- ---- lines
  abbrev LineOk : List ℕ → Type 0
  LineOk l = (c : Cmd) → line_read (block_limit b) l ≡ Ok (Some c) → CommandOk c

  abbrev CommandTouches : CommandView → Type 0
  CommandTouches c = SaysTouch b text (command_talk c)

  lines_touch : (ls : List (List ℕ)) (number count : ℕ) (v : HandlesView) → HandlesOk b text v → AllByRecursion LineOk ls
      → (cs : List CommandView) → lines_read b number count ls v ≡ Ok cs → AllByRecursion CommandTouches cs
  lines_touch [] number count v handles all cs e =
      let is : [] ≡ cs = (let f : Ok [] ≡ Ok cs = e in cc) in subst (λ (l : List CommandView). AllByRecursion CommandTouches l) is tt
  lines_touch (l ∷ ls) number count v handles all cs e =
      by (line_read (block_limit b) l) refl e (λ f. lines_touch ls (number + 1) count v handles all.1 cs f)
      (λ c ok ds f. lines_touch ls (number + 1) (count + 1) (handles_behind b v c) (behind_ok v handles c ok) all.1 ds f)
    where
      one_more : (c : Cmd) → CommandOk c
          → ((ds : List CommandView) → lines_read b (number + 1) (count + 1) ls (handles_behind b v c) ≡ Ok ds
          → AllByRecursion CommandTouches ds)
          → (r : Result (List CommandView) Place) → lines_read b (number + 1) (count + 1) ls (handles_behind b v c) ≡ r
          → behind_commands (command_of b v l c ∷ []) r ≡ Ok cs → AllByRecursion CommandTouches cs
      one_more c ok rest (Ok ds) f g =
          let is : command_of b v l c ∷ ds ≡ cs = (let h : Ok (command_of b v l c ∷ ds) ≡ Ok cs = g in cc) in
          subst (λ (xs : List CommandView). AllByRecursion CommandTouches xs) is (command_touch v handles c ok, rest ds f)
      one_more c ok rest (Err p) f g = absurd (let h : Err p ≡ Ok cs = g in cc)

      by : (r : Result (Option Cmd) ℕ) → line_read (block_limit b) l ≡ r
          → behind_line_read b v number l (at_most count (line_read (block_limit b) l)) (lines_read b (number + 1) count ls v)
          (lines_read b (number + 1) (count + 1) ls) ≡ Ok cs
          → (lines_read b (number + 1) count ls v ≡ Ok cs → AllByRecursion CommandTouches cs)
          → ((c : Cmd) → CommandOk c → (ds : List CommandView) → lines_read b (number + 1) (count + 1) ls (handles_behind b v c) ≡ Ok ds
          → AllByRecursion CommandTouches ds) → AllByRecursion CommandTouches cs
      by r is f same rest = at r is (sym (ap (λ (x : Result (Option Cmd) ℕ). behind_line_read b v number l (at_most count x)
          (lines_read b (number + 1) count ls v) (lines_read b (number + 1) (count + 1) ls)) is) ∙ f)
        where
          few : (z : Bool) (c : Cmd) → CommandOk c
              → behind_line_read b v number l (cond z (Err 0) (Ok (Some c))) (lines_read b (number + 1) count ls v)
              (lines_read b (number + 1) (count + 1) ls) ≡ Ok cs → AllByRecursion CommandTouches cs
          few true c ok g = absurd (let h : Err (record { line = number; word = 0 }) ≡ Ok cs = g in cc)
          few false c ok g = one_more c ok (rest c ok) (lines_read b (number + 1) (count + 1) ls (handles_behind b v c)) refl g

          bad : (z : Bool) (word : ℕ)
              → behind_line_read b v number l (cond z (Err 0) (Err word)) (lines_read b (number + 1) count ls v)
              (lines_read b (number + 1) (count + 1) ls) ≡ Ok cs → AllByRecursion CommandTouches cs
          bad true word g = absurd (let h : Err (record { line = number; word = 0 }) ≡ Ok cs = g in cc)
          bad false word g = absurd (let h : Err (record { line = number; word = word }) ≡ Ok cs = g in cc)

          at : (x : Result (Option Cmd) ℕ) → line_read (block_limit b) l ≡ x
              → behind_line_read b v number l (at_most count x) (lines_read b (number + 1) count ls v)
              (lines_read b (number + 1) (count + 1) ls) ≡ Ok cs
              → AllByRecursion CommandTouches cs
          at (Ok None) k g = same g
          at (Ok (Some c)) k g = few (nat_le 1000 count) c (all.0 c k) g
          at (Err word) k g = bad (nat_le 1000 count) word g

  -- the rule reads the same lines
  found : (test : Cmd → Bool) (ls : List (List ℕ))
      → AllByRecursion (λ (l : List ℕ). (c : Cmd) → line_read (block_limit b) l ≡ Ok (Some c) → test c ≡ true
      → list_any test (filter_map (λ (x : List ℕ). command_in (line_read (block_limit b) x)) ls) ≡ true) ls
  found test [] = tt
  found test (l ∷ ls) = (
    (λ c e is. ap (λ (r : Result (Option Cmd) ℕ). list_any test (cons_option (command_in r)
        (filter_map (λ (x : List ℕ). command_in (line_read (block_limit b) x)) ls))) e
        ∙ ap (λ (z : Bool). z || list_any test (filter_map (λ (x : List ℕ). command_in (line_read (block_limit b) x)) ls)) is),
    all_map (λ (y : List ℕ). (c : Cmd) → line_read (block_limit b) y ≡ Ok (Some c) → test c ≡ true
        → list_any test (filter_map (λ (x : List ℕ). command_in (line_read (block_limit b) x)) ls) ≡ true)
        (λ (y : List ℕ). (c : Cmd) → line_read (block_limit b) y ≡ Ok (Some c) → test c ≡ true
        → list_any test (filter_map (λ (x : List ℕ). command_in (line_read (block_limit b) x)) (l ∷ ls)) ≡ true)
        (λ y h c e is. more (command_in (line_read (block_limit b) l)) (h c e is)) ls (found test ls),
  )
    where
      more : (o : Option Cmd) → list_any test (filter_map (λ (x : List ℕ). command_in (line_read (block_limit b) x)) ls) ≡ true
          → list_any test (cons_option o (filter_map (λ (x : List ℕ). command_in (line_read (block_limit b) x)) ls)) ≡ true
      more None h = h
      more (Some c) h = ap (λ (z : Bool). test c || z) h ∙ or-true (test c)

  -- an address of a line's own list is one of all
  own_forced : (l : List ℕ) (c : Cmd) → ((test : Cmd → Bool) → test c ≡ true → list_any test (commands_in b text) ≡ true) → (addrs : List ℕ)
      → ((a : ℕ) → list_any (λ (x : ℕ). eqb x a) addrs ≡ true → is_forced_in b a text ≡ true)
      → AllByRecursion (λ (a : ℕ). is_forced_in b a text ≡ true) addrs
  own_forced l c any [] all = tt
  own_forced l c any (a ∷ addrs) all = (
    all a (ap (λ (z : Bool). z || list_any (λ (x : ℕ). eqb x a) addrs) (eq-eqb a a refl)),
    own_forced l c any addrs (λ x is. all x (ap (λ (z : Bool). eqb a x || z) is ∙ or-true (eqb a x))),
  )

  line_oks : (ls : List (List ℕ))
      → ((test : Cmd → Bool) → AllByRecursion (λ (l : List ℕ). (c : Cmd) → line_read (block_limit b) l ≡ Ok (Some c) → test c ≡ true
      → list_any test (commands_in b text) ≡ true) ls) → AllByRecursion LineOk ls
  line_oks [] any = tt
  line_oks (l ∷ ls) any = (
    (λ c e. record {
      forced = own_forced l c (λ test is. (any test).0 c e is) (forced_by c)
          (λ a is. (any (λ (x : Cmd). list_any (λ (y : ℕ). eqb y a) (forced_by x))).0 c e is);
      writes = λ bus addr is. (any (is_write_to bus addr)).0 c e is;
      lines = λ w same. writes-whole b l w (e ∙ ap (λ (x : Cmd). Ok (Some x)) same);
    }),
    line_oks ls (λ test. (any test).1),
  )

  commands_touch : AllByRecursion CommandTouches (commands_of (script_on b text))
  commands_touch = by (text_read b text) refl
    where
      by : (r : Result (List CommandView) Place) → text_read b text ≡ r → AllByRecursion CommandTouches (commands_or_none r)
      by (Ok cs) e = lines_touch (lines_of text) 1 0 [] tt (line_oks (lines_of text) (λ test. found test (lines_of text))) cs e
      by (Err p) e = tt

  -- ---- what is left of them as replies come
  replied_touch : (p : Progress) (r : Reply) → AllByRecursion CommandTouches p.left → AllByRecursion CommandTouches (replied p r).left
  replied_touch p r all = by p.left refl all
    where
      by : (cs : List CommandView) → p.left ≡ cs → AllByRecursion CommandTouches cs → AllByRecursion CommandTouches (replied_to p cs r).left
      by [] e h = all
      by (c ∷ cs) e h = at (is_over (command_talk c) (place_after (command_talk c) (p.own ++ r ∷ [])))
        where
          at : (z : Bool) → AllByRecursion CommandTouches (cond z (turn_to (over_with p c (p.own ++ r ∷ [])) cs)
              (record p { own = p.own ++ r ∷ [] })).left
          at true = all_drop CommandTouches (quiet_front cs) cs h.1
          at false = all

  progress_touch : (p : Progress) (rs : List Reply) → AllByRecursion CommandTouches p.left → AllByRecursion CommandTouches
      (fold replied p rs).left
  progress_touch p [] all = all
  progress_touch p (r ∷ rs) all = progress_touch (replied p r) rs (replied_touch p r all)

  pub asked-touch : (rs : List Reply) (t : TransferView) → asked_by (script_on b text) rs ≡ Some t → Touches b text t
  asked-touch rs t e =
      by (progress (commands_of (script_on b text)) rs).left (progress (commands_of (script_on b text)) rs).own
      (progress_touch (turn_to [] (commands_of (script_on b text))) rs
      (all_drop CommandTouches (quiet_front (commands_of (script_on b text))) (commands_of (script_on b text)) commands_touch)) e
    where
      by : (cs : List CommandView) (own : List Reply) → AllByRecursion CommandTouches cs → next_of cs own ≡ Some t → Touches b text t
      by [] own all f = absurd (let g : None ≡ Some t = f in cc)
      by (c ∷ cs) own all f = at (is_over (command_talk c) (place_after (command_talk c) own)) f
        where
          at : (z : Bool) → cond z None (Some ((command_talk c).at (place_after (command_talk c) own))) ≡ Some t → Touches b text t
          at true g = absurd (let h : None ≡ Some t = g in cc)
          at false g =
              let is : (command_talk c).at (place_after (command_talk c) own) ≡ t =
              (let h : Some ((command_talk c).at (place_after (command_talk c) own)) ≡ Some t = g in cc) in
              subst (λ (x : TransferView). Touches b text x) is (all.0 (place_after (command_talk c) own))

-- ALL SCRIPTS
pub asks-touch : (b : BoardView) (texts : List (List ℕ)) → AsksTouch b texts
asks-touch b texts c text rs t there e = asked-touch b text rs t e
