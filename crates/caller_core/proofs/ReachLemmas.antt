-- What is marked of a script's lines: one mark more, marks in turn, and a line after those before it.
use Rattle.caller_core.proofs.Cited.{◌≡◌, ℕ, ◌+◌, ◌<◌, ◌≤◌, nat_lt, Bool, true, false, ◌&&◌, ◌||◌, List, [], ◌∷◌, ◌++◌, length, take, drop}
use Rattle.caller_core.proofs.Cited.{append_assoc, append-nil, Option, Result, Ok, Err, get_or, slice_set, Some, None, refl, sym, ap, subst}
use Rattle.caller_core.proofs.Cited.{◌∙◌, inl, inr, arith, list_any, option_map_or, common_steps, eqb_tells, take_more, map-append}
use Rattle.caller_core.proofs.Cited.{drop-drop, list_any-append, slice_get_within, slice_get-get_or, BoardView, DeviceView, block_limit}
use Rattle.caller_core.proofs.Cited.{line_read, lines_of, Desc, Cmd, addrs_of, commands_in, stands_at, writes_device, AreMarked, HasReach}
use Rattle.caller_core.proofs.Cited.{HasReachedOn, at_most, Reach}
use Rattle.std.proofs.Common.{◌==◌, filter_map, replicate, slice_get}
use Rattle.std.proofs.lemmas.List.{length-replicate, get_or-replicate}
use Rattle.std.proofs.lemmas.List.Elements.{filter_map-append}
use Rattle.std.proofs.lemmas.Option.{slice_get_past}
use Rattle.i2c_base.proofs.ListLemmas.{set_here, set_elsewhere}
use Rattle.i2c_base.specs.Limits.{MOST_DEVICES}
use Rattle.tools.specs.declared.command.Cmd.TheVariants as cmd
use Rattle.tools.specs.declared.command.driver.DriverCmd.{DriverCmd}
use Rattle.tools.specs.declared.command.driver.DriverCmd.TheVariants as driver
use Rattle.tools.specs.declared.command.driver.lm75.Lm75Write.{Lm75Write}
use Rattle.caller_core.specs.Reach.{command_in, commands_of_lines, is_forced_by, is_write_to}

-- a mark that stays, and three of them
pub or_false : (x : Bool) → x ≡ (x || false)
or_false true = refl
or_false false = refl

or_true : (x : Bool) → true ≡ (x || true)
or_true true = refl
or_true false = refl

or_or : (x y z : Bool) → ((x || y) || z) ≡ (x || (y || z))
or_or true y z = refl
or_or false y z = refl

-- one mark more
pub one_mark : (at : ℕ) (old : List Bool) → AreMarked (λ i. at == i) old (slice_set old at true)
one_mark at old i x was =
    elim (eqb_tells at i) [
      | inl e ↦
          let low : at < length old = omega (arith, e.1, slice_get_within old i x was) in
          ap (λ k. slice_get (slice_set old at true) k) (sym e.1) ∙ set_here old at true low
          ∙ ap Some (or_true x ∙ ap (λ b. x || b) (sym e.0))
      | inr e ↦ set_elsewhere old at i true (λ k. e.1 (sym k)) ∙ was ∙ ap Some (or_false x ∙ ap (λ b. x || b) (sym e.0))
    ]

-- no mark more
pub no_mark : (old : List Bool) → AreMarked (λ i. false) old old
no_mark old i x was = was ∙ ap Some (or_false x)

-- marks after others
pub marks_on : (told more all : ℕ → Bool) (old mid new : List Bool) → AreMarked told old mid → AreMarked more mid new
    → ((i : ℕ) → (told i || more i) ≡ all i) → AreMarked all old new
marks_on told more all old mid new first then both i x was =
    then i (x || told i) (first i x was) ∙ ap Some (or_or x (told i) (more i) ∙ ap (λ b. x || b) (both i))

-- the address of one message more
pub one_addr : (ms : List Desc) (i : ℕ) (m : Desc) → i < length ms → m ≡ get_or ms i m → (addr : ℕ)
    → (list_any (λ a. a == addr) (addrs_of (take i ms)) || (m.addr == addr)) ≡ list_any (λ a. a == addr) (addrs_of (take (i + 1) ms))
one_addr ms i m low is addr =
    let alone : (m.addr == addr) ≡ list_any (λ a. a == addr) (addrs_of (m ∷ [])) = or_false (m.addr == addr) in
    ap (λ b. list_any (λ a. a == addr) (addrs_of (take i ms)) || b) alone
    ∙ sym (list_any-append (λ a. a == addr) (addrs_of (take i ms)) (addrs_of (m ∷ [])))
    ∙ ap (list_any (λ a. a == addr)) (sym (map-append (λ (x : Desc). x.addr) (take i ms) (m ∷ [])))
    ∙ ap (λ (x : Desc). list_any (λ a. a == addr) (addrs_of (take i ms ++ x ∷ []))) is
    ∙ ap (λ xs. list_any (λ a. a == addr) (addrs_of xs)) (sym (take_more ms i m low))

-- the places before a further one, which the test takes or not
pub one_place : (p : ℕ → Bool) (n : ℕ) → p n ≡ true → (i : ℕ) → ((nat_lt i n && p i) || (n == i)) ≡ (nat_lt i (n + 1) && p i)
one_place p n told i = grind (arith, common_steps)

pub no_place : (p : ℕ → Bool) (n : ℕ) → p n ≡ false → (i : ℕ) → ((nat_lt i n && p i) || false) ≡ (nat_lt i (n + 1) && p i)
no_place p n told i = grind (arith, common_steps)

-- whether a device stands at a bus and address
pub stands_there : (b : BoardView) (bus addr n : ℕ) (d : DeviceView) → n < length b.devices → d ≡ get_or b.devices n d
    → stands_at b bus addr n ≡ ((bus == d.bus) && (addr == d.addr))
stands_there b bus addr n d low is =
    ap (λ o. option_map_or (λ (v : DeviceView). (bus == v.bus) && (addr == v.addr)) o false)
    (slice_get-get_or b.devices n d low ∙ ap Some (sym is))

-- past all devices the place counts no more
pub stands_within : (b : BoardView) (bus addr n : ℕ) → length b.devices ≤ n → (i : ℕ)
    → (nat_lt i n && stands_at b bus addr i) ≡ stands_at b bus addr i
stands_within b bus addr n past i = grind (arith, common_steps, slice_get_past b.devices i)

-- a line of a driver that writes a sensor marks the devices there
pub lm75_marked : (b : BoardView) (w : Lm75Write) (line : DriverCmd) (old new : List Bool) → line ≡ driver.Lm75Write w
    → AreMarked (stands_at b w.bus w.addr) old new → AreMarked (writes_device b (cmd.Driver line)) old new
lm75_marked b w line old new is h = subst (λ (x : DriverCmd). AreMarked (writes_device b (cmd.Driver x)) old new) (sym is) h

-- what one command more reaches
any_more : {X : Type 0} (p : X → Bool) (xs : List X) (x : X) → (list_any p xs || p x) ≡ list_any p (xs ++ x ∷ [])
any_more p xs x = ap (λ b. list_any p xs || b) (or_false (p x)) ∙ sym (list_any-append p xs (x ∷ []))

pub has_more : (b : BoardView) (cs : List Cmd) (c : Cmd) (old new : Reach) → AreMarked (is_forced_by c) old.forced new.forced
    → AreMarked (writes_device b c) old.written new.written → HasReach b cs old → HasReach b (cs ++ c ∷ []) new
has_more b cs c old new forced written has =
    record {
      forced = λ addr low. forced addr _ (has.forced addr low) ∙ ap Some (any_more (λ (x : Cmd). is_forced_by x addr) cs c);
      written = λ d v is.
          let here : writes_device b c d ≡ is_write_to v.bus v.addr c =
          ap (λ o. option_map_or (λ (x : DeviceView). is_write_to x.bus x.addr c) o false) is in
          written d _ (has.written d v is)
          ∙ ap Some (ap (λ y. list_any (is_write_to v.bus v.addr) cs || y) here ∙ any_more (is_write_to v.bus v.addr) cs c);
    }

-- no command reaches anything
none_marked : (n i : ℕ) → i < n → slice_get (replicate n false) i ≡ Some false
none_marked n i low = slice_get-get_or (replicate n false) i false (omega (arith, low, length-replicate n false))
    ∙ ap Some (get_or-replicate n i false false low)

pub has_none : (b : BoardView) → length b.devices ≤ MOST_DEVICES
    → HasReach b [] (record { forced = replicate MOST_DEVICES false; written = replicate MOST_DEVICES false })
has_none b few =
    record {
      forced = λ addr low. none_marked MOST_DEVICES addr low;
      written = λ d v is. none_marked MOST_DEVICES d (omega (arith, few, slice_get_within b.devices d v is));
    }

-- what a line adds, read behind so many commands
read_of_most : (count : ℕ) (r : Result (Option Cmd) ℕ) (o : Option Cmd) → at_most count r ≡ Ok o → command_in r ≡ o
read_of_most count (Ok None) o e = (let g : Ok None ≡ Ok o = e in cc)
read_of_most count (Ok (Some c)) o e = grind (arith, common_steps)
read_of_most count (Err word) o e = grind (arith, common_steps)

abbrev line_gives : Option Cmd → List ℕ → List Cmd
line_gives o line = filter_map (λ (l : List ℕ). o) (line ∷ [])

line_adds : (b : BoardView) (count : ℕ) (line : List ℕ) (o : Option Cmd) → at_most count (line_read (block_limit b) line) ≡ Ok o
    → line_gives o line ≡ commands_of_lines b (line ∷ [])
line_adds b count line o read = ap (λ x. line_gives x line) (sym (read_of_most count (line_read (block_limit b) line) o read))

pub reached_some : (b : BoardView) (count : ℕ) (line : List ℕ) (c : Cmd) (old new : Reach)
    → at_most count (line_read (block_limit b) line) ≡ Ok (Some c) → AreMarked (is_forced_by c) old.forced new.forced
    → AreMarked (writes_device b c) old.written new.written → HasReachedOn b line old new
reached_some b count line c old new read forced written =
    record {
      goes_on = λ cs has. subst (λ (more : List Cmd). HasReach b (cs ++ more) new) (line_adds b count line (Some c) read)
          (has_more b cs c old new forced written has);
    }

pub reached_none : (b : BoardView) (count : ℕ) (line : List ℕ) (old : Reach)
    → at_most count (line_read (block_limit b) line) ≡ Ok None → HasReachedOn b line old old
reached_none b count line old read =
    record {
      goes_on = λ cs has. subst (λ (more : List Cmd). HasReach b (cs ++ more) old) (line_adds b count line None read)
          (subst (λ (all : List Cmd). HasReach b all old) (sym (append-nil cs)) has);
    }

-- what the lines before a place of a text reach
pub record IsReachBefore (b : BoardView) (text : List ℕ) (at : ℕ) (reach : Reach) : Type 0 where
  pub before : List Cmd
  pub has : HasReach b before reach
  pub whole : before ++ commands_of_lines b (lines_of (drop at text)) ≡ commands_in b text

pub reach_steps : (b : BoardView) (at len skip : ℕ) (text : List ℕ) (old new : Reach) → HasReachedOn b (take len (drop at text)) old new
    → lines_of (drop at text) ≡ take len (drop at text) ∷ lines_of (drop skip (drop at text)) → IsReachBefore b text at old
    → IsReachBefore b text (at + skip) new
reach_steps b at len skip text old new on split was =
    let line : List ℕ = take len (drop at text) in
    let rest : List ℕ = drop skip (drop at text) in
    record {
      before = was.before ++ commands_of_lines b (line ∷ []);
      has = on.goes_on was.before was.has;
      whole =
          append_assoc was.before (commands_of_lines b (line ∷ [])) (commands_of_lines b (lines_of (drop (at + skip) text)))
          ∙ ap (λ xs. was.before ++ (commands_of_lines b (line ∷ []) ++ commands_of_lines b (lines_of xs))) (sym (drop-drop skip at text))
          ∙ ap (λ cs. was.before ++ cs)
          (sym (filter_map-append (λ (l : List ℕ). command_in (line_read (block_limit b) l)) (line ∷ []) (lines_of rest)))
          ∙ ap (λ ls. was.before ++ commands_of_lines b ls) (sym split)
          ∙ was.whole;
    }
