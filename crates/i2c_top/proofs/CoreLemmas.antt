-- The callers of a run on their seats: what a core is opened with, and what it is when all are through.
use Rattle.i2c_top.proofs.Cited.{◌≡◌, ◌⊎◌, ℕ, zero, suc, ◌+◌, ◌<◌, ◌≤◌, true, IsTrue, List, [], ◌∷◌, length, map, reverse, All, Option}
use Rattle.i2c_top.proofs.Cited.{Some, None, Result, Ok, Err, inl, inr, refl, sym, ◌∙◌, ap, subst, arith, IfOk, OnOk, slice_get, enumerate_from}
use Rattle.i2c_top.proofs.Cited.{range_with_len, option_map_or, cases_lt, length-map, sum_by-cons, length-enumerate_from}
use Rattle.i2c_top.proofs.Cited.{length-range_with_len, get_or-range_with_len, slice_get_past, get_or_from_slice_get, Entry, Idle, PortCall}
use Rattle.i2c_top.proofs.Cited.{Reply, BoardView, MOST_CALLERS, TransferView, IsFairCaller, Asks, IsPlainBoard, MeetsRules, root_of, World}
use Rattle.i2c_top.proofs.Cited.{opening_world, now, world_at, calls_of, Follows, IsStepwise, Ends, roots_of, Opening, MayOpen}
use Rattle.i2c_top.proofs.Cited.{callers_scripts, scripts_of, script_at, asks_of, AllThrough, CoreState, has_caller, logs_of, roots_in}
use Rattle.i2c_top.proofs.Cited.{taken_of, worlds_of, ClosedCore, Seat, one_of, Ran, JournalView, asks_in, scripts_in, AreReady, left_in}
use Rattle.i2c_top.proofs.Cited.{callers_in, IsOver, IsCoreOf, IsLeftOf, HaveJournal, faults_in, AccountsForFaults, AreCounted, MOST_COST}
use Rattle.i2c_top.proofs.Cited.{map_from, all_at, map_map}
use Rattle.std.specs.List.{sum_by}
use Rattle.std.proofs.lemmas.List.Elements.{All-from_get_or}
use Rattle.std.proofs.lemmas.Option.{slice_get_within}
use Rattle.i2c_base.specs.declared.caller.Caller.{Ghosts as CallerGhosts}
use Rattle.ports.specs.declared.port.Port.{Ghosts as PortGhosts}
use Rattle.i2c_spec.specs.Targets.{TargetState}
use Rattle.i2c_spec.specs.World.{AreWorldsOf, devices_of, openings}
use Rattle.i2c_spec.proofs.TreeLemmas.{tree_root_is}
use Rattle.bus_laws.specs.Following.{GoesOnBy}
use Rattle.bus_core.specs.Opens.{opening_of}
use Rattle.bus_core.specs.Places.{script_of}
use Rattle.bus_core.specs.State.{CoreTold, IsThrough, setups_of}
use Rattle.bus_core.proofs.Kept.{script-own}
use Rattle.bus_core.proofs.Loops.{script-none}
use Rattle.bus_core.proofs.Told.{has-by, roots-told}
use Rattle.bus_groups.specs.Slots.{IsTold}
use Rattle.journal_check.proofs.PortLemmas.{firsts}
use Rattle.i2c_top.specs.Cores.{HasRunOver, IsAsOne}
use Rattle.i2c_top.proofs.RunLemmas.{same_asks}
use Rattle.i2c_base.proofs.ListLemmas.{there, map_at}

-- an element of a numbered list, and of a list whose elements all are so
pub numbered-at : {X : Type 0} (n : ℕ) (xs : List X) (i : ℕ) (y : ℕ × X) → slice_get (enumerate_from n xs) i ≡ Some y
    → (y.0 ≡ n + i) × (slice_get xs i ≡ Some y.1)
numbered-at n [] i y h = absurd (let f : None ≡ Some y = h in cc)
numbered-at {X} n (x ∷ xs) zero y h =
    let f : Some (n, x) ≡ Some y = h in
    let e : (n, x) ≡ y = cc in
    let number : n ≡ y.0 = ap (λ (z : ℕ × X). z.0) e in
    (omega (arith, number), ap (λ (z : ℕ × X). Some z.1) e)
numbered-at n (x ∷ xs) (suc i) y h = (let r = numbered-at (n + 1) xs i y h in let is = r.0 in (omega (arith, is), r.1))

pub number-is : {X : Type 0} (m : ℕ) (xs : List X) (i n : ℕ) → slice_get (map (λ (x : ℕ × X). x.0) (enumerate_from m xs)) i ≡ Some n
    → n ≡ m + i
number-is m [] i n h = absurd (let f : None ≡ Some n = h in cc)
number-is m (x ∷ xs) zero n h = (let f : Some m ≡ Some n = h in let e : m ≡ n = cc in omega (arith, e))
number-is m (x ∷ xs) (suc i) n h = (let r = number-is (m + 1) xs i n h in omega (arith, r))

pub number-here : {X : Type 0} (m : ℕ) (xs : List X) (i : ℕ) → i < length xs
    → slice_get (map (λ (x : ℕ × X). x.0) (enumerate_from m xs)) i ≡ Some (m + i)
number-here m [] i low = absurd (omega (arith, low))
number-here m (x ∷ xs) zero low = ap (λ (k : ℕ). Some k) (omega (arith))
number-here m (x ∷ xs) (suc i) low = number-here (m + 1) xs i (omega (arith, low)) ∙ ap (λ (k : ℕ). Some k) (omega (arith))

-- what is told of the elements alone
alone : {X Y : Type 0} (f : X → Y) (n : ℕ) (xs : List X) → map (λ (x : ℕ × X). f x.1) (enumerate_from n xs) ≡ map f xs
alone f n [] = refl
alone {X} {Y} f n (x ∷ xs) = ap (λ (ys : List Y). f x ∷ ys) (alone f (n + 1) xs)

-- what is left of callers by their numbers is what is left of them
lefts : {C S : Type 0} (row : CallerGhosts C S) (callers : List C) (n : ℕ)
    → sum_by (λ (x : ℕ × C). row.left (row.script x.1) []) (enumerate_from n callers) ≡ left_in row callers
lefts row [] n = refl
lefts {C} {S} row (s ∷ ss) n =
    sum_by-cons (λ (x : ℕ × C). row.left (row.script x.1) []) (n, s) (enumerate_from (n + 1) ss)
    ∙ ap (λ (i : ℕ). row.left (row.script s) [] + i) (lefts row ss (n + 1))
    ∙ sym (sum_by-cons (λ (x : C). row.left (row.script x) []) s ss)

-- the port of each root has its world
opening-at : {P : Type 0} (world : P → World) (b : BoardView) (ports : List P) → map world ports ≡ openings b → (i : ℕ) (p : P)
    → slice_get ports i ≡ Some p → world p ≡ opening_world b i
opening-at world b ports same i p here =
    let low : i < length ports = slice_get_within ports i p here in
    let count : length ports ≡ length b.roots = sym (length-map ports world) ∙ ap length same
    ∙ length-map (range_with_len 0 (length b.roots)) (opening_world b) ∙ length-range_with_len 0 (length b.roots) in
    let mapped = map_from (opening_world b) (range_with_len 0 (length b.roots)) i (world p)
    (ap (λ (ws : List World). slice_get ws i) (sym same) ∙ map_at world ports i p here) in
    let number : mapped.0 ≡ 0 + i = sym (get_or_from_slice_get (range_with_len 0 (length b.roots)) i mapped.0 0 mapped.1)
    ∙ get_or-range_with_len 0 (length b.roots) i 0 (omega (arith, low, count)) in
    sym mapped.2 ∙ ap (opening_world b) (let z : 0 + i ≡ i = omega (arith) in number ∙ z)

module _ {P C S : Type 0} (g : PortGhosts P) (row : CallerGhosts C S) (b : BoardView) (plain : IsPlainBoard b) (callers : List C)
    (ready : AreReady row b callers) where
  -- scripts and ports by their numbers may open a core
  pub may-open : (ports : List P) (limit : ℕ) → length callers ≤ MOST_CALLERS → length ports ≡ length b.roots
      → All (λ p. g.phase p ≡ Idle) ports → (IsTrue g.tells → All (λ p. g.log p ≡ []) ports)
      → (IsTrue g.tells → map g.world ports ≡ openings b) → IsFairCaller row.asked row.left row.board
      → left_in row callers ≤ limit → limit ≤ MOST_COST
      → MayOpen g row b (enumerate_from 0 ports) (enumerate_from 0 callers) limit
  may-open ports limit few count idle empty worlds fair covered few_steps =
      record {
        distinct = λ i k n here to. (let a = number-is 0 callers i n here in let c = number-is 0 callers k n to in omega (arith, a, c));
        below = λ i x here.
            let r = numbered-at 0 callers i x here in
            let number = r.0 in
            let low = slice_get_within callers i x.1 r.1 in
            omega (arith, number, low, few);
        once = λ i k n here to. (let a = number-is 0 ports i n here in let c = number-is 0 ports k n to in omega (arith, a, c));
        idle = λ k x here. all_at (λ p. g.phase p ≡ Idle) ports k x.1 idle (numbered-at 0 ports k x here).1;
        worlds = λ tells k x here.
            let r = numbered-at 0 ports k x here in
            let number = r.0 in
            let same : k ≡ x.0 = omega (arith, number) in (
              opening-at g.world b ports (worlds tells) k x.1 r.1
                  ∙ ap (opening_world b) same,
              all_at (λ p. g.log p ≡ []) ports k x.1 (empty tells) r.1,
            );
        fair = fair;
        untaken = λ i x here. (all_at (λ s. (row.board (row.script s) ≡ b) × (row.taken s ≡ [])) callers i x.1 ready
            (numbered-at 0 callers i x here).1).1;
        home = λ i x here. (all_at (λ s. (row.board (row.script s) ≡ b) × (row.taken s ≡ [])) callers i x.1 ready
            (numbered-at 0 callers i x here).1).0;
        wired = λ i x rs t here asks bus.
            let low : root_of b t.bus < length b.roots = tree_root_is b plain.planted t.bus bus in
            let on = number-here 0 ports (root_of b t.bus) (omega (arith, low, count)) in
            let zero_first : 0 + root_of b t.bus ≡ root_of b t.bus = omega (arith) in
            record { place = root_of b t.bus; here = on ∙ ap (λ (k : ℕ). Some k) zero_first };
        covers = (let sum = lefts row callers 0 in omega (arith, sum, covered));
        most = omega (arith, few_steps);
      }

  -- each word of the schedule has its caller
  pub words-placed : (words : List ℕ) → All (λ c. c < length callers) words
      → All (λ n. has_caller (callers_scripts row (enumerate_from 0 callers)) n ≡ true) words
  words-placed words named =
      All-from_get_or (λ n. has_caller (callers_scripts row (enumerate_from 0 callers)) n ≡ true) words 0
      (λ i low.
      let w = there words i low in
      let is = get_or_from_slice_get words i w.0 0 w.1 in
      let below : w.0 < length callers = all_at (λ c. c < length callers) words i w.0 named w.1 in
      let s = there callers w.0 below in
      subst (λ (n : ℕ). has_caller (callers_scripts row (enumerate_from 0 callers)) n ≡ true) (sym is)
      (has-by (callers_scripts row (enumerate_from 0 callers)) w.0 w.0 (row.script s.0)
      (map_at (λ (y : ℕ × C). (y.0, row.script y.1)) (enumerate_from 0 callers) w.0 (w.0, s.0) (numbered-here w.0 s.0 s.1))))
    where
      numbered-here : (i : ℕ) (s : C) → slice_get callers i ≡ Some s → slice_get (enumerate_from 0 callers) i ≡ Some (i, s)
      numbered-here i s here =
          let low : i < length callers = slice_get_within callers i s here in
          let many : length (enumerate_from 0 callers) ≡ length callers = length-enumerate_from 0 callers in
          let y = there (enumerate_from 0 callers) i (omega (arith, low, many)) in
          let r = numbered-at 0 callers i y.0 y.1 in
          let number = r.0 in
          let first : y.0.0 ≡ i = omega (arith, number) in
          let second : y.0.1 ≡ s = (let f : Some y.0.1 ≡ Some s = sym r.1 ∙ here in cc) in
          y.1 ∙ ap (λ (j : ℕ). Some (j, y.0.1)) first ∙ ap (λ (t : C). Some (i, t)) second

-- how the ports are set up that are left of a core, where they are so as it was opened with them
pub setups-alone : {P : Type 0} (setup : P → List ℕ) (left : List (ℕ × P)) (ports : List P)
    → setups_of setup left ≡ setups_of setup (enumerate_from 0 ports) → map (λ (p : ℕ × P). setup p.1) left ≡ map setup ports
setups-alone setup left ports is =
    sym (map_map (λ (s : ℕ × List ℕ). s.1) (λ (p : ℕ × _). (p.0, setup p.1)) left) ∙ ap (map (λ (s : ℕ × List ℕ). s.1)) is
    ∙ map_map (λ (s : ℕ × List ℕ). s.1) (λ (p : ℕ × _). (p.0, setup p.1)) (enumerate_from 0 ports)
    ∙ sym (map_map setup (λ (p : ℕ × _). p.1) (enumerate_from 0 ports)) ∙ ap (map setup) (firsts 0 ports)

-- a port for each root
pub ports-count : {P C : Type 0} (x : ClosedCore P C) (ports : List P) → roots_of x.ports.items ≡ roots_of (enumerate_from 0 ports)
    → length x.ports.items ≡ length ports
ports-count {P} x ports roots =
    sym (length-map x.ports.items (λ (q : ℕ × P). q.0)) ∙ ap length roots ∙ length-map (enumerate_from 0 ports) (λ (q : ℕ × P). q.0)
    ∙ length-enumerate_from 0 ports

module _ {P C S : Type 0} (g : PortGhosts P) (row : CallerGhosts C S) (b : BoardView) (x : ClosedCore P C) (callers : List C)
    (same : scripts_of row x.seats.items ≡ map (λ (y : ℕ × C). (y.0, row.script y.1)) (enumerate_from 0 callers)) where
  abbrev seats : List (Seat C)
  seats = x.seats.items

  abbrev asks : Asks
  asks = asks_of row.asked (scripts_of row seats)

  -- the state of a core that these are left of
  abbrev pub left : CoreState S → CoreState S
  left v =
      record v {
        opening = record v.opening { board = b; scripts = scripts_of row seats };
        taken = taken_of row seats;
        journal = x.journal;
        worlds = worlds_of g.world x.ports.items;
        logs = logs_of g.log x.ports.items;
      }

  pub is-left : (v : CoreState S) → v.opening.board ≡ b → scripts_of row seats ≡ v.opening.scripts
      → taken_of row seats ≡ v.taken → x.journal ≡ v.journal
      → worlds_of g.world x.ports.items ≡ v.worlds → logs_of g.log x.ports.items ≡ v.logs → v ≡ left v
  is-left v board scripts_are taken journal worlds logs =
      ap (λ (k : BoardView). record v { opening = record v.opening { board = k } }) board
      ∙ ap (λ (ss : List (ℕ × S)). record v { opening = record v.opening { board = b; scripts = ss } }) (sym scripts_are)
      ∙ ap (λ (ts : List (ℕ × List Reply)). record v {
        opening = record v.opening { board = b; scripts = scripts_of row seats };
        taken = ts;
      }) (sym taken)
      ∙ ap (λ (j : JournalView). record v {
        opening = record v.opening { board = b; scripts = scripts_of row seats };
        taken = taken_of row seats;
        journal = j;
      }) (sym journal)
      ∙ ap (λ (ws : List (ℕ × World)). record v {
        opening = record v.opening { board = b; scripts = scripts_of row seats };
        taken = taken_of row seats;
        journal = x.journal;
        worlds = ws;
      }) (sym worlds)
      ∙ ap (λ (ls : List (ℕ × List PortCall)). record v {
        opening = record v.opening { board = b; scripts = scripts_of row seats };
        taken = taken_of row seats;
        journal = x.journal;
        worlds = worlds_of g.world x.ports.items;
        logs = ls;
      }) (sym logs)

  -- the seat of each number has the script of that number
  seat-at : (i : ℕ) (s : Seat C) → slice_get seats i ≡ Some s → s.number ≡ i
  seat-at i s here =
      let there = ap (λ (ys : List (ℕ × S)). slice_get ys i) (sym same) ∙ map_at (script_of row) seats i s here in
      let y = map_from (λ (y : ℕ × C). (y.0, row.script y.1)) (enumerate_from 0 callers) i (s.number, row.script s.caller) there in
      let r = numbered-at 0 callers i y.0 y.1 in
      let number : s.number ≡ y.0.0 = ap (λ (z : ℕ × S). z.0) (sym y.2) in
      let first = r.0 in
      omega (arith, number, first)

  own-found : (i : ℕ) (s : Seat C) → slice_get seats i ≡ Some s → script_at (scripts_of row seats) i ≡ Some (row.script s.caller)
  own-found i s here =
      subst (λ (n : ℕ). script_at (scripts_of row seats) n ≡ Some (row.script s.caller)) (seat-at i s here)
      (script-own row seats (λ j k t u here to is. sym (seat-at j t here) ∙ is ∙ (seat-at k u to)) i s here)

  pub scripts-same : scripts_in row (callers_in x) ≡ scripts_in row callers
  scripts-same =
      map_map (λ (s : C). row.script s) (λ (s : Seat C). s.caller) seats
      ∙ sym (map_map (λ (y : ℕ × S). y.1) (script_of row) seats)
      ∙ ap (λ (ys : List (ℕ × S)). map (λ (y : ℕ × S). y.1) ys) same
      ∙ map_map (λ (y : ℕ × S). y.1) (λ (y : ℕ × C). (y.0, row.script y.1)) (enumerate_from 0 callers)
      ∙ alone (λ (s : C). row.script s) 0 callers

  script-at : (i : ℕ) (s : Seat C) → slice_get seats i ≡ Some s → slice_get (scripts_in row (callers_in x)) i ≡ Some (row.script s.caller)
  script-at i s here = map_at (λ (t : C). row.script t) (callers_in x) i s.caller
      (map_at (λ (t : Seat C). t.caller) seats i s here)

  -- they ask for what their scripts ask for
  pub asks-same : asks ≡ asks_in row.asked (scripts_in row (callers_in x))
  asks-same = same_asks asks (asks_in row.asked (scripts_in row (callers_in x))) (λ c rs. by c rs (cases_lt c (length seats)))
    where
      by : (c : ℕ) (rs : List Reply) → (c < length seats) ⊎ (length seats ≤ c)
          → asks c rs ≡ asks_in row.asked (scripts_in row (callers_in x)) c rs
      by c rs (inl below) =
          let s = there seats c below in
          ap (λ (o : Option S). option_map_or (λ k. row.asked k rs) o None) (own-found c s.0 s.1)
          ∙ ap (λ (o : Option S). option_map_or (λ k. row.asked k rs) o None) (sym (script-at c s.0 s.1))
      by c rs (inr above) =
          let count : length (scripts_in row (callers_in x)) ≡ length seats = length-map (callers_in x) (λ (t : C). row.script t)
          ∙ length-map seats (λ (t : Seat C). t.caller) in
          ap (λ (o : Option S). option_map_or (λ k. row.asked k rs) o None)
          (script-none (scripts_of row seats) c
          (λ i s here.
          let z = map_from (script_of row) seats i (c, s) here in
          let number : z.0.number ≡ c = ap (λ (q : ℕ × S). q.0) z.2 in
          let first = seat-at i z.0 z.1 in
          let low : i < length seats = slice_get_within seats i z.0 z.1 in
          absurd (omega (arith, number, first, low, above))))
          ∙ ap (λ (o : Option S). option_map_or (λ k. row.asked k rs) o None)
          (sym (slice_get_past (scripts_in row (callers_in x)) c (omega (arith, count, above))))

  -- a caller that is through
  pub through-at : (v : CoreState S) → AllThrough row.asked g.tells (left v) → (c : ℕ) (s : C) → slice_get (callers_in x) c ≡ Some s
      → (row.asked (row.script s) (row.taken s) ≡ None) × IsThrough row.asked g.tells (left v) c (row.taken s)
  through-at v through c s here =
      let y = map_from (λ (t : Seat C). t.caller) seats c s here in
      let number = seat-at c y.0 y.1 in
      let own = through c y.0.number (row.taken y.0.caller) (map_at (λ (t : Seat C). (t.number, row.taken t.caller)) seats c y.0 y.1) in
      let mine = subst (λ (n : ℕ). IsThrough row.asked g.tells (left v) n (row.taken y.0.caller)) number own in
      let done : row.asked (row.script y.0.caller) (row.taken y.0.caller) ≡ None =
      sym (ap (λ (o : Option S). option_map_or (λ k. row.asked k (row.taken y.0.caller)) o None) (own-found c y.0 y.1)) ∙ mine.asks in
      subst (λ (t : C). (row.asked (row.script t) (row.taken t) ≡ None) × IsThrough row.asked g.tells (left v) c (row.taken t)) y.2
      (done, mine)

  -- the port of a root
  port-at : (ports : List P) → roots_of x.ports.items ≡ roots_of (enumerate_from 0 ports) → (r : ℕ) → r < length ports
      → (p : ℕ × P) × (slice_get x.ports.items r ≡ Some p) × (p.0 ≡ r)
  port-at ports roots r low =
      let root = ap (λ (ns : List ℕ). slice_get ns r) roots ∙ number-here 0 ports r low in
      let p = map_from (λ (q : ℕ × P). q.0) x.ports.items r (0 + r) root in
      let number = p.2 in
      (p.0, p.1, omega (arith, number))

  abbrev past : List Entry
  past = reverse x.journal.entries

  -- THE END: all are through
  pub core-over : (ports : List P) (v : CoreState S) → IsPlainBoard b → MeetsRules b → (IsTrue g.tells → IsTold row.asked (left v))
      → AllThrough row.asked g.tells (left v) → roots_of x.ports.items ≡ roots_of (enumerate_from 0 ports)
      → length ports ≡ length b.roots → IsTrue g.tells
      → IsOver row b (callers_in x) MOST_CALLERS x.journal.entries (map (λ (p : ℕ × P). g.world p.1) x.ports.items)
      (map (λ (p : ℕ × P). g.log p.1) x.ports.items)
  core-over ports v plain rules core_told through roots count tells =
      let told = core_told tells in
      record {
        plain = plain;
        rules = rules;
        stepwise = subst (λ (a : Asks). IsStepwise b MOST_CALLERS a past) asks-same told.stepwise;
        rests = subst (λ (a : Asks). (now b a past).due ≡ None) asks-same told.rests;
        taken = λ c s here.
            subst (λ (a : Asks). row.taken s ≡ (now b a past).settled c) asks-same (sym ((through-at v through c s here).1.settled tells));
        ended = λ c s here.
            subst (λ (a : Asks). (now b a past).walk c ≡ Ends) asks-same ((through-at v through c s here).1.walk tells);
        done = λ c s here. (through-at v through c s here).0;
        worlds_count = length-map x.ports.items (λ (p : ℕ × P). g.world p.1) ∙ ports-count x ports roots ∙ count;
        world = λ r low.
            let p = port-at ports roots r (omega (arith, low, count)) in
            map_at (λ (q : ℕ × P). g.world q.1) x.ports.items r p.0 p.1
            ∙ ap (λ (w : World). Some w) (subst (λ (a : Asks). g.world p.0.1 ≡ world_at b a past r) asks-same
            (told.worlds r r (g.world p.0.1) (map_at (λ (q : ℕ × P). (q.0, g.world q.1)) x.ports.items r p.0 p.1
            ∙ ap (λ (k : ℕ). Some (k, g.world p.0.1)) p.2)));
        logs_count = length-map x.ports.items (λ (p : ℕ × P). g.log p.1) ∙ ports-count x ports roots ∙ count;
        log = λ r low.
            let p = port-at ports roots r (omega (arith, low, count)) in
            map_at (λ (q : ℕ × P). g.log q.1) x.ports.items r p.0 p.1
            ∙ ap (λ (w : List PortCall). Some w) (subst (λ (a : Asks). g.log p.0.1 ≡ calls_of b a past r) asks-same
            (told.logs r r (g.log p.0.1) (map_at (λ (q : ℕ × P). (q.0, g.log q.1)) x.ports.items r p.0 p.1
            ∙ ap (λ (k : ℕ). Some (k, g.log p.0.1)) p.2)));
      }

-- ports that account for their faults counted those that stand in their logs
pub ports-counted : {P : Type 0} (g : PortGhosts P) (b : BoardView) (ports : List P) → IsTrue g.tells → length ports ≡ length b.roots
    → All (AccountsForFaults g) ports → AreCounted b (map g.log ports) (map g.faults ports)
ports-counted g b ports tells count account =
    record {
      all = length-map ports g.faults ∙ count;
      each = λ root count log counted logged.
          let port = map_from g.faults ports root count counted in
          let same : Some (g.log port.0) ≡ Some log = sym (map_at g.log ports root port.0 port.1) ∙ logged in
          let its : g.log port.0 ≡ log = cc in
          let few : faults_in (g.log port.0) ≤ g.faults port.0 = all_at (AccountsForFaults g) ports root port.0 account port.1 tells in
          subst (λ (n : ℕ). faults_in log ≤ n) port.2 (subst (λ (calls : List PortCall). faults_in calls ≤ g.faults port.0) its few);
    }

-- a core that was opened with the callers and ports by their numbers is one of them
pub core-opened : {P C S E : Type 0} (g : PortGhosts P) (row : CallerGhosts C S) (b : BoardView) → IsPlainBoard b → MeetsRules b
    → (callers : List C) (ports : List P) → length ports ≡ length b.roots
    → (by_root : List (ℕ × P)) (by_number : List (ℕ × C)) → by_root ≡ enumerate_from 0 ports → by_number ≡ enumerate_from 0 callers
    → (r : Result (CoreState S) E)
    → IfOk r (λ core. core.opening ≡ opening_of g row b by_root by_number) → IfOk r (λ core. core.worlds ≡ worlds_of g.world by_root)
    → IfOk r (IsCoreOf row b callers ports)
core-opened {P} {C} {S} {E} g row b plain rules callers ports count by_root by_number roots_are numbers_are (Ok core) opening worlds =
    record {
      plain = plain;
      rules = rules;
      count = count;
      board = ap (λ (o : Opening S). o.board) opening;
      scripts_are = ap (λ (o : Opening S). o.scripts) opening ∙ ap (callers_scripts row) numbers_are;
      roots = ap (map (λ (w : ℕ × World). w.0)) worlds ∙ roots-told g.world by_root ∙ ap roots_of roots_are;
    }
core-opened g row b plain rules callers ports count by_root by_number roots_are numbers_are (Err e) opening worlds = tt

-- of a core that is taken apart all is told but its lock words
told-of : {S : Type 0} (asked : S → List Reply → Option TransferView) (v : CoreState S) → CoreTold asked v → IsTold asked v
told-of asked v told = record { stepwise = told.stepwise; rests = told.rests; worlds = told.worlds; logs = told.logs }

-- a core that was opened with callers and ports, ran until all were through, and was taken apart
pub taken-apart : {P C S : Type 0} (g : PortGhosts P) (row : CallerGhosts C S) (b : BoardView) (callers : List C) (ports : List P)
    (core ran : CoreState S) (x : ClosedCore P C)
    → IsCoreOf row b callers ports core → ran.opening ≡ core.opening → roots_in ran ≡ roots_in core
    → scripts_of row x.seats.items ≡ ran.opening.scripts → taken_of row x.seats.items ≡ ran.taken
    → worlds_of g.world x.ports.items ≡ ran.worlds → logs_of g.log x.ports.items ≡ ran.logs → x.journal ≡ ran.journal
    → (IsTrue g.tells → CoreTold row.asked ran) → AllThrough row.asked g.tells ran → IsLeftOf g row b callers ports x
taken-apart {P} {C} {S} g row b callers ports core ran x of opening roots_kept scripts_left taken worlds logs journal told through =
    record {
      over = λ tells.
          core-over g row b x callers same ports ran of.plain of.rules
          (λ tell. told-of row.asked (left g row b x callers same ran) (subst (λ (v : CoreState S). CoreTold row.asked v) is_left
          (told tell)))
          (subst (λ (v : CoreState S). AllThrough row.asked g.tells v) is_left through) roots of.count tells;
      scripts = scripts-same g row b x callers same;
      count = ports-count x ports roots;
    }
  where
    same : scripts_of row x.seats.items ≡ map (λ (y : ℕ × C). (y.0, row.script y.1)) (enumerate_from 0 callers)
    same = scripts_left ∙ ap (λ (o : Opening S). o.scripts) opening ∙ of.scripts_are

    roots : roots_of x.ports.items ≡ roots_of (enumerate_from 0 ports)
    roots = sym (roots-told g.world x.ports.items) ∙ ap (map (λ (w : ℕ × World). w.0)) worlds ∙ roots_kept ∙ of.roots

    is_left : ran ≡ left g row b x callers same ran
    is_left = is-left g row b x callers same ran (ap (λ (o : Opening S). o.board) opening
        ∙ of.board) scripts_left taken journal worlds logs

-- what goes on from an empty journal is the whole of it
pub goes-on-whole : (words : List ℕ) (old new : List Entry) → old ≡ [] → GoesOnBy words old new → Follows words new
goes-on-whole words old new empty goes =
    let from : GoesOnBy words [] new = subst (λ (es : List Entry). GoesOnBy words es new) empty goes in
    subst (λ (es : List Entry). Follows words es) (sym from.behind) from.follows

-- what is left of one core, with its journal in a list
pub as-one : {P C S : Type 0} (g : PortGhosts P) (row : CallerGhosts C S) (b : BoardView) (callers : List C) (ports : List P)
    (x : ClosedCore P C) (y : Ran P C) → IsLeftOf g row b callers ports x → IsAsOne x y → IsLeftOf g row b callers ports (one_of y)
as-one {P} {C} {S} g row b callers ports x y left as_one =
    subst (IsLeftOf g row b callers ports) same
    (record { over = left.over; scripts = left.scripts; count = left.count })
  where
    same : record x { journal = record { entries = x.journal.entries; room = 0; room_bytes = 0 } } ≡ one_of y
    same = ap (λ (ps : _). record x { ports = ps; journal = record { entries = x.journal.entries; room = 0; room_bytes = 0 } })
        (sym as_one.ports)
        ∙ ap (λ (ss : _). record x {
          ports = y.ports;
          seats = ss;
          journal = record {
            entries = x.journal.entries;
            room = 0;
            room_bytes =
                0;
          };
        })
        (sym as_one.seats)
        ∙ ap (λ (es : List Entry). record { ports = y.ports; seats = y.seats; journal = record { entries = es; room = 0; room_bytes = 0 } })
        (sym as_one.entries)

-- what follows of each result that is there
pub if-ok : {A E : Type 0} (Q R : A → Type 0) → ((a : A) → Q a → R a) → (r : Result A E) → IfOk r Q → IfOk r R
if-ok Q R each (Ok a) ok = each a ok
if-ok Q R each (Err e) ok = tt

-- .. also of what says nothing of it
pub on-ok : {A E X : Type 0} (r : Result A E) → X → OnOk r X
on-ok (Ok a) x = x
on-ok (Err e) x = tt

pub on-ok-then : {A E X Y : Type 0} → (X → Y) → (r : Result A E) → OnOk r X → OnOk r Y
on-ok-then f (Ok a) x = f x
on-ok-then f (Err e) x = tt

-- a run over ports is one by what the rig holds that they were given back to
pub run-given-back : {P : Type 0} (g : PortGhosts P) (b : BoardView) (ports : List P)
    (run : List (List PortCall) → List TargetState → List ℕ → Type 0) → HasRunOver g b ports run
    → (logs : List (List PortCall)) (states : List TargetState) (counts : List ℕ)
    → (AreWorldsOf b (map g.world ports) → logs ≡ map g.log ports)
    → (AreWorldsOf b (map g.world ports) → states ≡ devices_of b (map g.world ports)) → counts ≡ map g.faults ports
    → run logs states counts
run-given-back g b ports run over logs states counts logged left counted =
    subst (λ (ls : List (List PortCall)). run ls states counts) (sym (logged over.worlds))
    (subst (λ (ss : List TargetState). run (map g.log ports) ss counts) (sym (left over.worlds))
    (subst (λ (cs : List ℕ). run (map g.log ports) (devices_of b (map g.world ports)) cs) (sym counted) over.by))

-- what holds of the journal of cores that ran holds of their run's
pub of-journal : {P C E : Type 0} (Q : List Entry → Type 0) (r : Result (Ran P C) E) → IfOk r (λ x. Q (one_of x).journal.entries)
    → (journal : List Entry) → HaveJournal r journal → Q journal
of-journal {P} {C} {E} Q r holds journal have =
    subst Q have.entries (subst (λ (s : Result (Ran P C) E). IfOk s (λ x. Q (one_of x).journal.entries)) have.is holds)
