-- What is left of the cores of all homes, put together, is as of one core that ran.
use Rattle.bus_groups.proofs.Cited.{◌≡◌, ℕ, zero, suc, ◌+◌, ◌<◌, eqb, Bool, true, false, cond, ◌||◌, IsTrue, rules, List, [], ◌∷◌, ◌++◌}
use Rattle.bus_groups.proofs.Cited.{length, map, take, drop, set, get_or, flat_map, All, Option, Some, None, refl, sym, ◌∙◌, ap, ap₂, subst}
use Rattle.bus_groups.proofs.Cited.{arith, inl, inr, true≢false, eq-eqb, slice_get, range_with_len, AllZip, eqb_tells, length-map}
use Rattle.bus_groups.proofs.Cited.{map-append, get_or_from_slice_get, map_from, map_at, map_map, Entry, Reply, BoardView, root_of, IsTree}
use Rattle.bus_groups.proofs.Cited.{AreDistinct, roots_of, numbers_in, script_at, CoreState, AllThrough, roots_in, has_caller, caller_of}
use Rattle.bus_groups.proofs.Cited.{joined, ArePartsApart, homes_of, caller_home, AreByHomes, of_home, parts_by, joined_by, HasRun, IsTold}
use Rattle.bus_groups.proofs.Cited.{IsOpenedWith, AreLeftOf, MayRun, has_root, part_of, IsOfGroup, AreOfGroups, IsWhole, Share}
use Rattle.bus_groups.proofs.Cited.{length-map-range_with_len}
use Rattle.std.proofs.Common.{IsSome}
use Rattle.std.proofs.lemmas.List.{map-set}
use Rattle.i2c_base.specs.declared.caller.Caller.{Ghosts as CallerGhosts}
use Rattle.i2c_base.specs.declared.port.PortCall.{PortCall}
use Rattle.ports.specs.declared.port.Port.{Ghosts as PortGhosts}
use Rattle.i2c_spec.specs.World.{World}
use Rattle.bus_journal.specs.View.{JournalView}
use Rattle.bus_core.specs.Opens.{callers_scripts, opening_of}
use Rattle.bus_core.specs.Opening.{Opening}
use Rattle.bus_core.specs.Places.{scripts_of, script_of}
use Rattle.bus_core.specs.State.{CoreTold, worlds_of, taken_of}
use Rattle.bus_core.specs.declared.bus.ClosedCore.{ClosedCore}
use Rattle.bus_core.specs.declared.seat.Seat.{Seat}
use Rattle.bus_core.proofs.Told.{roots-told, has-by, has-at}
use Rattle.group_laws.specs.Groups.{IsApartFrom, AreApart, IsOwn, AreOwn}
use Rattle.bus_groups.specs.Homes.{caller_home_at}
use Rattle.bus_groups.specs.Rounds.{IsLeftOf, left_of, CameOut, AreBegun}
use Rattle.std.proofs.lemmas.List.Elements.{All-cons}
use Rattle.bus_groups.proofs.ShareLemmas.{undone, zip-length}
use Rattle.bus_groups.proofs.RoundLemmas.{of-from, map-of, counts, may-share, homes-below}
use Rattle.bus_groups.proofs.HomeLemmas.{are-homes}
use Rattle.bus_groups.proofs.OrderLemmas.{AreOfHome, AreFrom, each-own, from-both, by-both}
use Rattle.bus_groups.proofs.Whole.{whole-told, whole-through, joins}

-- what a function makes of parts that are put together
get-map : {X Y : Type 0} (f : X → Y) (xss : List (List X)) (h : ℕ) → get_or (map (map f) xss) h [] ≡ map f (get_or xss h [])
get-map f [] h = refl
get-map f (xs ∷ xss) zero = refl
get-map f (xs ∷ xss) (suc h) = get-map f xss h

take-one : {X Y : Type 0} (f : X → Y) (xs : List X) → map f (take 1 xs) ≡ take 1 (map f xs)
take-one f [] = refl
take-one f (x ∷ xs) = refl

drop-one : {X Y : Type 0} (f : X → Y) (xs : List X) → map f (drop 1 xs) ≡ drop 1 (map f xs)
drop-one f [] = refl
drop-one f (x ∷ xs) = refl

pub map-joined : {X Y : Type 0} (f : X → Y) (hs : List ℕ) (xss : List (List X)) → map f (joined_by hs xss) ≡ joined_by hs (map (map f) xss)
map-joined f [] xss = refl
map-joined {X} {Y} f (h ∷ hs) xss =
    map-append f (take 1 (get_or xss h [])) (joined_by hs (set xss h (drop 1 (get_or xss h []))))
    ∙ ap (λ (ys : List Y). ys ++ map f (joined_by hs (set xss h (drop 1 (get_or xss h [])))))
    (take-one f (get_or xss h []) ∙ ap (take 1) (sym (get-map f xss h)))
    ∙ ap (λ (ys : List Y). take 1 (get_or (map (map f) xss) h []) ++ ys)
    (map-joined f hs (set xss h (drop 1 (get_or xss h []))) ∙ ap (joined_by hs)
    (map-set (map f) xss h (drop 1 (get_or xss h [])) ∙ ap (set (map (map f) xss) h)
    (drop-one f (get_or xss h []) ∙ ap (drop 1) (sym (get-map f xss h)))))

-- an element of parts that are put together is of one of them
pub joined-from : {X : Type 0} (hs : List ℕ) (xss : List (List X)) (i : ℕ) (y : X) → slice_get (joined_by hs xss) i ≡ Some y
    → (h : ℕ) × (k : ℕ)
    × (slice_get (get_or xss h []) k ≡ Some y)
joined-from [] xss i y at = absurd (let f : None ≡ Some y = at in cc)
joined-from {X} (h ∷ hs) xss i y at = by (λ zss n e. joined-from hs zss n y e) (get_or xss h []) refl i at
  where
    later : (xs : List X) (xss : List (List X)) (h n k : ℕ) → get_or xss h [] ≡ xs → slice_get
        (get_or (set xss h (drop 1 xs)) n []) k ≡ Some y
        → (g : ℕ) × (j : ℕ) × (slice_get (get_or xss g []) j ≡ Some y)
    later xs [] h n k e at = (n, k, at)
    later [] (zs ∷ zss) zero zero k e at = absurd (let f : None ≡ Some y = at in cc)
    later (x ∷ xs) (zs ∷ zss) zero zero k e at = (zero, suc k, ap (λ (l : List X). slice_get l (suc k)) e ∙ at)
    later xs (zs ∷ zss) zero (suc n) k e at = (suc n, k, at)
    later xs (zs ∷ zss) (suc h) zero k e at = (zero, k, at)
    later xs (zs ∷ zss) (suc h) (suc n) k e at = (let r = later xs zss h n k e at in (suc r.0, r.1, r.2))

    by : ((zss : List (List X)) (n : ℕ) → slice_get (joined_by hs zss) n ≡ Some y → (g : ℕ) × (k : ℕ)
        × (slice_get (get_or zss g []) k ≡ Some y))
        → (xs : List X) → get_or xss h [] ≡ xs → (i : ℕ) → slice_get
        (take 1 (get_or xss h []) ++ joined_by hs (set xss h (drop 1 (get_or xss h [])))) i ≡ Some y
        → (g : ℕ) × (k : ℕ) × (slice_get (get_or xss g []) k ≡ Some y)
    by next [] e i at = (let r = next (set xss h (drop 1 [])) i (sym
        (ap (λ (l : List X). slice_get (take 1 l ++ joined_by hs (set xss h (drop 1 l))) i) e) ∙ at) in later [] xss h r.0 r.1 e r.2)
    by next (x ∷ xs) e zero at = (
      h,
      zero,
      ap (λ (l : List X). slice_get l zero) e
          ∙ sym (ap (λ (l : List X). slice_get (take 1 l ++ joined_by hs (set xss h (drop 1 l))) zero) e) ∙ at,
    )
    by next (x ∷ xs) e (suc i) at = (let r = next (set xss h xs) i (sym
        (ap (λ (l : List X). slice_get (take 1 l ++ joined_by hs (set xss h (drop 1 l))) (suc i)) e) ∙ at) in
        later (x ∷ xs) xss h r.0 r.1 e r.2)

-- an element of a list of lists that another list tells
list-at : {X Y : Type 0} (f : X → List Y) (xs : List X) (h k : ℕ) (y : Y) → slice_get (get_or (map f xs) h []) k ≡ Some y → (x : X)
    × (slice_get xs h ≡ Some x) × (slice_get (f x) k ≡ Some y)
list-at f [] h k y at = absurd (let e : None ≡ Some y = at in cc)
list-at f (x ∷ xs) zero k y at = (x, refl, at)
list-at f (x ∷ xs) (suc h) k y at = list-at f xs h k y at

zip-maps : {X Y Z : Type 0} (R : X → Y → Type 0) (f : Y → Z) (g : X → Z) → ((x : X) (y : Y) → R x y → f y ≡ g x)
    → (xs : List X) (ys : List Y)
    → AllZip R xs ys → map f ys ≡ map g xs
zip-maps R f g tells [] [] are = refl
zip-maps R f g tells [] (y ∷ ys) are = absurd are
zip-maps R f g tells (x ∷ xs) [] are = absurd are
zip-maps R f g tells (x ∷ xs) (y ∷ ys) are = ap₂ (λ z zs. z ∷ zs) (tells x y are.0) (zip-maps R f g tells xs ys are.1)

-- a root, and a caller, that is told stands somewhere
any-there : (rs : List ℕ) (k r : ℕ) → slice_get rs k ≡ Some r → has_root rs r ≡ true
any-there [] k r at = absurd (let e : None ≡ Some r = at in cc)
any-there (x ∷ xs) zero r at = (let f : Some x ≡ Some r = at in let e : x ≡ r = cc in ap (λ (t : Bool). t || has_root xs r) (eq-eqb x r e))
any-there (x ∷ xs) (suc k) r at = or-right (eqb x r) (has_root xs r) (any-there xs k r at)
  where
    or-right : (a d : Bool) → d ≡ true → (a || d) ≡ true
    or-right true d h = refl
    or-right false d h = h

any-from : (rs : List ℕ) (r : ℕ) → has_root rs r ≡ true → (k : ℕ) × (slice_get rs k ≡ Some r)
any-from [] r h = absurd (true≢false (sym h))
any-from (x ∷ xs) r h =
    elim (eqb_tells x r) [
      | inl same ↦ (zero, ap (λ (n : ℕ). Some n) same.1)
      | inr other ↦ (let t = any-from xs r (sym (ap (λ (t : Bool). t || has_root xs r) other.0) ∙ h) in (suc t.0, t.1))
    ]

-- who is in a part has the script there that it has in the whole
script-of-home : {S : Type 0} (hs : List ℕ) (h : ℕ) (ss : List (ℕ × S)) → AreDistinct (map (λ (s : ℕ × S). s.0) ss) → (n : ℕ)
    → has_caller (of_home hs h ss) n ≡ true → script_at ss n ≡ script_at (of_home hs h ss) n
script-of-home [] h ss once n has = absurd (true≢false (sym has))
script-of-home (j ∷ js) h [] once n has = absurd (true≢false (sym has))
script-of-home {S} (j ∷ js) h (s ∷ ss) once n has =
    by (eqb j h) has (λ k. script-of-home js h ss (λ i k m at to. (let e = once (suc i) (suc k) m at to in omega (arith, e))) n k)
  where
    no : has_caller (of_home js h ss) n ≡ true → s.0 ≡ n → ⊥
    no k same =
        let f = has-at (of_home js h ss) n k in
        let r = of-from js h ss f.0 (n, f.1) f.2 in
        let e = once zero (suc r.0) n (ap (λ (m : ℕ). Some m) same) (map_at (λ (t : ℕ × S). t.0) ss r.0 (n, f.1) r.1) in
        omega (arith, e)

    by : (t : Bool) → has_caller (cond t (s ∷ of_home js h ss) (of_home js h ss)) n ≡ true
        → (has_caller (of_home js h ss) n ≡ true → script_at ss n ≡ script_at (of_home js h ss) n)
        → script_at (s ∷ ss) n ≡ script_at (cond t (s ∷ of_home js h ss) (of_home js h ss)) n
    by true k later =
        elim (eqb_tells s.0 n) [
          | inl is ↦ ap (λ (t : Bool). cond t (Some s.1) (script_at ss n)) is.0
              ∙ sym (ap (λ (t : Bool). cond t (Some s.1) (script_at (of_home js h ss) n)) is.0)
          | inr other ↦ ap (λ (t : Bool). cond t (Some s.1) (script_at ss n)) other.0
              ∙ later (sym (ap (λ (t : Bool). cond t true (has_caller (of_home js h ss) n)) other.0) ∙ k)
              ∙ sym (ap (λ (t : Bool). cond t (Some s.1) (script_at (of_home js h ss) n)) other.0)
        ]
    by false k later =
        elim (eqb_tells s.0 n) [
          | inl is ↦ absurd (no k is.1)
          | inr other ↦ ap (λ (t : Bool). cond t (Some s.1) (script_at ss n)) other.0 ∙ later k
        ]

apart-by : (f g : ℕ → Bool) (hs : List ℕ) (a d : ℕ) → a < d → ((i : ℕ) → f i ≡ true → slice_get hs i ≡ Some a)
    → ((i : ℕ) → g i ≡ true → slice_get hs i ≡ Some d) → AreApart f g
apart-by f g hs a d less fs gs = λ i is. by i (f i) refl is
  where
    by : (i : ℕ) (t : Bool) → f i ≡ t → g i ≡ true → f i ≡ false
    by i true e is = absurd (let q : Some a ≡ Some d = sym (fs i e) ∙ gs i is in let same : a ≡ d = cc in omega (arith, same, less))
    by i false e is = e

module _ {P C S : Type 0} (p : PortGhosts P) (c : CallerGhosts C S) (b : BoardView) where
  is-left : (x : ClosedCore P C) (v : CoreState S) → v.opening.board ≡ b → IsLeftOf p c v x → v ≡ left_of p c b x v
  is-left x v board l =
      ap (λ (k : BoardView). record v { opening = record v.opening { board = k } }) board
      ∙ ap (λ (ss : List (ℕ × S)). record v { opening = record v.opening { board = b; scripts = ss } }) (sym l.scripts)
      ∙ ap (λ (ts : List (ℕ × List Reply)). record v {
        opening = record v.opening { board = b; scripts = scripts_of c x.seats.items };
        taken = ts;
      })
      (sym l.taken)
      ∙ ap (λ (j : JournalView). record v {
        opening = record v.opening { board = b; scripts = scripts_of c x.seats.items };
        taken =
            taken_of c x.seats.items;
        journal = j;
      }) (sym l.journal)
      ∙ ap (λ (ws : List (ℕ × World)). record v {
        opening = record v.opening { board = b; scripts = scripts_of c x.seats.items };
        taken =
            taken_of c x.seats.items;
        journal = x.journal;
        worlds = ws;
      }) (sym l.worlds)
      ∙ ap (λ (ls : List (ℕ × List PortCall)). record v {
        opening = record v.opening { board = b; scripts = scripts_of c x.seats.items };
        taken =
            taken_of c x.seats.items;
        journal = x.journal;
        worlds = worlds_of p.world x.ports.items;
        logs = ls;
      }) (sym l.logs)

  again-told : (x : ClosedCore P C) (u v : CoreState S) → CoreTold c.asked (left_of p c b x u) → IsTold c.asked (left_of p c b x v)
  again-told x u v t = record { stepwise = t.stepwise; rests = t.rests; worlds = t.worlds; logs = t.logs }

  again-through : (x : ClosedCore P C) (u v : CoreState S) → AllThrough c.asked p.tells (left_of p c b x u)
      → AllThrough c.asked p.tells (left_of p c b x v)
  again-through x u v h = λ i n rs at. (let t = h i n rs at in record { asks = t.asks; walk = t.walk; settled = t.settled })

  firsts : List (ℕ × World) → List ℕ
  firsts = map (λ (w : ℕ × World). w.0)

  -- a share that was opened, ran, and was taken apart
  one-ran : (s : Share P C) (o n : Option (CoreState S)) (x : ClosedCore P C) → IsOpenedWith p c b s o → HasRun c.asked p.tells o n
      → AreLeftOf p c n x
      → CameOut p c b s.ports.items s.callers.items x
  one-ran s None n x opened ran left = absurd opened
  one-ran s (Some v) None x opened ran left = absurd ran
  one-ran s (Some v) (Some w) x opened ran left =
      let opening : w.opening ≡ opening_of p c b s.ports.items s.callers.items = ran.opening ∙ opened.0 in
      let same : w ≡ left_of p c b x w = is-left x w (ap (λ (o : Opening S). o.board) opening) left in
      record {
        scripts = left.scripts ∙ ap (λ (o : Opening S). o.scripts) opening;
        roots = sym (roots-told p.world x.ports.items) ∙ ap (map (λ (w : ℕ × World). w.0)) left.worlds ∙ ran.roots
            ∙ ap (map (λ (w : ℕ × World). w.0)) opened.1 ∙ roots-told p.world s.ports.items;
        told = λ u tell. again-told x w u (subst (CoreTold c.asked) same (ran.told tell));
        through = λ u. again-through x w u (subst (AllThrough c.asked p.tells) same ran.through);
      }

  pub all-ran : (ss : List (Share P C)) (os ns : List (Option (CoreState S))) (xs : List (ClosedCore P C))
      → AllZip (λ s o. IsOpenedWith p c b s o) ss os
      → AllZip (λ o n. HasRun c.asked p.tells o n) os ns → AllZip (λ n x. AreLeftOf p c n x) ns xs
      → AllZip (λ s x. CameOut p c b s.ports.items s.callers.items x) ss xs
  all-ran [] [] [] [] a r l = tt
  all-ran [] [] [] (x ∷ xs) a r l = absurd l
  all-ran [] [] (n ∷ ns) xs a r l = absurd r
  all-ran [] (o ∷ os) ns xs a r l = absurd a
  all-ran (s ∷ ss) [] ns xs a r l = absurd a
  all-ran (s ∷ ss) (o ∷ os) [] xs a r l = absurd r
  all-ran (s ∷ ss) (o ∷ os) (n ∷ ns) [] a r l = absurd l
  all-ran (s ∷ ss) (o ∷ os) (n ∷ ns) (x ∷ xs) a r l = (one-ran s o n x a.0 r.0 l.0, all-ran ss os ns xs a.1 r.1 l.1)

  module _ (masks costs : List ℕ) (ports : List (ℕ × P)) (callers : List (ℕ × C)) (many : ℕ) (runs : MayRun p c b masks costs ports callers)
      (is_many : many ≡ length b.roots) where
    roots : roots_of ports ≡ range_with_len 0 many
    roots = runs.roots ∙ ap (range_with_len 0) (sym is_many)

    abbrev rh : List ℕ
    rh = homes_of many masks

    abbrev ch : List ℕ
    ch = map (caller_home rh) masks

    abbrev scripts : List (ℕ × S)
    scripts = callers_scripts c callers

    -- each is left of the share of its home
    abbrev AreRan : ℕ → List (ClosedCore P C) → Type 0
    AreRan h [] = Unit {0}
    AreRan h (x ∷ xs) = CameOut p c b (of_home rh h ports) (of_home ch h callers) x × AreRan (h + 1) xs

    ran-from : (ss : List (Share P C)) (xs : List (ClosedCore P C)) (h n : ℕ)
        → map (λ s. s.ports.items) ss ≡ map (λ k. of_home rh k ports) (range_with_len h n)
        → map (λ s. s.callers.items) ss ≡ map (λ k. of_home ch k callers) (range_with_len h n)
        → AllZip (λ s x. CameOut p c b s.ports.items s.callers.items x) ss xs → AreRan h xs
    ran-from [] [] h n ps cs z = tt
    ran-from [] (x ∷ xs) h n ps cs z = absurd z
    ran-from (s ∷ ss) [] h n ps cs z = absurd z
    ran-from (s ∷ ss) (x ∷ xs) h zero ps cs z = absurd (let e = ap length ps in omega (arith, e))
    ran-from (s ∷ ss) (x ∷ xs) h (suc n) ps cs z = (
      subst (λ (qs : List (ℕ × P)). CameOut p c b qs (of_home ch h callers) x) (ap (λ (l : List (List (ℕ × P))). get_or l 0 []) ps)
          (subst (λ (qs : List (ℕ × C)). CameOut p c b s.ports.items qs x) (ap (λ (l : List (List (ℕ × C))). get_or l 0 []) cs) z.0),
      ran-from ss xs (h + 1) n (ap (drop 1) ps) (ap (drop 1) cs) z.1,
    )

    module _ (v : CoreState S) where
      abbrev left : ClosedCore P C → CoreState S
      left x = left_of p c b x v

      part-scripts : (h : ℕ) (x : ClosedCore P C) → CameOut p c b (of_home rh h ports) (of_home ch h callers) x
          → scripts_of c x.seats.items ≡ of_home ch h scripts
      part-scripts h x came = came.scripts ∙ map-of (λ (y : ℕ × C). (y.0, c.script y.1)) ch h callers

      part-roots : (h : ℕ) (x : ClosedCore P C) → CameOut p c b (of_home rh h ports) (of_home ch h callers) x
          → roots_in (left x) ≡ roots_of (of_home rh h ports)
      part-roots h x came = roots-told p.world x.ports.items ∙ came.roots

      once : AreDistinct (map (λ (s : ℕ × S). s.0) scripts)
      once = subst AreDistinct (sym (map_map (λ (s : ℕ × S). s.0) (λ (y : ℕ × C). (y.0, c.script y.1)) callers)) runs.may.distinct

      of-group : (h : ℕ) (x : ClosedCore P C) → CameOut p c b (of_home rh h ports) (of_home ch h callers) x
          → IsOfGroup c.asked p.tells b scripts (left x)
      of-group h x came =
          record {
            board = refl;
            same = λ n. subst (λ (ss : List (ℕ × S)). has_caller ss n ≡ true → script_at scripts n ≡ script_at ss n)
                (sym (part-scripts h x came))
                (script-of-home ch h scripts once n);
            wired = λ i y rs t at asks bus.
                let z = map_from (λ (q : ℕ × C). (q.0, c.script q.1)) (of_home ch h callers) i y
                (ap (λ (ss : List (ℕ × S)). slice_get ss i) (sym came.scripts) ∙ at) in
                let on = (may-share p c b masks costs ports callers many runs is_many h).wired i z.0 rs t z.1
                (ap (λ (s : ℕ × S). c.asked s.1 rs) z.2 ∙ asks) bus in
                subst (λ (rs : List ℕ). has_root rs (root_of b t.bus) ≡ true) (sym (part-roots h x came))
                (any-there (roots_of (of_home rh h ports)) on.place (root_of b t.bus) on.here);
            told = came.told v;
            through = came.through v;
          }

      root-home : (h : ℕ) (x : ClosedCore P C) → CameOut p c b (of_home rh h ports) (of_home ch h callers) x → (r : ℕ)
          → has_root (roots_in (left x)) r ≡ true → slice_get rh r ≡ Some h
      root-home h x came r is =
          let k = any-from (roots_of (of_home rh h ports)) r (subst (λ (rs : List ℕ). has_root rs r ≡ true) (part-roots h x came) is) in
          let q = map_from (λ (y : ℕ × P). y.0) (of_home rh h ports) k.0 r k.1 in
          let f = of-from rh h ports k.0 q.0 q.1 in
          let n = counts (roots_of ports) many f.0 q.0.0 roots (map_at (λ (y : ℕ × P). y.0) ports f.0 q.0 f.1) in
          ap (slice_get rh) (sym q.2 ∙ n.0) ∙ f.2

      who-home : (h : ℕ) (x : ClosedCore P C) → CameOut p c b (of_home rh h ports) (of_home ch h callers) x → (n : ℕ)
          → has_caller (scripts_of c x.seats.items) n ≡ true → slice_get ch n ≡ Some h
      who-home h x came n is =
          let k = has-at (of_home ch h scripts) n (subst (λ (ss : List (ℕ × S)). has_caller ss n ≡ true) (part-scripts h x came) is) in
          let f = of-from ch h scripts k.0 (n, k.1) k.2 in
          let q = map_from (λ (y : ℕ × C). (y.0, c.script y.1)) callers f.0 (n, k.1) f.1 in
          let m = counts (numbers_in callers) (length masks) f.0 q.0.0 runs.numbers (map_at (λ (y : ℕ × C). y.0) callers f.0 q.0 q.1) in
          ap (slice_get ch) (ap (λ (s : ℕ × S). s.0) (sym q.2) ∙ m.0) ∙ f.2

      groups-from : (h : ℕ) (xs : List (ClosedCore P C)) → AreRan h xs → AreOfGroups c.asked p.tells b scripts (map left xs)
      groups-from h [] are = tt
      groups-from h (x ∷ xs) are = (of-group h x are.0, groups-from (h + 1) xs are.1)

      from-rest : (a d : ℕ) (x : ClosedCore P C) (xs : List (ClosedCore P C)) → a < d → CameOut p c b (of_home rh a ports)
          (of_home ch a callers) x
          → AreRan d xs → IsApartFrom (part_of c.asked (left x)) (map (part_of c.asked) (map left xs))
      from-rest a d x [] less came are = tt
      from-rest a d x (y ∷ ys) less came are = (
        (
          apart-by (has_root (roots_in (left x))) (has_root (roots_in (left y))) rh a d less (root-home a x came) (root-home d y are.0),
          apart-by (has_caller (scripts_of c x.seats.items)) (has_caller (scripts_of c y.seats.items)) ch a d less (who-home a x came)
              (who-home d y are.0),
        ),
        from-rest a (d + 1) x ys (omega (arith, less)) came are.1,
      )

      apart-from : (h : ℕ) (xs : List (ClosedCore P C)) → AreRan h xs → ArePartsApart (map (part_of c.asked) (map left xs))
      apart-from h [] are = tt
      apart-from h (x ∷ xs) are = (from-rest h (h + 1) x xs (omega arith) are.0 are.1, apart-from (h + 1) xs are.1)

      joined-entries : (xs : List (ClosedCore P C)) → flat_map (λ y. y.journal.entries) xs ≡ joined (map (part_of c.asked) (map left xs))
      joined-entries [] = refl
      joined-entries (x ∷ xs) = ap (λ (es : List Entry). x.journal.entries ++ es) (joined-entries xs)

      whole : (x : ClosedCore P C) (xs : List (ClosedCore P C)) → x.ports.items ≡ joined_by rh (map (λ y. y.ports.items) xs)
          → x.seats.items ≡ joined_by ch (map (λ y. y.seats.items) xs) → x.journal.entries ≡ flat_map (λ y. y.journal.entries) xs
          → IsWhole b c.asked (map left xs) (left x)
      whole x xs ps ss es =
          record {
            board = refl;
            entries = es ∙ joined-entries xs;
            taken = λ i n rs at.
                let s = map_from (λ (s : Seat C). (s.number, c.taken s.caller)) x.seats.items i (n, rs) at in
                let j = joined-from ch (map (λ y. y.seats.items) xs) i s.0 (ap (λ (l : List (Seat C)). slice_get l i) (sym ss) ∙ s.1) in
                let y = list-at (λ y. y.seats.items) xs j.0 j.1 s.0 j.2 in
                record {
                  place = j.0;
                  state = left y.0;
                  here = map_at left xs j.0 y.0 y.1;
                  is_so = (
                    subst (λ (m : ℕ). has_caller (scripts_of c y.0.seats.items) m ≡ true) (ap (λ (q : ℕ × List Reply). q.0) s.2)
                        (has-by (scripts_of c y.0.seats.items) j.1 s.0.number (c.script s.0.caller)
                        (map_at (script_of c) y.0.seats.items j.1 s.0 y.2)),
                    j.1,
                    map_at (λ (s : Seat C). (s.number, c.taken s.caller)) y.0.seats.items j.1 s.0 y.2
                        ∙ ap (λ (q : ℕ × List Reply). Some q) s.2,
                  );
                };
            worlds = λ i r w at.
                let q = map_from (λ (q : ℕ × P). (q.0, p.world q.1)) x.ports.items i (r, w) at in
                let j = joined-from rh (map (λ y. y.ports.items) xs) i q.0 (ap (λ (l : List (ℕ × P)). slice_get l i) (sym ps) ∙ q.1) in
                let y = list-at (λ y. y.ports.items) xs j.0 j.1 q.0 j.2 in
                let here = map_at (λ (q : ℕ × P). (q.0, p.world q.1)) y.0.ports.items j.1 q.0 y.2 ∙ ap (λ (z : ℕ × World). Some z) q.2 in
                record {
                  place = j.0;
                  state = left y.0;
                  here = map_at left xs j.0 y.0 y.1;
                  is_so = (
                    any-there (roots_in (left y.0)) j.1 r (map_at (λ (z : ℕ × World). z.0) (worlds_of p.world y.0.ports.items) j.1
                        (r, w) here),
                    j.1,
                    here,
                  );
                };
            logs = λ i r w at.
                let q = map_from (λ (q : ℕ × P). (q.0, p.log q.1)) x.ports.items i (r, w) at in
                let j = joined-from rh (map (λ y. y.ports.items) xs) i q.0 (ap (λ (l : List (ℕ × P)). slice_get l i) (sym ps) ∙ q.1) in
                let y = list-at (λ y. y.ports.items) xs j.0 j.1 q.0 j.2 in
                let number : q.0.0 ≡ r = ap (λ (z : ℕ × List PortCall). z.0) q.2 in
                record {
                  place = j.0;
                  state = left y.0;
                  here = map_at left xs j.0 y.0 y.1;
                  is_so = (
                    any-there (roots_in (left y.0)) j.1 r (map_at (λ (z : ℕ × World). z.0) (worlds_of p.world y.0.ports.items) j.1
                        (q.0.0, p.world q.0.1) (map_at (λ (q : ℕ × P). (q.0, p.world q.1)) y.0.ports.items j.1 q.0 y.2)
                        ∙ ap (λ (m : ℕ). Some m) number),
                    j.1,
                    map_at (λ (q : ℕ × P). (q.0, p.log q.1)) y.0.ports.items j.1 q.0 y.2 ∙ ap (λ (z : ℕ × List PortCall). Some z) q.2,
                  );
                };
          }

    -- THE END: all came out as of one core
    pub came-out : IsTree b → (count_ports : length ports ≡ many) → (count : length callers ≡ length masks) → All (λ h. h < many) ch
        → (ss : List (Share P C)) (xs : List (ClosedCore P C)) (x : ClosedCore P C) → map (λ s. s.ports.items) ss ≡ parts_by rh many ports
        → map (λ s. s.callers.items) ss ≡ parts_by ch many callers
        → AllZip (λ s y. CameOut p c b s.ports.items s.callers.items y) ss xs
        → x.ports.items ≡ joined_by rh (map (λ y. y.ports.items) xs) → x.seats.items ≡ joined_by ch (map (λ y. y.seats.items) xs)
        → x.journal.entries ≡ flat_map (λ y. y.journal.entries) xs
        → CameOut p c b ports callers x
    came-out tree count_ports count below ss xs x ports_of callers_of ran ps se es =
        let g : ℕ × C → ℕ × S = λ y. (y.0, c.script y.1) in
        let are : AreRan 0 xs = ran-from ss xs 0 many ports_of callers_of ran in
        let same : scripts_of c x.seats.items ≡ scripts =
        ap (scripts_of c) se ∙ map-joined (script_of c) ch (map (λ y. y.seats.items) xs)
        ∙ ap (joined_by ch) (map_map (map (script_of c)) (λ y. y.seats.items) xs
        ∙ zip-maps (λ s y. CameOut p c b s.ports.items s.callers.items y) (λ y. scripts_of c y.seats.items)
        (λ s. callers_scripts c s.callers.items)
        (λ s y r. r.scripts) ss xs ran
        ∙ sym (map_map (map g) (λ s. s.callers.items) ss) ∙ ap (map (map g)) callers_of)
        ∙ sym (map-joined g ch (parts_by ch many callers)) ∙ ap (map g)
        (undone ch callers many (count ∙ sym (length-map masks (caller_home rh))) below) in
        let first : ℕ × P → ℕ = λ y. y.0 in
        record {
          scripts = same;
          roots =
              ap (map first) ps ∙ map-joined first rh (map (λ y. y.ports.items) xs)
              ∙ ap (joined_by rh) (map_map (map first) (λ y. y.ports.items) xs
              ∙ zip-maps (λ s y. CameOut p c b s.ports.items s.callers.items y) (λ y. roots_of y.ports.items) (λ s. roots_of s.ports.items)
              (λ s y r. r.roots) ss xs ran
              ∙ sym (map_map (map first) (λ s. s.ports.items) ss) ∙ ap (map (map first)) ports_of)
              ∙ sym (map-joined first rh (parts_by rh many ports)) ∙ ap (map first)
              (undone rh ports many (count_ports ∙ sym (are-homes many masks).count) (homes-below many masks));
          told = λ v tell. whole-told c.asked p.tells b scripts tree (map (left v) xs) (groups-from v 0 xs are) (apart-from v 0 xs are)
              (left v x)
              (whole v x xs ps se es) same tell;
          through = λ v. whole-through c.asked p.tells b scripts tree (map (left v) xs) (groups-from v 0 xs are) (apart-from v 0 xs are)
              (left v x)
              (whole v x xs ps se es) same;
        }

    -- of each home's journal all entries are of callers of that home
    homes-own : (v : CoreState S) (h : ℕ) (x : ClosedCore P C) → CameOut p c b (of_home rh h ports) (of_home ch h callers) x
        → IsOwn (part_of c.asked (left v x)) → AreOfHome (caller_home_at rh masks) h x.journal.entries
    homes-own v h x came own =
        each-own (λ e. caller_home_at rh masks (caller_of e) ≡ h) (λ n. has_caller (scripts_of c x.seats.items) n) x.journal.entries
        (λ e who.
        let m = map_from (caller_home rh) masks (caller_of e) h (who-home v h x came (caller_of e) who) in
        ap (caller_home rh) (get_or_from_slice_get masks (caller_of e) m.0 0 m.1) ∙ m.2) own

    -- the journals of the homes from this one on, one after the other
    from-home : (v : CoreState S) (h : ℕ) (xs : List (ClosedCore P C)) → AreRan h xs → AreOwn (map (part_of c.asked) (map (left v) xs))
        → AreFrom (caller_home_at rh masks) h (flat_map (λ y. y.journal.entries) xs)
    from-home v h [] are own = λ i e at. absurd (let f : None ≡ Some e = at in cc)
    from-home v h (x ∷ xs) are own =
        from-both (caller_home_at rh masks) h x.journal.entries (flat_map (λ y. y.journal.entries) xs)
        (λ i e at. let is = homes-own v h x are.0 own.0 i e at in omega (arith, is))
        (λ i e at. let le = from-home v (h + 1) xs are.1 own.1 i e at in omega (arith, le))

    by-homes : (v : CoreState S) (h : ℕ) (xs : List (ClosedCore P C)) → AreRan h xs → AreOwn (map (part_of c.asked) (map (left v) xs))
        → AreByHomes (caller_home_at rh masks) (flat_map (λ y. y.journal.entries) xs)
    by-homes v h [] are own = λ i j e f le at to. absurd (let g : None ≡ Some e = at in cc)
    by-homes v h (x ∷ xs) are own =
        by-both (caller_home_at rh masks) h x.journal.entries (flat_map (λ y. y.journal.entries) xs) (homes-own v h x are.0 own.0)
        (λ i e at. let le = from-home v (h + 1) xs are.1 own.1 i e at in omega (arith, le)) (by-homes v (h + 1) xs are.1 own.1)

    -- the groups' journals stand one after the other
    pub are-groups : IsTree b → (v : CoreState S) → IsTrue p.tells
        → (ss : List (Share P C)) (xs : List (ClosedCore P C)) (x : ClosedCore P C) → map (λ s. s.ports.items) ss ≡ parts_by rh many ports
        → map (λ s. s.callers.items) ss ≡ parts_by ch many callers
        → AllZip (λ s y. CameOut p c b s.ports.items s.callers.items y) ss xs
        → x.ports.items ≡ joined_by rh (map (λ y. y.ports.items) xs) → x.seats.items ≡ joined_by ch (map (λ y. y.seats.items) xs)
        → x.journal.entries ≡ flat_map (λ y. y.journal.entries) xs
        → scripts_of c x.seats.items ≡ scripts → AreByHomes (caller_home_at rh masks) x.journal.entries
    are-groups tree v tell ss xs x ports_of callers_of ran ps se es same =
        let are : AreRan 0 xs = ran-from ss xs 0 many ports_of callers_of ran in
        let own = (joins c.asked p.tells b scripts tree (map (left v) xs) (groups-from v 0 xs are) (apart-from v 0 xs are) (left v x)
        (whole v x xs ps se es) same tell).own in
        subst (AreByHomes (caller_home_at rh masks)) (sym es) (by-homes v 0 xs are own)

-- so many cores were opened
pub begun-count : {P C S : Type 0} (p : PortGhosts P) (c : CallerGhosts C S) (b : BoardView) (homes callers_at : List ℕ) (many : ℕ)
    (ports : List (ℕ × P))
    (callers : List (ℕ × C)) (os : List (Option (CoreState S)))
    → AreBegun p c b homes callers_at many ports callers os → length os ≡ many
begun-count p c b homes callers_at many ports callers os begun =
    sym (zip-length (λ s o. IsOpenedWith p c b s o) begun.shares os begun.opened) ∙ sym (length-map begun.shares (λ s. s.ports.items))
    ∙ ap length begun.ports_of ∙ length-map-range_with_len (λ h. of_home homes h ports) 0 many

-- so many cores were opened, and ran
pub ran-count : {P C S Y : Type 0} (p : PortGhosts P) (c : CallerGhosts C S) (b : BoardView) (homes callers_at : List ℕ) (many : ℕ)
    (ports : List (ℕ × P)) (callers : List (ℕ × C)) (core : Y → Option (CoreState S)) (old new : List Y)
    → AreBegun p c b homes callers_at many ports callers (map core old) → AllZip (λ o n. HasRun c.asked p.tells (core o) (core n)) old new
    → length new ≡ many
ran-count p c b homes callers_at many ports callers core old new begun ran =
    sym (zip-length (λ o n. HasRun c.asked p.tells (core o) (core n)) old new ran) ∙ sym (length-map old core)
    ∙ begun-count p c b homes callers_at many ports callers (map core old) begun

-- each is there when it ran
pub all-full : {P C S Y : Type 0} (p : PortGhosts P) (c : CallerGhosts C S) (b : BoardView) (core : Y → Option (CoreState S))
    (ss : List (Share P C))
    (xs ys : List Y)
    → AllZip (λ s o. IsOpenedWith p c b s o) ss (map core xs) → AllZip (λ x y. HasRun c.asked p.tells (core x) (core y)) xs ys
    → All (λ y. IsSome (core y)) ys
all-full p c b core ss [] [] a r = λ k d low. absurd (omega (arith, low))
all-full p c b core ss [] (y ∷ ys) a r = absurd r
all-full p c b core ss (x ∷ xs) [] a r = absurd r
all-full p c b core [] (x ∷ xs) (y ∷ ys) a r = absurd a
all-full {P} {C} {S} {Y} p c b core (s ∷ ss) (x ∷ xs) (y ∷ ys) a r =
    All-cons (λ z. IsSome (core z)) y ys (by (core x) (core y) a.0 r.0) (all-full p c b core ss xs ys a.1 r.1)
  where
    by : (o n : Option (CoreState S)) → IsOpenedWith p c b s o → HasRun c.asked p.tells o n → IsSome n
    by None n opened ran = absurd opened
    by (Some v) None opened ran = absurd ran
    by (Some v) (Some w) opened ran = search rules
