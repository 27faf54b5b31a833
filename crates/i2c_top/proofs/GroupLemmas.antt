-- Scripts over groups: each names by its bits what its transfers name, and has left what it costs. The inductions go over the scripts.
use Rattle.i2c_top.proofs.Cited.{◌≡◌, ℕ, zero, suc, ◌+◌, ◌<◌, ◌≤◌, true, IsTrue, List, [], ◌∷◌, length, map, sum_by, Some, None, Result, Ok}
use Rattle.i2c_top.proofs.Cited.{Err, refl, sym, ◌∙◌, ap, subst, arith, IfOk, slice_get, enumerate_from, range_with_len, AllZip, length-map}
use Rattle.i2c_top.proofs.Cited.{All-head, All-tail, sum_by-cons, Entry, BoardView, MOST_CALLERS, map_from, IsFairCaller, IsPlainBoard}
use Rattle.i2c_top.proofs.Cited.{MeetsRules, root_of, roots_of, callers_scripts, scripts_of, HaveRun, one_of, Ran, zip-length, IsOpened}
use Rattle.i2c_top.proofs.Cited.{board_of, HasRoots, asked_by, left_of, commands_of, cost_of_script, CallerView, script_on, left_at_first}
use Rattle.i2c_top.proofs.Cited.{AreFresh, IsLeftOf, script_row, AreOpened, texts_of, cost_of_texts, MOST_COST, IsOfGroups}
use Rattle.std.specs.Prelude.{◌==◌}
use Rattle.ports.specs.declared.port.Port.{Ghosts as PortGhosts}
use Rattle.i2c_spec.specs.Tree.{buses}
use Rattle.bus_groups.specs.Homes.{names, homes_of, caller_home_at, AreByHomes}
use Rattle.bus_groups.specs.Rounds.{AreNamed, MayRun, no_core}
use Rattle.caller_core.proofs.NameLemmas.{asked_named}
use Rattle.i2c_top.proofs.CoreLemmas.{numbered-at, may-open, core-over, scripts-same, ports-count}
use Rattle.i2c_top.proofs.TextLemmas.{opened-ready, opened-left}

-- each script names its roots by these bits
abbrev pub AreMasks : List CallerView → List ℕ → Type 0
AreMasks scripts masks = AllZip (λ s mask. HasRoots s.script.board (commands_of s.script) mask) scripts masks

zip-get : {X Y : Type 0} (R : X → Y → Type 0) (xs : List X) (ys : List Y) (i : ℕ) (x : X) (y : Y) → AllZip R xs ys
    → slice_get xs i ≡ Some x → slice_get ys i ≡ Some y → R x y
zip-get R [] ys i x y are at to = absurd (let f : None ≡ Some x = at in cc)
zip-get R (a ∷ as_) [] i x y are at to = absurd are
zip-get R (a ∷ as_) (b ∷ bs) zero x y are at to =
    let f : Some a ≡ Some x = at in
    let g : Some b ≡ Some y = to in
    let e : a ≡ x = cc in
    let h : b ≡ y = cc in
    subst (λ k. R x k) h (subst (λ k. R k b) e are.0)
zip-get R (a ∷ as_) (b ∷ bs) (suc i) x y are at to = zip-get R as_ bs i x y are.1 at to

opened-at : (b : BoardView) (scripts : List CallerView) (i : ℕ) (s : CallerView) → AreOpened b scripts → slice_get scripts i ≡ Some s
    → IsOpened b s.script.text s
opened-at b [] i s all at = absurd (let f : None ≡ Some s = at in cc)
opened-at b (y ∷ ys) zero s all at =
    let f : Some y ≡ Some s = at in
    let e : y ≡ s = cc in
    subst (λ k. IsOpened b k.script.text k) e (All-head (λ k. IsOpened b k.script.text k) y ys all)
opened-at b (y ∷ ys) (suc i) s all at = opened-at b ys i s (All-tail (λ k. IsOpened b k.script.text k) y ys all) at

are-named : (b : BoardView) (scripts : List CallerView) (masks : List ℕ) → AreOpened b scripts → AreMasks scripts masks
    → AreNamed script_row b masks (enumerate_from 0 scripts)
are-named b scripts masks opened has i m x rs t at to asks bus =
    let r = numbered-at 0 scripts i x to in
    let board : x.1.script.board ≡ b = (opened-at b scripts i x.1 opened r.1).board_is in
    let bits = zip-get (λ s mask. HasRoots s.script.board (commands_of s.script) mask) scripts masks i x.1 m has r.1 at in
    subst (λ (k : BoardView). names m (root_of k t.bus) ≡ true) board
    (ap (λ k. k == 1) (asked_named x.1.script.board (commands_of x.1.script) m rs t bits asks
    (subst (λ (k : BoardView). t.bus < buses k) (sym board) bus)))

firsts-count : {X : Type 0} (n : ℕ) (xs : List X) → map (λ (y : ℕ × X). y.0) (enumerate_from n xs) ≡ range_with_len n (length xs)
firsts-count n [] = refl
firsts-count n (x ∷ xs) = ap (λ (ns : List ℕ). n ∷ ns) (firsts-count (n + 1) xs)

-- what they cost, one by one and all together
abbrev pub costs_in : List CallerView → List ℕ
costs_in scripts = map (λ (s : CallerView). cost_of_script s.script) scripts

costs-sum : (b : BoardView) (scripts : List CallerView) → AreOpened b scripts
    → sum_by (λ n. n) (costs_in scripts) ≡ cost_of_texts b (texts_of scripts)
costs-sum b [] opened = refl
costs-sum b (s ∷ ss) opened =
    let rest = costs-sum b ss (All-tail (λ k. IsOpened b k.script.text k) s ss opened) in
    let first = sum_by-cons (λ (n : ℕ). n) (cost_of_script s.script) (costs_in ss) in
    let same : cost_of_script s.script ≡ cost_of_script (script_on b s.script.text) =
    ap (λ (k : BoardView). cost_of_script (script_on k s.script.text)) (All-head (λ k. IsOpened b k.script.text k) s ss opened).board_is in
    let all = sum_by-cons (λ text. cost_of_script (script_on b text)) s.script.text (texts_of ss) in
    omega (arith, rest, first, same, all)

-- none costs more than all
pub cost_fits : (b : BoardView) (scripts : List CallerView) (i : ℕ) (s : CallerView) → AreOpened b scripts
    → cost_of_texts b (texts_of scripts) ≤ MOST_COST → slice_get scripts i ≡ Some s → cost_of_script s.script ≤ MOST_COST
cost_fits b scripts i s opened cheap at = by scripts i at (let all = costs-sum b scripts opened in omega (arith, all, cheap))
  where
    by : (ss : List CallerView) (i : ℕ) → slice_get ss i ≡ Some s → sum_by (λ n. n) (costs_in ss) ≤ MOST_COST
        → cost_of_script s.script ≤ MOST_COST
    by [] i at le = absurd (let f : None ≡ Some s = at in cc)
    by (y ∷ ys) zero at le =
        let f : Some y ≡ Some s = at in
        let e : y ≡ s = cc in
        let first = sum_by-cons (λ (n : ℕ). n) (cost_of_script y.script) (costs_in ys) in
        let same = ap (λ (k : CallerView). cost_of_script k.script) e in
        omega (arith, first, le, same)
    by (y ∷ ys) (suc i) at le =
        by ys i at (let first = sum_by-cons (λ (n : ℕ). n) (cost_of_script y.script) (costs_in ys) in omega (arith, first, le))

-- scripts and fresh ports by their numbers may run in groups
pub may-run : {P : Type 0} (g : PortGhosts P) (b : BoardView) → IsPlainBoard b → (scripts : List CallerView) → AreOpened b scripts
    → length scripts ≤ MOST_CALLERS → cost_of_texts b (texts_of scripts) ≤ MOST_COST → (ports : List P) → AreFresh g b ports
    → IsFairCaller asked_by left_of board_of → (masks : List ℕ) → AreMasks scripts masks
    → MayRun g script_row b masks (costs_in scripts) (enumerate_from 0 ports) (enumerate_from 0 scripts)
may-run g b plain scripts opened few cheap ports fresh fair masks has =
    let same : length scripts ≡ length masks =
    zip-length (λ s mask. HasRoots s.script.board (commands_of s.script) mask) scripts masks has in
    record {
      may = may-open g script_row b plain scripts (opened-ready b scripts opened) ports (sum_by (λ n. n) (costs_in scripts)) few fresh.count
          fresh.idle fresh.empty fresh.worlds fair
          (let sum = costs-sum b scripts opened in let left = opened-left b scripts opened in omega (arith, sum, left))
          (let sum = costs-sum b scripts opened in omega (arith, sum, cheap));
      roots = firsts-count 0 ports ∙ ap (range_with_len 0) fresh.count;
      numbers = firsts-count 0 scripts ∙ ap (range_with_len 0) same;
      few = omega (arith, same, few);
      named = are-named b scripts masks opened has;
      costs_count = length-map scripts (λ s. cost_of_script s.script) ∙ same;
      covered = λ i n x at to.
          let r = numbered-at 0 scripts i x to in
          let y = map_from (λ (s : CallerView). cost_of_script s.script) scripts i n at in
          let both : Some y.0 ≡ Some x.1 = sym y.1 ∙ r.1 in
          let one : y.0 ≡ x.1 = cc in
          let cost : cost_of_script x.1.script ≡ n = ap (λ (s : CallerView). cost_of_script s.script) (sym one) ∙ y.2 in
          let left = left_at_first x.1.script in
          omega (arith, cost, left);
    }

-- their groups are those of their texts
of-groups : (b : BoardView) (scripts : List CallerView) (masks : List ℕ) (journal : List Entry) → AreOpened b scripts
    → AreMasks scripts masks → AreByHomes (caller_home_at (homes_of (length b.roots) masks) masks) journal
    → IsOfGroups b (texts_of scripts) journal
of-groups b scripts masks journal opened has ordered =
    record { masks = masks; named = by scripts masks opened has; ordered = ordered }
  where
    by : (ss : List CallerView) (ms : List ℕ) → AreOpened b ss → AreMasks ss ms
        → AllZip (λ text mask. HasRoots b (commands_of (script_on b text)) mask) (texts_of ss) ms
    by [] [] opened has = tt
    by [] (m ∷ ms) opened has = absurd has
    by (s ∷ ss) [] opened has = absurd has
    by (s ∷ ss) (m ∷ ms) opened has = (
      subst (λ (k : BoardView). HasRoots k (commands_of (script_on k s.script.text)) m)
          (All-head (λ k. IsOpened b k.script.text k) s ss opened).board_is has.0,
      by ss ms (All-tail (λ k. IsOpened b k.script.text k) s ss opened) has.1,
    )

-- scripts and ports that came out of a run in groups
pub ran-left : {P E : Type 0} (g : PortGhosts P) (b : BoardView) → IsPlainBoard b → MeetsRules b → (scripts : List CallerView)
    → (ports : List P) → length ports ≡ length b.roots → (by_root : List (ℕ × P)) (by_number : List (ℕ × CallerView))
    → by_root ≡ enumerate_from 0 ports → by_number ≡ enumerate_from 0 scripts → (masks : List ℕ)
    → (r : Result (Ran P CallerView) E) → IfOk r (HaveRun g script_row b masks by_root by_number)
    → IfOk r (λ x. IsLeftOf g script_row b scripts ports (one_of x))
ran-left g b plain rules scripts ports count by_root by_number roots_are numbers_are masks (Ok x) run =
    let same : scripts_of script_row x.seats.items ≡ map (λ (y : ℕ × CallerView). (y.0, y.1.script)) (enumerate_from 0 scripts) =
    run.came.scripts ∙ ap (callers_scripts script_row) numbers_are in
    let roots : roots_of x.ports.items ≡ roots_of (enumerate_from 0 ports) = run.came.roots ∙ ap roots_of roots_are in
    record {
      over = λ tells. core-over g script_row b (one_of x) scripts same ports (no_core b) plain rules (run.came.told (no_core b))
          (run.came.through (no_core b)) roots count tells;
      scripts = scripts-same g script_row b (one_of x) scripts same;
      count = ports-count (one_of x) ports roots;
    }
ran-left g b plain rules scripts ports count by_root by_number roots_are numbers_are masks (Err e) run = tt

-- .. and their journals stand by the groups of their texts
pub ran-groups : {P E : Type 0} (g : PortGhosts P) (b : BoardView) (scripts : List CallerView) → AreOpened b scripts
    → (by_root : List (ℕ × P)) (by_number : List (ℕ × CallerView)) (masks : List ℕ) → AreMasks scripts masks → IsTrue g.tells
    → (r : Result (Ran P CallerView) E) → IfOk r (HaveRun g script_row b masks by_root by_number)
    → IfOk r (λ x. IsOfGroups b (texts_of scripts) (one_of x).journal.entries)
ran-groups g b scripts opened by_root by_number masks has tells (Ok x) run =
    of-groups b scripts masks (one_of x).journal.entries opened has (run.groups tells)
ran-groups g b scripts opened by_root by_number masks has tells (Err e) run = tt
