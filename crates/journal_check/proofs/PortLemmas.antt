-- Gaps that are used up call by call, the log of a port that fails by them, and the ports of all roots.
use Rattle.journal_check.proofs.Cited.{◌≡◌, ℕ, zero, suc, ◌+◌, ◌-◌, ◌<◌, List, [], ◌∷◌, ◌++◌, length, length-append, append_assoc}
use Rattle.journal_check.proofs.Cited.{append-nil, map, All, Some, refl, sym, ◌∙◌, ap, subst, arith, slice_get, range_with_len, All-nil}
use Rattle.journal_check.proofs.Cited.{All-cons, Entry, BoardView, PortCall, World, PortView, gaps_told, IsGapsOf, RootGaps}
use Rattle.std.specs.List.{enumerate_from}
use Rattle.std.proofs.lemmas.List.FromFn.{length-enumerate_from, length-map-range_with_len}
use Rattle.i2c_base.specs.declared.port.Phase.TheVariants.{Idle}
use Rattle.i2c_base.specs.declared.port.PortCall.TheVariants as call
use Rattle.i2c_spec.specs.World.{opening_world}
use Rattle.i2c_physics.specs.SimPorts.{opening_port}
use Rattle.journal_check.specs.Ports.{AreOpeningPorts, opening_ports}

get_front : (log : List PortCall) (c : PortCall) (n : ℕ) → n < length log → slice_get (log ++ c ∷ []) n ≡ slice_get log n
get_front [] c n low = absurd (omega (arith, low))
get_front (d ∷ log) c zero low = refl
get_front (d ∷ log) c (suc n) low = get_front log c n (omega (arith, low))

-- THE PORTS OF ALL ROOTS, one root after the other
pub record AreOpened (b : BoardView) (all came rest : List RootGaps) (count : ℕ) (ports : List (ℕ × PortView)) : Type 0 where
  pub so_far : ports ≡ enumerate_from 0 (opening_ports b (length came))
  pub goes : came ++ rest ≡ all
  pub counted : count ≡ length rest

pub numbered-push : {X : Type 0} (n : ℕ) (xs : List X) (x : X) → enumerate_from n (xs ++ x ∷ []) ≡ enumerate_from n xs
    ++ (n + length xs, x) ∷ []
numbered-push n [] x = ap (λ (k : ℕ). (k, x) ∷ []) (omega arith)
numbered-push n (y ∷ xs) x = ap (λ (zs : List (ℕ × _)). (n, y) ∷ zs) (numbered-push (n + 1) xs x
    ∙ ap (λ (k : ℕ). enumerate_from (n + 1) xs ++ (k, x) ∷ []) (omega arith))

range-push : (f : ℕ → PortView) (n k : ℕ) → map f (range_with_len k (suc n)) ≡ map f (range_with_len k n) ++ f (k + n) ∷ []
range-push f zero k = ap (λ (m : ℕ). f m ∷ []) (omega arith)
range-push f (suc n) k =
    ap (λ (xs : List PortView). f k ∷ xs) (range-push f n (k + 1)
    ∙ ap (λ (m : ℕ). map f (range_with_len (k + 1) n) ++ f m ∷ []) (omega arith))

count-ports : (b : BoardView) (n : ℕ) → length (opening_ports b n) ≡ n
count-ports b n = length-map-range_with_len (opening_port b) 0 n

pub firsts : {X : Type 0} (n : ℕ) (xs : List X) → map (λ (p : ℕ × X). p.1) (enumerate_from n xs) ≡ xs
firsts n [] = refl
firsts {X} n (x ∷ xs) = ap (λ (ys : List X). x ∷ ys) (firsts (n + 1) xs)

at-front : (came : List RootGaps) (x : RootGaps) (rest : List RootGaps) → slice_get (came ++ x ∷ rest) (length came) ≡ Some x
at-front [] x rest = refl
at-front (y ∷ came) x rest = at-front came x rest

-- what is told of a root by all entries are its gaps
pub gaps-here : (b : BoardView) (es : List Entry) (r : ℕ) (x : RootGaps) → IsGapsOf b r es x → x.gaps.items ≡ gaps_told b es r
gaps-here b es r x told = sym (append-nil x.gaps.items) ∙ told [] ∙ ap (λ (fs : List Entry). gaps_told b fs r) (append-nil es)

module _ (b : BoardView) (all : List RootGaps) where
  pub opened-first : (count : ℕ) → count ≡ length all → AreOpened b all [] all count []
  opened-first count is = record { so_far = refl; goes = refl; counted = is }

  module _ (came items : List RootGaps) (count : ℕ) (ports : List (ℕ × PortView)) (opened : AreOpened b all came items count ports) where
    whole : (rest : List RootGaps) (x : RootGaps) → items ≡ x ∷ rest → came ++ x ∷ rest ≡ all
    whole rest x steps = ap (λ (xs : List RootGaps). came ++ xs) (sym steps) ∙ opened.goes

    pub opened-count : length ports ≡ length came
    opened-count =
        ap (λ (ps : List (ℕ × PortView)). length ps) opened.so_far ∙ length-enumerate_from 0 (opening_ports b (length came))
        ∙ count-ports b (length came)

    pub opened-here : (rest : List RootGaps) (x : RootGaps) → items ≡ x ∷ rest → slice_get all (length came) ≡ Some x
    opened-here rest x steps =
        ap (λ (xs : List RootGaps). slice_get xs (length came)) (sym (whole rest x steps)) ∙ at-front came x rest

    pub opened-next : (rest : List RootGaps) (x : RootGaps) (number less : ℕ) (more : List (ℕ × PortView))
        → items ≡ x ∷ rest → less + 1 ≡ count → number ≡ length came → more ≡ ports ++ (number, opening_port b number) ∷ []
        → AreOpened b all (came ++ x ∷ []) rest less more
    opened-next rest x number less more steps one is pushed =
        let n : ℕ = length came in
        let longer : length (came ++ x ∷ []) ≡ suc n = (let e : length (came ++ x ∷ []) ≡ n + 1 = length-append came (x ∷ []) in
        omega (arith, e)) in
        let counted : count ≡ length (x ∷ rest) = opened.counted ∙ ap (λ (xs : List RootGaps). length xs) steps in
        record {
          so_far = pushed ∙ ap (λ (k : ℕ). ports ++ (k, opening_port b k) ∷ []) is
              ∙ ap (λ (ps : List (ℕ × PortView)). ps ++ (n, opening_port b n) ∷ []) opened.so_far
              ∙ sym (ap (enumerate_from 0) (ap (opening_ports b) longer ∙ range-push (opening_port b) n 0)
              ∙ numbered-push 0 (opening_ports b n) (opening_port b (0 + n))
              ∙ ap (λ (k : ℕ). enumerate_from 0 (opening_ports b n) ++ (k, opening_port b (0 + n)) ∷ [])
              (let same = count-ports b n in let e : 0 + length (opening_ports b n) ≡ n = omega (arith, same) in e)
              ∙ ap (λ (k : ℕ). enumerate_from 0 (opening_ports b n) ++ (n, opening_port b k) ∷ []) (let z : 0 + n ≡ n = omega arith in z));
          goes = append_assoc came (x ∷ []) rest ∙ whole rest x steps;
          counted = omega (arith, one, counted);
        }

    pub opened-all : count ≡ 0 → length all ≡ length b.roots → AreOpeningPorts b ports
    opened-all none many =
        let empty : items ≡ [] = no-items items (sym opened.counted ∙ none) in
        let same : came ≡ all = sym (append-nil came) ∙ ap (λ (xs : List RootGaps). came ++ xs) (sym empty) ∙ opened.goes in
        let roots : length came ≡ length b.roots = ap (λ (xs : List RootGaps). length xs) same ∙ many in
        let alone : map (λ (p : ℕ × PortView). p.1) ports ≡ opening_ports b (length b.roots) =
        ap (map (λ (p : ℕ × PortView). p.1)) opened.so_far ∙ firsts 0 (opening_ports b (length came)) ∙ ap (opening_ports b) roots in
        record {
          numbered = opened.so_far ∙ ap (λ (k : ℕ). enumerate_from 0 (opening_ports b k)) roots ∙ sym (ap (enumerate_from 0) alone);
          count = ap (λ (ps : List PortView). length ps) alone ∙ count-ports b (length b.roots);
          idle = subst (λ (ps : List PortView). All (λ (p : PortView). p.phase ≡ Idle) ps) (sym alone)
              (each (λ p. p.phase ≡ Idle) (λ r. refl) (range_with_len 0 (length b.roots)));
          empty = subst (λ (ps : List PortView). All (λ (p : PortView). p.log ≡ []) ps) (sym alone)
              (each (λ p. p.log ≡ []) (λ r. refl) (range_with_len 0 (length b.roots)));
          worlds = ap (map (λ (p : PortView). p.world)) alone ∙ worlds-of (range_with_len 0 (length b.roots));
        }
      where
        no-items : (xs : List RootGaps) → length xs ≡ 0 → xs ≡ []
        no-items [] is = refl
        no-items (x ∷ xs) is = absurd (omega (arith, is))

        each : (P : PortView → Type 0) → ((r : ℕ) → P (opening_port b r)) → (rs : List ℕ) → All P (map (opening_port b) rs)
        each P holds [] = All-nil P
        each P holds (r ∷ rs) = All-cons P (opening_port b r) (map (opening_port b) rs) (holds r) (each P holds rs)

        worlds-of : (rs : List ℕ) → map (λ (p : PortView). p.world) (map (opening_port b) rs) ≡ map (opening_world b) rs
        worlds-of [] = refl
        worlds-of (r ∷ rs) = ap (λ (ws : List World). opening_world b r ∷ ws) (worlds-of rs)
