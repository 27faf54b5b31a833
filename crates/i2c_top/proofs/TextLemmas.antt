-- Scripts that are opened with texts, as callers: they are ready, what is left of them is what their texts cost, and their run is that
-- of their texts. The inductions go over the scripts.
use Rattle.i2c_top.proofs.Cited.{◌≡◌, ℕ, ◌+◌, ◌≤◌, List, [], ◌∷◌, length, map, Option, Some, None, refl, sym, ◌∙◌, ap, subst, sum_by, arith}
use Rattle.i2c_top.proofs.Cited.{slice_get, option_map, option_map_or, length-map, All-head, All-tail, sum_by-cons, slice_get-map, Entry}
use Rattle.i2c_top.proofs.Cited.{PortCall, Reply, BoardView, MOST_CALLERS, Asks, TargetState, report_of, IsOpened, ScriptsAreFair, asked_by}
use Rattle.i2c_top.proofs.Cited.{left_of, commands_of, section_text, CallerView, ScriptView, script_on, left_at_first, asks_in, printed_in}
use Rattle.i2c_top.proofs.Cited.{scripts_in, AreReady, left_in, IsRunBy, AreFresh, MayRun, MOST_COST, asks_by, printed_by, script_row}
use Rattle.i2c_top.proofs.Cited.{AreOpened, texts_of, cost_of_texts}
use Rattle.ports.specs.declared.port.Port.{Ghosts as PortGhosts}
use Rattle.i2c_top.specs.Runs.{report_by, IsRunOf}
use Rattle.i2c_top.proofs.CostLemmas.{cost_of_opened, costs_are}

pub opened-ready : (b : BoardView) (scripts : List CallerView) → AreOpened b scripts → AreReady script_row b scripts
opened-ready b scripts opened i d low = (let o = opened i d low in (o.board_is, o.untaken))

-- what is left of scripts that have taken nothing is what they cost
left-costs : (scripts : List CallerView) → left_in script_row scripts ≡ sum_by cost_of_opened scripts
left-costs [] = refl
left-costs (s ∷ ss) =
    sum_by-cons (λ (x : CallerView). left_of x.script []) s ss
    ∙ ap (λ (n : ℕ). n + sum_by (λ (x : CallerView). left_of x.script []) ss) (left_at_first s.script)
    ∙ ap (λ (n : ℕ). cost_of_opened s + n) (left-costs ss) ∙ sym (sum_by-cons cost_of_opened s ss)

pub opened-left : (b : BoardView) (scripts : List CallerView) → AreOpened b scripts
    → left_in script_row scripts ≡ cost_of_texts b (texts_of scripts)
opened-left b scripts opened = left-costs scripts ∙ costs_are b scripts opened

-- so they may run with that for a limit
pub may-run-scripts : {P : Type 0} (g : PortGhosts P) (b : BoardView) (scripts : List CallerView) → AreOpened b scripts → (ports : List P)
    (limit : ℕ) → limit ≡ cost_of_texts b (texts_of scripts) → ScriptsAreFair → length scripts ≤ MOST_CALLERS
    → cost_of_texts b (texts_of scripts) ≤ MOST_COST → AreFresh g b ports → MayRun g script_row b scripts ports limit
may-run-scripts g b scripts opened ports limit is fair few cheap fresh =
    record {
      ready = opened-ready b scripts opened;
      fair = fair;
      few = few;
      covered = (let left = opened-left b scripts opened in omega (arith, left, is));
      cheap = omega (arith, is, cheap);
      fresh = fresh;
    }

-- they were opened with their texts
pub opened-scripts : (b : BoardView) (scripts : List CallerView) → AreOpened b scripts
    → scripts_in script_row scripts ≡ map (script_on b) (texts_of scripts)
opened-scripts b [] opened = refl
opened-scripts b (s ∷ ss) opened =
    ap (λ (k : BoardView). script_on k s.script.text ∷ scripts_in script_row ss)
    (All-head (λ x. IsOpened b x.script.text x) s ss opened).board_is
    ∙ ap (λ (ks : List ScriptView). script_on b s.script.text ∷ ks)
    (opened-scripts b ss (All-tail (λ x. IsOpened b x.script.text x) s ss opened))

-- what is told of each, by what it was opened with, and of nobody else
abbrev pub told_in : {S V : Type 0} → (S → List Reply → V) → V → List S → ℕ → List Reply → V
told_in tell none xs c rs = option_map_or (λ s. tell s rs) (slice_get xs c) none

pub told-mapped : {X S V : Type 0} (tell : S → List Reply → V) (none : V) (f : X → S) (xs : List X)
    → told_in tell none (map f xs) ≡ told_in (λ x. tell (f x)) none xs
told-mapped {X} {S} {V} tell none f xs = λ i. λ c rs. each c rs i
  where
    by : (rs : List Reply) (o : Option X)
        → option_map_or (λ s. tell s rs) (option_map f o) none ≡ option_map_or (λ x. tell (f x) rs) o none
    by rs None = refl
    by rs (Some x) = refl

    each : (c : ℕ) (rs : List Reply) → told_in tell none (map f xs) c rs ≡ told_in (λ x. tell (f x)) none xs c rs
    each c rs = ap (λ (o : Option S). option_map_or (λ s. tell s rs) o none) (slice_get-map f xs c) ∙ by rs (slice_get xs c)

-- a script prints its section
abbrev pub section_by : ScriptView → List Reply → List ℕ
section_by s rs = section_text (commands_of s) rs

module _ (b : BoardView) (texts : List (List ℕ)) where
  asks-mapped : asks_in asked_by (map (script_on b) texts) ≡ asks_by b texts
  asks-mapped = told-mapped asked_by None (script_on b) texts

  printed-mapped : printed_in section_by (map (script_on b) texts) ≡ printed_by b texts
  printed-mapped = told-mapped section_by [] (script_on b) texts

  module _ (scripts : List ScriptView) (are : scripts ≡ map (script_on b) texts) where
    pub count-of-texts : length scripts ≡ length texts
    count-of-texts = ap (λ (ss : List ScriptView). length ss) are ∙ length-map texts (script_on b)

    pub asks-of-texts : asks_in asked_by scripts ≡ asks_by b texts
    asks-of-texts = ap (asks_in asked_by) are ∙ asks-mapped

    pub printed-of-texts : printed_in section_by scripts ≡ printed_by b texts
    printed-of-texts = ap (printed_in section_by) are ∙ printed-mapped

    -- their report is that of the texts, and so is their run
    pub report-of-texts : (journal : List Entry) → report_of (printed_in section_by scripts)
        (length scripts) journal ≡ report_by b texts journal
    report-of-texts journal =
        ap (λ (p : ℕ → List Reply → List ℕ). report_of p (length scripts) journal) printed-of-texts
        ∙ ap (λ (n : ℕ). report_of (printed_by b texts) n journal) count-of-texts

    pub run-of-texts : (logs : List (List PortCall)) (states : List TargetState) (counts : List ℕ) (journal : List Entry)
        → IsRunBy b (length scripts) (asks_in asked_by scripts) logs states counts journal → IsRunOf b texts logs states counts journal
    run-of-texts logs states counts journal run =
        subst (λ (n : ℕ). IsRunBy b n (asks_by b texts) logs states counts journal) count-of-texts
        (subst (λ (a : Asks). IsRunBy b (length scripts) a logs states counts journal) asks-of-texts run)
