-- Scripts behind translators, as callers: they are ready, what is left of them is at most what their texts cost, and their run is that of
-- what their texts ask for, translated. The inductions go over the scripts.
use Rattle.i2c_top.proofs.Cited.{◌≡◌, ℕ, ◌≤◌, List, [], ◌∷◌, length, map, Option, Some, None, refl, sym, ◌∙◌, ap, subst, sum_by, arith}
use Rattle.i2c_top.proofs.Cited.{slice_get, option_map, option_map_or, length-map, All-head, All-map, All-tail, sum_by-cons, AtrCallerView}
use Rattle.i2c_top.proofs.Cited.{lowered, MapView, PortCall, Reply, BoardView, Asks, IsPlainBoard, MeetsRules, TargetState, report_of}
use Rattle.i2c_top.proofs.Cited.{IsOpened, commands_of, cost_of_script, section_text, CallerView, script_on, asks_in, printed_in}
use Rattle.i2c_top.proofs.Cited.{scripts_in, AreReady, left_in, HasRunOfAny, IsRunBy, AreOpened, asks_by, printed_by, texts_of}
use Rattle.i2c_top.proofs.Cited.{cost_of_texts, behind_of, HasAtrRun, Result, Ok, Err, IfOk, Status}
use Rattle.addr_atr.specs.Callers.{AtrView, data_of, board_of, asked_by, left_of, owed_by}
use Rattle.addr_atr.specs.Lowering.{translated}
use Rattle.addr_atr.specs.Runs.{translated_asks}
use Rattle.i2c_base.specs.declared.caller.Caller.{Ghosts as CallerGhosts}
use Rattle.caller_core.specs.Scripts.{asked_by as script_asked}
use Rattle.i2c_top.proofs.CostLemmas.{cost_of_opened, costs_are}
use Rattle.i2c_top.proofs.TextLemmas.{told_in, told-mapped}

abbrev pub atr_row : CallerGhosts AtrCallerView AtrView
atr_row = record {
  script = data_of;
  board = board_of;
  taken = λ c. c.script.taken;
  asked = asked_by;
  left = left_of;
  owed = owed_by;
  spare = λ c. c.script.spare;
}

-- it prints what its script prints over the board as written
abbrev pub section_by : AtrView → List Reply → List ℕ
section_by s rs = section_text (commands_of s.script) rs

-- what a script of this text is opened with
abbrev atr_on : MapView → List ℕ → AtrView
atr_on m text = record { script = script_on m.board text; translators = m.translators }

pub behind-ready : (m : MapView) (scripts : List CallerView) → AreOpened m.board scripts
    → AreReady atr_row (lowered m.board m.translators) (map (behind_of m) scripts)
behind-ready m scripts opened =
    All-map (λ (c : AtrCallerView). (board_of (data_of c) ≡ lowered m.board m.translators) × (c.script.taken ≡ [])) (behind_of m) scripts
    (λ i d low. let o = opened i d low in (ap (λ (k : BoardView). lowered k m.translators) o.board_is, o.untaken))

-- what is left of each that has taken nothing is at most what its script costs
module _ (m : MapView) (plain : IsPlainBoard m.board) (rules : MeetsRules m.board)
    (covered : (s : AtrView) → IsPlainBoard s.script.board → MeetsRules s.script.board → left_of s [] ≤ cost_of_script s.script) where
  left-below : (scripts : List CallerView) → AreOpened m.board scripts
      → left_in atr_row (map (behind_of m) scripts) ≤ sum_by cost_of_opened scripts
  left-below [] opened = omega arith
  left-below (s ∷ ss) opened =
      let o = All-head (λ x. IsOpened m.board x.script.text x) s ss opened in
      let one : left_of (data_of (behind_of m s)) [] ≤ cost_of_opened s =
      covered (data_of (behind_of m s)) (subst IsPlainBoard (sym o.board_is) plain) (subst MeetsRules (sym o.board_is) rules) in
      let rest = left-below ss (All-tail (λ x. IsOpened m.board x.script.text x) s ss opened) in
      let lefts = sum_by-cons (λ (c : AtrCallerView). left_of (data_of c) []) (behind_of m s) (map (behind_of m) ss) in
      let costs = sum_by-cons cost_of_opened s ss in
      omega (arith, one, rest, lefts, costs)

  pub behind-covered : (scripts : List CallerView) → AreOpened m.board scripts
      → left_in atr_row (map (behind_of m) scripts) ≤ cost_of_texts m.board (texts_of scripts)
  behind-covered scripts opened =
      let below = left-below scripts opened in let same = costs_are m.board scripts opened in omega (arith, below, same)

-- they were opened with their texts
behind-scripts : (m : MapView) (scripts : List CallerView) → AreOpened m.board scripts
    → scripts_in atr_row (map (behind_of m) scripts) ≡ map (atr_on m) (texts_of scripts)
behind-scripts m [] opened = refl
behind-scripts m (s ∷ ss) opened =
    ap (λ (k : BoardView). record { script = script_on k s.script.text; translators = m.translators } ∷ scripts_in atr_row
    (map (behind_of m) ss))
    (All-head (λ x. IsOpened m.board x.script.text x) s ss opened).board_is
    ∙ ap (λ (vs : List AtrView). atr_on m s.script.text ∷ vs)
    (behind-scripts m ss (All-tail (λ x. IsOpened m.board x.script.text x) s ss opened))

module _ (m : MapView) (texts : List (List ℕ)) where
  asks-after : told_in (λ text. asked_by (atr_on m text)) None texts ≡ translated_asks m.board m.translators (asks_by m.board texts)
  asks-after = λ i. λ c rs. by rs (slice_get texts c) i
    where
      by : (rs : List Reply) (o : Option (List ℕ))
          → option_map_or (λ text. asked_by (atr_on m text) rs) o None
          ≡ option_map (translated m.board m.translators) (option_map_or (λ text. script_asked (script_on m.board text) rs) o None)
      by rs None = refl
      by rs (Some text) = refl

  module _ (views : List AtrView) (are : views ≡ map (atr_on m) texts) where
    count : length views ≡ length texts
    count = ap (λ (vs : List AtrView). length vs) are ∙ length-map texts (atr_on m)

    asks : asks_in asked_by views ≡ translated_asks m.board m.translators (asks_by m.board texts)
    asks = ap (asks_in asked_by) are ∙ told-mapped asked_by None (atr_on m) texts ∙ asks-after

    printed : printed_in section_by views ≡ printed_by m.board texts
    printed = ap (printed_in section_by) are ∙ told-mapped section_by [] (atr_on m) texts

    translated-run : (words bytes : List ℕ) (logs : List (List PortCall)) (states : List TargetState) (counts : List ℕ)
        → HasRunOfAny asked_by section_by (lowered m.board m.translators) views words bytes logs states counts
        → HasAtrRun m texts words bytes logs states counts
    translated-run words bytes logs states counts run =
        record {
          journal = run.journal;
          is_told = run.is_told
              ∙ ap (λ (p : ℕ → List Reply → List ℕ). report_of p (length views) run.journal) printed
              ∙ ap (λ (n : ℕ). report_of (printed_by m.board texts) n run.journal) count;
          is_run = subst (λ (n : ℕ). IsRunBy (lowered m.board m.translators) n
              (translated_asks m.board m.translators (asks_by m.board texts)) logs states counts run.journal) count
              (subst (λ (a : Asks). IsRunBy (lowered m.board m.translators) (length views) a logs states counts run.journal) asks
              run.is_run);
          ordered = run.ordered;
        }

-- the run of callers behind translators is that of their texts
behind-run : (m : MapView) (scripts : List CallerView) → AreOpened m.board scripts → (words bytes : List ℕ)
    (logs : List (List PortCall))
    (states : List TargetState) (counts : List ℕ)
    → HasRunOfAny asked_by section_by (lowered m.board m.translators)
    (scripts_in atr_row (map (behind_of m) scripts)) words bytes logs states counts
    → HasAtrRun m (texts_of scripts) words bytes logs states counts
behind-run m scripts opened =
    translated-run m (texts_of scripts) (scripts_in atr_row (map (behind_of m) scripts)) (behind-scripts m scripts opened)

-- .. as what came of it is told
pub behind-ran : (m : MapView) (scripts : List CallerView) → AreOpened m.board scripts → {b : BoardView} {callers : List AtrCallerView}
    {listed words : List ℕ} (logs : List (List PortCall)) (states : List TargetState) (counts : List ℕ)
    → b ≡ lowered m.board m.translators → callers ≡ map (behind_of m) scripts → listed ≡ words → (r : Result (List ℕ) Status)
    → IfOk r (λ bytes. HasRunOfAny asked_by section_by b (scripts_in atr_row callers) listed bytes logs states counts)
    → IfOk r (λ bytes. HasAtrRun m (texts_of scripts) words bytes logs states counts)
behind-ran m scripts opened {b} {callers} {listed} {words} logs states counts board are same (Ok bytes) run =
    let of = λ (k : BoardView) (cs : List AtrCallerView) (ws : List ℕ).
    HasRunOfAny asked_by section_by k (scripts_in atr_row cs) ws bytes logs states counts in
    behind-run m scripts opened words bytes logs states counts
    (subst (of (lowered m.board m.translators) (map (behind_of m) scripts)) same
    (subst (λ (cs : List AtrCallerView). of (lowered m.board m.translators) cs listed) are
    (subst (λ (k : BoardView). of k callers listed) board run)))
behind-ran m scripts opened logs states counts board are same (Err e) run = tt
