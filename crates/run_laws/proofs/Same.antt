-- Two runs with one journal come to the same; and two reports of the same files are runs of one board, scripts and schedule.
-- No induction.
use Rattle.run_laws.proofs.Cited.{◌≡◌, ℕ, List, length, map, reverse, Option, Some, None, refl, sym, ◌∙◌, ap, subst, range_with_len, Entry}
use Rattle.run_laws.proofs.Cited.{PortCall, BoardView, TargetState, History, history, order, calls_of, asks_by, HasRun, texts_in}
use Rattle.i2c_top.specs.Boards.{HasAccepted}
use Rattle.i2c_top.specs.Files.{Files}
use Rattle.i2c_top.specs.Runs.{IsRunOf}
use Rattle.i2c_top.specs.Schedules.{schedule_read}
use Rattle.i2c_top.specs.Scripts.{HasSchedule, HasOrder, words_in}
use Rattle.i2c_top.specs.forms.Replays.{Names, HasReport}
use Rattle.i2c_top.proofs.BoardLemmas.{one_board_in, one_text}
use Rattle.run_laws.specs.Alike.{ComesToTheSame}
use Rattle.run_laws.proofs.Ruled.{run-logs}

pub same-come : (told : List Entry → List ℕ) (b : BoardView) (texts : List (List ℕ)) (x y : List ℕ) (logs others : List (List PortCall))
    (states ends : List TargetState) (counts rises : List ℕ) (journal other : List Entry) → x ≡ told journal → y ≡ told other
    → IsRunOf b texts logs states counts journal → IsRunOf b texts others ends rises other → journal ≡ other
    → ComesToTheSame x y logs others states ends
same-come told b texts x y logs others states ends counts rises journal other x_told y_told one two same =
    let replayed : Some one.legal.replies_kept.told ≡ Some two.legal.replies_kept.told = sym one.legal.replies_kept.defined
    ∙ ap (λ (es : List Entry). history b (asks_by b texts) (order (reverse es))) same ∙ two.legal.replies_kept.defined in
    let histories : one.legal.replies_kept.told ≡ two.legal.replies_kept.told = cc in
    record {
      bytes = x_told ∙ ap told same ∙ sym y_told;
      logs_are = run-logs b (length texts) (asks_by b texts) logs states counts journal one
          ∙ ap (λ (es : List Entry). map (calls_of b (asks_by b texts) (reverse es)) (range_with_len 0 (length b.roots))) same
          ∙ sym (run-logs b (length texts) (asks_by b texts) others ends rises other two);
      states_are = one.left ∙ ap (λ (h : History). h.states) histories ∙ sym two.left;
    }

-- a schedule's file names its callers once
pub same_words : (file : Files) (name : List ℕ) (callers : ℕ) (h k : HasSchedule file name callers) → h.words ≡ k.words
same_words file name callers h k =
    let texts : h.text ≡ k.text = one_text (file name) h.text k.text h.there k.there in
    cc (h.read, k.read, ap (schedule_read callers) texts)

same_order : (file : Files) (schedule : Option (List ℕ)) (callers : ℕ) (h k : HasOrder file schedule callers)
    → words_in file schedule callers h ≡ words_in file schedule callers k
same_order file None callers h k = refl
same_order file (Some name) callers h k = ap (λ (words : List ℕ). Some words) (same_words file name callers h k)

-- where there is a schedule it has words
words_there : (file : Files) (schedule : Option (List ℕ)) (callers : ℕ) (name : List ℕ) → schedule ≡ Some name
    → (h : HasOrder file schedule callers) → (words : List ℕ) × (words_in file schedule callers h ≡ Some words)
words_there file None callers name is h = absurd (let f : None ≡ Some name = is in cc)
words_there file (Some own) callers name is h = (h.words, refl)

-- two runs of one board, and of the same scripts by the same schedule
pub record AreTwoRuns (x y : List ℕ) (logs others : List (List PortCall)) (states ends : List TargetState)
    (counts rises : List ℕ) : Type 0 where
  pub board : BoardView
  pub texts : List (List ℕ)
  pub words : List ℕ
  pub one : HasRun board texts (Some words) x logs states counts
  pub two : HasRun board texts (Some words) y others ends rises

pub two-runs : (file : Files) (names : Names) (schedule x y : List ℕ) (logs others : List (List PortCall)) (states ends : List TargetState)
    (counts rises : List ℕ) → names.schedule ≡ Some schedule → HasReport file names x logs states counts
    → HasReport file names y others ends rises → AreTwoRuns x y logs others states ends counts rises
two-runs file names schedule x y logs others states ends counts rises is one two =
    let callers : ℕ = length names.scripts in
    let texts : List (List ℕ) = texts_in file names.scripts in
    let board : HasAccepted file names.board = one.files.texts.board in
    let there = words_there file names.schedule callers schedule is one.files.texts.schedule in
    record {
      board = board.board;
      texts = texts;
      words = there.0;
      one = subst (λ (ws : Option (List ℕ)). HasRun board.board texts ws x logs states counts) there.1 one.run;
      two = subst (λ (b : BoardView). HasRun b texts (Some there.0) y others ends rises)
          (one_board_in file names.board two.files.texts.board board)
          (subst (λ (ws : Option (List ℕ)). HasRun two.files.texts.board.board texts ws y others ends rises)
          (same_order file names.schedule callers two.files.texts.schedule one.files.texts.schedule ∙ there.1) two.run);
    }
