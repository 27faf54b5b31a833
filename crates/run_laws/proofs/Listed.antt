-- Two runs in which the calls of one list fail, of those that each makes, have the same faults. No induction.
use Rattle.run_laws.proofs.Cited.{◌≡◌, ℕ, ◌<◌, true, false, List, length, map, Some, refl, sym, ◌∙◌, ap, subst}
use Rattle.run_laws.proofs.Cited.{range_with_len, slice_get, slice_get-get_or, BoardView, PortCall, TargetState, FaultAt, HasRun}
use Rattle.std.proofs.Common.{Ok, get_or}
use Rattle.std.proofs.lemmas.Option.{slice_get_within}
use Rattle.i2c_base.specs.declared.port.PortCall.TheVariants as call
use Rattle.i2c_physics.specs.FailPorts.{HaveFailedJustAt, fails_on, is_failed_call}
use Rattle.i2c_top.specs.Boards.{HasAccepted}
use Rattle.i2c_top.specs.Files.{Files}
use Rattle.i2c_top.specs.Scripts.{texts_in}
use Rattle.i2c_top.specs.forms.Extras.{ExtraNames, HasExtraFiles, HasExtraReport}
use Rattle.i2c_top.proofs.BoardLemmas.{one_board_in, one_text}
use Rattle.i2c_lab.specs.CallLists.{call_list}
use Rattle.i2c_lab.specs.Faults.{HasFailedAsListed, list_row}
use Rattle.run_laws.specs.Alike.{FaultsAlike, IsMadeAt}
use Rattle.run_laws.proofs.Rooted.{listed_at}
use Rattle.run_laws.proofs.Same.{same_words}

-- a call that failed is a fault
fault_is : (c : PortCall) → is_failed_call c ≡ true → c ≡ call.Fault
fault_is (call.Start a reading) is = absurd (let f : false ≡ true = is in cc)
fault_is (call.Put byte) is = absurd (let f : false ≡ true = is in cc)
fault_is (call.Get ack) is = absurd (let f : false ≡ true = is in cc)
fault_is call.Stop is = absurd (let f : false ≡ true = is in cc)
fault_is (call.Line m level) is = absurd (let f : false ≡ true = is in cc)
fault_is call.Fault is = refl

-- whether a call of a root's logs failed is told by the list, so it is the same in both
told_by : (calls : List (ℕ × ℕ)) (roots : ℕ) (logs others : List (List PortCall)) → length logs ≡ roots
    → HaveFailedJustAt (map (fails_on calls) (range_with_len 0 roots)) logs
    → HaveFailedJustAt (map (fails_on calls) (range_with_len 0 roots)) others
    → (root n : ℕ) (made : IsMadeAt logs root n) (made_too : IsMadeAt others root n)
    → is_failed_call (get_or made_too.log n call.Fault) ≡ is_failed_call (get_or made.log n call.Fault)
told_by calls roots logs others many failed failed_too root n made made_too =
    let numbers : slice_get (map (fails_on calls) (range_with_len 0 roots)) root ≡ Some (fails_on calls root) =
    listed_at (fails_on calls) roots root (subst (λ (k : ℕ). root < k) many (slice_get_within logs root made.log made.here)) in
    failed_too root (fails_on calls root) made_too.log numbers made_too.here n (get_or made_too.log n call.Fault)
    (slice_get-get_or made_too.log n call.Fault made_too.low)
    ∙ sym (failed root (fails_on calls root) made.log numbers made.here n (get_or made.log n call.Fault)
    (slice_get-get_or made.log n call.Fault made.low))

-- so a fault in one is one in the other
one_way : (calls : List (ℕ × ℕ)) (roots : ℕ) (logs others : List (List PortCall)) → length logs ≡ roots
    → HaveFailedJustAt (map (fails_on calls) (range_with_len 0 roots)) logs
    → HaveFailedJustAt (map (fails_on calls) (range_with_len 0 roots)) others → (root n : ℕ) → IsMadeAt logs root n → IsMadeAt others root n
    → FaultAt logs root n → FaultAt others root n
one_way calls roots logs others many failed failed_too root n made made_too at =
    let same : Some at.log ≡ Some made.log = sym at.here ∙ made.here in
    let log : at.log ≡ made.log = cc in
    let fault : Some call.Fault ≡ Some (get_or made.log n call.Fault) = sym at.fault
    ∙ ap (λ (cs : List PortCall). slice_get cs n) log ∙ slice_get-get_or made.log n call.Fault made.low in
    let is : call.Fault ≡ get_or made.log n call.Fault = cc in
    let listed : is_failed_call (get_or made_too.log n call.Fault) ≡ true =
    told_by calls roots logs others many failed failed_too root n made made_too ∙ ap is_failed_call (sym is) in
    record {
      log = made_too.log;
      here = made_too.here;
      fault = slice_get-get_or made_too.log n call.Fault made_too.low ∙ ap (λ (c : PortCall). Some c) (fault_is (get_or made_too.log n call.Fault) listed);
    }

-- a file spells one list over one board
one_list : (file : Files) (names : ExtraNames) (f g : HasExtraFiles list_row file names)
    → f.texts.files.extra.value ≡ g.texts.files.extra.value
one_list file names f g =
    let board : f.texts.files.scripts.board.board ≡ g.texts.files.scripts.board.board =
    one_board_in file names.board f.texts.files.scripts.board g.texts.files.scripts.board in
    let text : f.texts.files.extra.text ≡ g.texts.files.extra.text =
    one_text (file names.extra) f.texts.files.extra.text g.texts.files.extra.text f.texts.files.extra.there g.texts.files.extra.there in
    let same : Ok f.texts.files.extra.value ≡ Ok g.texts.files.extra.value = sym f.texts.files.extra.spells
    ∙ ap (λ (k : BoardView). call_list (length k.roots) f.texts.files.extra.text) board
    ∙ ap (call_list (length g.texts.files.scripts.board.board.roots)) text ∙ g.texts.files.extra.spells in
    cc

pub listed-alike : (file : Files) (names : ExtraNames) (logs others : List (List PortCall)) → HasFailedAsListed file names logs
    → HasFailedAsListed file names others → FaultsAlike logs others
listed-alike file names logs others one two root n made made_too =
    let roots : ℕ = length one.files.texts.files.scripts.board.board.roots in
    let same : length two.files.texts.files.scripts.board.board.roots ≡ roots =
    ap (λ (k : BoardView). length k.roots)
    (one_board_in file names.board two.files.texts.files.scripts.board one.files.texts.files.scripts.board) in
    let lists : two.files.texts.files.extra.value ≡ one.files.texts.files.extra.value = one_list file names two.files one.files in
    let calls : List (ℕ × ℕ) = one.files.texts.files.extra.value in
    let failed_too : HaveFailedJustAt (map (fails_on calls) (range_with_len 0 roots)) others =
    subst (λ (k : ℕ). HaveFailedJustAt (map (fails_on calls) (range_with_len 0 k)) others) same
    (subst (λ (cs : List (ℕ × ℕ)). HaveFailedJustAt (map (fails_on cs)
    (range_with_len 0 (length two.files.texts.files.scripts.board.board.roots))) others) lists two.failed) in (
      one_way calls roots logs others one.count one.failed failed_too root n made made_too,
      one_way calls roots others logs (two.count ∙ same) failed_too one.failed root n made_too made,
    )

-- two reports of one list are runs of one board, and of the same scripts by the same schedule
pub record AreTwoListedRuns (x y : List ℕ) (logs others : List (List PortCall)) (states ends : List TargetState)
    (counts rises : List ℕ) : Type 0 where
  pub board : BoardView
  pub texts : List (List ℕ)
  pub words : List ℕ
  pub one : HasRun board texts (Some words) x logs states counts
  pub two : HasRun board texts (Some words) y others ends rises

pub two-listed-runs : (file : Files) (names : ExtraNames) (x y : List ℕ) (logs others : List (List PortCall)) (states ends : List TargetState)
    (counts rises : List ℕ) → HasExtraReport list_row file names x logs states counts → HasExtraReport list_row file names y others ends rises
    → AreTwoListedRuns x y logs others states ends counts rises
two-listed-runs file names x y logs others states ends counts rises one two =
    let board : HasAccepted file names.board = one.files.texts.files.scripts.board in
    let words : List ℕ = one.files.texts.schedule.words in
    record {
      board = board.board;
      texts = texts_in file names.scripts;
      words = words;
      one = one.run;
      two = subst (λ (b : BoardView). HasRun b (texts_in file names.scripts) (Some words) y others ends rises)
          (one_board_in file names.board two.files.texts.files.scripts.board board)
          (subst (λ (ws : List ℕ). HasRun two.files.texts.files.scripts.board.board (texts_in file names.scripts) (Some ws) y others ends rises)
          (same_words file names.schedule (length names.scripts) two.files.texts.schedule one.files.texts.schedule) two.run);
    }
