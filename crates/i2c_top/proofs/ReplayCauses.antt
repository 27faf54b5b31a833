-- The files of a replay decide one status: of two that they are a cause of, both are the same.
use Rattle.i2c_top.proofs.Cited.{◌≡◌, ℕ, ◌<◌, ◌≤◌, ◌⊎◌, inl, inr, List, length, Option, None, Some, Result, Ok, Err, refl, sym, ◌∙◌, ap}
use Rattle.i2c_top.proofs.Cited.{subst, arith, BoardView, HasAccepted, HasRejected, Files, script_name, HasScript, HasBadScript, HasScripts}
use Rattle.i2c_top.proofs.Cited.{HasBadSchedule, Names, HasTexts, HasFiles, HasScriptsBefore, cost_in, replay_form, DecidesOnce, MOST_COST}
use Rattle.i2c_top.proofs.Cited.{script_read, commands_of, script_on, schedule_read, BoardRefusal, Status}
use Rattle.std.proofs.lemmas.Bool.{cases_order}
use Rattle.i2c_top.specs.Scripts.{HasSchedule, HasOrder, HasBadOrder}
use Rattle.i2c_top.specs.forms.Replays.{HasDearFiles, IsReplayCause}
use Rattle.caller_core.specs.Scripts.{Place}
use Rattle.caller_core.specs.View.{CommandView}
use Rattle.i2c_top.specs.declared.status.Status.TheVariants as status
use Rattle.i2c_top.proofs.BoardLemmas.{one_text, no_board, one_why, one_board_in}

not_both : (r : Result (List CommandView) Place) (cs : List CommandView) (p : Place) → r ≡ Ok cs → r ≡ Err p → ⊥
not_both r cs p e f = absurd (let h : Ok cs ≡ Err p = sym e ∙ f in cc)

no_script : (file : Files) (board : BoardView) (name : List ℕ) (line word : ℕ) → HasScript file board name
    → HasBadScript file board name line word → ⊥
no_script file board name line word s b =
    not_both (script_read (script_on board b.text)) (commands_of (script_on board s.text)) (record { line = line; word = word })
    (ap (λ t. script_read (script_on board t)) (sym (one_text (file name) s.text b.text s.there b.there)) ∙ s.read) b.read

not_words : (r : Result (List ℕ) ℕ) (cs : List ℕ) (w : ℕ) → r ≡ Ok cs → r ≡ Err w → ⊥
not_words r cs w e f = absurd (let h : Ok cs ≡ Err w = sym e ∙ f in cc)

pub no_schedule : (file : Files) (name : List ℕ) (callers word : ℕ) → HasSchedule file name callers → HasBadSchedule file name callers word
    → ⊥
no_schedule file name callers word s b =
    not_words (schedule_read callers b.text) s.words word
    (ap (schedule_read callers) (sym (one_text (file name) s.text b.text s.there b.there)) ∙ s.read) b.fault

no_order : (file : Files) (schedule : Option (List ℕ)) (callers word : ℕ) → HasOrder file schedule callers
    → HasBadOrder file schedule callers word → ⊥
no_order file None callers word has bad = bad
no_order file (Some name) callers word has bad = no_schedule file name callers word has bad

abbrev place_or : Place → Result (List CommandView) Place → Place
place_or p (Ok cs) = p
place_or p (Err q) = q

abbrev at_line : ℕ → Place → Status
at_line c p = status.Script c p.line p.word

one_place : (file : Files) (board : BoardView) (name : List ℕ) (c line word line_now word_now : ℕ) → HasBadScript file board name line word
    → HasBadScript file board name line_now word_now
    → status.Script c line_now word_now ≡ status.Script c line word
one_place file board name c line word line_now word_now b n =
    let p : Place = record { line = line; word = word } in
    let q : Place = record { line = line_now; word = word_now } in
    let same : n.text ≡ b.text = one_text (file name) n.text b.text n.there b.there in
    ap (at_line c) (ap (place_or p) (sym n.read ∙ ap (λ t. script_read (script_on board t)) same ∙ b.read))

abbrev word_or : ℕ → Result (List ℕ) ℕ → ℕ
word_or w (Ok cs) = w
word_or w (Err v) = v

pub one_word : (file : Files) (name : List ℕ) (callers word word_now : ℕ) → HasBadSchedule file name callers word
    → HasBadSchedule file name callers word_now → word_now ≡ word
one_word file name callers word word_now b n =
    ap (word_or word) (sym n.fault ∙ ap (schedule_read callers) (one_text (file name) n.text b.text n.there b.there) ∙ b.fault)

one_order : (file : Files) (schedule : Option (List ℕ)) (callers word word_now : ℕ) → HasBadOrder file schedule callers word
    → HasBadOrder file schedule callers word_now → word_now ≡ word
one_order file None callers word word_now b n = absurd b
one_order file (Some name) callers word word_now b n = one_word file name callers word word_now b n

-- what the scripts cost is one number
one_cost : (file : Files) (names : Names) (a b : HasTexts file names) → cost_in file names a.board.board ≡ cost_in file names b.board.board
one_cost file names a b = ap (cost_in file names) (one_board_in file names.board a.board b.board)

pub not_dear : (m a b : ℕ) → a ≤ m → m < b → a ≡ b → ⊥
not_dear m a b low high same = absurd (omega arith)

-- the five statuses that files decide, where all scripts are in the grammar and where they aren't
pub record DecideBoard (file : Files) (names : Names) (s : Status) : Type 0 where
  pub why : BoardRefusal
  pub same : s ≡ status.Board why
  pub board : HasRejected file names.board why

pub record DecideScript (file : Files) (names : Names) (s : Status) : Type 0 where
  pub caller : ℕ
  pub line : ℕ
  pub word : ℕ
  pub same : s ≡ status.Script caller line word
  pub earlier : HasScriptsBefore file names caller
  pub script : HasBadScript file earlier.board.board (script_name names.scripts caller) line word

record DecideSchedule (file : Files) (names : Names) (s : Status) : Type 0 where
  word : ℕ
  same : s ≡ status.Schedule word
  board : HasAccepted file names.board
  scripts : HasScripts file board.board names.scripts (length names.scripts)
  schedule : HasBadOrder file names.schedule (length names.scripts) word

record DecideCost (file : Files) (names : Names) (s : Status) : Type 0 where
  cost : ℕ
  same : s ≡ status.Cost cost
  files : HasDearFiles file names cost

abbrev DecideTexts : Files → Names → Status → Type 0
DecideTexts file names s = ((s ≡ status.Ok) × HasFiles file names) ⊎ DecideCost file names s

texts_of : (file : Files) (names : Names) (s : Status) → DecideTexts file names s → HasTexts file names
texts_of file names s (inl a) = a.1.texts
texts_of file names s (inr d) = d.files.texts

abbrev Decide : Files → Names → Status → Type 0
Decide file names s =
    DecideTexts file names s ⊎ (DecideBoard file names s ⊎ (DecideScript file names s ⊎ DecideSchedule file names s))

decided : (file : Files) (names : Names) (s : Status) → IsReplayCause file names s → Decide file names s
decided file names status.Ok h = inl (inl (refl, h))
decided file names (status.Cost cost) h = inl (inr (record { cost = cost; same = refl; files = h }))
decided file names (status.Board why) h = inr (inl (record { why = why; same = refl; board = h }))
decided file names (status.Script caller line word) h =
    inr (inr (inl (record { caller = caller; line = line; word = word; same = refl; earlier = h.0; script = h.1 })))
decided file names (status.Schedule word) h = inr
    (inr (inr (record { word = word; same = refl; board = h.0; scripts = h.1; schedule = h.2 })))
decided file names _ h = absurd h

agree_texts : (file : Files) (names : Names) (s r : Status) → DecideTexts file names s → DecideTexts file names r → r ≡ s
agree_texts file names s r (inl a) (inl b) = b.0 ∙ sym a.0
agree_texts file names s r (inl a) (inr b) =
    absurd (not_dear MOST_COST (cost_in file names a.1.texts.board.board) b.cost a.1.cheap b.files.dear
    (one_cost file names a.1.texts b.files.texts ∙ sym b.files.same))
agree_texts file names s r (inr a) (inl b) =
    absurd (not_dear MOST_COST (cost_in file names b.1.texts.board.board) a.cost b.1.cheap a.files.dear
    (one_cost file names b.1.texts a.files.texts ∙ sym a.files.same))
agree_texts file names s r (inr a) (inr b) =
    b.same ∙ ap (λ n. status.Cost n) (b.files.same ∙ one_cost file names b.files.texts a.files.texts ∙ sym a.files.same) ∙ sym a.same

-- one script is the first that isn't in the grammar
no_earlier : (file : Files) (board : BoardView) (names : List (List ℕ)) (c n line word : ℕ) → c < n → HasScripts file board names n
    → HasBadScript file board (script_name names c) line word → ⊥
no_earlier file board names c n line word below good bad = no_script file board (script_name names c) line word (good c below) bad

one_script : (file : Files) (board : BoardView) (names : List (List ℕ)) (c d line word line_now word_now : ℕ)
    → HasScripts file board names c → HasBadScript file board (script_name names c) line word
    → HasScripts file board names d → HasBadScript file board (script_name names d) line_now word_now → (c ≡ d) ⊎ ((c < d) ⊎ (d < c))
    → status.Script d line_now word_now ≡ status.Script c line word
one_script file board names c d line word line_now word_now good bad good_now bad_now (inl same) =
    let here : HasBadScript file board (script_name names c) line_now word_now = subst
    (λ x. HasBadScript file board (script_name names x) line_now word_now) (sym same) bad_now in
    ap (λ x. status.Script x line_now word_now) (sym same)
    ∙ one_place file board (script_name names c) c line word line_now word_now bad here
one_script file board names c d line word line_now word_now good bad good_now bad_now (inr (inl below)) = absurd
    (no_earlier file board names c d line word below good_now bad)
one_script file board names c d line word line_now word_now good bad good_now bad_now (inr (inr below)) = absurd
    (no_earlier file board names d c line_now word_now below good bad_now)

-- what is read over the board of the file is read over one board
bad_on : (file : Files) (names : Names) (caller line word : ℕ) (a b : HasAccepted file names.board)
    → HasBadScript file a.board (script_name names.scripts caller) line word
    → HasBadScript file b.board (script_name names.scripts caller) line word
bad_on file names caller line word a b bad = subst (λ k. HasBadScript file k (script_name names.scripts caller) line word)
    (one_board_in file names.board a b) bad

pub agree_script : (file : Files) (names : Names) (s r : Status) → DecideScript file names s → DecideScript file names r → r ≡ s
agree_script file names s r a b =
    let board = a.earlier.board in
    let good = subst (λ k. HasScripts file k names.scripts b.caller)
    (one_board_in file names.board b.earlier.board board) b.earlier.before in
    let bad = bad_on file names b.caller b.line b.word b.earlier.board board b.script in
    b.same ∙ one_script file board.board names.scripts a.caller b.caller a.line a.word b.line b.word a.earlier.before a.script good bad
    (cases_order a.caller b.caller) ∙ sym a.same

pub all_earlier : (file : Files) (names : Names) (caller line word : ℕ) (board : HasAccepted file names.board)
    → HasScripts file board.board names.scripts (length names.scripts)
    → (earlier : HasScriptsBefore file names caller) → HasBadScript file earlier.board.board (script_name names.scripts caller) line word
    → ⊥
all_earlier file names caller line word board good earlier bad =
    no_earlier file board.board names.scripts caller (length names.scripts) line word earlier.known good
    (bad_on file names caller line word earlier.board board bad)

agree : (file : Files) (names : Names) (s r : Status) → Decide file names s → Decide file names r → r ≡ s
agree file names s r (inl a) (inl b) = agree_texts file names s r a b
agree file names s r (inl a) (inr (inl b)) = absurd (no_board file names.board b.why (texts_of file names s a).board b.board)
agree file names s r (inl a) (inr (inr (inl b))) = absurd
    (all_earlier file names b.caller b.line b.word (texts_of file names s a).board (texts_of file names s a).scripts b.earlier b.script)
agree file names s r (inl a) (inr (inr (inr b))) = absurd
    (no_order file names.schedule (length names.scripts) b.word (texts_of file names s a).schedule b.schedule)
agree file names s r (inr (inl a)) (inl b) = absurd (no_board file names.board a.why (texts_of file names r b).board a.board)
agree file names s r (inr (inl a)) (inr (inl b)) =
    b.same ∙ ap (λ w. status.Board w) (one_why file names.board a.why b.why a.board b.board) ∙ sym a.same
agree file names s r (inr (inl a)) (inr (inr (inl b))) = absurd (no_board file names.board a.why b.earlier.board a.board)
agree file names s r (inr (inl a)) (inr (inr (inr b))) = absurd (no_board file names.board a.why b.board a.board)
agree file names s r (inr (inr (inl a))) (inl b) = absurd
    (all_earlier file names a.caller a.line a.word (texts_of file names r b).board (texts_of file names r b).scripts a.earlier a.script)
agree file names s r (inr (inr (inl a))) (inr (inl b)) = absurd (no_board file names.board b.why a.earlier.board b.board)
agree file names s r (inr (inr (inl a))) (inr (inr (inl b))) = agree_script file names s r a b
agree file names s r (inr (inr (inl a))) (inr (inr (inr b))) = absurd
    (all_earlier file names a.caller a.line a.word b.board b.scripts a.earlier a.script)
agree file names s r (inr (inr (inr a))) (inl b) = absurd
    (no_order file names.schedule (length names.scripts) a.word (texts_of file names r b).schedule a.schedule)
agree file names s r (inr (inr (inr a))) (inr (inl b)) = absurd (no_board file names.board b.why a.board b.board)
agree file names s r (inr (inr (inr a))) (inr (inr (inl b))) = absurd
    (all_earlier file names b.caller b.line b.word a.board a.scripts b.earlier b.script)
agree file names s r (inr (inr (inr a))) (inr (inr (inr b))) =
    b.same ∙ ap (λ w. status.Schedule w) (one_order file names.schedule (length names.scripts) a.word b.word a.schedule b.schedule)
    ∙ sym a.same

pub replay_decides : (names : Names) → DecidesOnce (replay_form names)
replay_decides names file s r h k = agree file names s r (decided file names s h) (decided file names r k)
