-- What came of reading a file, from what came of its text.
use Rattle.i2c_top.proofs.Cited.{◌≡◌, ℕ, ◌+◌, ◌<◌, ◌≤◌, ◌⊎◌, inl, inr, Bool, IsTrue, List, [], ◌∷◌, ◌++◌, length, take, get_or, Option}
use Rattle.i2c_top.proofs.Cited.{None, Some, Result, Ok, Err, refl, sym, ap, subst, ◌∙◌, arith, IfOk, OnOk, IfErr, cases_lt, take_all}
use Rattle.i2c_top.proofs.Cited.{take_more, length-append, All-push, BoardView, IsOpened, script_read, commands_of, CallerView, script_on}
use Rattle.i2c_top.proofs.Cited.{IsAccepted, IsRejected, Files, IsAcceptedIn, IsRejectedIn, AreScriptsIn, IsScheduleIn, IsOrderIn, HasRead}
use Rattle.i2c_top.proofs.Cited.{IsRefusedAt, IsRefusedScript, IsBadBoard, IsBadScript, IsTooDear, IsFileRefusal, Rose, script_name}
use Rattle.i2c_top.proofs.Cited.{IsInGrammar, HasScript, HasBadScript, HasScripts, HasBadSchedule, texts_in, Names, names_of}
use Rattle.i2c_top.proofs.Cited.{HasScriptsBefore, HasTexts, cost_in, IsPlaceIn, IsSkipped, texts_of, cost_of_texts, schedule_read}
use Rattle.i2c_top.proofs.Cited.{ShelfView, KeepsBut, BoardRefusal, Status}
use Rattle.std.proofs.Common.{unwrap_or}
use Rattle.std.specs.Result.{IsErrAnd}
use Rattle.std.proofs.lemmas.List.{map_push}
use Rattle.std.proofs.lemmas.Option.{unwrap_or-slice_get}
use Rattle.i2c_top.specs.Files.{bytes_in}
use Rattle.i2c_top.specs.Readings.{IsScriptIn, IsRefusedOrder}
use Rattle.i2c_top.specs.forms.Replays.{first_script, IsScheduleAt, IsReadAfter}
use Rattle.i2c_top.specs.declared.status.Status.TheVariants as status

pub accepted_in : (file : Files) (name text : List ℕ) (b : BoardView) → file name ≡ Some text → IsAccepted text b → IsAcceptedIn file name b
accepted_in file name text b there h =
    record {
      has = record { board = b; text = text; there = there; is_accepted = h };
      same = refl;
    }

-- a bad text is refused at its place
at_place : (place : ℕ) (bad bad_now : Status → Type 0) (reads reads_now : ℕ) (s : Status) → (bad s → bad_now s)
    → (s ≡ status.Memory) ⊎ bad s → IsRefusedAt place bad_now reads reads_now s
at_place place bad bad_now reads reads_now s f (inl m) = inr (inl m)
at_place place bad bad_now reads reads_now s f (inr b) = inr (inr (f b))

pub board_rejected : (tells : Bool) (file : Files) (name text : List ℕ) (reads reads_now : ℕ) (s : Status)
    → (IsTrue tells → file name ≡ Some text)
    → (s ≡ status.Memory) ⊎ IsBadBoard (IsRejected text) s → IsRefusedAt 1 (IsBadBoard (IsRejectedIn tells file name)) reads reads_now s
board_rejected tells file name text reads reads_now s there h =
    at_place 1 (IsBadBoard (IsRejected text)) (IsBadBoard (IsRejectedIn tells file name)) reads reads_now s
    (λ b. record { why = b.why; same = b.same; is_bad = λ t. record { text = text; there = there t; is_rejected = b.is_bad } }) h

pub script_in : (file : Files) (name text : List ℕ) (b : BoardView) (r : Result CallerView Status) → file name ≡ Some text
    → IfOk r (IsOpened b text)
    → OnOk r (script_read (script_on b text) ≡ Ok (commands_of (script_on b text))) → IfOk r (λ s. IsScriptIn file b name s.script.text)
script_in file name text b (Ok s) there o read = record { has = record { text = text; there = there; read = read }; same = o.text_is }
script_in file name text b (Err s) there o read = tt

-- a script's own text is in the grammar
pub own_grammar : (b : BoardView) (text : List ℕ) (r : Result CallerView Status) → IfOk r (IsOpened b text)
    → OnOk r (IsInGrammar b text) → IfOk r (λ s. IsInGrammar b s.script.text)
own_grammar b text (Ok s) o read = subst (IsInGrammar b) (sym o.text_is) read
own_grammar b text (Err e) o read = tt

-- a script is opened with its own text
pub own_text : (b : BoardView) (text : List ℕ) (r : Result CallerView Status) → IfOk r (IsOpened b text)
    → IfOk r (λ s. IsOpened b s.script.text s)
own_text b text (Ok s) o = record { board_is = o.board_is; text_is = refl; untaken = o.untaken }
own_text b text (Err e) o = tt

-- the bytes of a script's file are its text
bytes_are : (file file_now : Files) (b : BoardView) (name text : List ℕ) → ((n : List ℕ) → file_now n ≡ file n)
    → IsScriptIn file_now b name text → text ≡ bytes_in file name
bytes_are file file_now b name text same is = is.same ∙ ap (λ o. unwrap_or o []) (sym is.has.there ∙ same name)

-- one script more
scripts_pushed : (file file_now : Files) (b : BoardView) (names : List (List ℕ)) (n : ℕ) (text : List ℕ)
    → ((name : List ℕ) → file_now name ≡ file name) → HasScripts file b names n
    → IsScriptIn file_now b (script_name names n) text → HasScripts file b names (n + 1)
scripts_pushed file file_now b names n text same read is c below = by (cases_lt c n)
  where
    by : (c < n) ⊎ (n ≤ c) → HasScript file b (script_name names c)
    by (inl less) = read c less
    by (inr least) =
        subst (λ x. HasScript file b (script_name names x)) (let e : n ≡ c = omega (arith, below, least) in e)
        (record { text = is.has.text; there = sym (same (script_name names n)) ∙ is.has.there; read = is.has.read })

texts_pushed : (file : Files) (names : List (List ℕ)) (n : ℕ) → n < length names
    → texts_in file (take (n + 1) names) ≡ texts_in file (take n names) ++ bytes_in file (script_name names n) ∷ []
texts_pushed file names n below =
    ap (texts_in file) (take_more names n [] below) ∙ map_push (bytes_in file) (take n names) (get_or names n [])
    ∙ ap (λ x. texts_in file (take n names) ++ bytes_in file x ∷ []) (sym (unwrap_or-slice_get names n []))

more_scripts : (tells : Bool) (file file_now : Files) (names : List (List ℕ)) (b : BoardView) (scripts : List CallerView) (s : CallerView)
    → ((n : List ℕ) → file_now n ≡ file n)
    → length scripts < length names → AreScriptsIn tells file names b scripts → IsOpened b s.script.text s → IsInGrammar b s.script.text
    → (IsTrue tells → IsScriptIn file_now b (script_name names (length scripts)) s.script.text)
    → AreScriptsIn tells file names b (scripts ++ s ∷ [])
more_scripts tells file file_now names b scripts s same below are opened grammar is =
    record {
      opened = All-push (λ x. IsOpened b x.script.text x) scripts s are.opened opened;
      grammar = All-push (λ x. IsInGrammar b x.script.text) scripts s are.grammar grammar;
      read = λ t. subst (HasScripts file b names) (sym (length-append scripts (s ∷ [])))
          (scripts_pushed file file_now b names (length scripts) s.script.text same (are.read t) (is t));
      same = λ t. map_push (λ (x : CallerView). x.script.text) scripts s ∙ ap (λ xs. xs ++ s.script.text ∷ []) (are.same t)
          ∙ ap (λ x. texts_in file (take (length scripts) names) ++ x ∷ [])
          (bytes_are file file_now b (script_name names (length scripts)) s.script.text same (is t))
          ∙ sym (texts_pushed file names (length scripts) below)
          ∙ ap (λ n. texts_in file (take n names)) (sym (length-append scripts (s ∷ [])));
    }

pub scripts_more : (tells : Bool) (file file_now : Files) (names : List (List ℕ)) (b : BoardView) (scripts scripts_now : List CallerView)
    (s : CallerView) (n : ℕ) (name : List ℕ)
    → ((name_now : List ℕ) → file_now name_now ≡ file name_now) → length scripts ≡ n → n < length names → name ≡ script_name names n
    → scripts_now ≡ scripts ++ s ∷ []
    → AreScriptsIn tells file names b scripts → IsOpened b s.script.text s → IsInGrammar b s.script.text
    → (IsTrue tells → IsScriptIn file_now b name s.script.text)
    → AreScriptsIn tells file names b scripts_now
scripts_more tells file file_now names b scripts scripts_now s n name same count below named pushed are opened grammar is =
    subst (AreScriptsIn tells file names b) (sym pushed)
    (more_scripts tells file file_now names b scripts s same (subst (λ k. k < length names) (sym count) below) are opened grammar
    (λ t. subst (λ x. IsScriptIn file_now b x s.script.text) (named ∙ ap (script_name names) (sym count)) (is t)))

pub one_more : {X : Type 0} (xs xs_now : List X) (x : X) (n : ℕ) → xs_now ≡ xs ++ x ∷ [] → length xs ≡ n → length xs_now ≡ n + 1
one_more xs xs_now x n pushed count = ap length pushed ∙ length-append xs (x ∷ []) ∙ ap (λ k. k + 1) count

-- the texts of files that are the same
pub same_texts : (file file_now : Files) → ((n : List ℕ) → file_now n ≡ file n) → (names : List (List ℕ))
    → texts_in file_now names ≡ texts_in file names
same_texts file file_now same [] = refl
same_texts file file_now same (n ∷ ns) =
    ap (λ o. unwrap_or o [] ∷ texts_in file_now ns) (same n) ∙ ap (λ xs. bytes_in file n ∷ xs) (same_texts file file_now same ns)

pub same_scripts : (file file_now : Files) → ((n : List ℕ) → file_now n ≡ file n) → (b : BoardView) (names : List (List ℕ)) (n : ℕ)
    → HasScripts file_now b names n → HasScripts file b names n
same_scripts file file_now same b names n has c below =
    let h = has c below in record { text = h.text; there = sym (same (script_name names c)) ∙ h.there; read = h.read }

-- all scripts that were read
pub all_scripts : (tells : Bool) (file file_now : Files) (names : List (List ℕ)) (b : BoardView) (scripts : List CallerView)
    → ((n : List ℕ) → file_now n ≡ file n)
    → length scripts ≡ length names → AreScriptsIn tells file_now names b scripts → IsTrue tells → HasScripts file b names (length names)
all_scripts tells file file_now names b scripts same count are t = same_scripts file file_now same b names (length names)
    (subst (HasScripts file_now b names) count (are.read t))

-- so of a schedule, where there is one
same_order : (file file_now : Files) → ((n : List ℕ) → file_now n ≡ file n)
    → (schedule : Option (List ℕ)) (callers : ℕ) (words : Option (List ℕ)) → IsOrderIn file_now schedule callers words
    → IsOrderIn file schedule callers words
same_order file file_now same None callers words is = record { has = tt; same = is.same }
same_order file file_now same (Some name) callers words is =
    record {
      has = record { text = is.has.text; words = is.has.words; there = sym (same name) ∙ is.has.there; read = is.has.read };
      same = is.same;
    }

-- what was read after other files is what was there at first
pub has_read : (first second third : Files) (names : Names) (tells : Bool) (b : BoardView) (scripts : List CallerView)
    (words : Option (List ℕ)) → ((n : List ℕ) → second n ≡ first n)
    → ((n : List ℕ) → third n ≡ second n) → IsTrue tells → IsAcceptedIn first names.board b → length scripts ≡ length names.scripts
    → AreScriptsIn tells second names.scripts b scripts
    → (callers : ℕ) → callers ≡ length names.scripts
    → IsOrderIn third names.schedule callers words → HasRead first names b (texts_of scripts) words
has_read first second third names tells b scripts words same same_again t board count are callers known order =
    record {
      board_in = board;
      scripts = same_scripts first second same b names.scripts (length names.scripts)
          (subst (HasScripts second b names.scripts) count (are.read t));
      texts_are = are.same t ∙ ap (texts_in second) (take_all (length scripts) names.scripts (omega (arith, count)))
          ∙ same_texts first second same names.scripts;
      order_in = subst (λ n. IsOrderIn first names.schedule n words) known
          (same_order first third (λ n. same_again n ∙ same n) names.schedule callers words order);
    }

pub schedule_in : (file : Files) (name text : List ℕ) (callers : ℕ) {X : Type 0} (r : Result X Status) (words_of : X → List ℕ)
    → file name ≡ Some text
    → IfOk r (λ x. schedule_read callers text ≡ Ok (words_of x)) → IfOk r (λ x. IsScheduleIn file name callers (words_of x))
schedule_in file name text callers (Ok x) words_of there read =
    record { has = record { text = text; words = words_of x; there = there; read = read }; same = refl }
schedule_in file name text callers (Err e) words_of there read = tt

-- what was read is what the files have
abbrev pub has_texts : (file : Files) (names : Names) (b : BoardView) (texts : List (List ℕ)) (words : Option (List ℕ))
    → HasRead file names b texts words → HasTexts file names
has_texts file names b texts words read = record {
  board = read.board_in.has;
  scripts = subst (λ k. HasScripts file k names.scripts (length names.scripts)) read.board_in.same read.scripts;
  schedule = read.order_in.has;
}

-- so is what it costs
pub cost_read : (file : Files) (names : Names) (b : BoardView) (texts : List (List ℕ)) (words : Option (List ℕ))
    (read : HasRead file names b texts words)
    → cost_of_texts b texts ≡ cost_in file names read.board_in.has.board
cost_read file names b texts words read = ap (λ x. cost_of_texts x texts) read.board_in.same
    ∙ ap (cost_of_texts read.board_in.has.board) read.texts_are

-- what is read one after the other
pub kept_then : (P Q R : ℕ → Type 0) (a b c : ShelfView) → ((p : ℕ) → P p → R p) → ((p : ℕ) → Q p → R p) → KeepsBut P a b → KeepsBut Q b c
    → KeepsBut R a c
kept_then P Q R a b c f g k h =
    record {
      words = h.words ∙ k.words;
      files = λ n. h.files n ∙ k.files n;
      others = λ p no. h.others p (λ q. no (g p q)) ∙ k.others p (λ q. no (f p q));
    }

-- the scripts stand behind the board
pub first_low : (schedule : Option (List ℕ)) → 2 ≤ first_script schedule
first_low None = omega arith
first_low (Some name) = omega arith

-- the schedule stands before the scripts
pub schedule_before : (schedule : Option (List ℕ)) (place : ℕ) → IsScheduleAt schedule place → (place ≡ 2) × (place < first_script schedule)
schedule_before None place at = absurd at
schedule_before (Some name) place at = (at, omega (arith, at))

-- the board was read,
pub kept_board : (names : Names) (a b : ShelfView) → KeepsBut (λ p. p ≡ 1) a b → KeepsBut (IsPlaceIn names) a b
kept_board names a b k =
    let low = first_low names.schedule in
    record {
      words = k.words;
      files = k.files;
      others = λ p no. k.others p (λ e. no (record { first = omega (arith, e); last = omega (arith, e, low) }));
    }

-- .. the scripts,
pub kept_scripts : (names : Names) (a b c : ShelfView) (first many : ℕ) → first ≡ first_script names.schedule → many ≡ length names.scripts
    → KeepsBut (λ p. p ≡ 1) a b → KeepsBut (λ p. (first ≤ p) × (p < first + many)) b c → KeepsBut (IsPlaceIn names) a c
kept_scripts names a b c first many is count board scripts =
    let low = first_low names.schedule in
    kept_then (IsPlaceIn names) (λ p. (first ≤ p) × (p < first + many)) (IsPlaceIn names) a b c (λ p h. h)
    (λ p h. record { first = omega (arith, h.0, is, low); last = omega (arith, h.1, is, count) }) (kept_board names a b board) scripts

-- .. and the schedule, where there is one
pub all_kept : (names : Names) (a b c d : ShelfView) (first many : ℕ) → first ≡ first_script names.schedule → many ≡ length names.scripts
    → KeepsBut (λ p. p ≡ 1) a b → KeepsBut (λ p. (first ≤ p) × (p < first + many)) b c → KeepsBut (IsScheduleAt names.schedule) c d
    → KeepsBut (IsPlaceIn names) a d
all_kept names a b c d first many is count board scripts schedule =
    kept_then (IsPlaceIn names) (IsScheduleAt names.schedule) (IsPlaceIn names) a c d (λ p h. h)
    (λ p at. let before = schedule_before names.schedule p at in record { first = omega (arith, before.0); last = omega (arith, before.1) })
    (kept_scripts names a b c first many is count board scripts) schedule

-- a refusal that is passed on
pub passed_on : {T E : Type 0} (r : Result T E) (x : E) (P : E → Type 0) → IsErrAnd r (λ y. y ≡ x) → P x → IfErr r P
passed_on (Ok v) x P h p = tt
passed_on (Err y) x P h p = subst P (sym h) p

-- a bad script of a file that is the same
pub same_bad : (file file_now : Files) (b : BoardView) (name : List ℕ) (line word : ℕ) → ((n : List ℕ) → file_now n ≡ file n)
    → HasBadScript file_now b name line word → HasBadScript file b name line word
same_bad file file_now b name line word same bad = record { text = bad.text; there = sym (same name) ∙ bad.there; read = bad.read }

-- a script was refused after those before it
pub script_refused : (first : ℕ) (tells : Bool) (file file_now : Files) (board : BoardView) (names : List (List ℕ))
    (reads reads_mid reads_now : ℕ → ℕ) (n : ℕ) (s : Status) (name : List ℕ) → name ≡ script_name names n
    → n < length names
    → ((name : List ℕ) → file_now name ≡ file name) → (IsTrue tells → HasScripts file board names n)
    → ((place : ℕ) → ((first ≤ place) × (place < first + n) → ⊥) → reads_mid place ≡ reads place)
    → ((place : ℕ) → (place ≡ first + n → ⊥) → reads_now place ≡ reads_mid place)
    → IsRefusedAt (first + n) (IsBadScript n (λ line word. IsTrue tells → HasBadScript file_now board name line word))
    (reads_mid (first + n)) (reads_now (first + n)) s
    → IsRefusedScript first tells file board names reads reads_now s
script_refused first tells file file_now board names reads reads_mid reads_now n s name named known same before kept kept_now refused =
    record {
      caller = n;
      known = known;
      before = before;
      kept = λ place behind. kept_now place (λ e. absurd (omega (arith, behind, e)))
          ∙ kept place (λ p. absurd (omega (arith, behind, p.1)));
      refused = by refused;
    }
  where
    by : IsRefusedAt (first + n) (IsBadScript n (λ line word. IsTrue tells → HasBadScript file_now board name line word))
        (reads_mid (first + n)) (reads_now (first + n)) s
        → IsRefusedAt (first + n) (IsBadScript n (λ line word. IsTrue tells → HasBadScript file board (script_name names n) line word))
        (reads (first + n)) (reads_now (first + n)) s
    by (inl r) = inl (r.0, subst (λ (k : ℕ). Rose k (reads_now (first + n))) (kept (first + n) (λ p. absurd (omega (arith, p.1)))) r.1)
    by (inr (inl m)) = inr (inl m)
    by (inr (inr b)) = inr (inr (record {
      line = b.line;
      word = b.word;
      same = b.same;
      is_bad = λ t. subst (λ x. HasBadScript file board x b.line b.word) named
          (same_bad file file_now board name b.line b.word same (b.is_bad t));
    }))

-- what the board's reading left is what a script's refusal says
pub scripts_refusal : (tells : Bool) (file file_now : Files) (b : BoardView) (names : Names) (reads reads_mid reads_now : ℕ → ℕ)
    (s : Status) → ((name : List ℕ) → file_now name ≡ file name)
    → ((place : ℕ) → (place ≡ 1 → ⊥) → reads_mid place ≡ reads place) → (IsTrue tells → IsAcceptedIn file names.board b)
    → IsRefusedScript (first_script names.schedule) tells file_now b names.scripts reads_mid reads_now s
    → IsFileRefusal tells file names reads reads_now s
scripts_refusal tells file file_now b names reads reads_mid reads_now s same kept board r = by r.refused
  where
    first : ℕ
    first = first_script names.schedule

    low : 2 ≤ first
    low = first_low names.schedule

    earlier : IsTrue tells → HasScriptsBefore file names r.caller
    earlier t = record {
      known = r.known;
      board = (board t).has;
      before = subst (λ k. HasScripts file k names.scripts r.caller) (board t).same
          (same_scripts file file_now same b names.scripts r.caller (r.before t));
    }

    by : IsRefusedAt (first + r.caller)
        (IsBadScript r.caller (λ line word. IsTrue tells → HasBadScript file_now b (script_name names.scripts r.caller) line word))
        (reads_mid (first + r.caller)) (reads_now (first + r.caller)) s
        → IsFileRefusal tells file names reads reads_now s
    by (inl h) =
        subst (IsFileRefusal tells file names reads reads_now) (sym h.0) (
          record {
            named = record { first = omega (arith, low); last = omega (arith, r.known) };
            rose = subst (λ (k : ℕ). Rose k (reads_now (first + r.caller)))
                (kept (first + r.caller) (λ e. absurd (omega (arith, e, low)))) h.1;
          },
          λ t. inr (inl (record { caller = r.caller; at = refl; earlier = earlier t })),
        )
    by (inr (inl m)) = subst (IsFileRefusal tells file names reads reads_now) (sym m) tt
    by (inr (inr n)) =
        subst (IsFileRefusal tells file names reads reads_now) (sym n.same) (λ t. (
          earlier t,
          subst (λ k. HasBadScript file k (script_name names.scripts r.caller) n.line n.word) (board t).same
              (same_bad file file_now b (script_name names.scripts r.caller) n.line n.word same (n.is_bad t)),
        ))

-- scripts in the grammar over a board are so over the board of the file
pub scripts_on : (file : Files) (b : BoardView) (names : Names) (board : IsAcceptedIn file names.board b)
    → HasScripts file b names.scripts (length names.scripts)
    → HasScripts file board.has.board names.scripts (length names.scripts)
scripts_on file b names board scripts = subst (λ k. HasScripts file k names.scripts (length names.scripts)) board.same scripts

-- and a schedule's, where there is one
pub order_refusal : (tells : Bool) (file file_now : Files) (b : BoardView) (board_name : List ℕ) (schedule : Option (List ℕ))
    (scripts : List (List ℕ)) (reads reads_mid reads_now : ℕ → ℕ) (callers : ℕ) (s : Status)
    → callers ≡ length scripts → ((name : List ℕ) → file_now name ≡ file name)
    → ((place : ℕ) → IsScheduleAt schedule place → reads_mid place ≡ reads place) → (IsTrue tells → IsAcceptedIn file board_name b)
    → (IsTrue tells → HasScripts file b scripts (length scripts)) → IsRefusedOrder tells file_now schedule callers reads_mid reads_now s
    → IsFileRefusal tells file (names_of board_name schedule scripts) reads reads_now s
order_refusal tells file file_now b board_name None scripts reads reads_mid reads_now callers s count same kept board has refused =
    absurd refused
order_refusal tells file file_now b board_name (Some name) scripts reads reads_mid reads_now callers s count same kept board has (inl h) =
    let names = names_of board_name (Some name) scripts in
    subst (IsFileRefusal tells file names reads reads_now) (sym h.0) (
      record {
        named = record { first = omega arith; last = omega arith };
        rose = subst (λ (k : ℕ). Rose k (reads_now 2)) (kept 2 refl) h.1;
      },
      λ t. inr
          (inr (refl, (board t).has, scripts_on file b names (board t) (has t))),
    )
order_refusal tells file file_now b board_name (Some name) scripts reads reads_mid reads_now callers s count same kept board has
    (inr (inl m)) =
    subst (IsFileRefusal tells file (names_of board_name (Some name) scripts) reads reads_now) (sym m) tt
order_refusal tells file file_now b board_name (Some name) scripts reads reads_mid reads_now callers s count same kept board has
    (inr (inr n)) =
    let names = names_of board_name (Some name) scripts in
    subst (IsFileRefusal tells file names reads reads_now) (sym n.same) (
      refl,
      λ t. let h = n.is_bad t in (
        (board t).has,
        scripts_on file b names (board t) (has t),
        subst (λ k. HasBadSchedule file name k n.word) count
            (record { text = h.text; there = sym (same name) ∙ h.there; fault = h.fault }),
      ),
    )

-- the cost of scripts is too much that of the same scripts is
pub dear_of : (b : BoardView) {s : Status} {scripts scripts_now : List CallerView} → scripts ≡ scripts_now
    → IsTooDear (cost_of_texts b (texts_of scripts)) s → IsTooDear (cost_of_texts b (texts_of scripts_now)) s
dear_of b {s} same dear = subst (λ xs. IsTooDear (cost_of_texts b (texts_of xs)) s) same dear

-- and a cost that is too much
pub cost_refusal : (tells : Bool) (file : Files) (names : Names) (reads reads_now : ℕ → ℕ) (b : BoardView) (texts : List (List ℕ))
    (words : Option (List ℕ)) (s : Status)
    → (IsTrue tells → HasRead file names b texts words) → IsTooDear (cost_of_texts b texts) s
    → IsFileRefusal tells file names reads reads_now s
cost_refusal tells file names reads reads_now b texts words s read d =
    subst (IsFileRefusal tells file names reads reads_now) (sym d.same) (
      d.dear,
      λ t. record {
        texts = has_texts file names b texts words (read t);
        same = cost_read file names b texts words (read t);
        dear = d.dear;
      },
    )

-- what a refusal comes before was not read (`KeepsSkipped` of the row)
abbrev KeepsRest : Option (List ℕ) → (ℕ → ℕ) → (ℕ → ℕ) → Status → Type 0
KeepsRest schedule reads reads_now s = (other : ℕ) → IsSkipped schedule s other → reads_now other ≡ reads other

abbrev KeepsAfter : Option (List ℕ) → (ℕ → ℕ) → (ℕ → ℕ) → ℕ → Type 0
KeepsAfter schedule reads reads_now place = (other : ℕ) → IsReadAfter schedule place other → reads_now other ≡ reads other

-- after the board nothing was,
pub board_unreached : (schedule : Option (List ℕ)) (of : BoardRefusal → Type 0) (reads reads_now : ℕ → ℕ) (s : Status)
    → ((place : ℕ) → (place ≡ 1 → ⊥) → reads_now place ≡ reads place)
    → IsRefusedAt 1 (IsBadBoard of) (reads 1) (reads_now 1) s → KeepsRest schedule reads reads_now s
board_unreached schedule of reads reads_now s kept refused =
    elim refused [
      | inl h ↦ subst (KeepsRest schedule reads reads_now) (sym h.0) behind
      | inr (inl m) ↦ subst (KeepsRest schedule reads reads_now) (sym m) (λ other no. absurd no)
      | inr (inr b) ↦ subst (KeepsRest schedule reads reads_now) (sym b.same) behind
    ]
  where
    behind : KeepsAfter schedule reads reads_now 1
    behind other after = by after.1
      where
        by : IsScheduleAt schedule other ⊎ (1 < other) → reads_now other ≡ reads other
        by (inl at) = kept other (λ e. let two = (schedule_before schedule other at).0 in absurd (omega (arith, e, two)))
        by (inr later) = kept other (λ e. absurd (omega (arith, e, later)))

-- .. after a script not the later ones nor the schedule,
pub scripts_unreached : (schedule : Option (List ℕ)) (tells : Bool) (file : Files) (b : BoardView) (names : List (List ℕ))
    (reads reads_mid reads_now : ℕ → ℕ) (s : Status)
    → ((place : ℕ) → (place ≡ 1 → ⊥) → reads_mid place ≡ reads place)
    → ((place : ℕ) → ((first_script schedule ≤ place) × (place < first_script schedule + length names) → ⊥)
    → reads_now place ≡ reads_mid place)
    → IsRefusedScript (first_script schedule) tells file b names reads_mid reads_now s → KeepsRest schedule reads reads_now s
scripts_unreached schedule tells file b names reads reads_mid reads_now s kept kept_now r =
    elim r.refused [
      | inl h ↦ subst (KeepsRest schedule reads reads_now) (sym h.0) behind
      | inr (inl m) ↦ subst (KeepsRest schedule reads reads_now) (sym m) (λ other no. absurd no)
      | inr (inr b) ↦ subst (KeepsRest schedule reads reads_now) (sym b.same) behind
    ]
  where
    low : 2 ≤ first_script schedule
    low = first_low schedule

    behind : KeepsAfter schedule reads reads_now (first_script schedule + r.caller)
    behind other after = by after.1
      where
        by : IsScheduleAt schedule other ⊎ (first_script schedule + r.caller < other) → reads_now other ≡ reads other
        by (inl at) =
            let two = schedule_before schedule other at in
            kept_now other (λ h. absurd (omega (arith, h.0, two.1))) ∙ kept other (λ e. absurd (omega (arith, e, two.0)))
        by (inr later) = r.kept other later ∙ kept other (λ e. absurd (omega (arith, e, later, low)))

-- .. and after the schedule there is nothing
pub order_unreached : (schedule : Option (List ℕ)) (tells : Bool) (file : Files) (callers : ℕ) (reads reads_mid reads_now : ℕ → ℕ)
    (s : Status) → IsRefusedOrder tells file schedule callers reads_mid reads_now s
    → KeepsRest schedule reads reads_now s
order_unreached None tells file callers reads reads_mid reads_now s refused = absurd refused
order_unreached (Some name) tells file callers reads reads_mid reads_now s (inl h) =
    subst (KeepsRest (Some name) reads reads_now) (sym h.0) (λ other after. absurd (after.0 refl))
order_unreached (Some name) tells file callers reads reads_mid reads_now s (inr (inl m)) = subst (KeepsRest (Some name) reads reads_now)
    (sym m) (λ other no. absurd no)
order_unreached (Some name) tells file callers reads reads_mid reads_now s (inr (inr b)) = subst (KeepsRest (Some name) reads reads_now)
    (sym b.same) (λ other no. absurd no)
