-- How a call of `verify` ends: its files decide one status, and a success is the line of its journal. No induction.
use Rattle.i2c_top.proofs.Cited.{◌≡◌, ℕ, ◌+◌, ◌<◌, ◌≤◌, ◌⊎◌, inl, inr, Bool, IsTrue, List, length, Some, refl, sym, ◌∙◌, ap, subst, arith}
use Rattle.i2c_top.proofs.Cited.{take_all, ScriptsAreFair, CallerView, SectionsHaveNoJournalLine, BoardView, IsPlainBoard, CanBeChecked}
use Rattle.i2c_top.proofs.Cited.{Checked, IsFaultIn, IsVerified, CheckFault, Rose, HasRejected, checked_on, CameToSuccess, CameToRefusal}
use Rattle.i2c_top.proofs.Cited.{HasEndedAs, Files, DecidesOnce, TellsItsFiles, KeepsShelf, AreScriptsIn, HasReadSomeJournal, IsAcceptedIn}
use Rattle.i2c_top.proofs.Cited.{IsRejectedIn, IsRefusedAt, IsRefusedScript, IsBadBoard, IsBadScript, IsTooDear, MOST_COST, cost_of_texts}
use Rattle.i2c_top.proofs.Cited.{texts_of, script_name, HasBadScript, HasScripts, texts_in, ShelfView, RigView, Outside}
use Rattle.i2c_top.proofs.Cited.{IsUntouched, HasScriptsBefore, IsSkipped, VerifyNames, as_replayed, verify_form, BoardRefusal}
use Rattle.i2c_top.proofs.Cited.{Status}
use Rattle.journal_check.specs.declared.fault.CheckFault.TheVariants as verdict-of
use Rattle.i2c_top.specs.Readings.{HasReadJournal}
use Rattle.i2c_top.specs.forms.Verifies.{AreVerifyLike, verify_cost, verified_text, HasCheapJournal, HasDearJournal, HasFault, HasJournal}
use Rattle.i2c_top.specs.forms.Verifies.{HasVerdict, HasVerdictLine, HasVerified, IsVerdict, IsVerifyCause, fault_status}
use Rattle.i2c_top.specs.declared.status.Status.TheVariants as status
use Rattle.i2c_top.proofs.BoardLemmas.{no_board, one_why, one_board_in, one_text}
use Rattle.i2c_top.proofs.CheckedLemmas.{can-be}
use Rattle.i2c_top.proofs.EndingLemmas.{came_to_success, memory_wanting, file_unread, text_refused}
use Rattle.i2c_top.proofs.FileLemmas.{board_unreached, same_bad, same_scripts, same_texts, scripts_unreached}
use Rattle.i2c_top.proofs.ReplayCauses.{DecideScript, agree_script, all_earlier, not_dear}
use Rattle.i2c_top.proofs.SomeFiles.{so-some}

-- the statuses that files decide: by a journal that is read, of the board, of a script
data IsOfJournal (file : Files) (names : VerifyNames) : Status → Type 0 where
  Good : (entries : ℕ) → HasVerdict file names entries → IsOfJournal file names status.Ok
  Bad : (fault : CheckFault) → HasFault file names fault → IsOfJournal file names (status.Verify fault)
  Dear : (cost : ℕ) → HasDearJournal file names cost → IsOfJournal file names (status.Cost cost)

journal_of : (file : Files) (names : VerifyNames) (s : Status) → IsOfJournal file names s → HasJournal file names
journal_of file names s (Good entries h) = h.has.files
journal_of file names s (Bad fault h) = h.has.files
journal_of file names s (Dear cost h) = h.files

record IsOfBoard (file : Files) (names : VerifyNames) (s : Status) : Type 0 where
  why : BoardRefusal
  same : s ≡ status.Board why
  board : HasRejected file names.board why

abbrev Decided : Files → VerifyNames → Status → Type 0
Decided file names s = IsOfJournal file names s ⊎ (IsOfBoard file names s ⊎ DecideScript file (as_replayed names) s)

decided : (file : Files) (names : VerifyNames) (s : Status) → IsVerifyCause file names s → Decided file names s
decided file names status.Ok h = inl (Good h.0 h.1)
decided file names (status.Verify fault) h = inl (Bad fault h)
decided file names (status.Cost cost) h = inl (Dear cost h)
decided file names (status.Board why) h = inr (inl (record { why = why; same = refl; board = h }))
decided file names (status.Script caller line word) h =
    inr (inr (record { caller = caller; line = line; word = word; same = refl; earlier = h.0; script = h.1 }))
decided file names _ h = absurd h

-- of one file the boards, the texts and the costs are one
one_cost : (file : Files) (names : VerifyNames) (a b : HasJournal file names) → verify_cost file names a.board.board
    ≡ verify_cost file names b.board.board
one_cost file names a b = ap (verify_cost file names) (one_board_in file names.board a.board b.board)

cheap_dear : (file : Files) (names : VerifyNames) (cost : ℕ) → HasCheapJournal file names → HasDearJournal file names cost → ⊥
cheap_dear file names cost a d =
    not_dear MOST_COST (verify_cost file names a.files.board.board) cost a.cheap d.dear (one_cost file names a.files d.files ∙ sym d.same)

-- what is said of the journal of one reading is said of that of another
over_read : (file : Files) (names : VerifyNames) (a b : HasJournal file names) (P : Checked → List ℕ → Type 0)
    → P (checked_on a.board.board (texts_in file names.scripts)) a.text → P (checked_on b.board.board (texts_in file names.scripts)) b.text
over_read file names a b P p =
    subst (P (checked_on b.board.board (texts_in file names.scripts))) (one_text (file names.journal) a.text b.text a.there b.there)
    (subst (λ (k : BoardView). P (checked_on k (texts_in file names.scripts)) a.text) (one_board_in file names.board a.board b.board) p)

module _ (fair : ScriptsAreFair) (none : SectionsHaveNoJournalLine)
    (faultless : (x : Checked) (text : List ℕ) (n : ℕ) (f : CheckFault) → CanBeChecked x → IsVerified x text n → IsFaultIn x text f → ⊥)
    (one : (x : Checked) (text : List ℕ) (f g : CheckFault) → CanBeChecked x → IsFaultIn x text f → IsFaultIn x text g → f ≡ g) where
  can_be : (file : Files) (names : VerifyNames) (a : HasCheapJournal file names)
      → CanBeChecked (checked_on a.files.board.board (texts_in file names.scripts))
  can_be file names a = can-be a.files.board.board (texts_in file names.scripts) a.plain a.files.board.is_accepted.rules fair none

  good_bad : (file : Files) (names : VerifyNames) (n : ℕ) (f : CheckFault) → HasVerdict file names n → HasFault file names f → ⊥
  good_bad file names n f a b =
      faultless (checked_on b.has.files.board.board (texts_in file names.scripts)) b.has.files.text n f (can_be file names b.has)
      (over_read file names a.has.files b.has.files (λ x text. IsVerified x text n) a.verified) b.fault_is

  one_journal : (file : Files) (names : VerifyNames) (s r : Status) → IsOfJournal file names s → IsOfJournal file names r → r ≡ s
  one_journal file names s r (Good n a) (Good m b) = refl
  one_journal file names s r (Good n a) (Bad f b) = absurd (good_bad file names n f a b)
  one_journal file names s r (Good n a) (Dear cost b) = absurd (cheap_dear file names cost a.has b)
  one_journal file names s r (Bad f a) (Good n b) = absurd (good_bad file names n f b a)
  one_journal file names s r (Bad f a) (Bad g b) =
      ap (λ (k : CheckFault). status.Verify k)
      (one (checked_on a.has.files.board.board (texts_in file names.scripts)) a.has.files.text g f (can_be file names a.has)
      (over_read file names b.has.files a.has.files (λ x text. IsFaultIn x text g) b.fault_is) a.fault_is)
  one_journal file names s r (Bad f a) (Dear cost b) = absurd (cheap_dear file names cost a.has b)
  one_journal file names s r (Dear cost a) (Good n b) = absurd (cheap_dear file names cost b.has a)
  one_journal file names s r (Dear cost a) (Bad f b) = absurd (cheap_dear file names cost b.has a)
  one_journal file names s r (Dear cost a) (Dear other b) =
      ap (λ (k : ℕ). status.Cost k) (b.same ∙ one_cost file names b.files a.files ∙ sym a.same)

  agree : (file : Files) (names : VerifyNames) (s r : Status) → Decided file names s → Decided file names r → r ≡ s
  agree file names s r (inl a) (inl b) = one_journal file names s r a b
  agree file names s r (inl a) (inr (inl b)) = absurd (no_board file names.board b.why (journal_of file names s a).board b.board)
  agree file names s r (inl a) (inr (inr b)) =
      absurd (all_earlier file (as_replayed names) b.caller b.line b.word (journal_of file names s a).board
      (journal_of file names s a).scripts b.earlier b.script)
  agree file names s r (inr (inl a)) (inl b) = absurd (no_board file names.board a.why (journal_of file names r b).board a.board)
  agree file names s r (inr (inl a)) (inr (inl b)) =
      b.same ∙ ap (λ w. status.Board w) (one_why file names.board a.why b.why a.board b.board) ∙ sym a.same
  agree file names s r (inr (inl a)) (inr (inr b)) = absurd (no_board file names.board a.why b.earlier.board a.board)
  agree file names s r (inr (inr a)) (inl b) =
      absurd (all_earlier file (as_replayed names) a.caller a.line a.word (journal_of file names r b).board
      (journal_of file names r b).scripts a.earlier a.script)
  agree file names s r (inr (inr a)) (inr (inl b)) = absurd (no_board file names.board b.why a.earlier.board b.board)
  agree file names s r (inr (inr a)) (inr (inr b)) = agree_script file (as_replayed names) s r a b

  pub verify_decides : (names : VerifyNames) → DecidesOnce (verify_form names)
  verify_decides names file s r h k = agree file names s r (decided file names s h) (decided file names r k)

-- WHAT WAS READ is what the files have
has_cheap : (file : Files) (names : VerifyNames) (b : BoardView) (texts : List (List ℕ)) (text : List ℕ)
    → HasReadJournal file names b texts text
    → cost_of_texts b texts ≤ MOST_COST → IsPlainBoard b → HasCheapJournal file names
has_cheap file names b texts text read cheap plain =
    record {
      files = record {
        board = read.board_in.has;
        scripts = subst (λ k. HasScripts file k names.scripts (length names.scripts)) read.board_in.same read.scripts;
        text = text;
        there = read.there;
      };
      plain = subst IsPlainBoard read.board_in.same plain;
      cheap = subst (λ (k : BoardView). verify_cost file names k ≤ MOST_COST) read.board_in.same
          (subst (λ (ts : List (List ℕ)). cost_of_texts b ts ≤ MOST_COST) read.texts_are cheap);
    }

on_files : (file : Files) (names : VerifyNames) (b : BoardView) (texts : List (List ℕ)) (text : List ℕ)
    (read : HasReadJournal file names b texts text)
    (P : Checked → Type 0) → P (checked_on b texts) → P (checked_on read.board_in.has.board (texts_in file names.scripts))
on_files file names b texts text read P p =
    subst (λ (k : BoardView). P (checked_on k (texts_in file names.scripts))) read.board_in.same
    (subst (λ (ts : List (List ℕ)). P (checked_on b ts)) read.texts_are p)

-- what was read after other files is what was there at first
pub journal_read : (first second third : Files) (names : VerifyNames) (tells : Bool) (b : BoardView) (scripts : List CallerView)
    (text : List ℕ)
    → ((n : List ℕ) → second n ≡ first n) → ((n : List ℕ) → third n ≡ second n) → IsTrue tells → IsAcceptedIn first names.board b
    → length scripts ≡ length names.scripts → AreScriptsIn tells second names.scripts b scripts → third names.journal ≡ Some text
    → HasReadJournal first names b (texts_of scripts) text
journal_read first second third names tells b scripts text same same_again t board count are there =
    record {
      board_in = board;
      scripts = same_scripts first second same b names.scripts (length names.scripts)
          (subst (HasScripts second b names.scripts) count (are.read t));
      texts_are = are.same t ∙ ap (texts_in second) (take_all (length scripts) names.scripts (omega (arith, count)))
          ∙ same_texts first second same names.scripts;
      there = sym (same names.journal) ∙ sym (same_again names.journal) ∙ there;
    }

pub untouched : (rig : RigView) → IsUntouched rig rig
untouched rig = record { plugs = refl; unplugs = refl }

-- the board is read, so the shelf tells it where it tells the files that are read
when : (names : VerifyNames) (shelf : ShelfView) {X : Type 0} → (IsTrue shelf.tells → X) → TellsItsFiles (verify_form names) shelf → X
when names shelf f t = f (t 1 (record { first = omega arith; last = omega arith }))

-- files that were read, and the journal checked
module _ (names : VerifyNames) (shelf shelf_now : ShelfView) (rig : RigView) (kept : KeepsShelf (verify_form names) shelf shelf_now) where
  pub verify_starved : CameToRefusal (verify_form names) shelf shelf_now rig rig status.Memory
  verify_starved = memory_wanting (verify_form names) shelf shelf_now rig rig (inl (untouched rig)) kept

  module _ (b : BoardView) (texts : List (List ℕ)) (text : List ℕ) (read : IsTrue shelf.tells
      → HasReadJournal shelf.file names b texts text)
      (cheap : cost_of_texts b texts ≤ MOST_COST) (plain : IsPlainBoard b) where
    pub verify_done : HasReadSomeJournal names b texts text → (n : ℕ) (line : List ℕ) → IsVerified (checked_on b texts) text n
        → line ≡ verified_text n → CameToSuccess (verify_form names) shelf shelf_now rig rig line
    unfolding has_cheap
    verify_done some n line v is =
        came_to_success (verify_form names) shelf shelf_now rig rig line
        (when names shelf (λ t. (n, (of-files shelf.file names (read t)).verdict)))
        (untouched rig)
        (record {
          by_files = λ t. of-files shelf.file names (read t);
          by_rig = so-some AreVerifyLike names _ _ of-files some;
        }) kept
      where
        of-files : (file : Files) (called : VerifyNames) → HasReadJournal file called b texts text → HasVerdictLine file called line
        of-files file called was =
            record {
              entries = n;
              verdict = record {
                has = has_cheap file called b texts text was cheap plain;
                verified = on_files file called b texts text was (λ x. IsVerified x text n) v;
              };
              line = is;
            }

    pub verify_faulty : (f : CheckFault) → IsVerdict f → IsFaultIn (checked_on b texts) text f
        → CameToRefusal (verify_form names) shelf shelf_now rig rig (status.Verify f)
    unfolding has_cheap
    verify_faulty f told at =
        text_refused (verify_form names) shelf shelf_now rig (status.Verify f) refl
        (when names shelf (λ t. record {
          has = has_cheap shelf.file names b texts text (read t) cheap plain;
          fault_is = on_files shelf.file names b texts text (read t) (λ x. IsFaultIn x text f) at;
        })) told (λ place no. absurd no) kept

    pub fault_told : (f : CheckFault) → (f ≡ verdict-of.Memory) ⊎ IsFaultIn (checked_on b texts) text f
        → CameToRefusal (verify_form names) shelf shelf_now rig rig (fault_status f)
    fault_told verdict-of.Memory at = verify_starved
    fault_told (verdict-of.Form n) (inl e) = absurd cc
    fault_told (verdict-of.Form n) (inr at) = verify_faulty (verdict-of.Form n) tt at
    fault_told (verdict-of.Entry i) (inl e) = absurd cc
    fault_told (verdict-of.Entry i) (inr at) = verify_faulty (verdict-of.Entry i) tt at
    fault_told (verdict-of.Open c) (inl e) = absurd cc
    fault_told (verdict-of.Open c) (inr at) = verify_faulty (verdict-of.Open c) tt at
    fault_told (verdict-of.Text n) (inl e) = absurd cc
    fault_told (verdict-of.Text n) (inr at) = verify_faulty (verdict-of.Text n) tt at

-- files that were not
module _ (names : VerifyNames) (shelf shelf_now : ShelfView) (rig : RigView) (kept : KeepsShelf (verify_form names) shelf shelf_now) where
  -- the board
  pub board_told : (s : Status) → ((place : ℕ) → (place ≡ 1 → ⊥) → shelf_now.faults place ≡ shelf.faults place)
      → IsRefusedAt 1 (IsBadBoard (IsRejectedIn shelf.tells shelf.file names.board)) (shelf.faults 1) (shelf_now.faults 1) s
      → CameToRefusal (verify_form names) shelf shelf_now rig rig s
  board_told s others refused =
      elim refused [
        | inl h ↦ subst (CameToRefusal (verify_form names) shelf shelf_now rig rig) (sym h.0)
            (file_unread (verify_form names) shelf shelf_now rig 1 (when names shelf (λ t. inl refl))
            (record { named = record { first = omega arith; last = omega arith }; rose = h.1 })
            (board_unreached (Some names.journal) (IsRejectedIn shelf.tells shelf.file names.board) shelf.faults shelf_now.faults
            (status.Read 1) others
            (inl (refl, h.1))) kept)
        | inr (inl m) ↦ subst (CameToRefusal (verify_form names) shelf shelf_now rig rig) (sym m)
            (verify_starved names shelf shelf_now rig kept)
        | inr (inr b) ↦ subst (CameToRefusal (verify_form names) shelf shelf_now rig rig) (sym b.same)
            (text_refused (verify_form names) shelf shelf_now rig (status.Board b.why) refl (when names shelf b.is_bad) tt
            (board_unreached (Some names.journal) (IsRejectedIn shelf.tells shelf.file names.board) shelf.faults shelf_now.faults
            (status.Board b.why) others
            (inr (inr (record { why = b.why; same = refl; is_bad = b.is_bad })))) kept)
      ]

  -- a script, over the board that was read
  pub script_told : (b : BoardView) (mid : ShelfView) (s : Status) → ((n : List ℕ) → mid.file n ≡ shelf.file n)
      → ((place : ℕ) → (place ≡ 1 → ⊥) → mid.faults place ≡ shelf.faults place)
      → ((place : ℕ) → ((3 ≤ place) × (place < 3 + length names.scripts) → ⊥) → shelf_now.faults place ≡ mid.faults place)
      → (IsTrue shelf.tells → IsAcceptedIn shelf.file names.board b)
      → IsRefusedScript 3 shelf.tells mid.file b names.scripts mid.faults shelf_now.faults s
      → CameToRefusal (verify_form names) shelf shelf_now rig rig s
  script_told b mid s same others behind board r =
      elim r.refused [
        | inl h ↦ subst (CameToRefusal (verify_form names) shelf shelf_now rig rig) (sym h.0)
            (file_unread (verify_form names) shelf shelf_now rig (3 + r.caller)
            (when names shelf (λ t. inr (inl (record { caller = r.caller; at = refl; earlier = earlier t }))))
            (record {
              named = record { first = omega arith; last = (let low = r.known in omega (arith, low)) };
              rose = subst (λ (k : ℕ). Rose k (shelf_now.faults (3 + r.caller))) (others (3 + r.caller)
                  (λ e. absurd (omega (arith, e)))) h.1;
            }) (rest (status.Read (3 + r.caller)) (inl (refl, h.1))) kept)
        | inr (inl m) ↦ subst (CameToRefusal (verify_form names) shelf shelf_now rig rig) (sym m)
            (verify_starved names shelf shelf_now rig kept)
        | inr (inr n) ↦ subst (CameToRefusal (verify_form names) shelf shelf_now rig rig) (sym n.same)
            (text_refused (verify_form names) shelf shelf_now rig (status.Script r.caller n.line n.word) refl
            (when names shelf (λ t. (
              earlier t,
              subst (λ k. HasBadScript shelf.file k (script_name names.scripts r.caller) n.line n.word) (board t).same
                  (same_bad shelf.file mid.file b (script_name names.scripts r.caller) n.line n.word same (n.is_bad t)),
            ))) tt (rest (status.Script r.caller n.line n.word) (inr
            (inr (record { line = n.line; word = n.word; same = refl; is_bad = n.is_bad })))) kept)
      ]
    where
      earlier : IsTrue shelf.tells → HasScriptsBefore shelf.file (as_replayed names) r.caller
      earlier t = record {
        known = r.known;
        board = (board t).has;
        before = subst (λ k. HasScripts shelf.file k names.scripts r.caller) (board t).same
            (same_scripts shelf.file mid.file same b names.scripts r.caller (r.before t));
      }

      rest : (q : Status) → IsRefusedAt (3 + r.caller)
          (IsBadScript r.caller (λ line word. IsTrue shelf.tells → HasBadScript mid.file b (script_name names.scripts r.caller) line word))
          (mid.faults (3 + r.caller)) (shelf_now.faults (3 + r.caller)) q
          → (other : ℕ) → IsSkipped (Some names.journal) q other → shelf_now.faults other ≡ shelf.faults other
      rest q refused =
          scripts_unreached (Some names.journal) shelf.tells mid.file b names.scripts shelf.faults mid.faults shelf_now.faults q others
          behind
          (record { caller = r.caller; known = r.known; before = r.before; kept = r.kept; refused = refused })

  -- the journal
  pub journal_told : (b : BoardView) (s : Status) (mid : ℕ) → mid ≡ shelf.faults 2 → (IsTrue shelf.tells
      → IsAcceptedIn shelf.file names.board b)
      → (IsTrue shelf.tells → HasScripts shelf.file b names.scripts (length names.scripts))
      → ((s ≡ status.Read 2) × Rose mid (shelf_now.faults 2)) ⊎ (s ≡ status.Memory)
      → CameToRefusal (verify_form names) shelf shelf_now rig rig s
  journal_told b s mid same board scripts refused =
      elim refused [
        | inl h ↦ subst (CameToRefusal (verify_form names) shelf shelf_now rig rig) (sym h.0)
            (file_unread (verify_form names) shelf shelf_now rig 2
            (when names shelf (λ t. inr (inr (
              refl,
              (board t).has,
              subst (λ k. HasScripts shelf.file k names.scripts (length names.scripts))
                  (board t).same (scripts t),
            ))))
            (record {
              named = record { first = omega arith; last = omega arith };
              rose = subst (λ (k : ℕ). Rose k (shelf_now.faults 2)) same h.1;
            }) (λ other after. absurd (after.0 refl)) kept)
        | inr m ↦ subst (CameToRefusal (verify_form names) shelf shelf_now rig rig) (sym m) (verify_starved names shelf shelf_now rig kept)
      ]

  -- the cost
  pub cost_told : (b : BoardView) (texts : List (List ℕ)) (text : List ℕ) (s : Status)
      → (IsTrue shelf.tells → HasReadJournal shelf.file names b texts text) → IsTooDear (cost_of_texts b texts) s
      → CameToRefusal (verify_form names) shelf shelf_now rig rig s
  cost_told b texts text s read d =
      subst (CameToRefusal (verify_form names) shelf shelf_now rig rig) (sym d.same)
      (text_refused (verify_form names) shelf shelf_now rig (status.Cost (cost_of_texts b texts)) refl
      (when names shelf (λ t. record {
        files = record {
          board = (read t).board_in.has;
          scripts = subst (λ k. HasScripts shelf.file k names.scripts (length names.scripts)) (read t).board_in.same (read t).scripts;
          text = text;
          there = (read t).there;
        };
        same = ap (λ (k : BoardView). cost_of_texts k texts) (read t).board_in.same
            ∙ ap (cost_of_texts (read t).board_in.has.board) (read t).texts_are;
        dear = d.dear;
      })) d.dear (λ place no. absurd no) kept)

-- a success was the line of the journal
pub ended_verified : (names : VerifyNames) (old new : Outside) (result : Status) → HasEndedAs (verify_form names) old new result
    → IsTrue old.shelf.tells → IsTrue old.sink.tells → result ≡ status.Ok → HasVerified old.shelf.file names old.sink.bytes new.sink.bytes
ended_verified names old new result h shelf sink ok =
    let s = h.said ok in record { text = s.text; verdict = s.answer.by_files shelf; written = s.written sink }
