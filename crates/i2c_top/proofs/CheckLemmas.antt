-- How a call of `check` ends: its file decides one status, and a success is the line of its board. No induction.
use Rattle.i2c_top.proofs.Cited.{◌≡◌, ℕ, ◌<◌, ◌⊎◌, inl, inr, false, IsTrue, List, [], refl, sym, ◌∙◌, ap, subst, arith, BoardView}
use Rattle.i2c_top.proofs.Cited.{IsSpelled, HasAccepted, HasRejected, CameToSuccess, CameToRefusal, HasEndedAs, Files, IsAnyName}
use Rattle.i2c_top.proofs.Cited.{DecidesOnce, TellsItsFiles, IsAcceptedIn, IsRejectedIn, IsRefusedAt, IsBadBoard, ShelfView, RigView}
use Rattle.i2c_top.proofs.Cited.{Outside, KeepsBut, IsUntouched, accepted_text, check_form, BoardRefusal, Status}
use Rattle.i2c_top.specs.forms.Checks.{IsCheckCause, HasCheck, HasChecked}
use Rattle.i2c_top.specs.declared.status.Status.TheVariants as status
use Rattle.i2c_top.proofs.BoardLemmas.{no_board, one_why}
use Rattle.i2c_top.proofs.EndingLemmas.{came_to_success, memory_wanting, file_unread, text_refused}
use Rattle.i2c_top.proofs.SomeFiles.{so-some, some-board}

-- the two statuses that the file decides
record DecideChecked (file : Files) (name : List ℕ) (s : Status) : Type 0 where
  why : BoardRefusal
  same : s ≡ status.Board why
  board : HasRejected file name why

abbrev DecideCheck : Files → List ℕ → Status → Type 0
DecideCheck file name s = ((s ≡ status.Ok) × HasAccepted file name) ⊎ DecideChecked file name s

decided_check : (file : Files) (name : List ℕ) (s : Status) → IsCheckCause file name s → DecideCheck file name s
decided_check file name status.Ok h = inl (refl, h)
decided_check file name (status.Board why) h = inr (record { why = why; same = refl; board = h })
decided_check file name _ h = absurd h

check_cause : (file : Files) (name : List ℕ) (s r : Status) → DecideCheck file name s → DecideCheck file name r → r ≡ s
check_cause file name s r (inl a) (inl b) = b.0 ∙ sym a.0
check_cause file name s r (inl a) (inr b) = absurd (no_board file name b.why a.1 b.board)
check_cause file name s r (inr a) (inl b) = absurd (no_board file name a.why b.1 a.board)
check_cause file name s r (inr a) (inr b) = b.same ∙ ap (λ w. status.Board w) (one_why file name a.why b.why a.board b.board) ∙ sym a.same

pub check_decides : (name : List ℕ) → DecidesOnce (check_form name)
check_decides name file s r h k = check_cause file name s r (decided_check file name s h) (decided_check file name r k)

module _ (name : List ℕ) (shelf shelf_now : ShelfView) (rig : RigView) (kept : KeepsBut (λ place. place ≡ 1) shelf shelf_now) where
  -- the file is read, so the shelf tells it where it tells the files that are read
  when : {X : Type 0} → (IsTrue shelf.tells → X) → TellsItsFiles (check_form name) shelf → X
  when f t = f (t 1 refl)

  untouched : IsUntouched rig rig
  untouched = record { plugs = refl; unplugs = refl }

  -- a board that was read is a success, by its line
  pub check_done : (board : BoardView) (text : List ℕ) → (IsTrue shelf.tells → IsAcceptedIn shelf.file name board)
      → IsSpelled board → text ≡ accepted_text board
      → CameToSuccess (check_form name) shelf shelf_now rig rig text
  check_done board text read spelled line =
      came_to_success (check_form name) shelf shelf_now rig rig text (when (λ t. (read t).has)) untouched
      (record {
        by_files = λ t. of-file shelf.file name (read t);
        by_rig = so-some IsAnyName name _ _ of-file (some-board name board spelled);
      }) kept
    where
      of-file : (file : Files) (called : List ℕ) → IsAcceptedIn file called board → HasCheck file called text
      of-file file called a = record { accepted = a.has; line = line ∙ ap accepted_text a.same }

  pub check_starved : CameToRefusal (check_form name) shelf shelf_now rig rig status.Memory
  check_starved = memory_wanting (check_form name) shelf shelf_now rig rig (inl untouched) kept

  -- one that was not is a refusal
  pub check_refused : (s : Status)
      → IsRefusedAt 1 (IsBadBoard (IsRejectedIn shelf.tells shelf.file name)) (shelf.faults 1) (shelf_now.faults 1) s
      → CameToRefusal (check_form name) shelf shelf_now rig rig s
  check_refused s refused =
      elim refused [
        | inl h ↦ subst (CameToRefusal (check_form name) shelf shelf_now rig rig) (sym h.0)
            (file_unread (check_form name) shelf shelf_now rig 1 (when (λ t. refl)) (record { named = refl; rose = h.1 }) skipped kept)
        | inr (inl m) ↦ subst (CameToRefusal (check_form name) shelf shelf_now rig rig) (sym m) check_starved
        | inr (inr b) ↦ subst (CameToRefusal (check_form name) shelf shelf_now rig rig) (sym b.same)
            (text_refused (check_form name) shelf shelf_now rig (status.Board b.why) refl (when b.is_bad) (b.why, refl) skipped kept)
      ]
    where
      skipped : (place : ℕ) → 1 < place → shelf_now.faults place ≡ shelf.faults place
      skipped place behind = kept.others place (λ e. absurd (omega (arith, e, behind)))

-- a success was the line of the board
pub ended_checked : (name : List ℕ) (old new : Outside) (result : Status) → HasEndedAs (check_form name) old new result
    → IsTrue old.shelf.tells
    → IsTrue old.sink.tells → result ≡ status.Ok → HasChecked old.shelf.file name old.sink.bytes new.sink.bytes
ended_checked name old new result h shelf sink ok =
    let s = h.said ok in record { text = s.text; check = s.answer.by_files shelf; written = s.written sink }

-- a rig that no one asks of
abbrev pub no_rig : RigView
no_rig = record {
  tells = false;
  ports_tell = false;
  faults = 0;
  plugs = 0;
  unplugs = 0;
  plugged = false;
  logs = [];
  states = [];
  counts = [];
}
