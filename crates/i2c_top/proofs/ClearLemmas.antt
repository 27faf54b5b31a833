-- How a call of `clear` ends: its file and the number of the bus decide one status, and a success is the lines of its board. No
-- induction.
use Rattle.i2c_top.proofs.Cited.{◌≡◌, ℕ, ◌<◌, ◌≤◌, ◌⊎◌, inl, inr, IsTrue, Bool, List, length, refl, sym, ◌∙◌, ap, subst, arith, Result}
use Rattle.i2c_top.proofs.Cited.{BoardView, World, opening_world, IsSpelled, HasRejected, CameToSuccess, CameToRefusal, HasEndedAs, Files}
use Rattle.i2c_top.proofs.Cited.{IsAnyName, DecidesOnce, TellsItsFiles, IsAcceptedIn, IsRejectedIn, IsRefusedAt, IsBadBoard, ShelfView}
use Rattle.i2c_top.proofs.Cited.{RigView, Outside, KeepsBut, IsUntouched, clear_form, BoardRefusal, Status}
use Rattle.bus_clear.specs.Cuts.{level_at, pulses_of}
use Rattle.bus_clear.specs.Receives.{RootClears}
use Rattle.i2c_base.specs.declared.errno.Errno.{Errno}
use Rattle.i2c_top.specs.forms.Clears.{HasRoot, LacksRoot, IsClearCause, cleared_lines, cleared_text, HasClear, HasCleared}
use Rattle.i2c_top.specs.declared.forms.clear.ClearAt.{ClearAt}
use Rattle.i2c_top.specs.declared.status.Status.TheVariants as status
use Rattle.i2c_top.proofs.BoardLemmas.{no_board, one_why, one_board_in}
use Rattle.i2c_top.proofs.EndingLemmas.{came_to_success, memory_wanting, file_unread, text_refused}
use Rattle.i2c_top.proofs.SomeFiles.{so-some, some-board}

-- the three statuses that are decided
record IsRejectedAs (file : Files) (name : List ℕ) (s : Status) : Type 0 where
  why : BoardRefusal
  same : s ≡ status.Board why
  board : HasRejected file name why

record IsNoRootAs (file : Files) (name : List ℕ) (bus : ℕ) (s : Status) : Type 0 where
  same : s ≡ status.NoRoot bus
  lacks : LacksRoot file name bus bus

abbrev Decided : Files → List ℕ → ℕ → Status → Type 0
Decided file name bus s = ((s ≡ status.Ok) × HasRoot file name bus) ⊎ (IsRejectedAs file name s ⊎ IsNoRootAs file name bus s)

decided : (file : Files) (name : List ℕ) (bus : ℕ) (s : Status) → IsClearCause file name bus s → Decided file name bus s
decided file name bus status.Ok h = inl (refl, h)
decided file name bus (status.Board why) h = inr (inl (record { why = why; same = refl; board = h }))
decided file name bus (status.NoRoot n) h =
    inr (inr (record {
      same = ap (λ m. status.NoRoot m) h.same;
      lacks = record { same = refl; accepted = h.accepted; no_root = h.no_root };
    }))
decided file name bus _ h = absurd h

-- a root that is there isn't lacking
no_lack : (file : Files) (name : List ℕ) (bus : ℕ) → HasRoot file name bus → LacksRoot file name bus bus → ⊥
no_lack file name bus h l =
    let e : length h.accepted.board.roots ≡ length l.accepted.board.roots =
    ap (λ (b : BoardView). length b.roots) (one_board_in file name h.accepted l.accepted) in
    let a : bus < length h.accepted.board.roots = h.root in
    let c : length l.accepted.board.roots ≤ bus = l.no_root in
    omega (arith, e, a, c)

one_cause : (file : Files) (name : List ℕ) (bus : ℕ) (s r : Status) → Decided file name bus s → Decided file name bus r → r ≡ s
one_cause file name bus s r (inl a) (inl b) = b.0 ∙ sym a.0
one_cause file name bus s r (inl a) (inr (inl b)) = absurd (no_board file name b.why a.1.accepted b.board)
one_cause file name bus s r (inl a) (inr (inr b)) = absurd (no_lack file name bus a.1 b.lacks)
one_cause file name bus s r (inr (inl a)) (inl b) = absurd (no_board file name a.why b.1.accepted a.board)
one_cause file name bus s r (inr (inl a)) (inr (inl b)) =
    b.same ∙ ap (λ w. status.Board w) (one_why file name a.why b.why a.board b.board) ∙ sym a.same
one_cause file name bus s r (inr (inl a)) (inr (inr b)) = absurd (no_board file name a.why b.lacks.accepted a.board)
one_cause file name bus s r (inr (inr a)) (inl b) = absurd (no_lack file name bus b.1 a.lacks)
one_cause file name bus s r (inr (inr a)) (inr (inl b)) = absurd (no_board file name b.why a.lacks.accepted b.board)
one_cause file name bus s r (inr (inr a)) (inr (inr b)) = b.same ∙ sym a.same

pub clear_decides : (name : List ℕ) (at : ClearAt) → DecidesOnce (clear_form name at)
clear_decides name at file s r h k = one_cause file name at.bus s r (decided file name at.bus s h) (decided file name at.bus r k)

-- the lines of what a root comes to are those that its world says
pub lines_told : (b : BoardView) (at : ClearAt) (root : ℕ) (high : Bool) (pulses : ℕ) (read : Result ℕ Errno) → root ≡ at.bus
    → RootClears b root at.addr at.cut high pulses read → cleared_lines at.cut high pulses read ≡ cleared_text b at
lines_told b at root high pulses read same clears =
    let c : RootClears b at.bus at.addr at.cut high pulses read =
    subst (λ (r : ℕ). RootClears b r at.addr at.cut high pulses read) same clears in
    let w : World = opening_world b at.bus in
    ap (λ h. cleared_lines at.cut h pulses read) c.level
    ∙ (ap (λ p. cleared_lines at.cut (level_at w at.addr at.cut) p read) c.pulses_are
    ∙ ap (cleared_lines at.cut (level_at w at.addr at.cut) (pulses_of w at.addr at.cut)) c.reply)

abbrev root_in : (file : Files) (name : List ℕ) (bus : ℕ) (board : BoardView) → IsAcceptedIn file name board → bus < length board.roots
    → HasRoot file name bus
root_in file name bus board a root = record { accepted = a.has; root = subst (λ (b : BoardView). bus < length b.roots) a.same root }

module _ (name : List ℕ) (at : ClearAt) (shelf shelf_now : ShelfView) (rig : RigView) (kept : KeepsBut
    (λ place. place ≡ 1) shelf shelf_now) where
  -- the file is read, so the shelf tells it where it tells the files that are read
  when : {X : Type 0} → (IsTrue shelf.tells → X) → TellsItsFiles (clear_form name at) shelf → X
  when f t = f (t 1 refl)

  untouched : IsUntouched rig rig
  untouched = record { plugs = refl; unplugs = refl }

  -- a root of a board that was read is a success, by its lines
  pub clear_done : (board : BoardView) (text : List ℕ) → (IsTrue shelf.tells → IsAcceptedIn shelf.file name board) → IsSpelled board
      → at.bus < length board.roots → text ≡ cleared_text board at → CameToSuccess (clear_form name at) shelf shelf_now rig rig text
  clear_done board text read spelled root lines =
      came_to_success (clear_form name at) shelf shelf_now rig rig text (when (λ t. root_in shelf.file name at.bus board (read t) root))
      untouched
      (record {
        by_files = λ t. of-file shelf.file name (read t);
        by_rig = so-some IsAnyName name _ _ of-file (some-board name board spelled);
      }) kept
    where
      of-file : (file : Files) (called : List ℕ) → IsAcceptedIn file called board → HasClear file called at text
      of-file file called a =
          record { has = root_in file called at.bus board a root; lines = lines ∙ ap (λ (b : BoardView). cleared_text b at) a.same }

  pub clear_starved : CameToRefusal (clear_form name at) shelf shelf_now rig rig status.Memory
  clear_starved = memory_wanting (clear_form name at) shelf shelf_now rig rig (inl untouched) kept

  skipped : (place : ℕ) → 1 < place → shelf_now.faults place ≡ shelf.faults place
  skipped place behind = kept.others place (λ e. absurd (omega (arith, e, behind)))

  -- a board that lacks the root is a refusal
  pub no_root_refused : (board : BoardView) (s : Status) → (IsTrue shelf.tells → IsAcceptedIn shelf.file name board)
      → (s ≡ status.NoRoot at.bus) × (length board.roots ≤ at.bus)
      → CameToRefusal (clear_form name at) shelf shelf_now rig rig s
  no_root_refused board s read is =
      subst (CameToRefusal (clear_form name at) shelf shelf_now rig rig) (sym is.0)
      (text_refused (clear_form name at) shelf shelf_now rig (status.NoRoot at.bus) refl
      (when (λ t. record {
        same = refl;
        accepted = (read t).has;
        no_root = subst (λ (b : BoardView). length b.roots ≤ at.bus) (read t).same is.1;
      }))
      (inr refl) skipped kept)

  -- and so is one that was not read
  pub clear_refused : (s : Status)
      → IsRefusedAt 1 (IsBadBoard (IsRejectedIn shelf.tells shelf.file name)) (shelf.faults 1) (shelf_now.faults 1) s
      → CameToRefusal (clear_form name at) shelf shelf_now rig rig s
  clear_refused s refused =
      elim refused [
        | inl h ↦ subst (CameToRefusal (clear_form name at) shelf shelf_now rig rig) (sym h.0)
            (file_unread (clear_form name at) shelf shelf_now rig 1 (when (λ t. refl)) (record { named = refl; rose = h.1 }) skipped kept)
        | inr (inl m) ↦ subst (CameToRefusal (clear_form name at) shelf shelf_now rig rig) (sym m) clear_starved
        | inr (inr b) ↦ subst (CameToRefusal (clear_form name at) shelf shelf_now rig rig) (sym b.same)
            (text_refused (clear_form name at) shelf shelf_now rig (status.Board b.why) refl (when b.is_bad)
            (inl (b.why, refl)) skipped kept)
      ]

-- a success was the lines of the board
pub ended_cleared : (name : List ℕ) (at : ClearAt) (old new : Outside) (result : Status) → HasEndedAs (clear_form name at) old new result
    → IsTrue old.shelf.tells
    → IsTrue old.sink.tells → result ≡ status.Ok → HasCleared old.shelf.file name at old.sink.bytes new.sink.bytes
ended_cleared name at old new result h shelf sink ok =
    let s = h.said ok in record { text = s.text; clear = s.answer.by_files shelf; written = s.written sink }
