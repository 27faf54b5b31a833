-- How a call of `replay` or `run` ends: its report, and what its status tells. No induction.
use Rattle.i2c_top.proofs.Cited.{IsRunOver}
use Rattle.i2c_top.proofs.Cited.{◌≡◌, ℕ, ◌<◌, ◌≤◌, inl, true, false, IsTrue, IsSome, List, [], length, Option, None, Some, Result, Ok}
use Rattle.i2c_top.proofs.Cited.{Err, refl, sym, ◌∙◌, ap, subst, arith, IfOk, IfErr, is_some, unwrap_or, PortCall, BoardView}
use Rattle.i2c_top.proofs.Cited.{TargetState, CameToSuccess, CameToRefusal, HasEndedAs, HasRead, HasReadSome, IsOrderIn}
use Rattle.i2c_top.proofs.Cited.{IsFileRefusal, Files, Form, TellsItsFiles, KeepsShelf, KeepsSkipped, texts_in, Names, HasFiles}
use Rattle.i2c_top.proofs.Cited.{IsReplayAnswer, replay_form, HasRun, cost_of_texts, MOST_COST, ShelfView, RigView, Outside}
use Rattle.i2c_top.proofs.Cited.{Status}
use Rattle.std.specs.Prelude.{All}
use Rattle.std.specs.Result.{IsErrAnd}
use Rattle.std.proofs.lemmas.Bool.{false≢true}
use Rattle.i2c_top.specs.Readings.{AreNamed}
use Rattle.i2c_top.specs.forms.Replays.{HasReport, HasReplayed, reading_form}
use Rattle.i2c_top.specs.declared.status.Status.TheVariants as status
use Rattle.i2c_top.proofs.EndingLemmas.{came_to_success, text_refused, file_unread, run_refused, memory_wanting}
use Rattle.i2c_top.proofs.FileLemmas.{has_texts, cost_read, first_low, passed_on}

abbrev pub has_files : (file : Files) (names : Names) (b : BoardView) (texts : List (List ℕ)) (words : Option (List ℕ))
    → HasRead file names b texts words → cost_of_texts b texts ≤ MOST_COST → HasFiles file names
has_files file names b texts words read cheap =
    record {
      texts = has_texts file names b texts words read;
      cheap = subst (λ n. n ≤ MOST_COST) (cost_read file names b texts words read) cheap;
    }

-- the run of what was read is the report that the files ask for
has_report : (file : Files) (names : Names) (b : BoardView) (texts : List (List ℕ)) (words : Option (List ℕ)) (bytes : List ℕ)
    (logs : List (List PortCall)) (states : List TargetState) (counts : List ℕ)
    → HasRead file names b texts words → cost_of_texts b texts ≤ MOST_COST → HasRun b texts words bytes logs states counts
    → HasReport file names bytes logs states counts
has_report file names b texts words bytes logs states counts read cheap run =
    record {
      files = has_files file names b texts words read cheap;
      run =
          let board : BoardView = read.board_in.has.board in
          let over : HasRun board texts words bytes logs states counts =
          subst (λ x. HasRun x texts words bytes logs states counts) read.board_in.same run in
          let of : HasRun board (texts_in file names.scripts) words bytes logs states counts =
          subst (λ ts. HasRun board ts words bytes logs states counts) read.texts_are over in
          subst (λ ws. HasRun board (texts_in file names.scripts) ws bytes logs states counts) read.order_in.same of;
    }

unread_order : (file : Files) (schedule : Option (List ℕ)) (callers : ℕ) (words : Option (List ℕ)) → schedule ≡ None
    → IsOrderIn file schedule callers words → words ≡ None
unread_order file None callers words free is = is.same
unread_order file (Some name) callers words free is = absurd (let h : Some name ≡ None = free in cc)

-- the callers of a schedule, where there is one, are among so many
pub named_all : (callers : ℕ) (words : Option (List ℕ)) → AreNamed callers words → All (λ c. c < callers) (unwrap_or words [])
named_all callers None named = λ k d low. absurd (omega (arith, low))
named_all callers (Some words) named = named

pub read_order : (file : Files) (schedule : Option (List ℕ)) (callers : ℕ) (words : Option (List ℕ)) → IsSome schedule
    → IsOrderIn file schedule callers words → Some (unwrap_or words []) ≡ words
read_order file None callers words some is = absurd (false≢true some)
read_order file (Some name) callers words some is = ap (λ (ws : Option (List ℕ)). Some (unwrap_or ws [])) is.same ∙ sym is.same

-- where there is a schedule its words are those that were read
pub order_of_some : (names : Names) (b : BoardView) (texts : List (List ℕ)) (words : Option (List ℕ))
    (some : HasReadSome names b texts words)
    → IsSome names.schedule → Some (unwrap_or words []) ≡ words
order_of_some names b texts words some scheduled =
    read_order some.file some.called.schedule (length some.called.scripts) words (subst IsTrue
    (sym some.like.schedule) scheduled) some.so.order_in

none_like : {X : Type 0} (o p : Option X) → is_some o ≡ is_some p → p ≡ None → o ≡ None
none_like None p same none = refl
none_like (Some x) p same none = absurd (let h : true ≡ false = same ∙ ap is_some none in cc)

-- the board is read, so the shelf tells it where it tells the files that are read
pub when : (names : Names) (answer : Files → Names → RigView → List ℕ → Type 0) (shelf : ShelfView) {X : Type 0} → (IsTrue shelf.tells → X)
    → TellsItsFiles (reading_form names answer) shelf → X
when names answer shelf f t =
    let low = first_low names.schedule in f (t 1 (record { first = omega arith; last = omega (arith, low) }))

-- files that were refused are a refusal of each form that reads them; the rig is not plugged yet
module _ (names : Names) (answer : Files → Names → RigView → List ℕ → Type 0) (shelf shelf_now : ShelfView)
    (rig : RigView) where
  abbrev form : Form
  form = reading_form names answer

  pub files_refused : (s : Status) → KeepsShelf form shelf shelf_now
      → KeepsSkipped form shelf.faults shelf_now.faults s
      → IsFileRefusal shelf.tells shelf.file names shelf.faults shelf_now.faults s
      → CameToRefusal form shelf shelf_now rig rig s
  files_refused status.Memory kept skipped h =
      memory_wanting form shelf shelf_now rig rig (inl (record { plugs = refl; unplugs = refl })) kept
  files_refused (status.Read place) kept skipped h = file_unread form shelf shelf_now rig place
      (when names answer shelf h.1) h.0 skipped kept
  files_refused (status.Board why) kept skipped h =
      text_refused form shelf shelf_now rig (status.Board why) refl (when names answer shelf h)
      (record {
        cost = λ cost e. absurd (let k : status.Board why ≡ status.Cost cost = e in cc);
        schedule = λ word e. absurd (let k : status.Board why ≡ status.Schedule word = e in cc);
      }) skipped kept
  files_refused (status.Script caller line word) kept skipped h =
      text_refused form shelf shelf_now rig (status.Script caller line word) refl (when names answer shelf h)
      (record {
        cost = λ cost e. absurd (let k : status.Script caller line word ≡ status.Cost cost = e in cc);
        schedule = λ other e. absurd (let k : status.Script caller line word ≡ status.Schedule other = e in cc);
      }) skipped kept
  files_refused (status.Schedule word) kept skipped h =
      text_refused form shelf shelf_now rig (status.Schedule word) refl (when names answer shelf h.1)
      (record {
        cost = λ cost e. absurd (let k : status.Schedule word ≡ status.Cost cost = e in cc);
        schedule = λ other e. h.0;
      }) skipped kept
  files_refused (status.Cost cost) kept skipped h =
      text_refused form shelf shelf_now rig (status.Cost cost) refl (when names answer shelf h.1)
      (record {
        cost = λ other e. subst (λ n. MOST_COST < n) (let k : status.Cost cost ≡ status.Cost other = e in cc) h.0;
        schedule = λ word e. absurd (let k : status.Cost cost ≡ status.Schedule word = e in cc);
      }) skipped kept
  files_refused _ kept skipped h = absurd h

  -- .. which is passed on
  pub files_passed_on : (r : Result (List ℕ) Status) (s : Status) → IsErrAnd r (λ e. e ≡ s) → KeepsShelf form shelf shelf_now
      → KeepsSkipped form shelf.faults shelf_now.faults s
      → IsFileRefusal shelf.tells shelf.file names shelf.faults shelf_now.faults s → IfErr r (CameToRefusal form shelf shelf_now rig rig)
  files_passed_on r s is kept skipped h =
      passed_on r s (CameToRefusal form shelf shelf_now rig rig) is (files_refused s kept skipped h)

-- a run of files that were read, over the rig
module _ (names : Names) (shelf shelf_now : ShelfView) (rig rig_now : RigView) (b : BoardView) (texts : List (List ℕ))
    (words : Option (List ℕ)) (some : HasReadSome names b texts words)
    (read : IsTrue shelf.tells → HasRead shelf.file names b texts words) (cheap : cost_of_texts b texts ≤ MOST_COST)
    (kept : KeepsShelf (replay_form names) shelf shelf_now) where
  files : IsTrue shelf.tells → HasFiles shelf.file names
  files t = has_files shelf.file names b texts words (read t) cheap

  -- one that ended, by the words of the schedule, is a success of the form by its report
  pub run_done : (r : Result (List ℕ) Status) (by : Option (List ℕ)) → by ≡ words → IsRunOver rig rig_now r
      → (IsTrue rig_now.tells → IsTrue rig_now.ports_tell
      → IfOk r (λ bytes. HasRun b texts by bytes rig_now.logs rig_now.states rig_now.counts))
      → IfOk r (λ bytes. CameToSuccess (replay_form names) shelf shelf_now rig rig_now bytes)
  run_done (Ok bytes) by same over run =
      came_to_success (replay_form names) shelf shelf_now rig rig_now bytes (when names IsReplayAnswer shelf files)
      (record { plugs = over.plugs; unplugs = over.unplugs; unplugged = over.unplugged })
      (record {
        by_files = λ t tells ports.
            has_report shelf.file names b texts words bytes rig_now.logs rig_now.states rig_now.counts (read t) cheap
            (subst (λ ws. HasRun b texts ws bytes rig_now.logs rig_now.states rig_now.counts) same (run tells ports));
        by_rig = record {
          file = some.file;
          called = some.called;
          like = some.like;
          so = λ tells ports.
              has_report some.file some.called b texts words bytes rig_now.logs rig_now.states rig_now.counts some.so cheap
              (subst (λ ws. HasRun b texts ws bytes rig_now.logs rig_now.states rig_now.counts) same (run tells ports));
        };
      }) kept
  run_done (Err e) by same over run = tt

  -- with a schedule its words are those that were read
  pub scheduled_run_done : (r : Result (List ℕ) Status) {listed : List ℕ} → IsSome names.schedule → listed ≡ unwrap_or words []
      → IsRunOver rig rig_now r
      → (IsTrue rig_now.tells → IsTrue rig_now.ports_tell
      → IfOk r (λ bytes. HasRun b texts (Some listed) bytes rig_now.logs rig_now.states rig_now.counts))
      → IfOk r (λ bytes. CameToSuccess (replay_form names) shelf shelf_now rig rig_now bytes)
  scheduled_run_done r {listed} scheduled same =
      run_done r (Some listed) (ap (λ (ws : List ℕ). Some ws) same ∙ order_of_some names b texts words some scheduled)

  -- without a schedule no order was asked for
  pub free_run_done : (r : Result (List ℕ) Status) → names.schedule ≡ None → IsRunOver rig rig_now r
      → (IsTrue rig_now.tells → IsTrue rig_now.ports_tell
      → IfOk r (λ bytes. HasRun b texts None bytes rig_now.logs rig_now.states rig_now.counts))
      → IfOk r (λ bytes. CameToSuccess (replay_form names) shelf shelf_now rig rig_now bytes)
  free_run_done r free =
      run_done r None
      (sym (unread_order some.file some.called.schedule (length some.called.scripts) words
      (none_like some.called.schedule names.schedule some.like.schedule free) some.so.order_in))

-- one that failed is a refusal of each form that runs it
module _ {names : Names} (answer : Files → Names → RigView → List ℕ → Type 0) {shelf shelf_now : ShelfView}
    {rig rig_now : RigView} {b : BoardView} {texts : List (List ℕ)} {words : Option (List ℕ)} {r : Result (List ℕ) Status}
    (read : IsTrue shelf.tells → HasRead shelf.file names b texts words) (cheap : cost_of_texts b texts ≤ MOST_COST)
    (kept : KeepsShelf (reading_form names answer) shelf shelf_now) where
  pub run_failed : IsRunOver rig rig_now r → IfErr r (CameToRefusal (reading_form names answer) shelf shelf_now rig rig_now)
  run_failed =
      run_refused (reading_form names answer) shelf shelf_now rig rig_now r refl
      (when names answer shelf (λ t. has_files shelf.file names b texts words (read t) cheap)) kept

-- a success was the report
pub ended_replayed : (names : Names) (old new : Outside) (result : Status) → HasEndedAs (replay_form names) old new result
    → IsTrue old.shelf.tells
    → IsTrue old.sink.tells → IsTrue new.rig.tells → IsTrue new.rig.ports_tell → result ≡ status.Ok
    → HasReplayed old.shelf.file names old.sink.bytes new.sink.bytes new.rig.logs new.rig.states new.rig.counts
ended_replayed names old new result h shelf sink rig ports ok =
    let s = h.said ok in record { bytes = s.text; report = s.answer.by_files shelf rig ports; written = s.written sink }
