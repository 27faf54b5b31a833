-- How a call of `gen` ends: no file decides it, and a success is the summary of its run. No induction.
use Rattle.i2c_top.proofs.Cited.{IsRunOver}
use Rattle.i2c_top.proofs.Cited.{◌≡◌, ℕ, inl, false, IsTrue, List, [], None, Some, Result, Ok, Err, refl, sym, ◌∙◌, subst, IfOk, IfErr}
use Rattle.i2c_top.proofs.Cited.{CallerView, BoardView, PortCall, TargetState, texts_of, HasRunTold, name_in}
use Rattle.i2c_top.proofs.Cited.{CameToSuccess, CameToRefusal, IsRefusalWritten, HasEndedAs, DecidesOnce, own_of, KeepsShelf, Class, Done}
use Rattle.i2c_top.proofs.Cited.{Misused, Refused, Unread, NoRig, Silent, class_of, ShelfView, RigView, Outside, summary_of}
use Rattle.i2c_top.proofs.Cited.{gen_form, Status}
use Rattle.i2c_gen.specs.Made.{AreMade, IsSchedule}
use Rattle.i2c_gen.specs.Scripts.{scripts_of, schedule_of}
use Rattle.i2c_gen.specs.declared.plan.Plan.{Plan}
use Rattle.i2c_top.specs.Endings.{name_by_class}
use Rattle.i2c_top.specs.forms.Generations.{HasSummary, HasGenerated}
use Rattle.i2c_top.specs.declared.status.Status.TheVariants as status
use Rattle.i2c_top.proofs.EndingLemmas.{came_to_success, memory_wanting, run_refused}

pub gen_decides : (p : Plan) → DecidesOnce (gen_form p)
gen_decides p file s r h k = k ∙ sym h

-- no file is read, so no refusal has a file's name
nameless : (p : Plan) (s : Status) (c : Class) (words others : List (List ℕ)) → own_of (gen_form p) s c
    → name_by_class words c ≡ name_by_class others c
nameless p s Done words others own = refl
nameless p s Misused words others own = refl
nameless p s Refused words others own = refl
nameless p s (Unread place) words others own = absurd own
nameless p s NoRig words others own = refl
nameless p s Silent words others own = refl

module _ (p : Plan) (shelf : ShelfView) (rig rig_now : RigView) where
  kept : KeepsShelf (gen_form p) shelf shelf
  kept = record { words = refl; files = λ name. refl; others = λ place no. refl }

  -- no memory for what is made
  pub gen_starved : (e : Status) → e ≡ status.Memory → CameToRefusal (gen_form p) shelf shelf rig rig e
  gen_starved e is = subst (CameToRefusal (gen_form p) shelf shelf rig rig) (sym is)
      (memory_wanting (gen_form p) shelf shelf rig rig (inl (record { plugs = refl; unplugs = refl })) kept)

  -- a run that ended is a success, by its summary
  pub gen_done : (r : Result (List ℕ) Status) → IsRunOver rig rig_now r
      → (IsTrue rig_now.tells → IsTrue rig_now.ports_tell → IfOk r (λ bytes. HasSummary p bytes rig_now.logs rig_now.states rig_now.counts))
      → IfOk r (λ bytes. CameToSuccess (gen_form p) shelf shelf rig rig_now bytes)
  gen_done (Ok bytes) over run =
      came_to_success (gen_form p) shelf shelf rig rig_now bytes (λ t. refl)
      (record { plugs = over.plugs; unplugs = over.unplugs; unplugged = over.unplugged })
      (record { by_files = λ t. run; by_rig = run }) kept
  gen_done (Err e) over run = tt

  -- one that failed is a refusal
  pub gen_failed : (r : Result (List ℕ) Status) → IsRunOver rig rig_now r → IfErr r (CameToRefusal (gen_form p) shelf shelf rig rig_now)
  gen_failed r = run_refused (gen_form p) shelf shelf rig rig_now r refl (λ t. refl) kept

-- a run of what was made is that of the plan
pub made_summary : (p : Plan) (board : BoardView) (scripts : List CallerView) (words : List ℕ) (r : Result (List ℕ) Status)
    (logs : List (List PortCall)) (states : List TargetState) (counts : List ℕ) → AreMade p board scripts → IsSchedule p words
    → IfOk r (λ bytes. HasRunTold (summary_of p) board (texts_of scripts) (Some words) bytes logs states counts)
    → IfOk r (λ bytes. HasSummary p bytes logs states counts)
made_summary p board scripts words (Ok bytes) logs states counts made schedule run =
    subst (λ (b : BoardView). HasRunTold (summary_of p) b (scripts_of p) (Some (schedule_of p)) bytes logs states counts) made.board_is
    (subst (λ (ts : List (List ℕ)). HasRunTold (summary_of p) board ts (Some (schedule_of p)) bytes logs states counts) made.texts
    (subst (λ (ws : List ℕ). HasRunTold (summary_of p) board (texts_of scripts) (Some ws) bytes logs states counts) schedule.same run))
made_summary p board scripts words (Err e) logs states counts made schedule run = tt

-- what was written for a refusal has no name in it, whatever the words are
pub gen_refusal : {X : Type 0} (p : Plan) (old new : Outside) (words : List (List ℕ)) (r : Result X Status) (result : Status)
    → IfErr r (CameToRefusal (gen_form p) old.shelf new.shelf old.rig new.rig)
    → IfErr r (λ e. IsRefusalWritten old.sink new.sink e (name_in words e) result)
    → IfErr r (λ e. IsRefusalWritten old.sink new.sink e (name_in old.shelf.words e) result)
gen_refusal p old new words (Ok x) result refused written = tt
gen_refusal p old new words (Err e) result refused written =
    subst (λ name. IsRefusalWritten old.sink new.sink e name result) (nameless p e (class_of e) words old.shelf.words refused.own) written

-- a success was the summary
pub ended_generated : (p : Plan) (old new : Outside) (result : Status) → HasEndedAs (gen_form p) old new result
    → IsTrue old.sink.tells → IsTrue new.rig.tells → IsTrue new.rig.ports_tell → result ≡ status.Ok
    → HasGenerated p old.sink.bytes new.sink.bytes new.rig.logs new.rig.states new.rig.counts
ended_generated p old new result h sink rig ports ok =
    let s = h.said ok in record { bytes = s.text; summary = s.answer.by_rig rig ports; written = s.written sink }

-- a shelf that no one asks of
abbrev pub no_shelf : ShelfView
no_shelf = record { tells = false; words = []; file = λ name. None; faults = λ place. 0 }
