-- How a call with one file more ends: what each refusal of its files comes from, and what a run of them comes to. No induction.
use Rattle.i2c_top.proofs.Cited.{IsRunOver}
use Rattle.i2c_top.proofs.Cited.{◌≡◌, ◌⊎◌, ℕ, ◌+◌, ◌<◌, ◌≤◌, inl, inr, Bool, true, false, IsTrue, List, length, Option, Some, if◌then◌else◌, Result, Ok, Err, refl, sym}
use Rattle.i2c_top.proofs.Cited.{◌∙◌, ap, subst, arith, IfOk, IfErr, take_all, CallerView, PortCall, BoardView, TargetState}
use Rattle.i2c_top.proofs.Cited.{Rose, CameToRefusal, CameToSuccess, HasEndedAs, Files, TellsItsFiles}
use Rattle.i2c_top.proofs.Cited.{KeepsShelf, AreScriptsIn, IsAcceptedIn, IsRejectedIn, IsRefusedAt}
use Rattle.i2c_top.proofs.Cited.{IsRefusedScript, IsScheduleIn, IsBadBoard, IsTooDear, MOST_COST, cost_of_texts, texts_of, script_name}
use Rattle.i2c_top.proofs.Cited.{HasBadSchedule, HasBadScript, HasScripts, texts_in, ShelfView, RigView, Outside, KeepsBut}
use Rattle.i2c_top.proofs.Cited.{HasScriptsBefore, Status}
use Rattle.i2c_top.specs.Readings.{HasReadExtra, HasReadSomeExtra, IsBadExtra, IsExtraIn, IsBadSchedule}
use Rattle.i2c_top.specs.Status.{Refused as IsRefused, class_of}
use Rattle.i2c_top.specs.forms.Extras.{ExtraNames, ExtraRow, HasExtraFiles, HasExtraReport, HasExtraScripts, HasExtraTexts, HasMisspelled}
use Rattle.i2c_top.specs.forms.Extras.{HasSpelled, HasWrittenExtra, IsExtraAfter, IsExtraCause, IsExtraFault, IsExtraFile, IsExtraPlace, IsExtraRefusal}
use Rattle.i2c_top.specs.forms.Extras.{IsExtraRow, IsExtraSkipped, IsOfExtra, as_run, extra_form, text_at}
use Rattle.i2c_top.specs.declared.status.Status.TheVariants as status
use Rattle.i2c_top.proofs.EndingLemmas.{came_to_success, memory_wanting, file_unread, run_refused, text_refused}
use Rattle.i2c_top.proofs.FileLemmas.{kept_then, same_bad, same_scripts, same_texts}
use Rattle.i2c_top.proofs.VerifyLemmas.{untouched}

module _ {V : Type 0} (x : ExtraRow V) where
  -- ---- what is read after a place is another
  after_first : (other : ℕ) → IsExtraAfter 1 other → other ≡ 1 → ⊥
  after_first other a e =
      elim a.later [
        | inl h ↦ absurd (omega (arith, e, h))
        | inr (inl h) ↦ absurd (omega (arith, e, h))
        | inr (inr h) ↦ absurd (omega (arith, e, h))
      ]

  -- ---- where its text stands
  pub text_in_word : (file : Files) (word : List ℕ) → x.in_word ≡ true → text_at x file word ≡ Some word
  text_in_word file word is = ap (λ (b : Bool). if b then Some word else file word) is

  pub text_in_file : (file : Files) (word : List ℕ) → x.in_word ≡ false → text_at x file word ≡ file word
  text_in_file file word is = ap (λ (b : Bool). if b then Some word else file word) is

  -- ---- what a text spells
  pub extra_there : (file : Files) (b : BoardView) (name text : List ℕ) (r : Result V Status) → text_at x file name ≡ Some text
      → IfOk r (x.spells b text) → IfOk r (IsExtraIn x file b name)
  extra_there file b name text (Ok v) there is =
      record { has = record { text = text; there = there; value = v; spells = is }; same = refl }
  extra_there file b name text (Err e) there is = tt

  -- ---- such a file that is the same
  same_text : (file file_now : Files) (name : List ℕ) → ((n : List ℕ) → file_now n ≡ file n) → text_at x file_now name ≡ text_at x file name
  same_text file file_now name same = ap (λ (o : Option (List ℕ)). if x.in_word then Some name else o) (same name)

  pub same_extra : (file file_now : Files) (b : BoardView) (name : List ℕ) (v : V) → ((n : List ℕ) → file_now n ≡ file n)
      → IsExtraIn x file_now b name v → IsExtraIn x file b name v
  same_extra file file_now b name v same is =
      record {
        has = record { text = is.has.text; there = sym (same_text file file_now name same) ∙ is.has.there; value = is.has.value; spells = is.has.spells };
        same = is.same;
      }

  same_words : (file file_now : Files) (name : List ℕ) (callers : ℕ) (words : List ℕ) → ((n : List ℕ) → file_now n ≡ file n)
      → IsScheduleIn file_now name callers words → IsScheduleIn file name callers words
  same_words file file_now name callers words same is =
      record {
        has = record { text = is.has.text; words = is.has.words; there = sym (same name) ∙ is.has.there; read = is.has.read };
        same = is.same;
      }

  -- what was read after other files is what was there at first
  pub extra_read : (first second third fourth : Files) (names : ExtraNames) (tells : Bool) (b : BoardView) (scripts : List CallerView)
      (v : V)
      (words : List ℕ) (callers : ℕ) → ((n : List ℕ) → second n ≡ first n) → ((n : List ℕ) → third n ≡ first n)
      → ((n : List ℕ) → fourth n ≡ first n) → IsTrue tells → IsAcceptedIn first names.board b → length scripts ≡ length names.scripts
      → AreScriptsIn tells second names.scripts b scripts → IsExtraIn x third b names.extra v → callers ≡ length names.scripts
      → IsScheduleIn fourth names.schedule callers words → HasReadExtra x first names b v (texts_of scripts) words
  extra_read first second third fourth names tells b scripts v words callers same2 same3 same4 t board count are extra known words_in =
      record {
        board_in = board;
        scripts = same_scripts first second same2 b names.scripts (length names.scripts)
            (subst (HasScripts second b names.scripts) count (are.read t));
        texts_are = are.same t ∙ ap (texts_in second) (take_all (length scripts) names.scripts (omega (arith, count)))
            ∙ same_texts first second same2 names.scripts;
        extra_in = same_extra first third b names.extra v same3 extra;
        words_in = subst (λ n. IsScheduleIn first names.schedule n words) known
            (same_words first fourth names.schedule callers words same4 words_in);
      }

  -- ---- the refusals of a file more: they are of a text, and the form's own
  own-refused : (s : Status) → IsOfExtra s → class_of s ≡ IsRefused
  own-refused (status.Map why) own = refl
  own-refused (status.Faults word) own = refl
  own-refused (status.NoRoot bus) own = refl
  own-refused _ own = absurd own

  own-cause : (file : Files) (names : ExtraNames) (s : Status) → IsOfExtra s → HasMisspelled x file names s → IsExtraCause x file names s
  own-cause file names (status.Map why) own bad = bad
  own-cause file names (status.Faults word) own bad = bad
  own-cause file names (status.NoRoot bus) own bad = bad
  own-cause file names _ own bad = absurd own

  own-refusal : (s : Status) → IsOfExtra s → IsExtraFault x s → IsExtraRefusal x s
  own-refusal (status.Map why) own fault = fault
  own-refusal (status.Faults word) own fault = fault
  own-refusal (status.NoRoot bus) own fault = fault
  own-refusal _ own fault = absurd own

  own-skips : (s : Status) (other : ℕ) → IsOfExtra s → IsExtraSkipped s other → IsExtraAfter 2 other
  own-skips (status.Map why) other own skipped = skipped.1
  own-skips (status.Faults word) other own skipped = skipped.1
  own-skips (status.NoRoot bus) other own skipped = skipped.1
  own-skips _ other own skipped = absurd own

  -- a text that is no file's isn't unread
  pub never_unread : IsExtraRow x → (b : BoardView) (text : List ℕ) (e : Status) → (e ≡ status.Memory) ⊎ x.fails b text e
      → e ≡ status.Read 2 → ⊥
  never_unread row b text e told same =
      elim told [
        | inl m ↦ absurd (let h : status.Memory ≡ status.Read 2 = sym m ∙ same in cc)
        | inr f ↦ subst IsOfExtra same (row.own b text e f)
      ]

  -- ---- what was read is what the files have
  abbrev pub has_scripts : (file : Files) (names : ExtraNames) (b : BoardView) → IsAcceptedIn file names.board b
      → HasScripts file b names.scripts (length names.scripts) → HasExtraScripts file names
  has_scripts file names b board scripts =
      record { board = board.has; scripts = subst (λ k. HasScripts file k names.scripts (length names.scripts)) board.same scripts }

  abbrev pub has_spelled : (file : Files) (names : ExtraNames) (b : BoardView) (v : V) → IsAcceptedIn file names.board b
      → HasScripts file b names.scripts (length names.scripts) → IsExtraIn x file b names.extra v → HasSpelled x file names
  has_spelled file names b v board scripts extra =
      record {
        scripts = has_scripts file names b board scripts;
        extra = record {
          text = extra.has.text;
          there = extra.has.there;
          value = extra.has.value;
          spells = subst (λ k. x.spells k extra.has.text extra.has.value) board.same extra.has.spells;
        };
      }

  abbrev pub has_extra_texts : (file : Files) (names : ExtraNames) (b : BoardView) (v : V) (texts : List (List ℕ)) (words : List ℕ)
      → HasReadExtra x file names b v texts words → HasExtraTexts x file names
  has_extra_texts file names b v texts words read =
      record { files = has_spelled file names b v read.board_in read.scripts read.extra_in; schedule = read.words_in.has }

  -- a place that isn't that of the file more
  place_of : (names : ExtraNames) (place : ℕ) → 1 ≤ place → place < 4 + length names.scripts → (place ≡ 2 → ⊥) → IsExtraPlace x names place
  place_of names place first last away = record { first = first; last = last; file = λ e. absurd (away e) }

  -- the board is read, so the shelf tells it where it tells the files that are read
  when : (names : ExtraNames) (shelf : ShelfView) {X : Type 0} → (IsTrue shelf.tells → X) → TellsItsFiles (extra_form x names) shelf → X
  when names shelf f t = f (t 1 (place_of names 1 (omega arith) (omega arith) (λ e. omega (arith, e))))

  -- ---- files that were not read, or refused
  module _ (names : ExtraNames) (shelf shelf_now : ShelfView) (rig : RigView) (kept : KeepsShelf (extra_form x names) shelf shelf_now) where
    abbrev Refused : Status → Type 0
    Refused = CameToRefusal (extra_form x names) shelf shelf_now rig rig

    pub starved : Refused status.Memory
    starved = memory_wanting (extra_form x names) shelf shelf_now rig rig (inl (untouched rig)) kept

    -- the board
    pub board_told : (s : Status) → ((place : ℕ) → (place ≡ 1 → ⊥) → shelf_now.faults place ≡ shelf.faults place)
        → IsRefusedAt 1 (IsBadBoard (IsRejectedIn shelf.tells shelf.file names.board)) (shelf.faults 1) (shelf_now.faults 1) s → Refused s
    board_told s others refused =
        elim refused [
          | inl h ↦ subst Refused (sym h.0)
              (file_unread (extra_form x names) shelf shelf_now rig 1 (when names shelf (λ t. inl refl))
              (record { named = place_of names 1 (omega arith) (omega arith) (λ e. omega (arith, e)); rose = h.1 })
              (λ other after. others other (after_first other after)) kept)
          | inr (inl m) ↦ subst Refused (sym m) starved
          | inr (inr b) ↦ subst Refused (sym b.same)
              (text_refused (extra_form x names) shelf shelf_now rig (status.Board b.why) refl (when names shelf b.is_bad) tt
              (λ other after. others other (after_first other after)) kept)
        ]

    -- a script, over the board that was read
    pub script_told : (b : BoardView) (mid : ShelfView) (s : Status) → ((n : List ℕ) → mid.file n ≡ shelf.file n)
        → ((place : ℕ) → (place ≡ 1 → ⊥) → mid.faults place ≡ shelf.faults place)
        → ((place : ℕ) → ((4 ≤ place) × (place < 4 + length names.scripts) → ⊥) → shelf_now.faults place ≡ mid.faults place)
        → (IsTrue shelf.tells → IsAcceptedIn shelf.file names.board b)
        → IsRefusedScript 4 shelf.tells mid.file b names.scripts mid.faults shelf_now.faults s → Refused s
    script_told b mid s same others behind board r =
        elim r.refused [
          | inl h ↦ subst Refused (sym h.0)
              (file_unread (extra_form x names) shelf shelf_now rig (4 + r.caller)
              (when names shelf (λ t. inr (inl (record { caller = r.caller; at = refl; earlier = earlier t }))))
              (record {
                named = place_of names (4 + r.caller) (omega arith) (let low = r.known in omega (arith, low)) (λ e. omega (arith, e));
                rose = subst (λ (k : ℕ). Rose k (shelf_now.faults (4 + r.caller))) (others (4 + r.caller)
                    (λ e. absurd (omega (arith, e)))) h.1;
              }) rest kept)
          | inr (inl m) ↦ subst Refused (sym m) starved
          | inr (inr n) ↦ subst Refused (sym n.same)
              (text_refused (extra_form x names) shelf shelf_now rig (status.Script r.caller n.line n.word) refl
              (when names shelf (λ t. (
                earlier t,
                subst (λ k. HasBadScript shelf.file k (script_name names.scripts r.caller) n.line n.word) (board t).same
                    (same_bad shelf.file mid.file b (script_name names.scripts r.caller) n.line n.word same (n.is_bad t)),
              ))) tt rest kept)
        ]
      where
        earlier : IsTrue shelf.tells → HasScriptsBefore shelf.file (as_run names) r.caller
        earlier t = record {
          known = r.known;
          board = (board t).has;
          before = subst (λ k. HasScripts shelf.file k names.scripts r.caller) (board t).same
              (same_scripts shelf.file mid.file same b names.scripts r.caller (r.before t));
        }

        low : (other : ℕ) → other < 4 → (other ≡ 1 → ⊥) → shelf_now.faults other ≡ shelf.faults other
        low other below away = behind other (λ h. absurd (omega (arith, h.0, below))) ∙ others other away

        rest : (other : ℕ) → IsExtraAfter (4 + r.caller) other → shelf_now.faults other ≡ shelf.faults other
        rest other after =
            elim after.later [
              | inl h ↦ low other (omega (arith, h)) (λ e. absurd (omega (arith, h, e)))
              | inr (inl h) ↦ low other (omega (arith, h)) (λ e. absurd (omega (arith, h, e)))
              | inr (inr h) ↦ r.kept other h ∙ others other (λ e. absurd (omega (arith, h, e)))
            ]

    -- the file more, over that board
    pub extra_refused : IsExtraRow x → (b : BoardView) (mid : ShelfView) (s : Status) → ((n : List ℕ) → mid.file n ≡ shelf.file n)
        → ((place : ℕ) → place < 4 → (place ≡ 1 → ⊥) → mid.faults place ≡ shelf.faults place)
        → ((place : ℕ) → (place ≡ 2 → ⊥) → shelf_now.faults place ≡ mid.faults place)
        → (IsTrue shelf.tells → IsAcceptedIn shelf.file names.board b)
        → (IsTrue shelf.tells → HasScripts shelf.file b names.scripts (length names.scripts))
        → (s ≡ status.Read 2 → x.in_word ≡ false)
        → IsRefusedAt 2 (IsBadExtra x shelf.tells mid.file b names.extra) (mid.faults 2) (shelf_now.faults 2) s → Refused s
    extra_refused row b mid s same others behind board scripts of_file refused =
        elim refused [
          | inl h ↦ subst Refused (sym h.0)
              (file_unread (extra_form x names) shelf shelf_now rig 2 (when names shelf (λ t. inr (inr (inl (refl, on t)))))
              (record {
                named = record { first = omega arith; last = omega arith; file = λ _. of_file h.0 };
                rose = subst (λ (k : ℕ). Rose k (shelf_now.faults 2)) (others 2 (omega arith) (λ e. absurd (omega (arith, e)))) h.1;
              }) (λ other after. rest other after) kept)
          | inr (inl m) ↦ subst Refused (sym m) starved
          | inr (inr n) ↦
              (let own = row.own b n.text s n.fails in
              text_refused (extra_form x names) shelf shelf_now rig s (own-refused s own)
              (when names shelf (λ t. own-cause shelf.file names s own (record {
                scripts = on t;
                bad = record {
                  text = n.text;
                  there = sym (same_text shelf.file mid.file names.extra same) ∙ n.there t;
                  fails = subst (λ k. x.fails k n.text s) (board t).same n.fails;
                };
              }))) (own-refusal s own (record { board = b; text = n.text; fails = n.fails }))
              (λ other skipped. rest other (own-skips s other own skipped)) kept)
        ]
      where
        on : IsTrue shelf.tells → HasExtraScripts shelf.file names
        on t = has_scripts shelf.file names b (board t) (scripts t)

        rest : (other : ℕ) → IsExtraAfter 2 other → shelf_now.faults other ≡ shelf.faults other
        rest other after =
            let last = after.last refl in
            behind other (λ e. absurd (omega (arith, e, last))) ∙ others other (omega (arith, last)) (λ e. absurd (omega (arith, e, last)))

    -- the schedule
    pub word_told : (b : BoardView) (v : V) (mid : ShelfView) (callers : ℕ) (s : Status) → ((n : List ℕ) → mid.file n ≡ shelf.file n)
        → mid.faults 3 ≡ shelf.faults 3 → (IsTrue shelf.tells → IsAcceptedIn shelf.file names.board b)
        → (IsTrue shelf.tells → HasScripts shelf.file b names.scripts (length names.scripts))
        → (IsTrue shelf.tells → IsExtraIn x shelf.file b names.extra v) → callers ≡ length names.scripts
        → IsRefusedAt 3 (IsBadSchedule (λ word. IsTrue shelf.tells → HasBadSchedule mid.file names.schedule callers word)) (mid.faults 3)
        (shelf_now.faults 3) s
        → Refused s
    word_told b v mid callers s same was board scripts extra count refused =
        elim refused [
          | inl h ↦ subst Refused (sym h.0)
              (file_unread (extra_form x names) shelf shelf_now rig 3 (when names shelf (λ t. inr (inr (inr (refl, spelled t)))))
              (record {
                named = place_of names 3 (omega arith) (omega arith) (λ e. omega (arith, e));
                rose = subst (λ (k : ℕ). Rose k (shelf_now.faults 3)) was h.1;
              }) (λ other after. absurd (after.not_last refl)) kept)
          | inr (inl e) ↦ subst Refused (sym e) starved
          | inr (inr n) ↦ subst Refused (sym n.same)
              (text_refused (extra_form x names) shelf shelf_now rig (status.Schedule n.word) refl
              (when names shelf (λ t. let h = n.is_bad t in (
                spelled t,
                subst (λ k. HasBadSchedule shelf.file names.schedule k n.word) count
                    (record { text = h.text; there = sym (same names.schedule) ∙ h.there; fault = h.fault }),
              ))) tt (λ other no. absurd no.0) kept)
        ]
      where
        spelled : IsTrue shelf.tells → HasSpelled x shelf.file names
        spelled t = has_spelled shelf.file names b v (board t) (scripts t) (extra t)

    -- the cost
    pub cost_told : (b : BoardView) (v : V) (texts : List (List ℕ)) (words : List ℕ) (s : Status)
        → (IsTrue shelf.tells → HasReadExtra x shelf.file names b v texts words) → IsTooDear (cost_of_texts b texts) s → Refused s
    cost_told b v texts words s read d =
        subst Refused (sym d.same)
        (text_refused (extra_form x names) shelf shelf_now rig (status.Cost (cost_of_texts b texts)) refl
        (when names shelf (λ t. record {
          texts = has_extra_texts shelf.file names b v texts words (read t);
          same = ap (λ (k : BoardView). cost_of_texts k texts) (read t).board_in.same
              ∙ ap (cost_of_texts (read t).board_in.has.board) (read t).texts_are;
          dear = d.dear;
        })) d.dear (λ place no. absurd no.0) kept)

  -- ---- files that were read
  module _ (file : Files) (names : ExtraNames) (b : BoardView) (v : V) (texts : List (List ℕ)) (words : List ℕ)
      (read : HasReadExtra x file names b v texts words) (cheap : cost_of_texts b texts ≤ MOST_COST) where
    files_of : HasExtraFiles x file names
    files_of = record {
      texts = has_extra_texts file names b v texts words read;
      cheap = subst (λ (n : ℕ). n ≤ MOST_COST)
          (ap (λ (k : BoardView). cost_of_texts k texts) read.board_in.same ∙ ap (cost_of_texts read.board_in.has.board) read.texts_are)
          cheap;
    }

    -- a run of them is the report that they ask for
    report_of_files : (bytes : List ℕ) (logs : List (List PortCall)) (states : List TargetState) (counts : List ℕ)
        → x.runs b v texts words bytes logs states counts → HasExtraReport x file names bytes logs states counts
    unfolding files_of
    report_of_files bytes logs states counts run = record {
      files = files_of;
      run = subst (λ (k : BoardView).
          x.runs k read.extra_in.has.value (texts_in file names.scripts) read.words_in.has.words bytes logs states counts) read.board_in.same
          (subst (λ (y : V). x.runs b y (texts_in file names.scripts) read.words_in.has.words bytes logs states counts) read.extra_in.same
          (subst (λ (ws : List ℕ). x.runs b v (texts_in file names.scripts) ws bytes logs states counts) read.words_in.same
          (subst (λ (ts : List (List ℕ)). x.runs b v ts words bytes logs states counts) read.texts_are run)));
    }

  -- ---- a run of them, over the rig
  module _ (names : ExtraNames) (shelf shelf_now : ShelfView) (rig rig_now : RigView) (b : BoardView) (v : V) (texts : List (List ℕ))
      (words : List ℕ) (some : HasReadSomeExtra x names b v texts words) (read : IsTrue shelf.tells → HasReadExtra x shelf.file names b v texts words)
      (cheap : cost_of_texts b texts ≤ MOST_COST)
      (kept : KeepsShelf (extra_form x names) shelf shelf_now) where
    files : IsTrue shelf.tells → HasExtraFiles x shelf.file names
    files t = files_of shelf.file names b v texts words (read t) cheap

    -- one that ended is a success of the form by its report
    pub extra_done : (r : Result (List ℕ) Status) → IsRunOver rig rig_now r
        → (IsTrue rig_now.tells → IsTrue rig_now.ports_tell
        → IfOk r (λ bytes. x.runs b v texts words bytes rig_now.logs rig_now.states rig_now.counts))
        → IfOk r (λ bytes. CameToSuccess (extra_form x names) shelf shelf_now rig rig_now bytes)
    extra_done (Ok bytes) over run =
        came_to_success (extra_form x names) shelf shelf_now rig rig_now bytes (when names shelf files)
        (record { plugs = over.plugs; unplugs = over.unplugs; unplugged = over.unplugged })
        (record {
          by_files = λ t tells ports.
              report_of_files shelf.file names b v texts words (read t) cheap bytes rig_now.logs rig_now.states rig_now.counts
              (run tells ports);
          by_rig = record {
            file = some.file;
            called = some.called;
            like = some.like;
            so = λ tells ports.
                report_of_files some.file some.called b v texts words some.so cheap bytes rig_now.logs rig_now.states rig_now.counts
                (run tells ports);
          };
        }) kept
    extra_done (Err e) over run = tt

    -- one that failed is a refusal of it
    pub extra_failed : (r : Result (List ℕ) Status) → IsRunOver rig rig_now r
        → IfErr r (CameToRefusal (extra_form x names) shelf shelf_now rig rig_now)
    extra_failed r = run_refused (extra_form x names) shelf shelf_now rig rig_now r refl (when names shelf files) kept

  -- a success was the report
  pub ended_written : (names : ExtraNames) (old new : Outside) (result : Status) → HasEndedAs (extra_form x names) old new result
      → IsTrue old.shelf.tells → IsTrue old.sink.tells → IsTrue new.rig.tells → IsTrue new.rig.ports_tell → result ≡ status.Ok
      → HasWrittenExtra x old.shelf.file names old.sink.bytes new.sink.bytes new.rig.logs new.rig.states new.rig.counts
  ended_written names old new result h shelf sink rig ports ok =
      let s = h.said ok in record { bytes = s.text; report = s.answer.by_files shelf rig ports; written = s.written sink }

  -- what is read one after the other is read of the form's files: the board,
  pub kept_board : (names : ExtraNames) (a b : ShelfView) → KeepsBut (λ p. p ≡ 1) a b → KeepsBut (IsExtraPlace x names) a b
  kept_board names a b k =
      record {
        words = k.words;
        files = k.files;
        others = λ p no. k.others p (λ e. no (place_of names p (omega (arith, e)) (omega (arith, e)) (λ two. omega (arith, e, two))));
      }

  -- .. the scripts,
  pub kept_scripts : (names : ExtraNames) (n : ℕ) (a b c : ShelfView) → length names.scripts ≡ n → KeepsBut (λ p. p ≡ 1) a b
      → KeepsBut (λ p. (4 ≤ p) × (p < 4 + n)) b c → KeepsBut (IsExtraPlace x names) a c
  kept_scripts names n a b c many board =
      kept_then (IsExtraPlace x names) (λ p. (4 ≤ p) × (p < 4 + n)) (IsExtraPlace x names) a b c (λ p h. h)
      (λ p h. place_of names p (omega (arith, h.0)) (omega (arith, h.1, many)) (λ two. omega (arith, h.0, two))) (kept_board names a b board)

  -- .. the file more, which is at 2,
  pub kept_extra : (names : ExtraNames) (n : ℕ) (a b c d : ShelfView) → length names.scripts ≡ n → KeepsBut (λ p. p ≡ 1) a b
      → KeepsBut (λ p. (4 ≤ p) × (p < 4 + n)) b c → KeepsBut (IsExtraFile x) c d → KeepsBut (IsExtraPlace x names) a d
  kept_extra names n a b c d many board scripts =
      kept_then (IsExtraPlace x names) (IsExtraFile x) (IsExtraPlace x names) a c d (λ p h. h)
      (λ p h. record { first = omega (arith, h.0); last = omega (arith, h.0); file = λ _. h.1 })
      (kept_scripts names n a b c many board scripts)

  -- .. and the schedule
  pub kept_schedule : (names : ExtraNames) (a b c : ShelfView) → KeepsBut (IsExtraPlace x names) a b → KeepsBut (λ p. p ≡ 3) b c
      → KeepsBut (IsExtraPlace x names) a c
  kept_schedule names a b c =
      kept_then (IsExtraPlace x names) (λ p. p ≡ 3) (IsExtraPlace x names) a b c (λ p h. h)
      (λ p e. place_of names p (omega (arith, e)) (omega (arith, e)) (λ two. omega (arith, e, two)))
