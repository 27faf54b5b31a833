-- The files of a call with one file more decide one status: of two that they are a cause of, both are the same. No induction.
use Rattle.i2c_top.proofs.Cited.{◌≡◌, ℕ, ◌⊎◌, inl, inr, length, refl, sym, ◌∙◌, ap, subst, HasAccepted, Files, DecidesOnce}
use Rattle.i2c_top.proofs.Cited.{MOST_COST, HasBadSchedule, Status}
use Rattle.i2c_top.specs.forms.Extras.{ExtraNames, ExtraRow, HasBadExtra, HasDearExtra, HasExtraFiles, HasExtraScripts}
use Rattle.i2c_top.specs.forms.Extras.{HasExtraTexts, HasMisspelled, HasSpelled, IsExtraCause, IsExtraRow, as_run, extra_cost}
use Rattle.i2c_top.specs.forms.Extras.{extra_form, text_at}
use Rattle.i2c_top.specs.declared.status.Status.TheVariants as status
use Rattle.i2c_top.proofs.BoardLemmas.{no_board, one_why, one_board_in, one_text}
use Rattle.i2c_top.proofs.ReplayCauses.{DecideBoard, DecideScript, agree_script, all_earlier, no_schedule, not_dear, one_word}

module _ {V : Type 0} (x : ExtraRow V) (row : IsExtraRow x) (file : Files) (names : ExtraNames) where
  -- ---- the statuses that files decide: after the schedule, of the schedule, of the file more, of the board and of a script
  record DecideDear (s : Status) : Type 0 where
    cost : ℕ
    same : s ≡ status.Cost cost
    files : HasDearExtra x file names cost

  record DecideWord (s : Status) : Type 0 where
    word : ℕ
    same : s ≡ status.Schedule word
    files : HasSpelled x file names
    bad : HasBadSchedule file names.schedule (length names.scripts) word

  abbrev DecideTexts : Status → Type 0
  DecideTexts s = ((s ≡ status.Ok) × HasExtraFiles x file names) ⊎ DecideDear s

  abbrev DecideSpelled : Status → Type 0
  DecideSpelled s = DecideTexts s ⊎ DecideWord s

  abbrev DecideBehind : Status → Type 0
  DecideBehind s = DecideSpelled s ⊎ HasMisspelled x file names s

  abbrev Decide : Status → Type 0
  Decide s = DecideBehind s ⊎ (DecideBoard file (as_run names) s ⊎ DecideScript file (as_run names) s)

  decided : (s : Status) → IsExtraCause x file names s → Decide s
  decided status.Ok h = inl (inl (inl (inl (refl, h))))
  decided (status.Cost cost) h = inl (inl (inl (inr (record { cost = cost; same = refl; files = h }))))
  decided (status.Schedule word) h = inl (inl (inr (record { word = word; same = refl; files = h.0; bad = h.1 })))
  decided (status.Board why) h = inr (inl (record { why = why; same = refl; board = h }))
  decided (status.Script caller line word) h =
      inr (inr (record { caller = caller; line = line; word = word; same = refl; earlier = h.0; script = h.1 }))
  decided _ h = inl (inr h)

  texts_of : (s : Status) → DecideTexts s → HasExtraTexts x file names
  texts_of s (inl a) = a.1.texts
  texts_of s (inr d) = d.files.texts

  spelled_of : (s : Status) → DecideSpelled s → HasSpelled x file names
  spelled_of s (inl a) = (texts_of s a).files
  spelled_of s (inr w) = w.files

  scripts_of : (s : Status) → DecideBehind s → HasExtraScripts file names
  scripts_of s (inl a) = (spelled_of s a).scripts
  scripts_of s (inr m) = m.scripts

  -- ---- two of them are the same
  one_cost : (a b : HasExtraTexts x file names)
      → extra_cost file names a.files.scripts.board.board ≡ extra_cost file names b.files.scripts.board.board
  one_cost a b = ap (extra_cost file names) (one_board_in file names.board a.files.scripts.board b.files.scripts.board)

  cheap_dear : (cost : ℕ) → HasExtraFiles x file names → HasDearExtra x file names cost → ⊥
  cheap_dear cost a d =
      not_dear MOST_COST (extra_cost file names a.texts.files.scripts.board.board) cost a.cheap d.dear
      (one_cost a.texts d.texts ∙ sym d.same)

  agree_texts : (s r : Status) → DecideTexts s → DecideTexts r → r ≡ s
  agree_texts s r (inl a) (inl b) = b.0 ∙ sym a.0
  agree_texts s r (inl a) (inr b) = absurd (cheap_dear b.cost a.1 b.files)
  agree_texts s r (inr a) (inl b) = absurd (cheap_dear a.cost b.1 a.files)
  agree_texts s r (inr a) (inr b) =
      b.same ∙ ap (λ n. status.Cost n) (b.files.same ∙ one_cost b.files.texts a.files.texts ∙ sym a.files.same) ∙ sym a.same

  agree_spelled : (s r : Status) → DecideSpelled s → DecideSpelled r → r ≡ s
  agree_spelled s r (inl a) (inl b) = agree_texts s r a b
  agree_spelled s r (inl a) (inr b) =
      absurd (no_schedule file names.schedule (length names.scripts) b.word (texts_of s a).schedule b.bad)
  agree_spelled s r (inr a) (inl b) =
      absurd (no_schedule file names.schedule (length names.scripts) a.word (texts_of r b).schedule a.bad)
  agree_spelled s r (inr a) (inr b) =
      b.same ∙ ap (λ w. status.Schedule w) (one_word file names.schedule (length names.scripts) a.word b.word a.bad b.bad) ∙ sym a.same

  -- a text that is refused over the board of one is so over that of another
  over_same : (a b : HasAccepted file names.board) (s : Status) → HasBadExtra x file a.board names.extra s
      → HasBadExtra x file b.board names.extra s
  over_same a b s = subst (λ k. HasBadExtra x file k names.extra s) (one_board_in file names.board a b)

  spelled_bad : (s : Status) → HasSpelled x file names → HasMisspelled x file names s → ⊥
  spelled_bad s a b =
      let bad = over_same b.scripts.board a.scripts.board s b.bad in
      row.either a.scripts.board.board a.extra.text a.extra.value s a.extra.spells
      (subst (λ t. x.fails a.scripts.board.board t s) (one_text (text_at x file names.extra) bad.text a.extra.text bad.there a.extra.there) bad.fails)

  agree_behind : (s r : Status) → DecideBehind s → DecideBehind r → r ≡ s
  agree_behind s r (inl a) (inl b) = agree_spelled s r a b
  agree_behind s r (inl a) (inr b) = absurd (spelled_bad r (spelled_of s a) b)
  agree_behind s r (inr a) (inl b) = absurd (spelled_bad s (spelled_of r b) a)
  agree_behind s r (inr a) (inr b) =
      let bad = over_same b.scripts.board a.scripts.board r b.bad in
      row.one a.scripts.board.board a.bad.text s r a.bad.fails
      (subst (λ t. x.fails a.scripts.board.board t r) (one_text (text_at x file names.extra) bad.text a.bad.text bad.there a.bad.there) bad.fails)

  good_board : (s : Status) → HasExtraScripts file names → DecideBoard file (as_run names) s → ⊥
  good_board s a b = no_board file names.board b.why a.board b.board

  good_script : (s : Status) → HasExtraScripts file names → DecideScript file (as_run names) s → ⊥
  good_script s a b = all_earlier file (as_run names) b.caller b.line b.word a.board a.scripts b.earlier b.script

  agree : (s r : Status) → Decide s → Decide r → r ≡ s
  agree s r (inl a) (inl b) = agree_behind s r a b
  agree s r (inl a) (inr (inl b)) = absurd (good_board r (scripts_of s a) b)
  agree s r (inl a) (inr (inr b)) = absurd (good_script r (scripts_of s a) b)
  agree s r (inr (inl a)) (inl b) = absurd (good_board s (scripts_of r b) a)
  agree s r (inr (inl a)) (inr (inl b)) =
      b.same ∙ ap (λ w. status.Board w) (one_why file names.board a.why b.why a.board b.board) ∙ sym a.same
  agree s r (inr (inl a)) (inr (inr b)) = absurd (no_board file names.board a.why b.earlier.board a.board)
  agree s r (inr (inr a)) (inl b) = absurd (good_script s (scripts_of r b) a)
  agree s r (inr (inr a)) (inr (inl b)) = absurd (no_board file names.board b.why a.earlier.board b.board)
  agree s r (inr (inr a)) (inr (inr b)) = agree_script file (as_run names) s r a b

pub extra_decides : {V : Type 0} (x : ExtraRow V) → IsExtraRow x → (names : ExtraNames) → DecidesOnce (extra_form x names)
extra_decides x row names file s r h k = agree x row file names s r (decided x row file names s h) (decided x row file names r k)
