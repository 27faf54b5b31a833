-- The table after a message or a line step.
use Rattle.core_laws.proofs.Cited.{◌≡◌, ℕ, List, Option, Some, subst, LockId, BoardView, Job, Act, Send, Shift, ActOutcome, WalkTree}
use Rattle.core_laws.proofs.Cited.{after_job, seen, first_note, SeenView, mark_on, slots_of, slots_after, TellsMarks, HoldsLocks, LocksView}
use Rattle.core_laws.proofs.Cited.{seen_of, turned_to, TableKept, next_of, AreMarked, mark_slot}
use Rattle.core_laws.proofs.Holding.{home_seen, holds-sent, holds-shifted, home-after, home-told, mark-table}

tells_own : (s : SeenView) → TellsMarks (slots_of s) s.marks
tells_own s = record { at = λ p low. mark_slot (mark_on s p) }

module _ (b : BoardView) (v : LocksView) (numbers : List ℕ) (held : List (List LockId)) (table : TableKept b v numbers held)
    (ls : List LockId) (w : WalkTree) (holds : HoldsLocks b ls w) where
  told : (act : Act) → next_of v w ≡ Some act → (out : ActOutcome) (words : SeenView) → AreMarked b w v out words
      → TellsMarks (slots_after (Some act) (first_note (seen (slots_of (seen_of v)) w)) out (slots_of (seen_of v))) words.marks
  told act first out words are =
      subst (λ (a : Option Act). TellsMarks
      (slots_after a (first_note (seen (slots_of (seen_of v)) w)) out (slots_of (seen_of v))) words.marks) first
      (are.marked (slots_of (seen_of v)) (tells_own (seen_of v)))

  pub said-table : (job : Job) (left : ℕ) → next_of v w ≡ Some (Send job left) → (out : ActOutcome) (words : SeenView)
      → AreMarked b w v out words → TableKept b (turned_to v words) numbers held
  said-table job left first out words are =
      mark-table b v numbers held table words are.all are.counted
      (home-told b (after_job job left (first_note (seen (slots_of (seen_of v)) w)).marks out (slots_of (seen_of v))) words.marks
      (home-after b ls job left (first_note (seen (slots_of (seen_of v)) w)).marks
      (holds-sent b (seen_of v) table.home ls w holds job left first).0.marked out (slots_of (seen_of v))
      (home_seen b (seen_of v) table.home ls w holds))
      (told (Send job left) first out words are))

  pub lined-table : (job : Job) → next_of v w ≡ Some (Shift job) → (out : ActOutcome) (words : SeenView) → AreMarked b w v out words
      → TableKept b (turned_to v words) numbers held
  lined-table job first out words are =
      mark-table b v numbers held table words are.all are.counted
      (home-told b (after_job job 0 (first_note (seen (slots_of (seen_of v)) w)).marks out (slots_of (seen_of v))) words.marks
      (home-after b ls job 0 (first_note (seen (slots_of (seen_of v)) w)).marks
      (holds-shifted b (seen_of v) table.home ls w holds job first).0.marked out (slots_of (seen_of v))
      (home_seen b (seen_of v) table.home ls w holds))
      (told (Shift job) first out words are))
