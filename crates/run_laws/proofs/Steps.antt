-- A journal follows the schedule that names its own steps. The induction goes over the steps.
use Rattle.run_laws.proofs.Cited.{◌≡◌, ℕ, ◌<◌, List, [], ◌∷◌, map, reverse, None, refl, ◌∙◌, subst, All, reverse-reverse, All-nil, All-cons}
use Rattle.run_laws.proofs.Cited.{Entry, BoardView, IsTree, IsPlainBoard, Asks, now, IsStepwise, Follows, LinesAreLocked, AsksForMessages}
use Rattle.run_laws.proofs.Cited.{steps_of}
use Rattle.bus_spec.specs.Schedule.{Turn, turns, past_after, FollowsWords}
use Rattle.bus_laws.proofs.past.Known.{entry_known}
use Rattle.bus_laws.proofs.past.Laws.{holder-told}
use Rattle.bus_laws.proofs.schedule.Coming.{first_of, turn-ready, word-made}
use Rattle.journal_laws.proofs.schedule.Whole.{ComeWhole, whole-comes}

module _ (b : BoardView) (tree : IsTree b) (plain : IsPlainBoard b) (lines : LinesAreLocked b) (asks : Asks) (some : AsksForMessages asks)
    (callers : ℕ) where
  -- steps that come, each where its caller is ready
  steps_follow : (later : List Turn) (past : List Entry) → ComeWhole b callers asks past later
      → FollowsWords (map (λ t. t.caller) later) past later
  steps_follow [] past come = tt
  steps_follow (t ∷ ts) past come =
      word-made past t.caller (map (λ u. u.caller) ts) t ts refl
      (turn-ready b tree plain lines asks some callers t.caller past t ts refl come.0 (λ l o e. holder-told b asks past l ∙ e))
      (steps_follow ts (past_after past t) come.2)

  -- each is of one of the callers
  steps_named : (later : List Turn) (past : List Entry) → ComeWhole b callers asks past later
      → All (λ c. c < callers) (map (λ t. t.caller) later)
  steps_named [] past come = All-nil (λ c. c < callers)
  steps_named (t ∷ ts) past come =
      let f = first_of b tree plain lines asks some callers t.caller past t come.0 in
      All-cons (λ c. c < callers) t.caller (map (λ u. u.caller) ts)
      (subst (λ (c : ℕ). c < callers) f.3 (entry_known b callers asks (now b asks past) f.0 f.4))
      (steps_named ts (past_after past t) come.2)

  own_steps : (journal : List Entry) → IsStepwise b callers asks (reverse journal) → (now b asks (reverse journal)).due ≡ None
      → ComeWhole b callers asks [] (turns journal)
  own_steps journal steps none =
      subst (λ (es : List Entry). ComeWhole b callers asks [] (turns es)) (reverse-reverse journal)
      (whole-comes b tree plain lines asks some callers (reverse journal) steps none).come

  pub own-followed : (journal : List Entry) → IsStepwise b callers asks (reverse journal) → (now b asks (reverse journal)).due ≡ None
      → Follows (steps_of journal) journal
  own-followed journal steps none = steps_follow (turns journal) [] (own_steps journal steps none)

  pub own-named : (journal : List Entry) → IsStepwise b callers asks (reverse journal) → (now b asks (reverse journal)).due ≡ None
      → All (λ c. c < callers) (steps_of journal)
  own-named journal steps none = steps_named (turns journal) [] (own_steps journal steps none)
