-- A caller that is over by the journal has no next step. No induction.
use Rattle.journal_check.proofs.Cited.{◌≡◌, ℕ, ◌<◌, ◌≤◌, List, cond, Option, Some, None, reverse, Bool, refl, sym, ◌∙◌, ap, subst, inl, inr}
use Rattle.journal_check.proofs.Cited.{Reply, TransferView, MOST_CALLERS, seen, first_act, WalkTree, callers-known, IsStepwise, Opening}
use Rattle.journal_check.proofs.Cited.{asks_on, IsSteady, IsFirstLeft, IsLeast, IsOverIn, IsStuckIn, CoreState, asks_in_state, Entry}
use Rattle.std.specs.Prelude.{IfSome}
use Rattle.std.proofs.lemmas.Bool.{cases_lt}
use Rattle.std.proofs.Common.{IsTrue}
use Rattle.bus_spec.specs.Grammar.{is_over}
use Rattle.bus_spec.specs.Past.{begun, current}
use Rattle.bus_spec.specs.Walk.{Take}
use Rattle.bus_laws.specs.Ready.{HasFinished}
use Rattle.bus_laws.proofs.past.Known.{never}
use Rattle.journal_check.specs.Checks.{HasFollowed}
use Rattle.journal_check.specs.Opens.{IsFirstOpen}
use Rattle.bus_core.specs.Answers.{WaitsFor}
use Rattle.bus_core.specs.declared.steps.StepAnswer.{StepAnswer}
use Rattle.bus_core.specs.declared.steps.StepAnswer.TheVariants as answer
use Rattle.bus_core.specs.Kept.{HasTurn}
use Rattle.bus_core.specs.State.{now_in}
use Rattle.i2c_base.specs.declared.ids.LockId.{LockId}

module _ {S : Type 0} (asked : S → List Reply → Option TransferView) (v : CoreState S) (caller : ℕ) where
  pub over-finished : IsOverIn asked v caller → HasFinished v.opening.board (asks_in_state asked v) (reverse v.journal.entries) caller
  over-finished over =
      ap (λ (w : WalkTree). first_act (seen (now_in asked v).slot
      (cond (is_over w) (begun v.opening.board (asks_in_state asked v caller ((now_in asked v).settled caller))) w))) over.walk
      ∙ ap (λ (t : Option TransferView). first_act (seen (now_in asked v).slot (begun v.opening.board t))) over.asks

  pub over-stuck : IsOverIn asked v caller → IsStuckIn asked v caller
  over-stuck over = inr (over-finished over)

  -- who makes a step, or waits for a lock, isn't over
  pub stepped-not_over : (new : List Entry) → HasTurn v.opening.board (asks_in_state asked v) caller v.journal.entries new
      → IsOverIn asked v caller → ⊥
  stepped-not_over new made over =
      elim made.comes [
        | inl one ↦ never v.opening.board MOST_CALLERS (asks_in_state asked v) (now_in asked v) one.entry one.may
            (ap (λ (k : ℕ). first_act (current v.opening.board (asks_in_state asked v) (now_in asked v) k)) (one.own ∙ made.own)
            ∙ over-finished over)
        | inr two ↦ never v.opening.board MOST_CALLERS (asks_in_state asked v) (now_in asked v) two.entry two.may
            (ap (λ (k : ℕ). first_act (current v.opening.board (asks_in_state asked v) (now_in asked v) k)) (two.own ∙ made.own)
            ∙ over-finished over)
      ]

  pub waiting-not_over : (tells : Bool) → IsTrue tells → (l : LockId) (h : ℕ) → WaitsFor asked tells v caller l h → IsOverIn asked v caller
      → ⊥
  waiting-not_over tells tell l h waits over = (let f : Some (Take l) ≡ None = sym (waits.next tell) ∙ over-finished over in cc)

-- an answer that isn't Finished
pub not-finished : {P : Type 0} (r : StepAnswer) → (r ≡ answer.Finished → ⊥) → (r ≡ answer.Stepped → P)
    → ((l : LockId) (h : ℕ) → r ≡ answer.Blocked l h → P) → P
not-finished answer.Stepped other stepped blocked = stepped refl
not-finished (answer.Blocked l h) other stepped blocked = blocked l h refl
not-finished answer.Finished other stepped blocked = absurd (other refl)

-- a past of all callers is one of those that ask for anything
pub steady-few : {S : Type 0} (asked : S → List Reply → Option TransferView) (o : Opening S) (es : List Entry) (count : ℕ)
    → ((c : ℕ) → count ≤ c → (rs : List Reply) → asks_on asked o c rs ≡ None) → IsSteady asked o es
    → IsStepwise o.board count (asks_on asked o) (reverse es)
steady-few asked o es count silent steady = (callers-known o.board MOST_CALLERS count (asks_on asked o) silent
    (reverse es) steady.stepwise).0

-- where each caller is over, and nobody else asks for anything, none can make a step
pub none-least : {S : Type 0} (asked : S → List Reply → Option TransferView) (v : CoreState S) (count : ℕ)
    → ((c : ℕ) → count ≤ c → (rs : List Reply) → asks_on asked v.opening c rs ≡ None) → IsSteady asked v.opening v.journal.entries
    → ((c : ℕ) → c < count → IsOverIn asked v c) → (tells : Bool) → IsTrue tells → (c : ℕ) → IsLeast asked tells v c → ⊥
none-least asked v count silent steady over tells tell c least =
    elim (cases_lt c count) [
      | inl low ↦ least.can tell (over-stuck asked v c (over c low))
      | inr high ↦ least.can tell
          (inr (ap (λ (w : WalkTree). first_act (seen (now_in asked v).slot w))
          ((callers-known v.opening.board MOST_CALLERS count (asks_on asked v.opening) silent
          (reverse v.journal.entries) steady.stepwise).1 c high)))
    ]

pub no-answer : (r : Option ℕ) (P Q : ℕ → Type 0) → IfSome r P → ((c : ℕ) → P c → ⊥) → IfSome r Q
no-answer None P Q some none = tt
no-answer (Some c) P Q some none = absurd (none c some)

-- a core that has followed a journal, with what the callers ask for as it was opened
module _ {S : Type 0} (asked : S → List Reply → Option TransferView) (o : Opening S) (es : List Entry) (v : CoreState S)
    (f : HasFollowed asked o es v) where
  pub on-opening : (P : Opening S → Type 0) → P o → P v.opening
  on-opening P p = subst P (sym f.opening) p

  pub steady-there : IsSteady asked v.opening v.journal.entries
  steady-there = subst (λ (xs : List Entry). IsSteady asked v.opening xs) (sym f.entries) (on-opening
      (λ (x : Opening S). IsSteady asked x es) f.steady)

  pub from-there : (P : Opening S → List Entry → Type 0) → P v.opening v.journal.entries → P o es
  from-there P p = subst (P o) f.entries (subst (λ (x : Opening S). P x v.journal.entries) f.opening p)

  pub first-left : (count c : ℕ) → IsFirstOpen asked v count c → IsFirstLeft o.board count (asks_on asked o) es c
  first-left count c first =
      from-there (λ x xs. IsFirstLeft x.board count (asks_on asked x) xs c)
      (record {
        low = first.low;
        not_ended = λ done. first.not_over (record { walk = done.0; asks = done.1 });
        before = λ d less. ((first.before d less).walk, (first.before d less).asks);
      })
