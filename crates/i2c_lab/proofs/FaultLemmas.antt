-- What a run in which listed calls fail says of where they failed, and a success that was written. No induction.
use Rattle.std.proofs.Common.{◌≡◌, ◌≢◌, ℕ, ◌≤◌, List, length, map, Result, Option, None, Some, Ok, Err, refl, sym, ◌∙◌, ap, subst, inl, inr}
use Rattle.std.specs.Prelude.{IfErr, OnOk}
use Rattle.std.specs.List.{range_with_len}
use Rattle.i2c_base.specs.declared.port.PortCall.{PortCall}
use Rattle.i2c_base.specs.Board.{BoardView}
use Rattle.std.proofs.lemmas.List.{length-map}
use Rattle.std.proofs.lemmas.List.FromFn.{length-map-range_with_len}
use Rattle.i2c_physics.specs.FailPorts.{FailView, HaveFailedJustAt, fails_given, fails_on, logs_given}
use Rattle.i2c_top.specs.Endings.{IsRefusalWritten}
use Rattle.i2c_top.specs.Files.{Files}
use Rattle.i2c_top.specs.Readings.{HasReadExtra}
use Rattle.i2c_top.specs.Runs.{MOST_COST, cost_of_texts}
use Rattle.i2c_top.specs.Traces.{OutputView}
use Rattle.i2c_top.specs.forms.Extras.{ExtraNames}
use Rattle.i2c_top.specs.declared.status.Status.{Status}
use Rattle.i2c_top.specs.declared.status.Status.TheVariants as status
use Rattle.i2c_top.proofs.ExtraLemmas.{has_extra_texts}
use Rattle.i2c_lab.specs.Faults.{HasFailedAsListed, list_row}

module _ (file : Files) (names : ExtraNames) (b : BoardView) (calls : List (ℕ × ℕ)) (texts : List (List ℕ)) (words : List ℕ)
    (read : HasReadExtra list_row file names b calls texts words) (cheap : cost_of_texts b texts ≤ MOST_COST) where
  pub failed-as-listed : {T : Type 0} (r : Result T Status) (fails : List (List ℕ)) (logs : List (List PortCall))
      → length logs ≡ length fails → HaveFailedJustAt fails logs → OnOk r (fails ≡ map (fails_on calls) (range_with_len 0 (length b.roots)))
      → OnOk r (HasFailedAsListed file names logs)
  failed-as-listed (Err e) fails logs long just is = tt
  failed-as-listed (Ok x) fails logs long just is = record {
    files = record {
      texts = has_extra_texts list_row file names b calls texts words read;
      cheap = subst (λ (n : ℕ). n ≤ MOST_COST)
          (ap (λ (k : BoardView). cost_of_texts k texts) read.board_in.same ∙ ap (cost_of_texts read.board_in.has.board) read.texts_are)
          cheap;
    };
    count = long ∙ ap (λ (fs : List (List ℕ)). length fs) is
        ∙ length-map-range_with_len (fails_on calls) 0 (length b.roots) ∙ ap (λ (k : BoardView). length k.roots) read.board_in.same;
    failed = subst (λ (fs : List (List ℕ)). HaveFailedJustAt fs logs)
        (is ∙ ap (λ (k : BoardView). map (fails_on calls) (range_with_len 0 (length k.roots))) read.board_in.same
        ∙ ap (λ (cs : List (ℕ × ℕ)). map (fails_on cs) (range_with_len 0 (length read.board_in.has.board.roots))) read.extra_in.same) just;
  }

-- ports that were given back have each a log and its list
pub as-many : (given : Option (List FailView)) → length (logs_given given) ≡ length (fails_given given)
as-many None = refl
as-many (Some ps) = length-map ps (λ p. p.port.log) ∙ sym (length-map ps (λ p. p.fails))

-- a call that ends with Ok came to a success
pub of-success : {T : Type 0} (r : Result T Status) (old new : OutputView) (name : Status → List ℕ) (result : Status) (A : Type 0)
    → IfErr r (λ e. e ≢ status.Ok) → IfErr r (λ e. IsRefusalWritten old new e (name e) result) → OnOk r A → result ≡ status.Ok → A
of-success (Ok x) old new name result A refusal written a ok = a
of-success (Err e) old new name result A refusal written a ok = elim written [
  | inl starved ↦ absurd (let f : status.Memory ≡ status.Ok = sym starved.starved ∙ ok in cc)
  | inr w ↦ elim w.1 [
    | inl whole ↦ absurd (refusal (sym whole.same ∙ ok))
    | inr cut ↦ absurd (let f : status.Write ≡ status.Ok = sym cut.failed ∙ ok in cc)
  ]
]
