-- The seat of a caller whose walk goes on after a step, and after its settle. No induction.
use Rattle.core_laws.proofs.Cited.{◌≡◌, ℕ, ◌-◌, ◌≤◌, Bool, true, false, List, [], ◌∷◌, Option, Some, refl, sym, ◌∙◌, ap, subst, inl, take}
use Rattle.core_laws.proofs.Cited.{not, LockId, Errno, Reply, Fits, FitsReads, cost_of, Settle, Passed, WalkTree, seen, is_over, first_act}
use Rattle.core_laws.proofs.Cited.{rest_of, IsMarkOn, HoldsLocks, InLocks, seen-first, mark_on, SeenView, slots_of, Place, Run, has_reply}
use Rattle.core_laws.proofs.Cited.{IsGoing, SeatKept, OwesUpTo, IsLeft, IsDecided}
use Rattle.i2c_base.specs.declared.reply.Cut.{Cut}
use Rattle.i2c_base.specs.declared.reply.Cut.TheVariants as cut_at
use Rattle.core_laws.proofs.Holding.{holder-goes, holds-settled}
use Rattle.core_laws.proofs.Owed.{owes-settle}
use Rattle.core_laws.proofs.WalkSteps.{left-settled}

-- what a caller's walk owes, with all that it may ask for after it
abbrev pub OwesAt : Run → Place → WalkTree → Bool → ℕ → Type 0
OwesAt run p w unsettled n = OwesUpTo run.board w unsettled (run.left p.number p.taken - cost_of run.board p.transfer) n

module _ (run : Run) (p : Place) (n : ℕ) (its : IsGoing run p n) (ls : List LockId) (w : WalkTree) (holds : HoldsLocks run.board ls w)
    (gone : ℕ) where
  -- A WALK THAT GOES ON, after a step other than its settle
  pub seat-behind : is_over w ≡ false → IsLeft run.board p.transfer (has_reply p.owed) gone w → (got : List ℕ)
      → (p.owed ≡ [] → FitsReads (take gone p.transfer.msgs) got) → (has_reply p.owed ≡ true → got ≡ [])
      → (cut : Cut) (less : ℕ) → OwesAt run p w (not (has_reply p.owed)) less
      → SeatKept run (record p { tree = w; sent = gone; got = got; cut = cut }) ls less
  seat-behind goes leaves got partway emptied cut less owes =
      record {
        over = λ o. absurd (let f : false ≡ true = sym goes ∙ o in cc);
        going = λ g. record { asked = its.asked; is_left = inl leaves; partway = partway; emptied = emptied; fits = its.fits; owes = owes };
        holds = holds;
      }

  -- A WALK THAT SETTLES NEXT, and its settle: its reply is owed
  module _ (words : SeenView) (home : (q : ℕ) → IsMarkOn run.board q (mark_on words q)) (verdict : Option Errno)
      (decides : IsDecided run.board p.transfer verdict w)
      (l : LockId) (among : InLocks l ls) (unsettled : has_reply p.owed ≡ false) (less : ℕ)
      (owes : OwesAt run p w (not (has_reply p.owed)) less) where
    abbrev pub after : WalkTree
    after = rest_of w Passed

    look : seen (slots_of words) w ≡ w
    look = seen-first (slots_of words) w (Settle verdict) decides.first

    settles : first_act (seen (slots_of words) w) ≡ Some (Settle verdict)
    settles = ap (λ (x : WalkTree). first_act x) look ∙ decides.first

    after_holds : HoldsLocks run.board ls after
    after_holds = subst (λ (x : WalkTree). HoldsLocks run.board ls (rest_of x Passed)) look
        (holds-settled run.board words home ls w holds verdict settles)

    paid : (1 ≤ less) × OwesAt run p (rest_of (seen (slots_of words) w) Passed) false (less - 1)
    paid = owes-settle run.board w (run.left p.number p.taken - cost_of run.board p.transfer) less
        (subst (λ (u : Bool). OwesAt run p w u less) (ap not unsettled) owes) (slots_of words) verdict settles

    pub settled-pays : 1 ≤ less
    settled-pays = paid.0

    pub settled-goes : is_over after ≡ false
    settled-goes = holder-goes run.board ls after after_holds l among

    pub seat-settled : (reply : Reply) → Fits p.transfer reply
        → SeatKept run (record p { tree = after; owed = reply ∷ []; sent = gone; got = []; cut = cut_at.No }) ls (less - 1)
    seat-settled reply fits =
        record {
          over = λ o. absurd (let f : false ≡ true = sym settled-goes ∙ o in cc);
          going = λ g. record {
            asked = its.asked;
            is_left = inl (subst (λ (x : WalkTree). IsLeft run.board p.transfer true gone (rest_of x Passed)) look
                (left-settled run.board p.transfer verdict w (slots_of words) gone decides));
            partway = λ f. absurd (let h : reply ∷ [] ≡ [] = f in cc);
            emptied = λ f. refl;
            fits = λ r f. subst (λ (x : Reply). Fits p.transfer x) (let h : reply ∷ [] ≡ r ∷ [] = f in cc) fits;
            owes = subst (λ (x : WalkTree). OwesAt run p (rest_of x Passed) false (less - 1)) look paid.1;
          };
          holds = after_holds;
        }
