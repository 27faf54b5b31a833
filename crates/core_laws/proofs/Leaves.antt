-- What a message leaves of its transfer, whichever it is and however it ended, and the reply that fits. No induction.
use Rattle.core_laws.proofs.Cited.{◌≡◌, ℕ, ◌+◌, Bool, cond, List, Some, refl, sym, subst, ◌⊎◌, inl, inr, End, BoardView, TransferView, Job}
use Rattle.core_laws.proofs.Cited.{Call, Select, SwitchOff, Send, Sent, WalkTree, Slots, seen, first_act, rest_of, IsLeft, gone_after}
use Rattle.i2c_base.specs.declared.entry.End.TheVariants as end
use Rattle.i2c_base.specs.declared.entry.Purpose.TheVariants as purpose
use Rattle.mux_plan.specs.Plans.{is_call_through}
use Rattle.core_laws.proofs.WalkSteps.{SendLeaves, select-leaves, off-leaves, went-leaves, ended-leaves}

pub is_ok : (x : End) → (x ≡ end.Ok) ⊎ (x ≡ end.Ok → ⊥)
is_ok end.Ok = inl refl
is_ok end.Nack = inr (λ h. let f : end.Nack ≡ end.Ok = h in cc)
is_ok end.Slow = inr (λ h. let f : end.Slow ≡ end.Ok = h in cc)
is_ok end.Refused = inr (λ h. let f : end.Refused ≡ end.Ok = h in cc)
is_ok end.Proto = inr (λ h. let f : end.Proto ≡ end.Ok = h in cc)
is_ok (end.Cut q) = inr (λ h. let f : end.Cut q ≡ end.Ok = h in cc)

-- so many went through after it: one more where it is the caller's and its end is good
pub message-leaves : (b : BoardView) (t : TransferView) (v : Slots) (w : WalkTree) (settled : Bool) (sent : ℕ) → IsLeft b t settled sent w
    → (job : Job) (more : ℕ) → first_act (seen v w) ≡ Some (Send job more) → (e : End) (bytes : List ℕ)
    → SendLeaves b t settled (gone_after sent job e) job more e (rest_of (seen v w) (Sent e bytes))
message-leaves b t v w settled sent is (Select h) more first e bytes = select-leaves b t v w settled sent is h more first e bytes
message-leaves b t v w settled sent is (SwitchOff off) more first e bytes = off-leaves b t v w settled sent is off more first e bytes
message-leaves b t v w settled sent is (Call bus ms) more first e bytes =
    elim (is_ok e) [
      | inl fine ↦ subst (λ (x : End). SendLeaves b t settled (cond (is_call_through purpose.Call x) (sent + 1) sent) (Call bus ms) more x
          (rest_of (seen v w) (Sent x bytes))) (sym fine)
          (went-leaves b t v w settled sent is bus ms more first bytes)
      | inr bad ↦ inr (ended-leaves b t v w settled sent is bus ms more first e bytes bad)
    ]
