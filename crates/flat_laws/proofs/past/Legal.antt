-- A stepwise past in which no settle is due keeps every rule of a legal journal, with the one on replies.
use Rattle.flat_laws.proofs.Cited.{◌≡◌, ℕ, ◌<◌, List, [], ◌∷◌, None, Entry, BoardView, IsTree, IsPlainBoard, Asks, caller_of, now}
use Rattle.flat_laws.proofs.Cited.{IsStepwise, KeepsReplies, IsLegal, LinesAreLocked, AsksForMessages}
use Rattle.bus_spec.specs.Readings.{Everywhere}
use Rattle.bus_laws.proofs.past.Laws.{locks-kept}
use Rattle.bus_laws.proofs.past.Asked.{reach-kept}
use Rattle.bus_laws.proofs.past.Whole.{whole-kept}
use Rattle.bus_laws.proofs.past.Placed.{settles-kept}
use Rattle.flat_laws.proofs.walk.Rule.{transfers-kept}
use Rattle.bus_laws.proofs.past.Known.{entry_known}

callers_known : (b : BoardView) (callers : ℕ) (asks : Asks) (past : List Entry) → IsStepwise b callers asks past
    → Everywhere (λ e before. caller_of e < callers) past
callers_known b callers asks [] steps = tt
callers_known b callers asks (e ∷ past) steps =
    (entry_known b callers asks (now b asks past) e steps.0, callers_known b callers asks past steps.1)

pub legal-with : (b : BoardView) → IsTree b → IsPlainBoard b → LinesAreLocked b → (asks : Asks) → AsksForMessages asks
    → (callers : ℕ) (past : List Entry)
    → IsStepwise b callers asks past → (now b asks past).due ≡ None → KeepsReplies b asks past → IsLegal b callers asks past
legal-with b tree plain lines asks some callers past steps none_due replies_kept =
    record {
      known = callers_known b callers asks past steps;
      locks = locks-kept b tree plain lines asks some callers past steps;
      whole = whole-kept b tree plain lines asks some callers past steps;
      walks = transfers-kept b asks some callers past steps none_due;
      reach = reach-kept b tree plain lines asks some callers past steps;
      replies_kept = replies_kept;
      settles = settles-kept b asks some callers past steps;
    }
