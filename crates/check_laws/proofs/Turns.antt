-- After one past a caller has one step where the same calls of the ports fail, and one that is stuck has none. No induction.
use Rattle.std.proofs.Common.{◌≡◌, ℕ, List, length, Some, None, sym, ◌∙◌, subst, inl, inr, arith}
use Rattle.std.proofs.lemmas.List.{length-reverse}
use Rattle.i2c_base.specs.declared.entry.Entry.{Entry}
use Rattle.i2c_base.specs.declared.entry.Entry.TheVariants as entry
use Rattle.i2c_base.specs.declared.port.PortCall.{PortCall}
use Rattle.i2c_base.specs.Board.{BoardView}
use Rattle.i2c_spec.specs.History.{Asks}
use Rattle.i2c_spec.specs.Plain.{IsPlainBoard}
use Rattle.i2c_spec.specs.TreeFacts.{IsTree}
use Rattle.bus_spec.specs.Past.{now}
use Rattle.bus_spec.specs.Readings.{caller_of}
use Rattle.bus_spec.specs.Schedule.{Turn, past_after}
use Rattle.bus_spec.specs.Stepwise.{May, IsStepwise}
use Rattle.bus_spec.specs.Walk.{Act, Take}
use Rattle.bus_laws.specs.Coming.{IsTurn}
use Rattle.bus_laws.specs.Lines.{LinesAreLocked}
use Rattle.bus_laws.specs.Reach.{AsksForMessages}
use Rattle.bus_laws.specs.Ready.{IsStuck}
use Rattle.bus_laws.proofs.past.Known.{Does, does-next, never}
use Rattle.bus_laws.proofs.past.Laws.{holder-told}
use Rattle.journal_laws.proofs.schedule.Unique.{one_turn}
use Rattle.check_laws.specs.Failed.{FailBy}
use Rattle.check_laws.proofs.Gaps.{FailsBy, gone_on, gone_on-more, there}

module _ (b : BoardView) (tree : IsTree b) (plain : IsPlainBoard b) (lines : LinesAreLocked b) (asks : Asks) (some : AsksForMessages asks)
    (callers : ℕ) (gaps : ℕ → List ℕ) where
  -- the log of a root fails by its gaps
  log-fails : (past : List Entry) → FailBy b asks gaps past → (r : ℕ) → FailsBy ((now b asks past).calls r) (gaps r)
  log-fails past fails r = λ n low. fails r n (omega (arith, low, length-reverse ((now b asks past).calls r)))

  pub same-turn : (past : List Entry) → IsStepwise b callers asks past → (t u : Turn) → IsTurn b callers asks past t
      → IsTurn b callers asks past u → t.caller ≡ u.caller → (now b asks (past_after past t)).due ≡ None
      → (now b asks (past_after past u)).due ≡ None → FailBy b asks gaps (past_after past t) → FailBy b asks gaps (past_after past u)
      → t ≡ u
  same-turn past steps t u is1 is2 own none1 none2 fails1 fails2 =
      one_turn b tree plain lines asks some callers past steps t u is1 is2 own none1 none2
      (λ r. gone_on (gaps r) (one r) (length (two r))) (λ r. gone_on (gaps r) (two r) (length (one r)))
      (λ r. gone_on-more (gaps r) (one r) (length (two r))) (λ r. gone_on-more (gaps r) (two r) (length (one r)))
      (λ r n low failed. there (gaps r) (one r) (two r) (log-fails (past_after past t) fails1 r)
      (log-fails (past_after past u) fails2 r) n failed)
      (λ r n low failed. there (gaps r) (two r) (one r) (log-fails (past_after past u) fails2 r)
      (log-fails (past_after past t) fails1 r) n failed)
    where
      one : ℕ → List PortCall
      one r = (now b asks (past_after past t)).calls r

      two : ℕ → List PortCall
      two r = (now b asks (past_after past u)).calls r

  -- who is stuck adds nothing
  pub stuck-adds : (past : List Entry) (e : Entry) → May b callers asks (now b asks past) e → IsStuck b asks past (caller_of e) → ⊥
  stuck-adds past e may stuck =
      elim stuck [
        | inl w ↦ (let does = does-next b callers asks (now b asks past) e may in
            let act : does.0 ≡ Take w.0 = (let f : Some does.0 ≡ Some (Take w.0) = sym does.1 ∙ w.2 in cc) in
            let is : e ≡ entry.Take (caller_of e) w.0 = subst (λ (a : Act). Does b asks (now b asks past) a e) act does.2 in
            let free : May b callers asks (now b asks past) (entry.Take (caller_of e) w.0) =
            subst (λ (x : Entry). May b callers asks (now b asks past) x) is may in
            let f : None ≡ Some w.1 = sym free.3 ∙ holder-told b asks past w.0 ∙ w.3 in cc)
        | inr none ↦ never b callers asks (now b asks past) e may none
      ]
