-- An entry that may come is its caller's next step; and who asks for nothing never steps. The induction goes over the past.
use Rattle.bus_laws.proofs.Cited.{◌≡◌, ℕ, ◌<◌, ◌≤◌, Bool, List, [], ◌∷◌, Some, None, refl, sym, ◌∙◌, ap, subst, arith, inl, inr, LockId}
use Rattle.bus_laws.proofs.Cited.{Entry, Reply, BoardView, Asks, Act, Take, Free, Send, Shift, Settle, WalkTree, Ends, line_mux, line_level}
use Rattle.bus_laws.proofs.Cited.{first_act, seen, MessageEntry, caller_of, Now, begun, current, now, step, TellsMessage, May, IsNext}
use Rattle.bus_laws.proofs.Cited.{IsStepwise, reply_by, ahead, CallerTold}
use Rattle.std.proofs.lemmas.Bool.Decides.{leb_tells}
use Rattle.i2c_base.specs.declared.entry.Entry.TheVariants as entry
use Rattle.bus_laws.proofs.past.Others.{others-stay}

abbrev pub message_entry : MessageEntry → Entry
message_entry m = entry.Message m.caller m.bus m.purpose m.part m.parts m.addr m.reading m.bytes m.heard m.end

-- an entry does this step: all of it is told by the step, but for what comes of a message or a line step
abbrev pub Does : BoardView → Asks → Now → Act → Entry → Type 0
Does b asks n (Take l) e = e ≡ entry.Take (caller_of e) l
Does b asks n (Free l) e = e ≡ entry.Free (caller_of e) l
Does b asks n (Send job left) e = (m : MessageEntry) × (e ≡ message_entry m) × TellsMessage b n job left m
Does b asks n (Shift job) e = (failed : Bool) × (e ≡ entry.Line (caller_of e) (line_mux job) (line_level job) failed)
Does b asks n (Settle verdict) e =
    e ≡ entry.Settle (caller_of e) (reply_by verdict (asks (caller_of e) (n.settled (caller_of e))) (n.got (caller_of e)))
    (n.cut (caller_of e))

-- an entry that may come does its caller's next step
pub does-next : (b : BoardView) (callers : ℕ) (asks : Asks) (n : Now) (e : Entry) → May b callers asks n e
    → (act : Act) × IsNext b asks n (caller_of e) act × Does b asks n act e
does-next b callers asks n (entry.Take c l) may = (Take l, may.2, refl)
does-next b callers asks n (entry.Free c l) may = (Free l, may.2, refl)
does-next b callers asks n (entry.Message c bus why part parts addr reading bytes heard e) may = (
  Send may.2.0 may.2.1,
  may.2.2,
  (_, refl, may.2.3),
)
does-next b callers asks n (entry.Line c mux level failed) may = (
  Shift may.2.0,
  may.2.1,
  (
    failed,
    ap (λ (m : ℕ). entry.Line c m level failed) may.2.2.of_mux
        ∙ ap (λ (l : ℕ). entry.Line c (line_mux may.2.0) l failed) may.2.2.to_level,
  ),
)
does-next b callers asks n (entry.Settle c r cut) may = (
  Settle may.2,
  may.3,
  ap (λ (x : Reply). entry.Settle c x cut) may.4
      ∙ ap (entry.Settle c (reply_by may.2 (asks c (n.settled c)) (n.got c))) may.5,
)

-- .. so one of a caller that takes a lock next takes that lock, and one of a caller that has finished never comes
pub takes : (b : BoardView) (callers : ℕ) (asks : Asks) (n : Now) (e : Entry) → May b callers asks n e → (l : LockId)
    → IsNext b asks n (caller_of e) (Take l)
    → (c : ℕ) × (e ≡ entry.Take c l)
takes b callers asks n e may l next =
    let does = does-next b callers asks n e may in (
      caller_of e,
      subst (λ (act : Act). Does b asks n act e) (let f : Some does.0 ≡ Some (Take l) = sym does.1 ∙ next in
          let g : does.0 ≡ Take l = cc in g) does.2,
    )

pub never : (b : BoardView) (callers : ℕ) (asks : Asks) (n : Now) (e : Entry) → May b callers asks n e
    → first_act (current b asks n (caller_of e)) ≡ None → ⊥
never b callers asks n e may none = (let does = does-next b callers asks n e may in let f : Some does.0 ≡ None = sym does.1 ∙ none in cc)

-- .. which is one of them
pub entry_known : (b : BoardView) (callers : ℕ) (asks : Asks) (n : Now) (e : Entry) → May b callers asks n e → caller_of e < callers
entry_known b callers asks n (entry.Take c l) may = may.0
entry_known b callers asks n (entry.Free c l) may = may.0
entry_known b callers asks n (entry.Message c bus why part parts addr reading bytes heard e) may = may.0
entry_known b callers asks n (entry.Line c mux level failed) may = may.0
entry_known b callers asks n (entry.Settle c r cut) may = may.0

may_below : (b : BoardView) (callers fewer : ℕ) (asks : Asks) (n : Now) (e : Entry) → caller_of e < fewer → May b callers asks n e
    → May b fewer asks n e
may_below b callers fewer asks n (entry.Take c l) low may = (low, may.1, may.2, may.3, may.4)
may_below b callers fewer asks n (entry.Free c l) low may = (low, may.1, may.2)
may_below b callers fewer asks n (entry.Message c bus why part parts addr reading bytes heard e) low may = (low, may.1, may.2)
may_below b callers fewer asks n (entry.Line c mux level failed) low may = (low, may.1, may.2)
may_below b callers fewer asks n (entry.Settle c r cut) low may = (low, may.1, may.2, may.3, may.4, may.5)

module _ (b : BoardView) (callers fewer : ℕ) (asks : Asks) (silent : (d : ℕ) → fewer ≤ d → (rs : List Reply) → asks d rs ≡ None) where
  pub callers-known : (past : List Entry) → IsStepwise b callers asks past
      → IsStepwise b fewer asks past × ((d : ℕ) → fewer ≤ d → ahead b asks (now b asks past) d ≡ Ends)
  callers-known [] steps = (tt, λ d high. ap (begun b) (silent d high []))
  callers-known (e ∷ past) steps =
      let was = callers-known past steps.1 in
      let n : Now = now b asks past in
      elim (leb_tells fewer (caller_of e)) [
        | inl h ↦ (let act = does-next b callers asks n e steps.0 in
            let none : first_act (current b asks n (caller_of e)) ≡ None = ap (λ (w : WalkTree). first_act (seen n.slot w))
            (was.1 (caller_of e) h.1) in
            absurd (let f : None ≡ Some act.0 = sym none ∙ act.1 in cc))
        | inr h ↦ (
          (may_below b callers fewer asks n e (omega (arith, h.1)) steps.0, was.0),
          (λ d high.
              let told : CallerTold b asks (step b asks n e) d (ahead b asks n d) (n.settled d) (n.got d) (n.cut d) =
              others-stay b asks n e d (ahead b asks n d) (n.settled d) (n.got d) (n.cut d) (λ same. omega (arith, same, high, h.1))
              (record { walk = refl; settled = refl; got_is = refl; cut_is = refl }) in
              told.walk ∙ was.1 d high),
        )
      ]
