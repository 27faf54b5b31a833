-- A legal past is stepwise, and so are its prefixes, which are legal where no settle is due after them. The inductions
-- go over the entries.
use Rattle.journal_laws.proofs.Cited.{◌≡◌, ℕ, ◌<◌, true, false, List, [], ◌∷◌, ◌++◌, Option, Some, None, refl, sym, ◌∙◌, ap, subst, ◌⊎◌}
use Rattle.journal_laws.proofs.Cited.{inl, inr, eqb_tells, Entry, Reply, Cut, BoardView, TransferView, IsTree, IsPlainBoard, MeetsRules}
use Rattle.journal_laws.proofs.Cited.{Asks, changed_at, caller_of, replies, Everywhere, Now, now, is_due, TellsNext, reply_by, May}
use Rattle.journal_laws.proofs.Cited.{IsStepwise, IsPlaced, SettleAt, KeepsSettles, IsLegal, LinesAreLocked, AsksForMessages}
use Rattle.journal_laws.proofs.Cited.{AsksWithinLimits, at_same, at_other, past-stands, holder-told, cut-told, settles-kept, lines-locked}
use Rattle.journal_laws.proofs.Cited.{replies-kept, legal-with, walks-led, same_Some}
use Rattle.std.specs.Option.{option_and_then}
use Rattle.i2c_base.specs.declared.entry.Entry.TheVariants as entry
use Rattle.i2c_spec.specs.History.{History, history, one_more, with_told}
use Rattle.i2c_spec.specs.Flat.{flat}
use Rattle.bus_spec.specs.Readings.{order}
use Rattle.bus_spec.specs.Legal.{LocksAt, KeepsLocks, KeepsReplies}
use Rattle.journal_laws.specs.Layers.{BelongsTo}
use Rattle.journal_laws.proofs.past.Layers.{own_replies, other_replies, walks-tell, walks-due}
use Rattle.journal_laws.proofs.past.Due.{IsDue, IsParted, due-told, tells-due, parts, stays-parted}
use Rattle.bus_laws.proofs.tree.Falls.{is_below_all}

-- THE REPLIES of a prefix are those of its history
last_same : (rs qs : List Reply) (r q : Reply) → rs ++ r ∷ [] ≡ qs ++ q ∷ [] → (rs ≡ qs) × (r ≡ q)
last_same [] [] r q e = (refl, (let f : r ∷ [] ≡ q ∷ [] = e in cc))
last_same [] (y ∷ []) r q e = absurd (let f : r ∷ [] ≡ y ∷ q ∷ [] = e in cc)
last_same [] (y ∷ z ∷ qs) r q e = absurd (let f : r ∷ [] ≡ y ∷ z ∷ (qs ++ q ∷ []) = e in cc)
last_same (x ∷ []) [] r q e = absurd (let f : x ∷ r ∷ [] ≡ q ∷ [] = e in cc)
last_same (x ∷ z ∷ rs) [] r q e = absurd (let f : x ∷ z ∷ (rs ++ r ∷ []) ≡ q ∷ [] = e in cc)
last_same (x ∷ rs) (y ∷ qs) r q e =
    let f : x ∷ (rs ++ r ∷ []) ≡ y ∷ (qs ++ q ∷ []) = e in
    let more = last_same rs qs r q (let g : rs ++ r ∷ [] ≡ qs ++ q ∷ [] = cc in g) in
    let first : x ≡ y = cc in
    (ap (λ (z : Reply). z ∷ rs) first ∙ ap (λ (zs : List Reply). y ∷ zs) more.0, more.1)

module _ (b : BoardView) (asks : Asks) where
  -- a history that goes on has gone on from one, by a reply of its caller's
  goes_on : (c : ℕ) (cut : Cut) (h told : History) → one_more b asks c cut h ≡ Some told
      → (r : Reply) × (told.replies ≡ changed_at h.replies c (h.replies c ++ r ∷ []))
  goes_on c cut h told e = by (asks c (h.replies c)) e
    where
      by : (o : Option TransferView) → Rattle.std.specs.Option.option_map (λ t. with_told h c (flat b h.states t cut)) o ≡ Some told
          → (r : Reply) × (told.replies ≡ changed_at h.replies c (h.replies c ++ r ∷ []))
      by None f = absurd (let g : None ≡ Some told = f in cc)
      by (Some t) f = (
        (flat b h.states t cut).reply,
        (let g : Some (with_told h c (flat b h.states t cut)) ≡ Some told = f in
            ap (λ (x : History). x.replies) (sym (same_Some (with_told h c (flat b h.states t cut)) told g))),
      )

  pub replies-front : (e : Entry) (past : List Entry) → KeepsReplies b asks (e ∷ past) → KeepsReplies b asks past
  replies-front (entry.Take c l) past keeps = record { told = keeps.told; defined = keeps.defined; same = keeps.same }
  replies-front (entry.Free c l) past keeps = record { told = keeps.told; defined = keeps.defined; same = keeps.same }
  replies-front (entry.Line c mux level failed) past keeps = record { told = keeps.told; defined = keeps.defined; same = keeps.same }
  replies-front (entry.Message c bus purpose part parts addr reading bytes heard e) past keeps =
      record { told = keeps.told; defined = keeps.defined; same = keeps.same }
  replies-front (entry.Settle c r cut) past keeps = by (history b asks (order past)) refl keeps.defined
    where
      by : (o : Option History) → history b asks (order past) ≡ o → option_and_then (one_more b asks c cut) o ≡ Some keeps.told
          → KeepsReplies b asks past
      by None before e = absurd (let f : None ≡ Some keeps.told = e in cc)
      by (Some h) before e =
          let more = goes_on c cut h keeps.told e in
          record {
            told = h;
            defined = before;
            same = λ d. elim (eqb_tells c d) [
              | inl own ↦ subst (λ (i : ℕ). replies past i ≡ h.replies i) own.1
                  (last_same (replies past c) (h.replies c) r more.0
                  (sym (own_replies b asks past c (entry.Settle c r cut) refl) ∙ keeps.same c
                  ∙ ap (λ (f : ℕ → List Reply). f c) more.1 ∙ at_same h.replies c (h.replies c ++ more.0 ∷ []))).0
              | inr other ↦ sym (other_replies b asks past d (entry.Settle c r cut) other.1) ∙ keeps.same d
                  ∙ ap (λ (f : ℕ → List Reply). f d) more.1 ∙ at_other h.replies c (h.replies c ++ more.0 ∷ []) d (λ f. other.1 (sym f))
            ];
          }

module _ (b : BoardView) (tree : IsTree b) (plain : IsPlainBoard b) (lines : LinesAreLocked b) (asks : Asks) (some : AsksForMessages asks)
    (limits : AsksWithinLimits asks) (callers : ℕ) where
  -- ONE ENTRY of a legal past
  module _ (past : List Entry) (steps : IsStepwise b callers asks past) where
    abbrev n : Now
    n = now b asks past

    -- an entry that is no settle comes where none is due
    none_due : (e : Entry) → TellsNext b asks n e → ((c : ℕ) → IsParted b asks (e ∷ past) c → ⊥)
        → ((r : Reply) (cut : Cut) → e ≡ entry.Settle (caller_of e) r cut → ⊥) → n.due ≡ None
    none_due e tells whole no_settle = by n.due refl
      where
        by : (o : Option ℕ) → n.due ≡ o → n.due ≡ None
        by None none = none
        by (Some c) due =
            let h : IsDue b asks past c = due-told b asks some callers past c steps due in
            elim (eqb_tells (caller_of e) c) [
              | inr other ↦ absurd (whole c (parts b asks past c e h other.1))
              | inl own ↦ (let is = tells-due b asks past e (subst (λ (i : ℕ). IsDue b asks past i) (sym own.1) h) tells in
                  absurd (no_settle is.0 is.1 is.2))
            ]

    own_due : (c : ℕ) (r : Reply) (cut : Cut) → ((d : ℕ) → IsParted b asks (entry.Settle c r cut ∷ past) d → ⊥)
        → (n.due ≡ None) ⊎ (n.due ≡ Some c)
    own_due c r cut whole = by n.due refl
      where
        by : (o : Option ℕ) → n.due ≡ o → (n.due ≡ None) ⊎ (n.due ≡ Some c)
        by None none = inl none
        by (Some d) due =
            elim (eqb_tells c d) [
              | inr other ↦ absurd (whole d (parts b asks past d (entry.Settle c r cut)
                  (due-told b asks some callers past d steps due) other.1))
              | inl own ↦ inr (due ∙ ap Some (sym own.1))
            ]

    may_come : (e : Entry) → caller_of e < callers → LocksAt b e past → TellsNext b asks n e → SettleAt b asks e past
        → ((c : ℕ) → IsParted b asks (e ∷ past) c → ⊥) → KeepsReplies b asks (e ∷ past) → May b callers asks n e
    may_come (entry.Take c l) known locks tells at whole keeps = (
      known,
      none_due (entry.Take c l) tells whole (λ r cut e. let f : entry.Take c l ≡ entry.Settle c r cut = e in cc),
      tells,
      holder-told b asks past l ∙ locks.0,
      is_below_all b l (n.held c) (λ k i. locks.1 k (sym (holder-told b asks past k)
          ∙ (past-stands b tree plain lines asks some callers past steps).holds c k i)),
    )
    may_come (entry.Free c l) known locks tells at whole keeps =
        (known, none_due (entry.Free c l) tells whole (λ r cut e. let f : entry.Free c l ≡ entry.Settle c r cut = e in cc), tells)
    may_come (entry.Line c mux level failed) known locks tells at whole keeps = (
      known,
      none_due (entry.Line c mux level failed) tells whole
          (λ r cut e. let f : entry.Line c mux level failed ≡ entry.Settle c r cut = e in cc),
      tells,
    )
    may_come (entry.Message c bus purpose part parts addr reading bytes heard x) known locks tells at whole keeps = (
      known,
      none_due (entry.Message c bus purpose part parts addr reading bytes heard x) tells whole
          (λ r cut e. let f : entry.Message c bus purpose part parts addr reading bytes heard x ≡ entry.Settle c r cut = e in cc),
      tells,
    )
    may_come (entry.Settle c r cut) known locks tells at whole keeps =
        (known, own_due c r cut whole, tells.0, tells.1, reply_is, cut_is)
      where
        cut_is : cut ≡ n.cut c
        cut_is = at.0 ∙ sym (cut-told b asks past c)

        -- the reply that the walk decides is that of the history, and so is the one that was settled
        decided : Reply
        decided = reply_by tells.0 (asks c (n.settled c)) (n.got c)

        might : KeepsReplies b asks (entry.Settle c decided cut ∷ past)
        might = replies-kept b tree plain lines asks some limits callers (entry.Settle c decided cut ∷ past)
            ((known, own_due c r cut whole, tells.0, tells.1, refl, cut_is), steps)

        reply_is : r ≡ decided
        reply_is =
            (last_same (replies past c) (replies past c) r decided
            (sym (own_replies b asks past c (entry.Settle c r cut) refl) ∙ keeps.same c
            ∙ ap (λ (h : History). h.replies c) (same_Some keeps.told might.told (sym keeps.defined ∙ might.defined))
            ∙ sym (might.same c) ∙ own_replies b asks past c (entry.Settle c decided cut) refl)).1

  -- THE INDUCTION
  steps_of : (past : List Entry) → Everywhere (λ e before. caller_of e < callers) past → KeepsLocks b past
      → Everywhere (λ e before. TellsNext b asks (now b asks before) e) past → KeepsSettles b asks past
      → ((c : ℕ) → IsParted b asks past c → ⊥) → KeepsReplies b asks past → IsStepwise b callers asks past
  steps_of [] known locks tells settles whole keeps = tt
  steps_of (e ∷ past) known locks tells settles whole keeps =
      let before : IsStepwise b callers asks past =
      steps_of past known.1 locks.1 tells.1 settles.1 (λ c p. whole c (stays-parted b asks past c e p tells.0 settles.0))
      (replies-front b asks e past keeps) in
      (may_come past before e known.0 locks.0 tells.0 settles.0 whole keeps, before)

  whole_parts : (past : List Entry) → IsLegal b callers asks past → (c : ℕ) → IsParted b asks past c → ⊥
  whole_parts past legal c p =
      let f : true ≡ false = sym (ap is_due p.due.next) ∙ walks-due b asks past (walks-led b asks past legal.walks) c in cc

  pub legal-steps : (past : List Entry) → IsLegal b callers asks past → IsStepwise b callers asks past
  legal-steps past legal =
      steps_of past legal.known legal.locks (walks-tell b asks past (walks-led b asks past legal.walks)) legal.settles
      (whole_parts past legal) legal.replies_kept

  pub legal-due : (past : List Entry) → IsLegal b callers asks past → (now b asks past).due ≡ None
  legal-due past legal = by (now b asks past).due refl
    where
      by : (o : Option ℕ) → (now b asks past).due ≡ o → (now b asks past).due ≡ None
      by None none = none
      by (Some c) due =
          let h : IsDue b asks past c = due-told b asks some callers past c (legal-steps past legal) due in
          absurd (let f : true ≡ false = sym (ap is_due h.next) ∙ walks-due b asks past (walks-led b asks past legal.walks) c in cc)

  -- A PREFIX that doesn't end between a message or line step and its settle
  pub steps-front : (later past : List Entry) → IsStepwise b callers asks (later ++ past) → IsStepwise b callers asks past
  steps-front [] past steps = steps
  steps-front (e ∷ later) past steps = steps-front later past steps.1

  pub front-due : (e : Entry) (past : List Entry) → IsStepwise b callers asks (e ∷ past) → (BelongsTo e past → ⊥)
      → (now b asks past).due ≡ None
  front-due (entry.Take c l) past steps apart = steps.0.1
  front-due (entry.Free c l) past steps apart = steps.0.1
  front-due (entry.Line c mux level failed) past steps apart = steps.0.1
  front-due (entry.Message c bus purpose part parts addr reading bytes heard x) past steps apart = steps.0.1
  front-due (entry.Settle c r cut) past steps apart =
      elim steps.0.1 [
        | inl none ↦ none
        | inr due ↦ (let h : IsDue b asks past c = due-told b asks some callers past c steps.1 due in
            let placed : IsPlaced b (Some h.transfer) c past =
            subst (λ (o : Option TransferView). IsPlaced b o c past) h.asked
            (settles-kept b asks some callers (entry.Settle c r cut ∷ past) steps).0.1 in
            absurd (apart (placed h.accepted)))
      ]

  pub front-legal : (later : List Entry) (e : Entry) (past : List Entry) → IsLegal b callers asks (later ++ e ∷ past)
      → (BelongsTo e past → ⊥) → IsLegal b callers asks past
  front-legal later e past legal apart =
      let steps : IsStepwise b callers asks (e ∷ past) = steps-front later (e ∷ past) (legal-steps (later ++ e ∷ past) legal) in
      legal-with b tree plain lines asks some callers past steps.1 (front-due e past steps apart)
      (replies-kept b tree plain lines asks some limits callers past steps.1)

-- what each stepwise past keeps on an accepted board, each legal one keeps
pub kept-by-both : (K : BoardView → Asks → List Entry → Type 0) → ((b : BoardView) → IsPlainBoard b → MeetsRules b → IsTree b)
    → ((b : BoardView) → IsTree b → IsPlainBoard b → LinesAreLocked b → (asks : Asks) → AsksForMessages asks → (callers : ℕ)
    (past : List Entry) → IsStepwise b callers asks past → K b asks past)
    → ((b : BoardView) (callers : ℕ) (asks : Asks) (past : List Entry) → IsPlainBoard b → MeetsRules b → AsksForMessages asks
    → IsStepwise b callers asks past → K b asks past)
    × ((b : BoardView) (callers : ℕ) (asks : Asks) (past : List Entry) → IsPlainBoard b → MeetsRules b → AsksForMessages asks
    → AsksWithinLimits asks → IsLegal b callers asks past → K b asks past)
kept-by-both K trees kept = (
  λ b callers asks past plain rules some. kept b (trees b plain rules) plain (lines-locked b rules) asks some callers past,
  λ b callers asks past plain rules some limits legal. (let tree = trees b plain rules in
      kept b tree plain (lines-locked b rules) asks some callers past
      (legal-steps b tree plain (lines-locked b rules) asks some limits callers past legal)),
)
