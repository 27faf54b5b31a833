-- Some caller always waits for nothing: who waits for a lock waits for a caller that waits for none, or for a lock of a lower
-- rank. The induction goes over the rank.
use Rattle.bus_laws.proofs.Cited.{◌≡◌, ℕ, zero, suc, ◌<◌, ◌≤◌, Bool, true, false, cond, List, [], ◌∷◌, Option, Some, None, refl, sym, ◌∙◌}
use Rattle.bus_laws.proofs.Cited.{subst, ◌⊎◌, inl, inr, arith, eqb_tells, LockId, Entry, BoardView, IsTree, IsPlainBoard, Asks, Act, Take}
use Rattle.bus_laws.proofs.Cited.{Free, Send, Shift, Settle, Passed, WalkTree, Ends, Look, Then, Slots, At, answer_to, seen, is_over}
use Rattle.bus_laws.proofs.Cited.{first_act, rank, holder, is_lock, Now, begun, current, now, IsBelow, IsNext, IsStepwise, InLocks, RestOf}
use Rattle.bus_laws.proofs.Cited.{taken_slots, Runs, LinesAreLocked, CallerStands, Stands, AsksForMessages}
use Rattle.i2c_base.specs.declared.entry.Entry.TheVariants as entry
use Rattle.bus_laws.specs.Ready.{HasFinished}
use Rattle.bus_laws.proofs.past.StandsFacts.{current-stands}
use Rattle.bus_laws.proofs.past.StandsEntries.{first_is}
use Rattle.bus_laws.proofs.past.Laws.{past-stands, holder-told, below_each}

-- whoever has a lock is one of the callers
pub holders_known : (b : BoardView) (callers : ℕ) (asks : Asks) (past : List Entry) → IsStepwise b callers asks past → (l : LockId) (c : ℕ)
    → holder past l ≡ Some c → c < callers
holders_known b callers asks [] steps l c has = absurd (let f : None ≡ Some c = has in cc)
holders_known b callers asks (entry.Take d k ∷ past) steps l c has =
    by_lock (λ h. holders_known b callers asks past steps.1 l c h) (is_lock k l) has
  where
    by_lock : (holder past l ≡ Some c → c < callers) → (t : Bool) → cond t (Some d) (holder past l) ≡ Some c → c < callers
    by_lock earlier true e = subst (λ (i : ℕ). i < callers) (let f : Some d ≡ Some c = e in cc) steps.0.0
    by_lock earlier false e = earlier e
holders_known b callers asks (entry.Free d k ∷ past) steps l c has =
    by_lock (λ h. holders_known b callers asks past steps.1 l c h) (is_lock k l) has
  where
    by_lock : (holder past l ≡ Some c → c < callers) → (t : Bool) → cond t None (holder past l) ≡ Some c → c < callers
    by_lock earlier true e = absurd (let f : None ≡ Some c = e in cc)
    by_lock earlier false e = earlier e
holders_known b callers asks (entry.Message d bus purpose part parts addr reading bytes heard e ∷ past) steps l c has =
    holders_known b callers asks past steps.1 l c has
holders_known b callers asks (entry.Line d mux level failed ∷ past) steps l c has = holders_known b callers asks past steps.1 l c has
holders_known b callers asks (entry.Settle d r cut ∷ past) steps l c has = holders_known b callers asks past steps.1 l c has

-- a walk after its looks has ended, or has a step
pub act_or_end : (v : Slots) (w : WalkTree) → (seen v w ≡ Ends) ⊎ ((act : Act) × (first_act (seen v w) ≡ Some act))
act_or_end v Ends = inl refl
act_or_end v (Look ask next) = act_or_end v (next (answer_to v ask))
act_or_end v (Then act note next) = inr (act, refl)

-- a caller has a next step, and doesn't wait with it for a lock
pub record IsFree (b : BoardView) (callers : ℕ) (asks : Asks) (past : List Entry) (c : ℕ) : Type 0 where
  pub known : c < callers
  pub act : Act
  pub next : IsNext b asks (now b asks past) c act
  pub free : (l : LockId) → act ≡ Take l → holder past l ≡ None

-- what a step may wait for
waits : (act : Act) → ((l : LockId) × (act ≡ Take l)) ⊎ ((l : LockId) → act ≡ Take l → ⊥)
waits (Take l) = inl (l, refl)
waits (Free k) = inr (λ l e. let f : Free k ≡ Take l = e in cc)
waits (Send job left) = inr (λ l e. let f : Send job left ≡ Take l = e in cc)
waits (Shift job) = inr (λ l e. let f : Shift job ≡ Take l = e in cc)
waits (Settle verdict) = inr (λ l e. let f : Settle verdict ≡ Take l = e in cc)

module _ (b : BoardView) (tree : IsTree b) (plain : IsPlainBoard b) (lines : LinesAreLocked b) (asks : Asks) (some : AsksForMessages asks)
    (callers : ℕ)
    (past : List Entry) (steps : IsStepwise b callers asks past) where
  abbrev n : Now
  n = now b asks past

  stands : Stands b n
  stands = past-stands b tree plain lines asks some callers past steps

  -- who holds a lock has a next step, and takes only locks of a lower rank
  holder_acts : (d : ℕ) (l : LockId) → InLocks l (n.held d) → (act : Act) × IsNext b asks n d act
  holder_acts d l i =
      elim (act_or_end n.slot (cond (is_over (n.walk d)) (begun b (asks d (n.settled d))) (n.walk d))) [
        | inl over ↦ absurd (subst (λ (ls : List LockId). InLocks l ls)
            (subst (λ (w : WalkTree). Runs b cur.whose (n.held d) cur.view w) over cur.runs) i)
        | inr acts ↦ acts
      ]
    where
      cur : CallerStands b (n.held d) (current b asks n d) n.slot
      cur = current-stands b tree lines asks some n d stands

  -- a lock that comes next is of a lower rank than all that its caller has
  pub takes-below : (d : ℕ) (k : LockId) → IsNext b asks n d (Take k) → IsBelow b k (n.held d)
  takes-below d k next =
      let cur : CallerStands b (n.held d) (current b asks n d) n.slot = current-stands b tree lines asks some n d stands in
      let at = first_is (current b asks n d) (Take k) next in
      let runs : IsBelow b k (n.held d)
      × ((s : At) → RestOf b k s → Runs b cur.whose (k ∷ n.held d) (taken_slots k s cur.view) (at.1 Passed)) =
      subst (λ (w : WalkTree). Runs b cur.whose (n.held d) cur.view w) at.2 cur.runs in
      runs.0

  lower : (d : ℕ) (k l : LockId) → IsNext b asks n d (Take k) → InLocks l (n.held d) → rank b k < rank b l
  lower d k l next i = below_each b k (n.held d) l (takes-below d k next) i

  -- so nobody has it where there is no other caller
  pub sole-takes : callers ≤ 1 → (l : LockId) → IsNext b asks n 0 (Take l) → n.holder l ≡ None
  sole-takes sole l next = by_holder (n.holder l) refl
    where
      only : (d : ℕ) → d < callers → d ≡ 0
      only d known = omega (arith, sole, known)

      by_holder : (o : Option ℕ) → n.holder l ≡ o → n.holder l ≡ None
      by_holder None none = none
      by_holder (Some d) has =
          let own : d ≡ 0 = only d (holders_known b callers asks past steps l d (sym (holder-told b asks past l) ∙ has)) in
          let below : rank b l < rank b l = lower 0 l l next (subst (λ (i : ℕ). InLocks l (n.held i)) own (stands.has d l has)) in
          absurd (omega (arith, below))

  -- THE INDUCTION: `fuel` is above the rank of what is waited for
  someone : (fuel c : ℕ) (act : Act) → c < callers → IsNext b asks n c act → ((l : LockId) → act ≡ Take l → rank b l < fuel)
      → (d : ℕ) × IsFree b callers asks past d
  someone zero c act known next above =
      elim (waits act) [
        | inl waiting ↦ absurd (let f : rank b waiting.0 < 0 = above waiting.0 waiting.1 in omega (arith, f))
        | inr free ↦ (c, record { known = known; act = act; next = next; free = λ l e. absurd (free l e) })
      ]
  someone (suc fuel) c act known next above =
      elim (waits act) [
        | inl waiting ↦ by_holder (λ d a kn nx ab. someone fuel d a kn nx ab) waiting.0 waiting.1 (n.holder waiting.0) refl
        | inr free ↦ (c, record { known = known; act = act; next = next; free = λ l e. absurd (free l e) })
      ]
    where
      by_holder : ((d : ℕ) (a : Act) → d < callers → IsNext b asks n d a → ((l : LockId) → a ≡ Take l → rank b l < fuel)
          → (i : ℕ) × IsFree b callers asks past i)
          → (l : LockId) → act ≡ Take l → (o : Option ℕ) → n.holder l ≡ o → (i : ℕ) × IsFree b callers asks past i
      by_holder later l e None none = (
        c,
        record {
          known = known;
          act = act;
          next = next;
          free = λ k f.
              subst (λ (x : LockId). holder past x ≡ None) (let g : Take l ≡ Take k = sym e ∙ f in cc) (sym (holder-told b asks past l)
              ∙ none);
        },
      )
      by_holder later l e (Some d) has =
          let i : InLocks l (n.held d) = stands.has d l has in
          let acts = holder_acts d l i in
          later d acts.0 (holders_known b callers asks past steps l d (sym (holder-told b asks past l) ∙ has)) acts.1
          (λ k f. let below : rank b k < rank b l = lower d k l (subst (λ (a : Act). IsNext b asks n d a) f acts.1) i in
          let top : rank b l < suc fuel = above l e in omega (arith, below, top))

  abbrev highest : Act → ℕ
  highest (Take l) = suc (rank b l)
  highest (Free l) = 0
  highest (Send job left) = 0
  highest (Shift job) = 0
  highest (Settle verdict) = 0

  -- all callers are looked at, one after the other
  look : (count : ℕ) → count ≤ callers → ((c : ℕ) → c < count → HasFinished b asks past c) ⊎ ((c : ℕ) × IsFree b callers asks past c)
  look zero within = inl (λ c below. absurd (omega (arith, below)))
  look (suc count) within =
      elim (look count (omega (arith, within))) [
        | inl finished ↦ by_next finished (first_act (current b asks n count)) refl
        | inr found ↦ inr found
      ]
    where
      by_next : ((c : ℕ) → c < count → HasFinished b asks past c) → (o : Option Act) → first_act (current b asks n count) ≡ o
          → ((c : ℕ) → c < suc count → HasFinished b asks past c) ⊎ ((c : ℕ) × IsFree b callers asks past c)
      by_next finished None none =
          inl (λ c below. elim (eqb_tells c count) [
            | inl h ↦ subst (λ (i : ℕ). HasFinished b asks past i) (sym h.1) none
            | inr h ↦ finished c (let ne : c ≡ count → ⊥ = h.1 in omega (arith, below, ne))
          ])
      by_next finished (Some act) next =
          inr (someone (highest act) count act (omega (arith, within)) next
          (λ l e. subst (λ (a : Act). rank b l < highest a) (sym e) (omega arith)))

  pub some-free : ((c : ℕ) → c < callers → HasFinished b asks past c) ⊎ ((c : ℕ) × IsFree b callers asks past c)
  some-free = look callers (omega arith)
