-- One more entry keeps what stands, entry by entry.
use Rattle.bus_laws.proofs.Cited.{◌≡◌, ℕ, Bool, cond, List, ◌∷◌, Option, Some, None, refl, sym, ◌∙◌, ap, subst, inl, inr, eqb_tells, LockId}
use Rattle.bus_laws.proofs.Cited.{End, Entry, BoardView, root_of, IsTree, IsPlainBoard, World, after, block_limit, Asks, changed_at, Mark}
use Rattle.bus_laws.proofs.Cited.{Job, Act, Take, Free, Send, Shift, Settle, ActOutcome, Passed, Sent, Lined, Note, WalkTree, Ends, Look}
use Rattle.bus_laws.proofs.Cited.{Then, job_bus, Slots, At, after_job, first_act, first_note, rest_of, Now, current, step, talk_of, without}
use Rattle.bus_laws.proofs.Cited.{line_call, cut_of, moved, with_due, sent_by, lined_by, May, InLocks, IsRest, RestOf, LeavesShut}
use Rattle.bus_laws.proofs.Cited.{taken_slots, CanSend, CanShift, MaySend, MayShift, Runs, WorldTold, LinesAreLocked, AsksForMessages}
use Rattle.bus_laws.proofs.Cited.{CallerStands, StandsIn, Stands, IsOnce}
use Rattle.i2c_base.specs.declared.ids.LockId.TheVariants as lock
use Rattle.i2c_base.specs.declared.entry.Entry.TheVariants as entry
use Rattle.bus_spec.specs.Past.{held_by}
use Rattle.bus_laws.proofs.tree.Slots.{changed-same, changed-other}
use Rattle.bus_laws.proofs.world.Sends.{told-send}
use Rattle.bus_laws.proofs.world.Lines.{told-shift}
use Rattle.bus_laws.proofs.past.StandsFacts.{current-stands}
use Rattle.bus_laws.proofs.past.StandsStep.{lock_tells, at_same, at_other, job_off, job_same, send_known, shift_known, turned, apart_of}

-- a walk whose first step is known
pub first_is : (w : WalkTree) (act : Act) → first_act w ≡ Some act
    → (note : Note) × (next : ActOutcome → WalkTree) × (w ≡ Then act note next)
first_is Ends act e = absurd (let f : None ≡ Some act = e in cc)
first_is (Look ask next) act e = absurd (let f : None ≡ Some act = e in cc)
first_is (Then a note next) act e = (note, next, ap (λ (x : Act). Then x note next) (let f : Some a ≡ Some act = e in cc))

held_by-own : (f : LockId → Option ℕ) (l : LockId) (who : Option ℕ) (k : LockId) → l ≡ k → held_by f l who k ≡ who
held_by-own f l who k e =
    elim (lock_tells l k) [ inl h ↦ ap (λ (t : Bool). cond t who (f k)) h.0 | inr h ↦ absurd (h.1 e) ]

held_by-other : (f : LockId → Option ℕ) (l : LockId) (who : Option ℕ) (k : LockId) → (l ≡ k → ⊥) → held_by f l who k ≡ f k
held_by-other f l who k ne =
    elim (lock_tells l k) [ inl h ↦ absurd (ne h.1) | inr h ↦ ap (λ (t : Bool). cond t who (f k)) h.0 ]

pub without-head : (l : LockId) (ls : List LockId) → without l (l ∷ ls) ≡ ls
without-head l ls =
    elim (lock_tells l l) [ inl h ↦ ap (λ (t : Bool). cond t ls (l ∷ without l ls)) h.0 | inr h ↦ absurd (h.1 refl) ]

-- a slot of which nothing is known yet: that of the lock's bus
abbrev lock_slot : LockId → Slots → At
lock_slot (lock.Mux p) v = v p
lock_slot (lock.Bus r) v = v 0

module _ (b : BoardView) (tree : IsTree b) (plain : IsPlainBoard b) (lines : LinesAreLocked b) (asks : Asks) (some : AsksForMessages asks)
    (n : Now) (stands : Stands b n) (c : ℕ) where
  cur : CallerStands b (n.held c) (current b asks n c) n.slot
  cur = current-stands b tree lines asks some n c stands

  -- what is left of the walk once its first step was done
  left-is : (act : Act) (note : Note) (next : ActOutcome → WalkTree) (out : ActOutcome) → current b asks n c ≡ Then act note next
      → changed_at n.walk c (rest_of (current b asks n c) out) c ≡ next out
  left-is act note next out e =
      at_same n.walk c (rest_of (current b asks n c) out) ∙ ap (λ (w : WalkTree). rest_of w out) e

  -- A LOCK IS TAKEN
  taken_rest : (l : LockId) → n.holder l ≡ None → RestOf b l (lock_slot l n.slot)
  taken_rest (lock.Mux p) free = stands.shut p free
  taken_rest (lock.Bus r) free = tt

  taken_agree : (l : LockId) (p : ℕ) → InLocks (lock.Mux p) (l ∷ n.held c) → taken_slots l (lock_slot l n.slot) cur.view p ≡ n.slot p
  taken_agree (lock.Bus r) p i =
      elim i [ inl e ↦ absurd (let f : lock.Mux p ≡ lock.Bus r = e in cc) | inr more ↦ cur.agree p more ]
  taken_agree (lock.Mux q) p i =
      elim (eqb_tells p q) [
        | inl h ↦ ap (λ (j : ℕ). changed_at cur.view q (n.slot q) j) h.1 ∙ changed-same cur.view q (n.slot q) ∙ ap n.slot (sym h.1)
        | inr h ↦ changed-other cur.view q p (n.slot q) h.1
            ∙ elim i [ inl e ↦ absurd (h.1 (let f : lock.Mux p ≡ lock.Mux q = e in cc)) | inr more ↦ cur.agree p more ]
      ]

  pub take_kept : (l : LockId) → first_act (current b asks n c) ≡ Some (Take l) → n.holder l ≡ None
      → Stands b (step b asks n (entry.Take c l))
  take_kept l first free =
      turned b n.walk n.held n.holder n.slot n.worlds stands c
      (changed_at n.walk c (rest_of (current b asks n c) Passed)) (changed_at n.held c (l ∷ n.held c))
      (held_by n.holder l (Some c)) n.slot n.worlds
      (record {
        own = record {
          whose = cur.whose;
          view = taken_slots l (lock_slot l n.slot) cur.view;
          runs = subst (λ (ls : List LockId). Runs b cur.whose ls (taken_slots l (lock_slot l n.slot) cur.view)
              (changed_at n.walk c (rest_of (current b asks n c) Passed) c))
              (sym (at_same n.held c (l ∷ n.held c)))
              (subst (λ (w : WalkTree). Runs b cur.whose (l ∷ n.held c) (taken_slots l (lock_slot l n.slot) cur.view) w)
              (sym (left-is (Take l) at.0 at.1 Passed at.2)) (runs.1 (lock_slot l n.slot) (taken_rest l free)));
          agree = λ p i. taken_agree l p (subst (λ (ls : List LockId). InLocks (lock.Mux p) ls) (at_same n.held c (l ∷ n.held c)) i);
        };
        walks = λ d ne. at_other n.walk c (rest_of (current b asks n c) Passed) d ne;
        locks = λ d ne. at_other n.held c (l ∷ n.held c) d ne;
        slots = λ d p ne i. refl;
        own_holds = λ k i. own_holds k (subst (λ (ls : List LockId). InLocks k ls) (at_same n.held c (l ∷ n.held c)) i);
        holds = λ d k ne i. held_by-other n.holder l (Some c) k (λ e. free_not_held d k i e) ∙ stands.holds d k i;
        own_has = λ k e. subst (λ (ls : List LockId). InLocks k ls) (sym (at_same n.held c (l ∷ n.held c))) (own_has k e);
        has = λ d k ne e. elim (lock_tells l k) [
          | inl h ↦ absurd (ne (let f : Some c ≡ Some d = sym (held_by-own n.holder l (Some c) k h.1) ∙ e in cc))
          | inr h ↦ stands.has d k (sym (held_by-other n.holder l (Some c) k h.1) ∙ e)
        ];
        own_once = subst (λ (ls : List LockId). IsOnce ls) (sym (at_same n.held c (l ∷ n.held c)))
            ((λ i. free_not_held c l i refl), stands.once c);
        shut = λ p e. elim (lock_tells l (lock.Mux p)) [
          | inl h ↦ absurd (let f : Some c ≡ None = sym (held_by-own n.holder l (Some c) (lock.Mux p) h.1) ∙ e in cc)
          | inr h ↦ stands.shut p (sym (held_by-other n.holder l (Some c) (lock.Mux p) h.1) ∙ e)
        ];
        told = stands.told;
      })
    where
      at : (note : Note) × (next : ActOutcome → WalkTree) × (current b asks n c ≡ Then (Take l) note next)
      at = first_is (current b asks n c) (Take l) first

      runs : Runs b cur.whose (n.held c) cur.view (Then (Take l) at.0 at.1)
      runs = subst (λ (w : WalkTree). Runs b cur.whose (n.held c) cur.view w) at.2 cur.runs

      free_not_held : (d : ℕ) (k : LockId) → InLocks k (n.held d) → l ≡ k → ⊥
      free_not_held d k i e =
          let f : None ≡ Some d = sym free ∙ ap n.holder e ∙ stands.holds d k i in cc

      own_holds : (k : LockId) → InLocks k (l ∷ n.held c) → held_by n.holder l (Some c) k ≡ Some c
      own_holds k i =
          elim (lock_tells l k) [
            | inl h ↦ held_by-own n.holder l (Some c) k h.1
            | inr h ↦ held_by-other n.holder l (Some c) k h.1
                ∙ elim i [ inl e ↦ absurd (h.1 (sym e)) | inr more ↦ stands.holds c k more ]
          ]

      own_has : (k : LockId) → held_by n.holder l (Some c) k ≡ Some c → InLocks k (l ∷ n.held c)
      own_has k e =
          elim (lock_tells l k) [
            | inl h ↦ inl (sym h.1)
            | inr h ↦ inr (stands.has c k (sym (held_by-other n.holder l (Some c) k h.1) ∙ e))
          ]

  -- A LOCK IS FREED
  pub free_kept : (l : LockId) → first_act (current b asks n c) ≡ Some (Free l) → Stands b (step b asks n (entry.Free c l))
  free_kept l first =
      turned b n.walk n.held n.holder n.slot n.worlds stands c
      (changed_at n.walk c (rest_of (current b asks n c) Passed)) (changed_at n.held c (without l (n.held c)))
      (held_by n.holder l None) n.slot n.worlds
      (record {
        own = record {
          whose = cur.whose;
          view = cur.view;
          runs = subst (λ (ls : List LockId). Runs b cur.whose ls cur.view (changed_at n.walk c (rest_of (current b asks n c) Passed) c))
              (sym now-held)
              (subst (λ (w : WalkTree). Runs b cur.whose rest cur.view w) (sym (left-is (Free l) at.0 at.1 Passed at.2)) runs.3);
          agree = λ p i. cur.agree p (subst (λ (ls : List LockId). InLocks (lock.Mux p) ls) (sym runs.1)
              (inr (subst (λ (ls : List LockId). InLocks (lock.Mux p) ls) now-held i)));
        };
        walks = λ d ne. at_other n.walk c (rest_of (current b asks n c) Passed) d ne;
        locks = λ d ne. at_other n.held c (without l (n.held c)) d ne;
        slots = λ d p ne i. refl;
        own_holds = λ k i.
            let j : InLocks k rest = subst (λ (ls : List LockId). InLocks k ls) now-held i in
            held_by-other n.holder l None k (λ e. once.0 (subst (λ (x : LockId). InLocks x rest) (sym e) j))
            ∙ stands.holds c k (of_rest k j);
        holds = λ d k ne i.
            held_by-other n.holder l None k
            (λ e. apart_of b n.walk n.held n.holder n.slot n.worlds stands c d k ne i
            (subst (λ (x : LockId). InLocks x (n.held c)) e own_lock))
            ∙ stands.holds d k i;
        own_has = λ k e. elim (lock_tells l k) [
          | inl h ↦ absurd (let f : None ≡ Some c = sym (held_by-own n.holder l None k h.1) ∙ e in cc)
          | inr h ↦ subst (λ (ls : List LockId). InLocks k ls) (sym now-held)
              (not_head k h.1 (subst (λ (ls : List LockId). InLocks k ls) runs.1
              (stands.has c k (sym (held_by-other n.holder l None k h.1) ∙ e))))
        ];
        has = λ d k ne e. elim (lock_tells l k) [
          | inl h ↦ absurd (let f : None ≡ Some d = sym (held_by-own n.holder l None k h.1) ∙ e in cc)
          | inr h ↦ stands.has d k (sym (held_by-other n.holder l None k h.1) ∙ e)
        ];
        own_once = subst (λ (ls : List LockId). IsOnce ls) (sym now-held) once.1;
        shut = λ p e. elim (lock_tells l (lock.Mux p)) [
          | inl h ↦ shut_now p h.1
          | inr h ↦ stands.shut p (sym (held_by-other n.holder l None (lock.Mux p) h.1) ∙ e)
        ];
        told = stands.told;
      })
    where
      at : (note : Note) × (next : ActOutcome → WalkTree) × (current b asks n c ≡ Then (Free l) note next)
      at = first_is (current b asks n c) (Free l) first

      runs : (rest : List LockId) × (n.held c ≡ l ∷ rest) × LeavesShut b l cur.view × Runs b cur.whose rest cur.view (at.1 Passed)
      runs = subst (λ (w : WalkTree). Runs b cur.whose (n.held c) cur.view w) at.2 cur.runs

      rest : List LockId
      rest = runs.0

      now-held : changed_at n.held c (without l (n.held c)) c ≡ rest
      now-held = at_same n.held c (without l (n.held c)) ∙ ap (λ (ls : List LockId). without l ls) runs.1 ∙ without-head l rest

      once : IsOnce (l ∷ rest)
      once = subst (λ (ls : List LockId). IsOnce ls) runs.1 (stands.once c)

      of_rest : (k : LockId) → InLocks k rest → InLocks k (n.held c)
      of_rest k i = subst (λ (ls : List LockId). InLocks k ls) (sym runs.1) (inr i)

      own_lock : InLocks l (n.held c)
      own_lock = subst (λ (ls : List LockId). InLocks l ls) (sym runs.1) (inl refl)

      not_head : (k : LockId) → (l ≡ k → ⊥) → InLocks k (l ∷ rest) → InLocks k rest
      not_head k ne i = elim i [ inl e ↦ absurd (ne (sym e)) | inr more ↦ more ]

      shut_now : (p : ℕ) → l ≡ lock.Mux p → IsRest b p (n.slot p)
      shut_now p e =
          subst (λ (x : At). IsRest b p x) (cur.agree p (subst (λ (x : LockId). InLocks x (n.held c)) e own_lock))
          (subst (λ (x : LockId). LeavesShut b x cur.view) e runs.2)

  -- A TRANSFER SETTLES, or a message or line step leaves the locks as they are
  kept_by : (walk2 : ℕ → WalkTree) (slot2 view2 : Slots) (worlds2 : ℕ → World)
      → ((d : ℕ) → (d ≡ c → ⊥) → walk2 d ≡ n.walk d)
      → Runs b cur.whose (n.held c) view2 (walk2 c)
      → ((p : ℕ) → InLocks (lock.Mux p) (n.held c) → view2 p ≡ slot2 p)
      → ((p : ℕ) → (InLocks (lock.Mux p) (n.held c) → ⊥) → slot2 p ≡ n.slot p)
      → WorldTold b slot2 worlds2
      → StandsIn b walk2 n.held n.holder slot2 worlds2
  kept_by walk2 slot2 view2 worlds2 walks runs agree off told =
      turned b n.walk n.held n.holder n.slot n.worlds stands c walk2 n.held n.holder slot2 worlds2
      (record {
        own = record { whose = cur.whose; view = view2; runs = runs; agree = agree };
        walks = walks;
        locks = λ d ne. refl;
        slots = λ d p ne i. off p (λ j. apart_of b n.walk n.held n.holder n.slot n.worlds stands c d (lock.Mux p) ne i j);
        own_holds = λ k i. stands.holds c k i;
        holds = λ d k ne i. stands.holds d k i;
        own_has = λ k e. stands.has c k e;
        has = λ d k ne e. stands.has d k e;
        own_once = stands.once c;
        shut = λ p e.
            let same : slot2 p ≡ n.slot p = off p (λ j. let f : None ≡ Some c = sym e ∙ stands.holds c (lock.Mux p) j in cc) in
            subst (λ (x : At). IsRest b p x) (sym same) (stands.shut p e);
        told = told;
      })

  abbrev rest_by : ActOutcome → ℕ → WalkTree
  rest_by out = changed_at n.walk c (rest_of (current b asks n c) out)

  abbrev next_marks : List Mark
  next_marks = (first_note (current b asks n c)).marks

  -- A SETTLE changes no lock and no bus
  pub settle_kept : (verdict : _) (r : _) (cut : _) → first_act (current b asks n c) ≡ Some (Settle verdict)
      → Stands b (step b asks n (entry.Settle c r cut))
  settle_kept verdict r cut first =
      kept_by (rest_by Passed) n.slot cur.view n.worlds (λ d ne. at_other n.walk c (rest_of (current b asks n c) Passed) d ne)
      (subst (λ (w : WalkTree). Runs b cur.whose (n.held c) cur.view w) (sym (left-is (Settle verdict) at.0 at.1 Passed at.2))
      (subst (λ (w : WalkTree). Runs b cur.whose (n.held c) cur.view w) at.2 cur.runs))
      cur.agree (λ p off. refl) stands.told
    where
      at : (note : Note) × (next : ActOutcome → WalkTree) × (current b asks n c ≡ Then (Settle verdict) note next)
      at = first_is (current b asks n c) (Settle verdict) first

  -- A MESSAGE IS SENT
  pub sent_kept : (job : Job) (left : ℕ) (e : End) (bytes : List ℕ) → first_act (current b asks n c) ≡ Some (Send job left)
      → bytes ≡ (talk_of b n job left e).bytes → e ≡ (talk_of b n job left e).end
      → StandsIn b (rest_by (Sent e bytes)) n.held n.holder
      (after_job job left (first_note (current b asks n c)).marks (Sent e bytes) n.slot)
      (changed_at n.worlds (root_of b (job_bus job)) (talk_of b n job left e).now)
  sent_kept job left e bytes first bytes_told end_told =
      kept_by (rest_by (Sent e bytes)) (after_job job left next_marks (Sent e bytes) n.slot)
      (after_job job left next_marks (Sent e bytes) cur.view)
      (changed_at n.worlds (root_of b (job_bus job)) (talk_of b n job left e).now)
      (λ d ne. at_other n.walk c (rest_of (current b asks n c) (Sent e bytes)) d ne)
      (subst (λ (w : WalkTree). Runs b cur.whose (n.held c) (after_job job left next_marks (Sent e bytes) cur.view) w)
      (sym (left-is (Send job left) at.0 at.1 (Sent e bytes) at.2))
      (subst (λ (ms : List Mark). Runs b cur.whose (n.held c) (after_job job left ms (Sent e bytes) cur.view) (at.1 (Sent e bytes)))
      (sym same_marks)
      (runs.1 (Sent e bytes) can)))
      (λ p i. job_same job left next_marks (Sent e bytes) cur.view n.slot p (cur.agree p i))
      (λ p off. job_off b (n.held c) n.slot next_marks p may.may_fail off job left (Sent e bytes) n.slot may.owns)
      told
    where
      at : (note : Note) × (next : ActOutcome → WalkTree) × (current b asks n c ≡ Then (Send job left) note next)
      at = first_is (current b asks n c) (Send job left) first

      same_marks : next_marks ≡ at.0.marks
      same_marks = ap (λ (w : WalkTree). (first_note w).marks) at.2

      runs : MaySend b cur.whose job left at.0.marks (n.held c) cur.view
          × ((out : ActOutcome) → CanSend b job left out
          → Runs b cur.whose (n.held c) (after_job job left at.0.marks out cur.view) (at.1 out))
      runs = subst (λ (w : WalkTree). Runs b cur.whose (n.held c) cur.view w) at.2 cur.runs

      may : MaySend b cur.whose job left next_marks (n.held c) n.slot
      may = send_known b (n.held c) cur.view n.slot cur.agree cur.whose job left next_marks
          (subst (λ (ms : List Mark). MaySend b cur.whose job left ms (n.held c) cur.view) (sym same_marks) runs.0)

      both : WorldTold b (after_job job left next_marks (Sent (talk_of b n job left e).end (talk_of b n job left e).bytes) n.slot)
          (changed_at n.worlds (root_of b (job_bus job)) (talk_of b n job left e).now)
          × CanSend b job left (Sent (talk_of b n job left e).end (talk_of b n job left e).bytes)
      both = told-send b tree plain n.slot n.worlds stands.told cur.whose next_marks (n.held c) (block_limit b) (cut_of e) job left may

      told : WorldTold b (after_job job left next_marks (Sent e bytes) n.slot)
          (changed_at n.worlds (root_of b (job_bus job)) (talk_of b n job left e).now)
      told = subst (λ (x : End). WorldTold b (after_job job left next_marks (Sent x bytes) n.slot)
          (changed_at n.worlds (root_of b (job_bus job)) (talk_of b n job left e).now)) (sym end_told)
          (subst (λ (xs : List ℕ). WorldTold b (after_job job left next_marks (Sent (talk_of b n job left e).end xs) n.slot)
          (changed_at n.worlds (root_of b (job_bus job)) (talk_of b n job left e).now)) (sym bytes_told) both.0)

      can : CanSend b job left (Sent e bytes)
      can = subst (λ (x : End). CanSend b job left (Sent x bytes)) (sym end_told)
          (subst (λ (xs : List ℕ). CanSend b job left (Sent (talk_of b n job left e).end xs)) (sym bytes_told) both.1)

  -- A LINE IS SWITCHED
  pub lined_kept : (job : Job) (failed : Bool) → first_act (current b asks n c) ≡ Some (Shift job)
      → StandsIn b (rest_by (Lined failed)) n.held n.holder (after_job job 0 (first_note (current b asks n c)).marks (Lined failed) n.slot)
      (changed_at n.worlds (root_of b (job_bus job)) (after (n.worlds (root_of b (job_bus job))) (line_call job failed)))
  lined_kept job failed first =
      kept_by (rest_by (Lined failed)) (after_job job 0 next_marks (Lined failed) n.slot)
      (after_job job 0 next_marks (Lined failed) cur.view)
      (changed_at n.worlds (root_of b (job_bus job)) (after (n.worlds (root_of b (job_bus job))) (line_call job failed)))
      (λ d ne. at_other n.walk c (rest_of (current b asks n c) (Lined failed)) d ne)
      (subst (λ (w : WalkTree). Runs b cur.whose (n.held c) (after_job job 0 next_marks (Lined failed) cur.view) w)
      (sym (left-is (Shift job) at.0 at.1 (Lined failed) at.2))
      (subst (λ (ms : List Mark). Runs b cur.whose (n.held c) (after_job job 0 ms (Lined failed) cur.view) (at.1 (Lined failed)))
      (sym same_marks)
      (runs.1 (Lined failed) tt)))
      (λ p i. job_same job 0 next_marks (Lined failed) cur.view n.slot p (cur.agree p i))
      (λ p off. job_off b (n.held c) n.slot next_marks p may.may_fail off job 0 (Lined failed) n.slot may.owns)
      (told-shift b tree plain n.slot n.worlds stands.told job next_marks (n.held c) may failed)
    where
      at : (note : Note) × (next : ActOutcome → WalkTree) × (current b asks n c ≡ Then (Shift job) note next)
      at = first_is (current b asks n c) (Shift job) first

      same_marks : next_marks ≡ at.0.marks
      same_marks = ap (λ (w : WalkTree). (first_note w).marks) at.2

      runs : MayShift b job at.0.marks (n.held c) cur.view
          × ((out : ActOutcome) → CanShift b job out → Runs b cur.whose (n.held c) (after_job job 0 at.0.marks out cur.view) (at.1 out))
      runs = subst (λ (w : WalkTree). Runs b cur.whose (n.held c) cur.view w) at.2 cur.runs

      may : MayShift b job next_marks (n.held c) n.slot
      may = shift_known b (n.held c) cur.view n.slot cur.agree job next_marks
          (subst (λ (ms : List Mark). MayShift b job ms (n.held c) cur.view) (sym same_marks) runs.0)

-- one more entry, whichever it is
pub step-stands : (b : BoardView) → IsTree b → IsPlainBoard b → LinesAreLocked b → (asks : Asks) → AsksForMessages asks
    → (callers : ℕ) (n : Now) → Stands b n
    → (e : Entry) → May b callers asks n e → Stands b (step b asks n e)
step-stands b tree plain lines asks some callers n stands (entry.Take c l) may =
    take_kept b tree plain lines asks some n stands c l may.2 may.3
step-stands b tree plain lines asks some callers n stands (entry.Free c l) may =
    free_kept b tree plain lines asks some n stands c l may.2
step-stands b tree plain lines asks some callers n stands (entry.Settle c r cut) may =
    settle_kept b tree plain lines asks some n stands c may.2 r cut may.3
step-stands b tree plain lines asks some callers n stands (entry.Line c mux level failed) may =
    subst (λ (o : Option Act). Stands b
    (with_due c (moved b asks n (lined_by b n o (first_note (current b asks n c)) failed) c (entry.Line c mux level failed)
    (Lined failed)))) (sym may.2.1)
    (lined_kept b tree plain lines asks some n stands c may.2.0 failed may.2.1)
step-stands b tree plain lines asks some callers n stands (entry.Message c bus purpose part parts addr reading bytes heard e) may =
    subst (λ (o : Option Act). Stands b
    (with_due c (moved b asks n (sent_by b n c o (first_note (current b asks n c)) reading bytes e) c
    (entry.Message c bus purpose part parts addr reading bytes heard e) (Sent e bytes)))) (sym may.2.2)
    (sent_kept b tree plain lines asks some n stands c may.2.0 may.2.1 e bytes may.2.2 may.2.3.bytes_told may.2.3.end_told)
