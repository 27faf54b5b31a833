-- No other message or line step of a root stands between two messages of one transfer: whoever is inside holds the
-- root's lock and sends next. The inductions go over the entries.
use Rattle.bus_laws.proofs.Cited.{◌≡◌, ℕ, zero, suc, Bool, true, false, cond, ◌&&◌, List, [], ◌∷◌, ◌++◌, Option, Some, None, eqb, refl, sym}
use Rattle.bus_laws.proofs.Cited.{◌∙◌, ap, subst, ◌⊎◌, inl, inr, arith, list_any, AllByRecursion, eqb-true, eq-eqb, ne_eqb, or_parts}
use Rattle.bus_laws.proofs.Cited.{eqb_tells, LockId, End, Entry, Purpose, BoardView, root_of, home_of_mux, IsTree, IsPlainBoard}
use Rattle.bus_laws.proofs.Cited.{MessageView, Asks, changed_at, Mark, Job, Call, Select, SwitchOff, off_bus, Act, Take, Free, Send, Shift}
use Rattle.bus_laws.proofs.Cited.{Settle, ActOutcome, Passed, Sent, Lined, WalkTree, Ends, Look, Then, goes, verdict_of, job_bus}
use Rattle.bus_laws.proofs.Cited.{job_purpose, line_mux, is_line, Slots, after_job, seen, is_over, first_act, first_note, rest_of, Now}
use Rattle.bus_laws.proofs.Cited.{begun, current, step, now, is_on, is_due, sent_by, lined_by, with_due, moved, without, IsNext, May}
use Rattle.bus_laws.proofs.Cited.{IsStepwise, InLocks, CanSend, CanShift, MaySend, MayShift, Runs, LinesAreLocked, CallerStands, Stands}
use Rattle.bus_laws.proofs.Cited.{AsksForMessages, Settles, IsAsked, same_Some}
use Rattle.std.proofs.lemmas.Bool.{and_parts}
use Rattle.i2c_base.specs.declared.ids.LockId.TheVariants as lock
use Rattle.i2c_base.specs.declared.entry.End.TheVariants as end
use Rattle.i2c_base.specs.declared.entry.Entry.TheVariants as entry
use Rattle.bus_spec.specs.Readings.{is_call, is_call_of, is_settle_of, is_on_root}
use Rattle.bus_spec.specs.Past.{inside_after}
use Rattle.bus_spec.specs.Legal.{KeepsWhole}
use Rattle.bus_laws.specs.Settles.{CallGoesOn}
use Rattle.bus_laws.proofs.past.StandsFacts.{current-stands}
use Rattle.bus_laws.proofs.past.StandsStep.{at_same, at_other}
use Rattle.bus_laws.proofs.past.StandsEntries.{first_is}
use Rattle.bus_laws.proofs.past.Laws.{past-stands}
use Rattle.bus_laws.proofs.past.Asked.{current-asked, past-asked}

-- whose messages have begun and not ended sends the next one next, and holds the root's lock
pub record IsInside (b : BoardView) (r : ℕ) (walk : WalkTree) (held : List LockId) : Type 0 where
  pub bus : ℕ
  pub messages : List MessageView
  pub left : ℕ
  pub sends : first_act walk ≡ Some (Send (Call bus messages) left)
  pub root : root_of b bus ≡ r
  pub locked : InLocks (lock.Bus r) held

abbrev pub AreInside : BoardView → Now → Type 0
AreInside b n = (r c : ℕ) → n.inside r ≡ Some c → IsInside b r (n.walk c) (n.held c)

-- a walk under way goes on where it stands
pub goes_on_from : (v : Slots) (x w : WalkTree) (act : Act) → first_act w ≡ Some act → first_act (seen v (cond (is_over w) x w)) ≡ Some act
goes_on_from v x Ends act e = absurd (let f : None ≡ Some act = e in cc)
goes_on_from v x (Look ask next) act e = absurd (let f : None ≡ Some act = e in cc)
goes_on_from v x (Then a note next) act e = e

-- a message that went through, whatever may follow
pub goes_alike : (bus : ℕ) (ms : List MessageView) (left more : ℕ) (e : End) (bytes : List ℕ)
    → is_on (goes (Call bus ms) left (Sent e bytes)) ≡ is_on (goes (Call bus ms) more (Sent e bytes))
goes_alike bus ms left more end.Ok bytes = refl
goes_alike bus ms left more end.Nack bytes = refl
goes_alike bus ms left more end.Slow bytes = refl
goes_alike bus ms left more end.Refused bytes = refl
goes_alike bus ms left more end.Proto bytes = refl
goes_alike bus ms left more (end.Cut q) bytes = refl

-- who is inside after a message that others follow
pub more_follow : (bus : ℕ) (ms : List MessageView) (left : ℕ) (out : ActOutcome) (d : ℕ) (old : Option ℕ)
    → inside_after (Call bus ms) (suc left) out d old ≡ cond (is_on (goes (Call bus ms) (suc left) out)) (Some d) None
more_follow bus ms left out d old =
    ap (λ (t : Bool). cond t None (cond (is_on (goes (Call bus ms) (suc left) out)) (Some d) None))
    (ne_eqb (suc left) 0 (λ e. absurd (omega (arith, e))))

module _ (b : BoardView) (tree : IsTree b) (plain : IsPlainBoard b) (lines : LinesAreLocked b) (asks : Asks) (some : AsksForMessages asks)
    (callers : ℕ)
    (past : List Entry) (steps : IsStepwise b callers asks past) where
  abbrev n : Now
  n = now b asks past

  stands : Stands b n
  stands = past-stands b tree plain lines asks some callers past steps

  -- two callers don't hold one lock
  pub alone : (c d : ℕ) (l : LockId) → InLocks l (n.held c) → InLocks l (n.held d) → d ≡ c
  alone c d l i j = sym (same_Some c d (sym (stands.holds c l i) ∙ stands.holds d l j))

  module _ (d : ℕ) where
    cs : CallerStands b (n.held d) (current b asks n d) n.slot
    cs = current-stands b tree lines asks some n d stands

    asked : IsAsked b asks d (current b asks n d) (n.settled d)
    asked = current-asked b asks some n (past-asked b asks some callers past steps) d

    -- the root's lock is held at each message and at each line step
    pub sent_rooted : (job : Job) (left : ℕ) → IsNext b asks n d (Send job left) → InLocks (lock.Bus (root_of b (job_bus job))) (n.held d)
    sent_rooted job left first =
        let at = first_is (current b asks n d) (Send job left) first in
        let runs : MaySend b cs.whose job left at.0.marks (n.held d) cs.view
        × ((out : ActOutcome) → CanSend b job left out
        → Runs b cs.whose (n.held d) (after_job job left at.0.marks out cs.view) (at.1 out)) =
        subst (λ (w : WalkTree). Runs b cs.whose (n.held d) cs.view w) at.2 cs.runs in
        runs.0.rooted

    line_may : (job : Job) → IsNext b asks n d (Shift job) → (marks : List Mark) × MayShift b job marks (n.held d) cs.view
    line_may job first =
        let at = first_is (current b asks n d) (Shift job) first in
        let runs : MayShift b job at.0.marks (n.held d) cs.view
        × ((out : ActOutcome) → CanShift b job out → Runs b cs.whose (n.held d) (after_job job 0 at.0.marks out cs.view) (at.1 out)) =
        subst (λ (w : WalkTree). Runs b cs.whose (n.held d) cs.view w) at.2 cs.runs in
        (at.0.marks, runs.0)

    pub line_next : (job : Job) → IsNext b asks n d (Shift job) → is_line job ≡ true
    line_next job first = (line_may job first).1.by_line

    -- what follows a caller's message in its walk
    pub call_goes : (bus : ℕ) (ms : List MessageView) (left : ℕ) (e : End) (bytes : List ℕ) → IsNext b asks n d (Send (Call bus ms) left)
        → CallGoesOn bus ms left (Sent e bytes) (rest_of (current b asks n d) (Sent e bytes))
    call_goes bus ms left e bytes first =
        let at = first_is (current b asks n d) (Send (Call bus ms) left) first in
        let settles : Settles asked.done (Then (Send (Call bus ms) left) at.0 at.1) = subst
        (λ (w : WalkTree). Settles asked.done w) at.2 asked.settles in
        subst (λ (w : WalkTree). CallGoesOn bus ms left (Sent e bytes) (rest_of w (Sent e bytes))) (sym at.2) (settles.1 e bytes).0

  -- who is inside sends next
  module _ (inside : AreInside b n) where
    pub inside_next : (r c : ℕ) (e : n.inside r ≡ Some c)
        → IsNext b asks n c (Send (Call (inside r c e).bus (inside r c e).messages) (inside r c e).left)
    inside_next r c e =
        goes_on_from n.slot (begun b (asks c (n.settled c))) (n.walk c)
        (Send (Call (inside r c e).bus (inside r c e).messages) (inside r c e).left) (inside r c e).sends

    -- another step is another caller's
    pub other_caller : (r c d : ℕ) (act : Act) → n.inside r ≡ Some c → IsNext b asks n d act
        → ((bus : ℕ) (ms : List MessageView) (left : ℕ) → act ≡ Send (Call bus ms) left → root_of b bus ≡ r → ⊥) → c ≡ d → ⊥
    other_caller r c d act e next no_call same =
        let mine = inside_next r c e in
        let is = same_Some act (Send (Call (inside r c e).bus (inside r c e).messages) (inside r c e).left)
        (sym next ∙ ap (λ (i : ℕ). first_act (current b asks n i)) (sym same) ∙ mine) in
        no_call (inside r c e).bus (inside r c e).messages (inside r c e).left is (inside r c e).root

    stays_inside : (r c d : ℕ) (w : WalkTree) (held : ℕ → List LockId) → n.inside r ≡ Some c → (c ≡ d → ⊥)
        → ((i : ℕ) → (i ≡ d → ⊥) → held i ≡ n.held i)
        → IsInside b r (changed_at n.walk d w c) (held c)
    stays_inside r c d w held e ne same =
        subst (λ (ls : List LockId). IsInside b r (changed_at n.walk d w c) ls) (sym (same c ne))
        (subst (λ (x : WalkTree). IsInside b r x (n.held c)) (sym (at_other n.walk d w c ne)) (inside r c e))

    -- a message of d: its own root's inside is new
    module _ (d : ℕ) (job : Job) (left : ℕ) (e : End) (bytes : List ℕ) (next : IsNext b asks n d (Send job left)) where
      abbrev rest : WalkTree
      rest = rest_of (current b asks n d) (Sent e bytes)

      abbrev root : ℕ
      root = root_of b (job_bus job)

      send_other : (r c : ℕ) → n.inside r ≡ Some c → ((bus : ℕ) (ms : List MessageView) → job ≡ Call bus ms → root_of b bus ≡ r → ⊥)
          → IsInside b r (changed_at n.walk d rest c) (n.held c)
      send_other r c at no_call =
          stays_inside r c d rest n.held at
          (other_caller r c d (Send job left) at next
          (λ bus ms l is root_is. no_call bus ms (let f : Send job left ≡ Send (Call bus ms) l = is in cc) root_is))
          (λ i ne. refl)

    call_on : (d bus : ℕ) (ms : List MessageView) (left : ℕ) (e : End) (bytes : List ℕ)
        (next : IsNext b asks n d (Send (Call bus ms) (suc left)))
        → is_on (goes (Call bus ms) (suc left) (Sent e bytes)) ≡ true
        → IsInside b (root_of b bus) (changed_at n.walk d (rest_of (current b asks n d) (Sent e bytes)) d) (n.held d)
    call_on d bus ms left e bytes next on =
        record {
          bus = bus;
          messages = ms;
          left = left;
          sends = ap (λ (w : WalkTree). first_act w) (at_same n.walk d (rest_of (current b asks n d) (Sent e bytes)))
              ∙ call_goes d bus ms (suc left) e bytes next
              ∙ ap (λ (t : Bool). Some (cond t (Send (Call bus ms) left) (Settle (verdict_of (Call bus ms) (suc left) (Sent e bytes)))))
              (goes_alike bus ms left (suc left) e bytes ∙ on);
          root = refl;
          locked = sent_rooted d (Call bus ms) (suc left) next;
        }

    -- what is inside its root after a message
    sent_root : (d : ℕ) (job : Job) (left : ℕ) (e : End) (bytes : List ℕ) (next : IsNext b asks n d (Send job left)) (c : ℕ)
        → inside_after job left (Sent e bytes) d (n.inside (root_of b (job_bus job))) ≡ Some c
        → IsInside b (root_of b (job_bus job)) (changed_at n.walk d (rest_of (current b asks n d) (Sent e bytes)) c) (n.held c)
    sent_root d (Select h) left e bytes next c is =
        send_other d (Select h) left e bytes next (root_of b h.on) c is (λ bus ms f. absurd (let g : Select h ≡ Call bus ms = f in cc))
    sent_root d (SwitchOff off) left e bytes next c is =
        send_other d (SwitchOff off) left e bytes next (root_of b (off_bus off)) c is
        (λ bus ms f. absurd (let g : SwitchOff off ≡ Call bus ms = f in cc))
    sent_root d (Call bus ms) zero e bytes next c is = absurd (let f : None ≡ Some c = is in cc)
    sent_root d (Call bus ms) (suc left) e bytes next c is =
        by_on (is_on (goes (Call bus ms) (suc left) (Sent e bytes))) refl
      where
        by_on : (t : Bool) → is_on (goes (Call bus ms) (suc left) (Sent e bytes)) ≡ t
            → IsInside b (root_of b bus) (changed_at n.walk d (rest_of (current b asks n d) (Sent e bytes)) c) (n.held c)
        by_on true on =
            let same : d ≡ c = same_Some d c
            (sym (more_follow bus ms left (Sent e bytes) d (n.inside (root_of b bus)) ∙ ap (λ (t : Bool). cond t (Some d) None) on)
            ∙ is) in
            subst (λ (i : ℕ). IsInside b (root_of b bus) (changed_at n.walk d (rest_of (current b asks n d) (Sent e bytes)) i) (n.held i))
            same
            (call_on d bus ms left e bytes next on)
        by_on false off =
            absurd (let f : None ≡ Some c = sym (more_follow bus ms left (Sent e bytes) d (n.inside (root_of b bus))
            ∙ ap (λ (t : Bool). cond t (Some d) None) off) ∙ is in cc)

    sent_inside : (d : ℕ) (job : Job) (left : ℕ) (e : End) (bytes : List ℕ) (next : IsNext b asks n d (Send job left)) (r c : ℕ)
        → changed_at n.inside (root_of b (job_bus job))
        (inside_after job left (Sent e bytes) d (n.inside (root_of b (job_bus job)))) r ≡ Some c
        → IsInside b r (changed_at n.walk d (rest_of (current b asks n d) (Sent e bytes)) c) (n.held c)
    sent_inside d job left e bytes next r c is =
        elim (eqb_tells r (root_of b (job_bus job))) [
          | inl h ↦ subst (λ (i : ℕ). IsInside b i (changed_at n.walk d (rest_of (current b asks n d) (Sent e bytes)) c) (n.held c))
              (sym h.1)
              (sent_root d job left e bytes next c
              (sym (at_same n.inside (root_of b (job_bus job))
              (inside_after job left (Sent e bytes) d (n.inside (root_of b (job_bus job)))))
              ∙ ap (λ (i : ℕ). changed_at n.inside (root_of b (job_bus job))
              (inside_after job left (Sent e bytes) d (n.inside (root_of b (job_bus job)))) i) (sym h.1) ∙ is))
          | inr h ↦ send_other d job left e bytes next r c
              (sym (at_other n.inside (root_of b (job_bus job))
              (inside_after job left (Sent e bytes) d (n.inside (root_of b (job_bus job)))) r h.1) ∙ is)
              (λ bus ms f root_is. h.1 (sym root_is ∙ ap (λ (j : Job). root_of b (job_bus j)) (sym f)))
        ]

    -- one more entry
    step_inside : (x : Entry) → May b callers asks n x → AreInside b (step b asks n x)
    step_inside (entry.Take d l) may = λ r c is.
        stays_inside r c d (rest_of (current b asks n d) Passed) (changed_at n.held d (l ∷ n.held d)) is
        (other_caller r c d (Take l) is may.2 (λ bus ms left f root_is. let g : Take l ≡ Send (Call bus ms) left = f in cc))
        (λ i ne. at_other n.held d (l ∷ n.held d) i ne)
    step_inside (entry.Free d l) may = λ r c is.
        stays_inside r c d (rest_of (current b asks n d) Passed) (changed_at n.held d (without l (n.held d))) is
        (other_caller r c d (Free l) is may.2 (λ bus ms left f root_is. let g : Free l ≡ Send (Call bus ms) left = f in cc))
        (λ i ne. at_other n.held d (without l (n.held d)) i ne)
    step_inside (entry.Settle d x cut) may = λ r c is.
        stays_inside r c d (rest_of (current b asks n d) Passed) n.held is
        (other_caller r c d (Settle may.2) is may.3 (λ bus ms left f root_is. let g : Settle may.2 ≡ Send (Call bus ms) left = f in cc))
        (λ i ne. refl)
    step_inside (entry.Line d mux level failed) may =
        subst (λ (o : Option Act). AreInside b
        (with_due d (moved b asks n (lined_by b n o (first_note (current b asks n d)) failed) d (entry.Line d mux level failed)
        (Lined failed)))) (sym may.2.1)
        (λ r c is.
        stays_inside r c d (rest_of (current b asks n d) (Lined failed)) n.held is
        (other_caller r c d (Shift may.2.0) is may.2.1 (λ bus ms left f root_is. let g : Shift may.2.0 ≡ Send (Call bus ms) left = f in cc))
        (λ i ne. refl))
    step_inside (entry.Message d bus purpose part parts addr reading bytes heard e) may =
        subst (λ (o : Option Act). AreInside b
        (with_due d (moved b asks n (sent_by b n d o (first_note (current b asks n d)) reading bytes e) d
        (entry.Message d bus purpose part parts addr reading bytes heard e) (Sent e bytes)))) (sym may.2.2)
        (λ r c is. sent_inside d may.2.0 may.2.1 e bytes may.2.2 r c is)

-- THE INDUCTION
pub past-inside : (b : BoardView) → IsTree b → IsPlainBoard b → LinesAreLocked b → (asks : Asks) → AsksForMessages asks
    → (callers : ℕ) (past : List Entry) → IsStepwise b callers asks past
    → AreInside b (now b asks past)
past-inside b tree plain lines asks some callers [] steps = λ r c is. absurd (let f : None ≡ Some c = is in cc)
past-inside b tree plain lines asks some callers (e ∷ past) steps =
    step_inside b tree plain lines asks some callers past steps.1 (past-inside b tree plain lines asks some callers past steps.1) e steps.0

-- BETWEEN two messages of a caller: its transfer is inside, or its settle is due
abbrev pub Between : Now → ℕ → ℕ → Type 0
Between n c r = (n.inside r ≡ Some c) ⊎ (n.due ≡ Some c)

-- entries of the root are messages of the caller's
abbrev IsOwn : BoardView → ℕ → ℕ → Entry → Type 0
IsOwn b r c e = is_on_root b r e ≡ true → is_call_of b r c e ≡ true

stepwise_front : (b : BoardView) (callers : ℕ) (asks : Asks) (later earlier : List Entry) → IsStepwise b callers asks (later ++ earlier)
    → IsStepwise b callers asks earlier
stepwise_front b callers asks [] earlier steps = steps
stepwise_front b callers asks (e ∷ later) earlier steps = stepwise_front b callers asks later earlier steps.1

module _ (b : BoardView) (tree : IsTree b) (plain : IsPlainBoard b) (lines : LinesAreLocked b) (asks : Asks) (some : AsksForMessages asks)
    (callers : ℕ) where
  -- after a message of the caller's it is inside, or its settle is due
  call_between : (past : List Entry) (steps : IsStepwise b callers asks past) (d bus : ℕ) (ms : List MessageView) (left : ℕ) (e : End)
      (bytes : List ℕ) (new : Now)
      → IsNext b asks (now b asks past) d (Send (Call bus ms) left)
      → new.inside ≡ changed_at (now b asks past).inside (root_of b bus)
      (inside_after (Call bus ms) left (Sent e bytes) d ((now b asks past).inside (root_of b bus)))
      → new.due ≡ cond (is_due (first_act
      (changed_at (now b asks past).walk d (rest_of (current b asks (now b asks past) d) (Sent e bytes)) d))) (Some d) None
      → Between new d (root_of b bus)
  call_between past steps d bus ms left e bytes new next inside due = by_left left next inside
    where
      n : Now
      n = now b asks past

      settled_due : (left : ℕ) (v : _) → first_act (rest_of (current b asks n d) (Sent e bytes)) ≡ Some (Settle v) → new.due ≡ Some d
      settled_due left v first =
          due ∙ ap (λ (w : WalkTree). cond (is_due (first_act w)) (Some d) None)
          (at_same n.walk d (rest_of (current b asks n d) (Sent e bytes)))
          ∙ ap (λ (o : Option Act). cond (is_due o) (Some d) None) first

      by_on : (more : ℕ) → IsNext b asks n d (Send (Call bus ms) (suc more)) → (t : Bool)
          → is_on (goes (Call bus ms) (suc more) (Sent e bytes)) ≡ t
          → new.inside ≡ changed_at n.inside (root_of b bus)
          (inside_after (Call bus ms) (suc more) (Sent e bytes) d (n.inside (root_of b bus))) → Between new d (root_of b bus)
      by_on more next true on inside =
          inl (ap (λ (f : ℕ → Option ℕ). f (root_of b bus)) inside
          ∙ at_same n.inside (root_of b bus) (inside_after (Call bus ms) (suc more) (Sent e bytes) d (n.inside (root_of b bus)))
          ∙ more_follow bus ms more (Sent e bytes) d (n.inside (root_of b bus))
          ∙ ap (λ (t : Bool). cond t (Some d) None) on)
      by_on more next false off inside =
          inr (settled_due (suc more) (verdict_of (Call bus ms) (suc more) (Sent e bytes))
          (call_goes b tree plain lines asks some callers past steps d bus ms (suc more) e bytes next
          ∙ ap (λ (t : Bool). Some (cond t (Send (Call bus ms) more) (Settle (verdict_of (Call bus ms) (suc more) (Sent e bytes)))))
          (goes_alike bus ms more (suc more) e bytes ∙ off)))

      by_left : (left : ℕ) → IsNext b asks n d (Send (Call bus ms) left)
          → new.inside ≡ changed_at n.inside (root_of b bus) (inside_after (Call bus ms) left (Sent e bytes) d (n.inside (root_of b bus)))
          → Between new d (root_of b bus)
      by_left zero next inside =
          inr (settled_due zero (verdict_of (Call bus ms) zero (Sent e bytes))
          (call_goes b tree plain lines asks some callers past steps d bus ms zero e bytes next))
      by_left (suc more) next inside = by_on more next (is_on (goes (Call bus ms) (suc more) (Sent e bytes))) refl inside

  -- the same for the entry of such a message
  pub entry_between : (past : List Entry) (steps : IsStepwise b callers asks past) (d bus : ℕ) (purpose : Purpose) (part parts addr : ℕ)
      (reading : Bool) (bytes : List ℕ) (heard : _) (e : End)
      → May b callers asks (now b asks past) (entry.Message d bus purpose part parts addr reading bytes heard e) → is_call purpose ≡ true
      → Between (step b asks (now b asks past) (entry.Message d bus purpose part parts addr reading bytes heard e)) d (root_of b bus)
  entry_between past steps d bus purpose part parts addr reading bytes heard e may call =
      by_job may.2.0 may.2.2 may.2.3.on_bus (sym (ap is_call may.2.3.for_purpose) ∙ call)
    where
      n : Now
      n = now b asks past

      by_job : (job : Job) → IsNext b asks n d (Send job may.2.1) → bus ≡ job_bus job → is_call (job_purpose job) ≡ true
          → Between (step b asks n (entry.Message d bus purpose part parts addr reading bytes heard e)) d (root_of b bus)
      by_job (Select h) next on is = absurd (let f : false ≡ true = is in cc)
      by_job (SwitchOff off) next on is = absurd (let f : false ≡ true = is in cc)
      by_job (Call s ms) next on is =
          subst (λ (i : ℕ). Between (step b asks n (entry.Message d bus purpose part parts addr reading bytes heard e)) d (root_of b i))
          (sym on)
          (subst (λ (o : Option Act). Between
          (with_due d (moved b asks n (sent_by b n d o (first_note (current b asks n d)) reading bytes e) d
          (entry.Message d bus purpose part parts addr reading bytes heard e) (Sent e bytes))) d (root_of b s)) (sym next)
          (call_between past steps d s ms may.2.1 e bytes
          (with_due d (moved b asks n (sent_by b n d (Some (Send (Call s ms) may.2.1)) (first_note (current b asks n d)) reading bytes e) d
          (entry.Message d bus purpose part parts addr reading bytes heard e) (Sent e bytes)))
          next refl refl))

  -- one entry more between, which settles nothing of the caller
  module _ (past : List Entry) (steps : IsStepwise b callers asks past) (c r : ℕ) where
    abbrev here : Now
    here = now b asks past

    -- where the caller's settle is due nothing else comes
    due_only : (x : Entry) → May b callers asks here x → here.due ≡ Some c → is_settle_of c x ≡ false → ⊥
    due_only (entry.Take d l) may due no_settle = (let f : None ≡ Some c = sym may.1 ∙ due in cc)
    due_only (entry.Free d l) may due no_settle = (let f : None ≡ Some c = sym may.1 ∙ due in cc)
    due_only (entry.Message d bus purpose part parts addr reading bytes heard e) may due no_settle = (let f : None ≡ Some c = sym may.1
        ∙ due in cc)
    due_only (entry.Line d mux level failed) may due no_settle = (let f : None ≡ Some c = sym may.1 ∙ due in cc)
    due_only (entry.Settle d x cut) may due no_settle =
        elim may.1 [
          | inl none ↦ (let f : None ≡ Some c = sym none ∙ due in cc)
          | inr mine ↦ (let same : d ≡ c = same_Some d c (sym mine ∙ due) in
              let f : true ≡ false = sym (eq-eqb d c same) ∙ no_settle in cc)
        ]

    -- whose bus's root this is, and who sends there
    pub own_call : (d : ℕ) (job : Job) (left : ℕ) → here.inside r ≡ Some c → IsNext b asks here d (Send job left)
        → root_of b (job_bus job) ≡ r
        → (d ≡ c) × (is_call (job_purpose job) ≡ true)
    own_call d job left is next root_is =
        let inside = past-inside b tree plain lines asks some callers past steps in
        let mine : InLocks (lock.Bus r) (here.held c) = (inside r c is).locked in
        let theirs : InLocks (lock.Bus r) (here.held d) =
        subst (λ (i : ℕ). InLocks (lock.Bus i) (here.held d)) root_is
        (sent_rooted b tree plain lines asks some callers past steps d job left next) in
        let same : d ≡ c = alone b tree plain lines asks some callers past steps c d (lock.Bus r) mine theirs in
        let act : Send job left ≡ Send (Call (inside r c is).bus (inside r c is).messages) (inside r c is).left =
        same_Some (Send job left) (Send (Call (inside r c is).bus (inside r c is).messages) (inside r c is).left)
        (sym next ∙ ap (λ (i : ℕ). first_act (current b asks here i)) same
        ∙ inside_next b tree plain lines asks some callers past steps inside r c is) in (
          same,
          subst (λ (j : Job). is_call (job_purpose j) ≡ true)
              (sym (let f : job ≡ Call (inside r c is).bus (inside r c is).messages = cc in f)) refl,
        )

    pub line_root : (d : ℕ) (job : Job) → IsNext b asks here d (Shift job)
        → root_of b (home_of_mux b (line_mux job)) ≡ root_of b (job_bus job)
    line_root d job next =
        by_job job (line_may b tree plain lines asks some callers past steps d job next).1
      where
        by_job : (job : Job) {marks : List Mark} {held : List LockId} {v : Slots} → MayShift b job marks held v
            → root_of b (home_of_mux b (line_mux job)) ≡ root_of b (job_bus job)
        by_job (Call bus ms) may = absurd (let f : false ≡ true = may.by_line in cc)
        by_job (Select h) may = ap (λ (i : ℕ). root_of b i) (tree.hop h.bus h may.finds.1).home
        by_job (SwitchOff off) may = ap (λ (i : ℕ). root_of b i) may.finds.1

    -- nobody switches a line of the root
    pub no_line : (d : ℕ) (job : Job) → here.inside r ≡ Some c → IsNext b asks here d (Shift job) → root_of b (job_bus job) ≡ r → ⊥
    no_line d job is next root_is =
        let inside = past-inside b tree plain lines asks some callers past steps in
        let mine : InLocks (lock.Bus r) (here.held c) = (inside r c is).locked in
        let theirs : InLocks (lock.Bus r) (here.held d) =
        subst (λ (i : ℕ). InLocks (lock.Bus i) (here.held d)) root_is
        (line_may b tree plain lines asks some callers past steps d job next).1.rooted in
        let same : d ≡ c = alone b tree plain lines asks some callers past steps c d (lock.Bus r) mine theirs in
        let act : Shift job ≡ Send (Call (inside r c is).bus (inside r c is).messages) (inside r c is).left =
        same_Some (Shift job) (Send (Call (inside r c is).bus (inside r c is).messages) (inside r c is).left)
        (sym next ∙ ap (λ (i : ℕ). first_act (current b asks here i)) same
        ∙ inside_next b tree plain lines asks some callers past steps inside r c is) in cc

    one_between : (x : Entry) → May b callers asks here x → is_settle_of c x ≡ false → Between here c r
        → Between (step b asks here x) c r × IsOwn b r c x
    one_between x may no_settle between =
        elim between [
          | inl is ↦ inside_more x may is
          | inr due ↦ absurd (due_only x may due no_settle)
        ]
      where
        own_message : (d bus : ℕ) (purpose : Purpose) → d ≡ c → is_call purpose ≡ true → root_of b bus ≡ r
            → ((eqb d c && is_call purpose) && eqb (root_of b bus) r) ≡ true
        own_message d bus purpose same call root_is =
            ap (λ (t : Bool). (t && is_call purpose) && eqb (root_of b bus) r) (eq-eqb d c same)
            ∙ ap (λ (t : Bool). t && eqb (root_of b bus) r) call ∙ eq-eqb (root_of b bus) r root_is

        inside_more : (x : Entry) → May b callers asks here x → here.inside r ≡ Some c → Between (step b asks here x) c r × IsOwn b r c x
        inside_more (entry.Take d l) may is = (inl is, λ f. absurd (let g : false ≡ true = f in cc))
        inside_more (entry.Free d l) may is = (inl is, λ f. absurd (let g : false ≡ true = f in cc))
        inside_more (entry.Settle d y cut) may is = (inl is, λ f. absurd (let g : false ≡ true = f in cc))
        inside_more (entry.Line d mux level failed) may is = (
          subst (λ (o : Option Act). Between
              (with_due d (moved b asks here (lined_by b here o (first_note (current b asks here d)) failed) d
              (entry.Line d mux level failed) (Lined failed))) c r) (sym may.2.1)
              (inl is),
          λ f. absurd (no_line d may.2.0 is may.2.1
              (sym (line_root d may.2.0 may.2.1) ∙ ap (λ (m : ℕ). root_of b (home_of_mux b m)) (sym may.2.2.of_mux)
              ∙ eqb-true (root_of b (home_of_mux b mux)) r f)),
        )
        inside_more (entry.Message d bus purpose part parts addr reading bytes heard e) may is =
            elim (eqb_tells (root_of b bus) r) [
              | inl h ↦ (let own = own_call d may.2.0 may.2.1 is may.2.2 (ap (λ (i : ℕ). root_of b i) (sym may.2.3.on_bus) ∙ h.1) in
                  let call : is_call purpose ≡ true = ap is_call may.2.3.for_purpose ∙ own.1 in (
                    subst (λ (i : ℕ). Between (step b asks here (entry.Message d bus purpose part parts addr reading bytes heard e)) i r)
                        own.0
                        (subst (λ (i : ℕ). Between (step b asks here (entry.Message d bus purpose part parts addr reading bytes heard e)) d
                        i) h.1
                        (entry_between past steps d bus purpose part parts addr reading bytes heard e may call)),
                    λ f. own_message d bus purpose own.0 call h.1,
                  ))
              | inr h ↦ (
                subst (λ (o : Option Act). Between
                    (with_due d (moved b asks here (sent_by b here d o (first_note (current b asks here d)) reading bytes e) d
                    (entry.Message d bus purpose part parts addr reading bytes heard e) (Sent e bytes))) c r) (sym may.2.2)
                    (inl (at_other here.inside (root_of b (job_bus may.2.0))
                    (inside_after may.2.0 may.2.1 (Sent e bytes) d (here.inside (root_of b (job_bus may.2.0)))) r
                    (λ f. h.1 (ap (λ (i : ℕ). root_of b i) may.2.3.on_bus ∙ sym f)) ∙ is)),
                λ f. absurd (h.1 (eqb-true (root_of b bus) r f)),
              )
            ]

  -- THE INDUCTION over the entries between
  walk_on : (c r : ℕ) (x : Entry) (earlier : List Entry) → is_call_of b r c x ≡ true → (middle : List Entry)
      → IsStepwise b callers asks (middle ++ x ∷ earlier)
      → list_any (is_settle_of c) middle ≡ false → Between (now b asks (middle ++ x ∷ earlier)) c r × AllByRecursion (IsOwn b r c) middle
  walk_on c r x earlier call [] steps none = (first_between x call steps, tt)
    where
      first_between : (x : Entry) → is_call_of b r c x ≡ true → IsStepwise b callers asks (x ∷ earlier)
          → Between (now b asks (x ∷ earlier)) c r
      first_between (entry.Take d l) call steps = absurd (let f : false ≡ true = call in cc)
      first_between (entry.Free d l) call steps = absurd (let f : false ≡ true = call in cc)
      first_between (entry.Line d mux level failed) call steps = absurd (let f : false ≡ true = call in cc)
      first_between (entry.Settle d y cut) call steps = absurd (let f : false ≡ true = call in cc)
      first_between (entry.Message d bus purpose part parts addr reading bytes heard e) call steps =
          let outer = and_parts (eqb d c && is_call purpose) (eqb (root_of b bus) r) call in
          let inner = and_parts (eqb d c) (is_call purpose) outer.0 in
          subst (λ (i : ℕ). Between (now b asks (entry.Message d bus purpose part parts addr reading bytes heard e ∷ earlier)) i r)
          (eqb-true d c inner.0)
          (subst (λ (i : ℕ). Between (now b asks (entry.Message d bus purpose part parts addr reading bytes heard e ∷ earlier)) d i)
          (eqb-true (root_of b bus) r outer.1)
          (entry_between earlier steps.1 d bus purpose part parts addr reading bytes heard e steps.0 inner.1))
  walk_on c r x earlier call (e ∷ middle) steps none =
      let each = or_parts (is_settle_of c e) (list_any (is_settle_of c) middle) none in
      let before = walk_on c r x earlier call middle steps.1 each.1 in
      let more = one_between (middle ++ x ∷ earlier) steps.1 c r e steps.0 each.0 before.0 in
      (more.0, (more.1, before.1))

  pub whole-kept : (past : List Entry) → IsStepwise b callers asks past → KeepsWhole b past
  whole-kept past steps =
      record {
        between = λ c r later middle earlier x y is call_x call_y none.
            (walk_on c r x earlier call_x middle
            (stepwise_front b callers asks later (y ∷ (middle ++ x ∷ earlier))
            (subst (λ (es : List Entry). IsStepwise b callers asks es) is steps)).1 none).1;
      }
