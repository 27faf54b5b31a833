-- A step of one of a group's callers leaves all that stands apart from the group. No induction but over marks.
use Rattle.std.proofs.Common.{◌≡◌, ℕ, zero, suc, Bool, true, false, cond, List, [], ◌∷◌, Option, Some, None, refl, sym, ◌∙◌, ap, subst, ◌⊎◌}
use Rattle.std.proofs.Common.{inl, inr}
use Rattle.i2c_base.specs.declared.ids.LockId.{LockId}
use Rattle.i2c_base.specs.declared.entry.End.{End}
use Rattle.i2c_base.specs.declared.entry.End.TheVariants as end
use Rattle.i2c_base.specs.declared.entry.Entry.{Entry}
use Rattle.i2c_base.specs.declared.entry.Entry.TheVariants as entry
use Rattle.i2c_base.specs.declared.reply.Cut.{Cut}
use Rattle.i2c_base.specs.Board.{BoardView}
use Rattle.i2c_spec.specs.Tree.{Hop, root_of}
use Rattle.i2c_spec.specs.History.{Asks, changed_at}
use Rattle.bus_spec.specs.Walk.{Mark, Job, Call, Select, SwitchOff, off_bus, off_mux, Act, Take, Free, Send, Shift, Settle, ActOutcome}
use Rattle.bus_spec.specs.Walk.{Passed, Sent, Lined, Note, job_bus}
use Rattle.bus_spec.specs.Slots.{Slots, MuxSlot, Clean, turned, set_marks, polled_slot, select_told, after_select, after_off, after_job}
use Rattle.bus_spec.specs.Grammar.{first_act, first_note, rest_of}
use Rattle.bus_spec.specs.Readings.{caller_of, cut_told, is_lock}
use Rattle.bus_spec.specs.Past.{Now, current, step, sent_by, lined_by, held_by, without, moved, with_due}
use Rattle.bus_laws.specs.Runs.{IsUnmarked}
use Rattle.bus_laws.proofs.tree.Slots.{turned-other, set_marks-other}
use Rattle.bus_laws.proofs.past.StandsStep.{at_other, lock_tells}
use Rattle.group_laws.specs.Groups.{root_of_lock, MarksIn, ActIn, IsAlike, AreApart}

-- a number that one choice takes, and another leaves
other-number : (f g : ℕ → Bool) → AreApart f g → (i j : ℕ) → f i ≡ true → g j ≡ true → j ≡ i → ⊥
other-number f g apart i j mine theirs same =
    let f1 : f j ≡ false = apart j theirs in
    let f2 : f j ≡ true = subst (λ (k : ℕ). f k ≡ true) (sym same) mine in
    let e : true ≡ false = sym f2 ∙ f1 in cc

module _ (b : BoardView) (roots others : ℕ → Bool) (apart : AreApart roots others) (p : ℕ) (theirs : others (root_of b p) ≡ true) where
  -- a bus of these roots is another one
  off : (on : ℕ) → roots (root_of b on) ≡ true → p ≡ on → ⊥
  off on mine same = other-number roots others apart (root_of b on) (root_of b p) mine theirs (ap (root_of b) same)

  -- no mark on these roots is of that bus
  unmarked : (ms : List Mark) → MarksIn b roots ms → IsUnmarked p ms
  unmarked [] on = tt
  unmarked (m ∷ ms) on = (off m.on on.0, unmarked ms on.1)

  -- what is known of that bus stays where a mux on these roots is switched
  turned_off : (on mux : ℕ) (s : MuxSlot) (c : Option ℕ) (v : Slots) → roots (root_of b on) ≡ true → turned v on mux s c p ≡ v p
  turned_off on mux s c v at = turned-other v on mux p s c (off on at)

  -- where a select there went through
  told_off : (h : Hop) (left : ℕ) (bytes : List ℕ) (v : Slots) → roots (root_of b h.on) ≡ true → select_told h left bytes v p ≡ v p
  told_off h zero bytes v at = turned_off h.on h.mux Clean (Some h.channel) v at
  told_off h (suc left) bytes v at = turned_off h.on h.mux (polled_slot h left bytes) None v at

  module _ (marks : List Mark) (on : MarksIn b roots marks) where
    -- where muxes there are marked
    marks_off : (v : Slots) → set_marks marks v p ≡ v p
    marks_off v = set_marks-other marks v p (unmarked marks on)

    -- after a step of a select
    select_off : (h : Hop) (left : ℕ) (out : ActOutcome) (v : Slots) → roots (root_of b h.on) ≡ true
        → after_select h left marks out v p ≡ v p
    select_off h left (Sent end.Ok bytes) v at = told_off h left bytes v at
    select_off h left (Sent end.Nack bytes) v at = turned_off h.on h.mux Clean None v at
    select_off h left (Sent end.Slow bytes) v at = turned_off h.on h.mux Clean None v at
    select_off h left (Sent end.Refused bytes) v at = turned_off h.on h.mux Clean None v at
    select_off h left (Sent end.Proto bytes) v at = turned_off h.on h.mux Clean None v at
    select_off h left (Sent (end.Cut q) bytes) v at = marks_off v
    select_off h left (Lined true) v at = marks_off v
    select_off h left (Lined false) v at = turned_off h.on h.mux Clean (Some h.channel) v at
    select_off h left Passed v at = refl

    -- after a deselect or a close
    shut_off : (mux_on mux : ℕ) (out : ActOutcome) (v : Slots) → roots (root_of b mux_on) ≡ true → after_off mux_on mux marks out v p ≡ v p
    shut_off mux_on mux (Sent end.Ok bytes) v at = turned_off mux_on mux Clean None v at
    shut_off mux_on mux (Sent end.Nack bytes) v at = turned_off mux_on mux Clean None v at
    shut_off mux_on mux (Sent end.Slow bytes) v at = turned_off mux_on mux Clean None v at
    shut_off mux_on mux (Sent end.Refused bytes) v at = turned_off mux_on mux Clean None v at
    shut_off mux_on mux (Sent end.Proto bytes) v at = turned_off mux_on mux Clean None v at
    shut_off mux_on mux (Sent (end.Cut q) bytes) v at = marks_off v
    shut_off mux_on mux (Lined true) v at = marks_off v
    shut_off mux_on mux (Lined false) v at = turned_off mux_on mux Clean None v at
    shut_off mux_on mux Passed v at = refl

    -- after a step of any job there
    job_off : (job : Job) (left : ℕ) (out : ActOutcome) (v : Slots) → roots (root_of b (job_bus job)) ≡ true
        → after_job job left marks out v p ≡ v p
    job_off (Call bus ms) left out v at = refl
    job_off (Select h) left out v at = select_off h left out v at
    job_off (SwitchOff off) left out v at = shut_off (off_bus off) (off_mux off) out v at

module _ (b : BoardView) (roots who others whose : ℕ → Bool) (apart : AreApart roots others) (strange : AreApart who whose) (x : Now) where
  -- what is said of those that stand apart
  abbrev Stay : Now → Now → Type 0
  Stay n m = IsAlike b others whose n x → IsAlike b others whose m x

  module _ (n : Now) (c : ℕ) (own : who c ≡ true) where
    sent_stays : (o : Option Act) (note : Note) (reading : Bool) (bytes : List ℕ) (e : End)
        → ((act : Act) → o ≡ Some act → ActIn b roots act note.marks)
        → Stay n (sent_by b n c o note reading bytes e)
    sent_stays None note reading bytes e on al = al
    sent_stays (Some (Take l)) note reading bytes e on al = al
    sent_stays (Some (Free l)) note reading bytes e on al = al
    sent_stays (Some (Shift job)) note reading bytes e on al = al
    sent_stays (Some (Settle v)) note reading bytes e on al = al
    sent_stays (Some (Send job left)) note reading bytes e on al =
        let at : ℕ = root_of b (job_bus job) in
        let here = on (Send job left) refl in
        record {
          walk = al.walk;
          held = al.held;
          settled = al.settled;
          got = λ d k. at_other n.got c _ d (other-number who whose strange c d own k) ∙ al.got d k;
          cut = al.cut;
          holder = al.holder;
          slot = λ p g. job_off b roots others apart p g note.marks here.1 job left (Sent e bytes) n.slot here.0 ∙ al.slot p g;
          worlds = λ r g. at_other n.worlds at _ r (other-number roots others apart at r here.0 g) ∙ al.worlds r g;
          calls = λ r g. at_other n.calls at _ r (other-number roots others apart at r here.0 g) ∙ al.calls r g;
          inside = λ r g. at_other n.inside at _ r (other-number roots others apart at r here.0 g) ∙ al.inside r g;
        }

    lined_stays : (o : Option Act) (note : Note) (failed : Bool) → ((act : Act) → o ≡ Some act → ActIn b roots act note.marks)
        → Stay n (lined_by b n o note failed)
    lined_stays None note failed on al = al
    lined_stays (Some (Take l)) note failed on al = al
    lined_stays (Some (Free l)) note failed on al = al
    lined_stays (Some (Send job left)) note failed on al = al
    lined_stays (Some (Settle v)) note failed on al = al
    lined_stays (Some (Shift job)) note failed on al =
        let at : ℕ = root_of b (job_bus job) in
        let here = on (Shift job) refl in
        record {
          walk = al.walk;
          held = al.held;
          settled = al.settled;
          got = al.got;
          cut = al.cut;
          holder = al.holder;
          slot = λ p g. job_off b roots others apart p g note.marks here.1 job 0 (Lined failed) n.slot here.0 ∙ al.slot p g;
          worlds = λ r g. at_other n.worlds at _ r (other-number roots others apart at r here.0 g) ∙ al.worlds r g;
          calls = λ r g. at_other n.calls at _ r (other-number roots others apart at r here.0 g) ∙ al.calls r g;
          inside = al.inside;
        }

  -- another lock
  other_lock : (l k : LockId) (who_has old : Option ℕ) → roots (root_of_lock b l) ≡ true → others (root_of_lock b k) ≡ true
      → cond (is_lock l k) who_has old ≡ old
  other_lock l k who_has old mine theirs =
      elim (lock_tells l k) [
        | inl same ↦ absurd (other-number roots others apart (root_of_lock b l) (root_of_lock b k) mine theirs
            (ap (root_of_lock b) (sym same.1)))
        | inr not ↦ ap (λ (t : Bool). cond t who_has old) not.0
      ]

  -- a lock on the group's roots that is taken or freed
  lock_stays : (all : Asks) (n : Now) (c : ℕ) → who c ≡ true → (l : LockId) → roots (root_of_lock b l) ≡ true → (held : List LockId)
      (who_has : Option ℕ) (cut : Cut)
      → Stay n (record n {
        walk = changed_at n.walk c (rest_of (current b all n c) Passed);
        held = changed_at n.held c held;
        holder = held_by n.holder l who_has;
        cut = changed_at n.cut c cut;
      })
  lock_stays all n c own l mine held who_has cut al =
      record {
        walk = λ d k. at_other n.walk c _ d (other-number who whose strange c d own k) ∙ al.walk d k;
        held = λ d k. at_other n.held c _ d (other-number who whose strange c d own k) ∙ al.held d k;
        settled = al.settled;
        got = al.got;
        cut = λ d k. at_other n.cut c _ d (other-number who whose strange c d own k) ∙ al.cut d k;
        holder = λ k g. other_lock l k who_has (n.holder k) mine g ∙ al.holder k g;
        slot = al.slot;
        worlds = al.worlds;
        calls = al.calls;
        inside = al.inside;
      }

  -- a message or a line step, and the settle that is due after it
  moved_stays : (all : Asks) (n m : Now) (c : ℕ) → who c ≡ true → (e : Entry) (out : ActOutcome) → IsAlike b others whose m x
      → Stay n (with_due c (moved b all n m c e out))
  moved_stays all n m c own e out s al =
      record {
        walk = λ d k. at_other n.walk c _ d (other-number who whose strange c d own k) ∙ al.walk d k;
        held = s.held;
        settled = s.settled;
        got = s.got;
        cut = λ d k. at_other n.cut c _ d (other-number who whose strange c d own k) ∙ al.cut d k;
        holder = s.holder;
        slot = s.slot;
        worlds = s.worlds;
        calls = s.calls;
        inside = s.inside;
      }

  -- A STEP of one of the group's callers, which acts on the group's roots
  pub step-stays : (all : Asks) (n : Now) (e : Entry) → who (caller_of e) ≡ true
      → ((act : Act) → first_act (current b all n (caller_of e)) ≡ Some act → ActIn b roots act
      (first_note (current b all n (caller_of e))).marks)
      → ((l : LockId) (c : ℕ) → (e ≡ entry.Take c l) ⊎ (e ≡ entry.Free c l) → roots (root_of_lock b l) ≡ true)
      → Stay n (step b all n e)
  step-stays all n (entry.Take c l) own on lock al =
      lock_stays all n c own l (lock l c (inl refl)) (l ∷ n.held c) (Some c) (cut_told (entry.Take c l)) al
  step-stays all n (entry.Free c l) own on lock al =
      lock_stays all n c own l (lock l c (inr refl)) (without l (n.held c)) None (cut_told (entry.Free c l)) al
  step-stays all n (entry.Settle c r at) own on lock al =
      record {
        walk = λ d k. at_other n.walk c _ d (other-number who whose strange c d own k) ∙ al.walk d k;
        held = al.held;
        settled = λ d k. at_other n.settled c _ d (other-number who whose strange c d own k) ∙ al.settled d k;
        got = λ d k. at_other n.got c _ d (other-number who whose strange c d own k) ∙ al.got d k;
        cut = λ d k. at_other n.cut c _ d (other-number who whose strange c d own k) ∙ al.cut d k;
        holder = al.holder;
        slot = al.slot;
        worlds = al.worlds;
        calls = al.calls;
        inside = al.inside;
      }
  step-stays all n (entry.Line c mux level failed) own on lock al =
      moved_stays all n (lined_by b n (first_act (current b all n c)) (first_note (current b all n c)) failed) c own
      (entry.Line c mux level failed) (Lined failed)
      (lined_stays n c own (first_act (current b all n c)) (first_note (current b all n c)) failed on al) al
  step-stays all n (entry.Message c bus why part parts addr reading bytes heard e) own on lock al =
      moved_stays all n (sent_by b n c (first_act (current b all n c)) (first_note (current b all n c)) reading bytes e) c own
      (entry.Message c bus why part parts addr reading bytes heard e) (Sent e bytes)
      (sent_stays n c own (first_act (current b all n c)) (first_note (current b all n c)) reading bytes e on al) al
