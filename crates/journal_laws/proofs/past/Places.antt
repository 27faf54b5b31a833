-- The fold over a past has each reading of a place: what a caller's walk has left, and the mark of each bus. The induction
-- goes over the entries.
use Rattle.journal_laws.proofs.Cited.{◌≡◌, ℕ, zero, suc, Bool, true, false, cond, eqb, List, [], ◌∷◌, Option, Some, None, refl, sym, ◌∙◌}
use Rattle.journal_laws.proofs.Cited.{ap, inl, inr, eqb_tells, End, Entry, BoardView, Hop, Asks, changed_at, Mark, Job, Call, Select}
use Rattle.journal_laws.proofs.Cited.{SwitchOff, off_bus, off_mux, Act, Take, Free, Send, Shift, Settle, ActOutcome, Passed, Sent, Lined}
use Rattle.journal_laws.proofs.Cited.{Note, WalkTree, Slots, At, MuxSlot, Clean, Marked, mark_in, set_marks, polled_slot, turned, after_job}
use Rattle.journal_laws.proofs.Cited.{first_act, first_note, rest_of, caller_of, Now, now, current, mark, sent_by, lined_by, walk_left}
use Rattle.journal_laws.proofs.Cited.{mark_among, mark_after, mark_sent, mark_lined, mark_by, is_cut}
use Rattle.i2c_base.specs.declared.entry.End.TheVariants as end
use Rattle.i2c_base.specs.declared.entry.Entry.TheVariants as entry
use Rattle.bus_spec.specs.Slots.{select_told, turned_at}
use Rattle.bus_spec.specs.Places.{mark_left}
use Rattle.bus_laws.proofs.past.Marks.{poll_unmarked}

-- a caller's walk
pub walk-left : (b : BoardView) (asks : Asks) (past : List Entry) (c : ℕ) → (now b asks past).walk c ≡ walk_left b asks past c
walk-left b asks [] c = refl
walk-left b asks (e ∷ past) c = by e (walk-left b asks past c)
  where
    turned : (d : ℕ) (out : ActOutcome) → (now b asks past).walk c ≡ walk_left b asks past c
        → changed_at (now b asks past).walk d (rest_of (current b asks (now b asks past) d) out) c
        ≡ cond (eqb c d) (rest_of (current b asks (now b asks past) c) out) (walk_left b asks past c)
    turned d out before =
        elim (eqb_tells c d) [
          | inl h ↦ (let same : d ≡ c = sym h.1 in
              ap (λ (t : Bool). cond t (rest_of (current b asks (now b asks past) d) out) ((now b asks past).walk c)) h.0
              ∙ ap (λ (i : ℕ). rest_of (current b asks (now b asks past) i) out) same
              ∙ sym (ap (λ (t : Bool). cond t (rest_of (current b asks (now b asks past) c) out) (walk_left b asks past c)) h.0))
          | inr h ↦ ap (λ (t : Bool). cond t (rest_of (current b asks (now b asks past) d) out) ((now b asks past).walk c)) h.0 ∙ before
              ∙ sym (ap (λ (t : Bool). cond t (rest_of (current b asks (now b asks past) c) out) (walk_left b asks past c)) h.0)
        ]

    by : (x : Entry) → (now b asks past).walk c ≡ walk_left b asks past c → (now b asks (x ∷ past)).walk c ≡ walk_left b asks (x ∷ past) c
    by (entry.Take d l) before = turned d Passed before
    by (entry.Free d l) before = turned d Passed before
    by (entry.Settle d r cut) before = turned d Passed before
    by (entry.Line d m level failed) before = turned d (Lined failed) before
    by (entry.Message d bus why part parts addr reading bytes heard e2) before = turned d (Sent e2 bytes) before

-- what a slot says where it is written
written : (v : Slots) (on p : ℕ) (x : At) (m : Option ℕ) → mark_in x.slot ≡ m
    → mark_in (changed_at v on x p).slot ≡ cond (eqb p on) m (mark_in (v p).slot)
written v on p x m told =
    elim (eqb_tells p on) [
      | inl h ↦ ap (λ (t : Bool). mark_in (cond t x (v p)).slot) h.0 ∙ told ∙ sym (ap (λ (t : Bool). cond t m (mark_in (v p).slot)) h.0)
      | inr h ↦ ap (λ (t : Bool). mark_in (cond t x (v p)).slot) h.0 ∙ sym (ap (λ (t : Bool). cond t m (mark_in (v p).slot)) h.0)
    ]

marked_among : (ms : List Mark) (v : Slots) (p : ℕ) → mark_in (set_marks ms v p).slot ≡ mark_among ms p (mark_in (v p).slot)
marked_among [] v p = refl
marked_among (m ∷ ms) v p =
    written (set_marks ms v) m.on p (turned_at (v m.on) m.mux (Marked m.mux) None) (Some m.mux) refl
    ∙ ap (λ (o : Option ℕ). cond (eqb p m.on) (Some m.mux) o) (marked_among ms v p)

-- a mux turned
turned_mark : (v : Slots) (on mux p : ℕ) (s : MuxSlot) (c : Option ℕ) → mark_in s ≡ None
    → mark_in (turned v on mux s c p).slot ≡ cond (eqb p on) None (mark_in (v p).slot)
turned_mark v on mux p s c none = written v on p (turned_at (v on) mux s c) None none

selected_mark : (h : Hop) (left : ℕ) (bytes : List ℕ) (v : Slots) (p : ℕ)
    → mark_in (select_told h left bytes v p).slot ≡ cond (eqb p h.on) None (mark_in (v p).slot)
selected_mark h zero bytes v p = turned_mark v h.on h.mux p Clean (Some h.channel) refl
selected_mark h (suc left) bytes v p = turned_mark v h.on h.mux p (polled_slot h left bytes) None (poll_unmarked h left bytes)

-- a message, and a line step
sent_mark : (job : Job) (left : ℕ) (marks : List Mark) (e : End) (bytes : List ℕ) (v : Slots) (p : ℕ)
    → mark_in (after_job job left marks (Sent e bytes) v p).slot ≡ mark_after job marks (is_cut e) p (mark_in (v p).slot)
sent_mark (Call bus ms) left marks e bytes v p = refl
sent_mark (Select h) left marks end.Ok bytes v p = selected_mark h left bytes v p
sent_mark (Select h) left marks end.Nack bytes v p = turned_mark v h.on h.mux p Clean None refl
sent_mark (Select h) left marks end.Slow bytes v p = turned_mark v h.on h.mux p Clean None refl
sent_mark (Select h) left marks end.Refused bytes v p = turned_mark v h.on h.mux p Clean None refl
sent_mark (Select h) left marks end.Proto bytes v p = turned_mark v h.on h.mux p Clean None refl
sent_mark (Select h) left marks (end.Cut q) bytes v p = marked_among marks v p
sent_mark (SwitchOff off) left marks end.Ok bytes v p = turned_mark v (off_bus off) (off_mux off) p Clean None refl
sent_mark (SwitchOff off) left marks end.Nack bytes v p = turned_mark v (off_bus off) (off_mux off) p Clean None refl
sent_mark (SwitchOff off) left marks end.Slow bytes v p = turned_mark v (off_bus off) (off_mux off) p Clean None refl
sent_mark (SwitchOff off) left marks end.Refused bytes v p = turned_mark v (off_bus off) (off_mux off) p Clean None refl
sent_mark (SwitchOff off) left marks end.Proto bytes v p = turned_mark v (off_bus off) (off_mux off) p Clean None refl
sent_mark (SwitchOff off) left marks (end.Cut q) bytes v p = marked_among marks v p

lined_mark : (job : Job) (marks : List Mark) (failed : Bool) (v : Slots) (p : ℕ)
    → mark_in (after_job job 0 marks (Lined failed) v p).slot ≡ mark_after job marks failed p (mark_in (v p).slot)
lined_mark (Call bus ms) marks failed v p = refl
lined_mark (Select h) marks true v p = marked_among marks v p
lined_mark (Select h) marks false v p = turned_mark v h.on h.mux p Clean (Some h.channel) refl
lined_mark (SwitchOff off) marks true v p = marked_among marks v p
lined_mark (SwitchOff off) marks false v p = turned_mark v (off_bus off) (off_mux off) p Clean None refl

-- the mark of a bus
module _ (b : BoardView) (n : Now) (c p : ℕ) (note : Note) where
  sent_so : (o : Option Act) (reading : Bool) (bytes : List ℕ) (e : End)
      → mark_in ((sent_by b n c o note reading bytes e).slot p).slot ≡ mark_sent o note (is_cut e) p (mark_in (n.slot p).slot)
  sent_so None reading bytes e = refl
  sent_so (Some (Take l)) reading bytes e = refl
  sent_so (Some (Free l)) reading bytes e = refl
  sent_so (Some (Shift job)) reading bytes e = refl
  sent_so (Some (Settle verdict)) reading bytes e = refl
  sent_so (Some (Send job left)) reading bytes e = sent_mark job left note.marks e bytes n.slot p

  lined_so : (o : Option Act) (failed : Bool)
      → mark_in ((lined_by b n o note failed).slot p).slot ≡ mark_lined o note failed p (mark_in (n.slot p).slot)
  lined_so None failed = refl
  lined_so (Some (Take l)) failed = refl
  lined_so (Some (Free l)) failed = refl
  lined_so (Some (Send job left)) failed = refl
  lined_so (Some (Settle verdict)) failed = refl
  lined_so (Some (Shift job)) failed = lined_mark job note.marks failed n.slot p

pub mark-left : (b : BoardView) (asks : Asks) (past : List Entry) (p : ℕ) → mark b asks past p ≡ mark_left b asks past p
mark-left b asks [] p = refl
mark-left b asks (e ∷ past) p = by e
    ∙ ap (λ (o : Option ℕ). mark_by (first_act (here (caller_of e))) (first_note (here (caller_of e))) e p o) (mark-left b asks past p)
  where
    n : Now
    n = now b asks past

    here : ℕ → WalkTree
    here c = current b asks n c

    by : (x : Entry) → mark b asks (x ∷ past) p ≡ mark_by (first_act (here (caller_of x))) (first_note (here (caller_of x))) x p
        (mark b asks past p)
    by (entry.Take c l) = refl
    by (entry.Free c l) = refl
    by (entry.Settle c r cut) = refl
    by (entry.Line c m level failed) = lined_so b n c p (first_note (here c)) (first_act (here c)) failed
    by (entry.Message c bus why part parts addr reading bytes heard x) = sent_so b n c p (first_note (here c))
        (first_act (here c)) reading bytes x
