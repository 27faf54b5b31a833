-- A caller whose messages come next is inside already, or sends its first one, and has read nothing yet; and how many of
-- them stand before. The induction goes over the entries.
use Rattle.flat_laws.proofs.Cited.{◌≡◌, ℕ, zero, suc, ◌+◌, ◌-◌, ◌<◌, Bool, true, false, cond, ◌&&◌, List, [], ◌∷◌, length, Option, Some}
use Rattle.flat_laws.proofs.Cited.{None, eqb, refl, sym, ◌∙◌, ap, subst, ◌⊎◌, inl, inr, arith, eq-eqb, ne_eqb, eqb_tells, End, Entry}
use Rattle.flat_laws.proofs.Cited.{BoardView, TransferView, root_of, IsTree, IsPlainBoard, MessageView, messages_of, Asks, changed_at, Job}
use Rattle.flat_laws.proofs.Cited.{Call, Select, SwitchOff, Act, Take, Free, Send, Shift, Settle, ActOutcome, Passed, Sent, Lined, Note}
use Rattle.flat_laws.proofs.Cited.{WalkTree, Then, goes, verdict_of, job_bus, job_purpose, more_of, seen, is_over, first_act, first_note}
use Rattle.flat_laws.proofs.Cited.{rest_of, is_call, Now, begun, current, step, now, is_on, is_due, inside_after, got_after, sent, sent_by}
use Rattle.flat_laws.proofs.Cited.{lined_by, with_due, moved, talk_of, IsNext, May, IsStepwise, InLocks, LinesAreLocked, AsksForMessages}
use Rattle.flat_laws.proofs.Cited.{Settles, calls_behind, at_same, at_other, first_is, length-messages, past-inside, call_goes}
use Rattle.flat_laws.proofs.Cited.{other_caller, same_Some}
use Rattle.i2c_base.specs.declared.ids.LockId.TheVariants as lock
use Rattle.i2c_base.specs.declared.entry.Entry.TheVariants as entry
use Rattle.bus_laws.specs.Runs.{IsCall}
use Rattle.bus_laws.specs.Calls.{FirstCalls, CallsOf, IsAsked}
use Rattle.bus_laws.proofs.walk.First.{settled-first, walk-first, first_seen}
use Rattle.bus_laws.proofs.past.Whole.{AreInside, Between, alone, sent_rooted, inside_next, entry_between}
use Rattle.bus_laws.proofs.past.Placed.{rest_settles, asked as asked_past}

-- so many messages stand before the one that comes next
abbrev pub Counts : WalkTree → ℕ → Type 0
Counts w k = (bus : ℕ) (ms : List MessageView) (left : ℕ) → first_act w ≡ Some (Send (Call bus ms) left) → k + suc left ≡ length ms

-- a caller is inside, after so many messages; or its walk sends the first of its messages first, and then it has sent
-- and read nothing yet, or its settle is due
abbrev pub Stage : Now → ℕ → ℕ → Type 0
Stage n k c = ((r : ℕ) × (n.inside r ≡ Some c) × Counts (n.walk c) k)
    ⊎ (FirstCalls (n.walk c) × (((n.got c ≡ []) × (k ≡ 0)) ⊎ (n.due ≡ Some c)))

-- a message more is counted for the caller whose it is
count_other : (d c k : ℕ) (z : Bool) → (c ≡ d → ⊥) → cond (eqb d c && z) (suc k) k ≡ k
count_other d c k z ne = ap (λ (t : Bool). cond (t && z) (suc k) k) (ne_eqb d c (λ e. ne (sym e)))

count_control : (d k : ℕ) (z : Bool) → z ≡ false → cond (eqb d d && z) (suc k) k ≡ k
count_control d k z no_call = ap (λ (t : Bool). cond (eqb d d && t) (suc k) k) no_call ∙ by (eqb d d)
  where
    by : (t : Bool) → cond (t && false) (suc k) k ≡ k
    by true = refl
    by false = refl

count_call : (d k : ℕ) (z : Bool) → z ≡ true → cond (eqb d d && z) (suc k) k ≡ suc k
count_call d k z call = ap (λ (t : Bool). cond (eqb d d && t) (suc k) k) call
    ∙ ap (λ (t : Bool). cond (t && true) (suc k) k) (eq-eqb d d refl)

count_settle : (d c k : ℕ) → (c ≡ d → ⊥) → cond (eqb d c) 0 k ≡ k
count_settle d c k ne = ap (λ (t : Bool). cond t 0 k) (ne_eqb d c (λ e. ne (sym e)))

-- after a settle no message is sent
settle_first : (w : WalkTree) (done : Bool) (verdict : _) → Settles done w → first_act w ≡ Some (Settle verdict) → FirstCalls w
settle_first w done verdict h first =
    let at = first_is w (Settle verdict) first in
    let s : Settles done (Then (Settle verdict) at.0 at.1) = subst (λ (x : WalkTree). Settles done x) at.2 h in
    subst (λ (x : WalkTree). FirstCalls x) (sym at.2) (settled-first (at.1 Passed) s.2)

pub due_settles : (o : Option Act) → is_due o ≡ true → (verdict : _) × (o ≡ Some (Settle verdict))
due_settles None e = absurd (let f : false ≡ true = e in cc)
due_settles (Some (Settle verdict)) e = (verdict, refl)
due_settles (Some (Take l)) e = absurd (let f : false ≡ true = e in cc)
due_settles (Some (Free l)) e = absurd (let f : false ≡ true = e in cc)
due_settles (Some (Send job left)) e = absurd (let f : false ≡ true = e in cc)
due_settles (Some (Shift job)) e = absurd (let f : false ≡ true = e in cc)

begun_first : (b : BoardView) (o : Option TransferView) → FirstCalls (begun b o)
begun_first b None = tt
begun_first b (Some t) = walk-first b t

module _ (b : BoardView) (tree : IsTree b) (plain : IsPlainBoard b) (lines : LinesAreLocked b) (asks : Asks) (some : AsksForMessages asks)
    (callers : ℕ)
    (past : List Entry) (steps : IsStepwise b callers asks past) where
  abbrev n : Now
  n = now b asks past

  inside : AreInside b n
  inside = past-inside b tree plain lines asks some callers past steps

  abbrev asked : (d : ℕ) → IsAsked b asks d (current b asks n d) (n.settled d)
  asked d = asked_past b asks some callers past steps d

  -- who does something else is not inside
  pub not_inside : (d : ℕ) (act : Act) → IsNext b asks n d act
      → ((bus : ℕ) (ms : List MessageView) (left : ℕ) → act ≡ Send (Call bus ms) left → ⊥) → (r : ℕ) → n.inside r ≡ Some d → ⊥
  not_inside d act next no_call r is =
      other_caller b tree plain lines asks some callers past steps inside r d d act is next
      (λ bus ms left e root_is. no_call bus ms left e) refl

  abbrev sent_by_now : ℕ → ℕ
  sent_by_now c = calls_behind past c

  module _ (stage : (c : ℕ) → Stage n (sent_by_now c) c) where
    seen_first : (d : ℕ) → FirstCalls (n.walk d) → (t : Bool)
        → FirstCalls (seen n.slot (cond t (begun b (asks d (n.settled d))) (n.walk d)))
    seen_first d f true = first_seen n.slot (begun b (asks d (n.settled d))) (begun_first b (asks d (n.settled d)))
    seen_first d f false = first_seen n.slot (n.walk d) f

    stage_next : (d : ℕ) → n.due ≡ None → ((r : ℕ) → n.inside r ≡ Some d → ⊥)
        → FirstCalls (current b asks n d) × ((n.got d ≡ []) × (sent_by_now d ≡ 0))
    stage_next d none outside =
        elim (stage d) [
          | inl i ↦ absurd (outside i.0 i.1)
          | inr f ↦ (
            seen_first d f.0 (is_over (n.walk d)),
            elim f.1
                [ inl e ↦ e | inr due ↦ absurd (let g : None ≡ Some d = sym none ∙ due in cc) ],
          )
        ]

    first_left : (d bus : ℕ) (ms : List MessageView) (left : ℕ) → IsNext b asks n d (Send (Call bus ms) left) → FirstCalls (n.walk d)
        → left ≡ more_of (Call bus ms)
    first_left d bus ms left next f =
        let at = first_is (current b asks n d) (Send (Call bus ms) left) next in
        let firsts : FirstCalls (Then (Send (Call bus ms) left) at.0 at.1) = subst (λ (w : WalkTree). FirstCalls w) at.2
        (seen_first d f (is_over (n.walk d))) in
        firsts

    nothing_sent : (d : ℕ) → n.due ≡ None → ((n.got d ≡ []) × (sent_by_now d ≡ 0)) ⊎ (n.due ≡ Some d) → (n.got d ≡ []) × (sent_by_now d ≡ 0)
    nothing_sent d none e = elim e [ inl x ↦ x | inr due ↦ absurd (let g : None ≡ Some d = sym none ∙ due in cc) ]

    -- a message of the caller's comes next
    pub call_first : (d bus : ℕ) (ms : List MessageView) (left : ℕ) → n.due ≡ None → IsNext b asks n d (Send (Call bus ms) left)
        → (n.inside (root_of b bus) ≡ Some d) ⊎ ((left ≡ more_of (Call bus ms)) × (n.got d ≡ []))
    call_first d bus ms left none next =
        elim (stage d) [
          | inl i ↦ (let mine = inside i.0 d i.1 in
              let act : Send (Call bus ms) left ≡ Send (Call mine.bus mine.messages) mine.left =
              same_Some (Send (Call bus ms) left) (Send (Call mine.bus mine.messages) mine.left) (sym next
              ∙ inside_next b tree plain lines asks some callers past steps inside i.0 d i.1) in
              let same : bus ≡ mine.bus = (let f : Send (Call bus ms) left ≡ Send (Call mine.bus mine.messages) mine.left = act in cc) in
              inl (ap (λ (k : ℕ). n.inside k) (ap (λ (s : ℕ). root_of b s) same ∙ mine.root) ∙ i.1))
          | inr f ↦ inr (first_left d bus ms left next f.0, (nothing_sent d none f.1).0)
        ]

    some_messages : (d bus : ℕ) (ms : List MessageView) (left : ℕ) → IsNext b asks n d (Send (Call bus ms) left) → 0 < length ms
    some_messages d bus ms left next =
        let at = first_is (current b asks n d) (Send (Call bus ms) left) next in
        let calls : CallsOf b (asked d).whose (Then (Send (Call bus ms) left) at.0 at.1) = subst
        (λ (w : WalkTree). CallsOf b (asked d).whose w) at.2 (asked d).calls in
        let call : IsCall b (asked d).whose bus ms = calls.0 in
        let e : length (messages_of (asked d).whose) ≡ length (asked d).whose.msgs = length-messages (asked d).whose.msgs
        (asked d).whose.out in
        let f : length ms ≡ length (messages_of (asked d).whose) = ap (λ (xs : List MessageView). length xs) call.same_messages in
        omega (arith, e, f, call.some_message)

    -- all messages of the transfer are sent before, or are left, or are this one
    pub call_count : (d bus : ℕ) (ms : List MessageView) (left : ℕ) → n.due ≡ None → IsNext b asks n d (Send (Call bus ms) left)
        → sent_by_now d + suc left ≡ length ms
    call_count d bus ms left none next =
        elim (stage d) [
          | inl i ↦ i.2 bus ms left ((inside i.0 d i.1).sends
              ∙ sym (sym next ∙ inside_next b tree plain lines asks some callers past steps inside i.0 d i.1))
          | inr f ↦ (let e : left ≡ length ms - 1 = first_left d bus ms left next f.0 in
              omega (arith, e, (nothing_sent d none f.1).1, some_messages d bus ms left next))
        ]

    -- ONE STEP of d
    -- the others stay
    others_stay : (d : ℕ) (m : Now) (counts : ℕ → ℕ) → ((c : ℕ) → (c ≡ d → ⊥) → counts c ≡ sent_by_now c)
        → ((c : ℕ) → (c ≡ d → ⊥) → m.walk c ≡ n.walk c) → ((c : ℕ) → (c ≡ d → ⊥) → m.got c ≡ n.got c)
        → ((r c : ℕ) → (c ≡ d → ⊥) → n.inside r ≡ Some c → m.inside r ≡ Some c) → ((c : ℕ) → (c ≡ d → ⊥) → n.due ≡ Some c → ⊥)
        → Stage m (counts d) d → (c : ℕ) → Stage m (counts c) c
    others_stay d m counts same walks gots insides dues own c =
        elim (eqb_tells c d) [
          | inl h ↦ subst (λ (i : ℕ). Stage m (counts i) i) (sym h.1) own
          | inr h ↦ subst (λ (k : ℕ). Stage m k c) (sym (same c h.1)) (elim (stage c) [
            | inl i ↦ inl (i.0, insides i.0 c h.1 i.1, subst (λ (w : WalkTree). Counts w (sent_by_now c)) (sym (walks c h.1)) i.2)
            | inr f ↦ inr (
              subst (λ (w : WalkTree). FirstCalls w) (sym (walks c h.1)) f.0,
              elim f.1 [ inl e ↦ inl (gots c h.1 ∙ e.0, e.1) | inr due ↦ absurd (dues c h.1 due) ],
            )
          ])
        ]

    none_due : n.due ≡ None → (d c : ℕ) → (c ≡ d → ⊥) → n.due ≡ Some c → ⊥
    none_due none d c ne due = (let g : None ≡ Some c = sym none ∙ due in cc)

    -- of a step that leaves the bytes that were read, and isn't a caller's message
    own_stage : (d : ℕ) (m : Now) (k : ℕ) (act : Act) (out : ActOutcome) → k ≡ sent_by_now d → n.due ≡ None → (next : IsNext b asks n d act)
        → ((bus : ℕ) (ms : List MessageView) (left : ℕ) → act ≡ Send (Call bus ms) left → ⊥)
        → ((note : Note) (rest : ActOutcome → WalkTree) → FirstCalls (Then act note rest) → FirstCalls (rest out))
        → m.walk d ≡ rest_of (current b asks n d) out → m.got d ≡ n.got d → Stage m k d
    own_stage d m k act out count none next no_call leads walk got =
        let f = stage_next d none (λ r is. not_inside d act next no_call r is) in
        let at = first_is (current b asks n d) act next in
        inr (
          subst (λ (w : WalkTree). FirstCalls w) (sym walk)
              (subst (λ (w : WalkTree). FirstCalls (rest_of w out)) (sym at.2)
              (leads at.0 at.1 (subst (λ (w : WalkTree). FirstCalls w) at.2 f.0))),
          inl (got ∙ f.1.0, count ∙ f.1.1),
        )

    -- of a message
    abbrev sent_now : ℕ → Job → ℕ → Bool → List ℕ → End → Entry → Now
    sent_now d job left reading bytes e x =
        with_due d (moved b asks n (sent b n d job left (first_note (current b asks n d)) reading bytes e (talk_of b n job left e)) d x
        (Sent e bytes))

    sent_others : (d : ℕ) (job : Job) (left : ℕ) (reading : Bool) (bytes : List ℕ) (e : End) (x : Entry) (counts : ℕ → ℕ)
        → ((c : ℕ) → (c ≡ d → ⊥) → counts c ≡ sent_by_now c)
        → n.due ≡ None → IsNext b asks n d (Send job left)
        → Stage (sent_now d job left reading bytes e x) (counts d) d → (c : ℕ) → Stage (sent_now d job left reading bytes e x) (counts c) c
    sent_others d job left reading bytes e x counts same none next own c =
        others_stay d (sent_now d job left reading bytes e x) counts same
        (λ i ne. at_other n.walk d (rest_of (current b asks n d) (Sent e bytes)) i ne)
        (λ i ne. at_other n.got d (got_after job reading bytes (n.got d)) i ne)
        (λ r i ne is. at_other n.inside (root_of b (job_bus job))
        (inside_after job left (Sent e bytes) d (n.inside (root_of b (job_bus job)))) r
        (λ at. ne (alone b tree plain lines asks some callers past steps d i (lock.Bus (root_of b (job_bus job)))
        (sent_rooted b tree plain lines asks some callers past steps d job left next)
        (subst (λ (k : ℕ). InLocks (lock.Bus k) (n.held i)) at (inside r i is).locked))) ∙ is)
        (none_due none d) own c

    own_control : (d : ℕ) (job : Job) (left : ℕ) (reading : Bool) (bytes : List ℕ) (e : End) (x : Entry) (k : ℕ)
        → (is_call (job_purpose job) ≡ false → k ≡ sent_by_now d)
        → n.due ≡ None → IsNext b asks n d (Send job left)
        → ((bus : ℕ) (ms : List MessageView) → job ≡ Call bus ms → Stage (sent_now d job left reading bytes e x) k d)
        → Stage (sent_now d job left reading bytes e x) k d
    own_control d (Call bus ms) left reading bytes e x k count none next own = own bus ms refl
    own_control d (Select h) left reading bytes e x k count none next own =
        own_stage d (sent_now d (Select h) left reading bytes e x) k (Send (Select h) left) (Sent e bytes) (count refl) none next
        (λ bus ms i f. let g : Send (Select h) left ≡ Send (Call bus ms) i = f in cc) (λ note rest f. f e bytes)
        (at_same n.walk d (rest_of (current b asks n d) (Sent e bytes))) (at_same n.got d (n.got d))
    own_control d (SwitchOff off) left reading bytes e x k count none next own =
        own_stage d (sent_now d (SwitchOff off) left reading bytes e x) k (Send (SwitchOff off) left) (Sent e bytes) (count refl) none next
        (λ bus ms i f. let g : Send (SwitchOff off) left ≡ Send (Call bus ms) i = f in cc) (λ note rest f. f e bytes)
        (at_same n.walk d (rest_of (current b asks n d) (Sent e bytes))) (at_same n.got d (n.got d))

    -- after a message of the caller's all that follow are left
    rest_counts : (d bus : ℕ) (ms : List MessageView) (left : ℕ) (e : End) (bytes : List ℕ) (k : ℕ) → k ≡ suc (sent_by_now d) → n.due ≡ None
        → IsNext b asks n d (Send (Call bus ms) left)
        → Counts (rest_of (current b asks n d) (Sent e bytes)) k
    rest_counts d bus ms zero e bytes k count none next s2 ms2 left2 first =
        absurd (let f : Some (Settle (verdict_of (Call bus ms) zero (Sent e bytes))) ≡ Some (Send (Call s2 ms2) left2) =
        sym (call_goes b tree plain lines asks some callers past steps d bus ms zero e bytes next) ∙ first in cc)
    rest_counts d bus ms (suc l) e bytes k count none next s2 ms2 left2 first =
        by (is_on (goes (Call bus ms) l (Sent e bytes)))
        (sym (call_goes b tree plain lines asks some callers past steps d bus ms (suc l) e bytes next) ∙ first)
      where
        by : (t : Bool) → Some (cond t (Send (Call bus ms) l) (Settle (verdict_of (Call bus ms) (suc l) (Sent e bytes)))) ≡ Some
            (Send (Call s2 ms2) left2) → k + suc left2 ≡ length ms2
        by false f = absurd (let g : Some (Settle (verdict_of (Call bus ms) (suc l) (Sent e bytes))) ≡ Some (Send (Call s2 ms2) left2) =
            f in cc)
        by true f =
            let g : Send (Call bus ms) l ≡ Send (Call s2 ms2) left2 = same_Some (Send (Call bus ms) l) (Send (Call s2 ms2) left2) f in
            let same : ms ≡ ms2 = cc in
            let as_many : l ≡ left2 = cc in
            let many : length ms ≡ length ms2 = ap (λ (xs : List MessageView). length xs) same in
            let all : sent_by_now d + suc (suc l) ≡ length ms = call_count d bus ms (suc l) none next in
            omega (arith, count, as_many, many, all)

    step_stage : (x : Entry) → May b callers asks n x → (c : ℕ) → Stage (step b asks n x) (calls_behind (x ∷ past) c) c
    step_stage (entry.Take d l) may =
        others_stay d (step b asks n (entry.Take d l)) sent_by_now (λ c ne. refl)
        (λ i ne. at_other n.walk d (rest_of (current b asks n d) Passed) i ne) (λ i ne. refl) (λ r i ne is. is) (none_due may.1 d)
        (own_stage d (step b asks n (entry.Take d l)) (sent_by_now d) (Take l) Passed refl may.1 may.2
        (λ bus ms left f. let g : Take l ≡ Send (Call bus ms) left = f in cc) (λ note rest f. f)
        (at_same n.walk d (rest_of (current b asks n d) Passed)) refl)
    step_stage (entry.Free d l) may =
        others_stay d (step b asks n (entry.Free d l)) sent_by_now (λ c ne. refl)
        (λ i ne. at_other n.walk d (rest_of (current b asks n d) Passed) i ne) (λ i ne. refl) (λ r i ne is. is) (none_due may.1 d)
        (own_stage d (step b asks n (entry.Free d l)) (sent_by_now d) (Free l) Passed refl may.1 may.2
        (λ bus ms left f. let g : Free l ≡ Send (Call bus ms) left = f in cc) (λ note rest f. f)
        (at_same n.walk d (rest_of (current b asks n d) Passed)) refl)
    step_stage (entry.Settle d r cut) may =
        let s = rest_settles b asks some callers past steps d (Settle may.2) may.3 in
        others_stay d (step b asks n (entry.Settle d r cut)) (λ c. cond (eqb d c) 0 (sent_by_now c))
        (λ c ne. count_settle d c (sent_by_now c) ne)
        (λ i ne. at_other n.walk d (rest_of (current b asks n d) Passed) i ne) (λ i ne. at_other n.got d [] i ne) (λ k i ne is. is)
        (λ i ne due. elim may.1 [
          | inl none ↦ (let f : None ≡ Some i = sym none ∙ due in cc)
          | inr mine ↦ ne (same_Some i d (sym due ∙ mine))
        ])
        (inr (
          subst (λ (w : WalkTree). FirstCalls w)
              (sym (at_same n.walk d (rest_of (current b asks n d) Passed) ∙ ap (λ (w : WalkTree). rest_of w Passed) s.2))
              (settled-first (s.1 Passed) s.3.2),
          inl (at_same n.got d [], ap (λ (t : Bool). cond t 0 (sent_by_now d)) (eq-eqb d d refl)),
        ))
    step_stage (entry.Line d mux level failed) may =
        subst (λ (o : Option Act). (c : ℕ)
        → Stage (with_due d (moved b asks n (lined_by b n o (first_note (current b asks n d)) failed) d (entry.Line d mux level failed)
        (Lined failed))) (sent_by_now c) c) (sym may.2.1)
        (others_stay d (with_due d (moved b asks n (lined_by b n (Some (Shift may.2.0)) (first_note (current b asks n d)) failed) d
        (entry.Line d mux level failed) (Lined failed))) sent_by_now (λ c ne. refl)
        (λ i ne. at_other n.walk d (rest_of (current b asks n d) (Lined failed)) i ne) (λ i ne. refl) (λ r i ne is. is) (none_due may.1 d)
        (own_stage d (with_due d (moved b asks n (lined_by b n (Some (Shift may.2.0)) (first_note (current b asks n d)) failed) d
        (entry.Line d mux level failed) (Lined failed))) (sent_by_now d)
        (Shift may.2.0) (Lined failed) refl may.1 may.2.1 (λ bus ms left f. let g : Shift may.2.0 ≡ Send (Call bus ms) left = f in cc)
        (λ note rest f. f failed)
        (at_same n.walk d (rest_of (current b asks n d) (Lined failed))) refl))
    step_stage (entry.Message d bus purpose part parts addr reading bytes heard e) may =
        subst (λ (o : Option Act). (c : ℕ)
        → Stage (with_due d (moved b asks n (sent_by b n d o (first_note (current b asks n d)) reading bytes e) d
        (entry.Message d bus purpose part parts addr reading bytes heard e) (Sent e bytes))) (counts c) c) (sym may.2.2)
        (sent_others d may.2.0 may.2.1 reading bytes e (entry.Message d bus purpose part parts addr reading bytes heard e) counts
        (λ c ne. count_other d c (sent_by_now c) (is_call purpose) ne) may.1 may.2.2
        (own_control d may.2.0 may.2.1 reading bytes e (entry.Message d bus purpose part parts addr reading bytes heard e) (counts d)
        (λ no_call. count_control d (sent_by_now d) (is_call purpose) (ap is_call may.2.3.for_purpose ∙ no_call)) may.1 may.2.2
        (λ s ms job_is. (
        let call : is_call purpose ≡ true = ap is_call may.2.3.for_purpose ∙ ap (λ (j : Job). is_call (job_purpose j)) job_is in
        own_call s ms job_is call (entry_between b tree plain lines asks some callers past steps d bus purpose part parts addr reading bytes
        heard e may call)))))
      where
        counts : ℕ → ℕ
        counts c = cond (eqb d c && is_call purpose) (suc (sent_by_now c)) (sent_by_now c)

        rest_first : (t : Bool) → is_due (first_act (changed_at n.walk d (rest_of (current b asks n d) (Sent e bytes)) d)) ≡ t
            → cond t (Some d) None ≡ Some d
            → FirstCalls (changed_at n.walk d (rest_of (current b asks n d) (Sent e bytes)) d)
        rest_first false due same = absurd (let f : None ≡ Some d = same in cc)
        rest_first true due same =
            let v = due_settles (first_act (changed_at n.walk d (rest_of (current b asks n d) (Sent e bytes)) d)) due in
            let s = rest_settles b asks some callers past steps d (Send may.2.0 may.2.1) may.2.2 in
            settle_first (changed_at n.walk d (rest_of (current b asks n d) (Sent e bytes)) d) (asked d).done v.0
            (subst (λ (w : WalkTree). Settles (asked d).done w)
            (sym (at_same n.walk d (rest_of (current b asks n d) (Sent e bytes)) ∙ ap (λ (w : WalkTree). rest_of w (Sent e bytes)) s.2))
            (s.3.1 e bytes).1) v.1

        own_call : (s : ℕ) (ms : List MessageView) → may.2.0 ≡ Call s ms → is_call purpose ≡ true
            → Between (step b asks n (entry.Message d bus purpose part parts addr reading bytes heard e)) d (root_of b bus)
            → Stage (sent_now d may.2.0 may.2.1 reading bytes e (entry.Message d bus purpose part parts addr reading bytes heard e))
            (counts d) d
        own_call s ms job_is call between =
            let known : Between (sent_now d may.2.0 may.2.1 reading bytes e
            (entry.Message d bus purpose part parts addr reading bytes heard e)) d (root_of b bus) =
            subst (λ (o : Option Act). Between
            (with_due d (moved b asks n (sent_by b n d o (first_note (current b asks n d)) reading bytes e) d
            (entry.Message d bus purpose part parts addr reading bytes heard e) (Sent e bytes))) d (root_of b bus))
            may.2.2 between in
            elim known [
              | inl is ↦ inl (
                root_of b bus,
                is,
                subst (λ (w : WalkTree). Counts w (counts d)) (sym (at_same n.walk d (rest_of (current b asks n d) (Sent e bytes))))
                    (rest_counts d s ms may.2.1 e bytes (counts d) (count_call d (sent_by_now d) (is_call purpose) call) may.1
                    (subst (λ (j : Job). IsNext b asks n d (Send j may.2.1)) job_is may.2.2)),
              )
              | inr due ↦ inr (
                rest_first (is_due (first_act (changed_at n.walk d (rest_of (current b asks n d) (Sent e bytes)) d))) refl
                    due,
                inr due,
              )
            ]

-- THE INDUCTION
pub past-stage : (b : BoardView) → IsTree b → IsPlainBoard b → LinesAreLocked b → (asks : Asks) → AsksForMessages asks
    → (callers : ℕ) (past : List Entry) → IsStepwise b callers asks past
    → (c : ℕ) → Stage (now b asks past) (calls_behind past c) c
past-stage b tree plain lines asks some callers [] steps = λ c. inr (tt, inl (refl, refl))
past-stage b tree plain lines asks some callers (e ∷ past) steps =
    step_stage b tree plain lines asks some callers past steps.1 (past-stage b tree plain lines asks some callers past steps.1) e steps.0
