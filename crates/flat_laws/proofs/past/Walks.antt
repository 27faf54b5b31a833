-- The entries of each caller, in order, are its transfers' walks one after the other. The inductions go over the steps
-- of a walk, and over the entries.
use Rattle.flat_laws.proofs.Cited.{◌≡◌, ℕ, Bool, true, false, cond, List, [], ◌∷◌, ◌++◌, Option, Some, None, refl, sym, ◌∙◌, ap, subst, ◌⊎◌}
use Rattle.flat_laws.proofs.Cited.{inl, inr, append_assoc, append-nil, eq-eqb, ne_eqb, eqb_tells, Entry, Reply, BoardView, TransferView}
use Rattle.flat_laws.proofs.Cited.{Asks, changed_at, Act, Take, Free, Send, Shift, Settle, ActOutcome, Passed, Sent, Lined, Note, WalkTree}
use Rattle.flat_laws.proofs.Cited.{Ends, Look, Then, walk_for, seen, is_over, first_act, first_note, rest_of, caller_of, Now, begun}
use Rattle.flat_laws.proofs.Cited.{current, step, now, is_due, sent_by, lined_by, with_due, moved, Tells, May, IsStepwise, outcome_of, Deed}
use Rattle.flat_laws.proofs.Cited.{Step, deed_next, step_next, replies_in, steps_in, Leads, AreWalks, none, whole, front, AreAllWalks}
use Rattle.flat_laws.proofs.Cited.{AsksForMessages, NoSettle, Settles, at_same, at_other, first_is, no_settle, past-due}
use Rattle.i2c_base.specs.declared.entry.Entry.TheVariants as entry
use Rattle.bus_spec.specs.Stepwise.{TellsNext}
use Rattle.bus_laws.proofs.walk.SettleLaw.{walk-settles}
use Rattle.bus_laws.proofs.past.Asked.{settles_seen}

-- no entry is a step of a walk that has ended
pub tells_none : (b : BoardView) (n : Now) (e : Entry) → Tells b n Ends e → ⊥
tells_none b n (entry.Take c l) tells = (let f : None ≡ Some (Take l) = tells in cc)
tells_none b n (entry.Free c l) tells = (let f : None ≡ Some (Free l) = tells in cc)
tells_none b n (entry.Message c bus purpose part parts addr reading bytes heard e) tells =
    (let f : None ≡ Some (Send tells.0 tells.1) = tells.2 in cc)
tells_none b n (entry.Line c mux level failed) tells = (let f : None ≡ Some (Shift tells.0) = tells.1 in cc)
tells_none b n (entry.Settle c r cut) tells = (let f : None ≡ Some (Settle tells.0) = tells.1 in cc)

-- one step more at the end of a walk's steps
leads_more : (b : BoardView) (w u : WalkTree) (steps : List Step) (before : Now) (e : Entry) → Leads b w steps u
    → Tells b before (seen before.slot u) e
    → Leads b w (steps ++ step_next before (seen before.slot u) e ∷ [])
    (rest_of (seen before.slot u) (outcome_of e))
leads_more b w u [] before e leads tells =
    subst (λ (x : WalkTree). Leads b x (step_next before (seen before.slot u) e ∷ [])
    (rest_of (seen before.slot u) (outcome_of e))) leads
    (tells, refl, refl)
leads_more b w u (s ∷ steps) before e leads tells =
    (leads.0, leads_more b (rest_of (seen s.before.slot w) (outcome_of s.entry)) u steps before e leads.1 tells, leads.2)

-- the reply that an entry settles
abbrev pub reply_at : Entry → List Reply
reply_at (entry.Take c l) = []
reply_at (entry.Free c l) = []
reply_at (entry.Message c bus purpose part parts addr reading bytes heard e) = []
reply_at (entry.Line c mux level failed) = []
reply_at (entry.Settle c r cut) = r ∷ []

pub replies_first : (before : Now) (deed : Deed) (e : Entry) (steps : List Step)
    → replies_in (record { before = before; deed = deed; entry = e } ∷ steps) ≡ reply_at e ++ replies_in steps
replies_first before deed (entry.Take c l) steps = refl
replies_first before deed (entry.Free c l) steps = refl
replies_first before deed (entry.Message c bus purpose part parts addr reading bytes heard e) steps = refl
replies_first before deed (entry.Line c mux level failed) steps = refl
replies_first before deed (entry.Settle c r cut) steps = refl

pub replies_more : (steps : List Step) (before : Now) (deed : Deed) (e : Entry)
    → replies_in (steps ++ record { before = before; deed = deed; entry = e } ∷ []) ≡ replies_in steps ++ reply_at e
replies_more [] before deed e = replies_first before deed e [] ∙ append-nil (reply_at e)
replies_more (s ∷ steps) before deed e =
    replies_first s.before s.deed s.entry (steps ++ record { before = before; deed = deed; entry = e } ∷ [])
    ∙ ap (λ (rs : List Reply). reply_at s.entry ++ rs) (replies_more steps before deed e)
    ∙ sym (append_assoc (reply_at s.entry) (replies_in steps) (reply_at e))
    ∙ ap (λ (rs : List Reply). rs ++ reply_at e) (sym (replies_first s.before s.deed s.entry steps))

-- what a walk has settled so far
abbrev SettledSo : WalkTree → List Reply → Type 0
SettledSo w rs = ((rs ≡ []) × Settles false w) ⊎ ((r : Reply) × (rs ≡ r ∷ []) × Settles true w)

module _ (b : BoardView) (asks : Asks) (c : ℕ) where
  -- the walk under way: its transfer was asked for after these replies, and these steps have led to what is left
  record UnderWay (rs : List Reply) (mine : List Step) (w : WalkTree) (settled : List Reply) : Type 0 where
    pub whose : TransferView
    pub asked : asks c rs ≡ Some whose
    pub led : Leads b (walk_for b whose) mine w
    pub so_far : SettledSo w (replies_in mine)
    pub told : settled ≡ rs ++ replies_in mine

  -- the steps of a caller: whole walks, and those of the walk under way
  record Walked (steps : List Step) (w : WalkTree) (settled : List Reply) : Type 0 where
    pub rs : List Reply
    pub before : List Step
    pub mine : List Step
    pub parts : steps ≡ before ++ mine
    pub wholes : (rest : List Step) → AreWalks b (asks c) rs rest → AreWalks b (asks c) [] (before ++ rest)
    pub under_way : ((mine ≡ []) × (w ≡ Ends) × (settled ≡ rs)) ⊎ UnderWay rs mine w settled

  -- a walk that has ended is a whole one
  ended : (rs : List Reply) (mine : List Step) (settled : List Reply) → UnderWay rs mine Ends settled
      → (r : Reply) × (settled ≡ rs ++ r ∷ [])
      × ((rest : List Step) → AreWalks b (asks c) (rs ++ r ∷ []) rest → AreWalks b (asks c) rs (mine ++ rest))
  ended rs mine settled way =
      elim way.so_far [
        | inl open_still ↦ absurd (let f : false ≡ true = open_still.1 in cc)
        | inr done ↦ (
          done.0,
          way.told ∙ ap (λ (xs : List Reply). rs ++ xs) done.1,
          λ rest more. whole rs way.whose mine rest (mine ++ rest) done.0 way.asked way.led done.1 more refl,
        )
      ]

  -- one step more of a walk under way
  one_more : (rs : List Reply) (mine : List Step) (w : WalkTree) (settled : List Reply) (at : Now) (e : Entry) → UnderWay rs mine w settled
      → Tells b at (seen at.slot w) e
      → UnderWay rs (mine ++ step_next at (seen at.slot w) e ∷ []) (rest_of (seen at.slot w) (outcome_of e)) (settled ++ reply_at e)
  one_more rs mine w settled at e way tells =
      record {
        whose = way.whose;
        asked = way.asked;
        led = leads_more b (walk_for b way.whose) w mine at e way.led tells;
        so_far = subst (λ (xs : List Reply). SettledSo (rest_of (seen at.slot w) (outcome_of e)) xs)
            (sym (replies_more mine at (deed_next (seen at.slot w)) e))
            (settles_more e tells way.so_far);
        told = ap (λ (xs : List Reply). xs ++ reply_at e) way.told ∙ append_assoc rs (replies_in mine) (reply_at e)
            ∙ ap (λ (xs : List Reply). rs ++ xs) (sym (replies_more mine at (deed_next (seen at.slot w)) e));
      }
    where
      behind : (act : Act) (done : Bool) → first_act (seen at.slot w) ≡ Some act → Settles done w
          → (note : Note) × (next : ActOutcome → WalkTree) × (seen at.slot w ≡ Then act note next) × Settles done (Then act note next)
      behind act done first settles =
          let is = first_is (seen at.slot w) act first in
          (is.0, is.1, is.2, subst (λ (x : WalkTree). Settles done x) is.2 (settles_seen at.slot done w settles))

      onto : (x y : WalkTree) (done : Bool) (out : ActOutcome) → x ≡ y → Settles done (rest_of y out) → Settles done (rest_of x out)
      onto x y done out e h = subst (λ (z : WalkTree). Settles done (rest_of z out)) (sym e) h

      plain_more : (e : Entry) (xs : List Reply) → reply_at e ≡ []
          → ((done : Bool) → Settles done w → Settles done (rest_of (seen at.slot w) (outcome_of e)))
          → SettledSo w xs → SettledSo (rest_of (seen at.slot w) (outcome_of e)) (xs ++ reply_at e)
      plain_more e xs no_reply goes so =
          let same : xs ++ reply_at e ≡ xs = ap (λ (ys : List Reply). xs ++ ys) no_reply ∙ append-nil xs in
          elim so [
            | inl still ↦ inl (same ∙ still.0, goes false still.1)
            | inr done ↦ inr (done.0, same ∙ done.1, goes true done.2)
          ]

      settles_more : (e : Entry) → Tells b at (seen at.slot w) e → SettledSo w (replies_in mine)
          → SettledSo (rest_of (seen at.slot w) (outcome_of e)) (replies_in mine ++ reply_at e)
      settles_more (entry.Take d l) tells so =
          plain_more (entry.Take d l) (replies_in mine) refl
          (λ done h. let r = behind (Take l) done tells h in onto (seen at.slot w) (Then (Take l) r.0 r.1) done Passed r.2 r.3.1) so
      settles_more (entry.Free d l) tells so =
          plain_more (entry.Free d l) (replies_in mine) refl
          (λ done h. let r = behind (Free l) done tells h in onto (seen at.slot w) (Then (Free l) r.0 r.1) done Passed r.2 r.3.1) so
      settles_more (entry.Message d bus purpose part parts addr reading bytes heard e) tells so =
          plain_more (entry.Message d bus purpose part parts addr reading bytes heard e) (replies_in mine) refl
          (λ done h. let r = behind (Send tells.0 tells.1) done tells.2 h in
          onto (seen at.slot w) (Then (Send tells.0 tells.1) r.0 r.1) done (Sent e bytes) r.2 (r.3.1 e bytes).1) so
      settles_more (entry.Line d mux level failed) tells so =
          plain_more (entry.Line d mux level failed) (replies_in mine) refl
          (λ done h. let r = behind (Shift tells.0) done tells.1 h in
          onto (seen at.slot w) (Then (Shift tells.0) r.0 r.1) done (Lined failed) r.2 (r.3 failed).1) so
      settles_more (entry.Settle d x cut) tells so =
          elim so [
            | inl still ↦ (let r = behind (Settle tells.0) false tells.1 still.1 in
                inr (
                  x,
                  ap (λ (xs : List Reply). xs ++ x ∷ []) still.0,
                  onto (seen at.slot w)
                      (Then (Settle tells.0) r.0 r.1) true Passed r.2 r.3.2,
                ))
            | inr done ↦ (let r = behind (Settle tells.0) true tells.1 done.2 in
                absurd (let f : true ≡ false = r.3.0 in cc))
          ]

  -- a transfer that begins
  begins : (rs : List Reply) (t : TransferView) → asks c rs ≡ Some t → UnderWay rs [] (walk_for b t) rs
  begins rs t e = record { whose = t; asked = e; led = refl; so_far = inl (refl, walk-settles b t); told = sym (append-nil rs) }

  -- one step more of a caller
  walked_more : (steps : List Step) (w : WalkTree) (settled : List Reply) (at : Now) (e : Entry) → Walked steps w settled
      → Tells b at (seen at.slot (cond (is_over w) (begun b (asks c settled)) w)) e
      → Walked (steps ++ step_next at (seen at.slot (cond (is_over w) (begun b (asks c settled)) w)) e ∷ [])
      (rest_of (seen at.slot (cond (is_over w) (begun b (asks c settled)) w)) (outcome_of e)) (settled ++ reply_at e)
  walked_more steps w settled at e walked tells =
      by_way walked.under_way
    where
      -- the walk goes on
      goes_on : (rs : List Reply) (before mine : List Step) (u : WalkTree) → steps ≡ before ++ mine
          → ((rest : List Step) → AreWalks b (asks c) rs rest → AreWalks b (asks c) [] (before ++ rest)) → UnderWay rs mine u settled
          → Tells b at (seen at.slot u) e
          → Walked (steps ++ step_next at (seen at.slot u) e ∷ []) (rest_of (seen at.slot u) (outcome_of e)) (settled ++ reply_at e)
      goes_on rs before mine u parts wholes way tells =
          record {
            rs = rs;
            before = before;
            mine = mine ++ step_next at (seen at.slot u) e ∷ [];
            parts = ap (λ (xs : List Step). xs ++ step_next at (seen at.slot u) e ∷ []) parts
                ∙ append_assoc before mine (step_next at (seen at.slot u) e ∷ []);
            wholes = wholes;
            under_way = inr (one_more rs mine u settled at e way tells);
          }

      -- the next one begins, after whole walks
      starts : (o : Option TransferView) → asks c settled ≡ o
          → ((rest : List Step) → AreWalks b (asks c) settled rest → AreWalks b (asks c) [] (steps ++ rest))
          → Tells b at (seen at.slot (begun b o)) e
          → Walked (steps ++ step_next at (seen at.slot (begun b o)) e ∷ []) (rest_of (seen at.slot (begun b o)) (outcome_of e))
          (settled ++ reply_at e)
      starts None asked wholes tells = absurd (tells_none b at e tells)
      starts (Some t) asked wholes tells = goes_on settled steps [] (walk_for b t) (sym (append-nil steps)) wholes
          (begins settled t asked) tells

      over : w ≡ Ends → ((rest : List Step) → AreWalks b (asks c) settled rest → AreWalks b (asks c) [] (steps ++ rest))
          → Walked (steps ++ step_next at (seen at.slot (cond (is_over w) (begun b (asks c settled)) w)) e ∷ [])
          (rest_of (seen at.slot (cond (is_over w) (begun b (asks c settled)) w)) (outcome_of e)) (settled ++ reply_at e)
      over is wholes =
          subst (λ (t : Bool). Walked (steps ++ step_next at (seen at.slot (cond t (begun b (asks c settled)) w)) e ∷ [])
          (rest_of (seen at.slot (cond t (begun b (asks c settled)) w)) (outcome_of e)) (settled ++ reply_at e))
          (sym (ap is_over is))
          (starts (asks c settled) refl wholes
          (subst (λ (t : Bool). Tells b at (seen at.slot (cond t (begun b (asks c settled)) w)) e) (ap is_over is) tells))

      under : UnderWay walked.rs walked.mine w settled
          → Walked (steps ++ step_next at (seen at.slot (cond (is_over w) (begun b (asks c settled)) w)) e ∷ [])
          (rest_of (seen at.slot (cond (is_over w) (begun b (asks c settled)) w)) (outcome_of e)) (settled ++ reply_at e)
      under way = by_walk w refl
        where
          by_walk : (u : WalkTree) → u ≡ w
              → Walked (steps ++ step_next at (seen at.slot (cond (is_over w) (begun b (asks c settled)) w)) e ∷ [])
              (rest_of (seen at.slot (cond (is_over w) (begun b (asks c settled)) w)) (outcome_of e)) (settled ++ reply_at e)
          by_walk Ends is =
              let done = ended walked.rs walked.mine settled
              (subst (λ (x : WalkTree). UnderWay walked.rs walked.mine x settled) (sym is) way) in
              over (sym is) (λ rest more.
              subst (λ (xs : List Step). AreWalks b (asks c) [] xs)
              (sym (ap (λ (xs : List Step). xs ++ rest) walked.parts ∙ append_assoc walked.before walked.mine rest))
              (walked.wholes (walked.mine ++ rest) (done.2 rest (subst (λ (rs : List Reply). AreWalks b (asks c) rs rest) done.1 more))))
          by_walk (Look ask next) is = not_over (sym (ap is_over is))
            where
              not_over : is_over w ≡ false
                  → Walked (steps ++ step_next at (seen at.slot (cond (is_over w) (begun b (asks c settled)) w)) e ∷ [])
                  (rest_of (seen at.slot (cond (is_over w) (begun b (asks c settled)) w)) (outcome_of e)) (settled ++ reply_at e)
              not_over off =
                  subst (λ (t : Bool). Walked (steps ++ step_next at (seen at.slot (cond t (begun b (asks c settled)) w)) e ∷ [])
                  (rest_of (seen at.slot (cond t (begun b (asks c settled)) w)) (outcome_of e)) (settled ++ reply_at e)) (sym off)
                  (goes_on walked.rs walked.before walked.mine w walked.parts walked.wholes way
                  (subst (λ (t : Bool). Tells b at (seen at.slot (cond t (begun b (asks c settled)) w)) e) off tells))
          by_walk (Then a note next) is =
              subst (λ (t : Bool). Walked (steps ++ step_next at (seen at.slot (cond t (begun b (asks c settled)) w)) e ∷ [])
              (rest_of (seen at.slot (cond t (begun b (asks c settled)) w)) (outcome_of e)) (settled ++ reply_at e)) (ap is_over is)
              (goes_on walked.rs walked.before walked.mine w walked.parts walked.wholes way
              (subst (λ (t : Bool). Tells b at (seen at.slot (cond t (begun b (asks c settled)) w)) e) (sym (ap is_over is)) tells))

      by_way : ((walked.mine ≡ []) × (w ≡ Ends) × (settled ≡ walked.rs)) ⊎ UnderWay walked.rs walked.mine w settled
          → Walked (steps ++ step_next at (seen at.slot (cond (is_over w) (begun b (asks c settled)) w)) e ∷ [])
          (rest_of (seen at.slot (cond (is_over w) (begun b (asks c settled)) w)) (outcome_of e)) (settled ++ reply_at e)
      by_way way =
          elim way [
            | inl idle ↦ over idle.1 (λ rest more.
                subst (λ (xs : List Step). AreWalks b (asks c) [] (xs ++ rest))
                (sym (walked.parts ∙ ap (λ (xs : List Step). walked.before ++ xs) idle.0 ∙ append-nil walked.before))
                (walked.wholes rest (subst (λ (rs : List Reply). AreWalks b (asks c) rs rest) idle.2 more)))
            | inr under_way ↦ under under_way
          ]

-- THE INDUCTION
module _ (b : BoardView) (asks : Asks) (callers : ℕ) (c : ℕ) where
  abbrev AreWalked : Now → List Step → Type 0
  AreWalked n steps = Walked b asks c steps (n.walk c) (n.settled c)

  -- an entry of the caller's, and one of another's
  module _ (past : List Entry) (walked : AreWalked (now b asks past) (steps_in b asks c past)) where
    abbrev n : Now
    n = now b asks past

    own_step : (e : Entry) (walk2 : ℕ → WalkTree) (settled2 : ℕ → List Reply) → caller_of e ≡ c → Tells b n (current b asks n c) e
        → walk2 c ≡ rest_of (current b asks n c) (outcome_of e) → settled2 c ≡ n.settled c ++ reply_at e
        → Walked b asks c (steps_in b asks c (e ∷ past)) (walk2 c) (settled2 c)
    own_step e walk2 settled2 mine tells walk settled =
        subst (λ (t : Bool). Walked b asks c
        (cond t (steps_in b asks c past ++ step_next n (current b asks n c) e ∷ []) (steps_in b asks c past)) (walk2 c) (settled2 c))
        (sym (eq-eqb (caller_of e) c mine))
        (subst (λ (w : WalkTree). Walked b asks c (steps_in b asks c past ++ step_next n (current b asks n c) e ∷ []) w (settled2 c))
        (sym walk)
        (subst (λ (rs : List Reply). Walked b asks c (steps_in b asks c past ++ step_next n (current b asks n c) e ∷ [])
        (rest_of (current b asks n c) (outcome_of e)) rs) (sym settled)
        (walked_more b asks c (steps_in b asks c past) (n.walk c) (n.settled c) n e walked tells)))

    other_step : (e : Entry) (walk2 : ℕ → WalkTree) (settled2 : ℕ → List Reply) → (caller_of e ≡ c → ⊥) → walk2 c ≡ n.walk c
        → settled2 c ≡ n.settled c
        → Walked b asks c (steps_in b asks c (e ∷ past)) (walk2 c) (settled2 c)
    other_step e walk2 settled2 theirs walk settled =
        subst (λ (t : Bool). Walked b asks c
        (cond t (steps_in b asks c past ++ step_next n (current b asks n c) e ∷ []) (steps_in b asks c past)) (walk2 c) (settled2 c))
        (sym (ne_eqb (caller_of e) c theirs))
        (subst (λ (w : WalkTree). Walked b asks c (steps_in b asks c past) w (settled2 c)) (sym walk)
        (subst (λ (rs : List Reply). Walked b asks c (steps_in b asks c past) (n.walk c) rs) (sym settled) walked))

    -- one more entry, of caller d, whose next step it does
    turn : (e : Entry) (settled2 : ℕ → List Reply) → TellsNext b asks n e
        → (settled2 (caller_of e) ≡ n.settled (caller_of e) ++ reply_at e) → ((i : ℕ) → (i ≡ caller_of e → ⊥) → settled2 i ≡ n.settled i)
        → Walked b asks c (steps_in b asks c (e ∷ past))
        (changed_at n.walk (caller_of e) (rest_of (current b asks n (caller_of e)) (outcome_of e)) c) (settled2 c)
    turn e settled2 tells own others =
        elim (eqb_tells (caller_of e) c) [
          | inl h ↦ own_step e (changed_at n.walk (caller_of e) (rest_of (current b asks n (caller_of e)) (outcome_of e))) settled2 h.1
              (subst (λ (i : ℕ). Tells b n (current b asks n i) e) h.1 tells)
              (subst (λ (i : ℕ). changed_at n.walk i (rest_of (current b asks n i) (outcome_of e)) c ≡ rest_of (current b asks n c)
              (outcome_of e)) (sym h.1)
              (at_same n.walk c (rest_of (current b asks n c) (outcome_of e))))
              (subst (λ (i : ℕ). settled2 i ≡ n.settled i ++ reply_at e) h.1 own)
          | inr h ↦ other_step e (changed_at n.walk (caller_of e) (rest_of (current b asks n (caller_of e)) (outcome_of e))) settled2 h.1
              (at_other n.walk (caller_of e) (rest_of (current b asks n (caller_of e)) (outcome_of e)) c (λ f. h.1 (sym f)))
              (others c (λ f. h.1 (sym f)))
        ]

    step_walked : (e : Entry) → May b callers asks n e → AreWalked (step b asks n e) (steps_in b asks c (e ∷ past))
    step_walked (entry.Take d l) may = turn (entry.Take d l) n.settled may.2 (sym (append-nil (n.settled d))) (λ i ne. refl)
    step_walked (entry.Free d l) may = turn (entry.Free d l) n.settled may.2 (sym (append-nil (n.settled d))) (λ i ne. refl)
    step_walked (entry.Settle d r cut) may =
        turn (entry.Settle d r cut) (changed_at n.settled d (n.settled d ++ r ∷ [])) (may.2, may.3)
        (at_same n.settled d (n.settled d ++ r ∷ [])) (λ i ne. at_other n.settled d (n.settled d ++ r ∷ []) i ne)
    step_walked (entry.Line d mux level failed) may =
        subst (λ (o : Option Act). AreWalked
        (with_due d (moved b asks n (lined_by b n o (first_note (current b asks n d)) failed) d (entry.Line d mux level failed)
        (Lined failed))) (steps_in b asks c (entry.Line d mux level failed ∷ past))) (sym may.2.1)
        (turn (entry.Line d mux level failed) n.settled may.2 (sym (append-nil (n.settled d))) (λ i ne. refl))
    step_walked (entry.Message d bus purpose part parts addr reading bytes heard e) may =
        subst (λ (o : Option Act). AreWalked
        (with_due d (moved b asks n (sent_by b n d o (first_note (current b asks n d)) reading bytes e) d
        (entry.Message d bus purpose part parts addr reading bytes heard e) (Sent e bytes)))
        (steps_in b asks c (entry.Message d bus purpose part parts addr reading bytes heard e ∷ past))) (sym may.2.2)
        (turn (entry.Message d bus purpose part parts addr reading bytes heard e) n.settled may.2
        (sym (append-nil (n.settled d))) (λ i ne. refl))

  past-walked : (past : List Entry) → IsStepwise b callers asks past → AreWalked (now b asks past) (steps_in b asks c past)
  past-walked [] steps = record {
    rs = [];
    before = [];
    mine = [];
    parts = refl;
    wholes = λ rest more. more;
    under_way = inl (refl, refl, refl);
  }
  past-walked (e ∷ past) steps = step_walked past (past-walked past steps.1) e steps.0

  -- where no settle is due these are walks
  pub walks-of : AsksForMessages asks → (past : List Entry) → IsStepwise b callers asks past → (now b asks past).due ≡ None
      → AreWalks b (asks c) [] (steps_in b asks c past)
  walks-of some past steps none_due =
      subst (λ (xs : List Step). AreWalks b (asks c) [] xs) (sym walked.parts)
      (walked.wholes walked.mine (elim walked.under_way [
        | inl idle ↦ subst (λ (xs : List Step). AreWalks b (asks c) walked.rs xs) (sym idle.0) (none walked.rs)
        | inr way ↦ front walked.rs way.whose walked.mine ((now b asks past).walk c) way.asked way.led
            (quiet (first_act ((now b asks past).walk c)) refl)
      ]))
    where
      walked : AreWalked (now b asks past) (steps_in b asks c past)
      walked = past-walked past steps

      starts : NoSettle ((now b asks past).walk c)
      starts = elim (past-due b asks some callers past steps c)
          [ inl due ↦ absurd (let f : None ≡ Some c = sym none_due ∙ due in cc) | inr h ↦ h ]

      quiet : (o : Option Act) → first_act ((now b asks past).walk c) ≡ o → is_due o ≡ false
      quiet None e = refl
      quiet (Some (Take l)) e = refl
      quiet (Some (Free l)) e = refl
      quiet (Some (Send job left)) e = refl
      quiet (Some (Shift job)) e = refl
      quiet (Some (Settle verdict)) e = absurd (no_settle ((now b asks past).walk c) verdict starts e)

pub walks-kept : (b : BoardView) (asks : Asks) → AsksForMessages asks → (callers : ℕ) (past : List Entry) → IsStepwise b callers asks past
    → (now b asks past).due ≡ None → AreAllWalks b asks past
walks-kept b asks some callers past steps none_due = λ c. walks-of b asks callers c some past steps none_due
