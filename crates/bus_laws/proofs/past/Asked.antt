-- What each caller's walk is of, and whom its messages reach. The inductions go over the entries.
use Rattle.bus_laws.proofs.Cited.{◌≡◌, ℕ, Bool, true, false, cond, List, [], ◌∷◌, ◌++◌, Option, Some, None, eqb, refl, sym, ◌∙◌, ap, subst}
use Rattle.bus_laws.proofs.Cited.{inl, inr, eqb_tells, End, Entry, Purpose, Reply, BoardView, TransferView, root_of, IsTree, IsPlainBoard}
use Rattle.bus_laws.proofs.Cited.{World, Asks, changed_at, Mark, Job, Call, Select, SwitchOff, Act, Take, Free, Send, Shift, Settle}
use Rattle.bus_laws.proofs.Cited.{ActOutcome, Passed, Sent, Lined, Note, WalkTree, Ends, Look, Then, job_bus, job_purpose, Slots, answer_to}
use Rattle.bus_laws.proofs.Cited.{after_job, walk_for, seen, is_over, first_act, first_note, rest_of, MessageEntry, replies, Now, begun}
use Rattle.bus_laws.proofs.Cited.{current, opening, step, now, sent_by, lined_by, May, IsNext, IsStepwise, TellsMessage, by_purpose}
use Rattle.bus_laws.proofs.Cited.{IsGranted, CanSend, MaySend, Runs, LinesAreLocked, CallerStands, Stands, AsksForMessages, Settles}
use Rattle.bus_laws.proofs.Cited.{IsBefore, CallsOf, IsAsked}
use Rattle.i2c_base.specs.declared.entry.Entry.TheVariants as entry
use Rattle.bus_spec.specs.Readings.{OfMessage}
use Rattle.bus_spec.specs.Past.{world_at}
use Rattle.bus_spec.specs.Legal.{is_forced, ReachAt, Reaches}
use Rattle.bus_laws.specs.Reach.{HasItsPath, KeepsPathsOpen}
use Rattle.bus_laws.proofs.past.StandsFacts.{current-stands}
use Rattle.bus_laws.proofs.past.StandsStep.{at_same, at_other, send_known}
use Rattle.bus_laws.proofs.past.StandsEntries.{first_is}
use Rattle.bus_laws.proofs.past.Laws.{sent-leaves, lined-leaves, nobody, past-stands, open-kept}
use Rattle.bus_laws.proofs.walk.SettleLaw.{walk-settles}
use Rattle.bus_laws.proofs.walk.Calls.{walk-calls, calls_seen}
use Rattle.bus_laws.proofs.device.Reach.{send-reaches}

-- the looks in front of a walk change nothing
pub settles_seen : (slots : Slots) (done : Bool) (w : WalkTree) → Settles done w → Settles done (seen slots w)
settles_seen slots done Ends h = h
settles_seen slots done (Look ask next) h = settles_seen slots done (next (answer_to slots ask)) (h (answer_to slots ask))
settles_seen slots done (Then act note next) h = h

-- each caller's walk is of what it asks for
abbrev pub AllAsked : BoardView → Asks → (ℕ → WalkTree) → (ℕ → List Reply) → Type 0
AllAsked b asks walk settled = (c : ℕ) → IsAsked b asks c (walk c) (settled c)

module _ (b : BoardView) (asks : Asks) (some : AsksForMessages asks) (n : Now) (all : AllAsked b asks n.walk n.settled) (c : ℕ) where
  -- so is what a caller does next
  pub current-asked : IsAsked b asks c (current b asks n c) (n.settled c)
  current-asked = by (is_over (n.walk c))
    where
      begin : (o : Option TransferView) → asks c (n.settled c) ≡ o → IsAsked b asks c (seen n.slot (begun b o)) (n.settled c)
      begin None e = record {
        whose = (all c).whose;
        done = true;
        calls = tt;
        settles = refl;
        asked = λ f. absurd (let g : true ≡ false = f in cc);
      }
      begin (Some t) e =
          record {
            whose = t;
            done = false;
            calls = calls_seen b t n.slot (walk_for b t) (walk-calls b t (some c (n.settled c) t e));
            settles = settles_seen n.slot false (walk_for b t) (walk-settles b t);
            asked = λ f. e;
          }

      by : (x : Bool) → IsAsked b asks c (seen n.slot (cond x (begun b (asks c (n.settled c))) (n.walk c))) (n.settled c)
      by true = begin (asks c (n.settled c)) refl
      by false =
          record {
            whose = (all c).whose;
            done = (all c).done;
            calls = calls_seen b (all c).whose n.slot (n.walk c) (all c).calls;
            settles = settles_seen n.slot (all c).done (n.walk c) (all c).settles;
            asked = (all c).asked;
          }

  cur : IsAsked b asks c (current b asks n c) (n.settled c)
  cur = current-asked

  -- one caller turns, the others stay
  turned_asked : (w : WalkTree) (settled : ℕ → List Reply) → ((d : ℕ) → (d ≡ c → ⊥) → settled d ≡ n.settled d)
      → IsAsked b asks c w (settled c)
      → AllAsked b asks (changed_at n.walk c w) settled
  turned_asked w settled stay own d =
      elim (eqb_tells d c) [
        | inl h ↦ subst (λ (i : ℕ). IsAsked b asks i (changed_at n.walk c w i) (settled i)) (sym h.1)
            (subst (λ (x : WalkTree). IsAsked b asks c x (settled c)) (sym (at_same n.walk c w)) own)
        | inr h ↦ subst (λ (x : WalkTree). IsAsked b asks d x (settled d)) (sym (at_other n.walk c w d h.1))
            (subst (λ (rs : List Reply). IsAsked b asks d (n.walk d) rs) (sym (stay d h.1)) (all d))
      ]

  module _ (act : Act) (first : first_act (current b asks n c) ≡ Some act) where
    at : (note : Note) × (next : ActOutcome → WalkTree) × (current b asks n c ≡ Then act note next)
    at = first_is (current b asks n c) act first

    calls_at : CallsOf b cur.whose (Then act at.0 at.1)
    calls_at = subst (λ (w : WalkTree). CallsOf b cur.whose w) at.2 cur.calls

    settles_at : Settles cur.done (Then act at.0 at.1)
    settles_at = subst (λ (w : WalkTree). Settles cur.done w) at.2 cur.settles

    rest_is : (out : ActOutcome) → rest_of (current b asks n c) out ≡ at.1 out
    rest_is out = ap (λ (w : WalkTree). rest_of w out) at.2

    own_asked : (out : ActOutcome) → CallsOf b cur.whose (at.1 out) → Settles cur.done (at.1 out)
        → IsAsked b asks c (rest_of (current b asks n c) out) (n.settled c)
    own_asked out calls settles =
        subst (λ (w : WalkTree). IsAsked b asks c w (n.settled c)) (sym (rest_is out))
        (record { whose = cur.whose; done = cur.done; calls = calls; settles = settles; asked = cur.asked })

  abbrev turns_to : ActOutcome → Type 0
  turns_to out = AllAsked b asks (changed_at n.walk c (rest_of (current b asks n c) out)) n.settled

  take_asked : (l : _) → first_act (current b asks n c) ≡ Some (Take l) → turns_to Passed
  take_asked l first =
      turned_asked (rest_of (current b asks n c) Passed) n.settled (λ d ne. refl)
      (own_asked (Take l) first Passed ((calls_at (Take l) first) Passed) (settles_at (Take l) first).1)

  free_asked : (l : _) → first_act (current b asks n c) ≡ Some (Free l) → turns_to Passed
  free_asked l first =
      turned_asked (rest_of (current b asks n c) Passed) n.settled (λ d ne. refl)
      (own_asked (Free l) first Passed ((calls_at (Free l) first) Passed) (settles_at (Free l) first).1)

  sent_asked : (job : Job) (left : ℕ) (e : End) (bytes : List ℕ) → first_act (current b asks n c) ≡ Some (Send job left)
      → turns_to (Sent e bytes)
  sent_asked job left e bytes first =
      turned_asked (rest_of (current b asks n c) (Sent e bytes)) n.settled (λ d ne. refl)
      (own_asked (Send job left) first (Sent e bytes) ((calls_at (Send job left) first).2 (Sent e bytes))
      ((settles_at (Send job left) first).1 e bytes).1)

  lined_asked : (job : Job) (failed : Bool) → first_act (current b asks n c) ≡ Some (Shift job) → turns_to (Lined failed)
  lined_asked job failed first =
      turned_asked (rest_of (current b asks n c) (Lined failed)) n.settled (λ d ne. refl)
      (own_asked (Shift job) first (Lined failed) ((calls_at (Shift job) first).1 (Lined failed)) ((settles_at (Shift job) first) failed).1)

  settle_asked : (verdict : _) (r : Reply) → first_act (current b asks n c) ≡ Some (Settle verdict)
      → AllAsked b asks (changed_at n.walk c (rest_of (current b asks n c) Passed)) (changed_at n.settled c (n.settled c ++ r ∷ []))
  settle_asked verdict r first =
      turned_asked (rest_of (current b asks n c) Passed) (changed_at n.settled c (n.settled c ++ r ∷ []))
      (λ d ne. at_other n.settled c (n.settled c ++ r ∷ []) d ne)
      (subst (λ (w : WalkTree). IsAsked b asks c w (changed_at n.settled c (n.settled c ++ r ∷ []) c))
      (sym (rest_is (Settle verdict) first Passed))
      (record {
        whose = cur.whose;
        done = true;
        calls = (calls_at (Settle verdict) first) Passed;
        settles = (settles_at (Settle verdict) first).2;
        asked = λ f. absurd (let g : true ≡ false = f in cc);
      }))

-- one more entry
step_asked : (b : BoardView) (asks : Asks) → AsksForMessages asks → (callers : ℕ) (n : Now) → AllAsked b asks n.walk n.settled → (e : Entry)
    → May b callers asks n e
    → AllAsked b asks (step b asks n e).walk (step b asks n e).settled
step_asked b asks some callers n all (entry.Take c l) may = take_asked b asks some n all c l may.2
step_asked b asks some callers n all (entry.Free c l) may = free_asked b asks some n all c l may.2
step_asked b asks some callers n all (entry.Settle c r cut) may = settle_asked b asks some n all c may.2 r may.3
step_asked b asks some callers n all (entry.Line c mux level failed) may =
    subst (λ (o : Option Act). AllAsked b asks (changed_at n.walk c (rest_of (current b asks n c) (Lined failed)))
    (lined_by b n o (first_note (current b asks n c)) failed).settled) (sym may.2.1)
    (lined_asked b asks some n all c may.2.0 failed may.2.1)
step_asked b asks some callers n all (entry.Message c bus purpose part parts addr reading bytes heard e) may =
    subst (λ (o : Option Act). AllAsked b asks (changed_at n.walk c (rest_of (current b asks n c) (Sent e bytes)))
    (sent_by b n c o (first_note (current b asks n c)) reading bytes e).settled) (sym may.2.2)
    (sent_asked b asks some n all c may.2.0 may.2.1 e bytes may.2.2)

-- THE INDUCTION. Nobody is under way at the opening
opening-asked : (b : BoardView) (asks : Asks) → AllAsked b asks (opening b).walk (opening b).settled
opening-asked b asks c = record {
  whose = nobody;
  done = true;
  calls = tt;
  settles = refl;
  asked = λ f. absurd (let g : true ≡ false = f in cc);
}

pub past-asked : (b : BoardView) (asks : Asks) → AsksForMessages asks → (callers : ℕ) (past : List Entry) → IsStepwise b callers asks past
    → AllAsked b asks (now b asks past).walk (now b asks past).settled
past-asked b asks some callers [] steps = opening-asked b asks
past-asked b asks some callers (e ∷ past) steps =
    step_asked b asks some callers (now b asks past) (past-asked b asks some callers past steps.1) e steps.0

-- the replies that are settled
pub sent_settled : (b : BoardView) (n : Now) (c : ℕ) (o : Option Act) (note : Note) (reading : Bool) (bytes : List ℕ) (e : End) (d : ℕ)
    → (sent_by b n c o note reading bytes e).settled d ≡ n.settled d
sent_settled b n c o note reading bytes e d = sent-leaves (λ m. m.settled d) b n c o note reading bytes e (λ job left. refl)

pub lined_settled : (b : BoardView) (n : Now) (o : Option Act) (note : Note) (failed : Bool) (d : ℕ)
    → (lined_by b n o note failed).settled d ≡ n.settled d
lined_settled b n o note failed d = lined-leaves (λ m. m.settled d) b n o note failed (λ job. refl)

pub settled-told : (b : BoardView) (asks : Asks) (past : List Entry) (c : ℕ) → (now b asks past).settled c ≡ replies past c
settled-told b asks [] c = refl
settled-told b asks (entry.Take k l ∷ past) c = settled-told b asks past c
settled-told b asks (entry.Free k l ∷ past) c = settled-told b asks past c
settled-told b asks (entry.Message k bus purpose part parts addr reading bytes heard e ∷ past) c =
    sent_settled b (now b asks past) k (first_act (current b asks (now b asks past) k))
    (first_note (current b asks (now b asks past) k)) reading bytes e c ∙ settled-told b asks past c
settled-told b asks (entry.Line k mux level failed ∷ past) c =
    lined_settled b (now b asks past) (first_act (current b asks (now b asks past) k))
    (first_note (current b asks (now b asks past) k)) failed c ∙ settled-told b asks past c
settled-told b asks (entry.Settle k r cut ∷ past) c =
    elim (eqb_tells c k) [
      | inl h ↦ ap (λ (t : Bool). cond t ((now b asks past).settled k ++ r ∷ []) ((now b asks past).settled c)) h.0
          ∙ ap (λ (rs : List Reply). rs ++ r ∷ []) (ap (λ (i : ℕ). (now b asks past).settled i) (sym h.1) ∙ settled-told b asks past c)
          ∙ sym (ap (λ (t : Bool). cond t (replies past c ++ r ∷ []) (replies past c)) (ap (λ (i : ℕ). eqb i c) (sym h.1)
          ∙ ap (λ (i : ℕ). eqb c i) h.1 ∙ h.0))
      | inr h ↦ ap (λ (t : Bool). cond t ((now b asks past).settled k ++ r ∷ []) ((now b asks past).settled c)) h.0
          ∙ settled-told b asks past c
          ∙ sym (ap (λ (t : Bool). cond t (replies past c ++ r ∷ []) (replies past c)) (other k c (λ e. h.1 (sym e))))
    ]
  where
    other : (x y : ℕ) → (x ≡ y → ⊥) → eqb x y ≡ false
    other x y ne = elim (eqb_tells x y) [ inl h ↦ absurd (ne h.1) | inr h ↦ h.0 ]

-- WHOM A MESSAGE REACHES
module _ (b : BoardView) (tree : IsTree b) (plain : IsPlainBoard b) (lines : LinesAreLocked b) (asks : Asks) (some : AsksForMessages asks)
    (callers : ℕ) where
  -- whether a transfer is forced matters to its own messages alone
  by_force : (w : World) (x : Bool) (job : Job) (o : Option TransferView) (m : MessageEntry)
      → ((bus : ℕ) (ms : _) → job ≡ Call bus ms → is_forced o ≡ x) → m.purpose ≡ job_purpose job
      → by_purpose b w x m m.purpose → by_purpose b w (is_forced o) m m.purpose
  by_force w x (Call bus ms) o m same why told = subst (λ (y : Bool). by_purpose b w y m m.purpose) (sym (same bus ms refl)) told
  by_force w x (Select h) o m same why told =
      subst (λ (p : Purpose). by_purpose b w (is_forced o) m p) (sym why) (subst (λ (p : Purpose). by_purpose b w x m p) why told)
  by_force w x (SwitchOff off) o m same why told =
      subst (λ (p : Purpose). by_purpose b w (is_forced o) m p) (sym why) (subst (λ (p : Purpose). by_purpose b w x m p) why told)

  granted_as : (x : TransferView) (job : Job) (left : ℕ) (marks : List Mark) (held : List _) (v : Slots) (whose : TransferView)
      → MaySend b whose job left marks held v → IsGranted b x job
      → MaySend b x job left marks held v
  granted_as x job left marks held v whose may granted =
      record {
        reached = may.reached;
        rooted = may.rooted;
        finds = may.finds;
        owns = may.owns;
        may_fail = may.may_fail;
        granted = granted;
        by_message = may.by_message;
      }

  message_reaches : (past : List Entry) → IsStepwise b callers asks past → (c : ℕ) (job : Job) (left : ℕ)
      → IsNext b asks (now b asks past) c (Send job left) → (m : MessageEntry) → TellsMessage b (now b asks past) job left m
      → by_purpose b (world_at b asks past (root_of b m.bus)) (is_forced (asks c (replies past c))) m m.purpose
  message_reaches past steps c job left next m tells =
      subst (λ (s : ℕ). by_purpose b (world_at b asks past (root_of b s)) (is_forced (asks c (replies past c))) m m.purpose)
      (sym tells.on_bus)
      (by_force (world_at b asks past (root_of b (job_bus job))) asked.whose.force job
      (asks c (replies past c)) m forced tells.for_purpose
      (send-reaches b tree plain n.slot n.worlds stands.told asked.whose job left at.0.marks (n.held c)
      (granted_as asked.whose job left at.0.marks (n.held c) n.slot cs.whose
      (send_known b (n.held c) cs.view n.slot cs.agree cs.whose job left at.0.marks runs.0) calls.0)
      m tells.on_bus tells.to_addr tells.for_purpose tells.heard_told))
    where
      n : Now
      n = now b asks past

      stands : Stands b n
      stands = past-stands b tree plain lines asks some callers past steps

      cs : CallerStands b (n.held c) (current b asks n c) n.slot
      cs = current-stands b tree lines asks some n c stands

      at : (note : Note) × (next : ActOutcome → WalkTree) × (current b asks n c ≡ Then (Send job left) note next)
      at = first_is (current b asks n c) (Send job left) next

      runs : MaySend b cs.whose job left at.0.marks (n.held c) cs.view
          × ((out : ActOutcome) → CanSend b job left out
          → Runs b cs.whose (n.held c) (after_job job left at.0.marks out cs.view) (at.1 out))
      runs = subst (λ (w : WalkTree). Runs b cs.whose (n.held c) cs.view w) at.2 cs.runs

      asked : IsAsked b asks c (current b asks n c) (n.settled c)
      asked = current-asked b asks some n (past-asked b asks some callers past steps) c

      calls : CallsOf b asked.whose (Then (Send job left) at.0 at.1)
      calls = subst (λ (w : WalkTree). CallsOf b asked.whose w) at.2 asked.calls

      before : IsBefore asked.done job
      before = (subst (λ (w : WalkTree). Settles asked.done w) at.2 asked.settles).0

      forced : (s : ℕ) (ms : _) → job ≡ Call s ms → is_forced (asks c (replies past c)) ≡ asked.whose.force
      forced s ms is_call =
          ap (λ (rs : List Reply). is_forced (asks c rs)) (sym (settled-told b asks past c))
          ∙ ap (λ (o : Option TransferView). is_forced o) (asked.asked (subst (λ (j : Job). IsBefore asked.done j) is_call before))

  reach_at : (e : Entry) (past : List Entry) → IsStepwise b callers asks past → May b callers asks (now b asks past) e
      → OfMessage (HasItsPath b asks past) e → ReachAt b asks e past
  reach_at (entry.Take c l) past steps may open_path = tt
  reach_at (entry.Free c l) past steps may open_path = tt
  reach_at (entry.Line c mux level failed) past steps may open_path = tt
  reach_at (entry.Settle c r cut) past steps may open_path = tt
  reach_at (entry.Message c bus purpose part parts addr reading bytes heard e) past steps may open_path =
      (open_path.path_open, open_path.heard_told, message_reaches past steps c may.2.0 may.2.1 may.2.2 _ may.2.3)

  reached_from : (past : List Entry) → IsStepwise b callers asks past → KeepsPathsOpen b asks past → Reaches b asks past
  reached_from [] steps opens = tt
  reached_from (e ∷ past) steps opens = (reach_at e past steps.1 steps.0 opens.0, reached_from past steps.1 opens.1)

  pub reach-kept : (past : List Entry) → IsStepwise b callers asks past → Reaches b asks past
  reach-kept past steps = reached_from past steps (open-kept b tree plain lines asks some callers past steps)
