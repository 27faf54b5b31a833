-- Each walk settles once. The inductions go over the messages of a job, over the locks of a path, and over its hops.
use Rattle.bus_laws.proofs.Cited.{◌≡◌, ℕ, zero, suc, Bool, true, false, cond, ◌&&◌, ◌||◌, List, [], ◌∷◌, Option, Some, None, refl, sym, ◌∙◌}
use Rattle.bus_laws.proofs.Cited.{ap, subst, inl, inr, LockId, Errno, End, BoardView, TransferView, Hop, hops, root_of, locks_of}
use Rattle.bus_laws.proofs.Cited.{MessageView, messages_of, refusal, Job, Call, Select, SwitchOff, Deselect, Close, Free, Send, Shift}
use Rattle.bus_laws.proofs.Cited.{Settle, ActOutcome, Sent, Lined, JobOutcome, Good, Refused, Unsent, Failed, Note, WalkTree, Ends, Then}
use Rattle.bus_laws.proofs.Cited.{Go, On, Last, Over, goes, job_outcome, verdict_of, decides, is_line, more_of, KeptOf, Look, Doer, plain}
use Rattle.bus_laws.proofs.Cited.{settled, over, by_go, messages, at_bus, locked, part, with_mark, aside, if_sent, if_good, kind_of}
use Rattle.bus_laws.proofs.Cited.{closing, left_behind, opened, chosen, keeps, crossed, behind, inner, walk_by, walk_for, first_act}
use Rattle.bus_laws.proofs.Cited.{EndsJob, IsDecided, NoSettle, IsBefore, GoesOn, Settles, and_first}
use Rattle.i2c_base.specs.declared.entry.End.TheVariants as end

-- a job on the way to the caller's messages has settled their transfer, where it decides their reply or its way was lost
abbrev is_settled : Job → JobOutcome → Bool
is_settled (SwitchOff off) Unsent = true
is_settled job o = decides job o

-- what is settled after a job; one that isn't on the way settles nothing
abbrev behind_job : Bool → Job → JobOutcome → Bool → Bool
behind_job forward job o done = cond forward (is_settled job o) done

-- only a job on the way sends the caller's messages
abbrev CallsForward : Bool → Job → Type 0
CallsForward forward (Call bus ms) = forward ≡ true
CallsForward forward (Select h) = Unit {0}
CallsForward forward (SwitchOff off) = Unit {0}

-- what a doer keeps: it settles once with what goes on, whatever that is
abbrev DoerSettles : Doer → Type 0
DoerSettles on =
    (job : Job) (note : Note) (k : JobOutcome → WalkTree) (done : Bool)
    → (note.forward ≡ true → done ≡ false) → CallsForward note.forward job
    → ((o : JobOutcome) → NoSettle (k o)) → ((o : JobOutcome) → Settles (behind_job note.forward job o done) (k o))
    → NoSettle (on job note k) × Settles done (on job note k)

-- a lost job has settled, whichever it is
lost_settled : (job : Job) → is_settled job Unsent ≡ true
lost_settled (Call bus ms) = refl
lost_settled (Select h) = refl
lost_settled (SwitchOff off) = refl

failed_settled : (job : Job) → is_settled job Failed ≡ true
failed_settled (Call bus ms) = refl
failed_settled (Select h) = refl
failed_settled (SwitchOff off) = refl

-- nothing is settled after a job on the way that goes on
still : (forward done : Bool) → (forward ≡ true → done ≡ false) → cond forward false done ≡ done
still true done before = sym (before refl)
still false done before = refl

-- THE STEP that decides
decided : (x done : Bool) (verdict : Option Errno) (w : WalkTree) → (x ≡ true → done ≡ false) → NoSettle w → Settles (x || done) w
    → Settles done (settled x verdict w)
decided true done verdict w before starts h = (before refl, starts, h)
decided false done verdict w before starts h = h

-- an end on the bus itself decides exactly where it settles
sent_decides : (job : Job) (left : ℕ) (e : End) (bytes : List ℕ)
    → decides job (job_outcome job left (Sent e bytes)) ≡ is_settled job (job_outcome job left (Sent e bytes))
sent_decides (Call bus ms) left e bytes = refl
sent_decides (Select h) left e bytes = refl
sent_decides (SwitchOff off) left end.Ok bytes = refl
sent_decides (SwitchOff off) left end.Nack bytes = refl
sent_decides (SwitchOff off) left end.Slow bytes = refl
sent_decides (SwitchOff off) left end.Refused bytes = refl
sent_decides (SwitchOff off) left end.Proto bytes = refl
sent_decides (SwitchOff off) left (end.Cut q) bytes = refl

lined_decides : (job : Job) (left : ℕ) (failed : Bool)
    → decides job (job_outcome job left (Lined failed)) ≡ is_settled job (job_outcome job left (Lined failed))
lined_decides (Call bus ms) left failed = refl
lined_decides (Select h) left failed = refl
lined_decides (SwitchOff off) left true = refl
lined_decides (SwitchOff off) left false = refl

or_not : (x done : Bool) → done ≡ false → (x || done) ≡ x
or_not true done e = refl
or_not false done e = e

at_end : (forward x y done : Bool) → (forward ≡ true → done ≡ false) → x ≡ y → ((forward && x) || done) ≡ cond forward y done
at_end true x y done before e = or_not x done (before refl) ∙ e
at_end false x y done before e = refl

module _ (job : Job) (note : Note) (k : JobOutcome → WalkTree) (done : Bool) (before : note.forward ≡ true → done ≡ false)
    (forward : CallsForward note.forward job)
    (starts : (o : JobOutcome) → NoSettle (k o)) (goes_on : (o : JobOutcome) → Settles (behind_job note.forward job o done) (k o)) where
  over_settles : (left : ℕ) (out : ActOutcome) → decides job (job_outcome job left out) ≡ is_settled job (job_outcome job left out)
      → Settles done (over job left note k out)
  over_settles left out same =
      decided (note.forward && decides job (job_outcome job left out)) done (verdict_of job left out) (k (job_outcome job left out))
      (λ e. before (and_first note.forward (decides job (job_outcome job left out)) e)) (starts (job_outcome job left out))
      (subst (λ (t : Bool). Settles t (k (job_outcome job left out)))
      (sym (at_end note.forward (decides job (job_outcome job left out)) (is_settled job (job_outcome job left out)) done before same))
      (goes_on (job_outcome job left out)))

  is_before : (j : Job) → CallsForward note.forward j → IsBefore done j
  is_before (Call bus ms) f = before f
  is_before (Select h) f = tt
  is_before (SwitchOff off) f = tt

  first_message : (left : ℕ) (j : Job) → first_act (messages left j note k) ≡ Some (Send j left)
  first_message zero j = refl
  first_message (suc left) j = refl

  -- the end of a job settles, or nothing does before the next step
  over_decided : (j : Job) (left : ℕ) (out : ActOutcome) → EndsJob j left out → IsDecided note j left out (over j left note k out)
  over_decided j left out ends =
      either note.forward (decides j (job_outcome j left out)) refl refl
    where
      either : (x y : Bool) → note.forward ≡ x → decides j (job_outcome j left out) ≡ y → IsDecided note j left out (over j left note k out)
      either true true f d =
          inr (
            f,
            d,
            ap (λ (t : Bool). first_act (settled t (verdict_of j left out) (k (job_outcome j left out))))
                (both note.forward (decides j (job_outcome j left out)) f d),
            ends,
          )
        where
          both : (x y : Bool) → x ≡ true → y ≡ true → (x && y) ≡ true
          both x y p q = ap (λ (t : Bool). t && y) p ∙ q
      either true false f d =
          inl (subst (λ (t : Bool). NoSettle (settled t (verdict_of j left out) (k (job_outcome j left out))))
          (sym (one note.forward (decides j (job_outcome j left out)) d)) (starts (job_outcome j left out)))
        where
          one : (x y : Bool) → y ≡ false → (x && y) ≡ false
          one true y q = q
          one false y q = refl
      either false y f d =
          inl (subst (λ (t : Bool). NoSettle (settled t (verdict_of j left out) (k (job_outcome j left out))))
          (sym (ap (λ (t : Bool). t && decides j (job_outcome j left out)) f)) (starts (job_outcome j left out)))

  over_first : (bus : ℕ) (ms : List MessageView) (left : ℕ) (out : ActOutcome) → note.forward ≡ true
      → first_act (over (Call bus ms) left note k out) ≡ Some (Settle (verdict_of (Call bus ms) left out))
  over_first bus ms left out on_way =
      ap (λ (t : Bool). first_act (settled (t && true) (verdict_of (Call bus ms) left out) (k (job_outcome (Call bus ms) left out)))) on_way

  messages_start : (left : ℕ) (j : Job) → NoSettle (messages left j note k)
  messages_start zero j = tt
  messages_start (suc left) j = tt

  go_decided : (j : Job) (left : ℕ) (out : ActOutcome) (g : Go) (w x y : WalkTree) → NoSettle w → NoSettle x
      → (g ≡ Over → IsDecided note j left out y) → IsDecided note j left out (by_go g w x y)
  go_decided j left out On w x y hw hx hy = inl hw
  go_decided j left out Last w x y hw hx hy = inl hx
  go_decided j left out Over w x y hw hx hy = hy refl

  -- what follows a message
  goes_next : (j : Job) (left : ℕ) (e : End) (bytes : List ℕ) → CallsForward note.forward j
      → GoesOn note j (suc left) (Sent e bytes)
      (by_go (goes j left (Sent e bytes)) (messages left j note k) (messages zero j note k) (over j (suc left) note k (Sent e bytes)))
  goes_next (Call bus ms) left end.Ok bytes f = first_message left (Call bus ms)
  goes_next (Call bus ms) left end.Nack bytes f = over_first bus ms (suc left) (Sent end.Nack bytes) f
  goes_next (Call bus ms) left end.Slow bytes f = over_first bus ms (suc left) (Sent end.Slow bytes) f
  goes_next (Call bus ms) left end.Refused bytes f = over_first bus ms (suc left) (Sent end.Refused bytes) f
  goes_next (Call bus ms) left end.Proto bytes f = over_first bus ms (suc left) (Sent end.Proto bytes) f
  goes_next (Call bus ms) left (end.Cut q) bytes f = over_first bus ms (suc left) (Sent (end.Cut q) bytes) f
  goes_next (Select h) left e bytes f =
      go_decided (Select h) (suc left) (Sent e bytes) (goes (Select h) left (Sent e bytes)) (messages left (Select h) note k)
      (messages zero (Select h) note k) (over (Select h) (suc left) note k (Sent e bytes))
      (messages_start left (Select h)) tt (λ ends. over_decided (Select h) (suc left) (Sent e bytes) ends)
  goes_next (SwitchOff off) left e bytes f =
      go_decided (SwitchOff off) (suc left) (Sent e bytes) (goes (SwitchOff off) left (Sent e bytes)) (messages left (SwitchOff off) note k)
      (messages zero (SwitchOff off) note k)
      (over (SwitchOff off) (suc left) note k (Sent e bytes))
      (messages_start left (SwitchOff off)) tt (λ ends. over_decided (SwitchOff off) (suc left) (Sent e bytes) ends)

  goes_over : (j : Job) (out : ActOutcome) → CallsForward note.forward j → GoesOn note j zero out (over j zero note k out)
  goes_over (Call bus ms) out f = over_first bus ms zero out f
  goes_over (Select h) out f = over_decided (Select h) zero out tt
  goes_over (SwitchOff off) out f = over_decided (SwitchOff off) zero out tt

  go_settles : (g : Go) (w x y : WalkTree) → Settles done w → Settles done x → Settles done y → Settles done (by_go g w x y)
  go_settles On w x y hw hx hy = hw
  go_settles Last w x y hw hx hy = hx
  go_settles Over w x y hw hx hy = hy

  last_settles : Settles done (messages zero job note k)
  last_settles = (
    is_before job forward,
    λ e bytes.
        (goes_over job (Sent e bytes) forward, over_settles zero (Sent e bytes) (sent_decides job zero e bytes)),
  )

  -- the induction over the messages that may follow
  messages_settle : (left : ℕ) → Settles done (messages left job note k)
  messages_settle zero = last_settles
  messages_settle (suc left) = (
    is_before job forward,
    λ e bytes. (
      goes_next job left e bytes forward,
      go_settles (goes job left (Sent e bytes)) (messages left job note k) (messages zero job note k)
          (over job (suc left) note k (Sent e bytes))
          (messages_settle left) last_settles (over_settles (suc left) (Sent e bytes) (sent_decides job (suc left) e bytes)),
    ),
  )

  bus_settles : (t : Bool) → NoSettle (cond t (Then (Shift job) note (over job zero note k)) (messages (more_of job) job note k))
      × Settles done (cond t (Then (Shift job) note (over job zero note k)) (messages (more_of job) job note k))
  bus_settles true = (
    tt,
    λ failed.
        (over_decided job zero (Lined failed) tt, over_settles zero (Lined failed) (lined_decides job zero failed)),
  )
  bus_settles false = (messages_start (more_of job) job, messages_settle (more_of job))

at_bus-settles : DoerSettles at_bus
at_bus-settles job note k done before forward starts goes_on = bus_settles job note k done before forward starts goes_on (is_line job)

-- THE LOCKS: the induction over them
locked-settles : (ls : List LockId) (on : Doer) → DoerSettles on → DoerSettles (locked ls on)
locked-settles [] on sub = sub
locked-settles (l ∷ ls) on sub =
    λ job note k done before forward starts goes_on. (
      tt,
      locked-settles ls on sub job note (λ out. Then (Free l) plain (λ o2. k out)) done before forward (λ o. tt)
          (λ o. (starts o, goes_on o)),
    )

part-settles : (t : Bool) (ls : List LockId) (on : Doer) → DoerSettles on → DoerSettles (part t ls on)
part-settles true ls on sub = sub
part-settles false ls on sub = locked-settles ls on sub

-- ONE MUX
module _ (b : BoardView) (h : Hop) (on : Doer) (sub : DoerSettles on) (job : Job) (note : Note) (k : JobOutcome → WalkTree) (done : Bool)
    (before : note.forward ≡ true → done ≡ false) (forward : CallsForward note.forward job)
    (starts : (o : JobOutcome) → NoSettle (k o)) (goes_on : (o : JobOutcome) → Settles (behind_job note.forward job o done) (k o)) where
  -- what goes on where the job was lost
  lost_goes : Settles (cond note.forward true done) (k Unsent)
  lost_goes = subst (λ (t : Bool). Settles (cond note.forward t done) (k Unsent)) (lost_settled job) (goes_on Unsent)

  failed_goes : Settles (cond note.forward true done) (k Failed)
  failed_goes = subst (λ (t : Bool). Settles (cond note.forward t done) (k Failed)) (failed_settled job) (goes_on Failed)

  deselect : (out : JobOutcome) → NoSettle (on (SwitchOff (Deselect h)) (aside h) (λ o. k out))
      × Settles (behind_job note.forward job out done) (on (SwitchOff (Deselect h)) (aside h) (λ o. k out))
  deselect out =
      sub (SwitchOff (Deselect h)) (aside h) (λ o. k out) (behind_job note.forward job out done)
      (λ e. absurd (let f : false ≡ true = e in cc)) tt
      (λ o. starts out) (λ o. goes_on out)

  left : (stays : Bool) (out : JobOutcome)
      → NoSettle (left_behind stays h on k out) × Settles (behind_job note.forward job out done) (left_behind stays h on k out)
  left true out = (starts out, goes_on out)
  left false out = deselect out

  opened-settles : NoSettle (opened h on job note k) × Settles done (opened h on job note k)
  opened-settles =
      sub job note (left_behind h.stays h on k) done before forward (λ o. (left h.stays o).0) (λ o. (left h.stays o).1)

  good_no : (o : JobOutcome) → NoSettle (if_good o (opened h on job note k) k)
  good_no Good = opened-settles.0
  good_no Refused = starts Unsent
  good_no Unsent = starts Unsent
  good_no Failed = starts Failed

  good_goes : (o : JobOutcome) → Settles (behind_job note.forward (Select h) o done) (if_good o (opened h on job note k) k)
  good_goes Good = subst (λ (t : Bool). Settles t (opened h on job note k)) (sym (still note.forward done before)) opened-settles.1
  good_goes Refused = lost_goes
  good_goes Unsent = lost_goes
  good_goes Failed = failed_goes

  chosen-settles : NoSettle (chosen h on job note k) × Settles done (chosen h on job note k)
  chosen-settles =
      sub (Select h) (with_mark h.on h.mux note) (λ o. if_good o (opened h on job note k) k) done before tt good_no good_goes

  crossed-settles : (m : Option ℕ) → NoSettle (crossed h on job note k m) × Settles done (crossed h on job note k m)
  crossed-settles m = by (keeps h m)
    where
      by : (x : Bool) → NoSettle (cond x (opened h on job note k) (chosen h on job note k))
          × Settles done (cond x (opened h on job note k) (chosen h on job note k))
      by true = opened-settles
      by false = chosen-settles

  abbrev passing : WalkTree
  passing = Look (KeptOf h.on h.mux) (crossed h on job note k)

  passing-settles : NoSettle passing × Settles done passing
  passing-settles = (λ m. (crossed-settles m).0, λ m. (crossed-settles m).1)

  sent_no : (o : JobOutcome) → NoSettle (if_sent o passing k)
  sent_no Good = passing-settles.0
  sent_no Refused = passing-settles.0
  sent_no Unsent = starts Unsent
  sent_no Failed = starts Failed

  sent_goes : (m : ℕ) (o : JobOutcome)
      → Settles (behind_job note.forward (SwitchOff (Close h.on m (kind_of b m))) o done) (if_sent o passing k)
  sent_goes m Good = subst (λ (t : Bool). Settles t passing) (sym (still note.forward done before)) passing-settles.1
  sent_goes m Refused = subst (λ (t : Bool). Settles t passing) (sym (still note.forward done before)) passing-settles.1
  sent_goes m Unsent = lost_goes
  sent_goes m Failed = failed_goes

  closing-settles : (m : Option ℕ) → NoSettle (closing b h on note k passing m) × Settles done (closing b h on note k passing m)
  closing-settles None = passing-settles
  closing-settles (Some m) =
      sub (SwitchOff (Close h.on m (kind_of b m))) (with_mark h.on m note) (λ o. if_sent o passing k) done before tt sent_no (sent_goes m)

  mux-settles : NoSettle (behind b h on job note k) × Settles done (behind b h on job note k)
  mux-settles = (λ m. (closing-settles m).0, λ m. (closing-settles m).1)

-- THE HOPS: the induction over them
inner-settles : (b : BoardView) (root : ℕ) (hs : List Hop) → DoerSettles (inner b root hs)
inner-settles b root [] = at_bus-settles
inner-settles b root (h ∷ hs) =
    λ job note k done before forward starts goes_on.
    by_line job note k done (is_line job)
    (at_bus-settles job note k done before forward starts goes_on)
    (mux-settles b h (part h.parent (locks_of root hs) (inner b root hs))
    (part-settles h.parent (locks_of root hs) (inner b root hs) (inner-settles b root hs))
    job note k done before forward starts goes_on)
  where
    by_line : (job : Job) (note : Note) (k : JobOutcome → WalkTree) (done t : Bool)
        → NoSettle (at_bus job note k) × Settles done (at_bus job note k)
        → NoSettle (behind b h (part h.parent (locks_of root hs) (inner b root hs)) job note k)
        × Settles done (behind b h (part h.parent (locks_of root hs) (inner b root hs)) job note k)
        → NoSettle (cond t (at_bus job note k) (behind b h (part h.parent (locks_of root hs) (inner b root hs)) job note k))
        × Settles done (cond t (at_bus job note k) (behind b h (part h.parent (locks_of root hs) (inner b root hs)) job note k))
    by_line job note k done true x y = x
    by_line job note k done false x y = y

-- the whole walk of a transfer
pub walk-settles : (b : BoardView) (t : TransferView) → Settles false (walk_for b t)
walk-settles b t = by_refusal (refusal b t)
  where
    by_refusal : (r : Option Errno) → Settles false (walk_by b t r)
    by_refusal (Some e) = (refl, tt, refl)
    by_refusal None =
        (locked-settles (locks_of (root_of b t.bus) (hops b t.bus)) (inner b (root_of b t.bus) (hops b t.bus))
        (inner-settles b (root_of b t.bus) (hops b t.bus))
        (Call t.bus (messages_of t)) plain (λ o. Ends) false (λ e. refl) refl (λ o. tt) (λ o. refl)).1

-- the walk of a transfer that steps on the bus begins with another step
pub walk-starts : (b : BoardView) (t : TransferView) → refusal b t ≡ None → NoSettle (walk_for b t)
walk-starts b t accepted =
    subst (λ (r : Option Errno). NoSettle (walk_by b t r)) (sym accepted)
    (locked-settles (locks_of (root_of b t.bus) (hops b t.bus)) (inner b (root_of b t.bus) (hops b t.bus))
    (inner-settles b (root_of b t.bus) (hops b t.bus))
    (Call t.bus (messages_of t)) plain (λ o. Ends) false (λ e. refl) refl (λ o. tt) (λ o. refl)).0
