-- A message or line step on the way to the caller's messages that failed by the port is followed by the settle, which says
-- so. The inductions go over the messages of a job, over the locks, and over the hops.
use Rattle.journal_laws.proofs.Cited.{◌≡◌, ℕ, zero, suc, Bool, true, false, cond, ◌&&◌, List, [], ◌∷◌, Option, Some, None, refl, sym, ◌∙◌}
use Rattle.journal_laws.proofs.Cited.{ap, subst, LockId, Errno, Eremoteio, Entry, BoardView, TransferView, Hop, hops, root_of, messages_of}
use Rattle.journal_laws.proofs.Cited.{refusal, Asks, Job, Call, Select, SwitchOff, Deselect, Close, Take, Free, Send, Shift, Settle}
use Rattle.journal_laws.proofs.Cited.{ActOutcome, Sent, Lined, Note, WalkTree, Ends, Look, Then, goes, job_outcome, verdict_of, decides}
use Rattle.journal_laws.proofs.Cited.{is_line, Slots, walk_by, walk_for, seen, is_over, first_act, rest_of, begun, current, now, outcome_of}
use Rattle.journal_laws.proofs.Cited.{walk_left}
use Rattle.i2c_base.specs.declared.entry.End.TheVariants as end
use Rattle.i2c_spec.specs.Tree.{locks_of}
use Rattle.bus_spec.specs.Walk.{JobOutcome, Good, Refused, Unsent, Failed, KeptOf, Go, On, Last, Over, more_of}
use Rattle.bus_spec.specs.Slots.{answer_to}
use Rattle.bus_spec.specs.Grammar.{Doer, plain, settled, over, by_go, messages, at_bus, locked, part, with_mark, aside, if_sent, if_good}
use Rattle.bus_spec.specs.Grammar.{kind_of, closing, left_behind, opened, chosen, keeps, crossed, behind, inner}
use Rattle.journal_laws.proofs.past.Places.{walk-left}

-- what a step of the port says where it fails on the way
abbrev pub Remote : Bool → WalkTree → Type 0
Remote forward next = forward ≡ true → first_act next ≡ Some (Settle (Some Eremoteio))

abbrev pub FailsSettle : WalkTree → Type 0
FailsSettle Ends = Unit {0}
FailsSettle (Look ask next) = (m : Option ℕ) → FailsSettle (next m)
FailsSettle (Then (Take l) note next) = (out : ActOutcome) → FailsSettle (next out)
FailsSettle (Then (Free l) note next) = (out : ActOutcome) → FailsSettle (next out)
FailsSettle (Then (Send job left) note next) =
    ((q : ℕ) (bytes : List ℕ) → Remote note.forward (next (Sent (end.Cut q) bytes))) × ((out : ActOutcome) → FailsSettle (next out))
FailsSettle (Then (Shift job) note next) = Remote note.forward (next (Lined true)) × ((out : ActOutcome) → FailsSettle (next out))
FailsSettle (Then (Settle verdict) note next) = (out : ActOutcome) → FailsSettle (next out)

abbrev DoerFails : Doer → Type 0
DoerFails on = (job : Job) (note : Note) (k : JobOutcome → WalkTree) → ((o : JobOutcome) → FailsSettle (k o)) → FailsSettle (on job note k)

-- A JOB ON THE BUS ITSELF
fails-settled : (t : Bool) (v : Option Errno) (w : WalkTree) → FailsSettle w → FailsSettle (settled t v w)
fails-settled true v w h = λ out. h
fails-settled false v w h = h

failed_decides : (job : Job) → decides job Failed ≡ true
failed_decides (Call bus ms) = refl
failed_decides (Select h) = refl
failed_decides (SwitchOff off) = refl

settled-first : (x y : Bool) (w : WalkTree) → x ≡ true → y ≡ true
    → first_act (settled (x && y) (Some Eremoteio) w) ≡ Some (Settle (Some Eremoteio))
settled-first true true w p q = refl
settled-first true false w p q = absurd (let f : false ≡ true = q in cc)
settled-first false y w p q = absurd (let f : false ≡ true = p in cc)

module _ (job : Job) (note : Note) (k : JobOutcome → WalkTree) (more : (o : JobOutcome) → FailsSettle (k o)) where
  fails-over : (left : ℕ) (out : ActOutcome) → FailsSettle (over job left note k out)
  fails-over left out =
      fails-settled (note.forward && decides job (job_outcome job left out)) (verdict_of job left out) (k (job_outcome job left out))
      (more (job_outcome job left out))

  sent-remote : (left q : ℕ) (bytes : List ℕ) → Remote note.forward (over job left note k (Sent (end.Cut q) bytes))
  sent-remote left q bytes forward = settled-first note.forward (decides job Failed) (k Failed) forward (failed_decides job)

  lined-remote : Remote note.forward (over job zero note k (Lined true))
  lined-remote forward = settled-first note.forward (decides job Failed) (k Failed) forward (failed_decides job)

  fails-last : FailsSettle (Then (Send job zero) note (over job zero note k))
  fails-last = (λ q bytes. sent-remote zero q bytes, λ out. fails-over zero out)

cut_over : (job : Job) (left q : ℕ) (bytes : List ℕ) → goes job left (Sent (end.Cut q) bytes) ≡ Over
cut_over (Call bus ms) left q bytes = refl
cut_over (Select h) left q bytes = refl
cut_over (SwitchOff off) left q bytes = refl

fails-go : (g : Go) (x y z : WalkTree) → FailsSettle x → FailsSettle y → FailsSettle z → FailsSettle (by_go g x y z)
fails-go On x y z p q r = p
fails-go Last x y z p q r = q
fails-go Over x y z p q r = r

fails-messages : (n : ℕ) → DoerFails (messages n)
fails-messages zero job note k more = fails-last job note k more
fails-messages (suc left) job note k more = (
  λ q bytes forward.
      ap (λ (g : Go). first_act (by_go g (messages left job note k) (Then (Send job zero) note (over job zero note k))
      (over job (suc left) note k (Sent (end.Cut q) bytes))))
      (cut_over job left q bytes)
      ∙ sent-remote job note k more (suc left) q bytes forward,
  λ out.
      fails-go (goes job left out) (messages left job note k) (Then (Send job zero) note (over job zero note k))
      (over job (suc left) note k out)
      (fails-messages left job note k more) (fails-last job note k more) (fails-over job note k more (suc left) out),
)

fails-if : (t : Bool) (x y : WalkTree) → FailsSettle x → FailsSettle y → FailsSettle (cond t x y)
fails-if true x y p q = p
fails-if false x y p q = q

fails-at_bus : DoerFails at_bus
fails-at_bus job note k more =
    fails-if (is_line job) (Then (Shift job) note (over job zero note k)) (messages (more_of job) job note k)
    (lined-remote job note k more, λ out. fails-over job note k more zero out) (fails-messages (more_of job) job note k more)

-- THE PIECES
fails-locked : (ls : List LockId) (on : Doer) → DoerFails on → DoerFails (locked ls on)
fails-locked [] on each job note k more = each job note k more
fails-locked (l ∷ ls) on each job note k more = λ out.
    fails-locked ls on each job note (λ o. Then (Free l) plain (λ o2. k o)) (λ o out. more o)

fails-part : (t : Bool) (ls : List LockId) (on : Doer) → DoerFails on → DoerFails (part t ls on)
fails-part true ls on each = each
fails-part false ls on each = fails-locked ls on each

fails-if_good : (o : JobOutcome) (w : WalkTree) (k : JobOutcome → WalkTree) → FailsSettle w → ((o : JobOutcome) → FailsSettle (k o))
    → FailsSettle (if_good o w k)
fails-if_good Good w k h more = h
fails-if_good Refused w k h more = more Unsent
fails-if_good Unsent w k h more = more Unsent
fails-if_good Failed w k h more = more Failed

fails-if_sent : (o : JobOutcome) (w : WalkTree) (k : JobOutcome → WalkTree) → FailsSettle w → ((o : JobOutcome) → FailsSettle (k o))
    → FailsSettle (if_sent o w k)
fails-if_sent Good w k h more = h
fails-if_sent Refused w k h more = h
fails-if_sent Unsent w k h more = more Unsent
fails-if_sent Failed w k h more = more Failed

fails-behind : (stays : Bool) (h : Hop) (on : Doer) → DoerFails on → (k : JobOutcome → WalkTree) → ((o : JobOutcome) → FailsSettle (k o))
    → (out : JobOutcome) → FailsSettle (left_behind stays h on k out)
fails-behind true h on each k more out = more out
fails-behind false h on each k more out = each (SwitchOff (Deselect h)) (aside h) (λ o. k out) (λ o. more out)

fails-opened : (h : Hop) (on : Doer) → DoerFails on → DoerFails (opened h on)
fails-opened h on each job note k more =
    each job note (left_behind h.stays h on k) (fails-behind h.stays h on each k more)

fails-chosen : (h : Hop) (on : Doer) → DoerFails on → DoerFails (chosen h on)
fails-chosen h on each job note k more =
    each (Select h) (with_mark h.on h.mux note) (λ o. if_good o (opened h on job note k) k)
    (λ o. fails-if_good o (opened h on job note k) k (fails-opened h on each job note k more) more)

fails-crossed : (h : Hop) (on : Doer) → DoerFails on → (m : Option ℕ) → DoerFails (λ job note k. crossed h on job note k m)
fails-crossed h on each m job note k more =
    fails-if (keeps h m) (opened h on job note k) (chosen h on job note k) (fails-opened h on each job note k more)
    (fails-chosen h on each job note k more)

fails-closing : (b : BoardView) (h : Hop) (on : Doer) → DoerFails on → (note : Note) (k : JobOutcome → WalkTree) (w : WalkTree)
    → ((o : JobOutcome) → FailsSettle (k o)) → FailsSettle w → (m : Option ℕ) → FailsSettle (closing b h on note k w m)
fails-closing b h on each note k w more go None = go
fails-closing b h on each note k w more go (Some m) =
    each (SwitchOff (Close h.on m (kind_of b m))) (with_mark h.on m note) (λ o. if_sent o w k) (λ o. fails-if_sent o w k go more)

fails-inner : (b : BoardView) (root : ℕ) (hs : List Hop) → DoerFails (inner b root hs)
fails-inner b root [] = fails-at_bus
fails-inner b root (h ∷ hs) =
    let below = fails-part h.parent (locks_of root hs) (inner b root hs) (fails-inner b root hs) in
    λ job note k more.
    fails-if (is_line job) (at_bus job note k) (behind b h (part h.parent (locks_of root hs) (inner b root hs)) job note k)
    (fails-at_bus job note k more)
    (λ m. fails-closing b h (part h.parent (locks_of root hs) (inner b root hs)) below note k
    (Look (KeptOf h.on h.mux) (crossed h (part h.parent (locks_of root hs) (inner b root hs)) job note k)) more
    (λ x. fails-crossed h (part h.parent (locks_of root hs) (inner b root hs)) below x job note k more) m)

fails-walk : (b : BoardView) (t : TransferView) → FailsSettle (walk_for b t)
fails-walk b t = by (refusal b t)
  where
    by : (o : Option Errno) → FailsSettle (walk_by b t o)
    by (Some e) = λ out. tt
    by None = fails-locked (locks_of (root_of b t.bus) (hops b t.bus)) (inner b (root_of b t.bus) (hops b t.bus))
        (fails-inner b (root_of b t.bus) (hops b t.bus))
        (Call t.bus (messages_of t)) plain (λ o. Ends) (λ o. tt)

-- EVERY WALK of a past
fails-seen : (v : Slots) (w : WalkTree) → FailsSettle w → FailsSettle (seen v w)
fails-seen v Ends h = h
fails-seen v (Look ask next) h = fails-seen v (next (answer_to v ask)) (h (answer_to v ask))
fails-seen v (Then act note next) h = h

fails-rest : (w : WalkTree) (out : ActOutcome) → FailsSettle w → FailsSettle (rest_of w out)
fails-rest Ends out h = h
fails-rest (Look ask next) out h = h
fails-rest (Then (Take l) note next) out h = h out
fails-rest (Then (Free l) note next) out h = h out
fails-rest (Then (Send job left) note next) out h = h.1 out
fails-rest (Then (Shift job) note next) out h = h.1 out
fails-rest (Then (Settle verdict) note next) out h = h out

module _ (b : BoardView) (asks : Asks) where
  fails-begun : (o : Option TransferView) → FailsSettle (begun b o)
  fails-begun None = tt
  fails-begun (Some t) = fails-walk b t

  from-walk : (past : List Entry) (c : ℕ) → FailsSettle ((now b asks past).walk c) → FailsSettle (current b asks (now b asks past) c)
  from-walk past c h =
      fails-seen (now b asks past).slot
      (cond (is_over ((now b asks past).walk c)) (begun b (asks c ((now b asks past).settled c))) ((now b asks past).walk c))
      (fails-if (is_over ((now b asks past).walk c)) (begun b (asks c ((now b asks past).settled c))) ((now b asks past).walk c)
      (fails-begun (asks c ((now b asks past).settled c))) h)

  fails-left : (past : List Entry) (c : ℕ) → FailsSettle (walk_left b asks past c)
  fails-left [] c = tt
  fails-left (e ∷ past) c =
      fails-if _ (rest_of (current b asks (now b asks past) c) (outcome_of e)) (walk_left b asks past c)
      (fails-rest (current b asks (now b asks past) c) (outcome_of e)
      (from-walk past c (subst (λ (w : WalkTree). FailsSettle w) (sym (walk-left b asks past c)) (fails-left past c))))
      (fails-left past c)

  pub current-fails : (past : List Entry) (c : ℕ) → FailsSettle (current b asks (now b asks past) c)
  current-fails past c = from-walk past c (subst (λ (w : WalkTree). FailsSettle w) (sym (walk-left b asks past c)) (fails-left past c))
