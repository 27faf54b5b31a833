-- The caller's messages in a walk begin with the first one. The inductions go over the messages of a job, over locks, and
-- over hops.
use Rattle.bus_laws.proofs.Cited.{◌≡◌, ℕ, zero, suc, Bool, true, false, cond, ◌&&◌, List, [], ◌∷◌, Option, Some, None, refl, LockId, Errno}
use Rattle.bus_laws.proofs.Cited.{BoardView, TransferView, Hop, hops, root_of, locks_of, MessageView, messages_of, refusal, Job, Call}
use Rattle.bus_laws.proofs.Cited.{Select, SwitchOff, Deselect, Close, Take, Free, Send, Shift, Settle, ActOutcome, Passed, Sent, Lined}
use Rattle.bus_laws.proofs.Cited.{JobOutcome, Note, KeptOf, WalkTree, Ends, Look, Then, goes, job_outcome, verdict_of, decides, is_line}
use Rattle.bus_laws.proofs.Cited.{more_of, Slots, answer_to, Doer, settled, over, by_go, messages, at_bus, locked, part, with_mark, aside}
use Rattle.bus_laws.proofs.Cited.{if_sent, if_good, kind_of, closing, left_behind, opened, chosen, keeps, crossed, behind, inner, walk_by}
use Rattle.bus_laws.proofs.Cited.{walk_for, plain, seen, Settles, FirstCalls}
use Rattle.bus_laws.proofs.walk.Keeps.{by_go-keeps, if_good-keeps, if_sent-keeps}

-- after the settle none is sent
pub settled-first : (w : WalkTree) → Settles true w → FirstCalls w
settled-first Ends h = tt
settled-first (Look ask next) h = λ m. settled-first (next m) (h m)
settled-first (Then (Take l) note next) h = settled-first (next Passed) h.1
settled-first (Then (Free l) note next) h = settled-first (next Passed) h.1
settled-first (Then (Send (Call bus ms) left) note next) h = absurd (let f : true ≡ false = h.0 in cc)
settled-first (Then (Send (Select g) left) note next) h = λ e bytes. settled-first (next (Sent e bytes)) (h.1 e bytes).1
settled-first (Then (Send (SwitchOff off) left) note next) h = λ e bytes. settled-first (next (Sent e bytes)) (h.1 e bytes).1
settled-first (Then (Shift job) note next) h = λ failed. settled-first (next (Lined failed)) (h failed).1
settled-first (Then (Settle verdict) note next) h = absurd (let f : true ≡ false = h.0 in cc)

abbrev DoerFirst : Doer → Type 0
DoerFirst on = (job : Job) (note : Note) (k : JobOutcome → WalkTree) → ((o : JobOutcome) → FirstCalls (k o)) → FirstCalls (on job note k)

settled_first : (x : Bool) (verdict : Option Errno) (w : WalkTree) → FirstCalls w → FirstCalls (settled x verdict w)
settled_first true verdict w h = h
settled_first false verdict w h = h

over_first : (job : Job) (left : ℕ) (note : Note) (k : JobOutcome → WalkTree) → ((o : JobOutcome) → FirstCalls (k o)) → (out : ActOutcome)
    → FirstCalls (over job left note k out)
over_first job left note k hk out =
    settled_first (note.forward && decides job (job_outcome job left out)) (verdict_of job left out) (k (job_outcome job left out))
    (hk (job_outcome job left out))

-- a message to a mux's chip
abbrev IsControlJob : Job → Type 0
IsControlJob (Call bus messages) = ⊥
IsControlJob (Select h) = Unit {0}
IsControlJob (SwitchOff off) = Unit {0}

send_first : (job : Job) (left : ℕ) (note : Note) (next : ActOutcome → WalkTree) → IsControlJob job
    → ((out : ActOutcome) → FirstCalls (next out)) → FirstCalls (Then (Send job left) note next)
send_first (Call bus ms) left note next control h = absurd control
send_first (Select g) left note next control h = λ e bytes. h (Sent e bytes)
send_first (SwitchOff off) left note next control h = λ e bytes. h (Sent e bytes)

messages_first : (left : ℕ) (job : Job) (note : Note) (k : JobOutcome → WalkTree) → IsControlJob job → ((o : JobOutcome) → FirstCalls (k o))
    → FirstCalls (messages left job note k)
messages_first zero job note k control hk = send_first job zero note (over job zero note k) control (over_first job zero note k hk)
messages_first (suc left) job note k control hk =
    send_first job (suc left) note
    (λ out. by_go (goes job left out) (messages left job note k) (Then (Send job zero) note (over job zero note k))
    (over job (suc left) note k out)) control
    (λ out. by_go-keeps FirstCalls (goes job left out) (messages left job note k) (Then (Send job zero) note (over job zero note k))
    (over job (suc left) note k out)
    (messages_first left job note k control hk) (send_first job zero note (over job zero note k) control (over_first job zero note k hk))
    (over_first job (suc left) note k hk out))

call_first : (left : ℕ) (bus : ℕ) (ms : List MessageView) (note : Note) (k : JobOutcome → WalkTree) → left ≡ more_of (Call bus ms)
    → FirstCalls (messages left (Call bus ms) note k)
call_first zero bus ms note k e = e
call_first (suc left) bus ms note k e = e

bus_first : DoerFirst at_bus
bus_first (Call bus ms) note k hk = call_first (more_of (Call bus ms)) bus ms note k refl
bus_first (Select h) note k hk = by (is_line (Select h))
  where
    by : (x : Bool) → FirstCalls (cond x (Then (Shift (Select h)) note (over (Select h) zero note k))
        (messages (more_of (Select h)) (Select h) note k))
    by true = λ failed. over_first (Select h) zero note k hk (Lined failed)
    by false = messages_first (more_of (Select h)) (Select h) note k tt hk
bus_first (SwitchOff off) note k hk = by (is_line (SwitchOff off))
  where
    by : (x : Bool) → FirstCalls (cond x (Then (Shift (SwitchOff off)) note (over (SwitchOff off) zero note k))
        (messages (more_of (SwitchOff off)) (SwitchOff off) note k))
    by true = λ failed. over_first (SwitchOff off) zero note k hk (Lined failed)
    by false = messages_first (more_of (SwitchOff off)) (SwitchOff off) note k tt hk

locked_first : (ls : List LockId) (on : Doer) → DoerFirst on → DoerFirst (locked ls on)
locked_first [] on hon job note k hk = hon job note k hk
locked_first (l ∷ ls) on hon job note k hk = locked_first ls on hon job note (λ o. Then (Free l) plain (λ o2. k o)) (λ o. hk o)

part_first : (parent : Bool) (ls : List LockId) (on : Doer) → DoerFirst on → DoerFirst (part parent ls on)
part_first true ls on hon = hon
part_first false ls on hon = locked_first ls on hon

module _ (b : BoardView) where
  left_first : (stays : Bool) (h : Hop) (on : Doer) (k : JobOutcome → WalkTree) → DoerFirst on → ((o : JobOutcome) → FirstCalls (k o))
      → (out : JobOutcome) → FirstCalls (left_behind stays h on k out)
  left_first true h on k hon hk out = hk out
  left_first false h on k hon hk out = hon (SwitchOff (Deselect h)) (aside h) (λ x. k out) (λ x. hk out)

  opened_first : (h : Hop) (on : Doer) → DoerFirst on → DoerFirst (opened h on)
  opened_first h on hon job note k hk = hon job note (left_behind h.stays h on k) (left_first h.stays h on k hon hk)

  chosen_first : (h : Hop) (on : Doer) → DoerFirst on → DoerFirst (chosen h on)
  chosen_first h on hon job note k hk =
      hon (Select h) (with_mark h.on h.mux note) (λ o. if_good o (opened h on job note k) k)
      (λ o. if_good-keeps FirstCalls o (opened h on job note k) k (opened_first h on hon job note k hk) hk)

  crossed_first : (h : Hop) (on : Doer) → DoerFirst on → (m : Option ℕ) → DoerFirst (λ job note k. crossed h on job note k m)
  crossed_first h on hon m job note k hk = by (keeps h m)
    where
      by : (x : Bool) → FirstCalls (cond x (opened h on job note k) (chosen h on job note k))
      by true = opened_first h on hon job note k hk
      by false = chosen_first h on hon job note k hk

  closing_first : (h : Hop) (on : Doer) (note : Note) (k : JobOutcome → WalkTree) (w : WalkTree) → DoerFirst on
      → ((o : JobOutcome) → FirstCalls (k o)) → FirstCalls w
      → (m : Option ℕ) → FirstCalls (closing b h on note k w m)
  closing_first h on note k w hon hk hw None = hw
  closing_first h on note k w hon hk hw (Some m) =
      hon (SwitchOff (Close h.on m (kind_of b m))) (with_mark h.on m note) (λ o. if_sent o w k) (λ o. if_sent-keeps FirstCalls o w k hw hk)

  inner_first : (root : ℕ) (hs : List Hop) → DoerFirst (inner b root hs)
  inner_first root [] job note k hk = bus_first job note k hk
  inner_first root (h ∷ hs) job note k hk =
      by (is_line job)
      (closing_first h (part h.parent (locks_of root hs) (inner b root hs)) note k
      (Look (KeptOf h.on h.mux) (crossed h (part h.parent (locks_of root hs) (inner b root hs)) job note k))
      (part_first h.parent (locks_of root hs) (inner b root hs) (inner_first root hs)) hk
      (λ m. crossed_first h (part h.parent (locks_of root hs) (inner b root hs))
      (part_first h.parent (locks_of root hs) (inner b root hs) (inner_first root hs)) m job note k hk))
    where
      by : (x : Bool) → FirstCalls (behind b h (part h.parent (locks_of root hs) (inner b root hs)) job note k)
          → FirstCalls (cond x (at_bus job note k) (behind b h (part h.parent (locks_of root hs) (inner b root hs)) job note k))
      by true more = bus_first job note k hk
      by false more = more

-- so does the walk of a transfer
pub walk-first : (b : BoardView) (t : TransferView) → FirstCalls (walk_for b t)
walk-first b t = by (refusal b t)
  where
    by : (o : Option Errno) → FirstCalls (walk_by b t o)
    by (Some e) = tt
    by None =
        locked_first (locks_of (root_of b t.bus) (hops b t.bus)) (inner b (root_of b t.bus) (hops b t.bus))
        (inner_first b (root_of b t.bus) (hops b t.bus))
        (Call t.bus (messages_of t)) plain (λ o. Ends) (λ o. tt)

-- the looks in front of a walk change nothing
pub first_seen : (slots : Slots) (w : WalkTree) → FirstCalls w → FirstCalls (seen slots w)
first_seen slots Ends h = tt
first_seen slots (Look ask next) h = first_seen slots (next (answer_to slots ask)) (h (answer_to slots ask))
first_seen slots (Then act note next) h = h
