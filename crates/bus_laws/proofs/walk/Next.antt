-- A walk one step on: what holds of a walk whatever its steps give holds of what is left behind its next step.
use Rattle.bus_laws.proofs.Cited.{◌≡◌, ℕ, zero, suc, ◌+◌, ◌≤◌, Bool, true, false, ◌⊎◌, List, Option, Some, None, refl, sym, subst, inl, inr}
use Rattle.bus_laws.proofs.Cited.{LockId, Errno, End, BoardView, TransferView, Hop, MessageView, Job, Call, Select, SwitchOff, Off, Act}
use Rattle.bus_laws.proofs.Cited.{Take, Free, Send, Shift, Settle, ActOutcome, Passed, Sent, Lined, Note, WalkTree, Ends, Look, Then}
use Rattle.bus_laws.proofs.Cited.{decides, more_of, is_line, sent_outcome, Good, Slots, answer_to, seen, first_act, rest_of, IsCall}
use Rattle.bus_laws.proofs.Cited.{weight_at, IsWithin, EachJob, NoSettle, IsBefore, IsDecided, GoesOn, Settles, CallsOf, FirstCalls}
use Rattle.i2c_base.specs.declared.entry.End.TheVariants as end
use Rattle.bus_spec.specs.Walk.{ok_outcome, sent_errno, ok_errno}
use Rattle.bus_laws.specs.Settles.{FollowsSend}
use Rattle.bus_laws.proofs.past.StandsEntries.{first_is}
use Rattle.bus_laws.proofs.walk.Calls.{calls_seen}
use Rattle.bus_laws.proofs.walk.First.{first_seen}
use Rattle.bus_laws.proofs.past.Asked.{settles_seen}
use Rattle.bus_laws.proofs.past.Placed.{starts_seen, no_settle, sends_next}

-- a walk whose next step is known, and what is left behind that step
module _ (P : WalkTree → Type 0) (w : WalkTree) (act : Act) (first : first_act w ≡ Some act) where
  abbrev note_at : Note
  note_at = (first_is w act first).0

  abbrev next_at : ActOutcome → WalkTree
  next_at = (first_is w act first).1

  at_first : P w → P (Then act note_at next_at)
  at_first h = subst (λ (x : WalkTree). P x) (first_is w act first).2 h

  at_rest : (out : ActOutcome) → P (next_at out) → P (rest_of w out)
  at_rest out h = subst (λ (x : WalkTree). P (rest_of x out)) (sym (first_is w act first).2) h

-- a walk whose next step is known has no look in front
pub seen-first : (v : Slots) (w : WalkTree) (act : Act) → first_act w ≡ Some act → seen v w ≡ w
seen-first v Ends act first = absurd (let f : None ≡ Some act = first in cc)
seen-first v (Look ask next) act first = absurd (let f : None ≡ Some act = first in cc)
seen-first v (Then a note next) act first = refl

-- WEIGHTS: a step leaves of the bound what it doesn't weigh
within_seen : (b : BoardView) (v : Slots) (w : WalkTree) (n : ℕ) → IsWithin b w n → IsWithin b (seen v w) n
within_seen b v Ends n h = h
within_seen b v (Look ask next) n h = within_seen b v (next (answer_to v ask)) n (h (answer_to v ask))
within_seen b v (Then act note next) n h = h

pub within-next : (b : BoardView) (v : Slots) (w : WalkTree) (n : ℕ) → IsWithin b w n → (act : Act) → first_act (seen v w) ≡ Some act
    → (m : ℕ) × (weight_at b act + m ≤ n) × ((out : ActOutcome) → IsWithin b (rest_of (seen v w) out) m)
within-next b v w n within act first =
    let here = at_first (λ (x : WalkTree). IsWithin b x n) (seen v w) act first (within_seen b v w n within) in
    (here.0, here.1, λ out. at_rest (λ (x : WalkTree). IsWithin b x here.0) (seen v w) act first out (here.2 out))

-- JOBS
module _ (P : Job → Type 0) where
  jobs_seen : (v : Slots) (w : WalkTree) → EachJob P w → EachJob P (seen v w)
  jobs_seen v Ends h = h
  jobs_seen v (Look ask next) h = jobs_seen v (next (answer_to v ask)) (h (answer_to v ask))
  jobs_seen v (Then act note next) h = h

  jobs_behind : (act : Act) (note : Note) (next : ActOutcome → WalkTree) → EachJob P (Then act note next) → (out : ActOutcome)
      → EachJob P (next out)
  jobs_behind (Take l) note next h out = h out
  jobs_behind (Free l) note next h out = h out
  jobs_behind (Send job left) note next h out = h.1 out
  jobs_behind (Shift job) note next h out = h.2 out
  jobs_behind (Settle verdict) note next h out = h out

  pub jobs-next : (v : Slots) (w : WalkTree) → EachJob P w → (act : Act) → first_act (seen v w) ≡ Some act → (out : ActOutcome)
      → EachJob P (rest_of (seen v w) out)
  jobs-next v w h act first out =
      let here = at_first (EachJob P) (seen v w) act first (jobs_seen v w h) in
      at_rest (EachJob P) (seen v w) act first out
      (jobs_behind act (note_at (EachJob P) (seen v w) act first) (next_at (EachJob P) (seen v w) act first) here out)

  pub job-sent : (v : Slots) (w : WalkTree) → EachJob P w → (job : Job) (left : ℕ) → first_act (seen v w) ≡ Some (Send job left) → P job
  job-sent v w h job left first = (at_first (EachJob P) (seen v w) (Send job left) first (jobs_seen v w h)).0

  pub job-shifted : (v : Slots) (w : WalkTree) → EachJob P w → (job : Job) → first_act (seen v w) ≡ Some (Shift job)
      → (is_line job ≡ true) × P job
  job-shifted v w h job first =
      let here = at_first (EachJob P) (seen v w) (Shift job) first (jobs_seen v w h) in
      (here.0, here.1)

-- THE CALLER'S MESSAGES are those of its transfer
module _ (b : BoardView) (t : TransferView) (v : Slots) (w : WalkTree) (calls : CallsOf b t w) where
  calls_behind : (act : Act) (note : Note) (next : ActOutcome → WalkTree) → CallsOf b t (Then act note next) → (out : ActOutcome)
      → CallsOf b t (next out)
  calls_behind (Take l) note next h out = h out
  calls_behind (Free l) note next h out = h out
  calls_behind (Send job left) note next h out = h.2 out
  calls_behind (Shift job) note next h out = h.1 out
  calls_behind (Settle verdict) note next h out = h out

  pub calls-next : (act : Act) → first_act (seen v w) ≡ Some act → (out : ActOutcome) → CallsOf b t (rest_of (seen v w) out)
  calls-next act first out =
      let here = at_first (CallsOf b t) (seen v w) act first (calls_seen b t v w calls) in
      at_rest (CallsOf b t) (seen v w) act first out
      (calls_behind act (note_at (CallsOf b t) (seen v w) act first) (next_at (CallsOf b t) (seen v w) act first) here out)

  pub call-sent : (bus : ℕ) (messages : List MessageView) (left : ℕ) → first_act (seen v w) ≡ Some (Send (Call bus messages) left)
      → IsCall b t bus messages
  call-sent bus messages left first = (at_first (CallsOf b t) (seen v w) (Send (Call bus messages) left) first (calls_seen b t v w calls)).0

-- ONE SETTLE
module _ (done : Bool) (v : Slots) (w : WalkTree) (settles : Settles done w) where
  pub settles-taken : (l : LockId) → first_act (seen v w) ≡ Some (Take l)
      → NoSettle (rest_of (seen v w) Passed) × Settles done (rest_of (seen v w) Passed)
  settles-taken l first =
      let here = at_first (Settles done) (seen v w) (Take l) first (settles_seen v done w settles) in
      (at_rest NoSettle (seen v w) (Take l) first Passed here.0, at_rest (Settles done) (seen v w) (Take l) first Passed here.1)

  pub settles-freed : (l : LockId) → first_act (seen v w) ≡ Some (Free l)
      → NoSettle (rest_of (seen v w) Passed) × Settles done (rest_of (seen v w) Passed)
  settles-freed l first =
      let here = at_first (Settles done) (seen v w) (Free l) first (settles_seen v done w settles) in
      (at_rest NoSettle (seen v w) (Free l) first Passed here.0, at_rest (Settles done) (seen v w) (Free l) first Passed here.1)

  pub settles-sent : (job : Job) (left : ℕ) → first_act (seen v w) ≡ Some (Send job left)
      → IsBefore done job
      × ((e : End) (bytes : List ℕ) → (note : Note) × GoesOn note job left (Sent e bytes) (rest_of (seen v w) (Sent e bytes))
      × Settles done (rest_of (seen v w) (Sent e bytes)))
  settles-sent job left first =
      let here = at_first (Settles done) (seen v w) (Send job left) first (settles_seen v done w settles) in
      let note : Note = note_at (Settles done) (seen v w) (Send job left) first in (
        here.0,
        λ e bytes. (
          note,
          at_rest (GoesOn note job left (Sent e bytes)) (seen v w) (Send job left) first (Sent e bytes) (here.1 e bytes).0,
          at_rest (Settles done) (seen v w) (Send job left) first (Sent e bytes) (here.1 e bytes).1,
        ),
      )

  pub settles-shifted : (job : Job) → first_act (seen v w) ≡ Some (Shift job) → (failed : Bool)
      → (note : Note) × IsDecided note job zero (Lined failed) (rest_of (seen v w) (Lined failed))
      × Settles done (rest_of (seen v w) (Lined failed))
  settles-shifted job first failed =
      let here = at_first (Settles done) (seen v w) (Shift job) first (settles_seen v done w settles) in
      let note : Note = note_at (Settles done) (seen v w) (Shift job) first in (
        note,
        at_rest (IsDecided note job zero (Lined failed)) (seen v w) (Shift job) first (Lined failed) (here failed).0,
        at_rest (Settles done) (seen v w) (Shift job) first (Lined failed) (here failed).1,
      )

pub settles-settled : (done : Bool) (w : WalkTree) → Settles done w → (verdict : Option Errno) → first_act w ≡ Some (Settle verdict)
    → (done ≡ false) × NoSettle (rest_of w Passed) × Settles true (rest_of w Passed)
settles-settled done w settles verdict first =
    let here = at_first (Settles done) w (Settle verdict) first settles in
    (here.0, at_rest NoSettle w (Settle verdict) first Passed here.1, at_rest (Settles true) w (Settle verdict) first Passed here.2)

pub quiet-next : (v : Slots) (w : WalkTree) → NoSettle w → (verdict : Option Errno) → first_act (seen v w) ≡ Some (Settle verdict) → ⊥
quiet-next v w quiet verdict first = no_settle (seen v w) verdict (starts_seen v w quiet) first

-- WHAT FOLLOWS A MESSAGE: an end that isn't good is an error
pub end_good : (ok : Option Errno) (e : End) → sent_errno ok e ≡ None → (e ≡ end.Ok) × (ok ≡ None)
end_good ok end.Ok h = (refl, h)
end_good ok end.Nack h = absurd (let f : sent_errno ok end.Nack ≡ None = h in cc)
end_good ok end.Slow h = absurd (let f : sent_errno ok end.Slow ≡ None = h in cc)
end_good ok end.Refused h = absurd (let f : sent_errno ok end.Refused ≡ None = h in cc)
end_good ok end.Proto h = absurd (let f : sent_errno ok end.Proto ≡ None = h in cc)
end_good ok (end.Cut q) h = absurd (let f : sent_errno ok (end.Cut q) ≡ None = h in cc)

-- a control message that decides is an error
select_errs : (h : Hop) (left : ℕ) (e : End) → decides (Select h) (sent_outcome (ok_outcome left) e) ≡ true
    → sent_errno (ok_errno left) e ≡ None → ⊥
select_errs h left e decided none =
    let good = end_good (ok_errno left) e none in
    by_left left (subst (λ (x : End). decides (Select h) (sent_outcome (ok_outcome left) x) ≡ true) good.0 decided) good.1
  where
    by_left : (left : ℕ) → decides (Select h) (ok_outcome left) ≡ true → ok_errno left ≡ None → ⊥
    by_left zero d n = (let f : false ≡ true = d in cc)
    by_left (suc left) d n = (let f : ok_errno (suc left) ≡ None = n in cc)

off_errs : (off : Off) (e : End) → decides (SwitchOff off) (sent_outcome Good e) ≡ true → sent_errno None e ≡ None → ⊥
off_errs off e decided none =
    let f : false ≡ true = subst (λ (x : End). decides (SwitchOff off) (sent_outcome Good x) ≡ true) (end_good None e none).0 decided in cc

-- after a message of the caller's that went through comes the next one at once; after the last one, and after any other,
-- the walk settles next as it decides
pub call-follows : (note : Note) (bus : ℕ) (ms : List MessageView) (left : ℕ) (e : End) (bytes : List ℕ) (w : WalkTree)
    → GoesOn note (Call bus ms) left (Sent e bytes) w
    → ((more : ℕ) × (left ≡ suc more) × (e ≡ end.Ok) × (first_act w ≡ Some (Send (Call bus ms) more)))
    ⊎ FollowsSend (Call bus ms) left e bytes w
call-follows note bus ms zero e bytes w h = inr (record { settles = h; whole = λ none. (bus, ms, refl, refl, (end_good None e none).0) })
call-follows note bus ms (suc left) end.Ok bytes w h = inl (left, refl, refl, h)
call-follows note bus ms (suc left) end.Nack bytes w h =
    inr (record { settles = h; whole = λ none. absurd (let f : end.Nack ≡ end.Ok = (end_good None end.Nack none).0 in cc) })
call-follows note bus ms (suc left) end.Slow bytes w h =
    inr (record { settles = h; whole = λ none. absurd (let f : end.Slow ≡ end.Ok = (end_good None end.Slow none).0 in cc) })
call-follows note bus ms (suc left) end.Refused bytes w h =
    inr (record { settles = h; whole = λ none. absurd (let f : end.Refused ≡ end.Ok = (end_good None end.Refused none).0 in cc) })
call-follows note bus ms (suc left) end.Proto bytes w h =
    inr (record { settles = h; whole = λ none. absurd (let f : end.Proto ≡ end.Ok = (end_good None end.Proto none).0 in cc) })
call-follows note bus ms (suc left) (end.Cut q) bytes w h =
    inr (record { settles = h; whole = λ none. absurd (let f : end.Cut q ≡ end.Ok = (end_good None (end.Cut q) none).0 in cc) })

-- after a message a walk settles next as it decides, or it doesn't settle next
pub what_follows : (note : Note) (job : Job) (left : ℕ) (e : End) (bytes : List ℕ) (w : WalkTree) → GoesOn note job left (Sent e bytes) w
    → NoSettle w ⊎ FollowsSend job left e bytes w
what_follows note (Call bus ms) left e bytes w h =
    elim (call-follows note bus ms left e bytes w h)
    [ inl more ↦ inl (sends_next w (Call bus ms) more.0 more.3) | inr follows ↦ inr follows ]
what_follows note (Select g) left e bytes w h =
    elim h [
      | inl quiet ↦ inl quiet
      | inr settle ↦ inr (record { settles = settle.2; whole = λ none. absurd (select_errs g left e settle.1 none) })
    ]
what_follows note (SwitchOff off) left e bytes w h =
    elim h [
      | inl quiet ↦ inl quiet
      | inr settle ↦ inr (record { settles = settle.2; whole = λ none. absurd (off_errs off e settle.1 none) })
    ]

-- after a message of the caller's that went through comes the next one at once
pub call-goes-on : (note : Note) (bus : ℕ) (messages : List MessageView) (left : ℕ) (bytes : List ℕ) (w : WalkTree)
    → GoesOn note (Call bus messages) (suc left) (Sent end.Ok bytes) w → first_act w ≡ Some (Send (Call bus messages) left)
call-goes-on note bus messages left bytes w h = h

-- THE FIRST MESSAGE
module _ (v : Slots) (w : WalkTree) (firsts : FirstCalls w) where
  pub first-taken : (l : LockId) → first_act (seen v w) ≡ Some (Take l) → FirstCalls (rest_of (seen v w) Passed)
  first-taken l first = at_rest FirstCalls (seen v w) (Take l) first Passed
      (at_first FirstCalls (seen v w) (Take l) first (first_seen v w firsts))

  pub first-freed : (l : LockId) → first_act (seen v w) ≡ Some (Free l) → FirstCalls (rest_of (seen v w) Passed)
  first-freed l first = at_rest FirstCalls (seen v w) (Free l) first Passed
      (at_first FirstCalls (seen v w) (Free l) first (first_seen v w firsts))

  pub first-shifted : (job : Job) → first_act (seen v w) ≡ Some (Shift job) → (failed : Bool)
      → FirstCalls (rest_of (seen v w) (Lined failed))
  first-shifted job first failed =
      let here = at_first FirstCalls (seen v w) (Shift job) first (first_seen v w firsts) in
      at_rest FirstCalls (seen v w) (Shift job) first (Lined failed) (here failed)

  pub first-selected : (h : Hop) (left : ℕ) → first_act (seen v w) ≡ Some (Send (Select h) left) → (e : End) (bytes : List ℕ)
      → FirstCalls (rest_of (seen v w) (Sent e bytes))
  first-selected h left first e bytes =
      let here = at_first FirstCalls (seen v w) (Send (Select h) left) first (first_seen v w firsts) in
      at_rest FirstCalls (seen v w) (Send (Select h) left) first (Sent e bytes) (here e bytes)

  pub first-switched-off : (off : Off) (left : ℕ) → first_act (seen v w) ≡ Some (Send (SwitchOff off) left)
      → (e : End) (bytes : List ℕ) → FirstCalls (rest_of (seen v w) (Sent e bytes))
  first-switched-off off left first e bytes =
      let here = at_first FirstCalls (seen v w) (Send (SwitchOff off) left) first (first_seen v w firsts) in
      at_rest FirstCalls (seen v w) (Send (SwitchOff off) left) first (Sent e bytes) (here e bytes)

  pub first-sent : (bus : ℕ) (messages : List MessageView) (left : ℕ) → first_act (seen v w) ≡ Some (Send (Call bus messages) left)
      → left ≡ more_of (Call bus messages)
  first-sent bus messages left first = at_first FirstCalls (seen v w) (Send (Call bus messages) left) first (first_seen v w firsts)
