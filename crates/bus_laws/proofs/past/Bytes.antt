-- How many bytes a message adds to what was read, how many a reply gives, and that the reply of a settle fits. No induction.
use Rattle.bus_laws.proofs.Cited.{◌≡◌, ℕ, ◌+◌, ◌≤◌, Bool, true, false, cond, List, length, Option, Some, None, refl, arith, length-append}
use Rattle.bus_laws.proofs.Cited.{list_any, Errno, FitsReads, TransferView, is_read, Job, Call, Select, SwitchOff, got_after, reply_by}
use Rattle.i2c_base.specs.declared.reply.Reply.TheVariants as reply
use Rattle.i2c_base.specs.Fitting.{Fits}
use Rattle.i2c_base.specs.Need.{bytes_given}

-- a message adds its own bytes at most
pub got-grows : (job : Job) (reading : Bool) (bytes got : List ℕ) → length (got_after job reading bytes got) ≤ length got + length bytes
got-grows (Call bus ms) true bytes got = (let all = length-append got bytes in omega (arith, all))
got-grows (Call bus ms) false bytes got = omega arith
got-grows (Select h) reading bytes got = omega arith
got-grows (SwitchOff off) reading bytes got = omega arith

-- a reply gives what was read, or nothing
pub given-few : (verdict : Option Errno) (o : Option TransferView) (got : List ℕ)
    → length (bytes_given (reply_by verdict o got)) ≤ length got
given-few (Some e) o got = omega arith
given-few None None got = omega arith
given-few None (Some t) got = by (list_any is_read t.msgs)
  where
    by : (r : Bool) → length (bytes_given (cond r (reply.Read got) reply.Done)) ≤ length got
    by true = omega arith
    by false = omega arith

-- the reply that a settle decides fits
pub reply-fits : (t : TransferView) (got : List ℕ) (verdict : Option Errno) → (verdict ≡ None → FitsReads t.msgs got)
    → Fits t (reply_by verdict (Some t) got)
reply-fits t got (Some e) all = tt
reply-fits t got None all = by (list_any is_read t.msgs) refl (all refl)
  where
    by : (r : Bool) → list_any is_read t.msgs ≡ r → FitsReads t.msgs got → Fits t (cond r (reply.Read got) reply.Done)
    by true e fits = (e, fits)
    by false e fits = e
