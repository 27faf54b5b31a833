-- How often a walk settles, and where. It knows nothing of locks, buses and worlds.
use Rattle.std.specs.Prelude.{◌≡◌, ℕ, zero, suc, Bool, true, false, ◌⊎◌, List, Option, Some, None, if◌then◌else◌}
use Rattle.i2c_base.specs.declared.entry.End.{End}
use Rattle.i2c_base.specs.declared.entry.End.TheVariants as end
use Rattle.i2c_spec.specs.Messages.{MessageView}
use Rattle.bus_spec.specs.Walk.{Job, Call, Select, SwitchOff, Take, Free, Send, Shift, Settle, ActOutcome, Passed, Sent, Lined, WalkTree, Ends, Look, Then, Note, Over, goes, job_outcome, decides, verdict_of}
use Rattle.bus_spec.specs.Grammar.{first_act}
use Rattle.bus_spec.specs.Past.{is_on}

-- the next step is no settle, whatever the looks in front of it find
abbrev pub NoSettle : WalkTree → Type 0
NoSettle Ends = Unit {0}
NoSettle (Look ask next) = (m : Option ℕ) → NoSettle (next m)
NoSettle (Then (Take l) note next) = Unit {0}
NoSettle (Then (Free l) note next) = Unit {0}
NoSettle (Then (Send job left) note next) = Unit {0}
NoSettle (Then (Shift job) note next) = Unit {0}
NoSettle (Then (Settle verdict) note next) = ⊥

-- the caller's messages come before the settle
abbrev pub IsBefore : Bool → Job → Type 0
IsBefore done (Call bus messages) = done ≡ false
IsBefore done (Select h) = Unit {0}
IsBefore done (SwitchOff off) = Unit {0}

-- no further message of the job follows this one
abbrev pub EndsJob : Job → ℕ → ActOutcome → Type 0
EndsJob job zero out = Unit {0}
EndsJob job (suc left) out = goes job left out ≡ Over

-- after a step of a job a walk settles as that step decides, or it doesn't before its next step; only a job that is on
-- the way to the caller's messages decides
abbrev pub IsDecided : Note → Job → ℕ → ActOutcome → WalkTree → Type 0
IsDecided note job left out w =
    NoSettle w
    ⊎ ((note.forward ≡ true) × (decides job (job_outcome job left out) ≡ true) × (first_act w ≡ Some (Settle (verdict_of job left out)))
    × EndsJob job left out)

-- a caller's message that went through is followed by the next one, the last one and any other by the settle, with
-- nothing between
abbrev pub CallGoesOn : ℕ → List MessageView → ℕ → ActOutcome → WalkTree → Type 0
CallGoesOn bus messages (suc left) out w =
    first_act w ≡ Some (if is_on (goes (Call bus messages) left out) then Send (Call bus messages) left else Settle
    (verdict_of (Call bus messages) (suc left) out))
CallGoesOn bus messages zero out w = first_act w ≡ Some (Settle (verdict_of (Call bus messages) zero out))

abbrev pub GoesOn : Note → Job → ℕ → ActOutcome → WalkTree → Type 0
GoesOn note (Call bus messages) left out w = CallGoesOn bus messages left out w
GoesOn note (Select h) left out w = IsDecided note (Select h) left out w
GoesOn note (SwitchOff off) left out w = IsDecided note (SwitchOff off) left out w

-- after a message the walk settles as it decides: without an error only where it was the last of the caller's messages
-- and went through
pub record FollowsSend (job : Job) (left : ℕ) (e : End) (bytes : List ℕ) (w : WalkTree) : Type 0 where
  pub settles : first_act w ≡ Some (Settle (verdict_of job left (Sent e bytes)))
  pub whole : verdict_of job left (Sent e bytes) ≡ None
      → (bus : ℕ) × (messages : List MessageView) × (job ≡ Call bus messages) × (left ≡ 0) × (e ≡ end.Ok)

-- a walk that has settled, or hasn't, settles once: directly after a message or a line step, and before its end
abbrev pub Settles : Bool → WalkTree → Type 0
Settles done Ends = done ≡ true
Settles done (Look ask next) = (m : Option ℕ) → Settles done (next m)
Settles done (Then (Take l) note next) = NoSettle (next Passed) × Settles done (next Passed)
Settles done (Then (Free l) note next) = NoSettle (next Passed) × Settles done (next Passed)
Settles done (Then (Send job left) note next) =
    IsBefore done job
    × ((e : End) (bytes : List ℕ) → GoesOn note job left (Sent e bytes) (next (Sent e bytes)) × Settles done (next (Sent e bytes)))
Settles done (Then (Shift job) note next) = (failed : Bool)
    → IsDecided note job zero (Lined failed) (next (Lined failed)) × Settles done (next (Lined failed))
Settles done (Then (Settle verdict) note next) = (done ≡ false) × NoSettle (next Passed) × Settles true (next Passed)
