-- `gen SEED ROOTS LINES`: a generated board, its scripts and its schedule, which are replayed, and what comes of it in six lines.
use Rattle.std.specs.Prelude.{◌≡◌, ℕ, ◌-◌, ◌^◌, ◌==◌, true, ◌&&◌, IsTrue, List, ◌++◌, length, codes, Option, None, Some, if◌then◌else◌}
use Rattle.std.specs.Fmt.{decimal}
use Rattle.std.specs.Str.{bytes_eq}
use Rattle.bus_journal.specs.Tallies.{tally_of}
use Rattle.bus_journal.specs.declared.tally.Tally.{Tally}
use Rattle.i2c_base.specs.declared.entry.Entry.{Entry}
use Rattle.i2c_base.specs.declared.port.PortCall.{PortCall}
use Rattle.i2c_base.specs.Limits.{MOST_ROOTS}
use Rattle.i2c_gen.specs.Boards.{made_board}
use Rattle.i2c_gen.specs.Scripts.{MOST_LINES, scripts_of, schedule_of}
use Rattle.i2c_gen.specs.declared.plan.Plan.{Plan}
use Rattle.i2c_spec.specs.Targets.{TargetState}
use Rattle.tools.specs.Readers.{word_at}
use Rattle.i2c_top.specs.Form.{Form}
use Rattle.i2c_top.specs.Numbers.{number_named}
use Rattle.i2c_top.specs.Runs.{HasRunTold}
use Rattle.i2c_top.specs.Traces.{RigView}
use Rattle.i2c_top.specs.declared.status.Status.TheVariants as status

abbrev pub plan_by : (seed roots lines : Option ℕ) → Option Plan
plan_by (Some seed) (Some roots) (Some lines) = Some (record { seed = seed; roots = roots; lines = lines })
plan_by _ _ _ = None

-- `gen`, the seed, which has 64 bits, the number of roots and the number of lines
abbrev pub plan_in : List (List ℕ) → Option Plan
plan_in words =
    if (length words == 4) && bytes_eq (word_at words 0) (codes "gen")
    then plan_by (number_named 0 (2 ^ 64 - 1) (word_at words 1)) (number_named 1 MOST_ROOTS (word_at words 2))
    (number_named 1 MOST_LINES (word_at words 3))
    else None

abbrev pub plan_line : Plan → List ℕ
plan_line p =
    codes "gen seed " ++ (decimal p.seed ++ (codes " roots " ++ (decimal p.roots ++ (codes " lines " ++ (decimal p.lines ++ codes "\n")))))

abbrev pub counted_line : List ℕ → ℕ → List ℕ
counted_line what count = what ++ (decimal count ++ codes "\n")

abbrev pub tally_text : Tally → List ℕ
tally_text t =
    counted_line (codes "transfers ") t.transfers ++ (counted_line (codes "messages ") t.messages ++ (counted_line (codes "locks ") t.locks
    ++ (counted_line (codes "errors ") t.errors ++ counted_line (codes "bytes ") t.bytes)))

-- the plan, and the five counts of a journal
abbrev pub summary_of : Plan → List Entry → List ℕ
summary_of p journal = plan_line p ++ tally_text (tally_of journal)

-- these bytes are the summary of the run of the plan's scripts over its board, by its schedule, with the calls on its ports, the
-- devices that it leaves, and what the ports counted
abbrev pub HasSummary : Plan → List ℕ → List (List PortCall) → List TargetState → List ℕ → Type 0
HasSummary p bytes logs states counts =
    HasRunTold (summary_of p) (made_board p.roots) (scripts_of p) (Some (schedule_of p)) bytes logs states counts

-- the summary was written after what stood there
pub record HasGenerated (p : Plan) (before now : List ℕ) (logs : List (List PortCall)) (states : List TargetState)
    (counts : List ℕ) : Type 0 where
  pub bytes : List ℕ
  pub summary : HasSummary p bytes logs states counts
  pub written : now ≡ before ++ bytes

abbrev pub IsSummed : Plan → RigView → List ℕ → Type 0
IsSummed p rig text = IsTrue rig.tells → IsTrue rig.ports_tell → HasSummary p text rig.logs rig.states rig.counts

-- THE ROW: it reads no file and refuses none; it plugs the rig, and a success writes the summary of the run over it
abbrev pub gen_form : Plan → Form
gen_form p = record {
  reads = λ place. ⊥;
  turn = λ file place. ⊥;
  skips = λ s place. ⊥;
  refuses = λ s. ⊥;
  cause = λ file s. s ≡ status.Ok;
  plugs = true;
  answer = λ file rig text. IsSummed p rig text;
  leaves = IsSummed p;
}
