-- The forms of the words of a command line, one after the other: what the words of each ask for, and its row. Each has a
-- file of its own in `forms`.
use Rattle.std.specs.Prelude.{ℕ, IsTrue, List, Option, None, Some, codes, if◌then◌else◌}
use Rattle.std.specs.Option.{option_map}
use Rattle.tools.specs.Readers.{word_at}
use Rattle.i2c_top.specs.Endings.{HasEndedAs, IsTurnedDown}
use Rattle.i2c_top.specs.Form.{Form}
use Rattle.i2c_top.specs.Traces.{Outside}
use Rattle.i2c_top.specs.declared.status.Status.{Status}
use Rattle.i2c_gen.specs.declared.plan.Plan.{Plan}
use Rattle.i2c_top.specs.declared.forms.clear.ClearAt.{ClearAt}
use Rattle.i2c_top.specs.forms.Atrs.{is_atr, atr_form}
use Rattle.i2c_top.specs.forms.Extras.{ExtraNames, extra_names}
use Rattle.i2c_top.specs.forms.Caches.{is_cached, cached_form}
use Rattle.i2c_top.specs.forms.Checks.{is_check, check_form}
use Rattle.i2c_top.specs.forms.Clears.{clear_in, clear_form}
use Rattle.i2c_top.specs.forms.Generations.{plan_in, gen_form}
use Rattle.i2c_top.specs.forms.Replays.{Names, is_replay, is_run, replay_names, run_names, replay_form}
use Rattle.i2c_top.specs.forms.Verifies.{VerifyNames, is_verify, verify_names, verify_form}
pub mod Atrs
pub mod Caches
pub mod Checks
pub mod Clears
pub mod Extras
pub mod Generations
pub mod Replays
pub mod Verifies

-- to replay 1 to 8 scripts over a board, by the names of the files, or to run them, which is a replay without a schedule; to
-- check the board of a file; to replay what is generated; to verify the journal of a file; to replay scripts behind address translators; to
-- replay them with a register cache; to cut a read off on a board, and clear its bus
pub data Request : Type 0 where
  Replay : (names : Names) → Request
  Check : (board : List ℕ) → Request
  Generate : (plan : Plan) → Request
  Verify : (names : VerifyNames) → Request
  Atr : (names : ExtraNames) → Request
  Cached : (names : Names) → Request
  Clear : (board : List ℕ) (at : ClearAt) → Request

-- the row of each
abbrev pub form_of : Request → Form
form_of (Replay names) = replay_form names
form_of (Check board) = check_form board
form_of (Generate plan) = gen_form plan
form_of (Verify names) = verify_form names
form_of (Atr names) = atr_form names
form_of (Cached names) = cached_form names
form_of (Clear board at) = clear_form board at

-- where the words are no plan: a read that is cut off
abbrev pub or_clear : Option Plan → List (List ℕ) → Option Request
or_clear (Some plan) words = Some (Generate plan)
or_clear None words = option_map (Clear (word_at words 1)) (clear_in words)

-- what the words ask for, where they are in a form in force
abbrev pub request_in : List (List ℕ) → Option Request
request_in words =
    if is_replay words then Some (Replay (replay_names words))
    else if is_run words then Some (Replay (run_names words))
    else if is_check words then Some (Check (word_at words 1))
    else if is_verify words then Some (Verify (verify_names words))
    else if is_atr words then Some (Atr (extra_names words))
    else if is_cached words then Some (Cached (replay_names words)) else or_clear (plan_in words) words

-- the line on usage
abbrev pub usage_text : List ℕ
usage_text = codes "usage: i2cbus run BOARD SCRIPT... | replay BOARD SCHEDULE SCRIPT... | check BOARD | gen SEED ROOTS LINES | verify BOARD JOURNAL SCRIPT... | atr BOARD MAP SCHEDULE SCRIPT... | cached BOARD SCHEDULE SCRIPT... | clear BOARD BUS ADDR CUT\n"

-- how a call ends, by what its words ask for
abbrev pub HasEnded : Option Request → Outside → Outside → Status → Type 0
HasEnded None old new result = IsTurnedDown usage_text old new result
HasEnded (Some request) old new result = HasEndedAs (form_of request) old new result

-- the rig is plugged for it
abbrev pub UsesRig : Option Request → Type 0
UsesRig None = ⊥
UsesRig (Some request) = IsTrue (form_of request).plugs
