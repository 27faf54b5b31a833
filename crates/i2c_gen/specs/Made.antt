-- What is made by a plan: its board, its scripts opened over it, and its schedule.
use Rattle.std.specs.Prelude.{◌≡◌, ℕ, ◌<◌, ◌≤◌, List, IsOk, All, map}
use Rattle.std.specs.List.{sum_by}
use Rattle.i2c_base.specs.Board.{BoardView}
use Rattle.i2c_base.specs.Limits.{MOST_CALLERS}
use Rattle.caller_core.specs.Callers.{IsOpened}
use Rattle.caller_core.specs.Scripts.{script_read, cost_of_script}
use Rattle.caller_core.specs.View.{CallerView, script_on}
use Rattle.i2c_gen.specs.Boards.{made_board}
use Rattle.i2c_gen.specs.Scripts.{scripts_of, schedule_of}
use Rattle.i2c_gen.specs.declared.plan.Plan.{Plan}

-- each line of the scripts is in the grammar, and all of them together cost less than what is run
pub record AreMade (p : Plan) (board : BoardView) (scripts : List CallerView) : Type 0 where
  pub board_is : board ≡ made_board p.roots
  pub opened : All (λ s. IsOpened board s.script.text s) scripts
  pub texts : map (λ s. s.script.text) scripts ≡ scripts_of p
  pub read : All (λ text. IsOk (script_read (script_on board text))) (scripts_of p)
  pub cheap : sum_by (λ text. cost_of_script (script_on board text)) (scripts_of p) ≤ 1000000

pub record IsSchedule (p : Plan) (words : List ℕ) : Type 0 where
  pub same : words ≡ schedule_of p
  pub named : All (λ c. c < MOST_CALLERS) words
