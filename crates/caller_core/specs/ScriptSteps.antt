-- A script that is read line by line.
use Rattle.std.specs.Prelude.{◌≡◌, ℕ, ◌+◌, List, ◌∷◌, length}
use Rattle.i2c_base.specs.Board.{BoardView}
use Rattle.dev_handle.specs.Handles.{HandlesView}
use Rattle.caller_core.specs.Scripts.{lines_read, behind_commands, ScriptFaultIs}
use Rattle.caller_core.specs.View.{CommandView}
use Rattle.caller_core.specs.declared.script.ScriptFault.{ScriptFault}

-- whatever lines follow this one, they are read behind the new commands and handles as they are, with it, after the old ones
pub record IsStep (b : BoardView) (number : ℕ) (old new : List CommandView) (line : List ℕ) (before after : HandlesView) : Type 0 where
  pub same : (ls : List (List ℕ))
      → behind_commands new (lines_read b (number + 1) (length new) ls after) ≡ behind_commands old
      (lines_read b number (length old) (line ∷ ls) before)

-- whatever lines follow, this one is refused
pub record IsRefused (b : BoardView) (number : ℕ) (old : List CommandView) (line : List ℕ) (before : HandlesView) (fault : ScriptFault) : Type 0 where
  pub refused : (ls : List (List ℕ)) → ScriptFaultIs (behind_commands old (lines_read b number (length old) (line ∷ ls) before)) fault
