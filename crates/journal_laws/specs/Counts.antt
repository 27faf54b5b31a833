-- How many entries failed by the port, and how many replies tell it.
use Rattle.std.specs.Prelude.{ℕ, ◌+◌, Bool, true, false, ◌&&◌, List, [], ◌∷◌}
use Rattle.i2c_base.specs.declared.entry.Entry.{Entry}
use Rattle.i2c_base.specs.declared.entry.Entry.TheVariants as entry
use Rattle.i2c_base.specs.declared.errno.Errno.{Errno}
use Rattle.i2c_base.specs.declared.errno.Errno.TheVariants.{Eremoteio}
use Rattle.i2c_base.specs.declared.reply.Reply.TheVariants as reply
use Rattle.i2c_base.specs.Board.{BoardView}
use Rattle.bus_spec.specs.Faults.{count_if}
use Rattle.bus_spec.specs.Readings.{of_message, is_on_root}
use Rattle.bus_spec.specs.Places.{is_cut}

-- the messages and line steps on a root that failed by the port
abbrev pub is_failed : Entry → Bool
is_failed (entry.Line c mux level failed) = failed
is_failed e = of_message false (λ m. is_cut m.end) e

abbrev pub failed_on : BoardView → ℕ → List Entry → ℕ
failed_on b r [] = 0
failed_on b r (e ∷ past) = count_if (is_on_root b r e && is_failed e) + failed_on b r past

-- all of them, on whichever root
abbrev pub failures : List Entry → ℕ
failures [] = 0
failures (e ∷ past) = count_if (is_failed e) + failures past

-- the replies that are EREMOTEIO
abbrev pub is_remote : Errno → Bool
is_remote Eremoteio = true
is_remote e = false

abbrev pub has_remote : Entry → Bool
has_remote (entry.Settle c (reply.Err e) cut) = is_remote e
has_remote e = false

abbrev pub remotes : List Entry → ℕ
remotes [] = 0
remotes (e ∷ past) = count_if (has_remote e) + remotes past
