-- What came of a call, by the files and the output that it was made over.
use Rattle.std.proofs.Common.{◌≡◌, ℕ, ◌<◌, List, subst}
use Rattle.i2c_top.specs.forms.{request_in, HasEnded}
use Rattle.i2c_top.specs.Traces.{Outside}
use Rattle.i2c_top.specs.declared.status.Status.{Status}
use Rattle.i2c_command.specs.Starts.{HasCalled}

pub has_called : (words given : List (List ℕ)) (old new : Outside) (s : Status) → old.shelf.words ≡ words → given ≡ words
    → ((place : ℕ) → place < 16 → old.shelf.faults place ≡ 0) → old.sink.faults ≡ 0 → HasEnded (request_in given) old new s
    → HasCalled words old.rig new.rig s
has_called words given old new s are same unread unwritten ended =
    record {
      shelf = old.shelf;
      shelf_now = new.shelf;
      sink = old.sink;
      sink_now = new.sink;
      words_are = are;
      unread = unread;
      unwritten = unwritten;
      ended = subst (λ (ws : List (List ℕ)). HasEnded (request_in ws) old new s) same ended;
    }
