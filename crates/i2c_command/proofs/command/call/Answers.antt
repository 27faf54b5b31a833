-- What came of the words is what `run` made of them.
use Rattle.std.proofs.Common.{ℕ, List, ◌∙◌, ap}
use Rattle.std.specs.Prelude.{slice_index}
use Rattle.std.proofs.lemmas.List.{get_or-replicate}
use Rattle.i2c_command.proofs.CommandLemmas.{has_called}
use Rattle.i2c_command.proofs.command.call.Goals as goal

pub returns : goal.returns
returns g c =
    has_called c.in-Ok.words _ _ _ c.run-status.result (c.new-shelf.ensures.words ∙ c.as_slice.ensures) c.as_slice-2.ensures
    (λ place low. ap (λ (counts : List ℕ). slice_index counts place) c.new-shelf.ensures.faults ∙ get_or-replicate 16 place 0 0 low)
    c.new-sink.ensures c.run-status.ensures.ended
