-- A list leads through the walk to its end, or leaves it at a step, which isn't the next one there.
use Rattle.journal_laws.proofs.Cited.{Deed, ap, ◌≡◌, Some, Eremoteio, messages_of, Call, Select, Send, Settle, path-walk, walk-path, rules}
use Rattle.bus_spec.specs.Rows as row
use Rattle.journal_laws.specs.WalkRows as walk
use Rattle.journal_laws.proofs.walk_rows.an_arbitrator_is_asked_and_a_line_is_shifted.Goals as goal

pub returns : goal.returns
returns c =
    record {
      polled = path-walk (row.arbitrator 7) walk.behind_arbitrator walk.polled_walk (search rules depth 60);
      given_up = path-walk (row.arbitrator 8) walk.behind_arbitrator walk.given_up_walk (search rules depth 60);
      switched_while_taken = λ w.
          (let f : Send (Select walk.polled_hop) 0 ≡ Send (Select walk.polled_hop) 7 =
          ap (λ (d : Deed). d.act) ((walk-path (row.arbitrator 7) walk.behind_arbitrator walk.switched_while_taken w).1.1.1.1.1.0) in cc);
      shifted = path-walk row.gpio walk.behind_gpio walk.line_walk (search rules depth 60);
      over_a_failed_line = λ w.
          (let f : Send (Call 2 (messages_of walk.behind_gpio)) 1 ≡ Settle (Some Eremoteio) =
          ap (λ (d : Deed). d.act) ((walk-path row.gpio walk.behind_gpio walk.over_a_failed_line w).1.1.1.1.1.0) in cc);
    }
