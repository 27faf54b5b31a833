-- Each list leads through the walk to its end: step by step, that is computed.
use Rattle.journal_laws.proofs.Cited.{◌≡◌, ap, [], ◌∷◌, Deed, path-walk, walk-path, rules}
use Rattle.bus_spec.specs.Rows as row
use Rattle.journal_laws.specs.WalkRows as walk
use Rattle.journal_laws.proofs.walk_rows.a_failure_marks_its_way.Goals as goal

pub returns : goal.returns
returns c =
    record {
      both = path-walk row.chain walk.behind_both walk.marks_both (search rules depth 60);
      to_the_deselect = path-walk row.chain walk.behind_both walk.marks_to_the_deselect (search rules depth 60);
      none_beyond = path-walk row.chain walk.behind_both (walk.marks_none_beyond_by (walk.near_mark ∷ [])) (search rules depth 60);
      not_beyond = λ w.
          (let f : walk.near_mark ∷ walk.far_mark ∷ [] ≡ walk.near_mark ∷ [] =
          ap (λ (d : Deed). d.marks) ((walk-path row.chain walk.behind_both
          (walk.marks_none_beyond_by (walk.near_mark ∷ walk.far_mark ∷ [])) w).1.1.1.1.1.1.1.1.1.0) in cc);
    }
