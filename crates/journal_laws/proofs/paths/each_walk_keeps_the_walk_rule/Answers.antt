use Rattle.journal_laws.proofs.Cited.{path-walk, walk-path, front-path}
use Rattle.journal_laws.proofs.paths.each_walk_keeps_the_walk_rule.Goals as goal
use Rattle.flat_laws.proofs.walk.Rule.{path-front}

pub returns : goal.returns
returns c =
    record {
      whole = λ b t steps. (path-walk b t steps, walk-path b t steps);
      front = λ b t steps. (
        λ path. (let more = path-front b t steps path.0 path.1 in (more.0, more.2)),
        λ walk. (let way = front-path b t steps walk.0 walk.1 in (way.0, way.1)),
      );
    }
