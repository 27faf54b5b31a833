-- Each list leads through the walk to its end: step by step, that is computed.
use Rattle.journal_laws.proofs.Cited.{path-walk, rules}
use Rattle.bus_spec.specs.Rows as row
use Rattle.journal_laws.specs.WalkRows as walk
use Rattle.journal_laws.proofs.walk_rows.these_are_walks.Goals as goal

pub returns : goal.returns
returns c =
    record {
      whole = path-walk row.parent_locked walk.deep walk.whole_walk (search rules depth 60);
      parts = path-walk row.mux_locked walk.deep walk.parts_walk (search rules depth 60);
      closed = path-walk row.parent_locked walk.deep walk.closed_walk (search rules depth 60);
      unclosed = path-walk row.parent_locked walk.deep walk.unclosed_walk (search rules depth 60);
      unselected = path-walk row.parent_locked walk.deep walk.unselected_walk (search rules depth 60);
      deselected = path-walk row.parent_locked walk.deep walk.deselected_walk (search rules depth 60);
      refused = path-walk row.parent_locked walk.nowhere walk.refused_walk (search rules depth 60);
    }
