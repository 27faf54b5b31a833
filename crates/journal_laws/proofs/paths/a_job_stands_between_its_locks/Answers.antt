use Rattle.journal_laws.proofs.paths.a_job_stands_between_its_locks.Goals as goal
use Rattle.flat_laws.proofs.walk.Paths.{keeps-inner, keeps-full, by-rule}
use Rattle.bus_spec.specs.WalkRule.{IsInner, IsFull}

pub returns : goal.returns
returns c =
    record {
      full = λ b root hs job whose k steps path. by-rule (IsFull b root hs) job whose k steps
          ((keeps-full b root hs).splits job whose k steps path);
      inner = λ b root hs job whose k steps path. by-rule (IsInner b root hs) job whose k steps
          ((keeps-inner b root hs).splits job whose k steps path);
    }
