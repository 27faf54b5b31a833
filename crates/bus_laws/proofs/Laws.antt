-- Laws that crates above cite, each passed on from the file that proves it. Others are cited from their files.
pub use Rattle.bus_laws.proofs.past.Asked.{settled-told}
pub use Rattle.bus_laws.proofs.past.Marks.{mark-there}
pub use Rattle.bus_laws.proofs.past.Known.{callers-known, does-next}
pub use Rattle.bus_laws.proofs.past.Next.{call-reaches, control-switches}
pub use Rattle.bus_laws.proofs.past.NextLine.{next-line}
pub use Rattle.bus_laws.proofs.past.Others.{others-stay}
pub use Rattle.bus_laws.proofs.past.Ready.{sole-takes, takes-below}
pub use Rattle.bus_laws.proofs.past.Stays.{next-stays}
pub use Rattle.bus_laws.proofs.schedule.Coming.{stuck-waits}
pub use Rattle.bus_laws.proofs.schedule.Following.{begins, ends, least-made, made, passed}
pub use Rattle.bus_laws.proofs.schedule.Turns.{turns-more}
pub use Rattle.bus_laws.proofs.walk.Calls.{walk-calls}
pub use Rattle.bus_laws.proofs.walk.CostLaw.{asks-less, walk-within}
pub use Rattle.bus_laws.proofs.walk.First.{walk-first}
pub use Rattle.bus_laws.proofs.walk.HoldsLaw.{walk-holds}
pub use Rattle.bus_laws.proofs.walk.Jobs.{hop_kind, jobs-both, walk-jobs, walk-stays}
pub use Rattle.bus_laws.proofs.walk.Next.{
  call-goes-on,
  call-sent,
  calls-next,
  first-switched-off,
  first-freed,
  first-selected,
  first-sent,
  first-taken,
  job-sent,
  job-shifted,
  jobs-next,
  quiet-next,
  seen-first,
  settles-freed,
  settles-sent,
  settles-settled,
  settles-taken,
  what_follows,
  within-next,
}
pub use Rattle.bus_laws.proofs.walk.SettleLaw.{walk-settles, walk-starts}
pub use Rattle.bus_laws.proofs.walk.Waits.{all-ended}
pub use Rattle.bus_laws.proofs.world.BoardFacts.{get_within}
pub use Rattle.bus_laws.proofs.world.LineFacts.{lines-locked}
