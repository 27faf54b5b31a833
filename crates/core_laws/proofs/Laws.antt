-- What the core cites, each passed on from the file that proves it: the steps of the whole; what a step leaves of its
-- walk; what the locks, the ports and the journal want of it; and who is ready.
pub use Rattle.core_laws.proofs.Apart.{looks-stay}
pub use Rattle.core_laws.proofs.Core.{stands-here}
pub use Rattle.core_laws.proofs.CoreEnds.{core-ended, core-finished, core-lone, core-lone-finished, refused-gives}
pub use Rattle.core_laws.proofs.CoreLines.{core-line-settled, core-lined}
pub use Rattle.core_laws.proofs.CoreSteps.{core-freed, core-message, core-settled, core-taken, free_holds}
pub use Rattle.core_laws.proofs.Ended.{all-finished, asks-finished, finished-asks, finished-over}
pub use Rattle.core_laws.proofs.Going.{end-owes, going-asks, going-fits, settle-errs, settle-lone}
pub use Rattle.core_laws.proofs.Loads.{seat-loaded, seat-over}
pub use Rattle.core_laws.proofs.Opens.{core-opened, none-ready, opened-free}
pub use Rattle.core_laws.proofs.Rooms.{bytes-message, bytes-settle, log-line, log-message, port-start, room-line, room-message, room-one}
pub use Rattle.core_laws.proofs.Sent.{lined-leaves, sent-leaves}
pub use Rattle.core_laws.proofs.Stuck.{free-ready, held-up-stuck, holder-same, lone-due, next-same}
pub use Rattle.core_laws.proofs.Turns.{turn-lone, turn-one, turn-two}
pub use Rattle.core_laws.proofs.Wants.{
  call-wants,
  free-wants,
  held-wants,
  line-wants,
  send-last,
  send-most,
  send-root,
  send-wants,
  shift-root,
  shift-wants,
  take-wants,
}
pub use Rattle.core_laws.proofs.LockWords.{kept-after, length-applied_kept}
