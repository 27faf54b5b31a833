-- Laws that crates above cite, each passed on from the file that proves it. Others are cited from their files.
pub use Rattle.flat_laws.proofs.device.Law.{replies-kept}
pub use Rattle.flat_laws.proofs.past.Ends.{complete-then, strangers-end}
pub use Rattle.flat_laws.proofs.past.Left.{devices-left}
pub use Rattle.flat_laws.proofs.past.Legal.{legal-with}
