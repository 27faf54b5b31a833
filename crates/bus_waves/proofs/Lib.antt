-- Who pulls the lines, edge by edge; what a step shows; what is kept of it, and read off it; that recorded lines may go to another thread; pieces of a text.
pub mod Quiet
pub mod StepLemmas
pub mod KeepLemmas
pub mod ReadLemmas
pub mod SendLemmas
pub mod Pushes
