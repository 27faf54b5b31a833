pub mod AsideLemmas
pub mod BillLemmas
pub mod BrokenLemmas
pub mod GrantLemmas
pub mod KnownLemmas
pub mod OverLemmas
pub mod RuleLemmas
pub mod SendLemmas
pub mod WayLemmas
mod Cited
