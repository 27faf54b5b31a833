-- A loop from the last of a list back to its first, and one that reads anew of each target whether it is joined.
pub mod BackLemmas
pub mod JoinLemmas
-- Who is joined by the places is who is joined by the mask.
pub mod MaskLemmas
-- What the lines leave of each target, and a line that is set.
pub mod KindLemmas
pub mod LevelLemmas
-- What is made of each by its number, and of those alone that have some numbers; lists of numbers; who is at each address.
pub mod NumberedLemmas
pub mod NumbersLemmas
pub mod IndexLemmas
-- What an edge, an address byte, a start and a stop are to one target, and to all.
pub mod UnitLemmas
pub mod TargetsLemmas
pub mod RiseLemmas
pub mod PutLemmas
pub mod AndLemmas
pub mod GetLemmas
pub mod AddressLemmas
pub mod StopLemmas
pub mod CalledLemmas
-- Who is joined, of targets of which that isn't kept.
pub mod KnownLemmas
pub mod ListedLemmas
-- What each call leaves; the devices of other roots.
pub mod InvariantLemmas
pub mod AwayLemmas
pub mod KeptLemmas
pub mod EnterLemmas
pub mod EndsLemmas
pub mod RootLemmas
pub mod ToldLemmas
-- What a pull, a look and a line come to.
pub mod LinesLemmas
-- The opening.
pub mod FirstLemmas
pub mod OpenLemmas
-- The targets off the lines.
pub mod ApartLemmas
-- That the lines may go to another thread.
pub mod SendLemmas
-- What the proofs of this crate cite from elsewhere.
mod Cited
