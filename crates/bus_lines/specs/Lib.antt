-- Who is joined, by the board's tree; what has happened on the lines; an edge; what is seen of the lines; their opening.
pub mod Joins
pub mod Shown
pub mod Edges
pub mod LinesViews
pub mod Opens
-- Which targets an edge touches, by their numbers; and the devices of other roots.
pub mod Numbers
pub mod Units
pub mod Known
pub mod Away
-- Which devices are of a root; the targets of a root off its lines.
pub mod Owned
pub mod Aparts
