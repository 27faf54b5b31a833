use Rattle.cache_laws.proofs.Law.{full-replayed}
use Rattle.cache_laws.proofs.laws.hits_are_what_reads_would_give.Goals as goal

pub returns : goal.returns
returns c =
    λ b plain rules xs cached may callers past told defined same.
    full-replayed b (c.an_accepted_board_is_a_tree.ensures b plain rules) xs cached may callers past told defined same
