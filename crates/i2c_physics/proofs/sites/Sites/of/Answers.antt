use Rattle.i2c_physics.proofs.Cited.{ap, map, ◌∙◌, range_with_len, numbers_at}
use Rattle.i2c_physics.proofs.sites.Sites.of.Goals as goal

pub invariant_of-result : goal.invariant_of-result
invariant_of-result c = record {
  few = c.requires;
  listed = c.in_ok-at.ensures ∙ ap (λ places. map (numbers_at places) (range_with_len 0 128)) c.deref.ensures.value;
}
