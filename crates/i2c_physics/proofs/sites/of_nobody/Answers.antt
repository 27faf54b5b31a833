use Rattle.i2c_physics.proofs.Cited.{[], ◌∷◌, ◌++◌, ◌+◌, ap, map, sym, ◌∙◌, map-append, numbers_at}
use Rattle.i2c_physics.proofs.WiredAndLemmas.{listed_more}
use Rattle.i2c_physics.proofs.sites.of_nobody.Goals as goal

pub loop-address-preserved : goal.loop-address-preserved
loop-address-preserved c =
    let was = c.loop-address.invariant in
    record {
      listed =
          ap (map (λ numbers. numbers.items)) c.push_reserved.ensures.items ∙ map-append _ c.loop-address.at.items _
          ∙ ap (λ listed. map (λ numbers. numbers.items) c.loop-address.at.items ++ listed ∷ []) c.new.ensures.items
          ∙ ap (λ listed. listed ++ [] ∷ []) was.listed ∙ sym (listed_more (numbers_at []) c.loop-address.address);
      count = c.push_reserved.ensures.len ∙ ap (λ count. count + 1) was.count;
      room = rw c.push_reserved.ensures.capacity was.room;
    }
