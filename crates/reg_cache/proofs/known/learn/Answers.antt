use Rattle.reg_cache.proofs.Cited.{arith, ◌<◌, ◌∙◌, ap, length, slice_set, reply_by, learn_at, Kept}
use Rattle.std.proofs.Common.{rules}
use Rattle.std.proofs.lemmas.List.Edits.{map_over_more}
use Rattle.reg_cache.proofs.known.learn.Goals as goal

pub loop-place-preserved : goal.loop-place-preserved
loop-place-preserved c =
    let within : c.loop-place.place < length c.args.kept.now.items =
    grind (arith, c.loop-place-test.true, c.len-place-end.ensures, c.loop-place.invariant.same) in
    record {
      items = ap (λ (k : Kept). slice_set c.loop-place.kept.items c.loop-place.place k) c.learned_at.ensures
          ∙ map_over_more (learn_at c.args.access.now (reply_by c.args.head c.args.bytes.now)) c.args.kept.now.items c.loop-place.kept.items
          c.loop-place.place c.index.result.now within c.loop-place.invariant.items c.index.ensures;
      same = search rules;
    }
