use Rattle.reg_cache.proofs.Cited.{◌≡◌, List, Covers, owed_by, asked_by, left_of, Kept, known, all_of, with_hits, cached_on}
use Rattle.reg_cache.proofs.caller.answer_hits.Given as goal

abbrev pub decreases-hits : goal.decreases-hits
decreases-hits l = left_of l.script.script l.script.taken

abbrev pub invariant-hits : goal.invariant-hits
invariant-hits l =
    record {
      script : l.script.script ≡ l.fn.script.script;
      room : Covers l.script.spare (owed_by l.script.script l.script.taken);
      taken : (ks : List Kept) → l.fn.kept.items ≡ known (asked_by l.fn.script.script) ks l.fn.script.taken
          → all_of (with_hits (cached_on l.fn.script.script ks) l.script.taken) ≡ all_of (with_hits
          (cached_on l.fn.script.script ks) l.fn.script.taken);
      knows : (ks : List Kept) → l.fn.kept.items ≡ known (asked_by l.fn.script.script) ks l.fn.script.taken
          → l.kept.items ≡ known (asked_by l.fn.script.script) ks l.script.taken;
    }
