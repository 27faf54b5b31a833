use Rattle.journal_laws.proofs.Cited.{ap, mark_in, Stand}
use Rattle.journal_laws.proofs.past.RuledLegal.{stands-so, worlds-so, calls-so}
use Rattle.journal_laws.proofs.paths.what_each_entry_does_tells_where_all_stands.Goals as goal

pub returns : goal.returns
returns c =
    record {
      marks = λ b callers asks past ruled p. ap (λ (s : Stand). mark_in (s.slot p).slot) (stands-so b callers asks past ruled);
      worlds = λ b callers asks past ruled r. worlds-so b callers asks past ruled r;
      calls = λ b callers asks past ruled r. calls-so b callers asks past ruled r;
    }
