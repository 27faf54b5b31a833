use Rattle.journal_laws.proofs.Cited.{◌≡◌, true, false, arith}
use Rattle.journal_laws.proofs.wrong.a_schedule_is_not_ignored.Goals as goal

pub returns : goal.returns
returns c =
    record {
      serial = λ f. (let e : 0 ≡ 1 = f.1.1.1.1.0 in omega (arith, e));
      alternating = λ f. (let e : true ≡ false = f.2.2.2.2.1 0 (omega arith) in cc);
    }
