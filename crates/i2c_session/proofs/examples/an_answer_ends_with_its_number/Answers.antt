use Rattle.std.proofs.Common.{ℕ, List, ◌++◌, ap, arith}
use Rattle.std.specs.Prelude.{codes}
use Rattle.std.proofs.lemmas.Fmt.{decimal_digit}
use Rattle.i2c_session.proofs.examples.an_answer_ends_with_its_number.Goals as goal

pub returns : goal.returns
returns c = record {
  ran = ap (λ (digits : List ℕ). codes "0x11\ncommand " ++ (digits ++ codes "\n")) (decimal_digit 1 (omega arith));
  empty = ap (λ (digits : List ℕ). codes "command " ++ (digits ++ codes "\n")) (decimal_digit 0 (omega arith));
  refused = ap (λ (digits : List ℕ). codes "word " ++ (digits ++ codes "\n")) (decimal_digit 3 (omega arith));
}
