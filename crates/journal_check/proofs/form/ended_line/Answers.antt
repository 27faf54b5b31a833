use Rattle.journal_check.proofs.Cited.{ℕ, Option, subst, IsFirstByte, is_byte}
use Rattle.journal_check.proofs.FormLemmas.{line-found, none-found}
use Rattle.journal_check.proofs.form.ended_line.Goals as goal

pub returns-in-Some-clause-some : goal.returns-in-Some-clause-some
returns-in-Some-clause-some c =
    line-found c.args.text.now c.in-Some.feed (subst (λ (o : Option ℕ). IsFirstByte (is_byte 10) c.args.text.now o) c.in-Some.is
    c.memchr.ensures)

pub returns-in-None-clause-none : goal.returns-in-None-clause-none
returns-in-None-clause-none c = λ _.
    none-found c.args.text.now (subst (λ (o : Option ℕ). IsFirstByte (is_byte 10) c.args.text.now o) c.in-None.is c.memchr.ensures)
