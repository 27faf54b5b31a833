use Rattle.tools.proofs.Cited.{◌≡◌, ◌+◌, true, take, MOST_WORDS, is_command, words_of, texts, subst}
use Rattle.tools.proofs.LineLemmas.{IsOfLine, of_words}
use Rattle.tools.proofs.line.read_line.Goals as goal
use Rattle.tools.proofs.line.read_line.Goals.{After-read_command}

-- what its words are read as is what the line is read as
given : (c : After-read_command) → IsOfLine c.args.limit c.args.line.now c.read_command.result
given c =
    let same : texts c.as_slice-words.result.now ≡ take (MOST_WORDS + 1) (words_of c.args.line.now) = cc
    (c.as_slice-words.ensures.value, c.in_ok-split_front.ensures.split) in
    let is : is_command (texts c.as_slice-words.result.now) ≡ true = cc
    c.if-not-is_command.ensures in
    of_words c.args.limit c.args.line.now (texts c.as_slice-words.result.now) c.read_command.result same is c.read_command.ensures

pub returns-in-Ok-clause-read : goal.returns-in-Ok-clause-read
returns-in-Ok-clause-read c =
    subst (λ r. IsOfLine c.args.limit c.args.line.now r) c.in-Ok.is (given (goal.at.returns-in-Ok-clause-read c).After-read_command)

pub returns-in-Err-clause-read : goal.returns-in-Err-clause-read
returns-in-Err-clause-read c =
    subst (λ r. IsOfLine c.args.limit c.args.line.now r) c.in-Err.is (given (goal.at.returns-in-Err-clause-read c).After-read_command)
