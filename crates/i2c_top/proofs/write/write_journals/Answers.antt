use Rattle.i2c_top.proofs.Cited.{◌≡◌, ℕ, ◌+◌, ◌++◌, List, take, drop, get_or, flat_map, sym, ◌∙◌, ap, subst, arith, append_assoc}
use Rattle.i2c_top.proofs.Cited.{ended_line, JournalView, HasFront, lines_of}
use Rattle.i2c_top.proofs.Pieces.{lines_more, lines_split, front_within}
use Rattle.i2c_top.proofs.write.write_journals.Goals as goal

pub returns-then-not-write_all-clause-front : goal.returns-then-not-write_all-clause-front
returns-then-not-write_all-clause-front g c =
    λ tells.
    let i = c.loop-journal.journal-index in
    let journals = c.args.journals.now in
    let d = c.journal-item.result in
    let piece : c.text.result.now ≡ flat_map ended_line (get_or journals i d).entries =
    c.text.ensures ∙ ap (λ (j : JournalView). flat_map ended_line j.entries) c.journal-item.is in
    front_within _ _ _ (lines_of journals) (lines_of (take i journals)) (flat_map ended_line (get_or journals i d).entries)
    (lines_of (drop (i + 1) journals)) (lines_split journals i d c.loop-journal-test.true) (c.loop-journal.invariant.written tells)
    (subst (λ (xs : List ℕ). HasFront (g.K.Sink.bytes c.loop-journal.sink) xs (g.K.Sink.bytes c.write_all.new.sink)) piece
    (c.write_all.ensures.front tells))

pub loop-journal-preserved : goal.loop-journal-preserved
loop-journal-preserved g c =
    let i = c.loop-journal.journal-index in
    let journals = c.args.journals.now in
    let d = c.journal-item.result in
    let piece : c.text.result.now ≡ flat_map ended_line (get_or journals i d).entries =
    c.text.ensures ∙ ap (λ (j : JournalView). flat_map ended_line j.entries) c.journal-item.is in
    record {
      later = (let was = c.loop-journal.invariant.later in let more = c.write_all.ensures.later in omega (arith, was, more));
      written = λ tells.
          c.write_all.ensures.whole tells c.if-not-write_all.false
          ∙ ap (λ (xs : List ℕ). xs ++ c.text.result.now) (c.loop-journal.invariant.written tells)
          ∙ append_assoc (g.K.Sink.bytes c.args.sink.now) (lines_of (take i journals)) c.text.result.now
          ∙ ap (λ (xs : List ℕ). g.K.Sink.bytes c.args.sink.now ++ xs) (ap (λ (xs : List ℕ). lines_of (take i journals) ++ xs) piece
          ∙ sym (lines_more journals i d c.loop-journal-test.true));
    }
