use Rattle.i2c_top.proofs.Cited.{sendable, ◌≡◌, List, length, sym, ◌∙◌, ap, subst, inr, arith, crosses, BoardView, IsPlainBoard, MeetsRules}
use Rattle.i2c_top.proofs.Cited.{entries_of, gaps_by, CallerView, cost_of_texts, texts_of}
use Rattle.journal_check.proofs.SendLemmas.{told_port-send}
use Rattle.i2c_top.proofs.CheckedLemmas.{been-checked, has-opened, limits-opened, numbered-opened, silent-opened, some-opened, wired-opened}
use Rattle.i2c_top.proofs.CheckedLemmas.{wrong-opened}
use Rattle.i2c_top.proofs.TextLemmas.{may-run-scripts}
use Rattle.i2c_top.proofs.check_journal.followed.Goals as goal

pub opened-requires-send-P : goal.opened-requires-send-P
opened-requires-send-P g c κs within = search (sendable, crosses, told_port-send) depth 40 fits 100000

pub opened-requires-clause-may : goal.opened-requires-clause-may
opened-requires-clause-may g c κs within =
    let b = c.args.board.now in
    let cost : c.limit_of-limit.result ≡ cost_of_texts b (texts_of c.args.scripts.items) =
    c.limit_of-limit.ensures ∙ ap (λ (ss : List CallerView). cost_of_texts b (texts_of ss)) c.as_slice.ensures.value in
    may-run-scripts _ b c.args.scripts.items c.requires.opened _ c.limit_of-limit.result cost c.scripts_are_fair.ensures c.requires.few
    c.requires.cheap
    (record {
      count = c.in-Ok.ensures.count;
      idle = c.in-Ok.ensures.idle;
      empty = λ _. c.in-Ok.ensures.empty;
      worlds = λ _. c.in-Ok.ensures.worlds;
    })

pub opened-requires-clause-numbered : goal.opened-requires-clause-numbered
opened-requires-clause-numbered g c κs within = c.in-Ok.ensures.numbered

pub check_entries-requires-send-P : goal.check_entries-requires-send-P
check_entries-requires-send-P g c κs within = search (sendable, crosses, told_port-send) depth 40 fits 100000

pub check_entries-requires-clause-named : goal.check_entries-requires-clause-named
check_entries-requires-clause-named g c κs within =
    λ r. c.requires.named r ∙ ap (λ (k : BoardView). gaps_by k c.args.lines.now r) (sym c.in-Ok-opened.ensures.of.board)

pub check_entries-requires-clause-plain : goal.check_entries-requires-clause-plain
check_entries-requires-clause-plain g c κs within = subst IsPlainBoard (sym c.in-Ok-opened.ensures.of.board) c.in-Ok-opened.ensures.of.plain

pub check_entries-requires-clause-rules : goal.check_entries-requires-clause-rules
check_entries-requires-clause-rules g c κs within = subst MeetsRules (sym c.in-Ok-opened.ensures.of.board) c.in-Ok-opened.ensures.of.rules

pub check_entries-requires-clause-some : goal.check_entries-requires-clause-some
check_entries-requires-clause-some g c κs within =
    some-opened c.args.board.now c.args.scripts.items c.requires.opened _ c.in-Ok-opened.core c.in-Ok-opened.ensures.of
    c.scripts_are_fair.ensures

pub check_entries-requires-clause-limits : goal.check_entries-requires-clause-limits
check_entries-requires-clause-limits g c κs within =
    limits-opened c.args.board.now c.args.scripts.items c.requires.opened _ c.in-Ok-opened.core c.in-Ok-opened.ensures.of
    c.scripts_are_fair.ensures

pub check_entries-requires-clause-wired : goal.check_entries-requires-clause-wired
check_entries-requires-clause-wired g c κs within =
    wired-opened c.args.board.now c.args.scripts.items c.requires.opened _ c.in-Ok-opened.core c.in-Ok-opened.ensures.of

pub check_entries-requires-clause-has : goal.check_entries-requires-clause-has
check_entries-requires-clause-has g c κs within =
    λ n low. has-opened c.args.board.now c.args.scripts.items c.requires.opened _ c.in-Ok-opened.core c.in-Ok-opened.ensures.of n
    (let count : c.len-count.result ≡ length c.args.scripts.items = c.len-count.ensures ∙ c.args.scripts.ok.0 in omega (arith, low, count))

pub check_entries-requires-clause-numbered : goal.check_entries-requires-clause-numbered
check_entries-requires-clause-numbered g c κs within =
    λ n none.
    let high = numbered-opened c.args.board.now c.args.scripts.items c.requires.opened _ c.in-Ok-opened.core c.in-Ok-opened.ensures.of n
    none in
    let count : c.len-count.result ≡ length c.args.scripts.items = c.len-count.ensures ∙ c.args.scripts.ok.0 in
    omega (arith, high, count)

pub check_entries-requires-clause-silent : goal.check_entries-requires-clause-silent
check_entries-requires-clause-silent g c κs within =
    λ n high. silent-opened c.args.board.now c.args.scripts.items c.requires.opened _ c.in-Ok-opened.core c.in-Ok-opened.ensures.of n
    (let count : c.len-count.result ≡ length c.args.scripts.items = c.len-count.ensures ∙ c.args.scripts.ok.0 in omega (arith, high, count))

pub take_apart-seats-requires-send-P : goal.take_apart-seats-requires-send-P
take_apart-seats-requires-send-P g c κs within = search (sendable, crosses, told_port-send) depth 40 fits 100000

pub returns-in-Ok-check_entries-clause-checked : goal.returns-in-Ok-check_entries-clause-checked
returns-in-Ok-check_entries-clause-checked g c =
    let apart = c.take_apart-seats.ensures in
    been-checked c.args.board.now c.args.scripts.items c.requires.opened _ c.in-Ok-opened.core c.in-Ok-opened.ensures.of c.len-count.result
    (c.len-count.ensures ∙ c.args.scripts.ok.0) (entries_of c.args.lines.now) c.in-Ok-check_entries.core c.in-Ok-check_entries.ensures.ok
    c.take_apart-seats.result apart.scripts apart.taken _ apart.worlds _ apart.logs apart.journal

pub returns-in-Err-clause-wrong : goal.returns-in-Err-clause-wrong
returns-in-Err-clause-wrong g c =
    inr (wrong-opened c.args.board.now c.args.scripts.items c.requires.opened _ c.in-Ok-opened.core c.in-Ok-opened.ensures.of
    c.len-count.result
    (c.len-count.ensures ∙ c.args.scripts.ok.0) (entries_of c.args.lines.now) c.in-Err.fault c.in-Err.ensures.wrong)
