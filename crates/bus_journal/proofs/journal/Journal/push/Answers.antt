use Rattle.bus_journal.proofs.Cited.{◌<◌, [], ◌∷◌, ◌++◌, arith, sym, ap, subst, ◌∙◌, common_steps, entries_of, JournalView}
use Rattle.bus_journal.specs.Borrowed.{entry_seen}
use Rattle.bus_journal.proofs.Told.{entries_of-push, text-push}
use Rattle.bus_journal.proofs.journal.Journal.push.Goals as goal

pub invariant_of-self : goal.invariant_of-self
invariant_of-self c =
    let j = c.self.inside in
    let e = c.args.entry.now in
    let left : 0 < j.room = subst (λ (v : JournalView). 0 < v.room) (sym c.self.view_is) c.requires.room in (
      text-push j.text.items c.append.new.text.items j.most j.room j.start c.len-start.result j.last (entries_of j.text.items) e.head
          e.bytes.now c.self.invariant.0 left (c.len-start.ensures ∙ j.text.ok.0) c.entry_is_in_range.ensures c.append.ensures.text,
      grind (arith, common_steps),
    )

pub returns-clause-entries : goal.returns-clause-entries
returns-clause-entries c =
    let j = c.self.inside in
    let e = entry_seen c.args.entry.now in
    entries_of-push j.text.items c.append.new.text.items j.most j.room j.start j.last (entries_of j.text.items) e c.self.invariant.0
    c.entry_is_in_range.ensures c.append.ensures.text
    ∙ ap (λ (v : JournalView). v.entries ++ e ∷ []) c.self.view_is
