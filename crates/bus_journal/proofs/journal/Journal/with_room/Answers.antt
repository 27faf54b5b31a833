use Rattle.bus_journal.proofs.Cited.{ℕ, List, arith, sym, subst, ap, ◌∙◌, None, common_steps, entries_of, IsTextOf, JournalView, Entry}
use Rattle.bus_journal.proofs.Told.{entries_of-nil, text-empty}
use Rattle.bus_journal.proofs.journal.Journal.with_room.Goals as goal

pub invariant_of-result : goal.invariant_of-result
invariant_of-result c = (
  subst (λ (text : List ℕ). IsTextOf text c.args.entries c.args.entries 0 None (entries_of text)) (sym c.in_ok-text.ensures.items)
      (text-empty c.args.entries),
  grind (arith, common_steps),
)

pub returns : goal.returns
returns c =
    let view : List Entry → JournalView = λ es. record { entries = es; room = c.args.entries; room_bytes = c.args.bytes } in
    ap (λ (text : List ℕ). view (entries_of text)) c.in_ok-text.ensures.items ∙ ap view entries_of-nil
