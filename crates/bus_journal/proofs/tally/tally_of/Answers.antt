use Rattle.bus_journal.proofs.Cited.{ℕ, List, sym, ◌∙◌, ap, subst, arith, Entry, entry_of, plus, Fits, Tally}
use Rattle.bus_journal.proofs.TallyLemmas.{IsNext, IsCounted, some-left, none-left, counted_last, counted_next}
use Rattle.bus_journal.proofs.tally.tally_of.Goals as goal

-- the line that was cut off is that of the next entry
abbrev Next : (entries : List Entry) (text rest line behind : List ℕ) (t : Tally) → Type 0
Next entries text rest line behind t = IsNext entries text rest behind t (entry_of line)

pub plus-tally-requires : goal.plus-tally-requires
plus-tally-requires c =
    let next : Next c.args.journal.now.entries c.text-rest.result.now c.loop-rest.rest.now c.split_line.result.0.now
    c.split_line.result.1.now
    c.loop-rest.tally = counted_next c.args.journal.now.entries c.text-rest.result.now c.loop-rest.rest.now c.split_line.result.0.now
    c.split_line.result.1.now c.loop-rest.tally (some-left c.loop-rest.rest.now (sym c.is_empty.ensures ∙ c.loop-rest-test.true))
    (omega arith)
    c.loop-rest.invariant c.split_line.ensures.parts in
    subst (λ (t : Tally). Fits (plus c.loop-rest.tally t)) (sym c.tally_of_line.ensures) next.fits

next : (c : goal.After-plus-tally) → Next c.args.journal.now.entries c.text-rest.result.now c.loop-rest.rest.now c.split_line.result.0.now
    c.split_line.result.1.now c.loop-rest.tally
next c =
    counted_next c.args.journal.now.entries c.text-rest.result.now c.loop-rest.rest.now c.split_line.result.0.now c.split_line.result.1.now
    c.loop-rest.tally
    (some-left c.loop-rest.rest.now (sym c.is_empty.ensures ∙ c.loop-rest-test.true))
    (omega arith) c.loop-rest.invariant c.split_line.ensures.parts

pub loop-rest-smaller : goal.loop-rest-smaller
loop-rest-smaller c = (next c).shorter

pub loop-rest-preserved : goal.loop-rest-preserved
loop-rest-preserved c =
    subst (IsCounted c.args.journal.now.entries c.text-rest.result.now c.split_line.result.1.now)
    (sym (c.plus-tally.ensures ∙ ap (plus c.loop-rest.tally) c.tally_of_line.ensures)) (next c).counted

pub returns : goal.returns
returns c =
    counted_last c.args.journal.now.entries c.text-rest.result.now c.loop-rest.rest.now c.loop-rest.tally
    (none-left c.loop-rest.rest.now (sym c.is_empty.ensures ∙ c.loop-rest-test.false)) c.loop-rest.invariant
