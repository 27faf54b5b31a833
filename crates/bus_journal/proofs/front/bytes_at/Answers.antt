use Rattle.bus_journal.proofs.Cited.{sym, ◌∙◌, arith, bytes_of}
use Rattle.bus_journal.proofs.FrontLemmas.{no_byte_more, taken}
use Rattle.bus_journal.proofs.front.bytes_at.Goals as goal

pub returns : goal.returns
returns c =
    omega (
      arith,
      c.min.ensures,
      taken (bytes_of c.args.text.now),
      c.loop-rest.invariant.counted,
      no_byte_more c.loop-rest.rest.now (sym c.begins_with_byte.ensures ∙ c.loop-rest-test.false),
    )
