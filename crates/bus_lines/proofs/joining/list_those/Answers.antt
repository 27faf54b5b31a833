use Rattle.bus_lines.proofs.Cited.{length-set, get_or, sym, ap, ◌∙◌, arith, ◌&&◌, refl, joins_by, states_on, known, is_among, drop_all}
use Rattle.bus_lines.proofs.JoinLemmas.{states_set}
use Rattle.bus_lines.proofs.KnownLemmas.{read_those, each_read, read_next}
use Rattle.bus_lines.proofs.ListedLemmas.{listed_next, listed_known, take_whole}
use Rattle.bus_lines.proofs.NumberedLemmas.{among_at}
use Rattle.bus_lines.proofs.joining.list_those.Goals as goal

pub prove-unreachable-requires : goal.prove-unreachable-requires
prove-unreachable-requires c =
    let ns = c.args.numbers.now in
    let i = c.loop-number.number-index in
    let low = c.requires.numbers.below (get_or ns i 0) (among_at ns i c.loop-number-test.true) in
    absurd (omega (arith, low, c.from-place.ensures, c.if-prove.true, c.loop-number.invariant.count))

pub add_if-requires : goal.add_if-requires
add_if-requires c =
    let ns = c.args.numbers.now in
    let i = c.loop-number.number-index in
    let low = c.requires.numbers.below (get_or ns i 0) (among_at ns i c.loop-number-test.true) in
    omega (arith, low, c.requires.room, c.loop-number.invariant.room)

pub loop-number-preserved : goal.loop-number-preserved
loop-number-preserved c =
    let places = c.args.places.now in
    let joins = joins_by places (states_on c.args.targets.now) in
    let ns = c.args.numbers.now in
    let i = c.loop-number.number-index in
    let n = c.from-place.result in
    let now = c.loop-number.targets in
    let was = c.loop-number.invariant in
    let at = c.index-targets-place.result in
    let new = c.set_known.new.target in
    let read = c.joins_by-joined.ensures ∙ ap (λ xs. joins_by places xs n) was.states in
    record {
      count = length-set now n new ∙ was.count;
      states = states_set n now at new (ap (λ b. b.site.state) c.set_known.ensures) ∙ was.states;
      targets = read_next joins ns i n c.loop-number-test.true c.from-place.ensures now at new c.if-prove.false
          (c.set_known.ensures ∙ ap (λ j. known j (get_or now n at)) read)
          ∙ was.targets;
      room = c.add_if.ensures.room ∙ was.room;
      among = λ k. c.add_if.ensures.among k
          ∙ listed_next joins ns i n k (is_among c.loop-number.list.items k) c.joins_by-joined.result c.loop-number-test.true
          c.from-place.ensures (was.among k) read;
    }

pub returns-clause-targets : goal.returns-clause-targets
returns-clause-targets c =
    let joins = joins_by c.args.places.now (states_on c.args.targets.now) in
    let ns = c.args.numbers.now in
    let over = drop_all ns c.loop-number.number-index c.loop-number-test.false in
    sym (ap (λ ms. read_those joins ms c.loop-number.targets) over) ∙ c.loop-number.invariant.targets
    ∙ each_read joins ns c.args.targets.now

pub returns-clause-listed : goal.returns-clause-listed
returns-clause-listed c =
    let joins = joins_by c.args.places.now (states_on c.args.targets.now) in
    let ns = c.args.numbers.now in
    let i = c.loop-number.number-index in
    let over = drop_all ns i c.loop-number-test.false in
    let all = sym (ap (λ ms. read_those joins ms c.loop-number.targets) over) ∙ c.loop-number.invariant.targets
    ∙ each_read joins ns c.args.targets.now in
    λ k. c.loop-number.invariant.among k
    ∙ ap (λ ms. is_among ms k && joins k) (take_whole ns i c.loop-number-test.false)
    ∙ listed_known c.args.places.now ns c.args.targets.now c.loop-number.targets all c.loop-number.invariant.count c.requires.numbers k
    (is_among ns k) refl
