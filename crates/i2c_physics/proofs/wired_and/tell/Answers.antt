use Rattle.i2c_physics.proofs.Cited.{◌≡◌, ◌+◌, ◌-◌, ◌<◌, ◌∷◌, length, get_or, ap, ◌∙◌, sym, refl, arith, if◌then◌else◌, has_heard}
use Rattle.i2c_physics.proofs.Cited.{wired_and_of, numbers_of}
use Rattle.i2c_physics.proofs.NumberLemmas.{rising-length}
use Rattle.i2c_physics.proofs.WiredAndLemmas.{untold-fed, untold-answered, told-within, told-fed, told-answered}
use Rattle.i2c_physics.proofs.wired_and.tell.Goals as goal

pub loop-left-init : goal.loop-left-init
loop-left-init g c =
    let t = g.T.Target.table in
    let numbers = c.args.numbers.now in
    let xs = c.args.targets.now in
    record {
      in_range = omega arith;
      fed = untold-fed t c.args.event numbers xs;
      answered = c.silence-wired_and.ensures ∙ ap wired_and_of (sym (untold-answered t c.args.event numbers xs));
      heard = c.clear.ensures ∙ ap numbers_of (sym (untold-answered t c.args.event numbers xs));
      room = omega (arith, ap length c.clear.ensures, rising-length 0 (length xs) numbers c.requires.rising);
    }

pub prove-unreachable-requires : goal.prove-unreachable-requires
prove-unreachable-requires g c =
    let within = told-within c.args.numbers.now c.loop-left.left (c.loop-left.left - 1) c.from.result (length c.args.targets.now)
    c.requires.rising (omega arith) (omega arith) c.from.ensures in
    absurd (omega (arith, within, c.loop-left.auto.targets, c.if-prove.true))

pub loop-left-preserved : goal.loop-left-preserved
loop-left-preserved g c =
    let t = g.T.Target.table in
    let numbers = c.args.numbers.now in
    let xs = c.args.targets.now in
    let left = c.loop-left.left in
    let now = c.loop-left.targets in
    let n = c.from-in-loop-left.result in
    let one : left ≡ left - 1 + 1 = omega arith in
    let short : left - 1 < length numbers = omega arith in
    let here = get_or numbers (left - 1) 0 in
    let d = c.index-targets-from.result in
    let fed = c.loop-left.invariant.fed in
    let said = sym (told-answered numbers left (left - 1) n
    (length xs) c.requires.rising one short c.from-in-loop-left.ensures t c.args.event xs now d refl fed
    c.on-answer.result c.on-answer.ensures.answer) in
    record {
      in_range = omega arith;
      fed = told-fed numbers left (left - 1) n
          (length xs) c.requires.rising one short c.from-in-loop-left.ensures t c.args.event xs now d refl fed
          c.on-answer.new.self c.on-answer.ensures.after;
      answered = c.add.ensures here _ c.loop-left.invariant.answered ∙ ap wired_and_of said;
      heard = c.hear.ensures.items ∙ ap (λ ns. if has_heard c.on-answer.result then here ∷ ns else ns) c.loop-left.invariant.heard
          ∙ ap numbers_of said;
      room = omega arith;
    }
