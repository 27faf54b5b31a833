use Rattle.bus_message.proofs.Cited.{◌≡◌, true, false, refl, ◌∙◌, ap, inl, arith, length, length-append, common_steps, PortCall, has_heard}
use Rattle.i2c_spec.specs.World.{answer as answer_of}
use Rattle.bus_message.proofs.EndLemmas.{idle_starts, rose_from}
use Rattle.bus_message.proofs.MessageLemmas.{starts}
use Rattle.bus_message.proofs.TalkLemmas.{cut_after, started}
use Rattle.bus_message.proofs.message.send_message.Goals as goal

pub after_start-requires : goal.after_start-requires
after_start-requires g c = grind (arith, common_steps)

pub returns-in-Err-clause-sent : goal.returns-in-Err-clause-sent
returns-in-Err-clause-sent g c root =
    record {
      addr = grind (arith, common_steps);
      reading = grind (arith, common_steps);
      spoke = record {
        root = refl;
        setup = c.in-Err.ensures.setup;
        start = idle_starts _ c.in-Err.ensures.failed;
        idle = inl c.in-Err.ensures.failed;
        grows = λ tells. omega (arith, ap length (c.in-Err.ensures.log_failed tells), length-append {A = PortCall});
        few = grind (arith, common_steps);
      };
      moved = record { read = grind (arith, common_steps); written = grind (arith, common_steps) };
      told = grind (arith, common_steps);
      acked = false;
      named = refl;
      failed = λ f. refl;
      answered = λ tells f. absurd (let h : true ≡ false = f in cc);
    }

pub returns-in-Ok-clause-sent : goal.returns-in-Ok-clause-sent
returns-in-Ok-clause-sent g c root =
    let m = c.args.message.now in
    let done = c.after_start.ensures.ended in
    record {
      addr = ap (λ m. m.addr) c.message.view_is;
      reading = ap (λ m. m.reading) c.message.view_is;
      spoke = record {
        root = refl;
        setup = done.setup ∙ c.in-Ok.ensures.setup;
        start = done.start;
        idle = done.idle;
        grows = λ tells. omega (arith, done.grows tells, ap length (c.in-Ok.ensures.log tells), length-append {A = PortCall});
        few = omega (arith, done.few);
      };
      moved = c.after_start.ensures.moved;
      told = λ tells. done.told tells _ _
          (starts c.args.limit m c.message.inside.addr c.message.inside.reading c.args.last _ c.in-Ok.answer
          (g.P.Port.world c.args.port.now) (g.P.Port.world c.start.new.self) (g.P.Port.log c.args.port.now) (g.P.Port.log c.start.new.self)
          (ap (λ m. m.addr) c.message.view_is) (ap (λ m. m.reading) c.message.view_is)
          (cut_after c.after_start.result 1 (λ q e. (done.fails.place q e).0))
          (c.in-Ok.ensures.answer tells) (c.in-Ok.ensures.world tells) (c.in-Ok.ensures.log tells));
      acked = has_heard c.in-Ok.answer;
      named = c.heard_by.ensures;
      failed = λ f. absurd (started c.after_start.result (λ q e. (done.fails.place q e).0) f);
      answered = λ tells f. ap has_heard (c.in-Ok.ensures.answer tells
          ∙ ap (λ x. answer_of (g.P.Port.world c.args.port.now) x c.message.inside.reading) (ap (λ m. m.addr) c.message.view_is)
          ∙ ap (answer_of (g.P.Port.world c.args.port.now) m.addr) (ap (λ m. m.reading) c.message.view_is));
    }

pub returns-in-Err-clause-fails : goal.returns-in-Err-clause-fails
returns-in-Err-clause-fails g c = record {
  place = λ q e. (let same : 0 ≡ q = cc in (omega arith, omega (arith, same)));
  cause = λ q e. c.in-Err.ensures.cause;
}

pub returns-in-Err-clause-later : goal.returns-in-Err-clause-later
returns-in-Err-clause-later g c = c.in-Err.ensures.later

pub returns-in-Ok-clause-fails : goal.returns-in-Ok-clause-fails
returns-in-Ok-clause-fails g c =
    let done = c.after_start.ensures.ended in
    record {
      place = λ q e. (let at = done.fails.place q e in (omega arith, omega (arith, at.1)));
      cause = λ q e. rose_from _ _ _ c.in-Ok.ensures.later (done.fails.cause q e);
    }

pub returns-in-Ok-clause-later : goal.returns-in-Ok-clause-later
returns-in-Ok-clause-later g c = omega (arith, c.in-Ok.ensures.later, c.after_start.ensures.ended.later)

pub start-requires-clause-phase : goal.start-requires-clause-phase
start-requires-clause-phase g c = grind (arith, common_steps)

pub start-requires-clause-room : goal.start-requires-clause-room
start-requires-clause-room g c = grind (arith, common_steps)
