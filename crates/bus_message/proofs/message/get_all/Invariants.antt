use Rattle.bus_message.proofs.Cited.{◌≡◌, ℕ, ◌+◌, ◌-◌, ◌<◌, ◌≤◌, List, Option, Some, IsTrue, length, nat_lt, count_of, PortCall, World}
use Rattle.bus_message.proofs.Cited.{TalkTold, world_listener, gets, Reaches}
use Rattle.i2c_base.specs.Phases.{phase_got}
use Rattle.bus_message.proofs.message.get_all.Given as goal

abbrev pub invariant-loop-count : goal.invariant-loop-count
invariant-loop-count g l =
    record {
      phase : g.P.Port.phase l.port ≡ phase_got (nat_lt l.count l.len);
      got : length l.got ≡ length l.initial.got + l.count;
      first : 0 < length l.initial.got → count_of l.got ≡ count_of l.initial.got;
      log : IsTrue g.P.Port.tells → length (g.P.Port.log l.port) ≤ length (g.P.Port.log l.initial.port) + l.count;
      later : g.P.Port.faults l.initial.port ≤ g.P.Port.faults l.port;
      setup : g.P.Port.setup l.port ≡ g.P.Port.setup l.initial.port;
      -- what was said and what is left are the whole, for each place of failure from here on
      said : IsTrue g.P.Port.tells → (cut : Option ℕ) → ((k : ℕ) → cut ≡ Some k → l.calls + l.count ≤ k)
          → (whole : TalkTold World) (before : List PortCall)
          → Reaches whole (gets world_listener cut l.last l.len) before l.calls l.initial.got (g.P.Port.world l.initial.port)
          (g.P.Port.log l.initial.port)
          → Reaches whole (gets world_listener cut l.last (l.len - l.count)) before (l.calls + l.count) l.got (g.P.Port.world l.port)
          (g.P.Port.log l.port);
    }
