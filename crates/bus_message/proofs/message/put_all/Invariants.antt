use Rattle.bus_message.proofs.Cited.{◌≡◌, ℕ, ◌+◌, ◌≤◌, List, [], Option, Some, IsTrue, length, PortCall, World, TalkTold, world_listener}
use Rattle.bus_message.proofs.Cited.{puts, Reaches}
use Rattle.std.proofs.Common.{take, drop}
use Rattle.i2c_base.specs.declared.port.Phase.TheVariants.{Writing}
use Rattle.bus_message.proofs.message.put_all.Given as goal

abbrev pub invariant-loop-byte : goal.invariant-loop-byte
invariant-loop-byte g l =
    record {
      phase : g.P.Port.phase l.port ≡ Writing;
      calls : l.calls ≡ l.byte-index + 1;
      sent : l.sent ≡ take l.byte-index l.bytes;
      log : IsTrue g.P.Port.tells → length (g.P.Port.log l.port) ≤ length (g.P.Port.log l.initial.port) + l.byte-index;
      later : g.P.Port.faults l.initial.port ≤ g.P.Port.faults l.port;
      setup : g.P.Port.setup l.port ≡ g.P.Port.setup l.initial.port;
      -- what was said and what is left are the whole, for each place of failure from here on
      said : IsTrue g.P.Port.tells → (cut : Option ℕ) → ((k : ℕ) → cut ≡ Some k → l.calls ≤ k)
          → (whole : TalkTold World) (before : List PortCall)
          → Reaches whole (puts world_listener cut l.last l.bytes) before 1 [] (g.P.Port.world l.initial.port) (g.P.Port.log l.initial.port)
          → Reaches whole (puts world_listener cut l.last (drop l.byte-index l.bytes)) before l.calls l.sent (g.P.Port.world l.port)
          (g.P.Port.log l.port);
    }
