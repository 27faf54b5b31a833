use Rattle.caller_core.proofs.Cited.{◌≡◌, take, list_any, addrs_of, AreMarked}
use Rattle.std.proofs.Common.{◌==◌}
use Rattle.caller_core.proofs.reach.Reach.force_all.Given as goal

abbrev pub invariant-loop-message : goal.invariant-loop-message
invariant-loop-message l =
    record {
      forced : AreMarked (λ addr. list_any (λ a. a == addr) (addrs_of (take l.message-index l.messages))) l.fn.self.forced l.self.forced;
      written : l.self.written ≡ l.fn.self.written;
    }
