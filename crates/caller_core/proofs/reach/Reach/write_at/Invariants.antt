use Rattle.caller_core.proofs.Cited.{◌≡◌, nat_lt, ◌&&◌, stands_at, AreMarked}
use Rattle.caller_core.proofs.reach.Reach.write_at.Given as goal

abbrev pub invariant-loop-number : goal.invariant-loop-number
invariant-loop-number l =
    record {
      forced : l.self.forced ≡ l.fn.self.forced;
      written : AreMarked (λ d. nat_lt d l.number && stands_at l.board l.bus l.addr d) l.fn.self.written l.self.written;
    }
