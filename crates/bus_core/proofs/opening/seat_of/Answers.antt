use Rattle.bus_core.proofs.Cited.{◌≡◌, ◌⊎◌, ◌<◌, true, false, sym, ◌∙◌, ap, subst, arith, take, sum_by, TransferView, written_of, buses}
use Rattle.bus_core.proofs.Cited.{root_of, walk_for, WalkTree, IsLone, roots_of, HasRoot, Seat}
use Rattle.bus_core.specs.Places.{HasRoom}
use Rattle.bus_core.proofs.SeatLemmas.{asks_or_not}
use Rattle.bus_core.proofs.There.{there-for}
use Rattle.bus_core.proofs.opening.seat_of.Goals as goal

pub returns-clause-seat : goal.returns-clause-seat
returns-clause-seat g c =
    let same = c.load.ensures.same in
    let new = c.load.new.self in
    let script_of = g.C.Caller.script in
    let taken_of = g.C.Caller.taken in
    let asks = λ (k : g.row.C.Denot). g.C.Caller.asked (script_of k) (taken_of k) in
    let caller : new.caller ≡ c.args.caller = ap (λ (t : Seat g.row.C.Denot). t.caller) same ∙ c.resting-seat.ensures.caller in
    let sent : new.sent ≡ 0 = ap (λ (t : Seat g.row.C.Denot). t.sent) same in
    let old : asks c.resting-seat.result.caller ≡ asks c.args.caller = ap asks c.resting-seat.ensures.caller in
    record {
      number_is = ap (λ (t : Seat g.row.C.Denot). t.number) same ∙ c.resting-seat.ensures.number;
      script = ap script_of caller;
      taken = ap taken_of caller;
      loaded = record {
        some = λ x h. c.load.ensures.some x (old ∙ sym (ap asks caller) ∙ h);
        none = λ h. c.load.ensures.none (old ∙ sym (ap asks caller) ∙ h);
        sent = sent;
        undecided = ap (λ (t : Seat g.row.C.Denot). t.decided) same;
        unread = c.load.ensures.cleared;
      };
      looked = λ v. c.load.ensures.looked v (c.resting-seat.ensures.looked v);
      cut = ap (λ (t : Seat g.row.C.Denot). t.cut) same ∙ c.resting-seat.ensures.unused.cut;
      seated = λ wired.
          record {
            on = c.load.ensures.on;
            wrote = ap (λ (t : Seat g.row.C.Denot). t.written) same ∙ ap (λ n. sum_by written_of (take n new.transfer.msgs)) (sym sent);
            within = omega (arith, sent);
            plugged = λ on bus. c.load.ensures.plugged
                (asks_or_not (asks c.args.caller) _
                (λ t is. subst (λ (x : TransferView). HasRoot (roots_of c.args.ports.now) (root_of c.args.board.now x.bus))
                (sym (c.load.ensures.some t (old ∙ is)).0)
                (wired t is (subst (λ (x : TransferView). x.bus < buses c.args.board.now) (c.load.ensures.some t (old ∙ is)).0 bus)))
                (λ none. absurd (let f : true ≡ false = sym (c.load.ensures.none (old ∙ none)) ∙ on in cc)))
                bus on;
            there = λ on.
                asks_or_not (asks c.args.caller) _
                (λ t is.
                let first = c.load.ensures.some t (old ∙ is) in
                subst (λ (w : WalkTree). (new.transfer.bus < buses c.args.board.now) ⊎ IsLone c.args.board.now w) (sym first.1)
                (subst (λ (x : TransferView). (x.bus < buses c.args.board.now) ⊎ IsLone c.args.board.now (walk_for c.args.board.now t))
                (sym first.0) (there-for c.args.board.now t)))
                (λ none. absurd (let f : true ≡ false = sym (c.load.ensures.none (old ∙ none)) ∙ on in cc));
            spare = subst (HasRoom g.C.Caller) (sym caller) c.requires.room;
          };
    }
