use Rattle.bus_core.proofs.Cited.{◌≡◌, ◌⊎◌, ◌<◌, false, true, [], ◌∷◌, ◌++◌, Option, sym, ◌∙◌, ap, subst, arith, take, sum_by, Reply}
use Rattle.bus_core.proofs.Cited.{Covers, TransferView, written_of, buses, root_of, walk_for, WalkTree, IsLone, roots_of, HasRoot, owed_by}
use Rattle.bus_core.proofs.Cited.{reply_decided, Decided, Seat}
use Rattle.bus_core.proofs.SeatLemmas.{same_owed, asks_or_not}
use Rattle.bus_core.proofs.There.{there-for}
use Rattle.bus_core.proofs.seat.Seat.end.Goals as goal

pub hand-requires-clause-fits : goal.hand-requires-clause-fits
hand-requires-clause-fits g c =
    let r = c.args.self.now.replies in
    c.requires.may.fits (reply_decided c.in-Some.decided r) (ap (λ (d : Option Decided). owed_by d r) c.in-Some.is)

pub returns-in-Some-clause-ended : goal.returns-in-Some-clause-ended
returns-in-Some-clause-ended g c =
    λ over r owed.
    let s = c.args.self.now in
    let same = c.load.ensures.same in
    let caller : c.load.new.self.caller ≡ c.hand.new.self.caller = ap (λ (t : Seat g.row.C.Denot). t.caller) same in
    let asks = λ (k : g.row.C.Denot). g.C.Caller.asked (g.C.Caller.script k) (g.C.Caller.taken k) in
    record {
      number = ap (λ (t : Seat g.row.C.Denot). t.number) same ∙ ap (λ (t : Seat g.row.C.Denot). t.number) c.hand.ensures.same;
      cut_is = ap (λ (t : Seat g.row.C.Denot). t.cut) same ∙ ap (λ (t : Seat g.row.C.Denot). t.cut) c.hand.ensures.same;
      handed = record {
        script = ap g.C.Caller.script caller ∙ c.hand.ensures.script;
        taken = ap g.C.Caller.taken caller ∙ c.hand.ensures.taken
            ∙ ap (λ (x : Reply). g.C.Caller.taken s.caller ++ x ∷ []) (same_owed s.decided s.replies c.in-Some.decided r c.in-Some.is owed);
      };
      loaded = record {
        some = λ x h. c.load.ensures.some x (ap asks (sym caller) ∙ h);
        none = λ h. c.load.ensures.none (ap asks (sym caller) ∙ h);
        sent = ap (λ (t : Seat g.row.C.Denot). t.sent) same;
        undecided = ap (λ (t : Seat g.row.C.Denot). t.decided) same;
        unread = c.load.ensures.cleared;
      };
      stays = λ h. c.load.ensures.stays (ap asks (sym caller) ∙ h) ∙ ap (λ (t : Seat g.row.C.Denot). t.transfer) c.hand.ensures.same;
    }

pub returns-in-Some-clause-seated : goal.returns-in-Some-clause-seated
returns-in-Some-clause-seated g c =
    let same = c.load.ensures.same in
    let new = c.load.new.self in
    let sent : new.sent ≡ 0 = ap (λ (t : Seat g.row.C.Denot). t.sent) same in
    record {
      on = c.load.ensures.on;
      wrote = ap (λ (t : Seat g.row.C.Denot). t.written) same ∙ ap (λ n. sum_by written_of (take n new.transfer.msgs)) (sym sent);
      within = omega (arith, sent);
      plugged = λ on bus. c.load.ensures.plugged
          (asks_or_not (g.C.Caller.asked (g.C.Caller.script c.hand.new.self.caller) (g.C.Caller.taken c.hand.new.self.caller)) _
          (λ t is. subst (λ (x : TransferView). HasRoot (roots_of c.args.ports.now) (root_of c.args.board.now x.bus))
          (sym (c.load.ensures.some t is).0)
          (c.requires.may.wired (g.C.Caller.taken c.hand.new.self.caller) t
          (ap (λ k. g.C.Caller.asked k (g.C.Caller.taken c.hand.new.self.caller)) (sym c.hand.ensures.script) ∙ is)
          (subst (λ (x : TransferView). x.bus < buses c.args.board.now) (c.load.ensures.some t is).0 bus)))
          (λ none. absurd (let f : true ≡ false = sym (c.load.ensures.none none) ∙ on in cc)))
          bus on;
      there = λ on. asks_or_not (g.C.Caller.asked (g.C.Caller.script c.hand.new.self.caller) (g.C.Caller.taken c.hand.new.self.caller)) _
          (λ t is. subst (λ (w : WalkTree). (new.transfer.bus < buses c.args.board.now) ⊎ IsLone c.args.board.now w)
          (sym (c.load.ensures.some t is).1)
          (subst (λ (x : TransferView). (x.bus < buses c.args.board.now) ⊎ IsLone c.args.board.now (walk_for c.args.board.now t))
          (sym (c.load.ensures.some t is).0) (there-for c.args.board.now t)))
          (λ none. absurd (let f : true ≡ false = sym (c.load.ensures.none none) ∙ on in cc));
      spare = subst (λ (k : g.row.C.Denot). Covers (g.C.Caller.spare k) (g.C.Caller.owed (g.C.Caller.script k) (g.C.Caller.taken k)))
          (sym (ap (λ (t : Seat g.row.C.Denot). t.caller) same)) c.hand.ensures.room;
    }
