use Rattle.bus_core.proofs.Cited.{◌∙◌, ap, subst, sym, Sent, IsLookedAt, updates_ahead, Seat}
use Rattle.mux_plan.specs.Rooms.{IsStep}
use Rattle.bus_core.proofs.Looking.{rest-looked}
use Rattle.bus_core.proofs.Reseating.{heard}
use Rattle.bus_core.proofs.seat.Seat.message_done.Goals as goal

pub record_msg-requires : goal.record_msg-requires
record_msg-requires g c = c.requires.hears

pub updates-requires : goal.updates-requires
updates-requires g c = subst (λ (s : Seat _). IsStep s.walk.looked) (sym c.record_msg.ensures.same) c.requires.step

pub advance_walk-requires : goal.advance_walk-requires
advance_walk-requires g c = subst (λ (s : Seat _). IsStep s.walk.looked) (sym c.record_msg.ensures.same) c.requires.step

pub returns : goal.returns
returns g c =
    let h = c.record_msg.ensures in
    let on = c.advance_walk.ensures in
    record {
      heard = λ v looked. heard v c.args.self.now c.record_msg.new.self c.advance_walk.new.self c.args.next.now c.args.bytes.now
          c.args.msg.now
          h.same on.same h.gone h.got h.wrote (on.walk ∙ rest-looked v c.record_msg.new.self (Sent c.args.msg.now.end c.args.bytes.now)
          (subst (IsLookedAt v) (sym h.same) looked)) on.route;
      updates = c.updates.ensures ∙ ap (updates_ahead (Sent c.args.msg.now.end c.args.bytes.now)) h.same;
      fresh = on.fresh;
    }
