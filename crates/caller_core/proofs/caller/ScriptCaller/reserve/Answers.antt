use Rattle.caller_core.proofs.Cited.{◌≡◌, ℕ, ◌≤◌, true, List, [], drop, refl, sym, subst, ◌∙◌, sum_by, IsCaller, HasRoom, KeptReply}
use Rattle.caller_core.proofs.Cited.{room_of, ScriptView}
use Rattle.caller_core.proofs.TakeLemmas.{covered, room_at_first, within_some}
use Rattle.caller_core.proofs.caller.ScriptCaller.reserve.Goals as goal
use Rattle.caller_core.proofs.caller.ScriptCaller.reserve.Goals.{After-make_room}

module _ (c : After-make_room) where
  abbrev script : ScriptView
  script = record { board = c.self.inside.board.value; text = c.self.inside.text.value.items }

  -- what it keeps is as it was
  same : IsCaller script c.self.inside.commands c.make_room_for_replies.new.taken.items c.make_room.new.out.bytes c.self.inside.turn
      c.self.inside.from c.self.inside.place c.self.inside.totals
  same =
      let s = c.self.inside in
      subst (λ (b : List ℕ). IsCaller script s.commands c.make_room_for_replies.new.taken.items b s.turn s.from s.place s.totals)
      (sym c.make_room.ensures.stays)
      (subst (λ (xs : List KeptReply). IsCaller script s.commands xs s.printed.bytes s.turn s.from s.place s.totals)
      (sym c.make_room_for_replies.ensures.stays) c.self.invariant.0)

  none : c.make_room_for_replies.new.taken.items ≡ []
  none = c.make_room_for_replies.ensures.stays ∙ c.self.invariant.1.untaken c.if-self.false

  room : (text : sum_by room_of (drop c.self.inside.turn c.self.inside.commands) ≤ c.make_room.new.out.room)
      → HasRoom c.self.inside.commands c.make_room_for_replies.new.taken c.make_room.new.out c.self.inside.turn
  room text =
      let s = c.self.inside in
      let ok = c.in_ok-make_room_for_replies.ensures.ok in
      room_at_first script s.commands c.make_room_for_replies.new.taken c.make_room.new.out s.turn s.from s.place s.totals same none
      ok.0 ok.1 text

pub invariant_of-self-2 : goal.invariant_of-self-2
invariant_of-self-2 c =
    let g = (goal.at.invariant_of-self-2 c).After-make_room in
    let text = within_some c.room_from.result _ _ c.in_ok-make_room.ensures.some c.room_from.ensures c.in_ok-make_room.ensures.ok in
    (same g, record { room = λ yes. room g text; untaken = λ other. absurd cc }, c.self.invariant.2)

pub returns-clause-ok : goal.returns-clause-ok
returns-clause-ok c =
    let s = c.self.inside in
    let g = (goal.at.returns-clause-ok c).After-make_room in
    let text = within_some c.room_from.result _ _ c.in_ok-make_room.ensures.some c.room_from.ensures c.in_ok-make_room.ensures.ok in
    covered (script g) s.commands c.make_room_for_replies.new.taken c.make_room.new.out s.turn s.from s.place s.totals true (same g)
    (room g text) refl
