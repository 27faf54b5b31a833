use Rattle.caller_core.proofs.Cited.{◌≡◌, Some, sym, ap, ◌∙◌, arith, slice_get, replies_of, progress, asked_at, asked_by, CommandView}
use Rattle.caller_core.proofs.Cited.{CallerView}
use Rattle.caller_core.proofs.PlaceLemmas.{asks}
use Rattle.caller_core.proofs.TakeLemmas.{at_place}
use Rattle.caller_core.proofs.caller.ScriptCaller.refill.Goals as goal
use Rattle.caller_core.proofs.caller.ScriptCaller.refill.Goals.{After-get}

-- the command whose turn it is
abbrev command : After-get → CommandView
command c = record { echo = c.get.result.1.now; run = c.get.result.0.now }

there : (c : After-get) → slice_get c.self.inside.commands c.self.inside.turn ≡ Some (command c)
there c =
    let s = c.self.inside in
    at_place s.commands s.turn (command c) (omega (arith, c.if-self-len.false, c.len.ensures)) c.get.ensures

pub put-requires : goal.put-requires
put-requires c =
    let read = (goal.at.put-requires c).After-get in
    c.self.invariant.0.at.more (command read) (there read)

pub returns-clause-some : goal.returns-clause-some
returns-clause-some c _ =
    let s = c.self.inside in
    let read = (goal.at.returns-clause-some c).After-get in
    ap (λ (v : CallerView). asked_by v.script v.taken) (sym c.self.view_is)
    ∙ ap (λ cs. asked_at (progress cs (replies_of s.taken.items))) c.self.invariant.0.whole
    ∙ asks s.commands (replies_of s.taken.items) s.turn s.from s.place (command read) c.self.invariant.0.at (there read)
    ∙ ap Some (sym c.put.ensures)
