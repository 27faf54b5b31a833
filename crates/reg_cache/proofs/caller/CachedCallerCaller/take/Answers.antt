use Rattle.reg_cache.proofs.Cited.{◌≡◌, ◌++◌, List, [], ◌∷◌, Some, sym, ◌∙◌, ap, subst, Covers, reply_by, Reply, owed_by, asked_by}
use Rattle.reg_cache.proofs.Cited.{ScriptView, Kept, known, answered, CachedScript, CachedView, cached, taken_of, HasAnsweredAll, IsCached}
use Rattle.reg_cache.proofs.CacheLemmas.{IsTaken, take-all, learned-held, cached-asks, cached-room}
use Rattle.reg_cache.proofs.caller.CachedCallerCaller.take.Goals as goal
use Rattle.reg_cache.proofs.caller.CachedCallerCaller.take.Goals.{After-answer_hits}

pub take-requires-clause-fits : goal.take-requires-clause-fits
take-requires-clause-fits c = (
  c.requires.fits.0,
  cached-asks (record { script = c.self.inside.script.script; devices = c.self.inside.devices.value.items })
      c.self.inside.script.taken c.self.inside.kept.items c.self.inside.script.spare c.args.self.now c.self.invariant.0 c.self.view_is
      ∙ c.requires.fits.1,
  c.requires.fits.2,
)

pub take-requires-clause-room : goal.take-requires-clause-room
take-requires-clause-room c =
    cached-room (record { script = c.self.inside.script.script; devices = c.self.inside.devices.value.items })
    c.self.inside.script.taken c.self.inside.kept.items c.self.inside.script.spare c.args.self.now c.self.invariant.0 c.self.view_is
    c.requires.room

module _ (c : After-answer_hits) where
  abbrev opened : CachedScript
  opened = record { script = c.self.inside.script.script; devices = c.self.inside.devices.value.items }

  abbrev answer : Reply
  answer = reply_by c.args.head c.args.bytes.now

  same : c.answer_hits.new.script.script ≡ c.self.inside.script.script
  same = c.answer_hits.ensures.script ∙ c.take.ensures.script

  taken : IsTaken opened c.self.inside.script.taken c.answer_hits.new.script.taken answer c.answer_hits.new.kept.items
  taken =
      let asked : asked_by c.self.inside.script.script c.self.inside.script.taken ≡ Some c.requires.fits.0 =
      cached-asks opened c.self.inside.script.taken c.self.inside.kept.items c.self.inside.script.spare c.args.self.now c.self.invariant.0
      c.self.view_is ∙ c.requires.fits.1 in
      take-all c.scripts_are_fair.ensures opened c.self.inside.script.taken c.answer_hits.new.script.taken answer c.self.inside.kept.items
      c.learn_of.new.kept.items c.answer_hits.new.kept.items c.requires.fits.0 c.self.invariant.0 asked
      (c.learn_of.ensures
      ∙ learned-held c.self.inside.kept.items c.self.inside.transfer c.requires.fits.0 answer
      (λ some. c.self.invariant.1 some c.requires.fits.0 asked))
      (subst (λ (s : ScriptView). (ks : List Kept) → c.learn_of.new.kept.items ≡ known (asked_by s) ks
      (c.self.inside.script.taken ++ answer ∷ [])
      → HasAnsweredAll s ks (c.self.inside.script.taken ++ answer ∷ []) c.answer_hits.new.script.taken c.answer_hits.new.kept.items)
      c.take.ensures.script
      (subst (λ (l : List Reply). (ks : List Kept) → c.learn_of.new.kept.items ≡ known (asked_by c.take.new.self.script) ks l
      → HasAnsweredAll c.take.new.self.script ks l c.answer_hits.new.script.taken c.answer_hits.new.kept.items)
      c.take.ensures.taken c.answer_hits.ensures.all))

pub invariant_of-self : goal.invariant_of-self
invariant_of-self c = (
  subst (λ (s : ScriptView). IsCached (record { script = s; devices = c.self.inside.devices.value.items }) c.answer_hits.new.script.taken
      c.answer_hits.new.kept.items) (sym (same c)) (taken c).cached,
  c.answer_hits.ensures.holds,
)

pub returns-clause-taken : goal.returns-clause-taken
returns-clause-taken c =
    ap (λ (s : ScriptView). taken_of (record { script = s; devices = c.self.inside.devices.value.items }) c.answer_hits.new.script.taken)
    (same c)
    ∙ (taken c).taken
    ∙ ap (λ (z : CachedView). z.taken ++ reply_by c.args.head c.args.bytes.now ∷ []) c.self.view_is

pub returns-clause-room : goal.returns-clause-room
returns-clause-room c =
    subst (λ (l : List Reply). Covers c.answer_hits.new.script.spare (owed_by c.answer_hits.new.script.script l))
    (sym (subst (λ (s : ScriptView). answered (cached (record { script = s; devices = c.self.inside.devices.value.items }))
    (taken_of (record { script = s; devices = c.self.inside.devices.value.items }) c.answer_hits.new.script.taken)
    ≡ c.answer_hits.new.script.taken)
    (sym (same c)) (taken c).cached.whole)) c.answer_hits.ensures.room
