use Rattle.reg_cache.proofs.Cited.{◌≡◌, ◌∙◌, sym, ap, subst, List, Covers, Reply, owed_by, ScriptView, answered, cached, taken_of}
use Rattle.std.specs.Result.{OnOk}
use Rattle.reg_cache.proofs.caller.CachedCallerCaller.reserve.Goals as goal

pub returns-clause-ok : goal.returns-clause-ok
returns-clause-ok c =
    subst (λ (l : List Reply). OnOk c.reserve.result (Covers c.reserve.new.self.spare (owed_by c.reserve.new.self.script l)))
    (sym (subst (λ (s : ScriptView). answered (cached (record { script = s; devices = c.self.inside.devices.value.items }))
    (taken_of (record { script = s; devices = c.self.inside.devices.value.items }) c.reserve.new.self.taken) ≡ c.reserve.new.self.taken)
    (sym c.reserve.ensures.script)
    (ap (λ (l : List Reply). answered (cached (record {
      script = c.self.inside.script.script;
      devices =
          c.self.inside.devices.value.items;
    }))
    (taken_of (record { script = c.self.inside.script.script; devices = c.self.inside.devices.value.items }) l)) c.reserve.ensures.taken
    ∙ c.self.invariant.0.whole ∙ sym c.reserve.ensures.taken))) c.reserve.ensures.ok
