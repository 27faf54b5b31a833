use Rattle.i2c_top.proofs.Cited.{◌≡◌, Option, map, string_bytes, subst, Outside, outside, HasEnded}
use Rattle.i2c_top.specs.forms.{Request, request_in}
use Rattle.i2c_top.specs.forms.Atrs.{map_row}
use Rattle.i2c_top.proofs.ExtraLemmas.{ended_written}
use Rattle.i2c_top.proofs.CachedLemmas.{ended_cached}
use Rattle.i2c_top.proofs.CheckLemmas.{ended_checked}
use Rattle.i2c_top.proofs.ClearLemmas.{ended_cleared}
use Rattle.i2c_top.proofs.GenerationLemmas.{ended_generated}
use Rattle.i2c_top.proofs.ReplayLemmas.{ended_replayed}
use Rattle.i2c_top.proofs.VerifyLemmas.{ended_verified}
use Rattle.i2c_top.proofs.program.top.Goals as goal
use Rattle.i2c_top.proofs.program.top.Goals.{After-answer}

-- the form that the words are in has ended
module _ (g : _) (c : After-answer g) where
  abbrev old : Outside
  old = outside g.S.Shelf g.K.Sink g.R.Rig g.R.P.Port.tells c.args.shelf.now c.args.sink.now c.args.rig.now

  abbrev new : Outside
  new = outside g.S.Shelf g.K.Sink g.R.Rig g.R.P.Port.tells c.answer.new.shelf c.answer.new.sink c.answer.new.rig

  ended : (form : Option Request) → request_in (map string_bytes c.args.words.now) ≡ form → HasEnded form old new c.answer.result
  ended form same = subst (λ q. HasEnded q old new c.answer.result) same c.answer.ensures.ended

pub returns-clause-success : goal.returns-clause-success
returns-clause-success g c =
    λ shelf sink rig ports names same ok. ended_replayed names _ _ c.answer.result (ended g c _ same) shelf sink rig ports ok

pub returns-clause-checked : goal.returns-clause-checked
returns-clause-checked g c =
    λ shelf sink board same ok. ended_checked board _ _ c.answer.result (ended g c _ same) shelf sink ok

pub returns-clause-generated : goal.returns-clause-generated
returns-clause-generated g c =
    λ sink rig ports plan same ok. ended_generated plan _ _ c.answer.result (ended g c _ same) sink rig ports ok

pub returns-clause-verified : goal.returns-clause-verified
returns-clause-verified g c =
    λ shelf sink names same ok. ended_verified names _ _ c.answer.result (ended g c _ same) shelf sink ok

pub returns-clause-translated : goal.returns-clause-translated
returns-clause-translated g c =
    λ shelf sink rig ports names same ok. ended_written map_row names _ _ c.answer.result (ended g c _ same) shelf sink rig ports ok

pub returns-clause-cached : goal.returns-clause-cached
returns-clause-cached g c =
    λ shelf sink rig ports names same ok. ended_cached names _ _ c.answer.result (ended g c _ same) shelf sink rig ports ok

pub returns-clause-cleared : goal.returns-clause-cleared
returns-clause-cleared g c =
    λ shelf sink board at same ok. ended_cleared board at _ _ c.answer.result (ended g c _ same) shelf sink ok
