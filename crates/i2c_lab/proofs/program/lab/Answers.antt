use Rattle.std.proofs.Common.{◌≡◌, ℕ, Bool, true, List, Option, None, Some, sym, ◌∙◌, ap, subst}
use Rattle.std.specs.Prelude.{map, string_bytes, if◌then◌else◌}
use Rattle.tools.specs.Readers.{word_at}
use Rattle.i2c_physics.specs.FailPorts.{logs_given}
use Rattle.i2c_top.specs.forms.Extras.{ExtraNames, extra_names}
use Rattle.i2c_lab.specs.Faults.{HasFailedAsListed, is_faults}
use Rattle.i2c_lab.specs.Lab.{Faults, Request, Session, Waves, request_in}
use Rattle.i2c_lab.specs.SessionForm.{is_session}
use Rattle.i2c_lab.specs.Waves.{is_waves}
use Rattle.i2c_lab.proofs.program.lab.Goals as goal

abbrev names_or : ExtraNames → Option Request → ExtraNames
names_or names None = names
names_or names (Some (Faults others)) = others
names_or names (Some (Waves others)) = others
names_or names (Some (Session board)) = names

-- what is asked for by words that are no replay with failing calls
abbrev other : List (List ℕ) → Option Request
other words =
    if is_waves words then Some (Waves (extra_names words)) else if is_session words then Some (Session (word_at words 1)) else None

asks_faults : (words : List (List ℕ)) → is_faults words ≡ true → request_in words ≡ Some (Faults (extra_names words))
asks_faults words is = ap (λ (b : Bool). if b then Some (Faults (extra_names words)) else other words) is

pub returns-then-is_faults-clause-failed : goal.returns-then-is_faults-clause-failed
returns-then-is_faults-clause-failed g c =
    λ t names same ok.
    let words = map string_bytes c.args.words.now in
    let told : Some (Faults (extra_names words)) ≡ Some (Faults names) =
    sym (asks_faults words (sym c.is_faults.ensures ∙ c.if-is_faults.true)) ∙ same in
    subst (λ (ns : ExtraNames). HasFailedAsListed (g.S.Shelf.file c.args.shelf.now) ns (logs_given c.faults_call.new.rig.given))
    (ap (names_or (extra_names words)) told) (c.faults_call.ensures.failed t ok)
