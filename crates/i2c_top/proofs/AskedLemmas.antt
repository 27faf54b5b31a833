-- What the words ask for, by the tests of the forms.
use Rattle.i2c_top.proofs.Cited.{◌≡◌, ℕ, Bool, true, false, if◌then◌else◌, List, Some, refl}
use Rattle.i2c_top.specs.forms.{request_in, Verify}
use Rattle.i2c_top.specs.forms.Checks.{is_check}
use Rattle.i2c_top.specs.forms.Replays.{is_replay, is_run}
use Rattle.i2c_top.specs.forms.Verifies.{is_verify, verify_names}

-- the fourth of four tests is the first that holds
fourth : {A : Type 0} (p q r s : Bool) (first second third fourth_one rest : A) → p ≡ false → q ≡ false → r ≡ false → s ≡ true
    → (if p then first else if q then second else if r then third else if s then fourth_one else rest) ≡ fourth_one
fourth false false false true first second third fourth_one rest a b c d = refl
fourth false false false false first second third fourth_one rest a b c d = cc
fourth false false true s first second third fourth_one rest a b c d = cc
fourth false true r s first second third fourth_one rest a b c d = cc
fourth true q r s first second third fourth_one rest a b c d = cc

-- words of the form `verify` ask for it
pub verify_asked : (words : List (List ℕ)) → is_replay words ≡ false → is_run words ≡ false → is_check words ≡ false
    → is_verify words ≡ true
    → request_in words ≡ Some (Verify (verify_names words))
verify_asked words a b c d =
    fourth (is_replay words) (is_run words) (is_check words) (is_verify words) _ _ _ (Some (Verify (verify_names words))) _
    a b c d
