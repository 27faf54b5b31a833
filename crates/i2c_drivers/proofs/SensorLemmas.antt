-- Sensors, one after the other: the reply at each place fits its transfer, and one line more. The inductions go over the replies.
use Rattle.std.proofs.Common.{◌≡◌, ℕ, zero, suc, ◌+◌, ◌<◌, List, [], ◌∷◌, ◌++◌, length, get_or, drop, map, zip, Some, None, refl, sym, ap}
use Rattle.std.proofs.Common.{subst, ◌∙◌, append_assoc, append-nil, add-one, arith}
use Rattle.std.specs.Prelude.{slice_get}
use Rattle.std.specs.List.{flat_map}
use Rattle.std.proofs.lemmas.Option.{slice_get-get_or}
use Rattle.bus_journal.specs.Reports.{line_ended}
use Rattle.i2c_base.specs.Fitting.{Fits}
use Rattle.i2c_base.specs.declared.reply.Reply.{Reply}
use Rattle.smb_emul.specs.Calls.{messages_of_call}
use Rattle.tools.specs.Dialogues.{AreReplies}
use Rattle.tools.proofs.CallLemmas.{some_same}
use Rattle.i2c_drivers.specs.Lm75.{read_call}
use Rattle.i2c_drivers.specs.Sensors.{line_of, senses, sensor_line, sensor_transfer}
use Rattle.i2c_drivers.specs.declared.bound.Sensor.{Sensor}
use Rattle.tools.specs.declared.command.driver.lm75.RegName.TheVariants.{Temp}

-- ---- replies

fits_from : (ss : List Sensor) (rs : List Reply) (k i : ℕ) (r : Reply) → AreReplies (senses ss) k rs → slice_get rs i ≡ Some r
    → Fits (sensor_transfer (slice_get ss (k + i))) r
fits_from ss [] k zero r are is = absurd cc
fits_from ss [] k (suc i) r are is = absurd cc
fits_from ss (x ∷ rs) k zero r are is =
    let at : k ≡ k + 0 = omega arith in
    subst (λ j. Fits (sensor_transfer (slice_get ss j)) r) at (subst (Fits (sensor_transfer (slice_get ss k))) (some_same x r is) are.0)
fits_from ss (x ∷ rs) k (suc i) r are is =
    let at : k + 1 + 0 + i ≡ k + suc i = omega arith in
    subst (λ j. Fits (sensor_transfer (slice_get ss j)) r) at (fits_from ss rs (k + 1 + 0) i r are.1 is)

there_at : (ss : List Sensor) (k : ℕ) (s : Sensor) → k < length ss → s ≡ get_or ss k s → slice_get ss k ≡ Some s
there_at ss k s within at = slice_get-get_or ss k s within ∙ ap Some (sym at)

sensor_fits : (ss : List Sensor) (rs : List Reply) (k : ℕ) (s : Sensor) (r : Reply) → AreReplies (senses ss) 0 rs
    → slice_get ss k ≡ Some s → slice_get rs k ≡ Some r → Fits (messages_of_call (read_call s Temp)) r
sensor_fits ss rs k s r are there is =
    let at : 0 + k ≡ k = omega arith in
    subst (λ o. Fits (sensor_transfer o) r) (ap (slice_get ss) at ∙ there) (fits_from ss rs 0 k r are is)

-- .. where the sensor is read by its place
pub fits_at : (ss : List Sensor) (rs : List Reply) (k : ℕ) (s : Sensor) (r : Reply) → AreReplies (senses ss) 0 rs
    → k < length ss → s ≡ get_or ss k s → slice_get rs k ≡ Some r → Fits (messages_of_call (read_call s Temp)) r
fits_at ss rs k s r are within at is = sensor_fits ss rs k s r are (there_at ss k s within at) is

-- ---- lines

abbrev lines_from : List Sensor → List Reply → ℕ → List ℕ
lines_from ss rs k = flat_map line_ended (map line_of (zip (drop k ss) (drop k rs)))

line_there : (ss : List Sensor) (rs : List Reply) (k : ℕ) (s : Sensor) (r : Reply) → slice_get ss k ≡ Some s → slice_get rs k ≡ Some r
    → lines_from ss rs k ≡ line_ended (sensor_line s r) ++ lines_from ss rs (suc k)
line_there [] rs zero s r there is = absurd cc
line_there [] rs (suc k) s r there is = absurd cc
line_there (y ∷ ss) [] zero s r there is = absurd cc
line_there (y ∷ ss) [] (suc k) s r there is = absurd cc
line_there (y ∷ ss) (x ∷ rs) zero s r there is =
    let same : y ≡ s = cc in
    ap (λ t. line_ended (sensor_line y t) ++ lines_from (y ∷ ss) (x ∷ rs) 1) (some_same x r is)
    ∙ ap (λ t. line_ended (sensor_line t r) ++ lines_from (y ∷ ss) (x ∷ rs) 1) same
line_there (y ∷ ss) (x ∷ rs) (suc k) s r there is = line_there ss rs k s r there is

zip_none : (ss : List Sensor) → zip {X = Reply} ss [] ≡ []
zip_none [] = refl
zip_none (s ∷ ss) = refl

no_line : (ss : List Sensor) (rs : List Reply) (k : ℕ) → slice_get rs k ≡ None → lines_from ss rs k ≡ []
no_line ss [] zero none = ap (λ l. flat_map line_ended (map line_of l)) (zip_none ss)
no_line ss [] (suc k) none = ap (λ l. flat_map line_ended (map line_of l)) (zip_none (drop (suc k) ss))
no_line ss (r ∷ rs) zero none = absurd cc
no_line [] (r ∷ rs) (suc k) none = refl
no_line (s ∷ ss) (r ∷ rs) (suc k) none = no_line ss rs k none

-- ---- a loop over the sensors

module _ (ss : List Sensor) (rs : List Reply) (k : ℕ) where
  pub line_next : (o a b : List ℕ) (s : Sensor) (r : Reply) → k < length ss → s ≡ get_or ss k s → slice_get rs k ≡ Some r
      → b ≡ a ++ line_ended (sensor_line s r) → a ++ lines_from ss rs k ≡ o → b ++ lines_from ss rs (k + 1) ≡ o
  line_next o a b s r within at is new same =
      let whole : lines_from ss rs k ≡ line_ended (sensor_line s r) ++ lines_from ss rs (k + 1) =
      rw (add-one k) (line_there ss rs k s r (there_at ss k s within at) is) in
      ap (λ t. t ++ lines_from ss rs (k + 1)) new ∙ append_assoc a (line_ended (sensor_line s r)) (lines_from ss rs (k + 1))
      ∙ ap (λ t. a ++ t) (sym whole) ∙ same

  pub lines_done : (o a : List ℕ) → slice_get rs k ≡ None → a ++ lines_from ss rs k ≡ o → a ≡ o
  lines_done o a none same = sym (append-nil a) ∙ ap (λ t. a ++ t) (sym (no_line ss rs k none)) ∙ same
