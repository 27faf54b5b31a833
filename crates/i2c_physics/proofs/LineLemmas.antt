-- A line is set: a chip that was quiet stays so, and the program's chips and devices are as they are opened.
use Rattle.i2c_physics.proofs.Cited.{◌≡◌, ◌≢◌, ℕ, zero, suc, ◌<◌, ◌≤◌, false, List, [], ◌∷◌, length, map, set, Some, None, refl, sym, ◌∙◌}
use Rattle.i2c_physics.proofs.Cited.{ap, subst, inl, inr, arith, slice_get, option_map, length-map, length-set, eqb_tells, slice_get-map}
use Rattle.i2c_physics.proofs.Cited.{slice_get_cases, BoardView, Table, ChipView, chip_table, chip_opening, TargetState, IsQuiet}
use Rattle.i2c_physics.proofs.Cited.{opening_world, IsReach, opened_on}
use Rattle.i2c_spec.specs.Chips.{at_level}
use Rattle.i2c_spec.specs.World.{set_level}
use Rattle.i2c_physics.proofs.FeedLemmas.{world_of}
use Rattle.i2c_physics.proofs.OwnLemmas.{seen-opened}
use Rattle.i2c_base.proofs.ListLemmas.{set_here}
use Rattle.bus_lines.proofs.StopLemmas.{level_stop}
use Rattle.bus_lines.proofs.NumberedLemmas.{same_some}

level_quiet : (c : ChipView) (level : ℕ) → IsQuiet chip_table c → IsQuiet chip_table (at_level c level)
level_quiet c level quiet = record { other = refl; stop = level_stop c level c.waiting refl quiet.stop }

-- what holds of what a map gives
of_map : {A B : Type 0} (P : B → Type 0) (f : A → B) (xs : List A) (k : ℕ) (y : B) → slice_get (map f xs) k ≡ Some y → ((x : A) → P (f x))
    → P y
of_map P f xs k y is each =
    elim (slice_get_cases xs k).1 [
      | inl x ↦ (let e : Some (f x.0) ≡ Some y = ap (option_map f) (sym x.2) ∙ sym (slice_get-map f xs k) ∙ is in
          subst P (same_some e) (each x.0))
      | inr none ↦ absurd (let e : None ≡ Some y = ap (option_map f) (sym none.1) ∙ sym (slice_get-map f xs k) ∙ is in cc)
    ]

-- targets as they are opened: no message has reached them
pub opened-reach : {D X : Type 0} (t : Table X) (opens : D → X) (ds : List D) (xs : List X) (started hearing : List ℕ) → length ds ≤ 128
    → xs ≡ map opens ds
    → ((d : D) → IsQuiet t (opens d)) → started ≡ [] → hearing ≡ [] → IsReach t xs started hearing
opened-reach t opens ds xs started hearing few are quiet none deaf =
    let count = ap length are ∙ length-map ds opens in
    rw (none, deaf) (record {
      few = omega (arith, count, few);
      started_rise = tt;
      hearing_rise = tt;
      hearing_started = λ k h. h;
      quiet = λ k x is out. of_map (IsQuiet t) opens ds k x (sym (ap (λ ys. slice_get ys k) are) ∙ is) quiet;
    })

pub opened-is : (b : BoardView) (root : ℕ) (chips : List ChipView) (states : List TargetState) (heard_chips heard_devices : List ℕ)
    → chips ≡ map chip_opening b.muxes → states ≡ map (opened_on b root) b.devices → heard_chips ≡ [] → heard_devices ≡ []
    → world_of b root chips states heard_chips heard_devices false ≡ opening_world b root
opened-is b root chips states heard_chips heard_devices are states_are deaf_chips deaf_devices =
    rw (deaf_chips, deaf_devices, are, seen-opened b root b.devices states states_are) refl

got_other : {A : Type 0} (xs : List A) (i k : ℕ) (y : A) → k ≢ i → slice_get (set xs i y) k ≡ slice_get xs k
got_other [] i k y ne = refl
got_other (x ∷ xs) zero zero y ne = absurd (ne refl)
got_other (x ∷ xs) zero (suc k) y ne = refl
got_other (x ∷ xs) (suc i) zero y ne = refl
got_other (x ∷ xs) (suc i) (suc k) y ne = got_other xs i k y (λ e. ne (ap suc e))

-- a target that is quiet takes the place of another
pub quiet-in-place : {X : Type 0} (t : Table X) (xs : List X) (m : ℕ) (y : X) (started hearing : List ℕ) → m < length xs → IsQuiet t y
    → IsReach t xs started hearing → IsReach t (set xs m y) started hearing
quiet-in-place t xs m y started hearing low quiet reached =
    record {
      few = rw (length-set xs m y) reached.few;
      started_rise = rw (length-set xs m y) reached.started_rise;
      hearing_rise = rw (length-set xs m y) reached.hearing_rise;
      hearing_started = reached.hearing_started;
      quiet = λ k x got out. elim (eqb_tells k m) [
        | inl same ↦ (let e : Some y ≡ Some x = sym (ap (slice_get (set xs m y)) same.1 ∙ set_here xs m y low) ∙ got in
            subst (IsQuiet t) (same_some e) quiet)
        | inr other ↦ reached.quiet k x (sym (got_other xs m k y other.1) ∙ got) out
      ];
    }

set_quiet : (chips : List ChipView) (m level : ℕ) (c : ChipView) → slice_get chips m ≡ Some c → m < length chips → (k : ℕ) (x : ChipView)
    → slice_get (set chips m (at_level c level)) k ≡ Some x → ((y : ChipView) → slice_get chips k ≡ Some y → IsQuiet chip_table y)
    → IsQuiet chip_table x
set_quiet chips m level c is low k x got quiet =
    elim (eqb_tells k m) [
      | inl same ↦ (let e : Some (at_level c level) ≡ Some x = sym (ap (slice_get (set chips m (at_level c level))) same.1
          ∙ set_here chips m (at_level c level) low) ∙ got in
          subst (IsQuiet chip_table) (same_some e) (level_quiet c level (quiet c (ap (slice_get chips) same.1 ∙ is))))
      | inr other ↦ quiet x (sym (got_other chips m k (at_level c level) other.1) ∙ got)
    ]

-- the chip of a mux that is there
level_at : (chips : List ChipView) (m level : ℕ) (started hearing : List ℕ) (c : ChipView) → slice_get chips m ≡ Some c → m < length chips
    → IsReach chip_table chips started hearing → IsReach chip_table (set chips m (at_level c level)) started hearing
level_at chips m level started hearing c is low reached =
    record {
      few = rw (length-set chips m (at_level c level)) reached.few;
      started_rise = rw (length-set chips m (at_level c level)) reached.started_rise;
      hearing_rise = rw (length-set chips m (at_level c level)) reached.hearing_rise;
      hearing_started = reached.hearing_started;
      quiet = λ k x got out. set_quiet chips m level c is low k x got (λ y e. reached.quiet k y e out);
    }

pub level-kept : (chips : List ChipView) (m level : ℕ) (started hearing : List ℕ) → IsReach chip_table chips started hearing
    → IsReach chip_table (set_level chips m level) started hearing
level-kept chips m level started hearing reached =
    elim (slice_get_cases chips m).1 [
      | inl c ↦ rw c.2 (level_at chips m level started hearing c.0 c.2 c.1 reached)
      | inr none ↦ rw none.1 reached
    ]

pub level-count : (chips : List ChipView) (m level : ℕ) → length (set_level chips m level) ≡ length chips
level-count chips m level =
    elim (slice_get_cases chips m).1 [
      | inl c ↦ rw c.2 (length-set chips m (at_level c.0 level))
      | inr none ↦ rw none.1 refl
    ]
