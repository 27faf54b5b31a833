-- What is kept of a step is what the lines came to.
use Rattle.std.proofs.Common.{◌≡◌, ℕ, Bool, true, false, List, [], ◌∷◌, ◌++◌, map, refl, ap, sym, ◌∙◌, subst}
use Rattle.std.proofs.lemmas.List.{map-append}
use Rattle.std.specs.Prelude.{not, cond}
use Rattle.std.specs.List.{AllByRecursion}
use Rattle.i2c_spec.specs.World.{opening_world}
use Rattle.wire_spec.specs.declared.mode.Mode.{Mode}
use Rattle.wire_spec.specs.declared.mode.Mode.TheVariants.{Out}
use Rattle.wire_spec.specs.Wires.{Site, Bit}
use Rattle.wire_spec.specs.Roots.{some_one, pulls_line, at, hearing}
use Rattle.wire_spec.specs.Bus.{Bus, Seen, scl_level, sda_level, bus_of}
use Rattle.wire_spec.specs.Sites.{NodeState, node_table, both}
use Rattle.i2c_bits.specs.Wiring.{Rooted, the_table}
use Rattle.i2c_bits.specs.Stands.{IsFree, chips_on, devices_on, world_at}
use Rattle.bus_waves.specs.Levels.{Levels, levels, both_high, levels_of, code_of, Doing, done, along, levels_along, sign, more_seen, showing, last_of}
use Rattle.bus_waves.specs.Recordings.{IsAway, IsRecording, free_behind}
use Rattle.bus_waves.proofs.Quiet.{none_hold, none_pull, away_aside}
use Rattle.bus_waves.proofs.StepLemmas.{Goes}

-- ---- a step more
along_more : (k : Rooted) (w : Bus NodeState) (ds : List Doing) (d : Doing) → along k w (ds ++ d ∷ []) ≡ done k (along k w ds) d
along_more k w [] d = refl
along_more k w (e ∷ ds) d = along_more k (done k w e) ds d

levels_more : (k : Rooted) (w : Bus NodeState) (ds : List Doing) (d : Doing)
    → levels_along k w (ds ++ d ∷ []) ≡ levels_along k w ds ++ levels_of (done k (along k w ds) d) ∷ []
levels_more k w [] d = refl
levels_more k w (e ∷ ds) d = ap (λ ls. levels_of (done k w e) ∷ ls) (levels_more k (done k w e) ds d)

showing_more : (l : Levels) (c : Seen) (ms : List Levels) (m : Levels)
    → showing l c (ms ++ m ∷ []) ≡ more_seen (sign (last_of l ms) m) (showing l c ms)
showing_more l c [] m = refl
showing_more l c (n ∷ ms) m = showing_more n (more_seen (sign l n) c) ms m

last_more : (l : Levels) (ms : List Levels) (m : Levels) → last_of l (ms ++ m ∷ []) ≡ m
last_more l [] m = refl
last_more l (n ∷ ms) m = last_more n ms m

module _ (k : Rooted) (old new : Bus NodeState) (scl sda free : Bool) (steps : List ℕ) (was : IsRecording k old scl sda free steps)
    (d : Doing) (does : new ≡ done k old d) (goes : Goes old new) (clock line : Bool) (is_clock : clock ≡ scl_level new)
    (is_line : line ≡ sda_level node_table new) where
  abbrev opened : Bus NodeState
  opened = was.made.opened

  abbrev before : List Levels
  before = levels_along k opened was.made.doings

  behind : levels clock line ≡ levels_of new
  unfolding the_table
  behind = ap (λ x. levels x line) is_clock ∙ ap (levels (scl_level new)) is_line

  came : new ≡ done k (along k opened was.made.doings) d
  came = does ∙ ap (λ w. done k w d) was.made.course

  all_levels : levels_along k opened (was.made.doings ++ d ∷ []) ≡ before ++ levels_of new ∷ []
  all_levels = levels_more k opened was.made.doings d ∙ ap (λ w. before ++ levels_of w ∷ []) (sym came)

  -- a step that is kept
  pub keeps : (steps1 : List ℕ) → steps1 ≡ steps ++ code_of (levels clock line) ∷ [] → (free1 : Bool)
      → free1 ≡ free_behind free (sign (levels scl sda) (levels clock line)) → IsRecording k new clock line free1 steps1
  keeps steps1 is free1 by = record {
    made = record {
      opened = opened;
      free = was.made.free;
      world = was.made.world;
      doings = was.made.doings ++ d ∷ [];
      course = came ∙ sym (along_more k opened was.made.doings d);
      steps_are = is
          ∙ ap (λ xs. xs ++ code_of (levels clock line) ∷ []) was.made.steps_are
          ∙ ap (λ l. map code_of before ++ code_of l ∷ []) behind
          ∙ sym (map-append code_of before (levels_of new ∷ []))
          ∙ ap (map code_of) (sym all_levels);
      seen = goes.shown ∙ ap (more_seen (sign (levels_of old) (levels_of new))) was.made.seen
          ∙ ap (λ l. more_seen (sign l (levels_of new)) (showing both_high [] before)) (sym was.last_step)
          ∙ sym (showing_more both_high [] before (levels_of new)) ∙ ap (showing both_high []) (sym all_levels);
    };
    last = behind;
    last_step = ap (last_of both_high) all_levels ∙ last_more both_high before (levels_of new);
    aside = goes.aside;
    away = λ now. goes.away free was.away
        (sym (by ∙ ap (λ l. free_behind free (sign l (levels clock line))) was.last
        ∙ ap (λ l. free_behind free (sign (levels_of old) l)) behind) ∙ now);
  }

  -- .. as the record has it
  pub kept : (k1 : Rooted) → k1 ≡ k → (scl1 sda1 free1 : Bool) (steps1 : List ℕ) → scl1 ≡ clock → sda1 ≡ line
      → free1 ≡ free_behind free (sign (levels scl sda) (levels clock line)) → steps1 ≡ steps ++ code_of (levels clock line) ∷ []
      → IsRecording k1 new scl1 sda1 free1 steps1
  kept k1 same scl1 sda1 free1 steps1 is_scl is_sda by is =
      subst (λ r. IsRecording r new scl1 sda1 free1 steps1) (sym same)
      (subst (λ b. IsRecording k new b sda1 free1 steps1) (sym is_scl)
      (subst (λ b. IsRecording k new clock b free1 steps1) (sym is_sda) (keeps steps1 is free1 by)))

-- ---- lines as they are opened
at_out : (bs : List (Site NodeState)) → AllByRecursion IsAway (map (at Out) bs)
at_out [] = tt
at_out (s ∷ ss) = (record { mode = either (hearing s); hold = refl }, at_out ss)
  where
    either : (h : Bool) → cond {A = Mode} h Out Out ≡ Out
    either true = refl
    either false = refl

free_levels : (ts : List (Bit NodeState)) (c : Seen) → AllByRecursion IsAway ts → levels_of (bus_of false false ts c) ≡ both_high
unfolding the_table
free_levels ts c all =
    ap (λ h. levels (not h) (not (some_one (pulls_line node_table) ts))) (none_hold ts all)
    ∙ ap (λ p. levels true (not p)) (none_pull ts all)

pub opens : (k : Rooted) (w : Bus NodeState) → IsFree k w → world_at k false w ≡ opening_world k.board k.root → w.seen ≡ []
    → (scl sda free : Bool) → scl ≡ true → sda ≡ true → (steps : List ℕ) → steps ≡ [] → IsRecording k w scl sda free steps
opens k w is_free world fresh scl sda free up high steps none =
    let all : AllByRecursion IsAway w.targets =
    subst (AllByRecursion IsAway) (sym (ap (λ (x : Bus NodeState). x.targets) is_free.lines)) (at_out (both (chips_on w) (devices_on w))) in
    let level : levels_of w ≡ both_high =
    ap levels_of is_free.lines
    ∙ free_levels (map (at Out) (both (chips_on w) (devices_on w))) w.seen (at_out (both (chips_on w) (devices_on w))) in
    record {
      made = record {
        opened = w;
        free = is_free;
        world = world;
        doings = [];
        course = refl;
        steps_are = none;
        seen = fresh;
      };
      last = ap (λ s. levels s sda) up ∙ ap (levels true) high ∙ sym level;
      last_step = sym level;
      aside = away_aside w.targets all;
      away = λ now. all;
    }
