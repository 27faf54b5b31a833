-- What a step shows, by the levels before and behind it, is what the lines have seen more.
use Rattle.std.proofs.Common.{◌≡◌, ℕ, Bool, true, false, cond, List, [], ◌∷◌, map, refl, ap, sym, ◌∙◌, subst}
use Rattle.std.specs.Prelude.{not, ◌&&◌}
use Rattle.std.specs.List.{AllByRecursion}
use Rattle.wire_spec.specs.Wires.{Bit, rise, fall, tick, begin, finish}
use Rattle.wire_spec.specs.Roots.{some_one, pulls_line, where_joined}
use Rattle.wire_spec.specs.Bus.{Bus, Mask, Sign, Level, Started, Stopped, holds_line, scl_level, sda_level, each, rises, begins, finishes, edge, pulled, looked, rejoined, bus_of}
use Rattle.wire_spec.specs.Rows.{sign_of}
use Rattle.wire_spec.specs.Sites.{NodeState, node_table}
use Rattle.i2c_bits.specs.Wiring.{Rooted, the_table, mask_at, lined, levelled_bits}
use Rattle.bus_lines.proofs.RiseLemmas.{rises_hold}
use Rattle.bus_waves.specs.Levels.{levels_of, sign, more_seen}
use Rattle.bus_waves.specs.Recordings.{IsAway, IsAside, free_behind}
use Rattle.bus_waves.proofs.Quiet.{none_hold, none_pull, away_each, fall_away, tick_away, rise_away, aside_each, away_aside, finish_each, rejoin_away, level_away, rise_joined, rises_pull, begun_hold}

-- what is so of a step
pub record Goes (w x : Bus NodeState) : Type 0 where
  pub shown : x.seen ≡ more_seen (sign (levels_of w) (levels_of x)) w.seen
  pub aside : AllByRecursion IsAside x.targets
  pub away : (free : Bool) → (free ≡ true → AllByRecursion IsAway w.targets)
      → free_behind free (sign (levels_of w) (levels_of x)) ≡ true → AllByRecursion IsAway x.targets

-- the levels, with the table by its name
module _ (w x : Bus NodeState) where
  pub sign_by : (a s b d : Bool) → scl_level w ≡ a → scl_level x ≡ s → sda_level node_table w ≡ b → sda_level node_table x ≡ d
      → sign (levels_of w) (levels_of x) ≡ sign_of a s b d
  unfolding the_table
  sign_by a s b d p q e f =
      ap (λ k. sign_of k (scl_level x) (sda_level node_table w) (sda_level node_table x)) p
      ∙ ap (λ k. sign_of a k (sda_level node_table w) (sda_level node_table x)) q
      ∙ ap (λ k. sign_of a s k (sda_level node_table x)) e ∙ ap (sign_of a s b) f

  pub goes_with : (ss : List Sign) → sign (levels_of w) (levels_of x) ≡ ss → x.seen ≡ more_seen ss w.seen
      → AllByRecursion IsAside x.targets
      → ((free : Bool) → (free ≡ true → AllByRecursion IsAway w.targets) → free_behind free ss ≡ true → AllByRecursion IsAway x.targets)
      → Goes w x
  goes_with ss is shown aside away = record {
    shown = shown ∙ ap (λ l. more_seen l w.seen) (sym is);
    aside = aside;
    away = λ free was now. away free was (sym (ap (free_behind free) is) ∙ now);
  }

-- ---- levels, by who pulls
high_scl : (scl h : Bool) → not scl && not h ≡ true → (scl ≡ false) × (h ≡ false)
high_scl false false is = (refl, refl)
high_scl false true is = cc
high_scl true h is = cc

-- SDA fell, and nobody else had pulled it
low_by : (low p was : Bool) → not was && not p ≡ true → not low && not p ≡ false → low ≡ true
low_by true p was high is = refl
low_by false true true high is = cc
low_by false true false high is = cc
low_by false false was high is = cc

same_sign : (b : Bool) → sign_of true true b b ≡ []
same_sign true = refl
same_sign false = refl

both_low : (b d : Bool) → sign_of false false b d ≡ []
both_low b d = refl

-- ---- a pull
module _ (mask : Mask NodeState) (w : Bus NodeState) (scl low : Bool) (aside : AllByRecursion IsAside w.targets) where
  abbrev v : Bus NodeState
  v = bus_of scl low w.targets w.seen

  held : Bool
  held = some_one holds_line w.targets

  goes_down : (b : Bool) → scl_level w ≡ true → sda_level node_table w ≡ b → scl_level v ≡ false → Goes w (each fall v)
  goes_down b up is down =
      goes_with w (each fall v) []
      (sign_by w (each fall v) true false b (sda_level node_table (each fall v)) up (ap (λ s. not s && not (some_one holds_line (map (where_joined fall) w.targets))) pulled_low) is refl)
      refl (aside_each fall (λ c. refl) w.targets aside)
      (λ free was now. away_each fall fall_away w.targets (was now))
    where
      low_scl : (s h : Bool) → h ≡ false → not s && not h ≡ false → s ≡ true
      low_scl true h e is = refl
      low_scl false true e is = cc
      low_scl false false e is = cc

      pulled_low : scl ≡ true
      pulled_low = low_scl scl (some_one holds_line w.targets) (high_scl w.scl (some_one holds_line w.targets) up).1 down

  stays : (a s b d : Bool) → scl_level w ≡ a → scl_level v ≡ s → sda_level node_table w ≡ b → sda_level node_table v ≡ d
      → sign_of a s b d ≡ [] → Goes w v
  stays a s b d p q e f none =
      goes_with w v [] (sign_by w v a s b d p q e f ∙ none) refl aside (λ free was now. was now)

  begun : scl_level w ≡ true → scl_level v ≡ true → sda_level node_table w ≡ true → sda_level node_table v ≡ false → Goes w (begins v)
  begun up still high fell =
      goes_with w (begins v) (Started ∷ [])
      (sign_by w (begins v) true true true false up
      (ap (λ s. not s && not (some_one holds_line (map (where_joined begin) w.targets)))
      (high_scl scl (some_one holds_line w.targets) still).0
      ∙ ap not (begun_hold w.targets))
      high
      (ap (λ l. not l && not (some_one (pulls_line node_table) (map (where_joined begin) w.targets)))
      (low_by low (some_one (pulls_line node_table) w.targets) w.sda high fell)))
      refl (aside_each begin (λ c. refl) w.targets aside) (λ free was now. let e : false ≡ true = now in cc)

  ended : scl_level w ≡ true → scl_level v ≡ true → sda_level node_table w ≡ false → sda_level node_table v ≡ true
      → Goes w (finishes node_table mask v)
  ended up still was_low rose =
      let x : Bus NodeState = finishes node_table mask v in
      let away : AllByRecursion IsAway x.targets =
      rejoin_away (mask (map {A = Bit NodeState} (λ (c : Bit NodeState). c.site) (map (where_joined (finish node_table)) w.targets))) 0
      (map (where_joined (finish node_table)) w.targets) (finish_each w.targets aside) in
      goes_with w x (Stopped ∷ [])
      (sign_by w x true true false true up
      (ap (λ s. not s && not (some_one holds_line x.targets)) (high_scl scl (some_one holds_line w.targets) still).0
      ∙ ap not (none_hold x.targets away))
      was_low
      (ap (λ l. not l && not (some_one (pulls_line node_table) x.targets))
      (high_scl low (some_one (pulls_line node_table) w.targets) rose).0
      ∙ ap not (none_pull x.targets away)))
      refl (away_aside x.targets away) (λ free was now. away)

-- SCL rises on lines that nobody holds
pub risen : (w v : Bus NodeState) → v.seen ≡ w.seen → AllByRecursion IsAside v.targets
    → ((free : Bool) → (free ≡ true → AllByRecursion IsAway w.targets) → free ≡ true → AllByRecursion IsAway v.targets)
    → (b d : Bool) → scl_level w ≡ false → scl_level v ≡ true → sda_level node_table w ≡ b → sda_level node_table v ≡ d
    → Goes w (rises node_table v)
risen w v seen aside away b d down up is same =
    let l : Bool = sda_level node_table v in
    let x : Bus NodeState = rises node_table v in
    let parts = high_scl v.scl (some_one holds_line v.targets) up in
    let level : sda_level node_table x ≡ l = ap (λ p. not v.sda && not p) (rises_pull l v.targets) in
    goes_with w x (Level l ∷ [])
    (sign_by w x false true b l down
    (ap (λ s. not s && not (some_one holds_line x.targets)) parts.0 ∙ ap not (rises_hold l v.targets parts.1)) is level)
    (ap (λ c. Level l ∷ c) seen)
    (aside_each (λ c. rise node_table c l) (rise_joined l) v.targets aside)
    (λ free was now. away_each (λ c. rise node_table c l) (rise_away l) v.targets (away free was now))

module _ (mask : Mask NodeState) (w : Bus NodeState) (scl low : Bool) (aside : AllByRecursion IsAside w.targets) where
  abbrev now : Bus NodeState
  now = bus_of scl low w.targets w.seen

  by_edge : (a s b d : Bool) → scl_level w ≡ a → scl_level now ≡ s → sda_level node_table w ≡ b → sda_level node_table now ≡ d
      → Goes w (edge node_table mask a b now)
  by_edge true false b d p q e f =
      subst (Goes w)
      (sym (ap (λ k. cond k (cond b (cond (sda_level node_table now) now (begins now))
      (cond (sda_level node_table now) (finishes node_table mask now) now)) (each fall now)) q))
      (goes_down mask w scl low aside b p e q)
  by_edge true true true d p q e f =
      subst (Goes w)
      (sym (ap (λ k. cond k (cond (sda_level node_table now) now (begins now)) (each fall now)) q
      ∙ ap (λ k. cond k now (begins now)) f)) (falls d f)
    where
      falls : (d : Bool) → sda_level node_table now ≡ d → Goes w (cond d now (begins now))
      falls true f = stays mask w scl low aside true true true true p q e f refl
      falls false f = begun mask w scl low aside p q e f
  by_edge true true false d p q e f =
      subst (Goes w)
      (sym (ap (λ k. cond k (cond (sda_level node_table now) (finishes node_table mask now) now) (each fall now)) q
      ∙ ap (λ k. cond k (finishes node_table mask now) now) f)) (goes_up d f)
    where
      goes_up : (d : Bool) → sda_level node_table now ≡ d → Goes w (cond d (finishes node_table mask now) now)
      goes_up true f = ended mask w scl low aside p q e f
      goes_up false f = stays mask w scl low aside true true false false p q e f refl
  by_edge false true b d p q e f =
      subst (Goes w) (sym (ap (λ k. cond k (rises node_table now) now) q))
      (risen w now refl aside (λ free was is. was is) b d p q e f)
  by_edge false false b d p q e f =
      subst (Goes w) (sym (ap (λ k. cond k (rises node_table now) now) q)) (stays mask w scl low aside false false b d p q e f refl)

pub pull_goes : (k : Rooted) (w : Bus NodeState) (scl low : Bool) → AllByRecursion IsAside w.targets
    → Goes w (pulled the_table (mask_at k) w scl low)
unfolding pulled the_table
pull_goes k w scl low aside =
    by_edge (mask_at k) w scl low aside (scl_level w) (scl_level (bus_of scl low w.targets w.seen)) (sda_level node_table w)
    (sda_level node_table (bus_of scl low w.targets w.seen)) refl refl refl refl

-- ---- a look
look_by : (w : Bus NodeState) → AllByRecursion IsAside w.targets → (a s : Bool) → scl_level w ≡ a → scl_level (each tick w) ≡ s
    → Goes w (cond a w (cond s (rises node_table (each tick w)) (each tick w)))
look_by w aside true s p q =
    goes_with w w [] (sign_by w w true true _ _ p p refl refl ∙ same_sign (sda_level node_table w)) refl aside (λ free was now. was now)
look_by w aside false true p q =
    risen w (each tick w) refl (aside_each tick (λ c. refl) w.targets aside)
    (λ free was now. away_each tick tick_away w.targets (was now)) _ _ p q refl refl
look_by w aside false false p q =
    goes_with w (each tick w) [] (sign_by w (each tick w) false false _ _ p q refl refl) refl
    (aside_each tick (λ c. refl) w.targets aside) (λ free was now. away_each tick tick_away w.targets (was now))

pub look_goes : (w : Bus NodeState) → AllByRecursion IsAside w.targets → Goes w (looked the_table w)
unfolding looked the_table
look_goes w aside = look_by w aside (scl_level w) (scl_level (each tick w)) refl refl

-- ---- the line of a mux, while all are out of a message and both lines are high
pub line_goes : (k : Rooted) (m level : ℕ) (w : Bus NodeState) → AllByRecursion IsAway w.targets → scl_level w ≡ true
    → sda_level node_table w ≡ true → Goes w (lined (mask_at k) m level w)
unfolding lined
line_goes k m level w away up high =
    let bs : List (Bit NodeState) = levelled_bits m level w.targets in
    let x : Bus NodeState = record w { targets = rejoined (mask_at k) bs } in
    let all : AllByRecursion IsAway x.targets =
    rejoin_away (mask_at k (map {A = Bit NodeState} (λ (c : Bit NodeState). c.site) bs)) 0 bs (level_away m level w.targets away) in
    goes_with w x []
    (sign_by w x true true true true up
    (ap (λ s. not s && not (some_one holds_line x.targets)) (high_scl w.scl (some_one holds_line w.targets) up).0
    ∙ ap not (none_hold x.targets all))
    high
    (ap (λ l. not l && not (some_one (pulls_line node_table) x.targets))
    (high_scl w.sda (some_one (pulls_line node_table) w.targets) high).0
    ∙ ap not (none_pull x.targets all)))
    refl (away_aside x.targets all) (λ free was now. all)
