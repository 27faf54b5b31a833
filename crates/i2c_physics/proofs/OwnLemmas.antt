-- Devices of other roots are not joined: no event goes to one, and the world of a root has it as it was opened. The
-- inductions go over the devices, the first being number k.
use Rattle.i2c_physics.proofs.Cited.{◌≡◌, ℕ, zero, suc, ◌+◌, ◌<◌, Bool, true, false, List, [], ◌∷◌, length, map, drop, get_or, set, Option}
use Rattle.i2c_physics.proofs.Cited.{Some, None, refl, sym, ◌∙◌, ap, inl, inr, arith, add-zero, zero-add, if◌then◌else◌, slice_get}
use Rattle.i2c_physics.proofs.Cited.{option_map, option_map_or, cases_Bool, slice_get-map, Event, Answer, BoardView, DeviceView, ChipView}
use Rattle.i2c_physics.proofs.Cited.{TargetState, Silent, IsQuiet, state_table, answers, answer_with, feed, given, PlaceView, device_place}
use Rattle.i2c_physics.proofs.Cited.{joins, is_among, joins_at, wired_at, is_own, opened_on, seen_on}
use Rattle.i2c_spec.specs.Targets.{opening_state}
use Rattle.bus_lines.specs.Owned.{is_of}

-- device k of these is of the root
abbrev own_in : BoardView → ℕ → List DeviceView → ℕ → Bool
own_in b root ds k = option_map_or (is_of b root) (slice_get ds k) false

module _ (b : BoardView) (root : ℕ) where
  -- where a device stands is found once
  module _ (places : List PlaceView) (are : places ≡ map (device_place b root) b.devices) (k : ℕ) where
    placed : slice_get places k ≡ option_map (device_place b root) (slice_get b.devices k)
    placed = ap (λ ps. slice_get ps k) are ∙ slice_get-map (device_place b root) b.devices k

    wired_of : (o : Option DeviceView)
        → option_map_or (λ p. p.wired) (option_map (device_place b root) o) false ≡ option_map_or (is_of b root) o false
    wired_of None = refl
    wired_of (Some d) = refl

    pub wired-own : wired_at places k ≡ is_own b root k
    wired-own = ap (λ o. option_map_or (λ p. p.wired) o false) placed ∙ wired_of (slice_get b.devices k)

    module _ (chips : List ChipView) where
      apart_of : (o : Option DeviceView) → option_map_or (is_of b root) o false ≡ false
          → option_map_or (joins chips) (option_map (device_place b root) o) false ≡ false
      apart_of None other = refl
      apart_of (Some d) other = rw other refl

      pub other-apart : is_own b root k ≡ false → joins_at chips places k ≡ false
      other-apart other = ap (λ o. option_map_or (joins chips) o false) placed ∙ apart_of (slice_get b.devices k) other

      pub joined-own : joins_at chips places k ≡ true → is_own b root k ≡ true
      joined-own joined =
          elim (cases_Bool (is_own b root k)) [
            | inl own ↦ own
            | inr other ↦ absurd (let e : true ≡ false = sym joined ∙ other-apart other in cc)
          ]

  -- at the opening
  quiet_if : (own : Bool) (d : DeviceView) → IsQuiet state_table (opening_state d)
      → IsQuiet state_table (if own then opening_state d else Silent)
  quiet_if true d quiet = quiet
  quiet_if false d quiet = record { other = refl; stop = refl }

  pub opened-own : (started : List ℕ) → started ≡ [] → (k : ℕ) → is_among started k ≡ true → is_own b root k ≡ true
  opened-own started none k among = absurd (let e : false ≡ true = rw none at among in cc)

  pub opened-quiet : ((d : DeviceView) → IsQuiet state_table (opening_state d)) → (d : DeviceView)
      → IsQuiet state_table (opened_on b root d)
  opened-quiet quiet d = quiet_if (is_of b root d) d (quiet d)

  one_opened : (own : Bool) (d : DeviceView) (s : TargetState) → s ≡ (if own then opening_state d else Silent)
      → (if own then s else opening_state d) ≡ opening_state d
  one_opened true d s is = is
  one_opened false d s is = refl

  pub seen-opened : (ds : List DeviceView) (states : List TargetState) → states ≡ map (opened_on b root) ds
      → seen_on b root ds states ≡ map opening_state ds
  seen-opened [] states are = refl
  seen-opened (d ∷ ds) [] are = absurd (let e : 0 ≡ suc (length (map (opened_on b root) ds)) = ap length are in omega arith)
  seen-opened (d ∷ ds) (s ∷ states) are =
      let head = one_opened (is_of b root d) d s (ap (λ ts. get_or ts 0 Silent) are) in
      let rest = seen-opened ds states (ap (drop 1) are) in
      cc

  -- how many there are, and one of them
  pub length-seen : (ds : List DeviceView) (states : List TargetState) → length states ≡ length ds
      → length (seen_on b root ds states) ≡ length ds
  length-seen [] states count = refl
  length-seen (d ∷ ds) [] count = absurd (omega arith)
  length-seen (d ∷ ds) (s ∷ states) count = ap suc (length-seen ds states (omega arith))

  pub own-low : (ds : List DeviceView) (k : ℕ) → own_in b root ds k ≡ true → k < length ds
  own-low [] k own = absurd (let e : true ≡ false = sym own in cc)
  own-low (d ∷ ds) zero own = omega arith
  own-low (d ∷ ds) (suc k) own = let low = own-low ds k own in omega (arith, low)

  pub seen-get : (ds : List DeviceView) (states : List TargetState) (k : ℕ) (s : TargetState) → length states ≡ length ds
      → own_in b root ds k ≡ true → slice_get (seen_on b root ds states) k ≡ Some (get_or states k s)
  seen-get [] states k s count own = absurd (let e : true ≡ false = sym own in cc)
  seen-get (d ∷ ds) [] k s count own = absurd (omega arith)
  seen-get (d ∷ ds) (x ∷ states) zero s count own = rw own refl
  seen-get (d ∷ ds) (x ∷ states) (suc k) s count own = seen-get ds states k s (omega arith) own

  pub seen-set : (ds : List DeviceView) (states : List TargetState) (k : ℕ) (s : TargetState) → own_in b root ds k ≡ true
      → seen_on b root ds (set states k s) ≡ set (seen_on b root ds states) k s
  seen-set [] states k s own = absurd (let e : true ≡ false = sym own in cc)
  seen-set (d ∷ ds) [] k s own = refl
  seen-set (d ∷ ds) (x ∷ states) zero s own = rw own refl
  seen-set (d ∷ ds) (x ∷ states) (suc k) s own =
      ap (λ ts. (if is_of b root d then x else opening_state d) ∷ ts) (seen-set ds states k s own)

-- what an event does to the devices that the world of a root holds is what it does to those that it sees
module _ (b : BoardView) (root : ℕ) (f : ℕ → Option Event) where
  -- no event goes to those of these devices that are of other roots
  abbrev LeavesOthers : ℕ → List DeviceView → Type 0
  LeavesOthers k ds = (i : ℕ) → own_in b root ds i ≡ false → f (k + i) ≡ None

  first : (k : ℕ) (d : DeviceView) (ds : List DeviceView) → LeavesOthers k (d ∷ ds) → is_of b root d ≡ false → f k ≡ None
  first k d ds leaves other = ap f (sym (add-zero k)) ∙ leaves 0 other

  next : (k : ℕ) (d : DeviceView) (ds : List DeviceView) → LeavesOthers k (d ∷ ds) → LeavesOthers (k + 1) ds
  next k d ds leaves i other = let e : k + 1 + i ≡ k + suc i = omega arith in ap f e ∙ leaves (suc i) other

  one_given : (own : Bool) (e : Option Event) (d : DeviceView) (s : TargetState) → (own ≡ false → e ≡ None)
      → given state_table e (if own then s else opening_state d) ≡ (if own then given state_table e s else opening_state d)
  one_given true e d s leaves = refl
  one_given false e d s leaves = ap (λ o. given state_table o (opening_state d)) (leaves refl)

  one_answer : (own : Bool) (e : Option Event) (k : ℕ) (d : DeviceView) (s : TargetState) (rest : List (ℕ × Answer))
      → (own ≡ false → e ≡ None)
      → answer_with state_table e k (if own then s else opening_state d) rest ≡ answer_with state_table e k s rest
  one_answer true e k d s rest leaves = refl
  one_answer false e k d s rest leaves = rw (leaves refl) refl

  feed_from : (k : ℕ) (ds : List DeviceView) (states : List TargetState) → LeavesOthers k ds
      → feed state_table f k (seen_on b root ds states) ≡ seen_on b root ds (feed state_table f k states)
  feed_from k [] states leaves = refl
  feed_from k (d ∷ ds) [] leaves = refl
  feed_from k (d ∷ ds) (s ∷ states) leaves =
      let head = one_given (is_of b root d) (f k) d s (first k d ds leaves) in
      let rest = feed_from (k + 1) ds states (next k d ds leaves) in
      cc

  answers_from : (k : ℕ) (ds : List DeviceView) (states : List TargetState) → LeavesOthers k ds → length states ≡ length ds
      → answers state_table f k (seen_on b root ds states) ≡ answers state_table f k states
  answers_from k [] [] leaves count = refl
  answers_from k [] (s ∷ states) leaves count = absurd (omega arith)
  answers_from k (d ∷ ds) [] leaves count = absurd (omega arith)
  answers_from k (d ∷ ds) (s ∷ states) leaves count =
      one_answer (is_of b root d) (f k) k d s (answers state_table f (k + 1) (seen_on b root ds states)) (first k d ds leaves)
      ∙ ap (answer_with state_table (f k) k s) (answers_from (k + 1) ds states (next k d ds leaves) (omega arith))

  module _ (leaves : (k : ℕ) → is_own b root k ≡ false → f k ≡ None) (states : List TargetState) where
    all_leave : LeavesOthers 0 b.devices
    all_leave i other = ap f (zero-add i) ∙ leaves i other

    pub feed-seen : feed state_table f 0 (seen_on b root b.devices states) ≡ seen_on b root b.devices (feed state_table f 0 states)
    feed-seen = feed_from 0 b.devices states all_leave

    pub answers-seen : length states ≡ length b.devices
        → answers state_table f 0 (seen_on b root b.devices states) ≡ answers state_table f 0 states
    answers-seen count = answers_from 0 b.devices states all_leave count
