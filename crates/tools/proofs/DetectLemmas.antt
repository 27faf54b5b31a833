-- i2cdetect: what its line means is in range, and how long it is; each bus has a line of its own, which is none of `journal`.
use Rattle.tools.proofs.Cited.{◌≡◌, ℕ, zero, suc, ◌+◌, ◌≤◌, Bool, true, false, cond, List, [], ◌∷◌, ◌++◌, map, Option, Some, None, Result}
use Rattle.tools.proofs.Cited.{Ok, Err, codes, refl, arith, All, option_and_then, range_with_len, option_map, nat_tests, All-nil, All-cons}
use Rattle.tools.proofs.Cited.{IsLine, IsSectionLine, line-append, BoardView, IsInRange, bus_line, bus_lines, Grammar, read_at, Word}
use Rattle.tools.proofs.Cited.{number_in, ◌>>=◌, is_at, Probe}
use Rattle.std.specs.Fmt.{decimal}
use Rattle.std.proofs.lemmas.List.FromFn.{map-range_with_len_more}
use Rattle.bus_journal.proofs.LineFeeds.{decimal-line}
use Rattle.i2c_spec.specs.Tree.{buses, over}
use Rattle.tools.specs.Detects.{from_first, probe_and_yes, probe_and_yes_at, detected, detect_range, detect_bus, detect_words, way_text}
use Rattle.tools.specs.declared.command.detect.Probe.TheVariants as probe
use Rattle.tools.proofs.GrammarLemmas.{AllEnds, EndsWithin, ends_within_more}
use Rattle.tools.proofs.OptionLemmas.{IsBetween, number_between}
use Rattle.tools.proofs.ValueLemmas.{others}

-- ---- its options

probe_shape : {A B : Type 0} (a b c d g h : Bool) (x y z : A) (p q : ℕ) (f : A → Result B ℕ)
    → cond a (cond b (f x) (Err p)) (cond c (cond b (f y) (Err p)) (cond d (cond g (f x) (cond h (f y) (f z))) (Err q)))
    ≡ (cond a (cond b (Ok x) (Err p)) (cond c (cond b (Ok y) (Err p)) (cond d (Ok (cond g x (cond h y z))) (Err q))) >>= f)
probe_shape true true c d g h x y z p q f = refl
probe_shape true false c d g h x y z p q f = refl
probe_shape false true true d g h x y z p q f = refl
probe_shape false false true d g h x y z p q f = refl
probe_shape false b false true true h x y z p q f = refl
probe_shape false b false true false true x y z p q f = refl
probe_shape false b false true false false x y z p q f = refl
probe_shape false b false false g h x y z p q f = refl

-- the options are read, and then what follows them
pub probe_read : {A : Type 0} (k : Probe → Grammar A) (ws : List Word) (i : ℕ)
    → read_at (probe_and_yes k) ws i ≡ (probe_and_yes_at ws i >>= λ o. read_at (k o.0) ws o.1)
unfolding probe_and_yes probe_and_yes_at
probe_read k ws i =
    probe_shape (is_at (codes "-q") ws i) (is_at (codes "-y") ws (i + 1)) (is_at (codes "-r") ws i) (is_at (codes "-y") ws i)
    (is_at (codes "-q") ws (i + 1)) (is_at (codes "-r") ws (i + 1)) (probe.Quick, i + 1 + 1) (probe.Receive, i + 1 + 1)
    (probe.ByAddress, i + 1) (i + 1) i (λ o. read_at (k o.0) ws o.1)

probe_end : {A : Type 0} (P : A → Type 0) (k : Probe → Grammar A) → ((p : Probe) → AllEnds P (k p)) → AllEnds P (probe_and_yes k)
unfolding probe_and_yes
probe_end P k h = (h probe.Quick, (h probe.Receive, (h probe.Quick, (h probe.Receive, h probe.ByAddress))))

probe_within : {A : Type 0} (n : ℕ) (k : Probe → Grammar A) → ((p : Probe) → EndsWithin n (k p))
    → EndsWithin (suc (suc n)) (probe_and_yes k)
unfolding probe_and_yes
probe_within n k h = (
  h probe.Quick,
  (h probe.Receive, (h probe.Quick, (h probe.Receive, ends_within_more n (k probe.ByAddress) (h probe.ByAddress)))),
)

-- ---- its lines

-- LAST isn't below FIRST
from_between : (first last : ℕ) (o : Option ℕ) → first ≤ 127 → ((n : ℕ) → o ≡ Some n → IsBetween 0 127 n)
    → option_and_then (from_first first) o ≡ Some last → IsBetween first 127 last
from_between first last None low within e = absurd cc
from_between first last (Some n) low within e =
    let high : n ≤ 127 = (within n refl).to_high in
    record { from_low = grind (arith, nat_tests); to_high = grind (arith, nat_tests) }

module _ (limit : ℕ) (p : Probe) where
  detected_fits : (bus first last : ℕ) → IsBetween 0 65535 bus → IsBetween first 127 last → IsInRange limit (detected p bus first last)
  detected_fits bus first last on range = record { bus = omega (arith, on.to_high); order = range.from_low; last = range.to_high }

  range_fits : (bus : ℕ) → IsBetween 0 65535 bus → AllEnds (IsInRange limit) (detect_range p bus)
  unfolding detect_range
  range_fits bus on = (
    detected_fits bus 8 119 on (record { from_low = omega arith; to_high = omega arith }),
    λ w first is x last is_last. detected_fits bus first last on
        (from_between first last (number_in 0 127 x) (number_between 0 127 w first is).to_high (number_between 0 127 x) is_last),
  )

  bus_fits : AllEnds (IsInRange limit) (detect_bus p)
  unfolding detect_bus
  bus_fits w bus is = range_fits bus (number_between 0 65535 w bus is)

pub detect_fits : (limit : ℕ) → AllEnds (IsInRange limit) detect_words
unfolding detect_words
detect_fits limit = (tt, probe_end (IsInRange limit) detect_bus (bus_fits limit))

-- after the first word it has at most five
range_within : (p : Probe) (bus : ℕ) → EndsWithin 2 (detect_range p bus)
unfolding detect_range
range_within p bus = λ w first is x last is_last. tt

bus_within : (p : Probe) → EndsWithin 3 (detect_bus p)
unfolding detect_bus
bus_within p = λ w bus is. range_within p bus

pub detect_within : EndsWithin 5 detect_words
unfolding detect_words
detect_within = (tt, probe_within 3 detect_bus bus_within)

-- ---- the list of the buses

way_line : (over : Option (ℕ × ℕ)) → IsLine (way_text over)
way_line None = refl
way_line (Some h) =
    line-append (codes " mux ") (decimal h.0 ++ (codes " channel " ++ decimal h.1)) refl
    (line-append (decimal h.0) (codes " channel " ++ decimal h.1) (decimal-line h.0)
    (line-append (codes " channel ") (decimal h.1) refl (decimal-line h.1)))

-- a line without a line feed
pub is_line : (b : BoardView) (bus : ℕ) → IsLine (bus_line b bus)
is_line b bus =
    let way : Option (ℕ × ℕ) = option_map (λ h. (h.mux, h.channel)) (over b bus) in
    line-append (codes "i2c-") (decimal bus ++ way_text way) refl
    (line-append (decimal bus) (way_text way) (decimal-line bus) (way_line way))

lines_from : (b : BoardView) (first count : ℕ) → All IsSectionLine (map (bus_line b) (range_with_len first count))
lines_from b first zero = All-nil IsSectionLine
lines_from b first (suc count) =
    All-cons IsSectionLine (bus_line b first) (map (bus_line b) (range_with_len (first + 1) count))
    (record { one = is_line b first; other = others (bus_line b first) 105 refl (omega arith) }) (lines_from b (first + 1) count)

pub list_lines : (b : BoardView) → All IsSectionLine (bus_lines b)
list_lines b = lines_from b 0 (buses b)

-- one bus more
pub lines_next : (b : BoardView) (bus : ℕ)
    → map (bus_line b) (range_with_len 0 (bus + 1)) ≡ map (bus_line b) (range_with_len 0 bus) ++ bus_line b bus ∷ []
lines_next b bus = let at : 0 + bus ≡ bus = omega arith in map-range_with_len_more (bus_line b) 0 bus bus at
