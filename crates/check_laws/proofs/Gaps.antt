-- Gaps and logs: a log fails by the front of some gaps, and the rest of them is still to come. The inductions go over the entries, and
-- over the calls that are put on top of a log.
use Rattle.std.proofs.Common.{◌≡◌, ◌↔◌, ℕ, zero, suc, ◌+◌, ◌-◌, ◌<◌, Bool, true, false, cond, List, [], ◌∷◌, ◌++◌, length, length-append}
use Rattle.std.proofs.Common.{append-nil, zero-add, reverse, Option, Some, None, refl, sym, ◌∙◌, ap, inl, inr, arith}
use Rattle.std.specs.Prelude.{slice_get, ◌==◌}
use Rattle.std.specs.List.{AllByRecursion}
use Rattle.std.proofs.lemmas.Bool.{cases_lt, lt-ltb, le-ltb, eq-eqb, ne_eqb, cases_order, cases_Bool}
use Rattle.std.proofs.lemmas.List.{reverse-append, length-reverse}
use Rattle.std.proofs.lemmas.Option.{slice_get_within, same_Some}
use Rattle.i2c_base.specs.declared.entry.Entry.{Entry}
use Rattle.i2c_base.specs.declared.port.PortCall.{PortCall}
use Rattle.i2c_base.specs.declared.port.PortCall.TheVariants as call
use Rattle.i2c_base.specs.Board.{BoardView}
use Rattle.bus_spec.specs.Readings.{is_on_root}
use Rattle.journal_laws.proofs.past.Failures.{number_of, number-older, number-of, none-failed}
use Rattle.journal_laws.proofs.past.CutTalks.{Went}
use Rattle.check_laws.specs.Failed.{calls_made, call_failed, gap_told, since_told, gaps_from, fails_by}
use Rattle.i2c_base.proofs.ListLemmas.{get_back}

-- ONE GAP: the call at its end fails, none before it does, and those behind it fail by the other gaps
pub gap-here : (g : ℕ) (gs : List ℕ) → fails_by (g ∷ gs) g ≡ true
gap-here g gs =
    ap (λ (t : Bool). cond t false (cond (g == g) true (fails_by gs (g - g - 1)))) (le-ltb g g (omega arith))
    ∙ ap (λ (t : Bool). cond t true (fails_by gs (g - g - 1))) (eq-eqb g g refl)

pub gap-before : (g : ℕ) (gs : List ℕ) (n : ℕ) → n < g → fails_by (g ∷ gs) n ≡ false
gap-before g gs n low =
    ap (λ (t : Bool). cond t false (cond (n == g) true (fails_by gs (n - g - 1)))) (lt-ltb n g low)

pub gap-behind : (g : ℕ) (gs : List ℕ) (n : ℕ) → fails_by (g ∷ gs) (g + 1 + n) ≡ fails_by gs n
gap-behind g gs n =
    ap (λ (t : Bool). cond t false (cond ((g + 1 + n) == g) true (fails_by gs (g + 1 + n - g - 1)))) (le-ltb (g + 1 + n) g (omega arith))
    ∙ ap (λ (t : Bool). cond t true (fails_by gs (g + 1 + n - g - 1))) (ne_eqb (g + 1 + n) g (λ e. absurd (omega (arith, e))))
    ∙ ap (fails_by gs) (let e : g + 1 + n - g - 1 ≡ n = omega arith in e)

-- a gap that is longer by so many
pub gap-longer : (s g : ℕ) (gs : List ℕ) (n : ℕ) → fails_by ((s + g) ∷ gs) (s + n) ≡ fails_by (g ∷ gs) n
gap-longer s g gs n =
    elim (cases_order n g) [
      | inl same ↦ ap (fails_by ((s + g) ∷ gs)) (let e : s + n ≡ s + g = omega (arith, same) in e) ∙ gap-here (s + g) gs
          ∙ sym (ap (fails_by (g ∷ gs)) same ∙ gap-here g gs)
      | inr apart ↦ elim apart [
        | inl low ↦ gap-before (s + g) gs (s + n) (omega (arith, low)) ∙ sym (gap-before g gs n low)
        | inr high ↦ (let more : ℕ = n - g - 1 in
            ap (fails_by ((s + g) ∷ gs)) (let e : s + n ≡ s + g + 1 + (n - g - 1) = omega (arith, high) in e)
            ∙ gap-behind (s + g) gs (n - g - 1)
            ∙ sym (ap (fails_by (g ∷ gs)) (let e : n ≡ g + 1 + (n - g - 1) = omega (arith, high) in e) ∙ gap-behind g gs (n - g - 1)))
      ]
    ]

module _ (b : BoardView) (r : ℕ) where
  -- the gaps of entries on the root, and of others
  gaps-on : (since : ℕ) (e : Entry) (es : List Entry) → is_on_root b r e ≡ true
      → gaps_from b r since (e ∷ es) ≡ gap_told since (call_failed e) ++ gaps_from b r (since_told since (calls_made e) (call_failed e)) es
  gaps-on since e es on =
      ap (λ (t : Bool). cond t (gap_told since (call_failed e) ++ gaps_from b r (since_told since (calls_made e) (call_failed e)) es)
      (gaps_from b r since es)) on

  gaps-off : (since : ℕ) (e : Entry) (es : List Entry) → is_on_root b r e ≡ false → gaps_from b r since (e ∷ es) ≡ gaps_from b r since es
  gaps-off since e es off =
      ap (λ (t : Bool). cond t (gap_told since (call_failed e) ++ gaps_from b r (since_told since (calls_made e) (call_failed e)) es)
      (gaps_from b r since es)) off

  -- calls that went through make the first gap longer
  pub since-longer : (es : List Entry) (s c n : ℕ) → fails_by (gaps_from b r (s + c) es) (s + n) ≡ fails_by (gaps_from b r c es) n
  since-longer [] s c n = refl
  since-longer (e ∷ es) s c n =
      elim (cases_Bool (is_on_root b r e)) [
        | inl on ↦ ap (λ (gs : List ℕ). fails_by gs (s + n)) (gaps-on (s + c) e es on) ∙ by (since-longer es s (c + calls_made e) n)
            (call_failed e)
            ∙ sym (ap (λ (gs : List ℕ). fails_by gs n) (gaps-on c e es on))
        | inr off ↦ ap (λ (gs : List ℕ). fails_by gs (s + n)) (gaps-off (s + c) e es off) ∙ since-longer es s c n
            ∙ sym (ap (λ (gs : List ℕ). fails_by gs n) (gaps-off c e es off))
      ]
    where
      by : fails_by (gaps_from b r (s + (c + calls_made e)) es) (s + n) ≡ fails_by (gaps_from b r (c + calls_made e) es) n → (o : Option ℕ)
          → fails_by (gap_told (s + c) o ++ gaps_from b r (since_told (s + c) (calls_made e) o) es) (s + n)
          ≡ fails_by (gap_told c o ++ gaps_from b r (since_told c (calls_made e) o) es) n
      by more None =
          ap (λ (k : ℕ). fails_by (gaps_from b r k es) (s + n)) (let same : s + c + calls_made e ≡ s + (c + calls_made e) = omega arith in
          same)
          ∙ more
      by more (Some q) =
          ap (λ (k : ℕ). fails_by (k ∷ gaps_from b r 0 es) (s + n)) (let same : s + c + q ≡ s + (c + q) = omega arith in same)
          ∙ gap-longer s (c + q) (gaps_from b r 0 es) n

  pub since-before : (es : List Entry) (s n : ℕ) → n < s → fails_by (gaps_from b r s es) n ≡ false
  since-before [] s n low = refl
  since-before (e ∷ es) s n low =
      elim (cases_Bool (is_on_root b r e)) [
        | inl on ↦ ap (λ (gs : List ℕ). fails_by gs n) (gaps-on s e es on) ∙ by (since-before es (s + calls_made e) n (omega (arith, low)))
            (call_failed e)
        | inr off ↦ ap (λ (gs : List ℕ). fails_by gs n) (gaps-off s e es off) ∙ since-before es s n low
      ]
    where
      by : fails_by (gaps_from b r (s + calls_made e) es) n ≡ false → (o : Option ℕ)
          → fails_by (gap_told s o ++ gaps_from b r (since_told s (calls_made e) o) es) n ≡ false
      by more None = more
      by more (Some q) = gap-before (s + q) (gaps_from b r 0 es) n (omega (arith, low))

-- A LOG, the newest call first, fails by gaps, of which this is left behind it
pub record IsBy (log : List PortCall) (gaps left : List ℕ) : Type 0 where
  pub numbers : (n : ℕ) → n < length log → (number_of log n ≡ Some call.Fault) ↔ (fails_by gaps n ≡ true)
  pub behind : (n : ℕ) → fails_by gaps (length log + n) ≡ fails_by left n

pub none-by : (gaps : List ℕ) → IsBy [] gaps gaps
none-by gaps = record { numbers = λ n low. absurd (omega (arith, low)); behind = λ n. ap (fails_by gaps) (zero-add n) }

-- newer calls have later numbers
number-newer : (newer calls : List PortCall) (n : ℕ) → number_of (newer ++ calls) (length calls + n) ≡ number_of newer n
number-newer newer calls n =
    ap (λ (xs : List PortCall). slice_get xs (length calls + n)) (reverse-append newer calls)
    ∙ ap (λ (k : ℕ). slice_get (reverse calls ++ reverse newer) (k + n)) (sym (length-reverse calls))
    ∙ get_back (reverse calls) (reverse newer) n

-- one log on top of another
pub both-by : (newer log : List PortCall) (gaps left rest : List ℕ) → IsBy log gaps left → IsBy newer left rest
    → IsBy (newer ++ log) gaps rest
both-by newer log gaps left rest old new =
    record {
      numbers = λ n low. elim (cases_lt n (length log)) [
        | inl older ↦ (
          λ failed. (old.numbers n older).0 (sym (number-older newer log n older) ∙ failed),
          λ fails. number-older newer log n older ∙ (old.numbers n older).1 fails,
        )
        | inr later ↦ (let k : ℕ = n - length log in
            let is : n ≡ length log + (n - length log) = omega (arith, later) in
            let within : n - length log < length newer = omega (arith, later, low, length-append newer log) in (
              λ failed. ap (fails_by gaps) is ∙ old.behind (n - length log)
                  ∙ (new.numbers (n - length log) within).0
                  (sym (number-newer newer log (n - length log)) ∙ ap (number_of (newer ++ log)) (sym is) ∙ failed),
              λ fails. ap (number_of (newer ++ log)) is ∙ number-newer newer log (n - length log)
                  ∙ (new.numbers (n - length log) within).1 (sym (old.behind (n - length log)) ∙ ap (fails_by gaps) (sym is) ∙ fails),
            ))
      ];
      behind = λ n. ap (fails_by gaps) (let e : length (newer ++ log) + n ≡ length log + (length newer + n) =
          omega (arith, length-append newer log) in e)
          ∙ old.behind (length newer + n) ∙ new.behind n;
    }

-- calls that went through, and such with a failed one on top
pub went-by : (own : List PortCall) (gaps left : List ℕ) → AllByRecursion Went own → ((n : ℕ) → n < length own → fails_by gaps n ≡ false)
    → ((n : ℕ) → fails_by gaps (length own + n) ≡ fails_by left n) → IsBy own gaps left
went-by own gaps left went none behind =
    record {
      numbers = λ n low. (
        λ failed. absurd (none-failed own [] n went (omega arith) (omega (arith, low))
            (ap (λ (xs : List PortCall). number_of xs n) (append-nil own) ∙ failed)),
        λ fails. absurd (let f : true ≡ false = sym fails ∙ none n low in cc),
      );
      behind = behind;
    }

pub broken-by : (own : List PortCall) (gs : List ℕ) → AllByRecursion Went own → IsBy (call.Fault ∷ own) (length own ∷ gs) gs
broken-by own gs went =
    record {
      numbers = λ n low. elim (cases_lt n (length own)) [
        | inl older ↦ (
          λ failed. absurd (none-failed own [] n went (omega arith) (omega (arith, older))
              (ap (λ (xs : List PortCall). number_of xs n) (append-nil own)
              ∙ sym (number-older (call.Fault ∷ []) own n older) ∙ failed)),
          λ fails. absurd (let f : true ≡ false = sym fails ∙ gap-before (length own) gs n older in cc),
        )
        | inr later ↦ (let is : n ≡ length own = omega (arith, later, low) in (
          λ failed. ap (fails_by (length own ∷ gs)) is ∙ gap-here (length own) gs,
          λ fails. number-of call.Fault own n is,
        ))
      ];
      behind = λ n. ap (fails_by (length own ∷ gs)) (let e : length (call.Fault ∷ own) + n ≡ length own + 1 + n = omega arith in e)
          ∙ gap-behind (length own) gs n;
    }

-- A LOG THAT GOES ON by its gaps up to a length
abbrev pub gone_on : List ℕ → List PortCall → ℕ → List PortCall
gone_on gaps log zero = log
gone_on gaps log (suc k) = cond (fails_by gaps (length (gone_on gaps log k))) call.Fault call.Stop ∷ gone_on gaps log k

pub length-gone_on : (gaps : List ℕ) (log : List PortCall) (k : ℕ) → length (gone_on gaps log k) ≡ length log + k
length-gone_on gaps log zero = (let e : length log ≡ length log + 0 = omega arith in e)
length-gone_on gaps log (suc k) = (let h : length (gone_on gaps log k) ≡ length log + k = length-gone_on gaps log k in
    let e : suc (length (gone_on gaps log k)) ≡ length log + suc k = omega (arith, h) in e)

pub gone_on-more : (gaps : List ℕ) (log : List PortCall) (k : ℕ) → (more : List PortCall) × (gone_on gaps log k ≡ more ++ log)
gone_on-more gaps log zero = ([], refl)
gone_on-more gaps log (suc k) =
    let h = gone_on-more gaps log k in (
      cond (fails_by gaps (length (gone_on gaps log k))) call.Fault call.Stop ∷ h.0,
      ap (λ (cs : List PortCall). cond (fails_by gaps (length (gone_on gaps log k))) call.Fault call.Stop ∷ cs) h.1,
    )

abbrev pub FailsBy : List PortCall → List ℕ → Type 0
FailsBy log gaps = (n : ℕ) → n < length log → (number_of log n ≡ Some call.Fault) ↔ (fails_by gaps n ≡ true)

pub gone_on-by : (gaps : List ℕ) (log : List PortCall) (k : ℕ) → FailsBy log gaps → FailsBy (gone_on gaps log k) gaps
gone_on-by gaps log zero by = by
gone_on-by gaps log (suc k) by = λ n low.
    let here : List PortCall = gone_on gaps log k in
    elim (cases_lt n (length (gone_on gaps log k))) [
      | inl older ↦ (
        λ failed. (gone_on-by gaps log k by n older).0 (sym (number-older (top ∷ []) (gone_on gaps log k) n older) ∙ failed),
        λ fails. number-older (top ∷ []) (gone_on gaps log k) n older ∙ (gone_on-by gaps log k by n older).1 fails,
      )
      | inr later ↦ (let is : n ≡ length (gone_on gaps log k) = omega (arith, later, low) in (
        λ failed. ap (fails_by gaps) is ∙ told (fails_by gaps (length (gone_on gaps log k)))
            (same_Some top call.Fault (sym (number-of top (gone_on gaps log k) n is) ∙ failed)),
        λ fails. number-of top (gone_on gaps log k) n is ∙ ap (λ (t : Bool). Some (cond t call.Fault call.Stop))
            (ap (fails_by gaps) (sym is) ∙ fails),
      ))
    ]
  where
    top : PortCall
    top = cond (fails_by gaps (length (gone_on gaps log k))) call.Fault call.Stop

    told : (t : Bool) → cond t call.Fault call.Stop ≡ call.Fault → t ≡ true
    told true e = refl
    told false e = absurd (let f : call.Stop ≡ call.Fault = e in cc)

-- two logs that fail by the same gaps, each gone on by the length of the other, fail alike
pub there : (gaps : List ℕ) (one two : List PortCall) → FailsBy one gaps → FailsBy two gaps → (n : ℕ)
    → number_of (gone_on gaps one (length two)) n ≡ Some call.Fault → number_of (gone_on gaps two (length one)) n ≡ Some call.Fault
there gaps one two by1 by2 n failed =
    let low : n < length (reverse (gone_on gaps one (length two))) =
    slice_get_within (reverse (gone_on gaps one (length two))) n call.Fault failed in
    let low1 : n < length (gone_on gaps one (length two)) = omega (arith, low, length-reverse (gone_on gaps one (length two))) in
    let low2 : n < length (gone_on gaps two (length one)) = omega (
      arith,
      low1,
      length-gone_on gaps one (length two),
      length-gone_on gaps two (length one),
    ) in
    (gone_on-by gaps two (length one) by2 n low2).1 ((gone_on-by gaps one (length two) by1 n low1).0 failed)
