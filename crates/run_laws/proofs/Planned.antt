-- What a plan makes: scripts that are read whole, with a command for each line, and a schedule of its callers; and that the words of a
-- call name a plan within the limits alone. No induction.
use Rattle.run_laws.proofs.Cited.{◌≡◌, ℕ, suc, ◌<◌, ◌≤◌, ◌&&◌, Bool, true, false, List, [], length, map, Option, Some, None, refl, sym, ◌∙◌}
use Rattle.run_laws.proofs.Cited.{ap, subst, arith, All, range_with_len, length-map-range_with_len, commands_of, script_on, made_board}
use Rattle.run_laws.proofs.Cited.{schedule_of, scripts_of}
use Rattle.std.proofs.Common.{◌-◌, ◌*◌, ◌/◌, ◌^◌, ◌==◌, nat_le, if◌then◌else◌, get_or, Result, Ok, mod-lt, leb-true, codes}
use Rattle.std.specs.Str.{bytes_eq}
use Rattle.std.specs.Str.Parse.{digits_value}
use Rattle.std.proofs.lemmas.List.Elements.{All-map}
use Rattle.caller_core.specs.Scripts.{Place, commands_or_none, script_read}
use Rattle.caller_core.specs.View.{CommandView, ScriptView}
use Rattle.i2c_base.specs.Limits.{MOST_CALLERS, MOST_ROOTS}
use Rattle.i2c_gen.specs.Draws.{draw, number_behind}
use Rattle.i2c_gen.specs.Scripts.{IsPlan, MOST_LINES, lines_in, script_of}
use Rattle.i2c_gen.specs.declared.plan.Plan.{Plan}
use Rattle.i2c_gen.proofs.ScriptLemmas.{command_at, lines_from, script_is_read}
use Rattle.i2c_top.specs.Numbers.{is_numeral, number_named}
use Rattle.i2c_top.specs.forms.Generations.{plan_by, plan_in}
use Rattle.std.proofs.lemmas.Bool.{and_parts}

-- SCRIPTS: one that is read as some commands is read as its own
read_whole : (s : ScriptView) (cs : List CommandView) → script_read s ≡ Ok cs → script_read s ≡ Ok (commands_of s)
read_whole s cs read = read ∙ ap (λ (r : Result (List CommandView) Place). Ok (commands_or_none r)) (sym read)

module _ (p : Plan) (is : IsPlan p) where
  abbrev on_board : List ℕ → ScriptView
  on_board text = script_on (made_board p.roots) text

  pub scripts-whole : All (λ text. script_read (on_board text) ≡ Ok (commands_of (on_board text))) (scripts_of p)
  scripts-whole =
      All-map (λ text. script_read (on_board text) ≡ Ok (commands_of (on_board text))) (script_of p) (range_with_len 0 MOST_CALLERS)
      (λ k d low. read_whole (on_board (script_of p _)) (map (command_at p) (lines_from p _)) (script_is_read p is _))

  pub scripts-lines : All (λ text. length (commands_of (on_board text)) ≡ p.lines) (scripts_of p)
  scripts-lines =
      All-map (λ text. length (commands_of (on_board text)) ≡ p.lines) (script_of p) (range_with_len 0 MOST_CALLERS) (λ k d low. many _)
    where
      many : (caller : ℕ) → length (commands_of (on_board (script_of p caller))) ≡ p.lines
      many caller =
          ap (λ (r : Result (List CommandView) Place). length (commands_or_none r)) (script_is_read p is caller)
          ∙ length-map-range_with_len (command_at p) (caller * p.lines) p.lines

-- THE SCHEDULE: each draw is of one of the callers
pub schedule-named : (p : Plan) → All (λ c. c < MOST_CALLERS) (schedule_of p)
schedule-named p =
    All-map (λ c. c < MOST_CALLERS) (λ k. draw p.seed k MOST_CALLERS) (range_with_len (5 * lines_in p) (lines_in p)) (λ k d low. below _)
  where
    below : (k : ℕ) → draw p.seed k MOST_CALLERS < MOST_CALLERS
    below k = mod-lt (number_behind p.seed (suc k) / 2 ^ 33) (omega arith)

named_within : (low high : ℕ) (word : List ℕ) (n : ℕ) → number_named low high word ≡ Some n → (low ≤ n) × (n ≤ high)
named_within low high word n named = by (is_numeral word) named
  where
    v : ℕ
    v = digits_value 10 word

    by_range : (t : Bool) → nat_le low v && nat_le v high ≡ t → (if t then Some v else None) ≡ Some n → (low ≤ n) × (n ≤ high)
    by_range true is e =
        let same : v ≡ n = cc in
        let parts = and_parts (nat_le low v) (nat_le v high) is in
        subst (λ (k : ℕ). (low ≤ k) × (k ≤ high)) same (leb-true low v parts.0, leb-true v high parts.1)
    by_range false is e = absurd (let none : None ≡ Some n = e in cc)

    by : (t : Bool) → (if t then (if nat_le low v && nat_le v high then Some v else None) else None) ≡ Some n → (low ≤ n) × (n ≤ high)
    by true e = by_range (nat_le low v && nat_le v high) refl e
    by false e = absurd (let none : None ≡ Some n = e in cc)

module _ (p : Plan) where
  -- where there are all three numbers, the plan has them
  by_numbers : (seed roots lines : Option ℕ) → ((n : ℕ) → roots ≡ Some n → (1 ≤ n) × (n ≤ MOST_ROOTS))
      → ((n : ℕ) → lines ≡ Some n → (1 ≤ n) × (n ≤ MOST_LINES)) → plan_by seed roots lines ≡ Some p → IsPlan p
  by_numbers (Some s) (Some r) (Some l) of_roots of_lines e =
      let same : record { seed = s; roots = r; lines = l } ≡ p = cc in
      let rs = of_roots r refl in
      let ls = of_lines l refl in
      subst IsPlan same (record { some_root = rs.0; most_roots = rs.1; some_line = ls.0; most_lines = ls.1 })
  by_numbers None roots lines of_roots of_lines e = absurd (let none : None ≡ Some p = e in cc)
  by_numbers (Some s) None lines of_roots of_lines e = absurd (let none : None ≡ Some p = e in cc)
  by_numbers (Some s) (Some r) None of_roots of_lines e = absurd (let none : None ≡ Some p = e in cc)

  by_words : (t : Bool) (one two three : List ℕ)
      → (if t then plan_by (number_named 0 (2 ^ 64 - 1) one) (number_named 1 MOST_ROOTS two) (number_named 1 MOST_LINES three) else None)
      ≡ Some p → IsPlan p
  by_words true one two three e =
      by_numbers (number_named 0 (2 ^ 64 - 1) one) (number_named 1 MOST_ROOTS two) (number_named 1 MOST_LINES three)
      (named_within 1 MOST_ROOTS two) (named_within 1 MOST_LINES three) e
  by_words false one two three e = absurd (let none : None ≡ Some p = e in cc)

pub plan-named : (words : List (List ℕ)) (p : Plan) → plan_in words ≡ Some p → IsPlan p
plan-named words p named =
    by_words p ((length words == 4) && bytes_eq (get_or words 0 []) (codes "gen")) (get_or words 1 []) (get_or words 2 [])
    (get_or words 3 []) named
