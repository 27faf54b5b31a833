-- Runs that are as listed: nothing of them is cut, and they fit the memory.
use Rattle.i2c_boardtext.proofs.Cited.{◌≡◌, ℕ, ◌+◌, ◌≤◌, Bool, true, false, List, [], ◌∷◌, length, map, Option, Some, None, option_map}
use Rattle.i2c_boardtext.proofs.Cited.{refl, arith, and_parts, false≢true, list_all, unwrap_or, All, Data, IsPlainRun, cut_byte, cut_run}
use Rattle.i2c_boardtext.proofs.Cited.{cut_runs_in, items_in, elements, is_in, is_run, is_array_of, fits_if_there, elements_in, runs_in}
use Rattle.std.proofs.Common.{◌%◌, nat_le, int_le, ℤ, pos, negsuc}
use Rattle.std.proofs.lemmas.Bool.{leb-true}
use Rattle.std.proofs.lemmas.List.{length-map}
use Rattle.std.proofs.lemmas.List.Elements.{All-cons}
use Rattle.std.proofs.Math.Nat.{mod-eq_of_lt}
use Rattle.toml.specs.Data.{as_integer}
use Rattle.i2c_base.specs.Bytes.{IsByte, AreBytes}
use Rattle.i2c_boardtext.specs.Cuts.{cut_run_of}
use Rattle.i2c_boardtext.specs.Items.{nat_of, number}
use Rattle.i2c_boardtext.specs.Rules.{is_from_to, is_run_of}
use Rattle.i2c_boardtext.specs.Values.{memory_run}
use Rattle.i2c_boardtext.specs.declared.rule.Test.TheVariants.{Runs}

-- a number that passes its test is within its bounds
within : (low high : ℕ) (o : Option ℤ) → unwrap_or (option_map (is_from_to low high) o) false ≡ true
    → unwrap_or (option_map nat_of o) 0 ≤ high
within low high None h = absurd (false≢true h)
within low high (Some (pos n)) h =
    let (from, to) = and_parts (int_le (pos low) (pos n)) (int_le (pos n) (pos high)) h in
    leb-true n high to
within low high (Some (negsuc n)) h = omega arith

number_within : (low high : ℕ) (d : Data) → is_in low high d ≡ true → number d ≤ high
number_within low high d h = within low high (as_integer d) h

-- the bytes of a run
cut_bytes : (ds : List Data) → list_all (is_in 0 255) ds ≡ true → map cut_byte ds ≡ map number ds
cut_bytes [] h = refl
cut_bytes (d ∷ ds) h =
    let (here, more) = and_parts (is_in 0 255 d) (list_all (is_in 0 255) ds) h in
    let same : cut_byte d ≡ number d = mod-eq_of_lt (omega (arith, number_within 0 255 d here)) in
    rw (same, cut_bytes ds more)

are_bytes : (ds : List Data) → list_all (is_in 0 255) ds ≡ true → AreBytes (map number ds)
are_bytes [] h = λ k d within. absurd (omega arith)
are_bytes (d ∷ ds) h =
    let (here, more) = and_parts (is_in 0 255 d) (list_all (is_in 0 255) ds) h in
    All-cons IsByte (number d) (map number ds) (omega (arith, number_within 0 255 d here)) (are_bytes ds more)

-- what the test of a run says
pub record IsRun (size : ℕ) (start : Data) (bytes : List Data) : Type 0 where
  pub from : number start ≤ size
  pub some : 1 ≤ length bytes
  pub bytes_fit : list_all (is_in 0 255) bytes ≡ true
  pub to : number start + length bytes ≤ size

told : (size : ℕ) (start : Data) (bytes : List Data) → is_run_of size (start ∷ bytes) ≡ true → IsRun size start bytes
told size start bytes h =
    let (from, rest) = and_parts (is_in 0 size start) _ h in
    let (some, rest) = and_parts (nat_le 1 (length bytes)) _ rest in
    let (fit, to) = and_parts (list_all (is_in 0 255) bytes) (nat_le (number start + length bytes) size) rest in
    record {
      from = number_within 0 size start from;
      some = leb-true 1 (length bytes) some;
      bytes_fit = fit;
      to = leb-true (number start + length bytes) size to;
    }

cut_run_same : (size : ℕ) (ds : List Data) → size ≤ 32768 → is_run_of size ds ≡ true → cut_run_of ds ≡ memory_run ds
cut_run_same size [] most h = absurd (false≢true h)
cut_run_same size (start ∷ bytes) most h =
    let t = told size start bytes h in
    let same : number start % 65536 ≡ number start = mod-eq_of_lt (omega (arith, t.from)) in
    rw (same, cut_bytes bytes t.bytes_fit)

plain_run : (size : ℕ) (ds : List Data) → is_run_of size ds ≡ true → IsPlainRun size (memory_run ds)
plain_run size [] h = absurd (false≢true h)
plain_run size (start ∷ bytes) h =
    let t = told size start bytes h in
    record {
      some = omega (arith, length-map bytes number, t.some);
      within = omega (arith, length-map bytes number, t.to);
      bytes = are_bytes bytes t.bytes_fit;
    }

-- the runs of an array
cut_runs_same : (size : ℕ) (ds : List Data) → size ≤ 32768 → list_all (is_run size) ds ≡ true
    → map cut_run ds ≡ map (λ run. memory_run (elements run)) ds
cut_runs_same size [] most h = refl
cut_runs_same size (d ∷ ds) most h =
    let (here, more) = and_parts (is_run size d) (list_all (is_run size) ds) h in
    rw (cut_run_same size (elements d) most here, cut_runs_same size ds most more)

plain_runs : (size : ℕ) (ds : List Data) → list_all (is_run size) ds ≡ true → All (IsPlainRun size)
    (map (λ run. memory_run (elements run)) ds)
plain_runs size [] h = λ k d within. absurd (omega arith)
plain_runs size (d ∷ ds) h =
    let (here, more) = and_parts (is_run size d) (list_all (is_run size) ds) h in
    All-cons (IsPlainRun size) (memory_run (elements d)) (map (λ run. memory_run (elements run)) ds) (plain_run size (elements d) here)
    (plain_runs size ds more)

-- each element of an array that passes a test of its elements
array_passes : (test : Data → Bool) (o : Option (List Data)) → unwrap_or (option_map (list_all test) o) false ≡ true
    → list_all test (unwrap_or o []) ≡ true
array_passes test None h = refl
array_passes test (Some ds) h = h

pub elements_pass : (test : Data → Bool) (d : Data) → is_array_of test d ≡ true → list_all test (elements d) ≡ true
elements_pass test d h = array_passes test (items_in d) h

passes_in : (size : ℕ) (o : Option Data) → fits_if_there (Runs size) o ≡ true → list_all (is_run size) (elements_in o) ≡ true
passes_in size None h = refl
passes_in size (Some d) h = elements_pass (is_run size) d h

pub runs_same : (size : ℕ) (o : Option Data) → size ≤ 32768 → fits_if_there (Runs size) o ≡ true → cut_runs_in o ≡ runs_in o
runs_same size o most h = cut_runs_same size (elements_in o) most (passes_in size o h)

pub runs_plain : (size : ℕ) (o : Option Data) → fits_if_there (Runs size) o ≡ true → All (IsPlainRun size) (runs_in o)
runs_plain size o h = plain_runs size (elements_in o) (passes_in size o h)
