-- Bytes as the rest of a line: they are few, and they are read one by one, as a loop does.
use Rattle.tools.proofs.Cited.{◌≡◌, ℕ, zero, suc, ◌+◌, ◌-◌, ◌<◌, ◌≤◌, true, false, List, [], ◌∷◌, ◌++◌, length, Result, Ok, Err, refl, sym}
use Rattle.tools.proofs.Cited.{ap, ◌∙◌, arith, length-append, All-nil, All-cons, All-append, AreBytes, IsByte, Class, class, read_at, Word}
use Rattle.tools.proofs.Cited.{byte, ◌>>=◌, one_at, is_past, FaultIs, LineFault}
use Rattle.tools.specs.ByteLists.{some_bytes, bytes_at}
use Rattle.tools.specs.HandleLines.{AreFewBytes}
use Rattle.tools.specs.declared.fault.LineFault.TheVariants as fault
use Rattle.tools.proofs.CombinedLemmas.{same_then, cond_then, then_then}
use Rattle.tools.proofs.GrammarLemmas.{AllEnds, EndsWithin}
use Rattle.tools.proofs.OptionLemmas.{number_between}

-- ---- their range, and how long they are

module _ {A : Type 0} (P : A → Type 0) (most : ℕ) (made : List ℕ → A) (fits : (bytes : List ℕ) → AreFewBytes most bytes
    → P (made bytes)) where
  more_fit : (n : ℕ) (got : List ℕ) → AreBytes got → 1 ≤ length got + n → length got + n ≤ most → AllEnds P (some_bytes n got made)
  unfolding some_bytes
  more_fit zero got each some few = fits got (record { each = each; some = omega (arith, some); few = omega (arith, few) })
  more_fit (suc n) got each some few = λ w b is.
      let small : b < 256 = omega (arith, (number_between 0 255 w b is).to_high) in
      let all : AreBytes (got ++ b ∷ []) = All-append IsByte got (b ∷ []) each (All-cons IsByte b [] small (All-nil IsByte)) in
      let longer : length (got ++ b ∷ []) ≡ length got + 1 = length-append got (b ∷ []) in (
        fits (got ++ b ∷ []) (record { each = all; some = omega (arith, longer); few = omega (arith, longer, few) }),
        more_fit n (got ++ b ∷ []) all (omega (arith, longer)) (omega (arith, longer, few)),
      )

  pub bytes_fit : 1 ≤ most → AllEnds P (some_bytes most [] made)
  bytes_fit some = more_fit most [] (All-nil IsByte) (omega (arith, some)) (omega arith)

pub bytes_within : {A : Type 0} (n : ℕ) (got : List ℕ) (made : List ℕ → A) → EndsWithin n (some_bytes n got made)
unfolding some_bytes
bytes_within zero got made = tt
bytes_within (suc n) got made = λ w b is. bytes_within n (got ++ b ∷ []) made

-- ---- they are read, and make the command

module _ {A : Type 0} (made : List ℕ → A) where
  abbrev pub whole_bytes : List ℕ → Result A ℕ
  whole_bytes bytes = Ok (made bytes)

  pub read_some : (n : ℕ) (got : List ℕ) (ws : List Word) (i : ℕ)
      → read_at (some_bytes n got made) ws i ≡ (bytes_at n got ws i >>= whole_bytes)
  unfolding some_bytes bytes_at
  read_some zero got ws i = cond_then (is_past ws i) (Ok got) (Err i) (Ok (made got)) (Err i) whole_bytes refl refl
  read_some (suc n) got ws i =
      same_then (one_at byte.of ws i) _ _ (λ b.
      cond_then (is_past ws (i + 1)) (Ok (got ++ b ∷ [])) (bytes_at n (got ++ b ∷ []) ws (i + 1)) _ _ whole_bytes refl
      (read_some n (got ++ b ∷ []) ws (i + 1)))
      ∙ sym (then_then (one_at byte.of ws i) _ whole_bytes)

  pub bytes_read : (n : ℕ) (ws : List Word) (i : ℕ) (bytes : List ℕ) → bytes_at n [] ws i ≡ Ok bytes
      → read_at (some_bytes n [] made) ws i ≡ Ok (made bytes)
  bytes_read n ws i bytes is = read_some n [] ws i ∙ ap (λ (x : Result (List ℕ) ℕ). x >>= whole_bytes) is

  pub bytes_refused : (n : ℕ) (ws : List Word) (i : ℕ) (f : LineFault) → FaultIs (bytes_at n [] ws i) f
      → FaultIs (read_at (some_bytes n [] made) ws i) f
  bytes_refused n ws i (fault.Word k) h = read_some n [] ws i ∙ ap (λ (x : Result (List ℕ) ℕ). x >>= whole_bytes) h
  bytes_refused n ws i fault.Memory h = tt

-- after a number, as that of a handle is
module _ {A : Type 0} (number : Class ℕ) (most : ℕ) (made : ℕ → List ℕ → A) (ws : List Word) (i n : ℕ)
    (is : one_at number.of ws i ≡ Ok n) where
  pub line_read : (bytes : List ℕ) → bytes_at most [] ws (i + 1) ≡ Ok bytes
      → read_at (class number (λ x. some_bytes most [] (made x))) ws i ≡ Ok (made n bytes)
  line_read bytes read = rw is (bytes_read (made n) most ws (i + 1) bytes read)

  pub line_refused : (f : LineFault) → FaultIs (bytes_at most [] ws (i + 1)) f
      → FaultIs (read_at (class number (λ x. some_bytes most [] (made x))) ws i) f
  line_refused f h = rw is (bytes_refused (made n) most ws (i + 1) f h)

-- ---- one by one

module _ (n k : ℕ) (got : List ℕ) (ws : List Word) (i : ℕ) (whole : Result (List ℕ) ℕ) (same : bytes_at (n - k) got ws i ≡ whole) where
  pub byte_refused : (j : ℕ) → k < n → one_at byte.of ws i ≡ Err j → whole ≡ Err j
  unfolding bytes_at
  byte_refused j lt is = let e : n - k ≡ suc (n - (k + 1)) = omega arith in sym same ∙ rw (e, is)

  pub byte_last : (b : ℕ) → k < n → one_at byte.of ws i ≡ Ok b → is_past ws (i + 1) ≡ true → whole ≡ Ok (got ++ b ∷ [])
  unfolding bytes_at
  byte_last b lt is over = let e : n - k ≡ suc (n - (k + 1)) = omega arith in sym same ∙ rw (e, is, over)

  pub byte_on : (b : ℕ) → k < n → one_at byte.of ws i ≡ Ok b → is_past ws (i + 1) ≡ false
      → bytes_at (n - (k + 1)) (got ++ b ∷ []) ws (i + 1) ≡ whole
  unfolding bytes_at
  byte_on b lt is more = let e : n - k ≡ suc (n - (k + 1)) = omega arith in sym (sym same ∙ rw (e, is, more))

  pub bytes_over : n ≤ k → is_past ws i ≡ false → whole ≡ Err i
  unfolding bytes_at
  bytes_over le more = let e : n - k ≡ 0 = omega arith in sym same ∙ rw (e, more)
