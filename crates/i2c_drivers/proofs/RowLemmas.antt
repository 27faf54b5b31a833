-- Bytes that are printed one after the other are their lines; and the bytes of replies, one reply after the other.
use Rattle.std.proofs.Common.{◌≡◌, ℕ, zero, suc, ◌+◌, ◌-◌, ◌*◌, ◌/◌, ◌%◌, ◌<◌, ◌≤◌, true, false, cond, List, [], ◌∷◌, ◌++◌, length, take}
use Rattle.std.proofs.Common.{drop, append_assoc, append-nil, refl, sym, ap, ◌∙◌, length-take, length-drop, length-append, add-one, arith}
use Rattle.std.specs.Prelude.{◌==◌}
use Rattle.std.specs.List.{flat_map}
use Rattle.std.proofs.Math.Seq.{take-add}
use Rattle.std.proofs.lemmas.Bool.Decides.{nat_tests}
use Rattle.std.proofs.lemmas.List.{take_all}
use Rattle.std.proofs.lemmas.List.Concat.{flat_map-append}
use Rattle.bus_journal.specs.Reports.{line_ended}
use Rattle.bus_spec.specs.Lines.{joined, spaced, spaced_digits, two_digits}
use Rattle.i2c_base.specs.declared.reply.Reply.{Reply}
use Rattle.tools.specs.Tables.{parts}
use Rattle.i2c_drivers.specs.Rows.{before_cell, hex_line, byte_lines, bytes_at, all_bytes_read, cells}

-- ---- byte by byte

pub cells-append : (n : ℕ) (xs ys : List ℕ) → cells n (xs ++ ys) ≡ cells n xs ++ cells (n + length xs) ys
cells-append n [] ys = let same : n ≡ n + 0 = omega arith in ap (λ m. cells m ys) same
cells-append n (x ∷ xs) ys =
    let front : List ℕ = before_cell n ++ two_digits x in
    let same : n + 1 + length xs ≡ n + length (x ∷ xs) = omega arith in
    ap (λ t. front ++ t) (cells-append (n + 1) xs ys ∙ ap (λ m. cells (n + 1) xs ++ cells m ys) same)
    ∙ sym (append_assoc front (cells (n + 1) xs) (cells (n + length (x ∷ xs)) ys))

-- ---- a line, whose first byte is byte 16 * r

before_in : (n r c : ℕ) → n ≡ 16 * r + c → 1 ≤ c → c ≤ 15 → before_cell n ≡ 32 ∷ []
before_in n r c at some few = let other : (n % 16 == 0) ≡ false = grind (arith, nat_tests) in
    ap (λ b. cond b (cond (n == 0) [] (10 ∷ [])) (32 ∷ [])) other

before_next : (n r : ℕ) → n ≡ 16 * (r + 1) → before_cell n ≡ 10 ∷ []
before_next n r at =
    let first : (n % 16 == 0) ≡ true = grind (arith, nat_tests) in
    let other : (n == 0) ≡ false = grind (arith, nat_tests) in
    rw (first, other) refl

line_rest : (n r c : ℕ) (xs : List ℕ) → n ≡ 16 * r + c → 1 ≤ c → c + length xs ≤ 16 → cells n xs ≡ spaced xs
line_rest n r c [] at some few = refl
line_rest n r c (x ∷ xs) at some few =
    ap (λ t. (t ++ two_digits x) ++ cells (n + 1) xs) (before_in n r c at some (omega (arith, few)))
    ∙ ap (λ t. spaced_digits x ++ t) (line_rest (n + 1) r (c + 1) xs (omega (arith, at)) (omega arith) (omega (arith, few)))

line_cells : (n r : ℕ) (xs : List ℕ) → n ≡ 16 * r → 0 < length xs → length xs ≤ 16 → cells n xs ≡ before_cell n ++ joined xs
line_cells n r [] at some few = absurd (omega (arith, some))
line_cells n r (x ∷ xs) at some few =
    ap (λ t. (before_cell n ++ two_digits x) ++ t)
    (line_rest (n + 1) r 1 xs (omega (arith, at)) (omega arith) (omega (arith, few)))
    ∙ append_assoc (before_cell n) (two_digits x) (spaced xs)

-- ---- all lines. The induction goes over the lines

module _ (bytes : List ℕ) where
  abbrev text_of : ℕ → List ℕ
  text_of n = flat_map line_ended (parts (hex_line bytes) n)

  text_next : (r : ℕ) → text_of (suc r) ≡ text_of r ++ (joined (take 16 (drop (16 * r) bytes)) ++ 10 ∷ [])
  unfolding parts
  text_next r =
      flat_map-append line_ended (parts (hex_line bytes) r) (hex_line bytes r)
      ∙ ap (λ t. text_of r ++ t) (append-nil (joined (take 16 (drop (16 * r) bytes)) ++ 10 ∷ []))

  text_none : text_of 0 ≡ []
  unfolding parts
  text_none = refl

  abbrev row : ℕ → List ℕ
  row r = take 16 (drop (16 * r) bytes)

  row_some : (r : ℕ) → 16 * r < length bytes → 0 < length (row r)
  row_some r h = omega (arith, length-take 16 (drop (16 * r) bytes), length-drop (16 * r) bytes, h)

  row_few : (r : ℕ) → length (row r) ≤ 16
  row_few r = omega (arith, length-take 16 (drop (16 * r) bytes))

  front_lines : (r : ℕ) → 16 * r < length bytes → cells 0 (take (16 * suc r) bytes) ++ 10 ∷ [] ≡ text_of (suc r)
  front_lines zero h =
      ap (λ t. t ++ 10 ∷ []) (line_cells 0 0 (take 16 bytes) refl (row_some 0 h) (row_few 0))
      ∙ sym (text_next 0 ∙ ap (λ t. t ++ (joined (row 0) ++ 10 ∷ [])) text_none)
  front_lines (suc r) h =
      let m : ℕ = 16 * suc r in
      let sum : 16 * suc (suc r) ≡ m + 16 = omega arith in
      let cut : take (16 * suc (suc r)) bytes ≡ take m bytes ++ row (suc r) = ap (λ k. take k bytes) sum ∙ take-add m 16 bytes in
      let here : 0 + length (take m bytes) ≡ m = omega (arith, length-take m bytes, h) in
      let line : cells m (row (suc r)) ≡ 10 ∷ joined (row (suc r)) =
      line_cells m (suc r) (row (suc r)) refl (row_some (suc r) h) (row_few (suc r))
      ∙ ap (λ t. t ++ joined (row (suc r))) (before_next m r (omega arith)) in
      ap (λ xs. cells 0 xs ++ 10 ∷ []) cut
      ∙ ap (λ t. t ++ 10 ∷ []) (cells-append 0 (take m bytes) (row (suc r))
      ∙ ap (λ k. cells 0 (take m bytes) ++ cells k (row (suc r))) here ∙ ap (λ t. cells 0 (take m bytes) ++ t) line
      ∙ sym (append_assoc (cells 0 (take m bytes)) (10 ∷ []) (joined (row (suc r))))
      ∙ ap (λ t. t ++ joined (row (suc r))) (front_lines r (omega (arith, h))))
      ∙ append_assoc (text_of (suc r)) (joined (row (suc r))) (10 ∷ []) ∙ sym (text_next (suc r))

  all_lines : (r n : ℕ) → n ≡ length bytes → 16 * r < n → n ≤ 16 * suc r → cells 0 bytes ++ 10 ∷ [] ≡ flat_map line_ended (byte_lines bytes)
  all_lines r n is above below =
      let count : suc r ≡ (length bytes + 15) / 16 = omega (arith, is, above, below) in
      ap (λ xs. cells 0 xs ++ 10 ∷ []) (sym (take_all (16 * suc r) bytes (omega (arith, is, below))))
      ∙ front_lines r (omega (arith, is, above)) ∙ ap text_of count

  pub lines_ended : 0 < length bytes → cells 0 bytes ++ 10 ∷ [] ≡ flat_map line_ended (byte_lines bytes)
  lines_ended some = all_lines ((length bytes - 1) / 16) (length bytes) refl (omega (arith, some)) (omega (arith, some))

pub no_lines : (bytes : List ℕ) → length bytes ≡ 0 → flat_map line_ended (byte_lines bytes) ≡ cells 0 bytes
no_lines [] none = text_none []
no_lines (b ∷ bytes) none = absurd (omega (arith, none))

-- ---- replies

pub read_next : (rs : List Reply) (k : ℕ) → all_bytes_read (drop k rs) ≡ bytes_at rs k ++ all_bytes_read (drop (suc k) rs)
read_next [] zero = refl
read_next [] (suc k) = refl
read_next (r ∷ rs) zero = refl
read_next (r ∷ rs) (suc k) = read_next rs k

pub read_more : (rs : List Reply) (k : ℕ) → all_bytes_read (drop k rs) ≡ bytes_at rs k ++ all_bytes_read (drop (k + 1) rs)
read_more rs k = rw (add-one k) (read_next rs k)

pub lengths_more : (rs : List Reply) (k : ℕ)
    → length (all_bytes_read (drop k rs)) ≡ length (bytes_at rs k) + length (all_bytes_read (drop (k + 1) rs))
lengths_more rs k = ap length (read_more rs k) ∙ length-append (bytes_at rs k) (all_bytes_read (drop (k + 1) rs))

pub none_left : (rs : List Reply) (k : ℕ) → length rs ≤ k → all_bytes_read (drop k rs) ≡ []
none_left [] zero h = refl
none_left [] (suc k) h = refl
none_left (r ∷ rs) zero h = absurd (omega (arith, h))
none_left (r ∷ rs) (suc k) h = none_left rs k (omega (arith, h))

-- ---- a loop over the places of replies

module _ (rs : List Reply) (o : List ℕ) where
  -- the text so far, with what is still to be printed, is the whole text
  pub same_next : (k n m : ℕ) (xs a b : List ℕ) → xs ≡ bytes_at rs k → m ≡ n + length xs → b ≡ a ++ cells n xs
      → a ++ cells n (all_bytes_read (drop k rs)) ≡ o ++ cells 0 (all_bytes_read rs)
      → b ++ cells m (all_bytes_read (drop (k + 1) rs)) ≡ o ++ cells 0 (all_bytes_read rs)
  same_next k n m xs a b is more new same =
      let rest : List ℕ = all_bytes_read (drop (k + 1) rs) in
      let whole : all_bytes_read (drop k rs) ≡ xs ++ rest = read_more rs k ∙ ap (λ t. t ++ rest) (sym is) in
      ap (λ t. t ++ cells m rest) new ∙ append_assoc a (cells n xs) (cells m rest)
      ∙ ap (λ t. a ++ (cells n xs ++ cells t rest)) more ∙ ap (λ t. a ++ t) (sym (cells-append n xs rest))
      ∙ ap (λ t. a ++ cells n t) (sym whole) ∙ same

  pub many_next : (k n m : ℕ) (xs : List ℕ) → xs ≡ bytes_at rs k → m ≡ n + length xs
      → n + length (all_bytes_read (drop k rs)) ≡ length (all_bytes_read rs) → m + length (all_bytes_read (drop (k + 1) rs)) ≡ length
      (all_bytes_read rs)
  many_next k n m xs is more many =
      let here : length xs ≡ length (bytes_at rs k) = ap length is in
      omega (arith, here, more, many, lengths_more rs k)

  same_end : (k n : ℕ) (a : List ℕ) → length rs ≤ k → a ++ cells n (all_bytes_read (drop k rs)) ≡ o ++ cells 0 (all_bytes_read rs)
      → a ≡ o ++ cells 0 (all_bytes_read rs)
  same_end k n a past same = sym (append-nil a) ∙ ap (λ t. a ++ cells n t) (sym (none_left rs k past)) ∙ same

  pub many_end : (k n : ℕ) → length rs ≤ k → n + length (all_bytes_read (drop k rs)) ≡ length (all_bytes_read rs)
      → n ≡ length (all_bytes_read rs)
  many_end k n past many = let none : length (all_bytes_read (drop k rs)) ≡ 0 = ap length (none_left rs k past) in omega (arith, none, many)

  pub some_ended : (k n : ℕ) (a b : List ℕ) → length rs ≤ k → n + length (all_bytes_read (drop k rs)) ≡ length (all_bytes_read rs) → 0 < n
      → a ++ cells n (all_bytes_read (drop k rs)) ≡ o ++ cells 0 (all_bytes_read rs) → b ≡ a ++ 10 ∷ []
      → b ≡ o ++ flat_map line_ended (byte_lines (all_bytes_read rs))
  some_ended k n a b past many some same new =
      let all : n ≡ length (all_bytes_read rs) = many_end k n past many in
      new ∙ ap (λ t. t ++ 10 ∷ []) (same_end k n a past same) ∙ append_assoc o (cells 0 (all_bytes_read rs)) (10 ∷ [])
      ∙ ap (λ t. o ++ t) (lines_ended (all_bytes_read rs) (omega (arith, all, some)))

  pub none_ended : (k n : ℕ) (a : List ℕ) → length rs ≤ k → n + length (all_bytes_read (drop k rs)) ≡ length (all_bytes_read rs) → n ≤ 0
      → a ++ cells n (all_bytes_read (drop k rs)) ≡ o ++ cells 0 (all_bytes_read rs) → a ≡ o ++ flat_map line_ended
      (byte_lines (all_bytes_read rs))
  none_ended k n a past many none same =
      let all : n ≡ length (all_bytes_read rs) = many_end k n past many in
      same_end k n a past same ∙ ap (λ t. o ++ t) (sym (no_lines (all_bytes_read rs) (omega (arith, all, none))))
