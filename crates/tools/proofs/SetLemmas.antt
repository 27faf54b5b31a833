-- i2cset: what its line means is in range, and how long it is; and the bytes of a block are read one by one, as a loop does.
use Rattle.tools.proofs.Cited.{◌≡◌, ℕ, zero, suc, ◌+◌, ◌-◌, ◌^◌, ◌<◌, ◌≤◌, ◌&&◌, nat_le, Bool, true, false, List, [], ◌∷◌, ◌++◌, length}
use Rattle.tools.proofs.Cited.{codes, Option, Some, None, refl, subst, arith, Result, Ok, Err, sym, ◌∙◌, IfSome, bytes_eq, length-append}
use Rattle.tools.proofs.Cited.{All-nil, All-cons, All-append, IsTargetAddress, AreBytes, IsByte, IsInRange, Grammar, read_at, Word}
use Rattle.tools.proofs.Cited.{number_in, HasValues, block_mode, is_short, block_room, block_piece, Cmd, SetMode, one_at, and_first}
use Rattle.std.specs.Option.{option_or}
use Rattle.tools.specs.Sets.{IsBlock, send_mode, word_mode, byte_mode, mode_or, by_piece, set_to, set_by, set_block, set_byte, set_number}
use Rattle.tools.specs.Sets.{set_values, set_reg, set_bus, set_words}
use Rattle.tools.specs.declared.command.set.SetHead.{SetHead}
use Rattle.tools.specs.declared.command.set.SetMode.TheVariants as set_mode
use Rattle.tools.specs.declared.command.set.SetPiece.{SetPiece}
use Rattle.tools.specs.declared.command.set.SetPiece.TheVariants as piece
use Rattle.tools.proofs.GrammarLemmas.{AllEnds, EndsWithin}
use Rattle.tools.proofs.OptionLemmas.{bounded, if_named, mode_is, number_between, options_end, options_within}

-- ---- its range

if_either : (Q : SetMode × Bool → Type 0) (o p : Option (SetMode × Bool)) → IfSome o Q → IfSome p Q → IfSome (option_or o p) Q
if_either Q (Some m) p q r = q
if_either Q None p q r = r

-- a mode or a value, and what follows each
piece_fits : (P : Cmd → Type 0) (o : Option (SetMode × Bool)) (n : Option ℕ) (named : SetMode × Bool → Grammar Cmd)
    (value : ℕ → Grammar Cmd) (b : SetPiece) → mode_or o n ≡ Some b → IfSome o (λ m. AllEnds P (named m))
    → ((v : ℕ) → n ≡ Some v → AllEnds P (value v)) → AllEnds P (by_piece named value b)
piece_fits P (Some m) n named value b is h k =
    let same : piece.Named m ≡ b = cc in
    subst (λ x. AllEnds P (by_piece named value x)) same h
piece_fits P None (Some v) named value b is h k =
    let same : piece.Value v ≡ b = cc in
    subst (λ x. AllEnds P (by_piece named value x)) same (k v refl)
piece_fits P None None named value b is h k = absurd cc

module _ (limit : ℕ) (h : SetHead) (on : h.bus < 2 ^ 16) (to : IsTargetAddress h.addr) (small : h.reg < 2 ^ 8) where
  set_fits : (vs : List ℕ) (m : Option SetMode) (pec : Bool) → HasValues limit m vs → IsInRange limit (set_to h vs m pec)
  set_fits vs m pec v = record { bus = on; addr = to; reg = small; values = v }

  send_fits : (w : Word) → IfSome (send_mode w) (λ m. HasValues limit (Some m.0) [])
  send_fits w =
      if_named _ (bytes_eq w (codes "c")) (set_mode.Send, false) _ (λ e. tt)
      (if_named _ (bytes_eq w (codes "cp")) (set_mode.Send, true) _ (λ e. tt) tt)

  word_fits : (w : Word) (v : ℕ) → v < 65536 → IfSome (word_mode w) (λ m. HasValues limit (Some m.0) (v ∷ []))
  word_fits w v small =
      if_named _ (bytes_eq w (codes "w")) (set_mode.Word, false) _ (λ e. small)
      (if_named _ (bytes_eq w (codes "wp")) (set_mode.Word, true) _ (λ e. small) tt)

  block_fits : (w : Word) (vs : List ℕ) (short : Bool) → (short ≡ true → length vs ≤ 32) → IsBlock (block_room limit) vs
      → IfSome (block_mode short w) (λ m. HasValues limit (Some m.0) vs)
  block_fits w vs short few block =
      if_named _ (bytes_eq w (codes "s")) (set_mode.Block, false) _ (λ e. block)
      (if_named _ (bytes_eq w (codes "sp")) (set_mode.Block, true) _ (λ e. block)
      (if_named _ (short && bytes_eq w (codes "i")) (set_mode.I2cBlock, false) _
      (λ e. (block.0, block.1, few (and_first short (bytes_eq w (codes "i")) e))) tt))

  byte_fits : (w : Word) (v : ℕ) → v < 256 → IfSome (byte_mode w) (λ m. HasValues limit (Some m.0) (v ∷ []))
  byte_fits w v is_byte =
      if_named _ (bytes_eq w (codes "b")) (set_mode.Byte, false) _ (λ e. is_byte)
      (if_named _ (bytes_eq w (codes "bp")) (set_mode.Byte, true) _ (λ e. is_byte)
      (if_either _ (word_mode w) (block_mode true w) (word_fits w v (omega (arith, is_byte)))
      (block_fits w (v ∷ []) true (λ e. omega arith) (All-cons IsByte v [] is_byte (All-nil IsByte), omega arith, omega arith))))

  -- a mode after such values
  named_fits : (vs : List ℕ) (m : SetMode × Bool) → HasValues limit (Some m.0) vs → AllEnds (IsInRange limit) (set_by h vs m)
  named_fits vs m v = set_fits vs (Some m.0) m.1 v

  if_fits : (vs : List ℕ) (o : Option (SetMode × Bool)) → IfSome o (λ m. HasValues limit (Some m.0) vs)
      → IfSome o (λ m. AllEnds (IsInRange limit) (set_by h vs m))
  if_fits vs None v = tt
  if_fits vs (Some m) v = named_fits vs m v

  blocks_fit : (more : ℕ) (vs : List ℕ) → AreBytes vs → 1 ≤ length vs → length vs + more ≤ block_room limit
      → AllEnds (IsInRange limit) (set_block h more vs)
  unfolding set_block
  blocks_fit zero vs bytes some few = λ w m is.
      named_fits vs m (mode_is (λ m. HasValues limit (Some m.0) vs) (block_mode (is_short vs) w) m is
      (block_fits w vs (is_short vs) (bounded (length vs) 32) (bytes, some, omega (arith, few))))
  blocks_fit (suc more) vs bytes some few = λ w b is.
      piece_fits (IsInRange limit) (block_mode (is_short vs) w) (number_in 0 255 w) (set_by h vs)
      (λ v. set_block h more (vs ++ v ∷ [])) b is
      (if_fits vs (block_mode (is_short vs) w) (block_fits w vs (is_short vs) (bounded (length vs) 32) (bytes, some, omega (arith, few))))
      (λ v is_v.
      let small : v < 256 = omega (arith, (number_between 0 255 w v is_v).to_high) in
      let longer : length (vs ++ v ∷ []) ≡ length vs + 1 = length-append vs (v ∷ []) in
      blocks_fit more (vs ++ v ∷ []) (All-append IsByte vs (v ∷ []) bytes (All-cons IsByte v [] small (All-nil IsByte)))
      (omega (arith, longer)) (omega (arith, longer, few)))

  one_fits : (more v : ℕ) → v < 256 → 1 + more ≤ block_room limit → AllEnds (IsInRange limit) (set_byte h more v)
  unfolding set_byte
  one_fits zero v small few = (
    set_fits (v ∷ []) None false small,
    λ w m is. named_fits (v ∷ []) m (mode_is (λ m. HasValues limit (Some m.0) (v ∷ [])) (byte_mode w) m is (byte_fits w v small)),
  )
  one_fits (suc more) v small few = (
    set_fits (v ∷ []) None false small,
    λ w b is.
        piece_fits (IsInRange limit) (byte_mode w) (number_in 0 255 w) (set_by h (v ∷ [])) (λ x. set_block h more (v ∷ x ∷ [])) b is
        (if_fits (v ∷ []) (byte_mode w) (byte_fits w v small))
        (λ x is_x.
        let other : x < 256 = omega (arith, (number_between 0 255 w x is_x).to_high) in
        blocks_fit more (v ∷ x ∷ []) (All-cons IsByte v (x ∷ []) small (All-cons IsByte x [] other (All-nil IsByte))) (omega arith)
        (omega (arith, few))),
  )

  number_fits : (b : Bool) (v : ℕ) → nat_le v 255 ≡ b → v < 65536 → AllEnds (IsInRange limit) (set_number h b (block_room limit - 1) v)
  unfolding set_number
  number_fits true v is small = one_fits (block_room limit - 1) v (omega (arith, bounded v 255 is)) (omega arith)
  number_fits false v is small = λ w m is_m.
      named_fits (v ∷ []) m (mode_is (λ m. HasValues limit (Some m.0) (v ∷ [])) (word_mode w) m is_m (word_fits w v small))

  values_fit : AllEnds (IsInRange limit) (set_values h (block_room limit - 1))
  unfolding set_values
  values_fit = (
    set_fits [] None false tt,
    λ w b is.
        piece_fits (IsInRange limit) (send_mode w) (number_in 0 65535 w) (set_by h [])
        (λ v. set_number h (nat_le v 255) (block_room limit - 1) v) b is
        (if_fits [] (send_mode w) (send_fits w))
        (λ v is_v. number_fits (nat_le v 255) v refl (omega (arith, (number_between 0 65535 w v is_v).to_high))),
  )

bus_fits : (limit : ℕ) (force : Bool) → AllEnds (IsInRange limit) (set_bus limit force)
unfolding set_bus set_reg
bus_fits limit force w bus is x addr is_addr y reg is_reg =
    let to = number_between 8 119 x addr is_addr in
    values_fit limit (record { force = force; bus = bus; addr = addr; reg = reg })
    (omega (arith, (number_between 0 65535 w bus is).to_high)) (to.from_low, to.to_high)
    (omega (arith, (number_between 0 255 y reg is_reg).to_high))

pub set_line_fits : (limit : ℕ) → AllEnds (IsInRange limit) (set_words limit)
unfolding set_words
set_line_fits limit = options_end (IsInRange limit) (set_bus limit) (bus_fits limit)

-- ---- its length: after the first word it has at most 261 words

piece_within : (n : ℕ) (named : SetMode × Bool → Grammar Cmd) (value : ℕ → Grammar Cmd) (b : SetPiece)
    → ((m : SetMode × Bool) → EndsWithin n (named m)) → ((v : ℕ) → EndsWithin n (value v)) → EndsWithin n (by_piece named value b)
piece_within n named value (piece.Named m) h k = h m
piece_within n named value (piece.Value v) h k = k v

module _ (h : SetHead) where
  -- so many more bytes, and the mode
  block_within : (n more : ℕ) (vs : List ℕ) → more < n → EndsWithin n (set_block h more vs)
  unfolding set_block
  block_within zero more vs lt = absurd (omega (arith, lt))
  block_within (suc n) zero vs lt = λ w m is. tt
  block_within (suc n) (suc more) vs lt = λ w b is.
      piece_within n (set_by h vs) (λ v. set_block h more (vs ++ v ∷ [])) b (λ m. tt)
      (λ v. block_within n more (vs ++ v ∷ []) (omega (arith, lt)))

  byte_within : (n more v : ℕ) → more < n → EndsWithin n (set_byte h more v)
  unfolding set_byte
  byte_within zero more v lt = absurd (omega (arith, lt))
  byte_within (suc n) zero v lt = λ w m is. tt
  byte_within (suc n) (suc more) v lt = λ w b is.
      piece_within n (set_by h (v ∷ [])) (λ x. set_block h more (v ∷ x ∷ [])) b (λ m. tt)
      (λ x. block_within n more (v ∷ x ∷ []) (omega (arith, lt)))

  number_within : (b : Bool) (n more v : ℕ) → more < n → EndsWithin n (set_number h b more v)
  unfolding set_number
  number_within true n more v lt = byte_within n more v lt
  number_within false zero more v lt = absurd (omega (arith, lt))
  number_within false (suc n) more v lt = λ w m is. tt

  -- the first value too
  values_within : (n more : ℕ) → more < n → EndsWithin (suc n) (set_values h more)
  unfolding set_values
  values_within n more lt = λ w b is.
      piece_within n (set_by h []) (λ v. set_number h (nat_le v 255) more v) b (λ m. tt) (λ v. number_within (nat_le v 255) n more v lt)

bus_within : (limit : ℕ) (force : Bool) → EndsWithin 259 (set_bus limit force)
unfolding set_bus set_reg
bus_within limit force w bus is x addr is_addr y reg is_reg =
    values_within (record { force = force; bus = bus; addr = addr; reg = reg }) 255 (block_room limit - 1) (omega arith)

pub set_line_within : (limit : ℕ) → EndsWithin 261 (set_words limit)
unfolding set_words
set_line_within limit = options_within 259 (set_bus limit) (bus_within limit)

-- ---- its bytes, one by one

module _ (h : SetHead) (n k : ℕ) (vs : List ℕ) (ws : List Word) (i : ℕ) (whole : Result Cmd ℕ)
    (same : read_at (set_block h (n - k) vs) ws i ≡ whole) where
  pub piece_refused : (j : ℕ) → k < n → one_at (block_piece (is_short vs)).of ws i ≡ Err j → whole ≡ Err j
  unfolding set_block
  piece_refused j lt is = let e : n - k ≡ suc (n - (k + 1)) = omega arith in sym same ∙ rw (e, is)

  pub named_here : (m : SetMode × Bool) → k < n → one_at (block_piece (is_short vs)).of ws i ≡ Ok (piece.Named m)
      → whole ≡ read_at (set_by h vs m) ws (i + 1)
  unfolding set_block
  named_here m lt is = let e : n - k ≡ suc (n - (k + 1)) = omega arith in sym same ∙ rw (e, is)

  pub value_here : (v : ℕ) → k < n → one_at (block_piece (is_short vs)).of ws i ≡ Ok (piece.Value v)
      → read_at (set_block h (n - (k + 1)) (vs ++ v ∷ [])) ws (i + 1) ≡ whole
  unfolding set_block
  value_here v lt is = let e : n - k ≡ suc (n - (k + 1)) = omega arith in sym (sym same ∙ rw (e, is))

  pub mode_refused : (j : ℕ) → n ≤ k → one_at (block_mode (is_short vs)) ws i ≡ Err j → whole ≡ Err j
  unfolding set_block
  mode_refused j le is = let e : n - k ≡ 0 = omega arith in sym same ∙ rw (e, is)

  pub mode_here : (m : SetMode × Bool) → n ≤ k → one_at (block_mode (is_short vs)) ws i ≡ Ok m
      → whole ≡ read_at (set_by h vs m) ws (i + 1)
  unfolding set_block
  mode_here m le is = let e : n - k ≡ 0 = omega arith in sym same ∙ rw (e, is)
