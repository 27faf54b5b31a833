-- i2cdump: what its line means is in range, and how long it is; its options are read one by one; each reply is one that the call at its
-- place may get; its calls are within the limits, and what it prints is lines of a section.
use Rattle.tools.proofs.Cited.{◌≡◌, ℕ, zero, suc, ◌+◌, ◌-◌, ◌*◌, ◌/◌, ◌%◌, ◌<◌, ◌≤◌, ◌&&◌, nat_le, Bool, true, false, cond, List, [], ◌∷◌}
use Rattle.tools.proofs.Cited.{◌++◌, codes, Option, Some, None, Result, Err, refl, subst, sym, ap, ◌∙◌, arith, All, IfSome, not, ◌==◌, ◌||◌}
use Rattle.tools.proofs.Cited.{slice_get, option_and_then, bytes_eq, nat_tests, All-nil, All-cons, IsLine, IsSectionLine, line-append}
use Rattle.tools.proofs.Cited.{two_digits-line, errno_text, two_digits, Fits, Reply, messages_of_call, SmbCall, SmbOp, IsInRange, Dialogue}
use Rattle.tools.proofs.Cited.{AreReplies, next_place, dump_call, dump_cell, dump_sign, byte_line, dump_word, IsDumpInRange, Grammar, word}
use Rattle.tools.proofs.Cited.{class, read_at, Word, number_in, ◌>>=◌, one_at, is_at, parts, heading, in_row, Cmd, Dump, and_first}
use Rattle.std.specs.Prelude.{is_some}
use Rattle.i2c_base.specs.declared.reply.Reply.TheVariants as reply
use Rattle.smb_emul.specs.declared.call.SmbFail.TheVariants.{Errno}
use Rattle.smb_emul.specs.declared.call.SmbOp.TheVariants as op
use Rattle.tools.specs.DumpTables.{dump_places, dump_op, is_refusal, register_read, is_dumped, byte_cell, byte_sign, byte_row, rows}
use Rattle.tools.specs.DumpTables.{byte_table, word_cell, word_row, table_by, told_alone, dump_lines, dumps}
use Rattle.tools.specs.Dumps.{is_dash, range_with, range_of, range_word, dump_mode, dumped, range_or_all, dump_tail, dump_bus, unless}
use Rattle.tools.specs.Dumps.{by_yes, dump_options, dump_words, IsWhole}
use Rattle.tools.specs.Words.{before_gap, behind_gap}
use Rattle.tools.specs.declared.command.dump.DumpMode.{DumpMode}
use Rattle.tools.specs.declared.command.dump.DumpMode.TheVariants as mode
use Rattle.tools.specs.declared.command.dump.DumpOptions.{DumpOptions}
use Rattle.tools.proofs.CallLemmas.{some_same}
use Rattle.tools.proofs.GrammarLemmas.{AllEnds, EndsWithin, ends_within_most}
use Rattle.tools.proofs.OptionLemmas.{IsBetween, bounded, if_named, mode_is, number_between}
use Rattle.tools.proofs.TableLemmas.{parts_line, row_section, rows_section}
use Rattle.tools.proofs.TransferLemmas.{IsAsk, call_asks, short_byte}
use Rattle.tools.proofs.ValueLemmas.{others, result_line}

-- ---- its options are read one by one

pub options_none : (o : DumpOptions) (ws : List Word) (i : ℕ) → read_at (dump_options 0 o) ws i ≡ read_at (dump_bus o) ws i
unfolding dump_options
options_none o ws i = refl

-- where this one hasn't come yet it is read, or else what follows
abbrev pub read_unless : Bool → Word → List Word → ℕ → Result Cmd ℕ → Result Cmd ℕ → Result Cmd ℕ
read_unless given text ws i r s = cond (not given && is_at text ws i) r s

unless_read : (given : Bool) (text : Word) (g h : Grammar Cmd) (ws : List Word) (i : ℕ)
    → read_at (unless given text g h) ws i ≡ read_unless given text ws i (read_at g ws (i + 1)) (read_at h ws i)
unless_read true text g h ws i = refl
unless_read false text g h ws i = refl

yes_read : (yes : Bool) (g h : Grammar Cmd) (ws : List Word) (i : ℕ)
    → read_at (by_yes yes g (word (codes "-y") h)) ws i ≡
    cond yes (read_at g ws i) (cond (is_at (codes "-y") ws i) (read_at h ws (i + 1)) (Err i))
yes_read true g h ws i = refl
yes_read false g h ws i = refl

pub options_more : (n : ℕ) (o : DumpOptions) (ws : List Word) (i : ℕ) → 0 < n
    → read_at (dump_options n o) ws i ≡
    read_unless o.force (codes "-f") ws i (read_at (dump_options (n - 1) (record o { force = true })) ws (i + 1))
    (read_unless (is_some o.range) (codes "-r") ws i
    (one_at range_word.of ws (i + 1) >>= λ r. read_at (dump_options (n - 1) (record o { range = Some r })) ws (i + 1 + 1))
    (cond o.yes (read_at (dump_bus o) ws i)
    (cond (is_at (codes "-y") ws i) (read_at (dump_options (n - 1) (record o { yes = true })) ws (i + 1)) (Err i))))
unfolding dump_options
options_more zero o ws i more = absurd (omega (arith, more))
options_more (suc n) o ws i more =
    let less : suc n - 1 ≡ n = omega arith in
    rw (less, unless_read o.force, unless_read (is_some o.range), yes_read o.yes) refl

-- ---- its range

-- the registers of a range are in order
pub record IsRange (r : ℕ × ℕ) : Type 0 where
  pub order : r.0 ≤ r.1
  pub last : r.1 ≤ 255

ordered : (a b : ℕ) (r : ℕ × ℕ) (t : Bool) → nat_le a b ≡ t → cond t (Some (a, b)) None ≡ Some r → b ≤ 255 → IsRange r
ordered a b r true e same small = let is : (a, b) ≡ r = cc in subst IsRange is (record { order = bounded a b e; last = small })
ordered a b r false e same small = absurd cc

range_fits : (first last : Option ℕ) (r : ℕ × ℕ) → range_with first last ≡ Some r → IfSome last (λ n. n ≤ 255) → IsRange r
range_fits None last r is h = absurd cc
range_fits (Some a) None r is h = absurd cc
range_fits (Some a) (Some b) r is h = ordered a b r (nat_le a b) refl is h

small_number : (w : Word) (o : Option ℕ) → number_in 0 255 w ≡ o → IfSome o (λ n. n ≤ 255)
small_number w None is = tt
small_number w (Some n) is = (number_between 0 255 w n is).to_high

small_behind : (o : Option Word) → IfSome (option_and_then (number_in 0 255) o) (λ n. n ≤ 255)
small_behind None = tt
small_behind (Some w) = small_number w (number_in 0 255 w) refl

range_is : (w : Word) (r : ℕ × ℕ) → range_of w ≡ Some r → IsRange r
range_is w r is =
    range_fits (number_in 0 255 (before_gap is_dash w)) (option_and_then (number_in 0 255) (behind_gap is_dash w)) r is
    (small_behind (behind_gap is_dash w))

-- without a range all are read
range_or_all_is : (r : Option (ℕ × ℕ)) → IfSome r IsRange → IsRange (range_or_all r)
range_or_all_is None h = record { order = omega arith; last = omega arith }
range_or_all_is (Some r) h = h

abbrev IsWholeOf : Option (ℕ × ℕ) → DumpMode × Bool → Type 0
IsWholeOf r m = IsWhole m.0 (range_or_all r).0 (range_or_all r).1

all_whole : (r : Option (ℕ × ℕ)) → not (is_some r) ≡ true → IsWholeOf r (mode.I2cBlock, false)
all_whole None h = (refl, refl)
all_whole (Some r) h = absurd cc

mode_fits : (r : Option (ℕ × ℕ)) (w : Word) → IfSome (dump_mode (is_some r) w) (IsWholeOf r)
mode_fits r w =
    if_named (IsWholeOf r) (bytes_eq w (codes "b")) (mode.Byte, false) _ (λ e. tt)
    (if_named (IsWholeOf r) (bytes_eq w (codes "w")) (mode.Word, false) _ (λ e. tt)
    (if_named (IsWholeOf r) (bytes_eq w (codes "c")) (mode.Receive, false) _ (λ e. tt)
    (if_named (IsWholeOf r) (bytes_eq w (codes "bp")) (mode.Byte, true) _ (λ e. tt)
    (if_named (IsWholeOf r) (bytes_eq w (codes "wp")) (mode.Word, true) _ (λ e. tt)
    (if_named (IsWholeOf r) (bytes_eq w (codes "cp")) (mode.Receive, true) _ (λ e. tt)
    (if_named (IsWholeOf r) (not (is_some r) && bytes_eq w (codes "i")) (mode.I2cBlock, false) _
    (λ e. all_whole r (and_first (not (is_some r)) (bytes_eq w (codes "i")) e)) tt))))))

unless_ends : (P : Cmd → Type 0) (given : Bool) (text : Word) (g h : Grammar Cmd) → AllEnds P g → AllEnds P h
    → AllEnds P (unless given text g h)
unless_ends P true text g h p q = q
unless_ends P false text g h p q = (p, q)

yes_ends : (P : Cmd → Type 0) (yes : Bool) (g h : Grammar Cmd) → AllEnds P g → AllEnds P h
    → AllEnds P (by_yes yes g (word (codes "-y") h))
yes_ends P true g h p q = p
yes_ends P false g h p q = q

module _ (limit : ℕ) where
  dumped_fits : (o : DumpOptions) (bus addr : ℕ) (m : DumpMode × Bool) → IsBetween 0 65535 bus → IsBetween 8 119 addr
      → IfSome o.range IsRange → IsWholeOf o.range m → IsInRange limit (dumped o bus addr m)
  dumped_fits o bus addr m on to range whole = record {
    bus = omega (arith, on.to_high);
    addr = (to.from_low, to.to_high);
    order = (range_or_all_is o.range range).order;
    last = (range_or_all_is o.range range).last;
    whole = whole;
  }

  bus_fits : (o : DumpOptions) → IfSome o.range IsRange → AllEnds (IsInRange limit) (dump_bus o)
  unfolding dump_bus dump_tail
  bus_fits o range w bus is_bus x addr is_addr =
      let on = number_between 0 65535 w bus is_bus in
      let to = number_between 8 119 x addr is_addr in (
        dumped_fits o bus addr (mode.Byte, false) on to range tt,
        λ y m is_m.
            dumped_fits o bus addr m on to range
            (mode_is (IsWholeOf o.range) (dump_mode (is_some o.range) y) m is_m (mode_fits o.range y)),
      )

  options_fit : (n : ℕ) (o : DumpOptions) → IfSome o.range IsRange → AllEnds (IsInRange limit) (dump_options n o)
  unfolding dump_options
  options_fit zero o range = bus_fits o range
  options_fit (suc n) o range =
      unless_ends (IsInRange limit) o.force (codes "-f") (dump_options n (record o { force = true })) _
      (options_fit n (record o { force = true }) range)
      (unless_ends (IsInRange limit) (is_some o.range) (codes "-r")
      (class range_word (λ r. dump_options n (record o { range = Some r }))) _
      (λ w r is. options_fit n (record o { range = Some r }) (range_is w r is))
      (yes_ends (IsInRange limit) o.yes (dump_bus o) (dump_options n (record o { yes = true })) (bus_fits o range)
      (options_fit n (record o { yes = true }) range)))

pub dump_fits : (limit : ℕ) → AllEnds (IsInRange limit) dump_words
unfolding dump_words
dump_fits limit = options_fit limit 3 (record { force = false; yes = false; range = None }) tt

-- ---- its length: after the first word it has at most seven words

bus_within : (o : DumpOptions) → EndsWithin 3 (dump_bus o)
unfolding dump_bus dump_tail
bus_within o = λ w bus is x addr is_addr y m is_m. tt

-- so many words the options that haven't come and what follows them have at most
abbrev words_left : Bool → Bool → Option (ℕ × ℕ) → ℕ
words_left true true (Some r) = 3
words_left false true (Some r) = 4
words_left true false (Some r) = 4
words_left false false (Some r) = 5
words_left true true None = 5
words_left false true None = 6
words_left true false None = 6
words_left false false None = 7

abbrev opts : Bool → Bool → Option (ℕ × ℕ) → DumpOptions
opts f y r = record { force = f; yes = y; range = r }

bus_most : (most : ℕ) (o : DumpOptions) → 3 ≤ most → EndsWithin most (dump_bus o)
bus_most most o le = ends_within_most 3 most (dump_bus o) le (bus_within o)

bus_left : (f y : Bool) (r : Option (ℕ × ℕ)) → EndsWithin (words_left f y r) (dump_bus (opts f y r))
bus_left true true (Some r) = bus_within (opts true true (Some r))
bus_left false true (Some r) = bus_most 4 (opts false true (Some r)) (omega arith)
bus_left true false (Some r) = bus_most 4 (opts true false (Some r)) (omega arith)
bus_left false false (Some r) = bus_most 5 (opts false false (Some r)) (omega arith)
bus_left true true None = bus_most 5 (opts true true None) (omega arith)
bus_left false true None = bus_most 6 (opts false true None) (omega arith)
bus_left true false None = bus_most 6 (opts true false None) (omega arith)
bus_left false false None = bus_most 7 (opts false false None) (omega arith)

options_within : (n : ℕ) (f y : Bool) (r : Option (ℕ × ℕ)) → EndsWithin (words_left f y r) (dump_options n (opts f y r))
unfolding dump_options
options_within zero f y r = bus_left f y r
options_within (suc n) true true (Some r) = bus_left true true (Some r)
options_within (suc n) false true (Some r) = (options_within n true true (Some r), bus_left false true (Some r))
options_within (suc n) true false (Some r) = options_within n true true (Some r)
options_within (suc n) false false (Some r) = (options_within n true false (Some r), options_within n false true (Some r))
options_within (suc n) true true None = (λ w r is. options_within n true true (Some r), bus_left true true None)
options_within (suc n) false true None =
    (options_within n true true None, (λ w r is. options_within n false true (Some r), bus_left false true None))
options_within (suc n) true false None = (λ w r is. options_within n true false (Some r), options_within n true true None)
options_within (suc n) false false None =
    (options_within n true false None, (λ w r is. options_within n false false (Some r), options_within n false true None))

pub dump_within : EndsWithin 7 dump_words
unfolding dump_words
dump_within = options_within 3 false false None

-- ---- each reply is one that the call at its place may get

-- whatever holds of each reply from a place on
fit_from : (d : Dialogue) (P : Reply → Type 0) (from : ℕ) → ((j : ℕ) (r : Reply) → from ≤ j → Fits (d.at j) r → P r)
    → (j : ℕ) (rs : List Reply) (i : ℕ) (r : Reply) → from ≤ j → AreReplies d j rs → slice_get rs i ≡ Some r → P r
fit_from d P from h j [] i r le are is = absurd cc
fit_from d P from h j (x ∷ xs) zero r le are is = subst P (some_same x r is) (h j x le are.0)
fit_from d P from h j (x ∷ xs) (suc i) r le are is = fit_from d P from h (next_place d j x) xs i r (omega (arith, le)) are.1 is

module _ (d : Dump) where
  abbrev call_of : SmbOp → SmbCall
  call_of o = record { bus = d.bus; addr = d.addr; force = d.force; pec = d.pec; op = o }

  abbrev call_by : DumpMode → ℕ → SmbCall
  call_by m k = call_of (dump_op m d.first k)

  -- after the first place each call of `c` receives
  receives : (k : ℕ) → 1 ≤ k → call_by mode.Receive k ≡ call_of op.ReceiveByte
  receives k le =
      let later : (k == 0) ≡ false = grind (arith, nat_tests) in
      ap (λ b. call_of (cond b (op.SendByte d.first) op.ReceiveByte)) later

  -- after the first place all calls may get the same replies
  same_fits : (m : DumpMode) (j k : ℕ) (r : Reply) → 1 ≤ j → Fits (messages_of_call (call_by m j)) r
      → Fits (messages_of_call (call_by m (suc k))) r
  same_fits mode.Byte j k reply.Done le fits = fits
  same_fits mode.Byte j k (reply.Read bytes) le fits = fits
  same_fits mode.Byte j k (reply.Err e) le fits = fits
  same_fits mode.Word j k reply.Done le fits = fits
  same_fits mode.Word j k (reply.Read bytes) le fits = fits
  same_fits mode.Word j k (reply.Err e) le fits = fits
  same_fits mode.Receive j k r le fits =
      subst (λ (c : SmbCall). Fits (messages_of_call c) r) (receives j le ∙ sym (receives (suc k) (omega arith))) fits
  same_fits mode.I2cBlock j k reply.Done le fits = fits
  same_fits mode.I2cBlock j k (reply.Read bytes) le fits = fits
  same_fits mode.I2cBlock j k (reply.Err e) le fits = fits

  pub place_fits : (rs : List Reply) (k : ℕ) (r : Reply) → AreReplies (dumps d) 0 rs → slice_get rs k ≡ Some r
      → Fits (messages_of_call (dump_call d k)) r
  place_fits [] k r are is = absurd cc
  place_fits (x ∷ xs) zero r are is = subst (Fits (messages_of_call (dump_call d 0))) (some_same x r is) are.0
  place_fits (x ∷ xs) (suc k) r are is =
      fit_from (dumps d) (Fits (messages_of_call (dump_call d (suc k)))) 1 (λ j y le fits. same_fits d.mode j k y le fits)
      (next_place (dumps d) 0 x) xs k r (omega arith) are.1 is

-- ---- its transfers are within the limits

module _ (d : Dump) (range : IsDumpInRange d) where
  asks_by : (m : DumpMode) (k : ℕ) → k < dump_places m d.first d.last → IsAsk (messages_of_call (call_by d m k))
  asks_by mode.Byte k within =
      call_asks (call_by d mode.Byte k) (λ e. range.addr.1) (short_byte (d.first + k) (omega (arith, within, range.order, range.last)))
      (omega arith, omega arith) (omega arith)
  asks_by mode.Word k within =
      call_asks (call_by d mode.Word k) (λ e. range.addr.1) (short_byte (d.first + k) (omega (arith, within, range.order, range.last)))
      (omega arith, omega arith) (omega arith)
  asks_by mode.Receive k within =
      elim (k == 0) as (λ b. IsAsk (messages_of_call (call_of d (cond b (op.SendByte d.first) op.ReceiveByte)))) [
        | true ↦
            call_asks (call_of d (op.SendByte d.first)) (λ e. range.addr.1) (short_byte d.first (omega (arith, range.order, range.last))) tt
            (omega arith)
        | false ↦ call_asks (call_of d op.ReceiveByte) (λ e. range.addr.1) tt (omega arith, omega arith) (omega arith)
      ]
  asks_by mode.I2cBlock k within =
      call_asks (call_by d mode.I2cBlock k) (λ e. range.addr.1) (short_byte (32 * k) (omega (arith, within)))
      (omega arith, omega arith) (omega arith)

  pub dump_asks : (k : ℕ) → k < (dumps d).places → IsAsk ((dumps d).at k)
  dump_asks k within = asks_by d.mode k within

-- ---- what it prints is lines of a section

byte_cell_line : (o : Option ℕ) → IsLine (byte_cell o)
byte_cell_line None = refl
byte_cell_line (Some b) = line-append (codes " ") (two_digits b) refl (two_digits-line b)

word_cell_line : (o : Option ℕ) → IsLine (word_cell o)
word_cell_line None = refl
word_cell_line (Some w) =
    line-append (codes " ") (two_digits (w / 256) ++ two_digits (w % 256)) refl
    (line-append (two_digits (w / 256)) (two_digits (w % 256)) (two_digits-line (w / 256)) (two_digits-line (w % 256)))

printable : (b : ℕ) (t u : Bool) → (nat_le 32 b && nat_le b 126) ≡ t → IsLine (cond t b (cond u 46 63) ∷ [])
printable b true u e =
    let low : 32 ≤ b = bounded 32 b (and_first (nat_le 32 b) (nat_le b 126) e) in
    let other : (b == 10) ≡ false = grind (arith, nat_tests) in
    rw other refl
printable b false true e = refl
printable b false false e = refl

sign_line : (o : Option ℕ) → IsLine (byte_sign o ∷ [])
sign_line None = refl
sign_line (Some b) = printable b (nat_le 32 b && nat_le b 126) ((b == 0) || (b == 255)) refl

-- so is either of two texts
either_line : (t : Bool) (a b : List ℕ) → IsLine a → IsLine b → IsLine (cond t a b)
either_line true a b p q = p
either_line false a b p q = q

either_sign : (t : Bool) (a b : ℕ) → IsLine (a ∷ []) → IsLine (b ∷ []) → IsLine (cond t a b ∷ [])
either_sign true a b p q = p
either_sign false a b p q = q

module _ (d : Dump) (rs : List Reply) where
  byte_row_section : (row : ℕ) → IsSectionLine (byte_row d rs row)
  byte_row_section row =
      row_section row (parts (in_row (dump_cell d rs) row) 16 ++ (codes "    " ++ parts (in_row (dump_sign d rs) row) 16))
      (line-append (parts (in_row (dump_cell d rs) row) 16) (codes "    " ++ parts (in_row (dump_sign d rs) row) 16)
      (parts_line (in_row (dump_cell d rs) row) 16
      (λ k. either_line (is_dumped d (row + k)) (byte_cell (register_read d rs (row + k))) (codes "   ")
      (byte_cell_line (register_read d rs (row + k))) refl))
      (line-append (codes "    ") (parts (in_row (dump_sign d rs) row) 16) refl
      (parts_line (in_row (dump_sign d rs) row) 16
      (λ k. either_sign (is_dumped d (row + k)) (byte_sign (register_read d rs (row + k))) 32
      (sign_line (register_read d rs (row + k))) refl))))

  word_row_section : (row : ℕ) → IsSectionLine (word_row d rs row)
  word_row_section row =
      row_section row (parts (in_row (dump_word d rs) row) 8)
      (parts_line (in_row (dump_word d rs) row) 8
      (λ k. either_line (is_dumped d (row + k)) (word_cell (register_read d rs (row + k))) (codes "     ")
      (word_cell_line (register_read d rs (row + k))) refl))

  byte_table_section : All IsSectionLine (byte_table d rs)
  byte_table_section =
      All-cons IsSectionLine (heading ++ codes "    0123456789abcdef") (parts (byte_line d rs) (rows 16 d.first d.last))
      (record { one = refl; other = others (heading ++ codes "    0123456789abcdef") 32 refl (omega arith) })
      (rows_section (λ r. byte_row d rs (16 * (d.first / 16 + r))) (rows 16 d.first d.last)
      (λ r. byte_row_section (16 * (d.first / 16 + r))))

  table_section : (m : DumpMode) → All IsSectionLine (table_by m d rs)
  table_section mode.Byte = byte_table_section
  table_section mode.Word =
      rows_section (λ r. word_row d rs (8 * (d.first / 8 + r))) (rows 8 d.first d.last) (λ r. word_row_section (8 * (d.first / 8 + r)))
  table_section mode.Receive = byte_table_section
  table_section mode.I2cBlock = byte_table_section

told_section : (o : Option Reply) (table : List (List ℕ)) → All IsSectionLine table → All IsSectionLine (told_alone o table)
told_section None table each = each
told_section (Some reply.Done) table each = each
told_section (Some (reply.Read bytes)) table each = each
told_section (Some (reply.Err e)) table each =
    elim (is_refusal (reply.Err e)) as (λ b. All IsSectionLine (cond b (errno_text e ∷ []) table)) [
      | true ↦ All-cons IsSectionLine (errno_text e) [] (result_line (Err (Errno e))) (All-nil IsSectionLine)
      | false ↦ each
    ]

pub dump_section : (d : Dump) (rs : List Reply) → All IsSectionLine (dump_lines d rs)
dump_section d rs = told_section (slice_get rs 0) (table_by d.mode d rs) (table_section d rs d.mode)

-- ---- its calls ask for the same messages, but for the number of the register

abbrev asked_by : Dump → DumpMode → ℕ → SmbCall
asked_by d m k = record { bus = d.bus; addr = d.addr; force = d.force; pec = d.pec; op = dump_op m d.first k }
