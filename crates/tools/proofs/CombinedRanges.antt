-- What a line of i2ctransfer means is in range, and how long it is.
use Rattle.tools.proofs.Cited.{◌≡◌, ℕ, zero, suc, ◌+◌, ◌-◌, ◌%◌, ◌<◌, ◌≤◌, Bool, true, false, cond, List, [], ◌∷◌, ◌++◌, length, Option}
use Rattle.tools.proofs.Cited.{Some, None, refl, ap, subst, arith, All, IfSome, slice_index_or, option_and_then, sum_by, nat_tests}
use Rattle.tools.proofs.Cited.{length-append, All-nil, All-cons, All-append, IsTargetAddress, AreBytes, IsByte, head_of, bytes_asked}
use Rattle.tools.proofs.Cited.{desc_of, bytes_of, length_of, IsOpInRange, by_datum, combined, some_descs, IsDescInRange, Grammar, maybe}
use Rattle.tools.proofs.Cited.{Word, IsInRange, number_in, Cmd, Datum, Desc}
use Rattle.std.proofs.Common.{◌==◌}
use Rattle.std.specs.Prelude.{take}
use Rattle.std.proofs.lemmas.List.Sums.{sum_by-append}
use Rattle.tools.specs.Combined.{after_at, before_at, address_in, within_room, length_in, head_with, counted, datum_of, series_of}
use Rattle.tools.specs.Combined.{series_with, byte_or, step_of, data_words, descs, combined_bus, combined_words, AreMessages}
use Rattle.tools.specs.declared.command.transfer.Datum.TheVariants as datum
use Rattle.tools.specs.declared.command.transfer.DescHead.{DescHead}
use Rattle.tools.specs.declared.lists.DescOp.TheVariants as op
use Rattle.tools.proofs.GrammarLemmas.{AllEnds, EndsWithin}
use Rattle.tools.proofs.OptionLemmas.{number_between, options_end, options_within}

-- ---- DESC

address_fits : (held : Option ℕ) (o : Option Word) (n : ℕ) → IfSome held IsTargetAddress → address_in held o ≡ Some n → IsTargetAddress n
address_fits None None n h is = absurd cc
address_fits (Some a) None n h is = let same : a ≡ n = cc in subst IsTargetAddress same h
address_fits held (Some w) n h is = let b = number_between 8 119 w n is in (b.from_low, b.to_high)

room_fits : (room x n : ℕ) → within_room room x ≡ Some n → (x ≡ n) × (n ≤ room)
room_fits room x n is = grind (arith, nat_tests)

length_fits : (low room : ℕ) (w : Word) (o : Option ℕ) (n : ℕ) → number_in low 512 w ≡ o → option_and_then (within_room room) o ≡ Some n
    → (low ≤ n) × (n ≤ 512) × (n ≤ room)
length_fits low room w None n e is = absurd cc
length_fits low room w (Some x) n e is =
    let b = number_between low 512 w x e in
    let r = room_fits room x n is in
    (omega (arith, b.from_low, r.0), omega (arith, b.to_high, r.0), r.1)

record IsHead (room : ℕ) (d : DescHead) : Type 0 where
  addr : IsTargetAddress d.addr
  some : d.reads ≡ true → 1 ≤ d.len
  long : d.len ≤ 512
  fits : d.len ≤ room

with_fits : (room low : ℕ) (reads : Bool) (a n : Option ℕ) (d : DescHead) → ((x : ℕ) → a ≡ Some x → IsTargetAddress x)
    → ((x : ℕ) → n ≡ Some x → (low ≤ x) × (x ≤ 512) × (x ≤ room)) → (reads ≡ true → low ≡ 1)
    → head_with reads a n ≡ Some d → IsHead room d
with_fits room low reads (Some a) (Some n) d ha hn one is =
    let same : record { addr = a; reads = reads; len = n } ≡ d = cc in
    let h = hn n refl in
    subst (IsHead room) same (record { addr = ha a refl; some = λ e. omega (arith, h.0, one e); long = h.1; fits = h.2 })
with_fits room low reads (Some a) None d ha hn one is = absurd cc
with_fits room low reads None n d ha hn one is = absurd cc

pick_fits : (room : ℕ) (a b : Bool) (x y : Option DescHead) (d : DescHead) → (x ≡ Some d → IsHead room d) → (y ≡ Some d → IsHead room d)
    → cond a x (cond b y None) ≡ Some d → IsHead room d
pick_fits room true b x y d h k is = h is
pick_fits room false true x y d h k is = k is
pick_fits room false false x y d h k is = absurd cc

head_fits : (held : Option ℕ) (room : ℕ) (w : Word) (d : DescHead) → IfSome held IsTargetAddress → head_of held room w ≡ Some d
    → IsHead room d
head_fits held room [] d h is = absurd cc
head_fits held room (c ∷ cs) d h is =
    pick_fits room (c == 114) (c == 119) _ _ d
    (with_fits room 1 true (address_in held (after_at cs)) (length_in 1 room (before_at cs)) d
    (λ x e. address_fits held (after_at cs) x h e)
    (λ x e. length_fits 1 room (before_at cs) (number_in 1 512 (before_at cs)) x refl e) (λ e. refl))
    (with_fits room 0 false (address_in held (after_at cs)) (length_in 0 room (before_at cs)) d
    (λ x e. address_fits held (after_at cs) x h e)
    (λ x e. length_fits 0 room (before_at cs) (number_in 0 512 (before_at cs)) x refl e) (λ e. absurd cc))
    is

-- ---- DATA

counted_bytes : (n b s : ℕ) → b < 256 → AreBytes (counted n b s)
unfolding counted
counted_bytes zero b s small = All-nil IsByte
counted_bytes (suc n) b s small = All-cons IsByte b (counted n ((b + s) % 256) s) small (counted_bytes n ((b + s) % 256) s (omega arith))

counted_length : (n b s : ℕ) → length (counted n b s) ≡ n
unfolding counted
counted_length zero b s = refl
counted_length (suc n) b s = ap suc (counted_length n ((b + s) % 256) s)

-- a datum's byte is a byte
abbrev IsDatum : Datum → Type 0
IsDatum (datum.One b) = b < 256
IsDatum (datum.Series p) = p.0 < 256

series_fits : (a s : Option ℕ) (x : Datum) → ((b : ℕ) → a ≡ Some b → b < 256) → series_with a s ≡ Some x → IsDatum x
series_fits (Some b) (Some s) x h is = let same : datum.Series (b, s) ≡ x = cc in subst IsDatum same (h b refl)
series_fits (Some b) None x h is = absurd cc
series_fits None s x h is = absurd cc

byte_or_fits : (a : Option ℕ) (s : Option Datum) (x : Datum) → ((b : ℕ) → a ≡ Some b → b < 256) → (s ≡ Some x → IsDatum x)
    → byte_or a s ≡ Some x → IsDatum x
byte_or_fits (Some b) s x h k is = let same : datum.One b ≡ x = cc in subst IsDatum same (h b refl)
byte_or_fits None s x h k is = k is

unless : (b : Bool) (s : Option Datum) (x : Datum) → (s ≡ Some x → IsDatum x) → cond b None s ≡ Some x → IsDatum x
unless true s x h is = absurd cc
unless false s x h is = h is

is_byte : (w : Word) (b : ℕ) → number_in 0 255 w ≡ Some b → b < 256
is_byte w b is = omega (arith, (number_between 0 255 w b is).to_high)

datum_fits : (last : Bool) (w : Word) (x : Datum) → datum_of last w ≡ Some x → IsDatum x
datum_fits last w x is = byte_or_fits (number_in 0 255 w) _ x (is_byte w)
    (unless last (series_of w) x (series_fits (number_in 0 255 (take (length w - 1) w)) (step_of (slice_index_or w (length w - 1) 0)) x
    (is_byte (take (length w - 1) w)))) is

by_fits : {A : Type 0} (P : A → Type 0) (x : Datum) (one : ℕ → Grammar A) (series : ℕ → ℕ → Grammar A) → IsDatum x
    → ((b : ℕ) → b < 256 → AllEnds P (one b)) → ((b s : ℕ) → b < 256 → AllEnds P (series b s)) → AllEnds P (by_datum one series x)
by_fits P (datum.One b) one series h k l = k b h
by_fits P (datum.Series p) one series h k l = l p.0 p.1 h

data_fit : {A : Type 0} (P : A → Type 0) (n : ℕ) (got : List ℕ) (k : List ℕ → Grammar A) → AreBytes got
    → ((bytes : List ℕ) → AreBytes bytes → length bytes ≡ length got + n → AllEnds P (k bytes)) → AllEnds P (data_words n got k)
unfolding data_words
data_fit P zero got k bytes h = h got bytes (omega arith)
data_fit P (suc n) got k bytes h = λ w x is.
    by_fits P x (λ b. data_words n (got ++ b ∷ []) k) (λ b s. k (got ++ counted (n + 1) b s)) (datum_fits (n == 0) w x is)
    (λ b small.
    data_fit P n (got ++ b ∷ []) k (All-append IsByte got (b ∷ []) bytes (All-cons IsByte b [] small (All-nil IsByte)))
    (λ all are long. h all are (omega (arith, long, length-append got (b ∷ [])))))
    (λ b s small.
    h (got ++ counted (n + 1) b s) (All-append IsByte got (counted (n + 1) b s) bytes (counted_bytes (n + 1) b s small))
    (omega (arith, length-append got (counted (n + 1) b s), counted_length (n + 1) b s)))

-- ---- messages

op_fits : (b : Bool) (len : ℕ) (bytes : List ℕ) → (b ≡ true → 1 ≤ len) → len ≤ 512 → AreBytes bytes → length bytes ≡ cond b 0 len
    → IsOpInRange (cond b (op.Read len) (op.Write bytes)) × (length_of (cond b (op.Read len) (op.Write bytes)) ≡ len)
op_fits true len bytes some long are is = ((some refl, long), refl)
op_fits false len bytes some long are is = ((are, omega (arith, is, long)), is)

desc_fits : (room : ℕ) (d : DescHead) (bytes : List ℕ) → IsHead room d → AreBytes bytes → length bytes ≡ bytes_asked d
    → IsDescInRange (desc_of d bytes) × (bytes_of (desc_of d bytes) ≡ d.len)
desc_fits room d bytes h are long = let o = op_fits d.reads d.len bytes h.some h.long are long in ((h.addr, o.0), o.1)

record AreInRange (got : List Desc) (n room : ℕ) : Type 0 where
  each : All IsDescInRange got
  few : length got + n ≡ 42
  short : sum_by bytes_of got + room ≤ 4096

-- what is made of messages within the limits has P
module _ (P : Cmd → Type 0) (made : List Desc → Cmd) (fits : (ms : List Desc) → AreMessages ms → P (made ms)) where
  some_fit : (got : List Desc) (n room : ℕ) → 1 ≤ length got → AreInRange got n room → P (made got)
  some_fit got n room some h =
      fits got (record { some = some; few = omega (arith, h.few); each = h.each; short = omega (arith, h.short) })

  descs_fit : (n room : ℕ) (held : Option ℕ) (got : List Desc) → IfSome held IsTargetAddress → (n ≡ 0 → 1 ≤ length got)
      → AreInRange got n room → AllEnds P (descs made n room held got)
  unfolding descs
  descs_fit zero room held got h some r = some_fit got 0 room (some refl) r
  descs_fit (suc n) room held got h some r = λ w d is.
      let head = head_fits held room w d h is in
      data_fit P (bytes_asked d) []
      (λ bytes. maybe (made (got ++ desc_of d bytes ∷ []))
      (descs made n (room - d.len) (Some d.addr) (got ++ desc_of d bytes ∷ []))) (All-nil IsByte)
      (λ bytes are long.
      let one = desc_fits room d bytes head are (omega (arith, long)) in
      let longer : length (got ++ desc_of d bytes ∷ []) ≡ length got + 1 = length-append got (desc_of d bytes ∷ []) in
      let sum : sum_by bytes_of (got ++ desc_of d bytes ∷ []) ≡ sum_by bytes_of got + d.len =
      rw (sum_by-append bytes_of got (desc_of d bytes ∷ [])) (omega (arith, one.1)) in
      let next : AreInRange (got ++ desc_of d bytes ∷ []) n (room - d.len) = record {
        each = All-append IsDescInRange got (desc_of d bytes ∷ []) r.each
            (All-cons IsDescInRange (desc_of d bytes) [] one.0 (All-nil IsDescInRange));
        few = omega (arith, longer, r.few);
        short = omega (arith, sum, r.short, head.fits);
      } in (
        some_fit (got ++ desc_of d bytes ∷ []) n (room - d.len) (omega (arith, longer)) next,
        descs_fit n (room - d.len) (Some d.addr) (got ++ desc_of d bytes ∷ []) head.addr (λ e. omega (arith, longer)) next,
      ))

  pub some_descs_fit : AllEnds P (some_descs made)
  some_descs_fit =
      descs_fit 42 4096 None [] tt (λ e. absurd cc) (record { each = All-nil IsDescInRange; few = refl; short = omega arith })

bus_fits : (limit : ℕ) (force : Bool) → AllEnds (IsInRange limit) (combined_bus force)
unfolding combined_bus
bus_fits limit force w bus is =
    some_descs_fit (IsInRange limit) (combined force bus)
    (λ ms are. record { bus = omega (arith, (number_between 0 65535 w bus is).to_high); messages = are })

pub combined_line_fits : (limit : ℕ) → AllEnds (IsInRange limit) combined_words
unfolding combined_words
combined_line_fits limit = options_end (IsInRange limit) combined_bus (bus_fits limit)

-- ---- its length: after the first word it has at most 4,141 words

datum_within : {A : Type 0} (n : ℕ) (one : ℕ → Grammar A) (series : ℕ → ℕ → Grammar A) (x : Datum)
    → ((b : ℕ) → EndsWithin n (one b)) → ((b s : ℕ) → EndsWithin n (series b s)) → EndsWithin n (by_datum one series x)
datum_within n one series (datum.One b) h k = h b
datum_within n one series (datum.Series p) h k = k p.0 p.1

-- DATA are at most so many words, and then come at most `more`
data_within : {A : Type 0} (n words more : ℕ) (got : List ℕ) (k : List ℕ → Grammar A) → n + more ≤ words
    → ((bytes : List ℕ) (rest : ℕ) → more ≤ rest → EndsWithin rest (k bytes)) → EndsWithin words (data_words n got k)
unfolding data_words
data_within zero words more got k few h = h got words (omega (arith, few))
data_within (suc n) zero more got k few h = absurd (omega (arith, few))
data_within (suc n) (suc words) more got k few h = λ w x is.
    datum_within words (λ b. data_words n (got ++ b ∷ []) k) (λ b s. k (got ++ counted (n + 1) b s)) x
    (λ b. data_within n words more (got ++ b ∷ []) k (omega (arith, few)) h)
    (λ b s. h (got ++ counted (n + 1) b s) words (omega (arith, few)))

asked_few : (reads : Bool) (len : ℕ) → cond reads 0 len ≤ len
asked_few true len = omega arith
asked_few false len = omega arith

module _ (made : List Desc → Cmd) where
  -- a word a message, and one a byte
  descs_within : (n room words : ℕ) (held : Option ℕ) (got : List Desc) → IfSome held IsTargetAddress → n + room ≤ words
      → EndsWithin words (descs made n room held got)
  unfolding descs
  descs_within zero room words held got h few = tt
  descs_within (suc n) room zero held got h few = absurd (omega (arith, few))
  descs_within (suc n) room (suc words) held got h few = λ w d is.
      let head = head_fits held room w d h is in
      data_within (bytes_asked d) words (n + (room - d.len)) []
      (λ bytes. maybe (made (got ++ desc_of d bytes ∷ []))
      (descs made n (room - d.len) (Some d.addr) (got ++ desc_of d bytes ∷ [])))
      (omega (arith, few, head.fits, asked_few d.reads d.len))
      (λ bytes rest left. descs_within n (room - d.len) rest (Some d.addr) (got ++ desc_of d bytes ∷ []) head.addr left)

  pub some_descs_within : EndsWithin 4138 (some_descs made)
  some_descs_within = descs_within 42 4096 4138 None [] tt (omega arith)

bus_within : (force : Bool) → EndsWithin 4139 (combined_bus force)
unfolding combined_bus
bus_within force w bus is = some_descs_within (combined force bus)

pub combined_line_within : EndsWithin 4141 combined_words
unfolding combined_words
combined_line_within = options_within 4139 combined_bus bus_within
