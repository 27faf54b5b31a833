-- The bytes that a transfer's messages have read fit, message by message. The inductions go over the messages.
use Rattle.bus_laws.proofs.Cited.{◌≡◌, ℕ, zero, suc, ◌+◌, ◌<◌, ◌≤◌, Bool, true, false, cond, List, [], ◌∷◌, ◌++◌, length, refl, sym, ◌∙◌}
use Rattle.bus_laws.proofs.Cited.{ap, subst, arith, length-append, MatchBool, take, Msg, FitsReads, count_of, TransferView, is_read}
use Rattle.bus_laws.proofs.Cited.{written_of, MessageView, messages_from, messages_of, nth_message}
use Rattle.std.proofs.Common.{drop}
use Rattle.std.specs.Prelude.{get_or}
use Rattle.std.proofs.lemmas.List.{drop-append-le, drop_all, take_more}
use Rattle.i2c_base.specs.Fitting.{FitsCounted}
use Rattle.i2c_base.specs.Transfer.{is_counted}
use Rattle.bus_laws.proofs.world.TalkThrough.{GaveRead}

-- the bytes that were read, and those of one message more, which reads or doesn't
abbrev pub read_more : List ℕ → Bool → List ℕ → List ℕ
read_more got reading bytes = cond reading (got ++ bytes) got

count_more : (xs ys : List ℕ) → 1 ≤ count_of xs → count_of (xs ++ ys) ≡ count_of xs
count_more [] ys h = absurd (omega (arith, h))
count_more (x ∷ xs) ys h = refl

-- by the kind of a message: it reads or not, and counts or not
abbrev FitsBy : Bool → Bool → Msg → List Msg → List ℕ → Type 0
FitsBy r c m ms xs = MatchBool r
    (MatchBool c (FitsCounted m xs × FitsReads ms (drop (m.len + count_of xs) xs)) ((m.len ≤ length xs) × FitsReads ms (drop m.len xs)))
    (FitsReads ms xs)

-- the last one
own : (limit : ℕ) → limit ≤ 255 → (r c : Bool) (m : Msg) (bytes : List ℕ) → (r ≡ true → GaveRead limit c m.len bytes)
    → FitsBy r c m [] (read_more [] r bytes)
own limit low false c m bytes gave = refl
own limit low true true m bytes gave =
    let g : GaveRead limit true m.len bytes = gave refl in
    let all : length bytes ≡ m.len + count_of bytes = g.2 in
    ((g.0, omega (arith, g.1, low), omega (arith, all)), drop_all (m.len + count_of bytes) bytes (omega (arith, all)))
own limit low true false m bytes gave =
    let all : length bytes ≡ m.len = gave refl in
    (omega (arith, all), drop_all m.len bytes (omega (arith, all)))

more_by : (r c s : Bool) (k : Msg) (ks : List Msg) (xs : List ℕ) (m : Msg) (bytes : List ℕ) → is_read m ≡ s
    → ((ys : List ℕ) → FitsReads ks ys → FitsReads (ks ++ m ∷ []) (read_more ys (is_read m) bytes))
    → FitsBy r c k ks xs → FitsBy r c k (ks ++ m ∷ []) (read_more xs s bytes)
more_by false c s k ks xs m bytes e on f = subst (λ (t : Bool). FitsReads (ks ++ m ∷ []) (read_more xs t bytes)) e (on xs f)
more_by true true false k ks xs m bytes e on f = (
  f.0,
  subst (λ (t : Bool). FitsReads (ks ++ m ∷ []) (read_more (drop (k.len + count_of xs) xs) t bytes)) e
      (on (drop (k.len + count_of xs) xs) f.1),
)
more_by true false false k ks xs m bytes e on f =
    (f.0, subst (λ (t : Bool). FitsReads (ks ++ m ∷ []) (read_more (drop k.len xs) t bytes)) e (on (drop k.len xs) f.1))
more_by true true true k ks xs m bytes e on f =
    let same : count_of (xs ++ bytes) ≡ count_of xs = count_more xs bytes f.0.0 in
    let longer : length (xs ++ bytes) ≡ length xs + length bytes = length-append xs bytes in
    let rest : FitsReads (ks ++ m ∷ []) (drop (k.len + count_of xs) xs ++ bytes) =
    subst (λ (t : Bool). FitsReads (ks ++ m ∷ []) (read_more (drop (k.len + count_of xs) xs) t bytes)) e
    (on (drop (k.len + count_of xs) xs) f.1) in (
      (omega (arith, same, f.0.0), omega (arith, same, f.0.1), omega (arith, same, longer, f.0.2)),
      subst (λ (ys : List ℕ). FitsReads (ks ++ m ∷ []) ys)
          (sym (drop-append-le (k.len + count_of xs) xs bytes (omega (arith, f.0.2)))
          ∙ ap (λ (n : ℕ). drop (k.len + n) (xs ++ bytes)) (sym same)) rest,
    )
more_by true false true k ks xs m bytes e on f =
    let longer : length (xs ++ bytes) ≡ length xs + length bytes = length-append xs bytes in
    let rest : FitsReads (ks ++ m ∷ []) (drop k.len xs ++ bytes) =
    subst (λ (t : Bool). FitsReads (ks ++ m ∷ []) (read_more (drop k.len xs) t bytes)) e (on (drop k.len xs) f.1) in (
      omega (arith, longer, f.0),
      subst (λ (ys : List ℕ). FitsReads (ks ++ m ∷ []) ys) (sym (drop-append-le k.len xs bytes f.0)) rest,
    )

reads_more : (limit : ℕ) → limit ≤ 255 → (ms : List Msg) (xs : List ℕ) → FitsReads ms xs → (m : Msg) (bytes : List ℕ)
    → (is_read m ≡ true → GaveRead limit (is_counted m) m.len bytes)
    → FitsReads (ms ++ m ∷ []) (read_more xs (is_read m) bytes)
reads_more limit low [] xs fits m bytes gave =
    subst (λ (ys : List ℕ). FitsBy (is_read m) (is_counted m) m [] (read_more ys (is_read m) bytes)) (sym fits)
    (own limit low (is_read m) (is_counted m) m bytes gave)
reads_more limit low (k ∷ ks) xs fits m bytes gave = more_by (is_read k) (is_counted k) (is_read m) k ks xs m bytes refl
    (λ ys f. reads_more limit low ks ys f m bytes gave) fits

-- a message is what its transfer says
record SaysOf (v : MessageView) (m : Msg) : Type 0 where
  reads : v.reading ≡ is_read m
  counts : v.counted ≡ is_counted m
  asks : v.len ≡ m.len

nth_from : (ms : List Msg) (out : List ℕ) (i : ℕ) (d : Msg) → i < length ms → SaysOf (nth_message (messages_from ms out) i) (get_or ms i d)
nth_from [] out i d low = absurd (omega (arith, low))
nth_from (m ∷ ms) out zero d low = record { reads = refl; counts = refl; asks = refl }
nth_from (m ∷ ms) out (suc i) d low = nth_from ms (drop (written_of m) out) i d (omega (arith, low))

some_msg : (ms : List Msg) → 0 < length ms → Msg
some_msg [] some = absurd (omega (arith, some))
some_msg (m ∷ ms) some = m

-- one message of a transfer more
pub message-reads : (limit : ℕ) → limit ≤ 255 → (t : TransferView) (i : ℕ) → i < length t.msgs → (got bytes : List ℕ)
    → FitsReads (take i t.msgs) got
    → ((nth_message (messages_of t) i).reading ≡ true
    → GaveRead limit (nth_message (messages_of t) i).counted (nth_message (messages_of t) i).len bytes)
    → FitsReads (take (i + 1) t.msgs) (read_more got (nth_message (messages_of t) i).reading bytes)
message-reads limit low t i there got bytes fits gave =
    let d : Msg = some_msg t.msgs (omega (arith, there)) in
    let m : Msg = get_or t.msgs i d in
    let v : MessageView = nth_message (messages_of t) i in
    let is : SaysOf v m = nth_from t.msgs t.out i d there in
    subst (λ (ms : List Msg). FitsReads ms (read_more got v.reading bytes)) (sym (take_more t.msgs i d there))
    (subst (λ (r : Bool). FitsReads (take i t.msgs ++ m ∷ []) (read_more got r bytes)) (sym is.reads)
    (reads_more limit low (take i t.msgs) got fits m bytes
    (λ h. subst (λ (c : Bool). GaveRead limit c m.len bytes) is.counts
    (subst (λ (k : ℕ). GaveRead limit v.counted k bytes) is.asks (gave (is.reads ∙ h))))))
