-- The counts of the entries that are left: each entry counts no more than its line has signs, so that no sum passes the length of
-- the text. By induction over the bytes of a reply.
use Rattle.bus_journal.proofs.Cited.{◌≡◌, ℕ, ◌+◌, ◌-◌, ◌^◌, ◌<◌, ◌≤◌, ◌==◌, true, false, List, [], ◌∷◌, ◌++◌, length, sym, ◌∙◌, ap, subst}
use Rattle.bus_journal.proofs.Cited.{arith, codes, decimal, flat_map, length-append, All-head, All-tail, entry_of, IsEntry, IsLine}
use Rattle.bus_journal.proofs.Cited.{entry_line, cut_text, spaced, ended_line, plus, Fits, Tally, Entry}
use Rattle.std.proofs.Common.{All, ne_eqb}
use Rattle.std.specs.List.{sum_by}
use Rattle.std.proofs.lemmas.List.{append_assoc}
use Rattle.std.proofs.lemmas.List.Sums.{sum_by-cons}
use Rattle.bus_journal.proofs.LineFeeds.{entry-line}
use Rattle.bus_journal.proofs.Whole.{entry-read}
use Rattle.bus_journal.specs.Tallies.{transfers_in, messages_in, locks_in, errors_in, bytes_in, tally_of, IsAtMost}
use Rattle.i2c_base.specs.declared.entry.Entry.TheVariants as entry
use Rattle.i2c_base.specs.declared.reply.Reply.TheVariants as reply

-- what is counted so far, and the entries that are left, whose lines are the rest of the text
pub record IsCounted (entries : List Entry) (text rest : List ℕ) (t : Tally) : Type 0 where
  pub left : List Entry
  pub lines : rest ≡ flat_map ended_line left
  pub in_range : All IsEntry left
  pub sums : tally_of entries ≡ plus t (tally_of left)
  pub within : length rest ≤ length text
  pub bound : IsAtMost (length text - length rest) t

-- a text is empty, or isn't
pub some-left : (text : List ℕ) → (length text == 0) ≡ false → 0 < length text
some-left [] is = cc
some-left (c ∷ cs) is = omega arith

pub none-left : (text : List ℕ) → (length text == 0) ≡ true → length text ≡ 0
none-left [] is = omega arith
none-left (c ∷ cs) is = let none = ne_eqb (length (c ∷ cs)) 0 (λ e. omega (arith, e)) in absurd (let h : true ≡ false = sym is ∙ none in cc)

spaced_length : (bytes : List ℕ) → length bytes ≤ length (spaced bytes)
spaced_length [] = omega arith
spaced_length (b ∷ bs) = omega (arith, spaced_length bs)

-- the line of an entry has its bytes
read_length : (caller : ℕ) (bytes behind : List ℕ)
    → length bytes ≤ length (codes "settle " ++ (decimal caller ++ (codes " " ++ ((codes "read" ++ spaced bytes) ++ behind))))
read_length caller bytes behind =
    omega (
      arith,
      spaced_length bytes,
      length-append (decimal caller) (codes " " ++ ((codes "read" ++ spaced bytes) ++ behind)),
      length-append (spaced bytes) behind,
    )

bytes_small : (e : Entry) → bytes_in e ≤ length (entry_line e)
bytes_small (entry.Settle caller reply.Done cut) = omega arith
bytes_small (entry.Settle caller (reply.Read bytes) cut) = read_length caller bytes (cut_text cut)
bytes_small (entry.Settle caller (reply.Err errno) cut) = omega arith
bytes_small _ = omega arith

transfers_small : (e : Entry) → transfers_in e ≤ 1
transfers_small (entry.Settle caller r cut) = omega arith
transfers_small _ = omega arith

messages_small : (e : Entry) → messages_in e ≤ 1
messages_small (entry.Message caller bus purpose part parts addr reading bytes heard end) = omega arith
messages_small _ = omega arith

locks_small : (e : Entry) → locks_in e ≤ 1
locks_small (entry.Take caller lock) = omega arith
locks_small _ = omega arith

errors_small : (e : Entry) → errors_in e ≤ 1
errors_small (entry.Settle caller reply.Done cut) = omega arith
errors_small (entry.Settle caller (reply.Read bytes) cut) = omega arith
errors_small (entry.Settle caller (reply.Err errno) cut) = omega arith
errors_small _ = omega arith

ended_length : (e : Entry) → length (ended_line e) ≡ length (entry_line e) + 1
ended_length e = length-append (entry_line e) (10 ∷ [])

same_tally : (t u : Tally) → t.transfers ≡ u.transfers → t.messages ≡ u.messages → t.locks ≡ u.locks → t.errors ≡ u.errors
    → t.bytes ≡ u.bytes → t ≡ u
same_tally t u transfers messages locks errors bytes =
    ap (λ (n : ℕ). record t { transfers = n }) transfers ∙ ap (λ (n : ℕ). record t { transfers = u.transfers; messages = n }) messages
    ∙ ap (λ (n : ℕ). record u { locks = n; errors = t.errors; bytes = t.bytes }) locks
    ∙ ap (λ (n : ℕ). record u { errors = n; bytes = t.bytes }) errors ∙ ap (λ (n : ℕ). record u { bytes = n }) bytes

pub counted_last : (entries : List Entry) (text rest : List ℕ) (t : Tally) → length rest ≡ 0 → IsCounted entries text rest t
    → t ≡ tally_of entries
counted_last entries text rest t over is = by is.left is.lines is.sums
  where
    by : (left : List Entry) → rest ≡ flat_map ended_line left → tally_of entries ≡ plus t (tally_of left) → t ≡ tally_of entries
    by [] lines sums = sym (sums ∙ none)
      where
        none : plus t (tally_of []) ≡ t
        none = same_tally _ t (omega arith) (omega arith) (omega arith) (omega arith) (omega arith)
    by (e ∷ es) lines sums =
        absurd (omega (arith, over, ap length lines, length-append (ended_line e) (flat_map ended_line es), ended_length e))

-- the first of the entries that are left may be counted
pub record IsNext (entries : List Entry) (text rest behind : List ℕ) (t : Tally) (e : Entry) : Type 0 where
  pub fits : Fits (plus t (tally_of (e ∷ [])))
  pub counted : IsCounted entries text behind (plus t (tally_of (e ∷ [])))
  pub shorter : length behind < length rest

regrouped : (t : Tally) (e : Entry) (es : List Entry) → plus t (tally_of (e ∷ es)) ≡ plus (plus t (tally_of (e ∷ []))) (tally_of es)
regrouped t e es = same_tally (plus t (tally_of (e ∷ es))) (plus (plus t (tally_of (e ∷ []))) (tally_of es))
    (sum t.transfers transfers_in) (sum t.messages messages_in) (sum t.locks locks_in) (sum t.errors errors_in) (sum t.bytes bytes_in)
  where
    sum : (n : ℕ) (f : Entry → ℕ) → n + sum_by f (e ∷ es) ≡ n + sum_by f (e ∷ []) + sum_by f es
    sum n f = omega (arith, sum_by-cons f e es, sum_by-cons f e [])

pub counted_next : (entries : List Entry) (text rest line behind : List ℕ) (t : Tally) → 0 < length rest → length text < 2 ^ 63
    → IsCounted entries text rest t
    → ((own more : List ℕ) → IsLine own → rest ≡ own ++ (10 ∷ more) → (line ≡ own) × (behind ≡ more))
    → IsNext entries text rest behind t (entry_of line)
counted_next entries text rest line behind t some small is cut = by is.left is.lines is.in_range is.sums
  where
    by : (left : List Entry) → rest ≡ flat_map ended_line left → All IsEntry left → tally_of entries ≡ plus t (tally_of left)
        → IsNext entries text rest behind t (entry_of line)
    by [] lines in_range sums = absurd (omega (arith, some, ap length lines))
    by (e ∷ es) lines in_range sums =
        let more : List ℕ = flat_map ended_line es in
        let same : rest ≡ entry_line e ++ (10 ∷ more) = lines ∙ append_assoc (entry_line e) (10 ∷ []) more in
        let parts = cut (entry_line e) more (entry-line e) same in
        let own : entry_of line ≡ e = ap entry_of parts.0 ∙ entry-read e (All-head IsEntry e es in_range) in
        let longer : length rest ≡ length (entry_line e) + (length behind + 1) =
        ap length same ∙ length-append (entry_line e) (10 ∷ more) ∙ omega (arith, ap length parts.1) in
        let w = is.within in
        let b = is.bound in
        let bound : IsAtMost (length text - length behind) (plus t (tally_of (e ∷ []))) = record {
          transfers = omega (arith, longer, w, b.transfers, transfers_small e);
          messages = omega (arith, longer, w, b.messages, messages_small e);
          locks = omega (arith, longer, w, b.locks, locks_small e);
          errors = omega (arith, longer, w, b.errors, errors_small e);
          bytes = omega (arith, longer, w, b.bytes, bytes_small e);
        } in
        subst (IsNext entries text rest behind t) (sym own) (record {
          fits = record {
            transfers = omega (arith, bound.transfers, small);
            messages = omega (arith, bound.messages, small);
            locks = omega (arith, bound.locks, small);
            errors = omega (arith, bound.errors, small);
            bytes = omega (arith, bound.bytes, small);
          };
          counted = record {
            left = es;
            lines = parts.1;
            in_range = All-tail IsEntry e es in_range;
            sums = sums ∙ regrouped t e es;
            within = omega (arith, longer, w);
            bound = bound;
          };
          shorter = omega (arith, longer);
        })
