-- The text of entries tells these entries, and with a line more at its end one entry more. Over the letters of a line, and
-- over the entries.
use Rattle.bus_journal.proofs.Cited.{◌≡◌, ℕ, List, ◌-◌, ◌<◌, [], ◌∷◌, ◌++◌, ◌==◌, cond, length, drop, arith, append_assoc, refl, sym, ap}
use Rattle.bus_journal.proofs.Cited.{subst, ◌∙◌, Option, Some, None, All, flat_map, or_parts, flat_map-append, drop_at, All-nil, All-head}
use Rattle.bus_journal.proofs.Cited.{All-tail, entry_line, ended_line, entry_by, entry_of, IsEntry, IsLine, entries_of, IsTextOf, Entry}
use Rattle.bus_journal.proofs.Cited.{Head}
use Rattle.std.proofs.Common.{append-nil, length-append}
use Rattle.std.specs.List.{last_or}
use Rattle.std.proofs.lemmas.List.Elements.{All-push}
use Rattle.bus_journal.specs.Told.{entries_from, head_of}
use Rattle.bus_journal.proofs.LineFeeds.{entry-line}
use Rattle.bus_journal.proofs.Whole.{entry-read}
use Rattle.i2c_base.specs.declared.reply.ReplyHead.TheVariants as answer
use Rattle.bus_journal.specs.declared.borrowed.Head.TheVariants as head

entries_from-line : (front line text : List ℕ) → IsLine line
    → entries_from front (line ++ 10 ∷ text) ≡ entry_of (front ++ line) ∷ entries_from [] text
unfolding entries_from
entries_from-line front [] text is = rw (append-nil front) refl
entries_from-line front (c ∷ line) text is =
    let parts = or_parts (c == 10) _ is in
    let rest = entries_from-line (front ++ c ∷ []) line text parts.1 in
    ap (λ t. cond t (entry_of front ∷ entries_from [] (line ++ 10 ∷ text)) (entries_from (front ++ c ∷ []) (line ++ 10 ∷ text))) parts.0
    ∙ (rest ∙ ap (λ (xs : List ℕ). entry_of xs ∷ entries_from [] text) (append_assoc front (c ∷ []) line))

-- the lines of entries tell them
pub entries_of-lines : (es : List Entry) → All IsEntry es → entries_of (flat_map ended_line es) ≡ es
unfolding entries_from
entries_of-lines [] all = refl
entries_of-lines (e ∷ es) all =
    let here = All-head IsEntry e es all in
    let rest = entries_of-lines es (All-tail IsEntry e es all) in
    let line = entries_from-line [] (entry_line e) (flat_map ended_line es) (entry-line e) in
    let read = entry-read e here in
    ap entries_of (append_assoc (entry_line e) (10 ∷ []) (flat_map ended_line es)) ∙ (line ∙ cc)

pub entries_of-text : (text : List ℕ) (es : List Entry) → text ≡ flat_map ended_line es → All IsEntry es → entries_of text ≡ es
entries_of-text text es is all = ap entries_of is ∙ entries_of-lines es all

last_of-push : (o : Option Entry) (es : List Entry) (e : Entry) → last_or o (es ++ e ∷ []) ≡ Some e
last_of-push o [] e = refl
last_of-push o (x ∷ es) e = last_of-push (Some x) es e

-- an entry's head is the one that it is made of
head_of-by : (h : Head) (bytes : List ℕ) → head_of (entry_by h bytes) ≡ h
head_of-by (head.Take caller lock) bytes = refl
head_of-by (head.Free caller lock) bytes = refl
head_of-by (head.Message caller bus purpose part parts addr reading heard end) bytes = refl
head_of-by (head.Line caller mux level failed) bytes = refl
head_of-by (head.Settle caller answer.Done cut) bytes = refl
head_of-by (head.Settle caller answer.Read cut) bytes = refl
head_of-by (head.Settle caller (answer.Err errno) cut) bytes = refl

-- one entry more, its line at the end of the text
lines-push : (text new : List ℕ) (es : List Entry) (e : Entry) → text ≡ flat_map ended_line es → new ≡ text ++ ended_line e
    → new ≡ flat_map ended_line (es ++ e ∷ [])
lines-push text new es e is more = more ∙ (ap (λ (xs : List ℕ). xs ++ ended_line e) is ∙ simp (flat_map-append, append-nil))

pub entries_of-push : (text new : List ℕ) (most room start : ℕ) (last : Option Head) (es : List Entry) (e : Entry)
    → IsTextOf text most room start last es → IsEntry e → new ≡ text ++ ended_line e → entries_of new ≡ es ++ e ∷ []
entries_of-push text new most room start last es e was is more =
    entries_of-text new (es ++ e ∷ []) (lines-push text new es e was.lines more) (All-push IsEntry es e was.in_range is)

pub text-push : (text new : List ℕ) (most room start at : ℕ) (last : Option Head) (es : List Entry) (h : Head) (bytes : List ℕ)
    → IsTextOf text most room start last es → 0 < room → at ≡ length text → IsEntry (entry_by h bytes)
    → new ≡ text ++ ended_line (entry_by h bytes) → IsTextOf new most (room - 1) at (Some h) (entries_of new)
text-push text new most room start at last es h bytes was left here is more =
    let e = entry_by h bytes in
    let at_end = last_of-push None es e in
    let told = entries_of-push text new most room start last es e was is more in
    let all : IsTextOf new most (room - 1) at (Some h) (es ++ e ∷ []) = record {
      lines = lines-push text new es e was.lines more;
      in_range = All-push IsEntry es e was.in_range is;
      counted = let l = length-append es (e ∷ []) in let w = was.counted in omega (arith, l, w, left);
      within = let l = ap length more ∙ length-append text (ended_line e) in omega (arith, l, here);
      begins = ap (drop at) more ∙ (drop_at text (ended_line e) at (sym here) ∙ rw (at_end) refl);
      headed = rw (at_end, head_of-by h bytes) refl;
    } in
    subst (λ (xs : List Entry). IsTextOf new most (room - 1) at (Some h) xs) (sym told) all

pub entries_of-nil : entries_of [] ≡ []
unfolding entries_from
entries_of-nil = refl

pub text-empty : (most : ℕ) → IsTextOf [] most most 0 None (entries_of [])
text-empty most =
    let none : IsTextOf [] most most 0 None [] =
    record { lines = refl; in_range = All-nil IsEntry; counted = omega arith; within = omega arith; begins = refl; headed = refl } in
    subst (λ (xs : List Entry). IsTextOf [] most most 0 None xs) (sym entries_of-nil) none
