-- No line feed stands in the line of an entry. Over the digits of a number, and over the bytes of a run.
use Rattle.bus_journal.proofs.Cited.{◌≡◌, ℕ, zero, suc, List, ◌<◌, ◌/◌, ◌%◌, Bool, true, false, [], ◌∷◌, ◌++◌, ◌==◌, arith, refl, ◌∙◌, cond}
use Rattle.bus_journal.proofs.Cited.{codes, Option, Some, None, decimal, nat_tests, hex_digit, two_digits, spaced_digits, spaced, joined}
use Rattle.bus_journal.proofs.Cited.{lock_text, purpose_text, direction_text, heard_text, end_text, errno_text, reply_text, cut_text}
use Rattle.bus_journal.proofs.Cited.{level_end, place_text, part_text, data_text, result_text, entry_line, IsLine, LockId, Node, Errno, Eio}
use Rattle.bus_journal.proofs.Cited.{Enxio, Ebadf, Ebusy, Enodev, Einval, Eproto, Ebadmsg, Eopnotsupp, Etimedout, Eremoteio, Reply, Cut}
use Rattle.bus_journal.proofs.Cited.{Purpose, End, Entry}
use Rattle.std.specs.Fmt.{digits, digits_onto, digit_glyph}
use Rattle.std.proofs.lemmas.Bool.{or_from}
use Rattle.std.proofs.lemmas.List.Folds.{list_any-append}
use Rattle.bus_spec.specs.Lines.{level_text}
use Rattle.i2c_base.specs.declared.ids.LockId.TheVariants as lock
use Rattle.i2c_base.specs.declared.ids.Node.TheVariants as node
use Rattle.i2c_base.specs.declared.reply.Reply.TheVariants as reply
use Rattle.i2c_base.specs.declared.reply.Cut.TheVariants as cut
use Rattle.i2c_base.specs.declared.entry.Purpose.TheVariants as purpose
use Rattle.i2c_base.specs.declared.entry.End.TheVariants as end
use Rattle.i2c_base.specs.declared.entry.Entry.TheVariants as entry

pub line-append : (a b : List ℕ) → IsLine a → IsLine b → IsLine (a ++ b)
line-append a b is_a is_b = list_any-append (λ c. c == 10) a b ∙ or_from _ _ is_a is_b

-- a sign that is no line feed, and a line after it
line-cons : (c : ℕ) (a : List ℕ) → (c == 10) ≡ false → IsLine a → IsLine (c ∷ a)
line-cons c a is_c is_a = or_from _ _ is_c is_a

-- a number, whatever its size
digit-line : (d : ℕ) → d < 10 → (digit_glyph false d == 10) ≡ false
digit-line d small = grind (arith, nat_tests)

digits_onto-line : (k n : ℕ) (behind : List ℕ) → IsLine behind → IsLine (digits_onto k 10 false n behind)
digits_onto-line zero n behind is = is
digits_onto-line (suc k) n behind is =
    let last : IsLine (digit_glyph false (n % 10) ∷ behind) = line-cons (digit_glyph false (n % 10)) behind
    (digit-line (n % 10) (omega arith)) is in
    elim (n / 10 == 0) as (λ t. IsLine
    (cond t (digit_glyph false (n % 10) ∷ behind) (digits_onto k 10 false (n / 10) (digit_glyph false (n % 10) ∷ behind)))) [
      | true ↦ last
      | false ↦ digits_onto-line k (n / 10) (digit_glyph false (n % 10) ∷ behind) last
    ]

pub decimal-line : (n : ℕ) → IsLine (decimal n)
unfolding digits
decimal-line n = digits_onto-line 64 n [] refl

hex_digit-line : (n : ℕ) → (hex_digit n == 10) ≡ false
hex_digit-line n = grind (arith, nat_tests)

pub two_digits-line : (byte : ℕ) → IsLine (two_digits byte)
two_digits-line byte =
    line-cons (hex_digit (byte / 16)) (hex_digit (byte % 16) ∷ []) (hex_digit-line (byte / 16))
    (line-cons (hex_digit (byte % 16)) [] (hex_digit-line (byte % 16)) refl)

pub spaced-line : (bytes : List ℕ) → IsLine (spaced bytes)
spaced-line [] = refl
spaced-line (byte ∷ bytes) = line-append (spaced_digits byte) (spaced bytes) (line-cons 32 (two_digits byte) refl (two_digits-line byte))
    (spaced-line bytes)

joined-line : (bytes : List ℕ) → IsLine (joined bytes)
joined-line [] = refl
joined-line (byte ∷ bytes) = line-append (two_digits byte) (spaced bytes) (two_digits-line byte) (spaced-line bytes)

-- a word and a number
word-line : (word : List ℕ) (n : ℕ) → IsLine word → IsLine (word ++ decimal n)
word-line word n is = line-append word (decimal n) is (decimal-line n)

lock-line : (l : LockId) → IsLine (lock_text l)
lock-line (lock.Bus root) = word-line (codes "buslock ") root refl
lock-line (lock.Mux bus) = word-line (codes "muxlock ") bus refl

purpose-line : (p : Purpose) → IsLine (purpose_text p)
purpose-line purpose.Call = refl
purpose-line (purpose.Control mux) = word-line (codes "mux ") mux refl

direction-line : (reading : Bool) → IsLine (direction_text reading)
direction-line true = refl
direction-line false = refl

heard-line : (h : Option Node) → IsLine (heard_text h)
heard-line None = refl
heard-line (Some (node.Device d)) = word-line (codes "d") d refl
heard-line (Some (node.Chip m)) = word-line (codes "m") m refl

end-line : (e : End) → IsLine (end_text e)
end-line end.Ok = refl
end-line end.Nack = refl
end-line end.Slow = refl
end-line end.Refused = refl
end-line end.Proto = refl
end-line (end.Cut calls) = word-line (codes "cut ") calls refl

errno-line : (e : Errno) → IsLine (errno_text e)
errno-line Eio = refl
errno-line Enxio = refl
errno-line Ebadf = refl
errno-line Ebusy = refl
errno-line Enodev = refl
errno-line Einval = refl
errno-line Eproto = refl
errno-line Ebadmsg = refl
errno-line Eopnotsupp = refl
errno-line Etimedout = refl
errno-line Eremoteio = refl

reply-line : (r : Reply) → IsLine (reply_text r)
reply-line reply.Done = refl
reply-line (reply.Read bytes) = line-append (codes "read") (spaced bytes) refl (spaced-line bytes)
reply-line (reply.Err e) = errno-line e

-- a number, a word and what stands behind it
number-line : (n : ℕ) (word behind : List ℕ) → IsLine word → IsLine behind → IsLine (decimal n ++ (word ++ behind))
number-line n word behind is is_behind = line-append (decimal n) (word ++ behind) (decimal-line n) (line-append word behind is is_behind)

cut-line : (c : Cut) → IsLine (cut_text c)
cut-line cut.No = refl
cut-line cut.Way = refl
cut-line (cut.At msg call) = line-append (codes " cut ") (decimal msg ++ (codes "." ++ decimal call)) refl
    (number-line msg (codes ".") (decimal call) refl (decimal-line call))

level_end-line : (failed : Bool) → IsLine (level_end failed)
level_end-line true = refl
level_end-line false = refl

level-line : (mux level : ℕ) (failed : Bool) → IsLine (level_text mux level failed)
level-line mux level failed =
    number-line mux (codes " level ") (decimal level ++ (codes " " ++ level_end failed)) refl
    (number-line level (codes " ") (level_end failed) refl (level_end-line failed))

place-line : (caller bus : ℕ) → IsLine (place_text caller bus)
place-line caller bus =
    line-append (codes "msg " ++ (decimal caller ++ codes " bus ")) (decimal bus ++ codes " ")
    (line-append (codes "msg ") (decimal caller ++ codes " bus ") refl
    (line-append (decimal caller) (codes " bus ") (decimal-line caller) refl))
    (line-append (decimal bus) (codes " ") (decimal-line bus) refl)

part-line : (p : Purpose) (part parts : ℕ) → IsLine (part_text p part parts)
part-line p part parts =
    line-append (purpose_text p) (codes " " ++ (decimal part ++ (codes "/" ++ (decimal parts ++ codes " ")))) (purpose-line p)
    (line-append (codes " ") (decimal part ++ (codes "/" ++ (decimal parts ++ codes " "))) refl
    (number-line part (codes "/") (decimal parts ++ codes " ") refl (line-append (decimal parts) (codes " ") (decimal-line parts) refl)))

data-line : (addr : ℕ) (reading : Bool) (bytes : List ℕ) → IsLine (data_text addr reading bytes)
data-line addr reading bytes =
    line-append (direction_text reading) (codes " 0x" ++ (two_digits addr ++ (codes " [" ++ (joined bytes ++ codes "] "))))
    (direction-line reading)
    (line-append (codes " 0x") (two_digits addr ++ (codes " [" ++ (joined bytes ++ codes "] "))) refl
    (line-append (two_digits addr) (codes " [" ++ (joined bytes ++ codes "] ")) (two_digits-line addr)
    (line-append (codes " [") (joined bytes ++ codes "] ") refl (line-append (joined bytes) (codes "] ") (joined-line bytes) refl))))

result-line : (h : Option Node) (e : End) → IsLine (result_text h e)
result-line h e =
    line-append (codes "heard ") (heard_text h ++ (codes " " ++ end_text e)) refl
    (line-append (heard_text h) (codes " " ++ end_text e) (heard-line h) (line-append (codes " ") (end_text e) refl (end-line e)))

-- an entry's first word, its caller and what stands behind
front-line : (word : List ℕ) (caller : ℕ) (next behind : List ℕ) → IsLine word → IsLine next → IsLine behind
    → IsLine (word ++ (decimal caller ++ (next ++ behind)))
front-line word caller next behind is is_next is_behind = line-append word (decimal caller ++ (next ++ behind)) is
    (number-line caller next behind is_next is_behind)

pub entry-line : (e : Entry) → IsLine (entry_line e)
entry-line (entry.Take caller l) = front-line (codes "take ") caller (codes " ") (lock_text l) refl refl (lock-line l)
entry-line (entry.Free caller l) = front-line (codes "free ") caller (codes " ") (lock_text l) refl refl (lock-line l)
entry-line (entry.Message caller bus p part parts addr reading bytes h e) =
    line-append (place_text caller bus) (part_text p part parts ++ (data_text addr reading bytes ++ result_text h e))
    (place-line caller bus)
    (line-append (part_text p part parts) (data_text addr reading bytes ++ result_text h e) (part-line p part parts)
    (line-append (data_text addr reading bytes) (result_text h e) (data-line addr reading bytes) (result-line h e)))
entry-line (entry.Line caller mux level failed) = front-line (codes "line ") caller (codes " mux ") (level_text mux level failed) refl refl
    (level-line mux level failed)
entry-line (entry.Settle caller r c) =
    front-line (codes "settle ") caller (codes " ") (reply_text r ++ cut_text c) refl refl
    (line-append (reply_text r) (cut_text c) (reply-line r) (cut-line c))
