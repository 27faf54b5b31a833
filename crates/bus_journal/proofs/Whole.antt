-- An entry is read back from its line, so its line tells it.
use Rattle.bus_journal.proofs.Cited.{◌≡◌, ℕ, List, subst, ◌<◌, Bool, true, false, ◌∷◌, ◌++◌, get_or, ◌==◌, arith, append_assoc, refl, sym}
use Rattle.bus_journal.proofs.Cited.{ap, ◌∙◌, codes, Option, Some, decimal, two_digits, joined, lock_text, purpose_text, direction_text}
use Rattle.bus_journal.proofs.Cited.{heard_text, end_text, reply_text, cut_text, level_end, entry_line, IsLock, IsReply, IsCut, IsEntry}
use Rattle.bus_journal.proofs.Cited.{LockId, Node, Reply, Cut, Purpose, End, Entry}
use Rattle.bus_journal.specs.Guess.{message_of, line_of, settle_of, entry_of}
use Rattle.bus_journal.specs.Ranges.{IsSmall, IsWide, IsMessage, LinesAreDistinct}
use Rattle.bus_journal.proofs.Parts.{caller_of-then, number_of-then, behind_number-then, bytes_of-byte, run-joined, behind_list-joined}
use Rattle.bus_journal.proofs.Parts.{lock-read, purpose-read, behind_purpose-read, heard-read, behind_heard-read, end-read, reply-read}
use Rattle.bus_journal.proofs.Parts.{behind_reply-read, cut-read}
use Rattle.i2c_base.specs.declared.entry.Entry.TheVariants as entry

take-read : (caller : ℕ) (l : LockId) → IsSmall caller → IsLock l → entry_of (entry_line (entry.Take caller l)) ≡ entry.Take caller l
unfolding entry_of
take-read caller l small fits = rw
    (caller_of-then caller 32 (lock_text l) small refl, behind_number-then caller 32 (lock_text l) (omega arith) refl)
    (ap (entry.Take caller) (lock-read l fits))

free-read : (caller : ℕ) (l : LockId) → IsSmall caller → IsLock l → entry_of (entry_line (entry.Free caller l)) ≡ entry.Free caller l
unfolding entry_of
free-read caller l small fits = rw
    (caller_of-then caller 32 (lock_text l) small refl, behind_number-then caller 32 (lock_text l) (omega arith) refl)
    (ap (entry.Free caller) (lock-read l fits))

level_end-read : (failed : Bool) → (get_or (32 ∷ level_end failed) 1 0 == 99) ≡ failed
level_end-read true = refl
level_end-read false = refl

line-read : (caller mux level : ℕ) (failed : Bool) → IsSmall caller → IsWide mux → IsSmall level
    → entry_of (entry_line (entry.Line caller mux level failed)) ≡ entry.Line caller mux level failed
unfolding entry_of line_of
line-read caller mux level failed small wide low =
    let more = decimal level ++ 32 ∷ level_end failed in
    let behind = decimal mux ++ (codes " level " ++ more) in
    rw (
      caller_of-then caller 32 (codes "mux " ++ behind) small refl,
      behind_number-then caller 32 (codes "mux " ++ behind) (omega arith) refl,
      number_of-then mux 32 (codes "level " ++ more) wide refl,
      behind_number-then mux 32 (codes "level " ++ more) wide refl,
      caller_of-then level 32 (level_end failed) low refl,
      behind_number-then level 32 (level_end failed) (omega arith) refl,
    )
    (ap (entry.Line caller mux level) (level_end-read failed))

settle-read : (caller : ℕ) (r : Reply) (c : Cut) → IsSmall caller → IsReply r → IsCut c
    → entry_of (entry_line (entry.Settle caller r c)) ≡ entry.Settle caller r c
unfolding entry_of settle_of
settle-read caller r c small fits fits_cut =
    let behind = reply_text r ++ cut_text c in
    rw (
      caller_of-then caller 32 behind small refl,
      behind_number-then caller 32 behind (omega arith) refl,
      reply-read r c fits,
      behind_reply-read r c fits,
      cut-read c fits_cut,
    )

-- a message's line without the words between its parts
flat : (caller bus : ℕ) (p : Purpose) (part parts addr : ℕ) (reading : Bool) (bytes : List ℕ) (h : Option Node) (e : End)
    → entry_line (entry.Message caller bus p part parts addr reading bytes h e)
    ≡ codes "msg " ++ (decimal caller ++
    (codes " bus " ++ (decimal bus ++
    (codes " " ++ (purpose_text p ++
    (codes " " ++ (decimal part ++
    (codes "/" ++ (decimal parts ++
    (codes " " ++ (direction_text reading ++
    (codes " 0x" ++ (two_digits addr ++
    (codes " [" ++ (joined bytes ++ (codes "] heard " ++ (heard_text h ++ (codes " " ++ end_text e))))))))))))))))))
flat caller bus p part parts addr reading bytes h e = simp append_assoc

message_of-read : (caller bus : ℕ) (p : Purpose) (part parts addr direction : ℕ) (reading : Bool) (bytes : List ℕ) (h : Option Node)
    (e : End)
    → IsMessage caller bus p part parts addr bytes h e → (direction == 114) ≡ reading
    → message_of (decimal caller ++
    (codes " bus " ++ (decimal bus ++
    (codes " " ++ (purpose_text p ++
    (codes " " ++ (decimal part ++
    (codes "/" ++ (decimal parts ++
    (codes " " ++ (direction ∷ (codes " 0x" ++
    (two_digits addr ++ (codes " [" ++ (joined bytes ++ (codes "] heard " ++ (heard_text h ++ (codes " " ++ end_text e))))))))))))))))))
    ≡ entry.Message caller bus p part parts addr reading bytes h e
unfolding message_of
message_of-read caller bus p part parts addr direction reading bytes h e fits is =
    let heard = heard_text h ++ 32 ∷ end_text e in
    let listed = joined bytes ++ (codes "] heard " ++ heard) in
    let words = direction ∷ (codes " 0x" ++ (two_digits addr ++ (codes " [" ++ listed))) in
    let on_parts = decimal parts ++ 32 ∷ words in
    let on_part = decimal part ++ 47 ∷ on_parts in
    let on_purpose = purpose_text p ++ 32 ∷ on_part in
    let on_bus = codes "bus " ++ (decimal bus ++ 32 ∷ on_purpose) in
    let low_caller : caller < 65536 = omega (arith, fits.caller_is) in
    let low_part : part < 65536 = omega (arith, fits.part_is) in
    let low_parts : parts < 65536 = omega (arith, fits.parts_is) in
    let low_addr : addr < 256 = omega (arith, fits.addr_is.1) in
    rw (
      caller_of-then caller 32 on_bus fits.caller_is refl,
      behind_number-then caller 32 on_bus low_caller refl,
      number_of-then bus 32 on_purpose fits.bus_is refl,
      behind_number-then bus 32 on_purpose fits.bus_is refl,
      purpose-read p on_part fits.purpose_is,
      behind_purpose-read p on_part fits.purpose_is,
      caller_of-then part 47 on_parts fits.part_is refl,
      behind_number-then part 47 on_parts low_part refl,
      caller_of-then parts 32 words fits.parts_is refl,
      behind_number-then parts 32 words low_parts refl,
      bytes_of-byte 120 addr (codes " [" ++ listed) low_addr,
      is,
      run-joined bytes (codes "eard " ++ heard) fits.bytes_is,
      behind_list-joined bytes (codes "eard " ++ heard) fits.bytes_is.0,
      heard-read h (end_text e) fits.heard_is,
      behind_heard-read h (end_text e) fits.heard_is,
      end-read e fits.end_is,
    )

message-read : (caller bus : ℕ) (p : Purpose) (part parts addr : ℕ) (reading : Bool) (bytes : List ℕ) (h : Option Node) (e : End)
    → IsMessage caller bus p part parts addr bytes h e
    → entry_of (entry_line (entry.Message caller bus p part parts addr reading bytes h e)) ≡ entry.Message caller bus p part parts addr
    reading bytes h e
unfolding entry_of
message-read caller bus p part parts addr true bytes h e fits =
    ap entry_of (flat caller bus p part parts addr true bytes h e)
    ∙ message_of-read caller bus p part parts addr 114 true bytes h e fits refl
message-read caller bus p part parts addr false bytes h e fits =
    ap entry_of (flat caller bus p part parts addr false bytes h e)
    ∙ message_of-read caller bus p part parts addr 119 false bytes h e fits refl

pub entry-read : (e : Entry) → IsEntry e → entry_of (entry_line e) ≡ e
entry-read (entry.Take caller l) fits = take-read caller l fits.0 fits.1
entry-read (entry.Free caller l) fits = free-read caller l fits.0 fits.1
entry-read (entry.Message caller bus p part parts addr reading bytes h e) fits =
    message-read caller bus p part parts addr reading bytes h e fits
entry-read (entry.Line caller mux level failed) fits = line-read caller mux level failed fits.0 fits.1 fits.2
entry-read (entry.Settle caller r c) fits = settle-read caller r c fits.0 fits.1 fits.2

pub lines_are_distinct : LinesAreDistinct
lines_are_distinct e f is_e is_f same = sym (entry-read e is_e) ∙ (ap entry_of same ∙ entry-read f is_f)

-- of a line that is an entry's the guess is this entry
pub guess_of-line : (e : Entry) (line : List ℕ) (r : Option Entry) → (IsEntry (entry_of line) → r ≡ Some (entry_of line)) → IsEntry e
    → entry_line e ≡ line → r ≡ Some e
guess_of-line e line r guessed is same =
    let at : entry_of line ≡ e = ap entry_of (sym same) ∙ entry-read e is in
    guessed (subst IsEntry (sym at) is) ∙ ap Some at
