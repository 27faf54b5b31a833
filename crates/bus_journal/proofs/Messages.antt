-- What a message's line gives when it is read part by part.
use Rattle.bus_journal.proofs.Cited.{◌≡◌, ℕ, List, ◌%◌, Bool, ◌==◌, ◌∷◌, take, drop, get_or, ap, Option, Some, number_from, behind_number}
use Rattle.bus_journal.proofs.Cited.{bytes_of, Node, Purpose, End}
use Rattle.bus_journal.specs.Guess.{behind_list, purpose_of, behind_purpose, heard_of, behind_heard, end_of, message_of}
use Rattle.i2c_base.specs.declared.entry.Entry.TheVariants as entry

-- the rests of the text are named by what comes next in them
pub message_in_parts : (text after_caller on_bus after_bus on_purpose on_part after_part on_parts after_parts words on_addr on_bytes
    after_bytes on_heard on_end : List ℕ)
    (caller bus : ℕ) (purpose : Purpose) (part parts byte addr : ℕ) (reading : Bool) (bytes : List ℕ) (heard : Option Node) (end : End)
    → caller ≡ number_from 0 text % 256 → after_caller ≡ behind_number text → on_bus ≡ drop 5 after_caller
    → bus ≡ number_from 0 on_bus → after_bus ≡ behind_number on_bus → on_purpose ≡ drop 1 after_bus
    → purpose ≡ purpose_of on_purpose → on_part ≡ behind_purpose on_purpose
    → part ≡ number_from 0 on_part % 256 → after_part ≡ behind_number on_part → on_parts ≡ drop 1 after_part
    → parts ≡ number_from 0 on_parts % 256 → after_parts ≡ behind_number on_parts → words ≡ drop 1 after_parts
    → reading ≡ (get_or words 0 0 == 114) → on_addr ≡ drop 3 words
    → bytes_of on_addr ≡ byte ∷ bytes_of (drop 3 on_addr) → addr ≡ byte → on_bytes ≡ drop 4 on_addr
    → bytes ≡ take 512 (bytes_of on_bytes) → after_bytes ≡ behind_list on_bytes → on_heard ≡ drop 8 after_bytes
    → heard ≡ heard_of on_heard → on_end ≡ behind_heard on_heard → end ≡ end_of on_end
    → Some (entry.Message caller bus purpose part parts addr reading bytes heard end) ≡ Some (message_of text)
unfolding message_of
message_in_parts text after_caller on_bus after_bus on_purpose on_part after_part on_parts after_parts words on_addr on_bytes after_bytes
    on_heard on_end
    caller bus purpose part parts byte addr reading bytes heard end e1 e2 e3 e4 e5 e6 e7 e8 e9 e10 e11 e12 e13 e14 e15 e16 e17 e18 e19 e20
    e21 e22 e23 e24 e25 =
    let first = ap (λ (xs : List ℕ). get_or xs 0 0) e17 in cc
