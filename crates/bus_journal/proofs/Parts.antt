-- Each part of a line is read back from its text, whatever stands behind it. Over the digits of a number, and over
-- the bytes of a run.
use Rattle.bus_journal.proofs.Cited.{◌≡◌, ℕ, List, ◌+◌, ◌-◌, ◌*◌, ◌<◌, ◌≤◌, ◌/◌, ◌%◌, true, false, [], ◌∷◌, ◌++◌, take, drop, arith}
use Rattle.bus_journal.proofs.Cited.{append_assoc, refl, sym, ap, ◌∙◌, codes, Option, Some, None, decimal, flat_map, nat_tests, append-nil}
use Rattle.bus_journal.proofs.Cited.{take_all, All-head, All-tail, hex_digit, two_digits, spaced_digits, joined, lock_text, purpose_text}
use Rattle.bus_journal.proofs.Cited.{heard_text, end_text, errno_text, reply_text, cut_text, is_digit, is_hex, hex_value, IsLock, IsReply}
use Rattle.bus_journal.proofs.Cited.{IsCut, LockId, Node, Errno, Eio, Enxio, Ebadf, Ebusy, Enodev, Einval, Eproto, Ebadmsg, Eopnotsupp}
use Rattle.bus_journal.proofs.Cited.{Etimedout, Eremoteio, Reply, Cut, Purpose, End}
use Rattle.std.proofs.lemmas.Fmt.{decimal_by_steps}
use Rattle.bus_journal.specs.Guess.{number_from, behind_number, bytes_of, behind_bytes, behind_list, lock_of, purpose_of, behind_purpose}
use Rattle.bus_journal.specs.Guess.{heard_of, behind_heard, end_of, errno_of, reply_of, behind_reply, cut_of}
use Rattle.bus_journal.specs.Ranges.{IsPurpose, IsHeard, IsEnd, IsRun}
use Rattle.i2c_base.specs.Bytes.{IsByte, AreBytes}
use Rattle.i2c_base.specs.declared.ids.LockId.TheVariants as lock
use Rattle.i2c_base.specs.declared.ids.Node.TheVariants as node
use Rattle.i2c_base.specs.declared.reply.Reply.TheVariants as reply
use Rattle.i2c_base.specs.declared.reply.Cut.TheVariants as cut
use Rattle.i2c_base.specs.declared.entry.Purpose.TheVariants as purpose
use Rattle.i2c_base.specs.declared.entry.End.TheVariants as end

is_digit-at : (d : ℕ) → d < 10 → is_digit (48 + d) ≡ true
is_digit-at d small = grind (arith, nat_tests)

less_48 : (d : ℕ) → (48 + d) - 48 ≡ d
less_48 d = omega arith

pub small_8 : (n : ℕ) → n < 256 → n % 256 ≡ n
small_8 n small = omega arith

number_from-digit : (n d : ℕ) (text : List ℕ) → d < 10 → number_from n ((48 + d) ∷ text) ≡ number_from ((10 * n + d) % 65536) text
unfolding number_from
number_from-digit n d text small = rw (is_digit-at d small, less_48 d)

behind_number-digit : (d : ℕ) (text : List ℕ) → d < 10 → behind_number ((48 + d) ∷ text) ≡ behind_number text
unfolding behind_number
behind_number-digit d text small = rw (is_digit-at d small)

ReadsOn : ℕ → List ℕ → Type 0
ReadsOn n digits = n < 65536 → (text : List ℕ) → number_from 0 (digits ++ text) ≡ number_from n text

reads_one : (n : ℕ) → n < 10 → ReadsOn n ((48 + n) ∷ [])
unfolding ReadsOn
reads_one n one small text =
    let e : (10 * 0 + n) % 65536 ≡ n = omega arith in
    number_from-digit 0 n text one ∙ ap (λ m. number_from m text) e

reads_more : (n : ℕ) (digits : List ℕ) → 10 ≤ n → ReadsOn (n / 10) digits → ReadsOn n (digits ++ ((48 + n % 10) ∷ []))
unfolding ReadsOn
reads_more n digits more before small text =
    let front = before (omega arith) ((48 + n % 10) ∷ text) in
    let last = number_from-digit (n / 10) (n % 10) text (omega arith) in
    let e : (10 * (n / 10) + n % 10) % 65536 ≡ n = omega arith in
    rw append_assoc (front ∙ (last ∙ ap (λ m. number_from m text) e))

number_from-decimal : (n : ℕ) (text : List ℕ) → n < 65536 → number_from 0 (decimal n ++ text) ≡ number_from n text
unfolding ReadsOn
number_from-decimal n text small = decimal_by_steps ReadsOn reads_one reads_more n (omega arith) small text

StandsBehind : ℕ → List ℕ → Type 0
StandsBehind n digits = (text : List ℕ) → behind_number (digits ++ text) ≡ behind_number text

behind_one : (n : ℕ) → n < 10 → StandsBehind n ((48 + n) ∷ [])
unfolding StandsBehind
behind_one n one text = behind_number-digit n text one

behind_more : (n : ℕ) (digits : List ℕ) → 10 ≤ n → StandsBehind (n / 10) digits → StandsBehind n (digits ++ ((48 + n % 10) ∷ []))
unfolding StandsBehind
behind_more n digits more before text =
    rw append_assoc (before ((48 + n % 10) ∷ text) ∙ behind_number-digit (n % 10) text (omega arith))

behind_number-decimal : (n : ℕ) (text : List ℕ) → n < 65536 → behind_number (decimal n ++ text) ≡ behind_number text
unfolding StandsBehind
behind_number-decimal n text small = decimal_by_steps StandsBehind behind_one behind_more n (omega arith) text

-- a number with another sign after it
pub number_of-then : (n c : ℕ) (text : List ℕ) → n < 65536 → is_digit c ≡ false → number_from 0 (decimal n ++ c ∷ text) ≡ n
unfolding number_from
number_of-then n c text small other = number_from-decimal n (c ∷ text) small ∙ rw other

pub behind_number-then : (n c : ℕ) (text : List ℕ) → n < 65536 → is_digit c ≡ false → behind_number (decimal n ++ c ∷ text) ≡ c ∷ text
unfolding behind_number
behind_number-then n c text small other = behind_number-decimal n (c ∷ text) small ∙ rw other

-- a number at the end
pub number_of-decimal : (n : ℕ) → n < 65536 → number_from 0 (decimal n) ≡ n
unfolding number_from
number_of-decimal n small = ap (number_from 0) (sym (append-nil (decimal n))) ∙ number_from-decimal n [] small

pub caller_of-then : (n c : ℕ) (text : List ℕ) → n < 256 → is_digit c ≡ false → number_from 0 (decimal n ++ c ∷ text) % 256 ≡ n
caller_of-then n c text small other = ap (λ m. m % 256) (number_of-then n c text (omega arith) other) ∙ small_8 n small

-- the digits of a byte
is_hex-digit : (n : ℕ) → n < 16 → is_hex (hex_digit n) ≡ true
is_hex-digit n small = grind (arith, nat_tests)

hex_value-digit : (n : ℕ) → n < 16 → hex_value (hex_digit n) ≡ n
hex_value-digit n small = grind (arith, nat_tests)

pub bytes_of-byte : (mark byte : ℕ) (text : List ℕ) → byte < 256 → bytes_of (mark ∷ (two_digits byte ++ text)) ≡ byte ∷ bytes_of text
unfolding bytes_of
bytes_of-byte mark byte text small =
    let high = is_hex-digit (byte / 16) (omega arith) in
    let low = is_hex-digit (byte % 16) (omega arith) in
    let high_is = hex_value-digit (byte / 16) (omega arith) in
    let low_is = hex_value-digit (byte % 16) (omega arith) in
    let e : 16 * (byte / 16) + byte % 16 ≡ byte = omega arith in
    rw (high, low, high_is, low_is, e)

pub behind_bytes-byte : (mark byte : ℕ) (text : List ℕ) → byte < 256 → behind_bytes (mark ∷ (two_digits byte ++ text)) ≡ behind_bytes text
unfolding behind_bytes
behind_bytes-byte mark byte text small =
    let high = is_hex-digit (byte / 16) (omega arith) in
    let low = is_hex-digit (byte % 16) (omega arith) in
    rw (high, low)

bytes_of-spaced : (bytes text : List ℕ) → AreBytes bytes → bytes_of (flat_map spaced_digits bytes ++ text) ≡ bytes ++ bytes_of text
bytes_of-spaced [] text all = refl
bytes_of-spaced (byte ∷ bytes) text all =
    let rest = bytes_of-spaced bytes text (All-tail IsByte byte bytes all) in
    let here = bytes_of-byte 32 byte (flat_map spaced_digits bytes ++ text) (All-head IsByte byte bytes all) in
    here ∙ ap (λ more. byte ∷ more) rest

behind_bytes-spaced : (bytes text : List ℕ) → AreBytes bytes → behind_bytes (flat_map spaced_digits bytes ++ text) ≡ behind_bytes text
behind_bytes-spaced [] text all = refl
behind_bytes-spaced (byte ∷ bytes) text all =
    let rest = behind_bytes-spaced bytes text (All-tail IsByte byte bytes all) in
    let here = behind_bytes-byte 32 byte (flat_map spaced_digits bytes ++ text) (All-head IsByte byte bytes all) in
    here ∙ rest

-- a run whose text ends where no byte follows
pub run-spaced : (most : ℕ) (bytes text : List ℕ) → IsRun most bytes → bytes_of text ≡ []
    → take most (bytes_of (flat_map spaced_digits bytes ++ text)) ≡ bytes
run-spaced most bytes text run ends =
    let all = bytes_of-spaced bytes text run.0 in
    rw (all, ends, append-nil) (take_all most bytes run.1)

pub behind-spaced : (bytes text : List ℕ) → AreBytes bytes → behind_bytes text ≡ text
    → behind_bytes (flat_map spaced_digits bytes ++ text) ≡ text
behind-spaced bytes text all ends = behind_bytes-spaced bytes text all ∙ ends

-- the bytes between brackets: the bracket is the first one's mark
bytes_of-joined : (byte : ℕ) (bytes text : List ℕ) → AreBytes (byte ∷ bytes)
    → bytes_of (91 ∷ (joined (byte ∷ bytes) ++ 93 ∷ 32 ∷ 104 ∷ text)) ≡ byte ∷ (bytes ++ bytes_of (93 ∷ 32 ∷ 104 ∷ text))
bytes_of-joined byte bytes text all =
    bytes_of-byte 91 byte (flat_map spaced_digits bytes ++ 93 ∷ 32 ∷ 104 ∷ text) (All-head IsByte byte bytes all)
    ∙ ap (λ more. byte ∷ more) (bytes_of-spaced bytes (93 ∷ 32 ∷ 104 ∷ text) (All-tail IsByte byte bytes all))

behind_bytes-joined : (byte : ℕ) (bytes text : List ℕ) → AreBytes (byte ∷ bytes)
    → behind_bytes (91 ∷ (joined (byte ∷ bytes) ++ 93 ∷ 32 ∷ 104 ∷ text)) ≡ behind_bytes (93 ∷ 32 ∷ 104 ∷ text)
behind_bytes-joined byte bytes text all =
    behind_bytes-byte 91 byte (flat_map spaced_digits bytes ++ 93 ∷ 32 ∷ 104 ∷ text) (All-head IsByte byte bytes all)
    ∙ behind_bytes-spaced bytes (93 ∷ 32 ∷ 104 ∷ text) (All-tail IsByte byte bytes all)

list_ends-bytes : (text : List ℕ) → bytes_of (93 ∷ 32 ∷ 104 ∷ text) ≡ []
unfolding bytes_of
list_ends-bytes text = refl

list_ends-behind : (text : List ℕ) → behind_bytes (93 ∷ 32 ∷ 104 ∷ text) ≡ 93 ∷ 32 ∷ 104 ∷ text
unfolding behind_bytes
list_ends-behind text = refl

empty_list-bytes : (text : List ℕ) → bytes_of (91 ∷ 93 ∷ 32 ∷ 104 ∷ text) ≡ []
unfolding bytes_of
empty_list-bytes text = refl

empty_list-behind : (text : List ℕ) → behind_bytes (91 ∷ 93 ∷ 32 ∷ 104 ∷ text) ≡ 91 ∷ 93 ∷ 32 ∷ 104 ∷ text
unfolding behind_bytes
empty_list-behind text = refl

pub run-joined : (bytes text : List ℕ) → IsRun 512 bytes → take 512 (bytes_of (91 ∷ (joined bytes ++ 93 ∷ 32 ∷ 104 ∷ text))) ≡ bytes
run-joined [] text run = rw (empty_list-bytes text)
run-joined (byte ∷ bytes) text run =
    let read = bytes_of-joined byte bytes text run.0 in
    let ends = ap (λ more. byte ∷ (bytes ++ more)) (list_ends-bytes text) in
    let all = ap (λ more. byte ∷ more) (append-nil bytes) in
    ap (take 512) (read ∙ (ends ∙ all)) ∙ take_all 512 (byte ∷ bytes) run.1

pub behind_list-joined : (bytes text : List ℕ) → AreBytes bytes
    → behind_list (91 ∷ (joined bytes ++ 93 ∷ 32 ∷ 104 ∷ text)) ≡ 93 ∷ 32 ∷ 104 ∷ text
unfolding behind_list
behind_list-joined [] text all = rw (empty_list-behind text)
behind_list-joined (byte ∷ bytes) text all =
    let behind = behind_bytes-joined byte bytes text all in
    rw (behind, list_ends-behind text)

pub lock-read : (l : LockId) → IsLock l → lock_of (lock_text l) ≡ l
unfolding lock_of
lock-read (lock.Bus root) small = ap lock.Bus (number_of-decimal root small)
lock-read (lock.Mux bus) small = ap lock.Mux (number_of-decimal bus small)

pub purpose-read : (p : Purpose) (text : List ℕ) → IsPurpose p → purpose_of (purpose_text p ++ 32 ∷ text) ≡ p
unfolding purpose_of
purpose-read purpose.Call text small = refl
purpose-read (purpose.Control mux) text small = ap purpose.Control (number_of-then mux 32 text small refl)

pub behind_purpose-read : (p : Purpose) (text : List ℕ) → IsPurpose p → behind_purpose (purpose_text p ++ 32 ∷ text) ≡ text
unfolding behind_purpose
behind_purpose-read purpose.Call text small = refl
behind_purpose-read (purpose.Control mux) text small = ap (drop 1) (behind_number-then mux 32 text small refl)

pub heard-read : (h : Option Node) (text : List ℕ) → IsHeard h → heard_of (heard_text h ++ 32 ∷ text) ≡ h
unfolding heard_of
heard-read None text small = refl
heard-read (Some (node.Device d)) text small = ap (λ n. Some (node.Device n)) (number_of-then d 32 text small refl)
heard-read (Some (node.Chip m)) text small = ap (λ n. Some (node.Chip n)) (number_of-then m 32 text small refl)

pub behind_heard-read : (h : Option Node) (text : List ℕ) → IsHeard h → behind_heard (heard_text h ++ 32 ∷ text) ≡ text
unfolding behind_heard
behind_heard-read None text small = refl
behind_heard-read (Some (node.Device d)) text small = ap (drop 1) (behind_number-then d 32 text small refl)
behind_heard-read (Some (node.Chip m)) text small = ap (drop 1) (behind_number-then m 32 text small refl)

pub end-read : (e : End) → IsEnd e → end_of (end_text e) ≡ e
unfolding end_of
end-read end.Ok small = refl
end-read end.Nack small = refl
end-read end.Slow small = refl
end-read end.Refused small = refl
end-read end.Proto small = refl
end-read (end.Cut calls) small = ap end.Cut (number_of-decimal calls small)

errno-read : (e : Errno) (text : List ℕ)
    → (reply_of (errno_text e ++ text) ≡ reply.Err e) × (behind_reply (errno_text e ++ text) ≡ text)
unfolding reply_of behind_reply errno_of
errno-read Eio text = (refl, refl)
errno-read Enxio text = (refl, refl)
errno-read Ebadf text = (refl, refl)
errno-read Ebusy text = (refl, refl)
errno-read Enodev text = (refl, refl)
errno-read Einval text = (refl, refl)
errno-read Eproto text = (refl, refl)
errno-read Ebadmsg text = (refl, refl)
errno-read Eopnotsupp text = (refl, refl)
errno-read Etimedout text = (refl, refl)
errno-read Eremoteio text = (refl, refl)

-- no byte follows where a cut, or nothing, does
cut_ends-bytes : (c : Cut) → bytes_of (cut_text c) ≡ []
unfolding bytes_of
cut_ends-bytes cut.No = refl
cut_ends-bytes cut.Way = refl
cut_ends-bytes (cut.At msg call) = refl

cut_ends-behind : (c : Cut) → behind_bytes (cut_text c) ≡ cut_text c
unfolding behind_bytes
cut_ends-behind cut.No = refl
cut_ends-behind cut.Way = refl
cut_ends-behind (cut.At msg call) = refl

pub reply-read : (r : Reply) (c : Cut) → IsReply r → reply_of (reply_text r ++ cut_text c) ≡ r
unfolding reply_of
reply-read reply.Done c fits = refl
reply-read (reply.Read bytes) c fits = ap reply.Read (run-spaced 4096 bytes (cut_text c) fits (cut_ends-bytes c))
reply-read (reply.Err e) c fits = (errno-read e (cut_text c)).0

pub behind_reply-read : (r : Reply) (c : Cut) → IsReply r → behind_reply (reply_text r ++ cut_text c) ≡ cut_text c
unfolding behind_reply
behind_reply-read reply.Done c fits = refl
behind_reply-read (reply.Read bytes) c fits = behind-spaced bytes (cut_text c) fits.0 (cut_ends-behind c)
behind_reply-read (reply.Err e) c fits = (errno-read e (cut_text c)).1

way_has_no-number : behind_number (codes "way") ≡ codes "way"
unfolding behind_number
way_has_no-number = refl

pub cut-read : (c : Cut) → IsCut c → cut_of (cut_text c) ≡ c
unfolding cut_of
cut-read cut.No small = refl
cut-read cut.Way small = rw way_has_no-number
cut-read (cut.At msg call) small =
    rw (
      caller_of-then msg 46 (decimal call) small.0 refl,
      behind_number-then msg 46 (decimal call)
          (omega arith) refl,
      number_of-decimal call small.1,
    )
