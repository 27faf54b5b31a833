-- What a transfer has read, with its next message, is within its limits. The induction goes over its messages.
use Rattle.bus_core.proofs.Cited.{◌≡◌, ◌≤◌, ◌<◌, ◌+◌, ℕ, Bool, true, false, List, length, refl, ◌∙◌, ap, arith, take, drop, sum_by}
use Rattle.bus_core.proofs.Cited.{if◌then◌else◌, All-get_or, FitsReads, IsTransfer, TransferView, written_of, bytes_most}
use Rattle.std.specs.Prelude.{get_or}
use Rattle.std.proofs.lemmas.List.{take_more}
use Rattle.std.proofs.lemmas.List.Elements.{All-take}
use Rattle.std.proofs.lemmas.List.Sums.{sum_by_push, sum_by-take-le}
use Rattle.i2c_base.specs.declared.transfer.Msg.{Msg}
use Rattle.i2c_base.specs.Limits.{MOST_BYTES}
use Rattle.i2c_base.specs.Transfer.{IsMessage, is_counted, size_of, COUNTED_SIZE}
use Rattle.i2c_spec.specs.Messages.{message_with}
use Rattle.bus_message.proofs.PartwayLemmas.{nth_is}
use Rattle.bus_message.specs.Sends.{call_message}
use Rattle.i2c_base.proofs.FittingLemmas.{reads-size}

sum_within : (ms : List Msg) (i : ℕ) (d : Msg) → i < length ms → sum_by size_of (take i ms) + size_of (get_or ms i d) ≤ sum_by size_of ms
sum_within ms i d h =
    let more : sum_by size_of (take (i + 1) ms) ≡ sum_by size_of (take i ms) + size_of (get_or ms i d) = ap (sum_by size_of)
    (take_more ms i d h) ∙ sum_by_push size_of (take i ms) (get_or ms i d) in
    let all : sum_by size_of (take (i + 1) ms) ≤ sum_by size_of ms = sum_by-take-le size_of ms (i + 1) in
    omega (arith, more, all)

most_size : (limit : ℕ) (m : Msg) (bytes : List ℕ) → limit ≤ 255 → IsMessage m → bytes_most limit (message_with m bytes) ≤ size_of m
most_size limit m bytes low is = by (is_counted m) (λ e. (is.1 e).2)
  where
    by : (c : Bool) → (c ≡ true → m.len ≤ 2) → (if c then limit + m.len else m.len) ≤ (if c then COUNTED_SIZE else m.len)
    by true short = (let s : m.len ≤ 2 = short refl in omega (arith, low, s))
    by false short = omega arith

-- THE NEXT MESSAGE has room after what was read
pub reads-room : (t : TransferView) (sent limit : ℕ) (got bytes : List ℕ) → IsTransfer t.msgs t.out → sent < length t.msgs → limit ≤ 255
    → FitsReads (take sent t.msgs) got
    → length bytes ≤ bytes_most limit (call_message t sent) → length got + length bytes ≤ MOST_BYTES
reads-room t sent limit got bytes fits low few reads most =
    let first : Msg = record { addr = 0; flags = record { 0 = 0 }; len = 0 } in
    let m = get_or t.msgs sent first in
    let rest = take (written_of m) (drop (sum_by written_of (take sent t.msgs)) t.out) in
    let read : length got ≤ sum_by size_of (take sent t.msgs) = reads-size (take sent t.msgs) got
    (All-take IsMessage sent t.msgs fits.each) reads in
    let both : sum_by size_of (take sent t.msgs) + size_of m ≤ sum_by size_of t.msgs = sum_within t.msgs sent first low in
    let own : bytes_most limit (call_message t sent) ≡ bytes_most limit (message_with m rest) = ap (bytes_most limit)
    (nth_is t.msgs t.out sent first low) in
    let size : bytes_most limit (message_with m rest) ≤ size_of m = most_size limit m rest few
    (All-get_or IsMessage t.msgs sent first low fits.each) in
    omega (arith, read, both, own, size, most, fits.size)
