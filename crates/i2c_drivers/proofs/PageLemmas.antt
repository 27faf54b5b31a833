-- Reads and writes of an EEPROM: what is read is no more than was asked for, their transfers are within the limits, and what they
-- print is lines of a section.
use Rattle.std.proofs.Common.{◌≡◌, ℕ, ◌+◌, ◌-◌, ◌*◌, ◌/◌, ◌%◌, ◌<◌, ◌≤◌, min, max, Bool, true, false, cond, List, [], ◌∷◌, ◌++◌, length}
use Rattle.std.proofs.Common.{drop, ap, length-take, length-drop, length-append, arith}
use Rattle.std.proofs.lemmas.List.Elements.{All-nil, All-cons, All-append, All-take, All-drop}
use Rattle.std.proofs.lemmas.List.Sums.{sum_by-cons}
use Rattle.i2c_base.specs.Bytes.{IsByte, AreBytes}
use Rattle.i2c_base.specs.Transfer.{IsMessage, size_of, written, written_of, plain_read}
use Rattle.i2c_base.specs.declared.board.Size.{Size}
use Rattle.i2c_base.specs.declared.board.Size.TheVariants.{C02, C32, C256}
use Rattle.i2c_base.specs.declared.reply.Reply.{Reply}
use Rattle.i2c_base.specs.declared.reply.Reply.TheVariants as reply
use Rattle.i2c_spec.specs.Targets.EepromDevice.{size_of_eeprom, page_of_eeprom, is_wide}
use Rattle.tools.specs.Dialogues.{AreReplies, next_place}
use Rattle.tools.proofs.TransferLemmas.{IsAsk}
use Rattle.i2c_drivers.specs.At24.{page_reads, page_writes, place_bytes, read_begin, read_size, write_begin, write_bytes, write_end}
use Rattle.i2c_drivers.specs.Pages.{IsPageRead, IsPageWrite, PageReadView, PageWriteView}
use Rattle.i2c_drivers.specs.Rows.{all_bytes_read}

-- ---- what is read. The induction goes over the replies

no_more : (n : ℕ) (bytes : List ℕ) → drop n bytes ≡ [] → length bytes ≤ n
no_more n bytes none = omega (arith, ap length none, length-drop n bytes)

module _ (r : PageReadView) where
  pub few_behind : (rs : List Reply) (k : ℕ) → AreReplies (page_reads r) k rs → length (all_bytes_read rs) ≤ r.count - 128 * (k / 8)
  few_behind [] k are = omega arith
  few_behind (reply.Done ∷ rs) k are =
      let rest = few_behind rs (next_place (page_reads r) k reply.Done) are.1 in
      omega (arith, rest)
  few_behind (reply.Read bytes ∷ rs) k are =
      let rest = few_behind rs (next_place (page_reads r) k (reply.Read bytes)) are.1 in
      let own : length bytes ≤ min 128 (r.count - 128 * (k / 8)) = no_more (read_size r (k / 8)) bytes are.0.1.1 in
      omega (arith, rest, own, length-append bytes (all_bytes_read rs))
  few_behind (reply.Err e ∷ rs) k are =
      let rest = few_behind rs (next_place (page_reads r) k (reply.Err e)) are.1 in
      omega (arith, rest)

  pub few_read : (rs : List Reply) → AreReplies (page_reads r) 0 rs → length (all_bytes_read rs) ≤ r.count
  few_read rs are = omega (arith, few_behind rs 0 are)

-- ---- their transfers

small_size : (s : Size) → size_of_eeprom s ≤ 32768
small_size C02 = omega arith
small_size C32 = omega arith
small_size C256 = omega arith

-- the bytes that tell a place are one or two
record IsFront (bytes : List ℕ) : Type 0 where
  each : AreBytes bytes
  few : length bytes ≤ 2

front_by : (wide : Bool) (place : ℕ) → place < 65536 → IsFront (cond wide (place / 256 ∷ place % 256 ∷ []) (place % 256 ∷ []))
front_by true place small = record {
  each = All-cons IsByte (place / 256) (place % 256 ∷ []) (omega (arith, small))
      (All-cons IsByte (place % 256) [] (omega arith) (All-nil IsByte));
  few = omega arith;
}
front_by false place small = record { each = All-cons IsByte (place % 256) [] (omega arith) (All-nil IsByte); few = omega arith }

front_of : (s : Size) (place : ℕ) → place < 65536 → IsFront (place_bytes s place)
front_of s place small = front_by (is_wide s) place small

is_written : (addr n : ℕ) → n ≤ 512 → IsMessage (written addr n)
is_written addr n few = (few, λ e. cc, λ e. cc)

is_plain_read : (addr n : ℕ) → 1 ≤ n → n ≤ 512 → IsMessage (plain_read addr n)
is_plain_read addr n some few = (few, λ e. cc, λ e. some)

module _ (r : PageReadView) (is : IsPageRead r) where
  pub few_fit : (rs : List Reply) → AreReplies (page_reads r) 0 rs → length (all_bytes_read rs) ≤ 32768
  few_fit rs are = omega (arith, few_read r rs are, is.within, small_size r.of.size)

  pub read_asks : (k : ℕ) → k < (page_reads r).places → IsAsk ((page_reads r).at k)
  read_asks k within =
      let piece : ℕ = k / 8 in
      let begin : ℕ = read_begin r piece in
      let n : ℕ = read_size r piece in
      let small : begin < 65536 = omega (arith, within, is.within, small_size r.of.size) in
      let some : 1 ≤ n = omega (arith, within) in
      let front : IsFront (place_bytes r.of.size begin) = front_of r.of.size begin small in
      let out : List ℕ = place_bytes r.of.size begin in
      let w = written r.of.addr (length out) in
      let p = plain_read r.of.addr n in
      record {
        fits = record {
          count = omega arith;
          each = All-cons IsMessage w (p ∷ []) (is_written r.of.addr (length out) (omega (arith, front.few)))
              (All-cons IsMessage p [] (is_plain_read r.of.addr n some (omega arith)) (All-nil IsMessage));
          size = omega (arith, front.few, sum_by-cons size_of w (p ∷ []), sum_by-cons size_of p []);
          written = omega (arith, sum_by-cons written_of w (p ∷ []), sum_by-cons written_of p []);
          bytes = front.each;
        };
        sends = omega arith;
      }

begin_small : (s : Size) (o n p : ℕ) → 1 ≤ n → o + n ≤ size_of_eeprom s
    → p < (o + n - 1) / page_of_eeprom s - o / page_of_eeprom s + 1 → max o (page_of_eeprom s * (o / page_of_eeprom s + p)) < 65536
begin_small C02 o n p some fits within = omega (arith, some, fits, within)
begin_small C32 o n p some fits within = omega (arith, some, fits, within)
begin_small C256 o n p some fits within = omega (arith, some, fits, within)

module _ (w : PageWriteView) (is : IsPageWrite w) (each : AreBytes w.bytes) where
  begins_within : (k : ℕ) → k < (page_writes w).places → write_begin w (k / 8) < 65536
  begins_within k within =
      begin_small w.of.size w.offset (length w.bytes) (k / 8) is.some is.within (omega (arith, within))

  pub write_asks : (k : ℕ) → k < (page_writes w).places → IsAsk ((page_writes w).at k)
  write_asks k within =
      let piece : ℕ = k / 8 in
      let begin : ℕ = write_begin w piece in
      let front : IsFront (place_bytes w.of.size begin) = front_of w.of.size begin (begins_within k within) in
      let own : List ℕ = write_bytes w piece in
      let out : List ℕ = place_bytes w.of.size begin ++ own in
      let few : length out ≤ 66 = omega (
        arith,
        front.few,
        is.few,
        length-append (place_bytes w.of.size begin) own,
        length-take (write_end w piece - begin) (drop (begin - w.offset) w.bytes),
        length-drop (begin - w.offset) w.bytes,
      ) in
      let m = written w.of.addr (length out) in
      record {
        fits = record {
          count = omega arith;
          each = All-cons IsMessage m [] (is_written w.of.addr (length out) (omega (arith, few))) (All-nil IsMessage);
          size = omega (arith, few, sum_by-cons size_of m []);
          written = omega (arith, sum_by-cons written_of m []);
          bytes = All-append IsByte (place_bytes w.of.size begin) own front.each
              (All-take IsByte (write_end w piece - begin) (drop (begin - w.offset) w.bytes)
              (All-drop IsByte (begin - w.offset) w.bytes each));
        };
        sends = omega arith;
      }
