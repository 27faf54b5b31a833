-- How many bytes a message reads: within its size. The induction goes over the bytes that are left to read.
use Rattle.flat_world.proofs.Cited.{◌≡◌, ℕ, zero, suc, ◌+◌, ◌-◌, ◌≤◌, Bool, true, false, cond, eqb, nat_lt, ◌||◌, List, [], ◌∷◌, ◌++◌}
use Rattle.flat_world.proofs.Cited.{length, Option, refl, ap, arith, length-append, nat_tests, Msg, Answer, PortCall, End, IsMessage}
use Rattle.flat_world.proofs.Cited.{size_of, MessageView, message_with, all_with, all_of, Listener, Said, TalkTold, AllTold, is_it, silence}
use Rattle.flat_world.proofs.Cited.{say, told, with_byte, talk, with_read}
use Rattle.i2c_base.specs.declared.event.Answer.TheVariants as answer
use Rattle.i2c_base.specs.declared.port.PortCall.TheVariants as call
use Rattle.i2c_base.specs.declared.entry.End.TheVariants as end
use Rattle.i2c_base.specs.Transfer.{is_read, is_counted, COUNTED_SIZE}
use Rattle.i2c_spec.specs.Conversation.{call_then, ended, gets, gets_counted, by_answer, data_of}

module _ {W : Type 0} (l : Listener W) (cut : Option ℕ) where
  -- a call has no bytes of its own
  either : (b : Bool) (x y : TalkTold W) (n : ℕ) → length x.bytes ≤ n → length y.bytes ≤ n → length (cond b x y).bytes ≤ n
  either true x y n p q = p
  either false x y n p q = q

  call_fits : (t : Said W) (c : PortCall) (next : Said W → TalkTold W) (n : ℕ) → length t.bytes ≤ n
      → length (next (say l t c)).bytes ≤ n → length (call_then l cut t c next).bytes ≤ n
  call_fits t c next n p q = either (is_it cut (length t.calls)) (told (say l t call.Fault) (end.Cut (length t.calls)))
      (next (say l t c)) n p q

  ended_fits : (stops : Bool) (t : Said W) (e : End) (n : ℕ) → length t.bytes ≤ n → length (ended l cut stops t e).bytes ≤ n
  ended_fits true t e n p = call_fits t call.Stop (λ s. told s e) n p p
  ended_fits false t e n p = p

  gets_fits : (last : Bool) (k : ℕ) (t : Said W) (n : ℕ) → length t.bytes + k ≤ n → length (gets l cut last k t).bytes ≤ n
  gets_fits last zero t n p = ended_fits last t end.Ok n (omega arith)
  gets_fits last (suc k) t n p =
      call_fits t (call.Get (nat_lt 0 k)) (λ s. gets l cut last k (with_byte s (l.gives t.now))) n (omega arith)
      (gets_fits last k (with_byte (say l t (call.Get (nat_lt 0 k))) (l.gives t.now)) n
      (omega (arith, length-append t.bytes (l.gives t.now ∷ []))))

  -- a count that isn't good is followed by one byte
  one_more_fits : (count : ℕ) (s t : Said W) (n : ℕ) → length s.bytes ≡ 0 → 2 ≤ n
      → length (call_then l cut (with_byte s count) (call.Get false) (λ u. ended l cut true (with_byte u (l.gives t.now)) end.Proto)).bytes
      ≤ n
  one_more_fits count s t n none two =
      let one = length-append s.bytes (count ∷ []) in
      let after = say l (with_byte s count) (call.Get false) in
      call_fits (with_byte s count) (call.Get false) (λ u. ended l cut true (with_byte u (l.gives t.now)) end.Proto) n (omega arith)
      (ended_fits true (with_byte after (l.gives t.now)) end.Proto n (omega (arith, length-append after.bytes (l.gives t.now ∷ []))))

  good_fits : (last : Bool) (limit len count : ℕ) (s : Said W) (n : ℕ) → length s.bytes ≡ 0 → limit + len ≤ n → 1 ≤ len → count ≤ limit
      → length (gets l cut last (count + len - 1) (with_byte s count)).bytes ≤ n
  good_fits last limit len count s n none room some small =
      gets_fits last (count + len - 1) (with_byte s count) n (omega (arith, length-append s.bytes (count ∷ [])))

  by_count : (last : Bool) (limit len count : ℕ) (s t : Said W) (n : ℕ) → length s.bytes ≡ 0 → 2 ≤ n → limit + len ≤ n → 1 ≤ len
      → (b : Bool) → (b ≡ false → count ≤ limit)
      → length (cond b (call_then l cut (with_byte s count) (call.Get false)
      (λ u. ended l cut true (with_byte u (l.gives t.now)) end.Proto))
      (gets l cut last (count + len - 1) (with_byte s count))).bytes ≤ n
  by_count last limit len count s t n none two room some true small = one_more_fits count s t n none two
  by_count last limit len count s t n none two room some false small = good_fits last limit len count s n none room some (small refl)

  good_count : (limit count : ℕ) → ((eqb count 0) || nat_lt limit count) ≡ false → count ≤ limit
  good_count limit count e = grind (arith, nat_tests)

  counted_fits : (last : Bool) (limit len : ℕ) (t : Said W) (n : ℕ) → 2 ≤ n → length t.bytes ≡ 0 → limit + len ≤ n → 1 ≤ len
      → length (gets_counted l cut last limit len t).bytes ≤ n
  counted_fits last limit len t n two none room some =
      let s = say l t (call.Get true) in
      either (is_it cut (length t.calls)) (told (say l t call.Fault) (end.Cut (length t.calls))) _ n (omega arith)
      (by_count last limit len (l.gives t.now) s s n none two room some ((eqb (l.gives t.now) 0) || nat_lt limit (l.gives t.now))
      (good_count limit (l.gives t.now)))

  -- a message that reads
  read_fits : (last : Bool) (limit : ℕ) (m : MessageView) (counted : Bool) (t : Said W) (n : ℕ) → length t.bytes ≡ 0
      → (counted ≡ true → (2 ≤ n) × (limit + m.len ≤ n) × (1 ≤ m.len)) → (counted ≡ false → m.len ≤ n)
      → length (cond counted (gets_counted l cut last limit m.len t) (gets l cut last m.len t)).bytes ≤ n
  read_fits last limit m true t n none p q = counted_fits last limit m.len t n (p refl).0 none (p refl).1 (p refl).2
  read_fits last limit m false t n none p q = gets_fits last m.len t n (let h = q refl in omega arith)

  answered_fits : (last : Bool) (limit : ℕ) (m : MessageView) (a : Answer) (t : Said W) (n : ℕ) → length t.bytes ≡ 0
      → length (data_of l cut last limit m t).bytes ≤ n → length (by_answer l cut last limit m a t).bytes ≤ n
  answered_fits last limit m answer.Ack t n none p = p
  answered_fits last limit m answer.Slow t n none p = ended_fits true t end.Slow n (omega arith)
  answered_fits last limit m answer.Nack t n none p = ended_fits true t end.Nack n (omega arith)
  answered_fits last limit m (answer.Byte byte) t n none p = ended_fits true t end.Nack n (omega arith)
  answered_fits last limit m answer.Nothing t n none p = ended_fits true t end.Nack n (omega arith)

  if_true : (b : Bool) (x y : TalkTold W) (n : ℕ) → b ≡ true → length x.bytes ≤ n → length (cond b x y).bytes ≤ n
  if_true true x y n e p = p
  if_true false x y n e p = absurd (let f : false ≡ true = e in cc)

  size_counted : (b : Bool) (k : ℕ) → b ≡ true → cond b COUNTED_SIZE k ≡ 258
  size_counted true k e = refl
  size_counted false k e = absurd (let f : false ≡ true = e in cc)

  size_plain : (b : Bool) (k : ℕ) → b ≡ false → cond b COUNTED_SIZE k ≡ k
  size_plain false k e = refl
  size_plain true k e = absurd (let f : true ≡ false = e in cc)

  message_fits : (last : Bool) (limit : ℕ) (w : W) (m : Msg) (bytes : List ℕ) → limit ≤ 255 → IsMessage m → is_read m ≡ true
      → length (talk l limit w (message_with m bytes) last cut).bytes ≤ size_of m
  message_fits last limit w m bytes small is reads =
      let n = size_of m in
      let view = message_with m bytes in
      let t = say l (silence w) (call.Start m.addr (is_read m)) in
      call_fits (silence w) (call.Start m.addr (is_read m)) (λ s. by_answer l cut last limit view (l.answer w m.addr (is_read m)) s) n
      (omega arith)
      (answered_fits last limit view (l.answer w m.addr (is_read m)) t n refl
      (if_true (is_read m) _ _ n reads
      (read_fits last limit view (is_counted m) t n refl
      (λ e. let k = size_counted (is_counted m) m.len e in let lens = is.1 e in (omega arith, omega arith, omega arith))
      (λ e. let k = size_plain (is_counted m) m.len e in omega arith))))

-- what the reads gave, with a message more
grown : {W : Type 0} (got : List ℕ) (m : MessageView) (t : TalkTold W) (reading : Bool) (n : ℕ) → (reading ≡ true → length t.bytes ≤ n)
    → length (cond reading (got ++ t.bytes) got) ≤ length got + n
grown got m t true n p = let h = p refl in omega (arith, length-append got t.bytes)
grown got m t false n p = omega arith

pub read_fits_room : {W : Type 0} (l : Listener W) (cut : Option ℕ) (last : Bool) (limit : ℕ) (w next : W) (m : Msg)
    (bytes got new : List ℕ) (e : End) → limit ≤ 255 → IsMessage m
    → all_with new next e ≡ all_of got (message_with m bytes) (talk l limit w (message_with m bytes) last cut)
    → length new ≤ length got + size_of m
read_fits_room l cut last limit w next m bytes got new e small is told =
    let t = talk l limit w (message_with m bytes) last cut in
    let same : length new ≡ length (with_read got (message_with m bytes) t) = ap (λ (a : AllTold _). length a.bytes) told in
    omega (arith, same, grown got (message_with m bytes) t (is_read m) (size_of m) (message_fits l cut last limit w m bytes small is))
