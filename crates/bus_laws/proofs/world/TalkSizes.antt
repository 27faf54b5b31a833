-- How many bytes a message tells, and how many calls it makes. The inductions go over the bytes of a write, and over the
-- bytes that are left to read.
use Rattle.bus_laws.proofs.Cited.{◌≡◌, ℕ, zero, suc, ◌+◌, ◌-◌, ◌≤◌, Bool, true, false, cond, ◌||◌, List, [], ◌∷◌, ◌++◌, length}
use Rattle.bus_laws.proofs.Cited.{length-append, Option, eqb, ltb, refl, arith, eqb-false, ltb-false, Answer, PortCall, End, MessageView}
use Rattle.bus_laws.proofs.Cited.{bytes_most, Listener, Said, TalkTold, is_it, silence, say, with_byte, told, call_then, ended, puts, gets}
use Rattle.bus_laws.proofs.Cited.{gets_counted, by_answer, talk}
use Rattle.i2c_base.specs.declared.event.Answer.TheVariants as answer
use Rattle.i2c_base.specs.declared.port.PortCall.TheVariants as call
use Rattle.i2c_base.specs.declared.entry.End.TheVariants as end

-- a good count
pub good_count : (byte limit : ℕ) → (eqb byte 0 || ltb limit byte) ≡ false → (1 ≤ byte) × (byte ≤ limit)
good_count byte limit e = by (eqb byte 0) (ltb limit byte) refl refl e
  where
    by : (x y : Bool) → eqb byte 0 ≡ x → ltb limit byte ≡ y → (x || y) ≡ false → (1 ≤ byte) × (byte ≤ limit)
    by true y h k f = absurd (let g : true ≡ false = f in cc)
    by false true h k f = absurd (let g : true ≡ false = f in cc)
    by false false h k f = (let some : byte ≡ 0 → ⊥ = eqb-false byte 0 h in omega (arith, some), ltb-false limit byte k)

module _ {W : Type 0} (l : Listener W) (cut : Option ℕ) where
  -- at most so many bytes more, and one call for each and the stop
  record IsSized (t : Said W) (most : ℕ) (u : TalkTold W) : Type 0 where
    bytes : length u.bytes ≤ length t.bytes + most
    calls : length u.calls ≤ length t.calls + most + 1

  looser_size : (t : Said W) (k most : ℕ) (u : TalkTold W) → k ≤ most → IsSized t k u → IsSized t most u
  looser_size t k most u le h = record { bytes = omega (arith, le, h.bytes); calls = omega (arith, le, h.calls) }

  cond_sized : (t : Said W) (most : ℕ) (x : Bool) (u w : TalkTold W) → (x ≡ true → IsSized t most u) → (x ≡ false → IsSized t most w)
      → IsSized t most (cond x u w)
  cond_sized t most true u w hu hw = hu refl
  cond_sized t most false u w hu hw = hw refl

  -- a call, and what follows it
  then_sized : (t : Said W) (c : PortCall) (next : Said W → TalkTold W) (most : ℕ) → length (next (say l t c)).bytes ≤ length t.bytes + most
      → length (next (say l t c)).calls ≤ length t.calls + most + 1 → IsSized t most (call_then l cut t c next)
  then_sized t c next most bytes calls =
      cond_sized t most (is_it cut (length t.calls)) (told (say l t call.Fault) (end.Cut (length t.calls))) (next (say l t c))
      (λ e. record { bytes = omega arith; calls = omega arith }) (λ e. record { bytes = bytes; calls = calls })

  ended_sized : (stops : Bool) (t : Said W) (e : End) → IsSized t 0 (ended l cut stops t e)
  ended_sized true t e = then_sized t call.Stop (λ s. told s e) 0 (omega arith) (omega arith)
  ended_sized false t e = record { bytes = omega arith; calls = omega arith }

  -- a byte more
  one_byte : (t : Said W) (c : PortCall) (byte k : ℕ) (u : TalkTold W) → IsSized (with_byte (say l t c) byte) k u
      → (length u.bytes ≤ length t.bytes + suc k) × (length u.calls ≤ length t.calls + suc k + 1)
  one_byte t c byte k u h =
      let more : length (t.bytes ++ byte ∷ []) ≡ length t.bytes + 1 = length-append t.bytes (byte ∷ []) in
      (omega (arith, more, h.bytes), omega (arith, h.calls))

  puts_sized : (last : Bool) (bytes : List ℕ) (t : Said W) → IsSized t (length bytes) (puts l cut last bytes t)
  puts_sized last [] t = ended_sized last t end.Ok
  puts_sized last (b ∷ bs) t =
      let s : Said W = say l t (call.Put b) in
      let more = one_byte t (call.Put b) b (length bs) (puts l cut last bs (with_byte s b)) (puts_sized last bs (with_byte s b)) in
      let none : IsSized s 0 (ended l cut true s end.Refused) = ended_sized true s end.Refused in
      let both : IsSized t (suc (length bs))
      (cond (l.takes t.now b) (puts l cut last bs (with_byte s b)) (ended l cut true s end.Refused)) =
      cond_sized t (suc (length bs)) (l.takes t.now b) (puts l cut last bs (with_byte s b)) (ended l cut true s end.Refused)
      (λ e. record { bytes = more.0; calls = more.1 })
      (λ e. record { bytes = omega (arith, none.bytes); calls = omega (arith, none.calls) }) in
      then_sized t (call.Put b) (λ s. cond (l.takes t.now b) (puts l cut last bs (with_byte s b)) (ended l cut true s end.Refused))
      (suc (length bs)) both.bytes both.calls

  gets_sized : (last : Bool) (n : ℕ) (t : Said W) → IsSized t n (gets l cut last n t)
  gets_sized last zero t = ended_sized last t end.Ok
  gets_sized last (suc n) t =
      let c : PortCall = call.Get (ltb 0 n) in
      let more = one_byte t c (l.gives t.now) n (gets l cut last n (with_byte (say l t c) (l.gives t.now)))
      (gets_sized last n (with_byte (say l t c) (l.gives t.now))) in
      then_sized t c (λ s. gets l cut last n (with_byte s (l.gives t.now))) (suc n) more.0 more.1

  counted_sized : (last : Bool) (limit len : ℕ) → 2 ≤ limit → (t : Said W) → IsSized t (limit + len) (gets_counted l cut last limit len t)
  counted_sized last limit len two t =
      let byte : ℕ = l.gives t.now in
      let s : Said W = say l t (call.Get true) in
      let u : Said W = with_byte s byte in
      let v : Said W = say l u (call.Get false) in
      let other : ℕ = l.gives s.now in
      let end_one = one_byte u (call.Get false) other 0 (ended l cut true (with_byte v other) end.Proto)
      (ended_sized true (with_byte v other) end.Proto) in
      let bad : IsSized u 1 (call_then l cut u (call.Get false) (λ w. ended l cut true (with_byte w other) end.Proto)) =
      then_sized u (call.Get false) (λ w. ended l cut true (with_byte w other) end.Proto) 1 end_one.0 end_one.1 in
      let bad_all = one_byte t (call.Get true) byte 1
      (call_then l cut u (call.Get false) (λ w. ended l cut true (with_byte w other) end.Proto)) bad in
      let good_all = one_byte t (call.Get true) byte (byte + len - 1) (gets l cut last (byte + len - 1) u)
      (gets_sized last (byte + len - 1) u) in
      let both : IsSized t (limit + len)
      (cond (eqb byte 0 || ltb limit byte) (call_then l cut u (call.Get false) (λ w. ended l cut true (with_byte w other) end.Proto))
      (gets l cut last (byte + len - 1) u)) =
      cond_sized t (limit + len) (eqb byte 0 || ltb limit byte)
      (call_then l cut u (call.Get false) (λ w. ended l cut true (with_byte w other) end.Proto)) (gets l cut last (byte + len - 1) u)
      (λ e. record { bytes = omega (arith, bad_all.0, two); calls = omega (arith, bad_all.1, two) })
      (λ e. let count = good_count byte limit e in
      record { bytes = omega (arith, good_all.0, count.0, count.1); calls = omega (arith, good_all.1, count.0, count.1) }) in
      then_sized t (call.Get true)
      (λ s. cond (eqb byte 0 || ltb limit byte)
      (call_then l cut (with_byte s byte) (call.Get false) (λ w. ended l cut true (with_byte w (l.gives s.now)) end.Proto))
      (gets l cut last (byte + len - 1) (with_byte s byte)))
      (limit + len) both.bytes both.calls

  early : (t : Said W) (most : ℕ) (e : End) → IsSized t most (ended l cut true t e)
  early t most e = looser_size t 0 most (ended l cut true t e) (omega arith) (ended_sized true t e)

  answer_sized : (last : Bool) (limit : ℕ) → 2 ≤ limit → (m : MessageView) → length m.bytes ≤ m.len → (a : Answer) (t : Said W)
      → IsSized t (bytes_most limit m) (by_answer l cut last limit m a t)
  answer_sized last limit two m short answer.Ack t = by m.reading m.counted
    where
      by : (reading counted : Bool)
          → IsSized t (cond counted (limit + m.len) m.len)
          (cond reading (cond counted (gets_counted l cut last limit m.len t) (gets l cut last m.len t)) (puts l cut last m.bytes t))
      by true true = counted_sized last limit m.len two t
      by true false = gets_sized last m.len t
      by false true = looser_size t (length m.bytes) (limit + m.len) (puts l cut last m.bytes t) (omega (arith, short))
          (puts_sized last m.bytes t)
      by false false = looser_size t (length m.bytes) m.len (puts l cut last m.bytes t) short (puts_sized last m.bytes t)
  answer_sized last limit two m short answer.Slow t = early t (bytes_most limit m) end.Slow
  answer_sized last limit two m short answer.Nack t = early t (bytes_most limit m) end.Nack
  answer_sized last limit two m short (answer.Byte byte) t = early t (bytes_most limit m) end.Nack
  answer_sized last limit two m short answer.Nothing t = early t (bytes_most limit m) end.Nack

  -- the bytes of a message are within what it moves at most, and so are its calls beside its start and its stop
  pub talk-sized : (limit : ℕ) → 2 ≤ limit → (w : W) (m : MessageView) → length m.bytes ≤ m.len → (last : Bool)
      → (length (talk l limit w m last cut).bytes ≤ bytes_most limit m)
      × (length (talk l limit w m last cut).calls ≤ bytes_most limit m + 2)
  talk-sized limit two w m short last =
      let s : Said W = say l (silence w) (call.Start m.addr m.reading) in
      let own : IsSized s (bytes_most limit m) (by_answer l cut last limit m (l.answer w m.addr m.reading) s) =
      answer_sized last limit two m short (l.answer w m.addr m.reading) s in
      let all : IsSized (silence w) (suc (bytes_most limit m)) (talk l limit w m last cut) =
      then_sized (silence w) (call.Start m.addr m.reading) (λ t. by_answer l cut last limit m (l.answer w m.addr m.reading) t)
      (suc (bytes_most limit m))
      (omega (arith, own.bytes)) (omega (arith, own.calls)) in
      (sized_bytes (is_it cut 0) own.bytes, omega (arith, all.calls))
    where
      sized_bytes : (x : Bool) → length
          (by_answer l cut last limit m (l.answer w m.addr m.reading) (say l (silence w) (call.Start m.addr m.reading))).bytes ≤ 0 +
          bytes_most limit m
          → length (cond x (told (say l (silence w) call.Fault) (end.Cut 0))
          (by_answer l cut last limit m (l.answer w m.addr m.reading) (say l (silence w) (call.Start m.addr m.reading)))).bytes ≤
          bytes_most limit m
      sized_bytes true own = omega arith
      sized_bytes false own = omega (arith, own)
