-- How many calls of the port a message made is told by its entry alone: by its end, its bytes and whether a stop is due. The
-- inductions go over the bytes of a write, and over the bytes that are left to read.
use Rattle.std.proofs.Common.{◌≡◌, ℕ, zero, suc, ◌+◌, ◌-◌, Bool, true, false, cond, ◌||◌, List, [], ◌∷◌, ◌++◌, length, length-append}
use Rattle.std.proofs.Common.{Option, eqb, ltb, refl, sym, ◌∙◌, arith}
use Rattle.i2c_base.specs.declared.event.Answer.{Answer}
use Rattle.i2c_base.specs.declared.event.Answer.TheVariants as answer
use Rattle.i2c_base.specs.declared.port.PortCall.{PortCall}
use Rattle.i2c_base.specs.declared.port.PortCall.TheVariants as call
use Rattle.i2c_base.specs.declared.entry.End.{End}
use Rattle.i2c_base.specs.declared.entry.End.TheVariants as end
use Rattle.i2c_spec.specs.Messages.{MessageView}
use Rattle.check_laws.specs.Failed.{calls_told}
use Rattle.i2c_spec.specs.Conversation.{Listener, Said, TalkTold, is_it, silence, say, with_byte, told, call_then, ended, puts, gets}
use Rattle.i2c_spec.specs.Conversation.{gets_counted, by_answer, talk}

module _ {W : Type 0} (l : Listener W) (cut : Option ℕ) (last : Bool) where
  abbrev IsCounted : TalkTold W → Type 0
  IsCounted u = length u.calls ≡ calls_told last u.end (length u.bytes)

  -- after the start there is a call for each byte
  abbrev IsEven : Said W → Type 0
  IsEven t = length t.calls ≡ length t.bytes + 1

  by_test : (x : Bool) (u w : TalkTold W) → IsCounted u → IsCounted w → IsCounted (cond x u w)
  by_test true u w hu hw = hu
  by_test false u w hu hw = hw

  then_counted : (t : Said W) (c : PortCall) (next : Said W → TalkTold W) → IsCounted (next (say l t c))
      → IsCounted (call_then l cut t c next)
  then_counted t c next h =
      by_test (is_it cut (length t.calls)) (told (say l t call.Fault) (end.Cut (length t.calls))) (next (say l t c)) (omega arith) h

  ended_counted : (stops : Bool) (t : Said W) (e : End) → calls_told last e (length t.bytes) ≡ length t.calls + cond stops 1 0
      → IsCounted (ended l cut stops t e)
  ended_counted true t e h = then_counted t call.Stop (λ s. told s e) (let f : calls_told last e (length t.bytes) ≡ length t.calls + 1 =
      h in sym (f ∙ (omega arith)))
  ended_counted false t e h = (let f : calls_told last e (length t.bytes) ≡ length t.calls + 0 = h in sym (f ∙ (omega arith)))

  even_more : (t : Said W) (c : PortCall) (byte : ℕ) → IsEven t → IsEven (with_byte (say l t c) byte)
  even_more t c byte even = (let more : length (t.bytes ++ byte ∷ []) ≡ length t.bytes + 1 = length-append t.bytes (byte ∷ []) in
      let f : length t.calls ≡ length t.bytes + 1 = even in omega arith)

  puts_counted : (bytes : List ℕ) (t : Said W) → IsEven t → IsCounted (puts l cut last bytes t)
  puts_counted [] t even = ended_counted last t end.Ok (let f : length t.calls ≡ length t.bytes + 1 = even in omega arith)
  puts_counted (b ∷ bs) t even =
      let s : Said W = say l t (call.Put b) in
      then_counted t (call.Put b) (λ s. cond (l.takes t.now b) (puts l cut last bs (with_byte s b)) (ended l cut true s end.Refused))
      (by_test (l.takes t.now b) (puts l cut last bs (with_byte s b)) (ended l cut true s end.Refused)
      (puts_counted bs (with_byte s b) (even_more t (call.Put b) b even))
      (ended_counted true s end.Refused (let f : length t.calls ≡ length t.bytes + 1 = even in omega arith)))

  gets_counts : (n : ℕ) (t : Said W) → IsEven t → IsCounted (gets l cut last n t)
  gets_counts zero t even = ended_counted last t end.Ok (let f : length t.calls ≡ length t.bytes + 1 = even in omega arith)
  gets_counts (suc n) t even =
      then_counted t (call.Get (ltb 0 n)) (λ s. gets l cut last n (with_byte s (l.gives t.now)))
      (gets_counts n (with_byte (say l t (call.Get (ltb 0 n))) (l.gives t.now)) (even_more t (call.Get (ltb 0 n)) (l.gives t.now) even))

  counted_counts : (limit len : ℕ) (t : Said W) → IsEven t → IsCounted (gets_counted l cut last limit len t)
  counted_counts limit len t even =
      let s : Said W = say l t (call.Get true) in
      let count : ℕ = l.gives t.now in
      let even_s : IsEven (with_byte s count) = even_more t (call.Get true) count even in
      let u : Said W = say l (with_byte s count) (call.Get false) in
      then_counted t (call.Get true) (λ s. cond (eqb (l.gives t.now) 0 || ltb limit (l.gives t.now))
      (call_then l cut (with_byte s (l.gives t.now)) (call.Get false) (λ u. ended l cut true (with_byte u (l.gives s.now)) end.Proto))
      (gets l cut last (l.gives t.now + len - 1) (with_byte s (l.gives t.now))))
      (by_test (eqb count 0 || ltb limit count)
      (call_then l cut (with_byte s count) (call.Get false) (λ u. ended l cut true (with_byte u (l.gives s.now)) end.Proto))
      (gets l cut last (count + len - 1) (with_byte s count))
      (then_counted (with_byte s count) (call.Get false) (λ u. ended l cut true (with_byte u (l.gives s.now)) end.Proto)
      (ended_counted true (with_byte u (l.gives s.now)) end.Proto
      (let f : IsEven (with_byte u (l.gives s.now)) = even_more (with_byte s count) (call.Get false) (l.gives s.now) even_s in
      let g : length (with_byte u (l.gives s.now)).calls ≡ length (with_byte u (l.gives s.now)).bytes + 1 = f in omega arith)))
      (gets_counts (count + len - 1) (with_byte s count) even_s))

  answer_counts : (limit : ℕ) (m : MessageView) (a : Answer) (t : Said W) → IsEven t → IsCounted (by_answer l cut last limit m a t)
  answer_counts limit m answer.Ack t even =
      by_test m.reading (cond m.counted (gets_counted l cut last limit m.len t) (gets l cut last m.len t)) (puts l cut last m.bytes t)
      (by_test m.counted (gets_counted l cut last limit m.len t) (gets l cut last m.len t) (counted_counts limit m.len t even)
      (gets_counts m.len t even))
      (puts_counted m.bytes t even)
  answer_counts limit m answer.Slow t even = ended_counted true t end.Slow (let f : length t.calls ≡ length t.bytes + 1 = even in
      omega arith)
  answer_counts limit m answer.Nack t even = ended_counted true t end.Nack (let f : length t.calls ≡ length t.bytes + 1 = even in
      omega arith)
  answer_counts limit m (answer.Byte byte) t even = ended_counted true t end.Nack (let f : length t.calls ≡ length t.bytes + 1 = even in
      omega arith)
  answer_counts limit m answer.Nothing t even = ended_counted true t end.Nack (let f : length t.calls ≡ length t.bytes + 1 = even in
      omega arith)

  -- so many calls as its end and its bytes tell
  pub calls-told : (limit : ℕ) (w : W) (m : MessageView) → length (talk l limit w m last cut).calls ≡ calls_told last
      (talk l limit w m last cut).end (length (talk l limit w m last cut).bytes)
  calls-told limit w m =
      then_counted (silence w) (call.Start m.addr m.reading) (λ t. by_answer l cut last limit m (l.answer w m.addr m.reading) t)
      (answer_counts limit m (l.answer w m.addr m.reading) (say l (silence w) (call.Start m.addr m.reading)) refl)
