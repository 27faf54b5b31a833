-- What every conversation keeps. The inductions go over the bytes of a write, and over the bytes that are left to read.
use Rattle.bus_laws.proofs.Cited.{ℕ, zero, suc, ◌+◌, ◌-◌, Bool, true, false, cond, ◌||◌, List, [], ◌∷◌, length, Option, eqb, ltb, Answer}
use Rattle.bus_laws.proofs.Cited.{PortCall, End, MessageView, Listener, Said, TalkTold, is_it, silence, say, with_byte, told, call_then}
use Rattle.bus_laws.proofs.Cited.{ended, puts, gets, gets_counted, by_answer, talk, IsLater}
use Rattle.i2c_base.specs.declared.event.Answer.TheVariants as answer
use Rattle.i2c_base.specs.declared.port.PortCall.TheVariants as call
use Rattle.i2c_base.specs.declared.entry.End.TheVariants as end

-- a call after the start of a message that didn't fail
abbrev pub IsMade : PortCall → Type 0
IsMade (call.Put byte) = Unit {0}
IsMade (call.Get ack) = Unit {0}
IsMade call.Stop = Unit {0}
IsMade c = ⊥

-- an end that isn't told of a call that failed
abbrev pub IsOwnEnd : End → Type 0
IsOwnEnd (end.Cut q) = ⊥
IsOwnEnd e = Unit {0}

-- What is so of a listener and the calls so far, newest first, and is kept by each call after the start, gives what is
-- so in the end: after a call that failed, or where the message ends by itself.
module _ {W : Type 0} (l : Listener W) (P : W → List PortCall → Type 0) (R : W → List PortCall → End → Type 0)
    (goes : (u : W) (cs : List PortCall) (c : PortCall) → IsMade c → P u cs → P (l.after u c) (c ∷ cs))
    (fails : (u : W) (cs : List PortCall) → P u cs → R (l.after u call.Fault) (call.Fault ∷ cs) (end.Cut (length cs)))
    (ends : (u : W) (cs : List PortCall) (e : End) → IsOwnEnd e → P u cs → R u cs e) where
  abbrev Ended : TalkTold W → Type 0
  Ended t = R t.now t.calls t.end

  cond_ends : (t : Bool) (x y : TalkTold W) → Ended x → Ended y → Ended (cond t x y)
  cond_ends true x y hx hy = hx
  cond_ends false x y hx hy = hy

  then_ends : (cut : Option ℕ) (t : Said W) (c : PortCall) (next : Said W → TalkTold W) → IsMade c → P t.now t.calls
      → ((s : Said W) → P s.now s.calls → Ended (next s)) → Ended (call_then l cut t c next)
  then_ends cut t c next made h goes_on =
      cond_ends (is_it cut (length t.calls)) (told (say l t call.Fault) (end.Cut (length t.calls))) (next (say l t c))
      (fails t.now t.calls h) (goes_on (say l t c) (goes t.now t.calls c made h))

  ended_ends : (cut : Option ℕ) (stops : Bool) (t : Said W) (e : End) → IsOwnEnd e → P t.now t.calls → Ended (ended l cut stops t e)
  ended_ends cut stops t e own h =
      cond_ends stops (call_then l cut t call.Stop (λ s. told s e)) (told t e)
      (then_ends cut t call.Stop (λ s. told s e) tt h (λ s hs. ends s.now s.calls e own hs)) (ends t.now t.calls e own h)

  puts_ends : (cut : Option ℕ) (last : Bool) (bytes : List ℕ) (t : Said W) → P t.now t.calls → Ended (puts l cut last bytes t)
  puts_ends cut last [] t h = ended_ends cut last t end.Ok tt h
  puts_ends cut last (b ∷ bs) t h =
      then_ends cut t (call.Put b) (λ s. cond (l.takes t.now b) (puts l cut last bs (with_byte s b)) (ended l cut true s end.Refused)) tt h
      (λ s hs. cond_ends (l.takes t.now b) (puts l cut last bs (with_byte s b)) (ended l cut true s end.Refused)
      (puts_ends cut last bs (with_byte s b) hs) (ended_ends cut true s end.Refused tt hs))

  gets_ends : (cut : Option ℕ) (last : Bool) (n : ℕ) (t : Said W) → P t.now t.calls → Ended (gets l cut last n t)
  gets_ends cut last zero t h = ended_ends cut last t end.Ok tt h
  gets_ends cut last (suc n) t h =
      then_ends cut t (call.Get (ltb 0 n)) (λ s. gets l cut last n (with_byte s (l.gives t.now))) tt h
      (λ s hs. gets_ends cut last n (with_byte s (l.gives t.now)) hs)

  counted_ends : (cut : Option ℕ) (last : Bool) (limit len : ℕ) (t : Said W) → P t.now t.calls → Ended (gets_counted l cut last limit len t)
  counted_ends cut last limit len t h =
      then_ends cut t (call.Get true)
      (λ s. cond (eqb (l.gives t.now) 0 || ltb limit (l.gives t.now))
      (call_then l cut (with_byte s (l.gives t.now)) (call.Get false) (λ u. ended l cut true (with_byte u (l.gives s.now)) end.Proto))
      (gets l cut last (l.gives t.now + len - 1) (with_byte s (l.gives t.now)))) tt h
      (λ s hs. cond_ends (eqb (l.gives t.now) 0 || ltb limit (l.gives t.now))
      (call_then l cut (with_byte s (l.gives t.now)) (call.Get false) (λ u. ended l cut true (with_byte u (l.gives s.now)) end.Proto))
      (gets l cut last (l.gives t.now + len - 1) (with_byte s (l.gives t.now)))
      (then_ends cut (with_byte s (l.gives t.now)) (call.Get false) (λ u. ended l cut true (with_byte u (l.gives s.now)) end.Proto) tt hs
      (λ u hu. ended_ends cut true (with_byte u (l.gives s.now)) end.Proto tt hu))
      (gets_ends cut last (l.gives t.now + len - 1) (with_byte s (l.gives t.now)) hs))

  answer_ends : (cut : Option ℕ) (last : Bool) (limit : ℕ) (m : MessageView) (a : Answer) (t : Said W) → P t.now t.calls
      → Ended (by_answer l cut last limit m a t)
  answer_ends cut last limit m answer.Ack t h =
      cond_ends m.reading
      (cond m.counted (gets_counted l cut last limit m.len t) (gets l cut last m.len t)) (puts l cut last m.bytes t)
      (cond_ends m.counted (gets_counted l cut last limit m.len t) (gets l cut last m.len t)
      (counted_ends cut last limit m.len t h) (gets_ends cut last m.len t h))
      (puts_ends cut last m.bytes t h)
  answer_ends cut last limit m answer.Slow t h = ended_ends cut true t end.Slow tt h
  answer_ends cut last limit m answer.Nack t h = ended_ends cut true t end.Nack tt h
  answer_ends cut last limit m (answer.Byte byte) t h = ended_ends cut true t end.Nack tt h
  answer_ends cut last limit m answer.Nothing t h = ended_ends cut true t end.Nack tt h

  pub talk-ends : (limit : ℕ) (w : W) (m : MessageView) (last : Bool) (cut : Option ℕ)
      → R (l.after w call.Fault) (call.Fault ∷ []) (end.Cut 0)
      → P (l.after w (call.Start m.addr m.reading)) (call.Start m.addr m.reading ∷ []) → Ended (talk l limit w m last cut)
  talk-ends limit w m last cut fault start =
      cond_ends (is_it cut 0) (told (say l (silence w) call.Fault) (end.Cut 0))
      (by_answer l cut last limit m (l.answer w m.addr m.reading) (say l (silence w) (call.Start m.addr m.reading)))
      fault (answer_ends cut last limit m (l.answer w m.addr m.reading) (say l (silence w) (call.Start m.addr m.reading)) start)

made_later : (c : PortCall) → IsMade c → IsLater c
made_later (call.Start a reading) made = made
made_later (call.Line m level) made = made
made_later (call.Put byte) made = tt
made_later (call.Get ack) made = tt
made_later call.Stop made = tt
made_later call.Fault made = tt

-- a fact about a listener and the calls so far that each call after the start keeps holds in the end, if it holds after
-- the start
pub talk-tells : {W : Type 0} (l : Listener W) (P : W → List PortCall → Type 0)
    → ((u : W) (cs : List PortCall) (c : PortCall) → IsLater c → P u cs → P (l.after u c) (c ∷ cs))
    → (limit : ℕ) (w : W) (m : MessageView) (last : Bool) (cut : Option ℕ)
    → P (l.after w call.Fault) (call.Fault ∷ []) → P (l.after w (call.Start m.addr m.reading)) (call.Start m.addr m.reading ∷ [])
    → P (talk l limit w m last cut).now (talk l limit w m last cut).calls
talk-tells l P keeps limit w m last cut fault start =
    talk-ends l P (λ u cs e. P u cs) (λ u cs c made h. keeps u cs c (made_later c made) h) (λ u cs h. keeps u cs call.Fault tt h)
    (λ u cs e own h. h) limit w m last cut fault start

-- the same for a fact about the listener alone
pub talk-keeps : {W : Type 0} (l : Listener W) (P : W → Type 0) → ((u : W) (c : PortCall) → IsLater c → P u → P (l.after u c))
    → (limit : ℕ) (w : W) (m : MessageView) (last : Bool) (cut : Option ℕ)
    → P (l.after w call.Fault) → P (l.after w (call.Start m.addr m.reading)) → P (talk l limit w m last cut).now
talk-keeps l P keeps limit w m last cut fault start =
    talk-tells l (λ u cs. P u) (λ u cs c later h. keeps u c later h) limit w m last cut fault start
