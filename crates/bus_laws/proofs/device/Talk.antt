-- One message over two listeners that answer alike. The inductions go over the bytes of a write, and over the bytes
-- that are left to read.
use Rattle.bus_laws.proofs.Cited.{◌≡◌, ℕ, zero, suc, ◌+◌, ◌-◌, Bool, true, false, cond, ◌||◌, List, [], ◌∷◌, ◌++◌, length, Option, eqb, ltb}
use Rattle.bus_laws.proofs.Cited.{refl, ◌∙◌, ap, subst, AllByRecursion, Answer, PortCall, End, MessageView, Listener, Said, TalkTold, is_it}
use Rattle.bus_laws.proofs.Cited.{silence, say, with_byte, told, call_then, ended, puts, gets, gets_counted, by_answer, talk, ToldAlike}
use Rattle.bus_laws.proofs.Cited.{IsFollowing}
use Rattle.i2c_base.specs.declared.event.Answer.TheVariants as answer
use Rattle.i2c_base.specs.declared.port.PortCall.TheVariants as call
use Rattle.i2c_base.specs.declared.entry.End.TheVariants as end

-- what two messages have said so far, whose calls are related by C and whose listeners are by R
record SaidAlike {W V : Type 0} (C : List PortCall → List PortCall → Type 0) (R : W → V → Type 0) (t : Said W) (u : Said V) : Type 0 where
  calls : C t.calls u.calls
  bytes : t.bytes ≡ u.bytes
  now : R t.now u.now

-- and in the end
pub record ToldBy {W V : Type 0} (C : List PortCall → List PortCall → Type 0) (R : W → V → Type 0) (t : TalkTold W)
    (u : TalkTold V) : Type 0 where
  pub calls : C t.calls u.calls
  pub bytes : t.bytes ≡ u.bytes
  pub end : t.end ≡ u.end
  pub now : R t.now u.now

-- the same message at another address
abbrev pub at_address : MessageView → ℕ → MessageView
at_address m a = record m { addr = a }

module _ {W V : Type 0} (l : Listener W) (k : Listener V) (R : W → V → Type 0) (Fits : ℕ → Type 0)
    (keeps : (w : W) (v : V) (c : PortCall) → IsFollowing Fits c → R w v → R (l.after w c) (k.after v c))
    (takes : (w : W) (v : V) (byte : ℕ) → R w v → l.takes w byte ≡ k.takes v byte)
    (gives : (w : W) (v : V) → R w v → l.gives w ≡ k.gives v)
    (C : List PortCall → List PortCall → Type 0) (grows : (c : PortCall) (cs ds : List PortCall) → C cs ds → C (c ∷ cs) (c ∷ ds))
    (as_many : (cs ds : List PortCall) → C cs ds → length cs ≡ length ds) where
  said : (t : Said W) (u : Said V) (c : PortCall) → IsFollowing Fits c → SaidAlike C R t u → SaidAlike C R (say l t c) (say k u c)
  said t u c later s = record {
    calls = grows c t.calls u.calls s.calls;
    bytes = s.bytes;
    now = keeps t.now u.now c later s.now;
  }

  byte_more : (t : Said W) (u : Said V) (x y : ℕ) → x ≡ y → SaidAlike C R t u → SaidAlike C R (with_byte t x) (with_byte u y)
  byte_more t u x y e s =
      record {
        calls = s.calls;
        bytes = ap (λ (bs : List ℕ). bs ++ x ∷ []) s.bytes ∙ ap (λ (z : ℕ). u.bytes ++ z ∷ []) e;
        now = s.now;
      }

  told_said : (t : Said W) (u : Said V) (e g : End) → e ≡ g → SaidAlike C R t u → ToldBy C R (told t e) (told u g)
  told_said t u e g same s = record { calls = s.calls; bytes = s.bytes; end = same; now = s.now }

  cond_alike : (p q : Bool) (x y : TalkTold W) (x2 y2 : TalkTold V) → p ≡ q → ToldBy C R x x2 → ToldBy C R y y2
      → ToldBy C R (cond p x y) (cond q x2 y2)
  cond_alike true true x y x2 y2 e hx hy = hx
  cond_alike false false x y x2 y2 e hx hy = hy
  cond_alike true false x y x2 y2 e hx hy = absurd (cc)
  cond_alike false true x y x2 y2 e hx hy = absurd (cc)

  then_alike : (cut : Option ℕ) (t : Said W) (u : Said V) (c : PortCall) (next : Said W → TalkTold W) (then : Said V → TalkTold V)
      → IsFollowing Fits c → SaidAlike C R t u
      → ((s : Said W) (z : Said V) → SaidAlike C R s z → ToldBy C R (next s) (then z))
      → ToldBy C R (call_then l cut t c next) (call_then k cut u c then)
  then_alike cut t u c next then later s goes_on =
      let place : length t.calls ≡ length u.calls = as_many t.calls u.calls s.calls in
      cond_alike (is_it cut (length t.calls)) (is_it cut (length u.calls)) (told (say l t call.Fault) (end.Cut (length t.calls)))
      (next (say l t c))
      (told (say k u call.Fault) (end.Cut (length u.calls))) (then (say k u c)) (ap (λ (n : ℕ). is_it cut n) place)
      (told_said (say l t call.Fault) (say k u call.Fault) (end.Cut (length t.calls)) (end.Cut (length u.calls))
      (ap (λ (n : ℕ). end.Cut n) place) (said t u call.Fault tt s))
      (goes_on (say l t c) (say k u c) (said t u c later s))

  ended_alike : (cut : Option ℕ) (stops : Bool) (t : Said W) (u : Said V) (e : End) → SaidAlike C R t u
      → ToldBy C R (ended l cut stops t e) (ended k cut stops u e)
  ended_alike cut stops t u e s =
      cond_alike stops stops (call_then l cut t call.Stop (λ x. told x e)) (told t e) (call_then k cut u call.Stop (λ x. told x e))
      (told u e) refl
      (then_alike cut t u call.Stop (λ x. told x e) (λ x. told x e) tt s (λ x z h. told_said x z e e refl h)) (told_said t u e e refl s)

  puts_alike : (cut : Option ℕ) (last : Bool) (bytes : List ℕ) (t : Said W) (u : Said V) → AllByRecursion Fits bytes → SaidAlike C R t u
      → ToldBy C R (puts l cut last bytes t) (puts k cut last bytes u)
  puts_alike cut last [] t u all s = ended_alike cut last t u end.Ok s
  puts_alike cut last (b ∷ bs) t u all s =
      then_alike cut t u (call.Put b) (λ x. cond (l.takes t.now b) (puts l cut last bs (with_byte x b)) (ended l cut true x end.Refused))
      (λ z. cond (k.takes u.now b) (puts k cut last bs (with_byte z b)) (ended k cut true z end.Refused)) all.0 s
      (λ x z h. cond_alike (l.takes t.now b) (k.takes u.now b) (puts l cut last bs (with_byte x b)) (ended l cut true x end.Refused)
      (puts k cut last bs (with_byte z b)) (ended k cut true z end.Refused) (takes t.now u.now b s.now)
      (puts_alike cut last bs (with_byte x b) (with_byte z b) all.1 (byte_more x z b b refl h)) (ended_alike cut true x z end.Refused h))

  gets_alike : (cut : Option ℕ) (last : Bool) (n : ℕ) (t : Said W) (u : Said V) → SaidAlike C R t u
      → ToldBy C R (gets l cut last n t) (gets k cut last n u)
  gets_alike cut last zero t u s = ended_alike cut last t u end.Ok s
  gets_alike cut last (suc n) t u s =
      then_alike cut t u (call.Get (ltb 0 n)) (λ x. gets l cut last n (with_byte x (l.gives t.now)))
      (λ z. gets k cut last n (with_byte z (k.gives u.now))) tt s
      (λ x z h. gets_alike cut last n (with_byte x (l.gives t.now)) (with_byte z (k.gives u.now))
      (byte_more x z (l.gives t.now) (k.gives u.now) (gives t.now u.now s.now) h))

  gets_same : (cut : Option ℕ) (last : Bool) (n m : ℕ) (t : Said W) (u : Said V) → n ≡ m → SaidAlike C R t u
      → ToldBy C R (gets l cut last n t) (gets k cut last m u)
  gets_same cut last n m t u e s = subst (λ (j : ℕ). ToldBy C R (gets l cut last n t) (gets k cut last j u)) e
      (gets_alike cut last n t u s)

  counted_alike : (cut : Option ℕ) (last : Bool) (limit len : ℕ) (t : Said W) (u : Said V) → SaidAlike C R t u
      → ToldBy C R (gets_counted l cut last limit len t) (gets_counted k cut last limit len u)
  counted_alike cut last limit len t u s =
      let same : l.gives t.now ≡ k.gives u.now = gives t.now u.now s.now in
      then_alike cut t u (call.Get true)
      (λ x. cond (eqb (l.gives t.now) 0 || ltb limit (l.gives t.now))
      (call_then l cut (with_byte x (l.gives t.now)) (call.Get false) (λ y. ended l cut true (with_byte y (l.gives x.now)) end.Proto))
      (gets l cut last (l.gives t.now + len - 1) (with_byte x (l.gives t.now))))
      (λ x. cond (eqb (k.gives u.now) 0 || ltb limit (k.gives u.now))
      (call_then k cut (with_byte x (k.gives u.now)) (call.Get false) (λ y. ended k cut true (with_byte y (k.gives x.now)) end.Proto))
      (gets k cut last (k.gives u.now + len - 1) (with_byte x (k.gives u.now)))) tt s
      (λ x z h. cond_alike (eqb (l.gives t.now) 0 || ltb limit (l.gives t.now)) (eqb (k.gives u.now) 0 || ltb limit (k.gives u.now))
      (call_then l cut (with_byte x (l.gives t.now)) (call.Get false) (λ y. ended l cut true (with_byte y (l.gives x.now)) end.Proto))
      (gets l cut last (l.gives t.now + len - 1) (with_byte x (l.gives t.now)))
      (call_then k cut (with_byte z (k.gives u.now)) (call.Get false) (λ y. ended k cut true (with_byte y (k.gives z.now)) end.Proto))
      (gets k cut last (k.gives u.now + len - 1) (with_byte z (k.gives u.now)))
      (ap (λ (n : ℕ). eqb n 0 || ltb limit n) same)
      (then_alike cut (with_byte x (l.gives t.now)) (with_byte z (k.gives u.now)) (call.Get false)
      (λ y. ended l cut true (with_byte y (l.gives x.now)) end.Proto) (λ y. ended k cut true (with_byte y (k.gives z.now)) end.Proto) tt
      (byte_more x z (l.gives t.now) (k.gives u.now) same h)
      (λ y v g. ended_alike cut true (with_byte y (l.gives x.now)) (with_byte v (k.gives z.now)) end.Proto
      (byte_more y v (l.gives x.now) (k.gives z.now) (gives x.now z.now h.now) g)))
      (gets_same cut last (l.gives t.now + len - 1) (k.gives u.now + len - 1) (with_byte x (l.gives t.now)) (with_byte z (k.gives u.now))
      (ap (λ (n : ℕ). n + len - 1) same) (byte_more x z (l.gives t.now) (k.gives u.now) same h)))

  answer_alike : (cut : Option ℕ) (last : Bool) (limit : ℕ) (m : MessageView) (a : Answer) (t : Said W) (u : Said V)
      → AllByRecursion Fits m.bytes → SaidAlike C R t u
      → ToldBy C R (by_answer l cut last limit m a t) (by_answer k cut last limit m a u)
  answer_alike cut last limit m answer.Ack t u all s =
      cond_alike m.reading m.reading
      (cond m.counted (gets_counted l cut last limit m.len t) (gets l cut last m.len t)) (puts l cut last m.bytes t)
      (cond m.counted (gets_counted k cut last limit m.len u) (gets k cut last m.len u)) (puts k cut last m.bytes u) refl
      (cond_alike m.counted m.counted (gets_counted l cut last limit m.len t) (gets l cut last m.len t)
      (gets_counted k cut last limit m.len u) (gets k cut last m.len u) refl
      (counted_alike cut last limit m.len t u s) (gets_alike cut last m.len t u s))
      (puts_alike cut last m.bytes t u all s)
  answer_alike cut last limit m answer.Slow t u all s = ended_alike cut true t u end.Slow s
  answer_alike cut last limit m answer.Nack t u all s = ended_alike cut true t u end.Nack s
  answer_alike cut last limit m (answer.Byte byte) t u all s = ended_alike cut true t u end.Nack s
  answer_alike cut last limit m answer.Nothing t u all s = ended_alike cut true t u end.Nack s

  answers_alike : (cut : Option ℕ) (last : Bool) (limit : ℕ) (m : MessageView) (a g : Answer) (t : Said W) (u : Said V) → a ≡ g
      → AllByRecursion Fits m.bytes → SaidAlike C R t u
      → ToldBy C R (by_answer l cut last limit m a t) (by_answer k cut last limit m g u)
  answers_alike cut last limit m a g t u e all s =
      subst (λ (x : Answer). ToldBy C R (by_answer l cut last limit m a t) (by_answer k cut last limit m x u)) e
      (answer_alike cut last limit m a t u all s)

  -- one message, and the same at the address a: where the listeners are related after its start, and after a fault in place of it,
  -- and answer the start alike, the same is said, and they are related in the end
  pub talk-readdressed : (limit : ℕ) (w : W) (v : V) (m : MessageView) (a : ℕ) (last : Bool) (cut : Option ℕ)
      → AllByRecursion Fits m.bytes
      → R (l.after w call.Fault) (k.after v call.Fault)
      → R (l.after w (call.Start m.addr m.reading)) (k.after v (call.Start a m.reading))
      → l.answer w m.addr m.reading ≡ k.answer v a m.reading
      → C (call.Fault ∷ []) (call.Fault ∷ [])
      → C (call.Start m.addr m.reading ∷ []) (call.Start a m.reading ∷ [])
      → ToldBy C R (talk l limit w m last cut) (talk k limit v (at_address m a) last cut)
  talk-readdressed limit w v m a last cut all fault start same faulty started =
      cond_alike (is_it cut 0) (is_it cut 0) (told (say l (silence w) call.Fault) (end.Cut 0))
      (by_answer l cut last limit m (l.answer w m.addr m.reading) (say l (silence w) (call.Start m.addr m.reading)))
      (told (say k (silence v) call.Fault) (end.Cut 0))
      (by_answer k cut last limit m (k.answer v a m.reading) (say k (silence v) (call.Start a m.reading))) refl
      (told_said (say l (silence w) call.Fault) (say k (silence v) call.Fault) (end.Cut 0) (end.Cut 0) refl
      (record { calls = faulty; bytes = refl; now = fault }))
      (answers_alike cut last limit m (l.answer w m.addr m.reading) (k.answer v a m.reading)
      (say l (silence w) (call.Start m.addr m.reading)) (say k (silence v) (call.Start a m.reading)) same all
      (record { calls = started; bytes = refl; now = start }))

module _ {W V : Type 0} (l : Listener W) (k : Listener V) (R : W → V → Type 0) (Fits : ℕ → Type 0)
    (keeps : (w : W) (v : V) (c : PortCall) → IsFollowing Fits c → R w v → R (l.after w c) (k.after v c))
    (takes : (w : W) (v : V) (byte : ℕ) → R w v → l.takes w byte ≡ k.takes v byte)
    (gives : (w : W) (v : V) → R w v → l.gives w ≡ k.gives v) where
  -- at its own address it is said by the same calls
  pub talk-alike : (limit : ℕ) (w : W) (v : V) (m : MessageView) (last : Bool) (cut : Option ℕ) → AllByRecursion Fits m.bytes
      → R (l.after w call.Fault) (k.after v call.Fault)
      → R (l.after w (call.Start m.addr m.reading)) (k.after v (call.Start m.addr m.reading))
      → l.answer w m.addr m.reading ≡ k.answer v m.addr m.reading
      → ToldAlike R (talk l limit w m last cut) (talk k limit v m last cut)
  talk-alike limit w v m last cut all fault start same =
      let alike : ToldBy (λ cs ds. cs ≡ ds) R (talk l limit w m last cut) (talk k limit v m last cut) =
      talk-readdressed l k R Fits keeps takes gives (λ cs ds. cs ≡ ds) (λ c cs ds e. ap (λ (xs : List PortCall). c ∷ xs) e)
      (λ cs ds e. ap (λ (xs : List PortCall). length xs) e) limit w v m m.addr last cut all fault start same refl refl in
      record { calls = alike.calls; bytes = alike.bytes; end = alike.end; now = alike.now }
