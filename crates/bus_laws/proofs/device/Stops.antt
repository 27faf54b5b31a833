-- How a message ends: with a stop, or a call that failed, where it is the last of its transfer, or didn't go through.
-- The inductions go over the bytes of a write, and over the bytes that are left to read.
use Rattle.bus_laws.proofs.Cited.{◌≡◌, ℕ, zero, suc, ◌+◌, ◌-◌, Bool, true, false, cond, ◌||◌, List, [], ◌∷◌, length, Option, eqb, ltb, refl}
use Rattle.bus_laws.proofs.Cited.{◌∙◌, inl, inr, Answer, PortCall, End, MessageView, World, FlatListener, idle, flat_listener, Listener}
use Rattle.bus_laws.proofs.Cited.{world_listener, Said, TalkTold, is_it, silence, say, with_byte, told, call_then, ended, puts, gets}
use Rattle.bus_laws.proofs.Cited.{gets_counted, by_answer, talk}
use Rattle.i2c_base.specs.declared.event.Answer.TheVariants as answer
use Rattle.i2c_base.specs.declared.port.PortCall.TheVariants as call
use Rattle.i2c_base.specs.declared.entry.End.TheVariants as end
use Rattle.bus_laws.specs.Alike.{EndsTransfer}

module _ {W : Type 0} (l : Listener W) (Q : W → Type 0) (stops : (u : W) → Q (l.after u call.Stop)) (faults : (u : W)
    → Q (l.after u call.Fault)) (last : Bool) where
  abbrev IsSettled : TalkTold W → Type 0
  IsSettled t = EndsTransfer last t.end → Q t.now

  cond_settled : (p : Bool) (x y : TalkTold W) → IsSettled x → IsSettled y → IsSettled (cond p x y)
  cond_settled true x y hx hy = hx
  cond_settled false x y hx hy = hy

  then_settled : (cut : Option ℕ) (t : Said W) (c : PortCall) (next : Said W → TalkTold W) → IsSettled (next (say l t c))
      → IsSettled (call_then l cut t c next)
  then_settled cut t c next h =
      cond_settled (is_it cut (length t.calls)) (told (say l t call.Fault) (end.Cut (length t.calls))) (next (say l t c))
      (λ over. faults t.now) h

  ended_early : (cut : Option ℕ) (t : Said W) (e : End) → IsSettled (ended l cut true t e)
  ended_early cut t e = then_settled cut t call.Stop (λ s. told s e) (λ over. stops t.now)

  ended_well : (cut : Option ℕ) (stop : Bool) (t : Said W) → stop ≡ last → IsSettled (ended l cut stop t end.Ok)
  ended_well cut true t e = ended_early cut t end.Ok
  ended_well cut false t e =
      λ over. elim over [
        | inl is_last ↦ absurd (let f : false ≡ true = e ∙ is_last in cc)
        | inr bad ↦ absurd (let f : true ≡ false = bad in
            cc)
      ]

  puts_settled : (cut : Option ℕ) (bytes : List ℕ) (t : Said W) → IsSettled (puts l cut last bytes t)
  puts_settled cut [] t = ended_well cut last t refl
  puts_settled cut (b ∷ bs) t =
      then_settled cut t (call.Put b) (λ s. cond (l.takes t.now b) (puts l cut last bs (with_byte s b)) (ended l cut true s end.Refused))
      (cond_settled (l.takes t.now b) (puts l cut last bs (with_byte (say l t (call.Put b)) b))
      (ended l cut true (say l t (call.Put b)) end.Refused)
      (puts_settled cut bs (with_byte (say l t (call.Put b)) b)) (ended_early cut (say l t (call.Put b)) end.Refused))

  gets_settled : (cut : Option ℕ) (n : ℕ) (t : Said W) → IsSettled (gets l cut last n t)
  gets_settled cut zero t = ended_well cut last t refl
  gets_settled cut (suc n) t =
      then_settled cut t (call.Get (ltb 0 n)) (λ s. gets l cut last n (with_byte s (l.gives t.now)))
      (gets_settled cut n (with_byte (say l t (call.Get (ltb 0 n))) (l.gives t.now)))

  counted_settled : (cut : Option ℕ) (limit len : ℕ) (t : Said W) → IsSettled (gets_counted l cut last limit len t)
  counted_settled cut limit len t =
      let s : Said W = say l t (call.Get true) in
      then_settled cut t (call.Get true)
      (λ x. cond (eqb (l.gives t.now) 0 || ltb limit (l.gives t.now))
      (call_then l cut (with_byte x (l.gives t.now)) (call.Get false) (λ u. ended l cut true (with_byte u (l.gives x.now)) end.Proto))
      (gets l cut last (l.gives t.now + len - 1) (with_byte x (l.gives t.now))))
      (cond_settled (eqb (l.gives t.now) 0 || ltb limit (l.gives t.now))
      (call_then l cut (with_byte s (l.gives t.now)) (call.Get false) (λ u. ended l cut true (with_byte u (l.gives s.now)) end.Proto))
      (gets l cut last (l.gives t.now + len - 1) (with_byte s (l.gives t.now)))
      (then_settled cut (with_byte s (l.gives t.now)) (call.Get false) (λ u. ended l cut true (with_byte u (l.gives s.now)) end.Proto)
      (ended_early cut (with_byte (say l (with_byte s (l.gives t.now)) (call.Get false)) (l.gives s.now)) end.Proto))
      (gets_settled cut (l.gives t.now + len - 1) (with_byte s (l.gives t.now))))

  answer_settled : (cut : Option ℕ) (limit : ℕ) (m : MessageView) (a : Answer) (t : Said W) → IsSettled (by_answer l cut last limit m a t)
  answer_settled cut limit m answer.Ack t =
      cond_settled m.reading
      (cond m.counted (gets_counted l cut last limit m.len t) (gets l cut last m.len t)) (puts l cut last m.bytes t)
      (cond_settled m.counted (gets_counted l cut last limit m.len t) (gets l cut last m.len t)
      (counted_settled cut limit m.len t) (gets_settled cut m.len t))
      (puts_settled cut m.bytes t)
  answer_settled cut limit m answer.Slow t = ended_early cut t end.Slow
  answer_settled cut limit m answer.Nack t = ended_early cut t end.Nack
  answer_settled cut limit m (answer.Byte byte) t = ended_early cut t end.Nack
  answer_settled cut limit m answer.Nothing t = ended_early cut t end.Nack

  -- a message that is the last, or ended early or by a cut, leaves what a stop leaves
  pub talk-settled : (limit : ℕ) (w : W) (m : MessageView) (cut : Option ℕ) → EndsTransfer last (talk l limit w m last cut).end
      → Q (talk l limit w m last cut).now
  talk-settled limit w m cut =
      then_settled cut (silence w) (call.Start m.addr m.reading) (λ t. by_answer l cut last limit m (l.answer w m.addr m.reading) t)
      (answer_settled cut limit m (l.answer w m.addr m.reading) (say l (silence w) (call.Start m.addr m.reading)))

-- then nobody listens in a world, and none of its messages is in progress; and the flat world is idle
pub world-settled : (limit : ℕ) (w : World) (m : MessageView) (last : Bool) (cut : Option ℕ)
    → EndsTransfer last (talk world_listener limit w m last cut).end
    → ((talk world_listener limit w m last cut).now.hearing ≡ []) × ((talk world_listener limit w m last cut).now.busy ≡ false)
world-settled limit w m last cut over =
    talk-settled world_listener (λ (u : World). (u.hearing ≡ []) × (u.busy ≡ false)) (λ u. (refl, refl))
    (λ u. (refl, refl)) last limit w m cut over

pub flat-settled : (granted : ℕ → Option ℕ) (limit : ℕ) (f : FlatListener) (m : MessageView) (last : Bool) (cut : Option ℕ)
    → EndsTransfer last (talk (flat_listener granted) limit f m last cut).end
    → (talk (flat_listener granted) limit f m last cut).now ≡ idle (talk (flat_listener granted) limit f m last cut).now.states
flat-settled granted limit f m last cut over =
    talk-settled (flat_listener granted) (λ (g : FlatListener). g ≡ idle g.states) (λ g. refl) (λ g. refl) last limit f m cut over
