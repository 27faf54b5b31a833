-- A message of which a call fails is the front of the same message with no call that fails. The inductions go over the
-- bytes of a write, and over the bytes that are left to read.
use Rattle.journal_laws.proofs.Cited.{◌≡◌, ℕ, zero, suc, ◌+◌, ◌-◌, Bool, true, false, cond, ◌||◌, List, [], ◌∷◌, ◌++◌, length, Option, Some}
use Rattle.journal_laws.proofs.Cited.{None, eqb, refl, sym, ◌∙◌, ap, ◌⊎◌, inl, inr, append_assoc, AllByRecursion, Answer, PortCall, End}
use Rattle.journal_laws.proofs.Cited.{MessageView, Listener, Said, TalkTold, is_it, silence, say, with_byte, told, call_then, ended, puts}
use Rattle.journal_laws.proofs.Cited.{gets, gets_counted, by_answer, talk, IsOwnEnd, is_it-some}
use Rattle.std.proofs.Common.{ltb}
use Rattle.i2c_base.specs.declared.event.Answer.TheVariants as answer
use Rattle.i2c_base.specs.declared.port.PortCall.TheVariants as call
use Rattle.i2c_base.specs.declared.entry.End.TheVariants as end

-- a call that didn't fail
abbrev pub Went : PortCall → Type 0
Went c = c ≡ call.Fault → ⊥

module _ {W : Type 0} where
  -- the call at this place failed: after the calls before the message come so many of its own, and the next one failed
  pub record BreaksOff (cut : Option ℕ) (before more : List PortCall) (t : TalkTold W) : Type 0 where
    pub place : ℕ
    pub cut_is : cut ≡ Some place
    pub ended_so : t.end ≡ end.Cut place
    pub own : List PortCall
    pub said : t.calls ≡ call.Fault ∷ (own ++ before)
    pub counted : length (own ++ before) ≡ place
    -- the message with no call that fails has these, the next one in its place, and maybe others
    pub later : List PortCall
    pub next : PortCall
    pub whole_is : more ≡ later ++ next ∷ own

  -- a message beside the same one with no call that fails, both after these calls
  pub record IsFront (cut : Option ℕ) (before : List PortCall) (t whole : TalkTold W) : Type 0 where
    pub more : List PortCall
    pub grown : whole.calls ≡ more ++ before
    pub went : AllByRecursion Went more
    pub own_end : IsOwnEnd whole.end
    pub either : (t ≡ whole) ⊎ BreaksOff cut before more t

all_more : (xs : List PortCall) (c : PortCall) → AllByRecursion Went xs → Went c → AllByRecursion Went (xs ++ c ∷ [])
all_more [] c all went = (went, tt)
all_more (x ∷ xs) c all went = (all.0, all_more xs c all.1 went)

module _ {W : Type 0} (l : Listener W) (cut : Option ℕ) where
  abbrev Fronts : Said W → TalkTold W → TalkTold W → Type 0
  Fronts t u whole = IsFront cut t.calls u whole

  told_front : (t : Said W) (e : End) → IsOwnEnd e → Fronts t (told t e) (told t e)
  told_front t e own = record { more = []; grown = refl; went = tt; own_end = own; either = inl refl }

  cond_front : (x : Bool) (t : Said W) (u1 u2 w1 w2 : TalkTold W) → Fronts t u1 w1 → Fronts t u2 w2 → Fronts t (cond x u1 u2) (cond x w1 w2)
  cond_front true t u1 u2 w1 w2 h1 h2 = h1
  cond_front false t u1 u2 w1 w2 h1 h2 = h2

  -- a call and what follows it
  then_front : (t : Said W) (c : PortCall) (next whole : Said W → TalkTold W) → Went c
      → Fronts (say l t c) (next (say l t c)) (whole (say l t c))
      → Fronts t (call_then l cut t c next) (whole (say l t c))
  then_front t c next whole went sub =
      record {
        more = sub.more ++ c ∷ [];
        grown = sub.grown ∙ sym (append_assoc sub.more (c ∷ []) t.calls);
        went = all_more sub.more c sub.went went;
        own_end = sub.own_end;
        either = by (is_it cut (length t.calls)) refl;
      }
    where
      by : (x : Bool) → is_it cut (length t.calls) ≡ x
          → (cond x (told (say l t call.Fault) (end.Cut (length t.calls))) (next (say l t c)) ≡ whole (say l t c))
          ⊎ BreaksOff cut t.calls (sub.more ++ c ∷ []) (cond x (told (say l t call.Fault) (end.Cut (length t.calls))) (next (say l t c)))
      by true e =
          inr (record {
            place = length t.calls;
            cut_is = is_it-some cut (length t.calls) e;
            ended_so = refl;
            own = [];
            said = refl;
            counted = refl;
            later = sub.more;
            next = c;
            whole_is = refl;
          })
      by false e =
          elim sub.either [
            | inl same ↦ inl same
            | inr broken ↦ inr (record {
              place = broken.place;
              cut_is = broken.cut_is;
              ended_so = broken.ended_so;
              own = broken.own ++ c ∷ [];
              said = broken.said ∙ ap (λ (cs : List PortCall). call.Fault ∷ cs) (sym (append_assoc broken.own (c ∷ []) t.calls));
              counted = ap (λ (cs : List PortCall). length cs) (append_assoc broken.own (c ∷ []) t.calls) ∙ broken.counted;
              later = broken.later;
              next = broken.next;
              whole_is = ap (λ (cs : List PortCall). cs ++ c ∷ []) broken.whole_is
                  ∙ append_assoc broken.later (broken.next ∷ broken.own) (c ∷ []);
            })
          ]

  ended_front : (stops : Bool) (t : Said W) (e : End) → IsOwnEnd e → Fronts t (ended l cut stops t e) (ended l None stops t e)
  ended_front true t e own =
      then_front t call.Stop (λ s. told s e) (λ s. told s e) (λ f. let g : call.Stop ≡ call.Fault = f in cc)
      (told_front (say l t call.Stop) e own)
  ended_front false t e own = told_front t e own

  puts_front : (last : Bool) (bytes : List ℕ) (t : Said W) → Fronts t (puts l cut last bytes t) (puts l None last bytes t)
  puts_front last [] t = ended_front last t end.Ok tt
  puts_front last (b ∷ bs) t =
      let s : Said W = say l t (call.Put b) in
      then_front t (call.Put b)
      (λ s. cond (l.takes t.now b) (puts l cut last bs (with_byte s b)) (ended l cut true s end.Refused))
      (λ s. cond (l.takes t.now b) (puts l None last bs (with_byte s b)) (ended l None true s end.Refused))
      (λ f. let g : call.Put b ≡ call.Fault = f in cc)
      (cond_front (l.takes t.now b) s
      (puts l cut last bs (with_byte s b)) (ended l cut true s end.Refused) (puts l None last bs (with_byte s b))
      (ended l None true s end.Refused)
      (puts_front last bs (with_byte s b)) (ended_front true s end.Refused tt))

  gets_front : (last : Bool) (n : ℕ) (t : Said W) → Fronts t (gets l cut last n t) (gets l None last n t)
  gets_front last zero t = ended_front last t end.Ok tt
  gets_front last (suc n) t =
      then_front t (call.Get (ltb 0 n)) (λ s. gets l cut last n (with_byte s (l.gives t.now)))
      (λ s. gets l None last n (with_byte s (l.gives t.now)))
      (λ f. let g : call.Get (ltb 0 n) ≡ call.Fault = f in cc)
      (gets_front last n (with_byte (say l t (call.Get (ltb 0 n))) (l.gives t.now)))

  counted_front : (last : Bool) (limit len : ℕ) (t : Said W)
      → Fronts t (gets_counted l cut last limit len t) (gets_counted l None last limit len t)
  counted_front last limit len t =
      let byte : ℕ = l.gives t.now in
      let s : Said W = say l t (call.Get true) in
      let u : Said W = with_byte s byte in
      then_front t (call.Get true)
      (λ s. cond (eqb byte 0 || ltb limit byte)
      (call_then l cut (with_byte s byte) (call.Get false) (λ u. ended l cut true (with_byte u (l.gives s.now)) end.Proto))
      (gets l cut last (byte + len - 1) (with_byte s byte)))
      (λ s. cond (eqb byte 0 || ltb limit byte)
      (call_then l None (with_byte s byte) (call.Get false) (λ u. ended l None true (with_byte u (l.gives s.now)) end.Proto))
      (gets l None last (byte + len - 1) (with_byte s byte)))
      (λ f. let g : call.Get true ≡ call.Fault = f in cc)
      (cond_front (eqb byte 0 || ltb limit byte) s
      (call_then l cut u (call.Get false) (λ u. ended l cut true (with_byte u (l.gives s.now)) end.Proto))
      (gets l cut last (byte + len - 1) u)
      (call_then l None u (call.Get false) (λ u. ended l None true (with_byte u (l.gives s.now)) end.Proto))
      (gets l None last (byte + len - 1) u)
      (then_front u (call.Get false) (λ u. ended l cut true (with_byte u (l.gives s.now)) end.Proto)
      (λ u. ended l None true (with_byte u (l.gives s.now)) end.Proto)
      (λ f. let g : call.Get false ≡ call.Fault = f in cc)
      (ended_front true (with_byte (say l u (call.Get false)) (l.gives s.now)) end.Proto tt))
      (gets_front last (byte + len - 1) u))

  answer_front : (last : Bool) (limit : ℕ) (m : MessageView) (a : Answer) (t : Said W)
      → Fronts t (by_answer l cut last limit m a t) (by_answer l None last limit m a t)
  answer_front last limit m answer.Ack t =
      cond_front m.reading t
      (cond m.counted (gets_counted l cut last limit m.len t) (gets l cut last m.len t)) (puts l cut last m.bytes t)
      (cond m.counted (gets_counted l None last limit m.len t) (gets l None last m.len t)) (puts l None last m.bytes t)
      (cond_front m.counted t (gets_counted l cut last limit m.len t) (gets l cut last m.len t) (gets_counted l None last limit m.len t)
      (gets l None last m.len t)
      (counted_front last limit m.len t) (gets_front last m.len t))
      (puts_front last m.bytes t)
  answer_front last limit m answer.Slow t = ended_front true t end.Slow tt
  answer_front last limit m answer.Nack t = ended_front true t end.Nack tt
  answer_front last limit m (answer.Byte byte) t = ended_front true t end.Nack tt
  answer_front last limit m answer.Nothing t = ended_front true t end.Nack tt

  pub talk-front : (limit : ℕ) (w : W) (m : MessageView) (last : Bool)
      → IsFront cut [] (talk l limit w m last cut) (talk l limit w m last None)
  talk-front limit w m last =
      then_front (silence w) (call.Start m.addr m.reading) (λ t. by_answer l cut last limit m (l.answer w m.addr m.reading) t)
      (λ t. by_answer l None last limit m (l.answer w m.addr m.reading) t)
      (λ f. let g : call.Start m.addr m.reading ≡ call.Fault = f in cc)
      (answer_front last limit m (l.answer w m.addr m.reading) (say l (silence w) (call.Start m.addr m.reading)))
