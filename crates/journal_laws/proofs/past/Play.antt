-- What play adds may come where it does, and what may come is what play adds. The inductions go over the calls of a
-- message, and over the words.
use Rattle.journal_laws.proofs.Cited.{◌≡◌, ℕ, zero, suc, ◌+◌, ◌-◌, ◌<◌, ◌≤◌, ◌≢◌, nat_lt, arith, Bool, true, false, cond, eqb, ◌||◌, List}
use Rattle.journal_laws.proofs.Cited.{[], ◌∷◌, length, reverse, Option, Some, None, refl, sym, ◌∙◌, ap, subst, ◌⊎◌, inl, inr, slice_get}
use Rattle.journal_laws.proofs.Cited.{range_with_len, AllByRecursion, eqb_tells, Errno, Answer, LockId, Node, PortCall, End, Entry, Reply}
use Rattle.journal_laws.proofs.Cited.{Cut, Purpose, BoardView, root_of, IsTree, IsPlainBoard, MessageView, World, hearers, Listener, Said}
use Rattle.journal_laws.proofs.Cited.{TalkTold, world_listener, is_it, silence, say, with_byte, told, call_then, ended, puts, gets}
use Rattle.journal_laws.proofs.Cited.{gets_counted, by_answer, talk, block_limit, Asks, Job, Call, Select, SwitchOff, off_mux, Act, Take}
use Rattle.journal_laws.proofs.Cited.{Free, Send, Shift, Settle, job_bus, job_purpose, part_of, parts_of, line_level, message_of, is_last}
use Rattle.journal_laws.proofs.Cited.{first_act, Now, current, now, step, cut_of, talk_of, MessageEntry, caller_of, HearsIn, heard_list}
use Rattle.journal_laws.proofs.Cited.{TellsMessage, IsNext, May, IsStepwise, reply_by, Failing, played, LinesAreLocked, AsksForMessages}
use Rattle.journal_laws.proofs.Cited.{who_hears, chip_where, call-reaches, control-switches, takes-below, is_it-some, same_Some}
use Rattle.std.proofs.Common.{find}
use Rattle.std.proofs.lemmas.List.{reverse-reverse}
use Rattle.i2c_base.specs.declared.event.Answer.TheVariants as answer
use Rattle.i2c_base.specs.declared.port.PortCall.TheVariants as call
use Rattle.i2c_base.specs.declared.entry.End.TheVariants as end
use Rattle.i2c_base.specs.declared.entry.Entry.TheVariants as entry
use Rattle.i2c_spec.specs.Conversation.{data_of}
use Rattle.bus_spec.specs.Past.{opening}
use Rattle.bus_spec.specs.Play.{heard_in, played_talk, talk_in, next_failing, message_entry, take_if, entry_by, next_entry, Played, add}
use Rattle.bus_spec.specs.Play.{add_due, play_one, play}
use Rattle.journal_laws.specs.Layers.{FailsAs}
use Rattle.journal_laws.proofs.past.GoesOn.{message-may}
use Rattle.journal_laws.proofs.past.Due.{due-told, due-known, due-settles}

-- A MESSAGE that a call cuts off ends so, or it is as if no call failed
module _ (l : Listener World) (cut : Option ℕ) where
  abbrev Cuts : TalkTold World → TalkTold World → Type 0
  Cuts x y = (cut_of x.end ≡ cut) ⊎ ((cut_of x.end ≡ None) × (x ≡ y))

  cuts-call : (t : Said World) (c : PortCall) (f g : Said World → TalkTold World) → Cuts (f (say l t c)) (g (say l t c))
      → Cuts (call_then l cut t c f) (call_then l None t c g)
  cuts-call t c f g more = by (is_it cut (length t.calls)) refl
    where
      by : (z : Bool) → is_it cut (length t.calls) ≡ z
          → Cuts (cond z (told (say l t call.Fault) (end.Cut (length t.calls))) (f (say l t c))) (g (say l t c))
      by true e = inl (sym (is_it-some cut (length t.calls) e))
      by false e = more

  cuts-ended : (stops : Bool) (t : Said World) (e : End) → cut_of e ≡ None → Cuts (ended l cut stops t e) (ended l None stops t e)
  cuts-ended true t e own = cuts-call t call.Stop (λ s. told s e) (λ s. told s e) (inr (own, refl))
  cuts-ended false t e own = inr (own, refl)

  cuts-puts : (last : Bool) (bytes : List ℕ) (t : Said World) → Cuts (puts l cut last bytes t) (puts l None last bytes t)
  cuts-puts last [] t = cuts-ended last t end.Ok refl
  cuts-puts last (x ∷ bytes) t =
      cuts-call t (call.Put x) (λ s. cond (l.takes t.now x) (puts l cut last bytes (with_byte s x)) (ended l cut true s end.Refused))
      (λ s. cond (l.takes t.now x) (puts l None last bytes (with_byte s x)) (ended l None true s end.Refused))
      (by (l.takes t.now x) (cuts-puts last bytes (with_byte (say l t (call.Put x)) x)))
    where
      by : (z : Bool) → Cuts (puts l cut last bytes (with_byte (say l t (call.Put x)) x))
          (puts l None last bytes (with_byte (say l t (call.Put x)) x))
          → Cuts (cond z (puts l cut last bytes (with_byte (say l t (call.Put x)) x)) (ended l cut true (say l t (call.Put x)) end.Refused))
          (cond z (puts l None last bytes (with_byte (say l t (call.Put x)) x)) (ended l None true (say l t (call.Put x)) end.Refused))
      by true more = more
      by false more = cuts-ended true (say l t (call.Put x)) end.Refused refl

  cuts-gets : (last : Bool) (n : ℕ) (t : Said World) → Cuts (gets l cut last n t) (gets l None last n t)
  cuts-gets last zero t = cuts-ended last t end.Ok refl
  cuts-gets last (suc n) t =
      cuts-call t (call.Get (nat_lt 0 n)) (λ s. gets l cut last n (with_byte s (l.gives t.now)))
      (λ s. gets l None last n (with_byte s (l.gives t.now)))
      (cuts-gets last n (with_byte (say l t (call.Get (nat_lt 0 n))) (l.gives t.now)))

  -- a count that came, and what follows it
  abbrev counted : Option ℕ → Bool → ℕ → Said World → Said World → Bool → TalkTold World
  counted o last len t s z =
      cond z (call_then l o (with_byte s (l.gives t.now)) (call.Get false) (λ u. ended l o true (with_byte u (l.gives s.now)) end.Proto))
      (gets l o last (l.gives t.now + len - 1) (with_byte s (l.gives t.now)))

  cuts-counted : (last : Bool) (limit len : ℕ) (t : Said World)
      → Cuts (gets_counted l cut last limit len t) (gets_counted l None last limit len t)
  cuts-counted last limit len t =
      cuts-call t (call.Get true) (λ s. counted cut last len t s (eqb (l.gives t.now) 0 || nat_lt limit (l.gives t.now)))
      (λ s. counted None last len t s (eqb (l.gives t.now) 0 || nat_lt limit (l.gives t.now)))
      (by (eqb (l.gives t.now) 0 || nat_lt limit (l.gives t.now)))
    where
      by : (z : Bool) → Cuts (counted cut last len t (say l t (call.Get true)) z) (counted None last len t (say l t (call.Get true)) z)
      by true =
          let s : Said World = say l t (call.Get true) in
          cuts-call (with_byte s (l.gives t.now)) (call.Get false) (λ u. ended l cut true (with_byte u (l.gives s.now)) end.Proto)
          (λ u. ended l None true (with_byte u (l.gives s.now)) end.Proto)
          (cuts-ended true (with_byte (say l (with_byte s (l.gives t.now)) (call.Get false)) (l.gives s.now)) end.Proto refl)
      by false = cuts-gets last (l.gives t.now + len - 1) (with_byte (say l t (call.Get true)) (l.gives t.now))

  cuts-data : (last : Bool) (limit : ℕ) (m : MessageView) (t : Said World)
      → Cuts (data_of l cut last limit m t) (data_of l None last limit m t)
  cuts-data last limit m t = by m.reading m.counted
    where
      by : (x y : Bool) → Cuts (cond x (cond y (gets_counted l cut last limit m.len t) (gets l cut last m.len t))
          (puts l cut last m.bytes t))
          (cond x (cond y (gets_counted l None last limit m.len t) (gets l None last m.len t)) (puts l None last m.bytes t))
      by true true = cuts-counted last limit m.len t
      by true false = cuts-gets last m.len t
      by false y = cuts-puts last m.bytes t

  cuts-answer : (last : Bool) (limit : ℕ) (m : MessageView) (a : Answer) (t : Said World)
      → Cuts (by_answer l cut last limit m a t) (by_answer l None last limit m a t)
  cuts-answer last limit m answer.Ack t = cuts-data last limit m t
  cuts-answer last limit m answer.Slow t = cuts-ended true t end.Slow refl
  cuts-answer last limit m answer.Nack t = cuts-ended true t end.Nack refl
  cuts-answer last limit m (answer.Byte x) t = cuts-ended true t end.Nack refl
  cuts-answer last limit m answer.Nothing t = cuts-ended true t end.Nack refl

  cuts-talk : (limit : ℕ) (w : World) (m : MessageView) (last : Bool) → Cuts (talk l limit w m last cut) (talk l limit w m last None)
  cuts-talk limit w m last =
      cuts-call (silence w) (call.Start m.addr m.reading) (λ t. by_answer l cut last limit m (l.answer w m.addr m.reading) t)
      (λ t. by_answer l None last limit m (l.answer w m.addr m.reading) t)
      (cuts-answer last limit m (l.answer w m.addr m.reading) (say l (silence w) (call.Start m.addr m.reading)))

-- its end tells the call that cuts it off
talk-told : (limit : ℕ) (w : World) (m : MessageView) (last : Bool) (cut : Option ℕ)
    → talk world_listener limit w m last cut ≡ talk world_listener limit w m last (cut_of (talk world_listener limit w m last cut).end)
talk-told limit w m last cut =
    elim (cuts-talk world_listener cut limit w m last) [
      | inl own ↦ ap (λ (o : Option ℕ). talk world_listener limit w m last o) (sym own)
      | inr none ↦ none.1 ∙ ap (λ (o : Option ℕ). talk world_listener limit w m last o) (sym none.0)
    ]

-- a call that it makes cuts it off there
module _ (l : Listener World) (q : ℕ) where
  abbrev Reaches : TalkTold World → TalkTold World → Type 0
  Reaches x y = q < length y.calls → x.end ≡ end.Cut q

  reach-call : (t : Said World) (c : PortCall) (f g : Said World → TalkTold World) → length t.calls ≤ q
      → (length (say l t c).calls ≤ q → Reaches (f (say l t c)) (g (say l t c)))
      → Reaches (call_then l (Some q) t c f) (call_then l None t c g)
  reach-call t c f g before more =
      elim (eqb_tells q (length t.calls)) [
        | inl h ↦ subst (λ (z : Bool). Reaches (cond z (told (say l t call.Fault) (end.Cut (length t.calls))) (f (say l t c)))
            (g (say l t c))) (sym h.0)
            (λ within. ap end.Cut (sym h.1))
        | inr h ↦ subst (λ (z : Bool). Reaches (cond z (told (say l t call.Fault) (end.Cut (length t.calls))) (f (say l t c)))
            (g (say l t c))) (sym h.0)
            (more (let ne : q ≢ length t.calls = h.1 in omega (arith, ne, before)))
      ]

  reach-ended : (stops : Bool) (t : Said World) (e : End) → length t.calls ≤ q
      → Reaches (ended l (Some q) stops t e) (ended l None stops t e)
  reach-ended true t e before =
      reach-call t call.Stop (λ s. told s e) (λ s. told s e) before (λ more within. absurd (omega (arith, more, within)))
  reach-ended false t e before = λ within. absurd (omega (arith, before, within))

  reach-puts : (last : Bool) (bytes : List ℕ) (t : Said World) → length t.calls ≤ q
      → Reaches (puts l (Some q) last bytes t) (puts l None last bytes t)
  reach-puts last [] t before = reach-ended last t end.Ok before
  reach-puts last (x ∷ bytes) t before =
      reach-call t (call.Put x) (λ s. cond (l.takes t.now x) (puts l (Some q) last bytes (with_byte s x))
      (ended l (Some q) true s end.Refused))
      (λ s. cond (l.takes t.now x) (puts l None last bytes (with_byte s x)) (ended l None true s end.Refused)) before
      (λ more. by (l.takes t.now x) more (reach-puts last bytes (with_byte (say l t (call.Put x)) x) more))
    where
      by : (z : Bool) → length (say l t (call.Put x)).calls ≤ q
          → Reaches (puts l (Some q) last bytes (with_byte (say l t (call.Put x)) x))
          (puts l None last bytes (with_byte (say l t (call.Put x)) x))
          → Reaches (cond z (puts l (Some q) last bytes (with_byte (say l t (call.Put x)) x))
          (ended l (Some q) true (say l t (call.Put x)) end.Refused))
          (cond z (puts l None last bytes (with_byte (say l t (call.Put x)) x)) (ended l None true (say l t (call.Put x)) end.Refused))
      by true so more = more
      by false so more = reach-ended true (say l t (call.Put x)) end.Refused so

  reach-gets : (last : Bool) (n : ℕ) (t : Said World) → length t.calls ≤ q → Reaches (gets l (Some q) last n t) (gets l None last n t)
  reach-gets last zero t before = reach-ended last t end.Ok before
  reach-gets last (suc n) t before =
      reach-call t (call.Get (nat_lt 0 n)) (λ s. gets l (Some q) last n (with_byte s (l.gives t.now)))
      (λ s. gets l None last n (with_byte s (l.gives t.now))) before
      (λ more. reach-gets last n (with_byte (say l t (call.Get (nat_lt 0 n))) (l.gives t.now)) more)

  reach-counted : (last : Bool) (limit len : ℕ) (t : Said World) → length t.calls ≤ q
      → Reaches (gets_counted l (Some q) last limit len t) (gets_counted l None last limit len t)
  reach-counted last limit len t before =
      reach-call t (call.Get true) (λ s. counted l (Some q) (Some q) last len t s (eqb (l.gives t.now) 0 || nat_lt limit (l.gives t.now)))
      (λ s. counted l (Some q) None last len t s (eqb (l.gives t.now) 0 || nat_lt limit (l.gives t.now))) before
      (by (eqb (l.gives t.now) 0 || nat_lt limit (l.gives t.now)))
    where
      by : (z : Bool) → length (say l t (call.Get true)).calls ≤ q
          → Reaches (counted l (Some q) (Some q) last len t (say l t (call.Get true)) z)
          (counted l (Some q) None last len t (say l t (call.Get true)) z)
      by true more =
          let s : Said World = say l t (call.Get true) in
          reach-call (with_byte s (l.gives t.now)) (call.Get false) (λ u. ended l (Some q) true (with_byte u (l.gives s.now)) end.Proto)
          (λ u. ended l None true (with_byte u (l.gives s.now)) end.Proto) more
          (λ so. reach-ended true (with_byte (say l (with_byte s (l.gives t.now)) (call.Get false)) (l.gives s.now)) end.Proto so)
      by false more = reach-gets last (l.gives t.now + len - 1) (with_byte (say l t (call.Get true)) (l.gives t.now)) more

  reach-data : (last : Bool) (limit : ℕ) (m : MessageView) (t : Said World) → length t.calls ≤ q
      → Reaches (data_of l (Some q) last limit m t) (data_of l None last limit m t)
  reach-data last limit m t before = by m.reading m.counted
    where
      by : (x y : Bool) → Reaches (cond x (cond y (gets_counted l (Some q) last limit m.len t) (gets l (Some q) last m.len t))
          (puts l (Some q) last m.bytes t))
          (cond x (cond y (gets_counted l None last limit m.len t) (gets l None last m.len t)) (puts l None last m.bytes t))
      by true true = reach-counted last limit m.len t before
      by true false = reach-gets last m.len t before
      by false y = reach-puts last m.bytes t before

  reach-answer : (last : Bool) (limit : ℕ) (m : MessageView) (a : Answer) (t : Said World) → length t.calls ≤ q
      → Reaches (by_answer l (Some q) last limit m a t) (by_answer l None last limit m a t)
  reach-answer last limit m answer.Ack t before = reach-data last limit m t before
  reach-answer last limit m answer.Slow t before = reach-ended true t end.Slow before
  reach-answer last limit m answer.Nack t before = reach-ended true t end.Nack before
  reach-answer last limit m (answer.Byte x) t before = reach-ended true t end.Nack before
  reach-answer last limit m answer.Nothing t before = reach-ended true t end.Nack before

  reach-talk : (limit : ℕ) (w : World) (m : MessageView) (last : Bool)
      → Reaches (talk l limit w m last (Some q)) (talk l limit w m last None)
  reach-talk limit w m last =
      reach-call (silence w) (call.Start m.addr m.reading) (λ t. by_answer l (Some q) last limit m (l.answer w m.addr m.reading) t)
      (λ t. by_answer l None last limit m (l.answer w m.addr m.reading) t)
      (omega arith) (reach-answer last limit m (l.answer w m.addr m.reading) (say l (silence w) (call.Start m.addr m.reading)))

-- what is found among numbers is one of them
found_here : (test : ℕ → Bool) (from n k : ℕ) (z : Bool) → (find test (range_with_len (from + 1) n) ≡ Some k → k < (from + 1) + n)
    → cond z (Some from) (find test (range_with_len (from + 1) n)) ≡ Some k → k < from + suc n
found_here test from n k true next e = (let f : Some from ≡ Some k = e in let g : from ≡ k = cc in omega (arith, g))
found_here test from n k false next e = (let h : k < (from + 1) + n = next e in omega (arith, h))

found_within : (test : ℕ → Bool) (from n k : ℕ) → find test (range_with_len from n) ≡ Some k → k < from + n
found_within test from zero k e = absurd (let f : None ≡ Some k = e in cc)
found_within test from (suc n) k e = found_here test from n k (test from) (λ f. found_within test (from + 1) n k f) e

-- WHO HEARS a message, where at most one does
heard_first : (o : Option Node) → slice_get (heard_list o) 0 ≡ o
heard_first None = refl
heard_first (Some x) = refl

hears-in : (w : World) (addr : ℕ) (reading : Bool) (o : Option Node) (e : End) → hearers w addr reading ≡ heard_list o
    → HearsIn w addr reading (heard_in (hearers w addr reading) e) e
hears-in w addr reading o e heard = by e
  where
    first : hearers w addr reading ≡ heard_list (slice_get (hearers w addr reading) 0)
    first = heard ∙ sym (ap (λ (x : Option Node). heard_list x) (ap (λ (xs : List Node). slice_get xs 0) heard ∙ heard_first o))

    by : (x : End) → HearsIn w addr reading (heard_in (hearers w addr reading) x) x
    by (end.Cut zero) = refl
    by (end.Cut (suc q)) = first
    by end.Ok = first
    by end.Nack = first
    by end.Slow = first
    by end.Refused = first
    by end.Proto = first

heard-told : (w : World) (addr : ℕ) (reading : Bool) (heard : Option Node) (e : End) → HearsIn w addr reading heard e
    → heard_in (hearers w addr reading) e ≡ heard
heard-told w addr reading heard (end.Cut zero) told = sym told
heard-told w addr reading heard (end.Cut (suc q)) told = ap (λ (xs : List Node). slice_get xs 0) told ∙ heard_first heard
heard-told w addr reading heard end.Ok told = ap (λ (xs : List Node). slice_get xs 0) told ∙ heard_first heard
heard-told w addr reading heard end.Nack told = ap (λ (xs : List Node). slice_get xs 0) told ∙ heard_first heard
heard-told w addr reading heard end.Slow told = ap (λ (xs : List Node). slice_get xs 0) told ∙ heard_first heard
heard-told w addr reading heard end.Refused told = ap (λ (xs : List Node). slice_get xs 0) told ∙ heard_first heard
heard-told w addr reading heard end.Proto told = ap (λ (xs : List Node). slice_get xs 0) told ∙ heard_first heard

module _ (b : BoardView) (tree : IsTree b) (plain : IsPlainBoard b) (lines : LinesAreLocked b) (asks : Asks) (some : AsksForMessages asks)
    (callers : ℕ) where
  module _ (past : List Entry) (steps : IsStepwise b callers asks past) (fails : Failing) where
    abbrev n : Now
    n = now b asks past

    -- who hears the next message
    one_hears : (c : ℕ) (job : Job) (left : ℕ) → IsNext b asks n c (Send job left)
        → (o : Option Node) × (hearers (n.worlds (root_of b (job_bus job))) (message_of b job left).addr
        (message_of b job left).reading ≡ heard_list o)
    one_hears c (Call bus ms) left next =
        let h = call-reaches b tree plain lines asks some callers past steps c bus ms left next in (
          who_hears b (n.worlds (root_of b bus)) bus h.transfer.force (message_of b (Call bus ms) left).addr
              (message_of b (Call bus ms) left).reading,
          h.heard,
        )
    one_hears c (Select g) left next =
        (chip_where b g.mux, (control-switches b tree plain lines asks some callers past steps c (Select g) left g.mux refl next).heard)
    one_hears c (SwitchOff off) left next = (
      chip_where b (off_mux off),
      (control-switches b tree plain lines asks some callers past steps c (SwitchOff off) left
          (off_mux off) refl next).heard,
    )

    -- WHAT PLAY ADDS may come
    may-message : (c : ℕ) (job : Job) (left : ℕ) (t : TalkTold World) (cut : Option ℕ)
        → t ≡ talk_in b (n.worlds (root_of b (job_bus job))) job left cut
        → c < callers → n.due ≡ None → IsNext b asks n c (Send job left) → May b callers asks n (message_entry b n c job left t)
    may-message c job left t cut is known none next =
        let hears = one_hears c job left next in
        let same : t ≡ talk_of b n job left t.end =
        is ∙ talk-told (block_limit b) (n.worlds (root_of b (job_bus job))) (message_of b job left) (is_last job left) cut
        ∙ ap (λ (x : TalkTold World). talk_of b n job left x.end) (sym is) in
        message-may b callers asks n c job left t (heard_in (hearers (n.worlds (root_of b (job_bus job))) (message_of b job left).addr
        (message_of b job left).reading) t.end) known none next same
        (hears-in (n.worlds (root_of b (job_bus job))) (message_of b job left).addr (message_of b job left).reading hears.0 t.end hears.1)

    pub play-may : (c : ℕ) (e : Entry) → c < callers → (n.due ≡ None) ⊎ (n.due ≡ Some c) → next_entry b asks fails n c ≡ Some e
        → May b callers asks n e
    play-may c e known due adds = by (first_act (current b asks n c)) refl adds
      where
        none_due : (act : Act) → IsNext b asks n c act → ((v : Option Errno) → act ≡ Settle v → ⊥) → n.due ≡ None
        none_due act next other =
            elim due [
              | inl none ↦ none
              | inr own ↦ (let h = due-told b asks some callers past c steps own in
                  absurd (other h.verdict (same_Some act (Settle h.verdict) (sym next ∙ due-settles b asks past c h))))
            ]

        may_take : (l : LockId) → (o : Option ℕ) → n.holder l ≡ o → IsNext b asks n c (Take l) → take_if o (entry.Take c l) ≡ Some e
            → May b callers asks n e
        may_take l None free next adds =
            subst (λ (x : Entry). May b callers asks n x) (same_Some (entry.Take c l) e adds) (
              known,
              none_due (Take l) next (λ v f. let g : Take l ≡ Settle v = f in
                  cc),
              next,
              free,
              takes-below b tree plain lines asks some callers past steps c l next,
            )
        may_take l (Some d) has next adds = absurd (let f : None ≡ Some e = adds in cc)

        by : (o : Option Act) → first_act (current b asks n c) ≡ o → entry_by b asks fails n c o ≡ Some e → May b callers asks n e
        by None next adds = absurd (let f : None ≡ Some e = adds in cc)
        by (Some (Take l)) next adds = may_take l (n.holder l) refl next adds
        by (Some (Free l)) next adds =
            subst (λ (x : Entry). May b callers asks n x) (same_Some (entry.Free c l) e adds)
            (known, none_due (Free l) next (λ v f. let g : Free l ≡ Settle v = f in cc), next)
        by (Some (Send job left)) next adds =
            subst (λ (x : Entry). May b callers asks n x) (same_Some (message_entry b n c job left (played_talk b fails n job left)) e adds)
            (may-message c job left (played_talk b fails n job left) (next_failing b fails n job left) refl known
            (none_due (Send job left) next (λ v f. let g : Send job left ≡ Settle v = f in cc)) next)
        by (Some (Shift job)) next adds =
            subst (λ (x : Entry). May b callers asks n x) (same_Some _ e adds) (
              known,
              none_due (Shift job) next (λ v f. let g : Shift job ≡ Settle v = f in cc),
              (job, next, record { of_mux = refl; to_level = refl }),
            )
        by (Some (Settle verdict)) next adds =
            subst (λ (x : Entry). May b callers asks n x)
            (same_Some (entry.Settle c (reply_by verdict (asks c (n.settled c)) (n.got c)) (n.cut c)) e adds)
            (known, due, verdict, next, refl, refl)

  -- A JOURNAL THAT IS PLAYED
  module _ (fails : Failing) where
    record IsMade (p : Played) : Type 0 where
      pub steps : IsStepwise b callers asks p.past
      pub at : p.now ≡ now b asks p.past

    add-made : (o : Option Entry) (p : Played) → IsMade p → ((e : Entry) → o ≡ Some e → May b callers asks (now b asks p.past) e)
        → IsMade (add b asks o p)
    add-made None p made may = made
    add-made (Some e) p made may = record { steps = (may e refl, made.steps); at = ap (λ (n : Now). step b asks n e) made.at }

    next-made : (c : ℕ) (p : Played) → IsMade p → c < callers → (p.now.due ≡ None) ⊎ (p.now.due ≡ Some c)
        → IsMade (add b asks (next_entry b asks fails p.now c) p)
    next-made c p made known due =
        add-made (next_entry b asks fails p.now c) p made
        (λ e adds. play-may p.past made.steps fails c e known (subst (λ (n : Now). (n.due ≡ None) ⊎ (n.due ≡ Some c)) made.at due)
        (subst (λ (n : Now). next_entry b asks fails n c ≡ Some e) made.at adds))

    -- a settle that is due comes, and none is due after it
    record IsSettled (p : Played) : Type 0 where
      pub made : IsMade p
      pub none_due : p.now.due ≡ None

    due-made : (o : Option ℕ) (p : Played) → IsMade p → p.now.due ≡ o → IsSettled (add_due b asks fails o p)
    due-made None p made due = record { made = made; none_due = due }
    due-made (Some c) p made due =
        let due_at : (now b asks p.past).due ≡ Some c = ap (λ (n : Now). n.due) (sym made.at) ∙ due in
        let h = due-told b asks some callers p.past c made.steps due_at in
        let next : next_entry b asks fails p.now c ≡ Some
        (entry.Settle c (reply_by h.verdict (asks c (p.now.settled c)) (p.now.got c)) (p.now.cut c)) =
        ap (λ (o : Option Act). entry_by b asks fails p.now c o) (ap (λ (n : Now). first_act (current b asks n c)) made.at
        ∙ due-settles b asks p.past c h) in
        record {
          made = next-made c p made (due-known b asks some callers p.past c made.steps due_at) (inr due);
          none_due = ap (λ (o : Option Entry). (add b asks o p).now.due) next;
        }

    one-made : (c : ℕ) (p : Played) → IsSettled p → c < callers → IsSettled (play_one b asks fails c p)
    one-made c p settled known =
        due-made (add b asks (next_entry b asks fails p.now c) p).now.due (add b asks (next_entry b asks fails p.now c) p)
        (next-made c p settled.made known (inl settled.none_due)) refl

    play-made : (words : List ℕ) (p : Played) → AllByRecursion (λ c. c < callers) words → IsSettled p
        → IsSettled (play b asks fails words p)
    play-made [] p known settled = settled
    play-made (c ∷ words) p known settled = play-made words (play_one b asks fails c p) known.1 (one-made c p settled known.0)

    pub played-steps : (words : List ℕ) → AllByRecursion (λ c. c < callers) words
        → IsStepwise b callers asks (reverse (played b asks fails words)) × ((now b asks (reverse (played b asks fails words))).due ≡ None)
    played-steps words known =
        let p : Played = play b asks fails words (record { past = []; now = opening b }) in
        let settled : IsSettled p = play-made words (record { past = []; now = opening b }) known
        (record { made = record { steps = tt; at = refl }; none_due = refl }) in
        subst (λ (es : List Entry). IsStepwise b callers asks es × ((now b asks es).due ≡ None)) (sym (reverse-reverse p.past))
        (settled.made.steps, ap (λ (n : Now). n.due) (sym settled.made.at) ∙ settled.none_due)

-- WHAT MAY COME is what play adds, wherever all stands
module _ (b : BoardView) (asks : Asks) (callers : ℕ) (n : Now) (fails : Failing) where
  -- and the ports fail as it tells
  pub play-fails : (c : ℕ) (e : Entry) → next_entry b asks fails n c ≡ Some e → FailsAs b fails n (first_act (current b asks n c)) e
  play-fails c e adds = by (first_act (current b asks n c)) adds
    where
      cut_is : (job : Job) (left : ℕ) (o : Option ℕ) → next_failing b fails n job left ≡ o
          → cut_of (talk_in b (n.worlds (root_of b (job_bus job))) job left o).end ≡ o
      cut_is job left None is =
          elim (cuts-talk world_listener None (block_limit b) (n.worlds (root_of b (job_bus job))) (message_of b job left)
          (is_last job left)) [ inl own ↦ own | inr none ↦ none.0 ]
      cut_is job left (Some q) is =
          let within : q < 0 + length (talk_in b (n.worlds (root_of b (job_bus job))) job left None).calls =
          found_within (λ i. fails (root_of b (job_bus job)) (length (n.calls (root_of b (job_bus job))) + i)) 0
          (length (talk_in b (n.worlds (root_of b (job_bus job))) job left None).calls) q is in
          ap cut_of (reach-talk world_listener q (block_limit b) (n.worlds (root_of b (job_bus job))) (message_of b job left)
          (is_last job left) (omega (arith, within)))

      by : (o : Option Act) → entry_by b asks fails n c o ≡ Some e → FailsAs b fails n o e
      by None adds = tt
      by (Some (Take l)) adds = tt
      by (Some (Free l)) adds = tt
      by (Some (Settle verdict)) adds = tt
      by (Some (Shift job)) adds = subst (λ (x : Entry). FailsAs b fails n (Some (Shift job)) x) (same_Some _ e adds) refl
      by (Some (Send job left)) adds =
          subst (λ (x : Entry). FailsAs b fails n (Some (Send job left)) x)
          (same_Some (message_entry b n c job left (played_talk b fails n job left)) e adds)
          (sym (cut_is job left (next_failing b fails n job left) refl))

  adds_next : (c : ℕ) (act : Act) → IsNext b asks n c act → next_entry b asks fails n c ≡ entry_by b asks fails n c (Some act)
  adds_next c act next = ap (λ (o : Option Act). entry_by b asks fails n c o) next

  same_entry : (m : MessageEntry) (bus : ℕ) (why : Purpose) (part parts addr : ℕ) (reading : Bool) (bytes : List ℕ) (heard : Option Node)
      (e : End)
      → m.bus ≡ bus → m.purpose ≡ why → m.part ≡ part → m.parts ≡ parts → m.addr ≡ addr → m.reading ≡ reading → m.bytes ≡ bytes
      → m.heard ≡ heard → m.end ≡ e
      → entry.Message m.caller bus why part parts addr reading bytes heard e ≡ entry.Message m.caller m.bus m.purpose m.part m.parts m.addr
      m.reading m.bytes m.heard m.end
  same_entry m bus why part parts addr reading bytes heard e s1 s2 s3 s4 s5 s6 s7 s8 s9 = cc

  same_message : (job : Job) (left : ℕ) (m : MessageEntry) → TellsMessage b n job left m → next_failing b fails n job left ≡ cut_of m.end
      → message_entry b n m.caller job left (played_talk b fails n job left)
      ≡ entry.Message m.caller m.bus m.purpose m.part m.parts m.addr m.reading m.bytes m.heard m.end
  same_message job left m tells fail =
      let w : World = n.worlds (root_of b (job_bus job)) in
      let t : TalkTold World = played_talk b fails n job left in
      let same : t ≡ talk_of b n job left m.end = ap (λ (o : Option ℕ). talk_in b w job left o) fail in
      let ends : m.end ≡ t.end = tells.end_told ∙ ap (λ (x : TalkTold World). x.end) (sym same) in
      let heard : heard_in (hearers w m.addr m.reading) m.end ≡ m.heard = heard-told w m.addr m.reading m.heard m.end tells.heard_told in
      let there : heard_in (hearers w m.addr m.reading) m.end ≡ heard_in
      (hearers w (message_of b job left).addr (message_of b job left).reading) t.end =
      ap (λ (a : ℕ). heard_in (hearers w a m.reading) m.end) tells.to_addr
      ∙ ap (λ (r : Bool). heard_in (hearers w (message_of b job left).addr r) m.end) tells.in_direction
      ∙ ap (λ (x : End). heard_in (hearers w (message_of b job left).addr (message_of b job left).reading) x) ends in
      same_entry m (job_bus job) (job_purpose job) (part_of job left) (parts_of job) (message_of b job left).addr
      (message_of b job left).reading t.bytes
      (heard_in (hearers w (message_of b job left).addr (message_of b job left).reading) t.end) t.end
      tells.on_bus tells.for_purpose tells.as_part tells.of_parts tells.to_addr tells.in_direction (tells.bytes_told
      ∙ ap (λ (x : TalkTold World). x.bytes) (sym same))
      (sym heard ∙ there) ends

  pub may-plays : (e : Entry) → May b callers asks n e → FailsAs b fails n (first_act (current b asks n (caller_of e))) e
      → next_entry b asks fails n (caller_of e) ≡ Some e
  may-plays (entry.Take c l) may so = adds_next c (Take l) may.2 ∙ ap (λ (o : Option ℕ). take_if o (entry.Take c l)) may.3
  may-plays (entry.Free c l) may so = adds_next c (Free l) may.2
  may-plays (entry.Line c mux level failed) may so =
      adds_next c (Shift may.2.0) may.2.1
      ∙ ap (λ (m : ℕ). Some (entry.Line c m (line_level may.2.0)
      (fails (root_of b (job_bus may.2.0)) (length (n.calls (root_of b (job_bus may.2.0))))))) (sym may.2.2.of_mux)
      ∙ ap (λ (l : ℕ). Some (entry.Line c mux l (fails (root_of b (job_bus may.2.0)) (length (n.calls (root_of b (job_bus may.2.0)))))))
      (sym may.2.2.to_level)
      ∙ ap (λ (f : Bool). Some (entry.Line c mux level f))
      (subst (λ (o : Option Act). FailsAs b fails n o (entry.Line c mux level failed)) may.2.1 so)
  may-plays (entry.Message c bus purpose part parts addr reading bytes heard x) may so =
      adds_next c (Send may.2.0 may.2.1) may.2.2
      ∙ ap Some (same_message may.2.0 may.2.1 _ may.2.3
      (subst (λ (o : Option Act). FailsAs b fails n o (entry.Message c bus purpose part parts addr reading bytes heard x)) may.2.2 so))
  may-plays (entry.Settle c r cut) may so =
      adds_next c (Settle may.2) may.3
      ∙ ap (λ (x : Reply). Some (entry.Settle c x (n.cut c))) (sym may.4)
      ∙ ap (λ (x : Cut). Some (entry.Settle c r x)) (sym may.5)
