-- A message as it is sent is the message as it is talked, over a listener that another one shows by h. The inductions
-- go over the bytes of a write, over the bytes that are left to read, and over the messages of a transfer.
use Rattle.flat_world.proofs.Cited.{◌≡◌, ℕ, zero, suc, ◌+◌, ◌-◌, ◌<◌, Bool, true, false, cond, ◌||◌, nat_lt, List, [], ◌∷◌, ◌++◌, length}
use Rattle.flat_world.proofs.Cited.{drop, Option, Some, None, eqb, refl, sym, ap, ◌∙◌, arith, at_drop_more, Answer, PortCall, End}
use Rattle.flat_world.proofs.Cited.{MessageView, TargetState, state_table, feed, has_heard, Listener, Said, TalkTold, AllTold, silence, say}
use Rattle.flat_world.proofs.Cited.{with_byte, told, is_empty, is_good, with_read, talk_all, is_it, FlatListener, flat_start, to_named}
use Rattle.flat_world.proofs.Cited.{answer_of, feed-same, once, once_listener, behind_start, puts, gets, all_of}
use Rattle.std.proofs.Common.{append-nil, append_assoc}
use Rattle.i2c_base.specs.declared.event.Answer.TheVariants as answer
use Rattle.i2c_base.specs.declared.event.Event.TheVariants as event
use Rattle.i2c_base.specs.declared.port.PortCall.TheVariants as call
use Rattle.i2c_base.specs.declared.entry.End.TheVariants as end
use Rattle.i2c_spec.specs.Conversation as spec
use Rattle.i2c_spec.specs.Flat.{flat_listener, acknowledged, put_named}
use Rattle.flat_world.specs.Devices.{add_once, once_each, started}
use Rattle.flat_world.specs.Sending.{Ended, with_got, failed, ended, gets_one_more, gets_by_count, gets_counted, moved, by_answer, sent}
use Rattle.flat_world.proofs.NamedLemmas.{is_member-once}
use Rattle.i2c_spec.proofs.MessageLemmas.{IsLater}

module _ {W V : Type 0} (l : Listener W) (k : Listener V) (h : W → V) (cut : Option ℕ)
    (after : (w : W) (c : PortCall) → IsLater c → k.after (h w) c ≡ h (l.after w c))
    (takes : (w : W) (byte : ℕ) → k.takes (h w) byte ≡ l.takes w byte)
    (gives : (w : W) → k.gives (h w) ≡ l.gives w) where
  -- how a message ended, and all that was read behind these bytes
  abbrev shown : TalkTold W → Ended V
  shown t = record { now = h t.now; end = t.end }

  abbrev read : List ℕ → TalkTold W → AllTold V
  read before t = record { bytes = before ++ t.bytes; now = h t.now; end = t.end }

  failed_is : (t : Said W) (n : ℕ) → n ≡ length t.calls
      → failed k n (h t.now) ≡ shown (told (say l t call.Fault) (end.Cut (length t.calls)))
  failed_is t n e = ap (λ v. record { now = v; end = end.Cut n }) (after t.now call.Fault tt)
      ∙ ap (λ i. record { now = h (l.after t.now call.Fault); end = end.Cut i }) e

  by_place : (t : Said W) (n : ℕ) (c : PortCall) (next : Ended V) (then : TalkTold W) → n ≡ length t.calls → next ≡ shown then
      → cond (is_it cut n) (failed k n (h t.now)) next ≡ shown
      (cond (is_it cut (length t.calls)) (told (say l t call.Fault) (end.Cut (length t.calls))) then)
  by_place t n c next then e same =
      ap (λ i. cond (is_it cut i) (failed k n (h t.now)) next) e ∙ by (is_it cut (length t.calls))
    where
      by : (b : Bool) → cond b (failed k n (h t.now)) next ≡ shown (cond b (told (say l t call.Fault) (end.Cut (length t.calls))) then)
      by true = failed_is t n e
      by false = same

  ended_is : (stops : Bool) (t : Said W) (e : End) (n : ℕ) → n ≡ length t.calls
      → ended k cut n stops (h t.now) e ≡ shown (spec.ended l cut stops t e)
  ended_is false t e n at = refl
  ended_is true t e n at =
      by_place t n call.Stop (record { now = k.after (h t.now) call.Stop; end = e }) (told (say l t call.Stop) e) at
      (ap (λ v. record { now = v; end = e }) (after t.now call.Stop tt))

  one_put : (last : Bool) (bs : List ℕ) (next after : Said W) (n : ℕ) (p : Bool) → next.now ≡ after.now → n ≡ length next.calls
      → puts k cut last bs n (h after.now) ≡ shown (spec.puts l cut last bs after)
      → cond p (puts k cut last bs n (h next.now)) (ended k cut n true (h next.now) end.Refused) ≡ shown
      (cond p (spec.puts l cut last bs after) (spec.ended l cut true next end.Refused))
  one_put last bs next after n true same at rest = ap (λ w. puts k cut last bs n (h w)) same ∙ rest
  one_put last bs next after n false same at rest = ended_is true next end.Refused n at

  puts_is : (last : Bool) (bytes : List ℕ) (t : Said W) (n : ℕ) → n ≡ length t.calls
      → puts k cut last bytes n (h t.now) ≡ shown (spec.puts l cut last bytes t)
  puts_is last [] t n at = ended_is last t end.Ok n at
  puts_is last (b ∷ bs) t n at =
      let next = say l t (call.Put b) in
      let later : n + 1 ≡ length next.calls = omega (arith, at) in
      by_place t n (call.Put b) _ _ at
      (ap (λ p. cond p (puts k cut last bs (n + 1) (k.after (h t.now) (call.Put b)))
      (ended k cut (n + 1) true (k.after (h t.now) (call.Put b)) end.Refused)) (takes t.now b)
      ∙ ap (λ v. cond (l.takes t.now b) (puts k cut last bs (n + 1) v) (ended k cut (n + 1) true v end.Refused))
      (after t.now (call.Put b) tt)
      ∙ one_put last bs next (with_byte next b) (n + 1) (l.takes t.now b) refl later (puts_is last bs (with_byte next b) (n + 1) later))

  module _ (before : List ℕ) where
    read_by : (t : Said W) (n : ℕ) (next : AllTold V) (then : TalkTold W) → n ≡ length t.calls → next ≡ read before then
        → cond (is_it cut n) (with_got (before ++ t.bytes) (failed k n (h t.now))) next ≡ read before
        (cond (is_it cut (length t.calls)) (told (say l t call.Fault) (end.Cut (length t.calls))) then)
    read_by t n next then e same =
        ap (λ i. cond (is_it cut i) (with_got (before ++ t.bytes) (failed k n (h t.now))) next) e ∙ by (is_it cut (length t.calls))
      where
        by : (b : Bool) → cond b (with_got (before ++ t.bytes) (failed k n (h t.now))) next ≡ read before
            (cond b (told (say l t call.Fault) (end.Cut (length t.calls))) then)
        by true = ap (with_got (before ++ t.bytes)) (failed_is t n e)
        by false = same

    -- an end reads nothing more
    ended_bytes : (stops : Bool) (t : Said W) (e : End) → (spec.ended l cut stops t e).bytes ≡ t.bytes
    ended_bytes false t e = refl
    ended_bytes true t e = by (is_it cut (length t.calls))
      where
        by : (b : Bool) → (cond b (told (say l t call.Fault) (end.Cut (length t.calls))) (told (say l t call.Stop) e)).bytes ≡ t.bytes
        by true = refl
        by false = refl

    read_ended : (stops : Bool) (t : Said W) (e : End) (n : ℕ) → n ≡ length t.calls
        → with_got (before ++ t.bytes) (ended k cut n stops (h t.now) e) ≡ read before (spec.ended l cut stops t e)
    read_ended stops t e n at =
        ap (with_got (before ++ t.bytes)) (ended_is stops t e n at)
        ∙ ap (λ (bs : List ℕ). with_got (before ++ bs) (shown (spec.ended l cut stops t e))) (sym (ended_bytes stops t e))

    more : (t : Said W) (byte : ℕ) → (before ++ t.bytes) ++ byte ∷ [] ≡ before ++ (with_byte t byte).bytes
    more t byte = append_assoc before t.bytes (byte ∷ [])

    gets_is : (last : Bool) (m : ℕ) (t : Said W) (n : ℕ) → n ≡ length t.calls
        → gets k cut last m n (before ++ t.bytes) (h t.now) ≡ read before (spec.gets l cut last m t)
    gets_is last zero t n at = read_ended last t end.Ok n at
    gets_is last (suc m) t n at =
        let next = say l t (call.Get (nat_lt 0 m)) in
        read_by t n _ _ at
        (ap (λ byte. gets k cut last m (n + 1) ((before ++ t.bytes) ++ byte ∷ []) (k.after (h t.now) (call.Get (nat_lt 0 m)))) (gives t.now)
        ∙ ap (λ v. gets k cut last m (n + 1) ((before ++ t.bytes) ++ l.gives t.now ∷ []) v) (after t.now (call.Get (nat_lt 0 m)) tt)
        ∙ ap (λ bs. gets k cut last m (n + 1) bs (h next.now)) (more t (l.gives t.now))
        ∙ gets_is last m (with_byte next (l.gives t.now)) (n + 1) (omega (arith, at)))

    one_more_is : (t : Said W) → 2 ≡ length t.calls
        → gets_one_more k cut (before ++ t.bytes) (h t.now)
        ≡ read before (spec.call_then l cut t (call.Get false) (λ u. spec.ended l cut true (with_byte u (l.gives t.now)) end.Proto))
    one_more_is t at =
        let next = say l t (call.Get false) in
        read_by t 2 _ _ at
        (ap (λ byte. with_got ((before ++ t.bytes) ++ byte ∷ []) (ended k cut 3 true (k.after (h t.now) (call.Get false)) end.Proto))
        (gives t.now)
        ∙ ap (λ v. with_got ((before ++ t.bytes) ++ l.gives t.now ∷ []) (ended k cut 3 true v end.Proto)) (after t.now (call.Get false) tt)
        ∙ ap (λ bs. with_got bs (ended k cut 3 true (h next.now) end.Proto)) (more t (l.gives t.now))
        ∙ read_ended true (with_byte next (l.gives t.now)) end.Proto 3 (omega (arith, at)))

    counted_is : (last : Bool) (limit len : ℕ) (t : Said W) → 1 ≡ length t.calls
        → gets_counted k cut last limit len (before ++ t.bytes) (h t.now) ≡ read before (spec.gets_counted l cut last limit len t)
    counted_is last limit len t at =
        read_by t 1 _ _ at
        (ap (λ c. gets_by_count k cut last limit len c ((before ++ t.bytes) ++ c ∷ []) (k.after (h t.now) (call.Get true))) (gives t.now)
        ∙ ap (λ v. gets_by_count k cut last limit len count ((before ++ t.bytes) ++ count ∷ []) v) (after t.now (call.Get true) tt)
        ∙ ap (λ bs. gets_by_count k cut last limit len count bs (h next.now)) (more t count)
        ∙ by (eqb count 0 || nat_lt limit count))
      where
        count : ℕ
        count = l.gives t.now

        next : Said W
        next = say l t (call.Get true)

        by : (p : Bool) → cond p (gets_one_more k cut (before ++ (with_byte next count).bytes) (h next.now))
            (gets k cut last (count + len - 1) 2 (before ++ (with_byte next count).bytes) (h next.now))
            ≡ read before (cond p (spec.call_then l cut (with_byte next count) (call.Get false)
            (λ u. spec.ended l cut true (with_byte u (l.gives next.now)) end.Proto))
            (spec.gets l cut last (count + len - 1) (with_byte next count)))
        by true = one_more_is (with_byte next count) (omega (arith, at))
        by false = gets_is last (count + len - 1) (with_byte next count) 2 (omega (arith, at))

    -- a message after its start
    abbrev heard : MessageView → TalkTold W → AllTold V
    heard m t = record { bytes = with_read before m t; now = h t.now; end = t.end }

    module _ (last : Bool) (limit : ℕ) (t : Said W) (at : 1 ≡ length t.calls) (none : t.bytes ≡ []) where
      nothing : before ++ t.bytes ≡ before
      nothing = ap (λ bs. before ++ bs) none ∙ append-nil before

      moved_is : (reading counted : Bool) (addr len : ℕ) (bytes : List ℕ)
          → moved k cut last limit (record { addr = addr; reading = reading; counted = counted; len = len; bytes = bytes }) before
          (h t.now)
          ≡ heard (record { addr = addr; reading = reading; counted = counted; len = len; bytes = bytes })
          (spec.data_of l cut last limit
          (record { addr = addr; reading = reading; counted = counted; len = len; bytes = bytes }) t)
      moved_is false counted addr len bytes = ap (with_got before) (puts_is last bytes t 1 at)
      moved_is true true addr len bytes =
          ap (λ bs. gets_counted k cut last limit len bs (h t.now)) (sym nothing) ∙ counted_is last limit len t at
      moved_is true false addr len bytes = ap (λ bs. gets k cut last len 1 bs (h t.now)) (sym nothing) ∙ gets_is last len t 1 at

      over_is : (m : MessageView) (e : End) → with_got before (ended k cut 1 true (h t.now) e) ≡ heard m (spec.ended l cut true t e)
      over_is m e = by m.reading
        where
          by : (reading : Bool) → with_got before (ended k cut 1 true (h t.now) e)
              ≡ record {
                bytes = cond reading (before ++ (spec.ended l cut true t e).bytes) before;
                now = h (spec.ended l cut true t e).now;
                end = (spec.ended l cut true t e).end;
              }
          by true = ap (λ bs. with_got bs (ended k cut 1 true (h t.now) e)) (sym nothing) ∙ read_ended true t e 1 at
          by false = ap (with_got before) (ended_is true t e 1 at)

      by_answer_is : (m : MessageView) (a : Answer)
          → by_answer k cut last limit m a before (h t.now) ≡ heard m (spec.by_answer l cut last limit m a t)
      by_answer_is m answer.Ack = moved_is m.reading m.counted m.addr m.len m.bytes
      by_answer_is m answer.Slow = over_is m end.Slow
      by_answer_is m answer.Nack = over_is m end.Nack
      by_answer_is m (answer.Byte byte) = over_is m end.Nack
      by_answer_is m answer.Nothing = over_is m end.Nack

-- a message whose next call fails, in the middle of its bytes
cut_first : {V : Type 0} (b : Bool) (x y : V) → b ≡ true → cond b x y ≡ x
cut_first b x y e = ap (λ test. cond test x y) e

pub puts_cut : {V : Type 0} (l : Listener V) (cut : Option ℕ) (last : Bool) (bytes : List ℕ) (i calls : ℕ) (v : V) → i < length bytes
    → is_it cut calls ≡ true
    → puts l cut last (drop i bytes) calls v ≡ failed l calls v
puts_cut l cut last bytes i calls v within here =
    at_drop_more (λ bs. puts l cut last bs calls v) bytes i 0 within ∙ cut_first (is_it cut calls) (failed l calls v) _ here

-- a transfer so far, or at its end, as h shows it
abbrev shown_all : (FlatListener → FlatListener) → AllTold FlatListener → AllTold FlatListener
shown_all h a = record { bytes = a.bytes; now = h a.now; end = a.end }

-- one message
module _ (granted : ℕ → Option ℕ) (l : Listener FlatListener) (h : FlatListener → FlatListener)
    (after : (f : FlatListener) (c : PortCall) → IsLater c → behind_start.after (h f) c ≡ h (l.after f c))
    (takes : (f : FlatListener) (byte : ℕ) → behind_start.takes (h f) byte ≡ l.takes f byte)
    (gives : (f : FlatListener) → behind_start.gives (h f) ≡ l.gives f)
    (starts : (f : FlatListener) (a : ℕ) (reading : Bool) → started (granted a) reading (h f) ≡ h (l.after f (call.Start a reading)))
    (answers : (f : FlatListener) (a : ℕ) (reading : Bool)
    → acknowledged (answer_of (h f).states (granted a) (event.Start reading)) ≡ l.answer f a reading) where
  sent_is : (cut : Option ℕ) (last : Bool) (limit : ℕ) (m : MessageView) (before : List ℕ) (f : FlatListener)
      → sent (granted m.addr) cut last limit m before (h f) ≡ shown_all h (all_of before m (spec.talk l limit f m last cut))
  sent_is cut last limit m before f =
      ap (λ (v : FlatListener). cond (is_it cut 0) (record { bytes = before; now = v; end = end.Cut 0 })
      (by_answer behind_start cut last limit m (acknowledged (answer_of (h f).states (granted m.addr) (event.Start m.reading))) before
      (started (granted m.addr) m.reading (h f)))) (after f call.Fault tt)
      ∙ by (is_it cut 0)
    where
      t : Said FlatListener
      t = say l (silence f) (call.Start m.addr m.reading)

      nothing : (reading : Bool) → before ≡ cond reading (before ++ []) before
      nothing true = sym (append-nil before)
      nothing false = refl

      by : (b : Bool) → cond b (record { bytes = before; now = h (l.after f call.Fault); end = end.Cut 0 })
          (by_answer behind_start cut last limit m (acknowledged (answer_of (h f).states (granted m.addr) (event.Start m.reading))) before
          (started (granted m.addr) m.reading (h f)))
          ≡ shown_all h (all_of before m
          (cond b (told (say l (silence f) call.Fault) (end.Cut 0))
          (spec.by_answer l cut last limit m (l.answer f m.addr m.reading) t)))
      by true = ap (λ (bs : List ℕ). record { bytes = bs; now = h (l.after f call.Fault); end = end.Cut 0 }) (nothing m.reading)
      by false =
          ap (λ (v : FlatListener). by_answer behind_start cut last limit m
          (acknowledged (answer_of (h f).states (granted m.addr) (event.Start m.reading))) before v) (starts f m.addr m.reading)
          ∙ ap (λ a. by_answer behind_start cut last limit m a before (h t.now)) (answers f m.addr m.reading)
          ∙ by_answer_is l behind_start h cut after takes gives before last limit t refl refl m (l.answer f m.addr m.reading)

-- a message over devices that list each that was named once
pub sent-once : (granted : ℕ → Option ℕ) (cut : Option ℕ) (last : Bool) (limit : ℕ) (m : MessageView) (before : List ℕ) (f : FlatListener)
    → sent (granted m.addr) cut last limit m before f ≡ all_of before m (spec.talk (once_listener granted) limit f m last cut)
sent-once granted = sent_is granted (once_listener granted) (λ f. f) same (λ f byte. refl) (λ f. refl) (λ f a reading. refl)
    (λ f a reading. refl)
  where
    same : (f : FlatListener) (c : PortCall) → IsLater c → behind_start.after f c ≡ (once_listener granted).after f c
    same f (call.Start a reading) follows = absurd follows
    same f (call.Line m level) follows = absurd follows
    same f (call.Put byte) follows = refl
    same f (call.Get ack) follows = refl
    same f call.Stop follows = refl
    same f call.Fault follows = refl

pub as_sent : (granted : ℕ → Option ℕ) (g cut place : Option ℕ) (last : Bool) (n limit : ℕ) (message m : MessageView) (before : List ℕ)
    (f : FlatListener) (all : AllTold FlatListener)
    → g ≡ granted m.addr → cut ≡ place → n ≡ limit → message ≡ m → all ≡ sent g cut last n message before f
    → all ≡ all_of before m (spec.talk (once_listener granted) limit f m last place)
as_sent granted g cut place last n limit message m before f all leads at most same told =
    told ∙ ap (λ x. sent g cut last n x before f) same ∙ ap (λ k. sent g cut last k m before f) most
    ∙ ap (λ k. sent g k last limit m before f) at ∙ ap (λ o. sent o place last limit m before f) leads
    ∙ sent-once granted place last limit m before f

-- and over those of the flat world
named_alike : (granted : Option ℕ) (f : FlatListener) (reading : Bool) (k : ℕ)
    → flat_start granted f.named reading k ≡ flat_start granted (once f.named) reading k
named_alike granted f reading k = ap (λ b. cond (is_it granted k) (Some (event.Start reading)) (cond b (Some event.Other) None))
    (sym (is_member-once k f.named))

stop_alike : (f : FlatListener)
    → feed state_table (to_named (once f.named) event.Stop) 0 f.states ≡ feed state_table (to_named f.named event.Stop) 0 f.states
stop_alike f =
    feed-same state_table (to_named f.named event.Stop) (to_named (once f.named) event.Stop) 0 f.states
    (λ k low high. ap (λ b. cond b (Some event.Stop) None) (is_member-once k f.named))

put_alike : (granted : Option ℕ) (ds : List ℕ) → add_once granted (once ds) ≡ once (put_named granted ds)
put_alike None ds = refl
put_alike (Some d) ds = refl

module _ (granted : ℕ → Option ℕ) where
  shown_after : (f : FlatListener) (c : PortCall) → IsLater c
      → behind_start.after (once_each f) c ≡ once_each ((flat_listener granted).after f c)
  shown_after f (call.Start a reading) follows = absurd follows
  shown_after f (call.Line m level) follows = absurd follows
  shown_after f (call.Put byte) follows = refl
  shown_after f (call.Get ack) follows = refl
  shown_after f call.Stop follows = ap (λ (xs : List TargetState). record { states = xs; named = []; current = None }) (stop_alike f)
  shown_after f call.Fault follows = ap (λ (xs : List TargetState). record { states = xs; named = []; current = None }) (stop_alike f)

  shown_start : (f : FlatListener) (a : ℕ) (reading : Bool)
      → started (granted a) reading (once_each f) ≡ once_each ((flat_listener granted).after f (call.Start a reading))
  shown_start f a reading =
      let heard : Option ℕ = cond (has_heard (answer_of f.states (granted a) (event.Start reading))) (granted a) None in
      ap (λ (xs : List TargetState). record { states = xs; named = add_once (granted a) (once f.named); current = heard })
      (feed-same state_table (flat_start (granted a) f.named reading) (flat_start (granted a) (once f.named) reading) 0 f.states
      (λ k low high. sym (named_alike (granted a) f reading k)))
      ∙ ap (λ (ds : List ℕ). record {
        states = feed state_table (flat_start (granted a) f.named reading) 0 f.states;
        named = ds;
        current = heard;
      }) (put_alike (granted a) f.named)

-- with this block limit
module _ (granted : ℕ → Option ℕ) (limit : ℕ) where
  message_alike : (cut : Option ℕ) (last : Bool) (m : MessageView) (before : List ℕ) (f : FlatListener)
      → all_of before m (spec.talk (once_listener granted) limit (once_each f) m last cut) ≡ shown_all once_each
      (all_of before m (spec.talk (flat_listener granted) limit f m last cut))
  message_alike cut last m before f =
      sym (sent-once granted cut last limit m before (once_each f))
      ∙ sent_is granted (flat_listener granted) once_each (shown_after granted) (λ f byte. refl) (λ f. refl) (shown_start granted)
      (λ f a reading. refl) cut last limit m before f

  goes_on : (ms : List MessageView) (i : ℕ) (cuts : ℕ → Option ℕ) (said : AllTold FlatListener) (b : Bool)
      → talk_all (once_listener granted) limit (once_each said.now) ms i cuts said.bytes ≡ shown_all once_each
      (talk_all (flat_listener granted) limit said.now ms i cuts said.bytes)
      → cond b (talk_all (once_listener granted) limit (once_each said.now) ms i cuts said.bytes) (shown_all once_each said)
      ≡ shown_all once_each (cond b (talk_all (flat_listener granted) limit said.now ms i cuts said.bytes) said)
  goes_on ms i cuts said true rest = rest
  goes_on ms i cuts said false rest = refl

  pub talk_all-once : (f : FlatListener) (ms : List MessageView) (i : ℕ) (cuts : ℕ → Option ℕ) (got : List ℕ)
      → talk_all (once_listener granted) limit (once_each f) ms i cuts got ≡ shown_all once_each
      (talk_all (flat_listener granted) limit f ms i cuts got)
  talk_all-once f [] i cuts got = refl
  talk_all-once f (m ∷ ms) i cuts got =
      let said = all_of got m (spec.talk (flat_listener granted) limit f m (is_empty ms) (cuts i)) in
      ap (λ (a : AllTold FlatListener). cond (is_good a.end) (talk_all (once_listener granted) limit a.now ms (i + 1) cuts a.bytes) a)
      (message_alike (cuts i) (is_empty ms) m got f)
      ∙ goes_on ms (i + 1) cuts said (is_good said.end) (talk_all-once said.now ms (i + 1) cuts said.bytes)
