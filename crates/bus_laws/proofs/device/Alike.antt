-- Transfers over two listeners that answer alike, as two flat worlds that have the same devices where a transfer may go; and
-- a device that no message is granted. The inductions go over the messages.
use Rattle.bus_laws.proofs.Cited.{◌≡◌, ℕ, ◌+◌, Bool, true, false, cond, List, [], ◌∷◌, ◌++◌, Option, Some, None, refl, ◌∙◌, ap, slice_get}
use Rattle.bus_laws.proofs.Cited.{AllByRecursion, option_map_or, Event, Answer, PortCall, TargetState, state_table, state_answer}
use Rattle.bus_laws.proofs.Cited.{MessageView, feed, has_heard, is_ack, FlatListener, put_named, flat_start, to_current, to_named}
use Rattle.bus_laws.proofs.Cited.{answer_of, flat_after, flat_listener, Listener, TalkTold, is_it, talk, IsFollowing, ToldAlike}
use Rattle.i2c_base.specs.declared.event.Event.TheVariants as event
use Rattle.i2c_base.specs.declared.event.Answer.TheVariants as answer
use Rattle.i2c_base.specs.declared.port.PortCall.TheVariants as call
use Rattle.i2c_base.specs.Table.{byte_of}
use Rattle.i2c_spec.specs.Flat.{acknowledged}
use Rattle.i2c_spec.specs.Conversation.{AllTold, talk_all, is_empty, is_good, with_read}
use Rattle.bus_laws.specs.Alike.{IsUnnamed}
use Rattle.bus_laws.proofs.device.Talk.{talk-alike}
use Rattle.bus_laws.proofs.device.Hears.{fed_alike}
use Rattle.bus_laws.proofs.device.Stay.{talk-unnamed}

-- TRANSFERS ALIKE
pub record AllAlike {W V : Type 0} (R : W → V → Type 0) (x : AllTold W) (y : AllTold V) : Type 0 where
  pub bytes : x.bytes ≡ y.bytes
  pub end : x.end ≡ y.end
  pub now : R x.now y.now

module _ {W V : Type 0} (R : W → V → Type 0) where
  pub cond-all : (p q : Bool) (x y : AllTold W) (x2 y2 : AllTold V) → p ≡ q → AllAlike R x x2 → AllAlike R y y2
      → AllAlike R (cond p x y) (cond q x2 y2)
  cond-all true true x y x2 y2 e hx hy = hx
  cond-all false false x y x2 y2 e hx hy = hy
  cond-all true false x y x2 y2 e hx hy = absurd (cc)
  cond-all false true x y x2 y2 e hx hy = absurd (cc)

pub read-alike : {W V : Type 0} (m : MessageView) (got more : List ℕ) (t : TalkTold W) (u : TalkTold V) → got ≡ more → t.bytes ≡ u.bytes
    → with_read got m t ≡ with_read more m u
read-alike m got more t u e same =
    ap (λ (xs : List ℕ). cond m.reading (xs ++ t.bytes) xs) e ∙ ap (λ (ys : List ℕ). cond m.reading (more ++ ys) more) same

module _ {W V : Type 0} (l : Listener W) (k : Listener V) (limit : ℕ) (R : W → V → Type 0) (Good : MessageView → Type 0)
    (each : (w : W) (v : V) (m : MessageView) (last : Bool) (cut : Option ℕ) → Good m → R w v
    → ToldAlike R (talk l limit w m last cut) (talk k limit v m last cut)) where
  pub all-alike : (w : W) (v : V) (ms : List MessageView) (i : ℕ) (cuts : ℕ → Option ℕ) (got more : List ℕ) → AllByRecursion Good ms
      → got ≡ more → R w v → AllAlike R (talk_all l limit w ms i cuts got) (talk_all k limit v ms i cuts more)
  all-alike w v [] i cuts got more good e s = record { bytes = e; end = refl; now = s }
  all-alike w v (m ∷ ms) i cuts got more good e s =
      let t : TalkTold W = talk l limit w m (is_empty ms) (cuts i) in
      let u : TalkTold V = talk k limit v m (is_empty ms) (cuts i) in
      let alike : ToldAlike R t u = each w v m (is_empty ms) (cuts i) good.0 s in
      let read : with_read got m t ≡ with_read more m u = read-alike m got more t u e alike.bytes in
      cond-all R (is_good t.end) (is_good u.end)
      (talk_all l limit t.now ms (i + 1) cuts (with_read got m t))
      (record { bytes = with_read got m t; now = t.now; end = t.end })
      (talk_all k limit u.now ms (i + 1) cuts (with_read more m u))
      (record { bytes = with_read more m u; now = u.now; end = u.end })
      (ap (λ z. is_good z) alike.end)
      (all-alike t.now u.now ms (i + 1) cuts (with_read got m t) (with_read more m u) good.1 read alike.now)
      (record { bytes = read; end = alike.end; now = alike.now })

abbrev pub Any : {X : Type 0} → X → Type 0
Any x = Unit {0}

pub all-any : {X : Type 0} (xs : List X) → AllByRecursion (λ (x : X). Any x) xs
all-any [] = tt
all-any (x ∷ xs) = (tt, all-any xs)

-- TWO FLAT WORLDS
-- they have the same devices where a transfer may go
pub record FlatAlike (Own : ℕ → Type 0) (f g : FlatListener) : Type 0 where
  pub states : (d : ℕ) → Own d → slice_get f.states d ≡ slice_get g.states d
  pub named : f.named ≡ g.named
  pub current : f.current ≡ g.current
  pub own : (d : ℕ) → f.current ≡ Some d → Own d

module _ (Own : ℕ → Type 0) (granted : ℕ → Option ℕ) where
  -- the device that a message is granted is one of them
  abbrev pub GrantsOwn : MessageView → Type 0
  GrantsOwn m = (d : ℕ) → granted m.addr ≡ Some d → Own d

  answer_alike : (f g : FlatListener) (o : Option ℕ) (e : Event) → ((d : ℕ) → Own d → slice_get f.states d ≡ slice_get g.states d)
      → ((d : ℕ) → o ≡ Some d → Own d)
      → answer_of f.states o e ≡ answer_of g.states o e
  answer_alike f g None e states own = refl
  answer_alike f g (Some k) e states own = ap
      (λ (x : Option TargetState). option_map_or (λ (z : TargetState). state_answer z e) x answer.Nothing) (states k (own k refl))

  current_alike : (f g : FlatListener) (e : Event) → FlatAlike Own f g → answer_of f.states f.current e ≡ answer_of g.states g.current e
  current_alike f g e s = answer_alike f g f.current e s.states s.own ∙ ap (λ (o : Option ℕ). answer_of g.states o e) s.current

  started_own : (h : Bool) (a d : ℕ) → ((k : ℕ) → granted a ≡ Some k → Own k) → cond h (granted a) None ≡ Some d → Own d
  started_own true a d own e = own d e
  started_own false a d own e = absurd (let f : None ≡ Some d = e in cc)

  sent_alike : (f g : FlatListener) (e : Event) → FlatAlike Own f g
      → FlatAlike Own (record f { states = feed state_table (to_current f.current e) 0 f.states })
      (record g { states = feed state_table (to_current g.current e) 0 g.states })
  sent_alike f g e s =
      record {
        states = λ d own. fed_alike (to_current f.current e) (to_current g.current e) f.states g.states d (s.states d own)
            (ap (λ (o : Option ℕ). to_current o e d) s.current);
        named = s.named;
        current = s.current;
        own = s.own;
      }

  stopped_alike : (f g : FlatListener) → FlatAlike Own f g → FlatAlike Own (flat_after granted f call.Stop) (flat_after granted g call.Stop)
  stopped_alike f g s =
      record {
        states = λ d own. fed_alike (to_named f.named event.Stop) (to_named g.named event.Stop) f.states g.states d (s.states d own)
            (ap (λ (ds : List ℕ). to_named ds event.Stop d) s.named);
        named = refl;
        current = refl;
        own = λ d e. absurd (let z : None ≡ Some d = e in cc);
      }

  following_alike : (f g : FlatListener) (c : PortCall) → IsFollowing Any c → FlatAlike Own f g
      → FlatAlike Own (flat_after granted f c) (flat_after granted g c)
  following_alike f g (call.Start a reading) fit s = absurd fit
  following_alike f g (call.Line m level) fit s = absurd fit
  following_alike f g (call.Put byte) fit s = sent_alike f g (event.Put byte) s
  following_alike f g (call.Get ack) fit s = sent_alike f g (event.Get ack) s
  following_alike f g call.Stop fit s = stopped_alike f g s
  following_alike f g call.Fault fit s = stopped_alike f g s

  pub flat_talk-alike : (limit : ℕ) (f g : FlatListener) (m : MessageView) (last : Bool) (cut : Option ℕ) → GrantsOwn m → FlatAlike Own f g
      → ToldAlike (FlatAlike Own) (talk (flat_listener granted) limit f m last cut) (talk (flat_listener granted) limit g m last cut)
  flat_talk-alike limit f g m last cut own s =
      talk-alike (flat_listener granted) (flat_listener granted) (FlatAlike Own) Any following_alike
      (λ u v byte same. ap (λ (x : Answer). is_ack x) (current_alike u v (event.Put byte) same))
      (λ u v same. ap (λ (x : Answer). byte_of x) (current_alike u v (event.Get true) same))
      limit f g m last cut (all-any m.bytes) (stopped_alike f g s)
      (record {
        states = λ d mine. fed_alike (flat_start (granted m.addr) f.named m.reading) (flat_start
            (granted m.addr) g.named m.reading) f.states
            g.states d (s.states d mine)
            (ap (λ (ds : List ℕ). flat_start (granted m.addr) ds m.reading d) s.named);
        named = ap (λ (ds : List ℕ). put_named (granted m.addr) ds) s.named;
        current = ap (λ (x : Answer). cond (has_heard x) (granted m.addr) None) start;
        own = λ d e. started_own (has_heard (answer_of f.states (granted m.addr) (event.Start m.reading))) m.addr d own e;
      })
      (ap (λ (x : Answer). acknowledged x) start)
    where
      start : answer_of f.states (granted m.addr) (event.Start m.reading) ≡ answer_of g.states (granted m.addr) (event.Start m.reading)
      start = answer_alike f g (granted m.addr) (event.Start m.reading) s.states own

-- A DEVICE THAT ISN'T GRANTED
module _ (granted : ℕ → Option ℕ) (limit d : ℕ) (o : Option TargetState) where
  abbrev pub GrantsOther : MessageView → Type 0
  GrantsOther m = is_it (granted m.addr) d ≡ false

  pub flat_all-unnamed : (f : FlatListener) (ms : List MessageView) (i : ℕ) (cuts : ℕ → Option ℕ) (got : List ℕ)
      → AllByRecursion GrantsOther ms → IsUnnamed d o f → IsUnnamed d o (talk_all (flat_listener granted) limit f ms i cuts got).now
  flat_all-unnamed f [] i cuts got other u = u
  flat_all-unnamed f (m ∷ ms) i cuts got other u =
      let t : TalkTold FlatListener = talk (flat_listener granted) limit f m (is_empty ms) (cuts i) in
      let left : IsUnnamed d o t.now = talk-unnamed d o granted limit f m (is_empty ms) (cuts i) other.0 u in
      by (is_good t.end) (talk_all (flat_listener granted) limit t.now ms (i + 1) cuts (with_read got m t))
      (record { bytes = with_read got m t; now = t.now; end = t.end })
      (flat_all-unnamed t.now ms (i + 1) cuts (with_read got m t) other.1 left) left
    where
      by : (z : Bool) (x y : AllTold FlatListener) → IsUnnamed d o x.now → IsUnnamed d o y.now → IsUnnamed d o (cond z x y).now
      by true x y hx hy = hx
      by false x y hx hy = hy
