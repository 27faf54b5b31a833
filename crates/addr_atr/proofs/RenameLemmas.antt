-- A message and its twin at another address, over flat worlds that grant the two addresses alike. The induction goes over the
-- messages.
use Rattle.addr_atr.proofs.Cited.{◌≡◌, ℕ, suc, ◌+◌, Bool, cond, List, [], ◌∷◌, ◌++◌, length, Option, refl, sym, ◌∙◌, ap, MessageView}
use Rattle.addr_atr.proofs.Cited.{FlatListener, flat_listener, TalkTold, AllTold, is_empty, is_good, with_read, talk, talk_all}
use Rattle.i2c_base.specs.declared.port.PortCall.{PortCall}
use Rattle.i2c_base.specs.declared.port.PortCall.TheVariants as call
use Rattle.i2c_base.specs.declared.entry.End.{End}
use Rattle.i2c_spec.specs.Flat.{flat_after}
use Rattle.i2c_spec.specs.Conversation.{Listener}
use Rattle.i2c_spec.proofs.MessageLemmas.{IsFollowing}
use Rattle.bus_laws.proofs.device.Alike.{Any, all-any}
use Rattle.bus_laws.proofs.device.Talk.{ToldBy, at_address, talk-readdressed}

-- as many calls, which is what a cut counts
abbrev AsMany : List PortCall → List PortCall → Type 0
AsMany cs ds = length cs ≡ length ds

-- told alike, but for the address in the first call
abbrev Told : TalkTold FlatListener → TalkTold FlatListener → Type 0
Told t u = ToldBy AsMany (λ w v. w ≡ v) t u

-- the same messages, each at the address that f gives
abbrev pub renamed : (ℕ → ℕ) → List MessageView → List MessageView
renamed f [] = []
renamed f (m ∷ ms) = at_address m (f m.addr) ∷ renamed f ms

renamed_empty : (f : ℕ → ℕ) (ms : List MessageView) → is_empty (renamed f ms) ≡ is_empty ms
renamed_empty f [] = refl
renamed_empty f (m ∷ ms) = refl

module _ (g h : ℕ → Option ℕ) where
  abbrev l : Listener FlatListener
  l = flat_listener g

  abbrev k : Listener FlatListener
  k = flat_listener h

  later : (w v : FlatListener) (c : PortCall) → IsFollowing Any c → w ≡ v → l.after w c ≡ k.after v c
  later w v (call.Start a reading) is e = absurd is
  later w v (call.Line m level) is e = absurd is
  later w v (call.Put byte) is e = ap (λ (f : FlatListener). flat_after g f (call.Put byte)) e
  later w v (call.Get ack) is e = ap (λ (f : FlatListener). flat_after g f (call.Get ack)) e
  later w v call.Stop is e = ap (λ (f : FlatListener). flat_after g f call.Stop) e
  later w v call.Fault is e = ap (λ (f : FlatListener). flat_after g f call.Fault) e

  started : (w : FlatListener) (m : MessageView) (a : ℕ) → g m.addr ≡ h a
      → l.after w (call.Start m.addr m.reading) ≡ k.after w (call.Start a m.reading)
  started w m a e =
      ap (λ (o : Option ℕ). flat_after (λ _. o) w (call.Start 0 m.reading)) e

  answered : (w : FlatListener) (m : MessageView) (a : ℕ) → g m.addr ≡ h a → l.answer w m.addr m.reading ≡ k.answer w a m.reading
  answered w m a e = ap (λ (o : Option ℕ). (flat_listener (λ _. o)).answer w 0 m.reading) e

  talk-renamed : (limit : ℕ) (w : FlatListener) (m : MessageView) (a : ℕ) (last : Bool) (cut : Option ℕ) → g m.addr ≡ h a
      → Told (talk l limit w m last cut) (talk k limit w (at_address m a) last cut)
  talk-renamed limit w m a last cut e =
      talk-readdressed l k (λ w v. w ≡ v) Any later (λ w v byte same. ap (λ (f : FlatListener). l.takes f byte) same)
      (λ w v same. ap (λ (f : FlatListener). l.gives f) same) AsMany (λ c cs ds many. ap suc many) (λ cs ds many. many)
      limit w w m a last cut (all-any m.bytes) refl (started w m a e) (answered w m a e) refl refl

  -- each message finds the same device at its own address and at the other
  abbrev pub AreGrantedAlike : (ℕ → ℕ) → List MessageView → Type 0
  AreGrantedAlike f [] = Unit {0}
  AreGrantedAlike f (m ∷ ms) = (g m.addr ≡ h (f m.addr)) × AreGrantedAlike f ms

  -- what is told after a message that ended so
  abbrev told_then : List ℕ → MessageView → End → FlatListener → List ℕ → AllTold FlatListener → AllTold FlatListener
  told_then got m e w bytes rest = cond (is_good e) rest (record { bytes = cond m.reading (got ++ bytes) got; now = w; end = e })

  pub all-renamed : (f : ℕ → ℕ) (limit : ℕ) (w : FlatListener) (ms : List MessageView) (i : ℕ) (cuts : ℕ → Option ℕ) (got : List ℕ)
      → AreGrantedAlike f ms → talk_all l limit w ms i cuts got ≡ talk_all k limit w (renamed f ms) i cuts got
  all-renamed f limit w [] i cuts got alike = refl
  all-renamed f limit w (m ∷ ms) i cuts got alike =
      let t : TalkTold FlatListener = talk l limit w m (is_empty ms) (cuts i) in
      let n : MessageView = at_address m (f m.addr) in
      let u : TalkTold FlatListener = talk k limit w n (is_empty ms) (cuts i) in
      let one : Told t u = talk-renamed limit w m (f m.addr) (is_empty ms) (cuts i) alike.0 in
      let more : FlatListener → List ℕ → AllTold FlatListener =
      λ v bytes. talk_all l limit v ms (i + 1) cuts (cond m.reading (got ++ bytes) got) in
      ap (λ (e : End). told_then got m e t.now t.bytes (more t.now t.bytes)) one.end
      ∙ ap (λ (v : FlatListener). told_then got m u.end v t.bytes (more v t.bytes)) one.now
      ∙ ap (λ (bytes : List ℕ). told_then got m u.end u.now bytes (more u.now bytes)) one.bytes
      ∙ ap (λ (rest : AllTold FlatListener). told_then got m u.end u.now u.bytes rest)
      (all-renamed f limit u.now ms (i + 1) cuts (with_read got n u) alike.1)
      ∙ ap (λ (last : Bool). told_then got n (talk k limit w n last (cuts i)).end (talk k limit w n last (cuts i)).now
      (talk k limit w n last (cuts i)).bytes
      (talk_all k limit (talk k limit w n last (cuts i)).now (renamed f ms) (i + 1) cuts (with_read got n
      (talk k limit w n last (cuts i)))))
      (sym (renamed_empty f ms))
