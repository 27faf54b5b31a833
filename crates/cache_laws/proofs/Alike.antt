-- Transfers over two flat worlds that have the same devices where a transfer may go, and over a flat world beside one sensor
-- that listens alone.
use Rattle.std.proofs.Common.{◌≡◌, ℕ, Bool, true, false, cond, ◌||◌, List, [], ◌∷◌, drop, Option, Some, None, refl, ◌∙◌, ap}
use Rattle.std.proofs.lemmas.Bool.{eq-eqb, or_parts}
use Rattle.std.specs.Prelude.{slice_get}
use Rattle.std.specs.List.{AllByRecursion, list_any}
use Rattle.std.specs.Option.{option_map, option_map_or}
use Rattle.i2c_base.specs.declared.event.Event.{Event}
use Rattle.i2c_base.specs.declared.event.Event.TheVariants as event
use Rattle.i2c_base.specs.declared.event.Answer.{Answer}
use Rattle.i2c_base.specs.declared.event.Answer.TheVariants as answer
use Rattle.i2c_base.specs.declared.port.PortCall.{PortCall}
use Rattle.i2c_base.specs.declared.port.PortCall.TheVariants as call
use Rattle.i2c_base.specs.declared.transfer.Msg.{Msg}
use Rattle.i2c_base.specs.Table.{byte_of}
use Rattle.i2c_base.specs.Transfer.{written_of}
use Rattle.i2c_spec.specs.Targets.Lm75Device.{Lm75View, lm75_after, lm75_answer}
use Rattle.i2c_spec.specs.Targets.{TargetState, Lm75, state_table, state_answer}
use Rattle.i2c_spec.specs.Messages.{MessageView, messages_from}
use Rattle.i2c_spec.specs.World.{given, feed, has_heard, is_ack}
use Rattle.i2c_spec.specs.Flat.{FlatListener, idle, is_member, put_named, flat_start, to_current, to_named, answer_of, acknowledged}
use Rattle.i2c_spec.specs.Flat.{flat_after, flat_listener}
use Rattle.i2c_spec.specs.Conversation.{is_it, talk, talk_all}
use Rattle.i2c_spec.proofs.MessageLemmas.{IsFollowing}
use Rattle.bus_laws.specs.Alike.{ToldAlike}
use Rattle.bus_laws.proofs.device.Alike.{AllAlike, Any, FlatAlike, GrantsOwn, all-alike, all-any, flat_all-unnamed, flat_talk-alike}
use Rattle.bus_laws.proofs.device.Talk.{talk-alike}
use Rattle.bus_laws.proofs.device.Hears.{fed-at}
use Rattle.cache_laws.proofs.One.{One, one_listener, one_after, one_answer}

-- TWO FLAT WORLDS
pub flat_all-alike : (Own : ℕ → Type 0) (granted : ℕ → Option ℕ) (limit : ℕ) (xs ys : List TargetState) (ms : List MessageView)
    (cuts : ℕ → Option ℕ) → AllByRecursion (GrantsOwn Own granted) ms → ((d : ℕ) → Own d → slice_get xs d ≡ slice_get ys d)
    → AllAlike (FlatAlike Own) (talk_all (flat_listener granted) limit (idle xs) ms 0 cuts [])
    (talk_all (flat_listener granted) limit (idle ys) ms 0 cuts [])
flat_all-alike Own granted limit xs ys ms cuts own same =
    all-alike (flat_listener granted) (flat_listener granted) limit (FlatAlike Own) (GrantsOwn Own granted)
    (flat_talk-alike Own granted limit) (idle xs) (idle ys) ms 0 cuts [] [] own refl
    (record { states = same; named = refl; current = refl; own = λ d e. absurd (let z : None ≡ Some d = e in cc) })

-- A DEVICE THAT ISN'T GRANTED
pub all-unnamed : (granted : ℕ → Option ℕ) (limit d : ℕ) (xs : List TargetState) (ms : List MessageView) (cuts : ℕ → Option ℕ)
    → AllByRecursion (λ (m : MessageView). is_it (granted m.addr) d ≡ false) ms
    → slice_get (talk_all (flat_listener granted) limit (idle xs) ms 0 cuts []).now.states d ≡ slice_get xs d
all-unnamed granted limit d xs ms cuts other =
    (flat_all-unnamed granted limit d (slice_get xs d) (idle xs) ms 0 cuts [] other (refl, refl, refl)).2

-- A FLAT WORLD BESIDE ONE SENSOR
pub record IsBeside (d : ℕ) (f : FlatListener) (w : One) : Type 0 where
  pub state : slice_get f.states d ≡ Some (Lm75 w.x)
  pub named : is_member d f.named ≡ w.named
  pub current : f.current ≡ cond w.heard (Some d) None

module _ (granted : ℕ → Option ℕ) (d : ℕ) where
  abbrev GrantsIt : MessageView → Type 0
  GrantsIt m = granted m.addr ≡ Some d

  fed : (f : ℕ → Option Event) (xs : List TargetState) (x : Lm75View) → slice_get xs d ≡ Some (Lm75 x)
      → slice_get (feed state_table f 0 xs) d ≡ Some (given state_table (f d) (Lm75 x))
  fed f xs x at = fed-at state_table f xs d ∙ ap (λ (o : Option TargetState). option_map (λ (z : TargetState). given state_table (f d) z) o)
      at

  by_heard : (h : Bool) (x : Lm75View) (e : Event)
      → given state_table (to_current (cond h (Some d) None) e d) (Lm75 x) ≡ Lm75 (cond h (lm75_after x e) x)
  by_heard true x e = ap (λ (t : Bool). given state_table (cond t (Some e) None) (Lm75 x)) (eq-eqb d d refl)
  by_heard false x e = refl

  by_named : (n : Bool) (x : Lm75View) (e : Event)
      → given state_table (cond n (Some e) None) (Lm75 x) ≡ Lm75 (cond n (lm75_after x e) x)
  by_named true x e = refl
  by_named false x e = refl

  sent_beside : (f : FlatListener) (w : One) (e : Event) → IsBeside d f w
      → IsBeside d (record f { states = feed state_table (to_current f.current e) 0 f.states })
      (record w { x = cond w.heard (lm75_after w.x e) w.x })
  sent_beside f w e s =
      record {
        state = fed (to_current f.current e) f.states w.x s.state
            ∙ ap (λ (o : Option ℕ). Some (given state_table (to_current o e d) (Lm75 w.x))) s.current ∙ ap Some (by_heard w.heard w.x e);
        named = s.named;
        current = s.current;
      }

  stopped_beside : (f : FlatListener) (w : One) → IsBeside d f w → IsBeside d (flat_after granted f call.Stop) (one_after w call.Stop)
  stopped_beside f w s =
      record {
        state = fed (to_named f.named event.Stop) f.states w.x s.state
            ∙ ap (λ (n : Bool). Some (given state_table (cond n (Some event.Stop) None) (Lm75 w.x))) s.named
            ∙ ap Some (by_named w.named w.x event.Stop);
        named = refl;
        current = refl;
      }

  following_beside : (f : FlatListener) (w : One) (c : PortCall) → IsFollowing Any c → IsBeside d f w
      → IsBeside d (flat_after granted f c) (one_after w c)
  following_beside f w (call.Start a reading) fit s = absurd fit
  following_beside f w (call.Line m level) fit s = absurd fit
  following_beside f w (call.Put byte) fit s = sent_beside f w (event.Put byte) s
  following_beside f w (call.Get ack) fit s = sent_beside f w (event.Get ack) s
  following_beside f w call.Stop fit s = stopped_beside f w s
  following_beside f w call.Fault fit s = stopped_beside f w s

  by_current : (h : Bool) (states : List TargetState) (x : Lm75View) (e : Event) → slice_get states d ≡ Some (Lm75 x)
      → answer_of states (cond h (Some d) None) e ≡ cond h (lm75_answer x e) answer.Nothing
  by_current true states x e at = ap (λ (o : Option TargetState). option_map_or (λ (z : TargetState). state_answer z e) o answer.Nothing) at
  by_current false states x e at = refl

  answer_beside : (f : FlatListener) (w : One) (e : Event) → IsBeside d f w → answer_of f.states f.current e ≡ one_answer w e
  answer_beside f w e s = ap (λ (o : Option ℕ). answer_of f.states o e) s.current ∙ by_current w.heard f.states w.x e s.state

  talk_beside : (limit : ℕ) (f : FlatListener) (w : One) (m : MessageView) (last : Bool) (cut : Option ℕ) → GrantsIt m → IsBeside d f w
      → ToldAlike (IsBeside d) (talk (flat_listener granted) limit f m last cut) (talk one_listener limit w m last cut)
  talk_beside limit f w m last cut it s =
      talk-alike (flat_listener granted) one_listener (IsBeside d) Any following_beside
      (λ u v byte same. ap (λ (x : Answer). is_ack x) (answer_beside u v (event.Put byte) same))
      (λ u v same. ap (λ (x : Answer). byte_of x) (answer_beside u v (event.Get true) same))
      limit f w m last cut (all-any m.bytes) (stopped_beside f w s)
      (record {
        state = fed (flat_start (granted m.addr) f.named m.reading) f.states w.x s.state
            ∙ ap (λ (o : Option ℕ). Some (given state_table (flat_start o f.named m.reading d) (Lm75 w.x))) it
            ∙ ap (λ (t : Bool). Some (given state_table (cond t (Some (event.Start m.reading))
            (cond (is_member d f.named) (Some event.Other) None))
            (Lm75 w.x))) (eq-eqb d d refl);
        named = ap (λ (o : Option ℕ). is_member d (put_named o f.named)) it
            ∙ ap (λ (t : Bool). t || is_member d f.named) (eq-eqb d d refl);
        current = ap (λ (x : Answer). cond (has_heard x) (granted m.addr) None) start ∙ it;
      })
      (ap (λ (x : Answer). acknowledged x) start)
    where
      start : answer_of f.states (granted m.addr) (event.Start m.reading) ≡ answer.Ack
      start = ap (λ (o : Option ℕ). answer_of f.states o (event.Start m.reading)) it
          ∙ ap (λ (o : Option TargetState). option_map_or (λ (z : TargetState). state_answer z (event.Start m.reading)) o answer.Nothing)
          s.state

  pub all-beside : (limit : ℕ) (xs : List TargetState) (x : Lm75View) (ms : List MessageView) (cuts : ℕ → Option ℕ)
      → AllByRecursion GrantsIt ms → slice_get xs d ≡ Some (Lm75 x)
      → AllAlike (IsBeside d) (talk_all (flat_listener granted) limit (idle xs) ms 0 cuts [])
      (talk_all one_listener limit (record { x = x; named = false; heard = false }) ms 0 cuts [])
  all-beside limit xs x ms cuts it at =
      all-alike (flat_listener granted) one_listener limit (IsBeside d) GrantsIt (talk_beside limit) (idle xs)
      (record { x = x; named = false; heard = false }) ms 0 cuts [] [] it refl
      (record { state = at; named = refl; current = refl })

-- THE MESSAGES OF A TRANSFER have the addresses of its own
pub all-messages : (P : ℕ → Type 0) (ms : List Msg) (out : List ℕ) → AllByRecursion (λ (m : Msg). P m.addr) ms
    → AllByRecursion (λ (m : MessageView). P m.addr) (messages_from ms out)
all-messages P [] out all = tt
all-messages P (m ∷ ms) out all = (all.0, all-messages P ms (drop (written_of m) out) all.1)

pub none-all : {X : Type 0} (test : X → Bool) (xs : List X) → list_any test xs ≡ false → AllByRecursion (λ (x : X). test x ≡ false) xs
none-all test [] e = tt
none-all test (x ∷ xs) e = ((or_parts (test x) (list_any test xs) e).0, none-all test xs (or_parts (test x) (list_any test xs) e).1)
