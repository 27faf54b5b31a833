-- What a control message does to the chips of its root: its own chip takes the byte, or is looked at, and every other
-- chip stays. No induction but those of `WorldFeed`.
use Rattle.bus_laws.proofs.Cited.{◌≡◌, ℕ, ◌+◌, ◌-◌, Bool, true, false, cond, ◌&&◌, ◌||◌, List, [], ◌∷◌, ◌++◌, Option, Some, None, eqb, refl}
use Rattle.bus_laws.proofs.Cited.{sym, ◌∙◌, ap, subst, ◌⊎◌, inl, inr, zero-add, slice_get, bit_and, list_all, option_map, option_map_or}
use Rattle.bus_laws.proofs.Cited.{eq-eqb, eqb_tells, Event, Answer, End, MuxKind, facts_of, Node, BoardView, Hop, hops, root_of}
use Rattle.bus_laws.proofs.Cited.{home_of_mux, addr_of_mux, MayJoin, IsTree, ChipView, chip_table, chip_sends, is_open, looked, taken}
use Rattle.bus_laws.proofs.Cited.{TargetState, state_table, MessageView, write_byte, read_byte, Said, TalkTold, world_listener, is_it}
use Rattle.bus_laws.proofs.Cited.{silence, say, told, ended, puts, gets, by_answer, talk, World, after, stopped, given, feed, answers}
use Rattle.bus_laws.proofs.Cited.{opens_hop, is_joined, has_chip, joins_chip, start_event, stop_event, chip_start, device_start, hearers}
use Rattle.bus_laws.proofs.Cited.{takes, gives, and_of, some_answer, is_ack, to_chips, to_devices}
use Rattle.i2c_base.specs.declared.event.Event.TheVariants as event
use Rattle.i2c_base.specs.declared.event.Answer.TheVariants as answer
use Rattle.i2c_base.specs.declared.port.PortCall.TheVariants as call
use Rattle.i2c_base.specs.declared.entry.End.TheVariants as end
use Rattle.i2c_base.specs.declared.ids.Node.TheVariants as node
use Rattle.i2c_spec.specs.Chips.{chip_after, chip_stopped as chip_stopped}
use Rattle.i2c_spec.specs.World.{sent_on, answer as world_answer}
use Rattle.bus_laws.proofs.world.Feed.{feed-get, feed-same, GivesOne, answers-none, answers-one, some_answer-append, some_answer-at}
use Rattle.bus_laws.proofs.world.Reach.{world_of}
use Rattle.bus_laws.proofs.world.Hears.{control_hearers, control_answer}

abbrev Talked : Type 0
Talked = TalkTold World

-- either branch will do
on_cond : (P : Talked → Type 0) (t : Bool) (x y : Talked) → P x → P y → P (cond t x y)
on_cond P true x y hx hy = hx
on_cond P false x y hx hy = hy

-- between two messages no byte waits in a chip
abbrev pub NoneWaits : List ChipView → Type 0
NoneWaits cs = (i : ℕ) (x : ChipView) → slice_get cs i ≡ Some x → x.waiting ≡ None

start_keeps : (j a reading : Bool) (x : ChipView) → given chip_table (start_event j a reading) x ≡ x
start_keeps true true reading x = refl
start_keeps true false reading x = refl
start_keeps false a reading x = refl

pub stop_quiet : (j : Bool) (x : ChipView) → x.waiting ≡ None → given chip_table (stop_event j) x ≡ x
stop_quiet true x e = ap (λ (o : Option ℕ). chip_stopped x o) e
stop_quiet false x e = refl

-- a stop with nothing waiting leaves the chips
pub stopped-chips : (b : BoardView) (r : ℕ) (cs : List ChipView) (ds : List TargetState) (hs : List Node) (busy : Bool) → NoneWaits cs
    → (stopped (world_of b r cs ds hs busy)).chips ≡ cs
stopped-chips b r cs ds hs busy none =
    feed-same chip_table (λ m. stop_event (joins_chip (world_of b r cs ds hs busy) m)) 0 cs
    (λ i x e. stop_quiet (joins_chip (world_of b r cs ds hs busy) (0 + i)) x (none i x e))

pub started-chips : (b : BoardView) (r : ℕ) (cs : List ChipView) (ds : List TargetState) (hs : List Node) (busy : Bool) (a : ℕ)
    (reading : Bool)
    → feed chip_table (chip_start (world_of b r cs ds hs busy) a reading) 0 cs ≡ cs
started-chips b r cs ds hs busy a reading =
    feed-same chip_table (chip_start (world_of b r cs ds hs busy) a reading) 0 cs (λ i x e. start_keeps _ _ reading x)

-- one chip is changed, the others stay
abbrev pub Changes : List ChipView → List ChipView → ℕ → (ChipView → ChipView) → Type 0
Changes cs new m f = (i : ℕ) → slice_get new i ≡ option_map (λ (x : ChipView). cond (eqb i m) (f x) x) (slice_get cs i)

abbrev pub put_byte : ℕ → ChipView → ChipView
put_byte byte x = record x { waiting = Some byte }

abbrev pub taken_byte : ℕ → ChipView → ChipView
taken_byte byte x = taken x.kind (put_byte byte x) byte

-- a look leaves a chip as it is, or finds it once less
pub on_look : (P : ChipView → Type 0) (k : MuxKind) (x : ChipView) → P x → P (record x { left = x.left - 1 }) → P (looked k x)
on_look P k x same less = by_facts (facts_of k).asks (eqb x.foreign 8)
  where
    by_facts : (asks held : Bool) → P (cond asks (cond held x (record x { left = x.left - 1 })) x)
    by_facts true true = same
    by_facts true false = less
    by_facts false held = same

looked_waits : (k : MuxKind) (x : ChipView) → (looked k x).waiting ≡ x.waiting
looked_waits k x = on_look (λ (y : ChipView). y.waiting ≡ x.waiting) k x refl refl

map_option : (o : Option ChipView) (f g h : ChipView → ChipView) → ((x : ChipView) → o ≡ Some x → f (g x) ≡ h x)
    → option_map f (option_map g o) ≡ option_map h o
map_option None f g h e = refl
map_option (Some x) f g h e = ap Some (e x refl)

opens_map : (channel : ℕ) (o : Option ChipView) (g : ChipView → ChipView) → ((x : ChipView) → is_open (g x) channel ≡ is_open x channel)
    → option_map_or (λ (c : ChipView). is_open c channel) (option_map g o) false ≡ option_map_or
    (λ (c : ChipView). is_open c channel) o false
opens_map channel None g e = refl
opens_map channel (Some x) g e = e x

all_opens : (cs new : List ChipView) (hs : List Hop) → ((h : Hop) → opens_hop new h ≡ opens_hop cs h)
    → list_all (opens_hop new) hs ≡ list_all (opens_hop cs) hs
all_opens cs new [] e = refl
all_opens cs new (h ∷ hs) e = ap (λ (t : Bool). t && list_all (opens_hop new) hs) (e h)
    ∙ ap (λ (t : Bool). opens_hop cs h && t) (all_opens cs new hs e)

-- who is given what, once only chip m listens
to_one : (b : BoardView) (r : ℕ) (cs : List ChipView) (ds : List TargetState) (busy : Bool) (m : ℕ) (e : Event)
    → GivesOne (to_chips (world_of b r cs ds (node.Chip m ∷ []) busy) e) m e
to_one b r cs ds busy m e =
    record {
      at = ap (λ (t : Bool). cond (t || false) (Some e) None) (eq-eqb m m refl);
      else = λ j ne. (elim (eqb_tells m j)
          [ inl h ↦ absurd (ne (sym h.1)) | inr h ↦ ap (λ (t : Bool). cond (t || false) (Some e) None) h.0 ]);
    }

given_one : (b : BoardView) (r : ℕ) (cs : List ChipView) (ds : List TargetState) (busy : Bool) (m : ℕ) (e : Event) (i : ℕ) (x : ChipView)
    → given chip_table (to_chips (world_of b r cs ds (node.Chip m ∷ []) busy) e (0 + i)) x ≡ cond (eqb i m) (chip_after x e) x
given_one b r cs ds busy m e i x =
    elim (eqb_tells i m) [
      | inl h ↦ ap (λ (o : Option Event). given chip_table o x)
          (ap (to_chips (world_of b r cs ds (node.Chip m ∷ []) busy) e) (zero-add i ∙ h.1) ∙ (to_one b r cs ds busy m e).at)
          ∙ sym (ap (λ (t : Bool). cond t (chip_after x e) x) h.0)
      | inr h ↦ ap (λ (o : Option Event). given chip_table o x) ((to_one b r cs ds busy m e).else (0 + i) (λ q. h.1 (sym (zero-add i) ∙ q)))
          ∙ sym (ap (λ (t : Bool). cond t (chip_after x e) x) h.0)
    ]

pub looked_opens : (k : MuxKind) (x : ChipView) (c : ℕ) → is_open (looked k x) c ≡ is_open x c
looked_opens k x c = on_look (λ (y : ChipView). is_open y c ≡ is_open x c) k x refl refl

abbrev pub look : ChipView → ChipView
look x = looked x.kind x

-- what a control message comes to where its chip is there: it failed before its byte, or the byte was sent
abbrev pub IsEarlyCut : End → Type 0
IsEarlyCut e = (e ≡ end.Cut 0) ⊎ (e ≡ end.Cut 1)

abbrev pub Quiet : List ChipView → Talked → Type 0
Quiet cs t = (t.now.chips ≡ cs) × ((t.end ≡ end.Nack) ⊎ IsEarlyCut t.end)

abbrev pub Writes : List ChipView → ℕ → ℕ → Talked → Type 0
Writes cs m byte t =
    ((t.now.chips ≡ cs) × IsEarlyCut t.end) ⊎ (Changes cs t.now.chips m (taken_byte byte) × ((t.end ≡ end.Ok) ⊎ (t.end ≡ end.Cut 2)))

abbrev pub Reads : List ChipView → ℕ → ℕ → Talked → Type 0
Reads cs m sends t =
    ((t.now.chips ≡ cs) × IsEarlyCut t.end)
    ⊎ (Changes cs t.now.chips m look × (((t.end ≡ end.Ok) × (t.bytes ≡ bit_and sends 255 ∷ [])) ⊎ (t.end ≡ end.Cut 2)))

module _ (b : BoardView) (tree : IsTree b) (r s : ℕ) (cs : List ChipView) (ds : List TargetState) (hs : List Node) (busy : Bool)
    (along : (u : ℕ) → is_joined (world_of b r cs ds hs busy) u ≡ true → MayJoin b s u)
    (m a : ℕ) (chip : ChipView) (addr : addr_of_mux b m ≡ Some a) (home : home_of_mux b m ≡ s)
    (joined : is_joined (world_of b r cs ds hs busy) s ≡ true) (at : slice_get cs m ≡ Some chip) (none : NoneWaits cs) where
  -- the world after the start
  abbrev begun : Bool → World
  begun reading = world_of b r cs (feed state_table (device_start (world_of b r cs ds hs busy) a reading) 0 ds)
      (cond (has_chip b m) (node.Chip m ∷ []) []) true

  begun-is : (reading : Bool) → after (world_of b r cs ds hs busy) (call.Start a reading) ≡ begun reading
  begun-is reading =
      ap (λ (c : List ChipView). world_of b r c (feed state_table (device_start (world_of b r cs ds hs busy) a reading) 0 ds)
      (hearers (world_of b r cs ds hs busy) a reading) true)
      (started-chips b r cs ds hs busy a reading)
      ∙ ap (λ (x : List Node). world_of b r cs (feed state_table (device_start (world_of b r cs ds hs busy) a reading) 0 ds) x true)
      (control_hearers b tree r s cs ds hs busy along m a reading chip addr home joined at)

  begun_stopped : (reading : Bool) → (stopped (begun reading)).chips ≡ cs
  begun_stopped reading =
      stopped-chips b r cs (feed state_table (device_start (world_of b r cs ds hs busy) a reading) 0 ds)
      (cond (has_chip b m) (node.Chip m ∷ []) []) true none

  -- ABSENT: nothing changes
  pub record IsQuiet (t : Talked) : Type 0 where
    pub same : t.now.chips ≡ cs
    pub early : (t.end ≡ end.Nack) ⊎ ((t.end ≡ end.Cut 0) ⊎ (t.end ≡ end.Cut 1))

  quiet_at_start : (limit : ℕ) (message : MessageView) (cut : Option ℕ)
      → IsQuiet (told (say world_listener (silence (world_of b r cs ds hs busy)) call.Fault) (end.Cut 0))
  quiet_at_start limit message cut = record { same = stopped-chips b r cs ds hs busy none; early = inr (inl refl) }

  pub absent_talk : (limit : ℕ) (message : MessageView) (cut : Option ℕ) → message.addr ≡ a → has_chip b m ≡ false
      → IsQuiet (talk world_listener limit (world_of b r cs ds hs busy) message true cut)
  absent_talk limit message cut to absent =
      subst (λ (j : ℕ). IsQuiet (cond (is_it cut 0)
      (told (say world_listener (silence (world_of b r cs ds hs busy)) call.Fault) (end.Cut 0))
      (by_answer world_listener cut true limit message (world_answer (world_of b r cs ds hs busy) j message.reading)
      (say world_listener (silence (world_of b r cs ds hs busy)) (call.Start j message.reading))))) (sym to)
      (on_cond IsQuiet (is_it cut 0)
      (told (say world_listener (silence (world_of b r cs ds hs busy)) call.Fault) (end.Cut 0))
      (by_answer world_listener cut true limit message (world_answer (world_of b r cs ds hs busy) a message.reading)
      (say world_listener (silence (world_of b r cs ds hs busy)) (call.Start a message.reading)))
      (quiet_at_start limit message cut)
      (subst (λ (x : Answer). IsQuiet
      (by_answer world_listener cut true limit message x
      (say world_listener (silence (world_of b r cs ds hs busy)) (call.Start a message.reading))))
      (sym (control_answer b tree r s cs ds hs busy along m a message.reading chip addr home joined at
      ∙ ap (λ (t : Bool). cond t answer.Ack answer.Nack) absent))
      (subst (λ (u : World). IsQuiet
      (ended world_listener cut true (record { calls = call.Start a message.reading ∷ []; bytes = []; now = u }) end.Nack))
      (sym (begun-is message.reading))
      (on_cond IsQuiet (is_it cut 1)
      (told (say world_listener (record { calls = call.Start a message.reading ∷ []; bytes = []; now = begun message.reading }) call.Fault)
      (end.Cut 1))
      (told (say world_listener (record { calls = call.Start a message.reading ∷ []; bytes = []; now = begun message.reading }) call.Stop)
      end.Nack)
      (record { same = begun_stopped message.reading; early = inr (inr refl) })
      (record { same = begun_stopped message.reading; early = inl refl })))))

  pub absent-talk : (limit : ℕ) (message : MessageView) (cut : Option ℕ) → message.addr ≡ a → has_chip b m ≡ false
      → Quiet cs (talk world_listener limit (world_of b r cs ds hs busy) message true cut)
  absent-talk limit message cut to absent =
      let q : IsQuiet (talk world_listener limit (world_of b r cs ds hs busy) message true cut) = absent_talk limit message cut to absent in
      (q.same, q.early)

  -- PRESENT: the chip listens alone
  module _ (present : has_chip b m ≡ true) where
    abbrev listening : Bool → World
    listening reading = world_of b r cs (feed state_table (device_start (world_of b r cs ds hs busy) a reading) 0 ds)
        (node.Chip m ∷ []) true

    listening-is : (reading : Bool) → after (world_of b r cs ds hs busy) (call.Start a reading) ≡ listening reading
    listening-is reading =
        begun-is reading ∙ ap (λ (t : Bool). world_of b r cs (feed state_table (device_start (world_of b r cs ds hs busy) a reading) 0 ds)
        (cond t (node.Chip m ∷ []) []) true) present

    listening_stopped : (reading : Bool) → (stopped (listening reading)).chips ≡ cs
    listening_stopped reading =
        stopped-chips b r cs (feed state_table (device_start (world_of b r cs ds hs busy) a reading) 0 ds) (node.Chip m ∷ []) true none

    answered : (reading : Bool) → world_answer (world_of b r cs ds hs busy) a reading ≡ answer.Ack
    answered reading =
        control_answer b tree r s cs ds hs busy along m a reading chip addr home joined at
        ∙ ap (λ (t : Bool). cond t answer.Ack answer.Nack) present

    -- after an event to the chip alone that opens nothing and closes nothing, its bus is joined still
    joined_still : (reading : Bool) (e : Event) → ((x : ChipView) (c : ℕ) → is_open (chip_after x e) c ≡ is_open x c)
        → joins_chip (sent_on (listening reading) e) (0 + m) ≡ true
    joined_still reading e same =
        let opens : (h : Hop) → opens_hop (feed chip_table (to_chips (listening reading) e) 0 cs) h ≡ opens_hop cs h =
        λ h. ap (λ (o : Option ChipView). option_map_or (λ (c : ChipView). is_open c h.channel) o false)
        (feed-get chip_table (to_chips (listening reading) e) 0 cs h.mux)
        ∙ opens_map h.channel (slice_get cs h.mux) (λ (x : ChipView). given chip_table (to_chips (listening reading) e (0 + h.mux)) x)
        (λ x. ap (λ (y : ChipView). is_open y h.channel)
        (given_one b r cs (feed state_table (device_start (world_of b r cs ds hs busy) a reading) 0 ds) true m e h.mux x)
        ∙ by_own (eqb h.mux m) x h.channel) in
        ap (λ (i : ℕ). joins_chip (sent_on (listening reading) e) i) (zero-add m)
        ∙ ap (λ (t : Bool). t && is_joined (sent_on (listening reading) e) (home_of_mux b m)) present
        ∙ ap (λ (i : ℕ). is_joined (sent_on (listening reading) e) i) home
        ∙ ap (λ (t : Bool). eqb (root_of b s) r && t)
        (all_opens cs (feed chip_table (to_chips (listening reading) e) 0 cs) (hops b s) opens)
        ∙ joined
      where
        by_own : (t : Bool) (x : ChipView) (c : ℕ) → is_open (cond t (chip_after x e) x) c ≡ is_open x c
        by_own true x c = same x c
        by_own false x c = refl

    -- a stop after one event to the chip
    stopped_one : (reading : Bool) (e : Event) (f : ChipView → ChipView)
        → ((x : ChipView) (c : ℕ) → is_open (chip_after x e) c ≡ is_open x c)
        → ((x : ChipView) → x.waiting ≡ None → chip_after (chip_after x e) event.Stop ≡ f x)
        → Changes cs (stopped (sent_on (listening reading) e)).chips m f
    stopped_one reading e f same takes_it i =
        feed-get chip_table (λ k. stop_event (joins_chip (sent_on (listening reading) e) k)) 0
        (feed chip_table (to_chips (listening reading) e) 0 cs) i
        ∙ ap (λ (o : Option ChipView). option_map
        (λ (x : ChipView). given chip_table (stop_event (joins_chip (sent_on (listening reading) e) (0 + i))) x) o)
        (feed-get chip_table (to_chips (listening reading) e) 0 cs i)
        ∙ map_option (slice_get cs i)
        (λ (x : ChipView). given chip_table (stop_event (joins_chip (sent_on (listening reading) e) (0 + i))) x)
        (λ (x : ChipView). given chip_table (to_chips (listening reading) e (0 + i)) x)
        (λ (x : ChipView). cond (eqb i m) (f x) x)
        (λ x found. ap (λ (y : ChipView). given chip_table (stop_event (joins_chip (sent_on (listening reading) e) (0 + i))) y)
        (given_one b r cs (feed state_table (device_start (world_of b r cs ds hs busy) a reading) 0 ds) true m e i x)
        ∙ by_place (eqb_tells i m) x (none i x found))
      where
        by_place : ((eqb i m ≡ true) × (i ≡ m)) ⊎ ((eqb i m ≡ false) × (i ≡ m → ⊥)) → (x : ChipView) → x.waiting ≡ None
            → given chip_table (stop_event (joins_chip (sent_on (listening reading) e) (0 + i))) (cond (eqb i m) (chip_after x e) x) ≡ cond
            (eqb i m) (f x) x
        by_place (inl own) x w =
            ap (λ (t : Bool). given chip_table (stop_event (joins_chip (sent_on (listening reading) e) (0 + i)))
            (cond t (chip_after x e) x)) own.0
            ∙ ap (λ (j : Bool). given chip_table (stop_event j) (chip_after x e))
            (ap (λ (k : ℕ). joins_chip (sent_on (listening reading) e) (0 + k)) own.1 ∙ joined_still reading e same)
            ∙ takes_it x w
            ∙ sym (ap (λ (t : Bool). cond t (f x) x) own.0)
        by_place (inr other) x w =
            ap (λ (t : Bool). given chip_table (stop_event (joins_chip (sent_on (listening reading) e) (0 + i)))
            (cond t (chip_after x e) x)) other.0
            ∙ stop_quiet (joins_chip (sent_on (listening reading) e) (0 + i)) x w
            ∙ sym (ap (λ (t : Bool). cond t (f x) x) other.0)

    -- the chip acknowledges a byte, and sends one
    takes_it : (reading : Bool) (byte : ℕ) → takes (listening reading) byte ≡ true
    takes_it reading byte =
        some_answer-append is_ack (answers chip_table (to_chips (listening reading) (event.Put byte)) 0 cs)
        (answers state_table (to_devices (listening reading) (event.Put byte)) 0
        (feed state_table (device_start (world_of b r cs ds hs busy) a reading) 0 ds))
        ∙ ap (λ (t : Bool). t || some_answer is_ack
        (answers state_table (to_devices (listening reading) (event.Put byte)) 0
        (feed state_table (device_start (world_of b r cs ds hs busy) a reading) 0 ds)))
        (some_answer-at chip_table (to_chips (listening reading) (event.Put byte)) is_ack 0 cs m (event.Put byte)
        (to_one b r cs (feed state_table (device_start (world_of b r cs ds hs busy) a reading) 0 ds) true m (event.Put byte)).at m chip at
        (zero-add m) refl)

    sends_it : (reading : Bool) → gives (listening reading) ≡ bit_and (chip_sends chip.kind chip) 255
    sends_it reading =
        ap (λ (xs : List (ℕ × Answer)). and_of
        (xs ++ answers state_table (to_devices (listening reading) (event.Get true)) 0
        (feed state_table (device_start (world_of b r cs ds hs busy) a reading) 0 ds)))
        (answers-one chip_table (to_chips (listening reading) (event.Get true)) 0 cs m (event.Get true)
        (to_one b r cs (feed state_table (device_start (world_of b r cs ds hs busy) a reading) 0 ds) true m (event.Get true)) m chip at
        (zero-add m))
        ∙ ap (λ (ys : List (ℕ × Answer)). and_of ((m, answer.Byte (chip_sends chip.kind chip)) ∷ ys))
        (answers-none state_table (to_devices (listening reading) (event.Get true)) 0
        (feed state_table (device_start (world_of b r cs ds hs busy) a reading) 0 ds) (λ j le. refl))

    abbrev heard_start : Bool → World → Said World
    heard_start reading u = record { calls = call.Start a reading ∷ []; bytes = []; now = u }

    -- a write of one byte
    put_done : (byte : ℕ) → Changes cs (stopped (sent_on (listening false) (event.Put byte))).chips m (taken_byte byte)
    put_done byte = stopped_one false (event.Put byte) (taken_byte byte) (λ x c. refl) (λ x w. refl)

    put_ended : (byte : ℕ) (cut : Option ℕ)
        → Writes cs m byte (ended world_listener cut true
        (record { calls = call.Put byte ∷ call.Start a false ∷ []; bytes = byte ∷ []; now = after (listening false) (call.Put byte) })
        end.Ok)
    put_ended byte cut =
        on_cond (Writes cs m byte) (is_it cut 2)
        (told (say world_listener (record {
          calls = call.Put byte ∷ call.Start a false ∷ [];
          bytes = byte ∷ [];
          now = after (listening false) (call.Put byte);
        }) call.Fault) (end.Cut 2))
        (told (say world_listener (record {
          calls = call.Put byte ∷ call.Start a false ∷ [];
          bytes = byte ∷ [];
          now = after (listening false) (call.Put byte);
        }) call.Stop) end.Ok)
        (inr (put_done byte, inr refl)) (inr (put_done byte, inl refl))

    put_sent : (byte : ℕ) (cut : Option ℕ)
        → Writes cs m byte (puts world_listener cut true (byte ∷ []) (heard_start false (listening false)))
    put_sent byte cut =
        on_cond (Writes cs m byte) (is_it cut 1)
        (told (say world_listener (heard_start false (listening false)) call.Fault) (end.Cut 1))
        (cond (takes (listening false) byte)
        (ended world_listener cut true
        (record { calls = call.Put byte ∷ call.Start a false ∷ []; bytes = byte ∷ []; now = after (listening false) (call.Put byte) })
        end.Ok)
        (ended world_listener cut true
        (record { calls = call.Put byte ∷ call.Start a false ∷ []; bytes = []; now = after (listening false) (call.Put byte) })
        end.Refused))
        (inl (listening_stopped false, inr refl))
        (subst (λ (t : Bool). Writes cs m byte (cond t
        (ended world_listener cut true
        (record { calls = call.Put byte ∷ call.Start a false ∷ []; bytes = byte ∷ []; now = after (listening false) (call.Put byte) })
        end.Ok)
        (ended world_listener cut true
        (record { calls = call.Put byte ∷ call.Start a false ∷ []; bytes = []; now = after (listening false) (call.Put byte) })
        end.Refused)))
        (sym (takes_it false byte)) (put_ended byte cut))

    pub write-talk : (limit byte : ℕ) (cut : Option ℕ)
        → Writes cs m byte (talk world_listener limit (world_of b r cs ds hs busy) (write_byte a byte) true cut)
    write-talk limit byte cut =
        on_cond (Writes cs m byte) (is_it cut 0)
        (told (say world_listener (silence (world_of b r cs ds hs busy)) call.Fault) (end.Cut 0))
        (by_answer world_listener cut true limit (write_byte a byte) (world_answer (world_of b r cs ds hs busy) a false)
        (heard_start false (after (world_of b r cs ds hs busy) (call.Start a false))))
        (inl (stopped-chips b r cs ds hs busy none, inl refl))
        (subst (λ (x : Answer). Writes cs m byte
        (by_answer world_listener cut true limit (write_byte a byte) x
        (heard_start false (after (world_of b r cs ds hs busy) (call.Start a false)))))
        (sym (answered false))
        (subst (λ (u : World). Writes cs m byte (puts world_listener cut true (byte ∷ []) (heard_start false u))) (sym (listening-is false))
        (put_sent byte cut)))

    -- a read of one byte
    get_done : Changes cs (stopped (sent_on (listening true) (event.Get false))).chips m look
    get_done =
        stopped_one true (event.Get false) look (λ x c. looked_opens x.kind x c)
        (λ x w. ap (λ (o : Option ℕ). chip_stopped (looked x.kind x) o) (looked_waits x.kind x ∙ w))

    abbrev got_one : Said World
    got_one = record {
      calls = call.Get false ∷ call.Start a true ∷ [];
      bytes = gives (listening true) ∷ [];
      now = after (listening true) (call.Get false);
    }

    get_sent : (cut : Option ℕ) → Reads cs m (chip_sends chip.kind chip)
        (gets world_listener cut true 1 (heard_start true (listening true)))
    get_sent cut =
        on_cond (Reads cs m (chip_sends chip.kind chip)) (is_it cut 1)
        (told (say world_listener (heard_start true (listening true)) call.Fault) (end.Cut 1))
        (ended world_listener cut true got_one end.Ok)
        (inl (listening_stopped true, inr refl))
        (on_cond (Reads cs m (chip_sends chip.kind chip)) (is_it cut 2)
        (told (say world_listener got_one call.Fault) (end.Cut 2))
        (told (say world_listener got_one call.Stop) end.Ok)
        (inr (get_done, inr refl))
        (inr (get_done, inl (refl, ap (λ (x : ℕ). x ∷ []) (sends_it true)))))

    pub read-talk : (limit : ℕ) (cut : Option ℕ)
        → Reads cs m (chip_sends chip.kind chip) (talk world_listener limit (world_of b r cs ds hs busy) (read_byte a) true cut)
    read-talk limit cut =
        on_cond (Reads cs m (chip_sends chip.kind chip)) (is_it cut 0)
        (told (say world_listener (silence (world_of b r cs ds hs busy)) call.Fault) (end.Cut 0))
        (by_answer world_listener cut true limit (read_byte a) (world_answer (world_of b r cs ds hs busy) a true)
        (heard_start true (after (world_of b r cs ds hs busy) (call.Start a true))))
        (inl (stopped-chips b r cs ds hs busy none, inl refl))
        (subst (λ (x : Answer). Reads cs m (chip_sends chip.kind chip)
        (by_answer world_listener cut true limit (read_byte a) x
        (heard_start true (after (world_of b r cs ds hs busy) (call.Start a true)))))
        (sym (answered true))
        (subst (λ (u : World). Reads cs m (chip_sends chip.kind chip) (gets world_listener cut true 1 (heard_start true u)))
        (sym (listening-is true)) (get_sent cut)))
