-- What an edge leaves of a target as it is: its address and whether it is joined, whether it is a chip, and, but for a stop, which
-- channels are open.
use Rattle.bus_lines.proofs.Cited.{◌≡◌, ℕ, zero, suc, ◌+◌, Bool, true, false, cond, List, [], ◌∷◌, map, Option, Some, None, refl, ap, sym}
use Rattle.bus_lines.proofs.Cited.{◌∙◌, ◌-◌, ◌&&◌, subst, arith, not, is_some, if◌then◌else◌, slice_get, list_all, option_map_or, facts_of}
use Rattle.bus_lines.proofs.Cited.{ChipView, Hop, Mode, Out, In, Answered, Give, Gave, Site, Bit, site_of, shifted, called, named, other}
use Rattle.bus_lines.proofs.Cited.{is_named, is_reading, stands, where_joined, rejoin_from, NodeState, Chip, Device, node_table, node_level}
use Rattle.bus_lines.proofs.Cited.{levelled_bits, Edge, Rise, Fall, Tick, Finish, Leave, Other, Address, Put, Get, Enter, seen, PlaceView}
use Rattle.bus_lines.proofs.Cited.{is_chip, states_on, node_opens, opens_at, joins, joins_by, by_number}
use Rattle.std.specs.Prelude.{◌==◌}
use Rattle.i2c_base.specs.declared.board.MuxKind.{MuxKind}
use Rattle.i2c_base.specs.declared.event.Event.{Event}
use Rattle.i2c_base.specs.declared.event.Event.TheVariants as event
use Rattle.i2c_base.specs.Limits.{POLLS}
use Rattle.i2c_spec.specs.Chips.{opens}
use Rattle.i2c_spec.specs.World.{has_heard}
use Rattle.wire_spec.specs.Wires.{shift, give, whole, rise_in}
use Rattle.wire_spec.specs.Sites.{node_after, node_answer}
use Rattle.bus_lines.specs.Edges.{put_in, get_in, enter_in}

abbrev pub NoStop : Event → Type 0
NoStop (event.Start reading) = Unit {0}
NoStop event.Other = Unit {0}
NoStop (event.Put byte) = Unit {0}
NoStop (event.Get ack) = Unit {0}
NoStop event.Stop = ⊥

abbrev pub NoFinish : Edge → Type 0
NoFinish (Rise level) = Unit {0}
NoFinish Fall = Unit {0}
NoFinish Tick = Unit {0}
NoFinish Finish = ⊥
NoFinish Leave = Unit {0}
NoFinish (Other byte) = Unit {0}
NoFinish (Address byte) = Unit {0}
NoFinish (Put byte) = Unit {0}
NoFinish (Get ack) = Unit {0}
NoFinish Enter = Unit {0}

-- what no event but a stop changes, no edge but a stop does
module _ {K : Type 0} (key : Site NodeState → K)
    (same : (s : Site NodeState) (h : Bool) (e : Event) → NoStop e → key (site_of s.addr s.joined h (node_after s.state e)) ≡ key s) where
  either_key : (t : Bool) (b c : Bit NodeState) (k : K) → key b.site ≡ k → key c.site ≡ k → key (cond t b c).site ≡ k
  either_key true b c k first second = first
  either_key false b c k first second = second

  named_key : (s : Site NodeState) (byte : ℕ) → key (named node_table s byte).site ≡ key s
  named_key s byte =
      either_key (is_named byte s) (called node_table s (is_reading byte)) (stands (other node_table s) Out 0) (key s)
      (same s (has_heard (node_answer s.state (event.Start (is_reading byte)))) (event.Start (is_reading byte)) tt)
      (same s false event.Other tt)

  whole_key : (b : Bit NodeState) (address : Bool) (byte : ℕ) → key (whole node_table b.site address byte).site ≡ key b.site
  whole_key b true byte = named_key b.site byte
  whole_key b false byte = same b.site b.site.heard (event.Put byte) tt

  shift_key : (b : Bit NodeState) (address : Bool) (left v : ℕ) → key (shift node_table b address left v).site ≡ key b.site
  shift_key b address zero v = refl
  shift_key b address (suc zero) v = whole_key b address v
  shift_key b address (suc (suc n)) v = refl

  give_key : (b : Bit NodeState) (left : ℕ) (level : Bool) → key (give node_table b left level).site ≡ key b.site
  give_key b zero level = same b.site b.site.heard (event.Get (not level)) tt
  give_key b (suc n) level = refl

  rise_key : (b : Bit NodeState) (m : Mode) (level : Bool) → key (rise_in node_table b m level).site ≡ key b.site
  rise_key b Out level = refl
  rise_key b (In address left v) level = shift_key b address left (shifted v level)
  rise_key b (Answered begun acked next looks) level = refl
  rise_key b (Give left) level = give_key b left level
  rise_key b (Gave more) level = refl

  put_key : (byte : ℕ) (b : Bit NodeState) (m : Mode) → key (put_in byte b m).site ≡ key b.site
  put_key byte b Out = refl
  put_key byte b (In true left v) = refl
  put_key byte b (In false left v) = same b.site b.site.heard (event.Put byte) tt
  put_key byte b (Answered begun acked next looks) = refl
  put_key byte b (Give left) = refl
  put_key byte b (Gave more) = refl

  get_key : (ack : Bool) (b : Bit NodeState) (m : Mode) → key (get_in ack b m).site ≡ key b.site
  get_key ack b Out = refl
  get_key ack b (In address left v) = refl
  get_key ack b (Answered begun acked next looks) = refl
  get_key ack b (Give left) = same b.site b.site.heard (event.Get ack) tt
  get_key ack b (Gave more) = refl

  enter_key : (b : Bit NodeState) (m : Mode) → key (enter_in b m).site ≡ key b.site
  enter_key b Out = refl
  enter_key b (In address left v) = refl
  enter_key b (Answered begun acked next looks) = refl
  enter_key b (Give left) = refl
  enter_key b (Gave more) = refl

  seen_key : (e : Edge) → NoFinish e → (b : Bit NodeState) → key (seen e b).site ≡ key b.site
  seen_key (Rise level) nostop b = rise_key b b.mode level
  seen_key Fall nostop b = refl
  seen_key Tick nostop b = refl
  seen_key Finish nostop b = absurd nostop
  seen_key Leave nostop b = refl
  seen_key (Other byte) nostop b = either_key (is_named byte b.site) b (named node_table b.site byte) (key b.site) refl
      (named_key b.site byte)
  seen_key (Address byte) nostop b = named_key b.site byte
  seen_key (Put byte) nostop b = put_key byte b b.mode
  seen_key (Get ack) nostop b = get_key ack b b.mode
  seen_key Enter nostop b = enter_key b b.mode

  pub joined_key : (e : Edge) → NoFinish e → (b : Bit NodeState) → key (where_joined (seen e) b).site ≡ key b.site
  joined_key e nostop b = either_key b.site.joined (seen e b) b (key b.site) (seen_key e nostop b) refl

-- ---- its address, and whether it is joined
pub addr_kept : (e : Edge) → NoFinish e → (b : Bit NodeState) → (where_joined (seen e) b).site.addr ≡ b.site.addr
addr_kept = joined_key (λ (s : Site NodeState). s.addr) (λ s h e nostop. refl)

pub joined_kept : (e : Edge) → NoFinish e → (b : Bit NodeState) → (where_joined (seen e) b).site.joined ≡ b.site.joined
joined_kept = joined_key (λ (s : Site NodeState). s.joined) (λ s h e nostop. refl)

-- ---- which channels are open, by the kind of a chip and its control byte
abbrev pub doors : NodeState → Option (MuxKind × ℕ)
doors (Chip x) = Some (x.kind, x.control)
doors (Device x) = None

looked_doors : (asks good : Bool) (x : ChipView) (left : ℕ)
    → doors (Chip (if asks then (if good then x else record x { left = left }) else x)) ≡ doors (Chip x)
looked_doors true true x left = refl
looked_doors true false x left = refl
looked_doors false good x left = refl

after_doors : (x : NodeState) (e : Event) → NoStop e → doors (node_after x e) ≡ doors x
after_doors (Chip x) (event.Start reading) nostop = refl
after_doors (Chip x) event.Other nostop = refl
after_doors (Chip x) (event.Put byte) nostop = refl
after_doors (Chip x) (event.Get ack) nostop = looked_doors (facts_of x.kind).asks (x.foreign == POLLS) x (x.left - 1)
after_doors (Chip x) event.Stop nostop = absurd nostop
after_doors (Device x) e nostop = refl

pub doors_kept : (e : Edge) → NoFinish e → (b : Bit NodeState) → doors (where_joined (seen e) b).site.state ≡ doors b.site.state
doors_kept = joined_key (λ (s : Site NodeState). doors s.state) (λ s h e nostop. after_doors s.state e nostop)

-- ---- whether it is a chip
after_kind : (x : NodeState) (e : Event) → is_chip (node_after x e) ≡ is_chip x
after_kind (Chip x) e = refl
after_kind (Device x) e = refl

finish_either : (t : Bool) (b : Bit NodeState) → is_chip (cond t (seen Finish b) b).site.state ≡ is_chip b.site.state
finish_either true b = after_kind b.site.state event.Stop
finish_either false b = refl

pub finish_kind : (b : Bit NodeState) → is_chip (where_joined (seen Finish) b).site.state ≡ is_chip b.site.state
finish_kind b = finish_either b.site.joined b

-- a chip is what has channels
chip_doors : (x : NodeState) → is_some (doors x) ≡ is_chip x
chip_doors (Chip x) = refl
chip_doors (Device x) = refl

kinds_by : (xs : List NodeState) → map is_chip xs ≡ map is_some (map doors xs)
kinds_by [] = refl
kinds_by (x ∷ xs) = ap (λ k. k ∷ map is_chip xs) (sym (chip_doors x)) ∙ ap (λ ks. is_some (doors x) ∷ ks) (kinds_by xs)

pub kinds_doors : (xs ys : List NodeState) → map doors xs ≡ map doors ys → map is_chip xs ≡ map is_chip ys
kinds_doors xs ys same = kinds_by xs ∙ ap (λ ds. map is_some ds) same ∙ sym (kinds_by ys)

-- ---- who is joined
abbrev opened : ℕ → MuxKind × ℕ → Bool
opened ch d = opens d.0 d.1 ch

opens_door : (ch : ℕ) (x : NodeState) → node_opens ch x ≡ option_map_or (opened ch) (doors x) false
opens_door ch (Chip x) = refl
opens_door ch (Device x) = refl

opens_doors : (ch : ℕ) (xs : List NodeState) (i : ℕ)
    → option_map_or (node_opens ch) (slice_get xs i) false
    ≡ option_map_or (λ d. option_map_or (opened ch) d false) (slice_get (map doors xs) i) false
opens_doors ch [] i = refl
opens_doors ch (x ∷ xs) zero = opens_door ch x
opens_doors ch (x ∷ xs) (suc i) = opens_doors ch xs i

all_open : (xs ys : List NodeState) → map doors xs ≡ map doors ys → (hs : List Hop) → list_all (opens_at xs) hs ≡ list_all (opens_at ys) hs
all_open xs ys same [] = refl
all_open xs ys same (h ∷ hs) =
    let e : opens_at xs h ≡ opens_at ys h = opens_doors h.channel xs h.mux
    ∙ ap (λ ds. option_map_or (λ d. option_map_or (opened h.channel) d false) (slice_get ds h.mux) false) same
    ∙ sym (opens_doors h.channel ys h.mux) in
    rw (e, all_open xs ys same hs) refl

joins_either : (xs ys : List NodeState) → map doors xs ≡ map doors ys → (o : Option PlaceView)
    → option_map_or (joins xs) o false ≡ option_map_or (joins ys) o false
joins_either xs ys same None = refl
joins_either xs ys same (Some p) = ap (λ b. p.wired && b) (all_open xs ys same p.above)

-- where no channel has opened or closed, the same are joined
pub joins_kept : (ps : List PlaceView) (xs ys : List NodeState) → map doors xs ≡ map doors ys → (k : ℕ)
    → joins_by ps xs k ≡ joins_by ps ys k
joins_kept ps xs ys same k = joins_either xs ys same (slice_get ps k)

-- ---- all targets
pub kinds_rejoin : (f : ℕ → Bool) (k : ℕ) (bs : List (Bit NodeState)) → map is_chip (states_on (rejoin_from f k bs)) ≡ map is_chip
    (states_on bs)
kinds_rejoin f k [] = refl
kinds_rejoin f k (b ∷ bs) = ap (λ ks. is_chip b.site.state ∷ ks) (kinds_rejoin f (k + 1) bs)

level_kind : (x : NodeState) (level : ℕ) → is_chip (node_level x level) ≡ is_chip x
level_kind (Chip x) level = refl
level_kind (Device x) level = refl

pub kinds_level : (m level : ℕ) (bs : List (Bit NodeState)) → map is_chip (states_on (levelled_bits m level bs)) ≡ map is_chip
    (states_on bs)
kinds_level m level [] = refl
kinds_level zero level (b ∷ bs) = ap (λ k. k ∷ map is_chip (states_on bs)) (level_kind b.site.state level)
kinds_level (suc m) level (b ∷ bs) = ap (λ ks. is_chip b.site.state ∷ ks) (kinds_level m level bs)

states_from : {K : Type 0} (key : NodeState → K) (f : ℕ → Bit NodeState → Bit NodeState) (k : ℕ) (bs : List (Bit NodeState))
    → ((i : ℕ) (b : Bit NodeState) → slice_get bs i ≡ Some b → key (f (k + i) b).site.state ≡ key b.site.state)
    → map key (states_on (by_number f k bs)) ≡ map key (states_on bs)
states_from key f k [] same = refl
states_from key f k (b ∷ bs) same =
    let e : k + 0 ≡ k = omega arith in
    ap (λ z. z ∷ map key (states_on (by_number f (k + 1) bs))) (subst (λ n. key (f n b).site.state ≡ key b.site.state) e (same 0 b refl))
    ∙ ap (λ zs. key b.site.state ∷ zs)
    (states_from key f (k + 1) bs (λ i c is. let e : k + suc i ≡ k + 1 + i = omega arith in
    subst (λ n. key (f n c).site.state ≡ key c.site.state) e (same (suc i) c is)))

-- what each keeps, all keep
pub states_numbered : {K : Type 0} (key : NodeState → K) (f : ℕ → Bit NodeState → Bit NodeState) (bs : List (Bit NodeState))
    → ((i : ℕ) (b : Bit NodeState) → slice_get bs i ≡ Some b → key (f i b).site.state ≡ key b.site.state)
    → map key (states_on (by_number f 0 bs)) ≡ map key (states_on bs)
states_numbered key f bs same =
    states_from key f 0 bs (λ i b is. let e : i ≡ 0 + i = omega arith in
    subst (λ n. key (f n b).site.state ≡ key b.site.state) e (same i b is))
