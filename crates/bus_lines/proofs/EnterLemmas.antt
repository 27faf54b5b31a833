-- An address byte with its acknowledge clock, all nine clocks at once: what it is to each target, to all of them, and on the lines.
use Rattle.bus_lines.proofs.Cited.{◌≡◌, ℕ, zero, suc, ◌/◌, ◌==◌, ◌<◌, Bool, true, false, ◌&&◌, ◌||◌, cond, List, [], ◌∷◌, map, get_or, Some}
use Rattle.bus_lines.proofs.Cited.{Ok, refl, sym, ap, ◌∙◌, subst, inl, inr, arith, not, slice_get, list_any, option_map_or, nat_tests}
use Rattle.bus_lines.proofs.Cited.{is_too_long, IsFairTable, Mode, Out, In, Answered, Give, Gave, Site, Bit, site_of, stands, shifted}
use Rattle.bus_lines.proofs.Cited.{other, called, is_reading, where_joined, some_one, at, Bus, bus_of, came_up, holds_line, calling}
use Rattle.bus_lines.proofs.Cited.{released, byte_seen, within, sent_byte, NodeState, NO_ADDRESS, node_table, Rooted, Wire, mask_at}
use Rattle.bus_lines.proofs.Cited.{Address, Enter, whole_on, seen, joined_at, acks_enter, address_in, slow_at, PlaceView, states_on}
use Rattle.bus_lines.proofs.Cited.{joins_by, TargetsView, LinesView, lines_of, wire_nine, AreTargets, NumbersView, is_among, RegisterView}
use Rattle.bus_lines.proofs.Cited.{by_number, some_by, of_those, shared, addressed, AreUnits, or_parts, and-false, map_map}
use Rattle.std.proofs.Common.{◌%◌}
use Rattle.i2c_base.specs.declared.event.Event.TheVariants as event
use Rattle.i2c_base.specs.declared.event.Answer.{Answer}
use Rattle.i2c_base.specs.declared.event.Answer.TheVariants.{Ack, Nack}
use Rattle.i2c_spec.specs.Targets.{IsStartAnswer, IsAckOrNack}
use Rattle.i2c_spec.specs.World.{is_ack, is_slow}
use Rattle.wire_spec.specs.declared.mode.Next.{Next}
use Rattle.wire_spec.specs.declared.mode.Next.TheVariants.{Leave, Take, Send}
use Rattle.wire_spec.specs.Wires.{entered, next_of, hears}
use Rattle.wire_spec.specs.Bus.{Came}
use Rattle.wire_spec.specs.Started.{started, answers_so, entered_by}
use Rattle.wire_spec.specs.Laws.{AddressIsOneEvent}
use Rattle.i2c_bits.specs.Wiring.{CameAnswer, the_table}
use Rattle.i2c_bits.specs.Stands.{IsCalled}
use Rattle.bus_lines.specs.LinesViews.{AddressIs}
use Rattle.bus_lines.proofs.AddressLemmas.{called_all}
use Rattle.bus_lines.proofs.AwayLemmas.{units_away, whole_some}
use Rattle.bus_lines.proofs.InvariantLemmas.{holds_coming, called_are}
use Rattle.bus_lines.proofs.NumberedLemmas.{some_none, some_kept, some_of_those, map_same}
use Rattle.bus_lines.proofs.StopLemmas.{none_has}
use Rattle.bus_lines.proofs.TargetsLemmas.{seen_alone}

-- ---- the byte is its address and its direction
parts_by : (byte : ℕ) (one : Bool) → ((byte % 2) == 1) ≡ one → byte ≡ shifted (byte / 2) one
parts_by byte true is = grind (arith, nat_tests, is)
parts_by byte false is = grind (arith, nat_tests, is)

pub byte_parts : (byte : ℕ) → byte ≡ shifted (byte / 2) (is_reading byte)
byte_parts byte = parts_by byte (is_reading byte) refl

-- ---- nobody is too slow
ack_or_nack : (a : Answer) → IsAckOrNack a → is_slow a ≡ false
ack_or_nack a is = elim is [ inl e ↦ ap is_slow e | inr e ↦ ap is_slow e ]

one_slow : (fair : IsFairTable node_table) (reading j n : Bool) (x : NodeState) → (n ≡ true
    → (j && is_too_long (node_table.hold x)) ≡ false)
    → (j && (n && is_slow (node_table.answer x (event.Start reading)))) ≡ false
one_slow fair reading true true x quick =
    let a = node_table.answer x (event.Start reading) in
    ack_or_nack a (subst (λ (slow : Bool). IsStartAnswer slow a) (quick refl) (fair.starts x reading))
one_slow fair reading true false x quick = refl
one_slow fair reading false n x quick = refl

abbrev pub would_be_slow : ℕ → Bit NodeState → Bool
would_be_slow byte b = answers_so node_table is_slow (byte / 2) (is_reading byte) b.site

abbrev pub would_ack : ℕ → Bit NodeState → Bool
would_ack byte b = answers_so node_table is_ack (byte / 2) (is_reading byte) b.site

would_nobody : (byte : ℕ) (b : Bit NodeState) → b.site.joined ≡ false → would_be_slow byte b ≡ false
would_nobody byte b apart =
    ap (λ j. j && (((byte / 2) == b.site.addr) && is_slow (node_table.answer b.site.state (event.Start (is_reading byte))))) apart

acks_nobody : (byte : ℕ) (b : Bit NodeState) → b.site.joined ≡ false → would_ack byte b ≡ false
acks_nobody byte b apart =
    ap (λ j. j && (((byte / 2) == b.site.addr) && is_ack (node_table.answer b.site.state (event.Start (is_reading byte))))) apart

-- ---- one target
shared_site : (left v : ℕ) (b : Bit NodeState) (j : Bool) → b.site.joined ≡ j → (shared left v b).site ≡ b.site
shared_site zero v b j is = refl
shared_site (suc n) v b true is = ap (λ t. (cond t (stands b.site (In true (suc n) v) 0) b).site) is
shared_site (suc n) v b false is = ap (λ t. (cond t (stands b.site (In true (suc n) v) 0) b).site) is

modes : (acks slow reading : Bool) → slow ≡ false
    → entered (next_of acks reading) ≡ cond (acks || slow) (cond reading (Give 8) (In false 8 0)) Out
modes true slow true is = refl
modes true slow false is = refl
modes false true reading is = cc
modes false false reading is = refl

enter_named : (n : Bool) (byte a : ℕ) (h : Bool) (x : NodeState) → (n && is_slow (node_table.answer x (event.Start (is_reading byte))))
    ≡ false
    → where_joined (seen Enter) (cond n (called node_table (site_of a true h x) (is_reading byte))
    (stands (other node_table (site_of a true h x)) Out 0))
    ≡ at (entered_by byte) (cond n (hears node_table (site_of a true h x) (is_reading byte)) (other node_table (site_of a true h x)))
enter_named true byte a h x quick =
    let answer = node_table.answer x (event.Start (is_reading byte)) in
    ap (λ m. stands (hears node_table (site_of a true h x) (is_reading byte)) m 0) (modes (is_ack answer) (is_slow answer)
    (is_reading byte) quick)
enter_named false byte a h x quick = refl

enter_so : (byte a : ℕ) (j h : Bool) (x : NodeState) (m : Mode) (k : ℕ) → would_be_slow byte (stands (site_of a j h x) m k) ≡ false
    → where_joined (seen Enter) (where_joined (seen (Address byte)) (stands (site_of a j h x) m k)) ≡ where_joined (address_in byte)
    (stands (site_of a j h x) m k)
enter_so byte a true h x m k quick = enter_named ((byte / 2) == a) byte a h x quick
enter_so byte a false h x m k quick = refl

shared_so : (byte left v a : ℕ) (j h : Bool) (x : NodeState) (m : Mode) (k : ℕ)
    → where_joined (address_in byte) (stands (site_of a j h x) m k) ≡ where_joined (address_in byte)
    (shared left v (stands (site_of a j h x) m k))
shared_so byte zero v a j h x m k = refl
shared_so byte (suc n) v a true h x m k = refl
shared_so byte (suc n) v a false h x m k = refl

acks_named : (n : Bool) (byte a : ℕ) (h : Bool) (x : NodeState)
    → acks_enter (cond n (called node_table (site_of a true h x) (is_reading byte)) (stands (other node_table (site_of a true h x)) Out 0))
    ≡ (n && is_ack (node_table.answer x (event.Start (is_reading byte))))
acks_named true byte a h x = refl
acks_named false byte a h x = refl

acks_so : (byte a : ℕ) (j h : Bool) (x : NodeState) (m : Mode) (k : ℕ)
    → acks_enter (where_joined (seen (Address byte)) (stands (site_of a j h x) m k)) ≡ would_ack byte (stands (site_of a j h x) m k)
acks_so byte a true h x m k = acks_named ((byte / 2) == a) byte a h x
acks_so byte a false h x m k = refl

acks_none : (b : Bit NodeState) → b ≡ released b.site → acks_enter b ≡ false
acks_none b out = ap acks_enter out ∙ and-false b.site.joined

entered_holds : (a : ℕ) (h : Bool) (x : NodeState) (n : Next) → holds_line (stands (site_of a true h x) (entered n) 0) ≡ false
entered_holds a h x Leave = refl
entered_holds a h x Take = refl
entered_holds a h x Send = refl

holds_so : (a : ℕ) (j h : Bool) (x : NodeState) (m : Mode) (k : ℕ) → holds_line (stands (site_of a j h x) m k) ≡ false
    → holds_line (where_joined (seen Enter) (stands (site_of a j h x) m k)) ≡ false
holds_so a false h x m k free = refl
holds_so a true h x Out k free = free
holds_so a true h x (In address left v) k free = free
holds_so a true h x (Answered begun acked next looks) k free = entered_holds a h x next
holds_so a true h x (Give left) k free = free
holds_so a true h x (Gave more) k free = free

pub enters_hold : (bs : List (Bit NodeState)) → some_one holds_line bs ≡ false → some_one holds_line
    (map (where_joined (seen Enter)) bs) ≡ false
enters_hold [] free = refl
enters_hold (b ∷ bs) free =
    let parts = or_parts (holds_line b) (some_one holds_line bs) free in
    rw (holds_so b.site.addr b.site.joined b.site.heard b.site.state b.mode b.hold parts.0, enters_hold bs parts.1) refl

waits_so : (left : ℕ) → 0 < left → (b : Bit NodeState) → ((n : ℕ) → left ≡ suc n → b.site.joined ≡ true → b ≡ released b.site)
    → b.site.joined ≡ true → b ≡ released b.site
waits_so zero some b waits joined = absurd (omega (arith, some))
waits_so (suc n) some b waits joined = waits n refl joined

-- ---- all of them, before
module _ (fair : IsFairTable node_table) (k : Rooted) (ps : List PlaceView) (held : Bool) (r : RegisterView) (live started_by : NumbersView)
    (at_it : List (List ℕ)) (bs : List (Bit NodeState)) (are : AreTargets k ps held r live started_by at_it bs) where
  -- another bit of an address may be the next
  pub coming_so : (now : RegisterView) → 0 < r.left → 0 < now.left → AreTargets k ps held now live started_by at_it bs
  coming_so now some some_now =
      record {
        places = are.places;
        kinds = are.kinds;
        clock = are.clock ∙ holds_coming r.left r.value bs some ∙ sym (holds_coming now.left now.value bs some_now);
        units = λ n b is. let u = are.units n b is in
            record {
              out = u.out;
              calm = u.calm;
              waits = λ m e joined. waits_so r.left some b u.waits joined;
              joined = u.joined;
              listed =
                  u.listed;
            };
        live_room = are.live_room;
        started_room = are.started_room;
        index = are.index;
      }

  pub held_none : 0 < r.left → held ≡ false
  held_none some = are.clock ∙ holds_coming r.left r.value bs some

  -- the address byte is told
  module _ (byte : ℕ) (low : byte / 2 < NO_ADDRESS) (live_new started_new : NumbersView) (mid : List (Bit NodeState)) where
    abbrev Has : ℕ → Type 0
    Has b = (b / 2 < NO_ADDRESS)
        → ((j : ℕ) → is_among live_new.items j ≡ (is_among live.items j || (is_among (get_or at_it (b / 2) []) j && joined_at bs j)))
        → ((j : ℕ) → is_among started_new.items j ≡ (is_among started_by.items j || (is_among
        (get_or at_it (b / 2) []) j && joined_at bs j)))
        → mid ≡ by_number (addressed started_new.items (get_or at_it (b / 2) []) b) 0 bs → mid ≡ map (where_joined (seen (Address b))) bs

    has_parts : (v : ℕ) (level : Bool) → Has (shifted v level)
    has_parts v level low_at live_has started_has is =
        let f = addressed started_new.items (get_or at_it (shifted v level / 2) []) (shifted v level) in
        is ∙ sym (seen_alone 0 0 (by_number f 0 bs) refl)
        ∙ called_all r.left v level live.items started_by.items live_new.items started_new.items at_it ps bs low_at are.units live_has
        started_has 0

    module _ (live_has : (j : ℕ) → is_among live_new.items j ≡ (is_among live.items j || (is_among
        (get_or at_it (byte / 2) []) j && joined_at bs j)))
        (started_has : (j : ℕ) → is_among started_new.items j ≡ (is_among started_by.items j
        || (is_among (get_or at_it (byte / 2) []) j && joined_at bs j)))
        (is : mid ≡ by_number (addressed started_new.items (get_or at_it (byte / 2) []) byte) 0 bs) where
      pub mid_called : mid ≡ map (where_joined (seen (Address byte))) bs
      mid_called = subst Has (sym (byte_parts byte)) (has_parts (byte / 2) (is_reading byte)) low live_has started_has is

      pub mid_are : 0 < r.left → (now : RegisterView) → now.left ≡ 0 → live_new.room ≡ live.room → started_new.room ≡ started_by.room
          → AreTargets k ps held now live_new started_new at_it mid
      mid_are some now over live_room started_room =
          let last : RegisterView = record { left = 1; value = byte / 2 } in
          called_are k ps held last live started_by at_it bs (coming_so last some (omega arith)) refl (is_reading byte) byte
          (byte_parts byte)
          low now over live_new started_new mid live_has started_has is live_room started_room

  module _ (byte : ℕ) (low : byte / 2 < NO_ADDRESS) (quick : list_any (slow_at bs) (get_or at_it (byte / 2) []) ≡ false) where
    quick_one : (n : ℕ) (b : Bit NodeState) → slice_get bs n ≡ Some b → would_be_slow byte b ≡ false
    quick_one n b is =
        one_slow fair (is_reading byte) b.site.joined ((byte / 2) == b.site.addr) b.site.state
        (λ names. ap (λ o. option_map_or (λ (c : Bit NodeState). c.site.joined && is_too_long (node_table.hold c.site.state)) o false)
        (sym is)
        ∙ none_has (slow_at bs) (get_or at_it (byte / 2) []) quick n ((are.units n b is).listed (byte / 2) low ∙ names))

    pub quick_all : some_one (would_be_slow byte) (map (shared r.left r.value) (whole_on k.board ps bs)) ≡ false
    quick_all =
        sym (whole_some k.board ps (would_be_slow byte) (would_nobody byte) r.left r.value bs
        (units_away ps r.left live.items started_by.items at_it bs are.units))
        ∙ some_kept (would_be_slow byte) (shared r.left r.value) bs
        (λ b. ap (answers_so node_table is_slow (byte / 2) (is_reading byte)) (shared_site r.left r.value b b.site.joined refl))
        ∙ some_none (would_be_slow byte) bs quick_one

    -- the targets between the address and its acknowledge clock
    module _ (mid : List (Bit NodeState)) (called_is : mid ≡ map (where_joined (seen (Address byte))) bs) where
      pub entered_is : map (where_joined (seen Enter)) mid ≡ map (where_joined (address_in byte)) (map (shared r.left r.value) bs)
      entered_is =
          ap (map (where_joined (seen Enter))) called_is ∙ map_map (where_joined (seen Enter)) (where_joined (seen (Address byte))) bs
          ∙ map_same (λ b. where_joined (seen Enter) (where_joined (seen (Address byte)) b))
          (λ b. where_joined (address_in byte) (shared r.left r.value b)) bs
          (λ n b is. enter_so byte b.site.addr b.site.joined b.site.heard b.site.state b.mode b.hold (quick_one n b is)
          ∙ shared_so byte r.left r.value b.site.addr b.site.joined b.site.heard b.site.state b.mode b.hold)
          ∙ sym (map_map (where_joined (address_in byte)) (shared r.left r.value) bs)

      some_mapped_so : (xs : List (Bit NodeState)) → some_one acks_enter (map (where_joined (seen (Address byte))) xs) ≡ some_one
          (would_ack byte) xs
      some_mapped_so [] = refl
      some_mapped_so (b ∷ xs) =
          rw (acks_so byte b.site.addr b.site.joined b.site.heard b.site.state b.mode b.hold, some_mapped_so xs) refl

      pub acks_is : some_one acks_enter mid ≡ some_one (would_ack byte) (map (shared r.left r.value) (whole_on k.board ps bs))
      acks_is =
          ap (some_one acks_enter) called_is ∙ some_mapped_so bs
          ∙ sym (some_kept (would_ack byte) (shared r.left r.value) bs
          (λ b. ap (answers_so node_table is_ack (byte / 2) (is_reading byte)) (shared_site r.left r.value b b.site.joined refl)))
          ∙ whole_some k.board ps (would_ack byte) (acks_nobody byte) r.left r.value bs
          (units_away ps r.left live.items started_by.items at_it bs are.units)

-- ---- all of them, in the acknowledge clock
pub enter_acks : (left : ℕ) (live started_by : List ℕ) (at_it : List (List ℕ)) (ps : List PlaceView) (mid : List (Bit NodeState))
    → AreUnits left live started_by at_it (joins_by ps (states_on mid)) mid
    → some_by (of_those live acks_enter) 0 mid ≡ some_one acks_enter mid
enter_acks left live started_by at_it ps mid units =
    some_of_those live acks_enter mid (λ n b is out. acks_none b ((units n b is).out out))

-- ---- after a start it is one event of each site
address_at : (byte a : ℕ) (j h : Bool) (x : NodeState)
    → where_joined (address_in byte) (calling 8 0 (site_of a j h x)) ≡ at (entered_by byte) (started node_table byte (site_of a j h x))
address_at byte a true h x = refl
address_at byte a false h x = refl

addresses_at : (byte : ℕ) (ss : List (Site NodeState))
    → map (where_joined (address_in byte)) (map (calling 8 0) ss) ≡ map (at (entered_by byte)) (map (started node_table byte) ss)
addresses_at byte [] = refl
addresses_at byte (s ∷ ss) = rw (address_at byte s.addr s.joined s.heard s.state, addresses_at byte ss) refl

answers_at : (p : Site NodeState → Bool) (ss : List (Site NodeState))
    → some_one (λ (b : Bit NodeState). p b.site) (map (calling 8 0) ss) ≡ some_one p ss
answers_at p [] = refl
answers_at p (s ∷ ss) = ap (λ t. p s || t) (answers_at p ss)

-- ---- on the lines it is what its nine clocks come to
pub address_is : AddressIsOneEvent node_table → (t u : TargetsView) (w v : Wire) (now : LinesView) → lines_of t w ≡ now → (byte : ℕ)
    → byte < 256
    → IsCalled now.bus → (acked : Bool) → AddressIs byte acked t u → (level : Bool) → v ≡ wire_nine w false level
    → came_up (shifted 0 (not acked)) (bus_of v.scl v.sda u.bits u.shown) ≡ sent_byte the_table (mask_at now.rooted) byte now.bus
unfolding the_table
address_is law t u w v now view byte lt called acked is level wire =
    let ss : List (Site NodeState) = called.sites in
    let m : Mode = entered_by byte in
    let there : t.bits ≡ map (calling 8 0) ss = ap (λ (l : LinesView). l.bus.targets) view ∙ ap
    (λ (b : Bus NodeState). b.targets) called.lines in
    let quick : some_one (answers_so node_table is_slow (byte / 2) (is_reading byte)) ss ≡ false =
    sym (ap (some_one (would_be_slow byte)) there ∙ answers_at (answers_so node_table is_slow (byte / 2) (is_reading byte)) ss)
    ∙ is.in_time in
    let says : acked ≡ some_one (answers_so node_table is_ack (byte / 2) (is_reading byte)) ss =
    is.answer ∙ ap (some_one (would_ack byte)) there ∙ answers_at (answers_so node_table is_ack (byte / 2) (is_reading byte)) ss in
    let leaves : u.bits ≡ map (at m) (map (started node_table byte) ss) =
    ap (λ (x : TargetsView). x.bits) is.after ∙ ap (map (where_joined (address_in byte))) there ∙ addresses_at byte ss in
    let shows : u.shown ≡ byte_seen byte acked now.bus.seen =
    ap (λ (x : TargetsView). x.shown) is.after ∙ ap (λ (l : LinesView). byte_seen byte acked l.bus.seen) view in
    ap (λ (x : Wire). came_up (shifted 0 (not acked)) (bus_of x.scl x.sda u.bits u.shown)) wire
    ∙ ap (λ bs. came_up (shifted 0 (not acked)) (bus_of true false bs u.shown)) leaves
    ∙ ap (λ c. came_up (shifted 0 (not acked)) (within m false (map (started node_table byte) ss) c)) shows
    ∙ ap (λ a. came_up (shifted 0 (not a)) (within m false (map (started node_table byte) ss) (byte_seen byte a now.bus.seen))) says
    ∙ sym (ap (sent_byte node_table (mask_at now.rooted) byte) called.lines ∙ law (mask_at now.rooted) byte lt true ss now.bus.seen quick)

-- and so it is answered
pub came_ack : (b : Bus NodeState) (eight sent : Came NodeState) (acked : Bool) (a : Answer) → came_up (shifted 0 (not acked)) b ≡ sent
    → acked ≡ true → a ≡ Ack → CameAnswer (Ok a) b eight sent
came_ack b eight sent acked a e took is =
    subst (λ (x : Answer). CameAnswer (Ok x) b eight sent) (sym is) (ap (λ x. came_up (shifted 0 (not x)) b) (sym took) ∙ e)

pub came_nack : (b : Bus NodeState) (eight sent : Came NodeState) (acked : Bool) (a : Answer) → came_up (shifted 0 (not acked)) b ≡ sent
    → acked ≡ false → a ≡ Nack → CameAnswer (Ok a) b eight sent
came_nack b eight sent acked a e left is =
    subst (λ (x : Answer). CameAnswer (Ok x) b eight sent) (sym is) (ap (λ x. came_up (shifted 0 (not x)) b) (sym left) ∙ e)
