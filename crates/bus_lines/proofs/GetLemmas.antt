-- A byte that is read, all nine clocks at once: what it is to each target, to all of them, and on the lines.
use Rattle.bus_lines.proofs.Cited.{◌≡◌, ℕ, zero, suc, ◌<◌, Bool, true, false, cond, List, [], ◌∷◌, map, refl, sym, ap, ◌∙◌, arith, bit_and}
use Rattle.bus_lines.proofs.Cited.{and_self, Mode, Out, In, Answered, Give, Gave, Site, Bit, site_of, stands, where_joined}
use Rattle.bus_lines.proofs.Cited.{at, and_all, Bus, bus_of, came_up, holds_line, released, byte_seen, within, NodeState}
use Rattle.bus_lines.proofs.Cited.{node_table, both, Wire, mask_at, StandsIn, chips_on, devices_on, Get, seen, gives_get}
use Rattle.bus_lines.proofs.Cited.{TargetsView, LinesView, lines_of, wire_nine, shared}
use Rattle.wire_spec.specs.Roots.{get_site, sent_by}
use Rattle.wire_spec.specs.Calls.{read_byte}
use Rattle.wire_spec.specs.Laws.{GetsAreEvents}
use Rattle.i2c_bits.specs.Wiring.{the_table}
use Rattle.bus_lines.specs.Edges.{gives_in}
use Rattle.bus_lines.proofs.AddressLemmas.{seen_each}

-- ---- one target
holds_so : (ack : Bool) (a : ℕ) (j h : Bool) (x : NodeState) (m : Mode) (k : ℕ)
    → holds_line (where_joined (seen (Get ack)) (stands (site_of a j h x) m k)) ≡ holds_line (stands (site_of a j h x) m k)
holds_so ack a false h x m k = refl
holds_so ack a true h x Out k = refl
holds_so ack a true h x (In address left v) k = refl
holds_so ack a true h x (Answered begun acked next looks) k = refl
holds_so true a true h x (Give left) k = refl
holds_so false a true h x (Give left) k = refl
holds_so ack a true h x (Gave more) k = refl

-- who held SCL before does so still
pub gets_hold : (ack : Bool) (b : Bit NodeState) → holds_line (where_joined (seen (Get ack)) b) ≡ holds_line b
gets_hold ack b = holds_so ack b.site.addr b.site.joined b.site.heard b.site.state b.mode b.hold

no_byte : (b : Bool) → ◌≡◌ {A = ℕ} (cond b 255 255) 255
no_byte true = refl
no_byte false = refl

pub gives_none : (b : Bit NodeState) → b ≡ released b.site → gives_get b ≡ 255
gives_none b out = ap gives_get out ∙ no_byte b.site.joined

pub gives_nobody : (b : Bit NodeState) → b.site.joined ≡ false → gives_get b ≡ 255
gives_nobody b apart = ap (λ j. cond j (gives_in b b.mode) 255) apart

-- ---- while an address comes in it is nothing
shared_gets_so : (n v : ℕ) (ack : Bool) (a : ℕ) (j h : Bool) (x : NodeState) (m : Mode) (k : ℕ)
    → shared (suc n) v (stands (site_of a j h x) m k) ≡ where_joined (seen (Get ack)) (shared (suc n) v (stands (site_of a j h x) m k))
shared_gets_so n v ack a true h x m k = refl
shared_gets_so n v ack a false h x m k = refl

shared_gives_so : (n v : ℕ) (a : ℕ) (j h : Bool) (x : NodeState) (m : Mode) (k : ℕ)
    → gives_get (shared (suc n) v (stands (site_of a j h x) m k)) ≡ 255
shared_gives_so n v a true h x m k = refl
shared_gives_so n v a false h x m k = refl

pub gets_coming : (ack : Bool) (left v : ℕ) (bs : List (Bit NodeState)) → 0 < left
    → map (shared left v) bs ≡ map (where_joined (seen (Get ack))) (map (shared left v) bs)
gets_coming ack zero v bs some = absurd (omega (arith, some))
gets_coming ack (suc n) v bs some =
    seen_each (shared (suc n) v) (shared (suc n) v) (where_joined (seen (Get ack))) bs
    (λ b. shared_gets_so n v ack b.site.addr b.site.joined b.site.heard b.site.state b.mode b.hold)

no_bytes : (n v : ℕ) (bs : List (Bit NodeState)) → and_all (map gives_get (map (shared (suc n) v) bs)) ≡ 255
no_bytes n v [] = refl
no_bytes n v (b ∷ bs) =
    ap (λ x. bit_and x (and_all (map gives_get (map (shared (suc n) v) bs))))
    (shared_gives_so n v b.site.addr b.site.joined b.site.heard b.site.state b.mode b.hold)
    ∙ ap (bit_and 255) (no_bytes n v bs) ∙ and_self 255

pub gives_coming : (left v : ℕ) (bs : List (Bit NodeState)) → 0 < left → and_all (map gives_get (map (shared left v) bs)) ≡ 255
gives_coming zero v bs some = absurd (omega (arith, some))
gives_coming (suc n) v bs some = no_bytes n v bs

-- ---- between two bytes of a read it is one event of each site
get_at : (ack : Bool) (a : ℕ) (j h : Bool) (x : NodeState)
    → where_joined (seen (Get ack)) (at (Give 8) (site_of a j h x)) ≡ at (cond ack (Give 8) Out) (get_site node_table ack (site_of a j h x))
get_at ack a true true x = refl
get_at ack a true false x = refl
get_at ack a false h x = refl

gives_at : (a : ℕ) (j h : Bool) (x : NodeState) → gives_get (at (Give 8) (site_of a j h x)) ≡ sent_by node_table (site_of a j h x)
gives_at a true true x = refl
gives_at a true false x = refl
gives_at a false h x = refl

gets_at : (ack : Bool) (ss : List (Site NodeState))
    → map (where_joined (seen (Get ack))) (map (at (Give 8)) ss) ≡ map (at (cond ack (Give 8) Out)) (map (get_site node_table ack) ss)
gets_at ack [] = refl
gets_at ack (s ∷ ss) = rw (get_at ack s.addr s.joined s.heard s.state, gets_at ack ss) refl

all_gives_at : (ss : List (Site NodeState)) → map gives_get (map (at (Give 8)) ss) ≡ map (sent_by node_table) ss
all_gives_at [] = refl
all_gives_at (s ∷ ss) = rw (gives_at s.addr s.joined s.heard s.state, all_gives_at ss) refl

-- ---- on the lines it is what its nine clocks come to
pub receive_is : GetsAreEvents node_table → (t u : TargetsView) (w v : Wire) (now : LinesView) → lines_of t w ≡ now → (ack : Bool)
    → StandsIn now.rooted (Give 8) now.bus → (byte : ℕ) → byte ≡ and_all (map gives_get t.bits)
    → u ≡ record t { bits = map (where_joined (seen (Get ack))) t.bits; shown = byte_seen byte ack t.shown } → (level : Bool)
    → v ≡ wire_nine w ack level
    → came_up byte (bus_of v.scl v.sda u.bits u.shown) ≡ read_byte the_table (mask_at now.rooted) ack now.bus
unfolding the_table
receive_is law t u w v now view ack stands byte answer is level wire =
    let ss : List (Site NodeState) = both (chips_on now.bus) (devices_on now.bus) in
    let m : Mode = cond ack (Give 8) Out in
    let there : t.bits ≡ map (at (Give 8)) ss = ap (λ (l : LinesView). l.bus.targets) view ∙ ap
    (λ (b : Bus NodeState). b.targets) stands.lines in
    let says : byte ≡ and_all (map (sent_by node_table) ss) =
    answer ∙ ap (λ (bs : List (Bit NodeState)). and_all (map gives_get bs)) there ∙ ap and_all (all_gives_at ss) in
    let leaves : u.bits ≡ map (at m) (map (get_site node_table ack) ss) =
    ap (λ (x : TargetsView). x.bits) is ∙ ap (map (where_joined (seen (Get ack)))) there ∙ gets_at ack ss in
    let shows : u.shown ≡ byte_seen byte ack now.bus.seen =
    ap (λ (x : TargetsView). x.shown) is ∙ ap (λ (l : LinesView). byte_seen byte ack l.bus.seen) view in
    ap (λ (x : Wire). came_up byte (bus_of x.scl x.sda u.bits u.shown)) wire
    ∙ ap (λ bs. came_up byte (bus_of true ack bs u.shown)) leaves
    ∙ ap (λ c. came_up byte (within m ack (map (get_site node_table ack) ss) c)) shows
    ∙ ap (λ a. came_up a (within m ack (map (get_site node_table ack) ss) (byte_seen a ack now.bus.seen))) says
    ∙ sym (ap (read_byte node_table (mask_at now.rooted) ack) stands.lines ∙ law (mask_at now.rooted) ack now.bus.sda ss now.bus.seen)
