-- A byte that is put, all nine clocks at once: what it is to each target, to all of them, and on the lines.
use Rattle.bus_lines.proofs.Cited.{◌≡◌, ℕ, zero, suc, ◌<◌, Bool, true, false, ◌&&◌, List, [], ◌∷◌, map, refl, sym, ap, ◌∙◌, arith, not}
use Rattle.bus_lines.proofs.Cited.{Mode, Out, In, Answered, Give, Gave, Site, Bit, site_of, stands, shifted, where_joined, some_one, at}
use Rattle.bus_lines.proofs.Cited.{Bus, bus_of, came_up, holds_line, released, byte_seen, within, sent_byte, NodeState, node_table, both}
use Rattle.bus_lines.proofs.Cited.{Wire, mask_at, StandsIn, chips_on, devices_on, Put, seen, acks_put}
use Rattle.bus_lines.proofs.Cited.{TargetsView, LinesView, lines_of, wire_nine, shared}
use Rattle.bus_lines.proofs.Cited.{and-false}
use Rattle.wire_spec.specs.Roots.{put_site, acks}
use Rattle.wire_spec.specs.Laws.{PutsAreEvents}
use Rattle.i2c_bits.specs.Wiring.{the_table}
use Rattle.bus_lines.specs.Edges.{acks_in}
use Rattle.bus_lines.proofs.AddressLemmas.{seen_each, some_mapped}

-- ---- one target
holds_so : (byte : ℕ) (a : ℕ) (j h : Bool) (x : NodeState) (m : Mode) (k : ℕ)
    → holds_line (where_joined (seen (Put byte)) (stands (site_of a j h x) m k)) ≡ holds_line (stands (site_of a j h x) m k)
holds_so byte a false h x m k = refl
holds_so byte a true h x Out k = refl
holds_so byte a true h x (In true left v) k = refl
holds_so byte a true h x (In false left v) k = refl
holds_so byte a true h x (Answered begun acked next looks) k = refl
holds_so byte a true h x (Give left) k = refl
holds_so byte a true h x (Gave more) k = refl

-- who held SCL before does so still
pub puts_hold : (byte : ℕ) (b : Bit NodeState) → holds_line (where_joined (seen (Put byte)) b) ≡ holds_line b
puts_hold byte b = holds_so byte b.site.addr b.site.joined b.site.heard b.site.state b.mode b.hold

pub acks_none : (byte : ℕ) (b : Bit NodeState) → b ≡ released b.site → acks_put byte b ≡ false
acks_none byte b out = ap (acks_put byte) out ∙ and-false b.site.joined

pub acks_nobody : (byte : ℕ) (b : Bit NodeState) → b.site.joined ≡ false → acks_put byte b ≡ false
acks_nobody byte b apart = ap (λ j. j && acks_in byte b b.mode) apart

-- ---- while an address comes in it is nothing
shared_puts_so : (n v byte : ℕ) (a : ℕ) (j h : Bool) (x : NodeState) (m : Mode) (k : ℕ)
    → shared (suc n) v (stands (site_of a j h x) m k) ≡ where_joined (seen (Put byte)) (shared (suc n) v (stands (site_of a j h x) m k))
shared_puts_so n v byte a true h x m k = refl
shared_puts_so n v byte a false h x m k = refl

shared_acks_so : (n v byte : ℕ) (a : ℕ) (j h : Bool) (x : NodeState) (m : Mode) (k : ℕ)
    → acks_put byte (shared (suc n) v (stands (site_of a j h x) m k)) ≡ false
shared_acks_so n v byte a true h x m k = refl
shared_acks_so n v byte a false h x m k = refl

pub puts_coming : (byte left v : ℕ) (bs : List (Bit NodeState)) → 0 < left
    → map (shared left v) bs ≡ map (where_joined (seen (Put byte))) (map (shared left v) bs)
puts_coming byte zero v bs some = absurd (omega (arith, some))
puts_coming byte (suc n) v bs some =
    seen_each (shared (suc n) v) (shared (suc n) v) (where_joined (seen (Put byte))) bs
    (λ b. shared_puts_so n v byte b.site.addr b.site.joined b.site.heard b.site.state b.mode b.hold)

pub acks_coming : (byte left v : ℕ) (bs : List (Bit NodeState)) → 0 < left → some_one (acks_put byte) (map (shared left v) bs) ≡ false
acks_coming byte zero v bs some = absurd (omega (arith, some))
acks_coming byte (suc n) v bs some =
    some_mapped (acks_put byte) (shared (suc n) v) bs
    (λ b. shared_acks_so n v byte b.site.addr b.site.joined b.site.heard b.site.state b.mode b.hold)

-- ---- between two bytes of a write it is one event of each site
put_at : (byte : ℕ) (a : ℕ) (j h : Bool) (x : NodeState)
    → where_joined (seen (Put byte)) (at (In false 8 0) (site_of a j h x)) ≡ at (In false 8 0) (put_site node_table byte (site_of a j h x))
put_at byte a true true x = refl
put_at byte a true false x = refl
put_at byte a false h x = refl

acks_at : (byte : ℕ) (a : ℕ) (j h : Bool) (x : NodeState) → acks_put byte (at (In false 8 0) (site_of a j h x)) ≡ acks node_table byte
    (site_of a j h x)
acks_at byte a true true x = refl
acks_at byte a true false x = refl
acks_at byte a false h x = refl

puts_at : (byte : ℕ) (ss : List (Site NodeState))
    → map (where_joined (seen (Put byte))) (map (at (In false 8 0)) ss) ≡ map (at (In false 8 0)) (map (put_site node_table byte) ss)
puts_at byte [] = refl
puts_at byte (s ∷ ss) = rw (put_at byte s.addr s.joined s.heard s.state, puts_at byte ss) refl

some_acks_at : (byte : ℕ) (ss : List (Site NodeState)) → some_one (acks_put byte) (map (at (In false 8 0)) ss) ≡ some_one
    (acks node_table byte) ss
some_acks_at byte [] = refl
some_acks_at byte (s ∷ ss) = rw (acks_at byte s.addr s.joined s.heard s.state, some_acks_at byte ss) refl

-- ---- on the lines it is what its nine clocks come to
pub send_is : PutsAreEvents node_table → (t u : TargetsView) (w v : Wire) (now : LinesView) → lines_of t w ≡ now → (byte : ℕ) → byte < 256
    → StandsIn now.rooted (In false 8 0) now.bus → (acked : Bool) → acked ≡ some_one (acks_put byte) t.bits
    → u ≡ record t { bits = map (where_joined (seen (Put byte))) t.bits; shown = byte_seen byte acked t.shown } → (level : Bool)
    → v ≡ wire_nine w false level
    → came_up (shifted 0 (not acked)) (bus_of v.scl v.sda u.bits u.shown) ≡ sent_byte the_table (mask_at now.rooted) byte now.bus
unfolding the_table
send_is law t u w v now view byte lt stands acked answer is level wire =
    let ss : List (Site NodeState) = both (chips_on now.bus) (devices_on now.bus) in
    let m : Mode = In false 8 0 in
    let there : t.bits ≡ map (at m) ss = ap (λ (l : LinesView). l.bus.targets) view ∙ ap (λ (b : Bus NodeState). b.targets) stands.lines in
    let says : acked ≡ some_one (acks node_table byte) ss = answer ∙ ap (some_one (acks_put byte)) there ∙ some_acks_at byte ss in
    let leaves : u.bits ≡ map (at m) (map (put_site node_table byte) ss) =
    ap (λ (x : TargetsView). x.bits) is ∙ ap (map (where_joined (seen (Put byte)))) there ∙ puts_at byte ss in
    let shows : u.shown ≡ byte_seen byte acked now.bus.seen =
    ap (λ (x : TargetsView). x.shown) is ∙ ap (λ (l : LinesView). byte_seen byte acked l.bus.seen) view in
    ap (λ (x : Wire). came_up (shifted 0 (not acked)) (bus_of x.scl x.sda u.bits u.shown)) wire
    ∙ ap (λ bs. came_up (shifted 0 (not acked)) (bus_of true false bs u.shown)) leaves
    ∙ ap (λ c. came_up (shifted 0 (not acked)) (within m false (map (put_site node_table byte) ss) c)) shows
    ∙ ap (λ a. came_up (shifted 0 (not a)) (within m false (map (put_site node_table byte) ss) (byte_seen byte a now.bus.seen))) says
    ∙ sym (ap (sent_byte node_table (mask_at now.rooted) byte) stands.lines
    ∙ law (mask_at now.rooted) byte lt now.bus.sda ss now.bus.seen)
