-- The wires of one root: the targets that are joined see them, and pull them (UM10204 section 3.1.1). And what a call is to each
-- of their sites in the world of bytes.
use Rattle.std.specs.Prelude.{ℕ, ◌==◌, Bool, false, not, ◌&&◌, ◌||◌, List, [], ◌∷◌, cond, map, bit_and}
use Rattle.i2c_base.specs.declared.event.Event.TheVariants.{Put}
use Rattle.i2c_base.specs.Table.{Table}
use Rattle.i2c_spec.specs.World.{is_ack}
use Rattle.wire_spec.specs.declared.mode.Mode.{Mode}
use Rattle.wire_spec.specs.declared.mode.Mode.TheVariants.{Out}
use Rattle.wire_spec.specs.Wires.{Site, Bit, pulls, clock, hears, other, puts, gets, stops, stands}

-- it is so of someone
abbrev pub some_one : {A : Type 0} → (A → Bool) → List A → Bool
some_one p [] = false
some_one p (x ∷ xs) = p x || some_one p xs

-- it is on the wires, and pulls SDA
abbrev pub pulls_line : {X : Type 0} → Table X → Bit X → Bool
pulls_line t b = b.site.joined && pulls t b

-- SDA, which the controller lets go or pulls: low exactly where someone pulls it, a wired AND (section 3.1.1)
abbrev pub sda : {X : Type 0} → Table X → List (Bit X) → Bool → Bool
sda t bs high = high && not (some_one (pulls_line t) bs)

-- what only joined targets see
abbrev pub where_joined : {X : Type 0} → (Bit X → Bit X) → Bit X → Bit X
where_joined f b = cond b.site.joined (f b) b

-- one clock, in which the controller lets SDA go or pulls it; and several
abbrev pub clock_all : {X : Type 0} → Table X → List (Bit X) → Bool → List (Bit X)
clock_all t bs high = map (where_joined (λ b. clock t b (sda t bs high))) bs

abbrev pub run : {X : Type 0} → Table X → List (Bit X) → List Bool → List (Bit X)
run t bs [] = bs
run t bs (h ∷ hs) = run t (clock_all t bs h) hs

-- the level of SDA at each rise
abbrev pub levels : {X : Type 0} → Table X → List (Bit X) → List Bool → List Bool
levels t bs [] = []
levels t bs (h ∷ hs) = sda t bs h ∷ levels t (clock_all t bs h) hs

-- the bitwise AND of bytes, and 0xFF of none: what is read where several send
abbrev pub and_all : List ℕ → ℕ
and_all [] = 255
and_all (n ∷ ns) = bit_and n (and_all ns)

-- who is in the message: on the wires, and has heard
abbrev pub hearing : {X : Type 0} → Site X → Bool
hearing s = s.joined && s.heard

-- what a byte that is sent leaves of a site, and who acknowledges it
abbrev pub put_site : {X : Type 0} → Table X → ℕ → Site X → Site X
put_site t byte s = cond (hearing s) (puts t s byte) s

abbrev pub acks : {X : Type 0} → Table X → ℕ → Site X → Bool
acks t byte s = hearing s && is_ack (t.answer s.state (Put byte))

-- what the controller's answer to a byte that it read leaves, and which byte was sent: all ones where none is
abbrev pub get_site : {X : Type 0} → Table X → Bool → Site X → Site X
get_site t ack s = cond (hearing s) (gets t s ack) s

abbrev pub sent_by : {X : Type 0} → Table X → Site X → ℕ
sent_by t s = cond (hearing s) (t.sends s.state) 255

-- what a start leaves: one of its own for who has the address, and another's for all else on the wires
abbrev pub start_site : {X : Type 0} → Table X → ℕ → Bool → Site X → Site X
start_site t addr reading s = cond s.joined (cond (addr == s.addr) (hears t s reading) (other t s)) s

-- what a stop leaves
abbrev pub stop_site : {X : Type 0} → Table X → Site X → Site X
stop_site t s = cond s.joined (stops t s) s

-- between two calls: who has heard stands in this mode, and all else is released
abbrev pub at : {X : Type 0} → Mode → Site X → Bit X
at m s = stands s (cond (hearing s) m Out) 0
