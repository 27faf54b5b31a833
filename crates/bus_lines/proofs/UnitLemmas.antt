-- One target: what an edge is to it as it is seen, and as it is kept. It is told only where it has to be.
use Rattle.bus_lines.proofs.Cited.{◌≡◌, ℕ, zero, suc, Bool, true, false, cond, refl, sym, ap, ◌∙◌, arith, IsQuiet, Mode, Out, In, Site, Bit}
use Rattle.bus_lines.proofs.Cited.{site_of, stands, shifted, rise, fall, tick, begin, finish, named, called, other, is_named, is_reading}
use Rattle.bus_lines.proofs.Cited.{where_joined, pulls_line, holds_line, released, NodeState, node_table, Edge, Rise, Fall, Tick, Finish}
use Rattle.bus_lines.proofs.Cited.{Leave, Other, Address, Put, Get, Enter, seen, shared, IsCalm, and-false}
use Rattle.wire_spec.proofs.LiveLemmas.{out_rises, out_falls, out_ticks, out_pulls, out_holds, quiet_stop}

-- it is done where a test says so, and would do nothing elsewhere; or it does nothing
pub done_all : {A : Type 0} (t : Bool) (f : A → A) (x : A) → (t ≡ false → f x ≡ x) → cond t (f x) x ≡ f x
done_all true f x same = refl
done_all false f x same = sym (same refl)

pub done_none : {A : Type 0} (t : Bool) (x y : A) → y ≡ x → cond t y x ≡ x
done_none true x y same = same
done_none false x y same = refl

-- ---- who is out
-- an edge that changes nobody who is out of the message
abbrev pub IsWithin : Edge → Type 0
IsWithin (Rise level) = Unit {0}
IsWithin Fall = Unit {0}
IsWithin Tick = Unit {0}
IsWithin Finish = ⊥
IsWithin Leave = ⊥
IsWithin (Other byte) = ⊥
IsWithin (Address byte) = ⊥
IsWithin (Put byte) = Unit {0}
IsWithin (Get ack) = Unit {0}
IsWithin Enter = Unit {0}

pub both_same : (j : Bool) (b : Bit NodeState) → cond j b b ≡ b
both_same true b = refl
both_same false b = refl

pub out_sees : (e : Edge) → IsWithin e → (b : Bit NodeState) → b ≡ released b.site → where_joined (seen e) b ≡ b
out_sees (Rise level) within b out =
    ap (where_joined (seen (Rise level))) out ∙ out_rises node_table level b.site.addr b.site.joined b.site.heard b.site.state ∙ sym out
out_sees Fall within b out = ap (where_joined fall) out ∙ out_falls b.site.addr b.site.joined b.site.heard b.site.state ∙ sym out
out_sees Tick within b out = ap (where_joined tick) out ∙ out_ticks b.site.addr b.site.joined b.site.heard b.site.state ∙ sym out
out_sees Finish within b out = absurd within
out_sees Leave within b out = absurd within
out_sees (Other byte) within b out = absurd within
out_sees (Address byte) within b out = absurd within
out_sees (Put byte) within b out = ap (where_joined (seen (Put byte))) out ∙ both_same b.site.joined (released b.site) ∙ sym out
out_sees (Get ack) within b out = ap (where_joined (seen (Get ack))) out ∙ both_same b.site.joined (released b.site) ∙ sym out
out_sees Enter within b out = ap (where_joined (seen Enter)) out ∙ both_same b.site.joined (released b.site) ∙ sym out

pub holds_none : (b : Bit NodeState) → b ≡ released b.site → holds_line b ≡ false
holds_none b out = ap (λ (c : Bit NodeState). holds_line c) out ∙ out_holds b.site.addr b.site.joined b.site.heard b.site.state

pub pulls_none : (b : Bit NodeState) → b ≡ released b.site → pulls_line node_table b ≡ false
pulls_none b out = ap (pulls_line node_table) out ∙ out_pulls node_table b.site.addr b.site.joined b.site.heard b.site.state

-- ---- who is calm
calm_is : (b : Bit NodeState) → IsCalm b → b ≡ released (site_of b.site.addr b.site.joined false b.site.state)
calm_is b calm = calm.out ∙ ap (λ (h : Bool). released (site_of b.site.addr b.site.joined h b.site.state)) calm.deaf

pub calm_stops : (b : Bit NodeState) → IsCalm b → where_joined (seen Finish) b ≡ b
calm_stops b calm =
    ap (where_joined (finish node_table)) (calm_is b calm) ∙ quiet_stop node_table b.site.addr b.site.joined b.site.state calm.quiet
    ∙ sym (calm_is b calm)

other_calm : (byte a : ℕ) (j : Bool) (x : NodeState) → is_named byte (site_of a j false x) ≡ false → IsQuiet node_table x
    → where_joined (seen (Address byte)) (released (site_of a j false x)) ≡ released (site_of a j false x)
other_calm byte a true x names quiet =
    ap (λ d. cond d (called node_table (site_of a true false x) (is_reading byte))
    (stands (other node_table (site_of a true false x)) Out 0)) names
    ∙ ap (λ z. released (site_of a true false z)) quiet.other
other_calm byte a false x names quiet = refl

pub calm_other : (byte : ℕ) (b : Bit NodeState) → is_named byte b.site ≡ false → IsCalm b → where_joined (seen (Address byte)) b ≡ b
calm_other byte b names calm =
    ap (where_joined (seen (Address byte))) (calm_is b calm)
    ∙ other_calm byte b.site.addr b.site.joined b.site.state names calm.quiet
    ∙ sym (calm_is b calm)

-- ---- while an address comes in
rises_so : (n v : ℕ) (level : Bool) (a : ℕ) (j h : Bool) (x : NodeState) (m : Mode) (k : ℕ)
    → shared (suc n) (shifted v level) (stands (site_of a j h x) m k) ≡ where_joined (λ c. rise node_table c level)
    (shared (suc (suc n)) v (stands (site_of a j h x) m k))
rises_so n v level a true h x m k = refl
rises_so n v level a false h x m k = refl

last_so : (v : ℕ) (level : Bool) (a : ℕ) (j h : Bool) (x : NodeState) (m : Mode) (k : ℕ)
    → where_joined (seen (Address (shifted v level))) (stands (site_of a j h x) m k) ≡ where_joined (λ c. rise node_table c level)
    (shared 1 v (stands (site_of a j h x) m k))
last_so v level a true h x m k = refl
last_so v level a false h x m k = refl

falls_so : (n v : ℕ) (a : ℕ) (j h : Bool) (x : NodeState) (m : Mode) (k : ℕ) → shared (suc n) v
    (stands (site_of a j h x) m k) ≡ where_joined fall (shared (suc n) v (stands (site_of a j h x) m k))
falls_so n v a true h x m k = refl
falls_so n v a false h x m k = refl

ticks_so : (n v : ℕ) (a : ℕ) (j h : Bool) (x : NodeState) (m : Mode) (k : ℕ) → shared (suc n) v
    (stands (site_of a j h x) m k) ≡ where_joined tick (shared (suc n) v (stands (site_of a j h x) m k))
ticks_so n v a true h x m k = ap (λ i. stands (site_of a true h x) (In true (suc n) v) i) (omega arith)
ticks_so n v a false h x m k = refl

holds_so : (n v : ℕ) (a : ℕ) (j h : Bool) (x : NodeState) (m : Mode) (k : ℕ) → holds_line (shared (suc n) v (stands (site_of a j h x) m k))
    ≡ false
holds_so n v a true h x m k = refl
holds_so n v a false h x m k = refl

pulls_so : (n v : ℕ) (a : ℕ) (j h : Bool) (x : NodeState) (m : Mode) (k : ℕ) → pulls_line node_table
    (shared (suc n) v (stands (site_of a j h x) m k)) ≡ false
pulls_so n v a true h x m k = refl
pulls_so n v a false h x m k = refl

begins_so : (t : Bool) (left v : ℕ) (a : ℕ) (j h : Bool) (x : NodeState) (m : Mode) (k : ℕ)
    → shared 8 0 (cond t (where_joined (seen Leave) (stands (site_of a j h x) m k)) (stands (site_of a j h x) m k)) ≡ where_joined begin
    (shared left v (stands (site_of a j h x) m k))
begins_so true zero v a true h x m k = refl
begins_so true (suc n) v a true h x m k = refl
begins_so false zero v a true h x m k = refl
begins_so false (suc n) v a true h x m k = refl
begins_so true zero v a false h x m k = refl
begins_so true (suc n) v a false h x m k = refl
begins_so false zero v a false h x m k = refl
begins_so false (suc n) v a false h x m k = refl

finishes_so : (left v : ℕ) (a : ℕ) (j h : Bool) (x : NodeState) (m : Mode) (k : ℕ) → where_joined (finish node_table)
    (stands (site_of a j h x) m k) ≡ where_joined (finish node_table) (shared left v (stands (site_of a j h x) m k))
finishes_so zero v a j h x m k = refl
finishes_so (suc n) v a true h x m k = refl
finishes_so (suc n) v a false h x m k = refl

pub shared_rises : (n v : ℕ) (level : Bool) (b : Bit NodeState)
    → shared (suc n) (shifted v level) b ≡ where_joined (λ c. rise node_table c level) (shared (suc (suc n)) v b)
shared_rises n v level b = rises_so n v level b.site.addr b.site.joined b.site.heard b.site.state b.mode b.hold

pub shared_last : (v : ℕ) (level : Bool) (b : Bit NodeState)
    → where_joined (seen (Address (shifted v level))) b ≡ where_joined (λ c. rise node_table c level) (shared 1 v b)
shared_last v level b = last_so v level b.site.addr b.site.joined b.site.heard b.site.state b.mode b.hold

pub shared_falls : (n v : ℕ) (b : Bit NodeState) → shared (suc n) v b ≡ where_joined fall (shared (suc n) v b)
shared_falls n v b = falls_so n v b.site.addr b.site.joined b.site.heard b.site.state b.mode b.hold

pub shared_ticks : (n v : ℕ) (b : Bit NodeState) → shared (suc n) v b ≡ where_joined tick (shared (suc n) v b)
shared_ticks n v b = ticks_so n v b.site.addr b.site.joined b.site.heard b.site.state b.mode b.hold

pub shared_holds : (n v : ℕ) (b : Bit NodeState) → holds_line (shared (suc n) v b) ≡ false
shared_holds n v b = holds_so n v b.site.addr b.site.joined b.site.heard b.site.state b.mode b.hold

pub shared_pulls : (n v : ℕ) (b : Bit NodeState) → pulls_line node_table (shared (suc n) v b) ≡ false
shared_pulls n v b = pulls_so n v b.site.addr b.site.joined b.site.heard b.site.state b.mode b.hold

-- a start, whether those in the message leave it before or not
pub shared_begins : (t : Bool) (left v : ℕ) (b : Bit NodeState)
    → shared 8 0 (cond t (where_joined (seen Leave) b) b) ≡ where_joined begin (shared left v b)
shared_begins t left v b = begins_so t left v b.site.addr b.site.joined b.site.heard b.site.state b.mode b.hold

pub shared_finishes : (left v : ℕ) (b : Bit NodeState) → where_joined (finish node_table) b ≡ where_joined (finish node_table)
    (shared left v b)
shared_finishes left v b = finishes_so left v b.site.addr b.site.joined b.site.heard b.site.state b.mode b.hold

-- ---- an address byte
addressed_so : (s n : Bool) (byte : ℕ) (a : ℕ) (j h : Bool) (x : NodeState) (m : Mode) (k : ℕ) → is_named byte (site_of a j h x) ≡ n
    → (s ≡ false → IsCalm (stands (site_of a j h x) m k))
    → cond n (where_joined (seen (Address byte)) (cond s (where_joined (seen (Other byte)) (stands (site_of a j h x) m k))
    (stands (site_of a j h x) m k))) (cond s (where_joined (seen (Other byte)) (stands (site_of a j h x) m k))
    (stands (site_of a j h x) m k))
    ≡ where_joined (seen (Address byte)) (stands (site_of a j h x) m k)
addressed_so true true byte a true h x m k is calm =
    ap (λ d. where_joined (seen (Address byte)) (cond d (stands (site_of a true h x) m k) (named node_table (site_of a true h x) byte))) is
addressed_so true false byte a true h x m k is calm = ap (λ d. cond d (stands (site_of a true h x) m k)
    (named node_table (site_of a true h x) byte)) is
addressed_so false true byte a true h x m k is calm = refl
addressed_so false false byte a true h x m k is calm = sym (calm_other byte (stands (site_of a true h x) m k) is (calm refl))
addressed_so true true byte a false h x m k is calm = refl
addressed_so true false byte a false h x m k is calm = refl
addressed_so false true byte a false h x m k is calm = refl
addressed_so false false byte a false h x m k is calm = refl

pub addressed_all : (s n : Bool) (byte : ℕ) (b : Bit NodeState) → n ≡ is_named byte b.site → (s ≡ false → IsCalm b)
    → cond n (where_joined (seen (Address byte)) (cond s (where_joined (seen (Other byte)) b) b))
    (cond s (where_joined (seen (Other byte)) b) b)
    ≡ where_joined (seen (Address byte)) b
addressed_all s n byte b is calm =
    addressed_so s n byte b.site.addr b.site.joined b.site.heard b.site.state b.mode b.hold (sym is) calm

-- what an address byte leaves holds no line while SCL is high
either_holds : (d : Bool) (byte : ℕ) (s : Site NodeState)
    → holds_line (cond d (called node_table s (is_reading byte)) (stands (other node_table s) Out 0)) ≡ false
either_holds true byte s = and-false s.joined
either_holds false byte s = and-false s.joined

address_holds_so : (byte : ℕ) (a : ℕ) (j h : Bool) (x : NodeState) (m : Mode) (k : ℕ)
    → holds_line (where_joined (seen (Address byte)) (stands (site_of a j h x) m k)) ≡ false
address_holds_so byte a true h x m k = either_holds (is_named byte (site_of a true h x)) byte (site_of a true h x)
address_holds_so byte a false h x m k = refl

pub address_holds : (byte : ℕ) (b : Bit NodeState) → holds_line (where_joined (seen (Address byte)) b) ≡ false
address_holds byte b = address_holds_so byte b.site.addr b.site.joined b.site.heard b.site.state b.mode b.hold
