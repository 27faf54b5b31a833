-- The eight bits of an address, after a start.
use Rattle.wire_spec.proofs.Cited.{◌≡◌, ℕ, suc, ◌-◌, ◌%◌, Bool, true, false, cond, List, [], ◌∷◌, length, map, refl, ap, ◌∙◌, arith, ◌==◌}
use Rattle.wire_spec.proofs.Cited.{Table, Out, Answered, site_of, Site, Bit, shifted, value, rise, fall, hears, other, called, stretch}
use Rattle.wire_spec.proofs.Cited.{next_of, is_named, is_reading, acks_start, stands, pulls_line, sda, where_joined, run, calling}
use Rattle.wire_spec.proofs.Roots.{map_step, free_sda}
use Rattle.wire_spec.proofs.AckClock.{waiting_by, waiting}

pub call_one : {X : Type 0} (t : Table X) (n v : ℕ) (h : Bool) (a : ℕ) (j e : Bool) (x : X)
    → where_joined (λ b. fall (rise t b h)) (calling (suc (suc n)) v (site_of a j e x)) ≡ calling (suc n) (shifted v h) (site_of a j e x)
call_one t n v h a true e x = refl
call_one t n v h a false e x = refl

sub_none : (n : ℕ) → n ≡ n - 0
sub_none n = omega arith

last_hit : {X : Type 0} (t : Table X) (byte a : ℕ) (e h : Bool) (x : X)
    → fall (cond {A = Bit X} h (called t (site_of a true e x) ((byte % 2) == 1)) (stands (other t (site_of a true e x)) Out 0))
    ≡ waiting_by t byte 65 0 (site_of a true e x) h
last_hit t byte a e true x =
    let s = site_of a true e x in
    ap (λ n. stands (hears t s (is_reading byte)) (Answered true (acks_start t s (is_reading byte))
    (next_of (acks_start t s (is_reading byte)) (is_reading byte)) 65) n) (sub_none (stretch t s (is_reading byte)))
last_hit t byte a e false x = refl

-- one bit is left: named or not
pub call_last : {X : Type 0} (t : Table X) (v : ℕ) (h : Bool) (a : ℕ) (j e : Bool) (x : X)
    → where_joined (λ b. fall (rise t b h)) (calling 1 v (site_of a j e x)) ≡ waiting t (shifted v h) 65 0 (site_of a j e x)
call_last t v h a true e x = last_hit t (shifted v h) a e (is_named (shifted v h) (site_of a true e x)) x
call_last t v h a false e x = refl

pub call_quiet : {X : Type 0} (t : Table X) (n v a : ℕ) (j e : Bool) (x : X) → pulls_line t (calling n v (site_of a j e x)) ≡ false
call_quiet t n v a true e x = refl
call_quiet t n v a false e x = refl

pub call_sda : {X : Type 0} (t : Table X) (n v : ℕ) (ss : List (Site X)) (h : Bool) → sda t (map (calling n v) ss) h ≡ h
call_sda t n v ss h = free_sda t (calling n v) (λ s. call_quiet t n v s.addr s.joined s.heard s.state) ss h

-- the bits of the address byte
pub call_run : {X : Type 0} (t : Table X) (h : Bool) (hs : List Bool) (v : ℕ) (ss : List (Site X))
    → run t (map (calling (suc (length hs)) v) ss) (h ∷ hs) ≡ map (waiting t (value v (h ∷ hs)) 65 0) ss
call_run t h [] v ss =
    map_step (calling 1 v) (waiting t (shifted v (sda t (map (calling 1 v) ss) h)) 65 0) _
    (λ s. call_last t v (sda t (map (calling 1 v) ss) h) s.addr s.joined s.heard s.state) ss
    ∙ ap (λ l. map (waiting t (shifted v l) 65 0) ss) (call_sda t 1 v ss h)
call_run t h (k ∷ hs) v ss =
    ap (λ bs. run t bs (k ∷ hs))
    (map_step (calling (suc (suc (length hs))) v) (calling (suc (length hs))
    (shifted v (sda t (map (calling (suc (suc (length hs))) v) ss) h))) _
    (λ s. call_one t (length hs) v (sda t (map (calling (suc (suc (length hs))) v) ss) h) s.addr s.joined s.heard s.state) ss
    ∙ ap (λ l. map (calling (suc (length hs)) (shifted v l)) ss) (call_sda t (suc (suc (length hs))) v ss h))
    ∙ call_run t k hs (shifted v h) ss
