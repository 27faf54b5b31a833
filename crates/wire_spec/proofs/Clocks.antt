-- Eight clocks of one target, by induction over what is left.
use Rattle.wire_spec.proofs.Cited.{◌≡◌, ℕ, suc, ◌<◌, Bool, true, false, cond, List, [], ◌∷◌, ◌++◌, length, refl, ap, sym, ◌∙◌, arith, not}
use Rattle.wire_spec.proofs.Cited.{Table, Out, In, Give, Gave, Site, Bit, bit, bits, shifted, value, fall, clock, puts, gets, stands}
use Rattle.wire_spec.specs.Wires.{whole, clocks}
use Rattle.wire_spec.proofs.ByteLemmas.{value_bits}

pub clocks_append : {X : Type 0} (t : Table X) (b : Bit X) (ls ms : List Bool) → clocks t b (ls ++ ms) ≡ clocks t (clocks t b ls) ms
clocks_append t b [] ms = refl
clocks_append t b (l ∷ ls) ms = clocks_append t (clock t b l) ls ms

-- the bits that are missing come in, and are one event
pub in_clocks : {X : Type 0} (t : Table X) (s : Site X) (address : Bool) (l : Bool) (ls : List Bool) (v : ℕ)
    → clocks t (stands s (In address (suc (length ls)) v) 0) (l ∷ ls) ≡ fall (whole t s address (value v (l ∷ ls)))
in_clocks t s address l [] v = refl
in_clocks t s address l (m ∷ ls) v = in_clocks t s address m ls (shifted v l)

-- the bits that are missing go out, whatever the levels are
pub give_clocks : {X : Type 0} (t : Table X) (s : Site X) (ls : List Bool)
    → clocks t (stands s (Give (length ls)) 0) ls ≡ stands s (Give 0) 0
give_clocks t s [] = refl
give_clocks t s (l ∷ ls) = give_clocks t s ls

-- a byte that is sent to a target which takes one: nine clocks, one event
pub put_clocks : {X : Type 0} (t : Table X) (s : Site X) (byte : ℕ) (last : Bool) → byte < 256
    → clocks t (stands s (In false 8 0) 0) (bits 8 byte ++ last ∷ [])
    ≡ stands (puts t s byte) (In false 8 0) 0
put_clocks t s byte last lt =
    let v : value 0 (bits 8 byte) ≡ byte = value_bits 8 byte 0 ∙ omega arith in
    clocks_append t (stands s (In false 8 0) 0) (bits 8 byte) (last ∷ [])
    ∙ (ap (λ b. clock t b last) (in_clocks t s false (bit byte 7) (bits 7 byte) 0)
    ∙ ap (λ n. stands (puts t s n) (In false 8 0) 0) v)

entered_by : {X : Type 0} (s : Site X) (more : Bool)
    → fall (stands s (Gave more) 0) ≡ stands s (cond more (Give 8) Out) 0
entered_by s true = refl
entered_by s false = refl

-- a byte that a target sends: the levels of the first eight clocks don't matter to it, and the ninth is the controller's answer
pub get_clocks : {X : Type 0} (t : Table X) (s : Site X) (ls : List Bool) (last : Bool) → length ls ≡ 8
    → clocks t (stands s (Give 8) 0) (ls ++ last ∷ [])
    ≡ stands (gets t s (not last)) (cond (not last) (Give 8) Out) 0
get_clocks t s ls last is =
    clocks_append t (stands s (Give 8) 0) ls (last ∷ [])
    ∙ (ap (λ n. clock t (clocks t (stands s (Give n) 0) ls) last) (sym is)
    ∙ (ap (λ b. clock t b last) (give_clocks t s ls) ∙ entered_by (gets t s (not last)) (not last)))
