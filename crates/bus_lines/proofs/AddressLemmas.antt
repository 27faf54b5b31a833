-- All targets, while an address byte comes in, at its last bit, and at the start before it.
use Rattle.bus_lines.proofs.Cited.{◌≡◌, ℕ, suc, ◌/◌, ◌==◌, ◌<◌, Bool, true, false, ◌&&◌, ◌||◌, cond, List, [], ◌∷◌, map, get_or, Some, refl}
use Rattle.bus_lines.proofs.Cited.{sym, ap, ◌∙◌, subst, ◌⊎◌, inl, inr, arith, slice_get, list_all, option_map_or, eqb_tells, Out, Bit}
use Rattle.bus_lines.proofs.Cited.{stands, called, other, is_named, is_reading, shifted, rise, fall, tick, begin, where_joined, some_one}
use Rattle.bus_lines.proofs.Cited.{pulls_line, holds_line, released, NodeState, NO_ADDRESS, node_table, Leave, Address, seen, joined_at}
use Rattle.bus_lines.proofs.Cited.{PlaceView, states_on, joins_by, is_among, by_number, to_those, shared, addressed, IsCalm, IsUnit}
use Rattle.bus_lines.proofs.Cited.{AreUnits, or_parts, map_map}
use Rattle.bus_lines.proofs.KindLemmas.{addr_kept, joined_kept, doors, doors_kept, states_numbered, joins_kept}
use Rattle.bus_lines.proofs.NumberedLemmas.{map_numbered}
use Rattle.bus_lines.proofs.UnitLemmas.{done_none, calm_other, shared_rises, shared_last, shared_falls, shared_ticks, shared_holds}
use Rattle.bus_lines.proofs.UnitLemmas.{shared_pulls, shared_begins, addressed_all, address_holds}
use Rattle.bus_lines.proofs.TargetsLemmas.{IsTouched, touched_all, stays_out, stays_calm}
use Rattle.std.proofs.lemmas.Bool.{and_parts}
use mathlib.Core.Bool.{and-true}

map_each : {A B : Type 0} (f g : A → B) (xs : List A) → ((x : A) → f x ≡ g x) → map f xs ≡ map g xs
map_each f g [] same = refl
map_each f g (x ∷ xs) same = ap (λ y. y ∷ map f xs) (same x) ∙ ap (λ ys. g x ∷ ys) (map_each f g xs same)

-- what is kept, as it is seen, is what is seen of what was kept
pub seen_each : (g h f : Bit NodeState → Bit NodeState) (bs : List (Bit NodeState)) → ((b : Bit NodeState) → g b ≡ f (h b))
    → map g bs ≡ map f (map h bs)
seen_each g h f bs same = map_each g (λ b. f (h b)) bs same ∙ sym (map_map f h bs)

pub seen_numbered : (f : ℕ → Bit NodeState → Bit NodeState) (g h e : Bit NodeState → Bit NodeState) (bs : List (Bit NodeState))
    → ((k : ℕ) (b : Bit NodeState) → slice_get bs k ≡ Some b → g (f k b) ≡ e (h b)) → map g (by_number f 0 bs) ≡ map e (map h bs)
seen_numbered f g h e bs same = map_numbered f g (λ b. e (h b)) bs same ∙ sym (map_map e h bs)

pub some_mapped : (p : Bit NodeState → Bool) (g : Bit NodeState → Bit NodeState) (bs : List (Bit NodeState))
    → ((b : Bit NodeState) → p (g b) ≡ false) → some_one p (map g bs) ≡ false
some_mapped p g [] none = refl
some_mapped p g (b ∷ bs) none = rw (none b) (some_mapped p g bs none)

-- ---- while it comes in nobody is touched
pub coming_falls : (n v : ℕ) (bs : List (Bit NodeState)) → map (shared (suc n) v) bs ≡ map (where_joined fall) (map (shared (suc n) v) bs)
coming_falls n v bs = seen_each (shared (suc n) v) (shared (suc n) v) (where_joined fall) bs (shared_falls n v)

pub coming_ticks : (n v : ℕ) (bs : List (Bit NodeState)) → map (shared (suc n) v) bs ≡ map (where_joined tick) (map (shared (suc n) v) bs)
coming_ticks n v bs = seen_each (shared (suc n) v) (shared (suc n) v) (where_joined tick) bs (shared_ticks n v)

pub coming_rises : (n v : ℕ) (level : Bool) (bs : List (Bit NodeState))
    → map (shared (suc n) (shifted v level)) bs ≡ map (where_joined (λ b. rise node_table b level)) (map (shared (suc (suc n)) v) bs)
coming_rises n v level bs =
    seen_each (shared (suc n) (shifted v level)) (shared (suc (suc n)) v) (where_joined (λ b. rise node_table b level)) bs
    (shared_rises n v level)

pub coming_holds : (n v : ℕ) (bs : List (Bit NodeState)) → some_one holds_line (map (shared (suc n) v) bs) ≡ false
coming_holds n v bs = some_mapped holds_line (shared (suc n) v) bs (shared_holds n v)

pub coming_pulls : (n v : ℕ) (bs : List (Bit NodeState)) → some_one (pulls_line node_table) (map (shared (suc n) v) bs) ≡ false
coming_pulls n v bs = some_mapped (pulls_line node_table) (shared (suc n) v) bs (shared_pulls n v)

pub coming_units : (n : ℕ) (live started : List ℕ) (at : List (List ℕ)) (joins : ℕ → Bool) (bs : List (Bit NodeState))
    → AreUnits (suc (suc n)) live started at joins bs → AreUnits (suc n) live started at joins bs
coming_units n live started at joins bs units k b is =
    let u = units k b is in
    record { out = u.out; calm = u.calm; waits = λ m e joined. u.waits (suc n) refl joined; joined = u.joined; listed = u.listed }

unnamed_out : (byte : ℕ) (b : Bit NodeState) (j : Bool) → (is_named byte b.site && j) ≡ false → b ≡ released b.site
    → cond j (seen (Address byte) b) b ≡ released (cond j (seen (Address byte) b) b).site
unnamed_out byte b true names out =
    let no : is_named byte b.site ≡ false = sym (and-true (is_named byte b.site)) ∙ names in
    let x = called node_table b.site (is_reading byte) in
    let y = stands (other node_table b.site) Out 0 in
    subst (λ (d : Bool). cond d x y ≡ released (cond d x y).site) (sym no) refl
unnamed_out byte b false names out = out

unnamed_calm : (byte : ℕ) (b : Bit NodeState) (j : Bool) → b.site.joined ≡ j → (is_named byte b.site && j) ≡ false → IsCalm b
    → where_joined (seen (Address byte)) b ≡ b
unnamed_calm byte b true is names calm = calm_other byte b (sym (and-true (is_named byte b.site)) ∙ names) calm
unnamed_calm byte b false is names calm = ap (λ j. cond j (seen (Address byte) b) b) is

pub joined_here : (bs : List (Bit NodeState)) (k : ℕ) (b : Bit NodeState) → slice_get bs k ≡ Some b → joined_at bs k ≡ b.site.joined
joined_here bs k b is = ap (λ o. option_map_or (λ (c : Bit NodeState). c.site.joined) o false) is

module _ (left v : ℕ) (level : Bool) (live started live_new started_new : List ℕ) (at : List (List ℕ)) (ps : List PlaceView)
    (bs : List (Bit NodeState))
    (low : shifted v level / 2 < NO_ADDRESS)
    (units : AreUnits left live started at (joins_by ps (states_on bs)) bs)
    (live_has : (k : ℕ) → is_among live_new k ≡ (is_among live k || (is_among (get_or at (shifted v level / 2) []) k && joined_at bs k)))
    (started_has : (k : ℕ) → is_among started_new k ≡ (is_among started k
    || (is_among (get_or at (shifted v level / 2) []) k && joined_at bs k))) where
  abbrev byte : ℕ
  byte = shifted v level

  abbrev at_it : List ℕ
  at_it = get_or at (shifted v level / 2) []

  abbrev call_to : ℕ → Bit NodeState → Bit NodeState
  call_to = addressed started_new at_it byte

  call_is : (k : ℕ) (b : Bit NodeState) → slice_get bs k ≡ Some b → call_to k b ≡ where_joined (seen (Address byte)) b
  call_is k b is =
      addressed_all (is_among started_new k) (is_among at_it k) byte b ((units k b is).listed (byte / 2) low)
      (λ out. (units k b is).calm (or_parts (is_among started k) (is_among at_it k && joined_at bs k) (sym (started_has k) ∙ out)).0)

  pub called_seen : (w : ℕ) → left ≡ 1 → map (shared 0 w) (by_number call_to 0 bs) ≡ map (where_joined (λ b. rise node_table b level))
      (map (shared left v) bs)
  called_seen w last =
      seen_numbered call_to (shared 0 w) (shared 1 v) (where_joined (λ b. rise node_table b level)) bs
      (λ k b is. call_is k b is ∙ shared_last v level b)
      ∙ ap (λ n. map (where_joined (λ b. rise node_table b level)) (map (shared n v) bs)) (sym last)

  pub called_doors : map doors (states_on (by_number call_to 0 bs)) ≡ map doors (states_on bs)
  called_doors =
      states_numbered doors call_to bs
      (λ k b is. ap (λ (c : Bit NodeState). doors c.site.state) (call_is k b is) ∙ doors_kept (Address byte) tt b)

  called_touched : (k : ℕ) (b : Bit NodeState) → slice_get bs k ≡ Some b → IsUnit left live started at (joins_by ps (states_on bs)) k b
      → IsTouched 0 live_new started_new k b (call_to k b)
  called_touched k b is u =
      let e = call_is k b is in
      let names : (is_among at_it k && joined_at bs k) ≡ (is_named byte b.site && b.site.joined) =
      ap (λ n. n && joined_at bs k) (u.listed (byte / 2) low) ∙ ap (λ j. is_named byte b.site && j) (joined_here bs k b is) in
      record {
        out = λ out.
            let parts = or_parts (is_among live k) (is_among at_it k && joined_at bs k) (sym (live_has k) ∙ out) in
            stays_out (where_joined (seen (Address byte)) b) (call_to k b) e
            (unnamed_out byte b b.site.joined (sym names ∙ parts.1) (u.out parts.0));
        calm = λ out.
            let parts = or_parts (is_among started k) (is_among at_it k && joined_at bs k) (sym (started_has k) ∙ out) in
            let calm = u.calm parts.0 in
            stays_calm b (call_to k b) (e ∙ unnamed_calm byte b b.site.joined refl (sym names ∙ parts.1) calm) calm;
        waits = λ n more joined. absurd (omega (arith, more));
        addr = ap (λ (c : Bit NodeState). c.site.addr) e ∙ addr_kept (Address byte) tt b;
        joined = ap (λ (c : Bit NodeState). c.site.joined) e ∙ joined_kept (Address byte) tt b;
      }

  pub called_units : AreUnits 0 live_new started_new at (joins_by ps (states_on (by_number call_to 0 bs))) (by_number call_to 0 bs)
  called_units =
      touched_all left 0 live started live_new started_new at (joins_by ps (states_on bs)) (joins_by ps
      (states_on (by_number call_to 0 bs))) call_to bs
      (joins_kept ps (states_on (by_number call_to 0 bs)) (states_on bs) called_doors) units called_touched

  pub called_all : (w : ℕ) → map (shared 0 w) (by_number call_to 0 bs) ≡ map (where_joined (seen (Address byte))) bs
  called_all w = map_numbered call_to (shared 0 w) (where_joined (seen (Address byte))) bs call_is

  pub called_holds : (w : ℕ) → some_one holds_line (map (shared 0 w) (by_number call_to 0 bs)) ≡ false
  called_holds w = ap (some_one holds_line) (called_all w) ∙ some_mapped holds_line (where_joined (seen (Address byte))) bs
      (address_holds byte)

pub same_of : (k n : ℕ) → (k == n) ≡ true → k ≡ n
same_of k n at = elim (eqb_tells k n) [
  | inl x ↦ x.1
  | inr x ↦ absurd (let f : true ≡ false = sym at ∙ x.0 in cc)
]

all_step : (p : ℕ → Bool) (n k : ℕ) (ns : List ℕ) (here : Bool) → (k == n) ≡ here → p n ≡ true → (is_among ns k ≡ true → p k ≡ true)
    → (here || is_among ns k) ≡ true → p k ≡ true
all_step p n k ns true at first rest among = ap p (same_of k n at) ∙ first
all_step p n k ns false at first rest among = rest among

-- what is so of all of some numbers is so of each of them
pub all_have : (p : ℕ → Bool) (ns : List ℕ) → list_all p ns ≡ true → (k : ℕ) → is_among ns k ≡ true → p k ≡ true
all_have p [] all k among = absurd (let e : false ≡ true = among in cc)
all_have p (n ∷ ns) all k among =
    let both = and_parts (p n) (list_all p ns) all in
    all_step p n k ns (k == n) refl both.0 (all_have p ns both.1 k) among

left_out : (t j : Bool) (b : Bit NodeState) → b.site.joined ≡ j → (t ≡ false → b ≡ released b.site) → (t ≡ true → j ≡ true)
    → cond t (where_joined (seen Leave) b) b ≡ released (cond t (where_joined (seen Leave) b) b).site
left_out true true b is out joined =
    subst (λ (j : Bool). cond j (released b.site) b ≡ released (cond j (released b.site) b).site) (sym is) refl
left_out true false b is out joined = absurd (let e : false ≡ true = joined refl in cc)
left_out false j b is out joined = out refl

left_site : (t j : Bool) (b : Bit NodeState) → (cond t (cond j (released b.site) b) b).site ≡ b.site
left_site true true b = refl
left_site true false b = refl
left_site false j b = refl

pub cleared : (all : Bool) (ns : List ℕ) (k : ℕ) → is_among (cond all [] ns) k ≡ false → (all ≡ true) ⊎ (is_among ns k ≡ false)
cleared true ns k out = inl refl
cleared false ns k out = inr out

pub not_both : (t : Bool) → t ≡ false → t ≡ true → ⊥
not_both true out among = let e : true ≡ false = out in cc
not_both false out among = let e : false ≡ true = among in cc

module _ (left v : ℕ) (live started : List ℕ) (at : List (List ℕ)) (ps : List PlaceView) (bs : List (Bit NodeState))
    (units : AreUnits left live started at (joins_by ps (states_on bs)) bs) where
  abbrev leave_to : ℕ → Bit NodeState → Bit NodeState
  leave_to = to_those live (where_joined (seen Leave))

  abbrev live_left : List ℕ
  live_left = cond (list_all (joined_at bs) live) [] live

  pub left_seen : map (shared 8 0) (by_number leave_to 0 bs) ≡ map (where_joined begin) (map (shared left v) bs)
  left_seen =
      seen_numbered leave_to (shared 8 0) (shared left v) (where_joined begin) bs (λ k b is. shared_begins (is_among live k) left v b)

  pub left_doors : map doors (states_on (by_number leave_to 0 bs)) ≡ map doors (states_on bs)
  left_doors =
      states_numbered doors leave_to bs (λ k b is. ap (λ s. doors s.state) (left_site (is_among live k) b.site.joined b))

  left_touched : (k : ℕ) (b : Bit NodeState) → slice_get bs k ≡ Some b → IsUnit left live started at (joins_by ps (states_on bs)) k b
      → IsTouched 8 live_left started k b (leave_to k b)
  left_touched k b is u =
      let t = is_among live k in
      let site = left_site t b.site.joined b in
      record {
        out = λ out. left_out t b.site.joined b refl u.out
            (λ among. elim (cleared (list_all (joined_at bs) live) live k out) [
              | inl all ↦ sym (joined_here bs k b is) ∙ all_have (joined_at bs) live all k among
              | inr gone ↦ absurd (not_both t gone among)
            ]);
        calm = λ out. let calm = u.calm out in
            stays_calm b (leave_to k b)
            (done_none t b (where_joined (seen Leave) b) (done_none b.site.joined b (released b.site) (sym calm.out))) calm;
        waits = λ n more joined. left_out t b.site.joined b refl u.out (λ among. sym (ap (λ s. s.joined) site) ∙ joined);
        addr = ap (λ s. s.addr) site;
        joined = ap (λ s. s.joined) site;
      }

  pub left_units : AreUnits 8 live_left started at (joins_by ps (states_on (by_number leave_to 0 bs))) (by_number leave_to 0 bs)
  left_units =
      touched_all left 8 live started live_left started at (joins_by ps (states_on bs)) (joins_by ps
      (states_on (by_number leave_to 0 bs))) leave_to bs
      (joins_kept ps (states_on (by_number leave_to 0 bs)) (states_on bs) left_doors) units left_touched
