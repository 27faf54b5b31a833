-- All targets at a stop, with who is joined read anew, where a line is set, and as they are opened.
use Rattle.bus_lines.proofs.Cited.{◌≡◌, ℕ, zero, suc, ◌+◌, ◌==◌, ◌<◌, Bool, true, false, ◌||◌, cond, List, [], ◌∷◌, length, map, get_or}
use Rattle.bus_lines.proofs.Cited.{Option, Some, None, refl, sym, ap, ◌∙◌, subst, ◌⊎◌, inl, inr, arith, not, slice_get, if◌then◌else◌}
use Rattle.bus_lines.proofs.Cited.{list_all, list_any, option_map_or, map_from, facts_of, ChipView, IsQuiet, IsFairTable, In, Bit, stands}
use Rattle.bus_lines.proofs.Cited.{finish, where_joined, some_one, rejoin_from, released, NodeState, Chip, Device, NO_ADDRESS, node_table}
use Rattle.bus_lines.proofs.Cited.{node_level, levelled_bits, Finish, seen, joined_at, PlaceView, is_chip, states_on, joins_by, read_anew}
use Rattle.bus_lines.proofs.Cited.{at_node_level, is_among, by_number, to_those, shared, IsCalm, IsUnit, AreUnits, or_parts}
use Rattle.std.proofs.lemmas.Option.{slice_get_within}
use Rattle.i2c_spec.specs.Chips.{at_level, chip_stopped, arbitrated, is_free, kept_bits, bit_of}
use Rattle.bus_lines.proofs.KindLemmas.{finish_kind, states_numbered}
use Rattle.bus_lines.proofs.NumberedLemmas.{map_itself, at_number, some_none}
use Rattle.bus_lines.proofs.UnitLemmas.{done_all, calm_stops, shared_finishes}
use Rattle.bus_lines.proofs.TargetsLemmas.{stays_out, stays_calm}
use Rattle.bus_lines.proofs.AddressLemmas.{seen_numbered, all_have, joined_here, cleared, same_of}
use Rattle.std.proofs.lemmas.Bool.{or_right, or_left}

-- ---- who is joined is read anew
-- a target of which it isn't known whether it is joined
pub record IsLoose (live started : List ℕ) (at : List (List ℕ)) (k : ℕ) (b : Bit NodeState) : Type 0 where
  pub out : is_among live k ≡ false → b ≡ released b.site
  pub calm : is_among started k ≡ false → IsCalm b
  pub listed : (a : ℕ) → a < NO_ADDRESS → is_among (get_or at a []) k ≡ (a == b.site.addr)

unfoldable pub AreLoose : List ℕ → List ℕ → List (List ℕ) → List (Bit NodeState) → Type 0
AreLoose live started at bs = (k : ℕ) (b : Bit NodeState) → slice_get bs k ≡ Some b → IsLoose live started at k b

pub rejoin_numbered : (f : ℕ → Bool) (k : ℕ) (bs : List (Bit NodeState)) → rejoin_from f k bs ≡ by_number (λ i b. read_anew (f i) b) k bs
rejoin_numbered f k [] = refl
rejoin_numbered f k (b ∷ bs) = ap (λ cs. read_anew (f k) b ∷ cs) (rejoin_numbered f (k + 1) bs)

states_rejoin : (f : ℕ → Bool) (k : ℕ) (bs : List (Bit NodeState)) → states_on (rejoin_from f k bs) ≡ states_on bs
states_rejoin f k [] = refl
states_rejoin f k (b ∷ bs) = ap (λ ss. b.site.state ∷ ss) (states_rejoin f (k + 1) bs)

pub anew_out : (j : Bool) (b : Bit NodeState) → b ≡ released b.site → read_anew j b ≡ released (read_anew j b).site
anew_out j b out = ap (read_anew j) out

pub rejoined_units : (left : ℕ) (live started : List ℕ) (at : List (List ℕ)) (ps : List PlaceView) (bs : List (Bit NodeState)) → left ≡ 0
    → AreLoose live started at bs
    → AreUnits left live started at (joins_by ps (states_on (rejoin_from (joins_by ps (states_on bs)) 0 bs)))
    (rejoin_from (joins_by ps (states_on bs)) 0 bs)
unfolding AreLoose
rejoined_units left live started at ps bs none loose k c is =
    let joins = joins_by ps (states_on bs) in
    let r = at_number (λ i b. read_anew (joins i) b) k bs c (sym (ap (λ xs. slice_get xs k) (rejoin_numbered joins 0 bs)) ∙ is) in
    let b = r.0 in
    let l = loose k b r.1 in
    subst (IsUnit left live started at (joins_by ps (states_on (rejoin_from joins 0 bs))) k) r.2
    (record {
      out = λ out. anew_out (joins k) b (l.out out);
      calm = λ out. let calm = l.calm out in
          record { out = anew_out (joins k) b calm.out; deaf = refl; quiet = calm.quiet };
      waits = λ n more joined. absurd (omega (arith, none, more));
      joined = ap (λ ss. joins_by ps ss k) (sym (states_rejoin joins 0 bs));
      listed = l.listed;
    })

-- ---- a stop
finish_addr : (t j : Bool) (b : Bit NodeState) → (cond t (cond j (finish node_table b) b) b).site.addr ≡ b.site.addr
finish_addr true true b = refl
finish_addr true false b = refl
finish_addr false j b = refl

-- who is out stays so
finish_out : (t j : Bool) (b : Bit NodeState) → b ≡ released b.site
    → cond t (cond j (finish node_table b) b) b ≡ released (cond t (cond j (finish node_table b) b) b).site
finish_out true true b out = refl
finish_out true false b out = out
finish_out false j b out = out

-- who is joined is calm
finish_calm : IsFairTable node_table → (t j : Bool) (b : Bit NodeState) → (t ≡ false → IsCalm b) → (t ≡ true → j ≡ true)
    → IsCalm (cond t (cond j (finish node_table b) b) b)
finish_calm fair true true b calm joined = record { out = refl; deaf = refl; quiet = fair.stops b.site.state }
finish_calm fair true false b calm joined = absurd (let e : false ≡ true = joined refl in cc)
finish_calm fair false j b calm joined = calm refl

none_step : (p : ℕ → Bool) (n k : ℕ) (ns : List ℕ) (here : Bool) → (k == n) ≡ here → p n ≡ false → (is_among ns k ≡ true → p k ≡ false)
    → (here || is_among ns k) ≡ true → p k ≡ false
none_step p n k ns true at first rest among = ap p (same_of k n at) ∙ first
none_step p n k ns false at first rest among = rest among

-- what is so of none of some numbers
pub none_has : (p : ℕ → Bool) (ns : List ℕ) → list_any p ns ≡ false → (k : ℕ) → is_among ns k ≡ true → p k ≡ false
none_has p [] none k among = absurd (let e : false ≡ true = among in cc)
none_has p (n ∷ ns) none k among =
    let both = or_parts (p n) (list_any p ns) none in
    none_step p n k ns (k == n) refl both.0 (none_has p ns both.1 k) among

some_at : {A : Type 0} (p : A → Bool) (xs : List A) (n : ℕ) → option_map_or p (slice_get xs n) false ≡ true → some_one p xs ≡ true
some_at p [] zero is = absurd (let e : false ≡ true = is in cc)
some_at p [] (suc n) is = absurd (let e : false ≡ true = is in cc)
some_at p (x ∷ xs) zero is = or_left (p x) (some_one p xs) is
some_at p (x ∷ xs) (suc n) is = or_right (p x) (some_one p xs) (some_at p xs n is)

module _ {A : Type 0} (p : A → Bool) (xs : List A) where
  abbrev p_at : ℕ → Bool
  p_at k = option_map_or p (slice_get xs k) false

  any_step : (n : ℕ) (ns : List ℕ) (here : Bool) → p_at n ≡ here → (here || list_any p_at ns) ≡ true
      → (list_any p_at ns ≡ true → some_one p xs ≡ true) → some_one p xs ≡ true
  any_step n ns true here is rest = some_at p xs n here
  any_step n ns false here is rest = rest is

  any_at : (ns : List ℕ) → list_any p_at ns ≡ true → some_one p xs ≡ true
  any_at [] is = absurd (let e : false ≡ true = is in cc)
  any_at (n ∷ ns) is = any_step n ns (p_at n) refl is (any_at ns)

  module _ (ns : List ℕ) (out : (i : ℕ) (x : A) → slice_get xs i ≡ Some x → is_among ns i ≡ false → p x ≡ false) where
    none_at : list_any p_at ns ≡ false → (i : ℕ) (x : A) → slice_get xs i ≡ Some x → (among : Bool) → is_among ns i ≡ among → p x ≡ false
    none_at none i x here true among = ap (λ o. option_map_or p o false) (sym here) ∙ none_has p_at ns none i among
    none_at none i x here false among = out i x here among

    any_either : (t : Bool) → list_any p_at ns ≡ t → list_any p_at ns ≡ some_one p xs
    any_either true is = is ∙ sym (any_at ns is)
    any_either false is = is ∙ sym (some_none p xs (λ i x here. none_at is i x here (is_among ns i) refl))

    pub any_of_those : list_any p_at ns ≡ some_one p xs
    any_of_those = any_either (list_any p_at ns) refl

module _ (fair : IsFairTable node_table) (left v : ℕ) (live started : List ℕ) (at : List (List ℕ)) (ps : List PlaceView)
    (bs : List (Bit NodeState))
    (units : AreUnits left live started at (joins_by ps (states_on bs)) bs) where
  abbrev stop_to : ℕ → Bit NodeState → Bit NodeState
  stop_to = to_those started (where_joined (seen Finish))

  abbrev all : Bool
  all = list_all (joined_at bs) started

  pub stopped_seen : by_number stop_to 0 bs ≡ map (where_joined (finish node_table)) (map (shared left v) bs)
  stopped_seen =
      sym (map_itself (λ (b : Bit NodeState). b) (by_number stop_to 0 bs) (λ i b is. refl))
      ∙ seen_numbered stop_to (λ (b : Bit NodeState). b) (shared left v) (where_joined (finish node_table)) bs
      (λ k b is. done_all (is_among started k) (where_joined (seen Finish)) b (λ out. calm_stops b ((units k b is).calm out))
      ∙ shared_finishes left v b)

  kind_told : (t : Bool) (b : Bit NodeState) → is_chip (cond t (where_joined (seen Finish) b) b).site.state ≡ is_chip b.site.state
  kind_told true b = finish_kind b
  kind_told false b = refl

  pub stopped_kinds : map is_chip (states_on (by_number stop_to 0 bs)) ≡ map is_chip (states_on bs)
  stopped_kinds = states_numbered is_chip stop_to bs (λ k b is. kind_told (is_among started k) b)

  calm_at : all ≡ true → (k : ℕ) (b : Bit NodeState) → slice_get bs k ≡ Some b → IsCalm (stop_to k b)
  calm_at reached k b is =
      finish_calm fair (is_among started k) b.site.joined b (units k b is).calm
      (λ among. sym (joined_here bs k b is) ∙ all_have (joined_at bs) started reached k among)

  -- also those that weren't reached are as the lists say
  pub stopped_loose : AreLoose (cond all [] live) (cond all [] started) at (by_number stop_to 0 bs)
  unfolding AreLoose
  stopped_loose k c is =
      let r = at_number stop_to k bs c is in
      let b = r.0 in
      let u = units k b r.1 in
      let t = is_among started k in
      subst (IsLoose (cond all [] live) (cond all [] started) at k) r.2
      (record {
        out = λ out. elim (cleared all live k out) [
          | inl reached ↦ (let calm = calm_at reached k b r.1 in calm.out)
          | inr gone ↦ finish_out t b.site.joined b (u.out gone)
        ];
        calm = λ out. elim (cleared all started k out) [
          | inl reached ↦ calm_at reached k b r.1
          | inr gone ↦ stays_calm b (stop_to k b) (ap (λ i. cond i (where_joined (seen Finish) b) b) gone) (u.calm gone)
        ];
        listed = λ a low. u.listed a low ∙ ap (λ x. a == x) (sym (finish_addr t b.site.joined b));
      })

  -- who is joined then is calm, if all that a message had reached were
  pub calm_after : all ≡ true → (k : ℕ) (c : Bit NodeState) → slice_get (by_number stop_to 0 bs) k ≡ Some c → IsCalm c
  calm_after reached k c is = let r = at_number stop_to k bs c is in subst IsCalm r.2 (calm_at reached k r.0 r.1)

-- ---- a line is set
pub no_byte : (c : ChipView) (byte : ℕ) (b d : Bool)
    → (if b then record c { control = 0; waiting = None; left = c.foreign } else if d then record c {
      control = 1;
      waiting = None;
    } else record c { waiting = None }).waiting ≡ None
no_byte c byte true d = refl
no_byte c byte false true = refl
no_byte c byte false false = refl

pub still : (c d : ChipView) (byte : ℕ) → d ≡ c → d.waiting ≡ None → c.waiting ≡ Some byte → ⊥
still c d byte same none some = let e : None ≡ Some byte = sym none ∙ ap (λ (x : ChipView). x.waiting) same ∙ some in cc

-- what a byte that waits makes of a chip, by the facts of its kind
abbrev pub taken_by : (asks by_line : Bool) → ℕ → ChipView → ℕ → ChipView
taken_by asks by_line kept c byte = if asks then arbitrated c byte else if by_line then c else record c { control = kept; waiting = None }

pub level_taken : (asks by_line : Bool) (kept : ℕ) (c : ChipView) (level byte : ℕ) → c.waiting ≡ Some byte
    → taken_by asks by_line kept c byte ≡ c → taken_by asks by_line kept (at_level c level) byte ≡ at_level c level
level_taken true by_line kept c level byte waits same =
    absurd (still c (arbitrated c byte) byte same (no_byte c byte (not (bit_of byte 0)) (is_free c)) waits)
level_taken false true kept c level byte waits same = refl
level_taken false false kept c level byte waits same = absurd (still c (record c { control = kept; waiting = None }) byte same refl waits)

pub level_stop : (c : ChipView) (level : ℕ) (waiting : Option ℕ) → c.waiting ≡ waiting → chip_stopped c waiting ≡ c
    → chip_stopped (at_level c level) waiting ≡ at_level c level
level_stop c level None waits same = refl
level_stop c level (Some byte) waits same =
    level_taken (facts_of c.kind).asks (facts_of c.kind).by_line (kept_bits c.kind byte) c level byte waits same

same_chip : (c d : ChipView) → Chip c ≡ Chip d → c ≡ d
same_chip c d same = cc

level_quiet : (x : NodeState) (level : ℕ) → IsQuiet node_table x → IsQuiet node_table (node_level x level)
level_quiet (Chip c) level quiet =
    let stays : chip_stopped c c.waiting ≡ c = same_chip (chip_stopped c c.waiting) c quiet.stop in
    record { other = refl; stop = ap Chip (level_stop c level c.waiting refl stays) }
level_quiet (Device x) level quiet = quiet

from_levelled : (m level k : ℕ) (bs : List (Bit NodeState)) (c : Bit NodeState) → slice_get (levelled_bits m level bs) k ≡ Some c
    → (b : Bit NodeState) × (slice_get bs k ≡ Some b) × ((c ≡ b) ⊎ (c ≡ at_node_level level b))
from_levelled m level k [] c is = absurd (let e : None ≡ Some c = is in cc)
from_levelled zero level zero (b ∷ bs) c is = (b, refl, inr (let e : Some (at_node_level level b) ≡ Some c = is in cc))
from_levelled zero level (suc k) (b ∷ bs) c is = (c, is, inl refl)
from_levelled (suc m) level zero (b ∷ bs) c is = (b, refl, inl (let e : Some b ≡ Some c = is in cc))
from_levelled (suc m) level (suc k) (b ∷ bs) c is = from_levelled m level k bs c is

pub levelled_loose : (live started : List ℕ) (at : List (List ℕ)) (m level : ℕ) (bs : List (Bit NodeState)) → AreLoose live started at bs
    → AreLoose live started at (levelled_bits m level bs)
unfolding AreLoose
levelled_loose live started at m level bs loose k c is =
    let r = from_levelled m level k bs c is in
    let b = r.0 in
    let l = loose k b r.1 in
    elim r.2 [
      | inl same ↦ subst (IsLoose live started at k) (sym same) l
      | inr set ↦ subst (IsLoose live started at k) (sym set)
          (record {
            out = λ out. ap (at_node_level level) (l.out out);
            calm = λ out. let calm = l.calm out in
                record { out = ap (at_node_level level) calm.out; deaf = calm.deaf; quiet = level_quiet b.site.state level calm.quiet };
            listed = l.listed;
          })
    ]

either_addr : (j : Bool) (b c : Bit NodeState) → c.site.addr ≡ b.site.addr → (cond j c b).site.addr ≡ b.site.addr
either_addr true b c same = same
either_addr false b c same = refl

shared_addr : (left v : ℕ) (b : Bit NodeState) → (shared left v b).site.addr ≡ b.site.addr
shared_addr zero v b = refl
shared_addr (suc n) v b = either_addr b.site.joined b (stands b.site (In true (suc n) v) 0) refl

shared_nothing : (left v : ℕ) (b : Bit NodeState) → left ≡ 0 → shared left v b ≡ b
shared_nothing zero v b none = refl
shared_nothing (suc n) v b none = absurd (omega (arith, none))

-- each has what has come of an address byte, and who may be in the message is on the lists
pub spread_loose : (left v : ℕ) (live started live_new started_new : List ℕ) (at : List (List ℕ)) (joins : ℕ → Bool)
    (bs : List (Bit NodeState))
    → AreUnits left live started at joins bs
    → ((k : ℕ) → k < length bs → is_among live_new k ≡ false → (left ≡ 0) × (is_among live k ≡ false))
    → ((k : ℕ) → k < length bs → is_among started_new k ≡ false → (left ≡ 0) × (is_among started k ≡ false))
    → AreLoose live_new started_new at (map (shared left v) bs)
unfolding AreLoose
spread_loose left v live started live_new started_new at joins bs units live_is started_is k c is =
    let r = map_from (shared left v) bs k c is in
    let b = r.0 in
    let u = units k b r.1 in
    let within = slice_get_within bs k b r.1 in
    subst (IsLoose live_new started_new at k) r.2
    (record {
      out = λ out. let old = live_is k within out in
          stays_out b (shared left v b) (shared_nothing left v b old.0) (u.out old.1);
      calm = λ out. let old = started_is k within out in
          stays_calm b (shared left v b) (shared_nothing left v b old.0) (u.calm old.1);
      listed = λ a low. u.listed a low ∙ ap (λ x. a == x) (sym (shared_addr left v b));
    })

either_state : (j : Bool) (b c : Bit NodeState) → c.site.state ≡ b.site.state → (cond j c b).site.state ≡ b.site.state
either_state true b c same = same
either_state false b c same = refl

shared_state : (left v : ℕ) (b : Bit NodeState) → (shared left v b).site.state ≡ b.site.state
shared_state zero v b = refl
shared_state (suc n) v b = either_state b.site.joined b (stands b.site (In true (suc n) v) 0) refl

-- the states stay
pub spread_states : (left v : ℕ) (bs : List (Bit NodeState)) → states_on (map (shared left v) bs) ≡ states_on bs
spread_states left v [] = refl
spread_states left v (b ∷ bs) =
    ap (λ z. z ∷ states_on (map (shared left v) bs)) (shared_state left v b)
    ∙ ap (λ zs. b.site.state ∷ zs) (spread_states left v bs)
