-- What each call leaves of the targets of a root as its type keeps them.
use Rattle.bus_lines.proofs.Cited.{◌≡◌, ℕ, zero, suc, ◌+◌, ◌-◌, ◌/◌, ◌==◌, ◌<◌, Bool, true, false, ◌&&◌, ◌||◌, cond, List, [], ◌∷◌, length}
use Rattle.bus_lines.proofs.Cited.{map, get_or, refl, sym, ap, ◌∙◌, subst, arith, not, list_all, nat_tests, length-map, IsFairTable, Bit}
use Rattle.bus_lines.proofs.Cited.{shifted, rise, begin, finish, where_joined, some_one, pulls_line, Seen, holds_line}
use Rattle.bus_lines.proofs.Cited.{rejoin_from, NodeState, NO_ADDRESS, node_table, Rooted, levelled_bits, Edge, Finish, Leave, seen}
use Rattle.bus_lines.proofs.Cited.{joined_at, PlaceView, places_of, is_chip, kinds_of, states_on, joins_by, AreTargets, targets_of}
use Rattle.bus_lines.proofs.Cited.{NumbersView, numbers_of, is_among, RegisterView, by_number, some_by, to_those, of_those, shared}
use Rattle.bus_lines.proofs.Cited.{addressed, AreUnits, IsIndex}
use Rattle.bus_lines.proofs.Cited.{Fall, Tick, ◌⊎◌, inl, inr}
use Rattle.std.proofs.Common.{rules}
use Rattle.i2c_spec.proofs.StateLemmas.{states_fair}
use Rattle.wire_spec.proofs.StartLemmas.{node_fair}
use Rattle.bus_lines.proofs.KindLemmas.{kinds_doors, kinds_rejoin, kinds_level}
use Rattle.bus_lines.proofs.NumberedLemmas.{length-numbered}
use Rattle.bus_lines.proofs.UnitLemmas.{IsWithin}
use Rattle.bus_lines.proofs.TargetsLemmas.{seen_alone, told_seen, told_doors, told_units, told_holds}
use Rattle.bus_lines.proofs.AddressLemmas.{coming_falls, coming_ticks, coming_rises, coming_holds, coming_pulls, coming_units, called_seen}
use Rattle.bus_lines.proofs.AddressLemmas.{called_doors, called_units, called_holds, left_seen, left_doors, left_units}
use Rattle.bus_lines.proofs.StopLemmas.{AreLoose, rejoined_units, stopped_seen, stopped_kinds, stopped_loose, levelled_loose, spread_loose}
use Rattle.bus_lines.proofs.StopLemmas.{spread_states}

-- ---- while an address comes in
pub low_coming : (e : Edge) → (e ≡ Fall) ⊎ (e ≡ Tick) → (left v : ℕ) (bs : List (Bit NodeState)) → 0 < left
    → map (shared left v) bs ≡ map (where_joined (seen e)) (map (shared left v) bs)
low_coming e low zero v bs some = absurd (omega (arith, some))
low_coming e low (suc n) v bs some =
    elim low [
      | inl is ↦ coming_falls n v bs ∙ ap (λ d. map (where_joined (seen d)) (map (shared (suc n) v) bs)) (sym is)
      | inr is ↦ coming_ticks n v bs ∙ ap (λ d. map (where_joined (seen d)) (map (shared (suc n) v) bs)) (sym is)
    ]

pub low_within : (e : Edge) → (e ≡ Fall) ⊎ (e ≡ Tick) → IsWithin e
low_within e low = elim low [ inl is ↦ subst IsWithin (sym is) tt | inr is ↦ subst IsWithin (sym is) tt ]

pub holds_coming : (left v : ℕ) (bs : List (Bit NodeState)) → 0 < left → some_one holds_line (map (shared left v) bs) ≡ false
holds_coming zero v bs some = absurd (omega (arith, some))
holds_coming (suc n) v bs some = coming_holds n v bs

pub pulls_coming : (left v : ℕ) (bs : List (Bit NodeState)) → 0 < left → some_one (pulls_line node_table) (map (shared left v) bs) ≡ false
pulls_coming zero v bs some = absurd (omega (arith, some))
pulls_coming (suc n) v bs some = coming_pulls n v bs

pub rises_coming : (n v : ℕ) (level : Bool) (left : ℕ) (now : RegisterView) (bs : List (Bit NodeState)) → left ≡ suc (suc n)
    → now ≡ record { left = left - 1; value = shifted v level }
    → map (shared now.left now.value) bs ≡ map (where_joined (λ b. rise node_table b level)) (map (shared left v) bs)
rises_coming n v level left now bs more is =
    let less : left - 1 ≡ suc n = omega (arith, more) in
    ap (λ (r : RegisterView). map (shared r.left r.value) bs) is
    ∙ ap (λ m. map (shared m (shifted v level)) bs) less ∙ coming_rises n v level bs
    ∙ ap (λ m. map (where_joined (λ b. rise node_table b level)) (map (shared m v) bs)) (sym more)

-- a record of targets, with other targets of the same kinds that are as many
module _ (k : Rooted) (ps : List PlaceView) (held : Bool) (r : RegisterView) (live started : NumbersView) (at : List (List ℕ))
    (bs : List (Bit NodeState)) (are : AreTargets k ps held r live started at bs) where
  -- an edge within a message
  pub told_are : (e : Edge) → IsWithin e → r.left ≡ 0 → (new : List (Bit NodeState)) → new ≡ by_number
      (to_those live.items (where_joined (seen e))) 0 bs
      → (h : Bool) → h ≡ some_by (of_those live.items holds_line) 0 new → AreTargets k ps h r live started at new
  told_are e within none new is h holds =
      let f = to_those live.items (where_joined (seen e)) in
      let told = by_number f 0 bs in
      let count : length new ≡ length bs = ap length is ∙ length-numbered f 0 bs in
      let alone : new ≡ map (shared r.left r.value) new = sym (seen_alone r.left r.value new none) in
      record {
        places = are.places;
        kinds = ap (λ xs. map is_chip (states_on xs)) is
            ∙ kinds_doors (states_on told) (states_on bs) (told_doors e within r.left live.items started.items at ps bs none are.units)
            ∙ are.kinds;
        clock = holds ∙ ap (some_by (of_those live.items holds_line) 0) is
            ∙ told_holds e within r.left live.items started.items at ps bs none are.units ∙ ap (some_one holds_line) (sym is ∙ alone);
        units = subst (λ (xs : List (Bit NodeState)). AreUnits r.left live.items started.items at (joins_by ps (states_on xs)) xs) (sym is)
            (told_units e within r.left live.items started.items at ps bs none are.units);
        live_room = are.live_room ∙ sym count;
        started_room = are.started_room ∙ sym count;
        index = subst (λ (n : ℕ). IsIndex n at) (sym count) are.index;
      }

  pub told_view : (e : Edge) → IsWithin e → r.left ≡ 0 → (new : List (Bit NodeState)) → new ≡ by_number
      (to_those live.items (where_joined (seen e))) 0 bs
      → map (shared r.left r.value) new ≡ map (where_joined (seen e)) (map (shared r.left r.value) bs)
  told_view e within none new is =
      ap (map (shared r.left r.value)) is ∙ told_seen e within r.left live.items started.items at ps bs none are.units r.value

  -- a bit of an address, and not the last
  pub coming_are : (n : ℕ) → r.left ≡ suc (suc n) → (now : RegisterView) (level : Bool) → now
      ≡ record { left = r.left - 1; value = shifted r.value level }
      → AreTargets k ps held now live started at bs
  coming_are n more now level is =
      let less : now.left ≡ suc n = ap (λ (x : RegisterView). x.left) is ∙ omega (arith, more) in
      let some : 0 < r.left = omega (arith, more) in
      let some_now : 0 < now.left = omega (arith, less) in
      record {
        places = are.places;
        kinds = are.kinds;
        clock = are.clock ∙ holds_coming r.left r.value bs some ∙ sym (holds_coming now.left now.value bs some_now);
        units = subst (λ (m : ℕ). AreUnits m live.items started.items at (joins_by ps (states_on bs)) bs) (sym less)
            (coming_units n live.items started.items at (joins_by ps (states_on bs)) bs
            (subst (λ (m : ℕ). AreUnits m live.items started.items at (joins_by ps (states_on bs)) bs) more are.units));
        live_room = are.live_room;
        started_room = are.started_room;
        index = are.index;
      }

  -- the last bit of an address
  module _ (last : r.left ≡ 1) (level : Bool) (byte : ℕ) (is_byte : byte ≡ shifted r.value level) (low : byte / 2 < NO_ADDRESS)
      (now : RegisterView) (over : now.left ≡ 0) (live_new started_new : NumbersView) (new : List (Bit NodeState))
      (live_has : (j : ℕ) → is_among live_new.items j ≡ (is_among live.items j || (is_among (get_or at (byte / 2) []) j && joined_at bs j)))
      (started_has : (j : ℕ) → is_among started_new.items j ≡ (is_among started.items j || (is_among
      (get_or at (byte / 2) []) j && joined_at bs j)))
      (is : new ≡ by_number (addressed started_new.items (get_or at (byte / 2) []) byte) 0 bs) where
    low_at : shifted r.value level / 2 < NO_ADDRESS
    low_at = subst (λ (b : ℕ). b / 2 < NO_ADDRESS) is_byte low

    live_at : (j : ℕ) → is_among live_new.items j ≡ (is_among live.items j
        || (is_among (get_or at (shifted r.value level / 2) []) j && joined_at bs j))
    live_at = subst (λ (b : ℕ). (j : ℕ) → is_among live_new.items j ≡ (is_among live.items j
        || (is_among (get_or at (b / 2) []) j && joined_at bs j))) is_byte live_has

    started_at : (j : ℕ) → is_among started_new.items j ≡ (is_among started.items j || (is_among
        (get_or at (shifted r.value level / 2) []) j && joined_at bs j))
    started_at = subst (λ (b : ℕ). (j : ℕ) → is_among started_new.items j ≡ (is_among started.items j
        || (is_among (get_or at (b / 2) []) j && joined_at bs j))) is_byte started_has

    abbrev f : ℕ → Bit NodeState → Bit NodeState
    f = addressed started_new.items (get_or at (shifted r.value level / 2) []) (shifted r.value level)

    is_f : new ≡ by_number f 0 bs
    is_f = is ∙ ap (λ b. by_number (addressed started_new.items (get_or at (b / 2) []) b) 0 bs) is_byte

    abbrev alone : List (Bit NodeState) → List (Bit NodeState)
    alone = map (shared 0 now.value)

    as_alone : map (shared now.left now.value) new ≡ alone (by_number f 0 bs)
    as_alone = ap (λ m. map (shared m now.value) new) over ∙ ap alone is_f

    pub called_are : live_new.room ≡ live.room → started_new.room ≡ started.room → AreTargets k ps held now live_new started_new at new
    called_are live_room started_room =
        let count : length new ≡ length bs = ap length is_f ∙ length-numbered f 0 bs in
        let some : 0 < r.left = omega (arith, last) in
        record {
          places = are.places;
          kinds = ap (λ xs. map is_chip (states_on xs)) is_f
              ∙ kinds_doors (states_on (by_number f 0 bs)) (states_on bs)
              (called_doors r.left r.value level live.items started.items live_new.items started_new.items at ps bs low_at are.units live_at
              started_at)
              ∙ are.kinds;
          clock = are.clock ∙ holds_coming r.left r.value bs some
              ∙ sym (ap (some_one holds_line) as_alone
              ∙ called_holds r.left r.value level live.items started.items live_new.items started_new.items at ps bs low_at are.units
              live_at started_at
              now.value);
          units = subst (λ (xs : List (Bit NodeState)). AreUnits now.left live_new.items started_new.items at
              (joins_by ps (states_on xs)) xs) (sym is_f)
              (subst (λ (m : ℕ). AreUnits m live_new.items started_new.items at (joins_by ps (states_on (by_number f 0 bs)))
              (by_number f 0 bs)) (sym over)
              (called_units r.left r.value level live.items started.items live_new.items started_new.items at ps bs low_at are.units live_at
              started_at));
          live_room = live_room ∙ are.live_room ∙ sym count;
          started_room = started_room ∙ are.started_room ∙ sym count;
          index = subst (λ (n : ℕ). IsIndex n at) (sym count) are.index;
        }

    pub called_view : map (shared now.left now.value) new ≡ map (where_joined (λ b. rise node_table b level))
        (map (shared r.left r.value) bs)
    called_view =
        as_alone ∙ called_seen r.left r.value level live.items started.items live_new.items started_new.items at ps bs low_at are.units
        live_at started_at
        now.value last

  -- a start
  pub left_are : (new : List (Bit NodeState)) (live_new : NumbersView) → live_new ≡ numbers_of live.room
      (cond (list_all (joined_at bs) live.items) [] live.items)
      → new ≡ by_number (to_those live.items (where_joined (seen Leave))) 0 bs → (now : RegisterView) → now ≡ record { left = 8; value = 0 }
      → (h : Bool) → h ≡ false → AreTargets k ps h now live_new started at new
  left_are new live_new lives is now eight h holds =
      let f = to_those live.items (where_joined (seen Leave)) in
      let count : length new ≡ length bs = ap length is ∙ length-numbered f 0 bs in
      let some : 0 < now.left = omega (arith, ap (λ (x : RegisterView). x.left) eight) in
      record {
        places = are.places;
        kinds = ap (λ xs. map is_chip (states_on xs)) is
            ∙ kinds_doors (states_on (by_number f 0 bs)) (states_on bs)
            (left_doors r.left r.value live.items started.items at ps bs are.units) ∙ are.kinds;
        clock = holds ∙ sym (holds_coming now.left now.value new some);
        units = subst (λ (xs : List (Bit NodeState)). AreUnits now.left live_new.items started.items at (joins_by ps (states_on xs)) xs)
            (sym is)
            (subst (λ (x : RegisterView). AreUnits x.left live_new.items started.items at (joins_by ps (states_on (by_number f 0 bs)))
            (by_number f 0 bs)) (sym eight)
            (subst (λ (v : NumbersView). AreUnits 8 v.items started.items at (joins_by ps (states_on (by_number f 0 bs)))
            (by_number f 0 bs)) (sym lives)
            (left_units r.left r.value live.items started.items at ps bs are.units)));
        live_room = ap (λ (v : NumbersView). v.room) lives ∙ are.live_room ∙ sym count;
        started_room = are.started_room ∙ sym count;
        index = subst (λ (n : ℕ). IsIndex n at) (sym count) are.index;
      }

  pub left_view : (new : List (Bit NodeState)) → new ≡ by_number (to_those live.items (where_joined (seen Leave))) 0 bs
      → (now : RegisterView) → now ≡ record { left = 8; value = 0 }
      → map (shared now.left now.value) new ≡ map (where_joined begin) (map (shared r.left r.value) bs)
  left_view new is now eight =
      ap (λ (x : RegisterView). map (shared x.left x.value) new) eight ∙ ap (map (shared 8 0)) is
      ∙ left_seen r.left r.value live.items started.items at ps bs are.units

-- ---- who is joined is read anew
module _ (k : Rooted) (ps : List PlaceView) (places : ps ≡ places_of k.board k.root) (live started : NumbersView) (at : List (List ℕ))
    (bs : List (Bit NodeState))
    (kinds : map is_chip (states_on bs) ≡ kinds_of k.board) (now : RegisterView) (over : now.left ≡ 0) (new : List (Bit NodeState))
    (is : new ≡ rejoin_from (joins_by ps (states_on bs)) 0 bs) where
  count_from : (f : ℕ → Bool) (n : ℕ) (xs : List (Bit NodeState)) → length (rejoin_from f n xs) ≡ length xs
  count_from f n [] = refl
  count_from f n (x ∷ xs) = ap suc (count_from f (n + 1) xs)

  pub rejoined_are : AreLoose live.items started.items at bs → live.room ≡ length bs → started.room ≡ length bs → IsIndex (length bs) at
      → (h : Bool) → h ≡ some_one holds_line new → AreTargets k ps h now live started at new
  rejoined_are loose live_room started_room index h holds =
      let joins = joins_by ps (states_on bs) in
      let count : length new ≡ length bs = ap length is ∙ count_from joins 0 bs in
      record {
        places = places;
        kinds = ap (λ xs. map is_chip (states_on xs)) is ∙ kinds_rejoin joins 0 bs ∙ kinds;
        clock = holds ∙ ap (some_one holds_line) (sym (seen_alone now.left now.value new over));
        units = subst (λ (xs : List (Bit NodeState)). AreUnits now.left live.items started.items at (joins_by ps (states_on xs)) xs)
            (sym is)
            (rejoined_units now.left live.items started.items at ps bs over loose);
        live_room = live_room ∙ sym count;
        started_room = started_room ∙ sym count;
        index = subst (λ (n : ℕ). IsIndex n at) (sym count) index;
      }

-- ---- a stop
pub nodes_fair : IsFairTable node_table
nodes_fair = node_fair (search rules) states_fair

module _ (k : Rooted) (ps : List PlaceView) (held : Bool) (r : RegisterView) (live started : NumbersView) (at : List (List ℕ))
    (bs : List (Bit NodeState)) (are : AreTargets k ps held r live started at bs) (live_new started_new : NumbersView)
    (lives : live_new ≡ numbers_of live.room (cond (list_all (joined_at bs) started.items) [] live.items))
    (starts : started_new ≡ numbers_of started.room (cond (list_all (joined_at bs) started.items) [] started.items))
    (new : List (Bit NodeState)) (is : new ≡ by_number (to_those started.items (where_joined (seen Finish))) 0 bs) where
  abbrev stop_to : ℕ → Bit NodeState → Bit NodeState
  stop_to = to_those started.items (where_joined (seen Finish))

  abbrev all : Bool
  all = list_all (joined_at bs) started.items

  pub stop_count : length new ≡ length bs
  stop_count = ap length is ∙ length-numbered stop_to 0 bs

  pub stop_kinds : map is_chip (states_on new) ≡ kinds_of k.board
  stop_kinds =
      ap (λ xs. map is_chip (states_on xs)) is ∙ stopped_kinds nodes_fair r.left r.value live.items started.items at ps bs are.units
      ∙ are.kinds

  pub stop_live : live_new.room ≡ length new
  stop_live = ap (λ (v : NumbersView). v.room) lives ∙ are.live_room ∙ sym stop_count

  pub stop_started : started_new.room ≡ length new
  stop_started = ap (λ (v : NumbersView). v.room) starts ∙ are.started_room ∙ sym stop_count

  pub stop_index : IsIndex (length new) at
  stop_index = subst (λ (n : ℕ). IsIndex n at) (sym stop_count) are.index

  pub stop_loose : AreLoose live_new.items started_new.items at new
  stop_loose =
      subst (λ (xs : List (Bit NodeState)). AreLoose live_new.items started_new.items at xs) (sym is)
      (subst (λ (v : NumbersView). AreLoose v.items started_new.items at (by_number stop_to 0 bs)) (sym lives)
      (subst (λ (v : NumbersView). AreLoose (cond all [] live.items) v.items at (by_number stop_to 0 bs)) (sym starts)
      (stopped_loose nodes_fair r.left r.value live.items started.items at ps bs are.units)))

  pub stop_seen : new ≡ map (where_joined (finish node_table)) (map (shared r.left r.value) bs)
  stop_seen = is ∙ stopped_seen nodes_fair r.left r.value live.items started.items at ps bs are.units

-- ---- a line is set
module _ (k : Rooted) (ps : List PlaceView) (held : Bool) (r : RegisterView) (live started : NumbersView) (at : List (List ℕ))
    (bs : List (Bit NodeState)) (are : AreTargets k ps held r live started at bs) (live_new started_new : NumbersView)
    (live_is : (j : ℕ) → j < live.room → is_among live_new.items j ≡ false → (r.left ≡ 0) × (is_among live.items j ≡ false))
    (started_is : (j : ℕ) → j < started.room → is_among started_new.items j ≡ false → (r.left ≡ 0) × (is_among started.items j ≡ false))
    (mid new : List (Bit NodeState)) (m level : ℕ) (spread : mid ≡ map (shared r.left r.value) bs)
    (is : new ≡ levelled_bits m level mid) where
  level_count : (j : ℕ) (xs : List (Bit NodeState)) → length (levelled_bits j level xs) ≡ length xs
  level_count j [] = refl
  level_count zero (x ∷ xs) = refl
  level_count (suc j) (x ∷ xs) = ap suc (level_count j xs)

  pub line_count : length new ≡ length bs
  line_count = ap length is ∙ level_count m mid ∙ ap length spread ∙ length-map bs (shared r.left r.value)

  pub line_kinds : map is_chip (states_on new) ≡ kinds_of k.board
  line_kinds =
      ap (λ xs. map is_chip (states_on xs)) is ∙ kinds_level m level mid
      ∙ ap (λ xs. map is_chip (states_on xs)) spread ∙ ap (map is_chip) (spread_states r.left r.value bs) ∙ are.kinds

  pub line_loose : AreLoose live_new.items started_new.items at new
  line_loose =
      subst (λ (xs : List (Bit NodeState)). AreLoose live_new.items started_new.items at xs) (sym is)
      (levelled_loose live_new.items started_new.items at m level mid
      (subst (λ (xs : List (Bit NodeState)). AreLoose live_new.items started_new.items at xs) (sym spread)
      (spread_loose r.left r.value live.items started.items live_new.items started_new.items at (joins_by ps (states_on bs)) bs are.units
      (λ j low. live_is j (omega (arith, low, are.live_room))) (λ j low. started_is j (omega (arith, low, are.started_room))))))

  pub line_seen : new ≡ levelled_bits m level (map (shared r.left r.value) bs)
  line_seen = is ∙ ap (levelled_bits m level) spread

  pub line_index : IsIndex (length new) at
  line_index = subst (λ (n : ℕ). IsIndex n at) (sym line_count) are.index

-- ---- whether an address comes in
pub none_comes : (coming : Bool) (left : ℕ) → coming ≡ not (left == 0) → coming ≡ false → left ≡ 0
none_comes coming left is out = grind (arith, nat_tests, is, out)

pub some_comes : (coming : Bool) (left : ℕ) → coming ≡ not (left == 0) → coming ≡ true → 0 < left
some_comes coming left is out = grind (arith, nat_tests, is, out)

pub last_comes : (left : ℕ) → 0 < left → ((n : ℕ) → left ≡ suc (suc n) → ⊥) → left ≡ 1
last_comes zero some more = absurd (omega (arith, some))
last_comes (suc zero) some more = refl
last_comes (suc (suc n)) some more = absurd (more n refl)

pub more_comes : (left : ℕ) → 0 < left → (left ≡ 1 → ⊥) → (n : ℕ) × (left ≡ suc (suc n))
more_comes zero some last = absurd (omega (arith, some))
more_comes (suc zero) some last = absurd (last refl)
more_comes (suc (suc n)) some last = (n, refl)

pub seen_as : (k : Rooted) {xs ys : List (Bit NodeState)} {m n : Seen} → xs ≡ ys → m ≡ n → targets_of k xs m ≡ targets_of k ys n
seen_as k {xs} {ys} {m} {n} e f = ap (λ (zs : List (Bit NodeState)). targets_of k zs m) e ∙ ap (targets_of k ys) f
