-- The targets of a root by the fields of their type: what a call leaves of them, and what is seen of that.
use Rattle.bus_lines.proofs.Cited.{◌≡◌, ℕ, Bool, false, ◌&&◌, ◌||◌, ◌/◌, ◌<◌, List, [], map, get_or, refl, sym, ap, ◌∙◌, list_any}
use Rattle.bus_lines.proofs.Cited.{is_too_long, Bit, rise, shifted, where_joined, some_one, holds_line, Seen, NodeState, NO_ADDRESS}
use Rattle.bus_lines.proofs.Cited.{node_table, Rooted, Edge, Address, seen, joined_at, slow_at, whole_on, PlaceView, states_on, joins_by}
use Rattle.bus_lines.proofs.Cited.{known_of, known_on, TargetsView, targets_of, NumbersView, is_among, RegisterView, by_number, some_by}
use Rattle.bus_lines.proofs.Cited.{to_those, of_those, shared, addressed, subst, length, rejoin_from, rejoined, mask_of, levelled_bits}
use Rattle.bus_lines.proofs.Cited.{is_chip, kinds_of, AreTargets}
use Rattle.bus_lines.specs.Known.{AreKept, AreListed, ListsJoined}
use Rattle.bus_lines.specs.declared.root_targets.RootTargets.TheInside.{Inside}
use Rattle.bus_lines.proofs.AwayLemmas.{units_away, whole_edge, whole_line, whole_rejoined}
use Rattle.bus_lines.proofs.CalledLemmas.{none_is_slow}
use Rattle.bus_lines.proofs.EnterLemmas.{held_none, mid_are, mid_called}
use Rattle.bus_lines.proofs.InvariantLemmas.{nodes_fair, none_comes, some_comes, seen_as, told_view, called_view, rejoined_are, line_count, line_kinds, line_loose, line_seen}
use Rattle.bus_lines.proofs.InvariantLemmas.{line_index}
use Rattle.bus_lines.proofs.KeptLemmas.{edge_held, edge_freed, edge_told, edge_known, fresh_known, fresh_those, fresh_kept, fresh_joined}
use Rattle.bus_lines.proofs.KeptLemmas.{call_known, call_kept, kept_anew}
use Rattle.bus_lines.proofs.KnownLemmas.{any_known, anew_is_known}
use Rattle.bus_lines.proofs.NumberedLemmas.{numbered_itself, nobody_by}
use Rattle.bus_lines.proofs.UnitLemmas.{IsWithin}
use Rattle.bus_lines.proofs.Cited.{◌==◌, ◌⊎◌, true, not, cond, inl, inr}

abbrev pub rooted : Inside → Rooted
rooted i = record { board = i.board.value; root = i.root }

-- the targets, once it is known of all who is joined
abbrev pub bits_in : Inside → List (Bit NodeState)
bits_in i = known_on i.places.items i.bits.items

-- .. with those of other roots
abbrev pub whole_in : Inside → List (Bit NodeState)
whole_in i = whole_on i.board.value i.places.items (bits_in i)

-- what is seen where these are kept, and so much has come of an address byte
abbrev pub seen_in : Inside → RegisterView → List (Bit NodeState) → List (Bit NodeState)
seen_in i r bs = map (shared r.left r.value) (whole_on i.board.value i.places.items (known_on i.places.items bs))

-- an edge as it is seen once it is done
pub seen_after : (i : Inside) (f : Bit NodeState → Bit NodeState) (shows : Seen → Seen) {xs : List (Bit NodeState)} {n : Seen}
    {old : TargetsView} → xs ≡ map (where_joined f) (seen_in i i.address i.bits.items) → n ≡ shows i.counter
    → targets_of (rooted i) (seen_in i i.address i.bits.items) i.counter ≡ old
    → targets_of (rooted i) xs n ≡ record old { bits = map (where_joined f) old.bits; shown = shows old.shown }
seen_after i f shows e m view =
    seen_as (rooted i) e m ∙ ap (λ (v : TargetsView). record v { bits = map (where_joined f) v.bits; shown = shows v.shown }) view

-- those that are told are all in the message, or nobody
told_by : (coming : Bool) (left : ℕ) (ns live : List ℕ) → coming ≡ not (left == 0) → ns ≡ cond coming [] live
    → ((left ≡ 0) × (ns ≡ live)) ⊎ ((0 < left) × (ns ≡ []))
told_by true left ns live comes is = inr (some_comes true left comes refl, is)
told_by false left ns live comes is = inl (none_comes false left comes refl, is)

pub told_either : (left : ℕ) (ns live : List ℕ) → ns ≡ cond (not (left == 0)) [] live
    → ((left ≡ 0) × (ns ≡ live)) ⊎ ((0 < left) × (ns ≡ []))
told_either left ns live is = told_by (not (left == 0)) left ns live refl is

module _ (i : Inside) (was : AreListed (rooted i) i.places.items i.held i.address i.live i.started i.called i.at i.bits.items) where
  -- there is room to list all of them once more
  pub listed : (called : NumbersView) {h : Bool} {r : RegisterView} {live started : NumbersView} {new : List (Bit NodeState)}
      → AreKept (rooted i) i.places.items h r live started i.at new → called.room ≡ i.called.room → live.room ≡ i.live.room
      → AreListed (rooted i) i.places.items h r live started called i.at new
  listed called kept room lives =
      record { kept = kept; called_room = room ∙ was.called_room ∙ sym was.kept.live_room ∙ sym lives ∙ kept.live_room }

  -- what is done to them is done to all that is seen
  pub whole_seen : (f : Bit NodeState → Bit NodeState) {h : Bool} {now : RegisterView} {live started : NumbersView}
      {new : List (Bit NodeState)} → AreKept (rooted i) i.places.items h now live started i.at new
      → map (shared now.left now.value) (known_on i.places.items new)
      ≡ map (where_joined f) (map (shared i.address.left i.address.value) (bits_in i))
      → seen_in i now new ≡ map (where_joined f) (seen_in i i.address i.bits.items)
  whole_seen f {h} {now} {live} {started} {new} kept is =
      let ps = i.places.items in
      whole_edge i.board.value ps f i.address.left i.address.value now.left now.value (bits_in i) (known_on ps new)
      (units_away ps i.address.left i.live.items i.started.items i.at (bits_in i) was.kept.are.units)
      (units_away ps now.left live.items started.items i.at (known_on ps new) kept.are.units) is

  -- ---- an edge is told to those in the message
  module _ (e : Edge) (within : IsWithin e) (none : i.address.left ≡ 0) (ns : List ℕ) (those : ns ≡ i.live.items)
      (new : List (Bit NodeState)) (is : new ≡ by_number (to_those ns (where_joined (seen e))) 0 i.bits.items) where
    pub told_listed : (h : Bool) → h ≡ some_by (of_those ns holds_line) 0 new
        → AreListed (rooted i) i.places.items h i.address i.live i.started i.called i.at new
    told_listed h holds =
        listed i.called
        (edge_told (rooted i) i.places.items i.held i.address i.live i.started i.at i.bits.items was.kept e within none ns those new is
        h holds) refl refl

    pub held_listed : ((b : Bit NodeState) → holds_line (where_joined (seen e) b) ≡ holds_line b)
        → AreListed (rooted i) i.places.items i.held i.address i.live i.started i.called i.at new
    held_listed same =
        listed i.called
        (edge_held (rooted i) i.places.items i.held i.address i.live i.started i.at i.bits.items was.kept e within none ns those new is
        same) refl refl

    pub freed_listed : (some_one holds_line (bits_in i) ≡ false
        → some_one holds_line (map (where_joined (seen e)) (bits_in i)) ≡ false)
        → i.held ≡ false → AreListed (rooted i) i.places.items i.held i.address i.live i.started i.called i.at new
    freed_listed stays free =
        listed i.called
        (edge_freed (rooted i) i.places.items i.held i.address i.live i.started i.at i.bits.items was.kept e within none ns those new is
        stays free) refl refl

    pub told_seen : (h : Bool) → AreListed (rooted i) i.places.items h i.address i.live i.started i.called i.at new
        → seen_in i i.address new ≡ map (where_joined (seen e)) (seen_in i i.address i.bits.items)
    told_seen h now =
        whole_seen (seen e) now.kept
        (told_view (rooted i) i.places.items i.held i.address i.live i.started i.at (bits_in i) was.kept.are e within none
        (known_on i.places.items new)
        (edge_known (rooted i) i.places.items i.held i.address i.live i.started i.at i.bits.items was.kept e within none ns those new is))

  -- .. or to nobody, while an address comes in, to which it is nothing
  module _ (e : Edge) (within : IsWithin e)
      (quiet : (left v : ℕ) (bs : List (Bit NodeState)) → 0 < left
      → map (shared left v) bs ≡ map (where_joined (seen e)) (map (shared left v) bs))
      (ns : List ℕ) (those : ns ≡ cond (not (i.address.left == 0)) [] i.live.items)
      (new : List (Bit NodeState)) (is : new ≡ by_number (to_those ns (where_joined (seen e))) 0 i.bits.items) where
    stays : ns ≡ [] → new ≡ i.bits.items
    stays none =
        is ∙ ap (λ ms. by_number (to_those ms (where_joined (seen e))) 0 i.bits.items) none
        ∙ numbered_itself (to_those [] (where_joined (seen e))) i.bits.items (λ j b here. refl)

    pub edge_held_listed : ((b : Bit NodeState) → holds_line (where_joined (seen e) b) ≡ holds_line b)
        → AreListed (rooted i) i.places.items i.held i.address i.live i.started i.called i.at new
    edge_held_listed same =
        elim (told_either i.address.left ns i.live.items those) [
          | inl x ↦ held_listed e within x.0 ns x.1 new is same
          | inr x ↦ subst (AreListed (rooted i) i.places.items i.held i.address i.live i.started i.called i.at) (sym (stays x.1)) was
        ]

    pub edge_told_listed : (h : Bool) → h ≡ some_by (of_those ns holds_line) 0 new
        → AreListed (rooted i) i.places.items h i.address i.live i.started i.called i.at new
    edge_told_listed h holds =
        elim (told_either i.address.left ns i.live.items those) [
          | inl x ↦ told_listed e within x.0 ns x.1 new is h holds
          | inr x ↦ subst (λ (b : Bool). AreListed (rooted i) i.places.items b i.address i.live i.started i.called i.at new)
              (held_none nodes_fair (rooted i) i.places.items i.held i.address i.live i.started i.at (bits_in i) was.kept.are x.0
              ∙ sym (holds ∙ ap (λ ms. some_by (of_those ms holds_line) 0 new) x.1 ∙ nobody_by holds_line 0 new))
              (subst (AreListed (rooted i) i.places.items i.held i.address i.live i.started i.called i.at) (sym (stays x.1)) was)
        ]

    pub edge_seen : (h : Bool) → AreListed (rooted i) i.places.items h i.address i.live i.started i.called i.at new
        → seen_in i i.address new ≡ map (where_joined (seen e)) (seen_in i i.address i.bits.items)
    edge_seen h now =
        elim (told_either i.address.left ns i.live.items those) [
          | inl x ↦ told_seen e within x.0 ns x.1 new is h now
          | inr x ↦ ap (seen_in i i.address) (stays x.1) ∙ quiet i.address.left i.address.value (whole_in i) x.0
        ]

  -- ---- who is joined is read anew of all, a line is set, and it is read anew again
  module _ (qs : List PlaceView) (slice : qs ≡ i.places.items) (all : List (Bit NodeState)) (all_is : all ≡ known_on qs i.bits.items)
      (live started : NumbersView)
      (live_is : (j : ℕ) → j < i.live.room → is_among live.items j ≡ false → (i.address.left ≡ 0) × (is_among i.live.items j ≡ false))
      (started_is : (j : ℕ) → j < i.started.room → is_among started.items j ≡ false
      → (i.address.left ≡ 0) × (is_among i.started.items j ≡ false))
      (live_room : live.room ≡ i.live.room) (started_room : started.room ≡ i.started.room) (mid bs : List (Bit NodeState))
      (m level : ℕ) (spread : mid ≡ map (shared i.address.left i.address.value) all) (is : bs ≡ levelled_bits m level mid)
      (now : RegisterView) (over : now.left ≡ 0) (rs : List PlaceView) (slice_again : rs ≡ i.places.items) (new : List (Bit NodeState))
      (new_is : new ≡ rejoin_from (joins_by rs (states_on bs)) 0 bs) where
    known_all : all ≡ bits_in i
    known_all = all_is ∙ ap (λ ps. known_on ps i.bits.items) slice

    are : AreTargets (rooted i) i.places.items i.held i.address i.live i.started i.at all
    are = subst (AreTargets (rooted i) i.places.items i.held i.address i.live i.started i.at) (sym known_all) was.kept.are

    anew : new ≡ rejoin_from (joins_by i.places.items (states_on bs)) 0 bs
    anew = new_is ∙ ap (λ ps. rejoin_from (joins_by ps (states_on bs)) 0 bs) slice_again

    kinds : map is_chip (states_on bs) ≡ kinds_of i.board.value
    kinds =
        line_kinds (rooted i) i.places.items i.held i.address i.live i.started i.at all are live started live_is started_is mid bs m level
        spread is

    count : length bs ≡ length all
    count =
        line_count (rooted i) i.places.items i.held i.address i.live i.started i.at all are live started live_is started_is mid bs m level
        spread is

    pub line_listed : (h : Bool) → h ≡ some_one holds_line new
        → AreListed (rooted i) i.places.items h now live started i.called i.at new
    line_listed h holds =
        listed i.called
        (kept_anew (rooted i) i.places.items h now live started i.at new
        (rejoined_are (rooted i) i.places.items was.kept.are.places live started i.at bs kinds now over new anew
        (line_loose (rooted i) i.places.items i.held i.address i.live i.started i.at all are live started live_is started_is mid bs m level
        spread is)
        (live_room ∙ are.live_room ∙ sym count) (started_room ∙ are.started_room ∙ sym count)
        (line_index (rooted i) i.places.items i.held i.address i.live i.started i.at all are live started live_is started_is mid bs m level
        spread is)
        h holds)
        (anew_is_known i.places.items bs new anew))
        refl live_room

    pub line_viewed : seen_in i now new ≡ rejoined (mask_of i.board.value i.root) (levelled_bits m level (seen_in i i.address i.bits.items))
    line_viewed =
        let masked : List (Bit NodeState) → List (Bit NodeState) = rejoined (mask_of i.board.value i.root) in
        ap (λ xs. map (shared now.left now.value) (whole_on i.board.value i.places.items xs)) (anew_is_known i.places.items bs new anew)
        ∙ whole_rejoined (rooted i) i.places.items was.kept.are.places bs kinds now over new anew
        ∙ ap masked (whole_line i.board.value i.places.items m level i.address.left i.address.value all bs
        (units_away i.places.items i.address.left i.live.items i.started.items i.at all are.units)
        (line_seen (rooted i) i.places.items i.held i.address i.live i.started i.at all are live started live_is started_is mid bs m level
        spread is))
        ∙ ap (λ (xs : List (Bit NodeState)). masked (levelled_bits m level (map (shared i.address.left i.address.value)
        (whole_on i.board.value i.places.items xs)))) known_all

  -- ---- who is joined is read anew of those at an address
  module _ (byte : ℕ) (ns : List ℕ) (at_is : ns ≡ get_or i.at (byte / 2) []) (qs : List PlaceView) (slice : qs ≡ i.places.items)
      (mid : List (Bit NodeState)) (mid_is : mid ≡ by_number (known_of ns (joins_by qs (states_on i.bits.items))) 0 i.bits.items) where
    abbrev named : List ℕ
    named = get_or i.at (byte / 2) []

    fresh : mid ≡ by_number (known_of named (joins_by i.places.items (states_on i.bits.items))) 0 i.bits.items
    fresh =
        mid_is ∙ ap (λ ps. by_number (known_of ns (joins_by ps (states_on i.bits.items))) 0 i.bits.items) slice
        ∙ ap (λ ms. by_number (known_of ms (joins_by i.places.items (states_on i.bits.items))) 0 i.bits.items) at_is

    pub mid_kept : AreKept (rooted i) i.places.items i.held i.address i.live i.started i.at mid
    mid_kept = fresh_kept (rooted i) i.places.items i.held i.address i.live i.started i.at i.bits.items was.kept named mid fresh

    pub mid_known : known_on i.places.items mid ≡ bits_in i
    mid_known = fresh_known (rooted i) i.places.items i.held i.address i.live i.started i.at i.bits.items was.kept named mid fresh

    -- nobody at the address is too slow
    pub mid_quick : (list : List ℕ) → ListsJoined named list mid → list_any (slow_at mid) list ≡ false
        → list_any (slow_at (bits_in i)) named ≡ false
    mid_quick list has none =
        sym (any_known (λ (b : Bit NodeState). b.site.joined && is_too_long (node_table.hold b.site.state)) i.places.items mid named
        (fresh_those (rooted i) i.places.items i.held i.address i.live i.started i.at i.bits.items was.kept named mid fresh)
        ∙ ap (λ (xs : List (Bit NodeState)). list_any (slow_at xs) named) mid_known)
        ∙ none_is_slow mid named list has none

    -- .. and then the address byte is told to them
    module _ (live started : NumbersView)
        (live_has : (j : ℕ) → is_among live.items j
        ≡ (is_among i.live.items j || (is_among (get_or i.at (byte / 2) []) j && joined_at mid j)))
        (started_has : (j : ℕ) → is_among started.items j
        ≡ (is_among i.started.items j || (is_among (get_or i.at (byte / 2) []) j && joined_at mid j)))
        (live_room : live.room ≡ i.live.room) (started_room : started.room ≡ i.started.room) (new : List (Bit NodeState))
        (told : new ≡ by_number (addressed started.items (get_or i.at (byte / 2) []) byte) 0 mid) (low : byte / 2 < NO_ADDRESS) where
      live_joined : (j : ℕ) → is_among live.items j ≡ (is_among i.live.items j || (is_among named j && joined_at (bits_in i) j))
      live_joined =
          fresh_joined (rooted i) i.places.items i.held i.address i.live i.started i.at i.bits.items was.kept named mid fresh
          i.live.items live.items live_has

      started_joined : (j : ℕ) → is_among started.items j
          ≡ (is_among i.started.items j || (is_among named j && joined_at (bits_in i) j))
      started_joined =
          fresh_joined (rooted i) i.places.items i.held i.address i.live i.started i.at i.bits.items was.kept named mid fresh
          i.started.items started.items started_has

      known : known_on i.places.items new ≡ by_number (addressed started.items named byte) 0 (bits_in i)
      known =
          call_known (rooted i) i.places.items i.held i.address i.live i.started i.at i.bits.items was.kept named mid fresh live started
          live_has started_has byte new told

      pub told_all : known_on i.places.items new ≡ map (where_joined (seen (Address byte))) (bits_in i)
      told_all =
          mid_called nodes_fair (rooted i) i.places.items i.held i.address i.live i.started i.at (bits_in i) was.kept.are byte low
          live started (known_on i.places.items new) live_joined started_joined known

      pub told_kept : 0 < i.address.left → (now : RegisterView) → now.left ≡ 0
          → AreKept (rooted i) i.places.items i.held now live started i.at new
      told_kept some now over =
          call_kept (rooted i) i.places.items i.held i.address i.live i.started i.at i.bits.items was.kept named mid fresh live started
          live_has started_has byte new told now
          (mid_are nodes_fair (rooted i) i.places.items i.held i.address i.live i.started i.at (bits_in i) was.kept.are byte low
          live started (known_on i.places.items new) live_joined started_joined known some now over live_room started_room)
          live_room started_room

      -- as the last bit of it rises
      pub last_seen : i.address.left ≡ 1 → (level : Bool) → byte ≡ shifted i.address.value level → (now : RegisterView) → now.left ≡ 0
          → map (shared now.left now.value) (known_on i.places.items new)
          ≡ map (where_joined (λ b. rise node_table b level)) (map (shared i.address.left i.address.value) (bits_in i))
      last_seen last level is now over =
          called_view (rooted i) i.places.items i.held i.address i.live i.started i.at (bits_in i) was.kept.are last level byte is low now
          over live started (known_on i.places.items new) live_joined started_joined known
