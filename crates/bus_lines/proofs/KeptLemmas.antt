-- What is told to the targets as they are kept, is told to them as it is known of all who is joined.
use Rattle.bus_lines.proofs.Cited.{◌≡◌, ℕ, Bool, true, false, ◌&&◌, ◌||◌, cond, List, [], length, map, Some, refl, sym, ap, ◌∙◌, subst}
use Rattle.bus_lines.proofs.Cited.{slice_get, list_all, Bit, begin, finish, where_joined, some_one, holds_line, rejoin_from, rejoined}
use Rattle.bus_lines.proofs.Cited.{NodeState, mask_of, node_table, Rooted, Edge, Finish, Leave, Other, Address, whole_on, seen, joined_at}
use Rattle.bus_lines.proofs.Cited.{PlaceView, is_chip, kinds_of, states_on, joins_by, read_anew, known, knows, known_on, known_of, AreKnown}
use Rattle.bus_lines.proofs.Cited.{AreTargets, NumbersView, numbers_of, is_among, RegisterView, by_number, some_by, to_those, of_those}
use Rattle.bus_lines.proofs.Cited.{addressed, shared, IsCalm, IsIndex, released}
use Rattle.bus_lines.specs.Known.{AreKept}
use Rattle.bus_lines.proofs.InvariantLemmas.{nodes_fair, told_are, left_are, left_view, rejoined_are, stop_kinds, stop_live, stop_started}
use Rattle.bus_lines.proofs.InvariantLemmas.{stop_index, stop_loose, stop_seen}
use Rattle.bus_lines.proofs.KindLemmas.{NoFinish, doors, doors_kept, joined_kept, states_numbered}
use Rattle.bus_lines.proofs.KnownLemmas.{refreshed, refreshed_those, refreshed_others, told_known, told_keeps, some_known, test_known}
use Rattle.bus_lines.proofs.KnownLemmas.{all_known, rejoins_known, anew_is_known, are_known, knows_anew, told_knows, told_states}
use Rattle.bus_lines.proofs.NumberedLemmas.{at_number, numbered_twice, length-numbered, some_none}
use Rattle.bus_lines.proofs.StopLemmas.{anew_out, calm_after, rejoin_numbered}
use Rattle.bus_lines.proofs.TargetsLemmas.{within_goes, edge_holds, edge_frees}
use Rattle.bus_lines.proofs.UnitLemmas.{IsWithin, holds_none}
use Rattle.bus_lines.proofs.AwayLemmas.{units_away, whole_edge, whole_stop, whole_rejoined}

-- no edge but a stop opens or closes a channel, whoever it is told to
doors_either : (e : Edge) → NoFinish e → (t : Bool) (b : Bit NodeState) → doors (cond t (where_joined (seen e) b) b).site.state
    ≡ doors b.site.state
doors_either e nostop true b = doors_kept e nostop b
doors_either e nostop false b = refl

pub told_doors : (e : Edge) → NoFinish e → (ns : List ℕ) (bs new : List (Bit NodeState)) → new ≡ by_number
    (to_those ns (where_joined (seen e))) 0 bs
    → map doors (states_on new) ≡ map doors (states_on bs)
told_doors e nostop ns bs new is =
    ap (λ xs. map doors (states_on xs)) is
    ∙ states_numbered doors (to_those ns (where_joined (seen e))) bs (λ k b at. doors_either e nostop (is_among ns k) b)

known_none : (t : Bool) (ns : List ℕ) (k : ℕ) → is_among (cond t [] ns) k ≡ true → is_among ns k ≡ true
known_none true ns k among = absurd (let e : false ≡ true = among in cc)
known_none false ns k among = among

-- of none, or of these
pub known_some : (t : Bool) (ns : List ℕ) (ps : List PlaceView) (bs : List (Bit NodeState)) → AreKnown ns ps bs
    → AreKnown (cond t [] ns) ps bs
known_some t ns ps bs were k b at among = were k b at (known_none t ns k among)

-- ---- an edge that is told to those in the message
module _ (k : Rooted) (ps : List PlaceView) (held : Bool) (r : RegisterView) (live started : NumbersView) (at : List (List ℕ))
    (bs : List (Bit NodeState)) (kept : AreKept k ps held r live started at bs) (e : Edge) (within : IsWithin e) (none : r.left ≡ 0)
    (ns : List ℕ) (those : ns ≡ live.items) (new : List (Bit NodeState)) (is : new ≡ by_number
    (to_those ns (where_joined (seen e))) 0 bs) where
  is_live : new ≡ by_number (to_those live.items (where_joined (seen e))) 0 bs
  is_live = is ∙ ap (λ ms. by_number (to_those ms (where_joined (seen e))) 0 bs) those

  new_count : length new ≡ length bs
  new_count = ap length is_live ∙ length-numbered (to_those live.items (where_joined (seen e))) 0 bs

  new_doors : map doors (states_on new) ≡ map doors (states_on bs)
  new_doors = told_doors e (within_goes e within) live.items bs new is_live

  pub edge_known : known_on ps new ≡ by_number (to_those live.items (where_joined (seen e))) 0 (known_on ps bs)
  edge_known =
      told_known ps live.items (where_joined (seen e)) bs new is_live (joined_kept e (within_goes e within)) new_doors kept.in_message

  pub edge_stays : (ms : List ℕ) → AreKnown ms ps bs → AreKnown ms ps new
  edge_stays ms were =
      told_keeps ps ms live.items (where_joined (seen e)) bs new is_live (joined_kept e (within_goes e within)) new_doors were

  pub edge_asked : (p : Bit NodeState → Bool) → some_by (of_those ns p) 0 new ≡ some_by (of_those live.items p) 0 (known_on ps new)
  edge_asked p =
      ap (λ ms. some_by (of_those ms p) 0 new) those ∙ some_known ps live.items p new (edge_stays live.items kept.in_message)

  pub edge_kept : (h : Bool) → h ≡ some_by (of_those live.items holds_line) 0 (known_on ps new) → AreKept k ps h r live started at new
  edge_kept h holds =
      record {
        are = told_are k ps held r live started at (known_on ps bs) kept.are e within none (known_on ps new) edge_known h holds;
        in_message = edge_stays live.items kept.in_message;
        reached = edge_stays started.items kept.reached;
        live_room = kept.live_room ∙ sym new_count;
        started_room = kept.started_room ∙ sym new_count;
        index = subst (λ (n : ℕ). IsIndex n at) (sym new_count) kept.index;
      }

  -- who held SCL before does so still
  pub edge_held : ((b : Bit NodeState) → holds_line (where_joined (seen e) b) ≡ holds_line b) → AreKept k ps held r live started at new
  edge_held same =
      edge_kept held
      (edge_holds e within r.left live.items started.items at ps (known_on ps bs) none kept.are.units same r.value (known_on ps new)
      edge_known held kept.are.clock)

  -- .. or nobody did, and nobody does
  pub edge_freed : (some_one holds_line (known_on ps bs) ≡ false
      → some_one holds_line (map (where_joined (seen e)) (known_on ps bs)) ≡ false)
      → held ≡ false → AreKept k ps held r live started at new
  edge_freed stays free =
      edge_kept held
      (edge_frees e within r.left live.items started.items at ps (known_on ps bs) none kept.are.units stays r.value (known_on ps new)
      edge_known held kept.are.clock free)

  pub edge_told : (h : Bool) → h ≡ some_by (of_those ns holds_line) 0 new → AreKept k ps h r live started at new
  edge_told h holds = edge_kept h (holds ∙ edge_asked holds_line)

-- ---- who is joined is read anew of those at an address
module _ (k : Rooted) (ps : List PlaceView) (held : Bool) (r : RegisterView) (live started : NumbersView) (at : List (List ℕ))
    (bs : List (Bit NodeState)) (kept : AreKept k ps held r live started at bs)
    (ns : List ℕ) (mid : List (Bit NodeState)) (is : mid ≡ by_number (known_of ns (joins_by ps (states_on bs))) 0 bs) where
  pub fresh_known : known_on ps mid ≡ known_on ps bs
  fresh_known = refreshed ps ns bs mid is

  pub fresh_those : AreKnown ns ps mid
  fresh_those = refreshed_those ps ns bs mid is

  pub fresh_count : length mid ≡ length bs
  fresh_count = ap length is ∙ length-numbered (known_of ns (joins_by ps (states_on bs))) 0 bs

  pub fresh_kept : AreKept k ps held r live started at mid
  fresh_kept =
      record {
        are = subst (AreTargets k ps held r live started at) (sym fresh_known) kept.are;
        in_message = refreshed_others ps live.items ns bs mid is kept.in_message;
        reached = refreshed_others ps started.items ns bs mid is kept.reached;
        live_room = kept.live_room ∙ sym fresh_count;
        started_room = kept.started_room ∙ sym fresh_count;
        index = subst (λ (n : ℕ). IsIndex n at) (sym fresh_count) kept.index;
      }

  joined_either : (t : Bool) (n : ℕ) → is_among ns n ≡ t → (t && joined_at mid n) ≡ (t && joined_at (known_on ps bs) n)
  joined_either true n among =
      test_known (λ (b : Bit NodeState). b.site.joined) ps mid n (λ b here. fresh_those n b here among)
      ∙ ap (λ xs. joined_at xs n) fresh_known
  joined_either false n among = refl

  -- who of them is joined
  pub fresh_joined : (ms : List ℕ) (list : List ℕ)
      → ((j : ℕ) → is_among list j ≡ (is_among ms j || (is_among ns j && joined_at mid j)))
      → (j : ℕ) → is_among list j ≡ (is_among ms j || (is_among ns j && joined_at (known_on ps bs) j))
  fresh_joined ms list has j = has j ∙ ap (λ t. is_among ms j || t) (joined_either (is_among ns j) j refl)

  among_either : (a b c : Bool) → (a || (b && c)) ≡ true → (a ≡ false) → b ≡ true
  among_either true b c is out = absurd (let e : true ≡ false = out in cc)
  among_either false true c is out = refl
  among_either false false c is out = absurd (let e : false ≡ true = is in cc)

  one_known : (ms list : List ℕ) → AreKnown ms ps mid → (j : ℕ) (b : Bit NodeState) → slice_get mid j ≡ Some b
      → (t : Bool) → is_among ms j ≡ t → (is_among ms j || (is_among ns j && joined_at mid j)) ≡ true
      → b.site.joined ≡ joins_by ps (states_on mid) j
  one_known ms list were j b here true among either = were j b here among
  one_known ms list were j b here false among either =
      fresh_those j b here (among_either (is_among ms j) (is_among ns j) (joined_at mid j) either among)

  -- it is kept of those that are added too
  pub added_known : (ms list : List ℕ) → ((j : ℕ) → is_among list j ≡ (is_among ms j || (is_among ns j && joined_at mid j)))
      → AreKnown ms ps mid → AreKnown list ps mid
  added_known ms list has were j b here among = one_known ms list were j b here (is_among ms j) refl (sym (has j) ∙ among)

  -- an address byte is told to them
  module _ (list : List ℕ) (listed : AreKnown list ps mid) (byte : ℕ) (new : List (Bit NodeState))
      (told : new ≡ by_number (addressed list ns byte) 0 mid) where
    abbrev others : List (Bit NodeState)
    others = by_number (to_those list (where_joined (seen (Other byte)))) 0 mid

    both : new ≡ by_number (to_those ns (where_joined (seen (Address byte)))) 0 others
    both = told ∙ sym (numbered_twice (to_those list (where_joined (seen (Other byte)))) (to_those ns
        (where_joined (seen (Address byte)))) 0 mid)

    others_doors : map doors (states_on others) ≡ map doors (states_on mid)
    others_doors = told_doors (Other byte) tt list mid others refl

    both_doors : map doors (states_on new) ≡ map doors (states_on others)
    both_doors = told_doors (Address byte) tt ns others new both

    others_keep : (ms : List ℕ) → AreKnown ms ps mid → AreKnown ms ps others
    others_keep ms were = told_keeps ps ms list (where_joined (seen (Other byte))) mid others refl
        (joined_kept (Other byte) tt) others_doors were

    pub address_keeps : (ms : List ℕ) → AreKnown ms ps mid → AreKnown ms ps new
    address_keeps ms were =
        told_keeps ps ms ns (where_joined (seen (Address byte))) others new both (joined_kept (Address byte) tt) both_doors
        (others_keep ms were)

    pub address_known : known_on ps new ≡ by_number (addressed list ns byte) 0 (known_on ps bs)
    address_known =
        told_known ps ns (where_joined (seen (Address byte))) others new both (joined_kept (Address byte) tt) both_doors
        (others_keep ns fresh_those)
        ∙ ap (by_number (to_those ns (where_joined (seen (Address byte)))) 0)
        (told_known ps list (where_joined (seen (Other byte))) mid others refl (joined_kept (Other byte) tt) others_doors listed)
        ∙ numbered_twice (to_those list (where_joined (seen (Other byte)))) (to_those ns (where_joined (seen (Address byte)))) 0
        (known_on ps mid)
        ∙ ap (by_number (addressed list ns byte) 0) fresh_known

  -- what an address byte leaves that is told to them
  module _ (live_new started_new : NumbersView)
      (live_has : (j : ℕ) → is_among live_new.items j ≡ (is_among live.items j || (is_among ns j && joined_at mid j)))
      (started_has : (j : ℕ) → is_among started_new.items j ≡ (is_among started.items j || (is_among ns j && joined_at mid j)))
      (byte : ℕ) (new : List (Bit NodeState)) (told : new ≡ by_number (addressed started_new.items ns byte) 0 mid) where
    live_known : AreKnown live_new.items ps mid
    live_known = added_known live.items live_new.items live_has fresh_kept.in_message

    started_known : AreKnown started_new.items ps mid
    started_known = added_known started.items started_new.items started_has fresh_kept.reached

    call_count : length new ≡ length mid
    call_count = ap length told ∙ length-numbered (addressed started_new.items ns byte) 0 mid

    pub call_known : known_on ps new ≡ by_number (addressed started_new.items ns byte) 0 (known_on ps bs)
    call_known = address_known started_new.items started_known byte new told

    pub call_kept : (now : RegisterView) → AreTargets k ps held now live_new started_new at (known_on ps new) → live_new.room ≡ live.room
        → started_new.room ≡ started.room → AreKept k ps held now live_new started_new at new
    call_kept now are live_room started_room =
        record {
          are = are;
          in_message = address_keeps started_new.items started_known byte new told live_new.items live_known;
          reached = address_keeps started_new.items started_known byte new told started_new.items started_known;
          live_room = live_room ∙ fresh_kept.live_room ∙ sym call_count;
          started_room = started_room ∙ fresh_kept.started_room ∙ sym call_count;
          index = subst (λ (n : ℕ). IsIndex n at) (sym call_count) fresh_kept.index;
        }

-- what has come of an address byte is another
pub kept_with : (k : Rooted) (ps : List PlaceView) (held : Bool) (r now : RegisterView) (live started : NumbersView) (at : List (List ℕ))
    (bs : List (Bit NodeState)) → AreKept k ps held r live started at bs → AreTargets k ps held now live started at (known_on ps bs)
    → AreKept k ps held now live started at bs
kept_with k ps held r now live started at bs kept are =
    record {
      are = are;
      in_message = kept.in_message;
      reached = kept.reached;
      live_room = kept.live_room;
      started_room = kept.started_room;
      index = kept.index;
    }

-- who is joined has been read anew of all
pub kept_anew : (k : Rooted) (ps : List PlaceView) (h : Bool) (r : RegisterView) (live started : NumbersView) (at : List (List ℕ))
    (bs : List (Bit NodeState))
    → AreTargets k ps h r live started at bs → known_on ps bs ≡ bs → AreKept k ps h r live started at bs
kept_anew k ps h r live started at bs are known =
    record {
      are = subst (AreTargets k ps h r live started at) (sym known) are;
      in_message = are_known live.items ps bs known;
      reached = are_known started.items ps bs known;
      live_room = are.live_room;
      started_room = are.started_room;
      index = are.index;
    }

-- ---- a start
module _ (k : Rooted) (ps : List PlaceView) (held : Bool) (r : RegisterView) (live started : NumbersView) (at : List (List ℕ))
    (bs : List (Bit NodeState)) (kept : AreKept k ps held r live started at bs) (new : List (Bit NodeState)) (live_new : NumbersView)
    (lives : live_new ≡ numbers_of live.room (cond (list_all (joined_at bs) live.items) [] live.items))
    (is : new ≡ by_number (to_those live.items (where_joined (seen Leave))) 0 bs) where
  leave_doors : map doors (states_on new) ≡ map doors (states_on bs)
  leave_doors = told_doors Leave tt live.items bs new is

  leave_keeps : (ms : List ℕ) → AreKnown ms ps bs → AreKnown ms ps new
  leave_keeps ms were = told_keeps ps ms live.items (where_joined (seen Leave)) bs new is (joined_kept Leave tt) leave_doors were

  leave_known : known_on ps new ≡ by_number (to_those live.items (where_joined (seen Leave))) 0 (known_on ps bs)
  leave_known = told_known ps live.items (where_joined (seen Leave)) bs new is (joined_kept Leave tt) leave_doors kept.in_message

  leave_lives : live_new ≡ numbers_of live.room (cond (list_all (joined_at (known_on ps bs)) live.items) [] live.items)
  leave_lives =
      lives ∙ ap (λ t. numbers_of live.room (cond t [] live.items))
      (all_known (λ (b : Bit NodeState). b.site.joined) ps bs live.items kept.in_message)

  leave_count : length new ≡ length bs
  leave_count = ap length is ∙ length-numbered (to_those live.items (where_joined (seen Leave))) 0 bs

  pub begin_kept : (now : RegisterView) → now ≡ record { left = 8; value = 0 } → (h : Bool) → h ≡ false
      → AreKept k ps h now live_new started at new
  begin_kept now eight h holds =
      record {
        are = left_are k ps held r live started at (known_on ps bs) kept.are
            (known_on ps new) live_new leave_lives leave_known now eight h holds;
        in_message = subst (λ (v : NumbersView). AreKnown v.items ps new) (sym lives)
            (known_some (list_all (joined_at bs) live.items) live.items ps new (leave_keeps live.items kept.in_message));
        reached = leave_keeps started.items kept.reached;
        live_room = ap (λ (v : NumbersView). v.room) lives ∙ kept.live_room ∙ sym leave_count;
        started_room = kept.started_room ∙ sym leave_count;
        index = subst (λ (n : ℕ). IsIndex n at) (sym leave_count) kept.index;
      }

  pub begin_seen : (now : RegisterView) → now ≡ record { left = 8; value = 0 }
      → map (shared now.left now.value) (whole_on k.board ps (known_on ps new))
      ≡ map (where_joined begin) (map (shared r.left r.value) (whole_on k.board ps (known_on ps bs)))
  begin_seen now eight =
      let then_kept = begin_kept now eight false refl in
      whole_edge k.board ps begin r.left r.value now.left now.value (known_on ps bs) (known_on ps new)
      (units_away ps r.left live.items started.items at (known_on ps bs) kept.are.units)
      (units_away ps now.left live_new.items started.items at (known_on ps new) then_kept.are.units)
      (left_view k ps held r live started at (known_on ps bs) kept.are (known_on ps new) leave_known now eight)

-- ---- a stop
module _ (k : Rooted) (ps : List PlaceView) (held : Bool) (r : RegisterView) (live started : NumbersView) (at : List (List ℕ))
    (bs : List (Bit NodeState)) (kept : AreKept k ps held r live started at bs) (live_new started_new : NumbersView)
    (lives : live_new ≡ numbers_of live.room (cond (list_all (joined_at bs) started.items) [] live.items))
    (starts : started_new ≡ numbers_of started.room (cond (list_all (joined_at bs) started.items) [] started.items))
    (new : List (Bit NodeState)) (is : new ≡ by_number (to_those started.items (where_joined (seen Finish))) 0 bs)
    (now : RegisterView) (over : now.left ≡ 0) where
  abbrev all : List (Bit NodeState)
  all = by_number (to_those started.items (where_joined (seen Finish))) 0 (known_on ps bs)

  same_all : list_all (joined_at bs) started.items ≡ list_all (joined_at (known_on ps bs)) started.items
  same_all = all_known (λ (b : Bit NodeState). b.site.joined) ps bs started.items kept.reached

  lives_all : live_new ≡ numbers_of live.room (cond (list_all (joined_at (known_on ps bs)) started.items) [] live.items)
  lives_all = lives ∙ ap (λ t. numbers_of live.room (cond t [] live.items)) same_all

  starts_all : started_new ≡ numbers_of started.room (cond (list_all (joined_at (known_on ps bs)) started.items) [] started.items)
  starts_all = starts ∙ ap (λ t. numbers_of started.room (cond t [] started.items)) same_all

  all_kinds : map is_chip (states_on all) ≡ kinds_of k.board
  all_kinds = stop_kinds k ps held r live started at (known_on ps bs) kept.are live_new started_new lives_all starts_all all refl

  -- who is joined is read anew of these
  rejoined_all : (j : List (Bit NodeState)) → j ≡ rejoin_from (joins_by ps (states_on all)) 0 all → (h : Bool) → h ≡ some_one holds_line j
      → AreTargets k ps h now live_new started_new at j
  rejoined_all j anew h holds =
      rejoined_are k ps kept.are.places live_new started_new at all all_kinds now over j anew
      (stop_loose k ps held r live started at (known_on ps bs) kept.are live_new started_new lives_all starts_all all refl)
      (stop_live k ps held r live started at (known_on ps bs) kept.are live_new started_new lives_all starts_all all refl)
      (stop_started k ps held r live started at (known_on ps bs) kept.are live_new started_new lives_all starts_all all refl)
      (stop_index k ps held r live started at (known_on ps bs) kept.are live_new started_new lives_all starts_all all refl)
      h holds

  rejoined_seen : (j : List (Bit NodeState)) → j ≡ rejoin_from (joins_by ps (states_on all)) 0 all
      → map (shared now.left now.value) (whole_on k.board ps j)
      ≡ rejoined (mask_of k.board k.root) (map (where_joined (finish node_table)) (map (shared r.left r.value)
      (whole_on k.board ps (known_on ps bs))))
  rejoined_seen j anew =
      whole_rejoined k ps kept.are.places all all_kinds now over j anew
      ∙ ap (λ (xs : List (Bit NodeState)). rejoined (mask_of k.board k.root) xs)
      (whole_stop k.board ps (finish node_table) r.left r.value (known_on ps bs) all
      (units_away ps r.left live.items started.items at (known_on ps bs) kept.are.units)
      (stop_seen k ps held r live started at (known_on ps bs) kept.are live_new started_new lives_all starts_all all refl))

  -- of all, since the stop missed someone
  module _ (j : List (Bit NodeState)) (anew : j ≡ rejoin_from (joins_by ps (states_on new)) 0 new) where
    anew_all : j ≡ rejoin_from (joins_by ps (states_on all)) 0 all
    anew_all = anew ∙ rejoins_known ps started.items (where_joined (seen Finish)) bs new is kept.reached

    anew_known : known_on ps j ≡ j
    anew_known = anew_is_known ps all j anew_all

    pub missed_kept : (h : Bool) → h ≡ some_one holds_line j → AreKept k ps h now live_new started_new at j
    missed_kept h holds =
        kept_anew k ps h now live_new started_new at j (rejoined_all j anew_all h holds) anew_known

    pub missed_seen : map (shared now.left now.value) (whole_on k.board ps (known_on ps j))
        ≡ rejoined (mask_of k.board k.root) (map (where_joined (finish node_table)) (map (shared r.left r.value)
        (whole_on k.board ps (known_on ps bs))))
    missed_seen = ap (λ xs. map (shared now.left now.value) (whole_on k.board ps xs)) anew_known ∙ rejoined_seen j anew_all

  -- of nobody, since it reached all that a message had reached
  module _ (reached : list_all (joined_at bs) started.items ≡ true) where
    all_calm : (n : ℕ) (b : Bit NodeState) → slice_get all n ≡ Some b → IsCalm b
    all_calm =
        calm_after nodes_fair r.left r.value live.items started.items at ps (known_on ps bs) kept.are.units (sym same_all ∙ reached)

    reached_known : known_on ps new ≡ rejoin_from (joins_by ps (states_on all)) 0 all
    reached_known =
        let told = by_number (to_those started.items (where_joined (seen Finish))) 0 bs in
        ap (known_on ps) is
        ∙ ap (λ ss. knows (joins_by ps ss) told) (told_states ps started.items (where_joined (seen Finish)) bs kept.reached)
        ∙ told_knows ps (joins_by ps (states_on all)) started.items (where_joined (seen Finish)) bs kept.reached
        ∙ knows_anew (joins_by ps (states_on all)) all (λ n b here. let calm = all_calm n b here in calm.deaf)

    all_out : (n : ℕ) (c : Bit NodeState) → slice_get (known_on ps new) n ≡ Some c → c ≡ released c.site
    all_out n c here =
        let joins = joins_by ps (states_on all) in
        let r = at_number (λ m b. read_anew (joins m) b) n all c
        (sym (ap (λ xs. slice_get xs n) (reached_known ∙ rejoin_numbered joins 0 all)) ∙ here) in
        let calm = all_calm n r.0 r.1 in
        subst (λ (b : Bit NodeState). b ≡ released b.site) r.2 (anew_out (joins n) r.0 calm.out)

    stop_count : length new ≡ length bs
    stop_count = ap length is ∙ length-numbered (to_those started.items (where_joined (seen Finish))) 0 bs

    pub reached_kept : (h : Bool) → h ≡ false → AreKept k ps h now live_new started_new at new
    reached_kept h holds =
        record {
          are = rejoined_all (known_on ps new) reached_known h
              (holds ∙ sym (some_none holds_line (known_on ps new) (λ n c here. holds_none c (all_out n c here))));
          in_message = subst (λ (v : NumbersView). AreKnown v.items ps new)
              (sym (lives ∙ ap (λ t. numbers_of live.room (cond t [] live.items)) reached))
              (λ n b here among. absurd (let e : false ≡ true = among in cc));
          reached = subst (λ (v : NumbersView). AreKnown v.items ps new)
              (sym (starts ∙ ap (λ t. numbers_of started.room (cond t [] started.items)) reached))
              (λ n b here among. absurd (let e : false ≡ true = among in cc));
          live_room = ap (λ (v : NumbersView). v.room) lives ∙ kept.live_room ∙ sym stop_count;
          started_room = ap (λ (v : NumbersView). v.room) starts ∙ kept.started_room ∙ sym stop_count;
          index = subst (λ (n : ℕ). IsIndex n at) (sym stop_count) kept.index;
        }

    pub reached_seen : map (shared now.left now.value) (whole_on k.board ps (known_on ps new))
        ≡ rejoined (mask_of k.board k.root) (map (where_joined (finish node_table)) (map (shared r.left r.value)
        (whole_on k.board ps (known_on ps bs))))
    reached_seen = rejoined_seen (known_on ps new) reached_known
