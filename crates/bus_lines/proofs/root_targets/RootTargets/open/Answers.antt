use Rattle.bus_lines.proofs.Cited.{◌≡◌, [], ◌++◌, length, map, sym, ap, ◌∙◌, subst, slice_get, BoardView, board_of, rejoin_from, rejoined}
use Rattle.bus_lines.proofs.Cited.{mask_of, Rooted, is_chip, kinds_of, joins_by, states_on, places_of, targets_of}
use Rattle.bus_lines.proofs.Cited.{NumbersView, bits_of, chip_bit, kept_device, kept_bits, whole_on, RegisterView, shared, IsIndex}
use Rattle.bus_lines.proofs.AwayLemmas.{kept_whole, kept_kinds, whole_rejoined}
use Rattle.bus_lines.proofs.FirstLemmas.{opened_loose}
use Rattle.bus_lines.proofs.InvariantLemmas.{rejoined_are, seen_as}
use Rattle.bus_lines.proofs.KeptLemmas.{kept_anew}
use Rattle.bus_lines.proofs.KnownLemmas.{anew_is_known}
use Rattle.bus_lines.proofs.root_targets.RootTargets.open.Goals as goal

module _ (c : goal.After-none-2) where
  abbrev board : BoardView
  board = board_of c.layout-layout.result

  abbrev k : Rooted
  k = record { board = c.of-2.result.value; root = c.args.root }

  same : board ≡ k.board
  same = c.layout-layout.ensures.value ∙ c.board.ensures.value ∙ sym c.of-2.ensures

  places : c.in_ok-places.places.items ≡ places_of k.board k.root
  places = c.in_ok-places.ensures ∙ ap (λ (x : BoardView). places_of x c.args.root) same

  bits : c.add_devices.new.bits.items ≡ kept_bits board c.args.root
  bits =
      c.in_ok-add_devices.ensures
      ∙ ap (λ xs. xs ++ map (kept_device board c.args.root) board.devices)
      (c.in_ok-add_chips.ensures ∙ ap (λ xs. xs ++ map chip_bit board.muxes) c.new-bits.ensures.items)

  kinds : map is_chip (states_on c.add_devices.new.bits.items) ≡ kinds_of k.board
  kinds = ap (λ xs. map is_chip (states_on xs)) bits ∙ kept_kinds board c.args.root ∙ ap kinds_of same

  anew : c.rejoin-held.new.targets.items
      ≡ rejoin_from (joins_by c.in_ok-places.places.items (states_on c.add_devices.new.bits.items)) 0 c.add_devices.new.bits.items
  anew =
      c.rejoin-held.ensures.targets
      ∙ ap (λ ps. rejoin_from (joins_by ps (states_on c.add_devices.new.bits.items)) 0 c.add_devices.new.bits.items)
      c.as_slice-2.ensures.value

  over : c.none.result.left ≡ 0
  over = ap (λ (x : RegisterView). x.left) c.none.ensures

pub invariant_of-result : goal.invariant_of-result
invariant_of-result c =
    let bs = c.add_devices.new.bits.items in
    let slice = c.as_slice.ensures.value in
    let count = ap length slice in
    let len = sym c.as_slice.ensures.len ∙ count in
    let ps = c.in_ok-places.places.items in
    let kept =
    kept_anew (k c) ps c.rejoin-held.result c.none.result c.in_ok-live.live c.in_ok-started.started c.in_ok-at.at
    c.rejoin-held.new.targets.items
    (rejoined_are (k c) ps (places c) c.in_ok-live.live c.in_ok-started.started c.in_ok-at.at bs (kinds c) c.none.result (over c)
    c.rejoin-held.new.targets.items (anew c)
    (opened_loose (board c) c.args.root bs c.in_ok-at.at c.in_ok-live.live.items c.in_ok-started.started.items (bits c)
    (λ j x is. c.in_ok-at.ensures.listed j x (ap (λ xs. slice_get xs j) slice ∙ is)))
    (ap (λ (v : NumbersView). v.room) c.in_ok-live.ensures ∙ c.len.ensures ∙ len)
    (ap (λ (v : NumbersView). v.room) c.in_ok-started.ensures ∙ c.len-2.ensures ∙ len)
    (subst (λ n. IsIndex n c.in_ok-at.at) count c.in_ok-at.ensures.index)
    c.rejoin-held.result c.rejoin-held.ensures.held)
    (anew_is_known ps bs c.rejoin-held.new.targets.items (anew c)) in
    record {
      kept = kept;
      called_room = ap (λ (v : NumbersView). v.room) c.in_ok-called.ensures ∙ c.len-3.ensures
          ∙ sym (ap (λ (v : NumbersView). v.room) c.in_ok-live.ensures ∙ c.len.ensures) ∙ kept.live_room;
    }

pub returns : goal.returns
returns c =
    let b = c.of-2.result.value in
    let r = c.args.root in
    let ps = c.in_ok-places.places.items in
    let bs = c.add_devices.new.bits.items in
    let view = ap (λ xs. map (shared c.none.result.left c.none.result.value) (whole_on b ps xs))
    (anew_is_known ps bs c.rejoin-held.new.targets.items (anew c))
    ∙ whole_rejoined (k c) ps (places c) bs (kinds c) c.none.result (over c) c.rejoin-held.new.targets.items (anew c)
    ∙ ap (λ xs. rejoined (mask_of b r) xs)
    (ap (λ qs. whole_on b qs bs) (places c)
    ∙ ap (whole_on b (places_of b r)) (bits c ∙ ap (λ (x : BoardView). kept_bits x r) (same c)) ∙ kept_whole b r) in
    seen_as (k c) view c.none-2.ensures
    ∙ ap (λ (x : BoardView). targets_of (record { board = x; root = r }) (rejoined (mask_of x r) (bits_of x)) [])
    c.of-2.ensures
