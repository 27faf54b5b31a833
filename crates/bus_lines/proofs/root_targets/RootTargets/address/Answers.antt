use Rattle.bus_lines.proofs.Cited.{◌≡◌, ℕ, false, ◌&&◌, ◌/◌, ◌<◌, List, map, get_or, [], refl, sym, ap, ◌∙◌, subst, arith, list_any, Bit}
use Rattle.bus_lines.proofs.Cited.{some_one, byte_seen, NodeState, NO_ADDRESS, Enter, acks_enter, address_in, joined_at}
use Rattle.bus_lines.proofs.Cited.{slow_at, known_on, TargetsView, targets_of, AreNumbers, is_among, RegisterView, shared, some_by}
use Rattle.bus_lines.proofs.Cited.{of_those, whole_on}
use Rattle.bus_lines.specs.Known.{AreKept, AreListed}
use Rattle.bus_lines.proofs.EnterLemmas.{held_none, would_be_slow, would_ack, quick_all, entered_is, acks_is, enter_acks, enters_hold}
use Rattle.bus_lines.proofs.InvariantLemmas.{nodes_fair, some_comes}
use Rattle.bus_lines.proofs.KeptLemmas.{edge_known, edge_freed}
use Rattle.bus_lines.proofs.KnownLemmas.{some_known}
use Rattle.bus_lines.proofs.RootLemmas.{rooted, bits_in, seen_after, listed, whole_seen, mid_kept, mid_known, mid_quick, told_all}
use Rattle.bus_lines.proofs.RootLemmas.{told_kept}
use Rattle.bus_lines.proofs.TargetsLemmas.{seen_alone, all_told}
use Rattle.bus_lines.proofs.root_targets.RootTargets.address.Goals as goal
use Rattle.bus_lines.proofs.root_targets.RootTargets.address.Goals.{After-list_joined, After-call}

-- who is joined is read anew of those at the address
read_anew : (c : After-list_joined)
    → AreListed (rooted c.self.inside) c.self.inside.places.items c.self.inside.held c.self.inside.address c.self.inside.live
    c.self.inside.started c.list_joined.new.list c.self.inside.at c.list_joined.new.bits.items
read_anew c =
    listed c.self.inside c.self.invariant c.list_joined.new.list
    (mid_kept c.self.inside c.self.invariant c.args.byte _ c.at.ensures _ c.as_slice.ensures.value _ c.list_joined.ensures.bits)
    c.list_joined.ensures.room refl

-- this list has those of them that are joined
lists : (c : After-list_joined) (list : List ℕ) → list ≡ c.list_joined.new.list.items
    → (j : ℕ) → is_among list j
    ≡ (is_among (get_or c.self.inside.at (c.args.byte / 2) []) j && joined_at c.list_joined.new.bits.items j)
lists c list is j =
    ap (λ ms. is_among ms j) is ∙ c.list_joined.ensures.listed j
    ∙ ap (λ ms. is_among ms j && joined_at c.list_joined.new.bits.items j) c.at.ensures

-- the byte is told to them
called : (c : After-call)
    → AreKept (rooted c.self.inside) c.self.inside.places.items c.self.inside.held c.none-self-inside.result c.call.new.live
    c.call.new.started c.self.inside.at c.call.new.bits.items
called c =
    let i = c.self.inside in
    let low : c.args.byte / 2 < NO_ADDRESS = omega (arith, c.ranges.byte.fits) in
    let call = c.call.ensures in
    told_kept i c.self.invariant c.args.byte _ c.at.ensures _ c.as_slice.ensures.value _ c.list_joined.ensures.bits c.call.new.live
    c.call.new.started call.live call.started call.live_room call.started_room _ call.bits low
    (some_comes c.is_coming.result i.address.left c.is_coming.ensures c.if-not-is_coming.false) c.none-self-inside.result
    (ap (λ (r : RegisterView). r.left) c.none-self-inside.ensures)

pub invariant_of-self : goal.invariant_of-self
invariant_of-self c = read_anew (goal.at.invariant_of-self c).After-list_joined

pub returns-then-some_slow : goal.returns-then-some_slow
returns-then-some_slow c =
    let i = c.self.inside in
    ap (λ (xs : List (Bit NodeState)). targets_of (rooted i) (map (shared i.address.left i.address.value)
    (whole_on i.board.value i.places.items xs)) i.counter)
    (mid_known i c.self.invariant c.args.byte _ c.at.ensures _ c.as_slice.ensures.value _ c.list_joined.ensures.bits)
    ∙ c.self.view_is

pub call-requires-clause-index : goal.call-requires-clause-index
call-requires-clause-index c = (read_anew (goal.at.call-requires-clause-index c).After-list_joined).kept.index

pub list_joined-requires-clause-room : goal.list_joined-requires-clause-room
list_joined-requires-clause-room c = c.self.invariant.called_room

pub call-requires-clause-numbers : goal.call-requires-clause-numbers
call-requires-clause-numbers c =
    subst (λ (n : ℕ). AreNumbers n c.as_slice-4.result.now)
    (read_anew (goal.at.call-requires-clause-numbers c).After-list_joined).called_room c.as_slice-4.ensures.numbers

pub call-requires-clause-called : goal.call-requires-clause-called
call-requires-clause-called c =
    lists (goal.at.call-requires-clause-called c).After-list_joined c.as_slice-4.result.now c.as_slice-4.ensures.value

pub call-requires-clause-live : goal.call-requires-clause-live
call-requires-clause-live c = (read_anew (goal.at.call-requires-clause-live c).After-list_joined).kept.live_room

pub call-requires-clause-started : goal.call-requires-clause-started
call-requires-clause-started c = (read_anew (goal.at.call-requires-clause-started c).After-list_joined).kept.started_room

pub enter_all-acked-requires : goal.enter_all-acked-requires
enter_all-acked-requires c =
    subst (λ (n : ℕ). AreNumbers n c.as_slice-5.result.now) (called (goal.at.enter_all-acked-requires c).After-call).live_room
    c.as_slice-5.ensures.numbers

pub invariant_of-self-2 : goal.invariant_of-self-2
invariant_of-self-2 c =
    let i = c.self.inside in
    let some = some_comes c.is_coming.result i.address.left c.is_coming.ensures c.if-not-is_coming.false in
    let now = c.none-self-inside.result in
    let over : now.left ≡ 0 = ap (λ (r : RegisterView). r.left) c.none-self-inside.ensures in
    let told = c.call.new.bits.items in
    listed i c.self.invariant c.list_joined.new.list
    (edge_freed (rooted i) i.places.items i.held now c.call.new.live c.call.new.started i.at told
    (called (goal.at.invariant_of-self-2 c).After-call) Enter tt over _ c.as_slice-5.ensures.value _ c.enter_all-acked.ensures.targets
    (enters_hold (known_on i.places.items told))
    (held_none nodes_fair (rooted i) i.places.items i.held i.address i.live i.started i.at (bits_in i) c.self.invariant.kept.are some))
    c.list_joined.ensures.room c.call.ensures.live_room

pub returns : goal.returns
returns c =
    let i = c.self.inside in
    let k = rooted i in
    let are = c.self.invariant.kept.are in
    let ps = i.places.items in
    let byte : ℕ = c.args.byte in
    let mid = c.list_joined.new.bits.items in
    let fresh = c.list_joined.ensures.bits in
    let low : byte / 2 < NO_ADDRESS = omega (arith, c.ranges.byte.fits) in
    let now = c.none-self-inside.result in
    let over : now.left ≡ 0 = ap (λ (r : RegisterView). r.left) c.none-self-inside.ensures in
    let call = c.call.ensures in
    let live = c.call.new.live in
    let started = c.call.new.started in
    let told = c.call.new.bits.items in
    let between = called (goal.at.returns c).After-call in
    let e = c.enter_all-acked in
    let entered = edge_known k ps i.held now live started i.at told between Enter tt over _ c.as_slice-5.ensures.value
    e.new.targets.items e.ensures.targets in
    let all = told_all i c.self.invariant byte _ c.at.ensures _ c.as_slice.ensures.value mid fresh live started call.live call.started
    call.live_room call.started_room told call.bits low in
    let none : list_any (slow_at mid) c.as_slice-3.result.now ≡ false =
    sym (c.some_slow.ensures ∙ ap (λ (xs : List (Bit NodeState)). list_any (slow_at xs) c.as_slice-3.result.now) c.as_slice-2.ensures.value)
    ∙ c.if-some_slow.false in
    let quick = mid_quick i c.self.invariant byte _ c.at.ensures _ c.as_slice.ensures.value mid fresh c.as_slice-3.result.now
    (lists (goal.at.returns c).After-list_joined c.as_slice-3.result.now c.as_slice-3.ensures.value) none in
    record {
      in_time = sym (ap (λ (v : TargetsView). some_one (would_be_slow byte) v.bits) c.self.view_is)
          ∙ quick_all nodes_fair k ps i.held i.address i.live i.started i.at (bits_in i) are byte low quick;
      answer = e.ensures.acked ∙ ap (λ ms. some_by (of_those ms acks_enter) 0 told) c.as_slice-5.ensures.value
          ∙ some_known ps live.items acks_enter told between.in_message
          ∙ enter_acks now.left live.items started.items i.at ps (known_on ps told) between.are.units
          ∙ acks_is nodes_fair k ps i.held i.address i.live i.started i.at (bits_in i) are byte low quick (known_on ps told) all
          ∙ ap (λ (v : TargetsView). some_one (would_ack byte) v.bits) c.self.view_is;
      after = seen_after i (address_in byte) (byte_seen byte e.result)
          (whole_seen i c.self.invariant (address_in byte) (invariant_of-self-2 c).kept
          (seen_alone now.left now.value (known_on ps e.new.targets.items) over ∙ entered
          ∙ all_told Enter tt now.left live.items started.items i.at ps (known_on ps told) over between.are.units
          ∙ entered_is nodes_fair k ps i.held i.address i.live i.started i.at (bits_in i) are byte low quick (known_on ps told) all))
          c.add_byte.ensures c.self.view_is;
    }
