use Rattle.bus_lines.proofs.Cited.{◌≡◌, ℕ, ◌+◌, ◌<◌, true, false, get_or, map, length, List, sym, ap, arith, ◌∙◌, subst, IsSome, Site, Bit}
use Rattle.bus_lines.proofs.Cited.{site_of, NodeState, Rooted, is_own, own_device, without, is_chip, kinds_of, states_on, ApartView}
use Rattle.bus_lines.proofs.Cited.{apart_of, world_apart, device_of, is_wired, whole_on}
use Rattle.bus_lines.proofs.ApartLemmas.{emptied_site, own_is, device_there, kinds_set_of, kinds_whole, wired_from, wired_own, in_bits}
use Rattle.bus_lines.proofs.ApartLemmas.{long_whole, get_whole, set_whole, world_after}
use Rattle.bus_lines.proofs.apart.Apart.take_device.Goals as goal

is_of_root : (c : goal.After-self-1) → is_own c.self.inside.board.value c.self.inside.root c.args.number ≡ true
is_of_root c =
    ap (λ (a : ApartView). is_own a.rooted.board a.rooted.root c.args.number) c.self.view_is ∙ sym c.is_own.ensures ∙ c.if-not-is_own.false

abbrev rooted : (c : goal.After-self-1) → Rooted
rooted c = record { board = c.self.inside.board.value; root = c.self.inside.root }

-- the number of the target that the device is
abbrev number : (c : goal.After-self-1) → ℕ
number c = c.self.inside.muxes + c.args.number

-- the targets as they are seen
abbrev whole : (c : goal.After-self-1) → List (Bit NodeState)
whole c = whole_on c.self.inside.board.value c.self.inside.places.items c.self.inside.bits.items

kinds : (c : goal.After-self-1) → map is_chip (states_on (whole c)) ≡ kinds_of c.self.inside.board.value
kinds c = kinds_whole c.self.inside.board.value c.self.inside.places.items c.self.inside.bits.items ∙ c.self.invariant.kinds

wired : (c : goal.After-self-1) → is_wired c.self.inside.places.items (number c) ≡ true
wired c =
    let s = c.self.inside in
    sym (wired_from s.muxes c.args.number s.places.items)
    ∙ wired_own s.board.value s.root s.muxes c.args.number s.places.items c.self.invariant.count c.self.invariant.places ∙ is_of_root c

low : (c : goal.After-self-1) → number c < length c.self.inside.bits.items
low c =
    let s = c.self.inside in
    let long = long_whole s.board.value s.places.items s.bits.items in
    let in_whole = in_bits c.chips_stand_before_devices.ensures (rooted c) (whole c) s.muxes c.args.number (kinds c) c.self.invariant.count
    (is_of_root c) c.index_mut.result.now in
    omega (arith, long, in_whole)

-- the target that the device is, as it is seen
site_was : (c : goal.After-self-1)
    → site_of c.behind-self.inside.addr c.behind-self.inside.joined c.behind-self.inside.heard c.behind-self.inside.target
    ≡ (get_or (whole c) (number c) c.index_mut.result.now).site
site_was c =
    let s = c.self.inside in
    ap (λ (b : Bit NodeState). b.site)
    (c.behind-self.view_is ∙ c.index_mut.ensures.value
    ∙ sym (get_whole s.board.value s.places.items (number c) s.bits.items c.index_mut.result.now (wired c) (low c)))

site_taken : (c : goal.After-self-1)
    → site_of c.behind-self.inside.addr c.behind-self.inside.joined c.behind-self.inside.heard c.take_device.new.self
    ≡ emptied_site (get_or (whole c) (number c) c.index_mut.result.now).site
site_taken c =
    ap (site_of c.behind-self.inside.addr c.behind-self.inside.joined c.behind-self.inside.heard) c.take_device.ensures.after
    ∙ ap emptied_site (site_was c)

device_was : (c : goal.After-self-1) → c.take_device.result ≡ device_of (get_or (whole c) (number c) c.index_mut.result.now).site.state
device_was c = c.take_device.ensures.taken ∙ ap (λ (s : Site NodeState). device_of s.state) (site_was c)

-- .. and as it is kept
site_kept : (c : goal.After-self-1)
    → site_of c.behind-self.inside.addr c.behind-self.inside.joined c.behind-self.inside.heard c.take_device.new.self
    ≡ emptied_site (get_or c.self.inside.bits.items (number c) c.index_mut.result.now).site
site_kept c =
    ap (site_of c.behind-self.inside.addr c.behind-self.inside.joined c.behind-self.inside.heard) c.take_device.ensures.after
    ∙ ap (λ (b : Bit NodeState). emptied_site b.site) (c.behind-self.view_is ∙ c.index_mut.ensures.value)

pub invariant_of-self : goal.invariant_of-self
invariant_of-self c =
    let s = c.self.inside in
    let inv = c.self.invariant in
    record {
      count = inv.count;
      places = inv.places;
      kinds = kinds_set_of (number c) s.bits.items c.index_mut.result.now _
          (site_kept c) ∙ inv.kinds;
    }

pub returns-clause-value : goal.returns-clause-value
returns-clause-value c =
    let s = c.self.inside in
    device_was c
    ∙ own_is c.chips_stand_before_devices.ensures (rooted c) (whole c) s.muxes c.args.number (kinds c) c.self.invariant.count (is_of_root c)
    c.index_mut.result.now
    ∙ ap (λ (a : ApartView). own_device (world_apart false a) c.args.number) c.self.view_is

pub returns-clause-has : goal.returns-clause-has
returns-clause-has c = λ owned.
    let s = c.self.inside in
    subst IsSome (sym (device_was c))
    (device_there c.chips_stand_before_devices.ensures (rooted c) (whole c) s.muxes c.args.number (kinds c) c.self.invariant.count
    (is_of_root c)
    c.index_mut.result.now)

pub returns-clause-after : goal.returns-clause-after
returns-clause-after c = λ busy.
    let s = c.self.inside in
    ap (λ (bs : List (Bit NodeState)). world_apart busy (apart_of (rooted c) bs)) (set_whole s.board.value s.places.items
    (number c) s.bits.items _ (wired c))
    ∙ world_after c.chips_stand_before_devices.ensures (rooted c) (whole c) s.muxes c.args.number (kinds c) c.self.invariant.count
    (is_of_root c)
    c.index_mut.result.now _ (site_taken c) busy
    ∙ ap (λ (a : ApartView). without (world_apart busy a) c.args.number) c.self.view_is
