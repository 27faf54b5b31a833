-- A route leads from a translator's child bus to the bus that its mux stands on: one hop less, which is a line switch and lets each
-- message through, and its pairs are of the devices on the child bus. And the lowered board is one that a board may be.
use Rattle.addr_atr.proofs.Cited.{◌≡◌, ℕ, ◌<◌, ◌≤◌, Bool, true, false, cond, not, ◌&&◌, ◌||◌, List, [], ◌∷◌, ◌++◌, Option, Some, None, eqb}
use Rattle.addr_atr.proofs.Cited.{ltb, refl, sym, ◌∙◌, ap, subst, inl, arith, length, reverse, map, slice_get, unwrap_or, All, list_all}
use Rattle.addr_atr.proofs.Cited.{option_map, option_map_or, eqb-true, and_parts, length-map, All-map, All-head, All-tail, MuxSpec, Way}
use Rattle.addr_atr.proofs.Cited.{IsTargetAddress, BoardView, DeviceView, way_of, IsPlainBoard, Hop, hops, buses, root_of, IsTree}
use Rattle.addr_atr.proofs.Cited.{MeetsRules, tree_of, MapFault, AliasPair, alias_of, TranslatorView, Route, pairs_of, route_of, moved}
use Rattle.addr_atr.proofs.Cited.{lowered_device, lowered, is_over, is_child, may_translate, is_paired, are_distinct, has_child, is_served}
use Rattle.addr_atr.proofs.Cited.{are_pairs_of, fault_after, AreAddresses, IsMap}
use Rattle.std.specs.List.{find}
use Rattle.std.proofs.lemmas.Bool.{ltb-true}
use Rattle.std.proofs.lemmas.List.{reverse-append}
use Rattle.i2c_base.specs.declared.board.MuxKind.{MuxKind}
use Rattle.i2c_base.specs.declared.board.MuxKind.TheVariants as mux_kind
use Rattle.i2c_base.specs.declared.board.RootSpec.{RootSpec}
use Rattle.i2c_base.specs.declared.tree.Way.TheVariants as way
use Rattle.i2c_base.specs.Limits.{POLLS, MOST_DEVICES}
use Rattle.i2c_spec.specs.Grant.{way_through}
use Rattle.i2c_spec.specs.Plain.{FitsChip, FitsForeign, IsPlainMux, IsPlainDevice}
use Rattle.i2c_spec.specs.Tree.{over, of_mux, is_absent, is_held, IsAmongHops}
use Rattle.bus_laws.proofs.world.BoardFacts.{plain_mux, get_within}
use Rattle.addr_atr.specs.declared.fault.MapFault.TheVariants as map_fault
use Rattle.addr_atr.specs.Maps.{route_over}
use Rattle.addr_atr.specs.Lowering.{is_gpio, is_single, is_named, is_parent_bus}
use Rattle.i2c_base.proofs.ListLemmas.{any_found}

-- WHAT A ROUTE IS
pub record IsRoute (b : BoardView) (ts : List TranslatorView) (s : ℕ) (r : Route) : Type 0 where
  pub within : s < buses b
  pub hop : Hop
  pub rest : List Hop
  pub over : hops b s ≡ hop ∷ rest
  pub on : hop.on ≡ r.bus
  pub pairs : pairs_of ts hop.mux ≡ Some r.pairs

module _ (b : BoardView) (ts : List TranslatorView) (s : ℕ) (r : Route) where
  by_pairs : (h : Hop) (hs : List Hop) (o : Option (List AliasPair)) → s < buses b → hops b s ≡ h ∷ hs → pairs_of ts h.mux ≡ o
      → option_map (λ (ps : List AliasPair). record { bus = h.on; pairs = ps }) o ≡ Some r → IsRoute b ts s r
  by_pairs h hs None low at is e = absurd (let f : None ≡ Some r = e in cc)
  by_pairs h hs (Some ps) low at is e =
      let the_route : Route = record { bus = h.on; pairs = ps } in
      let same : the_route ≡ r = (let f : Some the_route ≡ Some r = e in cc) in
      record {
        within = low;
        hop = h;
        rest = hs;
        over = at;
        on = ap (λ (x : Route). x.bus) same;
        pairs = is ∙ ap (λ (x : Route). Some x.pairs) same;
      }

  by_hops : (hs : List Hop) → s < buses b → hops b s ≡ hs → route_over ts (slice_get hs 0) ≡ Some r → IsRoute b ts s r
  by_hops [] low at e = absurd (let f : None ≡ Some r = e in cc)
  by_hops (h ∷ hs) low at e = by_pairs h hs (pairs_of ts h.mux) low at refl e

  pub route-is : route_of b ts s ≡ Some r → IsRoute b ts s r
  route-is e = by (ltb s (buses b)) refl
    where
      by : (t : Bool) → ltb s (buses b) ≡ t → IsRoute b ts s r
      by true low = by_hops (hops b s) (ltb-true s (buses b) low) refl
          (sym (ap (λ (t : Bool). cond t (route_over ts (over b s)) None) low) ∙ e)
      by false high = absurd (let f : None ≡ Some r = sym (ap (λ (t : Bool). cond t (route_over ts (over b s)) None) high) ∙ e in cc)

-- .. it is on the root of the child bus
pub route-root : (b : BoardView) → IsTree b → (ts : List TranslatorView) (s : ℕ) (r : Route) → IsRoute b ts s r
    → root_of b r.bus ≡ root_of b s
route-root b tree ts s r i =
    ap (λ (n : ℕ). root_of b n) (sym i.on)
    ∙ tree.root_same s i.hop (subst (λ (hs : List Hop). IsAmongHops i.hop hs) (sym i.over) (inl refl))

-- WHAT A MAP SAYS of the translator that a mux stands for
pub record IsFound (b : BoardView) (m : ℕ) (ps : List AliasPair) : Type 0 where
  pub single : is_single b m ≡ true
  pub paired : are_pairs_of b (record { mux = m; pairs = ps }) ≡ true
  pub addresses : AreAddresses ps

passed : (p q : Bool) (e f : MapFault) (rest : Option MapFault) → cond (not p) (Some e) (cond (not q) (Some f) rest) ≡ None
    → (p ≡ true) × (q ≡ true) × (rest ≡ None)
passed true true e f rest h = (refl, refl, h)
passed true false e f rest h = absurd (let g : Some f ≡ None = h in cc)
passed false q e f rest h = absurd (let g : Some e ≡ None = h in cc)

found_in : (b : BoardView) (m : ℕ) (ps : List AliasPair) (before ts : List TranslatorView) → fault_after b before ts ≡ None
    → All (λ t. AreAddresses t.pairs) ts → pairs_of ts m ≡ Some ps → IsFound b m ps
found_in b m ps before [] fits all e = absurd (let f : None ≡ Some ps = e in cc)
found_in b m ps before (t ∷ ts) fits all e =
    by (eqb t.mux m) refl (found_in b m ps (before ++ t ∷ []) ts parts.2 (All-tail (λ t. AreAddresses t.pairs) t ts all))
  where
    parts : (may_translate b before t.mux ≡ true) × (are_pairs_of b t ≡ true) × (fault_after b (before ++ t ∷ []) ts ≡ None)
    parts =
        passed (may_translate b before t.mux) (are_pairs_of b t) (map_fault.Mux (length before)) (map_fault.Pairs (length before))
        (fault_after b (before ++ t ∷ []) ts) fits

    by : (y : Bool) → eqb t.mux m ≡ y → (pairs_of ts m ≡ Some ps → IsFound b m ps) → IsFound b m ps
    by true is rest =
        let mux : t.mux ≡ m = eqb-true t.mux m is in
        let pairs : t.pairs ≡ ps =
        (let f : Some t.pairs ≡ Some ps = sym (ap (λ (y : Bool). cond y (Some t.pairs) (pairs_of ts m)) is) ∙ e in cc) in
        subst (λ (n : ℕ). IsFound b n ps) mux (subst (λ (qs : List AliasPair). IsFound b t.mux qs) pairs (record {
          single = (and_parts (is_single b t.mux) (not (is_named before t.mux) && not (is_parent_bus b t.mux)) parts.0).0;
          paired = parts.1;
          addresses = All-head (λ t. AreAddresses t.pairs) t ts all;
        }))
    by false other rest = rest (sym (ap (λ (y : Bool). cond y (Some t.pairs) (pairs_of ts m)) other) ∙ e)

-- THE MUX of a translator: one channel, there, and with no other controller
record IsLine (b : BoardView) (m : ℕ) : Type 0 where
  one : of_mux (λ x. x.channels) 0 b m ≡ 1
  there : is_absent b m ≡ false
  free : is_held b m ≡ false

line_facts : (k : MuxKind) (addr : Option ℕ) (absent : Bool) (foreign : ℕ) → is_gpio k ≡ true → FitsChip k addr absent
    → FitsForeign k foreign
    → (absent ≡ false) × (foreign ≡ 0)
line_facts mux_kind.Gpio addr absent foreign e chip other = (chip.1, other)
line_facts mux_kind.Pca9548 addr absent foreign e chip other = absurd (let f : false ≡ true = e in cc)
line_facts mux_kind.Pca9546 addr absent foreign e chip other = absurd (let f : false ≡ true = e in cc)
line_facts mux_kind.Pca9544 addr absent foreign e chip other = absurd (let f : false ≡ true = e in cc)
line_facts mux_kind.Pca9541 addr absent foreign e chip other = absurd (let f : false ≡ true = e in cc)

line_of : (b : BoardView) → IsPlainBoard b → (m : ℕ) (o : Option MuxSpec) → slice_get b.muxes m ≡ o
    → option_map_or (λ x. is_gpio x.kind && (eqb x.channels 1)) o false ≡ true → IsLine b m
line_of b plain m None at e = absurd (let f : false ≡ true = e in cc)
line_of b plain m (Some x) at e =
    let both = and_parts (is_gpio x.kind) (eqb x.channels 1) e in
    let is : IsPlainMux x = plain_mux b plain m x at in
    let facts = line_facts x.kind x.addr x.absent x.foreign both.0 is.chip is.foreign in
    record {
      one = ap (λ (o : Option MuxSpec). unwrap_or (option_map (λ (y : MuxSpec). y.channels) o) 0) at ∙ eqb-true x.channels 1 both.1;
      there = ap (λ (o : Option MuxSpec). unwrap_or (option_map (λ (y : MuxSpec). y.absent) o) true) at ∙ facts.0;
      free = ap (λ (o : Option MuxSpec). unwrap_or (option_map (λ (y : MuxSpec). eqb y.foreign POLLS) o) false) at
          ∙ ap (λ (n : ℕ). eqb n POLLS) facts.1;
    }

-- THE WAY: a hop that is there and free is let through
way_more : (b : BoardView) (h : Hop) (hs : List Hop) → is_absent b h.mux ≡ false → is_held b h.mux ≡ false
    → way_through b (hs ++ h ∷ []) ≡ way_through b hs
way_more b h [] there free =
    ap (λ (t : Bool). cond t (way.NoAck h.mux) (cond (is_held b h.mux) (way.Held h.mux) way.Clear)) there
    ∙ ap (λ (t : Bool). cond t (way.Held h.mux) way.Clear) free
way_more b h (g ∷ gs) there free =
    ap (λ (w : Way). cond (is_absent b g.mux) (way.NoAck g.mux) (cond (is_held b g.mux) (way.Held g.mux) w)) (way_more b h gs there free)

-- THE DEVICES that the pairs are of
any_paired : (b : BoardView) (m a : ℕ) (ps : List AliasPair) → is_paired ps a ≡ true
    → list_all (λ (p : AliasPair). has_child b m p.addr) ps ≡ true → has_child b m a ≡ true
any_paired b m a [] e all = absurd (let f : false ≡ true = e in cc)
any_paired b m a (p ∷ ps) e all = by (any_paired b m a ps) (eqb p.addr a) refl
  where
    both : (has_child b m p.addr ≡ true) × (list_all (λ (q : AliasPair). has_child b m q.addr) ps ≡ true)
    both = and_parts (has_child b m p.addr) (list_all (λ (q : AliasPair). has_child b m q.addr) ps) all

    by : (is_paired ps a ≡ true → list_all (λ (q : AliasPair). has_child b m q.addr) ps ≡ true → has_child b m a ≡ true) → (t : Bool)
        → eqb p.addr a ≡ t → has_child b m a ≡ true
    by rest true is = ap (has_child b m) (sym (eqb-true p.addr a is)) ∙ both.0
    by rest false other = rest (sym (ap (λ (t : Bool). t || is_paired ps a) other) ∙ e) both.1

-- a child of a mux has its hop over it
child_hop : (b : BoardView) (m u : ℕ) (hs : List Hop) → hops b u ≡ hs → is_over m (slice_get hs 0) ≡ true
    → (g : Hop) × IsAmongHops g (hops b u) × (g.mux ≡ m) × (gs : List Hop) × (hops b u ≡ g ∷ gs)
child_hop b m u [] at e = absurd (let f : false ≡ true = e in cc)
child_hop b m u (g ∷ gs) at e = (g, subst (λ (xs : List Hop). IsAmongHops g xs) (sym at) (inl refl), eqb-true g.mux m e, gs, at)

alias_plain : (ps : List AliasPair) (a : ℕ) → AreAddresses ps → IsTargetAddress a → IsTargetAddress (alias_of ps a)
alias_plain [] a all fits = fits
alias_plain (p ∷ ps) a all fits =
    elim (eqb p.addr a)
    as (λ t. IsTargetAddress (option_map_or (λ (q : AliasPair). q.alias) (cond t (Some p) (find (λ (q : AliasPair). eqb q.addr a) ps)) a)) [
      | true ↦ All-head (λ (q : AliasPair). IsTargetAddress q.alias) p ps all.1
      | false ↦ alias_plain ps a (
        All-tail (λ (q : AliasPair). IsTargetAddress q.addr) p ps all.0,
        All-tail (λ (q : AliasPair). IsTargetAddress q.alias) p ps all.1,
      ) fits
    ]

-- A MAP OF A BOARD
module _ (b : BoardView) (plain : IsPlainBoard b) (tree : IsTree b) (ts : List TranslatorView) (is_map : IsMap b ts) where
  pub found : (s : ℕ) (r : Route) (i : IsRoute b ts s r) → IsFound b i.hop.mux r.pairs
  found s r i = found_in b i.hop.mux r.pairs [] ts is_map.fits is_map.addresses i.pairs

  line : (s : ℕ) (r : Route) (i : IsRoute b ts s r) → IsLine b i.hop.mux
  line s r i = line_of b plain i.hop.mux (slice_get b.muxes i.hop.mux) refl (found s r i).single

  among : (s : ℕ) (r : Route) (i : IsRoute b ts s r) → IsAmongHops i.hop (hops b s)
  among s r i = subst (λ (xs : List Hop). IsAmongHops i.hop xs) (sym i.over) (inl refl)

  -- the bus that the mux stands on comes before the child bus, and has the same way and the same root
  pub route-before : (s : ℕ) (r : Route) → IsRoute b ts s r → r.bus < s
  route-before s r i = subst (λ (u : ℕ). u < s) i.on (tree.leads s i.hop i.rest i.over).1

  pub route-hops : (s : ℕ) (r : Route) (i : IsRoute b ts s r) → hops b s ≡ i.hop ∷ hops b r.bus
  route-hops s r i =
      i.over ∙ ap (λ (hs : List Hop). i.hop ∷ hs) (sym (tree.tail s i.hop i.rest i.over) ∙ ap (hops b) i.on)

  pub route-way : (s : ℕ) (r : Route) → IsRoute b ts s r → way_of b r.bus ≡ way_of b s
  route-way s r i =
      sym (way_more b i.hop (reverse (hops b r.bus)) (line s r i).there (line s r i).free)
      ∙ ap (way_through b) (sym (reverse-append (i.hop ∷ []) (hops b r.bus)))
      ∙ ap (λ (hs : List Hop). way_through b (reverse hs)) (sym (route-hops s r i))

  -- one channel leads to one bus
  one_child : (s u : ℕ) (r : Route) (i : IsRoute b ts s r) → u < buses b → is_child b i.hop.mux u ≡ true → u ≡ s
  one_child s u r i low e =
      let c = child_hop b i.hop.mux u (hops b u) refl e in
      let g : Hop = c.0 in
      let one : of_mux (λ x. x.channels) 0 b i.hop.mux ≡ 1 = (line s r i).one in
      let at_g : g.channel < of_mux (λ x. x.channels) 0 b g.mux = tree.within u g low c.1 in
      let at_h : i.hop.channel < of_mux (λ x. x.channels) 0 b i.hop.mux = tree.within s i.hop i.within (among s r i) in
      let g_one : of_mux (λ x. x.channels) 0 b g.mux ≡ 1 = ap (λ (m : ℕ). of_mux (λ x. x.channels) 0 b m) c.2 ∙ one in
      let same : g ≡ i.hop = tree.channel u s g i.hop c.1 (among s r i) c.2 (omega (arith, one, g_one, at_g, at_h)) in
      sym (tree.leads u g c.3 c.4).0 ∙ ap (λ (x : Hop). x.bus) same ∙ (tree.leads s i.hop i.rest i.over).0

  -- a paired address is that of a device on the child bus
  pub record IsOf (s a : ℕ) : Type 0 where
    pub device : ℕ
    pub spec : DeviceView
    pub here : slice_get b.devices device ≡ Some spec
    pub bus : spec.bus ≡ s
    pub addr : spec.addr ≡ a

  pub paired-device : (s : ℕ) (r : Route) → IsRoute b ts s r → (a : ℕ) → is_paired r.pairs a ≡ true → IsOf s a
  paired-device s r i a paired =
      let t : TranslatorView = record { mux = i.hop.mux; pairs = r.pairs } in
      let all = and_parts (list_all (λ (p : AliasPair). has_child b i.hop.mux p.addr) r.pairs)
      (list_all (is_served b t) b.devices && are_distinct r.pairs) (found s r i).paired in
      let f = any_found (λ (d : DeviceView). is_child b i.hop.mux d.bus && (eqb d.addr a)) b.devices
      (any_paired b i.hop.mux a r.pairs paired all.0) in
      let both = and_parts (is_child b i.hop.mux f.1.bus) (eqb f.1.addr a) f.3 in
      let low : f.1.bus < buses b =
      (let w = get_within b.devices f.0 f.1 f.1 f.2 in subst (λ (x : DeviceView). x.bus < buses b) w.1 (plain.placed f.0 f.1 w.0)) in
      record {
        device = f.0;
        spec = f.1;
        here = f.2;
        bus = one_child s f.1.bus r i low both.0;
        addr = eqb-true f.1.addr a both.1;
      }

  -- the lowered board is one that a board may be
  moved_plain : (d : DeviceView) → IsPlainDevice d → (o : Option Route) → route_of b ts d.bus ≡ o → IsPlainDevice (moved o d)
  moved_plain d is None e = is
  moved_plain d is (Some r) e =
      record {
        address = alias_plain r.pairs d.addr (found d.bus r (route-is b ts d.bus r e)).addresses is.address;
        kind = is.kind;
        runs = is.runs;
      }

  moved_placed : (d : DeviceView) → d.bus < buses b → (o : Option Route) → route_of b ts d.bus ≡ o → (moved o d).bus < buses b
  moved_placed d low None e = low
  moved_placed d low (Some r) e = omega (arith, low, route-before d.bus r (route-is b ts d.bus r e))

  pub lowered-plain : IsPlainBoard (lowered b ts)
  lowered-plain =
      record {
        version = plain.version;
        some_root = plain.some_root;
        most_roots = plain.most_roots;
        most_muxes = plain.most_muxes;
        most_devices = subst (λ (n : ℕ). n ≤ MOST_DEVICES) (sym (length-map b.devices (lowered_device b ts))) plain.most_devices;
        muxes = plain.muxes;
        devices = All-map IsPlainDevice (lowered_device b ts) b.devices
            (λ k d low. moved_plain _ (plain.devices k d low) (route_of b ts _) refl);
        planted = plain.planted;
        placed = All-map (λ (d : DeviceView). d.bus < buses b) (lowered_device b ts) b.devices
            (λ k d low. moved_placed _ (plain.placed k d low) (route_of b ts _) refl);
      }

-- .. put together of its parts
abbrev parts_are : ℕ → List RootSpec → List MuxSpec → List DeviceView → BoardView
parts_are version roots muxes devices = record { version = version; roots = roots; muxes = muxes; devices = devices }

module _ (b : BoardView) (ts : List TranslatorView) (version : ℕ) (roots : List RootSpec) (muxes : List MuxSpec) (devices : List DeviceView)
    (v : version ≡ b.version) (r : roots ≡ b.roots) (m : muxes ≡ b.muxes) (d : devices ≡ map (lowered_device b ts) b.devices) where
  pub parts-same : record { version = version; roots = roots; muxes = muxes; devices = devices } ≡ lowered b ts
  parts-same =
      ap (λ x. parts_are x roots muxes devices) v ∙ ap (λ x. parts_are b.version x muxes devices) r
      ∙ ap (λ x. parts_are b.version b.roots x devices) m ∙ ap (λ x. parts_are b.version b.roots b.muxes x) d

  pub lowered-parts : IsPlainBoard b → MeetsRules b → IsMap b ts
      → IsPlainBoard (record { version = version; roots = roots; muxes = muxes; devices = devices })
  lowered-parts plain meets is_map = subst IsPlainBoard (sym parts-same) (lowered-plain b plain (tree_of b plain meets) ts is_map)
