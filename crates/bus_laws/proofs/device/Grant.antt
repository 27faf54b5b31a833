-- The address of a caller's message leads to the device that its bus grants. The inductions go over hops, and over the
-- devices of the board.
use Rattle.bus_laws.proofs.Cited.{◌≡◌, ℕ, zero, suc, ◌+◌, Bool, true, false, cond, not, ◌&&◌, ◌||◌, List, [], ◌∷◌, Option, Some, None, eqb}
use Rattle.bus_laws.proofs.Cited.{refl, sym, ◌∙◌, ap, subst, ◌⊎◌, inl, inr, arith, add-zero, zero-add, slice_get, unwrap_or, list_any}
use Rattle.bus_laws.proofs.Cited.{list_all, option_map, eqb-true, eq-eqb, MuxSpec, Node, Grant, BoardView, DeviceView, Hop, hops, root_of}
use Rattle.bus_laws.proofs.Cited.{of_device, is_below, is_on_path, is_aside, Crosses, IsAmongHops, IsOver, IsAlong, MayJoin, IsTree}
use Rattle.bus_laws.proofs.Cited.{home_of, addr_of, has_address, some_chip, some_device, grant_of, named_of, granted_on, World, opens_hop}
use Rattle.bus_laws.proofs.Cited.{is_joined, joins_device, LeadsTo, or-true, and_first, and_last, any_passes_from_place}
use Rattle.std.specs.List.{position_from}
use Rattle.std.proofs.lemmas.Bool.{and_from}
use Rattle.i2c_base.specs.declared.ids.Node.TheVariants as node
use Rattle.i2c_base.specs.declared.tree.Grant.TheVariants as grant
use Rattle.i2c_spec.specs.Grant.{some_bound, named_by}
use Rattle.bus_laws.proofs.world.Reach.{aside_apart, address_is}
use Rattle.bus_laws.proofs.world.Calls.{on_or_below, busy_below, busy_aside, no_chip}
use Rattle.i2c_base.proofs.ListLemmas.{any_none}

-- two buses over one bus lie along each other
crossed_along : (b : BoardView) → IsTree b → (hs : List Hop) (s u v : ℕ) → hops b s ≡ hs → Crosses u hs → Crosses v hs → IsAlong b u v
crossed_along b tree [] s u v at cu cv = absurd cu
crossed_along b tree (h ∷ hs) s u v at cu cv =
    elim cu [
      | inl eu ↦ elim cv [
        | inl ev ↦ inl (inl (sym eu ∙ ev))
        | inr mv ↦ inr (inr (subst (λ (xs : List Hop). Crosses v xs) (sym (tree.tail s h hs at) ∙ ap (λ (i : ℕ). hops b i) eu) mv))
      ]
      | inr mu ↦ elim cv [
        | inl ev ↦ inl (inr (subst (λ (xs : List Hop). Crosses u xs) (sym (tree.tail s h hs at) ∙ ap (λ (i : ℕ). hops b i) ev) mu))
        | inr mv ↦ crossed_along b tree hs h.on u v (tree.tail s h hs at) mu mv
      ]
    ]

pub over_along : (b : BoardView) → IsTree b → (s u v : ℕ) → IsOver b u s → IsOver b v s → IsAlong b u v
over_along b tree s u v ou ov =
    elim ou [
      | inl eu ↦ inr (subst (λ (i : ℕ). IsOver b v i) (sym eu) ov)
      | inr cu ↦ elim ov [
        | inl ev ↦ inl (subst (λ (i : ℕ). IsOver b u i) (sym ev) (inr cu))
        | inr cv ↦ crossed_along b tree (hops b s) s u v refl cu cv
      ]
    ]

-- the test of a path, read back
any_crosses : (u : ℕ) (hs : List Hop) → list_any (λ (h : Hop). eqb h.on u) hs ≡ true → Crosses u hs
any_crosses u [] e = absurd (let f : false ≡ true = e in cc)
any_crosses u (h ∷ hs) e = by (eqb h.on u) refl (any_crosses u hs)
  where
    by : (t : Bool) → eqb h.on u ≡ t → (list_any (λ (g : Hop). eqb g.on u) hs ≡ true → Crosses u hs) → (h.on ≡ u) ⊎ Crosses u hs
    by true f rest = inl (eqb-true h.on u f)
    by false f rest = inr (rest (sym (ap (λ (t : Bool). t || list_any (λ (g : Hop). eqb g.on u) hs) f) ∙ e))

pub path_over : (b : BoardView) (s u : ℕ) → is_on_path b s u ≡ true → IsOver b u s
path_over b s u e = by (eqb u s) refl
  where
    by : (t : Bool) → eqb u s ≡ t → IsOver b u s
    by true f = inl (eqb-true u s f)
    by false f = inr (any_crosses u (hops b s) (sym (ap (λ (t : Bool). t || is_below b s u) f) ∙ e))

-- what is over a joined bus is joined
joined_crossed : (w : World) → IsTree w.board → (hs : List Hop) (s u : ℕ) → hops w.board s ≡ hs → is_joined w s ≡ true → Crosses u hs
    → is_joined w u ≡ true
joined_crossed w tree [] s u at joined c = absurd c
joined_crossed w tree (h ∷ hs) s u at joined c =
    let rooted : eqb (root_of w.board s) w.root ≡ true = and_first (eqb (root_of w.board s) w.root)
    (list_all (opens_hop w.chips) (hops w.board s)) joined in
    let all : list_all (opens_hop w.chips) (h ∷ hs) ≡ true =
    ap (λ (xs : List Hop). list_all (opens_hop w.chips) xs) (sym at)
    ∙ and_last (eqb (root_of w.board s) w.root) (list_all (opens_hop w.chips) (hops w.board s)) joined in
    let same : root_of w.board h.on ≡ root_of w.board s = tree.root_same s h
    (subst (λ (xs : List Hop). IsAmongHops h xs) (sym at) (inl refl)) in
    let above : is_joined w h.on ≡ true =
    and_from (eqb (root_of w.board h.on) w.root) (list_all (opens_hop w.chips) (hops w.board h.on)) (ap (λ (i : ℕ). eqb i w.root) same
    ∙ rooted)
    (ap (λ (xs : List Hop). list_all (opens_hop w.chips) xs) (tree.tail s h hs at)
    ∙ and_last (opens_hop w.chips h) (list_all (opens_hop w.chips) hs) all) in
    elim c [
      | inl e ↦ ap (λ (i : ℕ). is_joined w i) (sym e) ∙ above
      | inr more ↦ joined_crossed w tree hs h.on u (tree.tail s h hs at) above more
    ]

pub joined_over : (w : World) → IsTree w.board → (s u : ℕ) → is_joined w s ≡ true → IsOver w.board u s → is_joined w u ≡ true
joined_over w tree s u joined over =
    elim over [
      | inl e ↦ ap (λ (i : ℕ). is_joined w i) e ∙ joined
      | inr c ↦ joined_crossed w tree (hops w.board s) s u refl joined c
    ]

-- the first place that passes a test is there and passes it; there is one where some place passes
module _ {X : Type 0} (test : X → Bool) where
  pub position_at : (k : ℕ) (xs : List X) (n : ℕ) → position_from test k xs ≡ Some n
      → (i : ℕ) × (x : X) × (n ≡ k + i) × (slice_get xs i ≡ Some x) × (test x ≡ true)
  position_at k [] n e = absurd (let f : None ≡ Some n = e in cc)
  position_at k (x ∷ xs) n e = by (test x) refl (position_at (k + 1) xs n)
    where
      by : (t : Bool) → test x ≡ t
          → (position_from test (k + 1) xs ≡ Some n → (i : ℕ) × (y : X) × (n ≡ k + 1 + i) × (slice_get xs i ≡ Some y) × (test y ≡ true))
          → (i : ℕ) × (y : X) × (n ≡ k + i) × (slice_get (x ∷ xs) i ≡ Some y) × (test y ≡ true)
      by true f rest =
          let here : Some k ≡ Some n = sym (ap (λ (t : Bool). cond t (Some k) (position_from test (k + 1) xs)) f) ∙ e in
          (0, x, (let g : k ≡ n = cc in sym g ∙ sym (add-zero k)), refl, f)
      by false f rest =
          let r = rest (sym (ap (λ (t : Bool). cond t (Some k) (position_from test (k + 1) xs)) f) ∙ e) in
          (suc r.0, r.1, r.2 ∙ (let g : k + 1 + r.0 ≡ k + suc r.0 = omega arith in g), r.3, r.4)

  pub position_some : (k : ℕ) (xs : List X) (i : ℕ) (x : X) → slice_get xs i ≡ Some x → test x ≡ true → position_from test k xs ≡ None → ⊥
  position_some k [] i x at passes e = let f : None ≡ Some x = at in absurd cc
  position_some k (y ∷ ys) zero x at passes e =
      absurd (let same : y ≡ x = (let f : Some y ≡ Some x = at in cc) in
      let here : Some k ≡ None = sym (ap (λ (t : Bool). cond t (Some k) (position_from test (k + 1) ys)) (ap test same ∙ passes)) ∙ e in cc)
  position_some k (y ∷ ys) (suc i) x at passes e = by (test y) refl (position_some (k + 1) ys i x at passes)
    where
      by : (t : Bool) → test y ≡ t → (position_from test (k + 1) ys ≡ None → ⊥) → ⊥
      by true f rest = absurd (let here : Some k ≡ None = sym (ap (λ (t : Bool). cond t (Some k) (position_from test (k + 1) ys)) f) ∙ e in
          cc)
      by false f rest = rest (sym (ap (λ (t : Bool). cond t (Some k) (position_from test (k + 1) ys)) f) ∙ e)

not_busy-names : (p q y z : Bool) (g : Grant)
    → (cond p grant.Busy (cond q grant.Busy (cond y grant.Busy (cond z grant.Busy g))) ≡ grant.Busy → ⊥)
    → cond p grant.Busy (cond q grant.Busy (cond y grant.Busy (cond z grant.Busy g))) ≡ g
not_busy-names true q y z g free = absurd (free refl)
not_busy-names false true y z g free = absurd (free refl)
not_busy-names false false true z g free = absurd (free refl)
not_busy-names false false false true g free = absurd (free refl)
not_busy-names false false false false g free = refl

named_back : (o : Option ℕ) → named_of (named_by o) ≡ o
named_back None = refl
named_back (Some d) = refl

device_there : (o : Option DeviceView) (test : DeviceView → Bool) → unwrap_or (option_map test o) false ≡ true
    → (x : DeviceView) × (o ≡ Some x) × (test x ≡ true)
device_there None test e = absurd (let f : false ≡ true = e in cc)
device_there (Some x) test e = (x, refl, e)

-- what is said of a device that is there
pub bus_at : (b : BoardView) (d : ℕ) (x : DeviceView) → slice_get b.devices d ≡ Some x → of_device (λ (y : DeviceView). y.bus) 0 b d ≡ x.bus
bus_at b d x at = ap (λ (o : Option DeviceView). unwrap_or (option_map (λ (y : DeviceView). y.bus) o) 0) at

pub addr_at : (b : BoardView) (a d : ℕ) (x : DeviceView) → slice_get b.devices d ≡ Some x → eqb x.addr a ≡ true
    → addr_of b (node.Device d) ≡ Some a
addr_at b a d x at e = ap (λ (o : Option DeviceView). unwrap_or (option_map (λ (y : DeviceView). Some y.addr) o) None) at
    ∙ ap Some (eqb-true x.addr a e)

module _ (w : World) (tree : IsTree w.board) (s : ℕ) (along : (u : ℕ) → is_joined w u ≡ true → MayJoin w.board s u)
    (joined : is_joined w s ≡ true)
    (a : ℕ) (force : Bool) (not_busy : grant_of w.board s a force ≡ grant.Busy → ⊥) where
  abbrev fits : DeviceView → Bool
  fits d = eqb d.addr a && is_on_path w.board s d.bus

  granted-is : granted_on w.board s force a ≡ position_from fits 0 w.board.devices
  granted-is =
      ap (λ (g : Grant). named_of g)
      (not_busy-names (some_chip w.board a (is_on_path w.board s))
      (some_chip w.board a (λ u. is_below w.board u s) || some_device w.board a (λ u. is_below w.board u s))
      (some_chip w.board a (is_aside w.board s) || some_device w.board a (is_aside w.board s))
      (not force && some_bound w.board a (is_on_path w.board s)) (named_by (position_from fits 0 w.board.devices)) not_busy)
      ∙ named_back (position_from fits 0 w.board.devices)

  -- a device that is granted: it is there, has the address, and stands on the path
  granted_there : (d : ℕ) → granted_on w.board s force a ≡ Some d
      → (x : DeviceView) × (slice_get w.board.devices d ≡ Some x) × (fits x ≡ true)
  granted_there d e =
      let r = position_at fits 0 w.board.devices d (sym granted-is ∙ e) in
      (r.1, ap (λ (i : ℕ). slice_get w.board.devices i) (r.2 ∙ zero-add r.0) ∙ r.3, r.4)

  granted_joined : (d : ℕ) → granted_on w.board s force a ≡ Some d → joins_device w d ≡ true
  granted_joined d e =
      let r = granted_there d e in
      ap (λ (i : ℕ). is_joined w i) (bus_at w.board d r.0 r.1)
      ∙ joined_over w tree s r.0.bus joined (path_over w.board s r.0.bus (and_last (eqb r.0.addr a) (is_on_path w.board s r.0.bus) r.2))

  granted_addressed : (d : ℕ) → granted_on w.board s force a ≡ Some d → of_device (λ (x : DeviceView). eqb x.addr a) false w.board d ≡ true
  granted_addressed d e =
      let r = granted_there d e in
      ap (λ (o : Option DeviceView). unwrap_or (option_map (λ (x : DeviceView). eqb x.addr a) o) false) r.1
      ∙ and_first (eqb r.0.addr a) (is_on_path w.board s r.0.bus) r.2

  -- a device on the path with the address is the one that is granted
  path_granted : (d : ℕ) (x : DeviceView) → slice_get w.board.devices d ≡ Some x → eqb x.addr a ≡ true → is_on_path w.board s x.bus ≡ true
      → granted_on w.board s force a ≡ Some d
  path_granted d x at addr on = by (granted_on w.board s force a) refl
    where
      by : (o : Option ℕ) → granted_on w.board s force a ≡ o → granted_on w.board s force a ≡ Some d
      by None e =
          absurd (position_some fits 0 w.board.devices d x at (and_from (eqb x.addr a) (is_on_path w.board s x.bus) addr on) (sym granted-is
          ∙ e))
      by (Some n) e =
          let r = granted_there n e in
          let along_each : IsAlong w.board r.0.bus x.bus =
          over_along w.board tree s r.0.bus x.bus
          (path_over w.board s r.0.bus (and_last (eqb r.0.addr a) (is_on_path w.board s r.0.bus) r.2))
          (path_over w.board s x.bus on) in
          let homes : IsAlong w.board (home_of w.board (node.Device n)) (home_of w.board (node.Device d)) =
          subst (λ (i : ℕ). IsAlong w.board i (home_of w.board (node.Device d))) (sym (bus_at w.board n r.0 r.1))
          (subst (λ (i : ℕ). IsAlong w.board r.0.bus i) (sym (bus_at w.board d x at)) along_each) in
          let same : node.Device n ≡ node.Device d =
          tree.addresses (node.Device n) (node.Device d) a
          (addr_at w.board a n r.0 r.1 (and_first (eqb r.0.addr a) (is_on_path w.board s r.0.bus) r.2))
          (addr_at w.board a d x at addr) homes in
          e ∙ (let f : n ≡ d = cc in ap Some f)

  joined_granted : (d : ℕ) → joins_device w d ≡ true → of_device (λ (x : DeviceView). eqb x.addr a) false w.board d ≡ true
      → granted_on w.board s force a ≡ Some d
  joined_granted d j t =
      let r = device_there (slice_get w.board.devices d) (λ (x : DeviceView). eqb x.addr a) t in
      let bus : of_device (λ (y : DeviceView). y.bus) 0 w.board d ≡ r.0.bus = bus_at w.board d r.0 r.1 in
      elim (along (of_device (λ (y : DeviceView). y.bus) 0 w.board d) j) [
        | inl lies ↦ elim (on_or_below w.board s (of_device (λ (y : DeviceView). y.bus) 0 w.board d) lies) [
          | inl on ↦ path_granted d r.0 r.1 r.2 (ap (λ (i : ℕ). is_on_path w.board s i) (sym bus) ∙ on)
          | inr below ↦ absurd (not_busy (busy_below w.board s a force
              (ap (λ (z : Bool). some_chip w.board a (λ u. is_below w.board u s) || z)
              (any_passes_from_place (λ (x : DeviceView). eqb x.addr a && is_below w.board x.bus s) w.board.devices d r.0 r.1
              (and_from (eqb r.0.addr a) (is_below w.board r.0.bus s) r.2 (ap (λ (i : ℕ). is_below w.board i s) (sym bus) ∙ below)))
              ∙ or-true (some_chip w.board a (λ u. is_below w.board u s)))))
        ]
        | inr aside ↦ absurd (not_busy (busy_aside w.board s a force
            (ap (λ (z : Bool). some_chip w.board a (is_aside w.board s) || z)
            (any_passes_from_place (λ (x : DeviceView). eqb x.addr a && is_aside w.board s x.bus) w.board.devices d r.0 r.1
            (and_from (eqb r.0.addr a) (is_aside w.board s r.0.bus) r.2 (ap (λ (i : ℕ). is_aside w.board s i) (sym bus) ∙ aside)))
            ∙ or-true (some_chip w.board a (is_aside w.board s)))))
      ]

  granted_leads : LeadsTo w a (granted_on w.board s force a)
  granted_leads =
      record {
        found = joined_granted;
        joined = granted_joined;
        addressed = granted_addressed;
        chips = λ reading. no_chip w.board tree w.root s w.chips w.devices w.hearing w.busy along a force not_busy reading;
      }

-- where all that is joined lies along a joined bus, an address on it that isn't busy leads to the device that it grants
pub granted-leads : (b : BoardView) (w : World) (s a : ℕ) (force : Bool) → w.board ≡ b → IsTree b
    → ((u : ℕ) → is_joined w u ≡ true → MayJoin b s u) → is_joined w s ≡ true
    → (grant_of b s a force ≡ grant.Busy → ⊥) → LeadsTo w a (granted_on b s force a)
granted-leads b w s a force board =
    subst (λ (x : BoardView). IsTree x → ((u : ℕ) → is_joined w u ≡ true → MayJoin x s u) → is_joined w s ≡ true
    → (grant_of x s a force ≡ grant.Busy → ⊥) → LeadsTo w a (granted_on x s force a))
    board (λ tree along joined free. granted_leads w tree s along joined a force free)

pub none-aside : (b : BoardView) → IsTree b → (s d : ℕ) (x : DeviceView) → slice_get b.devices d ≡ Some x → is_on_path b s x.bus ≡ true
    → (some_chip b x.addr (is_aside b s) || some_device b x.addr (is_aside b s)) ≡ false
none-aside b tree s d x at on =
    ap (λ (t : Bool). t || some_device b x.addr (is_aside b s))
    (any_none (λ (m : MuxSpec). has_address x.addr m.addr && is_aside b s m.bus) b.muxes
    (λ i m there e. apart (node.Chip i) m.bus (ap (λ (o : Option MuxSpec). unwrap_or (option_map (λ (y : MuxSpec). y.bus) o) 0) there)
    (ap (λ (o : Option MuxSpec). unwrap_or (option_map (λ (y : MuxSpec). y.addr) o) None) there
    ∙ address_is x.addr m.addr (and_first (has_address x.addr m.addr) (is_aside b s m.bus) e))
    (and_last (has_address x.addr m.addr) (is_aside b s m.bus) e)))
    ∙ any_none (λ (y : DeviceView). eqb y.addr x.addr && is_aside b s y.bus) b.devices
    (λ i y there e. apart (node.Device i) y.bus (bus_at b i y there)
    (addr_at b x.addr i y there (and_first (eqb y.addr x.addr) (is_aside b s y.bus) e))
    (and_last (eqb y.addr x.addr) (is_aside b s y.bus) e))
  where
    apart : (n : Node) (u : ℕ) → home_of b n ≡ u → addr_of b n ≡ Some x.addr → is_aside b s u ≡ true → ⊥
    apart n u home addr aside =
        aside_apart b tree s x.addr n (node.Device d) addr (addr_at b x.addr d x at (eq-eqb x.addr x.addr refl))
        (ap (λ (i : ℕ). is_aside b s i) home ∙ aside)
        (subst (λ (i : ℕ). IsOver b i s) (sym (bus_at b d x at)) (path_over b s x.bus on))
