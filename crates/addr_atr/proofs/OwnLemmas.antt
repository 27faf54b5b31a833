-- On every accepted board a device's own address on its own bus leads to that device, or is busy because a driver is bound to it.
-- Each test of the grant goes over targets that have the address, and the rules leave none but the device.
use Rattle.addr_atr.proofs.Cited.{◌≡◌, ℕ, Bool, true, false, cond, not, ◌&&◌, ◌||◌, List, Option, Some, None, eqb, refl, sym, ◌∙◌, ap}
use Rattle.addr_atr.proofs.Cited.{subst, inl, arith, length, reverse, slice_get, unwrap_or, list_any, option_map, eqb-true, eq-eqb, MuxSpec}
use Rattle.addr_atr.proofs.Cited.{Grant, BoardView, DeviceView, IsTree, grant_of}
use Rattle.std.proofs.Common.{inr, zero-add}
use Rattle.std.specs.List.{position_from}
use Rattle.std.proofs.lemmas.Bool.{and_from, false≢true}
use Rattle.std.proofs.Math.Bool.{or-true}
use Rattle.i2c_base.specs.declared.ids.Node.{Node}
use Rattle.i2c_base.specs.declared.ids.Node.TheVariants as node
use Rattle.i2c_base.specs.declared.tree.Grant.TheVariants as grant
use Rattle.i2c_spec.specs.Tree.{is_below, is_on_path, is_aside, IsAlong}
use Rattle.i2c_spec.specs.TreeFacts.{home_of, addr_of}
use Rattle.i2c_spec.specs.Grant.{has_address, some_chip, some_device, some_bound, named_by}
use Rattle.i2c_spec.specs.Plain.{IsPlanted}
use Rattle.i2c_spec.proofs.TreeLemmas.{tree_above}
use Rattle.bus_laws.proofs.world.Reach.{address_is}
use Rattle.bus_laws.proofs.device.Grant.{path_over, position_at, position_some, none-aside}
use Rattle.i2c_base.proofs.Booleans.{and_first, and_last}
use Rattle.std.proofs.lemmas.Map.Keys.{any_passes_from_place}
use Rattle.i2c_base.proofs.ListLemmas.{any_none}

-- the one element that passes decides
any_one : {X : Type 0} (test : X → Bool) (xs : List X) (d : ℕ) (x : X) → slice_get xs d ≡ Some x
    → ((i : ℕ) (y : X) → slice_get xs i ≡ Some y → test y ≡ true → y ≡ x) → list_any test xs ≡ test x
any_one {X} test xs d x at only = by (test x) refl
  where
    by : (t : Bool) → test x ≡ t → list_any test xs ≡ t
    by true e = any_passes_from_place test xs d x at e
    by false e = any_none test xs (λ i y there passes. let f : false ≡ true = sym e ∙ ap test (sym (only i y there passes)) ∙ passes in cc)

-- what is said of a device that is there, and of a chip
bus_at : (b : BoardView) (d : ℕ) (x : DeviceView) → slice_get b.devices d ≡ Some x → home_of b (node.Device d) ≡ x.bus
bus_at b d x at = ap (λ (o : Option DeviceView). unwrap_or (option_map (λ (y : DeviceView). y.bus) o) 0) at

addr_at : (b : BoardView) (d : ℕ) (x : DeviceView) → slice_get b.devices d ≡ Some x → addr_of b (node.Device d) ≡ Some x.addr
addr_at b d x at = ap (λ (o : Option DeviceView). unwrap_or (option_map (λ (y : DeviceView). Some y.addr) o) None) at

chip_bus : (b : BoardView) (i : ℕ) (m : MuxSpec) → slice_get b.muxes i ≡ Some m → home_of b (node.Chip i) ≡ m.bus
chip_bus b i m at = ap (λ (o : Option MuxSpec). unwrap_or (option_map (λ (y : MuxSpec). y.bus) o) 0) at

chip_addr : (b : BoardView) (i : ℕ) (m : MuxSpec) (a : ℕ) → slice_get b.muxes i ≡ Some m → has_address a m.addr ≡ true
    → addr_of b (node.Chip i) ≡ Some a
chip_addr b i m a at e = ap (λ (o : Option MuxSpec). unwrap_or (option_map (λ (y : MuxSpec). y.addr) o) None) at ∙ address_is a m.addr e

busy_by : (p q y z : Bool) (g : Grant) → p ≡ false → q ≡ false → y ≡ false
    → cond p grant.Busy (cond q grant.Busy (cond y grant.Busy (cond z grant.Busy g))) ≡ cond z grant.Busy g
busy_by false false false z g ep eq ey = refl
busy_by true q y z g ep eq ey = absurd (let f : true ≡ false = ep in cc)
busy_by false true y z g ep eq ey = absurd (let f : true ≡ false = eq in cc)
busy_by false false true z g ep eq ey = absurd (let f : true ≡ false = ey in cc)

-- a device of the board
module _ (b : BoardView) (tree : IsTree b) (planted : IsPlanted (length b.roots) (reverse b.muxes)) (d : ℕ) (x : DeviceView)
    (at : slice_get b.devices d ≡ Some x) where
  -- a target with its address along its bus is the device
  is_own : (n : Node) (u : ℕ) → addr_of b n ≡ Some x.addr → home_of b n ≡ u → IsAlong b u x.bus → n ≡ node.Device d
  is_own n u addr home along =
      tree.addresses n (node.Device d) x.addr addr (addr_at b d x at)
      (subst (λ (i : ℕ). IsAlong b i (home_of b (node.Device d))) (sym home)
      (subst (λ (i : ℕ). IsAlong b u i) (sym (bus_at b d x at)) along))

  -- on such buses no chip has the address, and no device but it
  module _ (on : ℕ → Bool) (along : (u : ℕ) → on u ≡ true → IsAlong b u x.bus) where
    no_chip : some_chip b x.addr on ≡ false
    no_chip =
        any_none (λ (m : MuxSpec). has_address x.addr m.addr && on m.bus) b.muxes
        (λ i m there e. let same : node.Chip i ≡ node.Device d = is_own (node.Chip i) m.bus
        (chip_addr b i m x.addr there (and_first (has_address x.addr m.addr) (on m.bus) e)) (chip_bus b i m there)
        (along m.bus (and_last (has_address x.addr m.addr) (on m.bus) e)) in absurd (cc))

    one_device : (i : ℕ) (y : DeviceView) → slice_get b.devices i ≡ Some y → (eqb y.addr x.addr && on y.bus) ≡ true → i ≡ d
    one_device i y there e =
        let addr : y.addr ≡ x.addr = eqb-true y.addr x.addr (and_first (eqb y.addr x.addr) (on y.bus) e) in
        let same : node.Device i ≡ node.Device d = is_own (node.Device i) y.bus (addr_at b i y there ∙ ap Some addr) (bus_at b i y there)
        (along y.bus (and_last (eqb y.addr x.addr) (on y.bus) e)) in cc

  own_again : (i : ℕ) (y : DeviceView) → slice_get b.devices i ≡ Some y → i ≡ d → y ≡ x
  own_again i y there e =
      let f : Some y ≡ Some x = sym there ∙ ap (λ (k : ℕ). slice_get b.devices k) e ∙ at in cc

  -- above: the path of its bus
  path_along : (u : ℕ) → is_on_path b x.bus u ≡ true → IsAlong b u x.bus
  path_along u e = inl (path_over b x.bus u e)

  -- below: a bus whose path has its bus, but no other
  below_along : (u : ℕ) → is_below b u x.bus ≡ true → IsAlong b u x.bus
  below_along u e = inr (path_over b u x.bus (ap (λ (t : Bool). eqb x.bus u || t) e ∙ or-true (eqb x.bus u)))

  none_below : some_device b x.addr (λ u. is_below b u x.bus) ≡ false
  none_below =
      any_none (λ (y : DeviceView). eqb y.addr x.addr && is_below b y.bus x.bus) b.devices
      (λ i y there e. let same : y ≡ x = own_again i y there (one_device (λ u. is_below b u x.bus) below_along i y there e) in
      false≢true (sym (tree_above b planted x.bus x.bus (omega arith))
      ∙ ap (λ (z : DeviceView). is_below b z.bus x.bus) (sym same) ∙ and_last (eqb y.addr x.addr) (is_below b y.bus x.bus) e))

  own_path : is_on_path b x.bus x.bus ≡ true
  own_path = ap (λ (t : Bool). t || is_below b x.bus x.bus) (eq-eqb x.bus x.bus refl)

  own_fits : (eqb x.addr x.addr && is_on_path b x.bus x.bus) ≡ true
  own_fits = and_from (eqb x.addr x.addr) (is_on_path b x.bus x.bus) (eq-eqb x.addr x.addr refl) own_path

  bound_is : some_bound b x.addr (is_on_path b x.bus) ≡ x.bound
  bound_is =
      any_one (λ (y : DeviceView). y.bound && (eqb y.addr x.addr && is_on_path b x.bus y.bus)) b.devices d x at
      (λ i y there e. own_again i y there (one_device (is_on_path b x.bus) path_along i y there
      (and_last y.bound (eqb y.addr x.addr && is_on_path b x.bus y.bus) e)))
      ∙ ap (λ (t : Bool). x.bound && t) own_fits ∙ and_true x.bound
    where
      and_true : (t : Bool) → (t && true) ≡ t
      and_true true = refl
      and_true false = refl

  named_is : position_from (λ (y : DeviceView). eqb y.addr x.addr && is_on_path b x.bus y.bus) 0 b.devices ≡ Some d
  named_is = by (position_from fits 0 b.devices) refl
    where
      fits : DeviceView → Bool
      fits y = eqb y.addr x.addr && is_on_path b x.bus y.bus

      by : (o : Option ℕ) → position_from (λ (y : DeviceView). eqb y.addr x.addr && is_on_path b x.bus y.bus) 0 b.devices ≡ o
          → position_from (λ (y : DeviceView). eqb y.addr x.addr && is_on_path b x.bus y.bus) 0 b.devices ≡ Some d
      by None e = absurd (position_some (λ (y : DeviceView). eqb y.addr x.addr && is_on_path b x.bus y.bus) 0 b.devices d x at own_fits e)
      by (Some n) e =
          let r = position_at (λ (y : DeviceView). eqb y.addr x.addr && is_on_path b x.bus y.bus) 0 b.devices n e in
          let same : r.0 ≡ d = one_device (is_on_path b x.bus) path_along r.0 r.1 r.3 r.4 in
          e ∙ ap Some (r.2 ∙ zero-add r.0 ∙ same)

  -- its own address on its own bus
  pub own-grant : (force : Bool) → grant_of b x.bus x.addr force ≡ cond (not force && x.bound) grant.Busy (grant.Named d)
  own-grant force =
      busy_by (some_chip b x.addr (is_on_path b x.bus))
      (some_chip b x.addr (λ u. is_below b u x.bus) || some_device b x.addr (λ u. is_below b u x.bus))
      (some_chip b x.addr (is_aside b x.bus) || some_device b x.addr (is_aside b x.bus)) (not force && some_bound b x.addr
      (is_on_path b x.bus))
      (named_by (position_from (λ (y : DeviceView). eqb y.addr x.addr && is_on_path b x.bus y.bus) 0 b.devices))
      (no_chip (is_on_path b x.bus) path_along)
      (ap (λ (t : Bool). t || some_device b x.addr (λ u. is_below b u x.bus)) (no_chip (λ u. is_below b u x.bus) below_along) ∙ none_below)
      (none-aside b tree x.bus d x at own_path)
      ∙ ap (λ (t : Bool). cond (not force && t) grant.Busy
      (named_by (position_from (λ (y : DeviceView). eqb y.addr x.addr && is_on_path b x.bus y.bus) 0 b.devices))) bound_is
      ∙ ap (λ (o : Option ℕ). cond (not force && x.bound) grant.Busy (named_by o)) named_is
