-- Which transfers leave a bound sensor alone: those that aren't forced, those that don't name its address, and those of the driver of
-- another device. The inductions go over the devices, and over the messages.
use Rattle.std.proofs.Common.{◌≡◌, ℕ, Bool, true, false, cond, not, ◌&&◌, ◌||◌, List, [], ◌∷◌, Option, Some, None, eqb, refl, sym, ◌∙◌, ap}
use Rattle.std.proofs.Common.{zero-add}
use Rattle.std.proofs.lemmas.Bool.{eqb-true}
use Rattle.std.specs.Prelude.{slice_get}
use Rattle.std.specs.List.{position_from, list_any, AllByRecursion}
use Rattle.i2c_base.specs.declared.tree.Grant.{Grant}
use Rattle.i2c_base.specs.declared.tree.Grant.TheVariants as grant
use Rattle.i2c_base.specs.declared.transfer.Msg.{Msg}
use Rattle.i2c_base.specs.Board.{BoardView, DeviceView}
use Rattle.i2c_base.specs.Transfer.{TransferView}
use Rattle.i2c_spec.specs.Tree.{is_below, is_on_path, is_aside}
use Rattle.i2c_spec.specs.TreeFacts.{IsTree}
use Rattle.i2c_spec.specs.Grant.{grant_of, is_busy, named_of, named_by, some_chip, some_device, some_bound}
use Rattle.i2c_spec.specs.Flat.{granted_on}
use Rattle.i2c_spec.specs.Conversation.{is_it}
use Rattle.i2c_spec.proofs.MessageLemmas.{is_it-some}
use Rattle.bus_laws.proofs.device.Grant.{position_at}
use Rattle.cache_laws.specs.Order.{is_granted}
use Rattle.cache_laws.proofs.Gate.{granted-here}
use Rattle.i2c_base.proofs.Booleans.{and_first}
use Rattle.std.proofs.lemmas.Map.Keys.{any_passes_from_place}

names_passed : (p q y z : Bool) (o : Option ℕ) (d : ℕ)
    → named_of (cond p grant.Busy (cond q grant.Busy (cond y grant.Busy (cond z grant.Busy (named_by o))))) ≡ Some d
    → (z ≡ false) × (o ≡ Some d)
names_passed true q y z o d e = absurd (let f : None ≡ Some d = e in cc)
names_passed false true y z o d e = absurd (let f : None ≡ Some d = e in cc)
names_passed false false true z o d e = absurd (let f : None ≡ Some d = e in cc)
names_passed false false false true o d e = absurd (let f : None ≡ Some d = e in cc)
names_passed false false false false None d e = absurd (let f : None ≡ Some d = e in cc)
names_passed false false false false (Some k) d e = (refl, e)

-- a device that is granted has the address, and no driver unless the transfer is forced
granted_there : (b : BoardView) (s a : ℕ) (force : Bool) (d : ℕ) (v : DeviceView) → slice_get b.devices d ≡ Some v
    → granted_on b s force a ≡ Some d → (v.addr ≡ a) × ((not force && v.bound) ≡ false)
granted_there b s a force d v at e = (eqb-true v.addr a addr, by force v.bound refl refl)
  where
    parts : ((not force && some_bound b a (is_on_path b s)) ≡ false)
        × (position_from (λ (x : DeviceView). eqb x.addr a && is_on_path b s x.bus) 0 b.devices ≡ Some d)
    parts =
        names_passed (some_chip b a (is_on_path b s)) (some_chip b a (λ u. is_below b u s) || some_device b a (λ u. is_below b u s))
        (some_chip b a (is_aside b s) || some_device b a (is_aside b s)) (not force && some_bound b a (is_on_path b s))
        (position_from (λ (x : DeviceView). eqb x.addr a && is_on_path b s x.bus) 0 b.devices) d e

    fits : (eqb v.addr a && is_on_path b s v.bus) ≡ true
    fits =
        let r = position_at (λ (x : DeviceView). eqb x.addr a && is_on_path b s x.bus) 0 b.devices d parts.1 in
        let there : Some r.1 ≡ Some v = sym (ap (λ (i : ℕ). slice_get b.devices i) (r.2 ∙ zero-add r.0) ∙ r.3) ∙ at in
        let same : r.1 ≡ v = cc in
        ap (λ (x : DeviceView). eqb x.addr a && is_on_path b s x.bus) (sym same) ∙ r.4

    addr : eqb v.addr a ≡ true
    addr = and_first (eqb v.addr a) (is_on_path b s v.bus) fits

    by : (f y : Bool) → force ≡ f → v.bound ≡ y → (not force && v.bound) ≡ false
    by true y ef ey = ap (λ (z : Bool). not z && v.bound) ef
    by false false ef ey = ap (λ (z : Bool). not z && v.bound) ef ∙ ey
    by false true ef ey =
        absurd (let some : some_bound b a (is_on_path b s) ≡ true =
        any_passes_from_place (λ (x : DeviceView). x.bound && (eqb x.addr a && is_on_path b s x.bus)) b.devices d v at
        (ap (λ (z : Bool). z && (eqb v.addr a && is_on_path b s v.bus)) ey ∙ fits) in
        let f : true ≡ false =
        sym (ap (λ (z : Bool). not z && some_bound b a (is_on_path b s)) ef ∙ some) ∙ parts.0 in cc)

-- what no message names isn't granted
none_granted : (granted : ℕ → Option ℕ) (d : ℕ) (ms : List Msg) → AllByRecursion (λ (m : Msg). granted m.addr ≡ Some d → ⊥) ms
    → list_any (λ (m : Msg). is_it (granted m.addr) d) ms ≡ false
none_granted granted d [] all = refl
none_granted granted d (m ∷ ms) all = ap (λ (z : Bool). z || list_any (λ (n : Msg). is_it (granted n.addr) d) ms)
    (by (is_it (granted m.addr) d) refl)
    ∙ none_granted granted d ms all.1
  where
    by : (z : Bool) → is_it (granted m.addr) d ≡ z → z ≡ false
    by true e = absurd (all.0 (is_it-some (granted m.addr) d e))
    by false e = refl

all_msgs : (Q : Msg → Type 0) → ((m : Msg) → Q m) → (ms : List Msg) → AllByRecursion Q ms
all_msgs Q each [] = tt
all_msgs Q each (m ∷ ms) = (each m, all_msgs Q each ms)

-- A TRANSFER THAT ISN'T FORCED
pub leaves-unforced : (b : BoardView) (t : TransferView) (d : ℕ) (v : DeviceView) → t.force ≡ false → slice_get b.devices d ≡ Some v
    → v.bound ≡ true → is_granted b t d ≡ false
leaves-unforced b t d v plain at bound =
    none_granted (granted_on b t.bus t.force) d t.msgs
    (all_msgs (λ (m : Msg). granted_on b t.bus t.force m.addr ≡ Some d → ⊥)
    (λ m e. (let r = granted_there b t.bus m.addr t.force d v at e in
    let f : true ≡ false = sym (ap (λ (z : Bool). not z && v.bound) plain ∙ bound) ∙ r.1 in absurd cc)) t.msgs)

-- ONE THAT DOESN'T NAME ITS ADDRESS
pub leaves-apart : (b : BoardView) (t : TransferView) (d : ℕ) (v : DeviceView) → slice_get b.devices d ≡ Some v
    → AllByRecursion (λ (m : Msg). v.addr ≡ m.addr → ⊥) t.msgs → is_granted b t d ≡ false
leaves-apart b t d v at apart = none_granted (granted_on b t.bus t.force) d t.msgs (each t.msgs apart)
  where
    each : (ms : List Msg) → AllByRecursion (λ (m : Msg). v.addr ≡ m.addr → ⊥) ms
        → AllByRecursion (λ (m : Msg). granted_on b t.bus t.force m.addr ≡ Some d → ⊥) ms
    each [] all = tt
    each (m ∷ ms) all = ((λ e. all.0 (granted_there b t.bus m.addr t.force d v at e).0), each ms all.1)

-- ONE OF ANOTHER DEVICE'S DRIVER
pub leaves-other : (b : BoardView) → IsTree b → (t : TransferView) (d e : ℕ) (w : DeviceView) → slice_get b.devices e ≡ Some w
    → (e ≡ d → ⊥) → t.force ≡ true → t.bus ≡ w.bus → AllByRecursion (λ (m : Msg). m.addr ≡ w.addr) t.msgs → is_granted b t d ≡ false
leaves-other b tree t d e w at ne forced bus addrs = none_granted (granted_on b t.bus t.force) d t.msgs (each t.msgs addrs)
  where
    here : granted_on b w.bus true w.addr ≡ Some d → ⊥
    here is = by (is_busy (grant_of b w.bus w.addr true)) refl
      where
        by : (z : Bool) → is_busy (grant_of b w.bus w.addr true) ≡ z → ⊥
        by false free = ne (let f : Some e ≡ Some d = sym (granted-here b tree e w at free) ∙ is in cc)
        by true busy = busy_names (grant_of b w.bus w.addr true) busy is
          where
            busy_names : (h : Grant) → is_busy h ≡ true → named_of h ≡ Some d → ⊥
            busy_names grant.Busy k f = absurd (let u : None ≡ Some d = f in cc)
            busy_names grant.Nobody k f = absurd (let u : None ≡ Some d = f in cc)
            busy_names (grant.Named n) k f = absurd (let u : false ≡ true = k in cc)

    each : (ms : List Msg) → AllByRecursion (λ (m : Msg). m.addr ≡ w.addr) ms
        → AllByRecursion (λ (m : Msg). granted_on b t.bus t.force m.addr ≡ Some d → ⊥) ms
    each [] all = tt
    each (m ∷ ms) all = (
      (λ is. here (ap (λ (i : ℕ). granted_on b i true w.addr) (sym bus) ∙ ap (λ (z : Bool). granted_on b t.bus z w.addr) (sym forced)
          ∙ ap (λ (i : ℕ). granted_on b t.bus t.force i) (sym all.0) ∙ is)),
      each ms all.1,
    )
