-- Where nothing is wrong with a table, the value at each key of its rules is as listed, or missing.
use Rattle.i2c_boardtext.proofs.Cited.{◌≡◌, ℕ, Bool, true, false, ◌&&◌, List, [], ◌∷◌, ◌++◌, Option, Some, None, refl, ap, subst, and_parts}
use Rattle.i2c_boardtext.proofs.Cited.{list_all, unwrap_or, codes, Members, get_member, KeyRule, is_there, is_fit, are_listed}
use Rattle.i2c_boardtext.proofs.Cited.{fits_if_there}
use Rattle.std.proofs.Common.{zero, suc, not, if◌then◌else◌}
use Rattle.std.specs.Prelude.{slice_get}
use Rattle.i2c_boardtext.specs.Devices.{device_row, memory_of}
use Rattle.i2c_boardtext.specs.Keys.{bus_rule, every_device, set_rule, set_rules, chip_mux, arbitrator_mux, gpio_mux_keys, mux_rules}
use Rattle.i2c_boardtext.specs.Keys.{device_rules}
use Rattle.i2c_boardtext.specs.Rules.{table_fault}
use Rattle.i2c_boardtext.specs.declared.fault.TableFault.TheVariants as fault
use Rattle.i2c_base.specs.declared.board.MuxKind.{MuxKind}
use Rattle.i2c_base.specs.Muxes.{facts_of}
use Rattle.i2c_boardtext.specs.declared.devices.DeviceName.{DeviceName}

-- by the rules, from the first on
fit_at : (rules : List KeyRule) (ms : Members) (i : ℕ) (r : KeyRule) → list_all (is_fit ms) rules ≡ true → slice_get rules i ≡ Some r
    → is_fit ms r ≡ true
fit_at [] ms i r all at = absurd (cc at)
fit_at (x ∷ rules) ms zero r all at =
    let (here, more) = and_parts (is_fit ms x) (list_all (is_fit ms) rules) all in
    let same : x ≡ r = ap (λ o. unwrap_or o x) at in
    rw (← same) here
fit_at (x ∷ rules) ms (suc i) r all at =
    let (here, more) = and_parts (is_fit ms x) (list_all (is_fit ms) rules) all in
    fit_at rules ms i r more at

fits_all : (keys fitting : Bool) → (if not keys then Some fault.Key else if not fitting then Some fault.Value else None) ≡ None
    → fitting ≡ true
fits_all false fitting h = absurd (cc h)
fits_all true false h = absurd (cc h)
fits_all true true h = refl

kept : (rules : List KeyRule) (ms : Members) (i : ℕ) (r : KeyRule) → table_fault rules ms ≡ None → slice_get rules i ≡ Some r
    → fits_if_there r.test (get_member r.name ms) ≡ true
kept rules ms i r none at =
    fit_at rules ms i r (fits_all (are_listed rules ms && list_all (is_there ms) rules) (list_all (is_fit ms) rules) none) at

-- the bus of each mux
each_bus : (buses : ℕ) (by_line asks : Bool) (ms : Members)
    → table_fault (if by_line then gpio_mux_keys buses else if asks then arbitrator_mux buses else chip_mux buses) ms ≡ None
    → fits_if_there (bus_rule buses).test (get_member (codes "bus") ms) ≡ true
each_bus buses true asks ms none = kept (gpio_mux_keys buses) ms 0 (bus_rule buses) none refl
each_bus buses false true ms none = kept (arbitrator_mux buses) ms 0 (bus_rule buses) none refl
each_bus buses false false ms none = kept (chip_mux buses) ms 0 (bus_rule buses) none refl

pub mux_bus : (buses : ℕ) (k : MuxKind) (ms : Members) → table_fault (mux_rules buses k) ms ≡ None
    → fits_if_there (bus_rule buses).test (get_member (codes "bus") ms) ≡ true
mux_bus buses k ms none = each_bus buses (facts_of k).by_line (facts_of k).asks ms none

-- the bus of each device, and its memory's runs where it has one
pub device_bus : (buses : ℕ) (name : DeviceName) (ms : Members) → table_fault (device_rules buses name) ms ≡ None
    → fits_if_there (bus_rule buses).test (get_member (codes "bus") ms) ≡ true
device_bus buses name ms none = kept (device_rules buses name) ms 0 (bus_rule buses) none refl

pub device_set : (buses : ℕ) (name : DeviceName) (size : ℕ) (ms : Members) → memory_of name ≡ Some size
    → table_fault (device_rules buses name) ms ≡ None
    → fits_if_there (set_rule size).test (get_member (codes "set") ms) ≡ true
device_set buses name size ms e none =
    let rules : device_rules buses name ≡ every_device buses ++ set_rule size ∷ (device_row name).keys =
    ap (λ (m : Option ℕ). every_device buses ++ set_rules m ++ (device_row name).keys) e in
    kept (every_device buses ++ set_rule size ∷ (device_row name).keys) ms 4 (set_rule size)
    (subst (λ (rs : List KeyRule). table_fault rs ms ≡ None) rules none) refl
