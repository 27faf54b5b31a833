-- Whether a driver's transfer reaches its sensor: where it isn't barred the sensor is granted, since no address stands twice along a
-- path; and what bars it is the same for each access of the sensor.
use Rattle.std.proofs.Common.{◌≡◌, ℕ, Bool, true, false, cond, not, ◌&&◌, ◌||◌, Option, Some, None, eqb, ltb, refl, sym, ◌∙◌, ap, subst}
use Rattle.std.proofs.Common.{inl, zero-add}
use Rattle.std.proofs.lemmas.Bool.{eq-eqb}
use Rattle.std.specs.Prelude.{slice_get}
use Rattle.std.specs.List.{position_from}
use Rattle.i2c_base.specs.declared.ids.Node.TheVariants as node
use Rattle.i2c_base.specs.declared.errno.Errno.{Errno}
use Rattle.i2c_base.specs.declared.errno.Errno.TheVariants as errno
use Rattle.i2c_base.specs.declared.reply.Cut.{Cut}
use Rattle.i2c_base.specs.declared.reply.Cut.TheVariants as cut_at
use Rattle.i2c_base.specs.declared.tree.Grant.TheVariants as grant
use Rattle.i2c_base.specs.Board.{BoardView, DeviceView}
use Rattle.i2c_spec.specs.Tree.{buses, is_below, is_on_path, is_aside, IsOver, IsAlong}
use Rattle.i2c_spec.specs.TreeFacts.{IsTree, home_of}
use Rattle.i2c_spec.specs.Grant.{grant_of, is_busy, named_of, named_by, some_chip, some_device, way_of}
use Rattle.i2c_spec.specs.Flat.{granted_on, barred, first_of, is_way_cut, way_errno}
use Rattle.bus_laws.proofs.device.Grant.{path_over, position_at, position_some, addr_at, bus_at}
use Rattle.cache_laws.specs.Order.{SensorRegister, Hysteresis, register_read, register_write}
use Rattle.i2c_base.proofs.Booleans.{and_first, and_last}

free_names : (p q y : Bool) (o : Option ℕ) → is_busy (cond p grant.Busy (cond q grant.Busy (cond y grant.Busy (named_by o)))) ≡ false
    → named_of (cond p grant.Busy (cond q grant.Busy (cond y grant.Busy (named_by o)))) ≡ o
free_names true q y o e = absurd (let f : true ≡ false = e in cc)
free_names false true y o e = absurd (let f : true ≡ false = e in cc)
free_names false false true o e = absurd (let f : true ≡ false = e in cc)
free_names false false false None e = refl
free_names false false false (Some d) e = refl

-- the device of a place is granted there by force, unless the address is busy
pub granted-here : (b : BoardView) → IsTree b → (d : ℕ) (v : DeviceView) → slice_get b.devices d ≡ Some v
    → is_busy (grant_of b v.bus v.addr true) ≡ false → granted_on b v.bus true v.addr ≡ Some d
granted-here b tree d v at free =
    free_names (some_chip b v.addr (is_on_path b v.bus))
    (some_chip b v.addr (λ u. is_below b u v.bus) || some_device b v.addr (λ u. is_below b u v.bus))
    (some_chip b v.addr (is_aside b v.bus) || some_device b v.addr (is_aside b v.bus))
    (position_from fits 0 b.devices) free
    ∙ by (position_from fits 0 b.devices) refl
  where
    fits : DeviceView → Bool
    fits x = eqb x.addr v.addr && is_on_path b v.bus x.bus

    by : (o : Option ℕ) → position_from (λ (x : DeviceView). eqb x.addr v.addr && is_on_path b v.bus x.bus) 0 b.devices ≡ o → o ≡ Some d
    by None e =
        absurd (position_some (λ (x : DeviceView). eqb x.addr v.addr && is_on_path b v.bus x.bus) 0 b.devices d v at
        (ap (λ (t : Bool). t && (eqb v.bus v.bus || is_below b v.bus v.bus)) (eq-eqb v.addr v.addr refl)
        ∙ ap (λ (t : Bool). t || is_below b v.bus v.bus) (eq-eqb v.bus v.bus refl)) e)
    by (Some n) e =
        let r = position_at (λ (x : DeviceView). eqb x.addr v.addr && is_on_path b v.bus x.bus) 0 b.devices n e in
        let there : slice_get b.devices n ≡ Some r.1 = ap (λ (i : ℕ). slice_get b.devices i) (r.2 ∙ zero-add r.0) ∙ r.3 in
        let over : IsOver b r.1.bus v.bus = path_over b v.bus r.1.bus (and_last (eqb r.1.addr v.addr) (is_on_path b v.bus r.1.bus) r.4) in
        let homes : IsAlong b (home_of b (node.Device n)) (home_of b (node.Device d)) =
        subst (λ (i : ℕ). IsAlong b i (home_of b (node.Device d))) (sym (bus_at b n r.1 there))
        (subst (λ (i : ℕ). IsAlong b r.1.bus i) (sym (bus_at b d v at)) (inl over)) in
        let same : node.Device n ≡ node.Device d =
        tree.addresses (node.Device n) (node.Device d) v.addr
        (addr_at b v.addr n r.1 there (and_first (eqb r.1.addr v.addr) (is_on_path b v.bus r.1.bus) r.4))
        (addr_at b v.addr d v at (eq-eqb v.addr v.addr refl)) homes in
        (let f : n ≡ d = cc in ap Some f)

-- what bars a read and a write of a sensor
abbrev gate : (within busy : Bool) → Option Errno → Option Errno → Option Errno
gate within busy way second =
    first_of (cond (not within) (Some errno.Enodev) (cond busy (Some errno.Ebusy) None)) (first_of way second)

read_gate : (n p : Bool) (way second : Option Errno) → gate n (p || (p || false)) way second ≡ None
    → (p ≡ false) × (gate n (p || (p || false)) None second ≡ None)
read_gate false p way second e = absurd (let f : Some errno.Enodev ≡ None = e in cc)
read_gate true true way second e = absurd (let f : Some errno.Ebusy ≡ None = e in cc)
read_gate true false None second e = (refl, e)
read_gate true false (Some x) second e = absurd (let f : Some x ≡ None = e in cc)

write_gate : (n p : Bool) (way second : Option Errno) → gate n (p || false) way second ≡ None
    → (p ≡ false) × (gate n (p || (p || false)) None second ≡ None)
write_gate false p way second e = absurd (let f : Some errno.Enodev ≡ None = e in cc)
write_gate true true way second e = absurd (let f : Some errno.Ebusy ≡ None = e in cc)
write_gate true false None second e = (refl, e)
write_gate true false (Some x) second e = absurd (let f : Some x ≡ None = e in cc)

-- a sensor whose reads aren't barred
abbrev pub IsOpen : BoardView → DeviceView → Type 0
IsOpen b v = barred b (register_read v Hysteresis) cut_at.No ≡ None

-- a transfer of its driver that isn't barred is granted the sensor, and shows that reads aren't barred
pub record GoesThrough (b : BoardView) (d : ℕ) (v : DeviceView) : Type 0 where
  pub granted : granted_on b v.bus true v.addr ≡ Some d
  pub open_is : IsOpen b v

pub read-goes : (b : BoardView) → IsTree b → (d : ℕ) (v : DeviceView) (r : SensorRegister) (cut : Cut) → slice_get b.devices d ≡ Some v
    → barred b (register_read v r) cut ≡ None → GoesThrough b d v
read-goes b tree d v r cut at none =
    let g = read_gate (ltb v.bus (buses b)) (is_busy (grant_of b v.bus v.addr true)) (cond (is_way_cut cut) (Some errno.Eremoteio) None)
    (way_errno (way_of b v.bus)) none in
    record { granted = granted-here b tree d v at g.0; open_is = g.1 }

pub write-goes : (b : BoardView) → IsTree b → (d : ℕ) (v : DeviceView) (r : SensorRegister) (high low : ℕ) (cut : Cut)
    → slice_get b.devices d ≡ Some v
    → barred b (register_write v r high low) cut ≡ None → GoesThrough b d v
write-goes b tree d v r high low cut at none =
    let g = write_gate (ltb v.bus (buses b)) (is_busy (grant_of b v.bus v.addr true)) (cond (is_way_cut cut) (Some errno.Eremoteio) None)
    (way_errno (way_of b v.bus)) none in
    record { granted = granted-here b tree d v at g.0; open_is = g.1 }

-- two devices of one place are one
pub same-place : (b : BoardView) → IsTree b → (d e : ℕ) (v w : DeviceView) → slice_get b.devices d ≡ Some v → slice_get b.devices e ≡ Some w
    → v.bus ≡ w.bus → v.addr ≡ w.addr → d ≡ e
same-place b tree d e v w at there bus addr =
    let homes : IsAlong b (home_of b (node.Device d)) (home_of b (node.Device e)) =
    subst (λ (i : ℕ). IsAlong b i (home_of b (node.Device e))) (sym (bus_at b d v at))
    (subst (λ (i : ℕ). IsAlong b v.bus i) (sym (bus_at b e w there)) (inl (inl bus))) in
    let same : node.Device d ≡ node.Device e =
    tree.addresses (node.Device d) (node.Device e) w.addr (addr_at b w.addr d v at (eq-eqb v.addr w.addr addr))
    (addr_at b w.addr e w there (eq-eqb w.addr w.addr refl)) homes in
    cc
