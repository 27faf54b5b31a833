-- What the transfers of a script may be, by its text: one lemma for each form of a command. The inductions go over lines, handles and
-- devices.
use Rattle.reg_cache.proofs.Cited.{◌≡◌, ◌⊎◌, ℕ, zero, suc, Bool, true, false, cond, ◌&&◌, inl, inr, List, [], ◌∷◌, ◌++◌, map, Option, Some}
use Rattle.reg_cache.proofs.Cited.{None, eqb, refl, sym, ◌∙◌, ap, subst, eqb-true, slice_get, is_some, filter_map, AllByRecursion}
use Rattle.reg_cache.proofs.Cited.{cons_option, option_and_then, DeviceKind, Size, Msg, BoardView, DeviceView, TransferView}
use Rattle.reg_cache.proofs.Cited.{messages_of_call, Desc, DescOp, eeprom_at, is_sensor, sensor_at, read_call, RegName, Temp, is_forced_in}
use Rattle.reg_cache.proofs.Cited.{addrs_of, Touches, Unforced, Forced, SensorRead, OtherDriver, and_first, and_last}
use Rattle.std.specs.Prelude.{find}
use Rattle.i2c_base.specs.declared.board.DeviceKind.TheVariants as kind
use Rattle.i2c_spec.specs.declared.smbus_row.ReadShape.{ReadShape}
use Rattle.i2c_spec.specs.declared.smbus_row.ReadShape.TheVariants as read
use Rattle.smb_emul.specs.Calls.{call_row, is_coded, write_messages, read_messages}
use Rattle.smb_emul.specs.declared.call.SmbCall.{SmbCall}
use Rattle.tools.specs.declared.lists.DescOp.TheVariants as op
use Rattle.tools.specs.declared.command.transfer.Combined.{Combined}
use Rattle.tools.specs.Transfers.{message_to, desc_message, transfer_of}
use Rattle.i2c_drivers.specs.Bound.{is_bound_at, bound_at, is_eeprom, size_of_device, sensor_in, sensors_of}
use Rattle.i2c_drivers.specs.Sensors.{sensor_transfer}
use Rattle.i2c_drivers.specs.declared.bound.Sensor.{Sensor}
use Rattle.reg_cache.proofs.DriverLemmas.{register_named, reads-are}

-- ---- SMBus calls: all messages go to the address of the call
read_all : (addr : ℕ) (coded : Bool) (r : ReadShape) → AllByRecursion (λ (m : Msg). m.addr ≡ addr) (read_messages addr coded r)
read_all addr coded read.Nothing = tt
read_all addr coded (read.Plain n) = (refl, tt)
read_all addr coded read.Counted = (refl, tt)

call_all : (addr : ℕ) (coded : Bool) (r : ReadShape) (w : Option (List ℕ))
    → AllByRecursion (λ (m : Msg). m.addr ≡ addr) (write_messages addr coded r w ++ read_messages addr coded r)
call_all addr coded r None = read_all addr coded r
call_all addr coded r (Some bytes) = (refl, read_all addr coded r)

-- the force of a line is off, or its address stands in it
abbrev pub MayForce : (b : BoardView) (text : List ℕ) → Bool → ℕ → Type 0
MayForce b text force addr = (force ≡ false) ⊎ (is_forced_in b addr text ≡ true)

module _ (b : BoardView) (text : List ℕ) where
  all_to : (addr : ℕ) → is_forced_in b addr text ≡ true → (ms : List Msg) → AllByRecursion (λ (m : Msg). m.addr ≡ addr) ms
      → AllByRecursion (λ (m : Msg). is_forced_in b m.addr text ≡ true) ms
  all_to addr is [] all = tt
  all_to addr is (m ∷ ms) all = (ap (λ (a : ℕ). is_forced_in b a text) all.0 ∙ is, all_to addr is ms all.1)

  pub touch-call : (call : SmbCall) → MayForce b text call.force call.addr → Touches b text (messages_of_call call)
  touch-call call (inl plain) = Unforced plain
  touch-call call (inr is) =
      Forced (all_to call.addr is (messages_of_call call).msgs
      (call_all call.addr (is_coded call) (call_row call.op).read (call_row call.op).write))

  -- ---- messages
  desc_addr : (addr : ℕ) (o : DescOp) → (message_to addr o).addr ≡ addr
  desc_addr addr (op.Read n) = refl
  desc_addr addr (op.Write bytes) = refl

  all_descs : (ds : List Desc) → AllByRecursion (λ (a : ℕ). is_forced_in b a text ≡ true) (addrs_of ds)
      → AllByRecursion (λ (m : Msg). is_forced_in b m.addr text ≡ true) (map desc_message ds)
  all_descs [] all = tt
  all_descs (d ∷ ds) all = (ap (λ (a : ℕ). is_forced_in b a text) (desc_addr d.addr d.op) ∙ all.0, all_descs ds all.1)

  pub touch-transfer : (c : Combined) → (c.force ≡ false) ⊎ AllByRecursion (λ (a : ℕ). is_forced_in b a text ≡ true) (addrs_of c.messages)
      → Touches b text (transfer_of c)
  touch-transfer c (inl plain) = Unforced plain
  touch-transfer c (inr all) = Forced (all_descs c.messages all)

  -- ---- devices that a driver is bound to
  find_there : (test : DeviceView → Bool) (ds : List DeviceView) (v : DeviceView) → find test ds ≡ Some v
      → (i : ℕ) × (slice_get ds i ≡ Some v) × (test v ≡ true)
  find_there test [] v e = absurd (let f : None ≡ Some v = e in cc)
  find_there test (d ∷ ds) v e = by (test d) refl (find_there test ds v)
    where
      by : (z : Bool) → test d ≡ z → (find test ds ≡ Some v → (i : ℕ) × (slice_get ds i ≡ Some v) × (test v ≡ true))
          → (i : ℕ) × (slice_get (d ∷ ds) i ≡ Some v) × (test v ≡ true)
      by true f more =
          let same : Some d ≡ Some v = sym (ap (λ (z : Bool). cond z (Some d) (find test ds)) f) ∙ e in
          let is : d ≡ v = cc in
          (0, same, ap test (sym is) ∙ f)
      by false f more =
          let r = more (sym (ap (λ (z : Bool). cond z (Some d) (find test ds)) f) ∙ e) in
          (suc r.0, r.1, r.2)

  pub record IsBound (kinds : DeviceKind → Bool) (bus addr : ℕ) : Type 0 where
    pub e : ℕ
    pub v : DeviceView
    pub at : slice_get b.devices e ≡ Some v
    pub bus_is : v.bus ≡ bus
    pub addr_is : v.addr ≡ addr
    pub kind_is : kinds v.kind ≡ true

  bound_there : (kinds : DeviceKind → Bool) (bus addr : ℕ) (v : DeviceView) → bound_at b kinds bus addr ≡ Some v
      → (i : IsBound kinds bus addr) × (i.v ≡ v)
  bound_there kinds bus addr v e =
      let r = find_there (λ (d : DeviceView). is_bound_at bus addr d && kinds d.kind) b.devices v e in
      let place = and_last v.bound (eqb v.bus bus && eqb v.addr addr) (and_first (is_bound_at bus addr v) (kinds v.kind) r.2) in (
        record {
          e = r.0;
          v = v;
          at = r.1;
          bus_is = eqb-true v.bus bus (and_first (eqb v.bus bus) (eqb v.addr addr) place);
          addr_is = eqb-true v.addr addr (and_last (eqb v.bus bus) (eqb v.addr addr) place);
          kind_is = and_last (is_bound_at bus addr v) (kinds v.kind) r.2;
        },
        refl,
      )

  pub sensor_there : (bus addr : ℕ) → sensor_at b bus addr ≡ true → IsBound is_sensor bus addr
  sensor_there bus addr e = by (bound_at b is_sensor bus addr) refl e
    where
      by : (o : Option DeviceView) → bound_at b is_sensor bus addr ≡ o → is_some o ≡ true → IsBound is_sensor bus addr
      by None f g = absurd (let h : false ≡ true = g in cc)
      by (Some v) f g = (bound_there is_sensor bus addr v f).0

  eeprom_there : (bus addr : ℕ) (size : Size) → eeprom_at b bus addr ≡ Some size → IsBound is_eeprom bus addr
  eeprom_there bus addr size e = by (bound_at b is_eeprom bus addr) refl e
    where
      by : (o : Option DeviceView) → bound_at b is_eeprom bus addr ≡ o → option_and_then size_of_device o ≡ Some size
          → IsBound is_eeprom bus addr
      by None f g = absurd (let h : None ≡ Some size = g in cc)
      by (Some v) f g = (bound_there is_eeprom bus addr v f).0

  not_sensor : (k : DeviceKind) → is_eeprom k ≡ true → is_sensor k ≡ false
  not_sensor (kind.Eeprom size fill busy wp) e = refl
  not_sensor _ e = absurd (let f : false ≡ true = e in cc)

  -- at24: forced messages to an EEPROM
  pub touch-eeprom : (bus addr : ℕ) (size : Size) → eeprom_at b bus addr ≡ Some size → (t : TransferView) → t.force ≡ true → t.bus ≡ bus
      → AllByRecursion (λ (m : Msg). m.addr ≡ addr) t.msgs → Touches b text t
  touch-eeprom bus addr size e t forced on addrs =
      let d = eeprom_there bus addr size e in
      OtherDriver d.e d.v d.at (not_sensor d.v.kind d.kind_is) forced (on ∙ sym d.bus_is)
      (subst (λ (a : ℕ). AllByRecursion (λ (m : Msg). m.addr ≡ a) t.msgs) (sym d.addr_is) addrs)

  -- lm75 read
  pub touch-sensor-read : (bus addr : ℕ) (which : RegName) → sensor_at b bus addr ≡ true
      → Touches b text (messages_of_call (read_call (record { bus = bus; addr = addr }) which))
  touch-sensor-read bus addr which e =
      let d = sensor_there bus addr e in
      SensorRead d.e d.v (register_named which) d.at
      (ap (λ (i : ℕ). messages_of_call (read_call (record { bus = i; addr = addr }) which)) (sym d.bus_is)
      ∙ ap (λ (a : ℕ). messages_of_call (read_call (record { bus = d.v.bus; addr = a }) which)) (sym d.addr_is) ∙ reads-are d.v which)

  -- sensors
  abbrev SensorFrom : List DeviceView → Sensor → Type 0
  SensorFrom ds s = (i : ℕ) × (v : DeviceView) × (slice_get ds i ≡ Some v) × (s ≡ record { bus = v.bus; addr = v.addr })

  later : (d : DeviceView) (ds : List DeviceView) (s : Sensor) → SensorFrom ds s → SensorFrom (d ∷ ds) s
  later d ds s r = (suc r.0, r.1, r.2, r.3)

  listed_there : (ds : List DeviceView) (k : ℕ) (s : Sensor) → slice_get (filter_map sensor_in ds) k ≡ Some s → SensorFrom ds s
  listed_there [] k s e = absurd (let f : None ≡ Some s = e in cc)
  listed_there (d ∷ ds) k s e = by (d.bound && is_sensor d.kind) k e (λ j g. later d ds s (listed_there ds j s g))
    where
      by : (z : Bool) (j : ℕ)
          → slice_get (cons_option (cond z (Some (record { bus = d.bus; addr = d.addr })) None) (filter_map sensor_in ds)) j ≡ Some s
          → ((n : ℕ) → slice_get (filter_map sensor_in ds) n ≡ Some s → SensorFrom (d ∷ ds) s) → SensorFrom (d ∷ ds) s
      by true zero g more = (
        0,
        d,
        refl,
        (let f : Some (record { bus = d.bus; addr = d.addr }) ≡ Some s = g in
            let h : record { bus = d.bus; addr = d.addr } ≡ s = cc in sym h),
      )
      by true (suc j) g more = more j g
      by false j g more = more j g

  pub touch-sensors : (k : ℕ) → Touches b text (sensor_transfer (slice_get (sensors_of b) k))
  touch-sensors k = by (slice_get (sensors_of b) k) refl
    where
      by : (o : Option Sensor) → slice_get (sensors_of b) k ≡ o → Touches b text (sensor_transfer o)
      by None e = Unforced refl
      by (Some s) e =
          let r = listed_there b.devices k s e in
          SensorRead r.0 r.1 (register_named Temp) r.2 (ap (λ (z : Sensor). messages_of_call (read_call z Temp)) r.3 ∙ reads-are r.1 Temp)
