-- Who may touch: where each transfer is one that a text may ask for, all are harmless for what the rule lets callers keep. The
-- inductions go over the texts and the devices.
use Rattle.reg_cache.proofs.Cited.{◌≡◌, ℕ, zero, suc, ◌+◌, ◌<◌, Bool, true, false, cond, not, ◌&&◌, ◌||◌, List, [], ◌∷◌, length, map}
use Rattle.reg_cache.proofs.Cited.{Option, Some, None, eqb, refl, sym, ◌∙◌, ap, subst, arith, eqb-true, or-true, slice_get-get_or}
use Rattle.reg_cache.proofs.Cited.{slice_get, list_any, filter, range_with_len, AllByRecursion, DeviceKind, Reply, Msg, BoardView}
use Rattle.reg_cache.proofs.Cited.{DeviceView, TransferView, is_sensor, script_on, Kept, unknown, cached_on, is_forced_in, writes_in}
use Rattle.reg_cache.proofs.Cited.{Touches, Unforced, Forced, SensorRead, SensorWrite, OtherDriver, AsksTouch, another_writes, is_cacheable}
use Rattle.reg_cache.proofs.Cited.{and_first, and_last}
use Rattle.std.proofs.Common.{zero-add}
use Rattle.std.proofs.lemmas.Bool.{not-true}
use Rattle.std.proofs.lemmas.List.FromFn.{length-range_with_len, get_or-range_with_len}
use Rattle.std.proofs.lemmas.Option.{slice_get_within}
use Rattle.std.specs.Option.{option_map_or}
use Rattle.i2c_base.specs.declared.board.DeviceKind.TheVariants as kind
use Rattle.i2c_spec.specs.TreeFacts.{IsTree}
use Rattle.cache_laws.specs.Order.{is_kept_by, IsHarmless, Leaves, Reads, Writes, MayBeCached}
use Rattle.cache_laws.proofs.Touch.{leaves-unforced, leaves-apart, leaves-other}
use Rattle.reg_cache.specs.Cacheable.{is_cacheable_device, cacheable_devices, cached_texts, is_kept_by_some}
use Rattle.std.proofs.lemmas.Map.Keys.{any_passes_from_place}
use Rattle.i2c_base.proofs.ListLemmas.{any_found}

number_there : (n c : ℕ) → c < n → slice_get (range_with_len 0 n) c ≡ Some c
number_there n c low =
    slice_get-get_or (range_with_len 0 n) c c (subst (λ (k : ℕ). c < k) (sym (length-range_with_len 0 n)) low)
    ∙ ap (λ (k : ℕ). Some k) (get_or-range_with_len 0 n c c low ∙ zero-add c)

-- ---- what the rule says of a device
pub record IsFree (b : BoardView) (texts : List (List ℕ)) (c d : ℕ) : Type 0 where
  pub v : DeviceView
  pub at : slice_get b.devices d ≡ Some v
  pub bound : v.bound ≡ true
  pub sensor : is_sensor v.kind ≡ true
  pub free : list_any (is_forced_in b v.addr) texts ≡ false
  pub alone : another_writes b v.bus v.addr c 0 texts ≡ false

is_free : (b : BoardView) (texts : List (List ℕ)) (c d : ℕ) → is_cacheable b texts c d ≡ true → IsFree b texts c d
is_free b texts c d e = by (slice_get b.devices d) refl e
  where
    by : (o : Option DeviceView) → slice_get b.devices d ≡ o → option_map_or (is_cacheable_device b texts c) o false ≡ true
        → IsFree b texts c d
    by None at f = absurd (let g : false ≡ true = f in cc)
    by (Some v) at f =
        let first = and_first (v.bound && is_sensor v.kind)
        (not (list_any (is_forced_in b v.addr) texts) && not (another_writes b v.bus v.addr c 0 texts)) f in
        let second = and_last (v.bound && is_sensor v.kind)
        (not (list_any (is_forced_in b v.addr) texts) && not (another_writes b v.bus v.addr c 0 texts)) f in
        record {
          v = v;
          at = at;
          bound = and_first v.bound (is_sensor v.kind) first;
          sensor = and_last v.bound (is_sensor v.kind) first;
          free = not-true (list_any (is_forced_in b v.addr) texts)
              (and_first (not (list_any (is_forced_in b v.addr) texts)) (not (another_writes b v.bus v.addr c 0 texts)) second);
          alone = not-true (another_writes b v.bus v.addr c 0 texts)
              (and_last (not (list_any (is_forced_in b v.addr) texts)) (not (another_writes b v.bus v.addr c 0 texts)) second);
        }

kept_free : (b : BoardView) (texts : List (List ℕ)) (d : ℕ) → is_kept_by_some b texts d ≡ true → (c : ℕ) × IsFree b texts c d
kept_free b texts d e =
    let r = any_found (λ (c : ℕ). is_cacheable b texts c d) (range_with_len 0 (length texts)) e in
    (r.1, is_free b texts r.1 d r.3)

sensor_kind : (k : DeviceKind) → is_sensor k ≡ true → (raw : ℕ) × (k ≡ kind.Lm75 raw)
sensor_kind (kind.Lm75 raw) e = (raw, refl)
sensor_kind _ e = absurd (let f : false ≡ true = e in cc)

-- ---- who keeps it
kept_from : (b : BoardView) (q : ℕ → Bool) (ds : List ℕ) (d : ℕ)
    → list_any (λ (k : Kept). eqb k.device d) (map (unknown b) (filter q ds)) ≡ true → q d ≡ true
kept_from b q [] d e = absurd (let f : false ≡ true = e in cc)
kept_from b q (x ∷ xs) d e = by (q x) refl (kept_from b q xs d) e
  where
    here : q x ≡ true → (list_any (λ (k : Kept). eqb k.device d) (map (unknown b) (filter q xs)) ≡ true → q d ≡ true)
        → (z : Bool) → eqb x d ≡ z → (z || list_any (λ (k : Kept). eqb k.device d) (map (unknown b) (filter q xs))) ≡ true → q d ≡ true
    here f more true g h = ap q (sym (eqb-true x d g)) ∙ f
    here f more false g h = more h

    by : (z : Bool) → q x ≡ z → (list_any (λ (k : Kept). eqb k.device d) (map (unknown b) (filter q xs)) ≡ true → q d ≡ true)
        → list_any (λ (k : Kept). eqb k.device d) (map (unknown b) (cond z (x ∷ filter q xs) (filter q xs))) ≡ true → q d ≡ true
    by true f more h = here f more (eqb x d) refl h
    by false f more h = more h

another_is : (b : BoardView) (bus addr e : ℕ) (text : List ℕ) → writes_in b bus addr text ≡ true → (texts : List (List ℕ)) (n i : ℕ)
    → slice_get texts i ≡ Some text → (n + i ≡ e → ⊥) → another_writes b bus addr e n texts ≡ true
another_is b bus addr e text writes [] n i at ne = absurd (let f : None ≡ Some text = at in cc)
another_is b bus addr e text writes (x ∷ xs) n zero at ne =
    let same : x ≡ text = (let f : Some x ≡ Some text = at in cc) in
    ap (λ (z : Bool). (not z && writes_in b bus addr x) || another_writes b bus addr e (n + 1) xs) (apart (eqb n e) refl)
    ∙ ap (λ (z : Bool). z || another_writes b bus addr e (n + 1) xs) (ap (writes_in b bus addr) same ∙ writes)
  where
    apart : (z : Bool) → eqb n e ≡ z → z ≡ false
    apart true f = absurd (ne (let g : n ≡ e = eqb-true n e f in omega (arith, g)))
    apart false f = refl
another_is b bus addr e text writes (x ∷ xs) n (suc i) at ne =
    ap (λ (z : Bool). (not (eqb n e) && writes_in b bus addr x) || z)
    (another_is b bus addr e text writes xs (n + 1) i at (λ f. ne (omega (arith, f))))
    ∙ or-true (not (eqb n e) && writes_in b bus addr x)

-- nobody but the writer keeps what he writes
only_writer : (b : BoardView) (texts : List (List ℕ)) (c e d : ℕ) (v : DeviceView) (text : List ℕ) → slice_get texts c ≡ Some text
    → slice_get b.devices d ≡ Some v → writes_in b v.bus v.addr text ≡ true → (e ≡ c → ⊥) → is_kept_by
    (cached_texts b texts e).kept d ≡ false
only_writer b texts c e d v text there at writes ne = by (slice_get texts e)
  where
    unkept : (z : Bool) → list_any (λ (k : Kept). eqb k.device d) (map (unknown b) (cacheable_devices b texts e)) ≡ z → z ≡ false
    unkept false f = refl
    unkept true f =
        absurd (let free = is_free b texts e d (kept_from b (is_cacheable b texts e) (range_with_len 0 (length b.devices)) d f) in
        let same : free.v ≡ v = (let g : Some free.v ≡ Some v = sym free.at ∙ at in cc) in
        let alone : another_writes b v.bus v.addr e 0 texts ≡ false =
        subst (λ (x : DeviceView). another_writes b x.bus x.addr e 0 texts ≡ false) same free.alone in
        let some : another_writes b v.bus v.addr e 0 texts ≡ true =
        another_is b v.bus v.addr e text writes texts 0 c there (λ g. ne (sym (sym (zero-add c) ∙ g))) in
        let g : true ≡ false = sym some ∙ alone in cc)

    by : (o : Option (List ℕ))
        → is_kept_by (option_map_or (λ (x : List ℕ). cached_on (script_on b x) (map (unknown b) (cacheable_devices b texts e))) o
        (record { asks = λ rs. None; left = λ rs. 0; kept = [] })).kept d ≡ false
    by None = refl
    by (Some x) = unkept (list_any (λ (k : Kept). eqb k.device d) (map (unknown b) (cacheable_devices b texts e))) refl

-- ---- a transfer
module _ (b : BoardView) (tree : IsTree b) (texts : List (List ℕ)) (c : ℕ) (text : List ℕ) (there : slice_get texts c ≡ Some text)
    (t : TransferView) where
  abbrev Harmless : Type 0
  Harmless = IsHarmless b (cached_texts b texts) (is_kept_by_some b texts) c t

  -- of the driver of another device, or of a sensor that nobody keeps
  leaves_others : (e : ℕ) (w : DeviceView) → slice_get b.devices e ≡ Some w → ((d : ℕ) → is_kept_by_some b texts d ≡ true → e ≡ d → ⊥)
      → t.force ≡ true → t.bus ≡ w.bus → AllByRecursion (λ (m : Msg). m.addr ≡ w.addr) t.msgs → Harmless
  leaves_others e w at ne forced bus addrs = Leaves (λ d is. leaves-other b tree t d e w at (ne d is) forced bus addrs)

  unforced : (a : ℕ) → list_any (is_forced_in b a) texts ≡ false → is_forced_in b a text ≡ true → ⊥
  unforced a free is = (let f : true ≡ false = sym (any_passes_from_place (is_forced_in b a) texts c text there is) ∙ free in absurd cc)

  apart_all : (a : ℕ) → list_any (is_forced_in b a) texts ≡ false → (ms : List Msg)
      → AllByRecursion (λ (m : Msg). is_forced_in b m.addr text ≡ true) ms → AllByRecursion (λ (m : Msg). a ≡ m.addr → ⊥) ms
  apart_all a free [] all = tt
  apart_all a free (m ∷ ms) all =
      ((λ e. unforced a free (ap (λ (i : ℕ). is_forced_in b i text) e ∙ all.0)), apart_all a free ms all.1)

  pub harmless-of : Touches b text t → Harmless
  harmless-of (Unforced plain) =
      Leaves (λ d is. (let free = (kept_free b texts d is).1 in leaves-unforced b t d free.v plain free.at free.bound))
  harmless-of (Forced all) =
      Leaves (λ d is. (let free = (kept_free b texts d is).1 in leaves-apart b t d free.v free.at
      (apart_all free.v.addr free.free t.msgs all)))
  harmless-of (SensorRead e v r at same) = by (is_kept_by_some b texts e) refl
    where
      by : (z : Bool) → is_kept_by_some b texts e ≡ z → Harmless
      by true is = Reads e v r is at same
      by false is =
          leaves_others e v at (λ d kept f. (let g : true ≡ false = sym kept ∙ ap (is_kept_by_some b texts) (sym f) ∙ is in absurd cc))
          (ap (λ (x : TransferView). x.force) same) (ap (λ (x : TransferView). x.bus) same)
          (subst (λ (x : TransferView). AllByRecursion (λ (m : Msg). m.addr ≡ v.addr) x.msgs) (sym same) (refl, (refl, tt)))
  harmless-of (SensorWrite e v r high low at same kept low_is writes) = by (is_kept_by_some b texts e) refl
    where
      by : (z : Bool) → is_kept_by_some b texts e ≡ z → Harmless
      by true is = Writes e v r high low is at same kept low_is (λ k ne. only_writer b texts c k e v text there at writes ne)
      by false is =
          leaves_others e v at (λ d keeps f. (let g : true ≡ false = sym keeps ∙ ap (is_kept_by_some b texts) (sym f) ∙ is in absurd cc))
          (ap (λ (x : TransferView). x.force) same) (ap (λ (x : TransferView). x.bus) same)
          (subst (λ (x : TransferView). AllByRecursion (λ (m : Msg). m.addr ≡ v.addr) x.msgs) (sym same) (refl, tt))
  harmless-of (OtherDriver e w at other forced bus addrs) =
      leaves_others e w at
      (λ d kept f. (let free = (kept_free b texts d kept).1 in
      let same : free.v ≡ w = (let g : Some free.v ≡ Some w = sym free.at ∙ ap (λ (i : ℕ). slice_get b.devices i) (sym f) ∙ at in cc) in
      let g : true ≡ false = sym free.sensor ∙ ap (λ (x : DeviceView). is_sensor x.kind) same ∙ other in absurd cc)) forced bus addrs

-- WHO MAY TOUCH
pub may-be-cached : (b : BoardView) → IsTree b → (texts : List (List ℕ)) → AsksTouch b texts
    → MayBeCached b (cached_texts b texts) (is_kept_by_some b texts)
may-be-cached b tree texts touch =
    record {
      sensors = λ d is. (
          let free = (kept_free b texts d is).1 in
          let raw = sensor_kind free.v.kind free.sensor in
          (free.v, record { at = free.at; raw = raw.0; kind = raw.1 }));
      kept = λ c. by_kept c (slice_get texts c) refl;
      harmless = λ c rs t asks. by_asks c rs t (slice_get texts c) refl asks;
    }
  where
    all_kept : (c : ℕ) → c < length texts → (ds : List ℕ)
        → AllByRecursion (λ (d : ℕ). is_kept_by_some b texts d ≡ true) (filter (is_cacheable b texts c) ds)
    all_kept c low [] = tt
    all_kept c low (d ∷ ds) = by (is_cacheable b texts c d) refl (all_kept c low ds)
      where
        by : (z : Bool) → is_cacheable b texts c d ≡ z
            → AllByRecursion (λ (x : ℕ). is_kept_by_some b texts x ≡ true) (filter (is_cacheable b texts c) ds)
            → AllByRecursion (λ (x : ℕ). is_kept_by_some b texts x ≡ true)
            (cond z (d ∷ filter (is_cacheable b texts c) ds) (filter (is_cacheable b texts c) ds))
        by true is more = (
          any_passes_from_place (λ (k : ℕ). is_cacheable b texts k d) (range_with_len 0 (length texts)) c c
              (number_there (length texts) c low) is,
          more,
        )
        by false is more = more

    by_kept : (c : ℕ) (o : Option (List ℕ)) → slice_get texts c ≡ o
        → (ds : List ℕ) × ((option_map_or (λ (x : List ℕ). cached_on (script_on b x) (map (unknown b) (cacheable_devices b texts c))) o
        (record { asks = λ rs. None; left = λ rs. 0; kept = [] })).kept ≡ map (unknown b) ds)
        × AllByRecursion (λ (d : ℕ). is_kept_by_some b texts d ≡ true) ds
    by_kept c None at = ([], refl, tt)
    by_kept c (Some text) at =
        (cacheable_devices b texts c, refl, all_kept c (slice_get_within texts c text at) (range_with_len 0 (length b.devices)))

    by_asks : (c : ℕ) (rs : List Reply) (t : TransferView) (o : Option (List ℕ)) → slice_get texts c ≡ o
        → (option_map_or (λ (x : List ℕ). cached_on (script_on b x) (map (unknown b) (cacheable_devices b texts c))) o
        (record { asks = λ rs. None; left = λ rs. 0; kept = [] })).asks rs ≡ Some t
        → IsHarmless b (cached_texts b texts) (is_kept_by_some b texts) c t
    by_asks c rs t None at asks = absurd (let f : None ≡ Some t = asks in cc)
    by_asks c rs t (Some text) at asks = harmless-of b tree texts c text at t (touch c text rs t at asks)
