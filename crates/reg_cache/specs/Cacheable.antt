-- Which sensors a caller may keep, by the texts of all scripts: bound ones that nobody reaches by force, and no other caller writes.
use Rattle.std.specs.Prelude.{◌≡◌, ℕ, ◌+◌, ◌==◌, Bool, true, false, not, ◌&&◌, ◌||◌, List, [], ◌∷◌, length, map, slice_get, Some, None}
use Rattle.std.specs.List.{list_any, filter, range_with_len, AllByRecursion, AllZip}
use Rattle.std.specs.Option.{option_map_or}
use Rattle.i2c_base.specs.Board.{BoardView, DeviceView}
use Rattle.i2c_spec.specs.Plain.{IsPlainBoard}
use Rattle.i2c_spec.specs.Rules.{MeetsRules}
use Rattle.i2c_drivers.specs.Bound.{is_sensor}
use Rattle.caller_core.specs.Reach.{is_forced_in, writes_in, IsReachOf}
use Rattle.caller_core.specs.declared.reach.Reach.{Reach}
use Rattle.caller_core.specs.View.{script_on}
use Rattle.caller_core.specs.Scripts.{asked_by}
use Rattle.i2c_base.specs.Transfer.{TransferView}
use Rattle.i2c_base.specs.declared.reply.Reply.{Reply}
use Rattle.i2c_base.specs.declared.transfer.Msg.{Msg}
use Rattle.cache_laws.specs.Cache.{Cached, is_kept, unknown}
use Rattle.cache_laws.specs.Order.{SensorRegister, number_of, register_read, register_write, IsLowByte, MayBeCached}
use Rattle.reg_cache.specs.Cached.{cached_on}

-- another caller's text has a line `lm75 write` to this place
abbrev pub another_writes : BoardView → (bus addr : ℕ) → ℕ → ℕ → List (List ℕ) → Bool
another_writes b bus addr c n [] = false
another_writes b bus addr c n (text ∷ texts) =
    (not (n == c) && writes_in b bus addr text) || another_writes b bus addr c (n + 1) texts

-- ---- the rule

abbrev pub is_cacheable_device : BoardView → List (List ℕ) → ℕ → DeviceView → Bool
is_cacheable_device b texts c v =
    (v.bound && is_sensor v.kind)
    && (not (list_any (is_forced_in b v.addr) texts) && not (another_writes b v.bus v.addr c 0 texts))

abbrev pub is_cacheable : BoardView → List (List ℕ) → ℕ → ℕ → Bool
is_cacheable b texts c d = option_map_or (is_cacheable_device b texts c) (slice_get b.devices d) false

-- in file order
abbrev pub cacheable_devices : BoardView → List (List ℕ) → ℕ → List ℕ
cacheable_devices b texts c = filter (is_cacheable b texts c) (range_with_len 0 (length b.devices))

-- ---- what the scripts reach, of all callers, in their order
abbrev pub Texts : Type 0
Texts = List (List ℕ)

abbrev pub AreReaches : BoardView → Texts → List Reach → Type 0
AreReaches b texts reaches = AllZip (λ text reach. IsReachOf (script_on b text) reach) texts reaches

-- ---- the callers of these texts, each with what it may keep, and the devices that some caller keeps
abbrev pub cached_texts : BoardView → List (List ℕ) → ℕ → Cached
cached_texts b texts c =
    option_map_or (λ text. cached_on (script_on b text) (map (unknown b) (cacheable_devices b texts c)))
    (slice_get texts c) (record { asks = λ rs. None; left = λ rs. 0; kept = [] })

abbrev pub is_kept_by_some : BoardView → List (List ℕ) → ℕ → Bool
is_kept_by_some b texts d = list_any (λ c. is_cacheable b texts c d) (range_with_len 0 (length texts))

-- WHO MAY TOUCH: of scripts in the grammar all transfers are harmless for what is kept
abbrev pub WhoMayTouch : Type 0
WhoMayTouch = (b : BoardView) (texts : List (List ℕ)) → IsPlainBoard b → MeetsRules b → MayBeCached b (cached_texts b texts) (is_kept_by_some b texts)

-- ---- what a transfer of a script may be, by the text alone: it isn't forced; or each of its messages has an address that the text may
-- reach by force; or it is a read by a sensor's driver; or a write by one, of which the text has a line; or one of another device's
-- driver
pub data Touches (b : BoardView) (text : List ℕ) (t : TransferView) : Type 0 where
  Unforced : t.force ≡ false → Touches b text t
  Forced : AllByRecursion (λ (m : Msg). is_forced_in b m.addr text ≡ true) t.msgs → Touches b text t
  SensorRead : (e : ℕ) (v : DeviceView) (r : SensorRegister) → slice_get b.devices e ≡ Some v → t ≡ register_read v r → Touches b text t
  SensorWrite : (e : ℕ) (v : DeviceView) (r : SensorRegister) (high low : ℕ) → slice_get b.devices e ≡ Some v
      → t ≡ register_write v r high low → is_kept (number_of r) ≡ true → IsLowByte low → writes_in b v.bus v.addr text ≡ true → Touches b text t
  OtherDriver : (e : ℕ) (w : DeviceView) → slice_get b.devices e ≡ Some w → is_sensor w.kind ≡ false → t.force ≡ true → t.bus ≡ w.bus
      → AllByRecursion (λ (m : Msg). m.addr ≡ w.addr) t.msgs → Touches b text t

-- each transfer of these scripts is one of these
abbrev pub AsksTouch : BoardView → List (List ℕ) → Type 0
AsksTouch b texts = (c : ℕ) (text : List ℕ) (rs : List Reply) (t : TransferView) → slice_get texts c ≡ Some text
    → asked_by (script_on b text) rs ≡ Some t → Touches b text t
