-- The transfers of a journal with the hits between them, and the devices that both leave.
use Rattle.std.specs.Prelude.{◌≡◌, ◌<◌, ℕ, suc, zero, ◌==◌, Bool, true, false, ◌⊎◌, List, [], ◌∷◌, ◌++◌, map, Option, Some, slice_get}
use Rattle.std.specs.List.{list_any, AllByRecursion}
use Rattle.i2c_base.specs.declared.board.DeviceKind.TheVariants as kind
use Rattle.i2c_base.specs.declared.entry.Entry.{Entry}
use Rattle.i2c_base.specs.declared.entry.Entry.TheVariants as entry
use Rattle.i2c_base.specs.declared.reply.Reply.{Reply}
use Rattle.i2c_base.specs.declared.reply.Cut.{Cut}
use Rattle.i2c_base.specs.declared.reply.Cut.TheVariants as cut_at
use Rattle.i2c_base.specs.declared.transfer.TransferKind.TheVariants as transfer_kind
use Rattle.i2c_base.specs.declared.transfer.Msg.{Msg}
use Rattle.i2c_base.specs.Board.{BoardView, DeviceView}
use Rattle.i2c_base.specs.Transfer.{TransferView, written, plain_read}
use Rattle.i2c_spec.specs.Targets.Lm75Device.{Lm75View, Idle}
use Rattle.i2c_spec.specs.Targets.{TargetState, Lm75}
use Rattle.i2c_spec.specs.Conversation.{is_it}
use Rattle.i2c_spec.specs.Flat.{granted_on}
use Rattle.i2c_spec.specs.History.{History, history}
use Rattle.bus_spec.specs.Readings.{replies}
use Rattle.cache_laws.specs.Cache.{Kept, Cached, is_kept, filled, answered, asks_of, unknown}

-- ---- full order

-- the hits of a caller after these replies of it, as transfers that aren't cut
abbrev pub hits_of : (ℕ → Cached) → ℕ → List Reply → List (ℕ × Cut)
hits_of xs c rs = map (λ r. (c, cut_at.No)) (filled (xs c) rs).hits

-- the callers and cuts of the settles, the newest first, and the hits of each caller directly before its next settle
abbrev pub order_before : (ℕ → Cached) → List Entry → List (ℕ × Cut)
order_before xs [] = []
order_before xs (entry.Settle c reply cut ∷ past) = (c, cut) ∷ hits_of xs c (replies past c) ++ order_before xs past
order_before xs (e ∷ past) = order_before xs past

-- those that no settle follows stand at the end, by rising caller
abbrev pub last_hits : (ℕ → Cached) → List Entry → ℕ → List (ℕ × Cut)
last_hits xs past zero = []
last_hits xs past (suc c) = hits_of xs c (replies past c) ++ last_hits xs past c

abbrev pub full_order : (ℕ → Cached) → ℕ → List Entry → List (ℕ × Cut)
full_order xs callers past = last_hits xs past callers ++ order_before xs past

-- ---- who may touch a sensor

-- the registers that drivers read: the temperature, the hysteresis and the limit
pub data SensorRegister : Type 0 where
  Temperature : SensorRegister
  Hysteresis : SensorRegister
  Limit : SensorRegister

abbrev pub number_of : SensorRegister → ℕ
number_of Temperature = 0
number_of Hysteresis = 2
number_of Limit = 3

-- what a driver sends to a sensor: a read of a register, and a write
abbrev pub register_read : DeviceView → SensorRegister → TransferView
register_read v r =
    record {
      bus = v.bus;
      kind = transfer_kind.Smbus;
      force = true;
      msgs = written v.addr 1 ∷ plain_read v.addr 2 ∷ [];
      out = number_of r ∷ [];
    }

abbrev pub register_write : DeviceView → SensorRegister → ℕ → ℕ → TransferView
register_write v r high low =
    record {
      bus = v.bus;
      kind = transfer_kind.Smbus;
      force = true;
      msgs = written v.addr 3 ∷ [];
      out = number_of r ∷ high ∷ low ∷ [];
    }

-- device d is granted to none of the messages of a transfer
abbrev pub is_granted : BoardView → TransferView → ℕ → Bool
is_granted b t d = list_any (λ (m : Msg). is_it (granted_on b t.bus t.force m.addr) d) t.msgs

-- some device of this number is kept
abbrev pub is_kept_by : List Kept → ℕ → Bool
is_kept_by ks d = list_any (λ k. k.device == d) ks

-- the low seven bits of a byte are 0
abbrev pub IsLowByte : ℕ → Type 0
IsLowByte n = (n ≡ 0) ⊎ (n ≡ 128)

-- a device of this board is a sensor
pub record IsSensor (b : BoardView) (d : ℕ) (v : DeviceView) : Type 0 where
  pub at : slice_get b.devices d ≡ Some v
  pub raw : ℕ
  pub kind : v.kind ≡ kind.Lm75 raw

-- a transfer of caller c is harmless for what is kept of some devices: it is granted none of them; or it is a driver's read of one;
-- or a driver's write of a register of one that nobody but c keeps
pub data IsHarmless (b : BoardView) (xs : ℕ → Cached) (cached : ℕ → Bool) (c : ℕ) (t : TransferView) : Type 0 where
  Leaves : ((d : ℕ) → cached d ≡ true → is_granted b t d ≡ false) → IsHarmless b xs cached c t
  Reads : (d : ℕ) (v : DeviceView) (r : SensorRegister) → cached d ≡ true → slice_get b.devices d ≡ Some v → t ≡ register_read v r
      → IsHarmless b xs cached c t
  Writes : (d : ℕ) (v : DeviceView) (r : SensorRegister) (high low : ℕ) → cached d ≡ true → slice_get b.devices d ≡ Some v
      → t ≡ register_write v r high low → is_kept (number_of r) ≡ true → IsLowByte low
      → ((e : ℕ) → (e ≡ c → ⊥) → is_kept_by (xs e).kept d ≡ false) → IsHarmless b xs cached c t

-- THE PREMISE: these devices are sensors, nobody keeps another one, and all transfers are harmless for them
pub record MayBeCached (b : BoardView) (xs : ℕ → Cached) (cached : ℕ → Bool) : Type 0 where
  pub sensors : (d : ℕ) → cached d ≡ true → (v : DeviceView) × IsSensor b d v
  pub kept : (c : ℕ) → (ds : List ℕ) × ((xs c).kept ≡ map (unknown b) ds) × AllByRecursion (λ d. cached d ≡ true) ds
  pub harmless : (c : ℕ) (rs : List Reply) (t : TransferView) → (xs c).asks rs ≡ Some t → IsHarmless b xs cached c t

-- ---- what is left

-- two lists of devices are the same but for the pointers of these sensors, which are at rest
pub record SameSensor (x y : Option TargetState) : Type 0 where
  pub view : Lm75View
  pub rests : view.phase ≡ Idle
  pub here : x ≡ Some (Lm75 view)
  pub pointer : ℕ
  pub there : y ≡ Some (Lm75 (record view { pointer = pointer }))

pub record SameButPointers (cached : ℕ → Bool) (xs ys : List TargetState) : Type 0 where
  pub others : (d : ℕ) → cached d ≡ false → slice_get xs d ≡ slice_get ys d
  pub sensors : (d : ℕ) → cached d ≡ true → SameSensor (slice_get xs d) (slice_get ys d)

-- ---- the law

-- the full order has a history; its replies are those with the hits filled in; and what it leaves is the same but for pointers
pub record IsReplayed (b : BoardView) (xs : ℕ → Cached) (cached : ℕ → Bool) (callers : ℕ) (past : List Entry) (states : List TargetState)
    : Type 0 where
  pub told : History
  pub defined : history b (asks_of xs) (full_order xs callers past) ≡ Some told
  pub replies_are : (c : ℕ) → c < callers → told.replies c ≡ answered (xs c) (replies past c)
  pub left : SameButPointers cached states told.states
