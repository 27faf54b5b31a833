-- A cache of the limit registers of sensors (Linux regmap): a caller knows the two bytes of a register from its own last
-- access, and a read of a register that is known is a hit.
use Rattle.std.specs.Prelude.{ℕ, suc, zero, ◌==◌, Bool, true, false, not, ◌&&◌, ◌||◌, List, [], ◌∷◌, ◌++◌, map, Option, Some, None, is_some, if◌then◌else◌}
use Rattle.std.specs.List.{fold}
use Rattle.std.specs.Option.{option_map, option_map_or, option_and_then}
use Rattle.i2c_base.specs.declared.reply.Reply.{Reply}
use Rattle.i2c_base.specs.declared.reply.Reply.TheVariants as reply
use Rattle.i2c_base.specs.declared.transfer.Msg.{Msg}
use Rattle.i2c_base.specs.Board.{BoardView}
use Rattle.i2c_base.specs.Transfer.{TransferView, is_read, is_counted}
pub use Rattle.cache_laws.specs.declared.registers.Pair.{Pair}
pub use Rattle.cache_laws.specs.declared.registers.Access.{Access}
pub use Rattle.cache_laws.specs.declared.registers.Kept.{Kept}
use Rattle.i2c_spec.specs.Tree.{of_device}
use Rattle.i2c_spec.specs.History.{Asks}

-- ---- accesses

-- a write of n bytes, and a read of n
abbrev pub writes_just : ℕ → Msg → Bool
writes_just n m = not (is_read m) && (m.len == n)

abbrev pub reads_just : ℕ → Msg → Bool
reads_just n m = is_read m && (not (is_counted m) && (m.len == n))

-- the registers that are kept: 2, the hysteresis, and 3, the limit
abbrev pub is_kept : ℕ → Bool
is_kept r = (r == 2) || (r == 3)

abbrev pub access_if : Bool → Access → Option Access
access_if true a = Some a
access_if false a = None

-- a write of the pointer and two bytes after it; or a write of the pointer, and a read of two bytes at the same address
abbrev pub access_by : ℕ → List Msg → List ℕ → Option Access
access_by bus (w ∷ []) (r ∷ high ∷ low ∷ []) =
    access_if (writes_just 3 w && is_kept r)
    (record { bus = bus; addr = w.addr; register = r; sent = Some (record { high = high; low = low }) })
access_by bus (w ∷ m ∷ []) (r ∷ []) =
    access_if (writes_just 1 w && (reads_just 2 m && ((w.addr == m.addr) && is_kept r)))
    (record { bus = bus; addr = w.addr; register = r; sent = None })
access_by bus msgs out = None

-- drivers force theirs
abbrev pub access_of : TransferView → Option Access
access_of t = if t.force then access_by t.bus t.msgs t.out else None

-- ---- what is known

-- nothing, at first
abbrev pub unknown : BoardView → ℕ → Kept
unknown b d =
    record { device = d; bus = of_device (λ x. x.bus) 0 b d; addr = of_device (λ x. x.addr) 0 b d; hysteresis = None; limit = None }

abbrev pub is_at : Access → Kept → Bool
is_at a k = (k.bus == a.bus) && (k.addr == a.addr)

abbrev pub register_of : Kept → ℕ → Option Pair
register_of k r = if r == 2 then k.hysteresis else k.limit

abbrev pub with_register : Kept → ℕ → Option Pair → Kept
with_register k r p = if r == 2 then record k { hysteresis = p } else record k { limit = p }

-- what is known of a register behind an access with this reply: what was read or written, where it went through
abbrev pub brought : Option Pair → Reply → Option Pair
brought None (reply.Read (high ∷ low ∷ [])) = Some (record { high = high; low = low })
brought (Some p) reply.Done = Some p
brought sent r = None

abbrev pub learn_at : Access → Reply → Kept → Kept
learn_at a r k = if is_at a k then with_register k a.register (brought a.sent r) else k

abbrev pub learned_by : Option Access → Reply → List Kept → List Kept
learned_by None r ks = ks
learned_by (Some a) r ks = map (learn_at a r) ks

abbrev pub learned : List Kept → Option TransferView → Reply → List Kept
learned ks t r = learned_by (option_and_then access_of t) r ks

-- what one caller asks for after these replies, and what it knows after them: the access with the newest reply counts
abbrev pub Asking : Type 0
Asking = List Reply → Option TransferView

abbrev pub known_from : Asking → List Kept → List Reply → List Reply → List Kept
known_from asks ks past [] = ks
known_from asks ks past (r ∷ rs) = known_from asks (learned ks (asks past) r) (past ++ r ∷ []) rs

abbrev pub known : Asking → List Kept → List Reply → List Kept
known asks ks rs = known_from asks ks [] rs

-- ---- hits

abbrev pub reply_of : Pair → Reply
reply_of p = reply.Read (p.high ∷ p.low ∷ [])

abbrev pub pair_at : List Kept → Access → Option Pair
pair_at [] a = None
pair_at (k ∷ ks) a = if is_at a k then register_of k a.register else pair_at ks a

-- a read of a register that is known is a hit, and this is its reply
abbrev pub hit_by : List Kept → Option Access → Option Reply
hit_by ks None = None
hit_by ks (Some a) = if is_some a.sent then None else option_map reply_of (pair_at ks a)

abbrev pub hit : List Kept → Option TransferView → Option Reply
hit ks t = hit_by ks (option_and_then access_of t)

-- the hits after these replies, one after the other; there are at most so many
abbrev pub hits_from : Asking → List Kept → ℕ → List Reply → List Reply
hits_from asks ks zero rs = []
hits_from asks ks (suc n) rs = option_map_or (λ r. r ∷ hits_from asks ks n (rs ++ r ∷ [])) (hit (known asks ks rs) (asks rs)) []

-- the replies of a caller with hits: those up to the last one that came over the bus, and the hits after it
pub record Filled : Type 0 where
  pub full : List Reply
  pub hits : List Reply

-- a script as a caller that is cached: what it asks for, how much is left of it, and what it keeps of which devices at first
pub record Cached : Type 0 where
  pub asks : Asking
  pub left : List Reply → ℕ
  pub kept : List Kept

abbrev pub with_hits : Cached → List Reply → Filled
with_hits x rs = record { full = rs; hits = hits_from x.asks x.kept (x.left rs) rs }

abbrev pub all_of : Filled → List Reply
all_of f = f.full ++ f.hits

abbrev pub more_filled : Cached → Filled → Reply → Filled
more_filled x f r = with_hits x (all_of f ++ r ∷ [])

abbrev pub filled : Cached → List Reply → Filled
filled x rs = fold (more_filled x) (with_hits x []) rs

-- the replies that came over the bus with the hits put in; and what is asked for next over the bus: hits are left out
abbrev pub answered : Cached → List Reply → List Reply
answered x rs = all_of (filled x rs)

abbrev pub asked_cached : Cached → Asking
asked_cached x rs = x.asks (answered x rs)

abbrev pub left_cached : Cached → List Reply → ℕ
left_cached x rs = x.left (answered x rs)

-- the other way round: of all replies those that came over the bus
abbrev pub one_stripped : Option Reply → Reply → List Reply
one_stripped None r = r ∷ []
one_stripped (Some hit) r = []

abbrev pub stripped_from : Asking → List Kept → List Reply → List Reply → List Reply
stripped_from asks ks past [] = []
stripped_from asks ks past (r ∷ rs) =
    one_stripped (hit ks (asks past)) r ++ stripped_from asks (learned ks (asks past) r) (past ++ r ∷ []) rs

abbrev pub stripped : Asking → List Kept → List Reply → List Reply
stripped asks ks rs = stripped_from asks ks [] rs

-- of all callers
abbrev pub asks_of : (ℕ → Cached) → Asks
asks_of xs c rs = (xs c).asks rs

abbrev pub cached_asks : (ℕ → Cached) → Asks
cached_asks xs c rs = asked_cached (xs c) rs
