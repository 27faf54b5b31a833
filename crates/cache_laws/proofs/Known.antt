-- What a caller knows is what the registers have, after each transfer of any caller; so a hit's reply is what a read would give.
-- The inductions go over what is kept.
use Rattle.std.proofs.Common.{◌≡◌, ℕ, ◌/◌, ◌%◌, Bool, true, false, cond, not, ◌&&◌, ◌||◌, inl, inr, List, [], ◌∷◌, map, Option, Some, None}
use Rattle.std.proofs.Common.{eqb, ltb, refl, sym, ◌∙◌, ap, subst, arith}
use Rattle.std.proofs.lemmas.Bool.{eqb-true, eq-eqb, or_parts}
use Rattle.std.proofs.Math.Bool.{or-true}
use Rattle.std.specs.Prelude.{slice_get, is_some}
use Rattle.std.specs.List.{AllByRecursion, list_any}
use Rattle.std.specs.Option.{option_map}
use Rattle.i2c_base.specs.declared.errno.Errno.{Errno}
use Rattle.i2c_base.specs.declared.errno.Errno.TheVariants as errno
use Rattle.i2c_base.specs.declared.reply.Reply.{Reply}
use Rattle.i2c_base.specs.declared.reply.Reply.TheVariants as reply
use Rattle.i2c_base.specs.declared.reply.Cut.{Cut}
use Rattle.i2c_base.specs.declared.reply.Cut.TheVariants as cut_at
use Rattle.i2c_base.specs.declared.transfer.Msg.{Msg}
use Rattle.i2c_base.specs.Board.{BoardView, DeviceView}
use Rattle.i2c_base.specs.Transfer.{TransferView}
use Rattle.i2c_spec.specs.Tree.{buses, root_of}
use Rattle.i2c_spec.specs.TreeFacts.{IsTree}
use Rattle.i2c_spec.specs.Grant.{grant_of, is_busy, way_of}
use Rattle.i2c_spec.specs.Targets.Lm75Device.{Lm75View, Idle, with_high, with_low, byte_of_word}
use Rattle.i2c_spec.specs.Targets.{TargetState, Lm75}
use Rattle.i2c_spec.specs.Flat.{FlatTold, granted_on, is_plain, is_smbus_only, first_of, is_way_cut, way_errno, barred, flat}
use Rattle.i2c_spec.specs.Conversation.{is_it}
use Rattle.cache_laws.specs.Cache.{Pair, Access, Kept, Cached, is_kept, access_if, writes_just, reads_just, access_by, access_of, is_at}
use Rattle.cache_laws.specs.Cache.{register_of, with_register, brought, learn_at, learned_by, learned, pair_at, reply_of, hit_by, hit}
use Rattle.cache_laws.specs.Order.{SensorRegister, Temperature, Hysteresis, Limit, number_of, register_read, register_write, is_granted}
use Rattle.cache_laws.specs.Order.{is_kept_by, IsLowByte, IsHarmless, Leaves, Reads, Writes, SameButPointers}
use Rattle.cache_laws.proofs.One.{word_of, with_word, bytes_of}
use Rattle.cache_laws.proofs.Gate.{IsOpen, GoesThrough, read-goes, granted-here, same-place}
use Rattle.cache_laws.proofs.Transfer.{barred_is, StepsAlike, Reading, Writing, leaves-left, leaves-alike, read_steps, read_reads}
use Rattle.cache_laws.proofs.Transfer.{read_others, write_steps, write_writes, write_others}
use Rattle.i2c_base.proofs.Booleans.{and_last}

-- ---- what is kept of one device

-- a register has these bytes, and reads of its device aren't barred
pub record IsHeld (b : BoardView) (xs : List TargetState) (d : ℕ) (v : DeviceView) (r : SensorRegister) (p : Pair) : Type 0 where
  pub view : Lm75View
  pub state : slice_get xs d ≡ Some (Lm75 view)
  pub bytes : bytes_of (word_of view r) ≡ p.high ∷ p.low ∷ []
  pub opens : IsOpen b v

pub record Knows (b : BoardView) (cached : ℕ → Bool) (xs : List TargetState) (k : Kept) : Type 0 where
  pub v : DeviceView
  pub at : slice_get b.devices k.device ≡ Some v
  pub bus : k.bus ≡ v.bus
  pub addr : k.addr ≡ v.addr
  pub is_cached : cached k.device ≡ true
  pub hysteresis : (p : Pair) → k.hysteresis ≡ Some p → IsHeld b xs k.device v Hysteresis p
  pub limit : (p : Pair) → k.limit ≡ Some p → IsHeld b xs k.device v Limit p

-- the registers of a device stay the same
held_view : (b : BoardView) (xs zs : List TargetState) (d : ℕ) (v : DeviceView) (r : SensorRegister) (p : Pair) (x y : Lm75View)
    → slice_get xs d ≡ Some (Lm75 x) → slice_get zs d ≡ Some (Lm75 y) → word_of y r ≡ word_of x r
    → IsHeld b xs d v r p → IsHeld b zs d v r p
held_view b xs zs d v r p x y at there same h =
    record {
      view = y;
      state = there;
      bytes = ap (λ (w : ℕ). bytes_of w) same ∙ ap (λ (z : Lm75View). bytes_of (word_of z r)) is ∙ h.bytes;
      opens = h.opens;
    }
  where
    is : x ≡ h.view
    is = let f : Some (Lm75 x) ≡ Some (Lm75 h.view) = sym at ∙ h.state in cc

held_same : (b : BoardView) (xs zs : List TargetState) (d : ℕ) (v : DeviceView) (r : SensorRegister) (p : Pair)
    → slice_get zs d ≡ slice_get xs d → IsHeld b xs d v r p → IsHeld b zs d v r p
held_same b xs zs d v r p e h = record { view = h.view; state = e ∙ h.state; bytes = h.bytes; opens = h.opens }

knows_same : (b : BoardView) (cached : ℕ → Bool) (xs zs : List TargetState) (k : Kept) → slice_get zs k.device ≡ slice_get xs k.device
    → Knows b cached xs k → Knows b cached zs k
knows_same b cached xs zs k e h =
    record {
      v = h.v;
      at = h.at;
      bus = h.bus;
      addr = h.addr;
      is_cached = h.is_cached;
      hysteresis = λ p is. held_same b xs zs k.device h.v Hysteresis p e (h.hysteresis p is);
      limit = λ p is. held_same b xs zs k.device h.v Limit p e (h.limit p is);
    }

-- one register is told anew
knows_put : (b : BoardView) (cached : ℕ → Bool) (xs zs : List TargetState) (k : Kept) (h : Knows b cached xs k) (r : SensorRegister)
    (o : Option Pair) → is_kept (number_of r) ≡ true
    → ((p : Pair) → o ≡ Some p → IsHeld b zs k.device h.v r p)
    → ((q : SensorRegister) → (q ≡ r → ⊥) → (p : Pair) → IsHeld b xs k.device h.v q p → IsHeld b zs k.device h.v q p)
    → Knows b cached zs (with_register k (number_of r) o)
knows_put b cached xs zs k h Temperature o kept new rest = absurd (let f : false ≡ true = kept in cc)
knows_put b cached xs zs k h Hysteresis o kept new rest =
    record {
      v = h.v;
      at = h.at;
      bus = h.bus;
      addr = h.addr;
      is_cached = h.is_cached;
      hysteresis = new;
      limit = λ p is. rest Limit (λ e. limit_apart e) p (h.limit p is);
    }
  where
    limit_apart : Limit ≡ Hysteresis → ⊥
    limit_apart e = absurd cc
knows_put b cached xs zs k h Limit o kept new rest =
    record {
      v = h.v;
      at = h.at;
      bus = h.bus;
      addr = h.addr;
      is_cached = h.is_cached;
      hysteresis = λ p is. rest Hysteresis (λ e. hysteresis_apart e) p (h.hysteresis p is);
      limit = new;
    }
  where
    hysteresis_apart : Hysteresis ≡ Limit → ⊥
    hysteresis_apart e = absurd cc

-- ---- accesses
-- whose messages an access has
pub record IsAccess (t : TransferView) (a : Access) : Type 0 where
  pub force : t.force ≡ true
  pub bus : a.bus ≡ t.bus
  pub first : Msg
  pub rest : List Msg
  pub msgs : t.msgs ≡ first ∷ rest
  pub addr : first.addr ≡ a.addr
  pub kept : is_kept a.register ≡ true

pub if_access : (z : Bool) (x a : Access) → access_if z x ≡ Some a → (z ≡ true) × (x ≡ a)
if_access true x a e = (refl, let f : Some x ≡ Some a = e in cc)
if_access false x a e = absurd (let f : None ≡ Some a = e in cc)

by_access : (bus : ℕ) (msgs : List Msg) (out : List ℕ) (a : Access) → access_by bus msgs out ≡ Some a
    → (bus ≡ a.bus) × (m : Msg) × (rest : List Msg) × (msgs ≡ m ∷ rest) × (m.addr ≡ a.addr) × (is_kept a.register ≡ true)
by_access bus [] out a e = absurd (let f : None ≡ Some a = e in cc)
by_access bus (w ∷ []) [] a e = absurd (let f : None ≡ Some a = e in cc)
by_access bus (w ∷ []) (r ∷ []) a e = absurd (let f : None ≡ Some a = e in cc)
by_access bus (w ∷ []) (r ∷ high ∷ []) a e = absurd (let f : None ≡ Some a = e in cc)
by_access bus (w ∷ []) (r ∷ high ∷ low ∷ []) a e =
    let h = if_access (writes_just 3 w && is_kept r)
    (record { bus = bus; addr = w.addr; register = r; sent = Some (record { high = high; low = low }) }) a e in (
      ap (λ (z : Access). z.bus) h.1,
      w,
      [],
      refl,
      ap (λ (z : Access). z.addr) h.1,
      ap (λ (z : Access). is_kept z.register) (sym h.1) ∙ and_last (writes_just 3 w) (is_kept r) h.0,
    )
by_access bus (w ∷ []) (r ∷ high ∷ low ∷ more ∷ out) a e = absurd (let f : None ≡ Some a = e in cc)
by_access bus (w ∷ m ∷ []) [] a e = absurd (let f : None ≡ Some a = e in cc)
by_access bus (w ∷ m ∷ []) (r ∷ []) a e =
    let h = if_access (writes_just 1 w && (reads_just 2 m && (eqb w.addr m.addr && is_kept r)))
    (record { bus = bus; addr = w.addr; register = r; sent = None }) a e in (
      ap (λ (z : Access). z.bus) h.1,
      w,
      m ∷ [],
      refl,
      ap (λ (z : Access). z.addr) h.1,
      ap (λ (z : Access). is_kept z.register) (sym h.1)
          ∙ and_last (eqb w.addr m.addr) (is_kept r) (and_last (reads_just 2 m) (eqb w.addr m.addr && is_kept r)
          (and_last (writes_just 1 w) (reads_just 2 m && (eqb w.addr m.addr && is_kept r)) h.0)),
    )
by_access bus (w ∷ m ∷ []) (r ∷ x ∷ out) a e = absurd (let f : None ≡ Some a = e in cc)
by_access bus (w ∷ m ∷ n ∷ msgs) out a e = absurd (let f : None ≡ Some a = e in cc)

access-is : (t : TransferView) (a : Access) → access_of t ≡ Some a → IsAccess t a
access-is t a e = by t.force refl
  where
    by : (z : Bool) → t.force ≡ z → IsAccess t a
    by false f = absurd (let g : None ≡ Some a = sym (ap (λ (z : Bool). cond z (access_by t.bus t.msgs t.out) None) f) ∙ e in cc)
    by true f =
        let r = by_access t.bus t.msgs t.out a (sym (ap (λ (z : Bool). cond z (access_by t.bus t.msgs t.out) None) f) ∙ e) in
        record { force = f; bus = sym r.0; first = r.1; rest = r.2; msgs = r.3; addr = r.4; kept = r.5 }

-- the device of an access at a place that is kept
at_place : (a : Access) (k : Kept) → is_at a k ≡ true → (k.bus ≡ a.bus) × (k.addr ≡ a.addr)
at_place a k e = (
  eqb-true k.bus a.bus (and_first (eqb k.bus a.bus) (eqb k.addr a.addr) e),
  eqb-true k.addr a.addr (and_last (eqb k.bus a.bus) (eqb k.addr a.addr) e),
)
  where
    and_first : (x y : Bool) → (x && y) ≡ true → x ≡ true
    and_first true y f = refl
    and_first false y f = f

-- an access there is granted the device, where its driver's are
place_granted : (b : BoardView) (t : TransferView) (a : Access) (is : IsAccess t a) (k : Kept) (v : DeviceView) → k.bus ≡ v.bus
    → k.addr ≡ v.addr
    → is_at a k ≡ true → granted_on b v.bus true v.addr ≡ Some k.device → is_granted b t k.device ≡ true
place_granted b t a is k v bus addr at granted =
    ap (λ (ms : List Msg). list_any (λ (m : Msg). is_it (granted_on b t.bus t.force m.addr) k.device) ms) is.msgs
    ∙ ap (λ (o : Option ℕ). is_it o k.device || list_any (λ (m : Msg). is_it (granted_on b t.bus t.force m.addr) k.device) is.rest) here
    ∙ ap (λ (z : Bool). z || list_any (λ (m : Msg). is_it (granted_on b t.bus t.force m.addr) k.device) is.rest)
    (eq-eqb k.device k.device refl)
  where
    places : (k.bus ≡ a.bus) × (k.addr ≡ a.addr)
    places = at_place a k at

    here : granted_on b t.bus t.force is.first.addr ≡ Some k.device
    here =
        ap (λ (i : ℕ). granted_on b i t.force is.first.addr) (sym is.bus ∙ sym places.0 ∙ bus)
        ∙ ap (λ (z : Bool). granted_on b v.bus z is.first.addr) is.force
        ∙ ap (λ (i : ℕ). granted_on b v.bus true i) (is.addr ∙ sym places.1 ∙ addr) ∙ granted

free_of : (n s p : Bool) (x y z : Errno) (o : Option Errno)
    → first_of (cond (not n) (Some x) (cond s (Some y) (cond p (Some z) None))) o ≡ None → p ≡ false
free_of false s p x y z o e = absurd (let f : Some x ≡ None = e in cc)
free_of true true p x y z o e = absurd (let f : Some y ≡ None = e in cc)
free_of true false true x y z o e = absurd (let f : Some z ≡ None = e in cc)
free_of true false false x y z o e = refl

-- where it isn't barred, an access at a place that is kept is granted the device
open_granted : (b : BoardView) → IsTree b → (cached : ℕ → Bool) (xs : List TargetState) (t : TransferView) (cut : Cut) (a : Access)
    → IsAccess t a → (k : Kept) → Knows b cached xs k → is_at a k ≡ true → barred b t cut ≡ None → is_granted b t k.device ≡ true
open_granted b tree cached xs t cut a is k h at none =
    place_granted b t a is k h.v h.bus h.addr at (granted-here b tree k.device h.v h.at free)
  where
    places : (k.bus ≡ a.bus) × (k.addr ≡ a.addr)
    places = at_place a k at

    any_free : list_any (λ (m : Msg). is_busy (grant_of b t.bus m.addr t.force)) t.msgs ≡ false
    any_free =
        free_of (ltb t.bus (buses b)) (is_plain t.kind && is_smbus_only b (root_of b t.bus))
        (list_any (λ (m : Msg). is_busy (grant_of b t.bus m.addr t.force)) t.msgs) errno.Enodev errno.Eopnotsupp errno.Ebusy
        (first_of (cond (is_way_cut cut) (Some errno.Eremoteio) None) (way_errno (way_of b t.bus))) none

    free : is_busy (grant_of b h.v.bus h.v.addr true) ≡ false
    free =
        ap (λ (i : ℕ). is_busy (grant_of b i h.v.addr true)) (sym h.bus ∙ places.0 ∙ is.bus)
        ∙ ap (λ (i : ℕ). is_busy (grant_of b t.bus i true)) (sym h.addr ∙ places.1 ∙ sym is.addr)
        ∙ ap (λ (z : Bool). is_busy (grant_of b t.bus is.first.addr z)) (sym is.force)
        ∙ (or_parts (is_busy (grant_of b t.bus is.first.addr t.force))
        (list_any (λ (m : Msg). is_busy (grant_of b t.bus m.addr t.force)) is.rest)
        (sym (ap (λ (ms : List Msg). list_any (λ (m : Msg). is_busy (grant_of b t.bus m.addr t.force)) ms) is.msgs) ∙ any_free)).0

-- an access of a driver
access_read : (v : DeviceView) (r : SensorRegister)
    → access_of (register_read v r) ≡ access_if (is_kept (number_of r))
    (record { bus = v.bus; addr = v.addr; register = number_of r; sent = None })
access_read v r =
    ap (λ (z : Bool). access_if (z && is_kept (number_of r)) (record { bus = v.bus; addr = v.addr; register = number_of r; sent = None }))
    (eq-eqb v.addr v.addr refl)

-- the registers of a number
kept_register : (n : ℕ) → is_kept n ≡ true → (r : SensorRegister) × (n ≡ number_of r) × (is_kept (number_of r) ≡ true)
kept_register n e = by (eqb n 2) (eqb n 3) refl refl (e)
  where
    by : (x y : Bool) → eqb n 2 ≡ x → eqb n 3 ≡ y → (eqb n 2 || eqb n 3) ≡ true
        → (r : SensorRegister) × (n ≡ number_of r) × (is_kept (number_of r) ≡ true)
    by true y f g h = (Hysteresis, eqb-true n 2 f, refl)
    by false true f g h = (Limit, eqb-true n 3 g, refl)
    by false false f g h = absurd (let z : (false || false) ≡ true =
        sym (ap (λ (i : Bool). i || eqb n 3) f ∙ ap (λ (i : Bool). false || i) g) ∙ h in cc)

brought_error : (o : Option Pair) (e : Errno) → brought o (reply.Err e) ≡ None
brought_error None e = refl
brought_error (Some p) e = refl

-- registers behind reads and writes
word_moved : (x : Lm75View) (p : ℕ) (r : SensorRegister) → word_of (record x { phase = Idle; pointer = p }) r ≡ word_of x r
word_moved x p Temperature = refl
word_moved x p Hysteresis = refl
word_moved x p Limit = refl

word_new : (x : Lm75View) (r : SensorRegister) (w : ℕ) → is_kept (number_of r) ≡ true → word_of (with_word x r w) r ≡ w
word_new x Temperature w kept = absurd (let f : false ≡ true = kept in cc)
word_new x Hysteresis w kept = refl
word_new x Limit w kept = refl

word_else : (x : Lm75View) (p : ℕ) (r q : SensorRegister) (w : ℕ) → (q ≡ r → ⊥)
    → word_of (with_word (record x { phase = Idle; pointer = p }) r w) q ≡ word_of x q
word_else x p Temperature q w ne = word_moved x p q
word_else x p Hysteresis Temperature w ne = refl
word_else x p Hysteresis Hysteresis w ne = absurd (ne refl)
word_else x p Hysteresis Limit w ne = refl
word_else x p Limit Temperature w ne = refl
word_else x p Limit Hysteresis w ne = refl
word_else x p Limit Limit w ne = absurd (ne refl)

-- a word whose two bytes were written has these bytes
bytes_written : (old high low : ℕ) → IsLowByte low → bytes_of (with_low (with_high old high) low) ≡ high ∷ low ∷ []
bytes_written old high low is =
    elim is [
      | inl zero_is ↦ ap (λ (i : ℕ). bytes_of (with_low (with_high old high) i)) zero_is ∙ split 0 (with_low (with_high old high) 0)
          (omega arith) (omega arith)
          ∙ ap (λ (i : ℕ). high ∷ i ∷ []) (sym zero_is)
      | inr half_is ↦ ap (λ (i : ℕ). bytes_of (with_low (with_high old high) i)) half_is
          ∙ split 128 (with_low (with_high old high) 128) (omega arith) (omega arith)
          ∙ ap (λ (i : ℕ). high ∷ i ∷ []) (sym half_is)
    ]
  where
    split : (l w : ℕ) → w / 256 ≡ high → w % 256 ≡ l → bytes_of w ≡ high ∷ l ∷ []
    split l w e f = ap (λ (i : ℕ). i ∷ w % 256 ∷ []) e ∙ ap (λ (i : ℕ). high ∷ i ∷ []) f

abbrev pair_list : Option Pair → List ℕ
pair_list None = []
pair_list (Some q) = q.high ∷ q.low ∷ []

-- THE CALLER'S OWN ACCESS: what it learns is so
abbrev pub learn_by : Option Access → Reply → Kept → Kept
learn_by None r k = k
learn_by (Some a) r k = learn_at a r k

module _ (b : BoardView) (tree : IsTree b) (callers : ℕ → Cached) (cached : ℕ → Bool) (xs ys : List TargetState)
    (same : SameButPointers cached xs ys) (cut : Cut) where
  knows_after_read : (d : ℕ) (v : DeviceView) (r : SensorRegister) (is : cached d ≡ true) (at : slice_get b.devices d ≡ Some v)
      → (k : Kept) → Knows b cached xs k → Knows b cached (flat b xs (register_read v r) cut).states k
  knows_after_read d v r is at k h = by (eqb k.device d) refl
    where
      reads : Reading b v d (same.sensors d is).view r (flat b xs (register_read v r) cut)
      reads = read_reads b tree cached d v at is xs ys same r cut

      moves : k.device ≡ d → (q : SensorRegister) (p : Pair) → IsHeld b xs k.device h.v q p
          → IsHeld b (flat b xs (register_read v r) cut).states k.device h.v q p
      moves e q p held =
          held_view b xs (flat b xs (register_read v r) cut).states k.device h.v q p (same.sensors d is).view
          (record ((same.sensors d is).view) { phase = Idle; pointer = reads.p })
          (ap (λ (i : ℕ). slice_get xs i) e ∙ (same.sensors d is).here)
          (ap (λ (i : ℕ). slice_get (flat b xs (register_read v r) cut).states i) e ∙ reads.left)
          (word_moved (same.sensors d is).view reads.p q) held

      by : (z : Bool) → eqb k.device d ≡ z → Knows b cached (flat b xs (register_read v r) cut).states k
      by true e =
          record {
            v = h.v;
            at = h.at;
            bus = h.bus;
            addr = h.addr;
            is_cached = h.is_cached;
            hysteresis = λ p told. moves (eqb-true k.device d e) Hysteresis p (h.hysteresis p told);
            limit = λ p told. moves (eqb-true k.device d e) Limit p (h.limit p told);
          }
      by false e =
          knows_same b cached xs (flat b xs (register_read v r) cut).states k
          (read_others b tree cached d v at is xs ys same r cut k.device
          (λ f. (let g : true ≡ false = sym (eq-eqb k.device d f) ∙ e in absurd cc))) h

  -- a transfer of the caller that keeps this
  knows_leaves : (t : TransferView) → ((d : ℕ) → cached d ≡ true → is_granted b t d ≡ false) → (k : Kept) → Knows b cached xs k
      → Knows b cached (flat b xs t cut).states (learn_by (access_of t) (flat b xs t cut).reply k)
  knows_leaves t none k h = by_access_of (access_of t) refl
    where
      stays : slice_get (flat b xs t cut).states k.device ≡ slice_get xs k.device
      stays = leaves-left b t cut k.device (none k.device h.is_cached) xs

      at_it : (a : Access) → access_of t ≡ Some a → is_at a k ≡ true → (o : Option Errno) → barred b t cut ≡ o
          → Knows b cached (flat b xs t cut).states (with_register k a.register (brought a.sent (flat b xs t cut).reply))
      at_it a e at None o =
          absurd (let f : true ≡ false = sym (open_granted b tree cached xs t cut a (access-is t a e) k h at o)
          ∙ none k.device h.is_cached in cc)
      at_it a e at (Some x) o =
          let nothing : brought a.sent (flat b xs t cut).reply ≡ None =
          ap (λ (z : FlatTold). brought a.sent z.reply) (barred_is b t cut x o xs) ∙ brought_error a.sent x in
          let reg = kept_register a.register (access-is t a e).kept in
          subst (λ (z : Option Pair). Knows b cached (flat b xs t cut).states (with_register k a.register z)) (sym nothing)
          (subst (λ (n : ℕ). Knows b cached (flat b xs t cut).states (with_register k n None)) (sym reg.1)
          (knows_put b cached xs (flat b xs t cut).states k h reg.0 None reg.2 (λ p bad. absurd (let f : None ≡ Some p = bad in cc))
          (λ q ne p held. held_same b xs (flat b xs t cut).states k.device h.v q p stays held)))

      by_at : (a : Access) → access_of t ≡ Some a → (z : Bool) → is_at a k ≡ z
          → Knows b cached (flat b xs t cut).states (cond z (with_register k a.register (brought a.sent (flat b xs t cut).reply)) k)
      by_at a e true at = at_it a e at (barred b t cut) refl
      by_at a e false at = knows_same b cached xs (flat b xs t cut).states k stays h

      by_access_of : (o : Option Access) → access_of t ≡ o
          → Knows b cached (flat b xs t cut).states (learn_by o (flat b xs t cut).reply k)
      by_access_of None e = knows_same b cached xs (flat b xs t cut).states k stays h
      by_access_of (Some a) e = by_at a e (is_at a k) refl

  knows_reads : (d : ℕ) (v : DeviceView) (r : SensorRegister) (is : cached d ≡ true) (at : slice_get b.devices d ≡ Some v)
      → (k : Kept) → Knows b cached xs k
      → Knows b cached (flat b xs (register_read v r) cut).states
      (learn_by (access_of (register_read v r)) (flat b xs (register_read v r) cut).reply k)
  knows_reads d v r is at k h =
      subst (λ (o : Option Access). Knows b cached (flat b xs (register_read v r) cut).states
      (learn_by o (flat b xs (register_read v r) cut).reply k))
      (sym (access_read v r)) (by_kept (is_kept (number_of r)) refl)
    where
      reads : Reading b v d (same.sensors d is).view r (flat b xs (register_read v r) cut)
      reads = read_reads b tree cached d v at is xs ys same r cut

      told : Reply
      told = (flat b xs (register_read v r) cut).reply

      after : Knows b cached (flat b xs (register_read v r) cut).states k
      after = knows_after_read d v r is at k h

      new : k.device ≡ d → h.v ≡ v → (p : Pair) → brought None (flat b xs (register_read v r) cut).reply ≡ Some p
          → IsHeld b (flat b xs (register_read v r) cut).states k.device h.v r p
      new e ev p told_is =
          elim reads.reply_is [
            | inl good ↦
                let pair_is : Some (record {
                  high = byte_of_word (word_of (same.sensors d is).view r) 0;
                  low =
                      byte_of_word (word_of (same.sensors d is).view r) 1;
                }) ≡ Some p =
                sym (ap (λ (z : Reply). brought None z) good.0) ∙ told_is in
                record {
                  view = record ((same.sensors d is).view) { phase = Idle; pointer = reads.p };
                  state = ap (λ (i : ℕ). slice_get (flat b xs (register_read v r) cut).states i) e ∙ reads.left;
                  bytes = ap (λ (w : ℕ). bytes_of w) (word_moved (same.sensors d is).view reads.p r) ∙ pair_bytes pair_is;
                  opens = subst (λ (z : DeviceView). IsOpen b z) (sym ev) good.1;
                }
            | inr bad ↦ absurd (let f : None ≡ Some p = sym (ap (λ (z : Reply). brought None z) bad.1) ∙ told_is in cc)
          ]
        where
          pair_bytes : Some (record {
            high = byte_of_word (word_of (same.sensors d is).view r) 0;
            low =
                byte_of_word (word_of (same.sensors d is).view r) 1;
          }) ≡ Some p
              → bytes_of (word_of (same.sensors d is).view r) ≡ p.high ∷ p.low ∷ []
          pair_bytes f = ap (λ (o : Option Pair). pair_list o) f

      by_at : (kept : is_kept (number_of r) ≡ true) (z : Bool)
          → is_at (record { bus = v.bus; addr = v.addr; register = number_of r; sent = None }) k ≡ z
          → Knows b cached (flat b xs (register_read v r) cut).states
          (cond z (with_register k (number_of r) (brought None (flat b xs (register_read v r) cut).reply)) k)
      by_at kept false e = after
      by_at kept true e =
          let places = at_place (record { bus = v.bus; addr = v.addr; register = number_of r; sent = None }) k e in
          let one : k.device ≡ d = same-place b tree k.device d h.v v h.at at (sym h.bus ∙ places.0) (sym h.addr ∙ places.1) in
          let ev : h.v ≡ v = (let f : Some h.v ≡ Some v = sym h.at ∙ ap (λ (i : ℕ). slice_get b.devices i) one ∙ at in cc) in
          knows_put b cached xs (flat b xs (register_read v r) cut).states k h r (brought None
          (flat b xs (register_read v r) cut).reply) kept
          (new one ev)
          (λ q ne p held. held_view b xs (flat b xs (register_read v r) cut).states k.device h.v q p (same.sensors d is).view
          (record ((same.sensors d is).view) { phase = Idle; pointer = reads.p })
          (ap (λ (i : ℕ). slice_get xs i) one ∙ (same.sensors d is).here)
          (ap (λ (i : ℕ). slice_get (flat b xs (register_read v r) cut).states i) one ∙ reads.left)
          (word_moved (same.sensors d is).view reads.p q) held)

      by_kept : (z : Bool) → is_kept (number_of r) ≡ z
          → Knows b cached (flat b xs (register_read v r) cut).states
          (learn_by (access_if z (record { bus = v.bus; addr = v.addr; register = number_of r; sent = None }))
          (flat b xs (register_read v r) cut).reply k)
      by_kept false e = after
      by_kept true e = by_at e (is_at (record { bus = v.bus; addr = v.addr; register = number_of r; sent = None }) k) refl

  -- a write of another device
  knows_other_write : (d : ℕ) (v : DeviceView) (r : SensorRegister) (high low : ℕ) (kept : is_kept (number_of r) ≡ true)
      (is : cached d ≡ true)
      (at : slice_get b.devices d ≡ Some v) → (k : Kept) → (k.device ≡ d → ⊥) → Knows b cached xs k
      → Knows b cached (flat b xs (register_write v r high low) cut).states k
  knows_other_write d v r high low kept is at k ne h =
      knows_same b cached xs (flat b xs (register_write v r high low) cut).states k
      (write_others b tree cached d v at is xs ys same r high low kept cut k.device ne) h

  knows_writes : (d : ℕ) (v : DeviceView) (r : SensorRegister) (high low : ℕ) (kept : is_kept (number_of r) ≡ true) (is : cached d ≡ true)
      (at : slice_get b.devices d ≡ Some v) → IsLowByte low → (k : Kept) → Knows b cached xs k
      → Knows b cached (flat b xs (register_write v r high low) cut).states
      (learn_by (access_of (register_write v r high low)) (flat b xs (register_write v r high low) cut).reply k)
  knows_writes d v r high low kept is at low_is k h =
      subst (λ (z : Bool). Knows b cached (flat b xs (register_write v r high low) cut).states
      (learn_by (access_if z (record {
        bus = v.bus;
        addr = v.addr;
        register = number_of r;
        sent =
            Some (record { high = high; low = low });
      }))
      (flat b xs (register_write v r high low) cut).reply k))
      (sym kept)
      (by_at (is_at (record { bus = v.bus; addr = v.addr; register = number_of r; sent = Some (record { high = high; low = low }) }) k)
      refl)
    where
      writes : Writing b v d (same.sensors d is).view r high low (flat b xs (register_write v r high low) cut)
      writes = write_writes b tree cached d v at is xs ys same r high low kept cut

      new : k.device ≡ d → h.v ≡ v → (p : Pair)
          → brought (Some (record { high = high; low = low })) (flat b xs (register_write v r high low) cut).reply ≡ Some p
          → IsHeld b (flat b xs (register_write v r high low) cut).states k.device h.v r p
      new e ev p told_is =
          elim writes.reply_is [
            | inl good ↦
                let pair_is : Some (record { high = high; low = low }) ≡ Some p =
                sym (ap (λ (z : Reply). brought (Some (record { high = high; low = low })) z) good.0) ∙ told_is in
                record {
                  view = with_word (record ((same.sensors d is).view) { phase = Idle; pointer = writes.p }) r writes.word;
                  state = ap (λ (i : ℕ). slice_get (flat b xs (register_write v r high low) cut).states i) e ∙ writes.left;
                  bytes = ap (λ (w : ℕ). bytes_of w)
                      (word_new (record ((same.sensors d is).view) { phase = Idle; pointer = writes.p }) r writes.word kept ∙ good.1)
                      ∙ bytes_written (word_of (same.sensors d is).view r) high low low_is ∙ pair_bytes pair_is;
                  opens = subst (λ (z : DeviceView). IsOpen b z) (sym ev) good.2;
                }
            | inr bad ↦ absurd (let f : None ≡ Some p =
                sym (ap (λ (z : Reply). brought (Some (record { high = high; low = low })) z) bad.1) ∙ told_is in cc)
          ]
        where
          pair_bytes : Some (record { high = high; low = low }) ≡ Some p → high ∷ low ∷ [] ≡ p.high ∷ p.low ∷ []
          pair_bytes f = ap (λ (o : Option Pair). pair_list o) f

      by_at : (z : Bool)
          → is_at (record { bus = v.bus; addr = v.addr; register = number_of r; sent = Some (record { high = high; low = low }) }) k ≡ z
          → Knows b cached (flat b xs (register_write v r high low) cut).states
          (cond z (with_register k (number_of r)
          (brought (Some (record { high = high; low = low })) (flat b xs (register_write v r high low) cut).reply)) k)
      by_at false e = knows_other_write d v r high low kept is at k apart h
        where
          apart : k.device ≡ d → ⊥
          apart one =
              let ev : h.v ≡ v = (let f : Some h.v ≡ Some v = sym h.at ∙ ap (λ (i : ℕ). slice_get b.devices i) one ∙ at in cc) in
              let f : true ≡ false =
              sym (ap (λ (z : Bool). z && eqb k.addr v.addr) (eq-eqb k.bus v.bus (h.bus ∙ ap (λ (z : DeviceView). z.bus) ev))
              ∙ eq-eqb k.addr v.addr (h.addr ∙ ap (λ (z : DeviceView). z.addr) ev)) ∙ e in
              absurd cc
      by_at true e =
          let places = at_place (record {
            bus = v.bus;
            addr = v.addr;
            register = number_of r;
            sent =
                Some (record { high = high; low = low });
          }) k e in
          let one : k.device ≡ d = same-place b tree k.device d h.v v h.at at (sym h.bus ∙ places.0) (sym h.addr ∙ places.1) in
          let ev : h.v ≡ v = (let f : Some h.v ≡ Some v = sym h.at ∙ ap (λ (i : ℕ). slice_get b.devices i) one ∙ at in cc) in
          knows_put b cached xs (flat b xs (register_write v r high low) cut).states k h r
          (brought (Some (record { high = high; low = low })) (flat b xs (register_write v r high low) cut).reply) kept
          (new one ev)
          (λ q ne p held. held_view b xs (flat b xs (register_write v r high low) cut).states k.device h.v q p (same.sensors d is).view
          (with_word (record ((same.sensors d is).view) { phase = Idle; pointer = writes.p }) r writes.word)
          (ap (λ (i : ℕ). slice_get xs i) one ∙ (same.sensors d is).here)
          (ap (λ (i : ℕ). slice_get (flat b xs (register_write v r high low) cut).states i) one ∙ writes.left)
          (word_else (same.sensors d is).view writes.p r q writes.word ne) held)

  -- A TRANSFER, and all that a caller keeps
  abbrev pub KnowsAll : List TargetState → List Kept → Type 0
  KnowsAll zs ks = AllByRecursion (Knows b cached zs) ks

  all_own : (t : TransferView) → ((k : Kept) → Knows b cached xs k → Knows b cached (flat b xs t cut).states
      (learn_by (access_of t) (flat b xs t cut).reply k))
      → (ks : List Kept) → KnowsAll xs ks → KnowsAll (flat b xs t cut).states (learned ks (Some t) (flat b xs t cut).reply)
  all_own t each ks all = by (access_of t) each ks all
    where
      by : (o : Option Access) → ((k : Kept) → Knows b cached xs k → Knows b cached (flat b xs t cut).states
          (learn_by o (flat b xs t cut).reply k))
          → (js : List Kept) → KnowsAll xs js → KnowsAll (flat b xs t cut).states (learned_by o (flat b xs t cut).reply js)
      by None step [] h = tt
      by None step (j ∷ js) h = (step j h.0, by None step js h.1)
      by (Some a) step [] h = tt
      by (Some a) step (j ∷ js) h = (step j h.0, by (Some a) step js h.1)

  all_other : (zs : List TargetState) (ks : List Kept) → ((k : Kept) → list_any (λ (j : Kept). eqb j.device k.device) ks ≡ true
      → Knows b cached xs k → Knows b cached zs k)
      → KnowsAll xs ks → KnowsAll zs ks
  all_other zs [] each h = tt
  all_other zs (k ∷ ks) each h = (
    each k (ap (λ (z : Bool). z || list_any (λ (j : Kept). eqb j.device k.device) ks) (eq-eqb k.device k.device refl)) h.0,
    all_other zs ks (λ j there is. each j (ap (λ (z : Bool). eqb k.device j.device || z) there ∙ or-true (eqb k.device j.device)) is) h.1,
  )

  -- what its caller knows after it is so
  pub knows-own : (c : ℕ) (t : TransferView) → IsHarmless b callers cached c t → (ks : List Kept) → KnowsAll xs ks
      → KnowsAll (flat b xs t cut).states (learned ks (Some t) (flat b xs t cut).reply)
  knows-own c t (Leaves none) ks all = all_own t (knows_leaves t none) ks all
  knows-own c t (Reads d v r is at e) ks all =
      subst (λ (z : TransferView). KnowsAll (flat b xs z cut).states (learned ks (Some z) (flat b xs z cut).reply)) (sym e)
      (all_own (register_read v r) (knows_reads d v r is at) ks all)
  knows-own c t (Writes d v r high low is at e kept low_is only) ks all =
      subst (λ (z : TransferView). KnowsAll (flat b xs z cut).states (learned ks (Some z) (flat b xs z cut).reply)) (sym e)
      (all_own (register_write v r high low) (knows_writes d v r high low kept is at low_is) ks all)

  -- and what others know stays so, of the devices that they keep
  pub knows-other : (c e : ℕ) → (e ≡ c → ⊥) → (t : TransferView) → IsHarmless b callers cached c t → (ks : List Kept)
      → ((d : ℕ) → list_any (λ (j : Kept). eqb j.device d) ks ≡ true → is_kept_by (callers e).kept d ≡ true)
      → KnowsAll xs ks → KnowsAll (flat b xs t cut).states ks
  knows-other c e ne t (Leaves none) ks from all =
      all_other (flat b xs t cut).states ks
      (λ k there h. knows_same b cached xs (flat b xs t cut).states k (leaves-left b t cut k.device (none k.device h.is_cached) xs) h) all
  knows-other c e ne t (Reads d v r is at f) ks from all =
      subst (λ (z : TransferView). KnowsAll (flat b xs z cut).states ks) (sym f)
      (all_other (flat b xs (register_read v r) cut).states ks (λ k there h. knows_after_read d v r is at k h) all)
  knows-other c e ne t (Writes d v r high low is at f kept low_is only) ks from all =
      subst (λ (z : TransferView). KnowsAll (flat b xs z cut).states ks) (sym f)
      (all_other (flat b xs (register_write v r high low) cut).states ks
      (λ k there h. knows_other_write d v r high low kept is at k
      (λ same_device. (let g : true ≡ false =
      sym (from k.device there) ∙ ap (λ (i : ℕ). is_kept_by (callers e).kept i) same_device ∙ only e ne in absurd cc)) h) all)

  -- both worlds do the same
  pub steps-alike : (c : ℕ) (t : TransferView) → IsHarmless b callers cached c t → StepsAlike cached (flat b xs t cut) (flat b ys t cut)
  steps-alike c t (Leaves none) = leaves-alike b cached t cut none xs ys same
  steps-alike c t (Reads d v r is at e) =
      subst (λ (z : TransferView). StepsAlike cached (flat b xs z cut) (flat b ys z cut)) (sym e)
      (read_steps b tree cached d v at is xs ys same r cut)
  steps-alike c t (Writes d v r high low is at e kept low_is only) =
      subst (λ (z : TransferView). StepsAlike cached (flat b xs z cut) (flat b ys z cut)) (sym e)
      (write_steps b tree cached d v at is xs ys same r high low kept cut)

-- A HIT
-- the device that tells it
pair_from : (b : BoardView) (cached : ℕ → Bool) (xs : List TargetState) (a : Access) (p : Pair) (ks : List Kept)
    → AllByRecursion (Knows b cached xs) ks → pair_at ks a ≡ Some p
    → (k : Kept) × Knows b cached xs k × (is_at a k ≡ true) × (register_of k a.register ≡ Some p)
pair_from b cached xs a p [] all e = absurd (let f : None ≡ Some p = e in cc)
pair_from b cached xs a p (k ∷ ks) all e = by (is_at a k) refl (pair_from b cached xs a p ks all.1)
  where
    by : (z : Bool) → is_at a k ≡ z
        → (pair_at ks a ≡ Some p → (j : Kept) × Knows b cached xs j × (is_at a j ≡ true) × (register_of j a.register ≡ Some p))
        → (j : Kept) × Knows b cached xs j × (is_at a j ≡ true) × (register_of j a.register ≡ Some p)
    by true at more = (k, all.0, at, sym (ap (λ (z : Bool). cond z (register_of k a.register) (pair_at ks a)) at) ∙ e)
    by false at more = more (sym (ap (λ (z : Bool). cond z (register_of k a.register) (pair_at ks a)) at) ∙ e)

register_held : (b : BoardView) (cached : ℕ → Bool) (xs : List TargetState) (k : Kept) (h : Knows b cached xs k) (r : SensorRegister)
    (p : Pair)
    → is_kept (number_of r) ≡ true → register_of k (number_of r) ≡ Some p → IsHeld b xs k.device h.v r p
register_held b cached xs k h Temperature p kept e = absurd (let f : false ≡ true = kept in cc)
register_held b cached xs k h Hysteresis p kept e = h.hysteresis p e
register_held b cached xs k h Limit p kept e = h.limit p e

-- it is a driver's read of a register, whose bytes are the reply
pub record IsRead (b : BoardView) (cached : ℕ → Bool) (xs : List TargetState) (t : TransferView) (answer : Reply) : Type 0 where
  pub d : ℕ
  pub v : DeviceView
  pub r : SensorRegister
  pub is_cached : cached d ≡ true
  pub at : slice_get b.devices d ≡ Some v
  pub transfer : t ≡ register_read v r
  pub opens : IsOpen b v
  pub view : Lm75View
  pub state : slice_get xs d ≡ Some (Lm75 view)
  pub answer_is : answer ≡ reply.Read (bytes_of (word_of view r))

number_same : (r q : SensorRegister) → number_of r ≡ number_of q → r ≡ q
number_same Temperature Temperature e = refl
number_same Temperature Hysteresis e = absurd (omega (arith, e))
number_same Temperature Limit e = absurd (omega (arith, e))
number_same Hysteresis Temperature e = absurd (omega (arith, e))
number_same Hysteresis Hysteresis e = refl
number_same Hysteresis Limit e = absurd (omega (arith, e))
number_same Limit Temperature e = absurd (omega (arith, e))
number_same Limit Hysteresis e = absurd (omega (arith, e))
number_same Limit Limit e = refl

pub hit_parts : (ks : List Kept) (o : Option Access) (answer : Reply) → hit_by ks o ≡ Some answer
    → (a : Access) × (p : Pair) × (o ≡ Some a) × (a.sent ≡ None) × (pair_at ks a ≡ Some p) × (answer ≡ reply_of p)
hit_parts ks None answer e = absurd (let f : None ≡ Some answer = e in cc)
hit_parts ks (Some a) answer e = by a.sent refl (pair_at ks a) refl
  where
    by : (s : Option Pair) → a.sent ≡ s → (o : Option Pair) → pair_at ks a ≡ o
        → (x : Access) × (p : Pair) × (Some a ≡ Some x) × (x.sent ≡ None) × (pair_at ks x ≡ Some p) × (answer ≡ reply_of p)
    by (Some q) f o g =
        absurd (let h : None ≡ Some answer = sym (ap (λ (z : Option Pair). cond (is_some z) None (option_map reply_of (pair_at ks a))) f)
        ∙ e in cc)
    by None f None g =
        absurd (let h : None ≡ Some answer = sym (ap (λ (z : Option Pair). cond (is_some z) None (option_map reply_of (pair_at ks a))) f
        ∙ ap (λ (z : Option Pair). option_map reply_of z) g) ∙ e in cc)
    by None f (Some p) g = (
      a,
      p,
      refl,
      f,
      g,
      (let h : Some (reply_of p) ≡ Some answer = sym (ap (λ (z : Option Pair). cond (is_some z) None (option_map reply_of (pair_at ks a))) f
          ∙ ap (λ (z : Option Pair). option_map reply_of z) g) ∙ e in cc),
    )

pub hit-is : (b : BoardView) → IsTree b → (callers : ℕ → Cached) (cached : ℕ → Bool) (xs : List TargetState) (c : ℕ) (t : TransferView)
    → IsHarmless b callers cached c t → (ks : List Kept) → AllByRecursion (Knows b cached xs) ks → (answer : Reply)
    → hit ks (Some t) ≡ Some answer → IsRead b cached xs t answer
hit-is b tree callers cached xs c t harmless ks all answer e = by harmless
  where
    parts : (a : Access) × (p : Pair) × (access_of t ≡ Some a) × (a.sent ≡ None) × (pair_at ks a ≡ Some p) × (answer ≡ reply_of p)
    parts = hit_parts ks (access_of t) answer e

    from : (k : Kept) × Knows b cached xs k × (is_at parts.0 k ≡ true) × (register_of k parts.0.register ≡ Some parts.1)
    from = pair_from b cached xs parts.0 parts.1 ks all parts.4

    is : IsAccess t parts.0
    is = access-is t parts.0 parts.2

    reg : (r : SensorRegister) × (parts.0.register ≡ number_of r) × (is_kept (number_of r) ≡ true)
    reg = kept_register parts.0.register is.kept

    held : IsHeld b xs from.0.device from.1.v reg.0 parts.1
    held = register_held b cached xs from.0 from.1 reg.0 parts.1 reg.2 (ap (λ (n : ℕ). register_of from.0 n) (sym reg.1) ∙ from.3)

    through : GoesThrough b from.0.device from.1.v
    through = read-goes b tree from.0.device from.1.v Hysteresis cut_at.No from.1.at held.opens

    granted : is_granted b t from.0.device ≡ true
    granted = place_granted b t parts.0 is from.0 from.1.v from.1.bus from.1.addr from.2 through.granted

    places : (from.0.bus ≡ parts.0.bus) × (from.0.addr ≡ parts.0.addr)
    places = at_place parts.0 from.0 from.2

    by : IsHarmless b callers cached c t → IsRead b cached xs t answer
    by (Leaves none) = absurd (let f : true ≡ false = sym granted ∙ none from.0.device from.1.is_cached in cc)
    by (Reads d v r is_cached at same_t) =
        let access_is : access_if (is_kept (number_of r)) (record { bus = v.bus; addr = v.addr; register = number_of r; sent = None })
        ≡ Some parts.0 =
        sym (access_read v r) ∙ ap (λ (z : TransferView). access_of z) (sym same_t) ∙ parts.2 in
        let h = if_access (is_kept (number_of r)) (record { bus = v.bus; addr = v.addr; register = number_of r; sent = None }) parts.0
        access_is in
        let one : from.0.device ≡ d =
        same-place b tree from.0.device d from.1.v v from.1.at at
        (sym from.1.bus ∙ places.0 ∙ sym (ap (λ (z : Access). z.bus) h.1)) (sym from.1.addr ∙ places.1
        ∙ sym (ap (λ (z : Access). z.addr) h.1)) in
        let ev : from.1.v ≡ v = (let f : Some from.1.v ≡ Some v = sym from.1.at ∙ ap (λ (i : ℕ). slice_get b.devices i) one ∙ at in cc) in
        let er : reg.0 ≡ r = number_same reg.0 r (sym reg.1 ∙ sym (ap (λ (z : Access). z.register) h.1)) in
        record {
          d = d;
          v = v;
          r = r;
          is_cached = is_cached;
          at = at;
          transfer = same_t;
          opens = subst (λ (z : DeviceView). IsOpen b z) ev held.opens;
          view = held.view;
          state = ap (λ (i : ℕ). slice_get xs i) (sym one) ∙ held.state;
          answer_is = parts.5 ∙ ap (λ (bytes : List ℕ). reply.Read bytes) (sym held.bytes)
              ∙ ap (λ (q : SensorRegister). reply.Read (bytes_of (word_of held.view q))) er;
        }
    by (Writes d v r high low is_cached at same_t kept low_is only) =
        absurd (let access_is : access_if (is_kept (number_of r))
        (record { bus = v.bus; addr = v.addr; register = number_of r; sent = Some (record { high = high; low = low }) }) ≡ Some parts.0 =
        ap (λ (z : TransferView). access_of z) (sym same_t) ∙ parts.2 in
        let h = if_access (is_kept (number_of r))
        (record { bus = v.bus; addr = v.addr; register = number_of r; sent = Some (record { high = high; low = low }) }) parts.0
        access_is in
        let f : Some (record { high = high; low = low }) ≡ None = ap (λ (z : Access). z.sent) h.1 ∙ parts.3 in cc)

-- what is known after a hit is what was: the registers have it
pub hit-knows : (b : BoardView) → IsTree b → (cached : ℕ → Bool) (xs : List TargetState) (d : ℕ) (v : DeviceView) (r : SensorRegister)
    → cached d ≡ true → slice_get b.devices d ≡ Some v → IsOpen b v → (x : Lm75View) → slice_get xs d ≡ Some (Lm75 x)
    → (ks : List Kept) → AllByRecursion (Knows b cached xs) ks
    → AllByRecursion (Knows b cached xs) (learned ks (Some (register_read v r)) (reply.Read (bytes_of (word_of x r))))
hit-knows b tree cached xs d v r is at opens x state ks all =
    subst (λ (o : Option Access). AllByRecursion (Knows b cached xs) (learned_by o (reply.Read (bytes_of (word_of x r))) ks))
    (sym (access_read v r))
    (by_kept (is_kept (number_of r)) refl ks all)
  where
    new : (k : Kept) (h : Knows b cached xs k) → k.device ≡ d → h.v ≡ v → (p : Pair)
        → brought None (reply.Read (bytes_of (word_of x r))) ≡ Some p → IsHeld b xs k.device h.v r p
    new k h e ev p told_is =
        record {
          view = x;
          state = ap (λ (i : ℕ). slice_get xs i) e ∙ state;
          bytes = ap (λ (o : Option Pair). pair_list o) told_is;
          opens = subst (λ (z : DeviceView). IsOpen b z) (sym ev) opens;
        }

    by_at : (kept : is_kept (number_of r) ≡ true) (k : Kept) (h : Knows b cached xs k) (z : Bool)
        → is_at (record { bus = v.bus; addr = v.addr; register = number_of r; sent = None }) k ≡ z
        → Knows b cached xs (cond z (with_register k (number_of r) (brought None (reply.Read (bytes_of (word_of x r))))) k)
    by_at kept k h false e = h
    by_at kept k h true e =
        let places = at_place (record { bus = v.bus; addr = v.addr; register = number_of r; sent = None }) k e in
        let one : k.device ≡ d = same-place b tree k.device d h.v v h.at at (sym h.bus ∙ places.0) (sym h.addr ∙ places.1) in
        let ev : h.v ≡ v = (let f : Some h.v ≡ Some v = sym h.at ∙ ap (λ (i : ℕ). slice_get b.devices i) one ∙ at in cc) in
        knows_put b cached xs xs k h r (brought None (reply.Read (bytes_of (word_of x r)))) kept (new k h one ev) (λ q ne p held. held)

    all_at : (kept : is_kept (number_of r) ≡ true) (js : List Kept) → AllByRecursion (Knows b cached xs) js
        → AllByRecursion (Knows b cached xs)
        (map (learn_at (record { bus = v.bus; addr = v.addr; register = number_of r; sent = None })
        (reply.Read (bytes_of (word_of x r)))) js)
    all_at kept [] h = tt
    all_at kept (j ∷ js) h =
        (by_at kept j h.0 (is_at (record { bus = v.bus; addr = v.addr; register = number_of r; sent = None }) j) refl, all_at kept js h.1)

    by_kept : (z : Bool) → is_kept (number_of r) ≡ z → (js : List Kept) → AllByRecursion (Knows b cached xs) js
        → AllByRecursion (Knows b cached xs)
        (learned_by (access_if z (record { bus = v.bus; addr = v.addr; register = number_of r; sent = None }))
        (reply.Read (bytes_of (word_of x r))) js)
    by_kept false e js h = h
    by_kept true e js h = all_at e js h
