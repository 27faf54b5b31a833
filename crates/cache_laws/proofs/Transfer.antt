-- One transfer in two flat worlds that are the same but for the pointers of sensors: the same reply, and the same but for pointers
-- again. One law for each kind of harmless transfer.
use Rattle.std.proofs.Common.{◌≡◌, ℕ, Bool, true, false, ◌||◌, ◌⊎◌, inl, inr, List, [], ◌∷◌, Option, Some, None, eqb, refl, sym, ◌∙◌, ap}
use Rattle.std.proofs.Common.{subst}
use Rattle.std.proofs.lemmas.Bool.{eqb-true, eq-eqb, or_parts}
use Rattle.std.specs.Prelude.{slice_get}
use Rattle.std.specs.List.{AllByRecursion, list_any}
use Rattle.i2c_base.specs.declared.entry.End.{End}
use Rattle.i2c_base.specs.declared.entry.End.TheVariants as end
use Rattle.i2c_base.specs.declared.errno.Errno.{Errno}
use Rattle.i2c_base.specs.declared.errno.Errno.TheVariants as errno
use Rattle.i2c_base.specs.declared.reply.Reply.{Reply}
use Rattle.i2c_base.specs.declared.reply.Reply.TheVariants as reply
use Rattle.i2c_base.specs.declared.reply.Cut.{Cut}
use Rattle.i2c_base.specs.declared.reply.Cut.TheVariants as cut_at
use Rattle.i2c_base.specs.declared.transfer.Msg.{Msg}
use Rattle.i2c_base.specs.Board.{BoardView, DeviceView}
use Rattle.i2c_base.specs.Transfer.{TransferView}
use Rattle.i2c_spec.specs.TreeFacts.{IsTree}
use Rattle.i2c_spec.specs.Targets.Lm75Device.{Lm75View, Lm75Phase, Idle, with_high, with_low}
use Rattle.i2c_spec.specs.Targets.{TargetState, Lm75}
use Rattle.i2c_spec.specs.Messages.{messages_of}
use Rattle.i2c_spec.specs.Flat.{FlatTold, granted_on, block_limit, cut_in, errno_of, or_done, barred, flat_by, flat_told, flat_messages}
use Rattle.i2c_spec.specs.Flat.{flat}
use Rattle.i2c_spec.specs.Conversation.{is_it, talk_all, is_good}
use Rattle.i2c_spec.proofs.MessageLemmas.{is_it-at}
use Rattle.cache_laws.specs.Cache.{is_kept}
use Rattle.cache_laws.specs.Order.{SensorRegister, Temperature, Hysteresis, Limit, number_of, register_read, register_write, is_granted}
use Rattle.cache_laws.specs.Order.{SameSensor, SameButPointers}
use Rattle.cache_laws.proofs.One.{one_listener, alone, read_messages, write_messages, word_of, with_word, bytes_of, HasRead, HasWritten}
use Rattle.cache_laws.proofs.One.{read-facts, read-whole, write-facts}
use Rattle.bus_laws.proofs.device.Alike.{AllAlike}
use Rattle.cache_laws.proofs.Alike.{IsBeside, flat_all-alike, all-unnamed, all-beside, all-messages, none-all}
use Rattle.cache_laws.proofs.Gate.{IsOpen, GoesThrough, read-goes, write-goes}

-- what both worlds come to
pub record StepsAlike (cached : ℕ → Bool) (x y : FlatTold) : Type 0 where
  pub reply_is : x.reply ≡ y.reply
  pub states : SameButPointers cached x.states y.states

-- ---- a transfer that is granted no sensor
own_messages : (cached : ℕ → Bool) (granted : ℕ → Option ℕ) (ms : List Msg)
    → ((d : ℕ) → cached d ≡ true → list_any (λ (m : Msg). is_it (granted m.addr) d) ms ≡ false)
    → AllByRecursion (λ (m : Msg). (d : ℕ) → granted m.addr ≡ Some d → cached d ≡ false) ms
own_messages cached granted [] none = tt
own_messages cached granted (m ∷ ms) none = (
  (λ d e. by d e (cached d) refl),
  own_messages cached granted ms (λ d k. (or_parts (is_it (granted m.addr) d) (list_any (λ (z : Msg). is_it (granted z.addr) d) ms) (none d
      k)).1),
)
  where
    by : (d : ℕ) → granted m.addr ≡ Some d → (t : Bool) → cached d ≡ t → cached d ≡ false
    by d e false k = k
    by d e true k =
        absurd (let here : is_it (granted m.addr) d ≡ false =
        (or_parts (is_it (granted m.addr) d) (list_any (λ (z : Msg). is_it (granted z.addr) d) ms) (none d k)).0 in
        let it : is_it (granted m.addr) d ≡ true = is_it-at (granted m.addr) d e in
        let f : true ≡ false = sym it ∙ here in cc)

pub leaves-left : (b : BoardView) (t : TransferView) (cut : Cut) (d : ℕ) → is_granted b t d ≡ false → (xs : List TargetState)
    → slice_get (flat b xs t cut).states d ≡ slice_get xs d
leaves-left b t cut d none xs = by (barred b t cut)
  where
    by : (o : Option Errno) → slice_get (flat_by b xs t cut o).states d ≡ slice_get xs d
    by (Some e) = refl
    by None =
        all-unnamed (granted_on b t.bus t.force) (block_limit b) d xs (messages_of t) (cut_in cut)
        (all-messages (λ (a : ℕ). is_it (granted_on b t.bus t.force a) d ≡ false) t.msgs t.out
        (none-all (λ (m : Msg). is_it (granted_on b t.bus t.force m.addr) d) t.msgs none))

-- a sensor stays the same where neither world changes it
same_stays : (x y x2 y2 : Option TargetState) → x2 ≡ x → y2 ≡ y → SameSensor x y → SameSensor x2 y2
same_stays x y x2 y2 e f s =
    record { view = s.view; rests = s.rests; here = e ∙ s.here; pointer = s.pointer; there = f ∙ s.there }

pub leaves-alike : (b : BoardView) (cached : ℕ → Bool) (t : TransferView) (cut : Cut)
    → ((d : ℕ) → cached d ≡ true → is_granted b t d ≡ false)
    → (xs ys : List TargetState) → SameButPointers cached xs ys → StepsAlike cached (flat b xs t cut) (flat b ys t cut)
leaves-alike b cached t cut none xs ys same =
    record {
      reply_is = (by (barred b t cut)).0;
      states = record {
        others = (by (barred b t cut)).1;
        sensors = λ d k. same_stays (slice_get xs d) (slice_get ys d) (slice_get (flat b xs t cut).states d)
            (slice_get (flat b ys t cut).states d)
            (leaves-left b t cut d (none d k) xs) (leaves-left b t cut d (none d k) ys) (same.sensors d k);
      };
    }
  where
    by : (o : Option Errno) → ((flat_by b xs t cut o).reply ≡ (flat_by b ys t cut o).reply)
        × ((d : ℕ) → cached d ≡ false → slice_get (flat_by b xs t cut o).states d ≡ slice_get (flat_by b ys t cut o).states d)
    by (Some e) = (refl, same.others)
    by None =
        let alike = flat_all-alike (λ (d : ℕ). cached d ≡ false) (granted_on b t.bus t.force) (block_limit b) xs ys (messages_of t)
        (cut_in cut)
        (all-messages (λ (a : ℕ). (d : ℕ) → granted_on b t.bus t.force a ≡ Some d → cached d ≡ false) t.msgs t.out
        (own_messages cached (granted_on b t.bus t.force) t.msgs none)) same.others in (
          ap (λ z. or_done (errno_of z) t (flat_messages b xs t cut).bytes) alike.end
              ∙ ap (λ (bytes : List ℕ). or_done (errno_of (flat_messages b ys t cut).end) t bytes) alike.bytes,
          alike.now.states,
        )

-- ---- a transfer of a sensor's driver
-- how a transfer ended: it went through, or there is an error
ends_or : (e : End) → (e ≡ end.Ok) ⊎ ((x : Errno) × (errno_of e ≡ Some x))
ends_or end.Ok = inl refl
ends_or end.Nack = inr (errno.Enxio, refl)
ends_or end.Slow = inr (errno.Etimedout, refl)
ends_or end.Refused = inr (errno.Eio, refl)
ends_or end.Proto = inr (errno.Eproto, refl)
ends_or (end.Cut q) = inr (errno.Eremoteio, refl)

-- a sensor at rest
rested_is : (x : Lm75View) → x.phase ≡ Idle → x ≡ record x { phase = Idle }
rested_is x rests = ap (λ (p : Lm75Phase). record x { phase = p }) rests

abbrev pub IsError : Reply → Type 0
IsError r = (e : Errno) × (r ≡ reply.Err e)

-- what a word in a register leaves
phase_with : (x : Lm75View) (r : SensorRegister) (w : ℕ) → (with_word x r w).phase ≡ x.phase
phase_with x Temperature w = refl
phase_with x Hysteresis w = refl
phase_with x Limit w = refl

pointer_with : (x : Lm75View) (r : SensorRegister) (w q : ℕ)
    → with_word (record x { pointer = q }) r w ≡ record (with_word x r w) { pointer = q }
pointer_with x Temperature w q = refl
pointer_with x Hysteresis w q = refl
pointer_with x Limit w q = refl

with_own : (x : Lm75View) (r : SensorRegister) → with_word x r (word_of x r) ≡ x
with_own x Temperature = refl
with_own x Hysteresis = refl
with_own x Limit = refl

-- what a driver's read of register r does in one world, whose sensor is x: the registers are as they were, and the reply is what
-- the register has, or an error
pub record Reading (b : BoardView) (v : DeviceView) (d : ℕ) (x : Lm75View) (r : SensorRegister) (told : FlatTold) : Type 0 where
  pub p : ℕ
  pub left : slice_get told.states d ≡ Some (Lm75 (record x { phase = Idle; pointer = p }))
  pub reply_is : ((told.reply ≡ reply.Read (bytes_of (word_of x r))) × IsOpen b v) ⊎ IsError told.reply

-- .. and what a write does: its word is in the register, if it went through; else some word is, and the reply is an error
pub record Writing (b : BoardView) (v : DeviceView) (d : ℕ) (x : Lm75View) (r : SensorRegister) (high low : ℕ) (told : FlatTold)
    : Type 0 where
  pub p : ℕ
  pub word : ℕ
  pub left : slice_get told.states d ≡ Some (Lm75 (with_word (record x { phase = Idle; pointer = p }) r word))
  pub reply_is : ((told.reply ≡ reply.Done) × (word ≡ with_low (with_high (word_of x r) high) low) × IsOpen b v) ⊎ IsError told.reply

-- a transfer that is barred does nothing
pub barred_is : (b : BoardView) (t : TransferView) (cut : Cut) (e : Errno) → barred b t cut ≡ Some e → (xs : List TargetState)
    → flat b xs t cut ≡ record { reply = reply.Err e; states = xs }
barred_is b t cut e is xs = ap (λ (o : Option Errno). flat_by b xs t cut o) is

barred_steps : (b : BoardView) (cached : ℕ → Bool) (t : TransferView) (cut : Cut) (e : Errno) → barred b t cut ≡ Some e
    → (xs ys : List TargetState) → SameButPointers cached xs ys → StepsAlike cached (flat b xs t cut) (flat b ys t cut)
barred_steps b cached t cut e is xs ys same =
    subst (λ (z : FlatTold). StepsAlike cached z (flat b ys t cut)) (sym (barred_is b t cut e is xs))
    (subst (λ (z : FlatTold). StepsAlike cached (record { reply = reply.Err e; states = xs }) z) (sym (barred_is b t cut e is ys))
    (record { reply_is = refl; states = same }))

module _ (b : BoardView) (tree : IsTree b) (cached : ℕ → Bool) (d : ℕ) (v : DeviceView) (at : slice_get b.devices d ≡ Some v)
    (is_cached : cached d ≡ true) (xs ys : List TargetState) (same : SameButPointers cached xs ys) where
  abbrev s : SameSensor (slice_get xs d) (slice_get ys d)
  s = same.sensors d is_cached

  here : slice_get xs d ≡ Some (Lm75 (record (s.view) { phase = Idle }))
  here = s.here ∙ ap (λ (x : Lm75View). Some (Lm75 x)) (rested_is s.view s.rests)

  there : slice_get ys d ≡ Some (Lm75 (record (s.view) { phase = Idle; pointer = s.pointer }))
  there = s.there ∙ ap (λ (x : Lm75View). Some (Lm75 (record x { pointer = s.pointer }))) (rested_is s.view s.rests)

  -- no other device is touched
  module _ (t : TransferView) (cut : Cut) (other : (k : ℕ) → (k ≡ d → ⊥) → is_granted b t k ≡ false) where
    others_left : (k : ℕ) → (k ≡ d → ⊥) → (zs : List TargetState) → slice_get (flat b zs t cut).states k ≡ slice_get zs k
    others_left k ne zs = leaves-left b t cut k (other k ne) zs

    -- so the two are the same where the sensor is
    all_same : SameSensor (slice_get (flat b xs t cut).states d) (slice_get (flat b ys t cut).states d)
        → SameButPointers cached (flat b xs t cut).states (flat b ys t cut).states
    all_same sensor =
        record {
          others = λ k no. (
              let ne : k ≡ d → ⊥ = λ e. (let f : true ≡ false = sym is_cached ∙ ap cached (sym e) ∙ no in absurd cc) in
              others_left k ne xs ∙ same.others k no ∙ sym (others_left k ne ys));
          sensors = λ k is. by k (eqb k d) refl is;
        }
      where
        by : (k : ℕ) (z : Bool) → eqb k d ≡ z → cached k ≡ true
            → SameSensor (slice_get (flat b xs t cut).states k) (slice_get (flat b ys t cut).states k)
        by k true e is =
            subst (λ (i : ℕ). SameSensor (slice_get (flat b xs t cut).states i) (slice_get (flat b ys t cut).states i))
            (sym (eqb-true k d e)) sensor
        by k false e is =
            let ne : k ≡ d → ⊥ = λ f. (let g : true ≡ false = sym (eq-eqb k d f) ∙ e in absurd cc) in
            same_stays (slice_get xs k) (slice_get ys k) (slice_get (flat b xs t cut).states k) (slice_get (flat b ys t cut).states k)
            (others_left k ne xs) (others_left k ne ys) (same.sensors k is)

  by_apart : (k : ℕ) → (k ≡ d → ⊥) → eqb d k ≡ false
  by_apart k ne = by (eqb d k) refl
    where
      by : (z : Bool) → eqb d k ≡ z → z ≡ false
      by true e = absurd (ne (sym (eqb-true d k e)))
      by false e = refl

  -- what both come to where it isn't barred: nothing but the sensor is granted, and its conversations are alike
  module _ (t : TransferView) (cut : Cut) (other : barred b t cut ≡ None → (k : ℕ) → (k ≡ d → ⊥) → is_granted b t k ≡ false) where
    told_is : barred b t cut ≡ None → (zs : List TargetState) → flat b zs t cut ≡ flat_told t (flat_messages b zs t cut)
    told_is none zs = ap (λ (o : Option Errno). flat_by b zs t cut o) none

    granted_steps : (barred b t cut ≡ None → ((flat_messages b xs t cut).end ≡ (flat_messages b ys t cut).end)
        × ((flat_messages b xs t cut).bytes ≡ (flat_messages b ys t cut).bytes)
        × SameSensor (slice_get (flat_told t (flat_messages b xs t cut)).states d)
        (slice_get (flat_told t (flat_messages b ys t cut)).states d))
        → StepsAlike cached (flat b xs t cut) (flat b ys t cut)
    granted_steps alike = by (barred b t cut) refl
      where
        by : (o : Option Errno) → barred b t cut ≡ o → StepsAlike cached (flat b xs t cut) (flat b ys t cut)
        by (Some e) is = barred_steps b cached t cut e is xs ys same
        by None is =
            record {
              reply_is = ap (λ (z : FlatTold). z.reply) (told_is is xs)
                  ∙ ap (λ z. or_done (errno_of z) t (flat_messages b xs t cut).bytes) (alike is).0
                  ∙ ap (λ (bytes : List ℕ). or_done (errno_of (flat_messages b ys t cut).end) t bytes) (alike is).1
                  ∙ sym (ap (λ (z : FlatTold). z.reply) (told_is is ys));
              states = all_same t cut (other is)
                  (subst (λ (z : FlatTold). SameSensor (slice_get z.states d) (slice_get (flat b ys t cut).states d)) (sym (told_is is xs))
                  (subst (λ (z : FlatTold). SameSensor (slice_get (flat_told t (flat_messages b xs t cut)).states d) (slice_get z.states d))
                  (sym (told_is is ys)) (alike is).2));
            }

    -- another device is as it was
    granted_others : (k : ℕ) → (k ≡ d → ⊥) → slice_get (flat b xs t cut).states k ≡ slice_get xs k
    granted_others k ne = by (barred b t cut) refl
      where
        by : (o : Option Errno) → barred b t cut ≡ o → slice_get (flat b xs t cut).states k ≡ slice_get xs k
        by (Some e) is = ap (λ (z : FlatTold). slice_get z.states k) (barred_is b t cut e is xs)
        by None is = leaves-left b t cut k (other is k ne) xs

  module _ (r : SensorRegister) (cut : Cut) where
    abbrev t : TransferView
    t = register_read v r

    read_other : GoesThrough b d v → (k : ℕ) → (k ≡ d → ⊥) → is_granted b t k ≡ false
    read_other g k ne =
        ap (λ (o : Option ℕ). is_it o k || (is_it o k || false)) g.granted
        ∙ ap (λ (z : Bool). z || (z || false)) (by_apart k ne)

    module _ (none : barred b t cut ≡ None) where
      goes : GoesThrough b d v
      goes = read-goes b tree d v r cut at none

      facts : HasRead s.view r
          (talk_all one_listener (block_limit b) (alone (record (s.view) { phase = Idle })) (read_messages v.addr (number_of r)) 0
          (cut_in cut) [])
          (talk_all one_listener (block_limit b) (alone (record (s.view) { phase = Idle; pointer = s.pointer }))
          (read_messages v.addr (number_of r)) 0 (cut_in cut) [])
      facts = read-facts s.view v.addr s.pointer (block_limit b) r (cut_in cut)

      beside_here : AllAlike (IsBeside d) (flat_messages b xs t cut)
          (talk_all one_listener (block_limit b) (alone (record (s.view) { phase = Idle })) (read_messages v.addr (number_of r)) 0
          (cut_in cut) [])
      beside_here =
          all-beside (granted_on b v.bus true) d (block_limit b) xs (record (s.view) { phase = Idle }) (read_messages v.addr (number_of r))
          (cut_in cut)
          (goes.granted, (goes.granted, tt)) here

      beside_there : AllAlike (IsBeside d) (flat_messages b ys t cut)
          (talk_all one_listener (block_limit b) (alone (record (s.view) { phase = Idle; pointer = s.pointer }))
          (read_messages v.addr (number_of r)) 0 (cut_in cut) [])
      beside_there =
          all-beside (granted_on b v.bus true) d (block_limit b) ys (record (s.view) { phase = Idle; pointer = s.pointer })
          (read_messages v.addr (number_of r)) (cut_in cut)
          (goes.granted, (goes.granted, tt)) there

      abbrev here_told : FlatTold
      here_told = flat_told t (flat_messages b xs t cut)

      abbrev there_told : FlatTold
      there_told = flat_told t (flat_messages b ys t cut)

      here_is : flat b xs t cut ≡ here_told
      here_is = ap (λ (o : Option Errno). flat_by b xs t cut o) none

      state_here : slice_get here_told.states d ≡ Some (Lm75 (record (s.view) { phase = Idle; pointer = facts.p }))
      state_here = beside_here.now.state ∙ ap (λ (x : Lm75View). Some (Lm75 x)) facts.left

      state_there : slice_get there_told.states d ≡ Some (Lm75 (record (s.view) { phase = Idle; pointer = facts.q }))
      state_there = beside_there.now.state ∙ ap (λ (x : Lm75View). Some (Lm75 x)) facts.other

      sensor_same : SameSensor (slice_get here_told.states d) (slice_get there_told.states d)
      sensor_same =
          record {
            view = record (s.view) { phase = Idle; pointer = facts.p };
            rests = refl;
            here = state_here;
            pointer = facts.q;
            there = state_there;
          }

      through_reads : Reading b v d s.view r (flat b xs t cut)
      through_reads =
          subst (λ (z : FlatTold). Reading b v d s.view r z) (sym here_is)
          (record {
            p = facts.p;
            left = state_here;
            reply_is = elim (ends_or (flat_messages b xs t cut).end) [
              | inl ok ↦ inl ((
                ap (λ (z : End). or_done (errno_of z) t (flat_messages b xs t cut).bytes) ok
                    ∙ ap (λ (bytes : List ℕ). reply.Read bytes)
                    (beside_here.bytes ∙ facts.good (ap (λ (z : End). is_good z) (sym beside_here.end ∙ ok))),
                goes.open_is,
              ))
              | inr bad ↦ inr ((bad.0, ap (λ (o : Option Errno). or_done o t (flat_messages b xs t cut).bytes) bad.1))
            ];
          })

    -- .. and one that isn't cut gives what the register has
    read_whole : barred b t cut ≡ None → cut ≡ cut_at.No → (flat b xs t cut).reply ≡ reply.Read (bytes_of (word_of s.view r))
    read_whole none whole =
        ap (λ (z : FlatTold). z.reply) (here_is none)
        ∙ ap (λ (z : End). or_done (errno_of z) t (flat_messages b xs t cut).bytes) ok
        ∙ ap (λ (bytes : List ℕ). reply.Read bytes)
        ((beside_here none).bytes ∙ (facts none).good (ap (λ (z : End). is_good z) (sym (beside_here none).end ∙ ok)))
      where
        ok : (flat_messages b xs t cut).end ≡ end.Ok
        ok = (beside_here none).end
            ∙ ap (λ (z : Cut). (talk_all one_listener (block_limit b) (alone (record (s.view) { phase = Idle }))
            (read_messages v.addr (number_of r)) 0 (cut_in z) []).end) whole
            ∙ read-whole s.view v.addr (block_limit b) r

    pub read_steps : StepsAlike cached (flat b xs t cut) (flat b ys t cut)
    read_steps = granted_steps t cut (λ none. read_other (goes none)) (λ none. (
      (beside_here none).end ∙ (facts none).end ∙ sym (beside_there none).end,
      (beside_here none).bytes ∙ (facts none).bytes ∙ sym (beside_there none).bytes,
      sensor_same none,
    ))

    pub read_others : (k : ℕ) → (k ≡ d → ⊥) → slice_get (flat b xs t cut).states k ≡ slice_get xs k
    read_others = granted_others t cut (λ none. read_other (goes none))

    pub read_reads : Reading b v d s.view r (flat b xs t cut)
    read_reads = by (barred b t cut) refl
      where
        by : (o : Option Errno) → barred b t cut ≡ o → Reading b v d s.view r (flat b xs t cut)
        by (Some e) is =
            subst (λ (z : FlatTold). Reading b v d s.view r z) (sym (barred_is b t cut e is xs))
            (record { p = s.view.pointer; left = here; reply_is = inr (e, refl) })
        by None is = through_reads is

  module _ (r : SensorRegister) (high low : ℕ) (kept : is_kept (number_of r) ≡ true) (cut : Cut) where
    abbrev u : TransferView
    u = register_write v r high low

    write_other : GoesThrough b d v → (k : ℕ) → (k ≡ d → ⊥) → is_granted b u k ≡ false
    write_other g k ne =
        ap (λ (o : Option ℕ). is_it o k || false) g.granted
        ∙ ap (λ (z : Bool). z || false) (by_apart k ne)

    module _ (none : barred b u cut ≡ None) where
      gets : GoesThrough b d v
      gets = write-goes b tree d v r high low cut at none

      tells : HasWritten s.view r high low
          (talk_all one_listener (block_limit b) (alone (record (s.view) { phase = Idle })) (write_messages v.addr (number_of r) high low) 0
          (cut_in cut) [])
          (talk_all one_listener (block_limit b) (alone (record (s.view) { phase = Idle; pointer = s.pointer }))
          (write_messages v.addr (number_of r) high low) 0 (cut_in cut) [])
      tells = write-facts s.view v.addr s.pointer high low (block_limit b) r kept (cut_in cut)

      beside_here_written : AllAlike (IsBeside d) (flat_messages b xs u cut)
          (talk_all one_listener (block_limit b) (alone (record (s.view) { phase = Idle })) (write_messages v.addr (number_of r) high low) 0
          (cut_in cut) [])
      beside_here_written =
          all-beside (granted_on b v.bus true) d (block_limit b) xs (record (s.view) { phase = Idle })
          (write_messages v.addr (number_of r) high low) (cut_in cut)
          (gets.granted, tt) here

      beside_there_written : AllAlike (IsBeside d) (flat_messages b ys u cut)
          (talk_all one_listener (block_limit b) (alone (record (s.view) { phase = Idle; pointer = s.pointer }))
          (write_messages v.addr (number_of r) high low) 0 (cut_in cut) [])
      beside_there_written =
          all-beside (granted_on b v.bus true) d (block_limit b) ys (record (s.view) { phase = Idle; pointer = s.pointer })
          (write_messages v.addr (number_of r) high low) (cut_in cut)
          (gets.granted, tt) there

      abbrev here_told_written : FlatTold
      here_told_written = flat_told u (flat_messages b xs u cut)

      abbrev there_told_written : FlatTold
      there_told_written = flat_told u (flat_messages b ys u cut)

      here_is_written : flat b xs u cut ≡ here_told_written
      here_is_written = ap (λ (o : Option Errno). flat_by b xs u cut o) none

      state_here_written : slice_get here_told_written.states d ≡ Some
          (Lm75 (with_word (record (s.view) { phase = Idle; pointer = tells.p }) r tells.word))
      state_here_written = beside_here_written.now.state ∙ ap (λ (x : Lm75View). Some (Lm75 x)) tells.left

      state_there_written : slice_get there_told_written.states d ≡ Some
          (Lm75 (with_word (record (s.view) { phase = Idle; pointer = tells.q }) r tells.word))
      state_there_written = beside_there_written.now.state ∙ ap (λ (x : Lm75View). Some (Lm75 x)) tells.other

      sensor_same_written : SameSensor (slice_get here_told_written.states d) (slice_get there_told_written.states d)
      sensor_same_written =
          record {
            view = with_word (record (s.view) { phase = Idle; pointer = tells.p }) r tells.word;
            rests = phase_with (record (s.view) { phase = Idle; pointer = tells.p }) r tells.word;
            here = state_here_written;
            pointer = tells.q;
            there = state_there_written ∙ ap (λ (x : Lm75View). Some (Lm75 x)) (pointer_with
                (record (s.view) { phase = Idle; pointer = tells.p }) r tells.word tells.q);
          }

      through_writes : Writing b v d s.view r high low (flat b xs u cut)
      through_writes =
          subst (λ (z : FlatTold). Writing b v d s.view r high low z) (sym here_is_written)
          (record {
            p = tells.p;
            word = tells.word;
            left = state_here_written;
            reply_is = elim (ends_or (flat_messages b xs u cut).end) [
              | inl ok ↦ inl ((
                ap (λ (z : End). or_done (errno_of z) u (flat_messages b xs u cut).bytes) ok,
                tells.good (ap (λ (z : End). is_good z) (sym beside_here_written.end ∙ ok)),
                gets.open_is,
              ))
              | inr bad ↦ inr ((bad.0, ap (λ (o : Option Errno). or_done o u (flat_messages b xs u cut).bytes) bad.1))
            ];
          })

    pub write_steps : StepsAlike cached (flat b xs u cut) (flat b ys u cut)
    write_steps = granted_steps u cut (λ none. write_other (gets none)) (λ none. (
      (beside_here_written none).end ∙ (tells none).end ∙ sym (beside_there_written none).end,
      (beside_here_written none).bytes ∙ (tells none).bytes ∙ sym (beside_there_written none).bytes,
      sensor_same_written none,
    ))

    pub write_others : (k : ℕ) → (k ≡ d → ⊥) → slice_get (flat b xs u cut).states k ≡ slice_get xs k
    write_others = granted_others u cut (λ none. write_other (gets none))

    pub write_writes : Writing b v d s.view r high low (flat b xs u cut)
    write_writes = by (barred b u cut) refl
      where
        by : (o : Option Errno) → barred b u cut ≡ o → Writing b v d s.view r high low (flat b xs u cut)
        by (Some e) is =
            subst (λ (z : FlatTold). Writing b v d s.view r high low z) (sym (barred_is b u cut e is xs))
            (record {
              p = s.view.pointer;
              word = word_of s.view r;
              left = here ∙ ap (λ (x : Lm75View). Some (Lm75 x)) (sym (with_own (record (s.view) { phase = Idle }) r));
              reply_is = inr (e, refl);
            })
        by None is = through_writes is

-- A HIT: what is read without a message in the one world changes a pointer alone in the other, and the reply is what the register has
same_trans : (x y z : Option TargetState) → SameSensor x y → SameSensor y z → SameSensor x z
same_trans x y z s w =
    record {
      view = s.view;
      rests = s.rests;
      here = s.here;
      pointer = w.pointer;
      there = w.there ∙ ap (λ (i : Lm75View). Some (Lm75 (record i { pointer = w.pointer }))) view_is;
    }
  where
    view_is : w.view ≡ record (s.view) { pointer = s.pointer }
    view_is = let f : Some (Lm75 w.view) ≡ Some (Lm75 (record (s.view) { pointer = s.pointer })) = sym w.here ∙ s.there in cc

pub record HitAlike (b : BoardView) (cached : ℕ → Bool) (xs ys : List TargetState) (d : ℕ) (v : DeviceView)
    (r : SensorRegister) : Type 0 where
  pub view : Lm75View
  pub here : slice_get xs d ≡ Some (Lm75 view)
  pub reply_is : (flat b ys (register_read v r) cut_at.No).reply ≡ reply.Read (bytes_of (word_of view r))
  pub states : SameButPointers cached xs (flat b ys (register_read v r) cut_at.No).states

pub hit-alike : (b : BoardView) → IsTree b → (cached : ℕ → Bool) (d : ℕ) (v : DeviceView) → slice_get b.devices d ≡ Some v → cached d ≡ true
    → (xs ys : List TargetState) → SameButPointers cached xs ys → (r : SensorRegister) → IsOpen b v → HitAlike b cached xs ys d v r
hit-alike b tree cached d v at is_cached xs ys same r opens =
    record {
      view = (same.sensors d is_cached).view;
      here = (same.sensors d is_cached).here;
      reply_is = sym (steps.reply_is) ∙ read_whole b tree cached d v at is_cached xs ys same r cut_at.No opens refl;
      states = record {
        others = λ k no. (
            let ne : k ≡ d → ⊥ = λ e. (let f : true ≡ false = sym is_cached ∙ ap cached (sym e) ∙ no in absurd cc) in
            sym (read_others b tree cached d v at is_cached xs ys same r cut_at.No k ne) ∙ steps.states.others k no);
        sensors = λ k is. by k (eqb k d) refl is;
      };
    }
  where
    steps : StepsAlike cached (flat b xs (register_read v r) cut_at.No) (flat b ys (register_read v r) cut_at.No)
    steps = read_steps b tree cached d v at is_cached xs ys same r cut_at.No

    reads : Reading b v d (same.sensors d is_cached).view r (flat b xs (register_read v r) cut_at.No)
    reads = read_reads b tree cached d v at is_cached xs ys same r cut_at.No

    -- the sensor behind the read, beside itself before it
    moved : SameSensor (slice_get xs d) (slice_get (flat b xs (register_read v r) cut_at.No).states d)
    moved =
        record {
          view = (same.sensors d is_cached).view;
          rests = (same.sensors d is_cached).rests;
          here = (same.sensors d is_cached).here;
          pointer = reads.p;
          there = reads.left ∙ ap (λ (x : Lm75View). Some (Lm75 (record x { pointer = reads.p })))
              (sym (rested_is (same.sensors d is_cached).view (same.sensors d is_cached).rests));
        }

    by : (k : ℕ) (z : Bool) → eqb k d ≡ z → cached k ≡ true
        → SameSensor (slice_get xs k) (slice_get (flat b ys (register_read v r) cut_at.No).states k)
    by k true e is =
        subst (λ (i : ℕ). SameSensor (slice_get xs i) (slice_get (flat b ys (register_read v r) cut_at.No).states i)) (sym (eqb-true k d e))
        (same_trans (slice_get xs d) (slice_get (flat b xs (register_read v r) cut_at.No).states d)
        (slice_get (flat b ys (register_read v r) cut_at.No).states d) moved (steps.states.sensors d is_cached))
    by k false e is =
        let ne : k ≡ d → ⊥ = λ f. (let g : true ≡ false = sym (eq-eqb k d f) ∙ e in absurd cc) in
        subst (λ (o : Option TargetState). SameSensor o (slice_get (flat b ys (register_read v r) cut_at.No).states k))
        (read_others b tree cached d v at is_cached xs ys same r cut_at.No k ne) (steps.states.sensors k is)
