-- What the chips do with the bytes that muxes are switched by: a select opens its channel alone, a close opens none.
use Rattle.bus_laws.proofs.Cited.{◌≡◌, ℕ, zero, suc, ◌+◌, ◌-◌, ◌*◌, ◌<◌, ◌≤◌, Bool, true, false, cond, not, ◌&&◌, Option, Some, None, eqb}
use Rattle.bus_laws.proofs.Cited.{refl, sym, ◌∙◌, ap, subst, inl, inr, arith, eqb-true, eq-eqb, cases_lt, ne_eqb, MuxKind, ChannelCode}
use Rattle.bus_laws.proofs.Cited.{Level, facts_of, ChipView, is_open, is_free, taken, looked, select_by, select_value, close_value}
use Rattle.bus_laws.proofs.Cited.{at_level, is_gpio, is_arbitrator, and_last}
use Rattle.std.proofs.Common.{◌/◌, ◌%◌, ◌^◌}
use Rattle.std.proofs.lemmas.Nat.{pow_pos, pow-add, shl-shr, shr-shr, one_shl}
use Rattle.std.proofs.Math.Nat.{zero-div, zero-mod, div_self, pow-suc, one-mul}
use Rattle.i2c_base.specs.declared.mux_facts.ChannelCode.TheVariants.{Bits, Number, Alone}
use Rattle.i2c_base.proofs.MuxLemmas.{FitsCode, facts_fit}
use Rattle.i2c_spec.specs.Chips.{bit_of, opens_by, opens, arbitrated}
use Rattle.bus_laws.proofs.world.Control.{put_byte, on_look}

-- a power of two has one bit
power_above : (c d : ℕ) → 2 ^ (d + c) / 2 ^ c ≡ 2 ^ d
power_above c d = ap (λ (n : ℕ). n / 2 ^ c) (pow-add 2 d c) ∙ shl-shr (2 ^ d) c

power_below : (a d : ℕ) → 2 ^ a / 2 ^ (a + suc d) ≡ 0
power_below a d =
    sym (shr-shr (2 ^ a) a (suc d))
    ∙ ap (λ (n : ℕ). n / 2 ^ suc d) (div_self (pow_pos a))
    ∙ ap (λ (n : ℕ). 1 / 2 ^ n) (let e : suc d ≡ 1 + d = omega arith in e)
    ∙ sym (shr-shr 1 1 d) ∙ zero-div (2 ^ d)

even_power : (d : ℕ) → 2 ^ suc d % 2 ≡ 0
even_power d = ap (λ (n : ℕ). n % 2) (pow-suc 2 d) ∙ (let e : 2 ^ d * 2 % 2 ≡ 0 = omega arith in e)

pub bit_power : (a c : ℕ) → bit_of (2 ^ a) c ≡ true → a ≡ c
bit_power a c e =
    elim (cases_lt a c) [
      | inl below ↦ absurd (
          let d : c ≡ a + suc (c - a - 1) = omega arith in
          let zero_bit : 2 ^ a / 2 ^ c ≡ 0 = ap (λ (n : ℕ). 2 ^ a / 2 ^ n) d ∙ power_below a (c - a - 1) in
          let f : eqb 0 1 ≡ true = sym (ap (λ (n : ℕ). eqb (n % 2) 1) zero_bit) ∙ e in cc)
      | inr above ↦ at_or_above (a - c) (let f : a ≡ (a - c) + c = omega arith in f)
    ]
  where
    at_or_above : (d : ℕ) → a ≡ d + c → a ≡ c
    at_or_above zero f = omega arith
    at_or_above (suc d) f =
        absurd (
        let bit : 2 ^ a / 2 ^ c ≡ 2 ^ suc d = ap (λ (n : ℕ). 2 ^ n / 2 ^ c) f ∙ power_above c (suc d) in
        let g : eqb 0 1 ≡ true = sym (ap (λ (n : ℕ). eqb (n % 2) 1) bit ∙ ap (λ (n : ℕ). eqb n 1) (even_power d)) ∙ e in cc)

pub bit_power-same : (c : ℕ) → bit_of (2 ^ c) c ≡ true
bit_power-same c = ap (λ (n : ℕ). eqb (n % 2) 1) (div_self (pow_pos c))

pub bit_zero : (c : ℕ) → bit_of 0 c ≡ false
bit_zero c = ap (λ (n : ℕ). eqb (n % 2) 1) (zero-div (2 ^ c))

-- which channels a kind of mux has, as far as the kind says it
abbrev pub IsBelow : Option ℕ → ℕ → Type 0
IsBelow (Some n) c = c < n
IsBelow None c = Unit {0}

abbrev pub HasChannel : MuxKind → ℕ → Type 0
HasChannel k c = IsBelow (facts_of k).channels c

kept_power : (c w : ℕ) → c < w → 2 ^ c % 2 ^ w ≡ 2 ^ c
kept_power c w below = ap (λ (n : ℕ). n % 2 ^ w) (sym (one-mul (2 ^ c))) ∙ one_shl c w below

-- SELECTS: the channel is open, and no other one
pub record OpensOne (x : ChipView) (channel : ℕ) : Type 0 where
  pub opened : is_open x channel ≡ true
  pub only : (c : ℕ) → is_open x c ≡ true → channel ≡ c

opens_power : (x : ChipView) (control channel : ℕ) → ((c : ℕ) → is_open x c ≡ bit_of control c) → control ≡ 2 ^ channel → OpensOne x channel
opens_power x control channel is at =
    record {
      opened = is channel ∙ ap (λ (n : ℕ). bit_of n channel) at ∙ bit_power-same channel;
      only = λ c e. bit_power channel c (ap (λ (n : ℕ). bit_of n c) (sym at) ∙ sym (is c) ∙ e);
    }

-- a bit above the number of a channel, which has at most three bits
mux_bits : (n c : ℕ) → n ≤ 3 → c < 2 ^ n → (bit_of ((2 ^ n + c) % 2 ^ suc n) n ≡ true) × ((2 ^ n + c) % 2 ^ suc n % 2 ^ n ≡ c)
mux_bits zero c p below =
    (let e : (1 + c) % 2 / 1 % 2 ≡ 1 = omega arith in ap (λ (k : ℕ). eqb k 1) e, let e : (1 + c) % 2 % 1 ≡ c = omega arith in e)
mux_bits (suc zero) c p below =
    (let e : (2 + c) % 4 / 2 % 2 ≡ 1 = omega arith in ap (λ (k : ℕ). eqb k 1) e, let e : (2 + c) % 4 % 2 ≡ c = omega arith in e)
mux_bits (suc (suc zero)) c p below =
    (let e : (4 + c) % 8 / 4 % 2 ≡ 1 = omega arith in ap (λ (k : ℕ). eqb k 1) e, let e : (4 + c) % 8 % 4 ≡ c = omega arith in e)
mux_bits (suc (suc (suc zero))) c p below =
    (let e : (8 + c) % 16 / 8 % 2 ≡ 1 = omega arith in ap (λ (k : ℕ). eqb k 1) e, let e : (8 + c) % 16 % 8 ≡ c = omega arith in e)
mux_bits (suc (suc (suc (suc n)))) c p below = absurd (omega arith)

-- what a byte makes of a chip, by the facts of its kind
abbrev taken_by : (asks by_line : Bool) (bits : ℕ) → ChipView → ℕ → ChipView
taken_by asks by_line bits x byte =
    cond asks (arbitrated (put_byte byte x) byte) (cond by_line (put_byte byte x) (record x { control = byte % 2 ^ bits; waiting = None }))

module _ (k : MuxKind) (x : ChipView) (channel : ℕ) (kind : x.kind ≡ k) where
  -- the byte is taken, once its code and the facts are known
  taken_at : (code : ChannelCode) (asks by_line : Bool) (bits : ℕ) → (facts_of k).code ≡ code → (facts_of k).asks ≡ asks
      → (facts_of k).by_line ≡ by_line
      → (facts_of k).bits ≡ bits → taken k (put_byte (select_value k channel) x) (select_value k channel) ≡ taken_by asks by_line bits x
      (select_by code channel)
  taken_at code asks by_line bits c a l n =
      ap (λ (v : ChannelCode). taken_by (facts_of k).asks (facts_of k).by_line (facts_of k).bits x (select_by v channel)) c
      ∙ ap (λ (v : Bool). taken_by v (facts_of k).by_line (facts_of k).bits x (select_by code channel)) a
      ∙ ap (λ (v : Bool). taken_by asks v (facts_of k).bits x (select_by code channel)) l
      ∙ ap (λ (v : ℕ). taken_by asks by_line v x (select_by code channel)) n

  opens_at : (code : ChannelCode) → (facts_of k).code ≡ code → (control c : ℕ) → opens x.kind control c ≡ opens_by code control c
  opens_at code at control c = ap (λ (j : MuxKind). opens j control c) kind ∙ ap (λ (v : ChannelCode). opens_by v control c) at

  below : (n : ℕ) → (facts_of k).channels ≡ Some n → HasChannel k channel → channel < n
  below n e has = subst (λ (o : Option ℕ). IsBelow o channel) e has

  select_by_code : (code : ChannelCode) → (facts_of k).code ≡ code → FitsCode code (facts_of k) → is_gpio k ≡ false → HasChannel k channel
      → (is_arbitrator k ≡ true → is_free x ≡ true)
      → OpensOne (taken k (put_byte (select_value k channel) x) (select_value k channel)) channel
  select_by_code Bits at fits line has free =
      let bits = (facts_of k).bits in
      let y : ChipView = record x { control = 2 ^ channel % 2 ^ bits; waiting = None } in
      subst (λ (z : ChipView). OpensOne z channel) (sym (taken_at Bits false false bits at fits.3 fits.2 refl))
      (opens_power y (2 ^ channel % 2 ^ bits) channel (opens_at Bits at (2 ^ channel % 2 ^ bits))
      (kept_power channel bits (below bits fits.0 has)))
  select_by_code (Number n) at fits line has free =
      let control = (2 ^ n + channel) % 2 ^ suc n in
      let bits = mux_bits n channel fits.4 (below (2 ^ n) fits.0 has) in
      subst (λ (z : ChipView). OpensOne z channel) (sym (taken_at (Number n) false false (suc n) at fits.3 fits.2 fits.1))
      (record {
        opened = opens_at (Number n) at control channel
            ∙ ap (λ (t : Bool). t && eqb (control % 2 ^ n) channel) bits.0 ∙ eq-eqb (control % 2 ^ n) channel bits.1;
        only = λ c e. sym bits.1 ∙ eqb-true (control % 2 ^ n) c
            (and_last (bit_of control n) (eqb (control % 2 ^ n) c) (sym (opens_at (Number n) at control c) ∙ e));
      })
  select_by_code Alone at fits line has free =
      let y : ChipView = record x { control = 1; waiting = None } in
      let only_one : channel ≡ 0 = (let l : channel < 1 = below 1 fits.0 has in omega arith) in
      let is : taken_by true false (facts_of k).bits x 1 ≡ y = ap (λ (t : Bool). cond t y (record x { waiting = None })) (free fits.3) in
      subst (λ (z : ChipView). OpensOne z channel) (sym (taken_at Alone true false (facts_of k).bits at fits.3 fits.2 refl ∙ is))
      (record {
        opened = opens_at Alone at 1 channel ∙ eq-eqb channel 0 only_one;
        only = λ c e. only_one ∙ sym (eqb-true c 0 (sym (opens_at Alone at 1 c) ∙ e));
      })
  select_by_code Level at fits line has free = absurd (let f : true ≡ false = sym fits.2 ∙ line in cc)

pub select_opens : (k : MuxKind) (x : ChipView) (channel : ℕ) → x.kind ≡ k → is_gpio k ≡ false → HasChannel k channel
    → (is_arbitrator k ≡ true → is_free x ≡ true)
    → OpensOne (taken k (put_byte (select_value k channel) x) (select_value k channel)) channel
select_opens k x channel kind line has free = select_by_code k x channel kind (facts_of k).code refl (facts_fit k) line has free

-- LINES: the level opens one channel or none
pub level_opens : (x : ChipView) (channel : ℕ) → (facts_of x.kind).code ≡ Level → OpensOne (at_level x (channel + 1)) channel
level_opens x channel code =
    record {
      opened = ap (λ (v : ChannelCode). opens_by v (channel + 1) channel) code ∙ eq-eqb (channel + 1) (channel + 1) refl;
      only = λ c e. (let f : channel + 1 ≡ c + 1 = eqb-true (channel + 1) (c + 1)
          (sym (ap (λ (v : ChannelCode). opens_by v (channel + 1) c) code) ∙ e) in omega arith);
    }

-- VALUES: what selects a channel opens it alone as it is, before the chip has cut it down to its bits
abbrev at_value : MuxKind → ℕ → ChipView
at_value k value = record { kind = k; control = value; waiting = None; left = 0; foreign = 0 }

number_whole : (n c : ℕ) → n ≤ 3 → c < 2 ^ n → (2 ^ n + c) % 2 ^ suc n ≡ 2 ^ n + c
number_whole zero c p below = (let e : (1 + c) % 2 ≡ 1 + c = omega arith in e)
number_whole (suc zero) c p below = (let e : (2 + c) % 4 ≡ 2 + c = omega arith in e)
number_whole (suc (suc zero)) c p below = (let e : (4 + c) % 8 ≡ 4 + c = omega arith in e)
number_whole (suc (suc (suc zero))) c p below = (let e : (8 + c) % 16 ≡ 8 + c = omega arith in e)
number_whole (suc (suc (suc (suc n)))) c p below = absurd (omega arith)

pub value_opens : (k : MuxKind) (channel : ℕ) → HasChannel k channel → OpensOne (at_value k (select_value k channel)) channel
value_opens k channel has = by_code (facts_of k).code refl (facts_fit k)
  where
    by_code : (code : ChannelCode) → (facts_of k).code ≡ code → FitsCode code (facts_of k)
        → OpensOne (at_value k (select_value k channel)) channel
    by_code Bits at fits =
        opens_power (at_value k (select_value k channel)) (select_value k channel) channel
        (opens_at k (at_value k 0) channel refl Bits at (select_value k channel)) (ap (λ (v : ChannelCode). select_by v channel) at)
    by_code (Number n) at fits =
        let value = 2 ^ n + channel in
        let within : channel < 2 ^ n = below k (at_value k 0) channel refl (2 ^ n) fits.0 has in
        let whole : value % 2 ^ suc n ≡ value = number_whole n channel fits.4 within in
        let bits = mux_bits n channel fits.4 within in
        let number : value % 2 ^ n ≡ channel = ap (λ (i : ℕ). i % 2 ^ n) (sym whole) ∙ bits.1 in
        subst (λ (i : ℕ). OpensOne (at_value k i) channel) (sym (ap (λ (v : ChannelCode). select_by v channel) at))
        (record {
          opened = opens_at k (at_value k 0) channel refl (Number n) at value channel
              ∙ ap (λ (t : Bool). t && eqb (value % 2 ^ n) channel) (ap (λ (i : ℕ). bit_of i n) (sym whole) ∙ bits.0)
              ∙ eq-eqb (value % 2 ^ n) channel number;
          only = λ c e. sym number ∙ eqb-true (value % 2 ^ n) c
              (and_last (bit_of value n) (eqb (value % 2 ^ n) c) (sym (opens_at k (at_value k 0) channel refl (Number n) at value c) ∙ e));
        })
    by_code Alone at fits =
        let only_one : channel ≡ 0 = (let l : channel < 1 = below k (at_value k 0) channel refl 1 fits.0 has in omega arith) in
        subst (λ (i : ℕ). OpensOne (at_value k i) channel) (sym (ap (λ (v : ChannelCode). select_by v channel) at))
        (record {
          opened = opens_at k (at_value k 0) channel refl Alone at 1 channel ∙ eq-eqb channel 0 only_one;
          only = λ c e. only_one ∙ sym (eqb-true c 0 (sym (opens_at k (at_value k 0) channel refl Alone at 1 c) ∙ e));
        })
    by_code Level at fits =
        subst (λ (i : ℕ). OpensOne (at_value k i) channel) (sym (ap (λ (v : ChannelCode). select_by v channel) at))
        (level_opens (at_value k 0) channel at)

-- CLOSES: no channel is open
pub shut_at_zero : (code : ChannelCode) (c : ℕ) → opens_by code 0 c ≡ false
shut_at_zero Bits c = bit_zero c
shut_at_zero (Number n) c = ap (λ (t : Bool). t && eqb (0 % 2 ^ n) c) (bit_zero n)
shut_at_zero Alone c = refl
shut_at_zero Level c = ne_eqb 0 (c + 1) (λ e. absurd (omega arith))

pub close_opens : (k : MuxKind) (x : ChipView) (c : ℕ) → is_gpio k ≡ false
    → is_open (taken k (put_byte close_value x) close_value) c ≡ false
close_opens k x c line = by_facts (facts_of k).asks (facts_of k).by_line (facts_of k).bits line
  where
    by_facts : (asks by_line : Bool) (bits : ℕ) → by_line ≡ false → is_open (taken_by asks by_line bits x 0) c ≡ false
    by_facts true by_line bits e = shut_at_zero (facts_of x.kind).code c
    by_facts false false bits e =
        ap (λ (n : ℕ). opens_by (facts_of x.kind).code n c) (zero-mod (2 ^ bits)) ∙ shut_at_zero (facts_of x.kind).code c
    by_facts false true bits e = absurd (let f : true ≡ false = e in cc)

pub level_closes : (x : ChipView) (c : ℕ) → is_open (at_level x 0) c ≡ false
level_closes x c = shut_at_zero (facts_of x.kind).code c

-- a chip keeps its kind, and what it is
pub record SameSort (x y : ChipView) : Type 0 where
  pub kind : y.kind ≡ x.kind
  pub foreign : y.foreign ≡ x.foreign
  pub left : x.left ≤ x.foreign → y.left ≤ y.foreign
  pub waiting : x.waiting ≡ None → y.waiting ≡ None

abbrev pub chosen_byte : MuxKind → ChipView → ℕ → ChipView
chosen_byte k x byte = taken k (put_byte byte x) byte

pub taken_sort : (k : MuxKind) (x : ChipView) (byte : ℕ) → is_gpio k ≡ false → SameSort x (chosen_byte k x byte)
taken_sort k x byte line = by_facts (facts_of k).asks (facts_of k).by_line (facts_of k).bits line
  where
    by_bit : (s t : Bool) → SameSort x
        (cond s (record x { control = 0; waiting = None; left = x.foreign })
        (cond t (record x { control = 1; waiting = None }) (record x { waiting = None })))
    by_bit true t = record { kind = refl; foreign = refl; left = λ h. omega arith; waiting = λ e. refl }
    by_bit false true = record { kind = refl; foreign = refl; left = λ h. h; waiting = λ e. refl }
    by_bit false false = record { kind = refl; foreign = refl; left = λ h. h; waiting = λ e. refl }

    by_facts : (asks by_line : Bool) (bits : ℕ) → by_line ≡ false → SameSort x (taken_by asks by_line bits x byte)
    by_facts true by_line bits e = by_bit (not (bit_of byte 0)) (is_free x)
    by_facts false false bits e = record { kind = refl; foreign = refl; left = λ h. h; waiting = λ e. refl }
    by_facts false true bits e = absurd (let f : true ≡ false = e in cc)

pub looked_sort : (k : MuxKind) (x : ChipView) → SameSort x (looked k x)
looked_sort k x =
    on_look (λ (y : ChipView). SameSort x y) k x (record { kind = refl; foreign = refl; left = λ h. h; waiting = λ e. e })
    (record { kind = refl; foreign = refl; left = λ h. omega arith; waiting = λ e. e })
