-- The pulses of a cut are the least; and a board's targets are quiet as it is opened.
use Rattle.bus_clear.proofs.Cited.{◌≡◌, ℕ, zero, suc, ◌+◌, ◌-◌, ◌<◌, ◌≤◌, Bool, true, false, cond, List, [], ◌∷◌, map, refl, ap, sym, ◌∙◌}
use Rattle.bus_clear.proofs.Cited.{arith, ◌&&◌, ◌==◌, nat_lt, if◌then◌else◌, Result, AllByRecursion, nat_tests, Table, IsQuiet, World}
use Rattle.bus_clear.proofs.Cited.{after, answer, Bus, NodeState, Rooted, world_at, bit, MOST_PULSES, level_at, level_by, low_rises}
use Rattle.bus_clear.proofs.Cited.{pulses_of, is_heard, given_byte, cleared_world, ClearIs, Cleared, Free}
use Rattle.std.specs.Prelude.{None}
use Rattle.i2c_base.specs.declared.errno.Errno.{Errno}
use Rattle.i2c_base.specs.declared.event.Answer.TheVariants.{Ack}
use Rattle.i2c_base.specs.declared.port.PortCall.TheVariants as call
use Rattle.i2c_spec.specs.Conversation.{world_listener, by_answer, say, silence}
use Rattle.bus_clear.specs.Cuts.{RISES, ArePulses}
use Rattle.bus_clear.specs.Receives.{received, receive_message, reply_of}
use Rattle.bus_clear.proofs.CutLemmas.{low_most}

module _ (level : ℕ → Bool) where
  found_by : (b : Bool) (n r m : ℕ) → level r ≡ b → m ≤ suc n → level (r + m) ≡ true
      → ((k : ℕ) → k ≤ n → level (suc r + k) ≡ true → level (suc r + low_rises level n (suc r)) ≡ true)
      → level (r + cond b 0 (suc (low_rises level n (suc r)))) ≡ true
  found_by true n r m is le up rest = ap level (omega arith) ∙ is
  found_by false n r zero is le up rest = let p : false ≡ true = sym is ∙ (ap level (omega arith) ∙ up) in cc
  found_by false n r (suc m) is le up rest =
      let e : r + suc m ≡ suc r + m = omega arith in
      let f : r + suc (low_rises level n (suc r)) ≡ suc r + low_rises level n (suc r) = omega arith in
      ap level f ∙ rest m (omega (arith, le)) (sym (ap level e) ∙ up)

  found : (n r m : ℕ) → m ≤ n → level (r + m) ≡ true → level (r + low_rises level n r) ≡ true
  found zero r m le up = let e : m ≡ 0 = omega (arith, le) in ap (λ k. level (r + k)) (sym e) ∙ up
  found (suc n) r m le up = found_by (level r) n r m refl le up (λ k few high. found n (suc r) k few high)

  low_before : (b : Bool) (n r j : ℕ) → level r ≡ b → j < cond b 0 (suc (low_rises level n (suc r)))
      → ((k : ℕ) → k < low_rises level n (suc r) → level (suc r + k) ≡ false) → level (r + j) ≡ false
  low_before true n r j is lt rest = absurd (omega (arith, lt))
  low_before false n r zero is lt rest = ap level (omega arith) ∙ is
  low_before false n r (suc j) is lt rest =
      let e : r + suc j ≡ suc r + j = omega arith in ap level e ∙ rest j (omega (arith, lt))

  before : (n r j : ℕ) → j < low_rises level n r → level (r + j) ≡ false
  before zero r j lt = absurd (omega (arith, lt))
  before (suc n) r j lt = low_before (level r) n r j refl lt (λ k less. before n (suc r) k less)

-- SDA is high in the address byte, and at the last rise
high_first : (heard : Bool) (byte r : ℕ) → r < 9 → level_by heard byte r ≡ true
high_first true byte r lt =
    let a : (r == 9) ≡ false = grind (arith, nat_tests) in
    let b : nat_lt 9 r ≡ false = grind (arith, nat_tests) in
    ap (λ x. if x then false else if nat_lt 9 r && nat_lt r 18 then bit byte (17 - r) else true) a
    ∙ ap (λ x. if x && nat_lt r 18 then bit byte (17 - r) else true) b
high_first false byte r lt = refl

high_last : (heard : Bool) (byte : ℕ) → level_by heard byte 18 ≡ true
high_last true byte = refl
high_last false byte = refl

high_within : (heard : Bool) (byte cut : ℕ) → cut ≤ 18 → (b : Bool) → nat_lt cut 9 ≡ b
    → (m : ℕ) × (m ≤ 9) × (level_by heard byte (cut + m) ≡ true)
high_within heard byte cut few true is =
    let lt : cut + 0 < 9 = grind (arith, nat_tests) in (0, omega arith, high_first heard byte (cut + 0) lt)
high_within heard byte cut few false is =
    let le : 18 - cut ≤ 9 = grind (arith, nat_tests) in
    let e : cut + (18 - cut) ≡ 18 = omega (arith, few) in
    (18 - cut, le, ap (level_by heard byte) e ∙ high_last heard byte)

pub least : (w : World) (addr cut : ℕ) → cut ≤ RISES → ArePulses (level_at w addr) cut (pulses_of w addr cut)
least w addr cut few =
    let h = high_within (is_heard w addr) (given_byte w addr) cut few (nat_lt cut 9) refl in
    record {
      low = before (level_at w addr) MOST_PULSES cut;
      high = found (level_at w addr) MOST_PULSES cut h.0 h.1 h.2;
      few = low_most (level_at w addr) MOST_PULSES cut;
    }

pub quiet_all : {A X : Type 0} (t : Table X) (opens : A → X) → ((a : A) → IsQuiet t (opens a)) → (xs : List A)
    → AllByRecursion (IsQuiet t) (map opens xs)
quiet_all t opens is [] = tt
quiet_all t opens is (x ∷ xs) = (is x, quiet_all t opens is xs)

-- ---- the read after bus clear
pub ack_world : (w v u : World) (addr limit : ℕ) → Ack ≡ answer w addr true → v ≡ after w (call.Start addr true)
    → u ≡ after (after v (call.Get false)) call.Stop → u ≡ (received limit w addr).now
ack_world w v u addr limit is starts ends =
    ends
    ∙ (ap (λ x. after (after x (call.Get false)) call.Stop) starts
    ∙ ap (λ a. (by_answer world_listener None true limit (receive_message addr) a (say world_listener (silence w)
    (call.Start addr true))).now) is)

-- what a root comes to
module _ (k k1 : Rooted) (same : k1 ≡ k) (old new : Bus NodeState) (addr cut limit : ℕ) (w : World)
    (opened : world_at k false old ≡ w) where
  pub root_level : (high : Bool) → high ≡ level_at (world_at k false old) addr cut → high ≡ level_at w addr cut
  root_level high is = is ∙ ap (λ v. level_at v addr cut) opened

  pub root_pulses : (a : Cleared) → ClearIs k addr cut a old new → a ≡ Free (pulses_of w addr cut)
  root_pulses a told = told.answer ∙ ap (λ v. Free (pulses_of v addr cut)) opened

  pub root_reply : (a : Cleared) (read : Result ℕ Errno) (v : World) → ClearIs k addr cut a old new → v ≡ world_at k1 false new
      → read ≡ reply_of (received limit v addr) → read ≡ reply_of (received limit (cleared_world w addr cut) addr)
  root_reply a read v told is reply =
      reply
      ∙ ap (λ u. reply_of (received limit u addr))
      (is ∙ (ap (λ m. world_at m false new) same ∙ (told.world ∙ ap (λ u. cleared_world u addr cut) opened)))
