-- From targets between two bytes: what a put and a get come to on the lines.
use Rattle.wire_spec.proofs.Cited.{◌≡◌, ℕ, zero, suc, ◌<◌, Bool, true, false, cond, List, [], ◌∷◌, length, map, refl, ap, sym, ◌∙◌, arith}
use Rattle.wire_spec.proofs.Cited.{subst, ◌&&◌, not, replicate, Table, Mode, Out, In, Answered, Give, Gave, site_of, Site, Bit, bit, bits}
use Rattle.wire_spec.proofs.Cited.{shifted, value, rise, holds, clock, some_one, pulls_line, sda, where_joined, clock_all, run, levels, at}
use Rattle.wire_spec.proofs.Cited.{put_site, acks, sent_by, and_all, get_site, Mask, Seen, Level, with_levels, holds_line, bit_step, bit_steps}
use Rattle.wire_spec.proofs.Cited.{bus_of, came_up, stays, last_low, and_right}
use Rattle.wire_spec.specs.Wires.{is_due}
use Rattle.wire_spec.proofs.Roots.{map_step, some_map, no_one, take_one, take_sda, answering, map_map, give_step, take_run, ack_one, ack_pulls}
use Rattle.wire_spec.proofs.Roots.{give_run, get_value, give_levels, free_levels, free_sda, give_quiet, answer_one}
use Rattle.wire_spec.proofs.Calm.{IsCalm, Calm, bit_calm, bits_calm}
use Rattle.wire_spec.proofs.ByteLemmas.{value_bits}

none : (m : Mode) → (not (is_due m) && false) ≡ false
none Out = refl
none (In address left v) = refl
none (Answered true acked next looks) = refl
none (Answered false acked next looks) = refl
none (Give left) = refl
none (Gave more) = refl

-- a clock of targets that stand alike is calm
pub calm_by : {A X : Type 0} (t : Table X) (f : A → Bit X) (xs : List A) (h : Bool)
    → ((a : A) → holds_line (f a) ≡ false)
    → ((a : A) (l : Bool) → holds_line (where_joined (λ b. rise t b l) (f a)) ≡ false)
    → ((a : A) (l : Bool) → pulls_line t (where_joined (λ b. rise t b l) (f a)) ≡ pulls_line t (f a))
    → IsCalm t (map f xs) h
calm_by {A} {X} t f xs h low high stays =
    let l : Bool = sda t (map f xs) h in
    let F : Bit X → Bit X = where_joined (λ b. rise t b l) in
    let g : A → Bit X = λ a. F (f a) in
    record {
      low = some_map f holds_line (λ x. false) low xs ∙ no_one xs;
      high = ap (some_one holds_line) (map_map f F xs) ∙ (some_map g holds_line (λ x. false) (λ a. high a l) xs ∙ no_one xs);
      stays =
          ap (λ bs. sda t bs h) (map_map f F xs)
          ∙ ap (λ y. h && not y) (some_map g (pulls_line t) (λ a. pulls_line t (f a)) (λ a. stays a l) xs
          ∙ sym (some_map f (pulls_line t) (λ a. pulls_line t (f a)) (λ a. refl) xs));
    }

-- ---- a byte comes in
pub at_low : {X : Type 0} (m : Mode) (a : ℕ) (j e : Bool) (x : X) → holds_line (at m (site_of a j e x)) ≡ false
at_low m a j e x = and_right j (holds (at m (site_of a j e x))) (none (cond (j && e) m Out))

in_high : {X : Type 0} (t : Table X) (n v : ℕ) (l : Bool) (a : ℕ) (j e : Bool) (x : X)
    → holds_line (where_joined (λ b. rise t b l) (at (In false (suc n) v) (site_of a j e x))) ≡ false
in_high t zero v l a true true x = refl
in_high t (suc n) v l a true true x = refl
in_high t n v l a true false x = refl
in_high t n v l a false e x = refl

in_stays : {X : Type 0} (t : Table X) (n v : ℕ) (l : Bool) (a : ℕ) (j e : Bool) (x : X)
    → pulls_line t (where_joined (λ b. rise t b l) (at (In false (suc n) v) (site_of a j e x)))
    ≡ pulls_line t (at (In false (suc n) v) (site_of a j e x))
in_stays t zero v l a true true x = refl
in_stays t (suc n) v l a true true x = refl
in_stays t n v l a true false x = refl
in_stays t n v l a false e x = refl

pub take_calm : {X : Type 0} (t : Table X) (n v : ℕ) (ss : List (Site X)) (h : Bool) → IsCalm t (map (at (In false (suc n) v)) ss) h
take_calm t n v ss h =
    calm_by t (at (In false (suc n) v)) ss h (λ s. at_low (In false (suc n) v) s.addr s.joined s.heard s.state)
    (λ s l. in_high t n v l s.addr s.joined s.heard s.state) (λ s l. in_stays t n v l s.addr s.joined s.heard s.state)

-- the last clock of an acknowledge
answering_low : {X : Type 0} (t : Table X) (byte a : ℕ) (j e : Bool) (x : X) → holds_line (answering t byte (site_of a j e x)) ≡ false
answering_low t byte a true true x = refl
answering_low t byte a true false x = refl
answering_low t byte a false e x = refl

answering_high : {X : Type 0} (t : Table X) (byte : ℕ) (l : Bool) (a : ℕ) (j e : Bool) (x : X)
    → holds_line (where_joined (λ b. rise t b l) (answering t byte (site_of a j e x))) ≡ false
answering_high t byte l a true true x = refl
answering_high t byte l a true false x = refl
answering_high t byte l a false e x = refl

answering_stays : {X : Type 0} (t : Table X) (byte : ℕ) (l : Bool) (a : ℕ) (j e : Bool) (x : X)
    → pulls_line t (where_joined (λ b. rise t b l) (answering t byte (site_of a j e x))) ≡ pulls_line t (answering t byte (site_of a j e x))
answering_stays t byte l a true true x = refl
answering_stays t byte l a true false x = refl
answering_stays t byte l a false e x = refl

pub answering_calm : {X : Type 0} (t : Table X) (byte : ℕ) (ss : List (Site X)) (h : Bool) → IsCalm t (map (answering t byte) ss) h
answering_calm t byte ss h =
    calm_by t (answering t byte) ss h (λ s. answering_low t byte s.addr s.joined s.heard s.state)
    (λ s l. answering_high t byte l s.addr s.joined s.heard s.state) (λ s l. answering_stays t byte l s.addr s.joined s.heard s.state)

-- eight clocks of a byte that comes in are calm
pub take_calms : {X : Type 0} (t : Table X) (h : Bool) (hs : List Bool) (v : ℕ) (ss : List (Site X))
    → Calm t (map (at (In false (suc (length hs)) v)) ss) (h ∷ hs)
take_calms t h [] v ss = (take_calm t 0 v ss h, tt)
take_calms t h (k ∷ hs) v ss =
    let l = sda t (map (at (In false (suc (suc (length hs))) v)) ss) h in
    let e : clock_all t (map (at (In false (suc (suc (length hs))) v)) ss) h ≡ map (at (In false (suc (length hs)) (shifted v l))) ss =
    map_step (at (In false (suc (suc (length hs))) v)) (at (In false (suc (length hs)) (shifted v l))) _
    (λ s. take_one t (length hs) v l s.addr s.joined s.heard s.state) ss in
    (take_calm t (suc (length hs)) v ss h, subst (λ bs. Calm t bs (k ∷ hs)) (sym e) (take_calms t k hs (shifted v l) ss))

-- ---- a byte goes out
give_high : {X : Type 0} (t : Table X) (n : ℕ) (l : Bool) (a : ℕ) (j e : Bool) (x : X)
    → holds_line (where_joined (λ b. rise t b l) (at (Give n) (site_of a j e x))) ≡ false
give_high t zero l a true true x = refl
give_high t (suc n) l a true true x = refl
give_high t n l a true false x = refl
give_high t n l a false e x = refl

give_stays : {X : Type 0} (t : Table X) (n : ℕ) (l : Bool) (a : ℕ) (j e : Bool) (x : X)
    → pulls_line t (where_joined (λ b. rise t b l) (at (Give n) (site_of a j e x))) ≡ pulls_line t (at (Give n) (site_of a j e x))
give_stays t zero l a true true x = refl
give_stays t (suc n) l a true true x = refl
give_stays t n l a true false x = refl
give_stays t n l a false e x = refl

pub give_calm : {X : Type 0} (t : Table X) (n : ℕ) (ss : List (Site X)) (h : Bool) → IsCalm t (map (at (Give n)) ss) h
give_calm t n ss h =
    calm_by t (at (Give n)) ss h (λ s. at_low (Give n) s.addr s.joined s.heard s.state)
    (λ s l. give_high t n l s.addr s.joined s.heard s.state)
    (λ s l. give_stays t n l s.addr s.joined s.heard s.state)

pub give_calms : {X : Type 0} (t : Table X) (k : ℕ) (ss : List (Site X)) → Calm t (map (at (Give k)) ss) (replicate k true)
give_calms t zero ss = tt
give_calms t (suc k) ss = (
  give_calm t (suc k) ss true,
  subst (λ bs. Calm t bs (replicate k true)) (sym (give_step t k ss))
      (give_calms t k ss),
)

-- ---- what a put and a get come to on the lines
pub put_bits : {X : Type 0} (t : Table X) (mask : Mask X) (byte : ℕ) → byte < 256 → (low : Bool) (ss : List (Site X)) (c : Seen)
    → bit_steps t mask 0 (bits 8 byte) (bus_of true low (map (at (In false 8 0)) ss) c)
    ≡ came_up (value 0 (levels t (map (at (In false 8 0)) ss) (bits 8 byte)))
    (bus_of true (last_low low (bits 8 byte)) (map (answering t byte) ss) (with_levels (bits 8 byte) c))
put_bits {X} t mask byte lt low ss c =
    let v : value 0 (bits 8 byte) ≡ byte = value_bits 8 byte 0 ∙ omega arith in
    let r : ℕ = value 0 (levels t (map (at (In false 8 0)) ss) (bits 8 byte)) in
    let l : Bool = last_low low (bits 8 byte) in
    bits_calm t mask (bits 8 byte) 0 low (map (at (In false 8 0)) ss) c (take_calms t (bit byte 7) (bits 7 byte) 0 ss)
    ∙ (ap (λ ls. came_up r (bus_of true l (run t (map (at (In false 8 0)) ss) (bits 8 byte)) (with_levels ls c)))
    (free_levels t (λ n w. at (In false n w)) (λ m w k s. take_one t m w k s.addr s.joined s.heard s.state)
    (λ m w xs k. take_sda t (suc m) w xs k) (bit byte 7) (bits 7 byte) 0 ss)
    ∙ ap (λ bs. came_up r (bus_of true l bs (with_levels (bits 8 byte) c)))
    (take_run t (bit byte 7) (bits 7 byte) 0 ss ∙ ap (λ n. map (answering t n) ss) v))

pub put_ack : {X : Type 0} (t : Table X) (mask : Mask X) (byte : ℕ) (v : ℕ) (low : Bool) (ss : List (Site X)) (c : Seen)
    → bit_step t mask v true (bus_of true low (map (answering t byte) ss) c)
    ≡ came_up (shifted v (not (some_one (acks t byte) ss))) (bus_of true false (map (at (In false 8 0)) (map (put_site t byte) ss))
    (Level (not (some_one (acks t byte) ss)) ∷ c))
put_ack {X} t mask byte v low ss c =
    let l : Bool = sda t (map (answering t byte) ss) true in
    bit_calm t mask v true low (map (answering t byte) ss) c (answering_calm t byte ss true)
    ∙ (ap (λ bs. came_up (shifted v l) (bus_of true false bs (Level l ∷ c)))
    (map_step (answering t byte) (λ s. at (In false 8 0) (put_site t byte s)) _ (λ s. ack_one t byte l s.addr s.joined s.heard s.state) ss
    ∙ sym (map_map (put_site t byte) (at (In false 8 0)) ss))
    ∙ ap (λ k. came_up (shifted v k) (bus_of true false (map (at (In false 8 0)) (map (put_site t byte) ss)) (Level k ∷ c)))
    (ap not (some_map (answering t byte) (pulls_line t) (acks t byte) (λ s. ack_pulls t byte s.addr s.joined s.heard s.state) ss)))

pub get_bits : {X : Type 0} (t : Table X) (mask : Mask X) (low : Bool) (ss : List (Site X)) (c : Seen)
    → bit_steps t mask 0 (replicate 8 true) (bus_of true low (map (at (Give 8)) ss) c)
    ≡ came_up (and_all (map (sent_by t) ss)) (bus_of true false (map (at (Give 0)) ss)
    (with_levels (bits 8 (and_all (map (sent_by t) ss))) c))
get_bits {X} t mask low ss c =
    let a : ℕ = and_all (map (sent_by t) ss) in
    let bs : List (Bit X) = run t (map (at (Give 8)) ss) (replicate 8 true) in
    bits_calm t mask (replicate 8 true) 0 low (map (at (Give 8)) ss) c (give_calms t 8 ss)
    ∙ (ap (λ n. came_up n (bus_of true false bs (with_levels (levels t (map (at (Give 8)) ss) (replicate 8 true)) c))) (get_value t ss)
    ∙ (ap (λ ls. came_up a (bus_of true false bs (with_levels ls c))) (give_levels t 8 (omega arith) ss)
    ∙ ap (λ xs. came_up a (bus_of true false xs (with_levels (bits 8 a) c))) (give_run t 8 ss)))

-- the controller's answer to it: it reads its own level, and leaves what the world of bytes has
pub get_answer : {X : Type 0} (t : Table X) (mask : Mask X) (ack : Bool) (v : ℕ) (low : Bool) (ss : List (Site X)) (c : Seen)
    → bit_step t mask v (not ack) (bus_of true low (map (at (Give 0)) ss) c)
    ≡ came_up (shifted v (not ack)) (bus_of true (not (not ack)) (map (at (cond ack (Give 8) Out)) (map (get_site t ack) ss))
    (Level (not ack) ∷ c))
get_answer {X} t mask ack v low ss c =
    let own : sda t (map (at (Give 0)) ss) (not ack) ≡ not ack =
    free_sda t (at (Give 0)) (λ s. give_quiet t s.addr s.joined s.heard s.state) ss (not ack) in
    let after : clock_all t (map (at (Give 0)) ss) (not ack) ≡ map (at (cond ack (Give 8) Out)) (map (get_site t ack) ss) =
    ap (λ l. map (where_joined (λ b. clock t b l)) (map (at (Give 0)) ss)) own
    ∙ (map_step (at (Give 0)) (λ s. at (cond ack (Give 8) Out) (get_site t ack s)) _
    (λ s. answer_one t ack s.addr s.joined s.heard s.state) ss
    ∙ sym (map_map (get_site t ack) (at (cond ack (Give 8) Out)) ss)) in
    bit_calm t mask v (not ack) low (map (at (Give 0)) ss) c (give_calm t 0 ss (not ack))
    ∙ (ap (λ l. came_up (shifted v l) (bus_of true (not (not ack)) (clock_all t (map (at (Give 0)) ss) (not ack)) (Level l ∷ c))) own
    ∙ ap (λ bs. came_up (shifted v (not ack)) (bus_of true (not (not ack)) bs (Level (not ack) ∷ c))) after)
