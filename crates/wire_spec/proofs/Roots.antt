-- The targets of one root keep step: a clock is a map over the sites, by two cases each.
use Rattle.wire_spec.proofs.Cited.{◌≡◌, ℕ, zero, suc, ◌<◌, ◌≤◌, Bool, true, false, cond, List, [], ◌∷◌, length, map, refl, ap, sym, ◌∙◌}
use Rattle.wire_spec.proofs.Cited.{arith, ◌&&◌, ◌||◌, not, replicate, Table, is_ack, Out, In, Answered, Give, Site, Bit, bit, bits, shifted}
use Rattle.wire_spec.proofs.Cited.{value, clock, stands, some_one, pulls_line, sda, where_joined, clock_all, run, levels, and_all, hearing}
use Rattle.wire_spec.proofs.Cited.{put_site, acks, get_site, sent_by, at, and-true}
use Rattle.i2c_base.specs.declared.event.Event.TheVariants.{Put}
use Rattle.wire_spec.specs.declared.mode.Next.TheVariants.{Take}
use Rattle.wire_spec.proofs.ByteLemmas.{value_bits, bit_and_bit, bit_ones, and_all_byte}

-- what is done to each is a map
pub map_step : {A B : Type 0} (f g : A → B) (F : B → B) → ((a : A) → F (f a) ≡ g a) → (xs : List A) → map F (map f xs) ≡ map g xs
map_step f g F h [] = refl
map_step f g F h (x ∷ xs) = ap (λ y. y ∷ map F (map f xs)) (h x) ∙ ap (λ ys. g x ∷ ys) (map_step f g F h xs)

-- what someone has before is what someone has after
pub some_map : {A B : Type 0} (f : A → B) (p : B → Bool) (q : A → Bool) → ((a : A) → p (f a) ≡ q a) → (xs : List A)
    → some_one p (map f xs) ≡ some_one q xs
some_map f p q h [] = refl
some_map f p q h (x ∷ xs) = ap (λ y. y || some_one p (map f xs)) (h x) ∙ ap (λ y. q x || y) (some_map f p q h xs)

pub no_one : {A : Type 0} (xs : List A) → some_one (λ x. false) xs ≡ false
no_one [] = refl
no_one (x ∷ xs) = no_one xs

-- where no one pulls, SDA is the controller's
pub free_sda : {A X : Type 0} (t : Table X) (f : A → Bit X) → ((a : A) → pulls_line t (f a) ≡ false) → (xs : List A) (h : Bool)
    → sda t (map f xs) h ≡ h
free_sda t f quiet xs h = ap (λ y. h && not y) (some_map f (pulls_line t) (λ x. false) quiet xs ∙ no_one xs) ∙ and-true h

-- the levels of bits that targets shift in alike, while nobody pulls, are these bits
pub free_levels : {X : Type 0} (t : Table X) (f : ℕ → ℕ → Site X → Bit X)
    → ((m v : ℕ) (l : Bool) (s : Site X) → where_joined (λ b. clock t b l) (f (suc (suc m)) v s) ≡ f (suc m) (shifted v l) s)
    → ((m v : ℕ) (ss : List (Site X)) (h : Bool) → sda t (map (f (suc m) v) ss) h ≡ h)
    → (h : Bool) (hs : List Bool) (v : ℕ) (ss : List (Site X))
    → levels t (map (f (suc (length hs)) v) ss) (h ∷ hs) ≡ h ∷ hs
free_levels t f step free h [] v ss = ap (λ l. l ∷ []) (free 0 v ss h)
free_levels t f step free h (k ∷ hs) v ss =
    let l : Bool = sda t (map (f (suc (suc (length hs))) v) ss) h in
    ap (λ ls. l ∷ ls)
    (ap (λ bs. levels t bs (k ∷ hs)) (map_step (f (suc (suc (length hs))) v) (f (suc (length hs)) (shifted v l)) _
    (λ s. step (length hs) v l s) ss)
    ∙ free_levels t f step free k hs (shifted v l) ss)
    ∙ ap (λ x. x ∷ k ∷ hs) (free (suc (length hs)) v ss h)

-- ---- a byte comes in
pub take_one : {X : Type 0} (t : Table X) (n v : ℕ) (h : Bool) (a : ℕ) (j e : Bool) (x : X)
    → where_joined (λ b. clock t b h) (at (In false (suc (suc n)) v) (record { addr = a; joined = j; heard = e; state = x }))
    ≡ at (In false (suc n) (shifted v h)) (record { addr = a; joined = j; heard = e; state = x })
take_one t n v h a true true x = refl
take_one t n v h a true false x = refl
take_one t n v h a false e x = refl

-- after its last bit: answered, and before the acknowledge clock
abbrev pub answering : {X : Type 0} → Table X → ℕ → Site X → Bit X
answering t byte s =
    stands (put_site t byte s) (cond (hearing s) (Answered true (is_ack (t.answer s.state (Put byte))) Take 65) Out) 0

pub take_last : {X : Type 0} (t : Table X) (v : ℕ) (h : Bool) (a : ℕ) (j e : Bool) (x : X)
    → where_joined (λ b. clock t b h) (at (In false 1 v) (record { addr = a; joined = j; heard = e; state = x }))
    ≡ answering t (shifted v h) (record { addr = a; joined = j; heard = e; state = x })
take_last t v h a true true x = refl
take_last t v h a true false x = refl
take_last t v h a false e x = refl

take_quiet : {X : Type 0} (t : Table X) (n v a : ℕ) (j e : Bool) (x : X)
    → pulls_line t (at (In false n v) (record { addr = a; joined = j; heard = e; state = x })) ≡ false
take_quiet t n v a true true x = refl
take_quiet t n v a true false x = refl
take_quiet t n v a false e x = refl

pub take_sda : {X : Type 0} (t : Table X) (n v : ℕ) (ss : List (Site X)) (h : Bool) → sda t (map (at (In false n v)) ss) h ≡ h
take_sda t n v ss h = free_sda t (at (In false n v)) (λ s. take_quiet t n v s.addr s.joined s.heard s.state) ss h

-- the bits of a byte: what the lines leave, and their levels
pub take_run : {X : Type 0} (t : Table X) (h : Bool) (hs : List Bool) (v : ℕ) (ss : List (Site X))
    → run t (map (at (In false (suc (length hs)) v)) ss) (h ∷ hs) ≡ map (answering t (value v (h ∷ hs))) ss
take_run t h [] v ss =
    map_step (at (In false 1 v)) (answering t (shifted v (sda t (map (at (In false 1 v)) ss) h))) _
    (λ s. take_last t v (sda t (map (at (In false 1 v)) ss) h) s.addr s.joined s.heard s.state) ss
    ∙ ap (λ l. map (answering t (shifted v l)) ss) (take_sda t 1 v ss h)
take_run t h (k ∷ hs) v ss =
    ap (λ bs. run t bs (k ∷ hs)) (map_step (at (In false (suc (suc (length hs))) v)) (at (In false (suc (length hs))
    (shifted v (sda t (map (at (In false (suc (suc (length hs))) v)) ss) h)))) _
    (λ s. take_one t (length hs) v (sda t (map (at (In false (suc (suc (length hs))) v)) ss) h) s.addr s.joined s.heard s.state) ss
    ∙ ap (λ l. map (at (In false (suc (length hs)) (shifted v l))) ss) (take_sda t (suc (suc (length hs))) v ss h))
    ∙ take_run t k hs (shifted v h) ss

-- ---- the acknowledge clock
pub ack_one : {X : Type 0} (t : Table X) (byte : ℕ) (h : Bool) (a : ℕ) (j e : Bool) (x : X)
    → where_joined (λ b. clock t b h) (answering t byte (record { addr = a; joined = j; heard = e; state = x }))
    ≡ at (In false 8 0) (put_site t byte (record { addr = a; joined = j; heard = e; state = x }))
ack_one t byte h a true true x = refl
ack_one t byte h a true false x = refl
ack_one t byte h a false e x = refl

pub ack_pulls : {X : Type 0} (t : Table X) (byte : ℕ) (a : ℕ) (j e : Bool) (x : X)
    → pulls_line t (answering t byte (record { addr = a; joined = j; heard = e; state = x }))
    ≡ acks t byte (record { addr = a; joined = j; heard = e; state = x })
ack_pulls t byte a true true x = refl
ack_pulls t byte a true false x = refl
ack_pulls t byte a false e x = refl

pub map_map : {A B C : Type 0} (f : A → B) (g : B → C) (xs : List A) → map g (map f xs) ≡ map (λ x. g (f x)) xs
map_map f g [] = refl
map_map f g (x ∷ xs) = ap (λ ys. g (f x) ∷ ys) (map_map f g xs)

-- ---- a byte goes out
give_one : {X : Type 0} (t : Table X) (n : ℕ) (h : Bool) (a : ℕ) (j e : Bool) (x : X)
    → where_joined (λ b. clock t b h) (at (Give (suc n)) (record { addr = a; joined = j; heard = e; state = x }))
    ≡ at (Give n) (record { addr = a; joined = j; heard = e; state = x })
give_one t n h a true true x = refl
give_one t n h a true false x = refl
give_one t n h a false e x = refl

give_pulls : {X : Type 0} (t : Table X) (k : ℕ) → k < 8 → (a : ℕ) (j e : Bool) (x : X)
    → pulls_line t (at (Give (suc k)) (record { addr = a; joined = j; heard = e; state = x }))
    ≡ not (bit (sent_by t (record { addr = a; joined = j; heard = e; state = x })) k)
give_pulls t k lt a true true x = refl
give_pulls t k lt a true false x = ap not (sym (bit_ones k lt))
give_pulls t k lt a false e x = ap not (sym (bit_ones k lt))

nor : (a b : Bool) → not (not a || b) ≡ (a && not b)
nor true b = refl
nor false b = refl

-- wired AND, bit by bit
pub some_zero : (k : ℕ) → k < 8 → (ns : List ℕ) → not (some_one (λ n. not (bit n k)) ns) ≡ bit (and_all ns) k
some_zero k lt [] = sym (bit_ones k lt)
some_zero k lt (n ∷ ns) =
    nor (bit n k) (some_one (λ m. not (bit m k)) ns) ∙ (ap (λ y. bit n k && y) (some_zero k lt ns) ∙ sym (bit_and_bit n (and_all ns) k))

pub give_sda : {X : Type 0} (t : Table X) (k : ℕ) → k < 8 → (ss : List (Site X))
    → sda t (map (at (Give (suc k))) ss) true ≡ bit (and_all (map (sent_by t) ss)) k
give_sda t k lt ss =
    ap not (some_map (at (Give (suc k))) (pulls_line t) (λ s. not (bit (sent_by t s) k))
    (λ s. give_pulls t k lt s.addr s.joined s.heard s.state) ss
    ∙ sym (some_map (sent_by t) (λ n. not (bit n k)) (λ s. not (bit (sent_by t s) k)) (λ s. refl) ss))
    ∙ some_zero k lt (map (sent_by t) ss)

pub give_step : {X : Type 0} (t : Table X) (k : ℕ) (ss : List (Site X)) → clock_all t (map (at (Give (suc k))) ss) true ≡ map
    (at (Give k)) ss
give_step t k ss =
    map_step (at (Give (suc k))) (at (Give k)) _ (λ s. give_one t k
    (sda t (map (at (Give (suc k))) ss) true) s.addr s.joined s.heard s.state) ss

-- the controller lets SDA go, and reads the AND of the bytes
pub give_levels : {X : Type 0} (t : Table X) (k : ℕ) → k ≤ 8 → (ss : List (Site X))
    → levels t (map (at (Give k)) ss) (replicate k true) ≡ bits k (and_all (map (sent_by t) ss))
give_levels t zero le ss = refl
give_levels t (suc k) le ss =
    ap (λ l. l ∷ levels t (clock_all t (map (at (Give (suc k))) ss) true) (replicate k true)) (give_sda t k (omega arith) ss)
    ∙ ap (λ ls. bit (and_all (map (sent_by t) ss)) k ∷ ls)
    (ap (λ bs. levels t bs (replicate k true)) (give_step t k ss) ∙ give_levels t k (omega arith) ss)

pub give_run : {X : Type 0} (t : Table X) (k : ℕ) (ss : List (Site X)) → run t (map (at (Give k)) ss) (replicate k true) ≡ map
    (at (Give 0)) ss
give_run t zero ss = refl
give_run t (suc k) ss = ap (λ bs. run t bs (replicate k true)) (give_step t k ss) ∙ give_run t k ss

pub answer_one : {X : Type 0} (t : Table X) (ack : Bool) (a : ℕ) (j e : Bool) (x : X)
    → where_joined (λ b. clock t b (not ack)) (at (Give 0) (record { addr = a; joined = j; heard = e; state = x }))
    ≡ at (cond ack (Give 8) Out) (get_site t ack (record { addr = a; joined = j; heard = e; state = x }))
answer_one t true a true true x = refl
answer_one t false a true true x = refl
answer_one t true a true false x = refl
answer_one t false a true false x = refl
answer_one t ack a false e x = refl

pub give_quiet : {X : Type 0} (t : Table X) (a : ℕ) (j e : Bool) (x : X)
    → pulls_line t (at (Give 0) (record { addr = a; joined = j; heard = e; state = x })) ≡ false
give_quiet t a true true x = refl
give_quiet t a true false x = refl
give_quiet t a false e x = refl

-- what the controller reads is the bitwise AND of the bytes
pub get_value : {X : Type 0} (t : Table X) (ss : List (Site X))
    → value 0 (levels t (map (at (Give 8)) ss) (replicate 8 true)) ≡ and_all (map (sent_by t) ss)
get_value t ss =
    ap (value 0) (give_levels t 8 (omega arith) ss)
    ∙ (value_bits 8 (and_all (map (sent_by t) ss)) 0 ∙ omega (arith, and_all_byte (map (sent_by t) ss)))
