-- Targets of which it isn't kept whether they are joined: once that is known of all, each is what it would be if it had been kept.
use Rattle.bus_lines.proofs.Cited.{◌≡◌, ℕ, zero, suc, ◌+◌, ◌<◌, ◌==◌, Bool, true, false, ◌&&◌, ◌||◌, cond, List, [], ◌∷◌, length, map, drop}
use Rattle.bus_lines.proofs.Cited.{set, get_or, Option, Some, None, refl, sym, ap, ◌∙◌, subst, inl, inr, arith, bit_and, slice_get}
use Rattle.bus_lines.proofs.Cited.{list_all, list_any, option_map_or, eqb_tells, drop_more, Bit, rejoin_from, NodeState, PlaceView}
use Rattle.bus_lines.proofs.Cited.{states_on, joins_by, read_anew, known, knows, known_on, known_of, AreKnown, is_among, by_number, some_by}
use Rattle.bus_lines.proofs.Cited.{and_by, to_those, of_those, given_by, or-true, eq_self}
use Rattle.bus_lines.proofs.KindLemmas.{doors, joins_kept}
use Rattle.bus_lines.proofs.NumberedLemmas.{numbered_same, numbered_twice, numbered_itself, at_number, set_number, gathered, some_gathered}
use Rattle.bus_lines.proofs.NumberedLemmas.{and_gathered}
use Rattle.bus_lines.proofs.StopLemmas.{rejoin_numbered}

-- ---- one target
pub known_same : (j : Bool) (b : Bit NodeState) → b.site.joined ≡ j → known j b ≡ b
known_same j b is = ap (λ i. known i b) (sym is)

-- ---- states stay
states_by : (f : ℕ → Bit NodeState → Bit NodeState) (k : ℕ) (bs : List (Bit NodeState))
    → ((i : ℕ) (b : Bit NodeState) → (f i b).site.state ≡ b.site.state) → states_on (by_number f k bs) ≡ states_on bs
states_by f k [] same = refl
states_by f k (b ∷ bs) same = ap (λ x. x ∷ states_on (by_number f (k + 1) bs)) (same k b) ∙ ap (λ xs. b.site.state ∷ xs)
    (states_by f (k + 1) bs same)

pub states_knows : (f : ℕ → Bool) (bs : List (Bit NodeState)) → states_on (knows f bs) ≡ states_on bs
states_knows f bs = states_by (λ k b. known (f k) b) 0 bs (λ i b. refl)

known_of_state : (t j : Bool) (b : Bit NodeState) → (cond t (known j b) b).site.state ≡ b.site.state
known_of_state true j b = refl
known_of_state false j b = refl

pub states_known_of : (ns : List ℕ) (f : ℕ → Bool) (bs : List (Bit NodeState)) → states_on (by_number (known_of ns f) 0 bs) ≡ states_on bs
states_known_of ns f bs = states_by (known_of ns f) 0 bs (λ i b. known_of_state (is_among ns i) (f i) b)

known_either : (t j : Bool) (b : Bit NodeState) → known j (cond t (known j b) b) ≡ known j b
known_either true j b = refl
known_either false j b = refl

-- it is known of some, and then of all
pub knows_of : (ns : List ℕ) (f : ℕ → Bool) (bs : List (Bit NodeState)) → knows f (by_number (known_of ns f) 0 bs) ≡ knows f bs
knows_of ns f bs =
    numbered_twice (known_of ns f) (λ k b. known (f k) b) 0 bs
    ∙ numbered_same (λ k b. known (f k) (known_of ns f k b)) (λ k b. known (f k) b) bs (λ k b is. known_either (is_among ns k) (f k) b)

module _ (ps : List PlaceView) where
  -- what was read anew of some is nothing new
  pub refreshed : (ns : List ℕ) (bs new : List (Bit NodeState)) → new ≡ by_number (known_of ns (joins_by ps (states_on bs))) 0 bs
      → known_on ps new ≡ known_on ps bs
  refreshed ns bs new is =
      let f = joins_by ps (states_on bs) in
      ap (known_on ps) is
      ∙ ap (λ xs. knows (joins_by ps xs) (by_number (known_of ns f) 0 bs)) (states_known_of ns f bs)
      ∙ knows_of ns f bs

  pub refreshed_states : (ns : List ℕ) (bs new : List (Bit NodeState)) → new ≡ by_number (known_of ns (joins_by ps (states_on bs))) 0 bs
      → states_on new ≡ states_on bs
  refreshed_states ns bs new is = ap states_on is ∙ states_known_of ns (joins_by ps (states_on bs)) bs

  among_known : (t j : Bool) (b c : Bit NodeState) → cond t (known j b) b ≡ c → t ≡ true → c.site.joined ≡ j
  among_known true j b c is among = ap (λ (x : Bit NodeState). x.site.joined) (sym is)
  among_known false j b c is among = absurd (let e : false ≡ true = among in cc)

  -- it is kept of these
  pub refreshed_those : (ns : List ℕ) (bs new : List (Bit NodeState)) → new ≡ by_number (known_of ns (joins_by ps (states_on bs))) 0 bs
      → AreKnown ns ps new
  refreshed_those ns bs new is k c at among =
      let f = joins_by ps (states_on bs) in
      let r = at_number (known_of ns f) k bs c (sym (ap (λ xs. slice_get xs k) is) ∙ at) in
      among_known (is_among ns k) (f k) r.0 c r.2 among ∙ ap (λ xs. joins_by ps xs k) (sym (refreshed_states ns bs new is))

  stays_known : (t j : Bool) (b c : Bit NodeState) → cond t (known j b) b ≡ c → b.site.joined ≡ j → c.site.joined ≡ j
  stays_known true j b c is was = ap (λ (x : Bit NodeState). x.site.joined) (sym is)
  stays_known false j b c is was = ap (λ (x : Bit NodeState). x.site.joined) (sym is) ∙ was

  -- and of those of which it was
  pub refreshed_others : (ms ns : List ℕ) (bs new : List (Bit NodeState)) → new ≡ by_number (known_of ns (joins_by ps (states_on bs))) 0 bs
      → AreKnown ms ps bs → AreKnown ms ps new
  refreshed_others ms ns bs new is were k c at among =
      let f = joins_by ps (states_on bs) in
      let r = at_number (known_of ns f) k bs c (sym (ap (λ xs. slice_get xs k) is) ∙ at) in
      stays_known (is_among ns k) (f k) r.0 c r.2 (were k r.0 r.1 among) ∙ ap (λ xs. joins_by ps xs k) (sym (refreshed_states ns bs new is))

  -- ---- what is done to those of which it is kept
  done_known : (t j i : Bool) (g : Bit NodeState → Bit NodeState) (b : Bit NodeState) → j ≡ i
      → ((c : Bit NodeState) → (g c).site.joined ≡ c.site.joined)
      → (t ≡ true → b.site.joined ≡ j) → known i (cond t (g b) b) ≡ cond t (g (known j b)) (known j b)
  done_known true j i g b same keeps was =
      known_same i (g b) (keeps b ∙ was refl ∙ same) ∙ ap g (sym (known_same j b (was refl)))
  done_known false j i g b same keeps was = ap (λ k. known k b) (sym same)

  -- where what is done leaves who is joined, and no channel opens or closes
  pub told_known : (ns : List ℕ) (g : Bit NodeState → Bit NodeState) (bs new : List (Bit NodeState)) → new ≡ by_number (to_those ns g) 0 bs
      → ((c : Bit NodeState) → (g c).site.joined ≡ c.site.joined) → map doors (states_on new) ≡ map doors (states_on bs) → AreKnown ns ps bs
      → known_on ps new ≡ by_number (to_those ns g) 0 (known_on ps bs)
  told_known ns g bs new is keeps doors were =
      let f = joins_by ps (states_on bs) in
      let h = joins_by ps (states_on new) in
      let t = to_those ns g in
      ap (knows h) is ∙ numbered_twice t (λ k b. known (h k) b) 0 bs
      ∙ numbered_same (λ k b. known (h k) (t k b)) (λ k b. t k (known (f k) b)) bs
      (λ k b at. done_known (is_among ns k) (f k) (h k) g b (sym (joins_kept ps (states_on new) (states_on bs) doors k)) keeps
      (λ among. were k b at among))
      ∙ sym (numbered_twice (λ k b. known (f k) b) t 0 bs)

  keeps_either : (t : Bool) (g : Bit NodeState → Bit NodeState) (b c : Bit NodeState) → cond t (g b) b ≡ c
      → ((d : Bit NodeState) → (g d).site.joined ≡ d.site.joined) → c.site.joined ≡ b.site.joined
  keeps_either true g b c is keeps = ap (λ (x : Bit NodeState). x.site.joined) (sym is) ∙ keeps b
  keeps_either false g b c is keeps = ap (λ (x : Bit NodeState). x.site.joined) (sym is)

  pub told_keeps : (ms ns : List ℕ) (g : Bit NodeState → Bit NodeState) (bs new : List (Bit NodeState))
      → new ≡ by_number (to_those ns g) 0 bs
      → ((c : Bit NodeState) → (g c).site.joined ≡ c.site.joined) → map doors (states_on new) ≡ map doors (states_on bs) → AreKnown ms ps bs
      → AreKnown ms ps new
  told_keeps ms ns g bs new is keeps doors were k c at among =
      let r = at_number (to_those ns g) k bs c (sym (ap (λ xs. slice_get xs k) is) ∙ at) in
      keeps_either (is_among ns k) g r.0 c r.2 keeps ∙ were k r.0 r.1 among
      ∙ sym (joins_kept ps (states_on new) (states_on bs) doors k)

  -- ---- what is asked of those of which it is kept
  known_from : {B : Type 0} (op : B → B → B) (e : B) (q : ℕ → Bit NodeState → B) (f : ℕ → Bool) (k : ℕ) (bs : List (Bit NodeState))
      → ((i : ℕ) (b : Bit NodeState) → slice_get bs i ≡ Some b → q (k + i) b ≡ q (k + i) (known (f (k + i)) b))
      → gathered op e q k bs ≡ gathered op e q k (by_number (λ i b. known (f i) b) k bs)
  known_from op e q f k [] same = refl
  known_from op e q f k (b ∷ bs) same =
      let at : k + 0 ≡ k = omega arith in
      ap (λ x. op x (gathered op e q (k + 1) bs)) (subst (λ n. q n b ≡ q n (known (f n) b)) at (same 0 b refl))
      ∙ ap (op (q k (known (f k) b)))
      (known_from op e q f (k + 1) bs (λ i c is. let at_next : k + suc i ≡ k + 1 + i = omega arith in
      subst (λ n. q n c ≡ q n (known (f n) c)) at_next (same (suc i) c is)))

  -- what is asked, or taken, of these alone
  either_known : {B : Type 0} (q : Bool → Bit NodeState → B) → ((j : Bool) (b : Bit NodeState) → q false b ≡ q false (known j b))
      → (t j : Bool) (b : Bit NodeState) → (t ≡ true → b.site.joined ≡ j) → q t b ≡ q t (known j b)
  either_known q other true j b was = ap (q true) (sym (known_same j b (was refl)))
  either_known q other false j b was = other j b

  those_known : {B : Type 0} (op : B → B → B) (e : B) (q : Bool → Bit NodeState → B)
      → ((j : Bool) (b : Bit NodeState) → q false b ≡ q false (known j b)) → (ns : List ℕ) (bs : List (Bit NodeState)) → AreKnown ns ps bs
      → gathered op e (λ k b. q (is_among ns k) b) 0 bs ≡ gathered op e (λ k b. q (is_among ns k) b) 0 (known_on ps bs)
  those_known op e q other ns bs were =
      let joins = joins_by ps (states_on bs) in
      known_from op e (λ k b. q (is_among ns k) b) joins 0 bs
      (λ i b is. let at : i ≡ 0 + i = omega arith in
      subst (λ n. q (is_among ns n) b ≡ q (is_among ns n) (known (joins n) b)) at
      (either_known q other (is_among ns i) (joins i) b (were i b is)))

  pub some_known : (ns : List ℕ) (p : Bit NodeState → Bool) (bs : List (Bit NodeState)) → AreKnown ns ps bs
      → some_by (of_those ns p) 0 bs ≡ some_by (of_those ns p) 0 (known_on ps bs)
  some_known ns p bs were =
      some_gathered (of_those ns p) 0 bs ∙ those_known ◌||◌ false (λ t b. t && p b) (λ j b. refl) ns bs were
      ∙ sym (some_gathered (of_those ns p) 0 (known_on ps bs))

  pub given_known : (ns : List ℕ) (q : Bit NodeState → ℕ) (bs : List (Bit NodeState)) → AreKnown ns ps bs
      → and_by (given_by ns q) 0 bs ≡ and_by (given_by ns q) 0 (known_on ps bs)
  given_known ns q bs were =
      and_gathered (given_by ns q) 0 bs ∙ those_known bit_and 255 (λ t b. cond t (q b) 255) (λ j b. refl) ns bs were
      ∙ sym (and_gathered (given_by ns q) 0 (known_on ps bs))

-- ---- one by its number
get_knows : (f : ℕ → Bool) (k i : ℕ) (bs : List (Bit NodeState))
    → slice_get (by_number (λ j b. known (f j) b) k bs) i ≡ option_map_or (λ (b : Bit NodeState). Some (known (f (k + i)) b))
    (slice_get bs i) None
get_knows f k i [] = refl
get_knows f k zero (b ∷ bs) = let e : k ≡ k + 0 = omega arith in ap (λ n. Some (known (f n) b)) e
get_knows f k (suc i) (b ∷ bs) =
    let e : k + 1 + i ≡ k + suc i = omega arith in
    get_knows f (k + 1) i bs ∙ ap (λ n. option_map_or (λ (c : Bit NodeState). Some (known (f n) c)) (slice_get bs i) None) e

module _ (test : Bit NodeState → Bool) where
  test_one : (j : Bool) (o : Option (Bit NodeState)) → ((b : Bit NodeState) → o ≡ Some b → b.site.joined ≡ j)
      → option_map_or test o false ≡ option_map_or test (option_map_or (λ (b : Bit NodeState). Some (known j b)) o None) false
  test_one j None were = refl
  test_one j (Some b) were = ap test (sym (known_same j b (were b refl)))

  -- what is asked of one of which it is kept
  pub test_known : (ps : List PlaceView) (bs : List (Bit NodeState)) (k : ℕ)
      → ((b : Bit NodeState) → slice_get bs k ≡ Some b → b.site.joined ≡ joins_by ps (states_on bs) k)
      → option_map_or test (slice_get bs k) false ≡ option_map_or test (slice_get (known_on ps bs) k) false
  test_known ps bs k were =
      let f = joins_by ps (states_on bs) in
      let e : k ≡ 0 + k = omega arith in
      test_one (f k) (slice_get bs k) were
      ∙ ap (λ n. option_map_or test (option_map_or (λ (b : Bit NodeState). Some (known (f n) b)) (slice_get bs k) None) false) e
      ∙ ap (λ o. option_map_or test o false) (sym (get_knows f 0 k bs))

  among_here : (n : ℕ) (ns : List ℕ) → is_among (n ∷ ns) n ≡ true
  among_here n ns = rw (eq_self n) refl

  among_more : (n k : ℕ) (ns : List ℕ) → is_among ns k ≡ true → is_among (n ∷ ns) k ≡ true
  among_more n k ns among = rw among (or-true (k == n))

  -- .. of all of these, or of one of them
  those_asked : (ps : List PlaceView) (bs : List (Bit NodeState)) (ns : List ℕ) → AreKnown ns ps bs
      → (list_all (λ k. option_map_or test (slice_get bs k) false) ns
      ≡ list_all (λ k. option_map_or test (slice_get (known_on ps bs) k) false) ns)
      × (list_any (λ k. option_map_or test (slice_get bs k) false) ns
      ≡ list_any (λ k. option_map_or test (slice_get (known_on ps bs) k) false) ns)
  those_asked ps bs [] were = (refl, refl)
  those_asked ps bs (n ∷ ns) were =
      let here = test_known ps bs n (λ b at. were n b at (among_here n ns)) in
      let rest = those_asked ps bs ns (λ k b at among. were k b at (among_more n k ns among)) in
      (rw (here, rest.0) refl, rw (here, rest.1) refl)

  pub all_known : (ps : List PlaceView) (bs : List (Bit NodeState)) (ns : List ℕ) → AreKnown ns ps bs
      → list_all (λ k. option_map_or test (slice_get bs k) false) ns
      ≡ list_all (λ k. option_map_or test (slice_get (known_on ps bs) k) false) ns
  all_known ps bs ns were = (those_asked ps bs ns were).0

  pub any_known : (ps : List PlaceView) (bs : List (Bit NodeState)) (ns : List ℕ) → AreKnown ns ps bs
      → list_any (λ k. option_map_or test (slice_get bs k) false) ns
      ≡ list_any (λ k. option_map_or test (slice_get (known_on ps bs) k) false) ns
  any_known ps bs ns were = (those_asked ps bs ns were).1

-- ---- a stop: whether they were joined is read anew
anew_known : (f g : ℕ → Bool) (bs : List (Bit NodeState)) → rejoin_from f 0 (knows g bs) ≡ rejoin_from f 0 bs
anew_known f g bs =
    rejoin_numbered f 0 (knows g bs) ∙ numbered_twice (λ k b. known (g k) b) (λ k b. read_anew (f k) b) 0 bs ∙ sym (rejoin_numbered f 0 bs)

-- what is told to those of which it is kept is told to all as they are known, whatever becomes of who is joined
told_either : (t j i : Bool) (g : Bit NodeState → Bit NodeState) (b : Bit NodeState) → (t ≡ true → b.site.joined ≡ j)
    → known i (cond t (g b) b) ≡ known i (cond t (g (known j b)) (known j b))
told_either true j i g b was = ap (λ c. known i (g c)) (sym (known_same j b (was refl)))
told_either false j i g b was = refl

pub told_knows : (ps : List PlaceView) (h : ℕ → Bool) (ns : List ℕ) (g : Bit NodeState → Bit NodeState) (bs : List (Bit NodeState))
    → AreKnown ns ps bs
    → knows h (by_number (to_those ns g) 0 bs) ≡ knows h (by_number (to_those ns g) 0 (known_on ps bs))
told_knows ps h ns g bs were =
    let f = joins_by ps (states_on bs) in
    let t = to_those ns g in
    numbered_twice t (λ k b. known (h k) b) 0 bs
    ∙ numbered_same (λ k b. known (h k) (t k b)) (λ k b. known (h k) (t k (known (f k) b))) bs
    (λ k b at. told_either (is_among ns k) (f k) (h k) g b (λ among. were k b at among))
    ∙ sym (ap (knows h) (numbered_twice (λ k b. known (f k) b) t 0 bs) ∙ numbered_twice (λ k b. t k (known (f k) b))
    (λ k b. known (h k) b) 0 bs)

pub told_states : (ps : List PlaceView) (ns : List ℕ) (g : Bit NodeState → Bit NodeState) (bs : List (Bit NodeState)) → AreKnown ns ps bs
    → states_on (by_number (to_those ns g) 0 bs) ≡ states_on (by_number (to_those ns g) 0 (known_on ps bs))
told_states ps ns g bs were =
    let none : ℕ → Bool = λ k. false in
    sym (states_knows none (by_number (to_those ns g) 0 bs)) ∙ ap states_on (told_knows ps none ns g bs were)
    ∙ states_knows none (by_number (to_those ns g) 0 (known_on ps bs))

-- who is joined read anew of all is what is known of all
pub rejoins_known : (ps : List PlaceView) (ns : List ℕ) (g : Bit NodeState → Bit NodeState) (bs new : List (Bit NodeState))
    → new ≡ by_number (to_those ns g) 0 bs → AreKnown ns ps bs
    → rejoin_from (joins_by ps (states_on new)) 0 new
    ≡ rejoin_from (joins_by ps (states_on (by_number (to_those ns g) 0 (known_on ps bs)))) 0 (by_number (to_those ns g) 0 (known_on ps bs))
rejoins_known ps ns g bs new is were =
    let told = by_number (to_those ns g) 0 bs in
    let all = by_number (to_those ns g) 0 (known_on ps bs) in
    let none : ℕ → Bool = λ k. false in
    ap (λ xs. rejoin_from (joins_by ps (states_on xs)) 0 xs) is
    ∙ ap (λ ss. rejoin_from (joins_by ps ss) 0 told) (told_states ps ns g bs were)
    ∙ sym (anew_known (joins_by ps (states_on all)) none told)
    ∙ ap (rejoin_from (joins_by ps (states_on all)) 0) (told_knows ps none ns g bs were)
    ∙ anew_known (joins_by ps (states_on all)) none all

states_anew : (f : ℕ → Bool) (bs : List (Bit NodeState)) → states_on (rejoin_from f 0 bs) ≡ states_on bs
states_anew f bs = ap states_on (rejoin_numbered f 0 bs) ∙ states_by (λ k b. read_anew (f k) b) 0 bs (λ i b. refl)

-- who was read anew is known
pub anew_is_known : (ps : List PlaceView) (bs new : List (Bit NodeState)) → new ≡ rejoin_from (joins_by ps (states_on bs)) 0 bs
    → known_on ps new ≡ new
anew_is_known ps bs new is =
    let f = joins_by ps (states_on bs) in
    ap (known_on ps) is ∙ ap (λ ss. knows (joins_by ps ss) (rejoin_from f 0 bs)) (states_anew f bs)
    ∙ ap (knows f) (rejoin_numbered f 0 bs) ∙ numbered_twice (λ k b. read_anew (f k) b) (λ k b. known (f k) b) 0 bs
    ∙ sym (rejoin_numbered f 0 bs) ∙ sym is

-- all are known of whom it is known
pub are_known : (ms : List ℕ) (ps : List PlaceView) (bs : List (Bit NodeState)) → known_on ps bs ≡ bs → AreKnown ms ps bs
are_known ms ps bs all k c at among =
    let f = joins_by ps (states_on bs) in
    let r = at_number (λ j b. known (f j) b) k bs c (ap (λ xs. slice_get xs k) all ∙ at) in
    ap (λ (x : Bit NodeState). x.site.joined) (sym r.2)

known_deaf : (j : Bool) (b : Bit NodeState) → b.site.heard ≡ false → known j b ≡ read_anew j b
known_deaf j b deaf = ap (λ h. record b { site = record b.site { joined = j; heard = h } }) deaf

-- where nobody is in a message, to know who is joined is to read it anew
pub knows_anew : (f : ℕ → Bool) (bs : List (Bit NodeState)) → ((k : ℕ) (b : Bit NodeState) → slice_get bs k ≡ Some b → b.site.heard ≡ false)
    → knows f bs ≡ rejoin_from f 0 bs
knows_anew f bs deaf =
    numbered_same (λ k b. known (f k) b) (λ k b. read_anew (f k) b) bs (λ k b at. known_deaf (f k) b (deaf k b at))
    ∙ sym (rejoin_numbered f 0 bs)

-- ---- a loop over some numbers
abbrev pub read_those : (ℕ → Bool) → List ℕ → List (Bit NodeState) → List (Bit NodeState)
read_those f [] bs = bs
read_those f (n ∷ ns) bs = read_those f ns (by_number (λ k b. cond (k == n) (known (f k) b) b) 0 bs)

read_twice : (here there j : Bool) (b : Bit NodeState)
    → cond there (known j (cond here (known j b) b)) (cond here (known j b) b) ≡ cond (here || there) (known j b) b
read_twice true true j b = refl
read_twice true false j b = refl
read_twice false there j b = refl

pub each_read : (f : ℕ → Bool) (ns : List ℕ) (bs : List (Bit NodeState)) → read_those f ns bs ≡ by_number (known_of ns f) 0 bs
each_read f [] bs = sym (numbered_itself (known_of [] f) bs (λ k b at. refl))
each_read f (n ∷ ns) bs =
    let one : ℕ → Bit NodeState → Bit NodeState = λ k b. cond (k == n) (known (f k) b) b in
    each_read f ns (by_number one 0 bs) ∙ numbered_twice one (known_of ns f) 0 bs
    ∙ numbered_same (λ k b. known_of ns f k (one k b)) (known_of (n ∷ ns) f) bs
    (λ k b at. read_twice (k == n) (is_among ns k) (f k) b)

one_read : (f : ℕ → Bool) (n k : ℕ) (here : Bool) (b : Bit NodeState) → (k == n) ≡ here → cond here (known (f n) b) b ≡ cond here
    (known (f k) b) b
one_read f n k true b at =
    let e : k ≡ n = elim (eqb_tells k n) [
      | inl y ↦ y.1
      | inr y ↦ absurd (let no : true ≡ false = sym at ∙ y.0 in cc)
    ] in ap (λ i. known (f i) b) (sym e)
one_read f n k false b at = refl

pub read_next : (f : ℕ → Bool) (ns : List ℕ) (i n : ℕ) → i < length ns → n ≡ get_or ns i 0 → (bs : List (Bit NodeState))
    (d y : Bit NodeState)
    → n < length bs → y ≡ known (f n) (get_or bs n d)
    → read_those f (drop (i + 1) ns) (set bs n y) ≡ read_those f (drop i ns) bs
read_next f ns i n lt at bs d y low is =
    let one : ℕ → Bit NodeState → Bit NodeState = λ k b. cond (k == n) (known (f k) b) b in
    ap (read_those f (drop (i + 1) ns))
    (set_number n (known (f n)) bs d y low is
    ∙ numbered_same (λ k b. cond (k == n) (known (f n) b) b) one bs (λ k b here. one_read f n k (k == n) b refl))
    ∙ ap (λ m. read_those f (m ∷ drop (i + 1) ns) bs) at
    ∙ ap (λ ms. read_those f ms bs) (sym (drop_more ns i 0 lt))
