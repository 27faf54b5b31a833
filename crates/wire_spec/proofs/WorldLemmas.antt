-- What the sites of a root come to in a call is what its world of bytes does.
use Rattle.wire_spec.proofs.Cited.{◌≡◌, ℕ, ◌+◌, ◌<◌, ◌≤◌, Bool, true, false, cond, List, [], ◌∷◌, ◌++◌, map, Option, Some, None, refl, ap}
use Rattle.wire_spec.proofs.Cited.{sym, ◌∙◌, arith, ◌==◌, ◌&&◌, ◌||◌, if◌then◌else◌, nat_tests, Node, Answer, Nothing, BoardView, Table}
use Rattle.wire_spec.proofs.Cited.{ChipView, chip_table, TargetState, state_table, IsFairTable, World, some_answer, is_ack, has_heard}
use Rattle.wire_spec.proofs.Cited.{start_chips, start_devices, takes, gives, joins_chip, joins_device, site_of, Site, hears, other}
use Rattle.wire_spec.proofs.Cited.{some_one, hearing, put_site, acks, get_site, sent_by, and_all, start_site, stop_site, answers_so}
use Rattle.wire_spec.proofs.Cited.{NodeState, Chip, Device, node_table, site_with, both, devices_in, names_of, states_of, world_by, Tells}
use Rattle.wire_spec.proofs.Cited.{AreSites, and-true}
use Rattle.std.proofs.Common.{bit_and}
use Rattle.std.specs.List.{list_any}
use Rattle.std.proofs.lemmas.Grind.{common_steps}
use Rattle.std.proofs.lemmas.List.Folds.{list_any-append}
use Rattle.i2c_base.specs.declared.ids.Node.TheVariants as node
use Rattle.i2c_base.specs.declared.event.Event.{Event}
use Rattle.i2c_base.specs.declared.event.Event.TheVariants as event
use Rattle.i2c_base.specs.declared.port.PortCall.TheVariants as call
use Rattle.i2c_base.specs.Table.{byte_of}
use Rattle.i2c_spec.specs.World.{feed, given, answers, answer_with, heard_of, start_event, stop_event, to_chips, to_devices, is_chip}
use Rattle.i2c_spec.specs.World.{is_device, after, and_of, chip_start, device_start}
use Rattle.wire_spec.specs.Sites.{chips_in}
use Rattle.wire_spec.proofs.Roots.{map_map, some_map}
use Rattle.wire_spec.proofs.ByteLemmas.{and_all_byte}
use mathlib.Core.Bool.{and-false, or-false}

-- ---- the chips and the devices of both are those
pub chips_both : (cs : List (Site ChipView)) (ds : List (Site TargetState)) → chips_in (both cs ds) ≡ cs
chips_both [] [] = refl
chips_both [] (d ∷ ds) = chips_both [] ds
chips_both (c ∷ cs) ds = ap (λ xs. c ∷ xs) (chips_both cs ds)

pub devices_both : (cs : List (Site ChipView)) (ds : List (Site TargetState)) → devices_in (both cs ds) ≡ ds
devices_both [] [] = refl
devices_both [] (d ∷ ds) = ap (λ xs. d ∷ xs) (devices_both [] ds)
devices_both (c ∷ cs) ds = devices_both cs ds

-- ---- feeding by number is a map over the sites
pub feed_sites : {X : Type 0} (t : Table X) (f : ℕ → Option Event) (g : Site X → Option Event) (k : ℕ) (ss : List (Site X)) → Tells f g k ss
    → feed t f k (states_of ss) ≡ map (λ s. given t (g s) s.state) ss
feed_sites t f g k [] is = refl
feed_sites t f g k (s ∷ ss) is =
    ap (λ o. given t o s.state ∷ feed t f (k + 1) (states_of ss)) is.0 ∙ ap (λ xs. given t (g s) s.state ∷ xs)
    (feed_sites t f g (k + 1) ss is.1)

abbrev pub told : {X : Type 0} → Table X → (Site X → Option Event) → ℕ → List (Site X) → List (ℕ × Answer)
told t g k [] = []
told t g k (s ∷ ss) = answer_with t (g s) k s.state (told t g (k + 1) ss)

pub answers_sites : {X : Type 0} (t : Table X) (f : ℕ → Option Event) (g : Site X → Option Event) (k : ℕ) (ss : List (Site X))
    → Tells f g k ss
    → answers t f k (states_of ss) ≡ told t g k ss
answers_sites t f g k [] is = refl
answers_sites t f g k (s ∷ ss) is =
    ap (λ o. answer_with t o k s.state (answers t f (k + 1) (states_of ss))) is.0
    ∙ ap (λ xs. answer_with t (g s) k s.state xs) (answers_sites t f g (k + 1) ss is.1)

abbrev pub test_of : {X : Type 0} → Table X → (Answer → Bool) → Option Event → X → Bool
test_of t test None x = false
test_of t test (Some e) x = test (t.answer x e)

some_with : {X : Type 0} (t : Table X) (test : Answer → Bool) (o : Option Event) (k : ℕ) (x : X) (rest : List (ℕ × Answer))
    → some_answer test (answer_with t o k x rest) ≡ (test_of t test o x || some_answer test rest)
some_with t test None k x rest = refl
some_with t test (Some e) k x rest = refl

pub some_told : {X : Type 0} (t : Table X) (test : Answer → Bool) (g : Site X → Option Event) (q : Site X → Bool)
    → ((s : Site X) → test_of t test (g s) s.state ≡ q s) → (k : ℕ) (ss : List (Site X)) → some_answer test (told t g k ss) ≡ some_one q ss
some_told t test g q is k [] = refl
some_told t test g q is k (s ∷ ss) =
    some_with t test (g s) k s.state (told t g (k + 1) ss)
    ∙ (ap (λ b. b || some_answer test (told t g (k + 1) ss)) (is s) ∙ ap (λ b. q s || b) (some_told t test g q is (k + 1) ss))

-- ---- who has heard, by name
head_name : (test : Node → Bool) (n : Node) (b : Bool) (ns : List Node)
    → list_any test (if b then n ∷ ns else ns) ≡ ((b && test n) || list_any test ns)
head_name test n true ns = refl
head_name test n false ns = refl

pub eq_self : (k : ℕ) → (k == k) ≡ true
eq_self k = grind (arith, nat_tests)

eq_other : (k j : ℕ) → k < j → (k == j) ≡ false
eq_other k j lt = grind (arith, nat_tests)

eq_before : (k j : ℕ) → k < j → (j == k) ≡ false
eq_before k j lt = grind (arith, nat_tests)

other_names : {X : Type 0} (test : Node → Bool) (name : ℕ → Node) (k : ℕ) (ss : List (Site X)) → ((j : ℕ) → k ≤ j → test (name j) ≡ false)
    → list_any test (names_of name k ss) ≡ false
other_names test name k [] apart = refl
other_names test name k (s ∷ ss) apart =
    head_name test (name k) (hearing s) (names_of name (k + 1) ss)
    ∙ (ap (λ b. (hearing s && b) || list_any test (names_of name (k + 1) ss)) (apart k (omega arith))
    ∙ (ap (λ b. b || list_any test (names_of name (k + 1) ss)) (and-false (hearing s))
    ∙ other_names test name (k + 1) ss (λ j le. apart j (omega (arith, le)))))

pub hears_tell : {X : Type 0} (test : ℕ → Node → Bool) (name : ℕ → Node) → ((m k : ℕ) → test m (name k) ≡ (k == m))
    → (h : ℕ → Bool) (k : ℕ) (ss : List (Site X))
    → ((m : ℕ) → k ≤ m → h m ≡ list_any (test m) (names_of name k ss)) → Tells h hearing k ss
hears_tell test name is h k [] same = tt
hears_tell test name is h k (s ∷ ss) same = (
  same k (omega arith)
      ∙ (head_name (test k) (name k) (hearing s) (names_of name (k + 1) ss)
      ∙ (ap (λ b. (hearing s && b) || list_any (test k) (names_of name (k + 1) ss)) (is k k ∙ eq_self k)
      ∙ (ap (λ b. (hearing s && true) || b) (other_names (test k) name (k + 1) ss (λ j le. is k j ∙ eq_before k j (omega (arith, le))))
      ∙ (or-false (hearing s && true) ∙ and-true (hearing s))))),
  hears_tell test name is h (k + 1) ss (λ m le.
      same m (omega (arith, le))
      ∙ (head_name (test m) (name k) (hearing s) (names_of name (k + 1) ss)
      ∙ (ap (λ b. (hearing s && b) || list_any (test m) (names_of name (k + 1) ss)) (is m k ∙ eq_other k m (omega (arith, le)))
      ∙ ap (λ b. b || list_any (test m) (names_of name (k + 1) ss)) (and-false (hearing s))))),
)

tells_with : {X A B : Type 0} (F : A → B) (f : ℕ → A) (g : Site X → A) (k : ℕ) (ss : List (Site X)) → Tells f g k ss
    → Tells (λ m. F (f m)) (λ s. F (g s)) k ss
tells_with F f g k [] is = tt
tells_with F f g k (s ∷ ss) is = (ap F is.0, tells_with F f g (k + 1) ss is.1)

map_same : {A B : Type 0} (f g : A → B) → ((a : A) → f a ≡ g a) → (xs : List A) → map f xs ≡ map g xs
map_same f g is [] = refl
map_same f g is (x ∷ xs) = ap (λ y. y ∷ map f xs) (is x) ∙ ap (λ ys. g x ∷ ys) (map_same f g is xs)

-- what is done to each of both
map_append : {A B : Type 0} (f : A → B) (xs ys : List A) → map f (xs ++ ys) ≡ map f xs ++ map f ys
map_append f [] ys = refl
map_append f (x ∷ xs) ys = ap (λ zs. f x ∷ zs) (map_append f xs ys)

pub map_both : {B : Type 0} (f : Site NodeState → B) (fc : Site ChipView → B) (fd : Site TargetState → B)
    → ((s : Site ChipView) → f (site_with Chip s) ≡ fc s) → ((s : Site TargetState) → f (site_with Device s) ≡ fd s)
    → (cs : List (Site ChipView)) (ds : List (Site TargetState)) → map f (both cs ds) ≡ map fc cs ++ map fd ds
map_both f fc fd c d cs ds =
    map_append f (map (site_with Chip) cs) (map (site_with Device) ds)
    ∙ (ap (λ xs. xs ++ map f (map (site_with Device) ds)) (map_map (site_with Chip) f cs ∙ map_same _ fc c cs)
    ∙ ap (λ xs. map fc cs ++ xs) (map_map (site_with Device) f ds ∙ map_same _ fd d ds))

pub sites_both : (f : Site NodeState → Site NodeState) (fc : Site ChipView → Site ChipView) (fd : Site TargetState → Site TargetState)
    → ((s : Site ChipView) → f (site_with Chip s) ≡ site_with Chip (fc s))
    → ((s : Site TargetState) → f (site_with Device s) ≡ site_with Device (fd s))
    → (cs : List (Site ChipView)) (ds : List (Site TargetState)) → map f (both cs ds) ≡ both (map fc cs) (map fd ds)
sites_both f fc fd c d cs ds =
    map_both f (λ s. site_with Chip (fc s)) (λ s. site_with Device (fd s)) c d cs ds
    ∙ (ap (λ xs. xs ++ map (λ s. site_with Device (fd s)) ds) (sym (map_map fc (site_with Chip) cs))
    ∙ ap (λ xs. map (site_with Chip) (map fc cs) ++ xs) (sym (map_map fd (site_with Device) ds)))

some_append : {A : Type 0} (q : A → Bool) (xs ys : List A) → some_one q (xs ++ ys) ≡ (some_one q xs || some_one q ys)
some_append q [] ys = refl
some_append q (x ∷ xs) ys = ap (λ b. q x || b) (some_append q xs ys) ∙ or_assoc (q x) (some_one q xs) (some_one q ys)
  where
    or_assoc : (a b c : Bool) → (a || (b || c)) ≡ ((a || b) || c)
    or_assoc true b c = refl
    or_assoc false b c = refl

pub some_both : (q : Site NodeState → Bool) (qc : Site ChipView → Bool) (qd : Site TargetState → Bool)
    → ((s : Site ChipView) → q (site_with Chip s) ≡ qc s) → ((s : Site TargetState) → q (site_with Device s) ≡ qd s)
    → (cs : List (Site ChipView)) (ds : List (Site TargetState)) → some_one q (both cs ds) ≡ (some_one qc cs || some_one qd ds)
some_both q qc qd c d cs ds =
    some_append q (map (site_with Chip) cs) (map (site_with Device) ds)
    ∙ (ap (λ b. b || some_one q (map (site_with Device) ds)) (some_map (site_with Chip) q qc c cs)
    ∙ ap (λ b. some_one qc cs || b) (some_map (site_with Device) q qd d ds))

-- ---- who is in the message, in the world
pub chips_hear : (b : BoardView) (r : ℕ) (busy : Bool) (cs : List (Site ChipView)) (ds : List (Site TargetState))
    → Tells (λ m. list_any (is_chip m) (world_by b r busy cs ds).hearing) hearing 0 cs
chips_hear b r busy cs ds =
    hears_tell is_chip node.Chip (λ m k. refl) (λ m. list_any (is_chip m) (world_by b r busy cs ds).hearing) 0 cs
    (λ m le. list_any-append (is_chip m) (names_of node.Chip 0 cs) (names_of node.Device 0 ds)
    ∙ (ap (λ x. list_any (is_chip m) (names_of node.Chip 0 cs) || x) (other_names (is_chip m) node.Device 0 ds (λ j le. refl))
    ∙ or-false _))

pub devices_hear : (b : BoardView) (r : ℕ) (busy : Bool) (cs : List (Site ChipView)) (ds : List (Site TargetState))
    → Tells (λ m. list_any (is_device m) (world_by b r busy cs ds).hearing) hearing 0 ds
devices_hear b r busy cs ds =
    hears_tell is_device node.Device (λ m k. refl) (λ m. list_any (is_device m) (world_by b r busy cs ds).hearing) 0 ds
    (λ m le. list_any-append (is_device m) (names_of node.Chip 0 cs) (names_of node.Device 0 ds)
    ∙ ap (λ x. x || list_any (is_device m) (names_of node.Device 0 ds)) (other_names (is_device m) node.Chip 0 cs (λ j le. refl)))

abbrev pub sent_if : {X : Type 0} → Event → Site X → Option Event
sent_if e s = if hearing s then Some e else None

abbrev pub with : BoardView → ℕ → Bool → List ChipView → List TargetState → List Node → World
with b r busy cs ds hs = record { board = b; root = r; chips = cs; devices = ds; hearing = hs; busy = busy }

pub world_ap : (b : BoardView) (r : ℕ) (busy : Bool) (cs cs' : List ChipView) (ds ds' : List TargetState) (hs hs' : List Node) → cs ≡ cs'
    → ds ≡ ds'
    → hs ≡ hs' → with b r busy cs ds hs ≡ with b r busy cs' ds' hs'
world_ap b r busy cs cs' ds ds' hs hs' c d h =
    ap (λ x. with b r busy x ds hs) c ∙ (ap (λ x. with b r busy cs' x hs) d ∙ ap (λ x. with b r busy cs' ds' x) h)

tells_two : {X A B C : Type 0} (F : A → B → C) (f : ℕ → A) (f' : ℕ → B) (g : Site X → A) (g' : Site X → B) (k : ℕ) (ss : List (Site X))
    → Tells f g k ss → Tells f' g' k ss → Tells (λ m. F (f m) (f' m)) (λ s. F (g s) (g' s)) k ss
tells_two F f f' g g' k [] is is' = tt
tells_two F f f' g g' k (s ∷ ss) is is' = (ap (λ x. F x (f' k)) is.0 ∙ ap (F (g s)) is'.0, tells_two F f f' g g' (k + 1) ss is.1 is'.1)

pub chips_start : (b : BoardView) (r : ℕ) (cs : List (Site ChipView)) (ds : List (Site TargetState)) → AreSites b r cs ds
    → (a : ℕ) (reading : Bool)
    → a < 128
    → Tells (chip_start (world_by b r false cs ds) a reading) (λ s. start_event s.joined (a == s.addr) reading) 0 cs
chips_start b r cs ds is a reading lt =
    tells_two (λ j h. start_event j h reading) _ _ (λ s. s.joined) (λ s. a == s.addr) 0 cs is.chips_joined (is.addresses.chips_at a lt)

pub devices_start : (b : BoardView) (r : ℕ) (cs : List (Site ChipView)) (ds : List (Site TargetState)) → AreSites b r cs ds
    → (a : ℕ) (reading : Bool)
    → a < 128
    → Tells (device_start (world_by b r false cs ds) a reading) (λ s. start_event s.joined (a == s.addr) reading) 0 ds
devices_start b r cs ds is a reading lt =
    tells_two (λ j h. start_event j h reading) _ _ (λ s. s.joined) (λ s. a == s.addr) 0 ds is.devices_joined (is.addresses.devices_at a lt)

-- ---- a byte that is put
put_state : {X : Type 0} (t : Table X) (byte a : ℕ) (j e : Bool) (x : X)
    → given t (sent_if (event.Put byte) (site_of a j e x)) x ≡ (put_site t byte (site_of a j e x)).state
put_state t byte a true true x = refl
put_state t byte a true false x = refl
put_state t byte a false e x = refl

put_hears : {X : Type 0} (t : Table X) (byte a : ℕ) (j e : Bool) (x : X) → hearing (put_site t byte (site_of a j e x)) ≡ hearing
    (site_of a j e x)
put_hears t byte a true true x = refl
put_hears t byte a true false x = refl
put_hears t byte a false e x = refl

states_same : {X : Type 0} (F : Site X → Site X) (v : Site X → X) → ((s : Site X) → v s ≡ (F s).state) → (ss : List (Site X))
    → map v ss ≡ states_of (map F ss)
states_same F v is [] = refl
states_same F v is (s ∷ ss) = ap (λ x. x ∷ map v ss) (is s) ∙ ap (λ xs. (F s).state ∷ xs) (states_same F v is ss)

names_same : {X : Type 0} (F : Site X → Site X) (name : ℕ → Node) → ((s : Site X) → hearing (F s) ≡ hearing s)
    → (k : ℕ) (ss : List (Site X))
    → names_of name k (map F ss) ≡ names_of name k ss
names_same F name is k [] = refl
names_same F name is k (s ∷ ss) =
    ap (λ b. if b then name k ∷ names_of name (k + 1) (map F ss) else names_of name (k + 1) (map F ss)) (is s)
    ∙ ap (λ ns. if hearing s then name k ∷ ns else ns) (names_same F name is (k + 1) ss)

module _ (b : BoardView) (r : ℕ) (busy : Bool) (cs : List (Site ChipView)) (ds : List (Site TargetState)) where
  abbrev here : World
  here = world_by b r busy cs ds

  chips_sent : (e : Event) → Tells (to_chips here e) (sent_if e) 0 cs
  chips_sent e = tells_with (λ h. if h then Some e else None) _ hearing 0 cs (chips_hear b r busy cs ds)

  devices_sent : (e : Event) → Tells (to_devices here e) (sent_if e) 0 ds
  devices_sent e = tells_with (λ h. if h then Some e else None) _ hearing 0 ds (devices_hear b r busy cs ds)

  pub world_put : (byte : ℕ) → world_by b r busy (map (put_site chip_table byte) cs) (map (put_site state_table byte) ds) ≡ after here
      (call.Put byte)
  world_put byte =
      sym (world_ap b r busy _ _ _ _ _ _
      (feed_sites chip_table (to_chips here (event.Put byte)) (sent_if (event.Put byte)) 0 cs (chips_sent (event.Put byte))
      ∙ states_same (put_site chip_table byte) _ (λ s. put_state chip_table byte s.addr s.joined s.heard s.state) cs)
      (feed_sites state_table (to_devices here (event.Put byte)) (sent_if (event.Put byte)) 0 ds (devices_sent (event.Put byte))
      ∙ states_same (put_site state_table byte) _ (λ s. put_state state_table byte s.addr s.joined s.heard s.state) ds)
      (ap (λ ns. ns ++ names_of node.Device 0 ds) (sym (names_same (put_site chip_table byte) node.Chip
      (λ s. put_hears chip_table byte s.addr s.joined s.heard s.state) 0 cs))
      ∙ ap (λ ns. names_of node.Chip 0 (map (put_site chip_table byte) cs) ++ ns)
      (sym (names_same (put_site state_table byte) node.Device (λ s. put_hears state_table byte s.addr s.joined s.heard s.state) 0 ds))))

  -- who acknowledges it
  ack_test : {X : Type 0} (t : Table X) (byte a : ℕ) (j e : Bool) (x : X)
      → test_of t is_ack (sent_if (event.Put byte) (site_of a j e x)) x ≡ acks t byte (site_of a j e x)
  ack_test t byte a true true x = refl
  ack_test t byte a true false x = refl
  ack_test t byte a false e x = refl

  pub world_takes : (byte : ℕ) → some_one (acks node_table byte) (both cs ds) ≡ takes here byte
  world_takes byte =
      some_both (acks node_table byte) (acks chip_table byte) (acks state_table byte) (λ s. refl) (λ s. refl) cs ds
      ∙ sym (list_any-append (λ z. is_ack z.1) (answers chip_table (to_chips here (event.Put byte)) 0 here.chips)
      (answers state_table (to_devices here (event.Put byte)) 0 here.devices)
      ∙ (ap (λ z. z || some_answer is_ack (answers state_table (to_devices here (event.Put byte)) 0 here.devices))
      (ap (some_answer is_ack) (answers_sites chip_table _ (sent_if (event.Put byte)) 0 cs (chips_sent (event.Put byte)))
      ∙ some_told chip_table is_ack (sent_if (event.Put byte)) (acks chip_table byte)
      (λ s. ack_test chip_table byte s.addr s.joined s.heard s.state) 0 cs)
      ∙ ap (λ z. some_one (acks chip_table byte) cs || z)
      (ap (some_answer is_ack) (answers_sites state_table _ (sent_if (event.Put byte)) 0 ds (devices_sent (event.Put byte)))
      ∙ some_told state_table is_ack (sent_if (event.Put byte)) (acks state_table byte)
      (λ s. ack_test state_table byte s.addr s.joined s.heard s.state) 0 ds)))

-- ---- a byte that is read
get_state : {X : Type 0} (t : Table X) (ack : Bool) (a : ℕ) (j e : Bool) (x : X)
    → given t (sent_if (event.Get ack) (site_of a j e x)) x ≡ (get_site t ack (site_of a j e x)).state
get_state t ack a true true x = refl
get_state t ack a true false x = refl
get_state t ack a false e x = refl

get_hears : {X : Type 0} (t : Table X) (ack : Bool) (a : ℕ) (j e : Bool) (x : X)
    → hearing (get_site t ack (site_of a j e x)) ≡ hearing (site_of a j e x)
get_hears t ack a true true x = refl
get_hears t ack a true false x = refl
get_hears t ack a false e x = refl

pub all_ones : (n : ℕ) → n < 256 → n ≡ bit_and 255 n
all_ones n small = grind (arith, common_steps)

-- who sends nothing counts as all ones
and_one_more : {X : Type 0} (t : Table X) → IsFairTable t → (k a : ℕ) (j e : Bool) (x : X) (rest : List (ℕ × Answer)) → and_of rest < 256
    → and_of (answer_with t (sent_if (event.Get true) (site_of a j e x)) k x rest) ≡ bit_and (sent_by t (site_of a j e x)) (and_of rest)
and_one_more t fair k a true true x rest small = ap (λ z. bit_and (byte_of z) (and_of rest)) (fair.sends x)
and_one_more t fair k a true false x rest small = all_ones (and_of rest) small
and_one_more t fair k a false e x rest small = all_ones (and_of rest) small

and_told : {X : Type 0} (t : Table X) → IsFairTable t → (k : ℕ) (ss : List (Site X)) (rest : List (ℕ × Answer)) (ns : List ℕ)
    → and_of rest ≡ and_all ns
    → and_of (told t (sent_if (event.Get true)) k ss ++ rest) ≡ and_all (map (sent_by t) ss ++ ns)
and_told t fair k [] rest ns is = is
and_told t fair k (s ∷ ss) rest ns is =
    let ih : and_of (told t (sent_if (event.Get true)) (k + 1) ss ++ rest) ≡ and_all (map (sent_by t) ss ++ ns) =
    and_told t fair (k + 1) ss rest ns is in
    let small : and_of (told t (sent_if (event.Get true)) (k + 1) ss ++ rest) < 256 = omega
    (arith, ih, and_all_byte (map (sent_by t) ss ++ ns)) in
    ap and_of (with_append t (sent_if (event.Get true) s) k s.state (told t (sent_if (event.Get true)) (k + 1) ss) rest)
    ∙ (and_one_more t fair k s.addr s.joined s.heard s.state (told t (sent_if (event.Get true)) (k + 1) ss ++ rest) small
    ∙ ap (bit_and (sent_by t s)) ih)
  where
    with_append : {X : Type 0} (t : Table X) (o : Option Event) (k : ℕ) (x : X) (xs rest : List (ℕ × Answer))
        → answer_with t o k x xs ++ rest ≡ answer_with t o k x (xs ++ rest)
    with_append t None k x xs rest = refl
    with_append t (Some e) k x xs rest = refl

append_none : {A : Type 0} (xs : List A) → xs ++ [] ≡ xs
append_none [] = refl
append_none (x ∷ xs) = ap (λ ys. x ∷ ys) (append_none xs)

module _ (b : BoardView) (r : ℕ) (busy : Bool) (cs : List (Site ChipView)) (ds : List (Site TargetState)) where
  abbrev there : World
  there = world_by b r busy cs ds

  pub world_get : (ack : Bool) → world_by b r busy (map (get_site chip_table ack) cs) (map (get_site state_table ack) ds) ≡ after there
      (call.Get ack)
  world_get ack =
      sym (world_ap b r busy _ _ _ _ _ _
      (feed_sites chip_table (to_chips there (event.Get ack)) (sent_if (event.Get ack)) 0 cs (chips_sent b r busy cs ds (event.Get ack))
      ∙ states_same (get_site chip_table ack) _ (λ s. get_state chip_table ack s.addr s.joined s.heard s.state) cs)
      (feed_sites state_table (to_devices there (event.Get ack)) (sent_if (event.Get ack)) 0 ds
      (devices_sent b r busy cs ds (event.Get ack))
      ∙ states_same (get_site state_table ack) _ (λ s. get_state state_table ack s.addr s.joined s.heard s.state) ds)
      (ap (λ ns. ns ++ names_of node.Device 0 ds) (sym (names_same (get_site chip_table ack) node.Chip
      (λ s. get_hears chip_table ack s.addr s.joined s.heard s.state) 0 cs))
      ∙ ap (λ ns. names_of node.Chip 0 (map (get_site chip_table ack) cs) ++ ns)
      (sym (names_same (get_site state_table ack) node.Device (λ s. get_hears state_table ack s.addr s.joined s.heard s.state) 0 ds))))

  pub world_gives : IsFairTable chip_table → IsFairTable state_table → and_all (map (sent_by node_table) (both cs ds)) ≡ gives there
  world_gives chips devices =
      let d : and_of (told state_table (sent_if (event.Get true)) 0 ds) ≡ and_all (map (sent_by state_table) ds) =
      ap and_of (sym (append_none (told state_table (sent_if (event.Get true)) 0 ds)))
      ∙ (and_told state_table devices 0 ds [] [] refl ∙ ap and_all (append_none (map (sent_by state_table) ds))) in
      ap and_all (map_both (sent_by node_table) (sent_by chip_table) (sent_by state_table) (λ s. refl) (λ s. refl) cs ds)
      ∙ sym (ap (λ xs. and_of (xs ++ answers state_table (to_devices there (event.Get true)) 0 there.devices))
      (answers_sites chip_table _ (sent_if (event.Get true)) 0 cs (chips_sent b r busy cs ds (event.Get true)))
      ∙ (ap (λ ys. and_of (told chip_table (sent_if (event.Get true)) 0 cs ++ ys))
      (answers_sites state_table _ (sent_if (event.Get true)) 0 ds (devices_sent b r busy cs ds (event.Get true)))
      ∙ and_told chip_table chips 0 cs (told state_table (sent_if (event.Get true)) 0 ds) (map (sent_by state_table) ds) d))

-- ---- a start
abbrev called_if : {X : Type 0} → Table X → Bool → Site X → Bool → Bool → Site X
called_if t reading s j h = cond j (cond h (hears t s reading) (other t s)) s

start_state : {X : Type 0} (t : Table X) (reading : Bool) (a : ℕ) (j e h : Bool) (x : X)
    → given t (start_event j h reading) x ≡ (called_if t reading (site_of a j e x) j h).state
start_state t reading a true e true x = refl
start_state t reading a true e false x = refl
start_state t reading a false e h x = refl

start_heard : {X : Type 0} (t : Table X) → IsFairTable t
    → (name : ℕ → Node) (reading : Bool) (k a : ℕ) (j e h : Bool) (x : X) (rest : List (ℕ × Answer))
    → heard_of name (answer_with t (start_event j h reading) k x rest)
    ≡ (if hearing (called_if t reading (site_of a j e x) j h) then name k ∷ heard_of name rest else heard_of name rest)
start_heard t fair name reading k a true e true x rest = refl
start_heard t fair name reading k a true e false x rest =
    ap (λ z. if has_heard z then name k ∷ heard_of name rest else heard_of name rest) (fair.other x)
start_heard t fair name reading k a false e h x rest = refl

start_test : {X : Type 0} (t : Table X) → IsFairTable t → (test : Answer → Bool) → test Nothing ≡ false
    → (reading : Bool) (j h : Bool) (x : X)
    → test_of t test (start_event j h reading) x ≡ (j && (h && test (t.answer x (event.Start reading))))
start_test t fair test no_answer reading true true x = refl
start_test t fair test no_answer reading true false x = ap test (fair.other x) ∙ no_answer
start_test t fair test no_answer reading false h x = refl

abbrev pub start_if : {X : Type 0} → ℕ → Bool → Site X → Option Event
start_if a reading s = start_event s.joined (a == s.addr) reading

heard_names : {X : Type 0} (t : Table X) → IsFairTable t → (name : ℕ → Node) (a : ℕ) (reading : Bool) (k : ℕ) (ss : List (Site X))
    → heard_of name (told t (start_if a reading) k ss) ≡ names_of name k (map (start_site t a reading) ss)
heard_names t fair name a reading k [] = refl
heard_names t fair name a reading k (s ∷ ss) =
    start_heard t fair name reading k s.addr s.joined s.heard (a == s.addr) s.state (told t (start_if a reading) (k + 1) ss)
    ∙ ap (λ ns. if hearing (start_site t a reading s) then name k ∷ ns else ns) (heard_names t fair name a reading (k + 1) ss)

module _ (b : BoardView) (r : ℕ) (busy : Bool) (cs : List (Site ChipView)) (ds : List (Site TargetState)) (is : AreSites b r cs ds)
    (chips : IsFairTable chip_table) (devices : IsFairTable state_table) where
  abbrev before : World
  before = world_by b r busy cs ds

  pub world_start : (a : ℕ) (reading : Bool) → a < 128
      → world_by b r true (map (start_site chip_table a reading) cs) (map (start_site state_table a reading) ds) ≡ after before
      (call.Start a reading)
  world_start a reading lt =
      sym (world_ap b r true _ _ _ _ _ _
      (feed_sites chip_table (chip_start before a reading) (start_if a reading) 0 cs (chips_start b r cs ds is a reading lt)
      ∙ states_same (start_site chip_table a reading) _ (λ s. start_state chip_table reading s.addr s.joined s.heard
      (a == s.addr) s.state) cs)
      (feed_sites state_table (device_start before a reading) (start_if a reading) 0 ds (devices_start b r cs ds is a reading lt)
      ∙ states_same (start_site state_table a reading) _ (λ s. start_state state_table reading s.addr s.joined s.heard
      (a == s.addr) s.state) ds)
      (ap (λ xs. heard_of node.Chip xs ++ heard_of node.Device (start_devices before a reading))
      (answers_sites chip_table _ (start_if a reading) 0 cs (chips_start b r cs ds is a reading lt))
      ∙ (ap (λ ys. heard_of node.Chip (told chip_table (start_if a reading) 0 cs) ++ heard_of node.Device ys)
      (answers_sites state_table _ (start_if a reading) 0 ds (devices_start b r cs ds is a reading lt))
      ∙ (ap (λ ns. ns ++ heard_of node.Device (told state_table (start_if a reading) 0 ds))
      (heard_names chip_table chips node.Chip a reading 0 cs)
      ∙ ap (λ ns. names_of node.Chip 0 (map (start_site chip_table a reading) cs) ++ ns)
      (heard_names state_table devices node.Device a reading 0 ds)))))

  -- some target that is named answers so
  pub world_answers : (test : Answer → Bool) → test Nothing ≡ false → (a : ℕ) (reading : Bool) → a < 128
      → some_one (answers_so node_table test a reading) (both cs ds)
      ≡ some_answer test (start_chips before a reading ++ start_devices before a reading)
  world_answers test no_answer a reading lt =
      some_both (answers_so node_table test a reading) (answers_so chip_table test a reading) (answers_so state_table test a reading)
      (λ s. refl)
      (λ s. refl) cs ds
      ∙ sym (list_any-append (λ z. test z.1) (start_chips before a reading) (start_devices before a reading)
      ∙ (ap (λ z. z || some_answer test (start_devices before a reading))
      (ap (some_answer test) (answers_sites chip_table _ (start_if a reading) 0 cs (chips_start b r cs ds is a reading lt))
      ∙ some_told chip_table test (start_if a reading) (answers_so chip_table test a reading)
      (λ s. start_test chip_table chips test no_answer reading s.joined (a == s.addr) s.state) 0 cs)
      ∙ ap (λ z. some_one (answers_so chip_table test a reading) cs || z)
      (ap (some_answer test) (answers_sites state_table _ (start_if a reading) 0 ds (devices_start b r cs ds is a reading lt))
      ∙ some_told state_table test (start_if a reading) (answers_so state_table test a reading)
      (λ s. start_test state_table devices test no_answer reading s.joined (a == s.addr) s.state) 0 ds)))

-- ---- a stop
stop_state : {X : Type 0} (t : Table X) (a : ℕ) (j e : Bool) (x : X) → given t (stop_event j) x ≡ (stop_site t (site_of a j e x)).state
stop_state t a true e x = refl
stop_state t a false e x = refl

pub stop_hears : {X : Type 0} (t : Table X) (a : ℕ) (j e : Bool) (x : X) → hearing (stop_site t (site_of a j e x)) ≡ false
stop_hears t a true e x = refl
stop_hears t a false e x = refl

pub no_names : {X : Type 0} (F : Site X → Site X) (name : ℕ → Node) → ((s : Site X) → hearing (F s) ≡ false) → (k : ℕ) (ss : List (Site X))
    → names_of name k (map F ss) ≡ []
no_names F name quiet k [] = refl
no_names F name quiet k (s ∷ ss) =
    ap (λ z. if z then name k ∷ names_of name (k + 1) (map F ss) else names_of name (k + 1) (map F ss)) (quiet s)
    ∙ no_names F name quiet (k + 1) ss

module _ (b : BoardView) (r : ℕ) (busy : Bool) (cs : List (Site ChipView)) (ds : List (Site TargetState)) (is : AreSites b r cs ds) where
  abbrev until : World
  until = world_by b r busy cs ds

  pub world_stop : world_by b r false (map (stop_site chip_table) cs) (map (stop_site state_table) ds) ≡ after until call.Stop
  world_stop =
      sym (world_ap b r false _ _ _ _ _ _ (feed_sites chip_table (λ m. stop_event (joins_chip until m)) (λ s. stop_event s.joined) 0 cs
      (tells_with stop_event _ (λ s. s.joined) 0 cs is.chips_joined)
      ∙ states_same (stop_site chip_table) _ (λ s. stop_state chip_table s.addr s.joined s.heard s.state) cs)
      (feed_sites state_table (λ d. stop_event (joins_device until d)) (λ s. stop_event s.joined) 0 ds
      (tells_with stop_event _ (λ s. s.joined) 0 ds is.devices_joined)
      ∙ states_same (stop_site state_table) _ (λ s. stop_state state_table s.addr s.joined s.heard s.state) ds)
      (sym (ap (λ ns. ns ++ names_of node.Device 0 (map (stop_site state_table) ds))
      (no_names (stop_site chip_table) node.Chip (λ s. stop_hears chip_table s.addr s.joined s.heard s.state) 0 cs)
      ∙ no_names (stop_site state_table) node.Device (λ s. stop_hears state_table s.addr s.joined s.heard s.state) 0 ds)))
