-- The devices that a journal leaves are those of its history. The inductions go over the messages of a transfer, over the
-- transfers, and over the devices.
use Rattle.flat_laws.proofs.Cited.{◌≡◌, ℕ, zero, suc, ◌+◌, ◌<◌, Bool, true, false, cond, List, [], ◌∷◌, ◌++◌, length, map, Option, Some}
use Rattle.flat_laws.proofs.Cited.{None, refl, sym, ◌∙◌, ap, subst, arith, zero-add, add-zero, slice_get, unwrap_or, option_map}
use Rattle.flat_laws.proofs.Cited.{option_map_or, option_and_then, AllByRecursion, Entry, Errno, PortCall, Reply, Cut, BoardView}
use Rattle.flat_laws.proofs.Cited.{DeviceView, TransferView, root_of, IsTree, IsPlainBoard, TargetState, state_table, MessageView}
use Rattle.flat_laws.proofs.Cited.{messages_of, World, FlatListener, idle, flat_start, to_current, to_named, flat_after, flat_listener}
use Rattle.flat_laws.proofs.Cited.{granted_on, block_limit, cut_in, barred, flat_by, flat, TalkTold, AllTold, talk, talk_all, is_empty}
use Rattle.flat_laws.proofs.Cited.{is_good, with_read, Asks, History, with_told, one_more, opening_history, history, Call, Act, Send}
use Rattle.flat_laws.proofs.Cited.{Settle, WalkTree, Ends, first_act, order, Now, begun, now, IsStepwise, LinesAreLocked, AsksForMessages}
use Rattle.flat_laws.proofs.Cited.{AsksWithinLimits, Stands, Same, said_so_far, calls_behind, past-stands, settled-told, goes_on_from}
use Rattle.std.proofs.Common.{take}
use Rattle.std.specs.List.{range_with_len}
use Rattle.std.proofs.lemmas.List.{length-map}
use Rattle.std.proofs.lemmas.List.Elements.{All-from_recursion}
use Rattle.i2c_base.specs.declared.event.Event.TheVariants as event
use Rattle.i2c_base.specs.declared.port.PortCall.TheVariants as call
use Rattle.i2c_spec.specs.Tree.{buses, of_device}
use Rattle.i2c_spec.specs.Targets.{Silent, opening_state}
use Rattle.i2c_spec.specs.World.{device_in}
use Rattle.bus_spec.specs.Past.{world_at}
use Rattle.flat_laws.specs.Left.{AreLeft, AreLeftInside, KeepsDevices, worlds_of, LeavesDevices}
use Rattle.bus_laws.proofs.world.TalkLaws.{talk-keeps}
use Rattle.bus_laws.proofs.world.Feed.{length-feed}
use Rattle.bus_laws.proofs.world.BoardFacts.{get_within, get_same_length}
use Rattle.flat_laws.proofs.past.First.{call_count, past-stage}
use Rattle.bus_laws.proofs.walk.MessageFacts.{length-around}
use Rattle.flat_laws.proofs.device.Said.{IsSaid}
use Rattle.flat_laws.proofs.device.Stand.{IsInsideWith}
use Rattle.flat_laws.proofs.device.Law.{StandsWith, past-devices}
use Rattle.i2c_spec.proofs.MessageLemmas.{IsLater}

-- HOW MANY devices there are doesn't change
abbrev IsSoMany : ℕ → FlatListener → Type 0
IsSoMany k f = length f.states ≡ k

module _ (k : ℕ) (granted : ℕ → Option ℕ) where
  later_many : (f : FlatListener) (c : PortCall) → IsLater c → IsSoMany k f → IsSoMany k (flat_after granted f c)
  later_many f (call.Start a reading) l many = absurd l
  later_many f (call.Line m level) l many = absurd l
  later_many f (call.Put byte) l many = length-feed state_table (to_current f.current (event.Put byte)) 0 f.states ∙ many
  later_many f (call.Get ack) l many = length-feed state_table (to_current f.current (event.Get ack)) 0 f.states ∙ many
  later_many f call.Stop l many = length-feed state_table (to_named f.named event.Stop) 0 f.states ∙ many
  later_many f call.Fault l many = length-feed state_table (to_named f.named event.Stop) 0 f.states ∙ many

  all_many : (limit : ℕ) (f : FlatListener) (ms : List MessageView) (i : ℕ) (cuts : ℕ → Option ℕ) (got : List ℕ) → IsSoMany k f
      → IsSoMany k (talk_all (flat_listener granted) limit f ms i cuts got).now
  all_many limit f [] i cuts got many = many
  all_many limit f (m ∷ ms) i cuts got many =
      let t : TalkTold FlatListener = talk (flat_listener granted) limit f m (is_empty ms) (cuts i) in
      let left : IsSoMany k t.now =
      talk-keeps (flat_listener granted) (IsSoMany k) later_many limit f m (is_empty ms) (cuts i)
      (length-feed state_table (to_named f.named event.Stop) 0 f.states ∙ many)
      (length-feed state_table (flat_start (granted m.addr) f.named m.reading) 0 f.states ∙ many) in
      by (is_good t.end) (talk_all (flat_listener granted) limit t.now ms (i + 1) cuts (with_read got m t))
      (record { bytes = with_read got m t; now = t.now; end = t.end })
      (all_many limit t.now ms (i + 1) cuts (with_read got m t) left) left
    where
      by : (z : Bool) (x y : AllTold FlatListener) → IsSoMany k x.now → IsSoMany k y.now → IsSoMany k (cond z x y).now
      by true x y hx hy = hx
      by false x y hx hy = hy

flat_many : (b : BoardView) (xs : List TargetState) (t : TransferView) (cut : Cut) → length (flat b xs t cut).states ≡ length xs
flat_many b xs t cut = by (barred b t cut)
  where
    by : (o : Option Errno) → length (flat_by b xs t cut o).states ≡ length xs
    by (Some e) = refl
    by None = all_many (length xs) (granted_on b t.bus t.force) (block_limit b) (idle xs) (messages_of t) 0 (cut_in cut) [] refl

some_history : (g h : History) → Some g ≡ Some h → length g.states ≡ length h.states
some_history g h e = (let same : g ≡ h = cc in ap (λ (x : History). length x.states) same)

one_more_many : (b : BoardView) (c : ℕ) (cut : Cut) (g h : History) (o : Option TransferView)
    → option_map (λ (t : TransferView). with_told g c (flat b g.states t cut)) o ≡ Some h → length h.states ≡ length g.states
one_more_many b c cut g h None e = absurd (let f : None ≡ Some h = e in cc)
one_more_many b c cut g h (Some t) e = sym (some_history (with_told g c (flat b g.states t cut)) h e) ∙ flat_many b g.states t cut

history_many : (b : BoardView) (asks : Asks) (xs : List (ℕ × Cut)) (h : History) → history b asks xs ≡ Some h
    → length h.states ≡ length b.devices
history_many b asks [] h e = sym (some_history (opening_history b) h e) ∙ length-map b.devices opening_state
history_many b asks (p ∷ before) h e = by (λ g at. history_many b asks before g at) (history b asks before) refl e
  where
    by : ((g : History) → history b asks before ≡ Some g → length g.states ≡ length b.devices)
        → (o : Option History) → history b asks before ≡ o → option_and_then (one_more b asks p.0 p.1) o ≡ Some h
        → length h.states ≡ length b.devices
    by sub None at f = absurd (let z : None ≡ Some h = f in cc)
    by sub (Some g) at f = one_more_many b p.0 p.1 g h (asks p.0 (g.replies p.0)) f ∙ sub g at

-- LISTS
take_front : (xs ys : List MessageView) → take (length xs) (xs ++ ys) ≡ xs
take_front [] ys = refl
take_front (x ∷ xs) ys = ap (λ (zs : List MessageView). x ∷ zs) (take_front xs ys)

map_numbers : (f : ℕ → TargetState) (k : ℕ) (xs : List TargetState) → ((i : ℕ) (x : TargetState) → slice_get xs i ≡ Some x → f (k + i) ≡ x)
    → map f (range_with_len k (length xs)) ≡ xs
map_numbers f k [] each = refl
map_numbers f k (x ∷ xs) each =
    ap (λ (y : TargetState). y ∷ map f (range_with_len (k + 1) (length xs))) (ap f (sym (add-zero k)) ∙ each 0 x refl)
    ∙ ap (λ (ys : List TargetState). x ∷ ys)
    (map_numbers f (k + 1) xs (λ i y at. ap f (let e : k + 1 + i ≡ k + suc i = omega arith in e) ∙ each (suc i) y at))

get_numbers : (f : ℕ → World) (k n i : ℕ) → i < n → slice_get (map f (range_with_len k n)) i ≡ Some (f (k + i))
get_numbers f k zero i below = absurd (omega (arith, below))
get_numbers f k (suc n) zero below = ap (λ (j : ℕ). Some (f j)) (sym (add-zero k))
get_numbers f k (suc n) (suc i) below =
    get_numbers f (k + 1) n i (omega (arith, below)) ∙ ap (λ (j : ℕ). Some (f j)) (let e : k + 1 + i ≡ k + suc i = omega arith in e)

-- worlds of all roots, in order
roots_are : (f : ℕ → World) → ((r : ℕ) → (f r).root ≡ r) → (k n : ℕ) → map (λ w. w.root) (map f (range_with_len k n)) ≡ range_with_len k n
roots_are f root k zero = refl
roots_are f root k (suc n) =
    ap (λ (r : ℕ). r ∷ map (λ w. w.root) (map f (range_with_len (k + 1) n))) (root k)
    ∙ ap (λ (rs : List ℕ). k ∷ rs) (roots_are f root (k + 1) n)

boards_are : (b : BoardView) (f : ℕ → World) → ((r : ℕ) → (f r).board ≡ b) → (k n : ℕ)
    → AllByRecursion (λ w. w.board ≡ b) (map f (range_with_len k n))
boards_are b f board k zero = tt
boards_are b f board k (suc n) = (board k, boards_are b f board (k + 1) n)

-- a world that is the same as the flat world
are_left : (b : BoardView) (r : ℕ) (w : World) (f : FlatListener) → Same b r w f → AreLeft b r w f
are_left b r w f s = record { same = s.states; quiet = λ d x own e at. s.quiet d x own e (sym (s.states d own) ∙ at) }

module _ (b : BoardView) (tree : IsTree b) (plain : IsPlainBoard b) (lines : LinesAreLocked b) (asks : Asks) (some : AsksForMessages asks)
    (limits : AsksWithinLimits asks) (callers : ℕ)
    (past : List Entry) (steps : IsStepwise b callers asks past) where
  abbrev n : Now
  n = now b asks past

  w : StandsWith b asks past
  w = past-devices b tree plain lines asks some limits callers past steps

  stands : Stands b n
  stands = past-stands b tree plain lines asks some callers past steps

  -- who is inside has sent the messages that stand behind its last settle
  so_far : n.due ≡ None → (r c : ℕ) → (i : IsInsideWith b asks n w.stand.ahead r c)
      → take (calls_behind past c) (messages_of i.whose) ≡ i.said.before
  so_far none r c i =
      let said : IsSaid b w.stand.ahead i.whose (n.worlds r) (n.got c) i.left = i.said in
      let count : calls_behind past c + suc i.left ≡ length (messages_of i.whose) =
      call_count b tree plain lines asks some callers past steps (past-stage b tree plain lines asks some callers past steps) c i.whose.bus
      (messages_of i.whose) i.left none
      (goes_on_from n.slot (begun b (asks c (n.settled c))) (n.walk c) (Send (Call i.whose.bus (messages_of i.whose)) i.left) i.sends) in
      let all : length (messages_of i.whose) ≡ length said.before + suc (length said.rest) =
      ap (λ (xs : List MessageView). length xs) said.all ∙ length-around said.before said.next said.rest in
      let many : calls_behind past c ≡ length said.before = omega (arith, count, all, said.so_many) in
      ap (λ (k : ℕ). take k (messages_of i.whose)) many ∙ ap (λ (xs : List MessageView). take (length said.before) xs) said.all
      ∙ take_front said.before (said.next ∷ said.rest)

  outside_left : n.due ≡ None → (r : ℕ) → n.inside r ≡ None → AreLeft b r (world_at b asks past r) (idle w.history_is.states)
  outside_left none r out =
      are_left b r (world_at b asks past r) (idle w.history_is.states)
      (subst (λ (xs : List TargetState). Same b r (n.worlds r) (idle xs)) (w.stand.free none) (w.stand.rest r out))

  pub devices-kept : n.due ≡ None → KeepsDevices b asks past
  devices-kept none =
      record {
        told = w.history_is;
        defined = w.defined;
        outside = outside_left none;
        inside = λ r c is. inside_left r c (w.stand.said r c is);
      }
    where
      inside_left : (r c : ℕ) → IsInsideWith b asks n w.stand.ahead r c → AreLeftInside b asks past w.history_is.states r c
      inside_left r c i =
          record {
            whose = i.whose;
            asked = ap (λ (rs : List Reply). asks c rs) (sym (settled-told b asks past c)) ∙ i.asked;
            root = i.root;
            left = subst (λ (ms : List MessageView). AreLeft b r (n.worlds r) (said_so_far b i.whose w.history_is.states ms).now)
                (sym (so_far none r c i))
                (subst (λ (xs : List TargetState). AreLeft b r (n.worlds r) (said_so_far b i.whose xs i.said.before).now)
                (w.stand.free none)
                (are_left b r (n.worlds r) (said_so_far b i.whose w.stand.ahead i.said.before).now
                (subst (λ (k : ℕ). Same b k (n.worlds r) (said_so_far b i.whose w.stand.ahead i.said.before).now) i.root i.said.same)));
          }

  -- NO WALK UNDER WAY
  module _ (rests : (c : ℕ) → n.walk c ≡ Ends) where
    no_act : (c : ℕ) (act : Act) → first_act (n.walk c) ≡ Some act → ⊥
    no_act c act e = (let f : None ≡ Some act = ap (λ (x : WalkTree). first_act x) (sym (rests c)) ∙ e in cc)

    none_due : n.due ≡ None
    none_due = by n.due refl
      where
        by : (o : Option ℕ) → n.due ≡ o → o ≡ None
        by None e = refl
        by (Some c) e = absurd (no_act c (Settle (w.stand.due c e).verdict) (w.stand.due c e).settles)

    none_inside : (r : ℕ) → n.inside r ≡ None
    none_inside r = by (n.inside r) refl
      where
        by : (o : Option ℕ) → n.inside r ≡ o → o ≡ None
        by None e = refl
        by (Some c) e =
            absurd (no_act c (Send (Call (w.stand.said r c e).whose.bus (messages_of (w.stand.said r c e).whose)) (w.stand.said r c e).left)
            (w.stand.said r c e).sends)

    -- each device stands in the world of its root as the history has it
    device_is : (d : ℕ) (x : TargetState) → slice_get w.history_is.states d ≡ Some x
        → device_in (worlds_of b asks past) (root_of b (of_device (λ y. y.bus) 0 b d)) d ≡ x
    device_is d x at =
        let dev = get_same_length b.devices w.history_is.states d x (sym (history_many b asks (order past) w.history_is w.defined)) at in
        let home : of_device (λ y. y.bus) 0 b d ≡ dev.0.bus = ap
        (λ (o : Option DeviceView). unwrap_or (option_map (λ (y : DeviceView). y.bus) o) 0) dev.1 in
        let within = get_within b.devices d dev.0 dev.0 dev.1 in
        let placed : dev.0.bus < buses b = subst (λ (y : DeviceView). y.bus < buses b) within.1 (plain.placed d dev.0 within.0) in
        let low : root_of b (of_device (λ y. y.bus) 0 b d) < length b.roots =
        tree.root_is (of_device (λ y. y.bus) 0 b d) (subst (λ (s : ℕ). s < buses b) (sym home) placed) in
        let left = outside_left none_due (root_of b (of_device (λ y. y.bus) 0 b d))
        (none_inside (root_of b (of_device (λ y. y.bus) 0 b d))) in
        ap (λ (o : Option World). option_map_or (λ (u : World). unwrap_or (slice_get u.devices d) Silent) o Silent)
        (get_numbers (world_at b asks past) 0 (length b.roots) (root_of b (of_device (λ y. y.bus) 0 b d)) low
        ∙ ap (λ (r : ℕ). Some (world_at b asks past r)) (zero-add (root_of b (of_device (λ y. y.bus) 0 b d))))
        ∙ ap (λ (o : Option TargetState). unwrap_or o Silent) (left.same d refl ∙ at)

    pub devices-left : LeavesDevices b asks past
    devices-left =
        record {
          told = w.history_is;
          defined = w.defined;
          worlds = record {
            roots = roots_are (world_at b asks past) stands.told.root 0 (length b.roots);
            boards = All-from_recursion (λ u. u.board ≡ b) (worlds_of b asks past)
                (boards_are b (world_at b asks past) stands.told.board 0 (length b.roots));
          };
          states = ap (λ (k : ℕ). map (λ d. device_in (worlds_of b asks past) (root_of b (of_device (λ x. x.bus) 0 b d)) d)
              (range_with_len 0 k))
              (sym (history_many b asks (order past) w.history_is w.defined))
              ∙ map_numbers (λ d. device_in (worlds_of b asks past) (root_of b (of_device (λ x. x.bus) 0 b d)) d) 0 w.history_is.states
              (λ i x at. ap (λ (d : ℕ). device_in (worlds_of b asks past) (root_of b (of_device (λ y. y.bus) 0 b d)) d) (zero-add i)
              ∙ device_is i x at);
        }
