-- The devices that a rig keeps are those that the worlds leave. The induction goes over the devices, the first being
-- number k.
use Rattle.i2c_physics.proofs.Cited.{◌≡◌, ℕ, suc, ◌+◌, ◌<◌, Bool, true, false, List, [], ◌∷◌, ◌++◌, length, map, get_or, Option, Some, None}
use Rattle.i2c_physics.proofs.Cited.{refl, sym, ◌∙◌, ap, arith, inl, inr, add-zero, zero-add, append_assoc, All, IsSome, if◌then◌else◌}
use Rattle.i2c_physics.proofs.Cited.{slice_get, unwrap_or, option_to_list, option_map_or, range_with_len, length-map, map-append}
use Rattle.i2c_physics.proofs.Cited.{length-append, get_or-map, All-head, All-tail, length-range_with_len, slice_get_cases, BoardView}
use Rattle.i2c_physics.proofs.Cited.{DeviceView, IsPlainBoard, root_of, TargetState, Silent, World, AreWorldsOf, devices_of, is_own, owns}
use Rattle.i2c_physics.proofs.Cited.{device_of, state_at, states_from, IsThere, eq_self}
use Rattle.std.specs.Prelude.{slice_index}
use Rattle.std.proofs.lemmas.List.Elements.{All-get_or}
use Rattle.std.proofs.lemmas.List.FromFn.{get_or-range_with_len}
use Rattle.i2c_spec.specs.Tree.{buses, of_device}
use Rattle.i2c_spec.specs.World.{device_in}
use Rattle.i2c_spec.proofs.TreeLemmas.{tree_root_is}

-- these devices are those of the board from number k on
abbrev AreFrom : BoardView → ℕ → List DeviceView → Type 0
AreFrom b k ds = (i : ℕ) → slice_get b.devices (k + i) ≡ slice_get ds i

here : (b : BoardView) (k : ℕ) (d : DeviceView) (ds : List DeviceView) → AreFrom b k (d ∷ ds) → slice_get b.devices k ≡ Some d
here b k d ds from = rw add-zero at (from 0)

next : (b : BoardView) (k : ℕ) (d : DeviceView) (ds : List DeviceView) → AreFrom b k (d ∷ ds) → AreFrom b (k + 1) ds
next b k d ds from i = let e : k + 1 + i ≡ k + suc i = omega arith in rw e (from (suc i))

pub count_of_worlds : (b : BoardView) (ws : List World) → AreWorldsOf b ws → length ws ≡ length b.roots
count_of_worlds b ws of = sym (length-map ws (λ w. w.root)) ∙ ap length of.roots ∙ length-range_with_len 0 (length b.roots)

one_there : (x : Option TargetState) → IsSome x → option_to_list x ≡ unwrap_or x Silent ∷ []
one_there None h = cc
one_there (Some x) h = refl

own_there : (own : Bool) (x : Option TargetState) → IsSome (if own then x else None)
    → option_to_list (if own then x else None) ≡ unwrap_or x Silent ∷ []
own_there true x h = one_there x h
own_there false x h = cc

device_there : (o : Option World) (k : ℕ) → IsSome (device_of o k)
    → option_to_list (device_of o k) ≡ option_map_or (λ w. unwrap_or (slice_get w.devices k) Silent) o Silent ∷ []
device_there None k h = cc
device_there (Some w) k h = own_there (owns w k) (slice_get w.devices k) h

root_at : (b : BoardView) (ws : List World) (home : ℕ) (w : World) → AreWorldsOf b ws → home < length b.roots → get_or ws home w ≡ w
    → w.root ≡ home
root_at b ws home w of low is =
    ap (λ v. v.root) (sym is) ∙ sym (get_or-map (λ v. v.root) ws home w 0 (omega (arith, count_of_worlds b ws of)))
    ∙ ap (λ rs. get_or rs home 0) of.roots ∙ get_or-range_with_len 0 (length b.roots) home 0 low ∙ zero-add home

is_there : (b : BoardView) (ws : List World) (home k : ℕ) → AreWorldsOf b ws → home < length b.roots → is_own b home k ≡ true
    → IsThere ws home k → IsSome (state_at ws home k)
is_there b ws home k of h own there =
    elim (slice_get_cases ws home).1 [
      | inl x ↦ there x.0 x.2 (
          let board : x.0.board ≡ b = rw x.3 at (All-get_or (λ w. w.board ≡ b) ws home x.0 x.1 of.boards) in
          let root = root_at b ws home x.0 of h x.3 in
          rw (board, root) own)
      | inr x ↦ absurd (omega (arith, count_of_worlds b ws of))
    ]

-- a device is of the root that its bus hangs from
own_root : (b : BoardView) (k : ℕ) (d : DeviceView) → slice_get b.devices k ≡ Some d → is_own b (root_of b d.bus) k ≡ true
own_root b k d is = rw is (eq_self (root_of b d.bus))

states_are : (b : BoardView) (ws : List World) (k : ℕ) (ds : List DeviceView) → IsPlainBoard b → AreWorldsOf b ws
    → AreFrom b k ds → All (λ d. d.bus < buses b) ds
    → ((i : ℕ) → i < length ds → IsThere ws (slice_index (map (λ d. root_of b d.bus) ds) i) (k + i))
    → states_from k (map (λ d. root_of b d.bus) ds) ws
    ≡ map (λ d. device_in ws (root_of b (of_device (λ x. x.bus) 0 b d)) d) (range_with_len k (length ds))
states_are b ws k [] plain of from placed there = refl
states_are b ws k (d ∷ ds) plain of from placed there =
    let low : root_of b d.bus < length b.roots = tree_root_is b plain.planted d.bus (All-head (λ d. d.bus < buses b) d ds placed) in
    let first : IsThere ws (root_of b d.bus) k = rw add-zero at (there 0 (omega arith)) in
    let some = is_there b ws (root_of b d.bus) k of low (own_root b k d (here b k d ds from)) first in
    let one = device_there (slice_get ws (root_of b d.bus)) k some in
    let bus : of_device (λ x. x.bus) 0 b k ≡ d.bus = rw (here b k d ds from) refl in
    let rest = states_are b ws (k + 1) ds plain of (next b k d ds from) (All-tail (λ d. d.bus < buses b) d ds placed)
    (λ i h. let e : k + 1 + i ≡ k + suc i = omega arith in rw e (there (suc i) (omega arith))) in
    rw (one, bus, rest) refl

kept-devices : (b : BoardView) (ws : List World) → IsPlainBoard b → AreWorldsOf b ws
    → ((i : ℕ) → i < length b.devices → IsThere ws (slice_index (map (λ d. root_of b d.bus) b.devices) i) i)
    → states_from 0 (map (λ d. root_of b d.bus) b.devices) ws ≡ devices_of b ws
kept-devices b ws plain of there =
    states_are b ws 0 b.devices plain of (λ i. rw zero-add refl) plain.placed (λ i h. rw zero-add (there i h))

-- as of the fields of the room
pub devices-kept : (b : BoardView) (homes : List ℕ) (old new : List TargetState) (ws : List World)
    → IsPlainBoard b → homes ≡ map (λ d. root_of b d.bus) b.devices → old ≡ [] → AreWorldsOf b ws
    → new ≡ old ++ states_from 0 homes ws
    → ((i : ℕ) → i < length homes → IsThere ws (slice_index homes i) i)
    → new ≡ devices_of b ws
devices-kept b homes old new ws plain are none of kept there =
    let at_home : (i : ℕ) → i < length b.devices → IsThere ws (slice_index (map (λ d. root_of b d.bus) b.devices) i) i =
    λ i h. rw (← are) (there i (rw are (rw length-map h))) in
    kept ∙ rw (none, are) (kept-devices b ws plain of at_home)

-- one port more, whose log is kept
pub count-kept : {A B P : Type 0} (f : A → B) (g : P → B) (old now : List A) (ys : List P) → map f now ≡ map f old ++ map g ys
    → length now ≡ length old + length ys
count-kept f g old now ys e =
    sym (length-map now f) ∙ ap length e ∙ length-append (map f old) (map g ys)
    ∙ ap (λ n. n + length (map g ys)) (length-map old f) ∙ ap (λ n. length old + n) (length-map ys g)

pub one-more-kept : {A B P : Type 0} (f : A → B) (g : P → B) (old now new : List A) (ys : List P) (x : A) (p : P)
    → map f now ≡ map f old ++ map g ys → new ≡ now ++ x ∷ [] → f x ≡ g p → map f new ≡ map f old ++ map g (ys ++ p ∷ [])
one-more-kept f g old now new ys x p was more same =
    ap (map f) more ∙ map-append f now (x ∷ []) ∙ ap (λ l. l ++ f x ∷ []) was ∙ ap (λ y. (map f old ++ map g ys) ++ y ∷ []) same
    ∙ append_assoc (map f old) (map g ys) (g p ∷ []) ∙ ap (λ l. map f old ++ l) (sym (map-append g ys (p ∷ [])))
