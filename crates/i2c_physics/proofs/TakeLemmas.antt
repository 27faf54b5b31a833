-- Worlds of which a device was taken out: each other device is as it was. The inductions go over the worlds.
use Rattle.i2c_physics.proofs.Cited.{◌≡◌, ℕ, zero, suc, ◌+◌, ◌<◌, ◌≤◌, Bool, true, false, List, [], ◌∷◌, ◌++◌, length, map, drop, set}
use Rattle.i2c_physics.proofs.Cited.{get_or, append_assoc, Option, Some, None, refl, sym, ◌∙◌, ap, subst, arith, IsSome, if◌then◌else◌}
use Rattle.i2c_physics.proofs.Cited.{slice_get, option_to_list, unwrap_or, TargetState, Silent, World, own_device, owns, without, state_at}
use Rattle.i2c_physics.proofs.Cited.{states_from, taken_out, IsThere, seen_on}
use Rattle.i2c_physics.proofs.OwnLemmas.{seen-get, seen-set}
use Rattle.i2c_base.proofs.ListLemmas.{set_elsewhere}

get-set_some : {A : Type 0} (xs : List A) (k j : ℕ) (x : A) → IsSome (slice_get (set xs k x) j) → IsSome (slice_get xs j)
get-set_some [] k j x some = some
get-set_some (y ∷ ys) zero zero x some = refl
get-set_some (y ∷ ys) zero (suc j) x some = some
get-set_some (y ∷ ys) (suc k) zero x some = some
get-set_some (y ∷ ys) (suc k) (suc j) x some = get-set_some ys k j x some

-- of a world; where the device is of another root nothing is taken out
others_stay : {A : Type 0} (taken : Bool) (xs : List A) (k j : ℕ) (x : A) → (j ≡ k → ⊥)
    → slice_get (if taken then set xs k x else xs) j ≡ slice_get xs j
others_stay true xs k j x other = set_elsewhere xs k j x other
others_stay false xs k j x other = refl

some_before : {A : Type 0} (taken own : Bool) (xs : List A) (k j : ℕ) (x : A)
    → IsSome (if own then slice_get (if taken then set xs k x else xs) j else None)
    → IsSome (if own then slice_get xs j else None)
some_before true true xs k j x some = get-set_some xs k j x some
some_before false true xs k j x some = some
some_before taken false xs k j x some = some

other_at : (ws : List World) (home k h j : ℕ) → (j ≡ k → ⊥) → state_at (taken_out ws home k) h j ≡ state_at ws h j
other_at [] home k h j other = refl
other_at (w ∷ ws) zero k zero j other =
    ap (λ o. if owns w j then o else None) (others_stay (owns w k) w.devices k j Silent other)
other_at (w ∷ ws) zero k (suc h) j other = refl
other_at (w ∷ ws) (suc home) k zero j other = refl
other_at (w ∷ ws) (suc home) k (suc h) j other = other_at ws home k h j other

-- the devices after number k are those that were there before it was taken out
later : (ws : List World) (home k n : ℕ) (homes : List ℕ) → k < n → states_from n homes (taken_out ws home k) ≡ states_from n homes ws
later ws home k n [] after = refl
later ws home k n (h ∷ hs) after =
    ap (λ o. option_to_list o ++ states_from (n + 1) hs (taken_out ws home k)) (other_at ws home k h n (λ e. omega arith))
    ∙ ap (λ xs. option_to_list (state_at ws h n) ++ xs) (later ws home k (n + 1) hs (omega arith))

pub later-states : (ws new : List World) (home k : ℕ) (homes : List ℕ) → new ≡ taken_out ws home k
    → states_from (k + 1) homes new ≡ states_from (k + 1) homes ws
later-states ws new home k homes is = ap (states_from (k + 1) homes) is ∙ later ws home k (k + 1) homes (omega arith)

some_is : (v w : World) → Some v ≡ Some w → v ≡ w
some_is v w e = ap (λ o. unwrap_or o v) e

-- who is there afterwards was there before
there_before : (ws : List World) (home k h j : ℕ) → IsThere (taken_out ws home k) h j → IsThere ws h j
there_before [] home k h j there = there
there_before (v ∷ ws) zero k zero j there =
    λ w at own. some_before (owns v k) (owns v j) v.devices k j Silent (there (without v k) refl (rw (some_is v w at) own))
there_before (v ∷ ws) zero k (suc h) j there = there
there_before (v ∷ ws) (suc home) k zero j there = there
there_before (v ∷ ws) (suc home) k (suc h) j there = there_before ws home k h j there

pub there-before : (ws new : List World) (home k h j : ℕ) → new ≡ taken_out ws home k → IsThere new h j → IsThere ws h j
there-before ws new home k h j is there = there_before ws home k h j (subst (λ (vs : List World). IsThere vs h j) is there)

-- a device is taken out of one of the ports, whose worlds these are
pub none-taken : {P : Type 0} (f : P → World) (ps : List P) (home k : ℕ) → length ps ≤ home → map f ps ≡ taken_out (map f ps) home k
none-taken f [] home k past = refl
none-taken f (p ∷ ps) zero k past = absurd (omega arith)
none-taken f (p ∷ ps) (suc home) k past = ap (λ (ws : List World). f p ∷ ws) (none-taken f ps home k (omega arith))

pub one-taken : {P : Type 0} (f : P → World) (ps : List P) (home k : ℕ) (d new : P) → home < length ps
    → f new ≡ without (f (get_or ps home d)) k
    → map f (set ps home new) ≡ taken_out (map f ps) home k
one-taken f [] home k d new low is = absurd (omega arith)
one-taken f (p ∷ ps) zero k d new low is = ap (λ (w : World). w ∷ map f ps) is
one-taken f (p ∷ ps) (suc home) k d new low is = ap (λ (ws : List World). f p ∷ ws) (one-taken f ps home k d new (omega arith) is)

pub at-home : {P : Type 0} (f : P → World) (ps : List P) (home k : ℕ) (d : P) → home < length ps
    → own_device (f (get_or ps home d)) k ≡ state_at (map f ps) home k
at-home f [] home k d low = absurd (omega arith)
at-home f (p ∷ ps) zero k d low = refl
at-home f (p ∷ ps) (suc home) k d low = at-home f ps home k d (omega arith)

pub is-home : {P : Type 0} (f : P → World) (ps : List P) (home : ℕ) (d : P) (w : World) → home < length ps
    → slice_get (map f ps) home ≡ Some w → f (get_or ps home d) ≡ w
is-home f [] home d w low at = absurd (omega arith)
is-home f (p ∷ ps) zero d w low at = some_is (f p) w at
is-home f (p ∷ ps) (suc home) d w low at = is-home f ps home d w (omega arith) at

-- a world that has its devices so, once one of its own was taken out
module _ (w : World) (k : ℕ) (states : List TargetState) (are : w.devices ≡ seen_on w.board w.root w.board.devices states)
    (own : owns w k ≡ true) where
  pub own-is : (s : TargetState) → length states ≡ length w.board.devices → own_device w k ≡ Some (get_or states k s)
  own-is s count = rw own (ap (λ ts. slice_get ts k) are ∙ seen-get w.board w.root w.board.devices states k s count own)

  pub without-is : (new : List TargetState) → new ≡ set states k Silent
      → record w { devices = seen_on w.board w.root w.board.devices new } ≡ without w k
  without-is new is =
      rw own (ap (λ (ts : List TargetState). record w { devices = ts })
      (ap (seen_on w.board w.root w.board.devices) is ∙ seen-set w.board w.root w.board.devices states k Silent own
      ∙ ap (λ (ts : List TargetState). set ts k Silent) (sym are)))

-- one device more is kept, and with those that are left it is the whole
pub one-kept : (states new : List TargetState) (o : Option TargetState) (homes : List ℕ) (n home : ℕ) (ws vs : List World)
    (all : List TargetState)
    → drop n homes ≡ home ∷ drop (n + 1) homes → o ≡ state_at ws home n → vs ≡ taken_out ws home n → new ≡ states ++ option_to_list o
    → states ++ states_from n (drop n homes) ws ≡ all
    → new ++ states_from (n + 1) (drop (n + 1) homes) vs ≡ all
one-kept states new o homes n home ws vs all dropped value out more kept =
    let rest = states_from (n + 1) (drop (n + 1) homes) ws in
    ap (λ (xs : List TargetState). xs ++ states_from (n + 1) (drop (n + 1) homes) vs) more
    ∙ ap (λ (ys : List TargetState). (states ++ option_to_list o) ++ ys) (later-states ws vs home n (drop (n + 1) homes) out)
    ∙ append_assoc states (option_to_list o) rest
    ∙ ap (λ (p : Option TargetState). states ++ (option_to_list p ++ rest)) value
    ∙ ap (λ (hs : List ℕ). states ++ states_from n hs ws) (sym dropped)
    ∙ kept
