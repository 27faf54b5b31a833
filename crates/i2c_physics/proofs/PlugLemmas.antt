-- What a plug gives: the ports of the roots as they are opened, in order.
use Rattle.i2c_physics.proofs.Cited.{◌≡◌, ℕ, ◌+◌, ◌≤◌, List, [], ◌∷◌, ◌++◌, length, map, get_or, refl, sym, ◌∙◌, ap, All, range_with_len}
use Rattle.i2c_physics.proofs.Cited.{BoardView, World, opening_world, openings}
use Rattle.std.proofs.lemmas.List.Elements.{All-map}
use Rattle.std.proofs.lemmas.List.FromFn.{length-map-range_with_len}
use Rattle.i2c_physics.proofs.WiredAndLemmas.{listed_more}

module _ {X : Type 0} (opened : ℕ → X) where
  all_opened : (P : X → Type 0) → ((r : ℕ) → P (opened r)) → (rs : List ℕ) → All P (map opened rs)
  all_opened P each rs = All-map P opened rs (λ k d h. each (get_or rs k d))

  seen_of : {Y : Type 0} (f : X → Y) (g : ℕ → Y) → ((r : ℕ) → f (opened r) ≡ g r) → (rs : List ℕ) → map f (map opened rs) ≡ map g rs
  seen_of f g each [] = refl
  seen_of f g each (r ∷ rs) =
      let head = each r in
      let rest = seen_of f g each rs in
      cc

  module _ (b : BoardView) (ps : List X) (are : ps ≡ map opened (range_with_len 0 (length b.roots))) where
    pub opened-count : length ps ≡ length b.roots
    opened-count = ap length are ∙ length-map-range_with_len opened 0 (length b.roots)

    pub opened-all : (P : X → Type 0) → ((r : ℕ) → P (opened r)) → All P ps
    opened-all P each = rw are (all_opened P each (range_with_len 0 (length b.roots)))

    pub opened-worlds : (world : X → World) → ((r : ℕ) → world (opened r) ≡ opening_world b r) → map world ps ≡ openings b
    opened-worlds world each = rw are (seen_of world (opening_world b) each (range_with_len 0 (length b.roots)))

    pub opened-seen : {Y : Type 0} (f : X → Y) (g : ℕ → Y) → ((r : ℕ) → f (opened r) ≡ g r)
        → map f ps ≡ map g (range_with_len 0 (length b.roots))
    opened-seen f g each = rw are (seen_of f g each (range_with_len 0 (length b.roots)))

-- the ports of the roots below one are opened, in a vector of this length with room for those of all
pub record HaveOpened {X : Type 0} (port_of : ℕ → X) (roots root : ℕ) (ports : List X) (len capacity : ℕ) : Type 0 where
  pub opened : ports ≡ map port_of (range_with_len 0 root)
  pub count : len ≡ root
  pub room : roots ≤ capacity

-- .. and that of the one is pushed
pub open-next : {X : Type 0} {port_of : ℕ → X} {roots root : ℕ} {ports more : List X} {len capacity longer wide : ℕ} (port : X)
    → HaveOpened port_of roots root ports len capacity → port ≡ port_of root → more ≡ ports ++ port ∷ [] → longer ≡ len + 1
    → wide ≡ capacity → HaveOpened port_of roots (root + 1) more longer wide
open-next {port_of = f} {root = root} {ports = ports} port was is pushed grown same =
    record {
      opened = pushed ∙ ap (λ p. ports ++ p ∷ []) is ∙ ap (λ ps. ps ++ f root ∷ []) was.opened ∙ sym (listed_more f root);
      count = grown ∙ ap (λ n. n + 1) was.count;
      room = rw same was.room;
    }
