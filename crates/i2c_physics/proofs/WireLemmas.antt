-- The ports of the rig of two wires, as they are opened, and as they are taken apart.
use Rattle.i2c_physics.proofs.Cited.{◌≡◌, ℕ, ◌+◌, ◌<◌, ◌≤◌, List, [], ◌∷◌, ◌++◌, length, map, append_assoc, refl, sym, ap, ◌∙◌, arith, All}
use Rattle.i2c_physics.proofs.Cited.{range_with_len, length-map, map-append, get_or-map, All-head, All-tail, splat_is_map, BoardView}
use Rattle.i2c_physics.proofs.Cited.{AreWorldsOf, openings, BitPortView, PortView, wired, opening_wired, parted, edges_of, none_of, unset}
use Rattle.std.specs.Prelude.{min, sum_by}
use Rattle.std.proofs.lemmas.List.Sums.{sum_by-append}
use Rattle.ports.specs.Causes.{MOST}
use Rattle.wire_spec.specs.Bus.{edges_in}
use Rattle.i2c_physics.specs.BitRigs.{WiredView}
use Rattle.i2c_physics.proofs.PlugLemmas.{opened-count, opened-all, opened-worlds}
use Rattle.i2c_physics.proofs.RigLemmas.{count_of_worlds}

map_both : {A B C : Type 0} (f : A → B) (g : B → C) (h : A → C) → ((x : A) → g (f x) ≡ h x) → (xs : List A) → map g (map f xs) ≡ map h xs
map_both f g h same [] = refl
map_both f g h same (x ∷ xs) = let head = same x in let rest = map_both f g h same xs in cc

module _ (b : BoardView) (ps : List BitPortView) (are : map wired ps ≡ map (opening_wired b) (range_with_len 0 (length b.roots))) where
  pub wired_count : length ps ≡ length b.roots
  wired_count = sym (length-map ps wired) ∙ opened-count (opening_wired b) b (map wired ps) are

  pub wired_all : (P : WiredView → Type 0) → ((r : ℕ) → P (opening_wired b r)) → All (λ p. P (wired p)) ps
  wired_all P each k d lt =
      let long : k < length (map wired ps) = omega (arith, length-map ps wired, lt) in
      rw (get_or-map wired ps k d (wired d) lt) at (opened-all (opening_wired b) b (map wired ps) are P each k (wired d) long)

  pub wired_worlds : map (λ (p : BitPortView). p.world) ps ≡ openings b
  wired_worlds =
      sym (map_both wired (λ v. v.port.world) (λ p. p.world) (λ p. refl) ps)
      ∙ opened-worlds (opening_wired b) b (map wired ps) are (λ v. v.port.world) (λ r. refl)

-- one port more, on which SCL rose so often
pub one_more_edge : (ps : List BitPortView) (p : BitPortView) (sum more new : ℕ) → sum ≡ edges_of ps → more ≡ min (edges_in p.seen) MOST
    → new ≡ min (sum + more) MOST → new ≡ edges_of (ps ++ p ∷ [])
one_more_edge ps p sum more new was one is =
    let all : sum_by (λ (q : BitPortView). edges_in q.seen) (ps ++ p ∷ []) ≡ sum_by (λ (q : BitPortView). edges_in q.seen) ps
    + (0 + edges_in p.seen) =
    sum_by-append (λ (q : BitPortView). edges_in q.seen) ps (p ∷ []) in
    omega (arith, was, one, is, all)

-- where none of these ports has counted a fault, their counts are all 0
no_fault : (ps : List BitPortView) → All (λ (p : BitPortView). p.faults ≡ 0) ps → map (λ (p : BitPortView). 0) ps ≡ map
    (λ (p : BitPortView). p.faults) ps
no_fault [] none = refl
no_fault (p ∷ ps) none =
    let head = All-head (λ (q : BitPortView). q.faults ≡ 0) p ps none in
    let rest = no_fault ps (All-tail (λ (q : BitPortView). q.faults ≡ 0) p ps none) in
    cc

pub none_counted : (ps : List BitPortView) → All (λ (p : BitPortView). p.faults ≡ 0) ps
    → none_of (length (map (λ (p : BitPortView). p.log) ps)) ≡ map (λ (p : BitPortView). p.faults) ps
none_counted ps none = splat_is_map ps _ 0 (sym (length-map ps (λ (p : BitPortView). p.log))) ∙ no_fault ps none

-- nothing was set up of any of these ports
pub none_set : (ps : List BitPortView) → unset (length (map (λ (p : BitPortView). p.log) ps)) ≡ map (λ (p : BitPortView). []) ps
none_set ps = splat_is_map ps _ [] (sym (length-map ps (λ (p : BitPortView). p.log)))

-- one port more is taken apart
pub one_more_parted : (old now new : List PortView) (ps : List BitPortView) (p : BitPortView) → now ≡ old ++ map parted ps
    → new ≡ now ++ parted p ∷ [] → new ≡ old ++ map parted (ps ++ p ∷ [])
one_more_parted old now new ps p was more =
    more ∙ ap (λ (l : List PortView). l ++ parted p ∷ []) was
    ∙ append_assoc old (map parted ps) (parted p ∷ []) ∙ ap (λ (l : List PortView). old ++ l) (sym (map-append parted ps (p ∷ [])))

-- what is taken apart is the same worlds
pub parted_worlds : (ps : List BitPortView) → map (λ p. p.world) (map parted ps) ≡ map (λ (p : BitPortView). p.world) ps
parted_worlds ps = map_both parted (λ p. p.world) (λ p. p.world) (λ p. refl) ps

pub room_enough : (b : BoardView) (ps : List BitPortView) → AreWorldsOf b (map (λ (p : BitPortView). p.world) ps)
    → length ps ≤ length b.roots
room_enough b ps of = omega (arith, length-map ps (λ (p : BitPortView). p.world), count_of_worlds b (map (λ p. p.world) ps) of)
