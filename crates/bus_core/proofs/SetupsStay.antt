-- The roots of ports, and how they were set up, after a step on one of them.
use Rattle.bus_core.proofs.Cited.{◌≡◌, ℕ, List, [], ◌∷◌, map, set, Some, refl, sym, ◌∙◌, ap}
use Rattle.bus_core.proofs.Cited.{slice_get, map-set}
use Rattle.bus_core.proofs.Cited.{root_ports, RootPort, set_same, roots_of, map_at}
use Rattle.bus_core.specs.State.{setups_of}
use Rattle.ports.specs.declared.port.Port.{Ghosts as PortGhosts}

-- of a port its root, with how it was set up
abbrev set_up : RootPort → ℕ × List ℕ
set_up y = (y.root, y.setup)

-- how the ports were set up is told of them
sockets-setups : {P : Type 0} (g : PortGhosts P) (ports : List (ℕ × P)) → map set_up (root_ports g ports) ≡ setups_of g.setup ports
sockets-setups g [] = refl
sockets-setups g (q ∷ qs) = ap (λ (rs : List (ℕ × List ℕ)). (q.0, g.setup q.1) ∷ rs) (sockets-setups g qs)

-- .. and stays over a step on one
pub setups-stay : {P : Type 0} (g : PortGhosts P) (old new : List (ℕ × P)) (at : ℕ) (x y : RootPort)
    → slice_get (root_ports g old) at ≡ Some x → root_ports g new ≡ set (root_ports g old) at y → y.root ≡ x.root → y.setup ≡ x.setup
    → setups_of g.setup new ≡ setups_of g.setup old
setups-stay g old new at x y here is root setup =
    let same : set_up y ≡ set_up x = (let e = root in let f = setup in cc) in
    sym (sockets-setups g new) ∙ ap (map set_up) is ∙ map-set set_up (root_ports g old) at y
    ∙ ap (set (map set_up (root_ports g old)) at) same
    ∙ set_same (map set_up (root_ports g old)) at (set_up x) (map_at set_up (root_ports g old) at x here)
    ∙ sockets-setups g old

-- the roots are among them
setups-roots : {P : Type 0} (setup : P → List ℕ) (ports : List (ℕ × P)) → map (λ (r : ℕ × List ℕ). r.0) (setups_of setup ports) ≡ roots_of ports
setups-roots setup [] = refl
setups-roots setup (q ∷ qs) = ap (λ (rs : List ℕ). q.0 ∷ rs) (setups-roots setup qs)

-- .. so that they stay with them
pub roots-stay : {P : Type 0} (setup : P → List ℕ) (old new : List (ℕ × P)) → setups_of setup new ≡ setups_of setup old
    → roots_of new ≡ roots_of old
roots-stay setup old new is =
    sym (setups-roots setup new) ∙ ap (map (λ (r : ℕ × List ℕ). r.0)) is ∙ setups-roots setup old
