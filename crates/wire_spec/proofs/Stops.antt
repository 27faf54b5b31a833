-- A stop on the wires.
use Rattle.wire_spec.proofs.Cited.{◌≡◌, ℕ, ◌+◌, Bool, true, false, cond, List, [], ◌∷◌, map, refl, ap, sym, ◌∙◌, not, Table, Site, Bit}
use Rattle.wire_spec.proofs.Cited.{fall, finish, some_one, pulls_line, where_joined, stop_site, Mask, Seen, Stopped, Bus, holds_line}
use Rattle.wire_spec.proofs.Cited.{sda_level, each, edge, finishes, bus_of, released, joined_from, rejoin}
use Rattle.wire_spec.specs.Bus.{rejoin_from, rejoined, pulled}
use Rattle.wire_spec.proofs.Roots.{map_step, some_map, no_one, map_map}

sites_same : {X : Type 0} (ss : List (Site X)) → map {A = Bit X} (λ (c : Bit X). c.site) (map released ss) ≡ ss
sites_same [] = refl
sites_same (s ∷ ss) = ap (λ xs. s ∷ xs) (sites_same ss)

rejoin_one : {X : Type 0} (f : ℕ → Bool) (k : ℕ) (ss : List (Site X)) → rejoin_from f k (map released ss) ≡ map released
    (joined_from f k ss)
rejoin_one f k [] = refl
rejoin_one f k (s ∷ ss) = ap (λ bs. released (record s { joined = f k; heard = false }) ∷ bs) (rejoin_one f (k + 1) ss)

rejoin_same : {X : Type 0} (mask : Mask X) (ss : List (Site X)) → rejoined mask (map released ss) ≡ map released (rejoin mask ss)
rejoin_same {X} mask ss = ap (λ all. rejoin_from (mask all) 0 (map released ss)) (sites_same ss) ∙ rejoin_one (mask ss) 0 ss

-- SDA goes up while SCL is high: a stop for all that is joined, and what is joined is read anew
pub stop_run : {A X : Type 0} (t : Table X) (mask : Mask X) (f : A → Bit X) (g : A → Site X) (xs : List A) (c : Seen)
    → ((a : A) → where_joined (finish t) (f a) ≡ released (stop_site t (g a)))
    → some_one holds_line (map f xs) ≡ false → ((a : A) → pulls_line t (f a) ≡ false)
    → pulled t mask (bus_of false true (map f xs) c) false false
    ≡ bus_of false false (map released (rejoin mask (map (stop_site t) (map g xs)))) (Stopped ∷ c)
unfolding pulled
stop_run {A} {X} t mask f g xs c ends low quiet =
    let line : some_one (pulls_line t) (map f xs) ≡ false = some_map f (pulls_line t) (λ x. false) quiet xs ∙ no_one xs in
    let w : Bus X = bus_of false false (map f xs) c in
    ap (λ b. edge t mask (not b) false w) low
    ∙ (ap (λ b. cond {A = Bus X} (not b) (cond (sda_level t w) (finishes t mask w) w) (each fall w)) low
    ∙ (ap (λ b. cond {A = Bus X} (not b) (finishes t mask w) w) line
    ∙ ap (λ bs. bus_of false false bs (Stopped ∷ c))
    (ap (rejoined mask) (map_step f (λ a. released (stop_site t (g a))) (where_joined (finish t)) ends xs
    ∙ sym (map_map (λ a. stop_site t (g a)) released xs) ∙ ap (map released) (sym (map_map g (stop_site t) xs)))
    ∙ rejoin_same mask (map (stop_site t) (map g xs)))))
