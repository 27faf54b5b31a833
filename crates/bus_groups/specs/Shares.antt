-- A list parted by the homes of its places, and parts put together again in the old order.
use Rattle.std.specs.Prelude.{ℕ, ◌==◌, List, [], ◌∷◌, ◌++◌, map, take, drop, set, get_or, sum_by, if◌then◌else◌}
use Rattle.std.specs.List.{range_with_len}

-- the elements whose places have this home, in their order
abbrev pub of_home : {X : Type 0} → List ℕ → ℕ → List X → List X
of_home [] h xs = []
of_home (k ∷ ks) h [] = []
of_home (k ∷ ks) h (x ∷ xs) = if k == h then x ∷ of_home ks h xs else of_home ks h xs

-- what those of a home cost, all together
abbrev pub cost_of_home : List ℕ → ℕ → List ℕ → ℕ
cost_of_home homes h costs = sum_by (λ n. n) (of_home homes h costs)

-- the parts of so many homes
abbrev pub parts_by : {X : Type 0} → List ℕ → ℕ → List X → List (List X)
parts_by homes many xs = map (λ h. of_home homes h xs) (range_with_len 0 many)

-- for each place the next element of its home's part
abbrev pub joined_by : {X : Type 0} → List ℕ → List (List X) → List X
joined_by [] xss = []
joined_by (h ∷ hs) xss = take 1 (get_or xss h []) ++ joined_by hs (set xss h (drop 1 (get_or xss h [])))
