-- Commands at the front that ask for nothing, one by one, and the room for what commands print.
use Rattle.caller_core.proofs.Cited.{◌≡◌, ℕ, zero, suc, refl, ◌+◌, ◌<◌, Bool, true, false, cond, List, [], ◌∷◌, ◌++◌, map, take, drop, Some}
use Rattle.caller_core.proofs.Cited.{ap, ◌∙◌, arith, add-one, inl, inr, ◌==◌, slice_get, sum_by, flat_map, eqb_tells, sum_by-cons}
use Rattle.caller_core.proofs.Cited.{command_text, front_room, room_of, quiet_text, command_talk, quiet, quiet_front, CommandView}
use Rattle.caller_core.proofs.PlaceLemmas.{there}

take_cons : {X : Type 0} (n : ℕ) (x : X) (xs : List X) → take (n + 1) (x ∷ xs) ≡ x ∷ take n xs
take_cons n x xs = rw add-one

abbrev text_by : CommandView → List CommandView → Bool → List ℕ
text_by c rest b = flat_map command_text (map quiet (take (cond b (quiet_front rest + 1) 0) (c ∷ rest)))

abbrev room_by : CommandView → List CommandView → Bool → ℕ
room_by c rest b = sum_by room_of (take (cond b (quiet_front rest + 1) 0) (c ∷ rest))

-- a sum over the first, and over those behind them
sum_parts : {X : Type 0} (f : X → ℕ) (n : ℕ) (xs : List X) → sum_by f xs ≡ sum_by f (take n xs) + sum_by f (drop n xs)
sum_parts f zero xs = let none : sum_by f (take 0 xs) ≡ 0 = refl in omega (arith, none)
sum_parts f (suc n) [] = let none : sum_by f (take (suc n) []) ≡ 0 = refl in omega (arith, none)
sum_parts f (suc n) (x ∷ xs) = omega (arith, sum_by-cons f x xs, sum_by-cons f x (take n xs), sum_parts f n xs)

pub front_parts : (cs : List CommandView) → sum_by room_of cs ≡ front_room cs + sum_by room_of (drop (quiet_front cs) cs)
front_parts cs = sum_parts room_of (quiet_front cs) cs

module _ (cs : List CommandView) (k : ℕ) (c : CommandView) (is : slice_get cs k ≡ Some c) where
  none : (command_talk c).places ≡ 0 → ((command_talk c).places == 0) ≡ true
  none e = ap (λ (n : ℕ). n == 0) e

  some : 0 < (command_talk c).places → ((command_talk c).places == 0) ≡ false
  some h = elim (eqb_tells (command_talk c).places 0) [ inl x ↦ absurd (omega (arith, x.1, h)) | inr x ↦ x.0 ]

  pub front_quiet : (command_talk c).places ≡ 0 → quiet_front (drop k cs) ≡ quiet_front (drop (k + 1) cs) + 1
  front_quiet e = ap quiet_front (there cs k c is) ∙ ap (λ b. cond b (quiet_front (drop (k + 1) cs) + 1) 0) (none e)

  pub front_asking : 0 < (command_talk c).places → quiet_front (drop k cs) ≡ 0
  front_asking h = ap quiet_front (there cs k c is) ∙ ap (λ b. cond b (quiet_front (drop (k + 1) cs) + 1) 0) (some h)

  pub text_quiet : (command_talk c).places ≡ 0 → quiet_text (drop k cs) ≡ command_text (quiet c) ++ quiet_text (drop (k + 1) cs)
  text_quiet e =
      let rest : List CommandView = drop (k + 1) cs in
      ap (λ (xs : List CommandView). quiet_text xs) (there cs k c is) ∙ ap (λ b. text_by c rest b) (none e)
      ∙ ap (λ (xs : List CommandView). flat_map command_text (map quiet xs)) (take_cons (quiet_front rest) c rest)

  pub text_asking : 0 < (command_talk c).places → quiet_text (drop k cs) ≡ []
  text_asking h =
      let rest : List CommandView = drop (k + 1) cs in
      ap (λ (xs : List CommandView). quiet_text xs) (there cs k c is) ∙ ap (λ b. text_by c rest b) (some h)

  pub room_quiet : (command_talk c).places ≡ 0 → front_room (drop k cs) ≡ room_of c + front_room (drop (k + 1) cs)
  room_quiet e =
      let rest : List CommandView = drop (k + 1) cs in
      ap (λ (xs : List CommandView). front_room xs) (there cs k c is) ∙ ap (λ b. room_by c rest b) (none e)
      ∙ ap (λ (xs : List CommandView). sum_by room_of xs) (take_cons (quiet_front rest) c rest)
      ∙ sum_by-cons room_of c (take (quiet_front rest) rest)

  pub room_asking : 0 < (command_talk c).places → front_room (drop k cs) ≡ 0
  room_asking h =
      let rest : List CommandView = drop (k + 1) cs in
      ap (λ (xs : List CommandView). front_room xs) (there cs k c is) ∙ ap (λ b. room_by c rest b) (some h)

  pub sum_there : sum_by room_of (drop k cs) ≡ room_of c + sum_by room_of (drop (k + 1) cs)
  sum_there = ap (λ (xs : List CommandView). sum_by room_of xs) (there cs k c is) ∙ sum_by-cons room_of c (drop (k + 1) cs)
