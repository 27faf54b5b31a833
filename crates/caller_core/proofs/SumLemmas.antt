-- Each reply takes its transfer's part of a sum over what is still to come.
use Rattle.caller_core.proofs.Cited.{◌≡◌, ℕ, zero, suc, ◌+◌, ◌-◌, ◌<◌, ◌≤◌, true, false, cond, List, [], ◌∷◌, ◌++◌, drop, map, Some, None}
use Rattle.caller_core.proofs.Cited.{refl, sym, ap, ◌∙◌, arith, add-one, inl, inr, sum_by, range_with_len, leb_tells, eqb_tells}
use Rattle.caller_core.proofs.Cited.{sum_by-cons, TransferView, Reply, Dialogue, next_place, place_after, is_over, Answered, Progress}
use Rattle.caller_core.proofs.Cited.{command_talk, quiet_front, turn_to, over_with, replied, progress, next_of, asked_at, sum_of, sum_left}
use Rattle.caller_core.proofs.Cited.{CommandView, same_Some, none-some}
use Rattle.std.proofs.lemmas.List.Sums.{fold_push}
use Rattle.tools.specs.Dialogues.{sum_behind}
use Rattle.caller_core.specs.Turns.{sum_from}

-- ---- sums over places

sum_here : (f : TransferView → ℕ) (d : Dialogue) (k : ℕ) → k < d.places → sum_behind f d k ≡ f (d.at k) + sum_behind f d (k + 1)
sum_here f d k within =
    let count : d.places - k ≡ suc (d.places - (k + 1)) = omega (arith, within) in
    ap (λ n. sum_by f (map d.at (range_with_len k n))) count
    ∙ sum_by-cons f (d.at k) (map d.at (range_with_len (k + 1) (d.places - (k + 1))))

sum_past : (f : TransferView → ℕ) (d : Dialogue) (k : ℕ) → d.places ≤ k → sum_behind f d k ≡ 0
sum_past f d k past =
    let none : d.places - k ≡ 0 = omega (arith, past) in ap (λ n. sum_by f (map d.at (range_with_len k n))) none

-- what is passed over takes nothing back
sum_later : (f : TransferView → ℕ) (d : Dialogue) (k n : ℕ) → sum_behind f d (k + n) ≤ sum_behind f d k
sum_later f d k zero = let same : k + 0 ≡ k = omega arith in omega (arith, ap (λ j. sum_behind f d j) same)
sum_later f d k (suc n) =
    let before : sum_behind f d (k + n) ≤ sum_behind f d k = sum_later f d k n in
    elim (leb_tells d.places (k + n)) [
      | inl x ↦ let past : sum_behind f d (k + suc n) ≡ 0 = sum_past f d (k + suc n) (omega (arith, x.1)) in omega (arith, past)
      | inr x ↦
          let here : sum_behind f d (k + n) ≡ f (d.at (k + n)) + sum_behind f d (k + n + 1) = sum_here f d (k + n) x.1 in
          let place : k + n + 1 ≡ k + suc n = omega arith in
          omega (arith, before, here, ap (λ j. sum_behind f d j) place)
    ]

-- ---- whose turn it is

pub drop_cons : {X : Type 0} (n : ℕ) (x : X) (xs : List X) → drop (n + 1) (x ∷ xs) ≡ drop n xs
drop_cons n x xs = rw add-one

quiet_sum : (f : TransferView → ℕ) (cs : List CommandView) → sum_by (sum_of f) (drop (quiet_front cs) cs) ≡ sum_by (sum_of f) cs
quiet_sum f [] = refl
quiet_sum f (c ∷ cs) =
    elim (eqb_tells (command_talk c).places 0) [
      | inl x ↦
          let none : sum_of f c ≡ 0 = sum_past f (command_talk c) 0 (omega (arith, x.1)) in
          let dropped : drop (quiet_front (c ∷ cs)) (c ∷ cs) ≡ drop (quiet_front cs) cs =
          ap (λ b. drop (cond b (quiet_front cs + 1) 0) (c ∷ cs)) x.0 ∙ drop_cons (quiet_front cs) c cs in
          omega (arith, ap (λ (xs : List CommandView). sum_by (sum_of f) xs) dropped, quiet_sum f cs, sum_by-cons (sum_of f) c cs, none)
      | inr x ↦ ap (λ b. sum_by (sum_of f) (drop (cond b (quiet_front cs + 1) 0) (c ∷ cs))) x.0
    ]

sum_start : (f : TransferView → ℕ) (cs : List CommandView) → sum_from f cs [] ≡ sum_by (sum_of f) cs
sum_start f [] = refl
sum_start f (c ∷ cs) = sym (sum_by-cons (sum_of f) c cs)

sum_turn : (f : TransferView → ℕ) (over : List Answered) (cs : List CommandView) → sum_left f (turn_to over cs) ≡ sum_by (sum_of f) cs
sum_turn f over cs = sum_start f (drop (quiet_front cs) cs) ∙ quiet_sum f cs

-- ---- one reply more

pub progress_push : (cs : List CommandView) (rs : List Reply) (r : Reply) → progress cs (rs ++ r ∷ []) ≡ replied (progress cs rs) r
progress_push cs rs r = fold_push replied (turn_to [] cs) rs r

pub place_push : (c : CommandView) (own : List Reply) (r : Reply)
    → place_after (command_talk c) (own ++ r ∷ []) ≡ next_place (command_talk c) (place_after (command_talk c) own) r
place_push c own r = fold_push (next_place (command_talk c)) 0 own r

falls_in : (f : TransferView → ℕ) (over : List Answered) (left : List CommandView) (own : List Reply) (r : Reply) (t : TransferView)
    → next_of left own ≡ Some t
    → sum_left f (replied (record { over = over; left = left; own = own }) r) + f t
    ≤ sum_left f (record { over = over; left = left; own = own })
falls_in f over [] own r t e = absurd (none-some t e)
falls_in f over (c ∷ cs) own r t e =
    let p : Progress = record { over = over; left = c ∷ cs; own = own } in
    let k : ℕ = place_after (command_talk c) own in
    elim (leb_tells (command_talk c).places k) [
      | inl x ↦ absurd (none-some t (sym (ap (λ b. cond b None (Some ((command_talk c).at k))) x.0) ∙ e))
      | inr x ↦
          let same : (command_talk c).at k ≡ t = same_Some ((command_talk c).at k) t
          (sym (ap (λ b. cond b None (Some ((command_talk c).at k))) x.0) ∙ e) in
          let here : sum_behind f (command_talk c) k ≡ f ((command_talk c).at k) + sum_behind f (command_talk c) (k + 1) =
          sum_here f (command_talk c) k x.1 in
          let later : sum_behind f (command_talk c) (k + 1 + (command_talk c).skips k r) ≤ sum_behind f (command_talk c) (k + 1) =
          sum_later f (command_talk c) (k + 1) ((command_talk c).skips k r) in
          let next : sum_behind f (command_talk c) (place_after (command_talk c) (own ++ r ∷ [])) ≡ sum_behind f (command_talk c)
          (k + 1 + (command_talk c).skips k r) =
          ap (λ j. sum_behind f (command_talk c) j) (place_push c own r) in
          elim (is_over (command_talk c) (place_after (command_talk c) (own ++ r ∷ []))) as
          (λ b. sum_left f (cond b (turn_to (over_with p c (own ++ r ∷ [])) cs) (record p { own = own ++ r ∷ [] })) + f t
          ≤ sum_behind f (command_talk c) k + sum_by (sum_of f) cs) [
            | true ↦ omega (arith, here, ap f same, sum_turn f (over_with p c (own ++ r ∷ [])) cs)
            | false ↦ omega (arith, here, later, next, ap f same)
          ]
    ]

-- before any reply all transfers are still to come
pub sum_first : (f : TransferView → ℕ) (cs : List CommandView) → sum_left f (progress cs []) ≡ sum_by (sum_of f) cs
sum_first f cs = sum_turn f [] cs

-- with a reply to t a sum falls by what t has of it
pub sum_falls : (f : TransferView → ℕ) (cs : List CommandView) (rs : List Reply) (r : Reply) (t : TransferView)
    → asked_at (progress cs rs) ≡ Some t → sum_left f (progress cs (rs ++ r ∷ [])) + f t ≤ sum_left f (progress cs rs)
sum_falls f cs rs r t e =
    let p : Progress = progress cs rs in
    omega (arith, ap (λ (q : Progress). sum_left f q) (progress_push cs rs r), falls_in f p.over p.left p.own r t e)
