-- Numbers whose targets are joined, listed one after the other while it is read whether they are.
use Rattle.bus_lines.proofs.Cited.{◌≡◌, ℕ, zero, suc, ◌+◌, ◌<◌, ◌≤◌, ◌==◌, Bool, true, false, ◌&&◌, ◌||◌, List, [], ◌∷◌, length, take}
use Rattle.bus_lines.proofs.Cited.{get_or, Option, refl, sym, ap, ◌∙◌, arith, option_map_or, take_more, there, Bit, NodeState, joined_at}
use Rattle.bus_lines.proofs.Cited.{PlaceView, states_on, joins_by, known_of, is_among, AreNumbers, by_number, or-false}
use Rattle.bus_lines.proofs.AddressLemmas.{same_of}
use Rattle.bus_lines.proofs.KnownLemmas.{refreshed_those, refreshed_states}
use Rattle.bus_lines.proofs.NumbersLemmas.{among_more}
use mathlib.Core.Bool.{or_self}

-- one more is listed where it is joined
listed_either : (f : ℕ → Bool) (k n : ℕ) (a here : Bool) → (k == n) ≡ here → ((a && f k) || (here && f n)) ≡ ((a || here) && f k)
listed_either f k n true true at = ap (λ i. f k || f i) (sym (same_of k n at)) ∙ or_self (f k)
listed_either f k n false true at = ap f (sym (same_of k n at))
listed_either f k n true false at = or-false (f k)
listed_either f k n false false at = refl

pub listed_next : (f : ℕ → Bool) (ns : List ℕ) (i n k : ℕ) (was joined : Bool) → i < length ns → n ≡ get_or ns i 0
    → was ≡ (is_among (take i ns) k && f k) → joined ≡ f n
    → (was || ((k == get_or ns i 0) && joined)) ≡ (is_among (take (i + 1) ns) k && f k)
listed_next f ns i n k was joined lt at listed read =
    let m = get_or ns i 0 in
    let a = is_among (take i ns) k in
    ap (λ t. t || ((k == m) && joined)) listed ∙ ap (λ j. (a && f k) || ((k == m) && j)) (read ∙ ap f at)
    ∙ listed_either f k m a (k == m) refl
    ∙ ap (λ t. t && f k) (sym (ap (λ ms. is_among ms k) (take_more ns i 0 lt) ∙ among_more (take i ns) m k))

pub take_whole : (ns : List ℕ) (i : ℕ) → length ns ≤ i → take i ns ≡ ns
take_whole [] zero over = refl
take_whole [] (suc i) over = refl
take_whole (n ∷ ns) zero over = absurd (omega (arith, over))
take_whole (n ∷ ns) (suc i) over = ap (λ ms. n ∷ ms) (take_whole ns i (omega (arith, over)))

-- of those of which it was read, the list has those that are joined
pub listed_known : (ps : List PlaceView) (ns : List ℕ) (bs new : List (Bit NodeState))
    → new ≡ by_number (known_of ns (joins_by ps (states_on bs))) 0 bs → length new ≡ length bs → AreNumbers (length bs) ns
    → (k : ℕ) (t : Bool) → is_among ns k ≡ t → (t && joins_by ps (states_on bs) k) ≡ (t && joined_at new k)
listed_known ps ns bs new is long are k true among =
    let r = there new k (omega (arith, are.below k among, long)) in
    sym (ap (λ (o : Option (Bit NodeState)). option_map_or (λ (b : Bit NodeState). b.site.joined) o false) r.1
    ∙ refreshed_those ps ns bs new is k r.0 r.1 among
    ∙ ap (λ xs. joins_by ps xs k) (refreshed_states ps ns bs new is))
listed_known ps ns bs new is long are k false among = refl
