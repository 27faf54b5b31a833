-- Following the words through any set of lines without dead ends finds the line, or the longest front that begins one; where
-- no line is long, the first words decide. The inductions go over the words.
use Rattle.tools.proofs.Cited.{◌≡◌, ℕ, zero, suc, ◌+◌, ◌≤◌, true, false, List, [], ◌∷◌, ◌++◌, length, take, Option, Some, None, Result, Ok}
use Rattle.tools.proofs.Cited.{Err, cond, refl, ap, arith, inl, inr, Word, LineSet, nothing, node, Begins, IsWithin, goes_on, or_refused}
use Rattle.tools.proofs.Cited.{follow_words}
use Rattle.std.proofs.lemmas.Bool.{cases_Bool}
use Rattle.tools.specs.LineSets.{IsLine, IsLongest}

-- each place that can be reached leads to the end of some line
abbrev pub IsLive : {A : Type 0} → LineSet A → Type 0
IsLive nothing = Unit {0}
IsLive (node e f) = Begins (node e f) [] × ((w : Word) → IsLive (f w))

-- such a set that has a line
pub record IsAlive {A : Type 0} (g : LineSet A) : Type 0 where
  pub some : goes_on g ≡ true
  pub live : IsLive g

line_node : {A : Type 0} (h : LineSet A) (ws : List Word) (a : A) → IsLine h ws a → goes_on h ≡ true
line_node nothing ws a x = absurd x
line_node (node e f) ws a x = refl

pub line_followed : {A : Type 0} (g : LineSet A) (i : ℕ) (ws : List Word) (a : A) → IsLine g ws a → follow_words g i ws ≡ Ok a
line_followed nothing i ws a h = absurd h
line_followed (node e f) i [] a h = rw h
line_followed (node e f) i (w ∷ ws) a h = rw (line_node (f w) ws a h) (line_followed (f w) (i + 1) ws a h)

ends_is : {A : Type 0} (e : Option A) (i : ℕ) (a : A) → or_refused e i ≡ Ok a → e ≡ Some a
ends_is None i a h = absurd cc
ends_is (Some b) i a h = ap Some cc

step_ok : {A : Type 0} (h : LineSet A) (i : ℕ) (ws : List Word) (a : A) → cond (goes_on h) (follow_words h (i + 1) ws) (Err i) ≡ Ok a
    → follow_words h (i + 1) ws ≡ Ok a
step_ok nothing i ws a x = absurd cc
step_ok (node e f) i ws a x = x

pub followed_line : {A : Type 0} (g : LineSet A) (i : ℕ) (ws : List Word) (a : A) → follow_words g i ws ≡ Ok a → IsLine g ws a
followed_line nothing i ws a h = absurd cc
followed_line (node e f) i [] a h = ends_is e i a h
followed_line (node e f) i (w ∷ ws) a h = followed_line (f w) (i + 1) ws a (step_ok (f w) i ws a h)

inside : {A : Type 0} (e : Option A) (f : Word → LineSet A) (w : Word) (ws : List Word) → Begins (node e f) (w ∷ ws) → Begins (f w) ws
inside e f w ws b = record { rest = b.rest; value = b.value; whole = b.whole }

longer_most : {A : Type 0} (e : Option A) (f : Word → LineSet A) (w : Word) (ws : List Word) (j : ℕ) → IsLongest (f w) ws j
    → (k : ℕ) → k ≤ length (w ∷ ws) → Begins (node e f) (take k (w ∷ ws)) → k ≤ suc j
longer_most e f w ws j l zero h b = omega arith
longer_most e f w ws j l (suc k) h b = omega (arith, l.most k (omega arith) (inside e f w (take k ws) b))

-- one word more
longer : {A : Type 0} (e : Option A) (f : Word → LineSet A) (w : Word) (ws : List Word) (j : ℕ) → IsLongest (f w) ws j
    → IsLongest (node e f) (w ∷ ws) (suc j)
longer e f w ws j l = record {
  within = omega (arith, l.within);
  begins = record { rest = l.begins.rest; value = l.begins.value; whole = l.begins.whole };
  most = longer_most e f w ws j l;
}

stops_most : {A : Type 0} (e : Option A) (f : Word → LineSet A) (w : Word) (ws : List Word) → goes_on (f w) ≡ false
    → (k : ℕ) → k ≤ length (w ∷ ws) → Begins (node e f) (take k (w ∷ ws)) → k ≤ 0
stops_most e f w ws none zero h b = omega arith
stops_most e f w ws none (suc k) h b = let is = line_node (f w) (take k ws ++ b.rest) b.value b.whole in absurd cc

-- no word fits
stops : {A : Type 0} (e : Option A) (f : Word → LineSet A) (w : Word) (ws : List Word) → Begins (node e f) [] → goes_on (f w) ≡ false
    → IsLongest (node e f) (w ∷ ws) 0
stops e f w ws live none = record { within = omega arith; begins = live; most = stops_most e f w ws none }

is_over : {A : Type 0} (e : Option A) (f : Word → LineSet A) → Begins (node e f) [] → IsLongest (node e f) [] 0
is_over e f live = record { within = omega arith; begins = live; most = λ k h b. h }

pub record Stops {A : Type 0} (g : LineSet A) (i k : ℕ) (ws : List Word) : Type 0 where
  pub count : ℕ
  pub place : k ≡ i + count
  pub longest : IsLongest g ws count

abbrev err_of : {A : Type 0} → ℕ → Result A ℕ
err_of i = Err i

err_is : {A : Type 0} (i k : ℕ) → err_of {A = A} i ≡ err_of k → i ≡ k
err_is i k h = cc

over_stops : {A : Type 0} (e : Option A) (f : Word → LineSet A) (i k : ℕ) → Begins (node e f) [] → or_refused e i ≡ Err k
    → Stops (node e f) i k []
over_stops None f i k live h = record { count = 0; place = omega (arith, err_is i k h); longest = is_over None f live }
over_stops (Some a) f i k live h = absurd cc

pub refused_longest : {A : Type 0} (g : LineSet A) (i : ℕ) (ws : List Word) (k : ℕ) → IsLive g → goes_on g ≡ true
    → follow_words g i ws ≡ Err k → Stops g i k ws
refused_longest nothing i ws k live some h = absurd cc
refused_longest (node e f) i [] k live some h = over_stops e f i k live.0 h
refused_longest (node e f) i (w ∷ ws) k live some h =
    elim (cases_Bool (goes_on (f w))) [
      | inl is ↦
          let more = refused_longest (f w) (i + 1) ws k (live.1 w) is (rw is at h) in
          record { count = suc more.count; place = omega (arith, more.place); longest = longer e f w ws more.count more.longest }
      | inr isnt ↦ record { count = 0; place = omega (arith, err_is i k (rw isnt at h)); longest = stops e f w ws live.0 isnt }
    ]

-- where no line goes on after n words, these and one more decide
pub follow_front : {A : Type 0} (n : ℕ) (g : LineSet A) (i : ℕ) (ws : List Word) → IsWithin n g
    → follow_words g i (take (suc n) ws) ≡ follow_words g i ws
follow_front n nothing i ws h = refl
follow_front n (node e f) i [] h = refl
follow_front zero (node e f) i (w ∷ ws) h = rw (h w)
follow_front (suc n) (node e f) i (w ∷ ws) h = ap (λ r. cond (goes_on (f w)) r (Err i)) (follow_front n (f w) (i + 1) ws (h w))
