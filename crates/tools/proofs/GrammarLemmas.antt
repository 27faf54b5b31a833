-- A grammar has no dead end, its lines are followed as they are read, they mean what its ends mean, and none is longer than
-- the longest way through it. The inductions go over the grammar.
use Rattle.tools.proofs.Cited.{◌≡◌, ℕ, zero, suc, ◌+◌, ◌-◌, ◌≤◌, Bool, true, false, List, [], ◌∷◌, length, drop, Option, Some, None, Result}
use Rattle.tools.proofs.Cited.{Ok, Err, cond, nat_le, refl, sym, ap, subst, ◌∙◌, arith, add-one, slice_get, bytes_eq, Grammar, word, class}
use Rattle.tools.proofs.Cited.{maybe, read_at, Word, LineSet, nothing, node, IsWithin, Begins, goes_on, or_refused, follow_words, ◌>>=◌}
use Rattle.tools.proofs.Cited.{is_at}
use Rattle.std.specs.Prelude.{is_none}
use Rattle.std.proofs.lemmas.Bool.{le-leb, lt-leb}
use Rattle.std.proofs.lemmas.Slice.Eq.{bytes_eq-Decides}
use Rattle.std.proofs.Math.Dec.{leb-suc-suc}
use Rattle.tools.specs.Grammars.{ends, word_or, meaning_at_end, after_word, going_on, line_set}
use Rattle.tools.specs.LineSets.{IsLine}
use Rattle.tools.specs.Readers.{of_word, is_some_text}
use Rattle.tools.proofs.LineSetLemmas.{IsLive, IsAlive}

-- ---- no dead end

begins : {A : Type 0} (g : LineSet A) → IsAlive g → Begins g []
begins nothing h = absurd (let x = h.some in cc)
begins (node e f) h = h.live.0

live_if : {A : Type 0} (b : Bool) (g h : LineSet A) → IsLive g → IsLive h → IsLive (cond b g h)
live_if true g h p q = p
live_if false g h p q = q

live_behind : {A B : Type 0} (k : B → LineSet A) (o : Option B) → ((b : B) → IsLive (k b)) → IsLive (going_on k o)
live_behind k None h = tt
live_behind k (Some b) h = h b

live_next : {A : Type 0} (g : LineSet A) → IsLive g → (w : Word) → IsLive (after_word g w)
live_next nothing h w = tt
live_next (node e f) h w = h.1 w

line_behind : {A B : Type 0} (k : B → LineSet A) (o : Option B) (b : B) (ws : List Word) (a : A) → o ≡ Some b → IsLine (k b) ws a
    → IsLine (going_on k o) ws a
line_behind k None b ws a is h = absurd cc
line_behind k (Some c) b ws a is h = let same : c ≡ b = cc in rw same h

-- a word is itself
line_itself : {A : Type 0} (text : Word) (g h : LineSet A) (ws : List Word) (a : A) → IsLine g ws a
    → IsLine (cond (bytes_eq text text) g h) ws a
line_itself text g h ws a line = let same : bytes_eq text text ≡ true = (bytes_eq-Decides text text).1 refl in rw same line

pub alive : {A : Type 0} (g : Grammar A) → IsAlive (line_set g)
alive (ends a) = record { some = refl; live = (record { rest = []; value = a; whole = refl }, λ w. tt) }
alive (word text g) =
    let b = begins (line_set g) (alive g) in
    record {
      some = refl;
      live = (
        record { rest = text ∷ b.rest; value = b.value; whole = line_itself text (line_set g) nothing b.rest b.value b.whole },
        λ w.
            live_if (bytes_eq w text) (line_set g) nothing (alive g).live tt,
      );
    }
alive (word_or text g h) =
    let b = begins (line_set g) (alive g) in
    record {
      some = refl;
      live = (
        record {
          rest = text ∷ b.rest;
          value = b.value;
          whole = line_itself text (line_set g) (after_word (line_set h) text) b.rest b.value b.whole;
        },
        λ w. live_if (bytes_eq w text) (line_set g) (after_word (line_set h) w) (alive g).live (live_next (line_set h) (alive h).live w),
      );
    }
alive (class c k) =
    let b = begins (line_set (k c.means)) (alive (k c.means)) in
    record {
      some = refl;
      live = (
        record {
          rest = c.sample ∷ b.rest;
          value = b.value;
          whole = line_behind (λ x. line_set (k x)) (c.of c.sample) c.means b.rest b.value c.fits b.whole;
        },
        λ w. live_behind (λ x. line_set (k x)) (c.of w) (λ x. (alive (k x)).live),
      );
    }
alive (maybe a g) = record { some = refl; live = (record { rest = []; value = a; whole = refl }, live_next (line_set g) (alive g).live) }

-- ---- its lines are followed as they are read

-- what a set says of the word at a place, where these stand behind it
abbrev here : {A : Type 0} → Option A → (Word → LineSet A) → ℕ → List Word → Option Word → Result A ℕ
here e f p rest None = or_refused e p
here e f p rest (Some w) = cond (goes_on (f w)) (follow_words (f w) (p + 1) rest) (Err p)

from_place : {A : Type 0} (e : Option A) (f : Word → LineSet A) (p i : ℕ) (ws : List Word)
    → follow_words (node e f) p (drop i ws) ≡ here e f p (drop (suc i) ws) (slice_get ws i)
from_place e f p zero [] = refl
from_place e f p (suc i) [] = refl
from_place e f p zero (w ∷ ws) = refl
from_place e f p (suc i) (w ∷ ws) = from_place e f p i ws

follow_here : {A : Type 0} (e : Option A) (f : Word → LineSet A) (i : ℕ) (ws : List Word)
    → follow_words (node e f) i (drop i ws) ≡ here e f i (drop (i + 1) ws) (slice_get ws i)
follow_here e f i ws = from_place e f i i ws ∙ rw (← add-one i)

over_none : (ws : List Word) (i : ℕ) → nat_le (length ws) i ≡ is_none (slice_get ws i)
over_none [] zero = refl
over_none [] (suc i) = rw (le-leb 0 (suc i) (omega arith))
over_none (w ∷ ws) zero = rw (lt-leb (suc (length ws)) 0 (omega arith))
over_none (w ∷ ws) (suc i) = leb-suc-suc (length ws) i ∙ over_none ws i

here_of : {A : Type 0} (g : LineSet A) (i : ℕ) (ws : List Word) → goes_on g ≡ true
    → here (meaning_at_end g) (after_word g) i (drop (i + 1) ws) (slice_get ws i) ≡ follow_words g i (drop i ws)
here_of nothing i ws some = absurd cc
here_of (node e f) i ws some = sym (follow_here e f i ws)

ends_here : {A : Type 0} (a : A) (p : ℕ) (rest : List Word) (o : Option Word)
    → here (Some a) (λ w. nothing) p rest o ≡ cond (is_none o) (Ok a) (Err p)
ends_here a p rest None = refl
ends_here a p rest (Some w) = refl

maybe_here : {A : Type 0} (a : A) (e : Option A) (f : Word → LineSet A) (p : ℕ) (rest : List Word) (o : Option Word)
    → here (Some a) f p rest o ≡ cond (is_none o) (Ok a) (here e f p rest o)
maybe_here a e f p rest None = refl
maybe_here a e f p rest (Some w) = refl

nothing_here : {A : Type 0} (p : ℕ) (rest : List Word) (o : Option Word) → here {A = A} None (λ w. nothing) p rest o ≡ Err p
nothing_here p rest None = refl
nothing_here p rest (Some w) = refl

if_here : {A : Type 0} (b : Bool) (g h : LineSet A) (r : Result A ℕ) (p : ℕ) (rest : List Word) → goes_on g ≡ true
    → follow_words g (p + 1) rest ≡ r
    → cond (goes_on (cond b g h)) (follow_words (cond b g h) (p + 1) rest) (Err p) ≡ cond b r
    (cond (goes_on h) (follow_words h (p + 1) rest) (Err p))
if_here true g h r p rest some more = rw some more
if_here false g h r p rest some more = refl

word_here : {A : Type 0} (text : Word) (g : LineSet A) (e : Option A) (f : Word → LineSet A) (r : Result A ℕ) (p : ℕ) (rest : List Word)
    (o : Option Word)
    → goes_on g ≡ true → follow_words g (p + 1) rest ≡ r
    → here e (λ w. cond (bytes_eq w text) g (f w)) p rest o ≡ cond (is_some_text text o) r (here e f p rest o)
word_here text g e f r p rest None some more = refl
word_here text g e f r p rest (Some w) some more = if_here (bytes_eq w text) g (f w) r p rest some more

class_here : {A B : Type 0} (k : B → LineSet A) (f : B → Result A ℕ) (p : ℕ) (rest : List Word) (o : Option B)
    → ((b : B) → goes_on (k b) ≡ true) → ((b : B) → follow_words (k b) (p + 1) rest ≡ f b)
    → cond (goes_on (going_on k o)) (follow_words (going_on k o) (p + 1) rest) (Err p) ≡ (or_refused o p >>= f)
class_here k f p rest None some more = refl
class_here k f p rest (Some b) some more = rw (some b) (more b)

of_here : {A B : Type 0} (of : Word → Option B) (k : B → LineSet A) (f : B → Result A ℕ) (p : ℕ) (rest : List Word) (o : Option Word)
    → ((b : B) → goes_on (k b) ≡ true) → ((b : B) → follow_words (k b) (p + 1) rest ≡ f b)
    → here None (λ w. going_on k (of w)) p rest o ≡ (or_refused (of_word of o) p >>= f)
of_here of k f p rest None some more = refl
of_here of k f p rest (Some w) some more = class_here k f p rest (of w) some more

pub follow : {A : Type 0} (g : Grammar A) (i : ℕ) (ws : List Word) → follow_words (line_set g) i (drop i ws) ≡ read_at g ws i
follow (ends a) i ws = follow_here (Some a) (λ w. nothing) i ws ∙ ends_here a i (drop (i + 1) ws) (slice_get ws i) ∙ rw (over_none ws i)
follow (word text g) i ws =
    follow_here None (λ w. cond (bytes_eq w text) (line_set g) nothing) i ws
    ∙ word_here text (line_set g) None (λ w. nothing) (read_at g ws (i + 1)) i (drop (i + 1) ws) (slice_get ws i) (alive g).some
    (follow g (i + 1) ws)
    ∙ ap (cond (is_at text ws i) (read_at g ws (i + 1))) (nothing_here i (drop (i + 1) ws) (slice_get ws i))
follow (word_or text g h) i ws =
    follow_here (meaning_at_end (line_set h)) (λ w. cond (bytes_eq w text) (line_set g) (after_word (line_set h) w)) i ws
    ∙ word_here text (line_set g) (meaning_at_end (line_set h)) (after_word (line_set h)) (read_at g ws (i + 1)) i (drop (i + 1) ws)
    (slice_get ws i)
    (alive g).some (follow g (i + 1) ws)
    ∙ ap (cond (is_at text ws i) (read_at g ws (i + 1))) (here_of (line_set h) i ws (alive h).some ∙ follow h i ws)
follow (class c k) i ws =
    follow_here None (λ w. going_on (λ b. line_set (k b)) (c.of w)) i ws
    ∙ of_here c.of (λ b. line_set (k b)) (λ b. read_at (k b) ws (i + 1)) i (drop (i + 1) ws) (slice_get ws i) (λ b. (alive (k b)).some)
    (λ b. follow (k b) (i + 1) ws)
follow (maybe a g) i ws =
    follow_here (Some a) (after_word (line_set g)) i ws
    ∙ maybe_here a (meaning_at_end (line_set g)) (after_word (line_set g)) i (drop (i + 1) ws) (slice_get ws i)
    ∙ rw (over_none ws i) (ap (cond (is_none (slice_get ws i)) (Ok a)) (here_of (line_set g) i ws (alive g).some ∙ follow g i ws))

-- ---- they mean what its ends mean

-- whatever ends a line has P
abbrev pub AllEnds : {A : Type 0} → (A → Type 0) → Grammar A → Type 0
AllEnds P (ends a) = P a
AllEnds P (word text g) = AllEnds P g
AllEnds P (word_or text g h) = AllEnds P g × AllEnds P h
AllEnds P (class {B} c k) = (w : Word) (b : B) → c.of w ≡ Some b → AllEnds P (k b)
AllEnds P (maybe a g) = P a × AllEnds P g

abbrev pub Means : {A : Type 0} → (A → Type 0) → LineSet A → Type 0
Means {A} P g = (ws : List Word) (a : A) → IsLine g ws a → P a

means_if : {A : Type 0} (P : A → Type 0) (b : Bool) (g h : LineSet A) → Means P g → Means P h → Means P (cond b g h)
means_if P true g h p q = p
means_if P false g h p q = q

means_behind : {A B : Type 0} (P : A → Type 0) (k : B → LineSet A) (o : Option B) → ((b : B) → o ≡ Some b → Means P (k b))
    → Means P (going_on k o)
means_behind P k None h ws a line = absurd line
means_behind P k (Some b) h ws a line = h b refl ws a line

node_line : {A : Type 0} (g : LineSet A) (ws : List Word) (a : A) → IsLine (node (meaning_at_end g) (after_word g)) ws a → IsLine g ws a
node_line nothing [] a line = absurd cc
node_line nothing (w ∷ ws) a line = line
node_line (node e f) ws a line = line

pub means : {A : Type 0} (P : A → Type 0) (g : Grammar A) → AllEnds P g → Means P (line_set g)
means P (ends b) h [] a line = let same : b ≡ a = cc in subst P same h
means P (ends b) h (w ∷ ws) a line = absurd line
means P (word text g) h [] a line = absurd cc
means P (word text g) h (w ∷ ws) a line = means_if P (bytes_eq w text) (line_set g) nothing (means P g h) (λ vs b x. absurd x) ws a line
means P (word_or text g k) h [] a line = means P k h.1 [] a (node_line (line_set k) [] a line)
means P (word_or text g k) h (w ∷ ws) a line =
    means_if P (bytes_eq w text) (line_set g) (after_word (line_set k) w) (means P g h.0)
    (λ vs b x. means P k h.1 (w ∷ vs) b (node_line (line_set k) (w ∷ vs) b x)) ws a line
means P (class c k) h [] a line = absurd cc
means P (class c k) h (w ∷ ws) a line = means_behind P (λ b. line_set (k b)) (c.of w) (λ b is. means P (k b) (h w b is)) ws a line
means P (maybe b g) h [] a line = let same : b ≡ a = cc in subst P same h.0
means P (maybe b g) h (w ∷ ws) a line = means P g h.1 (w ∷ ws) a (node_line (line_set g) (w ∷ ws) a line)

-- ---- how long they are

-- each way through it ends within so many words
abbrev pub EndsWithin : {A : Type 0} → ℕ → Grammar A → Type 0
EndsWithin n (ends a) = Unit {0}
EndsWithin zero (word text g) = ⊥
EndsWithin (suc n) (word text g) = EndsWithin n g
EndsWithin zero (word_or text g h) = ⊥
EndsWithin (suc n) (word_or text g h) = EndsWithin n g × EndsWithin (suc n) h
EndsWithin zero (class c k) = ⊥
EndsWithin (suc n) (class {B} c k) = (w : Word) (b : B) → c.of w ≡ Some b → EndsWithin n (k b)
EndsWithin n (maybe a g) = EndsWithin n g

-- so it does within one more
pub ends_within_more : {A : Type 0} (n : ℕ) (g : Grammar A) → EndsWithin n g → EndsWithin (suc n) g
ends_within_more n (ends a) h = tt
ends_within_more zero (word text g) h = absurd h
ends_within_more (suc n) (word text g) h = ends_within_more n g h
ends_within_more zero (word_or text g k) h = absurd h
ends_within_more (suc n) (word_or text g k) h = (ends_within_more n g h.0, ends_within_more (suc n) k h.1)
ends_within_more zero (class c k) h = absurd h
ends_within_more (suc n) (class c k) h = λ w b is. ends_within_more n (k b) (h w b is)
ends_within_more n (maybe a g) h = ends_within_more n g h

-- and within any that are no fewer
ends_within_added : {A : Type 0} (more n : ℕ) (g : Grammar A) → EndsWithin n g → EndsWithin (more + n) g
ends_within_added zero n g h = let at : 0 + n ≡ n = omega arith in rw at h
ends_within_added (suc more) n g h =
    let at : suc more + n ≡ suc (more + n) = omega arith in
    rw at (ends_within_more (more + n) g (ends_within_added more n g h))

pub ends_within_most : {A : Type 0} (n most : ℕ) (g : Grammar A) → n ≤ most → EndsWithin n g → EndsWithin most g
ends_within_most n most g le h = let at : most - n + n ≡ most = omega arith in rw at at (ends_within_added (most - n) n g h)

within_if : {A : Type 0} (n : ℕ) (b : Bool) (g h : LineSet A) → IsWithin n g → IsWithin n h → IsWithin n (cond b g h)
within_if n true g h p q = p
within_if n false g h p q = q

within_behind : {A B : Type 0} (n : ℕ) (k : B → LineSet A) (o : Option B) → ((b : B) → o ≡ Some b → IsWithin n (k b))
    → IsWithin n (going_on k o)
within_behind n k None h = tt
within_behind n k (Some b) h = h b refl

within_next : {A : Type 0} (n : ℕ) (g : LineSet A) → IsWithin (suc n) g → (w : Word) → IsWithin n (after_word g w)
within_next n nothing h w = tt
within_next n (node e f) h w = h w

-- another line may end here too
within_node : {A : Type 0} (n : ℕ) (e : Option A) (g : LineSet A) → IsWithin n g → IsWithin n (node e (after_word g))
within_node zero e nothing h = λ w. refl
within_node (suc n) e nothing h = λ w. tt
within_node zero e (node d f) h = h
within_node (suc n) e (node d f) h = h

-- then no line goes on after them
pub within : {A : Type 0} (n : ℕ) (g : Grammar A) → EndsWithin n g → IsWithin n (line_set g)
within zero (ends a) h = λ w. refl
within (suc n) (ends a) h = λ w. tt
within zero (word text g) h = absurd h
within (suc n) (word text g) h = λ w. within_if n (bytes_eq w text) (line_set g) nothing (within n g h) tt
within zero (word_or text g k) h = absurd h
within (suc n) (word_or text g k) h =
    λ w. within_if n (bytes_eq w text) (line_set g) (after_word (line_set k) w) (within n g h.0)
    (within_next n (line_set k) (within (suc n) k h.1) w)
within zero (class c k) h = absurd h
within (suc n) (class c k) h = λ w. within_behind n (λ b. line_set (k b)) (c.of w) (λ b is. within n (k b) (h w b is))
within n (maybe a g) h = within_node n (Some a) (line_set g) (within n g h)
