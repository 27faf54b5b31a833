-- The first line of a text is that of its bytes through the first line feed. The induction goes over the bytes.
use Rattle.std.proofs.Common.{◌≡◌, ℕ, ◌≤◌, ◌&&◌, Bool, true, false, cond, eqb, List, [], ◌∷◌, ◌++◌, length, take, drop, Option, Some, None}
use Rattle.std.proofs.Common.{refl, sym, ◌∙◌, ap, subst, arith}
use Rattle.std.specs.Prelude.{IfSome}
use Rattle.std.specs.Io.BufRead.{DropsThrough, drop_through, take_through}
use Rattle.tools.specs.Splits.{begins_feed, lines_of}
use Rattle.tools.specs.Words.{onto_first}
use Rattle.i2c_session.specs.Inputs.{IsNext, lines_in}

abbrev front : List ℕ → List ℕ
front xs = take_through 10 xs

abbrev behind : List ℕ → List ℕ
behind xs = drop_through 10 xs

-- the lines of a text are that of its front, at most one, and those behind it
record IsCut (xs : List ℕ) : Type 0 where
  all : lines_of xs ≡ lines_of (front xs) ++ lines_of (behind xs)
  none : lines_of (front xs) ≡ [] → lines_of (behind xs) ≡ []
  few : length (lines_of (front xs)) ≤ 1

-- a byte, by whether it is a line feed or a carriage return before one
abbrev with_byte : (feed returned : Bool) → ℕ → List (List ℕ) → List (List ℕ)
with_byte feed returned b ls = cond feed ([] ∷ ls) (cond returned ls (onto_first b ls))

never_none : (b : ℕ) (ls : List (List ℕ)) → onto_first b ls ≡ [] → ⊥
never_none b [] e = (let f : (b ∷ []) ∷ [] ≡ [] = e in cc)
never_none b (l ∷ ls) e = (let f : (b ∷ l) ∷ ls ≡ [] = e in cc)

onto_few : (b : ℕ) (ls : List (List ℕ)) → length ls ≤ 1 → length (onto_first b ls) ≤ 1
onto_few b [] few = omega arith
onto_few b (l ∷ ls) few = few

onto_all : (b : ℕ) (ls ms : List (List ℕ)) → (ls ≡ [] → ms ≡ []) → onto_first b (ls ++ ms) ≡ onto_first b ls ++ ms
onto_all b [] ms none = ap (onto_first b) (none refl) ∙ sym (ap (λ (ns : List (List ℕ)). (b ∷ []) ∷ ns) (none refl))
onto_all b (l ∷ ls) ms none = refl

-- the front begins with a line feed where the text does
feed_front : (xs : List ℕ) → begins_feed (front xs) ≡ begins_feed xs
feed_front [] = refl
feed_front (b ∷ bs) = by (eqb b 10)
  where
    by : (feed : Bool) → begins_feed (cond feed (b ∷ []) (b ∷ front bs)) ≡ eqb b 10
    by true = refl
    by false = refl

cut_behind : (r : Bool) (b : ℕ) (ls ms all : List (List ℕ)) → all ≡ ls ++ ms → (ls ≡ [] → ms ≡ [])
    → cond r all (onto_first b all) ≡ cond r ls (onto_first b ls) ++ ms
cut_behind true b ls ms all is none = is
cut_behind false b ls ms all is none = ap (onto_first b) is ∙ onto_all b ls ms none

none_behind : (r : Bool) (b : ℕ) (ls ms : List (List ℕ)) → (ls ≡ [] → ms ≡ []) → cond r ls (onto_first b ls) ≡ [] → ms ≡ []
none_behind true b ls ms none e = none e
none_behind false b ls ms none e = absurd (never_none b ls e)

few_behind : (r : Bool) (b : ℕ) (ls : List (List ℕ)) → length ls ≤ 1 → length (cond r ls (onto_first b ls)) ≤ 1
few_behind true b ls few = few
few_behind false b ls few = onto_few b ls few

cut_more : (b : ℕ) (bs : List ℕ) → IsCut bs → IsCut (b ∷ bs)
cut_more b bs was = by (eqb b 10) refl
  where
    lines : (f : Bool) → eqb b 10 ≡ f → (cs : List ℕ) → lines_of (b ∷ cs) ≡ with_byte f (eqb b 13 && begins_feed cs) b (lines_of cs)
    lines f is cs = ap (λ (x : Bool). with_byte x (eqb b 13 && begins_feed cs) b (lines_of cs)) is

    front_is : (f : Bool) → eqb b 10 ≡ f → front (b ∷ bs) ≡ cond f (b ∷ []) (b ∷ front bs)
    front_is f is = ap (λ (x : Bool). cond x (b ∷ []) (b ∷ front bs)) is

    behind_is : (f : Bool) → eqb b 10 ≡ f → behind (b ∷ bs) ≡ cond f bs (behind bs)
    behind_is f is = ap (λ (x : Bool). cond x bs (behind bs)) is

    made : (one rest : List (List ℕ)) → lines_of (front (b ∷ bs)) ≡ one → lines_of (behind (b ∷ bs)) ≡ rest
        → lines_of (b ∷ bs) ≡ one ++ rest → (one ≡ [] → rest ≡ []) → length one ≤ 1 → IsCut (b ∷ bs)
    made one rest fronts behinds all none few = record {
      all = all ∙ ap (λ (ls : List (List ℕ)). ls ++ rest) (sym fronts)
          ∙ ap (λ (ms : List (List ℕ)). lines_of (front (b ∷ bs)) ++ ms) (sym behinds);
      none = λ e. behinds ∙ none (sym fronts ∙ e);
      few = subst (λ (ls : List (List ℕ)). length ls ≤ 1) (sym fronts) few;
    }

    by : (f : Bool) → eqb b 10 ≡ f → IsCut (b ∷ bs)
    by true is =
        made ([] ∷ []) (lines_of bs) (ap lines_of (front_is true is) ∙ lines true is []) (ap lines_of (behind_is true is))
        (lines true is bs) (λ e. absurd (let f : [] ∷ [] ≡ [] = e in cc)) (omega arith)
    by false is =
        let r : Bool = eqb b 13 && begins_feed bs in
        let same : (eqb b 13 && begins_feed (front bs)) ≡ r = ap (λ (x : Bool). eqb b 13 && x) (feed_front bs) in
        made (cond r (lines_of (front bs)) (onto_first b (lines_of (front bs)))) (lines_of (behind bs))
        (ap lines_of (front_is false is) ∙ lines false is (front bs)
        ∙ ap (λ (x : Bool). cond x (lines_of (front bs)) (onto_first b (lines_of (front bs)))) same)
        (ap lines_of (behind_is false is))
        (lines false is bs ∙ cut_behind r b (lines_of (front bs)) (lines_of (behind bs)) (lines_of bs) was.all was.none)
        (none_behind r b (lines_of (front bs)) (lines_of (behind bs)) was.none)
        (few_behind r b (lines_of (front bs)) was.few)

is_cut : (xs : List ℕ) → IsCut xs
is_cut [] = record { all = refl; none = λ e. refl; few = omega arith }
is_cut (b ∷ bs) = cut_more b bs (is_cut bs)

no_more : (l : List ℕ) (ls : List (List ℕ)) → length (l ∷ ls) ≤ 1 → ls ≡ []
no_more l [] few = refl
no_more l (m ∷ ls) few = absurd (omega (arith, few))

-- what is read through a line feed is the first line, with its end
pub first-line : (xs : List ℕ) (len skip : ℕ) → lines_of (front xs) ≡ take len (front xs) ∷ lines_of (drop skip (front xs))
    → lines_of xs ≡ take len (front xs) ∷ lines_of (behind xs)
first-line xs len skip split =
    let cut : IsCut xs = is_cut xs in
    let last : lines_of (drop skip (front xs)) ≡ [] =
    no_more (take len (front xs)) (lines_of (drop skip (front xs))) (subst (λ (ls : List (List ℕ)). length ls ≤ 1) split cut.few) in
    cut.all ∙ ap (λ (ls : List (List ℕ)). ls ++ lines_of (behind xs)) split
    ∙ ap (λ (ls : List (List ℕ)). take len (front xs) ∷ (ls ++ lines_of (behind xs))) last

-- a read that took a line, where the bytes are known: what it put behind no byte is cut
pub took-line : (old new : Option (List ℕ)) (none bytes text line : List ℕ) (len skip : ℕ) → none ≡ []
    → IfSome old (λ xs. bytes ≡ none ++ front xs) → DropsThrough old new 10 → text ≡ bytes
    → lines_of text ≡ take len text ∷ lines_of (drop skip text) → line ≡ take len bytes
    → IfSome (lines_in old) (λ lines. IsNext true line lines (lines_in new))
took-line None new none bytes text line len skip empty same drops whole split is = tt
took-line (Some xs) new none bytes text line len skip empty same drops whole split is =
    let fronts : bytes ≡ front xs = same ∙ ap (λ (ys : List ℕ). ys ++ front xs) empty in
    record {
      rest = lines_of (behind xs);
      left = ap lines_in drops;
      lines_are =
          first-line xs len skip (subst (λ (ys : List ℕ). lines_of ys ≡ take len ys ∷ lines_of (drop skip ys)) (whole ∙ fronts) split)
          ∙ ap (λ (l : List ℕ). l ∷ lines_of (behind xs)) (ap (take len) (sym fronts) ∙ sym is);
    }
