-- A list that goes over into another, one element after the other: each under its number, or alone, or into what is told of it.
use Rattle.i2c_top.proofs.Cited.{◌≡◌, ℕ, suc, ◌+◌, ◌<◌, ◌≤◌, List, [], ◌∷◌, ◌++◌, length, map, All, refl, sym, ◌∙◌, ap, subst, arith}
use Rattle.i2c_top.proofs.Cited.{take, get_or, enumerate_from, length-enumerate_from, length-append, length-take, take_all, take_more}
use Rattle.i2c_top.proofs.Cited.{All-head, All-tail, AllZip, zip-length, zip-more}
use Rattle.std.proofs.lemmas.List.{append_assoc}
use Rattle.journal_check.proofs.PortLemmas.{numbered-push}

-- so far `out` is what a function tells of the elements that came, `rest` is to come, and there is room for all
pub record GoesOver {X Y : Type 0} (told : List X → List Y) (all came rest : List X) (count : ℕ) (out : List Y) (room : ℕ) : Type 0 where
  pub so_far : out ≡ told came
  pub goes : came ++ rest ≡ all
  pub counted : count ≡ length rest
  pub has_room : length all ≤ room

-- what a loop has of it where its iterator steps: `x` comes next, and the vector that is filled has the length `len`
module _ {X Y : Type 0} {told : List X → List Y} {all came items rest : List X} {x : X} {count room : ℕ} {out : List Y}
    (over : GoesOver told all came items count out room) (steps : items ≡ x ∷ rest) where
  -- fewer came than all
  come-below : length came < length all
  come-below =
      let whole : length came + length (x ∷ rest) ≡ length all =
      sym (length-append came (x ∷ rest)) ∙ ap (λ (xs : List X). length (came ++ xs)) (sym steps) ∙ ap length over.goes in
      omega (arith, whole)

  -- there is room for one more
  pub room-next : {len : ℕ} → length (told came) ≡ length came → len ≡ length out → len < room
  room-next same is =
      let below = come-below in
      let told_of = ap length over.so_far in
      let has = over.has_room in
      omega (arith, below, told_of, same, is, has)

  -- its number is that of the elements that came
  pub number-next : {n len : ℕ} → length (told came) ≡ length came → n ≡ len → len ≡ length out → n ≡ length came
  number-next same is lens = is ∙ lens ∙ ap length over.so_far ∙ same

  pub number-below : {n len : ℕ} → length (told came) ≡ length came → n ≡ len → len ≡ length out → n < length all
  number-below same is lens =
      let below = come-below in
      let number = number-next same is lens in
      omega (arith, below, number)

  -- what holds of all elements holds of it
  pub next-holds : (P : X → Type 0) → All P all → P x
  next-holds P holds = behind came (subst (All P) (sym (ap (λ (xs : List X). came ++ xs) (sym steps) ∙ over.goes)) holds)
    where
      behind : (front : List X) → All P (front ++ x ∷ rest) → P x
      behind [] h = All-head P x rest h
      behind (y ∷ ys) h = behind ys (All-tail P y (ys ++ x ∷ rest) h)

  -- and it goes over, where what is told of it was pushed
  pub over-next : (y : Y) {less wide : ℕ} {more : List Y} → less + 1 ≡ count → more ≡ out ++ y ∷ [] → wide ≡ room
      → told (came ++ x ∷ []) ≡ told came ++ y ∷ [] → GoesOver told all (came ++ x ∷ []) rest less more wide
  over-next y one pushed same tells =
      let counted : count ≡ suc (length rest) = over.counted ∙ ap length steps in
      let has = over.has_room in
      record {
        so_far = pushed ∙ ap (λ (ys : List Y). ys ++ y ∷ []) over.so_far ∙ sym tells;
        goes = append_assoc came (x ∷ []) rest ∙ ap (λ (xs : List X). came ++ xs) (sym steps) ∙ over.goes;
        counted = omega (arith, one, counted);
        has_room = omega (arith, has, same);
      }

pub map-push : {X Y : Type 0} (f : X → Y) (xs : List X) (x : X) → map f (xs ++ x ∷ []) ≡ map f xs ++ f x ∷ []
map-push f [] x = refl
map-push f (y ∷ xs) x = ap (λ (zs : List _). f y ∷ zs) (map-push f xs x)

pub numbered-next : {X : Type 0} (xs : List X) (x : X) (n : ℕ) → n ≡ length xs
    → enumerate_from 0 (xs ++ x ∷ []) ≡ enumerate_from 0 xs ++ (n, x) ∷ []
numbered-next xs x n is = numbered-push 0 xs x ∙ ap (λ (k : ℕ). enumerate_from 0 xs ++ (k, x) ∷ []) (omega (arith, is))

-- one more went over, pushed under its number
pub over-numbered : {X : Type 0} {all came items rest : List X} {x : X} {count less room wide : ℕ} {out more : List (ℕ × X)} (n : ℕ)
    {len : ℕ} → GoesOver (enumerate_from 0) all came items count out room → items ≡ x ∷ rest → less + 1 ≡ count
    → more ≡ out ++ (n, x) ∷ [] → wide ≡ room → n ≡ len → len ≡ length out
    → GoesOver (enumerate_from 0) all (came ++ x ∷ []) rest less more wide
over-numbered {came = came} {x = x} n over steps one pushed same is lens =
    over-next over steps (n, x) one pushed same
    (numbered-next came x n (number-next over steps (length-enumerate_from 0 came) is lens))

-- beside each of the first elements of a list stands what is told of it
pub record StandBeside {X Y : Type 0} (Tells : X → Y → Type 0) (xs : List X) (i : ℕ) (ys : List Y) : Type 0 where
  pub so_far : AllZip Tells (take i xs) ys

module _ {X Y : Type 0} {Tells : X → Y → Type 0} {xs : List X} {i : ℕ} {ys : List Y} (beside : StandBeside Tells xs i ys) where
  pub beside-count : i < length xs → length ys ≡ i
  beside-count low =
      let same = zip-length Tells (take i xs) ys beside.so_far in
      let took = length-take i xs in
      omega (arith, same, took, low)

  pub beside-all : length xs ≤ i → AllZip Tells xs ys
  beside-all past = subst (λ (front : List X). AllZip Tells front ys) (take_all i xs past) beside.so_far

  -- one more was told of, and pushed
  pub beside-more : (y : Y) {x : X} {more : List Y} → x ≡ get_or xs i x → i < length xs → more ≡ ys ++ y ∷ [] → Tells x y
      → StandBeside Tells xs (i + 1) more
  beside-more y {x} is low pushed tells =
      record {
        so_far = subst (AllZip Tells (take (i + 1) xs)) (sym pushed)
            (subst (λ (front : List X). AllZip Tells front (ys ++ y ∷ [])) (sym (take_more xs i x low))
            (zip-more Tells (take i xs) ys (get_or xs i x) y beside.so_far (subst (λ (a : X). Tells a y) is tells)));
      }
