-- Pieces that are put one after the other are one text.
use Rattle.std.proofs.Common.{◌≡◌, ℕ, List, ◌++◌, ap, ◌∙◌, append_assoc}
use Rattle.std.specs.Prelude.{Result, Ok, Err, OnOk}

pub then : {E : Type 0} (r : Result (Unit {0}) E) (P Q : Type 0) → OnOk r P → (P → Q) → OnOk r Q
then (Ok u) P Q is f = f is
then (Err e) P Q is f = is

pub two_pieces : (out a b s1 s2 : List ℕ) → s1 ≡ out ++ a → s2 ≡ s1 ++ b → s2 ≡ out ++ (a ++ b)
two_pieces out a b s1 s2 is1 is2 = is2 ∙ ap (λ s. s ++ b) is1 ∙ append_assoc out a b

pub three_pieces : (out a b d s1 s2 s3 : List ℕ) → s1 ≡ out ++ a → s2 ≡ s1 ++ b → s3 ≡ s2 ++ d → s3 ≡ out ++ (a ++ (b ++ d))
three_pieces out a b d s1 s2 s3 is1 is2 is3 = two_pieces out a (b ++ d) s1 s3 is1 (two_pieces s1 b d s2 s3 is2 is3)
