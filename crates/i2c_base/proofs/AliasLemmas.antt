-- A transfer that goes elsewhere keeps the limits.
use Rattle.std.proofs.Common.{◌≡◌, ℕ, ◌≤◌, List, [], ◌∷◌, refl, sym, ◌∙◌, ap, subst, arith, map}
use Rattle.std.specs.Prelude.{sum_by}
use Rattle.std.proofs.lemmas.List.{length-map}
use Rattle.std.proofs.lemmas.List.Elements.{All-map}
use Rattle.std.proofs.lemmas.List.Sums.{sum_by-cons}
use Rattle.i2c_base.specs.declared.transfer.Msg.{Msg}
use Rattle.i2c_base.specs.Alias.{readdressed}
use Rattle.i2c_base.specs.Limits.{MOST_MESSAGES, MOST_BYTES}
use Rattle.i2c_base.specs.Transfer.{IsTransfer, IsMessage, size_of, written_of}

-- what doesn't look at an address is the same
pub readdressed-sum : (f : ℕ → ℕ) (g : Msg → ℕ) (same : (m : Msg) → g (readdressed f m) ≡ g m) (ms : List Msg)
    → sum_by g (map (readdressed f) ms) ≡ sum_by g ms
readdressed-sum f g same [] = refl
readdressed-sum f g same (m ∷ ms) =
    grind (arith, sum_by-cons g (readdressed f m) (map (readdressed f) ms), sum_by-cons g m ms, same m, readdressed-sum f g same ms)

pub redirected-limits : (f : ℕ → ℕ) (ms : List Msg) (out : List ℕ) → IsTransfer ms out → IsTransfer (map (readdressed f) ms) out
redirected-limits f ms out is =
    record {
      count = subst (λ (n : ℕ). n ≤ MOST_MESSAGES) (sym (length-map ms (readdressed f))) is.count;
      each = All-map IsMessage (readdressed f) ms (λ k d low. is.each k d low);
      size = subst (λ (n : ℕ). n ≤ MOST_BYTES) (sym (readdressed-sum f size_of (λ m. refl) ms)) is.size;
      written = is.written ∙ sym (readdressed-sum f written_of (λ m. refl) ms);
      bytes = is.bytes;
    }

pub redirected-kept : (f : ℕ → ℕ) (ms more : List Msg) (out : List ℕ) (size : ℕ) → more ≡ map (readdressed f) ms
    → (IsTransfer ms out × (size ≡ sum_by size_of ms)) → IsTransfer more out × (size ≡ sum_by size_of more)
redirected-kept f ms more out size e is = (
  subst (λ (xs : List Msg). IsTransfer xs out) (sym e) (redirected-limits f ms out is.0),
  is.1 ∙ sym (readdressed-sum f size_of (λ m. refl) ms) ∙ ap (sum_by size_of) (sym e),
)
