-- Rule 5 as its search finds it. The inductions go over the number of items that were asked.
use Rattle.std.proofs.Common.{◌≡◌, ℕ, zero, suc, ◌<◌, Bool, true, false, not, ◌&&◌, ◌||◌, Option, Some, None, option_map, slice_get, refl}
use Rattle.std.proofs.Common.{sym, ◌∙◌, ap, arith, inl, inr}
use Rattle.std.specs.Prelude.{unwrap_or, is_some, IsSome, IfSome, IfNone}
use Rattle.std.proofs.lemmas.Bool.{false≢true}
use Rattle.std.proofs.lemmas.Bool.Decides.{eqb_tells}
use Rattle.std.proofs.Math.Bool.{or-true}
use Rattle.i2c_base.specs.declared.board.MuxKind.{MuxKind}
use Rattle.i2c_base.specs.declared.board.MuxKind.TheVariants.{Pca9548, Pca9546, Pca9544, Pca9541, Gpio}
use Rattle.i2c_base.specs.declared.board.MuxSpec.{MuxSpec}
use Rattle.i2c_base.specs.Board.{BoardView}
use Rattle.i2c_base.specs.Muxes.{facts_of}
use Rattle.i2c_spec.specs.Tree.{is_left_open, of_mux}
use Rattle.i2c_spec.specs.Rules.{NoneOf, IsFirstOne, some_below, stands_outside, may_stay, breaks_idle, items}

-- none of the first n passes, or one does
pub none_below : (test : ℕ → Bool) (n : ℕ) → NoneOf test n → some_below test n ≡ false
none_below test zero none = refl
none_below test (suc n) none = rw (none_below test n (λ i low. none i (omega (arith, low))), none n (omega arith)) refl

pub one_below : (test : ℕ → Bool) (n i : ℕ) → i < n → test i ≡ true → some_below test n ≡ true
one_below test zero i low e = absurd (omega (arith, low))
one_below test (suc n) i low e =
    elim (eqb_tells i n) [
      | inl same ↦ ap (λ (t : Bool). some_below test n || t) (ap test (sym same.1) ∙ e) ∙ or-true (some_below test n)
      | inr off ↦ ap (λ (t : Bool). t || test n) (one_below test n i (let apart = off.1 in omega (arith, low, apart)) e)
    ]

-- where the kind may stay, the rule is broken only by an address that stands outside
pub outside-some : (b : BoardView) (m : ℕ) → breaks_idle b m ≡ true → may_stay b m ≡ true → NoneOf (stands_outside b m) (items b) → ⊥
outside-some b m broken stays none =
    false≢true (sym (by (is_left_open b m))
    ∙ ap (λ (t : Bool). is_left_open b m && (not (may_stay b m) || t)) (sym (none_below (stands_outside b m) (items b) none)) ∙ broken)
  where
    by : (t : Bool) → t && (not (may_stay b m) || false) ≡ false
    by true = ap (λ (s : Bool). not s || false) stays
    by false = refl

-- what the search for it finds
pub outside-is : (b : BoardView) (m : ℕ) (o : Option ℕ) → IfNone o (NoneOf (stands_outside b m) (items b))
    → IfSome o (λ i. IsFirstOne (stands_outside b m) (items b) i)
    → is_some o ≡ some_below (stands_outside b m) (items b)
outside-is b m None none some = sym (none_below (stands_outside b m) (items b) none)
outside-is b m (Some i) none some = sym (one_below (stands_outside b m) (items b) i some.within some.broken)

pub outside-found : (b : BoardView) (m : ℕ) (o : Option ℕ) → IfNone o (NoneOf (stands_outside b m) (items b)) → breaks_idle b m ≡ true
    → may_stay b m ≡ true → IsSome o
outside-found b m None none broken stays = absurd (outside-some b m broken stays none)
outside-found b m (Some i) none broken stays = refl

-- an arbitrator may not stay
asking_leaves : (k : MuxKind) → (facts_of k).asks ≡ true → (facts_of k).may_stay ≡ false
asking_leaves Pca9548 e = absurd (false≢true e)
asking_leaves Pca9546 e = absurd (false≢true e)
asking_leaves Pca9544 e = absurd (false≢true e)
asking_leaves Pca9541 e = refl
asking_leaves Gpio e = refl

asking_spec : (o : Option MuxSpec) → (facts_of (unwrap_or (option_map (λ (x : MuxSpec). x.kind) o) Pca9548)).asks ≡ true
    → unwrap_or (option_map (λ (x : MuxSpec). (facts_of x.kind).may_stay) o) true ≡ false
asking_spec None e = absurd (false≢true e)
asking_spec (Some x) e = asking_leaves x.kind e

pub asking_broken : (b : BoardView) (m : ℕ) → (facts_of (of_mux (λ x. x.kind) Pca9548 b m)).asks ≡ true → is_left_open b m ≡ true
    → breaks_idle b m ≡ true
asking_broken b m asks stays = rw (stays, asking_spec (slice_get b.muxes m) asks) refl
