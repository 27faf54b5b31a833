-- What a handle that is opened does to the others.
use Rattle.std.proofs.Common.{◌≡◌, ℕ, zero, suc, ◌<◌, true, [], ◌∷◌, ◌++◌, Some, arith}
use Rattle.std.specs.Prelude.{nat_lt, IfSome}
use Rattle.std.proofs.lemmas.Bool.Decides.{nat_tests}
use Rattle.i2c_base.specs.Board.{BoardView}
use Rattle.i2c_spec.specs.Tree.{buses}
use Rattle.dev_handle.specs.Handles.{HandlesView, AreOnBoard, fresh, handle_at, opened}
use Rattle.dev_handle.specs.declared.handle.OpenHandle.{OpenHandle}

-- on a bus of the board a handle is opened
pub opened_there : (b : BoardView) (v : HandlesView) (bus : ℕ) → bus < buses b → opened b v bus ≡ v ++ Some (fresh bus) ∷ []
opened_there b v bus there = let is : nat_lt bus (buses b) ≡ true = grind (arith, nat_tests) in rw is

-- what holds of every open handle and of one more
all_pushed : (holds : OpenHandle → Type 0) (v : HandlesView) (h : OpenHandle) → ((n : ℕ) → IfSome (handle_at v n) holds) → holds h
    → (n : ℕ) → IfSome (handle_at (v ++ Some h ∷ []) n) holds
all_pushed holds [] h all own zero = own
all_pushed holds [] h all own (suc n) = tt
all_pushed holds (x ∷ v) h all own zero = all 0
all_pushed holds (x ∷ v) h all own (suc n) = all_pushed holds v h (λ k. all (suc k)) own n

pub pushed_on_board : (b : BoardView) (v : HandlesView) (bus : ℕ) → bus < buses b → AreOnBoard b v
    → AreOnBoard b (v ++ Some (fresh bus) ∷ [])
pushed_on_board b v bus there all = all_pushed (λ h. h.bus < buses b) v (fresh bus) all there
