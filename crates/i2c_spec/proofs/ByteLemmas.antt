-- Lists of bytes: what is read from them, written into them or put together of them are bytes again. The inductions go over
-- the lists, and over what a board writes into a memory.
use Rattle.std.proofs.Common.{ℕ, zero, suc, ◌+◌, Bool, true, false, if◌then◌else◌, List, [], ◌∷◌, ◌++◌, length, take, drop, replicate, set}
use Rattle.std.proofs.Common.{get_or, arith}
use Rattle.std.specs.List.{AllByRecursion}
use Rattle.i2c_base.specs.Board.{RunView}
use Rattle.i2c_base.specs.Bytes.{IsByte}
use Rattle.i2c_spec.specs.Targets.RegsDevice.{write_run, write_runs}

-- either of two that have a property has it
pub either : {A : Type 0} (P : A → Type 0) (b : Bool) (x y : A) → P x → P y → P (if b then x else y)
either P true x y hx hy = hx
either P false x y hx hy = hy

-- the elements of a list with one written over, and of a list of one element n times
pub set_all : {A : Type 0} (P : A → Type 0) (xs : List A) (i : ℕ) (x : A) → P x → AllByRecursion P xs → AllByRecursion P (set xs i x)
set_all P [] i x is all = tt
set_all P (y ∷ ys) zero x is all = (is, all.1)
set_all P (y ∷ ys) (suc i) x is all = (all.0, set_all P ys i x is all.1)

pub all_of : {A : Type 0} (P : A → Type 0) (n : ℕ) (x : A) → P x → AllByRecursion P (replicate n x)
all_of P zero x is = tt
all_of P (suc n) x is = (is, all_of P n x is)

pub get_byte : (xs : List ℕ) (i : ℕ) → AllByRecursion IsByte xs → IsByte (get_or xs i 0)
get_byte [] i all = omega arith
get_byte (x ∷ xs) zero all = all.0
get_byte (x ∷ xs) (suc i) all = get_byte xs i all.1

pub take_bytes : (n : ℕ) (xs : List ℕ) → AllByRecursion IsByte xs → AllByRecursion IsByte (take n xs)
take_bytes zero xs all = tt
take_bytes (suc n) [] all = tt
take_bytes (suc n) (x ∷ xs) all = (all.0, take_bytes n xs all.1)

pub drop_bytes : (n : ℕ) (xs : List ℕ) → AllByRecursion IsByte xs → AllByRecursion IsByte (drop n xs)
drop_bytes zero xs all = all
drop_bytes (suc n) [] all = tt
drop_bytes (suc n) (x ∷ xs) all = drop_bytes n xs all.1

pub append_bytes : (xs ys : List ℕ) → AllByRecursion IsByte xs → AllByRecursion IsByte ys → AllByRecursion IsByte (xs ++ ys)
append_bytes [] ys hx hy = hy
append_bytes (x ∷ xs) ys hx hy = (hx.0, append_bytes xs ys hx.1 hy)

-- what a board writes into a device, and the memory that it leaves
abbrev pub RunsHoldBytes : List RunView → Type 0
RunsHoldBytes runs = AllByRecursion (λ r. AllByRecursion IsByte r.bytes) runs

pub runs_bytes : (runs : List RunView) (memory : List ℕ) → RunsHoldBytes runs → AllByRecursion IsByte memory
    → AllByRecursion IsByte (write_runs memory runs)
runs_bytes [] memory all held = held
runs_bytes (r ∷ rs) memory all held =
    runs_bytes rs (write_run memory r) all.1
    (append_bytes (take r.start memory ++ r.bytes) (drop (r.start + length r.bytes) memory)
    (append_bytes (take r.start memory) r.bytes (take_bytes r.start memory held) all.0) (drop_bytes (r.start + length r.bytes) memory held))
