-- Which targets an edge touches: those that were called since the last start, and no other, who is out of the message. While an
-- address byte comes in, all that is joined takes it in alike, so that one register stands for all.
use Rattle.std.specs.Prelude.{◌≡◌, ℕ, zero, suc, ◌+◌, ◌<◌, ◌==◌, Bool, true, false, ◌&&◌, ◌||◌, List, [], ◌∷◌, Vec, cond, length, map, get_or, slice_get, Some, bit_and}
use Rattle.i2c_spec.specs.Targets.{IsQuiet}
use Rattle.wire_spec.specs.declared.mode.Mode.TheVariants.{In}
use Rattle.wire_spec.specs.Wires.{Bit, stands}
use Rattle.wire_spec.specs.Roots.{where_joined}
use Rattle.wire_spec.specs.Calls.{released}
use Rattle.wire_spec.specs.Sites.{NodeState, NO_ADDRESS, node_table}
use Rattle.bus_lines.specs.declared.edges.Edge.TheVariants.{Other, Address}
use Rattle.bus_lines.specs.Edges.{seen}
use Rattle.bus_lines.specs.Numbers.{is_among, AreNumbers}

-- something is made of each by its number, from k on
abbrev pub by_number : {A : Type 0} → (ℕ → A → A) → ℕ → List A → List A
by_number f k [] = []
by_number f k (x ∷ xs) = f k x ∷ by_number f (k + 1) xs

-- it is so of someone by its number, from k on
abbrev pub some_by : {A : Type 0} → (ℕ → A → Bool) → ℕ → List A → Bool
some_by p k [] = false
some_by p k (x ∷ xs) = p k x || some_by p (k + 1) xs

-- done to those alone that have one of these numbers
abbrev pub to_those : {A : Type 0} → List ℕ → (A → A) → ℕ → A → A
to_those ns f k x = cond (is_among ns k) (f x) x

-- so of those alone that have one of these numbers
abbrev pub of_those : {A : Type 0} → List ℕ → (A → Bool) → ℕ → A → Bool
of_those ns p k x = is_among ns k && p x

-- the bitwise AND of what each gives by its number, from k on, and 0xFF of none
abbrev pub and_by : {A : Type 0} → (ℕ → A → ℕ) → ℕ → List A → ℕ
and_by q k [] = 255
and_by q k (x ∷ xs) = bit_and (q k x) (and_by q (k + 1) xs)

-- what those give that have one of these numbers
abbrev pub given_by : {A : Type 0} → List ℕ → (A → ℕ) → ℕ → A → ℕ
given_by ns q k x = cond (is_among ns k) (q x) 255

-- what has come of an address byte: the bits that are missing, of which none are where no address comes in, and the number so far
pub record RegisterView : Type 0 where
  pub left : ℕ
  pub value : ℕ

-- what has come of an address byte is what each target that is joined has of it
abbrev pub shared : ℕ → ℕ → Bit NodeState → Bit NodeState
shared zero v b = b
shared (suc n) v b = cond b.site.joined (stands b.site (In true (suc n) v) 0) b

-- how an address byte is told: to those that a message has reached, where it isn't their own, and then to those at the address
abbrev pub addressed : List ℕ → List ℕ → ℕ → ℕ → Bit NodeState → Bit NodeState
addressed started named byte k b =
    to_those named (where_joined (seen (Address byte))) k (to_those started (where_joined (seen (Other byte))) k b)

-- a target that no message has reached since its last stop: another's start, and a stop, leave it as it is
pub record IsCalm (b : Bit NodeState) : Type 0 where
  pub out : b ≡ released b.site
  pub deaf : b.site.heard ≡ false
  pub quiet : IsQuiet node_table b.site.state

-- the target of this number. `live` has all that aren't out of the message, `started` all that a message has reached since their last
-- stop; who is joined lets the lines go while an address comes in; `at` has who is at each address
pub record IsUnit (left : ℕ) (live started : List ℕ) (at : List (List ℕ)) (joins : ℕ → Bool) (k : ℕ) (b : Bit NodeState) : Type 0 where
  pub out : is_among live k ≡ false → b ≡ released b.site
  pub calm : is_among started k ≡ false → IsCalm b
  pub waits : (n : ℕ) → left ≡ suc n → b.site.joined ≡ true → b ≡ released b.site
  pub joined : b.site.joined ≡ joins k
  pub listed : (a : ℕ) → a < NO_ADDRESS → is_among (get_or at a []) k ≡ (a == b.site.addr)

-- each target by its number
abbrev pub AreUnits : ℕ → List ℕ → List ℕ → List (List ℕ) → (ℕ → Bool) → List (Bit NodeState) → Type 0
AreUnits left live started at joins bs =
    (k : ℕ) (b : Bit NodeState) → slice_get bs k ≡ Some b → IsUnit left live started at joins k b

-- the numbers of the targets at an address, from k on
abbrev pub numbers_from : ℕ → List (Bit NodeState) → ℕ → List ℕ
numbers_from k [] a = []
numbers_from k (b ∷ bs) a = cond (a == b.site.addr) (k ∷ numbers_from (k + 1) bs a) (numbers_from (k + 1) bs a)

abbrev pub numbers_at : List (Bit NodeState) → ℕ → List ℕ
numbers_at bs a = numbers_from 0 bs a

-- what these lists hold
abbrev pub lists_of : {A Z : Type 0} → List (Vec A Z) → List (List A)
lists_of at = map (λ numbers. numbers.items) at

-- the numbers of the targets at each 7-bit address, of so many targets
pub record IsIndex (count : ℕ) (at : List (List ℕ)) : Type 0 where
  pub all : length at ≡ NO_ADDRESS
  pub numbers : (a : ℕ) → a < NO_ADDRESS → AreNumbers count (get_or at a [])
