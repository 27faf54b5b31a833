-- Locks in falling rank, as those of a path are. The inductions go over the locks, and over the hops.
use Rattle.bus_laws.proofs.Cited.{◌≡◌, ℕ, ◌+◌, ◌<◌, Bool, true, false, cond, List, [], ◌∷◌, length, refl, ◌∙◌, ap, ◌⊎◌, inl, inr, arith}
use Rattle.bus_laws.proofs.Cited.{LockId, BoardView, Hop, hops, locks_of, IsTree, rank, IsBelow, InLocks}
use Rattle.std.proofs.Common.{add-one}
use Rattle.i2c_base.specs.declared.ids.LockId.TheVariants as lock
use Rattle.bus_laws.proofs.tree.Path.{ground}

-- locks in falling rank, all below a floor; the floor that they leave
abbrev pub Falls : BoardView → ℕ → List LockId → Type 0
Falls b floor [] = Unit {0}
Falls b floor (l ∷ ls) = (rank b l < floor) × Falls b (rank b l) ls

abbrev pub floor_after : BoardView → ℕ → List LockId → ℕ
floor_after b floor [] = floor
floor_after b floor (l ∷ ls) = floor_after b (rank b l) ls

-- the locks that are held when all are taken, the last one first
abbrev pub gathered : List LockId → List LockId → List LockId
gathered [] got = got
gathered (l ∷ ls) got = gathered ls (l ∷ got)

-- a lock below all that are held
pub is_below_all : (b : BoardView) (l : LockId) (held : List LockId) → ((k : LockId) → InLocks k held → rank b l < rank b k)
    → IsBelow b l held
is_below_all b l [] all = tt
is_below_all b l (k ∷ ks) all = (all k (inl refl), is_below_all b l ks (λ j i. all j (inr i)))

-- who is among them
pub in_gathered : (ls got : List LockId) (l : LockId) → InLocks l ls ⊎ InLocks l got → InLocks l (gathered ls got)
in_gathered [] got l i = elim i [ inl none ↦ absurd none | inr j ↦ j ]
in_gathered (k ∷ ks) got l i =
    elim i [
      | inl front ↦ elim front [ inl e ↦ in_gathered ks (k ∷ got) l (inr (inl e)) | inr more ↦ in_gathered ks (k ∷ got) l (inl more) ]
      | inr j ↦ in_gathered ks (k ∷ got) l (inr (inr j))
    ]

pub of_gathered : (ls got : List LockId) (l : LockId) → InLocks l (gathered ls got) → InLocks l ls ⊎ InLocks l got
of_gathered [] got l i = inr i
of_gathered (k ∷ ks) got l i =
    elim (of_gathered ks (k ∷ got) l i) [ inl more ↦ inl (inr more) | inr j ↦ elim j [ inl e ↦ inl (inl e) | inr old ↦ inr old ] ]

-- the locks of a path fall in rank, from below the path's length to its ground
falls_if : (b : BoardView) (t : Bool) (floor : ℕ) (ls : List LockId) → Falls b floor ls → Falls b floor (cond t ls [])
falls_if b true floor ls f = f
falls_if b false floor ls f = tt

pub mux_rank : (b : BoardView) → IsTree b → (s : ℕ) (h : Hop) (hs : List Hop) → hops b s ≡ h ∷ hs → rank b (lock.Mux h.on) ≡ length hs + 1
mux_rank b tree s h hs at = ap (λ (xs : List Hop). length xs + 1) (tree.tail s h hs at)

pub path_falls : (b : BoardView) → IsTree b → (root : ℕ) (hs : List Hop) (s floor : ℕ) → hops b s ≡ hs → length hs < floor
    → Falls b floor (locks_of root hs)
path_falls b tree root [] s floor at below = (below, tt)
path_falls b tree root (h ∷ hs) s floor at below =
    let e : rank b (lock.Mux h.on) ≡ length hs + 1 = mux_rank b tree s h hs at in (
      omega (arith, e),
      falls_if b h.parent (rank b (lock.Mux h.on)) (locks_of root hs)
          (path_falls b tree root hs h.on (rank b (lock.Mux h.on)) (tree.tail s h hs at) (omega (arith, e))),
    )

floor_if : (b : BoardView) (t : Bool) (floor : ℕ) (ls : List LockId) (g : ℕ) → floor_after b floor ls ≡ g
    → floor_after b floor (cond t ls []) ≡ cond t g floor
floor_if b true floor ls g e = e
floor_if b false floor ls g e = refl

pub path_floor : (b : BoardView) → IsTree b → (root : ℕ) (hs : List Hop) (s floor : ℕ) → hops b s ≡ hs
    → floor_after b floor (locks_of root hs) ≡ ground hs
path_floor b tree root [] s floor at = refl
path_floor b tree root (h ∷ hs) s floor at =
    floor_if b h.parent (rank b (lock.Mux h.on)) (locks_of root hs) (ground hs)
    (path_floor b tree root hs h.on (rank b (lock.Mux h.on)) (tree.tail s h hs at))
    ∙ ap (λ (n : ℕ). cond h.parent (ground hs) n) (mux_rank b tree s h hs at ∙ add-one (length hs))
