-- The cores of groups beside one core of all their callers and ports.
use Rattle.std.specs.Prelude.{◌≡◌, ℕ, ◌<◌, ◌==◌, Bool, true, IsTrue, List, [], ◌∷◌, map, Option, Some, slice_get}
use Rattle.std.specs.List.{list_any}
use Rattle.i2c_base.specs.declared.port.PortCall.{PortCall}
use Rattle.i2c_base.specs.declared.reply.Reply.{Reply}
use Rattle.i2c_base.specs.Board.{BoardView}
use Rattle.i2c_base.specs.Transfer.{TransferView}
use Rattle.i2c_spec.specs.Tree.{buses, root_of}
use Rattle.i2c_spec.specs.World.{World}
use Rattle.bus_core.specs.Places.{script_at}
use Rattle.bus_groups.specs.Slots.{IsTold}
use Rattle.bus_core.specs.State.{CoreState, AllThrough, asks_in_state, roots_in, has_caller}
use Rattle.group_laws.specs.Groups.{Part, joined}

-- it has a port of this root
abbrev pub has_root : List ℕ → ℕ → Bool
has_root roots r = list_any (λ k. k == r) roots

-- a core as a group with its own journal
abbrev pub part_of : {S : Type 0} → (S → List Reply → Option TransferView) → CoreState S → Part
part_of asked v = record {
  own = asks_in_state asked v;
  roots = has_root (roots_in v);
  who = has_caller v.opening.scripts;
  journal =
      v.journal.entries;
}

-- the core of a group that ran: over this board, of callers of the whole, whose transfers name roots of its own
pub record IsOfGroup {S : Type 0} (asked : S → List Reply → Option TransferView) (tells : Bool) (b : BoardView) (scripts : List (ℕ × S))
    (v : CoreState S) : Type 0 where
  pub board : v.opening.board ≡ b
  pub same : (c : ℕ) → has_caller v.opening.scripts c ≡ true → script_at scripts c ≡ script_at v.opening.scripts c
  pub wired : (i : ℕ) (x : ℕ × S) (rs : List Reply) (t : TransferView) → slice_get v.opening.scripts i ≡ Some x → asked x.1 rs ≡ Some t
      → t.bus < buses b → has_root (roots_in v) (root_of b t.bus) ≡ true
  pub told : IsTrue tells → IsTold asked v
  pub through : AllThrough asked tells v

abbrev pub AreOfGroups : {S : Type 0} → (S → List Reply → Option TransferView) → Bool → BoardView → List (ℕ × S) → List (CoreState S) → Type 0
AreOfGroups asked tells b scripts [] = Unit {0}
AreOfGroups asked tells b scripts (v ∷ vs) = IsOfGroup asked tells b scripts v × AreOfGroups asked tells b scripts vs

-- what is said of a caller, or of a root, is said by the core of some group that has it
pub record IsToldBy {S : Type 0} (vs : List (CoreState S)) (P : CoreState S → Type 0) : Type 0 where
  pub place : ℕ
  pub state : CoreState S
  pub here : slice_get vs place ≡ Some state
  pub is_so : P state

-- one core that is all of them together: its journal is theirs, one after the other, and the rest is from any of them
pub record IsWhole {S : Type 0} (b : BoardView) (asked : S → List Reply → Option TransferView) (vs : List (CoreState S))
    (w : CoreState S) : Type 0 where
  pub board : w.opening.board ≡ b
  pub entries : w.journal.entries ≡ joined (map (part_of asked) vs)
  pub taken : (i n : ℕ) (rs : List Reply) → slice_get w.taken i ≡ Some (n, rs)
      → IsToldBy vs (λ v. (has_caller v.opening.scripts n ≡ true) × (k : ℕ) × (slice_get v.taken k ≡ Some (n, rs)))
  pub worlds : (i r : ℕ) (x : World) → slice_get w.worlds i ≡ Some (r, x)
      → IsToldBy vs (λ v. (has_root (roots_in v) r ≡ true) × (k : ℕ) × (slice_get v.worlds k ≡ Some (r, x)))
  pub logs : (i r : ℕ) (x : List PortCall) → slice_get w.logs i ≡ Some (r, x)
      → IsToldBy vs (λ v. (has_root (roots_in v) r ≡ true) × (k : ℕ) × (slice_get v.logs k ≡ Some (r, x)))
