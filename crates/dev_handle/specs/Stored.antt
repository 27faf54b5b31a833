-- How handles are stored: each number has a key of the slab, and each value in it has its number.
use Rattle.std.specs.Prelude.{ℕ, ◌+◌, ◌==◌, List, [], ◌∷◌, slice_index_or, Option, Some, None, if◌then◌else◌}
use Rattle.slab.specs.Slab.{Slab}
use Rattle.dev_handle.specs.Handles.{HandlesView}
use Rattle.dev_handle.specs.declared.handle.OpenHandle.{OpenHandle}
use Rattle.dev_handle.specs.declared.stored.Numbered.{Numbered}

-- the handle in a slot, where it is that of the number
abbrev pub if_numbered : ℕ → Option Numbered → Option OpenHandle
if_numbered n None = None
if_numbered n (Some v) = if v.number == n then Some v.handle else None

-- .. in the slot at the key of the number, if it has one
abbrev pub at_key : ℕ → List (Option Numbered) → Option ℕ → Option OpenHandle
at_key n slots None = None
at_key n slots (Some key) = if_numbered n (slice_index_or slots key None)

-- what stands under the numbers from n on, which have these keys
abbrev pub stored_from : ℕ → List (Option Numbered) → List ℕ → HandlesView
stored_from n slots [] = []
stored_from n slots (key ∷ keys) = if_numbered n (slice_index_or slots key None) ∷ stored_from (n + 1) slots keys

abbrev pub stored : Slab Numbered → List ℕ → HandlesView
stored s keys = stored_from 0 s.slots keys
