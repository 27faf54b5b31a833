-- What contracts see of handles, what each call on them answers, and what it leaves (Linux i2c-dev).
use Rattle.std.specs.Prelude.{⊤, ℕ, ◌<◌, nat_lt, ◌++◌, Bool, false, List, [], ◌∷◌, length, slice_index_or, slice_set, Option, Some, None, IsSome, IfSome, Result, Ok, Err, if◌then◌else◌}
use Rattle.i2c_base.specs.Board.{BoardView}
use Rattle.i2c_base.specs.declared.errno.Errno.TheVariants.{Ebadf, Ebusy, Einval, Enodev}
use Rattle.i2c_spec.specs.Grant.{grant_of, is_busy}
use Rattle.i2c_spec.specs.Tree.{buses}
use Rattle.dev_handle.specs.declared.fault.HandleFault.{HandleFault}
use Rattle.dev_handle.specs.declared.fault.HandleFault.TheVariants.{Errno, Memory}
use Rattle.dev_handle.specs.declared.handle.OpenHandle.{OpenHandle}
use Rattle.dev_handle.specs.declared.handle.Slave.{Slave}

-- what stands under each number that was given out, from 0 on; none where it was closed
abbrev pub HandlesView : Type 0
HandlesView = List (Option OpenHandle)

-- so many numbers are given out at most
abbrev pub MOST_HANDLES : ℕ
MOST_HANDLES = 1000

-- a number that wasn't given out has no handle
abbrev pub handle_at : HandlesView → ℕ → Option OpenHandle
handle_at v n = slice_index_or v n None

abbrev pub IsOpen : HandlesView → ℕ → Type 0
IsOpen v n = IsSome (handle_at v n)

-- the bus of every open handle is a bus of the board
abbrev pub AreOnBoard : BoardView → HandlesView → Type 0
AreOnBoard b v = (n : ℕ) → IfSome (handle_at v n) (λ h. h.bus < buses b)

-- ---- what a call on a handle answers and leaves

-- a number without an open handle is EBADF, before all else
abbrev pub if_open : {B : Type 0} → Option OpenHandle → (OpenHandle → Result B HandleFault) → Result B HandleFault
if_open None f = Err (Errno Ebadf)
if_open (Some h) f = f h

abbrev pub answer_by_handle : {B : Type 0} → HandlesView → ℕ → (OpenHandle → Result B HandleFault) → Result B HandleFault
answer_by_handle v n f = if_open (handle_at v n) f

-- only what stands under that number is another, and only where it is open
abbrev pub changed_if : HandlesView → ℕ → (OpenHandle → Option OpenHandle) → Option OpenHandle → HandlesView
changed_if v n f None = v
changed_if v n f (Some h) = slice_set v n (f h)

abbrev pub changed : HandlesView → ℕ → (OpenHandle → Option OpenHandle) → HandlesView
changed v n f = changed_if v n f (handle_at v n)

-- ---- open

-- no address was set, nor force, and error codes are off
abbrev pub fresh : (bus : ℕ) → OpenHandle
fresh bus = record { bus = bus; addr = None; force = false; pec = false }

-- the next number, or ENODEV where the board lacks the bus
abbrev pub open_answer : BoardView → HandlesView → (bus : ℕ) → Result ℕ HandleFault
open_answer b v bus = if nat_lt bus (buses b) then Ok (length v) else Err (Errno Enodev)

abbrev pub opened : BoardView → HandlesView → (bus : ℕ) → HandlesView
opened b v bus = if nat_lt bus (buses b) then v ++ Some (fresh bus) ∷ [] else v

-- .. where memory isn't wanting
abbrev pub UnlessNoMemory : {B : Type 0} → Result B HandleFault → Type 0 → Type 0
UnlessNoMemory (Ok x) holds = holds
UnlessNoMemory (Err (Errno e)) holds = holds
UnlessNoMemory (Err Memory) holds = ⊤

-- ---- slave, with or without force: EBUSY where the address is busy on the bus, and then nothing changes

abbrev pub slave_answer : BoardView → (addr : ℕ) → (force : Bool) → OpenHandle → Result ⊤ HandleFault
slave_answer b addr force h = if is_busy (grant_of b h.bus addr force) then Err (Errno Ebusy) else Ok tt

abbrev pub slaved : BoardView → (addr : ℕ) → (force : Bool) → OpenHandle → Option OpenHandle
slaved b addr force h = Some (if is_busy (grant_of b h.bus addr force) then h else record h { addr = Some addr; force = force })

-- ---- pec

abbrev pub with_pec : Bool → OpenHandle → Option OpenHandle
with_pec on h = Some (record h { pec = on })

-- ---- whom a handle reaches: EINVAL where no address was set

abbrev pub target_at : OpenHandle → Option ℕ → Result Slave HandleFault
target_at h None = Err (Errno Einval)
target_at h (Some addr) = Ok (record { bus = h.bus; addr = addr; force = h.force; pec = h.pec })

abbrev pub target_of : OpenHandle → Result Slave HandleFault
target_of h = target_at h h.addr

-- its bus and its force
abbrev pub bus_and_force : OpenHandle → Result (ℕ × Bool) HandleFault
bus_and_force h = Ok (h.bus, h.force)
