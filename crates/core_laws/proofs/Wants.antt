-- What a step that comes next wants of the lock words and the ports, from what is kept, and which message it is. No
-- induction.
use Rattle.core_laws.proofs.Cited.{◌≡◌, ℕ, suc, ◌+◌, ◌<◌, false, List, Some, sym, subst, inl, refl, arith, length, slice_get, LockId}
use Rattle.core_laws.proofs.Cited.{BoardView, buses, root_of, rank, block_limit, MessageView, messages_of, bytes_most, NextMsg, IsMessageOf}
use Rattle.core_laws.proofs.Cited.{message_for, ends_with, slots_of, Take, Free, Send, Shift, Settle, Job, Call, job_bus, is_last, seen}
use Rattle.core_laws.proofs.Cited.{first_note, IsJobOf, job-shifted, IsLeft, IsLockOf, SendsIn, InLocks, IsCall, LocksView, holder_in}
use Rattle.core_laws.proofs.Cited.{rank_in, Place, numbers_of, has_reply, SeatKept, CoreKept, Run, Whole, trees_of, seen_of, RootPort}
use Rattle.core_laws.proofs.Cited.{next_of, TableKept, total, message_most, Idle}
use Rattle.i2c_base.specs.declared.ids.LockId.TheVariants as lock
use Rattle.core_laws.proofs.MessageTold.{message-moves, last-is}
use Rattle.bus_laws.proofs.walk.Next.{job-sent}
use Rattle.seg_locks.specs.Locks.{IsLockIn, IsBelowHeld}
use Rattle.core_laws.proofs.Core.{locks-here, number-here, owes-here, seat-here, stands-here, tree-here, holds-at, left-on}
use Rattle.core_laws.proofs.Holding.{holds-freed, holds-sent, holds-shifted, holds-taken}
use Rattle.core_laws.proofs.WalkSteps.{call-is}
use Rattle.core_laws.proofs.Table.{below-all, lock-there}
use Rattle.core_laws.proofs.Ports.{line-idle}

-- a lock of the board has its word
pub lock-in : (b : BoardView) (v : LocksView) (numbers : List ℕ) (held : List (List LockId)) → TableKept b v numbers held → (l : LockId)
    → IsLockOf b l → IsLockIn v l
lock-in b v numbers held table (lock.Bus r) is = (let all : length v.roots ≡ length b.roots = table.roots in omega (arith, all, is))
lock-in b v numbers held table (lock.Mux q) is = (let all : length v.depths ≡ buses b = table.deep in omega (arith, all, is))

module _ (run : Run) (whole : Whole) (core : CoreKept run whole)
    (place : ℕ) (p : Place) (here : slice_get whole.places place ≡ Some p) where
  abbrev own : (ls : List LockId) × (slice_get whole.held place ≡ Some ls)
  own = locks-here run whole core place p here

  numbered : slice_get (numbers_of whole.places) place ≡ Some p.number
  numbered = number-here run whole core place p here

  seat : SeatKept run p own.0 (owes-here run whole core place p here).0
  seat = seat-here run whole core place p here

  -- WHAT IS HELD: a lock among the caller's own has its word, which names the caller
  pub held-wants : (ls : List LockId) → slice_get whole.held place ≡ Some ls → (l : LockId) → InLocks l ls
      → IsLockIn whole.locks l × (holder_in whole.locks l ≡ Some p.number)
  held-wants ls holding l among =
      let who : holder_in whole.locks l ≡ Some p.number = core.table.has place ls p.number holding numbered l among in (
        lock-in run.board whole.locks (numbers_of whole.places) whole.held core.table l
            (lock-there run.board whole.locks (numbers_of whole.places) whole.held core.table l p.number who),
        who,
      )

  -- A LOCK THAT COMES NEXT is of the board, and lower than each that its caller has
  pub take-wants : (l : LockId) → next_of whole.locks p.tree ≡ Some (Take l)
      → IsLockIn whole.locks l × IsLockOf run.board l × IsBelowHeld whole.locks p.number l
  take-wants l first =
      let takes = holds-taken run.board (seen_of whole.locks) core.table.home own.0 p.tree seat.holds l first in (
        lock-in run.board whole.locks (numbers_of whole.places) whole.held core.table l takes.0,
        takes.0,
        (λ k has. (let low : rank run.board l < rank run.board k = below-all run.board whole.locks
            (numbers_of whole.places) whole.held core.table core.distinct place p.number own.0 own.1 numbered l takes.1 k has in
            let new : rank_in whole.locks l ≡ rank run.board l = core.table.ranked l takes.0 in
            let old : rank_in whole.locks k ≡ rank run.board k = core.table.ranked k
            (lock-there run.board whole.locks (numbers_of whole.places) whole.held core.table k p.number has) in
            omega (arith, low, new, old))),
      )

  -- A LOCK THAT IS FREED NEXT is its caller's
  pub free-wants : (l : LockId) → next_of whole.locks p.tree ≡ Some (Free l)
      → IsLockIn whole.locks l × (holder_in whole.locks l ≡ Some p.number)
  free-wants l first =
      let frees = holds-freed run.board (seen_of whole.locks) core.table.home own.0 p.tree seat.holds l first in
      held-wants own.0 own.1 l (subst (λ (ks : List LockId). InLocks l ks) (sym frees.1) (inl refl))

  -- A LINE STEP THAT COMES NEXT finds its port idle
  pub line-wants : (job : Job) → next_of whole.locks p.tree ≡ Some (Shift job) → (at : ℕ) (old : RootPort)
      → slice_get whole.sockets at ≡ Some old → old.root ≡ root_of run.board (job_bus job) → old.phase ≡ Idle
  line-wants job first at old port rooted =
      line-idle run.board run.tells (total whole.owes) (trees_of whole.places)
      (numbers_of whole.places) whole.held whole.locks core.table core.distinct (holds-at run whole core)
      place p.tree (tree-here run whole core place p here) job first old rooted (core.sockets_kept at old port)

  -- A MESSAGE OR A LINE STEP THAT COMES NEXT has the locks held that it needs, and is done behind the transfer's root
  pub send-wants : (job : Job) (more : ℕ) → next_of whole.locks p.tree ≡ Some (Send job more)
      → SendsIn run.board job (first_note (seen (slots_of (seen_of whole.locks)) p.tree)).marks own.0
  send-wants job more first = (holds-sent run.board (seen_of whole.locks) core.table.home own.0 p.tree seat.holds job more first).0

  pub shift-wants : (job : Job) → next_of whole.locks p.tree ≡ Some (Shift job)
      → SendsIn run.board job (first_note (seen (slots_of (seen_of whole.locks)) p.tree)).marks own.0
  shift-wants job first = (holds-shifted run.board (seen_of whole.locks) core.table.home own.0 p.tree seat.holds job first).0

  pub send-left : (job : Job) (more : ℕ) → next_of whole.locks p.tree ≡ Some (Send job more)
      → IsLeft run.board p.transfer (has_reply p.owed) p.sent p.tree
  send-left job more first = left-on run whole core place p _ _ (stands-here run whole core place p here) (Send job more) first
      (λ verdict is. let f : Send job more ≡ Settle verdict = is in cc)

  pub shift-left : (job : Job) → next_of whole.locks p.tree ≡ Some (Shift job)
      → IsLeft run.board p.transfer (has_reply p.owed) p.sent p.tree
  shift-left job first = left-on run whole core place p _ _ (stands-here run whole core place p here) (Shift job) first
      (λ verdict is. let f : Shift job ≡ Settle verdict = is in cc)

  pub send-root : (job : Job) (more : ℕ) → next_of whole.locks p.tree ≡ Some (Send job more) → IsJobOf run.board p.transfer job
  send-root job more first = job-sent (IsJobOf run.board p.transfer) (slots_of (seen_of whole.locks)) p.tree
      (send-left job more first).jobs job more first

  pub shift-root : (job : Job) → next_of whole.locks p.tree ≡ Some (Shift job) → IsJobOf run.board p.transfer job
  shift-root job first = (job-shifted (IsJobOf run.board p.transfer) (slots_of (seen_of whole.locks)) p.tree
      (shift-left job first).jobs job first).1

  -- A MESSAGE OF THE CALLER'S is the one behind those that went through, and its transfer hasn't settled
  pub call-wants : (bus : ℕ) (ms : List MessageView) (more : ℕ) → next_of whole.locks p.tree ≡ Some (Send (Call bus ms) more)
      → (has_reply p.owed ≡ false) × IsCall run.board p.transfer bus ms × (p.sent + suc more ≡ length ms)
  call-wants bus ms more first = call-is run.board p.transfer (slots_of (seen_of whole.locks)) p.tree (has_reply p.owed) p.sent
      (send-left (Call bus ms) more first) bus ms more first

  -- WHICH MESSAGE IT IS, of what the caller has in hand: its bytes at most, and whether a stop follows it
  module _ (job : Job) (more : ℕ) (first : next_of whole.locks p.tree ≡ Some (Send job more)) (next : NextMsg)
      (of : IsMessageOf job more next) where
    counted : (bus : ℕ) (ms : List MessageView) → job ≡ Call bus ms → (ms ≡ messages_of p.transfer) × (p.sent + suc more ≡ length ms)
    counted bus ms is = (let c = call-wants bus ms more (subst (λ (j : Job). next_of whole.locks p.tree ≡ Some (Send j more)) is first) in
        (c.1.same_messages, c.2))

    pub send-most : (addr : ℕ) → bytes_most (block_limit run.board)
        (message_for p.transfer p.sent next.purpose next.control addr) ≡ message_most run.board job more
    send-most addr = message-moves run.board p.transfer p.sent job more next addr of counted

    pub send-last : ends_with next.purpose next.part next.parts ≡ is_last job more
    send-last = last-is job more next of (λ bus ms is. (p.sent, (counted bus ms is).1))
