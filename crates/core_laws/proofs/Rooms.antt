-- What is kept leaves room for the step that comes next: in the journal for its entries and their bytes, and in the log
-- of its port. No induction.
use Rattle.core_laws.proofs.Cited.{◌≡◌, ℕ, ◌+◌, ◌*◌, ◌-◌, ◌≤◌, Bool, true, false, IsTrue, cond, List, [], ◌∷◌, length, set, Option, Some}
use Rattle.core_laws.proofs.Cited.{ap, inl, inr, arith, slice_get, not, Errno, Reply, MayStart, cost_of, Job, Act, Take, Free, Send, Shift}
use Rattle.core_laws.proofs.Cited.{Settle, got_after, reply_by, weight_at, quiet-next, within-next, slots_of, Place, has_reply, pending}
use Rattle.core_laws.proofs.Cited.{IsGoing, CoreKept, Run, Whole, total, message_most, seen_of, RootPort, next_of, got-grows, given-few}
use Rattle.core_laws.proofs.Cited.{bytes_given}
use Rattle.i2c_base.specs.Limits.{MOST_CALLS}
use Rattle.core_laws.proofs.Core.{owes-here, pending-set, stands-here, going-on}
use Rattle.core_laws.proofs.Owed.{total-set}

-- a part is no more than the sum
part-owed : (owes : List ℕ) (place n : ℕ) → slice_get owes place ≡ Some n → n ≤ total owes
part-owed owes place n here =
    let sums : total (set owes place 0) + n ≡ total owes + 0 = total-set owes place n 0 here in
    omega (arith, sums)

part-pending : (places : List Place) (place : ℕ) (p : Place) → slice_get places place ≡ Some p → length p.got ≤ pending places
part-pending places place p here =
    let new : Place = record p { got = [] } in
    let sums : pending (set places place new) + length p.got ≡ pending places + 0 = pending-set places place p new here in
    omega (arith, sums)

-- its settle is still to come, or not
abbrev settle_due : List Reply → ℕ
settle_due rs = cond (not (has_reply rs)) 1 0

unsettled_one : (rs : List Reply) → has_reply rs ≡ false → 1 ≤ settle_due rs
unsettled_one [] e = omega arith
unsettled_one (r ∷ rs) e = absurd (let f : true ≡ false = e in cc)

module _ (run : Run) (whole : Whole) (core : CoreKept run whole) where
  -- a message may start on each port
  pub port-start : (at : ℕ) (old : RootPort) → slice_get whole.sockets at ≡ Some old → MayStart old.phase
  port-start at old port = (core.sockets_kept at old port).start

  module _ (place : ℕ) (p : Place) (here : slice_get whole.places place ≡ Some p) where
    abbrev n : ℕ
    n = (owes-here run whole core place p here).0

    low : n ≤ total whole.owes
    low = part-owed whole.owes place n (owes-here run whole core place p here).1

    low_got : length p.got ≤ pending whole.places
    low_got = part-pending whole.places place p here

    -- what its next step weighs, and its settle where that is still to come
    owes-next : (act : Act) → next_of whole.locks p.tree ≡ Some act → weight_at run.board act + settle_due p.owed ≤ n
    owes-next act first =
        let its : IsGoing run p n = going-on run whole core place p _ n (stands-here run whole core place p here) act first in
        let next = within-next run.board (slots_of (seen_of whole.locks)) p.tree its.owes.ahead its.owes.within act first in
        let light : weight_at run.board act + next.0 ≤ its.owes.ahead = next.1 in
        let most : its.owes.ahead + settle_due p.owed + (run.left p.number p.taken - cost_of run.board p.transfer) ≤ n = its.owes.most in
        omega (arith, light, most)

    -- THE JOURNAL has room for one entry, whichever comes next
    pub room-one : (act : Act) → next_of whole.locks p.tree ≡ Some act → 1 ≤ whole.room
    room-one (Take l) first = (let w : 1 + settle_due p.owed ≤ n = owes-next (Take l) first in omega (arith, w, low, core.room_left))
    room-one (Free l) first = (let w : 1 + settle_due p.owed ≤ n = owes-next (Free l) first in omega (arith, w, low, core.room_left))
    room-one (Shift job) first = (let w : 1 + settle_due p.owed ≤ n = owes-next (Shift job) first in omega (arith, w, low, core.room_left))
    room-one (Send job more) first =
        (let w : 1 + message_most run.board job more + settle_due p.owed ≤ n = owes-next (Send job more) first in
        omega (arith, w, low, core.room_left))
    room-one (Settle verdict) first =
        (let its : IsGoing run p n = going-on run whole core place p _ n (stands-here run whole core place p here) (Settle verdict) first in
        elim its.is_left [
          | inl is ↦ absurd (quiet-next (slots_of (seen_of whole.locks)) p.tree is.quiet verdict first)
          | inr lone ↦ (let w : 0 + settle_due p.owed ≤ n = owes-next (Settle verdict) first in
              let one : settle_due p.owed ≡ settle_due [] = ap settle_due lone.1 in
              omega (arith, w, one, low, core.room_left))
        ])

    -- .. and for a line step with its settle
    pub room-line : (job : Job) → next_of whole.locks p.tree ≡ Some (Shift job) → has_reply p.owed ≡ false → 2 ≤ whole.room
    room-line job first unsettled =
        (let w : 1 + settle_due p.owed ≤ n = owes-next (Shift job) first in let one = unsettled_one p.owed unsettled in
        omega (arith, w, one, low, core.room_left))

    -- A LINE STEP finds room in the log of its port
    pub log-line : (job : Job) → next_of whole.locks p.tree ≡ Some (Shift job) → IsTrue run.tells → (at : ℕ) (old : RootPort)
        → slice_get whole.sockets at ≡ Some old → length old.log + 1 ≤ MOST_CALLS
    log-line job first tell at old port =
        let w : 1 + settle_due p.owed ≤ n = owes-next (Shift job) first in
        let short : length old.log + 2 * total whole.owes ≤ MOST_CALLS = (core.sockets_kept at old port).short tell in
        omega (arith, w, low, short)

    -- A MESSAGE comes next
    module _ (job : Job) (more : ℕ) (first : next_of whole.locks p.tree ≡ Some (Send job more)) where
      weighs : 1 + message_most run.board job more + settle_due p.owed ≤ n
      weighs = owes-next (Send job more) first

      -- with its settle
      pub room-message : has_reply p.owed ≡ false → 2 ≤ whole.room
      room-message unsettled = (let one = unsettled_one p.owed unsettled in omega (arith, weighs, one, low, core.room_left))

      pub log-message : IsTrue run.tells → (at : ℕ) (old : RootPort) → slice_get whole.sockets at ≡ Some old
          → length old.log + (message_most run.board job more + 2) ≤ MOST_CALLS
      log-message tell at old port =
          let short : length old.log + 2 * total whole.owes ≤ MOST_CALLS = (core.sockets_kept at old port).short tell in
          omega (arith, weighs, low, short)

      -- the journal has room for its bytes, and for those of the settle after it
      module _ (bytes : List ℕ) (few : length bytes ≤ message_most run.board job more) where
        pub bytes-message : length bytes ≤ whole.room_bytes
        bytes-message = omega (arith, few, weighs, low, core.bytes_left)

        pub bytes-settle : (reading : Bool) (verdict : Option Errno) (reply : Reply)
            → reply ≡ reply_by verdict (Some p.transfer) (got_after job reading bytes p.got)
            → length bytes + length (bytes_given reply) ≤ whole.room_bytes
        bytes-settle reading verdict reply decided =
            let gives = given-few verdict (Some p.transfer) (got_after job reading bytes p.got) in
            let same : length (bytes_given reply) ≡ length
            (bytes_given (reply_by verdict (Some p.transfer) (got_after job reading bytes p.got))) = ap
            (λ (r : Reply). length (bytes_given r)) decided in
            let grows = got-grows job reading bytes p.got in
            let all : 2 * total whole.owes + pending whole.places ≤ whole.room_bytes = core.bytes_left in
            omega (arith, few, weighs, low, low_got, gives, same, grows, all)
