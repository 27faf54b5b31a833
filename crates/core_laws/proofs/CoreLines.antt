-- A line step of the whole. No induction.
use Rattle.core_laws.proofs.Cited.{◌≡◌, ℕ, ◌+◌, ◌-◌, ◌≤◌, Bool, false, IsTrue, List, [], ◌∷◌, length, set, Option, Some, refl, sym, ◌∙◌, ap}
use Rattle.core_laws.proofs.Cited.{subst, inl, arith, slice_get, not, LockId, Errno, Entry, Phase, MayStart, PortCall, cost_of, root_of}
use Rattle.core_laws.proofs.Cited.{Job, Call, Send, Shift, Settle, Passed, Lined, ActOutcome, WalkTree, job_bus, seen, is_over, first_note}
use Rattle.core_laws.proofs.Cited.{rest_of, SeenView, slots_of, HoldsLocks, SendsIn, turned_to, seen_of, RootPort, with_place, settled_with}
use Rattle.core_laws.proofs.Cited.{Place, spot_of, numbers_of, trees_of, spots_of, has_reply, IsGoing, SeatKept, CoreKept, Run, IsFairRun}
use Rattle.core_laws.proofs.Cited.{Whole, StandsAt, OwesUpTo, total, IsLeft, IsDecided, PortKept, behind_of, IsLined, TableKept, cut_told}
use Rattle.core_laws.proofs.Cited.{line_call}
use Rattle.std.proofs.Common.{length-append}
use Rattle.i2c_base.specs.declared.ids.LockId.TheVariants as lock
use Rattle.i2c_base.specs.declared.entry.Entry.TheVariants as entry
use Rattle.core_laws.specs.Behind.{line_entry, switched}
use Rattle.core_laws.specs.Core.{IsShifted}
use Rattle.core_laws.proofs.Looks.{looks-same}
use Rattle.core_laws.proofs.Core.{are-numbered, core-stepped, set_same, going-on, left-on, spot-here, tree-here}
use Rattle.core_laws.proofs.Holding.{holder-goes, holds-shifted}
use Rattle.core_laws.proofs.Seats.{seat-behind, seat-settled, settled-goes, settled-pays}
use Rattle.core_laws.proofs.Owed.{owes-step, total-set}
use Rattle.core_laws.proofs.Ports.{sockets-spoken}
use Rattle.core_laws.proofs.Turns.{rooted-kept}
use Rattle.i2c_base.specs.declared.reply.Reply.TheVariants as answer
use Rattle.core_laws.proofs.ToldSteps.{line-keeps, line-settles}
use Rattle.core_laws.proofs.Marked.{lined-table}
use Rattle.core_laws.proofs.CoreSteps.{none_owed}

module _ (run : Run) (fair : IsFairRun run) (whole : Whole) (core : CoreKept run whole) (place : ℕ) (p : Place) (ls : List LockId) (n : ℕ)
    (stands : StandsAt whole place p ls n) (room2 : ℕ) where
  seat : SeatKept run p ls n
  seat = core.seats place p ls n stands

  -- A LINE STEP
  module _ (job : Job) (at : ℕ) (old new : RootPort) (failed : Bool) (words : SeenView)
      (shifted : IsShifted run whole p job at old new failed words) where
    line_no_settle : (verdict : Option Errno) → Shift job ≡ Settle verdict → ⊥
    line_no_settle verdict is = (let f : Shift job ≡ Settle verdict = is in cc)

    its : IsGoing run p n
    its = going-on run whole core place p ls n stands (Shift job) shifted.first

    its_left : IsLeft run.board p.transfer (has_reply p.owed) p.sent p.tree
    its_left = left-on run whole core place p ls n stands (Shift job) shifted.first line_no_settle

    abbrev pub behind : WalkTree
    behind = behind_of whole.locks p.tree (Lined failed)

    abbrev pub line : Entry
    line = line_entry p job failed

    holds : SendsIn run.board job (first_note (seen (slots_of (seen_of whole.locks)) p.tree)).marks ls
        × ((out : ActOutcome) → HoldsLocks run.board ls (rest_of (seen (slots_of (seen_of whole.locks)) p.tree) out))
    holds = holds-shifted run.board (seen_of whole.locks) core.table.home ls p.tree seat.holds job shifted.first

    goes : is_over behind ≡ false
    goes = holder-goes run.board ls behind (holds.1 (Lined failed)) (lock.Bus (root_of run.board (job_bus job))) holds.0.rooted

    lined : IsTrue run.tells → IsLined run.board (spot_of p) whole.locks job old new failed
    lined tell = (let s = shifted.shows tell in
        record { first = shifted.first; rooted = shifted.rooted; root = shifted.root; world = s.0; log = s.1 })

    grows : IsTrue run.tells → length new.log ≤ length old.log + 1
    grows tell =
        (let more : length new.log ≡ length old.log + 1 = ap (λ (xs : List PortCall). length xs) (shifted.shows tell).1
        ∙ length-append old.log (line_call job failed ∷ []) in omega (arith, more))

    table_now : TableKept run.board (turned_to whole.locks words) (numbers_of whole.places) (set whole.held place ls)
    table_now = subst (λ (h : List (List LockId)). TableKept run.board (turned_to whole.locks words) (numbers_of whole.places) h)
        (sym (set_same whole.held place ls stands.holding))
        (lined-table run.board whole.locks (numbers_of whole.places) whole.held core.table ls p.tree seat.holds job shifted.first
        (Lined failed) words shifted.marked)

    pays : (1 ≤ n) × OwesUpTo run.board behind (not (has_reply p.owed)) (run.left p.number p.taken - cost_of run.board p.transfer) (n - 1)
    pays = owes-step run.board p.tree (not (has_reply p.owed)) (run.left p.number p.taken - cost_of run.board p.transfer) n its.owes
        (slots_of (seen_of whole.locks)) (Shift job) shifted.first (Lined failed)

    ports : (less : ℕ) → less + 1 ≤ n → (w : WalkTree) → (k : ℕ) (y : RootPort) → slice_get (set whole.sockets at new) k ≡ Some y
        → PortKept run.board run.tells (total (set whole.owes place less)) (set (trees_of whole.places) place w) y
    ports less low w =
        let sums : total (set whole.owes place less) + n ≡ total whole.owes + less = total-set whole.owes place n less stands.owing in
        sockets-spoken run.board run.tells (trees_of whole.places) place p.tree w
        (tree-here run whole core place p stands.here) whole.sockets core.once (total whole.owes) (total (set whole.owes place less)) 1
        (omega (arith, sums, low)) core.sockets_kept (slots_of (seen_of whole.locks))
        (Shift job) shifted.first at old new shifted.port shifted.root
        (λ bus ms k is. absurd (let f : Shift job ≡ Send (Call bus ms) k = is in cc))
        (subst (λ (x : Phase). MayStart x) (sym shifted.idle) tt) (inl shifted.idle) grows

    -- that decides nothing
    module _ (leaves : IsLeft run.board p.transfer (has_reply p.owed) p.sent behind) (rooms : whole.room ≡ room2 + 1) where
      abbrev pub lined_place : Place
      lined_place = switched whole p job failed

      pub core-lined : CoreKept run (record (with_place whole place (switched whole p job failed) ls (n - 1)) {
        past = line ∷ whole.past;
        locks = turned_to whole.locks words;
        sockets = set whole.sockets at new;
        room = room2;
      })
      core-lined =
          let one : 1 ≤ n = pays.0 in
          core-stepped run whole core place p lined_place stands.here refl n (n - 1) 1 stands.owing (omega (arith, one)) ls
          (seat-behind run p n its ls behind (holds.1 (Lined failed)) p.sent goes leaves p.got its.partway its.emptied (cut_told line)
          (n - 1) pays.1)
          (turned_to whole.locks words) table_now (set whole.sockets at new)
          (rooted-kept whole.sockets core.once at old new shifted.port shifted.root) (ports (n - 1) (omega (arith, one)) behind)
          (line ∷ whole.past)
          (λ tell. line-keeps run.board fair.tree fair.plain fair.lines run.asks fair.sends run.callers whole.past
          (spots_of whole.places) whole.locks whole.sockets (core.told tell)
          (are-numbered run whole core) core.once place (spot_of p) (spot-here run whole core place p stands.here)
          (looks-same run whole core tell place p ls n stands) at old new shifted.port job failed
          (lined tell) goes words shifted.marked leaves.quiet)
          room2 rooms 0 (omega arith) whole.room_bytes (omega arith)

    -- that failed, with its settle after it
    module _ (err : Errno) (decides : IsDecided run.board p.transfer (Some err) behind) (unsettled : has_reply p.owed ≡ false)
        (rooms : whole.room ≡ room2 + 2) where
      abbrev pub after_line : WalkTree
      after_line = rest_of behind Passed

      abbrev pub line_settle : Entry
      line_settle = entry.Settle p.number (answer.Err err) (cut_told line)

      abbrev pub failed_place : Place
      failed_place = settled_with (switched whole p job failed) (answer.Err err)

      two_left : 1 ≤ n - 1
      two_left = settled-pays run p n its ls behind (holds.1 (Lined failed)) p.sent words table_now.home (Some err) decides
          (lock.Bus (root_of run.board (job_bus job))) holds.0.rooted unsettled (n - 1) pays.1

      after_goes : is_over after_line ≡ false
      after_goes = settled-goes run p n its ls behind (holds.1 (Lined failed)) p.sent words table_now.home (Some err) decides
          (lock.Bus (root_of run.board (job_bus job))) holds.0.rooted unsettled (n - 1) pays.1

      pub core-line-settled : CoreKept run
          (record (with_place whole place (settled_with (switched whole p job failed) (answer.Err err)) ls (n - 1 - 1))
          { past = line_settle ∷ line ∷ whole.past; locks = turned_to whole.locks words; sockets = set whole.sockets at new; room = room2 })
      core-line-settled =
          let one : 1 ≤ n = pays.0 in
          let two : 1 ≤ n - 1 = two_left in
          core-stepped run whole core place p failed_place stands.here refl n (n - 1 - 1) 2 stands.owing (omega (arith, one, two)) ls
          (seat-settled run p n its ls behind (holds.1 (Lined failed)) p.sent words table_now.home (Some err) decides
          (lock.Bus (root_of run.board (job_bus job))) holds.0.rooted unsettled (n - 1) pays.1
          (answer.Err err) tt)
          (turned_to whole.locks words) table_now (set whole.sockets at new)
          (rooted-kept whole.sockets core.once at old new shifted.port shifted.root)
          (ports (n - 1 - 1) (omega (arith, one, two)) after_line) (line_settle ∷ line ∷ whole.past)
          (λ tell. line-settles run.board fair.tree fair.plain fair.lines run.asks fair.sends run.callers whole.past
          (spots_of whole.places) whole.locks whole.sockets (core.told tell)
          (are-numbered run whole core) core.once place (spot_of p) (spot-here run whole core place p stands.here)
          (looks-same run whole core tell place p ls n stands) at old new shifted.port job failed (lined tell) goes words shifted.marked
          (Some err) decides.first (none_owed p.owed unsettled) p.transfer its.asked (answer.Err err) refl after_goes)
          room2 rooms 0 (omega arith) whole.room_bytes (omega arith)
