-- The steps of the whole, each by the frame and its own lemmas. No induction.
use Rattle.core_laws.proofs.Cited.{◌≡◌, ℕ, suc, ◌+◌, ◌-◌, ◌*◌, ◌≤◌, true, false, IsTrue, List, [], ◌∷◌, ◌++◌, length, set, Option, Some}
use Rattle.core_laws.proofs.Cited.{None, refl, sym, ◌∙◌, ap, subst, ◌⊎◌, inl, inr, arith, slice_get, take, not, append-nil, LockId, Errno}
use Rattle.core_laws.proofs.Cited.{Entry, Idle, Reply, Fits, FitsReads, cost_of, root_of, MessageView, messages_of, Job, Call, Select}
use Rattle.core_laws.proofs.Cited.{SwitchOff, Take, Free, Send, Settle, Passed, Sent, ActOutcome, WalkTree, job_bus, is_last, seen, is_over}
use Rattle.core_laws.proofs.Cited.{first_note, rest_of, message_cut, got_after, reply_by, IsBelow, weight_at, InLocks, SeenView, slots_of}
use Rattle.core_laws.proofs.Cited.{HoldsLocks, SendsIn, IsLockOf, holder_in, with_holder, turned_to, seen_of, RootPort, MsgResult}
use Rattle.core_laws.proofs.Cited.{with_place, message_entry, settled_with, Place, spot_of, numbers_of, trees_of, spots_of, has_reply}
use Rattle.core_laws.proofs.Cited.{IsGoing, SeatKept, CoreKept, Run, IsFairRun, Whole, StandsAt, IsSent, OwesUpTo, total, message_most}
use Rattle.core_laws.proofs.Cited.{IsLeft, IsDecided, NextMsg, IsInside, PortKept, next_of, behind_of, IsSaid, TableKept, got-grows}
use Rattle.core_laws.proofs.Cited.{given-few, bytes_given, Act, IsTold, LocksView}
use Rattle.i2c_base.specs.declared.ids.LockId.TheVariants as lock
use Rattle.i2c_base.specs.declared.entry.End.TheVariants as end
use Rattle.i2c_base.specs.declared.entry.Entry.TheVariants as entry
use Rattle.i2c_base.specs.declared.reply.Cut.TheVariants as cut_at
use Rattle.core_laws.proofs.Steps.{told-take, told-free}
use Rattle.core_laws.specs.Behind.{passed, spoken}
use Rattle.core_laws.proofs.Looks.{looks-same}
use Rattle.core_laws.proofs.Core.{are-numbered, core-stepped, set_same, going-on, left-on, spot-here, tree-here, number-here}
use Rattle.core_laws.proofs.Holding.{holder-goes, holds-taken, holds-freed, holds-sent}
use Rattle.core_laws.proofs.ToldSteps.{message-keeps, message-settles}
use Rattle.core_laws.proofs.Marked.{said-table}
use Rattle.core_laws.proofs.Seats.{seat-behind, seat-settled, settled-goes, settled-pays}
use Rattle.core_laws.proofs.Owed.{owes-step, total-set}
use Rattle.core_laws.proofs.Ports.{sockets-still, sockets-spoken, inside-behind}
use Rattle.core_laws.proofs.Table.{take-table, free-table, lock-there}
use Rattle.core_laws.proofs.WalkSteps.{call-is, left-taken, left-freed}
use Rattle.core_laws.proofs.Turns.{rooted-kept}

pub none_owed : (rs : List Reply) → has_reply rs ≡ false → rs ≡ []
none_owed [] e = refl
none_owed (r ∷ rs) e = absurd (let f : true ≡ false = e in cc)

-- what is paid at one place is paid in the sum
pub calls-pay : (owes : List ℕ) (place n less len : ℕ) → slice_get owes place ≡ Some n → less + (1 + len) ≤ n
    → len + 2 + 2 * total (set owes place less) ≤ 2 * total owes
calls-pay owes place n less len here low =
    let sums : total (set owes place less) + n ≡ total owes + less = total-set owes place n less here in
    omega (arith, sums, low)

pub less-owed : (owes : List ℕ) (place n less : ℕ) → slice_get owes place ≡ Some n → less ≤ n → total (set owes place less) ≤ total owes
less-owed owes place n less here low =
    let sums : total (set owes place less) + n ≡ total owes + less = total-set owes place n less here in
    omega (arith, sums, low)

module _ (run : Run) (fair : IsFairRun run) (whole : Whole) (core : CoreKept run whole) (place : ℕ) (p : Place) (ls : List LockId) (n : ℕ)
    (stands : StandsAt whole place p ls n) (room2 : ℕ) where
  seat : SeatKept run p ls n
  seat = core.seats place p ls n stands

  -- A MESSAGE
  module _ (job : Job) (more : ℕ) (next : NextMsg) (at : ℕ) (old new : RootPort) (bytes : List ℕ)
      (msg : MsgResult) (words : SeenView) (sent : IsSent run whole p job more next at old new bytes msg words) (gone : ℕ) where
    abbrev pub behind : WalkTree
    behind = behind_of whole.locks p.tree (Sent msg.end bytes)

    abbrev pub got : List ℕ
    got = got_after job msg.reading bytes p.got

    abbrev pub message : Entry
    message = message_entry p.number next bytes msg

    no_settle : (verdict : Option Errno) → Send job more ≡ Settle verdict → ⊥
    no_settle verdict is = (let f : Send job more ≡ Settle verdict = is in cc)

    its : IsGoing run p n
    its = going-on run whole core place p ls n stands (Send job more) sent.first

    its_left : IsLeft run.board p.transfer (has_reply p.owed) p.sent p.tree
    its_left = left-on run whole core place p ls n stands (Send job more) sent.first no_settle

    holds : SendsIn run.board job (first_note (seen (slots_of (seen_of whole.locks)) p.tree)).marks ls
        × ((out : ActOutcome) → HoldsLocks run.board ls (rest_of (seen (slots_of (seen_of whole.locks)) p.tree) out))
    holds = holds-sent run.board (seen_of whole.locks) core.table.home ls p.tree seat.holds job more sent.first

    goes : is_over behind ≡ false
    goes = holder-goes run.board ls behind (holds.1 (Sent msg.end bytes)) (lock.Bus (root_of run.board (job_bus job))) holds.0.rooted

    whose : (bus : ℕ) (ms : List MessageView) → job ≡ Call bus ms
        → (run.asks p.number (p.taken ++ p.owed) ≡ Some p.transfer) × (bus ≡ p.transfer.bus) × (ms ≡ messages_of p.transfer)
        × (p.sent + suc more ≡ length ms)
    whose bus ms j =
        let c = call-is run.board p.transfer (slots_of (seen_of whole.locks)) p.tree (has_reply p.owed) p.sent its_left bus ms more
        (subst (λ (x : Job). next_of whole.locks p.tree ≡ Some (Send x more)) j sent.first) in
        let none : p.owed ≡ [] = none_owed p.owed c.0 in (
          ap (λ (rs : List Reply). run.asks p.number (p.taken ++ rs)) none
              ∙ ap (λ (rs : List Reply). run.asks p.number rs) (append-nil p.taken) ∙ its.asked,
          c.1.same_bus,
          c.1.same_messages,
          c.2,
        )

    said : IsTrue run.tells → IsSaid run.board run.asks
        (spot_of p) whole.locks p.transfer p.sent job more next old new bytes msg
    said tell =
        let s = sent.shows tell in
        record {
          first = sent.first;
          of = sent.of;
          rooted = sent.keeps.rooted;
          whose = whose;
          to_addr = s.to_addr;
          in_direction = sent.gives.direction;
          chip = s.chip;
          has = s.has;
        }

    table_now : TableKept run.board (turned_to whole.locks words) (numbers_of whole.places) (set whole.held place ls)
    table_now = subst (λ (h : List (List LockId)). TableKept run.board (turned_to whole.locks words) (numbers_of whole.places) h)
        (sym (set_same whole.held place ls stands.holding))
        (said-table run.board whole.locks (numbers_of whole.places) whole.held core.table ls p.tree seat.holds job more sent.first
        (Sent msg.end bytes) words sent.marked)

    inside : is_last job more ≡ false → msg.end ≡ end.Ok → IsInside run.board behind new.root
    inside last fine = inside-behind run.board (has_reply p.owed)
        (slots_of (seen_of whole.locks)) p.tree its_left.settles job more sent.first msg.end bytes new.root (sym sent.keeps.rooted
        ∙ sym sent.keeps.root) last fine

    pays : (weight_at run.board (Send job more) ≤ n)
        × OwesUpTo run.board behind (not (has_reply p.owed)) (run.left p.number p.taken - cost_of run.board p.transfer)
        (n - weight_at run.board (Send job more))
    pays = owes-step run.board p.tree (not (has_reply p.owed)) (run.left p.number p.taken - cost_of run.board p.transfer) n its.owes
        (slots_of (seen_of whole.locks)) (Send job more) sent.first (Sent msg.end bytes)

    ports : (less : ℕ) → less + weight_at run.board (Send job more) ≤ n → (w : WalkTree)
        → (new.phase ≡ Idle) ⊎ IsInside run.board w new.root
        → (k : ℕ) (y : RootPort) → slice_get (set whole.sockets at new) k ≡ Some y
        → PortKept run.board run.tells (total (set whole.owes place less)) (set (trees_of whole.places) place w) y
    ports less low w free =
        sockets-spoken run.board run.tells (trees_of whole.places) place p.tree w
        (tree-here run whole core place p stands.here) whole.sockets core.once (total whole.owes) (total (set whole.owes place less))
        (message_most run.board job more + 2)
        (calls-pay whole.owes place n less (message_most run.board job more) stands.owing low) core.sockets_kept
        (slots_of (seen_of whole.locks)) (Send job more) sent.first at old new sent.port sent.keeps.root
        (λ bus ms k is. (let f : job ≡ Call bus ms = cc in sym (sent.keeps.rooted ∙ ap (λ (j : Job). root_of run.board (job_bus j)) f)))
        sent.keeps.start free sent.keeps.grows

    -- that decides nothing
    module _ (leaves : IsLeft run.board p.transfer (has_reply p.owed) gone behind) (partway : p.owed ≡ []
        → FitsReads (take gone p.transfer.msgs) got) (rooms : whole.room ≡ room2 + 1)
        (room_bytes2 : ℕ) (rooms_bytes : whole.room_bytes ≡ room_bytes2 + length bytes) where
      abbrev pub quiet_place : Place
      quiet_place = spoken whole p job next bytes msg gone

      abbrev pub quiet_less : ℕ
      quiet_less = n - weight_at run.board (Send job more)

      got_still : has_reply p.owed ≡ true → got ≡ []
      got_still has = by job refl
        where
          by : (j : Job) → job ≡ j → got_after job msg.reading bytes p.got ≡ []
          by (Call bus ms) j =
              (let c = call-is run.board p.transfer (slots_of (seen_of whole.locks)) p.tree (has_reply p.owed) p.sent its_left bus ms more
              (subst (λ (x : Job). next_of whole.locks p.tree ≡ Some (Send x more)) j sent.first) in
              absurd (let f : true ≡ false = sym has ∙ c.0 in cc))
          by (Select h) j = ap (λ (x : Job). got_after x msg.reading bytes p.got) j ∙ its.emptied has
          by (SwitchOff off) j = ap (λ (x : Job). got_after x msg.reading bytes p.got) j ∙ its.emptied has

      quiet_seat : SeatKept run quiet_place ls quiet_less
      quiet_seat = seat-behind run p n its ls behind (holds.1 (Sent msg.end bytes)) gone goes leaves got partway got_still
          (message_cut next.purpose next.part msg.end) quiet_less pays.1

      free_now : (new.phase ≡ Idle) ⊎ ((is_last job more ≡ false) × (msg.end ≡ end.Ok)) → (new.phase ≡ Idle)
          ⊎ IsInside run.board behind new.root
      free_now (inl idle) = inl idle
      free_now (inr x) = inr (inside x.0 x.1)

      pub core-message : CoreKept run
          (record (with_place whole place (spoken whole p job next bytes msg gone) ls (n - weight_at run.board (Send job more))) {
            past = message ∷ whole.past;
            locks = turned_to whole.locks words;
            sockets = set whole.sockets at new;
            room = room2;
            room_bytes = room_bytes2;
          })
      core-message =
          let weight : 1 + message_most run.board job more ≤ n = pays.0 in
          core-stepped run whole core place p quiet_place stands.here refl n quiet_less 1 stands.owing (omega (arith, weight))
          ls quiet_seat (turned_to whole.locks words) table_now (set whole.sockets at new)
          (rooted-kept whole.sockets core.once at old new sent.port sent.keeps.root)
          (ports quiet_less (omega (arith, weight)) behind (free_now sent.keeps.idle)) (message ∷ whole.past)
          (λ tell. message-keeps run.board fair.tree fair.plain fair.lines run.asks fair.sends run.callers whole.past
          (spots_of whole.places) whole.locks whole.sockets (core.told tell)
          (are-numbered run whole core) core.once place (spot_of p) (spot-here run whole core place p stands.here)
          (looks-same run whole core tell place p ls n stands) at old new sent.port p.transfer p.sent job more next bytes msg
          (said tell) goes words sent.marked leaves.quiet)
          room2 rooms (length bytes) (omega (arith, weight, sent.keeps.few, got-grows job msg.reading bytes p.got)) room_bytes2 rooms_bytes

    -- that decides, with its settle after it: the caller isn't told yet
    module _ (verdict : Option Errno) (decides : IsDecided run.board p.transfer verdict behind) (unsettled : has_reply p.owed ≡ false)
        (reply : Reply) (decided : reply ≡ reply_by verdict (Some p.transfer) got)
        (fits : Fits p.transfer reply) (rooms : whole.room ≡ room2 + 2) (room_bytes2 : ℕ)
        (rooms_bytes : whole.room_bytes ≡ room_bytes2 + (length bytes + length (bytes_given reply))) where
      abbrev pub after : WalkTree
      after = rest_of behind Passed

      abbrev pub settle : Entry
      settle = entry.Settle p.number reply (message_cut next.purpose next.part msg.end)

      abbrev pub settled_place : Place
      settled_place = settled_with (spoken whole p job next bytes msg gone) reply

      abbrev pub settled_less : ℕ
      settled_less = n - weight_at run.board (Send job more) - 1

      one_left : 1 ≤ n - weight_at run.board (Send job more)
      one_left = settled-pays run p n its ls behind (holds.1 (Sent msg.end bytes)) gone words table_now.home verdict decides
          (lock.Bus (root_of run.board (job_bus job))) holds.0.rooted unsettled (n - weight_at run.board (Send job more)) pays.1

      after_goes : is_over after ≡ false
      after_goes = settled-goes run p n its ls behind (holds.1 (Sent msg.end bytes)) gone words table_now.home verdict decides
          (lock.Bus (root_of run.board (job_bus job))) holds.0.rooted unsettled (n - weight_at run.board (Send job more)) pays.1

      settled_seat : SeatKept run settled_place ls settled_less
      settled_seat =
          seat-settled run p n its ls behind (holds.1 (Sent msg.end bytes)) gone words table_now.home verdict decides
          (lock.Bus (root_of run.board (job_bus job))) holds.0.rooted unsettled (n - weight_at run.board (Send job more)) pays.1
          reply fits

      free_after : (new.phase ≡ Idle) ⊎ ((is_last job more ≡ false) × (msg.end ≡ end.Ok)) → (new.phase ≡ Idle)
          ⊎ IsInside run.board after new.root
      free_after (inl idle) = inl idle
      free_after (inr x) =
          (let i = inside x.0 x.1 in
          absurd (let f : Some (Send (Call i.bus i.messages) i.left) ≡ Some (Settle verdict) = sym i.first ∙ decides.first in cc))

      pub core-settled : CoreKept run
          (record (with_place whole place (settled_with (spoken whole p job next bytes msg gone) reply) ls
          (n - weight_at run.board (Send job more) - 1)) {
            past = settle ∷ message ∷ whole.past;
            locks = turned_to whole.locks words;
            sockets = set whole.sockets at new;
            room = room2;
            room_bytes = room_bytes2;
          })
      core-settled =
          let weight : 1 + message_most run.board job more ≤ n = pays.0 in
          let one : 1 ≤ n - (1 + message_most run.board job more) = one_left in
          let gives : length (bytes_given reply) ≤ length got = (let few = given-few verdict (Some p.transfer) got in
          let same : length (bytes_given reply) ≡ length (bytes_given (reply_by verdict (Some p.transfer) got)) = ap
          (λ (r : Reply). length (bytes_given r)) decided in omega (arith, few, same)) in
          core-stepped run whole core place p settled_place stands.here refl n settled_less 2 stands.owing (omega (arith, weight, one))
          ls settled_seat (turned_to whole.locks words) table_now (set whole.sockets at new)
          (rooted-kept whole.sockets core.once at old new sent.port sent.keeps.root)
          (ports settled_less (omega (arith, weight, one)) after (free_after sent.keeps.idle)) (settle ∷ message ∷ whole.past)
          (λ tell. message-settles run.board fair.tree fair.plain fair.lines run.asks fair.sends run.callers whole.past
          (spots_of whole.places) whole.locks whole.sockets (core.told tell)
          (are-numbered run whole core) core.once place (spot_of p) (spot-here run whole core place p stands.here)
          (looks-same run whole core tell place p ls n stands) at old new sent.port p.transfer p.sent job more next bytes msg
          (said tell) goes words sent.marked
          verdict decides.first (none_owed p.owed unsettled) its.asked reply decided after_goes)
          room2 rooms (length bytes + length (bytes_given reply))
          (omega (arith, weight, one, sent.keeps.few, got-grows job msg.reading bytes p.got, gives)) room_bytes2 rooms_bytes

  -- A LOCK is taken or freed, and the walk goes on
  core-locked : (act : Act) → next_of whole.locks p.tree ≡ Some act
      → ((bus : ℕ) (ms : List MessageView) (k : ℕ) → act ≡ Send (Call bus ms) k → ⊥) → (its : IsGoing run p n)
      → (1 ≤ n) × OwesUpTo run.board (behind_of whole.locks p.tree Passed) (not (has_reply p.owed))
      (run.left p.number p.taken - cost_of run.board p.transfer) (n - 1)
      → (rest : List LockId) → HoldsLocks run.board rest (behind_of whole.locks p.tree Passed)
      → is_over (behind_of whole.locks p.tree Passed) ≡ false
      → IsLeft run.board p.transfer (has_reply p.owed) p.sent (behind_of whole.locks p.tree Passed)
      → (v2 : LocksView) → TableKept run.board v2 (numbers_of whole.places) (set whole.held place rest)
      → (e : Entry) → (IsTrue run.tells → IsTold run.board run.callers run.asks (e ∷ whole.past)
      (set (spots_of whole.places) place (spot_of (passed whole p))) v2 whole.sockets None)
      → whole.room ≡ room2 + 1
      → CoreKept run (record (with_place whole place (passed whole p) rest (n - 1)) { past = e ∷ whole.past; locks = v2; room = room2 })
  core-locked act first other its pays rest holds goes left v2 table e told rooms =
      let one : 1 ≤ n = pays.0 in
      let tree = behind_of whole.locks p.tree Passed in
      core-stepped run whole core place p (passed whole p) stands.here refl n (n - 1) 1 stands.owing (omega (arith, one)) rest
      (seat-behind run p n its rest tree holds p.sent goes left p.got its.partway its.emptied cut_at.No (n - 1) pays.1)
      v2 table whole.sockets core.once
      (sockets-still run.board run.tells (trees_of whole.places) place p.tree tree
      (tree-here run whole core place p stands.here) whole.sockets (total whole.owes) (total (set whole.owes place (n - 1)))
      (less-owed whole.owes place n (n - 1) stands.owing (omega arith)) core.sockets_kept (slots_of (seen_of whole.locks)) act first other)
      (e ∷ whole.past) told room2 rooms 0 (omega arith) whole.room_bytes (omega arith)

  -- A LOCK IS TAKEN that the table says nobody has
  module _ (l : LockId) (first : next_of whole.locks p.tree ≡ Some (Take l)) (nobody : holder_in whole.locks l ≡ None)
      (rooms : whole.room ≡ room2 + 1) where
    abbrev taken_tree : WalkTree
    taken_tree = behind_of whole.locks p.tree Passed

    takes_no_settle : (verdict : Option Errno) → Take l ≡ Settle verdict → ⊥
    takes_no_settle verdict is = (let f : Take l ≡ Settle verdict = is in cc)

    take_holds : IsLockOf run.board l × IsBelow run.board l ls × HoldsLocks run.board (l ∷ ls) taken_tree
    take_holds = holds-taken run.board (seen_of whole.locks) core.table.home ls p.tree seat.holds l first

    take_goes : is_over taken_tree ≡ false
    take_goes = holder-goes run.board (l ∷ ls) taken_tree take_holds.2 l (inl refl)

    take_its : IsGoing run p n
    take_its = going-on run whole core place p ls n stands (Take l) first

    take_pays : (1 ≤ n) × OwesUpTo run.board taken_tree (not (has_reply p.owed)) (run.left p.number p.taken - cost_of run.board p.transfer)
        (n - 1)
    take_pays = owes-step run.board p.tree (not (has_reply p.owed))
        (run.left p.number p.taken - cost_of run.board p.transfer) n take_its.owes (slots_of (seen_of whole.locks)) (Take l) first Passed

    pub core-taken : CoreKept run (record
        (with_place whole place (passed whole p) (l ∷ ls) (n - 1)) {
          past = entry.Take p.number l ∷ whole.past;
          locks = with_holder whole.locks l (Some p.number);
          room = room2;
        })
    core-taken =
        core-locked (Take l) first (λ bus ms k is. let f : Take l ≡ Send (Call bus ms) k = is in cc) take_its take_pays (l ∷ ls)
        take_holds.2 take_goes
        (left-taken run.board p.transfer (slots_of (seen_of whole.locks)) p.tree (has_reply p.owed) p.sent
        (left-on run whole core place p ls n stands (Take l) first takes_no_settle) l first)
        (with_holder whole.locks l (Some p.number))
        (take-table run.board whole.locks (numbers_of whole.places) whole.held core.table core.distinct place p.number ls stands.holding
        (number-here run whole core place p stands.here) l take_holds.0 nobody) (entry.Take p.number l)
        (λ tell. told-take run.board fair.tree fair.plain fair.lines run.asks fair.sends run.callers whole.past
        (spots_of whole.places) whole.locks whole.sockets (core.told tell) (are-numbered run whole core) place (spot_of p)
        (spot-here run whole core place p stands.here) (looks-same run whole core tell place p ls n stands)
        taken_tree refl take_goes l take_holds.0 first nobody) rooms

  -- A LOCK IS FREED, and the walk goes on
  module _ (l : LockId) (first : next_of whole.locks p.tree ≡ Some (Free l)) where
    abbrev pub freed_tree : WalkTree
    freed_tree = behind_of whole.locks p.tree Passed

    frees_no_settle : (verdict : Option Errno) → Free l ≡ Settle verdict → ⊥
    frees_no_settle verdict is = (let f : Free l ≡ Settle verdict = is in cc)

    pub free_holds : (rest : List LockId) × (ls ≡ l ∷ rest) × HoldsLocks run.board rest freed_tree
    free_holds = holds-freed run.board (seen_of whole.locks) core.table.home ls p.tree seat.holds l first

    free_there : IsLockOf run.board l
    free_there =
        lock-there run.board whole.locks (numbers_of whole.places) whole.held core.table l p.number
        (core.table.has place ls p.number stands.holding (number-here run whole core place p stands.here) l
        (subst (λ (ks : List LockId). InLocks l ks) (sym free_holds.1) (inl refl)))

    free_its : IsGoing run p n
    free_its = going-on run whole core place p ls n stands (Free l) first

    free_pays : (1 ≤ n) × OwesUpTo run.board freed_tree (not (has_reply p.owed)) (run.left p.number p.taken - cost_of run.board p.transfer)
        (n - 1)
    free_pays = owes-step run.board p.tree (not (has_reply p.owed))
        (run.left p.number p.taken - cost_of run.board p.transfer) n free_its.owes (slots_of (seen_of whole.locks)) (Free l) first Passed

    module _ (goes_on : is_over freed_tree ≡ false) (rooms : whole.room ≡ room2 + 1) where
      pub core-freed : CoreKept run (record
          (with_place whole place (passed whole p) free_holds.0 (n - 1)) {
            past = entry.Free p.number l ∷ whole.past;
            locks = with_holder whole.locks l None;
            room = room2;
          })
      core-freed =
          core-locked (Free l) first (λ bus ms k is. let f : Free l ≡ Send (Call bus ms) k = is in cc) free_its free_pays free_holds.0
          free_holds.2 goes_on
          (left-freed run.board p.transfer (slots_of (seen_of whole.locks)) p.tree (has_reply p.owed) p.sent
          (left-on run whole core place p ls n stands (Free l) first frees_no_settle) l first)
          (with_holder whole.locks l None)
          (free-table run.board whole.locks
          (numbers_of whole.places) whole.held core.table core.distinct place p.number ls stands.holding
          (number-here run whole core place p stands.here) l free_holds.0 free_holds.1) (entry.Free p.number l)
          (λ tell. told-free run.board fair.tree fair.plain fair.lines run.asks fair.sends run.callers whole.past
          (spots_of whole.places) whole.locks whole.sockets (core.told tell) (are-numbered run whole core) place (spot_of p)
          (spot-here run whole core place p stands.here) (looks-same run whole core tell place p ls n stands)
          freed_tree refl goes_on l free_there first) rooms
