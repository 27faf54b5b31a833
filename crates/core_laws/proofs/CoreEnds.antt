-- A walk that ends, with the next transfer loaded after it. No induction.
use Rattle.core_laws.proofs.Cited.{◌≡◌, ℕ, ◌+◌, ◌-◌, ◌≤◌, true, false, List, [], ◌∷◌, ◌++◌, length, set, Option, Some, None, refl, sym, ◌∙◌}
use Rattle.core_laws.proofs.Cited.{ap, subst, inl, arith, not, LockId, Errno, Entry, Reply, BoardView, Fits, TransferView, cost_of, Call}
use Rattle.core_laws.proofs.Cited.{Free, Send, Settle, Passed, WalkTree, Ends, Look, Then, seen, is_over, rest_of, walk_for, reply_by}
use Rattle.core_laws.proofs.Cited.{InLocks, slots_of, HoldsLocks, IsLockOf, with_holder, seen_of, Spot, IsTold, with_place, Place, spot_of}
use Rattle.core_laws.proofs.Cited.{numbers_of, trees_of, spots_of, has_reply, IsLone, IsGoing, SeatKept, CoreKept, Run, IsFairRun, Whole}
use Rattle.core_laws.proofs.Cited.{StandsAt, OwesUpTo, total, next_of, behind_of, TableKept, begun, bytes_given}
use Rattle.i2c_base.specs.declared.entry.Entry.TheVariants as entry
use Rattle.i2c_base.specs.declared.reply.Cut.TheVariants as cut_at
use Rattle.core_laws.specs.Behind.{begun_with}
use Rattle.core_laws.proofs.Looks.{looks-same}
use Rattle.core_laws.proofs.Core.{are-numbered, core-stepped, set_same, going-on, spot-here, tree-here, number-here}
use Rattle.core_laws.proofs.Holding.{holds-freed}
use Rattle.core_laws.proofs.Ports.{sockets-still}
use Rattle.core_laws.proofs.Table.{free-table, lock-there}
use Rattle.core_laws.proofs.Steps.{told-end, told-lone}
use Rattle.core_laws.proofs.CoreSteps.{less-owed}
use Rattle.core_laws.proofs.Going.{settle-errs, settle-lone}
use Rattle.core_laws.proofs.Loads.{seat-loaded, seat-over}
use Rattle.core_laws.proofs.Owed.{owes-end}

ends_holding : (b : BoardView) (ls : List LockId) (w : WalkTree) → is_over w ≡ true → HoldsLocks b ls w → ls ≡ []
ends_holding b ls Ends over h = h
ends_holding b ls (Look ask next) over h = absurd (let f : false ≡ true = over in cc)
ends_holding b ls (Then act note next) over h = absurd (let f : false ≡ true = over in cc)

module _ (run : Run) (fair : IsFairRun run) (whole : Whole) (core : CoreKept run whole) (place : ℕ) (p : Place) (ls : List LockId) (n : ℕ)
    (stands : StandsAt whole place p ls n) (room2 : ℕ) where
  seat : SeatKept run p ls n
  seat = core.seats place p ls n stands

  -- THE LAST LOCK IS FREED: the reply is handed over, and the next transfer is loaded
  module _ (l : LockId) (first : next_of whole.locks p.tree ≡ Some (Free l)) (ends : is_over (behind_of whole.locks p.tree Passed) ≡ true)
      (r : Reply) (owed : p.owed ≡ r ∷ []) (rooms : whole.room ≡ room2 + 1) where
    its : IsGoing run p n
    its = going-on run whole core place p ls n stands (Free l) first

    freeing : (rest : List LockId) × (ls ≡ l ∷ rest) × HoldsLocks run.board rest (behind_of whole.locks p.tree Passed)
    freeing = holds-freed run.board (seen_of whole.locks) core.table.home ls p.tree seat.holds l first

    nothing : freeing.0 ≡ []
    nothing = ends_holding run.board freeing.0 (behind_of whole.locks p.tree Passed) ends freeing.2

    only : ls ≡ l ∷ []
    only = freeing.1 ∙ ap (λ (ks : List LockId). l ∷ ks) nothing

    there : IsLockOf run.board l
    there =
        lock-there run.board whole.locks (numbers_of whole.places) whole.held core.table l p.number
        (core.table.has place ls p.number stands.holding (number-here run whole core place p stands.here) l
        (subst (λ (ks : List LockId). InLocks l ks) (sym only) (inl refl)))

    abbrev pub replies : List Reply
    replies = p.taken ++ p.owed

    unread : p.got ≡ []
    unread = its.emptied (ap has_reply owed)

    falls : run.left p.number replies ≤ run.left p.number p.taken - cost_of run.board p.transfer
    falls =
        let f : run.left p.number (p.taken ++ r ∷ []) + cost_of run.board p.transfer ≤ run.left p.number p.taken =
        fair.falls p.number p.taken p.transfer r its.asked (its.fits r owed) in
        let same : run.left p.number replies ≡ run.left p.number (p.taken ++ r ∷ []) = ap
        (λ (rs : List Reply). run.left p.number (p.taken ++ rs)) owed in
        omega (arith, f, same)

    pays : (1 ≤ n) × (run.left p.number p.taken - cost_of run.board p.transfer ≤ n - 1)
    pays = owes-end run.board p.tree (not (has_reply p.owed)) (run.left p.number p.taken - cost_of run.board p.transfer) n its.owes
        (slots_of (seen_of whole.locks)) (Free l) first

    covers : run.left p.number replies ≤ n - 1
    covers = (let f = falls in let g = pays.1 in omega (arith, f, g))

    -- with this seat
    ended-with : (new : Place) → new ≡ record p {
      taken = replies;
      owed = [];
      transfer = new.transfer;
      tree = new.tree;
      sent = 0;
      cut = cut_at.No;
    } → new.tree ≡ begun run.board (run.asks p.number replies) → SeatKept run new [] (n - 1)
        → CoreKept run (record whole {
          past = entry.Free p.number l ∷ whole.past;
          places = set whole.places place new;
          held = set whole.held place [];
          owes = set whole.owes place (n - 1);
          locks = with_holder whole.locks l None;
          room = room2;
        })
    ended-with new is loads kept =
        let one : 1 ≤ n = pays.0 in
        core-stepped run whole core place p new stands.here (ap (λ (q : Place). q.number) is) n (n - 1) 1 stands.owing
        (omega (arith, one)) [] kept
        (with_holder whole.locks l None)
        (free-table run.board whole.locks (numbers_of whole.places) whole.held core.table core.distinct place p.number ls stands.holding
        (number-here run whole core place p stands.here) l [] only) whole.sockets core.once
        (sockets-still run.board run.tells (trees_of whole.places) place p.tree new.tree
        (tree-here run whole core place p stands.here) whole.sockets (total whole.owes) (total (set whole.owes place (n - 1)))
        (less-owed whole.owes place n (n - 1) stands.owing (omega arith)) core.sockets_kept (slots_of (seen_of whole.locks))
        (Free l) first
        (λ bus ms k f. let g : Free l ≡ Send (Call bus ms) k = f in cc))
        (entry.Free p.number l ∷ whole.past)
        (λ tell. subst (λ (s : Spot). IsTold run.board run.callers run.asks (entry.Free p.number l ∷ whole.past)
        (set (spots_of whole.places) place s) (with_holder whole.locks l None) whole.sockets None) (sym (ap spot_of is))
        (told-end run.board fair.tree fair.plain fair.lines run.asks fair.sends run.callers whole.past
        (spots_of whole.places) whole.locks whole.sockets (core.told tell) (are-numbered run whole core) place (spot_of p)
        (spot-here run whole core place p stands.here) (looks-same run whole core tell place p ls n stands)
        (behind_of whole.locks p.tree Passed) refl ends new.tree l there first loads))
        room2 rooms 0 (let same : length new.got ≡ length p.got = ap (λ (q : Place). length q.got) is in
        omega (arith, same)) whole.room_bytes (omega arith)

    pub core-ended : (t : TransferView) → run.asks p.number replies ≡ Some t
        → CoreKept run (record (with_place whole place (begun_with p replies t (walk_for run.board t)) [] (n - 1))
        { past = entry.Free p.number l ∷ whole.past; locks = with_holder whole.locks l None; room = room2 })
    core-ended t asked =
        ended-with (begun_with p replies t (walk_for run.board t))
        (ap (λ (xs : List ℕ). record p {
          taken = replies;
          owed = [];
          transfer = t;
          tree = walk_for run.board t;
          sent = 0;
          got = xs;
          cut = cut_at.No;
        }) (sym unread)) (sym (ap (begun run.board) asked))
        (seat-loaded run fair p.number replies t asked (n - 1) covers)

    pub core-finished : run.asks p.number replies ≡ None
        → CoreKept run (record (with_place whole place (begun_with p replies p.transfer Ends) [] (n - 1))
        { past = entry.Free p.number l ∷ whole.past; locks = with_holder whole.locks l None; room = room2 })
    core-finished none =
        ended-with (begun_with p replies p.transfer Ends)
        (ap (λ (xs : List ℕ). record p { taken = replies; owed = []; tree = Ends; sent = 0; got = xs; cut = cut_at.No }) (sym unread))
        (sym (ap (begun run.board) none))
        (seat-over run fair p.number replies p.transfer none (n - 1))

  -- A TRANSFER IS REFUSED: its lone settle is its walk, and the next one is loaded after it
  module _ (verdict : Option Errno) (first : next_of whole.locks p.tree ≡ Some (Settle verdict)) (rooms : whole.room ≡ room2 + 1)
      (refused : Reply) (decided : refused ≡ reply_by verdict (run.asks p.number p.taken) p.got) where
    lone_its : IsGoing run p n
    lone_its = going-on run whole core place p ls n stands (Settle verdict) first

    abbrev lone_is : IsLone run.board p.tree × (p.owed ≡ [])
    lone_is = settle-lone run whole core place p stands.here verdict first

    lone_ends : is_over (behind_of whole.locks p.tree Passed) ≡ true
    lone_ends = ap (λ (w : WalkTree). is_over (rest_of (seen (slots_of (seen_of whole.locks)) w) Passed)) lone_is.0.is

    lone_verdict : verdict ≡ Some lone_is.0.errno
    lone_verdict = settle-errs run whole core place p stands.here verdict first

    refused_is : refused ≡ reply_by (Some lone_is.0.errno) (run.asks p.number p.taken) p.got
    refused_is = decided ∙ ap (λ (o : Option Errno). reply_by o (run.asks p.number p.taken) p.got) lone_verdict

    -- it gives no bytes
    pub refused-gives : bytes_given refused ≡ []
    refused-gives = ap (λ (r : Reply). bytes_given r) refused_is

    abbrev pub told_replies : List Reply
    told_replies = p.taken ++ refused ∷ []

    lone_empty : ls ≡ []
    lone_empty = subst (λ (w : WalkTree). HoldsLocks run.board ls w) lone_is.0.is seat.holds

    refused_fits : Fits p.transfer refused
    refused_fits = subst (λ (x : Reply). Fits p.transfer x) (sym refused_is) tt

    lone_falls : run.left p.number told_replies ≤ run.left p.number p.taken - cost_of run.board p.transfer
    lone_falls = (let f : run.left p.number (p.taken ++ refused ∷ []) + cost_of run.board p.transfer ≤ run.left p.number p.taken =
        fair.falls p.number p.taken p.transfer refused lone_its.asked refused_fits in omega (arith, f))

    lone_pays : (1 ≤ n) × (run.left p.number p.taken - cost_of run.board p.transfer ≤ n - 1)
    lone_pays =
        let o : OwesUpTo run.board p.tree true (run.left p.number p.taken - cost_of run.board p.transfer) n =
        subst (λ (rs : List Reply). OwesUpTo run.board p.tree (not (has_reply rs))
        (run.left p.number p.taken - cost_of run.board p.transfer) n) lone_is.1 lone_its.owes in
        let most : o.ahead + 1 + (run.left p.number p.taken - cost_of run.board p.transfer) ≤ n = o.most in
        (omega (arith, most), omega (arith, most))

    lone_covers : run.left p.number told_replies ≤ n - 1
    lone_covers = (let f = lone_falls in let g = lone_pays.1 in omega (arith, f, g))

    abbrev pub lone_entry : Entry
    lone_entry = entry.Settle p.number refused p.cut

    lone-with : (new : Place) → new ≡ record p {
      taken = told_replies;
      owed = [];
      transfer = new.transfer;
      tree = new.tree;
      sent = 0;
      got = [];
      cut = cut_at.No;
    } → new.tree ≡ begun run.board (run.asks p.number told_replies) → SeatKept run new [] (n - 1)
        → CoreKept run (record whole {
          past = lone_entry ∷ whole.past;
          places = set whole.places place new;
          held = set whole.held place [];
          owes = set whole.owes place (n - 1);
          room = room2;
        })
    lone-with new is loads kept =
        let one : 1 ≤ n = lone_pays.0 in
        core-stepped run whole core place p new stands.here (ap (λ (q : Place). q.number) is) n (n - 1) 1 stands.owing
        (omega (arith, one)) [] kept
        whole.locks (subst (λ (h : List (List LockId)). TableKept run.board whole.locks (numbers_of whole.places) h)
        (sym (set_same whole.held place [] (stands.holding ∙ ap (λ (ks : List LockId). Some ks) lone_empty))) core.table) whole.sockets
        core.once
        (sockets-still run.board run.tells (trees_of whole.places) place p.tree new.tree
        (tree-here run whole core place p stands.here) whole.sockets (total whole.owes) (total (set whole.owes place (n - 1)))
        (less-owed whole.owes place n (n - 1) stands.owing (omega arith)) core.sockets_kept (slots_of (seen_of whole.locks))
        (Settle verdict) first
        (λ bus ms k f. let g : Settle verdict ≡ Send (Call bus ms) k = f in cc))
        (lone_entry ∷ whole.past)
        (λ tell. subst (λ (s : Spot). IsTold run.board run.callers run.asks (lone_entry ∷ whole.past)
        (set (spots_of whole.places) place s) whole.locks whole.sockets None) (sym (ap spot_of is))
        (told-lone run.board fair.tree fair.plain fair.lines run.asks fair.sends run.callers whole.past
        (spots_of whole.places) whole.locks whole.sockets (core.told tell) (are-numbered run whole core) place (spot_of p)
        (spot-here run whole core place p stands.here) (looks-same run whole core tell place p ls n stands)
        (behind_of whole.locks p.tree Passed) refl lone_ends new.tree verdict first lone_is.1 refused decided loads))
        room2 rooms 0 (let none : length new.got ≡ 0 = ap (λ (q : Place). length q.got) is in omega (arith, none)) whole.room_bytes
        (omega arith)

    pub core-lone : (t : TransferView) → run.asks p.number told_replies ≡ Some t
        → CoreKept run (record (with_place whole place (begun_with p told_replies t (walk_for run.board t)) [] (n - 1))
        { past = lone_entry ∷ whole.past; room = room2 })
    core-lone t asked =
        lone-with (begun_with p told_replies t (walk_for run.board t)) refl (sym (ap (begun run.board) asked))
        (seat-loaded run fair p.number told_replies t asked (n - 1) lone_covers)

    pub core-lone-finished : run.asks p.number told_replies ≡ None
        → CoreKept run (record (with_place whole place (begun_with p told_replies p.transfer Ends) [] (n - 1))
        { past = lone_entry ∷ whole.past; room = room2 })
    core-lone-finished none =
        lone-with (begun_with p told_replies p.transfer Ends) refl (sym (ap (begun run.board) none))
        (seat-over run fair p.number told_replies p.transfer none (n - 1))
