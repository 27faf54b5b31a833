-- The steps, with what they show in one record each. No induction.
use Rattle.core_laws.proofs.Cited.{◌≡◌, ℕ, Bool, false, List, [], ◌∷◌, set, Option, Some, None, refl, sym, ◌∙◌, ap, subst, slice_get, Errno}
use Rattle.core_laws.proofs.Cited.{Entry, Reply, BoardView, TransferView, IsTree, IsPlainBoard, Asks, Job, Act, Send, Shift, Settle, Passed}
use Rattle.core_laws.proofs.Cited.{Sent, Lined, ActOutcome, WalkTree, line_mux, line_level, Slots, seen, is_over, first_act, first_note}
use Rattle.core_laws.proofs.Cited.{rest_of, cut_told, message_cut, got_after, now, reply_by, LinesAreLocked, NoSettle, AsksForMessages}
use Rattle.core_laws.proofs.Cited.{seen-first, SeenView, slots_of, slots_after, TellsMarks, LocksView, message_entry, seen_of, turned_to}
use Rattle.core_laws.proofs.Cited.{TellsKept, Spot, IsTold, AreNumbered, AreRooted, RootPort, MsgResult, NextMsg, next_of, behind_of}
use Rattle.core_laws.proofs.Cited.{IsSaid, IsLined, AreMarked}
use Rattle.i2c_base.specs.declared.entry.Entry.TheVariants as entry
use Rattle.i2c_base.specs.declared.reply.Cut.TheVariants as cut_at
use Rattle.core_laws.proofs.Said.{told-message, told-decided, told-line, told-line-decided, told-settle}
use Rattle.core_laws.proofs.Table.{set_at}
use Rattle.std.proofs.lemmas.List.{set-set}
use Rattle.core_laws.proofs.Turns.{numbered-kept}

module _ (b : BoardView) (tree : IsTree b) (plain : IsPlainBoard b) (lines : LinesAreLocked b) (asks : Asks) (some : AsksForMessages asks)
    (callers : ℕ) (past : List Entry) (spots : List Spot) (v : LocksView) (sockets : List RootPort)
    (told : IsTold b callers asks past spots v sockets None) (numbered : AreNumbered callers spots) (once : AreRooted sockets) (place : ℕ)
    (x : Spot) (here : slice_get spots place ≡ Some x)
    (sees : seen (now b asks past).slot x.tree ≡ seen (slots_of (seen_of v)) x.tree)
    (at : ℕ) (old new : RootPort) (port : slice_get sockets at ≡ Some old) where
  marks_by : (act : Act) (out : ActOutcome) (words : SeenView) → next_of v x.tree ≡ Some act → AreMarked b x.tree v out words
      → (y : Slots) → TellsMarks y v.marks
      → TellsMarks (slots_after (Some act) (first_note (seen (slots_of (seen_of v)) x.tree)) out y) words.marks
  marks_by act out words first are y tells = subst
      (λ (a : Option Act). TellsMarks (slots_after a (first_note (seen (slots_of (seen_of v)) x.tree)) out y) words.marks) first
      (are.marked y tells)

  kept_by : (act : Act) (out : ActOutcome) (words : SeenView) → next_of v x.tree ≡ Some act → AreMarked b x.tree v out words
      → (y : Slots) → TellsKept b y v.kept
      → TellsKept b (slots_after (Some act) (first_note (seen (slots_of (seen_of v)) x.tree)) out y) words.kept
  kept_by act out words first are y tells = subst
      (λ (a : Option Act). TellsKept b (slots_after a (first_note (seen (slots_of (seen_of v)) x.tree)) out y) words.kept) first
      (are.kept y tells)

  module _ (t : TransferView) (gone : ℕ) (job : Job) (left : ℕ) (next : NextMsg) (bytes : List ℕ) (msg : MsgResult)
      (said : IsSaid b asks x v t gone job left next old new bytes msg)
      (goes : is_over (behind_of v x.tree (Sent msg.end bytes)) ≡ false)
      (words : SeenView) (are : AreMarked b x.tree v (Sent msg.end bytes) words) where
    abbrev pub message : Entry
    message = message_entry x.number next bytes msg

    abbrev pub spot : Spot
    spot = record x {
      tree = behind_of v x.tree (Sent msg.end bytes);
      got = got_after job msg.reading bytes x.got;
      cut = message_cut next.purpose next.part msg.end;
    }

    abbrev pub marked : LocksView
    marked = turned_to v words

    pub message-keeps : NoSettle (behind_of v x.tree (Sent msg.end bytes))
        → IsTold b callers asks (message ∷ past) (set spots place spot) marked (set sockets at new) None
    message-keeps quiet =
        told-message b tree plain lines asks some callers past spots v sockets None told numbered place x here sees refl once at old new
        port job left said.first next said.of said.rooted t gone said.whose
        bytes msg said.to_addr said.in_direction said.chip said.has
        (behind_of v x.tree (Sent msg.end bytes)) refl goes words are.all (marks_by (Send job left)
        (Sent msg.end bytes) words said.first are)
        (kept_by (Send job left) (Sent msg.end bytes) words said.first are) quiet

    -- a message that decides, and its settle after it; the caller is told at its walk's end
    module _ (verdict : Option Errno) (settles : first_act (behind_of v x.tree (Sent msg.end bytes)) ≡ Some (Settle verdict))
        (unpaid : x.owed ≡ []) (asked : asks x.number x.taken ≡ Some t)
        (reply : Reply) (decided : reply ≡ reply_by verdict (Some t) (got_after job msg.reading bytes x.got))
        (more : is_over (rest_of (behind_of v x.tree (Sent msg.end bytes)) Passed) ≡ false) where
      abbrev pub settle : Entry
      settle = entry.Settle x.number reply (message_cut next.purpose next.part msg.end)

      abbrev pub settled : Spot
      settled = record x { tree = rest_of (behind_of v x.tree (Sent msg.end bytes)) Passed; owed = reply ∷ []; got = []; cut = cut_at.No }

      pub message-settles : IsTold b callers asks (settle ∷ message ∷ past) (set spots place settled) marked (set sockets at new) None
      message-settles =
          let due : IsTold b callers asks (message ∷ past) (set spots place spot) marked (set sockets at new) (Some x.number) =
          told-decided b tree plain lines asks some callers past spots v sockets None told numbered place x here sees refl once at old new
          port job left said.first next said.of said.rooted t gone said.whose
          bytes msg said.to_addr said.in_direction said.chip said.has
          (behind_of v x.tree (Sent msg.end bytes)) refl goes words are.all (marks_by (Send job left)
          (Sent msg.end bytes) words said.first are)
          (kept_by (Send job left) (Sent msg.end bytes) words said.first are) verdict settles in
          let look : seen (slots_of words) (behind_of v x.tree (Sent msg.end bytes)) ≡ behind_of v x.tree (Sent msg.end bytes) = seen-first
          (slots_of words) (behind_of v x.tree (Sent msg.end bytes)) (Settle verdict) settles in
          subst (λ (ss : List Spot). IsTold b callers asks (settle ∷ message ∷ past) ss marked (set sockets at new) None)
          (set-set spots place spot settled)
          (told-settle b tree plain lines asks some callers (message ∷ past) (set spots place spot) marked (set sockets at new)
          (Some x.number) due
          (numbered-kept callers spots numbered place x spot here refl) place spot (set_at spots place spot x here)
          (seen-first (now b asks (message ∷ past)).slot (behind_of v x.tree (Sent msg.end bytes)) (Settle verdict) settles
          ∙ sym look) refl verdict
          (ap (λ (w : WalkTree). first_act w) look ∙ settles) unpaid t asked reply decided
          (rest_of (behind_of v x.tree (Sent msg.end bytes)) Passed) (ap (λ (w : WalkTree). rest_of w Passed) (sym look)) more)

  module _ (job : Job) (failed : Bool) (lined : IsLined b x v job old new failed)
      (goes : is_over (behind_of v x.tree (Lined failed)) ≡ false)
      (words : SeenView) (are : AreMarked b x.tree v (Lined failed) words) where
    abbrev pub line : Entry
    line = entry.Line x.number (line_mux job) (line_level job) failed

    abbrev pub switched : Spot
    switched = record x { tree = behind_of v x.tree (Lined failed); cut = cut_told line }

    abbrev pub marked_line : LocksView
    marked_line = turned_to v words

    pub line-keeps : NoSettle (behind_of v x.tree (Lined failed))
        → IsTold b callers asks (line ∷ past) (set spots place switched) marked_line (set sockets at new) None
    line-keeps quiet =
        told-line b tree plain lines asks some callers past spots v sockets None told numbered place x here sees refl once at old new port
        job lined.first lined.rooted failed lined.root lined.world lined.log
        (behind_of v x.tree (Lined failed)) refl goes words are.all (marks_by (Shift job) (Lined failed) words lined.first are)
        (kept_by (Shift job) (Lined failed) words lined.first are) quiet

    module _ (verdict : Option Errno) (settles : first_act (behind_of v x.tree (Lined failed)) ≡ Some (Settle verdict))
        (unpaid : x.owed ≡ []) (t : TransferView) (asked : asks x.number x.taken ≡ Some t)
        (reply : Reply) (decided : reply ≡ reply_by verdict (Some t) x.got)
        (more : is_over (rest_of (behind_of v x.tree (Lined failed)) Passed) ≡ false) where
      abbrev pub settle_line : Entry
      settle_line = entry.Settle x.number reply (cut_told line)

      abbrev pub settled_line : Spot
      settled_line = record x { tree = rest_of (behind_of v x.tree (Lined failed)) Passed; owed = reply ∷ []; got = []; cut = cut_at.No }

      pub line-settles : IsTold b callers asks (settle_line ∷ line ∷ past) (set spots place settled_line) marked_line
          (set sockets at new) None
      line-settles =
          let due : IsTold b callers asks (line ∷ past) (set spots place switched) marked_line (set sockets at new) (Some x.number) =
          told-line-decided b tree plain lines asks some callers past spots v sockets None told numbered place x here sees refl once at old
          new port job lined.first lined.rooted failed lined.root lined.world lined.log
          (behind_of v x.tree (Lined failed)) refl goes words are.all (marks_by (Shift job) (Lined failed) words lined.first are)
          (kept_by (Shift job) (Lined failed) words lined.first are) verdict settles in
          let look : seen (slots_of words) (behind_of v x.tree (Lined failed)) ≡ behind_of v x.tree (Lined failed) = seen-first
          (slots_of words) (behind_of v x.tree (Lined failed)) (Settle verdict) settles in
          subst (λ (ss : List Spot). IsTold b callers asks (settle_line ∷ line ∷ past) ss marked_line (set sockets at new) None)
          (set-set spots place switched settled_line)
          (told-settle b tree plain lines asks some callers (line ∷ past) (set spots place switched) marked_line (set sockets at new)
          (Some x.number) due
          (numbered-kept callers spots numbered place x switched here refl) place switched (set_at spots place switched x here)
          (seen-first (now b asks (line ∷ past)).slot (behind_of v x.tree (Lined failed)) (Settle verdict) settles ∙ sym look) refl verdict
          (ap (λ (w : WalkTree). first_act w) look ∙ settles) unpaid t asked reply decided
          (rest_of (behind_of v x.tree (Lined failed)) Passed) (ap (λ (w : WalkTree). rest_of w Passed) (sym look)) more)
