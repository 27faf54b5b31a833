-- A script that takes a reply: what it needs for that, and what it keeps.
use Rattle.caller_core.proofs.Cited.{◌≡◌, ℕ, ◌+◌, ◌<◌, ◌≤◌, Bool, true, false, cond, List, [], ◌∷◌, ◌++◌, length, drop, get_or, Option}
use Rattle.caller_core.proofs.Cited.{Some, None, refl, sym, ap, subst, ◌∙◌, arith, All, IfSome, slice_get, sum_by, map-append}
use Rattle.caller_core.proofs.Cited.{slice_get-get_or, same_Some, Fits, TransferView, Reply, reply_by, ReplyHead, PackedView, AreReplies}
use Rattle.caller_core.proofs.Cited.{next_place, is_over, replies_of, most_brought, TextView, IsAsk, IsCaller, HasRoom, command_talk}
use Rattle.caller_core.proofs.Cited.{quiet_front, progress, asked_at, sum_left, IsAt, commands_of, asked_by, command_text, quiet_text}
use Rattle.caller_core.proofs.Cited.{section_text, room_of, CommandView, ScriptView, CallerView, Totals}
use Rattle.std.specs.Prelude.{IsSome}
use Rattle.std.proofs.lemmas.List.{length-map}
use Rattle.i2c_base.specs.Need.{Covers, Need, bytes_given}
use Rattle.i2c_base.specs.Replies.{most_read}
use Rattle.i2c_base.specs.declared.reply.ReplyHead.TheVariants as head
use Rattle.tools.specs.Replies.{reply_of}
use Rattle.tools.proofs.TransferLemmas.{brings_few}
use Rattle.caller_core.specs.Callers.{need_at, owed_by}
use Rattle.caller_core.proofs.CommandLemmas.{IsSpoken, commands_are_read, commands_most}
use Rattle.caller_core.proofs.FairLemmas.{asked_from}
use Rattle.caller_core.proofs.PlaceLemmas.{asks, turn_asked, not_over, over_past, own_more, fit_more, text_stays, text_goes, stays, goes}
use Rattle.caller_core.proofs.SumLemmas.{sum_falls, sum_first}

-- a reply brings the bytes that stand beside its head
none_there : (bytes : List ℕ) → length bytes ≤ 0 → bytes ≡ []
none_there [] few = refl
none_there (x ∷ bytes) few = absurd (omega (arith, few))

pub given_by : (h : ReplyHead) (bytes : List ℕ) → length bytes ≤ most_read h → bytes ≡ bytes_given (reply_by h bytes)
given_by head.Done bytes few = none_there bytes few
given_by head.Read bytes few = refl
given_by (head.Err e) bytes few = none_there bytes few

replies_push : (items now : List (ReplyHead × List ℕ)) (item : ReplyHead × List ℕ) (r : Reply) → now ≡ items ++ item ∷ []
    → reply_of item ≡ r → replies_of now ≡ replies_of items ++ r ∷ []
replies_push items now item r pushed same =
    ap replies_of pushed ∙ map-append reply_of items (item ∷ []) ∙ ap (λ (x : Reply). replies_of items ++ x ∷ []) same

-- the command that is read at a place stands there
pub at_place : (cs : List CommandView) (place : ℕ) (c : CommandView) → place < length cs → c ≡ get_or cs place c
    → slice_get cs place ≡ Some c
at_place cs place c within is = slice_get-get_or cs place c within ∙ ap Some (sym is)

-- a reply to the transfer that is asked for
pub record IsTaking (cs : List CommandView) (rs : List Reply) (turn : ℕ) (r : Reply) : Type 0 where
  pub transfer : TransferView
  pub next : asked_at (progress cs rs) ≡ Some transfer
  pub fits : Fits transfer r
  pub few : length (bytes_given r) ≤ most_brought transfer
  pub count : length cs ≤ 1000
  pub within : turn < length cs

module _ (script : ScriptView) (cs : List CommandView) (taken : PackedView ReplyHead) (printed : TextView) (turn from place : ℕ)
    (totals : Totals) (r : Reply) (is : IsCaller script cs taken.items printed.bytes turn from place totals) where
  abbrev before : List Reply
  before = replies_of taken.items

  -- the room that it has, where it is ready
  abbrev spare_of : Bool → Need
  spare_of ready = record { replies = cond ready taken.room 0; bytes = printed.room }

  pub taking : (ready : Bool) (view : CallerView) → record { script = script; taken = before; spare = spare_of ready } ≡ view
      → (t : TransferView) × (asked_by view.script view.taken ≡ Some t) × Fits t r → IsTaking cs before turn r
  taking ready view seen asked =
      let t : TransferView = asked.0 in
      let by_script : asked_at (progress (commands_of script) before) ≡ Some t = subst
      (λ (v : CallerView). asked_by v.script v.taken ≡ Some t) (sym seen) asked.1 in
      let next : asked_at (progress cs before) ≡ Some t = ap (λ xs. asked_at (progress xs before)) (sym is.whole) ∙ by_script in
      let ask : IsAsk t = asked_from cs before t (subst (All IsSpoken) is.whole (commands_are_read script).fits) next in
      record {
        transfer = t;
        next = next;
        fits = asked.2;
        few = brings_few t r ask.fits asked.2;
        count = omega (arith, commands_most script, ap length is.whole);
        within = turn_asked cs before turn from place t is.at next;
      }

  -- it is ready, since it has room
  pub ready_to_take : (ready : Bool) (view : CallerView) → record { script = script; taken = before; spare = spare_of ready } ≡ view
      → IsTaking cs before turn r → Covers view.spare (owed_by view.script view.taken) → ready ≡ true
  ready_to_take ready view seen k covers =
      let owed : sum_left (λ t. 1) (progress (commands_of script) before) ≤ cond ready taken.room 0 =
      (subst (λ (v : CallerView). Covers v.spare (owed_by v.script v.taken)) (sym seen) covers).replies in
      let same : sum_left (λ t. 1) (progress (commands_of script) before) ≡ sum_left (λ t. 1) (progress cs before) =
      ap (λ xs. sum_left (λ t. 1) (progress xs before)) is.whole in
      (elim ready as (λ b. 1 ≤ cond b taken.room 0 → b ≡ true) [
        | true ↦ λ h. refl
        | false ↦ λ h. absurd (omega (arith, h))
      ]) (omega (arith, owed, same, sum_falls (λ t. 1) cs before r k.transfer k.next))

  -- the reply has room
  has_place : HasRoom cs taken printed turn → IsTaking cs before turn r → 0 < taken.room
  has_place room k = omega (arith, room.replies, sum_falls (λ t. 1) cs before r k.transfer k.next)

  -- .. and so have its bytes
  has_room : HasRoom cs taken printed turn → IsTaking cs before turn r → (bytes : List ℕ) → bytes ≡ bytes_given r
      → length bytes ≤ taken.room_bytes
  has_room room k bytes these =
      omega (arith, ap length these, k.few, room.bytes, sum_falls most_brought cs before r k.transfer k.next)

  -- what a call is told, and what is kept where it is ready, give room for both
  pub place_and_room : (ready : Bool) (view : CallerView) → record { script = script; taken = before; spare = spare_of ready } ≡ view
      → (t : TransferView) × (asked_by view.script view.taken ≡ Some t) × Fits t r → Covers view.spare (owed_by view.script view.taken)
      → (ready ≡ true → HasRoom cs taken printed turn) → (bytes : List ℕ) → bytes ≡ bytes_given r
      → (0 < taken.room) × (length bytes ≤ taken.room_bytes)
  place_and_room ready view seen asked covers kept bytes these =
      let k : IsTaking cs before turn r = taking ready view seen asked in
      let room : HasRoom cs taken printed turn = kept (ready_to_take ready view seen k covers) in
      (has_place room k, has_room room k bytes these)

  module _ (room : HasRoom cs taken printed turn) (k : IsTaking cs before turn r) (c : CommandView)
      (there : slice_get cs turn ≡ Some c) where
    fits_here : Fits ((command_talk c).at place) r
    fits_here =
        let same : k.transfer ≡ (command_talk c).at place = same_Some k.transfer ((command_talk c).at place)
        (sym k.next ∙ asks cs before turn from place c is.at there) in
        subst (λ (t : TransferView). Fits t r) same k.fits

    -- .. and that reply kept after the others
    module _ (answer : ReplyHead) (bytes : List ℕ) (then : PackedView ReplyHead) (same : reply_by answer bytes ≡ r)
        (these : bytes ≡ bytes_given r) (items : then.items ≡ taken.items ++ (answer, bytes) ∷ []) (one : then.room + 1 ≡ taken.room)
        (room_bytes : then.room_bytes + length bytes ≡ taken.room_bytes) where
      now : replies_of then.items ≡ before ++ r ∷ []
      now = replies_push taken.items then.items (answer, bytes) r items same

      room_then : sum_left (λ t. 1) (progress cs (replies_of then.items)) ≤ then.room
      room_then =
          omega (
            arith,
            one,
            room.replies,
            sum_falls (λ t. 1) cs before r k.transfer k.next,
            ap (λ (xs : List Reply). sum_left (λ t. 1) (progress cs xs)) now,
          )

      bytes_then : sum_left most_brought (progress cs (replies_of then.items)) ≤ then.room_bytes
      bytes_then =
          omega (
            arith,
            room_bytes,
            ap length these,
            k.few,
            room.bytes,
            sum_falls most_brought cs before r k.transfer k.next,
            ap (λ (xs : List Reply). sum_left most_brought (progress cs xs)) now,
          )

      -- what the command has been told, where it is over
      pub replies_so : AreReplies (command_talk c) 0 (drop from (replies_of then.items))
      replies_so =
          subst (λ (xs : List Reply). AreReplies (command_talk c) 0 (drop from xs)) (sym now)
          (fit_more cs before turn from place c r is.at there fits_here)

      pub stays_so : (next : ℕ) → next ≡ next_place (command_talk c) place r → next < (command_talk c).places
          → IsCaller script cs then.items printed.bytes turn from next totals
      stays_so next to more =
          let no : is_over (command_talk c) (next_place (command_talk c) place r) ≡ false =
          ap (λ n. is_over (command_talk c) n) (sym to) ∙ not_over c next more in
          let at : IsAt cs (before ++ r ∷ []) turn from (next_place (command_talk c) place r) =
          stays cs before turn from place c r is.at there
          fits_here no in
          record {
            whole = is.whole;
            at = subst (λ (xs : List Reply). IsAt cs xs turn from next) (sym now)
                (subst (λ n. IsAt cs (before ++ r ∷ []) turn from n) (sym to) at);
            text = is.text ∙ sym (text_stays cs before turn from place c r is.at there no) ∙ ap (λ (xs : List Reply). section_text cs xs)
                (sym now);
            cost_is = is.cost_is;
            cost_fits = is.cost_fits;
            roots_are = is.roots_are;
            replies_are = is.replies_are;
            bytes_are = is.bytes_are;
          }

      pub stays_room : HasRoom cs then printed turn
      stays_room = record { replies = room_then; bytes = bytes_then; text = room.text }

      pub goes_on : (text : TextView) (next end to : ℕ) → next ≡ next_place (command_talk c) place r → (command_talk c).places ≤ next
          → end ≡ length then.items
          → to ≡ turn + 1 + quiet_front (drop (turn + 1) cs)
          → text.bytes ≡ (printed.bytes ++ command_text (record { command = c; replies = drop from (replies_of then.items) }))
          ++ quiet_text (drop (turn + 1) cs)
          → IsCaller script cs then.items text.bytes to end 0 totals
      goes_on text next end to is_next past all is_to told =
          let over : is_over (command_talk c) (next_place (command_talk c) place r) ≡ true =
          ap (λ n. is_over (command_talk c) n) (sym is_next)
          ∙ over_past c next past in
          let last : end ≡ length (before ++ r ∷ []) = all ∙ sym (length-map then.items reply_of) ∙ ap length now in
          let at : IsAt cs (before ++ r ∷ []) (turn + 1 + quiet_front (drop (turn + 1) cs)) (length (before ++ r ∷ [])) 0 = goes cs before
          turn from place c r is.at there over in
          let own : drop from (replies_of then.items) ≡ drop from before ++ r ∷ [] = ap (λ (xs : List Reply). drop from xs) now
          ∙ own_more cs before turn from place c r is.at there in
          record {
            whole = is.whole;
            at =
                subst (λ (xs : List Reply). IsAt cs xs to end 0) (sym now)
                (subst (λ n. IsAt cs (before ++ r ∷ []) n end 0) (sym is_to)
                (subst (λ n. IsAt cs (before ++ r ∷ []) (turn + 1 + quiet_front (drop (turn + 1) cs)) n 0) (sym last) at));
            text =
                told
                ∙ ap (λ (x : List Reply). (printed.bytes ++ command_text (record { command = c; replies = x }))
                ++ quiet_text (drop (turn + 1) cs)) own
                ∙ ap (λ (x : List ℕ). (x ++ command_text (record { command = c; replies = drop from before ++ r ∷ [] }))
                ++ quiet_text (drop (turn + 1) cs)) is.text
                ∙ sym (text_goes cs before turn from place c r is.at there over) ∙ ap (λ (xs : List Reply). section_text cs xs) (sym now);
            cost_is = is.cost_is;
            cost_fits = is.cost_fits;
            roots_are = is.roots_are;
            replies_are = is.replies_are;
            bytes_are = is.bytes_are;
          }

      pub goes_room : (text : TextView) (to : ℕ) → sum_by room_of (drop to cs) ≤ text.room → HasRoom cs then text to
      goes_room text to enough = record { replies = room_then; bytes = bytes_then; text = enough }

-- a script that has room has all that it needs
pub covered : (script : ScriptView) (cs : List CommandView) (taken : PackedView ReplyHead) (printed : TextView) (turn from place : ℕ)
    (totals : Totals) (ready : Bool) → IsCaller script cs taken.items printed.bytes turn from place totals
    → HasRoom cs taken printed turn → ready ≡ true
    → Covers (record { replies = cond ready taken.room 0; bytes = printed.room }) (owed_by script (replies_of taken.items))
covered script cs taken printed turn from place totals ready is room e =
    let all : Covers (record { replies = taken.room; bytes = printed.room }) (need_at (progress cs (replies_of taken.items))) =
    record { replies = room.replies; bytes = omega (arith, room.text, ap (λ xs. sum_by room_of xs) is.at.left) } in
    subst (λ b. Covers (record { replies = cond b taken.room 0; bytes = printed.room }) (owed_by script (replies_of taken.items))) (sym e)
    (subst (λ xs. Covers (record { replies = taken.room; bytes = printed.room }) (need_at (progress xs (replies_of taken.items))))
    (sym is.whole) all)

-- before any reply, room for all replies and for what the commands left may print is room for what is still to come
pub room_at_first : (script : ScriptView) (cs : List CommandView) (taken : PackedView ReplyHead) (printed : TextView) (turn from place : ℕ)
    (totals : Totals) → IsCaller script cs taken.items printed.bytes turn from place totals → taken.items ≡ []
    → totals.replies ≤ taken.room → totals.bytes ≤ taken.room_bytes → sum_by room_of (drop turn cs) ≤ printed.room
    → HasRoom cs taken printed turn
room_at_first script cs taken printed turn from place totals is none replies bytes text =
    let first : replies_of taken.items ≡ [] = ap replies_of none in
    record {
      replies =
          omega (
            arith,
            ap (λ (xs : List Reply). sum_left (λ t. 1) (progress cs xs)) first,
            sum_first (λ t. 1) cs,
            is.replies_are,
            replies,
          );
      bytes =
          omega (
            arith,
            ap (λ (xs : List Reply). sum_left most_brought (progress cs xs)) first,
            sum_first most_brought cs,
            is.bytes_are,
            bytes,
          );
      text = text;
    }

-- a number that there is, and that has room
pub within_some : (o : Option ℕ) (n room : ℕ) → IsSome o → IfSome o (λ x. x ≡ n) → IfSome o (λ x. x ≤ room) → n ≤ room
within_some None n room some is fits = absurd cc
within_some (Some x) n room some is fits = omega (arith, is, fits)
