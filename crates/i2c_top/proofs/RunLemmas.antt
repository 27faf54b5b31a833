-- A run that is over: its journal is legal and complete, and the ports and the devices are what it tells. The induction goes
-- over the entries.
use Rattle.i2c_top.proofs.Cited.{◌≡◌, ℕ, ◌<◌, ◌≤◌, ◌⊎◌, inl, inr, List, [], ◌∷◌, length, map, All, reverse, get_or, Option, Some, None, sym}
use Rattle.i2c_top.proofs.Cited.{◌∙◌, ap, subst, arith, cond, zero-add, slice_get, range_with_len, option_map, option_map_or, cases_lt}
use Rattle.i2c_top.proofs.Cited.{length-map, length-map-range_with_len, get_or-map-range_with_len, get_or_from_slice_get, slice_get_past}
use Rattle.i2c_top.proofs.Cited.{slice_get-map, Entry, PortCall, Reply, BoardView, TransferView, IsTransfer, IsFairCaller, TargetState}
use Rattle.i2c_top.proofs.Cited.{World, AreWorldsOf, devices_of, Asks, tree_of, Ends, now, world_at, calls_of, IsStepwise, IsComplete}
use Rattle.i2c_top.proofs.Cited.{IsLegal, KeepsReplies, report_lines, report_of, text_of, AsksForMessages, AsksWithinLimits, asked_by}
use Rattle.i2c_top.proofs.Cited.{script_on, IsEntry, asks_in, printed_in, scripts_in, IsOver, IsRunBy, AreCounted, asks_by}
use Rattle.std.proofs.lemmas.List.{same_lists}
use Rattle.std.proofs.lemmas.Option.{slice_get_cases}
use Rattle.i2c_base.specs.declared.caller.Caller.{Ghosts as CallerGhosts}
use Rattle.i2c_base.specs.declared.entry.Entry.TheVariants as entry
use Rattle.i2c_spec.specs.History.{History}
use Rattle.bus_spec.specs.Walk.{Act, Take, Free, Send, Shift, Settle}
use Rattle.bus_spec.specs.Grammar.{seen, is_over, first_act}
use Rattle.bus_spec.specs.Readings.{replies}
use Rattle.bus_spec.specs.Past.{Now, begun, current}
use Rattle.bus_spec.specs.Stepwise.{May}
use Rattle.bus_spec.specs.Ruled.{IsRuled, IsThrough}
use Rattle.bus_spec.specs.Stand.{calls_by}
use Rattle.bus_laws.proofs.Laws.{lines-locked, settled-told}
use Rattle.flat_laws.specs.Ends.{IsDone}
use Rattle.flat_laws.specs.Left.{LeavesDevices, worlds_of}
use Rattle.flat_laws.proofs.Laws.{replies-kept, legal-with, devices-left, complete-then, strangers-end}
use Rattle.flat_laws.proofs.walk.Ruled.{ruled, ruled-calls}
use Rattle.i2c_top.specs.Cores.{AreGivenBack}

-- two ways of asking that give the same are one
pub same_asks : (f g : Asks) → ((c : ℕ) (rs : List Reply) → f c rs ≡ g c rs) → f ≡ g
same_asks f g h = λ i. λ c rs. h c rs i

-- who asks for nothing and has no walk has no next step
no_step : (b : BoardView) (asks : Asks) (n : Now) (c : ℕ) → n.walk c ≡ Ends → asks c (n.settled c) ≡ None
    → first_act (current b asks n c) ≡ None
no_step b asks n c ends nothing =
    ap (λ w. first_act (seen n.slot (cond (is_over w) (begun b (asks c (n.settled c))) w))) ends
    ∙ ap (λ o. first_act (seen n.slot (begun b o))) nothing

-- so no entry is of one who asks for nothing
not_his : (o : Option Act) (act : Act) → o ≡ None → o ≡ Some act → ⊥
not_his o act none some = absurd (let h : None ≡ Some act = sym none ∙ some in cc)

module _ (b : BoardView) (asks : Asks) (many few : ℕ) (nobody : (c : ℕ) → (c < few → ⊥) → (rs : List Reply) → asks c rs ≡ None) where
  -- an entry's caller is one of the few
  his : (past : List Entry) → IsStepwise b few asks past → (c : ℕ) (act : Act) → first_act (current b asks (now b asks past) c) ≡ Some act
      → c < few
  his past steps c act acts = by (cases_lt c few)
    where
      by : (c < few) ⊎ (few ≤ c) → c < few
      by (inl below) = below
      by (inr above) =
          let stranger : c < few → ⊥ = λ lt. absurd (omega (arith, above, lt)) in
          absurd (not_his (first_act (current b asks (now b asks past) c)) act
          (no_step b asks (now b asks past) c (strangers-end b few asks past steps c stranger)
          (nobody c stranger ((now b asks past).settled c))) acts)

  may_few : (past : List Entry) → IsStepwise b few asks past → (e : Entry) → May b many asks (now b asks past) e
      → May b few asks (now b asks past) e
  may_few past steps (entry.Take c l) may = (his past steps c (Take l) may.2, may.1, may.2, may.3, may.4)
  may_few past steps (entry.Settle c r cut) may = (his past steps c (Settle may.2) may.3, may.1, may.2, may.3, may.4, may.5)
  may_few past steps (entry.Free c l) may = (his past steps c (Free l) may.2, may.1, may.2)
  may_few past steps (entry.Line c mux level failed) may = let told = may.2 in (his past steps c (Shift told.0) told.1, may.1, told)
  may_few past steps (entry.Message c bus purpose part parts addr reading bytes heard e) may = let told = may.2 in
      (his past steps c (Send told.0 told.1) told.2, may.1, told)

  -- a past of many callers, of whom all but a few ask for nothing, is one of the few
  pub few-callers : (past : List Entry) → IsStepwise b many asks past → IsStepwise b few asks past
  few-callers [] steps = tt
  few-callers (e ∷ past) steps = let before = few-callers past steps.1 in (may_few past before e steps.0, before)

-- a list of n elements, each of which a function tells
listed : {X : Type 0} (f : ℕ → X) (xs : List X) (n : ℕ) → length xs ≡ n → ((i : ℕ) → i < n → slice_get xs i ≡ Some (f i))
    → xs ≡ map f (range_with_len 0 n)
listed f xs n count each =
    same_lists xs (map f (range_with_len 0 n)) (count ∙ sym (length-map-range_with_len f 0 n))
    (λ i d below. let low = subst (λ (m : ℕ). i < m) count below in
    get_or_from_slice_get xs i (f i) d (each i low) ∙ sym (get_or-map-range_with_len f 0 n i i d low (zero-add i)))

-- what holds of what each script asks for holds of what the callers do
pub asks_hold : {S : Type 0} (asked : S → List Reply → Option TransferView) (scripts : List S) (Q : TransferView → Type 0)
    → ((s : S) (rs : List Reply) (t : TransferView) → asked s rs ≡ Some t → Q t)
    → (c : ℕ) (rs : List Reply) (t : TransferView) → asks_in asked scripts c rs ≡ Some t → Q t
asks_hold {S} asked scripts Q each c rs t e = by (slice_get scripts c) e
  where
    by : (o : Option S) → option_map_or (λ s. asked s rs) o None ≡ Some t → Q t
    by None k = absurd (let h : None ≡ Some t = k in cc)
    by (Some s) k = each s rs t k

-- .. and of scripts by their texts
pub of_asks : (b : BoardView) (texts : List (List ℕ)) (Q : TransferView → Type 0)
    → ((text : List ℕ) (rs : List Reply) (t : TransferView) → asked_by (script_on b text) rs ≡ Some t → Q t)
    → (c : ℕ) (rs : List Reply) (t : TransferView) → asks_by b texts c rs ≡ Some t → Q t
of_asks b texts Q each = asks_hold (λ text. asked_by (script_on b text)) texts Q each

module _ {C S : Type 0} (row : CallerGhosts C S) (b : BoardView) (callers : List C) (many : ℕ) (journal : List Entry) (worlds : List World)
    (logs : List (List PortCall)) (fair : IsFairCaller row.asked row.left row.board)
    (over : IsOver row b callers many journal worlds logs) where
  abbrev scripts : List S
  scripts = scripts_in row callers

  abbrev count : ℕ
  count = length scripts

  abbrev asks : Asks
  asks = asks_in row.asked scripts

  abbrev past : List Entry
  past = reverse journal

  some : AsksForMessages asks
  some = asks_hold row.asked scripts (λ t. 0 < length t.msgs) fair.sends

  limits : AsksWithinLimits asks
  limits = asks_hold row.asked scripts (λ t. IsTransfer t.msgs t.out) fair.limits

  -- a number below the count is that of a caller, and no other number is
  caller_at : (c : ℕ) → c < count → (s : C) × (slice_get callers c ≡ Some s)
  caller_at c below = by (slice_get_cases callers c).1
    where
      by : ((s : C) × (c < length callers) × (slice_get callers c ≡ Some s) × (get_or callers c s ≡ s))
          ⊎ ((length callers ≤ c) × (slice_get callers c ≡ None)) → (s : C) × (slice_get callers c ≡ Some s)
      by (inl h) = (h.0, h.2)
      by (inr h) = absurd (let many : length callers ≤ c = h.0 in
          omega (arith, below, many, length-map callers (λ (s : C). row.script s)))

  own_at : (c : ℕ) (s : C) → slice_get callers c ≡ Some s → slice_get scripts c ≡ Some (row.script s)
  own_at c s at = slice_get-map (λ (x : C). row.script x) callers c ∙ ap (option_map (λ (x : C). row.script x)) at

  nobody : (c : ℕ) → (c < count → ⊥) → (rs : List Reply) → asks c rs ≡ None
  nobody c stranger rs = ap (λ o. option_map_or (λ s. row.asked s rs) o None) (slice_get_past scripts c (by (cases_lt c count)))
    where
      by : (c < count) ⊎ (count ≤ c) → count ≤ c
      by (inl below) = absurd (stranger below)
      by (inr above) = above

  stepwise : IsStepwise b count asks past
  stepwise = few-callers b asks many count nobody past over.stepwise

  is_done : (c : ℕ) → c < count → IsDone asks (now b asks past) c
  is_done c known =
      let s = caller_at c known in (
        over.ended c s.0 s.1,
        ap (λ o. option_map_or (λ k. row.asked k ((now b asks past).settled c)) o None) (own_at c s.0 s.1)
            ∙ ap (λ (rs : List Reply). row.asked (row.script s.0) rs) (sym (over.taken c s.0 s.1)) ∙ over.done c s.0 s.1,
      )

  all_end : (c : ℕ) → (now b asks past).walk c ≡ Ends
  all_end c = by (cases_lt c count)
    where
      by : (c < count) ⊎ (count ≤ c) → (now b asks past).walk c ≡ Ends
      by (inl below) = (is_done c below).0
      by (inr above) = strangers-end b count asks past stepwise c (λ below. absurd (omega (arith, below, above)))

  left_by : LeavesDevices b asks past
  left_by = devices-left b (tree_of b over.plain over.rules) over.plain
      (lines-locked b over.rules) asks some limits count past stepwise all_end

  worlds_are : worlds ≡ worlds_of b asks past
  worlds_are = listed (world_at b asks past) worlds (length b.roots) over.worlds_count over.world

  logs_are : logs ≡ map (calls_of b asks past) (range_with_len 0 (length b.roots))
  logs_are = listed (calls_of b asks past) logs (length b.roots) over.logs_count over.log

  pub worlds-over : AreWorldsOf b worlds
  worlds-over = subst (λ (ws : List World). AreWorldsOf b ws) (sym worlds_are) left_by.worlds

  -- their report is that of the journal, whatever each prints
  module _ (printed : S → List Reply → List ℕ) where
    section_at : (c : ℕ) → c < count
        → slice_get (map (λ (s : C). printed (row.script s) (row.taken s)) callers) c ≡ Some
        (text_of (printed_in printed scripts) journal c)
    section_at c known =
        let s = caller_at c known in
        slice_get-map (λ (x : C). printed (row.script x) (row.taken x)) callers c
        ∙ ap (option_map (λ (x : C). printed (row.script x) (row.taken x))) s.1
        ∙ ap (λ (rs : List Reply). Some (printed (row.script s.0) rs)) (over.taken c s.0 s.1 ∙ settled-told b asks past c)
        ∙ ap (λ o. Some (option_map_or (λ k. printed k (replies past c)) o [])) (sym (own_at c s.0 s.1))

    pub sections_are : map (λ (s : C). printed (row.script s) (row.taken s)) callers
        ≡ map (text_of (printed_in printed scripts) journal) (range_with_len 0 count)
    sections_are =
        listed (text_of (printed_in printed scripts) journal) (map (λ (s : C). printed (row.script s) (row.taken s)) callers) count
        (length-map callers (λ (s : C). printed (row.script s) (row.taken s)) ∙ sym (length-map callers (λ (s : C). row.script s)))
        section_at

    -- their report is that of the journal
    pub report-over : (bytes : List ℕ) → bytes ≡ report_lines (map (λ (s : C). printed (row.script s) (row.taken s)) callers) journal
        → bytes ≡ report_of (printed_in printed scripts) count journal
    report-over bytes printed_is = printed_is ∙ ap (λ (xs : List (List ℕ)). report_lines xs journal) sections_are

  -- it is legal by its entries alone, and what these tell of the ports is what the walks do
  kept : KeepsReplies b asks past
  kept = replies-kept b (tree_of b over.plain over.rules) over.plain (lines-locked b over.rules) asks some limits count past stepwise

  is_lawful : IsLegal b count asks past
  is_lawful =
      legal-with b (tree_of b over.plain over.rules) over.plain (lines-locked b over.rules) asks some count past stepwise over.rests kept

  abbrev is_legal : IsRuled b count asks past
  is_legal = ruled b count asks past is_lawful

  is_complete : IsThrough count asks past
  is_complete =
      let whole : IsComplete b count asks past = complete-then b (tree_of b over.plain over.rules) over.plain
      (lines-locked b over.rules) asks
      some count past stepwise is_done in
      record { asked = whole.asked; free = whole.free }

  same_calls : calls_of b asks past ≡ calls_by b is_legal.deeds past
  same_calls = λ i. λ r. ruled-calls b count asks past is_lawful r i

  same_states : left_by.told.states ≡ is_legal.replies_kept.told.states
  same_states =
      let told : Some left_by.told ≡ Some is_legal.replies_kept.told = sym left_by.defined ∙ is_legal.replies_kept.defined in
      let same : left_by.told ≡ is_legal.replies_kept.told = cc in
      ap (λ (h : History). h.states) same

  -- THE RUN of callers that are over, whose ports were given back
  pub run-over : (given_logs : List (List PortCall)) (states : List TargetState) (counts : List ℕ) → All IsEntry journal
      → AreGivenBack b worlds logs given_logs states counts → IsRunBy b count asks given_logs states counts journal
  run-over given_logs states counts in_range given =
      record {
        plain = over.plain;
        rules = over.rules;
        in_range = in_range;
        legal = is_legal;
        complete = is_complete;
        called = given.logged worlds-over ∙ logs_are
            ∙ ap (λ (calls : ℕ → List PortCall). map calls (range_with_len 0 (length b.roots))) same_calls;
        faults = subst (λ (ls : List (List PortCall)). AreCounted b ls counts) (sym (given.logged worlds-over))
            (given.counted over.logs_count);
        left = given.devices worlds-over ∙ ap (devices_of b) worlds_are ∙ left_by.states ∙ same_states;
      }
