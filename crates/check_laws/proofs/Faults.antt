-- The calls of a past fail as its entries tell. The induction goes over the entries.
use Rattle.std.proofs.Common.{◌≡◌, ℕ, ◌+◌, ◌-◌, ◌<◌, Bool, true, false, not, ◌||◌, cond, List, [], ◌∷◌, ◌++◌, length, append_assoc}
use Rattle.std.proofs.Common.{append-nil, reverse, Option, None, refl, sym, ◌∙◌, ap, subst, inl, inr, arith}
use Rattle.std.specs.Prelude.{◌==◌}
use Rattle.std.specs.List.{AllByRecursion}
use mathlib.Core.List.{reverse-cons}
use Rattle.std.proofs.lemmas.Bool.{eq-eqb, ne_eqb}
use Rattle.std.proofs.lemmas.Bool.Decides.{eqb_tells}
use Rattle.std.proofs.lemmas.List.{length-reverse}
use Rattle.i2c_base.specs.declared.entry.End.{End}
use Rattle.i2c_base.specs.declared.entry.Entry.{Entry}
use Rattle.i2c_base.specs.declared.entry.Entry.TheVariants as entry
use Rattle.i2c_base.specs.declared.entry.Purpose.{Purpose}
use Rattle.i2c_base.specs.declared.port.PortCall.{PortCall}
use Rattle.i2c_base.specs.declared.port.PortCall.TheVariants as call
use Rattle.i2c_base.specs.Board.{BoardView}
use Rattle.i2c_spec.specs.Flat.{block_limit}
use Rattle.i2c_spec.specs.History.{Asks, changed_at}
use Rattle.i2c_spec.specs.Messages.{MessageView, messages_of}
use Rattle.i2c_spec.specs.Plain.{IsPlainBoard}
use Rattle.i2c_spec.specs.Tree.{root_of, home_of_mux}
use Rattle.i2c_spec.specs.TreeFacts.{IsTree}
use Rattle.i2c_spec.specs.World.{World}
use Rattle.i2c_spec.specs.Conversation.{TalkTold, world_listener, talk}
use Rattle.i2c_spec.proofs.MessageLemmas.{length-messages}
use Rattle.bus_spec.specs.Walk.{Job, Call, Select, SwitchOff, Act, Send, job_bus, message_of, is_last, line_mux, line_level}
use Rattle.bus_spec.specs.Grammar.{first_note}
use Rattle.bus_spec.specs.Past.{Now, now, current, cut_of, talk_of, line_call, sent_by, lined_by}
use Rattle.bus_spec.specs.Readings.{MessageEntry, is_call, is_on_root}
use Rattle.bus_spec.specs.Stepwise.{May, IsNext, IsStepwise}
use Rattle.bus_spec.specs.Tells.{TellsMessage}
use Rattle.bus_laws.specs.Lines.{LinesAreLocked}
use Rattle.bus_laws.specs.Reach.{AsksForMessages}
use Rattle.bus_laws.proofs.past.Next.{call-reaches}
use Rattle.bus_laws.proofs.past.StandsStep.{at_same, at_other}
use Rattle.bus_laws.proofs.past.Whole.{line_root}
use Rattle.bus_laws.proofs.past.Known.{message_entry}
use Rattle.journal_laws.proofs.past.CutTalks.{Went, BreaksOff, IsFront, talk-front}
use Rattle.journal_laws.proofs.past.Failures.{went-older}
use Rattle.check_laws.specs.Failed.{calls_told, is_last_told, calls_made, call_failed, gap_told, since_told, gaps_from, gaps_told, fails_by}
use Rattle.check_laws.specs.Failed.{FailBy}
use Rattle.check_laws.proofs.CallsTold.{calls-told}
use Rattle.check_laws.proofs.Gaps.{IsBy, none-by, both-by, went-by, broken-by, since-longer, since-before}
use Rattle.journal_laws.proofs.past.GoesOn.{own_cut}

-- so many calls of a root that went through, in front of these gaps
went-on : (b : BoardView) (r : ℕ) (es : List Entry) (own : List PortCall) (c : ℕ) → length own ≡ c → AllByRecursion Went own
    → IsBy own (gaps_from b r (0 + c) es) (gaps_from b r 0 es)
went-on b r es own c counted went =
    went-by own (gaps_from b r (0 + c) es) (gaps_from b r 0 es) went
    (λ n low. since-before b r es (0 + c) n (omega (arith, low, counted)))
    (λ n. ap (λ (k : ℕ). fails_by (gaps_from b r (0 + c) es) k) (let e : length own + n ≡ c + n = omega (arith, counted) in e)
    ∙ ap (λ (k : ℕ). fails_by (gaps_from b r k es) (c + n)) (let e : 0 + c ≡ c + 0 = omega arith in e)
    ∙ since-longer b r es c 0 n)

module _ (b : BoardView) (tree : IsTree b) (plain : IsPlainBoard b) (lines : LinesAreLocked b) (asks : Asks) (some : AsksForMessages asks)
    (callers : ℕ) where
  -- a stop is due where the entry tells so
  last-told : (past : List Entry) → IsStepwise b callers asks past → (job : Job) (left : ℕ) (m : MessageEntry)
      → IsNext b asks (now b asks past) m.caller (Send job left) → TellsMessage b (now b asks past) job left m
      → is_last_told m ≡ is_last job left
  last-told past steps (Select h) left m next tells = ap (λ (p : Purpose). not (is_call p) || (m.part == m.parts)) tells.for_purpose
  last-told past steps (SwitchOff off) left m next tells = ap (λ (p : Purpose). not (is_call p) || (m.part == m.parts)) tells.for_purpose
  last-told past steps (Call bus ms) left m next tells =
      ap (λ (p : Purpose). not (is_call p) || (m.part == m.parts)) tells.for_purpose
      ∙ elim (eqb_tells left 0) [
        | inl h ↦ eq-eqb m.part m.parts (let part : m.part ≡ length ms - left = tells.as_part in
            let parts : m.parts ≡ length ms = tells.of_parts in
            let none : left ≡ 0 = h.1 in
            let e : m.part ≡ m.parts = omega (arith, part, parts, none) in e)
            ∙ sym h.0
        | inr h ↦ ne_eqb m.part m.parts (λ same. let part : m.part ≡ length ms - left = tells.as_part in
            let parts : m.parts ≡ length ms = tells.of_parts in
            let apart : left ≡ 0 → ⊥ = h.1 in
            absurd (omega (arith, part, parts, same, has, apart)))
            ∙ sym h.0
      ]
    where
      has : 0 < length ms
      has =
          let reach = call-reaches b tree plain lines asks some callers past steps m.caller bus ms left next in
          let low : 0 < length reach.transfer.msgs = some m.caller ((now b asks past).settled m.caller) reach.transfer reach.asked in
          let many : length (messages_of reach.transfer) ≡ length reach.transfer.msgs =
          length-messages reach.transfer.msgs reach.transfer.out in
          let whole : length (messages_of reach.transfer) ≡ length ms = ap (λ (xs : List MessageView). length xs) reach.whole in
          omega (arith, low, many, whole)

  -- the calls of a message
  talk-by : (past : List Entry) → IsStepwise b callers asks past → (job : Job) (left : ℕ) (m : MessageEntry)
      → IsNext b asks (now b asks past) m.caller (Send job left) → TellsMessage b (now b asks past) job left m
      → (r : ℕ) → is_on_root b r (message_entry m) ≡ true → (later : List Entry)
      → IsBy (talk_of b (now b asks past) job left m.end).calls (gaps_from b r 0 (message_entry m ∷ later)) (gaps_from b r 0 later)
  talk-by past steps job left m next tells r on later =
      subst (λ (gs : List ℕ). IsBy t.calls gs (gaps_from b r 0 later)) (sym own)
      (elim front.either [
        | inl same ↦ whole same
        | inr broken ↦ broke broken
      ])
    where
      n : Now
      n = now b asks past

      w : World
      w = n.worlds (root_of b (job_bus job))

      t : TalkTold World
      t = talk_of b n job left m.end

      all : TalkTold World
      all = talk world_listener (block_limit b) w (message_of b job left) (is_last job left) None

      front : IsFront (cut_of m.end) [] t all
      front = talk-front world_listener (cut_of m.end) (block_limit b) w (message_of b job left) (is_last job left)

      made : ℕ
      made = calls_told (is_last_told m) m.end (length m.bytes)

      own : gaps_from b r 0 (message_entry m ∷ later) ≡ gap_told 0 (cut_of m.end) ++ gaps_from b r (since_told 0 made (cut_of m.end)) later
      own = ap (λ (x : Bool). cond x (gap_told 0 (cut_of m.end) ++ gaps_from b r (since_told 0 made (cut_of m.end)) later)
          (gaps_from b r 0 later)) on

      counted : length t.calls ≡ made
      counted =
          calls-told world_listener (cut_of m.end) (is_last job left) (block_limit b) w (message_of b job left)
          ∙ ap (λ (x : Bool). calls_told x t.end (length t.bytes)) (sym (last-told past steps job left m next tells))
          ∙ ap (λ (e : End). calls_told (is_last_told m) e (length t.bytes)) (sym tells.end_told)
          ∙ ap (λ (xs : List ℕ). calls_told (is_last_told m) m.end (length xs)) (sym tells.bytes_told)

      whole : t ≡ all → IsBy t.calls (gap_told 0 (cut_of m.end) ++ gaps_from b r (since_told 0 made (cut_of m.end)) later)
          (gaps_from b r 0 later)
      whole same =
          let none : cut_of m.end ≡ None = ap cut_of (tells.end_told ∙ ap (λ (x : TalkTold World). x.end) same)
          ∙ own_cut all.end front.own_end in
          let calls : t.calls ≡ front.more = ap (λ (x : TalkTold World). x.calls) same ∙ front.grown ∙ append-nil front.more in
          subst (λ (o : Option ℕ). IsBy t.calls (gap_told 0 o ++ gaps_from b r (since_told 0 made o) later) (gaps_from b r 0 later))
          (sym none)
          (went-on b r later t.calls made counted (subst (λ (xs : List PortCall). AllByRecursion Went xs) (sym calls) front.went))

      broke : BreaksOff (cut_of m.end) [] front.more t → IsBy t.calls (gap_told 0 (cut_of m.end) ++ gaps_from b r
          (since_told 0 made (cut_of m.end)) later) (gaps_from b r 0 later)
      broke broken =
          let calls : t.calls ≡ call.Fault ∷ broken.own = broken.said ∙ ap (λ (xs : List PortCall). call.Fault ∷ xs)
          (append-nil broken.own) in
          let place : length (broken.own ++ []) ≡ broken.place = broken.counted in
          let same : length (broken.own ++ []) ≡ length broken.own = ap (λ (xs : List PortCall). length xs) (append-nil broken.own) in
          let gap : length broken.own ≡ 0 + broken.place = omega (arith, place, same) in
          let went : AllByRecursion Went broken.own = (went-older broken.later (broken.next ∷ broken.own)
          (subst (λ (xs : List PortCall). AllByRecursion Went xs) broken.whole_is front.went)).1 in
          subst (λ (o : Option ℕ). IsBy t.calls (gap_told 0 o ++ gaps_from b r (since_told 0 made o) later) (gaps_from b r 0 later))
          (sym broken.cut_is)
          (subst (λ (xs : List PortCall). IsBy xs ((0 + broken.place) ∷ gaps_from b r 0 later) (gaps_from b r 0 later)) (sym calls)
          (subst (λ (g : ℕ). IsBy (call.Fault ∷ broken.own) (g ∷ gaps_from b r 0 later) (gaps_from b r 0 later)) gap
          (broken-by broken.own (gaps_from b r 0 later) went)))

  -- the call of a line step
  line-by : (job : Job) (c mux level : ℕ) (failed : Bool) (r : ℕ) → is_on_root b r (entry.Line c mux level failed) ≡ true
      → (later : List Entry)
      → IsBy (line_call job failed ∷ []) (gaps_from b r 0 (entry.Line c mux level failed ∷ later)) (gaps_from b r 0 later)
  line-by job c mux level true r on later =
      subst (λ (gs : List ℕ). IsBy (line_call job true ∷ []) gs (gaps_from b r 0 later))
      (sym (ap (λ (x : Bool). cond x ((0 + 0) ∷ gaps_from b r 0 later) (gaps_from b r 0 later)) on))
      (broken-by [] (gaps_from b r 0 later) tt)
  line-by job c mux level false r on later =
      subst (λ (gs : List ℕ). IsBy (line_call job false ∷ []) gs (gaps_from b r 0 later))
      (sym (ap (λ (x : Bool). cond x (gaps_from b r (0 + 1) later) (gaps_from b r 0 later)) on))
      (went-on b r later (line_call job false ∷ []) 1 refl (
        λ f. (let g : call.Line (line_mux job) (line_level job) ≡ call.Fault = f in cc),
        tt,
      ))

  -- WHAT AN ENTRY ADDS to the log of a root
  record Adds (past : List Entry) (e : Entry) (later : List Entry) (r : ℕ) : Type 0 where
    new : List PortCall
    calls : (now b asks (e ∷ past)).calls r ≡ new ++ (now b asks past).calls r
    by : IsBy new (gaps_from b r 0 (e ∷ later)) (gaps_from b r 0 later)

  -- the calls of an entry at one root
  adds-at : (past : List Entry) (e : Entry) (later : List Entry) (r root at : ℕ) (made : List PortCall) → is_on_root b r e ≡ (root == r)
      → at ≡ root → (now b asks (e ∷ past)).calls r ≡ changed_at (now b asks past).calls at (made ++ (now b asks past).calls at) r
      → (is_on_root b r e ≡ true → IsBy made (gaps_from b r 0 (e ∷ later)) (gaps_from b r 0 later)) → Adds past e later r
  adds-at past e later r root at made on_root root_is called own =
      elim (eqb_tells root r) [
        | inl h ↦ record {
          new = made;
          calls = called ∙ subst (λ (k : ℕ). changed_at n.calls at (made ++ n.calls at) k ≡ made ++ n.calls k) (root_is ∙ h.1)
              (at_same n.calls at (made ++ n.calls at));
          by = own (on_root ∙ h.0);
        }
        | inr h ↦ record {
          new = [];
          calls = called ∙ at_other n.calls at (made ++ n.calls at) r (λ same. h.1 (sym root_is ∙ sym same));
          by = subst (λ (gs : List ℕ). IsBy [] gs (gaps_from b r 0 later))
              (sym (ap (λ (t : Bool). cond t (gap_told 0 (call_failed e) ++ gaps_from b r (since_told 0 (calls_made e)
              (call_failed e)) later)
              (gaps_from b r 0 later)) (on_root ∙ h.0)))
              (none-by (gaps_from b r 0 later));
        }
      ]
    where
      n : Now
      n = now b asks past

  adds : (past : List Entry) → IsStepwise b callers asks past → (e : Entry) → May b callers asks (now b asks past) e
      → (later : List Entry) (r : ℕ)
      → Adds past e later r
  adds past steps (entry.Take c l) may later r = record { new = []; calls = refl; by = none-by (gaps_from b r 0 later) }
  adds past steps (entry.Free c l) may later r = record { new = []; calls = refl; by = none-by (gaps_from b r 0 later) }
  adds past steps (entry.Settle c x cut) may later r = record { new = []; calls = refl; by = none-by (gaps_from b r 0 later) }
  adds past steps (entry.Message c bus why part parts addr reading bytes heard x) may later r =
      adds-at past (entry.Message c bus why part parts addr reading bytes heard x) later r (root_of b bus) (root_of b (job_bus job))
      (talk_of b n job left x).calls refl root_is sent (λ on. talk-by past steps job left _ may.2.2 may.2.3 r on later)
    where
      n : Now
      n = now b asks past

      e : Entry
      e = entry.Message c bus why part parts addr reading bytes heard x

      job : Job
      job = may.2.0

      left : ℕ
      left = may.2.1

      root_is : root_of b (job_bus job) ≡ root_of b bus
      root_is = ap (λ (i : ℕ). root_of b i) (sym may.2.3.on_bus)

      sent : (now b asks (e ∷ past)).calls r
          ≡ changed_at n.calls (root_of b (job_bus job)) ((talk_of b n job left x).calls ++ n.calls (root_of b (job_bus job))) r
      sent = ap (λ (o : Option Act). (sent_by b n c o (first_note (current b asks n c)) reading bytes x).calls r) may.2.2
  adds past steps (entry.Line c mux level failed) may later r =
      adds-at past (entry.Line c mux level failed) later r (root_of b (home_of_mux b mux)) (root_of b (job_bus job))
      (line_call job failed ∷ []) refl root_is lined (λ on. line-by job c mux level failed r on later)
    where
      n : Now
      n = now b asks past

      e : Entry
      e = entry.Line c mux level failed

      job : Job
      job = may.2.0

      root_is : root_of b (job_bus job) ≡ root_of b (home_of_mux b mux)
      root_is = sym (line_root b tree plain lines asks some callers past steps c r c job may.2.1)
          ∙ ap (λ (m : ℕ). root_of b (home_of_mux b m)) (sym may.2.2.of_mux)

      lined : (now b asks (e ∷ past)).calls r ≡ changed_at n.calls (root_of b (job_bus job))
          (line_call job failed ∷ n.calls (root_of b (job_bus job))) r
      lined = ap (λ (o : Option Act). (lined_by b n o (first_note (current b asks n c)) failed).calls r) may.2.1

  told-by : (past later : List Entry) → IsStepwise b callers asks past → (r : ℕ)
      → IsBy ((now b asks past).calls r) (gaps_told b (reverse past ++ later) r) (gaps_from b r 0 later)
  told-by [] later steps r = none-by (gaps_from b r 0 later)
  told-by (e ∷ past) later steps r =
      let more = adds past steps.1 e steps.0 later r in
      let before = told-by past (e ∷ later) steps.1 r in
      let same : reverse past ++ e ∷ later ≡ reverse (e ∷ past) ++ later =
      sym (ap (λ (xs : List Entry). xs ++ later) (reverse-cons e past) ∙ append_assoc (reverse past) (e ∷ []) later) in
      subst (λ (cs : List PortCall). IsBy cs (gaps_told b (reverse (e ∷ past) ++ later) r) (gaps_from b r 0 later)) (sym more.calls)
      (subst (λ (es : List Entry). IsBy (more.new ++ (now b asks past).calls r) (gaps_told b es r) (gaps_from b r 0 later)) same
      (both-by more.new ((now b asks past).calls r) (gaps_told b (reverse past ++ e ∷ later) r) (gaps_from b r 0 (e ∷ later))
      (gaps_from b r 0 later) before more.by))

  pub fail-as-told : (past later : List Entry) → IsStepwise b callers asks past → FailBy b asks (gaps_told b (reverse past ++ later)) past
  fail-as-told past later steps = λ r n low.
      (told-by past later steps r).numbers n (omega (arith, low, length-reverse ((now b asks past).calls r)))
