-- Two entries of one caller that may come at the same place are the same, where the same calls of the ports fail in what
-- comes of them. No induction.
use Rattle.journal_laws.proofs.Cited.{◌≡◌, ℕ, zero, suc, ◌+◌, ◌<◌, Bool, true, false, List, [], ◌∷◌, ◌++◌, length, length-append}
use Rattle.journal_laws.proofs.Cited.{append-nil, append_assoc, Option, Some, None, refl, sym, ◌∙◌, ap, subst, inl, inr, arith}
use Rattle.journal_laws.proofs.Cited.{AllByRecursion, eqb_tells, leb_tells, Node, End, Entry, PortCall, BoardView, root_of, MessageView}
use Rattle.journal_laws.proofs.Cited.{World, TalkTold, world_listener, talk, block_limit, Asks, Job, Act, Take, Free, Send, Shift, Settle}
use Rattle.journal_laws.proofs.Cited.{job_bus, message_of, is_last, line_mux, line_level, first_act, first_note, MessageEntry, caller_of}
use Rattle.journal_laws.proofs.Cited.{Now, current, step, cut_of, talk_of, line_call, sent_by, lined_by, heard_list, HearsIn, TellsMessage}
use Rattle.journal_laws.proofs.Cited.{May, IsNext, reply_by, at_same, Does, does-next}
use Rattle.i2c_base.specs.declared.entry.End.TheVariants as end
use Rattle.i2c_base.specs.declared.entry.Entry.TheVariants as entry
use Rattle.i2c_base.specs.declared.port.PortCall.TheVariants as call
use Rattle.journal_laws.proofs.past.CutTalks.{Went, BreaksOff, IsFront, talk-front}
use Rattle.journal_laws.proofs.past.Failures.{number_of, number-older, number-of, none-failed, went-older}
use Rattle.bus_laws.proofs.past.Known.{message_entry}

-- in the logs that come of an entry a call of this root failed, and so it did in others, where it was made
abbrev pub Logs : Type 0
Logs = ℕ → List PortCall

abbrev pub FailIn : Logs → Logs → Type 0
FailIn logs others =
    (r n : ℕ) → n < length (others r) → number_of (logs r) n ≡ Some call.Fault → number_of (others r) n ≡ Some call.Fault

-- the logs of an entry go on from where it leaves them
abbrev pub GoOnFrom : (ℕ → List PortCall) → Logs → Type 0
GoOnFrom calls logs = (r : ℕ) → (more : List PortCall) × (logs r ≡ more ++ calls r)

-- A MESSAGE that broke off, beside the same one: a call of it failed that went in the other, unless that broke off before
module _ (w : World) (limit : ℕ) (m : MessageView) (last : Bool) where
  abbrev said : Option ℕ → TalkTold World
  said cut = talk world_listener limit w m last cut

  -- the place is one of the whole message's calls
  place_within : (cut : Option ℕ) (f : IsFront cut [] (said cut) (said None)) (broken : BreaksOff cut [] f.more (said cut))
      → broken.place < length f.more
  place_within cut f broken =
      let own : length (broken.own ++ []) ≡ broken.place = broken.counted in
      let same : length (broken.own ++ []) ≡ length broken.own = ap (λ (xs : List PortCall). length xs) (append-nil broken.own) in
      let all : length f.more ≡ length (broken.later ++ broken.next ∷ broken.own) = ap
      (λ (xs : List PortCall). length xs) broken.whole_is in
      omega (arith, own, same, all, length-append broken.later (broken.next ∷ broken.own))

  -- its failed call, by its number
  fault_at : (cut : Option ℕ) (f : IsFront cut [] (said cut) (said None)) (broken : BreaksOff cut [] f.more (said cut))
      (more before log : List PortCall)
      → log ≡ more ++ ((said cut).calls ++ before) → number_of log (broken.place + length before) ≡ Some call.Fault
  fault_at cut f broken more before log is =
      let own : length (broken.own ++ []) ≡ broken.place = broken.counted in
      let all : length ((broken.own ++ []) ++ before) ≡ length (broken.own ++ []) + length before = length-append
      (broken.own ++ []) before in
      ap (λ (xs : List PortCall). number_of xs (broken.place + length before)) (is
      ∙ ap (λ (cs : List PortCall). more ++ (cs ++ before)) broken.said)
      ∙ number-older more (call.Fault ∷ ((broken.own ++ []) ++ before)) (broken.place + length before) (omega (arith, own, all))
      ∙ number-of call.Fault ((broken.own ++ []) ++ before) (broken.place + length before) (omega (arith, own, all))

  -- the calls up to it were made, and so was each of the whole message
  made_up_to : (cut : Option ℕ) (f : IsFront cut [] (said cut) (said None)) (broken : BreaksOff cut [] f.more (said cut))
      (more before log : List PortCall) → log ≡ more ++ ((said cut).calls ++ before) → (place : ℕ) → place < broken.place
      → place + length before < length log
  made_up_to cut f broken more before log is place low =
      let own : length (broken.own ++ []) ≡ broken.place = broken.counted in
      let all : length log ≡ length (more ++ (call.Fault ∷ ((broken.own ++ []) ++ before))) = ap (λ (xs : List PortCall). length xs)
      (is ∙ ap (λ (cs : List PortCall). more ++ (cs ++ before)) broken.said) in
      omega (arith, low, own, all, length-append more (call.Fault ∷ ((broken.own ++ []) ++ before)), length-append (broken.own ++ []) before)

  made_whole : (cut : Option ℕ) (f : IsFront cut [] (said cut) (said None)) → said cut ≡ said None → (more before log : List PortCall)
      → log ≡ more ++ ((said cut).calls ++ before) → (place : ℕ) → place < length f.more → place + length before < length log
  made_whole cut f same more before log is place low =
      let calls : (said cut).calls ≡ f.more = ap (λ (t : TalkTold World). t.calls) same ∙ f.grown ∙ append-nil f.more in
      let all : length log ≡ length (more ++ (f.more ++ before)) = ap (λ (xs : List PortCall). length xs)
      (is ∙ ap (λ (cs : List PortCall). more ++ (cs ++ before)) calls) in
      omega (arith, low, all, length-append more (f.more ++ before), length-append f.more before)

  -- a call before the failed one went, and so did each of the whole message
  went_whole : (cut : Option ℕ) (f : IsFront cut [] (said cut) (said None)) → said cut ≡ said None → (more before log : List PortCall)
      → log ≡ more ++ ((said cut).calls ++ before) → (place : ℕ) → place < length f.more
      → number_of log (place + length before) ≡ Some call.Fault → ⊥
  went_whole cut f same more before log is place low failed =
      let calls : (said cut).calls ≡ f.more = ap (λ (t : TalkTold World). t.calls) same ∙ f.grown ∙ append-nil f.more in
      let log_is : log ≡ more ++ (f.more ++ before) = is ∙ ap (λ (cs : List PortCall). more ++ (cs ++ before)) calls in
      none-failed f.more before (place + length before) f.went (omega arith) (omega (arith, low))
      (sym (number-older more (f.more ++ before) (place + length before) (omega (arith, low, length-append f.more before)))
      ∙ ap (λ (xs : List PortCall). number_of xs (place + length before)) (sym log_is) ∙ failed)

  went_before : (cut : Option ℕ) (f : IsFront cut [] (said cut) (said None)) (broken : BreaksOff cut [] f.more (said cut))
      (more before log : List PortCall)
      → log ≡ more ++ ((said cut).calls ++ before) → (place : ℕ) → place < broken.place
      → number_of log (place + length before) ≡ Some call.Fault → ⊥
  went_before cut f broken more before log is place low failed =
      let own : length (broken.own ++ []) ≡ broken.place = broken.counted in
      let same : length (broken.own ++ []) ≡ length broken.own = ap (λ (xs : List PortCall). length xs) (append-nil broken.own) in
      let went : AllByRecursion Went broken.own =
      (went-older broken.later (broken.next ∷ broken.own)
      (subst (λ (xs : List PortCall). AllByRecursion Went xs) broken.whole_is f.went)).1 in
      let log_is : log ≡ (more ++ call.Fault ∷ []) ++ (broken.own ++ before) =
      is ∙ ap (λ (cs : List PortCall). more ++ (cs ++ before)) (broken.said
      ∙ ap (λ (xs : List PortCall). call.Fault ∷ xs) (append-nil broken.own))
      ∙ sym (append_assoc more (call.Fault ∷ []) (broken.own ++ before)) in
      none-failed broken.own before (place + length before) went (omega arith) (omega (arith, low, own, same))
      (sym (number-older (more ++ call.Fault ∷ []) (broken.own ++ before) (place + length before)
      (omega (arith, low, own, same, length-append broken.own before)))
      ∙ ap (λ (xs : List PortCall). number_of xs (place + length before)) (sym log_is) ∙ failed)

  -- so both end alike
  module _ (one two : Option ℕ) (more1 more2 before log1 log2 : List PortCall) (is1 : log1 ≡ more1 ++ ((said one).calls ++ before))
      (is2 : log2 ≡ more2 ++ ((said two).calls ++ before))
      (there : (n : ℕ) → n < length log2 → number_of log1 n ≡ Some call.Fault → number_of log2 n ≡ Some call.Fault) (back : (n : ℕ)
      → n < length log1 → number_of log2 n ≡ Some call.Fault → number_of log1 n ≡ Some call.Fault) where
    f1 : IsFront one [] (said one) (said None)
    f1 = talk-front world_listener one limit w m last

    f2 : IsFront two [] (said two) (said None)
    f2 = talk-front world_listener two limit w m last

    both_broken : BreaksOff one [] f1.more (said one) → BreaksOff two [] f2.more (said two) → said one ≡ said two
    both_broken b1 b2 =
        elim (eqb_tells b1.place b2.place) [
          | inl h ↦ ap said (b1.cut_is ∙ ap Some h.1 ∙ sym b2.cut_is)
          | inr h ↦ elim (leb_tells b1.place b2.place) [
            | inl low ↦ absurd (let apart : b1.place ≡ b2.place → ⊥ = h.1 in
                let sooner : b1.place < b2.place = omega (arith, low.1, apart) in
                went_before two f2 b2 more2 before log2 is2 b1.place sooner
                (there (b1.place + length before) (made_up_to two f2 b2 more2 before log2 is2 b1.place sooner)
                (fault_at one f1 b1 more1 before log1 is1)))
            | inr high ↦ absurd (went_before one f1 b1 more1 before log1 is1 b2.place high.1
                (back (b2.place + length before) (made_up_to one f1 b1 more1 before log1 is1 b2.place high.1)
                (fault_at two f2 b2 more2 before log2 is2)))
          ]
        ]

    -- both are the fronts of the same whole message
    more_same : f1.more ≡ f2.more
    more_same = sym (append-nil f1.more) ∙ sym f1.grown ∙ f2.grown ∙ append-nil f2.more

    pub said_alike : said one ≡ said two
    said_alike =
        elim f1.either [
          | inl w1 ↦ elim f2.either [
            | inl w2 ↦ w1 ∙ sym w2
            | inr b2 ↦ absurd (let within : b2.place < length f2.more = place_within two f2 b2 in
                let same : length f1.more ≡ length f2.more = ap (λ (xs : List PortCall). length xs) more_same in
                let low : b2.place < length f1.more = omega (arith, within, same) in
                went_whole one f1 w1 more1 before log1 is1 b2.place low
                (back (b2.place + length before) (made_whole one f1 w1 more1 before log1 is1 b2.place low)
                (fault_at two f2 b2 more2 before log2 is2)))
          ]
          | inr b1 ↦ elim f2.either [
            | inl w2 ↦ absurd (let within : b1.place < length f1.more = place_within one f1 b1 in
                let same : length f1.more ≡ length f2.more = ap (λ (xs : List PortCall). length xs) more_same in
                let low : b1.place < length f2.more = omega (arith, within, same) in
                went_whole two f2 w2 more2 before log2 is2 b1.place low
                (there (b1.place + length before) (made_whole two f2 w2 more2 before log2 is2 b1.place low)
                (fault_at one f1 b1 more1 before log1 is1)))
            | inr b2 ↦ both_broken b1 b2
          ]
        ]

-- who has heard a message is told by its world
listed_same : (x y : Option Node) → heard_list x ≡ heard_list y → x ≡ y
listed_same None None e = refl
listed_same None (Some y) e = absurd (let f : [] ≡ y ∷ [] = e in cc)
listed_same (Some x) None e = absurd (let f : x ∷ [] ≡ [] = e in cc)
listed_same (Some x) (Some y) e = (let f : x ∷ [] ≡ y ∷ [] = e in let g : x ≡ y = cc in ap Some g)

heard_same : (w : World) (addr : ℕ) (reading : Bool) (x y : Option Node) (e : End) → HearsIn w addr reading x e → HearsIn w addr reading y e
    → x ≡ y
heard_same w addr reading x y (end.Cut zero) hx hy = hx ∙ sym hy
heard_same w addr reading x y (end.Cut (suc q)) hx hy = listed_same x y (sym hx ∙ hy)
heard_same w addr reading x y end.Ok hx hy = listed_same x y (sym hx ∙ hy)
heard_same w addr reading x y end.Nack hx hy = listed_same x y (sym hx ∙ hy)
heard_same w addr reading x y end.Slow hx hy = listed_same x y (sym hx ∙ hy)
heard_same w addr reading x y end.Refused hx hy = listed_same x y (sym hx ∙ hy)
heard_same w addr reading x y end.Proto hx hy = listed_same x y (sym hx ∙ hy)

module _ (b : BoardView) (asks : Asks) (n : Now) where
  -- the calls that a message and a line step add to the log of their root
  sent_calls : (job : Job) (left : ℕ) (m : MessageEntry) → IsNext b asks n m.caller (Send job left)
      → (step b asks n (message_entry m)).calls (root_of b (job_bus job)) ≡ (talk_of b n job left m.end).calls ++ n.calls
      (root_of b (job_bus job))
  sent_calls job left m next =
      ap (λ (o : Option Act). (sent_by b n m.caller o (first_note (current b asks n m.caller)) m.reading m.bytes m.end).calls
      (root_of b (job_bus job))) next
      ∙ at_same n.calls (root_of b (job_bus job)) ((talk_of b n job left m.end).calls ++ n.calls (root_of b (job_bus job)))

  lined_calls : (job : Job) (c : ℕ) (mux level : ℕ) (failed : Bool) → IsNext b asks n c (Shift job)
      → (step b asks n (entry.Line c mux level failed)).calls (root_of b (job_bus job)) ≡ line_call job failed ∷ n.calls
      (root_of b (job_bus job))
  lined_calls job c mux level failed next =
      ap (λ (o : Option Act). (lined_by b n o (first_note (current b asks n c)) failed).calls (root_of b (job_bus job))) next
      ∙ at_same n.calls (root_of b (job_bus job)) (line_call job failed ∷ n.calls (root_of b (job_bus job)))

  -- the fields of a message are those of its step
  module _ (job : Job) (left : ℕ) (m1 m2 : MessageEntry) (t1 : TellsMessage b n job left m1) (t2 : TellsMessage b n job left m2)
      (own : m1.caller ≡ m2.caller)
      (alike : talk_of b n job left m1.end ≡ talk_of b n job left m2.end) where
    ends_same : m1.end ≡ m2.end
    ends_same = t1.end_told ∙ ap (λ (t : TalkTold World). t.end) alike ∙ sym t2.end_told

    addr_same : m1.addr ≡ m2.addr
    addr_same = t1.to_addr ∙ sym t2.to_addr

    reading_same : m1.reading ≡ m2.reading
    reading_same = t1.in_direction ∙ sym t2.in_direction

    told_same : m1.heard ≡ m2.heard
    told_same =
        heard_same (n.worlds (root_of b (job_bus job))) m2.addr m2.reading m1.heard m2.heard m2.end
        (subst (λ (a : ℕ). HearsIn (n.worlds (root_of b (job_bus job))) a m2.reading m1.heard m2.end) addr_same
        (subst (λ (r : Bool). HearsIn (n.worlds (root_of b (job_bus job))) m1.addr r m1.heard m2.end) reading_same
        (subst (λ (e : End). HearsIn (n.worlds (root_of b (job_bus job))) m1.addr m1.reading m1.heard e) ends_same t1.heard_told)))
        t2.heard_told

    messages_same : message_entry m1 ≡ message_entry m2
    messages_same =
        let bus : m1.bus ≡ m2.bus = t1.on_bus ∙ sym t2.on_bus in
        let why : m1.purpose ≡ m2.purpose = t1.for_purpose ∙ sym t2.for_purpose in
        let part : m1.part ≡ m2.part = t1.as_part ∙ sym t2.as_part in
        let parts : m1.parts ≡ m2.parts = t1.of_parts ∙ sym t2.of_parts in
        let addr : m1.addr ≡ m2.addr = addr_same in
        let reading : m1.reading ≡ m2.reading = reading_same in
        let bytes : m1.bytes ≡ m2.bytes = t1.bytes_told ∙ ap (λ (t : TalkTold World). t.bytes) alike ∙ sym t2.bytes_told in
        let heard : m1.heard ≡ m2.heard = told_same in
        let ends : m1.end ≡ m2.end = ends_same in
        let own_is : m1.caller ≡ m2.caller = own in
        cc

  -- a line step that failed is a call that failed
  line_number : (job : Job) (failed : Bool) (more before log : List PortCall) → log ≡ more ++ (line_call job failed ∷ before)
      → number_of log (length before) ≡ Some (line_call job failed)
  line_number job failed more before log is =
      ap (λ (xs : List PortCall). number_of xs (length before)) is
      ∙ number-older more (line_call job failed ∷ before) (length before) (omega arith)
      ∙ number-of (line_call job failed) before (length before) refl

  line_made : (job : Job) (failed : Bool) (more before log : List PortCall) → log ≡ more ++ (line_call job failed ∷ before)
      → length before < length log
  line_made job failed more before log is =
      let all : length log ≡ length (more ++ (line_call job failed ∷ before)) = ap (λ (xs : List PortCall). length xs) is in
      omega (arith, all, length-append more (line_call job failed ∷ before))

  lines_alike : (job : Job) (f1 f2 : Bool) (more1 more2 before log1 log2 : List PortCall) → log1 ≡ more1 ++ (line_call job f1 ∷ before)
      → log2 ≡ more2 ++ (line_call job f2 ∷ before)
      → ((k : ℕ) → k < length log2 → number_of log1 k ≡ Some call.Fault → number_of log2 k ≡ Some call.Fault)
      → ((k : ℕ) → k < length log1 → number_of log2 k ≡ Some call.Fault → number_of log1 k ≡ Some call.Fault) → f1 ≡ f2
  lines_alike job true true more1 more2 before log1 log2 is1 is2 there back = refl
  lines_alike job false false more1 more2 before log1 log2 is1 is2 there back = refl
  lines_alike job true false more1 more2 before log1 log2 is1 is2 there back =
      absurd (let f : Some (line_call job false) ≡ Some call.Fault = sym (line_number job false more2 before log2 is2)
      ∙ there (length before) (line_made job false more2 before log2 is2) (line_number job true more1 before log1 is1) in cc)
  lines_alike job false true more1 more2 before log1 log2 is1 is2 there back =
      absurd (let f : Some (line_call job false) ≡ Some call.Fault = sym (line_number job false more1 before log1 is1)
      ∙ back (length before) (line_made job false more1 before log1 is1) (line_number job true more2 before log2 is2) in cc)

  -- ONE STEP
  module _ (callers : ℕ) (e1 e2 : Entry) (may1 : May b callers asks n e1) (may2 : May b callers asks n e2)
      (own : caller_of e1 ≡ caller_of e2) (logs1 logs2 : Logs)
      (from1 : GoOnFrom (step b asks n e1).calls logs1) (from2 : GoOnFrom (step b asks n e2).calls logs2) (there : FailIn logs1 logs2)
      (back : FailIn logs2 logs1) where
    by_act : (act : Act) → IsNext b asks n (caller_of e1) act → Does b asks n act e1 → Does b asks n act e2 → e1 ≡ e2
    by_act (Take l) next d1 d2 = d1 ∙ ap (λ (c : ℕ). entry.Take c l) own ∙ sym d2
    by_act (Free l) next d1 d2 = d1 ∙ ap (λ (c : ℕ). entry.Free c l) own ∙ sym d2
    by_act (Settle verdict) next d1 d2 =
        d1 ∙ ap (λ (c : ℕ). entry.Settle c (reply_by verdict (asks c (n.settled c)) (n.got c)) (n.cut c)) own ∙ sym d2
    by_act (Shift job) next d1 d2 = lined d1.0 d2.0 d1.1 d2.1
      where
        lined : (f1 f2 : Bool) → e1 ≡ entry.Line (caller_of e1) (line_mux job) (line_level job) f1
            → e2 ≡ entry.Line (caller_of e2) (line_mux job) (line_level job) f2 → e1 ≡ e2
        lined f1 f2 is1 is2 =
            let r : ℕ = root_of b (job_bus job) in
            let g1 : (more : List PortCall) × (logs1 r ≡ more ++ (line_call job f1 ∷ n.calls r)) =
            (let g = from1 r in (
              g.0,
              g.1 ∙ ap (λ (e : Entry). g.0 ++ (step b asks n e).calls r) is1
                  ∙ ap (λ (cs : List PortCall). g.0 ++ cs) (lined_calls job (caller_of e1) (line_mux job) (line_level job) f1 next),
            )) in
            let g2 : (more : List PortCall) × (logs2 r ≡ more ++ (line_call job f2 ∷ n.calls r)) =
            (let g = from2 r in (
              g.0,
              g.1 ∙ ap (λ (e : Entry). g.0 ++ (step b asks n e).calls r) is2
                  ∙ ap (λ (cs : List PortCall). g.0 ++ cs)
                  (lined_calls job (caller_of e2) (line_mux job) (line_level job) f2
                  (subst (λ (c : ℕ). IsNext b asks n c (Shift job)) own next)),
            )) in
            let same : f1 ≡ f2 = lines_alike job f1 f2 g1.0 g2.0 (n.calls r) (logs1 r) (logs2 r) g1.1 g2.1 (there r) (back r) in
            is1 ∙ ap (λ (c : ℕ). entry.Line c (line_mux job) (line_level job) f1) own
            ∙ ap (entry.Line (caller_of e2) (line_mux job) (line_level job)) same ∙ sym is2
    by_act (Send job left) next d1 d2 = sent d1.0 d2.0 d1.1 d2.1 d1.2 d2.2
      where
        sent : (m1 m2 : MessageEntry) → e1 ≡ message_entry m1 → e2 ≡ message_entry m2 → TellsMessage b n job left m1
            → TellsMessage b n job left m2 → e1 ≡ e2
        sent m1 m2 is1 is2 t1 t2 =
            let r : ℕ = root_of b (job_bus job) in
            let c1 : caller_of e1 ≡ m1.caller = ap caller_of is1 in
            let c2 : caller_of e2 ≡ m2.caller = ap caller_of is2 in
            let next1 : IsNext b asks n m1.caller (Send job left) = subst (λ (c : ℕ). IsNext b asks n c (Send job left)) c1 next in
            let next2 : IsNext b asks n m2.caller (Send job left) = subst (λ (c : ℕ). IsNext b asks n c (Send job left)) (own ∙ c2) next in
            let g1 : (more : List PortCall) × (logs1 r ≡ more ++ ((talk_of b n job left m1.end).calls ++ n.calls r)) =
            (let g = from1 r in (
              g.0,
              g.1 ∙ ap (λ (e : Entry). g.0 ++ (step b asks n e).calls r) is1
                  ∙ ap (λ (cs : List PortCall). g.0 ++ cs) (sent_calls job left m1 next1),
            )) in
            let g2 : (more : List PortCall) × (logs2 r ≡ more ++ ((talk_of b n job left m2.end).calls ++ n.calls r)) =
            (let g = from2 r in (
              g.0,
              g.1 ∙ ap (λ (e : Entry). g.0 ++ (step b asks n e).calls r) is2
                  ∙ ap (λ (cs : List PortCall). g.0 ++ cs) (sent_calls job left m2 next2),
            )) in
            let alike : talk_of b n job left m1.end ≡ talk_of b n job left m2.end =
            said_alike (n.worlds r) (block_limit b) (message_of b job left) (is_last job left) (cut_of m1.end) (cut_of m2.end) g1.0 g2.0
            (n.calls r) (logs1 r) (logs2 r) g1.1 g2.1 (there r) (back r) in
            is1 ∙ messages_same job left m1 m2 t1 t2 (sym c1 ∙ own ∙ c2) alike ∙ sym is2

    pub one-entry : e1 ≡ e2
    one-entry =
        let d1 = does-next b callers asks n e1 may1 in
        let d2 = does-next b callers asks n e2 may2 in
        let f : Some d2.0 ≡ Some d1.0 = sym d2.1 ∙ ap (λ (c : ℕ). first_act (current b asks n c)) (sym own) ∙ d1.1 in
        let acts : d2.0 ≡ d1.0 = cc in
        by_act d1.0 d1.1 d1.2 (subst (λ (act : Act). Does b asks n act e2) acts d2.2)
