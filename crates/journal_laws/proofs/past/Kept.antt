-- The channel that a mux keeps is the one that its last message or line step tells by its own byte or level, where the mux
-- isn't marked; and a close leaves none. The inductions go over the channels of a mux, and over the entries.
use Rattle.journal_laws.proofs.Cited.{◌≡◌, ℕ, zero, suc, ◌+◌, ◌<◌, ◌≤◌, ◌≢◌, Bool, true, false, cond, not, ◌&&◌, eqb, List, [], ◌∷◌, Option}
use Rattle.journal_laws.proofs.Cited.{Some, None, refl, sym, ◌∙◌, ap, subst, ◌⊎◌, inl, inr, arith, slice_get, range_with_len, eqb_tells}
use Rattle.journal_laws.proofs.Cited.{MuxSpec, MuxKind, LockId, End, Entry, Purpose, BoardView, TransferView, Hop, root_of, home_of_mux}
use Rattle.journal_laws.proofs.Cited.{IsTree, IsHop, IsPlainBoard, world_listener, is_good, block_limit, Asks, Mark, Job, Call, Select}
use Rattle.journal_laws.proofs.Cited.{SwitchOff, Off, off_bus, off_mux, Act, Send, Shift, Sent, Lined, Note, job_bus, job_purpose}
use Rattle.journal_laws.proofs.Cited.{message_of, is_last, is_arbitrator, line_mux, line_level, Slots, At, MuxSlot, Clean, Marked, turned}
use Rattle.journal_laws.proofs.Cited.{set_marks, polled_slot, after_job, first_note, Now, current, now, kept_channel, cut_of, sent_by}
use Rattle.journal_laws.proofs.Cited.{lined_by, channel_opened, channel_written, switches, kept_left, is_cut, IsStepwise, IsOfMux}
use Rattle.journal_laws.proofs.Cited.{FindsSelect, MayFail, MaySend, MayShift, LinesAreLocked, AsksForMessages, talk-writes, sends, shifts}
use Rattle.std.specs.Prelude.{unwrap_or}
use Rattle.std.specs.List.{position_from}
use Rattle.std.specs.Option.{option_map}
use Rattle.i2c_base.specs.declared.entry.End.TheVariants as end
use Rattle.i2c_base.specs.declared.entry.Entry.TheVariants as entry
use Rattle.i2c_base.specs.Muxes.{facts_of}
use Rattle.i2c_spec.specs.Tree.{of_mux}
use Rattle.i2c_spec.specs.Chips.{opens, select_value, close_value}
use Rattle.bus_laws.specs.Runs.{HeadsMarks}
use Rattle.bus_laws.proofs.tree.Slots.{turned-same, turned-other, set_marks-head}
use Rattle.bus_laws.proofs.world.BoardFacts.{mux_at, has_channel}
use Rattle.bus_laws.proofs.world.ChipLaws.{OpensOne, value_opens, shut_at_zero}
use Rattle.bus_laws.proofs.world.Sends.{own_select, own_open}
use Rattle.bus_laws.proofs.world.Slots.{kept_own, kept_other, of_marked, set_marks-only}
use Rattle.journal_laws.specs.Faulty.{SwitchesOff, HasSwitchedOff}

-- THE FIRST CHANNEL that is open: the only one, or none
first_is : (test : ℕ → Bool) (n i c : ℕ) → i ≤ c → c < i + n → test c ≡ true → ((d : ℕ) → test d ≡ true → c ≡ d)
    → position_from test i (range_with_len i n) ≡ Some c
first_is test zero i c low high here only = absurd (omega (arith, low, high))
first_is test (suc n) i c low high here only =
    elim (eqb_tells i c) [
      | inl same ↦ ap (λ (t : Bool). cond t (Some i) (position_from test (i + 1) (range_with_len (i + 1) n))) (ap test same.1 ∙ here)
          ∙ ap Some same.1
      | inr other ↦ (let ne : i ≢ c = other.1 in
          by (test i) refl ne (first_is test n (i + 1) c (omega (arith, low, ne)) (omega (arith, high)) here only))
    ]
  where
    by : (t : Bool) → test i ≡ t → i ≢ c → position_from test (i + 1) (range_with_len (i + 1) n) ≡ Some c
        → cond (test i) (Some i) (position_from test (i + 1) (range_with_len (i + 1) n)) ≡ Some c
    by true e ne rest = absurd (ne (sym (only i e)))
    by false e ne rest = ap (λ (t : Bool). cond t (Some i) (position_from test (i + 1) (range_with_len (i + 1) n))) e ∙ rest

first_none : (test : ℕ → Bool) (n i : ℕ) → ((d : ℕ) → test d ≡ false) → position_from test i (range_with_len i n) ≡ None
first_none test zero i shut = refl
first_none test (suc n) i shut =
    ap (λ (t : Bool). cond t (Some i) (position_from test (i + 1) (range_with_len (i + 1) n))) (shut i) ∙ first_none test n (i + 1) shut

-- what a select writes opens its channel, what a close writes opens none
pub select_channel : (b : BoardView) → IsPlainBoard b → (h : Hop) → IsHop b h → h.channel < of_mux (λ m. m.channels) 0 b h.mux
    → channel_opened b h.mux (select_value h.kind h.channel) ≡ Some h.channel
select_channel b plain h hop within =
    let s = mux_at b h.mux h.kind hop.kind in
    let value : ℕ = select_value h.kind h.channel in
    let alone : OpensOne _ h.channel = value_opens h.kind h.channel (has_channel b plain h hop within) in
    let few : h.channel < s.0.channels = subst (λ (n : ℕ). h.channel < n)
    (ap (λ (o : Option MuxSpec). unwrap_or (option_map (λ (x : MuxSpec). x.channels) o) 0) s.1) within in
    ap (λ (o : Option MuxSpec). unwrap_or
    (option_map (λ (x : MuxSpec). position_from (opens x.kind value) 0 (range_with_len 0 x.channels)) o) None) s.1
    ∙ ap (λ (k : MuxKind). position_from (opens k value) 0 (range_with_len 0 s.0.channels)) s.2
    ∙ first_is (opens h.kind value) s.0.channels 0 h.channel (omega arith) (omega (arith, few)) alone.opened alone.only

pub close_channel : (b : BoardView) (m : ℕ) → channel_opened b m close_value ≡ None
close_channel b m = by (slice_get b.muxes m)
  where
    by : (o : Option MuxSpec) → unwrap_or
        (option_map (λ (x : MuxSpec). position_from (opens x.kind close_value) 0 (range_with_len 0 x.channels)) o) None ≡ None
    by None = refl
    by (Some x) = first_none (opens x.kind close_value) x.channels 0 (λ d. shut_at_zero (facts_of x.kind).code d)

-- ONE STEP of mux k on a bus, which tells this of each mux that it switches
abbrev Reads : BoardView → Slots → (ℕ → Option ℕ) → ℕ → Type 0
Reads b v told m = ((v (home_of_mux b m)).slot ≡ Marked m) ⊎ ((v (home_of_mux b m)).kept m ≡ told m)

abbrev after_told : ℕ → (ℕ → Option ℕ) → (ℕ → Option ℕ) → ℕ → Option ℕ
after_told k new old m = cond (eqb k m) (new m) (old m)

module _ (b : BoardView) (v : Slots) (k on : ℕ) (home : home_of_mux b k ≡ on) (own : IsOfMux k (v on).slot)
    (new old : ℕ → Option ℕ) (so : (m : ℕ) → Reads b v old m) where
  told_own : after_told k new old k ≡ new k
  told_own = elim (eqb_tells k k) [
    | inl h ↦ ap (λ (t : Bool). cond t (new k) (old k)) h.0
    | inr h ↦ absurd (h.1 refl)
  ]

  -- it turns its mux
  turned-reads : (s : MuxSlot) (c : Option ℕ) → new k ≡ c → (m : ℕ) → Reads b (turned v on k s c) (after_told k new old) m
  turned-reads s c is m =
      elim (eqb_tells k m) [
        | inl same ↦ subst (λ (i : ℕ). Reads b (turned v on k s c) (after_told k new old) i) same.1
            (inr (ap (λ (p : ℕ). (turned v on k s c p).kept k) home ∙ ap (λ (x : At). x.kept k) (turned-same v on k s c)
            ∙ kept_own (v on).kept k k c refl ∙ sym is ∙ sym told_own))
        | inr other ↦
            let told_old : after_told k new old m ≡ old m = ap (λ (t : Bool). cond t (new m) (old m)) other.0 in
            elim (eqb_tells (home_of_mux b m) on) [
              | inl here ↦ elim (so m) [
                | inl marked ↦ absurd (other.1 (of_marked k m (v on).slot own (ap (λ (p : ℕ). (v p).slot) (sym here.1) ∙ marked)))
                | inr kept ↦ inr (ap (λ (p : ℕ). (turned v on k s c p).kept m) here.1 ∙ ap (λ (x : At). x.kept m) (turned-same v on k s c)
                    ∙ kept_other (v on).kept k m c (λ e. other.1 (sym e)) ∙ ap (λ (p : ℕ). (v p).kept m) (sym here.1) ∙ kept ∙ sym told_old)
              ]
              | inr far ↦ (let same : turned v on k s c (home_of_mux b m) ≡ v (home_of_mux b m) = turned-other v on k
                  (home_of_mux b m) s c far.1 in
                  elim (so m) [
                    | inl marked ↦ inl (ap (λ (x : At). x.slot) same ∙ marked)
                    | inr kept ↦ inr (ap (λ (x : At). x.kept m) same ∙ kept ∙ sym told_old)
                  ])
            ]
      ]

  -- it fails by the port, and marks its mux and others
  heads_marked : (marks : List Mark) → HeadsMarks on k marks → (set_marks marks v on).slot ≡ Marked k
  heads_marked [] heads = absurd heads
  heads_marked (x ∷ marks) heads =
      ap (λ (p : ℕ). (set_marks (x ∷ marks) v p).slot) (sym heads.0) ∙ ap (λ (y : At). y.slot) (set_marks-head x marks v)
      ∙ ap Marked heads.1

  failed-reads : (held : List LockId) (marks : List Mark) → MayFail b marks held v → HeadsMarks on k marks → (m : ℕ)
      → Reads b (set_marks marks v) (after_told k new old) m
  failed-reads held marks fail heads m =
      elim (eqb_tells k m) [
        | inl same ↦ subst (λ (i : ℕ). Reads b (set_marks marks v) (after_told k new old) i) same.1
            (inl (ap (λ (p : ℕ). (set_marks marks v p).slot) home ∙ heads_marked marks heads))
        | inr other ↦
            let told_old : after_told k new old m ≡ old m = ap (λ (t : Bool). cond t (new m) (old m)) other.0 in
            elim (set_marks-only b held v marks fail (home_of_mux b m)) [
              | inl same ↦ elim (so m) [
                | inl marked ↦ inl (ap (λ (x : At). x.slot) same ∙ marked)
                | inr kept ↦ inr (ap (λ (x : At). x.kept m) same ∙ kept ∙ sym told_old)
              ]
              | inr mark ↦ elim (eqb_tells m mark.mux) [
                | inl its ↦ inl (ap (λ (x : At). x.slot) mark.is ∙ ap Marked (sym its.1))
                | inr off ↦ elim (so m) [
                  | inl marked ↦ absurd (off.1 (sym (of_marked mark.mux m (v (home_of_mux b m)).slot mark.forgets marked)))
                  | inr kept ↦ inr (ap (λ (x : At). x.kept m) mark.is ∙ kept_other (v (home_of_mux b m)).kept mark.mux m None off.1 ∙ kept
                      ∙ sym told_old)
                ]
              ]
            ]
      ]

-- A MESSAGE, AND A LINE STEP
abbrev pub sent_told : BoardView → Bool → List ℕ → End → ℕ → Option ℕ
sent_told b reading bytes e m = cond (is_good e && not reading) (channel_written b m bytes) None

abbrev pub lined_told : BoardView → ℕ → Bool → ℕ → Option ℕ
lined_told b level failed m = cond failed None (channel_opened b m level)

-- a message that went through tells what was written
abbrev pub TellsWritten : BoardView → Job → ℕ → List ℕ → Type 0
TellsWritten b job left bytes = (message_of b job left).reading ≡ false → bytes ≡ (message_of b job left).bytes

module _ (b : BoardView) (tree : IsTree b) (plain : IsPlainBoard b) (v : Slots) (old : ℕ → Option ℕ) (so : (m : ℕ) → Reads b v old m)
    (held : List LockId) (marks : List Mark) where
  module _ (whose : TransferView) where
    select-reads : (h : Hop) (left : ℕ) → MaySend b whose (Select h) left marks held v → (reading : Bool)
        → reading ≡ (message_of b (Select h) left).reading → (bytes : List ℕ) (e : End)
        → (e ≡ end.Ok → TellsWritten b (Select h) left bytes) → (m : ℕ)
        → Reads b (after_job (Select h) left marks (Sent e bytes) v) (after_told h.mux (sent_told b reading bytes e) old) m
    select-reads h left may reading is bytes e written m = by left e may is written
      where
        hop : IsHop b h
        hop = tree.hop h.bus h may.finds.1

        turns : (n : ℕ) (x : End) (s : MuxSlot) (c : Option ℕ) → FindsSelect (is_arbitrator h.kind) h n (v h.on)
            → sent_told b reading bytes x h.mux ≡ c
            → Reads b (turned v h.on h.mux s c) (after_told h.mux (sent_told b reading bytes x) old) m
        turns n x s c finds told = turned-reads b v h.mux h.on hop.home (own_select (is_arbitrator h.kind) h n (v h.on) finds)
            (sent_told b reading bytes x) old so s c told m

        by : (n : ℕ) (x : End) → MaySend b whose (Select h) n marks held v → reading ≡ (message_of b (Select h) n).reading
            → (x ≡ end.Ok → TellsWritten b (Select h) n bytes)
            → Reads b (after_job (Select h) n marks (Sent x bytes) v) (after_told h.mux (sent_told b reading bytes x) old) m
        by zero end.Ok ready writing told =
            turns zero end.Ok Clean (Some h.channel) ready.finds.0
            (ap (λ (t : Bool). cond (not t) (channel_written b h.mux bytes) None) writing ∙ ap (channel_written b h.mux) (told refl refl)
            ∙ select_channel b plain h hop (tree.within h.bus h ready.finds.2 ready.finds.1))
        by (suc n) end.Ok ready polling told =
            turns (suc n) end.Ok (polled_slot h n bytes) None ready.finds.0
            (ap (λ (t : Bool). cond (not t) (channel_written b h.mux bytes) None) polling)
        by n end.Nack ready direction told = turns n end.Nack Clean None ready.finds.0 refl
        by n end.Slow ready direction told = turns n end.Slow Clean None ready.finds.0 refl
        by n end.Refused ready direction told = turns n end.Refused Clean None ready.finds.0 refl
        by n end.Proto ready direction told = turns n end.Proto Clean None ready.finds.0 refl
        by n (end.Cut q) ready direction told =
            failed-reads b v h.mux h.on hop.home (own_select (is_arbitrator h.kind) h n (v h.on) ready.finds.0)
            (sent_told b reading bytes (end.Cut q)) old so held marks ready.may_fail ready.owns.1 m

    off-reads : (off : Off) (left : ℕ) → MaySend b whose (SwitchOff off) left marks held v → (reading : Bool) → reading ≡ false
        → (bytes : List ℕ) (e : End)
        → (e ≡ end.Ok → TellsWritten b (SwitchOff off) left bytes) → (m : ℕ)
        → Reads b (after_job (SwitchOff off) left marks (Sent e bytes) v) (after_told (off_mux off) (sent_told b reading bytes e) old) m
    off-reads off left may reading writing bytes e written m = by e written
      where
        turns : (x : End) → sent_told b reading bytes x (off_mux off) ≡ None
            → Reads b (turned v (off_bus off) (off_mux off) Clean None) (after_told (off_mux off) (sent_told b reading bytes x) old) m
        turns x told = turned-reads b v (off_mux off) (off_bus off) may.finds.1 (own_open off (v (off_bus off)).slot may.finds.0)
            (sent_told b reading bytes x) old so Clean None told m

        by : (x : End) → (x ≡ end.Ok → TellsWritten b (SwitchOff off) left bytes)
            → Reads b (after_job (SwitchOff off) left marks (Sent x bytes) v) (after_told (off_mux off) (sent_told b reading bytes x) old) m
        by end.Ok told =
            turns end.Ok (ap (λ (t : Bool). cond (not t) (channel_written b (off_mux off) bytes) None) writing
            ∙ ap (channel_written b (off_mux off)) (told refl refl) ∙ close_channel b (off_mux off))
        by end.Nack told = turns end.Nack refl
        by end.Slow told = turns end.Slow refl
        by end.Refused told = turns end.Refused refl
        by end.Proto told = turns end.Proto refl
        by (end.Cut q) told =
            failed-reads b v (off_mux off) (off_bus off) may.finds.1 (own_open off (v (off_bus off)).slot may.finds.0)
            (sent_told b reading bytes (end.Cut q)) old so held marks may.may_fail may.owns.1 m

    sent-reads : (job : Job) (left : ℕ) → MaySend b whose job left marks held v → (reading : Bool)
        → reading ≡ (message_of b job left).reading → (bytes : List ℕ) (e : End)
        → (e ≡ end.Ok → TellsWritten b job left bytes) → (m : ℕ)
        → Reads b (after_job job left marks (Sent e bytes) v)
        (λ n. cond (switches n (job_purpose job)) (sent_told b reading bytes e n) (old n)) m
    sent-reads (Call bus ms) left may reading is bytes e written m = so m
    sent-reads (Select h) left may reading is bytes e written m = select-reads h left may reading is bytes e written m
    sent-reads (SwitchOff off) left may reading is bytes e written m = off-reads off left may reading is bytes e written m

  lined-reads : (job : Job) → MayShift b job marks held v → (failed : Bool) → (m : ℕ)
      → Reads b (after_job job zero marks (Lined failed) v) (after_told (line_mux job) (lined_told b (line_level job) failed) old) m
  lined-reads (Call bus ms) may failed m = absurd (let f : false ≡ true = may.by_line in cc)
  lined-reads (Select h) may true m =
      failed-reads b v h.mux h.on (tree.hop h.bus h may.finds.1).home (own_select (is_arbitrator h.kind) h zero (v h.on) may.finds.0)
      (lined_told b (select_value h.kind h.channel) true) old so held marks may.may_fail may.owns.1 m
  lined-reads (Select h) may false m =
      turned-reads b v h.mux h.on (tree.hop h.bus h may.finds.1).home (own_select (is_arbitrator h.kind) h zero (v h.on) may.finds.0)
      (lined_told b (select_value h.kind h.channel) false) old so Clean (Some h.channel)
      (select_channel b plain h (tree.hop h.bus h may.finds.1) (tree.within h.bus h may.finds.2 may.finds.1)) m
  lined-reads (SwitchOff off) may true m =
      failed-reads b v (off_mux off) (off_bus off) may.finds.1 (own_open off (v (off_bus off)).slot may.finds.0)
      (lined_told b close_value true) old so held marks may.may_fail may.owns.1 m
  lined-reads (SwitchOff off) may false m =
      turned-reads b v (off_mux off) (off_bus off) may.finds.1 (own_open off (v (off_bus off)).slot may.finds.0)
      (lined_told b close_value false) old so Clean None (close_channel b (off_mux off)) m

-- EVERY PAST
module _ (b : BoardView) (tree : IsTree b) (plain : IsPlainBoard b) (lines : LinesAreLocked b) (asks : Asks) (some : AsksForMessages asks)
    (callers : ℕ) where
  pub kept-reads : (past : List Entry) → IsStepwise b callers asks past → (m : ℕ) → Reads b (now b asks past).slot (kept_left b past) m
  kept-reads [] steps m = inr refl
  kept-reads (entry.Take c l ∷ past) steps m = kept-reads past steps.1 m
  kept-reads (entry.Free c l ∷ past) steps m = kept-reads past steps.1 m
  kept-reads (entry.Settle c r cut ∷ past) steps m = kept-reads past steps.1 m
  kept-reads (entry.Line c mux level failed ∷ past) steps m =
      let n : Now = now b asks past in
      let note : Note = first_note (current b asks n c) in
      let job : Job = steps.0.2.0 in
      let tells = steps.0.2.2 in
      subst (λ (i : ℕ). Reads b (now b asks (entry.Line c mux level failed ∷ past)).slot
      (after_told i (lined_told b level failed) (kept_left b past)) m) (sym tells.of_mux)
      (subst (λ (i : ℕ). Reads b (now b asks (entry.Line c mux level failed ∷ past)).slot
      (after_told (line_mux job) (lined_told b i failed) (kept_left b past)) m) (sym tells.to_level)
      (subst (λ (o : Option Act). Reads b (lined_by b n o note failed).slot
      (after_told (line_mux job) (lined_told b (line_level job) failed) (kept_left b past)) m) (sym steps.0.2.1)
      (lined-reads b tree plain n.slot (kept_left b past) (kept-reads past steps.1) (n.held c) note.marks job
      (shifts b tree plain lines asks some callers past steps.1 c job steps.0.2.1) failed m)))
  kept-reads (entry.Message c bus why part parts addr reading bytes heard e ∷ past) steps m =
      let n : Now = now b asks past in
      let note : Note = first_note (current b asks n c) in
      let job : Job = steps.0.2.0 in
      let left : ℕ = steps.0.2.1 in
      let tells = steps.0.2.3 in
      subst (λ (w : Purpose). Reads b (now b asks (entry.Message c bus why part parts addr reading bytes heard e ∷ past)).slot
      (λ i. cond (switches i w) (sent_told b reading bytes e i) (kept_left b past i)) m)
      (sym tells.for_purpose)
      (subst (λ (o : Option Act). Reads b (sent_by b n c o note reading bytes e).slot
      (λ i. cond (switches i (job_purpose job)) (sent_told b reading bytes e i) (kept_left b past i)) m) (sym steps.0.2.2)
      (sent-reads b tree plain n.slot (kept_left b past) (kept-reads past steps.1) (n.held c) note.marks _ job left
      (sends b tree plain lines asks some callers past steps.1 c job left steps.0.2.2) reading tells.in_direction bytes e
      (λ ok writes. tells.bytes_told
      ∙ talk-writes world_listener (cut_of e) (block_limit b) (n.worlds (root_of b (job_bus job))) (message_of b job left)
      (is_last job left) writes (sym tells.end_told ∙ ok)) m))

  -- A DESELECT OR A CLOSE that was sent without failing leaves none
  module _ (p m : ℕ) where
    shut_kept : (v : Slots) → (turned v p m Clean None p).kept m ≡ None
    shut_kept v = ap (λ (x : At). x.kept m) (turned-same v p m Clean None) ∙ kept_own (v p).kept m m None refl

    shut_at : (v : Slots) (on mux : ℕ) → (on ≡ p) × (mux ≡ m) → (turned v on mux Clean None p).kept m ≡ None
    shut_at v on mux is = ap (λ (i : ℕ). (turned v i mux Clean None p).kept m) is.0
        ∙ ap (λ (i : ℕ). (turned v p i Clean None p).kept m) is.1 ∙ shut_kept v

    sent_shut : (v : Slots) (marks : List Mark) (job : Job) (left : ℕ) (e : End) (bytes : List ℕ) → SwitchesOff p m (Some (Send job left))
        → is_cut e ≡ false
        → (after_job job left marks (Sent e bytes) v p).kept m ≡ None
    sent_shut v marks (Call bus ms) left e bytes closes through = absurd closes
    sent_shut v marks (Select h) left e bytes closes through = absurd closes
    sent_shut v marks (SwitchOff off) left end.Ok bytes closes through = shut_at v (off_bus off) (off_mux off) closes
    sent_shut v marks (SwitchOff off) left end.Nack bytes closes through = shut_at v (off_bus off) (off_mux off) closes
    sent_shut v marks (SwitchOff off) left end.Slow bytes closes through = shut_at v (off_bus off) (off_mux off) closes
    sent_shut v marks (SwitchOff off) left end.Refused bytes closes through = shut_at v (off_bus off) (off_mux off) closes
    sent_shut v marks (SwitchOff off) left end.Proto bytes closes through = shut_at v (off_bus off) (off_mux off) closes
    sent_shut v marks (SwitchOff off) left (end.Cut q) bytes closes through = absurd (let f : true ≡ false = through in cc)

    lined_shut : (v : Slots) (marks : List Mark) (job : Job) (failed : Bool) → SwitchesOff p m (Some (Shift job)) → failed ≡ false
        → (after_job job zero marks (Lined failed) v p).kept m ≡ None
    lined_shut v marks (Call bus ms) failed closes through = absurd closes
    lined_shut v marks (Select h) failed closes through = absurd closes
    lined_shut v marks (SwitchOff off) true closes through = absurd (let f : true ≡ false = through in cc)
    lined_shut v marks (SwitchOff off) false closes through = shut_at v (off_bus off) (off_mux off) closes

    -- a mux that is deselected or closed stands on its bus
    sent_home : (whose : TransferView) (job : Job) (left : ℕ) (marks : List Mark) (held : List LockId) (v : Slots)
        → MaySend b whose job left marks held v → SwitchesOff p m (Some (Send job left)) → home_of_mux b m ≡ p
    sent_home whose (Call bus ms) left marks held v may closes = absurd closes
    sent_home whose (Select h) left marks held v may closes = absurd closes
    sent_home whose (SwitchOff off) left marks held v may closes = ap (home_of_mux b) (sym closes.1) ∙ may.finds.1 ∙ closes.0

    lined_home : (job : Job) (marks : List Mark) (held : List LockId) (v : Slots) → MayShift b job marks held v
        → SwitchesOff p m (Some (Shift job)) → home_of_mux b m ≡ p
    lined_home (Call bus ms) marks held v may closes = absurd closes
    lined_home (Select h) marks held v may closes = absurd closes
    lined_home (SwitchOff off) marks held v may closes = ap (home_of_mux b) (sym closes.1) ∙ may.finds.1 ∙ closes.0

    pub shut-keeps-none : (e : Entry) (past : List Entry) → IsStepwise b callers asks (e ∷ past) → HasSwitchedOff b asks p m e past
        → kept_channel b asks (e ∷ past) m ≡ None
    shut-keeps-none (entry.Take c l) past steps closed = absurd (subst (SwitchesOff p m) steps.0.2 closed.0)
    shut-keeps-none (entry.Free c l) past steps closed = absurd (subst (SwitchesOff p m) steps.0.2 closed.0)
    shut-keeps-none (entry.Settle c r cut) past steps closed = absurd (subst (SwitchesOff p m) steps.0.3 closed.0)
    shut-keeps-none (entry.Line c mux level failed) past steps closed =
        let n : Now = now b asks past in
        let note : Note = first_note (current b asks n c) in
        let job : Job = steps.0.2.0 in
        let closes : SwitchesOff p m (Some (Shift job)) = subst (SwitchesOff p m) steps.0.2.1 closed.0 in
        ap (λ (i : ℕ). ((now b asks (entry.Line c mux level failed ∷ past)).slot i).kept m)
        (lined_home job note.marks (n.held c) n.slot (shifts b tree plain lines asks some callers past steps.1 c job steps.0.2.1) closes)
        ∙ subst (λ (o : Option Act). ((lined_by b n o note failed).slot p).kept m ≡ None) (sym steps.0.2.1)
        (lined_shut n.slot note.marks job failed closes closed.1)
    shut-keeps-none (entry.Message c bus why part parts addr reading bytes heard e) past steps closed =
        let n : Now = now b asks past in
        let note : Note = first_note (current b asks n c) in
        let job : Job = steps.0.2.0 in
        let left : ℕ = steps.0.2.1 in
        let closes : SwitchesOff p m (Some (Send job left)) = subst (SwitchesOff p m) steps.0.2.2 closed.0 in
        ap (λ (i : ℕ). ((now b asks (entry.Message c bus why part parts addr reading bytes heard e ∷ past)).slot i).kept m)
        (sent_home _ job left note.marks (n.held c) n.slot
        (sends b tree plain lines asks some callers past steps.1 c job left steps.0.2.2) closes)
        ∙ subst (λ (o : Option Act). ((sent_by b n c o note reading bytes e).slot p).kept m ≡ None) (sym steps.0.2.2)
        (sent_shut n.slot note.marks job left e bytes closes closed.1)
