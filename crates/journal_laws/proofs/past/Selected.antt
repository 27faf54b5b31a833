-- Each message goes through muxes that are selected: a mux that keeps a channel was selected last with the hop of that channel,
-- by the caller that switched it last. The inductions go over the entries.
use Rattle.journal_laws.proofs.Cited.{◌≡◌, ℕ, zero, suc, Bool, true, false, cond, not, ◌&&◌, eqb, List, [], ◌∷◌, Option, Some, None, refl}
use Rattle.journal_laws.proofs.Cited.{sym, ◌∙◌, ap, subst, inl, inr, eqb_tells, LockId, End, Entry, Purpose, BoardView, TransferView, Hop}
use Rattle.journal_laws.proofs.Cited.{hops, root_of, home_of_mux, IsAmongHops, IsTree, IsHop, IsPlainBoard, world_listener, is_good}
use Rattle.journal_laws.proofs.Cited.{block_limit, Asks, Mark, Job, Call, Select, SwitchOff, Off, off_mux, Act, job_bus, job_purpose}
use Rattle.journal_laws.proofs.Cited.{message_of, is_last, line_mux, line_level, Slots, Clean, Marked, mark_in, first_act, first_note}
use Rattle.journal_laws.proofs.Cited.{OfMessage, holder, Now, current, now, kept_channel, cut_of, channel_opened, channel_written, switches}
use Rattle.journal_laws.proofs.Cited.{kept_left, IsStepwise, MaySend, MayShift, InLocks, LinesAreLocked, AsksForMessages, talk-writes}
use Rattle.journal_laws.proofs.Cited.{past-stands, holder-told, sends, shifts}
use Rattle.i2c_base.specs.declared.ids.LockId.TheVariants as lock
use Rattle.i2c_base.specs.declared.entry.End.TheVariants as end
use Rattle.i2c_base.specs.declared.entry.Entry.TheVariants as entry
use Rattle.bus_spec.specs.Places.{switched_by}
use Rattle.bus_laws.specs.Runs.{IsOpenOn}
use Rattle.bus_laws.specs.Reach.{KeepsItsChannel}
use Rattle.bus_laws.proofs.past.Closed.{closed-kept}
use Rattle.journal_laws.specs.Selected.{Selected, selected_after, selected_sent, selected_lined, selected_left, IsSelectedFor}
use Rattle.journal_laws.specs.Selected.{GoesThroughSelected}
use Rattle.journal_laws.proofs.past.Kept.{sent_told, lined_told, TellsWritten, select_channel, close_channel, kept-reads}

-- this select is one of channel c of mux m, by the caller that switched the mux last
record IsOfChannel (b : BoardView) (last : Option Selected) (switched : Option ℕ) (m c : ℕ) : Type 0 where
  pub select : Selected
  pub told : last ≡ Some select
  pub there : IsAmongHops select.hop (hops b select.hop.bus)
  pub mux : select.hop.mux ≡ m
  pub channel : select.hop.channel ≡ c
  pub by : switched ≡ Some select.caller

-- ONE STEP. If mux m keeps channel c, then its last select is such a one: before the step, and so after it
module _ (b : BoardView) (d m c : ℕ) (kept : Option ℕ) (old : Option Selected) (by : Option ℕ) where
  -- .. where the step is one of this very mux or not, tells this channel of it, and leaves this last select
  abbrev Goes : Bool → Option ℕ → Option Selected → Type 0
  Goes own told after = cond own told kept ≡ Some c → IsOfChannel b after (cond own (Some d) by) m c

  -- a step that tells no channel
  nothing : (own : Bool) (told : Option ℕ) (after : Option Selected) → own ≡ true → told ≡ None → Goes own told after
  nothing false told after on none keeps = absurd (let f : false ≡ true = on in cc)
  nothing true told after on none keeps = absurd (let f : None ≡ Some c = sym none ∙ keeps in cc)

  -- a select that went through
  selects : (h : Hop) (told : Option ℕ) → IsAmongHops h (hops b h.bus) → h.mux ≡ m → (own : Bool) → own ≡ true
      → told ≡ Some h.channel → Goes own told (cond (own && true) (Some (record { caller = d; hop = h })) old)
  selects h told there same false on opens keeps = absurd (let f : false ≡ true = on in cc)
  selects h told there same true on opens keeps =
      record {
        select = record { caller = d; hop = h };
        told = refl;
        there = there;
        mux = same;
        channel = (let f : Some h.channel ≡ Some c = sym opens ∙ keeps in cc);
        by = refl;
      }

  module _ (before : kept ≡ Some c → IsOfChannel b old by m c) (tree : IsTree b) (plain : IsPlainBoard b) (held : List LockId)
      (marks : List Mark) (v : Slots) where
    -- a step of another mux
    passes : (own : Bool) (told : Option ℕ) (after : Option Selected) → own ≡ false → after ≡ old → Goes own told after
    passes true told after off same keeps = absurd (let f : true ≡ false = off in cc)
    passes false told after off same keeps = subst (λ (o : Option Selected). IsOfChannel b o by m c) (sym same) (before keeps)

    module _ (whose : TransferView) (reading : Bool) (bytes : List ℕ) where
      abbrev SentGoes : Job → ℕ → End → Type 0
      SentGoes job left e = Goes (switches m (job_purpose job)) (sent_told b reading bytes e m)
          (selected_after job (is_good e && eqb left 0) d m old)

      sent-select : (h : Hop) (left : ℕ) (e : End) → MaySend b whose (Select h) left marks held v
          → reading ≡ (message_of b (Select h) left).reading → (e ≡ end.Ok → TellsWritten b (Select h) left bytes)
          → SentGoes (Select h) left e
      sent-select h left e may is written =
          elim (eqb_tells h.mux m) [
            | inl same ↦ by_end left e may is written same.0 same.1
            | inr other ↦ passes (eqb h.mux m) (sent_told b reading bytes e m) (selected_after (Select h) (is_good e && eqb left 0) d m old)
                other.0 (ap (λ (t : Bool). cond (t && (is_good e && eqb left 0)) (Some (record { caller = d; hop = h })) old) other.0)
          ]
        where
          none : (n : ℕ) (x : End) → eqb h.mux m ≡ true → sent_told b reading bytes x m ≡ None → SentGoes (Select h) n x
          none n x on = nothing (eqb h.mux m) (sent_told b reading bytes x m)
              (selected_after (Select h) (is_good x && eqb n 0) d m old) on

          by_end : (n : ℕ) (x : End) → MaySend b whose (Select h) n marks held v → reading ≡ (message_of b (Select h) n).reading
              → (x ≡ end.Ok → TellsWritten b (Select h) n bytes) → eqb h.mux m ≡ true → h.mux ≡ m → SentGoes (Select h) n x
          by_end zero end.Ok ready writing told on same =
              selects h (sent_told b reading bytes end.Ok m) ready.finds.1 same (eqb h.mux m) on
              (ap (λ (t : Bool). cond (not t) (channel_written b m bytes) None) writing ∙ ap (channel_written b m) (told refl refl)
              ∙ ap (λ (i : ℕ). channel_written b i (message_of b (Select h) zero).bytes) (sym same)
              ∙ select_channel b plain h (tree.hop h.bus h ready.finds.1) (tree.within h.bus h ready.finds.2 ready.finds.1))
          by_end (suc n) end.Ok ready polling told on same =
              none (suc n) end.Ok on (ap (λ (t : Bool). cond (not t) (channel_written b m bytes) None) polling)
          by_end n end.Nack ready direction told on same = none n end.Nack on refl
          by_end n end.Slow ready direction told on same = none n end.Slow on refl
          by_end n end.Refused ready direction told on same = none n end.Refused on refl
          by_end n end.Proto ready direction told on same = none n end.Proto on refl
          by_end n (end.Cut q) ready direction told on same = none n (end.Cut q) on refl

      sent-off : (off : Off) (left : ℕ) (e : End) → reading ≡ false → (e ≡ end.Ok → TellsWritten b (SwitchOff off) left bytes)
          → SentGoes (SwitchOff off) left e
      sent-off off left e writing written =
          elim (eqb_tells (off_mux off) m) [
            | inl same ↦ nothing (eqb (off_mux off) m) (sent_told b reading bytes e m)
                (selected_after (SwitchOff off) (is_good e && eqb left 0) d m old) same.0 (none e written)
            | inr other ↦ passes (eqb (off_mux off) m) (sent_told b reading bytes e m)
                (selected_after (SwitchOff off) (is_good e && eqb left 0) d m old) other.0
                (ap (λ (t : Bool). cond t None old) other.0)
          ]
        where
          none : (x : End) → (x ≡ end.Ok → TellsWritten b (SwitchOff off) left bytes) → sent_told b reading bytes x m ≡ None
          none end.Ok told =
              ap (λ (t : Bool). cond (not t) (channel_written b m bytes) None) writing
              ∙ ap (channel_written b m) (told refl refl) ∙ close_channel b m
          none end.Nack told = refl
          none end.Slow told = refl
          none end.Refused told = refl
          none end.Proto told = refl
          none (end.Cut q) told = refl

      sent-goes : (job : Job) (left : ℕ) (e : End) → MaySend b whose job left marks held v
          → reading ≡ (message_of b job left).reading → (e ≡ end.Ok → TellsWritten b job left bytes) → SentGoes job left e
      sent-goes (Call bus ms) left e may is written = before
      sent-goes (Select h) left e may is written = sent-select h left e may is written
      sent-goes (SwitchOff off) left e may is written = sent-off off left e is written

    abbrev LinedGoes : Job → Bool → Type 0
    LinedGoes job failed = Goes (eqb (line_mux job) m) (lined_told b (line_level job) failed m) (selected_after job (not failed) d m old)

    lined-goes : (job : Job) (failed : Bool) → MayShift b job marks held v → LinedGoes job failed
    lined-goes (Call bus ms) failed may = absurd (let f : false ≡ true = may.by_line in cc)
    lined-goes (Select h) failed may =
        elim (eqb_tells h.mux m) [
          | inl same ↦ through failed same.0 same.1
          | inr other ↦ passes (eqb h.mux m) (lined_told b (line_level (Select h)) failed m)
              (selected_after (Select h) (not failed) d m old) other.0
              (ap (λ (t : Bool). cond (t && not failed) (Some (record { caller = d; hop = h })) old) other.0)
        ]
      where
        through : (t : Bool) → eqb h.mux m ≡ true → h.mux ≡ m → LinedGoes (Select h) t
        through true on same = nothing (eqb h.mux m) None (selected_after (Select h) false d m old) on refl
        through false on same =
            selects h (channel_opened b m (line_level (Select h))) may.finds.1 same (eqb h.mux m) on
            (ap (λ (i : ℕ). channel_opened b i (line_level (Select h))) (sym same)
            ∙ select_channel b plain h (tree.hop h.bus h may.finds.1) (tree.within h.bus h may.finds.2 may.finds.1))
    lined-goes (SwitchOff off) failed may =
        elim (eqb_tells (off_mux off) m) [
          | inl same ↦ nothing (eqb (off_mux off) m) (lined_told b (line_level (SwitchOff off)) failed m)
              (selected_after (SwitchOff off) (not failed) d m old) same.0 (none failed)
          | inr other ↦ passes (eqb (off_mux off) m) (lined_told b (line_level (SwitchOff off)) failed m)
              (selected_after (SwitchOff off) (not failed) d m old) other.0 (ap (λ (t : Bool). cond t None old) other.0)
        ]
      where
        none : (t : Bool) → lined_told b (line_level (SwitchOff off)) t m ≡ None
        none true = refl
        none false = close_channel b m

-- EVERY PAST
module _ (b : BoardView) (tree : IsTree b) (plain : IsPlainBoard b) (lines : LinesAreLocked b) (asks : Asks) (some : AsksForMessages asks)
    (callers : ℕ) where
  -- a mux that keeps a channel
  kept-selected : (past : List Entry) → IsStepwise b callers asks past → (m c : ℕ) → kept_left b past m ≡ Some c
      → IsOfChannel b (selected_left b asks past m) (switched_by past m) m c
  kept-selected [] steps m c keeps = absurd (let f : None ≡ Some c = keeps in cc)
  kept-selected (entry.Take d l ∷ past) steps m c keeps = kept-selected past steps.1 m c keeps
  kept-selected (entry.Free d l ∷ past) steps m c keeps = kept-selected past steps.1 m c keeps
  kept-selected (entry.Settle d r cut ∷ past) steps m c keeps = kept-selected past steps.1 m c keeps
  kept-selected (entry.Line d mux level failed ∷ past) steps m c keeps =
      let n : Now = now b asks past in
      let job : Job = steps.0.2.0 in
      let tells = steps.0.2.2 in
      let goes : Bool → Option ℕ → Option Selected → Type 0 =
      Goes b d m c (kept_left b past m) (selected_left b asks past m) (switched_by past m) in
      subst (λ (i : ℕ). goes (eqb i m) (lined_told b level failed m)
      (selected_lined (first_act (current b asks n d)) failed d m (selected_left b asks past m))) (sym tells.of_mux)
      (subst (λ (i : ℕ). goes (eqb (line_mux job) m) (lined_told b i failed m)
      (selected_lined (first_act (current b asks n d)) failed d m (selected_left b asks past m))) (sym tells.to_level)
      (subst (λ (o : Option Act). goes (eqb (line_mux job) m) (lined_told b (line_level job) failed m)
      (selected_lined o failed d m (selected_left b asks past m))) (sym steps.0.2.1)
      (lined-goes b d m c (kept_left b past m) (selected_left b asks past m) (switched_by past m) (kept-selected past steps.1 m c)
      tree plain (n.held d) (first_note (current b asks n d)).marks n.slot job failed
      (shifts b tree plain lines asks some callers past steps.1 d job steps.0.2.1)))) keeps
  kept-selected (entry.Message d bus why part parts addr reading bytes heard e ∷ past) steps m c keeps =
      let n : Now = now b asks past in
      let job : Job = steps.0.2.0 in
      let left : ℕ = steps.0.2.1 in
      let tells = steps.0.2.3 in
      let goes : Bool → Option ℕ → Option Selected → Type 0 =
      Goes b d m c (kept_left b past m) (selected_left b asks past m) (switched_by past m) in
      subst (λ (w : Purpose). goes (switches m w) (sent_told b reading bytes e m)
      (selected_sent (first_act (current b asks n d)) (is_good e) d m (selected_left b asks past m))) (sym tells.for_purpose)
      (subst (λ (o : Option Act). goes (switches m (job_purpose job)) (sent_told b reading bytes e m)
      (selected_sent o (is_good e) d m (selected_left b asks past m))) (sym steps.0.2.2)
      (sent-goes b d m c (kept_left b past m) (selected_left b asks past m) (switched_by past m) (kept-selected past steps.1 m c)
      tree plain (n.held d) (first_note (current b asks n d)).marks n.slot _ reading bytes job left e
      (sends b tree plain lines asks some callers past steps.1 d job left steps.0.2.2) tells.in_direction
      (λ ok writes. tells.bytes_told
      ∙ talk-writes world_listener (cut_of e) (block_limit b) (n.worlds (root_of b (job_bus job))) (message_of b job left)
      (is_last job left) writes (sym tells.end_told ∙ ok)))) keeps

  -- EACH MESSAGE
  goes_at : (e : Entry) (past : List Entry) → IsStepwise b callers asks (e ∷ past)
      → OfMessage (λ m. (h : Hop) → IsAmongHops h (hops b m.bus) → IsSelectedFor b asks past m.caller h) e
  goes_at (entry.Take c l) past steps = tt
  goes_at (entry.Free c l) past steps = tt
  goes_at (entry.Settle c r cut) past steps = tt
  goes_at (entry.Line c mux level failed) past steps = tt
  goes_at (entry.Message c bus why part parts addr reading bytes heard e) past steps = λ h among.
      let n : Now = now b asks past in
      let job : Job = steps.0.2.0 in
      let there : IsAmongHops h (hops b (job_bus job)) = subst (λ (s : ℕ). IsAmongHops h (hops b s)) steps.0.2.3.on_bus among in
      let at : IsOpenOn b h (n.slot h.on) × InLocks (lock.Mux h.on) (n.held c) =
      (sends b tree plain lines asks some callers past steps.1 c job steps.0.2.1 steps.0.2.2).reached h there in
      let hop : IsHop b h = tree.hop (job_bus job) h there in
      let clean : (n.slot (home_of_mux b h.mux)).slot ≡ Clean = ap (λ (p : ℕ). (n.slot p).slot) hop.home ∙ at.0.clean in
      let kept : kept_channel b asks past h.mux ≡ Some h.channel = ap (λ (p : ℕ). (n.slot p).kept h.mux) hop.home ∙ at.0.kept in
      let told : kept_left b past h.mux ≡ Some h.channel = elim (kept-reads b tree plain lines asks some callers past steps.1 h.mux) [
        | inl marked ↦ absurd (let f : Clean ≡ Marked h.mux = sym clean ∙ marked in cc)
        | inr same ↦ sym same ∙ kept
      ] in
      let keeps : KeepsItsChannel b asks past h.mux = elim (closed-kept b tree plain lines asks some callers past steps.1 h.mux) [
        | inl marked ↦ absurd (let f : None ≡ Some h.mux = sym (ap mark_in clean) ∙ marked in cc)
        | inr own ↦ own
      ] in
      let has : holder past (lock.Mux (home_of_mux b h.mux)) ≡ Some c =
      ap (λ (p : ℕ). holder past (lock.Mux p)) hop.home ∙ sym (holder-told b asks past (lock.Mux h.on))
      ∙ (past-stands b tree plain lines asks some callers past steps.1).holds c (lock.Mux h.on) at.1 in
      let last : IsOfChannel b (selected_left b asks past h.mux) (switched_by past h.mux) h.mux h.channel =
      kept-selected past steps.1 h.mux h.channel told in
      let same : last.select.hop ≡ h =
      tree.channel last.select.hop.bus (job_bus job) last.select.hop h last.there there last.mux last.channel in
      record {
        by = last.select.caller;
        selected = last.told ∙ ap (λ (g : Hop). Some (record { caller = last.select.caller; hop = g })) same;
        own = λ leaves. (let its = keeps.locked (hop.stays ∙ leaves) h.channel kept in
            let who : Some last.select.caller ≡ Some its.0 = sym last.by ∙ its.1 in
            let locked : Some its.0 ≡ Some c = sym its.2 ∙ has in cc);
      }

  pub goes-through : (past : List Entry) → IsStepwise b callers asks past → GoesThroughSelected b asks past
  goes-through [] steps = tt
  goes-through (e ∷ past) steps = (goes_at e past steps, goes-through past steps.1)
