-- One call that fails makes at most one reply EREMOTEIO. The induction goes over the entries.
use Rattle.journal_laws.proofs.Cited.{◌≡◌, ◌≢◌, ℕ, zero, suc, ◌+◌, ◌≤◌, ◌<◌, ◌&&◌, eqb, length, Bool, true, false, cond, List, [], ◌∷◌}
use Rattle.journal_laws.proofs.Cited.{Some, None, refl, sym, ◌∙◌, ap, subst, ◌⊎◌, inl, inr, arith, eq-eqb, ne_eqb, eqb_tells}
use Rattle.journal_laws.proofs.Cited.{range_with_len, Entry, Reply, Cut, BoardView, buses, root_of, home_of_mux, IsTree, IsPlainBoard, Asks}
use Rattle.journal_laws.proofs.Cited.{Job, Call, Select, SwitchOff, off_mux, Send, job_bus, first_act, caller_of, cut_told, last_cut, now}
use Rattle.journal_laws.proofs.Cited.{calls_of, is_due, is_cut, IsNext, IsStepwise, LinesAreLocked, AsksForMessages, call-reaches, cut-told}
use Rattle.journal_laws.proofs.Cited.{count_if, faults_in, is_failed, failed_on, failures, remotes, sends}
use Rattle.std.proofs.lemmas.List.Sums.{sum_by-cons}
use Rattle.std.specs.List.{sum_by}
use Rattle.i2c_base.specs.declared.errno.Errno.TheVariants as errno
use Rattle.i2c_base.specs.declared.entry.Entry.TheVariants as entry
use Rattle.i2c_base.specs.declared.reply.Reply.TheVariants as reply
use Rattle.i2c_base.specs.declared.reply.Cut.TheVariants as cut
use Rattle.bus_spec.specs.Readings.{is_on_root}
use Rattle.bus_laws.proofs.past.Marks.{home_there}
use Rattle.journal_laws.specs.Counts.{has_remote}
use Rattle.journal_laws.proofs.past.Due.{by-due}
use Rattle.journal_laws.proofs.past.Counts.{counts-kept}
use Rattle.journal_laws.proofs.past.Cuts.{cut-is, cut-at, failed-says, failed-due}

-- the test of a reply
remote_is : (r : Reply) (c : ℕ) (told : Cut) → (has_remote (entry.Settle c r told) ≡ false) ⊎ (r ≡ reply.Err errno.Eremoteio)
remote_is reply.Done c told = inl refl
remote_is (reply.Read bytes) c told = inl refl
remote_is (reply.Err errno.Eio) c told = inl refl
remote_is (reply.Err errno.Enxio) c told = inl refl
remote_is (reply.Err errno.Ebadf) c told = inl refl
remote_is (reply.Err errno.Ebusy) c told = inl refl
remote_is (reply.Err errno.Enodev) c told = inl refl
remote_is (reply.Err errno.Einval) c told = inl refl
remote_is (reply.Err errno.Eproto) c told = inl refl
remote_is (reply.Err errno.Ebadmsg) c told = inl refl
remote_is (reply.Err errno.Eopnotsupp) c told = inl refl
remote_is (reply.Err errno.Etimedout) c told = inl refl
remote_is (reply.Err errno.Eremoteio) c told = inr refl

at_most : (t : Bool) → count_if t ≤ 1
at_most true = omega arith
at_most false = omega arith

module _ (b : BoardView) (tree : IsTree b) (plain : IsPlainBoard b) (lines : LinesAreLocked b) (asks : Asks) (some : AsksForMessages asks)
    (callers : ℕ) where
  -- no more replies than failures, and one fewer where a settle that tells a cut is due
  pub record Counted (past : List Entry) : Type 0 where
    pub counted : remotes past ≤ failures past
    pub spare : (c : ℕ) → (now b asks past).due ≡ Some c → ((now b asks past).cut c ≡ cut.No → ⊥) → remotes past + 1 ≤ failures past

  quiet : (past : List Entry) (e : Entry) → Counted past → remotes (e ∷ past) ≡ remotes past → failures (e ∷ past) ≡ failures past
      → (now b asks (e ∷ past)).due ≡ None → Counted (e ∷ past)
  quiet past e before same_replies same_failures none =
      record {
        counted = (let h : remotes past ≤ failures past = before.counted in omega (arith, h, same_replies, same_failures));
        spare = λ c due told. absurd (let f : None ≡ Some c = sym none ∙ due in cc);
      }

  -- a message or a line step
  stepped : (past : List Entry) (e : Entry) (d : ℕ) (t : Bool) → Counted past → remotes (e ∷ past) ≡ remotes past
      → (now b asks (e ∷ past)).due ≡ cond t (Some d) None
      → (((now b asks (e ∷ past)).cut d ≡ cut.No → ⊥) → is_failed e ≡ true) → Counted (e ∷ past)
  stepped past e d t before same_replies due_is fails =
      record {
        counted = (let h : remotes past ≤ failures past = before.counted in omega (arith, h, same_replies));
        spare = λ c due told.
            (let own : d ≡ c = (by-due t d c (sym due_is ∙ due)).1 in
            let one : count_if (is_failed e) ≡ 1 = ap count_if
            (fails (subst (λ (i : ℕ). (now b asks (e ∷ past)).cut i ≡ cut.No → ⊥) (sym own) told)) in
            let h : remotes past ≤ failures past = before.counted in
            omega (arith, h, one, same_replies));
      }

  own_cut : (e : Entry) (past : List Entry) (d : ℕ) → caller_of e ≡ d → (now b asks (e ∷ past)).cut d ≡ cut_told e
  own_cut e past d own = cut-told b asks (e ∷ past) d
      ∙ ap (λ (t : Bool). cond t (cut_told e) (last_cut past d)) (eq-eqb (caller_of e) d own)

  line_fails : (failed : Bool) → (cond failed cut.Way cut.No ≡ cut.No → ⊥) → failed ≡ true
  line_fails true h = refl
  line_fails false h = absurd (h refl)

  settled : (c : ℕ) (r : Reply) (told : Cut) (past : List Entry) → IsStepwise b callers asks (entry.Settle c r told ∷ past) → Counted past
      → Counted (entry.Settle c r told ∷ past)
  settled c r told past steps before =
      record {
        counted = elim (remote_is r c told) [
          | inl other ↦ (let h : remotes past ≤ failures past = before.counted in
              let none : count_if (has_remote (entry.Settle c r told)) ≡ 0 = ap count_if other in omega (arith, h, none))
          | inr is ↦ (let failed = (cut-at b tree plain lines asks some callers (entry.Settle c r told) past steps).1.0 is in
              let says = failed-says b tree plain lines asks some callers past steps.1 c steps.0.2 steps.0.3 failed in
              let h : remotes past + 1 ≤ failures past = before.spare c
              (failed-due b tree plain lines asks some callers past steps.1 c steps.0.2 steps.0.3 failed) says.1 in
              let one : count_if (has_remote (entry.Settle c r told)) ≤ 1 = at_most (has_remote (entry.Settle c r told)) in
              omega (arith, h, one))
        ];
        spare = λ d due some_cut. absurd (let f : None ≡ Some d = due in cc);
      }

  pub remotes-counted : (past : List Entry) → IsStepwise b callers asks past → Counted past
  remotes-counted [] steps = record { counted = omega arith; spare = λ c due told. absurd (let f : None ≡ Some c = due in cc) }
  remotes-counted (entry.Take d l ∷ past) steps = quiet past (entry.Take d l) (remotes-counted past steps.1) (omega arith)
      (omega arith) steps.0.1
  remotes-counted (entry.Free d l ∷ past) steps = quiet past (entry.Free d l) (remotes-counted past steps.1) (omega arith)
      (omega arith) steps.0.1
  remotes-counted (entry.Line d mux level failed ∷ past) steps =
      stepped past (entry.Line d mux level failed) d (is_due (first_act ((now b asks (entry.Line d mux level failed ∷ past)).walk d)))
      (remotes-counted past steps.1) (omega arith) refl
      (λ told. line_fails failed (λ no. told (own_cut (entry.Line d mux level failed) past d refl ∙ no)))
  remotes-counted (entry.Message d bus why part parts addr reading bytes heard e ∷ past) steps =
      stepped past (entry.Message d bus why part parts addr reading bytes heard e) d
      (is_due (first_act ((now b asks (entry.Message d bus why part parts addr reading bytes heard e ∷ past)).walk d)))
      (remotes-counted past steps.1) (omega arith) refl
      (λ told. cut-is why part e (λ no. told (own_cut (entry.Message d bus why part parts addr reading bytes heard e) past d refl ∙ no)))
  remotes-counted (entry.Settle c r told ∷ past) steps = settled c r told past steps (remotes-counted past steps.1)

-- EACH FAILURE is on one root of the board
sum_more : (f g : ℕ → ℕ) (rs : List ℕ) → sum_by (λ r. f r + g r) rs ≡ sum_by f rs + sum_by g rs
sum_more f g [] = omega arith
sum_more f g (r ∷ rs) = (let h : sum_by (λ i. f i + g i) rs ≡ sum_by f rs + sum_by g rs = sum_more f g rs in
    omega (arith, h, sum_by-cons (λ i. f i + g i) r rs, sum_by-cons f r rs, sum_by-cons g r rs))

sum_none : (from n : ℕ) → sum_by (λ r. 0) (range_with_len from n) ≡ 0
sum_none from zero = refl
sum_none from (suc n) = (let h : sum_by (λ r. 0) (range_with_len (from + 1) n) ≡ 0 = sum_none (from + 1) n in
    omega (arith, h, sum_by-cons (λ r. 0) from (range_with_len (from + 1) n)))

sum_off : (k : ℕ) (t : Bool) (from n : ℕ) → k < from → sum_by (λ r. count_if (eqb k r && t)) (range_with_len from n) ≡ 0
sum_off k t from zero off = refl
sum_off k t from (suc n) off =
    let h : sum_by (λ r. count_if (eqb k r && t)) (range_with_len (from + 1) n) ≡ 0 = sum_off k t (from + 1) n (omega (arith, off)) in
    let here : count_if (eqb k from && t) ≡ 0 = ap (λ (x : Bool). count_if (x && t))
    (ne_eqb k from (λ e. absurd (omega (arith, off, e)))) in
    omega (arith, h, here, sum_by-cons (λ r. count_if (eqb k r && t)) from (range_with_len (from + 1) n))

sum_one : (k : ℕ) (t : Bool) (from n : ℕ) → from ≤ k → k < from + n
    → sum_by (λ r. count_if (eqb k r && t)) (range_with_len from n) ≡ count_if t
sum_one k t from zero low high = absurd (omega (arith, low, high))
sum_one k t from (suc n) low high =
    elim (eqb_tells k from) [
      | inl e ↦ (let here : count_if (eqb k from && t) ≡ count_if t = ap (λ (x : Bool). count_if (x && t)) e.0 in
          let same : k ≡ from = e.1 in
          let rest : sum_by (λ r. count_if (eqb k r && t)) (range_with_len (from + 1) n) ≡ 0 = sum_off k t (from + 1) n
          (omega (arith, same)) in
          omega (arith, here, rest, sum_by-cons (λ r. count_if (eqb k r && t)) from (range_with_len (from + 1) n)))
      | inr e ↦ (let here : count_if (eqb k from && t) ≡ 0 = ap (λ (x : Bool). count_if (x && t)) e.0 in
          let ne : k ≢ from = e.1 in
          let rest : sum_by (λ r. count_if (eqb k r && t)) (range_with_len (from + 1) n) ≡ count_if t = sum_one k t (from + 1) n
          (omega (arith, low, ne)) (omega (arith, high)) in
          omega (arith, here, rest, sum_by-cons (λ r. count_if (eqb k r && t)) from (range_with_len (from + 1) n)))
    ]

module _ (b : BoardView) (tree : IsTree b) (plain : IsPlainBoard b) (lines : LinesAreLocked b) (asks : Asks) (some : AsksForMessages asks)
    (callers : ℕ) where
  abbrev roots : List ℕ
  roots = range_with_len 0 (length b.roots)

  -- a job is done on a bus of the board
  pub job_there : (past : List Entry) → IsStepwise b callers asks past → (c : ℕ) (job : Job) (left : ℕ)
      → IsNext b asks (now b asks past) c (Send job left) → job_bus job < buses b
  job_there past steps c (Call bus ms) left next = (call-reaches b tree plain lines asks some callers past steps c bus ms left next).there
  job_there past steps c (Select h) left next =
      subst (λ (i : ℕ). i < buses b)
      (tree.hop h.bus h (sends b tree plain lines asks some callers past steps c (Select h) left next).finds.1).home
      (home_there b plain h.mux)
  job_there past steps c (SwitchOff off) left next =
      subst (λ (i : ℕ). i < buses b) (sends b tree plain lines asks some callers past steps c (SwitchOff off) left next).finds.1
      (home_there b plain (off_mux off))

  one_root : (e : Entry) (past : List Entry) → IsStepwise b callers asks (e ∷ past)
      → sum_by (λ r. count_if (is_on_root b r e && is_failed e)) roots ≡ count_if (is_failed e)
  one_root (entry.Take c l) past steps = sum_none 0 (length b.roots)
  one_root (entry.Free c l) past steps = sum_none 0 (length b.roots)
  one_root (entry.Settle c r told) past steps = sum_none 0 (length b.roots)
  one_root (entry.Line c mux level failed) past steps =
      (let within : root_of b (home_of_mux b mux) < length b.roots = tree.root_is (home_of_mux b mux) (home_there b plain mux) in
      sum_one (root_of b (home_of_mux b mux)) failed 0 (length b.roots) (omega arith) (omega (arith, within)))
  one_root (entry.Message c bus why part parts addr reading bytes heard x) past steps =
      let may = steps.0.2 in
      let there : bus < buses b = subst (λ (i : ℕ). i < buses b) (sym may.3.on_bus) (job_there past steps.1 c may.0 may.1 may.2) in
      (let within : root_of b bus < length b.roots = tree.root_is bus there in
      sum_one (root_of b bus) (is_cut x) 0 (length b.roots) (omega arith) (omega (arith, within)))

  failures-rooted : (past : List Entry) → IsStepwise b callers asks past → sum_by (λ r. failed_on b r past) roots ≡ failures past
  failures-rooted [] steps = sum_none 0 (length b.roots)
  failures-rooted (e ∷ past) steps =
      let more : sum_by (λ r. count_if (is_on_root b r e && is_failed e) + failed_on b r past) roots
      ≡ sum_by (λ r. count_if (is_on_root b r e && is_failed e)) roots + sum_by (λ r. failed_on b r past) roots =
      sum_more (λ r. count_if (is_on_root b r e && is_failed e)) (λ r. failed_on b r past) roots in
      let here : sum_by (λ r. count_if (is_on_root b r e && is_failed e)) roots ≡ count_if (is_failed e) = one_root e past steps in
      let before : sum_by (λ r. failed_on b r past) roots ≡ failures past = failures-rooted past steps.1 in
      omega (arith, more, here, before)

  sum_same : (f g : ℕ → ℕ) → ((r : ℕ) → f r ≡ g r) → (rs : List ℕ) → sum_by f rs ≡ sum_by g rs
  sum_same f g same [] = refl
  sum_same f g same (r ∷ rs) = (let h : f r ≡ g r = same r in let t : sum_by f rs ≡ sum_by g rs = sum_same f g same rs in
      omega (arith, h, t, sum_by-cons f r rs, sum_by-cons g r rs))

  -- the calls that failed on all roots
  pub remotes-faults : (past : List Entry) → IsStepwise b callers asks past
      → remotes past ≤ sum_by (λ r. faults_in (calls_of b asks past r)) roots
  remotes-faults past steps =
      let counted : remotes past ≤ failures past = (remotes-counted b tree plain lines asks some callers past steps).counted in
      let rooted : sum_by (λ r. failed_on b r past) roots ≡ failures past = failures-rooted past steps in
      let told : sum_by (λ r. faults_in (calls_of b asks past r)) roots ≡ sum_by (λ r. failed_on b r past) roots =
      sum_same (λ r. faults_in (calls_of b asks past r)) (λ r. failed_on b r past)
      (λ r. counts-kept b tree plain lines asks some callers past steps r) roots in
      omega (arith, counted, rooted, told)
