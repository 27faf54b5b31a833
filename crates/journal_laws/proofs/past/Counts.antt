-- The failed entries of a root are as many as the calls of its port that failed. The induction goes over the entries.
use Rattle.journal_laws.proofs.Cited.{◌≡◌, ℕ, ◌+◌, Bool, true, false, cond, ◌&&◌, eqb, List, [], ◌∷◌, ◌++◌, reverse, Option, refl, sym, ◌∙◌}
use Rattle.journal_laws.proofs.Cited.{ap, subst, inl, inr, arith, reverse-append, eq-eqb, ne_eqb, eqb_tells, PortCall, End, Entry}
use Rattle.journal_laws.proofs.Cited.{BoardView, root_of, home_of_mux, IsTree, IsPlainBoard, MessageView, World, world_listener, talk}
use Rattle.journal_laws.proofs.Cited.{block_limit, Asks, changed_at, Act, Job, job_bus, message_of, is_last, first_note, Now, now, current}
use Rattle.journal_laws.proofs.Cited.{calls_of, talk_of, sent_by, lined_by, line_call, cut_of, is_cut, IsStepwise, LinesAreLocked}
use Rattle.journal_laws.proofs.Cited.{AsksForMessages, IsOwnEnd, count_if, faults_in, failed_on}
use Rattle.i2c_base.specs.declared.port.PortCall.TheVariants as call
use Rattle.i2c_base.specs.declared.entry.End.TheVariants as end
use Rattle.i2c_base.specs.declared.entry.Entry.TheVariants as entry
use Rattle.bus_laws.proofs.world.TalkLaws.{IsMade, talk-ends}
use Rattle.bus_laws.proofs.past.Whole.{line_root}

faults-append : (xs ys : List PortCall) → faults_in (xs ++ ys) ≡ faults_in xs + faults_in ys
faults-append [] ys = omega arith
faults-append (c ∷ cs) ys = (let rest : faults_in (cs ++ ys) ≡ faults_in cs + faults_in ys = faults-append cs ys in omega (arith, rest))

-- a message has one call that failed where it ended so, and else none
none_more : (cs : List PortCall) (c : PortCall) → IsMade c → faults_in cs ≡ 0 → faults_in (c ∷ cs) ≡ 0
none_more cs (call.Put byte) made none = omega (arith, none)
none_more cs (call.Get ack) made none = omega (arith, none)
none_more cs call.Stop made none = omega (arith, none)
none_more cs (call.Start a reading) made none = absurd made
none_more cs (call.Line m level) made none = absurd made
none_more cs call.Fault made none = absurd made

own_end : (e : End) → IsOwnEnd e → is_cut e ≡ false
own_end end.Ok own = refl
own_end end.Nack own = refl
own_end end.Slow own = refl
own_end end.Refused own = refl
own_end end.Proto own = refl
own_end (end.Cut q) own = absurd own

talk_faults : (limit : ℕ) (w : World) (m : MessageView) (last : Bool) (cut : Option ℕ)
    → faults_in (talk world_listener limit w m last cut).calls ≡ count_if (is_cut (talk world_listener limit w m last cut).end)
talk_faults limit w m last cut =
    talk-ends world_listener (λ u cs. faults_in cs ≡ 0) (λ u cs e. faults_in cs ≡ count_if (is_cut e))
    (λ u cs c made none. none_more cs c made none)
    (λ u cs none. omega (arith, none))
    (λ u cs e own none. none ∙ sym (ap count_if (own_end e own)))
    limit w m last cut refl refl

-- one root's calls are more
more_at : (calls : ℕ → List PortCall) (s : ℕ) (more : List PortCall) (r k : ℕ) (failed : Bool) → faults_in more ≡ count_if failed
    → faults_in (calls r) ≡ k
    → faults_in (changed_at calls s (more ++ calls s) r) ≡ count_if (eqb s r && failed) + k
more_at calls s more r k failed own before =
    elim (eqb_tells r s) [
      | inl h ↦ (let at : faults_in (changed_at calls s (more ++ calls s) r) ≡ faults_in (more ++ calls s) = ap
          (λ (t : Bool). faults_in (cond t (more ++ calls s) (calls r))) h.0 in
          let sum : faults_in (more ++ calls s) ≡ faults_in more + faults_in (calls s) = faults-append more (calls s) in
          let there : faults_in (calls s) ≡ k = ap (λ (i : ℕ). faults_in (calls i)) (sym h.1) ∙ before in
          let told : count_if (eqb s r && failed) ≡ count_if failed = ap (λ (t : Bool). count_if (t && failed)) (eq-eqb s r (sym h.1)) in
          omega (arith, at, sum, own, there, told))
      | inr h ↦ (let at : faults_in (changed_at calls s (more ++ calls s) r) ≡ faults_in (calls r) = ap
          (λ (t : Bool). faults_in (cond t (more ++ calls s) (calls r))) h.0 in
          let told : count_if (eqb s r && failed) ≡ 0 = ap (λ (t : Bool). count_if (t && failed)) (ne_eqb s r (λ f. h.1 (sym f))) in
          omega (arith, at, before, told))
    ]

line_faults : (job : Job) (failed : Bool) → faults_in (line_call job failed ∷ []) ≡ count_if failed
line_faults job true = refl
line_faults job false = refl

quiet : {m k : ℕ} → m ≡ k → m ≡ 0 + k
quiet same = omega (arith, same)

module _ (b : BoardView) (tree : IsTree b) (plain : IsPlainBoard b) (lines : LinesAreLocked b) (asks : Asks) (some : AsksForMessages asks)
    (callers : ℕ) where
  -- THE INDUCTION
  pub past-counts : (past : List Entry) → IsStepwise b callers asks past → (r : ℕ)
      → faults_in ((now b asks past).calls r) ≡ failed_on b r past
  past-counts [] steps r = refl
  past-counts (entry.Take c l ∷ past) steps r = quiet (past-counts past steps.1 r)
  past-counts (entry.Free c l ∷ past) steps r = quiet (past-counts past steps.1 r)
  past-counts (entry.Settle c x cut ∷ past) steps r = quiet (past-counts past steps.1 r)
  past-counts (entry.Message c bus why part parts addr reading bytes heard e ∷ past) steps r =
      let n : Now = now b asks past in
      let may = steps.0.2 in
      let job : Job = may.0 in
      subst (λ (o : Option Act). faults_in ((sent_by b n c o (first_note (current b asks n c)) reading bytes e).calls r) ≡ failed_on b r
      (entry.Message c bus why part parts addr reading bytes heard e ∷ past)) (sym may.2)
      (more_at n.calls (root_of b (job_bus job)) (talk_of b n job may.1 e).calls r (failed_on b r past) (is_cut e)
      (talk_faults (block_limit b) (n.worlds (root_of b (job_bus job))) (message_of b job may.1) (is_last job may.1) (cut_of e)
      ∙ sym (ap (λ (x : End). count_if (is_cut x)) may.3.end_told))
      (past-counts past steps.1 r)
      ∙ ap (λ (s : ℕ). count_if (eqb (root_of b s) r && is_cut e) + failed_on b r past) (sym may.3.on_bus))
  past-counts (entry.Line c mux level failed ∷ past) steps r =
      let n : Now = now b asks past in
      let may = steps.0.2 in
      let job : Job = may.0 in
      subst (λ (o : Option Act). faults_in ((lined_by b n o (first_note (current b asks n c)) failed).calls r) ≡ failed_on b r
      (entry.Line c mux level failed ∷ past)) (sym may.1)
      (more_at n.calls (root_of b (job_bus job)) (line_call job failed ∷ []) r (failed_on b r past) failed (line_faults job failed)
      (past-counts past steps.1 r)
      ∙ ap (λ (s : ℕ). count_if (eqb s r && failed) + failed_on b r past)
      (sym (line_root b tree plain lines asks some callers past steps.1 c r c job may.1)
      ∙ ap (λ (m : ℕ). root_of b (home_of_mux b m)) (sym may.2.of_mux)))

  reversed : (calls : List PortCall) → faults_in (reverse calls) ≡ faults_in calls
  reversed [] = refl
  reversed (c ∷ cs) =
      let turned : faults_in (reverse (c ∷ cs)) ≡ faults_in (reverse cs ++ c ∷ []) = ap (λ (xs : List PortCall). faults_in xs)
      (reverse-append (c ∷ []) cs) in
      let sum : faults_in (reverse cs ++ c ∷ []) ≡ faults_in (reverse cs) + faults_in (c ∷ []) = faults-append (reverse cs) (c ∷ []) in
      let before : faults_in (reverse cs) ≡ faults_in cs = reversed cs in omega (arith, turned, sum, before)

  pub counts-kept : (past : List Entry) → IsStepwise b callers asks past → (r : ℕ) → faults_in (calls_of b asks past r) ≡ failed_on b r past
  counts-kept past steps r = reversed ((now b asks past).calls r) ∙ past-counts past steps r
