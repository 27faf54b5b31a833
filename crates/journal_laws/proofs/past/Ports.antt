-- The world of each root is the opening one after the calls that the journal tells. The induction goes over the entries.
use Rattle.journal_laws.proofs.Cited.{◌≡◌, ℕ, Bool, cond, List, [], ◌∷◌, ◌++◌, reverse, Option, Some, None, refl, sym, ◌∙◌, ap, subst, inl}
use Rattle.journal_laws.proofs.Cited.{inr, reverse-append, eqb_tells, PortCall, End, Entry, BoardView, root_of, MessageView, World}
use Rattle.journal_laws.proofs.Cited.{world_listener, talk, block_limit, Asks, changed_at, Act, Take, Free, Send, Shift, Settle, Note}
use Rattle.journal_laws.proofs.Cited.{job_bus, message_of, is_last, first_act, first_note, Now, current, now, talk_of, sent_by, lined_by}
use Rattle.journal_laws.proofs.Cited.{line_call, cut_of}
use Rattle.i2c_base.specs.declared.entry.Entry.TheVariants as entry
use Rattle.i2c_spec.specs.World.{after, after_all, opening_world}
use Rattle.bus_laws.proofs.world.TalkLaws.{talk-tells}

after_all-append : (w : World) (xs ys : List PortCall) → after_all w (xs ++ ys) ≡ after_all (after_all w xs) ys
after_all-append w [] ys = refl
after_all-append w (c ∷ cs) ys = after_all-append (after w c) cs ys

-- calls are kept newest first
abbrev IsAfter : World → World → List PortCall → Type 0
IsAfter w u cs = u ≡ after_all w (reverse cs)

more_after : (w u : World) (cs more : List PortCall) (v : World) → IsAfter w u cs → IsAfter u v more → IsAfter w v (more ++ cs)
more_after w u cs more v e f =
    f ∙ ap (λ (x : World). after_all x (reverse more)) e ∙ sym (after_all-append w (reverse cs) (reverse more))
    ∙ ap (λ (xs : List PortCall). after_all w xs) (sym (reverse-append more cs))

-- a message's calls lead from its world to the one that it leaves
pub talk_after : (limit : ℕ) (w : World) (m : MessageView) (last : Bool) (cut : Option ℕ)
    → IsAfter w (talk world_listener limit w m last cut).now (talk world_listener limit w m last cut).calls
talk_after limit w m last cut =
    talk-tells world_listener (IsAfter w) (λ u cs c later e. more_after w u cs (c ∷ []) (after u c) e refl) limit w m last cut refl refl

abbrev AreCalled : BoardView → Now → Type 0
AreCalled b n = (r : ℕ) → IsAfter (opening_world b r) (n.worlds r) (n.calls r)

-- one root's world and calls are new
called_at : (b : BoardView) (worlds : ℕ → World) (calls : ℕ → List PortCall) (s : ℕ) (new : World) (more : List PortCall)
    → ((r : ℕ) → IsAfter (opening_world b r) (worlds r) (calls r)) → IsAfter (worlds s) new more
    → (r : ℕ) → IsAfter (opening_world b r) (changed_at worlds s new r) (changed_at calls s (more ++ calls s) r)
called_at b worlds calls s new more old e r =
    elim (eqb_tells r s) [
      | inl h ↦ subst (λ (t : Bool). IsAfter (opening_world b r) (cond t new (worlds r)) (cond t (more ++ calls s) (calls r))) (sym h.0)
          (subst (λ (i : ℕ). IsAfter (opening_world b i) new (more ++ calls s)) (sym h.1)
          (more_after (opening_world b s) (worlds s) (calls s) more new (old s) e))
      | inr h ↦ subst (λ (t : Bool). IsAfter (opening_world b r) (cond t new (worlds r)) (cond t (more ++ calls s) (calls r))) (sym h.0)
          (old r)
    ]

module _ (b : BoardView) (n : Now) (old : AreCalled b n) (c : ℕ) (note : Note) where
  sent_called : (o : Option Act) (reading : Bool) (bytes : List ℕ) (e : End) → AreCalled b (sent_by b n c o note reading bytes e)
  sent_called None reading bytes e = old
  sent_called (Some (Take l)) reading bytes e = old
  sent_called (Some (Free l)) reading bytes e = old
  sent_called (Some (Shift job)) reading bytes e = old
  sent_called (Some (Settle verdict)) reading bytes e = old
  sent_called (Some (Send job left)) reading bytes e =
      called_at b n.worlds n.calls (root_of b (job_bus job)) (talk_of b n job left e).now (talk_of b n job left e).calls old
      (talk_after (block_limit b) (n.worlds (root_of b (job_bus job))) (message_of b job left) (is_last job left) (cut_of e))

  lined_called : (o : Option Act) (failed : Bool) → AreCalled b (lined_by b n o note failed)
  lined_called None failed = old
  lined_called (Some (Take l)) failed = old
  lined_called (Some (Free l)) failed = old
  lined_called (Some (Send job left)) failed = old
  lined_called (Some (Settle verdict)) failed = old
  lined_called (Some (Shift job)) failed =
      called_at b n.worlds n.calls (root_of b (job_bus job)) (after (n.worlds (root_of b (job_bus job))) (line_call job failed))
      (line_call job failed ∷ []) old refl

module _ (b : BoardView) (asks : Asks) where
  -- THE INDUCTION: it needs no condition on the entries
  pub past-called : (past : List Entry) → AreCalled b (now b asks past)
  past-called [] = λ r. refl
  past-called (entry.Take c l ∷ past) = past-called past
  past-called (entry.Free c l ∷ past) = past-called past
  past-called (entry.Settle c r cut ∷ past) = past-called past
  past-called (entry.Message c bus purpose part parts addr reading bytes heard e ∷ past) =
      sent_called b (now b asks past) (past-called past) c (first_note (current b asks (now b asks past) c))
      (first_act (current b asks (now b asks past) c)) reading bytes e
  past-called (entry.Line c mux level failed ∷ past) =
      lined_called b (now b asks past) (past-called past) c (first_note (current b asks (now b asks past) c))
      (first_act (current b asks (now b asks past) c)) failed
