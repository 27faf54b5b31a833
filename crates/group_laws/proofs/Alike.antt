-- A step of one of a group's callers, after a past of others as in the group's own journal. No induction but over the looks
-- in front of a walk.
use Rattle.std.proofs.Common.{◌≡◌, ◌==◌, ◌<◌, ℕ, Bool, true, false, cond, List, [], ◌∷◌, ◌++◌, Option, Some, None, refl, sym, ◌∙◌, ap}
use Rattle.std.proofs.Common.{subst, inl, inr, rules}
use Rattle.i2c_base.specs.declared.ids.LockId.{LockId}
use Rattle.i2c_base.specs.declared.entry.End.{End}
use Rattle.i2c_base.specs.declared.entry.Entry.{Entry}
use Rattle.i2c_base.specs.declared.entry.Entry.TheVariants as entry
use Rattle.i2c_base.specs.declared.port.PortCall.{PortCall}
use Rattle.i2c_base.specs.declared.reply.Reply.{Reply}
use Rattle.i2c_base.specs.Board.{BoardView}
use Rattle.i2c_base.specs.Transfer.{TransferView}
use Rattle.i2c_spec.specs.Tree.{root_of, buses}
use Rattle.i2c_spec.specs.TreeFacts.{IsTree}
use Rattle.i2c_spec.specs.World.{World}
use Rattle.i2c_spec.specs.Conversation.{TalkTold, talk, world_listener}
use Rattle.i2c_spec.specs.Flat.{block_limit}
use Rattle.i2c_spec.specs.History.{Asks, changed_at}
use Rattle.bus_spec.specs.Walk.{Job, Act, Take, Free, Send, Shift, Settle, ActOutcome, Passed, Sent, Lined, Note, ask_bus, WalkTree, Ends}
use Rattle.bus_spec.specs.Walk.{Look, Then, job_bus, message_of, is_last}
use Rattle.bus_spec.specs.Slots.{Slots, answer_to}
use Rattle.bus_spec.specs.Grammar.{seen, is_over, first_act, first_note, rest_of}
use Rattle.bus_spec.specs.Readings.{MessageEntry, caller_of, cut_told, is_lock}
use Rattle.bus_spec.specs.Past.{Now, begun, current, is_due, step, moved, taken, freed, without, settled_by, with_due, sent_by, lined_by}
use Rattle.bus_spec.specs.Past.{talk_of, cut_of, got_after, inside_after, line_call, held_by}
use Rattle.bus_spec.specs.Stepwise.{May, IsBelow, reply_by}
use Rattle.bus_spec.specs.Tells.{TellsMessage, HearsIn}
use Rattle.i2c_spec.specs.World.{after}
use Rattle.bus_laws.specs.Others.{ahead}
use Rattle.bus_laws.proofs.past.StandsFacts.{answer_alike}
use Rattle.bus_laws.proofs.past.StandsStep.{job_same}
use Rattle.group_laws.specs.Groups.{ActIn, StaysIn, IsAlike}
use Rattle.group_laws.proofs.Walks.{walk-in, seen-in, rest-in, first-in}

-- two functions that are changed alike at one place
pub changed-alike : {X : Type 0} (f g : ℕ → X) (c : ℕ) (x y : X) (d : ℕ) → f d ≡ g d → x ≡ y → changed_at f c x d ≡ changed_at g c y d
changed-alike f g c x y d same new = ap (λ (z : _). cond (d == c) z (f d)) new ∙ ap (λ (z : _). cond (d == c) y z) same

module _ (b : BoardView) (roots who : ℕ → Bool) where
  -- the looks in front of a walk find the same
  seen-alike : (v u : Slots) → ((p : ℕ) → roots (root_of b p) ≡ true → v p ≡ u p) → (w : WalkTree) → StaysIn b roots w → seen v w ≡ seen u w
  seen-alike v u same Ends on = refl
  seen-alike v u same (Look ask next) on =
      ap (λ (m : Option ℕ). seen v (next m)) (answer_alike ask v u (same (ask_bus ask) on.0))
      ∙ seen-alike v u same (next (answer_to u ask)) (on.1 (answer_to u ask))
  seen-alike v u same (Then act note next) on = refl

  module _ (n m : Now) (al : IsAlike b roots who n m) where
    -- one message gives the same
    talk-alike : (job : Job) (left : ℕ) (e : End) → roots (root_of b (job_bus job)) ≡ true → talk_of b n job left e ≡ talk_of b m job left e
    talk-alike job left e on =
        ap (λ (w : World). talk world_listener (block_limit b) w (message_of b job left) (is_last job left) (cut_of e))
        (al.worlds (root_of b (job_bus job)) on)

    module _ (c : ℕ) (own : who c ≡ true) where
      -- what its steps change is alike again
      sent-alike : (o : Option Act) (note : Note) (reading : Bool) (bytes : List ℕ) (e : End)
          → ((act : Act) → o ≡ Some act → ActIn b roots act note.marks)
          → IsAlike b roots who (sent_by b n c o note reading bytes e) (sent_by b m c o note reading bytes e)
      sent-alike None note reading bytes e on = al
      sent-alike (Some (Take l)) note reading bytes e on = al
      sent-alike (Some (Free l)) note reading bytes e on = al
      sent-alike (Some (Shift job)) note reading bytes e on = al
      sent-alike (Some (Settle v)) note reading bytes e on = al
      sent-alike (Some (Send job left)) note reading bytes e on =
          let at : ℕ = root_of b (job_bus job) in
          let there : roots at ≡ true = (on (Send job left) refl).0 in
          let told : talk_of b n job left e ≡ talk_of b m job left e = talk-alike job left e there in
          record {
            walk = al.walk;
            held = al.held;
            settled = al.settled;
            got = λ d k. changed-alike n.got m.got c (got_after job reading bytes (n.got c)) (got_after job reading bytes (m.got c)) d
                (al.got d k) (ap (got_after job reading bytes) (al.got c own));
            cut = al.cut;
            holder = al.holder;
            slot = λ p g. job_same job left note.marks (Sent e bytes) n.slot m.slot p (al.slot p g);
            worlds = λ r g. changed-alike n.worlds m.worlds at (talk_of b n job left e).now (talk_of b m job left e).now r (al.worlds r g)
                (ap (λ (t : TalkTold World). t.now) told);
            calls = λ r g. changed-alike n.calls m.calls at ((talk_of b n job left e).calls ++ n.calls at)
                ((talk_of b m job left e).calls ++ m.calls at) r (al.calls r g)
                (ap (λ (t : TalkTold World). t.calls ++ n.calls at) told
                ∙ ap (λ (xs : List PortCall). (talk_of b m job left e).calls ++ xs) (al.calls at there));
            inside = λ r g. changed-alike n.inside m.inside at (inside_after job left (Sent e bytes) c (n.inside at))
                (inside_after job left (Sent e bytes) c (m.inside at)) r (al.inside r g)
                (ap (inside_after job left (Sent e bytes) c) (al.inside at there));
          }

      lined-alike : (o : Option Act) (note : Note) (failed : Bool) → ((act : Act) → o ≡ Some act → ActIn b roots act note.marks)
          → IsAlike b roots who (lined_by b n o note failed) (lined_by b m o note failed)
      lined-alike None note failed on = al
      lined-alike (Some (Take l)) note failed on = al
      lined-alike (Some (Free l)) note failed on = al
      lined-alike (Some (Send job left)) note failed on = al
      lined-alike (Some (Settle v)) note failed on = al
      lined-alike (Some (Shift job)) note failed on =
          let at : ℕ = root_of b (job_bus job) in
          let there : roots at ≡ true = (on (Shift job) refl).0 in
          record {
            walk = al.walk;
            held = al.held;
            settled = al.settled;
            got = al.got;
            cut = al.cut;
            holder = al.holder;
            slot = λ p g. job_same job 0 note.marks (Lined failed) n.slot m.slot p (al.slot p g);
            worlds = λ r g. changed-alike n.worlds m.worlds at (after (n.worlds at) (line_call job failed))
                (after (m.worlds at) (line_call job failed)) r (al.worlds r g)
                (ap (λ (w : World). after w (line_call job failed)) (al.worlds at there));
            calls = λ r g. changed-alike n.calls m.calls at (line_call job failed ∷ n.calls at) (line_call job failed ∷ m.calls at) r
                (al.calls r g)
                (ap (λ (xs : List PortCall). line_call job failed ∷ xs) (al.calls at there));
            inside = al.inside;
          }

      -- .. and so is a lock
      lock-alike : (l : LockId) (who_has : Option ℕ) (held held2 : List LockId) → held ≡ held2
          → IsAlike b roots who (record n { held = changed_at n.held c held; holder = held_by n.holder l who_has })
          (record m { held = changed_at m.held c held2; holder = held_by m.holder l who_has })
      lock-alike l who_has held held2 same =
          record {
            walk = al.walk;
            held = λ d k. changed-alike n.held m.held c held held2 d (al.held d k) same;
            settled = al.settled;
            got = al.got;
            cut = al.cut;
            holder = λ k g. ap (λ (o : Option ℕ). cond (is_lock l k) who_has o) (al.holder k g);
            slot = al.slot;
            worlds = al.worlds;
            calls = al.calls;
            inside = al.inside;
          }

      taken-alike : (l : LockId) → IsAlike b roots who (taken n c l) (taken m c l)
      taken-alike l = lock-alike l (Some c) (l ∷ n.held c) (l ∷ m.held c) (ap (λ (ls : List LockId). l ∷ ls) (al.held c own))

      freed-alike : (l : LockId) → IsAlike b roots who (freed n c l) (freed m c l)
      freed-alike l = lock-alike l None (without l (n.held c)) (without l (m.held c)) (ap (without l) (al.held c own))

      settled-alike : (r : Reply) → IsAlike b roots who (settled_by n c r) (settled_by m c r)
      settled-alike r =
          record {
            walk = al.walk;
            held = al.held;
            settled = λ d k. changed-alike n.settled m.settled c (n.settled c ++ r ∷ []) (m.settled c ++ r ∷ []) d (al.settled d k)
                (ap (λ (rs : List Reply). rs ++ r ∷ []) (al.settled c own));
            got = λ d k. changed-alike n.got m.got c [] [] d (al.got d k) refl;
            cut = al.cut;
            holder = al.holder;
            slot = al.slot;
            worlds = al.worlds;
            calls = al.calls;
            inside = al.inside;
          }

  -- the settle that is due is no part of it
  due-alike : (n m : Now) (c : ℕ) → IsAlike b roots who n m → IsAlike b roots who (with_due c n) (with_due c m)
  due-alike n m c al = search rules

  module _ (all own : Asks) (n m : Now) (al : IsAlike b roots who n m) (c : ℕ) (cur : current b all n c ≡ current b own m c) where
    moved-alike : (new fresh : Now) (e : Entry) (out : ActOutcome) → IsAlike b roots who new fresh
        → IsAlike b roots who (moved b all n new c e out) (moved b own m fresh c e out)
    moved-alike new fresh e out l =
        record {
          walk = λ d k. changed-alike n.walk m.walk c (rest_of (current b all n c) out) (rest_of (current b own m c) out) d (al.walk d k)
              (ap (λ (w : WalkTree). rest_of w out) cur);
          held = l.held;
          settled = l.settled;
          got = l.got;
          cut = λ d k. changed-alike n.cut m.cut c (cut_told e) (cut_told e) d (al.cut d k) refl;
          holder = l.holder;
          slot = l.slot;
          worlds = l.worlds;
          calls = l.calls;
          inside = l.inside;
        }

  module _ (all own : Asks) (n m : Now) (al : IsAlike b roots who n m) (same : (c : ℕ) (rs : List Reply) → who c ≡ true
      → all c rs ≡ own c rs) where
    -- what one of its callers does next
    ahead-alike : (c : ℕ) → who c ≡ true → ahead b all n c ≡ ahead b own m c
    ahead-alike c k =
        ap (λ (w : WalkTree). cond (is_over w) (begun b (all c (n.settled c))) w) (al.walk c k)
        ∙ ap (λ (o : Option TransferView). cond (is_over (m.walk c)) (begun b o) (m.walk c))
        (ap (all c) (al.settled c k) ∙ same c (m.settled c) k)

    pub current-alike : (c : ℕ) → who c ≡ true → StaysIn b roots (ahead b own m c) → current b all n c ≡ current b own m c
    current-alike c k on = ap (seen n.slot) (ahead-alike c k) ∙ seen-alike n.slot m.slot al.slot (ahead b own m c) on

    module _ (c : ℕ) (k : who c ≡ true) (on : StaysIn b roots (ahead b own m c)) where
      abbrev act : Option Act
      act = first_act (current b own m c)

      abbrev note : Note
      note = first_note (current b own m c)

      acts : (a : Act) → act ≡ Some a → ActIn b roots a note.marks
      acts a e = first-in b roots (current b own m c) a (seen-in b roots m.slot (ahead b own m c) on) e

      cur : current b all n c ≡ current b own m c
      cur = current-alike c k on

      first : first_act (current b all n c) ≡ act
      first = ap first_act cur

      -- its message, and its line step
      message-alike : (reading : Bool) (bytes : List ℕ) (e : End)
          → IsAlike b roots who (sent_by b n c (first_act (current b all n c)) (first_note (current b all n c)) reading bytes e)
          (sent_by b m c act note reading bytes e)
      message-alike reading bytes e =
          subst (λ (w : WalkTree). IsAlike b roots who (sent_by b n c (first_act w) (first_note w) reading bytes e)
          (sent_by b m c act note reading bytes e)) (sym cur)
          (sent-alike n m al c k act note reading bytes e acts)

      line-alike : (failed : Bool)
          → IsAlike b roots who (lined_by b n (first_act (current b all n c)) (first_note (current b all n c)) failed)
          (lined_by b m act note failed)
      line-alike failed =
          subst (λ (w : WalkTree). IsAlike b roots who (lined_by b n (first_act w) (first_note w) failed) (lined_by b m act note failed))
          (sym cur)
          (lined-alike n m al c k act note failed acts)

    -- A STEP of one of its callers
    pub step-alike : (e : Entry) → (k : who (caller_of e) ≡ true) → StaysIn b roots (ahead b own m (caller_of e))
        → IsAlike b roots who (step b all n e) (step b own m e)
    step-alike (entry.Take c l) k on =
        moved-alike all own n m al c (cur c k on) (taken n c l) (taken m c l) (entry.Take c l) Passed (taken-alike n m al c k l)
    step-alike (entry.Free c l) k on =
        moved-alike all own n m al c (cur c k on) (freed n c l) (freed m c l) (entry.Free c l) Passed (freed-alike n m al c k l)
    step-alike (entry.Settle c r at) k on =
        moved-alike all own n m al c (cur c k on) (settled_by n c r) (settled_by m c r) (entry.Settle c r at) Passed
        (settled-alike n m al c k r)
    step-alike (entry.Line c mux level failed) k on =
        due-alike _ _ c (moved-alike all own n m al c (cur c k on) _ _ (entry.Line c mux level failed) (Lined failed)
        (line-alike c k on failed))
    step-alike (entry.Message c bus why part parts addr reading bytes heard e) k on =
        due-alike _ _ c (moved-alike all own n m al c (cur c k on) _ _ (entry.Message c bus why part parts addr reading bytes heard e)
        (Sent e bytes) (message-alike c k on reading bytes e))

    -- what is due after it
    pub step-due : n.due ≡ m.due → (e : Entry) → (k : who (caller_of e) ≡ true) → StaysIn b roots (ahead b own m (caller_of e))
        → (step b all n e).due ≡ (step b own m e).due
    step-due due (entry.Take c l) k on = due
    step-due due (entry.Free c l) k on = due
    step-due due (entry.Settle c r at) k on = refl
    step-due due (entry.Line c mux level failed) k on =
        ap (λ (w : WalkTree). cond (is_due (first_act w)) (Some c) None) ((step-alike (entry.Line c mux level failed) k on).walk c k)
    step-due due (entry.Message c bus why part parts addr reading bytes heard e) k on =
        ap (λ (w : WalkTree). cond (is_due (first_act w)) (Some c) None)
        ((step-alike (entry.Message c bus why part parts addr reading bytes heard e) k on).walk c k)

    tells-alike : (job : Job) (left : ℕ) (x : MessageEntry) → roots (root_of b (job_bus job)) ≡ true → TellsMessage b m job left x
        → TellsMessage b n job left x
    tells-alike job left x there t =
        record {
          on_bus = t.on_bus;
          for_purpose = t.for_purpose;
          as_part = t.as_part;
          of_parts = t.of_parts;
          to_addr = t.to_addr;
          in_direction = t.in_direction;
          bytes_told = t.bytes_told ∙ ap (λ (y : TalkTold World). y.bytes) (sym (talk-alike n m al job left x.end there));
          end_told = t.end_told ∙ ap (λ (y : TalkTold World). y.end) (sym (talk-alike n m al job left x.end there));
          heard_told = subst (λ (w : World). HearsIn w x.addr x.reading x.heard x.end) (sym
              (al.worlds (root_of b (job_bus job)) there)) t.heard_told;
        }

    -- it may come there too
    pub may-alike : (callers : ℕ) → n.due ≡ m.due → (e : Entry) → (k : who (caller_of e) ≡ true)
        → StaysIn b roots (ahead b own m (caller_of e)) → May b callers own m e → May b callers all n e
    may-alike callers due (entry.Take c l) k on may = (
      may.0,
      due ∙ may.1,
      first c k on ∙ may.2,
      al.holder l (acts c k on (Take l) may.2) ∙ may.3,
      subst (λ (ls : List LockId). IsBelow b l ls) (sym (al.held c k)) may.4,
    )
    may-alike callers due (entry.Free c l) k on may = (may.0, due ∙ may.1, first c k on ∙ may.2)
    may-alike callers due (entry.Settle c r at) k on may = (
      may.0,
      elim may.1 [ inl none ↦ inl (due ∙ none) | inr his ↦ inr (due ∙ his) ],
      may.2,
      first c k on ∙ may.3,
      may.4 ∙ ap (λ (o : Option TransferView). reply_by may.2 o (m.got c)) (sym (ap (all c) (al.settled c k) ∙ same c (m.settled c) k))
          ∙ ap (λ (xs : List ℕ). reply_by may.2 (all c (n.settled c)) xs) (sym (al.got c k)),
      may.5 ∙ sym (al.cut c k),
    )
    may-alike callers due (entry.Line c mux level failed) k on may =
        let told = may.2 in (may.0, due ∙ may.1, (told.0, first c k on ∙ told.1, told.2))
    may-alike callers due (entry.Message c bus why part parts addr reading bytes heard e) k on may =
        let told = may.2 in (
          may.0,
          due ∙ may.1,
          (
            told.0,
            told.1,
            first c k on ∙ told.2,
            tells-alike told.0 told.1 _
                (acts c k on (Send told.0 told.1) told.2).0 told.3,
          ),
        )

  -- THE WALKS of a group's own journal stay on its roots
  changed-by : (P : WalkTree → Type 0) (f : ℕ → WalkTree) (c : ℕ) (x : WalkTree) (d : ℕ) → P x → P (f d) → P (changed_at f c x d)
  changed-by P f c x d hx hf = by (d == c)
    where
      by : (t : Bool) → P (cond t x (f d))
      by true = hx
      by false = hf

  module _ (own : Asks) (tree : IsTree b)
      (rooted : (c : ℕ) (rs : List Reply) (t : TransferView) → own c rs ≡ Some t → t.bus < buses b → roots (root_of b t.bus) ≡ true) where
    pub ahead-in : (m : Now) (c : ℕ) → StaysIn b roots (m.walk c) → StaysIn b roots (ahead b own m c)
    ahead-in m c h = by (is_over (m.walk c))
      where
        begins : (o : Option TransferView) → own c (m.settled c) ≡ o → StaysIn b roots (begun b o)
        begins None e = tt
        begins (Some t) e = walk-in b roots tree t (rooted c (m.settled c) t e)

        by : (t : Bool) → StaysIn b roots (cond t (begun b (own c (m.settled c))) (m.walk c))
        by true = begins (own c (m.settled c)) refl
        by false = h

    pub step-in : (m : Now) (e : Entry) → ((c : ℕ) → StaysIn b roots (m.walk c)) → (d : ℕ) → StaysIn b roots ((step b own m e).walk d)
    step-in m e h d = by e
      where
        behind : (c : ℕ) (out : ActOutcome) → StaysIn b roots (changed_at m.walk c (rest_of (current b own m c) out) d)
        behind c out =
            changed-by (StaysIn b roots) m.walk c (rest_of (current b own m c) out) d
            (rest-in b roots (current b own m c) out (seen-in b roots m.slot (ahead b own m c) (ahead-in m c (h c)))) (h d)

        by : (x : Entry) → StaysIn b roots ((step b own m x).walk d)
        by (entry.Take c l) = behind c Passed
        by (entry.Free c l) = behind c Passed
        by (entry.Settle c r at) = behind c Passed
        by (entry.Line c mux level failed) = behind c (Lined failed)
        by (entry.Message c bus why part parts addr reading bytes heard e2) = behind c (Sent e2 bytes)
