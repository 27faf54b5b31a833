-- A legal past is stepwise: each rule over the whole of it tells of each entry what it takes to come where it does. The
-- inductions go over the steps of a caller, and over the entries.
use Rattle.journal_laws.proofs.Cited.{◌≡◌, ℕ, Bool, false, cond, List, [], ◌∷◌, ◌++◌, Option, refl, sym, ◌∙◌, ap, subst, inl, inr}
use Rattle.journal_laws.proofs.Cited.{append_assoc, append-nil, eq-eqb, ne_eqb, eqb_tells, Entry, Reply, BoardView, TransferView, Asks}
use Rattle.journal_laws.proofs.Cited.{WalkTree, Ends, walk_for, seen, first_act, rest_of, caller_of, replies, Everywhere, current, now}
use Rattle.journal_laws.proofs.Cited.{is_due, Tells, TellsNext, outcome_of, walk_left, Step, deed_next, step_next, replies_in, steps_in}
use Rattle.journal_laws.proofs.Cited.{Leads, AreWalks, none, whole, front, settled-told, reply_at, replies_first}
use Rattle.i2c_base.specs.declared.entry.Entry.TheVariants as entry
use Rattle.flat_laws.specs.Led.{AreAllWalks}
use Rattle.flat_laws.proofs.past.Walks.{replies_more}
use Rattle.journal_laws.proofs.past.Follow.{at_hand, Follow, under-way, begins, walks-follow}
use Rattle.journal_laws.proofs.past.Places.{walk-left}

-- THE STEPS OF A CALLER
module _ (b : BoardView) (asks : List Reply → Option TransferView) where
  -- the walk that is left behind steps
  abbrev pub walk_behind : List Reply → WalkTree → List Step → WalkTree
  walk_behind rs w [] = w
  walk_behind rs w (s ∷ ss) = walk_behind (rs ++ reply_at s.entry)
      (rest_of (seen s.before.slot (at_hand b asks rs w)) (outcome_of s.entry)) ss

  -- a step more: the walk at hand, and what the step tells of it
  abbrev pub hand_behind : List Reply → WalkTree → List Step → WalkTree
  hand_behind rs w ss = at_hand b asks (rs ++ replies_in ss) (walk_behind rs w ss)

  pub replies_shift : (rs : List Reply) (s : Step) (ss : List Step) → (rs ++ reply_at s.entry) ++ replies_in ss ≡ rs ++ replies_in (s ∷ ss)
  replies_shift rs s ss =
      append_assoc rs (reply_at s.entry) (replies_in ss) ∙ ap (λ (xs : List Reply). rs ++ xs)
      (sym (replies_first s.before s.deed s.entry ss))

  behind_last : (rs : List Reply) (w : WalkTree) (ss : List Step) (s : Step)
      → walk_behind rs w (ss ++ s ∷ []) ≡ rest_of (seen s.before.slot (hand_behind rs w ss)) (outcome_of s.entry)
  behind_last rs w [] s =
      ap (λ (xs : List Reply). rest_of (seen s.before.slot (at_hand b asks xs w)) (outcome_of s.entry)) (sym (append-nil rs))
  behind_last rs w (x ∷ ss) s =
      behind_last (rs ++ reply_at x.entry) (rest_of (seen x.before.slot (at_hand b asks rs w)) (outcome_of x.entry)) ss s
      ∙ ap (λ (xs : List Reply). rest_of (seen s.before.slot (at_hand b asks xs (walk_behind rs w (x ∷ ss)))) (outcome_of s.entry))
      (replies_shift rs x ss)

  follow_front : (rs : List Reply) (w : WalkTree) (ss : List Step) (s : Step) → Follow b asks rs w (ss ++ s ∷ []) → Follow b asks rs w ss
  follow_front rs w [] s follow = tt
  follow_front rs w (x ∷ ss) s follow = (
    follow.0,
    follow_front (rs ++ reply_at x.entry)
        (rest_of (seen x.before.slot (at_hand b asks rs w)) (outcome_of x.entry)) ss s follow.1,
  )

  follow_last : (rs : List Reply) (w : WalkTree) (ss : List Step) (s : Step) → Follow b asks rs w (ss ++ s ∷ [])
      → Tells b s.before (seen s.before.slot (hand_behind rs w ss)) s.entry
  follow_last rs w [] s follow =
      subst (λ (xs : List Reply). Tells b s.before (seen s.before.slot (at_hand b asks xs w)) s.entry) (sym (append-nil rs)) follow.0
  follow_last rs w (x ∷ ss) s follow =
      subst (λ (xs : List Reply). Tells b s.before (seen s.before.slot (at_hand b asks xs (walk_behind rs w (x ∷ ss)))) s.entry)
      (replies_shift rs x ss)
      (follow_last (rs ++ reply_at x.entry) (rest_of (seen x.before.slot (at_hand b asks rs w)) (outcome_of x.entry)) ss s follow.1)

  -- steps that lead through a walk leave what they lead to
  led-behind : (rs : List Reply) (w left : WalkTree) (mine rest : List Step) → Leads b w mine left
      → walk_behind rs w (mine ++ rest) ≡ walk_behind (rs ++ replies_in mine) left rest
  led-behind rs w left [] rest leads =
      ap (λ (x : WalkTree). walk_behind rs x rest) (sym leads) ∙ ap (λ (xs : List Reply). walk_behind xs left rest) (sym (append-nil rs))
  led-behind rs w left (s ∷ mine) rest leads =
      ap (λ (x : WalkTree). walk_behind (rs ++ reply_at s.entry) (rest_of (seen s.before.slot x) (outcome_of s.entry)) (mine ++ rest))
      (under-way b asks w rs s.before s.entry leads.0)
      ∙ led-behind (rs ++ reply_at s.entry) (rest_of (seen s.before.slot w) (outcome_of s.entry)) left mine rest leads.1
      ∙ ap (λ (xs : List Reply). walk_behind xs left rest) (replies_shift rs s mine)

  -- a walk that begins with a step is another name of the one at hand
  renamed-behind : (rs : List Reply) (w u : WalkTree) (s : Step) (ss : List Step) → at_hand b asks rs u ≡ at_hand b asks rs w
      → walk_behind rs u (s ∷ ss) ≡ walk_behind rs w (s ∷ ss)
  renamed-behind rs w u s ss same =
      ap (λ (x : WalkTree). walk_behind (rs ++ reply_at s.entry) (rest_of (seen s.before.slot x) (outcome_of s.entry)) ss) same

  -- after a caller's walks no settle is due
  not-due : (rs : List Reply) (steps : List Step) → AreWalks b asks rs steps → is_due (first_act (walk_behind rs Ends steps)) ≡ false
  not-due rs steps (none xs) = refl
  not-due rs steps (whole xs t mine rest all r asked leads settles more parts) =
      ap (λ (ss : List Step). is_due (first_act (walk_behind xs Ends ss))) parts ∙ by mine leads settles ∙ not-due (xs ++ r ∷ []) rest more
    where
      by : (ss : List Step) → Leads b (walk_for b t) ss Ends → replies_in ss ≡ r ∷ []
          → is_due (first_act (walk_behind xs Ends (ss ++ rest))) ≡ is_due (first_act (walk_behind (xs ++ r ∷ []) Ends rest))
      by [] leads settles = absurd (let f : [] ≡ r ∷ [] = settles in cc)
      by (s ∷ ss) leads settles =
          ap (λ (x : WalkTree). is_due (first_act x))
          (sym (renamed-behind xs Ends (walk_for b t) s (ss ++ rest) (begins b asks xs t asked))
          ∙ led-behind xs (walk_for b t) Ends (s ∷ ss) rest leads
          ∙ ap (λ (ys : List Reply). walk_behind (xs ++ ys) Ends rest) settles)
  not-due rs steps (front xs t mine left asked leads quiet) = by mine leads
    where
      by : (ss : List Step) → Leads b (walk_for b t) ss left → is_due (first_act (walk_behind xs Ends ss)) ≡ false
      by [] leads = refl
      by (s ∷ ss) leads =
          ap (λ (x : WalkTree). is_due (first_act x))
          (sym (renamed-behind xs Ends (walk_for b t) s ss (begins b asks xs t asked))
          ∙ ap (λ (ys : List Step). walk_behind xs (walk_for b t) ys) (sym (append-nil (s ∷ ss)))
          ∙ led-behind xs (walk_for b t) left (s ∷ ss) [] leads)
          ∙ quiet

-- THE ENTRIES OF A PAST
module _ (b : BoardView) (asks : Asks) where
  -- an entry as its caller's next step
  abbrev as_next : List Entry → ℕ → Entry → Step
  as_next past c e = step_next (now b asks past) (current b asks (now b asks past) c) e

  own_steps : (past : List Entry) (c : ℕ) (e : Entry) → caller_of e ≡ c
      → steps_in b asks c (e ∷ past) ≡ steps_in b asks c past ++ as_next past c e ∷ []
  own_steps past c e own =
      ap (λ (t : Bool). cond t (steps_in b asks c past ++ as_next past c e ∷ []) (steps_in b asks c past))
      (eq-eqb (caller_of e) c own)

  other_steps : (past : List Entry) (c : ℕ) (e : Entry) → (caller_of e ≡ c → ⊥) → steps_in b asks c (e ∷ past) ≡ steps_in b asks c past
  other_steps past c e other =
      ap (λ (t : Bool). cond t (steps_in b asks c past ++ as_next past c e ∷ []) (steps_in b asks c past))
      (ne_eqb (caller_of e) c other)

  -- the replies of a caller, after an entry of its own and one of another's
  pub own_replies : (past : List Entry) (c : ℕ) (e : Entry) → caller_of e ≡ c → replies (e ∷ past) c ≡ replies past c ++ reply_at e
  own_replies past c (entry.Take d l) own = sym (append-nil (replies past c))
  own_replies past c (entry.Free d l) own = sym (append-nil (replies past c))
  own_replies past c (entry.Message d bus purpose part parts addr reading bytes heard e) own = sym (append-nil (replies past c))
  own_replies past c (entry.Line d mux level failed) own = sym (append-nil (replies past c))
  own_replies past c (entry.Settle d r cut) own = ap (λ (t : Bool). cond t (replies past c ++ r ∷ []) (replies past c)) (eq-eqb d c own)

  pub other_replies : (past : List Entry) (c : ℕ) (e : Entry) → (caller_of e ≡ c → ⊥) → replies (e ∷ past) c ≡ replies past c
  other_replies past c (entry.Take d l) other = refl
  other_replies past c (entry.Free d l) other = refl
  other_replies past c (entry.Message d bus purpose part parts addr reading bytes heard e) other = refl
  other_replies past c (entry.Line d mux level failed) other = refl
  other_replies past c (entry.Settle d r cut) other = ap (λ (t : Bool). cond t (replies past c ++ r ∷ []) (replies past c))
      (ne_eqb d c other)

  -- a caller's replies are those of its steps
  replies_steps : (past : List Entry) (c : ℕ) → replies_in (steps_in b asks c past) ≡ replies past c
  replies_steps [] c = refl
  replies_steps (e ∷ past) c =
      elim (eqb_tells (caller_of e) c) [
        | inl h ↦ ap replies_in (own_steps past c e h.1)
            ∙ replies_more (steps_in b asks c past) (now b asks past) (deed_next (current b asks (now b asks past) c)) e
            ∙ ap (λ (rs : List Reply). rs ++ reply_at e) (replies_steps past c) ∙ sym (own_replies past c e h.1)
        | inr h ↦ ap replies_in (other_steps past c e h.1) ∙ replies_steps past c ∙ sym (other_replies past c e h.1)
      ]

  -- the walk at hand after a caller's steps is the one that its next step is of
  pub hand : (past : List Entry) (c : ℕ) → walk_behind b (asks c) [] Ends (steps_in b asks c past) ≡ (now b asks past).walk c
      → hand_behind b (asks c) [] Ends (steps_in b asks c past) ≡ at_hand b (asks c) ((now b asks past).settled c)
      ((now b asks past).walk c)
  hand past c walk =
      ap (λ (rs : List Reply). at_hand b (asks c) rs (walk_behind b (asks c) [] Ends (steps_in b asks c past))) (replies_steps past c
      ∙ sym (settled-told b asks past c))
      ∙ ap (λ (w : WalkTree). at_hand b (asks c) ((now b asks past).settled c) w) walk

  -- what is left of its walk is what its steps leave
  pub walk_steps : (past : List Entry) (c : ℕ) → walk_behind b (asks c) [] Ends (steps_in b asks c past) ≡ (now b asks past).walk c
  walk_steps [] c = refl
  walk_steps (e ∷ past) c =
      elim (eqb_tells c (caller_of e)) [
        | inl h ↦ ap (λ (ss : List Step). walk_behind b (asks c) [] Ends ss) (own_steps past c e (sym h.1))
            ∙ behind_last b (asks c) [] Ends (steps_in b asks c past) (as_next past c e)
            ∙ ap (λ (w : WalkTree). rest_of (seen (now b asks past).slot w) (outcome_of e)) (hand past c (walk_steps past c))
            ∙ sym (ap (λ (t : Bool). cond t (rest_of (current b asks (now b asks past) c) (outcome_of e)) (walk_left b asks past c)) h.0)
            ∙ sym (walk-left b asks (e ∷ past) c)
        | inr h ↦ ap (λ (ss : List Step). walk_behind b (asks c) [] Ends ss) (other_steps past c e (λ f. h.1 (sym f)))
            ∙ walk_steps past c ∙ walk-left b asks past c
            ∙ sym (ap (λ (t : Bool). cond t (rest_of (current b asks (now b asks past) c) (outcome_of e)) (walk_left b asks past c)) h.0)
            ∙ sym (walk-left b asks (e ∷ past) c)
      ]

  -- EACH ENTRY is its caller's next step
  pub each-tells : (past : List Entry) → ((c : ℕ) → Follow b (asks c) [] Ends (steps_in b asks c past))
      → Everywhere (λ e before. TellsNext b asks (now b asks before) e) past
  each-tells [] follow = tt
  each-tells (e ∷ past) follow = (
    subst (λ (w : WalkTree). Tells b (now b asks past) (seen (now b asks past).slot w) e)
        (hand past (caller_of e) (walk_steps past (caller_of e)))
        (follow_last b (asks (caller_of e)) [] Ends (steps_in b asks (caller_of e) past)
        (as_next past (caller_of e) e)
        (subst (λ (ss : List Step). Follow b (asks (caller_of e)) [] Ends ss) (own_steps past (caller_of e) e refl)
        (follow (caller_of e)))),
    each-tells past (λ c. elim (eqb_tells (caller_of e) c) [
      | inl h ↦ follow_front b (asks c) [] Ends (steps_in b asks c past) (as_next past c e)
          (subst (λ (ss : List Step). Follow b (asks c) [] Ends ss) (own_steps past c e h.1) (follow c))
      | inr h ↦ subst (λ (ss : List Step). Follow b (asks c) [] Ends ss) (other_steps past c e h.1) (follow c)
    ]),
  )

  -- no settle is due after all of a caller's walks
  pub walks-due : (past : List Entry) → AreAllWalks b asks past → (c : ℕ) → is_due (first_act ((now b asks past).walk c)) ≡ false
  walks-due past walks c =
      ap (λ (w : WalkTree). is_due (first_act w)) (sym (walk_steps past c)) ∙ not-due b (asks c) [] (steps_in b asks c past) (walks c)

  pub walks-tell : (past : List Entry) → AreAllWalks b asks past → Everywhere (λ e before. TellsNext b asks (now b asks before) e) past
  walks-tell past walks = each-tells past (λ c. walks-follow b (asks c) [] (steps_in b asks c past) (walks c))
