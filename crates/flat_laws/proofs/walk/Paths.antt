-- Each piece of the walk's grammar keeps its rule: a path to the end splits where the piece is done, and a list that keeps
-- the rule leads through the piece. The inductions go over the messages of a job, the locks, and the hops.
use Rattle.flat_laws.proofs.Cited.{◌≡◌, ℕ, zero, suc, Bool, true, false, cond, ◌&&◌, List, [], ◌∷◌, ◌++◌, map, reverse, Option, Some, None}
use Rattle.flat_laws.proofs.Cited.{refl, sym, ◌∙◌, ap, subst, append_assoc, append-nil, map_push, LockId, Errno, BoardView, Hop, locks_of}
use Rattle.flat_laws.proofs.Cited.{Job, Select, SwitchOff, Act, Take, Free, Send, Shift, Settle, ActOutcome, Passed, Note, WalkTree, Ends}
use Rattle.flat_laws.proofs.Cited.{Look, Then, goes, verdict_of, more_of, plain, locked, inner, deed_by, IsPath, Deed, without_marks}
use Rattle.flat_laws.proofs.Cited.{PathStep, Saw, Did, deed_of}
use Rattle.std.proofs.Common.{MatchBool}
use Rattle.std.proofs.lemmas.List.{reverse-append}
use Rattle.bus_spec.specs.Walk.{Deselect, Close, JobOutcome, Good, Refused, Unsent, Failed, Ask, MarkOf, KeptOf, Go, On, Last, Over}
use Rattle.bus_spec.specs.Walk.{job_outcome, decides, is_line}
use Rattle.bus_spec.specs.Grammar.{Doer, settled, over, by_go, messages, at_bus, part, if_sent, if_good, kind_of, closing, left_behind}
use Rattle.bus_spec.specs.Grammar.{opened, chosen, crossed, behind, full}
use Rattle.bus_spec.specs.Grammar as grammar
use Rattle.flat_laws.specs.Paths.{note_of, IsDoneBy}
use Rattle.bus_spec.specs.WalkRule.{Rule, for_jobs, is_forward, settle_where, IsJobEnd, next_by, next_message, NextOr, AreMessages}
use Rattle.bus_spec.specs.WalkRule.{IsLineStep, AtBus, IsLocked, IsLeft, IsOpened, IsCrossed, IsPassed, IfGood, IsChosen, IfSent, IsClosed}
use Rattle.bus_spec.specs.WalkRule.{IsBehindMux, IsPart, IsInner, IsFull}

pub path_append : (xs ys : List PathStep) (u v w : WalkTree) → IsPath xs u v → IsPath ys v w → IsPath (xs ++ ys) u w
path_append [] ys u v w p q = subst (λ (x : WalkTree). IsPath ys x w) (sym p) q
path_append (Saw a m ∷ xs) ys Ends v w p q = absurd p
path_append (Saw a m ∷ xs) ys (Look ask next) v w p q = (p.0, path_append xs ys (next m) v w p.1 q)
path_append (Saw a m ∷ xs) ys (Then act note next) v w p q = absurd p
path_append (Did a o ∷ xs) ys Ends v w p q = absurd p
path_append (Did a o ∷ xs) ys (Look ask next) v w p q = absurd p
path_append (Did a o ∷ xs) ys (Then act note next) v w p q = (p.0, path_append xs ys (next o) v w p.1 q)

-- the front and the rest of a path
pub path_split : (xs ys : List PathStep) (u w : WalkTree) → IsPath (xs ++ ys) u w → (v : WalkTree) × IsPath xs u v × IsPath ys v w
path_split [] ys u w p = (u, refl, p)
path_split (Saw a m ∷ xs) ys Ends w p = absurd p
path_split (Saw a m ∷ xs) ys (Look ask next) w p = (let s = path_split xs ys (next m) w p.1 in (s.0, (p.0, s.1), s.2))
path_split (Saw a m ∷ xs) ys (Then act note next) w p = absurd p
path_split (Did a o ∷ xs) ys Ends w p = absurd p
path_split (Did a o ∷ xs) ys (Look ask next) w p = absurd p
path_split (Did a o ∷ xs) ys (Then act note next) w p = (let s = path_split xs ys (next o) w p.1 in (s.0, (p.0, s.1), s.2))

-- each walk has a path to its end
pub some_path : (w : WalkTree) → (steps : List PathStep) × IsPath steps w Ends
some_path Ends = ([], refl)
some_path (Look ask next) = (let s = some_path (next None) in (Saw ask None ∷ s.0, (refl, s.1)))
some_path (Then act note next) = (let s = some_path (next Passed) in (Did (deed_by act note) Passed ∷ s.0, (refl, s.1)))

-- what goes on with an outcome, and the rule of what is done before
abbrev pub Task : Type 0
Task = (JobOutcome → WalkTree) → WalkTree

pub record Split (Q : List PathStep → JobOutcome → Type 0) (k : JobOutcome → WalkTree) (steps : List PathStep) : Type 0 where
  pub out : JobOutcome
  pub done : List PathStep
  pub rest : List PathStep
  pub all : steps ≡ done ++ rest
  pub kept : Q done out
  pub goes_on : IsPath rest (k out) Ends

abbrev pub Splits : Task → (List PathStep → JobOutcome → Type 0) → Type 0
Splits T Q = (k : JobOutcome → WalkTree) (steps : List PathStep) → IsPath steps (T k) Ends → Split Q k steps

abbrev pub Leads : Task → (List PathStep → JobOutcome → Type 0) → Type 0
Leads T Q = (steps : List PathStep) (out : JobOutcome) → Q steps out → (k : JobOutcome → WalkTree) → IsPath steps (T k) (k out)

-- one path after the other, and what both come to
splits-on : {P Q R : List PathStep → JobOutcome → Type 0} {j k : JobOutcome → WalkTree} {steps : List PathStep} (s : Split P j steps)
    (t : Split Q k s.rest) → R (s.done ++ t.done) t.out → Split R k steps
splits-on s t both = record {
  out = t.out;
  done = s.done ++ t.done;
  rest = t.rest;
  all = s.all ∙ ap (λ (xs : List PathStep). s.done ++ xs) t.all ∙ sym (append_assoc s.done t.done t.rest);
  kept = both;
  goes_on = t.goes_on;
}

-- one step, and what follows each outcome
abbrev StepThen : Deed → (ActOutcome → List PathStep → JobOutcome → Type 0) → List PathStep → JobOutcome → Type 0
StepThen deed Q [] out = ⊥
StepThen deed Q (Saw ask mark ∷ steps) out = ⊥
StepThen deed Q (Did a o ∷ steps) out = (a ≡ deed) × Q o steps out

splits-then : (act : Act) (note : Note) (T : ActOutcome → Task) (Q : ActOutcome → List PathStep → JobOutcome → Type 0)
    → ((o : ActOutcome) → Splits (T o) (Q o)) → Splits (λ k. Then act note (λ o. T o k)) (StepThen (deed_by act note) Q)
splits-then act note T Q each k [] path = absurd (let f : Then act note (λ o. T o k) ≡ Ends = path in cc)
splits-then act note T Q each k (Saw ask m ∷ steps) path = absurd path
splits-then act note T Q each k (Did a o ∷ steps) path =
    let s = each o k steps path.1 in
    record {
      out = s.out;
      done = Did a o ∷ s.done;
      rest = s.rest;
      all = ap (λ (xs : List PathStep). Did a o ∷ xs) s.all;
      kept = (path.0, s.kept);
      goes_on = s.goes_on;
    }

leads-then : (act : Act) (note : Note) (T : ActOutcome → Task) (Q : ActOutcome → List PathStep → JobOutcome → Type 0)
    → ((o : ActOutcome) → Leads (T o) (Q o)) → Leads (λ k. Then act note (λ o. T o k)) (StepThen (deed_by act note) Q)
leads-then act note T Q each [] out kept k = absurd kept
leads-then act note T Q each (Saw ask m ∷ steps) out kept k = absurd kept
leads-then act note T Q each (Did a o ∷ steps) out kept k = (kept.0, each o steps out kept.1 k)

-- the settle after a job
abbrev SettleRule : Bool → Option Errno → JobOutcome → List PathStep → JobOutcome → Type 0
SettleRule t v o steps out = (map deed_of steps ≡ settle_where t v) × (out ≡ o)

pub no_acts : (steps : List PathStep) → map deed_of steps ≡ [] → steps ≡ []
no_acts [] e = refl
no_acts (p ∷ steps) e = absurd (let f : deed_of p ∷ map deed_of steps ≡ [] = e in cc)

-- a list of which this is the first step
pub first_step : (steps : List PathStep) (a : Deed) (acts : List (Option Deed)) → map deed_of steps ≡ Some a ∷ acts
    → (o : ActOutcome) × (rest : List PathStep) × (steps ≡ Did a o ∷ rest) × (map deed_of rest ≡ acts)
first_step [] a acts e = absurd (let f : [] ≡ Some a ∷ acts = e in cc)
first_step (Saw ask m ∷ steps) a acts e = absurd (let f : None ∷ map deed_of steps ≡ Some a ∷ acts = e in cc)
first_step (Did d o ∷ steps) a acts e =
    let f : Some d ∷ map deed_of steps ≡ Some a ∷ acts = e in
    (o, steps, ap (λ (x : Deed). Did x o ∷ steps) (let g : d ≡ a = cc in g), (let g : map deed_of steps ≡ acts = cc in g))

-- .. and one of which this is the last
last_step : (steps : List PathStep) (acts : List (Option Deed)) (a : Deed) → map deed_of steps ≡ acts ++ Some a ∷ []
    → (front : List PathStep) × (o : ActOutcome) × (steps ≡ front ++ Did a o ∷ []) × (map deed_of front ≡ acts)
last_step steps [] a e =
    let s = first_step steps a [] e in
    ([], s.0, s.2 ∙ ap (λ (xs : List PathStep). Did a s.0 ∷ xs) (no_acts s.1 s.3), refl)
last_step [] (x ∷ acts) a e = absurd (let f : [] ≡ x ∷ (acts ++ Some a ∷ []) = e in cc)
last_step (p ∷ steps) (x ∷ acts) a e =
    let f : deed_of p ∷ map deed_of steps ≡ x ∷ (acts ++ Some a ∷ []) = e in
    let s = last_step steps acts a (let g : map deed_of steps ≡ acts ++ Some a ∷ [] = cc in g) in (
      p ∷ s.0,
      s.1,
      ap (λ (xs : List PathStep). p ∷ xs) s.2,
      ap (λ (y : Option Deed). y ∷ map deed_of s.0) (let g : deed_of p ≡ x = cc in g)
          ∙ ap (λ (ys : List (Option Deed)). x ∷ ys) s.3,
    )

splits-settled : (t : Bool) (v : Option Errno) (o : JobOutcome) → Splits (λ k. settled t v (k o)) (SettleRule t v o)
splits-settled true v o k [] path = absurd (let f : Then (Settle v) plain (λ x. k o) ≡ Ends = path in cc)
splits-settled true v o k (Saw ask m ∷ steps) path = absurd path
splits-settled true v o k (Did a x ∷ steps) path =
    record {
      out = o;
      done = Did a x ∷ [];
      rest = steps;
      all = refl;
      kept = (ap (λ (y : Deed). Some y ∷ []) path.0, refl);
      goes_on =
          path.1;
    }
splits-settled false v o k steps path = record { out = o; done = []; rest = steps; all = refl; kept = (refl, refl); goes_on = path }

leads-settled : (t : Bool) (v : Option Errno) (o : JobOutcome) → Leads (λ k. settled t v (k o)) (SettleRule t v o)
leads-settled true v o steps out kept k =
    let s = first_step steps (without_marks (Settle v)) [] kept.0 in
    subst (λ (xs : List PathStep). IsPath xs (Then (Settle v) plain (λ x. k o)) (k out))
    (sym (s.2 ∙ ap (λ (xs : List PathStep). Did (without_marks (Settle v)) s.0 ∷ xs) (no_acts s.1 s.3)))
    (refl, ap k (sym kept.1))
leads-settled false v o steps out kept k =
    subst (λ (xs : List PathStep). IsPath xs (k o) (k out)) (sym (no_acts steps kept.0)) (ap k (sym kept.1))

splits-over : (job : Job) (left : ℕ) (whose : List Job) (out : ActOutcome)
    → Splits (λ k. over job left (note_of job whose) k out) (IsJobEnd job whose left out)
splits-over job left whose out =
    splits-settled (is_forward (job ∷ whose) && decides job (job_outcome job left out)) (verdict_of job left out) (job_outcome job left out)

leads-over : (job : Job) (left : ℕ) (whose : List Job) (out : ActOutcome)
    → Leads (λ k. over job left (note_of job whose) k out) (IsJobEnd job whose left out)
leads-over job left whose out =
    leads-settled (is_forward (job ∷ whose) && decides job (job_outcome job left out)) (verdict_of job left out) (job_outcome job left out)

-- THE MESSAGES of a job
same-rule : (P Q : List PathStep → JobOutcome → Type 0) → ((steps : List PathStep) (out : JobOutcome) → P steps out → Q steps out)
    → (k : JobOutcome → WalkTree) (steps : List PathStep) → Split P k steps → Split Q k steps
same-rule P Q f k steps s = record {
  out = s.out;
  done = s.done;
  rest = s.rest;
  all = s.all;
  kept = f s.done s.out s.kept;
  goes_on = s.goes_on;
}

splits-go : (g : Go) (left : ℕ) (M : ℕ → List PathStep → JobOutcome → Type 0) (E : List PathStep → JobOutcome → Type 0) (A B C : Task)
    → Splits A (M left) → Splits B (M zero) → Splits C E
    → Splits (λ k. by_go g (A k) (B k) (C k)) (λ steps out. NextOr (next_by g left) (λ next. M next steps out) (E steps out))
splits-go On left M E A B C a b c = a
splits-go Last left M E A B C a b c = b
splits-go Over left M E A B C a b c = c

leads-go : (g : Go) (left : ℕ) (M : ℕ → List PathStep → JobOutcome → Type 0) (E : List PathStep → JobOutcome → Type 0) (A B C : Task)
    → Leads A (M left) → Leads B (M zero) → Leads C E
    → Leads (λ k. by_go g (A k) (B k) (C k)) (λ steps out. NextOr (next_by g left) (λ next. M next steps out) (E steps out))
leads-go On left M E A B C a b c = a
leads-go Last left M E A B C a b c = b
leads-go Over left M E A B C a b c = c

-- a job's next message, and the rule of what follows it
abbrev MessageThen : Job → List Job → ℕ → List PathStep → JobOutcome → Type 0
MessageThen job whose left =
    StepThen (for_jobs (Send job left) (job ∷ whose)) (λ o steps out. NextOr (next_message job left o)
    (λ next. AreMessages job whose next steps out)
    (IsJobEnd job whose left o steps out))

to_messages : (job : Job) (whose : List Job) (left : ℕ) (steps : List PathStep) (out : JobOutcome) → MessageThen job whose left steps out
    → AreMessages job whose left steps out
to_messages job whose left [] out p = p
to_messages job whose left (Saw ask m ∷ steps) out p = p
to_messages job whose left (Did a o ∷ steps) out p = p

of_messages : (job : Job) (whose : List Job) (left : ℕ) (steps : List PathStep) (out : JobOutcome) → AreMessages job whose left steps out
    → MessageThen job whose left steps out
of_messages job whose left [] out p = p
of_messages job whose left (Saw ask m ∷ steps) out p = p
of_messages job whose left (Did a o ∷ steps) out p = p

splits-last : (job : Job) (whose : List Job) → Splits (messages zero job (note_of job whose)) (AreMessages job whose zero)
splits-last job whose = λ k steps path.
    same-rule (MessageThen job whose zero) (AreMessages job whose zero) (to_messages job whose zero) k steps
    (splits-then (Send job zero) (note_of job whose) (λ o k. over job zero (note_of job whose) k o) (λ o. IsJobEnd job whose zero o)
    (λ o. splits-over job zero whose o) k steps path)

splits-messages : (n : ℕ) (job : Job) (whose : List Job) → Splits (messages n job (note_of job whose)) (AreMessages job whose n)
splits-messages zero job whose = splits-last job whose
splits-messages (suc left) job whose = λ k steps path.
    same-rule (MessageThen job whose (suc left)) (AreMessages job whose (suc left))
    (to_messages job whose (suc left)) k steps
    (splits-then (Send job (suc left)) (note_of job whose)
    (λ o k. by_go (goes job left o) (messages left job (note_of job whose) k)
    (Then (Send job zero) (note_of job whose) (over job zero (note_of job whose) k))
    (over job (suc left) (note_of job whose) k o))
    (λ o steps out. NextOr (next_message job (suc left) o) (λ next. AreMessages job whose next steps out)
    (IsJobEnd job whose (suc left) o steps out))
    (λ o. splits-go (goes job left o) left (λ next. AreMessages job whose next) (IsJobEnd job whose (suc left) o)
    (messages left job (note_of job whose)) (messages zero job (note_of job whose)) (λ k. over job (suc left) (note_of job whose) k o)
    (splits-messages left job whose) (splits-last job whose) (splits-over job (suc left) whose o)) k steps path)

leads-last : (job : Job) (whose : List Job) → Leads (messages zero job (note_of job whose)) (AreMessages job whose zero)
leads-last job whose = λ steps out kept k.
    leads-then (Send job zero) (note_of job whose) (λ o k. over job zero (note_of job whose) k o) (λ o. IsJobEnd job whose zero o)
    (λ o. leads-over job zero whose o) steps out
    (of_messages job whose zero steps out kept) k

leads-messages : (n : ℕ) (job : Job) (whose : List Job) → Leads (messages n job (note_of job whose)) (AreMessages job whose n)
leads-messages zero job whose = leads-last job whose
leads-messages (suc left) job whose = λ steps out kept k.
    leads-then (Send job (suc left)) (note_of job whose)
    (λ o k. by_go (goes job left o) (messages left job (note_of job whose) k)
    (Then (Send job zero) (note_of job whose) (over job zero (note_of job whose) k))
    (over job (suc left) (note_of job whose) k o))
    (λ o steps out. NextOr (next_message job (suc left) o) (λ next. AreMessages job whose next steps out)
    (IsJobEnd job whose (suc left) o steps out))
    (λ o. leads-go (goes job left o) left (λ next. AreMessages job whose next) (IsJobEnd job whose (suc left) o)
    (messages left job (note_of job whose)) (messages zero job (note_of job whose)) (λ k. over job (suc left) (note_of job whose) k o)
    (leads-messages left job whose) (leads-last job whose) (leads-over job (suc left) whose o)) steps out
    (of_messages job whose (suc left) steps out kept) k

-- one of two
splits-if : (t : Bool) (A B : Task) (P Q : List PathStep → JobOutcome → Type 0) → Splits A P → Splits B Q
    → Splits (λ k. cond t (A k) (B k)) (λ steps out. MatchBool t (P steps out) (Q steps out))
splits-if true A B P Q a b = a
splits-if false A B P Q a b = b

leads-if : (t : Bool) (A B : Task) (P Q : List PathStep → JobOutcome → Type 0) → Leads A P → Leads B Q
    → Leads (λ k. cond t (A k) (B k)) (λ steps out. MatchBool t (P steps out) (Q steps out))
leads-if true A B P Q a b = a
leads-if false A B P Q a b = b

to_line : (job : Job) (whose : List Job) (steps : List PathStep) (out : JobOutcome)
    → StepThen (for_jobs (Shift job) (job ∷ whose)) (λ o. IsJobEnd job whose zero o) steps out → IsLineStep job whose steps out
to_line job whose [] out p = p
to_line job whose (Saw ask m ∷ steps) out p = p
to_line job whose (Did a o ∷ steps) out p = p

of_line : (job : Job) (whose : List Job) (steps : List PathStep) (out : JobOutcome) → IsLineStep job whose steps out
    → StepThen (for_jobs (Shift job) (job ∷ whose)) (λ o. IsJobEnd job whose zero o) steps out
of_line job whose [] out p = p
of_line job whose (Saw ask m ∷ steps) out p = p
of_line job whose (Did a o ∷ steps) out p = p

-- EACH PIECE over a doer that keeps a rule
pub record Keeps (on : Doer) (rule : Rule) : Type 0 where
  pub splits : (job : Job) (whose : List Job) → Splits (on job (note_of job whose)) (rule job whose)
  pub leads : (job : Job) (whose : List Job) → Leads (on job (note_of job whose)) (rule job whose)

keeps-at_bus : Keeps at_bus AtBus
keeps-at_bus =
    record {
      splits = λ job whose.
          splits-if (is_line job) (λ k. Then (Shift job) (note_of job whose) (over job zero (note_of job whose) k))
          (messages (more_of job) job (note_of job whose))
          (IsLineStep job whose) (AreMessages job whose (more_of job))
          (λ k steps path. same-rule (StepThen (for_jobs (Shift job) (job ∷ whose)) (λ o. IsJobEnd job whose zero o)) (IsLineStep job whose)
          (to_line job whose) k steps
          (splits-then (Shift job) (note_of job whose) (λ o k. over job zero (note_of job whose) k o) (λ o. IsJobEnd job whose zero o)
          (λ o. splits-over job zero whose o) k steps path))
          (splits-messages (more_of job) job whose);
      leads = λ job whose.
          leads-if (is_line job) (λ k. Then (Shift job) (note_of job whose) (over job zero (note_of job whose) k))
          (messages (more_of job) job (note_of job whose))
          (IsLineStep job whose) (AreMessages job whose (more_of job))
          (λ steps out kept k. leads-then (Shift job) (note_of job whose) (λ o k. over job zero (note_of job whose) k o)
          (λ o. IsJobEnd job whose zero o)
          (λ o. leads-over job zero whose o) steps out
          (of_line job whose steps out kept) k)
          (leads-messages (more_of job) job whose);
    }

-- the locks that are freed, with one that is freed last
freed-more : (l : LockId) (ls : List LockId)
    → map (λ (i : LockId). Some (without_marks (Free i))) (reverse (l ∷ ls))
    ≡ map (λ (i : LockId). Some (without_marks (Free i))) (reverse ls) ++ Some (without_marks (Free l)) ∷ []
freed-more l ls = ap (map (λ (i : LockId). Some (without_marks (Free i)))) (reverse-append (l ∷ []) ls)
    ∙ map_push (λ (i : LockId). Some (without_marks (Free i))) (reverse ls) l

module _ (on : Doer) (rule : Rule) (keeps : Keeps on rule) where
  -- LOCKS
  one_more : (l : LockId) (ls : List LockId) (job : Job) (whose : List Job) (k : JobOutcome → WalkTree) (o : ActOutcome) (a : Deed)
      (steps : List PathStep) → a ≡ without_marks (Take l)
      → Split (IsLocked ls rule job whose) (λ out. Then (Free l) plain (λ o2. k out)) steps
      → Split (IsLocked (l ∷ ls) rule job whose) k (Did a o ∷ steps)
  one_more l ls job whose k o a steps take s = by s.rest s.all s.goes_on
    where
      by : (rest : List PathStep) → steps ≡ s.done ++ rest → IsPath rest (Then (Free l) plain (λ o2. k s.out)) Ends
          → Split (IsLocked (l ∷ ls) rule job whose) k (Did a o ∷ steps)
      by [] all path = absurd (let f : Then (Free l) plain (λ o2. k s.out) ≡ Ends = path in cc)
      by (Saw ask m ∷ rest) all path = absurd path
      by (Did free o2 ∷ rest) all path =
          record {
            out = s.out;
            done = Did a o ∷ (s.done ++ Did free o2 ∷ []);
            rest = rest;
            all = ap (λ (xs : List PathStep). Did a o ∷ xs) (all ∙ sym (append_assoc s.done (Did free o2 ∷ []) rest));
            kept = record {
              takes = Did a o ∷ s.kept.takes;
              middle = s.kept.middle;
              frees = s.kept.frees ++ Did free o2 ∷ [];
              all = ap (λ (xs : List PathStep). Did a o ∷ xs)
                  (ap (λ (xs : List PathStep). xs ++ Did free o2 ∷ []) s.kept.all
                  ∙ append_assoc s.kept.takes (s.kept.middle ++ s.kept.frees) (Did free o2 ∷ [])
                  ∙ ap (λ (xs : List PathStep). s.kept.takes ++ xs) (append_assoc s.kept.middle s.kept.frees (Did free o2 ∷ [])));
              taken = ap (λ (x : Deed). Some x ∷ map deed_of s.kept.takes) take
                  ∙ ap (λ (xs : List (Option Deed)). Some (without_marks (Take l)) ∷ xs) s.kept.taken;
              job_done = s.kept.job_done;
              freed = map_push deed_of s.kept.frees (Did free o2)
                  ∙ ap (λ (xs : List (Option Deed)). xs ++ Some free ∷ []) s.kept.freed
                  ∙ ap (λ (x : Deed). map (λ (i : LockId). Some (without_marks (Free i))) (reverse ls) ++ Some x ∷ []) path.0
                  ∙ sym (freed-more l ls);
            };
            goes_on = path.1;
          }

  splits-locked : (ls : List LockId) (job : Job) (whose : List Job) → Splits (locked ls on job (note_of job whose))
      (IsLocked ls rule job whose)
  splits-locked [] job whose k steps path =
      let s = keeps.splits job whose k steps path in
      record {
        out = s.out;
        done = s.done;
        rest = s.rest;
        all = s.all;
        kept = record {
          takes = [];
          middle = s.done;
          frees = [];
          all = sym (append-nil s.done);
          taken = refl;
          job_done = s.kept;
          freed = refl;
        };
        goes_on = s.goes_on;
      }
  splits-locked (l ∷ ls) job whose k [] path =
      absurd (let f : Then (Take l) plain (λ o. locked ls on job (note_of job whose) (λ out. Then (Free l) plain (λ o2. k out))) ≡ Ends =
      path in cc)
  splits-locked (l ∷ ls) job whose k (Saw ask m ∷ steps) path = absurd path
  splits-locked (l ∷ ls) job whose k (Did a o ∷ steps) path =
      one_more l ls job whose k o a steps path.0 (splits-locked ls job whose (λ out. Then (Free l) plain (λ o2. k out)) steps path.1)

  leads-locked : (ls : List LockId) (job : Job) (whose : List Job) → Leads (locked ls on job (note_of job whose))
      (IsLocked ls rule job whose)
  leads-locked [] job whose steps out kept k =
      subst (λ (xs : List PathStep). IsPath xs (on job (note_of job whose) k) (k out))
      (sym (kept.all ∙ ap (λ (xs : List PathStep). xs ++ (kept.middle ++ kept.frees)) (no_acts kept.takes kept.taken)
      ∙ ap (λ (xs : List PathStep). kept.middle ++ xs) (no_acts kept.frees kept.freed) ∙ append-nil kept.middle))
      (keeps.leads job whose kept.middle out kept.job_done k)
  leads-locked (l ∷ ls) job whose steps out kept k =
      let take = first_step kept.takes (without_marks (Take l)) (map (λ (i : LockId). Some (without_marks (Take i))) ls) kept.taken in
      let free = last_step kept.frees (map (λ (i : LockId). Some (without_marks (Free i))) (reverse ls)) (without_marks (Free l))
      (kept.freed ∙ freed-more l ls) in
      let inside : IsLocked ls rule job whose (take.1 ++ (kept.middle ++ free.0)) out =
      record {
        takes = take.1;
        middle = kept.middle;
        frees = free.0;
        all = refl;
        taken = take.3;
        job_done = kept.job_done;
        freed = free.3;
      } in
      subst (λ (xs : List PathStep). IsPath xs (locked (l ∷ ls) on job (note_of job whose) k) (k out))
      (sym (kept.all ∙ ap (λ (xs : List PathStep). xs ++ (kept.middle ++ kept.frees)) take.2
      ∙ ap (λ (xs : List PathStep). Did (without_marks (Take l)) take.0 ∷ (take.1 ++ (kept.middle ++ xs))) free.2
      ∙ ap (λ (xs : List PathStep). Did (without_marks (Take l)) take.0 ∷ xs)
      (ap (λ (xs : List PathStep). take.1 ++ xs) (sym (append_assoc kept.middle free.0 (Did (without_marks (Free l)) free.1 ∷ [])))
      ∙ sym (append_assoc take.1 (kept.middle ++ free.0) (Did (without_marks (Free l)) free.1 ∷ []))))) (
        refl,
        path_append (take.1 ++ (kept.middle ++ free.0)) (Did (without_marks (Free l)) free.1 ∷ [])
            (locked ls on job (note_of job whose) (λ o. Then (Free l) plain (λ o2. k o))) (Then (Free l) plain (λ o2. k out)) (k out)
            (leads-locked ls job whose (take.1 ++ (kept.middle ++ free.0)) out inside (λ o. Then (Free l) plain (λ o2. k o))) (refl, refl),
      )

  -- THE PARTS of a job behind a mux
  splits-left : (job : Job) (whose : List Job) (stays : Bool) (h : Hop) (o : JobOutcome) (k : JobOutcome → WalkTree) (steps : List PathStep)
      → IsPath steps (left_behind stays h on k o) Ends
      → (done : List PathStep) × (rest : List PathStep) × (steps ≡ done ++ rest) × IsLeft stays h rule (job ∷ whose) done
      × IsPath rest (k o) Ends
  splits-left job whose true h o k steps path = ([], steps, refl, refl, path)
  splits-left job whose false h o k steps path =
      let t = keeps.splits (SwitchOff (Deselect h)) (job ∷ whose) (λ x. k o) steps path in
      (t.done, t.rest, t.all, (t.out, t.kept), t.goes_on)

  leads-left : (job : Job) (whose : List Job) (stays : Bool) (h : Hop) (o : JobOutcome) (steps : List PathStep)
      → IsLeft stays h rule (job ∷ whose) steps → (k : JobOutcome → WalkTree)
      → IsPath steps (left_behind stays h on k o) (k o)
  leads-left job whose true h o steps kept k = subst (λ (xs : List PathStep). IsPath xs (k o) (k o)) (sym kept) refl
  leads-left job whose false h o steps kept k = keeps.leads (SwitchOff (Deselect h)) (job ∷ whose) steps kept.0 kept.1 (λ x. k o)

  splits-opened : (h : Hop) (job : Job) (whose : List Job) → Splits (opened h on job (note_of job whose)) (IsOpened h rule job whose)
  splits-opened h job whose k steps path =
      let s = keeps.splits job whose (left_behind h.stays h on k) steps path in
      let t = splits-left job whose h.stays h s.out k s.rest s.goes_on in
      record {
        out = s.out;
        done = s.done ++ t.0;
        rest = t.1;
        all = s.all ∙ ap (λ (xs : List PathStep). s.done ++ xs) t.2 ∙ sym (append_assoc s.done t.0 t.1);
        kept = record { done = s.done; deselected = t.0; all = refl; job_done = s.kept; left = t.3 };
        goes_on = t.4;
      }

  leads-opened : (h : Hop) (job : Job) (whose : List Job) → Leads (opened h on job (note_of job whose)) (IsOpened h rule job whose)
  leads-opened h job whose steps out kept k =
      subst (λ (xs : List PathStep). IsPath xs (opened h on job (note_of job whose) k) (k out)) (sym kept.all)
      (path_append kept.done kept.deselected (opened h on job (note_of job whose) k) (left_behind h.stays h on k out) (k out)
      (keeps.leads job whose kept.done out kept.job_done (left_behind h.stays h on k))
      (leads-left job whose h.stays h out kept.deselected kept.left k))

  -- where nothing more is done, the walk goes on with how it ended
  splits-nothing : (o : JobOutcome) → Splits (λ k. k o) (λ rest out. (rest ≡ []) × (out ≡ o))
  splits-nothing o k steps path = record {
    out = o;
    done = [];
    rest = steps;
    all = refl;
    kept = (refl, refl);
    goes_on = path;
  }

  splits-if_good : (o : JobOutcome) (A : Task) (P : List PathStep → JobOutcome → Type 0) → Splits A P
      → Splits (λ k. if_good o (A k) k) (λ rest out. IfGood o (P rest out) rest out)
  splits-if_good Good A P a = a
  splits-if_good Refused A P a = splits-nothing Unsent
  splits-if_good Unsent A P a = splits-nothing Unsent
  splits-if_good Failed A P a = splits-nothing Failed

  nothing_more : (o : JobOutcome) (rest : List PathStep) (out : JobOutcome) (k : JobOutcome → WalkTree) → (rest ≡ []) × (out ≡ o)
      → IsPath rest (k o) (k out)
  nothing_more o rest out k e = subst (λ (xs : List PathStep). IsPath xs (k o) (k out)) (sym e.0) (ap k (sym e.1))

  leads-if_good : (o : JobOutcome) (A : Task) (P : List PathStep → JobOutcome → Type 0) → Leads A P
      → Leads (λ k. if_good o (A k) k) (λ rest out. IfGood o (P rest out) rest out)
  leads-if_good Good A P a = a
  leads-if_good Refused A P a = λ steps out kept k. nothing_more Unsent steps out k kept
  leads-if_good Unsent A P a = λ steps out kept k. nothing_more Unsent steps out k kept
  leads-if_good Failed A P a = λ steps out kept k. nothing_more Failed steps out k kept

  splits-if_sent : (o : JobOutcome) (A : Task) (P : List PathStep → JobOutcome → Type 0) → Splits A P
      → Splits (λ k. if_sent o (A k) k) (λ rest out. IfSent o (P rest out) rest out)
  splits-if_sent Good A P a = a
  splits-if_sent Refused A P a = a
  splits-if_sent Unsent A P a = splits-nothing Unsent
  splits-if_sent Failed A P a = splits-nothing Failed

  leads-if_sent : (o : JobOutcome) (A : Task) (P : List PathStep → JobOutcome → Type 0) → Leads A P
      → Leads (λ k. if_sent o (A k) k) (λ rest out. IfSent o (P rest out) rest out)
  leads-if_sent Good A P a = a
  leads-if_sent Refused A P a = a
  leads-if_sent Unsent A P a = λ steps out kept k. nothing_more Unsent steps out k kept
  leads-if_sent Failed A P a = λ steps out kept k. nothing_more Failed steps out k kept

  splits-chosen : (h : Hop) (job : Job) (whose : List Job) → Splits (chosen h on job (note_of job whose)) (IsChosen h rule job whose)
  splits-chosen h job whose k steps path =
      let s = keeps.splits (Select h) (job ∷ whose) (λ o. if_good o (opened h on job (note_of job whose) k) k) steps path in
      let t = splits-if_good s.out (opened h on job (note_of job whose)) (IsOpened h rule job whose)
      (splits-opened h job whose) k s.rest s.goes_on in
      splits-on s t (record { selected = s.done; rest = t.done; came = s.out; all = refl; select_done = s.kept; goes_on = t.kept })

  leads-chosen : (h : Hop) (job : Job) (whose : List Job) → Leads (chosen h on job (note_of job whose)) (IsChosen h rule job whose)
  leads-chosen h job whose steps out kept k =
      subst (λ (xs : List PathStep). IsPath xs (chosen h on job (note_of job whose) k) (k out)) (sym kept.all)
      (path_append kept.selected kept.rest (chosen h on job (note_of job whose) k) (if_good kept.came
      (opened h on job (note_of job whose) k) k) (k out)
      (keeps.leads (Select h) (job ∷ whose) kept.selected kept.came kept.select_done
      (λ o. if_good o (opened h on job (note_of job whose) k) k))
      (leads-if_good kept.came (opened h on job (note_of job whose)) (IsOpened h rule job whose)
      (leads-opened h job whose) kept.rest out kept.goes_on k))

  -- the second look
  splits-crossed : (h : Hop) (m : Option ℕ) (job : Job) (whose : List Job)
      → Splits (λ k. crossed h on job (note_of job whose) k m) (IsCrossed h rule m job whose)
  splits-crossed h m job whose =
      splits-if (grammar.keeps h m) (opened h on job (note_of job whose)) (chosen h on job (note_of job whose)) (IsOpened h rule job whose)
      (IsChosen h rule job whose)
      (splits-opened h job whose) (splits-chosen h job whose)

  leads-crossed : (h : Hop) (m : Option ℕ) (job : Job) (whose : List Job)
      → Leads (λ k. crossed h on job (note_of job whose) k m) (IsCrossed h rule m job whose)
  leads-crossed h m job whose =
      leads-if (grammar.keeps h m) (opened h on job (note_of job whose)) (chosen h on job (note_of job whose)) (IsOpened h rule job whose)
      (IsChosen h rule job whose)
      (leads-opened h job whose) (leads-chosen h job whose)

  abbrev passing : Hop → Job → List Job → Task
  passing h job whose k = Look (KeptOf h.on h.mux) (crossed h on job (note_of job whose) k)

  splits-passed : (h : Hop) (job : Job) (whose : List Job) → Splits (passing h job whose) (IsPassed h rule job whose)
  splits-passed h job whose k [] path = absurd (let f : passing h job whose k ≡ Ends = path in cc)
  splits-passed h job whose k (Did a o ∷ steps) path = absurd path
  splits-passed h job whose k (Saw ask m ∷ steps) path =
      let s = splits-crossed h m job whose k steps path.1 in
      record {
        out = s.out;
        done = Saw ask m ∷ s.done;
        rest = s.rest;
        all = ap (λ (xs : List PathStep). Saw ask m ∷ xs) s.all;
        kept = record { kept = m; rest = s.done; all = ap (λ (x : Ask). Saw x m ∷ s.done) path.0; crossed = s.kept };
        goes_on = s.goes_on;
      }

  leads-passed : (h : Hop) (job : Job) (whose : List Job) → Leads (passing h job whose) (IsPassed h rule job whose)
  leads-passed h job whose steps out kept k =
      subst (λ (xs : List PathStep). IsPath xs (passing h job whose k) (k out)) (sym kept.all)
      (refl, leads-crossed h kept.kept job whose kept.rest out kept.crossed k)

  module _ (b : BoardView) (h : Hop) (job : Job) (whose : List Job) where
    -- what comes after the look for a mark
    record ClosedThen (mark : Option ℕ) (steps : List PathStep) (out : JobOutcome) : Type 0 where
      pub closed : List PathStep
      pub rest : List PathStep
      pub came : JobOutcome
      pub all : steps ≡ closed ++ rest
      pub close_done : IsClosed b h rule (job ∷ whose) mark closed came
      pub goes_on : IfSent came (IsPassed h rule job whose rest out) rest out

    splits-closing : (mark : Option ℕ) → Splits (λ k. closing b h on (note_of job whose) k (passing h job whose k) mark) (ClosedThen mark)
    splits-closing None k steps path =
        let s = splits-passed h job whose k steps path in
        record {
          out = s.out;
          done = s.done;
          rest = s.rest;
          all = s.all;
          kept = record { closed = []; rest = s.done; came = Good; all = refl; close_done = (refl, refl); goes_on = s.kept };
          goes_on = s.goes_on;
        }
    splits-closing (Some m) k steps path =
        let s = keeps.splits (SwitchOff (Close h.on m (kind_of b m))) (job ∷ whose)
        (λ o. if_sent o (passing h job whose k) k) steps path in
        let t = splits-if_sent s.out (passing h job whose) (IsPassed h rule job whose)
        (splits-passed h job whose) k s.rest s.goes_on in
        splits-on s t (record { closed = s.done; rest = t.done; came = s.out; all = refl; close_done = s.kept; goes_on = t.kept })

    leads-closing : (mark : Option ℕ) → Leads (λ k. closing b h on (note_of job whose) k (passing h job whose k) mark) (ClosedThen mark)
    leads-closing None steps out kept k =
        subst (λ (xs : List PathStep). IsPath xs (passing h job whose k) (k out))
        (sym (kept.all ∙ ap (λ (xs : List PathStep). xs ++ kept.rest) kept.close_done.0))
        (leads-passed h job whose kept.rest out
        (subst (λ (o : JobOutcome). IfSent o (IsPassed h rule job whose kept.rest out) kept.rest out) kept.close_done.1 kept.goes_on)
        k)
    leads-closing (Some m) steps out kept k =
        subst (λ (xs : List PathStep). IsPath xs (closing b h on (note_of job whose) k (passing h job whose k) (Some m)) (k out))
        (sym kept.all)
        (path_append kept.closed kept.rest (closing b h on (note_of job whose) k (passing h job whose k) (Some m))
        (if_sent kept.came (passing h job whose k) k) (k out)
        (keeps.leads (SwitchOff (Close h.on m (kind_of b m))) (job ∷ whose) kept.closed kept.came kept.close_done
        (λ o. if_sent o (passing h job whose k) k))
        (leads-if_sent kept.came (passing h job whose) (IsPassed h rule job whose)
        (leads-passed h job whose) kept.rest out kept.goes_on k))

    splits-behind : Splits (behind b h on job (note_of job whose)) (IsBehindMux b h rule job whose)
    splits-behind k [] path = absurd (let f : behind b h on job (note_of job whose) k ≡ Ends = path in cc)
    splits-behind k (Did a o ∷ steps) path = absurd path
    splits-behind k (Saw ask m ∷ steps) path =
        let s = splits-closing m k steps path.1 in
        record {
          out = s.out;
          done = Saw ask m ∷ s.done;
          rest = s.rest;
          all = ap (λ (xs : List PathStep). Saw ask m ∷ xs) s.all;
          kept = record {
            mark = m;
            closed = s.kept.closed;
            rest = s.kept.rest;
            came = s.kept.came;
            all = ap (λ (x : Ask). Saw x m ∷ s.done) path.0 ∙ ap (λ (xs : List PathStep). Saw (MarkOf h.on) m ∷ xs) s.kept.all;
            close_done = s.kept.close_done;
            goes_on = s.kept.goes_on;
          };
          goes_on = s.goes_on;
        }

    leads-behind : Leads (behind b h on job (note_of job whose)) (IsBehindMux b h rule job whose)
    leads-behind steps out kept k =
        subst (λ (xs : List PathStep). IsPath xs (behind b h on job (note_of job whose) k) (k out)) (sym kept.all) (
          refl,
          leads-closing kept.mark (kept.closed ++ kept.rest) out
              (record {
                closed = kept.closed;
                rest = kept.rest;
                came = kept.came;
                all = refl;
                close_done = kept.close_done;
                goes_on = kept.goes_on;
              }) k,
        )

  keeps-locked : (ls : List LockId) → Keeps (locked ls on) (IsLocked ls rule)
  keeps-locked ls = record { splits = splits-locked ls; leads = leads-locked ls }

  keeps-part : (t : Bool) (ls : List LockId) → Keeps (part t ls on) (IsPart t ls rule)
  keeps-part true ls = keeps
  keeps-part false ls = keeps-locked ls

-- THE INDUCTION over the hops
pub keeps-inner : (b : BoardView) (root : ℕ) (hs : List Hop) → Keeps (inner b root hs) (IsInner b root hs)
keeps-inner b root [] = record { splits = keeps-at_bus.splits; leads = keeps-at_bus.leads }
keeps-inner b root (h ∷ hs) =
    let below = keeps-part (inner b root hs) (IsInner b root hs) (keeps-inner b root hs) h.parent (locks_of root hs) in
    record {
      splits = λ job whose.
          splits-if (is_line job) (at_bus job (note_of job whose))
          (behind b h (part h.parent (locks_of root hs) (inner b root hs)) job (note_of job whose))
          (AtBus job whose) (IsBehindMux b h (IsPart h.parent (locks_of root hs) (IsInner b root hs)) job whose)
          (keeps-at_bus.splits job whose)
          (splits-behind (part h.parent (locks_of root hs) (inner b root hs))
          (IsPart h.parent (locks_of root hs) (IsInner b root hs)) below b h job whose);
      leads = λ job whose.
          leads-if (is_line job) (at_bus job (note_of job whose))
          (behind b h (part h.parent (locks_of root hs) (inner b root hs)) job (note_of job whose))
          (AtBus job whose) (IsBehindMux b h (IsPart h.parent (locks_of root hs) (IsInner b root hs)) job whose)
          (keeps-at_bus.leads job whose)
          (leads-behind (part h.parent (locks_of root hs) (inner b root hs))
          (IsPart h.parent (locks_of root hs) (IsInner b root hs)) below b h job whose);
    }

pub keeps-full : (b : BoardView) (root : ℕ) (hs : List Hop) → Keeps (full b root hs) (IsFull b root hs)
keeps-full b root hs =
    let all = keeps-locked (inner b root hs) (IsInner b root hs) (keeps-inner b root hs) (locks_of root hs) in
    record { splits = all.splits; leads = all.leads }

pub by-rule : (rule : Rule) (job : Job) (whose : List Job) (k : JobOutcome → WalkTree) (steps : List PathStep)
    → Split (rule job whose) k steps → IsDoneBy rule job whose k steps
by-rule rule job whose k steps s = record { done = s.done; rest = s.rest; out = s.out; all = s.all; by_rule = s.kept; goes_on = s.goes_on }
