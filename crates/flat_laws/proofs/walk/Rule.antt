-- The paths of a transfer's walk are the lists of the walk rule, whole and as fronts; and what leads through a walk is told by
-- such a list. The inductions go over the steps.
use Rattle.flat_laws.proofs.Cited.{◌≡◌, ℕ, List, [], ◌∷◌, ◌++◌, map, Option, Some, None, refl, sym, ◌∙◌, ap, subst, append-nil, Errno}
use Rattle.flat_laws.proofs.Cited.{Entry, Reply, BoardView, TransferView, hops, root_of, messages_of, refusal, Asks, Call, Act, Settle}
use Rattle.flat_laws.proofs.Cited.{ActOutcome, Note, WalkTree, Ends, Look, Then, answer_to, plain, walk_by, walk_for, seen, first_act}
use Rattle.flat_laws.proofs.Cited.{rest_of, Now, now, is_due, outcome_of, Tells, IsStepwise, Step, deed_next, TellsAct, AreTold}
use Rattle.flat_laws.proofs.Cited.{AreTransfers, no_more, under_way, steps_in, AsksForMessages, Deed, without_marks, PathStep, Saw, Did}
use Rattle.flat_laws.proofs.Cited.{deed_of, deed_by, IsPath, Leads, AreWalks, none, whole, front, AreAllWalks}
use Rattle.i2c_base.specs.declared.entry.Entry.TheVariants as entry
use Rattle.bus_spec.specs.ByTree.{one_more, KeepsWalks}
use Rattle.bus_spec.specs.WalkRule.{IsWalkBy, IsWalk, first_done}
use Rattle.flat_laws.proofs.past.Walks.{tells_none, walks-kept}
use Rattle.flat_laws.proofs.walk.Paths.{path_split, path_append, some_path, first_step, no_acts, keeps-full}

-- THE WALK of a transfer
at_end : (steps : List PathStep) → IsPath steps Ends Ends → steps ≡ []
at_end [] p = refl
at_end (Saw ask m ∷ steps) p = absurd p
at_end (Did a o ∷ steps) p = absurd p

refused-walk : (e : Option Errno) (steps : List PathStep) → IsPath steps (Then (Settle e) plain (λ o. Ends)) Ends
    → map deed_of steps ≡ Some (without_marks (Settle e)) ∷ []
refused-walk e [] p = absurd (let f : Then (Settle e) plain (λ o. Ends) ≡ Ends = p in cc)
refused-walk e (Saw ask m ∷ steps) p = absurd p
refused-walk e (Did a o ∷ steps) p =
    ap (λ (x : Deed). Some x ∷ map deed_of steps) p.0
    ∙ ap (λ (xs : List PathStep). Some (without_marks (Settle e)) ∷ map deed_of xs) (at_end steps p.1)

pub path-walk : (b : BoardView) (t : TransferView) (steps : List PathStep) → IsPath steps (walk_for b t) Ends → IsWalk b t steps
path-walk b t steps path = by (refusal b t) path
  where
    by : (o : Option Errno) → IsPath steps (walk_by b t o) Ends → IsWalkBy b t o steps
    by (Some e) p = refused-walk (Some e) steps p
    by None p =
        let s = (keeps-full b (root_of b t.bus) (hops b t.bus)).splits (Call t.bus (messages_of t)) [] (λ o. Ends) steps p in (
          s.out,
          subst (λ (xs : List PathStep). Rattle.bus_spec.specs.WalkRule.IsFull b (root_of b t.bus) (hops b t.bus)
              (Call t.bus (messages_of t)) [] xs s.out)
              (sym (s.all ∙ ap (λ (xs : List PathStep). s.done ++ xs) (at_end s.rest s.goes_on) ∙ append-nil s.done)) s.kept,
        )

pub walk-path : (b : BoardView) (t : TransferView) (steps : List PathStep) → IsWalk b t steps → IsPath steps (walk_for b t) Ends
walk-path b t steps walk = by (refusal b t) walk
  where
    by : (o : Option Errno) → IsWalkBy b t o steps → IsPath steps (walk_by b t o) Ends
    by (Some e) w =
        let s = first_step steps (without_marks (Settle (Some e))) [] w in
        subst (λ (xs : List PathStep). IsPath xs (Then (Settle (Some e)) plain (λ o. Ends)) Ends)
        (sym (s.2 ∙ ap (λ (xs : List PathStep). Did (without_marks (Settle (Some e))) s.0 ∷ xs) (no_acts s.1 s.3))) (refl, refl)
    by None w = (keeps-full b (root_of b t.bus) (hops b t.bus)).leads (Call t.bus (messages_of t)) [] steps w.0 w.1 (λ o. Ends)

-- as fronts
pub path-front : (b : BoardView) (t : TransferView) (steps : List PathStep) (left : WalkTree) → IsPath steps (walk_for b t) left
    → (rest : List PathStep) × IsPath rest left Ends × IsWalk b t (steps ++ rest)
path-front b t steps left path =
    let more = some_path left in
    (more.0, more.1, path-walk b t (steps ++ more.0) (path_append steps more.0 (walk_for b t) left Ends path more.1))

pub front-path : (b : BoardView) (t : TransferView) (steps rest : List PathStep) → IsWalk b t (steps ++ rest)
    → (left : WalkTree) × IsPath steps (walk_for b t) left × IsPath rest left Ends
front-path b t steps rest walk = path_split steps rest (walk_for b t) Ends (walk-path b t (steps ++ rest) walk)

-- what is done first on a path to the end is the walk's next step
first_next : (steps : List PathStep) (w : WalkTree) → IsPath steps w Ends → first_act w ≡ first_done steps
first_next [] w p = ap first_act p
first_next (Saw ask m ∷ steps) Ends p = absurd p
first_next (Saw ask m ∷ steps) (Look a next) p = refl
first_next (Saw ask m ∷ steps) (Then act note next) p = absurd p
first_next (Did d o ∷ steps) Ends p = absurd p
first_next (Did d o ∷ steps) (Look a next) p = absurd p
first_next (Did d o ∷ steps) (Then act note next) p = ap (λ (x : Deed). Some x.act) (sym p.0)

-- WHAT ENTRIES TELL. It matters what the step is, and not what it marks and what follows
tells_act : (b : BoardView) (n : Now) (act : Act) (note : Note) (next : ActOutcome → WalkTree) (e : Entry)
    → Tells b n (Then act note next) e → TellsAct b n act e
tells_act b n act note next (entry.Take c l) tells = tells
tells_act b n act note next (entry.Free c l) tells = tells
tells_act b n act note next (entry.Message c bus purpose part parts addr reading bytes heard e) tells = tells
tells_act b n act note next (entry.Line c mux level failed) tells = tells
tells_act b n act note next (entry.Settle c r cut) tells = tells

act_tells : (b : BoardView) (n : Now) (act : Act) (note : Note) (next : ActOutcome → WalkTree) (e : Entry) → TellsAct b n act e
    → Tells b n (Then act note next) e
act_tells b n act note next (entry.Take c l) tells = tells
act_tells b n act note next (entry.Free c l) tells = tells
act_tells b n act note next (entry.Message c bus purpose part parts addr reading bytes heard e) tells = tells
act_tells b n act note next (entry.Line c mux level failed) tells = tells
act_tells b n act note next (entry.Settle c r cut) tells = tells

abbrev Told : BoardView → List Step → WalkTree → WalkTree → Type 0
Told b steps w left = (ps : List PathStep) × IsPath ps w left × AreTold b ps steps

-- the looks in front of a step, and the step
first_told : (b : BoardView) (s : Step) (steps : List Step) (left w : WalkTree) → Tells b s.before (seen s.before.slot w) s.entry
    → s.deed ≡ deed_next (seen s.before.slot w)
    → Told b steps (rest_of (seen s.before.slot w) (outcome_of s.entry)) left → Told b (s ∷ steps) w left
first_told b s steps left Ends tells does more = absurd (tells_none b s.before s.entry tells)
first_told b s steps left (Look ask next) tells does more =
    let m : Option ℕ = answer_to s.before.slot ask in
    let t = first_told b s steps left (next m) tells does more in
    (Saw ask m ∷ t.0, (refl, t.1), (refl, t.2))
first_told b s steps left (Then act note next) tells does more = (
  Did (deed_by act note) (outcome_of s.entry) ∷ more.0,
  (refl, more.1),
  (
    tells_act b s.before act note next s.entry tells,
    refl,
    does,
    more.2,
  ),
)

leads-told : (b : BoardView) (steps : List Step) (w left : WalkTree) → Leads b w steps left → Told b steps w left
leads-told b [] w left leads = ([], sym leads, refl)
leads-told b (s ∷ steps) w left leads =
    first_told b s steps left w leads.0 leads.2 (leads-told b steps (rest_of (seen s.before.slot w) (outcome_of s.entry)) left leads.1)

told-leads : (b : BoardView) (ps : List PathStep) (steps : List Step) (w left : WalkTree) → IsPath ps w left → AreTold b ps steps
    → Leads b w steps left
told-leads b [] steps w left path told = subst (λ (ss : List Step). Leads b w ss left) (sym told) (sym path)
told-leads b (Saw asked m ∷ ps) [] w left path told = absurd told
told-leads b (Saw asked m ∷ ps) (s ∷ steps) Ends left path told = absurd path
told-leads b (Saw asked m ∷ ps) (s ∷ steps) (Then act note next) left path told = absurd path
told-leads b (Saw asked m ∷ ps) (s ∷ steps) (Look ask next) left path told =
    subst (λ (a : _). Leads b (Look a next) (s ∷ steps) left) path.0
    (subst (λ (x : Option ℕ). Leads b (next x) (s ∷ steps) left) told.0 (told-leads b ps (s ∷ steps) (next m) left path.1 told.1))
told-leads b (Did act out ∷ ps) [] w left path told = absurd told
told-leads b (Did act out ∷ ps) (s ∷ steps) Ends left path told = absurd path
told-leads b (Did act out ∷ ps) (s ∷ steps) (Look ask next) left path told = absurd path
told-leads b (Did act out ∷ ps) (s ∷ steps) (Then a note next) left path told = (
  subst (λ (x : Deed). Tells b s.before (Then x.act note next) s.entry) path.0 (act_tells b s.before act.act note next s.entry told.0),
  subst (λ (o : ActOutcome). Leads b (next o) steps left) told.1 (told-leads b ps steps (next out) left path.1 told.3),
  told.2 ∙ path.0,
)

-- THE WALKS of a caller
module _ (b : BoardView) (asks : List Reply → Option TransferView) where
  pub walks-transfers : (rs : List Reply) (steps : List Step) → AreWalks b asks rs steps → AreTransfers b asks rs steps
  walks-transfers rs steps (none xs) = no_more xs
  walks-transfers rs steps (whole xs t mine rest all r asked leads settles more parts) =
      let told = leads-told b mine (walk_for b t) Ends leads in
      one_more xs t told.0 mine rest all r asked (path-walk b t told.0 told.1) told.2 settles
      (walks-transfers (xs ++ r ∷ []) rest more) parts
  walks-transfers rs steps (front xs t mine left asked leads without_marks) =
      let told = leads-told b mine (walk_for b t) left leads in
      let more = path-front b t told.0 left told.1 in
      under_way xs t told.0 more.0 mine asked more.2 told.2 (ap is_due (sym (first_next more.0 left more.1)) ∙ without_marks)

  pub transfers-walks : (rs : List Reply) (steps : List Step) → AreTransfers b asks rs steps → AreWalks b asks rs steps
  transfers-walks rs steps (no_more xs) = none xs
  transfers-walks rs steps (one_more xs t walk mine rest all r asked keeps told settles more parts) =
      whole xs t mine rest all r asked (told-leads b walk mine (walk_for b t) Ends (walk-path b t walk keeps) told) settles
      (transfers-walks (xs ++ r ∷ []) rest more) parts
  transfers-walks rs steps (under_way xs t done rest mine asked keeps told without_marks) =
      let way = front-path b t done rest keeps in
      front xs t mine way.0 asked (told-leads b done mine (walk_for b t) way.0 way.1 told) (ap is_due (first_next rest way.0 way.2)
      ∙ without_marks)

-- OF A JOURNAL: each caller's
pub walks-led : (b : BoardView) (asks : Asks) (past : List Entry) → KeepsWalks b asks past → AreAllWalks b asks past
walks-led b asks past keeps c = transfers-walks b (asks c) [] (steps_in b asks c past) (keeps c)

pub led-walks : (b : BoardView) (asks : Asks) (past : List Entry) → AreAllWalks b asks past → KeepsWalks b asks past
led-walks b asks past led c = walks-transfers b (asks c) [] (steps_in b asks c past) (led c)

pub transfers-kept : (b : BoardView) (asks : Asks) → AsksForMessages asks → (callers : ℕ) (past : List Entry)
    → IsStepwise b callers asks past → (now b asks past).due ≡ None → KeepsWalks b asks past
transfers-kept b asks some callers past steps none_due = led-walks b asks past (walks-kept b asks some callers past steps none_due)
