-- A journal that keeps the rules where they are told without a walk tree keeps them where they are told by it: what each entry is
-- said to do is the next step of its caller's walk. The inductions go over the steps and the entries.
use Rattle.journal_laws.proofs.Cited.{◌≡◌, ℕ, Bool, true, false, cond, List, [], ◌∷◌, ◌++◌, reverse, Option, Some, refl, sym, ◌∙◌, ap}
use Rattle.journal_laws.proofs.Cited.{subst, inl, inr, append_assoc, append-nil, eq-eqb, ne_eqb, eqb_tells, Entry, Reply, BoardView}
use Rattle.journal_laws.proofs.Cited.{TransferView, root_of, Asks, Act, ActOutcome, WalkTree, Ends, Look, Then, Slots, walk_for, seen}
use Rattle.journal_laws.proofs.Cited.{is_over, rest_of, OfMessage, caller_of, Now, current, now, calls_of, transfer_at, outcome_of, Deed}
use Rattle.journal_laws.proofs.Cited.{Step, deed_next, step_next, AreTransfers, steps_in, Stand, IsLegal, IsRuled, reply_at, walk-path}
use Rattle.journal_laws.proofs.Cited.{front-path, rules}
use Rattle.std.proofs.Common.{map}
use Rattle.std.proofs.lemmas.List.{map_push}
use Rattle.i2c_base.specs.declared.entry.Entry.TheVariants as entry
use Rattle.bus_spec.specs.Past.{world_at}
use Rattle.bus_spec.specs.WalkRule.{PathStep, Saw, Did}
use Rattle.bus_spec.specs.ByTree.{TellsAct, AreTold, no_more, one_more, under_way}
use Rattle.bus_spec.specs.Stand.{stand_behind, stand, calls_by}
use Rattle.bus_spec.specs.Legal.{IsReached, is_forced, Reaches}
use Rattle.bus_spec.specs.Ruled.{SaysAct, Doing, doings_in, replies_said, AreSaid, AreDone, nothing, transfer, begun, ReachesBy}
use Rattle.flat_laws.specs.Paths.{IsPath}
use Rattle.flat_laws.proofs.walk.Ruled.{stand_of, doing_of, step-stands, replies-said}
use Rattle.journal_laws.proofs.past.Follow.{at_hand, begins}
use Rattle.journal_laws.proofs.past.Layers.{walk_behind, hand_behind, replies_shift, hand, walk_steps}

-- THE STEPS OF A WALK. Each does the next step of what is left
abbrev DoneBy : WalkTree → List Doing → WalkTree → Type 0
DoneBy w [] rest = rest ≡ w
DoneBy w (s ∷ ss) rest =
    (is_over (seen s.before.slot w) ≡ false) × DoneBy (rest_of (seen s.before.slot w) (outcome_of s.entry)) ss rest
    × (s.deed ≡ deed_next (seen s.before.slot w))

said-done : (b : BoardView) (ps : List PathStep) (steps : List Doing) (w left : WalkTree) → IsPath ps w left → AreSaid b ps steps
    → DoneBy w steps left
said-done b [] steps w left path said = subst (λ (ss : List Doing). DoneBy w ss left) (sym said) (sym path)
said-done b (Saw asked m ∷ ps) [] w left path said = absurd said
said-done b (Saw asked m ∷ ps) (s ∷ steps) Ends left path said = absurd path
said-done b (Saw asked m ∷ ps) (s ∷ steps) (Then act note next) left path said = absurd path
said-done b (Saw asked m ∷ ps) (s ∷ steps) (Look ask next) left path said =
    subst (λ (a : _). DoneBy (Look a next) (s ∷ steps) left) path.0
    (subst (λ (x : Option ℕ). DoneBy (next x) (s ∷ steps) left) said.0 (said-done b ps (s ∷ steps) (next m) left path.1 said.1))
said-done b (Did deed out ∷ ps) [] w left path said = absurd said
said-done b (Did deed out ∷ ps) (s ∷ steps) Ends left path said = absurd path
said-done b (Did deed out ∷ ps) (s ∷ steps) (Look ask next) left path said = absurd path
said-done b (Did deed out ∷ ps) (s ∷ steps) (Then a note next) left path said = (
  refl,
  subst (λ (o : ActOutcome). DoneBy (next o) steps left) said.1 (said-done b ps steps (next out) left path.1 said.3),
  said.2 ∙ path.0,
)

said_first : (s : Doing) (ss : List Doing) → replies_said (s ∷ ss) ≡ reply_at s.entry ++ replies_said ss
said_first s ss = by s.before s.deed s.entry
  where
    by : (n : Stand) (d : Deed) (e : Entry)
        → replies_said (record { before = n; deed = d; entry = e } ∷ ss) ≡ reply_at e ++ replies_said ss
    by n d (entry.Take c l) = refl
    by n d (entry.Free c l) = refl
    by n d (entry.Message c bus purpose part parts addr reading bytes heard e) = refl
    by n d (entry.Line c mux level failed) = refl
    by n d (entry.Settle c r cut) = refl

module _ (b : BoardView) (asks : List Reply → Option TransferView) where
  -- each does the next step of the walk that it is of
  abbrev Goes : List Reply → WalkTree → List Doing → Type 0
  Goes rs w [] = Unit {0}
  Goes rs w (s ∷ ss) =
      (s.deed ≡ deed_next (seen s.before.slot (at_hand b asks rs w)))
      × Goes (rs ++ reply_at s.entry) (rest_of (seen s.before.slot (at_hand b asks rs w)) (outcome_of s.entry)) ss

  under : (w : WalkTree) (rs : List Reply) (v : Slots) → is_over (seen v w) ≡ false → at_hand b asks rs w ≡ w
  under Ends rs v more = absurd (let f : true ≡ false = more in cc)
  under (Look ask next) rs v more = refl
  under (Then act note next) rs v more = refl

  goes-renamed : (rs : List Reply) (w u : WalkTree) (steps : List Doing) → at_hand b asks rs u ≡ at_hand b asks rs w → Goes rs u steps
      → Goes rs w steps
  goes-renamed rs w u [] same goes = tt
  goes-renamed rs w u (s ∷ ss) same goes =
      subst
      (λ (x : WalkTree).
      (s.deed ≡ deed_next (seen s.before.slot x))
      × Goes (rs ++ reply_at s.entry) (rest_of (seen s.before.slot x) (outcome_of s.entry)) ss)
      same goes

  led-goes : (rs : List Reply) (w left : WalkTree) (mine rest : List Doing) → DoneBy w mine left → Goes (rs ++ replies_said mine) left rest
      → Goes rs w (mine ++ rest)
  led-goes rs w left [] rest leads goes =
      subst (λ (x : WalkTree). Goes rs x rest) leads (subst (λ (xs : List Reply). Goes xs left rest) (append-nil rs) goes)
  led-goes rs w left (s ∷ mine) rest leads goes =
      subst
      (λ (x : WalkTree).
      (s.deed ≡ deed_next (seen s.before.slot x))
      × Goes (rs ++ reply_at s.entry) (rest_of (seen s.before.slot x) (outcome_of s.entry)) (mine ++ rest))
      (sym (under w rs s.before.slot leads.0)) (
        leads.2,
        led-goes (rs ++ reply_at s.entry) (rest_of (seen s.before.slot w) (outcome_of s.entry)) left mine rest leads.1
            (subst (λ (xs : List Reply). Goes xs left rest) so_far goes),
      )
    where
      so_far : rs ++ replies_said (s ∷ mine) ≡ (rs ++ reply_at s.entry) ++ replies_said mine
      so_far = ap (λ (xs : List Reply). rs ++ xs) (said_first s mine) ∙ sym (append_assoc rs (reply_at s.entry) (replies_said mine))

  done-goes : (rs : List Reply) (steps : List Doing) → AreDone b asks rs steps → Goes rs Ends steps
  done-goes rs steps (nothing xs) = tt
  done-goes rs steps (transfer xs t walk mine rest all r asked keeps said settles more parts) =
      subst (λ (ss : List Doing). Goes xs Ends ss) (sym parts)
      (goes-renamed xs Ends (walk_for b t) (mine ++ rest) (begins b asks xs t asked)
      (led-goes xs (walk_for b t) Ends mine rest (said-done b walk mine (walk_for b t) Ends (walk-path b t walk keeps) said)
      (subst (λ (ys : List Reply). Goes (xs ++ ys) Ends rest) (sym settles) (done-goes (xs ++ r ∷ []) rest more))))
  done-goes rs steps (begun xs t front rest mine asked keeps said quiet) =
      let way = front-path b t front rest keeps in
      goes-renamed xs Ends (walk_for b t) mine (begins b asks xs t asked)
      (subst (λ (ss : List Doing). Goes xs (walk_for b t) ss) (append-nil mine)
      (led-goes xs (walk_for b t) way.0 mine [] (said-done b front mine (walk_for b t) way.0 way.1 said) tt))

  goes-front : (rs : List Reply) (w : WalkTree) (ss : List Doing) (s : Doing) → Goes rs w (ss ++ s ∷ []) → Goes rs w ss
  goes-front rs w [] s goes = tt
  goes-front rs w (x ∷ ss) s goes = (
    goes.0,
    goes-front (rs ++ reply_at x.entry) (rest_of (seen x.before.slot (at_hand b asks rs w)) (outcome_of x.entry)) ss s goes.1,
  )

  goes-last : (rs : List Reply) (w : WalkTree) (ss : List Step) (x : Doing) → Goes rs w (map doing_of ss ++ x ∷ [])
      → x.deed ≡ deed_next (seen x.before.slot (hand_behind b asks rs w ss))
  goes-last rs w [] x goes =
      subst (λ (xs : List Reply). x.deed ≡ deed_next (seen x.before.slot (at_hand b asks xs w))) (sym (append-nil rs)) goes.0
  goes-last rs w (s ∷ ss) x goes =
      subst (λ (xs : List Reply). x.deed ≡ deed_next (seen x.before.slot (at_hand b asks xs (walk_behind b asks rs w (s ∷ ss)))))
      (replies_shift b asks rs s ss)
      (goes-last (rs ++ reply_at s.entry) (rest_of (seen s.before.slot (at_hand b asks rs w)) (outcome_of s.entry)) ss x goes.1)

-- THE ENTRIES
module _ (b : BoardView) (asks : Asks) where
  record Same (deeds : List Deed) (past : List Entry) : Type 0 where
    pub stands : stand b deeds past ≡ stand_of (now b asks past)
    pub doings : (c : ℕ) → doings_in b c deeds past ≡ map doing_of (steps_in b asks c past)

  abbrev AllGo : List Deed → List Entry → Type 0
  AllGo deeds past = (c : ℕ) → Goes b (asks c) [] Ends (doings_in b c deeds past)

  module _ (e : Entry) (past : List Entry) (d : Deed) (deeds : List Deed) where
    abbrev said : Doing
    said = record { before = stand b deeds past; deed = d; entry = e }

    own_said : (c : ℕ) → caller_of e ≡ c → doings_in b c (d ∷ deeds) (e ∷ past) ≡ doings_in b c deeds past ++ said ∷ []
    own_said c is = ap (λ (t : Bool). cond t (doings_in b c deeds past ++ said ∷ []) (doings_in b c deeds past)) (eq-eqb (caller_of e) c is)

    other_said : (c : ℕ) → (caller_of e ≡ c → ⊥) → doings_in b c (d ∷ deeds) (e ∷ past) ≡ doings_in b c deeds past
    other_said c isnt = ap (λ (t : Bool). cond t (doings_in b c deeds past ++ said ∷ []) (doings_in b c deeds past))
        (ne_eqb (caller_of e) c isnt)

    fronts : AllGo (d ∷ deeds) (e ∷ past) → AllGo deeds past
    fronts go c = elim (eqb_tells (caller_of e) c) [
      | inl h ↦ goes-front b (asks c) [] Ends (doings_in b c deeds past) said
          (subst (λ (ss : List Doing). Goes b (asks c) [] Ends ss) (own_said c h.1) (go c))
      | inr h ↦ subst (λ (ss : List Doing). Goes b (asks c) [] Ends ss) (other_said c h.1) (go c)
    ]

    module _ (go : AllGo (d ∷ deeds) (e ∷ past)) (same : Same deeds past) where
      abbrev c0 : ℕ
      c0 = caller_of e

      abbrev n : Now
      n = now b asks past

      deed_is : d ≡ deed_next (current b asks n c0)
      deed_is =
          goes-last b (asks c0) [] Ends (steps_in b asks c0 past) said
          (subst (λ (ss : List Doing). Goes b (asks c0) [] Ends (ss ++ said ∷ [])) (same.doings c0)
          (subst (λ (ss : List Doing). Goes b (asks c0) [] Ends ss) (own_said c0 refl) (go c0)))
          ∙ ap (λ (s : Stand). deed_next (seen s.slot (hand_behind b (asks c0) [] Ends (steps_in b asks c0 past)))) same.stands
          ∙ ap (λ (w : WalkTree). deed_next (seen n.slot w)) (hand b asks past c0 (walk_steps b asks past c0))

      abbrev last : ℕ → Step
      last c = step_next n (current b asks n c) e

      own_steps_is : (c : ℕ) → caller_of e ≡ c → steps_in b asks c (e ∷ past) ≡ steps_in b asks c past ++ last c ∷ []
      own_steps_is c is = ap (λ (t : Bool). cond t (steps_in b asks c past ++ last c ∷ []) (steps_in b asks c past))
          (eq-eqb (caller_of e) c is)

      one_more_same : Same (d ∷ deeds) (e ∷ past)
      one_more_same =
          record {
            stands = ap (λ (s : Stand). stand_behind b s d e) same.stands
                ∙ ap (λ (x : Deed). stand_behind b (stand_of n) x e) deed_is ∙ sym (step-stands b asks n e);
            doings = λ c. elim (eqb_tells (caller_of e) c) [
              | inl h ↦ own_said c h.1 ∙ ap (λ (xs : List Doing). xs ++ said ∷ []) (same.doings c)
                  ∙ ap (λ (s : Stand). map doing_of (steps_in b asks c past) ++ (record { before = s; deed = d; entry = e })
                  ∷ []) same.stands
                  ∙ ap (λ (x : Deed). map doing_of (steps_in b asks c past) ++ (record { before = stand_of n; deed = x; entry = e }) ∷ [])
                  (deed_is ∙ ap (λ (i : ℕ). deed_next (current b asks n i)) h.1)
                  ∙ sym (map_push doing_of (steps_in b asks c past) (last c))
                  ∙ ap (map doing_of) (sym (own_steps_is c h.1))
              | inr h ↦ other_said c h.1 ∙ same.doings c
                  ∙ ap (map doing_of) (sym (ap (λ (t : Bool). cond t (steps_in b asks c past ++ last c ∷ []) (steps_in b asks c past))
                  (ne_eqb (caller_of e) c h.1)))
            ];
          }

  same-by : (deeds : List Deed) (past : List Entry) → ReachesBy b asks deeds past → AllGo deeds past → Same deeds past
  same-by [] [] reach go = record { stands = refl; doings = λ c. refl }
  same-by (d ∷ deeds) [] reach go = record { stands = refl; doings = λ c. refl }
  same-by [] (e ∷ past) reach go = absurd reach
  same-by (d ∷ deeds) (e ∷ past) reach go =
      one_more_same e past d deeds go (same-by deeds past reach.1 (fronts e past d deeds go))

  reaches-of : (deeds : List Deed) (past : List Entry) → ReachesBy b asks deeds past → AllGo deeds past → Reaches b asks past
  reaches-of [] [] reach go = tt
  reaches-of (d ∷ deeds) [] reach go = tt
  reaches-of [] (e ∷ past) reach go = absurd reach
  reaches-of (d ∷ deeds) (e ∷ past) reach go = (
    subst
        (λ (s : Stand). OfMessage (λ m. IsReached b (s.worlds (root_of b m.bus)) (is_forced (transfer_at asks past m.caller)) m) e)
        (same-by deeds past reach.1 (fronts e past d deeds go)).stands reach.0,
    reaches-of deeds past reach.1 (fronts e past d deeds go),
  )

-- BACK TO THE STEPS
tells : (b : BoardView) (n : Now) (act : Act) (e : Entry) → SaysAct b n.worlds act e → TellsAct b n act e
tells b n act (entry.Take c l) says = ap Some says
tells b n act (entry.Free c l) says = ap Some says
tells b n act (entry.Line c mux level failed) says = (says.0, ap Some says.1, says.2)
tells b n act (entry.Settle c r cut) says = (says.0, ap Some says.1)
tells b n act (entry.Message c bus purpose part parts addr reading bytes heard e) says = (
  says.0,
  says.1,
  ap Some says.2,
  search rules,
)

none_left : (steps : List Step) → map doing_of steps ≡ [] → steps ≡ []
none_left [] is = refl
none_left (s ∷ steps) is = absurd (let f : doing_of s ∷ map doing_of steps ≡ [] = is in cc)

are-told : (b : BoardView) (ps : List PathStep) (steps : List Step) → AreSaid b ps (map doing_of steps) → AreTold b ps steps
are-told b [] steps said = none_left steps said
are-told b (Saw ask answer ∷ ps) [] said = absurd said
are-told b (Saw ask answer ∷ ps) (s ∷ steps) said = (said.0, are-told b ps (s ∷ steps) said.1)
are-told b (Did deed out ∷ ps) [] said = absurd said
are-told b (Did deed out ∷ ps) (s ∷ steps) said =
    (tells b s.before deed.act s.entry said.0, said.1, said.2, are-told b ps steps said.3)

abbrev Splits : List Step → List Doing → List Doing → Type 0
Splits steps mine rest =
    (xs : List Step) × (ys : List Step) × (steps ≡ xs ++ ys) × (mine ≡ map doing_of xs) × (rest ≡ map doing_of ys)

split_more : (s : Step) (steps : List Step) (m : Doing) (mine rest : List Doing) → m ≡ doing_of s → Splits steps mine rest
    → Splits (s ∷ steps) (m ∷ mine) rest
split_more s steps m mine rest first more = (
  s ∷ more.0,
  more.1,
  ap (λ (xs : List Step). s ∷ xs) more.2,
  ap (λ (x : Doing). x ∷ mine) first ∙ ap (λ (xs : List Doing). doing_of s ∷ xs) more.3,
  more.4,
)

split : (steps : List Step) (mine rest : List Doing) → map doing_of steps ≡ mine ++ rest → Splits steps mine rest
split steps [] rest is = ([], steps, refl, refl, sym is)
split [] (m ∷ mine) rest is = absurd (let f : [] ≡ m ∷ (mine ++ rest) = is in cc)
split (s ∷ steps) (m ∷ mine) rest is =
    let f : doing_of s ∷ map doing_of steps ≡ m ∷ (mine ++ rest) = is in
    split_more s steps m mine rest (let first : m ≡ doing_of s = cc in first)
    (split steps mine rest (let g : map doing_of steps ≡ mine ++ rest = cc in g))

module _ (b : BoardView) (asks : List Reply → Option TransferView) where
  done-transfers : (rs : List Reply) (ds : List Doing) → AreDone b asks rs ds → (steps : List Step) → map doing_of steps ≡ ds
      → AreTransfers b asks rs steps
  done-transfers rs ds (nothing xs) steps is = subst (λ (ss : List Step). AreTransfers b asks xs ss) (sym (none_left steps is)) (no_more xs)
  done-transfers rs ds (transfer xs t walk mine rest all r asked keeps said settles more parts) steps is =
      let s = split steps mine rest (is ∙ parts) in
      one_more xs t walk s.0 s.1 steps r asked keeps (are-told b walk s.0 (subst (λ (ys : List Doing). AreSaid b walk ys) s.3 said))
      (sym (replies-said s.0) ∙ ap replies_said (sym s.3) ∙ settles) (done-transfers (xs ++ r ∷ []) rest more s.1 (sym s.4)) s.2
  done-transfers rs ds (begun xs t front rest mine asked keeps said quiet) steps is =
      under_way xs t front rest steps asked keeps (are-told b front steps (subst (λ (ys : List Doing). AreSaid b front ys) (sym is) said))
      quiet

pub legal-of : (b : BoardView) (callers : ℕ) (asks : Asks) (past : List Entry) → IsRuled b callers asks past → IsLegal b callers asks past
legal-of b callers asks past ruled =
    let go : AllGo b asks ruled.deeds past = λ c. done-goes b (asks c) [] (doings_in b c ruled.deeds past) (ruled.walks c) in
    record {
      known = ruled.known;
      locks = ruled.locks;
      whole = ruled.whole;
      walks = λ c. done-transfers b (asks c) [] (doings_in b c ruled.deeds past) (ruled.walks c) (steps_in b asks c past)
          (sym ((same-by b asks ruled.deeds past ruled.reach go).doings c));
      reach = reaches-of b asks ruled.deeds past ruled.reach go;
      replies_kept = ruled.replies_kept;
      settles = ruled.settles;
    }

-- whatever the entries are said to do, all stands so: the worlds, and the calls of the ports
module _ (b : BoardView) (callers : ℕ) (asks : Asks) (past : List Entry) (ruled : IsRuled b callers asks past) where
  pub stands-so : stand_of (now b asks past) ≡ stand b ruled.deeds past
  stands-so =
      sym (same-by b asks ruled.deeds past ruled.reach
      (λ c. done-goes b (asks c) [] (doings_in b c ruled.deeds past) (ruled.walks c))).stands

  pub worlds-so : (r : ℕ) → world_at b asks past r ≡ (stand b ruled.deeds past).worlds r
  worlds-so r = ap (λ (s : Stand). s.worlds r) stands-so

  pub calls-so : (r : ℕ) → calls_of b asks past r ≡ calls_by b ruled.deeds past r
  calls-so r = ap (λ (s : Stand). reverse (s.calls r)) stands-so
