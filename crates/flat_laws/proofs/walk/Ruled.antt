-- A journal that keeps the rules where they are told by the walk tree keeps them where they are told without it. The inductions go
-- over the steps and the entries.
use Rattle.flat_laws.proofs.Cited.{◌≡◌, ℕ, Bool, cond, List, [], ◌∷◌, ◌++◌, map, reverse, Option, refl, sym, ◌∙◌, ap, subst, inl, inr}
use Rattle.flat_laws.proofs.Cited.{eq-eqb, ne_eqb, eqb_tells, map_push, same_Some, Entry, End, Reply, BoardView, TransferView, root_of}
use Rattle.flat_laws.proofs.Cited.{Asks, Act, Take, Free, Send, Shift, Settle, WalkTree, Ends, Look, Then, first_act, first_note, caller_of}
use Rattle.flat_laws.proofs.Cited.{Now, current, step, now, sent_by, lined_by, Deed, PathStep, Saw, Did, Step, deed_next, step_next}
use Rattle.flat_laws.proofs.Cited.{replies_in, TellsAct, AreTold, AreTransfers, no_more, under_way, steps_in, IsLegal}
use Rattle.std.proofs.Common.{rules}
use Rattle.std.proofs.lemmas.List.{map-append}
use Rattle.i2c_base.specs.declared.entry.Entry.TheVariants as entry
use Rattle.bus_spec.specs.Readings.{OfMessage}
use Rattle.bus_spec.specs.Past.{calls_of}
use Rattle.bus_spec.specs.Places.{transfer_at}
use Rattle.bus_spec.specs.ByTree.{one_more}
use Rattle.bus_spec.specs.Stand.{Stand, stand_behind, stand, message_done, line_done, calls_by}
use Rattle.bus_spec.specs.Legal.{IsReached, is_forced, Reaches}
use Rattle.bus_spec.specs.Ruled.{SaysAct, Doing, doings_in, replies_said, AreSaid, AreDone, nothing, transfer, begun, ReachesBy, IsRuled}

abbrev pub stand_of : Now → Stand
stand_of n = record { slot = n.slot; worlds = n.worlds; calls = n.calls }

abbrev pub doing_of : Step → Doing
doing_of s = record { before = stand_of s.before; deed = s.deed; entry = s.entry }

-- what each entry does, by its caller's walk
abbrev pub deeds_of : BoardView → Asks → List Entry → List Deed
deeds_of b asks [] = []
deeds_of b asks (e ∷ past) = deed_next (current b asks (now b asks past) (caller_of e)) ∷ deeds_of b asks past

-- ONE ENTRY
message-stands : (b : BoardView) (n : Now) (c : ℕ) (w : WalkTree) (reading : Bool) (bytes : List ℕ) (e : End)
    → stand_of (sent_by b n c (first_act w) (first_note w) reading bytes e)
    ≡ message_done b (stand_of n) (deed_next w).act (deed_next w).marks bytes e
message-stands b n c Ends reading bytes e = refl
message-stands b n c (Look ask next) reading bytes e = refl
message-stands b n c (Then (Take l) note next) reading bytes e = refl
message-stands b n c (Then (Free l) note next) reading bytes e = refl
message-stands b n c (Then (Send job left) note next) reading bytes e = refl
message-stands b n c (Then (Shift job) note next) reading bytes e = refl
message-stands b n c (Then (Settle verdict) note next) reading bytes e = refl

line-stands : (b : BoardView) (n : Now) (w : WalkTree) (failed : Bool)
    → stand_of (lined_by b n (first_act w) (first_note w) failed) ≡ line_done b (stand_of n) (deed_next w).act (deed_next w).marks failed
line-stands b n Ends failed = refl
line-stands b n (Look ask next) failed = refl
line-stands b n (Then (Take l) note next) failed = refl
line-stands b n (Then (Free l) note next) failed = refl
line-stands b n (Then (Send job left) note next) failed = refl
line-stands b n (Then (Shift job) note next) failed = refl
line-stands b n (Then (Settle verdict) note next) failed = refl

pub step-stands : (b : BoardView) (asks : Asks) (n : Now) (e : Entry)
    → stand_of (step b asks n e) ≡ stand_behind b (stand_of n) (deed_next (current b asks n (caller_of e))) e
step-stands b asks n (entry.Take c l) = refl
step-stands b asks n (entry.Free c l) = refl
step-stands b asks n (entry.Settle c r cut) = refl
step-stands b asks n (entry.Message c bus purpose part parts addr reading bytes heard e) =
    message-stands b n c (current b asks n c) reading bytes e
step-stands b asks n (entry.Line c mux level failed) = line-stands b n (current b asks n c) failed

pub past-stands : (b : BoardView) (asks : Asks) (past : List Entry) → stand_of (now b asks past) ≡ stand b (deeds_of b asks past) past
past-stands b asks [] = refl
past-stands b asks (e ∷ past) =
    step-stands b asks (now b asks past) e
    ∙ ap (λ (s : Stand). stand_behind b s (deed_next (current b asks (now b asks past) (caller_of e))) e) (past-stands b asks past)

-- WHAT AN ENTRY TELLS
says : (b : BoardView) (n : Now) (act : Act) (e : Entry) → TellsAct b n act e → SaysAct b n.worlds act e
says b n act (entry.Take c l) tells = same_Some act (Take l) tells
says b n act (entry.Free c l) tells = same_Some act (Free l) tells
says b n act (entry.Line c mux level failed) tells = (tells.0, same_Some act (Shift tells.0) tells.1, tells.2)
says b n act (entry.Settle c r cut) tells = (tells.0, same_Some act (Settle tells.0) tells.1)
says b n act (entry.Message c bus purpose part parts addr reading bytes heard e) tells = (
  tells.0,
  tells.1,
  same_Some act (Send tells.0 tells.1) tells.2,
  search rules,
)

are-said : (b : BoardView) (ps : List PathStep) (steps : List Step) → AreTold b ps steps → AreSaid b ps (map doing_of steps)
are-said b [] steps told = ap (map doing_of) told
are-said b (Saw ask answer ∷ ps) [] told = absurd told
are-said b (Saw ask answer ∷ ps) (s ∷ steps) told = (told.0, are-said b ps (s ∷ steps) told.1)
are-said b (Did deed out ∷ ps) [] told = absurd told
are-said b (Did deed out ∷ ps) (s ∷ steps) told =
    (says b s.before deed.act s.entry told.0, told.1, told.2, are-said b ps steps told.3)

-- the replies are the same
pub replies-said : (steps : List Step) → replies_said (map doing_of steps) ≡ replies_in steps
replies-said [] = refl
replies-said (s ∷ steps) = by (replies-said steps) s.before s.deed s.entry
  where
    by : replies_said (map doing_of steps) ≡ replies_in steps → (n : Now) (d : Deed) (e : Entry)
        → replies_said (map doing_of (record { before = n; deed = d; entry = e } ∷ steps))
        ≡ replies_in (record { before = n; deed = d; entry = e } ∷ steps)
    by more n d (entry.Take c l) = more
    by more n d (entry.Free c l) = more
    by more n d (entry.Message c bus purpose part parts addr reading bytes heard e) = more
    by more n d (entry.Line c mux level failed) = more
    by more n d (entry.Settle c r cut) = ap (λ (rs : List Reply). r ∷ rs) more

module _ (b : BoardView) (asks : List Reply → Option TransferView) where
  are-done : (rs : List Reply) (steps : List Step) → AreTransfers b asks rs steps → AreDone b asks rs (map doing_of steps)
  are-done rs steps (no_more xs) = nothing xs
  are-done rs steps (one_more xs t walk mine rest all r asked keeps told settles more parts) =
      transfer xs t walk (map doing_of mine) (map doing_of rest) (map doing_of all) r asked keeps (are-said b walk mine told)
      (replies-said mine ∙ settles) (are-done (xs ++ r ∷ []) rest more) (ap (map doing_of) parts ∙ map-append doing_of mine rest)
  are-done rs steps (under_way xs t done rest mine asked keeps told quiet) =
      begun xs t done rest (map doing_of mine) asked keeps (are-said b done mine told) quiet

-- THE ENTRIES OF A CALLER
module _ (b : BoardView) (asks : Asks) (c : ℕ) where
  abbrev Alike : List Entry → Type 0
  Alike past = map doing_of (steps_in b asks c past) ≡ doings_in b c (deeds_of b asks past) past

  doings : (past : List Entry) → Alike past
  doings [] = refl
  doings (e ∷ past) = elim (eqb_tells (caller_of e) c) [ inl h ↦ own (doings past) h.1 | inr h ↦ other (doings past) h.1 ]
    where
      last : ℕ → Step
      last d = step_next (now b asks past) (current b asks (now b asks past) d) e

      said : Deed → Doing
      said d = record { before = stand b (deeds_of b asks past) past; deed = d; entry = e }

      own : Alike past → caller_of e ≡ c → Alike (e ∷ past)
      own same is =
          ap (λ (t : Bool). map doing_of (cond t (steps_in b asks c past ++ last c ∷ []) (steps_in b asks c past)))
          (eq-eqb (caller_of e) c is)
          ∙ map_push doing_of (steps_in b asks c past) (last c)
          ∙ ap (λ (xs : List Doing). xs ++ doing_of (last c) ∷ []) same
          ∙ ap (λ (d : ℕ). doings_in b c (deeds_of b asks past) past ++ doing_of (last d) ∷ []) (sym is)
          ∙ ap (λ (s : Stand). doings_in b c (deeds_of b asks past) past
          ++ (record { before = s; deed = deed_next (current b asks (now b asks past) (caller_of e)); entry = e }) ∷ [])
          (past-stands b asks past)
          ∙ sym (ap (λ (t : Bool). cond t (doings_in b c (deeds_of b asks past) past
          ++ said (deed_next (current b asks (now b asks past) (caller_of e))) ∷ []) (doings_in b c (deeds_of b asks past) past))
          (eq-eqb (caller_of e) c is))

      other : Alike past → (caller_of e ≡ c → ⊥) → Alike (e ∷ past)
      other same isnt =
          ap (λ (t : Bool). map doing_of (cond t (steps_in b asks c past ++ last c ∷ []) (steps_in b asks c past)))
          (ne_eqb (caller_of e) c isnt)
          ∙ same
          ∙ sym (ap (λ (t : Bool). cond t (doings_in b c (deeds_of b asks past) past
          ++ said (deed_next (current b asks (now b asks past) (caller_of e))) ∷ []) (doings_in b c (deeds_of b asks past) past))
          (ne_eqb (caller_of e) c isnt))

-- EACH MESSAGE
reaches-by : (b : BoardView) (asks : Asks) (past : List Entry) → Reaches b asks past → ReachesBy b asks (deeds_of b asks past) past
reaches-by b asks [] reach = tt
reaches-by b asks (e ∷ past) reach = (
  subst
      (λ (s : Stand). OfMessage (λ m. IsReached b (s.worlds (root_of b m.bus)) (is_forced (transfer_at asks past m.caller)) m) e)
      (past-stands b asks past) reach.0,
  reaches-by b asks past reach.1,
)

-- ALL RULES
pub ruled : (b : BoardView) (callers : ℕ) (asks : Asks) (past : List Entry) → IsLegal b callers asks past → IsRuled b callers asks past
ruled b callers asks past legal =
    record {
      known = legal.known;
      locks = legal.locks;
      whole = legal.whole;
      deeds = deeds_of b asks past;
      walks = λ c. subst (λ (xs : List Doing). AreDone b (asks c) [] xs) (doings b asks c past)
          (are-done b (asks c) [] (steps_in b asks c past) (legal.walks c));
      reach = reaches-by b asks past legal.reach;
      replies_kept = legal.replies_kept;
      settles = legal.settles;
    }

pub calls-same : (b : BoardView) (asks : Asks) (past : List Entry) (r : ℕ)
    → calls_of b asks past r ≡ calls_by b (deeds_of b asks past) past r
calls-same b asks past r = ap (λ (s : Stand). reverse (s.calls r)) (past-stands b asks past)

-- .. by what the entries of a legal journal do
pub ruled-calls : (b : BoardView) (callers : ℕ) (asks : Asks) (past : List Entry) (legal : IsLegal b callers asks past) (r : ℕ)
    → calls_of b asks past r ≡ calls_by b (ruled b callers asks past legal).deeds past r
unfolding ruled
ruled-calls b callers asks past legal r = calls-same b asks past r
