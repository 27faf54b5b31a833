-- One caller and the others: what a step of a walk does to the locks and to what is known of the buses.
use Rattle.bus_laws.proofs.Cited.{◌≡◌, ℕ, Bool, true, false, cond, List, [], Option, Some, None, refl, sym, ap, subst, LockId, BoardView}
use Rattle.bus_laws.proofs.Cited.{TransferView, IsTree, Asks, Ask, MarkOf, KeptOf, ask_bus, WalkTree, Ends, Look, Then, Slots, At}
use Rattle.bus_laws.proofs.Cited.{answer_to, mark_in, walk_for, seen, is_over, Now, begun, current, InLocks, Runs, LinesAreLocked}
use Rattle.bus_laws.proofs.Cited.{AsksForMessages, CallerStands, Stands, ahead}
use Rattle.i2c_base.specs.declared.ids.LockId.TheVariants as lock
use Rattle.bus_laws.proofs.tree.Law.{walk-runs}

-- what answers a question is told of its bus
pub answer_alike : (ask : Ask) (v w : Slots) → v (ask_bus ask) ≡ w (ask_bus ask) → answer_to v ask ≡ answer_to w ask
answer_alike (MarkOf p) v w e = ap (λ (x : At). mark_in x.slot) e
answer_alike (KeptOf p m) v w e = ap (λ (x : At). x.kept m) e

-- the looks in front of a walk change nothing where what is looked at is known
pub runs_seen : (b : BoardView) (whose : TransferView) (held : List LockId) (view slots : Slots)
    → ((p : ℕ) → InLocks (lock.Mux p) held → view p ≡ slots p)
    → (w : WalkTree) → Runs b whose held view w → Runs b whose held view (seen slots w)
runs_seen b whose held view slots agree Ends runs = runs
runs_seen b whose held view slots agree (Look ask next) runs =
    runs_seen b whose held view slots agree (next (answer_to slots ask))
    (subst (λ (m : Option ℕ). Runs b whose held view (next m)) (answer_alike ask view slots (agree (ask_bus ask) runs.0)) runs.1)
runs_seen b whose held view slots agree (Then act note next) runs = runs

-- a walk that is over has ended
pub over_ends : (w : WalkTree) → is_over w ≡ true → w ≡ Ends
over_ends Ends e = refl
over_ends (Look ask next) e = absurd (let f : false ≡ true = e in cc)
over_ends (Then act note next) e = absurd (let f : false ≡ true = e in cc)

-- what is ahead of a caller runs, from what it knows
pub ahead-stands : (b : BoardView) → IsTree b → LinesAreLocked b → (asks : Asks) → AsksForMessages asks → (n : Now) (c : ℕ) → Stands b n
    → CallerStands b (n.held c) (ahead b asks n c) n.slot
ahead-stands b tree lines asks some n c stands = by_over (is_over (n.walk c)) refl
  where
    was : CallerStands b (n.held c) (n.walk c) n.slot
    was = stands.callers c

    begin : n.held c ≡ [] → (o : Option TransferView) → asks c (n.settled c) ≡ o → CallerStands b (n.held c) (begun b o) n.slot
    begin empty None e = record { whose = was.whose; view = n.slot; runs = empty; agree = λ p i. refl }
    begin empty (Some t) e =
        record {
          whose = t;
          view = n.slot;
          runs = subst (λ (held : List LockId). Runs b t held n.slot (walk_for b t)) (sym empty)
              (walk-runs b t tree lines (some c (n.settled c) t e) n.slot);
          agree = λ p i. refl;
        }

    by_over : (t : Bool) → is_over (n.walk c) ≡ t → CallerStands b (n.held c) (cond t (begun b (asks c (n.settled c))) (n.walk c)) n.slot
    by_over true e = begin (subst (λ (w : WalkTree). Runs b was.whose (n.held c) was.view w) (over_ends (n.walk c) e) was.runs)
        (asks c (n.settled c)) refl
    by_over false e = was

-- what a caller does next runs, from what is known
pub current-stands : (b : BoardView) → IsTree b → LinesAreLocked b → (asks : Asks) → AsksForMessages asks → (n : Now) (c : ℕ) → Stands b n
    → CallerStands b (n.held c) (current b asks n c) n.slot
current-stands b tree lines asks some n c stands =
    let was = ahead-stands b tree lines asks some n c stands in
    record {
      whose = was.whose;
      view = was.view;
      runs = runs_seen b was.whose (n.held c) was.view n.slot was.agree (ahead b asks n c) was.runs;
      agree = was.agree;
    }
