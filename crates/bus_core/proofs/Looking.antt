-- The looks of all callers after a step of the one at a place: its own are answered anew, and those of the others stay.
use Rattle.bus_core.proofs.Cited.{◌≡◌, ℕ, List, Some, set, refl, sym, ◌∙◌, ap, subst, inl, inr, slice_get, LockId, BoardView, first_act}
use Rattle.bus_core.proofs.Cited.{first_note, rest_of, Act, ActOutcome, WalkTree, IsLooked, RouteView, SeenView, slots_of, NextMsg}
use Rattle.bus_core.proofs.Cited.{LocksView, with_holder, seen_of, turned_to, next_of, behind_of, at_set, MsgResult, run_of, whole_of}
use Rattle.bus_core.proofs.Cited.{IsKept, IsLookedAt, AreLooked, words_after, walk_left, place_of, HasHeard, IsOn, WentOn, updates_ahead}
use Rattle.bus_core.proofs.Cited.{updates_of, CoreInside, Seat, MuxUpdate}
use Rattle.i2c_base.specs.declared.caller.Caller.{Ghosts as CallerGhosts}
use Rattle.i2c_base.specs.declared.ids.LockId.TheVariants as lock
use Rattle.ports.specs.declared.port.Port.{Ghosts as PortGhosts}
use Rattle.mux_plan.specs.Marks.{updates_after}
use Rattle.mux_plan.specs.Plans.{looked_of}
use Rattle.core_laws.proofs.Laws.{looks-stay}
use Rattle.bus_core.proofs.Kept.{place-here, seated-here}

-- what comes next is what the walk begins with, its looks answered
pub next-looked : {C : Type 0} (v : LocksView) (s : Seat C) → IsLookedAt v s
    → first_act (looked_of s.walk) ≡ next_of v (walk_left s)
next-looked v s looked = ap first_act looked.same

pub rest-looked : {C : Type 0} (v : LocksView) (s : Seat C) (out : ActOutcome) → IsLookedAt v s
    → rest_of (looked_of s.walk) out ≡ behind_of v (walk_left s) out
rest-looked v s out looked = ap (λ (w : WalkTree). rest_of w out) looked.same

pub updates-looked : {C : Type 0} (v : LocksView) (s : Seat C) (out : ActOutcome) → IsLookedAt v s
    → updates_ahead out s ≡ updates_of v out s
updates-looked v s out looked = ap (λ (w : WalkTree). updates_after (first_act w) (first_note w) out) looked.same

-- another seat at a place, under other lock words that leave the looks of the others
pub looked-set : {C : Type 0} (v w : LocksView) (seats : List (Seat C)) (place : ℕ) (t : Seat C) → AreLooked v seats
    → IsLookedAt w t
    → ((i : ℕ) (s : Seat C) → slice_get seats i ≡ Some s → (i ≡ place → ⊥) → IsLookedAt v s → IsLookedAt w s)
    → AreLooked w (set seats place t)
looked-set v w seats place t all own others i s at =
    elim (at_set seats place i t s at) [
      | inl is ↦ subst (λ (y : Seat _). IsLookedAt w y) is.1 own
      | inr other ↦ others i s other.1 other.0 (all i s other.1)
    ]

-- a lock that is taken or freed tells no other marks
pub same_words : (v : LocksView) (l : LockId) (who : _) → seen_of (with_holder v l who) ≡ seen_of v
same_words v (lock.Bus root) who = refl
same_words v (lock.Mux bus) who = refl

pub looked-by : {C : Type 0} (v w : LocksView) (s : Seat C) → seen_of w ≡ seen_of v → IsLookedAt v s → IsLookedAt w s
looked-by v w s same looked =
    subst (λ (x : SeenView). IsLooked (slots_of x) s.walk) (sym same) looked

pub looked-locks : {C : Type 0} (v w : LocksView) (seats : List (Seat C)) (place : ℕ) (t : Seat C) → AreLooked v seats
    → seen_of w ≡ seen_of v → IsLookedAt v t → AreLooked w (set seats place t)
looked-locks v w seats place t all same own =
    looked-set v w seats place t all (looked-by v w t same own) (λ i s at other looked. looked-by v w s same looked)

-- where the looks of a seat are answered, so they are of one that has only answered them
pub heard-looked : {C : Type 0} (v : LocksView) (next : NextMsg) (bytes : List ℕ) (r : MsgResult) (s m t : Seat C)
    → HasHeard v next bytes r s m → t ≡ record m { walk = t.walk } → walk_left t ≡ walk_left m
    → t.walk.route ≡ m.walk.route → HasHeard v next bytes r s t
heard-looked v next bytes r s m t heard same walk route =
    subst (λ (y : Seat _). HasHeard v next bytes r s y) (sym same)
    (record {
      same = ap (λ (y : Seat _). record y { walk = t.walk }) heard.same;
      gone = heard.gone;
      got = heard.got;
      walk = ap walk_left (sym same) ∙ walk ∙ heard.walk;
      wrote = heard.wrote;
      route = route ∙ heard.route;
    })

pub went-looked : {C : Type 0} (v : LocksView) (out : ActOutcome) (cut : _) (s m t : Seat C)
    → WentOn v out cut s m → t ≡ record m { walk = t.walk } → walk_left t ≡ walk_left m
    → t.walk.route ≡ m.walk.route → WentOn v out cut s t
went-looked v out cut s m t went same walk route =
    record {
      same = same ∙ ap (λ (y : Seat _). record y { walk = t.walk }) went.same;
      walk = walk ∙ went.walk;
      route = route ∙ went.route;
    }

-- its walk is over the same board as before
pub route-on : {C : Type 0} (b : BoardView) (s t : Seat C) → t.walk.route ≡ s.walk.route → IsOn b s → IsOn b t
route-on b s t route on = ap (λ (r : RouteView). r.board) route ∙ on

pub still-on : {P C S : Type 0} {g : PortGhosts P} {c : CallerGhosts C S} {x : CoreInside P C} → IsKept g c x → (place : ℕ) {s : Seat C}
    → slice_get x.seats.items place ≡ Some s → (t : Seat C) → t.walk.route ≡ s.walk.route → IsOn x.board t
still-on {g = g} {c = c} {x = x} kept place {s} here t route = route-on x.board s t route (seated-here g c x kept place s here).on

-- the lock words after a step of a seat with this outcome
abbrev pub turned : {C : Type 0} → LocksView → ActOutcome → Seat C → LocksView
turned v out s = turned_to v (words_after (updates_of v out s) (seen_of v))

-- .. which are those with the marks that it changes by the looks that are answered
pub turned-by : {C : Type 0} {w : LocksView} {ds : List MuxUpdate} (v : LocksView) (s : Seat C) (out : ActOutcome) → IsLookedAt v s
    → w ≡ turned_to v (words_after ds (seen_of v)) → ds ≡ updates_ahead out s → w ≡ turned v out s
turned-by v s out looked is are =
    is ∙ ap (λ (es : List MuxUpdate). turned_to v (words_after es (seen_of v))) (are ∙ updates-looked v s out looked)

module _ {P C S : Type 0} (g : PortGhosts P) (c : CallerGhosts C S) (x : CoreInside P C) (kept : IsKept g c x) (place : ℕ) (s : Seat C)
    (here : slice_get x.seats.items place ≡ Some s) (act : Act) (first : next_of x.locks (walk_left s) ≡ Some act)
    (out : ActOutcome) where
  -- THE MARKS that a step changes leave the looks of the others
  others-stay : (i : ℕ) (q : Seat C) → slice_get x.seats.items i ≡ Some q → (i ≡ place → ⊥) → IsLookedAt x.locks q
      → IsLookedAt (turned x.locks out s) q
  others-stay i q at other looked = record {
    step = looked.step;
    same = looked.same
        ∙ sym (looks-stay (run_of g c x) (whole_of g c x kept.held kept.owes) kept.kept place (place_of c s)
        (place-here g c x kept place s here) act first out i (place_of c q) (place-here g c x kept i q at) other);
  }

  pub looked-turned : (w : LocksView) → w ≡ turned x.locks out s → (t : Seat C) → AreLooked x.locks x.seats.items → IsLookedAt w t
      → AreLooked w (set x.seats.items place t)
  looked-turned w is t all own =
      subst (λ (v : LocksView). AreLooked v (set x.seats.items place t)) (sym is)
      (looked-set x.locks (turned x.locks out s) x.seats.items place t all (subst (λ (v : LocksView). IsLookedAt v t) is own) others-stay)
