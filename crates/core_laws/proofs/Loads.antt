-- The seat of a caller whose next transfer is loaded, or which has none left. No induction.
use Rattle.core_laws.proofs.Cited.{◌≡◌, ℕ, ◌+◌, ◌<◌, ◌≤◌, true, false, List, [], ◌∷◌, ◌++◌, length, Option, Some, None, refl, sym, ◌∙◌, ◌⊎◌}
use Rattle.core_laws.proofs.Cited.{inl, inr, arith, Errno, Reply, TransferView, cost_of, refusal, WalkTree, Ends, is_over, walk_by}
use Rattle.core_laws.proofs.Cited.{walk_for, Place, IsLone, SeatKept, Run, IsFairRun, IsLeft}
use Rattle.i2c_base.specs.declared.errno.Errno.TheVariants as errno
use Rattle.i2c_base.specs.declared.reply.Reply.TheVariants as reply
use Rattle.i2c_base.specs.declared.reply.Cut.TheVariants as cut_at
use Rattle.bus_laws.proofs.walk.HoldsLaw.{walk-holds}
use Rattle.core_laws.proofs.Owed.{owes-load}
use Rattle.core_laws.proofs.WalkSteps.{left-opened, opened-goes}

module _ (run : Run) (fair : IsFairRun run) where
  walk_goes : (t : TransferView) → is_over (walk_for run.board t) ≡ false
  walk_goes t = by (refusal run.board t)
    where
      by : (o : Option Errno) → is_over (walk_by run.board t o) ≡ false
      by (Some e) = refl
      by None = opened-goes run.board t

  covered : (c : ℕ) (rs : List Reply) (t : TransferView) → run.asks c rs ≡ Some t → cost_of run.board t ≤ run.left c rs
  covered c rs t asked = (let f : run.left c (rs ++ reply.Err errno.Eio ∷ []) + cost_of run.board t ≤ run.left c rs = fair.falls c rs t
      (reply.Err errno.Eio) asked tt in omega (arith, f))

  begins : (t : TransferView) → 0 < length t.msgs
      → IsLeft run.board t false 0 (walk_for run.board t) ⊎ IsLone run.board (walk_for run.board t)
  begins t has_some = by (refusal run.board t) refl
    where
      by : (o : Option Errno) → refusal run.board t ≡ o
          → IsLeft run.board t false 0 (walk_by run.board t o) ⊎ IsLone run.board (walk_by run.board t o)
      by (Some e) refused = inr (record { errno = e; is = refl })
      by None granted = inl (left-opened run.board t fair.tree has_some granted)

  module _ (c : ℕ) (rs : List Reply) where
    abbrev pub loaded : TransferView → WalkTree → Place
    loaded t w = record { number = c; taken = rs; owed = []; transfer = t; tree = w; sent = 0; got = []; cut = cut_at.No }

    pub seat-loaded : (t : TransferView) → run.asks c rs ≡ Some t → (m : ℕ) → run.left c rs ≤ m
        → SeatKept run (loaded t (walk_for run.board t)) [] m
    seat-loaded t asked m fits =
        record {
          over = λ o. absurd (let f : false ≡ true = sym (walk_goes t) ∙ o in cc);
          going = λ g. record {
            asked = asked;
            is_left = elim (begins t (fair.sends c rs t asked)) [ inl is ↦ inl is | inr lone ↦ inr (lone, refl) ];
            partway = λ e. refl;
            emptied = λ e. refl;
            fits = λ r e. absurd (let f : [] ≡ r ∷ [] = e in cc);
            owes = owes-load run.board fair.tree fair.rules t (fair.sends c rs t asked) (fair.costs c rs t asked) (run.left c rs) m
                (covered c rs t asked) fits;
          };
          holds = walk-holds run.board fair.tree fair.lines t;
        }

    pub seat-over : (t : TransferView) → run.asks c rs ≡ None → (m : ℕ) → SeatKept run (loaded t Ends) [] m
    seat-over t none m =
        record { over = λ o. (none, refl); going = λ g. absurd (let f : true ≡ false = g in cc); holds = refl }
