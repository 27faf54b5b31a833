-- What each step keeps of the ports, over ports that tell nothing too. No induction.
use Rattle.core_laws.proofs.Cited.{◌≡◌, ℕ, zero, suc, ◌+◌, ◌*◌, ◌≤◌, Bool, true, false, IsTrue, List, length, set, Some, sym, ◌∙◌, ap}
use Rattle.core_laws.proofs.Cited.{subst, ◌⊎◌, inl, inr, arith, slice_get, eqb_tells, LockId, End, Idle, MayStart, BoardView, root_of}
use Rattle.core_laws.proofs.Cited.{MessageView, Job, Call, Select, SwitchOff, Act, Send, Shift, Sent, WalkTree, Then, job_bus, is_last}
use Rattle.core_laws.proofs.Cited.{Slots, seen, first_act, rest_of, InLocks, Settles, first_is, seen-first, call-goes-on, settles-sent}
use Rattle.core_laws.proofs.Cited.{slots_of, HoldsLocks, LocksView, holder_in, seen_of, AreRooted, RootPort, AreDistinct, TableKept}
use Rattle.core_laws.proofs.Cited.{IsInside, PortKept, HoldsAt, set_elsewhere}
use Rattle.i2c_base.specs.declared.ids.LockId.TheVariants as lock
use Rattle.i2c_base.specs.declared.entry.End.TheVariants as end
use Rattle.core_laws.proofs.Steps.{set_here}
use Rattle.core_laws.specs.Ports.{IsFree}
use Rattle.core_laws.proofs.Table.{set_at, one_place}
use Rattle.core_laws.proofs.Holding.{holds-shifted}

-- who is inside holds its root's lock
inside-holds : (b : BoardView) (ls : List LockId) (w : WalkTree) (r : ℕ) → IsInside b w r → HoldsLocks b ls w → InLocks (lock.Bus r) ls
inside-holds b ls w r inside holds =
    let at = first_is w (Send (Call inside.bus inside.messages) inside.left) inside.first in
    let h : HoldsLocks b ls (Then (Send (Call inside.bus inside.messages) inside.left) at.0 at.1) = subst
    (λ (x : WalkTree). HoldsLocks b ls x) at.2 holds in
    subst (λ (k : ℕ). InLocks (lock.Bus k) ls) inside.on_root h.0.rooted

-- another next step isn't inside
pub not-inside : (b : BoardView) (v : Slots) (w : WalkTree) (r : ℕ) (act : Act) → first_act (seen v w) ≡ Some act
    → ((bus : ℕ) (ms : List MessageView) (left : ℕ) → act ≡ Send (Call bus ms) left → root_of b bus ≡ r → ⊥) → IsInside b w r → ⊥
not-inside b v w r act first other inside =
    let next : Act = Send (Call inside.bus inside.messages) inside.left in
    let same : Some act ≡ Some next = sym first ∙ ap (λ (x : WalkTree). first_act x) (seen-first v w next inside.first) ∙ inside.first in
    let is : act ≡ next = cc in
    other inside.bus inside.messages inside.left is inside.on_root

module _ (b : BoardView) (tells : Bool) (trees : List WalkTree) (place : ℕ) (w new : WalkTree) (here : slice_get trees place ≡ Some w) where
  free_still : (y : RootPort) → IsFree b trees y → (IsInside b w y.root → ⊥) → IsFree b (set trees place new) y
  free_still y (inl idle) out = inl idle
  free_still y (inr x) out =
      elim (eqb_tells x.0 place) [
        | inl h ↦ absurd (out (subst (λ (z : WalkTree). IsInside b z y.root) (one_place trees x.0 place x.1 w x.2 here h.1) x.3))
        | inr h ↦ inr (x.0, x.1, set_elsewhere trees place x.0 new h.1 ∙ x.2, x.3)
      ]

  -- a port that the step doesn't touch
  pub still-kept : (owed less : ℕ) → less ≤ owed → (y : RootPort) → PortKept b tells owed trees y → (IsInside b w y.root → ⊥)
      → PortKept b tells less (set trees place new) y
  still-kept owed less fewer y kept out =
      record {
        start = kept.start;
        free = free_still y kept.free out;
        short = λ tell. (let h = kept.short tell in omega (arith, h, fewer));
      }

  -- every port after a step that touches none
  pub sockets-still : (sockets : List RootPort) (owed less : ℕ) → less ≤ owed
      → ((k : ℕ) (y : RootPort) → slice_get sockets k ≡ Some y → PortKept b tells owed trees y)
      → (v : Slots) (act : Act) → first_act (seen v w) ≡ Some act
      → ((bus : ℕ) (ms : List MessageView) (left : ℕ) → act ≡ Send (Call bus ms) left → ⊥)
      → (k : ℕ) (y : RootPort) → slice_get sockets k ≡ Some y → PortKept b tells less (set trees place new) y
  sockets-still sockets owed less fewer kept v act first other k y at =
      still-kept owed less fewer y (kept k y at) (not-inside b v w y.root act first (λ bus ms left is root. other bus ms left is))

  -- every port after a step on one of them
  pub sockets-spoken : (sockets : List RootPort) → AreRooted sockets → (owed less calls : ℕ) → calls + 2 * less ≤ 2 * owed
      → ((k : ℕ) (y : RootPort) → slice_get sockets k ≡ Some y → PortKept b tells owed trees y)
      → (v : Slots) (act : Act) → first_act (seen v w) ≡ Some act → (at : ℕ) (old now : RootPort) → slice_get sockets at ≡ Some old
      → now.root ≡ old.root
      → ((bus : ℕ) (ms : List MessageView) (left : ℕ) → act ≡ Send (Call bus ms) left → root_of b bus ≡ old.root)
      → MayStart now.phase → (now.phase ≡ Idle) ⊎ IsInside b new now.root → (IsTrue tells → length now.log ≤ length old.log + calls)
      → (k : ℕ) (y : RootPort) → slice_get (set sockets at now) k ≡ Some y → PortKept b tells less (set trees place new) y
  sockets-spoken sockets once owed less calls weighs kept v act first at old now port root on_root start free grows k y is =
      elim (eqb_tells k at) [
        | inl h ↦ subst (λ (z : RootPort). PortKept b tells less (set trees place new) z)
            (set_here sockets at now y (subst (λ (j : ℕ). slice_get (set sockets at now) j ≡ Some y) h.1 is))
            (record {
              start = start;
              free = free_now free;
              short = λ tell. (let h = (kept at old port).short tell in let g = grows tell in omega (arith, h, g, weighs));
            })
        | inr h ↦ (let was : slice_get sockets k ≡ Some y = sym (set_elsewhere sockets at k now h.1) ∙ is in
            still-kept owed less (omega (arith, weighs)) y (kept k y was)
            (not-inside b v w y.root act first (λ bus ms left e r. h.1 (once k at y old was port (sym r ∙ on_root bus ms left e)))))
      ]
    where
      free_now : (now.phase ≡ Idle) ⊎ IsInside b new now.root → IsFree b (set trees place new) now
      free_now (inl idle) = inl idle
      free_now (inr inside) = inr (place, new, set_at trees place new w here, inside)

-- A LINE STEP that comes next finds its port idle: whoever were inside would hold the same root's lock
pub line-idle : (b : BoardView) (tells : Bool) (owed : ℕ) (trees : List WalkTree) (numbers : List ℕ) (held : List (List LockId))
    (v : LocksView) → TableKept b v numbers held → AreDistinct numbers
    → ((i : ℕ) (w : WalkTree) → slice_get trees i ≡ Some w → HoldsAt b numbers held i w)
    → (place : ℕ) (w : WalkTree) → slice_get trees place ≡ Some w → (job : Job)
    → first_act (seen (slots_of (seen_of v)) w) ≡ Some (Shift job)
    → (x : RootPort) → x.root ≡ root_of b (job_bus job) → PortKept b tells owed trees x → x.phase ≡ Idle
line-idle b tells owed trees numbers held v table distinct each place w here job first x root kept = by kept.free
  where
    r : ℕ
    r = root_of b (job_bus job)

    own : HoldsAt b numbers held place w
    own = each place w here

    mine : holder_in v (lock.Bus (root_of b (job_bus job))) ≡ Some own.number
    mine = table.has place own.locks own.number own.here own.numbered (lock.Bus (root_of b (job_bus job)))
        (holds-shifted b (seen_of v) table.home own.locks w own.holds job first).0.rooted

    by : IsFree b trees x → x.phase ≡ Idle
    by (inl idle) = idle
    by (inr s) =
        let other : HoldsAt b numbers held s.0 s.1 = each s.0 s.1 s.2 in
        let theirs : holder_in v (lock.Bus x.root) ≡ Some other.number = table.has s.0 other.locks other.number other.here other.numbered
        (lock.Bus x.root) (inside-holds b other.locks s.1 x.root s.3 other.holds) in
        let both : Some own.number ≡ Some other.number = sym mine ∙ ap (λ (k : ℕ). holder_in v (lock.Bus k)) (sym root) ∙ theirs in
        let one : own.number ≡ other.number = cc in
        let same : s.0 ≡ place = distinct s.0 place other.number other.numbered (own.numbered ∙ ap (λ (k : ℕ). Some k) one) in
        absurd (not-inside b (slots_of (seen_of v)) w x.root (Shift job) first
        (λ bus ms left e k. let f : Shift job ≡ Send (Call bus ms) left = e in cc)
        (subst (λ (z : WalkTree). IsInside b z x.root) (one_place trees s.0 place s.1 w s.2 here same) s.3))

-- A MESSAGE leaves its port idle, or its caller inside: it is idle where it was the last, or ended
pub inside-behind : (b : BoardView) (settled : Bool) (v : Slots) (w : WalkTree) → Settles settled w → (job : Job) (left : ℕ)
    → first_act (seen v w) ≡ Some (Send job left)
    → (e : End) (bytes : List ℕ) (r : ℕ) → root_of b (job_bus job) ≡ r → is_last job left ≡ false → e ≡ end.Ok
    → IsInside b (rest_of (seen v w) (Sent e bytes)) r
inside-behind b settled v w settles (Select h) left first e bytes r root last fine = absurd (let f : true ≡ false = last in cc)
inside-behind b settled v w settles (SwitchOff off) left first e bytes r root last fine = absurd (let f : true ≡ false = last in cc)
inside-behind b settled v w settles (Call bus ms) zero first e bytes r root last fine = absurd (let f : true ≡ false = last in cc)
inside-behind b settled v w settles (Call bus ms) (suc left) first e bytes r root last fine =
    subst (λ (x : End). IsInside b (rest_of (seen v w) (Sent x bytes)) r) (sym fine)
    (let goes = (settles-sent settled v w settles (Call bus ms) (suc left) first).1 end.Ok bytes in
    record {
      bus = bus;
      messages = ms;
      left = left;
      first = call-goes-on goes.0 bus ms left bytes (rest_of (seen v w) (Sent end.Ok bytes)) goes.1;
      on_root = root;
    })
