-- A step of one caller keeps the whole: what changes at its place is shown, and all else stays. No induction but over lists.
use Rattle.core_laws.proofs.Cited.{◌≡◌, ℕ, zero, suc, ◌+◌, ◌*◌, ◌<◌, ◌≤◌, false, IsTrue, List, [], ◌∷◌, length, set, get_or, Option, Some}
use Rattle.core_laws.proofs.Cited.{None, refl, sym, ◌∙◌, ap, subst, ◌⊎◌, inl, inr, arith, slice_get, eqb_tells, length-set, sum_by-set}
use Rattle.core_laws.proofs.Cited.{slice_get_within, slice_get-get_or, Entry, Errno, LockId, BoardView, Act, Settle, WalkTree, Ends, Look}
use Rattle.core_laws.proofs.Cited.{Then, Slots, seen, is_over, first_act, HoldsLocks, LocksView, seen_of, Spot, IsTold, AreNumbered}
use Rattle.core_laws.proofs.Cited.{AreRooted, RootPort, Place, spot_of, numbers_of, trees_of, spots_of, pending, has_reply, IsLone, Run}
use Rattle.core_laws.proofs.Cited.{Whole, StandsAt, IsGoing, SeatKept, CoreKept, IsLeft, next_of, slots_of, total, PortKept, HoldsAt}
use Rattle.core_laws.proofs.Cited.{AreDistinct, TableKept, map_from, set_elsewhere, map_at}
use Rattle.std.proofs.lemmas.List.{map-set}
use Rattle.core_laws.proofs.Steps.{set_here}
use Rattle.core_laws.proofs.Owed.{total-set}

pub set_same : {X : Type 0} (xs : List X) (i : ℕ) (x : X) → slice_get xs i ≡ Some x → set xs i x ≡ xs
set_same [] i x h = refl
set_same (y ∷ ys) zero x h = ap (λ (z : _). z ∷ ys) (let f : Some y ≡ Some x = h in let g : x ≡ y = cc in g)
set_same (y ∷ ys) (suc i) x h = ap (λ (zs : List _). y ∷ zs) (set_same ys i x h)

pub at_set : {X : Type 0} (xs : List X) (i k : ℕ) (x y : X) → slice_get (set xs i x) k ≡ Some y
    → ((k ≡ i) × (x ≡ y)) ⊎ ((k ≡ i → ⊥) × (slice_get xs k ≡ Some y))
at_set xs i k x y h =
    elim (eqb_tells k i) [
      | inl e ↦ inl (e.1, set_here xs i x y (subst (λ (j : ℕ). slice_get (set xs i x) j ≡ Some y) e.1 h))
      | inr e ↦ inr (e.1, sym (set_elsewhere xs i k x e.1) ∙ h)
    ]

pub there_in : {X Y : Type 0} (xs : List X) (ys : List Y) (i : ℕ) (x : X) → length xs ≡ length ys → slice_get xs i ≡ Some x
    → (y : Y) × (slice_get ys i ≡ Some y)
there_in [] ys i x e h = absurd (let g : None ≡ Some x = h in cc)
there_in (x2 ∷ xs) [] i x e h = absurd (omega (arith, e))
there_in (x2 ∷ xs) (y ∷ ys) zero x e h = (y, refl)
there_in (x2 ∷ xs) (y ∷ ys) (suc i) x e h = there_in xs ys i x (omega (arith, e)) h

-- the bytes that are still to be told once more, where one place is new
pub pending-set : (places : List Place) (place : ℕ) (p new : Place) → slice_get places place ≡ Some p
    → pending (set places place new) + length p.got ≡ pending places + length new.got
pending-set places place p new here =
    let low : place < length places = slice_get_within places place p here in
    let sums : pending (set places place new) + length (get_or places place p).got ≡ pending places + length new.got = sum_by-set
    (λ (q : Place). length q.got) places place new p low in
    let is : get_or places place p ≡ p = (let f : Some (get_or places place p) ≡ Some p = sym (slice_get-get_or places place p low)
    ∙ here in cc) in
    ap (λ (q : Place). pending (set places place new) + length q.got) (sym is) ∙ sums

-- a walk with a next step isn't over
pub not_over : (v : Slots) (w : WalkTree) (act : Act) → first_act (seen v w) ≡ Some act → is_over w ≡ false
not_over v Ends act e = absurd (let f : None ≡ Some act = e in cc)
not_over v (Look ask next) act e = refl
not_over v (Then a note next) act e = refl

-- a lone settle's walk does nothing else
pub lone_act : (b : BoardView) (v : Slots) (w : WalkTree) → IsLone b w → (act : Act) → first_act (seen v w) ≡ Some act
    → (verdict : Option Errno) × (act ≡ Settle verdict)
lone_act b v w lone act e = (
  Some lone.errno,
  (let f : Some act ≡ Some (Settle (Some lone.errno)) = sym e ∙ ap (λ (x : WalkTree). first_act (seen v x)) lone.is in
      cc),
)

module _ (run : Run) (whole : Whole) (core : CoreKept run whole) where
  -- what the lemmas of told steps want
  pub are-numbered : AreNumbered run.callers (spots_of whole.places)
  are-numbered =
      record {
        below = λ i x at. (let p = map_from spot_of whole.places i x at in
            subst (λ (y : Spot). y.number < run.callers) p.2 (core.below i p.0 p.1));
        once = λ i k x y at also e. (let p = map_from spot_of whole.places i x at in let q = map_from spot_of whole.places k y also in
            core.distinct i k p.0.number (map_at (λ (s : Place). s.number) whole.places i p.0 p.1)
            (map_at (λ (s : Place). s.number) whole.places k q.0 q.1
            ∙ ap (λ (j : ℕ). Some j) (ap (λ (s : Spot). s.number) q.2 ∙ sym e ∙ sym (ap (λ (s : Spot). s.number) p.2))));
      }

  module _ (place : ℕ) (p : Place) (here : slice_get whole.places place ≡ Some p) where
    pub locks-here : (ls : List LockId) × (slice_get whole.held place ≡ Some ls)
    locks-here = there_in (numbers_of whole.places) whole.held place p.number (sym core.table.counted)
        (map_at (λ (s : Place). s.number) whole.places place p here)

    pub owes-here : (n : ℕ) × (slice_get whole.owes place ≡ Some n)
    owes-here = there_in whole.places whole.owes place p (sym core.counted) here

    pub seat-here : SeatKept run p locks-here.0 owes-here.0
    seat-here = core.seats place p locks-here.0 owes-here.0 (record { here = here; holding = locks-here.1; owing = owes-here.1 })

    pub stands-here : StandsAt whole place p locks-here.0 owes-here.0
    stands-here = record { here = here; holding = locks-here.1; owing = owes-here.1 }

    pub number-here : slice_get (numbers_of whole.places) place ≡ Some p.number
    number-here = map_at (λ (s : Place). s.number) whole.places place p here

    pub spot-here : slice_get (spots_of whole.places) place ≡ Some (spot_of p)
    spot-here = map_at spot_of whole.places place p here

    pub tree-here : slice_get (trees_of whole.places) place ≡ Some p.tree
    tree-here = map_at (λ (s : Place). s.tree) whole.places place p here

  -- a walk that has a next step goes on; where that isn't its settle, it is a transfer's that wasn't refused
  module _ (place : ℕ) (p : Place) (ls : List LockId) (n : ℕ) (stands : StandsAt whole place p ls n) (act : Act)
      (first : next_of whole.locks p.tree ≡ Some act) where
    pub going-on : IsGoing run p n
    going-on = (core.seats place p ls n stands).going (not_over (slots_of (seen_of whole.locks)) p.tree act first)

    pub left-on : ((verdict : Option Errno) → act ≡ Settle verdict → ⊥) → IsLeft run.board p.transfer (has_reply p.owed) p.sent p.tree
    left-on other =
        elim going-on.is_left [
          | inl is ↦ is
          | inr lone ↦ (let a = lone_act run.board (slots_of (seen_of whole.locks)) p.tree lone.0 act first in absurd (other a.0 a.1))
        ]

  -- each walk with what it holds
  pub holds-at : (i : ℕ) (w : WalkTree) → slice_get (trees_of whole.places) i ≡ Some w
      → HoldsAt run.board (numbers_of whole.places) whole.held i w
  holds-at i w at =
      let p = map_from (λ (s : Place). s.tree) whole.places i w at in
      let seat = seat-here i p.0 p.1 in
      record {
        number = p.0.number;
        locks = (locks-here i p.0 p.1).0;
        numbered = number-here i p.0 p.1;
        here = (locks-here i p.0 p.1).1;
        holds = subst (λ (x : WalkTree). HoldsLocks run.board (locks-here i p.0 p.1).0 x) p.2 seat.holds;
      }

  -- THE FRAME: what is new at one place, and the rest stays
  pub core-stepped : (place : ℕ) (p new : Place) → slice_get whole.places place ≡ Some p → new.number ≡ p.number → (n less entries : ℕ)
      → slice_get whole.owes place ≡ Some n → less + entries ≤ n
      → (ls : List LockId) → SeatKept run new ls less
      → (v2 : LocksView) → TableKept run.board v2 (numbers_of whole.places) (set whole.held place ls)
      → (sockets2 : List RootPort) → AreRooted sockets2
      → ((k : ℕ) (y : RootPort) → slice_get sockets2 k ≡ Some y
      → PortKept run.board run.tells (total (set whole.owes place less)) (set (trees_of whole.places) place new.tree) y)
      → (past2 : List Entry) → (IsTrue run.tells
      → IsTold run.board run.callers run.asks past2 (set (spots_of whole.places) place (spot_of new)) v2 sockets2 None)
      → (room2 : ℕ) → whole.room ≡ room2 + entries → (spent : ℕ) → 2 * less + length new.got + spent ≤ 2 * n + length p.got
      → (room_bytes2 : ℕ) → whole.room_bytes ≡ room_bytes2 + spent
      → CoreKept run (record whole {
        past = past2;
        places = set whole.places place new;
        held = set whole.held place ls;
        owes = set whole.owes place less;
        locks = v2;
        sockets = sockets2;
        room = room2;
        room_bytes = room_bytes2;
      })
  core-stepped place p new here same n less entries owed falls ls seat v2 table sockets2 once ports past2 told room2 rooms spent weighs
      room_bytes2 rooms_bytes =
      let numbers : numbers_of (set whole.places place new) ≡ numbers_of whole.places =
      map-set (λ (s : Place). s.number) whole.places place new ∙ ap (λ (k : ℕ). set (numbers_of whole.places) place k) same
      ∙ set_same (numbers_of whole.places) place p.number (number-here place p here) in
      let sums : total (set whole.owes place less) + n ≡ total whole.owes + less = total-set whole.owes place n less owed in
      let gots : pending (set whole.places place new) + length p.got ≡ pending whole.places + length new.got =
      pending-set whole.places place p new here in
      record {
        distinct = subst (λ (ns : List ℕ). AreDistinct ns) (sym numbers) core.distinct;
        below = below;
        once = once;
        counted = length-set whole.owes place less ∙ core.counted ∙ sym (length-set whole.places place new);
        seats = λ i q ks m at. seats i q ks m at.here at.holding at.owing;
        table = subst (λ (ns : List ℕ). TableKept run.board v2 ns (set whole.held place ls)) (sym numbers) table;
        sockets_kept = λ k y at. subst (λ (ts : List WalkTree). PortKept run.board run.tells (total (set whole.owes place less)) ts y)
            (sym (map-set (λ (s : Place). s.tree) whole.places place new)) (ports k y at);
        room_left = (let was : total whole.owes ≤ whole.room = core.room_left in omega (arith, sums, falls, was, rooms));
        bytes_left = (let was : 2 * total whole.owes + pending whole.places ≤ whole.room_bytes = core.bytes_left in
            omega (arith, sums, gots, weighs, was, rooms_bytes));
        told = λ tell. subst (λ (ss : List Spot). IsTold run.board run.callers run.asks past2 ss v2 sockets2 None)
            (sym (map-set spot_of whole.places place new)) (told tell);
      }
    where
      below : (i : ℕ) (q : Place) → slice_get (set whole.places place new) i ≡ Some q → q.number < run.callers
      below i q at =
          elim (at_set whole.places place i new q at) [
            | inl e ↦ subst (λ (s : Place). s.number < run.callers) e.1
                (subst (λ (k : ℕ). k < run.callers) (sym same) (core.below place p here))
            | inr e ↦ core.below i q e.1
          ]

      seats : (i : ℕ) (q : Place) (ks : List LockId) (m : ℕ) → slice_get (set whole.places place new) i ≡ Some q
          → slice_get (set whole.held place ls) i ≡ Some ks → slice_get (set whole.owes place less) i ≡ Some m
          → SeatKept run q ks m
      seats i q ks m at holding owing =
          elim (at_set whole.places place i new q at) [
            | inl e ↦ (let own_locks : ls ≡ ks = set_here whole.held place ls ks
                (subst (λ (j : ℕ). slice_get (set whole.held place ls) j ≡ Some ks) e.0 holding) in
                let own_less : less ≡ m = set_here whole.owes place less m
                (subst (λ (j : ℕ). slice_get (set whole.owes place less) j ≡ Some m) e.0 owing) in
                subst (λ (k : ℕ). SeatKept run q ks k) own_less
                (subst (λ (xs : List LockId). SeatKept run q xs less) own_locks
                (subst (λ (s : Place). SeatKept run s ls less) e.1 seat)))
            | inr e ↦ core.seats i q ks m (record {
              here = e.1;
              holding = sym (set_elsewhere whole.held place i ls e.0) ∙ holding;
              owing = sym (set_elsewhere whole.owes place i less e.0) ∙ owing;
            })
          ]
