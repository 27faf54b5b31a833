-- The whole holds at the opening, and where every walk waits all have ended. No induction.
use Rattle.core_laws.proofs.Cited.{◌≡◌, ℕ, zero, suc, ◌+◌, ◌*◌, ◌≤◌, IsTrue, List, [], ◌∷◌, ◌++◌, length, Option, Some, None, refl, sym}
use Rattle.core_laws.proofs.Cited.{◌∙◌, ap, subst, inl, arith, slice_get, slice_index_or, Entry, LockId, Phase, MayStart, Reply, WalkTree}
use Rattle.core_laws.proofs.Cited.{seen, first_act, now, rank, PortCall, InLocks, slots_of, IsLockOf, IsMarkOn, HoldsLocks, IsHeldUp}
use Rattle.core_laws.proofs.Cited.{LocksView, holder_in, rank_in, seen_of, Spot, SpotTold, IsTold, Place, spot_of, numbers_of, trees_of}
use Rattle.core_laws.proofs.Cited.{spots_of, pending, SeatKept, CoreKept, Run, Whole, total, IsOnce, TableKept, map_from}
use Rattle.std.proofs.Common.{map, replicate}
use Rattle.std.proofs.lemmas.List.{length-map, length-replicate}
use Rattle.std.proofs.lemmas.List.Sums.{sum_by-cons}
use Rattle.i2c_base.specs.declared.ids.LockId.TheVariants as lock
use Rattle.bus_laws.specs.Waiting.{LocksKept}
use Rattle.bus_laws.proofs.walk.Waits.{all-ended}
use Rattle.seg_locks.specs.Locks.{opened}
use Rattle.core_laws.specs.Opens.{AreFree, IsOpened}
use Rattle.core_laws.proofs.Core.{holds-at}
use Rattle.core_laws.proofs.Holding.{mark_of_slot}

abbrev nobody_has : Option ℕ
nobody_has = None

none_at : (n k : ℕ) → slice_index_or (replicate n nobody_has) k nobody_has ≡ nobody_has
none_at zero k = refl
none_at (suc n) zero = refl
none_at (suc n) (suc k) = none_at n k

-- lock words as they are opened are free
pub opened-free : (depths : List ℕ) (roots muxes : ℕ) → AreFree (opened depths roots muxes)
opened-free depths roots muxes =
    record {
      holders = free;
      marks = none_at (length depths);
      kept = none_at muxes;
    }
  where
    free : (l : LockId) → holder_in (opened depths roots muxes) l ≡ None
    free (lock.Bus r) = none_at roots r
    free (lock.Mux q) = none_at (length depths) q

-- nothing was read of any
none_pending : (places : List Place) → ((i : ℕ) (p : Place) → slice_get places i ≡ Some p → p.got ≡ []) → pending places ≡ 0
none_pending [] fresh = refl
none_pending (p ∷ ps) fresh =
    let sums : pending (p ∷ ps) ≡ length p.got + pending ps = sum_by-cons (λ (q : Place). length q.got) p ps in
    let here : length p.got ≡ 0 = ap (λ (xs : List ℕ). length xs) (fresh 0 p refl) in
    let rest : pending ps ≡ 0 = none_pending ps (λ i q at. fresh (suc i) q at) in
    omega (arith, sums, here, rest)

abbrev pub nothing : List LockId
nothing = []

empty_at : (xs : List Place) (i : ℕ) (ls : List LockId) → slice_get (map (λ (x : Place). nothing) xs) i ≡ Some ls → ls ≡ []
empty_at xs i ls h = (let x = map_from (λ (x : Place). nothing) xs i ls h in sym x.2)

module _ (run : Run) (whole : Whole) (o : IsOpened run whole) where
  free : AreFree whole.locks
  free = subst AreFree (sym o.locks_free) (opened-free o.depths (length run.board.roots) (length run.board.muxes))

  ranks : (l : LockId) → IsLockOf run.board l → rank_in whole.locks l ≡ rank run.board l
  ranks (lock.Bus r) is = refl
  ranks (lock.Mux q) is = ap (λ (w : LocksView). slice_index_or w.depths q 0 + 1) o.locks_free ∙ ap (λ (k : ℕ). k + 1) (o.deep.each q is)

  abbrev nothing_held : List (List LockId)
  nothing_held = map (λ (p : Place). nothing) whole.places

  table : TableKept run.board whole.locks (numbers_of whole.places) nothing_held
  table =
      record {
        counted = length-map whole.places (λ (p : Place). nothing) ∙ sym (length-map whole.places (λ (p : Place). p.number));
        roots = ap (λ (w : LocksView). length w.roots) o.locks_free ∙ length-replicate (length run.board.roots) nobody_has;
        muxes = ap (λ (w : LocksView). length w.buses) o.locks_free ∙ length-replicate (length o.depths) nobody_has ∙ o.deep.all;
        marked = ap (λ (w : LocksView). length w.marks) o.locks_free ∙ length-replicate (length o.depths) nobody_has ∙ o.deep.all;
        kept = ap (λ (w : LocksView). length w.kept) o.locks_free ∙ length-replicate (length run.board.muxes) nobody_has;
        deep = ap (λ (w : LocksView). length w.depths) o.locks_free ∙ o.deep.all;
        ranked = ranks;
        named = λ l c h. absurd (let f : None ≡ Some c = sym (free.holders l) ∙ h in cc);
        has = λ i ls c at num l among. absurd (subst (λ (ks : List LockId). InLocks l ks) (empty_at whole.places i ls at) among);
        once = λ i ls at. subst (λ (ks : List LockId). IsOnce ks) (sym (empty_at whole.places i ls at)) tt;
        home = λ q. subst (λ (m : Option ℕ). IsMarkOn run.board q m) (sym (free.marks q)) tt;
      }

  told : IsTrue run.tells → IsTold run.board run.callers run.asks [] (spots_of whole.places) whole.locks whole.sockets None
  told tell =
      record {
        stepwise = tt;
        rests = refl;
        spots_told = λ i x at. (let p = map_from spot_of whole.places i x at in
            let fresh = o.fresh i p.0 p.1 in
            subst (λ (s : Spot). SpotTold run.board run.asks (now run.board run.asks []) s) p.2
            (record {
              walk = sym (o.loads i p.0 p.1);
              settled = sym (ap (λ (rs : List Reply). rs ++ p.0.owed) fresh.0 ∙ fresh.1);
              got_is = sym fresh.2;
              cut_is = sym fresh.3;
            }));
        locks_told = record {
          roots = table.roots;
          muxes = table.muxes;
          holder = λ l is. free.holders l;
          mark = λ q. sym (free.marks q);
          kept = λ m. sym (free.kept m);
        };
        ports_told = λ k y at. record { world = (o.worlds tell k y at).0; log = (o.worlds tell k y at).1 };
      }

  opened_so : CoreKept run (record whole { past = []; held = nothing_held })
  opened_so =
      record {
        distinct = o.distinct;
        below = o.below;
        once = o.once;
        counted = o.counted;
        seats = λ i p ls n at. subst (λ (ks : List LockId). SeatKept run p ks n) (sym (empty_at whole.places i ls at.holding))
            (o.seats i p n at.here at.owing);
        table = table;
        sockets_kept = λ k y at. record {
          start = subst (λ (x : Phase). MayStart x) (sym (o.idle k y at)) tt;
          free = inl (o.idle k y at);
          short = λ tell. (let e : length y.log ≡ 0 = ap (λ (l : List PortCall). length l) (o.worlds tell k y at).1 in let m = o.most in
              omega (arith, e, m));
        };
        room_left = o.room_left;
        bytes_left = (let none : pending whole.places ≡ 0 = none_pending whole.places (λ i p at. (o.fresh i p at).2) in
            let all : 2 * total whole.owes ≤ whole.room_bytes = o.bytes_left in omega (arith, none, all));
        told = told;
      }

  pub core-opened : CoreKept run whole
  core-opened =
      subst (λ (es : List Entry). CoreKept run (record whole { past = es })) (sym o.nothing)
      (subst (λ (hs : List (List LockId)). CoreKept run (record whole { past = []; held = hs })) (sym o.none_held) opened_so)

-- who is ready: where no walk has a step that isn't held up, all have ended
module _ (run : Run) (whole : Whole) (core : CoreKept run whole) where
  pub locks-kept : LocksKept run.board (trees_of whole.places) whole.held (numbers_of whole.places) (holder_in whole.locks)
      (slots_of (seen_of whole.locks))
  locks-kept =
      record {
        counted = core.table.counted ∙ length-map whole.places (λ (p : Place). p.number)
            ∙ sym (length-map whole.places (λ (p : Place). p.tree));
        marks = λ q. mark_of_slot run.board q (slice_index_or whole.locks.marks q None) (core.table.home q);
        holds = λ i w ls at holding. (let h = holds-at run whole core i w at in
            subst (λ (ks : List LockId). HoldsLocks run.board ks w) (let f : Some h.locks ≡ Some ls = sym h.here ∙ holding in cc) h.holds);
        has = λ l c h. (let at = core.table.named l c h in (at.place, at.locks, at.here, at.number, at.among));
      }

  pub none-ready : ((i : ℕ) (w : WalkTree) → slice_get (trees_of whole.places) i ≡ Some w
      → IsHeldUp (holder_in whole.locks) (slots_of (seen_of whole.locks)) w)
      → (i : ℕ) (w : WalkTree) → slice_get (trees_of whole.places) i ≡ Some w → first_act (seen (slots_of (seen_of whole.locks)) w) ≡ None
  none-ready all = all-ended run.board (trees_of whole.places) whole.held (numbers_of whole.places) (holder_in whole.locks)
      (slots_of (seen_of whole.locks)) locks-kept all
