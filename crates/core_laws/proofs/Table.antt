-- Each step keeps the table. The inductions go over lists of marks and over the looks in front of a walk.
use Rattle.core_laws.proofs.Cited.{◌≡◌, ℕ, zero, suc, ◌+◌, ◌<◌, Bool, true, false, cond, List, [], ◌∷◌, length, set, Option, Some, None}
use Rattle.core_laws.proofs.Cited.{refl, sym, ◌∙◌, ap, subst, inl, inr, arith, slice_get, slice_index_or, eqb_tells, leb_tells, length-set}
use Rattle.core_laws.proofs.Cited.{get_or_past, LockId, BoardView, buses, is_lock, rank, IsBelow, InLocks, IsLockOf, IsMarkOn, LocksView}
use Rattle.core_laws.proofs.Cited.{holder_in, rank_in, with_holder, IsOnce, AreDistinct, TableKept, set_elsewhere}
use Rattle.i2c_base.specs.declared.ids.LockId.TheVariants as lock
use Rattle.bus_laws.proofs.past.Laws.{below_each}
use Rattle.core_laws.proofs.Steps.{set_here, word_set}
use Rattle.bus_laws.proofs.past.StandsStep.{lock_tells}
use Rattle.core_laws.specs.Table.{IsHeldBy}

-- a place that is there is set
pub set_at : {X : Type 0} (xs : List X) (i : ℕ) (x y : X) → slice_get xs i ≡ Some y → slice_get (set xs i x) i ≡ Some x
set_at [] i x y h = absurd (let f : None ≡ Some y = h in cc)
set_at (z ∷ zs) zero x y h = refl
set_at (z ∷ zs) (suc i) x y h = set_at zs i x y h

pub one_place : {X : Type 0} (xs : List X) (i k : ℕ) (x y : X) → slice_get xs i ≡ Some x → slice_get xs k ≡ Some y → i ≡ k → x ≡ y
one_place xs i k x y a b e = (let f : Some x ≡ Some y = sym a ∙ ap (slice_get xs) e ∙ b in cc)

some_behind : (ws : List (Option ℕ)) (i c : ℕ) → slice_index_or ws i None ≡ Some c → i < length ws
some_behind ws i c h =
    elim (leb_tells (length ws) i) [
      | inl past ↦ absurd (let f : None ≡ Some c = sym (get_or_past ws i None past.1) ∙ h in cc)
      | inr low ↦ (let l = low.1 in omega (arith, l))
    ]

module _ (b : BoardView) (v : LocksView) (numbers : List ℕ) (held : List (List LockId)) (kept : TableKept b v numbers held) where
  -- a lock that somebody has is one of the board
  pub lock-there : (l : LockId) (c : ℕ) → holder_in v l ≡ Some c → IsLockOf b l
  lock-there (lock.Bus r) c h = (let low : r < length v.roots = some_behind v.roots r c h in
      let all : length v.roots ≡ length b.roots = kept.roots in omega (arith, low, all))
  lock-there (lock.Mux p) c h = (let low : p < length v.buses = some_behind v.buses p c h in
      let all : length v.buses ≡ buses b = kept.muxes in omega (arith, low, all))

  pub holder-set : (l : LockId) → IsLockOf b l → (who : Option ℕ) (k : LockId)
      → holder_in (with_holder v l who) k ≡ cond (is_lock l k) who (holder_in v k)
  holder-set (lock.Bus r) is who (lock.Bus s) = word_set v.roots r s who (let all : length v.roots ≡ length b.roots = kept.roots in
      omega (arith, all, is))
  holder-set (lock.Bus r) is who (lock.Mux q) = refl
  holder-set (lock.Mux p) is who (lock.Bus s) = refl
  holder-set (lock.Mux p) is who (lock.Mux q) = word_set v.buses p q who (let all : length v.buses ≡ buses b = kept.muxes in
      omega (arith, all, is))

  set_same : (l : LockId) → IsLockOf b l → (who : Option ℕ) (k : LockId) → is_lock l k ≡ true → holder_in (with_holder v l who) k ≡ who
  set_same l is who k e = holder-set l is who k ∙ ap (λ (t : Bool). cond t who (holder_in v k)) e

  set_other : (l : LockId) → IsLockOf b l → (who : Option ℕ) (k : LockId) → is_lock l k ≡ false
      → holder_in (with_holder v l who) k ≡ holder_in v k
  set_other l is who k e = holder-set l is who k ∙ ap (λ (t : Bool). cond t who (holder_in v k)) e

  roots_set : (l : LockId) (who : Option ℕ) → length (with_holder v l who).roots ≡ length b.roots
  roots_set (lock.Bus r) who = length-set v.roots r who ∙ kept.roots
  roots_set (lock.Mux p) who = kept.roots

  muxes_set : (l : LockId) (who : Option ℕ) → length (with_holder v l who).buses ≡ buses b
  muxes_set (lock.Bus r) who = kept.muxes
  muxes_set (lock.Mux p) who = length-set v.buses p who ∙ kept.muxes

  marks_set : (l : LockId) (who : Option ℕ) → (with_holder v l who).marks ≡ v.marks
  marks_set (lock.Bus r) who = refl
  marks_set (lock.Mux p) who = refl

  kept_set : (l : LockId) (who : Option ℕ) → (with_holder v l who).kept ≡ v.kept
  kept_set (lock.Bus r) who = refl
  kept_set (lock.Mux p) who = refl

  depths_set : (l : LockId) (who : Option ℕ) → (with_holder v l who).depths ≡ v.depths
  depths_set (lock.Bus r) who = refl
  depths_set (lock.Mux p) who = refl

  rank_set : (l : LockId) (who : Option ℕ) (k : LockId) → rank_in (with_holder v l who) k ≡ rank_in v k
  rank_set l who (lock.Bus s) = refl
  rank_set l who (lock.Mux q) = ap (λ (ds : List ℕ). slice_index_or ds q 0 + 1) (depths_set l who)

  module _ (distinct : AreDistinct numbers) (place c : ℕ) (ls : List LockId) (here : slice_get held place ≡ Some ls)
      (number : slice_get numbers place ≡ Some c) where
    -- who has the lock, and where: it is this caller's exactly where it is among its own
    pub own-locks : (l : LockId) → holder_in v l ≡ Some c → InLocks l ls
    own-locks l h =
        let at : IsHeldBy numbers held l c = kept.named l c h in
        subst (λ (ks : List LockId). InLocks l ks)
        (one_place held at.place place at.locks ls at.here here (distinct at.place place c at.number number)) at.among

    -- what `Locks::take` wants: the lock is below all that its caller has
    pub below-all : (l : LockId) → IsBelow b l ls → (k : LockId) → holder_in v k ≡ Some c → rank b l < rank b k
    below-all l below k h = below_each b l ls k below (own-locks k h)

    pub take-table : (l : LockId) → IsLockOf b l → holder_in v l ≡ None
        → TableKept b (with_holder v l (Some c)) numbers (set held place (l ∷ ls))
    take-table l is free =
        record {
          counted = length-set held place (l ∷ ls) ∙ kept.counted;
          roots = roots_set l (Some c);
          muxes = muxes_set l (Some c);
          marked = ap (λ (ms : List (Option ℕ)). length ms) (marks_set l (Some c)) ∙ kept.marked;
          kept = ap (λ (cs : List (Option ℕ)). length cs) (kept_set l (Some c)) ∙ kept.kept;
          deep = ap (λ (ds : List ℕ). length ds) (depths_set l (Some c)) ∙ kept.deep;
          ranked = λ k at. rank_set l (Some c) k ∙ kept.ranked k at;
          named = named;
          has = has;
          once = once;
          home = λ p. subst (λ (ms : List (Option ℕ)). IsMarkOn b p (slice_index_or ms p None)) (sym (marks_set l (Some c))) (kept.home p);
        }
      where
        named : (k : LockId) (d : ℕ) → holder_in (with_holder v l (Some c)) k ≡ Some d → IsHeldBy numbers (set held place (l ∷ ls)) k d
        named k d h =
            elim (lock_tells l k) [
              | inl same ↦ (let who : Some c ≡ Some d = sym (set_same l is (Some c) k same.0) ∙ h in let own : c ≡ d = cc in
                  record {
                    place = place;
                    locks = l ∷ ls;
                    here = set_at held place (l ∷ ls) ls here;
                    number = number
                        ∙ ap (λ (x : ℕ). Some x) own;
                    among = inl (sym same.1);
                  })
              | inr other ↦ (let at : IsHeldBy numbers held k d = kept.named k d (sym (set_other l is (Some c) k other.0) ∙ h) in
                  elim (eqb_tells at.place place) [
                    | inl e ↦ record {
                      place = place;
                      locks = l ∷ ls;
                      here = set_at held place (l ∷ ls) ls here;
                      number = ap (slice_get numbers) (sym e.1) ∙ at.number;
                      among = inr (subst (λ (ks : List LockId). InLocks k ks)
                          (one_place held at.place place at.locks ls at.here here e.1) at.among);
                    }
                    | inr e ↦ record {
                      place = at.place;
                      locks = at.locks;
                      here = set_elsewhere held place at.place (l ∷ ls) e.1 ∙ at.here;
                      number = at.number;
                      among = at.among;
                    }
                  ])
            ]

        -- a lock that somebody has is not this one
        other_lock : (k : LockId) (d : ℕ) → holder_in v k ≡ Some d → holder_in (with_holder v l (Some c)) k ≡ Some d
        other_lock k d h =
            elim (lock_tells l k) [
              | inl same ↦ absurd (let f : None ≡ Some d = sym free ∙ ap (λ (x : LockId). holder_in v x) same.1 ∙ h in cc)
              | inr other ↦ set_other l is (Some c) k other.0 ∙ h
            ]

        has_own : (k : LockId) → InLocks k (l ∷ ls) → holder_in (with_holder v l (Some c)) k ≡ Some c
        has_own k (inl same) =
            elim (lock_tells l k) [ inl e ↦ set_same l is (Some c) k e.0 | inr e ↦ absurd (e.1 (sym same)) ]
        has_own k (inr among) = other_lock k c (kept.has place ls c here number k among)

        has : (i : ℕ) (ks : List LockId) (d : ℕ) → slice_get (set held place (l ∷ ls)) i ≡ Some ks → slice_get numbers i ≡ Some d
            → (k : LockId) → InLocks k ks → holder_in (with_holder v l (Some c)) k ≡ Some d
        has i ks d at num k among =
            elim (eqb_tells i place) [
              | inl e ↦ (let mine : l ∷ ls ≡ ks = set_here held place (l ∷ ls) ks
                  (subst (λ (j : ℕ). slice_get (set held place (l ∷ ls)) j ≡ Some ks) e.1 at) in
                  has_own k (subst (λ (xs : List LockId). InLocks k xs) (sym mine) among)
                  ∙ ap (λ (x : ℕ). Some x) (one_place numbers place i c d number num (sym e.1)))
              | inr e ↦ other_lock k d (kept.has i ks d (sym (set_elsewhere held place i (l ∷ ls) e.1) ∙ at) num k among)
            ]

        once : (i : ℕ) (ks : List LockId) → slice_get (set held place (l ∷ ls)) i ≡ Some ks → IsOnce ks
        once i ks at =
            elim (eqb_tells i place) [
              | inl e ↦ subst (λ (xs : List LockId). IsOnce xs)
                  (set_here held place (l ∷ ls) ks (subst (λ (j : ℕ). slice_get (set held place (l ∷ ls)) j ≡ Some ks) e.1 at))
                  ((λ among. let f : None ≡ Some c = sym free ∙ kept.has place ls c here number l among in cc), kept.once place ls here)
              | inr e ↦ kept.once i ks (sym (set_elsewhere held place i (l ∷ ls) e.1) ∙ at)
            ]

    pub free-table : (l : LockId) (rest : List LockId) → ls ≡ l ∷ rest → TableKept b (with_holder v l None) numbers (set held place rest)
    free-table l rest top =
        record {
          counted = length-set held place rest ∙ kept.counted;
          roots = roots_set l None;
          muxes = muxes_set l None;
          marked = ap (λ (ms : List (Option ℕ)). length ms) (marks_set l None) ∙ kept.marked;
          kept = ap (λ (cs : List (Option ℕ)). length cs) (kept_set l None) ∙ kept.kept;
          deep = ap (λ (ds : List ℕ). length ds) (depths_set l None) ∙ kept.deep;
          ranked = λ k at. rank_set l None k ∙ kept.ranked k at;
          named = named;
          has = has;
          once = once;
          home = λ p. subst (λ (ms : List (Option ℕ)). IsMarkOn b p (slice_index_or ms p None)) (sym (marks_set l None)) (kept.home p);
        }
      where
        whole : slice_get held place ≡ Some (l ∷ rest)
        whole = here ∙ ap (λ (xs : List LockId). Some xs) top

        owner : holder_in v l ≡ Some c
        owner = kept.has place (l ∷ rest) c whole number l (inl refl)

        is : IsLockOf b l
        is = lock-there l c owner

        named : (k : LockId) (d : ℕ) → holder_in (with_holder v l None) k ≡ Some d → IsHeldBy numbers (set held place rest) k d
        named k d h =
            elim (lock_tells l k) [
              | inl same ↦ absurd (let f : None ≡ Some d = sym (set_same l is None k same.0) ∙ h in cc)
              | inr other ↦ (let at : IsHeldBy numbers held k d = kept.named k d (sym (set_other l is None k other.0) ∙ h) in
                  elim (eqb_tells at.place place) [
                    | inl e ↦ record {
                      place = place;
                      locks = rest;
                      here = set_at held place rest ls here;
                      number = ap (slice_get numbers) (sym e.1) ∙ at.number;
                      among = below_top k other.1 (subst (λ (ks : List LockId). InLocks k ks)
                          (one_place held at.place place at.locks (l ∷ rest) at.here whole e.1) at.among);
                    }
                    | inr e ↦ record {
                      place = at.place;
                      locks = at.locks;
                      here = set_elsewhere held place at.place rest e.1 ∙ at.here;
                      number = at.number;
                      among = at.among;
                    }
                  ])
            ]
          where
            below_top : (k : LockId) → (l ≡ k → ⊥) → InLocks k (l ∷ rest) → InLocks k rest
            below_top k apart (inl same) = absurd (apart (sym same))
            below_top k apart (inr among) = among

        has : (i : ℕ) (ks : List LockId) (d : ℕ) → slice_get (set held place rest) i ≡ Some ks → slice_get numbers i ≡ Some d → (k : LockId)
            → InLocks k ks → holder_in (with_holder v l None) k ≡ Some d
        has i ks d at num k among =
            elim (eqb_tells i place) [
              | inl e ↦ (let mine : rest ≡ ks = set_here held place rest ks
                  (subst (λ (j : ℕ). slice_get (set held place rest) j ≡ Some ks) e.1 at) in
                  let left : InLocks k rest = subst (λ (xs : List LockId). InLocks k xs) (sym mine) among in
                  elim (lock_tells l k) [
                    | inl same ↦ absurd ((kept.once place (l ∷ rest) whole).0 (subst (λ (x : LockId). InLocks x rest) (sym same.1) left))
                    | inr other ↦ set_other l is None k other.0 ∙ kept.has place (l ∷ rest) c whole number k (inr left)
                        ∙ ap (λ (x : ℕ). Some x) (one_place numbers place i c d number num (sym e.1))
                  ])
              | inr e ↦ (let was : holder_in v k ≡ Some d = kept.has i ks d (sym (set_elsewhere held place i rest e.1) ∙ at) num k among in
                  elim (lock_tells l k) [
                    | inl same ↦ (let f : Some c ≡ Some d = sym owner ∙ ap (λ (x : LockId). holder_in v x) same.1 ∙ was in
                        let own : c ≡ d = cc in
                        absurd (e.1 (distinct i place d num (number ∙ ap (λ (x : ℕ). Some x) own))))
                    | inr other ↦ set_other l is None k other.0 ∙ was
                  ])
            ]

        once : (i : ℕ) (ks : List LockId) → slice_get (set held place rest) i ≡ Some ks → IsOnce ks
        once i ks at =
            elim (eqb_tells i place) [
              | inl e ↦ subst (λ (xs : List LockId). IsOnce xs)
                  (set_here held place rest ks (subst (λ (j : ℕ). slice_get (set held place rest) j ≡ Some ks) e.1 at))
                  (kept.once place (l ∷ rest) whole).1
              | inr e ↦ kept.once i ks (sym (set_elsewhere held place i rest e.1) ∙ at)
            ]
