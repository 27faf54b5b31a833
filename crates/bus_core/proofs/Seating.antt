-- The callers take their seats, one after the other: each finds its number without a place, and so at most eight do.
use Rattle.bus_core.proofs.Cited.{◌≡◌, ◌⊎◌, ℕ, zero, suc, ◌+◌, ◌<◌, ◌≤◌, List, [], ◌∷◌, ◌++◌, length, map, set, get_or, Option, Some, None}
use Rattle.bus_core.proofs.Cited.{refl, sym, ◌∙◌, ap, subst, arith, inl, inr, slice_get, length-append, length-map, length-set}
use Rattle.bus_core.proofs.Cited.{slice_get_within, get_or_from_slice_get, BoardView, MOST_CALLERS, at_set, callers_scripts, IsFreshSeat}
use Rattle.bus_core.proofs.Cited.{IsSeatOf, AreSeated, script_of, scripts_of, Seat, there, map_from, map_at}
use Rattle.std.proofs.Common.{replicate}
use Rattle.std.specs.List.{sum_by}
use Rattle.std.proofs.lemmas.List.Sums.{sum_by-set, get_or-le-sum_by}
use Rattle.i2c_base.specs.declared.caller.Caller.{Ghosts as CallerGhosts}
use Rattle.core_laws.specs.Table.{AreDistinct}
use Rattle.bus_core.specs.Opens.{numbers_in, untaken, without_place}
use Rattle.bus_core.specs.State.{taken_of}
use Rattle.i2c_base.proofs.ListLemmas.{set_elsewhere, set_here}

-- a seat is that of a caller which is what it was, but for its room
pub fresh_as : {C S : Type 0} (c : CallerGhosts C S) (b : BoardView) (roots : List ℕ) (number : ℕ) (was is : C) (s : Seat C)
    → c.script is ≡ c.script was → c.taken is ≡ c.taken was → IsFreshSeat c b roots number is s → IsFreshSeat c b roots number was s
fresh_as c b roots number was is s script taken f =
    let asked = ap (λ x. c.asked x (c.taken is)) script ∙ ap (c.asked (c.script was)) taken in
    record {
      number_is = f.number_is;
      script = f.script ∙ script;
      taken = f.taken ∙ taken;
      loaded = f.loaded;
      looked = f.looked;
      cut = f.cut;
      seated = λ wired. f.seated (λ t asks. wired t (sym asked ∙ asks));
    }

-- a list with one more at its end
push_at : {X : Type 0} (xs : List X) (y z : X) (i : ℕ) → slice_get (xs ++ y ∷ []) i ≡ Some z
    → ((i ≡ length xs) × (y ≡ z)) ⊎ (slice_get xs i ≡ Some z)
push_at [] y z zero h = inl (refl, (let f : Some y ≡ Some z = h in cc))
push_at [] y z (suc i) h = absurd (let f : None ≡ Some z = h in cc)
push_at (x ∷ xs) y z zero h = inr h
push_at (x ∷ xs) y z (suc i) h = elim (push_at xs y z i h) [ inl e ↦ inl (ap suc e.0, e.1) | inr e ↦ inr e ]

push_keeps : {X : Type 0} (xs ys : List X) (z : X) (i : ℕ) → slice_get xs i ≡ Some z → slice_get (xs ++ ys) i ≡ Some z
push_keeps [] ys z i h = absurd (let f : None ≡ Some z = h in cc)
push_keeps (x ∷ xs) ys z zero h = h
push_keeps (x ∷ xs) ys z (suc i) h = push_keeps xs ys z i h

pub push_here : {X : Type 0} (xs ys : List X) (y : X) → slice_get (xs ++ y ∷ ys) (length xs) ≡ Some y
push_here [] ys y = refl
push_here (x ∷ xs) ys y = push_here xs ys y

-- two lists of one length whose places are the same
same_lists : {X : Type 0} (xs ys : List X) → length xs ≡ length ys
    → ((i : ℕ) (x y : X) → slice_get xs i ≡ Some x → slice_get ys i ≡ Some y → x ≡ y) → xs ≡ ys
same_lists [] [] e each = refl
same_lists [] (y ∷ ys) e each = absurd (omega (arith, e))
same_lists (x ∷ xs) [] e each = absurd (omega (arith, e))
same_lists (x ∷ xs) (y ∷ ys) e each =
    let first : x ≡ y = each 0 x y refl refl in
    let rest : xs ≡ ys = same_lists xs ys (omega (arith, e)) (λ i a b at to. each (suc i) a b at to) in
    ap (λ (z : _). z ∷ xs) first ∙ ap (λ (zs : List _). y ∷ zs) rest

none_at : {X : Type 0} (n i : ℕ) (x : X) → slice_get (replicate {A = Option X} n None) i ≡ Some (Some x) → ⊥
none_at zero i x h = (let f : None ≡ Some (Some x) = h in cc)
none_at (suc n) zero x h = (let f : Some None ≡ Some (Some x) = h in let g : None ≡ Some x = cc in cc)
none_at (suc n) (suc i) x h = none_at n i x h

module _ {C S : Type 0} (c : CallerGhosts C S) (b : BoardView) (roots : List ℕ) (callers : List (ℕ × C)) where
  -- before the first
  pub seated-none : (seats : List (Seat C)) (places : List (Option ℕ)) → seats ≡ [] → places ≡ replicate MOST_CALLERS None
      → AreSeated c b roots callers 0 seats places
  seated-none seats places none blank =
      subst (λ (ss : List (Seat C)). AreSeated c b roots callers 0 ss places) (sym none)
      (subst (λ (ps : List (Option ℕ)). AreSeated c b roots callers 0 [] ps) (sym blank)
      (record {
        counted = refl;
        fresh = λ i s at. absurd (let f : None ≡ Some s = at in cc);
        all = refl;
        named = λ i s at. absurd (let f : None ≡ Some s = at in cc);
        there = λ n place at. absurd (none_at MOST_CALLERS n place at);
        left = refl;
      }))

  module _ (count : ℕ) (seats : List (Seat C)) (places : List (Option ℕ)) (seated : AreSeated c b roots callers count seats places)
      (distinct : AreDistinct (numbers_in callers)) (x : ℕ × C) (here : slice_get callers count ≡ Some x) (below : x.0 < MOST_CALLERS) where
    low : x.0 < length places
    low = (let all = seated.all in omega (arith, below, all))

    -- its number has no place
    unplaced : slice_get places x.0 ≡ Some None
    unplaced = (let at = there places x.0 low in by at.0 at.1)
      where
        by : (o : Option ℕ) → slice_get places x.0 ≡ Some o → slice_get places x.0 ≡ Some None
        by None at = at
        by (Some place) at =
            let has = seated.there x.0 place at in
            let of = seated.fresh place has.seat has.here in
            let number : of.of.0 ≡ x.0 = sym of.fresh.number_is ∙ has.number_is in
            let same : place ≡ count = distinct place count x.0
            (subst (λ (n : ℕ). slice_get (numbers_in callers) place ≡ Some n) number
            (map_at (λ (y : ℕ × C). y.0) callers place of.of of.here))
            (map_at (λ (y : ℕ × C). y.0) callers count x here) in
            let within : place < length seats = slice_get_within seats place has.seat has.here in
            let counted = seated.counted in
            absurd (omega (arith, same, within, counted))

    found : without_place (get_or places x.0 None) ≡ 1
    found = ap without_place (get_or_from_slice_get places x.0 None None unplaced)

    pub room-for-one : count < MOST_CALLERS
    room-for-one =
        let one : without_place (get_or places x.0 None) ≤ sum_by without_place places =
        get_or-le-sum_by without_place places x.0 None low in
        let is = found in
        let left = seated.left in
        omega (arith, one, is, left)

    pub seated-one : (s : Seat C) → IsFreshSeat c b roots x.0 x.1 s
        → AreSeated c b roots callers (count + 1) (seats ++ s ∷ []) (set places x.0 (Some count))
    seated-one s fresh =
        let counted = seated.counted in
        record {
          counted = length-append seats (s ∷ []) ∙ ap (λ (n : ℕ). n + 1) counted;
          fresh = λ i t at.
              elim (push_at seats s t i at) [
                | inl e ↦ subst (λ (u : Seat C). IsSeatOf c b roots callers i u) e.1
                    (record { of = x; here = subst (λ (n : ℕ). slice_get callers n ≡ Some x) (sym (e.0 ∙ counted)) here; fresh = fresh })
                | inr old ↦ seated.fresh i t old
              ];
          all = length-set places x.0 (Some count) ∙ seated.all;
          named = λ i t at.
              elim (push_at seats s t i at) [
                | inl e ↦ subst (λ (u : Seat C). slice_get (set places x.0 (Some count)) u.number ≡ Some (Some i)) e.1
                    (subst (λ (n : ℕ). slice_get (set places x.0 (Some count)) n ≡ Some (Some i)) (sym fresh.number_is)
                    (set_here places x.0 (Some count) low ∙ ap (λ (n : ℕ). Some (Some n)) (sym (e.0 ∙ counted))))
                | inr old ↦ (let named : slice_get places t.number ≡ Some (Some i) = seated.named i t old in
                    let none = unplaced in
                    set_elsewhere places x.0 t.number (Some count)
                    (λ same. let f : Some (Some i) ≡ Some None = sym named ∙ ap (slice_get places) same ∙ none in
                    let g : Some i ≡ None = cc in cc)
                    ∙ named)
              ];
          there = λ n place at.
              elim (at_set places x.0 n (Some count) (Some place) at) [
                | inl e ↦ (let e1 : Some count ≡ Some place = e.1 in
                    let same : count ≡ place = cc in
                    record {
                      seat = s;
                      here = subst (λ (k : ℕ). slice_get (seats ++ s ∷ []) k ≡ Some s) (counted ∙ same) (push_here seats [] s);
                      number_is = fresh.number_is ∙ sym e.0;
                    })
                | inr old ↦ (let has = seated.there n place old.1 in
                    record { seat = has.seat; here = push_keeps seats (s ∷ []) has.seat place has.here; number_is = has.number_is })
              ];
          left =
              let sums : sum_by without_place (set places x.0 (Some count)) + without_place
              (get_or places x.0 None) ≡ sum_by without_place places + 0 = sum_by-set without_place places x.0 (Some count) None low in
              let is = found in
              let left = seated.left in
              omega (arith, sums, is, left);
        }

  -- after the last each seat tells of its caller what the caller itself does
  seated-map : {X : Type 0} (f : Seat C → X) (h : ℕ × C → X)
      → ((i : ℕ) (x : ℕ × C) (s : Seat C) → slice_get callers i ≡ Some x → IsFreshSeat c b roots x.0 x.1 s → f s ≡ h x)
      → (seats : List (Seat C)) (places : List (Option ℕ)) → AreSeated c b roots callers (length callers) seats places
      → map f seats ≡ map h callers
  seated-map f h same seats places seated =
      same_lists (map f seats) (map h callers) (length-map seats f ∙ seated.counted ∙ sym (length-map callers h))
      (λ i a z at to.
      let s = map_from f seats i a at in
      let of = seated.fresh i s.0 s.1 in
      let it : Some (h of.of) ≡ Some z = sym (map_at h callers i of.of of.here) ∙ to in
      let is : h of.of ≡ z = cc in
      sym s.2 ∙ same i of.of s.0 of.here of.fresh ∙ is)

  -- so their scripts are those of the callers
  pub seated-all : (seats : List (Seat C)) (places : List (Option ℕ)) → AreSeated c b roots callers (length callers) seats places
      → scripts_of c seats ≡ callers_scripts c callers
  seated-all = seated-map (script_of c) (λ (x : ℕ × C). (x.0, c.script x.1))
      (λ i x s here fresh. let number : s.number ≡ x.0 = fresh.number_is in
      let script : c.script s.caller ≡ c.script x.1 = fresh.script in cc)

  -- .. and they have taken no reply
  pub seated-untaken : ((i : ℕ) (x : ℕ × C) → slice_get callers i ≡ Some x → c.taken x.1 ≡ [])
      → (seats : List (Seat C)) (places : List (Option ℕ)) → AreSeated c b roots callers (length callers) seats places
      → taken_of c seats ≡ untaken callers
  seated-untaken none = seated-map (λ (s : Seat C). (s.number, c.taken s.caller)) (λ (x : ℕ × C). (x.0, []))
      (λ i x s here fresh. let number : s.number ≡ x.0 = fresh.number_is in
      let taken : c.taken s.caller ≡ [] = fresh.taken ∙ none i x here in cc)
