-- Where a caller stands, before any reply and after each.
use Rattle.caller_core.proofs.Cited.{◌≡◌, ℕ, zero, suc, ◌+◌, ◌<◌, ◌≤◌, Bool, true, false, cond, List, [], ◌∷◌, ◌++◌, length, map, take}
use Rattle.caller_core.proofs.Cited.{drop, Some, None, refl, sym, ap, subst, ◌∙◌, append-nil, length-drop, arith, add-one, inl, inr, ◌==◌}
use Rattle.caller_core.proofs.Cited.{slice_get, fold, flat_map, flat_map-append, leb_tells, eqb_tells, drop-append-le, slice_get_within}
use Rattle.caller_core.proofs.Cited.{none-some, Fits, TransferView, Reply, Dialogue, next_place, place_after, is_over, AreReplies}
use Rattle.caller_core.proofs.Cited.{command_text, quiet_text, section_text, Answered, Progress, command_talk, quiet, quiet_front, turn_to}
use Rattle.caller_core.proofs.Cited.{over_with, replied_to, progress, next_of, asked_at, IsAt, CommandView}
use Rattle.std.proofs.Math.Seq.{drop-length, drop-drop}
use Rattle.std.proofs.Math.ListN.{drop_of_length-le}
use Rattle.std.proofs.lemmas.List.{length_push, drop_more}
use Rattle.std.proofs.lemmas.Option.{get_or_from_slice_get}
use Rattle.caller_core.proofs.SumLemmas.{progress_push, place_push}

-- ---- the commands at the front that ask for nothing

front_within : (cs : List CommandView) → quiet_front cs ≤ length cs
front_within [] = omega arith
front_within (c ∷ cs) =
    elim ((command_talk c).places == 0) as (λ b. cond b (quiet_front cs + 1) 0 ≤ length (c ∷ cs)) [
      | true ↦ omega (arith, front_within cs)
      | false ↦ omega arith
    ]

slice_get_cons : {X : Type 0} (n : ℕ) (x : X) (xs : List X) → slice_get (x ∷ xs) (n + 1) ≡ slice_get xs n
slice_get_cons n x xs = rw add-one

some_is : (c e : CommandView) → Some c ≡ Some e → c ≡ e
some_is c e same = cc

-- the first that is left asks for something
front_asks : (cs : List CommandView) (e : CommandView) → slice_get cs (quiet_front cs) ≡ Some e → 0 < (command_talk e).places
front_asks [] e is = absurd cc
front_asks (c ∷ cs) e is =
    elim (eqb_tells (command_talk c).places 0) [
      | inl x ↦ front_asks cs e
          (sym (ap (λ b. slice_get (c ∷ cs) (cond b (quiet_front cs + 1) 0)) x.0 ∙ slice_get_cons (quiet_front cs) c cs) ∙ is)
      | inr x ↦
          let same : c ≡ e = some_is c e (sym (ap (λ b. slice_get (c ∷ cs) (cond b (quiet_front cs + 1) 0)) x.0) ∙ is) in
          let n : (command_talk c).places ≡ (command_talk e).places = ap (λ (y : CommandView). (command_talk y).places) same in
          let some : 0 < (command_talk c).places = grind (arith, x.1) in
          omega (arith, n, some)
    ]

-- ---- what is asked for

pub there : (cs : List CommandView) (turn : ℕ) (c : CommandView) → slice_get cs turn ≡ Some c → drop turn cs ≡ c ∷ drop (turn + 1) cs
there cs turn c is =
    drop_more cs turn c (slice_get_within cs turn c is)
    ∙ ap (λ e. e ∷ drop (turn + 1) cs) (get_or_from_slice_get cs turn c c is)

none_past : (cs : List CommandView) (k : ℕ) → slice_get cs k ≡ None → length cs ≤ k
none_past [] k e = omega arith
none_past (c ∷ cs) zero e = absurd cc
none_past (c ∷ cs) (suc k) e = let h = none_past cs k e in omega (arith, h)

pub not_over : (c : CommandView) (k : ℕ) → k < (command_talk c).places → is_over (command_talk c) k ≡ false
not_over c k h = elim (leb_tells (command_talk c).places k) [ inl x ↦ absurd (omega (arith, x.1, h)) | inr x ↦ x.0 ]

asks_here : (c : CommandView) (cs : List CommandView) (own : List Reply) → place_after (command_talk c) own < (command_talk c).places
    → next_of (c ∷ cs) own ≡ Some ((command_talk c).at (place_after (command_talk c) own))
asks_here c cs own h = ap (λ b. cond b None (Some ((command_talk c).at (place_after (command_talk c) own))))
    (not_over c (place_after (command_talk c) own) h)

pub asks : (cs : List CommandView) (rs : List Reply) (turn from place : ℕ) (c : CommandView) → IsAt cs rs turn from place
    → slice_get cs turn ≡ Some c → asked_at (progress cs rs) ≡ Some ((command_talk c).at place)
asks cs rs turn from place c a is =
    let k : ℕ = place_after (command_talk c) (drop from rs) in
    let here : place ≡ k = a.here c is in
    let more : k < (command_talk c).places = omega (arith, here, a.more c is) in
    ap (λ (left : List CommandView). next_of left (progress cs rs).own) (a.left ∙ there cs turn c is)
    ∙ ap (λ (own : List Reply). next_of (c ∷ drop (turn + 1) cs) own) a.own
    ∙ asks_here c (drop (turn + 1) cs) (drop from rs) more
    ∙ ap (λ j. Some ((command_talk c).at j)) (sym here)

pub all_over : (cs : List CommandView) (rs : List Reply) (turn from place : ℕ) → IsAt cs rs turn from place
    → slice_get cs turn ≡ None → asked_at (progress cs rs) ≡ None
all_over cs rs turn from place a is =
    ap (λ (left : List CommandView). next_of left (progress cs rs).own) (a.left ∙ drop_of_length-le cs (none_past cs turn is))

slice_get_dropped : {X : Type 0} (xs : List X) (m q : ℕ) (x : X) → slice_get xs (m + q) ≡ Some x → slice_get (drop m xs) q ≡ Some x
slice_get_dropped xs zero q x e = subst (λ j. slice_get xs j ≡ Some x) (let same : zero + q ≡ q = omega arith in same) e
slice_get_dropped [] (suc m) q x e = absurd cc
slice_get_dropped (y ∷ ys) (suc m) q x e =
    let next : suc m + q ≡ suc (m + q) = omega arith in
    slice_get_dropped ys m q x (subst (λ j. slice_get (y ∷ ys) j ≡ Some x) next e)

-- ---- one reply more

fit_push : (d : Dialogue) (k : ℕ) (own : List Reply) (r : Reply) → AreReplies d k own → Fits (d.at (fold (next_place d) k own)) r
    → AreReplies d k (own ++ r ∷ [])
fit_push d k [] r h fits = (fits, tt)
fit_push d k (x ∷ xs) r h fits = (h.0, fit_push d (next_place d k x) xs r h.1 fits)

module _ (cs : List CommandView) (rs : List Reply) (turn from place : ℕ) (c : CommandView) (r : Reply)
    (a : IsAt cs rs turn from place) (is : slice_get cs turn ≡ Some c) where
  pub own_more : drop from (rs ++ r ∷ []) ≡ drop from rs ++ r ∷ []
  own_more = drop-append-le from rs (r ∷ []) a.from_within

  place_more : place_after (command_talk c) (drop from rs ++ r ∷ []) ≡ next_place (command_talk c) place r
  place_more = place_push c (drop from rs) r ∙ ap (λ j. next_place (command_talk c) j r) (sym (a.here c is))

  stepped : progress cs (rs ++ r ∷ []) ≡ replied_to (progress cs rs) (c ∷ drop (turn + 1) cs) r
  stepped = progress_push cs rs r ∙ ap (λ (left : List CommandView). replied_to (progress cs rs) left r) (a.left ∙ there cs turn c is)

  by_end : (b : Bool) → is_over (command_talk c) (next_place (command_talk c) place r) ≡ b
      → progress cs (rs ++ r ∷ []) ≡ cond b (turn_to (over_with (progress cs rs) c (drop from rs ++ r ∷ [])) (drop (turn + 1) cs))
      (record (progress cs rs) { own = drop from rs ++ r ∷ [] })
  by_end b e =
      let p : Progress = progress cs rs in
      stepped
      ∙ ap (λ (own : List Reply). cond (is_over (command_talk c) (place_after (command_talk c) (own ++ r ∷ [])))
      (turn_to (over_with p c (own ++ r ∷ [])) (drop (turn + 1) cs)) (record p { own = own ++ r ∷ [] })) a.own
      ∙ ap (λ t. cond t (turn_to (over_with p c (drop from rs ++ r ∷ [])) (drop (turn + 1) cs))
      (record p { own = drop from rs ++ r ∷ [] })) (ap (λ j. is_over (command_talk c) j) place_more ∙ e)

  pub text_stays : is_over (command_talk c) (next_place (command_talk c) place r) ≡ false → section_text cs
      (rs ++ r ∷ []) ≡ section_text cs rs
  text_stays e = ap (λ (p : Progress). flat_map command_text p.over) (by_end false e)

  pub text_goes : is_over (command_talk c) (next_place (command_talk c) place r) ≡ true
      → section_text cs (rs ++ r ∷ []) ≡ (section_text cs rs ++ command_text (record { command = c; replies = drop from rs ++ r ∷ [] }))
      ++ quiet_text (drop (turn + 1) cs)
  text_goes e =
      let p : Progress = progress cs rs in
      let a : Answered = record { command = c; replies = drop from rs ++ r ∷ [] } in
      let one : flat_map command_text (p.over ++ a ∷ []) ≡ flat_map command_text p.over ++ command_text a =
      flat_map-append command_text p.over (a ∷ []) ∙ ap (λ (x : List ℕ). flat_map command_text p.over ++ x) (append-nil (command_text a)) in
      ap (λ (q : Progress). flat_map command_text q.over) (by_end true e)
      ∙ flat_map-append command_text (p.over ++ a ∷ []) (map quiet (take (quiet_front (drop (turn + 1) cs)) (drop (turn + 1) cs)))
      ∙ ap (λ (x : List ℕ). x ++ quiet_text (drop (turn + 1) cs)) one

  -- the replies of the command whose turn it is, with one more
  pub fit_more : Fits ((command_talk c).at place) r → AreReplies (command_talk c) 0 (drop from (rs ++ r ∷ []))
  fit_more fits =
      let there : Fits ((command_talk c).at (place_after (command_talk c) (drop from rs))) r =
      subst (λ j. Fits ((command_talk c).at j) r) (a.here c is) fits in
      subst (λ (own : List Reply). AreReplies (command_talk c) 0 own) (sym own_more) (fit_push (command_talk c) 0 (drop from rs) r
      (a.fit c is) there)

  pub stays : Fits ((command_talk c).at place) r → is_over (command_talk c) (next_place (command_talk c) place r) ≡ false
      → IsAt cs (rs ++ r ∷ []) turn from (next_place (command_talk c) place r)
  stays fits e =
      let now : progress cs (rs ++ r ∷ []) ≡ record (progress cs rs) { own = drop from rs ++ r ∷ [] } = by_end false e in
      record {
        turn_within = a.turn_within;
        from_within = omega (arith, a.from_within, length_push rs r);
        left = ap (λ (p : Progress). p.left) now ∙ a.left;
        own = ap (λ (p : Progress). p.own) now ∙ sym own_more;
        here = λ y at. let same : c ≡ y = some_is c y (sym is ∙ at) in
            subst (λ (x : CommandView). next_place (command_talk c) place r ≡ place_after (command_talk x) (drop from (rs ++ r ∷ []))) same
            (sym (ap (λ (own : List Reply). place_after (command_talk c) own) own_more ∙ place_more));
        more = λ y at. let same : c ≡ y = some_is c y (sym is ∙ at) in
            let n : (command_talk c).places ≡ (command_talk y).places = ap (λ (x : CommandView). (command_talk x).places) same in
            elim (leb_tells (command_talk c).places (next_place (command_talk c) place r)) [
              | inl x ↦ absurd (let no : true ≡ false = sym x.0 ∙ e in cc)
              | inr x ↦ omega (arith, x.1, n)
            ];
        fit = λ y at. subst (λ (x : CommandView). AreReplies (command_talk x) 0 (drop from (rs ++ r ∷ []))) (some_is c y (sym is ∙ at))
            (fit_more fits);
      }

  pub goes : is_over (command_talk c) (next_place (command_talk c) place r) ≡ true
      → IsAt cs (rs ++ r ∷ []) (turn + 1 + quiet_front (drop (turn + 1) cs)) (length (rs ++ r ∷ [])) 0
  goes e =
      let rest : List CommandView = drop (turn + 1) cs in
      let q : ℕ = quiet_front rest in
      let now : progress cs (rs ++ r ∷ []) ≡ turn_to (over_with (progress cs rs) c (drop from rs ++ r ∷ [])) rest = by_end true e in
      let none : drop (length (rs ++ r ∷ [])) (rs ++ r ∷ []) ≡ [] = drop-length (rs ++ r ∷ []) in
      let within : turn < length cs = slice_get_within cs turn c is in
      let dropped : drop q rest ≡ drop (turn + 1 + q) cs = drop-drop q (turn + 1) cs in
      record {
        turn_within = omega (arith, front_within rest, length-drop (turn + 1) cs, within);
        from_within = omega arith;
        left = ap (λ (p : Progress). p.left) now ∙ dropped;
        own = ap (λ (p : Progress). p.own) now ∙ sym none;
        here = λ y at. sym (ap (λ (own : List Reply). place_after (command_talk y) own) none);
        more = λ y at. front_asks rest y (slice_get_dropped cs (turn + 1) q y at);
        fit = λ y at. subst (λ (own : List Reply). AreReplies (command_talk y) 0 own) (sym none) tt;
      }

-- before any reply
pub at_first : (cs : List CommandView) → IsAt cs [] (quiet_front cs) 0 0
at_first cs =
    record {
      turn_within = front_within cs;
      from_within = omega arith;
      left = refl;
      own = refl;
      here = λ c is. refl;
      more = λ c is. front_asks cs c is;
      fit = λ c is. tt;
    }

-- ---- what a caller needs for a reply

pub over_past : (c : CommandView) (k : ℕ) → (command_talk c).places ≤ k → is_over (command_talk c) k ≡ true
over_past c k h = elim (leb_tells (command_talk c).places k) [ inl x ↦ x.0 | inr x ↦ absurd (omega (arith, x.1, h)) ]

pub turn_asked : (cs : List CommandView) (rs : List Reply) (turn from place : ℕ) (t : TransferView) → IsAt cs rs turn from place
    → asked_at (progress cs rs) ≡ Some t → turn < length cs
turn_asked cs rs turn from place t a e =
    elim (leb_tells (length cs) turn) [
      | inl x ↦ absurd (none-some t
          (sym (ap (λ (left : List CommandView). next_of left (progress cs rs).own) (a.left ∙ drop_of_length-le cs x.1)) ∙ e))
      | inr x ↦ x.1
    ]
