-- How what is known of the chips moves along one step: marks alone, or one chip.
use Rattle.bus_laws.proofs.Cited.{◌≡◌, ℕ, ◌≤◌, Bool, true, false, cond, List, [], ◌∷◌, Option, Some, None, eqb, refl, sym, ◌∙◌, ap, subst}
use Rattle.bus_laws.proofs.Cited.{◌⊎◌, inl, inr, option_map, eq-eqb, ne_eqb, eqb_tells, BoardView, LockId, Hop, home_of_mux, is_absent}
use Rattle.bus_laws.proofs.Cited.{is_held, ChipView, is_open, is_free, changed_at, Mark, Slots, At, MuxSlot, Marked, Polled, Found}
use Rattle.bus_laws.proofs.Cited.{turned_at, set_marks, IsOfMux, MayFail, Explains, ChipsTold, IsChipOf}
use Rattle.bus_laws.proofs.tree.Slots.{changed-other}
use Rattle.bus_laws.proofs.world.ChipLaws.{SameSort}

-- one mux's channel is changed
pub kept_other : (f : ℕ → Option ℕ) (m n : ℕ) (c : Option ℕ) → (n ≡ m → ⊥) → changed_at f m c n ≡ f n
kept_other f m n c ne = ap (λ (t : Bool). cond t c (f n)) (ne_eqb n m ne)

pub kept_own : (f : ℕ → Option ℕ) (m n : ℕ) (c : Option ℕ) → n ≡ m → changed_at f m c n ≡ c
kept_own f m n c e = ap (λ (t : Bool). cond t c (f n)) (eq-eqb n m e)

-- at each bus nothing changes, or a mark comes that forgets nothing
pub record Comes (b : BoardView) (p : ℕ) (x y : At) : Type 0 where
  pub mux : ℕ
  pub is : y ≡ turned_at x mux (Marked mux) None
  pub home : home_of_mux b mux ≡ p
  pub forgets : IsOfMux mux x.slot

abbrev pub MarksOnly : BoardView → Slots → Slots → Type 0
MarksOnly b v w = (p : ℕ) → (w p ≡ v p) ⊎ Comes b p (v p) (w p)

pub set_marks-only : (b : BoardView) (held : List LockId) (v : Slots) (ms : List Mark) → MayFail b ms held v
    → MarksOnly b v (set_marks ms v)
set_marks-only b held v [] fail p = inl refl
set_marks-only b held v (m ∷ ms) fail p =
    elim (eqb_tells p m.on) [
      | inl h ↦ inr (record {
        mux = m.mux;
        is = ap (λ (t : Bool). cond t (turned_at (v m.on) m.mux (Marked m.mux) None) (set_marks ms v p)) h.0
            ∙ ap (λ (i : ℕ). turned_at (v i) m.mux (Marked m.mux) None) (sym h.1);
        home = fail.0.at_home ∙ sym h.1;
        forgets = subst (λ (q : ℕ). IsOfMux m.mux (v q).slot) (sym h.1) fail.0.forgets;
      })
      | inr h ↦ (let same : set_marks (m ∷ ms) v p ≡ set_marks ms v p = changed-other (set_marks ms v) m.on p
          (turned_at (v m.on) m.mux (Marked m.mux) None) h.1 in
          elim (set_marks-only b held v ms fail.1 p) [
            | inl e ↦ inl (same ∙ e)
            | inr f ↦ inr (record { mux = f.mux; is = same ∙ f.is; home = f.home; forgets = f.forgets })
          ])
    ]

slot_same : (x y : At) (s : MuxSlot) → y ≡ x → y.slot ≡ s → x.slot ≡ s
slot_same x y s e f = ap (λ (z : At). z.slot) (sym e) ∙ f

kept_same : (x y : At) (m : ℕ) (c : Option ℕ) → y ≡ x → y.kept m ≡ c → x.kept m ≡ c
kept_same x y m c e f = ap (λ (z : At). z.kept m) (sym e) ∙ f

-- the marked mux is the one that the slot is of
pub of_marked : (k m : ℕ) (s : MuxSlot) → IsOfMux k s → s ≡ Marked m → k ≡ m
of_marked k m s is e = sym (let f : IsOfMux k (Marked m) = subst (λ (t : MuxSlot). IsOfMux k t) e is in f)

pub told-marks : (b : BoardView) (v w : Slots) (chips : ℕ → Option ChipView) → MarksOnly b v w → ChipsTold b v chips → ChipsTold b w chips
told-marks b v w chips marks told =
    record {
      kept = told.kept;
      opened = λ m c e. elim (marks (home_of_mux b m)) [
        | inl same ↦ told.opened m c (kept_same (v (home_of_mux b m)) (w (home_of_mux b m)) m (Some c) same e)
        | inr mark ↦ (let now : changed_at (v (home_of_mux b m)).kept mark.mux None m ≡ Some c = sym (ap (λ (z : At). z.kept m) mark.is)
            ∙ e in
            elim (eqb_tells m mark.mux) [
              | inl q ↦ absurd (let f : None ≡ Some c = sym (kept_own (v (home_of_mux b m)).kept mark.mux m None q.1) ∙ now in cc)
              | inr q ↦ told.opened m c (sym (kept_other (v (home_of_mux b m)).kept mark.mux m None q.1) ∙ now)
            ])
      ];
      polled = λ p h n x e. elim (marks p) [
        | inl same ↦ told.polled p h n x (slot_same (v p) (w p) (Polled h n) same e)
        | inr mark ↦ absurd (let f : Polled h n ≡ Marked mark.mux = sym e ∙ ap (λ (z : At). z.slot) mark.is in cc)
      ];
      found = λ p h x e. elim (marks p) [
        | inl same ↦ told.found p h x (slot_same (v p) (w p) (Found h) same e)
        | inr mark ↦ absurd (let f : Found h ≡ Marked mark.mux = sym e ∙ ap (λ (z : At). z.slot) mark.is in cc)
      ];
      asked = λ p h n e. elim (marks p) [
        | inl same ↦ told.asked p h n (slot_same (v p) (w p) (Polled h n) same e)
        | inr mark ↦ absurd (let f : Polled h n ≡ Marked mark.mux = sym e ∙ ap (λ (z : At). z.slot) mark.is in cc)
      ];
      free = λ p h e. elim (marks p) [
        | inl same ↦ told.free p h (slot_same (v p) (w p) (Found h) same e)
        | inr mark ↦ absurd (let f : Found h ≡ Marked mark.mux = sym e ∙ ap (λ (z : At). z.slot) mark.is in cc)
      ];
      only = λ m c x at opens. elim (marks (home_of_mux b m)) [
        | inl same ↦ subst (λ (y : At). Explains y m c) (sym same) (told.only m c x at opens)
        | inr mark ↦ subst (λ (y : At). Explains y m c) (sym mark.is) (elim (told.only m c x at opens) [
          | inl keeps ↦ elim (eqb_tells m mark.mux) [
            | inl q ↦ inr (ap Marked (sym q.1))
            | inr q ↦ inl (kept_other (v (home_of_mux b m)).kept mark.mux m None q.1 ∙ keeps)
          ]
          | inr was ↦ inr (ap Marked (of_marked mark.mux m (v (home_of_mux b m)).slot mark.forgets was))
        ])
      ];
      absent = told.absent;
    }

-- one chip is changed
abbrev pub Turns : (ℕ → Option ChipView) → (ℕ → Option ChipView) → ℕ → (ChipView → ChipView) → Type 0
Turns old new k f = (m : ℕ) → new m ≡ option_map (λ (x : ChipView). cond (eqb m k) (f x) x) (old m)

-- what the chip of mux k, changed by f, has to do with what is known of it afterwards: its channel, and the slot of its bus
pub record MuxTold (b : BoardView) (old : ℕ → Option ChipView) (k : ℕ) (f : ChipView → ChipView) (s : MuxSlot)
    (now : Option ℕ) : Type 0 where
  pub opened : (c : ℕ) → now ≡ Some c
      → (x : ChipView) × (old k ≡ Some x) × (is_open (f x) c ≡ true) × (is_absent b k ≡ false) × (is_held b k ≡ false)
  pub polled : (h : Hop) (n : ℕ) → s ≡ Polled h n → (h.mux ≡ k) × ((x : ChipView) → old k ≡ Some x → ((f x).left ≤ n) ⊎ ((f x).foreign ≡ 8))
  pub found : (h : Hop) → s ≡ Found h → (h.mux ≡ k) × ((x : ChipView) → old k ≡ Some x → is_free (f x) ≡ true)
  pub only : (c : ℕ) (x : ChipView) → old k ≡ Some x → is_open (f x) c ≡ true → (now ≡ Some c) ⊎ (s ≡ Marked k)
  pub absent : (c : ℕ) (x : ChipView) → is_absent b k ≡ true → old k ≡ Some x → is_open (f x) c ≡ false

unchanged : (o : Option ChipView) (f : ChipView → ChipView) → option_map (λ (x : ChipView). cond false (f x) x) o ≡ o
unchanged None f = refl
unchanged (Some x) f = refl

turned_chip : (o : Option ChipView) (f : ChipView → ChipView) (y : ChipView) → option_map (λ (x : ChipView). cond true (f x) x) o ≡ Some y
    → (x : ChipView) × (o ≡ Some x) × (f x ≡ y)
turned_chip None f y e = absurd (let g : None ≡ Some y = e in cc)
turned_chip (Some x) f y e = (x, refl, (let g : Some (f x) ≡ Some y = e in cc))

module _ (b : BoardView) (v w : Slots) (old new : ℕ → Option ChipView) (k : ℕ) (f : ChipView → ChipView) (s : MuxSlot) (now : Option ℕ)
    (turns : Turns old new k f) (here : w (home_of_mux b k) ≡ turned_at (v (home_of_mux b k)) k s now) (others : (p : ℕ)
    → (p ≡ home_of_mux b k → ⊥) → w p ≡ v p)
    (was : IsOfMux k (v (home_of_mux b k)).slot) (sort : (x : ChipView) → old k ≡ Some x → SameSort x (f x))
    (slot : MuxTold b old k f s now) (told : ChipsTold b v old) where
  new_other : (m : ℕ) → (m ≡ k → ⊥) → new m ≡ old m
  new_other m ne = elim (eqb_tells m k) [
    | inl h ↦ absurd (ne h.1)
    | inr h ↦ turns m ∙ ap (λ (t : Bool). option_map (λ (x : ChipView). cond t (f x) x) (old m)) h.0 ∙ unchanged (old m) f
  ]

  new_own : new k ≡ option_map (λ (x : ChipView). cond true (f x) x) (old k)
  new_own = turns k ∙ ap (λ (t : Bool). option_map (λ (x : ChipView). cond t (f x) x) (old k)) (eq-eqb k k refl)

  own_now : (x : ChipView) → old k ≡ Some x → new k ≡ Some (f x)
  own_now x e = new_own ∙ ap (λ (o : Option ChipView). option_map (λ (x : ChipView). cond true (f x) x) o) e

  was_own : (y : ChipView) → new k ≡ Some y → (x : ChipView) × (old k ≡ Some x) × (f x ≡ y)
  was_own y e = turned_chip (old k) f y (sym new_own ∙ e)

  kept : (m : ℕ) (y : ChipView) → new m ≡ Some y → IsChipOf b m y
  kept m y e = elim (eqb_tells m k) [
    | inl h ↦ (let old_chip = was_own y (sym (ap new h.1) ∙ e) in
        let keeps : IsChipOf b k old_chip.0 = told.kept k old_chip.0 old_chip.1 in
        let same : SameSort old_chip.0 (f old_chip.0) = sort old_chip.0 old_chip.1 in
        subst (λ (z : ChipView). IsChipOf b m z) old_chip.2 (subst (λ (i : ℕ). IsChipOf b i (f old_chip.0)) (sym h.1)
        (record {
          kind = keeps.kind ∙ ap Some (sym same.kind);
          foreign = keeps.foreign ∙ sym same.foreign;
          left = same.left keeps.left;
          waiting = same.waiting keeps.waiting;
        })))
    | inr h ↦ told.kept m y (sym (new_other m h.1) ∙ e)
  ]

  -- what is known of another mux is what was known
  kept_still : (m : ℕ) (c : Option ℕ) → (m ≡ k → ⊥) → (w (home_of_mux b m)).kept m ≡ c → (v (home_of_mux b m)).kept m ≡ c
  kept_still m c ne e = elim (eqb_tells (home_of_mux b m) (home_of_mux b k)) [
    | inl q ↦ ap (λ (i : ℕ). (v i).kept m) q.1 ∙ sym (kept_other (v (home_of_mux b k)).kept k m now ne)
        ∙ sym (ap (λ (z : At). z.kept m) here)
        ∙ ap (λ (i : ℕ). (w i).kept m) (sym q.1) ∙ e
    | inr q ↦ ap (λ (z : At). z.kept m) (sym (others (home_of_mux b m) q.1)) ∙ e
  ]

  kept_back : (m : ℕ) (c : Option ℕ) → (m ≡ k → ⊥) → (v (home_of_mux b m)).kept m ≡ c → (w (home_of_mux b m)).kept m ≡ c
  kept_back m c ne e = elim (eqb_tells (home_of_mux b m) (home_of_mux b k)) [
    | inl q ↦ ap (λ (i : ℕ). (w i).kept m) q.1 ∙ ap (λ (z : At). z.kept m) here ∙ kept_other (v (home_of_mux b k)).kept k m now ne
        ∙ ap (λ (i : ℕ). (v i).kept m) (sym q.1) ∙ e
    | inr q ↦ ap (λ (z : At). z.kept m) (others (home_of_mux b m) q.1) ∙ e
  ]

  own_kept : (w (home_of_mux b k)).kept k ≡ now
  own_kept = ap (λ (z : At). z.kept k) here ∙ kept_own (v (home_of_mux b k)).kept k k now refl

  own_slot : (p : ℕ) (t : MuxSlot) → p ≡ home_of_mux b k → (w p).slot ≡ t → s ≡ t
  own_slot p t e at = sym (ap (λ (z : At). z.slot) here) ∙ ap (λ (i : ℕ). (w i).slot) (sym e) ∙ at

  other_mux : (p : ℕ) (h : Hop) → home_of_mux b h.mux ≡ p → (p ≡ home_of_mux b k → ⊥) → h.mux ≡ k → ⊥
  other_mux p h home ne e = ne (sym home ∙ ap (λ (i : ℕ). home_of_mux b i) e)

  pub told-turned : ChipsTold b w new
  told-turned =
      record {
        kept = kept;
        opened = λ m c e. elim (eqb_tells m k) [
          | inl q ↦ (let o = slot.opened c (sym own_kept ∙ ap (λ (i : ℕ). (w (home_of_mux b i)).kept i) (sym q.1) ∙ e) in (
            f o.0,
            ap new q.1 ∙ own_now o.0 o.1,
            o.2,
            ap (λ (i : ℕ). is_absent b i) q.1 ∙ o.3,
            ap (λ (i : ℕ). is_held b i) q.1 ∙ o.4,
          ))
          | inr q ↦ (let o = told.opened m c (kept_still m (Some c) q.1 e) in (o.0, new_other m q.1 ∙ o.1, o.2, o.3, o.4))
        ];
        polled = λ p h n y e at. elim (eqb_tells p (home_of_mux b k)) [
          | inl q ↦ (let o = slot.polled h n (own_slot p (Polled h n) q.1 e) in
              let x = was_own y (sym (ap new o.0) ∙ at) in
              subst (λ (z : ChipView). (z.left ≤ n) ⊎ (z.foreign ≡ 8)) x.2 (o.1 x.0 x.1))
          | inr q ↦ (let e2 : (v p).slot ≡ Polled h n = slot_same (v p) (w p) (Polled h n) (others p q.1) e in
              told.polled p h n y e2 (sym (new_other h.mux (other_mux p h (told.asked p h n e2) q.1)) ∙ at))
        ];
        found = λ p h y e at. elim (eqb_tells p (home_of_mux b k)) [
          | inl q ↦ (let o = slot.found h (own_slot p (Found h) q.1 e) in
              let x = was_own y (sym (ap new o.0) ∙ at) in
              subst (λ (z : ChipView). is_free z ≡ true) x.2 (o.1 x.0 x.1))
          | inr q ↦ (let e2 : (v p).slot ≡ Found h = slot_same (v p) (w p) (Found h) (others p q.1) e in
              told.found p h y e2 (sym (new_other h.mux (other_mux p h (told.free p h e2) q.1)) ∙ at))
        ];
        asked = λ p h n e. elim (eqb_tells p (home_of_mux b k)) [
          | inl q ↦ ap (λ (i : ℕ). home_of_mux b i) (slot.polled h n (own_slot p (Polled h n) q.1 e)).0 ∙ sym q.1
          | inr q ↦ told.asked p h n (slot_same (v p) (w p) (Polled h n) (others p q.1) e)
        ];
        free = λ p h e. elim (eqb_tells p (home_of_mux b k)) [
          | inl q ↦ ap (λ (i : ℕ). home_of_mux b i) (slot.found h (own_slot p (Found h) q.1 e)).0 ∙ sym q.1
          | inr q ↦ told.free p h (slot_same (v p) (w p) (Found h) (others p q.1) e)
        ];
        only = λ m c y at opens. elim (eqb_tells m k) [
          | inl q ↦ (let x = was_own y (sym (ap new q.1) ∙ at) in
              let explained : (now ≡ Some c) ⊎ (s ≡ Marked k) = slot.only c x.0 x.1 (ap (λ (z : ChipView). is_open z c) x.2 ∙ opens) in
              subst (λ (i : ℕ). Explains (w (home_of_mux b i)) i c) (sym q.1) (elim explained [
                | inl keeps ↦ inl (own_kept ∙ keeps)
                | inr mark ↦ inr (ap (λ (z : At). z.slot) here ∙ mark)
              ]))
          | inr q ↦ elim (told.only m c y (sym (new_other m q.1) ∙ at) opens) [
            | inl keeps ↦ inl (kept_back m (Some c) q.1 keeps)
            | inr mark ↦ elim (eqb_tells (home_of_mux b m) (home_of_mux b k)) [
              | inl same ↦ absurd (q.1 (sym (of_marked k m (v (home_of_mux b k)).slot was (ap (λ (i : ℕ). (v i).slot) (sym same.1)
                  ∙ mark))))
              | inr far ↦ inr (ap (λ (z : At). z.slot) (others (home_of_mux b m) far.1) ∙ mark)
            ]
          ]
        ];
        absent = λ m c y gone at. elim (eqb_tells m k) [
          | inl q ↦ (let x = was_own y (sym (ap new q.1) ∙ at) in
              ap (λ (z : ChipView). is_open z c) (sym x.2) ∙ slot.absent c x.0 (ap (λ (i : ℕ). is_absent b i) (sym q.1) ∙ gone) x.1)
          | inr q ↦ told.absent m c y gone (sym (new_other m q.1) ∙ at)
        ];
      }
