-- Gaps grow by an entry on their root, and stay over one on another. No induction.
use Rattle.journal_check.proofs.Cited.{◌≡◌, ℕ, ◌<◌, ◌≤◌, arith, Bool, true, false, cond, List, [], ◌∷◌, ◌++◌, append_assoc, Some, None}
use Rattle.journal_check.proofs.Cited.{refl, sym, ◌∙◌, ap, subst, inl, inr, length, slice_get, Entry, BoardView, gaps_told, root_told}
use Rattle.journal_check.proofs.Cited.{IsGapsOf, AreGapsOf, RootGaps}
use Rattle.std.proofs.Common.{set}
use Rattle.std.proofs.lemmas.Bool.{eq-eqb, ne_eqb, cases_eq}
use Rattle.std.proofs.lemmas.Option.{slice_get_within}
use Rattle.i2c_base.specs.declared.entry.Entry.TheVariants as entry
use Rattle.bus_spec.specs.Readings.{is_on_root}
use Rattle.check_laws.specs.Failed.{call_failed, calls_made, gap_told, since_told, gaps_from}
use Rattle.i2c_base.proofs.ListLemmas.{set_elsewhere, set_here}

-- an entry is on the root that it tells, and on no other
pub on-told : (b : BoardView) (e : Entry) (r : ℕ) → root_told b e ≡ Some r → is_on_root b r e ≡ true
on-told b (entry.Take c l) r is = absurd (let f : None ≡ Some r = is in cc)
on-told b (entry.Free c l) r is = absurd (let f : None ≡ Some r = is in cc)
on-told b (entry.Settle c x cut) r is = absurd (let f : None ≡ Some r = is in cc)
on-told b (entry.Line c mux level failed) r is = eq-eqb _ r (let f : Some _ ≡ Some r = is in cc)
on-told b (entry.Message c bus why part parts addr reading bytes heard x) r is = eq-eqb _ r (let f : Some _ ≡ Some r = is in cc)

pub off-told : (b : BoardView) (e : Entry) (r : ℕ) → (root_told b e ≡ Some r → ⊥) → is_on_root b r e ≡ false
off-told b (entry.Take c l) r other = refl
off-told b (entry.Free c l) r other = refl
off-told b (entry.Settle c x cut) r other = refl
off-told b (entry.Line c mux level failed) r other = ne_eqb _ r (λ same. other (ap (λ (k : ℕ). Some k) same))
off-told b (entry.Message c bus why part parts addr reading bytes heard x) r other = ne_eqb _ r
    (λ same. other (ap (λ (k : ℕ). Some k) same))

module _ (b : BoardView) (r : ℕ) (es : List Entry) (e : Entry) where
  behind : (later : List Entry) → gaps_told b (es ++ e ∷ later) r ≡ gaps_told b ((es ++ e ∷ []) ++ later) r
  behind later = ap (λ (xs : List Entry). gaps_told b xs r) (sym (append_assoc es (e ∷ []) later))

  pub gaps-grow : (x y : RootGaps) → is_on_root b r e ≡ true → IsGapsOf b r es x
      → y.gaps.items ≡ x.gaps.items ++ gap_told x.since (call_failed e) → y.since ≡ since_told x.since (calls_made e) (call_failed e)
      → IsGapsOf b r (es ++ e ∷ []) y
  gaps-grow x y on old gaps since later =
      ap (λ (gs : List ℕ). gs ++ gaps_from b r y.since later) gaps
      ∙ ap (λ (k : ℕ). (x.gaps.items ++ gap_told x.since (call_failed e)) ++ gaps_from b r k later) since
      ∙ append_assoc x.gaps.items (gap_told x.since (call_failed e))
      (gaps_from b r (since_told x.since (calls_made e) (call_failed e)) later)
      ∙ ap (λ (gs : List ℕ). x.gaps.items ++ gs)
      (sym (ap (λ (t : Bool). cond t (gap_told x.since (call_failed e) ++ gaps_from b r (since_told x.since (calls_made e)
      (call_failed e)) later)
      (gaps_from b r x.since later)) on))
      ∙ old (e ∷ later) ∙ behind later

  pub gaps-stay : (x : RootGaps) → is_on_root b r e ≡ false → IsGapsOf b r es x → IsGapsOf b r (es ++ e ∷ []) x
  gaps-stay x off old later =
      ap (λ (gs : List ℕ). x.gaps.items ++ gs)
      (sym (ap (λ (t : Bool). cond t (gap_told x.since (call_failed e) ++ gaps_from b r (since_told x.since (calls_made e)
      (call_failed e)) later)
      (gaps_from b r x.since later)) off))
      ∙ old (e ∷ later) ∙ behind later

module _ (b : BoardView) (es : List Entry) (e : Entry) (roots : List RootGaps) (told : AreGapsOf b es roots) where
  pub entry-added : (k : ℕ) (x0 y : RootGaps) → root_told b e ≡ Some k → slice_get roots k ≡ Some x0
      → y.gaps.items ≡ x0.gaps.items ++ gap_told x0.since (call_failed e) → y.since ≡ since_told x0.since (calls_made e) (call_failed e)
      → AreGapsOf b (es ++ e ∷ []) (set roots k y)
  entry-added k x0 y is here gaps since r x at =
      elim (cases_eq r k) [
        | inl same ↦ (let mine : y ≡ x = (let f : Some y ≡ Some x = sym (set_here roots k y (slice_get_within roots k x0 here))
            ∙ ap (slice_get (set roots k y)) (sym same) ∙ at in cc) in
            subst (λ (z : RootGaps). IsGapsOf b r (es ++ e ∷ []) z) mine
            (subst (λ (i : ℕ). IsGapsOf b i (es ++ e ∷ []) y) (sym same)
            (gaps-grow b k es e x0 y (on-told b e k is) (told k x0 here) gaps since)))
        | inr other ↦ gaps-stay b r es e x (off-told b e r (λ f. other (let g : Some k ≡ Some r = sym is ∙ f in let h : k ≡ r = cc in
            sym h)))
            (told r x (sym (set_elsewhere roots k r y other) ∙ at))
      ]

  pub entry-beyond : (k : ℕ) → root_told b e ≡ Some k → length roots ≤ k → AreGapsOf b (es ++ e ∷ []) roots
  entry-beyond k is high r x at =
      gaps-stay b r es e x (off-told b e r (λ f. let g : Some k ≡ Some r = sym is ∙ f in let h : k ≡ r = cc in
      let low : r < length roots = slice_get_within roots r x at in omega (arith, low, high, h)))
      (told r x at)

  pub entry-nowhere : root_told b e ≡ None → AreGapsOf b (es ++ e ∷ []) roots
  entry-nowhere is r x at =
      gaps-stay b r es e x (off-told b e r (λ f. let g : None ≡ Some r = sym is ∙ f in cc)) (told r x at)
