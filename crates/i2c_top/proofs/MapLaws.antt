-- The text of a map of address translators spells a map or has one first fault. No induction.
use Rattle.i2c_top.proofs.Cited.{◌≡◌, ℕ, ◌⊎◌, inl, inr, List, Result, Ok, Err, refl, sym, ◌∙◌, ap, subst, BoardView, broken_breaks}
use Rattle.i2c_top.proofs.Cited.{one_broken, MeetsRules, TellsBroken, lowered, MapView, IsMapOf, MapFault}
use Rattle.i2c_base.specs.declared.rules.RuleBroken.{RuleBroken}
use Rattle.addr_atr.specs.Maps.{TranslatorView}
use Rattle.addr_atr.specs.MapTexts.{translators_of, Fails}
use Rattle.addr_atr.specs.declared.fault.MapFault.TheVariants as fault
use Rattle.i2c_top.specs.forms.Atrs.{map_row}
use Rattle.i2c_top.specs.forms.Extras.{IsExtraRow, IsOfExtra}
use Rattle.i2c_top.specs.declared.status.Status.TheVariants as status

-- what a text says of a map, it says once
abbrev Read : Type 0
Read = Result (List TranslatorView) MapFault

both : (r : Read) (ts : List TranslatorView) (f : MapFault) → r ≡ Ok ts → r ≡ Err f → ⊥
both r ts f e k = absurd (let h : Ok ts ≡ Err f = sym e ∙ k in cc)

abbrev told_or : List TranslatorView → Read → List TranslatorView
told_or ts (Ok us) = us
told_or ts (Err f) = ts

abbrev fault_or : MapFault → Read → MapFault
fault_or f (Ok ts) = f
fault_or f (Err g) = g

one_told : (r : Read) (ts us : List TranslatorView) → r ≡ Ok ts → r ≡ Ok us → ts ≡ us
one_told r ts us e k = ap (told_or ts) (sym e ∙ k)

one_read : (r : Read) (f g : MapFault) → r ≡ Err f → r ≡ Err g → f ≡ g
one_read r f g e k = ap (fault_or f) (sym e ∙ k)

-- a fault of the lowered board, and any other
record IsRuleFault (b : BoardView) (text : List ℕ) (f : MapFault) : Type 0 where
  broken : RuleBroken
  same : f ≡ fault.Rule broken
  ts : List TranslatorView
  told : translators_of b text ≡ Ok ts
  breaks : TellsBroken (lowered b ts) broken

abbrev Sorted : BoardView → List ℕ → MapFault → Type 0
Sorted b text f = (translators_of b text ≡ Err f) ⊎ IsRuleFault b text f

sorted : (b : BoardView) (text : List ℕ) (f : MapFault) → (f ≡ fault.Memory → ⊥) → Fails b text f → Sorted b text f
sorted b text fault.Memory of fails = absurd (of refl)
sorted b text (fault.Rule broken) of fails =
    inr (record { broken = broken; same = refl; ts = fails.0; told = fails.1; breaks = fails.2 })
sorted b text fault.NotToml of fails = inl fails
sorted b text (fault.Key i) of fails = inl fails
sorted b text (fault.Value i) of fails = inl fails
sorted b text (fault.Mux i) of fails = inl fails
sorted b text (fault.Pairs i) of fails = inl fails

map_no_fault : (b : BoardView) (text : List ℕ) (m : MapView) (f : MapFault) → IsMapOf b text m → Sorted b text f → ⊥
map_no_fault b text m f is (inl k) = both (translators_of b text) m.translators f is.told k
map_no_fault b text m f is (inr k) =
    broken_breaks (lowered b k.ts) k.broken k.breaks
    (subst (λ us. MeetsRules (lowered b us)) (one_told (translators_of b text) m.translators k.ts is.told k.told) is.rules)

one_sorted : (b : BoardView) (text : List ℕ) (f g : MapFault) → Sorted b text f → Sorted b text g → g ≡ f
one_sorted b text f g (inl h) (inl k) = one_read (translators_of b text) g f k h
one_sorted b text f g (inl h) (inr k) = absurd (both (translators_of b text) k.ts f k.told h)
one_sorted b text f g (inr h) (inl k) = absurd (both (translators_of b text) h.ts g h.told k)
one_sorted b text f g (inr h) (inr k) =
    k.same
    ∙ ap (λ r. fault.Rule r) (one_broken (lowered b h.ts) k.broken h.broken
    (subst (λ us. TellsBroken (lowered b us) k.broken) (one_told (translators_of b text) k.ts h.ts k.told h.told) k.breaks) h.breaks)
    ∙ sym h.same

-- THE ROW of maps
pub map-row : IsExtraRow map_row
map-row = record {
  own = λ b text s f. subst IsOfExtra (sym f.same) tt;
  either = λ b text m s is f. map_no_fault b text m f.why is (sorted b text f.why f.of_text f.fails);
  one = λ b text s r f g.
      g.same
      ∙ ap (λ (w : MapFault). status.Map w) (one_sorted b text f.why g.why (sorted b text f.why f.of_text f.fails)
      (sorted b text g.why g.of_text g.fails)) ∙ sym f.same;
}
