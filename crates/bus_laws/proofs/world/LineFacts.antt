-- An accepted board's gpio muxes stand below parent-locked muxes alone, so a line step has the root's lock.
use Rattle.bus_laws.proofs.Cited.{◌≡◌, ℕ, ◌<◌, ◌≤◌, Bool, true, false, not, ◌&&◌, cond, List, [], ◌∷◌, length, Option, Some, None, refl}
use Rattle.bus_laws.proofs.Cited.{sym, ◌∙◌, ap, inl, inr, arith, slice_get, unwrap_or, option_map, ltb-false, slice_get_within, Pca9548}
use Rattle.bus_laws.proofs.Cited.{MuxSpec, BoardView, line_row, Hop, hops, of_mux, is_parent, home_of_mux, IsAmongHops, MeetsRules}
use Rattle.bus_laws.proofs.Cited.{wants_parent, is_gpio, LinesAreLocked}
use Rattle.std.proofs.Common.{filter, nat_lt}

pub wanted : (p q : Bool) → p ≡ true → (p && not q) ≡ false → q ≡ true
wanted true true e f = refl
wanted true false e f = absurd (let g : true ≡ false = f in cc)
wanted false q e f = absurd (let g : false ≡ true = e in cc)

-- no mux-locked hop is kept, so none is there
all_parents : (hs : List Hop) (g : Hop) → IsAmongHops g hs → nat_lt 0 (length (filter (λ (h : Hop). not h.parent) hs)) ≡ false
    → g.parent ≡ true
all_parents [] g a none = absurd a
all_parents (h ∷ hs) g a none = by_parent (λ more left. all_parents hs g more left) h.parent refl
  where
    by_parent : (IsAmongHops g hs → nat_lt 0 (length (filter (λ (x : Hop). not x.parent) hs)) ≡ false → g.parent ≡ true)
        → (t : Bool) → h.parent ≡ t → g.parent ≡ true
    by_parent later true e =
        elim a [
          | inl same ↦ ap (λ (x : Hop). x.parent) same ∙ e
          | inr more ↦ later more
              (sym (ap (λ (t : Bool). nat_lt 0
              (length (cond (not t) (h ∷ filter (λ (x : Hop). not x.parent) hs) (filter (λ (x : Hop). not x.parent) hs)))) e) ∙ none)
        ]
    by_parent later false e =
        let some : length (h ∷ filter (λ (x : Hop). not x.parent) hs) ≤ 0 = ltb-false 0 (length (h ∷ filter (λ (x : Hop). not x.parent) hs))
        (sym (ap (λ (t : Bool). nat_lt 0
        (length (cond (not t) (h ∷ filter (λ (x : Hop). not x.parent) hs) (filter (λ (x : Hop). not x.parent) hs)))) e) ∙ none) in
        absurd (omega (arith, some))

module _ (b : BoardView) (rules : MeetsRules b) (m : ℕ) (g : Hop) (among : IsAmongHops g (hops b (home_of_mux b m))) where
  of_spec : (o : Option MuxSpec) → slice_get b.muxes m ≡ o → is_gpio (unwrap_or (option_map (λ (x : MuxSpec). x.kind) o) Pca9548) ≡ true
      → g.parent ≡ true
  of_spec None at gpio = absurd (let f : false ≡ true = gpio in cc)
  of_spec (Some s) at gpio =
      let below : m < length b.muxes = slice_get_within b.muxes m s at in
      let wrong : (wants_parent s.kind && not (is_parent s.lock)) ≡ false =
      sym (ap (λ (o : Option MuxSpec). unwrap_or (option_map (λ (x : MuxSpec). wants_parent x.kind && not (is_parent x.lock)) o) false) at)
      ∙ rules.parents m below in
      let parent : of_mux (λ x. is_parent x.lock) false b m ≡ true =
      ap (λ (o : Option MuxSpec). unwrap_or (option_map (λ (x : MuxSpec). is_parent x.lock) o) false) at
      ∙ wanted (wants_parent s.kind) (is_parent s.lock) (line_row s.kind gpio).wants_parent wrong in
      all_parents (hops b (home_of_mux b m)) g among
      (sym (ap (λ (t : Bool). nat_lt 0 (length (cond t (filter (λ (h : Hop). not h.parent) (hops b (of_mux (λ x. x.bus) 0 b m))) [])))
      parent) ∙ rules.locks m below)

pub lines-locked : (b : BoardView) → MeetsRules b → LinesAreLocked b
lines-locked b rules m g gpio among =
    of_spec b rules m g among (slice_get b.muxes m) refl gpio
