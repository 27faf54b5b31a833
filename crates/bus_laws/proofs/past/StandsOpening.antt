-- What stands at the opening: nobody has a lock, and every channel is closed.
use Rattle.bus_laws.proofs.Cited.{◌≡◌, ℕ, true, false, map, Option, Some, None, refl, sym, ◌∙◌, ap, subst, arith, slice_get, unwrap_or}
use Rattle.bus_laws.proofs.Cited.{option_map, MuxSpec, facts_of, BoardView, TransferView, ChipView, is_open, opening_world, Clean, Marked}
use Rattle.bus_laws.proofs.Cited.{Polled, Found, opening, IsChipOf, WorldTold, Stands}
use Rattle.std.proofs.lemmas.Option.{slice_get-map}
use Rattle.std.proofs.lemmas.List.{length-map}
use Rattle.i2c_spec.specs.Chips.{chip_opening}
use Rattle.bus_spec.specs.Slots.{all_clean}
use Rattle.bus_laws.proofs.world.ChipLaws.{shut_at_zero}

-- the chip of a number, as it is opened
opened_as : (o : Option MuxSpec) (x : ChipView) → option_map chip_opening o ≡ Some x → (s : MuxSpec) × (o ≡ Some s) × (x ≡ chip_opening s)
opened_as None x e = absurd (let f : None ≡ Some x = e in cc)
opened_as (Some s) x e = (s, refl, (let f : Some (chip_opening s) ≡ Some x = e in cc))

opening_chip : (b : BoardView) (i : ℕ) (x : ChipView) → slice_get (map chip_opening b.muxes) i ≡ Some x
    → (s : MuxSpec) × (slice_get b.muxes i ≡ Some s) × (x ≡ chip_opening s)
opening_chip b i x e = opened_as (slice_get b.muxes i) x (sym (slice_get-map chip_opening b.muxes i) ∙ e)

closed_at_first : (b : BoardView) (i c : ℕ) (x : ChipView) → slice_get (map chip_opening b.muxes) i ≡ Some x → is_open x c ≡ false
closed_at_first b i c x e =
    let s = opening_chip b i x e in ap (λ (y : ChipView). is_open y c) s.2 ∙ shut_at_zero (facts_of s.0.kind).code c

told_kept : (b : BoardView) (m : ℕ) (x : ChipView) → slice_get (map chip_opening b.muxes) m ≡ Some x → IsChipOf b m x
told_kept b m x e =
    let s = opening_chip b m x e in
    subst (λ (y : ChipView). IsChipOf b m y) (sym s.2) (record {
      kind = ap (λ (o : Option MuxSpec). unwrap_or (option_map (λ (y : MuxSpec). Some y.kind) o) None) s.1;
      foreign = ap (λ (o : Option MuxSpec). unwrap_or (option_map (λ (y : MuxSpec). y.foreign) o) 0) s.1;
      left = omega arith;
      waiting = refl;
    })

opening_told : (b : BoardView) → WorldTold b all_clean (opening_world b)
opening_told b =
    record {
      board = λ r. refl;
      root = λ r. refl;
      count = λ r. length-map b.muxes chip_opening;
      rest = λ r i x e. (let s = opening_chip b i x e in ap (λ (y : ChipView). y.waiting) s.2);
      told = record {
        kept = λ m x e. told_kept b m x e;
        opened = λ m c e. absurd (let f : None ≡ Some c = e in cc);
        polled = λ p h n x e at. absurd (let f : Clean ≡ Polled h n = e in cc);
        found = λ p h x e at. absurd (let f : Clean ≡ Found h = e in cc);
        asked = λ p h n e. absurd (let f : Clean ≡ Polled h n = e in cc);
        free = λ p h e. absurd (let f : Clean ≡ Found h = e in cc);
        only = λ m c x at is. absurd (let f : false ≡ true = sym (closed_at_first b m c x at) ∙ is in cc);
        absent = λ m c x gone at. closed_at_first b m c x at;
      };
    }

pub opening-stands : (b : BoardView) (nobody : TransferView) → Stands b (opening b)
opening-stands b nobody =
    record {
      callers = λ c. record { whose = nobody; view = all_clean; runs = refl; agree = λ p i. absurd i };
      holds = λ c l i. absurd i;
      has = λ c l e. absurd (let f : None ≡ Some c = e in cc);
      once = λ c. tt;
      shut = λ p e. record {
        shut = tt;
        home = λ m f. absurd (let g : Clean ≡ Marked m = f in cc);
        known = λ m f. absurd (let g : Clean ≡ Marked m = f in cc);
        stay = λ m c e. absurd (let f : None ≡ Some c = e in cc);
      };
      told = opening_told b;
    }
