-- Callers behind translators leave each device that none of them names the bus of. The induction goes over the transfers, the newest first.
use Rattle.run_laws.proofs.Cited.{◌≡◌, ℕ, List, [], ◌∷◌, Option, Some, None, refl, sym, ◌∙◌, ap, map, slice_get, Reply, BoardView, Asks}
use Rattle.run_laws.proofs.Cited.{History, history, TargetState}
use Rattle.std.specs.Option.{option_map, option_and_then}
use Rattle.i2c_base.specs.declared.reply.Cut.{Cut}
use Rattle.i2c_base.specs.Transfer.{TransferView}
use Rattle.i2c_spec.specs.Flat.{flat}
use Rattle.i2c_spec.specs.History.{with_told, one_more}
use Rattle.i2c_spec.specs.Targets.{opening_state}
use Rattle.i2c_spec.specs.Tree.{of_device}
use Rattle.addr_atr.specs.Lowering.{lowered, translated, IsPaired}
use Rattle.addr_atr.specs.Maps.{TranslatorView, Route, route_of}
use Rattle.addr_atr.specs.Runs.{translated_asks, AsksBehind}

-- the devices of a history, or else these
abbrev states_or : List TargetState → Option History → List TargetState
states_or xs None = xs
states_or xs (Some h) = h.states

-- a device on this bus of the board as written
abbrev IsOn : BoardView → ℕ → ℕ → Type 0
IsOn b d bus = of_device (λ y. Some y.bus) None b d ≡ Some bus

module _ (b : BoardView) (ts : List TranslatorView) (asks : Asks) (behind : AsksBehind b ts asks) (d : ℕ)
    (others : (t : TransferView) (r : Route) → route_of b ts t.bus ≡ Some r → IsPaired r t → (xs : List TargetState) (cut : Cut)
    → (IsOn b d t.bus → ⊥) → slice_get (flat (lowered b ts) xs (translated b ts t) cut).states d ≡ slice_get xs d)
    (unnamed : (c : ℕ) (rs : List Reply) (t : TransferView) → asks c rs ≡ Some t → IsOn b d t.bus → ⊥) where
  more_by : (c : ℕ) (cut : Cut) (h told : History) (o : Option TransferView) → asks c (h.replies c) ≡ o
      → option_map (λ t. with_told h c (flat (lowered b ts) h.states t cut)) (option_map (translated b ts) o) ≡ Some told
      → slice_get told.states d ≡ slice_get h.states d
  more_by c cut h told None e is = absurd (let no : None ≡ Some told = is in cc)
  more_by c cut h told (Some t) e is =
      let r = behind c (h.replies c) t e in
      ap (λ (o : Option History). slice_get (states_or h.states o) d) (sym is)
      ∙ others t r.0 r.1 r.2 h.states cut (unnamed c (h.replies c) t e)

  after_one : (c : ℕ) (cut : Cut) (o : Option History) (told : History) (xs : List TargetState)
      → ((h : History) → o ≡ Some h → slice_get h.states d ≡ slice_get xs d)
      → option_and_then (one_more (lowered b ts) (translated_asks b ts asks) c cut) o ≡ Some told
      → slice_get told.states d ≡ slice_get xs d
  after_one c cut None told xs before is = absurd (let no : None ≡ Some told = is in cc)
  after_one c cut (Some h) told xs before is =
      more_by c cut h told (asks c (h.replies c)) refl is ∙ before h refl

  pub others-stay : (order : List (ℕ × Cut)) (told : History) → history (lowered b ts) (translated_asks b ts asks) order ≡ Some told
      → slice_get told.states d ≡ slice_get (map opening_state (lowered b ts).devices) d
  others-stay [] told is = ap (λ (o : Option History). slice_get (states_or told.states o) d) (sym is)
  others-stay (p ∷ before) told is =
      after_one p.0 p.1 (history (lowered b ts) (translated_asks b ts asks) before) told (map opening_state (lowered b ts).devices)
      (λ h same. others-stay before h same) is
