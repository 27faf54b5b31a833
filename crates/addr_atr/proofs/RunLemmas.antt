-- Histories behind translators are those of the board as written. The induction goes over the transfers, the newest first.
use Rattle.addr_atr.proofs.Cited.{◌≡◌, ℕ, List, [], ◌∷◌, Option, Some, None, refl, ◌∙◌, ap, option_map, Cut, BoardView, TransferView}
use Rattle.addr_atr.proofs.Cited.{FlatTold, flat, IsPlainBoard, MeetsRules, TargetState, tree_of, lowered, translated, IsMap}
use Rattle.addr_atr.proofs.Cited.{TranslatorView}
use Rattle.std.specs.Option.{option_and_then}
use Rattle.i2c_spec.specs.History.{Asks, History, with_told, one_more, history}
use Rattle.addr_atr.specs.Runs.{translated_asks, AsksBehind}
use Rattle.addr_atr.proofs.OpenLemmas.{lowered-opens}
use Rattle.addr_atr.proofs.TranslateLemmas.{same-told}

then_same : {X Y : Type 0} (f g : X → Option Y) (o : Option X) → ((x : X) → f x ≡ g x) → option_and_then f o ≡ option_and_then g o
then_same f g None same = refl
then_same f g (Some x) same = same x

module _ (b : BoardView) (plain : IsPlainBoard b) (meets : MeetsRules b) (ts : List TranslatorView) (is_map : IsMap b ts)
    (rules : MeetsRules (lowered b ts)) (asks : Asks) (behind : AsksBehind b ts asks) where
  more_by : (c : ℕ) (cut : Cut) (h : History) (o : Option TransferView) → asks c (h.replies c) ≡ o
      → option_map (λ t. with_told h c (flat (lowered b ts) h.states t cut)) (option_map (translated b ts) o)
      ≡ option_map (λ t. with_told h c (flat b h.states t cut)) o
  more_by c cut h None e = refl
  more_by c cut h (Some t) e =
      let r = behind c (h.replies c) t e in
      ap (λ (told : FlatTold). Some (with_told h c told)) (same-told b plain meets ts is_map rules t r.0 r.1 r.2 h.states cut)

  more_same : (c : ℕ) (cut : Cut) (h : History) → one_more (lowered b ts) (translated_asks b ts asks) c cut h ≡ one_more b asks c cut h
  more_same c cut h = more_by c cut h (asks c (h.replies c)) refl

  pub history-same : (order : List (ℕ × Cut)) → history (lowered b ts) (translated_asks b ts asks) order ≡ history b asks order
  history-same [] =
      ap (λ (xs : List TargetState). Some (record { replies = λ c. []; states = xs }))
      (lowered-opens b plain (tree_of b plain meets) ts is_map)
  history-same (p ∷ before) =
      ap (option_and_then (one_more (lowered b ts) (translated_asks b ts asks) p.0 p.1)) (history-same before)
      ∙ then_same (one_more (lowered b ts) (translated_asks b ts asks) p.0 p.1) (one_more b asks p.0 p.1) (history b asks before)
      (λ h. more_same p.0 p.1 h)
