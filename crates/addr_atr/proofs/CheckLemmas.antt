-- The faults of a map, translator by translator.
use Rattle.addr_atr.proofs.Cited.{◌≡◌, ℕ, ◌+◌, ◌<◌, cond, not, ◌&&◌, List, [], ◌∷◌, ◌++◌, Some, sym, ◌∙◌, ap, arith, length, get_or, take}
use Rattle.addr_atr.proofs.Cited.{drop, drop_more, BoardView, AliasPair, TranslatorView, is_paired, are_distinct, may_translate}
use Rattle.addr_atr.proofs.Cited.{are_pairs_of, fault_after}
use Rattle.std.proofs.lemmas.List.{take_more, length-take-le}
use Rattle.addr_atr.specs.declared.fault.MapFault.TheVariants as map_fault

pub fault_more : (b : BoardView) (ts : List TranslatorView) (i : ℕ) (t : TranslatorView) → i < length ts → t ≡ get_or ts i t
    → fault_after b (take i ts) (drop i ts)
    ≡ cond (not (may_translate b (take i ts) t.mux)) (Some (map_fault.Mux i))
    (cond (not (are_pairs_of b t)) (Some (map_fault.Pairs i)) (fault_after b (take (i + 1) ts) (drop (i + 1) ts)))
fault_more b ts i t low is =
    ap (fault_after b (take i ts)) (drop_more ts i t low ∙ ap (λ x. x ∷ drop (i + 1) ts) (sym is))
    ∙ ap (λ n. cond (not (may_translate b (take i ts) t.mux)) (Some (map_fault.Mux n))
    (cond (not (are_pairs_of b t)) (Some (map_fault.Pairs n)) (fault_after b (take i ts ++ t ∷ []) (drop (i + 1) ts))))
    (length-take-le i ts (omega (arith, low)))
    ∙ ap (λ before. cond (not (may_translate b (take i ts) t.mux)) (Some (map_fault.Mux i))
    (cond (not (are_pairs_of b t)) (Some (map_fault.Pairs i)) (fault_after b before (drop (i + 1) ts))))
    (ap (λ x. take i ts ++ x ∷ []) is ∙ sym (take_more ts i t low))

pub distinct_more : (ps : List AliasPair) (i : ℕ) (p : AliasPair) → i < length ps → p ≡ get_or ps i p
    → are_distinct (drop i ps) ≡ (not (is_paired (drop (i + 1) ps) p.addr) && are_distinct (drop (i + 1) ps))
distinct_more ps i p low is = ap are_distinct (drop_more ps i p low ∙ ap (λ x. x ∷ drop (i + 1) ps) (sym is))
