-- Scripts are fair callers.
use Rattle.caller_core.proofs.Cited.{◌≡◌, ℕ, true, false, cond, List, [], ◌∷◌, ◌++◌, Some, None, ap, subst, sym, ◌∙◌, inl, inr, All, fold}
use Rattle.caller_core.proofs.Cited.{leb_tells, All-head, All-tail, All-drop, Reply, TransferView, cost_of, place_after, is_over, IsAsk}
use Rattle.caller_core.proofs.Cited.{Progress, command_talk, quiet_front, turn_to, over_with, replied_to, replied, progress, next_of}
use Rattle.caller_core.proofs.Cited.{asked_at, commands_of, asked_by, cost_of_script, CommandView, ScriptView, same_Some, none-some}
use Rattle.i2c_spec.proofs.CostLemmas.{cost_some}
use Rattle.caller_core.specs.Callers.{ScriptsAreFair}
use Rattle.caller_core.specs.Scripts.{left_of}
use Rattle.caller_core.proofs.CommandLemmas.{IsSpoken, commands_are_read}
use Rattle.caller_core.proofs.SumLemmas.{sum_first, sum_falls}

-- ---- what is left is part of the script

left_kept : (P : CommandView → Type 0) (p : Progress) (left : List CommandView) (r : Reply) → All P p.left → All P left
    → All P (replied_to p left r).left
left_kept P p [] r all h = all
left_kept P p (c ∷ cs) r all h =
    elim (is_over (command_talk c) (place_after (command_talk c) (p.own ++ r ∷ []))) as
    (λ b. All P (cond b (turn_to (over_with p c (p.own ++ r ∷ [])) cs) (record p { own = p.own ++ r ∷ [] })).left) [
      | true ↦ All-drop P (quiet_front cs) cs (All-tail P c cs h)
      | false ↦ all
    ]

left_from : (P : CommandView → Type 0) (p : Progress) (rs : List Reply) → All P p.left → All P (fold replied p rs).left
left_from P p [] h = h
left_from P p (r ∷ rs) h = left_from P (replied p r) rs (left_kept P p p.left r h h)

pub left_all : (P : CommandView → Type 0) (cs : List CommandView) (rs : List Reply) → All P cs → All P (progress cs rs).left
left_all P cs rs h = left_from P (turn_to [] cs) rs (All-drop P (quiet_front cs) cs h)

-- ---- what is asked for

next_asks : (left : List CommandView) (own : List Reply) (t : TransferView) → All IsSpoken left → next_of left own ≡ Some t → IsAsk t
next_asks [] own t all e = absurd (none-some t e)
next_asks (c ∷ cs) own t all e =
    let k : ℕ = place_after (command_talk c) own in
    elim (leb_tells (command_talk c).places k) [
      | inl x ↦ absurd (none-some t (sym (ap (λ b. cond b None (Some ((command_talk c).at k))) x.0) ∙ e))
      | inr x ↦ subst IsAsk (same_Some ((command_talk c).at k) t (sym (ap (λ b. cond b None (Some ((command_talk c).at k))) x.0) ∙ e))
          ((All-head IsSpoken c cs all).asks k x.1)
    ]

-- what commands in range ask for
pub asked_from : (cs : List CommandView) (rs : List Reply) (t : TransferView) → All IsSpoken cs → asked_at (progress cs rs) ≡ Some t
    → IsAsk t
asked_from cs rs t all e = next_asks (progress cs rs).left (progress cs rs).own t (left_all IsSpoken cs rs all) e

asked : (s : ScriptView) (rs : List Reply) (t : TransferView) → asked_by s rs ≡ Some t → IsAsk t
asked s rs t e = asked_from (commands_of s) rs t (commands_are_read s).fits e

pub scripts_fair : ScriptsAreFair
scripts_fair =
    record {
      sends = λ s rs t e. (asked s rs t e).sends;
      limits = λ s rs t e. (asked s rs t e).fits;
      costs = λ s rs t e. cost_some s.board t;
      falls = λ s rs t r e fit. sum_falls (cost_of s.board) (commands_of s) rs r t e;
    }

-- before any reply the whole script is left
pub left_at_first : (s : ScriptView) → left_of s [] ≡ cost_of_script s
left_at_first s = sum_first (cost_of s.board) (commands_of s)
