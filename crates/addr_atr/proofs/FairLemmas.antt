-- A script behind translators is fair, since the script is: its transfers keep their messages and lengths, and what is left of a sum over
-- the
-- script's transfers falls by what the answered one has of it.
use Rattle.addr_atr.proofs.Cited.{◌≡◌, ℕ, ◌+◌, ◌<◌, ◌≤◌, List, [], ◌∷◌, ◌++◌, length, Option, Some, None, refl, sym, subst, arith}
use Rattle.addr_atr.proofs.Cited.{option_map, length-map, Reply, Fits, TransferView, IsTransfer, alias_of, readdressed, cost_of}
use Rattle.addr_atr.proofs.Cited.{IsPlainBoard, MeetsRules, tree_of, Route, route_of, sent_by, translated}
use Rattle.i2c_spec.proofs.CostLemmas.{cost_some}
use Rattle.std.specs.Prelude.{sum_by}
use Rattle.std.proofs.lemmas.List.Sums.{sum_by-le-sum_by}
use Rattle.tools.specs.Dialogues.{transfers_behind}
use Rattle.caller_core.specs.Scripts.{commands_of, cost_of_script, asked_by as script_asked}
use Rattle.caller_core.specs.Turns.{command_talk, sum_of}
use Rattle.caller_core.specs.View.{CommandView}
use Rattle.caller_core.proofs.FairLemmas.{scripts_fair}
use Rattle.caller_core.proofs.SumLemmas.{sum_falls, sum_first}
use Rattle.addr_atr.specs.Callers.{AtrView, AtrCallerView, data_of, asked_by, board_of, left_of, lowered_cost, AtrCallersAreFair}
use Rattle.addr_atr.proofs.CostLemmas.{translated-limits, translated-fits, translated-costs}

-- what is asked for comes from what the script asks for
pub record IsAskedFor (s : AtrView) (rs : List Reply) (t : TransferView) : Type 0 where
  pub written : TransferView
  pub asked : script_asked s.script rs ≡ Some written
  pub sent : translated s.script.board s.translators written ≡ t

from_option : {X Y : Type 0} (f : X → Y) (o : Option X) (y : Y) → option_map f o ≡ Some y → (x : X) × (o ≡ Some x) × (f x ≡ y)
from_option f None y e = absurd (let g : None ≡ Some y = e in cc)
from_option f (Some x) y e = (x, refl, (let g : Some (f x) ≡ Some y = e in cc))

pub asked-for : (s : AtrView) (rs : List Reply) (t : TransferView) → asked_by s rs ≡ Some t → IsAskedFor s rs t
asked-for s rs t e =
    let r = from_option (translated s.script.board s.translators) (script_asked s.script rs) t e in
    record { written = r.0; asked = r.1; sent = r.2 }

sent_some : (t : TransferView) (o : Option Route) → 0 < length t.msgs → 0 < length (sent_by o t).msgs
sent_some t None some = some
sent_some t (Some r) some = subst (λ (n : ℕ). 0 < n) (sym (length-map t.msgs (readdressed (alias_of r.pairs)))) some

pub callers-fair : AtrCallersAreFair
callers-fair =
    record {
      sends = λ s rs t e. (
          let w = asked-for s rs t e in
          subst (λ (x : TransferView). 0 < length x.msgs) w.sent
          (sent_some w.written (route_of s.script.board s.translators w.written.bus) (scripts_fair.sends s.script rs w.written w.asked)));
      limits = λ s rs t e. (
          let w = asked-for s rs t e in
          subst (λ (x : TransferView). IsTransfer x.msgs x.out) w.sent
          (translated-limits s.script.board s.translators w.written (scripts_fair.limits s.script rs w.written w.asked)));
      costs = λ s rs t e. cost_some (board_of s) t;
      falls = λ s rs t r e fit. (
          let w = asked-for s rs t e in
          subst (λ (x : TransferView). left_of s (rs ++ r ∷ []) + cost_of (board_of s) x ≤ left_of s rs) w.sent
          (sum_falls (lowered_cost s) (commands_of s.script) rs r w.written w.asked));
    }

-- a reply that fits what was sent fits what the script asked for
pub fits-script : (seen now : AtrCallerView) (r : Reply) → seen ≡ now
    → (t : TransferView) × (asked_by (data_of now) now.script.taken ≡ Some t) × Fits t r
    → (x : TransferView) × (script_asked seen.script.script seen.script.taken ≡ Some x) × Fits x r
fits-script seen now r same asks =
    let s : AtrView = data_of now in
    let w = asked-for s now.script.taken asks.0 asks.1 in
    subst (λ (c : AtrCallerView). (x : TransferView) × (script_asked c.script.script c.script.taken ≡ Some x) × Fits x r) (sym same) (
      w.written,
      w.asked,
      translated-fits s.script.board s.translators w.written r (subst (λ (x : TransferView). Fits x r) (sym w.sent) asks.2),
    )

-- before any reply it costs no more than the script on the board as written
pub covered : (s : AtrView) → IsPlainBoard s.script.board → MeetsRules s.script.board → left_of s [] ≤ cost_of_script s.script
covered s plain meets =
    let cs : List CommandView = commands_of s.script in
    let tree = tree_of s.script.board plain meets in
    let first : left_of s [] ≡ sum_by (sum_of (lowered_cost s)) cs = sum_first (lowered_cost s) cs in
    let less : sum_by (sum_of (lowered_cost s)) cs ≤ sum_by (sum_of (cost_of s.script.board)) cs =
    sum_by-le-sum_by (sum_of (lowered_cost s)) (sum_of (cost_of s.script.board)) cs
    (λ c. sum_by-le-sum_by (lowered_cost s) (cost_of s.script.board) (transfers_behind (command_talk c) 0)
    (λ t. translated-costs s.script.board s.translators t tree)) in
    omega (arith, first, less)
