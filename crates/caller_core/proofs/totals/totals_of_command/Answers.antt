use Rattle.caller_core.proofs.Cited.{common_steps, ◌≡◌, ℕ, true, ◌+◌, ◌-◌, ◌^◌, ◌<◌, ◌≤◌, List, get_or, length, take, Option, arith, ap}
use Rattle.caller_core.proofs.Cited.{sym, subst, ◌∙◌, refl, option_map_or, take_all, TransferView, IsBill, cost_of, root_named, Dialogue}
use Rattle.caller_core.proofs.Cited.{transfers_of, most_brought, command_dialogue, HasBits, names_root}
use Rattle.std.proofs.Common.{sum_by}
use Rattle.std.proofs.lemmas.List.FromFn.{length-map-range_with_len, get_or-map-range_with_len}
use Rattle.caller_core.proofs.RootLemmas.{IsOneTransfer, named_bit, one_alike, transfer_bit, sums_none, sums_more}
use Rattle.caller_core.proofs.totals.totals_of_command.Goals.{then-not-repeats, else-not-repeats}
use Rattle.caller_core.proofs.totals.totals_of_command.Goals as goal

pub loop-place-preserved : goal.loop-place-preserved
loop-place-preserved c =
    let b = c.args.board.now in
    let d : Dialogue = command_dialogue c.args.run.now in
    let i : ℕ = c.loop-place.place in
    let t : TransferView = d.at i in
    let more : i < d.places - 0 = omega (arith, c.loop-place-test.true, c.places-place-end.ensures.value) in
    let within : i < length (transfers_of d) = omega (arith, more, length-map-range_with_len d.at 0 (d.places - 0)) in
    let place : 0 + i ≡ i = omega arith in
    let at : t ≡ get_or (transfers_of d) i t = sym (get_or-map-range_with_len d.at 0 (d.places - 0) i i t more place) in
    let facts : IsBill b c.if-not-repeats.bill × IsOneTransfer b t c.if-not-repeats.one =
    elim c.if-not-repeats.branch [
      | then-not-repeats w ↦
          let on : w.turn_to.new.bill.bus ≡ t.bus =
          w.turn_to.ensures.bus ∙ w.bus.ensures ∙ ap (λ (u : TransferView). u.bus) w.put.ensures in
          let bit = w.root_bit.ensures
          ∙ ap (λ (r : Option ℕ). option_map_or (λ s. 2 ^ s) r 0) (w.turn_to.ensures.bill.root ∙ ap (root_named b) on) ∙ named_bit b t in
          let one : IsOneTransfer b t (record { cost = w.cost.result; replies = 1; bytes = w.from.result; roots = w.root_bit.result }) =
          record {
            cost = w.cost.ensures.value ∙ ap (cost_of b) w.put.ensures;
            small = omega (arith, w.cost.ensures.small);
            replies = refl;
            few = omega arith;
            bytes = w.from.ensures ∙ w.size.ensures.value ∙ ap most_brought w.put.ensures;
            few_bytes = omega (arith, w.from.ensures, w.size.ensures.few);
            roots = transfer_bit b t w.root_bit.result bit;
          } in
          (rw w.bill-is w.turn_to.ensures.bill, rw w.one-is one)
      | else-not-repeats w ↦
          let again : c.repeats.result ≡ true = grind (arith, common_steps, w.if-not-repeats.false) in
          let before = c.loop-place.invariant.one (c.repeats.ensures.later again) in
          (rw w.bill-is c.loop-place.invariant.bill, rw w.one-is (one_alike b (d.at (i - 1)) t _ (c.repeats.ensures.alike again) before))
    ] in
    let last : i ≡ i + 1 - 1 = omega arith in
    record {
      sums = sums_more _ _ _ _ _ _ _ (transfers_of d) i t _ c.if-not-repeats.one c.loop-place.invariant.sums within at facts.1;
      bill = facts.0;
      one = λ some. subst (λ (k : ℕ). IsOneTransfer b (d.at k) c.if-not-repeats.one) last facts.1;
    }

pub loop-place-init : goal.loop-place-init
loop-place-init c = record {
  sums = sums_none _ _ _ _ _ _ _ (transfers_of (command_dialogue c.args.run.now));
  bill = c.requires;
  one = λ some. absurd (omega (arith, some));
}

pub root_bit-requires : goal.root_bit-requires
root_bit-requires c = c.turn_to.ensures.bill.near

-- after the last place all transfers are summed
summed : (d : Dialogue) (i : ℕ) → d.places ≤ i → take i (transfers_of d) ≡ transfers_of d
summed d i past = take_all i (transfers_of d) (omega (arith, past, length-map-range_with_len d.at 0 (d.places - 0)))

pub returns-clause-cost : goal.returns-clause-cost
returns-clause-cost c =
    let all = summed (command_dialogue c.args.run.now) c.loop-place.place
    (omega (arith, c.loop-place-test.false, c.places-place-end.ensures.value)) in
    c.loop-place.invariant.sums.cost ∙ ap (sum_by (cost_of c.args.board.now)) all

pub returns-clause-replies : goal.returns-clause-replies
returns-clause-replies c =
    let all = summed (command_dialogue c.args.run.now) c.loop-place.place
    (omega (arith, c.loop-place-test.false, c.places-place-end.ensures.value)) in
    c.loop-place.invariant.sums.replies ∙ ap (sum_by (λ t. 1)) all

pub returns-clause-bytes : goal.returns-clause-bytes
returns-clause-bytes c =
    let all = summed (command_dialogue c.args.run.now) c.loop-place.place
    (omega (arith, c.loop-place-test.false, c.places-place-end.ensures.value)) in
    c.loop-place.invariant.sums.bytes ∙ ap (sum_by most_brought) all

pub returns-clause-roots : goal.returns-clause-roots
returns-clause-roots c =
    let all = summed (command_dialogue c.args.run.now) c.loop-place.place
    (omega (arith, c.loop-place-test.false, c.places-place-end.ensures.value)) in
    subst (λ (ts : List TransferView). HasBits (names_root c.args.board.now) ts c.loop-place.totals.roots) all
    c.loop-place.invariant.sums.roots
