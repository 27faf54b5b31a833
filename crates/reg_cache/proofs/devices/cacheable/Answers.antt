use Rattle.reg_cache.proofs.Cited.{◌≡◌, ℕ, ◌<◌, ◌∙◌, sym, ap, Bool, true, false, cond, List, [], ◌∷◌, ◌++◌, length, subst, slice_get}
use Rattle.reg_cache.proofs.Cited.{slice_get-get_or, DeviceView, is_cacheable}
use Rattle.std.proofs.Common.{get_or}
use Rattle.std.specs.Prelude.{Some}
use Rattle.std.proofs.lemmas.List.{append-nil}
use Rattle.reg_cache.proofs.ReachLemmas.{one-kept}
use Rattle.reg_cache.proofs.devices.cacheable.Goals.{then-may_keep+in_ok-push, else-may_keep}
use Rattle.reg_cache.proofs.devices.cacheable.Goals as goal

pub loop-number-preserved : goal.loop-number-preserved
loop-number-preserved c texts are =
    let n = c.loop-number.number in
    let items : c.devices-device-items.result.now ≡ c.args.board.now.devices =
    c.devices-device-items.ensures.value ∙ ap (λ b. b.devices) c.board.ensures.value in
    let there : slice_get c.args.board.now.devices n ≡ Some c.device-item.result =
    slice_get-get_or c.args.board.now.devices n c.device-item.result
    (subst (λ (ds : List DeviceView). n < length ds) items c.loop-number-test.true)
    ∙ ap Some (sym (c.device-item.is ∙ ap (λ (ds : List DeviceView). get_or ds n c.device-item.result) items)) in
    let told : c.may_keep.result ≡ is_cacheable c.args.board.now texts c.args.caller n =
    c.may_keep.ensures c.args.board.now texts are there in
    let before = c.loop-number.invariant texts are in
    let more = one-kept (is_cacheable c.args.board.now texts c.args.caller) n c.may_keep.result told in
    let same = λ (z : Bool) (e : c.may_keep.result ≡ z). ap (λ (y : Bool). c.loop-number.devices.items ++ cond y (n ∷ []) []) (sym e) in
    (elim c.if-may_keep.branch [
      | then-may_keep+in_ok-push w ↦ ap (λ v. v.items) w.devices-is ∙ w.in_ok-push.ensures.items ∙ same true w.if-may_keep.true
      | else-may_keep w ↦ ap (λ v. v.items) w.devices-is ∙ sym (append-nil c.loop-number.devices.items) ∙ same false w.if-may_keep.false
    ]) ∙ ap (λ (l : List ℕ). l ++ cond c.may_keep.result (n ∷ []) []) before ∙ sym more
