use Rattle.std.proofs.Common.{◌∙◌, ◌<◌, ap, arith, length, get_or, set, List}
use Rattle.std.proofs.lemmas.List.Edits.{map_over_more}
use Rattle.i2c_base.specs.declared.transfer.Msg.{Msg}
use Rattle.i2c_base.specs.Alias.{alias_of, readdressed}
use Rattle.i2c_base.proofs.transfer.readdress.Goals as goal

pub loop-place-preserved : goal.loop-place-preserved
loop-place-preserved c =
    let x : Msg = c.index-as_slice-place.result in
    let was : List Msg = c.loop-place.msgs in
    let is = c.index-as_slice-place.is ∙ ap (λ (ms : List Msg). get_or ms c.loop-place.place x) c.as_slice.ensures.value in
    let low : c.loop-place.place < length c.args.msgs.now =
    (let t = c.loop-place-test.true in let n = ap length c.as_slice-count.ensures.value in omega (arith, t, n)) in
    c.put.ensures ∙ ap (λ a. set was c.loop-place.place (record { addr = a; flags = x.flags; len = x.len })) c.alias_of.ensures
    ∙ map_over_more (readdressed (alias_of c.args.pairs.now)) c.args.msgs.now was c.loop-place.place x low c.loop-place.invariant is
