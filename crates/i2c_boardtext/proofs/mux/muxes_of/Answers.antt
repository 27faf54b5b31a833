use Rattle.i2c_boardtext.proofs.Cited.{◌≡◌, Vec, Global, ◌+◌, ◌<◌, ◌++◌, [], ◌∷◌, length, refl, ap, sym, ◌∙◌, arith, length-append, MuxSpec}
use Rattle.i2c_boardtext.proofs.Cited.{IsPlainMux, buses_of, Fails, placed, mux_of, muxes_of, rows_of, row_of, Mux, All-push}
use Rattle.i2c_boardtext.proofs.RowLemmas.{read_more, all_read, fault_read, fails_with}
use Rattle.i2c_spec.proofs.HopLemmas.{buses_of-push}
use Rattle.i2c_boardtext.proofs.MuxLemmas.{planted-push, few_channels}
use Rattle.i2c_boardtext.proofs.mux.muxes_of.Goals as goal

pub loop-value-preserved : goal.loop-value-preserved
loop-value-preserved c =
    let before = c.loop-value.muxes.items in
    let mux = c.in_ok-mux.mux in
    let roots = c.args.roots in
    let all = c.loop-value.invariant in
    let same : c.push_reserved.new.self.items ≡ before ++ mux ∷ [] = c.push_reserved.ensures.items in
    let within : c.loop-value.value-index < length c.args.rows.now = omega arith in
    let few = few_channels mux c.in_ok-mux.ensures.plain in
    let more : buses_of roots (before ++ mux ∷ []) ≡ buses_of roots before + mux.channels = buses_of-push roots before mux in
    record {
      count = rw (same, length-append before (mux ∷ [])) (omega (arith, all.count));
      buses = rw (same, more) (omega (arith, all.buses, c.from-buses.ensures));
      few = omega (arith, few, all.few, c.from-buses.ensures);
      some = omega (arith, all.some);
      room = rw c.push_reserved.ensures.capacity c.loop-value.invariant.room;
      plain = rw same (All-push IsPlainMux before mux all.plain c.in_ok-mux.ensures.plain);
      planted = rw same (planted-push roots before mux all.planted (rw (← all.buses) c.in_ok-mux.ensures.placed));
      told =
          read_more Mux (λ before. mux_of (buses_of roots before)) before c.push_reserved.new.self.items mux
          (muxes_of roots (rows_of c.args.rows.now))
          c.args.rows.now c.loop-value.value-index c.value-item.result (row_of c.value-item.result) c.len-index.result within
          c.value-item.is refl (omega arith)
          (ap (λ n. placed Mux c.len-index.result (mux_of n (row_of c.value-item.result))) (sym all.buses)
          ∙ sym c.in_ok-mux.ensures.value) same all.told;
    }

pub returns-in_err-mux-clause-exact : goal.returns-in_err-mux-clause-exact
returns-in_err-mux-clause-exact c =
    let roots = c.args.roots in
    let found = placed Mux c.len-index.result (mux_of (buses_of roots c.loop-value.muxes.items) (row_of c.value-item.result)) in
    let fails : Fails c.in_err-mux.field-0.0 found =
    fails_with c.in_err-mux.field-0.0 found
    (c.in_err-mux.ensures.value ∙ ap
    (λ n. placed Mux c.len-index.result (mux_of n (row_of c.value-item.result))) c.loop-value.invariant.buses) in
    fault_read (λ (v : Vec MuxSpec Global). v.items) Mux (λ before. mux_of (buses_of roots before)) c.loop-value.muxes.items
    (muxes_of roots (rows_of c.args.rows.now))
    c.args.rows.now c.loop-value.value-index c.value-item.result
    (row_of c.value-item.result) c.len-index.result c.in_err-mux.field-0.0 c.from_residual-in_err-mux.result
    c.loop-value-test.true c.value-item.is refl (omega arith) fails c.loop-value.invariant.told c.from_residual-in_err-mux.ensures.1

pub returns-clause-exact : goal.returns-clause-exact
returns-clause-exact c =
    let roots = c.args.roots in
    all_read Mux (λ before. mux_of (buses_of roots before)) c.loop-value.muxes.items
    (muxes_of roots (rows_of c.args.rows.now)) c.args.rows.now c.loop-value.value-index
    c.loop-value-test.false c.loop-value.invariant.told
