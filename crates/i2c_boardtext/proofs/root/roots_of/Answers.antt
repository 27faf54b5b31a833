use Rattle.i2c_boardtext.proofs.Cited.{◌≡◌, Vec, Global, ◌<◌, ◌++◌, [], ◌∷◌, length, refl, sym, arith, length-append, RootSpec, Fails}
use Rattle.i2c_boardtext.proofs.Cited.{placed, root_in_table, roots_of, rows_of, row_of, Root}
use Rattle.i2c_boardtext.proofs.RowLemmas.{read_more, all_read, fault_read, fails_with}
use Rattle.i2c_boardtext.proofs.root.roots_of.Goals as goal

pub loop-value-preserved : goal.loop-value-preserved
loop-value-preserved c =
    let before = c.loop-value.roots.items in
    let root = c.in_ok-root_at.field-0 in
    let all = c.loop-value.invariant in
    let same : c.push_reserved.new.self.items ≡ before ++ root ∷ [] = c.push_reserved.ensures.items in
    let within : c.loop-value.value-index < length c.args.rows.now = omega arith in
    record {
      count = rw (same, length-append before (root ∷ [])) (omega (arith, all.count));
      room = rw c.push_reserved.ensures.capacity all.room;
      told =
          read_more Root (λ before. root_in_table) before c.push_reserved.new.self.items root (roots_of (rows_of c.args.rows.now))
          c.args.rows.now c.loop-value.value-index c.value-item.result (row_of c.value-item.result) c.len-index.result within
          c.value-item.is refl (omega arith) (sym c.in_ok-root_at.ensures) same all.told;
    }

pub returns-in_err-root_at-clause-exact : goal.returns-in_err-root_at-clause-exact
returns-in_err-root_at-clause-exact c =
    let found = placed Root c.len-index.result (root_in_table (row_of c.value-item.result)) in
    let fails : Fails c.in_err-root_at.field-0.0 found = fails_with c.in_err-root_at.field-0.0 found c.in_err-root_at.ensures in
    fault_read (λ (v : Vec RootSpec Global). v.items) Root (λ before. root_in_table) c.loop-value.roots.items
    (roots_of (rows_of c.args.rows.now))
    c.args.rows.now c.loop-value.value-index c.value-item.result
    (row_of c.value-item.result) c.len-index.result c.in_err-root_at.field-0.0 c.from_residual-in_err-root_at.result
    c.loop-value-test.true c.value-item.is refl (omega arith) fails c.loop-value.invariant.told c.from_residual-in_err-root_at.ensures.1

pub returns-clause-exact : goal.returns-clause-exact
returns-clause-exact c =
    all_read Root (λ before. root_in_table) c.loop-value.roots.items
    (roots_of (rows_of c.args.rows.now)) c.args.rows.now c.loop-value.value-index
    c.loop-value-test.false c.loop-value.invariant.told
