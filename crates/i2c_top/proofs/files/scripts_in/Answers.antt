use Rattle.i2c_top.proofs.Cited.{common_steps, sym, subst, inl, inr, arith, refl, map, ◌<◌, string_bytes, length-map, HasScripts}
use Rattle.i2c_top.specs.declared.status.Status.TheVariants as status
use Rattle.i2c_top.proofs.FileLemmas.{passed_on, script_refused, scripts_more, one_more, kept_then}
use Rattle.i2c_top.proofs.files.scripts_in.Goals as goal

pub returns-in_err-script-clause-refused : goal.returns-in_err-script-clause-refused
returns-in_err-script-clause-refused g c =
    let at = c.loop-caller in
    let file = g.S.Shelf.file c.args.shelf.now in
    let names = map string_bytes c.args.names.now in
    passed_on c.from_residual.result c.in_err-script.field-0.0 _ c.from_residual.ensures.1
    (script_refused c.args.first g.S.Shelf.tells file (g.S.Shelf.file at.shelf) c.args.board.now names (g.S.Shelf.faults c.args.shelf.now)
    (g.S.Shelf.faults at.shelf) (g.S.Shelf.faults c.script_in.new.shelf) at.caller
    c.in_err-script.field-0.0 c.name_of-name.result.now c.name_of-name.ensures.value
    (subst (λ n. at.caller < n) (sym (length-map c.args.names.now string_bytes)) c.loop-caller-test.true)
    at.invariant.kept.files (λ t. subst (HasScripts file c.args.board.now names) at.invariant.count (at.invariant.scripts.read t))
    at.invariant.kept.others c.script_in.ensures.kept.others c.in_err-script.ensures.refused)

pub returns-in_err-push-clause-refused : goal.returns-in_err-push-clause-refused
returns-in_err-push-clause-refused g c =
    let at = c.loop-caller in
    let file = g.S.Shelf.file c.args.shelf.now in
    let names = map string_bytes c.args.names.now in
    passed_on c.from_residual-in_err-push.result status.Memory _ c.from_residual-in_err-push.ensures.1
    (script_refused c.args.first g.S.Shelf.tells file (g.S.Shelf.file at.shelf) c.args.board.now names (g.S.Shelf.faults c.args.shelf.now)
    (g.S.Shelf.faults at.shelf) (g.S.Shelf.faults c.script_in.new.shelf) at.caller
    status.Memory c.name_of-name.result.now c.name_of-name.ensures.value
    (subst (λ n. at.caller < n) (sym (length-map c.args.names.now string_bytes)) c.loop-caller-test.true)
    at.invariant.kept.files (λ t. subst (HasScripts file c.args.board.now names) at.invariant.count (at.invariant.scripts.read t))
    at.invariant.kept.others c.script_in.ensures.kept.others (inr (inl refl)))

pub returns-in_err-push-clause-kept : goal.returns-in_err-push-clause-kept
returns-in_err-push-clause-kept g c =
    let low = c.loop-caller-test.true in
    kept_then _ _ _ _ _ _ (λ p h. (h.0, omega (arith, h.1, low)))
    (λ p e. (omega (arith, e), omega (arith, e, low))) c.loop-caller.invariant.kept c.script_in.ensures.kept

pub loop-caller-preserved : goal.loop-caller-preserved
loop-caller-preserved g c =
    let at = c.loop-caller in
    record {
      count = one_more _ _ _ at.caller c.in_ok-push.ensures.items at.invariant.count;
      kept = kept_then _ _ _ _ _ _ (λ p h. (h.0, omega (arith, h.1)))
          (λ p e. (omega (arith, e), omega (arith, e))) at.invariant.kept c.script_in.ensures.kept;
      scripts =
          scripts_more _ _ _ (map string_bytes c.args.names.now) _ at.scripts.items _ _ at.caller c.name_of-name.result.now
          at.invariant.kept.files at.invariant.count
          (subst (λ n. at.caller < n) (sym (length-map c.args.names.now string_bytes)) c.loop-caller-test.true) c.name_of-name.ensures.value
          c.in_ok-push.ensures.items at.invariant.scripts
          c.in_ok-script.ensures.opened c.in_ok-script.ensures.grammar c.in_ok-script.ensures.script;
    }

pub script_in-requires-clause-named : goal.script_in-requires-clause-named
script_in-requires-clause-named g c = grind (arith, common_steps)

pub returns-clause-kept : goal.returns-clause-kept
returns-clause-kept g c = grind (arith, common_steps)
