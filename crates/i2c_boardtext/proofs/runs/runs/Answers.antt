use Rattle.i2c_boardtext.proofs.Cited.{◌≡◌, ◌∙◌, All, codes, get_member, table_view, IsPlainRun, cut_runs_in, runs_in}
use Rattle.std.proofs.lemmas.Result.{IfOk-weaker}
use Rattle.i2c_boardtext.proofs.RunLemmas.{runs_same, runs_plain}
use Rattle.i2c_boardtext.proofs.runs.runs.Goals as goal

pub returns-clause-value : goal.returns-clause-value
returns-clause-value c =
    let set = get_member (codes "set") (table_view c.args.table.now) in
    IfOk-weaker c.cut_runs.result (λ x. x.items ≡ cut_runs_in set) (λ x. x.items ≡ runs_in set)
    (λ x same. same ∙ runs_same c.args.size set c.requires.size c.requires.fits) c.cut_runs.ensures

pub returns-clause-plain : goal.returns-clause-plain
returns-clause-plain c =
    let set = get_member (codes "set") (table_view c.args.table.now) in
    IfOk-weaker c.cut_runs.result (λ x. x.items ≡ cut_runs_in set) (λ x. All (IsPlainRun c.args.size) x.items)
    (λ x same. rw (same, runs_same c.args.size set c.requires.size c.requires.fits) (runs_plain c.args.size set c.requires.fits))
    c.cut_runs.ensures
