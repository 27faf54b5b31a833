use Rattle.bus_groups.proofs.Cited.{◌≡◌, ℕ, Bool, false, sym, ◌∙◌, ap, ap₂, length, get_or, ◌==◌, ◌&&◌, eq-eqb, names, ne_eqb}
use Rattle.bus_groups.proofs.HomeLemmas.{some-range, none-range}
use Rattle.bus_groups.proofs.homes.names_home.Goals as goal
use Rattle.bus_groups.proofs.homes.names_home.Goals.{else-names-via-then-names+else-homes-root, else-names-via-else-names}

pub returns-then-homes-root : goal.returns-then-homes-root
returns-then-homes-root c =
    let homes = c.args.homes.now in
    let p : ℕ → Bool = λ root. names c.args.mask root && (get_or homes root 0 == c.args.home) in
    sym (some-range p c.loop-root.root (length homes) c.loop-root-test.true
    (ap₂ (λ (x y : Bool). x && y) (sym c.names.ensures ∙ c.if-names.true)
    (eq-eqb (get_or homes c.loop-root.root 0) c.args.home c.if-homes-root.true)))

pub loop-root-preserved : goal.loop-root-preserved
loop-root-preserved c =
    let homes = c.args.homes.now in
    let r = c.loop-root.root in
    let p : ℕ → Bool = λ root. names c.args.mask root && (get_or homes root 0 == c.args.home) in
    let isnt : p r ≡ false =
    elim c.else-names.branch [
      | else-names-via-then-names+else-homes-root w ↦ ap₂ (λ (x y : Bool). x && y) (sym c.names.ensures ∙ w.if-names.true)
          (ne_eqb (get_or homes r 0) c.args.home w.if-homes-root.false)
      | else-names-via-else-names w ↦ ap (λ (x : Bool). x && (get_or homes r 0 == c.args.home)) (sym c.names.ensures ∙ w.if-names.false)
    ] in
    none-range p r c.loop-root.invariant isnt
