use Rattle.bus_groups.proofs.Cited.{sym, ◌∙◌, ap, length, lower}
use Rattle.bus_groups.proofs.HomeLemmas.{fold-range, lower-yes, lower-no, lower-not}
use Rattle.bus_groups.proofs.homes.least_home.Goals as goal
use Rattle.bus_groups.proofs.homes.least_home.Goals.{then-names+then-homes-root, else-names, else-names-via-then-names+else-homes-root}
use Rattle.bus_groups.proofs.homes.least_home.Goals.{else-names-via-else-names}

pub loop-root-preserved : goal.loop-root-preserved
loop-root-preserved c =
    let homes = c.args.homes.now in
    let mask = c.args.mask in
    let r = c.loop-root.root in
    let low = c.loop-root.low in
    let so_far = ap (λ k. lower homes mask k r) c.loop-root.invariant ∙ sym (fold-range (lower homes mask) (length homes) r) in
    elim c.if-names.branch [
      | then-names+then-homes-root w ↦ w.low-is ∙ sym (lower-yes homes mask low r (sym c.names.ensures
          ∙ w.if-names.true) w.if-homes-root.true)
          ∙ so_far
      | else-names w ↦ w.low-is ∙
          elim w.else-names.branch [
            | else-names-via-then-names+else-homes-root v ↦ sym (lower-not homes mask low r
                (sym c.names.ensures ∙ v.if-names.true) v.if-homes-root.false) ∙ so_far
            | else-names-via-else-names v ↦ sym (lower-no homes mask low r (sym c.names.ensures ∙ v.if-names.false)) ∙ so_far
          ]
    ]
