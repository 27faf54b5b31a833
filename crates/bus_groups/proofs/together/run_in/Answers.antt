use Rattle.bus_groups.proofs.Cited.{◌≡◌, length, get_or, vec_len, subst, sym, ◌∙◌, ap, arith, AllZip, HasRun}
use Rattle.bus_groups.proofs.RoundLemmas.{zip-by, whole-again}
use Rattle.bus_groups.proofs.together.run_in.Goals as goal

pub returns : goal.returns
returns g c =
    let old = c.args.slots.items in
    let new = c.run_slots.new.slots in
    let value = c.as_mut_slice.ensures.value in
    let same : length new ≡ length old = c.run_slots.ensures.count ∙ ap length value in
    let len : vec_len c.args.slots ≡ length old = c.args.slots.ok.0 in
    let ran = zip-by (λ o n. HasRun g.C.Caller.asked g.P.Port.tells o.core n.core) old new same
    (λ i d low. subst (λ xs. HasRun g.C.Caller.asked g.P.Port.tells (get_or xs i d).core (get_or new i d).core) value
    (c.run_slots.ensures.run i d (let e = ap length value in omega (arith, low, e)))) in
    subst (λ xs. AllZip (λ o n. HasRun g.C.Caller.asked g.P.Port.tells o.core n.core) old xs)
    (sym (whole-again new old (vec_len c.args.slots) same len)) ran
