use Rattle.i2c_physics.proofs.Cited.{◌≡◌, ◌≤◌, Some, None, length, map, sym, refl, ◌∙◌, ap, subst, arith, IsSome, slice_get, length-map}
use Rattle.i2c_physics.proofs.Cited.{slice_get_past, own_device, without, device_of, state_at, taken_out}
use Rattle.std.proofs.Math.Seq.{map-set_same}
use Rattle.i2c_physics.proofs.TakeLemmas.{none-taken, one-taken, at-home, is-home}
use Rattle.i2c_physics.proofs.unplug.take_from.Goals as goal

pub returns-then-home-len-clause-value : goal.returns-then-home-len-clause-value
returns-then-home-len-clause-value g c =
    let ws = map (λ p. (g.P.Returned.port p).world) c.args.ports.now.items in
    let at : c.from-home.result ≡ c.args.home = c.from-home.ensures ∙ c.home.view_is in
    let past : length ws ≤ c.args.home = omega
    (arith, at, length-map c.args.ports.now.items (λ p. (g.P.Returned.port p).world), c.len.ensures, c.if-home-len.true) in
    ap (λ o. device_of o c.args.number) (sym (slice_get_past ws c.args.home past))

pub returns-then-home-len-clause-there : goal.returns-then-home-len-clause-there
returns-then-home-len-clause-there g c w there own =
    let ws = map (λ p. (g.P.Returned.port p).world) c.args.ports.now.items in
    let at : c.from-home.result ≡ c.args.home = c.from-home.ensures ∙ c.home.view_is in
    let past : length ws ≤ c.args.home = omega
    (arith, at, length-map c.args.ports.now.items (λ p. (g.P.Returned.port p).world), c.len.ensures, c.if-home-len.true) in
    let none : None ≡ Some w = sym (slice_get_past ws c.args.home past) ∙ there in
    absurd cc

pub returns-then-home-len-clause-logs : goal.returns-then-home-len-clause-logs
returns-then-home-len-clause-logs g c = refl

pub returns-then-home-len-clause-worlds : goal.returns-then-home-len-clause-worlds
returns-then-home-len-clause-worlds g c =
    let at : c.from-home.result ≡ c.args.home = c.from-home.ensures ∙ c.home.view_is in
    none-taken (λ p. (g.P.Returned.port p).world) c.args.ports.now.items c.args.home c.args.number (omega arith)

pub returns-clause-value : goal.returns-clause-value
returns-clause-value g c =
    let at : c.from-home.result ≡ c.args.home = c.from-home.ensures ∙ c.home.view_is in
    c.take_device.ensures.value ∙ ap (λ p. own_device (g.P.Returned.port p).world c.args.number) c.index_mut.ensures.value
    ∙ at-home (λ p. (g.P.Returned.port p).world) c.args.ports.now.items c.from-home.result c.args.number c.index_mut.result.now
    (omega arith)
    ∙ ap (λ h. state_at (map (λ p. (g.P.Returned.port p).world) c.args.ports.now.items) h c.args.number) at

pub returns-clause-there : goal.returns-clause-there
returns-clause-there g c w there own =
    let at : c.from-home.result ≡ c.args.home = c.from-home.ensures ∙ c.home.view_is in
    let same = ap (λ p. (g.P.Returned.port p).world) c.index_mut.ensures.value
    ∙ is-home (λ p. (g.P.Returned.port p).world) c.args.ports.now.items c.from-home.result c.index_mut.result.now w (omega arith)
    (ap (λ h. slice_get (map (λ p. (g.P.Returned.port p).world) c.args.ports.now.items) h) at ∙ there) in
    let some = c.take_device.ensures.has (rw same own) in
    subst IsSome (returns-clause-value g c) some

pub returns-clause-worlds : goal.returns-clause-worlds
returns-clause-worlds g c =
    let at : c.from-home.result ≡ c.args.home = c.from-home.ensures ∙ c.home.view_is in
    one-taken (λ p. (g.P.Returned.port p).world) c.args.ports.now.items c.from-home.result c.args.number c.index_mut.result.now
    c.take_device.new.self (omega arith)
    (c.take_device.ensures.world ∙ ap (λ p. without (g.P.Returned.port p).world c.args.number) c.index_mut.ensures.value)
    ∙ ap (λ h. taken_out (map (λ p. (g.P.Returned.port p).world) c.args.ports.now.items) h c.args.number) at

pub returns-clause-logs : goal.returns-clause-logs
returns-clause-logs g c =
    map-set_same (λ p. (g.P.Returned.port p).log) c.args.ports.now.items c.from-home.result c.take_device.new.self c.index_mut.result.now
    (c.take_device.ensures.log ∙ ap (λ p. (g.P.Returned.port p).log) c.index_mut.ensures.value)
