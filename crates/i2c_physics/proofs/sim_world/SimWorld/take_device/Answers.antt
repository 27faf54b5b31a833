use Rattle.i2c_physics.proofs.Cited.{◌≡◌, ◌<◌, Bool, true, false, Some, None, length, set, refl, sym, ◌∙◌, ap, arith, if◌then◌else◌}
use Rattle.i2c_physics.proofs.Cited.{slice_get, length-set, World, Silent, state_table, wired_at, is_own, own_device, owns, without}
use Rattle.std.specs.Prelude.{slice_set}
use Rattle.i2c_physics.proofs.LineLemmas.{quiet-in-place}
use Rattle.i2c_physics.proofs.FeedLemmas.{world_of}
use Rattle.i2c_physics.proofs.OwnLemmas.{wired-own, own-low}
use Rattle.i2c_physics.proofs.TakeLemmas.{own-is, without-is}
use Rattle.i2c_physics.proofs.sim_world.SimWorld.take_device.Goals as goal

is_of_other : (c : goal.Then-not-is_wired) → owns c.args.self.now c.args.number ≡ false
is_of_other c =
    let s = c.self.inside in
    sym (ap (λ (w : World). owns w c.args.number) c.self.view_is)
    ∙ sym (wired-own s.board.value s.root s.device_places c.self.invariant.device_places c.args.number)
    ∙ ap (λ places. wired_at places c.args.number) (sym c.as_slice.ensures) ∙ sym c.is_wired.ensures ∙ c.if-not-is_wired.true

pub returns-then-not-is_wired-clause-value : goal.returns-then-not-is_wired-clause-value
returns-then-not-is_wired-clause-value c =
    let w = c.args.self.now in
    ap (λ (own : Bool). if own then slice_get w.devices c.args.number else None) (sym (is_of_other c))

pub returns-then-not-is_wired-clause-has : goal.returns-then-not-is_wired-clause-has
returns-then-not-is_wired-clause-has c = λ owned. sym (is_of_other c) ∙ owned

pub returns-then-not-is_wired-clause-after : goal.returns-then-not-is_wired-clause-after
returns-then-not-is_wired-clause-after c =
    let w = c.args.self.now in
    ap (λ (own : Bool). record w { devices = if own then slice_set w.devices c.args.number Silent else w.devices }) (sym (is_of_other c))

is_of_root : (c : goal.After-self-1) → is_own c.self.inside.board.value c.self.inside.root c.args.number ≡ true
is_of_root c =
    let s = c.self.inside in
    sym (wired-own s.board.value s.root s.device_places c.self.invariant.device_places c.args.number)
    ∙ ap (λ places. wired_at places c.args.number) (sym c.as_slice.ensures) ∙ sym c.is_wired.ensures ∙ c.if-not-is_wired.false

pub returns-clause-value : goal.returns-clause-value
returns-clause-value c =
    let s = c.self.inside in
    let seen = world_of s.board.value s.root s.chips.items s.devices.items s.chip_reach.hearing s.device_reach.hearing s.busy in
    ap Some (c.take.ensures.taken ∙ c.index_mut.ensures.value)
    ∙ sym (own-is seen c.args.number s.devices.items refl (is_of_root c) c.index_mut.result.now c.self.invariant.devices_are)
    ∙ ap (λ (w : World). own_device w c.args.number) c.self.view_is

pub returns-clause-after : goal.returns-clause-after
returns-clause-after c =
    let s = c.self.inside in
    let seen = world_of s.board.value s.root s.chips.items s.devices.items s.chip_reach.hearing s.device_reach.hearing s.busy in
    without-is seen c.args.number s.devices.items refl (is_of_root c) (set s.devices.items c.args.number c.take.new.self)
    (ap (λ d. set s.devices.items c.args.number d) c.take.ensures.after)
    ∙ ap (λ (w : World). without w c.args.number) c.self.view_is

pub invariant_of-self : goal.invariant_of-self
invariant_of-self c =
    let inv = c.self.invariant in
    let s = c.self.inside in
    let low : c.args.number < length s.devices.items = omega
    (arith, own-low s.board.value s.root s.board.value.devices c.args.number (is_of_root c), inv.devices_are) in
    record {
      plain = inv.plain;
      mux_places = inv.mux_places;
      device_places = inv.device_places;
      chips_are = inv.chips_are;
      devices_are = length-set s.devices.items c.args.number c.take.new.self ∙ inv.devices_are;
      chips_reached = inv.chips_reached;
      devices_reached = rw c.take.ensures.after
          (quiet-in-place state_table s.devices.items c.args.number Silent s.device_reach.started s.device_reach.hearing
          low (record { other = refl; stop = refl }) inv.devices_reached);
      reached_own = inv.reached_own;
    }

pub returns-clause-has : goal.returns-clause-has
returns-clause-has c = λ owned. refl
