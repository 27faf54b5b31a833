use Rattle.i2c_physics.proofs.Cited.{◌≡◌, length, map, ap, sym, subst, ◌∙◌, arith, length-map, BoardView, chip_table, chip_opening}
use Rattle.i2c_physics.proofs.Cited.{board_of, IsPlainBoard, state_table, opening_world, mux_place, device_place, opened_on}
use Rattle.i2c_physics.proofs.LineLemmas.{opened-reach, opened-is}
use Rattle.i2c_physics.proofs.OwnLemmas.{opened-own, opened-quiet}
use Rattle.i2c_physics.proofs.sim_world.SimWorld.open.Goals as goal

-- the layout is of the board that the world keeps
of_board : (c : goal.After-none-2) → board_of c.layout-layout.result ≡ c.of.result.value
of_board c = c.layout-layout.ensures.value ∙ c.board.ensures.value ∙ sym c.of.ensures

chips_are : (c : goal.After-none-2) → c.in_ok-chips.chips.items ≡ map chip_opening c.of.result.value.muxes
chips_are c = c.in_ok-chips.ensures ∙ ap (λ (b : BoardView). map chip_opening b.muxes) (of_board c)

states_are : (c : goal.After-none-2)
    → c.in_ok-devices.devices.items ≡ map (opened_on c.of.result.value c.args.root) c.of.result.value.devices
states_are c = c.in_ok-devices.ensures ∙ ap (λ (b : BoardView). map (opened_on b c.args.root) b.devices) (of_board c)

pub invariant_of-result : goal.invariant_of-result
invariant_of-result c =
    let plain : IsPlainBoard c.of.result.value = subst IsPlainBoard (c.board.ensures.value
    ∙ sym c.of.ensures) c.layout-layout.ensures.plain in
    let chips = chips_are c in
    let states = states_are c in
    record {
      plain = plain;
      mux_places = c.in_ok-mux_places.ensures ∙ ap (λ (b : BoardView). map (mux_place b c.args.root) b.muxes) (of_board c);
      device_places = c.in_ok-device_places.ensures ∙ ap (λ (b : BoardView). map (device_place b c.args.root) b.devices) (of_board c);
      chips_are = ap length chips ∙ length-map c.of.result.value.muxes chip_opening;
      devices_are = ap length states ∙ length-map c.of.result.value.devices (opened_on c.of.result.value c.args.root);
      chips_reached = opened-reach chip_table chip_opening _ _ _ _
          (omega (arith, plain.most_muxes)) chips c.openings_are_quiet.ensures.chips c.none.ensures.started c.none.ensures.hearing;
      devices_reached = opened-reach state_table (opened_on c.of.result.value c.args.root) _ _ _ _ plain.most_devices states
          (opened-quiet c.of.result.value c.args.root c.openings_are_quiet.ensures.devices) c.none-2.ensures.started
          c.none-2.ensures.hearing;
      reached_own = opened-own c.of.result.value c.args.root _ c.none-2.ensures.started;
    }

pub returns : goal.returns
returns c =
    opened-is c.of.result.value c.args.root _ _ _ _ (chips_are c) (states_are c) c.none.ensures.hearing c.none-2.ensures.hearing
    ∙ ap (λ b. opening_world b c.args.root) c.of.ensures
