use denote.Param.Send.{sendable}
use Rattle.std.proofs.Common.{◌≡◌, ℕ, List, map, length, refl, sym, ◌∙◌, ap, subst}
use Rattle.std.specs.Prelude.{slice_get, unwrap_or}
use Rattle.i2c_base.proofs.ListLemmas.{map_at}
use Rattle.i2c_base.specs.Board.{BoardView}
use Rattle.i2c_base.specs.declared.port.PortCall.{PortCall}
use Rattle.i2c_spec.specs.World.{World, AreWorldsOf, devices_of}
use Rattle.i2c_bits.specs.PortViews.{BitPortView}
use Rattle.i2c_physics.proofs.SendLemmas.{wire_port-send}
use Rattle.bus_waves.specs.Waves.{IsWave}
use Rattle.bus_waves.proofs.SendLemmas.{recorded-send}
use Rattle.i2c_physics.specs.SimRigs.{kept_states, no_board, none_of}
use Rattle.i2c_top.proofs.CoreLemmas.{run-given-back}
use Rattle.i2c_lab.specs.Waves.{IsWaveAt}
use Rattle.i2c_lab.proofs.WaveLemmas.{at-ok, wave-on}
use Rattle.i2c_lab.proofs.waves.run_waves.Goals as goal

pub plugged-requires-send-R-P : goal.plugged-requires-send-R-P
plugged-requires-send-R-P c κs = search (sendable, wire_port-send, recorded-send)

pub run_ports-ports-requires-send-P : goal.run_ports-ports-requires-send-P
run_ports-ports-requires-send-P c κs = search (sendable, wire_port-send, recorded-send)

pub returns-clause-waved : goal.returns-clause-waved
returns-clause-waved c =
    let b = c.args.board.now in
    let ports : List BitPortView = c.run_ports-ports.result.ports.items in
    let worlds : List World = map (λ (p : BitPortView). p.world) ports in
    let rig = c.unplug.new.self in
    let text : List ℕ = c.in_ok-text.field-0.items in
    let at : IsWaveAt ports c.args.root text =
    subst (λ (ps : List BitPortView). IsWaveAt ps c.args.root text) c.as_slice.ensures.value c.in_ok-text.ensures in
    let over = at-ok _ _ c.in_ok-report.field-0 c.in_ok-report.was (c.run_ports-ports.ensures.run refl) in
    let same : unwrap_or c.plugged.new.rig.sim.room no_board ≡ b = c.in_ok-ports.ensures.board.1 in
    let logged : AreWorldsOf b worlds → rig.logs ≡ map (λ (p : BitPortView). p.log) ports =
    λ are. c.unplug.ensures.logs (subst (λ (k : BoardView). AreWorldsOf k worlds) (sym same) are) in
    let left : AreWorldsOf b worlds → kept_states rig.sim.kept ≡ devices_of b worlds =
    λ are. c.unplug.ensures.states (subst (λ (k : BoardView). AreWorldsOf k worlds) (sym same) are)
    ∙ ap (λ (k : BoardView). devices_of k worlds) same in
    record {
      report = c.in_ok-report.field-0;
      run = run-given-back _ b ports _ over rig.logs (kept_states rig.sim.kept) (none_of (length rig.logs)) logged left
          c.unplug.ensures.counts;
      log = at.port.log;
      its = ap (λ (ls : List (List PortCall)). slice_get ls c.args.root) (logged over.worlds)
          ∙ map_at (λ (p : BitPortView). p.log) ports c.args.root at.port at.at;
      wave = subst (λ (bytes : List ℕ). IsWave b c.args.root at.port.log bytes) (sym c.whole.ensures)
          (wave-on b ports c.args.root text c.requires.root over.worlds at);
    }
