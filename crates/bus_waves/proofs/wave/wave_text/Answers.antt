use Rattle.std.proofs.lemmas.Result.{IfOk-weaker}
use Rattle.std.proofs.Common.{◌≡◌, ℕ, true, List, [], sym, ◌∙◌, ap, subst}
use Rattle.i2c_base.specs.Board.{BoardView}
use Rattle.i2c_spec.specs.World.{World, opening_world}
use Rattle.wire_spec.specs.Bus.{Bus}
use Rattle.wire_spec.specs.Sites.{NodeState}
use Rattle.i2c_bits.specs.Wiring.{Rooted}
use Rattle.i2c_bits.specs.PortViews.{BitPortView}
use Rattle.i2c_physics.specs.Shows.{ShowsCalls, are_quick, opened, shows}
use Rattle.bus_waves.specs.Levels.{both_high, levels_along, showing}
use Rattle.bus_waves.specs.Recordings.{AreSteps}
use Rattle.bus_waves.specs.Dumps.{dump_of}
use Rattle.bus_waves.specs.Readings.{reading, tells}
use Rattle.bus_waves.specs.Waves.{IsWave}
use Rattle.bus_waves.proofs.ReadLemmas.{levels_tell}
use Rattle.bus_waves.proofs.wave.wave_text.Goals as goal

-- the dump of the lines that a port is over
wave-of : (k : Rooted) (bus : Bus NodeState) (steps : List ℕ) → AreSteps k bus steps → (p : BitPortView) → ShowsCalls p
    → bus.seen ≡ p.seen → p.world.board ≡ k.board → p.world.root ≡ k.root → (text : List ℕ) → text ≡ dump_of k.root steps
    → IsWave k.board k.root p.log text
wave-of k bus steps made p shown same board root text is =
    let w : opened p ≡ opening_world k.board k.root =
    ap (λ (b : BoardView). opening_world b p.world.root) board ∙ ap (opening_world k.board) root in
    record {
      bus = bus;
      steps = steps;
      made = made;
      is_dump = is;
      shown = subst (λ (w : World). are_quick w p.log ≡ true → bus.seen ≡ shows w p.log []) w (λ quick. same ∙ shown.seen quick);
      read = subst (λ (w : World). are_quick w p.log ≡ true
          → (reading (showing both_high [] (levels_along k made.opened made.doings))).read ≡ tells w p.log []) w
          (levels_tell k bus steps made p shown same);
    }

pub returns-in-Some : goal.returns-in-Some
returns-in-Some c =
    IfOk-weaker c.dump_text.result _ _
    (λ text is root.
    let p = c.args.port.now in
    let lines = c.lines.result.now in
    let steps = c.in-Some.steps.now in
    let log = p.log in
    let board : lines.rooted.board ≡ p.world.board = ap (λ (w : World). w.board) c.lines.ensures.world in
    let number : lines.rooted.root ≡ c.args.root = ap (λ (w : World). w.root) c.lines.ensures.world ∙ root in
    subst (λ (b : BoardView). IsWave b c.args.root log text.items) board
    (subst (λ (r : ℕ). IsWave lines.rooted.board r log text.items) number
    (wave-of lines.rooted lines.bus steps c.in-Some.ensures p c.lines.ensures.shows c.lines.ensures.seen (sym board)
    (root ∙ sym number) text.items (is ∙ ap (λ (r : ℕ). dump_of r steps) (sym number)))))
    c.dump_text.ensures
