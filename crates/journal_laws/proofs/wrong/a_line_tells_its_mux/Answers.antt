use Rattle.journal_laws.proofs.Cited.{false, ◌≡◌, ℕ, true, [], Option, Some, ap, arith, Act, Select, Shift, steps_in}
use Rattle.i2c_base.specs.declared.board.MuxKind.TheVariants.{Gpio}
use Rattle.bus_spec.specs.Rows as row
use Rattle.journal_laws.specs.Wrong.{line_asks, another_line, another_level}
use Rattle.journal_laws.proofs.past.Follow.{transfers-follow, level-told}
use Rattle.journal_laws.proofs.wrong.a_line_tells_its_mux.Goals as goal

-- the line step that comes next
abbrev shifts : Option Act
shifts = Some (Shift (Select (record { bus = 2; mux = 0; channel = 1; on = 0; parent = true; stays = false; kind = Gpio })))

pub returns : goal.returns
returns c =
    record {
      mux = λ callers legal.
          (let steps = transfers-follow row.gpio (line_asks 0) [] (steps_in row.gpio line_asks 0 another_line) (legal.walks 0) in
          let told = steps.1.1.0 in
          let f : 7 ≡ 0 = ap (λ (p : ℕ × ℕ). p.0) (level-told shifts told.0 7 0 told.1 told.2) in
          absurd (omega (arith, f)));
      level = λ callers legal.
          (let steps = transfers-follow row.gpio (line_asks 0) [] (steps_in row.gpio line_asks 0 another_level) (legal.walks 0) in
          let told = steps.1.1.0 in
          let f : 1 ≡ 2 = ap (λ (p : ℕ × ℕ). p.1) (level-told shifts told.0 0 1 told.1 told.2) in
          absurd (omega (arith, f)));
    }
