use Rattle.i2c_board.proofs.Cited.{arith, board_of, hops, inner_small, locks_few}
use Rattle.i2c_board.proofs.layout.Layout.full_cost.Goals as goal

pub overflow_mul-result : goal.overflow_mul-result
overflow_mul-result c = omega (
  arith,
  c.requires.few,
  c.steps_at-steps.ensures.locks,
  locks_few 0
      (hops (board_of c.args.self.now) c.args.seg),
)

pub overflow_add-result : goal.overflow_add-result
overflow_add-result c =
    omega (
      arith,
      c.requires.few,
      c.steps_at-steps.ensures.locks,
      locks_few 0 (hops (board_of c.args.self.now) c.args.seg),
      c.steps_at-steps.ensures.job,
      inner_small (hops (board_of c.args.self.now) c.args.seg) 0 c.requires.few (omega arith),
    )

pub returns-clause-small : goal.returns-clause-small
returns-clause-small c =
    omega (
      arith,
      c.requires.few,
      c.steps_at-steps.ensures.locks,
      locks_few 0 (hops (board_of c.args.self.now) c.args.seg),
      c.steps_at-steps.ensures.job,
      inner_small (hops (board_of c.args.self.now) c.args.seg) 0 c.requires.few (omega arith),
    )
