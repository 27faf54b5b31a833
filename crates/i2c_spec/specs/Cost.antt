-- How many steps a transfer can take: this project's bound, from the walk of its locks and muxes.
use Rattle.std.specs.Prelude.{ℕ, Bool, true, false, ◌+◌, ◌*◌, nat_lt, List, [], ◌∷◌, length, if◌then◌else◌}
use Rattle.std.specs.List.{sum_by}
use Rattle.i2c_base.specs.declared.board.MuxKind.{MuxKind}
use Rattle.i2c_base.specs.declared.transfer.Msg.{Msg}
use Rattle.i2c_base.specs.Board.{BoardView}
use Rattle.i2c_base.specs.Muxes.{facts_of}
use Rattle.i2c_base.specs.Transfer.{TransferView, is_counted}
use Rattle.i2c_spec.specs.Tree.{Hop, hops, buses, locks_of}
use Rattle.i2c_spec.specs.Flat.{block_limit}

abbrev pub lock_steps : List Hop → ℕ
lock_steps hs = 2 * length (locks_of 0 hs)

-- behind a mux: a close, a select and a deselect of two steps each beside the job; an arbitrator is asked eight
-- times before it is switched; a gpio mux is switched by a line, so only its close can need more
abbrev pub behind_by : (by_line asks : Bool) → ℕ → ℕ → ℕ
behind_by true asks control job = 2 + control + job
behind_by false true control job = 11 * control + job
behind_by false false control job = 3 * control + job

abbrev pub behind_cost : MuxKind → ℕ → ℕ → ℕ
behind_cost k control job = behind_by (facts_of k).by_line (facts_of k).asks control job

-- a job behind a mux, by the steps of the locks, of a control message and of the job at the bus that it stands on
abbrev pub inner_behind : Hop → (locks control job : ℕ) → ℕ
inner_behind h locks control job = if h.parent then behind_cost h.kind control job else 3 * (locks + control) + (locks + job)

-- a job of x steps at the end of these hops
abbrev pub inner_cost : List Hop → ℕ → ℕ
inner_cost [] x = x
inner_cost (h ∷ hs) x =
    if h.parent then behind_cost h.kind (inner_cost hs 2) (inner_cost hs x)
    else 3 * (lock_steps hs + inner_cost hs 2) + (lock_steps hs + inner_cost hs x)

abbrev pub full_cost : List Hop → ℕ → ℕ
full_cost hs x = lock_steps hs + inner_cost hs x

-- the bytes of a message, a counted read's as many as the limit allows
abbrev pub bytes_of : ℕ → Msg → ℕ
bytes_of limit m = if is_counted m then limit + m.len else m.len

abbrev pub steps_of : BoardView → TransferView → ℕ
steps_of b t = length t.msgs + sum_by (bytes_of (block_limit b)) t.msgs

abbrev pub cost_of : BoardView → TransferView → ℕ
cost_of b t = if nat_lt t.bus (buses b) then 1 + full_cost (hops b t.bus) (steps_of b t) else 1
