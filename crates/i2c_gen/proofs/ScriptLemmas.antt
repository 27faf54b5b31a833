-- A script is in the grammar, is short, and costs little. The inductions go over its lines.
use Rattle.std.proofs.Common.{◌≡◌, ℕ, zero, suc, ◌+◌, ◌*◌, ◌^◌, ◌<◌, ◌≤◌, false, cond, leb, List, [], ◌∷◌, ◌++◌, length, map, Some, Result}
use Rattle.std.proofs.Common.{Ok, Err, IsOk, All, refl, sym, ap, subst, ◌∙◌, arith, mod-lt, mul-suc, length-append, codes, ◌/◌}
use Rattle.std.specs.Fmt.{decimal}
use Rattle.std.specs.List.{AllByRecursion, range_with_len, flat_map, sum_by}
use Rattle.std.proofs.lemmas.Bool.Decides.{nat_tests}
use Rattle.std.proofs.lemmas.Fmt.{length-decimal-le}
use Rattle.std.proofs.lemmas.List.{map_push}
use Rattle.std.proofs.lemmas.List.Elements.{All-push, All-from_recursion}
use Rattle.std.proofs.lemmas.List.FromFn.{length-range_with_len, map-range_with_len_more}
use Rattle.std.proofs.lemmas.List.Sums.{sum_by-cons}
use Rattle.i2c_base.specs.Board.{BoardView}
use Rattle.i2c_base.specs.Transfer.{TransferView}
use Rattle.i2c_spec.specs.Cost.{cost_of}
use Rattle.i2c_spec.specs.Flat.{block_limit}
use Rattle.tools.specs.Lines.{line_read}
use Rattle.tools.specs.Splits.{joined_words}
use Rattle.tools.specs.declared.command.Cmd.{Cmd}
use Rattle.caller_core.specs.Callers.{IsOpened}
use Rattle.caller_core.specs.Runs.{handles_behind}
use Rattle.caller_core.specs.Scripts.{Place, command_of, at_most, behind_commands, behind_line_read, lines_read, text_read, script_read}
use Rattle.caller_core.specs.Scripts.{commands_or_none, cost_of_script}
use Rattle.caller_core.specs.Turns.{command_talk, sum_of}
use Rattle.caller_core.specs.View.{CommandView, CallerView, script_on}
use Rattle.i2c_gen.specs.Boards.{bus_of, made_board}
use Rattle.i2c_gen.specs.Draws.{number_behind, draw}
use Rattle.i2c_gen.specs.Made.{AreMade}
use Rattle.i2c_gen.specs.Scripts.{IsPlan, line_by, line_of, script_of, scripts_of}
use Rattle.i2c_gen.specs.declared.plan.Plan.{Plan}
use Rattle.i2c_gen.proofs.CostLemmas.{bus_cost}
use Rattle.i2c_gen.proofs.LineLemmas.{words_by, cmd_by, AreInRange, line_by-words, words_line, command_line}
use Rattle.i2c_gen.proofs.WordLemmas.{ended_line, lines_of-flat_map}

-- ---- what is drawn for a line

abbrev pub root_at : Plan → ℕ → ℕ
root_at p n = draw p.seed (5 * n) p.roots

abbrev pub channel_at : Plan → ℕ → ℕ
channel_at p n = draw p.seed (5 * n + 1) 8

abbrev pub op_at : Plan → ℕ → ℕ
op_at p n = draw p.seed (5 * n + 2) 3

abbrev pub reg_at : Plan → ℕ → ℕ
reg_at p n = draw p.seed (5 * n + 3) 256

abbrev pub val_at : Plan → ℕ → ℕ
val_at p n = draw p.seed (5 * n + 4) 256

abbrev pub bus_at : Plan → ℕ → ℕ
bus_at p n = bus_of p.roots (root_at p n) (channel_at p n)

draw_below : (seed k many : ℕ) → 0 < many → draw seed k many < many
draw_below seed k many some = mod-lt (number_behind seed (suc k) / 2 ^ 33) some

module _ (p : Plan) (is : IsPlan p) (n : ℕ) where
  root_below : root_at p n < p.roots
  root_below = draw_below p.seed (5 * n) p.roots (omega (arith, is.some_root))

  channel_below : channel_at p n < 8
  channel_below = draw_below p.seed (5 * n + 1) 8 (omega arith)

  in_range : AreInRange (bus_at p n) (reg_at p n) (val_at p n)
  in_range =
      record {
        bus_is = near p.roots (root_at p n) (channel_at p n) is.most_roots root_below channel_below;
        reg_is = to_most (reg_at p n) (draw_below p.seed (5 * n + 3) 256 (omega arith));
        val_is = to_most (val_at p n) (draw_below p.seed (5 * n + 4) 256 (omega arith));
      }
    where
      near : (roots root channel : ℕ) → roots ≤ 8 → root < roots → channel < 8 → bus_of roots root channel ≤ 65535
      near roots root channel most r c = omega arith

      to_most : (k : ℕ) → k < 256 → k ≤ 255
      to_most k h = omega arith

-- ---- it is in the grammar

-- a line without its end, its command, and the command as it runs
abbrev pub line_at : Plan → ℕ → List ℕ
line_at p n = joined_words (words_by (op_at p n) (bus_at p n) (reg_at p n) (val_at p n))

abbrev pub cmd_at : Plan → ℕ → Cmd
cmd_at p n = cmd_by (op_at p n) (bus_at p n) (reg_at p n) (val_at p n)

abbrev pub command_at : Plan → ℕ → CommandView
command_at p n = command_of (made_board p.roots) [] (line_at p n) (cmd_at p n)

-- the lines of a caller
abbrev pub lines_from : Plan → (caller : ℕ) → List ℕ
lines_from p caller = range_with_len (caller * p.lines) p.lines

script_text : (p : Plan) (caller : ℕ) → script_of p caller ≡ flat_map (λ n. ended_line (line_at p n)) (lines_from p caller)
script_text p caller = λ i. flat_map (λ n. line_by-words (op_at p n) (bus_at p n) (reg_at p n) (val_at p n) i) (lines_from p caller)

-- lines that are read as commands which leave no handle
module _ (b : BoardView) (line : ℕ → List ℕ) (cmd : ℕ → Cmd) (read : (n : ℕ) → line_read (block_limit b) (line n) ≡ Ok (Some (cmd n)))
    (bare : (n : ℕ) → handles_behind b [] (cmd n) ≡ []) where
  abbrev command : ℕ → CommandView
  command n = command_of b [] (line n) (cmd n)

  lines_are_read : (ns : List ℕ) (number count : ℕ) → count + length ns ≤ 1000
      → lines_read b number count (map line ns) [] ≡ Ok (map command ns)
  lines_are_read [] number count h = refl
  lines_are_read (n ∷ ns) number count h =
      let few : leb 1000 count ≡ false = grind (arith, nat_tests) in
      let same : Result (List CommandView) Place = lines_read b (number + 1) count (map line ns) [] in
      let more = lines_read b (number + 1) (count + 1) (map line ns) in
      ap (λ r. behind_line_read b [] number (line n) (at_most count r) same more) (read n)
      ∙ ap (λ t. behind_line_read b [] number (line n) (cond t (Err 0) (Ok (Some (cmd n)))) same more) few
      ∙ ap (λ v. behind_commands (command n ∷ []) (more v)) (bare n)
      ∙ ap (behind_commands (command n ∷ [])) (lines_are_read ns (number + 1) (count + 1) (omega arith))

no_handle : (b : BoardView) (op bus reg val : ℕ) → handles_behind b [] (cmd_by op bus reg val) ≡ []
no_handle b zero bus reg val = refl
no_handle b (suc zero) bus reg val = refl
no_handle b (suc (suc op)) bus reg val = refl

pub script_is_read : (p : Plan) → IsPlan p → (caller : ℕ)
    → script_read (script_on (made_board p.roots) (script_of p caller)) ≡ Ok (map (command_at p) (lines_from p caller))
script_is_read p is caller =
    let b : BoardView = made_board p.roots in
    ap (text_read b) (script_text p caller)
    ∙ ap (λ ls. lines_read b 1 0 ls [])
    (lines_of-flat_map (line_at p) (λ n. words_line (op_at p n) (bus_at p n) (reg_at p n) (val_at p n) (in_range p is n))
    (lines_from p caller))
    ∙ lines_are_read b (line_at p) (cmd_at p) (λ n. command_line (op_at p n) (bus_at p n) (reg_at p n) (val_at p n) (in_range p is n))
    (λ n. no_handle b (op_at p n) (bus_at p n) (reg_at p n) (val_at p n)) (lines_from p caller) 1 0
    (omega (arith, is.most_lines, length-range_with_len (caller * p.lines) p.lines))

-- ---- it is cheap

one_cost : (f : TransferView → ℕ) (t : TransferView) (most : ℕ) → f t ≤ most → sum_by f (t ∷ []) ≤ most
one_cost f t most h = omega (arith, h)

module _ (roots root channel : ℕ) (some : 1 ≤ roots) (most : roots ≤ 8) (there : root < roots) (within : channel < 8) where
  -- the command of a line, and its one transfer
  abbrev run_by : (op reg val : ℕ) (line : List ℕ) → CommandView
  run_by op reg val line = command_of (made_board roots) [] line (cmd_by op (bus_of roots root channel) reg val)

  abbrev asked : (op reg val : ℕ) (line : List ℕ) → TransferView
  asked op reg val line = (command_talk (run_by op reg val line)).at 0

  command_cost : (op reg val : ℕ) (line : List ℕ) → sum_of (cost_of (made_board roots)) (run_by op reg val line) ≤ 125
  command_cost zero reg val line =
      one_cost (cost_of (made_board roots)) (asked zero reg val line) 125
      (bus_cost roots root channel some most there within (asked zero reg val line) refl (omega arith))
  command_cost (suc zero) reg val line =
      one_cost (cost_of (made_board roots)) (asked (suc zero) reg val line) 125
      (bus_cost roots root channel some most there within (asked (suc zero) reg val line) refl (omega arith))
  command_cost (suc (suc op)) reg val line =
      one_cost (cost_of (made_board roots)) (asked (suc (suc op)) reg val line) 125
      (bus_cost roots root channel some most there within (asked (suc (suc op)) reg val line) refl (omega arith))

-- a sum of terms that are bounded
sum_most : {X : Type 0} (f : X → ℕ) (g : ℕ → X) (most : ℕ) → ((n : ℕ) → f (g n) ≤ most) → (ns : List ℕ)
    → sum_by f (map g ns) ≤ most * length ns
sum_most f g most h [] = omega arith
sum_most f g most h (n ∷ ns) =
    omega (arith, sum_by-cons f (g n) (map g ns), h n, sum_most f g most h ns, mul-suc most (length ns))

script_cost : (p : Plan) → IsPlan p → (caller : ℕ) → cost_of_script (script_on (made_board p.roots) (script_of p caller)) ≤ 125000
script_cost p is caller =
    let cost = sum_of (cost_of (made_board p.roots)) in
    let each = λ (n : ℕ). command_cost p.roots (root_at p n) (channel_at p n) is.some_root is.most_roots (root_below p is n)
    (channel_below p is n) (op_at p n) (reg_at p n) (val_at p n) (line_at p n) in
    let all : sum_by cost (map (command_at p) (lines_from p caller)) ≤ 125 * length (lines_from p caller) =
    sum_most cost (command_at p) 125 each (lines_from p caller) in
    let read : cost_of_script (script_on (made_board p.roots) (script_of p caller)) ≡ sum_by cost
    (map (command_at p) (lines_from p caller)) =
    ap (λ r. sum_by cost (commands_or_none r)) (script_is_read p is caller) in
    bounded _ _ _ p.lines read all (length-range_with_len (caller * p.lines) p.lines) is.most_lines
  where
    bounded : (a b len lines : ℕ) → a ≡ b → b ≤ 125 * len → len ≡ lines → lines ≤ 1000 → a ≤ 125000
    bounded a b len lines e h same few = omega arith

pub scripts_cost : (p : Plan) → IsPlan p → sum_by (λ text. cost_of_script (script_on (made_board p.roots) text)) (scripts_of p) ≤ 1000000
scripts_cost p is =
    sum_most (λ text. cost_of_script (script_on (made_board p.roots) text)) (script_of p) 125000 (script_cost p is) (range_with_len 0 8)

-- ---- it is short

decimal_short : (n : ℕ) → n ≤ 65535 → length (decimal n) ≤ 5
decimal_short n h = length-decimal-le 5 n (omega arith) (omega arith) (omega arith)

behind_reg : (b m r e : List ℕ) → length (b ++ (m ++ (r ++ e))) ≡ length b + length m + length r + length e
behind_reg b m r e = omega (arith, length-append b (m ++ (r ++ e)), length-append m (r ++ e), length-append r e)

behind_val : (b m r s v e : List ℕ)
    → length (b ++ (m ++ (r ++ (s ++ (v ++ e))))) ≡ length b + length m + length r + length s + length v + length e
behind_val b m r s v e = omega (
  arith,
  length-append b (m ++ (r ++ (s ++ (v ++ e)))),
  length-append m (r ++ (s ++ (v ++ e))),
  behind_reg r s v e,
)

line_short : (op bus reg val : ℕ) → AreInRange bus reg val → length (line_by op bus reg val) ≤ 40
line_short zero bus reg val h =
    omega (
      arith,
      behind_reg (decimal bus) (codes " 0x50 ") (decimal reg) (codes "\n"),
      decimal_short bus h.bus_is,
      decimal_short reg (omega (arith, h.reg_is)),
    )
line_short (suc zero) bus reg val h =
    omega (
      arith,
      behind_val (decimal bus) (codes " 0x50 ") (decimal reg) (codes " ") (decimal val) (codes "\n"),
      decimal_short bus h.bus_is,
      decimal_short reg (omega (arith, h.reg_is)),
      decimal_short val (omega (arith, h.val_is)),
    )
line_short (suc (suc op)) bus reg val h =
    omega (arith, length-append (decimal bus) (codes " 0x48 0 w\n"), decimal_short bus h.bus_is)

lines_short : (line : ℕ → List ℕ) → ((n : ℕ) → length (line n) ≤ 40) → (ns : List ℕ) → length (flat_map line ns) ≤ 40 * length ns
lines_short line h [] = omega arith
lines_short line h (n ∷ ns) = omega (arith, length-append (line n) (flat_map line ns), h n, lines_short line h ns)

pub script_short : (p : Plan) → IsPlan p → (caller : ℕ) → length (script_of p caller) ≤ 2 ^ 28
script_short p is caller =
    let all : length (script_of p caller) ≤ 40 * length (lines_from p caller) =
    lines_short (line_of p) (λ n. line_short (op_at p n) (bus_at p n) (reg_at p n) (val_at p n) (in_range p is n)) (lines_from p caller) in
    omega (arith, all, length-range_with_len (caller * p.lines) p.lines, is.most_lines)

-- ---- all scripts, one after the other

pub script_ok : (p : Plan) → IsPlan p → (caller : ℕ) (b : BoardView) (text : List ℕ) → b ≡ made_board p.roots → text ≡ script_of p caller
    → IsOk (script_read (script_on b text))
script_ok p is caller b text board_is text_is =
    let read : script_read (script_on b text) ≡ Ok (map (command_at p) (lines_from p caller)) =
    (λ i. script_read (script_on (board_is i) (text_is i))) ∙ script_is_read p is caller in
    subst IsOk (sym read) refl

pub text_fits : (p : Plan) → IsPlan p → (caller : ℕ) (text : List ℕ) → text ≡ script_of p caller → length text ≤ 2 ^ 28
text_fits p is caller text e = subst (λ t. length t ≤ 2 ^ 28) (sym e) (script_short p is caller)

-- one script more is opened
own_text : (b : BoardView) (text : List ℕ) (s : CallerView) → IsOpened b text s → IsOpened b s.script.text s
own_text b text s h = record { board_is = h.board_is; text_is = refl; untaken = h.untaken }

pub opened_more : (b : BoardView) (ss new : List CallerView) (s : CallerView) (text : List ℕ) → new ≡ ss ++ s ∷ [] → IsOpened b text s
    → All (λ x. IsOpened b x.script.text x) ss → All (λ x. IsOpened b x.script.text x) new
opened_more b ss new s text e h all =
    subst (All (λ x. IsOpened b x.script.text x)) (sym e) (All-push (λ x. IsOpened b x.script.text x) ss s all (own_text b text s h))

pub texts_more : (p : Plan) (b : BoardView) (ss new : List CallerView) (s : CallerView) (text : List ℕ) (n : ℕ) → new ≡ ss ++ s ∷ []
    → IsOpened b text s → text ≡ script_of p n → map (λ x. x.script.text) ss ≡ map (script_of p) (range_with_len 0 n)
    → map (λ x. x.script.text) new ≡ map (script_of p) (range_with_len 0 (n + 1))
texts_more p b ss new s text n e h is so_far =
    ap (map (λ x. x.script.text)) e ∙ map_push (λ x. x.script.text) ss s
    ∙ (λ i. so_far i ++ (h.text_is ∙ is) i ∷ [])
    ∙ sym (map-range_with_len_more (script_of p) 0 n n (omega arith))

scripts_read : (p : Plan) → IsPlan p → (b : BoardView) → b ≡ made_board p.roots
    → All (λ text. IsOk (script_read (script_on b text))) (scripts_of p)
scripts_read p is b board_is =
    All-from_recursion (λ text. IsOk (script_read (script_on b text))) (scripts_of p) (each (range_with_len 0 8))
  where
    each : (ns : List ℕ) → AllByRecursion (λ text. IsOk (script_read (script_on b text))) (map (script_of p) ns)
    each [] = tt
    each (n ∷ ns) = (script_ok p is n b (script_of p n) board_is refl, each ns)

pub all_made : (p : Plan) → IsPlan p → (b : BoardView) (ss : List CallerView) (n : ℕ) → b ≡ made_board p.roots → n ≡ 8
    → All (λ x. IsOpened b x.script.text x) ss → map (λ x. x.script.text) ss ≡ map (script_of p) (range_with_len 0 n) → AreMade p b ss
all_made p is b ss n board_is all opened texts =
    record {
      board_is = board_is;
      opened = opened;
      texts = texts ∙ ap (λ k. map (script_of p) (range_with_len 0 k)) all;
      read = scripts_read p is b board_is;
      cheap = subst (λ (x : BoardView). sum_by (λ text. cost_of_script (script_on x text)) (scripts_of p) ≤ 1000000) (sym board_is)
          (scripts_cost p is);
    }
