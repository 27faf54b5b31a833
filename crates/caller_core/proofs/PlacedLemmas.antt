-- Commands with their words in one text: one more at the end leaves what stands before it.
use Rattle.caller_core.proofs.Cited.{◌≡◌, ℕ, List, [], ◌∷◌, ◌++◌, length, take, drop, arith, refl, sym, length-drop, common_steps}
use Rattle.caller_core.proofs.Cited.{drop-append-le, take_all, map-append, All-head, All-tail}
use Rattle.std.specs.List.{All}
use Rattle.std.proofs.lemmas.List.{take-append-le, drop_at}
use Rattle.caller_core.specs.Kept.{echo_in, commands_in, IsInside}
use Rattle.caller_core.specs.declared.commands.Placed.{Placed}

echo_in-more : (p : Placed) (bytes more : List ℕ) → IsInside (length bytes) p → echo_in (bytes ++ more) p ≡ echo_in bytes p
echo_in-more p bytes more within = grind (arith, common_steps, drop-append-le, take-append-le, length-drop)

commands_in-more : (ps : List Placed) (bytes more : List ℕ) → All (IsInside (length bytes)) ps
    → commands_in (bytes ++ more) ps ≡ commands_in bytes ps
commands_in-more [] bytes more within = refl
commands_in-more (p ∷ ps) bytes more within =
    let here = echo_in-more p bytes more (All-head (IsInside (length bytes)) p ps within) in
    let rest = commands_in-more ps bytes more (All-tail (IsInside (length bytes)) p ps within) in
    rw (here, rest) refl

pub commands_push : (ps : List Placed) (p : Placed) (bytes more : List ℕ) → All (IsInside (length bytes)) ps → p.start ≡ length bytes
    → p.len ≡ length more
    → commands_in (bytes ++ more) (ps ++ p ∷ []) ≡ commands_in bytes ps ++ record { echo = more; run = p.run } ∷ []
commands_push ps p bytes more within starts ends =
    let start : drop p.start (bytes ++ more) ≡ more = drop_at bytes more p.start (sym starts) in
    let all : take p.len more ≡ more = take_all p.len more (omega arith) in
    rw (map-append, commands_in-more ps bytes more within, start, all)
