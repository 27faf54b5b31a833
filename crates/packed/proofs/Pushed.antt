-- Over the runs: one more at the end, with its bytes, leaves what the runs before it stand for.
use Rattle.std.proofs.Common.{◌≡◌, ℕ, List, [], ◌∷◌, ◌++◌, length, take, drop, arith, refl, sym, length-drop}
use Rattle.std.specs.List.{All}
use Rattle.std.proofs.lemmas.Grind.{common_steps}
use Rattle.std.proofs.lemmas.List.{drop-append-le, take-append-le, drop_at, take_all, map-append}
use Rattle.std.proofs.lemmas.List.Elements.{All-head, All-tail}
use Rattle.packed.specs.declared.packed.Run.{Run}
use Rattle.packed.specs.Unpacked.{unpacked, unpacked_run, IsWithin}

unpacked_run-more : {H : Type 0} (run : Run H) (bytes more : List ℕ) → IsWithin (length bytes) run
    → unpacked_run (bytes ++ more) run ≡ unpacked_run bytes run
unpacked_run-more run bytes more within = grind (arith, common_steps, drop-append-le, take-append-le, length-drop)

-- bytes after them leave what they stand for
unpacked-more : {H : Type 0} (runs : List (Run H)) (bytes more : List ℕ) → All (IsWithin (length bytes)) runs
    → unpacked (bytes ++ more) runs ≡ unpacked bytes runs
unpacked-more [] bytes more within = refl
unpacked-more (run ∷ runs) bytes more within =
    let here = unpacked_run-more run bytes more (All-head (IsWithin (length bytes)) run runs within) in
    let rest = unpacked-more runs bytes more (All-tail (IsWithin (length bytes)) run runs within) in
    cc

pub unpacked_push : {H : Type 0} (runs : List (Run H)) (run : Run H) (bytes more : List ℕ) → All (IsWithin (length bytes)) runs
    → run.start ≡ length bytes → run.len ≡ length more
    → unpacked (bytes ++ more) (runs ++ run ∷ []) ≡ unpacked bytes runs ++ (run.head, more) ∷ []
unpacked_push runs run bytes more within starts ends =
    let start : drop run.start (bytes ++ more) ≡ more = drop_at bytes more run.start (sym starts) in
    let all : take run.len more ≡ more = take_all run.len more (omega arith) in
    rw (map-append, unpacked-more runs bytes more within, start, all)
