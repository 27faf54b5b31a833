-- The lock words answer the looks of each walk as the journal does. No induction.
use Rattle.core_laws.proofs.Cited.{◌≡◌, ℕ, IsTrue, List, LockId, seen, now, slots_of, seen_of, Place, StandsAt, CoreKept, Run, Whole}
use Rattle.core_laws.proofs.LockWords.{seen-told}

pub looks-same : (run : Run) (whole : Whole) (core : CoreKept run whole) → IsTrue run.tells
    → (place : ℕ) (p : Place) (ls : List LockId) (n : ℕ) → StandsAt whole place p ls n
    → seen (now run.board run.asks whole.past).slot p.tree ≡ seen (slots_of (seen_of whole.locks)) p.tree
looks-same run whole core tell place p ls n stands =
    let told = (core.told tell).locks_told in
    seen-told run.board ls (now run.board run.asks whole.past).slot (seen_of whole.locks) told.mark told.kept core.table.home p.tree
    (core.seats place p ls n stands).holds
