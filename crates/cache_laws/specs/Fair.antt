-- Cached callers beside those whose replies they fill in.
use Rattle.std.specs.Prelude.{⊤, ◌≡◌, ℕ, List, Option, None}
use Rattle.i2c_base.specs.declared.reply.Reply.{Reply}
use Rattle.i2c_base.specs.Board.{BoardView}
use Rattle.i2c_base.specs.Transfer.{TransferView}
use Rattle.i2c_spec.specs.Fair.{IsFairCaller}
use Rattle.cache_laws.specs.Cache.{Kept, Cached, known, hit, answered, asked_cached}

-- a caller whose replies are filled in, by what each script asks for, what is left of it and what is kept
abbrev pub cached_of : {S : Type 0} → (S → List Reply → Option TransferView) → (S → List Reply → ℕ) → (S → List Kept) → S → Cached
cached_of asked left kept s = record { asks = asked s; left = left s; kept = kept s }

-- one caller on a board is fair
abbrev pub IsFair : BoardView → (List Reply → Option TransferView) → (List Reply → ℕ) → Type 0
IsFair b asks left = IsFairCaller (λ (s : ⊤). asks) (λ s. left) (λ s. b)

-- no transfer that it asks for is a hit: all of them are left out
pub record LeavesHitsOut (x : Cached) : Type 0 where
  pub none : (rs : List Reply) → hit (known x.asks x.kept (answered x rs)) (asked_cached x rs) ≡ None
