-- A block has at most 32 bytes, or more, but no more than 255, whatever the board.
use Rattle.std.proofs.Common.{ℕ, zero, suc, ◌≤◌, Bool, true, false, Some, None, cond, refl, arith}
use Rattle.std.specs.Prelude.{◌==◌, IsSome, unwrap_or}
use Rattle.i2c_base.specs.Board.{BoardView}
use Rattle.i2c_base.specs.Limits.{BLOCK_LIMIT, LARGEST_BLOCK, limit_of}
use Rattle.i2c_spec.specs.Flat.{block_limit}
use Rattle.i2c_spec.specs.Numbers.{IsFor, version_key}

-- a limit is that of the first version at least, and that of the largest block at most
pub record IsBlockLimit (limit : ℕ) : Type 0 where
  pub some : BLOCK_LIMIT ≤ limit
  pub few : limit ≤ LARGEST_BLOCK

by_version : (one two : Bool) → IsBlockLimit (unwrap_or (cond one (Some BLOCK_LIMIT) (cond two (Some LARGEST_BLOCK) None)) BLOCK_LIMIT)
by_version true two = record { some = omega arith; few = omega arith }
by_version false true = record { some = omega arith; few = omega arith }
by_version false false = record { some = omega arith; few = omega arith }

pub is_block_limit : (b : BoardView) → IsBlockLimit (block_limit b)
is_block_limit b = by_version (b.version == 1) (b.version == 2)

-- .. and each version that a board may have tells one
pub version_tells : (n : ℕ) → IsFor version_key n → IsSome (limit_of n)
version_tells zero is = absurd (omega (arith, is.0))
version_tells (suc zero) is = refl
version_tells (suc (suc zero)) is = refl
version_tells (suc (suc (suc n))) is = absurd (omega (arith, is.1))
