-- What a sink in memory holds, and what a write does to it.
use Rattle.std.specs.Prelude.{ℕ, ◌-◌, ◌==◌, Bool, List, length, min, if◌then◌else◌}
use Rattle.std.specs.List.{list_any}

pub record SinkView : Type 0 where
  pub bytes : List ℕ
  -- how many bytes it has room for
  pub size : ℕ
  -- the numbers of the writes that fail, the first write being 0
  pub fails : List ℕ
  -- how many writes were made, failed ones included
  pub writes : ℕ
  pub faults : ℕ

-- a call's number stands among those that fail
abbrev pub is_listed : List ℕ → ℕ → Bool
is_listed fails n = list_any (λ f. f == n) fails

-- how many bytes of a piece a write takes: as many as fit, and none where its number is listed
abbrev pub taken_of : SinkView → List ℕ → ℕ
taken_of s piece = if is_listed s.fails s.writes then 0 else min (length piece) (s.size - length s.bytes)
