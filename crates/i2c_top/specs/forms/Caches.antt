-- `cached BOARD SCHEDULE SCRIPT...`, with 1 to 8 scripts: its words and files are those of a replay, and so is what the files say where it
-- ends with a status; and the report that it writes.
use Rattle.std.specs.Prelude.{◌≡◌, ℕ, ◌+◌, nat_le, Bool, ◌&&◌, IsTrue, List, ◌++◌, length, map, reverse, codes, Some}
use Rattle.std.specs.List.{enumerate_from}
use Rattle.std.specs.Str.{bytes_eq}
use Rattle.i2c_base.specs.declared.caller.Caller.{Ghosts as CallerGhosts}
use Rattle.i2c_base.specs.declared.port.PortCall.{PortCall}
use Rattle.i2c_base.specs.declared.reply.Reply.{Reply}
use Rattle.i2c_base.specs.Board.{BoardView}
use Rattle.i2c_base.specs.Limits.{MOST_CALLERS}
use Rattle.i2c_spec.specs.Targets.{TargetState}
use Rattle.bus_spec.specs.Schedule.{Follows}
use Rattle.tools.specs.Readers.{word_at}
use Rattle.caller_core.specs.View.{script_on}
use Rattle.cache_laws.specs.Cache.{answered, cached_asks}
use Rattle.cache_laws.specs.Order.{IsReplayed}
use Rattle.reg_cache.specs.Cached.{CachedScript, CachedView, cached_asked, cached_board, cached_left, cached_owed}
use Rattle.reg_cache.specs.Cacheable.{cacheable_devices, cached_texts, is_kept_by_some}
use Rattle.i2c_top.specs.Callers.{HasRunBy}
use Rattle.i2c_top.specs.Files.{Files}
use Rattle.i2c_top.specs.Form.{Form}
use Rattle.i2c_top.specs.Names.{are_names}
use Rattle.i2c_top.specs.Runs.{printed_by}
use Rattle.i2c_top.specs.Scripts.{texts_in, words_in}
use Rattle.i2c_top.specs.Traces.{RigView}
use Rattle.i2c_top.specs.forms.Replays.{Names, HasFiles, reading_form}

-- `cached`, and the names of a board, a schedule and at least one script, at most one for each caller
abbrev pub is_cached : List (List ℕ) → Bool
is_cached words =
    nat_le 4 (length words) && (nat_le (length words) (3 + MOST_CALLERS)
    && (bytes_eq (word_at words 0) (codes "cached") && are_names words))

-- ---- the callers

-- a cached script as a caller
abbrev pub cached_row : CallerGhosts CachedView CachedScript
cached_row = record {
  script = λ c. c.script;
  board = cached_board;
  taken = λ c. c.taken;
  asked = cached_asked;
  left = cached_left;
  owed = cached_owed;
  spare = λ c. c.spare;
}

-- what the callers of these texts are opened with: each with the sensors that it may keep
abbrev pub script_at : BoardView → List (List ℕ) → ℕ × List ℕ → CachedScript
script_at b texts p = record { script = script_on b p.1; devices = cacheable_devices b texts p.0 }

abbrev pub cached_scripts : BoardView → List (List ℕ) → List CachedScript
cached_scripts b texts = map (script_at b texts) (enumerate_from 0 texts)

-- ---- the report

-- each prints what its script prints of all replies, hits included
abbrev pub cached_printed : BoardView → List (List ℕ) → ℕ → List Reply → List ℕ
cached_printed b texts c rs = printed_by b texts c (answered (cached_texts b texts c) rs)

-- these bytes are the report of a run by the schedule of the scripts with just the hits left out; and the flat world that does the hits as
-- well, each directly before its caller's next transfer, gives just these replies and leaves the same devices but for pointers
pub record HasCachedRun (b : BoardView) (texts : List (List ℕ)) (words bytes : List ℕ) (logs : List (List PortCall))
    (states : List TargetState) (counts : List ℕ) : Type 0 where
  pub run : HasRunBy b (length texts) (cached_asks (cached_texts b texts)) (cached_printed b texts) (Follows words) bytes logs states counts
  pub replayed : IsReplayed b (cached_texts b texts) (is_kept_by_some b texts) (length texts) (reverse run.journal) states

-- the files are there, well formed and within the cost, and these bytes are the report of such a run of theirs
pub record HasCachedReport (file : Files) (names : Names) (bytes : List ℕ) (logs : List (List PortCall)) (states : List TargetState)
    (counts : List ℕ) : Type 0 where
  pub files : HasFiles file names
  pub words : List ℕ
  pub by : words_in file names.schedule (length names.scripts) files.texts.schedule ≡ Some words
  pub run : HasCachedRun files.texts.board.board (texts_in file names.scripts) words bytes logs states counts

-- the report was written after what stood there
pub record HasCached (file : Files) (names : Names) (before now : List ℕ) (logs : List (List PortCall)) (states : List TargetState)
    (counts : List ℕ) : Type 0 where
  pub bytes : List ℕ
  pub report : HasCachedReport file names bytes logs states counts
  pub written : now ≡ before ++ bytes

-- the report over a rig, where it and its ports tell what they did
abbrev pub IsCachedAnswer : Files → Names → RigView → List ℕ → Type 0
IsCachedAnswer file names rig text = IsTrue rig.tells → IsTrue rig.ports_tell → HasCachedReport file names text rig.logs rig.states rig.counts

-- THE ROW: the files are those of a replay; a success writes the report of such a run
abbrev pub cached_form : Names → Form
cached_form names = reading_form names IsCachedAnswer
