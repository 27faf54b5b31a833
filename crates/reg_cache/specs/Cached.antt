-- A script as a caller that answers its hits itself.
use Rattle.std.specs.Prelude.{◌≡◌, ◌<◌, ℕ, List, [], ◌∷◌, ◌++◌, length, map, Option, Some}
use Rattle.i2c_base.specs.Board.{BoardView}
use Rattle.i2c_base.specs.Need.{Need}
use Rattle.i2c_base.specs.Transfer.{TransferView}
use Rattle.i2c_base.specs.declared.reply.Reply.{Reply}
use Rattle.i2c_spec.specs.Fair.{IsFairCaller}
use Rattle.caller_core.specs.Callers as callers
use Rattle.caller_core.specs.Scripts as scripts
use Rattle.caller_core.specs.View.{ScriptView}
use Rattle.cache_laws.specs.declared.registers.Kept.{Kept}
use Rattle.cache_laws.specs.Cache.{Cached, hit, known, learned, stripped, all_of, with_hits, answered, asked_cached, left_cached, unknown}

-- what it is opened with: the script, and the devices that it may keep
pub record CachedScript : Type 0 where
  pub script : ScriptView
  pub devices : List ℕ

-- what is known of some devices
abbrev pub AllKept : Type 0
AllKept = List Kept

-- nothing is known of them
abbrev pub kept_of : CachedScript → List Kept
kept_of s = map (unknown s.script.board) s.devices

-- a script whose hits are filled in, by what it knows at first
abbrev pub cached_on : ScriptView → List Kept → Cached
cached_on s ks = record { asks = scripts.asked_by s; left = scripts.left_of s; kept = ks }

abbrev pub cached : CachedScript → Cached
cached s = cached_on s.script (kept_of s)

abbrev pub cached_board : CachedScript → BoardView
cached_board s = s.script.board

abbrev pub cached_asked : CachedScript → List Reply → Option TransferView
cached_asked s rs = asked_cached (cached s) rs

abbrev pub cached_left : CachedScript → List Reply → ℕ
cached_left s rs = left_cached (cached s) rs

abbrev pub cached_owed : CachedScript → List Reply → Need
cached_owed s rs = callers.owed_by s.script (answered (cached s) rs)

-- the replies that came over the bus, of all that its script took
abbrev pub taken_of : CachedScript → List Reply → List Reply
taken_of s full = stripped (scripts.asked_by s.script) (kept_of s) full

-- what it was opened with, the replies that it took, and the room that it has for more
pub record CachedView : Type 0 where
  pub script : CachedScript
  pub taken : List Reply
  pub spare : Need

-- its script has taken all replies, hits included, and it knows what they told
pub record IsCached (s : CachedScript) (full : List Reply) (kept : List Kept) : Type 0 where
  pub whole : answered (cached s) (taken_of s full) ≡ full
  pub knows : kept ≡ known (scripts.asked_by s.script) (kept_of s) full

-- where some device is kept, the transfer that the script asks for next is at hand
abbrev pub HoldsNext : ScriptView → List Reply → List Kept → TransferView → Type 0
HoldsNext s full kept held = 0 < length kept → (t : TransferView) → scripts.asked_by s full ≡ Some t → held ≡ t

-- one hit was answered
pub record HasAnswered (s : ScriptView) (before after : List Reply) (kept new : List Kept) : Type 0 where
  pub reply : Reply
  pub is_hit : hit kept (scripts.asked_by s before) ≡ Some reply
  pub taken : after ≡ before ++ reply ∷ []
  pub learns : new ≡ learned kept (scripts.asked_by s before) reply

-- all hits were: whatever was known at first
pub record HasAnsweredAll (s : ScriptView) (ks : List Kept) (before after : List Reply) (new : List Kept) : Type 0 where
  pub taken : after ≡ all_of (with_hits (cached_on s ks) before)
  pub knows : new ≡ known (scripts.asked_by s) ks after

abbrev pub CachedScriptsAreFair : Type 0
CachedScriptsAreFair = IsFairCaller cached_asked cached_left cached_board
