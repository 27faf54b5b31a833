-- A transfer message by message, in a root's world and in the flat world.
use Rattle.std.specs.Prelude.{◌≡◌, ℕ, ◌+◌, Bool, ◌&&◌, List, [], ◌∷◌, Option, slice_get, if◌then◌else◌}
use Rattle.i2c_base.specs.declared.entry.End.TheVariants as end
use Rattle.i2c_base.specs.Board.{BoardView}
use Rattle.i2c_spec.specs.Messages.{MessageView}
use Rattle.i2c_spec.specs.World.{World}
use Rattle.i2c_spec.specs.Flat.{FlatListener, FlatTold}
use Rattle.i2c_spec.specs.Conversation.{Listener, TalkTold, AllTold, talk, is_empty, is_good, with_read}
use Rattle.bus_laws.specs.Alike.{IsOf, Same}

-- so many messages of a transfer: `ends` says whether it ends with them
abbrev pub talk_part : {W : Type 0} → Listener W → ℕ → W → List MessageView → Bool → ℕ → (ℕ → Option ℕ) → List ℕ → AllTold W
talk_part l limit w [] ends i cuts got = record { bytes = got; now = w; end = end.Ok }
talk_part l limit w (m ∷ ms) ends i cuts got =
    let t : TalkTold _ = talk l limit w m (is_empty ms && ends) (cuts i) in
    if is_good t.end then talk_part l limit t.now ms ends (i + 1) cuts (with_read got m t)
    else record { bytes = with_read got m t; now = t.now; end = t.end }

-- one message more, unless one before it ended early
abbrev pub talk_more : {W : Type 0} → Listener W → ℕ → MessageView → Bool → Option ℕ → AllTold W → AllTold W
talk_more l limit m ends cut a =
    if is_good a.end
    then (let t : TalkTold _ = talk l limit a.now m ends cut in record { bytes = with_read a.bytes m t; now = t.now; end = t.end })
    else a

-- what is said of a transfer grows by one message of a root's world
pub record GrowsAlike (b : BoardView) (r : ℕ) (m : MessageView) (before : AllTold FlatListener) (t : TalkTold World)
    (all : AllTold FlatListener) : Type 0 where
  pub bytes : all.bytes ≡ with_read before.bytes m t
  pub end : all.end ≡ t.end
  pub now : Same b r t.now all.now

-- two transfers in the flat world have the same reply, and leave the same devices of a root
pub record FlatSame (b : BoardView) (r : ℕ) (x y : FlatTold) : Type 0 where
  pub reply : x.reply ≡ y.reply
  pub states : (d : ℕ) → IsOf b r d → slice_get x.states d ≡ slice_get y.states d
