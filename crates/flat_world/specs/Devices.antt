-- The devices during a transfer, each of those that it has named listed once.
use Rattle.std.specs.Prelude.{ℕ, ◌<◌, Bool, List, [], ◌∷◌, ◌++◌, Option, Some, None, slice_get, if◌then◌else◌, eqb}
use Rattle.std.specs.List.{AllByRecursion, IsDistinct}
use Rattle.std.specs.Option.{option_map_or}
use Rattle.i2c_base.specs.declared.event.Event.{Event}
use Rattle.i2c_base.specs.declared.event.Event.TheVariants as event
use Rattle.i2c_base.specs.declared.event.Answer.{Answer}
use Rattle.i2c_base.specs.declared.event.Answer.TheVariants as answer
use Rattle.i2c_base.specs.Table.{Table}
use Rattle.i2c_base.specs.declared.port.PortCall.{PortCall}
use Rattle.i2c_base.specs.declared.port.PortCall.TheVariants as call
use Rattle.i2c_base.specs.Limits.{MOST_DEVICES}
use Rattle.i2c_spec.specs.Targets.{state_table}
use Rattle.i2c_spec.specs.World.{feed, has_heard}
use Rattle.i2c_spec.specs.Conversation.{Listener}
use Rattle.i2c_spec.specs.Flat.{FlatListener, is_member, flat_start, flat_after, answer_of, flat_listener}
use Rattle.i2c_spec.specs.Conversation.{is_it}

-- one more device behind those that were named, where it isn't among them
abbrev pub add_once : Option ℕ → List ℕ → List ℕ
add_once None ds = ds
add_once (Some d) ds = if is_member d ds then ds else ds ++ d ∷ []

-- those that were named, newest first, each once and oldest first
abbrev pub once : List ℕ → List ℕ
once [] = []
once (d ∷ ds) = add_once (Some d) (once ds)

abbrev pub once_each : FlatListener → FlatListener
once_each f = record f { named = once f.named }

-- what the list of the named devices keeps
pub record AreNamed (ds : List ℕ) : Type 0 where
  pub once : IsDistinct eqb ds
  pub below : AllByRecursion (λ d. d < MOST_DEVICES) ds

-- an event for the targets of these numbers but for one
abbrev pub to_others : Option ℕ → List ℕ → Event → ℕ → Option Event
to_others o ds e k = if is_it o k then None else if is_member k ds then Some e else None

-- what the target of this number answers; nobody is silence
abbrev pub answer_in : {X : Type 0} → Table X → List X → Option ℕ → Event → Answer
answer_in t xs None e = answer.Nothing
answer_in t xs (Some d) e = option_map_or (λ x. t.answer x e) (slice_get xs d) answer.Nothing

-- after a start that leads to this device, or to nobody
abbrev pub started : Option ℕ → Bool → FlatListener → FlatListener
started granted reading f =
    record {
      states = feed state_table (flat_start granted f.named reading) 0 f.states;
      named = add_once granted f.named;
      current = if has_heard (answer_of f.states granted (event.Start reading)) then granted else None;
    }

abbrev pub once_after : (ℕ → Option ℕ) → FlatListener → PortCall → FlatListener
once_after granted f (call.Start a reading) = started (granted a) reading f
once_after granted f (call.Put byte) = flat_after granted f (call.Put byte)
once_after granted f (call.Get ack) = flat_after granted f (call.Get ack)
once_after granted f call.Stop = flat_after granted f call.Stop
once_after granted f call.Fault = flat_after granted f call.Fault
once_after granted f (call.Line m level) = flat_after granted f (call.Line m level)

-- the devices of the flat world, each that was named listed once
abbrev pub once_listener : (ℕ → Option ℕ) → Listener FlatListener
once_listener granted = record (flat_listener granted) { after = once_after granted }

-- after a start no call asks where an address leads
abbrev pub behind_start : Listener FlatListener
behind_start = once_listener (λ a. None)
