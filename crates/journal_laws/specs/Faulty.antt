-- What port calls that fail leave behind: marks until a close, and cuts.
use Rattle.std.specs.Prelude.{◌≡◌, ℕ, Bool, true, false, not, ◌&&◌, ◌||◌, ◌==◌, ◌↔◌, List, [], ◌∷◌, ◌++◌, Option, Some}
use Rattle.i2c_base.specs.declared.errno.Errno.TheVariants.{Eremoteio}
use Rattle.i2c_base.specs.declared.entry.Entry.{Entry}
use Rattle.i2c_base.specs.declared.entry.Entry.TheVariants as entry
use Rattle.i2c_base.specs.declared.reply.Reply.TheVariants as reply
use Rattle.i2c_base.specs.declared.reply.Cut.TheVariants as cut
use Rattle.i2c_base.specs.Board.{BoardView}
use Rattle.i2c_spec.specs.Tree.{Hop, hops, IsAmongHops}
use Rattle.i2c_spec.specs.History.{Asks}
use Rattle.bus_spec.specs.Walk.{Act, Send, Shift, SwitchOff, Close, off_bus, off_mux, Note}
use Rattle.bus_spec.specs.Grammar.{is_over, first_act, first_note}
use Rattle.bus_spec.specs.Readings.{MessageEntry, of_message, is_call, caller_of, Everywhere}
use Rattle.bus_spec.specs.Past.{current, now}
use Rattle.journal_laws.specs.Counts.{is_failed}

-- MARKS. A step closes this mux on this bus
abbrev pub Closes : ℕ → ℕ → Option Act → Type 0
Closes p m (Some (Send (SwitchOff (Close on mux kind)) left)) = (on ≡ p) × (mux ≡ m)
Closes p m (Some (Shift (SwitchOff (Close on mux kind)))) = (on ≡ p) × (mux ≡ m)
Closes p m act = ⊥

-- .. or it deselects or closes it
abbrev pub SwitchesOff : ℕ → ℕ → Option Act → Type 0
SwitchesOff p m (Some (Send (SwitchOff off) left)) = (off_bus off ≡ p) × (off_mux off ≡ m)
SwitchesOff p m (Some (Shift (SwitchOff off))) = (off_bus off ≡ p) × (off_mux off ≡ m)
SwitchesOff p m act = ⊥

-- an entry after a past is such a step that was sent and didn't fail by the port
abbrev pub HasClosed : BoardView → Asks → ℕ → ℕ → Entry → List Entry → Type 0
HasClosed b asks p m e past = Closes p m (first_act (current b asks (now b asks past) (caller_of e))) × (is_failed e ≡ false)

abbrev pub HasSwitchedOff : BoardView → Asks → ℕ → ℕ → Entry → List Entry → Type 0
HasSwitchedOff b asks p m e past =
    SwitchesOff p m (first_act (current b asks (now b asks past) (caller_of e))) × (is_failed e ≡ false)

-- none of these entries after a past is such a close
abbrev pub NoneCloses : BoardView → Asks → ℕ → ℕ → List Entry → List Entry → Type 0
NoneCloses b asks p m [] past = Unit {0}
NoneCloses b asks p m (e ∷ later) past = (HasClosed b asks p m e (later ++ past) → ⊥) × NoneCloses b asks p m later past

-- a message goes through no mux on a bus
abbrev pub PassesBy : BoardView → ℕ → MessageEntry → Type 0
PassesBy b p m = (g : Hop) → IsAmongHops g (hops b m.bus) → g.on ≡ p → ⊥

-- CUTS. A step is on the way to its caller's messages: one of these themselves, or one of a close or a select that isn't on
-- the way of a deselect
abbrev pub is_on_way : Note → Entry → Bool
is_on_way note e = of_message false (λ m. is_call m.purpose) e || note.forward

-- since the caller's walk under way began, such a step failed by the port
abbrev pub failed_on_way : BoardView → Asks → List Entry → ℕ → Bool
failed_on_way b asks [] c = false
failed_on_way b asks (e ∷ past) c =
    not (is_over ((now b asks (e ∷ past)).walk c))
    && (((caller_of e == c) && (is_failed e && is_on_way (first_note (current b asks (now b asks past) c)) e)) || failed_on_way b asks past
    c)

-- a settle tells a cut, and the reply is EREMOTEIO, exactly where such a step of its transfer failed
abbrev pub CutAt : BoardView → Asks → Entry → List Entry → Type 0
CutAt b asks (entry.Settle c r told) past =
    ((told ≡ cut.No → ⊥) ↔ (failed_on_way b asks past c ≡ true)) × ((r ≡ reply.Err Eremoteio) ↔ (failed_on_way b asks past c ≡ true))
CutAt b asks e past = Unit {0}

abbrev pub KeepsCuts : BoardView → Asks → List Entry → Type 0
KeepsCuts b asks past = Everywhere (CutAt b asks) past
