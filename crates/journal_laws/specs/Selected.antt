-- Who selected each mux last, as a journal tells (Linux i2c-mux: a mux is selected, its messages are sent, it is deselected).
use Rattle.std.specs.Prelude.{◌≡◌, ℕ, ◌==◌, Bool, false, not, ◌&&◌, List, [], ◌∷◌, Option, Some, None, if◌then◌else◌}
use Rattle.i2c_base.specs.declared.entry.Entry.{Entry}
use Rattle.i2c_base.specs.declared.entry.Entry.TheVariants as entry
use Rattle.i2c_base.specs.Board.{BoardView}
use Rattle.i2c_spec.specs.Tree.{Hop, hops, IsAmongHops}
use Rattle.i2c_spec.specs.Conversation.{is_good}
use Rattle.i2c_spec.specs.History.{Asks}
use Rattle.bus_spec.specs.Walk.{Job, Call, Select, SwitchOff, off_mux, Act, Send, Shift}
use Rattle.bus_spec.specs.Grammar.{first_act}
use Rattle.bus_spec.specs.Readings.{OfMessage, of_message, caller_of, Everywhere}
use Rattle.bus_spec.specs.Past.{current, now}

-- the caller that selected a mux, and the hop that it selected
pub record Selected : Type 0 where
  pub caller : ℕ
  pub hop : Hop

-- a select that went through is the last one of its mux; a deselect or a close leaves none, whatever came of it
abbrev pub selected_after : Job → Bool → ℕ → ℕ → Option Selected → Option Selected
selected_after (Call bus messages) went caller m old = old
selected_after (Select h) went caller m old = if (h.mux == m) && went then Some (record { caller = caller; hop = h }) else old
selected_after (SwitchOff off) went caller m old = if off_mux off == m then None else old

-- .. by a message: the last one of a select switches its mux, and each before it is a poll
abbrev pub selected_sent : Option Act → Bool → ℕ → ℕ → Option Selected → Option Selected
selected_sent (Some (Send job left)) good caller m old = selected_after job (good && (left == 0)) caller m old
selected_sent act good caller m old = old

-- .. by a line step
abbrev pub selected_lined : Option Act → Bool → ℕ → ℕ → Option Selected → Option Selected
selected_lined (Some (Shift job)) failed caller m old = selected_after job (not failed) caller m old
selected_lined act failed caller m old = old

-- .. by any entry
abbrev pub selected_by : Option Act → Entry → ℕ → Option Selected → Option Selected
selected_by act (entry.Line caller mux level failed) m old = selected_lined act failed caller m old
selected_by act e m old = of_message old (λ x. selected_sent act (is_good x.end) x.caller m old) e

-- who selected a mux last, and with which hop, where no deselect or close of it came since
abbrev pub selected_left : BoardView → Asks → List Entry → ℕ → Option Selected
selected_left b asks [] m = None
selected_left b asks (e ∷ past) m = selected_by (first_act (current b asks (now b asks past) (caller_of e))) e m
    (selected_left b asks past m)

-- the mux of a hop is selected with this very hop, and one that disconnects when idle by this caller; a channel that is kept
-- may be another caller's select
pub record IsSelectedFor (b : BoardView) (asks : Asks) (past : List Entry) (caller : ℕ) (h : Hop) : Type 0 where
  pub by : ℕ
  pub selected : selected_left b asks past h.mux ≡ Some (record { caller = by; hop = h })
  pub own : h.stays ≡ false → by ≡ caller

-- at each message every mux on its way is selected for it
abbrev pub GoesThroughSelected : BoardView → Asks → List Entry → Type 0
GoesThroughSelected b asks past =
    Everywhere (λ e before. OfMessage (λ m. (h : Hop) → IsAmongHops h (hops b m.bus) → IsSelectedFor b asks before m.caller h) e) past
