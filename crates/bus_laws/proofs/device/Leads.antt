-- Who hears a start whose address leads to one device, or to none. No induction.
use Rattle.bus_laws.proofs.Cited.{◌≡◌, ℕ, ◌+◌, Bool, true, false, cond, [], ◌∷◌, Option, Some, None, eqb, refl, sym, ◌∙◌, ap, slice_get}
use Rattle.bus_laws.proofs.Cited.{option_map_or, Event, Answer, DeviceView, of_device, TargetState, state_table, state_answer, World}
use Rattle.bus_laws.proofs.Cited.{joins_device, start_event, device_start, start_devices, has_heard, heard_of, answer_of, listening}
use Rattle.bus_laws.proofs.Cited.{LeadsTo}
use Rattle.i2c_base.specs.declared.event.Event.TheVariants as event
use Rattle.i2c_base.specs.declared.event.Answer.TheVariants as answer
use Rattle.i2c_base.specs.declared.ids.Node.TheVariants as node
use Rattle.bus_laws.proofs.world.Feed.{hears, heard-none}
use Rattle.bus_laws.proofs.world.Reach.{start_heard, other_state}
use Rattle.bus_laws.proofs.device.Hears.{heard-alone, heard-missing}

-- what one device answers, where it is there
abbrev pub answer_at : Option TargetState → Event → Answer
answer_at o e = option_map_or (λ (x : TargetState). state_answer x e) o answer.Nothing

listens : (k : ℕ) (h : Bool) → cond h (node.Device k ∷ []) [] ≡ listening (cond h (Some k) None)
listens k true = refl
listens k false = refl

module _ (w : World) (a : ℕ) (granted : Option ℕ) (leads : LeadsTo w a granted) (reading : Bool) where
  hears_only : (d : ℕ) (x : TargetState) → hears state_table (device_start w a reading d) x ≡ true → granted ≡ Some d
  hears_only d x h =
      let g = start_heard state_table x (joins_device w d) (of_device (λ (y : DeviceView). eqb y.addr a) false w.board d) reading
      (other_state x) h in
      leads.found d g.0 g.1

  pub only_hears : (k : ℕ) → granted ≡ Some k → (i : ℕ) (x : TargetState) → slice_get w.devices i ≡ Some x
      → hears state_table (device_start w a reading i) x ≡ true → i ≡ k
  only_hears k e i x at h = (let g : Some i ≡ Some k = sym (hears_only i x h) ∙ e in cc)

  pub starts_at : (k : ℕ) → granted ≡ Some k → device_start w a reading k ≡ Some (event.Start reading)
  starts_at k e =
      ap (λ (j : Bool). start_event j (of_device (λ (y : DeviceView). eqb y.addr a) false w.board k) reading) (leads.joined k e)
      ∙ ap (λ (t : Bool). start_event true t reading) (leads.addressed k e)

  pub devices_heard : (o : Option ℕ) → granted ≡ o
      → heard_of node.Device (start_devices w a reading) ≡ listening (cond (has_heard (answer_of w.devices o (event.Start reading))) o None)
  devices_heard None e =
      heard-none state_table node.Device (device_start w a reading) 0 w.devices
      (λ i x at. silent (0 + i) x (hears state_table (device_start w a reading (0 + i)) x) refl)
    where
      silent : (n : ℕ) (x : TargetState) (t : Bool) → hears state_table (device_start w a reading n) x ≡ t → t ≡ false
      silent n x false h = refl
      silent n x true h = absurd (let g : None ≡ Some n = sym e ∙ hears_only n x h in cc)
  devices_heard (Some k) e = by (slice_get w.devices k) refl
    where
      by : (o : Option TargetState) → slice_get w.devices k ≡ o
          → heard_of node.Device (start_devices w a reading) ≡ listening
          (cond (has_heard (answer_at (slice_get w.devices k) (event.Start reading))) (Some k) None)
      by None at =
          heard-missing state_table (device_start w a reading) w.devices k (event.Start reading) (starts_at k e)
          (only_hears k e) node.Device at
          ∙ ap (λ (o : Option TargetState). listening (cond (has_heard (answer_at o (event.Start reading))) (Some k) None)) (sym at)
      by (Some x) at =
          heard-alone state_table (device_start w a reading) w.devices k (event.Start reading) (starts_at k e)
          (only_hears k e) node.Device x at
          ∙ listens k (has_heard (state_answer x (event.Start reading)))
          ∙ ap (λ (o : Option TargetState). listening (cond (has_heard (answer_at o (event.Start reading))) (Some k) None)) (sym at)
