-- What is known of a caller's next step before it is made, and of the steps that it has made.
use Rattle.std.specs.Prelude.{◌≡◌, ℕ, ◌<◌, ◌≤◌, Bool, List, Option, Some, None, is_some, slice_get, if◌then◌else◌}
use Rattle.i2c_base.specs.declared.ids.Node.{Node}
use Rattle.i2c_base.specs.declared.ids.Node.TheVariants as node
use Rattle.i2c_base.specs.declared.board.MuxKind.TheVariants.{Gpio}
use Rattle.i2c_base.specs.Board.{BoardView}
use Rattle.i2c_base.specs.Transfer.{TransferView}
use Rattle.i2c_spec.specs.Tree.{buses, root_of, of_mux, home_of_mux, addr_of_mux, is_absent}
use Rattle.i2c_spec.specs.Messages.{MessageView, messages_of}
use Rattle.i2c_spec.specs.World.{World, has_heard, hearers, answer}
use Rattle.i2c_spec.specs.Flat.{refusal, granted_on}
use Rattle.i2c_spec.specs.History.{Asks}
use Rattle.bus_spec.specs.Walk.{Job, Call, job_bus, message_of}
use Rattle.bus_spec.specs.Past.{Now}
use Rattle.bus_spec.specs.Tells.{heard_list}
use Rattle.bus_spec.specs.Legal.{starts}

-- a device that is granted hears a start where it answers Ack or Slow to it (UM10204 section 3.1.6)
abbrev pub heard_where : World → Bool → Option ℕ → Option Node
heard_where w reading None = None
heard_where w reading (Some d) = if starts (slice_get w.devices d) reading then Some (node.Device d) else None

-- who hears the start of a caller's message: the device that its bus and address grant, or nobody
abbrev pub who_hears : BoardView → World → ℕ → Bool → ℕ → Bool → Option Node
who_hears b w bus force addr reading = heard_where w reading (granted_on b bus force addr)

-- a caller's message that comes next is of the transfer that the caller asks for, and this is who will hear it
pub record WillReach (b : BoardView) (asks : Asks) (n : Now) (c bus : ℕ) (messages : List MessageView) (left : ℕ) : Type 0 where
  pub transfer : TransferView
  pub asked : asks c (n.settled c) ≡ Some transfer
  pub on_bus : transfer.bus ≡ bus
  pub whole : messages_of transfer ≡ messages
  pub not_refused : refusal b transfer ≡ None
  pub there : bus < buses b
  -- in the world of its root, and nobody else does
  pub heard : hearers (n.worlds (root_of b bus)) (message_of b (Call bus messages) left).addr
      (message_of b (Call bus messages) left).reading
      ≡ heard_list (who_hears b (n.worlds (root_of b bus)) bus transfer.force (message_of b (Call bus messages) left).addr
      (message_of b (Call bus messages) left).reading)
  -- the answer of the start tells whether somebody does
  pub answered : has_heard (answer (n.worlds (root_of b bus)) (message_of b (Call bus messages) left).addr
      (message_of b (Call bus messages) left).reading)
      ≡ is_some (who_hears b (n.worlds (root_of b bus)) bus transfer.force (message_of b (Call bus messages) left).addr
      (message_of b (Call bus messages) left).reading)

-- a mux that is there acknowledges its address
abbrev pub chip_where : BoardView → ℕ → Option Node
chip_where b m = if is_absent b m then None else Some (node.Chip m)

-- a control message that comes next is to its mux, and the mux alone will hear it, where it is there
pub record WillSwitch (b : BoardView) (n : Now) (job : Job) (left m : ℕ) : Type 0 where
  pub addressed : addr_of_mux b m ≡ Some (message_of b job left).addr
  -- in the world of its root
  pub heard : hearers (n.worlds (root_of b (job_bus job))) (message_of b job left).addr (message_of b job left).reading ≡ heard_list
      (chip_where b m)
  -- the answer of the start tells whether it does
  pub answered : has_heard (answer (n.worlds (root_of b (job_bus job))) (message_of b job left).addr (message_of b job left).reading) ≡
      is_some (chip_where b m)

-- a line step that comes next is of a gpio mux behind this root, to one of its own levels
pub record HasLineIn (b : BoardView) (root m level : ℕ) : Type 0 where
  pub is_gpio : of_mux (λ x. Some x.kind) None b m ≡ Some Gpio
  pub on_root : root_of b (home_of_mux b m) ≡ root
  pub within : level ≤ of_mux (λ x. x.channels) 0 b m
