-- The names that several proofs of this crate cite, passed on from one place. Declares nothing.
pub use Rattle.std.proofs.Common.{◌≡◌, ℕ, ◌+◌, ◌≤◌, Bool, false, IsTrue, List, [], ◌∷◌, ◌++◌, length, length-append, Option, Some, sym, ap}
pub use Rattle.std.proofs.Common.{subst, arith, inl, inr, suc, ◌-◌, ◌<◌, nat_lt, true, cond, get_or, refl, ◌∙◌, zero, None, rules}
pub use Rattle.std.proofs.lemmas.Bool.Decides.{nat_tests}
pub use Rattle.std.proofs.lemmas.Grind.{common_steps}
pub use Rattle.std.specs.Prelude.{take, drop, sum_by}
pub use Rattle.i2c_base.specs.Fitting.{count_of}
pub use Rattle.i2c_base.specs.Limits.{MOST_CALLS}
pub use Rattle.i2c_base.specs.Transfer.{TransferView, written_of}
pub use Rattle.i2c_base.specs.declared.entry.End.{End}
pub use Rattle.i2c_base.specs.declared.entry.Purpose.{Purpose}
pub use Rattle.i2c_base.specs.declared.port.Phase.{Phase}
pub use Rattle.i2c_base.specs.declared.port.PortCall.{PortCall}
pub use Rattle.i2c_base.specs.declared.transfer.Msg.{Msg}
pub use Rattle.i2c_spec.specs.Conversation.{Said, TalkTold, world_listener, with_byte, call_then, ended, puts, gets, talk}
pub use Rattle.i2c_spec.specs.Flat.{block_limit}
pub use Rattle.i2c_spec.specs.Messages.{MessageView, message_with, bytes_most}
pub use Rattle.i2c_spec.specs.Tree.{addr_of_mux}
pub use Rattle.i2c_spec.specs.World.{World, after, has_heard}
pub use Rattle.bus_spec.specs.Past.{cut_of}
pub use Rattle.bus_message.specs.Cursors.{CursorView}
pub use Rattle.bus_message.specs.Ports.{root_port}
pub use Rattle.bus_message.specs.Sends.{call_message, control_message, device_of, message_for}
pub use Rattle.bus_message.specs.Talks.{Reaches, TellsTalk, over_limit, ending, moving, getting, counting, putting}
