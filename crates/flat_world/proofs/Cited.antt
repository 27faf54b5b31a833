-- The names that several proofs of this crate cite, passed on from one place. Declares nothing.
pub use Rattle.std.proofs.Common.{◌≡◌, ℕ, zero, suc, ◌+◌, ◌<◌, ◌≤◌, Bool, true, false, cond, not, ◌||◌, List, [], ◌∷◌, ◌++◌, length, take}
pub use Rattle.std.proofs.Common.{get_or, eqb, Option, Some, None, refl, sym, ap, ◌∙◌, inl, inr, arith, ◌-◌, nat_lt, length-append, subst}
pub use Rattle.std.proofs.Common.{drop}
pub use Rattle.std.proofs.lemmas.Bool.Decides.{eqb_tells, nat_tests}
pub use Rattle.std.proofs.lemmas.Grind.{common_steps}
pub use Rattle.std.proofs.lemmas.List.{at_drop_more, with_items_is}
pub use Rattle.i2c_base.specs.Board.{BoardView}
pub use Rattle.i2c_base.specs.Transfer.{IsMessage, size_of, written_of}
pub use Rattle.i2c_base.specs.declared.entry.End.{End}
pub use Rattle.i2c_base.specs.declared.event.Answer.{Answer}
pub use Rattle.i2c_base.specs.declared.port.PortCall.{PortCall}
pub use Rattle.i2c_base.specs.declared.transfer.Msg.{Msg}
pub use Rattle.i2c_spec.proofs.FeedLemmas.{feed-same}
pub use Rattle.i2c_spec.specs.Conversation.{is_it, Listener, Said, TalkTold, AllTold, silence, say, told, with_byte, talk, with_read}
pub use Rattle.i2c_spec.specs.Conversation.{talk_all, is_empty, is_good}
pub use Rattle.i2c_spec.specs.Flat.{FlatListener, is_member, flat_start, to_current, answer_of, barred, block_limit, idle, granted_on}
pub use Rattle.i2c_spec.specs.Flat.{cut_in, to_named}
pub use Rattle.i2c_spec.specs.Messages.{MessageView, message_with, messages_from}
pub use Rattle.i2c_spec.specs.Plain.{IsPlainBoard}
pub use Rattle.i2c_spec.specs.Targets.{TargetState, state_table}
pub use Rattle.i2c_spec.specs.World.{feed, has_heard}
pub use Rattle.flat_world.specs.Devices.{to_others, answer_in, once_listener, once, behind_start}
pub use Rattle.flat_world.specs.Sending.{all_with, all_of, puts, gets}
