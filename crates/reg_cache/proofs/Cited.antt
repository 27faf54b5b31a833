-- The names that several proofs of this crate cite, passed on from one place. Declares nothing.
pub use Rattle.std.proofs.Common.{◌≡◌, ℕ, ◌<◌, Bool, true, false, cond, eqb, map, List, [], ◌∷◌, ◌++◌, length, Option, Some, None, arith}
pub use Rattle.std.proofs.Common.{refl, sym, ◌∙◌, ap, subst, ◌⊎◌, inl, inr, zero, suc, ◌≤◌, ◌/◌, ◌%◌, ◌+◌, not, ◌&&◌, ◌||◌, ◌==◌, drop}
pub use Rattle.std.proofs.Common.{take}
pub use Rattle.std.proofs.Math.Bool.{or-true}
pub use Rattle.std.proofs.lemmas.Bool.{eq-eqb, eqb-true}
pub use Rattle.std.proofs.lemmas.Option.{slice_get-get_or}
pub use Rattle.std.specs.List.{AllByRecursion, list_any, filter, range_with_len, cons_option}
pub use Rattle.std.specs.Option.{option_and_then}
pub use Rattle.std.specs.Prelude.{is_some, slice_set, slice_get, filter_map}
pub use Rattle.i2c_base.proofs.Booleans.{and_first, and_last}
pub use Rattle.i2c_base.specs.Board.{BoardView, DeviceView}
pub use Rattle.i2c_base.specs.Need.{Covers}
pub use Rattle.i2c_base.specs.Replies.{reply_by}
pub use Rattle.i2c_base.specs.Transfer.{TransferView}
pub use Rattle.i2c_base.specs.declared.board.DeviceKind.{DeviceKind}
pub use Rattle.i2c_base.specs.declared.board.Size.{Size}
pub use Rattle.i2c_base.specs.declared.reply.Reply.{Reply}
pub use Rattle.i2c_base.specs.declared.transfer.Msg.{Msg}
pub use Rattle.dev_handle.specs.Handles.{HandlesView}
pub use Rattle.smb_emul.specs.Calls.{messages_of_call}
pub use Rattle.tools.specs.declared.command.Cmd.{Cmd}
pub use Rattle.tools.specs.declared.command.driver.lm75.RegName.{RegName}
pub use Rattle.tools.specs.declared.command.driver.lm75.RegName.TheVariants.{Temp, Hyst, Max}
pub use Rattle.tools.specs.declared.lists.Desc.{Desc}
pub use Rattle.tools.specs.declared.lists.DescOp.{DescOp}
pub use Rattle.i2c_drivers.specs.Bound.{eeprom_at, is_sensor, sensor_at}
pub use Rattle.i2c_drivers.specs.Lm75.{raw_of, swapped, read_call, write_call}
pub use Rattle.caller_core.specs.Callers.{owed_by}
pub use Rattle.caller_core.specs.Reach.{is_forced_in, addrs_of, is_write_to, writes_in}
pub use Rattle.caller_core.specs.Scripts.{asked_by, left_of}
pub use Rattle.caller_core.specs.View.{ScriptView, script_on}
pub use Rattle.cache_laws.specs.Cache.{pair_at, unknown, hit, known, all_of, with_hits, answered, learn_at}
pub use Rattle.cache_laws.specs.Order.{IsLowByte}
pub use Rattle.cache_laws.specs.declared.registers.Kept.{Kept}
pub use Rattle.reg_cache.specs.Cacheable.{Touches, Unforced, Texts, AreReaches, another_writes, SensorWrite, AsksTouch, Forced, SensorRead}
pub use Rattle.reg_cache.specs.Cacheable.{OtherDriver, is_cacheable}
pub use Rattle.reg_cache.specs.Cached.{CachedScript, CachedView, cached_asked, cached_on, cached, taken_of, IsCached, HasAnswered}
pub use Rattle.reg_cache.specs.Cached.{HasAnsweredAll}
