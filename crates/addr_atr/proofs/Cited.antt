-- The names that several proofs of this crate cite, passed on from one place. Declares nothing.
pub use Rattle.std.proofs.Common.{◌≡◌, ℕ, ◌+◌, ◌<◌, cond, not, ◌&&◌, List, [], ◌∷◌, ◌++◌, Some, sym, ◌∙◌, ap, arith, length, get_or, take}
pub use Rattle.std.proofs.Common.{drop, suc, ◌≤◌, Bool, true, false, ◌||◌, Option, None, refl, map, subst, zero, eqb, inl, reverse, ltb}
pub use Rattle.std.proofs.Common.{vec_capacity, vec_len}
pub use Rattle.std.proofs.lemmas.Bool.{lt-ltb, and_parts, eq-eqb, eqb-true}
pub use Rattle.std.proofs.lemmas.List.{drop_more, length-map, take_all}
pub use Rattle.std.proofs.lemmas.List.Elements.{All-map, All-head, All-tail}
pub use Rattle.std.specs.List.{list_any, list_all}
pub use Rattle.std.specs.Option.{option_map, option_map_or}
pub use Rattle.std.specs.Prelude.{All, slice_get, unwrap_or, codes}
pub use Rattle.toml.specs.Data.{get_member}
pub use Rattle.toml.specs.View.{table_view, view}
pub use Rattle.i2c_base.proofs.ListLemmas.{AreMade}
pub use Rattle.i2c_base.specs.Addr.{IsTargetAddress}
pub use Rattle.i2c_base.specs.Alias.{alias_of, readdressed, redirected}
pub use Rattle.i2c_base.specs.Board.{BoardView, DeviceView}
pub use Rattle.i2c_base.specs.Fitting.{Fits}
pub use Rattle.i2c_base.specs.Transfer.{TransferView, IsTransfer}
pub use Rattle.i2c_base.specs.declared.alias.AliasPair.{AliasPair}
pub use Rattle.i2c_base.specs.declared.board.MuxSpec.{MuxSpec}
pub use Rattle.i2c_base.specs.declared.reply.Cut.{Cut}
pub use Rattle.i2c_base.specs.declared.reply.Reply.{Reply}
pub use Rattle.i2c_base.specs.declared.transfer.Msg.{Msg}
pub use Rattle.i2c_base.specs.declared.tree.Grant.{Grant}
pub use Rattle.i2c_base.specs.declared.tree.Way.{Way}
pub use Rattle.i2c_spec.proofs.AddressLemmas.{tree_of}
pub use Rattle.i2c_spec.specs.Conversation.{TalkTold, AllTold, is_it, is_empty, is_good, with_read, talk, talk_all}
pub use Rattle.i2c_spec.specs.Cost.{cost_of}
pub use Rattle.i2c_spec.specs.Flat.{block_limit, FlatListener, flat_listener, FlatTold, flat}
pub use Rattle.i2c_spec.specs.Grant.{grant_of, way_of}
pub use Rattle.i2c_spec.specs.Messages.{MessageView}
pub use Rattle.i2c_spec.specs.Plain.{IsPlainBoard}
pub use Rattle.i2c_spec.specs.Rules.{MeetsRules}
pub use Rattle.i2c_spec.specs.Targets.{TargetState}
pub use Rattle.i2c_spec.specs.Tree.{Hop, hops, buses, root_of}
pub use Rattle.i2c_spec.specs.TreeFacts.{IsTree}
pub use Rattle.i2c_boardtext.specs.BoardText.{unless_fault}
pub use Rattle.i2c_boardtext.specs.Rows.{row_of, rows_of}
pub use Rattle.i2c_boardtext.specs.Rules.{table_fault}
pub use Rattle.i2c_boardtext.specs.Values.{elements_in}
pub use Rattle.addr_atr.specs.Lowering.{is_paired, are_distinct, may_translate, are_pairs_of, fault_after, lowered, sent_by, translated}
pub use Rattle.addr_atr.specs.Lowering.{AreAddresses, IsMap, moved, lowered_device, is_over, is_child, has_child, is_served}
pub use Rattle.addr_atr.specs.MapTexts.{rows_fault, top_rules, translator_rules, translator_value, pair_value, map_in, FailsRead}
pub use Rattle.addr_atr.specs.Maps.{TranslatorView, Route, route_of, pairs_of}
pub use Rattle.addr_atr.specs.declared.fault.MapFault.{MapFault}
