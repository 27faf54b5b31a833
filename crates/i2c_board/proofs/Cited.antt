-- The names that several proofs of this crate cite, passed on from one place. Declares nothing.
pub use Rattle.std.proofs.Common.{◌≡◌, ℕ, nat_le, Bool, true, false, not, cond, ◌&&◌, ◌||◌, List, [], ◌∷◌, length, reverse, refl, sym, ap}
pub use Rattle.std.proofs.Common.{◌∙◌, ◌+◌, Some, None, arith, zero, suc, ◌<◌, subst, ◌≤◌, ◌==◌, ◌++◌, take, get_or, Option, slice_get, inl}
pub use Rattle.std.proofs.Common.{◌-◌, is_some, rules, sum_by}
pub use Rattle.std.proofs.lemmas.Bool.Decides.{nat_tests}
pub use Rattle.std.proofs.lemmas.Grind.{common_steps}
pub use Rattle.std.proofs.lemmas.List.{take_more, length-take-le, reverse-append, length-reverse, length-append}
pub use Rattle.std.proofs.lemmas.Option.{none-some, slice_get-get_or, same_Some}
pub use Rattle.std.specs.List.{list_any, filter}
pub use Rattle.std.specs.Prelude.{nat_lt}
pub use borrow.Author.Count.{below_more}
pub use Rattle.i2c_base.specs.Board.{BoardView, DeviceView}
pub use Rattle.i2c_base.specs.declared.board.MuxSpec.{MuxSpec}
pub use Rattle.i2c_base.specs.declared.tree.Grant.TheVariants.{Busy}
pub use Rattle.i2c_spec.proofs.CostLemmas.{locks_few, inner_small}
pub use Rattle.i2c_spec.proofs.PlainLemmas.{buses_le}
pub use Rattle.i2c_spec.proofs.TreeLemmas.{tree_root_hops}
pub use Rattle.i2c_spec.specs.Cost.{full_cost, bytes_of}
pub use Rattle.i2c_spec.specs.Flat.{block_limit}
pub use Rattle.i2c_spec.specs.Grant.{grant_of}
pub use Rattle.i2c_spec.specs.Plain.{IsPlainBoard}
pub use Rattle.i2c_spec.specs.Rules.{TellsBroken, IsFirstOne, NoPair, NoneOf, clashes, items, item_at, is_too_deep, is_locked_under}
pub use Rattle.i2c_spec.specs.Rules.{may_stay, stands_outside, breaks_idle, last_mux, locked_over, home_at, addr_at, some_below, is_shared}
pub use Rattle.i2c_spec.specs.Tree.{Hop, hops, hops_of, hop_at, buses_of, put_if, root_of, is_staying, stays_in, crosses_mux, is_kept_hop}
pub use Rattle.i2c_spec.specs.Tree.{is_aside, buses, is_below, over, is_parent, depth}
pub use Rattle.i2c_board.specs.Layouts.{board_of}
pub use Rattle.i2c_board.specs.Passes.{device_grant, grant_by, joined, channel_hops, hops_by_bus}
pub use Rattle.i2c_board.specs.Searches.{NoneAfter, is_at}
