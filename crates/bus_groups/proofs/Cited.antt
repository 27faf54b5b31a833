-- The names that several proofs of this crate cite, passed on from one place. Declares nothing.
pub use Rattle.std.proofs.Common.{◌≡◌, ℕ, zero, suc, ◌+◌, ◌<◌, ◌≤◌, eqb, Bool, true, false, cond, ◌&&◌, ◌||◌, List, [], ◌∷◌, ◌++◌, length}
pub use Rattle.std.proofs.Common.{map, get_or, fold, All, Some, None, refl, sym, ◌∙◌, ap, ap₂, subst, arith, inl, inr, true≢false, eqb-true}
pub use Rattle.std.proofs.Common.{eq-eqb, IsTrue, rules, take, drop, set, flat_map, Option, reverse, sum_by, ◌==◌, vec_capacity, vec_len}
pub use Rattle.std.proofs.lemmas.Bool.{ne_eqb}
pub use Rattle.std.proofs.lemmas.Bool.Decides.{eqb_tells}
pub use Rattle.std.proofs.lemmas.List.{length-map, get_or-map, map-append, length-set, length-append, append_assoc}
pub use Rattle.std.proofs.lemmas.List.Elements.{All-from_get_or, All-get_or}
pub use Rattle.std.proofs.lemmas.List.FromFn.{length-range_with_len, get_or-range_with_len, length-map-range_with_len}
pub use Rattle.std.proofs.lemmas.List.FromFn.{get_or-map-range_with_len}
pub use Rattle.std.proofs.lemmas.List.Sums.{sum_by-cons}
pub use Rattle.std.proofs.lemmas.Option.{get_or_from_slice_get}
pub use Rattle.std.specs.List.{range_with_len, list_any, AllZip}
pub use Rattle.std.specs.Prelude.{slice_get}
pub use Rattle.std.specs.Vec.Iter.{into_iter_items}
pub use Rattle.i2c_base.proofs.ListLemmas.{map_from, map_at, map_map}
pub use Rattle.i2c_base.specs.Board.{BoardView}
pub use Rattle.i2c_base.specs.declared.entry.Entry.{Entry}
pub use Rattle.i2c_base.specs.declared.reply.Reply.{Reply}
pub use Rattle.i2c_spec.specs.Plain.{IsPlainBoard}
pub use Rattle.i2c_spec.specs.Tree.{root_of}
pub use Rattle.i2c_spec.specs.TreeFacts.{IsTree}
pub use Rattle.bus_spec.specs.Readings.{caller_of}
pub use Rattle.group_laws.specs.Groups.{joined, ArePartsApart}
pub use Rattle.core_laws.specs.Table.{AreDistinct}
pub use Rattle.bus_core.specs.Kept.{roots_of}
pub use Rattle.bus_core.specs.Opens.{numbers_in, MayOpen}
pub use Rattle.bus_core.specs.Places.{script_at}
pub use Rattle.bus_core.specs.State.{CoreState, AllThrough, roots_in, has_caller}
pub use Rattle.bus_groups.specs.Homes.{names, names_home, lower, least_home, brought, homes_of, caller_home, AreByHomes}
pub use Rattle.bus_groups.specs.Rounds.{IsOpenedWith, AreLeftOf, MayRun}
pub use Rattle.bus_groups.specs.Shares.{of_home, parts_by, joined_by, cost_of_home}
pub use Rattle.bus_groups.specs.Slots.{HasRun, IsTold}
pub use Rattle.bus_groups.specs.Whole.{has_root, part_of, IsOfGroup, AreOfGroups, IsWhole}
pub use Rattle.bus_groups.specs.declared.rounds.Share.{Share}
