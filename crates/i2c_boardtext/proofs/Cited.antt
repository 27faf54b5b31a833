-- The names that several proofs of this crate cite, passed on from one place. Declares nothing.
pub use Rattle.std.proofs.Common.{◌≡◌, Bool, false, List, [], ◌∷◌, map, Some, option_map, refl, ap, ◌∙◌, sym, ℕ, true, ◌&&◌, ◌++◌, Option}
pub use Rattle.std.proofs.Common.{None, subst, ◌<◌, ◌≤◌, length, ◌+◌, drop, take, arith, Vec, Global, vec_capacity}
pub use Rattle.std.proofs.lemmas.Bool.{and_parts, false≢true}
pub use Rattle.std.proofs.lemmas.List.{length-append}
pub use Rattle.std.proofs.lemmas.List.Elements.{All-push}
pub use Rattle.std.proofs.lemmas.List.Folds.{list_all-map}
pub use Rattle.std.specs.List.{list_all}
pub use Rattle.std.specs.Option.{unwrap_or, is_some}
pub use Rattle.std.specs.Prelude.{codes, reverse, Result, Ok, Err, All}
pub use Rattle.toml.specs.Data.{Data, Members, get_member, as_table}
pub use Rattle.toml.specs.View.{view, table_view}
pub use Rattle.toml.specs.declared.value.Value.{Value}
pub use Rattle.i2c_base.specs.declared.board.MuxSpec.{MuxSpec}
pub use Rattle.i2c_base.specs.declared.board.RootSpec.{RootSpec}
pub use Rattle.i2c_spec.specs.Plain.{IsPlainMux, IsPlanted, IsPlainRun, IsPlainDevice}
pub use Rattle.i2c_spec.specs.Tree.{buses_of}
pub use Rattle.i2c_boardtext.specs.BoardText.{◌>>=◌, Fails, roots_of, muxes_of, devices_of, board_by_parts, each, placed, device_of, mux_of}
pub use Rattle.i2c_boardtext.specs.BoardText.{root_in_table}
pub use Rattle.i2c_boardtext.specs.Cuts.{cut_byte, cut_run, cut_runs_in}
pub use Rattle.i2c_boardtext.specs.Items.{items_in, elements}
pub use Rattle.i2c_boardtext.specs.Rows.{row_of, rows_of, IsOn}
pub use Rattle.i2c_boardtext.specs.Rules.{is_array_of, KeyRule, is_there, is_fit, are_listed, fits_if_there, key_rule, is_in, is_run}
pub use Rattle.i2c_boardtext.specs.Values.{elements_in, runs_in}
pub use Rattle.i2c_boardtext.specs.declared.fault.BoardFault.{BoardFault}
pub use Rattle.i2c_boardtext.specs.declared.fault.TableName.TheVariants.{Device, Mux, Root}
