-- Each list leaves the walk at a step, which isn't the next one there.
use Rattle.journal_laws.proofs.Cited.{Deed, ap, ◌≡◌, Some, None, Select, Take, Free, Send, Settle, walk-path}
use Rattle.i2c_base.specs.declared.ids.LockId.TheVariants as lock
use Rattle.i2c_base.specs.declared.errno.Errno.TheVariants.{Enxio, Enodev}
use Rattle.bus_spec.specs.Rows as row
use Rattle.journal_laws.specs.WalkRows as walk
use Rattle.journal_laws.proofs.walk_rows.these_are_no_walks.Goals as goal

pub returns : goal.returns
returns c =
    record {
      root_first = λ w. (let f : Take (lock.Bus 0) ≡ Take (lock.Mux 0) =
          ap (λ (d : Deed). d.act) ((walk-path row.parent_locked walk.deep walk.root_first w).0) in cc);
      unlocked_between = λ w. (let f : Free (lock.Bus 0) ≡ Send walk.call 0 =
          ap (λ (d : Deed). d.act) ((walk-path row.parent_locked walk.deep walk.unlocked_between w).1.1.1.1.1.1.0) in cc);
      freed_in_order = λ w. (let f : Free (lock.Mux 0) ≡ Free (lock.Bus 0) =
          ap (λ (d : Deed). d.act) ((walk-path row.parent_locked walk.deep walk.freed_in_order w).1.1.1.1.1.1.1.1.1.0) in cc);
      held_as_parent_locked = λ w. (walk-path row.mux_locked walk.deep walk.whole_walk w).1;
      close_left_out = λ w. (let f : Send (Select walk.hop) 0 ≡ Send walk.close 0 =
          ap (λ (d : Deed). d.act) ((walk-path row.parent_locked walk.deep walk.close_left_out w).1.1.1.0) in cc);
      over_a_failed_close = λ w. (let f : Send (Select walk.hop) 0 ≡ Free (lock.Bus 0) =
          ap (λ (d : Deed). d.act) ((walk-path row.parent_locked walk.deep walk.over_a_failed_close w).1.1.1.1.1.0) in cc);
      deselect_of_none = λ w. (let f : Send walk.deselect 0 ≡ Free (lock.Bus 0) =
          ap (λ (d : Deed). d.act) ((walk-path row.parent_locked walk.deep walk.deselect_of_none w).1.1.1.1.1.1.0) in cc);
      deselect_left_out = λ w. (let f : Free (lock.Bus 0) ≡ Send walk.deselect 0 =
          ap (λ (d : Deed). d.act) ((walk-path row.parent_locked walk.deep walk.deselect_left_out w).1.1.1.1.1.1.1.1.0) in cc);
      over_a_nack = λ w. (let f : Send walk.call 0 ≡ Settle (Some Enxio) =
          ap (λ (d : Deed). d.act) ((walk-path row.parent_locked walk.deep walk.over_a_nack w).1.1.1.1.1.1.0) in cc);
      settle_moved = λ w. (let f : Send walk.deselect 0 ≡ Settle None =
          ap (λ (d : Deed). d.act) ((walk-path row.parent_locked walk.deep walk.settle_moved w).1.1.1.1.1.1.1.0) in cc);
      refused = λ w. (let f : Take (lock.Mux 0) ≡ Settle (Some Enodev) =
          ap (λ (d : Deed). d.act) ((walk-path row.parent_locked walk.nowhere walk.whole_walk w).0) in cc);
    }
