-- Each journal is the one that play makes. That its callers are through, and that it follows its schedule, is computed.
use Rattle.journal_laws.proofs.Cited.{ℕ, ◌<◌, ◌++◌, [], ◌∷◌, reverse, refl, arith, now, played, transfers_of, IsDone}
use Rattle.std.proofs.Common.{replicate}
use Rattle.bus_spec.specs.Play.{none_fails, fails_at}
use Rattle.bus_spec.specs.Rows as row
use Rattle.journal_laws.proofs.worked.Boards.{mux-locked, parent-locked, keeping, absent-inner, absent-outer, chain, arbitrator}
use Rattle.journal_laws.proofs.worked.Boards.{three-beside, read-within}
use Rattle.journal_laws.proofs.worked.Checks.{only-one, only-two}
use Rattle.journal_laws.proofs.worked.Rows.{IsAskable, worked-out}
use Rattle.journal_laws.proofs.rows.the_worked_journals_keep_every_rule.Goals as goal

asked : (bus addr reg : ℕ) → reg < 256 → IsAskable (row.read bus addr reg)
asked bus addr reg small = (omega arith, read-within bus addr reg small)

pub returns : goal.returns
returns c =
    record {
      mux_locked = worked-out row.mux_locked c.an_accepted_board_is_a_tree.ensures mux-locked
          ((row.read 1 0x30 0 ∷ []) ∷ (row.read 0 0x20 5 ∷ []) ∷ [])
          (((asked 1 0x30 0 (omega arith)), tt), (((asked 0 0x20 5 (omega arith)), tt), tt))
          none_fails (replicate 4 0 ++ replicate 4 1 ++ replicate 9 0) refl row.mux_locked_journal
          c.a_mux_locked_read_lets_another_in.ensures
          (only-two (IsDone (transfers_of ((row.read 1 0x30 0 ∷ []) ∷ (row.read 0 0x20 5 ∷ []) ∷ []))
          (now row.mux_locked (transfers_of ((row.read 1 0x30 0 ∷ []) ∷ (row.read 0 0x20 5 ∷ []) ∷ []))
          (reverse row.mux_locked_journal))) (refl, refl) (refl, refl)) (replicate 4 0 ++ replicate 4 1) refl;
      parent_locked = worked-out row.parent_locked
          c.an_accepted_board_is_a_tree.ensures parent-locked ((row.read 1 0x30 0 ∷ []) ∷ (row.read 0 0x20 5 ∷ []) ∷ [])
          (((asked 1 0x30 0 (omega arith)), tt), (((asked 0 0x20 5 (omega arith)), tt), tt))
          none_fails (replicate 4 0 ++ replicate 4 1 ++ replicate 4 0 ++ replicate 4 1) refl row.parent_locked_journal
          c.a_parent_locked_read_lets_nobody_in.ensures
          (only-two (IsDone (transfers_of ((row.read 1 0x30 0 ∷ []) ∷ (row.read 0 0x20 5 ∷ []) ∷ []))
          (now row.parent_locked (transfers_of ((row.read 1 0x30 0 ∷ []) ∷ (row.read 0 0x20 5 ∷ []) ∷ []))
          (reverse row.parent_locked_journal))) (refl, refl) (refl, refl)) (replicate 4 0 ++ replicate 4 1) refl;
      absent_inner = worked-out row.absent_inner
          c.an_accepted_board_is_a_tree.ensures absent-inner ((row.read 9 0x20 0 ∷ []) ∷ []) (((asked 9 0x20 0 (omega arith)), tt), tt)
          none_fails (replicate 12 0) refl row.absent_inner_journal c.an_absent_inner_mux_settles_at_its_select.ensures
          (only-one (IsDone (transfers_of ((row.read 9 0x20 0 ∷ []) ∷ []))
          (now row.absent_inner (transfers_of ((row.read 9 0x20 0 ∷ []) ∷ [])) (reverse row.absent_inner_journal))) (refl, refl))
          ([]) refl;
      found_free = worked-out (row.arbitrator 7)
          c.an_accepted_board_is_a_tree.ensures (arbitrator 7 (omega arith)) ((row.read 1 0x20 5 ∷ []) ∷ [])
          (((asked 1 0x20 5 (omega arith)), tt), tt)
          none_fails (replicate 20 0) refl row.arbitrator_journal c.an_arbitrator_is_found_free_at_the_eighth_poll.ensures
          (only-one (IsDone (transfers_of ((row.read 1 0x20 5 ∷ []) ∷ []))
          (now (row.arbitrator 7) (transfers_of ((row.read 1 0x20 5 ∷ []) ∷ [])) (reverse row.arbitrator_journal))) (refl, refl))
          ([]) refl;
      held = worked-out (row.arbitrator 8)
          c.an_accepted_board_is_a_tree.ensures (arbitrator 8 (omega arith)) ((row.read 1 0x20 5 ∷ []) ∷ [])
          (((asked 1 0x20 5 (omega arith)), tt), tt)
          none_fails (replicate 20 0) refl row.held_journal c.a_held_arbitrator_is_given_up_after_eight_polls.ensures
          (only-one (IsDone (transfers_of ((row.read 1 0x20 5 ∷ []) ∷ []))
          (now (row.arbitrator 8) (transfers_of ((row.read 1 0x20 5 ∷ []) ∷ [])) (reverse row.held_journal))) (refl, refl)) ([]) refl;
      failed_deselect = worked-out row.parent_locked
          c.an_accepted_board_is_a_tree.ensures parent-locked ((row.read 1 0x30 0 ∷ row.read 2 0x31 0 ∷ []) ∷ [])
          (((asked 1 0x30 0 (omega arith)), ((asked 2 0x31 0 (omega arith)), tt)), tt)
          (fails_at 0 10) (replicate 20 0) refl row.failed_deselect_journal c.a_failed_deselect_is_mended_by_a_close.ensures
          (only-one (IsDone (transfers_of ((row.read 1 0x30 0 ∷ row.read 2 0x31 0 ∷ []) ∷ []))
          (now row.parent_locked (transfers_of ((row.read 1 0x30 0 ∷ row.read 2 0x31 0 ∷ []) ∷ []))
          (reverse row.failed_deselect_journal))) (refl, refl)) ([]) refl;
      failed_close = worked-out row.parent_locked
          c.an_accepted_board_is_a_tree.ensures parent-locked ((row.read 1 0x30 0 ∷ row.read 2 0x31 0 ∷ []) ∷ [])
          (((asked 1 0x30 0 (omega arith)), ((asked 2 0x31 0 (omega arith)), tt)), tt)
          row.fails_twice (replicate 20 0) refl row.failed_close_journal c.a_failed_close_fails_its_transfer.ensures
          (only-one (IsDone (transfers_of ((row.read 1 0x30 0 ∷ row.read 2 0x31 0 ∷ []) ∷ []))
          (now row.parent_locked (transfers_of ((row.read 1 0x30 0 ∷ row.read 2 0x31 0 ∷ []) ∷ [])) (reverse row.failed_close_journal)))
          (refl, refl)) ([]) refl;
      two_marks = worked-out row.absent_outer
          c.an_accepted_board_is_a_tree.ensures absent-outer ((row.read 9 0x20 0 ∷ row.read 9 0x20 0 ∷ []) ∷ [])
          (((asked 9 0x20 0 (omega arith)), ((asked 9 0x20 0 (omega arith)), tt)), tt)
          (fails_at 0 0) (replicate 20 0) refl row.two_marks_journal c.a_failed_way_marks_both_muxes.ensures
          (only-one (IsDone (transfers_of ((row.read 9 0x20 0 ∷ row.read 9 0x20 0 ∷ []) ∷ []))
          (now row.absent_outer (transfers_of ((row.read 9 0x20 0 ∷ row.read 9 0x20 0 ∷ []) ∷ [])) (reverse row.two_marks_journal)))
          (refl, refl)) ([]) refl;
      failed_way = worked-out row.chain c.an_accepted_board_is_a_tree.ensures chain
          ((row.read 13 0x40 0 ∷ []) ∷ []) (((asked 13 0x40 0 (omega arith)), tt), tt)
          (fails_at 0 18) (replicate 60 0) refl
          (played row.chain (transfers_of ((row.read 13 0x40 0 ∷ []) ∷ [])) (fails_at 0 18) (replicate 60 0)) refl
          (only-one (IsDone (transfers_of ((row.read 13 0x40 0 ∷ []) ∷ []))
          (now row.chain (transfers_of ((row.read 13 0x40 0 ∷ []) ∷ []))
          (reverse (played row.chain (transfers_of ((row.read 13 0x40 0 ∷ []) ∷ [])) (fails_at 0 18) (replicate 60 0))))) (refl, refl))
          ([]) refl;
      kept = worked-out (row.keeping row.parent) c.an_accepted_board_is_a_tree.ensures keeping
          ((row.read 1 0x30 0 ∷ row.read 1 0x30 0 ∷ row.read 2 0x31 0 ∷ []) ∷ [])
          (((asked 1 0x30 0 (omega arith)), ((asked 1 0x30 0 (omega arith)), ((asked 2 0x31 0 (omega arith)), tt))), tt)
          none_fails (replicate 24 0) refl row.kept_journal c.a_kept_channel_is_not_selected_again.ensures
          (only-one (IsDone (transfers_of ((row.read 1 0x30 0 ∷ row.read 1 0x30 0 ∷ row.read 2 0x31 0 ∷ []) ∷ []))
          (now (row.keeping row.parent) (transfers_of ((row.read 1 0x30 0 ∷ row.read 1 0x30 0 ∷ row.read 2 0x31 0 ∷ []) ∷ []))
          (reverse row.kept_journal))) (refl, refl)) ([]) refl;
      beside = worked-out row.three_beside c.an_accepted_board_is_a_tree.ensures three-beside
          ((row.read 1 0x30 0 ∷ row.read 9 0x31 0 ∷ row.read 13 0x32 0 ∷ row.read 1 0x30 0 ∷ row.read 9 0x30 0 ∷ []) ∷ []) (
            (
              (asked 1 0x30 0 (omega arith)),
              (
                (asked 9 0x31 0 (omega arith)),
                ((asked 13 0x32 0 (omega arith)), ((asked 1 0x30 0 (omega arith)), ((asked 9 0x30 0 (omega arith)), tt))),
              ),
            ),
            tt,
          )
          none_fails (replicate 40 0) refl row.beside_journal c.two_muxes_keep_their_channels.ensures
          (only-one (IsDone (transfers_of
          ((row.read 1 0x30 0 ∷ row.read 9 0x31 0 ∷ row.read 13 0x32 0 ∷ row.read 1 0x30 0 ∷ row.read 9 0x30 0 ∷ []) ∷ []))
          (now row.three_beside (transfers_of
          ((row.read 1 0x30 0 ∷ row.read 9 0x31 0 ∷ row.read 13 0x32 0 ∷ row.read 1 0x30 0 ∷ row.read 9 0x30 0 ∷ []) ∷ []))
          (reverse row.beside_journal))) (refl, refl)) ([]) refl;
      forgotten = worked-out (row.keeping row.parent) c.an_accepted_board_is_a_tree.ensures keeping
          ((row.read 1 0x30 0 ∷ row.read 2 0x31 0 ∷ row.read 1 0x30 0 ∷ []) ∷ [])
          (((asked 1 0x30 0 (omega arith)), ((asked 2 0x31 0 (omega arith)), ((asked 1 0x30 0 (omega arith)), tt))), tt)
          (fails_at 0 9) (replicate 30 0) refl row.forgotten_journal c.a_failed_select_forgets_the_channel.ensures
          (only-one (IsDone (transfers_of ((row.read 1 0x30 0 ∷ row.read 2 0x31 0 ∷ row.read 1 0x30 0 ∷ []) ∷ []))
          (now (row.keeping row.parent) (transfers_of ((row.read 1 0x30 0 ∷ row.read 2 0x31 0 ∷ row.read 1 0x30 0 ∷ []) ∷ []))
          (reverse row.forgotten_journal))) (refl, refl)) ([]) refl;
    }
