-- Journals that break a rule, each the newest entry first. The boards and entries are those of the worked examples.
use Rattle.std.specs.Prelude.{ℕ, false, true, List, [], ◌∷◌, ◌++◌, Some, None, reverse, take}
use Rattle.i2c_base.specs.declared.errno.Errno.TheVariants.{Enxio}
use Rattle.i2c_base.specs.declared.ids.Node.TheVariants.{Device, Chip}
use Rattle.i2c_base.specs.declared.reply.Cut.TheVariants as cut
use Rattle.i2c_base.specs.declared.reply.Reply.TheVariants as reply
use Rattle.i2c_base.specs.Board.{BoardView}
use Rattle.i2c_base.specs.declared.entry.Entry.{Entry}
use Rattle.i2c_base.specs.declared.entry.Entry.TheVariants as entry
use Rattle.i2c_base.specs.declared.entry.End.TheVariants as end
use Rattle.i2c_base.specs.declared.entry.Purpose.TheVariants as purpose
use Rattle.i2c_spec.specs.History.{Asks}
use Rattle.bus_spec.specs.Play.{transfers_of}
use Rattle.bus_spec.specs.Rows as row

-- what the callers ask for: a register of the root's device; one behind the mux; two, one after the other
abbrev pub one_asks : Asks
one_asks = transfers_of ((row.read 0 0x20 5 ∷ []) ∷ [])

abbrev pub deep_asks : Asks
deep_asks = transfers_of ((row.read 1 0x30 0 ∷ []) ∷ [])

abbrev pub two_asks : Asks
two_asks = transfers_of ((row.read 1 0x30 0 ∷ row.read 2 0x31 0 ∷ []) ∷ [])

-- the two messages of a register read
abbrev pub asks_register : ℕ → ℕ → ℕ → ℕ → ℕ → Entry
asks_register c bus addr reg d = entry.Message c bus purpose.Call 1 2 addr false (reg ∷ []) (Some (Device d)) end.Ok

abbrev pub reads_byte : ℕ → ℕ → ℕ → ℕ → ℕ → Entry
reads_byte c bus addr byte d = entry.Message c bus purpose.Call 2 2 addr true (byte ∷ []) (Some (Device d)) end.Ok

abbrev pub towards_the_leaves : List Entry
towards_the_leaves = row.take_mux 0 0 ∷ row.take_bus 0 ∷ []

abbrev pub taken_twice : List Entry
taken_twice = row.take_bus 1 ∷ row.take_bus 0 ∷ []

abbrev pub another_inside : List Entry
another_inside = reads_byte 0 0 0x20 0x7e 0 ∷ asks_register 1 0 0x20 5 0 ∷ asks_register 0 0 0x20 5 0 ∷ row.take_bus 0 ∷ []

abbrev pub settled_late : List Entry
settled_late = row.gave 0 0x7e ∷ row.free_bus 0 ∷ reads_byte 0 0 0x20 0x7e 0 ∷ asks_register 0 0 0x20 5 0 ∷ row.take_bus 0 ∷ []

abbrev pub another_before_the_settle : List Entry
another_before_the_settle = row.gave 0 0x7e ∷ row.take_mux 1 0 ∷ reads_byte 0 0 0x20 0x7e 0 ∷ asks_register 0 0 0x20 5 0 ∷ row.take_bus 0 ∷
    []

abbrev pub heard_on_a_closed_channel : List Entry
heard_on_a_closed_channel = asks_register 0 1 0x30 0 1 ∷ row.take_bus 0 ∷ row.take_mux 0 0 ∷ []

abbrev pub not_deselected : List Entry
not_deselected =
    row.free_bus 0 ∷ row.gave 0 0x11 ∷ reads_byte 0 1 0x30 0x11 1 ∷ asks_register 0 1 0x30 0 1
    ∷ row.control 0 0 0 0x70 1 ∷ row.take_bus 0 ∷ row.take_mux 0 0 ∷ []

-- a deselect failed, and the next transfer has taken its locks: no rule is broken yet
abbrev pub behind_a_failed_deselect : List Entry
behind_a_failed_deselect = reverse (take 11 row.failed_deselect_journal)

-- then the marked mux is sent this byte: 0 is its close, and any other selects channels
abbrev pub select_over_the_mark : ℕ → List Entry
select_over_the_mark byte = row.control 0 0 0 0x70 byte ∷ behind_a_failed_deselect

-- or the second channel is selected, and the transfer goes on, as if no mux were marked
abbrev pub mark_forgotten : List Entry
mark_forgotten =
    reverse (row.control 0 0 0 0x70 2 ∷ row.nobody 0 2 0x31 ++ row.control 0 0 0 0x70 0 ∷ row.free_bus 0 ∷ row.free_mux 0 0 ∷ [])
    ++ behind_a_failed_deselect

-- What an entry prints is not what was sent. The first device has the register that is read, and both messages are told
-- with the address and the name of the second
abbrev pub neighbours : BoardView
neighbours = row.board [] (row.regs 0 0x20 5 0x7e ∷ row.regs 0 0x21 5 0x11 ∷ [])

abbrev pub another_target : List Entry
another_target = reverse (row.take_bus 0 ∷ row.reads 0 0 0x21 5 0x7e 1 ++ row.free_bus 0 ∷ [])

-- nobody is at the address that is written to, and the message is told as a late part of another transfer, and a read
abbrev pub silent_asks : Asks
silent_asks = transfers_of ((row.read 0 0x21 5 ∷ []) ∷ [])

abbrev pub another_part : List Entry
another_part =
    reverse (row.take_bus 0 ∷ entry.Message 0 0 purpose.Call 7 9 0x33 true [] None end.Nack ∷ row.fails 0 Enxio cut.No ∷ row.free_bus 0 ∷
    [])

-- the first call of the port fails, and it is told as the last of nine parts, which has read a byte before
abbrev pub top_asks : Asks
top_asks = transfers_of ((row.read 0 0x20 255 ∷ []) ∷ [])

abbrev pub cut_at_another_part : List Entry
cut_at_another_part =
    reverse (row.take_bus 0 ∷ entry.Message 0 0 purpose.Call 9 9 0x20 false [] None (end.Cut 0)
    ∷ entry.Settle 0 (reply.Read (0 ∷ [])) (cut.At 8 0) ∷ row.free_bus 0 ∷ [])

-- a gpio mux is switched, and the line is told of another mux, with another level
abbrev pub line_asks : Asks
line_asks = transfers_of ((row.read 2 0x20 5 ∷ []) ∷ [])

abbrev pub another_line : List Entry
another_line =
    reverse (row.take_mux 0 0 ∷ row.take_bus 0 ∷ entry.Line 0 7 0 false ∷ row.reads 0 2 0x20 5 0x7e 0
    ++ entry.Line 0 0 0 false ∷ row.free_bus 0 ∷ row.free_mux 0 0 ∷ [])

-- .. or of the same mux, with another level
abbrev pub another_level : List Entry
another_level = entry.Line 0 0 1 false ∷ row.take_bus 0 ∷ row.take_mux 0 0 ∷ []

-- the write of a register's number is told as a read
abbrev pub another_direction : List Entry
another_direction = entry.Message 0 0 purpose.Call 1 2 0x20 true (5 ∷ []) (Some (Device 0)) end.Ok ∷ row.take_bus 0 ∷ []

-- Early unlock: the root's lock is free between the two messages of a register read
abbrev pub unlocked_early : List Entry
unlocked_early = row.gave 0 0x7e ∷ reads_byte 0 0 0x20 0x7e 0 ∷ row.take_bus 0 ∷ row.free_bus 0 ∷ asks_register 0 0 0x20 5 0 ∷ row.take_bus
    0 ∷ []

-- The select is joined to the caller's messages by a repeated start: the channel opens at the stop alone, and nobody
-- behind it hears the message
abbrev pub select_joined : List Entry
select_joined =
    reverse (row.take_mux 0 0 ∷ row.take_bus 0 ∷ entry.Message 0 0 (purpose.Control 0) 1 3 0x70 false (1 ∷ []) (Some (Chip 0)) end.Ok
    ∷ entry.Message 0 1 purpose.Call 2 3 0x30 false [] None end.Nack ∷ row.fails 0 Enxio cut.No ∷ [])

-- A mux-locked mux is held as a parent-locked one is: the root's lock isn't freed after the select
abbrev pub held_as_parent_locked : List Entry
held_as_parent_locked =
    reverse (row.take_mux 0 0 ∷ row.take_bus 0 ∷ row.control 0 0 0 0x70 1 ∷ row.reads 0 1 0x30 0 0x11 1
    ++ row.control 0 0 0 0x70 0 ∷ row.free_bus 0 ∷ row.free_mux 0 0 ∷ [])

-- The two callers of the mux-locked board are done one after the other, though the second could step in between
abbrev pub one_after_the_other : List Entry
one_after_the_other =
    row.take_mux 0 0 ∷ row.take_bus 0 ∷ row.control 0 0 0 0x70 1 ∷ row.free_bus 0 ∷ row.take_bus 0 ∷ row.reads 0 1 0x30 0 0x11 1
    ++ row.free_bus 0 ∷ row.take_bus 0 ∷ row.control 0 0 0 0x70 0 ∷ row.free_bus 0 ∷ row.free_mux 0 0
    ∷ row.take_bus 1 ∷ row.reads 1 0 0x20 5 0x7e 0 ++ row.free_bus 1 ∷ []

-- MUXES THAT STAY AS THEY ARE. The first channel is read behind, then the second, then the first again
abbrev pub kept_board : BoardView
kept_board = row.keeping row.parent

abbrev pub keep_asks : Asks
keep_asks = transfers_of ((row.read 1 0x30 0 ∷ row.read 2 0x31 0 ∷ row.read 1 0x30 0 ∷ []) ∷ [])

abbrev pub first_kept : List Entry
first_kept = row.take_mux 0 0 ∷ row.take_bus 0 ∷ row.control 0 0 0 0x70 1 ∷ row.reads 0 1 0x30 0 0x11 1 ++ row.free_bus 0 ∷ row.free_mux 0 0
    ∷ []

-- the second channel is kept, and the third transfer has taken its locks: no rule is broken yet. Then it sends its message,
-- as if the first channel were still kept
abbrev pub behind_another_channel : List Entry
behind_another_channel =
    reverse (first_kept ++ row.take_mux 0 0 ∷ row.take_bus 0 ∷ row.control 0 0 0 0x70 2 ∷ row.nobody 0 2 0x31 ++ row.free_bus 0 ∷
    row.free_mux 0 0
    ∷ row.take_mux 0 0 ∷ row.take_bus 0 ∷ [])

abbrev pub select_left_out : List Entry
select_left_out = entry.Message 0 1 purpose.Call 1 2 0x30 false [] None end.Nack ∷ behind_another_channel

-- the second select fails by the port, and the third transfer has taken its locks. It sends its message as if there were no
-- mark; or it closes the mux, and then sends it as if the first channel were still kept
abbrev pub behind_a_failed_select : List Entry
behind_a_failed_select = reverse (take 16 row.forgotten_journal)

abbrev pub kept_over_the_mark : List Entry
kept_over_the_mark = asks_register 0 1 0x30 0 1 ∷ behind_a_failed_select

abbrev pub kept_over_the_close : List Entry
kept_over_the_close = entry.Message 0 1 purpose.Call 1 2 0x30 false [] None end.Nack ∷ row.control 0 0 0 0x70 0 ∷ behind_a_failed_select

-- the same channel is read behind twice, and selected twice; or the mux is deselected after the first read
abbrev pub same_asks : Asks
same_asks = transfers_of ((row.read 1 0x30 0 ∷ row.read 1 0x30 0 ∷ []) ∷ [])

abbrev pub behind_the_kept_channel : List Entry
behind_the_kept_channel = reverse (first_kept ++ row.take_mux 0 0 ∷ row.take_bus 0 ∷ [])

abbrev pub selected_again : List Entry
selected_again = row.control 0 0 0 0x70 1 ∷ behind_the_kept_channel

abbrev pub deselected : List Entry
deselected = row.control 0 0 0 0x70 0 ∷ reverse (take 6 first_kept)
