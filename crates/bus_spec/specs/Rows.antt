-- Worked examples: small boards, and the journals that come of small scripts on them.
use Rattle.std.specs.Prelude.{ℕ, ◌==◌, ◌||◌, if◌then◌else◌, Bool, true, false, List, [], ◌∷◌, ◌++◌, Some, None, replicate}
use Rattle.std.specs.List.{filter}
use Rattle.i2c_base.specs.declared.board.RootSpec.{RootSpec}
use Rattle.i2c_base.specs.declared.board.MuxSpec.{MuxSpec}
use Rattle.i2c_base.specs.declared.board.MuxKind.{MuxKind}
use Rattle.i2c_base.specs.declared.board.MuxKind.TheVariants.{Pca9548, Pca9546, Pca9541, Gpio}
use Rattle.i2c_base.specs.declared.board.LockMode.{LockMode}
use Rattle.i2c_base.specs.declared.board.LockMode.TheVariants.{Parent, Mux}
use Rattle.i2c_base.specs.declared.board.Idle.TheVariants.{Disconnect, AsIs}
use Rattle.i2c_base.specs.declared.board.DeviceKind.TheVariants as kind
use Rattle.i2c_base.specs.declared.ids.LockId.TheVariants as lock
use Rattle.i2c_base.specs.declared.ids.Node.TheVariants.{Device, Chip}
use Rattle.i2c_base.specs.declared.entry.Entry.{Entry}
use Rattle.i2c_base.specs.declared.entry.Entry.TheVariants as entry
use Rattle.i2c_base.specs.declared.entry.End.TheVariants as end
use Rattle.i2c_base.specs.declared.entry.Purpose.TheVariants as purpose
use Rattle.i2c_base.specs.declared.errno.Errno.{Errno}
use Rattle.i2c_base.specs.declared.errno.Errno.TheVariants.{Ebusy, Enxio, Etimedout, Eremoteio}
use Rattle.i2c_base.specs.declared.reply.Reply.TheVariants as reply
use Rattle.i2c_base.specs.declared.reply.Cut.{Cut}
use Rattle.i2c_base.specs.declared.reply.Cut.TheVariants as cut
use Rattle.i2c_base.specs.declared.transfer.TransferKind.TheVariants as transfer_kind
use Rattle.i2c_base.specs.Board.{BoardView, DeviceView}
use Rattle.i2c_base.specs.Transfer.{TransferView, written, plain_read}
use Rattle.bus_spec.specs.Readings.{of_message, is_call, is_settle_of}
use Rattle.bus_spec.specs.Play.{Failing, played, transfers_of}

abbrev pub one_root : List RootSpec
one_root = (record { smbus_only = false }) ∷ []

abbrev pub mux : MuxKind → ℕ → ℕ → ℕ → LockMode → Bool → MuxSpec
mux kind bus addr channels lock absent =
    record { bus = bus; kind = kind; addr = Some addr; channels = channels; lock = lock; absent = absent; foreign = 0; idle = Disconnect }

-- a register device that holds this byte at this register
abbrev pub regs : ℕ → ℕ → ℕ → ℕ → DeviceView
regs bus addr reg byte =
    record { bus = bus; addr = addr; bound = false; kind = kind.Regs 0; set = (record { start = reg; bytes = byte ∷ [] }) ∷ [] }

abbrev pub board : List MuxSpec → List DeviceView → BoardView
board muxes devices = record { version = 1; roots = one_root; muxes = muxes; devices = devices }

-- one register device; a pca9548 and a device behind its first channel, in both lock modes
abbrev pub one_device : BoardView
one_device = board [] (regs 0 0x20 5 0x7e ∷ [])

abbrev pub two_devices : List DeviceView
two_devices = regs 0 0x20 5 0x7e ∷ regs 1 0x30 0 0x11 ∷ []

abbrev pub mux_locked : BoardView
mux_locked = board (mux Pca9548 0 0x70 8 Mux false ∷ []) two_devices

abbrev pub parent_locked : BoardView
parent_locked = board (mux Pca9548 0 0x70 8 Parent false ∷ []) two_devices

-- a second mux behind the first, whose chip is absent; then the first one absent as well in its place
abbrev pub absent_inner : BoardView
absent_inner = board (mux Pca9548 0 0x70 8 Parent false ∷ mux Pca9546 1 0x71 4 Parent true ∷ []) two_devices

abbrev pub absent_outer : BoardView
absent_outer = board (mux Pca9548 0 0x70 8 Parent true ∷ mux Pca9546 1 0x71 4 Parent false ∷ []) two_devices

-- three muxes in a chain
abbrev pub chain : BoardView
chain =
    board (mux Pca9548 0 0x70 8 Parent false ∷ mux Pca9546 1 0x71 4 Parent false ∷ mux Pca9546 9 0x72 4 Parent false ∷ [])
    (regs 0 0x20 5 0x7e ∷ regs 1 0x30 0 0x11 ∷ regs 13 0x40 0 0x22 ∷ [])

-- an arbitrator that is found with its other controller so often
abbrev pub arbitrator : ℕ → BoardView
arbitrator foreign =
    board ((record {
      bus = 0;
      kind = Pca9541;
      addr = Some 0x72;
      channels = 1;
      lock = Parent;
      absent = false;
      foreign = foreign;
      idle = Disconnect;
    }) ∷ [])
    (regs 1 0x20 5 0x7e ∷ [])

-- a gpio mux of two channels
abbrev pub gpio : BoardView
gpio =
    board ((record { bus = 0; kind = Gpio; addr = None; channels = 2; lock = Parent; absent = false; foreign = 0; idle = Disconnect }) ∷ [])
    (regs 2 0x20 5 0x7e ∷ [])

-- a register is read: the SMBus call Read Byte (SMBus 3.2 section 6.5.5)
abbrev pub read : ℕ → ℕ → ℕ → TransferView
read bus addr reg =
    record { bus = bus; kind = transfer_kind.Smbus; force = false; msgs = written addr 1 ∷ plain_read addr 1 ∷ []; out = reg ∷ [] }

-- entries, shortly
abbrev pub take_bus : ℕ → Entry
take_bus c = entry.Take c (lock.Bus 0)

abbrev pub free_bus : ℕ → Entry
free_bus c = entry.Free c (lock.Bus 0)

abbrev pub take_mux : ℕ → ℕ → Entry
take_mux c p = entry.Take c (lock.Mux p)

abbrev pub free_mux : ℕ → ℕ → Entry
free_mux c p = entry.Free c (lock.Mux p)

-- a control byte reaches the chip of a mux on a bus
abbrev pub control : ℕ → ℕ → ℕ → ℕ → ℕ → Entry
control c bus m addr byte = entry.Message c bus (purpose.Control m) 1 1 addr false (byte ∷ []) (Some (Chip m)) end.Ok

-- nobody acknowledges it
abbrev pub control_nack : ℕ → ℕ → ℕ → ℕ → Entry
control_nack c bus m addr = entry.Message c bus (purpose.Control m) 1 1 addr false [] None end.Nack

-- an arbitrator is asked
abbrev pub poll : ℕ → Entry
poll byte = entry.Message 0 0 (purpose.Control 0) 1 1 0x72 true (byte ∷ []) (Some (Chip 0)) end.Ok

-- the two messages of a register read that device d hears
abbrev pub reads : ℕ → ℕ → ℕ → ℕ → ℕ → ℕ → List Entry
reads c bus addr reg byte d =
    entry.Message c bus purpose.Call 1 2 addr false (reg ∷ []) (Some (Device d)) end.Ok
    ∷ entry.Message c bus purpose.Call 2 2 addr true (byte ∷ []) (Some (Device d)) end.Ok
    ∷ entry.Settle c (reply.Read (byte ∷ [])) cut.No ∷ []

abbrev pub nobody : ℕ → ℕ → ℕ → List Entry
nobody c bus addr =
    entry.Message c bus purpose.Call 1 2 addr false [] None end.Nack ∷ entry.Settle c (reply.Err Enxio) cut.No ∷ []

abbrev pub fails : ℕ → Errno → Cut → Entry
fails c e at = entry.Settle c (reply.Err e) at

-- A register is read on a root bus
abbrev pub one_read : List Entry
one_read = take_bus 0 ∷ reads 0 0 0x20 5 0x7e 0 ++ free_bus 0 ∷ []

-- Parent-locked: the whole chain is held from the select to the deselect, and the other caller waits
abbrev pub parent_locked_journal : List Entry
parent_locked_journal =
    take_mux 0 0 ∷ take_bus 0 ∷ control 0 0 0 0x70 1 ∷ reads 0 1 0x30 0 0x11 1
    ++ control 0 0 0 0x70 0 ∷ free_bus 0 ∷ free_mux 0 0
    ∷ take_bus 1 ∷ reads 1 0 0x20 5 0x7e 0 ++ free_bus 1 ∷ []

-- Mux-locked: the root's lock is free between select, message and deselect, and the other caller comes in between
abbrev pub mux_locked_journal : List Entry
mux_locked_journal =
    take_mux 0 0 ∷ take_bus 0 ∷ control 0 0 0 0x70 1 ∷ free_bus 0
    ∷ take_bus 1 ∷ reads 1 0 0x20 5 0x7e 0
    ++ free_bus 1 ∷ take_bus 0 ∷ reads 0 1 0x30 0 0x11 1
    ++ free_bus 0 ∷ take_bus 0 ∷ control 0 0 0 0x70 0 ∷ free_bus 0 ∷ free_mux 0 0 ∷ []

-- An absent inner mux: its select is not acknowledged, and the outer mux is closed on the way back
abbrev pub absent_inner_journal : List Entry
absent_inner_journal =
    take_mux 0 1 ∷ take_mux 0 0 ∷ take_bus 0 ∷ control 0 0 0 0x70 1 ∷ control_nack 0 1 1 0x71
    ∷ fails 0 Enxio cut.No ∷ control 0 0 0 0x70 0 ∷ free_bus 0 ∷ free_mux 0 0 ∷ free_mux 0 1 ∷ []

-- An arbitrator is asked until it is found free; eight times at most
abbrev pub arbitrator_journal : List Entry
arbitrator_journal =
    take_mux 0 0 ∷ take_bus 0 ∷ replicate 7 (poll 1) ++ poll 0 ∷ control 0 0 0 0x72 1 ∷ reads 0 1 0x20 5 0x7e 0
    ++ control 0 0 0 0x72 0 ∷ free_bus 0 ∷ free_mux 0 0 ∷ []

abbrev pub held_journal : List Entry
held_journal =
    take_mux 0 0 ∷ take_bus 0 ∷ replicate 8 (poll 1) ++ fails 0 Etimedout cut.No ∷ free_bus 0 ∷ free_mux 0 0 ∷ []

-- A gpio mux is switched by its line
abbrev pub gpio_journal : List Entry
gpio_journal =
    take_mux 0 0 ∷ take_bus 0 ∷ entry.Line 0 0 2 false ∷ reads 0 2 0x20 5 0x7e 0
    ++ entry.Line 0 0 0 false ∷ free_bus 0 ∷ free_mux 0 0 ∷ []

-- The deselect of the first transfer fails at its third call, so the second one closes the mux first
abbrev pub failed_deselect_journal : List Entry
failed_deselect_journal =
    take_mux 0 0 ∷ take_bus 0 ∷ control 0 0 0 0x70 1 ∷ reads 0 1 0x30 0 0x11 1
    ++ entry.Message 0 0 (purpose.Control 0) 1 1 0x70 false (0 ∷ []) (Some (Chip 0)) (end.Cut 2) ∷ free_bus 0 ∷ free_mux 0 0
    ∷ take_mux 0 0 ∷ take_bus 0 ∷ control 0 0 0 0x70 0 ∷ control 0 0 0 0x70 2 ∷ nobody 0 2 0x31
    ++ control 0 0 0 0x70 0 ∷ free_bus 0 ∷ free_mux 0 0 ∷ []

abbrev pub fails_twice : Failing
fails_twice r k = if r == 0 then (k == 10) || (k == 11) else false

-- Where the close fails too, at its start, the transfer fails on the way
abbrev pub failed_close_journal : List Entry
failed_close_journal =
    take_mux 0 0 ∷ take_bus 0 ∷ control 0 0 0 0x70 1 ∷ reads 0 1 0x30 0 0x11 1
    ++ entry.Message 0 0 (purpose.Control 0) 1 1 0x70 false (0 ∷ []) (Some (Chip 0)) (end.Cut 2) ∷ free_bus 0 ∷ free_mux 0 0
    ∷ take_mux 0 0 ∷ take_bus 0 ∷ entry.Message 0 0 (purpose.Control 0) 1 1 0x70 false [] None (end.Cut 0)
    ∷ fails 0 Eremoteio cut.Way ∷ free_bus 0 ∷ free_mux 0 0 ∷ []

-- Two marks: the select of the outer mux fails, and marks both muxes; the second transfer closes the outer one, which
-- nobody acknowledges, and its select fails, so that the inner one isn't closed
abbrev pub two_marks_journal : List Entry
two_marks_journal =
    take_mux 0 1 ∷ take_mux 0 0 ∷ take_bus 0 ∷ entry.Message 0 0 (purpose.Control 0) 1 1 0x70 false [] None (end.Cut 0)
    ∷ fails 0 Eremoteio cut.Way ∷ free_bus 0 ∷ free_mux 0 0 ∷ free_mux 0 1
    ∷ take_mux 0 1 ∷ take_mux 0 0 ∷ take_bus 0 ∷ control_nack 0 0 0 0x70 ∷ control_nack 0 0 0 0x70
    ∷ fails 0 Enxio cut.No ∷ free_bus 0 ∷ free_mux 0 0 ∷ free_mux 0 1 ∷ []

-- a plain transfer writes a byte to one device, and reads two from an address where nobody is; one byte is received (SMBus 3.2
-- section 6.5.3)
abbrev pub write_and_read : ℕ → ℕ → ℕ → ℕ → TransferView
write_and_read bus addr reg silent =
    record { bus = bus; kind = transfer_kind.Plain; force = false; msgs = written addr 1 ∷ plain_read silent 2 ∷ []; out = reg ∷ [] }

abbrev pub receive : ℕ → ℕ → TransferView
receive bus addr = record { bus = bus; kind = transfer_kind.Smbus; force = false; msgs = plain_read addr 1 ∷ []; out = [] }

-- A message that went through before one that nobody acknowledges has had its effect
abbrev pub effect_journal : List Entry
effect_journal =
    take_bus 0 ∷ entry.Message 0 0 purpose.Call 1 2 0x20 false (5 ∷ []) (Some (Device 0)) end.Ok
    ∷ entry.Message 0 0 purpose.Call 2 2 0x21 true [] None end.Nack ∷ fails 0 Enxio cut.No ∷ free_bus 0
    ∷ take_bus 1 ∷ entry.Message 1 0 purpose.Call 1 1 0x20 true (0x7e ∷ []) (Some (Device 0)) end.Ok
    ∷ entry.Settle 1 (reply.Read (0x7e ∷ [])) cut.No ∷ free_bus 1 ∷ []

-- a read that went through
abbrev pub gave : ℕ → ℕ → Entry
gave c byte = entry.Settle c (reply.Read (byte ∷ [])) cut.No

-- what a journal says of the settles of caller 0, and the bytes of the messages that switch muxes, each in order
abbrev pub settles : List Entry → List Entry
settles journal = filter (is_settle_of 0) journal

abbrev pub switched : List Entry → List (List ℕ)
switched [] = []
switched (e ∷ rest) = of_message [] (λ m. if is_call m.purpose then [] else m.bytes ∷ []) e ++ switched rest

-- A register behind a parent-locked mux is read twice, and one call of the port fails
abbrev pub two_reads : Failing → List Entry
two_reads fails = played parent_locked (transfers_of ((read 1 0x30 0 ∷ read 1 0x30 0 ∷ []) ∷ [])) fails (replicate 20 0)

-- a mux that stays as it is: it is read behind twice, and then another channel; two of them on one bus beside one that
-- disconnects
abbrev pub as_is : MuxKind → ℕ → ℕ → ℕ → LockMode → MuxSpec
as_is kind bus addr channels lock = record (mux kind bus addr channels lock false) { idle = AsIs }

abbrev pub parent : LockMode
parent = Parent

abbrev pub keeping : LockMode → BoardView
keeping lock = board (as_is Pca9548 0 0x70 8 lock ∷ []) two_devices

abbrev pub kept_journal : List Entry
kept_journal =
    take_mux 0 0 ∷ take_bus 0 ∷ control 0 0 0 0x70 1 ∷ reads 0 1 0x30 0 0x11 1 ++ free_bus 0 ∷ free_mux 0 0
    ∷ take_mux 0 0 ∷ take_bus 0 ∷ reads 0 1 0x30 0 0x11 1 ++ free_bus 0 ∷ free_mux 0 0
    ∷ take_mux 0 0 ∷ take_bus 0 ∷ control 0 0 0 0x70 2 ∷ nobody 0 2 0x31 ++ free_bus 0 ∷ free_mux 0 0 ∷ []

-- buses 1 to 8 behind the first, 9 to 12 behind the second, 13 to 16 behind the third, which disconnects
abbrev pub three_beside : BoardView
three_beside =
    board (as_is Pca9548 0 0x70 8 Parent ∷ as_is Pca9546 0 0x71 4 Parent ∷ mux Pca9546 0 0x72 4 Parent false ∷ [])
    (regs 1 0x30 0 0x11 ∷ regs 9 0x31 0 0x22 ∷ regs 13 0x32 0 0x33 ∷ [])

abbrev pub beside_journal : List Entry
beside_journal =
    take_mux 0 0 ∷ take_bus 0 ∷ control 0 0 0 0x70 1 ∷ reads 0 1 0x30 0 0x11 0 ++ free_bus 0 ∷ free_mux 0 0
    ∷ take_mux 0 0 ∷ take_bus 0 ∷ control 0 0 1 0x71 1 ∷ reads 0 9 0x31 0 0x22 1 ++ free_bus 0 ∷ free_mux 0 0
    ∷ take_mux 0 0 ∷ take_bus 0 ∷ control 0 0 2 0x72 1 ∷ reads 0 13 0x32 0 0x33 2 ++ control 0 0 2 0x72 0 ∷ free_bus 0 ∷ free_mux 0 0
    ∷ take_mux 0 0 ∷ take_bus 0 ∷ reads 0 1 0x30 0 0x11 0 ++ free_bus 0 ∷ free_mux 0 0
    ∷ fails 0 Ebusy cut.No ∷ []

-- a select of a kept mux fails by the port: the mux is closed first, and selected again
abbrev pub select_cut : ℕ → ℕ → ℕ → ℕ → ℕ → ℕ → Entry
select_cut c bus m addr q byte = entry.Message c bus (purpose.Control m) 1 1 addr false [] (Some (Chip m)) (end.Cut q)

abbrev pub forgotten_journal : List Entry
forgotten_journal =
    take_mux 0 0 ∷ take_bus 0 ∷ control 0 0 0 0x70 1 ∷ reads 0 1 0x30 0 0x11 1 ++ free_bus 0 ∷ free_mux 0 0
    ∷ take_mux 0 0 ∷ take_bus 0 ∷ select_cut 0 0 0 0x70 1 2 ∷ fails 0 Eremoteio cut.Way ∷ free_bus 0 ∷ free_mux 0 0
    ∷ take_mux 0 0 ∷ take_bus 0 ∷ control 0 0 0 0x70 0 ∷ control 0 0 0 0x70 1 ∷ reads 0 1 0x30 0 0x11 1 ++ free_bus 0 ∷ free_mux 0 0 ∷ []
