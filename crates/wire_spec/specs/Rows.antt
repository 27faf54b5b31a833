-- Worked examples: small devices on the wires, what a controller does, and what an analyser on the wires sees of it, after the
-- figures of UM10204 section 3.1.
use Rattle.std.specs.Prelude.{ℕ, ◌==◌, Bool, true, false, not, List, [], ◌∷◌, ◌++◌, map}
use Rattle.i2c_spec.specs.Targets.RegsDevice.{RegsView, Idle, regs_table}
use Rattle.wire_spec.specs.Wires.{Site, Bit, bits, site_of}
pub use Rattle.wire_spec.specs.Bus.{Sign, Level, Started, Stopped}
use Rattle.wire_spec.specs.Bus.{Seen, edges_in, flips_in, Bus, Mask, Came, scl_level, sda_level, pulled, looked}
use Rattle.wire_spec.specs.Calls.{free, start_pulls, repeated_start, sent_byte, read_byte, stop_pulls, slow_stop}

-- a register device at this address, which holds its clock for so many looks
abbrev pub device : ℕ → ℕ → List ℕ → Site RegsView
device addr hold memory = site_of addr true false (record { phase = Idle; pointer = 0; memory = memory; hold = hold })

-- no mux stands before a device
abbrev pub all_joined : Mask RegsView
all_joined ss k = true

-- one edge for each rise of SCL, and a flip for each start and stop
pub record Counts : Type 0 where
  pub edges : ℕ
  pub flips : ℕ

abbrev pub counted : ℕ → ℕ → Counts
counted edges flips = record { edges = edges; flips = flips }

abbrev pub counts_of : Seen → Counts
counts_of c = counted (edges_in c) (flips_in c)

-- the lines before the first start, with these devices on them
abbrev pub wires : List (Site RegsView) → Bus RegsView
wires ss = free ss []

-- a device at 0x20 that has 0x7e in register 5
abbrev pub one_device : Bus RegsView
one_device = wires (device 0x20 0 (0 ∷ 0 ∷ 0 ∷ 0 ∷ 0 ∷ 0x7e ∷ []) ∷ [])

-- two that stand at one address
abbrev pub two_devices : Bus RegsView
two_devices = wires (device 0x20 0 (0xf3 ∷ []) ∷ device 0x20 0 (0x3f ∷ []) ∷ [])

-- one that holds its clock for so many looks
abbrev pub holding : ℕ → Bus RegsView
holding looks = wires (device 0x20 looks [] ∷ [])

-- a controller pulls the lines or lets them go, and looks at SCL
pub data Doing : Type 0 where
  Pull : (scl sda : Bool) → Doing
  Look : Doing

-- what that does to the lines
abbrev pub done : Bus RegsView → Doing → Bus RegsView
done w (Pull scl sda) = pulled regs_table all_joined w scl sda
done w Look = looked regs_table w

-- what is to be seen, by the levels before and after
abbrev pub sign_of : (scl_was scl_is sda_was sda_is : Bool) → List Sign
sign_of false true sda_was sda_is = Level sda_is ∷ []
sign_of true true true false = Started ∷ []
sign_of true true false true = Stopped ∷ []
sign_of true true true true = []
sign_of true true false false = []
sign_of true false sda_was sda_is = []
sign_of false false sda_was sda_is = []

-- what is to be seen of one step, and of all
abbrev pub sign : Bus RegsView → Bus RegsView → List Sign
sign w x = sign_of (scl_level w) (scl_level x) (sda_level regs_table w) (sda_level regs_table x)

abbrev pub seen : Bus RegsView → List Doing → List Sign
seen w [] = []
seen w (d ∷ ds) = sign w (done w d) ++ seen (done w d) ds

-- a start, and a repeated one, before which SCL rises
abbrev pub start : List Doing
start = Pull false true ∷ Pull true true ∷ []

abbrev pub again : List Doing
again = Pull true false ∷ Pull false false ∷ Look ∷ start

-- one bit, and several
abbrev pub clock_of : Bool → List Doing
clock_of high = Pull true (not high) ∷ Pull false (not high) ∷ Look ∷ Pull true (not high) ∷ []

abbrev pub clocks_of : List Bool → List Doing
clocks_of [] = []
clocks_of (h ∷ hs) = clock_of h ++ clocks_of hs

-- SDA and SCL are let go for the acknowledge clock
abbrev pub let_go : List Doing
let_go = Pull true false ∷ Pull false false ∷ []

-- a byte that is sent, with its acknowledge clock
abbrev pub sends : ℕ → List Doing
sends byte = clocks_of (bits 8 byte ++ true ∷ [])

-- a byte that is read and not acknowledged
abbrev pub receives_last : List Doing
receives_last = clocks_of (bits 8 255 ++ true ∷ [])

-- a stop within a message
abbrev pub stop : List Doing
stop = Pull true true ∷ Pull false true ∷ Look ∷ Pull false false ∷ []

-- levels at rises, written as the bits that they are
abbrev pub rises : List ℕ → List Sign
rises ns = map (λ n. Level (n == 1)) ns

-- the lines after all of this
abbrev pub done_all : Bus RegsView → List Doing → Bus RegsView
done_all w [] = w
done_all w (d ∷ ds) = done_all (done w d) ds

-- what the devices are
abbrev pub states_on : Bus RegsView → List RegsView
states_on w = map (λ (b : Bit RegsView). b.site.state) w.targets

-- as calls: an address byte after a start
abbrev pub addressed : ℕ → Bus RegsView → Came RegsView
addressed byte w = sent_byte regs_table all_joined byte (start_pulls regs_table all_joined w)

-- a register's number behind it
abbrev pub pointed : ℕ → ℕ → Bus RegsView → Bus RegsView
pointed byte register w = (sent_byte regs_table all_joined register (addressed byte w).bus).bus

-- a repeated start, an address byte, and a read of one byte
abbrev pub read_behind : ℕ → Bus RegsView → Came RegsView
read_behind byte w = read_byte regs_table all_joined false (sent_byte regs_table all_joined byte (repeated_start regs_table all_joined w).1).bus

-- the counts after a stop
abbrev pub stopped : Bus RegsView → Counts
stopped w = counts_of (stop_pulls regs_table all_joined w).1.seen

-- the counts after a stop after a start that was too slow
abbrev pub slow_stopped : Bus RegsView → Counts
slow_stopped w = counts_of (slow_stop regs_table all_joined w).1.seen
