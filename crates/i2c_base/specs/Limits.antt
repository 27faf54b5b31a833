-- The limits of a board and of what is done on it, each by its one name. The code has the same names, and a law that each
-- of them is this one (the_code_has_these_limits).
use Rattle.std.specs.Prelude.{ℕ, ◌+◌, ◌*◌, ◌==◌, Option, Some, None, if◌then◌else◌}

-- a board has 1 to so many roots, and at most so many muxes and devices; a mux has 1 to so many channels, and no bus
-- has more muxes over it (Linux i2c-topology warns of deep trees). Each channel is a bus
abbrev pub MOST_ROOTS : ℕ
MOST_ROOTS = 8

abbrev pub MOST_MUXES : ℕ
MOST_MUXES = 32

-- from a root to a bus there are at most so many buses, both included
abbrev pub MOST_ON_PATH : ℕ
MOST_ON_PATH = MOST_MUXES + 1

abbrev pub MOST_DEVICES : ℕ
MOST_DEVICES = 128

abbrev pub MOST_CHANNELS : ℕ
MOST_CHANNELS = 8

abbrev pub MOST_DEPTH : ℕ
MOST_DEPTH = 4

abbrev pub MOST_BUSES : ℕ
MOST_BUSES = MOST_ROOTS + MOST_MUXES * MOST_CHANNELS

-- the addresses of targets: 0x00 to 0x07 and 0x78 to 0x7F are reserved (UM10204 section 3.1.12, "Reserved addresses")
abbrev pub FIRST_ADDRESS : ℕ
FIRST_ADDRESS = 0x08

abbrev pub LAST_ADDRESS : ℕ
LAST_ADDRESS = 0x77

-- a transfer has at most so many messages and bytes, and a message so many bytes (Linux i2c-dev: I2C_RDWR)
abbrev pub MOST_MESSAGES : ℕ
MOST_MESSAGES = 42

abbrev pub MOST_LENGTH : ℕ
MOST_LENGTH = 512

abbrev pub MOST_BYTES : ℕ
MOST_BYTES = 4096

-- a block has at most so many bytes (SMBus 2.0 section 5.5.7)
abbrev pub BLOCK_LIMIT : ℕ
BLOCK_LIMIT = 32

-- .. or so many, since its count is one byte (SMBus 3.2 section 6.5.7)
abbrev pub LARGEST_BLOCK : ℕ
LARGEST_BLOCK = 255

-- the block limit by the version of a board, of which there are two: that of SMBus 2.0, and that of SMBus 3.0 and later
abbrev pub limit_of : (version : ℕ) → Option ℕ
limit_of version = if version == 1 then Some BLOCK_LIMIT else if version == 2 then Some LARGEST_BLOCK else None

-- a block that a command asks for by its length has at most so many bytes, whatever the board's block limit is (Linux
-- i2c.h: I2C_SMBUS_BLOCK_MAX)
abbrev pub I2C_BLOCK_LIMIT : ℕ
I2C_BLOCK_LIMIT = 32

-- an arbitrator is asked so often before it is told to be held
abbrev pub POLLS : ℕ
POLLS = 8

-- a controller looks so often at a clock that a target holds, before it gives up
abbrev pub MOST_LOOKS : ℕ
MOST_LOOKS = 64

-- a run has at most so many callers, and each port's log holds so many calls
abbrev pub MOST_CALLERS : ℕ
MOST_CALLERS = 8

abbrev pub MOST_CALLS : ℕ
MOST_CALLS = 2000000
