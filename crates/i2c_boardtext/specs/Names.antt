-- The words of a board file, and what they stand for; a device's stand with its kind.
use Rattle.std.specs.Prelude.{ℕ, Bool, true, false, List, codes, Option, Some, None, if◌then◌else◌, bytes_eq}
use Rattle.i2c_base.specs.declared.board.LockMode.{LockMode}
use Rattle.i2c_base.specs.declared.board.LockMode.TheVariants as lock
use Rattle.i2c_base.specs.declared.board.Idle.{Idle}
use Rattle.i2c_base.specs.declared.board.Idle.TheVariants as idle
use Rattle.i2c_base.specs.declared.board.MuxKind.{MuxKind}
use Rattle.i2c_base.specs.declared.board.MuxKind.TheVariants as mux

-- what a root offers: whether it is SMBus calls alone
abbrev pub offers_named : List ℕ → Option Bool
offers_named word =
    if bytes_eq word (codes "all") then Some false
    else if bytes_eq word (codes "smbus") then Some true
    else None

abbrev pub lock_named : List ℕ → Option LockMode
lock_named word =
    if bytes_eq word (codes "parent") then Some lock.Parent
    else if bytes_eq word (codes "mux") then Some lock.Mux
    else None

abbrev pub idle_named : List ℕ → Option Idle
idle_named word =
    if bytes_eq word (codes "disconnect") then Some idle.Disconnect
    else if bytes_eq word (codes "as-is") then Some idle.AsIs
    else None

abbrev pub mux_named : List ℕ → Option MuxKind
mux_named word =
    if bytes_eq word (codes "pca9548") then Some mux.Pca9548
    else if bytes_eq word (codes "pca9546") then Some mux.Pca9546
    else if bytes_eq word (codes "pca9544") then Some mux.Pca9544
    else if bytes_eq word (codes "pca9541") then Some mux.Pca9541
    else if bytes_eq word (codes "gpio") then Some mux.Gpio
    else None
