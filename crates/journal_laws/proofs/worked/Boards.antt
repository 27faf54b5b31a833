-- The small boards of the worked examples are accepted ones, and their transfers within the limits.
use Rattle.journal_laws.proofs.Cited.{◌≡◌, ℕ, Bool, true, false, Some, reverse, ◌<◌, ◌≤◌, List, [], ◌∷◌, length, refl, arith, ◌&&◌, nat_lt}
use Rattle.journal_laws.proofs.Cited.{AllByRecursion, and_parts, ltb-true, BoardView, MuxSpec, MuxKind, Pca9548, IsTransfer, buses}
use Rattle.journal_laws.proofs.Cited.{IsPlainBoard, MeetsRules}
use Rattle.std.proofs.Common.{leb}
use Rattle.std.proofs.lemmas.Bool.{leb-true}
use Rattle.i2c_base.specs.Addr.{IsTargetAddress}
use Rattle.i2c_base.specs.Limits.{FIRST_ADDRESS, LAST_ADDRESS}
use Rattle.i2c_base.specs.Board.{DeviceView}
use Rattle.i2c_base.specs.Bytes.{IsByte}
use Rattle.i2c_base.specs.declared.board.MuxKind.TheVariants.{Pca9546}
use Rattle.i2c_base.specs.declared.board.LockMode.{LockMode}
use Rattle.i2c_base.specs.declared.board.LockMode.TheVariants.{Parent, Mux}
use Rattle.i2c_base.specs.declared.board.Idle.{Idle}
use Rattle.i2c_base.specs.declared.board.Idle.TheVariants.{Disconnect, AsIs}
use Rattle.i2c_base.specs.Transfer.{IsMessage}
use Rattle.i2c_spec.specs.Plain.{FitsChannels, FitsChip, FitsForeign, IsPlanted, IsPlainMux, IsPlainDevice, IsPlainRun}
use Rattle.i2c_spec.specs.Rules.{clashes, items, is_too_deep, is_locked_under, is_wrongly_locked, breaks_idle}
use Rattle.bus_spec.specs.Rows as row
use Rattle.journal_laws.proofs.worked.Checks.{none_of, none-of, no_pair, no-pair, all-each}

-- THE TYPE of a board, over one root
plain : (muxes : List MuxSpec) (devices : List DeviceView) → length muxes ≤ 32 → length devices ≤ 128 → AllByRecursion IsPlainMux muxes
    → AllByRecursion IsPlainDevice devices → IsPlanted 1 (reverse muxes)
    → AllByRecursion (λ d. d.bus < buses (row.board muxes devices)) devices
    → IsPlainBoard (row.board muxes devices)
plain muxes devices few_muxes few_devices each_mux each_device planted placed =
    record {
      version = refl;
      some_root = omega arith;
      most_roots = omega arith;
      most_muxes = few_muxes;
      most_devices = few_devices;
      muxes = all-each IsPlainMux muxes each_mux;
      devices = all-each IsPlainDevice devices each_device;
      planted = planted;
      placed = all-each (λ d. d.bus < buses (row.board muxes devices)) devices placed;
    }

a-device : (bus addr reg byte : ℕ)
    → ((leb FIRST_ADDRESS addr && leb addr LAST_ADDRESS) && (nat_lt reg 256 && nat_lt byte 256)) ≡ true
    → IsPlainDevice (row.regs bus addr reg byte)
a-device bus addr reg byte fits =
    let h = and_parts (leb FIRST_ADDRESS addr && leb addr LAST_ADDRESS) (nat_lt reg 256 && nat_lt byte 256) fits in
    let named = and_parts (leb FIRST_ADDRESS addr) (leb addr LAST_ADDRESS) h.0 in
    let small = and_parts (nat_lt reg 256) (nat_lt byte 256) h.1 in
    record {
      address = (leb-true FIRST_ADDRESS addr named.0, leb-true addr LAST_ADDRESS named.1);
      kind = ((omega arith, omega arith), tt);
      runs = all-each (IsPlainRun 256) (row.regs bus addr reg byte).set (
        record {
          some = omega arith;
          within = omega (arith, ltb-true reg 256 small.0);
          bytes = all-each IsByte (byte ∷ []) (ltb-true byte 256 small.1, tt);
        },
        tt,
      );
    }

-- a register read asks for two messages, and writes one byte
pub read-within : (bus addr reg : ℕ) → reg < 256 → IsTransfer (row.read bus addr reg).msgs (row.read bus addr reg).out
read-within bus addr reg small =
    record {
      count = omega arith;
      each = all-each IsMessage (row.read bus addr reg).msgs (
        (omega arith, λ e. absurd (let f : false ≡ true = e in cc), λ e. absurd (let f : false ≡ true = e in cc)),
        ((omega arith, λ e. absurd (let f : false ≡ true = e in cc), λ e. omega arith), tt),
      );
      size = omega arith;
      written = refl;
      bytes = all-each IsByte (reg ∷ []) (small, tt);
    }

-- THE BOARDS are accepted
abbrev pub IsAccepted : BoardView → Type 0
IsAccepted b = IsPlainBoard b × MeetsRules b

a-mux : (kind : MuxKind) (n : ℕ) (bus addr : ℕ) (lock : LockMode) (absent : Bool) (idle : Idle) → IsTargetAddress addr → FitsChannels kind n
    → FitsChip kind (Some addr) absent → FitsForeign kind 0
    → IsPlainMux (record (row.mux kind bus addr n lock absent) { idle = idle })
a-mux kind n bus addr lock absent idle named channels chip foreign = record {
  channels = channels;
  chip = chip;
  address = named;
  foreign = foreign;
}

both-devices : AllByRecursion IsPlainDevice row.two_devices
both-devices = (a-device 0 0x20 5 0x7e refl, (a-device 1 0x30 0 0x11 refl, tt))

-- by what is computed of it a board meets the rules
rules : (b : BoardView) → no_pair (clashes b) (items b) ≡ true → none_of (is_too_deep b) (length b.muxes) ≡ true
    → none_of (is_locked_under b) (length b.muxes) ≡ true → none_of (is_wrongly_locked b) (length b.muxes) ≡ true
    → none_of (breaks_idle b) (length b.muxes) ≡ true → MeetsRules b
rules b addresses depths locks parents idles = record {
  addresses = no-pair _ _ addresses;
  depths = none-of _ _ depths;
  locks = none-of _ _ locks;
  parents = none-of _ _ parents;
  idles = none-of _ _ idles;
}

-- two devices, one of them behind one mux
one-mux : (lock : LockMode) (idle : Idle)
    → IsPlainBoard (row.board ((record (row.mux Pca9548 0 0x70 8 lock false) { idle = idle }) ∷ []) row.two_devices)
one-mux lock idle =
    plain ((record (row.mux Pca9548 0 0x70 8 lock false) { idle = idle }) ∷ []) row.two_devices (omega arith) (omega arith)
    (a-mux Pca9548 8 0 0x70 lock false idle (omega arith, omega arith) refl refl refl, tt) both-devices (omega arith, tt)
    (omega arith, (omega arith, tt))

pub mux-locked : IsAccepted row.mux_locked
mux-locked = (one-mux Mux Disconnect, rules _ refl refl refl refl refl)

pub parent-locked : IsAccepted row.parent_locked
parent-locked = (one-mux Parent Disconnect, rules _ refl refl refl refl refl)

pub keeping : IsAccepted (row.keeping row.parent)
keeping = (one-mux Parent AsIs, rules _ refl refl refl refl refl)

-- .. or behind the first of two muxes, of which either may be absent
two-muxes : (outer inner : Bool)
    → IsPlainBoard (row.board (row.mux Pca9548 0 0x70 8 Parent outer ∷ row.mux Pca9546 1 0x71 4 Parent inner ∷ []) row.two_devices)
two-muxes outer inner =
    plain (row.mux Pca9548 0 0x70 8 Parent outer ∷ row.mux Pca9546 1 0x71 4 Parent inner ∷ []) row.two_devices (omega arith) (omega arith) (
      a-mux Pca9548 8 0 0x70 Parent outer Disconnect (omega arith, omega arith) refl refl refl,
      (a-mux Pca9546 4 1 0x71 Parent inner Disconnect (omega arith, omega arith) refl refl refl, tt),
    ) both-devices
    (omega arith, (omega arith, tt)) (omega arith, (omega arith, tt))

pub absent-inner : IsAccepted row.absent_inner
absent-inner = (two-muxes false true, rules _ refl refl refl refl refl)

pub absent-outer : IsAccepted row.absent_outer
absent-outer = (two-muxes true false, rules _ refl refl refl refl refl)

-- three muxes, of which the last one disconnects
abbrev three : ℕ → ℕ → Idle → List MuxSpec
three p q idle =
    record (row.mux Pca9548 0 0x70 8 Parent false) { idle = idle } ∷ record (row.mux Pca9546 p 0x71 4 Parent false) { idle = idle }
    ∷ row.mux Pca9546 q 0x72 4 Parent false ∷ []

three-muxes : (p q : ℕ) (idle : Idle) (devices : List DeviceView) → length devices ≤ 128 → AllByRecursion IsPlainDevice devices
    → IsPlanted 1 (reverse (three p q idle)) → AllByRecursion (λ d. d.bus < buses (row.board (three p q idle) devices)) devices
    → IsPlainBoard (row.board (three p q idle) devices)
three-muxes p q idle devices few each planted placed =
    plain (three p q idle) devices (omega arith) few (
      a-mux Pca9548 8 0 0x70 Parent false idle (omega arith, omega arith) refl refl refl,
      (
        a-mux Pca9546 4 p 0x71 Parent false idle (omega arith, omega arith) refl refl refl,
        (a-mux Pca9546 4 q 0x72 Parent false Disconnect (omega arith, omega arith) refl refl refl, tt),
      ),
    ) each planted
    placed

pub chain : IsAccepted row.chain
chain = (
  three-muxes 1 9 Disconnect row.chain.devices (omega arith)
      (a-device 0 0x20 5 0x7e refl, (a-device 1 0x30 0 0x11 refl, (a-device 13 0x40 0 0x22 refl, tt)))
      (omega arith, (omega arith, (omega arith, tt))) (omega arith, (omega arith, (omega arith, tt))),
  rules _ refl refl refl refl refl,
)

pub arbitrator : (foreign : ℕ) → foreign ≤ 8 → IsAccepted (row.arbitrator foreign)
arbitrator foreign few = (
  plain (row.arbitrator foreign).muxes (row.arbitrator foreign).devices (omega arith) (omega arith)
      (record { channels = refl; chip = refl; address = (omega arith, omega arith); foreign = (omega arith, few) }, tt)
      (a-device 1 0x20 5 0x7e refl, tt) (omega arith, tt) (omega arith, tt),
  rules _ refl refl refl refl refl,
)

pub three-beside : IsAccepted row.three_beside
three-beside = (
  three-muxes 0 0 AsIs row.three_beside.devices (omega arith)
      (a-device 1 0x30 0 0x11 refl, (a-device 9 0x31 0 0x22 refl, (a-device 13 0x32 0 0x33 refl, tt)))
      (omega arith, (omega arith, (omega arith, tt))) (omega arith, (omega arith, (omega arith, tt))),
  rules _ refl refl refl refl refl,
)
