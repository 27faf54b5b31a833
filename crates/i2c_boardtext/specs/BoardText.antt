-- The board that a text spells, or the first fault in the order of refusals: what the text is, its top, the number
-- of its tables, then each root, each mux and each device, in file order.
use Rattle.std.specs.Prelude.{⊤, ◌≡◌, ℕ, nat_le, not, ◌&&◌, List, [], ◌∷◌, ◌++◌, length, codes, Option, Some, None, ok_or, Result, Ok, Err, if◌then◌else◌}
use Rattle.std.specs.Str.{is_utf8}
use Rattle.toml.specs.Data.{Data, Members, get_member}
use Rattle.toml.specs.Parse.{parse_document}
use Rattle.i2c_base.specs.Board.{BoardView, DeviceView}
use Rattle.i2c_base.specs.Limits.{MOST_ROOTS, MOST_MUXES, MOST_DEVICES}
use Rattle.i2c_base.specs.declared.board.MuxSpec.{MuxSpec}
use Rattle.i2c_base.specs.declared.board.RootSpec.{RootSpec}
use Rattle.i2c_spec.specs.Tree.{buses_of}
use Rattle.i2c_boardtext.specs.Items.{named_in}
use Rattle.i2c_boardtext.specs.Keys.{top_rules, root_rules, mux_rules, device_rules}
use Rattle.i2c_boardtext.specs.Devices.{device_named}
use Rattle.i2c_boardtext.specs.Names.{mux_named}
use Rattle.i2c_boardtext.specs.Rules.{KeyRule, table_fault}
use Rattle.i2c_boardtext.specs.Values.{TopView, top_value, root_value, mux_value, device_value}
use Rattle.i2c_boardtext.specs.declared.fault.BoardFault.{BoardFault}
use Rattle.i2c_boardtext.specs.declared.fault.BoardFault.TheVariants as board_fault
use Rattle.i2c_boardtext.specs.declared.devices.DeviceName.{DeviceName}
use Rattle.i2c_boardtext.specs.declared.fault.TableFault.{TableFault}
use Rattle.i2c_boardtext.specs.declared.fault.TableFault.TheVariants as fault
use Rattle.i2c_boardtext.specs.declared.fault.TableName.{TableName}
use Rattle.i2c_boardtext.specs.declared.fault.TableName.TheVariants.{Top, Root, Mux, Device}

infixl 10 ◌>>=◌
abbrev pub ◌>>=◌ : {A B E : Type 0} → Result A E → (A → Result B E) → Result B E
(Ok x) >>= f = f x
(Err e) >>= f = Err e

-- the value, where there is no fault
abbrev pub unless_fault : {X E : Type 0} → Option E → X → Result X E
unless_fault None x = Ok x
unless_fault (Some e) x = Err e

-- what a table of these rules says, or what is wrong with it
abbrev pub table_of : {X : Type 0} → List KeyRule → (Members → X) → Members → Result X TableFault
table_of rules value ms = unless_fault (table_fault rules ms) (value ms)

-- the kind comes before every other key
abbrev pub kind_in : {X : Type 0} → (List ℕ → Option X) → Option Data → Result X TableFault
kind_in named None = Err fault.Key
kind_in named (Some d) = ok_or (named_in named d) fault.Value

abbrev pub root_in_table : Members → Result RootSpec TableFault
root_in_table ms = table_of root_rules root_value ms

abbrev pub mux_of : ℕ → Members → Result MuxSpec TableFault
mux_of buses ms = kind_in mux_named (get_member (codes "kind") ms) >>= λ kind. table_of (mux_rules buses kind) (mux_value kind) ms

-- the kind of a device with nothing wrong with its table
abbrev pub tested_device : ℕ → Members → Result DeviceName TableFault
tested_device buses ms = kind_in device_named (get_member (codes "kind") ms) >>= λ name. unless_fault
    (table_fault (device_rules buses name) ms) name

abbrev pub device_of : ℕ → Members → Result DeviceView TableFault
device_of buses ms = tested_device buses ms >>= λ name. Ok (device_value name ms)

-- a fault with its place
abbrev pub placed_fault : TableName → ℕ → TableFault → BoardFault
placed_fault name index fault.Key = board_fault.Key name index
placed_fault name index fault.Value = board_fault.Value name index

abbrev pub placed : {X : Type 0} → TableName → ℕ → Result X TableFault → Result X BoardFault
placed name index (Ok x) = Ok x
placed name index (Err e) = Err (placed_fault name index e)

-- the tables of one array in file order, each read beside those before it
abbrev pub each : {X : Type 0} → TableName → (List X → Members → Result X TableFault) → List X → List Members → Result (List X) BoardFault
each name read before [] = Ok before
each name read before (t ∷ ts) = placed name (length before) (read before t) >>= λ x. each name read (before ++ x ∷ []) ts

-- a board has at least one root, and at most so many roots, muxes and devices
abbrev pub limit_fault : ℕ → ℕ → ℕ → Option BoardFault
limit_fault roots muxes devices =
    if not (nat_le 1 roots && nat_le roots MOST_ROOTS) then Some (board_fault.Limit Root roots)
    else if not (nat_le muxes MOST_MUXES) then Some (board_fault.Limit Mux muxes)
    else if not (nat_le devices MOST_DEVICES) then Some (board_fault.Limit Device devices)
    else None

abbrev pub top_of : Members → Result TopView BoardFault
top_of ms = placed Top 0 (table_of top_rules top_value ms) >>= λ t. unless_fault
    (limit_fault (length t.roots) (length t.muxes) (length t.devices)) t

abbrev pub roots_of : List Members → Result (List RootSpec) BoardFault
roots_of ts = each Root (λ before. root_in_table) [] ts

-- a mux stands on one of the buses before its own channels
abbrev pub muxes_of : ℕ → List Members → Result (List MuxSpec) BoardFault
muxes_of roots ts = each Mux (λ before. mux_of (buses_of roots before)) [] ts

abbrev pub devices_of : ℕ → List Members → Result (List DeviceView) BoardFault
devices_of buses ts = each Device (λ before. device_of buses) [] ts

abbrev pub board_by_parts : TopView → Result BoardView BoardFault
board_by_parts t =
    roots_of t.roots >>= λ roots.
    muxes_of (length roots) t.muxes >>= λ muxes.
    devices_of (buses_of (length roots) muxes) t.devices >>= λ devices.
    Ok (record { version = t.version; roots = roots; muxes = muxes; devices = devices })

-- text that isn't UTF-8 is not TOML
abbrev pub document_of : List ℕ → Result Members BoardFault
document_of text = if is_utf8 text then ok_or (parse_document text) board_fault.NotToml else Err board_fault.NotToml

unfoldable pub board_of : List ℕ → Result BoardView BoardFault
board_of text = document_of text >>= λ ms. top_of ms >>= board_by_parts

-- what a call answered, seen by view, is what was read, unless memory ran out
abbrev pub Fails : {Y : Type 0} → BoardFault → Result Y BoardFault → Type 0
Fails board_fault.Memory read = ⊤
Fails board_fault.NotToml read = read ≡ Err board_fault.NotToml
Fails (board_fault.Key table index) read = read ≡ Err (board_fault.Key table index)
Fails (board_fault.Value table index) read = read ≡ Err (board_fault.Value table index)
Fails (board_fault.Limit which count) read = read ≡ Err (board_fault.Limit which count)

abbrev pub Gives : {X Y : Type 0} → (X → Y) → Result X BoardFault → Result Y BoardFault → Type 0
Gives view (Ok x) read = read ≡ Ok (view x)
Gives view (Err e) read = Fails e read

-- a result with its value seen by view
abbrev pub seen : {X Y E : Type 0} → (X → Y) → Result X E → Result Y E
seen view (Ok x) = Ok (view x)
seen view (Err e) = Err e
