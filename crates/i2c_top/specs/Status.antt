-- The exit status of each way in which a call ends, and the line that it writes.
use Rattle.std.specs.Prelude.{ℕ, List, [], ◌++◌, codes}
use Rattle.std.specs.Fmt.{decimal}
use Rattle.i2c_base.specs.declared.rules.Item.{Item}
use Rattle.i2c_base.specs.declared.rules.Item.TheVariants as item
use Rattle.i2c_base.specs.declared.rules.RuleBroken.{RuleBroken}
use Rattle.i2c_boardtext.specs.declared.fault.BoardFault.{BoardFault}
use Rattle.i2c_boardtext.specs.declared.fault.BoardFault.TheVariants as fault
use Rattle.i2c_boardtext.specs.declared.fault.TableName.{TableName}
use Rattle.i2c_boardtext.specs.declared.fault.TableName.TheVariants as table
use Rattle.addr_atr.specs.declared.fault.MapFault.{MapFault}
use Rattle.addr_atr.specs.declared.fault.MapFault.TheVariants as atr_fault
use Rattle.journal_check.specs.declared.fault.CheckFault.{CheckFault}
use Rattle.journal_check.specs.declared.fault.CheckFault.TheVariants as verdict
use Rattle.i2c_top.specs.declared.status.BoardRefusal.{BoardRefusal}
use Rattle.i2c_top.specs.declared.status.BoardRefusal.TheVariants as refusal
use Rattle.i2c_top.specs.declared.status.Status.{Status}
use Rattle.i2c_top.specs.declared.status.Status.TheVariants as status

-- the ways to end: what was asked for is written; it was asked for in no form in force; the texts of the files are refused;
-- the file at a place was not read; the rig was not plugged; or nothing more can be said, since the output failed or there
-- was no memory
pub data Class : Type 0 where
  Done : Class
  Misused : Class
  Refused : Class
  Unread : (place : ℕ) → Class
  NoRig : Class
  Silent : Class

abbrev pub class_of : Status → Class
class_of status.Ok = Done
class_of status.Usage = Misused
class_of (status.Board why) = Refused
class_of (status.Script caller line word) = Refused
class_of (status.Cost cost) = Refused
class_of (status.Read place) = Unread place
class_of status.Write = Silent
class_of status.Memory = Silent
class_of status.Rig = NoRig
class_of (status.Schedule word) = Refused
class_of (status.Verify fault) = Refused
class_of (status.Map fault) = Refused
class_of (status.NoRoot bus) = Refused
class_of (status.Faults word) = Refused
class_of status.Input = Refused

abbrev pub code_of : Status → ℕ
code_of status.Ok = 0
code_of status.Usage = 2
code_of (status.Board why) = 3
code_of (status.Script caller line word) = 4
code_of (status.Cost cost) = 4
code_of (status.Read place) = 5
code_of status.Write = 6
code_of status.Memory = 7
code_of status.Rig = 8
code_of (status.Schedule word) = 9
code_of (status.Verify fault) = 10
code_of (status.Map fault) = 11
code_of (status.NoRoot bus) = 12
code_of (status.Faults word) = 13
code_of status.Input = 5

-- whose table a fault is in, or which tables are too few or too many
abbrev pub table_text : TableName → List ℕ
table_text table.Top = codes "top"
table_text table.Root = codes "root"
table_text table.Mux = codes "mux"
table_text table.Device = codes "device"

-- what is at fault in a table, by the table's number among those of its name
abbrev pub placed_text : List ℕ → TableName → ℕ → List ℕ
placed_text what name index = what ++ (table_text name ++ (codes " " ++ (decimal index ++ codes "\n")))

-- how many of these tables there are
abbrev pub limit_text : TableName → ℕ → List ℕ
limit_text which count = decimal count ++ (codes " " ++ (table_text which ++ codes "\n"))

-- what is wrong with a board's text; being out of memory is told by a status of its own
abbrev pub fault_text : BoardFault → List ℕ
fault_text fault.NotToml = codes "not TOML\n"
fault_text (fault.Key name index) = placed_text (codes "key in ") name index
fault_text (fault.Value name index) = placed_text (codes "value in ") name index
fault_text (fault.Limit which count) = limit_text which count
fault_text fault.Memory = []

abbrev pub item_text : Item → List ℕ
item_text (item.Mux mux) = codes "mux " ++ decimal mux
item_text (item.Device device) = codes "device " ++ decimal device

-- the broken rule, and the two items at fault
abbrev pub broken_text : RuleBroken → List ℕ
broken_text r = codes "rule TR" ++
    (decimal r.rule ++ (codes " " ++ (item_text r.first ++ (codes " " ++ (item_text r.second ++ codes "\n")))))

abbrev pub board_text : BoardRefusal → List ℕ
board_text (refusal.Fault f) = fault_text f
board_text (refusal.Rule r) = broken_text r

-- what is wrong with a journal's file, and where; being out of memory is told by a status of its own
abbrev pub verdict_text : CheckFault → List ℕ
verdict_text (verdict.Form line) = codes "line " ++ (decimal line ++ codes "\n")
verdict_text (verdict.Entry entry) = codes "entry " ++ (decimal entry ++ codes "\n")
verdict_text (verdict.Open caller) = codes "caller " ++ (decimal caller ++ codes "\n")
verdict_text (verdict.Text line) = codes "text line " ++ (decimal line ++ codes "\n")
verdict_text verdict.Memory = []

-- what is at fault in the table of a translator, by its number
abbrev pub row_text : List ℕ → ℕ → List ℕ
row_text what index = what ++ (codes " in atr " ++ (decimal index ++ codes "\n"))

-- what is wrong with a map's text; being out of memory is told by a status of its own
abbrev pub map_text : MapFault → List ℕ
map_text atr_fault.NotToml = codes "not TOML\n"
map_text (atr_fault.Key index) = row_text (codes "key") index
map_text (atr_fault.Value index) = row_text (codes "value") index
map_text (atr_fault.Mux index) = row_text (codes "mux") index
map_text (atr_fault.Pairs index) = row_text (codes "pairs") index
map_text (atr_fault.Rule r) = broken_text r
map_text atr_fault.Memory = []

abbrev pub unread_text : List ℕ → List ℕ
unread_text name = codes "cannot read " ++ (name ++ codes "\n")

-- the line of a refusal, where `name` is the name of the file that was not read; nothing for the others. The line on usage is
-- that of no form
abbrev pub refusal_text : Status → List ℕ → List ℕ
refusal_text status.Ok name = []
refusal_text status.Usage name = []
refusal_text (status.Board why) name = codes "board: " ++ board_text why
refusal_text (status.Script caller line word) name =
    codes "script " ++ (decimal caller ++ (codes " line " ++ (decimal line ++ (codes " word " ++ (decimal word ++ codes "\n")))))
refusal_text (status.Cost cost) name = codes "cost " ++ (decimal cost ++ codes " is above 1000000\n")
refusal_text (status.Read place) name = unread_text name
refusal_text status.Write name = []
refusal_text status.Memory name = []
refusal_text status.Rig name = codes "cannot plug the rig\n"
refusal_text (status.Schedule word) name = codes "schedule word " ++ (decimal word ++ codes "\n")
refusal_text (status.Verify fault) name = codes "not verified: " ++ verdict_text fault
refusal_text (status.Map fault) name = codes "map: " ++ map_text fault
refusal_text (status.NoRoot bus) name = codes "no root bus " ++ (decimal bus ++ codes "\n")
refusal_text (status.Faults word) name = codes "fault word " ++ (decimal word ++ codes "\n")
refusal_text status.Input name = codes "cannot read the input\n"
