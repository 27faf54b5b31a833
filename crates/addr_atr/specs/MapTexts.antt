-- The map that a text spells, or its first fault: what the text is, its top, the keys and values of each table, then each translator
-- beside those before it. A further key is a line of the rules.
use Rattle.std.specs.Prelude.{⊤, ◌≡◌, ℕ, ◌+◌, ◌-◌, ◌==◌, nat_le, ◌&&◌, List, [], ◌∷◌, length, map, codes, slice_get, Option, Some, None, ok_or, Result, Ok, Err, if◌then◌else◌}
use Rattle.std.specs.Option.{option_or, option_map_or}
use Rattle.std.specs.Str.{is_utf8}
use Rattle.toml.specs.Data.{Data, Members, get_member}
use Rattle.toml.specs.Parse.{parse_document}
use Rattle.i2c_base.specs.Board.{BoardView}
use Rattle.i2c_spec.specs.Rules.{MeetsRules, TellsBroken}
use Rattle.i2c_boardtext.specs.BoardText.{◌>>=◌, unless_fault}
use Rattle.i2c_boardtext.specs.Items.{elements, number}
use Rattle.i2c_boardtext.specs.Rules.{KeyRule, needs, is_in, table_fault}
use Rattle.i2c_boardtext.specs.Values.{elements_in, tables_in}
use Rattle.i2c_boardtext.specs.declared.fault.TableFault.{TableFault}
use Rattle.i2c_boardtext.specs.declared.fault.TableFault.TheVariants as fault
use Rattle.i2c_boardtext.specs.declared.rule.Test.{Test}
use Rattle.i2c_boardtext.specs.declared.rule.Test.TheVariants.{Range, Tables, Pairs}
use Rattle.i2c_base.specs.declared.alias.AliasPair.{AliasPair}
use Rattle.addr_atr.specs.declared.fault.MapFault.{MapFault}
use Rattle.addr_atr.specs.declared.fault.MapFault.TheVariants as map_fault
use Rattle.addr_atr.specs.Maps.{TranslatorView, MapView}
use Rattle.addr_atr.specs.Lowering.{lowered, fault_after}

-- THE KEYS
abbrev pub top_rules : List KeyRule
top_rules = needs (codes "atr") Tables ∷ []

-- a mux of the board, where it has one: no number is in the range from 1 to 0
abbrev pub mux_test : ℕ → Test
mux_test muxes = if muxes == 0 then Range 1 0 else Range 0 (muxes - 1)

abbrev pub translator_rules : ℕ → List KeyRule
translator_rules muxes = needs (codes "mux") (mux_test muxes) ∷ needs (codes "pairs") (Pairs 0x08 0x77) ∷ []

-- THE FAULTS of keys and values
abbrev pub placed_fault : ℕ → TableFault → MapFault
placed_fault i fault.Key = map_fault.Key i
placed_fault i fault.Value = map_fault.Value i

abbrev pub placed_in : ℕ → Option TableFault → Option MapFault
placed_in i None = None
placed_in i (Some e) = Some (placed_fault i e)

abbrev pub rows_in : Members → List Members
rows_in ms = tables_in (get_member (codes "atr") ms)

-- at most so many translators, and at least one
abbrev pub count_fault : ℕ → Option MapFault
count_fault n = if nat_le 1 n && nat_le n 32 then None else Some (map_fault.Value 0)

abbrev pub top_fault : Members → Option MapFault
top_fault ms = option_or (placed_in 0 (table_fault top_rules ms)) (count_fault (length (rows_in ms)))

-- the first table at fault, by its number from i on
abbrev pub rows_fault : List KeyRule → ℕ → List Members → Option MapFault
rows_fault rules i [] = None
rows_fault rules i (t ∷ ts) = option_or (placed_in i (table_fault rules t)) (rows_fault rules (i + 1) ts)

-- WHAT A TABLE SAYS, where nothing is wrong with it: any other value is the lowest
abbrev pub address_in : Data → ℕ
address_in d = if is_in 0x08 0x77 d then number d else 0x08

abbrev pub address_at : List Data → ℕ → ℕ
address_at ds k = option_map_or address_in (slice_get ds k) 0x08

abbrev pub pair_value : Data → AliasPair
pair_value d = record { addr = address_at (elements d) 0; alias = address_at (elements d) 1 }

abbrev pub index_in : Data → ℕ
index_in d = if is_in 0 0xffff d then number d else 0

abbrev pub translator_value : Members → TranslatorView
translator_value ms = record {
  mux = option_map_or index_in (get_member (codes "mux") ms) 0;
  pairs = map pair_value (elements_in (get_member (codes "pairs") ms));
}

-- THE MAP
abbrev pub document_of : List ℕ → Result Members MapFault
document_of text = if is_utf8 text then ok_or (parse_document text) map_fault.NotToml else Err map_fault.NotToml

abbrev pub tested_rows : ℕ → Members → Result (List Members) MapFault
tested_rows muxes ms = unless_fault (option_or (top_fault ms) (rows_fault (translator_rules muxes) 0 (rows_in ms))) (rows_in ms)

abbrev pub as_map : BoardView → List TranslatorView → Result (List TranslatorView) MapFault
as_map b ts = unless_fault (fault_after b [] ts) ts

abbrev pub map_in : BoardView → Members → Result (List TranslatorView) MapFault
map_in b ms = tested_rows (length b.muxes) ms >>= λ rows. as_map b (map translator_value rows)

unfoldable pub translators_of : BoardView → List ℕ → Result (List TranslatorView) MapFault
translators_of b text = document_of text >>= map_in b

-- what a document that isn't read, and a reader of translators, tell; being out of memory says nothing
abbrev pub DocumentFails : List ℕ → MapFault → Type 0
DocumentFails text map_fault.Memory = ⊤
DocumentFails text map_fault.NotToml = document_of text ≡ Err map_fault.NotToml
DocumentFails text (map_fault.Key i) = ⊥
DocumentFails text (map_fault.Value i) = ⊥
DocumentFails text (map_fault.Mux i) = ⊥
DocumentFails text (map_fault.Pairs i) = ⊥
DocumentFails text (map_fault.Rule broken) = ⊥

abbrev pub FailsRead : {Y : Type 0} → MapFault → Result Y MapFault → Type 0
FailsRead map_fault.Memory read = ⊤
FailsRead (map_fault.Key i) read = read ≡ Err (map_fault.Key i)
FailsRead (map_fault.Value i) read = read ≡ Err (map_fault.Value i)
FailsRead (map_fault.Mux i) read = read ≡ Err (map_fault.Mux i)
FailsRead (map_fault.Pairs i) read = read ≡ Err (map_fault.Pairs i)
FailsRead map_fault.NotToml read = ⊥
FailsRead (map_fault.Rule broken) read = ⊥

abbrev pub GivesRead : {X Y : Type 0} → (X → Y) → Result X MapFault → Result Y MapFault → Type 0
GivesRead see (Ok x) read = read ≡ Ok (see x)
GivesRead see (Err e) read = FailsRead e read

-- what is told of a text that is no map of this board. Being out of memory says nothing
abbrev pub Fails : BoardView → List ℕ → MapFault → Type 0
Fails b text map_fault.Memory = ⊤
Fails b text (map_fault.Rule broken) =
    (ts : List TranslatorView) × (translators_of b text ≡ Ok ts) × TellsBroken (lowered b ts) broken
Fails b text map_fault.NotToml = translators_of b text ≡ Err map_fault.NotToml
Fails b text (map_fault.Key i) = translators_of b text ≡ Err (map_fault.Key i)
Fails b text (map_fault.Value i) = translators_of b text ≡ Err (map_fault.Value i)
Fails b text (map_fault.Mux i) = translators_of b text ≡ Err (map_fault.Mux i)
Fails b text (map_fault.Pairs i) = translators_of b text ≡ Err (map_fault.Pairs i)

-- the map of the text over this board, whose lowered board meets the rules; or its first fault
pub record IsMapOf (b : BoardView) (text : List ℕ) (m : MapView) : Type 0 where
  pub board : m.board ≡ b
  pub told : translators_of b text ≡ Ok m.translators
  pub rules : MeetsRules (lowered b m.translators)

abbrev pub Gives : BoardView → List ℕ → Result MapView MapFault → Type 0
Gives b text (Ok m) = IsMapOf b text m
Gives b text (Err e) = Fails b text e
