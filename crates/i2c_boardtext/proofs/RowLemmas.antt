-- The tables of an array beside the members that the definitions speak of.
use Rattle.i2c_boardtext.proofs.Cited.{◌≡◌, ℕ, ◌+◌, ◌<◌, ◌≤◌, true, List, [], ◌∷◌, ◌++◌, length, map, drop, ap, ◌∙◌, sym, subst}
use Rattle.i2c_boardtext.proofs.Cited.{list_all-map, is_some, Result, Ok, Err, Data, Members, as_table, view, Value, ◌>>=◌, each, placed}
use Rattle.i2c_boardtext.proofs.Cited.{Fails, elements, row_of, rows_of, is_array_of, BoardFault}
use Rattle.std.proofs.Common.{get_or}
use Rattle.std.proofs.lemmas.List.{drop_more, at_drop_all}
use Rattle.std.proofs.lemmas.List.Sums.{AllPass-from_list_all}
use Rattle.std.specs.Prelude.{IsErrAnd}
use Rattle.i2c_boardtext.proofs.DataLemmas.{mapped}
use Rattle.i2c_boardtext.proofs.RunLemmas.{elements_pass}
use Rattle.i2c_boardtext.specs.BoardText.{Gives}
use Rattle.i2c_boardtext.specs.Items.{members_in}
use Rattle.i2c_boardtext.specs.Rows.{AreTables}
use Rattle.i2c_boardtext.specs.declared.fault.BoardFault.TheVariants as board_fault
use Rattle.i2c_boardtext.specs.declared.fault.TableFault.{TableFault}
use Rattle.i2c_boardtext.specs.declared.fault.TableName.{TableName}

pub tables_are : (vs : List Value) (d : Data) → map view vs ≡ elements d → is_array_of (λ x. is_some (as_table x)) d ≡ true → AreTables vs
tables_are vs d same h =
    AllPass-from_list_all (λ v. is_some (as_table (view v))) vs
    (sym (list_all-map (λ x. is_some (as_table x)) view vs) ∙ rw same (elements_pass (λ x. is_some (as_table x)) d h))

pub rows_same : (vs : List Value) (ds : List Data) → map view vs ≡ ds → rows_of vs ≡ map members_in ds
rows_same vs ds same = mapped members_in vs ∙ ap (map members_in) same

-- the next table of an array
pub next_row : {X : Type 0} (name : TableName) (read : List X → Members → Result X TableFault) (before : List X) (vs : List Value) (i : ℕ)
    (v : Value) → i < length vs
    → each name read before (rows_of (drop i vs)) ≡
    (placed name (length before) (read before (row_of (get_or vs i v))) >>= λ x. each name read (before ++ x ∷ [])
    (rows_of (drop (i + 1) vs)))
next_row name read before vs i v within = rw (drop_more vs i v within)

-- one table more is read: the value at a place, as a table, under its number
pub read_more : {X : Type 0} (name : TableName) (read : List X → Members → Result X TableFault) (before new : List X) (x : X)
    (whole : Result (List X) BoardFault)
    (vs : List Value) (i : ℕ) (v : Value) (ms : Members) (n : ℕ) → i < length vs
    → v ≡ get_or vs i v → ms ≡ row_of v → n ≡ length before → placed name n (read before ms) ≡ Ok x → new ≡ before ++ x ∷ []
    → each name read before (rows_of (drop i vs)) ≡ whole → each name read new (rows_of (drop (i + 1) vs)) ≡ whole
read_more name read before new x whole vs i v ms n within at row index ok same told =
    let here = ap (λ w. placed name (length before) (read before (row_of w))) (sym at)
    ∙ ap (λ m. placed name (length before) (read before m)) (sym row)
    ∙ ap (λ k. placed name k (read before ms)) (sym index)
    ∙ ok in
    let next = next_row name read before vs i v within
    ∙ ap (λ r. r >>= λ y. each name read (before ++ y ∷ []) (rows_of (drop (i + 1) vs))) here in
    rw same (sym next ∙ told)

-- where no table is left, those that were read are the whole
pub all_read : {X : Type 0} (name : TableName) (read : List X → Members → Result X TableFault) (before : List X)
    (whole : Result (List X) BoardFault) (vs : List Value) (i : ℕ)
    → length vs ≤ i → each name read before (rows_of (drop i vs)) ≡ whole → whole ≡ Ok before
all_read name read before whole vs i over told = sym told ∙ at_drop_all (λ left. each name read before (rows_of left)) vs i over

-- a fault stays one behind what is read next
pub fails_on : {X Y : Type 0} (e : BoardFault) (p : Result X BoardFault) (f : X → Result Y BoardFault) → Fails e p → Fails e (p >>= f)
fails_on board_fault.Memory p f fails = fails
fails_on board_fault.NotToml p f fails = ap (λ r. r >>= f) fails
fails_on (board_fault.Key table index) p f fails = ap (λ r. r >>= f) fails
fails_on (board_fault.Value table index) p f fails = ap (λ r. r >>= f) fails
fails_on (board_fault.Limit which count) p f fails = ap (λ r. r >>= f) fails

-- what is read as a fault fails so
pub fails_with : {Y : Type 0} (e : BoardFault) (p : Result Y BoardFault) → Err e ≡ p → Fails e p
fails_with board_fault.Memory p is = tt
fails_with board_fault.NotToml p is = sym is
fails_with (board_fault.Key table index) p is = sym is
fails_with (board_fault.Value table index) p is = sym is
fails_with (board_fault.Limit which count) p is = sym is

-- the fault that is handed on
pub gives_err : {V Y : Type 0} (look : V → Y) (r : Result V BoardFault) (e : BoardFault) (read : Result Y BoardFault)
    → IsErrAnd r (λ x. x ≡ e) → Fails e read → Gives look r read
gives_err look (Ok x) e read is fails = absurd is
gives_err look (Err x) e read is fails = subst (λ f. Fails f read) (sym is) fails

-- .. and a table with a fault is the fault of the whole
pub fault_read : {X V : Type 0} (look : V → List X) (name : TableName) (read : List X → Members → Result X TableFault) (before : List X)
    (whole : Result (List X) BoardFault)
    (vs : List Value) (i : ℕ) (v : Value) (ms : Members) (n : ℕ) (e : BoardFault) (r : Result V BoardFault) → i < length vs
    → v ≡ get_or vs i v → ms ≡ row_of v → n ≡ length before → Fails e (placed name n (read before ms))
    → each name read before (rows_of (drop i vs)) ≡ whole → IsErrAnd r (λ x. x ≡ e) → Gives look r whole
fault_read {X = X} look name read before whole vs i v ms n e r within at row index fails told is =
    let f : X → Result (List X) BoardFault = λ x. each name read (before ++ x ∷ []) (rows_of (drop (i + 1) vs)) in
    let here = ap (λ k. placed name k (read before ms)) index
    ∙ ap (λ m. placed name (length before) (read before m)) row
    ∙ ap (λ w. placed name (length before) (read before (row_of w))) at in
    let failed = fails_on e (placed name (length before) (read before (row_of (get_or vs i v)))) f (subst (λ p. Fails e p) here fails) in
    gives_err look r e whole is (subst (λ p. Fails e p) (sym (next_row name read before vs i v within) ∙ told) failed)
