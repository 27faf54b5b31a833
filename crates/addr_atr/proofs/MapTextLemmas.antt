-- The tables of translators, one after the other.
use Rattle.addr_atr.proofs.Cited.{◌≡◌, ℕ, zero, suc, ◌+◌, ◌<◌, ◌≤◌, true, false, cond, eqb, ◌&&◌, List, [], ◌∷◌, Some, None, refl, sym, ◌∙◌}
use Rattle.addr_atr.proofs.Cited.{ap, subst, arith, length, map, get_or, drop, and_parts, get_member, unless_fault, AliasPair, MapFault}
use Rattle.addr_atr.proofs.Cited.{TranslatorView, may_translate, are_pairs_of, fault_after, AreAddresses, IsMap, IsTargetAddress, BoardView}
use Rattle.addr_atr.proofs.Cited.{elements_in, All, slice_get, unwrap_or, codes, All-map, option_map_or, drop_more, rows_fault, top_rules}
use Rattle.addr_atr.proofs.Cited.{translator_rules, translator_value, pair_value, map_in, FailsRead, row_of, rows_of, table_fault}
use Rattle.std.proofs.Common.{nat_le}
use Rattle.std.proofs.lemmas.Bool.{le-leb, leb-true}
use Rattle.toml.specs.Data.{Data, Members, as_integer}
use Rattle.i2c_boardtext.specs.BoardText.{◌>>=◌}
use Rattle.addr_atr.specs.declared.fault.MapFault.TheVariants as map_fault
use Rattle.i2c_boardtext.specs.Items.{elements, number, nat_of}
use Rattle.i2c_boardtext.specs.declared.fault.TableFault.{TableFault}
use Rattle.i2c_boardtext.specs.declared.fault.TableFault.TheVariants as fault
use Rattle.std.specs.Prelude.{⊤, ℤ, pos, negsuc, int_le, Bool, Option, not, ◌++◌, Result, Ok, Err, option_map}
use Rattle.std.specs.Option.{option_or}
use Rattle.toml.specs.declared.value.Value.{Value}
use Rattle.addr_atr.specs.MapTexts.{placed_in, rows_in, count_fault, top_fault, tested_rows, address_in, as_map, document_of}
use Rattle.addr_atr.specs.MapTexts.{translators_of, GivesRead, DocumentFails, Fails}
use Rattle.i2c_boardtext.specs.Rules.{KeyRule, is_in, is_from_to}

pub rows_more : (rules : List KeyRule) (vs : List Value) (i : ℕ) (v : Value) → i < length vs → v ≡ get_or vs i v
    → rows_fault rules i (rows_of (drop i vs))
    ≡ option_or (placed_in i (table_fault rules (row_of v))) (rows_fault rules (i + 1) (rows_of (drop (i + 1) vs)))
rows_more rules vs i v low is =
    ap (λ xs. rows_fault rules i (rows_of xs)) (drop_more vs i v low ∙ ap (λ x. x ∷ drop (i + 1) vs) (sym is))

pub map_both : {X Y Z : Type 0} (f : Y → Z) (g : X → Y) (xs : List X) → map (λ x. f (g x)) xs ≡ map f (map g xs)
map_both f g [] = refl
map_both f g (x ∷ xs) = ap (λ ys. f (g x) ∷ ys) (map_both f g xs)

-- a top with nothing wrong, and as many tables as there may be: what is tested is these
counted : (n : ℕ) → 1 ≤ n → n ≤ 32 → count_fault n ≡ None
counted n some few =
    ap (λ t. cond (t && nat_le n 32) None (Some (map_fault.Value 0))) (le-leb 1 n some)
    ∙ ap (λ t. cond t None (Some (map_fault.Value 0))) (le-leb n 32 few)

pub some_there : (n : ℕ) → (eqb n 0) ≡ false → 1 ≤ n
some_there zero e = absurd (let f : true ≡ false = e in cc)
some_there (suc n) e = omega arith

pub tested : (muxes : ℕ) (ms : Members) (rs : List Members) (n : ℕ) → table_fault top_rules ms ≡ None → rs ≡ rows_in ms → length rs ≡ n
    → 1 ≤ n → n ≤ 32 → tested_rows muxes ms ≡ unless_fault (rows_fault (translator_rules muxes) 0 rs) rs
tested muxes ms rs n top same count some few =
    let rules = translator_rules muxes in
    ap (λ xs. unless_fault (option_or (option_or (placed_in 0 (table_fault top_rules ms)) (count_fault (length xs)))
    (rows_fault rules 0 xs)) xs) (sym same)
    ∙ ap (λ o. unless_fault (option_or (option_or (placed_in 0 o) (count_fault (length rs))) (rows_fault rules 0 rs)) rs) top
    ∙ ap (λ k. unless_fault (option_or (count_fault k) (rows_fault rules 0 rs)) rs) count
    ∙ ap (λ o. unless_fault (option_or o (rows_fault rules 0 rs)) rs) (counted n some few)

-- no fault of keys, values, muxes or pairs is another one
abbrev pub IsTextFault : MapFault → Type 0
IsTextFault (map_fault.Key i) = ⊤
IsTextFault (map_fault.Value i) = ⊤
IsTextFault (map_fault.Mux i) = ⊤
IsTextFault (map_fault.Pairs i) = ⊤
IsTextFault map_fault.NotToml = ⊥
IsTextFault (map_fault.Rule broken) = ⊥
IsTextFault map_fault.Memory = ⊥

abbrev IsTold : Option MapFault → Type 0
IsTold None = ⊤
IsTold (Some e) = IsTextFault e

placed_told : (i : ℕ) (o : Option TableFault) → IsTold (placed_in i o)
placed_told i None = tt
placed_told i (Some fault.Key) = tt
placed_told i (Some fault.Value) = tt

or_told : (o p : Option MapFault) → IsTold o → IsTold p → IsTold (option_or o p)
or_told None p a b = b
or_told (Some e) p a b = a

count_told : (n : ℕ) → IsTold (count_fault n)
count_told n = elim (nat_le 1 n && nat_le n 32) as (λ t. IsTold (cond t None (Some (map_fault.Value 0)))) [ true ↦ tt | false ↦ tt ]

rows_told : (rules : List KeyRule) (i : ℕ) (ts : List Members) → IsTold (rows_fault rules i ts)
rows_told rules i [] = tt
rows_told rules i (t ∷ ts) =
    or_told (placed_in i (table_fault rules t)) (rows_fault rules (i + 1) ts) (placed_told i (table_fault rules t))
    (rows_told rules (i + 1) ts)

after_told : (b : BoardView) (before ts : List TranslatorView) → IsTold (fault_after b before ts)
after_told b before [] = tt
after_told b before (t ∷ ts) =
    elim (not (may_translate b before t.mux)) as (λ x. IsTold (cond x (Some (map_fault.Mux (length before)))
    (cond (not (are_pairs_of b t)) (Some (map_fault.Pairs (length before))) (fault_after b (before ++ t ∷ []) ts)))) [
      | true ↦ tt
      | false ↦ elim (not (are_pairs_of b t)) as (λ x. IsTold (cond x (Some (map_fault.Pairs (length before)))
          (fault_after b (before ++ t ∷ []) ts))) [
            | true ↦ tt
            | false ↦ after_told b (before ++ t ∷ []) ts
          ]
    ]

unless_told : {X : Type 0} (o : Option MapFault) (x : X) (e : MapFault) → IsTold o → unless_fault o x ≡ Err e → IsTextFault e
unless_told None x e told is = absurd (let f : Ok x ≡ Err e = is in cc)
unless_told {X} (Some d) x e told is = subst IsTextFault (let f : ◌≡◌ {A = Result X MapFault} (Err d) (Err e) = is in let g : d ≡ e = cc in
    g) told

pub tested-told : (muxes : ℕ) (ms : Members) (e : MapFault) → tested_rows muxes ms ≡ Err e → IsTextFault e
tested-told muxes ms e is =
    unless_told (option_or (top_fault ms) (rows_fault (translator_rules muxes) 0 (rows_in ms))) (rows_in ms) e
    (or_told (top_fault ms) (rows_fault (translator_rules muxes) 0 (rows_in ms))
    (or_told (placed_in 0 (table_fault top_rules ms)) (count_fault (length (rows_in ms))) (placed_told 0 (table_fault top_rules ms))
    (count_told (length (rows_in ms)))) (rows_told (translator_rules muxes) 0 (rows_in ms))) is

pub fails-read : {Y : Type 0} (e : MapFault) (read : Result Y MapFault) → IsTextFault e → read ≡ Err e → FailsRead e read
fails-read (map_fault.Key i) read told is = is
fails-read (map_fault.Value i) read told is = is
fails-read (map_fault.Mux i) read told is = is
fails-read (map_fault.Pairs i) read told is = is
fails-read map_fault.NotToml read told is = absurd told
fails-read (map_fault.Rule broken) read told is = absurd told
fails-read map_fault.Memory read told is = tt

-- translators with a fault, and with none
pub fault-told : (b : BoardView) (ts us : List TranslatorView) (e : MapFault) → us ≡ ts → fault_after b [] us ≡ Some e
    → FailsRead e (as_map b ts)
fault-told b ts us e same is =
    let here : fault_after b [] ts ≡ Some e = ap (fault_after b []) (sym same) ∙ is in
    fails-read e (as_map b ts) (subst IsTold here (after_told b [] ts)) (ap (λ o. unless_fault o ts) here)

pub map-told : (b : BoardView) (ts us : List TranslatorView) → us ≡ ts → fault_after b [] us ≡ None → as_map b ts ≡ Ok us
map-told b ts us same is =
    ap (λ o. unless_fault o ts) (ap (fault_after b []) (sym same) ∙ is) ∙ ap (λ x. Ok x) (sym same)

-- addresses are in range, as they are read
range_of : (o : Option ℤ) → unwrap_or (option_map (is_from_to 0x08 0x77) o) false ≡ true → IsTargetAddress
    (unwrap_or (option_map nat_of o) 0)
range_of None h = absurd (let f : false ≡ true = h in cc)
range_of (Some (pos n)) h =
    let both = and_parts (int_le (pos 0x08) (pos n)) (int_le (pos n) (pos 0x77)) h in
    let low : 0x08 ≤ n = leb-true 0x08 n both.0 in
    let high : n ≤ 0x77 = leb-true n 0x77 both.1 in
    (low, high)
range_of (Some (negsuc n)) h = absurd (let f : false ≡ true = h in cc)

address_fits : (d : Data) → IsTargetAddress (address_in d)
address_fits d = by (is_in 0x08 0x77 d) refl
  where
    by : (t : Bool) → is_in 0x08 0x77 d ≡ t → IsTargetAddress (cond t (number d) 0x08)
    by true is = range_of (as_integer d) is
    by false is = (omega arith, omega arith)

at_fits : (o : Option Data) → IsTargetAddress (option_map_or address_in o 0x08)
at_fits None = (omega arith, omega arith)
at_fits (Some d) = address_fits d

pairs-fit : (ds : List Data) → AreAddresses (map pair_value ds)
pairs-fit ds = (
  All-map (λ (p : AliasPair). IsTargetAddress p.addr) pair_value ds (λ j x low. at_fits (slice_get (elements (get_or ds j x)) 0)),
  All-map (λ (p : AliasPair). IsTargetAddress p.alias) pair_value ds (λ j x low. at_fits (slice_get (elements (get_or ds j x)) 1)),
)

pub addresses-fit : (ts : List Members) → All (λ (t : TranslatorView). AreAddresses t.pairs) (map translator_value ts)
addresses-fit ts =
    All-map (λ (t : TranslatorView). AreAddresses t.pairs) translator_value ts
    (λ k d low. pairs-fit (elements_in (get_member (codes "pairs") (get_or ts k d))))

pub map-is : (b : BoardView) (ms : List Members) (us : List TranslatorView) → us ≡ map translator_value ms → fault_after b [] us ≡ None
    → IsMap b us
map-is b ms us same is = record {
  fits = is;
  addresses = subst (λ ts. All (λ (t : TranslatorView). AreAddresses t.pairs) ts) (sym same)
      (addresses-fit ms);
}

-- tables that are tested, and a fault of them
pub rows-told : {X : Type 0} (see : X → List TranslatorView) (b : BoardView) (ms : Members) (n : ℕ) (rs : List Members)
    (r : Result X MapFault)
    → n ≡ length b.muxes → Ok rs ≡ tested_rows n ms → GivesRead see r (as_map b (map translator_value rs)) → GivesRead see r (map_in b ms)
rows-told see b ms n rs r muxes is gives =
    subst (GivesRead see r)
    (ap (λ x. x >>= λ rows. as_map b (map translator_value rows)) (is ∙ ap (λ k. tested_rows k ms) muxes)) gives

pub rows-fail : (b : BoardView) (ms : Members) (n : ℕ) (e : MapFault) → n ≡ length b.muxes → Err e ≡ tested_rows n ms
    → FailsRead e (map_in b ms)
rows-fail b ms n e muxes is =
    let here : tested_rows (length b.muxes) ms ≡ Err e = ap (λ k. tested_rows k ms) (sym muxes) ∙ sym is in
    fails-read e (map_in b ms) (tested-told (length b.muxes) ms e here) (ap (λ x. x >>= λ rows. as_map b (map translator_value rows)) here)

-- THE WHOLE TEXT
pub not-toml : (b : BoardView) (text : List ℕ) (e : MapFault) → DocumentFails text e → Fails b text e
unfolding translators_of
not-toml b text map_fault.Memory h = tt
not-toml b text map_fault.NotToml h = ap (λ r. r >>= map_in b) h
not-toml b text (map_fault.Key i) h = absurd h
not-toml b text (map_fault.Value i) h = absurd h
not-toml b text (map_fault.Mux i) h = absurd h
not-toml b text (map_fault.Pairs i) h = absurd h
not-toml b text (map_fault.Rule broken) h = absurd h

pub in-document : (b : BoardView) (text : List ℕ) (ms : Members) → document_of text ≡ Ok ms → translators_of b text ≡ map_in b ms
unfolding translators_of
in-document b text ms is = ap (λ r. r >>= map_in b) is

pub not-map : (b : BoardView) (text : List ℕ) (ms : Members) (e : MapFault) → document_of text ≡ Ok ms → FailsRead e (map_in b ms)
    → Fails b text e
not-map b text ms map_fault.Memory is h = tt
not-map b text ms map_fault.NotToml is h = absurd h
not-map b text ms (map_fault.Key i) is h = in-document b text ms is ∙ h
not-map b text ms (map_fault.Value i) is h = in-document b text ms is ∙ h
not-map b text ms (map_fault.Mux i) is h = in-document b text ms is ∙ h
not-map b text ms (map_fault.Pairs i) is h = in-document b text ms is ∙ h
not-map b text ms (map_fault.Rule broken) is h = absurd h
