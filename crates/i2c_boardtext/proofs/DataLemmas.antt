-- The values of a document beside the lists that the definitions speak of.
use Rattle.i2c_boardtext.proofs.Cited.{◌≡◌, Bool, false, List, [], ◌∷◌, map, Some, option_map, refl, ap, ◌∙◌, sym, list_all-map, list_all}
use Rattle.i2c_boardtext.proofs.Cited.{unwrap_or, Data, view, Value, items_in, is_array_of}
use Rattle.toml.specs.Data.{as_array}
use Rattle.toml.specs.View.{items_of, items_view}
use Rattle.i2c_boardtext.specs.Items.{list_of}

-- the items of a list are the list
pub list_of-items_of : (ds : List Data) → list_of (items_of ds) ≡ ds
list_of-items_of [] = refl
list_of-items_of (d ∷ ds) = ap (λ t. d ∷ t) (list_of-items_of ds)

-- the values of an array, each seen as its data
pub items_in-array : (vs : List Value) (d : Data) → Some (items_view vs) ≡ as_array d → Some (map view vs) ≡ items_in d
items_in-array vs d found = ap Some (sym (list_of-items_of (map view vs))) ∙ ap (option_map list_of) found

-- a test of each value is one of each data
pub tested : (test : Data → Bool) (vs : List Value) (d : Data) → Some (map view vs) ≡ items_in d
    → Some (list_all (λ v. test (view v)) vs) ≡ option_map (list_all test) (items_in d)
tested test vs d found = ap Some (sym (list_all-map test view vs)) ∙ ap (option_map (list_all test)) found

pub tested_array : (test : Data → Bool) (vs : List Value) (d : Data) → Some (map view vs) ≡ items_in d
    → list_all (λ v. test (view v)) vs ≡ is_array_of test d
tested_array test vs d found = ap (λ o. unwrap_or o false) (tested test vs d found)

-- a function of each value is one of each data
pub mapped : {X : Type 0} (f : Data → X) (vs : List Value) → map (λ v. f (view v)) vs ≡ map f (map view vs)
mapped f [] = refl
mapped f (v ∷ vs) = ap (λ t. f (view v) ∷ t) (mapped f vs)
