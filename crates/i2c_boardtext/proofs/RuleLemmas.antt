-- A list of rules over the entries of a table.
use Rattle.i2c_boardtext.proofs.Cited.{◌≡◌, ℕ, ◌&&◌, List, [], ◌∷◌, map, refl, ap, list_all, KeyRule, key_rule, are_listed}
use Rattle.std.proofs.Common.{◌||◌, string_bytes}
use Rattle.std.specs.List.{list_any}
use Rattle.std.specs.Map.{keys_of}
use Rattle.std.specs.Prelude.{bytes_eq}
use Rattle.toml.proofs.Views.{Entry}
use Rattle.toml.specs.View.{members_view}
use Rattle.i2c_boardtext.specs.Rules.{is_listed}
use Rattle.i2c_boardtext.specs.declared.rule.Rule.{Rule}

-- by the entries, from the first on
pub are_listed-entries : (rules : List KeyRule) (es : List Entry)
    → list_all (λ k. is_listed rules (string_bytes k)) (keys_of es) ≡ are_listed rules (members_view es)
are_listed-entries rules [] = refl
are_listed-entries rules (e ∷ es) = ap (λ b. is_listed rules (string_bytes e.0) && b) (are_listed-entries rules es)

-- by the rules, from the first on
pub is_listed-rules : (key : List ℕ) (rs : List Rule) → list_any (λ r. bytes_eq key (key_rule r).name) rs ≡ is_listed (map key_rule rs) key
is_listed-rules key [] = refl
is_listed-rules key (r ∷ rs) = ap (λ b. bytes_eq key (key_rule r).name || b) (is_listed-rules key rs)
