use Rattle.i2c_top.proofs.Cited.{◌∙◌, sym, ap, list_all, string_bytes}
use Rattle.std.proofs.lemmas.List.Folds.{list_all-map}
use Rattle.i2c_top.specs.Names.{is_name}
use Rattle.i2c_top.proofs.words.are_names.Goals as goal

pub returns : goal.returns
returns c =
    c.each_is_name.ensures ∙ sym (list_all-map is_name string_bytes c.words_from.result.now) ∙ ap (list_all is_name) c.words_from.ensures
