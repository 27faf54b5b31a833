-- A text lists calls or has one first word that names none; a word names a root of the board or none. No induction.
use Rattle.std.proofs.Common.{◌≡◌, ℕ, List, Result, Ok, Err, sym, ◌∙◌, ap, subst, arith}
use Rattle.i2c_top.specs.forms.Extras.{IsExtraRow, IsOfExtra}
use Rattle.i2c_top.specs.declared.status.Status.TheVariants as status
use Rattle.i2c_lab.specs.CallLists.{call_list}
use Rattle.i2c_lab.specs.Faults.{list_row}
use Rattle.i2c_lab.specs.Waves.{wave_row}

abbrev Read : Type 0
Read = Result (List (ℕ × ℕ)) ℕ

both : (r : Read) (calls : List (ℕ × ℕ)) (word : ℕ) → r ≡ Ok calls → r ≡ Err word → ⊥
both r calls word e k = absurd (let h : Ok calls ≡ Err word = sym e ∙ k in cc)

abbrev word_or : ℕ → Read → ℕ
word_or n (Ok calls) = n
word_or n (Err word) = word

pub list-row : IsExtraRow list_row
list-row = record {
  own = λ b text s f. subst IsOfExtra (sym f.same) tt;
  either = λ b text calls s is f. both (call_list _ text) calls f.word is f.fails;
  one = λ b text s r f g.
      g.same ∙ ap (λ n. status.Faults n) (ap (word_or f.word) (sym g.fails ∙ f.fails)) ∙ sym f.same;
}

pub wave-row : IsExtraRow wave_row
wave-row = record {
  own = λ b text s f. subst IsOfExtra (sym f.same) tt;
  either = λ b text root s is f.
      let named = is.named in
      let there = is.there in
      let none = f.none in
      omega (arith, named, there, none);
  one = λ b text s r f g. g.same ∙ sym f.same;
}
