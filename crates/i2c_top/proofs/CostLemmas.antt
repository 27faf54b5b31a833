-- What opened scripts cost together is what their texts cost. By induction over the scripts.
use Rattle.i2c_top.proofs.Cited.{◌≡◌, ℕ, ◌+◌, List, [], ◌∷◌, sum_by, refl, sym, ap, ◌∙◌, All-head, All-tail, sum_by-cons, BoardView}
use Rattle.i2c_top.proofs.Cited.{IsOpened, cost_of_script, CallerView, script_on, AreOpened, texts_of, cost_of_texts}

abbrev pub cost_of_opened : CallerView → ℕ
cost_of_opened s = cost_of_script s.script

abbrev cost_on : BoardView → List ℕ → ℕ
cost_on b text = cost_of_script (script_on b text)

pub costs_are : (b : BoardView) (scripts : List CallerView) → AreOpened b scripts
    → sum_by cost_of_opened scripts ≡ cost_of_texts b (texts_of scripts)
costs_are b [] all = refl
costs_are b (s ∷ ss) all =
    let opened : IsOpened b s.script.text s = All-head (λ x. IsOpened b x.script.text x) s ss all in
    let one : cost_of_opened s ≡ cost_on b s.script.text = ap (λ x. cost_on x s.script.text) opened.board_is in
    sum_by-cons cost_of_opened s ss ∙ ap (λ n. n + sum_by cost_of_opened ss) one
    ∙ ap (λ n. cost_on b s.script.text + n) (costs_are b ss (All-tail (λ x. IsOpened b x.script.text x) s ss all))
    ∙ sym (sum_by-cons (cost_on b) s.script.text (texts_of ss))
