-- The words of a list of calls, one after the other. No induction.
use Rattle.std.proofs.Common.{◌≡◌, ℕ, ◌+◌, List, [], ◌∷◌, ◌++◌, length, Option, Some, Result, Ok, Err, refl, sym, ◌∙◌, ap}
use Rattle.std.proofs.Common.{append_assoc}
use Rattle.std.proofs.lemmas.List.{length-append}
use Rattle.i2c_lab.specs.CallLists.{call_at, call_then, calls_from}

-- calls before what is read after them
abbrev pub after_calls : List (ℕ × ℕ) → Result (List (ℕ × ℕ)) ℕ → Result (List (ℕ × ℕ)) ℕ
after_calls cs (Ok ds) = Ok (cs ++ ds)
after_calls cs (Err word) = Err word

one_after : (cs : List (ℕ × ℕ)) (n : ℕ) (c : ℕ × ℕ) (r : Result (List (ℕ × ℕ)) ℕ)
    → after_calls (cs ++ c ∷ []) r ≡ after_calls cs (call_then n (Some c) r)
one_after cs n c (Ok ds) = ap (λ (xs : List (ℕ × ℕ)). Ok xs) (append_assoc cs (c ∷ []) ds)
one_after cs n c (Err word) = refl

-- a word that names a call stands after these calls
more_calls : (roots : ℕ) (cs : List (ℕ × ℕ)) (c : ℕ × ℕ) (word : List ℕ) (words : List (List ℕ)) → call_at roots (length cs) word ≡ Some c
    → after_calls (cs ++ c ∷ []) (calls_from roots (length (cs ++ c ∷ [])) words)
    ≡ after_calls cs (calls_from roots (length cs) (word ∷ words))
more_calls roots cs c word words at =
    ap (λ (n : ℕ). after_calls (cs ++ c ∷ []) (calls_from roots n words)) (length-append cs (c ∷ []))
    ∙ one_after cs (length cs) c (calls_from roots (length cs + 1) words)
    ∙ ap (λ (o : Option (ℕ × ℕ)). after_calls cs (call_then (length cs) o (calls_from roots (length cs + 1) words))) (sym at)

pub calls-more : (roots : ℕ) (cs cs_now : List (ℕ × ℕ)) (c : ℕ × ℕ) (n : ℕ) (word : List ℕ) (entries words words_now : List (List ℕ))
    (r : Result (List (ℕ × ℕ)) ℕ)
    → entries ≡ word ∷ words → words_now ≡ words → cs_now ≡ cs ++ c ∷ [] → n ≡ length cs → call_at roots n word ≡ Some c
    → after_calls cs (calls_from roots (length cs) entries) ≡ r
    → after_calls cs_now (calls_from roots (length cs_now) words_now) ≡ r
calls-more roots cs cs_now c n word entries words words_now r e rest pushed size at same =
    ap (λ (xs : List (ℕ × ℕ)). after_calls xs (calls_from roots (length xs) words_now)) pushed
    ∙ ap (λ (ws : List (List ℕ)). after_calls (cs ++ c ∷ []) (calls_from roots (length (cs ++ c ∷ [])) ws)) rest
    ∙ more_calls roots cs c word words (ap (λ (k : ℕ). call_at roots k word) (sym size) ∙ at)
    ∙ ap (λ (x : List (List ℕ)). after_calls cs (calls_from roots (length cs) x)) (sym e) ∙ same
