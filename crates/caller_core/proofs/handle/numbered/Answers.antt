use Rattle.caller_core.proofs.Cited.{◌≡◌, ℕ, List, ◌++◌, codes, refl, sym, ap, subst, ◌∙◌, decimal, IsLine, line-append, decimal-line}
use Rattle.caller_core.proofs.handle.numbered.Goals as goal

pub says_line-requires : goal.says_line-requires
says_line-requires c =
    let name : c.push_bytes.new.out.items ≡ codes "handle " =
    c.in_ok-push_bytes.ensures ∙ ap (λ (xs : List ℕ). xs ++ codes "handle ") c.new-line.ensures.items in
    let same : c.as_slice.result.now ≡ codes "handle " ++ decimal c.args.number =
    c.as_slice.ensures.value ∙ c.in_ok-push_number.ensures ∙ ap (λ (xs : List ℕ). xs ++ decimal c.from.result) name
    ∙ ap (λ n. codes "handle " ++ decimal n) c.from.ensures in
    subst IsLine (sym same) (line-append (codes "handle ") (decimal c.args.number) refl (decimal-line c.args.number))
