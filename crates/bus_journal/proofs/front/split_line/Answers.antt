use Rattle.bus_journal.proofs.Cited.{◌≡◌, ℕ, suc, ◌+◌, List, length, take, drop, ◌∙◌, ap, subst, arith, IsFirstByte, is_byte}
use Rattle.std.proofs.Common.{Option, Some, unwrap_or}
use Rattle.bus_journal.proofs.FrontLemmas.{feed_found, take_line, drop_line}
use Rattle.bus_journal.proofs.front.split_line.Goals as goal

pub returns-clause-parts : goal.returns-clause-parts
returns-clause-parts c =
    λ line more is same.
    let found : c.memchr.result ≡ Some (length line) = feed_found line more c.memchr.result is
    (subst (λ (xs : List ℕ). IsFirstByte (is_byte 10) xs c.memchr.result) same c.memchr.ensures) in
    let feed : c.unwrap_or-feed.result ≡ length line = c.unwrap_or-feed.ensures
    ∙ ap (λ (o : Option ℕ). unwrap_or o (length c.args.text.now)) found in
    let next : c.unwrap_or-feed.result + 1 ≡ suc (length line) = omega (arith, feed) in (
      ap (λ (n : ℕ). take n c.args.text.now) feed ∙ ap (take (length line)) same ∙ take_line line more,
      c.rest_after.ensures ∙ ap (λ (n : ℕ). drop n c.args.text.now) next ∙ ap (drop (suc (length line))) same ∙ drop_line line more,
    )
