use Rattle.journal_check.proofs.Cited.{◌≡◌, ℕ, List, Option, Some, length, take, ◌∙◌, ap, subst, IsFirstByte, is_byte}
use Rattle.std.proofs.Common.{unwrap_or}
use Rattle.bus_journal.proofs.FrontLemmas.{feed_found, take_line}
use Rattle.journal_check.proofs.front.first_line.Goals as goal

pub returns : goal.returns
returns c =
    λ line more is same.
    let found : c.memchr.result ≡ Some (length line) = feed_found line more c.memchr.result is
    (subst (λ (xs : List ℕ). IsFirstByte (is_byte 10) xs c.memchr.result) same c.memchr.ensures) in
    let feed : c.unwrap_or-feed.result ≡ length line = c.unwrap_or-feed.ensures
    ∙ ap (λ (o : Option ℕ). unwrap_or o (length c.args.text.now)) found in
    ap (λ (n : ℕ). take n c.args.text.now) feed ∙ ap (take (length line)) same ∙ take_line line more
