use Rattle.i2c_board.proofs.Cited.{◌≡◌, Some, None, is_some, sym, ap, ◌∙◌, arith, none-some, Hop, over}
use Rattle.i2c_board.proofs.OverLemmas.{over_none, over_root, over_channel}
use Rattle.i2c_board.proofs.board.Board.over.Goals as goal
use Rattle.i2c_board.proofs.board.Board.over.Goals.{In_ok-hop}

-- what the layout finds is what the board has
found_of : (c : In_ok-hop) → over c.args.self.now c.args.seg ≡ Some c.in_ok-hop.hop
found_of c = sym (ap (λ b. over b c.args.seg) c.layout.ensures.value) ∙ sym c.in_ok-hop.ensures

pub returns-in_err-hop-clause-root : goal.returns-in_err-hop-clause-root
returns-in_err-hop-clause-root c =
    let found : over c.args.self.now c.args.seg ≡ None =
    sym (ap (λ b. over b c.args.seg) c.layout.ensures.value) ∙ sym c.in_err-hop.ensures in (
      λ none. over_none c.args.self.now c.args.seg c.layout.ensures.plain c.requires found,
      λ root. ap is_some c.from_residual.ensures,
    )

pub overflow_cast-result : goal.overflow_cast-result
overflow_cast-result c =
    let d = (goal.at.overflow_cast-result c).In_ok-hop in
    omega (
      arith,
      over_channel d.args.self.now d.args.seg d.in_ok-hop.hop d.layout.ensures.plain d.requires (found_of d),
      ap
          (λ (h : Hop). h.channel) c.hop.view_is,
    )

pub returns-clause-root : goal.returns-clause-root
returns-clause-root c =
    let d = (goal.at.returns-clause-root c).In_ok-hop in (
      λ wrong. cc,
      λ root. absurd (none-some d.in_ok-hop.hop (sym (over_root d.args.self.now d.args.seg d.layout.ensures.plain root) ∙ found_of d)),
    )
