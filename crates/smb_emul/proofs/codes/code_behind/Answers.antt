use Rattle.std.proofs.Common.{◌++◌, sym, ap, ◌∙◌, arith}
use Rattle.std.proofs.lemmas.List.{append-nil, take_all}
use Rattle.smb_pec.specs.LongDivision.{pec}
use Rattle.smb_emul.proofs.CodeLemmas.{RunsOn-more}
use Rattle.smb_emul.proofs.codes.code_behind.Goals as goal

pub loop-byte-init : goal.loop-byte-init
loop-byte-init c = λ before is. is ∙ ap pec (sym (append-nil before))

pub loop-byte-preserved : goal.loop-byte-preserved
loop-byte-preserved c =
    let byte = c.type_inv.bytes c.loop-byte.byte-index in
    λ before is.
    c.pec_with-along.ensures
    ∙ RunsOn-more c.args.code c.args.bytes.now c.loop-byte.byte-index c.loop-byte.along c.loop-byte-test.true
    (omega (arith, byte)) c.loop-byte.invariant before is

pub returns : goal.returns
returns c =
    λ before is.
    c.loop-byte.invariant before is
    ∙ ap (λ bytes. pec (before ++ bytes)) (take_all c.loop-byte.byte-index c.args.bytes.now c.loop-byte-test.false)
