use Rattle.i2c_physics.proofs.Cited.{◌≡◌, ℕ, Bool, true, false, [], ◌∷◌, length, ap, sym, refl, ◌∙◌, get_or, arith, length-append, take_all}
use Rattle.i2c_physics.proofs.Cited.{has_at, joins_at, others}
use Rattle.std.proofs.Common.{not}
use Rattle.std.specs.Prelude.{◌&&◌}
use Rattle.i2c_physics.proofs.StepLemmas.{kept-more, left-more}
use Rattle.i2c_physics.proofs.reach.others.Goals as goal
use Rattle.i2c_physics.proofs.reach.others.Goals.{then-not-is_at+then-joins_at, else-not-is_at}
use Rattle.i2c_physics.proofs.reach.others.Goals.{else-not-is_at-via-then-not-is_at+else-joins_at, else-not-is_at-via-else-not-is_at}

pub loop-number-preserved : goal.loop-number-preserved
loop-number-preserved c =
    let was = c.loop-number.invariant in
    let numbers = c.args.numbers.now in
    let i = c.loop-number.number-index in
    let low = c.loop-number-test.true in
    let x = get_or numbers i 0 in
    let places = c.args.places.now in
    let joins = joins_at c.args.chips.now places in
    let has = has_at c.args.addr places in
    let test : ℕ → Bool = λ k. not (has k) && joins k in
    let old = c.loop-number.rest in
    let at : c.is_at.result ≡ has x = c.is_at.ensures ∙ ap (λ a. has_at a places x) c.get.ensures.value in
    elim c.if-not-is_at.branch [
      | then-not-is_at+then-joins_at w ↦
          let grown = w.rest-is ∙ w.push.ensures in
          let other : true ≡ test x =
          ap (λ (h : Bool). not h && true) (sym w.if-not-is_at.true ∙ at)
          ∙ ap (λ (j : Bool). not (has x) && j) (sym w.if-joins_at.true ∙ w.joins_at.ensures) in
          record {
            few = omega (arith, was.few, ap length grown ∙ length-append old (x ∷ []));
            others = kept-more test numbers i true old _ low refl other was.others grown;
          }
      | else-not-is_at w ↦
          let same = w.rest-is in
          let out : false ≡ test x =
          elim w.else-not-is_at.branch [
            | else-not-is_at-via-then-not-is_at+else-joins_at v ↦
                ap (λ (h : Bool). not h && false) (sym v.if-not-is_at.true ∙ at)
                ∙ ap (λ (j : Bool). not (has x) && j) (sym v.if-joins_at.false ∙ v.joins_at.ensures)
            | else-not-is_at-via-else-not-is_at v ↦ ap (λ (h : Bool). not h && joins x) (sym v.if-not-is_at.false ∙ at)
          ] in
          record {
            few = omega (arith, was.few, ap length same);
            others = same ∙ left-more test numbers i false old low refl out was.others;
          }
    ]

pub returns : goal.returns
returns c =
    c.loop-number.invariant.others
    ∙ ap (others c.args.chips.now c.args.places.now c.args.addr)
    (take_all c.loop-number.number-index c.args.numbers.now (omega (arith, c.loop-number-test.false)))
