use Rattle.addr_atr.proofs.Cited.{◌∙◌, List, refl, sym, ap, subst, table_view, BoardView, MeetsRules, lowered, FailsRead, map_in}
use Rattle.addr_atr.proofs.Cited.{TranslatorView}
use Rattle.std.proofs.Common.{Ok}
use Rattle.i2c_spec.specs.Rules.{TellsBroken}
use Rattle.addr_atr.proofs.MapTextLemmas.{not-toml, not-map, in-document}
use Rattle.addr_atr.proofs.text.read_map.Goals as goal

pub returns-in-Err : goal.returns-in-Err
returns-in-Err c = record { exact = not-toml c.args.board.now c.args.text.now c.in-Err.fault c.in-Err.ensures.fault }

pub returns-in-Err-map_in : goal.returns-in-Err-map_in
returns-in-Err-map_in c =
    let ms = table_view c.in-Ok.table in
    record {
      exact = not-map c.args.board.now c.args.text.now ms c.in-Err-map_in.fault c.in-Ok.ensures.ok
          (subst (λ (b : BoardView). FailsRead c.in-Err-map_in.fault (map_in b ms)) c.board.ensures.value c.in-Err-map_in.ensures.told);
    }

pub returns-in-Ok-accept : goal.returns-in-Ok-accept
returns-in-Ok-accept c =
    let b : BoardView = c.args.board.now in
    let ms = table_view c.in-Ok.table in
    let told = ap (λ (x : BoardView). map_in x ms) (sym c.board.ensures.value) ∙ c.in-Ok-map_in.ensures.told in
    let ts = ap (λ m. m.translators) c.new.ensures in
    record {
      exact = record {
        board = ap (λ m. m.board) c.new.ensures;
        told = in-document b c.args.text.now ms c.in-Ok.ensures.ok ∙ told ∙ ap (λ (x : List TranslatorView). Ok x) (sym ts);
        rules =
            subst MeetsRules (c.in_ok-low.ensures ∙ ap (lowered b) (c.deref.ensures.value ∙ sym ts))
            (c.in-Ok-accept.ensures.accepted.0 refl);
      };
    }

pub returns : goal.returns
returns c =
    let b : BoardView = c.args.board.now in
    let ms = table_view c.in-Ok.table in
    let told = ap (λ (x : BoardView). map_in x ms) (sym c.board.ensures.value) ∙ c.in-Ok-map_in.ensures.told in
    record {
      exact = (
        c.in-Ok-map_in.translators.items,
        in-document b c.args.text.now ms c.in-Ok.ensures.ok ∙ told,
        subst (λ (x : BoardView). TellsBroken x c.in-Err-accept.broken) (c.in_ok-low.ensures ∙ ap (lowered b) c.deref.ensures.value)
            c.in-Err-accept.ensures.broken,
      );
    }
