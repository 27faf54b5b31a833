use Rattle.i2c_board.proofs.Cited.{◌≡◌, ℕ, Bool, Option, Some, sym, ◌∙◌, ap, subst, board_of, addr_at, clashes, items, is_at, NoneAfter}
use Rattle.std.specs.Prelude.{IfNone, IfSome}
use Rattle.i2c_board.specs.Searches.{IsFirstAfter}
use Rattle.i2c_board.proofs.layout.Layout.first_clash_with.Goals as goal

pub returns-in-None : goal.returns-in-None
returns-in-None c =
    let b = board_of c.args.self.now in
    let one = c.args.one in
    let found = c.first_device_at.result in
    let same : is_at b (Some c.in_ok-addr.addr) c.home-home.result ≡ clashes b one =
    ap (λ (o : Option ℕ). is_at b o c.home-home.result) (sym c.in_ok-addr.was ∙ c.addr.ensures)
    ∙ ap (λ (h : ℕ). is_at b (addr_at b one) h) c.home-home.ensures in
    record {
      none = subst (λ (test : ℕ → Bool). IfNone found (NoneAfter test one (items b))) same c.first_device_at.ensures.none;
      some = subst (λ (test : ℕ → Bool). IfSome found (λ item. IsFirstAfter test one (items b) item)) same c.first_device_at.ensures.some;
    }
