use Rattle.std.proofs.Common.{◌≡◌, ◌<◌, ℕ, List, [], ◌∷◌, ◌++◌, length, Some, ap, sym, ◌∙◌, rules}
use Rattle.i2c_spec.specs.Tree.{buses}
use Rattle.dev_handle.specs.Handles.{HandlesView, fresh}
use Rattle.dev_handle.specs.Stored.{stored}
use Rattle.dev_handle.proofs.OpenLemmas.{opened_there, pushed_on_board}
use Rattle.dev_handle.proofs.StoredLemmas.{opened_stored}
use Rattle.dev_handle.proofs.handles.Handles.open.Goals as goal

pub returns-clause-after : goal.returns-clause-after
returns-clause-after c =
    let keys : List ℕ = c.self.inside.keys.items in
    let key = c.insert_reserved-key.result in
    let slab = c.reserve-2.new.self in
    let later = c.insert_reserved-key in
    let items : c.push_reserved.new.self.items ≡ keys ++ key ∷ [] =
    c.push_reserved.ensures.items ∙ ap (λ (xs : List ℕ). xs ++ key ∷ []) c.reserve.ensures.items in
    let number : c.len-number.result ≡ length keys = search rules in
    let front : stored slab keys ≡ c.args.self.now = ap (λ s. stored s keys) c.reserve-2.ensures.rest_kept ∙ c.self.view_is in
    let there : c.args.bus < buses c.args.board.now = search rules in
    ap (stored later.new.self) items
    ∙ opened_stored slab later.new.self keys key c.len-number.result (fresh c.args.bus) number
    later.ensures.was_vacant later.ensures.updates
    ∙ ap (λ (v : HandlesView). v ++ Some (fresh c.args.bus) ∷ []) front
    ∙ sym (opened_there c.args.board.now c.args.self.now c.args.bus there)

pub returns-clause-on_board : goal.returns-clause-on_board
returns-clause-on_board c =
    let board = c.args.board.now in
    let there : c.args.bus < buses board = search rules in
    let opened = returns-clause-after c ∙ opened_there board c.args.self.now c.args.bus there in
    λ all. rw opened (pushed_on_board board c.args.self.now c.args.bus there all)
