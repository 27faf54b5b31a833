use Rattle.i2c_top.proofs.Cited.{◌≡◌, ◌∙◌, true, List, All, sym, subst, has_caller, JournalView, Follows}
use Rattle.i2c_top.proofs.CoreLemmas.{words-placed, goes-on-whole, setups-alone, taken-apart}
use Rattle.i2c_top.proofs.callers.followed.Goals as goal

pub follow-requires-clause-words : goal.follow-requires-clause-words
follow-requires-clause-words g c κs within =
    let of = c.in_ok-core.ensures.of in
    subst (λ (ss : List _). All (λ n. has_caller ss n ≡ true) c.args.words.now) (sym of.scripts_are)
    (words-placed g.P.Port g.C.Caller c.args.board.now of.plain c.args.callers.items c.requires.may.ready c.args.words.now c.requires.named)

pub returns-clause-left : goal.returns-clause-left
returns-clause-left g c =
    let run = c.follow.ensures in
    let apart = c.take_apart.ensures in
    taken-apart g.P.Port g.C.Caller c.args.board.now c.args.callers.items c.args.ports.items c.in_ok-core.core c.follow.new.self
    c.take_apart.result c.in_ok-core.ensures.of run.opening run.roots
    apart.scripts apart.taken apart.worlds apart.logs apart.journal run.told run.through

pub returns-clause-follows : goal.returns-clause-follows
returns-clause-follows g c tells =
    subst (λ (j : JournalView). Follows c.args.words.now j.entries) (sym c.take_apart.ensures.journal)
    (goes-on-whole c.args.words.now c.in_ok-core.core.journal.entries c.follow.new.self.journal.entries
    c.in_ok-core.ensures.entries (c.follow.ensures.follows tells))

pub returns-clause-setups : goal.returns-clause-setups
returns-clause-setups g c =
    setups-alone g.P.Port.setup c.take_apart.result.ports.items c.args.ports.items
    (c.take_apart.ensures.setups ∙ c.follow.ensures.setups ∙ c.in_ok-core.ensures.setups)
