use Rattle.reg_cache.proofs.Cited.{◌≡◌, ◌<◌, ◌∙◌, sym, ap, subst, List, None, Reply, asked_by, left_of, ScriptView, hit, known, HasAnswered}
use Rattle.reg_cache.proofs.CacheLemmas.{answered-falls, answered-knows, answered-same, answered-all}
use Rattle.reg_cache.proofs.caller.answer_hits.Goals as goal

pub hits-smaller : goal.hits-smaller
hits-smaller c =
    subst (λ (s : ScriptView). left_of s c.answer_hit.new.script.taken < left_of c.hits.script.script c.hits.script.taken)
    (sym c.answer_hit.ensures.script)
    (answered-falls c.scripts_are_fair.ensures c.hits.script.script c.hits.script.taken c.answer_hit.new.script.taken c.hits.kept.items
    c.answer_hit.new.kept.items (c.answer_hit.ensures.some c.hits-test.true))

pub hits-preserved : goal.hits-preserved
hits-preserved c =
    let answered : HasAnswered c.args.script.now.script c.hits.script.taken c.answer_hit.new.script.taken c.hits.kept.items
    c.answer_hit.new.kept.items =
    subst (λ (s : ScriptView). HasAnswered s c.hits.script.taken c.answer_hit.new.script.taken c.hits.kept.items
    c.answer_hit.new.kept.items)
    c.hits.invariant.script (c.answer_hit.ensures.some c.hits-test.true) in
    record {
      script = c.answer_hit.ensures.script ∙ c.hits.invariant.script;
      room = c.answer_hit.ensures.room;
      taken = λ ks is. answered-same c.scripts_are_fair.ensures c.args.script.now.script c.hits.script.taken c.answer_hit.new.script.taken
          c.hits.kept.items c.answer_hit.new.kept.items ks (c.hits.invariant.knows ks is) answered ∙ c.hits.invariant.taken ks is;
      knows = λ ks is. answered-knows c.args.script.now.script c.hits.script.taken c.answer_hit.new.script.taken
          c.hits.kept.items c.answer_hit.new.kept.items ks (c.hits.invariant.knows ks is) answered;
    }

pub returns-clause-all : goal.returns-clause-all
returns-clause-all c ks is =
    let stays = c.answer_hit.ensures.stays c.hits-test.false in
    let none : hit c.hits.kept.items (asked_by c.args.script.now.script c.hits.script.taken) ≡ None =
    subst (λ (s : ScriptView). hit c.hits.kept.items (asked_by s c.hits.script.taken) ≡ None) c.hits.invariant.script
    (c.answer_hit.ensures.none c.hits-test.false) in
    let same : c.answer_hit.new.script.taken ≡ c.hits.script.taken = ap (λ s. s.taken) stays.0 in
    record {
      taken = same
          ∙ sym (answered-all c.scripts_are_fair.ensures c.args.script.now.script c.hits.script.taken c.hits.kept.items ks
          (c.hits.invariant.knows ks is) none)
          ∙ c.hits.invariant.taken ks is;
      knows = stays.1 ∙ c.hits.invariant.knows ks is ∙ ap (λ (l : List Reply). known (asked_by c.args.script.now.script) ks l) (sym same);
    }
