use Rattle.bus_groups.proofs.Cited.{◌≡◌, ℕ, List, [], ◌∷◌, ◌++◌, length, map, sym, ◌∙◌, ap, arith, vec_len, range_with_len, length-append}
use Rattle.bus_groups.proofs.Cited.{length-map, map-append, cost_of_home}
use Rattle.std.proofs.lemmas.Grind.{common_steps}
use Rattle.bus_groups.proofs.RoundLemmas.{range-told}
use Rattle.bus_groups.proofs.rounds.shares.Goals as goal

pub loop-ports-preserved : goal.loop-ports-preserved
loop-ports-preserved g c =
    let at = c.loop-ports.invariant in
    let f : ℕ → ℕ = λ h. cost_of_home c.args.homes.now h c.args.costs.now in
    let n : ℕ = length c.loop-ports.shares.items in
    let len : vec_len c.loop-ports.shares ≡ n = c.loop-ports.shares.ok.0 in
    let place : c.len-in-loop-ports.result ≡ n = c.len-in-loop-ports.ensures ∙ len in
    let limit : c.cost_of_home-limit.result ≡ f n = c.cost_of_home-limit.ensures ∙ ap f place in
    record {
      ports = grind (arith, common_steps);
      callers = grind (arith, common_steps);
      goes = grind (arith, common_steps);
      room = grind (arith, common_steps);
      limits =
          ap (map (λ share. share.limit)) c.push_reserved.ensures.items
          ∙ map-append (λ share. share.limit) c.loop-ports.shares.items _
          ∙ ap (λ (ks : List ℕ). ks ++ c.cost_of_home-limit.result ∷ []) at.limits
          ∙ ap (λ k. map f (range_with_len 0 n) ++ k ∷ []) limit
          ∙ sym (range-told f n)
          ∙ ap (λ k. map f (range_with_len 0 k)) (sym (ap length c.push_reserved.ensures.items
          ∙ length-append c.loop-ports.shares.items _));
      same = at.same;
    }

pub returns-clause-limits : goal.returns-clause-limits
returns-clause-limits g c =
    let at = c.loop-ports.invariant in
    let all : map (λ share. share.ports) c.loop-ports.shares.items ≡ c.args.ports.items = grind (arith, common_steps) in
    let count : length c.loop-ports.shares.items ≡ length c.args.ports.items =
    sym (length-map c.loop-ports.shares.items (λ share. share.ports)) ∙ ap length all in
    at.limits ∙ ap (λ k. map (λ h. cost_of_home c.args.homes.now h c.args.costs.now) (range_with_len 0 k)) count
