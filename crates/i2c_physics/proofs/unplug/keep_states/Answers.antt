use Rattle.i2c_physics.proofs.Cited.{◌≡◌, ◌<◌, ◌≤◌, ◌+◌, ◌++◌, ◌∷◌, length, map, drop, get_or, slice_index, inl, inr, append-nil, refl, sym}
use Rattle.i2c_physics.proofs.Cited.{◌∙◌, ap, subst, arith, option_to_list, slice_get-get_or, states_from, IsThere}
use Rattle.std.proofs.lemmas.Bool.{cases_lt}
use Rattle.std.proofs.lemmas.List.{drop_all, drop_more}
use Rattle.std.proofs.lemmas.Option.{get_or_from_slice_get}
use Rattle.i2c_physics.proofs.TakeLemmas.{one-kept, there-before}
use Rattle.i2c_physics.proofs.unplug.keep_states.Goals as goal
use Rattle.i2c_physics.proofs.unplug.keep_states.Goals.{in-Some, in_default}

pub loop-number-preserved : goal.loop-number-preserved
loop-number-preserved g c =
    let was = c.loop-number.invariant in
    let n = c.loop-number.number in
    let homes = c.args.homes.now.items in
    let home = c.home-item.result in
    let ws = map (λ p. (g.P.Returned.port p).world) c.loop-number.ports.items in
    let vs = map (λ p. (g.P.Returned.port p).world) c.take_from.new.ports.items in
    let us = map (λ p. (g.P.Returned.port p).world) c.args.ports.now.items in
    let all = c.args.states.now.items ++ states_from 0 homes us in
    let low : n < length homes = subst (λ hs. n < length hs) c.deref-home-items.ensures.value c.loop-number-test.true in
    let is : home ≡ slice_index homes n =
    c.home-item.is ∙ ap (λ hs. get_or hs n home) c.deref-home-items.ensures.value
    ∙ sym (get_or_from_slice_get homes n (get_or homes n home) 0 (slice_get-get_or homes n home low)) in
    let dropped : drop n homes ≡ home ∷ drop (n + 1) homes = drop_more homes n 0 low ∙ ap (λ h. h ∷ drop (n + 1) homes) (sym is) in
    let here : IsThere us (slice_index homes n) n = subst (λ h. IsThere us h n) is (was.before home n c.take_from.ensures.there) in
    elim c.match-take_from.branch [
      | in-Some w ↦ record {
        grown = rw w.states-is (omega arith);
        most = rw w.states-is (omega arith);
        kept = one-kept c.loop-number.states.items c.match-take_from.states.items c.take_from.result homes n home ws vs all dropped
            c.take_from.ensures.value c.take_from.ensures.worlds
            (ap (λ v. v.items) w.states-is ∙ w.push_reserved.ensures.items
            ∙ sym (ap (λ o. c.loop-number.states.items ++ option_to_list o) w.in-Some.is)) was.kept;
        there = λ k under. elim (cases_lt k n) [
          | inl before ↦ was.there k before
          | inr last ↦ let e : n ≡ k = omega arith in
              subst (λ j. IsThere us (slice_index homes j) j) e here
        ];
        before = λ h k there. was.before h k (there-before ws vs home n h k c.take_from.ensures.worlds there);
        logs = c.take_from.ensures.logs ∙ was.logs;
      }
      | in_default w ↦ record {
        grown = rw w.states-is (omega arith);
        most = rw w.states-is (omega arith);
        kept = one-kept c.loop-number.states.items c.match-take_from.states.items c.take_from.result homes n home ws vs all dropped
            c.take_from.ensures.value c.take_from.ensures.worlds
            (ap (λ v. v.items) w.states-is ∙ sym (append-nil c.loop-number.states.items)
            ∙ sym (ap (λ o. c.loop-number.states.items ++ option_to_list o) w.in_default.is)) was.kept;
        there = λ k under. elim (cases_lt k n) [
          | inl before ↦ was.there k before
          | inr last ↦ let e : n ≡ k = omega arith in
              subst (λ j. IsThere us (slice_index homes j) j) e here
        ];
        before = λ h k there. was.before h k (there-before ws vs home n h k c.take_from.ensures.worlds there);
        logs = c.take_from.ensures.logs ∙ was.logs;
      }
    ]

pub loop-number-init : goal.loop-number-init
loop-number-init g c = record {
  grown = omega arith;
  most = omega arith;
  kept = refl;
  there = λ k under. absurd (omega (arith, under));
  before = λ home k there. there;
  logs = refl;
}

pub push_reserved-requires : goal.push_reserved-requires
push_reserved-requires g c =
    omega (
      arith,
      c.loop-number.invariant.grown,
      c.loop-number.invariant.most,
      c.loop-number-test.true,
      c.deref-home-items.ensures.len,
      c.requires,
    )

pub returns-clause-kept : goal.returns-clause-kept
returns-clause-kept g c =
    let n = c.loop-number.number in
    let homes = c.args.homes.now.items in
    let ws = map (λ p. (g.P.Returned.port p).world) c.loop-number.ports.items in
    let over = subst (λ hs. length hs ≤ n) c.deref-home-items.ensures.value c.loop-number-test.false in
    sym (append-nil c.loop-number.states.items)
    ∙ ap (λ hs. c.loop-number.states.items ++ states_from n hs ws) (sym (drop_all n homes over)) ∙ c.loop-number.invariant.kept

pub returns-clause-there : goal.returns-clause-there
returns-clause-there g c = λ k under. c.loop-number.invariant.there k
    (omega (arith, under, c.loop-number-test.false, c.deref-home-items.ensures.len))

pub returns-clause-logs : goal.returns-clause-logs
returns-clause-logs g c = c.loop-number.invariant.logs
