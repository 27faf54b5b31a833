use Rattle.i2c_board.proofs.Cited.{◌≡◌, ℕ, ◌+◌, ◌≤◌, Bool, true, false, cond, List, [], ◌∷◌, length, refl, sym, ap, ◌∙◌, arith, BoardView}
use Rattle.i2c_board.proofs.Cited.{board_of, Hop, hops, locks_few, inner_small}
use Rattle.std.proofs.Common.{◌*◌}
use Rattle.i2c_base.specs.declared.ids.LockId.{LockId}
use Rattle.i2c_base.specs.declared.ids.LockId.TheVariants.{Mux}
use Rattle.i2c_spec.specs.Tree.{locks_of}
use Rattle.i2c_spec.specs.Cost.{inner_cost, inner_behind}
use Rattle.i2c_board.proofs.layout.Layout.+steps_at.Goals as goal

-- a hop fewer lies over the bus that the mux stands on
fewer : (b : BoardView) (s on : ℕ) (h : Hop) → hops b s ≡ h ∷ hops b h.on → on ≡ h.on → length (hops b s) ≤ 4 → length (hops b on) ≤ 4
fewer b s on h way same few = omega (arith, few, ap length way, ap (λ (t : ℕ). length (hops b t)) same)

one_lock : (parent : Bool) (x : LockId) (xs : List LockId) → cond parent (1 + length xs) 1 ≡ length (x ∷ cond parent xs [])
one_lock true x xs = omega arith
one_lock false x xs = refl

-- a job costs so much behind one hop more, by what is counted at the bus that the mux stands on
one_hop : (b : BoardView) (s on locks control job n cost : ℕ) (h : Hop) → hops b s ≡ h ∷ hops b h.on → on ≡ h.on
    → locks ≡ length (locks_of 0 (hops b on)) → control ≡ inner_cost (hops b on) 2 → job ≡ inner_cost (hops b on) n
    → cost ≡ inner_behind h (2 * locks) control job → cost ≡ inner_cost (hops b s) n
one_hop b s on locks control job n cost h way same of_locks of_control of_job is =
    let hs = hops b h.on in
    is ∙ ap (λ k. inner_behind h (2 * k) control job) (of_locks ∙ ap (λ x. length (locks_of 0 (hops b x))) same)
    ∙ ap (λ k. inner_behind h (2 * length (locks_of 0 hs)) k job) (of_control ∙ ap (λ x. inner_cost (hops b x) 2) same)
    ∙ ap (inner_behind h (2 * length (locks_of 0 hs)) (inner_cost hs 2)) (of_job ∙ ap (λ x. inner_cost (hops b x) n) same)
    ∙ ap (λ xs. inner_cost xs n) (sym way)

pub steps_at-far-requires : goal.steps_at-far-requires
steps_at-far-requires t c =
    let b = board_of c.args.self.now in
    let on = ap (λ (h : Hop). h.on) c.hop.view_is in (
      omega (arith, c.in-Some.ensures.falls, on),
      (c.requires.plain, fewer b c.args.seg c.hop.inside.on c.in-Some.hop c.in-Some.ensures.first on c.requires.few),
    )

pub steps_behind-requires : goal.steps_behind-requires
steps_behind-requires t c =
    let hs = hops (board_of c.args.self.now) c.hop.inside.on in
    let few = fewer (board_of c.args.self.now) c.args.seg c.hop.inside.on c.in-Some.hop c.in-Some.ensures.first
    (ap (λ (h : Hop). h.on) c.hop.view_is) c.requires.few in
    record {
      few = omega (arith, few, c.steps_at-far.ensures.locks, locks_few 0 hs);
      control = omega (arith, c.steps_at-far.ensures.control, inner_small hs 2 few (omega arith));
      job = omega (arith, c.steps_at-far.ensures.job, inner_small hs 0 few (omega arith));
    }

pub returns-in-Some : goal.returns-in-Some
returns-in-Some t c =
    let b = board_of c.args.self.now in
    let h = c.in-Some.hop in
    let way = c.in-Some.ensures.first in
    let on = ap (λ (x : Hop). x.on) c.hop.view_is in
    let far = c.steps_at-far.ensures in
    record {
      locks =
          c.steps_behind.ensures.locks ∙ ap (λ n. cond h.parent (1 + n) 1) (far.locks ∙ ap (λ x. length (locks_of 0 (hops b x))) on)
          ∙ one_lock h.parent (Mux h.on) (locks_of 0 (hops b h.on)) ∙ ap (λ xs. length (locks_of 0 xs)) (sym way);
      control = one_hop b _ _ _ _ _ _ _ h way on far.locks far.control far.control c.steps_behind.ensures.control;
      job = one_hop b _ _ _ _ _ _ _ h way on far.locks far.control far.job c.steps_behind.ensures.job;
    }
