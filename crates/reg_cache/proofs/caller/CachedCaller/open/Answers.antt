use Rattle.reg_cache.proofs.Cited.{◌≡◌, ◌≤◌, ◌∙◌, sym, ap, subst, map, length, List, ℕ, BoardView, Kept, unknown}
use Rattle.std.proofs.lemmas.List.{take_all}
use Rattle.reg_cache.specs.Cached.{HoldsNext}
use Rattle.reg_cache.proofs.CacheLemmas.{cached-opens}
use Rattle.reg_cache.proofs.caller.CachedCaller.open.Goals as goal

pub invariant_of-result : goal.invariant_of-result
invariant_of-result c =
    let over : length c.args.devices.items ≤ c.loop-device.device-index =
    subst (λ (l : List ℕ). length l ≤ c.loop-device.device-index) c.as_slice-device-items.ensures.value c.loop-device-test.false in
    let kept : c.loop-device.kept.items ≡ map (unknown c.args.board.now) c.args.devices.items =
    c.loop-device.invariant.items ∙ ap (λ (l : List ℕ). map (unknown c.args.board.now) l)
    (take_all c.loop-device.device-index c.args.devices.items over) in (
      (cached-opens c.scripts_are_fair.ensures (record { script = c.args.script.script; devices = c.of.result.value.items })
          c.args.script.taken
          c.loop-device.kept.items c.requires.opened.untaken
          (kept ∙ ap (λ (b : BoardView). map (unknown b) c.args.devices.items) (sym c.requires.opened.board_is)
          ∙ ap (λ z. map (unknown c.args.script.script.board) z.items) (sym c.of.ensures))).0,
      subst (λ (ks : List Kept). HoldsNext c.args.script.script c.args.script.taken ks c.hold_next.new.held) c.deref.ensures.value
          c.hold_next.ensures.holds,
    )
