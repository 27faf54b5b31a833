use Rattle.i2c_top.proofs.Cited.{◌≡◌, ◌<◌, ℕ, List, [], All, length, map, sym, ◌∙◌, ap, subst, arith, AllZip}
use Rattle.i2c_top.proofs.Cited.{common_steps, length-map, All-push, IsOpened, IsReachOf, CallerView, Reach, CachedView, cacheable_devices}
use Rattle.i2c_top.proofs.Cited.{AreReaches, texts_of}
use Rattle.i2c_top.proofs.CachedRun.{all_cached, cached-next, cached-texts, kept-there, length-all_cached, reaches-by-texts}
use Rattle.i2c_top.proofs.Numbering.{map-push, next-holds, number-below, number-next, over-next, room-next}
use Rattle.i2c_top.proofs.forms.cached.cached_callers.Goals as goal
use Rattle.i2c_top.proofs.forms.cached.cached_callers.Goals.{In_ok-devices}

pub overflow_cast-caller : goal.overflow_cast-caller
overflow_cast-caller c =
    let low = number-below c.loop-script.invariant.over c.in-Some.ensures.steps.0
    (length-all_cached c.args.board.now (texts_of c.args.scripts.items) c.loop-script.yielded) c.len-caller.ensures
    (c.loop-script.callers.ok.0 ∙ sym (length-map c.loop-script.callers.items (λ (x : CachedView). x.script))) in
    let few = c.requires.few in
    omega (arith, low, few)

pub open-requires-clause-opened : goal.open-requires-clause-opened
open-requires-clause-opened c =
    next-holds c.loop-script.invariant.over c.in-Some.ensures.steps.0 (λ s. IsOpened c.args.board.now s.script.text s) c.requires.opened

-- the devices that are opened for a script are those that it may keep
module _ (c : In_ok-devices) where
  abbrev texts : List (List ℕ)
  texts = texts_of c.args.scripts.items

  devices : c.in_ok-devices.devices.items ≡ cacheable_devices c.args.board.now texts c.len-caller.result
  devices =
      let b = c.args.board.now in
      let scripts = c.args.scripts.items in
      let reaches : AllZip (λ s reach. IsReachOf s.script reach) scripts c.reaches_of-reaches.result.items =
      subst (λ (ss : List CallerView). AllZip (λ s reach. IsReachOf s.script reach) ss c.reaches_of-reaches.result.items)
      c.as_slice.ensures.value c.reaches_of-reaches.ensures in
      c.in_ok-devices.ensures texts
      (subst (λ (rs : List Reach). AreReaches b texts rs) (sym c.as_slice-in-loop-script.ensures.value)
      (reaches-by-texts b scripts c.reaches_of-reaches.result.items c.requires.opened reaches))

pub open-requires-clause-there : goal.open-requires-clause-there
open-requires-clause-there c =
    let g = (goal.at.open-requires-clause-there c).In_ok-devices in
    subst (λ (ds : List ℕ). All (λ d. d < length c.args.board.now.devices) ds) (sym (devices g))
    (kept-there c.args.board.now (texts g) c.len-caller.result)

pub push_reserved-requires : goal.push_reserved-requires
push_reserved-requires c =
    room-next c.loop-script.invariant.over c.in-Some.ensures.steps.0
    (length-all_cached c.args.board.now (texts_of c.args.scripts.items) c.loop-script.yielded)
    (c.loop-script.callers.ok.0 ∙ sym (length-map c.loop-script.callers.items (λ (x : CachedView). x.script)))

pub loop-script-preserved : goal.loop-script-preserved
loop-script-preserved c =
    let g = (goal.at.loop-script-preserved c).In_ok-devices in
    let b = c.args.board.now in
    let came = c.loop-script.yielded in
    let number = number-next c.loop-script.invariant.over c.in-Some.ensures.steps.0 (length-all_cached b (texts g) came)
    c.len-caller.ensures (c.loop-script.callers.ok.0 ∙ sym (length-map c.loop-script.callers.items (λ (x : CachedView). x.script))) in
    let opened = c.in_ok-open.ensures.script
    ∙ ap (λ (ds : List ℕ). record { script = c.in-Some.script.script; devices = ds }) (devices g) in
    record {
      over = over-next c.loop-script.invariant.over c.in-Some.ensures.steps.0 _ c.in-Some.ensures.steps.1
          (ap (λ (cs : List CachedView). map (λ (x : CachedView). x.script) cs) c.push_reserved.ensures.items
          ∙ map-push (λ (x : CachedView). x.script) c.loop-script.callers.items c.in_ok-open.field-0)
          c.push_reserved.ensures.capacity
          (cached-next b (texts g) came c.in-Some.script c.len-caller.result c.in_ok-open.field-0.script number opened);
      untaken = subst (All (λ (x : CachedView). x.taken ≡ [])) (sym c.push_reserved.ensures.items)
          (All-push (λ (x : CachedView). x.taken ≡ []) c.loop-script.callers.items c.in_ok-open.field-0 c.loop-script.invariant.untaken
          c.in_ok-open.ensures.taken);
    }

pub returns-clause-scripts : goal.returns-clause-scripts
returns-clause-scripts c =
    let b = c.args.board.now in
    let texts = texts_of c.args.scripts.items in
    let came : c.loop-script.yielded ≡ c.args.scripts.items = grind (arith, common_steps) in
    c.loop-script.invariant.over.so_far ∙ ap (λ (ss : List CallerView). all_cached b texts ss) came
    ∙ cached-texts b texts c.args.scripts.items 0 c.requires.opened
