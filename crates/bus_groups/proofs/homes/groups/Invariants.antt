use Rattle.bus_groups.proofs.Cited.{◌≡◌, map, take, fold, range_with_len, brought, homes_of, caller_home}
use Rattle.bus_groups.proofs.homes.groups.Given as goal

abbrev pub invariant-loop-mask : goal.invariant-loop-mask
invariant-loop-mask l = l.homes.items ≡ fold brought (range_with_len 0 l.fn.roots) (take l.mask-index l.masks)

abbrev pub invariant-loop-mask-2 : goal.invariant-loop-mask-2
invariant-loop-mask-2 l = l.callers.items ≡ map (caller_home (homes_of l.fn.roots l.masks)) (take l.mask-index l.masks)
