use Rattle.bus_groups.proofs.Cited.{◌≡◌, map, take, names_home, least_home}
use Rattle.std.proofs.Common.{if◌then◌else◌}
use Rattle.bus_groups.proofs.homes.brought.Given as goal

abbrev pub invariant-loop-home : goal.invariant-loop-home
invariant-loop-home l = l.new.items ≡ map (λ home. if names_home l.homes l.mask home then least_home l.homes l.mask else home)
    (take l.home-index l.homes)
