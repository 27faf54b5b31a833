-- To whom an address on a bus leads, and whether the muxes over the bus let a message through.
use Rattle.std.specs.Prelude.{ℕ, ◌==◌, Bool, true, false, not, ◌&&◌, ◌||◌, List, [], ◌∷◌, reverse, Option, Some, None, if◌then◌else◌}
use Rattle.std.specs.List.{list_any, position_from}
use Rattle.i2c_base.specs.declared.tree.Grant.{Grant}
use Rattle.i2c_base.specs.declared.tree.Grant.TheVariants as grant
use Rattle.i2c_base.specs.declared.tree.Way.{Way}
use Rattle.i2c_base.specs.declared.tree.Way.TheVariants as way
use Rattle.i2c_base.specs.Board.{BoardView}
use Rattle.i2c_spec.specs.Tree.{Hop, hops, is_on_path, is_below, is_aside, is_absent, is_held}

abbrev pub has_address : ℕ → Option ℕ → Bool
has_address a None = false
has_address a (Some x) = x == a

-- a mux chip, or a device, with this address stands on one of the buses that pass the test
abbrev pub some_chip : BoardView → ℕ → (ℕ → Bool) → Bool
some_chip b a on = list_any (λ m. has_address a m.addr && on m.bus) b.muxes

abbrev pub some_device : BoardView → ℕ → (ℕ → Bool) → Bool
some_device b a on = list_any (λ d. (d.addr == a) && on d.bus) b.devices

abbrev pub some_bound : BoardView → ℕ → (ℕ → Bool) → Bool
some_bound b a on = list_any (λ d. d.bound && ((d.addr == a) && on d.bus)) b.devices

abbrev pub named_by : Option ℕ → Grant
named_by None = grant.Nobody
named_by (Some d) = grant.Named d

-- An address on a bus is busy where a mux chip on the path has it, or a chip or device below the bus, or one behind a mux
-- beside the path that stays as it is, or, unless forced, a bound device on the path; else it leads to the device on the path
-- that has it, or to nobody.
-- (Linux i2c-core: i2c_check_addr_busy looks at the parents and the children of an adapter in the same way.)
abbrev pub grant_of : BoardView → ℕ → ℕ → Bool → Grant
grant_of b s a force =
    if some_chip b a (is_on_path b s) then grant.Busy
    else if some_chip b a (λ u. is_below b u s) || some_device b a (λ u. is_below b u s) then grant.Busy
    else if some_chip b a (is_aside b s) || some_device b a (is_aside b s) then grant.Busy
    else if not force && some_bound b a (is_on_path b s) then grant.Busy
    else named_by (position_from (λ d. (d.addr == a) && is_on_path b s d.bus) 0 b.devices)

abbrev pub is_busy : Grant → Bool
is_busy grant.Busy = true
is_busy (grant.Named d) = false
is_busy grant.Nobody = false

-- the device that is named
abbrev pub named_of : Grant → Option ℕ
named_of (grant.Named d) = Some d
named_of grant.Nobody = None
named_of grant.Busy = None

-- Whether the muxes over a bus let a message through, looked at from the root: not past a mux whose chip is
-- absent, nor past an arbitrator that stays with its other controller.
abbrev pub way_through : BoardView → List Hop → Way
way_through b [] = way.Clear
way_through b (h ∷ hs) =
    if is_absent b h.mux then way.NoAck h.mux
    else if is_held b h.mux then way.Held h.mux
    else way_through b hs

abbrev pub way_of : BoardView → ℕ → Way
way_of b s = way_through b (reverse (hops b s))
