-- Who holds SCL, as the targets are seen. Nobody begins to hold it at a rise.
use Rattle.bus_lines.proofs.Cited.{◌≡◌, ℕ, zero, suc, Bool, true, false, ◌&&◌, List, [], ◌∷◌, map, refl, ap, ◌∙◌, Mode, Out, In}
use Rattle.bus_lines.proofs.Cited.{Answered, Give, Gave, BoardView, Rooted, Bit, site_of, stands, shifted, where_joined, some_one}
use Rattle.bus_lines.proofs.Cited.{holds_line, NodeState, Rise, whole_on, seen, PlaceView, AreTargets, NumbersView}
use Rattle.bus_lines.proofs.Cited.{RegisterView, shared, or_parts}
use Rattle.wire_spec.specs.Wires.{holds}
use Rattle.bus_lines.proofs.AwayLemmas.{units_away, whole_some}
use Rattle.bus_lines.proofs.UnitLemmas.{address_holds}

-- ---- who holds SCL
nobody : (b : Bit NodeState) → b.site.joined ≡ false → holds_line b ≡ false
nobody b apart = ap (λ j. j && holds b) apart

pub held_as : (b : BoardView) (k : Rooted) (ps : List PlaceView) (held : Bool) (r : RegisterView) (live started : NumbersView)
    (at : List (List ℕ)) (bs : List (Bit NodeState)) → AreTargets k ps held r live started at bs
    → held ≡ some_one holds_line (map (shared r.left r.value) (whole_on b ps bs))
held_as b k ps held r live started at bs are =
    are.clock ∙ whole_some b ps holds_line nobody r.left r.value bs (units_away ps r.left live.items started.items at bs are.units)

-- ---- one target
holds_so : (level : Bool) (a : ℕ) (j h : Bool) (x : NodeState) (m : Mode) (k : ℕ) → holds_line (stands (site_of a j h x) m k) ≡ false
    → holds_line (where_joined (seen (Rise level)) (stands (site_of a j h x) m k)) ≡ false
holds_so level a false h x m k free = refl
holds_so level a true h x Out k free = free
holds_so level a true h x (In address zero v) k free = free
holds_so level a true h x (In true (suc zero) v) k free = address_holds (shifted v level) (stands (site_of a true h x) Out 0)
holds_so level a true h x (In false (suc zero) v) k free = refl
holds_so level a true h x (In address (suc (suc n)) v) k free = free
holds_so level a true h x (Answered begun acked next looks) k free = free
holds_so level a true h x (Give zero) k free = refl
holds_so level a true h x (Give (suc n)) k free = free
holds_so level a true h x (Gave more) k free = free

pub rises_hold : (level : Bool) (bs : List (Bit NodeState)) → some_one holds_line bs ≡ false
    → some_one holds_line (map (where_joined (seen (Rise level))) bs) ≡ false
rises_hold level [] free = refl
rises_hold level (b ∷ bs) free =
    let parts = or_parts (holds_line b) (some_one holds_line bs) free in
    rw (holds_so level b.site.addr b.site.joined b.site.heard b.site.state b.mode b.hold parts.0, rises_hold level bs parts.1) refl
