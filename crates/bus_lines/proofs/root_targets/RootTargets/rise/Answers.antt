use Rattle.bus_lines.proofs.Cited.{◌≡◌, ℕ, suc, ◌-◌, ◌<◌, ◌/◌, Bool, Option, Some, None, refl, sym, ap, ◌∙◌, arith, rise, shifted, some_one}
use Rattle.bus_lines.proofs.Cited.{◌∷◌, Level, holds_line, NO_ADDRESS, node_table, Rise, TargetsView, RegisterView}
use Rattle.bus_lines.specs.Known.{AreListed}
use Rattle.bus_lines.proofs.InvariantLemmas.{coming_are, rises_coming, none_comes, some_comes, last_comes, more_comes}
use Rattle.bus_lines.proofs.KeptLemmas.{kept_with}
use Rattle.bus_lines.proofs.NumberedLemmas.{same_some}
use Rattle.bus_lines.proofs.RiseLemmas.{held_as, rises_hold}
use Rattle.bus_lines.proofs.RootLemmas.{rooted, bits_in, whole_in, seen_after, listed, whole_seen, freed_listed, told_seen, mid_kept}
use Rattle.bus_lines.proofs.RootLemmas.{told_kept, last_seen}
use Rattle.bus_lines.proofs.root_targets.RootTargets.rise.Goals as goal
use Rattle.bus_lines.proofs.root_targets.RootTargets.rise.Goals.{After-list_joined}

some_none : (x : ℕ) → Some x ≡ None → ⊥
some_none x e = cc

-- a byte comes of the last bit of an address alone
record IsLast (r now : RegisterView) (level : Bool) (byte : ℕ) : Type 0 where
  pub last : r.left ≡ 1
  pub byte_is : byte ≡ shifted r.value level
  pub over : now.left ≡ 0

taken_last : (r now : RegisterView) (level : Bool) (got : Option ℕ) (byte : ℕ) → 0 < r.left
    → (r.left ≡ 1 → got ≡ Some (shifted r.value level)) → ((n : ℕ) → r.left ≡ suc (suc n) → got ≡ None)
    → now ≡ record { left = r.left - 1; value = shifted r.value level } → got ≡ Some byte → IsLast r now level byte
taken_last r now level got byte some last more value is =
    let one : r.left ≡ 1 = last_comes r.left some (λ n e. some_none byte (sym is ∙ more n e)) in
    record {
      last = one;
      byte_is = same_some (sym is ∙ last one);
      over = ap (λ (x : RegisterView). x.left) value ∙ omega (arith, one);
    }

pub invariant_of-self : goal.invariant_of-self
invariant_of-self c =
    let i = c.self.inside in
    let free = held_as i.board.value (rooted i) i.places.items i.held i.address i.live i.started i.at (bits_in i)
    c.self.invariant.kept.are ∙ ap (λ (v : TargetsView). some_one holds_line v.bits) c.self.view_is ∙ c.requires in
    freed_listed i c.self.invariant (Rise c.args.level) tt
    (none_comes c.is_coming.result i.address.left c.is_coming.ensures c.if-not-is_coming.true) _ c.as_slice.ensures.value
    _ c.tell.ensures.targets (rises_hold c.args.level (bits_in i)) free

pub returns-then-not-is_coming : goal.returns-then-not-is_coming
returns-then-not-is_coming c =
    let i = c.self.inside in
    seen_after i (λ b. rise node_table b c.args.level) (λ s. Level c.args.level ∷ s)
    (told_seen i c.self.invariant (Rise c.args.level) tt
    (none_comes c.is_coming.result i.address.left c.is_coming.ensures c.if-not-is_coming.true) _ c.as_slice.ensures.value
    _ c.tell.ensures.targets i.held (invariant_of-self c))
    c.add_rise.ensures c.self.view_is

-- who is joined is read anew of those at the address
read_anew : (c : After-list_joined)
    → AreListed (rooted c.self.inside) c.self.inside.places.items c.self.inside.held c.self.inside.address c.self.inside.live
    c.self.inside.started c.list_joined.new.list c.self.inside.at c.list_joined.new.bits.items
read_anew c =
    listed c.self.inside c.self.invariant c.list_joined.new.list
    (mid_kept c.self.inside c.self.invariant c.in-Some.byte _ c.at.ensures _ c.as_slice-in-Some.ensures.value
    _ c.list_joined.ensures.bits) c.list_joined.ensures.room refl

pub call-requires-clause-index : goal.call-requires-clause-index
call-requires-clause-index c = (read_anew (goal.at.call-requires-clause-index c).After-list_joined).kept.index

pub call-requires-clause-live : goal.call-requires-clause-live
call-requires-clause-live c = (read_anew (goal.at.call-requires-clause-live c).After-list_joined).kept.live_room

pub call-requires-clause-started : goal.call-requires-clause-started
call-requires-clause-started c = (read_anew (goal.at.call-requires-clause-started c).After-list_joined).kept.started_room

last : (c : goal.After-call) → IsLast c.self.inside.address c.take.new.self c.args.level c.in-Some.byte
last c =
    taken_last c.self.inside.address c.take.new.self c.args.level c.take.result c.in-Some.byte
    (some_comes c.is_coming.result c.self.inside.address.left c.is_coming.ensures c.if-not-is_coming.false) c.take.ensures.last
    c.take.ensures.more c.take.ensures.value c.in-Some.is

pub invariant_of-self-in-Some : goal.invariant_of-self-in-Some
invariant_of-self-in-Some c =
    let i = c.self.inside in
    let low : c.in-Some.byte / 2 < NO_ADDRESS = omega arith in
    let some = some_comes c.is_coming.result i.address.left c.is_coming.ensures c.if-not-is_coming.false in
    let call = c.call.ensures in
    listed i c.self.invariant c.list_joined.new.list
    (told_kept i c.self.invariant c.in-Some.byte _ c.at.ensures _ c.as_slice-in-Some.ensures.value _ c.list_joined.ensures.bits
    c.call.new.live c.call.new.started call.live call.started call.live_room call.started_room _ call.bits low some c.take.new.self
    (last c).over)
    c.list_joined.ensures.room call.live_room

pub returns-in-Some : goal.returns-in-Some
returns-in-Some c =
    let i = c.self.inside in
    let low : c.in-Some.byte / 2 < NO_ADDRESS = omega arith in
    let call = c.call.ensures in
    seen_after i (λ b. rise node_table b c.args.level) (λ s. Level c.args.level ∷ s)
    (whole_seen i c.self.invariant (λ b. rise node_table b c.args.level) (invariant_of-self-in-Some c).kept
    (last_seen i c.self.invariant c.in-Some.byte _ c.at.ensures _ c.as_slice-in-Some.ensures.value _ c.list_joined.ensures.bits
    c.call.new.live c.call.new.started call.live call.started call.live_room call.started_room _ call.bits low (last c).last
    c.args.level (last c).byte_is c.take.new.self (last c).over))
    c.add_rise.ensures c.self.view_is

pub invariant_of-self-in_default : goal.invariant_of-self-in_default
invariant_of-self-in_default c =
    let i = c.self.inside in
    let some = some_comes c.is_coming.result i.address.left c.is_coming.ensures c.if-not-is_coming.false in
    let more = more_comes i.address.left some (λ last. c.in_default.not-Some _ (c.take.ensures.last last)) in
    let was = c.self.invariant.kept in
    listed i c.self.invariant i.called
    (kept_with (rooted i) i.places.items i.held i.address c.take.new.self i.live i.started i.at i.bits.items was
    (coming_are (rooted i) i.places.items i.held i.address i.live i.started i.at (bits_in i) was.are more.0 more.1 c.take.new.self
    c.args.level c.take.ensures.value))
    refl refl

pub returns-in_default : goal.returns-in_default
returns-in_default c =
    let i = c.self.inside in
    let some = some_comes c.is_coming.result i.address.left c.is_coming.ensures c.if-not-is_coming.false in
    let more = more_comes i.address.left some (λ last. c.in_default.not-Some _ (c.take.ensures.last last)) in
    seen_after i (λ b. rise node_table b c.args.level) (λ s. Level c.args.level ∷ s)
    (rises_coming more.0 i.address.value c.args.level i.address.left c.take.new.self (whole_in i) more.1 c.take.ensures.value)
    c.add_rise.ensures c.self.view_is
