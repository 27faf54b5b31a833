-- The journals of groups, one after the other. The induction goes over the groups.
use Rattle.std.proofs.Common.{◌≡◌, ℕ, Bool, true, false, List, [], ◌∷◌, ◌++◌, reverse, None, refl, sym, ◌∙◌, ap, subst, rules}
use Rattle.std.proofs.lemmas.List.{append-nil, append_assoc, reverse-append}
use Rattle.i2c_base.specs.declared.entry.Entry.{Entry}
use Rattle.i2c_base.specs.Board.{BoardView}
use Rattle.i2c_spec.specs.TreeFacts.{IsTree}
use Rattle.i2c_spec.specs.History.{Asks}
use Rattle.bus_spec.specs.Past.{Now, now, opening}
use Rattle.bus_spec.specs.Stepwise.{IsStepwise}
use Rattle.group_laws.specs.Groups.{IsAlike, AreApart, GoesOn, Part, joined, IsApartFrom, ArePartsApart, AreParts, AreAlikeIn, AreOwn}
use Rattle.group_laws.specs.Groups.{AreJoined}
use Rattle.group_laws.proofs.Goes.{each-own, goes-on}

-- having nothing in common goes both ways
apart-sym : (f g : ℕ → Bool) → AreApart f g → AreApart g f
apart-sym f g apart i mine = by (g i) refl
  where
    by : (t : Bool) → g i ≡ t → g i ≡ false
    by false is = is
    by true is = absurd (let e : true ≡ false = sym mine ∙ apart i is in cc)

module _ (b : BoardView) (tree : IsTree b) (callers : ℕ) (all : Asks) where
  -- these have come to nothing yet
  abbrev AreFresh : Now → List Part → Type 0
  AreFresh n [] = Unit {0}
  AreFresh n (p ∷ ps) = IsAlike b p.roots p.who n (opening b) × AreFresh n ps

  -- after a past, with whatever stands apart from all of them as it was
  record Join (ps : List Part) (before : List Entry) : Type 0 where
    past : List Entry
    past_is : past ≡ reverse (joined ps) ++ before
    stepwise : IsStepwise b callers all past
    rests : (now b all past).due ≡ None
    alike : AreAlikeIn b (now b all past) ps
    kept : (p : Part) (x : Now) → IsApartFrom p ps → IsAlike b p.roots p.who (now b all before) x
        → IsAlike b p.roots p.who (now b all past) x

  -- the others stay fresh behind the journal of one
  fresh-behind : (p : Part) (before mine : List Entry) → GoesOn b callers all p.own p.roots p.who before mine → (ps : List Part)
      → IsApartFrom p ps → AreFresh (now b all before) ps → AreFresh (now b all (mine ++ before)) ps
  fresh-behind p before mine goes [] apart fresh = tt
  fresh-behind p before mine goes (q ∷ qs) apart fresh =
      (goes.kept q.roots q.who (opening b) apart.0.0 apart.0.1 fresh.0, fresh-behind p before mine goes qs apart.1 fresh.1)

  join : (ps : List Part) (before : List Entry) → AreParts b callers all ps → ArePartsApart ps → AreFresh (now b all before) ps
      → IsStepwise b callers all before → (now b all before).due ≡ None → Join ps before
  join [] before parts apart fresh steps due =
      record { past = before; past_is = refl; stepwise = steps; rests = due; alike = tt; kept = λ p x apart_from al. al }
  join (p ∷ ps) before parts apart fresh steps due =
      let mine : List Entry = reverse p.journal in
      let goes : GoesOn b callers all p.own p.roots p.who before mine =
      goes-on b tree callers all p.own p.roots p.who parts.0.group before steps due fresh.0 mine parts.0.stepwise in
      let rest : Join ps (mine ++ before) =
      join ps (mine ++ before) parts.1 apart.1 (fresh-behind p before mine goes ps apart.0 fresh.1) goes.stepwise
      (goes.due ∙ parts.0.rests) in
      record {
        past = rest.past;
        past_is = rest.past_is ∙ sym (ap (λ (xs : List Entry). xs ++ before) (reverse-append p.journal (joined ps))
            ∙ append_assoc (reverse (joined ps)) mine before);
        stepwise = rest.stepwise;
        rests = rest.rests;
        alike = (rest.kept p (now b p.own mine) apart.0 goes.alike, rest.alike);
        kept = λ q x apart_from al.
            rest.kept q x apart_from.1 (goes.kept q.roots q.who x (apart-sym q.roots p.roots apart_from.0.0)
            (apart-sym q.who p.who apart_from.0.1) al);
      }

  all-fresh : (ps : List Part) → AreFresh (opening b) ps
  all-fresh [] = tt
  all-fresh (p ∷ ps) = (search rules, all-fresh ps)

  all-own : (ps : List Part) → AreParts b callers all ps → AreOwn ps
  all-own [] parts = tt
  all-own (p ∷ ps) parts = (
    each-own b tree callers all p.own p.roots p.who parts.0.group (reverse p.journal) parts.0.stepwise,
    all-own ps parts.1,
  )

  -- ONE AFTER THE OTHER they are one journal
  pub are-joined : (ps : List Part) → AreParts b callers all ps → ArePartsApart ps → AreJoined b callers all ps
  are-joined ps parts apart =
      let j : Join ps [] = join ps [] parts apart (all-fresh ps) tt refl in
      let is : j.past ≡ reverse (joined ps) = j.past_is ∙ append-nil (reverse (joined ps)) in
      record {
        stepwise = subst (IsStepwise b callers all) is j.stepwise;
        rests = subst (λ (past : List Entry). (now b all past).due ≡ None) is j.rests;
        alike = subst (λ (past : List Entry). AreAlikeIn b (now b all past) ps) is j.alike;
        own = all-own ps parts;
      }
