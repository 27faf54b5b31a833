-- What is asked of those that an edge is told to is asked of all: who is out of the message, or isn't joined, adds nothing to it.
use Rattle.bus_lines.proofs.Cited.{◌≡◌, ℕ, Bool, false, ◌<◌, List, [], map, sym, ap, ◌∙◌, inl, inr, not, cond, ◌==◌}
use Rattle.bus_lines.proofs.Cited.{Bit, NodeState, released, some_one, and_all, some_by, of_those, and_by, given_by, shared}
use Rattle.bus_lines.specs.Known.{AreListed}
use Rattle.bus_lines.specs.declared.root_targets.RootTargets.TheInside.{Inside}
use Rattle.bus_lines.proofs.AndLemmas.{and_nobody, and_of_those}
use Rattle.bus_lines.proofs.AwayLemmas.{units_away, whole_some, whole_given}
use Rattle.bus_lines.proofs.KnownLemmas.{some_known, given_known}
use Rattle.bus_lines.proofs.NumberedLemmas.{nobody_by, some_of_those}
use Rattle.bus_lines.proofs.RootLemmas.{rooted, bits_in, whole_in, seen_in, told_either}
use Rattle.bus_lines.proofs.TargetsLemmas.{seen_alone}

module _ (i : Inside) (was : AreListed (rooted i) i.places.items i.held i.address i.live i.started i.called i.at i.bits.items)
    (ns : List ℕ) (those : ns ≡ cond (not (i.address.left == 0)) [] i.live.items) where
  -- they are all that are in the message, or nobody, while an address comes in
  of_told : {X : Type 0} (asked : List ℕ → X) (answer : X) → (i.address.left ≡ 0 → asked i.live.items ≡ answer)
      → (0 < i.address.left → asked [] ≡ answer) → asked ns ≡ answer
  of_told asked answer live nobody =
      elim (told_either i.address.left ns i.live.items those) [
        | inl x ↦ ap asked x.1 ∙ live x.0
        | inr x ↦ ap asked x.1 ∙ nobody x.0
      ]

  -- whether it is so of one of them
  pub some_told : (p : Bit NodeState → Bool) → ((b : Bit NodeState) → b ≡ released b.site → p b ≡ false)
      → ((b : Bit NodeState) → b.site.joined ≡ false → p b ≡ false)
      → ((left v : ℕ) (bs : List (Bit NodeState)) → 0 < left → some_one p (map (shared left v) bs) ≡ false)
      → some_by (of_those ns p) 0 i.bits.items ≡ some_one p (seen_in i i.address i.bits.items)
  some_told p out apart coming =
      let units = was.kept.are.units in
      of_told (λ ms. some_by (of_those ms p) 0 i.bits.items) (some_one p (seen_in i i.address i.bits.items))
      (λ none. some_known i.places.items i.live.items p i.bits.items was.kept.in_message
      ∙ some_of_those i.live.items p (bits_in i) (λ k b is apart_from. out b ((units k b is).out apart_from))
      ∙ ap (some_one p) (sym (seen_alone i.address.left i.address.value (bits_in i) none))
      ∙ whole_some i.board.value i.places.items p apart i.address.left i.address.value (bits_in i)
      (units_away i.places.items i.address.left i.live.items i.started.items i.at (bits_in i) units))
      (λ comes. nobody_by p 0 i.bits.items ∙ sym (coming i.address.left i.address.value (whole_in i) comes))

  -- the AND of what each of them gives
  pub given_told : (q : Bit NodeState → ℕ) → ((b : Bit NodeState) → b ≡ released b.site → q b ≡ 255)
      → ((b : Bit NodeState) → b.site.joined ≡ false → q b ≡ 255)
      → ((left v : ℕ) (bs : List (Bit NodeState)) → 0 < left → and_all (map q (map (shared left v) bs)) ≡ 255)
      → and_by (given_by ns q) 0 i.bits.items ≡ and_all (map q (seen_in i i.address i.bits.items))
  given_told q out apart coming =
      let units = was.kept.are.units in
      let away = units_away i.places.items i.address.left i.live.items i.started.items i.at (bits_in i) units in
      of_told (λ ms. and_by (given_by ms q) 0 i.bits.items) (and_all (map q (seen_in i i.address i.bits.items)))
      (λ none. given_known i.places.items i.live.items q i.bits.items was.kept.in_message
      ∙ and_of_those i.live.items q (bits_in i) (λ k b is apart_from. out b ((units k b is).out apart_from))
      ∙ ap (λ (bs : List (Bit NodeState)). and_all (map q bs)) (sym (seen_alone i.address.left i.address.value (bits_in i) none))
      ∙ ap and_all (whole_given i.board.value i.places.items q 255 apart i.address.left i.address.value (bits_in i) away))
      (λ comes. and_nobody q 0 i.bits.items ∙ sym (coming i.address.left i.address.value (whole_in i) comes))
