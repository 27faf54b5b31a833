-- A group's own journal after a past of others. The induction goes over its entries.
use Rattle.std.proofs.Common.{◌≡◌, ℕ, Bool, true, false, cond, List, [], ◌∷◌, ◌++◌, Option, Some, None, refl, sym, ◌∙◌, ap, subst, inl, inr}
use Rattle.i2c_base.specs.declared.ids.LockId.{LockId}
use Rattle.i2c_base.specs.declared.entry.Entry.{Entry}
use Rattle.i2c_base.specs.declared.entry.Entry.TheVariants as entry
use Rattle.i2c_base.specs.Board.{BoardView}
use Rattle.i2c_base.specs.Transfer.{TransferView}
use Rattle.i2c_spec.specs.TreeFacts.{IsTree}
use Rattle.i2c_spec.specs.History.{Asks}
use Rattle.bus_spec.specs.Walk.{Act, Take, Free, WalkTree, Ends}
use Rattle.bus_spec.specs.Grammar.{seen, is_over, first_act, first_note}
use Rattle.bus_spec.specs.Readings.{caller_of, Everywhere}
use Rattle.bus_spec.specs.Past.{Now, begun, current, now, opening}
use Rattle.bus_spec.specs.Stepwise.{May, IsStepwise}
use Rattle.bus_laws.specs.Others.{ahead}
use Rattle.bus_laws.proofs.past.Known.{never}
use Rattle.bus_laws.proofs.past.Others.{entry-elsewhere}
use Rattle.group_laws.specs.Groups.{root_of_lock, ActIn, StaysIn, IsGroup, IsAlike, GoesOn}
use Rattle.group_laws.proofs.Walks.{seen-in, first-in}
use Rattle.group_laws.proofs.Alike.{current-alike, step-alike, step-due, may-alike, ahead-in, step-in}
use Rattle.group_laws.proofs.Apart.{step-stays}

module _ (b : BoardView) (tree : IsTree b) (callers : ℕ) (all own : Asks) (roots who : ℕ → Bool) (group : IsGroup b all own roots who) where
  -- in its own journal all walks stay on its roots, and nobody else has one
  walks-in : (mine : List Entry) → (c : ℕ) → StaysIn b roots ((now b own mine).walk c)
  walks-in [] c = tt
  walks-in (e ∷ mine) c = step-in b roots who own tree group.rooted (now b own mine) e (walks-in mine) c

  -- each entry is of one of its callers
  his : (mine : List Entry) → ((c : ℕ) → who c ≡ false → (now b own mine).walk c ≡ Ends) → (e : Entry)
      → May b callers own (now b own mine) e → who (caller_of e) ≡ true
  his mine ends e may = by (who (caller_of e)) refl
    where
      none : who (caller_of e) ≡ false → first_act (current b own (now b own mine) (caller_of e)) ≡ None
      none isnt =
          let m : Now = now b own mine in
          let c : ℕ = caller_of e in
          ap (λ (w : WalkTree). first_act (seen m.slot (cond (is_over w) (begun b (own c (m.settled c))) w))) (ends c isnt)
          ∙ ap (λ (o : Option TransferView). first_act (seen m.slot (begun b o))) (group.nobody c (m.settled c) isnt)

      by : (t : Bool) → who (caller_of e) ≡ t → who (caller_of e) ≡ true
      by true is = is
      by false is = absurd (never b callers own (now b own mine) e may (none is))

  strangers : (mine : List Entry) → IsStepwise b callers own mine → (c : ℕ) → who c ≡ false → (now b own mine).walk c ≡ Ends
  strangers [] steps c isnt = refl
  strangers (e ∷ mine) steps c isnt =
      (entry-elsewhere b own (now b own mine) e c
      (λ same. let is : who c ≡ true = subst (λ (k : ℕ). who k ≡ true) (sym same) (his mine (strangers mine steps.1) e steps.0) in
      let f : true ≡ false = sym is ∙ isnt in cc)).walks
      ∙ strangers mine steps.1 c isnt

  pub each-own : (mine : List Entry) → IsStepwise b callers own mine → Everywhere (λ e past. who (caller_of e) ≡ true) mine
  each-own [] steps = tt
  each-own (e ∷ mine) steps = (his mine (strangers mine steps.1) e steps.0, each-own mine steps.1)

  module _ (before : List Entry) (rests : IsStepwise b callers all before) (due : (now b all before).due ≡ None)
      (fresh : IsAlike b roots who (now b all before) (opening b)) where
    -- after the past and these entries, the caller of this one acts on the group's roots
    abbrev ActsIn : List Entry → Entry → Type 0
    ActsIn mine e = (act : Act) → first_act (current b all (now b all (mine ++ before)) (caller_of e)) ≡ Some act
        → ActIn b roots act (first_note (current b all (now b all (mine ++ before)) (caller_of e))).marks

    -- THE INDUCTION
    pub goes-on : (mine : List Entry) → IsStepwise b callers own mine → GoesOn b callers all own roots who before mine
    goes-on [] steps = record { stepwise = rests; alike = fresh; due = due; kept = λ others whose x apart strange al. al }
    goes-on (e ∷ mine) steps =
        let so : GoesOn b callers all own roots who before mine = goes-on mine steps.1 in
        let n : Now = now b all (mine ++ before) in
        let m : Now = now b own mine in
        let c : ℕ = caller_of e in
        let k : who (caller_of e) ≡ true = his mine (strangers mine steps.1) e steps.0 in
        let on : StaysIn b roots (ahead b own (now b own mine) (caller_of e)) =
        ahead-in b roots who own tree group.rooted (now b own mine) (caller_of e) (walks-in mine (caller_of e)) in
        let may : May b callers all (now b all (mine ++ before)) e =
        may-alike b roots who all own n m so.alike group.same callers so.due e k on steps.0 in
        let cur : current b all (now b all (mine ++ before)) (caller_of e) ≡ current b own (now b own mine) (caller_of e) =
        current-alike b roots who all own n m so.alike group.same (caller_of e) k on in
        let acts : ActsIn mine e =
        λ act first. first-in b roots (current b all (now b all (mine ++ before)) (caller_of e)) act
        (subst (StaysIn b roots) (sym cur) (seen-in b roots m.slot (ahead b own m (caller_of e)) on)) first in
        record {
          stepwise = (may, so.stepwise);
          alike = step-alike b roots who all own n m so.alike group.same e k on;
          due = step-due b roots who all own n m so.alike group.same so.due e k on;
          kept = λ others whose x apart strange al.
              step-stays b roots who others whose apart strange x all n e k acts
              (λ l d is. elim is [
                | inl take ↦ locked-take e l d take may acts
                | inr free ↦ locked-free e l d free may acts
              ])
              (so.kept others whose x apart strange al);
        }
      where
        locked-take : (x : Entry) (l : LockId) (d : ℕ) → x ≡ entry.Take d l → May b callers all (now b all (mine ++ before)) x
            → ActsIn mine x → roots (root_of_lock b l) ≡ true
        locked-take x l d is may acts =
            subst (ActsIn mine) is acts (Take l) (subst (May b callers all (now b all (mine ++ before))) is may).2

        locked-free : (x : Entry) (l : LockId) (d : ℕ) → x ≡ entry.Free d l → May b callers all (now b all (mine ++ before)) x
            → ActsIn mine x → roots (root_of_lock b l) ≡ true
        locked-free x l d is may acts =
            subst (ActsIn mine) is acts (Free l) (subst (May b callers all (now b all (mine ++ before))) is may).2
