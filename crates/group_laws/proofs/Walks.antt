-- A walk stays on the root of its transfer. The inductions go over the messages of a job, over locks, and over hops.
use Rattle.std.proofs.Common.{◌≡◌, ℕ, ◌<◌, Bool, true, Some, None, ◌∙◌, ap, subst}
use Rattle.std.proofs.lemmas.Bool.{ltb-true}
use Rattle.i2c_base.specs.declared.ids.LockId.{LockId}
use Rattle.i2c_base.specs.Board.{BoardView}
use Rattle.i2c_base.specs.Transfer.{TransferView}
use Rattle.i2c_spec.specs.Tree.{Hop, buses, root_of}
use Rattle.i2c_spec.specs.TreeFacts.{IsTree}
use Rattle.i2c_spec.specs.Flat.{refusal}
use Rattle.bus_spec.specs.Walk.{Job, Act, Send, Shift, ActOutcome, Note, WalkTree, Ends, Look, Then, job_bus}
use Rattle.bus_spec.specs.Slots.{Slots, answer_to}
use Rattle.bus_spec.specs.Grammar.{walk_for, seen, first_act, first_note, rest_of}
use Rattle.bus_laws.proofs.tree.Law.{refusal-none}
use Rattle.bus_laws.proofs.walk.Keeps.{GoesOver, GoesOverHop, walk-keeps}
use Rattle.group_laws.specs.Groups.{root_of_lock, MarksIn, ActIn, StaysIn}

module _ (b : BoardView) (roots : ℕ → Bool) where
  -- a bus is on these roots
  abbrev In : ℕ → Type 0
  In p = roots (root_of b p) ≡ true

  -- what a job needs: its bus is on these roots, and so is what it marks where it fails
  abbrev OwnIn : Job → Note → Type 0
  OwnIn job note = In (job_bus job) × MarksIn b roots note.marks

  abbrev LockIn : LockId → Type 0
  LockIn l = roots (root_of_lock b l) ≡ true

  steps_in : GoesOver (λ n. StaysIn b roots) OwnIn LockIn
  steps_in = record {
    settle = λ n verdict w h. (tt, λ out. h);
    send = λ n job left note next own h. (let act : ActIn b roots (Send job left) note.marks = own in (act, h));
    shift = λ n job note next line own h. (let act : ActIn b roots (Shift job) note.marks = own in (act, h));
    take = λ n l next own h. (own, h);
    free = λ n l next own h. (own, h);
  }

  hop_in : (h : Hop) → In h.on → GoesOverHop b (λ n. StaysIn b roots) OwnIn LockIn h
  hop_in h at = record {
    lock = at;
    mark = λ n next keeps. (at, keeps);
    kept = λ n next keeps. (at, keeps);
    select = λ job note own. (at, (at, own.1));
    close = λ job note m own. (at, (at, own.1));
    deselect = (at, (at, tt));
  }

  -- THE WALK of a transfer
  pub walk-in : IsTree b → (t : TransferView) → (t.bus < buses b → In t.bus) → StaysIn b roots (walk_for b t)
  walk-in tree t home =
      walk-keeps b (λ n. StaysIn b roots) OwnIn LockIn steps_in t tt (λ at. (top at, tt)) top
      (λ at h among. hop_in h (ap roots (tree.root_same t.bus h among) ∙ top at))
    where
      top : refusal b t ≡ None → roots (root_of b t.bus) ≡ true
      top at = home (ltb-true t.bus (buses b) (refusal-none b t at).0)

  -- what is left of it, with its looks answered, and after a step
  pub seen-in : (v : Slots) (w : WalkTree) → StaysIn b roots w → StaysIn b roots (seen v w)
  seen-in v Ends h = tt
  seen-in v (Look ask next) h = seen-in v (next (answer_to v ask)) (h.1 (answer_to v ask))
  seen-in v (Then act note next) h = h

  pub rest-in : (w : WalkTree) (out : ActOutcome) → StaysIn b roots w → StaysIn b roots (rest_of w out)
  rest-in Ends out h = tt
  rest-in (Look ask next) out h = h
  rest-in (Then act note next) out h = h.1 out

  pub first-in : (w : WalkTree) (act : Act) → StaysIn b roots w → first_act w ≡ Some act → ActIn b roots act (first_note w).marks
  first-in Ends act h e = absurd (let f : None ≡ Some act = e in cc)
  first-in (Look ask next) act h e = absurd (let f : None ≡ Some act = e in cc)
  first-in (Then a note next) act h e = subst (λ (x : Act). ActIn b roots x note.marks) (let f : Some a ≡ Some act = e in cc) h.0
