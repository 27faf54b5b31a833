-- What lock words tell of kept channels: one channel for each mux, beside one mark for each bus. They answer every look of a
-- walk that holds its locks, and they go on telling it after each step. The inductions go over walks and over marks.
use Rattle.core_laws.proofs.Cited.{◌≡◌, ℕ, zero, suc, ◌<◌, Bool, true, false, cond, List, [], ◌∷◌, ◌++◌, length, set, Option, Some, None}
use Rattle.core_laws.proofs.Cited.{refl, sym, ◌∙◌, ap, subst, arith, ◌⊎◌, inl, inr, slice_index_or, eq-eqb, eqb_tells, leb_tells}
use Rattle.core_laws.proofs.Cited.{length-set, get_or-set_other, get_or_past, LockId, BoardView, Hop, home_of_mux, changed_at, Mark, Job}
use Rattle.core_laws.proofs.Cited.{Call, Select, SwitchOff, off_bus, off_mux, Act, ActOutcome, Passed, Sent, Lined, Note, MarkOf, KeptOf}
use Rattle.core_laws.proofs.Cited.{WalkTree, Ends, Look, Then, Slots, At, MuxSlot, Clean, Marked, mark_in, turned_at, turned, set_marks}
use Rattle.core_laws.proofs.Cited.{polled_slot, select_told, after_job, seen, IsMarkOn, OwnHeld, MarksHeld, HoldsLocks, changed-same}
use Rattle.core_laws.proofs.Cited.{changed-other, SeenView, mark_on, kept_of, slots_of, slots_after, marked, all_marked, updates_of_job}
use Rattle.core_laws.proofs.Cited.{updates_after, applied_kept, MuxUpdate, mark_slot, TellsKept, WantsIn}
use Rattle.std.proofs.lemmas.Grind.{get_or-set_at}
use Rattle.i2c_base.specs.declared.entry.End.TheVariants as end
use Rattle.bus_spec.specs.Walk as walk
use Rattle.bus_laws.specs.Holds.{AreApart}
use Rattle.bus_laws.proofs.tree.Slots.{set_marks-other}
use Rattle.mux_plan.specs.Marks.{last_open}
use Rattle.bus_laws.proofs.world.Slots.{kept_other}

-- THE LOOKS: each asks for a mux where it stands
pub seen-told : (b : BoardView) (held : List LockId) (v : Slots) (s : SeenView) → ((p : ℕ) → mark_in (v p).slot ≡ mark_on s p)
    → TellsKept b v s.kept
    → ((p : ℕ) → IsMarkOn b p (mark_on s p)) → (w : WalkTree) → HoldsLocks b held w → seen v w ≡ seen (slots_of s) w
seen-told b held v s told tells home Ends h = refl
seen-told b held v s told tells home (Look (MarkOf p) next) h =
    ap (λ (x : Option ℕ). seen v (next x)) (told p)
    ∙ seen-told b held v s told tells home (next (mark_on s p)) (h.2 (mark_on s p) (home p))
    ∙ ap (λ (x : Option ℕ). seen (slots_of s) (next x)) (sym (mark_slot (mark_on s p)))
seen-told b held v s told tells home (Look (KeptOf p m) next) h =
    ap (λ (x : Option ℕ). seen v (next x)) (ap (λ (q : ℕ). (v q).kept m) (sym h.1) ∙ tells m)
    ∙ seen-told b held v s told tells home (next (kept_of s m)) (h.2 (kept_of s m) tt)
seen-told b held v s told tells home (Then act note next) h = refl

-- THE STEPS
-- a channel that is none is told of a mux that isn't there, too
set_told : (kept : List (Option ℕ)) (m : ℕ) (c : Option ℕ) → (c ≡ None) ⊎ (m < length kept) → slice_index_or (set kept m c) m None ≡ c
set_told kept m c fits =
    elim (leb_tells (suc m) (length kept)) [
      | inl h ↦ (let low : m < length kept = (let e = h.1 in omega (arith, e)) in get_or-set_at kept m m c None refl low)
      | inr h ↦ elim fits [
        | inl none ↦ get_or_past (set kept m c) m None (let e = h.1 in let l : length (set kept m c) ≡ length kept = length-set kept m c in
            omega (arith, e, l)) ∙ sym none
        | inr low ↦ absurd (let e = h.1 in omega (arith, e, low))
      ]
    ]

kept_at : (f : ℕ → Option ℕ) (k : ℕ) (x : Option ℕ) → changed_at f k x k ≡ x
kept_at f k x = ap (λ (t : Bool). cond t x (f k)) (eq-eqb k k refl)

module _ (b : BoardView) where
  -- one mux turned, on a bus that was as it is told
  tells-turn : (v y : Slots) (kept : List (Option ℕ)) (on mux : ℕ) (s : MuxSlot) (c : Option ℕ) → home_of_mux b mux ≡ on
      → (c ≡ None) ⊎ (mux < length kept)
      → TellsKept b y kept → y on ≡ v on → TellsKept b (changed_at y on (turned_at (v on) mux s c)) (set kept mux c)
  tells-turn v y kept on mux s c home fits told same m =
      elim (eqb_tells m mux) [
        | inl h ↦ subst (λ (i : ℕ). (changed_at y on (turned_at (v on) mux s c) (home_of_mux b i)).kept i ≡ slice_index_or
            (set kept mux c) i None) (sym h.1)
            (ap (λ (p : ℕ). (changed_at y on (turned_at (v on) mux s c) p).kept mux) home
            ∙ ap (λ (x : At). x.kept mux) (changed-same y on (turned_at (v on) mux s c))
            ∙ kept_at (v on).kept mux c ∙ sym (set_told kept mux c fits))
        | inr h ↦ elim (eqb_tells (home_of_mux b m) on) [
          | inl here ↦ ap (λ (p : ℕ). (changed_at y on (turned_at (v on) mux s c) p).kept m) here.1
              ∙ ap (λ (x : At). x.kept m) (changed-same y on (turned_at (v on) mux s c))
              ∙ kept_other (v on).kept mux m c h.1
              ∙ ap (λ (x : At). x.kept m) (sym same) ∙ ap (λ (p : ℕ). (y p).kept m) (sym here.1)
              ∙ told m ∙ sym (get_or-set_other kept mux m c None h.1)
          | inr there ↦ ap (λ (x : At). x.kept m) (changed-other y on (home_of_mux b m) (turned_at (v on) mux s c) there.1)
              ∙ told m ∙ sym (get_or-set_other kept mux m c None h.1)
        ]
      ]

  tells-one : (v : Slots) (kept : List (Option ℕ)) (on mux : ℕ) (s : MuxSlot) (c : Option ℕ) → home_of_mux b mux ≡ on
      → (c ≡ None) ⊎ (mux < length kept)
      → TellsKept b v kept → TellsKept b (turned v on mux s c) (set kept mux c)
  tells-one v kept on mux s c home fits told = tells-turn v v kept on mux s c home fits told refl

  set-push : (ds : List MuxUpdate) (d : MuxUpdate) (kept : List (Option ℕ))
      → applied_kept (ds ++ d ∷ []) kept ≡ set (applied_kept ds kept) d.mux d.channel
  set-push [] d kept = refl
  set-push (x ∷ xs) d kept = set-push xs d (set kept x.mux x.channel)

  -- the marks of a failure, each on a bus of its own
  tells-marks : (ms : List Mark) (held : List LockId) (v : Slots) (kept : List (Option ℕ)) → MarksHeld b ms held → AreApart ms
      → TellsKept b v kept
      → TellsKept b (set_marks ms v) (applied_kept (all_marked ms) kept)
  tells-marks [] held v kept at_home apart told = told
  tells-marks (k ∷ ms) held v kept at_home apart told =
      subst (λ (xs : List (Option ℕ)). TellsKept b (set_marks (k ∷ ms) v) xs) (sym (set-push (all_marked ms) (marked k) kept))
      (tells-turn v (set_marks ms v) (applied_kept (all_marked ms) kept) k.on k.mux (Marked k.mux) None at_home.0.1 (inl refl)
      (tells-marks ms held v kept at_home.1 apart.1 told) (set_marks-other ms v k.on apart.0))

  module _ (held : List LockId) (left : ℕ) (ms : List Mark) (at_home : MarksHeld b ms held) (apart : AreApart ms) (v : Slots)
      (kept : List (Option ℕ))
      (counted : length kept ≡ length b.muxes) (told : TellsKept b v kept) where
    failed : TellsKept b (set_marks ms v) (applied_kept (all_marked ms) kept)
    failed = tells-marks ms held v kept at_home apart told

    there : (m : ℕ) → m < length b.muxes → m < length kept
    there m low = omega (arith, low, counted)

    tells-through : (h : Hop) (n : ℕ) (bytes : List ℕ) → (home_of_mux b h.mux ≡ h.on) → h.mux < length b.muxes
        → TellsKept b (select_told h n bytes v) (set kept h.mux (last_open h n))
    tells-through h zero bytes home low = tells-one v kept h.on h.mux Clean (Some h.channel) home (inr (there h.mux low)) told
    tells-through h (suc n) bytes home low = tells-one v kept h.on h.mux (polled_slot h n bytes) None home (inl refl) told

    pub tells-job : (job : Job) (out : ActOutcome) → OwnHeld b job held
        → TellsKept b (after_job job left ms out v) (applied_kept (updates_of_job job left ms out) kept)
    tells-job (Call bus messages) out own = told
    tells-job (Select h) Passed own = told
    tells-job (Select h) (Sent end.Ok bytes) own = tells-through h left bytes own.1 own.2
    tells-job (Select h) (Sent end.Nack bytes) own = tells-one v kept h.on h.mux Clean None own.1 (inl refl) told
    tells-job (Select h) (Sent end.Slow bytes) own = tells-one v kept h.on h.mux Clean None own.1 (inl refl) told
    tells-job (Select h) (Sent end.Refused bytes) own = tells-one v kept h.on h.mux Clean None own.1 (inl refl) told
    tells-job (Select h) (Sent end.Proto bytes) own = tells-one v kept h.on h.mux Clean None own.1 (inl refl) told
    tells-job (Select h) (Sent (end.Cut q) bytes) own = failed
    tells-job (Select h) (Lined true) own = failed
    tells-job (Select h) (Lined false) own = tells-one v kept h.on h.mux Clean (Some h.channel) own.1 (inr (there h.mux own.2)) told
    tells-job (SwitchOff off) Passed own = told
    tells-job (SwitchOff off) (Sent end.Ok bytes) own = tells-one v kept (off_bus off) (off_mux off) Clean None own.1 (inl refl) told
    tells-job (SwitchOff off) (Sent end.Nack bytes) own = tells-one v kept (off_bus off) (off_mux off) Clean None own.1 (inl refl) told
    tells-job (SwitchOff off) (Sent end.Slow bytes) own = tells-one v kept (off_bus off) (off_mux off) Clean None own.1 (inl refl) told
    tells-job (SwitchOff off) (Sent end.Refused bytes) own = tells-one v kept (off_bus off) (off_mux off) Clean None own.1 (inl refl) told
    tells-job (SwitchOff off) (Sent end.Proto bytes) own = tells-one v kept (off_bus off) (off_mux off) Clean None own.1 (inl refl) told
    tells-job (SwitchOff off) (Sent (end.Cut q) bytes) own = failed
    tells-job (SwitchOff off) (Lined true) own = failed
    tells-job (SwitchOff off) (Lined false) own = tells-one v kept (off_bus off) (off_mux off) Clean None own.1 (inl refl) told

-- BEHIND A STEP, with its updates
pub kept-after : (b : BoardView) (held : List LockId) (act : Option Act) (note : Note) (out : ActOutcome) → WantsIn b held act note
    → (v : Slots) (kept : List (Option ℕ)) → length kept ≡ length b.muxes
    → TellsKept b v kept → TellsKept b (slots_after act note out v) (applied_kept (updates_after act note out) kept)
kept-after b held None note out wants v kept counted told = told
kept-after b held (Some (walk.Take l)) note out wants v kept counted told = told
kept-after b held (Some (walk.Free l)) note out wants v kept counted told = told
kept-after b held (Some (walk.Send job left)) note out wants v kept counted told =
    tells-job b held left note.marks wants.marked wants.apart v kept counted told job out wants.own
kept-after b held (Some (walk.Shift job)) note out wants v kept counted told =
    tells-job b held zero note.marks wants.marked wants.apart v kept counted told job out wants.own
kept-after b held (Some (walk.Settle verdict)) note out wants v kept counted told = told

pub length-applied_kept : (ds : List MuxUpdate) (kept : List (Option ℕ)) → length (applied_kept ds kept) ≡ length kept
length-applied_kept [] kept = refl
length-applied_kept (d ∷ ds) kept = length-applied_kept ds (set kept d.mux d.channel) ∙ length-set kept d.mux d.channel
