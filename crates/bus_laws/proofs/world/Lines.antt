-- The world law for a line step: the line of a gpio mux opens one channel, or closes it.
use Rattle.bus_laws.proofs.Cited.{◌≡◌, ℕ, zero, suc, ◌+◌, Bool, true, false, cond, List, [], ◌∷◌, length, Option, Some, None, eqb, refl}
use Rattle.bus_laws.proofs.Cited.{sym, ◌∙◌, ap, subst, inl, inr, slice_get, unwrap_or, option_map, option_map_or, eqb_tells, MuxKind}
use Rattle.bus_laws.proofs.Cited.{ChannelCode, Level, facts_of, line_row, MuxSpec, LockId, BoardView, Hop, root_of, home_of_mux, is_absent}
use Rattle.bus_laws.proofs.Cited.{IsTree, IsHop, IsPlainBoard, IsPlainMux, IsChip, ChipView, is_open, at_level, select_by, World, after}
use Rattle.bus_laws.proofs.Cited.{stopped, changed_at, Mark, Job, Call, Select, SwitchOff, off_bus, off_mux, off_kind, Lined, job_bus}
use Rattle.bus_laws.proofs.Cited.{is_gpio, Slots, MuxSlot, Clean, Polled, Found, turned, turned_at, set_marks, after_job, line_call}
use Rattle.bus_laws.proofs.Cited.{IsMuxOf, IsOfMux, MayFail, MayShift, chip_in, WorldTold}
use Rattle.std.specs.Prelude.{slice_set}
use Rattle.std.proofs.Math.ListN.{length-set}
use Rattle.std.proofs.Math.Dec.{eqb-zero-suc, eqb-suc-zero, eqb-suc-suc}
use Rattle.i2c_spec.specs.World.{set_level}
use Rattle.bus_laws.proofs.tree.Slots.{turned-same, turned-other}
use Rattle.bus_laws.proofs.world.Control.{Changes, stopped-chips}
use Rattle.bus_laws.proofs.world.ChipLaws.{level_opens, level_closes, SameSort}
use Rattle.bus_laws.proofs.world.Slots.{set_marks-only, told-marks, MuxTold, told-turned}
use Rattle.bus_laws.proofs.world.BoardFacts.{mux_at, get_same_length, plain_mux, not_held}
use Rattle.bus_laws.proofs.world.Law.{whole, replaced-chip, still_none, world_replaced}
use Rattle.bus_laws.proofs.world.Jobs.{told_equal}
use Rattle.bus_laws.proofs.world.Sends.{own_select, own_open, same_chip_in}

get-set : (xs : List ChipView) (i j : ℕ) (y : ChipView)
    → slice_get (slice_set xs i y) j ≡ option_map (λ (x : ChipView). cond (eqb j i) y x) (slice_get xs j)
get-set [] i j y = refl
get-set (x ∷ xs) zero zero y = refl
get-set (x ∷ xs) zero (suc j) y =
    sym (kept (slice_get xs j)) ∙ sym (ap (λ (t : Bool). option_map (λ (z : ChipView). cond t y z) (slice_get xs j)) (eqb-suc-zero j))
  where
    kept : (o : Option ChipView) → option_map (λ (z : ChipView). cond false y z) o ≡ o
    kept None = refl
    kept (Some z) = refl
get-set (x ∷ xs) (suc i) zero y = sym (ap (λ (t : Bool). Some (cond t y x)) (eqb-zero-suc i))
get-set (x ∷ xs) (suc i) (suc j) y =
    get-set xs i j y ∙ sym (ap (λ (t : Bool). option_map (λ (z : ChipView). cond t y z) (slice_get xs j)) (eqb-suc-suc j i))

-- the level of one mux is set
level_changes : (cs : List ChipView) (m level : ℕ) → Changes cs (set_level cs m level) m (λ x. at_level x level)
level_changes cs m level j = by_chip (slice_get cs m) refl
  where
    own : (c : ChipView) → slice_get cs m ≡ Some c → (o : Option ChipView) → slice_get cs j ≡ o
        → option_map (λ (x : ChipView). cond (eqb j m) (at_level c level) x) o ≡ option_map
        (λ (x : ChipView). cond (eqb j m) (at_level x level) x) o
    own c e None f = refl
    own c e (Some x) f = elim (eqb_tells j m) [
      | inl h ↦ (let same : c ≡ x = (let g : Some c ≡ Some x = sym e ∙ ap (λ (i : ℕ). slice_get cs i) (sym h.1) ∙ f in cc) in
          ap (λ (z : ChipView). Some (cond (eqb j m) (at_level z level) x)) same)
      | inr h ↦ ap (λ (t : Bool). Some (cond t (at_level c level) x)) h.0 ∙ sym (ap (λ (t : Bool). Some (cond t (at_level x level) x)) h.0)
    ]

    none_at : slice_get cs m ≡ None → (o : Option ChipView) → slice_get cs j ≡ o
        → o ≡ option_map (λ (x : ChipView). cond (eqb j m) (at_level x level) x) o
    none_at e None f = refl
    none_at e (Some x) f = elim (eqb_tells j m) [
      | inl h ↦ absurd (let g : None ≡ Some x = sym e ∙ ap (λ (i : ℕ). slice_get cs i) (sym h.1) ∙ f in cc)
      | inr h ↦ sym (ap (λ (t : Bool). Some (cond t (at_level x level) x)) h.0)
    ]

    by_chip : (o : Option ChipView) → slice_get cs m ≡ o
        → slice_get (option_map_or (λ (c : ChipView). slice_set cs m (at_level c level)) o cs) j ≡ option_map
        (λ (x : ChipView). cond (eqb j m) (at_level x level) x) (slice_get cs j)
    by_chip None e = none_at e (slice_get cs j) refl
    by_chip (Some c) e = get-set cs m j (at_level c level) ∙ own c e (slice_get cs j) refl

length-level : (cs : List ChipView) (m level : ℕ) → length (set_level cs m level) ≡ length cs
length-level cs m level = by_chip (slice_get cs m)
  where
    by_chip : (o : Option ChipView) → length (option_map_or (λ (c : ChipView). slice_set cs m (at_level c level)) o cs) ≡ length cs
    by_chip None = refl
    by_chip (Some c) = length-set cs m (at_level c level)

level_sort : (x : ChipView) (level : ℕ) → SameSort x (at_level x level)
level_sort x level = record { kind = refl; foreign = refl; left = λ h. h; waiting = λ e. e }

-- a mux that is switched by a line has no chip that could be absent
line_here : (b : BoardView) → IsPlainBoard b → (m : ℕ) (k : MuxKind) → IsMuxOf b m k → is_gpio k ≡ true → is_absent b m ≡ false
line_here b plain m k known by_line =
    let s = mux_at b m k known in
    let p : IsPlainMux s.0 = plain_mux b plain m s.0 s.1 in
    ap (λ (o : Option MuxSpec). unwrap_or (option_map (λ (x : MuxSpec). x.absent) o) true) s.1
    ∙ (let f : IsChip true s.0.addr s.0.absent = subst (λ (t : Bool). IsChip t s.0.addr s.0.absent) (ap is_gpio s.2 ∙ by_line) p.chip in
    f.1)

module _ (b : BoardView) (plain : IsPlainBoard b) (v : Slots) (ws : ℕ → World) (world : WorldTold b v ws)
    (p m : ℕ) (k : MuxKind) (known : IsMuxOf b m k) (by_line : is_gpio k ≡ true) (home : home_of_mux b m ≡ p)
    (held : List LockId) (marks : List Mark) (fail : MayFail b marks held v) (own : IsOfMux m (v p).slot) where
  root_home : root_of b (home_of_mux b m) ≡ root_of b p
  root_home = ap (λ (i : ℕ). root_of b i) home

  code-of : (x : ChipView) → chip_in b ws m ≡ Some x → (facts_of x.kind).code ≡ Level
  code-of x e =
      let f : Some x.kind ≡ Some k = sym (world.told.kept m x e).kind ∙ known in
      let kind : x.kind ≡ k = cc in
      ap (λ (j : MuxKind). (facts_of j).code) kind ∙ (line_row k by_line).code

  -- the line is set
  line_turn : (level : ℕ) (u : Slots) (s : MuxSlot) (now : Option ℕ) → u p ≡ turned_at (v p) m s now → ((q : ℕ) → (q ≡ p → ⊥) → u q ≡ v q)
      → MuxTold b (chip_in b ws) m (λ x. at_level x level) s now
      → WorldTold b u (changed_at ws (root_of b p) (record (ws (root_of b p)) { chips = set_level (ws (root_of b p)).chips m level }))
  line_turn level u s now here others slot =
      world_replaced b v u ws (root_of b p) (record (ws (root_of b p)) { chips = set_level (ws (root_of b p)).chips m level }) world
      (world.board (root_of b p), world.root (root_of b p), length-level (ws (root_of b p)).chips m level ∙ world.count (root_of b p))
      (still_none (ws (root_of b p)).chips (set_level (ws (root_of b p)).chips m level) m (λ x. at_level x level)
      (level_changes (ws (root_of b p)).chips m level) (λ x e. level_sort x level) (world.rest (root_of b p)))
      (told-turned b v u (chip_in b ws)
      (chip_in b (changed_at ws (root_of b p) (record (ws (root_of b p)) { chips = set_level (ws (root_of b p)).chips m level }))) m
      (λ x. at_level x level) s now
      (replaced-chip b ws (root_of b p) (record (ws (root_of b p)) { chips = set_level (ws (root_of b p)).chips m level }) m
      (λ x. at_level x level) root_home
      (level_changes (ws (root_of b p)).chips m level))
      (ap u home ∙ here ∙ ap (λ (i : ℕ). turned_at (v i) m s now) (sym home)) (λ q ne. others q (λ e. ne (e ∙ sym home)))
      (subst (λ (i : ℕ). IsOfMux m (v i).slot) (sym home) own) (λ x e. level_sort x level) slot world.told)

  -- the call failed, and changed no level
  line_failed : WorldTold b (set_marks marks v) (changed_at ws (root_of b p) (stopped (ws (root_of b p))))
  line_failed =
      let same : (stopped (ws (root_of b p))).chips ≡ (ws (root_of b p)).chips =
      ap (λ (u : World). (stopped u).chips)
      (whole b (root_of b p) (ws (root_of b p)) (world.board (root_of b p)) (world.root (root_of b p)))
      ∙ stopped-chips b (root_of b p) (ws (root_of b p)).chips (ws (root_of b p)).devices (ws (root_of b p)).hearing (ws (root_of b p)).busy
      (world.rest (root_of b p)) in
      world_replaced b v (set_marks marks v) ws (root_of b p) (stopped (ws (root_of b p))) world
      (world.board (root_of b p), world.root (root_of b p), ap (λ (xs : List ChipView). length xs) same ∙ world.count (root_of b p))
      (λ i x e. world.rest (root_of b p) i x (ap (λ (xs : List ChipView). slice_get xs i) (sym same) ∙ e))
      (told_equal b (set_marks marks v) (chip_in b ws) (chip_in b (changed_at ws (root_of b p) (stopped (ws (root_of b p)))))
      (same_chip_in b ws (root_of b p) (stopped (ws (root_of b p))) same)
      (told-marks b v (set_marks marks v) (chip_in b ws) (set_marks-only b held v marks fail) world.told))

  line_closed : WorldTold b (turned v p m Clean None)
      (changed_at ws (root_of b p) (record (ws (root_of b p)) { chips = set_level (ws (root_of b p)).chips m 0 }))
  line_closed =
      line_turn 0 (turned v p m Clean None) Clean None (turned-same v p m Clean None) (λ q ne. turned-other v p m q Clean None ne)
      (record {
        opened = λ c e. absurd (let g : None ≡ Some c = e in cc);
        polled = λ h n e. absurd (let g : Clean ≡ Polled h n = e in cc);
        found = λ h e. absurd (let g : Clean ≡ Found h = e in cc);
        only = λ c x at opens. absurd (let g : false ≡ true = sym (level_closes x c) ∙ opens in cc);
        absent = λ c x e at. level_closes x c;
      })

  line_opened : (h : Hop) → h.mux ≡ m → h.on ≡ p
      → WorldTold b (turned v h.on h.mux Clean (Some h.channel))
      (changed_at ws (root_of b p) (record (ws (root_of b p)) { chips = set_level (ws (root_of b p)).chips m (h.channel + 1) }))
  line_opened h same_mux same_on =
      let s = mux_at b m k known in
      let chip = get_same_length (ws (root_of b p)).chips b.muxes m s.0 (world.count (root_of b p)) s.1 in
      let told : chip_in b ws m ≡ Some chip.0 = ap (λ (i : ℕ). slice_get (ws i).chips m) root_home ∙ chip.1 in
      line_turn (h.channel + 1) (turned v h.on h.mux Clean (Some h.channel)) Clean (Some h.channel)
      (ap (λ (i : ℕ). turned v i h.mux Clean (Some h.channel) p) same_on ∙ ap (λ (i : ℕ). turned v p i Clean (Some h.channel) p) same_mux
      ∙ turned-same v p m Clean (Some h.channel))
      (λ q ne. turned-other v h.on h.mux q Clean (Some h.channel) (λ e. ne (e ∙ same_on)))
      (record {
        opened = λ c e. (let f : h.channel ≡ c = (let e2 : Some h.channel ≡ Some c = e in cc) in (
          chip.0,
          told,
          subst (λ (i : ℕ). is_open (at_level chip.0 (h.channel + 1)) i ≡ true) f
              (level_opens chip.0 h.channel (code-of chip.0 told)).opened,
          line_here b plain m k known by_line,
          not_held b plain m k known (line_row k by_line).asks,
        ));
        polled = λ g n e. absurd (let f : Clean ≡ Polled g n = e in cc);
        found = λ g e. absurd (let f : Clean ≡ Found g = e in cc);
        only = λ c x at opens. inl (ap Some ((level_opens x h.channel (code-of x at)).only c opens));
        absent = λ c x gone at. absurd (let f : true ≡ false = sym gone ∙ line_here b plain m k known by_line in cc);
      })

pub told-shift : (b : BoardView) → IsTree b → IsPlainBoard b → (v : Slots) (ws : ℕ → World) → WorldTold b v ws
    → (job : Job) (marks : List Mark) (held : List LockId)
    → MayShift b job marks held v → (failed : Bool)
    → WorldTold b (after_job job zero marks (Lined failed) v)
    (changed_at ws (root_of b (job_bus job)) (after (ws (root_of b (job_bus job))) (line_call job failed)))
told-shift b tree plain v ws world (Call bus ms) marks held may failed = absurd (let f : false ≡ true = may.by_line in cc)
told-shift b tree plain v ws world (Select h) marks held may true =
    let hop : IsHop b h = tree.hop h.bus h may.finds.1 in
    line_failed b plain v ws world h.on h.mux h.kind hop.kind may.by_line hop.home held marks may.may_fail
    (own_select _ h zero (v h.on) may.finds.0)
told-shift b tree plain v ws world (Select h) marks held may false =
    let hop : IsHop b h = tree.hop h.bus h may.finds.1 in
    subst (λ (n : ℕ). WorldTold b (turned v h.on h.mux Clean (Some h.channel))
    (changed_at ws (root_of b h.on) (record (ws (root_of b h.on)) { chips = set_level (ws (root_of b h.on)).chips h.mux n })))
    (sym (ap (λ (v : ChannelCode). select_by v h.channel) (line_row h.kind may.by_line).code))
    (line_opened b plain v ws world h.on h.mux h.kind hop.kind may.by_line hop.home held marks may.may_fail
    (own_select _ h zero (v h.on) may.finds.0) h refl refl)
told-shift b tree plain v ws world (SwitchOff off) marks held may true =
    line_failed b plain v ws world (off_bus off) (off_mux off) (off_kind off) may.finds.2 may.by_line may.finds.1 held marks may.may_fail
    (own_open off (v (off_bus off)).slot may.finds.0)
told-shift b tree plain v ws world (SwitchOff off) marks held may false =
    line_closed b plain v ws world (off_bus off) (off_mux off) (off_kind off) may.finds.2 may.by_line may.finds.1 held marks may.may_fail
    (own_open off (v (off_bus off)).slot may.finds.0)
