-- Selects and closes by message: what they leave of what is known, and what they may give.
use Rattle.bus_laws.proofs.Cited.{◌≡◌, ℕ, zero, suc, ◌-◌, ◌<◌, ◌≤◌, Bool, true, false, cond, not, ◌&&◌, ◌||◌, List, [], ◌∷◌, length, Option}
use Rattle.bus_laws.proofs.Cited.{Some, None, eqb, ltb, refl, sym, ◌∙◌, ap, subst, ◌⊎◌, inl, inr, arith, slice_get, bit_and, option_map}
use Rattle.bus_laws.proofs.Cited.{eq-eqb, cases_lt, ltb-true, ltb-false, eqb_tells, End, MuxKind, MuxSpec, LockId, BoardView, Hop, hops}
use Rattle.bus_laws.proofs.Cited.{root_of, home_of_mux, addr_of_mux, is_absent, is_held, of_mux, IsAmongHops, IsTree, IsPlainBoard}
use Rattle.bus_laws.proofs.Cited.{ChipView, is_open, is_free, chip_sends, select_value, close_value, taken, MessageView, write_byte}
use Rattle.bus_laws.proofs.Cited.{read_byte, TalkTold, world_listener, talk, World, has_chip, changed_at, Mark, Select, Sent, is_gpio}
use Rattle.bus_laws.proofs.Cited.{is_arbitrator, chip_address, fun_ext, Slots, At, MuxSlot, Clean, Marked, Polled, Found, turned, turned_at}
use Rattle.bus_laws.proofs.Cited.{set_marks, polled_slot, after_job, after_off, IsOpenOn, CanSelect, CanGoThrough, IsMuxOf, IsOfMux}
use Rattle.bus_laws.proofs.Cited.{FindsPoll, HeadsMarks, MayFail, chip_in, IsChipOf, Explains, ChipsTold, WorldTold}
use Rattle.i2c_base.specs.declared.entry.End.TheVariants as end
use Rattle.i2c_spec.specs.Chips.{is_foreign}
use Rattle.bus_laws.specs.Runs.{answers}
use Rattle.bus_laws.proofs.tree.Slots.{turned-same, turned-other, set_marks-head}
use Rattle.bus_laws.proofs.world.Control.{looked_opens, put_byte, Changes, Quiet, absent-talk, Writes, Reads, taken_byte, look, write-talk}
use Rattle.bus_laws.proofs.world.Control.{read-talk}
use Rattle.bus_laws.proofs.world.ChipLaws.{HasChannel, OpensOne, select_opens, close_opens, SameSort, taken_sort, looked_sort}
use Rattle.bus_laws.proofs.world.Slots.{set_marks-only, told-marks, MuxTold, told-turned}
use Rattle.bus_laws.proofs.world.BoardFacts.{mux_at, get_same_length, has_address_of, has_chip-is, not_held, foreign_few, held-is}
use Rattle.bus_laws.proofs.world.BoardFacts.{foreign-is, answers-is}
use Rattle.bus_laws.proofs.world.Law.{world-is, along_here, joined_here, talk_framed, replaced-chip, same_changes, still_none}
use Rattle.bus_laws.proofs.world.Law.{world_replaced}
use Rattle.bus_laws.proofs.tree.Base.{at_with}

-- a channel that is told twice
changed_twice : (f : ℕ → Option ℕ) (m : ℕ) (c d : Option ℕ) → (n : ℕ) → changed_at (changed_at f m c) m d n ≡ changed_at f m d n
changed_twice f m c d n = by (eqb n m)
  where
    by : (t : Bool) → cond t d (cond t c (f n)) ≡ cond t d (f n)
    by true = refl
    by false = refl

turned_twice : (x : At) (m : ℕ) (s t : MuxSlot) (c d : Option ℕ) → turned_at x m t d ≡ turned_at (turned_at x m s c) m t d
unfolding at_with
turned_twice x m s t c d = sym (ap (λ (k : ℕ → Option ℕ). at_with t k) (fun_ext (changed_twice x.kept m c d)))

-- equal chips are told alike
pub told_equal : (b : BoardView) (v : Slots) (old new : ℕ → Option ChipView) → ((m : ℕ) → new m ≡ old m) → ChipsTold b v old
    → ChipsTold b v new
told_equal b v old new same told =
    record {
      kept = λ m x e. told.kept m x (sym (same m) ∙ e);
      opened = λ m c e. (let o = told.opened m c e in (o.0, same m ∙ o.1, o.2, o.3, o.4));
      polled = λ p h n x e at. told.polled p h n x e (sym (same h.mux) ∙ at);
      found = λ p h x e at. told.found p h x e (sym (same h.mux) ∙ at);
      asked = told.asked;
      free = told.free;
      only = λ m c x at opens. told.only m c x (sym (same m) ∙ at) opens;
      absent = λ m c x gone at. told.absent m c x gone (sym (same m) ∙ at);
    }

each_same : (o : Option ChipView) (t : Bool) → option_map (λ (x : ChipView). cond t x x) o ≡ o
each_same None t = refl
each_same (Some x) true = refl
each_same (Some x) false = refl

-- a look at an arbitrator that is found taken finds it once less, or it is held; one that is found free is free
look_left : (x : ChipView) (k : ℕ) → is_arbitrator x.kind ≡ true → (x.left ≤ suc k) ⊎ (x.foreign ≡ 8)
    → ((look x).left ≤ k) ⊎ ((look x).foreign ≡ 8)
look_left x k asks few =
    subst (λ (y : ChipView). (y.left ≤ k) ⊎ (y.foreign ≡ 8))
    (sym (ap (λ (t : Bool). cond t (cond (eqb x.foreign 8) x (record x { left = x.left - 1 })) x) asks))
    (by_foreign (eqb_tells x.foreign 8))
  where
    by_foreign : ((eqb x.foreign 8 ≡ true) × (x.foreign ≡ 8)) ⊎ ((eqb x.foreign 8 ≡ false) × (x.foreign ≡ 8 → ⊥))
        → ((cond (eqb x.foreign 8) x (record x { left = x.left - 1 })).left ≤ k)
        ⊎ ((cond (eqb x.foreign 8) x (record x { left = x.left - 1 })).foreign ≡ 8)
    by_foreign (inl held) = inr (ap (λ (t : Bool). (cond t x (record x { left = x.left - 1 })).foreign) held.0 ∙ held.1)
    by_foreign (inr not_held) =
        inl (subst (λ (t : Bool). (cond t x (record x { left = x.left - 1 })).left ≤ k) (sym not_held.0)
        (elim few [ inl l ↦ (let at : x.left ≤ suc k = l in omega arith) | inr f ↦ absurd (not_held.1 f) ]))

look_free : (x : ChipView) → is_arbitrator x.kind ≡ true → is_foreign x ≡ false → is_free (look x) ≡ true
look_free x asks free =
    subst (λ (y : ChipView). is_free y ≡ true)
    (sym (ap (λ (t : Bool). cond t (cond (eqb x.foreign 8) x (record x { left = x.left - 1 })) x) asks))
    (by_foreign (eqb x.foreign 8) (ltb 0 x.left) refl refl free)
  where
    by_foreign : (t u : Bool) → eqb x.foreign 8 ≡ t → ltb 0 x.left ≡ u → (eqb x.foreign 8 || ltb 0 x.left) ≡ false
        → is_free (cond (eqb x.foreign 8) x (record x { left = x.left - 1 })) ≡ true
    by_foreign true u e f or_is = absurd (let g : true ≡ false = sym (ap (λ (s : Bool). s || ltb 0 x.left) e) ∙ or_is in cc)
    by_foreign false true e f or_is = absurd (let g : true ≡ false = sym (ap (λ (s : Bool). s || ltb 0 x.left) e ∙ f) ∙ or_is in cc)
    by_foreign false false e f or_is =
        ap (λ (s : Bool). is_free (cond s x (record x { left = x.left - 1 }))) e
        ∙ ap (λ (s : Bool). not s && eqb (x.left - 1) 0) e
        ∙ eq-eqb (x.left - 1) 0 (let none : x.left ≤ 0 = ltb-false 0 x.left f in omega arith)

held_or_left : (x : ChipView) → is_foreign x ≡ true → (x.left ≤ 0) ⊎ (x.foreign ≡ 8) → x.foreign ≡ 8
held_or_left x foreign few =
    elim (eqb_tells x.foreign 8) [
      | inl h ↦ h.1
      | inr h ↦ elim few [
        | inl l ↦ absurd (let some : 0 < x.left = ltb-true 0 x.left (sym (ap (λ (s : Bool). s || ltb 0 x.left) h.0) ∙ foreign) in
            let none : x.left ≤ 0 = l in omega arith)
        | inr f ↦ f
      ]
    ]

module _ (b : BoardView) (tree : IsTree b) (plain : IsPlainBoard b) (v : Slots) (ws : ℕ → World) (world : WorldTold b v ws)
    (p m : ℕ) (kind : MuxKind) (known : IsMuxOf b m kind) (line : is_gpio kind ≡ false) (home : home_of_mux b m ≡ p)
    (reached : (g : Hop) → IsAmongHops g (hops b p) → IsOpenOn b g (v g.on))
    (held : List LockId) (marks : List Mark) (fail : MayFail b marks held v) (heads : HeadsMarks p m marks) (own : IsOfMux m (v p).slot)
    (limit : ℕ) (cut : Option ℕ) where
  spec : MuxSpec
  spec = (mux_at b m kind known).0

  spec-at : slice_get b.muxes m ≡ Some spec
  unfolding spec
  spec-at = (mux_at b m kind known).1

  chip : (x : ChipView) × (slice_get (ws (root_of b p)).chips m ≡ Some x)
  chip = get_same_length (ws (root_of b p)).chips b.muxes m spec (world.count (root_of b p)) spec-at

  root_home : root_of b (home_of_mux b m) ≡ root_of b p
  root_home = ap (λ (i : ℕ). root_of b i) home

  chip-told : chip_in b ws m ≡ Some chip.0
  chip-told = ap (λ (i : ℕ). slice_get (ws i).chips m) root_home ∙ chip.1

  own_home : IsOfMux m (v (home_of_mux b m)).slot
  own_home = subst (λ (i : ℕ). IsOfMux m (v i).slot) (sym home) own

  chip-of : IsChipOf b m chip.0
  chip-of = world.told.kept m chip.0 chip-told

  kind-of : (x : ChipView) → chip_in b ws m ≡ Some x → x.kind ≡ kind
  kind-of x e = (let f : Some x.kind ≡ Some kind = sym (world.told.kept m x e).kind ∙ known in cc)

  addr-is : addr_of_mux b m ≡ Some (chip_address b m)
  addr-is = has_address_of b plain m kind known line

  there-is : has_chip b m ≡ not (is_absent b m)
  there-is = has_chip-is b m (chip_address b m) addr-is

  abbrev sent : MessageView → TalkTold World
  sent message = talk world_listener limit (ws (root_of b p)) message true cut

  framed : (message : MessageView)
      → ((sent message).now.board ≡ b) × ((sent message).now.root ≡ root_of b p) × (length (sent message).now.chips ≡ length b.muxes)
  framed message = talk_framed b (root_of b p) limit (ws (root_of b p)) message true cut
      (world.board (root_of b p), world.root (root_of b p), world.count (root_of b p))

  quiet : (message : MessageView) → message.addr ≡ chip_address b m → is_absent b m ≡ true → Quiet (ws (root_of b p)).chips (sent message)
  quiet message to gone =
      subst (λ (u : World). Quiet (ws (root_of b p)).chips (talk world_listener limit u message true cut))
      (sym (world-is b tree plain v ws world p reached))
      (absent-talk b tree (root_of b p) p (ws (root_of b p)).chips (ws (root_of b p)).devices (ws (root_of b p)).hearing
      (ws (root_of b p)).busy
      (along_here b tree plain v ws world p reached) m (chip_address b m) chip.0 addr-is home
      (joined_here b tree plain v ws world p reached) chip.1 (world.rest (root_of b p)) limit message cut to (there-is ∙ ap not gone))

  writes : (byte : ℕ) → is_absent b m ≡ false → Writes (ws (root_of b p)).chips m byte (sent (write_byte (chip_address b m) byte))
  writes byte here =
      subst (λ (u : World). Writes (ws (root_of b p)).chips m byte
      (talk world_listener limit u (write_byte (chip_address b m) byte) true cut)) (sym (world-is b tree plain v ws world p reached))
      (write-talk b tree (root_of b p) p (ws (root_of b p)).chips (ws (root_of b p)).devices (ws (root_of b p)).hearing
      (ws (root_of b p)).busy
      (along_here b tree plain v ws world p reached) m (chip_address b m) chip.0 addr-is home
      (joined_here b tree plain v ws world p reached) chip.1 (world.rest (root_of b p)) (there-is ∙ ap not here) limit byte cut)

  reads : is_absent b m ≡ false → Reads (ws (root_of b p)).chips m (chip_sends chip.0.kind chip.0) (sent (read_byte (chip_address b m)))
  reads here =
      subst (λ (u : World). Reads (ws (root_of b p)).chips m (chip_sends chip.0.kind chip.0)
      (talk world_listener limit u (read_byte (chip_address b m)) true cut)) (sym (world-is b tree plain v ws world p reached))
      (read-talk b tree (root_of b p) p (ws (root_of b p)).chips (ws (root_of b p)).devices (ws (root_of b p)).hearing
      (ws (root_of b p)).busy
      (along_here b tree plain v ws world p reached) m (chip_address b m) chip.0 addr-is home
      (joined_here b tree plain v ws world p reached) chip.1 (world.rest (root_of b p)) (there-is ∙ ap not here) limit cut)

  in_world : (x : ChipView) → slice_get (ws (root_of b p)).chips m ≡ Some x → chip_in b ws m ≡ Some x
  in_world x e = ap (λ (i : ℕ). slice_get (ws i).chips m) root_home ∙ e

  no_line : (x : ChipView) → chip_in b ws m ≡ Some x → is_gpio x.kind ≡ false
  no_line x e = ap is_gpio (kind-of x e) ∙ line

  -- one chip changed, and the slot of its bus
  turn : (message : MessageView) (u : Slots) (s : MuxSlot) (now : Option ℕ) (f : ChipView → ChipView)
      → Changes (ws (root_of b p)).chips (sent message).now.chips m f
      → ((x : ChipView) → chip_in b ws m ≡ Some x → SameSort x (f x)) → u p ≡ turned_at (v p) m s now → ((q : ℕ) → (q ≡ p → ⊥) → u q ≡ v q)
      → MuxTold b (chip_in b ws) m f s now
      → WorldTold b u (changed_at ws (root_of b p) (sent message).now)
  turn message u s now f changes sort here others slot =
      world_replaced b v u ws (root_of b p) (sent message).now world (framed message)
      (still_none (ws (root_of b p)).chips (sent message).now.chips m f changes (λ x e. sort x (in_world x e)) (world.rest (root_of b p)))
      (told-turned b v u (chip_in b ws) (chip_in b (changed_at ws (root_of b p) (sent message).now)) m f s now
      (replaced-chip b ws (root_of b p) (sent message).now m f root_home changes)
      (ap u home ∙ here ∙ ap (λ (i : ℕ). turned_at (v i) m s now) (sym home))
      (λ q ne. others q (λ e. ne (e ∙ sym home))) own_home sort slot world.told)

  -- nothing changed but marks
  mark_only : (message : MessageView) → (sent message).now.chips ≡ (ws (root_of b p)).chips
      → WorldTold b (set_marks marks v) (changed_at ws (root_of b p) (sent message).now)
  mark_only message same =
      world_replaced b v (set_marks marks v) ws (root_of b p) (sent message).now world (framed message)
      (λ i x e. world.rest (root_of b p) i x (ap (λ (xs : List ChipView). slice_get xs i) (sym same) ∙ e))
      (told_equal b (set_marks marks v) (chip_in b ws) (chip_in b (changed_at ws (root_of b p) (sent message).now))
      (λ i. replaced-chip b ws (root_of b p) (sent message).now m (λ x. x) root_home
      (same_changes (ws (root_of b p)).chips (sent message).now.chips m same) i
      ∙ each_same (chip_in b ws i) (eqb i m))
      (told-marks b v (set_marks marks v) (chip_in b ws) (set_marks-only b held v marks fail) world.told))

  own_marked : set_marks marks v (home_of_mux b m) ≡ turned_at (v (home_of_mux b m)) m (Marked m) None
  own_marked = by_head marks heads
    where
      by_head : (ms : List Mark) → HeadsMarks p m ms → set_marks ms v (home_of_mux b m) ≡ turned_at (v (home_of_mux b m)) m (Marked m) None
      by_head [] h = absurd h
      by_head (x ∷ xs) h =
          ap (λ (i : ℕ). set_marks (x ∷ xs) v i) (home ∙ sym h.0) ∙ set_marks-head x xs v
          ∙ ap (λ (i : ℕ). turned_at (v i) x.mux (Marked x.mux) None) (h.0 ∙ sym home)
          ∙ ap (λ (i : ℕ). turned_at (v (home_of_mux b m)) i (Marked i) None) h.1

  own_again : set_marks marks v (home_of_mux b m) ≡ turned_at (set_marks marks v (home_of_mux b m)) m (Marked m) None
  own_again =
      own_marked ∙ turned_twice (v (home_of_mux b m)) m (Marked m) (Marked m) None None
      ∙ ap (λ (x : At). turned_at x m (Marked m) None) (sym own_marked)

  -- a chip changed, and its mux is marked: whatever it is now, the mark tells of it
  marked_turn : (message : MessageView) (f : ChipView → ChipView) → Changes (ws (root_of b p)).chips (sent message).now.chips m f
      → ((x : ChipView) → chip_in b ws m ≡ Some x → SameSort x (f x)) → is_absent b m ≡ false
      → WorldTold b (set_marks marks v) (changed_at ws (root_of b p) (sent message).now)
  marked_turn message f changes sort here =
      world_replaced b v (set_marks marks v) ws (root_of b p) (sent message).now world (framed message)
      (still_none (ws (root_of b p)).chips (sent message).now.chips m f changes (λ x e. sort x (in_world x e)) (world.rest (root_of b p)))
      (told-turned b (set_marks marks v) (set_marks marks v) (chip_in b ws) (chip_in b (changed_at ws (root_of b p) (sent message).now)) m f
      (Marked m) None
      (replaced-chip b ws (root_of b p) (sent message).now m f root_home changes)
      own_again (λ q ne. refl)
      (subst (λ (x : At). IsOfMux m x.slot) (sym own_marked) refl) sort
      (record {
        opened = λ c e. absurd (let g : None ≡ Some c = e in cc);
        polled = λ h n e. absurd (let g : Marked m ≡ Polled h n = e in cc);
        found = λ h e. absurd (let g : Marked m ≡ Found h = e in cc);
        only = λ c x at opens. inr refl;
        absent = λ c x gone at. absurd (let g : true ≡ false = sym gone ∙ here in cc);
      })
      (told-marks b v (set_marks marks v) (chip_in b ws) (set_marks-only b held v marks fail) world.told))

  -- nobody acknowledged: the mux is absent, and nothing is open on its bus
  nack_clean : (message : MessageView) → is_absent b m ≡ true → (sent message).now.chips ≡ (ws (root_of b p)).chips
      → WorldTold b (turned v p m Clean None) (changed_at ws (root_of b p) (sent message).now)
  nack_clean message gone same =
      turn message (turned v p m Clean None) Clean None (λ x. x) (same_changes (ws (root_of b p)).chips (sent message).now.chips m same)
      (λ x at. record { kind = refl; foreign = refl; left = λ h. h; waiting = λ e. e })
      (turned-same v p m Clean None) (λ q ne. turned-other v p m q Clean None ne)
      (record {
        opened = λ c e. absurd (let g : None ≡ Some c = e in cc);
        polled = λ h n e. absurd (let g : Clean ≡ Polled h n = e in cc);
        found = λ h e. absurd (let g : Clean ≡ Found h = e in cc);
        only = λ c x at opens. absurd (let g : false ≡ true = sym (world.told.absent m c x gone at) ∙ opens in cc);
        absent = λ c x e at. world.told.absent m c x gone at;
      })

  -- THE CLOSE
  close_done : (message : MessageView) → Changes (ws (root_of b p)).chips (sent message).now.chips m (taken_byte close_value)
      → WorldTold b (turned v p m Clean None) (changed_at ws (root_of b p) (sent message).now)
  close_done message changes =
      turn message (turned v p m Clean None) Clean None (taken_byte close_value) changes
      (λ x at. taken_sort x.kind x close_value (no_line x at))
      (turned-same v p m Clean None) (λ q ne. turned-other v p m q Clean None ne)
      (record {
        opened = λ c e. absurd (let g : None ≡ Some c = e in cc);
        polled = λ h n e. absurd (let g : Clean ≡ Polled h n = e in cc);
        found = λ h e. absurd (let g : Clean ≡ Found h = e in cc);
        only = λ c x at opens. absurd (let g : false ≡ true = sym (close_opens x.kind x c (no_line x at)) ∙ opens in cc);
        absent = λ c x e at. close_opens x.kind x c (no_line x at);
      })

  abbrev close_message : MessageView
  close_message = write_byte (chip_address b m) close_value

  abbrev Closed : End → List ℕ → Type 0
  Closed e bytes = WorldTold b (after_off p m marks (Sent e bytes) v) (changed_at ws (root_of b p) (sent close_message).now)

  close_by : (t : Bool) → is_absent b m ≡ t → (bytes : List ℕ) → Closed (sent close_message).end bytes
  close_by true gone bytes =
      let q = quiet close_message refl gone in
      elim q.1 [
        | inl e ↦ subst (λ (x : End). Closed x bytes) (sym e) (nack_clean close_message gone q.0)
        | inr early ↦ elim early [
          | inl e ↦ subst (λ (x : End). Closed x bytes) (sym e) (mark_only close_message q.0)
          | inr e ↦ subst (λ (x : End). Closed x bytes) (sym e) (mark_only close_message q.0)
        ]
      ]
  close_by false here bytes =
      elim (writes close_value here) [
        | inl cut_off ↦ elim cut_off.1 [
          | inl e ↦ subst (λ (x : End). Closed x bytes) (sym e) (mark_only close_message cut_off.0)
          | inr e ↦ subst (λ (x : End). Closed x bytes) (sym e) (mark_only close_message cut_off.0)
        ]
        | inr through ↦ elim through.1 [
          | inl e ↦ subst (λ (x : End). Closed x bytes) (sym e) (close_done close_message through.0)
          | inr e ↦ subst (λ (x : End). Closed x bytes) (sym e)
              (marked_turn close_message (taken_byte close_value) through.0 (λ x at. taken_sort x.kind x close_value (no_line x at)) here)
        ]
      ]

  pub close-told : (bytes : List ℕ) → Closed (sent close_message).end bytes
  close-told bytes = close_by (is_absent b m) refl bytes

  -- THE SELECT
  module _ (h : Hop) (same_on : h.on ≡ p) (same_mux : h.mux ≡ m) (same_kind : h.kind ≡ kind) (has : HasChannel kind h.channel) where
    slot_here : (s : MuxSlot) (now : Option ℕ) → turned v h.on h.mux s now p ≡ turned_at (v p) m s now
    slot_here s now =
        ap (λ (i : ℕ). turned v i h.mux s now p) same_on ∙ ap (λ (i : ℕ). turned v p i s now p) same_mux ∙ turned-same v p m s now

    slot_there : (s : MuxSlot) (now : Option ℕ) (q : ℕ) → (q ≡ p → ⊥) → turned v h.on h.mux s now q ≡ v q
    slot_there s now q ne = turned-other v h.on h.mux q s now (λ e. ne (e ∙ same_on))

    nack_here : (message : MessageView) → is_absent b m ≡ true → (sent message).now.chips ≡ (ws (root_of b p)).chips
        → WorldTold b (turned v h.on h.mux Clean None) (changed_at ws (root_of b p) (sent message).now)
    nack_here message gone same =
        subst (λ (i : ℕ). WorldTold b (turned v i h.mux Clean None) (changed_at ws (root_of b p) (sent message).now)) (sym same_on)
        (subst (λ (i : ℕ). WorldTold b (turned v p i Clean None) (changed_at ws (root_of b p) (sent message).now)) (sym same_mux)
        (nack_clean message gone same))

    -- the write
    abbrev value : ℕ
    value = select_value kind h.channel

    abbrev select_message : MessageView
    select_message = write_byte (chip_address b m) (select_value h.kind h.channel)

    same_value : select_value h.kind h.channel ≡ value
    same_value = ap (λ (k : MuxKind). select_value k h.channel) same_kind

    select_done : ((x : ChipView) → chip_in b ws m ≡ Some x → is_arbitrator kind ≡ true → is_free x ≡ true) → is_absent b m ≡ false
        → is_held b m ≡ false
        → Changes (ws (root_of b p)).chips (sent select_message).now.chips m (taken_byte (select_value h.kind h.channel))
        → WorldTold b (turned v h.on h.mux Clean (Some h.channel)) (changed_at ws (root_of b p) (sent select_message).now)
    select_done free here held_not changes =
        turn select_message (turned v h.on h.mux Clean (Some h.channel)) Clean (Some h.channel)
        (taken_byte (select_value h.kind h.channel)) changes
        (λ x at. taken_sort x.kind x (select_value h.kind h.channel) (no_line x at))
        (slot_here Clean (Some h.channel)) (slot_there Clean (Some h.channel))
        (record {
          opened = λ c e. (let f : h.channel ≡ c = (let e2 : Some h.channel ≡ Some c = e in cc) in (
            chip.0,
            chip-told,
            subst (λ (i : ℕ). is_open (taken_byte (select_value h.kind h.channel) chip.0) i ≡ true) f (opens chip.0 chip-told).opened,
            here,
            held_not,
          ));
          polled = λ g n e. absurd (let f : Clean ≡ Polled g n = e in cc);
          found = λ g e. absurd (let f : Clean ≡ Found g = e in cc);
          only = λ c x at open_now. inl (ap Some ((opens x at).only c open_now));
          absent = λ c x gone at. absurd (let f : true ≡ false = sym gone ∙ here in cc);
        })
      where
        opens : (x : ChipView) → chip_in b ws m ≡ Some x → OpensOne (taken_byte (select_value h.kind h.channel) x) h.channel
        opens x at =
            subst (λ (n : ℕ). OpensOne (taken_byte n x) h.channel) (sym same_value)
            (subst (λ (k : MuxKind). OpensOne (taken k (put_byte value x) value) h.channel) (sym (kind-of x at))
            (select_opens kind x h.channel (kind-of x at) line has (free x at)))

    abbrev Chosen : End → List ℕ → Type 0
    Chosen e bytes = WorldTold b (after_job (Select h) zero marks (Sent e bytes) v) (changed_at ws (root_of b p) (sent select_message).now)

    answers_here : is_absent b m ≡ false → is_held b m ≡ false → answers b h.mux ≡ true
    answers_here here free = ap (answers b) same_mux ∙ answers-is b m here free

    select_by : ((x : ChipView) → chip_in b ws m ≡ Some x → is_arbitrator kind ≡ true → is_free x ≡ true) → is_held b m ≡ false
        → (t : Bool) → is_absent b m ≡ t → (bytes : List ℕ)
        → Chosen (sent select_message).end bytes × CanSelect b h zero (sent select_message).end bytes
    select_by free held_not true gone bytes =
        let q = quiet select_message refl gone in
        let silent : is_absent b h.mux ≡ true = ap (is_absent b) same_mux ∙ gone in
        elim q.1 [
          | inl e ↦ subst (λ (x : End). Chosen x bytes × CanSelect b h zero x bytes) (sym e) (nack_here select_message gone q.0, silent)
          | inr early ↦ elim early [
            | inl e ↦ subst (λ (x : End). Chosen x bytes × CanSelect b h zero x bytes) (sym e) (mark_only select_message q.0, tt)
            | inr e ↦ subst (λ (x : End). Chosen x bytes × CanSelect b h zero x bytes) (sym e) (mark_only select_message q.0, tt)
          ]
        ]
    select_by free held_not false here bytes =
        elim (writes (select_value h.kind h.channel) here) [
          | inl cut_off ↦ elim cut_off.1 [
            | inl e ↦ subst (λ (x : End). Chosen x bytes × CanSelect b h zero x bytes) (sym e) (mark_only select_message cut_off.0, tt)
            | inr e ↦ subst (λ (x : End). Chosen x bytes × CanSelect b h zero x bytes) (sym e) (mark_only select_message cut_off.0, tt)
          ]
          | inr through ↦ elim through.1 [
            | inl e ↦ subst (λ (x : End). Chosen x bytes × CanSelect b h zero x bytes) (sym e)
                (select_done free here held_not through.0, answers_here here held_not)
            | inr e ↦ subst (λ (x : End). Chosen x bytes × CanSelect b h zero x bytes) (sym e) (
              marked_turn select_message (taken_byte (select_value h.kind h.channel)) through.0
                  (λ x at. taken_sort x.kind x (select_value h.kind h.channel) (no_line x at)) here,
              tt,
            )
          ]
        ]

    pub select-told : ((x : ChipView) → chip_in b ws m ≡ Some x → is_arbitrator kind ≡ true → is_free x ≡ true) → is_held b m ≡ false
        → (bytes : List ℕ) → Chosen (sent select_message).end bytes × CanSelect b h zero (sent select_message).end bytes
    select-told free held_not bytes = select_by free held_not (is_absent b m) refl bytes

    -- a poll
    module _ (arb : is_arbitrator kind ≡ true) (n : ℕ) (finds : FindsPoll h (suc n) (v h.on).slot) (shut : (v h.on).kept h.mux ≡ None) where
      abbrev poll_message : MessageView
      poll_message = read_byte (chip_address b m)

      arb-asks : (x : ChipView) → chip_in b ws m ≡ Some x → is_arbitrator x.kind ≡ true
      arb-asks x at = ap is_arbitrator (kind-of x at) ∙ arb

      few_left : (x : ChipView) → chip_in b ws m ≡ Some x → (x.left ≤ n) ⊎ (x.foreign ≡ 8)
      few_left x at =
          elim finds [
            | inl polled ↦ world.told.polled h.on h n x polled (ap (λ (i : ℕ). chip_in b ws i) same_mux ∙ at)
            | inr first ↦ (let kept : IsChipOf b m x = world.told.kept m x at in
                let most : of_mux (λ y. y.foreign) 0 b m ≤ 8 = foreign_few b plain m kind known in
                elim (eqb_tells x.foreign 8) [
                  | inl e ↦ inr e.1
                  | inr ne ↦ inl (less x.left x.foreign n kept.left (subst (λ (i : ℕ). i ≤ 8) kept.foreign most) ne.1 first.0)
                ])
          ]
        where
          less : (l f k : ℕ) → l ≤ f → f ≤ 8 → (f ≡ 8 → ⊥) → k ≡ 7 → l ≤ k
          less l f k lf f8 ne k7 = elim (cases_lt f 8) [ inl below ↦ omega arith | inr above ↦ absurd (ne (omega arith)) ]

      -- nothing is open while it is asked
      shut_now : (c : ℕ) (x : ChipView) → chip_in b ws m ≡ Some x → is_open (look x) c ≡ true → ⊥
      shut_now c x at opens =
          elim (subst (λ (i : ℕ). Explains (v i) m c) (home ∙ sym same_on)
          (world.told.only m c x at (sym (looked_opens x.kind x c) ∙ opens))) [
            | inl keeps ↦ (let f : None ≡ Some c = sym shut ∙ ap (λ (i : ℕ). (v h.on).kept i) same_mux ∙ keeps in cc)
            | inr mark ↦ elim finds [
              | inl polled ↦ (let f : Polled h n ≡ Marked m = sym polled ∙ mark in cc)
              | inr first ↦ (let f : Clean ≡ Marked m = sym first.1 ∙ mark in cc)
            ]
          ]

      poll_turn : (s : MuxSlot) → is_absent b m ≡ false → Changes (ws (root_of b p)).chips (sent poll_message).now.chips m look
          → MuxTold b (chip_in b ws) m look s None
          → WorldTold b (turned v h.on h.mux s None) (changed_at ws (root_of b p) (sent poll_message).now)
      poll_turn s here changes slot =
          turn poll_message (turned v h.on h.mux s None) s None look changes (λ x at. looked_sort x.kind x) (slot_here s None)
          (slot_there s None) slot

      polled_slot-told : (k : ℕ) → n ≡ suc k → is_absent b m ≡ false → MuxTold b (chip_in b ws) m look (Polled h k) None
      polled_slot-told k at_k here =
          record {
            opened = λ c e. absurd (let f : None ≡ Some c = e in cc);
            polled = λ g j e. (let f : (h ≡ g) × (k ≡ j) = (let e2 : Polled h k ≡ Polled g j = e in (cc, cc)) in (
              ap (λ (i : Hop). i.mux) (sym f.0) ∙ same_mux,
              λ x at. subst (λ (i : ℕ). ((look x).left ≤ i) ⊎ ((look x).foreign ≡ 8)) f.1
                  (look_left x k (arb-asks x at) (subst (λ (i : ℕ). (x.left ≤ i) ⊎ (x.foreign ≡ 8)) at_k (few_left x at))),
            ));
            found = λ g e. absurd (let f : Polled h k ≡ Found g = e in cc);
            only = λ c x at opens. absurd (shut_now c x at opens);
            absent = λ c x gone at. absurd (let f : true ≡ false = sym gone ∙ here in cc);
          }

      found_slot-told : is_foreign chip.0 ≡ false → is_absent b m ≡ false → MuxTold b (chip_in b ws) m look (Found h) None
      found_slot-told free here =
          record {
            opened = λ c e. absurd (let f : None ≡ Some c = e in cc);
            polled = λ g j e. absurd (let f : Found h ≡ Polled g j = e in cc);
            found = λ g e. (let f : h ≡ g = (let e2 : Found h ≡ Found g = e in cc) in (
              ap (λ (i : Hop). i.mux) (sym f) ∙ same_mux,
              λ x at. (let same : chip.0 ≡ x = (let e3 : Some chip.0 ≡ Some x = sym chip-told ∙ at in cc) in
                  subst (λ (y : ChipView). is_free (look y) ≡ true) same (look_free chip.0 (arb-asks chip.0 chip-told) free)),
            ));
            only = λ c x at opens. absurd (shut_now c x at opens);
            absent = λ c x gone at. absurd (let f : true ≡ false = sym gone ∙ here in cc);
          }

      clean_slot-told : is_absent b m ≡ false → MuxTold b (chip_in b ws) m look Clean None
      clean_slot-told here =
          record {
            opened = λ c e. absurd (let f : None ≡ Some c = e in cc);
            polled = λ g j e. absurd (let f : Clean ≡ Polled g j = e in cc);
            found = λ g e. absurd (let f : Clean ≡ Found g = e in cc);
            only = λ c x at opens. absurd (shut_now c x at opens);
            absent = λ c x gone at. absurd (let f : true ≡ false = sym gone ∙ here in cc);
          }

      abbrev Asked : End → List ℕ → Type 0
      Asked e bytes =
          WorldTold b (after_job (Select h) (suc n) marks (Sent e bytes) v) (changed_at ws (root_of b p) (sent poll_message).now)
          × CanSelect b h (suc n) e bytes

      -- what the chip sends says whether it is taken
      sends_is : (t : Bool) → is_foreign chip.0 ≡ t → bit_and (chip_sends chip.0.kind chip.0) 255 ≡ cond t 1 0
      sends_is t e =
          ap (λ (u : Bool). bit_and (cond u (cond (is_foreign chip.0) 1 0) (cond (is_gpio chip.0.kind) 255 chip.0.control)) 255)
          (arb-asks chip.0 chip-told)
          ∙ ap (λ (u : Bool). bit_and (cond u 1 0) 255) e ∙ by_test t
        where
          by_test : (u : Bool) → bit_and (cond u 1 0) 255 ≡ cond u 1 0
          by_test true = refl
          by_test false = refl

      held_now : is_absent b m ≡ false → chip.0.foreign ≡ 8 → (is_absent b h.mux ≡ false) × (is_held b h.mux ≡ true)
      held_now here e = (
        ap (is_absent b) same_mux ∙ here,
        ap (is_held b) same_mux ∙ held-is b m spec spec-at
            ∙ eq-eqb spec.foreign 8 (sym (foreign-is b m spec spec-at) ∙ chip-of.foreign ∙ e),
      )

      through_by : is_absent b m ≡ false → Changes (ws (root_of b p)).chips (sent poll_message).now.chips m look
          → (k : ℕ) → n ≡ k → (t : Bool) → is_foreign chip.0 ≡ t
          → WorldTold b (turned v h.on h.mux (polled_slot h k (cond t 1 0 ∷ [])) None) (changed_at ws (root_of b p) (sent poll_message).now)
          × CanGoThrough b h (suc k) (cond t 1 0 ∷ [])
      through_by here changes zero at_k true foreign = (
        poll_turn Clean here changes (clean_slot-told here),
        inr (held_now here (held_or_left chip.0 foreign
            (subst (λ (i : ℕ). (chip.0.left ≤ i) ⊎ (chip.0.foreign ≡ 8)) at_k (few_left chip.0 chip-told)))),
      )
      through_by here changes (suc k) at_k true foreign =
          (poll_turn (Polled h k) here changes (polled_slot-told k at_k here), tt)
      through_by here changes zero at_k false foreign =
          (poll_turn (Found h) here changes (found_slot-told foreign here), inl refl)
      through_by here changes (suc k) at_k false foreign =
          (poll_turn (Found h) here changes (found_slot-told foreign here), tt)

      poll_by : (t : Bool) → is_absent b m ≡ t → Asked (sent poll_message).end (sent poll_message).bytes
      poll_by true gone =
          let q = quiet poll_message refl gone in
          let silent : is_absent b h.mux ≡ true = ap (is_absent b) same_mux ∙ gone in
          elim q.1 [
            | inl e ↦ subst (λ (x : End). Asked x (sent poll_message).bytes) (sym e) (nack_here poll_message gone q.0, silent)
            | inr early ↦ elim early [
              | inl e ↦ subst (λ (x : End). Asked x (sent poll_message).bytes) (sym e) (mark_only poll_message q.0, tt)
              | inr e ↦ subst (λ (x : End). Asked x (sent poll_message).bytes) (sym e) (mark_only poll_message q.0, tt)
            ]
          ]
      poll_by false here =
          elim (reads here) [
            | inl cut_off ↦ elim cut_off.1 [
              | inl e ↦ subst (λ (x : End). Asked x (sent poll_message).bytes) (sym e) (mark_only poll_message cut_off.0, tt)
              | inr e ↦ subst (λ (x : End). Asked x (sent poll_message).bytes) (sym e) (mark_only poll_message cut_off.0, tt)
            ]
            | inr through ↦ elim through.1 [
              | inl ok ↦ subst (λ (x : End). Asked x (sent poll_message).bytes) (sym ok.0)
                  (subst (λ (xs : List ℕ). Asked end.Ok xs) (sym (ok.1 ∙ ap (λ (i : ℕ). i ∷ []) (sends_is (is_foreign chip.0) refl)))
                  (through_by here through.0 n refl (is_foreign chip.0) refl))
              | inr e ↦ subst (λ (x : End). Asked x (sent poll_message).bytes) (sym e)
                  (marked_turn poll_message look through.0 (λ x at. looked_sort x.kind x) here, tt)
            ]
          ]

      pub poll-told : Asked (sent poll_message).end (sent poll_message).bytes
      poll-told = poll_by (is_absent b m) refl
