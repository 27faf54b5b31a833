-- The world law: what is known of the buses stays so through a message or a line step of a walk, and the step gives
-- what the tree law counts on.
use Rattle.bus_laws.proofs.Cited.{◌≡◌, ℕ, Bool, true, false, cond, ◌&&◌, List, length, Option, Some, None, eqb, refl, sym, ◌∙◌, ap, subst}
use Rattle.bus_laws.proofs.Cited.{inl, inr, slice_get, list_all, option_map, option_map_or, eq-eqb, eqb_tells, PortCall, BoardView, Hop}
use Rattle.bus_laws.proofs.Cited.{hops, root_of, home_of_mux, IsAmongHops, MayJoin, IsTree, IsPlainBoard, ChipView, chip_table, is_open}
use Rattle.bus_laws.proofs.Cited.{MessageView, world_listener, talk, World, after, opens_hop, is_joined, joins_chip, chip_start, to_chips}
use Rattle.bus_laws.proofs.Cited.{stop_event, changed_at, Slots, IsOpenOn, chip_in, Explains, ChipsTold, WorldTold, IsLater}
use Rattle.i2c_base.specs.declared.port.PortCall.TheVariants as call
use Rattle.i2c_base.specs.declared.event.Event.TheVariants as event
use Rattle.bus_laws.proofs.world.Feed.{length-feed}
use Rattle.bus_laws.proofs.world.TalkLaws.{talk-keeps}
use Rattle.bus_laws.proofs.world.Reach.{world_of, all_of, joined_may}
use Rattle.bus_laws.proofs.world.Control.{NoneWaits, Changes}
use Rattle.bus_laws.proofs.world.ChipLaws.{SameSort}
use Rattle.bus_laws.proofs.world.Slots.{Turns}

-- a world is its parts
pub whole : (b : BoardView) (r : ℕ) (w : World) → w.board ≡ b → w.root ≡ r → w ≡ world_of b r w.chips w.devices w.hearing w.busy
whole b r w eb er =
    ap (λ (x : BoardView). world_of x w.root w.chips w.devices w.hearing w.busy) eb
    ∙ ap (λ (i : ℕ). world_of b i w.chips w.devices w.hearing w.busy) er

module _ (b : BoardView) (tree : IsTree b) (plain : IsPlainBoard b) (v : Slots) (ws : ℕ → World) (world : WorldTold b v ws) (s : ℕ)
    (reached : (g : Hop) → IsAmongHops g (hops b s) → IsOpenOn b g (v g.on)) where
  abbrev r : ℕ
  r = root_of b s

  abbrev w : World
  w = world_of b (root_of b s) (ws (root_of b s)).chips (ws (root_of b s)).devices (ws (root_of b s)).hearing (ws (root_of b s)).busy

  pub world-is : ws (root_of b s) ≡ w
  world-is = whole b (root_of b s) (ws (root_of b s)) (world.board (root_of b s)) (world.root (root_of b s))

  only_here : (m c : ℕ) (x : ChipView) → root_of b (home_of_mux b m) ≡ root_of b s → slice_get (ws (root_of b s)).chips m ≡ Some x
      → is_open x c ≡ true
      → Explains (v (home_of_mux b m)) m c
  only_here m c x root at opens = world.told.only m c x (ap (λ (i : ℕ). slice_get (ws i).chips m) root ∙ at) opens

  -- what is joined lies along the message's bus, which is joined itself, or is aside of it
  pub along_here : (u : ℕ) → is_joined w u ≡ true → MayJoin b s u
  along_here u e =
      joined_may b tree v (root_of b s) s (ws (root_of b s)).chips refl reached only_here
      (ws (root_of b s)).devices (ws (root_of b s)).hearing (ws (root_of b s)).busy u e

  hop_open : (g : Hop) → IsAmongHops g (hops b s) → opens_hop (ws (root_of b s)).chips g ≡ true
  hop_open g a =
      let home : home_of_mux b g.mux ≡ g.on = (tree.hop s g a).home in
      let o = world.told.opened g.mux g.channel (subst (λ (i : ℕ). (v i).kept g.mux ≡ Some g.channel) (sym home) (reached g a).kept) in
      let at : slice_get (ws (root_of b s)).chips g.mux ≡ Some o.0 =
      ap (λ (i : ℕ). slice_get (ws i).chips g.mux) (sym (ap (λ (i : ℕ). root_of b i) home ∙ tree.root_same s g a)) ∙ o.1 in
      ap (λ (c : Option ChipView). option_map_or (λ (x : ChipView). is_open x g.channel) c false) at ∙ o.2

  pub path_open : list_all (opens_hop (ws (root_of b s)).chips) (hops b s) ≡ true
  path_open = all_of (opens_hop (ws (root_of b s)).chips) (hops b s) hop_open

  pub joined_here : is_joined w s ≡ true
  joined_here =
      ap (λ (t : Bool). t && list_all (opens_hop (ws (root_of b s)).chips) (hops b s)) (eq-eqb (root_of b s) (root_of b s) refl) ∙ path_open

-- WORLDS: every call keeps the board, the root and the number of chips
abbrev pub IsFramed : BoardView → ℕ → World → Type 0
IsFramed b r w = (w.board ≡ b) × (w.root ≡ r) × (length w.chips ≡ length b.muxes)

pub later_framed : (b : BoardView) (r : ℕ) (u : World) (c : PortCall) → IsLater c → IsFramed b r u → IsFramed b r (after u c)
later_framed b r u (call.Start a reading) l f = absurd l
later_framed b r u (call.Line m level) l f = absurd l
later_framed b r u (call.Put byte) l f = (f.0, f.1, length-feed chip_table (to_chips u (event.Put byte)) 0 u.chips ∙ f.2)
later_framed b r u (call.Get ack) l f = (f.0, f.1, length-feed chip_table (to_chips u (event.Get ack)) 0 u.chips ∙ f.2)
later_framed b r u call.Stop l f = (f.0, f.1, length-feed chip_table (λ m. stop_event (joins_chip u m)) 0 u.chips ∙ f.2)
later_framed b r u call.Fault l f = (f.0, f.1, length-feed chip_table (λ m. stop_event (joins_chip u m)) 0 u.chips ∙ f.2)

pub talk_framed : (b : BoardView) (r limit : ℕ) (u : World) (m : MessageView) (last : Bool) (cut : Option ℕ) → IsFramed b r u
    → IsFramed b r (talk world_listener limit u m last cut).now
talk_framed b r limit u m last cut f =
    talk-keeps world_listener (IsFramed b r) (later_framed b r) limit u m last cut
    (f.0, f.1, length-feed chip_table (λ i. stop_event (joins_chip u i)) 0 u.chips ∙ f.2)
    (f.0, f.1, length-feed chip_table (chip_start u m.addr m.reading) 0 u.chips ∙ f.2)

-- one world is replaced: the chips of other roots stay
pub replaced-chip : (b : BoardView) (ws : ℕ → World) (r : ℕ) (new : World) (k : ℕ) (f : ChipView → ChipView)
    → root_of b (home_of_mux b k) ≡ r
    → Changes (ws r).chips new.chips k f → Turns (chip_in b ws) (chip_in b (changed_at ws r new)) k f
replaced-chip b ws r new k f root changes m =
    elim (eqb_tells (root_of b (home_of_mux b m)) r) [
      | inl h ↦ ap (λ (t : Bool). slice_get (cond t new (ws (root_of b (home_of_mux b m)))).chips m) h.0
          ∙ changes m
          ∙ ap (λ (i : ℕ). option_map (λ (x : ChipView). cond (eqb m k) (f x) x) (slice_get (ws i).chips m)) (sym h.1)
      | inr h ↦ ap (λ (t : Bool). slice_get (cond t new (ws (root_of b (home_of_mux b m)))).chips m) h.0
          ∙ sym (as_it_was (slice_get (ws (root_of b (home_of_mux b m))).chips m) (other h.1))
    ]
  where
    other : (root_of b (home_of_mux b m) ≡ r → ⊥) → eqb m k ≡ false
    other ne = elim (eqb_tells m k) [ inl q ↦ absurd (ne (ap (λ (i : ℕ). root_of b (home_of_mux b i)) q.1 ∙ root)) | inr q ↦ q.0 ]

    as_it_was : (o : Option ChipView) → eqb m k ≡ false → option_map (λ (x : ChipView). cond (eqb m k) (f x) x) o ≡ o
    as_it_was None e = refl
    as_it_was (Some x) e = ap (λ (t : Bool). Some (cond t (f x) x)) e

-- a list that stays is one in which each chip stays
pub same_changes : (cs new : List ChipView) (k : ℕ) → new ≡ cs → Changes cs new k (λ x. x)
same_changes cs new k e i = ap (λ (xs : List ChipView). slice_get xs i) e ∙ sym (each (slice_get cs i) (eqb i k))
  where
    each : (o : Option ChipView) (t : Bool) → option_map (λ (x : ChipView). cond t x x) o ≡ o
    each None t = refl
    each (Some x) true = refl
    each (Some x) false = refl

-- no byte waits afterwards where the changed chip keeps its sort
pub still_none : (cs new : List ChipView) (k : ℕ) (f : ChipView → ChipView) → Changes cs new k f
    → ((x : ChipView) → slice_get cs k ≡ Some x → SameSort x (f x))
    → NoneWaits cs → NoneWaits new
still_none cs new k f changes sort none i y at = by_old (slice_get cs i) refl
  where
    by_old : (o : Option ChipView) → slice_get cs i ≡ o → y.waiting ≡ None
    by_old None e = absurd (let g : None ≡ Some y = sym (changes i
        ∙ ap (λ (o : Option ChipView). option_map (λ (x : ChipView). cond (eqb i k) (f x) x) o) e) ∙ at in cc)
    by_old (Some x) e =
        let now : cond (eqb i k) (f x) x ≡ y =
        (let g : Some (cond (eqb i k) (f x) x) ≡ Some y = sym (changes i
        ∙ ap (λ (o : Option ChipView). option_map (λ (x : ChipView). cond (eqb i k) (f x) x) o) e) ∙ at in cc) in
        elim (eqb_tells i k) [
          | inl h ↦ ap (λ (z : ChipView). z.waiting) (sym (sym (ap (λ (t : Bool). cond t (f x) x) h.0) ∙ now))
              ∙ (sort x (ap (λ (j : ℕ). slice_get cs j) (sym h.1) ∙ e)).waiting (none i x e)
          | inr h ↦ ap (λ (z : ChipView). z.waiting) (sym (sym (ap (λ (t : Bool). cond t (f x) x) h.0) ∙ now)) ∙ none i x e
        ]

-- the whole of it: one world is replaced by one whose chips are told
pub world_replaced : (b : BoardView) (v u : Slots) (ws : ℕ → World) (r : ℕ) (new : World) → WorldTold b v ws → IsFramed b r new
    → NoneWaits new.chips
    → ChipsTold b u (chip_in b (changed_at ws r new)) → WorldTold b u (changed_at ws r new)
world_replaced b v u ws r new world framed none told =
    record {
      board = λ i. elim (eqb_tells i r) [
        | inl h ↦ ap (λ (t : Bool). (cond t new (ws i)).board) h.0 ∙ framed.0
        | inr h ↦ ap (λ (t : Bool). (cond t new (ws i)).board) h.0 ∙ world.board i
      ];
      root = λ i. elim (eqb_tells i r) [
        | inl h ↦ ap (λ (t : Bool). (cond t new (ws i)).root) h.0 ∙ framed.1 ∙ sym h.1
        | inr h ↦ ap (λ (t : Bool). (cond t new (ws i)).root) h.0 ∙ world.root i
      ];
      count = λ i. elim (eqb_tells i r) [
        | inl h ↦ ap (λ (t : Bool). length (cond t new (ws i)).chips) h.0 ∙ framed.2
        | inr h ↦ ap (λ (t : Bool). length (cond t new (ws i)).chips) h.0 ∙ world.count i
      ];
      rest = λ i j x at. elim (eqb_tells i r) [
        | inl h ↦ none j x (sym (ap (λ (t : Bool). slice_get (cond t new (ws i)).chips j) h.0) ∙ at)
        | inr h ↦ world.rest i j x (sym (ap (λ (t : Bool). slice_get (cond t new (ws i)).chips j) h.0) ∙ at)
      ];
      told = told;
    }
