-- The world law for a message of a walk: the jobs together.
use Rattle.bus_laws.proofs.Cited.{◌≡◌, ℕ, zero, suc, ◌-◌, ◌<◌, Bool, true, false, cond, not, List, [], ◌∷◌, length, Option, eqb, refl, sym}
use Rattle.bus_laws.proofs.Cited.{◌∙◌, ap, subst, inl, inr, arith, slice_get, drop, list_any, eqb_tells, LockId, Msg, Grant, BoardView}
use Rattle.bus_laws.proofs.Cited.{TransferView, written_of, Hop, root_of, home_of_mux, is_held, IsTree, IsHop, IsPlainBoard, grant_of}
use Rattle.bus_laws.proofs.Cited.{is_busy, ChipView, is_free, MessageView, messages_from, messages_of, TalkTold, world_listener, talk}
use Rattle.bus_laws.proofs.Cited.{World, changed_at, Mark, Job, Call, Select, SwitchOff, Off, Deselect, Close, off_bus, off_mux, off_kind}
use Rattle.bus_laws.proofs.Cited.{Sent, job_bus, is_arbitrator, message_of, nth_message, Slots, At, MuxSlot, Found, after_job, CanSend}
use Rattle.bus_laws.proofs.Cited.{IsOfMux, FindsOpen, FindsPoll, FindsSelect, IsCall, MaySend, chip_in, WorldTold, length-messages}
use Rattle.bus_laws.proofs.Cited.{or_parts, and_first}
use Rattle.i2c_base.specs.declared.tree.Grant.TheVariants as grant
use Rattle.bus_spec.specs.Walk.{is_last}
use Rattle.bus_laws.proofs.world.BoardFacts.{mux_at, get_same_length, not_held, held-is, foreign-is, has_channel}
use Rattle.bus_laws.proofs.tree.Law.{refusal-none}
use Rattle.bus_laws.proofs.world.Law.{world-is, along_here, talk_framed, world_replaced}
use Rattle.bus_laws.proofs.world.Jobs.{told_equal, close-told, select-told, poll-told}
use Rattle.bus_laws.proofs.world.Calls.{call-chips}

busy_is : (g : Grant) → g ≡ grant.Busy → is_busy g ≡ true
busy_is g e = ap is_busy e

nth_not_busy : (b : BoardView) (s : ℕ) (force : Bool) (ms : List Msg) (out : List ℕ) (i : ℕ) → i < length ms
    → list_any (λ (m : Msg). is_busy (grant_of b s m.addr force)) ms ≡ false
    → grant_of b s (nth_message (messages_from ms out) i).addr force ≡ grant.Busy → ⊥
nth_not_busy b s force [] out i below none busy = absurd (omega arith)
nth_not_busy b s force (m ∷ ms) out zero below none busy =
    let f : true ≡ false = sym (busy_is (grant_of b s m.addr force) busy)
    ∙ (or_parts (is_busy (grant_of b s m.addr force)) (list_any (λ (x : Msg). is_busy (grant_of b s x.addr force)) ms) none).0 in cc
nth_not_busy b s force (m ∷ ms) out (suc i) below none busy =
    nth_not_busy b s force ms (drop (written_of m) out) i (omega arith)
    (or_parts (is_busy (grant_of b s m.addr force)) (list_any (λ (x : Msg). is_busy (grant_of b s x.addr force)) ms) none).1 busy

-- each message of a caller goes to an address that isn't busy
pub call_not_busy : (b : BoardView) (whose : TransferView) (bus : ℕ) (ms : List MessageView) (left : ℕ) → IsCall b whose bus ms
    → grant_of b bus (message_of b (Call bus ms) left).addr whose.force ≡ grant.Busy → ⊥
call_not_busy b whose bus ms left c =
    subst (λ (i : ℕ). grant_of b i (nth_message ms (length ms - 1 - left)).addr whose.force ≡ grant.Busy → ⊥) (sym c.same_bus)
    (subst (λ (xs : List MessageView). grant_of b whose.bus (nth_message xs (length xs - 1 - left)).addr whose.force ≡ grant.Busy → ⊥)
    (sym c.same_messages)
    (nth_not_busy b whose.bus whose.force whose.msgs whose.out (length (messages_of whose) - 1 - left)
    (let n : length (messages_of whose) ≡ length whose.msgs = length-messages whose.msgs whose.out in omega (arith, n, c.some_message))
    (refusal-none b whose c.not_refused).1))

-- equal chips in one world are equal chips in all
pub same_chip_in : (b : BoardView) (ws : ℕ → World) (r : ℕ) (new : World) → new.chips ≡ (ws r).chips → (m : ℕ)
    → chip_in b (changed_at ws r new) m ≡ chip_in b ws m
same_chip_in b ws r new same m =
    elim (eqb_tells (root_of b (home_of_mux b m)) r) [
      | inl h ↦ ap (λ (t : Bool). slice_get (cond t new (ws (root_of b (home_of_mux b m)))).chips m) h.0
          ∙ ap (λ (xs : List ChipView). slice_get xs m) same ∙ ap (λ (i : ℕ). slice_get (ws i).chips m) (sym h.1)
      | inr h ↦ ap (λ (t : Bool). slice_get (cond t new (ws (root_of b (home_of_mux b m)))).chips m) h.0
    ]

-- what an arbitrator's slot tells of it
own_poll : (h : Hop) (left : ℕ) (s : MuxSlot) → FindsPoll h left s → IsOfMux h.mux s
own_poll h zero s f = subst (λ (x : MuxSlot). IsOfMux h.mux x) (sym f) refl
own_poll h (suc left) s f =
    elim f [ inl p ↦ subst (λ (x : MuxSlot). IsOfMux h.mux x) (sym p) refl | inr c ↦ subst (λ (x : MuxSlot). IsOfMux h.mux x) (sym c.1) tt ]

pub own_select : (t : Bool) (h : Hop) (left : ℕ) (x : At) → FindsSelect t h left x → IsOfMux h.mux x.slot
own_select true h left x f = own_poll h left x.slot f.0
own_select false h left x f = subst (λ (s : MuxSlot). IsOfMux h.mux s) (sym f.1) tt

pub own_open : (off : Off) (s : MuxSlot) → FindsOpen off s → IsOfMux (off_mux off) s
own_open (Deselect h) s f = subst (λ (x : MuxSlot). IsOfMux h.mux x) (sym f) tt
own_open (Close on mux kind) s f = subst (λ (x : MuxSlot). IsOfMux mux x) (sym f) refl

free_not_held : (x : ChipView) → is_free x ≡ true → eqb x.foreign 8 ≡ false
free_not_held x e = flip (eqb x.foreign 8) (and_first (not (eqb x.foreign 8)) (eqb x.left 0) e)
  where
    flip : (t : Bool) → not t ≡ true → t ≡ false
    flip false e = refl
    flip true e = absurd (let f : false ≡ true = e in cc)

module _ (b : BoardView) (tree : IsTree b) (plain : IsPlainBoard b) (v : Slots) (ws : ℕ → World) (world : WorldTold b v ws)
    (whose : TransferView) (marks : List Mark) (held : List LockId) (limit : ℕ) (cut : Option ℕ) where
  abbrev sent_of : Job → ℕ → TalkTold World
  sent_of job left = talk world_listener limit (ws (root_of b (job_bus job))) (message_of b job left) (is_last job left) cut

  abbrev Keeps : Job → ℕ → Type 0
  Keeps job left =
      WorldTold b (after_job job left marks (Sent (sent_of job left).end (sent_of job left).bytes) v)
      (changed_at ws (root_of b (job_bus job)) (sent_of job left).now)
      × CanSend b job left (Sent (sent_of job left).end (sent_of job left).bytes)

  call_kept : (bus : ℕ) (ms : List MessageView) (left : ℕ) → MaySend b whose (Call bus ms) left marks held v → Keeps (Call bus ms) left
  call_kept bus ms left may =
      let same : (sent_of (Call bus ms) left).now.chips ≡ (ws (root_of b bus)).chips =
      ap (λ (u : World). (talk world_listener limit u (message_of b (Call bus ms) left) (is_last (Call bus ms) left) cut).now.chips)
      (world-is b tree plain v ws world bus (λ g a. (may.reached g a).0))
      ∙ call-chips b tree (root_of b bus) bus (ws (root_of b bus)).chips (ws (root_of b bus)).devices (ws (root_of b bus)).hearing
      (ws (root_of b bus)).busy
      (along_here b tree plain v ws world bus (λ g a. (may.reached g a).0)) whose.force limit (message_of b (Call bus ms) left)
      (is_last (Call bus ms) left) cut
      (call_not_busy b whose bus ms left may.granted) (world.rest (root_of b bus)) in (
        world_replaced b v v ws (root_of b bus) (sent_of (Call bus ms) left).now world
            (talk_framed b (root_of b bus) limit (ws (root_of b bus)) (message_of b (Call bus ms) left) (is_last (Call bus ms) left) cut
            (world.board (root_of b bus), world.root (root_of b bus), world.count (root_of b bus)))
            (λ i x e. world.rest (root_of b bus) i x (ap (λ (xs : List ChipView). slice_get xs i) (sym same) ∙ e))
            (told_equal b v (chip_in b ws) (chip_in b (changed_at ws (root_of b bus) (sent_of (Call bus ms) left).now))
            (same_chip_in b ws (root_of b bus) (sent_of (Call bus ms) left).now same) world.told),
        tt,
      )

  write_free : (h : Hop) (u : Bool) → FindsSelect u h zero (v h.on) → u ≡ true → (v h.on).slot ≡ Found h
  write_free h true f e = f.0
  write_free h false f e = absurd (let g : false ≡ true = e in cc)

  write_not_held : (h : Hop) (u : Bool) → is_arbitrator h.kind ≡ u → FindsSelect u h zero (v h.on) → IsHop b h → is_held b h.mux ≡ false
  write_not_held h true arb f hop =
      let s = mux_at b h.mux h.kind hop.kind in
      let x = get_same_length (ws (root_of b (home_of_mux b h.mux))).chips b.muxes h.mux s.0
      (world.count (root_of b (home_of_mux b h.mux))) s.1 in
      held-is b h.mux s.0 s.1
      ∙ ap (λ (n : ℕ). eqb n 8) (sym (foreign-is b h.mux s.0 s.1) ∙ (world.told.kept h.mux x.0 x.1).foreign)
      ∙ free_not_held x.0 (world.told.found h.on h x.0 f.0 x.1)
  write_not_held h false arb f hop = not_held b plain h.mux h.kind hop.kind arb

  select_kept : (h : Hop) (left : ℕ) (t : Bool) → is_arbitrator h.kind ≡ t → MaySend b whose (Select h) left marks held v
      → Keeps (Select h) left
  select_kept h zero t arb may =
      let hop : IsHop b h = tree.hop h.bus h may.finds.1 in
      let finds : FindsSelect t h zero (v h.on) = subst (λ (u : Bool). FindsSelect u h zero (v h.on)) arb may.finds.0 in
      select-told b tree plain v ws world h.on h.mux h.kind hop.kind may.by_message hop.home
      (λ g a. (may.reached g a).0) held marks may.may_fail may.owns.1
      (own_select t h zero (v h.on) finds) limit cut h refl refl refl
      (has_channel b plain h hop (tree.within h.bus h may.finds.2 may.finds.1))
      (λ x at is_arb. world.told.found h.on h x (write_free h t finds (sym arb ∙ is_arb)) at)
      (write_not_held h t arb finds hop)
      (sent_of (Select h) zero).bytes
  select_kept h (suc n) true arb may =
      let hop : IsHop b h = tree.hop h.bus h may.finds.1 in
      let finds : FindsSelect true h (suc n) (v h.on) = subst (λ (u : Bool). FindsSelect u h (suc n) (v h.on)) arb may.finds.0 in
      poll-told b tree plain v ws world h.on h.mux h.kind hop.kind may.by_message hop.home
      (λ g a. (may.reached g a).0) held marks may.may_fail may.owns.1
      (own_poll h (suc n) (v h.on).slot finds.0) limit cut h refl refl refl
      (has_channel b plain h hop (tree.within h.bus h may.finds.2 may.finds.1)) arb n finds.0 finds.1
  select_kept h (suc n) false arb may =
      absurd (let f : FindsSelect false h (suc n) (v h.on) = subst (λ (u : Bool). FindsSelect u h (suc n) (v h.on)) arb may.finds.0 in
      let g : suc n ≡ 0 = f.0 in omega arith)

  off_kept : (off : Off) (left : ℕ) → MaySend b whose (SwitchOff off) left marks held v → Keeps (SwitchOff off) left
  off_kept off left may = (
    close-told b tree plain v ws world (off_bus off) (off_mux off) (off_kind off) may.finds.2 may.by_message may.finds.1
        (λ g a. (may.reached g a).0) held marks may.may_fail may.owns.1
        (own_open off (v (off_bus off)).slot may.finds.0) limit cut (sent_of (SwitchOff off) left).bytes,
    tt,
  )

  pub told-send : (job : Job) (left : ℕ) → MaySend b whose job left marks held v → Keeps job left
  told-send (Call bus ms) left may = call_kept bus ms left may
  told-send (Select h) left may = select_kept h left (is_arbitrator h.kind) refl may
  told-send (SwitchOff off) left may = off_kept off left may
