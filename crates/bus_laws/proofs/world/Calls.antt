-- A caller's message leaves the chips alone: no chip along its bus has its address. The inductions go over lists.
use Rattle.bus_laws.proofs.Cited.{◌≡◌, ℕ, ◌+◌, Bool, true, false, cond, ◌&&◌, ◌||◌, List, [], ◌∷◌, ◌++◌, Option, Some, None, eqb, refl, sym}
use Rattle.bus_laws.proofs.Cited.{◌∙◌, ap, ◌⊎◌, inl, inr, slice_get, unwrap_or, list_any, option_map, eq-eqb, Event, PortCall, Node}
use Rattle.bus_laws.proofs.Cited.{MuxSpec, Grant, BoardView, Hop, hops, home_of_mux, addr_of_mux, is_below, is_on_path, is_aside, Crosses}
use Rattle.bus_laws.proofs.Cited.{IsOver, IsAlong, MayJoin, IsTree, has_address, some_chip, some_device, grant_of, ChipView, chip_table}
use Rattle.bus_laws.proofs.Cited.{TargetState, MessageView, world_listener, talk, World, after, given, feed, is_joined, chip_start}
use Rattle.bus_laws.proofs.Cited.{start_chips, start_devices, joins_chip, stop_event, hearers, heard_of, is_chip, to_chips, IsLater}
use Rattle.bus_laws.proofs.Cited.{or-true, any_passes_from_place}
use Rattle.i2c_base.specs.declared.event.Event.TheVariants as event
use Rattle.i2c_base.specs.declared.port.PortCall.TheVariants as call
use Rattle.i2c_base.specs.declared.ids.Node.TheVariants as node
use Rattle.i2c_base.specs.declared.tree.Grant.TheVariants as grant
use Rattle.bus_laws.proofs.world.Feed.{hears, feed-same, heard-none, none-named}
use Rattle.bus_laws.proofs.world.TalkLaws.{talk-keeps}
use Rattle.bus_laws.proofs.world.Reach.{world_of}
use Rattle.bus_laws.proofs.world.Hears.{chip_along}
use Rattle.bus_laws.proofs.world.Control.{NoneWaits, stop_quiet, started-chips}

pub crosses_any : (u : ℕ) (hs : List Hop) → Crosses u hs → list_any (λ (h : Hop). eqb h.on u) hs ≡ true
crosses_any u [] c = absurd c
crosses_any u (h ∷ hs) c =
    elim c [
      | inl e ↦ ap (λ (b : Bool). b || list_any (λ (g : Hop). eqb g.on u) hs) (eq-eqb h.on u e)
      | inr more ↦ ap (λ (b : Bool). eqb h.on u || b) (crosses_any u hs more) ∙ or-true (eqb h.on u)
    ]

pub over_on_path : (b : BoardView) (s u : ℕ) → IsOver b u s → is_on_path b s u ≡ true
over_on_path b s u over =
    elim over [
      | inl e ↦ ap (λ (t : Bool). t || is_below b s u) (eq-eqb u s e)
      | inr c ↦ ap (λ (t : Bool). eqb u s || t) (crosses_any u (hops b s) c) ∙ or-true (eqb u s)
    ]

-- along the bus: on its path, or below it
pub on_or_below : (b : BoardView) (s u : ℕ) → IsAlong b s u → (is_on_path b s u ≡ true) ⊎ (is_below b u s ≡ true)
on_or_below b s u along =
    elim along [
      | inl s_over ↦ elim s_over [ inl e ↦ inl (over_on_path b s u (inl (sym e))) | inr c ↦ inr (crosses_any s (hops b u) c) ]
      | inr u_over ↦ inl (over_on_path b s u u_over)
    ]

addressed : (a : ℕ) (o : Option MuxSpec) → unwrap_or (option_map (λ (m : MuxSpec). m.addr) o) None ≡ Some a
    → (m : MuxSpec) × (o ≡ Some m) × (m.addr ≡ Some a)
addressed a None e = absurd (let f : None ≡ Some a = e in cc)
addressed a (Some m) e = (m, refl, e)

chip_test : (a : ℕ) (m : MuxSpec) (on : ℕ → Bool) → m.addr ≡ Some a → on m.bus ≡ true → (has_address a m.addr && on m.bus) ≡ true
chip_test a m on e t =
    ap (λ (o : Option ℕ). has_address a o && on m.bus) e ∙ ap (λ (u : Bool). u && on m.bus) (eq-eqb a a refl) ∙ t

either : (t : Bool) (x : Grant) → x ≡ grant.Busy → cond t grant.Busy x ≡ grant.Busy
either true x e = refl
either false x e = e

sooner : (t : Bool) (x : Grant) → t ≡ true → cond t grant.Busy x ≡ grant.Busy
sooner t x e = ap (λ (c : Bool). cond c grant.Busy x) e

busy_path : (b : BoardView) (s a : ℕ) (force : Bool) → some_chip b a (is_on_path b s) ≡ true → grant_of b s a force ≡ grant.Busy
busy_path b s a force e = sooner (some_chip b a (is_on_path b s)) _ e

pub busy_below : (b : BoardView) (s a : ℕ) (force : Bool)
    → (some_chip b a (λ u. is_below b u s) || some_device b a (λ u. is_below b u s)) ≡ true → grant_of b s a force ≡ grant.Busy
busy_below b s a force e =
    either (some_chip b a (is_on_path b s)) _ (sooner (some_chip b a (λ u. is_below b u s) || some_device b a (λ u. is_below b u s)) _ e)

pub busy_aside : (b : BoardView) (s a : ℕ) (force : Bool) → (some_chip b a (is_aside b s) || some_device b a (is_aside b s)) ≡ true
    → grant_of b s a force ≡ grant.Busy
busy_aside b s a force e =
    either (some_chip b a (is_on_path b s)) _ (either (some_chip b a (λ u. is_below b u s) || some_device b a (λ u. is_below b u s)) _
    (sooner (some_chip b a (is_aside b s) || some_device b a (is_aside b s)) _ e))

pub busy_chip : (b : BoardView) (s a : ℕ) (force : Bool) (n : ℕ) → addr_of_mux b n ≡ Some a → MayJoin b s (home_of_mux b n)
    → grant_of b s a force ≡ grant.Busy
busy_chip b s a force n addr may =
    let m = addressed a (slice_get b.muxes n) addr in
    let bus : home_of_mux b n ≡ m.0.bus = ap (λ (o : Option MuxSpec). unwrap_or (option_map (λ (x : MuxSpec). x.bus) o) 0) m.1 in
    elim may [
      | inl along ↦ elim (on_or_below b s (home_of_mux b n) along) [
        | inl on ↦ busy_path b s a force
            (any_passes_from_place (λ (x : MuxSpec). has_address a x.addr && is_on_path b s x.bus) b.muxes n m.0 m.1
            (chip_test a m.0 (is_on_path b s) m.2 (ap (is_on_path b s) (sym bus) ∙ on)))
        | inr below ↦ busy_below b s a force
            (ap (λ (t : Bool). t || some_device b a (λ u. is_below b u s))
            (any_passes_from_place (λ (x : MuxSpec). has_address a x.addr && is_below b x.bus s) b.muxes n m.0 m.1
            (chip_test a m.0 (λ u. is_below b u s) m.2 (ap (λ u. is_below b u s) (sym bus) ∙ below))))
      ]
      | inr aside ↦ busy_aside b s a force
          (ap (λ (t : Bool). t || some_device b a (is_aside b s))
          (any_passes_from_place (λ (x : MuxSpec). has_address a x.addr && is_aside b s x.bus) b.muxes n m.0 m.1
          (chip_test a m.0 (is_aside b s) m.2 (ap (is_aside b s) (sym bus) ∙ aside))))
    ]

-- NO CHIP HEARS
module _ (b : BoardView) (tree : IsTree b) (r s : ℕ) (cs : List ChipView) (ds : List TargetState) (hs : List Node) (busy : Bool)
    (along : (u : ℕ) → is_joined (world_of b r cs ds hs busy) u ≡ true → MayJoin b s u)
    (a : ℕ) (force : Bool) (not_busy : grant_of b s a force ≡ grant.Busy → ⊥) (reading : Bool) where
  pub no_chip : heard_of node.Chip (start_chips (world_of b r cs ds hs busy) a reading) ≡ []
  no_chip =
      heard-none chip_table node.Chip (chip_start (world_of b r cs ds hs busy) a reading) 0 cs
      (λ i x e. silent (0 + i) x (hears chip_table (chip_start (world_of b r cs ds hs busy) a reading (0 + i)) x) refl)
    where
      silent : (n : ℕ) (x : ChipView) (t : Bool) → hears chip_table (chip_start (world_of b r cs ds hs busy) a reading n) x ≡ t → t ≡ false
      silent n x false h = refl
      silent n x true h =
          absurd (let f = chip_along b tree r s cs ds hs busy along a n reading x h in not_busy (busy_chip b s a force n f.0 f.1))

  pub no_chip_hears : (i : ℕ) → list_any (is_chip i) (hearers (world_of b r cs ds hs busy) a reading) ≡ false
  no_chip_hears i =
      ap (λ (xs : List Node). list_any (is_chip i) (xs ++ heard_of node.Device (start_devices (world_of b r cs ds hs busy) a reading)))
      no_chip
      ∙ none-named (is_chip i) node.Device (λ n. refl) (start_devices (world_of b r cs ds hs busy) a reading)

-- the chips stay, and none listens
abbrev IsChipless : List ChipView → World → Type 0
IsChipless cs u = (u.chips ≡ cs) × ((i : ℕ) → list_any (is_chip i) u.hearing ≡ false)

sent_chips : (u : World) (e : Event) → ((i : ℕ) → list_any (is_chip i) u.hearing ≡ false)
    → feed chip_table (to_chips u e) 0 u.chips ≡ u.chips
sent_chips u e none =
    feed-same chip_table (to_chips u e) 0 u.chips (λ i x at. ap (λ (t : Bool). given chip_table (cond t (Some e) None) x) (none (0 + i)))

stopped_chips : (cs : List ChipView) (u : World) → NoneWaits cs → u.chips ≡ cs
    → feed chip_table (λ m. stop_event (joins_chip u m)) 0 u.chips ≡ u.chips
stopped_chips cs u none same =
    feed-same chip_table (λ m. stop_event (joins_chip u m)) 0 u.chips
    (λ i x at. stop_quiet (joins_chip u (0 + i)) x (none i x (ap (λ (xs : List ChipView). slice_get xs i) (sym same) ∙ at)))

later_chipless : (cs : List ChipView) → NoneWaits cs → (u : World) (c : PortCall) → IsLater c → IsChipless cs u → IsChipless cs (after u c)
later_chipless cs none u (call.Start a reading) l f = absurd l
later_chipless cs none u (call.Line m level) l f = absurd l
later_chipless cs none u (call.Put byte) l f = (sent_chips u (event.Put byte) f.1 ∙ f.0, f.1)
later_chipless cs none u (call.Get ack) l f = (sent_chips u (event.Get ack) f.1 ∙ f.0, f.1)
later_chipless cs none u call.Stop l f = (stopped_chips cs u none f.0 ∙ f.0, λ i. refl)
later_chipless cs none u call.Fault l f = (stopped_chips cs u none f.0 ∙ f.0, λ i. refl)

-- a caller's message leaves the chips as they are
pub call-chips : (b : BoardView) (tree : IsTree b) (r s : ℕ) (cs : List ChipView) (ds : List TargetState) (hs : List Node) (busy : Bool)
    → ((u : ℕ) → is_joined (world_of b r cs ds hs busy) u ≡ true → MayJoin b s u)
    → (force : Bool) (limit : ℕ) (m : MessageView) (last : Bool) (cut : Option ℕ) → (grant_of b s m.addr force ≡ grant.Busy → ⊥)
    → NoneWaits cs
    → (talk world_listener limit (world_of b r cs ds hs busy) m last cut).now.chips ≡ cs
call-chips b tree r s cs ds hs busy along force limit m last cut not_busy none =
    (talk-keeps world_listener (IsChipless cs) (later_chipless cs none) limit (world_of b r cs ds hs busy) m last cut
    (stopped_chips cs (world_of b r cs ds hs busy) none refl, λ i. refl)
    (started-chips b r cs ds hs busy m.addr m.reading, no_chip_hears b tree r s cs ds hs busy along m.addr force not_busy m.reading)).0
