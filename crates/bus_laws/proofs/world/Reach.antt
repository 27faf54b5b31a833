-- Who is joined while a message is sent: what lies along its bus, and what is aside of it, where muxes keep channels. The
-- inductions go over hops.
use Rattle.bus_laws.proofs.Cited.{◌≡◌, ℕ, Bool, true, false, not, ◌&&◌, ◌||◌, List, [], ◌∷◌, Option, Some, None, eqb, refl, sym, ◌∙◌, ap}
use Rattle.bus_laws.proofs.Cited.{subst, ◌⊎◌, inl, inr, slice_get, list_all, list_any, option_map_or, eqb-true, eq-eqb, eqb_tells, or-true}
use Rattle.bus_laws.proofs.Cited.{Node, BoardView, Table, Hop, hops, root_of, home_of_mux, addr_of_mux, is_aside, Crosses, IsAmongHops}
use Rattle.bus_laws.proofs.Cited.{IsOver, IsAlong, MayJoin, IsTree, home_of, addr_of, has_address, ChipView, is_open, TargetState}
use Rattle.bus_laws.proofs.Cited.{state_answer, World, opens_hop, is_joined, start_event, has_heard, Slots, Clean, Marked, IsOpenOn}
use Rattle.bus_laws.proofs.Cited.{Explains, and_first, and_last}
use Rattle.i2c_base.specs.declared.event.Event.TheVariants as event
use Rattle.i2c_base.specs.declared.ids.Node.TheVariants as node
use Rattle.i2c_spec.specs.Tree.{end_of, crosses_mux, is_kept_hop, IsApart}
use Rattle.i2c_spec.proofs.StateLemmas.{states_fair}
use Rattle.bus_laws.proofs.world.Feed.{hears}

-- a world by its parts
abbrev pub world_of : BoardView → ℕ → List ChipView → List TargetState → List Node → Bool → World
world_of b r cs ds hs busy = record { board = b; root = r; chips = cs; devices = ds; hearing = hs; busy = busy }

pub all_among : (test : Hop → Bool) (hs : List Hop) (h : Hop) → list_all test hs ≡ true → IsAmongHops h hs → test h ≡ true
all_among test [] h e a = absurd a
all_among test (g ∷ gs) h e a =
    elim a [
      | inl same ↦ ap test same ∙ and_first (test g) (list_all test gs) e
      | inr more ↦ all_among test gs h (and_last (test g) (list_all test gs) e) more
    ]

pub all_of : (test : Hop → Bool) (hs : List Hop) → ((h : Hop) → IsAmongHops h hs → test h ≡ true) → list_all test hs ≡ true
all_of test [] all = refl
all_of test (g ∷ gs) all =
    ap (λ (t : Bool). t && list_all test gs) (all g (inl refl)) ∙ all_of test gs (λ h a. all h (inr a))

-- an open hop has a chip that opens its channel
open_chip : (channel : ℕ) (o : Option ChipView) → option_map_or (λ (c : ChipView). is_open c channel) o false ≡ true
    → (x : ChipView) × (o ≡ Some x) × (is_open x channel ≡ true)
open_chip channel None e = absurd (let f : false ≡ true = e in cc)
open_chip channel (Some x) e = (x, refl, e)

-- each bus behind a hop of a path is on the path
behind_on_path : (b : BoardView) → IsTree b → (hs : List Hop) (s : ℕ) (g : Hop) → hops b s ≡ hs → IsAmongHops g hs
    → (g.bus ≡ s) ⊎ Crosses g.bus hs
behind_on_path b tree [] s g at a = absurd a
behind_on_path b tree (h ∷ hs) s g at a =
    elim a [
      | inl same ↦ inl (ap (λ (x : Hop). x.bus) same ∙ (tree.leads s h hs at).0)
      | inr more ↦ elim (behind_on_path b tree hs h.on g (tree.tail s h hs at) more) [ inl e ↦ inr (inl (sym e)) | inr c ↦ inr (inr c) ]
    ]

-- a crossed bus has a hop that stands on it
pub crossing_hop : (u : ℕ) (hs : List Hop) → Crosses u hs → (g : Hop) × IsAmongHops g hs × (g.on ≡ u)
crossing_hop u [] c = absurd c
crossing_hop u (h ∷ hs) c =
    elim c [ inl e ↦ (h, inl refl, e) | inr more ↦ (let r = crossing_hop u hs more in (r.0, inr r.1, r.2)) ]

over_more : (b : BoardView) (s u : ℕ) (h : Hop) (hs : List Hop) → hops b u ≡ h ∷ hs → hops b h.on ≡ hs → IsOver b s h.on → IsOver b s u
over_more b s u h hs at tail over =
    inr (subst (λ (xs : List Hop). Crosses s xs) (sym at) (elim over [
      | inl e ↦ inl (sym e)
      | inr c ↦ inr (subst (λ (xs : List Hop). Crosses s xs) tail c)
    ]))

-- on different buses: two hops of one path on one bus are one
pub crosses_of : (g : Hop) (hs : List Hop) → IsAmongHops g hs → Crosses g.on hs
crosses_of g [] a = absurd a
crosses_of g (h ∷ hs) a = elim a [ inl e ↦ inl (ap (λ (x : Hop). x.on) (sym e)) | inr more ↦ inr (crosses_of g hs more) ]

one_on : (hs : List Hop) (g h : Hop) → IsApart hs → IsAmongHops g hs → IsAmongHops h hs → g.on ≡ h.on → g ≡ h
one_on [] g h apart ag ah e = absurd ag
one_on (x ∷ xs) g h apart ag ah e =
    elim ag [
      | inl eg ↦ elim ah [
        | inl eh ↦ eg ∙ sym eh
        | inr mh ↦ absurd (apart.0 (subst (λ (i : ℕ). Crosses i xs) (sym e ∙ ap (λ (y : Hop). y.on) eg) (crosses_of h xs mh)))
      ]
      | inr mg ↦ elim ah [
        | inl eh ↦ absurd (apart.0 (subst (λ (i : ℕ). Crosses i xs) (e ∙ ap (λ (y : Hop). y.on) eh) (crosses_of g xs mg)))
        | inr mh ↦ one_on xs g h apart.1 mg mh e
      ]
    ]

-- a mux that is crossed, read back
mux_hop : (m : ℕ) (hs : List Hop) → crosses_mux m hs ≡ true → (g : Hop) × IsAmongHops g hs × (g.mux ≡ m)
mux_hop m [] e = absurd (let f : false ≡ true = e in cc)
mux_hop m (h ∷ hs) e = by (eqb h.mux m) refl (mux_hop m hs)
  where
    by : (t : Bool) → eqb h.mux m ≡ t → (crosses_mux m hs ≡ true → (g : Hop) × IsAmongHops g hs × (g.mux ≡ m))
        → (g : Hop) × IsAmongHops g (h ∷ hs) × (g.mux ≡ m)
    by true f rest = (h, inl refl, eqb-true h.mux m f)
    by false f rest = (let r = rest (sym (ap (λ (t : Bool). t || crosses_mux m hs) f) ∙ e) in (r.0, inr r.1, r.2))

-- a mux of which no hop of a path is isn't crossed by it
not_among : (m : ℕ) (hs : List Hop) → ((g : Hop) → IsAmongHops g hs → g.mux ≡ m → ⊥) → crosses_mux m hs ≡ false
not_among m hs none = by (crosses_mux m hs) refl
  where
    by : (t : Bool) → crosses_mux m hs ≡ t → crosses_mux m hs ≡ false
    by true e = absurd (let r = mux_hop m hs e in none r.0 r.1 r.2)
    by false e = e

kept_here : (b : BoardView) (s : ℕ) (h : Hop) (hs : List Hop) → h.stays ≡ true → crosses_mux h.mux (hops b s) ≡ false
    → list_any (is_kept_hop b s) (h ∷ hs) ≡ true
kept_here b s h hs stays off =
    ap (λ (t : Bool). (t && not (crosses_mux h.mux (hops b s))) || list_any (is_kept_hop b s) hs) stays
    ∙ ap (λ (t : Bool). not t || list_any (is_kept_hop b s) hs) off

kept_more : (b : BoardView) (s : ℕ) (h : Hop) (hs : List Hop) → list_any (is_kept_hop b s) hs ≡ true
    → list_any (is_kept_hop b s) (h ∷ hs) ≡ true
kept_more b s h hs e = ap (λ (t : Bool). is_kept_hop b s h || t) e ∙ or-true (is_kept_hop b s h)

-- along the bus, or with a kept hop that isn't over it
abbrev Joins : BoardView → ℕ → ℕ → List Hop → Type 0
Joins b s u hs = IsAlong b s u ⊎ (list_any (is_kept_hop b s) hs ≡ true)

module _ (b : BoardView) (tree : IsTree b) (v : Slots) (r s : ℕ) (cs : List ChipView)
    (rooted : root_of b s ≡ r)
    (reached : (g : Hop) → IsAmongHops g (hops b s) → IsOpenOn b g (v g.on))
    (only : (m c : ℕ) (x : ChipView) → root_of b (home_of_mux b m) ≡ r → slice_get cs m ≡ Some x → is_open x c ≡ true
    → Explains (v (home_of_mux b m)) m c) where
  -- an open hop that stands on a bus of the message's path has its channel kept, and that bus has no mark
  kept_at : (h g : Hop) → (u : ℕ) → IsAmongHops h (hops b u) → root_of b h.on ≡ r → IsAmongHops g (hops b s) → g.on ≡ h.on
      → opens_hop cs h ≡ true
      → (v g.on).kept h.mux ≡ Some h.channel
  kept_at h g u a root_h in_path on opened =
      let chip = open_chip h.channel (slice_get cs h.mux) opened in
      let home : home_of_mux b h.mux ≡ h.on = (tree.hop u h a).home in
      let at : home_of_mux b h.mux ≡ g.on = home ∙ sym on in
      let explained : Explains (v g.on) h.mux h.channel =
      subst (λ (i : ℕ). Explains (v i) h.mux h.channel) at
      (only h.mux h.channel chip.0 (ap (λ (i : ℕ). root_of b i) home ∙ root_h) chip.1 chip.2) in
      elim explained [
        | inl kept ↦ kept
        | inr mark ↦ absurd (let f : Clean ≡ Marked h.mux = sym (reached g in_path).clean ∙ mark in cc)
      ]

  -- it is a hop of the path, or one of another mux, which stays as it is and isn't over the path
  same_or_kept : (h g : Hop) → (u : ℕ) → IsAmongHops h (hops b u) → root_of b h.on ≡ r → IsAmongHops g (hops b s) → g.on ≡ h.on
      → opens_hop cs h ≡ true
      → (g ≡ h) ⊎ ((h.stays ≡ true) × (crosses_mux h.mux (hops b s) ≡ false))
  same_or_kept h g u a root_h in_path on opened =
      let kept : (v g.on).kept h.mux ≡ Some h.channel = kept_at h g u a root_h in_path on opened in
      elim (eqb_tells h.mux g.mux) [
        | inl same ↦ (let told : Some h.channel ≡ Some g.channel =
            sym kept ∙ ap (λ (i : ℕ). (v g.on).kept i) same.1 ∙ (reached g in_path).kept in
            inl (tree.channel s u g h in_path a (sym same.1) (let f : h.channel ≡ g.channel = cc in sym f)))
        | inr other ↦ inr (
          sym (tree.hop u h a).stays ∙ ((reached g in_path).others h.mux h.channel other.1 kept).1,
          not_among h.mux (hops b s) (λ x among e. other.1 (sym e
              ∙ ap (λ (y : Hop). y.mux) (one_on (hops b s) x g (tree.apart s) among in_path
              (sym (tree.hop s x among).home ∙ ap (λ (i : ℕ). home_of_mux b i) e ∙ (tree.hop u h a).home ∙ sym on)))),
        )
      ]

  joins : (hs : List Hop) (u : ℕ) → hops b u ≡ hs → root_of b u ≡ r → ((h : Hop) → IsAmongHops h hs → opens_hop cs h ≡ true)
      → Joins b s u hs
  joins [] u at root_u all =
      let is_root : root_of b u ≡ u = ap (λ (xs : List Hop). end_of u xs) at in
      inl (inr (subst (λ (i : ℕ). IsOver b i s) (rooted ∙ sym root_u ∙ is_root) (tree.root_over s)))
  joins (h ∷ hs) u at root_u all =
      let tail : hops b h.on ≡ hs = tree.tail u h hs at in
      let a : IsAmongHops h (hops b u) = subst (λ (xs : List Hop). IsAmongHops h xs) (sym at) (inl refl) in
      let root_h : root_of b h.on ≡ r = tree.root_same u h a ∙ root_u in
      elim (joins hs h.on tail root_h (λ g i. all g (inr i))) [
        | inr aside ↦ inr (kept_more b s h hs aside)
        | inl along ↦ elim along [
          | inl s_over ↦ inl (inl (over_more b s u h hs at tail s_over))
          | inr on_over ↦ elim on_over [
            | inl e ↦ inl (inl (over_more b s u h hs at tail (inl (sym e))))
            | inr c ↦ (let g = crossing_hop h.on (hops b s) c in
                elim (same_or_kept h g.0 u a root_h g.1 g.2 (all h (inl refl))) [
                  | inl same ↦ (let bus : g.0.bus ≡ u = ap (λ (x : Hop). x.bus) same ∙ (tree.leads u h hs at).0 in
                      inl (inr (elim (behind_on_path b tree (hops b s) s g.0 refl g.1) [
                        | inl e ↦ inl (sym bus ∙ e)
                        | inr c2 ↦ inr (subst (λ (i : ℕ). Crosses i (hops b s)) bus c2)
                      ])))
                  | inr kept ↦ inr (kept_here b s h hs kept.0 kept.1)
                ])
          ]
        ]
      ]

  -- what is joined lies along the message's bus, or is aside of it
  pub joined_may : (ds : List TargetState) (hs : List Node) (busy : Bool) (u : ℕ) → is_joined (world_of b r cs ds hs busy) u ≡ true
      → MayJoin b s u
  joined_may ds hs busy u e =
      let root_u : root_of b u ≡ r = eqb-true (root_of b u) r (and_first (eqb (root_of b u) r) (list_all (opens_hop cs) (hops b u)) e) in
      elim (joins (hops b u) u refl root_u
      (λ h a. all_among (opens_hop cs) (hops b u) h (and_last (eqb (root_of b u) r) (list_all (opens_hop cs) (hops b u)) e) a)) [
        | inl along ↦ inl along
        | inr kept ↦ inr (ap (λ (t : Bool). t && list_any (is_kept_hop b s) (hops b u))
            (eq-eqb (root_of b u) (root_of b s) (root_u ∙ sym rooted)) ∙ kept)
      ]

-- A CONTROL MESSAGE: the chip alone has its address among what may be joined on its bus
kept_hop : (b : BoardView) (s : ℕ) (hs : List Hop) → list_any (is_kept_hop b s) hs ≡ true
    → (g : Hop) × IsAmongHops g hs × (g.stays ≡ true) × (crosses_mux g.mux (hops b s) ≡ false)
kept_hop b s [] e = absurd (let f : false ≡ true = e in cc)
kept_hop b s (h ∷ hs) e = by (is_kept_hop b s h) refl (kept_hop b s hs)
  where
    not_false : (t : Bool) → not t ≡ true → t ≡ false
    not_false true f = (let g : false ≡ true = f in cc)
    not_false false f = refl

    by : (t : Bool) → is_kept_hop b s h ≡ t
        → (list_any (is_kept_hop b s) hs ≡ true → (g : Hop) × IsAmongHops g hs × (g.stays ≡ true) × (crosses_mux g.mux (hops b s) ≡ false))
        → (g : Hop) × IsAmongHops g (h ∷ hs) × (g.stays ≡ true) × (crosses_mux g.mux (hops b s) ≡ false)
    by true f rest = (
      h,
      inl refl,
      and_first h.stays (not (crosses_mux h.mux (hops b s))) f,
      not_false (crosses_mux h.mux (hops b s)) (and_last h.stays (not (crosses_mux h.mux (hops b s))) f),
    )
    by false f rest = (let r = rest (sym (ap (λ (t : Bool). t || list_any (is_kept_hop b s) hs) f) ∙ e) in (r.0, inr r.1, r.2, r.3))

among_is : (g : Hop) (hs : List Hop) → IsAmongHops g hs → crosses_mux g.mux hs ≡ true
among_is g [] a = absurd a
among_is g (h ∷ hs) a =
    elim a [
      | inl e ↦ ap (λ (t : Bool). t || crosses_mux g.mux hs) (eq-eqb h.mux g.mux (ap (λ (x : Hop). x.mux) (sym e)))
      | inr more ↦ ap (λ (t : Bool). eqb h.mux g.mux || t) (among_is g hs more) ∙ or-true (eqb h.mux g.mux)
    ]

-- the hops over a bus of a path are hops of that path
crosses_up : (b : BoardView) → IsTree b → (m : ℕ) (hs : List Hop) (s t : ℕ) → hops b s ≡ hs → Crosses t hs → crosses_mux m (hops b t) ≡ true
    → crosses_mux m hs ≡ true
crosses_up b tree m [] s t at c e = absurd c
crosses_up b tree m (h ∷ hs) s t at c e =
    let tail : hops b h.on ≡ hs = tree.tail s h hs at in
    elim c [
      | inl here ↦ ap (λ (u : Bool). eqb h.mux m || u) (ap (λ (xs : List Hop). crosses_mux m xs) (sym tail ∙ ap (λ (i : ℕ). hops b i) here)
          ∙ e) ∙ or-true (eqb h.mux m)
      | inr more ↦ ap (λ (u : Bool). eqb h.mux m || u) (crosses_up b tree m hs h.on t tail more e) ∙ or-true (eqb h.mux m)
    ]

off_path : (b : BoardView) → IsTree b → (m s t : ℕ) → IsOver b t s → crosses_mux m (hops b s) ≡ false → crosses_mux m (hops b t) ≡ false
off_path b tree m s t over off = by (crosses_mux m (hops b t)) refl
  where
    by : (u : Bool) → crosses_mux m (hops b t) ≡ u → u ≡ false
    by true e =
        elim over [
          | inl here ↦ sym e ∙ ap (λ (i : ℕ). crosses_mux m (hops b i)) here ∙ off
          | inr c ↦ sym (crosses_up b tree m (hops b s) s t refl c e) ∙ off
        ]
    by false e = refl

pub root_over : (b : BoardView) → IsTree b → (s t : ℕ) → IsOver b t s → root_of b t ≡ root_of b s
root_over b tree s t over =
    elim over [
      | inl here ↦ ap (λ (i : ℕ). root_of b i) here
      | inr c ↦ (let g = crossing_hop t (hops b s) c in ap (λ (i : ℕ). root_of b i) (sym g.2) ∙ tree.root_same s g.0 g.1)
    ]

-- what is aside of a bus has the address of nothing on that bus's path
pub aside_apart : (b : BoardView) → IsTree b → (s a : ℕ) (x y : Node) → addr_of b x ≡ Some a → addr_of b y ≡ Some a
    → is_aside b s (home_of b x) ≡ true → IsOver b (home_of b y) s → ⊥
aside_apart b tree s a x y of_x of_y aside over =
    let root : root_of b (home_of b x) ≡ root_of b s =
    eqb-true (root_of b (home_of b x)) (root_of b s)
    (and_first (eqb (root_of b (home_of b x)) (root_of b s)) (list_any (is_kept_hop b s) (hops b (home_of b x))) aside) in
    let g = kept_hop b s (hops b (home_of b x))
    (and_last (eqb (root_of b (home_of b x)) (root_of b s)) (list_any (is_kept_hop b s) (hops b (home_of b x))) aside) in
    tree.aside g.0.mux x y a ((tree.hop (home_of b x) g.0 g.1).stays ∙ g.2) of_x of_y (root ∙ sym (root_over b tree s (home_of b y) over))
    (among_is g.0 (hops b (home_of b x)) g.1) (off_path b tree g.0.mux s (home_of b y) over g.3)

pub control_alone : (b : BoardView) → IsTree b → (m a : ℕ) → addr_of_mux b m ≡ Some a → (x : Node) → addr_of b x ≡ Some a
    → MayJoin b (home_of_mux b m) (home_of b x) → x ≡ node.Chip m
control_alone b tree m a addr x named may =
    elim may [
      | inl along ↦ tree.addresses x (node.Chip m) a named addr (swap along)
      | inr aside ↦ absurd (aside_apart b tree (home_of_mux b m) a x (node.Chip m) named addr aside (inl refl))
    ]
  where
    swap : IsAlong b (home_of_mux b m) (home_of b x) → IsAlong b (home_of b x) (home_of_mux b m)
    swap along = elim along [ inl o ↦ inr o | inr o ↦ inl o ]

-- a start is heard only where the target is joined and has the address
pub start_heard : {X : Type 0} (t : Table X) (x : X) (j a reading : Bool) → has_heard (t.answer x event.Other) ≡ false
    → hears t (start_event j a reading) x ≡ true → (j ≡ true) × (a ≡ true)
start_heard t x true true reading other e = (refl, refl)
start_heard t x true false reading other e = absurd (let f : false ≡ true = sym other ∙ e in cc)
start_heard t x false a reading other e = absurd (let f : false ≡ true = e in cc)

pub other_state : (x : TargetState) → has_heard (state_answer x event.Other) ≡ false
other_state x = ap has_heard (states_fair.other x)

pub address_is : (a : ℕ) (o : Option ℕ) → has_address a o ≡ true → o ≡ Some a
address_is a None e = absurd (let f : false ≡ true = e in cc)
address_is a (Some x) e = ap Some (eqb-true x a e)
